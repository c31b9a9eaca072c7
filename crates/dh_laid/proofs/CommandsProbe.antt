-- Each access of a command is probed once at each path: by recursion on what was put down for it.
use Rattle.std.proofs.Common.{◌≡◌, ◌⊎◌, inl, inr, ◌<◌, ◌≤◌, ◌+◌, ◌^◌, ℕ, zero, suc, List, Some, None, ap, sym, ◌∙◌, subst, length, arith, append_assoc, refl}
use Rattle.std.specs.Prelude.{◌&&◌, ◌==◌, nat_le, nat_lt, Bool as Truth, true, false, if◌then◌else◌, [], ◌∷◌, ◌++◌, Option, slice_get}
use Rattle.std.proofs.lemmas.List.{append-nil}
use Rattle.dh_value.specs.declared.kinds.Kind.{Kind}
use Rattle.dh_value.specs.declared.kinds.Kind.TheVariants as kind
use Rattle.dh_value.specs.declared.operators.Op.{Op}
use Rattle.dh_value.specs.declared.operators.Op.TheVariants.{Both}
use Rattle.dh_value.specs.Operations.{truth}
use Rattle.dh_tree.specs.Indices.{form_of}
use Rattle.dh_tree.specs.PlainTrees as plain
use Rattle.dh_tree.specs.PlainTrees.{Term, Action, action, lets, lets_memory, views, assigns, stores, reduces, calls, blocks, decides, repeats, counts, MaybeAction, no_action, one_action, Actions, no_actions, action_then, Groups, no_groups, group_then, ViewPlan}
use Rattle.dh_tree.specs.declared.trees.expressions.Ref.{Ref}
use Rattle.dh_base.specs.declared.places.Place.{Place}
use Rattle.dh_tree.specs.Seen.{terms}
use Rattle.dh_tree.specs.ViewOffsets.{offsets_of}
use Rattle.dh_meaning.specs.AccessNumbers.{accesses_of, form_accesses, groups_accesses, other_accesses, part_accesses, plan_accesses, term_accesses, terms_accesses}
use Rattle.dh_meaning.specs.Bindings.{kind_or_first}
use Rattle.dh_meaning.specs.CoreOf.{entity_number, way_of}
use Rattle.dh_meaning.specs.Ways.{Hidden, hidden_in}
use Rattle.dh_code.specs.Extended.{extension_of}
use Rattle.dh_tree.specs.Kinds.{same_kind}
use Rattle.dh_code.specs.Slots.{held_at}
use Rattle.dh_plan.specs.declared.operations.Operation.{Operation}
use Rattle.dh_plan.specs.declared.operations.OperationForm.{OperationForm}
use Rattle.dh_plan.specs.declared.operations.OperationForm.TheVariants.{Compute, Constant, Convert, Probe, Select}
use Rattle.dh_plan.specs.declared.operations.Reach.{Reach}
use Rattle.dh_plan.specs.declared.operations.ReachStep.{ReachStep}
use Rattle.dh_plan.specs.DoneProgram.{counts_probe, probes_among, product_of}
use Rattle.dh_expressions.specs.declared.accesses.Accesses.{Accesses}
use Rattle.dh_expressions.specs.declared.accesses.Touched.{Touched}
use Rattle.dh_expressions.specs.declared.copies.AccessAt.{AccessAt}
use Rattle.dh_expressions.specs.declared.drafts.Draft.{Draft}
use Rattle.dh_expressions.specs.declared.elements.Aim.{Aim}
use Rattle.dh_expressions.specs.declared.scenes.Around.{Around}
use Rattle.dh_expressions.specs.declared.scenes.Lane.{Lane}
use Rattle.dh_expressions.specs.declared.scenes.Scene.{Scene}
use Rattle.dh_expressions.specs.Drafted.{Pushes}
use Rattle.dh_expressions.specs.Evaluated.{counter_of, known_in}
use Rattle.dh_expressions.specs.MadeTerms.{MadeRead, MadeTerm, MadeTerms, MadeWay, MadeWrite}
use Rattle.dh_expressions.specs.MadeValues.{MadeConverted, MadeHeld, MadeShown}
use Rattle.dh_expressions.specs.Named.{first_view}
use Rattle.dh_expressions.specs.Noted.{copied_in}
use Rattle.dh_expressions.specs.Reaching.{Finds, place_written}
use Rattle.dh_expressions.specs.Shown.{guard_of, is_kept, kind_written, register_at}
use Rattle.dh_expressions.specs.Standings.{copy_places, standing_at}
use Rattle.dh_expressions.specs.Touching.{AddsTouched, TouchesAt}
use Rattle.dh_formed.specs.Counted.{Counts, FormIs, nothing, one_each, ranged}
use Rattle.dh_formed.proofs.PartsCounted.{ranged_none, ranged_one, ranged_sum}
use Rattle.dh_formed.proofs.TermsFormed.{all_numbered, numbered}
use Rattle.dh_formed.proofs.ValuesCounted.{copies_counts, held_counts, number_counts, operation_counts, sees_any, shown_counts, variable_counts, way_counts}
use Rattle.dh_commands.specs.declared.buildings.Building.{Building}
use Rattle.dh_commands.specs.declared.assignments.Values.{Values}
use Rattle.dh_commands.specs.declared.choices.Choice.{Choice}
use Rattle.dh_commands.specs.declared.choices.Left.{Left}
use Rattle.dh_commands.specs.LanesRun.{lane_of, paths_counted}
use Rattle.dh_commands.specs.MadeCommands.{Commanding, FoldedWith, MadeActions, MadeAim, MadeArm, MadeArmGuard, MadeArmGuards, MadeAssigned, MadeBehind, MadeChoiceBy, MadeChoices, MadeCleared, MadeCommand, MadeGroups, MadeGuard, MadeHolds, MadeKept, MadeLanes, MadeOldOperand, MadeOperand, MadeOther, MadeOutcome, MadeReduced, MadeStored, MadeStoring, MadeTests, MadeView}
use Rattle.dh_laid.specs.LaidCommands.{AreFewIn}
use Rattle.dh_laid.specs.LaidNumbers.{AreStraight, AreStraightGroups, IsAccessForm, IsStraightAction, IsStraightOther}
use Rattle.dh_laid.specs.LaidProbes.{AddsProbes, CommandsProbe, GroupsProbe}
use Rattle.dh_laid.specs.LaidQuiet.{BlockStandsIn}
use Rattle.dh_laid.proofs.CommandsNumbered.{actions_numbered, command_numbered, some_arm, tests_number}
use Rattle.dh_laid.proofs.ValuesLogged.{arm_long, stands_arm, tests_same}

pub append_probes : (access : ℕ) (xs ys : List Operation) → probes_among access (xs ++ ys) ≡ probes_among access xs + probes_among access ys
append_probes access [] ys = omega arith
append_probes access (o ∷ xs) ys = sum (counts_probe access o.form) (probes_among access (xs ++ ys)) (probes_among access xs) (probes_among access ys) (append_probes access xs ys)
  where
    sum : (c whole a b : ℕ) → whole ≡ a + b → c + whole ≡ c + a + b
    sum c whole a b e = omega (arith, e)

-- no access was probed
abbrev AddsNone : (old new : Draft) → Type 0
AddsNone old new = AddsProbes old new nothing

none_same : (old new : Draft) → new.operations.items ≡ old.operations.items → AddsNone old new
none_same old new same = record { more = []; adds = same ∙ sym (append-nil old.operations.items); probes_are = λ access. refl }

pub none_none : (old new : Draft) → new ≡ old → AddsNone old new
none_none old new same = none_same old new (ap (λ (d : Draft). d.operations.items) same)

-- one behind the other, where this is their sum
pub probes_again : (a b c : Draft) (f g h : ℕ → ℕ) → ((access : ℕ) → f access + g access ≡ h access) → AddsProbes a b f → AddsProbes b c g → AddsProbes a c h
probes_again a b c f g h sum one two = record {
  more = one.more ++ two.more;
  adds = two.adds ∙ (ap (λ (os : List Operation). os ++ two.more) one.adds ∙ append_assoc a.operations.items one.more two.more);
  probes_are = λ access. let e = append_probes access one.more two.more in let l = one.probes_are access in let r = two.probes_are access in let w = sum access in omega (arith, e, l, r, w);
}

no_sum : (access : ℕ) → nothing access + nothing access ≡ nothing access
no_sum access = omega arith

none_again : (a b c : Draft) → AddsNone a b → AddsNone b c → AddsNone a c
none_again a b c h k = probes_again a b c nothing nothing nothing no_sum h k

plus_nothing : (f : ℕ → ℕ) (access : ℕ) → f access + nothing access ≡ f access
plus_nothing f access = omega arith

nothing_plus : (f : ℕ → ℕ) (access : ℕ) → nothing access + f access ≡ f access
nothing_plus f access = omega arith

-- nothing behind, and nothing before
pub probes_then_none : (a b c : Draft) (f : ℕ → ℕ) → AddsProbes a b f → AddsNone b c → AddsProbes a c f
probes_then_none a b c f h k = probes_again a b c f nothing f (plus_nothing f) h k

pub none_then_probes : (a b c : Draft) (f : ℕ → ℕ) → AddsNone a b → AddsProbes b c f → AddsProbes a c f
none_then_probes a b c f h k = probes_again a b c nothing f f (nothing_plus f) h k

none_pushed : (old new : Draft) (n : ℕ) (guard : Option ℕ) (form : OperationForm) → Pushes old new n guard form → ((access : ℕ) → counts_probe access form ≡ 0) → AddsNone old new
none_pushed old new n guard form p is = record { more = record { guard = guard; form = form } ∷ []; adds = p.operations; probes_are = λ access. let e = is access in omega (arith, e) }

probes_counted : (old new : Draft) (p : ℕ) (f u : ℕ → ℕ) → Counts old new (FormIs (λ register. Unit {0}) (λ r. Unit {0}) (λ r. Unit {0}) (λ r. Unit {0})) p f u → AddsProbes old new f
probes_counted old new p f u c = record { more = c.more; adds = c.adds; probes_are = c.probes_are }

-- the accesses from n on, so many, each once
abbrev once : (n count : ℕ) → ℕ → ℕ
once n count = ranged n count one_each

no_accesses : (old new : Draft) (n : ℕ) → AddsNone old new → AddsProbes old new (once n 0)
no_accesses old new n h = record { more = h.more; adds = h.adds; probes_are = λ access. h.probes_are access ∙ ranged_none n one_each access }

once_then : (a b c : Draft) (n own p q : ℕ) → own ≡ n + p → AddsProbes a b (once n p) → AddsProbes b c (once own q) → AddsProbes a c (once n (p + q))
once_then a b c n own p q is h k =
    probes_again a b c (once n p) (once (n + p) q) (once n (p + q)) (λ access. ranged_sum n p q one_each access) h (subst (λ (i : ℕ). AddsProbes b c (once i q)) is k)

once_count : (a b : Draft) (n p q : ℕ) → p ≡ q → AddsProbes a b (once n p) → AddsProbes a b (once n q)
once_count a b n p q same h = subst (λ (i : ℕ). AddsProbes a b (once n i)) same h

once_behind : (a b c : Draft) (n own p : ℕ) → own ≡ n + p → AddsProbes a b (once n p) → AddsProbes b c (once own 1) → AddsProbes a c (once n (suc p))
once_behind a b c n own p is h k = once_count a c n (p + 1) (suc p) (omega arith) (once_then a b c n own p 1 is h k)

probe_pushed : (old new : Draft) (n own fault : ℕ) (guard : Option ℕ) (r : Reach) → r.access ≡ own → Pushes old new n guard (Probe r fault) → AddsProbes old new (once own 1)
probe_pushed old new n own fault guard r is p = record {
  more = record { guard = guard; form = Probe r fault } ∷ [];
  adds = p.operations;
  probes_are = λ access. one (if r.access == access then 1 else 0) ∙ (ap (λ (i : ℕ). if i == access then 1 else 0) is ∙ ranged_one own one_each access);
}
  where
    one : (n : ℕ) → n + 0 ≡ n
    one n = omega arith

abbrev any_register : ℕ → Type 0
any_register register = Unit {0}

abbrev any_reach : Reach → Type 0
any_reach r = Unit {0}

-- Values.

converted_probed : (kept : Truth) (to : Kind) (value : ℕ) (old new : Draft) (v : ℕ) → MadeConverted kept to value old new v → AddsNone old new
converted_probed true to value old new v m = none_none old new m.0
converted_probed false to value old new v m = none_pushed old new v None (Convert value to) m (λ access. refl)

held_probed : (t : Term) (to : Kind) (value : ℕ) (old new : Draft) (v : ℕ) → MadeHeld t to value old new v → AddsNone old new
held_probed t to value old new v m = probes_counted old new 0 _ _ (held_counts any_register any_reach any_reach any_reach t to value old new v m)

shown_probed : (current : List (Option ℕ)) (register : ℕ) (old new : Draft) (v : ℕ) → MadeShown current register old new v → AddsNone old new
shown_probed current register old new v m = probes_counted old new 0 _ _ (shown_counts any_register any_reach any_reach any_reach current register tt old new v m)

-- Accesses.

module _ (scene : Scene) (lane : Lane) (stands : BlockStandsIn scene lane.around) where
  touch_probed : (access : Term) (memory : ℕ) (writes : Truth) (old new : Draft) (before after : Accesses) (number : ℕ)
      → TouchesAt scene lane.around (standing_at scene lane.around memory (place_written access) (form_of access) writes) old new before after number → AddsNone old new
  touch_probed access memory writes old new before after number t = by t.adds
    where
      leads : (p : ℕ) → (standing_at scene lane.around memory (place_written access) (form_of access) writes).leader p ≤ p
      leads p = omega arith

      by : (new ≡ old) ⊎ ((u : Touched) × AddsTouched old new scene lane.around (standing_at scene lane.around memory (place_written access) (form_of access) writes) u) → AddsNone old new
      by (inl same) = none_none old new same
      by (inr (u, a)) =
          none_again old a.middle new (none_same old a.middle a.names.operations)
          (probes_counted a.middle new 0 _ _
          (copies_counts any_register any_reach any_reach any_reach (standing_at scene lane.around memory (place_written access) (form_of access) writes).leader
          (standing_at scene lane.around memory (place_written access) (form_of access) writes).bank (copy_places (standing_at scene lane.around memory (place_written access) (form_of access) writes)) lane.around.guards.now leads (length lane.around.guards.now) a.middle new u.copies
          (a.copies stands.scopes stands.low)))

  finds_probed : (form : plain.TermForm) (old new : Draft) (memory : ℕ) (aim : Aim) (copy : AccessAt) (found : Option ℕ) (v : ℕ) → Finds scene form old new memory aim copy found v → AddsNone old new
  finds_probed form old new memory aim copy None v m = none_pushed old new v copy.guard _ m (λ access. refl)
  finds_probed form old new memory aim copy (Some n) v m = none_none old new m.0

  read_probed : (access : Term) (memory : ℕ) (aim : Aim) (old new : Draft) (before after : Accesses) (v : ℕ) → MadeRead scene lane access memory aim old new before after v → AddsProbes old new (once aim.number 1)
  read_probed access memory aim old new before after v r =
      none_then_probes old r.first new (once aim.number 1) (touch_probed access memory false old r.first before r.middle aim.number r.touches)
      (probes_then_none r.first r.second new (once aim.number 1) (probe_pushed r.first r.second _ aim.number _ _ _ refl r.probes)
      (finds_probed (form_of access) r.second new memory aim (copied_in r.middle aim.number lane.number) _ v r.finds))

  write_probed : (access : Term) (memory : ℕ) (aim : Aim) (value : ℕ) (old new : Draft) (before after : Accesses) → MadeWrite scene lane access memory aim value old new before after → AddsProbes old new (once aim.number 1)
  write_probed access memory aim value old new before after w =
      none_then_probes old w.first new (once aim.number 1) (touch_probed access memory true old w.first before after aim.number w.touches)
      (probes_then_none w.first w.second new (once aim.number 1) (probe_pushed w.first w.second _ aim.number _ _ _ refl w.probes) (none_pushed w.second new _ _ _ w.writes (λ access. refl)))

  module _ (current : List (Option ℕ)) where
    -- what stands behind indices
    way_added : (r : Ref) (old new : Draft) (steps : List ReachStep) → MadeWay scene lane current old new (first_view scene r) (way_of (known_in scene) r) steps → AddsNone old new
    way_added r old new steps m =
        probes_counted old new 0 _ _
        (way_counts any_register any_reach any_reach any_reach scene lane current (way_of (known_in scene) r) (first_view scene r) (sees_any any_register any_reach any_reach any_reach (λ register. tt) scene lane (way_of (known_in scene) r)) old new steps m)

    mutual
      term_probed : (t : Term) (old new : Draft) (before after : Accesses) (n next v : ℕ) → MadeTerm scene lane current t old new before after n next v → AreFewIn n t → AddsProbes old new (once n (term_accesses t))
      term_probed (plain.term place k (plain.number negative z)) old new before after n next v m few =
          no_accesses old new n (probes_counted old new 0 _ _ (number_counts any_register any_reach any_reach any_reach (kind_or_first k) negative z old new v m.part))
      term_probed (plain.term place k (plain.truth_value b)) old new before after n next v m few = no_accesses old new n (none_pushed old new v None (Constant (truth b)) m.part (λ access. refl))
      term_probed (plain.term place k (plain.named r)) old new before after n next v m few =
          no_accesses old new n
          (probes_counted old new 0 _ _
          (variable_counts any_register any_reach any_reach any_reach (counter_of scene (entity_number r.entity)) (held_at scene.held.now (entity_number r.entity)) lane current (kind_or_first k) tt old new v m.part))
      term_probed (plain.term place k (plain.accessed r ts)) old new before after n next v m few =
          let less : n + terms_accesses ts < 2 ^ 32 = omega (arith, few) in
          once_behind old m.middle new n m.aim.number (terms_accesses ts) (all_numbered scene lane current ts old m.named before m.between n m.aim.number m.aim.indices m.indices less)
          (probes_then_none old m.named m.middle (once n (terms_accesses ts)) (terms_probed ts old m.named before m.between n m.aim.number m.aim.indices m.indices less) (way_added r m.named m.middle m.aim.steps m.steps)) (read_probed _ _ m.aim m.middle new m.between after v m.reads)
      term_probed (plain.term place k (plain.in_bank r bank at row)) old new before after n next v m few =
          let less : n + term_accesses row < 2 ^ 32 = omega (arith, few) in
          once_behind old m.middle new n m.aim.number (term_accesses row) (numbered scene lane current row old m.middle before m.between n m.aim.number m.value m.row less)
          (term_probed row old m.middle before m.between n m.aim.number m.value m.row less) (read_probed _ _ m.aim m.middle new m.between after v m.reads)
      term_probed (plain.term place k (plain.applied op left right)) old new before after n next v m few =
          let less : n + term_accesses left < 2 ^ 32 = omega (arith, few) in
          let own = numbered scene lane current left old m.middle before m.between n m.own m.a m.first less in
          once_then old m.middle new n m.own (term_accesses left) (term_accesses right) own (term_probed left old m.middle before m.between n m.own m.a m.first less)
          (probes_then_none m.middle m.end new (once m.own (term_accesses right)) (term_probed right m.middle m.end m.between after m.own next m.b m.second (omega (arith, few, own)))
          (probes_counted m.end new (product_of op) _ _ (operation_counts any_register any_reach any_reach any_reach op left right m.a m.b m.end new v m.operation)))
      term_probed (plain.term place k (plain.converted inner to)) old new before after n next v m few =
          probes_then_none old m.middle new (once n (term_accesses inner)) (term_probed inner old m.middle before after n next m.a m.operand few) (converted_probed (is_kept inner to) to m.a m.middle new v m.converts)

      terms_probed : (ts : plain.Terms) (old new : Draft) (before after : Accesses) (n next : ℕ) (vs : List ℕ) → MadeTerms scene lane current ts old new before after n next vs → n + terms_accesses ts < 2 ^ 32
          → AddsProbes old new (once n (terms_accesses ts))
      terms_probed plain.no_terms old new before after n next vs m few = no_accesses old new n (none_none old new m.still)
      terms_probed (plain.term_then t ts) old new before after n next vs m few =
          let less : n + term_accesses t < 2 ^ 32 = omega (arith, few) in
          let own = numbered scene lane current t old m.middle before m.between n m.own m.a m.first less in
          once_then old m.middle new n m.own (term_accesses t) (terms_accesses ts) own (term_probed t old m.middle before m.between n m.own m.a m.first less)
          (terms_probed ts m.middle new m.between after m.own next m.more m.rest (omega (arith, few, own)))

    stored_behind : (t : Term) (value : ℕ) (place : Place) (k : Option Kind) (form : plain.TermForm) (aimed : Option (Aim × ℕ)) (middle end : Draft) (between behind : Accesses) (new : Building) (own next : ℕ) → IsAccessForm form
        → MadeAim scene lane current form middle end between behind own aimed → MadeStoring scene lane (plain.term place k form) t value aimed end behind new next → own + form_accesses form < 2 ^ 32
        → AddsProbes middle new.draft (once own (form_accesses form))
    stored_behind t value place k (plain.accessed r ts) (Some (aim, memory)) middle end between behind new own next is a m few =
        let less : own + terms_accesses ts < 2 ^ 32 = omega (arith, few) in
        once_behind middle end new.draft own aim.number (terms_accesses ts) (all_numbered scene lane current ts middle a.0.middle between behind own aim.number aim.indices a.0.indices less)
        (probes_then_none middle a.0.middle end (once own (terms_accesses ts)) (terms_probed ts middle a.0.middle between behind own aim.number aim.indices a.0.indices less) (way_added r a.0.middle end aim.steps a.0.steps))
        (none_then_probes end m.0 new.draft (once aim.number 1) (held_probed t _ value end m.0 m.1.0 m.1.1.0) (write_probed _ memory aim m.1.0 m.0 new.draft behind new.accesses m.1.1.1.0))
    stored_behind t value place k (plain.accessed r ts) None middle end between behind new own next is a m few = absurd a
    stored_behind t value place k (plain.in_bank r bank at row) (Some (aim, memory)) middle end between behind new own next is a m few =
        let less : own + term_accesses row < 2 ^ 32 = omega (arith, few) in
        once_behind middle end new.draft own aim.number (term_accesses row) (numbered scene lane current row middle end between behind own aim.number a.0.value a.0.row less)
        (term_probed row middle end between behind own aim.number a.0.value a.0.row less)
        (none_then_probes end m.0 new.draft (once aim.number 1) (held_probed t _ value end m.0 m.1.0 m.1.1.0) (write_probed _ memory aim m.1.0 m.0 new.draft behind new.accesses m.1.1.1.0))
    stored_behind t value place k (plain.in_bank r bank at row) None middle end between behind new own next is a m few = absurd a
    stored_behind t value place k (plain.number negative z) aimed middle end between behind new own next is a m few = absurd is
    stored_behind t value place k (plain.truth_value b) aimed middle end between behind new own next is a m few = absurd is
    stored_behind t value place k (plain.named r) aimed middle end between behind new own next is a m few = absurd is
    stored_behind t value place k (plain.applied op l r) aimed middle end between behind new own next is a m few = absurd is
    stored_behind t value place k (plain.converted inner to) aimed middle end between behind new own next is a m few = absurd is

-- One path.

old_operand_probed : (own to : Kind) (value : ℕ) (old new : Draft) (v : ℕ) → MadeOldOperand own to value old new v → AddsNone old new
old_operand_probed own kind.Bool value old new v m = none_none old new m.0
old_operand_probed own (kind.Unsigned w) value old new v m = converted_probed (same_kind own (kind.Unsigned w)) (kind.Unsigned w) value old new v m
old_operand_probed own (kind.Signed w) value old new v m = converted_probed (same_kind own (kind.Signed w)) (kind.Signed w) value old new v m

operand_probed : (t : Term) (to : Kind) (value : ℕ) (old new : Draft) (v : ℕ) → MadeOperand t to value old new v → AddsNone old new
operand_probed t kind.Bool value old new v m = none_none old new m.0
operand_probed t (kind.Unsigned w) value old new v m = held_probed t (kind.Unsigned w) value old new v m
operand_probed t (kind.Signed w) value old new v m = held_probed t (kind.Signed w) value old new v m

folded_probed : (lane : Lane) (current : List (Option ℕ)) (held : _) (op : Op) (t : Term) (value : ℕ) (old new : Draft) (v : ℕ) → FoldedWith lane current held op t value old new v → AddsNone old new
folded_probed lane current held op t value old new v m =
    none_again old m.first new (shown_probed current (register_at held lane) old m.first m.before m.shown)
    (none_again m.first m.second new (old_operand_probed held.kind (extension_of op held.kind (kind_written t)) m.before m.first m.second m.left m.left_made)
    (none_again m.second m.third new (operand_probed t (extension_of op held.kind (kind_written t)) value m.second m.third m.right m.right_made)
    (none_again m.third m.fourth new (none_pushed m.third m.fourth m.all None (Compute op m.left m.right) m.pushes (λ access. refl))
    (converted_probed (same_kind held.kind (extension_of op held.kind (kind_written t))) held.kind m.all m.fourth new v m.own))))

-- offsets as the variables hold them that keep them
holds_probed : (scene : Scene) (first : ℕ) (offsets : List Term) (values : List ℕ) (old new : Draft) (held : List ℕ) → MadeHolds scene first offsets values old new held → AddsNone old new
holds_probed scene first [] values old new held m = none_none old new m.0
holds_probed scene first (t ∷ ts) [] old new held m = none_none old new m.0
holds_probed scene first (t ∷ ts) (v ∷ vs) old new held (d, (h, (more, (one, (rest, is))))) =
    none_again old d new (held_probed t (held_at scene.held.now first).kind v old d h one) (holds_probed scene (suc first) ts vs d new more rest)

module _ (scene : Scene) (lane : Lane) (stands : BlockStandsIn scene lane.around) where
  pub assigned_probed : (first entity : ℕ) (t : Term) (old new : Building) (next : ℕ) → AreFewIn first t → MadeAssigned scene lane first entity t old new next → AddsProbes old.draft new.draft (once first (term_accesses t))
  assigned_probed first entity t old new next few m =
      probes_then_none old.draft m.middle new.draft (once first (term_accesses t))
      (term_probed scene lane stands old.values.current.items t old.draft m.middle old.accesses new.accesses first next m.value m.term few)
      (held_probed t (held_at scene.held.now entity).kind m.value m.middle new.draft m.held m.holds)

  pub kept_probed : (first entity : ℕ) (offsets : List Term) (old new : Building) (next : ℕ) → first + terms_accesses (terms offsets) < 2 ^ 32 → MadeKept scene lane first entity offsets old new next
      → AddsProbes old.draft new.draft (once first (terms_accesses (terms offsets)))
  kept_probed first entity offsets old new next few m =
      probes_then_none old.draft m.middle new.draft (once first (terms_accesses (terms offsets)))
      (terms_probed scene lane stands old.values.current.items (terms offsets) old.draft m.middle old.accesses new.accesses first next m.values m.offsets_made few)
      (holds_probed scene entity offsets m.values m.middle new.draft m.held m.holds)

  pub cleared_probed : (first entity : ℕ) (old new : Building) → MadeCleared scene lane entity old new → AddsProbes old.draft new.draft (once first 0)
  cleared_probed first entity old new m =
      no_accesses old.draft new.draft first (probes_counted old.draft new.draft 0 _ _ (number_counts any_register any_reach any_reach any_reach (held_at scene.held.now entity).kind false 0 old.draft new.draft m.value m.number))

  pub reduced_probed : (first entity : ℕ) (op : Op) (t : Term) (old new : Building) (next : ℕ) → AreFewIn first t → MadeReduced scene lane first entity op t old new next → AddsProbes old.draft new.draft (once first (term_accesses t))
  reduced_probed first entity op t old new next few m =
      probes_then_none old.draft m.middle new.draft (once first (term_accesses t))
      (term_probed scene lane stands old.values.current.items t old.draft m.middle old.accesses new.accesses first next m.value m.term few)
      (folded_probed lane old.values.current.items (held_at scene.held.now entity) op t m.value m.middle new.draft m.folded m.folds)

  pub stored_probed : (first : ℕ) (target t : Term) (old new : Building) (next : ℕ) → IsAccessForm (form_of target) → first + (term_accesses t + term_accesses target) < 2 ^ 32 → MadeStored scene lane first target t old new next
      → AddsProbes old.draft new.draft (once first (term_accesses t + term_accesses target))
  stored_probed first (plain.term place k form) t old new next is few m =
      let less : AreFewIn first t = omega (arith, few) in
      let own = numbered scene lane old.values.current.items t old.draft m.middle old.accesses m.between first m.own m.value m.term less in
      once_then old.draft m.middle new.draft first m.own (term_accesses t) (form_accesses form) own
      (term_probed scene lane stands old.values.current.items t old.draft m.middle old.accesses m.between first m.own m.value m.term less)
      (stored_behind scene lane stands old.values.current.items t m.value place k form m.aimed m.middle m.end m.between m.behind new m.own next is m.aims m.stores (omega (arith, few, own)))

-- All paths.

-- at so many paths
abbrev pub often : (n count paths : ℕ) → ℕ → ℕ
often n count paths = ranged n count (λ access. paths)

often_more : (n count k access : ℕ) → often n count k access + once n count access ≡ often n count (suc k) access
often_more n count k access = by (nat_le n access && nat_lt access (n + count))
  where
    by : (t : Truth) → (if t then k else 0) + (if t then 1 else 0) ≡ (if t then suc k else 0)
    by true = omega arith
    by false = omega arith

often_none : (n count access : ℕ) → 0 ≡ often n count 0 access
often_none n count access = by (nat_le n access && nat_lt access (n + count)) 0
  where
    by : (t : Truth) (z : ℕ) → z ≡ (if t then z else z)
    by true z = refl
    by false z = refl

none_often : (old new : Draft) (n count : ℕ) → AddsNone old new → AddsProbes old new (often n count 0)
none_often old new n count h = record { more = h.more; adds = h.adds; probes_are = λ access. h.probes_are access ∙ often_none n count access }

pub lanes_probed : (One : ℕ → (b d : Building) → ℕ → Type 0) (first count : ℕ) → ((n : ℕ) (b d : Building) (k : ℕ) → One n b d k → AddsProbes b.draft d.draft (once first count))
    → (paths : ℕ) (old new : Building) (next : ℕ) → MadeLanes One paths first old new next → AddsProbes old.draft new.draft (often first count paths)
lanes_probed One first count each zero old new next m = none_often old.draft new.draft first count (none_none old.draft new.draft (ap (λ (b : Building). b.draft) m.0))
lanes_probed One first count each (suc n) old new next m =
    probes_again old.draft (m.0).draft new.draft (often first count n) (once first count) (often first count (suc n)) (λ access. often_more first count n access)
    (lanes_probed One first count each n old m.0 m.1.0 m.1.1.0) (each n m.0 new next m.1.1.1)

pub tests_probed : (scene : Scene) (around : Around) → BlockStandsIn scene around → (first : ℕ) (t : Term) → AreFewIn first t → (paths : ℕ) (old new : Building) (next : ℕ) (tests : List ℕ) → MadeTests scene around first t paths old new next tests
    → AddsProbes old.draft new.draft (often first (term_accesses t) paths)
tests_probed scene around stands first t few zero old new next tests m = none_often old.draft new.draft first (term_accesses t) (none_none old.draft new.draft (ap (λ (b : Building). b.draft) m.0))
tests_probed scene around stands first t few (suc n) old new next tests m =
    probes_again old.draft (m.0).draft new.draft (often first (term_accesses t) n) (once first (term_accesses t)) (often first (term_accesses t) (suc n)) (λ access. often_more first (term_accesses t) n access)
    (tests_probed scene around stands first t few n old m.0 m.1.0 m.1.1.0 m.1.1.1.1.0)
    (term_probed scene (lane_of around n) stands (m.0).values.current.items t (m.0).draft new.draft (m.0).accesses new.accesses first next m.1.1.1.0 (m.1.1.1.1.1.0).term few)

often_then : (a b c : Draft) (n own p q paths : ℕ) → own ≡ n + p → AddsProbes a b (often n p paths) → AddsProbes b c (often own q paths) → AddsProbes a c (often n (p + q) paths)
often_then a b c n own p q paths is h k =
    probes_again a b c (often n p paths) (often (n + p) q paths) (often n (p + q) paths) (λ access. ranged_sum n p q (λ i. paths) access) h (subst (λ (i : ℕ). AddsProbes b c (often i q paths)) is k)

often_count : (a b : Draft) (n p q paths : ℕ) → p ≡ q → AddsProbes a b (often n p paths) → AddsProbes a b (often n q paths)
often_count a b n p q paths same h = subst (λ (i : ℕ). AddsProbes a b (often n i paths)) same h

no_often : (a b : Draft) (n paths : ℕ) → AddsNone a b → AddsProbes a b (often n 0 paths)
no_often a b n paths h = record { more = h.more; adds = h.adds; probes_are = λ access. h.probes_are access ∙ ranged_none n (λ i. paths) access }

-- Arms.

outcome_probed : (holds : Truth) (test : ℕ) (old new : Draft) (v : ℕ) → MadeOutcome holds test old new v → AddsNone old new
outcome_probed true test old new v m = none_none old new m.0
outcome_probed false test old new v m =
    none_again old m.first new (none_pushed old m.first m.no_value None (Constant (truth false)) m.no_made (λ access. refl))
    (none_again m.first m.second new (none_pushed m.first m.second m.yes_value None (Constant (truth true)) m.yes_made (λ access. refl)) (none_pushed m.second new v None (Select test m.no_value m.yes_value) m.pushes (λ access. refl)))

guard_probed : (guard : Option ℕ) (t : ℕ) (old new : Draft) (v : ℕ) → MadeGuard guard t old new v → AddsNone old new
guard_probed None t old new v m = none_none old new m.0
guard_probed (Some g) t old new v m = none_pushed old new v None (Compute Both g t) m (λ access. refl)

pub guards_probed : (holds : Truth) (guards : List (Option ℕ)) (tests : List ℕ) (count : ℕ) (old new : Draft) (arm : List (Option ℕ)) → MadeArmGuards holds guards tests count old new arm → AddsNone old new
guards_probed holds guards tests zero old new arm m = none_none old new m.0
guards_probed holds guards tests (suc n) old new arm m = none_again old m.0 new (guards_probed holds guards tests n old m.0 m.1.0 m.1.1.1.1.0) (one m.0 m.1.1.0 m.1.1.1.0 m.1.1.1.1.1.1.0)
  where
    one : (d : Draft) (test v : ℕ) → MadeArmGuard holds (guard_of guards n) test d new v → AddsNone d new
    one d test v g = none_again d g.middle new (outcome_probed holds test d g.middle g.outcome g.comes_out) (guard_probed (guard_of guards n) g.outcome g.middle new v g.joins)

behind_probed : (current : List (Option ℕ)) (register : ℕ) (o : Option ℕ) (old new : Draft) (v : ℕ) → MadeBehind current register o old new v → AddsNone old new
behind_probed current register None old new v m = shown_probed current register old new v m
behind_probed current register (Some value) old new v m = none_none old new m.0

choice_probed : (o : Option ℕ) (c : Choice) (old new : Draft) (before after : Values) → MadeChoiceBy o c old new before after → AddsNone old new
choice_probed None c old new before after m = none_none old new m.0
choice_probed (Some test) c old new before after m =
    none_again old m.first new (behind_probed before.current.items c.register c.chosen old m.first m.yes_value m.chosen)
    (none_again m.first m.second new (behind_probed before.current.items c.register c.other m.first m.second m.no_value m.other) (none_pushed m.second new m.value None (Select test m.yes_value m.no_value) m.pushes (λ access. refl)))

pub choices_probed : (tests : List ℕ) (choices : List Choice) (count : ℕ) (old new : Draft) (before after : Values) → MadeChoices tests choices count old new before after → AddsNone old new
choices_probed tests choices zero old new before after m = none_none old new m.0
choices_probed tests choices (suc n) old new before after m =
    none_again old m.0 new (choices_probed tests choices n old m.0 before m.1.0 m.1.1.1.0) (choice_probed (slice_get tests (m.1.1.0).path) m.1.1.0 m.0 new m.1.0 after m.1.1.1.1.1)

arm_probed : (Inner : Commanding) (around : Around) (holds : Truth) (tests : List ℕ) (old new : Building) (first next : ℕ) (lefts : List Left) (m : MadeArm Inner around holds tests old new first next lefts) (count : ℕ) → length tests ≡ paths_counted around
    → AddsProbes m.begin.draft m.inside.draft (often first count (paths_counted m.arm)) → AddsProbes old.draft new.draft (often first count (paths_counted around))
arm_probed Inner around holds tests old new first next lefts m count many inner =
    subst (λ (d : Draft). AddsProbes old.draft d (often first count (paths_counted around))) (sym m.draft)
    (subst (λ (n : ℕ). AddsProbes old.draft m.inside.draft (often first count n)) (arm_long holds around.guards.now tests (length tests) old.draft m.guarded m.arm.guards.now m.guards ∙ many)
    (none_then_probes old.draft m.guarded m.inside.draft (often first count (paths_counted m.arm)) (guards_probed holds around.guards.now tests (length tests) old.draft m.guarded m.arm.guards.now m.guards)
    (subst (λ (d : Draft). AddsProbes d m.inside.draft (often first count (paths_counted m.arm))) m.begin_draft inner)))

-- All commands.

still_probed : (old new : Building) (n paths : ℕ) → new ≡ old → AddsProbes old.draft new.draft (often n 0 paths)
still_probed old new n paths still = no_often old.draft new.draft n paths (none_none old.draft new.draft (ap (λ (b : Building). b.draft) still))

own_probed : (old new : Draft) (n c paths : ℕ) → AddsProbes old new (often n c paths) → AddsProbes old new (often n (c + 0) paths)
own_probed old new n c paths h = often_count old new n c (c + 0) paths (omega arith) h

inner_probed : (old new : Draft) (n c paths : ℕ) → AddsProbes old new (often n c paths) → AddsProbes old new (often n (0 + c) paths)
inner_probed old new n c paths h = often_count old new n c (0 + c) paths (omega arith) h

module _ (scene : Scene) where
  view_probed : (hidden : List Hidden) (form : ViewPlan) (around : Around) (old new : Building) (first next : ℕ) → BlockStandsIn scene around → MadeView scene hidden form around old new first next → offsets_of form ≡ [] → first + plan_accesses form < 2 ^ 32
      → AddsProbes old.draft new.draft (often first (plan_accesses form + 0) (paths_counted around))
  view_probed [] form around old new first next s m is few =
      subst (λ (l : List Term). AddsProbes old.draft new.draft (often first (terms_accesses (terms l) + 0) (paths_counted around))) (sym is) (still_probed old new first (paths_counted around) m.still)
  view_probed (h ∷ hs) form around old new first next s m is few =
      own_probed old.draft new.draft first (plan_accesses form) (paths_counted around)
      (lanes_probed (λ n b d k. MadeKept scene (lane_of around n) first h.entity (offsets_of form) b d k) first (plan_accesses form)
      (λ n b d k one. kept_probed scene (lane_of around n) s first h.entity (offsets_of form) b d k few one) (paths_counted around) old new next m)

  mutual
    pub command_probed : (a : Action) (around : Around) (old new : Building) (first next : ℕ) → BlockStandsIn scene around → MadeCommand scene a around old new first next → IsStraightAction a → 0 < paths_counted around → first + accesses_of a < 2 ^ 32
        → AddsProbes old.draft new.draft (often first (accesses_of a) (paths_counted around))
    command_probed (action id place (lets name declared (Some value))) around old new first next s m is some few =
        own_probed old.draft new.draft first (term_accesses value) (paths_counted around)
        (lanes_probed (λ n b d k. MadeAssigned scene (lane_of around n) first (entity_number name.entity) value b d k) first (term_accesses value)
        (λ n b d k one. assigned_probed scene (lane_of around n) s first (entity_number name.entity) value b d k (omega (arith, few)) one) (paths_counted around) old new next m)
    command_probed (action id place (lets name declared None)) around old new first next s m is some few =
        own_probed old.draft new.draft first 0 (paths_counted around)
        (lanes_probed (λ n b d k. MadeCleared scene (lane_of around n) (entity_number name.entity) b d × (k ≡ first)) first 0
        (λ n b d k one. cleared_probed scene (lane_of around n) s first (entity_number name.entity) b d one.0) (paths_counted around) old new next m)
    command_probed (action id place (assigns target value)) around old new first next s m is some few =
        own_probed old.draft new.draft first (term_accesses value) (paths_counted around)
        (lanes_probed (λ n b d k. MadeAssigned scene (lane_of around n) first (entity_number target.entity) value b d k) first (term_accesses value)
        (λ n b d k one. assigned_probed scene (lane_of around n) s first (entity_number target.entity) value b d k (omega (arith, few)) one) (paths_counted around) old new next m)
    command_probed (action id place (stores target value)) around old new first next s m is some few =
        own_probed old.draft new.draft first (term_accesses value + term_accesses target) (paths_counted around)
        (lanes_probed (λ n b d k. MadeStored scene (lane_of around n) first target value b d k) first (term_accesses value + term_accesses target)
        (λ n b d k one. stored_probed scene (lane_of around n) s first target value b d k is (omega (arith, few)) one) (paths_counted around) old new next m)
    command_probed (action id place (reduces target op value)) around old new first next s m is some few =
        own_probed old.draft new.draft first (term_accesses value) (paths_counted around)
        (lanes_probed (λ n b d k. MadeReduced scene (lane_of around n) first (entity_number target.entity) op value b d k) first (term_accesses value)
        (λ n b d k one. reduced_probed scene (lane_of around n) s first (entity_number target.entity) op value b d k (omega (arith, few)) one) (paths_counted around) old new next m)
    command_probed (action id place (decides test chosen other)) around old new first next s m is some few =
        let less : AreFewIn first test = omega (arith, few) in
        let many : length m.tests ≡ paths_counted around = (tests_same scene around first test (paths_counted around) old m.tested m.own m.tests m.test).1 in
        let some_tests : 0 < length m.tests = subst (λ (n : ℕ). 0 < n) (sym many) some in
        let own = (tests_number scene around first test less (paths_counted around) old m.tested m.own m.tests some m.test).next_is in
        let some_in : 0 < paths_counted m.chosen.arm = some_arm (MadeCommand scene chosen) around true m.tests m.tested m.after_chosen m.own m.behind m.chosen_left m.chosen some_tests in
        let few_in : m.own + accesses_of chosen < 2 ^ 32 = omega (arith, few, own) in
        let behind = (command_numbered scene chosen m.chosen.arm m.chosen.begin m.chosen.inside m.own m.behind m.chosen.command is.0 some_in few_in).1.next_is in
        often_then old.draft m.tested.draft new.draft first m.own (term_accesses test) (accesses_of chosen + other_accesses other) (paths_counted around) own
        (tests_probed scene around s first test less (paths_counted around) old m.tested m.own m.tests m.test)
        (often_then m.tested.draft m.after_chosen.draft new.draft m.own m.behind (accesses_of chosen) (other_accesses other) (paths_counted around) behind
        (arm_probed (MadeCommand scene chosen) around true m.tests m.tested m.after_chosen m.own m.behind m.chosen_left m.chosen (accesses_of chosen) many
        (command_probed chosen m.chosen.arm m.chosen.begin m.chosen.inside m.own m.behind
        (stands_arm scene (MadeCommand scene chosen) around true m.tests m.tested m.after_chosen m.own m.behind m.chosen_left m.chosen s many) m.chosen.command is.0 some_in few_in))
        (probes_then_none m.after_chosen.draft m.after_other.draft new.draft (often m.behind (other_accesses other) (paths_counted around))
        (other_probed other around m.tests m.after_chosen m.after_other m.behind next m.other_left s many m.other is.1 some_tests (omega (arith, few, own, behind)))
        (choices_probed m.tests m.joined.choices (length m.joined.choices) m.after_other.draft new.draft m.joined.middle new.values m.joined.choose)))
    command_probed (action id place (blocks body)) around old new first next s m is some few =
        inner_probed old.draft new.draft first (groups_accesses body) (paths_counted around) (groups_probed body around old new first next s m is some (omega (arith, few)))
    command_probed (action id place (lets_memory name shape shape_places value)) around old new first next s m is some few = still_probed old new first (paths_counted around) m.still
    command_probed (action id place (views name parent form)) around old new first next s m is some few =
        view_probed (hidden_in (way_of (known_in scene) name)) form around old new first next s m is (omega (arith, few))
    command_probed (action id place (calls function arguments)) around old new first next s m is some few = still_probed old new first (paths_counted around) m.still
    command_probed (action id place (repeats test body)) around old new first next s m is some few = absurd is
    command_probed (action id place (counts iterator declared low high factor body combine combine_place)) around old new first next s m is some few = absurd is

    other_probed : (other : MaybeAction) (around : Around) (tests : List ℕ) (old new : Building) (first next : ℕ) (lefts : List Left) → BlockStandsIn scene around → length tests ≡ paths_counted around
        → MadeOther scene other around tests old new first next lefts → IsStraightOther other → 0 < length tests → first + other_accesses other < 2 ^ 32
        → AddsProbes old.draft new.draft (often first (other_accesses other) (paths_counted around))
    other_probed no_action around tests old new first next lefts s many m is some few = still_probed old new first (paths_counted around) m.still
    other_probed (one_action a) around tests old new first next lefts s many m is some few =
        arm_probed (MadeCommand scene a) around false tests old new first next lefts m (accesses_of a) many
        (command_probed a m.arm m.begin m.inside first next (stands_arm scene (MadeCommand scene a) around false tests old new first next lefts m s many) m.command is
        (some_arm (MadeCommand scene a) around false tests old new first next lefts m some) few)

    actions_probed : (part : Actions) (around : Around) (old new : Building) (first next : ℕ) → BlockStandsIn scene around → MadeActions scene part around old new first next → AreStraight part → 0 < paths_counted around
        → first + part_accesses part < 2 ^ 32 → AddsProbes old.draft new.draft (often first (part_accesses part) (paths_counted around))
    actions_probed no_actions around old new first next s m is some few = still_probed old new first (paths_counted around) m.still
    actions_probed (action_then a rest) around old new first next s m is some few =
        let less : first + accesses_of a < 2 ^ 32 = omega (arith, few) in
        let own = (command_numbered scene a around old m.middle first m.own m.one is.0 some less).1.next_is in
        often_then old.draft m.middle.draft new.draft first m.own (accesses_of a) (part_accesses rest) (paths_counted around) own (command_probed a around old m.middle first m.own s m.one is.0 some less)
        (actions_probed rest around m.middle new m.own next s m.rest is.1 some (omega (arith, few, own)))

    groups_probed : (body : Groups) (around : Around) (old new : Building) (first next : ℕ) → BlockStandsIn scene around → MadeGroups scene body around old new first next → AreStraightGroups body → 0 < paths_counted around
        → first + groups_accesses body < 2 ^ 32 → AddsProbes old.draft new.draft (often first (groups_accesses body) (paths_counted around))
    groups_probed no_groups around old new first next s m is some few = still_probed old new first (paths_counted around) m.still
    groups_probed (group_then part rest) around old new first next s m is some few =
        let less : first + part_accesses part < 2 ^ 32 = omega (arith, few) in
        let own = (actions_numbered scene part around old m.middle first m.own m.one is.0 some less).1.next_is in
        often_then old.draft m.middle.draft new.draft first m.own (part_accesses part) (groups_accesses rest) (paths_counted around) own (actions_probed part around old m.middle first m.own s m.one is.0 some less)
        (groups_probed rest around m.middle new m.own next s m.rest is.1 some (omega (arith, few, own)))

pub commands_probe : CommandsProbe
commands_probe scene a around old new first next s m is some few = command_probed scene a around old new first next s m is some few

pub groups_probe : GroupsProbe
groups_probe scene body around old new first next s m is some few = groups_probed scene body around old new first next s m is some few
