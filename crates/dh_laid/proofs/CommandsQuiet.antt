-- What is put down for expressions and commands checks nothing and sets no register, by recursion on both.
use Rattle.std.proofs.Common.{◌≡◌, ◌⊎◌, inl, inr, ◌≤◌, ℕ, zero, suc, List, Some, None, ap, sym, ◌∙◌, subst, length, arith, append_assoc, refl}
use Rattle.std.specs.Prelude.{Bool as Truth, true, false, [], ◌∷◌, ◌++◌, Option, slice_get}
use Rattle.std.proofs.lemmas.List.{append-nil}
use Rattle.dh_value.specs.declared.kinds.Kind.{Kind}
use Rattle.dh_value.specs.declared.kinds.Kind.TheVariants as kind
use Rattle.dh_value.specs.declared.operators.Op.{Op}
use Rattle.dh_value.specs.declared.operators.Op.TheVariants.{Both}
use Rattle.dh_value.specs.Operations.{truth}
use Rattle.dh_tree.specs.Indices.{form_of}
use Rattle.dh_tree.specs.PlainTrees as plain
use Rattle.dh_tree.specs.PlainTrees.{Term, Action, action, ActionForm, lets, lets_memory, views, assigns, stores, reduces, calls, blocks, decides, repeats, counts, MaybeAction, no_action, one_action, Actions, no_actions, action_then, Groups, no_groups, group_then, ViewPlan}
use Rattle.dh_tree.specs.declared.trees.expressions.Ref.{Ref}
use Rattle.dh_tree.specs.Seen.{terms}
use Rattle.dh_tree.specs.ViewOffsets.{offsets_of}
use Rattle.dh_meaning.specs.Bindings.{kind_or_first}
use Rattle.dh_meaning.specs.CoreOf.{entity_number, way_of}
use Rattle.dh_meaning.specs.Ways.{Hidden, hidden_in}
use Rattle.dh_code.specs.Extended.{extension_of}
use Rattle.dh_tree.specs.Kinds.{same_kind}
use Rattle.dh_code.specs.Slots.{held_at}
use Rattle.dh_plan.specs.declared.operations.Operation.{Operation}
use Rattle.dh_plan.specs.declared.operations.OperationForm.{OperationForm}
use Rattle.dh_plan.specs.declared.operations.OperationForm.TheVariants.{Check, Compute, Constant, Convert, Old, Probe, Read, Select, Set, Write}
use Rattle.dh_plan.specs.declared.operations.Reach.{Reach}
use Rattle.dh_plan.specs.declared.operations.ReachStep.{ReachStep}
use Rattle.dh_expressions.specs.declared.accesses.Accesses.{Accesses}
use Rattle.dh_expressions.specs.declared.accesses.Touched.{Touched}
use Rattle.dh_expressions.specs.declared.copies.AccessAt.{AccessAt}
use Rattle.dh_expressions.specs.declared.drafts.Draft.{Draft}
use Rattle.dh_expressions.specs.declared.elements.Aim.{Aim}
use Rattle.dh_expressions.specs.declared.scenes.Around.{Around}
use Rattle.dh_expressions.specs.declared.scenes.Lane.{Lane}
use Rattle.dh_expressions.specs.declared.scenes.Scene.{Scene}
use Rattle.dh_expressions.specs.Drafted.{Pushes}
use Rattle.dh_expressions.specs.Evaluated.{counter_of, known_in}
use Rattle.dh_expressions.specs.MadeTerms.{MadeRead, MadeTerm, MadeTerms, MadeWay, MadeWrite}
use Rattle.dh_expressions.specs.MadeValues.{MadeConverted, MadeHeld, MadeShown}
use Rattle.dh_expressions.specs.Named.{first_view}
use Rattle.dh_expressions.specs.Noted.{copied_in}
use Rattle.dh_expressions.specs.Reaching.{Finds, place_written}
use Rattle.dh_expressions.specs.Shown.{guard_of, is_kept, kind_written, register_at}
use Rattle.dh_expressions.specs.Standings.{copy_places, standing_at}
use Rattle.dh_expressions.specs.Touching.{AddsTouched, TouchesAt}
use Rattle.dh_formed.specs.Counted.{Counts, FormIs}
use Rattle.dh_formed.proofs.ElementsFormed.{all_append}
use Rattle.dh_formed.proofs.ValuesCounted.{copies_counts, held_counts, number_counts, operation_counts, sees_any, shown_counts, variable_counts, way_counts}
use Rattle.dh_commands.specs.declared.buildings.Building.{Building}
use Rattle.dh_commands.specs.declared.assignments.Values.{Values}
use Rattle.dh_commands.specs.declared.choices.Choice.{Choice}
use Rattle.dh_commands.specs.declared.choices.Left.{Left}
use Rattle.dh_commands.specs.LanesRun.{lane_of, paths_counted}
use Rattle.dh_commands.specs.MadeCommands.{Commanding, FoldedWith, MadeActionForm, MadeActions, MadeAim, MadeArm, MadeArmGuard, MadeArmGuards, MadeAssigned, MadeBehind, MadeChoiceBy, MadeChoices, MadeCleared, MadeCommand, MadeGroups, MadeGuard, MadeHolds, MadeKept, MadeLanes, MadeOldOperand, MadeOperand, MadeOther, MadeOutcome, MadeReduced, MadeStored, MadeStoring, MadeTests, MadeView}
use Rattle.dh_laid.specs.LaidQuiet.{AddsQuiet, CommandsAreQuiet, GroupsAreQuiet, IsQuiet, BlockStandsIn, TermsAreQuiet, QuietSetsNone}
use Rattle.dh_laid.proofs.ValuesLogged.{stands_arm, tests_same}

quiet_same : (old new : Draft) → new.operations.items ≡ old.operations.items → AddsQuiet old new
quiet_same old new same = record { more = []; adds = same ∙ sym (append-nil old.operations.items); each = tt }

quiet_none : (old new : Draft) → new ≡ old → AddsQuiet old new
quiet_none old new same = quiet_same old new (ap (λ (d : Draft). d.operations.items) same)

quiet_again : (a b c : Draft) → AddsQuiet a b → AddsQuiet b c → AddsQuiet a c
quiet_again a b c h k = record {
  more = h.more ++ k.more;
  adds = k.adds ∙ (ap (λ (os : List Operation). os ++ k.more) h.adds ∙ append_assoc a.operations.items h.more k.more);
  each = all_append (λ (o : Operation). IsQuiet o.form) h.more k.more h.each k.each;
}

quiet_pushed : (old new : Draft) (n : ℕ) (guard : Option ℕ) (form : OperationForm) → Pushes old new n guard form → IsQuiet form → AddsQuiet old new
quiet_pushed old new n guard form p is = record { more = record { guard = guard; form = form } ∷ []; adds = p.operations; each = (is, tt) }

quiet_counted : (old new : Draft) (p : ℕ) (f u : ℕ → ℕ) → Counts old new (FormIs (λ register. Unit {0}) (λ r. Unit {0}) (λ r. Unit {0}) (λ r. Unit {0})) p f u → AddsQuiet old new
quiet_counted old new p f u c = record { more = c.more; adds = c.adds; each = c.each }

abbrev any_register : ℕ → Type 0
any_register register = Unit {0}

abbrev any_reach : Reach → Type 0
any_reach r = Unit {0}

-- Values.

converted_quiet : (kept : Truth) (to : Kind) (value : ℕ) (old new : Draft) (v : ℕ) → MadeConverted kept to value old new v → AddsQuiet old new
converted_quiet true to value old new v m = quiet_none old new m.0
converted_quiet false to value old new v m = quiet_pushed old new v None (Convert value to) m tt

held_quiet : (t : Term) (to : Kind) (value : ℕ) (old new : Draft) (v : ℕ) → MadeHeld t to value old new v → AddsQuiet old new
held_quiet t to value old new v m = quiet_counted old new 0 _ _ (held_counts any_register any_reach any_reach any_reach t to value old new v m)

shown_quiet : (current : List (Option ℕ)) (register : ℕ) (old new : Draft) (v : ℕ) → MadeShown current register old new v → AddsQuiet old new
shown_quiet current register old new v m = quiet_counted old new 0 _ _ (shown_counts any_register any_reach any_reach any_reach current register tt old new v m)

-- Accesses.

module _ (scene : Scene) (lane : Lane) (stands : BlockStandsIn scene lane.around) where
  touch_quiet : (access : Term) (memory : ℕ) (writes : Truth) (old new : Draft) (before after : Accesses) (number : ℕ)
      → TouchesAt scene lane.around (standing_at scene lane.around memory (place_written access) (form_of access) writes) old new before after number → AddsQuiet old new
  touch_quiet access memory writes old new before after number t = by t.adds
    where
      leads : (p : ℕ) → (standing_at scene lane.around memory (place_written access) (form_of access) writes).leader p ≤ p
      leads p = omega arith

      by : (new ≡ old) ⊎ ((u : Touched) × AddsTouched old new scene lane.around (standing_at scene lane.around memory (place_written access) (form_of access) writes) u) → AddsQuiet old new
      by (inl same) = quiet_none old new same
      by (inr (u, a)) =
          quiet_again old a.middle new (quiet_same old a.middle a.names.operations)
          (quiet_counted a.middle new 0 _ _
          (copies_counts any_register any_reach any_reach any_reach (standing_at scene lane.around memory (place_written access) (form_of access) writes).leader
          (standing_at scene lane.around memory (place_written access) (form_of access) writes).bank (copy_places (standing_at scene lane.around memory (place_written access) (form_of access) writes)) lane.around.guards.now leads (length lane.around.guards.now) a.middle new u.copies
          (a.copies stands.scopes stands.low)))

  finds_quiet : (form : plain.TermForm) (old new : Draft) (memory : ℕ) (aim : Aim) (copy : AccessAt) (found : Option ℕ) (v : ℕ) → Finds scene form old new memory aim copy found v → AddsQuiet old new
  finds_quiet form old new memory aim copy None v m = quiet_pushed old new v copy.guard _ m tt
  finds_quiet form old new memory aim copy (Some n) v m = quiet_none old new m.0

  read_quiet : (access : Term) (memory : ℕ) (aim : Aim) (old new : Draft) (before after : Accesses) (v : ℕ) → MadeRead scene lane access memory aim old new before after v → AddsQuiet old new
  read_quiet access memory aim old new before after v r =
      quiet_again old r.first new (touch_quiet access memory false old r.first before r.middle aim.number r.touches)
      (quiet_again r.first r.second new (quiet_pushed r.first r.second _ _ _ r.probes tt) (finds_quiet (form_of access) r.second new memory aim (copied_in r.middle aim.number lane.number) _ v r.finds))

  write_quiet : (access : Term) (memory : ℕ) (aim : Aim) (value : ℕ) (old new : Draft) (before after : Accesses) → MadeWrite scene lane access memory aim value old new before after → AddsQuiet old new
  write_quiet access memory aim value old new before after w =
      quiet_again old w.first new (touch_quiet access memory true old w.first before after aim.number w.touches)
      (quiet_again w.first w.second new (quiet_pushed w.first w.second _ _ _ w.probes tt) (quiet_pushed w.second new _ _ _ w.writes tt))

  module _ (current : List (Option ℕ)) where
    -- what stands behind indices
    way_added : (r : Ref) (old new : Draft) (steps : List ReachStep) → MadeWay scene lane current old new (first_view scene r) (way_of (known_in scene) r) steps → AddsQuiet old new
    way_added r old new steps m =
        quiet_counted old new 0 _ _
        (way_counts any_register any_reach any_reach any_reach scene lane current (way_of (known_in scene) r) (first_view scene r) (sees_any any_register any_reach any_reach any_reach (λ register. tt) scene lane (way_of (known_in scene) r)) old new steps m)

    mutual
      term_quiet : (t : Term) (old new : Draft) (before after : Accesses) (n next v : ℕ) → MadeTerm scene lane current t old new before after n next v → AddsQuiet old new
      term_quiet (plain.term place k (plain.number negative z)) old new before after n next v m =
          quiet_counted old new 0 _ _ (number_counts any_register any_reach any_reach any_reach (kind_or_first k) negative z old new v m.part)
      term_quiet (plain.term place k (plain.truth_value b)) old new before after n next v m = quiet_pushed old new v None (Constant (truth b)) m.part tt
      term_quiet (plain.term place k (plain.named r)) old new before after n next v m =
          quiet_counted old new 0 _ _
          (variable_counts any_register any_reach any_reach any_reach (counter_of scene (entity_number r.entity)) (held_at scene.held.now (entity_number r.entity)) lane current (kind_or_first k) tt old new v m.part)
      term_quiet (plain.term place k (plain.accessed r ts)) old new before after n next v m =
          quiet_again old m.middle new (quiet_again old m.named m.middle (terms_quiet ts old m.named before m.between n m.aim.number m.aim.indices m.indices) (way_added r m.named m.middle m.aim.steps m.steps))
          (read_quiet _ _ m.aim m.middle new m.between after v m.reads)
      term_quiet (plain.term place k (plain.in_bank r bank at row)) old new before after n next v m =
          quiet_again old m.middle new (term_quiet row old m.middle before m.between n m.aim.number m.value m.row) (read_quiet _ _ m.aim m.middle new m.between after v m.reads)
      term_quiet (plain.term place k (plain.applied op left right)) old new before after n next v m =
          quiet_again old m.middle new (term_quiet left old m.middle before m.between n m.own m.a m.first)
          (quiet_again m.middle m.end new (term_quiet right m.middle m.end m.between after m.own next m.b m.second)
          (quiet_counted m.end new _ _ _ (operation_counts any_register any_reach any_reach any_reach op left right m.a m.b m.end new v m.operation)))
      term_quiet (plain.term place k (plain.converted inner to)) old new before after n next v m =
          quiet_again old m.middle new (term_quiet inner old m.middle before after n next m.a m.operand)
          (converted_quiet (is_kept inner to) to m.a m.middle new v m.converts)

      terms_quiet : (ts : plain.Terms) (old new : Draft) (before after : Accesses) (n next : ℕ) (vs : List ℕ) → MadeTerms scene lane current ts old new before after n next vs → AddsQuiet old new
      terms_quiet plain.no_terms old new before after n next vs m = quiet_none old new m.still
      terms_quiet (plain.term_then t ts) old new before after n next vs m =
          quiet_again old m.middle new (term_quiet t old m.middle before m.between n m.own m.a m.first) (terms_quiet ts m.middle new m.between after m.own next m.more m.rest)

    aim_quiet : (form : plain.TermForm) (old new : Draft) (before after : Accesses) (n : ℕ) (aimed : Option (Aim × ℕ)) → MadeAim scene lane current form old new before after n aimed → AddsQuiet old new
    aim_quiet (plain.accessed r ts) old new before after n (Some (aim, memory)) m = quiet_again old m.0.middle new (terms_quiet ts old m.0.middle before after n aim.number aim.indices m.0.indices) (way_added r m.0.middle new aim.steps m.0.steps)
    aim_quiet (plain.accessed r ts) old new before after n None m = absurd m
    aim_quiet (plain.in_bank r bank at row) old new before after n (Some (aim, memory)) m = term_quiet row old new before after n aim.number m.0.value m.0.row
    aim_quiet (plain.in_bank r bank at row) old new before after n None m = absurd m
    aim_quiet (plain.number negative z) old new before after n None m = quiet_none old new m.0
    aim_quiet (plain.number negative z) old new before after n (Some aimed) m = absurd m
    aim_quiet (plain.truth_value b) old new before after n None m = quiet_none old new m.0
    aim_quiet (plain.truth_value b) old new before after n (Some aimed) m = absurd m
    aim_quiet (plain.named r) old new before after n None m = quiet_none old new m.0
    aim_quiet (plain.named r) old new before after n (Some aimed) m = absurd m
    aim_quiet (plain.applied op l r) old new before after n None m = quiet_none old new m.0
    aim_quiet (plain.applied op l r) old new before after n (Some aimed) m = absurd m
    aim_quiet (plain.converted inner to) old new before after n None m = quiet_none old new m.0
    aim_quiet (plain.converted inner to) old new before after n (Some aimed) m = absurd m

  storing_quiet : (target t : Term) (value : ℕ) (aimed : Option (Aim × ℕ)) (old : Draft) (before : Accesses) (new : Building) (next : ℕ) → MadeStoring scene lane target t value aimed old before new next → AddsQuiet old new.draft
  storing_quiet target t value None old before new next m = quiet_none old new.draft m.0
  storing_quiet target t value (Some (aim, memory)) old before new next m =
      quiet_again old m.0 new.draft (held_quiet t _ value old m.0 m.1.0 m.1.1.0) (write_quiet target memory aim m.1.0 m.0 new.draft before new.accesses m.1.1.1.0)

-- One path.

old_operand_quiet : (own to : Kind) (value : ℕ) (old new : Draft) (v : ℕ) → MadeOldOperand own to value old new v → AddsQuiet old new
old_operand_quiet own kind.Bool value old new v m = quiet_none old new m.0
old_operand_quiet own (kind.Unsigned w) value old new v m = converted_quiet (same_kind own (kind.Unsigned w)) (kind.Unsigned w) value old new v m
old_operand_quiet own (kind.Signed w) value old new v m = converted_quiet (same_kind own (kind.Signed w)) (kind.Signed w) value old new v m

operand_quiet : (t : Term) (to : Kind) (value : ℕ) (old new : Draft) (v : ℕ) → MadeOperand t to value old new v → AddsQuiet old new
operand_quiet t kind.Bool value old new v m = quiet_none old new m.0
operand_quiet t (kind.Unsigned w) value old new v m = held_quiet t (kind.Unsigned w) value old new v m
operand_quiet t (kind.Signed w) value old new v m = held_quiet t (kind.Signed w) value old new v m

folded_quiet : (lane : Lane) (current : List (Option ℕ)) (held : _) (op : Op) (t : Term) (value : ℕ) (old new : Draft) (v : ℕ) → FoldedWith lane current held op t value old new v → AddsQuiet old new
folded_quiet lane current held op t value old new v m =
    quiet_again old m.first new (shown_quiet current (register_at held lane) old m.first m.before m.shown)
    (quiet_again m.first m.second new (old_operand_quiet held.kind (extension_of op held.kind (kind_written t)) m.before m.first m.second m.left m.left_made)
    (quiet_again m.second m.third new (operand_quiet t (extension_of op held.kind (kind_written t)) value m.second m.third m.right m.right_made)
    (quiet_again m.third m.fourth new (quiet_pushed m.third m.fourth m.all None (Compute op m.left m.right) m.pushes tt)
    (converted_quiet (same_kind held.kind (extension_of op held.kind (kind_written t))) held.kind m.all m.fourth new v m.own))))

-- offsets as the variables hold them that keep them
holds_quiet : (scene : Scene) (first : ℕ) (offsets : List Term) (values : List ℕ) (old new : Draft) (held : List ℕ) → MadeHolds scene first offsets values old new held → AddsQuiet old new
holds_quiet scene first [] values old new held m = quiet_none old new m.0
holds_quiet scene first (t ∷ ts) [] old new held m = quiet_none old new m.0
holds_quiet scene first (t ∷ ts) (v ∷ vs) old new held (d, (h, (more, (one, (rest, is))))) =
    quiet_again old d new (held_quiet t (held_at scene.held.now first).kind v old d h one) (holds_quiet scene (suc first) ts vs d new more rest)

module _ (scene : Scene) (lane : Lane) (stands : BlockStandsIn scene lane.around) where
  assigned_quiet : (first entity : ℕ) (t : Term) (old new : Building) (next : ℕ) → MadeAssigned scene lane first entity t old new next → AddsQuiet old.draft new.draft
  assigned_quiet first entity t old new next m =
      quiet_again old.draft m.middle new.draft (term_quiet scene lane stands old.values.current.items t old.draft m.middle old.accesses new.accesses first next m.value m.term)
      (held_quiet t (held_at scene.held.now entity).kind m.value m.middle new.draft m.held m.holds)

  kept_quiet : (first entity : ℕ) (offsets : List Term) (old new : Building) (next : ℕ) → MadeKept scene lane first entity offsets old new next → AddsQuiet old.draft new.draft
  kept_quiet first entity offsets old new next m =
      quiet_again old.draft m.middle new.draft (terms_quiet scene lane stands old.values.current.items (terms offsets) old.draft m.middle old.accesses new.accesses first next m.values m.offsets_made)
      (holds_quiet scene entity offsets m.values m.middle new.draft m.held m.holds)

  cleared_quiet : (entity : ℕ) (old new : Building) → MadeCleared scene lane entity old new → AddsQuiet old.draft new.draft
  cleared_quiet entity old new m =
      quiet_counted old.draft new.draft 0 _ _ (number_counts any_register any_reach any_reach any_reach (held_at scene.held.now entity).kind false 0 old.draft new.draft m.value m.number)

  reduced_quiet : (first entity : ℕ) (op : Op) (t : Term) (old new : Building) (next : ℕ) → MadeReduced scene lane first entity op t old new next → AddsQuiet old.draft new.draft
  reduced_quiet first entity op t old new next m =
      quiet_again old.draft m.middle new.draft (term_quiet scene lane stands old.values.current.items t old.draft m.middle old.accesses new.accesses first next m.value m.term)
      (folded_quiet lane old.values.current.items (held_at scene.held.now entity) op t m.value m.middle new.draft m.folded m.folds)

  stored_quiet : (first : ℕ) (target t : Term) (old new : Building) (next : ℕ) → MadeStored scene lane first target t old new next → AddsQuiet old.draft new.draft
  stored_quiet first target t old new next m =
      quiet_again old.draft m.middle new.draft (term_quiet scene lane stands old.values.current.items t old.draft m.middle old.accesses m.between first m.own m.value m.term)
      (quiet_again m.middle m.end new.draft (aim_quiet scene lane stands old.values.current.items (form_of target) m.middle m.end m.between m.behind m.own m.aimed m.aims)
      (storing_quiet scene lane stands target t m.value m.aimed m.end m.behind new next m.stores))

-- All paths.

lanes_quiet : (One : ℕ → (b d : Building) → ℕ → Type 0) → ((n : ℕ) (b d : Building) (k : ℕ) → One n b d k → AddsQuiet b.draft d.draft)
    → (count first : ℕ) (old new : Building) (next : ℕ) → MadeLanes One count first old new next → AddsQuiet old.draft new.draft
lanes_quiet One each zero first old new next m = quiet_none old.draft new.draft (ap (λ (b : Building). b.draft) m.0)
lanes_quiet One each (suc n) first old new next m =
    quiet_again old.draft (m.0).draft new.draft (lanes_quiet One each n first old m.0 m.1.0 m.1.1.0) (each n m.0 new next m.1.1.1)

tests_quiet : (scene : Scene) (around : Around) → BlockStandsIn scene around → (first : ℕ) (t : Term) (count : ℕ) (old new : Building) (next : ℕ) (tests : List ℕ) → MadeTests scene around first t count old new next tests
    → AddsQuiet old.draft new.draft
tests_quiet scene around stands first t zero old new next tests m = quiet_none old.draft new.draft (ap (λ (b : Building). b.draft) m.0)
tests_quiet scene around stands first t (suc n) old new next tests m =
    quiet_again old.draft (m.0).draft new.draft (tests_quiet scene around stands first t n old m.0 m.1.0 m.1.1.0 m.1.1.1.1.0)
    (term_quiet scene (lane_of around n) stands (m.0).values.current.items t (m.0).draft new.draft (m.0).accesses new.accesses first next m.1.1.1.0 (m.1.1.1.1.1.0).term)

-- Arms.

outcome_quiet : (holds : Truth) (test : ℕ) (old new : Draft) (v : ℕ) → MadeOutcome holds test old new v → AddsQuiet old new
outcome_quiet true test old new v m = quiet_none old new m.0
outcome_quiet false test old new v m =
    quiet_again old m.first new (quiet_pushed old m.first m.no_value None (Constant (truth false)) m.no_made tt)
    (quiet_again m.first m.second new (quiet_pushed m.first m.second m.yes_value None (Constant (truth true)) m.yes_made tt) (quiet_pushed m.second new v None (Select test m.no_value m.yes_value) m.pushes tt))

guard_quiet : (guard : Option ℕ) (t : ℕ) (old new : Draft) (v : ℕ) → MadeGuard guard t old new v → AddsQuiet old new
guard_quiet None t old new v m = quiet_none old new m.0
guard_quiet (Some g) t old new v m = quiet_pushed old new v None (Compute Both g t) m tt

guards_quiet : (holds : Truth) (guards : List (Option ℕ)) (tests : List ℕ) (count : ℕ) (old new : Draft) (arm : List (Option ℕ)) → MadeArmGuards holds guards tests count old new arm → AddsQuiet old new
guards_quiet holds guards tests zero old new arm m = quiet_none old new m.0
guards_quiet holds guards tests (suc n) old new arm m = quiet_again old m.0 new (guards_quiet holds guards tests n old m.0 m.1.0 m.1.1.1.1.0) (one m.0 m.1.1.0 m.1.1.1.0 m.1.1.1.1.1.1.0)
  where
    one : (d : Draft) (test v : ℕ) → MadeArmGuard holds (guard_of guards n) test d new v → AddsQuiet d new
    one d test v g = quiet_again d g.middle new (outcome_quiet holds test d g.middle g.outcome g.comes_out) (guard_quiet (guard_of guards n) g.outcome g.middle new v g.joins)

behind_quiet : (current : List (Option ℕ)) (register : ℕ) (o : Option ℕ) (old new : Draft) (v : ℕ) → MadeBehind current register o old new v → AddsQuiet old new
behind_quiet current register None old new v m = shown_quiet current register old new v m
behind_quiet current register (Some value) old new v m = quiet_none old new m.0

choice_quiet : (o : Option ℕ) (c : Choice) (old new : Draft) (before after : Values) → MadeChoiceBy o c old new before after → AddsQuiet old new
choice_quiet None c old new before after m = quiet_none old new m.0
choice_quiet (Some test) c old new before after m =
    quiet_again old m.first new (behind_quiet before.current.items c.register c.chosen old m.first m.yes_value m.chosen)
    (quiet_again m.first m.second new (behind_quiet before.current.items c.register c.other m.first m.second m.no_value m.other) (quiet_pushed m.second new m.value None (Select test m.yes_value m.no_value) m.pushes tt))

choices_quiet : (tests : List ℕ) (choices : List Choice) (count : ℕ) (old new : Draft) (before after : Values) → MadeChoices tests choices count old new before after → AddsQuiet old new
choices_quiet tests choices zero old new before after m = quiet_none old new m.0
choices_quiet tests choices (suc n) old new before after m =
    quiet_again old m.0 new (choices_quiet tests choices n old m.0 before m.1.0 m.1.1.1.0) (choice_quiet (slice_get tests (m.1.1.0).path) m.1.1.0 m.0 new m.1.0 after m.1.1.1.1.1)

arm_quiet : (Inner : Commanding) (around : Around) (holds : Truth) (tests : List ℕ) (old new : Building) (first next : ℕ) (lefts : List Left) (m : MadeArm Inner around holds tests old new first next lefts)
    → AddsQuiet m.begin.draft m.inside.draft → AddsQuiet old.draft new.draft
arm_quiet Inner around holds tests old new first next lefts m inner =
    subst (λ (d : Draft). AddsQuiet old.draft d) (sym m.draft)
    (quiet_again old.draft m.guarded m.inside.draft (guards_quiet holds around.guards.now tests (length tests) old.draft m.guarded m.arm.guards.now m.guards)
    (subst (λ (d : Draft). AddsQuiet d m.inside.draft) m.begin_draft inner))

-- All commands.

module _ (scene : Scene) where
  view_quiet : (hidden : List Hidden) (form : ViewPlan) (around : Around) (old new : Building) (first next : ℕ) → BlockStandsIn scene around → MadeView scene hidden form around old new first next → AddsQuiet old.draft new.draft
  view_quiet [] form around old new first next s m = quiet_none old.draft new.draft (ap (λ (b : Building). b.draft) m.still)
  view_quiet (h ∷ hs) form around old new first next s m =
      lanes_quiet (λ n b d k. MadeKept scene (lane_of around n) first h.entity (offsets_of form) b d k) (λ n b d k one. kept_quiet scene (lane_of around n) s first h.entity (offsets_of form) b d k one) (paths_counted around) first old new next m

  mutual
    command_quiet : (a : Action) (around : Around) (old new : Building) (first next : ℕ) → BlockStandsIn scene around → MadeCommand scene a around old new first next → AddsQuiet old.draft new.draft
    command_quiet (action id place form) around old new first next s m = action_quiet form around old new first next s m

    action_quiet : (form : ActionForm) (around : Around) (old new : Building) (first next : ℕ) → BlockStandsIn scene around → MadeActionForm scene form around old new first next → AddsQuiet old.draft new.draft
    action_quiet (lets name declared (Some value)) around old new first next s m =
        lanes_quiet (λ n b d k. MadeAssigned scene (lane_of around n) first (entity_number name.entity) value b d k)
        (λ n b d k one. assigned_quiet scene (lane_of around n) s first (entity_number name.entity) value b d k one) (paths_counted around) first old new next m
    action_quiet (lets name declared None) around old new first next s m =
        lanes_quiet (λ n b d k. MadeCleared scene (lane_of around n) (entity_number name.entity) b d × (k ≡ first))
        (λ n b d k one. cleared_quiet scene (lane_of around n) s (entity_number name.entity) b d one.0) (paths_counted around) first old new next m
    action_quiet (assigns target value) around old new first next s m =
        lanes_quiet (λ n b d k. MadeAssigned scene (lane_of around n) first (entity_number target.entity) value b d k)
        (λ n b d k one. assigned_quiet scene (lane_of around n) s first (entity_number target.entity) value b d k one) (paths_counted around) first old new next m
    action_quiet (stores target value) around old new first next s m =
        lanes_quiet (λ n b d k. MadeStored scene (lane_of around n) first target value b d k) (λ n b d k one. stored_quiet scene (lane_of around n) s first target value b d k one) (paths_counted around) first old new next m
    action_quiet (reduces target op value) around old new first next s m =
        lanes_quiet (λ n b d k. MadeReduced scene (lane_of around n) first (entity_number target.entity) op value b d k)
        (λ n b d k one. reduced_quiet scene (lane_of around n) s first (entity_number target.entity) op value b d k one) (paths_counted around) first old new next m
    action_quiet (decides test chosen other) around old new first next s m =
        let many : length m.tests ≡ paths_counted around = (tests_same scene around first test (paths_counted around) old m.tested m.own m.tests m.test).1 in
        quiet_again old.draft m.tested.draft new.draft (tests_quiet scene around s first test (paths_counted around) old m.tested m.own m.tests m.test)
        (quiet_again m.tested.draft m.after_chosen.draft new.draft
        (arm_quiet (MadeCommand scene chosen) around true m.tests m.tested m.after_chosen m.own m.behind m.chosen_left m.chosen
        (command_quiet chosen m.chosen.arm m.chosen.begin m.chosen.inside m.own m.behind
        (stands_arm scene (MadeCommand scene chosen) around true m.tests m.tested m.after_chosen m.own m.behind m.chosen_left m.chosen s many) m.chosen.command))
        (quiet_again m.after_chosen.draft m.after_other.draft new.draft (other_quiet other around m.tests m.after_chosen m.after_other m.behind next m.other_left s many m.other)
        (choices_quiet m.tests m.joined.choices (length m.joined.choices) m.after_other.draft new.draft m.joined.middle new.values m.joined.choose)))
    action_quiet (blocks body) around old new first next s m = groups_quiet body around old new first next s m
    action_quiet (lets_memory name shape shape_places value) around old new first next s m = quiet_none old.draft new.draft (ap (λ (b : Building). b.draft) m.still)
    action_quiet (views name parent form) around old new first next s m = view_quiet (hidden_in (way_of (known_in scene) name)) form around old new first next s m
    action_quiet (calls function arguments) around old new first next s m = quiet_none old.draft new.draft (ap (λ (b : Building). b.draft) m.still)
    action_quiet (repeats test body) around old new first next s m = quiet_none old.draft new.draft (ap (λ (b : Building). b.draft) m.still)
    action_quiet (counts iterator declared low high factor body combine combine_place) around old new first next s m = quiet_none old.draft new.draft (ap (λ (b : Building). b.draft) m.still)

    other_quiet : (other : MaybeAction) (around : Around) (tests : List ℕ) (old new : Building) (first next : ℕ) (lefts : List Left) → BlockStandsIn scene around → length tests ≡ paths_counted around
        → MadeOther scene other around tests old new first next lefts → AddsQuiet old.draft new.draft
    other_quiet no_action around tests old new first next lefts s many m = quiet_none old.draft new.draft (ap (λ (b : Building). b.draft) m.still)
    other_quiet (one_action a) around tests old new first next lefts s many m =
        arm_quiet (MadeCommand scene a) around false tests old new first next lefts m
        (command_quiet a m.arm m.begin m.inside first next (stands_arm scene (MadeCommand scene a) around false tests old new first next lefts m s many) m.command)

    actions_quiet : (part : Actions) (around : Around) (old new : Building) (first next : ℕ) → BlockStandsIn scene around → MadeActions scene part around old new first next → AddsQuiet old.draft new.draft
    actions_quiet no_actions around old new first next s m = quiet_none old.draft new.draft (ap (λ (b : Building). b.draft) m.still)
    actions_quiet (action_then a rest) around old new first next s m =
        quiet_again old.draft m.middle.draft new.draft (command_quiet a around old m.middle first m.own s m.one) (actions_quiet rest around m.middle new m.own next s m.rest)

    groups_quiet : (body : Groups) (around : Around) (old new : Building) (first next : ℕ) → BlockStandsIn scene around → MadeGroups scene body around old new first next → AddsQuiet old.draft new.draft
    groups_quiet no_groups around old new first next s m = quiet_none old.draft new.draft (ap (λ (b : Building). b.draft) m.still)
    groups_quiet (group_then g rest) around old new first next s m =
        quiet_again old.draft m.middle.draft new.draft (actions_quiet g around old m.middle first m.own s m.one) (groups_quiet rest around m.middle new m.own next s m.rest)

pub terms_are_quiet : TermsAreQuiet
terms_are_quiet scene lane current t old new before after n next v s m = term_quiet scene lane s current t old new before after n next v m

pub commands_are_quiet : CommandsAreQuiet
commands_are_quiet scene a around old new first next s m = command_quiet scene a around old new first next s m

pub groups_are_quiet : GroupsAreQuiet
groups_are_quiet scene body around old new first next s m = groups_quiet scene body around old new first next s m

pub quiet_sets_none : QuietSetsNone
quiet_sets_none (Constant word) q first ws = refl
quiet_sets_none (Old register) q first ws = refl
quiet_sets_none (Compute op left right) q first ws = refl
quiet_sets_none (Convert inner to) q first ws = refl
quiet_sets_none (Select test a b) q first ws = refl
quiet_sets_none (Check ok fault) q first ws = absurd q
quiet_sets_none (Probe r fault) q first ws = refl
quiet_sets_none (Read r) q first ws = refl
quiet_sets_none (Write r value) q first ws = refl
quiet_sets_none (Set register value) q first ws = absurd q
