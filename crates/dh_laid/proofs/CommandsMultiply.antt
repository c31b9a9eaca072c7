-- What is put down for a command has at most the multiplications of its expressions, each once for each path: by
-- recursion on both.
use Rattle.std.proofs.Common.{◌≡◌, ◌⊎◌, inl, inr, ◌≤◌, ◌+◌, ◌*◌, ℕ, zero, suc, List, Some, None, ap, sym, ◌∙◌, subst, length, arith, append_assoc, refl}
use Rattle.std.specs.Prelude.{Bool as Truth, true, false, if◌then◌else◌, [], ◌∷◌, ◌++◌, Option, slice_get}
use Rattle.std.proofs.Math.Nat.{mul-suc}
use Rattle.std.proofs.lemmas.List.{append-nil}
use Rattle.dh_value.specs.declared.kinds.Kind.{Kind}
use Rattle.dh_value.specs.declared.kinds.Kind.TheVariants as kind
use Rattle.dh_value.specs.declared.operators.Op.{Op}
use Rattle.dh_value.specs.declared.operators.Op.TheVariants.{Both}
use Rattle.dh_value.specs.Operations.{truth}
use Rattle.dh_tree.specs.Indices.{form_of}
use Rattle.dh_tree.specs.PlainTrees as plain
use Rattle.dh_tree.specs.PlainTrees.{Term, Action, action, ActionForm, lets, lets_memory, views, assigns, stores, reduces, calls, blocks, decides, repeats, counts, MaybeAction, no_action, one_action, Actions, no_actions, action_then, Groups, no_groups, group_then, ViewPlan}
use Rattle.dh_tree.specs.declared.trees.expressions.Ref.{Ref}
use Rattle.dh_tree.specs.Seen.{terms}
use Rattle.dh_tree.specs.ViewOffsets.{offsets_of}
use Rattle.dh_meaning.specs.Bindings.{kind_or_first}
use Rattle.dh_meaning.specs.CoreOf.{entity_number, way_of}
use Rattle.dh_meaning.specs.Ways.{Hidden, hidden_in}
use Rattle.dh_code.specs.Extended.{extension_of}
use Rattle.dh_tree.specs.Kinds.{same_kind}
use Rattle.dh_code.specs.Slots.{held_at}
use Rattle.dh_plan.specs.declared.operations.Operation.{Operation}
use Rattle.dh_plan.specs.declared.operations.OperationForm.{OperationForm}
use Rattle.dh_plan.specs.declared.operations.OperationForm.TheVariants.{Compute, Constant, Convert, Select}
use Rattle.dh_plan.specs.declared.operations.Reach.{Reach}
use Rattle.dh_plan.specs.declared.operations.ReachStep.{ReachStep}
use Rattle.dh_plan.specs.DoneProgram.{block_products, product_of}
use Rattle.dh_plan.specs.LegalSchedules.{is_product}
use Rattle.dh_expressions.specs.declared.accesses.Accesses.{Accesses}
use Rattle.dh_expressions.specs.declared.accesses.Touched.{Touched}
use Rattle.dh_expressions.specs.declared.copies.AccessAt.{AccessAt}
use Rattle.dh_expressions.specs.declared.drafts.Draft.{Draft}
use Rattle.dh_expressions.specs.declared.elements.Aim.{Aim}
use Rattle.dh_expressions.specs.declared.scenes.Around.{Around}
use Rattle.dh_expressions.specs.declared.scenes.Lane.{Lane}
use Rattle.dh_expressions.specs.declared.scenes.Scene.{Scene}
use Rattle.dh_expressions.specs.Drafted.{Pushes}
use Rattle.dh_expressions.specs.Evaluated.{counter_of, known_in}
use Rattle.dh_expressions.specs.MadeTerms.{MadeRead, MadeTerm, MadeTerms, MadeWay, MadeWrite}
use Rattle.dh_expressions.specs.MadeValues.{MadeConverted, MadeHeld, MadeShown}
use Rattle.dh_expressions.specs.Named.{first_view}
use Rattle.dh_expressions.specs.Noted.{copied_in}
use Rattle.dh_expressions.specs.Reaching.{Finds, place_written}
use Rattle.dh_expressions.specs.Shown.{guard_of, is_kept, kind_written, register_at}
use Rattle.dh_expressions.specs.Standings.{copy_places, standing_at}
use Rattle.dh_expressions.specs.Touching.{AddsTouched, TouchesAt}
use Rattle.dh_formed.specs.Counted.{Counts, FormIs}
use Rattle.dh_formed.proofs.ValuesCounted.{compute_counts, copies_counts, held_counts, number_counts, operation_counts, sees_any, shown_counts, variable_counts, way_counts}
use Rattle.dh_commands.specs.declared.buildings.Building.{Building}
use Rattle.dh_commands.specs.declared.assignments.Values.{Values}
use Rattle.dh_commands.specs.declared.choices.Choice.{Choice}
use Rattle.dh_commands.specs.declared.choices.Left.{Left}
use Rattle.dh_commands.specs.LanesRun.{lane_of, paths_counted}
use Rattle.dh_commands.specs.MadeCommands.{Commanding, FoldedWith, MadeActionForm, MadeActions, MadeAim, MadeArm, MadeArmGuard, MadeArmGuards, MadeAssigned, MadeBehind, MadeChoiceBy, MadeChoices, MadeCleared, MadeCommand, MadeGroups, MadeGuard, MadeHolds, MadeKept, MadeLanes, MadeOldOperand, MadeOperand, MadeOther, MadeOutcome, MadeReduced, MadeStored, MadeStoring, MadeTests, MadeView}
use Rattle.dh_laid.specs.LaidProducts.{AddsProducts, CommandsHaveProducts, GroupsHaveProducts, action_products, aim_products, all_products_in, groups_products, offset_products, other_products, own_products, part_products, products_in}
use Rattle.dh_laid.specs.LaidQuiet.{BlockStandsIn}
use Rattle.dh_laid.proofs.ValuesLogged.{arm_long, stands_arm, tests_same}

pub products_append : (xs ys : List Operation) → block_products (xs ++ ys) ≡ block_products xs + block_products ys
products_append [] ys = omega arith
products_append (o ∷ xs) ys = by (is_product o.form) (block_products (xs ++ ys)) (block_products xs) (block_products ys) (products_append xs ys)
  where
    by : (t : Truth) (whole a b : ℕ) → whole ≡ a + b → (if t then suc whole else whole) ≡ (if t then suc a else a) + b
    by true whole a b e = omega (arith, e)
    by false whole a b e = e

-- no multiplication was added
abbrev AddsNone : (old new : Draft) → Type 0
AddsNone old new = AddsProducts old new 0

none_same : (old new : Draft) → new.operations.items ≡ old.operations.items → AddsNone old new
none_same old new same = record { more = []; adds = same ∙ sym (append-nil old.operations.items); few = omega arith }

none_none : (old new : Draft) → new ≡ old → AddsNone old new
none_none old new same = none_same old new (ap (λ (d : Draft). d.operations.items) same)

pub products_again : (a b c : Draft) (p q : ℕ) → AddsProducts a b p → AddsProducts b c q → AddsProducts a c (p + q)
products_again a b c p q h k = record {
  more = h.more ++ k.more;
  adds = k.adds ∙ (ap (λ (os : List Operation). os ++ k.more) h.adds ∙ append_assoc a.operations.items h.more k.more);
  few = let e = products_append h.more k.more in let l = h.few in let r = k.few in omega (arith, e, l, r);
}

products_within : (a b : Draft) (p q : ℕ) → p ≤ q → AddsProducts a b p → AddsProducts a b q
products_within a b p q less h = record { more = h.more; adds = h.adds; few = let l = h.few in omega (arith, less, l) }

none_again : (a b c : Draft) → AddsNone a b → AddsNone b c → AddsNone a c
none_again a b c h k = products_within a c (0 + 0) 0 (omega arith) (products_again a b c 0 0 h k)

none_pushed : (old new : Draft) (n : ℕ) (guard : Option ℕ) (form : OperationForm) → Pushes old new n guard form → is_product form ≡ false → AddsNone old new
none_pushed old new n guard form p is = record { more = record { guard = guard; form = form } ∷ []; adds = p.operations; few = by (is_product form) is }
  where
    by : (t : Truth) → t ≡ false → (if t then 1 else 0) ≤ 0
    by true e = absurd (cc)
    by false e = omega arith

products_counted : (old new : Draft) (p : ℕ) (f u : ℕ → ℕ) → Counts old new (FormIs (λ register. Unit {0}) (λ r. Unit {0}) (λ r. Unit {0}) (λ r. Unit {0})) p f u → AddsProducts old new p
products_counted old new p f u c = record { more = c.more; adds = c.adds; few = c.products_few }

abbrev any_register : ℕ → Type 0
any_register register = Unit {0}

abbrev any_reach : Reach → Type 0
any_reach r = Unit {0}

-- Values.

converted_products_added : (kept : Truth) (to : Kind) (value : ℕ) (old new : Draft) (v : ℕ) → MadeConverted kept to value old new v → AddsNone old new
converted_products_added true to value old new v m = none_none old new m.0
converted_products_added false to value old new v m = none_pushed old new v None (Convert value to) m refl

held_products_added : (t : Term) (to : Kind) (value : ℕ) (old new : Draft) (v : ℕ) → MadeHeld t to value old new v → AddsNone old new
held_products_added t to value old new v m = products_counted old new 0 _ _ (held_counts any_register any_reach any_reach any_reach t to value old new v m)

shown_products_added : (current : List (Option ℕ)) (register : ℕ) (old new : Draft) (v : ℕ) → MadeShown current register old new v → AddsNone old new
shown_products_added current register old new v m = products_counted old new 0 _ _ (shown_counts any_register any_reach any_reach any_reach current register tt old new v m)

-- Accesses.

module _ (scene : Scene) (lane : Lane) (stands : BlockStandsIn scene lane.around) where
  touch_products_added : (access : Term) (memory : ℕ) (writes : Truth) (old new : Draft) (before after : Accesses) (number : ℕ)
      → TouchesAt scene lane.around (standing_at scene lane.around memory (place_written access) (form_of access) writes) old new before after number → AddsNone old new
  touch_products_added access memory writes old new before after number t = by t.adds
    where
      leads : (p : ℕ) → (standing_at scene lane.around memory (place_written access) (form_of access) writes).leader p ≤ p
      leads p = omega arith

      by : (new ≡ old) ⊎ ((u : Touched) × AddsTouched old new scene lane.around (standing_at scene lane.around memory (place_written access) (form_of access) writes) u) → AddsNone old new
      by (inl same) = none_none old new same
      by (inr (u, a)) =
          none_again old a.middle new (none_same old a.middle a.names.operations)
          (products_counted a.middle new 0 _ _
          (copies_counts any_register any_reach any_reach any_reach (standing_at scene lane.around memory (place_written access) (form_of access) writes).leader
          (standing_at scene lane.around memory (place_written access) (form_of access) writes).bank (copy_places (standing_at scene lane.around memory (place_written access) (form_of access) writes)) lane.around.guards.now leads (length lane.around.guards.now) a.middle new u.copies
          (a.copies stands.scopes stands.low)))

  finds_products_added : (form : plain.TermForm) (old new : Draft) (memory : ℕ) (aim : Aim) (copy : AccessAt) (found : Option ℕ) (v : ℕ) → Finds scene form old new memory aim copy found v → AddsNone old new
  finds_products_added form old new memory aim copy None v m = none_pushed old new v copy.guard _ m refl
  finds_products_added form old new memory aim copy (Some n) v m = none_none old new m.0

  read_products_added : (access : Term) (memory : ℕ) (aim : Aim) (old new : Draft) (before after : Accesses) (v : ℕ) → MadeRead scene lane access memory aim old new before after v → AddsNone old new
  read_products_added access memory aim old new before after v r =
      none_again old r.first new (touch_products_added access memory false old r.first before r.middle aim.number r.touches)
      (none_again r.first r.second new (none_pushed r.first r.second _ _ _ r.probes refl) (finds_products_added (form_of access) r.second new memory aim (copied_in r.middle aim.number lane.number) _ v r.finds))

  write_products_added : (access : Term) (memory : ℕ) (aim : Aim) (value : ℕ) (old new : Draft) (before after : Accesses) → MadeWrite scene lane access memory aim value old new before after → AddsNone old new
  write_products_added access memory aim value old new before after w =
      none_again old w.first new (touch_products_added access memory true old w.first before after aim.number w.touches)
      (none_again w.first w.second new (none_pushed w.first w.second _ _ _ w.probes refl) (none_pushed w.second new _ _ _ w.writes refl))

  module _ (current : List (Option ℕ)) where
    -- what stands behind indices
    way_added : (r : Ref) (old new : Draft) (steps : List ReachStep) → MadeWay scene lane current old new (first_view scene r) (way_of (known_in scene) r) steps → AddsNone old new
    way_added r old new steps m =
        products_counted old new 0 _ _
        (way_counts any_register any_reach any_reach any_reach scene lane current (way_of (known_in scene) r) (first_view scene r) (sees_any any_register any_reach any_reach any_reach (λ register. tt) scene lane (way_of (known_in scene) r)) old new steps m)

    mutual
      term_products_added : (t : Term) (old new : Draft) (before after : Accesses) (n next v : ℕ) → MadeTerm scene lane current t old new before after n next v → AddsProducts old new (products_in t)
      term_products_added (plain.term place k (plain.number negative z)) old new before after n next v m =
          products_counted old new 0 _ _ (number_counts any_register any_reach any_reach any_reach (kind_or_first k) negative z old new v m.part)
      term_products_added (plain.term place k (plain.truth_value b)) old new before after n next v m = none_pushed old new v None (Constant (truth b)) m.part refl
      term_products_added (plain.term place k (plain.named r)) old new before after n next v m =
          products_counted old new 0 _ _
          (variable_counts any_register any_reach any_reach any_reach (counter_of scene (entity_number r.entity)) (held_at scene.held.now (entity_number r.entity)) lane current (kind_or_first k) tt old new v m.part)
      term_products_added (plain.term place k (plain.accessed r ts)) old new before after n next v m =
          products_within old new (all_products_in ts + 0 + 0) (all_products_in ts) (omega arith)
          (products_again old m.middle new (all_products_in ts + 0) 0
          (products_again old m.named m.middle (all_products_in ts) 0 (terms_products_added ts old m.named before m.between n m.aim.number m.aim.indices m.indices) (way_added r m.named m.middle m.aim.steps m.steps))
          (read_products_added _ _ m.aim m.middle new m.between after v m.reads))
      term_products_added (plain.term place k (plain.in_bank r bank at row)) old new before after n next v m =
          products_within old new (products_in row + 0) (products_in row) (omega arith)
          (products_again old m.middle new (products_in row) 0 (term_products_added row old m.middle before m.between n m.aim.number m.value m.row) (read_products_added _ _ m.aim m.middle new m.between after v m.reads))
      term_products_added (plain.term place k (plain.applied op left right)) old new before after n next v m =
          products_within old new (products_in left + (products_in right + product_of op)) (product_of op + (products_in left + products_in right)) (omega arith)
          (products_again old m.middle new (products_in left) (products_in right + product_of op) (term_products_added left old m.middle before m.between n m.own m.a m.first)
          (products_again m.middle m.end new (products_in right) (product_of op) (term_products_added right m.middle m.end m.between after m.own next m.b m.second)
          (products_counted m.end new (product_of op) _ _ (operation_counts any_register any_reach any_reach any_reach op left right m.a m.b m.end new v m.operation))))
      term_products_added (plain.term place k (plain.converted inner to)) old new before after n next v m =
          products_within old new (products_in inner + 0) (products_in inner) (omega arith)
          (products_again old m.middle new (products_in inner) 0 (term_products_added inner old m.middle before after n next m.a m.operand) (converted_products_added (is_kept inner to) to m.a m.middle new v m.converts))

      terms_products_added : (ts : plain.Terms) (old new : Draft) (before after : Accesses) (n next : ℕ) (vs : List ℕ) → MadeTerms scene lane current ts old new before after n next vs → AddsProducts old new (all_products_in ts)
      terms_products_added plain.no_terms old new before after n next vs m = none_none old new m.still
      terms_products_added (plain.term_then t ts) old new before after n next vs m =
          products_again old m.middle new (products_in t) (all_products_in ts) (term_products_added t old m.middle before m.between n m.own m.a m.first)
          (terms_products_added ts m.middle new m.between after m.own next m.more m.rest)

    aim_products_added : (form : plain.TermForm) (old new : Draft) (before after : Accesses) (n : ℕ) (aimed : Option (Aim × ℕ)) → MadeAim scene lane current form old new before after n aimed → AddsProducts old new (aim_products form)
    aim_products_added (plain.accessed r ts) old new before after n (Some (aim, memory)) m =
        products_within old new (all_products_in ts + 0) (all_products_in ts) (omega arith)
        (products_again old m.0.middle new (all_products_in ts) 0 (terms_products_added ts old m.0.middle before after n aim.number aim.indices m.0.indices) (way_added r m.0.middle new aim.steps m.0.steps))
    aim_products_added (plain.accessed r ts) old new before after n None m = absurd m
    aim_products_added (plain.in_bank r bank at row) old new before after n (Some (aim, memory)) m = term_products_added row old new before after n aim.number m.0.value m.0.row
    aim_products_added (plain.in_bank r bank at row) old new before after n None m = absurd m
    aim_products_added (plain.number negative z) old new before after n None m = none_none old new m.0
    aim_products_added (plain.number negative z) old new before after n (Some aimed) m = absurd m
    aim_products_added (plain.truth_value b) old new before after n None m = none_none old new m.0
    aim_products_added (plain.truth_value b) old new before after n (Some aimed) m = absurd m
    aim_products_added (plain.named r) old new before after n None m = none_none old new m.0
    aim_products_added (plain.named r) old new before after n (Some aimed) m = absurd m
    aim_products_added (plain.applied op l r) old new before after n None m = none_none old new m.0
    aim_products_added (plain.applied op l r) old new before after n (Some aimed) m = absurd m
    aim_products_added (plain.converted inner to) old new before after n None m = none_none old new m.0
    aim_products_added (plain.converted inner to) old new before after n (Some aimed) m = absurd m

  storing_products_added : (target t : Term) (value : ℕ) (aimed : Option (Aim × ℕ)) (old : Draft) (before : Accesses) (new : Building) (next : ℕ) → MadeStoring scene lane target t value aimed old before new next → AddsNone old new.draft
  storing_products_added target t value None old before new next m = none_none old new.draft m.0
  storing_products_added target t value (Some (aim, memory)) old before new next m =
      none_again old m.0 new.draft (held_products_added t _ value old m.0 m.1.0 m.1.1.0) (write_products_added target memory aim m.1.0 m.0 new.draft before new.accesses m.1.1.1.0)

-- One path.

old_operand_products_added : (own to : Kind) (value : ℕ) (old new : Draft) (v : ℕ) → MadeOldOperand own to value old new v → AddsNone old new
old_operand_products_added own kind.Bool value old new v m = none_none old new m.0
old_operand_products_added own (kind.Unsigned w) value old new v m = converted_products_added (same_kind own (kind.Unsigned w)) (kind.Unsigned w) value old new v m
old_operand_products_added own (kind.Signed w) value old new v m = converted_products_added (same_kind own (kind.Signed w)) (kind.Signed w) value old new v m

operand_products_added : (t : Term) (to : Kind) (value : ℕ) (old new : Draft) (v : ℕ) → MadeOperand t to value old new v → AddsNone old new
operand_products_added t kind.Bool value old new v m = none_none old new m.0
operand_products_added t (kind.Unsigned w) value old new v m = held_products_added t (kind.Unsigned w) value old new v m
operand_products_added t (kind.Signed w) value old new v m = held_products_added t (kind.Signed w) value old new v m

folded_products_added : (lane : Lane) (current : List (Option ℕ)) (held : _) (op : Op) (t : Term) (value : ℕ) (old new : Draft) (v : ℕ) → FoldedWith lane current held op t value old new v → AddsProducts old new (product_of op)
folded_products_added lane current held op t value old new v m =
    let front : AddsNone old m.third =
    none_again old m.first m.third (shown_products_added current (register_at held lane) old m.first m.before m.shown)
    (none_again m.first m.second m.third (old_operand_products_added held.kind (extension_of op held.kind (kind_written t)) m.before m.first m.second m.left m.left_made)
    (operand_products_added t (extension_of op held.kind (kind_written t)) value m.second m.third m.right m.right_made)) in
    let all : AddsProducts m.third m.fourth (product_of op) =
    products_counted m.third m.fourth (product_of op) _ _ (compute_counts any_register any_reach any_reach any_reach m.third m.fourth m.all m.left m.right op m.pushes) in
    let last : AddsNone m.fourth new = converted_products_added (same_kind held.kind (extension_of op held.kind (kind_written t))) held.kind m.all m.fourth new v m.own in
    products_within old new (0 + (product_of op + 0)) (product_of op) (omega arith)
    (products_again old m.third new 0 (product_of op + 0) front (products_again m.third m.fourth new (product_of op) 0 all last))

-- offsets as the variables hold them that keep them
holds_products_added : (scene : Scene) (first : ℕ) (offsets : List Term) (values : List ℕ) (old new : Draft) (held : List ℕ) → MadeHolds scene first offsets values old new held → AddsNone old new
holds_products_added scene first [] values old new held m = none_none old new m.0
holds_products_added scene first (t ∷ ts) [] old new held m = none_none old new m.0
holds_products_added scene first (t ∷ ts) (v ∷ vs) old new held (d, (h, (more, (one, (rest, is))))) =
    none_again old d new (held_products_added t (held_at scene.held.now first).kind v old d h one) (holds_products_added scene (suc first) ts vs d new more rest)

module _ (scene : Scene) (lane : Lane) (stands : BlockStandsIn scene lane.around) where
  assigned_products_added : (first entity : ℕ) (t : Term) (old new : Building) (next : ℕ) → MadeAssigned scene lane first entity t old new next → AddsProducts old.draft new.draft (products_in t)
  assigned_products_added first entity t old new next m =
      products_within old.draft new.draft (products_in t + 0) (products_in t) (omega arith)
      (products_again old.draft m.middle new.draft (products_in t) 0 (term_products_added scene lane stands old.values.current.items t old.draft m.middle old.accesses new.accesses first next m.value m.term)
      (held_products_added t (held_at scene.held.now entity).kind m.value m.middle new.draft m.held m.holds))

  kept_products_added : (first entity : ℕ) (offsets : List Term) (old new : Building) (next : ℕ) → MadeKept scene lane first entity offsets old new next → AddsProducts old.draft new.draft (all_products_in (terms offsets))
  kept_products_added first entity offsets old new next m =
      products_within old.draft new.draft (all_products_in (terms offsets) + 0) (all_products_in (terms offsets)) (omega arith)
      (products_again old.draft m.middle new.draft (all_products_in (terms offsets)) 0
      (terms_products_added scene lane stands old.values.current.items (terms offsets) old.draft m.middle old.accesses new.accesses first next m.values m.offsets_made)
      (holds_products_added scene entity offsets m.values m.middle new.draft m.held m.holds))

  cleared_products_added : (entity : ℕ) (old new : Building) → MadeCleared scene lane entity old new → AddsNone old.draft new.draft
  cleared_products_added entity old new m =
      products_counted old.draft new.draft 0 _ _ (number_counts any_register any_reach any_reach any_reach (held_at scene.held.now entity).kind false 0 old.draft new.draft m.value m.number)

  reduced_products_added : (first entity : ℕ) (op : Op) (t : Term) (old new : Building) (next : ℕ) → MadeReduced scene lane first entity op t old new next → AddsProducts old.draft new.draft (product_of op + products_in t)
  reduced_products_added first entity op t old new next m =
      products_within old.draft new.draft (products_in t + product_of op) (product_of op + products_in t) (omega arith)
      (products_again old.draft m.middle new.draft (products_in t) (product_of op)
      (term_products_added scene lane stands old.values.current.items t old.draft m.middle old.accesses new.accesses first next m.value m.term)
      (folded_products_added lane old.values.current.items (held_at scene.held.now entity) op t m.value m.middle new.draft m.folded m.folds))

  stored_products_added : (first : ℕ) (target t : Term) (old new : Building) (next : ℕ) → MadeStored scene lane first target t old new next → AddsProducts old.draft new.draft (products_in t + aim_products (form_of target))
  stored_products_added first target t old new next m =
      products_within old.draft new.draft (products_in t + (aim_products (form_of target) + 0)) (products_in t + aim_products (form_of target)) (omega arith)
      (products_again old.draft m.middle new.draft (products_in t) (aim_products (form_of target) + 0)
      (term_products_added scene lane stands old.values.current.items t old.draft m.middle old.accesses m.between first m.own m.value m.term)
      (products_again m.middle m.end new.draft (aim_products (form_of target)) 0 (aim_products_added scene lane stands old.values.current.items (form_of target) m.middle m.end m.between m.behind m.own m.aimed m.aims)
      (storing_products_added scene lane stands target t m.value m.aimed m.end m.behind new next m.stores)))

-- All paths.

times_more : (p n : ℕ) → p * n + p ≡ p * suc n
times_more p n = sym (mul-suc p n)

times_sum : (p q n : ℕ) → p * n + q * n ≡ (p + q) * n
times_sum p q zero = omega arith
times_sum p q (suc n) = sums (p * n) (q * n) ((p + q) * n) (p * suc n) (q * suc n) ((p + q) * suc n) (mul-suc p n) (mul-suc q n) (mul-suc (p + q) n) (times_sum p q n)
  where
    sums : (a b c d e f : ℕ) → d ≡ a + p → e ≡ b + q → f ≡ c + (p + q) → a + b ≡ c → d + e ≡ f
    sums a b c d e f h i j k = omega (arith, h, i, j, k)

no_times : (n : ℕ) → 0 ≤ 0 * n
no_times n = omega arith

lanes_products_added : (One : ℕ → (b d : Building) → ℕ → Type 0) (p : ℕ) → ((n : ℕ) (b d : Building) (k : ℕ) → One n b d k → AddsProducts b.draft d.draft p)
    → (count first : ℕ) (old new : Building) (next : ℕ) → MadeLanes One count first old new next → AddsProducts old.draft new.draft (p * count)
lanes_products_added One p each zero first old new next m = products_within old.draft new.draft 0 (p * 0) (omega arith) (none_none old.draft new.draft (ap (λ (b : Building). b.draft) m.0))
lanes_products_added One p each (suc n) first old new next m =
    subst (λ (i : ℕ). AddsProducts old.draft new.draft i) (times_more p n)
    (products_again old.draft (m.0).draft new.draft (p * n) p (lanes_products_added One p each n first old m.0 m.1.0 m.1.1.0) (each n m.0 new next m.1.1.1))

pub tests_products_added : (scene : Scene) (around : Around) → BlockStandsIn scene around → (first : ℕ) (t : Term) (count : ℕ) (old new : Building) (next : ℕ) (tests : List ℕ) → MadeTests scene around first t count old new next tests
    → AddsProducts old.draft new.draft (products_in t * count)
tests_products_added scene around stands first t zero old new next tests m = products_within old.draft new.draft 0 (products_in t * 0) (omega arith) (none_none old.draft new.draft (ap (λ (b : Building). b.draft) m.0))
tests_products_added scene around stands first t (suc n) old new next tests m =
    subst (λ (i : ℕ). AddsProducts old.draft new.draft i) (times_more (products_in t) n)
    (products_again old.draft (m.0).draft new.draft (products_in t * n) (products_in t) (tests_products_added scene around stands first t n old m.0 m.1.0 m.1.1.0 m.1.1.1.1.0)
    (term_products_added scene (lane_of around n) stands (m.0).values.current.items t (m.0).draft new.draft (m.0).accesses new.accesses first next m.1.1.1.0 (m.1.1.1.1.1.0).term))

-- Arms.

outcome_products_added : (holds : Truth) (test : ℕ) (old new : Draft) (v : ℕ) → MadeOutcome holds test old new v → AddsNone old new
outcome_products_added true test old new v m = none_none old new m.0
outcome_products_added false test old new v m =
    none_again old m.first new (none_pushed old m.first m.no_value None (Constant (truth false)) m.no_made refl)
    (none_again m.first m.second new (none_pushed m.first m.second m.yes_value None (Constant (truth true)) m.yes_made refl) (none_pushed m.second new v None (Select test m.no_value m.yes_value) m.pushes refl))

guard_products_added : (guard : Option ℕ) (t : ℕ) (old new : Draft) (v : ℕ) → MadeGuard guard t old new v → AddsNone old new
guard_products_added None t old new v m = none_none old new m.0
guard_products_added (Some g) t old new v m = none_pushed old new v None (Compute Both g t) m refl

guards_products_added : (holds : Truth) (guards : List (Option ℕ)) (tests : List ℕ) (count : ℕ) (old new : Draft) (arm : List (Option ℕ)) → MadeArmGuards holds guards tests count old new arm → AddsNone old new
guards_products_added holds guards tests zero old new arm m = none_none old new m.0
guards_products_added holds guards tests (suc n) old new arm m = none_again old m.0 new (guards_products_added holds guards tests n old m.0 m.1.0 m.1.1.1.1.0) (one m.0 m.1.1.0 m.1.1.1.0 m.1.1.1.1.1.1.0)
  where
    one : (d : Draft) (test v : ℕ) → MadeArmGuard holds (guard_of guards n) test d new v → AddsNone d new
    one d test v g = none_again d g.middle new (outcome_products_added holds test d g.middle g.outcome g.comes_out) (guard_products_added (guard_of guards n) g.outcome g.middle new v g.joins)

behind_products_added : (current : List (Option ℕ)) (register : ℕ) (o : Option ℕ) (old new : Draft) (v : ℕ) → MadeBehind current register o old new v → AddsNone old new
behind_products_added current register None old new v m = shown_products_added current register old new v m
behind_products_added current register (Some value) old new v m = none_none old new m.0

choice_products_added : (o : Option ℕ) (c : Choice) (old new : Draft) (before after : Values) → MadeChoiceBy o c old new before after → AddsNone old new
choice_products_added None c old new before after m = none_none old new m.0
choice_products_added (Some test) c old new before after m =
    none_again old m.first new (behind_products_added before.current.items c.register c.chosen old m.first m.yes_value m.chosen)
    (none_again m.first m.second new (behind_products_added before.current.items c.register c.other m.first m.second m.no_value m.other) (none_pushed m.second new m.value None (Select test m.yes_value m.no_value) m.pushes refl))

choices_products_added : (tests : List ℕ) (choices : List Choice) (count : ℕ) (old new : Draft) (before after : Values) → MadeChoices tests choices count old new before after → AddsNone old new
choices_products_added tests choices zero old new before after m = none_none old new m.0
choices_products_added tests choices (suc n) old new before after m =
    none_again old m.0 new (choices_products_added tests choices n old m.0 before m.1.0 m.1.1.1.0) (choice_products_added (slice_get tests (m.1.1.0).path) m.1.1.0 m.0 new m.1.0 after m.1.1.1.1.1)

none_plus : (n : ℕ) → 0 + n ≤ n
none_plus n = omega arith

arm_products_added : (Inner : Commanding) (around : Around) (holds : Truth) (tests : List ℕ) (old new : Building) (first next : ℕ) (lefts : List Left) (m : MadeArm Inner around holds tests old new first next lefts) (p : ℕ) → length tests ≡ paths_counted around
    → AddsProducts m.begin.draft m.inside.draft (p * paths_counted m.arm) → AddsProducts old.draft new.draft (p * paths_counted around)
arm_products_added Inner around holds tests old new first next lefts m p many inner =
    subst (λ (d : Draft). AddsProducts old.draft d (p * paths_counted around)) (sym m.draft)
    (subst (λ (n : ℕ). AddsProducts old.draft m.inside.draft (p * n)) (arm_long holds around.guards.now tests (length tests) old.draft m.guarded m.arm.guards.now m.guards ∙ many)
    (products_within old.draft m.inside.draft (0 + p * paths_counted m.arm) (p * paths_counted m.arm) (none_plus (p * paths_counted m.arm))
    (products_again old.draft m.guarded m.inside.draft 0 (p * paths_counted m.arm) (guards_products_added holds around.guards.now tests (length tests) old.draft m.guarded m.arm.guards.now m.guards)
    (subst (λ (d : Draft). AddsProducts d m.inside.draft (p * paths_counted m.arm)) m.begin_draft inner))))

-- All commands.

still_products_added : (old new : Building) (n : ℕ) → new ≡ old → AddsProducts old.draft new.draft (0 * n)
still_products_added old new n still = products_within old.draft new.draft 0 (0 * n) (no_times n) (none_none old.draft new.draft (ap (λ (b : Building). b.draft) still))

plus_none : (n : ℕ) → n + 0 ≤ n
plus_none n = omega arith

both_products_added : (a b d : Draft) (p q n : ℕ) → AddsProducts a b (p * n) → AddsProducts b d (q * n) → AddsProducts a d ((p + q) * n)
both_products_added a b d p q n h k = subst (λ (i : ℕ). AddsProducts a d i) (times_sum p q n) (products_again a b d (p * n) (q * n) h k)

module _ (scene : Scene) where
  view_products_added : (hidden : List Hidden) (form : ViewPlan) (around : Around) (old new : Building) (first next : ℕ) → BlockStandsIn scene around → MadeView scene hidden form around old new first next
      → AddsProducts old.draft new.draft (offset_products hidden (terms (offsets_of form)) * paths_counted around)
  view_products_added [] form around old new first next s m = still_products_added old new (paths_counted around) m.still
  view_products_added (h ∷ hs) form around old new first next s m =
      lanes_products_added (λ n b d k. MadeKept scene (lane_of around n) first h.entity (offsets_of form) b d k) (all_products_in (terms (offsets_of form)))
      (λ n b d k one. kept_products_added scene (lane_of around n) s first h.entity (offsets_of form) b d k one) (paths_counted around) first old new next m

  mutual
    command_products_added : (a : Action) (around : Around) (old new : Building) (first next : ℕ) → BlockStandsIn scene around → MadeCommand scene a around old new first next → AddsProducts old.draft new.draft (action_products (known_in scene) a * paths_counted around)
    command_products_added (action id place form) around old new first next s m = own_products_added form around old new first next s m

    own_products_added : (form : ActionForm) (around : Around) (old new : Building) (first next : ℕ) → BlockStandsIn scene around → MadeActionForm scene form around old new first next
        → AddsProducts old.draft new.draft (own_products (known_in scene) form * paths_counted around)
    own_products_added (lets name declared (Some value)) around old new first next s m =
        lanes_products_added (λ n b d k. MadeAssigned scene (lane_of around n) first (entity_number name.entity) value b d k) (products_in value)
        (λ n b d k one. assigned_products_added scene (lane_of around n) s first (entity_number name.entity) value b d k one) (paths_counted around) first old new next m
    own_products_added (lets name declared None) around old new first next s m =
        lanes_products_added (λ n b d k. MadeCleared scene (lane_of around n) (entity_number name.entity) b d × (k ≡ first)) 0
        (λ n b d k one. cleared_products_added scene (lane_of around n) s (entity_number name.entity) b d one.0) (paths_counted around) first old new next m
    own_products_added (assigns target value) around old new first next s m =
        lanes_products_added (λ n b d k. MadeAssigned scene (lane_of around n) first (entity_number target.entity) value b d k) (products_in value)
        (λ n b d k one. assigned_products_added scene (lane_of around n) s first (entity_number target.entity) value b d k one) (paths_counted around) first old new next m
    own_products_added (stores target value) around old new first next s m =
        lanes_products_added (λ n b d k. MadeStored scene (lane_of around n) first target value b d k) (products_in value + aim_products (form_of target))
        (λ n b d k one. stored_products_added scene (lane_of around n) s first target value b d k one) (paths_counted around) first old new next m
    own_products_added (reduces target op value) around old new first next s m =
        lanes_products_added (λ n b d k. MadeReduced scene (lane_of around n) first (entity_number target.entity) op value b d k) (product_of op + products_in value)
        (λ n b d k one. reduced_products_added scene (lane_of around n) s first (entity_number target.entity) op value b d k one) (paths_counted around) first old new next m
    own_products_added (decides test chosen other) around old new first next s m =
        let many : length m.tests ≡ paths_counted around = (tests_same scene around first test (paths_counted around) old m.tested m.own m.tests m.test).1 in
        let joined : AddsNone m.after_other.draft new.draft =
        choices_products_added m.tests m.joined.choices (length m.joined.choices) m.after_other.draft new.draft m.joined.middle new.values m.joined.choose in
        let two : AddsProducts m.after_chosen.draft m.after_other.draft (other_products (known_in scene) other * paths_counted around) =
        other_products_added other around m.tests m.after_chosen m.after_other m.behind next m.other_left s many m.other in
        let last : AddsProducts m.after_chosen.draft new.draft (other_products (known_in scene) other * paths_counted around) =
        products_within m.after_chosen.draft new.draft (other_products (known_in scene) other * paths_counted around + 0) (other_products (known_in scene) other * paths_counted around) (plus_none (other_products (known_in scene) other * paths_counted around))
        (products_again m.after_chosen.draft m.after_other.draft new.draft (other_products (known_in scene) other * paths_counted around) 0 two joined) in
        both_products_added old.draft m.tested.draft new.draft (products_in test) (action_products (known_in scene) chosen + other_products (known_in scene) other) (paths_counted around)
        (tests_products_added scene around s first test (paths_counted around) old m.tested m.own m.tests m.test)
        (both_products_added m.tested.draft m.after_chosen.draft new.draft (action_products (known_in scene) chosen) (other_products (known_in scene) other) (paths_counted around)
        (arm_products_added (MadeCommand scene chosen) around true m.tests m.tested m.after_chosen m.own m.behind m.chosen_left m.chosen (action_products (known_in scene) chosen) many
        (command_products_added chosen m.chosen.arm m.chosen.begin m.chosen.inside m.own m.behind
        (stands_arm scene (MadeCommand scene chosen) around true m.tests m.tested m.after_chosen m.own m.behind m.chosen_left m.chosen s many) m.chosen.command)) last)
    own_products_added (blocks body) around old new first next s m = groups_products_added body around old new first next s m
    own_products_added (lets_memory name shape shape_places value) around old new first next s m = still_products_added old new (paths_counted around) m.still
    own_products_added (views name parent form) around old new first next s m = view_products_added (hidden_in (way_of (known_in scene) name)) form around old new first next s m
    own_products_added (calls function arguments) around old new first next s m = still_products_added old new (paths_counted around) m.still
    own_products_added (repeats test body) around old new first next s m = still_products_added old new (paths_counted around) m.still
    own_products_added (counts iterator declared low high factor body combine combine_place) around old new first next s m = still_products_added old new (paths_counted around) m.still

    other_products_added : (other : MaybeAction) (around : Around) (tests : List ℕ) (old new : Building) (first next : ℕ) (lefts : List Left) → BlockStandsIn scene around → length tests ≡ paths_counted around
        → MadeOther scene other around tests old new first next lefts → AddsProducts old.draft new.draft (other_products (known_in scene) other * paths_counted around)
    other_products_added no_action around tests old new first next lefts s many m = still_products_added old new (paths_counted around) m.still
    other_products_added (one_action a) around tests old new first next lefts s many m =
        arm_products_added (MadeCommand scene a) around false tests old new first next lefts m (action_products (known_in scene) a) many
        (command_products_added a m.arm m.begin m.inside first next (stands_arm scene (MadeCommand scene a) around false tests old new first next lefts m s many) m.command)

    part_products_added : (part : Actions) (around : Around) (old new : Building) (first next : ℕ) → BlockStandsIn scene around → MadeActions scene part around old new first next
        → AddsProducts old.draft new.draft (part_products (known_in scene) part * paths_counted around)
    part_products_added no_actions around old new first next s m = still_products_added old new (paths_counted around) m.still
    part_products_added (action_then a rest) around old new first next s m =
        both_products_added old.draft m.middle.draft new.draft (action_products (known_in scene) a) (part_products (known_in scene) rest) (paths_counted around) (command_products_added a around old m.middle first m.own s m.one)
        (part_products_added rest around m.middle new m.own next s m.rest)

    groups_products_added : (body : Groups) (around : Around) (old new : Building) (first next : ℕ) → BlockStandsIn scene around → MadeGroups scene body around old new first next
        → AddsProducts old.draft new.draft (groups_products (known_in scene) body * paths_counted around)
    groups_products_added no_groups around old new first next s m = still_products_added old new (paths_counted around) m.still
    groups_products_added (group_then g rest) around old new first next s m =
        both_products_added old.draft m.middle.draft new.draft (part_products (known_in scene) g) (groups_products (known_in scene) rest) (paths_counted around) (part_products_added g around old m.middle first m.own s m.one)
        (groups_products_added rest around m.middle new m.own next s m.rest)

pub commands_have_products : CommandsHaveProducts
commands_have_products scene a around old new first next s m = command_products_added scene a around old new first next s m

pub groups_have_products : GroupsHaveProducts
groups_have_products scene body around old new first next s m = groups_products_added scene body around old new first next s m
