-- The code of each form of command, in front of what stands behind it.
use Rattle.std.proofs.Common.{◌≡◌, ℕ, zero, suc, ◌+◌, ◌-◌, ◌<◌, ◌≤◌, true, false, List, [], ◌∷◌, ◌++◌, length, map, drop, get_or, Some, None, refl, ap, sym, ◌∙◌, subst, arith}
use Rattle.std.specs.Prelude.{Option, Vec, slice_range}
use Rattle.std.specs.Global.{Global}
use denote.Ref.{Bor}
use Rattle.std.proofs.Math.Seq.{drop-cons}
use Rattle.dh_value.specs.declared.kinds.Kind.{Kind}
use Rattle.dh_value.specs.declared.operators.Op.{Op}
use Rattle.dh_value.specs.Operations as operations
use Rattle.dh_tree.specs.declared.tables.MemEntry.{MemEntry}
use Rattle.dh_tree.specs.declared.trees.expressions.Ref.{Ref}
use Rattle.dh_tree.specs.declared.trees.commands.Command.{Command}
use Rattle.dh_tree.specs.PlainTrees as plain
use Rattle.dh_tree.specs.PlainTrees.{Action as PlainAction, ActionForm, Actions, Groups}
use Rattle.dh_tree.specs.Seen.{action_form_seen, action_seen, actions, groups, part_seen}
use Rattle.dh_tree.specs.Memories.{Memory, memory_in}
use Rattle.dh_tree.specs.Seen.{terms}
use Rattle.dh_tree.specs.ViewOffsets.{offsets_of}
use Rattle.dh_meaning.specs.AccessNumbers.{accesses_of, part_accesses, terms_accesses}
use Rattle.dh_meaning.specs.Core.{Reach, by_indices, by_row, CoreTerm, variable, truth_literal, CoreTerms, no_terms, term_and, CoreCommand, store, assign, choose, CoreCommands, no_commands, command_and}
use Rattle.dh_meaning.specs.Core as core
use Rattle.dh_meaning.specs.Phases.{Located}
use Rattle.dh_meaning.specs.CoreOf.{Known, core_action, core_action_form, core_commands, core_groups, core_part, core_term, core_terms, depth_of, entity_number, folded_into, kept_by, kind_of, memory_of, operation_of, reach_of, store_to, way_of}
use Rattle.dh_meaning.specs.Ways.{Hidden, base_of, hidden_in, way_at, way_unless}
use Rattle.dh_code.specs.declared.codes.Access.{Access}
use Rattle.dh_code.specs.declared.codes.Action.TheVariants.{Store, Assign, Choose}
use Rattle.dh_code.specs.declared.codes.Code.{Code}
use Rattle.dh_code.specs.declared.codes.FlatExpression.{FlatExpression}
use Rattle.dh_code.specs.declared.codes.Operand.{Operand}
use Rattle.dh_code.specs.declared.codes.Operand.TheVariants.{Constant}
use Rattle.dh_code.specs.declared.codes.Target.{Target}
use Rattle.dh_code.specs.declared.codes.Target.TheVariants.{Row}
use Rattle.dh_code.specs.declared.flattening.Names.{Names}
use Rattle.dh_code.specs.declared.places.VariableSlots.{VariableSlots}
use Rattle.dh_code.specs.Coded.{AreSlotsOf}
use Rattle.dh_code.specs.Extended.{extension_of}
use Rattle.dh_code.specs.Flattening.{AddsOnlyOperations, AddsBinary, AddsStep, Aims, AreMade, ExtendsTo, FlattensCommand, IsAimed, IsFlatMade, IsInFront, IsExpressionMade, IsPlacingOf, IsStillAt, aimed_at, is_aimed, known_by_names, table_in}
use Rattle.dh_code.specs.Made.{Aimed, MadeExpression, access_to, aimed_target, target_made, term_made, terms_made, variable_operand}
use Rattle.dh_code.specs.Operated.{IsValidAccess, IsValidOperand, IsOperation}
use Rattle.dh_code.specs.Slots.{Placing, held_at}
use Rattle.dh_code.specs.Suited.{AreSuited, CanDoAll, IsSuited}
use Rattle.dh_code.proofs.CommandForms.{flat_held, flat_is, in_front}
use Rattle.dh_code.proofs.CommandsCoded.{adds_extend, begins_before, coded_stays, extends_none, extends_then, flat_stays, front_coded, held_stays, range_added, sound_added, sound_step, step_extends}
use Rattle.dh_code.proofs.Flattened.{adds_long, adds_none, adds_then, binary_flat}
use Rattle.dh_code.proofs.MadeParts.{all_append, made_done, operands_suited, target_done}
use Rattle.dh_code.proofs.TargetsMade.{aimed_made, first_suited}

-- What a store to a target is.

abbrev pub stored_by : Option (Reach × core.Target) → CoreTerm → CoreCommand
stored_by None value = choose (truth_literal false) no_commands no_commands
stored_by (Some (r, t)) value = store r t value

pub store_by : (known : Known) (n : ℕ) (target : plain.Term) (value : CoreTerm) → store_to known n target value ≡ stored_by (aimed_at known n target) value
store_by known n (plain.term at kind (plain.accessed r indices)) value = refl
store_by known n (plain.term at kind (plain.in_bank r bank bank_place row)) value = refl
store_by known n (plain.term at kind (plain.number negative v)) value = refl
store_by known n (plain.term at kind (plain.truth_value v)) value = refl
store_by known n (plain.term at kind (plain.named r)) value = refl
store_by known n (plain.term at kind (plain.applied o left right)) value = refl
store_by known n (plain.term at kind (plain.converted inner to)) value = refl

-- Where no ways are known, no name has one.

pub no_way : (ms : List Memory) (entity : Option ℕ) → way_at ms [] entity ≡ None
no_way ms entity = by (memory_in ms entity)
  where
    by : (m : Option Memory) → way_unless m None ≡ None
    by (Some m) = refl
    by None = refl

pub own_base : (ms : List Memory) (entity : Option ℕ) → base_of (way_at ms [] entity) entity ≡ entity
own_base ms entity = ap (λ w. base_of w entity) (no_way ms entity)

-- an access by indices, and in a row of a bank
pub aimed_by_indices : (names : Names) (old new : Code) (n : ℕ) (target : plain.Term) (place : _) (kind : Option Kind) (r : Ref) (indices : List plain.Term) (memory : ℕ) (os : List Operand) (t : Target) → target ≡ plain.term place kind (plain.accessed r (terms indices)) → memory ≡ memory_of (known_by_names names) r
    → ((n : ℕ) → AreSuited (table_in names) (core_terms (known_by_names names) n (terms indices)) → AreMade old new os (terms_made names.places.now (table_in names) (length old.operations) (core_terms (known_by_names names) n (terms indices))))
    → Aims names r os t → IsAimed names old new (aimed_at (known_by_names names) n target) (Some (record { place = place; memory = memory; target = t }))
aimed_by_indices names old new n target place kind r indices memory os t is number_is flat aims =
    subst (λ (x : plain.Term). IsAimed names old new (aimed_at (known_by_names names) n x) (Some (record { place = place; memory = memory; target = t }))) (sym is)
    (λ suits.
    let w = way_of (known_by_names names) r in
    let ts = core_terms (known_by_names names) n (terms indices) in
    let reach = reach_of (known_by_names names) (n + terms_accesses (terms indices)) place r in
    let m = flat n (first_suited (table_in names) (memory_of (known_by_names names) r) w ts suits) in
    let made = aimed_made names.places.now (table_in names) (length old.operations) w ts in (
      subst (λ (x : Aimed). AddsOnlyOperations old new x.operations) (sym made) m.adds,
      ap (λ x. record { place = place; memory = x; target = t }) number_is
          ∙ (ap (λ x. record { place = place; memory = memory_of (known_by_names names) r; target = x }) (aims ∙ ap (λ l. aimed_target names.places.now w l) m.values)
          ∙ ap (λ (x : Aimed). access_to reach x.target) (sym made)),
    ))

pub aimed_by_row : (names : Names) (old new : Code) (n : ℕ) (target : plain.Term) (place : _) (kind : Option Kind) (r : Ref) (bank : ℕ) (bank_place : _) (row : plain.Term) (memory : ℕ) (o : Operand) → target ≡ plain.term place kind (plain.in_bank r bank bank_place row) → memory ≡ memory_of (known_by_names names) r
    → ((n : ℕ) → IsSuited (table_in names) (core_term (known_by_names names) n row) → IsExpressionMade old new o (term_made names.places.now (table_in names) (length old.operations) (core_term (known_by_names names) n row)))
    → IsAimed names old new (aimed_at (known_by_names names) n target) (Some (record { place = place; memory = memory; target = Row bank o }))
aimed_by_row names old new n target place kind r bank bank_place row memory o is number_is flat =
    subst (λ (t : plain.Term). IsAimed names old new (aimed_at (known_by_names names) n t) (Some (record { place = place; memory = memory; target = Row bank o }))) (sym is)
    (λ suits.
    let m = flat n suits.1 in
    (m.adds, ap (λ x. record { place = place; memory = x; target = Row bank o }) number_is ∙ ap (λ x. record { place = place; memory = memory_of (known_by_names names) r; target = Row bank x }) m.value))

-- An assignment of what was made.
module _ (names : Names) (p : Placing) (loops : List ℕ) (same : p.held ≡ names.places.now) where
  slots_are : (entity first depth : ℕ) → first ≡ (held_at names.places.now entity).first → depth ≡ (held_at names.places.now entity).depth → AreSlotsOf names.places.now entity first depth
  slots_are entity first depth f d = record { first_is = f; depth_is = d }

  pub assign_front : (old mid new : Code) (entity deep : ℕ) (t : CoreTerm) (f : FlatExpression) (next first : Option ℕ) (rest : CoreCommands)
      → CanDoAll (table_in names) p loops (command_and (assign deep entity t) rest) → (IsSuited (table_in names) t → IsFlatMade old mid (term_made names.places.now (table_in names) (length old.operations) t) f)
      → AddsStep mid new (Assign f (held_at names.places.now entity).first (held_at names.places.now entity).depth) next first → IsInFront names old new first next (command_and (assign deep entity t) rest) rest
  assign_front old mid new entity deep t f next first rest can flat step =
      let made = flat can.0.1.0 in
      in_front names old mid new (term_made names.places.now (table_in names) (length old.operations) t).operations (Assign f (held_at names.places.now entity).first (held_at names.places.now entity).depth) next first (assign deep entity t) rest made.adds step
      (flat_is names.places.now (table_in names) old mid t f made, slots_are entity _ _ refl refl)
      (λ entries. ((made_done names.places.now (table_in names) entries (length old.operations) t can.0.1.0).operations, flat_held names.places.now (table_in names) old mid t f entries can.0.1.0 made))

-- A reducer.
module _ (names : Names) (p : Placing) (loops : List ℕ) (placing : IsPlacingOf p names) where
  reduced_flat : (a b b' c c' : Code) (r : Ref) (o : Op) (k to kind : Kind) (t : CoreTerm) (x' y y' z : Operand) → kind ≡ kind_of (known_by_names names) r → to ≡ extension_of o kind k
      → ExtendsTo a b (variable_operand names.places.now kind (entity_number r.entity)) to x' → (IsSuited (table_in names) t → IsExpressionMade b c y (term_made names.places.now (table_in names) (length b.operations) t)) → ExtendsTo c c' y to y' → AddsBinary c' b' o x' y' z
      → IsSuited (table_in names) (operation_of o (kind_of (known_by_names names) r) k (variable (kind_of (known_by_names names) r) (depth_of (known_by_names names) r) (entity_number r.entity)) t)
      → IsExpressionMade a b' z (term_made names.places.now (table_in names) (length a.operations) (operation_of o (kind_of (known_by_names names) r) k (variable (kind_of (known_by_names names) r) (depth_of (known_by_names names) r) (entity_number r.entity)) t))
  reduced_flat a b b' c c' r o k to kind t x' y y' z kinds is first flat second adds suits =
      let held = names.places.now in
      let table = table_in names in
      let j = kind_of (known_by_names names) r in
      let v = variable j (depth_of (known_by_names names) r) (entity_number r.entity) in
      let both = operands_suited held table o j k v t suits in
      let start : IsExpressionMade a a (variable_operand held kind (entity_number r.entity)) (term_made held table (length a.operations) v) = record { adds = adds_none a; value = ap (λ q. variable_operand held q (entity_number r.entity)) kinds } in
      let one = first a (term_made held table (length a.operations) v) start in
      let two = second b (term_made held table (length b.operations) t) (flat both.1) in
      binary_flat held table a b b' z o j k to v t x' (is ∙ ap (λ q. extension_of o q k) kinds) one (adds a b _ _ one two)

  pub reduce_front : (a b b' c c' new : Code) (r : Ref) (o : Op) (k to : Kind) (t : CoreTerm) (x' y y' z : Operand) (next first : Option ℕ) (rest : CoreCommands)
      → CanDoAll (table_in names) p loops (command_and (folded_into (known_by_names names) r o k t) rest) → to ≡ extension_of o (held_at names.places.now (entity_number r.entity)).kind k
      → ExtendsTo a b (variable_operand names.places.now (held_at names.places.now (entity_number r.entity)).kind (entity_number r.entity)) to x'
      → (IsSuited (table_in names) t → IsExpressionMade b c y (term_made names.places.now (table_in names) (length b.operations) t)) → ExtendsTo c c' y to y' → AddsBinary c' b' o x' y' z
      → AddsStep b' new (Assign (record { from = length a.operations; to = length b'.operations; value = z }) (held_at names.places.now (entity_number r.entity)).first (held_at names.places.now (entity_number r.entity)).depth) next first
      → IsInFront names a new first next (command_and (folded_into (known_by_names names) r o k t) rest) rest
  reduce_front a b b' c c' new r o k to t x' y y' z next first rest can is extends flat extends' adds step =
      let e = entity_number r.entity in
      let kinds : (held_at names.places.now e).kind ≡ kind_of (known_by_names names) r = ap (λ l. (held_at l e).kind) (sym placing.held) ∙ placing.kinds e can.0.0.known in
      let whole = operation_of o (kind_of (known_by_names names) r) k (variable (kind_of (known_by_names names) r) (depth_of (known_by_names names) r) e) t in
      assign_front names p loops placing.held a b' new e (depth_of (known_by_names names) r) whole (record { from = length a.operations; to = length b'.operations; value = z }) next first rest can
      (λ suits. let m = reduced_flat a b b' c c' r o k to (held_at names.places.now e).kind t x' y y' z kinds is extends flat extends' adds suits in record { adds = m.adds; from = refl; to = refl; value = m.value }) step

-- A store.
module _ (names : Names) (p : Placing) (loops : List ℕ) (old mid mid' new : Code) (t : CoreTerm) (v : Operand) (next first : Option ℕ) (rest : CoreCommands)
    (flat : IsSuited (table_in names) t → IsExpressionMade old mid v (term_made names.places.now (table_in names) (length old.operations) t)) where
  abbrev held : List VariableSlots
  held = names.places.now

  abbrev table : List MemEntry
  table = table_in names

  abbrev one : MadeExpression
  one = term_made held table (length old.operations) t

  pub store_front : (o : Option (Reach × core.Target)) (a : Access) → CanDoAll table p loops (command_and (stored_by o t) rest) → IsAimed names mid mid' o (Some a)
      → AddsStep mid' new (Store (record { from = length old.operations; to = length mid'.operations; value = v }) a) next first → IsInFront names old new first next (command_and (stored_by o t) rest) rest
  store_front None a can aimed step = absurd aimed
  store_front (Some (r, target)) a can aimed step =
      let m = flat can.0.1.0 in
      let aim = aimed can.0.0.0 in
      let long = adds_long old mid one.operations m.adds in
      let two = (target_made held table (length old.operations + length one.operations) target) in
      let moved = subst (λ (n : ℕ). AddsOnlyOperations mid mid' (target_made held table n target).operations) long aim.0 in
      let all = adds_then old mid mid' one.operations two.operations m.adds moved in
      let longer = adds_long old mid' (one.operations ++ two.operations) all in
      let f : FlatExpression = record { from = length old.operations; to = length mid'.operations; value = v } in
      let same : a ≡ access_to r two.target = aim.1 ∙ ap (λ n. access_to r (target_made held table n target).target) long in
      in_front names old mid' new (one.operations ++ two.operations) (Store f a) next first (store r target t) rest all step
      (record {
        within = under (length old.operations) (length (one.operations ++ two.operations)) (length mid'.operations) longer;
        there = at_end (length mid'.operations);
        operations = ap (λ l. slice_range l (length old.operations) (length mid'.operations)) all.operations ∙ range_added old.operations (one.operations ++ two.operations) (length mid'.operations) longer;
        value = m.value;
        access = same;
      })
      (λ entries.
      let d = made_done held table entries (length old.operations) t can.0.1.0 in
      let e = target_done held table entries (length old.operations + length one.operations) r.memory target can.0.0.0 in (
        all_append (IsOperation table) one.operations two.operations d.operations e.0,
        (
          record { within = under (length old.operations) (length (one.operations ++ two.operations)) (length mid'.operations) longer; there = at_end (length mid'.operations); operand = subst IsValidOperand (sym m.value) d.value },
          subst (λ (x : Access). IsValidAccess table x) (sym same) e.1,
        ),
      ))
    where
      under : (a b c : ℕ) → c ≡ a + b → a ≤ c
      under a b c e = omega (arith, e)

      at_end : (n : ℕ) → n ≤ n
      at_end n = omega arith

-- Nothing is done where a test that is false has no arms.
pub nothing_front : (names : Names) (old new : Code) (f : FlatExpression) (next first : Option ℕ) (rest : CoreCommands) → AddsStep old new (Choose f None None) next first → IsStillAt old (Constant (operations.truth false)) f
    → IsInFront names old new first next (command_and (choose (truth_literal false) no_commands no_commands) rest) rest
nothing_front names old new f next first rest step still =
    let made : IsFlatMade old old (term_made names.places.now (table_in names) (length old.operations) (truth_literal false)) f = record { adds = adds_none old; from = still.from; to = still.to; value = still.value_is } in
    in_front names old old new [] (Choose f None None) next first (choose (truth_literal false) no_commands no_commands) rest (adds_none old) step
    (flat_is names.places.now (table_in names) old old (truth_literal false) f made, (tt, tt))
    (λ entries. (tt, (flat_held names.places.now (table_in names) old old (truth_literal false) f entries tt made, (tt, tt))))

pub aimed_somewhere : (names : Names) (old new : Code) (n : ℕ) (target : plain.Term) → is_aimed target ≡ true → IsAimed names old new (aimed_at (known_by_names names) n target) None → ⊥
aimed_somewhere names old new n (plain.term at kind (plain.accessed r indices)) e h = h
aimed_somewhere names old new n (plain.term at kind (plain.in_bank r bank bank_place row)) e h = h
aimed_somewhere names old new n (plain.term at kind (plain.number negative v)) e h = absurd cc
aimed_somewhere names old new n (plain.term at kind (plain.truth_value v)) e h = absurd cc
aimed_somewhere names old new n (plain.term at kind (plain.named r)) e h = absurd cc
aimed_somewhere names old new n (plain.term at kind (plain.applied o left right)) e h = absurd cc
aimed_somewhere names old new n (plain.term at kind (plain.converted inner to)) e h = absurd cc

pub aimed_nowhere : (known : Known) (n : ℕ) (target : plain.Term) (value : CoreTerm) → is_aimed target ≡ false → store_to known n target value ≡ choose (truth_literal false) no_commands no_commands
aimed_nowhere known n (plain.term at kind (plain.accessed r indices)) value e = absurd cc
aimed_nowhere known n (plain.term at kind (plain.in_bank r bank bank_place row)) value e = absurd cc
aimed_nowhere known n (plain.term at kind (plain.number negative v)) value e = refl
aimed_nowhere known n (plain.term at kind (plain.truth_value v)) value e = refl
aimed_nowhere known n (plain.term at kind (plain.named r)) value e = refl
aimed_nowhere known n (plain.term at kind (plain.applied o left right)) value e = refl
aimed_nowhere known n (plain.term at kind (plain.converted inner to)) value e = refl

-- An `if`: its test, its arms, and the command.
pub choose_front : (names : Names) (p : Placing) (loops : List ℕ) (old a b c new : Code) (test : CoreTerm) (chosen other : CoreCommands) (f : FlatExpression) (one two next first : Option ℕ) (rest : CoreCommands)
    → CanDoAll (table_in names) p loops (command_and (choose test chosen other) rest) → (IsSuited (table_in names) test → IsFlatMade old a (term_made names.places.now (table_in names) (length old.operations) test) f)
    → (CanDoAll (table_in names) p loops chosen → IsInFront names a b one None chosen no_commands) → (CanDoAll (table_in names) p loops other → IsInFront names b c two None other no_commands)
    → AddsStep c new (Choose f one two) next first → IsInFront names old new first next (command_and (choose test chosen other) rest) rest
choose_front names p loops old a b c new test chosen other f one two next first rest can flat first_arm second_arm step =
    let held = names.places.now in
    let table = table_in names in
    let made = flat can.0.0.1.0 in
    let l = first_arm can.0.1.0 in
    let r = second_arm can.0.1.1 in
    let start = adds_extend old a (term_made held table (length old.operations) test).operations made.adds in
    let arms = extends_then a b c l.extends r.extends in
    let all = extends_then old a c start arms in
    let tested = flat_is held table old a test f made in
    let left = coded_stays held table b c r.extends one chosen (l.coded tt) in
    let right = r.coded tt in
    record {
      extends = extends_then old c new all (step_extends c new (Choose f one two) next first step);
      coded = λ i. front_coded held table c new (Choose f one two) next first (choose test chosen other) rest step (flat_stays held table a c arms test f tested, (left, right)) (coded_stays held table old c all next rest i);
      sound = λ entries i s.
          let there = coded_stays held table old c all next rest i in
          let s_a = sound_added table old a (term_made held table (length old.operations) test).operations made.adds (made_done held table entries (length old.operations) test can.0.0.1.0).operations s in
          let s_b = l.sound entries tt s_a in
          let s_c = r.sound entries tt s_b in
          sound_step table c new (Choose f one two) next first step
          (held_stays a c f arms (flat_held held table old a test f entries can.0.0.1.0 made), (begins_before held table c one chosen left, begins_before held table c two other right))
          (begins_before held table c next rest there) s_c;
    }

-- Commands one after the other.

pub front_none : (names : Names) (c : Code) (first : Option ℕ) (cs : CoreCommands) → IsInFront names c c first first cs cs
front_none names c first cs = record { extends = extends_none c; coded = λ i. i; sound = λ entries i s. s }

pub front_then : (names : Names) (a b c : Code) (x y z : Option ℕ) (cs ds es : CoreCommands) → IsInFront names a b y x ds cs → IsInFront names b c z y es ds → IsInFront names a c z x es cs
front_then names a b c x y z cs ds es h k = record {
  extends = extends_then a b c h.extends k.extends;
  coded = λ i. k.coded (h.coded i);
  sound = λ entries i s. k.sound entries (h.coded i) (h.sound entries i s);
}

module _ (known : Known) (table : List MemEntry) (p : Placing) (loops : List ℕ) where
  behind_kept : (hidden : List Hidden) (ts : CoreTerms) (rest : CoreCommands) → CanDoAll table p loops (kept_by hidden ts rest) → CanDoAll table p loops rest
  behind_kept hidden no_terms rest h = h
  behind_kept [] (term_and t ts) rest h = h
  behind_kept (x ∷ hidden) (term_and t ts) rest h = h.1

  mutual
    -- what stands behind a command that can be done can be done
    pub can_behind : (n : ℕ) (a : PlainAction) (rest : CoreCommands) → CanDoAll table p loops (core_action known n a rest) → CanDoAll table p loops rest
    can_behind n (plain.action id place form) rest h = can_behind_form n form rest h

    can_behind_form : (n : ℕ) (form : ActionForm) (rest : CoreCommands) → CanDoAll table p loops (core_action_form known n form rest) → CanDoAll table p loops rest
    can_behind_form n (plain.lets name declared value) rest h = h.1
    can_behind_form n (plain.assigns target value) rest h = h.1
    can_behind_form n (plain.stores target value) rest h = h.1
    can_behind_form n (plain.reduces target o value) rest h = h.1
    can_behind_form n (plain.decides test chosen other) rest h = h.1
    can_behind_form n (plain.blocks body) rest h = can_behind_groups n body rest h
    can_behind_form n (plain.lets_memory name shape shape_places value) rest h = h
    can_behind_form n (plain.views name parent form) rest h = behind_kept (hidden_in (way_of known name)) (core_terms known n (terms (offsets_of form))) rest h
    can_behind_form n (plain.calls function arguments) rest h = h
    can_behind_form n (plain.repeats test body) rest h = h
    can_behind_form n (plain.counts iterator declared low high factor body combine combine_place) rest h = h

    pub can_behind_part : (n : ℕ) (part : Actions) (rest : CoreCommands) → CanDoAll table p loops (core_part known n part rest) → CanDoAll table p loops rest
    can_behind_part n plain.no_actions rest h = h
    can_behind_part n (plain.action_then a behind) rest h = can_behind_part (n + accesses_of a) behind rest (can_behind n a (core_part known (n + accesses_of a) behind rest) h)

    pub can_behind_groups : (n : ℕ) (gs : Groups) (rest : CoreCommands) → CanDoAll table p loops (core_groups known n gs rest) → CanDoAll table p loops rest
    can_behind_groups n plain.no_groups rest h = h
    can_behind_groups n (plain.group_then part behind) rest h = can_behind_groups (n + part_accesses part) behind rest (can_behind_part n part (core_groups known (n + part_accesses part) behind rest) h)

-- a command by what is seen of its form
pub front_as : (names : Names) (old new : Code) (c : Command) (first next : Option ℕ) (form : ActionForm) → action_form_seen c.form ≡ form
    → ((p : Placing) (loops : List ℕ) (n : ℕ) (rest : CoreCommands) → IsPlacingOf p names → CanDoAll (table_in names) p loops (core_action_form (known_by_names names) n form rest) → IsInFront names old new first next (core_action_form (known_by_names names) n form rest) rest)
    → FlattensCommand names old new c first next
front_as names old new c first next form is h p loops n rest placing can =
    subst (λ (f : ActionForm). IsInFront names old new first next (core_action_form (known_by_names names) n f rest) rest) (sym is) (h p loops n rest placing (subst (λ (f : ActionForm). CanDoAll (table_in names) p loops (core_action_form (known_by_names names) n f rest)) is can))

-- parts and commands from one on
abbrev pub FlattensPart : Names → (old new : Code) → List Command → (first next : Option ℕ) → Type 0
FlattensPart names old new cs first next =
    (p : Placing) (loops : List ℕ) (n : ℕ) (rest : CoreCommands) → IsPlacingOf p names → CanDoAll (table_in names) p loops (core_part (known_by_names names) n (actions (map action_seen cs)) rest)
    → IsInFront names old new first next (core_part (known_by_names names) n (actions (map action_seen cs)) rest) rest

abbrev pub FlattensGroups : Names → (old new : Code) → List (Vec Command Global) → (first next : Option ℕ) → Type 0
FlattensGroups names old new parts first next =
    (p : Placing) (loops : List ℕ) (n : ℕ) (rest : CoreCommands) → IsPlacingOf p names → CanDoAll (table_in names) p loops (core_groups (known_by_names names) n (groups (map part_seen parts)) rest)
    → IsInFront names old new first next (core_groups (known_by_names names) n (groups (map part_seen parts)) rest) rest

drop_back : {A : Type 0} (xs : List A) (i : ℕ) (d : A) → 0 < i → i ≤ length xs → drop (i - 1) xs ≡ get_or xs (i - 1) d ∷ drop i xs
drop_back xs i d some within = drop-cons xs (i - 1) d (omega (arith, some, within)) ∙ ap (λ n. get_or xs (i - 1) d ∷ drop n xs) (back i some)
  where
    back : (i : ℕ) → 0 < i → suc (i - 1) ≡ i
    back i e = omega (arith, e)

drop_all : {A : Type 0} (xs : List A) → drop (length xs) xs ≡ []
drop_all [] = refl
drop_all (x ∷ xs) = drop_all xs

pub part_begins : (names : Names) (c : Code) (cs : List Command) (first : Option ℕ) → FlattensPart names c c (drop (length cs) cs) first first
part_begins names c cs first = subst (λ (l : List Command). FlattensPart names c c l first first) (sym (drop_all cs)) (λ p loops n rest placing can. front_none names c first rest)

pub part_turn : (names : Names) (old now new : Code) (cs : List Command) (i : ℕ) (c : Command) (next first before : Option ℕ) → 0 < i → i ≤ length cs → c ≡ get_or cs (i - 1) c → FlattensCommand names now new c before first → FlattensPart names old now (drop i cs) first next
    → FlattensPart names old new (drop (i - 1) cs) before next
part_turn names old now new cs i c next first before some within is flattens h =
    subst (λ (l : List Command). FlattensPart names old new l before next) (sym (drop_back cs i c some within ∙ ap (λ x. x ∷ drop i cs) (sym is)))
    (λ p loops n rest placing can.
    let behind = actions (map action_seen (drop i cs)) in
    let m = n + accesses_of (action_seen c) in
    let less = can_behind (known_by_names names) (table_in names) p loops n (action_seen c) (core_part (known_by_names names) m behind rest) can in
    front_then names old now new next first before rest (core_part (known_by_names names) m behind rest) _ (h p loops m rest placing less) (flattens p loops n (core_part (known_by_names names) m behind rest) placing can))

pub groups_begin : (names : Names) (c : Code) (parts : List (Vec Command Global)) (first : Option ℕ) → FlattensGroups names c c (drop (length parts) parts) first first
groups_begin names c parts first = subst (λ (l : List (Vec Command Global)). FlattensGroups names c c l first first) (sym (drop_all parts)) (λ p loops n rest placing can. front_none names c first rest)

pub groups_turn : (names : Names) (old now new : Code) (parts : List (Vec Command Global)) (i : ℕ) (part : Vec Command Global) (next first before : Option ℕ) → 0 < i → i ≤ length parts → part ≡ get_or parts (i - 1) part → FlattensPart names now new part.items before first → FlattensGroups names old now (drop i parts) first next
    → FlattensGroups names old new (drop (i - 1) parts) before next
groups_turn names old now new parts i part next first before some within is flattens h =
    subst (λ (l : List (Vec Command Global)). FlattensGroups names old new l before next) (sym (drop_back parts i part some within ∙ ap (λ x. x ∷ drop i parts) (sym is)))
    (λ p loops n rest placing can.
    let behind = groups (map part_seen (drop i parts)) in
    let m = n + part_accesses (part_seen part) in
    let less = can_behind_part (known_by_names names) (table_in names) p loops n (part_seen part) (core_groups (known_by_names names) m behind rest) can in
    front_then names old now new next first before rest (core_groups (known_by_names names) m behind rest) _ (h p loops m rest placing less) (flattens p loops n (core_groups (known_by_names names) m behind rest) placing can))

-- commands of a straight phase from one on
pub record CommandsFrom (names : Names) (old new : Code) (cs : List (Bor Command)) (i : ℕ) (first : Option ℕ) : Type 0 where
  pub so : (p : Placing) (loops : List ℕ) (ls : List Located) → map (λ l. l.command) ls ≡ map (λ c. action_seen c.now) cs → IsPlacingOf p names → CanDoAll (table_in names) p loops (core_commands (known_by_names names) (drop i ls))
      → IsInFront names old new first None (core_commands (known_by_names names) (drop i ls)) no_commands

located_at : (cs : List (Bor Command)) (ls : List Located) (i : ℕ) (c : Bor Command) → map (λ l. l.command) ls ≡ map (λ x. action_seen x.now) cs → i < length cs → (l : Located) × ((drop i ls ≡ l ∷ drop (suc i) ls) × (l.command ≡ action_seen (get_or cs i c).now))
located_at [] ls i c e within = absurd (none i within)
  where
    none : (n : ℕ) → n < 0 → ⊥
    none n e = omega (arith, e)
located_at (x ∷ cs) [] i c e within = absurd cc
located_at (x ∷ cs) (l ∷ ls) zero c e within = (l, (refl, first e))
  where
    first : l.command ∷ map (λ l. l.command) ls ≡ action_seen x.now ∷ map (λ x. action_seen x.now) cs → l.command ≡ action_seen x.now
    first e = cc
located_at (x ∷ cs) (l ∷ ls) (suc i) c e within = located_at cs ls i c (rest e) (less (length cs) within)
  where
    rest : l.command ∷ map (λ l. l.command) ls ≡ action_seen x.now ∷ map (λ x. action_seen x.now) cs → map (λ l. l.command) ls ≡ map (λ x. action_seen x.now) cs
    rest e = cc

    less : (m : ℕ) → suc i < suc m → i < m
    less m e = omega (arith, e)

located_none : (cs : List (Bor Command)) (ls : List Located) → map (λ l. l.command) ls ≡ map (λ x. action_seen x.now) cs → drop (length cs) ls ≡ []
located_none [] [] e = refl
located_none [] (l ∷ ls) e = absurd cc
located_none (x ∷ cs) [] e = absurd cc
located_none (x ∷ cs) (l ∷ ls) e = located_none cs ls (rest e)
  where
    rest : l.command ∷ map (λ l. l.command) ls ≡ action_seen x.now ∷ map (λ x. action_seen x.now) cs → map (λ l. l.command) ls ≡ map (λ x. action_seen x.now) cs
    rest e = cc

pub commands_begin : (names : Names) (c : Code) (cs : List (Bor Command)) → CommandsFrom names c c cs (length cs) None
commands_begin names c cs = record { so = λ p loops ls same placing can. subst (λ (l : List Located). IsInFront names c c None None (core_commands (known_by_names names) l) no_commands) (sym (located_none cs ls same)) (front_none names c None no_commands) }

pub commands_turn : (names : Names) (old now new : Code) (cs : List (Bor Command)) (i : ℕ) (c : Bor Command) (x : Command) (first before : Option ℕ) → 0 < i → i ≤ length cs → x ≡ (get_or cs (i - 1) c).now → FlattensCommand names now new x before first → CommandsFrom names old now cs i first → CommandsFrom names old new cs (i - 1) before
commands_turn names old now new cs i c x first before some within is flattens h = record { so = λ p loops ls same placing can. by p loops ls same placing can (located_at cs ls (i - 1) c same (omega (arith, some, within))) }
  where
    back : suc (i - 1) ≡ i
    back = omega (arith, some)

    by : (p : Placing) (loops : List ℕ) (ls : List Located) → map (λ l. l.command) ls ≡ map (λ c. action_seen c.now) cs → IsPlacingOf p names → CanDoAll (table_in names) p loops (core_commands (known_by_names names) (drop (i - 1) ls))
        → (l : Located) × ((drop (i - 1) ls ≡ l ∷ drop (suc (i - 1)) ls) × (l.command ≡ action_seen (get_or cs (i - 1) c).now)) → IsInFront names old new before None (core_commands (known_by_names names) (drop (i - 1) ls)) no_commands
    by p loops ls same placing can (l, (split, command)) =
        let all = core_commands (known_by_names names) (drop i ls) in
        let whole : core_commands (known_by_names names) (drop (i - 1) ls) ≡ core_action (known_by_names names) l.first (action_seen x) all =
        ap (λ d. core_commands (known_by_names names) d) (split ∙ ap (λ n. l ∷ drop n ls) back) ∙ ap (λ a. core_action (known_by_names names) l.first a all) (command ∙ ap action_seen (sym is)) in
        let can' = subst (λ (d : CoreCommands). CanDoAll (table_in names) p loops d) whole can in
        let less = can_behind (known_by_names names) (table_in names) p loops l.first (action_seen x) all can' in
        subst (λ (d : CoreCommands). IsInFront names old new before None d no_commands) (sym whole)
        (front_then names old now new None first before no_commands all _ (h.so p loops ls same placing less) (flattens p loops l.first all placing can'))
