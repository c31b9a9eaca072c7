-- Operations in a row. What the wires so far show is what the values of the row begin with, so that with the values of
-- the rest behind them they are the values of the row; in the end nothing is left.
use Rattle.std.proofs.Common.{◌≡◌, ℕ, zero, suc, ◌+◌, ◌-◌, ◌<◌, Some, None, List, drop, length, get_or, refl, sym, ap, subst, ◌∙◌, arith}
use Rattle.std.specs.Prelude.{[], ◌∷◌, ◌++◌, Option, slice_get, slice_index}
use Rattle.std.specs.List.{AllByRecursion}
use Rattle.std.proofs.Math.Nat.{add-sub_cancel_left}
use Rattle.std.proofs.lemmas.List.{drop_more, get_or_append_left, length-append}
use Rattle.std.proofs.lemmas.Option.{slice_get_read}
use Rattle.dh_value.specs.declared.kinds.Kind.{Kind}
use Rattle.dh_value.specs.declared.kinds.Kind.TheVariants as kind
use Rattle.dh_value.specs.declared.words.Word.{Word}
use Rattle.dh_value.specs.Operations.{Suits}
use Rattle.dh_value.specs.Words.{width_of, with_bits}
use Rattle.dh_tree.specs.declared.tables.MemEntry.{MemEntry}
use Rattle.dh_plan.specs.declared.operations.Operation.{Operation}
use Rattle.dh_plan.specs.declared.operations.OperationForm.{OperationForm}
use Rattle.dh_plan.specs.declared.operations.OperationForm.TheVariants.{Constant, Old, Compute, Convert, Select, Check, Probe, Read, Write, Set}
use Rattle.dh_plan.specs.Blocks.{StepStart, is_on, form_word, guarded, operation_word, values_behind, values_of_operations, AreValues}
use Rattle.dh_plan.specs.BlockLaws.{SameAt, LooksBack}
use Rattle.dh_plan.specs.Ordered.{one_or_none, offsets_taken, form_takes, operation_takes, IsBetween}
use Rattle.dh_plan.specs.PlainPlans.{PlainPlan}
use Rattle.dh_plan.specs.PlanKinds.{kind_of_value, form_kind, kinds_behind}
use Rattle.dh_plan.proofs.BlocksSolved.{block_solves}
use Rattle.dh_plan.proofs.ValuesAlike.{all_left, all_right, all_map, bank_same}
use Rattle.dh_lower.specs.ShownWords.{words_shown, bank_or_first, if_listed}
use Rattle.dh_cells.specs.PlainCircuits.{PlainCircuit}
use Rattle.dh_cells.specs.Settled.{Signals, IsSettled, Grows, IsWire, Adds, shown}
use Rattle.dh_cells.proofs.CellsAppended.{wire_stays, settled_fewer, grows_then, grows_none}
use Rattle.dh_datapath.specs.declared.rows.RowWires.{RowWires}
use Rattle.dh_datapath.specs.BlockWires.{start_shown, ports_look, operation_bits, CanShow, operation_ports, row_look, row_kinds, IsFormedRow, RowAdded}
use Rattle.dh_datapath.specs.ReadWires.{bank_held}
use Rattle.dh_datapath.specs.ValueWires.{AreValueWires, GuardIsThere, value_words}
use Rattle.dh_datapath.proofs.FormsMade.{guarded_kind, form_word_kind}
use Rattle.dh_datapath.proofs.ShownValueWords.{same_length}

-- One value more.

words_more : (ks : List Kind) (ws : List ℕ) (k : Kind) (w : ℕ) (wires : List ℕ) → length ks ≡ length ws
    → words_shown (ks ++ k ∷ []) (ws ++ w ∷ []) wires ≡ words_shown ks ws wires ++ with_bits k (slice_index wires w) ∷ []
words_more [] [] k w wires h = refl
words_more [] (v ∷ ws) k w wires h = absurd (let e = h in omega (arith, e))
words_more (l ∷ ks) [] k w wires h = absurd (let e = h in omega (arith, e))
words_more (l ∷ ks) (v ∷ ws) k w wires h = ap (λ (vs : List Word). with_bits l (slice_index wires v) ∷ vs) (words_more ks ws k w wires (let e = h in omega (arith, e)))

words_long : (ks : List Kind) (ws wires : List ℕ) → length ks ≡ length ws → length (words_shown ks ws wires) ≡ length ws
words_long [] [] wires h = refl
words_long [] (v ∷ ws) wires h = absurd (let e = h in omega (arith, e))
words_long (l ∷ ks) [] wires h = absurd (let e = h in omega (arith, e))
words_long (l ∷ ks) (v ∷ ws) wires h = ap suc (words_long ks ws wires (let e = h in omega (arith, e)))

pub values_later : (d e : PlainCircuit) (ks : List Kind) (ws : List ℕ) → Grows d e → AreValueWires d ks ws → AreValueWires e ks ws
values_later d e [] [] g h = tt
values_later d e [] (w ∷ ws) g h = absurd h
values_later d e (k ∷ ks) [] g h = absurd h
values_later d e (k ∷ ks) (w ∷ ws) g h = (wire_stays d e w (width_of k) g h.0, values_later d e ks ws g h.1)

wires_more : (d : PlainCircuit) (ks : List Kind) (ws : List ℕ) (k : Kind) (w : ℕ) → AreValueWires d ks ws → IsWire d w (width_of k) → AreValueWires d (ks ++ k ∷ []) (ws ++ w ∷ [])
wires_more d [] [] k w h there = (there, tt)
wires_more d [] (v ∷ ws) k w h there = absurd h
wires_more d (l ∷ ks) [] k w h there = absurd h
wires_more d (l ∷ ks) (v ∷ ws) k w h there = (h.0, wires_more d ks ws k w h.1 there)

-- what reads in a row show depends on what they take
row_looks_back : (table : List MemEntry) (used : List (List (ℕ × ℕ))) (held : List ℕ) (first : ℕ) → LooksBack (row_look table used held first) first
row_looks_back table used held first = record {
  same = λ number r ws vs h.
      let P = SameAt first ws vs in
      let behind = all_right P r.indices _ h in
      let last = all_right P (offsets_taken r.steps) _ behind in
      ap (λ (bank : ℕ). if_listed r.banks (bank_held table r.memory (operation_ports used (number - first)) held (bank_or_first r.banks bank)))
      (bank_same first ws vs r.banks r.select (all_left P (one_or_none r.select) _ last));
}

-- at its place an operation shows what its own ports hold
form_at_place : (s : StepStart) (table : List MemEntry) (used : List (List (ℕ × ℕ))) (held : List ℕ) (first i : ℕ) (vs : List Word) (f : OperationForm)
    → form_word s (row_look table used held first) first vs (first + i) f ≡ form_word s (ports_look table (operation_ports used i) held first) first vs 0 f
form_at_place s table used held first i vs (Constant word) = refl
form_at_place s table used held first i vs (Old register) = refl
form_at_place s table used held first i vs (Compute op left right) = refl
form_at_place s table used held first i vs (Convert inner to) = refl
form_at_place s table used held first i vs (Select test a b) = refl
form_at_place s table used held first i vs (Check ok fault) = refl
form_at_place s table used held first i vs (Probe r fault) = refl
form_at_place s table used held first i vs (Read r) = ap (λ (n : ℕ). form_word s (ports_look table (operation_ports used n) held first) first vs 0 (Read r)) (add-sub_cancel_left first i)
form_at_place s table used held first i vs (Write r value) = refl
form_at_place s table used held first i vs (Set register value) = refl

-- Kinds.

kinds_longer : (ks : List Kind) (k : Kind) → length (ks ++ k ∷ []) ≡ suc (length ks)
kinds_longer ks k = length-append ks (k ∷ []) ∙ omega arith

-- a kind that is made stays
kind_stays : (plan : PlainPlan) (first : ℕ) (os : List Operation) (before : List Kind) (i : ℕ) → i < length before
    → get_or (kinds_behind plan.table plan.registers first before os) i kind.Bool ≡ get_or before i kind.Bool
kind_stays plan first [] before i h = refl
kind_stays plan first (o ∷ os) before i h =
    let k = form_kind plan.table plan.registers first before o.form in
    let l = kinds_longer before k in
    kind_stays plan first os (before ++ k ∷ []) i (omega (arith, h, l)) ∙ get_or_append_left before (k ∷ []) kind.Bool i h

-- what suits the kinds of the row suits those so far
module _ (plan : PlainPlan) (ports : List (ℕ × ℕ)) (first : ℕ) (final ks : List Kind) where
  abbrev Stays : ℕ → Type 0
  Stays number = kind_of_value first final number ≡ kind_of_value first ks number

  can_show_here : (f : OperationForm) → AllByRecursion Stays (form_takes f) → CanShow plan ports first final f → CanShow plan ports first ks f
  can_show_here (Constant word) same h = h
  can_show_here (Old register) same h = h
  can_show_here (Compute op left right) same h =
      subst (λ (k : Kind). Suits op k (kind_of_value first ks right)) same.0 (subst (λ (l : Kind). Suits op (kind_of_value first final left) l) same.1.0 h)
  can_show_here (Convert inner to) same h = h
  can_show_here (Select test a b) same h = (sym same.0 ∙ h.0, sym same.1.0 ∙ (h.1 ∙ same.1.1.0))
  can_show_here (Check ok fault) same h = h
  can_show_here (Probe r fault) same h = h
  can_show_here (Read r) same h = h
  can_show_here (Write r value) same h = h
  can_show_here (Set register value) same h = h

  guard_here : (end : ℕ) (ws : List ℕ) (guard : Option ℕ) → end ≡ first + length ws → AllByRecursion (IsBetween first end) (one_or_none guard) → AllByRecursion Stays (one_or_none guard)
      → AllByRecursion (λ (g : ℕ). kind_of_value first final g ≡ kind.Bool) (one_or_none guard) → GuardIsThere first ks ws guard
  guard_here end ws None is early same truth = tt
  guard_here end ws (Some g) is early same truth = (subst (λ (n : ℕ). IsBetween first n g) is early.0, sym same.0 ∙ truth.0)

-- The row so far: of the first i operations kinds and wires are there.
pub record RowSoFar (start d : PlainCircuit) (plan : PlainPlan) (offset : ℕ) (used : List (List (ℕ × ℕ))) (first : ℕ) (os : List Operation) (i : ℕ) (ks : List Kind) (ws : List ℕ) : Type 0 where
  pub grows : Grows start d
  pub there : AreValueWires d ks ws
  pub long : length ws ≡ i
  pub kinds : kinds_behind plan.table plan.registers first ks (drop i os) ≡ row_kinds plan first os
  pub words : (x : Signals) → IsSettled d x
      → values_behind (start_shown plan offset x) (row_look plan.table used x.held first) first (value_words ks ws x) (drop i os) ≡ values_of_operations (start_shown plan offset x) (row_look plan.table used x.held first) first os

pub row_begins : (d : PlainCircuit) (plan : PlainPlan) (offset : ℕ) (used : List (List (ℕ × ℕ))) (first : ℕ) (os : List Operation) (ks : List Kind) (ws : List ℕ) → ks ≡ [] → ws ≡ []
    → RowSoFar d d plan offset used first os 0 ks ws
row_begins d plan offset used first os ks ws none no_wires =
    subst (λ (l : List Kind). RowSoFar d d plan offset used first os 0 l ws) (sym none)
    (subst (λ (l : List ℕ). RowSoFar d d plan offset used first os 0 [] l) (sym no_wires)
    (record { grows = grows_none d; there = tt; long = refl; kinds = refl; words = λ x settled. refl }))

operation_at : (os : List Operation) (i : ℕ) (o : Operation) → i < length os → o ≡ get_or os i o → slice_get os i ≡ Some o
operation_at os i o inside is = slice_get_read os (length os) i o refl inside is

operations_left : (os : List Operation) (i : ℕ) (o : Operation) → i < length os → o ≡ get_or os i o → drop i os ≡ o ∷ drop (i + 1) os
operations_left os i o inside is = drop_more os i o inside ∙ ap (λ (p : Operation). p ∷ drop (i + 1) os) (sym is)

-- an item by another default
pub item_is : {A : Type 0} (xs : List A) (i : ℕ) (x none : A) → i < length xs → x ≡ get_or xs i x → x ≡ get_or xs i none
item_is [] i x none inside is = absurd (omega (arith, inside))
item_is (y ∷ xs) zero x none inside is = is
item_is (y ∷ xs) (suc i) x none inside is = item_is xs i x none (omega (arith, inside)) is

module _ (start d : PlainCircuit) (plan : PlainPlan) (offset : ℕ) (used : List (List (ℕ × ℕ))) (first : ℕ) (os : List Operation) (i : ℕ) (ks : List Kind) (ws : List ℕ)
    (formed : IsFormedRow plan used first os) (so : RowSoFar start d plan offset used first os i ks ws) (o : Operation) (at : slice_get os i ≡ Some o) (rest : drop i os ≡ o ∷ drop (i + 1) os) where
  own_end : first + i ≡ first + length ws
  own_end = let l = so.long in omega (arith, l)

  stays_here : AllByRecursion (λ (n : ℕ). kind_of_value first (row_kinds plan first os) n ≡ kind_of_value first ks n) (operation_takes o)
  stays_here =
      all_map (IsBetween first (first + i)) (λ (n : ℕ). kind_of_value first (row_kinds plan first os) n ≡ kind_of_value first ks n) (operation_takes o)
      (λ n b. ap (λ (l : List Kind). kind_of_value first l n) (sym so.kinds)
      ∙ kind_stays plan first (drop i os) ks (n - first) (let long = so.long in let same = same_length d ks ws so.there in omega (arith, long, same, b)))
      (formed.ordered.each i o at)

  pub row_guard : GuardIsThere first ks ws o.guard
  row_guard =
      guard_here plan [] first (row_kinds plan first os) ks (first + i) ws o.guard own_end (all_left (IsBetween first (first + i)) (one_or_none o.guard) (form_takes o.form) (formed.ordered.each i o at))
      (all_left (λ (n : ℕ). kind_of_value first (row_kinds plan first os) n ≡ kind_of_value first ks n) (one_or_none o.guard) (form_takes o.form) stays_here) (formed.guards i o at)

  pub row_earlier : AllByRecursion (IsBetween first (first + length ws)) (form_takes o.form)
  row_earlier =
      subst (λ (n : ℕ). AllByRecursion (IsBetween first n) (form_takes o.form)) own_end (all_right (IsBetween first (first + i)) (one_or_none o.guard) (form_takes o.form) (formed.ordered.each i o at))

  pub row_suits : CanShow plan (operation_ports used i) first ks o.form
  row_suits =
      can_show_here plan (operation_ports used i) first (row_kinds plan first os) ks o.form
      (all_right (λ (n : ℕ). kind_of_value first (row_kinds plan first os) n ≡ kind_of_value first ks n) (one_or_none o.guard) (form_takes o.form) stays_here) (formed.forms i o at)

  pub row_turn : (e : PlainCircuit) (wire : ℕ) (kind : Kind) (more_kinds : List Kind) (more_wires : List ℕ) → kind ≡ form_kind plan.table plan.registers first ks o.form
      → more_kinds ≡ ks ++ kind ∷ [] → more_wires ≡ ws ++ wire ∷ []
      → Adds d e wire (width_of (form_kind plan.table plan.registers first ks o.form)) (operation_bits plan offset (operation_ports used i) first ks ws o)
      → RowSoFar start e plan offset used first os (i + 1) more_kinds more_wires
  row_turn e wire kind more_kinds more_wires own kinds_are wires_are added =
      subst (λ (l : List Kind). RowSoFar start e plan offset used first os (i + 1) l more_wires) (sym kinds_are)
      (subst (λ (l : List ℕ). RowSoFar start e plan offset used first os (i + 1) (ks ++ kind ∷ []) l) (sym wires_are)
      (subst (λ (k : Kind). RowSoFar start e plan offset used first os (i + 1) (ks ++ k ∷ []) (ws ++ wire ∷ [])) (sym own) turned))
    where
      k : Kind
      k = form_kind plan.table plan.registers first ks o.form

      same : length ks ≡ length ws
      same = same_length d ks ws so.there

      word_is : (x : Signals) → IsSettled e x
          → operation_word (start_shown plan offset x) (row_look plan.table used x.held first) first (value_words ks ws x) (first + length (value_words ks ws x)) o ≡ with_bits k (shown x wire)
      word_is x settled =
          let s = start_shown plan offset x in
          let vs = value_words ks ws x in
          let place : length vs ≡ i = words_long ks ws x.wires same ∙ so.long in
          let word = form_word s (ports_look plan.table (operation_ports used i) x.held first) first vs 0 o.form in
          let on = is_on first vs o.guard in
          let kind_is : (guarded on word).kind ≡ k
          = guarded_kind on word
          ∙ form_word_kind d plan offset first ks ws so.there (operation_ports used i) x (ports_look plan.table (operation_ports used i) x.held first) 0 o.form row_earlier row_suits in
          ap (λ (n : ℕ). guarded on (form_word s (row_look plan.table used x.held first) first vs (first + n) o.form)) place
          ∙ (ap (λ (w : Word). guarded on w) (form_at_place s plan.table used x.held first i vs o.form)
          ∙ (λ j. with_bits (kind_is j) (sym (added.shows.is x settled) j)))

      turned : RowSoFar start e plan offset used first os (i + 1) (ks ++ k ∷ []) (ws ++ wire ∷ [])
      turned = record {
        grows = grows_then start d e so.grows added.grows;
        there = wires_more e ks ws k wire (values_later d e ks ws added.grows so.there) added.shows.there;
        long = length-append ws (wire ∷ []) ∙ (let l = so.long in omega (arith, l));
        kinds = sym (ap (λ (l : List Operation). kinds_behind plan.table plan.registers first ks l) rest) ∙ so.kinds;
        words = λ x settled.
            let s = start_shown plan offset x in
            let look = row_look plan.table used x.held first in
            let vs = value_words ks ws x in
            ap (λ (l : List Word). values_behind s look first l (drop (i + 1) os)) (words_more ks ws k wire x.wires same ∙ ap (λ (w : Word). vs ++ w ∷ []) (sym (word_is x settled)))
            ∙ (sym (ap (λ (l : List Operation). values_behind s look first vs l) rest) ∙ so.words x (settled_fewer d e x added.grows settled));
      }

-- what the next operation needs, by the lists of the code
pub row_needs : (start d : PlainCircuit) (plan : PlainPlan) (offset : ℕ) (used : List (List (ℕ × ℕ))) (first : ℕ) (os : List Operation) (i : ℕ) (ks own_kinds : List Kind) (ws own_wires : List ℕ) (o : Operation) (ports : List (ℕ × ℕ))
    → IsFormedRow plan used first os → RowSoFar start d plan offset used first os i ks ws → i < length os → o ≡ get_or os i o → own_kinds ≡ ks → own_wires ≡ ws → ports ≡ operation_ports used i
    → GuardIsThere first own_kinds own_wires o.guard × (AllByRecursion (IsBetween first (first + length own_wires)) (form_takes o.form) × CanShow plan ports first own_kinds o.form)
row_needs start d plan offset used first os i ks own_kinds ws own_wires o ports formed so inside is kinds_same wires_same ports_same =
    let at = operation_at os i o inside is in
    let rest = operations_left os i o inside is in
    subst (λ (l : List (ℕ × ℕ)). GuardIsThere first own_kinds own_wires o.guard × (AllByRecursion (IsBetween first (first + length own_wires)) (form_takes o.form) × CanShow plan l first own_kinds o.form)) (sym ports_same)
    (subst (λ (l : List Kind). GuardIsThere first l own_wires o.guard × (AllByRecursion (IsBetween first (first + length own_wires)) (form_takes o.form) × CanShow plan (operation_ports used i) first l o.form)) (sym kinds_same)
    (subst (λ (l : List ℕ). GuardIsThere first ks l o.guard × (AllByRecursion (IsBetween first (first + length l)) (form_takes o.form) × CanShow plan (operation_ports used i) first ks o.form)) (sym wires_same) (
      row_guard start d plan offset used first os i ks ws formed so o at rest,
      (row_earlier start d plan offset used first os i ks ws formed so o at rest, row_suits start d plan offset used first os i ks ws formed so o at rest),
    )))

-- one operation on, by the lists of the code
pub row_goes_on : (start d e : PlainCircuit) (plan : PlainPlan) (offset : ℕ) (used : List (List (ℕ × ℕ))) (first : ℕ) (os : List Operation) (i : ℕ) (ks own_kinds : List Kind) (ws own_wires : List ℕ) (o : Operation) (ports : List (ℕ × ℕ))
    (wire : ℕ) (kind : Kind) (kinds_then more_kinds : List Kind) (more_wires : List ℕ)
    → IsFormedRow plan used first os → RowSoFar start d plan offset used first os i ks ws → i < length os → o ≡ get_or os i o → own_kinds ≡ ks → own_wires ≡ ws → ports ≡ operation_ports used i
    → kinds_then ≡ ks → kind ≡ form_kind plan.table plan.registers first kinds_then o.form → more_kinds ≡ ks ++ kind ∷ [] → more_wires ≡ ws ++ wire ∷ []
    → Adds d e wire (width_of (form_kind plan.table plan.registers first own_kinds o.form)) (operation_bits plan offset ports first own_kinds own_wires o)
    → RowSoFar start e plan offset used first os (i + 1) more_kinds more_wires
row_goes_on start d e plan offset used first os i ks own_kinds ws own_wires o ports wire kind kinds_then more_kinds more_wires formed so inside is kinds_same wires_same ports_same then_same own kinds_are wires_are added =
    row_turn start d plan offset used first os i ks ws formed so o (operation_at os i o inside is) (operations_left os i o inside is) e wire kind more_kinds more_wires
    (own ∙ ap (λ (l : List Kind). form_kind plan.table plan.registers first l o.form) then_same) kinds_are wires_are
    (subst (λ (l : List (ℕ × ℕ)). Adds d e wire (width_of (form_kind plan.table plan.registers first ks o.form)) (operation_bits plan offset l first ks ws o)) ports_same
    (subst (λ (l : List Kind). Adds d e wire (width_of (form_kind plan.table plan.registers first l o.form)) (operation_bits plan offset ports first l ws o)) kinds_same
    (subst (λ (l : List ℕ). Adds d e wire (width_of (form_kind plan.table plan.registers first own_kinds o.form)) (operation_bits plan offset ports first own_kinds l o)) wires_same added)))

-- nothing is left
pub row_ends : (start d : PlainCircuit) (plan : PlainPlan) (offset : ℕ) (used : List (List (ℕ × ℕ))) (first : ℕ) (os : List Operation) (i : ℕ) (row : RowWires)
    → IsFormedRow plan used first os → drop i os ≡ [] → RowSoFar start d plan offset used first os i row.kinds row.wires → RowAdded start d plan offset used first os row
row_ends start d plan offset used first os i row formed none so = record {
  grows = so.grows;
  kinds = sym (ap (λ (l : List Operation). kinds_behind plan.table plan.registers first row.kinds l) none) ∙ so.kinds;
  there = so.there;
  words = λ x settled.
      let s = start_shown plan offset x in
      let look = row_look plan.table used x.held first in
      subst (λ (vs : List Word). AreValues s look first os vs)
      (sym (sym (ap (λ (l : List Operation). values_behind s look first (value_words row.kinds row.wires x) l) none) ∙ so.words x settled))
      (block_solves s look first (row_looks_back plan.table used x.held first) os formed.ordered);
}
