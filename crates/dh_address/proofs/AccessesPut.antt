-- What is put down of an access: tests, a guard, row and bank, of values that stand; and the access in a row, which takes
-- all that the old one took.
use Rattle.std.proofs.Common.{◌≡◌, ℕ, ◌<◌, ◌≤◌, ◌==◌, Some, None, List, Bool, true, false, not, length, map, refl, sym, subst, ◌∙◌, arith}
use Rattle.std.specs.Prelude.{[], ◌∷◌, ◌++◌, Option}
use Rattle.std.specs.List.{AllByRecursion}
use Rattle.std.proofs.lemmas.Bool.Decides.{nat_tests}
use Rattle.dh_value.specs.declared.kinds.Kind.{Kind}
use Rattle.dh_value.specs.declared.kinds.Kind.TheVariants as kind
use Rattle.dh_value.specs.Words.{IsInteger}
use Rattle.dh_tree.specs.declared.tables.MemEntry.{MemEntry}
use Rattle.dh_tree.specs.Elements.{dims_at}
use Rattle.dh_tree.specs.Shapes.{IsProgramTable}
use Rattle.dh_plan.specs.declared.operations.Operation.{Operation}
use Rattle.dh_plan.specs.declared.operations.Reach.{Reach}
use Rattle.dh_plan.specs.Ordered.{one_or_none, offsets_taken, reach_takes}
use Rattle.dh_plan.specs.PlainPlans.{PlainPlan}
use Rattle.dh_plan.specs.PlanKinds.{ReachSuits}
use Rattle.dh_plan.proofs.ValuesAlike.{all_left, all_right}
use Rattle.dh_rows.specs.Readings.{Readings, Obeys, IsEarlierValue, OperationsGrow, AddsOperations, IsReadingValue, IsValueOrNone}
use Rattle.dh_rows.specs.RowsShown.{IsInput}
use Rattle.dh_rows.proofs.Growing.{grows_self, grows_on, value_later, maybe_later, adds_self, adds_on, earlier_later}
use Rattle.dh_address.specs.declared.literals.LiteralPlace.{LiteralPlace}
use Rattle.dh_address.specs.declared.operands.BlockValue.{BlockValue}
use Rattle.dh_address.specs.LiteralPlaces.{literal_places}
use Rattle.dh_address.specs.Pieces.{RenumberedBlock, new_number, new_or_none, known_kind, indices_and_offsets, operand_values, aimed_reach, is_banked, aim_width, select_width, waited, IsAimedReach}
use Rattle.dh_address.specs.WaysMade.{operand_of}
use Rattle.dh_address.proofs.TestedRanges.{IsThere, all_there, begun_later}
use Rattle.dh_address.proofs.AimedRows.{HasSelect, PlaceFits, index_aim_put, waited_put, IsInputOrNone}
use Rattle.dh_address.proofs.LiteralMeans.{dims_formed, elements_below, width_suffices, bank_fits, select_suffices, literal_place_is}

pub all_join : {A : Type 0} (P : A → Type 0) (xs ys : List A) → AllByRecursion P xs → AllByRecursion P ys → AllByRecursion P (xs ++ ys)
all_join P [] ys h k = k
all_join P (x ∷ xs) ys h k = (h.0, all_join P xs ys h.1 k)

-- indices are as many as the memory's dimensions, where there is no row
abbrev pub HasMany : List MemEntry → Reach → (row : Option ℕ) → List BlockValue → Type 0
HasMany table r None is = length is ≡ length (dims_at table r.memory)
HasMany table r (Some row) is = Unit {0}

-- What is put down.

module _ (x : Readings) (clock : ℕ) (a : RenumberedBlock) where
  -- the new value of an old one stands at a clock, and is of its kind
  pub record IsInputOf (own v : ℕ) : Type 0 where
    pub earlier : IsEarlierValue x clock own (new_number a v)
    pub kind_is : x.kind (new_number a v) ≡ known_kind a v

  pub input_value : (os : List Operation) (v : ℕ) → IsInputOf (length os) v → IsReadingValue x clock os (known_kind a v) (new_number a v)
  input_value os v h o = record { earlier = h.earlier; kind_is = h.kind_is }

  input_as : (os : List Operation) (k : Kind) (v : ℕ) → known_kind a v ≡ k → IsInputOf (length os) v → IsReadingValue x clock os k (new_number a v)
  input_as os k v e h o = record { earlier = h.earlier; kind_is = h.kind_is ∙ e }

  pub maybe_value : (os : List Operation) (k : Kind) (v : Option ℕ) → AllByRecursion (λ g. known_kind a g ≡ k) (one_or_none v) → AllByRecursion (IsInputOf (length os)) (one_or_none v)
      → IsValueOrNone x clock os k (new_or_none a v)
  maybe_value os k None e h = tt
  maybe_value os k (Some v) e h = input_as os k v e.0 h.0

  pub maybe_input : (os : List Operation) (v : Option ℕ) → AllByRecursion (IsInputOf (length os)) (one_or_none v) → IsInputOrNone x clock os (new_or_none a v)
  maybe_input os None h = tt
  maybe_input os (Some v) h = λ o. h.0.earlier

  pub input_later : (own next v : ℕ) → own ≤ next → IsInputOf own v → IsInputOf next v
  input_later own next v l h = record { earlier = earlier_later x clock own next (new_number a v) l h.earlier; kind_is = h.kind_is }

  -- Ranges.

  abbrev pub IsNumberKnown : ℕ → Type 0
  IsNumberKnown v = IsInteger (known_kind a v)

  -- what a value of the old plan has become is there
  pub operand_there : (os : List Operation) (v : ℕ) → IsNumberKnown v → IsInputOf (length os) v → IsThere x clock os (operand_of a v)
  operand_there os v k h = record { sized = k; stands = input_value os v h }

  pub operands_there : (os : List Operation) (vs : List ℕ) → AllByRecursion IsNumberKnown vs → AllByRecursion (IsInputOf (length os)) vs → AllByRecursion (IsThere x clock os) (map (operand_of a) vs)
  operands_there os [] k h = tt
  operands_there os (v ∷ vs) k h = (operand_there os v k.0 h.0, operands_there os vs k.1 h.1)

  there_inputs : (os : List Operation) (is : List BlockValue) → AllByRecursion (IsThere x clock os) is → AllByRecursion (λ i. IsInput x clock os i) (operand_values is)
  there_inputs os [] h = tt
  there_inputs os (i ∷ is) h = (λ o. (h.0.stands o).earlier, there_inputs os is h.1)

  -- Rows and banks.

  -- a value that is there, of an integer kind, or of a kind without sign
  abbrev pub IsNumberThere : List Operation → ℕ → Type 0
  IsNumberThere os v = Obeys x os → IsEarlierValue x clock (length os) v × IsInteger (x.kind v)

  abbrev pub IsCountThere : List Operation → ℕ → Type 0
  IsCountThere os v = Obeys x os → IsEarlierValue x clock (length os) v × ((w : ℕ) × (x.kind v ≡ kind.Unsigned w))

  -- a bank is picked, or there is one alone
  abbrev pub IsPicked : Reach → Option ℕ → Type 0
  IsPicked r None = length r.banks ≡ 1
  IsPicked r (Some v) = Unit {0}

  pub record PutsAccess (r : Reach) (old last : List Operation) (t : Reach) : Type 0 where
    pub adds : AddsOperations x clock old last
    pub taken : List ℕ
    pub row : ℕ
    pub select : Option ℕ
    pub reach : t ≡ aimed_reach r taken row select
    pub taken_there : AllByRecursion (IsNumberThere last) taken
    pub row_there : IsNumberThere last row
    pub select_there : AllByRecursion (IsCountThere last) (one_or_none select)
    pub picks : IsPicked r select

  number_there : (os : List Operation) (k : Kind) (v : ℕ) → IsInteger k → IsReadingValue x clock os k v → IsNumberThere os v
  number_there os k v sized h o = let s = h o in (s.earlier, subst (λ (l : Kind). IsInteger l) (sym s.kind_is) sized)

  numbers_there : (old os : List Operation) → OperationsGrow old os → (vs : List ℕ) → AllByRecursion IsNumberKnown vs → AllByRecursion (IsInputOf (length old)) vs
      → AllByRecursion (IsNumberThere os) (map (new_number a) vs)
  numbers_there old os g [] k h = tt
  numbers_there old os g (v ∷ vs) k h =
      (number_there os (known_kind a v) (new_number a v) k.0 (value_later x clock old os (known_kind a v) (new_number a v) g (input_value old v h.0)), numbers_there old os g vs k.1 h.1)

  maybe_number : (os : List Operation) (width : ℕ) (v : Option ℕ) → IsInteger (kind.Unsigned width) → IsValueOrNone x clock os (kind.Unsigned width) v → AllByRecursion (IsNumberThere os) (one_or_none v)
  maybe_number os width None sized h = tt
  maybe_number os width (Some v) sized h = (number_there os (kind.Unsigned width) v sized h, tt)

  maybe_count : (os : List Operation) (width : ℕ) (v : Option ℕ) → IsValueOrNone x clock os (kind.Unsigned width) v → AllByRecursion (IsCountThere os) (one_or_none v)
  maybe_count os width None h = tt
  maybe_count os width (Some v) h = (λ o. (let s = h o in (s.earlier, (width, s.kind_is))), tt)

  pub picked : (r : Reach) (select : Option ℕ) → HasSelect (is_banked r) select → IsPicked r select
  picked r None h = of (length r.banks == 1) refl h
    where
      of : (t : Bool) → (length r.banks == 1) ≡ t → HasSelect (not t) None → length r.banks ≡ 1
      of true e h = grind (arith, nat_tests)
      of false e h = absurd (cc)
  picked r (Some v) h = tt

  -- of an access by row the old one says which bank is picked
  abbrev pub IsPicksGiven : Reach → Option ℕ → Type 0
  IsPicksGiven r None = Unit {0}
  IsPicksGiven r (Some row) = IsPicked r r.select

  picks_given : (r : Reach) (select : Option ℕ) → IsPicked r select → IsPicked r (new_or_none a select)
  picks_given r None h = h
  picks_given r (Some v) h = tt

  counts_there : (old : List Operation) (select : Option ℕ) → AllByRecursion (λ v. (w : ℕ) × (known_kind a v ≡ kind.Unsigned w)) (one_or_none select) → AllByRecursion (IsInputOf (length old)) (one_or_none select)
      → AllByRecursion (IsCountThere old) (one_or_none (new_or_none a select))
  counts_there old None k h = tt
  counts_there old (Some v) k h = (λ o. (h.0.earlier, (k.0.0, h.0.kind_is ∙ k.0.1)), tt)

  -- indices and offsets at their new numbers
  taken_there : (old os : List Operation) → OperationsGrow old os → (r : Reach) → AllByRecursion IsNumberKnown (r.indices ++ offsets_taken r.steps) → AllByRecursion (IsInputOf (length old)) (reach_takes r)
      → AllByRecursion (IsNumberThere os) (indices_and_offsets a r)
  taken_there old os g r k h =
      let P = IsInputOf (length old) in
      let behind = all_right P r.indices _ h in
      all_join (IsNumberThere os) (map (new_number a) r.indices) (map (new_number a) (offsets_taken r.steps))
      (numbers_there old os g r.indices (all_left IsNumberKnown r.indices (offsets_taken r.steps) k) (all_left P r.indices _ h))
      (numbers_there old os g (offsets_taken r.steps) (all_right IsNumberKnown r.indices (offsets_taken r.steps) k) (all_left P (offsets_taken r.steps) _ behind))

  module _ (p : PlainPlan) (tables : a.table ≡ p.table) (formed : IsProgramTable p.table) (r : Reach) (suits : ReachSuits p a.first a.kinds r) where
    place_fits : (is : List BlockValue) (place : Option LiteralPlace) → literal_places (dims_at a.table r.memory) is 0 0 ≡ place → length is ≡ length (dims_at a.table r.memory)
        → PlaceFits x clock (aim_width (dims_at a.table r.memory)) (select_width (dims_at a.table r.memory)) place
    place_fits is None e long = tt
    place_fits is (Some place) e long =
        let of_a = subst (λ (t : _). IsProgramTable t) (sym tables) formed in
        let l = literal_place_is (dims_at a.table r.memory) is place (dims_formed a.table r.memory of_a.entries) (elements_below a.table r.memory of_a) long e in
        let w = (width_suffices a.table r.memory of_a).most in
        (less place.row _ _ l.row_small w, bank_fits (select_width (dims_at a.table r.memory)) (dims_at a.table r.memory) place.bank (select_suffices a.table r.memory of_a) l.bank_within)
      where
        less : (n m b : ℕ) → n < m → m < b → n < b
        less n m b l k = omega (arith, l, k)

    pub aims_put : (row : Option ℕ) → r.row ≡ row → IsPicksGiven r row → (is : List BlockValue) (old last : List Operation) (t : Reach) → IsAimedReach a r row is old last t → x.first ≤ length old
        → HasMany a.table r row is → AllByRecursion (IsThere x clock old) is → AllByRecursion (IsInputOf (length old)) (reach_takes r) → PutsAccess r old last t
    aims_put None e picks is old last t h begun long there taken =
        let P = IsInputOf (length old) in
        let behind = all_right P r.indices _ taken in
        let last_taken = all_right P (offsets_taken r.steps) _ behind in
        let select_in = all_left P (one_or_none r.select) (one_or_none r.row) last_taken in
        let w = waited_put x clock old (new_or_none a r.select) begun (maybe_input old r.select select_in) in
        let mid = (waited old (new_or_none a r.select)).operations in
        let g = w.adds.grows in
        let wide = width_suffices a.table r.memory (subst (λ (tb : _). IsProgramTable tb) (sym tables) formed) in
        let few = select_suffices a.table r.memory (subst (λ (tb : _). IsProgramTable tb) (sym tables) formed) in
        let aim = index_aim_put x clock (literal_places (dims_at a.table r.memory) is 0 0) (aim_width (dims_at a.table r.memory)) (select_width (dims_at a.table r.memory)) (dims_at a.table r.memory)
        (operand_values is) (is_banked r) mid last h.row h.select h.aim wide few.sized (place_fits is _ refl long) (begun_later x old mid g begun) (there_inputs mid is (all_there x clock old mid g is there))
        in
        record {
          adds = adds_on x clock old mid last w.adds aim.adds;
          taken = indices_and_offsets a r ++ one_or_none (waited old (new_or_none a r.select)).sum;
          row = h.row;
          select = h.select;
          reach = h.reach;
          taken_there =
              all_join (IsNumberThere last) (indices_and_offsets a r) (one_or_none (waited old (new_or_none a r.select)).sum)
              (taken_there old last (grows_on old mid last g aim.adds.grows) r suits.indices taken)
              (maybe_number last 1 (waited old (new_or_none a r.select)).sum (omega arith, omega arith)
              (maybe_later x clock mid last (kind.Unsigned 1) (waited old (new_or_none a r.select)).sum aim.adds.grows w.stands));
          row_there = number_there last (kind.Unsigned (aim_width (dims_at a.table r.memory))) h.row wide.sized aim.row_stands;
          select_there = maybe_count last (select_width (dims_at a.table r.memory)) h.select aim.select_stands;
          picks = picked r h.select aim.has;
        }
    aims_put (Some row) e picks is old last t h begun long there taken =
        let P = IsInputOf (length old) in
        let behind = all_right P r.indices _ taken in
        let last_taken = all_right P (offsets_taken r.steps) _ behind in
        let select_in = all_left P (one_or_none r.select) (one_or_none r.row) last_taken in
        let row_in = subst (λ (o : Option ℕ). AllByRecursion P (one_or_none o)) e (all_right P (one_or_none r.select) (one_or_none r.row) last_taken) in
        let row_number = subst (λ (o : Option ℕ). AllByRecursion IsNumberKnown (one_or_none o)) e suits.row in
        subst (λ (os : List Operation). PutsAccess r old os t) (sym h.0)
        (record {
          adds = adds_self x clock old;
          taken = indices_and_offsets a r;
          row = new_number a row;
          select = new_or_none a r.select;
          reach = h.1;
          taken_there = taken_there old old (grows_self old) r suits.indices taken;
          row_there = number_there old (known_kind a row) (new_number a row) row_number.0 (input_value old row row_in.0);
          select_there = counts_there old r.select suits.select select_in;
          picks = picks_given r r.select picks;
        })
