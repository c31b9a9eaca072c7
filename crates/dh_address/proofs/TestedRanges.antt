-- What tests of ranges put down, and what guards show that hold them: plain operations of the values that are tested, and
-- of a guard; and the guard that is given holds where the old one does and all is in range.
use Rattle.std.proofs.Common.{◌≡◌, ℕ, ◌≤◌, Some, None, List, Bool, true, false, ◌&&◌, length, refl, sym, ap, subst, ◌∙◌, arith}
use Rattle.std.specs.Prelude.{[], ◌∷◌, Option, slice_get}
use Rattle.std.specs.List.{AllByRecursion}
use Rattle.dh_value.specs.declared.kinds.Kind.{Kind}
use Rattle.dh_value.specs.declared.kinds.Kind.TheVariants as kind
use Rattle.dh_value.specs.declared.operators.Op.TheVariants as op
use Rattle.dh_value.specs.Words.{IsInteger, IsWord, value_of}
use Rattle.dh_value.specs.Operations.{AreTruths, truth, is_true}
use Rattle.dh_plan.specs.declared.operations.Operation.{Operation}
use Rattle.dh_plan.specs.declared.operations.OperationForm.TheVariants.{Compute}
use Rattle.dh_rows.specs.Readings.{Readings, Obeys, IsEarlierValue, OperationsGrow, AddsOperations, IsReadingValue, IsValueOrNone}
use Rattle.dh_rows.specs.RowsShown.{HoldsOrNone, is_below_size}
use Rattle.dh_rows.proofs.Growing.{grows_self, grows_on, grown_length, plain_grows, kept_there, pushed_grows, obeys_before, pushed_word, value_later, maybe_later, adds_self, adds_on, pushed_adds, pushed_value}
use Rattle.dh_address.specs.declared.operands.BlockValue.{BlockValue}
use Rattle.dh_address.specs.declared.operands.Ranged.{Ranged}
use Rattle.dh_address.specs.LiteralPlaces.{below_size}
use Rattle.dh_address.proofs.ImageReadings.{at_last}
use Rattle.dh_address.specs.Pieces.{IsTestBut, IsRangeTested, both_made, IsGuarded, check_made, AreChecked}

-- Lists grow.

pub test_grows : (literal : Option ℕ) (old new : List Operation) (k : Kind) (value size : ℕ) (test : Option ℕ) → IsTestBut literal old new k value size test → OperationsGrow old new
test_grows None old new k value size test h = plain_grows old new h.0
test_grows (Some n) old new k value size test h = subst (λ (os : List Operation). OperationsGrow old os) (sym h.0) (grows_self old)

pub both_grows : (os : List Operation) (guard test : Option ℕ) → OperationsGrow os (both_made os guard test).operations
both_grows os guard None = grows_self os
both_grows os None (Some test) = grows_self os
both_grows os (Some guard) (Some test) = pushed_grows os None _

pub guards_grow : (guard : Option ℕ) (rs : List Ranged) (old new : List Operation) (on : Option ℕ) → IsGuarded guard rs old new on → OperationsGrow old new
guards_grow guard [] old new on h = subst (λ (os : List Operation). OperationsGrow old os) (sym h.0) (grows_self old)
guards_grow guard (r ∷ rs) old new on (mid, (test, (tested, rest))) =
    grows_on old mid new (test_grows (below_size r.operand.literal r.size) old mid _ _ _ test tested)
    (grows_on mid _ new (both_grows mid guard test) (guards_grow _ rs _ new on rest))

pub check_grows : (os : List Operation) (guard : Option ℕ) (fault : ℕ) (test : Option ℕ) → OperationsGrow os (check_made os guard fault test)
check_grows os guard fault None = grows_self os
check_grows os guard fault (Some test) = pushed_grows os guard _

pub checks_grow : (guard : Option ℕ) (fault : ℕ) (rs : List Ranged) (old new : List Operation) → AreChecked guard fault rs old new → OperationsGrow old new
checks_grow guard fault [] old new h = subst (λ (os : List Operation). OperationsGrow old os) (sym h) (grows_self old)
checks_grow guard fault (r ∷ rs) old new (mid, (test, (tested, rest))) =
    grows_on old mid new (test_grows (below_size r.operand.literal r.size) old mid _ _ _ test tested)
    (grows_on mid _ new (check_grows mid guard fault test) (checks_grow guard fault rs _ new rest))

pub begun_later : (x : Readings) (old new : List Operation) → OperationsGrow old new → x.first ≤ length old → x.first ≤ length new
begun_later x old new g b = let l = grown_length old new g in omega (arith, b, l)

-- What is put down.

module _ (x : Readings) (clock : ℕ) where
  -- plain operations, and a value of a kind that may lack
  pub record PutsMaybe (old new : List Operation) (k : Kind) (value : Option ℕ) : Type 0 where
    pub adds : AddsOperations x clock old new
    pub stands : IsValueOrNone x clock new k value

  pub test_put : (literal : Option ℕ) (old new : List Operation) (k : Kind) (value size : ℕ) (test : Option ℕ) → IsTestBut literal old new k value size test
      → x.first ≤ length old → IsInteger k → IsReadingValue x clock old k value → PutsMaybe old new kind.Bool test
  test_put None old new k value size test h begun sized stands =
      let m = h.1 sized in
      record { adds = m.adds x clock begun stands; stands = m.stands x clock begun stands }
  test_put (Some n) old new k value size test h begun sized stands =
      subst (λ (os : List Operation). PutsMaybe old os kind.Bool test) (sym h.0)
      (subst (λ (t : Option ℕ). PutsMaybe old old kind.Bool t) (sym h.1) (record { adds = adds_self x clock old; stands = tt }))

  pub both_put : (os : List Operation) (guard test : Option ℕ) → x.first ≤ length os → IsValueOrNone x clock os kind.Bool guard → IsValueOrNone x clock os kind.Bool test
      → PutsMaybe os (both_made os guard test).operations kind.Bool (both_made os guard test).sum
  both_put os guard None begun g t = record { adds = adds_self x clock os; stands = g }
  both_put os None (Some test) begun g t = record { adds = adds_self x clock os; stands = t }
  both_put os (Some guard) (Some test) begun g t =
      let takes : (Obeys x os → AllByRecursion (λ v. IsEarlierValue x clock (length os) v) (guard ∷ test ∷ [])) = λ o. ((g o).earlier, ((t o).earlier, tt)) in
      let suits : (Obeys x os → AreTruths (x.kind guard) (x.kind test)) = λ o. two_truths (x.kind guard) (x.kind test) (g o).kind_is (t o).kind_is in
      record {
        adds = pushed_adds x clock os (Compute op.Both guard test) refl begun takes suits;
        stands = pushed_value x clock os (Compute op.Both guard test) refl begun takes suits kind.Bool (λ o. refl);
      }
    where
      two_truths : (k l : Kind) → k ≡ kind.Bool → l ≡ kind.Bool → AreTruths k l
      two_truths k l e f = subst (λ (m : Kind). AreTruths m l) (sym e) (subst (λ (m : Kind). AreTruths kind.Bool m) (sym f) tt)

  -- a value that is there, of an integer kind
  pub record IsThere (os : List Operation) (o : BlockValue) : Type 0 where
    pub sized : IsInteger o.kind
    pub stands : IsReadingValue x clock os o.kind o.value

  pub there_later : (old new : List Operation) → OperationsGrow old new → (o : BlockValue) → IsThere old o → IsThere new o
  there_later old new g o h = record { sized = h.sized; stands = value_later x clock old new o.kind o.value g h.stands }

  pub all_there : (old new : List Operation) → OperationsGrow old new → (is : List BlockValue) → AllByRecursion (IsThere old) is → AllByRecursion (IsThere new) is
  all_there old new g [] h = tt
  all_there old new g (i ∷ is) h = (there_later old new g i h.0, all_there old new g is h.1)

  -- one that is tested
  abbrev pub IsTestable : (os : List Operation) → Ranged → Type 0
  IsTestable os r = IsThere os r.operand

  pub testable_later : (old new : List Operation) → OperationsGrow old new → (rs : List Ranged) → AllByRecursion (IsTestable old) rs → AllByRecursion (IsTestable new) rs
  testable_later old new g [] h = tt
  testable_later old new g (r ∷ rs) h =
      (there_later old new g r.operand h.0, testable_later old new g rs h.1)

  pub tested_put : (r : Ranged) (old new : List Operation) (test : Option ℕ) → IsRangeTested r old new test → x.first ≤ length old → IsTestable old r → PutsMaybe old new kind.Bool test
  tested_put r old new test h begun t = test_put (below_size r.operand.literal r.size) old new _ _ _ test h begun t.sized t.stands

  pub guards_put : (guard : Option ℕ) (rs : List Ranged) (old new : List Operation) (on : Option ℕ) → IsGuarded guard rs old new on
      → x.first ≤ length old → AllByRecursion (IsTestable old) rs → IsValueOrNone x clock old kind.Bool guard → PutsMaybe old new kind.Bool on
  guards_put guard [] old new on h begun testable g =
      subst (λ (os : List Operation). PutsMaybe old os kind.Bool on) (sym h.0)
      (subst (λ (t : Option ℕ). PutsMaybe old old kind.Bool t) (sym h.1) (record { adds = adds_self x clock old; stands = g }))
  guards_put guard (r ∷ rs) old new on (mid, (test, (tested, rest))) begun testable g =
      let grown = test_grows (below_size r.operand.literal r.size) old mid _ _ _ test tested in
      let one = tested_put r old mid test tested begun testable.0 in
      let b = both_put mid guard test (begun_later x old mid grown begun) (maybe_later x clock old mid kind.Bool guard grown g) one.stands in
      let far = grows_on old mid _ grown (both_grows mid guard test) in
      let others = guards_put (both_made mid guard test).sum rs (both_made mid guard test).operations new on rest (begun_later x old _ far begun) (testable_later old _ far rs testable.1) b.stands in
      record { adds = adds_on x clock old mid new one.adds (adds_on x clock mid _ new b.adds others.adds); stands = others.stands }

-- What guards show.

truth_is : (b : Bool) → is_true (truth b) ≡ b
truth_is true = refl
truth_is false = refl

pub and_assoc : (a b c : Bool) → ((a && b) && c) ≡ (a && (b && c))
and_assoc true b c = refl
and_assoc false b c = refl

pub and_true : (a : Bool) → (a && true) ≡ a
and_true true = refl
and_true false = refl

module _ (x : Readings) where
  -- all values are in range
  abbrev pub all_in : List Ranged → Bool
  all_in [] = true
  all_in (r ∷ rs) = is_below_size (value_of (x.word r.operand.value)) r.size && all_in rs

  -- a literal is what the value shows
  pub record IsShown (r : Ranged) : Type 0 where
    pub sized : IsInteger r.operand.kind
    pub word : IsWord (x.word r.operand.value)
    pub kind_is : (x.word r.operand.value).kind ≡ r.operand.kind
    pub literal : (n : ℕ) → below_size r.operand.literal r.size ≡ Some n → is_below_size (value_of (x.word r.operand.value)) r.size ≡ true

  test_holds : (literal : Option ℕ) (old new : List Operation) (k : Kind) (value size : ℕ) (test : Option ℕ) → IsTestBut literal old new k value size test
      → x.first ≤ length old → Obeys x new → IsInteger k → IsWord (x.word value) → (x.word value).kind ≡ k
      → ((n : ℕ) → literal ≡ Some n → is_below_size (value_of (x.word value)) size ≡ true)
      → HoldsOrNone x test (is_below_size (value_of (x.word value)) size)
  test_holds None old new k value size test h begun obeys sized word same lit = (h.1 sized).shown x begun obeys word same
  test_holds (Some n) old new k value size test h begun obeys sized word same lit =
      subst (λ (t : Option ℕ). HoldsOrNone x t (is_below_size (value_of (x.word value)) size)) (sym h.1) (lit n refl)

  pub tested_holds : (r : Ranged) (old new : List Operation) (test : Option ℕ) → IsRangeTested r old new test → x.first ≤ length old → Obeys x new → IsShown r
      → HoldsOrNone x test (is_below_size (value_of (x.word r.operand.value)) r.size)
  tested_holds r old new test h begun obeys shown =
      test_holds (below_size r.operand.literal r.size) old new _ _ _ test h begun obeys shown.sized shown.word shown.kind_is shown.literal

  pub both_hold : (os : List Operation) (guard test : Option ℕ) (b c : Bool) → x.first ≤ length os → Obeys x (both_made os guard test).operations
      → HoldsOrNone x guard b → HoldsOrNone x test c → HoldsOrNone x (both_made os guard test).sum (b && c)
  both_hold os guard None b c begun obeys g t = subst (λ (d : Bool). HoldsOrNone x guard (b && d)) (sym t) (subst (λ (d : Bool). HoldsOrNone x guard d) (sym (and_true b)) g)
  both_hold os None (Some test) b c begun obeys g t = subst (λ (d : Bool). x.word test ≡ truth (d && c)) (sym g) t
  both_hold os (Some guard) (Some test) b c begun obeys g t =
      let e = pushed_word x os (Compute op.Both guard test) refl begun obeys in
      let left = ap is_true g ∙ truth_is b in
      let right = ap is_true t ∙ truth_is c in
      e ∙ (ap (λ (d : Bool). truth (d && is_true (x.word test))) left ∙ ap (λ (d : Bool). truth (b && d)) right)

  pub guards_hold : (guard : Option ℕ) (rs : List Ranged) (old new : List Operation) (on : Option ℕ) (b : Bool) → IsGuarded guard rs old new on
      → x.first ≤ length old → Obeys x new → AllByRecursion (IsShown) rs → HoldsOrNone x guard b → HoldsOrNone x on (b && all_in rs)
  guards_hold guard [] old new on b h begun obeys shown g =
      subst (λ (t : Option ℕ). HoldsOrNone x t (b && true)) (sym h.1) (subst (λ (d : Bool). HoldsOrNone x guard d) (sym (and_true b)) g)
  guards_hold guard (r ∷ rs) old new on b (mid, (test, (tested, rest))) begun obeys shown g =
      let grown = test_grows (below_size r.operand.literal r.size) old mid _ _ _ test tested in
      let both = both_grows mid guard test in
      let more = guards_grow (both_made mid guard test).sum rs (both_made mid guard test).operations new on rest in
      let behind = obeys_before x (both_made mid guard test).operations new more obeys in
      let one = tested_holds r old mid test tested begun (obeys_before x mid (both_made mid guard test).operations both behind) shown.0 in
      let two = both_hold mid guard test b _ (begun_later x old mid grown begun) behind g one in
      subst (λ (d : Bool). HoldsOrNone x on d) (and_assoc b (is_below_size (value_of (x.word r.operand.value)) r.size) (all_in rs))
      (guards_hold (both_made mid guard test).sum rs (both_made mid guard test).operations new on _ rest (begun_later x old _ (grows_on old mid _ grown both) begun) obeys shown.1 two)

-- A guard comes no earlier than the old one.

module _ (x : Readings) (all : List Operation) (late : (n u v : ℕ) → x.first ≤ n → slice_get all n ≡ Some (record { guard = None; form = Compute op.Both u v }) → x.clock u ≤ x.clock n) where
  -- there is a guard, and it is not there before this clock
  abbrev pub ComesFrom : ℕ → Option ℕ → Type 0
  ComesFrom bound None = ⊥
  ComesFrom bound (Some g) = bound ≤ x.clock g

  both_come : (os : List Operation) (guard test : Option ℕ) (bound : ℕ) → x.first ≤ length os → OperationsGrow (both_made os guard test).operations all
      → ComesFrom bound guard → ComesFrom bound (both_made os guard test).sum
  both_come os None test bound begun g h = absurd h
  both_come os (Some guard) None bound begun g h = h
  both_come os (Some guard) (Some test) bound begun g h =
      let l = late (length os) guard test begun (kept_there _ all g (length os) _ (at_last os _)) in
      omega (arith, h, l)

  pub guards_come : (guard : Option ℕ) (rs : List Ranged) (old new : List Operation) (on : Option ℕ) (bound : ℕ) → IsGuarded guard rs old new on
      → x.first ≤ length old → OperationsGrow new all → ComesFrom bound guard → ComesFrom bound on
  guards_come guard [] old new on bound h begun g from = subst (λ (t : Option ℕ). ComesFrom bound t) (sym h.1) from
  guards_come guard (r ∷ rs) old new on bound (mid, (test, (tested, rest))) begun g from =
      let grown = test_grows (below_size r.operand.literal r.size) old mid _ _ _ test tested in
      let both = both_grows mid guard test in
      let more = guards_grow (both_made mid guard test).sum rs (both_made mid guard test).operations new on rest in
      guards_come (both_made mid guard test).sum rs (both_made mid guard test).operations new on bound rest (begun_later x old _ (grows_on old mid _ grown both) begun) g
      (both_come mid guard test bound (begun_later x old mid grown begun) (grows_on _ new all more g) from)
