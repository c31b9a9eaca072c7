-- The value of a probe that something takes: false, and there when all is there that the probe takes.
use Rattle.std.proofs.Common.{◌≡◌, ℕ, ◌≤◌, Some, None, List, Bool, true, false, ◌||◌, not, length, refl, sym, ap, subst, ◌∙◌, arith}
use Rattle.std.specs.Prelude.{[], ◌∷◌, slice_get, ℤ}
use Rattle.std.specs.List.{AllByRecursion}
use Rattle.std.specs.Ordering.{int_eq}
use Rattle.std.proofs.lemmas.Cmp.{int_eq_equiv}
use Rattle.dh_value.specs.declared.kinds.Kind.{Kind}
use Rattle.dh_value.specs.declared.kinds.Kind.TheVariants as kind
use Rattle.dh_value.specs.declared.operators.Op.TheVariants as op
use Rattle.dh_value.specs.Words.{value_of}
use Rattle.dh_value.specs.Operations.{AreAlike, AreTruths, truth, is_true}
use Rattle.dh_plan.specs.declared.operations.Operation.{Operation}
use Rattle.dh_plan.specs.declared.operations.OperationForm.{OperationForm}
use Rattle.dh_plan.specs.declared.operations.OperationForm.TheVariants.{Compute}
use Rattle.dh_plan.specs.Ordered.{form_takes}
use Rattle.dh_rows.specs.Readings.{Readings, Obeys, IsEarlierValue, OperationsGrow, IsReadingValue}
use Rattle.dh_rows.specs.RowsShown.{IsInput}
use Rattle.dh_rows.specs.MadeOperations.{Made, computed}
use Rattle.dh_rows.proofs.Growing.{grows_self, grows_on, grown_length, kept_there, pushed_grows, obeys_before, pushed_word, value_later, adds_self, adds_on, pushed_adds, pushed_value, earlier_later}
use Rattle.dh_address.specs.Pieces.{false_behind, false_behind_all}
use Rattle.dh_address.proofs.AimedRows.{PutsMade}
use Rattle.dh_address.proofs.ImageReadings.{at_last}
use Rattle.dh_address.proofs.TestedRanges.{begun_later}

alike : (k : Kind) → AreAlike k k
alike kind.Bool = tt
alike (kind.Unsigned w) = refl
alike (kind.Signed w) = refl

two_truths : (k l : Kind) → k ≡ kind.Bool → l ≡ kind.Bool → AreTruths k l
two_truths k l e f = subst (λ (m : Kind). AreTruths m l) (sym e) (subst (λ (m : Kind). AreTruths kind.Bool m) (sym f) tt)

pub one_false_grows : (os : List Operation) (so_far v : ℕ) → OperationsGrow os (false_behind os so_far v).operations
one_false_grows os so_far v = grows_on os (computed os op.Ne v v).operations _ (pushed_grows os None (Compute op.Ne v v)) (pushed_grows (computed os op.Ne v v).operations None _)

pub many_false_grow : (m : Made) (vs : List ℕ) → OperationsGrow m.operations (false_behind_all m vs).operations
many_false_grow m [] = grows_self m.operations
many_false_grow m (v ∷ vs) =
    grows_on m.operations (false_behind m.operations m.value v).operations _ (one_false_grows m.operations m.value v) (many_false_grow (false_behind m.operations m.value v) vs)

module _ (x : Readings) (clock : ℕ) where
  input_later : (a b : List Operation) (v : ℕ) → OperationsGrow a b → IsInput x clock a v → IsInput x clock b v
  input_later a b v g h o = earlier_later x clock (length a) (length b) v (grown_length a b g) (h (obeys_before x a b g o))

  inputs_later : (a b : List Operation) → OperationsGrow a b → (vs : List ℕ) → AllByRecursion (λ v. IsInput x clock a v) vs → AllByRecursion (λ v. IsInput x clock b v) vs
  inputs_later a b g [] h = tt
  inputs_later a b g (v ∷ vs) h = (input_later a b v g h.0, inputs_later a b g vs h.1)

  unlike_put : (os : List Operation) (v : ℕ) → x.first ≤ length os → IsInput x clock os v → PutsMade x clock os (computed os op.Ne v v) kind.Bool
  unlike_put os v begun h =
      let takes : (Obeys x os → AllByRecursion (λ v. IsEarlierValue x clock (length os) v) (v ∷ v ∷ [])) = λ o. (h o, (h o, tt)) in
      record {
        adds = pushed_adds x clock os (Compute op.Ne v v) refl begun takes (λ o. alike (x.kind v));
        stands = pushed_value x clock os (Compute op.Ne v v) refl begun takes (λ o. alike (x.kind v)) kind.Bool (λ o. refl);
      }

  either_put : (os : List Operation) (u v : ℕ) → x.first ≤ length os → IsReadingValue x clock os kind.Bool u → IsReadingValue x clock os kind.Bool v → PutsMade x clock os (computed os op.Either u v) kind.Bool
  either_put os u v begun g h =
      let takes : (Obeys x os → AllByRecursion (λ v. IsEarlierValue x clock (length os) v) (u ∷ v ∷ [])) = λ o. ((g o).earlier, ((h o).earlier, tt)) in
      let suits : (Obeys x os → AreTruths (x.kind u) (x.kind v)) = λ o. two_truths (x.kind u) (x.kind v) (g o).kind_is (h o).kind_is in
      record {
        adds = pushed_adds x clock os (Compute op.Either u v) refl begun takes suits;
        stands = pushed_value x clock os (Compute op.Either u v) refl begun takes suits kind.Bool (λ o. refl);
      }

  one_false_put : (os : List Operation) (so_far v : ℕ) → x.first ≤ length os → IsReadingValue x clock os kind.Bool so_far → IsInput x clock os v → PutsMade x clock os (false_behind os so_far v) kind.Bool
  one_false_put os so_far v begun g h =
      let one = unlike_put os v begun h in
      let mid = (computed os op.Ne v v).operations in
      let two = either_put mid so_far (length os) (begun_later x os mid one.adds.grows begun) (value_later x clock os mid kind.Bool so_far one.adds.grows g) one.stands in
      record { adds = adds_on x clock os mid _ one.adds two.adds; stands = two.stands }

  pub many_false_put : (m : Made) (vs : List ℕ) → x.first ≤ length m.operations → IsReadingValue x clock m.operations kind.Bool m.value → AllByRecursion (λ v. IsInput x clock m.operations v) vs
      → PutsMade x clock m.operations (false_behind_all m vs) kind.Bool
  many_false_put m [] begun g h = record { adds = adds_self x clock m.operations; stands = g }
  many_false_put m (v ∷ vs) begun g h =
      let one = one_false_put m.operations m.value v begun g h.0 in
      let n = false_behind m.operations m.value v in
      let more = many_false_put n vs (begun_later x m.operations n.operations one.adds.grows begun) one.stands (inputs_later m.operations n.operations one.adds.grows vs h.1) in
      record { adds = adds_on x clock m.operations n.operations _ one.adds more.adds; stands = more.stands }

-- It is false.

module _ (x : Readings) where
  itself : (z : ℤ) → int_eq z z ≡ true
  itself z = int_eq_equiv.refl z

  unlike_false : (os : List Operation) (v : ℕ) → x.first ≤ length os → Obeys x (computed os op.Ne v v).operations → x.word (length os) ≡ truth false
  unlike_false os v begun obeys =
      pushed_word x os (Compute op.Ne v v) refl begun obeys ∙ ap (λ (t : Bool). truth (not t)) (itself (value_of (x.word v)))

  one_false : (os : List Operation) (so_far v : ℕ) → x.first ≤ length os → x.word so_far ≡ truth false → Obeys x (false_behind os so_far v).operations → x.word (false_behind os so_far v).value ≡ truth false
  one_false os so_far v begun g obeys =
      let mid = (computed os op.Ne v v).operations in
      let at_mid = begun_later x os mid (pushed_grows os None (Compute op.Ne v v)) begun in
      let t = unlike_false os v begun (obeys_before x mid _ (pushed_grows mid None _) obeys) in
      pushed_word x mid (Compute op.Either so_far (length os)) refl at_mid obeys
      ∙ (ap (λ w. truth (is_true w || is_true (x.word (length os)))) g ∙ ap (λ w. truth (false || is_true w)) t)

  pub many_false : (m : Made) (vs : List ℕ) → x.first ≤ length m.operations → x.word m.value ≡ truth false → Obeys x (false_behind_all m vs).operations → x.word (false_behind_all m vs).value ≡ truth false
  many_false m [] begun g obeys = g
  many_false m (v ∷ vs) begun g obeys =
      let n = false_behind m.operations m.value v in
      let grown = one_false_grows m.operations m.value v in
      many_false n vs (begun_later x m.operations n.operations grown begun) (one_false m.operations m.value v begun g (obeys_before x n.operations _ (many_false_grow n vs) obeys)) obeys

-- And it is there when all is.

module _ (x : Readings) (all : List Operation)
    (late : (n : ℕ) (f : OperationForm) → x.first ≤ n → slice_get all n ≡ Some (record { guard = None; form = f }) → AllByRecursion (λ v. x.clock v ≤ x.clock n) (form_takes f)) where
  one_late : (os : List Operation) (so_far v : ℕ) → x.first ≤ length os → OperationsGrow (false_behind os so_far v).operations all
      → (x.clock so_far ≤ x.clock (false_behind os so_far v).value) × (x.clock v ≤ x.clock (false_behind os so_far v).value)
  one_late os so_far v begun g =
      let mid = (computed os op.Ne v v).operations in
      let at_mid = begun_later x os mid (pushed_grows os None (Compute op.Ne v v)) begun in
      let two = late (length mid) (Compute op.Either so_far (length os)) at_mid (kept_there _ all g (length mid) _ (at_last mid _)) in
      let one = late (length os) (Compute op.Ne v v) begun (kept_there mid all (grows_on mid _ all (pushed_grows mid None _) g) (length os) _ (at_last os _)) in
      (two.0, through (x.clock v) (x.clock (length os)) (x.clock (length mid)) one.0 two.1.0)
    where
      through : (a b c : ℕ) → a ≤ b → b ≤ c → a ≤ c
      through a b c l m = omega (arith, l, m)

  pub many_late : (m : Made) (vs : List ℕ) → x.first ≤ length m.operations → OperationsGrow (false_behind_all m vs).operations all
      → (x.clock m.value ≤ x.clock (false_behind_all m vs).value) × AllByRecursion (λ v. x.clock v ≤ x.clock (false_behind_all m vs).value) vs
  many_late m [] begun g = (omega arith, tt)
  many_late m (v ∷ vs) begun g =
      let n = false_behind m.operations m.value v in
      let grown = one_false_grows m.operations m.value v in
      let one = one_late m.operations m.value v begun (grows_on n.operations _ all (many_false_grow n vs) g) in
      let more = many_late n vs (begun_later x m.operations n.operations grown begun) g in
      let a = one.0 in
      let b = one.1 in
      let c = more.0 in
      (omega (arith, a, c), (omega (arith, b, c), more.1))
