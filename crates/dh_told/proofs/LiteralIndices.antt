-- Literal indices of an accepted access are constants, and their values are within the sizes of what is named: a literal is
-- a value of its kind, so that its constant is that number, and no literal of an accepted program is beyond its size. So is
-- a literal row, which is one of the rows of a bank.
use Rattle.std.proofs.Common.{◌≡◌, ℕ, suc, ◌+◌, ◌||◌, Bool, true, false, List, [], ◌∷◌, length, Option, Some, refl, ap, sym, ◌∙◌, subst, arith, ℤ, pos}
use Rattle.std.specs.Prelude.{◌<◌, slice_get, negsuc, int_le, int_lt}
use Rattle.std.specs.List.{AllByRecursion}
use Rattle.std.proofs.lemmas.Bool.Decides.{nat_tests}
use Rattle.std.proofs.lemmas.Int.{ints}
use Rattle.dh_base.specs.declared.places.Place.{Place}
use Rattle.dh_base.specs.declared.rules.Rule.TheVariants.{ConstantRange}
use Rattle.dh_value.specs.declared.kinds.Kind.{Kind}
use Rattle.dh_value.specs.declared.words.Word.{Word}
use Rattle.dh_value.specs.Words.{IsKind, value_of, with_bits}
use Rattle.dh_value.proofs.Values.{integer_width}
use Rattle.dh_tree.specs.declared.tables.Dim.{Dim}
use Rattle.dh_tree.specs.declared.trees.counters.Counter.{Counter}
use Rattle.dh_tree.specs.Elements.{rows_of}
use Rattle.dh_tree.specs.Indices.{one_index_breaches, index_kind, indices_breaches, is_beyond, row_breaches}
use Rattle.dh_tree.specs.Kinds.{signed_number}
use Rattle.dh_tree.specs.LeastBreach.{breach}
use Rattle.dh_tree.specs.PlainTrees as plain
use Rattle.dh_tree.specs.ViewElements.{is_index, is_inside}
use Rattle.dh_tree.proofs.EmptyLists.{first_none, second_none}
use Rattle.dh_viewing.proofs.BankDigits.{both, index_is}
use Rattle.dh_meaning.specs.Bindings.{kind_or_first}
use Rattle.dh_meaning.specs.Effects.{bits_of}
use Rattle.dh_plan.specs.declared.operations.Operation.{Operation}
use Rattle.dh_plan.specs.Blocks.{numbers_at, word_at}
use Rattle.dh_plan.specs.LiteralAccesses.{AreLiteral, IsConstantAt, IsLiteral, IsLiteralForm}
use Rattle.dh_plan.specs.Ordered.{IsBetween}
use Rattle.dh_plan.specs.PlainPlans.{PlainPlan, first_in, operations_in}
use Rattle.dh_plan.specs.PlanKinds.{IsFormedBlock}
use Rattle.dh_plan.specs.PlanRuns.{block_values, start_at}
use Rattle.dh_sound.specs.IndexValues.{AllHaveIndexKinds, HasIndexKinds}
use Rattle.dh_sound.proofs.IteratorsNamed.{none_when}
use Rattle.dh_sound.proofs.ValuesOfIndices.{literal_value}
use Rattle.dh_gathering.specs.Cutting.{AreBlocksOf}
use Rattle.dh_used.specs.SourceAims.{HoldTerms, HoldsForm, HoldsTerm}
use Rattle.dh_told.proofs.BlocksWithin.{HasConstant, constant_shown, constant_there}

-- A number that is not beyond a size is an index of it.

neither : (a b : Bool) → (a || b) ≡ false → (a ≡ false) × (b ≡ false)
neither true b e = cc
neither false b e = (refl, e)

not_above : (size n : ℕ) → int_le (pos size) (pos n) ≡ false → n < size
not_above size n e = grind (arith, ints, nat_tests)

within_size : (size : ℕ) (z : ℤ) → is_beyond size z ≡ false → is_index size z ≡ true
within_size size (pos n) e = index_is size n (not_above size n (neither (int_lt (pos n) (pos 0)) (int_le (pos size) (pos n)) e).1)
within_size size (negsuc n) e = cc

module _ (plan : PlainPlan) (os : List Operation) (starts : List ℕ) (cut : AreBlocksOf os starts plan.blocks) (block : ℕ) (formed : IsFormedBlock plan block) (cs : List Counter) where
  -- the value of this number in the block
  abbrev shown : (registers : List ℕ) (memories : List (List ℕ)) (value : ℕ) → Word
  shown registers memories value = word_at (first_in plan block) (block_values plan (start_at plan registers memories) block) value

  -- it is a constant, and one of so many indices or rows
  pub record IsWithin (size value : ℕ) : Type 0 where
    pub constant : IsConstantAt plan block value
    pub inside : (registers : List ℕ) (memories : List (List ℕ)) → is_index size (value_of (shown registers memories value)) ≡ true

  pub record AreWithin (ds : List Dim) (values : List ℕ) : Type 0 where
    pub constants : AllByRecursion (IsConstantAt plan block) values
    pub inside : (registers : List ℕ) (memories : List (List ℕ)) → is_inside ds (numbers_at (first_in plan block) (block_values plan (start_at plan registers memories) block) values) ≡ true

  module _ (i : ℕ) (o : Operation) (at : slice_get (operations_in plan block) i ≡ Some o) where
    literal_within : (size : ℕ) (place : Place) (kind : Option Kind) (negative : Bool) (n value : ℕ) → HoldsForm os (kind_or_first kind) (plain.number negative n) value → HasIndexKinds cs (plain.term place kind (plain.number negative n))
        → is_beyond size (signed_number negative n) ≡ false → IsBetween (first_in plan block) (first_in plan block + i) value → IsWithin size value
    literal_within size place kind negative n value holds kinds within between =
        record {
          constant = record { place = c.0; own = c.1.0; word = holds.0; there = c.1.1 };
          inside = λ registers memories. ap (λ (w : Word). is_index size (value_of w)) (constant_shown plan block formed registers memories value holds.0 c) ∙ (ap (λ (z : ℤ). is_index size z) value_is ∙ within_size size (signed_number negative n) within);
        }
      where
        c : HasConstant plan block value holds.0
        c = constant_there plan os starts cut block i o at value holds.0 between holds.1.0

        same : kind_or_first kind ≡ kinds.whole.kind
        same = ap kind_or_first kinds.whole.is

        word_is : holds.0 ≡ with_bits kinds.whole.kind (bits_of kinds.whole.kind negative n)
        word_is = holds.1.1 (subst (λ (k : Kind). IsKind k) (sym same) (integer_width kinds.whole.kind kinds.whole.integer)) ∙ ap (λ (k : Kind). with_bits k (bits_of k negative n)) same

        value_is : value_of holds.0 ≡ signed_number negative n
        value_is = ap value_of word_is ∙ literal_value kinds.whole.kind negative n kinds.whole.integer kinds.whole.fits

    one_within : (d : Dim) (place : Place) (kind : Option Kind) (form : plain.TermForm) (value : ℕ) → IsLiteralForm form → HoldsForm os (kind_or_first kind) form value → HasIndexKinds cs (plain.term place kind form)
        → one_index_breaches d place (index_kind cs kind form) ≡ [] → IsBetween (first_in plan block) (first_in plan block + i) value → IsWithin d.size value
    one_within d place kind (plain.number negative n) value literal holds kinds none between =
        literal_within d.size place kind negative n value holds kinds (none_when (is_beyond d.size (signed_number negative n)) (breach ConstantRange place) none) between
    one_within d place kind (plain.truth_value b) value literal holds kinds none between = absurd literal
    one_within d place kind (plain.named r) value literal holds kinds none between = absurd literal
    one_within d place kind (plain.accessed r indices) value literal holds kinds none between = absurd literal
    one_within d place kind (plain.in_bank r bank bank_place row) value literal holds kinds none between = absurd literal
    one_within d place kind (plain.applied op left right) value literal holds kinds none between = absurd literal
    one_within d place kind (plain.converted inner to) value literal holds kinds none between = absurd literal

    pub row_within : (dims : List Dim) (row : plain.Term) (value : ℕ) → IsLiteral row → HoldsTerm os row value → HasIndexKinds cs row → row_breaches dims row ≡ []
        → IsBetween (first_in plan block) (first_in plan block + i) value → IsWithin (rows_of dims) value
    row_within dims (plain.term place kind (plain.number negative n)) value literal holds kinds none between =
        literal_within (rows_of dims) place kind negative n value holds kinds (none_when (is_beyond (rows_of dims) (signed_number negative n)) (breach ConstantRange place) none) between
    row_within dims (plain.term place kind (plain.truth_value b)) value literal holds kinds none between = absurd literal
    row_within dims (plain.term place kind (plain.named r)) value literal holds kinds none between = absurd literal
    row_within dims (plain.term place kind (plain.accessed r indices)) value literal holds kinds none between = absurd literal
    row_within dims (plain.term place kind (plain.in_bank r bank bank_place row)) value literal holds kinds none between = absurd literal
    row_within dims (plain.term place kind (plain.applied op left right)) value literal holds kinds none between = absurd literal
    row_within dims (plain.term place kind (plain.converted inner to)) value literal holds kinds none between = absurd literal

    none_within : (ds : List Dim) → 0 ≡ length ds → AreWithin ds []
    none_within [] long = record { constants = tt; inside = λ registers memories. refl }
    none_within (d ∷ ds) long = absurd (more (length ds) long)
      where
        more : (n : ℕ) → 0 ≡ suc n → ⊥
        more n e = omega (arith, e)

    more_within : (d : Dim) (ds : List Dim) (value : ℕ) (values : List ℕ) → IsWithin d.size value → AreWithin ds values → AreWithin (d ∷ ds) (value ∷ values)
    more_within d ds value values h k = record {
      constants = (h.constant, k.constants);
      inside = λ registers memories.
          both (is_index d.size (value_of (shown registers memories value))) (is_inside ds (numbers_at (first_in plan block) (block_values plan (start_at plan registers memories) block) values))
          (h.inside registers memories) (k.inside registers memories);
    }

    pub literals_within : (ts : plain.Terms) (ds : List Dim) (values : List ℕ) → AreLiteral ts → HoldTerms os ts values → AllHaveIndexKinds cs ts → indices_breaches cs ds ts ≡ [] → length values ≡ length ds
        → AllByRecursion (IsBetween (first_in plan block) (first_in plan block + i)) values → AreWithin ds values
    literals_within plain.no_terms ds values literal holds kinds none long between =
        subst (λ (vs : List ℕ). AreWithin ds vs) (sym holds) (none_within ds (sym (ap (λ (vs : List ℕ). length vs) holds) ∙ long))
    literals_within (plain.term_then (plain.term place kind form) ts) [] values literal holds kinds none long between = absurd (more (length holds.1.0) (sym long ∙ ap (λ (vs : List ℕ). length vs) holds.1.1.0))
      where
        more : (n : ℕ) → 0 ≡ suc n → ⊥
        more n e = omega (arith, e)
    literals_within (plain.term_then (plain.term place kind form) ts) (d ∷ ds) values literal holds kinds none long between =
        subst (λ (vs : List ℕ). AreWithin (d ∷ ds) vs) (sym are)
        (more_within d ds value rest
        (one_within d place kind form value literal.0 holds.1.1.1.0 kinds.0 (first_none (one_index_breaches d place (index_kind cs kind form)) (indices_breaches cs ds ts) none) own.0)
        (literals_within ts ds rest literal.1 holds.1.1.1.1 kinds.1 (second_none (one_index_breaches d place (index_kind cs kind form)) (indices_breaches cs ds ts) none)
        (fewer (length rest) (length ds) (sym (ap (λ (vs : List ℕ). length vs) are) ∙ long)) own.1))
      where
        value : ℕ
        value = holds.0

        rest : List ℕ
        rest = holds.1.0

        are : values ≡ value ∷ rest
        are = holds.1.1.0

        own : AllByRecursion (IsBetween (first_in plan block) (first_in plan block + i)) (value ∷ rest)
        own = subst (λ (vs : List ℕ). AllByRecursion (IsBetween (first_in plan block) (first_in plan block + i)) vs) are between

        fewer : (a b : ℕ) → suc a ≡ suc b → a ≡ b
        fewer a b e = omega (arith, e)
