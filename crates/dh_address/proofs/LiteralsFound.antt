-- Constants that are in range are literals: of an access that is named by constants and is always inside, each value is
-- a literal below its size.
use Rattle.std.proofs.Common.{◌≡◌, ℕ, suc, ◌+◌, ◌-◌, ◌*◌, ◌/◌, ◌%◌, ◌^◌, ◌<◌, ◌≤◌, nat_le, nat_lt, negsuc, neg_ℤ, Bool, true, false, List, length, refl, sym, ap, ◌∙◌, subst, arith, pos, ◌-ℤ◌, int_le, int_lt, unsigned_abs, ◌&&◌}
use Rattle.std.specs.Prelude.{Option, Some, None, [], ◌∷◌, ◌++◌, map, slice_get, slice_index, if◌then◌else◌, ℤ, ◌+ℤ◌, ◌*ℤ◌}
use Rattle.std.specs.List.{AllByRecursion}
use Rattle.std.proofs.Math.IntN.{pos-*ℤ-pos, pos-*ℤ-negsuc}
use Rattle.std.proofs.Math.Nat.{add-sub_cancel_left, mod-eq_of_lt, mul_comm}
use Rattle.std.proofs.lemmas.Bool.Decides.{nat_tests}
use Rattle.std.proofs.lemmas.List.{append_assoc, append-nil}
use Rattle.std.proofs.lemmas.Int.{ints}
use Rattle.dh_value.specs.declared.kinds.Kind.{Kind}
use Rattle.dh_value.specs.declared.kinds.Kind.TheVariants as kind
use Rattle.dh_value.specs.declared.words.Word.{Word}
use Rattle.dh_value.specs.Words.{IsInteger, IsWord, signed, value_in, value_of, width_of}
use Rattle.dh_tree.specs.declared.tables.Dim.{Dim}
use Rattle.dh_tree.specs.Elements.{Spot, dims_at, rows_of}
use Rattle.dh_tree.specs.declared.tables.MemEntry.{MemEntry}
use Rattle.dh_tree.specs.declared.viewing.ViewMap.{ViewMap}
use Rattle.dh_tree.specs.declared.viewing.ViewSort.{ViewSort}
use Rattle.dh_tree.specs.declared.viewing.ViewSort.TheVariants.{Shrink, Split, Suffix, Shift}
use Rattle.dh_tree.specs.Shapes.{IsProgramTable}
use Rattle.dh_tree.specs.ViewElements.{is_index, is_inside, dealt_index, split_index, first_banks, multiples, named_by, offsets_needed, parent_index, sums, where_inside}
use Rattle.dh_tree.specs.ViewShapes.{AreSplitOf, IsShapeOf, IsViewMap}
use Rattle.dh_viewing.proofs.SmallOffsets.{small_offset}
use Rattle.dh_meaning.specs.Effects.{is_row}
use Rattle.dh_plan.specs.declared.operations.Operation.{Operation}
use Rattle.dh_plan.specs.declared.operations.OperationForm.TheVariants.{Constant}
use Rattle.dh_plan.specs.declared.operations.Reach.{Reach}
use Rattle.dh_plan.specs.declared.operations.ReachStep.{ReachStep}
use Rattle.dh_plan.specs.Blocks.{StepStart, in_memories, numbers_at, spot_if_inside, spot_in_row, word_at}
use Rattle.dh_plan.specs.DoneProgram.{IsConstantAt, NamedByConstants, HasLiterals}
use Rattle.dh_plan.specs.Ordered.{one_or_none, offsets_taken}
use Rattle.dh_plan.specs.PlainPlans.{PlainPlan, first_in, operations_in}
use Rattle.dh_plan.specs.PlanKinds.{AreSteps, IsFormedBlock, IsNumber, NamesElement, ReachSuits, StepFits, kind_of_value, kinds_of}
use Rattle.dh_plan.specs.PlanRuns.{block_values, start_at}
use Rattle.dh_plan.specs.Passages.{indices_behind, through_view}
use Rattle.dh_plan.proofs.BlocksSolved.{block_solves}
use Rattle.dh_plan.proofs.ValuesAlike.{all_left, all_right, memories_look_back}
use Rattle.dh_rows.proofs.DealtIndices.{dealt_small}
use Rattle.dh_rows.specs.RowsShown.{is_below_size}
use Rattle.dh_address.specs.declared.literals.LiteralPlace.{LiteralPlace}
use Rattle.dh_address.specs.declared.operands.BlockValue.{BlockValue}
use Rattle.dh_address.specs.declared.operands.Ranged.{Ranged}
use Rattle.dh_address.specs.Arounds.{RenumberedBlock}
use Rattle.dh_address.specs.LiteralPlaces.{and_then, below_size, constant_in, literal_at, literal_in, literal_places, natural_in, whole_at, whole_if_constant, whole_in}
use Rattle.dh_address.specs.WaysMade.{IndexWay, way, operand_of, ranges_by, is_near, bounded_unless, offset_bounded, maybe_range, index_moved, steps_by, moved_literal, moved_operand, moved_one, moved_all, unit_factors, split_made, dealt_known, passed_by, passed_if, step_passed, steps_passed, way_begun, passed_to, reach_passed}
use Rattle.dh_address.proofs.AccessesLead.{both_true, in_range}
use Rattle.dh_address.proofs.AccessesPut.{all_join}
use Rattle.dh_address.proofs.FewElements.{rows_below}
use Rattle.dh_address.proofs.LiteralMeans.{below_means}
use Rattle.dh_address.proofs.WayLengths.{dims_long, mapped_long}
use Rattle.dh_address.proofs.WaySizes.{HasMaps, AreFew, one_of, view_few, way_few}
use Rattle.dh_address.proofs.WaysLed.{AreFactors, ones_factors, ones_sums, passed_with, suffix_factors, suffix_same}
use Rattle.dh_address.proofs.WaysPut.{dealt_to, unwrapped}
use Rattle.dh_address.proofs.WaysShown.{dealt_same, never_below, product_is, small_product, sum_back, sum_on, sum_small}
use Rattle.dh_address.proofs.BlockEquations.{kind_solved}

-- Words.

pub record IsNatural (k : Kind) (bits : ℕ) : Type 0 where
  pub literal : natural_in k bits ≡ Some bits
  pub value : value_in k bits ≡ pos bits

natural_found : (k : Kind) (bits : ℕ) → IsInteger k → bits < 2 ^ width_of k → int_le (pos 0) (value_in k bits) ≡ true → IsNatural k bits
natural_found kind.Bool bits sized fits e = elim sized [ ]
natural_found (kind.Unsigned w) bits sized fits e = record { literal = refl; value = refl }
natural_found (kind.Signed w) bits sized fits e = of (nat_lt bits (2 ^ (w - 1))) refl e
  where
    below_zero : int_le (pos 0) (pos bits -ℤ pos (2 ^ w)) ≡ true → ⊥
    below_zero l = omega (arith, ints, fits, l)

    of : (t : Bool) → nat_lt bits (2 ^ (w - 1)) ≡ t → int_le (pos 0) (if t then pos bits else pos bits -ℤ pos (2 ^ w)) ≡ true → IsNatural (kind.Signed w) bits
    of true is e = record { literal = ap (λ (b : Bool). if b then Some bits else None) is; value = ap (λ (b : Bool). if b then pos bits else pos bits -ℤ pos (2 ^ w)) is }
    of false is e = absurd (below_zero e)

below_found : (bits size : ℕ) → is_below_size (pos bits) size ≡ true → below_size (Some bits) size ≡ Some bits
below_found bits size e = ap (λ (b : Bool). if b then Some bits else None) (both_true (int_le (pos 0) (pos bits)) (nat_lt bits size) e).1

-- a literal below a size
abbrev pub IsLiteral : Ranged → Type 0
IsLiteral r = (n : ℕ) × (below_size r.operand.literal r.size ≡ Some n)

abbrev pub AreAllLiteral : List Ranged → Type 0
AreAllLiteral rs = AllByRecursion IsLiteral rs

-- Where all indices are literals there is a place of literals.
pub places_found : (ds : List Dim) (is : List BlockValue) (row bank : ℕ) → AreAllLiteral (ranges_by ds is) → (place : LiteralPlace) × (literal_places ds is row bank ≡ Some place)
places_found [] is row bank h = (_, refl)
places_found (d ∷ ds) [] row bank h = (_, refl)
places_found (d ∷ ds) (i ∷ is) row bank h =
    let n = h.0.0 in
    let later = places_found ds is _ _ h.1 in
    (later.0, ap (λ (o : Option ℕ). and_then o (λ n. literal_places ds is ((row * (d.size / d.banks) % 2 ^ 64 + n / d.banks) % 2 ^ 64) ((bank * d.banks % 2 ^ 64 + n % d.banks) % 2 ^ 64))) h.0.1 ∙ later.1)

-- Operands that are literals.

-- it is this whole number
pub record IsKnownAs (o : BlockValue) (z : ℤ) : Type 0 where
  pub number : ℕ
  pub literal : o.literal ≡ Some number
  pub value : z ≡ pos number

abbrev pub AreKnownAs : List BlockValue → List ℤ → Type 0
AreKnownAs [] [] = Unit {0}
AreKnownAs (o ∷ os) (z ∷ zs) = IsKnownAs o z × AreKnownAs os zs
AreKnownAs _ _ = ⊥

known_below : (o : BlockValue) (z : ℤ) (size : ℕ) (k : IsKnownAs o z) → is_below_size z size ≡ true → below_size o.literal size ≡ Some k.number
known_below o z size k e = ap (λ (l : Option ℕ). below_size l size) k.literal ∙ below_found k.number size (ap (λ (y : ℤ). is_below_size y size) (sym k.value) ∙ e)

pub known_literal : (ds : List Dim) (os : List BlockValue) (zs : List ℤ) → AreKnownAs os zs → is_inside ds zs ≡ true → AreAllLiteral (ranges_by ds os)
known_literal [] os zs h e = tt
known_literal (d ∷ ds) [] zs h e = tt
known_literal (d ∷ ds) (o ∷ os) [] h e = absurd h
known_literal (d ∷ ds) (o ∷ os) (z ∷ zs) h e =
    let b = both_true (is_below_size z d.size) (is_inside ds zs) e in
    ((h.0.number, known_below o z d.size h.0 b.0), known_literal ds os zs h.1 b.1)

literals_join : (rs ss : List Ranged) → AreAllLiteral rs → AreAllLiteral ss → AreAllLiteral (rs ++ ss)
literals_join rs ss h k = all_join IsLiteral rs ss h k

-- A test that some option comes of holds.
pub some_if : {A : Type 0} (b : Bool) (x y : A) → (if b then Some x else None) ≡ Some y → b ≡ true
some_if true x y e = refl
some_if false x y e = absurd (cc)

-- Views that move, by constants of whatever sign: nothing is to be tested of the offsets, and the indices are literals.

-- the index that constants give
pub record IsMovedTo (e : ℤ) (k i size : ℕ) : Type 0 where
  pub number : ℕ
  pub literal : moved_literal (Some e) (Some i) k size ≡ Some number
  pub value : (pos k *ℤ e) +ℤ pos i ≡ pos number

least_of : (z : ℤ) (size : ℕ) → is_index size z ≡ true → int_le (pos 0) z ≡ true
least_of z size e = (both_true (int_le (pos 0) z) (int_lt z (pos size)) e).0

at_most : (a b : ℕ) → a ≤ b → nat_le a b ≡ true
at_most a b l = grind (arith, nat_tests)

moved_found : (e : ℤ) (k i size : ℕ) → size < 2 ^ 60 → 1 ≤ k → unsigned_abs e * k < size → i < size → is_index size ((pos k *ℤ e) +ℤ pos i) ≡ true → IsMovedTo e k i size
moved_found (pos a) k i size few more l m inside =
    let z = sum_on (pos k *ℤ pos a) (k * a) (a * k) i (pos-*ℤ-pos k a) (mul_comm k a) in
    let number : (steps_by (pos a) k + i) % 2 ^ 64 ≡ a * k + i = ap (λ b. (b + i) % 2 ^ 64) (product_is a k size few more l) ∙ mod-eq_of_lt (sum_small (a * k) i size l m few) in
    record {
      number = a * k + i;
      literal = ap (λ (b : Bool). below_size (index_moved b (steps_by (pos a) k) i) size) (never_below a)
          ∙ (ap (λ n. below_size (Some n) size) number ∙ below_found (a * k + i) size (subst (λ y. is_below_size y size ≡ true) z inside));
      value = z;
    }
moved_found (negsuc a) k i size few more l m inside =
    let p = pos-*ℤ-negsuc k a in
    let t = mul_comm k (suc a) in
    let least = fewer (pos k *ℤ negsuc a) (k * suc a) (suc a * k) i p t (least_of ((pos k *ℤ negsuc a) +ℤ pos i) size inside) in
    let z = sum_back (pos k *ℤ negsuc a) (k * suc a) (suc a * k) i p t least in
    record {
      number = i - suc a * k;
      literal = ap (λ b. below_size (if nat_le b i then Some (i - b) else None) size) (product_is (suc a) k size few more l)
          ∙ (ap (λ (b : Bool). below_size (if b then Some (i - suc a * k) else None) size) (at_most (suc a * k) i least)
          ∙ below_found (i - suc a * k) size (subst (λ y. is_below_size y size ≡ true) z inside));
      value = z;
    }
  where
    fewer : (y : ℤ) (w v b : ℕ) → y ≡ neg_ℤ (pos w) → w ≡ v → int_le (pos 0) (y +ℤ pos b) ≡ true → v ≤ b
    fewer y w v b p t e = omega (arith, ints, p, t, e)

pub record IsOneKnown (size factor : ℕ) (e i : BlockValue) (ez iz : ℤ) (os : List Operation) : Type 0 where
  pub none : maybe_range (offset_bounded os e ((size - 1) / factor)).range ≡ []
  pub index : IsKnownAs (moved_operand (offset_bounded os e ((size - 1) / factor)).operations size factor e i).operand ((pos factor *ℤ ez) +ℤ iz)

one_known : (size factor : ℕ) (e i : BlockValue) (ez iz : ℤ) (os : List Operation) → size < 2 ^ 60 → 1 ≤ size → 1 ≤ factor → e.whole ≡ Some ez → IsKnownAs i iz → is_index size iz ≡ true
    → is_index size ((pos factor *ℤ ez) +ℤ iz) ≡ true → IsOneKnown size factor e i ez iz os
one_known size factor e i ez iz os few some more whole k inside there =
    let bound = (size - 1) / factor in
    let near = at_most (unsigned_abs ez) bound (small_offset size factor ez iz more inside there) in
    let product = small_product (unsigned_abs ez) factor size some more near in
    let below : k.number < size = subst (λ n. n < size) (ap unsigned_abs k.value) (in_range iz size inside).below in
    let moved = moved_found ez factor k.number size few more product below (subst (λ y. is_index size ((pos factor *ℤ ez) +ℤ y) ≡ true) k.value there) in
    record {
      none = ap (λ (b : Bool). maybe_range (bounded_unless b os e bound).range) (ap (λ (o : Option ℤ). is_near o bound) whole ∙ near);
      index = record {
        number = moved.number;
        literal = ap (λ (o : Option ℤ). moved_literal o i.literal factor size) whole ∙ (ap (λ (o : Option ℕ). moved_literal (Some ez) o factor size) k.literal ∙ moved.literal);
        value = ap (λ y. (pos factor *ℤ ez) +ℤ y) k.value ∙ moved.value;
      };
    }

whole_found : (k : Kind) (bits : ℕ) → IsInteger k → whole_in k bits ≡ Some (value_in k bits)
whole_found kind.Bool bits sized = absurd sized
whole_found (kind.Unsigned w) bits sized = refl
whole_found (kind.Signed w) bits sized = ap (λ (b : Bool). if b then Some (signed w bits) else None) (at_most w 64 sized.1)

-- offsets that are constants
abbrev pub AreWholes : List BlockValue → List ℤ → Type 0
AreWholes [] [] = Unit {0}
AreWholes (e ∷ es) (z ∷ zs) = (e.whole ≡ Some z) × AreWholes es zs
AreWholes _ _ = ⊥

wholes_long : (es : List BlockValue) (zs : List ℤ) → AreWholes es zs → length es ≡ length zs
wholes_long [] [] h = refl
wholes_long [] (z ∷ zs) h = absurd h
wholes_long (e ∷ es) [] h = absurd h
wholes_long (e ∷ es) (z ∷ zs) h = ap suc (wholes_long es zs h.1)

-- behind those of a way come these
pub record AllKnown (w after : IndexWay) (zs : List ℤ) : Type 0 where
  pub more : List BlockValue
  pub ranges_are : after.ranges ≡ w.ranges
  pub indices_are : after.indices ≡ w.indices ++ more
  pub known : AreKnownAs more zs

known_more : (w next after : IndexWay) (i : BlockValue) (z : ℤ) (zs : List ℤ) (here : List Ranged) → next.ranges ≡ w.ranges ++ here → here ≡ [] → next.indices ≡ w.indices ++ i ∷ [] → IsKnownAs i z → AllKnown next after zs
    → AllKnown w after (z ∷ zs)
known_more w next after i z zs here ranges none indices k rest = record {
  more = i ∷ rest.more;
  ranges_are = rest.ranges_are ∙ (ranges ∙ (ap (λ (rs : List Ranged). w.ranges ++ rs) none ∙ append-nil w.ranges));
  indices_are = rest.indices_are ∙ (ap (λ (l : List BlockValue). l ++ rest.more) indices ∙ append_assoc w.indices (i ∷ []) rest.more);
  known = (k, rest.known);
}

nothing_inside : (zs : List ℤ) → is_inside [] zs ≡ true → zs ≡ []
nothing_inside [] e = refl
nothing_inside (z ∷ zs) e = absurd (cc)

all_known : (ds : List Dim) (ks : List ℕ) (es is : List BlockValue) (ez iz : List ℤ) (w : IndexWay) → AreFew ds → AreFactors ks → length ks ≡ length ds → length es ≡ length ds → AreWholes es ez → AreKnownAs is iz
    → is_inside ds iz ≡ true → is_inside ds (sums (multiples ks ez) iz) ≡ true → AllKnown w (moved_all ds ks es is w) (sums (multiples ks ez) iz)
all_known [] ks es is ez iz w few some kl el whole k inside there = record {
  more = [];
  ranges_are = refl;
  indices_are = sym (append-nil w.indices);
  known = subst (λ (zs : List ℤ). AreKnownAs [] zs) (sym (nothing_inside (sums (multiples ks ez) iz) there)) tt;
}
all_known (d ∷ ds) [] es is ez iz w few some kl el whole k inside there = absurd (omega (arith, kl))
all_known (d ∷ ds) (f ∷ ks) [] is ez iz w few some kl el whole k inside there = absurd (omega (arith, el))
all_known (d ∷ ds) (f ∷ ks) (e ∷ es) is [] iz w few some kl el whole k inside there = absurd whole
all_known (d ∷ ds) (f ∷ ks) (e ∷ es) is (y ∷ ez) [] w few some kl el whole k inside there = absurd (cc)
all_known (d ∷ ds) (f ∷ ks) (e ∷ es) [] (y ∷ ez) (z ∷ iz) w few some kl el whole k inside there = absurd k
all_known (d ∷ ds) (f ∷ ks) (e ∷ es) (i ∷ is) (y ∷ ez) (z ∷ iz) w few some kl el whole k inside there =
    let a = both_true (is_index d.size z) (is_inside ds iz) inside in
    let b = both_true (is_index d.size ((pos f *ℤ y) +ℤ z)) (is_inside ds (sums (multiples ks ez) iz)) there in
    let one = one_known d.size f e i y z w.operations few.0.small few.0.dim.size some.0 whole.0 k.0 a.0 b.0 in
    let next = moved_one d.size f e i w in
    let m = offset_bounded w.operations e ((d.size - 1) / f) in
    let rest = all_known ds ks es is ez iz next few.1 some.1 (omega (arith, kl)) (omega (arith, el)) whole.1 k.1 a.1 b.1 in
    known_more w next (moved_all ds ks es is next) (moved_operand m.operations d.size f e i).operand ((pos f *ℤ y) +ℤ z) (sums (multiples ks ez) iz) (maybe_range m.range) refl one.none refl one.index rest

-- Ways.

split_known : (vs ps : List Dim) (ks : List ℕ) (is : List BlockValue) (zs : List ℤ) (os : List Operation) → AreSplitOf vs ps ks → AreFew vs → AreFew ps → AreKnownAs is zs → is_inside vs zs ≡ true
    → AreKnownAs (split_made vs ps is os).indices (split_index (first_banks ps) (slice_index ks 0) zs)
split_known [] ps ks is zs os h own few k e = absurd h
split_known (v ∷ []) ps ks is zs os h own few k e = absurd h
split_known (v ∷ (w ∷ (u ∷ vs))) ps ks is zs os h own few k e = absurd h
split_known (v ∷ (w ∷ [])) [] ks is zs os h own few k e = absurd h
split_known (v ∷ (w ∷ [])) (p ∷ (q ∷ ps)) ks is zs os h own few k e = absurd h
split_known (v ∷ (w ∷ [])) (p ∷ []) [] is zs os h own few k e = absurd h
split_known (v ∷ (w ∷ [])) (p ∷ []) (f ∷ (g ∷ ks)) is zs os h own few k e = absurd h
split_known (v ∷ (w ∷ [])) (p ∷ []) (f ∷ []) is [] os h own few k e = absurd (cc)
split_known (v ∷ (w ∷ [])) (p ∷ []) (f ∷ []) is (y ∷ []) os h own few k e = absurd (no_second (is_index v.size y) e)
  where
    no_second : (b : Bool) → (b && false) ≡ true → ⊥
    no_second true c = cc
    no_second false c = cc
split_known (v ∷ (w ∷ [])) (p ∷ []) (f ∷ []) [] (y ∷ (z ∷ zs)) os h own few k e = absurd k
split_known (v ∷ (w ∷ [])) (p ∷ []) (f ∷ []) (a ∷ []) (y ∷ (z ∷ zs)) os h own few k e = absurd k.1
split_known (v ∷ (w ∷ [])) (p ∷ []) (f ∷ []) (a ∷ (b ∷ is)) (y ∷ (z ∷ zs)) os h own few k e =
    let one = both_true (is_index v.size y) (is_index w.size z && is_inside [] zs) e in
    let two = both_true (is_index w.size z) (is_inside [] zs) one.1 in
    let na = k.0.number in
    let nb = k.1.0.number in
    let a_below = known_below a y v.size k.0 one.0 in
    let b_below = known_below b z w.size k.1.0 two.0 in
    let d = dealt_to v w p f h own.1.0.dim.size in
    let all = d.all in
    let small = few.0.small in
    let own_small = own.1.0.small in
    let s = dealt_small 64 v.size w na nb (record { dim = own.1.0.dim; small = omega (arith, own_small) }) (below_means a.literal v.size na a_below).1 (below_means b.literal w.size nb b_below).1 (omega (arith, all, small)) in (
      record {
        number = ((nb / w.banks * v.size % 2 ^ 64 + na) % 2 ^ 64 * w.banks % 2 ^ 64 + nb % w.banks) % 2 ^ 64;
        literal = ap (λ (o : Option ℕ). dealt_known o (below_size b.literal w.size) v.size w) a_below ∙ ap (λ (o : Option ℕ). dealt_known (Some na) o v.size w) b_below;
        value = ap (λ (x : ℤ). pos (dealt_index p.banks (p.banks / f) (unsigned_abs x) (unsigned_abs z))) k.0.value
            ∙ (ap (λ (x : ℤ). pos (dealt_index p.banks (p.banks / f) na (unsigned_abs x))) k.1.0.value
            ∙ ap pos (dealt_same v w p f h na nb ∙ sym (unwrapped (nb / w.banks) v.size na w.banks (nb % w.banks) (2 ^ 64) s.row s.number)));
      },
      tt,
    )

sort_known : (sort : ViewSort) (v : ViewMap) (es is : List BlockValue) (ez zs : List ℤ) (os : List Operation) (tested : List Ranged) → IsShapeOf sort v.shape.dims v.parent.dims v.by → AreFew v.shape.dims
    → AreFew v.parent.dims → length es ≡ offsets_needed sort v.parent.dims → AreWholes es ez → AreKnownAs is zs → is_inside v.shape.dims zs ≡ true
    → is_inside v.parent.dims (parent_index sort (first_banks v.parent.dims) v.by ez zs) ≡ true → AreAllLiteral tested
    → AreAllLiteral (passed_by sort v es is os tested).ranges × AreKnownAs (passed_by sort v es is os tested).indices (parent_index sort (first_banks v.parent.dims) v.by ez zs)
sort_known Shrink v es is ez zs os tested h own few el whole k e there l = (l, k)
sort_known Split v es is ez zs os tested h own few el whole k e there l = (l, split_known v.shape.dims v.parent.dims v.by is zs os h own few k e)
sort_known Suffix v es is ez zs os tested h own few el whole k e there l =
    let inside = subst (λ (ds : List Dim). is_inside ds zs ≡ true) (suffix_same v.shape.dims v.parent.dims v.by h) e in
    let m = all_known v.parent.dims v.by es is ez zs (way os tested []) few (suffix_factors v.shape.dims v.parent.dims v.by h) (dims_long Suffix v.shape.dims v.parent.dims v.by h).1 el whole k inside there in
    (subst (λ (rs : List Ranged). AreAllLiteral rs) (sym m.ranges_are) l, subst (λ (js : List BlockValue). AreKnownAs js (sums (multiples v.by ez) zs)) (sym m.indices_are) m.known)
sort_known Shift v es is ez zs os tested h own few el whole k e there l =
    let factors = unit_factors v.parent.dims in
    let same = ones_sums v.parent.dims ez zs (sym (wholes_long es ez whole) ∙ el) in
    let inside = subst (λ (ds : List Dim). is_inside ds zs ≡ true) h.0 e in
    let there_too = subst (λ (ys : List ℤ). is_inside v.parent.dims ys ≡ true) (sym same) there in
    let m = all_known v.parent.dims factors es is ez zs (way os tested []) few (ones_factors v.parent.dims) (mapped_long (λ d. 1) v.parent.dims) el whole k inside there_too in (
      subst (λ (rs : List Ranged). AreAllLiteral rs) (sym m.ranges_are) l,
      subst (λ (js : List BlockValue). AreKnownAs js (sums ez zs)) (sym m.indices_are) (subst (λ (ys : List ℤ). AreKnownAs m.more ys) same m.known),
    )

module _ (p : PlainPlan) (maps : HasMaps p) (tables : IsProgramTable p.table) (first : ℕ) (kinds : List Kind) (memory : ℕ) (offsets : ReachStep → List ℤ) (spot : Spot) where
  abbrev Leads : List ReachStep → List ℤ → Type 0
  Leads ss zs = spot_if_inside p.table memory (indices_behind p.views (passed_with offsets ss) zs) ≡ Some spot

  through_some : (b : Bool) (ys : List ℤ) (f : List ℤ → Option (List ℤ)) → spot_if_inside p.table memory (where_inside (if b then Some ys else None) f) ≡ Some spot
      → (b ≡ true) × (spot_if_inside p.table memory (f ys) ≡ Some spot)
  through_some true ys f e = (refl, e)
  through_some false ys f e = absurd (cc)

  -- what leads somewhere is within its first dimensions
  pub first_inside : (ss : List ReachStep) (dims : List Dim) (zs : List ℤ) → AreSteps p first kinds memory ss dims → Leads ss zs → is_inside dims zs ≡ true
  first_inside [] dims zs s e = subst (λ (ds : List Dim). is_inside ds zs ≡ true) (sym s) (some_if (is_inside (dims_at p.table memory) zs) _ spot e)
  first_inside (t ∷ ts) dims zs s e = of (slice_get p.views t.view) s e
    where
      of : (o : Option ViewMap) → StepFits p first kinds t.offsets o dims (AreSteps p first kinds memory ts)
          → spot_if_inside p.table memory (where_inside (through_view o (offsets t) zs) (indices_behind p.views (passed_with offsets ts))) ≡ Some spot → is_inside dims zs ≡ true
      of None f g = absurd f
      of (Some v) f g = subst (λ (ds : List Dim). is_inside ds zs ≡ true) f.0 (through_some (is_inside v.shape.dims zs) _ _ g).0

  pub steps_known : (a : RenumberedBlock) → a.views ≡ p.views → (ss : List ReachStep) (dims : List Dim) (zs : List ℤ) (w : IndexWay) → AreSteps p first kinds memory ss dims
      → AllByRecursion (λ s. AreWholes (map (operand_of a) s.offsets) (offsets s)) ss → AreKnownAs w.indices zs → AreAllLiteral w.ranges → Leads ss zs
      → AreAllLiteral (steps_passed a ss w).ranges × AreAllLiteral (ranges_by (dims_at p.table memory) (steps_passed a ss w).indices)
  steps_known a views [] dims zs w s whole k l e = (l, known_literal (dims_at p.table memory) w.indices zs k (some_if (is_inside (dims_at p.table memory) zs) _ spot e))
  steps_known a views (t ∷ ts) dims zs w s whole k l e =
      of (slice_get p.views t.view) refl s (ap (λ (vs : List ViewMap). passed_if (slice_get vs t.view) (map (operand_of a) t.offsets) w) views) e
      (λ ds ys next f g h i. steps_known a views ts ds ys next f whole.1 g h i)
    where
      Result : IndexWay → Type 0
      Result last = AreAllLiteral last.ranges × AreAllLiteral (ranges_by (dims_at p.table memory) last.indices)

      of : (o : Option ViewMap) → slice_get p.views t.view ≡ o → StepFits p first kinds t.offsets o dims (AreSteps p first kinds memory ts)
          → step_passed a t w ≡ passed_if (slice_get p.views t.view) (map (operand_of a) t.offsets) w
          → spot_if_inside p.table memory (where_inside (through_view o (offsets t) zs) (indices_behind p.views (passed_with offsets ts))) ≡ Some spot
          → ((ds : List Dim) (ys : List ℤ) (next : IndexWay) → AreSteps p first kinds memory ts ds → AreKnownAs next.indices ys → AreAllLiteral next.ranges → Leads ts ys → Result (steps_passed a ts next))
          → Result (steps_passed a ts (step_passed a t w))
      of None at f same g rest = absurd f
      of (Some v) at f same g rest =
          let is = same ∙ ap (λ (o : Option ViewMap). passed_if o (map (operand_of a) t.offsets) w) at in
          let c = through_some (is_inside v.shape.dims zs) _ _ g in
          let map_of = one_of IsViewMap p.views t.view v maps at in
          let few = way_few p maps tables first kinds memory ts v.parent.dims f.1.1 in
          let m = sort_known v.sort v (map (operand_of a) t.offsets) w.indices (offsets t) zs w.operations (w.ranges ++ ranges_by v.shape.dims w.indices) map_of.shape (view_few v map_of few) few
          (mapped_long (operand_of a) t.offsets ∙ f.1.0) whole.0 k c.0 (first_inside ts v.parent.dims (named_by v (offsets t) zs) f.1.1 c.1)
          (literals_join w.ranges (ranges_by v.shape.dims w.indices) l (known_literal v.shape.dims w.indices zs k c.0))
          in
          subst (λ (n : IndexWay). Result (steps_passed a ts n)) (sym is) (rest v.parent.dims (named_by v (offsets t) zs) (passed_if (Some v) (map (operand_of a) t.offsets) w) f.1.1 m.1 m.0 c.1)

module _ (p : PlainPlan) (block : ℕ) (formed : IsFormedBlock p block) where
  abbrev first : ℕ
  first = first_in p block

  abbrev os : List Operation
  os = operations_in p block

  constant_kind : (v : ℕ) (c : IsConstantAt p block v) → kind_of_value first (kinds_of p block) v ≡ c.word.kind
  constant_kind v c =
      ap (λ (n : ℕ). kind_of_value first (kinds_of p block) n) c.own
      ∙ kind_solved p.table p.registers first os c.place (record { guard = None; form = Constant c.word }) c.there (formed.ordered.each c.place (record { guard = None; form = Constant c.word }) c.there)

  constant_word : (v : ℕ) (c : IsConstantAt p block v) → IsWord c.word
  constant_word v c = (formed.suits c.place (record { guard = None; form = Constant c.word }) c.there).form

  constant_value : (registers : List ℕ) (memories : List (List ℕ)) (v : ℕ) (c : IsConstantAt p block v) → word_at first (block_values p (start_at p registers memories) block) v ≡ c.word
  constant_value registers memories v c =
      let s = start_at p registers memories in
      ap (λ (n : ℕ). word_at first (block_values p s block) n) c.own
      ∙ (block_solves s (in_memories s first) first (memories_look_back s first) os formed.ordered).solve.each c.place (record { guard = None; form = Constant c.word }) c.there

  literal_here : (v : ℕ) (c : IsConstantAt p block v) → literal_at os (v - first) ≡ natural_in c.word.kind c.word.bits
  literal_here v c =
      ap (λ (n : ℕ). literal_at os n) (ap (λ (n : ℕ). n - first) c.own ∙ add-sub_cancel_left first c.place) ∙ ap (λ (o : Option Operation). literal_in o) c.there

  whole_here : (v : ℕ) (c : IsConstantAt p block v) → whole_at os (v - first) ≡ whole_in c.word.kind c.word.bits
  whole_here v c =
      ap (λ (n : ℕ). whole_at os n) (ap (λ (n : ℕ). n - first) c.own ∙ add-sub_cancel_left first c.place) ∙ ap (λ (o : Option Operation). whole_if_constant (constant_in o)) c.there

  pub constant_known : (v size : ℕ) → (c : IsConstantAt p block v) → IsNumber p first (kinds_of p block) v → (registers : List ℕ) (memories : List (List ℕ))
      → is_below_size (value_of (word_at first (block_values p (start_at p registers memories) block) v)) size ≡ true
      → (literal_at os (v - first) ≡ Some c.word.bits) × (value_of (word_at first (block_values p (start_at p registers memories) block) v) ≡ pos c.word.bits)
  constant_known v size c number registers memories inside =
      (literal_here v c ∙ natural.literal, ap value_of (constant_value registers memories v c) ∙ natural.value)
    where
      within : is_below_size (value_of c.word) size ≡ true
      within = sym (ap (λ (w : Word). is_below_size (value_of w) size) (constant_value registers memories v c)) ∙ inside

      natural : IsNatural c.word.kind c.word.bits
      natural =
          natural_found c.word.kind c.word.bits (subst IsInteger (constant_kind v c) number) (constant_word v c).fits
          (both_true (int_le (pos 0) (value_of c.word)) (int_lt (value_of c.word) (pos size)) within).0

  -- what the pass knows of a block
  pub record IsOfBlock (a : RenumberedBlock) : Type 0 where
    pub table : a.table ≡ p.table
    pub views : a.views ≡ p.views
    pub operations : a.operations ≡ os
    pub first_is : a.first ≡ first

  module _ (a : RenumberedBlock) (own : IsOfBlock a) where
    literal_as : (v : ℕ) → literal_at a.operations (v - a.first) ≡ literal_at os (v - first)
    literal_as v = ap (λ (l : List Operation). literal_at l (v - a.first)) own.operations ∙ ap (λ (n : ℕ). literal_at os (v - n)) own.first_is

    indices_known : (ds : List Dim) (is : List ℕ) → AllByRecursion (IsConstantAt p block) is → AllByRecursion (IsNumber p first (kinds_of p block)) is
        → is_inside ds (numbers_at first (block_values p (start_at p [] []) block) is) ≡ true → AreKnownAs (map (operand_of a) is) (numbers_at first (block_values p (start_at p [] []) block) is)
    indices_known ds [] constants numbers e = tt
    indices_known [] (i ∷ is) constants numbers e = absurd (cc)
    indices_known (d ∷ ds) (i ∷ is) constants numbers e =
        let ws = block_values p (start_at p [] []) block in
        let two = both_true (is_below_size (value_of (word_at first ws i)) d.size) (is_inside ds (numbers_at first ws is)) e in
        let k = constant_known i d.size constants.0 numbers.0 [] [] two.0 in
        (record { number = constants.0.word.bits; literal = literal_as i ∙ k.0; value = k.1 }, indices_known ds is constants.1 numbers.1 two.1)

    -- offsets that are constants are known
    offset_whole : (v : ℕ) → IsConstantAt p block v → IsNumber p first (kinds_of p block) v → (operand_of a v).whole ≡ Some (value_of (word_at first (block_values p (start_at p [] []) block) v))
    offset_whole v c number =
        whole_as v
        ∙ (whole_here v c
        ∙ (whole_found c.word.kind c.word.bits (subst IsInteger (constant_kind v c) number) ∙ ap (λ (w : Word). Some (value_of w)) (sym (constant_value [] [] v c))))
      where
        whole_as : (v : ℕ) → whole_at a.operations (v - a.first) ≡ whole_at os (v - first)
        whole_as v = ap (λ (l : List Operation). whole_at l (v - a.first)) own.operations ∙ ap (λ (n : ℕ). whole_at os (v - n)) own.first_is

    offsets_whole : (vs : List ℕ) → AllByRecursion (IsConstantAt p block) vs → AllByRecursion (IsNumber p first (kinds_of p block)) vs
        → AreWholes (map (operand_of a) vs) (numbers_at first (block_values p (start_at p [] []) block) vs)
    offsets_whole [] constants numbers = tt
    offsets_whole (v ∷ vs) constants numbers = (offset_whole v constants.0 numbers.0, offsets_whole vs constants.1 numbers.1)

    steps_whole : (ss : List ReachStep) → AllByRecursion (IsConstantAt p block) (offsets_taken ss) → AllByRecursion (IsNumber p first (kinds_of p block)) (offsets_taken ss)
        → AllByRecursion (λ s. AreWholes (map (operand_of a) s.offsets) (numbers_at first (block_values p (start_at p [] []) block) s.offsets)) ss
    steps_whole [] constants numbers = tt
    steps_whole (s ∷ ss) constants numbers =
        let C = IsConstantAt p block in
        let N = IsNumber p first (kinds_of p block) in
        (offsets_whole s.offsets (all_left C s.offsets _ constants) (all_left N s.offsets _ numbers), steps_whole ss (all_right C s.offsets _ constants) (all_right N s.offsets _ numbers))

    -- of an access that has literals all that is to be in range is one, and the indices of the memory
    pub literal_ways : HasMaps p → IsProgramTable p.table → (r : Reach) → ReachSuits p first (kinds_of p block) r → HasLiterals p block r → (old : List Operation)
        → AreAllLiteral (reach_passed a r old).ranges × (r.row ≡ None → AreAllLiteral (ranges_by (dims_at p.table r.memory) (reach_passed a r old).indices))
    literal_ways maps tables r suits has old = to_literal r.row refl
      where
        start : StepStart
        start = start_at p [] []

        ws : List Word
        ws = block_values p start block

        spot : Spot
        spot = (has.inside [] []).0

        leads : spot_in_row start first ws r r.row ≡ Some spot
        leads = (has.inside [] []).1

        to_literal : (row : Option ℕ) → r.row ≡ row → AreAllLiteral (passed_to a r row old).ranges × (row ≡ None → AreAllLiteral (ranges_by (dims_at p.table r.memory) (passed_to a r row old).indices))
        to_literal None is =
            let element = subst (λ (o : Option ℕ). NamesElement p first (kinds_of p block) r o) is suits.element in
            let at : spot_in_row start first ws r None ≡ Some spot = subst (λ (o : Option ℕ). spot_in_row start first ws r o ≡ Some spot) is leads in
            let named = subst (λ (o : Option ℕ). NamedByConstants p block r o) is has.constants in
            let offsets : (ReachStep → List ℤ) = λ s. numbers_at first ws s.offsets in
            let numbers = all_left (IsNumber p first (kinds_of p block)) r.indices (offsets_taken r.steps) suits.indices in
            let inside = first_inside p maps tables first (kinds_of p block) r.memory offsets spot r.steps element.0 (numbers_at first ws r.indices) element.1.1 at in
            let k = steps_known p maps tables first (kinds_of p block) r.memory offsets spot a own.views r.steps element.0 (numbers_at first ws r.indices) (way_begun a r old) element.1.1
            (steps_whole r.steps named.1 (all_right (IsNumber p first (kinds_of p block)) r.indices (offsets_taken r.steps) suits.indices))
            (indices_known element.0 r.indices named.0 numbers inside) tt at
            in (
              subst (λ (t : List MemEntry). AreAllLiteral ((steps_passed a r.steps (way_begun a r old)).ranges ++ ranges_by (dims_at t r.memory) (steps_passed a r.steps (way_begun a r old)).indices)) (sym own.table)
                  (literals_join (steps_passed a r.steps (way_begun a r old)).ranges _ k.0 k.1),
              λ e. k.1,
            )
        to_literal (Some row) is =
            let at : spot_in_row start first ws r (Some row) ≡ Some spot = subst (λ (o : Option ℕ). spot_in_row start first ws r o ≡ Some spot) is leads in
            let number = subst (λ (o : Option ℕ). AllByRecursion (IsNumber p first (kinds_of p block)) (one_or_none o)) is suits.row in
            let named = subst (λ (o : Option ℕ). NamedByConstants p block r o) is has.constants in
            let rows = rows_of (dims_at p.table r.memory) in
            let inside = some_if (is_row (dims_at p.table r.memory) (value_of (word_at first ws row))) _ spot at in
            let k = constant_known row rows named.0 number.0 [] [] inside in
            let below = below_found named.0.word.bits rows (ap (λ (z : ℤ). is_below_size z rows) (sym k.1) ∙ inside) in
            let size : rows_of (dims_at a.table r.memory) % 2 ^ 64 ≡ rows = ap (λ (t : List MemEntry). rows_of (dims_at t r.memory) % 2 ^ 64) own.table ∙ mod-eq_of_lt (rows_below p.table r.memory tables) in (
              ((named.0.word.bits, ap (λ (n : ℕ). below_size (literal_at a.operations (row - a.first)) n) size ∙ (ap (λ (l : Option ℕ). below_size l rows) (literal_as row ∙ k.0) ∙ below)), tt),
              λ e. absurd (some_none e),
            )
          where
            some_none : Some row ≡ None → ⊥
            some_none e = cc
