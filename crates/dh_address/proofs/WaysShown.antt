-- What the values of a way show: each is a word of its kind; and where all that was to be in range so far is, each index
-- stands for the whole number that the plan's views lead to: it is in range exactly where that is, and then is that.
use Rattle.std.proofs.Common.{◌≡◌, ℕ, suc, ◌+◌, ◌-◌, ◌*◌, ◌/◌, ◌%◌, ◌^◌, ◌<◌, ◌≤◌, inl, inr, ◌&&◌, nat_le, nat_lt, Bool, true, false, List, length, pos, negsuc, neg_ℤ, int_lt, unsigned_abs, refl, sym, ap, subst, ◌∙◌, arith, pow_mono}
use Rattle.std.specs.Prelude.{min, if◌then◌else◌, Option, Some, None, [], ◌∷◌, ◌++◌, ℤ, ◌+ℤ◌, ◌*ℤ◌}
use Rattle.std.specs.List.{AllByRecursion}
use Rattle.std.proofs.lemmas.Bool.{cases_lt}
use Rattle.std.proofs.lemmas.Bool.Decides.{nat_tests}
use Rattle.std.proofs.lemmas.Int.{ints}
use Rattle.std.proofs.lemmas.Nat.{pow_pos}
use Rattle.std.proofs.Math.IntN.{pos-*ℤ-pos, pos-*ℤ-negsuc}
use Rattle.std.proofs.Math.Nat.{mod-eq_of_lt, div-le_self, div-eq_of_lt, div-mul-le_self, le-mul_of_pos_right, mul-le-mul_right, mul-div_cancel, mul_comm}
use Rattle.dh_value.specs.declared.kinds.Kind.TheVariants as kind
use Rattle.dh_value.specs.declared.words.Word.{Word}
use Rattle.dh_value.specs.Words.{IsInteger, IsWidth, IsWord, residue, value_of, with_bits, word_of}
use Rattle.dh_value.proofs.Residues.{residue-lt}
use Rattle.dh_tree.specs.declared.tables.Dim.{Dim}
use Rattle.dh_tree.specs.ViewElements.{is_index, is_inside, dealt_index}
use Rattle.dh_tree.specs.ViewShapes.{AreSplitOf}
use Rattle.dh_viewing.proofs.SmallOffsets.{small_offset}
use Rattle.dh_plan.specs.declared.operations.Operation.{Operation}
use Rattle.dh_plan.specs.declared.operations.OperationForm.TheVariants.{Constant}
use Rattle.dh_rows.specs.declared.spanning.Span.{Span}
use Rattle.dh_rows.specs.Readings.{Readings, Obeys}
use Rattle.dh_rows.specs.RowsShown.{is_below_size, is_small, SpanTells}
use Rattle.dh_rows.specs.MadeOperations.{moved, dealt, spanned, moved_width}
use Rattle.dh_rows.proofs.Growing.{plain_grows, obeys_plain, pushed_word}
use Rattle.dh_rows.proofs.PutSpread.{FitsWidth}
use Rattle.dh_rows.proofs.WrappedSums.{moved_shows}
use Rattle.dh_rows.proofs.SpannedOffsets.{moved_range, width_moves, spanned_tells}
use Rattle.dh_rows.proofs.DealtIndices.{dealt_small, dealt_shows, dealt_cuts}
use Rattle.dh_address.specs.declared.operands.BlockValue.{BlockValue}
use Rattle.dh_address.specs.declared.operands.Ranged.{Ranged}
use Rattle.dh_address.specs.LiteralPlaces.{below_size}
use Rattle.dh_address.specs.WaysMade.{IndexWay, PlacedOperand, span_range, is_near, bounded_unless, offset_bounded, placed_as, made_or, index_moved, word_steps, steps_by, moved_literal, moved_operand, moved_one, maybe_range, dealt_literal, dealt_operand, ranges_by}
use Rattle.dh_address.proofs.AccessesLead.{in_range}
use Rattle.dh_address.proofs.LiteralMeans.{below_means, natural_range}
use Rattle.dh_address.proofs.TestedRanges.{IsShown, all_in, and_true, begun_later}
use Rattle.dh_address.proofs.WaySizes.{IsFew}
use Rattle.dh_address.proofs.WaysPlain.{offset_plain, moved_operand_plain}
use Rattle.dh_address.proofs.WaysPut.{IsDealtTo, dealt_to, unwrapped, dealt_means, moved_below}

-- Numbers.

pub one_time : (z : ℤ) → pos 1 *ℤ z ≡ z
one_time (pos n) = let p = pos-*ℤ-pos 1 n in omega (arith, ints, p)
one_time (negsuc n) = let p = pos-*ℤ-negsuc 1 n in omega (arith, ints, p)

-- a multiple beyond the size is as good as one by the size
min_bound : (k size : ℕ) → 1 ≤ size → (size - 1) / min k size ≡ (size - 1) / k
min_bound k size some = elim (cases_lt size k) [
  | inl l ↦ (let m : min k size ≡ size = omega (arith, l) in ap (λ n. (size - 1) / n) m ∙ (div-eq_of_lt (omega (arith, some)) ∙ sym (div-eq_of_lt (omega (arith, l)))))
  | inr l ↦ (let m : min k size ≡ k = omega (arith, l) in ap (λ n. (size - 1) / n) m)
]

min_times : (k size : ℕ) (e : ℤ) → 1 ≤ size → is_small e ((size - 1) / k) ≡ true → pos (min k size) *ℤ e ≡ pos k *ℤ e
min_times k size e some small = elim (cases_lt size k) [
  | inl l ↦ nothing e (subst (λ n. is_small e n ≡ true) (div-eq_of_lt (omega (arith, l))) small)
  | inr l ↦ (let m : min k size ≡ k = omega (arith, l) in ap (λ n. pos n *ℤ e) m)
]
  where
    none : (n : ℕ) → nat_le n 0 ≡ true → n ≡ 0
    none n h = grind (arith, nat_tests)

    nothing : (e : ℤ) → nat_le (unsigned_abs e) 0 ≡ true → pos (min k size) *ℤ e ≡ pos k *ℤ e
    nothing (pos n) h =
        let z = none n h in
        ap (λ m. pos (min k size) *ℤ pos m) z ∙ (both (min k size) k ∙ ap (λ m. pos k *ℤ pos m) (sym z))
      where
        both : (a b : ℕ) → pos a *ℤ pos 0 ≡ pos b *ℤ pos 0
        both a b = let p = pos-*ℤ-pos a 0 in let q = pos-*ℤ-pos b 0 in omega (arith, ints, p, q)
    nothing (negsuc n) h = absurd (let z = none (suc n) h in omega (arith, z))

-- the constants of an offset and an index, and what they give
pub record AreMoved (offset : Option ℤ) (index : Option ℕ) (factor size n : ℕ) : Type 0 where
  pub first : ℤ
  pub second : ℕ
  pub offset_is : offset ≡ Some first
  pub index_is : index ≡ Some second
  pub number : index_moved (int_lt first (pos 0)) (steps_by first factor) second ≡ Some n

moved_means : (offset : Option ℤ) (index : Option ℕ) (factor size n : ℕ) → moved_literal offset index factor size ≡ Some n → AreMoved offset index factor size n
moved_means None index factor size n e = absurd (cc)
moved_means (Some a) None factor size n e = absurd (cc)
moved_means (Some a) (Some i) factor size n e =
    let b = below_means (index_moved (int_lt a (pos 0)) (steps_by a factor) i) size n e in
    record { first = a; second = i; offset_is = refl; index_is = refl; number = b.0 }

-- where nothing wraps, a constant times the factor, and an index, is the number that both give

pub product_is : (a k size : ℕ) → size < 2 ^ 60 → 1 ≤ k → a * k < size → word_steps a * k % 2 ^ 64 ≡ a * k
product_is a k size few more l =
    ap (λ (b : Bool). (if b then a else 0) * k % 2 ^ 64) (less a (2 ^ 64) (under a (a * k) size (le-mul_of_pos_right a more) l few)) ∙ mod-eq_of_lt (whole (a * k) size l few)
  where
    less : (a b : ℕ) → a < b → nat_lt a b ≡ true
    less a b l = grind (arith, nat_tests)

    under : (a n size : ℕ) → a ≤ n → n < size → size < 2 ^ 60 → a < 2 ^ 64
    under a n size l m few = omega (arith, l, m, few)

    whole : (n size : ℕ) → n < size → size < 2 ^ 60 → n < 2 ^ 64
    whole n size l few = omega (arith, l, few)

moved_on : (by i n : ℕ) → index_moved false by i ≡ Some n → (by + i) % 2 ^ 64 ≡ n
moved_on by i n e = same ((by + i) % 2 ^ 64) e
  where
    same : (m : ℕ) → Some m ≡ Some n → m ≡ n
    same m e = cc

moved_back : (by i n : ℕ) → index_moved true by i ≡ Some n → (by ≤ i) × (i - by ≡ n)
moved_back by i n e = of (nat_le by i) refl e
  where
    at_most : (a b : ℕ) → nat_le a b ≡ true → a ≤ b
    at_most a b l = grind (arith, nat_tests)

    same : (m : ℕ) → Some m ≡ Some n → m ≡ n
    same m e = cc

    of : (t : Bool) → nat_le by i ≡ t → (if t then Some (i - by) else None) ≡ Some n → (by ≤ i) × (i - by ≡ n)
    of true l e = (at_most by i l, same (i - by) e)
    of false l e = absurd (cc)

pub never_below : (a : ℕ) → nat_lt a 0 ≡ false
never_below a = grind (arith, nat_tests)

pub sum_small : (b i size : ℕ) → b < size → i < size → size < 2 ^ 60 → b + i < 2 ^ 64
sum_small b i size l m few = omega (arith, l, m, few)

pub sum_on : (y : ℤ) (w v b : ℕ) → y ≡ pos w → w ≡ v → y +ℤ pos b ≡ pos (v + b)
sum_on y w v b p t = omega (arith, ints, p, t)

pub sum_back : (y : ℤ) (w v b : ℕ) → y ≡ neg_ℤ (pos w) → w ≡ v → v ≤ b → y +ℤ pos b ≡ pos (b - v)
sum_back y w v b p t l = omega (arith, ints, p, t, l)

moved_number : (e : ℤ) (k i n size : ℕ) → size < 2 ^ 60 → 1 ≤ k → unsigned_abs e * k < size → i < size
    → index_moved (int_lt e (pos 0)) (steps_by e k) i ≡ Some n → (pos k *ℤ e) +ℤ pos i ≡ pos n
moved_number (pos a) k i n size few more l m e =
    let s = moved_on (steps_by (pos a) k) i n (subst (λ (b : Bool). index_moved b (steps_by (pos a) k) i ≡ Some n) (never_below a) e) in
    sum_on (pos k *ℤ pos a) (k * a) (a * k) i (pos-*ℤ-pos k a) (mul_comm k a)
    ∙ ap pos (sym (mod-eq_of_lt (sum_small (a * k) i size l m few)) ∙ (ap (λ b. (b + i) % 2 ^ 64) (sym (product_is a k size few more l)) ∙ s))
moved_number (negsuc a) k i n size few more l m e =
    let s = moved_back (steps_by (negsuc a) k) i n e in
    let by = product_is (suc a) k size few more l in
    sum_back (pos k *ℤ negsuc a) (k * suc a) (suc a * k) i (pos-*ℤ-negsuc k a) (mul_comm k (suc a)) (subst (λ b. b ≤ i) by s.0)
    ∙ ap pos (ap (λ b. i - b) (sym by) ∙ s.1)

pub small_product : (a k size : ℕ) → 1 ≤ size → 1 ≤ k → nat_le a ((size - 1) / k) ≡ true → a * k < size
small_product a k size some more e =
    let l = at_most a ((size - 1) / k) e in
    let most = div-mul-le_self (size - 1) k in
    let times : a * k ≤ (size - 1) / k * k = mul-le-mul_right k l in
    omega (arith, most, times, some)
  where
    at_most : (m n : ℕ) → nat_le m n ≡ true → m ≤ n
    at_most m n e = grind (arith, nat_tests)

pub dealt_same : (v w p : Dim) (k : ℕ) → AreSplitOf (v ∷ (w ∷ [])) (p ∷ []) (k ∷ []) → (a b : ℕ) → dealt_index p.banks (p.banks / k) a b ≡ (b / w.banks * v.size + a) * w.banks + b % w.banks
dealt_same v w p k h a b =
    let share : p.banks / k ≡ w.banks = ap (λ n. n / k) (sym h.1.1.0) ∙ mul-div_cancel w.banks h.1.1.1 in
    ap (λ s. dealt_index p.banks s a b) share
    ∙ (ap (λ n. dealt_index n w.banks a b) (sym h.1.1.0) ∙ (regroup (b / w.banks) w.banks k a (b % w.banks) ∙ ap (λ n. (b / w.banks * n + a) * w.banks + b % w.banks) (sym h.0.0)))
  where
    regroup : (q s k a r : ℕ) → q * (s * k) + a * s + r ≡ (q * k + a) * s + r
    regroup q s k a r = omega arith

true_or_false : {A : Type 0} → true ≡ false → A
true_or_false e = absurd (cc)

-- Words.

module _ (x : Readings) where
  -- an operand shows a word of its kind, and what it is where it is a constant
  pub record IsSeen (o : BlockValue) : Type 0 where
    pub sized : IsInteger o.kind
    pub word : IsWord (x.word o.value)
    pub kind_is : (x.word o.value).kind ≡ o.kind
    pub literal : (n : ℕ) → o.literal ≡ Some n → value_of (x.word o.value) ≡ pos n
    pub whole : (z : ℤ) → o.whole ≡ Some z → value_of (x.word o.value) ≡ z

  abbrev pub AreSeen : List BlockValue → Type 0
  AreSeen os = AllByRecursion IsSeen os

  abbrev pub RangesSeen : List Ranged → Type 0
  RangesSeen rs = AllByRecursion (λ r. IsSeen r.operand) rs

  -- what is tested of it is shown
  pub seen_shown : (rs : List Ranged) → RangesSeen rs → AllByRecursion (IsShown x) rs
  seen_shown [] h = tt
  seen_shown (r ∷ rs) h = (record { sized = h.0.sized; word = h.0.word; kind_is = h.0.kind_is; literal = λ n e. within n e }, seen_shown rs h.1)
    where
      less : (n size : ℕ) → n < size → nat_lt n size ≡ true
      less n size l = grind (arith, nat_tests)

      within : (n : ℕ) → below_size r.operand.literal r.size ≡ Some n → is_below_size (value_of (x.word r.operand.value)) r.size ≡ true
      within n e = let b = below_means r.operand.literal r.size n e in ap (λ z. is_below_size z r.size) (h.0.literal n b.0) ∙ (natural_range n r.size ∙ less n r.size b.1)

  -- for a dimension of this size it stands for a whole number
  pub record StandsFor (size : ℕ) (o : BlockValue) (z : ℤ) : Type 0 where
    pub test : is_below_size (value_of (x.word o.value)) size ≡ is_index size z
    pub exact : is_index size z ≡ true → value_of (x.word o.value) ≡ z

  abbrev pub AreFor : List Dim → List BlockValue → List ℤ → Type 0
  AreFor [] [] [] = Unit {0}
  AreFor (d ∷ ds) (o ∷ os) (z ∷ zs) = StandsFor d.size o z × AreFor ds os zs
  AreFor _ _ _ = ⊥

  -- operands show these whole numbers
  abbrev pub AreValues : List BlockValue → List ℤ → Type 0
  AreValues [] [] = Unit {0}
  AreValues (o ∷ os) (z ∷ zs) = (value_of (x.word o.value) ≡ z) × AreValues os zs
  AreValues _ _ = ⊥

  pub values_for : (ds : List Dim) (os : List BlockValue) (zs : List ℤ) → AreValues os zs → length os ≡ length ds → AreFor ds os zs
  values_for [] [] [] h l = tt
  values_for [] [] (z ∷ zs) h l = absurd h
  values_for [] (o ∷ os) zs h l = absurd (omega (arith, l))
  values_for (d ∷ ds) [] zs h l = absurd (omega (arith, l))
  values_for (d ∷ ds) (o ∷ os) [] h l = absurd h
  values_for (d ∷ ds) (o ∷ os) (z ∷ zs) h l = (record { test = ap (λ y. is_below_size y d.size) h.0; exact = λ e. h.0 }, values_for ds os zs h.1 (omega (arith, l)))

  pub all_in_for : (ds : List Dim) (os : List BlockValue) (zs : List ℤ) → AreFor ds os zs → all_in x (ranges_by ds os) ≡ is_inside ds zs
  all_in_for [] [] [] h = refl
  all_in_for [] [] (z ∷ zs) h = absurd h
  all_in_for [] (o ∷ os) zs h = absurd h
  all_in_for (d ∷ ds) [] zs h = absurd h
  all_in_for (d ∷ ds) (o ∷ os) [] h = absurd h
  all_in_for (d ∷ ds) (o ∷ os) (z ∷ zs) h =
      ap (λ (b : Bool). b && all_in x (ranges_by ds os)) h.0.test ∙ ap (λ (b : Bool). is_index d.size z && b) (all_in_for ds os zs h.1)

  pub all_in_join : (rs ss : List Ranged) → all_in x (rs ++ ss) ≡ (all_in x rs && all_in x ss)
  all_in_join [] ss = refl
  all_in_join (r ∷ rs) ss = ap (λ (b : Bool). is_below_size (value_of (x.word r.operand.value)) r.size && b) (all_in_join rs ss) ∙ sym (and_three _ (all_in x rs) (all_in x ss))
    where
      and_three : (a b c : Bool) → ((a && b) && c) ≡ (a && (b && c))
      and_three true b c = refl
      and_three false b c = refl

  pub ranges_seen : (ds : List Dim) (os : List BlockValue) → AreSeen os → RangesSeen (ranges_by ds os)
  ranges_seen [] os h = tt
  ranges_seen (d ∷ ds) [] h = tt
  ranges_seen (d ∷ ds) (o ∷ os) h = (h.0, ranges_seen ds os h.1)

  no_whole : (y : ℤ) → None ≡ Some y → ⊥
  no_whole y e = cc

  -- a word cut to a width, and a constant, are words
  cut_seen : (l : Option ℕ) (width v : ℕ) (z : ℤ) → IsWidth width → l ≡ None → x.word v ≡ word_of (kind.Unsigned width) z → IsSeen (record { literal = l; whole = None; kind = kind.Unsigned width; value = v })
  cut_seen l width v z sized none is = record {
    sized = sized;
    word = subst (λ (w : Word). IsWord w) (sym is) (record { sized = sized; fits = residue-lt (2 ^ width) z (pow_pos width) });
    kind_is = ap (λ (w : Word). w.kind) is;
    literal = λ n e. absurd (never n (sym none ∙ e));
    whole = λ y e. absurd (no_whole y e);
  }
    where
      never : (n : ℕ) → None ≡ Some n → ⊥
      never n e = cc

  constant_seen : (width v n : ℕ) → IsWidth width → n < 2 ^ width → x.word v ≡ with_bits (kind.Unsigned width) n → IsSeen (record { literal = Some n; whole = None; kind = kind.Unsigned width; value = v })
  constant_seen width v n sized small is = record {
    sized = sized;
    word = subst (λ (w : Word). IsWord w) (sym is) (record { sized = sized; fits = small });
    kind_is = ap (λ (w : Word). w.kind) is;
    literal = λ m e. ap value_of is ∙ ap pos (same m e);
    whole = λ y e. absurd (no_whole y e);
  }
    where
      same : (m : ℕ) → Some n ≡ Some m → n ≡ m
      same m e = cc

  -- Offsets.

  pub record ShowsRange (ranges : List Ranged) (holds : Bool) : Type 0 where
    pub seen : RangesSeen ranges
    pub test : all_in x ranges ≡ holds

  span_shows : (s : Option Span) (holds : Bool) → SpanTells x s holds → ShowsRange (maybe_range (span_range s)) holds
  span_shows None holds h = record { seen = tt; test = sym h }
  span_shows (Some s) holds h = record {
    seen = (record { sized = h.sized; word = h.word; kind_is = h.kind_is; literal = λ n e. absurd (never n e); whole = λ y e. absurd (no_whole y e) }, tt);
    test = and_true (is_below_size (value_of (x.word s.value)) s.size) ∙ h.test;
  }
    where
      never : (n : ℕ) → None ≡ Some n → ⊥
      never n e = cc

  bounded_shows : (near : Bool) (os : List Operation) (e : BlockValue) (bound : ℕ) → is_near e.whole bound ≡ near → x.first ≤ length os → bound < 2 ^ 60 → IsSeen e
      → Obeys x (bounded_unless near os e bound).operations → ShowsRange (maybe_range (bounded_unless near os e bound).range) (is_small (value_of (x.word e.value)) bound)
  bounded_shows false os e bound is begun few h obeys =
      span_shows (spanned os e.kind e.value bound).span (is_small (value_of (x.word e.value)) bound) (spanned_tells x e.kind os begun e.value bound h.sized few h.word h.kind_is obeys)
  bounded_shows true os e bound is begun few h obeys = record { seen = tt; test = sym (small e.whole refl is) }
    where
      small : (o : Option ℤ) → e.whole ≡ o → is_near o bound ≡ true → is_small (value_of (x.word e.value)) bound ≡ true
      small None at n = true_or_false (sym n)
      small (Some z) at n = ap (λ y. is_small y bound) (h.whole z at) ∙ n

  -- A moved index.

  pub record ShowsMoved (size factor : ℕ) (m : PlacedOperand) (e i : ℤ) (index : BlockValue) : Type 0 where
    pub seen : IsSeen m.operand
    pub stands : StandsFor size index i → is_index size i ≡ true → is_small e ((size - 1) / factor) ≡ true → StandsFor size m.operand ((pos factor *ℤ e) +ℤ i)

  stands_as : (size : ℕ) (o : BlockValue) (n : ℕ) (z : ℤ) → value_of (x.word o.value) ≡ pos n → z ≡ pos n → StandsFor size o z
  stands_as size o n z is same = record { test = ap (λ y. is_below_size y size) (is ∙ sym same); exact = λ e. is ∙ sym same }

  module _ (os : List Operation) (begun : x.first ≤ length os) (size factor : ℕ) (few : size < 2 ^ 60) (some : 1 ≤ size) (more : 1 ≤ factor) (e i : BlockValue) (ez iz : ℤ) (e_seen : IsSeen e) (i_seen : IsSeen i)
      (e_is : value_of (x.word e.value) ≡ ez) where
    wide : IsWidth (moved_width size) × (size * 4 ≤ 2 ^ moved_width size)
    wide = width_moves size few

    by_words : (v : ℕ) → x.word v ≡ word_of (kind.Unsigned (moved_width size)) ((pos (min factor size) *ℤ value_of (x.word e.value)) +ℤ value_of (x.word i.value))
        → StandsFor size i iz → is_index size iz ≡ true → is_small ez ((size - 1) / factor) ≡ true
        → StandsFor size (record { literal = None; whole = None; kind = kind.Unsigned (moved_width size); value = v }) ((pos factor *ℤ ez) +ℤ iz)
    by_words v is h inside small =
        let n = in_range iz size inside in
        let z : (pos (min factor size) *ℤ value_of (x.word e.value)) +ℤ value_of (x.word i.value) ≡ (pos (min factor size) *ℤ ez) +ℤ pos (unsigned_abs iz)
        = ap (λ y. (pos (min factor size) *ℤ y) +ℤ value_of (x.word i.value)) e_is ∙ ap (λ y. (pos (min factor size) *ℤ ez) +ℤ y) (h.exact inside ∙ n.is)
        in
        let t = moved_range (2 ^ moved_width size) size (min factor size) (unsigned_abs iz) ez some wide.1 (subst (λ b. is_small ez b ≡ true) (sym (min_bound factor size some)) small) n.below in
        let same : (pos (min factor size) *ℤ ez) +ℤ pos (unsigned_abs iz) ≡ (pos factor *ℤ ez) +ℤ iz
        = ap (λ y. y +ℤ pos (unsigned_abs iz)) (min_times factor size ez some small) ∙ ap (λ y. (pos factor *ℤ ez) +ℤ y) (sym n.is)
        in
        let shown : value_of (x.word v) ≡ pos (residue (2 ^ moved_width size) ((pos (min factor size) *ℤ ez) +ℤ pos (unsigned_abs iz)))
        = ap value_of is ∙ ap (λ y. pos (residue (2 ^ moved_width size) y)) z
        in
        record {
          test = ap (λ y. is_below_size y size) shown ∙ (t.test ∙ ap (λ y. is_index size y) same);
          exact = λ w. shown ∙ (t.exact (ap (λ y. is_index size y) same ∙ w) ∙ same);
        }

    by_constants : (n v : ℕ) → AreMoved e.whole i.literal factor size n → value_of (x.word v) ≡ pos n → StandsFor size i iz → is_index size iz ≡ true → is_small ez ((size - 1) / factor) ≡ true
        → StandsFor size (record { literal = Some n; whole = None; kind = kind.Unsigned (moved_width size); value = v }) ((pos factor *ℤ ez) +ℤ iz)
    by_constants n v m is h inside small =
        let ez_is : ez ≡ m.first = sym e_is ∙ e_seen.whole m.first m.offset_is in
        let iz_is : iz ≡ pos m.second = sym (h.exact inside) ∙ i_seen.literal m.second m.index_is in
        let below = (in_range iz size inside).below in
        let second : m.second < size = subst (λ k. k < size) (ap unsigned_abs iz_is) below in
        let near : is_small m.first ((size - 1) / factor) ≡ true = subst (λ z. is_small z ((size - 1) / factor) ≡ true) ez_is small in
        let first : unsigned_abs m.first * factor < size = small_product (unsigned_abs m.first) factor size some more near in
        let z : (pos factor *ℤ ez) +ℤ iz ≡ pos n =
        ap (λ y. (pos factor *ℤ y) +ℤ iz) ez_is
        ∙ (ap (λ y. (pos factor *ℤ m.first) +ℤ y) iz_is ∙ moved_number m.first factor m.second n size few more first second m.number)
        in
        stands_as size (record { literal = Some n; whole = None; kind = kind.Unsigned (moved_width size); value = v }) n ((pos factor *ℤ ez) +ℤ iz) is z

    moved_as_shown : (l : Option ℕ) → moved_literal e.whole i.literal factor size ≡ l → Obeys x (made_or os l (moved_width size) (moved os (moved_width size) (min factor size) e.value i.value)).operations
        → ShowsMoved size factor (placed_as l (moved_width size) (made_or os l (moved_width size) (moved os (moved_width size) (min factor size) e.value i.value))) ez iz i
    moved_as_shown None is obeys =
        let w = moved_shows x (moved_width size) os begun (min factor size) e.value i.value (omega (arith, few)) obeys in
        record { seen = cut_seen None (moved_width size) _ _ wide.0 refl w; stands = λ h inside small. by_words _ w h inside small }
    moved_as_shown (Some n) is obeys =
        let w = pushed_word x os (Constant (with_bits (kind.Unsigned (moved_width size)) n)) refl begun obeys in
        let below = moved_below e.whole i.literal factor size n is in
        let m = wide.1 in
        record {
          seen = constant_seen (moved_width size) (length os) n wide.0 (omega (arith, below, m)) w;
          stands = λ h inside small. by_constants n (length os) (moved_means e.whole i.literal factor size n is) (ap value_of w) h inside small;
        }

    pub moved_operand_shown : Obeys x (moved_operand os size factor e i).operations → ShowsMoved size factor (moved_operand os size factor e i) ez iz i
    moved_operand_shown obeys = moved_as_shown (moved_literal e.whole i.literal factor size) refl obeys

  -- One dimension of a view that moves.

  pub record ShowsOne (size factor : ℕ) (e i : BlockValue) (ez iz : ℤ) (w : IndexWay) : Type 0 where
    pub range : ShowsRange (maybe_range (offset_bounded w.operations e ((size - 1) / factor)).range) (is_small ez ((size - 1) / factor))
    pub index : ShowsMoved size factor (moved_operand (offset_bounded w.operations e ((size - 1) / factor)).operations size factor e i) ez iz i

  pub moved_one_shown : (size factor : ℕ) (e i : BlockValue) (ez iz : ℤ) (w : IndexWay) → size < 2 ^ 60 → 1 ≤ size → 1 ≤ factor → x.first ≤ length w.operations → IsSeen e → IsSeen i → value_of (x.word e.value) ≡ ez
      → Obeys x (moved_one size factor e i w).operations → ShowsOne size factor e i ez iz w
  moved_one_shown size factor e i ez iz w few some more begun e_seen i_seen e_is obeys =
      let bound = (size - 1) / factor in
      let b = offset_bounded w.operations e bound in
      let grown = offset_plain w.operations e bound in
      let later = moved_operand_plain b.operations size factor e i in
      let at_b = begun_later x w.operations b.operations (plain_grows _ _ grown) begun in
      let most = div-le_self (size - 1) factor in
      let range = bounded_shows (is_near e.whole bound) w.operations e bound refl begun (omega (arith, most, few)) e_seen (obeys_plain x b.operations _ later obeys) in
      record {
        range = subst (λ z. ShowsRange (maybe_range b.range) (is_small z bound)) e_is range;
        index = moved_operand_shown b.operations at_b size factor few some more e i ez iz e_seen i_seen e_is obeys;
      }

  -- an offset that is not small leads out of range
  pub far_outside : (size factor : ℕ) (ez iz : ℤ) → 1 ≤ factor → is_index size iz ≡ true → is_small ez ((size - 1) / factor) ≡ false → is_index size ((pos factor *ℤ ez) +ℤ iz) ≡ false
  far_outside size factor ez iz more inside far = of (is_index size ((pos factor *ℤ ez) +ℤ iz)) refl
    where
      within : (a b : ℕ) → a ≤ b → nat_le a b ≡ true
      within a b l = grind (arith, nat_tests)

      of : (t : Bool) → is_index size ((pos factor *ℤ ez) +ℤ iz) ≡ t → t ≡ false
      of true e = true_or_false (sym (within (unsigned_abs ez) ((size - 1) / factor) (small_offset size factor ez iz more inside e)) ∙ far)
      of false e = refl

  -- A split.

  pub record ShowsDealt (v w p : Dim) (k : ℕ) (m : PlacedOperand) (a b : BlockValue) (az bz : ℤ) : Type 0 where
    pub seen : IsSeen m.operand
    pub stands : StandsFor v.size a az → StandsFor w.size b bz → is_index v.size az ≡ true → is_index w.size bz ≡ true
        → StandsFor p.size m.operand (pos (dealt_index p.banks (p.banks / k) (unsigned_abs az) (unsigned_abs bz)))

  module _ (os : List Operation) (begun : x.first ≤ length os) (v w p : Dim) (k : ℕ) (split : AreSplitOf (v ∷ (w ∷ [])) (p ∷ []) (k ∷ [])) (own : IsFew w) (parent : IsFew p) (a b : BlockValue) (az bz : ℤ)
      (a_seen : IsSeen a) (b_seen : IsSeen b) where
    width_fits : IsWidth (moved_width p.size) × (p.size * 4 ≤ 2 ^ moved_width p.size)
    width_fits = width_moves p.size parent.small

    d : IsDealtTo v.size w p.size
    d = dealt_to v w p k split own.dim.size

    fits : FitsWidth (moved_width p.size) w
    fits = let l = d.less in let m = width_fits.1 in let s = own.dim.size in record { dim = own.dim; small = omega (arith, l, m, s) }

    all_below : v.size * w.size < 2 ^ moved_width p.size
    all_below = let all = d.all in let m = width_fits.1 in let s = parent.dim.size in omega (arith, all, m, s)

    same_number : (na nb n : ℕ) (o : BlockValue) → az ≡ pos na → bz ≡ pos nb → (nb / w.banks * v.size + na) * w.banks + nb % w.banks ≡ n → value_of (x.word o.value) ≡ pos n
        → StandsFor p.size o (pos (dealt_index p.banks (p.banks / k) (unsigned_abs az) (unsigned_abs bz)))
    same_number na nb n o a_is b_is number is =
        stands_as p.size o n _ is
        (ap (λ z. pos (dealt_index p.banks (p.banks / k) (unsigned_abs z) (unsigned_abs bz))) a_is
        ∙ (ap (λ z. pos (dealt_index p.banks (p.banks / k) na (unsigned_abs z))) b_is ∙ ap pos (dealt_same v w p k split na nb ∙ number)))

    dealt_as_shown : (l : Option ℕ) → dealt_literal a.literal b.literal v.size w ≡ l → Obeys x (made_or os l (moved_width p.size) (dealt os (moved_width p.size) v.size w a.value b.value)).operations
        → ShowsDealt v w p k (placed_as l (moved_width p.size) (made_or os l (moved_width p.size) (dealt os (moved_width p.size) v.size w a.value b.value))) a b az bz
    dealt_as_shown None is obeys =
        let cut = dealt_cuts x (moved_width p.size) width_fits.0.1 os begun v.size w a.value b.value obeys in
        record { seen = cut_seen None (moved_width p.size) _ cut.0 width_fits.0 refl cut.1; stands = stands }
      where
        stands : StandsFor v.size a az → StandsFor w.size b bz → is_index v.size az ≡ true → is_index w.size bz ≡ true
            → StandsFor p.size (record { literal = None; whole = None; kind = kind.Unsigned (moved_width p.size); value = (dealt os (moved_width p.size) v.size w a.value b.value).value })
            (pos (dealt_index p.banks (p.banks / k) (unsigned_abs az) (unsigned_abs bz)))
        stands g h e f =
            let na = in_range az v.size e in
            let nb = in_range bz w.size f in
            let fewer = d.fewer in
            let m = width_fits.1 in
            let s = parent.dim.size in
            let shown = dealt_shows x (moved_width p.size) width_fits.0.1 os begun v.size w a.value b.value (unsigned_abs az) (unsigned_abs bz) fits (omega (arith, fewer, m, s)) all_below
            (g.exact e ∙ na.is) (h.exact f ∙ nb.is) na.below nb.below obeys
            in
            same_number (unsigned_abs az) (unsigned_abs bz) _ _ na.is nb.is refl (ap value_of shown)
    dealt_as_shown (Some n) is obeys =
        let word = pushed_word x os (Constant (with_bits (kind.Unsigned (moved_width p.size)) n)) refl begun obeys in
        let m = dealt_means a.literal b.literal v.size w n is in
        let s = dealt_small (moved_width p.size) v.size w m.first m.second fits m.copy_below m.index_below all_below in
        let most : 2 ^ moved_width p.size ≤ 2 ^ 64 = pow_mono width_fits.0.1 in
        let row = s.row in
        let number = s.number in
        let same : (m.second / w.banks * v.size + m.first) * w.banks + m.second % w.banks ≡ n =
        sym (unwrapped (m.second / w.banks) v.size m.first w.banks (m.second % w.banks) (2 ^ 64) (omega (arith, row, most)) (omega (arith, number, most))) ∙ m.number
        in
        record {
          seen = constant_seen (moved_width p.size) (length os) n width_fits.0 (subst (λ j. j < 2 ^ moved_width p.size) same number) word;
          stands = λ g h e f. same_number m.first m.second n _ (sym (g.exact e) ∙ a_seen.literal m.first m.copy_is) (sym (h.exact f) ∙ b_seen.literal m.second m.index_is) same (ap value_of word);
        }

    pub dealt_operand_shown : Obeys x (dealt_operand os p.size v.size w a b).operations → ShowsDealt v w p k (dealt_operand os p.size v.size w a b) a b az bz
    dealt_operand_shown obeys = dealt_as_shown (dealt_literal a.literal b.literal v.size w) refl obeys
