-- The value of an index. A number that is a value of its kind is its own value; so is what an iterator holds, which
-- lies between the bounds of its loop, where these are values of the kind. In a sum both operands are values of
-- their kinds, and so of the wider one; the sum lies between the sums at the bounds, and is a value of that kind.
use Rattle.std.proofs.Common.{◌≡◌, ℕ, suc, ◌+◌, ◌-◌, ◌*◌, ◌/◌, ◌%◌, ◌^◌, ◌<◌, ◌≤◌, ◌&&◌, ◌||◌, Bool, true, false, nat_le, if◌then◌else◌, List, Option, Some, None, refl, sym, ap, subst, ◌∙◌, arith}
use Rattle.std.specs.Prelude.{ℤ, pos, neg_ℤ, ◌+ℤ◌, ◌-ℤ◌, ◌≤ℤ◌, ◌<ℤ◌, int_le, int_lt}
use Rattle.std.proofs.lemmas.Bool.Decides.{nat_tests}
use Rattle.std.proofs.lemmas.Int.{ints}
use Rattle.std.proofs.lemmas.Nat.{pow_pos, div-add-mod'}
use Rattle.std.proofs.Math.Nat.{mod-lt}
use Rattle.dh_base.specs.declared.places.Place.{Place}
use Rattle.dh_value.specs.declared.kinds.Kind.{Kind}
use Rattle.dh_value.specs.declared.kinds.Kind.TheVariants as kind
use Rattle.dh_value.specs.declared.operators.Op.{Op}
use Rattle.dh_value.specs.declared.operators.Op.TheVariants as op
use Rattle.dh_value.specs.declared.words.Word.{Word}
use Rattle.dh_value.specs.Words as words
use Rattle.dh_value.specs.Words.{width_of, IsInteger, IsValue, Widens, value_in, residue, with_bits, word_of}
use Rattle.dh_value.proofs.Residues.{Above, residue_is}
use Rattle.dh_value.proofs.WordLaws.{value_again, widened}
use Rattle.dh_tree.specs.declared.trees.counters.Counter.{Counter}
use Rattle.dh_tree.specs.declared.trees.expressions.Ref.{Ref}
use Rattle.dh_tree.specs.Counters.{counter_in}
use Rattle.dh_tree.specs.Indices.{iterator, dynamic, fits_kind, all_fit, counted, sum_kind, form_of, index_kind}
use Rattle.dh_tree.specs.Kinds.{found, place_of, is_value, signed_number}
use Rattle.dh_tree.specs.WiderKinds.{wider}
use Rattle.dh_tree.specs.PlainTrees.{Term, term, number, truth_value, named, accessed, in_bank, applied, converted}
use Rattle.dh_meaning.specs.Bindings.{kind_or_first, kind_found}
use Rattle.dh_meaning.specs.Core.{CoreTerm, binary}
use Rattle.dh_meaning.specs.CoreOf.{Known, extended, extended_both, core_term}
use Rattle.dh_meaning.specs.Effects.{Begun, Variables, bits_of, value_of_term}
use Rattle.dh_meaning.specs.Paths.{Path}
use Rattle.dh_sound.specs.IndexValues.{is_sum, HasIntegerKind, AreSumOperands, HasIndexKinds, IsInTurn, copy_at, name_value, NameInTurn, OperandInTurn, FormInTurn, IsIndexValue}

-- Tests.

pub both_true : (a b : Bool) → (a && b) ≡ true → (a ≡ true) × (b ≡ true)
both_true true b e = (refl, e)
both_true false b e = absurd cc

either_true : (a b : Bool) → a ≡ false → (a || b) ≡ true → b ≡ true
either_true true b e f = absurd cc
either_true false b e f = f

-- Values of kinds.

in_bounds : (a b z : ℤ) → (int_le a z && int_lt z b) ≡ true → (a ≤ℤ z) × (z <ℤ b)
in_bounds a b z e = let h = both_true (int_le a z) (int_lt z b) e in let l = h.0 in let u = h.1 in (omega (arith, ints), omega (arith, ints))

pub is_a_value : (k : Kind) (z : ℤ) → is_value k z ≡ true → IsValue k z
is_a_value kind.Bool z e = absurd cc
is_a_value (kind.Unsigned w) z e = in_bounds (pos 0) (pos (2 ^ w)) z e
is_a_value (kind.Signed w) z e = in_bounds (neg_ℤ (pos (2 ^ (w - 1)))) (pos (2 ^ (w - 1))) z e

-- what lies between two values of a kind is one
bounds_between : (a b offset : ℤ) (low x high : ℕ) → low ≤ x → x ≤ high → (int_le a (pos low +ℤ offset) && int_lt (pos low +ℤ offset) b) ≡ true → (int_le a (pos high +ℤ offset) && int_lt (pos high +ℤ offset) b) ≡ true
    → (a ≤ℤ (pos x +ℤ offset)) × ((pos x +ℤ offset) <ℤ b)
bounds_between a b offset low x high l u e f =
    let g = in_bounds a b (pos low +ℤ offset) e in
    let h = in_bounds a b (pos high +ℤ offset) f in
    let least = g.0 in
    let most = h.1 in
    (omega (arith, ints), omega (arith, ints))

value_between : (k : Kind) (offset : ℤ) (low x high : ℕ) → low ≤ x → x ≤ high → is_value k (pos low +ℤ offset) ≡ true → is_value k (pos high +ℤ offset) ≡ true → IsValue k (pos x +ℤ offset)
value_between kind.Bool offset low x high l u e f = absurd cc
value_between (kind.Unsigned w) offset low x high l u e f = bounds_between (pos 0) (pos (2 ^ w)) offset low x high l u e f
value_between (kind.Signed w) offset low x high l u e f = bounds_between (neg_ℤ (pos (2 ^ (w - 1)))) (pos (2 ^ (w - 1))) offset low x high l u e f

-- Literals.

negative_above : (m n : ℕ) → 0 < m → Above m (neg_ℤ (pos n)) (m - n % m)
negative_above m n p = record { times = n / m + 1; is = sum (n / m) (n % m) (div-add-mod' n m) (mod-lt n p) }
  where
    sum : (d r : ℕ) → d * m + r ≡ n → r < m → neg_ℤ (pos n) +ℤ pos ((d + 1) * m) ≡ pos (m - r)
    sum d r e h = omega (arith, ints)

bits_residue : (k : Kind) (negative : Bool) (n : ℕ) → bits_of k negative n ≡ residue (2 ^ width_of k) (signed_number negative n)
bits_residue k false n = refl
bits_residue k true n = sym (residue_is (2 ^ width_of k) (neg_ℤ (pos n)) _ (pow_pos (width_of k)) (negative_above (2 ^ width_of k) n (pow_pos (width_of k))))

pub literal_value : (k : Kind) (negative : Bool) (n : ℕ) → IsInteger k → is_value k (signed_number negative n) ≡ true → words.value_of (with_bits k (bits_of k negative n)) ≡ signed_number negative n
literal_value k negative n i e = ap (value_in k) (bits_residue k negative n) ∙ value_again k (signed_number negative n) i (is_a_value k _ e)

-- Iterators.

turn_below : (t q f r a : ℕ) → t < q → q * f + r ≡ a → t * f + f ≤ a
turn_below t q f r a l e =
    let more : q ≡ suc t + (q - suc t) = omega (arith, l) in
    let product = ap (λ n. n * f) more in
    by (q - suc t) product
  where
    by : (d : ℕ) → q * f ≡ (suc t + d) * f → t * f + f ≤ a
    by d product = omega (arith, product, e)

-- the bounds of a turn
turn_bounds : (low high factor turn copy : ℕ) → turn < (high - low) / factor → copy < factor → (low < high) × ((low ≤ low + turn * factor + copy) × (low + turn * factor + copy ≤ high - 1))
turn_bounds low high factor turn copy t c =
    let b = turn_below turn ((high - low) / factor) factor ((high - low) % factor) (high - low) t (div-add-mod' (high - low) factor) in
    by (turn * factor) b
  where
    by : (n : ℕ) → n + factor ≤ high - low → (low < high) × ((low ≤ low + n + copy) × (low + n + copy ≤ high - 1))
    by n b = (omega (arith, b, c), (omega arith, omega (arith, b, c)))

-- an iterator in a turn, with a constant added, is a value where this is so at the bounds
pub record FitsThere (k : Kind) (c : Counter) (offset x : ℤ) : Type 0 where
  pub value : IsValue k (x +ℤ offset)
  pub least : int_le (pos 0) (pos c.low +ℤ offset) ≡ true

pub fits_there : (loops : List Counter) (path : Path) (k : Kind) (c : Counter) (offset x : ℤ) → all_fit (Some k) c offset ≡ true → IsInTurn loops path c x → FitsThere k c offset x
fits_there loops path k c offset x e t =
    let b = turn_bounds c.low c.high c.factor t.turn (copy_at loops path c) t.below t.copy in
    let some : nat_le c.high c.low ≡ false = starts c.low c.high b.0 in
    let h = both_true (fits_kind (Some k) (pos c.low +ℤ offset)) (fits_kind (Some k) (pos (c.high - 1) +ℤ offset)) (either_true (nat_le c.high c.low) _ some e) in
    let g = both_true (int_le (pos 0) (pos c.low +ℤ offset)) (is_value k (pos c.low +ℤ offset)) h.0 in
    let i = both_true (int_le (pos 0) (pos (c.high - 1) +ℤ offset)) (is_value k (pos (c.high - 1) +ℤ offset)) h.1 in
    record {
      value = subst (λ (z : ℤ). IsValue k (z +ℤ offset)) (sym t.is) (value_between k offset c.low (c.low + t.turn * c.factor + copy_at loops path c) (c.high - 1) b.1.0 b.1.1 g.1 i.1);
      least = g.0;
    }
  where
    starts : (low high : ℕ) → low < high → nat_le high low ≡ false
    starts low high h = grind (arith, nat_tests)

nothing_added : (x : ℤ) → x +ℤ pos 0 ≡ x
nothing_added x = omega (arith, ints)

-- Sums.

pub wider_widens : (j k m : Kind) → wider j k ≡ m → IsInteger m → Widens j m × Widens k m
wider_widens kind.Bool k m e i = absurd (subst IsInteger (sym e) i)
wider_widens (kind.Unsigned a) kind.Bool m e i = absurd (subst IsInteger (sym e) i)
wider_widens (kind.Unsigned a) (kind.Unsigned b) m e i = subst (λ (x : Kind). Widens (kind.Unsigned a) x × Widens (kind.Unsigned b) x) e (grind arith, grind arith)
wider_widens (kind.Unsigned a) (kind.Signed b) m e i = absurd (subst IsInteger (sym e) i)
wider_widens (kind.Signed a) kind.Bool m e i = absurd (subst IsInteger (sym e) i)
wider_widens (kind.Signed a) (kind.Unsigned b) m e i = absurd (subst IsInteger (sym e) i)
wider_widens (kind.Signed a) (kind.Signed b) m e i = subst (λ (x : Kind). Widens (kind.Signed a) x × Widens (kind.Signed b) x) e (grind arith, grind arith)

-- an operation on words of a kind
word_sum : (f : ℤ → ℤ → ℤ) (a b : Word) (k : Kind) (x y : ℤ) → a.kind ≡ k → words.value_of a ≡ x → words.value_of b ≡ y → IsInteger k → IsValue k (f x y) → words.value_of (word_of a.kind (f (words.value_of a) (words.value_of b))) ≡ f x y
word_sum f a b k x y e g h i v =
    ap (λ m. words.value_of (word_of m (f (words.value_of a) (words.value_of b)))) e
    ∙ (ap (λ z. words.value_of (word_of k (f z (words.value_of b)))) g
    ∙ (ap (λ z. words.value_of (word_of k (f x z))) h
    ∙ value_again k (f x y) i v))

module _ (b : Begun) (v : Variables) (path : Path) where
  extended_kind : (k : Kind) (t : CoreTerm) → IsInteger k → (value_of_term b v path (extended k t)).kind ≡ k
  extended_kind kind.Bool t i = absurd i
  extended_kind (kind.Unsigned w) t i = refl
  extended_kind (kind.Signed w) t i = refl

  extended_value : (k : Kind) (t : CoreTerm) (x : ℤ) → IsInteger k → words.value_of (value_of_term b v path t) ≡ x → IsValue k x → words.value_of (value_of_term b v path (extended k t)) ≡ x
  extended_value kind.Bool t x i e h = absurd i
  extended_value (kind.Unsigned w) t x i e h = ap (λ z. words.value_of (word_of (kind.Unsigned w) z)) e ∙ value_again (kind.Unsigned w) x i h
  extended_value (kind.Signed w) t x i e h = ap (λ z. words.value_of (word_of (kind.Signed w) z)) e ∙ value_again (kind.Signed w) x i h

  module _ (j k m : Kind) (left right : CoreTerm) (x y : ℤ) (e : wider j k ≡ m) (i : IsInteger m) (f : words.value_of (value_of_term b v path left) ≡ x) (g : words.value_of (value_of_term b v path right) ≡ y) (p : IsValue j x) (q : IsValue k y) where
    first_extended : words.value_of (value_of_term b v path (extended m left)) ≡ x
    first_extended = extended_value m left x i f (widened j m x (wider_widens j k m e i).0 p)

    second_extended : words.value_of (value_of_term b v path (extended m right)) ≡ y
    second_extended = extended_value m right y i g (widened k m y (wider_widens j k m e i).1 q)

    sum_value : IsValue m (x +ℤ y) → words.value_of (value_of_term b v path (extended_both op.Add j k left right)) ≡ x +ℤ y
    sum_value s =
        subst (λ (w : Kind). words.value_of (value_of_term b v path (binary op.Add (extended w left) (extended w right))) ≡ x +ℤ y) (sym e)
        (word_sum (λ z u. z +ℤ u) (value_of_term b v path (extended m left)) (value_of_term b v path (extended m right)) m x y (extended_kind m left i) first_extended second_extended i s)

    difference_value : IsValue m (x -ℤ y) → words.value_of (value_of_term b v path (extended_both op.Sub j k left right)) ≡ x -ℤ y
    difference_value s =
        subst (λ (w : Kind). words.value_of (value_of_term b v path (binary op.Sub (extended w left) (extended w right))) ≡ x -ℤ y) (sym e)
        (word_sum (λ z u. z -ℤ u) (value_of_term b v path (extended m left)) (value_of_term b v path (extended m right)) m x y (extended_kind m left i) first_extended second_extended i s)

-- Indices.

kind_of_found : (t : Term) (j : Kind) → found t ≡ Some j → kind_found t ≡ j
kind_of_found (term place k form) j e = ap kind_or_first e

module _ (Asked : Counter → Type 0) (b : Begun) (v : Variables) (path : Path) (known : Known) (cs loops : List Counter) where
  abbrev term_value : (n : ℕ) → Term → ℤ
  term_value n t = words.value_of (value_of_term b v path (core_term known n t))

  -- a literal
  number_value : (n : ℕ) (place : Place) (k : Option Kind) (negative : Bool) (m : ℕ) → HasIntegerKind cs (term place k (number negative m)) → term_value n (term place k (number negative m)) ≡ signed_number negative m
  number_value n place k negative m h =
      ap (λ x. words.value_of (with_bits (kind_or_first x) (bits_of (kind_or_first x) negative m))) h.is ∙ literal_value h.kind negative m h.integer h.fits

  -- a name, where it has a value of its kind
  named_value : (n : ℕ) (place : Place) (k : Option Kind) (r : Ref) (j : Kind) → k ≡ Some j → IsInteger j → IsValue j (name_value known v path r) → term_value n (term place k (named r)) ≡ name_value known v path r
  named_value n place k r j e i h = ap (λ x. words.value_of (word_of (kind_or_first x) (name_value known v path r))) e ∙ value_again j (name_value known v path r) i h

  -- an iterator with a constant: what is told of a value of it in a turn, and that the sum is a value of the kind, gives
  -- the value of the index
  counted_value : (k : Option Kind) (j : Kind) (r : Ref) (offset z : ℤ) → k ≡ Some j → NameInTurn Asked known cs loops path v r
      → ((c : Counter) → counter_in cs r.entity ≡ Some c → IsInTurn loops path c (name_value known v path r) → IsValue j (name_value known v path r +ℤ offset) → z ≡ name_value known v path r +ℤ offset)
      → IsIndexValue Asked loops path (counted k (counter_in cs r.entity) offset) z
  counted_value k j r offset z e t of = subst (λ (x : Option Kind). IsIndexValue Asked loops path (counted x (counter_in cs r.entity) offset) z) (sym e) (by (counter_in cs r.entity) refl)
    where
      fits : (c : Counter) → counter_in cs r.entity ≡ Some c → (a : Bool) → all_fit (Some j) c offset ≡ a → IsIndexValue Asked loops path (if a then iterator c offset else dynamic) z
      fits c f true g =
          λ asked.
          let h = fits_there loops path j c offset (name_value known v path r) g (t c f asked) in
          record { value = name_value known v path r; in_turn = t c f asked; is = of c f (t c f asked) h.value; least = h.least }
      fits c f false g = tt

      by : (o : Option Counter) → counter_in cs r.entity ≡ o → IsIndexValue Asked loops path (counted (Some j) o offset) z
      by None f = tt
      by (Some c) f = fits c f (all_fit (Some j) c offset) refl

  -- the value of an operand that is an iterator is one of its kind
  operand_fits : (place : Place) (k : Option Kind) (r : Ref) (h : HasIntegerKind cs (term place k (named r))) (c : Counter) → counter_in cs r.entity ≡ Some c → IsInTurn loops path c (name_value known v path r) → IsValue h.kind (name_value known v path r)
  operand_fits place k r h c e t = subst (λ (z : ℤ). IsValue h.kind z) (nothing_added (name_value known v path r)) (fits_there loops path h.kind c (pos 0) (name_value known v path r) (h.fits c e) t).value

  -- the kinds of operands as the core of a program takes them
  operands_are : (o : Op) (left right : Term) (a c : CoreTerm) (j k : Kind) (z : ℤ) → found left ≡ Some j → found right ≡ Some k → words.value_of (value_of_term b v path (extended_both o j k a c)) ≡ z → words.value_of (value_of_term b v path (extended_both o (kind_found left) (kind_found right) a c)) ≡ z
  operands_are o left right a c j k z e f g =
      ap (λ x. words.value_of (value_of_term b v path (extended_both o x (kind_found right) a c))) (kind_of_found left j e)
      ∙ (ap (λ x. words.value_of (value_of_term b v path (extended_both o j x a c))) (kind_of_found right k f) ∙ g)

  module _ (n : ℕ) (at to : Place) (k l : Option Kind) (r : Ref) (negative : Bool) (m : ℕ) (w : Kind) (i : IsInteger w) (t : NameInTurn Asked known cs loops path v r) (o : Option Kind) (is : o ≡ Some w) where
    -- an iterator and a number
    iterator_number : (h : AreSumOperands cs w (term at k (named r)) (term to l (number negative m)))
        → IsIndexValue Asked loops path (counted o (counter_in cs r.entity) (signed_number negative m)) (words.value_of (value_of_term b v path (extended_both op.Add (kind_found (term at k (named r))) (kind_found (term to l (number negative m))) (core_term known n (term at k (named r))) (core_term known n (term to l (number negative m))))))
    iterator_number h = counted_value o w r (signed_number negative m) _ is t sum
      where
        sum : (c : Counter) → counter_in cs r.entity ≡ Some c → IsInTurn loops path c (name_value known v path r) → IsValue w (name_value known v path r +ℤ signed_number negative m)
            → words.value_of (value_of_term b v path (extended_both op.Add (kind_found (term at k (named r))) (kind_found (term to l (number negative m))) (core_term known n (term at k (named r))) (core_term known n (term to l (number negative m))))) ≡ name_value known v path r +ℤ signed_number negative m
        sum c e f g =
            let p = operand_fits at k r h.first c e f in
            operands_are op.Add (term at k (named r)) (term to l (number negative m)) (core_term known n (term at k (named r))) (core_term known n (term to l (number negative m))) h.first.kind h.second.kind _ h.first.is h.second.is
            (sum_value b v path h.first.kind h.second.kind w _ _ (name_value known v path r) (signed_number negative m) h.wider_is i
            (named_value n at k r h.first.kind h.first.is h.first.integer p) (number_value n to l negative m h.second) p (is_a_value h.second.kind _ h.second.fits) g)

    -- a number and an iterator
    number_iterator : (h : AreSumOperands cs w (term to l (number negative m)) (term at k (named r)))
        → IsIndexValue Asked loops path (counted o (counter_in cs r.entity) (signed_number negative m)) (words.value_of (value_of_term b v path (extended_both op.Add (kind_found (term to l (number negative m))) (kind_found (term at k (named r))) (core_term known n (term to l (number negative m))) (core_term known n (term at k (named r))))))
    number_iterator h = counted_value o w r (signed_number negative m) _ is t sum
      where
        turned : (x y : ℤ) → y +ℤ x ≡ x +ℤ y
        turned x y = omega (arith, ints)

        sum : (c : Counter) → counter_in cs r.entity ≡ Some c → IsInTurn loops path c (name_value known v path r) → IsValue w (name_value known v path r +ℤ signed_number negative m)
            → words.value_of (value_of_term b v path (extended_both op.Add (kind_found (term to l (number negative m))) (kind_found (term at k (named r))) (core_term known n (term to l (number negative m))) (core_term known n (term at k (named r))))) ≡ name_value known v path r +ℤ signed_number negative m
        sum c e f g =
            let p = operand_fits at k r h.second c e f in
            let same = turned (name_value known v path r) (signed_number negative m) in
            operands_are op.Add (term to l (number negative m)) (term at k (named r)) (core_term known n (term to l (number negative m))) (core_term known n (term at k (named r))) h.first.kind h.second.kind _ h.first.is h.second.is
            (sum_value b v path h.first.kind h.second.kind w _ _ (signed_number negative m) (name_value known v path r) h.wider_is i
            (number_value n to l negative m h.first) (named_value n at k r h.second.kind h.second.is h.second.integer p) (is_a_value h.first.kind _ h.first.fits) p (subst (λ (z : ℤ). IsValue w z) (sym same) g))
            ∙ same

    -- an iterator less a number
    iterator_less : (h : AreSumOperands cs w (term at k (named r)) (term to l (number negative m)))
        → IsIndexValue Asked loops path (counted o (counter_in cs r.entity) (neg_ℤ (signed_number negative m))) (words.value_of (value_of_term b v path (extended_both op.Sub (kind_found (term at k (named r))) (kind_found (term to l (number negative m))) (core_term known n (term at k (named r))) (core_term known n (term to l (number negative m))))))
    iterator_less h = counted_value o w r (neg_ℤ (signed_number negative m)) _ is t sum
      where
        less : (x y : ℤ) → x -ℤ y ≡ x +ℤ neg_ℤ y
        less x y = omega (arith, ints)

        sum : (c : Counter) → counter_in cs r.entity ≡ Some c → IsInTurn loops path c (name_value known v path r) → IsValue w (name_value known v path r +ℤ neg_ℤ (signed_number negative m))
            → words.value_of (value_of_term b v path (extended_both op.Sub (kind_found (term at k (named r))) (kind_found (term to l (number negative m))) (core_term known n (term at k (named r))) (core_term known n (term to l (number negative m))))) ≡ name_value known v path r +ℤ neg_ℤ (signed_number negative m)
        sum c e f g =
            let p = operand_fits at k r h.first c e f in
            let same = less (name_value known v path r) (signed_number negative m) in
            operands_are op.Sub (term at k (named r)) (term to l (number negative m)) (core_term known n (term at k (named r))) (core_term known n (term to l (number negative m))) h.first.kind h.second.kind _ h.first.is h.second.is
            (difference_value b v path h.first.kind h.second.kind w _ _ (name_value known v path r) (signed_number negative m) h.wider_is i
            (named_value n at k r h.first.kind h.first.is h.first.integer p) (number_value n to l negative m h.second) p (is_a_value h.second.kind _ h.second.fits) (subst (λ (z : ℤ). IsValue w z) (sym same) g))
            ∙ same

  -- what is told of the value of a sum
  abbrev IsSumValue : (n : ℕ) → Option Kind → Op → Term → Term → Type 0
  IsSumValue n o p left right = IsIndexValue Asked loops path (sum_kind cs o p (form_of left) (form_of right)) (term_value n (term (place_of left) o (applied p left right)))

  module _ (n : ℕ) (o : Option Kind) (w : Kind) (is : o ≡ Some w) (i : IsInteger w) where
    added : (left right : Term) → AreSumOperands cs w left right → OperandInTurn Asked known cs loops path v (form_of left) → OperandInTurn Asked known cs loops path v (form_of right) → IsSumValue n o op.Add left right
    added (term at k (number negative m)) (term to l (number z y)) h t u = tt
    added (term at k (number negative m)) (term to l (truth_value z)) h t u = tt
    added (term at k (number negative m)) (term to l (named r)) h t u = number_iterator n to at l k r negative m w i u o is h
    added (term at k (number negative m)) (term to l (accessed r indices)) h t u = tt
    added (term at k (number negative m)) (term to l (in_bank r bank bank_place row)) h t u = tt
    added (term at k (number negative m)) (term to l (applied p x y)) h t u = tt
    added (term at k (number negative m)) (term to l (converted x y)) h t u = tt
    added (term at k (named r)) (term to l (number negative m)) h t u = iterator_number n at to k l r negative m w i t o is h
    added (term at k (named r)) (term to l (truth_value z)) h t u = tt
    added (term at k (named r)) (term to l (named q)) h t u = tt
    added (term at k (named r)) (term to l (accessed q indices)) h t u = tt
    added (term at k (named r)) (term to l (in_bank q bank bank_place row)) h t u = tt
    added (term at k (named r)) (term to l (applied p x y)) h t u = tt
    added (term at k (named r)) (term to l (converted x y)) h t u = tt
    added (term at k (truth_value a)) right h t u = tt
    added (term at k (accessed r indices)) right h t u = tt
    added (term at k (in_bank r bank bank_place row)) right h t u = tt
    added (term at k (applied p x y)) right h t u = tt
    added (term at k (converted x y)) right h t u = tt

    taken : (left right : Term) → AreSumOperands cs w left right → OperandInTurn Asked known cs loops path v (form_of left) → IsSumValue n o op.Sub left right
    taken (term at k (named r)) (term to l (number negative m)) h t = iterator_less n at to k l r negative m w i t o is h
    taken (term at k (named r)) (term to l (truth_value z)) h t = tt
    taken (term at k (named r)) (term to l (named q)) h t = tt
    taken (term at k (named r)) (term to l (accessed q indices)) h t = tt
    taken (term at k (named r)) (term to l (in_bank q bank bank_place row)) h t = tt
    taken (term at k (named r)) (term to l (applied p x y)) h t = tt
    taken (term at k (named r)) (term to l (converted x y)) h t = tt
    taken (term at k (number negative m)) right h t = tt
    taken (term at k (truth_value a)) right h t = tt
    taken (term at k (accessed r indices)) right h t = tt
    taken (term at k (in_bank r bank bank_place row)) right h t = tt
    taken (term at k (applied p x y)) right h t = tt
    taken (term at k (converted x y)) right h t = tt

    operation_value : (p : Op) (left right : Term) → (is_sum p ≡ true → AreSumOperands cs w left right) → OperandInTurn Asked known cs loops path v (form_of left) → OperandInTurn Asked known cs loops path v (form_of right) → IsSumValue n o p left right
    operation_value op.Add left right h t u = added left right (h refl) t u
    operation_value op.Sub left right h t u = taken left right (h refl) t
    operation_value op.Mul left right h t u = tt
    operation_value op.And left right h t u = tt
    operation_value op.Or left right h t u = tt
    operation_value op.Xor left right h t u = tt
    operation_value op.Shl left right h t u = tt
    operation_value op.Shr left right h t u = tt
    operation_value op.Lt left right h t u = tt
    operation_value op.Gt left right h t u = tt
    operation_value op.Le left right h t u = tt
    operation_value op.Ge left right h t u = tt
    operation_value op.Eq left right h t u = tt
    operation_value op.Ne left right h t u = tt
    operation_value op.Both left right h t u = tt
    operation_value op.Either left right h t u = tt

  -- the value of an index is what its kind tells
  pub index_value : (n : ℕ) (t : Term) → HasIndexKinds cs t → FormInTurn Asked known cs loops path v (form_of t) → IsIndexValue Asked loops path (index_kind cs (found t) (form_of t)) (term_value n t)
  index_value n (term place k (number negative m)) h t = number_value n place k negative m h.whole
  index_value n (term place k (truth_value value)) h t = tt
  index_value n (term place k (named r)) h t =
      counted_value k h.whole.kind r (pos 0) (term_value n (term place k (named r))) h.whole.is t
      (λ c e f g. named_value n place k r h.whole.kind h.whole.is h.whole.integer (subst (λ (z : ℤ). IsValue h.whole.kind z) (nothing_added (name_value known v path r)) g) ∙ sym (nothing_added (name_value known v path r)))
  index_value n (term place k (accessed r indices)) h t = tt
  index_value n (term place k (in_bank r bank bank_place row)) h t = tt
  index_value n (term place k (applied p left right)) h t = operation_value n k h.whole.kind h.whole.is h.whole.integer p left right h.parts t.0 t.1
  index_value n (term place k (converted inner to)) h t = tt
