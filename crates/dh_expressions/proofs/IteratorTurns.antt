-- What an iterator holds. Its value is the start, which is its lower end and the copy, and the turn times the
-- factor; all are taken modulo 2^width of the kind, so that the start may first be taken modulo 2^64.
use Rattle.std.proofs.Common.{◌≡◌, ℕ, ◌+◌, ◌-◌, ◌*◌, ◌%◌, ◌^◌, ◌<◌, ◌≤◌, pos, sym, ap, ◌∙◌, subst, arith, zero, suc, false}
use Rattle.std.specs.Prelude.{slice_index}
use Rattle.std.proofs.Math.Nat.{add-mod-mod, div-zero}
use Rattle.dh_value.specs.declared.kinds.Kind.{Kind}
use Rattle.dh_value.specs.declared.operators.Op.TheVariants.{Add}
use Rattle.dh_value.specs.declared.words.Word.{Word}
use Rattle.dh_value.specs.Words.{IsInteger, IsKind, value_of, width_of, with_bits, word_of}
use Rattle.dh_value.specs.Operations.{binary_of}
use Rattle.dh_value.proofs.Masks.{cut_first}
use Rattle.dh_value.proofs.Values.{integer_width}
use Rattle.dh_tree.specs.declared.trees.counters.Counter.{Counter}
use Rattle.dh_meaning.specs.Effects.{bits_of}
use Rattle.dh_meaning.specs.Phases.{turn_count}
use Rattle.dh_code.specs.declared.places.VariableSlots.{VariableSlots}
use Rattle.dh_expressions.specs.declared.drafts.Draft.{Draft}
use Rattle.dh_expressions.specs.declared.scenes.Lane.{Lane}
use Rattle.dh_expressions.specs.Drafted.{BlockBegun, Computes, Extends, FitsStep, BlockStep, word_shown, tale}
use Rattle.dh_expressions.specs.Evaluated.{GivesWhere, IsTurning, copy_in_turn, iterator_shown}
use Rattle.dh_expressions.specs.Multiples.{Multiplies}
use Rattle.dh_expressions.specs.Shown.{register_as_begun}
use Rattle.dh_expressions.proofs.Multiplying.{number_word, sum_word}
use Rattle.dh_expressions.proofs.Pushing.{begun_later, extends_again, fits_before}

-- a start that is kept in 64 bits
start_word : (k : Kind) (start n : ℕ) (w : Word) → IsInteger k → start ≡ n % 2 ^ 64 → (IsKind k → w ≡ with_bits k (bits_of k false start)) → w ≡ word_of k (pos n)
start_word k start n w whole is made =
    made (integer_width k whole)
    ∙ (ap (λ b. with_bits k b) (ap (λ s. s % 2 ^ width_of k) is ∙ cut_first n (width_of k) (integer_width k whole).1)
    ∙ sym (number_word k n))

module _ (c : Counter) (held : VariableSlots) (lane : Lane) (kind : Kind) where
  abbrev turn_in : BlockStep → ℕ
  turn_in x = slice_index x.start.registers held.first

  pub iterator_constant : (d0 d1 : Draft) (n start : ℕ) (w : Word) → turn_count c.low c.high c.factor ≤ 1 → start ≡ (c.low + copy_in_turn c held lane) % 2 ^ 64
      → (IsKind kind → w ≡ with_bits kind (bits_of kind false start)) → Computes d0 d1 n (λ x. w)
      → GivesWhere d0 d1 n (λ x. IsTurning x c held kind) (λ x. iterator_shown x c held lane kind)
  iterator_constant d0 d1 n start w one is made k = record {
    extends = k.extends;
    is = λ x f b t. k.is x f b ∙ (start_word kind start (c.low + copy_in_turn c held lane) w t.integer is made ∙ ap (λ m. word_of kind (pos m)) (still (turn_in x) (let l = t.below in omega (arith, l, one))));
    quiet = k.quiet;
  }
    where
      alone : (low factor copy : ℕ) → low + copy ≡ low + 0 * factor + copy
      alone low factor copy = omega arith

      still : (r : ℕ) → r ≡ 0 → c.low + copy_in_turn c held lane ≡ c.low + r * c.factor + copy_in_turn c held lane
      still r none = alone c.low c.factor (copy_in_turn c held lane) ∙ ap (λ m. c.low + m * c.factor + copy_in_turn c held lane) (sym none)

  -- the turn as a value of the kind
  turn_word : (x : BlockStep) → IsTurning x c held kind → word_of kind (value_of (register_as_begun x held.first)) ≡ word_of kind (pos (turn_in x))
  turn_word x t = ap (λ (k : Kind). word_of kind (value_of (with_bits k (turn_in x)))) t.counter

  pub some_factor : (turns : ℕ) → turns ≡ turn_count c.low c.high c.factor → 1 < turns → 1 ≤ c.factor
  some_factor turns is more = by c.factor (subst (λ (n : ℕ). 1 < n) is more)
    where
      by : (f : ℕ) → 1 < turn_count c.low c.high f → 1 ≤ f
      by zero less = absurd (none (subst (λ (n : ℕ). 1 < n) (div-zero (c.high - c.low)) less))
        where
          none : 1 < 0 → ⊥
          none l = omega (arith, l)
      by (suc f) less = omega arith

  module _ (d0 d1 d2 d3 : Draft) (old turn multiple : ℕ) (o : Computes d0 d1 old (λ x. register_as_begun x held.first))
      (g : Computes d1 d2 turn (λ x. word_of kind (value_of (word_shown x old)))) (m : Multiplies d2 d3 turn multiple c.factor) where
    extends2 : Extends d0 d2
    extends2 = extends_again d0 d1 d2 o.extends g.extends

    multiple_is : (x : BlockStep) → FitsStep x d3 → BlockBegun x d0 → IsTurning x c held kind → word_shown x multiple ≡ word_of kind (pos (turn_in x * c.factor))
    multiple_is x f b t =
        let f2 = fits_before d2 d3 x m.extends f in
        let f1 = fits_before d1 d2 x g.extends f2 in
        let b1 = begun_later d0 d1 x o.extends b in
        m.is x f (begun_later d1 d2 x g.extends b1) kind t.integer (turn_in x)
        (g.is x f2 b1 ∙ (ap (λ (w : Word). word_of kind (value_of w)) (o.is x f1 b) ∙ turn_word x t))

    quiet3 : (x : BlockStep) → FitsStep x d3 → BlockBegun x d0 → tale x d3 ≡ tale x d0
    quiet3 x f b =
        let f2 = fits_before d2 d3 x m.extends f in
        let b1 = begun_later d0 d1 x o.extends b in
        m.quiet x f (begun_later d1 d2 x g.extends b1) ∙ (g.quiet x f2 b1 ∙ o.quiet x (fits_before d1 d2 x g.extends f2) b)

    -- no start is added
    pub iterator_multiple : (start : ℕ) → start ≡ (c.low + copy_in_turn c held lane) % 2 ^ 64 → start ≡ 0
        → GivesWhere d0 d3 multiple (λ x. IsTurning x c held kind) (λ x. iterator_shown x c held lane kind)
    iterator_multiple start is none = record {
      extends = extends_again d0 d2 d3 extends2 m.extends;
      is = λ x f b t. multiple_is x f b t ∙ (number_word kind (turn_in x * c.factor) ∙ (ap (λ n. with_bits kind n) (without (turn_in x * c.factor) t.integer) ∙ sym (number_word kind _)));
      quiet = quiet3;
    }
      where
        nothing : IsInteger kind → (c.low + copy_in_turn c held lane) % 2 ^ width_of kind ≡ 0
        nothing whole =
            sym (cut_first (c.low + copy_in_turn c held lane) (width_of kind) (integer_width kind whole).1)
            ∙ (ap (λ n. n % 2 ^ width_of kind) (sym is ∙ none) ∙ zero_mod (2 ^ width_of kind))
          where
            zero_mod : (n : ℕ) → 0 % n ≡ 0
            zero_mod n = grind arith

        without : (r : ℕ) → IsInteger kind → r % 2 ^ width_of kind ≡ (c.low + r + copy_in_turn c held lane) % 2 ^ width_of kind
        without r whole =
            ap (λ n. n % 2 ^ width_of kind) (let e : r ≡ r + 0 = omega arith in e)
            ∙ (ap (λ n. (r + n) % 2 ^ width_of kind) (sym (nothing whole))
            ∙ (add-mod-mod r (c.low + copy_in_turn c held lane) (2 ^ width_of kind) ∙ ap (λ n. n % 2 ^ width_of kind) (let e : r + (c.low + copy_in_turn c held lane) ≡ c.low + r + copy_in_turn c held lane = omega arith in e)))

    pub iterator_sum : (d4 d5 : Draft) (amount sum start : ℕ) (w : Word) → start ≡ (c.low + copy_in_turn c held lane) % 2 ^ 64
        → (IsKind kind → w ≡ with_bits kind (bits_of kind false start)) → Computes d3 d4 amount (λ x. w)
        → Computes d4 d5 sum (λ x. binary_of Add (word_shown x multiple) (word_shown x amount))
        → GivesWhere d0 d5 sum (λ x. IsTurning x c held kind) (λ x. iterator_shown x c held lane kind)
    iterator_sum d4 d5 amount sum start w is made k s = record {
      extends = extends_again d0 d3 d5 (extends_again d0 d2 d3 extends2 m.extends) (extends_again d3 d4 d5 k.extends s.extends);
      is = λ x f b t.
          let f4 = fits_before d4 d5 x s.extends f in
          let b3 = begun3 x b in
          s.is x f (begun_later d3 d4 x k.extends b3)
          ∙ (ap (λ (u : Word). binary_of Add u (word_shown x amount)) (multiple_is x (fits_before d3 d4 x k.extends f4) b t)
          ∙ (ap (λ (u : Word). binary_of Add (word_of kind (pos (turn_in x * c.factor))) u) (k.is x f4 b3 ∙ start_word kind start (c.low + copy_in_turn c held lane) w t.integer is made)
          ∙ (sum_word kind (turn_in x * c.factor) (c.low + copy_in_turn c held lane) t.integer
          ∙ ap (λ n. word_of kind (pos n)) (around (turn_in x * c.factor)))));
      quiet = λ x f b.
          let f4 = fits_before d4 d5 x s.extends f in
          let b3 = begun3 x b in
          s.quiet x f (begun_later d3 d4 x k.extends b3) ∙ (k.quiet x f4 b3 ∙ quiet3 x (fits_before d3 d4 x k.extends f4) b);
    }
      where
        begun3 : (x : BlockStep) → BlockBegun x d0 → BlockBegun x d3
        begun3 x b = begun_later d0 d3 x (extends_again d0 d2 d3 extends2 m.extends) b

        around : (r : ℕ) → r + (c.low + copy_in_turn c held lane) ≡ c.low + r + copy_in_turn c held lane
        around r = omega arith
