-- When two accesses reach alike: that the tests of levels and of lanes decide it.
use Rattle.std.proofs.Common.{◌≡◌, ℕ, ℤ, ◌==◌, ◌&&◌, int_eq, Bool, true, false, refl, ap, ◌∙◌}
use Rattle.std.specs.Bool.{Decides}
use Rattle.std.proofs.lemmas.Bool.Decides.{Decides-eqb, Decides-int_eq}
use Rattle.dh_ports.specs.declared.copies.BankDimension.{BankDimension}
use Rattle.dh_ports.specs.declared.copies.CopyLevel.{CopyLevel}

and_decides : {P Q R : Type 0} (s t : Bool) → Decides s P → Decides t Q → (P → Q → R) → (R → P) → (R → Q) → Decides (s && t) R
and_decides s t p q make one two = (λ e. make (p.0 (first s t e)) (q.0 (second s t e)), λ r. both s t (p.1 (one r)) (q.1 (two r)))
  where
    first : (s t : Bool) → (s && t) ≡ true → s ≡ true
    first true t e = refl
    first false t e = cc

    second : (s t : Bool) → (s && t) ≡ true → t ≡ true
    second true t e = e
    second false t e = cc

    both : (s t : Bool) → s ≡ true → t ≡ true → (s && t) ≡ true
    both true t e f = f
    both false t e f = cc

abbrev level_of : (factor stride share : ℕ) → CopyLevel
level_of factor stride share = record { factor = factor; stride = stride; share = share }

abbrev lane_of : (banks times low : ℕ) (offset : ℤ) (level : ℕ) → BankDimension
lane_of banks times low offset level = record { banks = banks; times = times; low = low; offset = offset; level = level }

level_made : (a b : CopyLevel) → a.factor ≡ b.factor → (a.stride ≡ b.stride) × (a.share ≡ b.share) → a ≡ b
level_made a b e p = ap (λ n. level_of n a.stride a.share) e ∙ (ap (λ n. level_of b.factor n a.share) p.0 ∙ ap (λ n. level_of b.factor b.stride n) p.1)

lane_made : (a b : BankDimension) → a.banks ≡ b.banks → (a.times ≡ b.times) × ((a.low ≡ b.low) × ((a.offset ≡ b.offset) × (a.level ≡ b.level))) → a ≡ b
lane_made a b e p =
    ap (λ n. lane_of n a.times a.low a.offset a.level) e
    ∙ (ap (λ n. lane_of b.banks n a.low a.offset a.level) p.0
    ∙ (ap (λ n. lane_of b.banks b.times n a.offset a.level) p.1.0
    ∙ (ap (λ z. lane_of b.banks b.times b.low z a.level) p.1.1.0 ∙ ap (λ n. lane_of b.banks b.times b.low b.offset n) p.1.1.1)))

pub levels_decide : (a b : CopyLevel) → Decides ((a.factor == b.factor) && ((a.stride == b.stride) && (a.share == b.share))) (a ≡ b)
levels_decide a b =
    and_decides (a.factor == b.factor) ((a.stride == b.stride) && (a.share == b.share)) (Decides-eqb a.factor b.factor)
    (and_decides {R = (a.stride ≡ b.stride) × (a.share ≡ b.share)} (a.stride == b.stride) (a.share == b.share) (Decides-eqb a.stride b.stride) (Decides-eqb a.share b.share) (λ e f. (e, f)) (λ p. p.0) (λ p. p.1))
    (level_made a b) (λ e. ap (λ (l : CopyLevel). l.factor) e) (λ e. (ap (λ (l : CopyLevel). l.stride) e, ap (λ (l : CopyLevel). l.share) e))

pub lanes_decide : (a b : BankDimension) → Decides ((a.banks == b.banks) && ((a.times == b.times) && ((a.low == b.low) && (int_eq a.offset b.offset && (a.level == b.level))))) (a ≡ b)
lanes_decide a b =
    and_decides (a.banks == b.banks) ((a.times == b.times) && ((a.low == b.low) && (int_eq a.offset b.offset && (a.level == b.level)))) (Decides-eqb a.banks b.banks)
    (and_decides {R = (a.times ≡ b.times) × ((a.low ≡ b.low) × ((a.offset ≡ b.offset) × (a.level ≡ b.level)))} (a.times == b.times) ((a.low == b.low) && (int_eq a.offset b.offset && (a.level == b.level))) (Decides-eqb a.times b.times)
    (and_decides {R = (a.low ≡ b.low) × ((a.offset ≡ b.offset) × (a.level ≡ b.level))} (a.low == b.low) (int_eq a.offset b.offset && (a.level == b.level)) (Decides-eqb a.low b.low)
    (and_decides {R = (a.offset ≡ b.offset) × (a.level ≡ b.level)} (int_eq a.offset b.offset) (a.level == b.level) (Decides-int_eq a.offset b.offset) (Decides-eqb a.level b.level) (λ e f. (e, f)) (λ p. p.0) (λ p. p.1))
    (λ e p. (e, p)) (λ p. p.0) (λ p. p.1))
    (λ e p. (e, p)) (λ p. p.0) (λ p. p.1))
    (lane_made a b) (λ e. ap (λ (l : BankDimension). l.banks) e)
    (λ e. (ap (λ (l : BankDimension). l.times) e, (ap (λ (l : BankDimension). l.low) e, (ap (λ (l : BankDimension). l.offset) e, ap (λ (l : BankDimension). l.level) e))))
