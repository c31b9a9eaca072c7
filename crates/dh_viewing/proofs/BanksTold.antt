-- The bits of a set of banks are those that are reached.
use Rattle.std.proofs.Common.{◌≡◌, ℕ, ◌+◌, ◌<◌, ◌==◌, ◌&&◌, true, nat_lt, ap, sym, ◌∙◌, arith}
use Rattle.std.specs.Prelude.{IsTrue}
use Rattle.std.specs.Int.{bit_at}
use Rattle.std.proofs.lemmas.Bool.Decides.{nat_tests}
use Rattle.std.proofs.Math.Nat.{zero-add}
use Rattle.dh_tree.specs.Elements.{banks_of}
use Rattle.dh_tree.specs.declared.viewing.ViewMap.{ViewMap}
use Rattle.dh_viewing.specs.ReachedBanks.{ReachesBank, can_reach, is_in}
use Rattle.dh_tree.specs.ViewShapes.{IsViewMap}
use Rattle.dh_viewing.proofs.BankDigits.{both, first_of, rest_of}
use Rattle.dh_viewing.proofs.BitsTold.{Told, bit_is_told}
use Rattle.dh_viewing.proofs.ReachTold.{reach_below, reached_told, told_reached}

small : (c n : ℕ) → nat_lt c n ≡ true → c < n
small c n e = grind (arith, nat_tests)

large : (c n : ℕ) → c < n → nat_lt c n ≡ true
large c n l = grind (arith, nat_tests)

pub banks_told : (v : ViewMap) (bank bits k : ℕ) → IsViewMap v → bank < banks_of v.shape.dims → k ≡ 0 → Told (can_reach v bank) (banks_of v.parent.dims) k bits
    → (c : ℕ) → (IsTrue (is_in (record { bits = bits }) c) → ReachesBank v bank c) × (ReachesBank v bank c → IsTrue (is_in (record { bits = bits }) c))
banks_told v bank bits k m mine zero_is t c =
    let n = banks_of v.parent.dims in
    let is : (bit_at bits c == 1) ≡ (nat_lt c n && can_reach v bank c) = bit_is_told bits c ∙ (t.told c ∙ ap (λ x. nat_lt (x + c) n && can_reach v bank (x + c)) zero_is ∙ ap (λ x. nat_lt x n && can_reach v bank x) (zero-add c)) in (
      λ e. told_reached v bank c m mine (small c n (first_of (nat_lt c n) (can_reach v bank c) (sym is ∙ e))) (rest_of (nat_lt c n) (can_reach v bank c) (sym is ∙ e)),
      λ r. is ∙ both (nat_lt c n) (can_reach v bank c) (large c n (reach_below v bank c m r)) (reached_told v bank c m r),
    )
