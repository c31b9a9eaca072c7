-- Claims behind a shift: all banks of a memory in one row.
use Rattle.std.proofs.Common.{◌≡◌, ℕ, zero, suc, ◌+◌, ◌-◌, ◌==◌, nat_lt, Bool, true, false, if◌then◌else◌, [], ◌++◌, length, slice_index, refl, ap, sym, ◌∙◌, arith}
use Rattle.dh_ports.specs.declared.carrying.Carrier.{Carrier}
use Rattle.dh_ports.specs.declared.moves.Move.TheVariants as move
use Rattle.dh_ports.specs.Banks.{each_below}
use Rattle.dh_ports.specs.Carriers.{carried_to, one_at}
use Rattle.dh_ports.specs.Claims.{claim_at, claims_from}
use Rattle.dh_ports.specs.Runs.{moves_in_row, row_to}
use Rattle.dh_ports.proofs.ClaimTurns.{claims_last}
use Rattle.dh_ports.proofs.EachFacts.{each_long}
use Rattle.dh_ports.proofs.RunTurns.{more_row}
use Rattle.dh_ports.proofs.ThroughClaims.{one_carried}

-- one key on each bank, and none
even_row : (event base : ℕ) (f : ℕ → ℕ) → ((bank : ℕ) → f bank ≡ 1) → (n : ℕ) → claims_from event base (each_below f n) ≡ moves_in_row (move.Claim event base 1) base n
even_row event base f ones zero = refl
even_row event base f ones (suc n) =
    claims_last event base (each_below f n) (f n)
    ∙ (ap (λ l. l ++ claim_at event (base + length (each_below f n)) (f n)) (even_row event base f ones n)
    ∙ (ap (λ k. moves_in_row (move.Claim event base 1) base n ++ claim_at event (base + k) (f n)) (each_long f n)
    ∙ (ap (λ k. moves_in_row (move.Claim event base 1) base n ++ claim_at event (base + n) k) (ones n)
    ∙ sym (more_row (move.Claim event base 1) base n))))

no_row : (event base : ℕ) (f : ℕ → ℕ) → ((bank : ℕ) → f bank ≡ 0) → (n : ℕ) → claims_from event base (each_below f n) ≡ []
no_row event base f none zero = refl
no_row event base f none (suc n) =
    claims_last event base (each_below f n) (f n)
    ∙ (ap (λ l. l ++ claim_at event (base + length (each_below f n)) (f n)) (no_row event base f none n)
    ∙ ap (λ k. claim_at event (base + length (each_below f n)) k) (none n))

module _ (k : Carrier) (event base bank : ℕ) (within : Bool) (even : k.evenly ≡ true) (told : within ≡ nat_lt bank k.banks) where
  -- what is carried to each bank
  carried : (b : Bool) → within ≡ b → (behind : ℕ) → carried_to k (one_at bank) behind ≡ (if b then 1 else 0)
  carried b is behind =
      one_carried k bank behind
      ∙ (ap (λ (e : Bool). if (if e then nat_lt bank k.banks else (slice_index k.sources.items behind == bank)) then 1 else 0) even
      ∙ ap (λ (t : Bool). if t then 1 else 0) (sym told ∙ is))

  pub even_claims : (many : ℕ) → within ≡ true → many ≡ length k.sources.items → row_to (move.Claim event base 1) (base + many) ≡ claims_from event base (each_below (carried_to k (one_at bank)) (length k.sources.items))
  even_claims many is long =
      let all : base + many - base ≡ many = omega arith in
      ap (moves_in_row (move.Claim event base 1) base) (all ∙ long)
      ∙ sym (even_row event base (carried_to k (one_at bank)) (carried true is) (length k.sources.items))

  pub no_claims : within ≡ false → claims_from event base (each_below (carried_to k (one_at bank)) (length k.sources.items)) ≡ []
  no_claims is = no_row event base (carried_to k (one_at bank)) (carried false is) (length k.sources.items)
