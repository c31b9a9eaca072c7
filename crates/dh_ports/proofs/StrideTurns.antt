-- How many paths there are inside some loops, while levels are gone through.
use Rattle.std.proofs.Common.{◌≡◌, ℕ, ◌+◌, ◌-◌, ◌<◌, ◌≤◌, ◌==◌, Bool, if◌then◌else◌, List, length, drop, get_or, ap, sym, ◌∙◌}
use Rattle.std.proofs.lemmas.Bool.{eq-eqb, ne_eqb}
use Rattle.std.proofs.lemmas.List.{drop_all}
use Rattle.dh_ports.specs.declared.copies.CopyLevel.{CopyLevel}
use Rattle.dh_ports.specs.Copies.{stride_in}
use Rattle.dh_events.proofs.Turns.{at_place}

module _ (ls : List CopyLevel) (i : ℕ) (d : CopyLevel) (left count whole : ℕ) (inside : i < length ls) (so : stride_in (drop i ls) left count ≡ whole) where
  here : stride_in (drop i ls) left count ≡ (if left == 0 then count else stride_in (drop (i + 1) ls) (left - 1) (get_or ls i d).stride)
  here = ap (λ l. stride_in l left count) (at_place ls i d inside)

  pub stride_found : left ≡ 0 → count ≡ whole
  stride_found e = sym (here ∙ ap (λ (b : Bool). if b then count else stride_in (drop (i + 1) ls) (left - 1) (get_or ls i d).stride) (eq-eqb left 0 e)) ∙ so

  pub stride_next : (left ≡ 0 → ⊥) → stride_in (drop (i + 1) ls) (left - 1) (get_or ls i d).stride ≡ whole
  stride_next e = sym (here ∙ ap (λ (b : Bool). if b then count else stride_in (drop (i + 1) ls) (left - 1) (get_or ls i d).stride) (ne_eqb left 0 e)) ∙ so

pub stride_last : (ls : List CopyLevel) (i left count whole : ℕ) → length ls ≤ i → stride_in (drop i ls) left count ≡ whole → count ≡ whole
stride_last ls i left count whole past so = ap (λ l. stride_in l left count) (sym (drop_all i ls past)) ∙ so
