-- What the fields of a variant hold, in an arm over a value that stays where it is.
use Rattle.std.proofs.Common.{◌≡◌, ℕ, sym, ap, ◌∙◌}
use mathlib.Core.Option.{some}
use denote.Enum.Declared.{Record}
use borrow.Enum.Known.{ValuesAt, at}
use borrow.Enum.Total.{values_d, values_d_at, values_o, values_o_at}

module _ (N : Record) where
  -- the fields, read with these as the ones of another variant
  pub holds : (k : ℕ) (v : ValuesAt N.parts k) (x : N.D) → x ≡ at N k v → values_d N k v x ≡ v
  holds k v x is = ap (λ y. values_d N k v y) is ∙ values_d_at N k v v

  -- the fields, read only of this variant
  pub holds_some : (k : ℕ) (v : ValuesAt N.parts k) (x : N.D) → x ≡ at N k v → values_o N k x ≡ some v
  holds_some k v x is = ap (λ y. values_o N k y) is ∙ values_o_at N k v

  -- the fields as they are read, and that the value is of them
  abbrev pub reading : (k : ℕ) (v : ValuesAt N.parts k) (x : N.D) → x ≡ at N k v → (p : ValuesAt N.parts k) × (x ≡ at N k p)
  reading k v x is = (values_d N k v x, is ∙ ap (λ p. at N k p) (sym (holds k v x is)))
