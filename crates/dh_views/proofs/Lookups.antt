-- A name's memory, told by its number in the table; and literal rows.
use Rattle.std.proofs.Common.{◌≡◌, ℕ, zero, suc, Bool, true, false, if◌then◌else◌, List, [], ◌∷◌, map, slice_get, Option, Some, None, option_map, refl, ap, sym, ◌∙◌, ◌<◌, inl, inr, nat_le, min, arith, ◌==◌, ◌&&◌, ◌||◌, not, pos, neg_ℤ}
use Rattle.std.proofs.lemmas.Int.{ints}
use Rattle.std.proofs.lemmas.Bool.{cases_lt}
use Rattle.std.proofs.lemmas.Bool.Decides.{nat_tests}
use Rattle.std.proofs.Math.Nat.{min-eq_left, min-eq_right}
use Rattle.dh_tree.specs.declared.tables.Dim.{Dim}
use Rattle.dh_tree.specs.declared.tables.MemEntry.{MemEntry}
use Rattle.dh_tree.specs.Indices.{kept_dims, is_beyond}
use Rattle.dh_tree.specs.Kinds.{signed_number}
use Rattle.dh_tree.specs.Memories.{Memory, same_entity, number_in, memory_in, entry_of}
use Rattle.dh_views.specs.Kept.{entry_dimensions_at, entry_dimensions, number_bound}

further : (x : MemEntry) (es : List MemEntry) (o : Option ℕ) → entry_dimensions_at es o ≡ entry_dimensions_at (x ∷ es) (option_map suc o)
further x es None = refl
further x es (Some n) = refl

one_more : (m : Memory) (ms : List Memory) (e : Option ℕ) → kept_dims (memory_in ms e) ≡ entry_dimensions_at (map entry_of ms) (number_in ms e)
    → (b : Bool) → kept_dims (if b then Some m else memory_in ms e) ≡ entry_dimensions_at (map entry_of (m ∷ ms)) (if b then Some 0 else option_map suc (number_in ms e))
one_more m ms e rest true = refl
one_more m ms e rest false = rest ∙ further (entry_of m) (map entry_of ms) (number_in ms e)

pub looked_up : (ms : List Memory) (e : Option ℕ) → kept_dims (memory_in ms e) ≡ entry_dimensions_at (map entry_of ms) (number_in ms e)
looked_up [] e = refl
looked_up (m ∷ ms) e = one_more m ms e (looked_up ms e) (same_entity m.name.entity e)

same_none : (e : Option ℕ) → same_entity e None ≡ false
same_none None = refl
same_none (Some n) = refl

none_numbered : (ms : List Memory) → number_in ms None ≡ None
none_numbered [] = refl
none_numbered (m ∷ ms) = ap (λ b. if b then Some 0 else option_map suc (number_in ms None)) (same_none m.name.entity) ∙ ap (λ o. option_map suc o) (none_numbered ms)

pub no_memory : (ms : List Memory) (e : Option ℕ) → e ≡ None → None ≡ kept_dims (memory_in ms e)
no_memory ms e is = sym (looked_up ms e ∙ (ap (λ x. entry_dimensions_at (map entry_of ms) (number_in ms x)) is ∙ ap (λ o. entry_dimensions_at (map entry_of ms) o) (none_numbered ms)))

-- the answer from the table is the answer
pub told_without_number : (ms : List Memory) (e : Option ℕ) (entity : ℕ) (n : Option ℕ) → e ≡ Some entity → n ≡ number_in ms (Some entity) → n ≡ None → None ≡ kept_dims (memory_in ms e)
told_without_number ms e entity n named is none =
    sym (looked_up ms e ∙ (ap (λ x. entry_dimensions_at (map entry_of ms) (number_in ms x)) named ∙ (ap (λ o. entry_dimensions_at (map entry_of ms) o) (sym is) ∙ ap (λ o. entry_dimensions_at (map entry_of ms) o) none)))

pub told_by_entry : (ms : List Memory) (e : Option ℕ) (entity : ℕ) (n : Option ℕ) (number : ℕ) (es : List MemEntry) (x : Option MemEntry) (answer : Option (List Dim))
    → e ≡ Some entity → n ≡ number_in ms (Some entity) → n ≡ Some number → es ≡ map entry_of ms → slice_get es number ≡ x → answer ≡ entry_dimensions x → answer ≡ kept_dims (memory_in ms e)
told_by_entry ms e entity n number es x answer named is some same found told =
    told
    ∙ (ap entry_dimensions (sym found)
    ∙ (ap (λ l. entry_dimensions (slice_get l number)) same
    ∙ (ap (λ o. entry_dimensions_at (map entry_of ms) o) (sym some)
    ∙ (ap (λ o. entry_dimensions_at (map entry_of ms) o) is
    ∙ (ap (λ y. entry_dimensions_at (map entry_of ms) (number_in ms y)) (sym named) ∙ sym (looked_up ms e))))))

-- a row that is cut off above all numbers of texts
nat_cut : (rows value cap : ℕ) → value < cap → nat_le (min rows cap) value ≡ nat_le rows value
nat_cut rows value cap below = elim (cases_lt cap rows) [
  | inl above ↦ ap (λ x. nat_le x value) (min-eq_right {n = cap} {m = rows} (omega arith)) ∙ both_false (nat_le cap value) (nat_le rows value) (grind (arith, nat_tests)) (grind (arith, nat_tests))
  | inr within ↦ ap (λ x. nat_le x value) (min-eq_left {n = rows} {m = cap} (omega arith))
]
  where
    both_false : (a b : Bool) → a ≡ false → b ≡ false → a ≡ b
    both_false a b h k = h ∙ sym k

beyond_nat : (n v : ℕ) → nat_le n v ≡ is_beyond n (pos v)
beyond_nat n v = grind (arith, nat_tests, ints)

beyond_below : (n v : ℕ) → true ≡ is_beyond n (neg_ℤ (pos (suc v)))
beyond_below n v = grind (arith, nat_tests, ints)

not_zero : (v : ℕ) → (suc v == 0) ≡ false
not_zero v = grind (arith, nat_tests)

pub row_cut : (rows value : ℕ) (negative : Bool) → value < number_bound
    → ((negative && not (value == 0)) || nat_le (min rows number_bound) value) ≡ is_beyond rows (signed_number negative value)
row_cut rows value false below = nat_cut rows value number_bound below ∙ beyond_nat rows value
row_cut rows zero true below = nat_cut rows 0 number_bound below ∙ beyond_nat rows 0
row_cut rows (suc value) true below = ap (λ b. not b || nat_le (min rows number_bound) (suc value)) (not_zero value) ∙ beyond_below rows value
