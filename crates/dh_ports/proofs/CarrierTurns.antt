-- Views on a way that code goes through, one after the other.
use Rattle.std.proofs.Common.{◌≡◌, ℕ, zero, suc, add-one, ◌+◌, ◌<◌, ◌≤◌, ◌==◌, nat_lt, Bool, true, false, if◌then◌else◌, List, [], ◌∷◌, ◌++◌, length, map, take, get_or, slice_index, sym, ap, subst, ◌∙◌, arith}
use Rattle.std.specs.List.{AllByRecursion}
use Rattle.std.proofs.lemmas.List.{map_more, take_all}
use Rattle.dh_tree.specs.declared.tables.Dim.{Dim}
use Rattle.dh_tree.specs.declared.tables.Shape.{Shape}
use Rattle.dh_tree.specs.Elements.{banks_of}
use Rattle.dh_tree.specs.Shapes.{IsDim, IsShape}
use Rattle.dh_viewing.specs.Carried.{largest}
use Rattle.dh_ports.specs.declared.carrying.Carrier.{Carrier}
use Rattle.dh_ports.specs.Banks.{each_below}
use Rattle.dh_ports.specs.Carriers.{carried_to}
use Rattle.dh_ports.proofs.ClaimTurns.{index_found, Shaped}

-- Items.

pub item_holds : {A : Type 0} (P : A → Type 0) (xs : List A) (i : ℕ) (x : A) → AllByRecursion P xs → i < length xs → x ≡ get_or xs i x → P x
item_holds P [] i x h inside is = elim (none i inside) [ ]
  where
    none : (k : ℕ) → k < 0 → ⊥
    none k e = omega (arith, e)
item_holds P (y ∷ xs) zero x h inside is = subst P (sym is) h.0
item_holds P (y ∷ xs) (suc i) x h inside is = item_holds P xs i x h.1 (less i (length xs) inside) is
  where
    less : (k n : ℕ) → suc k < suc n → k < n
    less k n e = omega (arith, e)

-- the dimensions of a shape
pub shaped : (s : Shape) (ds : List Dim) → ds ≡ s.dims → IsShape s → Shaped ds
shaped s ds e h = record {
  dims = subst (λ (l : List Dim). AllByRecursion IsDim l) (sym e) h.dims;
  few = subst (λ (l : List Dim). banks_of l ≤ 64) (sym e) h.few_banks;
}

-- Lists that are made item by item.

-- a value more
pub each_next : (f : ℕ → ℕ) (n : ℕ) (xs ys : List ℕ) (x : ℕ) → xs ≡ each_below f n → x ≡ f n → ys ≡ xs ++ x ∷ [] → ys ≡ each_below f (n + 1)
each_next f n xs ys x so e f' = f' ∙ (ap (λ l. l ++ x ∷ []) so ∙ (ap (λ y. each_below f n ++ y ∷ []) e ∙ ap (each_below f) (sym (add-one n))))

-- an item more of a list that is mapped
pub map_next : (f : ℕ → ℕ) (xs old new : List ℕ) (i x : ℕ) → i < length xs → old ≡ map f (take i xs) → x ≡ f (get_or xs i 0) → new ≡ old ++ x ∷ [] → new ≡ map f (take (i + 1) xs)
map_next f xs old new i x inside so is e = e ∙ (ap (λ l. l ++ x ∷ []) so ∙ (ap (λ y. map f (take i xs) ++ y ∷ []) is ∙ sym (map_more f xs i 0 inside)))

pub map_done : (f : ℕ → ℕ) (xs made : List ℕ) (i : ℕ) → length xs ≤ i → made ≡ map f (take i xs) → made ≡ map f xs
map_done f xs made i past so = so ∙ ap (map f) (take_all i xs past)

-- What is carried.

pub carried_then : (k : Carrier) (counts : List ℕ) (most behind : ℕ) → k.evenly ≡ true → most ≡ largest (slice_index counts) k.banks → most ≡ carried_to k (slice_index counts) behind
carried_then k counts most behind e so = so ∙ sym (ap (λ (b : Bool). if b then largest (slice_index counts) k.banks else slice_index counts (slice_index k.sources.items behind)) e)

pub carried_else : (k : Carrier) (counts : List ℕ) (behind source d : ℕ) → k.evenly ≡ false → source ≡ slice_index k.sources.items behind → source < length counts → get_or counts source d ≡ carried_to k (slice_index counts) behind
carried_else k counts behind source d e is inside =
    index_found counts source d inside
    ∙ (ap (slice_index counts) is
    ∙ sym (ap (λ (b : Bool). if b then largest (slice_index counts) k.banks else slice_index counts (slice_index k.sources.items behind)) e))

-- one key of a bank
pub carries_else : (k : Carrier) (bank behind source : ℕ) → k.evenly ≡ false → source ≡ slice_index k.sources.items behind → (source == bank) ≡ (if k.evenly then nat_lt bank k.banks else (slice_index k.sources.items behind == bank))
carries_else k bank behind source e is = ap (λ s. s == bank) is ∙ sym (ap (λ (b : Bool). if b then nat_lt bank k.banks else (slice_index k.sources.items behind == bank)) e)

pub carries_then : (k : Carrier) (bank behind : ℕ) → k.evenly ≡ true → nat_lt bank k.banks ≡ (if k.evenly then nat_lt bank k.banks else (slice_index k.sources.items behind == bank))
carries_then k bank behind e = sym (ap (λ (b : Bool). if b then nat_lt bank k.banks else (slice_index k.sources.items behind == bank)) e)
