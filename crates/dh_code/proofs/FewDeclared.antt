-- The variables of a program have few copies each, so that their slots can be numbered. Each loop round a variable has at
-- least two copies, so that there are no more loops than copies.
use Rattle.std.proofs.Common.{◌≡◌, ℕ, zero, suc, ◌+◌, ◌*◌, ◌<◌, ◌≤◌, ◌^◌, Bool, true, false, if◌then◌else◌, List, [], ◌∷◌, ◌++◌, length, map, get_or, Some, None, ap, sym, ◌∙◌, subst, arith, append_assoc, append-nil}
use Rattle.std.proofs.Math.Nat.{pow-suc}
use Rattle.std.specs.Prelude.{Option, option_map}
use Rattle.std.specs.List.{AllByRecursion}
use Rattle.std.proofs.lemmas.List.{map-append}
use Rattle.dh_tree.specs.Memories.{same_entity}
use Rattle.dh_ways.specs.declared.ways.Hidden.{Hidden}
use Rattle.dh_code.specs.declared.places.Declared.{Declared}
use Rattle.dh_code.specs.Declarations.{Declaration, declaration_in, declared_of}
use Rattle.dh_code.specs.Placed.{AreFew, AreFound, copies_held, has_few, hidden_as}
use Rattle.dh_base.specs.Limits.{most_copies}

-- the variables listed so far, and those of the rest, are all; and the rest have few copies
pub record Listing (start now : List Declared) (all rest : List Declaration) : Type 0 where
  pub same : now ++ map declared_of rest ≡ start ++ map declared_of all
  pub few : AreFew rest

pub few_left : (ds es : List Declaration) → AreFew (ds ++ es) → AreFew ds
few_left [] es h = tt
few_left (d ∷ ds) es h = (h.0, few_left ds es h.1)

pub few_right : (ds es : List Declaration) → AreFew (ds ++ es) → AreFew es
few_right [] es h = h
few_right (d ∷ ds) es h = few_right ds es h.1

pub few_both : (ds es : List Declaration) → AreFew ds → AreFew es → AreFew (ds ++ es)
few_both [] es h k = k
few_both (d ∷ ds) es h k = (h.0, few_both ds es h.1 k)

-- one more is listed
pub listing_next : (start now next : List Declared) (all one rest : List Declaration) → Listing start now all (one ++ rest) → (AreFew one → next ≡ now ++ map declared_of one) → Listing start next all rest
listing_next start now next all one rest l h = record {
  same = ap (λ ds. ds ++ map declared_of rest) (h (few_left one rest l.few))
      ∙ (append_assoc now (map declared_of one) (map declared_of rest) ∙ (ap (λ ds. now ++ ds) (sym (map-append declared_of one rest)) ∙ l.same));
  few = few_right one rest l.few;
}

-- nothing is left
pub listed : (start now : List Declared) (all rest : List Declaration) → rest ≡ [] → Listing start now all rest → now ≡ start ++ map declared_of all
listed start now all rest none l = sym (append-nil now) ∙ (ap (λ ds. now ++ map declared_of ds) (sym none) ∙ l.same)

-- variables that keep offsets stand behind a program's own
pub all_listed : (ds hs : List Declaration) (new : List Declared) (hidden : List Hidden) → new ≡ map declared_of ds → map declared_of hs ≡ map hidden_as hidden → new ++ map hidden_as hidden ≡ map declared_of (ds ++ hs)
all_listed ds hs new hidden own are = ap (λ l. l ++ map hidden_as hidden) own ∙ (ap (λ l. map declared_of ds ++ l) (sym are) ∙ sym (map-append declared_of ds hs))

-- Inside a loop.

pub below_power : (n : ℕ) → n < 2 ^ n
below_power zero = omega arith
below_power (suc n) = let h = below_power n in let next = pow-suc 2 n in twice n (2 ^ n) (2 ^ suc n) h next
  where
    twice : (n p q : ℕ) → n < p → q ≡ p * 2 → suc n < q
    twice n p q h is = omega (arith, h, is)

pub doubled : (depth copies factor : ℕ) → 2 ^ depth ≤ copies → 1 < factor → 2 ^ (depth + 1) ≤ copies * factor
doubled depth copies factor deep more = by (2 ^ depth) deep (power depth)
  where
    power : (n : ℕ) → 2 ^ (n + 1) ≡ 2 * 2 ^ n
    power n = ap (λ k. 2 ^ k) (next n) ∙ (pow-suc 2 n ∙ turned (2 ^ n))
      where
        next : (n : ℕ) → n + 1 ≡ suc n
        next n = omega arith

        turned : (p : ℕ) → p * 2 ≡ 2 * p
        turned p = omega arith

    times : (k f : ℕ) → 1 < f → 2 * k ≤ k * f
    times k (suc (suc f)) e = omega arith
    times k (suc zero) e = absurd (none e)
      where
        none : 1 < 1 → ⊥
        none e = omega (arith, e)
    times k zero e = absurd (none e)
      where
        none : 1 < 0 → ⊥
        none e = omega (arith, e)

    by : (p : ℕ) → p ≤ copies → 2 ^ (depth + 1) ≡ 2 * p → 2 ^ (depth + 1) ≤ copies * factor
    by p le is = let t = times copies factor more in omega (arith, le, is, t)

-- Variables that are found.

found_one : (ds : List Declaration) (entity : ℕ) → AreFew ds → has_few (option_map declared_of (declaration_in ds entity))
found_one [] entity h = omega arith
found_one (d ∷ ds) entity h = by (same_entity d.entity (Some entity)) (found_one ds entity h.1)
  where
    by : (b : Bool) → has_few (option_map declared_of (declaration_in ds entity)) → has_few (option_map declared_of (if b then Some d else declaration_in ds entity))
    by true rest = h.0
    by false rest = rest

each_few : (found : List (Option Declared)) → ((i : ℕ) → i < length found → has_few (get_or found i None)) → AllByRecursion has_few found
each_few [] h = tt
each_few (v ∷ found) h = (h 0 (omega arith), each_few found (λ i within. h (suc i) (omega (arith, within))))

pub found_few : (ds : List Declaration) (found : List (Option Declared)) → AreFew ds → AreFound ds found → AllByRecursion has_few found
found_few ds found few is = each_few found (λ i within. subst has_few (sym (is i within)) (found_one ds i few))

pub few_at : (found : List (Option Declared)) (i : ℕ) (x : Option Declared) → i < length found → AllByRecursion has_few found → copies_held (get_or found i x) ≤ most_copies
few_at [] i x within h = absurd (none i within)
  where
    none : (i : ℕ) → i < 0 → ⊥
    none i e = omega (arith, e)
few_at (v ∷ found) zero x within h = h.0
few_at (v ∷ found) (suc i) x within h = few_at found i x (omega (arith, within)) h.1
