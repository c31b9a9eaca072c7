-- Steps of the loops over events and banks.
use Rattle.std.proofs.Common.{◌≡◌, ℕ, zero, suc, ◌+◌, ◌<◌, ◌≤◌, ◌==◌, false, if◌then◌else◌, List, [], ◌∷◌, ◌++◌, append_assoc, append-nil, length, drop, get_or, refl, ap, sym, ◌∙◌, subst, arith, ◌⊎◌, inl, inr}
use Rattle.std.specs.Prelude.{Option, Some, slice_get, slice_index, Vec}
use Rattle.std.specs.Global.{Global}
use Rattle.std.specs.List.{AllByRecursion}
use Rattle.std.proofs.lemmas.Bool.{cases_Bool, eqb-true, eq-eqb}
use Rattle.std.proofs.lemmas.List.{drop_all}
use Rattle.dh_tree.specs.declared.trees.counters.Counter.{Counter}
use Rattle.dh_tree.specs.PlainTrees.{Program}
use Rattle.dh_events.specs.declared.events.Event.{Event}
use Rattle.dh_events.specs.declared.events.Event.TheVariants as event
use Rattle.dh_ports.specs.declared.moves.Move.{Move}
use Rattle.dh_ports.specs.declared.moves.Move.TheVariants as move
use Rattle.dh_ports.specs.Claims.{claim_at, claims_from, moves_from, source_of}
use Rattle.dh_ports.specs.EventMoves.{moves_of, HasFewCopiesAt}
use Rattle.dh_ports.specs.Layouts.{HaveFewCopies}
use Rattle.dh_events.specs.Noted.{all_seen}
use Rattle.dh_ports.specs.Scanned.{IsMoveOf}
use Rattle.dh_ports.proofs.ClaimedBanks.{IsClaimOf, all_claims}
use Rattle.dh_events.proofs.Turns.{at_place}

absurd : {A : Type 0} → ⊥ → A
absurd e = elim e [ ]

shift : (b i : ℕ) → suc (b + i) ≡ b + (i + 1)
shift b i = omega arith

module _ (event base i : ℕ) (counts : List ℕ) (inside : i < length counts) where
  claims_here : claims_from event (base + i) (drop i counts) ≡ claim_at event (base + i) (slice_index counts i) ++ claims_from event (base + (i + 1)) (drop (i + 1) counts)
  claims_here =
      ap (claims_from event (base + i)) (at_place counts i 0 inside)
      ∙ ap (λ n. claim_at event (base + i) (slice_index counts i) ++ claims_from event n (drop (i + 1) counts)) (shift base i)

  -- a bank that is reached, and one that is not
  pub claim_then : (before new : List Move) → 0 < slice_index counts i → new ≡ before ++ move.Claim event (base + i) (slice_index counts i) ∷ [] → new ++ claims_from event (base + (i + 1)) (drop (i + 1) counts) ≡ before ++ claims_from event (base + i) (drop i counts)
  claim_then before new some e =
      ap (λ l. l ++ claims_from event (base + (i + 1)) (drop (i + 1) counts)) e
      ∙ (append_assoc before (move.Claim event (base + i) (slice_index counts i) ∷ []) (claims_from event (base + (i + 1)) (drop (i + 1) counts))
      ∙ ap (λ l. before ++ l) (sym (claims_here ∙ ap (λ b. (if b then [] else move.Claim event (base + i) (slice_index counts i) ∷ []) ++ claims_from event (base + (i + 1)) (drop (i + 1) counts)) (not_none (slice_index counts i) some))))
    where
      not_none : (n : ℕ) → 0 < n → (n == 0) ≡ false
      not_none n e = elim (cases_Bool (n == 0)) [ inl f ↦ absurd (apart n (eqb-true n 0 f) e) | inr f ↦ f ]
        where
          apart : (n : ℕ) → n ≡ 0 → 0 < n → ⊥
          apart n e f = omega (arith, e, f)

  pub claim_else : (before new : List Move) → slice_index counts i ≤ 0 → new ≡ before → new ++ claims_from event (base + (i + 1)) (drop (i + 1) counts) ≡ before ++ claims_from event (base + i) (drop i counts)
  claim_else before new none e =
      ap (λ l. l ++ claims_from event (base + (i + 1)) (drop (i + 1) counts)) e
      ∙ ap (λ l. before ++ l) (sym (claims_here ∙ ap (λ b. (if b then [] else move.Claim event (base + i) (slice_index counts i) ∷ []) ++ claims_from event (base + (i + 1)) (drop (i + 1) counts)) (eq-eqb (slice_index counts i) 0 (zero_of (slice_index counts i) none))))
    where
      zero_of : (n : ℕ) → n ≤ 0 → n ≡ 0
      zero_of n e = omega (arith, e)

-- What an event does to banks.

moves_so : (p : Program) (loops : Option ℕ → List Counter) (place : ℕ) (e : Event) (es : List Event) → moves_from p loops place (all_seen (e ∷ es)) ≡ moves_of p loops place e ++ moves_from p loops (place + 1) (all_seen es)
moves_so p loops place (event.Touch writes phase round access element newest) es = refl
moves_so p loops place (event.Assigned entity) es = refl
moves_so p loops place event.ArmBegins es = refl
moves_so p loops place event.ArmEnds es = refl
moves_so p loops place event.Begins es = refl
moves_so p loops place event.Next es = refl
moves_so p loops place event.Ends es = refl

pub moves_here : (p : Program) (loops : Option ℕ → List Counter) (es : List Event) (i : ℕ) (e : Event) → i < length es → e ≡ get_or es i e → moves_from p loops i (all_seen (drop i es)) ≡ moves_of p loops i e ++ moves_from p loops (i + 1) (all_seen (drop (i + 1) es))
moves_here p loops es i e inside is = ap (λ l. moves_from p loops i (all_seen l)) (at_place es i e inside ∙ ap (λ x. x ∷ drop (i + 1) es) (sym is)) ∙ moves_so p loops i e (drop (i + 1) es)

pub moves_turn : (p : Program) (loops : Option ℕ → List Counter) (es : List Event) (i : ℕ) (e : Event) (before new whole : List Move) → i < length es → e ≡ get_or es i e → before ++ moves_from p loops i (all_seen (drop i es)) ≡ whole → new ≡ before ++ moves_of p loops i e
    → new ++ moves_from p loops (i + 1) (all_seen (drop (i + 1) es)) ≡ whole
moves_turn p loops es i e before new whole inside is so more =
    ap (λ l. l ++ moves_from p loops (i + 1) (all_seen (drop (i + 1) es))) more
    ∙ (append_assoc before (moves_of p loops i e) (moves_from p loops (i + 1) (all_seen (drop (i + 1) es)))
    ∙ (ap (λ l. before ++ l) (sym (moves_here p loops es i e inside is)) ∙ so))

all_append : {A : Type 0} (P : A → Type 0) (xs ys : List A) → AllByRecursion P xs → AllByRecursion P ys → AllByRecursion P (xs ++ ys)
all_append P [] ys h i = i
all_append P (x ∷ xs) ys h i = (h.0, all_append P xs ys h.1 i)

claims_within : (n event : ℕ) (ms : List Move) → event < n → AllByRecursion (IsClaimOf event) ms → AllByRecursion (IsMoveOf n) ms
claims_within n event [] l h = tt
claims_within n event (move.Claim e slot keys ∷ ms) l h = (subst (λ (k : ℕ). k < n) (sym h.0) l, claims_within n event ms l h.1)
claims_within n event (move.Begin ∷ ms) l h = absurd h.0
claims_within n event (move.Next ∷ ms) l h = absurd h.0
claims_within n event (move.End ∷ ms) l h = absurd h.0

pub moves_within : (p : Program) (loops : Option ℕ → List Counter) (n i : ℕ) (e : Event) → i < n → AllByRecursion (IsMoveOf n) (moves_of p loops i e)
moves_within p loops n i (event.Touch writes phase round access element newest) l = claims_within n i _ l (all_claims p i (source_of (loops round) writes access.now))
moves_within p loops n i (event.Assigned entity) l = tt
moves_within p loops n i event.ArmBegins l = tt
moves_within p loops n i event.ArmEnds l = tt
moves_within p loops n i event.Begins l = (tt, tt)
moves_within p loops n i event.Next l = (tt, tt)
moves_within p loops n i event.Ends l = (tt, tt)

pub within_turn : (p : Program) (loops : Option ℕ → List Counter) (n i : ℕ) (e : Event) (before new : List Move) → i < n → AllByRecursion (IsMoveOf n) before → new ≡ before ++ moves_of p loops i e → AllByRecursion (IsMoveOf n) new
within_turn p loops n i e before new l h f = subst (λ (ms : List Move). AllByRecursion (IsMoveOf n) ms) (sym f) (all_append (IsMoveOf n) before (moves_of p loops i e) h (moves_within p loops n i e l))

pub nothing_added : (before more : List Move) → more ≡ [] → before ≡ before ++ more
nothing_added before more e = sym (append-nil before) ∙ ap (λ l. before ++ l) (sym e)

-- Events that are there.

event_found : (es : List Event) (i : ℕ) (d e : Event) → i < length es → get_or es i d ≡ e → slice_get es i ≡ Some e
event_found [] i d e inside is = absurd (none i inside)
  where
    none : (k : ℕ) → k < 0 → ⊥
    none k e = omega (arith, e)
event_found (x ∷ es) zero d e inside is = ap (λ z. Some z) is
event_found (x ∷ es) (suc i) d e inside is = event_found es i d e (less i (length es) inside) is
  where
    less : (k n : ℕ) → suc k < suc n → k < n
    less k n e = omega (arith, e)

-- what does nothing to banks
pub nothing_of : (p : Program) (loops : Option ℕ → List Counter) (place : ℕ) (e : Event) → ((entity : Option ℕ) × (e ≡ event.Assigned entity)) ⊎ ((e ≡ event.ArmBegins) ⊎ (e ≡ event.ArmEnds)) → moves_of p loops place e ≡ []
nothing_of p loops place e (inl (entity, is)) = ap (λ x. moves_of p loops place x) is
nothing_of p loops place e (inr (inl is)) = ap (λ x. moves_of p loops place x) is
nothing_of p loops place e (inr (inr is)) = ap (λ x. moves_of p loops place x) is

pub few_at : (rounds : List (Vec Counter Global)) (es : List Event) (i : ℕ) (e : Event) → HaveFewCopies rounds es → i < length es → e ≡ get_or es i e → HasFewCopiesAt rounds e
few_at rounds es i (event.Touch writes phase round access element newest) few inside is = few i access writes phase round element newest (event_found es i _ _ inside (sym is))
few_at rounds es i (event.Assigned entity) few inside is = tt
few_at rounds es i event.ArmBegins few inside is = tt
few_at rounds es i event.ArmEnds few inside is = tt
few_at rounds es i event.Begins few inside is = tt
few_at rounds es i event.Next few inside is = tt
few_at rounds es i event.Ends few inside is = tt

-- Behind the last event.

pub moves_done : (p : Program) (loops : Option ℕ → List Counter) (es : List Event) (i : ℕ) (moves whole : List Move) → length es ≤ i → moves ++ moves_from p loops i (all_seen (drop i es)) ≡ whole → moves ≡ whole
moves_done p loops es i moves whole past so = sym (append-nil moves) ∙ (ap (λ l. moves ++ moves_from p loops i (all_seen l)) (sym (drop_all i es past)) ∙ so)
