-- A walk over a list in place: each item is made anew, and each leads from a state to the next. Shared by
-- the crates above that change a tree in place.
use Rattle.std.proofs.Common.{◌≡◌, ℕ, ◌+◌, ◌<◌, ◌≤◌, List, [], ◌∷◌, ◌++◌, length, map, take, drop, get_or, slice_index_or, slice_set, refl, sym, ap, subst, ◌∙◌, arith}
use Rattle.std.proofs.lemmas.List.{get_or-set_other, length-set, append-nil, append_assoc, map-append, take_more_set, take_all, drop_all}
use Rattle.dh_base.proofs.ListItems.{at_item}

-- items from the index on are as they were
abbrev pub Unvisited : {C : Type 0} → List C → List C → ℕ → Type 0
Unvisited {C} before now index = (length now ≡ length before) × ((k : ℕ) → (d : C) → index ≤ k → slice_index_or now k d ≡ slice_index_or before k d)

unvisited : {C : Type 0} (before now : List C) (index : ℕ) (e' : C) → Unvisited before now index → Unvisited before (slice_set now index e') (index + 1)
unvisited before now index e' u =
    (length-set now index e' ∙ u.0, λ k d past. get_or-set_other now index k e' d (omega (arith, past)) ∙ u.1 k d (omega (arith, past)))

module _ {C B S : Type 0} (f : C → B) (step : S → B → S) (make : S → B → B) where
  -- the state after all items, and the items that are made
  abbrev pub run : S → List B → S
  run s [] = s
  run s (b ∷ bs) = run (step s b) bs

  abbrev pub made : S → List B → List B
  made s [] = []
  made s (b ∷ bs) = make s b ∷ made (step s b) bs

  -- items before the index are made
  pub record SoFar (before now : List C) (index : ℕ) (first state : S) : Type 0 where
    pub done : made first (map f before) ≡ map f (take index now) ++ made state (map f (drop index before))
    pub ends : run first (map f before) ≡ run state (map f (drop index before))

  pub start : (before : List C) (s : S) → SoFar before before 0 s s
  start before s = record { done = refl; ends = refl }

  pub turn : (before now : List C) (index : ℕ) (first state state' : S) (e e' : C) → index < length now → Unvisited before now index → SoFar before now index first state
      → e ≡ get_or now index e → f e' ≡ make state (f e) → state' ≡ step state (f e)
      → Unvisited before (slice_set now index e') (index + 1) × SoFar before (slice_set now index e') (index + 1) first state'
  turn before now index first state state' e e' within u so at new next =
      let rest = at_item before index e (omega (arith, within, u.0)) (at ∙ u.1 index e (omega arith)) in
      let done = so.done ∙ ap (λ r. map f (take index now) ++ made state (map f r)) rest in
      let taken = ap (λ l. map f l) (take_more_set now index e' within) ∙ map-append f (take index now) (e' ∷ []) in (
        unvisited before now index e' u,
        record {
          done = done
              ∙ ap (λ s. map f (take index now) ++ (make state (f e) ∷ made s (map f (drop (index + 1) before)))) (sym next)
              ∙ ap (λ b. map f (take index now) ++ (b ∷ made state' (map f (drop (index + 1) before)))) (sym new)
              ∙ sym (append_assoc (map f (take index now)) (f e' ∷ []) (made state' (map f (drop (index + 1) before))))
              ∙ ap (λ l. l ++ made state' (map f (drop (index + 1) before))) (sym taken);
          ends = so.ends ∙ ap (λ r. run state (map f r)) rest ∙ ap (λ s. run s (map f (drop (index + 1) before))) (sym next);
        },
      )

  pub finish : (before now : List C) (index : ℕ) (first state : S) → length now ≤ index → Unvisited before now index → SoFar before now index first state
      → (map f now ≡ made first (map f before)) × (state ≡ run first (map f before))
  finish before now index first state past u so =
      let gone : drop index before ≡ [] = drop_all index before (omega (arith, past, u.0)) in
      let all : take index now ≡ now = take_all index now past in (
        sym (so.done ∙ ap (λ r. map f (take index now) ++ made state (map f r)) gone ∙ append-nil (map f (take index now)) ∙ ap (λ l. map f l) all),
        sym (so.ends ∙ ap (λ r. run state (map f r)) gone),
      )

  -- the same, where each item costs so much of a room that is bounded
  module _ (size : S → ℕ) (cost : B → ℕ) (grows : (s : S) (b : B) → size (step s b) ≡ size s + cost b) (bound : ℕ) where
    abbrev pub sum : List B → ℕ
    sum [] = 0
    sum (b ∷ bs) = cost b + sum bs

    abbrev pub Fits : S → List B → Type 0
    Fits s bs = size s + sum bs ≤ bound

    pub record FitsSoFar (before now : List C) (index : ℕ) (first state : S) : Type 0 where
      pub so : SoFar before now index first state
      pub fits : Fits state (map f (drop index before))

    pub start_fits : (before : List C) (s : S) → Fits s (map f before) → FitsSoFar before before 0 s s
    start_fits before s fits = record { so = start before s; fits = fits }

    -- the item at the index fits
    pub item_fits : (before now : List C) (index : ℕ) (first state : S) (e : C) → index < length now → Unvisited before now index → FitsSoFar before now index first state → e ≡ get_or now index e → size state + cost (f e) ≤ bound
    item_fits before now index first state e within u so at =
        let rest = at_item before index e (omega (arith, within, u.0)) (at ∙ u.1 index e (omega arith)) in
        let fits : size state + (cost (f e) + sum (map f (drop (index + 1) before))) ≤ bound = subst (λ l. Fits state (map f l)) rest so.fits in
        omega (arith, fits)

    pub turn_fits : (before now : List C) (index : ℕ) (first state state' : S) (e e' : C) → index < length now → Unvisited before now index
        → (Fits first (map f before) → FitsSoFar before now index first state) → e ≡ get_or now index e
        → (size state + cost (f e) ≤ bound → (f e' ≡ make state (f e)) × (state' ≡ step state (f e)))
        → Unvisited before (slice_set now index e') (index + 1) × (Fits first (map f before) → FitsSoFar before (slice_set now index e') (index + 1) first state')
    turn_fits before now index first state state' e e' within u so at goes = (
      unvisited before now index e' u,
      λ room.
          let s = so room in
          let rest = at_item before index e (omega (arith, within, u.0)) (at ∙ u.1 index e (omega arith)) in
          let fits : size state + (cost (f e) + sum (map f (drop (index + 1) before))) ≤ bound = subst (λ l. Fits state (map f l)) rest s.fits in
          let g = goes (omega (arith, fits)) in
          let size_is : size state' ≡ size state + cost (f e) = ap (λ x. size x) g.1 ∙ grows state (f e) in
          record {
            so = (turn before now index first state state' e e' within u s.so at g.0 g.1).1;
            fits = omega (arith, fits, size_is);
          },
    )

-- what is written back into a vector of this length
pub written : {C : Type 0} (old now : List C) (len : ℕ) → length now ≡ length old → length old ≡ len → take len (now ++ drop (length now) old) ≡ now
written old now len same is =
    ap (λ r. take len (now ++ r)) (drop_all (length now) old (omega (arith, same))) ∙ ap (λ l. take len l) (append-nil now) ∙ take_all len now (omega (arith, same, is))
