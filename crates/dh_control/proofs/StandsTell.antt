-- Wires of states, and which blocks are active by them.
use Rattle.std.proofs.Common.{◌≡◌, ℕ, zero, suc, ◌+◌, ◌-◌, ◌<◌, ◌≤◌, ◌==◌, ◌&&◌, ◌||◌, inl, inr, true, false, List, [], ◌∷◌, ◌++◌, length, map, take, refl, sym, ap, subst, ◌∙◌, arith}
use Rattle.std.specs.Prelude.{get_or, slice_index, nat_lt}
use Rattle.std.specs.List.{AllByRecursion}
use Rattle.std.proofs.lemmas.Bool.{cases_eq}
use Rattle.std.proofs.lemmas.Bool.Decides.{nat_tests}
use Rattle.std.proofs.lemmas.List.{map-append, take_more}
use Rattle.dh_cells.specs.PlainCircuits.{PlainCircuit, IsNext}
use Rattle.dh_cells.specs.Settled.{Signals, IsSettled, Grows, IsWire, Shows, Adds, AreWires, shown}
use Rattle.dh_cells.specs.ShownValues.{bit, is_one, any_one, match_shown, both_shown, number_shown, form_shown}
use Rattle.dh_cells.proofs.CellsAppended.{grows_none, grows_then, settled_fewer, shows_later, wire_stays}
use Rattle.dh_cells.proofs.OperatorBits.{bit_tells}
use Rattle.dh_cells.proofs.WiresMade.{adds_behind, sum_next}
use Rattle.dh_lower.specs.PortUsers.{is_among}
use Rattle.dh_net.specs.declared.nets.CellForm.TheVariants.{LtU}
use Rattle.dh_plan.specs.declared.graphs.State.{State}
use Rattle.dh_control.specs.declared.gathering.Keyed.{Keyed}
use Rattle.dh_control.specs.KeyedItems.{items_picked}
use Rattle.dh_control.specs.StateWires.{AreStands, StandsMade, blocks_active, waits_shown}
use Rattle.dh_control.proofs.GatheredItems.{picked_here, picked_past}
use Rattle.dh_control.proofs.ListFacts.{all_same}

-- One state more.

stands_stay : (d e : PlainCircuit) (state first : ℕ) (bs : List ℕ) (ks : List (Keyed ℕ)) → Grows d e → AreStands d state first bs ks → AreStands e state first bs ks
stands_stay d e state first [] [] g h = tt
stands_stay d e state first [] (k ∷ ks) g h = h
stands_stay d e state first (b ∷ bs) [] g h = h
stands_stay d e state first (b ∷ bs) (k ∷ ks) g h = ((h.0.0, shows_later d e k.item 1 (match_shown state first) g h.0.1), stands_stay d e state (suc first) bs ks g h.1)

pub stands_later : (d e : PlainCircuit) (state first : ℕ) (bs : List ℕ) (ks : List (Keyed ℕ)) → Grows d e → AreStands d state first bs ks → AreStands e state first bs ks
stands_later = stands_stay

stands_snoc : (d : PlainCircuit) (state first : ℕ) (bs : List ℕ) (ks : List (Keyed ℕ)) (b : ℕ) (k : Keyed ℕ) (n : ℕ) → n ≡ first + length bs → k.key ≡ b → Shows d k.item 1 (match_shown state n)
    → AreStands d state first bs ks → AreStands d state first (bs ++ b ∷ []) (ks ++ k ∷ [])
stands_snoc d state first [] [] b k n is same shows h =
    let here : n ≡ first = omega (arith, is) in
    ((same, subst (λ (m : ℕ). Shows d k.item 1 (match_shown state m)) here shows), tt)
stands_snoc d state first [] (l ∷ ks) b k n is same shows h = absurd h
stands_snoc d state first (c ∷ bs) [] b k n is same shows h = absurd h
stands_snoc d state first (c ∷ bs) (l ∷ ks) b k n is same shows h = (h.0, stands_snoc d state (suc first) bs ks b k n (omega (arith, is)) same shows h.1)

-- the states before a number have their wires
pub record StandsSoFar (old now : PlainCircuit) (state : ℕ) (states : List State) (count : ℕ) (stands : List (Keyed ℕ)) : Type 0 where
  pub grows : Grows old now
  pub stands_are : AreStands now state 0 (map (λ s. s.block) (take count states)) stands

pub no_stands : (d : PlainCircuit) (state : ℕ) (states : List State) → StandsSoFar d d state states 0 []
no_stands d state states = record { grows = grows_none d; stands_are = tt }

take_long : {A : Type 0} (n : ℕ) (xs : List A) → n ≤ length xs → length (take n xs) ≡ n
take_long zero xs h = refl
take_long (suc n) [] h = absurd (omega (arith, h))
take_long (suc n) (x ∷ xs) h = ap suc (take_long n xs (omega (arith, h)))

mapped_long : {A B : Type 0} (f : A → B) (xs : List A) → length (map f xs) ≡ length xs
mapped_long f [] = refl
mapped_long f (x ∷ xs) = ap suc (mapped_long f xs)

pub next_stand : (old now new : PlainCircuit) (state : ℕ) (states : List State) (count item : ℕ) (s : State) (stands more : List (Keyed ℕ)) → count < length states → s ≡ get_or states count s
    → StandsSoFar old now state states count stands → Adds now new item 1 (match_shown state count) → more ≡ stands ++ record { key = (get_or states count s).block; item = item } ∷ []
    → StandsSoFar old new state states (count + 1) more
next_stand old now new state states count item s stands more less is h a made = let put = made ∙ ap (λ (y : State). stands ++ record { key = y.block; item = item } ∷ []) (sym is) in record {
  grows = grows_then old now new h.grows a.grows;
  stands_are =
      let next : take (count + 1) states ≡ take count states ++ s ∷ [] = take_more states count s less ∙ ap (λ (y : State). take count states ++ y ∷ []) (sym is) in
      let blocks : map (λ s. s.block) (take (count + 1) states) ≡ map (λ s. s.block) (take count states) ++ s.block ∷ [] = ap (λ l. map (λ s. s.block) l) next ∙ map-append (λ s. s.block) (take count states) (s ∷ []) in
      let long = mapped_long (λ s. s.block) (take count states) in
      let counted = take_long count states (omega (arith, less)) in
      subst (λ (l : List (Keyed ℕ)). AreStands new state 0 (map (λ s. s.block) (take (count + 1) states)) l) (sym put)
      (subst (λ (l : List ℕ). AreStands new state 0 l (stands ++ record { key = s.block; item = item } ∷ [])) (sym blocks)
      (stands_snoc new state 0 (map (λ s. s.block) (take count states)) stands s.block (record { key = s.block; item = item }) count (omega (arith, long, counted)) refl a.shows
      (stands_stay now new state 0 (map (λ s. s.block) (take count states)) stands a.grows h.stands_are)));
}

take_whole : {A : Type 0} (n : ℕ) (xs : List A) → length xs ≤ n → take n xs ≡ xs
take_whole zero [] less = refl
take_whole (suc n) [] less = refl
take_whole zero (x ∷ xs) less = absurd (omega (arith, less))
take_whole (suc n) (x ∷ xs) less = ap (λ l. x ∷ l) (take_whole n xs (omega (arith, less)))

pub all_stands : (old new : PlainCircuit) (state : ℕ) (states : List State) (count : ℕ) (stands : List (Keyed ℕ)) → length states ≤ count → StandsSoFar old new state states count stands
    → StandsMade old new state (map (λ s. s.block) states) stands
all_stands old new state states count stands all h = record {
  grows = h.grows;
  stands_are = subst (λ (l : List State). AreStands new state 0 (map (λ s. s.block) l) stands) (take_whole count states all) h.stands_are;
}

-- the wires of a block's states
abbrev pub AreBits : PlainCircuit → List (Keyed ℕ) → Type 0
AreBits d ks = AllByRecursion (λ k. IsWire d k.item 1) ks

pub stands_bits : (d : PlainCircuit) (state first : ℕ) (bs : List ℕ) (ks : List (Keyed ℕ)) → AreStands d state first bs ks → AreBits d ks
stands_bits d state first [] [] h = tt
stands_bits d state first [] (k ∷ ks) h = absurd h
stands_bits d state first (b ∷ bs) [] h = tt
stands_bits d state first (b ∷ bs) (k ∷ ks) h = (h.0.1.there, stands_bits d state (suc first) bs ks h.1)

bits_picked : (d : PlainCircuit) (ks : List (Keyed ℕ)) (block : ℕ) → AreBits d ks → AreWires d (items_picked block ks) 1
bits_picked d [] block h = tt
bits_picked d (k ∷ ks) block h =
    elim (cases_eq k.key block) [
      | inl same ↦ subst (λ (l : List ℕ). AreWires d l 1) (sym (picked_here block k ks same)) (h.0, bits_picked d ks block h.1)
      | inr other ↦ subst (λ (l : List ℕ). AreWires d l 1) (sym (picked_past block k ks other)) (bits_picked d ks block h.1)
    ]

pub picked_wires : (d e : PlainCircuit) (ks : List (Keyed ℕ)) (block : ℕ) → Grows d e → AreBits d ks → AreWires e (items_picked block ks) 1
picked_wires d e ks block g h = bits_picked e ks block (all_same (λ k. IsWire d k.item 1) (λ k. IsWire e k.item 1) ks (λ k a. wire_stays d e k.item 1 g a) h)

-- What the wires of states tell.

same_test : (a b : ℕ) → a ≡ b → (a == b) ≡ true
same_test a b e = grind (arith, e, nat_tests)

other_test : (a b : ℕ) → (a ≡ b → ⊥) → (a == b) ≡ false
other_test a b n = grind (arith, n, nat_tests)

module _ (d : PlainCircuit) (x : Signals) (settled : IsSettled d x) (state block : ℕ) where
  stand_is : (k : Keyed ℕ) (first : ℕ) → Shows d k.item 1 (match_shown state first) → is_one x k.item ≡ (shown x state == first)
  stand_is k first h = bit_tells (shown x k.item) (shown x state == first) (h.is x settled)

  -- behind the state where the graph stands none is active
  none_behind : (first : ℕ) (bs : List ℕ) (ks : List (Keyed ℕ)) → shown x state < first → AreStands d state first bs ks → any_one x (items_picked block ks) ≡ false
  none_behind first [] [] less h = refl
  none_behind first [] (k ∷ ks) less h = absurd h
  none_behind first (b ∷ bs) [] less h = refl
  none_behind first (b ∷ bs) (k ∷ ks) less h =
      let rest = none_behind (suc first) bs ks (omega (arith, less)) h.1 in
      let off : is_one x k.item ≡ false = stand_is k first h.0.1 ∙ other_test (shown x state) first (λ e. let f : ⊥ = omega (arith, e, less) in f) in
      elim (cases_eq k.key block) [
        | inl same ↦ ap (λ l. any_one x l) (picked_here block k ks same) ∙ ((λ i. off i || rest i))
        | inr other ↦ ap (λ l. any_one x l) (picked_past block k ks other) ∙ rest
      ]

  pub stands_tell : (first n : ℕ) (bs : List ℕ) (ks : List (Keyed ℕ)) → shown x state ≡ first + n → AreStands d state first bs ks
      → any_one x (items_picked block ks) ≡ is_among block (blocks_active bs n)
  stands_tell first n [] [] at h = refl
  stands_tell first n [] (k ∷ ks) at h = absurd h
  stands_tell first n (b ∷ bs) [] at h = absurd h
  stands_tell first zero (b ∷ bs) (k ∷ ks) at h =
      let rest = none_behind (suc first) bs ks (omega (arith, at)) h.1 in
      let on : is_one x k.item ≡ true = stand_is k first h.0.1 ∙ same_test (shown x state) first (omega (arith, at)) in
      elim (cases_eq k.key block) [
        | inl same ↦
            ap (λ l. any_one x l) (picked_here block k ks same) ∙ ((λ i. on i || any_one x (items_picked block ks))
            ∙ sym (ap (λ t. t || false) (same_test block b (sym same ∙ h.0.0))))
        | inr other ↦
            ap (λ l. any_one x l) (picked_past block k ks other) ∙ (rest
            ∙ sym (ap (λ t. t || false) (other_test block b (λ e. other (h.0.0 ∙ sym e)))))
      ]
  stands_tell first (suc n) (b ∷ bs) (k ∷ ks) at h =
      let rest = stands_tell (suc first) n bs ks (omega (arith, at)) h.1 in
      let off : is_one x k.item ≡ false = stand_is k first h.0.1 ∙ other_test (shown x state) first (λ e. let f : ⊥ = omega (arith, e, at) in f) in
      elim (cases_eq k.key block) [
        | inl same ↦ ap (λ l. any_one x l) (picked_here block k ks same) ∙ ((λ i. off i || any_one x (items_picked block ks)) ∙ rest)
        | inr other ↦ ap (λ l. any_one x l) (picked_past block k ks other) ∙ rest
      ]

-- A block that waits.

last_clock : (n len : ℕ) → 1 ≤ len → nat_lt n (len - 1) ≡ nat_lt (n + 1) len
last_clock n len some = grind (arith, some, nat_tests)

pub less_next : (d : PlainCircuit) (a b w : ℕ) → IsWire d a w → IsWire d b w → IsNext d 1 (LtU a b)
less_next d a b w p q =
    let both = sum_next d a b w p q in
    record { least = (let n : 1 ≤ 1 = omega arith in n); greatest = (let n : 1 ≤ 64 = omega arith in n); fits = (refl, (w, both.fits)); shifts = tt }

pub wait_made : (d e f g : PlainCircuit) (width clock active len last earlier wire : ℕ) → 1 ≤ len → Adds d e last width (number_shown (len - 1)) → Adds e f earlier 1 (form_shown e 1 (LtU clock last))
    → Adds f g wire 1 (both_shown active earlier) → Adds d g wire 1 (waits_shown clock active len)
wait_made d e f g width clock active len last earlier wire some a b c =
    adds_behind d f g wire 1 (both_shown active earlier) (waits_shown clock active len) (grows_then d e f a.grows b.grows) c
    (λ x s.
    let less : is_one x earlier ≡ nat_lt (shown x clock) (shown x last) = bit_tells (shown x earlier) (nat_lt (shown x clock) (shown x last)) (b.shows.is x s) in
    let last_is = a.shows.is x (settled_fewer e f x b.grows s) in
    ap (λ t. bit (is_one x active && t)) (less ∙ (ap (λ n. nat_lt (shown x clock) n) last_is ∙ last_clock (shown x clock) len some)))

pub wires_at : (d : PlainCircuit) (wires : List ℕ) (width i : ℕ) → AreWires d wires width → i < length wires → IsWire d (slice_index wires i) width
wires_at d [] width i h less = absurd (omega (arith, less))
wires_at d (w ∷ ws) width zero h less = h.0
wires_at d (w ∷ ws) width (suc i) h less = wires_at d ws width i h.1 (omega (arith, less))

pub wires_from : (d : PlainCircuit) (width : ℕ) (wires : List ℕ) → ((i : ℕ) → i < length wires → IsWire d (slice_index wires i) width) → AreWires d wires width
wires_from d width [] h = tt
wires_from d width (w ∷ ws) h = (h zero (omega arith), wires_from d width ws (λ i less. h (suc i) (omega (arith, less))))
