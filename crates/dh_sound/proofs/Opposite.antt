-- Two accesses of one Straight phase that never meet stand in opposite arms of one `if`, in no unrolled loop. By
-- induction on the command. A Straight phase has commands of one side of a `---` only, and of a `while` those of
-- its body only; so the two stand in parts that may meet, or in one part, or the whole `if` is a straight command
-- of the phase. What is joined or folded of parts has no more commands of one part in one phase than the part
-- itself has; for the accesses of a part are made by no command of another.
use Rattle.std.proofs.Common.{◌≡◌, ℕ, zero, suc, ◌+◌, ◌<◌, ◌≤◌, ◌==◌, ◌&&◌, ◌||◌, nat_lt, ◌⊎◌, inl, inr, Bool, true, false, if◌then◌else◌, List, [], ◌∷◌, ◌++◌, Some, slice_get, refl, sym, ◌∙◌, ap, subst, arith}
use Rattle.dh_base.specs.declared.places.Place.{Place}
use Rattle.dh_tree.specs.Meets.{Meets, nothing, access, all, one, In, Apart}
use Rattle.dh_tree.specs.PlainTrees.{Term, Action, action, ActionForm, lets, lets_memory, views, assigns, stores, reduces, calls, blocks, decides, repeats, counts, MaybeAction, no_action, one_action, Actions, no_actions, action_then, Groups, no_groups, group_then, Program}
use Rattle.dh_tree.specs.declared.trees.counters.Counter.{Counter}
use Rattle.dh_meaning.specs.AccessNumbers.{term_accesses, accesses_of, other_accesses, part_accesses, groups_accesses}
use Rattle.dh_meaning.specs.Sites.{Arm, Around, nothing_around, in_arm, in_loop, loop_of}
use Rattle.dh_meaning.specs.Phases.{Located, Phase, straight, turns, repeated, decided, of_list, one_straight, joined, are_straight, one_command, folded, turn_phases, choice_phases, located, phases, form_phases, other_phases, groups_phases, parts_phases, phases_of}
use Rattle.dh_meaning.specs.OnePhase.{is_between, makes, other_makes, any_makes}
use Rattle.dh_meets.specs.SourceEvents.{SourceAccess, SourceEvent, accesses_in, source_term_events, site_of, events, other_events, groups_events, part_events, trace}
use Rattle.dh_meets.specs.MayMeet.{row_of_accesses, arms_meet, meets, command_meets, other_meets, groups_meet, part_meets, meets_in}
use Rattle.dh_sound.specs.PhaseFacts.{HasStraightIn, HaveStraight, HasStraight, HasArm, arm_of, InOppositeArms}
use Rattle.dh_sound.proofs.EventCounts.{count_in, count_joined, term_counted, events_counted, other_counted, groups_counted, part_counted}
use Rattle.dh_sound.proofs.Slices.{straight_either}
use Rattle.dh_sound.proofs.Sums.{Within, arms_in, row_within, meets_within, other_within, groups_within, part_within}
use Rattle.dh_sound.proofs.Times as time
use Rattle.dh_sound.proofs.Times.{bit, made, times, times_parts, span, span_one, span_joined, span_outside, times_joined, times_part, times_folded, times_straight, times_within}
use Rattle.dh_sound.proofs.SamePhase.{either, two, bit_true, straight_times}
use Rattle.dh_sound.proofs.Sited.{At, at_left, at_right, at_slice, arms_kept, other_kept, made_loops, within_span, within_times, makes_within, other_makes_within}

-- two numbers that never meet both stand in the tree
pub apart_first : (t : Meets) (j k : ℕ) → Apart t j k → In j t
apart_first nothing j k h = elim h [ ]
apart_first (access c) j k h = elim h [ ]
apart_first (all l r) j k (inl h) = inl (apart_first l j k h)
apart_first (all l r) j k (inr h) = inr (apart_first r j k h)
apart_first (one l r) j k (inl (inl h)) = inl h.0
apart_first (one l r) j k (inl (inr h)) = inr h.0
apart_first (one l r) j k (inr (inl h)) = inl (apart_first l j k h)
apart_first (one l r) j k (inr (inr h)) = inr (apart_first r j k h)

pub apart_second : (t : Meets) (j k : ℕ) → Apart t j k → In k t
apart_second nothing j k h = elim h [ ]
apart_second (access c) j k h = elim h [ ]
apart_second (all l r) j k (inl h) = inl (apart_second l j k h)
apart_second (all l r) j k (inr h) = inr (apart_second r j k h)
apart_second (one l r) j k (inl (inl h)) = inr h.1
apart_second (one l r) j k (inl (inr h)) = inl h.1
apart_second (one l r) j k (inr (inl h)) = inl (apart_second l j k h)
apart_second (one l r) j k (inr (inr h)) = inr (apart_second r j k h)

-- any two accesses of one expression may meet
pub row_apart : (n count j k : ℕ) → Apart (row_of_accesses n count) j k → ⊥
row_apart n zero j k h = h
row_apart n (suc count) j k (inl h) = h
row_apart n (suc count) j k (inr h) = row_apart (suc n) count j k h

any_made : (k : ℕ) (cs : List Located) → 1 ≤ made k cs → any_makes k cs ≡ true
any_made k [] h = let none : ⊥ = omega (arith, h) in elim none [ ]
any_made k (c ∷ cs) h = by (makes k c.first c.command) h (any_made k cs)
  where
    by : (b : Bool) → 1 ≤ bit b + made k cs → (1 ≤ made k cs → any_makes k cs ≡ true) → (b || any_makes k cs) ≡ true
    by true l more = refl
    by false l more = more (omega (arith, l))

straight_split : (ps qs : List Phase) (cs : List Located) → HasStraight (ps ++ qs) cs → HasStraight ps cs ⊎ HasStraight qs cs
straight_split [] qs cs h = inr h
straight_split (p ∷ ps) qs cs (inl h) = inl (inl h)
straight_split (p ∷ ps) qs cs (inr h) = side (straight_split ps qs cs h)
  where
    side : HasStraight ps cs ⊎ HasStraight qs cs → (HasStraightIn p cs ⊎ HasStraight ps cs) ⊎ HasStraight qs cs
    side (inl g) = inl (inr g)
    side (inr g) = inr g

straight_unlisted : (ps : List Phase) (cs : List Located) → HaveStraight (of_list ps) cs → HasStraight ps cs
straight_unlisted [] cs h = h
straight_unlisted (p ∷ ps) cs (inl h) = inl h
straight_unlisted (p ∷ ps) cs (inr h) = inr (straight_unlisted ps cs h)

outside_none : (k n c x y : ℕ) → x + y ≤ span k n c → (k < n) ⊎ (n + c ≤ k) → x ≡ 0
outside_none k n c x y h o = let z = span_outside k n c o in omega (arith, h, z)

plus_none : (x s : ℕ) → x ≤ s → x + 0 ≤ s
plus_none x s h = omega (arith, h)

module _ (j k : ℕ) where
  -- a Straight phase has the accesses of both numbers
  pub record HasBoth (ps : List Phase) : Type 0 where
    pub commands : List Located
    pub has : HasStraight ps commands
    pub first : any_makes j commands ≡ true
    pub second : any_makes k commands ≡ true

  with_both : (ps qs : List Phase) (b : HasBoth ps) → HasStraight qs b.commands → HasBoth qs
  with_both ps qs b h = record { commands = b.commands; has = h; first = b.first; second = b.second }

  first_times : (ps : List Phase) → HasBoth ps → 1 ≤ times j ps
  first_times ps b = straight_times j ps b.commands b.has b.first

  second_times : (ps : List Phase) → HasBoth ps → 1 ≤ times k ps
  second_times ps b = straight_times k ps b.commands b.has b.second

  one_has : (cs : List Located) → 1 ≤ made j cs → 1 ≤ made k cs → HasBoth (straight cs ∷ [])
  one_has cs f g = record { commands = cs; has = inl refl; first = any_made j cs f; second = any_made k cs g }

  unmade : (ps : List Phase) (C : Type 0) → times j ps ≡ 0 → HasBoth ps → C
  unmade ps C z b = let t = first_times ps b in let none : ⊥ = omega (arith, z, t) in elim none [ ]

  either_has : (ps qs : List Phase) → HasBoth (ps ++ qs) → HasBoth ps ⊎ HasBoth qs
  either_has ps qs b = elim (straight_split ps qs b.commands b.has) [ inl h ↦ inl (with_both (ps ++ qs) ps b h) | inr h ↦ inr (with_both (ps ++ qs) qs b h) ]

  straight_has : (ps : List Phase) → are_straight ps ≡ true → 1 ≤ times j ps → 1 ≤ times k ps → HasBoth ps
  straight_has [] s f g = let none : ⊥ = omega (arith, f) in elim none [ ]
  straight_has (straight cs ∷ []) s f g = one_has cs (omega (arith, f)) (omega (arith, g))
  straight_has (turns loop count body ∷ []) s f g = cc
  straight_has (repeated loop body ∷ []) s f g = cc
  straight_has (decided choice chosen other ∷ []) s f g = cc
  straight_has (p ∷ q ∷ ps) s f g = cc

  -- Of what is joined of parts, the first part has it where no other makes them, ..
  middle_first : (cs : List Located) (p rest : List Phase) → made j cs ≡ 0 → times j rest ≡ 0 → HasBoth (one_straight cs ++ (p ++ rest)) → HasBoth p
  middle_first cs p rest y z b =
      elim (either_has (one_straight cs) (p ++ rest) b) [
        | inl h ↦ unmade (one_straight cs) (HasBoth p) (times_straight j cs ∙ y) h
        | inr h ↦ elim (either_has p rest h) [ inl g ↦ g | inr g ↦ unmade rest (HasBoth p) z g ]
      ]

  joined_first : (cs : List Located) (p : List Phase) (parts : List (List Phase)) → made j cs ≡ 0 → made k cs ≡ 0 → times_parts j parts ≡ 0 → times_parts k parts ≡ 0
      → HasBoth (joined cs (p ∷ parts)) → HasBoth p
  joined_first cs [] parts x y z w b = let t = times_part j cs parts in unmade (joined cs parts) (HasBoth []) (omega (arith, t, x, z)) b
  joined_first cs (straight ds ∷ []) parts x y z w b =
      let f = first_times (joined (cs ++ ds) parts) b in
      let g = second_times (joined (cs ++ ds) parts) b in
      let t = times_part j (cs ++ ds) parts in
      let u = times_part k (cs ++ ds) parts in
      let v = time.made_joined j cs ds in
      let s = time.made_joined k cs ds in
      one_has ds (omega (arith, x, z, f, t, v)) (omega (arith, y, w, g, u, s))
  joined_first cs (turns loop count body ∷ []) parts x y z w b = let t = times_part j [] parts in middle_first cs (turns loop count body ∷ []) (joined [] parts) x (omega (arith, t, z)) b
  joined_first cs (repeated loop body ∷ []) parts x y z w b = let t = times_part j [] parts in middle_first cs (repeated loop body ∷ []) (joined [] parts) x (omega (arith, t, z)) b
  joined_first cs (decided choice chosen other ∷ []) parts x y z w b = let t = times_part j [] parts in middle_first cs (decided choice chosen other ∷ []) (joined [] parts) x (omega (arith, t, z)) b
  joined_first cs (p ∷ q ∷ ps) parts x y z w b = let t = times_part j [] parts in middle_first cs (p ∷ q ∷ ps) (joined [] parts) x (omega (arith, t, z)) b

  -- .. and the others have it where the first does not make them
  pub record HasRest (parts : List (List Phase)) : Type 0 where
    pub behind : List Located
    pub first_none : made j behind ≡ 0
    pub second_none : made k behind ≡ 0
    pub both : HasBoth (joined behind parts)

  middle_rest : (cs : List Located) (p : List Phase) (parts : List (List Phase)) → made j cs ≡ 0 → times j p ≡ 0 → HasBoth (one_straight cs ++ (p ++ joined [] parts)) → HasRest parts
  middle_rest cs p parts y z b =
      elim (either_has (one_straight cs) (p ++ joined [] parts) b) [
        | inl h ↦ unmade (one_straight cs) (HasRest parts) (times_straight j cs ∙ y) h
        | inr h ↦ elim (either_has p (joined [] parts) h) [ inl g ↦ unmade p (HasRest parts) z g | inr g ↦ record { behind = []; first_none = refl; second_none = refl; both = g } ]
      ]

  joined_rest : (cs : List Located) (p : List Phase) (parts : List (List Phase)) → made j cs ≡ 0 → made k cs ≡ 0 → times j p ≡ 0 → times k p ≡ 0
      → HasBoth (joined cs (p ∷ parts)) → HasRest parts
  joined_rest cs [] parts x y z w b = record { behind = cs; first_none = x; second_none = y; both = b }
  joined_rest cs (straight ds ∷ []) parts x y z w b =
      let v = time.made_joined j cs ds in
      let s = time.made_joined k cs ds in
      record { behind = cs ++ ds; first_none = omega (arith, x, z, v); second_none = omega (arith, y, w, s); both = b }
  joined_rest cs (turns loop count body ∷ []) parts x y z w b = middle_rest cs (turns loop count body ∷ []) parts x z b
  joined_rest cs (repeated loop body ∷ []) parts x y z w b = middle_rest cs (repeated loop body ∷ []) parts x z b
  joined_rest cs (decided choice chosen other ∷ []) parts x y z w b = middle_rest cs (decided choice chosen other ∷ []) parts x z b
  joined_rest cs (p ∷ q ∷ ps) parts x y z w b = middle_rest cs (p ∷ q ∷ ps) parts x z b

  -- The same of what is folded.
  one_first : (p : Phase) (fold : List Phase) → times j fold ≡ 0 → HasBoth (p ∷ fold) → HasBoth (p ∷ [])
  one_first p fold z b = elim b.has [ inl h ↦ with_both (p ∷ fold) (p ∷ []) b (inl h) | inr h ↦ unmade fold (HasBoth (p ∷ [])) z (with_both (p ∷ fold) fold b h) ]

  one_second : (p : Phase) (fold : List Phase) → times j (p ∷ []) ≡ 0 → HasBoth (p ∷ fold) → HasBoth fold
  one_second p fold z b = elim b.has [ inl h ↦ unmade (p ∷ []) (HasBoth fold) z (with_both (p ∷ fold) (p ∷ []) b (inl h)) | inr h ↦ with_both (p ∷ fold) fold b h ]

  folded_first : (body fold : List Phase) → times j fold ≡ 0 → times k fold ≡ 0 → HasBoth (folded body fold) → HasBoth body
  folded_first [] fold z w b = unmade fold (HasBoth []) z b
  folded_first (straight cs ∷ []) fold z w b =
      let f = first_times (joined cs (fold ∷ [])) b in
      let g = second_times (joined cs (fold ∷ [])) b in
      let t = times_part j cs (fold ∷ []) in
      let u = times_part k cs (fold ∷ []) in
      one_has cs (omega (arith, f, t, z)) (omega (arith, g, u, w))
  folded_first (turns loop count body ∷ []) fold z w b = one_first (turns loop count body) fold z b
  folded_first (repeated loop body ∷ []) fold z w b = one_first (repeated loop body) fold z b
  folded_first (decided choice chosen other ∷ []) fold z w b = one_first (decided choice chosen other) fold z b
  folded_first (p ∷ q ∷ ps) fold z w b = by b.has (folded_first (q ∷ ps) fold z w)
    where
      by : HasStraightIn p b.commands ⊎ HasStraight (folded (q ∷ ps) fold) b.commands → (HasBoth (folded (q ∷ ps) fold) → HasBoth (q ∷ ps)) → HasBoth (p ∷ q ∷ ps)
      by (inl h) more = with_both (p ∷ folded (q ∷ ps) fold) (p ∷ q ∷ ps) b (inl h)
      by (inr h) more = let m = more (with_both (p ∷ folded (q ∷ ps) fold) (folded (q ∷ ps) fold) b h) in with_both (q ∷ ps) (p ∷ q ∷ ps) m (inr m.has)

  folded_second : (body fold : List Phase) → times j body ≡ 0 → times k body ≡ 0 → HasBoth (folded body fold) → HasBoth fold
  folded_second [] fold z w b = b
  folded_second (straight cs ∷ []) fold z w b = joined_first cs fold [] (omega (arith, z)) (omega (arith, w)) refl refl b
  folded_second (turns loop count body ∷ []) fold z w b = one_second (turns loop count body) fold z b
  folded_second (repeated loop body ∷ []) fold z w b = one_second (repeated loop body) fold z b
  folded_second (decided choice chosen other ∷ []) fold z w b = one_second (decided choice chosen other) fold z b
  folded_second (p ∷ q ∷ ps) fold z w b = by b.has (folded_second (q ∷ ps) fold (omega (arith, z)) (omega (arith, w)))
    where
      by : HasStraightIn p b.commands ⊎ HasStraight (folded (q ∷ ps) fold) b.commands → (HasBoth (folded (q ∷ ps) fold) → HasBoth fold) → HasBoth fold
      by (inl h) more = unmade (p ∷ []) (HasBoth fold) (omega (arith, z)) (with_both (p ∷ folded (q ∷ ps) fold) (p ∷ []) b (inl h))
      by (inr h) more = more (with_both (p ∷ folded (q ∷ ps) fold) (folded (q ∷ ps) fold) b h)

  turn_has : (loop : Located) (count : ℕ) (turn : List Phase) → HasBoth (turn_phases loop count turn) → HasBoth turn
  turn_has loop count [] b = b
  turn_has loop count (p ∷ ps) b = by (count == 0) b
    where
      by : (c : Bool) → HasBoth (if c then [] else turns loop count (of_list (p ∷ ps)) ∷ []) → HasBoth (p ∷ ps)
      by true h = elim h.has [ ]
      by false h = elim h.has [ inl g ↦ with_both _ (p ∷ ps) h (straight_unlisted (p ∷ ps) h.commands g) | inr g ↦ elim g [ ] ]

  -- Two accesses of one phase that never meet are in opposite arms.
  abbrev Tells : List Phase → Meets → (n : ℕ) → List SourceEvent → Type 0
  Tells ps t n es = HasBoth ps → Apart t j k → (a b : SourceAccess) → At n j es a → At n k es b → InOppositeArms a b

  -- what is known of a part of a command: its phases, what may meet in it, its numbers and its events
  pub record Part (ps : List Phase) (t : Meets) (n c : ℕ) (es : List SourceEvent) : Type 0 where
    pub made_within : (i : ℕ) → times i ps ≤ span i n c
    pub stands : (i : ℕ) → In i t → Within i n c
    pub long : count_in es ≡ c
    pub told : Tells ps t n es

  -- two numbers that never meet in a whole stand in different parts of it, or never meet in a part
  abbrev Splits : (l r t : Meets) → Type 0
  Splits l r t = Apart t j k → ((In j l × In k r) ⊎ (In j r × In k l)) ⊎ (Apart l j k ⊎ Apart r j k)

  all_splits : (l r : Meets) → Splits l r (all l r)
  all_splits l r h = inr h

  one_splits : (l r : Meets) → Splits l r (one l r)
  one_splits l r h = h

  arms_split : (u : Bool) (l r : Meets) → Splits l r (arms_meet u l r)
  arms_split true l r h = inr h
  arms_split false l r h = h

  within_made : (i n c x : ℕ) → x ≤ span i n c → 1 ≤ x → Within i n c
  within_made i n c x h l = within_times i n c x 0 (omega (arith, h)) l

  apart_numbers : (i n x y : ℕ) (C : Type 0) → Within i n x → Within i (n + x) y → C
  apart_numbers i n x y C v w = let l = v.1 in let g = w.0 in let none : ⊥ = omega (arith, l, g) in elim none [ ]

  module _ (ps qs : List Phase) (l r t : Meets) (n x y : ℕ) (es fs : List SourceEvent) (p : Part ps l n x es) (q : Part qs r (n + x) y fs) where
    behind_first : n + count_in es ≡ n + x
    behind_first = ap (λ m. n + m) p.long

    first_found : (i : ℕ) (a : SourceAccess) → Within i n x → At n i (es ++ fs) a → At n i es a
    first_found i a w h = at_left i a n (n + x) es fs behind_first w.1 h

    second_found : (i : ℕ) (a : SourceAccess) → Within i (n + x) y → At n i (es ++ fs) a → At (n + x) i fs a
    second_found i a w h = at_right i a n (n + x) es fs behind_first w.0 h

    in_first : HasBoth ps → (a b : SourceAccess) → At n j (es ++ fs) a → At n k (es ++ fs) b → ((In j l × In k r) ⊎ (In j r × In k l)) ⊎ (Apart l j k ⊎ Apart r j k) → InOppositeArms a b
    in_first h a b f g s = by s
      where
        wj : Within j n x
        wj = within_made j n x (times j ps) (p.made_within j) (first_times ps h)

        wk : Within k n x
        wk = within_made k n x (times k ps) (p.made_within k) (second_times ps h)

        by : ((In j l × In k r) ⊎ (In j r × In k l)) ⊎ (Apart l j k ⊎ Apart r j k) → InOppositeArms a b
        by (inl (inl c)) = apart_numbers k n x y (InOppositeArms a b) wk (q.stands k c.1)
        by (inl (inr c)) = apart_numbers j n x y (InOppositeArms a b) wj (q.stands j c.0)
        by (inr (inl c)) = p.told h c a b (first_found j a wj f) (first_found k b wk g)
        by (inr (inr c)) = apart_numbers j n x y (InOppositeArms a b) wj (q.stands j (apart_first r j k c))

    in_second : HasBoth qs → (a b : SourceAccess) → At n j (es ++ fs) a → At n k (es ++ fs) b → ((In j l × In k r) ⊎ (In j r × In k l)) ⊎ (Apart l j k ⊎ Apart r j k) → InOppositeArms a b
    in_second h a b f g s = by s
      where
        wj : Within j (n + x) y
        wj = within_made j (n + x) y (times j qs) (q.made_within j) (first_times qs h)

        wk : Within k (n + x) y
        wk = within_made k (n + x) y (times k qs) (q.made_within k) (second_times qs h)

        by : ((In j l × In k r) ⊎ (In j r × In k l)) ⊎ (Apart l j k ⊎ Apart r j k) → InOppositeArms a b
        by (inl (inl c)) = apart_numbers j n x y (InOppositeArms a b) (p.stands j c.0) wj
        by (inl (inr c)) = apart_numbers k n x y (InOppositeArms a b) (p.stands k c.1) wk
        by (inr (inl c)) = apart_numbers j n x y (InOppositeArms a b) (p.stands j (apart_first l j k c)) wj
        by (inr (inr c)) = q.told h c a b (second_found j a wj f) (second_found k b wk g)

    both_tell : Splits l r t → Tells (ps ++ qs) t n (es ++ fs)
    both_tell split h apart a b f g = elim (either_has ps qs h) [ inl d ↦ in_first d a b f g (split apart) | inr d ↦ in_second d a b f g (split apart) ]

    both_parts : Splits l r t → ((i : ℕ) → In i t → In i l ⊎ In i r) → Part (ps ++ qs) t n (x + y) (es ++ fs)
    both_parts split inside = record { made_within = sums; stands = stand; long = counted; told = both_tell split }
      where
        sums : (i : ℕ) → times i (ps ++ qs) ≤ span i n (x + y)
        sums i =
            let e = times_joined i ps qs in
            let s = span_joined i n x y in
            let f = p.made_within i in
            let g = q.made_within i in
            omega (arith, e, s, f, g)

        side : (i : ℕ) → In i l ⊎ In i r → Within i n (x + y)
        side i (inl h) = let (a, b) = p.stands i h in (a, omega (arith, b))
        side i (inr h) = let (a, b) = q.stands i h in (omega (arith, a), omega (arith, b))

        stand : (i : ℕ) → In i t → Within i n (x + y)
        stand i h = side i (inside i h)

        counted : count_in (es ++ fs) ≡ x + y
        counted = let c = count_joined es fs in let a = p.long in let b = q.long in omega (arith, c, a, b)

    -- a body and what is folded behind it
    folded_tell : Tells (folded ps qs) (all l r) n (es ++ fs)
    folded_tell h apart a b f g = by apart
      where
        by : Apart l j k ⊎ Apart r j k → InOppositeArms a b
        by (inl c) =
            let wj = p.stands j (apart_first l j k c) in
            let wk = p.stands k (apart_second l j k c) in
            let zj = outside_none j (n + x) y (times j qs) 0 (plus_none (times j qs) _ (q.made_within j)) (inl wj.1) in
            let zk = outside_none k (n + x) y (times k qs) 0 (plus_none (times k qs) _ (q.made_within k)) (inl wk.1) in
            p.told (folded_first ps qs zj zk h) c a b (first_found j a wj f) (first_found k b wk g)
        by (inr c) =
            let wj = q.stands j (apart_first r j k c) in
            let wk = q.stands k (apart_second r j k c) in
            let zj = outside_none j n x (times j ps) 0 (plus_none (times j ps) _ (p.made_within j)) (inr wj.0) in
            let zk = outside_none k n x (times k ps) 0 (plus_none (times k ps) _ (p.made_within k)) (inr wk.0) in
            q.told (folded_second ps qs zj zk h) c a b (second_found j a wj f) (second_found k b wk g)

  -- a part in front of others, all in any order
  then_tells : (ps : List Phase) (parts : List (List Phase)) (l r : Meets) (n x y : ℕ) (es fs : List SourceEvent) (cs : List Located)
      → Part ps l n x es → ((i : ℕ) → times_parts i parts ≤ span i (n + x) y) → ((i : ℕ) → In i r → Within i (n + x) y)
      → ((behind : List Located) → made j behind ≡ 0 → made k behind ≡ 0 → Tells (joined behind parts) r (n + x) fs)
      → made j cs ≡ 0 → made k cs ≡ 0 → Tells (joined cs (ps ∷ parts)) (all l r) n (es ++ fs)
  then_tells ps parts l r n x y es fs cs p sums stands more v w h apart a b f g = by apart
    where
      after : n + count_in es ≡ n + x
      after = ap (λ m. n + m) p.long

      by : Apart l j k ⊎ Apart r j k → InOppositeArms a b
      by (inl c) =
          let wj = p.stands j (apart_first l j k c) in
          let wk = p.stands k (apart_second l j k c) in
          let zj = outside_none j (n + x) y (times_parts j parts) 0 (plus_none (times_parts j parts) _ (sums j)) (inl wj.1) in
          let zk = outside_none k (n + x) y (times_parts k parts) 0 (plus_none (times_parts k parts) _ (sums k)) (inl wk.1) in
          p.told (joined_first cs ps parts v w zj zk h) c a b (at_left j a n (n + x) es fs after wj.1 f) (at_left k b n (n + x) es fs after wk.1 g)
      by (inr c) =
          let wj = stands j (apart_first r j k c) in
          let wk = stands k (apart_second r j k c) in
          let zj = outside_none j n x (times j ps) 0 (plus_none (times j ps) _ (p.made_within j)) (inr wj.0) in
          let zk = outside_none k n x (times k ps) 0 (plus_none (times k ps) _ (p.made_within k)) (inr wk.0) in
          let rest = joined_rest cs ps parts v w zj zk h in
          more rest.behind rest.first_none rest.second_none rest.both c a b (at_right j a n (n + x) es fs after wj.0 f) (at_right k b n (n + x) es fs after wk.0 g)

  -- the test of an `if` or a `while`, which has no Straight phase
  test_part : (n c : ℕ) (es : List SourceEvent) → count_in es ≡ c → Part [] (row_of_accesses n c) n c es
  test_part n c es e = record { made_within = λ i. omega arith; stands = λ i h. row_within i n c h; long = e; told = λ h apart a b f g. elim h.has [ ] }

  decided_has : (choice : Located) (ps qs : List Phase) → HasBoth (decided choice (of_list ps) (of_list qs) ∷ []) → HasBoth (ps ++ qs)
  decided_has choice ps qs b = by b.has
    where
      by : (HaveStraight (of_list ps) b.commands ⊎ HaveStraight (of_list qs) b.commands) ⊎ ⊥ → HasBoth (ps ++ qs)
      by (inl (inl h)) = with_both _ (ps ++ qs) b (straight_either ps qs b.commands (inl (straight_unlisted ps b.commands h)))
      by (inl (inr h)) = with_both _ (ps ++ qs) b (straight_either ps qs b.commands (inr (straight_unlisted qs b.commands h)))
      by (inr h) = elim h [ ]

  repeated_has : (loop : Located) (ps : List Phase) → HasBoth (repeated loop (of_list ps) ∷ []) → HasBoth ps
  repeated_has loop ps b = elim b.has [ inl h ↦ with_both _ ps b (straight_unlisted ps b.commands h) | inr h ↦ elim h [ ] ]

  -- one command is made of itself
  one_makes : (i : ℕ) (c : Located) (cs : List Located) → HasStraight (one_command c) cs → any_makes i cs ≡ true → makes i c.first c.command ≡ true
  one_makes i c cs h e = by h
    where
      alone : any_makes i (c ∷ []) ≡ true → makes i c.first c.command ≡ true
      alone f = elim (either (makes i c.first c.command) false f) [ inl g ↦ g | inr g ↦ cc ]

      by : (c ∷ [] ≡ cs) ⊎ ⊥ → makes i c.first c.command ≡ true
      by (inl g) = alone (subst (λ (x : List Located). any_makes i x ≡ true) (sym g) e)
      by (inr g) = elim g [ ]

  last_arm : (arms : List Arm) (arm : Arm) → HasArm arm (arms ++ arm ∷ [])
  last_arm [] arm = inl refl
  last_arm (x ∷ arms) arm = inr (last_arm arms arm)

  -- an `if`, with its phases, its events, and what may meet in it
  module _ (r : Around) (u : Bool) (n id : ℕ) (place : Place) (test : Term) (arm : Action) (other : MaybeAction) (single : u ≡ false → r.loops ≡ []) where
    abbrev count : ℕ
    count = term_accesses test

    abbrev choice : Located
    choice = located r n (action id place (decides test arm other))

    abbrev chosen_events : List SourceEvent
    chosen_events = events (in_arm r id true) arm

    abbrev other_side : List SourceEvent
    other_side = other_events (in_arm r id false) other

    abbrev chosen_phases : List Phase
    chosen_phases = phases (in_arm r id true) (n + count) arm

    abbrev side_phases : List Phase
    side_phases = other_phases (in_arm r id false) (n + count + accesses_of arm) other

    abbrev chosen_meets : Meets
    chosen_meets = meets u (n + count) arm

    abbrev side_meets : Meets
    side_meets = other_meets u (n + count + accesses_of arm) other

    -- an access of an arm is made by the arm
    made_chosen : (i : ℕ) → Within i (n + count) (accesses_of arm) → makes i n choice.command ≡ true → makes i (n + count) arm ≡ true
    made_chosen i w m = by (either (is_between i n count) _ m)
      where
        by : (is_between i n count ≡ true) ⊎ ((makes i (n + count) arm || other_makes i (n + count + accesses_of arm) other) ≡ true) → makes i (n + count) arm ≡ true
        by (inl e) = apart_numbers i n count (accesses_of arm) (makes i (n + count) arm ≡ true) (within_span i n count e) w
        by (inr e) =
            elim (either (makes i (n + count) arm) _ e) [
              | inl d ↦ d
              | inr d ↦ apart_numbers i (n + count) (accesses_of arm) (other_accesses other) (makes i (n + count) arm ≡ true) w (other_makes_within i (n + count + accesses_of arm) other d)
            ]

    made_side : (i : ℕ) → Within i (n + count + accesses_of arm) (other_accesses other) → makes i n choice.command ≡ true → other_makes i (n + count + accesses_of arm) other ≡ true
    made_side i w m = by (either (is_between i n count) _ m)
      where
        by : (is_between i n count ≡ true) ⊎ ((makes i (n + count) arm || other_makes i (n + count + accesses_of arm) other) ≡ true) → other_makes i (n + count + accesses_of arm) other ≡ true
        by (inl e) =
            let v = (within_span i n count e).1 in
            let l = w.0 in
            let none : ⊥ = omega (arith, v, l) in
            elim none [ ]
        by (inr e) =
            elim (either (makes i (n + count) arm) _ e) [
              | inl d ↦ apart_numbers i (n + count) (accesses_of arm) (other_accesses other) (other_makes i (n + count + accesses_of arm) other ≡ true) (makes_within i (n + count) arm d) w
              | inr d ↦ d
            ]

    after_test : n + count_in (source_term_events (site_of r id) test) ≡ n + count
    after_test = ap (λ m. n + m) (term_counted (site_of r id) test)

    chosen_at : (i : ℕ) (a : SourceAccess) → Within i (n + count) (accesses_of arm) → At n i (source_term_events (site_of r id) test ++ (chosen_events ++ other_side)) a → At (n + count) i chosen_events a
    chosen_at i a w h =
        at_left i a (n + count) (n + count + accesses_of arm) chosen_events other_side (ap (λ m. n + count + m) (events_counted (in_arm r id true) arm)) w.1
        (at_right i a n (n + count) (source_term_events (site_of r id) test) (chosen_events ++ other_side) after_test w.0 h)

    side_at : (i : ℕ) (a : SourceAccess) → Within i (n + count + accesses_of arm) (other_accesses other) → At n i (source_term_events (site_of r id) test ++ (chosen_events ++ other_side)) a
        → At (n + count + accesses_of arm) i other_side a
    side_at i a w h =
        let l = w.0 in
        at_right i a (n + count) (n + count + accesses_of arm) chosen_events other_side (ap (λ m. n + count + m) (events_counted (in_arm r id true) arm)) w.0
        (at_right i a n (n + count) (source_term_events (site_of r id) test) (chosen_events ++ other_side) after_test (omega (arith, l)) h)

    in_chosen : (i : ℕ) (a : SourceAccess) → Within i (n + count) (accesses_of arm) → At n i (events r choice.command) a → HasArm (arm_of id true) a.site.arms
    in_chosen i a w h = arms_kept i a (arm_of id true) (in_arm r id true) (last_arm r.arms (arm_of id true)) arm (n + count) (chosen_at i a w h)

    in_side : (i : ℕ) (a : SourceAccess) → Within i (n + count + accesses_of arm) (other_accesses other) → At n i (events r choice.command) a → HasArm (arm_of id false) a.site.arms
    in_side i a w h = other_kept i a (arm_of id false) (in_arm r id false) (last_arm r.arms (arm_of id false)) other (n + count + accesses_of arm) (side_at i a w h)

    module _ (p : Part chosen_phases chosen_meets (n + count) (accesses_of arm) chosen_events) (q : Part side_phases side_meets (n + count + accesses_of arm) (other_accesses other) other_side) where
      decided_tell : HasBoth (decided choice (of_list chosen_phases) (of_list side_phases) ∷ []) → Apart (meets u n choice.command) j k
          → (a b : SourceAccess) → At n j (events r choice.command) a → At n k (events r choice.command) b → InOppositeArms a b
      decided_tell h =
          both_tell [] (chosen_phases ++ side_phases) (row_of_accesses n count) (arms_meet u chosen_meets side_meets) (all (row_of_accesses n count) (arms_meet u chosen_meets side_meets)) n count (accesses_of arm + other_accesses other)
          (source_term_events (site_of r id) test) (chosen_events ++ other_side) (test_part n count (source_term_events (site_of r id) test) (term_counted (site_of r id) test))
          (both_parts chosen_phases side_phases chosen_meets side_meets (arms_meet u chosen_meets side_meets) (n + count) (accesses_of arm) (other_accesses other) chosen_events other_side p q
          (arms_split u chosen_meets side_meets) (λ i. arms_in i u chosen_meets side_meets)) (all_splits (row_of_accesses n count) (arms_meet u chosen_meets side_meets)) (decided_has choice chosen_phases side_phases h)

      straight_tell : (are_straight chosen_phases ≡ true) × (are_straight side_phases ≡ true) → HasBoth (one_command choice) → Apart (meets u n choice.command) j k
          → (a b : SourceAccess) → At n j (events r choice.command) a → At n k (events r choice.command) b → InOppositeArms a b
      straight_tell s h apart a b f g = by apart
        where
          mj : makes j n choice.command ≡ true
          mj = one_makes j choice h.commands h.has h.first

          mk : makes k n choice.command ≡ true
          mk = one_makes k choice h.commands h.has h.second

          chosen_has : (i : ℕ) → Within i (n + count) (accesses_of arm) → makes i n choice.command ≡ true → 1 ≤ times i chosen_phases
          chosen_has i w m =
              let e = bit_true (makes i (n + count) arm) (made_chosen i w m) in
              let t = time.makes_times i (in_arm r id true) (n + count) arm in
              omega (arith, e, t)

          side_has : (i : ℕ) → Within i (n + count + accesses_of arm) (other_accesses other) → makes i n choice.command ≡ true → 1 ≤ times i side_phases
          side_has i w m =
              let e = bit_true (other_makes i (n + count + accesses_of arm) other) (made_side i w m) in
              let t = time.other_times i (in_arm r id false) (n + count + accesses_of arm) other in
              omega (arith, e, t)

          both_chosen : Apart chosen_meets j k → InOppositeArms a b
          both_chosen c =
              let wj = p.stands j (apart_first chosen_meets j k c) in
              let wk = p.stands k (apart_second chosen_meets j k c) in
              p.told (straight_has chosen_phases s.0 (chosen_has j wj mj) (chosen_has k wk mk)) c a b (chosen_at j a wj f) (chosen_at k b wk g)

          both_side : Apart side_meets j k → InOppositeArms a b
          both_side c =
              let wj = q.stands j (apart_first side_meets j k c) in
              let wk = q.stands k (apart_second side_meets j k c) in
              q.told (straight_has side_phases s.1 (side_has j wj mj) (side_has k wk mk)) c a b (side_at j a wj f) (side_at k b wk g)

          crossed : u ≡ false → (In j chosen_meets × In k side_meets) ⊎ (In j side_meets × In k chosen_meets) → InOppositeArms a b
          crossed e (inl c) = record {
            command = id;
            opposite = inl (in_chosen j a (p.stands j c.0) f, in_side k b (q.stands k c.1) g);
            single = made_loops j a r n choice.command mj f ∙ single e;
            other_single = made_loops k b r n choice.command mk g ∙ single e;
          }
          crossed e (inr c) = record {
            command = id;
            opposite = inr (in_side j a (q.stands j c.0) f, in_chosen k b (p.stands k c.1) g);
            single = made_loops j a r n choice.command mj f ∙ single e;
            other_single = made_loops k b r n choice.command mk g ∙ single e;
          }

          arms : (v : Bool) → u ≡ v → Apart (arms_meet v chosen_meets side_meets) j k → InOppositeArms a b
          arms true e (inl c) = both_chosen c
          arms true e (inr c) = both_side c
          arms false e (inl c) = crossed e c
          arms false e (inr (inl c)) = both_chosen c
          arms false e (inr (inr c)) = both_side c

          by : Apart (row_of_accesses n count) j k ⊎ Apart (arms_meet u chosen_meets side_meets) j k → InOppositeArms a b
          by (inl c) = elim (row_apart n count j k c) [ ]
          by (inr c) = arms u refl c

      choice_tell : HasBoth (choice_phases choice chosen_phases side_phases) → Apart (meets u n choice.command) j k
          → (a b : SourceAccess) → At n j (events r choice.command) a → At n k (events r choice.command) b → InOppositeArms a b
      choice_tell = by (are_straight chosen_phases && are_straight side_phases) refl
        where
          by : (c : Bool) → (are_straight chosen_phases && are_straight side_phases) ≡ c → HasBoth (if c then one_command choice else decided choice (of_list chosen_phases) (of_list side_phases) ∷ [])
              → Apart (meets u n choice.command) j k → (a b : SourceAccess) → At n j (events r choice.command) a → At n k (events r choice.command) b → InOppositeArms a b
          by true e h = straight_tell (two (are_straight chosen_phases) (are_straight side_phases) e) h
          by false e h = decided_tell h

  loop_single : (r : Around) (c : Counter) (u : Bool) → (u ≡ false → r.loops ≡ []) → (u || nat_lt 1 c.factor) ≡ false → (in_loop r c).loops ≡ []
  loop_single r c u single e = by u (nat_lt 1 c.factor) single e
    where
      by : (v b : Bool) → (v ≡ false → r.loops ≡ []) → (v || b) ≡ false → (if b then record { arms = r.arms; loops = r.loops ++ c ∷ [] } else r).loops ≡ []
      by true b s f = cc
      by false true s f = cc
      by false false s f = s refl

  command_part : (r : Around) (u : Bool) (n : ℕ) (a : Action) → Tells (phases r n a) (meets u n a) n (events r a) → Part (phases r n a) (meets u n a) n (accesses_of a) (events r a)
  command_part r u n a t = record { made_within = λ i. let w = times_within i r n a in omega (arith, w); stands = λ i h. meets_within i u n a h; long = events_counted r a; told = t }

  other_part : (r : Around) (u : Bool) (n : ℕ) (o : MaybeAction) → Tells (other_phases r n o) (other_meets u n o) n (other_events r o)
      → Part (other_phases r n o) (other_meets u n o) n (other_accesses o) (other_events r o)
  other_part r u n o t = record { made_within = λ i. let w = time.other_within i r n o in omega (arith, w); stands = λ i h. other_within i u n o h; long = other_counted r o; told = t }

  group_part : (r : Around) (u : Bool) (n : ℕ) (xs : Actions) → Tells (joined [] (parts_phases r n xs)) (part_meets u n xs) n (part_events r xs)
      → Part (joined [] (parts_phases r n xs)) (part_meets u n xs) n (part_accesses xs) (part_events r xs)
  group_part r u n xs t = record {
    made_within = λ i. let w = time.part_within i r n xs in let e = times_part i [] (parts_phases r n xs) in omega (arith, w, e);
    stands = λ i h. part_within i u n xs h;
    long = part_counted r xs;
    told = t;
  }

  groups_part : (r : Around) (u : Bool) (n : ℕ) (gs : Groups) → Tells (groups_phases r n gs) (groups_meet u n gs) n (groups_events r gs)
      → Part (groups_phases r n gs) (groups_meet u n gs) n (groups_accesses gs) (groups_events r gs)
  groups_part r u n gs t = record { made_within = λ i. let w = time.groups_within i r n gs in omega (arith, w); stands = λ i h. groups_within i u n gs h; long = groups_counted r gs; told = t }

  parts_made : (r : Around) (n : ℕ) (xs : Actions) (i : ℕ) → times_parts i (parts_phases r n xs) ≤ span i n (part_accesses xs)
  parts_made r n xs i = let w = time.part_within i r n xs in omega (arith, w)

  mutual
    pub tells : (r : Around) (u : Bool) (n : ℕ) (a : Action) → (u ≡ false → r.loops ≡ []) → Tells (phases r n a) (meets u n a) n (events r a)
    tells r u n (action id place form) single = form_tells r u n id place form single

    form_tells : (r : Around) (u : Bool) (n id : ℕ) (place : Place) (f : ActionForm) → (u ≡ false → r.loops ≡ [])
        → Tells (form_phases r n id place f) (command_meets u n f) n (events r (action id place f))
    form_tells r u n id place (lets name declared value) single h apart = elim (row_apart n _ j k apart) [ ]
    form_tells r u n id place (lets_memory name shape shape_places value) single h apart = elim apart [ ]
    form_tells r u n id place (views name parent form) single h apart = elim (row_apart n _ j k apart) [ ]
    form_tells r u n id place (assigns target value) single h apart = elim (row_apart n _ j k apart) [ ]
    form_tells r u n id place (stores target value) single h apart = elim (row_apart n _ j k apart) [ ]
    form_tells r u n id place (reduces target op value) single h apart = elim (row_apart n _ j k apart) [ ]
    form_tells r u n id place (calls function arguments) single h apart = elim apart [ ]
    form_tells r u n id place (blocks body) single h apart = groups_tell r u n body single h apart
    form_tells r u n id place (decides test arm other) single h apart =
        choice_tell r u n id place test arm other single
        (command_part (in_arm r id true) u (n + term_accesses test) arm (tells (in_arm r id true) u (n + term_accesses test) arm single))
        (other_part (in_arm r id false) u (n + term_accesses test + accesses_of arm) other (other_tells (in_arm r id false) u (n + term_accesses test + accesses_of arm) other single)) h apart
    form_tells r u n id place (repeats test body) single h apart =
        both_tell [] (phases r (n + term_accesses test) body) (row_of_accesses n (term_accesses test)) (meets u (n + term_accesses test) body) (one (row_of_accesses n (term_accesses test)) (meets u (n + term_accesses test) body))
        n (term_accesses test) (accesses_of body) (source_term_events (site_of r id) test) (events r body)
        (test_part n (term_accesses test) (source_term_events (site_of r id) test) (term_counted (site_of r id) test))
        (command_part r u (n + term_accesses test) body (tells r u (n + term_accesses test) body single))
        (one_splits (row_of_accesses n (term_accesses test)) (meets u (n + term_accesses test) body)) (repeated_has _ (phases r (n + term_accesses test) body) h) apart
    form_tells r u n id place (counts iterator declared low high factor body combine combine_place) single h apart =
        folded_tell (phases (in_loop r (loop_of iterator low high factor)) n body) (other_phases (in_loop r (loop_of iterator low high factor)) (n + accesses_of body) combine)
        (meets (u || nat_lt 1 factor.value) n body) (other_meets (u || nat_lt 1 factor.value) (n + accesses_of body) combine) nothing
        n (accesses_of body) (other_accesses combine) (events (in_loop r (loop_of iterator low high factor)) body) (other_events (in_loop r (loop_of iterator low high factor)) combine)
        (command_part (in_loop r (loop_of iterator low high factor)) (u || nat_lt 1 factor.value) n body
        (tells (in_loop r (loop_of iterator low high factor)) (u || nat_lt 1 factor.value) n body (loop_single r (loop_of iterator low high factor) u single)))
        (other_part (in_loop r (loop_of iterator low high factor)) (u || nat_lt 1 factor.value) (n + accesses_of body) combine
        (other_tells (in_loop r (loop_of iterator low high factor)) (u || nat_lt 1 factor.value) (n + accesses_of body) combine (loop_single r (loop_of iterator low high factor) u single)))
        (turn_has _ _ _ h) apart

    other_tells : (r : Around) (u : Bool) (n : ℕ) (o : MaybeAction) → (u ≡ false → r.loops ≡ []) → Tells (other_phases r n o) (other_meets u n o) n (other_events r o)
    other_tells r u n no_action single h apart = elim apart [ ]
    other_tells r u n (one_action a) single h apart = tells r u n a single h apart

    groups_tell : (r : Around) (u : Bool) (n : ℕ) (gs : Groups) → (u ≡ false → r.loops ≡ []) → Tells (groups_phases r n gs) (groups_meet u n gs) n (groups_events r gs)
    groups_tell r u n no_groups single h apart = elim apart [ ]
    groups_tell r u n (group_then part rest) single h apart =
        both_tell (joined [] (parts_phases r n part)) (groups_phases r (n + part_accesses part) rest) (part_meets u n part) (groups_meet u (n + part_accesses part) rest)
        (one (part_meets u n part) (groups_meet u (n + part_accesses part) rest)) n (part_accesses part) (groups_accesses rest) (part_events r part) (groups_events r rest)
        (group_part r u n part (part_tells r u n part [] single refl refl)) (groups_part r u (n + part_accesses part) rest (groups_tell r u (n + part_accesses part) rest single))
        (one_splits (part_meets u n part) (groups_meet u (n + part_accesses part) rest)) h apart

    part_tells : (r : Around) (u : Bool) (n : ℕ) (xs : Actions) (cs : List Located) → (u ≡ false → r.loops ≡ []) → made j cs ≡ 0 → made k cs ≡ 0
        → Tells (joined cs (parts_phases r n xs)) (part_meets u n xs) n (part_events r xs)
    part_tells r u n no_actions cs single x y h apart = elim apart [ ]
    part_tells r u n (action_then a rest) cs single x y h apart =
        then_tells (phases r n a) (parts_phases r (n + accesses_of a) rest) (meets u n a) (part_meets u (n + accesses_of a) rest) n (accesses_of a) (part_accesses rest) (events r a) (part_events r rest) cs
        (command_part r u n a (tells r u n a single)) (parts_made r (n + accesses_of a) rest) (λ i g. part_within i u (n + accesses_of a) rest g)
        (λ behind z w. part_tells r u (n + accesses_of a) rest behind single z w) x y h apart

-- Two accesses that one Straight phase of a program makes, and that never meet, stand in opposite arms of one
-- `if` that stands in no unrolled loop.
pub apart_opposite : (p : Program) (cs : List Located) (j k : ℕ)
    → HasStraight (phases_of p) cs → any_makes j cs ≡ true → any_makes k cs ≡ true → Apart (meets_in p) j k
    → (a b : SourceAccess) → slice_get (accesses_in (trace p)) j ≡ Some a → slice_get (accesses_in (trace p)) k ≡ Some b
    → InOppositeArms a b
apart_opposite p cs j k h e f apart a b g d =
    tells j k nothing_around false 0 p.body (λ u. refl) (record { commands = cs; has = h; first = e; second = f }) apart a b
    (at_slice j a 0 j (trace p) (omega arith) g) (at_slice k b 0 k (trace p) (omega arith) d)
