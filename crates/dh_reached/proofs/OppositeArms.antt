-- Two accesses of a command that stand in opposite arms of one `if` are not both done at a path. By recursion on the command
-- and on what was put down for it: in the arms of one `if` the guards exclude each other, and in different parts no arms
-- are opposite, since the numbers of commands tell them apart.
use Rattle.std.proofs.Common.{◌≡◌, ◌⊎◌, inl, inr, ⊎_elim, ℕ, zero, suc, ◌+◌, ◌-◌, ◌<◌, ◌≤◌, List, Some, None, refl, sym, ap, ◌∙◌, subst, arith, length}
use Rattle.std.specs.Prelude.{Bool as Truth, true, false, not, if◌then◌else◌, nat_lt, [], ◌∷◌, ◌++◌, slice_get, Option}
use Rattle.std.proofs.lemmas.Bool.{cases_lt}
use Rattle.std.proofs.lemmas.Bool.Decides.{nat_tests}
use Rattle.dh_base.specs.declared.places.Place.{Place}
use Rattle.dh_value.specs.Operations.{is_true}
use Rattle.dh_tree.specs.Numbers.{AreNumbered, AreNumberedGroups, IsNumbered, IsNumberedInside, IsNumberedOther, commands_in, commands_in_groups, commands_in_part}
use Rattle.dh_tree.specs.PlainTrees.{Action, action, ActionForm, lets, lets_memory, views, assigns, stores, reduces, calls, blocks, decides, repeats, counts, MaybeAction, no_action, one_action, Actions, no_actions, action_then, Groups, no_groups, group_then, ViewPlan}
use Rattle.dh_tree.specs.Seen.{terms}
use Rattle.dh_tree.specs.ViewOffsets.{offsets_of}
use Rattle.dh_meaning.specs.AccessNumbers.{accesses_of, other_accesses, plan_accesses, term_accesses}
use Rattle.dh_meaning.specs.CoreOf.{way_of}
use Rattle.dh_meaning.specs.Ways.{Hidden, hidden_in}
use Rattle.dh_meaning.specs.Sites as stood
use Rattle.dh_meaning.specs.Sites.{Arm, in_arm}
use Rattle.dh_meets.specs.SourceEvents.{SourceAccess, SourceEvent, accesses, assigned, command_events, events, groups_events, other_events, part_events, site_of, source_term_events, source_terms_events, write_events}
use Rattle.dh_expressions.specs.declared.drafts.Draft.{Draft}
use Rattle.dh_expressions.specs.declared.scenes.Around.{Around}
use Rattle.dh_expressions.specs.declared.scenes.Scene.{Scene}
use Rattle.dh_expressions.specs.Evaluated.{known_in}
use Rattle.dh_expressions.specs.Drafted.{BlockBegun, FitsStep, BlockStep, holds, word_shown}
use Rattle.dh_expressions.specs.Shown.{guard_of}
use Rattle.dh_expressions.proofs.ListPlaces.{there}
use Rattle.dh_expressions.proofs.Pushing.{begun_later, fits_before}
use Rattle.dh_formed.specs.Formed.{BlockSite}
use Rattle.dh_commands.specs.declared.buildings.Building.{Building}
use Rattle.dh_commands.specs.declared.choices.Left.{Left}
use Rattle.dh_commands.specs.LanesRun.{paths_counted}
use Rattle.dh_commands.specs.MadeCommands.{MadeActionForm, MadeActions, MadeArm, MadeCommand, MadeGroups, MadeOther}
use Rattle.dh_laid.specs.BlockSites.{action_sites, actions_sites, all_there, command_sites, groups_sites, none_there, one_site, other_sites, places_from, target_sites, term_sites, terms_sites, view_sites}
use Rattle.dh_laid.specs.LaidNumbers.{StoresReach, StoresReachForm, StoresReachGroups, StoresReachOther, StoresReachPart}
use Rattle.dh_laid.proofs.AccessesLaid.{actions_lays, arm_lays, command_lays, groups_lays, other_lays, tests_lay}
use Rattle.dh_laid.proofs.ChoicesLaid.{choices_form}
use Rattle.dh_laid.proofs.ValuesLogged.{tests_same}
use Rattle.dh_sound.specs.OneArm.{HasOneOfEach}
use Rattle.dh_sound.specs.PhaseFacts.{HasArm, arm_of}
use Rattle.dh_sound.specs.Trails.{ArmsWithin, Below, EachAccess}
use Rattle.dh_sound.proofs.EventCounts.{count_in, events_counted, part_counted, term_counted}
use Rattle.dh_sound.proofs.Sited.{At, at_left, at_right}
use Rattle.dh_sound.proofs.Sites.{StandsWithin, action_stands, each_both, groups_stand, part_stands, term_stands, terms_stand, write_stands}
use Rattle.dh_sound.proofs.Trails.{below_up}
use Rattle.dh_reached.specs.ReachedBlocks.{StandsSpread}
use Rattle.dh_reached.proofs.CommandsPut.{arm_paths, spread_arm}
use Rattle.dh_reached.proofs.GuardsIn.{EachPlace, IsGuardedIn, arm_on, arm_started, command_guarded, guards_fit}
use Rattle.dh_reached.proofs.PlacesOf.{actions_long, places_long, there_long}
use Rattle.dh_reached.proofs.TermsPut.{sites_long}

-- Arms.

pub has_either : (arm : Arm) (xs ys : List Arm) → HasArm arm (xs ++ ys) → HasArm arm xs ⊎ HasArm arm ys
has_either arm [] ys h = inr h
has_either arm (x ∷ xs) ys (inl e) = inl (inl e)
has_either arm (x ∷ xs) ys (inr h) = ⊎_elim (λ g. inl (inr g)) (λ g. inr g) (has_either arm xs ys h)

pub has_within : (lo hi id : ℕ) (side : Truth) (arms : List Arm) → ArmsWithin lo hi arms → HasArm (arm_of id side) arms → (lo ≤ id) × (id < hi)
has_within lo hi id side [] w h = absurd h
has_within lo hi id side (x ∷ arms) w (inl e) =
    let same : id ≡ x.command = ap (λ (a : Arm). a.command) e in
    let l = w.0.0 in let u = w.0.1 in
    (omega (arith, same, l), omega (arith, same, u))
has_within lo hi id side (x ∷ arms) w (inr h) = has_within lo hi id side arms w.1 h

not_twice : (side : Truth) → not (not side) ≡ side
not_twice true = refl
not_twice false = refl

single_of : (arms : List Arm) → HasOneOfEach arms → (id : ℕ) (side : Truth) → HasArm (arm_of id side) arms → HasArm (arm_of id (not side)) arms → ⊥
single_of arms o id true h k = o.single id h k
single_of arms o id false h k = o.single id k h

below_in : (m : ℕ) (side : Truth) (xs : List Arm) → Below m xs → Below (suc m) (xs ++ arm_of m side ∷ [])
below_in m side [] w = ((omega arith, omega arith), tt)
below_in m side (x ∷ xs) w = let u = w.0.1 in ((omega arith, omega (arith, u)), below_in m side xs w.1)

-- with one more arm, of a command above
once_in : (m : ℕ) (side : Truth) (xs : List Arm) → Below m xs → HasOneOfEach xs → HasOneOfEach (xs ++ arm_of m side ∷ [])
once_in m side xs w o = record { single = λ id h k. by id (has_either (arm_of id true) xs (arm_of m side ∷ []) h) (has_either (arm_of id false) xs (arm_of m side ∷ []) k) }
  where
    low : (id : ℕ) (one : Truth) → HasArm (arm_of id one) xs → (other : Truth) → HasArm (arm_of id other) (arm_of m side ∷ []) → ⊥
    low id one h other (inl e) = let same : id ≡ m = ap (λ (a : Arm). a.command) e in let l = (has_within 0 m id one xs w h).1 in omega (arith, same, l)
    low id one h other (inr none) = none

    last : (id : ℕ) → HasArm (arm_of id true) (arm_of m side ∷ []) → HasArm (arm_of id false) (arm_of m side ∷ []) → ⊥
    last id (inl e) (inl d) = let t : true ≡ side = ap (λ (a : Arm). a.first) e in let u : false ≡ side = ap (λ (a : Arm). a.first) d in cc
    last id (inl e) (inr none) = none
    last id (inr none) d = none

    by : (id : ℕ) → HasArm (arm_of id true) xs ⊎ HasArm (arm_of id true) (arm_of m side ∷ []) → HasArm (arm_of id false) xs ⊎ HasArm (arm_of id false) (arm_of m side ∷ []) → ⊥
    by id (inl h) (inl k) = o.single id h k
    by id (inl h) (inr k) = low id true h false k
    by id (inr h) (inl k) = low id false k true h
    by id (inr h) (inr k) = last id h k

-- arms of accesses in different parts are not opposite
pub arms_apart : (arms one two : List Arm) (lo hi low high : ℕ) → Below lo arms → Below low arms → HasOneOfEach arms → (hi ≤ low) ⊎ (high ≤ lo) → ArmsWithin lo hi one → ArmsWithin low high two
    → (id : ℕ) (side : Truth) → HasArm (arm_of id side) (arms ++ one) → HasArm (arm_of id (not side)) (arms ++ two) → ⊥
arms_apart arms one two lo hi low high w v o apart in_one in_two id side h k = by (has_either (arm_of id side) arms one h) (has_either (arm_of id (not side)) arms two k)
  where
    never : (lo ≤ id) × (id < hi) → (low ≤ id) × (id < high) → (hi ≤ low) ⊎ (high ≤ lo) → ⊥
    never p q (inl e) = let a = p.1 in let b = q.0 in omega (arith, a, b, e)
    never p q (inr e) = let a = p.0 in let b = q.1 in omega (arith, a, b, e)

    by : HasArm (arm_of id side) arms ⊎ HasArm (arm_of id side) one → HasArm (arm_of id (not side)) arms ⊎ HasArm (arm_of id (not side)) two → ⊥
    by (inl a) (inl b) = single_of arms o id side a b
    by (inl a) (inr b) = let l = (has_within 0 low id side arms v a).1 in let g = (has_within low high id (not side) two in_two b).0 in omega (arith, l, g)
    by (inr a) (inl b) = let l = (has_within 0 lo id (not side) arms w b).1 in let g = (has_within lo hi id side one in_one a).0 in omega (arith, l, g)
    by (inr a) (inr b) = never (has_within lo hi id side one in_one a) (has_within low high id (not side) two in_two b) apart

-- Events and places by their numbers.

pub at_each : (P : SourceAccess → Type 0) (n k : ℕ) (es : List SourceEvent) (a : SourceAccess) → EachAccess P es → At n k es a → P a
at_each P n k [] a h at = absurd at
at_each P n k (accesses b ∷ es) a h (inl e) = subst P e.1 h.0
at_each P n k (accesses b ∷ es) a h (inr at) = at_each P (suc n) k es a h.1 at
at_each P n k (assigned e ∷ es) a h at = at_each P n k es a h at

pub each_front : (P : SourceAccess → Type 0) (es fs : List SourceEvent) → EachAccess P (es ++ fs) → EachAccess P es
each_front P [] fs h = tt
each_front P (accesses b ∷ es) fs h = (h.0, each_front P es fs h.1)
each_front P (assigned e ∷ es) fs h = each_front P es fs h

pub each_back : (P : SourceAccess → Type 0) (es fs : List SourceEvent) → EachAccess P (es ++ fs) → EachAccess P fs
each_back P [] fs h = h
each_back P (accesses b ∷ es) fs h = each_back P es fs h.1
each_back P (assigned e ∷ es) fs h = each_back P es fs h

front_place : (xs ys : List (Option BlockSite)) (n : ℕ) → n < length xs → slice_get (xs ++ ys) n ≡ slice_get xs n
front_place [] ys n l = absurd (omega (arith, l))
front_place (x ∷ xs) ys zero l = refl
front_place (x ∷ xs) ys (suc n) l = front_place xs ys n (omega (arith, l))

back_place : (xs ys : List (Option BlockSite)) (n : ℕ) → length xs ≤ n → slice_get (xs ++ ys) n ≡ slice_get ys (n - length xs)
back_place [] ys n l = ap (λ k. slice_get ys k) (let e : n ≡ n - 0 = omega arith in e)
back_place (x ∷ xs) ys zero l = absurd (omega (arith, l))
back_place (x ∷ xs) ys (suc n) l = back_place xs ys n (omega (arith, l)) ∙ ap (λ k. slice_get ys k) (let e : n - length xs ≡ suc n - suc (length xs) = omega arith in e)

-- a place that is there
pub record Placed (f : ℕ) (ss : List (Option BlockSite)) (j : ℕ) (s : BlockSite) : Type 0 where
  pub from : f ≤ j
  pub at : one_site (slice_get ss (j - f)) ≡ Some s

pub placed_of : (f : ℕ) (ss : List (Option BlockSite)) (j : ℕ) (s : BlockSite) → places_from f ss j ≡ Some s → Placed f ss j s
placed_of f ss j s e = by (nat_lt j f) refl e
  where
    above : (n k : ℕ) → nat_lt n k ≡ false → k ≤ n
    above n k g = grind (arith, nat_tests)

    by : (b : Truth) → nat_lt j f ≡ b → (if b then None else one_site (slice_get ss (j - f))) ≡ Some s → Placed f ss j s
    by true g h = absurd (cc)
    by false g h = record { from = above j f g; at = h }

place_of : (f : ℕ) (ss : List (Option BlockSite)) (j : ℕ) (s : BlockSite) → Placed f ss j s → places_from f ss j ≡ Some s
place_of f ss j s h = by (nat_lt j f) (above j f h.from)
  where
    above : (n k : ℕ) → k ≤ n → nat_lt n k ≡ false
    above n k l = grind (arith, nat_tests)

    by : (b : Truth) → b ≡ false → (if b then None else one_site (slice_get ss (j - f))) ≡ Some s
    by true g = absurd (cc)
    by false g = h.at

pub place_left : (f : ℕ) (xs ys : List (Option BlockSite)) (j : ℕ) (s : BlockSite) → j < f + length xs → places_from f (xs ++ ys) j ≡ Some s → places_from f xs j ≡ Some s
place_left f xs ys j s l e =
    let h = placed_of f (xs ++ ys) j s e in
    let low = h.from in
    place_of f xs j s (record { from = low; at = sym (ap one_site (front_place xs ys (j - f) (omega (arith, l, low)))) ∙ h.at })

pub place_right : (f : ℕ) (xs ys : List (Option BlockSite)) (j : ℕ) (s : BlockSite) → f + length xs ≤ j → places_from f (xs ++ ys) j ≡ Some s → places_from (f + length xs) ys j ≡ Some s
place_right f xs ys j s l e =
    let h = placed_of f (xs ++ ys) j s e in
    let low = h.from in
    place_of (f + length xs) ys j s (record {
      from = l;
      at = ap (λ k. one_site (slice_get ys k)) (let d : j - (f + length xs) ≡ j - f - length xs = omega arith in d) ∙ (sym (ap one_site (back_place xs ys (j - f) (omega (arith, l, low)))) ∙ h.at);
    })

pub place_each : (x : BlockStep) (P : BlockSite → Type 0) (f : ℕ) (ss : List (Option BlockSite)) (j : ℕ) (s : BlockSite) → EachPlace x P ss → places_from f ss j ≡ Some s → P s
place_each x P f ss j s h e = each ss (j - f) h (placed_of f ss j s e).at
  where
    each : (ss : List (Option BlockSite)) (n : ℕ) → EachPlace x P ss → one_site (slice_get ss n) ≡ Some s → P s
    each [] n h e = absurd (cc)
    each (o ∷ ss) zero h e = h.0 s e
    each (o ∷ ss) (suc n) h e = each ss n h.1 e

-- Parts.

module _ (x : BlockStep) (paths : ℕ) where
  -- two accesses of the first list and of the second, with opposite arms, are not both done at a path
  abbrev pub Exclude : (ss : List (Option BlockSite)) → (es : List SourceEvent) → (ts : List (Option BlockSite)) → (gs : List SourceEvent) → Type 0
  Exclude ss es ts gs =
      (f g j k : ℕ) (s t : BlockSite) (a b : SourceAccess) → places_from f ss j ≡ Some s → places_from g ts k ≡ Some t → At f j es a → At g k gs b → (id : ℕ) (side : Truth) → HasArm (arm_of id side) a.site.arms
      → HasArm (arm_of id (not side)) b.site.arms → (n : ℕ) → n < paths → holds x (guard_of s.standing.guards n) → holds x (guard_of t.standing.guards n) → ⊥

  -- so two of one list
  abbrev pub Excludes : List (Option BlockSite) → List SourceEvent → Type 0
  Excludes ss es =
      (f j k : ℕ) (s t : BlockSite) (a b : SourceAccess) → places_from f ss j ≡ Some s → places_from f ss k ≡ Some t → At f j es a → At f k es b → (id : ℕ) (side : Truth) → HasArm (arm_of id side) a.site.arms
      → HasArm (arm_of id (not side)) b.site.arms → (n : ℕ) → n < paths → holds x (guard_of s.standing.guards n) → holds x (guard_of t.standing.guards n) → ⊥

  both_exclude : (xs ys : List (Option BlockSite)) (es gs : List SourceEvent) → length xs ≡ count_in es → Excludes xs es → Excludes ys gs → Exclude xs es ys gs → Excludes (xs ++ ys) (es ++ gs)
  both_exclude xs ys es gs long one two cross f j k s t a b sj sk aj ak id side ha hb n less on_s on_t = by (cases_lt j (f + length xs)) (cases_lt k (f + length xs))
    where
      here : f + count_in es ≡ f + length xs
      here = ap (λ i. f + i) (sym long)

      by : (j < f + length xs) ⊎ (f + length xs ≤ j) → (k < f + length xs) ⊎ (f + length xs ≤ k) → ⊥
      by (inl p) (inl q) =
          one f j k s t a b (place_left f xs ys j s p sj) (place_left f xs ys k t q sk) (at_left j a f (f + length xs) es gs here p aj) (at_left k b f (f + length xs) es gs here q ak) id side ha hb n less on_s on_t
      by (inl p) (inr q) =
          cross f (f + length xs) j k s t a b (place_left f xs ys j s p sj) (place_right f xs ys k t q sk) (at_left j a f (f + length xs) es gs here p aj) (at_right k b f (f + length xs) es gs here q ak) id side ha hb n less on_s on_t
      by (inr p) (inl q) =
          cross f (f + length xs) k j t s b a (place_left f xs ys k t q sk) (place_right f xs ys j s p sj) (at_left k b f (f + length xs) es gs here q ak) (at_right j a f (f + length xs) es gs here p aj) id (not side) hb
          (subst (λ (c : Truth). HasArm (arm_of id c) a.site.arms) (sym (not_twice side)) ha) n less on_t on_s
      by (inr p) (inr q) =
          two (f + length xs) j k s t a b (place_right f xs ys j s p sj) (place_right f xs ys k t q sk) (at_right j a f (f + length xs) es gs here p aj) (at_right k b f (f + length xs) es gs here q ak) id side ha hb n less on_s on_t

  -- by the numbers of commands
  module _ (r : stood.Around) (m : ℕ) (w : Below m r.arms) (o : HasOneOfEach r.arms) where
    by_numbers : (xs ys : List (Option BlockSite)) (es gs : List SourceEvent) (lo hi low high : ℕ) → m ≤ lo → m ≤ low → (hi ≤ low) ⊎ (high ≤ lo) → EachAccess (StandsWithin r lo hi) es → EachAccess (StandsWithin r low high) gs → Exclude xs es ys gs
    by_numbers xs ys es gs lo hi low high from from_two apart one two f g j k s t a b sj sk aj ak id side ha hb n less on_s on_t =
        let p = at_each (StandsWithin r lo hi) f j es a one aj in
        let q = at_each (StandsWithin r low high) g k gs b two ak in
        arms_apart r.arms p.arms q.arms lo hi low high (below_up m lo r.arms from w) (below_up m low r.arms from_two w) o apart p.within q.within id side (subst (λ (l : List Arm). HasArm (arm_of id side) l) p.arms_are ha) (subst (λ (l : List Arm). HasArm (arm_of id (not side)) l) q.arms_are hb)

    -- of accesses that stand in no further arm
    leaf : (ss : List (Option BlockSite)) (es : List SourceEvent) → EachAccess (StandsWithin r m m) es → Excludes ss es
    leaf ss es h f j k s t a b sj sk aj ak = by_numbers ss ss es es m m m m (omega arith) (omega arith) (inl (omega arith)) h h f f j k s t a b sj sk aj ak

  nothing_excludes : (es : List SourceEvent) → Excludes [] es
  nothing_excludes es f j k s t a b sj = absurd (no_place (placed_of f [] j s sj).at)
    where
      no_place : one_site (slice_get [] (j - f)) ≡ Some s → ⊥
      no_place e = cc

  idle_excludes : (n : ℕ) (es : List SourceEvent) → Excludes (none_there n) es
  idle_excludes n es f j k s t a b sj = absurd (no_place n (j - f) (placed_of f (none_there n) j s sj).at)
    where
      no_place : (n i : ℕ) → one_site (slice_get (none_there n) i) ≡ Some s → ⊥
      no_place zero i e = cc
      no_place (suc n) zero e = cc
      no_place (suc n) (suc i) e = no_place n i e

-- Whole commands.

comes_apart : (t : Truth) → t ≡ true → not t ≡ true → ⊥
comes_apart true e f = absurd (cc)
comes_apart false e f = absurd (cc)

module _ (x : BlockStep) (scene : Scene) (paths : ℕ) where
  -- in the two arms of an `if`
  arms_exclude : (chosen : Action) (other : MaybeAction) (around : Around) (tests : List ℕ) (tested after_chosen after_other : Building) (own behind next : ℕ) (lefts left : List Left)
      (c : MadeArm (MadeCommand scene chosen) around true tests tested after_chosen own behind lefts) (o : MadeOther scene other around tests after_chosen after_other behind next left)
      → StandsSpread scene around → paths_counted around ≡ paths → length tests ≡ paths_counted around → FitsStep x after_chosen.draft → FitsStep x after_other.draft → BlockBegun x tested.draft → BlockBegun x after_chosen.draft → (es gs : List SourceEvent)
      → Exclude x paths (command_sites scene chosen c.arm c.begin c.inside own behind c.command) es (other_sites scene other around tests after_chosen after_other behind next left o) gs
  arms_exclude chosen no_action around tests tested after_chosen after_other own behind next lefts left c o stands same many fc fo bt bc es gs f g j k s t a b sj sk aj ak id side ha hb n less on_s on_t =
      absurd (no_place (placed_of g [] k t sk).at)
    where
      no_place : one_site (slice_get [] (k - g)) ≡ Some t → ⊥
      no_place e = cc
  arms_exclude chosen (one_action other) around tests tested after_chosen after_other own behind next lefts left c o stands same many fc fo bt bc es gs f g j k s t a b sj sk aj ak id side ha hb n less on_s on_t =
      comes_apart (is_true (word_shown x test.0)) yes_side no_side
    where
      spread_one : StandsSpread scene c.arm
      spread_one = spread_arm scene (MadeCommand scene chosen) around true tests tested after_chosen own behind lefts c stands many

      spread_two : StandsSpread scene o.arm
      spread_two = spread_arm scene (MadeCommand scene other) around false tests after_chosen after_other behind next left o stands many

      one : IsGuardedIn x c.arm s
      one = place_each x (IsGuardedIn x c.arm) f (command_sites scene chosen c.arm c.begin c.inside own behind c.command) j s
          (command_guarded x scene chosen c.arm c.begin c.inside own behind c.command spread_one (subst (λ (d : Draft). FitsStep x d) c.draft fc) (arm_started x (MadeCommand scene chosen) around true tests tested after_chosen own behind lefts c bt)) sj

      two : IsGuardedIn x o.arm t
      two = place_each x (IsGuardedIn x o.arm) g (command_sites scene other o.arm o.begin o.inside behind next o.command) k t
          (command_guarded x scene other o.arm o.begin o.inside behind next o.command spread_two (subst (λ (d : Draft). FitsStep x d) o.draft fo) (arm_started x (MadeCommand scene other) around false tests after_chosen after_other behind next left o bc)) sk

      within : n < length tests
      within = subst (λ (i : ℕ). n < i) (sym (many ∙ same)) less

      test : (v : ℕ) × (slice_get tests n ≡ Some v)
      test = there tests n within

      yes_side : is_true (word_shown x test.0) ≡ true
      yes_side =
          (arm_on x (MadeCommand scene chosen) around true tests tested after_chosen own behind lefts c (guards_fit x scene chosen around true tests tested after_chosen own behind lefts c stands many fc) bt n test.0 within test.1
          (one.on n (subst (λ (i : ℕ). n < i) (sym (arm_paths (MadeCommand scene chosen) around true tests tested after_chosen own behind lefts c many ∙ same)) less) on_s)).1

      no_side : not (is_true (word_shown x test.0)) ≡ true
      no_side =
          (arm_on x (MadeCommand scene other) around false tests after_chosen after_other behind next left o (guards_fit x scene other around false tests after_chosen after_other behind next left o stands many fo) bc n test.0 within test.1
          (two.on n (subst (λ (i : ℕ). n < i) (sym (arm_paths (MadeCommand scene other) around false tests after_chosen after_other behind next left o many ∙ same)) less) on_t)).1

  -- the offsets of a view stand in no further arm
  view_excludes : (hs : List Hidden) (form : ViewPlan) (around : Around) (r : stood.Around) (id : ℕ) → Below id r.arms → HasOneOfEach r.arms → Excludes x paths (view_sites scene around hs form) (source_terms_events (site_of r id) (terms (offsets_of form)))
  view_excludes [] form around r id w o = idle_excludes x paths (plan_accesses form + 0) (source_terms_events (site_of r id) (terms (offsets_of form)))
  view_excludes (h ∷ hs) form around r id w o =
      leaf x paths r id w o (all_there (terms_sites scene around (terms (offsets_of form)))) (source_terms_events (site_of r id) (terms (offsets_of form))) (terms_stand r id id id (terms (offsets_of form)))

  mutual
    pub command_excludes : (a : Action) (around : Around) (old new : Building) (first next : ℕ) (m : MadeCommand scene a around old new first next) → StoresReach a → StandsSpread scene around → paths_counted around ≡ paths → FitsStep x new.draft
        → BlockBegun x old.draft → (r : stood.Around) (q : ℕ) → IsNumbered q a → Below q r.arms → HasOneOfEach r.arms → Excludes x paths (command_sites scene a around old new first next m) (events r a)
    command_excludes (action id place form) around old new first next m is stands same f b r q num w o =
        form_excludes form place around old new first next m is stands same f b r id (subst (λ (i : ℕ). IsNumberedInside (suc i) form) (sym num.0) num.1) (subst (λ (i : ℕ). Below i r.arms) (sym num.0) w) o

    form_excludes : (form : ActionForm) (place : Place) (around : Around) (old new : Building) (first next : ℕ) (m : MadeActionForm scene form around old new first next) → StoresReachForm form → StandsSpread scene around → paths_counted around ≡ paths
        → FitsStep x new.draft → BlockBegun x old.draft → (r : stood.Around) (id : ℕ) → IsNumberedInside (suc id) form → Below id r.arms → HasOneOfEach r.arms
        → Excludes x paths (action_sites scene form around old new first next m) (command_events r (site_of r id) form)
    form_excludes (lets name declared (Some value)) place around old new first next m is stands same f b r id num w o =
        leaf x paths r id w o (all_there (term_sites scene around value)) (source_term_events (site_of r id) value ++ assigned name.entity ∷ [])
        (each_both (StandsWithin r id id) (source_term_events (site_of r id) value) (assigned name.entity ∷ []) (term_stands r id id id value) tt)
    form_excludes (lets name declared None) place around old new first next m is stands same f b r id num w o = nothing_excludes x paths ([] ++ assigned name.entity ∷ [])
    form_excludes (assigns target value) place around old new first next m is stands same f b r id num w o =
        leaf x paths r id w o (all_there (term_sites scene around value)) (source_term_events (site_of r id) value ++ assigned target.entity ∷ [])
        (each_both (StandsWithin r id id) (source_term_events (site_of r id) value) (assigned target.entity ∷ []) (term_stands r id id id value) tt)
    form_excludes (stores target value) place around old new first next m is stands same f b r id num w o =
        leaf x paths r id w o (all_there (term_sites scene around value ++ target_sites scene around target)) (source_term_events (site_of r id) value ++ write_events (site_of r id) target)
        (each_both (StandsWithin r id id) (source_term_events (site_of r id) value) (write_events (site_of r id) target) (term_stands r id id id value) (write_stands r id id id target))
    form_excludes (reduces target op value) place around old new first next m is stands same f b r id num w o =
        leaf x paths r id w o (all_there (term_sites scene around value)) (source_term_events (site_of r id) value ++ assigned target.entity ∷ [])
        (each_both (StandsWithin r id id) (source_term_events (site_of r id) value) (assigned target.entity ∷ []) (term_stands r id id id value) tt)
    form_excludes (decides test chosen other) place around old new first next m is stands same f b r id num w o =
        let many : length m.tests ≡ paths_counted around = (tests_same scene around first test (paths_counted around) old m.tested m.own m.tests m.test).1 in
        let spread = spread_arm scene (MadeCommand scene chosen) around true m.tests m.tested m.after_chosen m.own m.behind m.chosen_left m.chosen stands many in
        let inner = command_lays scene chosen m.chosen.arm m.chosen.begin m.chosen.inside m.own m.behind spread.stands m.chosen.command in
        let e_chosen = (arm_lays (MadeCommand scene chosen) around true m.tests m.tested m.after_chosen m.own m.behind m.chosen_left m.chosen inner).extends in
        let e_other = (other_lays scene other around m.tests m.after_chosen m.after_other m.behind next m.other_left stands.stands many m.other).extends in
        let e_joined = (choices_form m.tests m.joined.choices (length m.joined.choices) m.after_other.draft new.draft m.joined.middle new.values m.joined.choose).extends in
        let f_other = fits_before m.after_other.draft new.draft x e_joined f in
        let f_chosen = fits_before m.after_chosen.draft m.after_other.draft x e_other f_other in
        let b_tested = begun_later old.draft m.tested.draft x (tests_lay scene around first test (paths_counted around) old m.tested m.own m.tests stands.stands m.test).extends b in
        let b_chosen = begun_later m.tested.draft m.after_chosen.draft x e_chosen b_tested in
        let all = action_stands r id (action id place (decides test chosen other)) (refl, num) in
        both_exclude x paths (all_there (term_sites scene around test))
        (command_sites scene chosen m.chosen.arm m.chosen.begin m.chosen.inside m.own m.behind m.chosen.command ++ other_sites scene other around m.tests m.after_chosen m.after_other m.behind next m.other_left m.other)
        (source_term_events (site_of r id) test) (events (in_arm r id true) chosen ++ other_events (in_arm r id false) other)
        (there_long (term_sites scene around test) ∙ (sites_long scene around test ∙ sym (term_counted (site_of r id) test)))
        (leaf x paths r id w o (all_there (term_sites scene around test)) (source_term_events (site_of r id) test) (term_stands r id id id test))
        (both_exclude x paths (command_sites scene chosen m.chosen.arm m.chosen.begin m.chosen.inside m.own m.behind m.chosen.command)
        (other_sites scene other around m.tests m.after_chosen m.after_other m.behind next m.other_left m.other) (events (in_arm r id true) chosen) (other_events (in_arm r id false) other)
        (places_long scene chosen m.chosen.arm m.chosen.begin m.chosen.inside m.own m.behind m.chosen.command is.0 ∙ sym (events_counted (in_arm r id true) chosen))
        (command_excludes chosen m.chosen.arm m.chosen.begin m.chosen.inside m.own m.behind m.chosen.command is.0 spread
        (arm_paths (MadeCommand scene chosen) around true m.tests m.tested m.after_chosen m.own m.behind m.chosen_left m.chosen many ∙ same) (subst (λ (d : Draft). FitsStep x d) m.chosen.draft f_chosen)
        (arm_started x (MadeCommand scene chosen) around true m.tests m.tested m.after_chosen m.own m.behind m.chosen_left m.chosen b_tested) (in_arm r id true) (suc id) num.0 (below_in id true r.arms w) (once_in id true r.arms w o))
        (other_excludes other around m.tests m.after_chosen m.after_other m.behind next m.other_left m.other is.1 stands same many f_other b_chosen (in_arm r id false) (suc id + commands_in chosen) num.1
        (below_up (suc id) (suc id + commands_in chosen) (in_arm r id false).arms (omega arith) (below_in id false r.arms w)) (once_in id false r.arms w o))
        (arms_exclude chosen other around m.tests m.tested m.after_chosen m.after_other m.own m.behind next m.chosen_left m.other_left m.chosen m.other stands same many f_chosen f_other b_tested b_chosen
        (events (in_arm r id true) chosen) (other_events (in_arm r id false) other)))
        (by_numbers x paths r id w o (all_there (term_sites scene around test))
        (command_sites scene chosen m.chosen.arm m.chosen.begin m.chosen.inside m.own m.behind m.chosen.command ++ other_sites scene other around m.tests m.after_chosen m.after_other m.behind next m.other_left m.other)
        (source_term_events (site_of r id) test) (events (in_arm r id true) chosen ++ other_events (in_arm r id false) other) id id id (id + commands_in (action id place (decides test chosen other))) (omega arith) (omega arith) (inl (omega arith))
        (term_stands r id id id test) (each_back (StandsWithin r id (id + commands_in (action id place (decides test chosen other)))) (source_term_events (site_of r id) test) (events (in_arm r id true) chosen ++ other_events (in_arm r id false) other) all))
    form_excludes (blocks body) place around old new first next m is stands same f b r id num w o =
        groups_exclude body around old new first next m is stands same f b r (suc id) num (below_up id (suc id) r.arms (omega arith) w) o
    form_excludes (lets_memory name shape shape_places value) place around old new first next m is stands same f b r id num w o = nothing_excludes x paths []
    form_excludes (views name parent form) place around old new first next m is stands same f b r id num w o = view_excludes (hidden_in (way_of (known_in scene) name)) form around r id w o
    form_excludes (calls function arguments) place around old new first next m is stands same f b r id num w o = nothing_excludes x paths []
    form_excludes (repeats test body) place around old new first next m is stands same f b r id num w o = idle_excludes x paths (term_accesses test + accesses_of body) (command_events r (site_of r id) (repeats test body))
    form_excludes (counts iterator declared low high factor body combine combine_place) place around old new first next m is stands same f b r id num w o =
        idle_excludes x paths (accesses_of body + other_accesses combine) (command_events r (site_of r id) (counts iterator declared low high factor body combine combine_place))

    other_excludes : (other : MaybeAction) (around : Around) (tests : List ℕ) (old new : Building) (first next : ℕ) (lefts : List Left) (m : MadeOther scene other around tests old new first next lefts) → StoresReachOther other → StandsSpread scene around
        → paths_counted around ≡ paths → length tests ≡ paths_counted around → FitsStep x new.draft → BlockBegun x old.draft → (r : stood.Around) (q : ℕ) → IsNumberedOther q other → Below q r.arms → HasOneOfEach r.arms
        → Excludes x paths (other_sites scene other around tests old new first next lefts m) (other_events r other)
    other_excludes no_action around tests old new first next lefts m is stands same many f b r q num w o = nothing_excludes x paths []
    other_excludes (one_action a) around tests old new first next lefts m is stands same many f b r q num w o =
        command_excludes a m.arm m.begin m.inside first next m.command is (spread_arm scene (MadeCommand scene a) around false tests old new first next lefts m stands many)
        (arm_paths (MadeCommand scene a) around false tests old new first next lefts m many ∙ same) (subst (λ (d : Draft). FitsStep x d) m.draft f) (arm_started x (MadeCommand scene a) around false tests old new first next lefts m b) r q num w o

    actions_exclude : (part : Actions) (around : Around) (old new : Building) (first next : ℕ) (m : MadeActions scene part around old new first next) → StoresReachPart part → StandsSpread scene around → paths_counted around ≡ paths
        → FitsStep x new.draft → BlockBegun x old.draft → (r : stood.Around) (q : ℕ) → AreNumbered q part → Below q r.arms → HasOneOfEach r.arms → Excludes x paths (actions_sites scene part around old new first next m) (part_events r part)
    actions_exclude no_actions around old new first next m is stands same f b r q num w o = nothing_excludes x paths []
    actions_exclude (action_then a rest) around old new first next m is stands same f b r q num w o =
        both_exclude x paths (command_sites scene a around old m.middle first m.own m.one) (actions_sites scene rest around m.middle new m.own next m.rest) (events r a) (part_events r rest)
        (places_long scene a around old m.middle first m.own m.one is.0 ∙ sym (events_counted r a))
        (command_excludes a around old m.middle first m.own m.one is.0 stands same (fits_before m.middle.draft new.draft x (actions_lays scene rest around m.middle new m.own next stands.stands m.rest).extends f) b r q num.0 w o)
        (actions_exclude rest around m.middle new m.own next m.rest is.1 stands same f (begun_later old.draft m.middle.draft x (command_lays scene a around old m.middle first m.own stands.stands m.one).extends b) r (q + commands_in a) num.1
        (below_up q (q + commands_in a) r.arms (omega arith) w) o)
        (by_numbers x paths r q w o (command_sites scene a around old m.middle first m.own m.one) (actions_sites scene rest around m.middle new m.own next m.rest) (events r a) (part_events r rest) q (q + commands_in a) (q + commands_in a)
        (q + commands_in a + commands_in_part rest) (omega arith) (omega arith) (inl (omega arith)) (action_stands r q a num.0) (part_stands r (q + commands_in a) rest num.1))

    groups_exclude : (body : Groups) (around : Around) (old new : Building) (first next : ℕ) (m : MadeGroups scene body around old new first next) → StoresReachGroups body → StandsSpread scene around → paths_counted around ≡ paths
        → FitsStep x new.draft → BlockBegun x old.draft → (r : stood.Around) (q : ℕ) → AreNumberedGroups q body → Below q r.arms → HasOneOfEach r.arms → Excludes x paths (groups_sites scene body around old new first next m) (groups_events r body)
    groups_exclude no_groups around old new first next m is stands same f b r q num w o = nothing_excludes x paths []
    groups_exclude (group_then part rest) around old new first next m is stands same f b r q num w o =
        both_exclude x paths (actions_sites scene part around old m.middle first m.own m.one) (groups_sites scene rest around m.middle new m.own next m.rest) (part_events r part) (groups_events r rest)
        (actions_long scene part around old m.middle first m.own m.one is.0 ∙ sym (part_counted r part))
        (actions_exclude part around old m.middle first m.own m.one is.0 stands same (fits_before m.middle.draft new.draft x (groups_lays scene rest around m.middle new m.own next stands.stands m.rest).extends f) b r q num.0 w o)
        (groups_exclude rest around m.middle new m.own next m.rest is.1 stands same f (begun_later old.draft m.middle.draft x (actions_lays scene part around old m.middle first m.own stands.stands m.one).extends b) r (q + commands_in_part part) num.1
        (below_up q (q + commands_in_part part) r.arms (omega arith) w) o)
        (by_numbers x paths r q w o (actions_sites scene part around old m.middle first m.own m.one) (groups_sites scene rest around m.middle new m.own next m.rest) (part_events r part) (groups_events r rest) q (q + commands_in_part part)
        (q + commands_in_part part) (q + commands_in_part part + commands_in_groups rest) (omega arith) (omega arith) (inl (omega arith)) (part_stands r q part num.0) (groups_stand r (q + commands_in_part part) rest num.1))
