-- Places of the accesses of commands: as many as they have accesses, and each by its number.
use Rattle.std.proofs.Common.{◌≡◌, ℕ, zero, suc, ◌+◌, ◌-◌, ◌<◌, ◌≤◌, List, Some, None, refl, ap, ◌∙◌, arith, length, add-one}
use Rattle.std.specs.Prelude.{Bool, true, false, if◌then◌else◌, nat_lt, [], ◌∷◌, ◌++◌, slice_get, Option}
use Rattle.std.proofs.lemmas.Bool.Decides.{nat_tests}
use Rattle.std.proofs.lemmas.List.{length-append}
use Rattle.dh_base.specs.declared.places.Place.{Place}
use Rattle.dh_tree.specs.Indices.{form_of}
use Rattle.dh_tree.specs.PlainTrees as plain
use Rattle.dh_tree.specs.PlainTrees.{Action, action, ActionForm, lets, lets_memory, views, assigns, stores, reduces, calls, blocks, decides, repeats, counts, MaybeAction, no_action, one_action, Actions, no_actions, action_then, Groups, no_groups, group_then, ViewPlan}
use Rattle.dh_tree.specs.Seen.{terms}
use Rattle.dh_tree.specs.ViewOffsets.{offsets_of}
use Rattle.dh_meaning.specs.AccessNumbers.{accesses_of, groups_accesses, other_accesses, own_accesses, inner_accesses, part_accesses, plan_accesses, term_accesses}
use Rattle.dh_meaning.specs.CoreOf.{way_of}
use Rattle.dh_meaning.specs.Ways.{Hidden, hidden_in}
use Rattle.dh_expressions.specs.declared.scenes.Around.{Around}
use Rattle.dh_expressions.specs.declared.scenes.Scene.{Scene}
use Rattle.dh_expressions.specs.Evaluated.{known_in}
use Rattle.dh_expressions.proofs.ListPlaces.{place_within}
use Rattle.dh_expressions.proofs.Pushing.{in_front}
use Rattle.dh_formed.specs.Formed.{BlockSite}
use Rattle.dh_commands.specs.declared.buildings.Building.{Building}
use Rattle.dh_commands.specs.declared.choices.Left.{Left}
use Rattle.dh_commands.specs.MadeCommands.{MadeActionForm, MadeActions, MadeCommand, MadeGroups, MadeOther}
use Rattle.dh_laid.specs.BlockSites.{action_sites, actions_sites, all_there, command_sites, groups_sites, none_there, one_site, other_sites, places_from, sites_from, target_sites, term_sites, terms_sites, view_sites}
use Rattle.dh_laid.specs.LaidNumbers.{IsAccessForm, StoresReach, StoresReachForm, StoresReachGroups, StoresReachOther, StoresReachPart}
use Rattle.dh_reached.proofs.TermsPut.{SitesAt, all_sites_long, sites_long}

-- accesses from a number on have these places
abbrev pub PlacesAt : (sites : ℕ → Option BlockSite) → (n : ℕ) → List (Option BlockSite) → Type 0
PlacesAt sites n ss = (i : ℕ) (s : BlockSite) → slice_get ss i ≡ Some (Some s) → sites (n + i) ≡ Some s

pub places_front : (sites : ℕ → Option BlockSite) (n : ℕ) (xs ys : List (Option BlockSite)) → PlacesAt sites n (xs ++ ys) → PlacesAt sites n xs
places_front sites n xs ys h i s at = h i s (in_front xs ys i (Some s) at)

behind_front : (xs ys : List (Option BlockSite)) (i : ℕ) → slice_get (xs ++ ys) (length xs + i) ≡ slice_get ys i
behind_front [] ys i = ap (λ k. slice_get ys k) (let e : 0 + i ≡ i = omega arith in e)
behind_front (x ∷ xs) ys i = ap (λ k. slice_get (x ∷ (xs ++ ys)) k) (let e : suc (length xs) + i ≡ suc (length xs + i) = omega arith in e) ∙ behind_front xs ys i

pub places_back : (sites : ℕ → Option BlockSite) (n a : ℕ) (xs ys : List (Option BlockSite)) → length xs ≡ a → PlacesAt sites n (xs ++ ys) → PlacesAt sites (n + a) ys
places_back sites n a xs ys long h i s at =
    ap sites (let e : n + a + i ≡ n + (length xs + i) = omega (arith, long) in e) ∙ h (length xs + i) s (behind_front xs ys i ∙ at)

there_at : (ss : List BlockSite) (i : ℕ) (s : BlockSite) → slice_get ss i ≡ Some s → slice_get (all_there ss) i ≡ Some (Some s)
there_at [] i s at = absurd (none i at)
  where
    none : (i : ℕ) → slice_get [] i ≡ Some s → ⊥
    none i e = cc
there_at (x ∷ ss) zero s at = ap (λ (o : Option BlockSite). Some o) at
there_at (x ∷ ss) (suc i) s at = there_at ss i s at

pub places_there : (sites : ℕ → Option BlockSite) (n : ℕ) (ss : List BlockSite) → PlacesAt sites n (all_there ss) → SitesAt sites n ss
places_there sites n ss h i s at = h i s (there_at ss i s at)

pub there_long : (ss : List BlockSite) → length (all_there ss) ≡ length ss
there_long [] = refl
there_long (s ∷ ss) = ap suc (there_long ss)

none_long : (n : ℕ) → length (none_there n) ≡ n
none_long zero = refl
none_long (suc n) = ap suc (none_long n)

-- As many as there are accesses.

module _ (scene : Scene) (around : Around) where
  target_long : (place : Place) (k : _) (form : plain.TermForm) → IsAccessForm form → length (target_sites scene around (plain.term place k form)) ≡ term_accesses (plain.term place k form)
  target_long place k (plain.accessed r ts) is = length-append (terms_sites scene around ts) _ ∙ (ap (λ n. n + 1) (all_sites_long scene around ts) ∙ add-one _)
  target_long place k (plain.in_bank r bank to row) is = length-append (term_sites scene around row) _ ∙ (ap (λ n. n + 1) (sites_long scene around row) ∙ add-one _)
  target_long place k (plain.number negative z) is = absurd is
  target_long place k (plain.truth_value v) is = absurd is
  target_long place k (plain.named r) is = absurd is
  target_long place k (plain.applied op left right) is = absurd is
  target_long place k (plain.converted inner to) is = absurd is

  pub stored_long : (t target : plain.Term) → IsAccessForm (form_of target) → length (term_sites scene around t ++ target_sites scene around target) ≡ term_accesses t + term_accesses target
  stored_long t (plain.term place k form) is =
      length-append (term_sites scene around t) (target_sites scene around (plain.term place k form))
      ∙ (ap (λ n. n + length (target_sites scene around (plain.term place k form))) (sites_long scene around t) ∙ ap (λ n. term_accesses t + n) (target_long place k form is))

both_long : (xs ys : List (Option BlockSite)) (a b : ℕ) → length xs ≡ a → length ys ≡ b → length (xs ++ ys) ≡ a + b
both_long xs ys a b p q = length-append xs ys ∙ (ap (λ n. n + length ys) p ∙ ap (λ n. a + n) q)

plus_none : (n : ℕ) → n ≡ n + 0
plus_none n = omega arith

none_plus : (n : ℕ) → n ≡ 0 + n
none_plus n = omega arith

pub view_long : (scene : Scene) (around : Around) (hs : List Hidden) (form : ViewPlan) → length (view_sites scene around hs form) ≡ plan_accesses form + 0
view_long scene around [] form = none_long (plan_accesses form + 0)
view_long scene around (h ∷ hs) form =
    there_long (terms_sites scene around (terms (offsets_of form))) ∙ (all_sites_long scene around (terms (offsets_of form)) ∙ plus_none (plan_accesses form))

module _ (scene : Scene) where
  mutual
    pub places_long : (a : Action) (around : Around) (old new : Building) (first next : ℕ) (m : MadeCommand scene a around old new first next) → StoresReach a → length (command_sites scene a around old new first next m) ≡ accesses_of a
    places_long (action id place form) around old new first next m is = form_long form around old new first next m is

    pub form_long : (form : ActionForm) (around : Around) (old new : Building) (first next : ℕ) (m : MadeActionForm scene form around old new first next) → StoresReachForm form
        → length (action_sites scene form around old new first next m) ≡ own_accesses form + inner_accesses form
    form_long (lets name declared (Some value)) around old new first next m is = there_long (term_sites scene around value) ∙ (sites_long scene around value ∙ plus_none (term_accesses value))
    form_long (lets name declared None) around old new first next m is = omega arith
    form_long (assigns target value) around old new first next m is = there_long (term_sites scene around value) ∙ (sites_long scene around value ∙ plus_none (term_accesses value))
    form_long (stores target value) around old new first next m is =
        there_long (term_sites scene around value ++ target_sites scene around target) ∙ (stored_long scene around value target is ∙ plus_none (term_accesses value + term_accesses target))
    form_long (reduces target op value) around old new first next m is = there_long (term_sites scene around value) ∙ (sites_long scene around value ∙ plus_none (term_accesses value))
    form_long (decides test chosen other) around old new first next m is =
        both_long (all_there (term_sites scene around test)) _ (term_accesses test) (accesses_of chosen + other_accesses other) (there_long (term_sites scene around test) ∙ sites_long scene around test)
        (both_long (command_sites scene chosen m.chosen.arm m.chosen.begin m.chosen.inside m.own m.behind m.chosen.command) (other_sites scene other around m.tests m.after_chosen m.after_other m.behind next m.other_left m.other)
        (accesses_of chosen) (other_accesses other) (places_long chosen m.chosen.arm m.chosen.begin m.chosen.inside m.own m.behind m.chosen.command is.0)
        (other_long other around m.tests m.after_chosen m.after_other m.behind next m.other_left m.other is.1))
    form_long (blocks body) around old new first next m is = groups_long body around old new first next m is ∙ none_plus (groups_accesses body)
    form_long (lets_memory name shape shape_places value) around old new first next m is = omega arith
    form_long (views name parent form) around old new first next m is = view_long scene around (hidden_in (way_of (known_in scene) name)) form
    form_long (calls function arguments) around old new first next m is = omega arith
    form_long (repeats test body) around old new first next m is = none_long (term_accesses test + accesses_of body)
    form_long (counts iterator declared low high factor body combine combine_place) around old new first next m is = none_long (accesses_of body + other_accesses combine) ∙ none_plus (accesses_of body + other_accesses combine)

    pub other_long : (other : MaybeAction) (around : Around) (tests : List ℕ) (old new : Building) (first next : ℕ) (lefts : List Left) (m : MadeOther scene other around tests old new first next lefts) → StoresReachOther other
        → length (other_sites scene other around tests old new first next lefts m) ≡ other_accesses other
    other_long no_action around tests old new first next lefts m is = refl
    other_long (one_action a) around tests old new first next lefts m is = places_long a m.arm m.begin m.inside first next m.command is

    pub actions_long : (part : Actions) (around : Around) (old new : Building) (first next : ℕ) (m : MadeActions scene part around old new first next) → StoresReachPart part
        → length (actions_sites scene part around old new first next m) ≡ part_accesses part
    actions_long no_actions around old new first next m is = refl
    actions_long (action_then a rest) around old new first next m is =
        both_long (command_sites scene a around old m.middle first m.own m.one) (actions_sites scene rest around m.middle new m.own next m.rest) (accesses_of a) (part_accesses rest)
        (places_long a around old m.middle first m.own m.one is.0) (actions_long rest around m.middle new m.own next m.rest is.1)

    pub groups_long : (body : Groups) (around : Around) (old new : Building) (first next : ℕ) (m : MadeGroups scene body around old new first next) → StoresReachGroups body
        → length (groups_sites scene body around old new first next m) ≡ groups_accesses body
    groups_long no_groups around old new first next m is = refl
    groups_long (group_then g rest) around old new first next m is =
        both_long (actions_sites scene g around old m.middle first m.own m.one) (groups_sites scene rest around m.middle new m.own next m.rest) (part_accesses g) (groups_accesses rest)
        (actions_long g around old m.middle first m.own m.one is.0) (groups_long rest around m.middle new m.own next m.rest is.1)

-- Of a block.

-- a place by its number
pub place_by : (first : ℕ) (ss : List (Option BlockSite)) (i : ℕ) (s : BlockSite) → slice_get ss i ≡ Some (Some s) → places_from first ss (first + i) ≡ Some s
place_by first ss i s at = by (nat_lt (first + i) first) (above first i)
  where
    above : (n i : ℕ) → nat_lt (n + i) n ≡ false
    above n i = grind (arith, nat_tests)

    by : (b : Bool) → b ≡ false → (if b then None else one_site (slice_get ss (first + i - first))) ≡ Some s
    by true e = absurd (cc)
    by false e = ap (λ k. one_site (slice_get ss k)) (let d : first + i - first ≡ i = omega arith in d) ∙ ap one_site at

past_none : (ss : List (Option BlockSite)) (i : ℕ) → length ss ≤ i → slice_get ss i ≡ None
past_none [] i l = refl
past_none (s ∷ ss) zero l = absurd (omega (arith, l))
past_none (s ∷ ss) (suc i) l = past_none ss i (omega (arith, l))

-- none behind them
pub place_past : (first number : ℕ) (ss : List (Option BlockSite)) → first + length ss ≤ number → places_from first ss number ≡ None
place_past first number ss past = by (nat_lt number first)
  where
    by : (b : Bool) → (if b then None else one_site (slice_get ss (number - first))) ≡ None
    by true = refl
    by false = ap one_site (past_none ss (number - first) (omega (arith, past)))

-- The same of sites.
pub site_by : (first : ℕ) (ss : List BlockSite) (i : ℕ) (s : BlockSite) → slice_get ss i ≡ Some s → sites_from first ss (first + i) ≡ Some s
site_by first ss i s at = by (nat_lt (first + i) first) (above first i)
  where
    above : (n i : ℕ) → nat_lt (n + i) n ≡ false
    above n i = grind (arith, nat_tests)

    by : (b : Bool) → b ≡ false → (if b then None else slice_get ss (first + i - first)) ≡ Some s
    by true e = absurd (cc)
    by false e = ap (λ k. slice_get ss k) (let d : first + i - first ≡ i = omega arith in d) ∙ at

pub site_told : (first number : ℕ) (ss : List BlockSite) (s : BlockSite) → sites_from first ss number ≡ Some s → (first ≤ number) × (number < first + length ss)
site_told first number ss s e = by (nat_lt number first) refl e
  where
    above : (n k : ℕ) → nat_lt n k ≡ false → k ≤ n
    above n k f = grind (arith, nat_tests)

    by : (b : Bool) → nat_lt number first ≡ b → (if b then None else slice_get ss (number - first)) ≡ Some s → (first ≤ number) × (number < first + length ss)
    by true g f = absurd (cc)
    by false g f =
        let low = above number first g in
        let less = place_within ss (number - first) s f in
        (low, omega (arith, low, less))
