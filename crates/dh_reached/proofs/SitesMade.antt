-- An access that has a site in a block is made by one of its commands.
use Rattle.std.proofs.Common.{◌≡◌, ◌⊎◌, inl, inr, ℕ, zero, suc, ◌+◌, ◌-◌, ◌<◌, ◌≤◌, List, Some, None, refl, ap, ◌∙◌, subst, arith, length}
use Rattle.std.specs.Prelude.{Bool, true, false, ◌||◌, [], ◌∷◌, ◌++◌, slice_get, Option}
use Rattle.std.specs.List.{AllByRecursion}
use Rattle.std.proofs.lemmas.Bool.{cases_lt}
use Rattle.std.proofs.lemmas.Bool.Decides.{nat_tests}
use Rattle.dh_tree.specs.PlainTrees.{Action, action, ActionForm, lets, lets_memory, views, assigns, stores, reduces, calls, blocks, decides, repeats, counts, MaybeAction, no_action, one_action, Actions, no_actions, action_then, Groups, no_groups, group_then, ViewPlan}
use Rattle.dh_tree.specs.Seen.{terms}
use Rattle.dh_tree.specs.ViewOffsets.{offsets_of}
use Rattle.dh_meaning.specs.AccessNumbers.{accesses_of, other_accesses, part_accesses, plan_accesses, term_accesses}
use Rattle.dh_meaning.specs.CoreOf.{way_of}
use Rattle.dh_meaning.specs.Ways.{Hidden, hidden_in}
use Rattle.dh_meaning.specs.OnePhase.{any_makes, form_makes, groups_make, is_between, makes, other_makes, part_makes}
use Rattle.dh_meaning.specs.Phases.{Located}
use Rattle.dh_expressions.specs.declared.scenes.Around.{Around}
use Rattle.dh_expressions.specs.declared.scenes.Scene.{Scene}
use Rattle.dh_expressions.specs.Evaluated.{known_in}
use Rattle.dh_formed.specs.Formed.{BlockSite}
use Rattle.dh_commands.specs.declared.buildings.Building.{Building}
use Rattle.dh_commands.specs.declared.choices.Left.{Left}
use Rattle.dh_commands.specs.MadeCommands.{MadeActionForm, MadeActions, MadeCommand, MadeGroups, MadeOther}
use Rattle.dh_laid.specs.BlockSites.{MadeEach, action_sites, actions_sites, all_there, block_sites, command_sites, groups_sites, none_there, one_site, other_sites, places_from, term_sites, terms_sites, view_sites}
use Rattle.dh_laid.specs.LaidNumbers.{StoresReach, StoresReachForm, StoresReachGroups, StoresReachOther, StoresReachPart}
use Rattle.dh_reached.proofs.BlocksPut.{place_told, site_cases}
use Rattle.dh_reached.proofs.OppositeArms.{place_left, place_right, placed_of}
use Rattle.dh_reached.proofs.PlacesOf.{actions_long, form_long, places_long, there_long}
use Rattle.dh_reached.proofs.TermsPut.{all_sites_long, sites_long}

pub within_is : (k n count : ℕ) → n ≤ k → k < n + count → is_between k n count ≡ true
within_is k n count l u = grind (arith, nat_tests, l, u)

or_first : (a b : Bool) → a ≡ true → (a || b) ≡ true
or_first true b e = refl
or_first false b e = absurd (cc)

or_second : (a b : Bool) → b ≡ true → (a || b) ≡ true
or_second true b e = refl
or_second false b e = e

-- all of a command's own accesses
own_makes : (f j count : ℕ) (ss : List (Option BlockSite)) (s : BlockSite) → length ss ≡ count → places_from f ss j ≡ Some s → is_between j f count ≡ true
own_makes f j count ss s long e = let t = place_told f j ss s e in let l = t.0 in let u = t.1 in within_is j f count l (omega (arith, u, long))

no_place : (f j : ℕ) (s : BlockSite) (A : Type 0) → places_from f [] j ≡ Some s → A
no_place f j s A e = absurd (none (placed_of f [] j s e).at)
  where
    none : one_site (slice_get [] (j - f)) ≡ Some s → ⊥
    none e = cc

idle_place : (n f j : ℕ) (s : BlockSite) (A : Type 0) → places_from f (none_there n) j ≡ Some s → A
idle_place n f j s A e = absurd (none n (j - f) (placed_of f (none_there n) j s e).at)
  where
    none : (n i : ℕ) → one_site (slice_get (none_there n) i) ≡ Some s → ⊥
    none zero i e = cc
    none (suc n) zero e = cc
    none (suc n) (suc i) e = none n i e

module _ (scene : Scene) (j : ℕ) (s : BlockSite) where
  -- in the first part, or in the second
  either_part : (f a : ℕ) (xs ys : List (Option BlockSite)) (m n : Bool) → length xs ≡ a → (places_from f xs j ≡ Some s → m ≡ true) → (places_from (f + a) ys j ≡ Some s → n ≡ true) → places_from f (xs ++ ys) j ≡ Some s → (m || n) ≡ true
  either_part f a xs ys m n long one two e = by (cases_lt j (f + length xs))
    where
      by : (j < f + length xs) ⊎ (f + length xs ≤ j) → (m || n) ≡ true
      by (inl l) = or_first m n (one (place_left f xs ys j s l e))
      by (inr l) = or_second m n (two (subst (λ (k : ℕ). places_from k ys j ≡ Some s) (ap (λ k. f + k) long) (place_right f xs ys j s l e)))

  view_makes : (hs : List Hidden) (form : ViewPlan) (around : Around) (f : ℕ) → places_from f (view_sites scene around hs form) j ≡ Some s → is_between j f (plan_accesses form) ≡ true
  view_makes [] form around f e = idle_place (plan_accesses form + 0) f j s (is_between j f (plan_accesses form) ≡ true) e
  view_makes (h ∷ hs) form around f e =
      own_makes f j (plan_accesses form) (all_there (terms_sites scene around (terms (offsets_of form)))) s
      (there_long (terms_sites scene around (terms (offsets_of form))) ∙ all_sites_long scene around (terms (offsets_of form))) e

  mutual
    pub command_makes : (a : Action) (around : Around) (old new : Building) (first next : ℕ) (m : MadeCommand scene a around old new first next) → StoresReach a → (f : ℕ)
        → places_from f (command_sites scene a around old new first next m) j ≡ Some s → makes j f a ≡ true
    command_makes (action id place form) around old new first next m is f e = form_makes_it form around old new first next m is f e

    form_makes_it : (form : ActionForm) (around : Around) (old new : Building) (first next : ℕ) (m : MadeActionForm scene form around old new first next) → StoresReachForm form → (f : ℕ)
        → places_from f (action_sites scene form around old new first next m) j ≡ Some s → form_makes j f form ≡ true
    form_makes_it (lets name declared (Some value)) around old new first next m is f e =
        own_makes f j (term_accesses value) (all_there (term_sites scene around value)) s (there_long (term_sites scene around value) ∙ sites_long scene around value) e
    form_makes_it (lets name declared None) around old new first next m is f e = no_place f j s (is_between j f 0 ≡ true) e
    form_makes_it (assigns target value) around old new first next m is f e =
        own_makes f j (term_accesses value) (all_there (term_sites scene around value)) s (there_long (term_sites scene around value) ∙ sites_long scene around value) e
    form_makes_it (stores target value) around old new first next m is f e =
        own_makes f j (term_accesses value + term_accesses target) (action_sites scene (stores target value) around old new first next m) s
        (form_long scene (stores target value) around old new first next m is ∙ omega arith) e
    form_makes_it (reduces target op value) around old new first next m is f e =
        own_makes f j (term_accesses value) (all_there (term_sites scene around value)) s (there_long (term_sites scene around value) ∙ sites_long scene around value) e
    form_makes_it (decides test chosen other) around old new first next m is f e =
        either_part f (term_accesses test) (all_there (term_sites scene around test))
        (command_sites scene chosen m.chosen.arm m.chosen.begin m.chosen.inside m.own m.behind m.chosen.command ++ other_sites scene other around m.tests m.after_chosen m.after_other m.behind next m.other_left m.other)
        (is_between j f (term_accesses test)) (makes j (f + term_accesses test) chosen || other_makes j (f + term_accesses test + accesses_of chosen) other)
        (there_long (term_sites scene around test) ∙ sites_long scene around test)
        (λ h. own_makes f j (term_accesses test) (all_there (term_sites scene around test)) s (there_long (term_sites scene around test) ∙ sites_long scene around test) h)
        (λ h. either_part (f + term_accesses test) (accesses_of chosen) (command_sites scene chosen m.chosen.arm m.chosen.begin m.chosen.inside m.own m.behind m.chosen.command)
        (other_sites scene other around m.tests m.after_chosen m.after_other m.behind next m.other_left m.other) (makes j (f + term_accesses test) chosen) (other_makes j (f + term_accesses test + accesses_of chosen) other)
        (places_long scene chosen m.chosen.arm m.chosen.begin m.chosen.inside m.own m.behind m.chosen.command is.0)
        (λ g. command_makes chosen m.chosen.arm m.chosen.begin m.chosen.inside m.own m.behind m.chosen.command is.0 (f + term_accesses test) g)
        (λ g. other_makes_it other around m.tests m.after_chosen m.after_other m.behind next m.other_left m.other is.1 (f + term_accesses test + accesses_of chosen) g) h) e
    form_makes_it (blocks body) around old new first next m is f e = groups_make_it body around old new first next m is f e
    form_makes_it (lets_memory name shape shape_places value) around old new first next m is f e = no_place f j s (false ≡ true) e
    form_makes_it (views name parent form) around old new first next m is f e = view_makes (hidden_in (way_of (known_in scene) name)) form around f e
    form_makes_it (calls function arguments) around old new first next m is f e = no_place f j s (false ≡ true) e
    form_makes_it (repeats test body) around old new first next m is f e = idle_place (term_accesses test + accesses_of body) f j s (false ≡ true) e
    form_makes_it (counts iterator declared low high factor body combine combine_place) around old new first next m is f e = idle_place (accesses_of body + other_accesses combine) f j s (false ≡ true) e

    other_makes_it : (other : MaybeAction) (around : Around) (tests : List ℕ) (old new : Building) (first next : ℕ) (lefts : List Left) (m : MadeOther scene other around tests old new first next lefts) → StoresReachOther other → (f : ℕ)
        → places_from f (other_sites scene other around tests old new first next lefts m) j ≡ Some s → other_makes j f other ≡ true
    other_makes_it no_action around tests old new first next lefts m is f e = no_place f j s (false ≡ true) e
    other_makes_it (one_action a) around tests old new first next lefts m is f e = command_makes a m.arm m.begin m.inside first next m.command is f e

    actions_make_it : (part : Actions) (around : Around) (old new : Building) (first next : ℕ) (m : MadeActions scene part around old new first next) → StoresReachPart part → (f : ℕ)
        → places_from f (actions_sites scene part around old new first next m) j ≡ Some s → part_makes j f part ≡ true
    actions_make_it no_actions around old new first next m is f e = no_place f j s (false ≡ true) e
    actions_make_it (action_then a rest) around old new first next m is f e =
        either_part f (accesses_of a) (command_sites scene a around old m.middle first m.own m.one) (actions_sites scene rest around m.middle new m.own next m.rest) (makes j f a) (part_makes j (f + accesses_of a) rest)
        (places_long scene a around old m.middle first m.own m.one is.0) (λ g. command_makes a around old m.middle first m.own m.one is.0 f g) (λ g. actions_make_it rest around m.middle new m.own next m.rest is.1 (f + accesses_of a) g) e

    groups_make_it : (body : Groups) (around : Around) (old new : Building) (first next : ℕ) (m : MadeGroups scene body around old new first next) → StoresReachGroups body → (f : ℕ)
        → places_from f (groups_sites scene body around old new first next m) j ≡ Some s → groups_make j f body ≡ true
    groups_make_it no_groups around old new first next m is f e = no_place f j s (false ≡ true) e
    groups_make_it (group_then part rest) around old new first next m is f e =
        either_part f (part_accesses part) (actions_sites scene part around old m.middle first m.own m.one) (groups_sites scene rest around m.middle new m.own next m.rest) (part_makes j f part) (groups_make j (f + part_accesses part) rest)
        (actions_long scene part around old m.middle first m.own m.one is.0) (λ g. actions_make_it part around old m.middle first m.own m.one is.0 f g) (λ g. groups_make_it rest around m.middle new m.own next m.rest is.1 (f + part_accesses part) g) e

  pub block_makes : (around : Around) (cs : List Located) (old new : Building) (m : MadeEach scene around cs old new) → AllByRecursion (λ (c : Located). StoresReach c.command) cs → block_sites scene around cs old new m j ≡ Some s → any_makes j cs ≡ true
  block_makes around [] old new m is e = absurd (cc)
  block_makes around (c ∷ cs) old new (mid, (next, (one, rest))) is e =
      by (site_cases scene around (places_from c.first (command_sites scene c.command around old mid c.first next one) j) (block_sites scene around cs mid new rest j) s e) (block_makes around cs mid new rest is.1)
    where
      by : (places_from c.first (command_sites scene c.command around old mid c.first next one) j ≡ Some s) ⊎ (block_sites scene around cs mid new rest j ≡ Some s) → (block_sites scene around cs mid new rest j ≡ Some s → any_makes j cs ≡ true)
          → any_makes j (c ∷ cs) ≡ true
      by (inl own) more = or_first (makes j c.first c.command) (any_makes j cs) (command_makes c.command around old mid c.first next one is.0 c.first own)
      by (inr later) more = or_second (makes j c.first c.command) (any_makes j cs) (more later)
