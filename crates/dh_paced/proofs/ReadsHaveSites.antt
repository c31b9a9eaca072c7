-- Each read of a command of a block has a site.
use Rattle.std.proofs.Common.{◌≡◌, inl, inr, ℕ, ◌+◌, ◌-◌, ◌<◌, ◌≤◌, Some, None, Option, List, [], ◌∷◌, ◌++◌, length, refl, sym, ap, ◌∙◌, arith}
use Rattle.std.specs.Prelude.{slice_get}
use Rattle.std.specs.List.{AllByRecursion}
use Rattle.dh_tree.specs.Indices.{form_of}
use Rattle.dh_tree.specs.PlainTrees.{Term, Action, action, lets, lets_memory, views, assigns, stores, reduces, calls, blocks, decides, repeats, counts, MaybeAction, no_action, one_action, Actions, no_actions, action_then, Groups, no_groups, group_then, ViewPlan}
use Rattle.dh_tree.specs.ViewOffsets.{offsets_of}
use Rattle.dh_tree.specs.Seen.{terms}
use Rattle.dh_meaning.specs.AccessNumbers.{accesses_of, part_accesses, term_accesses, plan_accesses}
use Rattle.dh_meaning.specs.Phases.{Located}
use Rattle.dh_meaning.specs.CoreOf.{way_of}
use Rattle.dh_meaning.specs.Ways.{Hidden, hidden_in}
use Rattle.dh_expressions.specs.declared.scenes.Around.{Around}
use Rattle.dh_expressions.specs.declared.scenes.Scene.{Scene}
use Rattle.dh_expressions.proofs.ListPlaces.{there}
use Rattle.dh_expressions.specs.Evaluated.{known_in}
use Rattle.dh_formed.specs.Formed.{BlockSite}
use Rattle.dh_commands.specs.declared.buildings.Building.{Building}
use Rattle.dh_commands.specs.declared.choices.Left.{Left}
use Rattle.dh_commands.specs.MadeCommands.{MadeActions, MadeCommand, MadeGroups, MadeOther}
use Rattle.dh_laid.specs.BlockSites.{HasSites, MadeEach, actions_sites, all_there, block_sites, command_sites, groups_sites, other_sites, places_from, site_or, target_sites, term_sites, test_sites, terms_sites, view_sites}
use Rattle.dh_laid.specs.Laid.{aim_accesses}
use Rattle.dh_laid.specs.LaidNumbers.{StoresReach, StoresReachGroups, StoresReachOther, StoresReachPart}
use Rattle.dh_laid.proofs.SitesLaid.{PlacesAgree, actions_sites_long, all_sites, command_sites_long, places_behind, places_front, places_own, sites_own, target_sites_long, term_sites_long, test_places_long, two_long, terms_sites_long}
use Rattle.dh_paced.specs.Paced.{IsIn, IsReadGroups, IsReadIn, IsReadOfEach, IsReadOther, IsReadPart, IsReadOfView}
use Rattle.dh_paced.proofs.LevelsOfCommands.{aims_fewer}

abbrev pub HasSite : (sites : ℕ → Option BlockSite) → (number : ℕ) → Type 0
HasSite sites number = (s : BlockSite) × (sites number ≡ Some s)

site_among : (sites : ℕ → Option BlockSite) (first count : ℕ) (ss : List BlockSite) → count ≤ length ss → HasSites sites first ss → (number : ℕ) → IsIn first count number → HasSite sites number
site_among sites first count ss few h number i =
    let found : (s : BlockSite) × (slice_get ss (number - first) ≡ Some s) = there ss (number - first) (let f = i.0 in let b = i.1 in within (length ss) f b few) in
    (found.0, ap sites (sym (together i.0)) ∙ h (number - first) found.0 found.1)
  where
    within : (l : ℕ) → first ≤ number → number < first + count → count ≤ l → number - first < l
    within l f b e = omega (arith, f, b, e)

    together : first ≤ number → first + (number - first) ≡ number
    together f = omega (arith, f)

module _ (scene : Scene) (sites : ℕ → Option BlockSite) where
  term_site : (around : Around) (first : ℕ) (t : Term) → PlacesAgree sites first (all_there (term_sites scene around t)) → (number : ℕ) → IsIn first (term_accesses t) number → HasSite sites number
  term_site around first t h = site_among sites first (term_accesses t) (term_sites scene around t) (same (length (term_sites scene around t)) (term_accesses t) (term_sites_long scene around t)) (all_sites sites first (term_sites scene around t) h)
    where
      same : (a b : ℕ) → a ≡ b → b ≤ a
      same a b e = omega (arith, e)

  view_site : (hs : List Hidden) (form : ViewPlan) (around : Around) (n : ℕ) → PlacesAgree sites n (view_sites scene around hs form) → (number : ℕ) → IsReadOfView hs n form number → HasSite sites number
  view_site [] form around n h number i = absurd i
  view_site (x ∷ xs) form around n h number i =
      site_among sites n (plan_accesses form) (terms_sites scene around (terms (offsets_of form))) (same (length (terms_sites scene around (terms (offsets_of form)))) (plan_accesses form) (terms_sites_long scene around (terms (offsets_of form))))
      (all_sites sites n (terms_sites scene around (terms (offsets_of form))) h) number i
    where
      same : (a b : ℕ) → a ≡ b → b ≤ a
      same a b e = omega (arith, e)

  mutual
    pub read_site : (a : Action) (around : Around) (old new : Building) (first next : ℕ) (m : MadeCommand scene a around old new first next) (n : ℕ) → StoresReach a → PlacesAgree sites n (command_sites scene a around old new first next m)
        → (number : ℕ) → IsReadIn (known_in scene) n a number → HasSite sites number
    read_site (action id place (lets name declared (Some value))) around old new first next m n reach h number i = term_site around n value h number i
    read_site (action id place (lets name declared None)) around old new first next m n reach h number i = absurd i
    read_site (action id place (assigns target value)) around old new first next m n reach h number i = term_site around n value h number i
    read_site (action id place (stores target value)) around old new first next m n reach h number i =
        site_among sites n (term_accesses value + aim_accesses (form_of target)) (term_sites scene around value ++ target_sites scene around target)
        (few (term_accesses value) (aim_accesses (form_of target)) (term_accesses target) (length (term_sites scene around value ++ target_sites scene around target)) (aims_fewer target reach)
        (two_long (term_sites scene around value) (target_sites scene around target) (term_accesses value) (term_accesses target) (term_sites_long scene around value) (target_sites_long scene around target reach)))
        (all_sites sites n (term_sites scene around value ++ target_sites scene around target) h) number i
      where
        few : (a b d l : ℕ) → b + 1 ≡ d → l ≡ a + d → a + b ≤ l
        few a b d l e f = omega (arith, e, f)
    read_site (action id place (reduces target op value)) around old new first next m n reach h number i = term_site around n value h number i
    read_site (action id place (decides test chosen other)) around old new first next m n reach h number (inl i) =
        term_site around n test (places_front sites n (all_there (term_sites scene around test)) _ h) number i
    read_site (action id place (decides test chosen other)) around old new first next m n reach h number (inr (inl i)) =
        read_site chosen m.chosen.arm m.chosen.begin m.chosen.inside m.own m.behind m.chosen.command (n + term_accesses test) reach.0
        (places_front sites (n + term_accesses test) (command_sites scene chosen m.chosen.arm m.chosen.begin m.chosen.inside m.own m.behind m.chosen.command) _
        (places_behind sites n (n + term_accesses test) (all_there (term_sites scene around test)) _ (ap (λ (l : ℕ). n + l) (sym (test_places_long scene around test))) h)) number i
    read_site (action id place (decides test chosen other)) around old new first next m n reach h number (inr (inr i)) =
        read_other_site other around m.tests m.after_chosen m.after_other m.behind next m.other_left m.other (n + term_accesses test + accesses_of chosen) reach.1
        (places_behind sites (n + term_accesses test) (n + term_accesses test + accesses_of chosen) (command_sites scene chosen m.chosen.arm m.chosen.begin m.chosen.inside m.own m.behind m.chosen.command) _
        (ap (λ (l : ℕ). n + term_accesses test + l) (sym (command_sites_long scene chosen m.chosen.arm m.chosen.begin m.chosen.inside m.own m.behind m.chosen.command reach.0)))
        (places_behind sites n (n + term_accesses test) (all_there (term_sites scene around test)) _ (ap (λ (l : ℕ). n + l) (sym (test_places_long scene around test))) h)) number i
    read_site (action id place (blocks body)) around old new first next m n reach h number i = read_groups_site body around old new first next m n reach h number i
    read_site (action id place (lets_memory name shape shape_places value)) around old new first next m n reach h number i = absurd i
    read_site (action id place (views name parent form)) around old new first next m n reach h number i = view_site (hidden_in (way_of (known_in scene) name)) form around n h number i
    read_site (action id place (calls function arguments)) around old new first next m n reach h number i = absurd i
    read_site (action id place (repeats test body)) around old new first next m n reach h number i = absurd i
    read_site (action id place (counts iterator declared low high factor body combine combine_place)) around old new first next m n reach h number i = absurd i

    read_other_site : (other : MaybeAction) (around : Around) (tests : List ℕ) (old new : Building) (first next : ℕ) (lefts : List Left) (m : MadeOther scene other around tests old new first next lefts) (n : ℕ) → StoresReachOther other
        → PlacesAgree sites n (other_sites scene other around tests old new first next lefts m) → (number : ℕ) → IsReadOther (known_in scene) n other number → HasSite sites number
    read_other_site no_action around tests old new first next lefts m n reach h number i = absurd i
    read_other_site (one_action a) around tests old new first next lefts m n reach h number i = read_site a m.arm m.begin m.inside first next m.command n reach h number i

    read_part_site : (part : Actions) (around : Around) (old new : Building) (first next : ℕ) (m : MadeActions scene part around old new first next) (n : ℕ) → StoresReachPart part → PlacesAgree sites n (actions_sites scene part around old new first next m)
        → (number : ℕ) → IsReadPart (known_in scene) n part number → HasSite sites number
    read_part_site no_actions around old new first next m n reach h number i = absurd i
    read_part_site (action_then a rest) around old new first next m n reach h number (inl i) =
        read_site a around old m.middle first m.own m.one n reach.0 (places_front sites n (command_sites scene a around old m.middle first m.own m.one) (actions_sites scene rest around m.middle new m.own next m.rest) h) number i
    read_part_site (action_then a rest) around old new first next m n reach h number (inr i) =
        read_part_site rest around m.middle new m.own next m.rest (n + accesses_of a) reach.1
        (places_behind sites n (n + accesses_of a) (command_sites scene a around old m.middle first m.own m.one) (actions_sites scene rest around m.middle new m.own next m.rest)
        (ap (λ (l : ℕ). n + l) (sym (command_sites_long scene a around old m.middle first m.own m.one reach.0))) h) number i

    read_groups_site : (body : Groups) (around : Around) (old new : Building) (first next : ℕ) (m : MadeGroups scene body around old new first next) (n : ℕ) → StoresReachGroups body → PlacesAgree sites n (groups_sites scene body around old new first next m)
        → (number : ℕ) → IsReadGroups (known_in scene) n body number → HasSite sites number
    read_groups_site no_groups around old new first next m n reach h number i = absurd i
    read_groups_site (group_then part rest) around old new first next m n reach h number (inl i) =
        read_part_site part around old m.middle first m.own m.one n reach.0 (places_front sites n (actions_sites scene part around old m.middle first m.own m.one) (groups_sites scene rest around m.middle new m.own next m.rest) h) number i
    read_groups_site (group_then part rest) around old new first next m n reach h number (inr i) =
        read_groups_site rest around m.middle new m.own next m.rest (n + part_accesses part) reach.1
        (places_behind sites n (n + part_accesses part) (actions_sites scene part around old m.middle first m.own m.one) (groups_sites scene rest around m.middle new m.own next m.rest)
        (ap (λ (l : ℕ). n + l) (sym (actions_sites_long scene part around old m.middle first m.own m.one reach.0))) h) number i

-- Blocks.

some_or : (o p : Option BlockSite) → (s : BlockSite) × (p ≡ Some s) → (s : BlockSite) × (site_or o p ≡ Some s)
some_or None p h = h
some_or (Some r) p h = (r, refl)

pub each_read_site : (scene : Scene) (around : Around) (cs : List Located) (old new : Building) (m : MadeEach scene around cs old new) → AllByRecursion (λ (c : Located). StoresReach c.command) cs
    → (number : ℕ) → IsReadOfEach (known_in scene) cs number → HasSite (block_sites scene around cs old new m) number
each_read_site scene around [] old new m reach number i = absurd i
each_read_site scene around (c ∷ cs) old new (mid, (next, (m, rest))) reach number (inl i) =
    let own : HasSite (λ k. places_from c.first (command_sites scene c.command around old mid c.first next m) k) number =
    read_site scene (λ k. places_from c.first (command_sites scene c.command around old mid c.first next m) k) c.command around old mid c.first next m c.first reach.0
    (λ k o at. places_own c.first (command_sites scene c.command around old mid c.first next m) k o at) number i in
    (own.0, ap (λ (o : Option BlockSite). site_or o (block_sites scene around cs mid new rest number)) own.1)
each_read_site scene around (c ∷ cs) old new (mid, (next, (m, rest))) reach number (inr i) =
    some_or (places_from c.first (command_sites scene c.command around old mid c.first next m) number) (block_sites scene around cs mid new rest number) (each_read_site scene around cs mid new rest reach.1 number i)

pub test_read_site : (scene : Scene) (around : Around) (first : ℕ) (t : Term) (number : ℕ) → IsIn first (term_accesses t) number → HasSite (test_sites scene around first t) number
test_read_site scene around first t number i =
    site_among (test_sites scene around first t) first (term_accesses t) (term_sites scene around t) (same (length (term_sites scene around t)) (term_accesses t) (term_sites_long scene around t))
    (λ k s at. sites_own first (term_sites scene around t) k s at) number i
  where
    same : (a b : ℕ) → a ≡ b → b ≤ a
    same a b e = omega (arith, e)
