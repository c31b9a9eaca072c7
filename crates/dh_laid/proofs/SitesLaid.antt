-- How many sites a command has, which number has which, and that numbers of other commands have none of them.
use Rattle.std.proofs.Common.{◌≡◌, ◌<◌, ◌≤◌, ◌+◌, ◌-◌, ℕ, zero, suc, List, Some, None, ap, ◌∙◌, length, arith, refl}
use Rattle.std.specs.Prelude.{nat_lt, Bool as Truth, true, false, if◌then◌else◌, [], ◌∷◌, ◌++◌, Option, option_map, slice_get}
use Rattle.std.specs.List.{AllByRecursion}
use Rattle.std.proofs.lemmas.Bool.Decides.{nat_tests}
use Rattle.std.proofs.lemmas.List.{length-append, length-map, length-replicate}
use Rattle.std.proofs.lemmas.Option.{slice_get-map, slice_get_past}
use Rattle.dh_tree.specs.Indices.{form_of}
use Rattle.dh_tree.specs.PlainTrees as plain
use Rattle.dh_tree.specs.PlainTrees.{Term, Action, action, ActionForm, lets, lets_memory, views, assigns, stores, reduces, calls, blocks, decides, repeats, counts, MaybeAction, no_action, one_action, Actions, no_actions, action_then, Groups, no_groups, group_then, ViewPlan}
use Rattle.dh_tree.specs.Seen.{terms}
use Rattle.dh_tree.specs.ViewOffsets.{offsets_of}
use Rattle.dh_meaning.specs.AccessNumbers.{accesses_of, groups_accesses, other_accesses, part_accesses, plan_accesses, term_accesses, terms_accesses}
use Rattle.dh_meaning.specs.CoreOf.{way_of}
use Rattle.dh_meaning.specs.Phases.{Located}
use Rattle.dh_meaning.specs.Ways.{Hidden, hidden_in}
use Rattle.dh_expressions.specs.declared.scenes.Around.{Around}
use Rattle.dh_expressions.specs.declared.scenes.Scene.{Scene}
use Rattle.dh_expressions.specs.Evaluated.{known_in}
use Rattle.dh_expressions.proofs.Pushing.{at_seam, in_front}
use Rattle.dh_formed.specs.Formed.{BlockSite}
use Rattle.dh_commands.specs.declared.buildings.Building.{Building}
use Rattle.dh_commands.specs.declared.choices.Left.{Left}
use Rattle.dh_commands.specs.MadeCommands.{MadeActions, MadeCommand, MadeGroups, MadeOther}
use Rattle.dh_laid.specs.BlockSites.{HasSites, MadeEach, actions_sites, all_there, block_sites, command_sites, groups_sites, none_there, one_site, other_sites, places_from, site_or, sites_from, target_sites, term_sites, terms_sites, view_sites}
use Rattle.dh_laid.specs.LaidNumbers.{IsAccessForm, StoresReach, StoresReachGroups, StoresReachOther, StoresReachPart}
use Rattle.dh_laid.specs.LaidUses.{AreAlong}

-- Numbers.

pub sites_low : (first : ℕ) (ss : List BlockSite) (number : ℕ) → number < first → sites_from first ss number ≡ None
sites_low first ss number low = ap (λ (b : Truth). if b then None else slice_get ss (number - first)) (test first number low)
  where
    test : (f n : ℕ) → n < f → nat_lt n f ≡ true
    test f n h = grind (arith, nat_tests, h)

pub sites_own : (first : ℕ) (ss : List BlockSite) (i : ℕ) (s : BlockSite) → slice_get ss i ≡ Some s → sites_from first ss (first + i) ≡ Some s
sites_own first ss i s e = ap (λ (b : Truth). if b then None else slice_get ss (first + i - first)) (low first i) ∙ (ap (λ j. slice_get ss j) (same first i) ∙ e)
  where
    low : (a i : ℕ) → nat_lt (a + i) a ≡ false
    low a i = grind (arith, nat_tests)

    same : (a i : ℕ) → a + i - a ≡ i
    same a i = omega arith

pub sites_past : (first : ℕ) (ss : List BlockSite) (number : ℕ) → first + length ss ≤ number → sites_from first ss number ≡ None
sites_past first ss number h = by (nat_lt number first)
  where
    by : (b : Truth) → (if b then None else slice_get ss (number - first)) ≡ None
    by true = refl
    by false = slice_get_past ss (number - first) (omega (arith, h))

-- so of the accesses of a command, of which some have none

pub places_low : (first : ℕ) (ss : List (Option BlockSite)) (number : ℕ) → number < first → places_from first ss number ≡ None
places_low first ss number low = ap (λ (b : Truth). if b then None else one_site (slice_get ss (number - first))) (test first number low)
  where
    test : (f n : ℕ) → n < f → nat_lt n f ≡ true
    test f n h = grind (arith, nat_tests, h)

pub places_own : (first : ℕ) (ss : List (Option BlockSite)) (i : ℕ) (o : Option BlockSite) → slice_get ss i ≡ Some o → places_from first ss (first + i) ≡ o
places_own first ss i o e = ap (λ (b : Truth). if b then None else one_site (slice_get ss (first + i - first))) (low first i) ∙ (ap (λ j. one_site (slice_get ss j)) (same first i) ∙ ap one_site e)
  where
    low : (a i : ℕ) → nat_lt (a + i) a ≡ false
    low a i = grind (arith, nat_tests)

    same : (a i : ℕ) → a + i - a ≡ i
    same a i = omega arith

pub places_past : (first : ℕ) (ss : List (Option BlockSite)) (number : ℕ) → first + length ss ≤ number → places_from first ss number ≡ None
places_past first ss number h = by (nat_lt number first)
  where
    by : (b : Truth) → (if b then None else one_site (slice_get ss (number - first))) ≡ None
    by true = refl
    by false = ap one_site (slice_get_past ss (number - first) (omega (arith, h)))

-- The places of a list are those of the numbers from a first one on: what has no site there has none.
abbrev pub PlacesAgree : (sites : ℕ → Option BlockSite) → (first : ℕ) → List (Option BlockSite) → Type 0
PlacesAgree sites first ss = (i : ℕ) (o : Option BlockSite) → slice_get ss i ≡ Some o → sites (first + i) ≡ o

pub behind_place : {A : Type 0} (xs ys : List A) (i : ℕ) (s : A) → slice_get ys i ≡ Some s → slice_get (xs ++ ys) (length xs + i) ≡ Some s
behind_place [] ys i s e = ap (λ j. slice_get ys j) (none i) ∙ e
  where
    none : (i : ℕ) → 0 + i ≡ i
    none i = omega arith
behind_place (x ∷ xs) ys i s e = ap (λ j. slice_get (x ∷ (xs ++ ys)) j) (more (length xs) i) ∙ behind_place xs ys i s e
  where
    more : (n i : ℕ) → suc n + i ≡ suc (n + i)
    more n i = omega arith

pub moved : (f o n i : ℕ) → o ≡ f + n → o + i ≡ f + (n + i)
moved f o n i e = omega (arith, e)

pub sites_front : (sites : ℕ → Option BlockSite) (first : ℕ) (xs ys : List BlockSite) → HasSites sites first (xs ++ ys) → HasSites sites first xs
sites_front sites first xs ys h i s e = h i s (in_front xs ys i s e)

pub sites_behind : (sites : ℕ → Option BlockSite) (first own : ℕ) (xs ys : List BlockSite) → own ≡ first + length xs → HasSites sites first (xs ++ ys) → HasSites sites own ys
sites_behind sites first own xs ys is h i s e = ap sites (moved first own (length xs) i is) ∙ h (length xs + i) s (behind_place xs ys i s e)

pub sites_last : (sites : ℕ → Option BlockSite) (first own : ℕ) (xs : List BlockSite) (y : BlockSite) → own ≡ first + length xs → HasSites sites first (xs ++ y ∷ []) → sites own ≡ Some y
sites_last sites first own xs y is h = ap sites is ∙ h (length xs) y (at_seam xs y)

pub places_front : (sites : ℕ → Option BlockSite) (first : ℕ) (xs ys : List (Option BlockSite)) → PlacesAgree sites first (xs ++ ys) → PlacesAgree sites first xs
places_front sites first xs ys h i o e = h i o (in_front xs ys i o e)

pub places_behind : (sites : ℕ → Option BlockSite) (first own : ℕ) (xs ys : List (Option BlockSite)) → own ≡ first + length xs → PlacesAgree sites first (xs ++ ys) → PlacesAgree sites own ys
places_behind sites first own xs ys is h i o e = ap sites (moved first own (length xs) i is) ∙ h (length xs + i) o (behind_place xs ys i o e)

pub all_sites : (sites : ℕ → Option BlockSite) (first : ℕ) (ss : List BlockSite) → PlacesAgree sites first (all_there ss) → HasSites sites first ss
all_sites sites first ss h i s e = h i (Some s) (slice_get-map (λ (t : BlockSite). Some t) ss i ∙ ap (option_map (λ (t : BlockSite). Some t)) e)

-- none of so many has a site
pub no_sites : (sites : ℕ → Option BlockSite) (first count : ℕ) → PlacesAgree sites first (none_there count) → (m : ℕ) → first ≤ m → m < first + count → sites m ≡ None
no_sites sites first count h m from below = ap sites (again first m from) ∙ h (m - first) None (place count (m - first) (omega (arith, from, below)))
  where
    again : (f m : ℕ) → f ≤ m → m ≡ f + (m - f)
    again f m h = omega (arith, h)

    place : (n i : ℕ) → i < n → slice_get (none_there n) i ≡ Some None
    place zero i h = absurd (never i h)
      where
        never : (i : ℕ) → i < 0 → ⊥
        never i h = omega (arith, h)
    place (suc n) zero h = refl
    place (suc n) (suc i) h = place n i (omega (arith, h))

-- Lengths.

no_more : (n : ℕ) → n ≡ n + 0
no_more n = omega arith

none_before : (n : ℕ) → n ≡ 0 + n
none_before n = omega arith

pub two_long : {A : Type 0} (xs ys : List A) (a b : ℕ) → length xs ≡ a → length ys ≡ b → length (xs ++ ys) ≡ a + b
two_long xs ys a b e g = length-append xs ys ∙ (ap (λ n. n + length ys) e ∙ ap (λ n. a + n) g)

last_long : {A : Type 0} (xs : List A) (y : A) (a : ℕ) → length xs ≡ a → length (xs ++ y ∷ []) ≡ suc a
last_long xs y a e = length-append xs (y ∷ []) ∙ (ap (λ n. n + 1) e ∙ one a)
  where
    one : (n : ℕ) → n + 1 ≡ suc n
    one n = omega arith

module _ (scene : Scene) (around : Around) where
  mutual
    pub term_sites_long : (t : Term) → length (term_sites scene around t) ≡ term_accesses t
    term_sites_long (plain.term place k (plain.number negative z)) = refl
    term_sites_long (plain.term place k (plain.truth_value b)) = refl
    term_sites_long (plain.term place k (plain.named r)) = refl
    term_sites_long (plain.term place k (plain.accessed r ts)) = last_long (terms_sites scene around ts) _ (terms_accesses ts) (terms_sites_long ts)
    term_sites_long (plain.term place k (plain.in_bank r bank at row)) = last_long (term_sites scene around row) _ (term_accesses row) (term_sites_long row)
    term_sites_long (plain.term place k (plain.applied op left right)) =
        two_long (term_sites scene around left) (term_sites scene around right) (term_accesses left) (term_accesses right) (term_sites_long left) (term_sites_long right)
    term_sites_long (plain.term place k (plain.converted inner to)) = term_sites_long inner

    pub terms_sites_long : (ts : plain.Terms) → length (terms_sites scene around ts) ≡ terms_accesses ts
    terms_sites_long plain.no_terms = refl
    terms_sites_long (plain.term_then t ts) = two_long (term_sites scene around t) (terms_sites scene around ts) (term_accesses t) (terms_accesses ts) (term_sites_long t) (terms_sites_long ts)

  pub target_sites_long : (t : Term) → IsAccessForm (form_of t) → length (target_sites scene around t) ≡ term_accesses t
  target_sites_long (plain.term place k (plain.accessed r ts)) is = last_long (terms_sites scene around ts) _ (terms_accesses ts) (terms_sites_long ts)
  target_sites_long (plain.term place k (plain.in_bank r bank at row)) is = last_long (term_sites scene around row) _ (term_accesses row) (term_sites_long row)
  target_sites_long (plain.term place k (plain.number negative z)) is = absurd is
  target_sites_long (plain.term place k (plain.truth_value b)) is = absurd is
  target_sites_long (plain.term place k (plain.named r)) is = absurd is
  target_sites_long (plain.term place k (plain.applied op l r)) is = absurd is
  target_sites_long (plain.term place k (plain.converted inner to)) is = absurd is

  all_long : (ss : List BlockSite) (count : ℕ) → length ss ≡ count → length (all_there ss) ≡ count
  all_long ss count long = length-map ss (λ (s : BlockSite). Some s) ∙ long

  pub none_long : (count : ℕ) → length (none_there count) ≡ count
  none_long count = length-replicate count None

  pub test_places_long : (t : Term) → length (all_there (term_sites scene around t)) ≡ term_accesses t
  test_places_long t = all_long (term_sites scene around t) (term_accesses t) (term_sites_long t)

  pub store_places_long : (target t : Term) → IsAccessForm (form_of target) → length (all_there (term_sites scene around t ++ target_sites scene around target)) ≡ term_accesses t + term_accesses target
  store_places_long target t is =
      all_long (term_sites scene around t ++ target_sites scene around target) (term_accesses t + term_accesses target)
      (two_long (term_sites scene around t) (target_sites scene around target) (term_accesses t) (term_accesses target) (term_sites_long t) (target_sites_long target is))

module _ (scene : Scene) where
  pub view_sites_long : (hidden : List Hidden) (form : ViewPlan) (around : Around) → length (view_sites scene around hidden form) ≡ plan_accesses form + 0
  view_sites_long [] form around = none_long scene around (plan_accesses form + 0)
  view_sites_long (h ∷ hs) form around = all_long scene around (terms_sites scene around (terms (offsets_of form))) (plan_accesses form) (terms_sites_long scene around (terms (offsets_of form))) ∙ no_more (plan_accesses form)

  mutual
    pub command_sites_long : (a : Action) (around : Around) (old new : Building) (first next : ℕ) (m : MadeCommand scene a around old new first next) → StoresReach a
        → length (command_sites scene a around old new first next m) ≡ accesses_of a
    command_sites_long (action id place (lets name declared (Some value))) around old new first next m is = test_places_long scene around value ∙ no_more (term_accesses value)
    command_sites_long (action id place (lets name declared None)) around old new first next m is = no_more 0
    command_sites_long (action id place (assigns target value)) around old new first next m is = test_places_long scene around value ∙ no_more (term_accesses value)
    command_sites_long (action id place (stores target value)) around old new first next m is =
        store_places_long scene around target value is ∙ no_more (term_accesses value + term_accesses target)
    command_sites_long (action id place (reduces target op value)) around old new first next m is = test_places_long scene around value ∙ no_more (term_accesses value)
    command_sites_long (action id place (decides test chosen other)) around old new first next m is =
        two_long (all_there (term_sites scene around test)) _ (term_accesses test) (accesses_of chosen + other_accesses other) (test_places_long scene around test)
        (two_long (command_sites scene chosen m.chosen.arm m.chosen.begin m.chosen.inside m.own m.behind m.chosen.command)
        (other_sites scene other around m.tests m.after_chosen m.after_other m.behind next m.other_left m.other) (accesses_of chosen) (other_accesses other)
        (command_sites_long chosen m.chosen.arm m.chosen.begin m.chosen.inside m.own m.behind m.chosen.command is.0)
        (other_sites_long other around m.tests m.after_chosen m.after_other m.behind next m.other_left m.other is.1))
    command_sites_long (action id place (blocks body)) around old new first next m is = groups_sites_long body around old new first next m is ∙ none_before (groups_accesses body)
    command_sites_long (action id place (lets_memory name shape shape_places value)) around old new first next m is = no_more 0
    command_sites_long (action id place (views name parent form)) around old new first next m is = view_sites_long (hidden_in (way_of (known_in scene) name)) form around
    command_sites_long (action id place (calls function arguments)) around old new first next m is = no_more 0
    command_sites_long (action id place (repeats test body)) around old new first next m is = none_long scene around (term_accesses test + accesses_of body)
    command_sites_long (action id place (counts iterator declared low high factor body combine combine_place)) around old new first next m is =
        none_long scene around (accesses_of body + other_accesses combine) ∙ none_before (accesses_of body + other_accesses combine)

    pub other_sites_long : (other : MaybeAction) (around : Around) (tests : List ℕ) (old new : Building) (first next : ℕ) (lefts : List Left) (m : MadeOther scene other around tests old new first next lefts)
        → StoresReachOther other → length (other_sites scene other around tests old new first next lefts m) ≡ other_accesses other
    other_sites_long no_action around tests old new first next lefts m is = refl
    other_sites_long (one_action a) around tests old new first next lefts m is = command_sites_long a m.arm m.begin m.inside first next m.command is

    pub actions_sites_long : (part : Actions) (around : Around) (old new : Building) (first next : ℕ) (m : MadeActions scene part around old new first next) → StoresReachPart part
        → length (actions_sites scene part around old new first next m) ≡ part_accesses part
    actions_sites_long no_actions around old new first next m is = refl
    actions_sites_long (action_then a rest) around old new first next m is =
        two_long (command_sites scene a around old m.middle first m.own m.one) (actions_sites scene rest around m.middle new m.own next m.rest) (accesses_of a) (part_accesses rest)
        (command_sites_long a around old m.middle first m.own m.one is.0) (actions_sites_long rest around m.middle new m.own next m.rest is.1)

    pub groups_sites_long : (body : Groups) (around : Around) (old new : Building) (first next : ℕ) (m : MadeGroups scene body around old new first next) → StoresReachGroups body
        → length (groups_sites scene body around old new first next m) ≡ groups_accesses body
    groups_sites_long no_groups around old new first next m is = refl
    groups_sites_long (group_then part rest) around old new first next m is =
        two_long (actions_sites scene part around old m.middle first m.own m.one) (groups_sites scene rest around m.middle new m.own next m.rest) (part_accesses part) (groups_accesses rest)
        (actions_sites_long part around old m.middle first m.own m.one is.0) (groups_sites_long rest around m.middle new m.own next m.rest is.1)

-- Blocks.

pub along_reach : (from : ℕ) (cs : List Located) → AreAlong from cs → AllByRecursion (λ (c : Located). StoresReach c.command) cs
along_reach from [] h = tt
along_reach from (c ∷ cs) h = (h.0.reaches, along_reach (c.first + accesses_of c.command) cs h.1)

-- numbers before those of all commands have no site
pub block_sites_low : (scene : Scene) (around : Around) (cs : List Located) (from number : ℕ) (old new : Building) (m : MadeEach scene around cs old new) → AreAlong from cs → number < from
    → block_sites scene around cs old new m number ≡ None
block_sites_low scene around [] from number old new m along low = refl
block_sites_low scene around (c ∷ cs) from number old new (mid, (next, (m, rest))) along low =
    ap (λ (s : Option BlockSite). site_or s (block_sites scene around cs mid new rest number)) (places_low c.first (command_sites scene c.command around old mid c.first next m) number (let b = along.0.behind in omega (arith, b, low)))
    ∙ block_sites_low scene around cs (c.first + accesses_of c.command) number mid new rest along.1 (let b = along.0.behind in omega (arith, b, low))
