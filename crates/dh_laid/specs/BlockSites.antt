-- Where the accesses of a block stand, by their numbers: each of its memory, at the paths that stand round it and where
-- the guards of its arms hold, which only what was put down tells. A block is of commands, put down one after the other,
-- or of a test. All that is stated of the operations of blocks is stated of these sites. A loop in an arm has no turn, and
-- offsets that no variable keeps are not evaluated: their accesses have their numbers all the same, but they are put down
-- nowhere and have no site.
use Rattle.std.specs.Prelude.{◌≡◌, ℕ, ◌+◌, ◌-◌, nat_lt, true, false, if◌then◌else◌, List, [], ◌∷◌, ◌++◌, map, replicate, slice_get, Option, Some, None}
use Rattle.dh_base.specs.declared.places.Place.{Place}
use Rattle.dh_tree.specs.PlainTrees as plain
use Rattle.dh_tree.specs.PlainTrees.{Action, action, ActionForm, lets, lets_memory, views, assigns, stores, reduces, calls, blocks, decides, repeats, counts, MaybeAction, no_action, one_action, Actions, no_actions, action_then, Groups, no_groups, group_then, ViewPlan}
use Rattle.dh_tree.specs.Seen.{terms}
use Rattle.dh_tree.specs.ViewOffsets.{offsets_of}
use Rattle.dh_meaning.specs.AccessNumbers.{accesses_of, other_accesses, plan_accesses, term_accesses}
use Rattle.dh_meaning.specs.CoreOf.{memory_of, way_of}
use Rattle.dh_meaning.specs.Phases.{Located}
use Rattle.dh_meaning.specs.Ways.{Hidden, hidden_in}
use Rattle.dh_expressions.specs.declared.scenes.Around.{Around}
use Rattle.dh_expressions.specs.declared.scenes.Scene.{Scene}
use Rattle.dh_expressions.specs.Evaluated.{known_in}
use Rattle.dh_expressions.specs.Standings.{standing_at}
use Rattle.dh_formed.specs.Formed.{BlockSite}
use Rattle.dh_commands.specs.declared.buildings.Building.{Building}
use Rattle.dh_commands.specs.declared.choices.Left.{Left}
use Rattle.dh_commands.specs.MadeCommands.{MadeActions, MadeCommand, MadeGroups, MadeActionForm, MadeOther}

-- In order.

module _ (scene : Scene) (around : Around) where
  abbrev pub read_site : (memory : ℕ) → Place → plain.TermForm → BlockSite
  read_site memory place form = record { memory = memory; standing = standing_at scene around memory place form false }

  abbrev pub write_site : (memory : ℕ) → Place → plain.TermForm → BlockSite
  write_site memory place form = record { memory = memory; standing = standing_at scene around memory place form true }

  abbrev mutual
    pub term_sites : plain.Term → List BlockSite
    term_sites (plain.term place kind form) = form_sites place form

    pub form_sites : Place → plain.TermForm → List BlockSite
    form_sites place (plain.number negative z) = []
    form_sites place (plain.truth_value b) = []
    form_sites place (plain.named r) = []
    form_sites place (plain.accessed r ts) = terms_sites ts ++ read_site (memory_of (known_in scene) r) place (plain.accessed r ts) ∷ []
    form_sites place (plain.in_bank r bank at row) = term_sites row ++ read_site (memory_of (known_in scene) r) place (plain.in_bank r bank at row) ∷ []
    form_sites place (plain.applied op left right) = term_sites left ++ term_sites right
    form_sites place (plain.converted inner to) = term_sites inner

    pub terms_sites : plain.Terms → List BlockSite
    terms_sites plain.no_terms = []
    terms_sites (plain.term_then t ts) = term_sites t ++ terms_sites ts

  -- the indices of a target, and its write
  abbrev pub target_sites : plain.Term → List BlockSite
  target_sites (plain.term place k (plain.accessed r ts)) = terms_sites ts ++ write_site (memory_of (known_in scene) r) place (plain.accessed r ts) ∷ []
  target_sites (plain.term place k (plain.in_bank r bank at row)) = term_sites row ++ write_site (memory_of (known_in scene) r) place (plain.in_bank r bank at row) ∷ []
  target_sites (plain.term place k (plain.number negative z)) = []
  target_sites (plain.term place k (plain.truth_value b)) = []
  target_sites (plain.term place k (plain.named r)) = []
  target_sites (plain.term place k (plain.applied op left right)) = []
  target_sites (plain.term place k (plain.converted inner to)) = []

-- accesses that have sites, and accesses that have none
abbrev pub all_there : List BlockSite → List (Option BlockSite)
all_there ss = map (λ (s : BlockSite). Some s) ss

abbrev pub none_there : (count : ℕ) → List (Option BlockSite)
none_there count = replicate count None

-- those of the offsets of a view, where a variable keeps one on its way
abbrev pub view_sites : Scene → Around → List Hidden → ViewPlan → List (Option BlockSite)
view_sites scene around [] form = none_there (plan_accesses form + 0)
view_sites scene around (h ∷ hs) form = all_there (terms_sites scene around (terms (offsets_of form)))

module _ (scene : Scene) where
  abbrev mutual
    -- as many as the command has accesses
    pub command_sites : (a : Action) → (around : Around) → (old new : Building) → (first next : ℕ) → MadeCommand scene a around old new first next → List (Option BlockSite)
    command_sites (action id place form) around old new first next m = action_sites form around old new first next m

    pub action_sites : (form : ActionForm) → (around : Around) → (old new : Building) → (first next : ℕ) → MadeActionForm scene form around old new first next → List (Option BlockSite)
    action_sites (lets name declared (Some value)) around old new first next m = all_there (term_sites scene around value)
    action_sites (lets name declared None) around old new first next m = []
    action_sites (assigns target value) around old new first next m = all_there (term_sites scene around value)
    action_sites (stores target value) around old new first next m = all_there (term_sites scene around value ++ target_sites scene around target)
    action_sites (reduces target op value) around old new first next m = all_there (term_sites scene around value)
    action_sites (decides test chosen other) around old new first next m =
        all_there (term_sites scene around test)
        ++ (command_sites chosen m.chosen.arm m.chosen.begin m.chosen.inside m.own m.behind m.chosen.command ++ other_sites other around m.tests m.after_chosen m.after_other m.behind next m.other_left m.other)
    action_sites (blocks body) around old new first next m = groups_sites body around old new first next m
    action_sites (lets_memory name shape shape_places value) around old new first next m = []
    action_sites (calls function arguments) around old new first next m = []
    action_sites (views name parent form) around old new first next m = view_sites scene around (hidden_in (way_of (known_in scene) name)) form
    -- loops without turns
    action_sites (repeats test body) around old new first next m = none_there (term_accesses test + accesses_of body)
    action_sites (counts iterator declared low high factor body combine combine_place) around old new first next m = none_there (accesses_of body + other_accesses combine)

    pub other_sites : (other : MaybeAction) → (around : Around) → (tests : List ℕ) → (old new : Building) → (first next : ℕ) → (lefts : List Left) → MadeOther scene other around tests old new first next lefts → List (Option BlockSite)
    other_sites no_action around tests old new first next lefts m = []
    other_sites (one_action a) around tests old new first next lefts m = command_sites a m.arm m.begin m.inside first next m.command

    pub actions_sites : (part : Actions) → (around : Around) → (old new : Building) → (first next : ℕ) → MadeActions scene part around old new first next → List (Option BlockSite)
    actions_sites no_actions around old new first next m = []
    actions_sites (action_then a rest) around old new first next m = command_sites a around old m.middle first m.own m.one ++ actions_sites rest around m.middle new m.own next m.rest

    pub groups_sites : (body : Groups) → (around : Around) → (old new : Building) → (first next : ℕ) → MadeGroups scene body around old new first next → List (Option BlockSite)
    groups_sites no_groups around old new first next m = []
    groups_sites (group_then g rest) around old new first next m = actions_sites g around old m.middle first m.own m.one ++ groups_sites rest around m.middle new m.own next m.rest

-- By numbers.

-- of accesses that are numbered from `first` on
abbrev pub sites_from : (first : ℕ) → List BlockSite → (number : ℕ) → Option BlockSite
sites_from first ss number = if nat_lt number first then None else slice_get ss (number - first)

-- so of those that have sites
abbrev pub one_site : Option (Option BlockSite) → Option BlockSite
one_site None = None
one_site (Some s) = s

abbrev pub places_from : (first : ℕ) → List (Option BlockSite) → (number : ℕ) → Option BlockSite
places_from first ss number = if nat_lt number first then None else one_site (slice_get ss (number - first))

-- these sites are those of the numbers from `first` on
abbrev pub HasSites : (sites : ℕ → Option BlockSite) → (first : ℕ) → List BlockSite → Type 0
HasSites sites first ss = (i : ℕ) (s : BlockSite) → slice_get ss i ≡ Some s → sites (first + i) ≡ Some s

-- so those that are there
abbrev pub HasPlaces : (sites : ℕ → Option BlockSite) → (first : ℕ) → List (Option BlockSite) → Type 0
HasPlaces sites first ss = (i : ℕ) (s : BlockSite) → slice_get ss i ≡ Some (Some s) → sites (first + i) ≡ Some s

abbrev pub site_or : Option BlockSite → Option BlockSite → Option BlockSite
site_or None s = s
site_or (Some r) s = Some r

-- Commands of a block, put down one after the other.
abbrev pub MadeEach : Scene → Around → List Located → (old new : Building) → Type 0
MadeEach scene around [] old new = new ≡ old
MadeEach scene around (c ∷ cs) old new =
    (mid : Building) × ((next : ℕ) × (MadeCommand scene c.command around old mid c.first next × MadeEach scene around cs mid new))

-- where the accesses of its commands stand
abbrev pub block_sites : (scene : Scene) → (around : Around) → (cs : List Located) → (old new : Building) → MadeEach scene around cs old new → (number : ℕ) → Option BlockSite
block_sites scene around [] old new m number = None
block_sites scene around (c ∷ cs) old new (mid, (next, (m, rest))) number =
    site_or (places_from c.first (command_sites scene c.command around old mid c.first next m) number) (block_sites scene around cs mid new rest number)

-- and those of a test, whose accesses are numbered from `first` on
abbrev pub test_sites : Scene → Around → (first : ℕ) → plain.Term → (number : ℕ) → Option BlockSite
test_sites scene around first t number = sites_from first (term_sites scene around t) number
