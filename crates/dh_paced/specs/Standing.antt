-- What stands in time where a command begins, and behind it: what variables were given is there at their levels, whatever
-- the path, and reads of the block have given at all paths.
use Rattle.std.specs.Prelude.{◌≡◌, ◌⊎◌, ℕ, ◌+◌, ◌<◌, ◌≤◌, max, true, false, List, [], ◌∷◌, length, slice_get, Option, Some, None}
use Rattle.dh_tree.specs.Indices.{form_of}
use Rattle.dh_tree.specs.PlainTrees as plain
use Rattle.dh_tree.specs.PlainTrees.{Term, Action, action, ActionForm, lets, lets_memory, views, assigns, stores, reduces, calls, blocks, decides, repeats, counts, MaybeAction, no_action, one_action, Actions, no_actions, action_then, Groups, no_groups, group_then, ViewPlan}
use Rattle.dh_tree.specs.ViewOffsets.{offsets_of}
use Rattle.dh_tree.specs.Seen.{terms}
use Rattle.dh_tree.specs.declared.trees.expressions.Ref.{Ref}
use Rattle.dh_meaning.specs.AccessNumbers.{accesses_of, other_accesses, part_accesses, plan_accesses, term_accesses, terms_accesses}
use Rattle.dh_meaning.specs.CoreOf.{core_term, core_terms, entity_number, target_to, way_of}
use Rattle.dh_meaning.specs.Levels.{Levels}
use Rattle.dh_meaning.specs.Ways.{Hidden, hidden_in}
use Rattle.dh_plan.specs.PlanPhases.{term_mentions, core_terms_mention, target_mentions}
use Rattle.dh_expressions.specs.declared.accesses.Accesses.{Accesses}
use Rattle.dh_expressions.specs.declared.scenes.Around.{Around}
use Rattle.dh_expressions.specs.declared.scenes.Scene.{Scene}
use Rattle.dh_expressions.specs.Evaluated.{counter_of, known_in}
use Rattle.dh_formed.specs.Counted.{given_at_paths}
use Rattle.dh_formed.specs.Formed.{AreNotedReads}
use Rattle.dh_formed.specs.Timed.{AreBounded, BlockClocks, EntityAt, GuardAt, NotedInTime, Within, leveled}
use Rattle.dh_commands.specs.declared.buildings.Building.{Building}
use Rattle.dh_commands.specs.LanesRun.{lane_of, paths_counted}
use Rattle.dh_commands.specs.ShownVariables.{register_in}
use Rattle.dh_commands.specs.Setting.{IsVariableAmong}
use Rattle.dh_laid.specs.Laid.{StandsRound}
use Rattle.dh_laid.specs.LaidCommands.{StandsHeld}
use Rattle.dh_paced.specs.Paced.{IsIn, action_levels, between_arms, part_levels}

-- what stands round commands of a block: the same loops as round the block
pub record IsUnder (top around : Around) : Type 0 where
  pub levels : around.levels.now ≡ top.levels.now
  pub counted : paths_counted around ≡ paths_counted top

-- the variables of a block, the reads that are made in it, and all of its accesses, by their numbers; `top` stands round
-- the block, and so many registers are of variables
module _ (c : BlockClocks) (scene : Scene) (top : Around) (spaces : ℕ) (shared : ℕ → Option ℕ) (Variable Read Own : ℕ → Type 0) where
  pub record IsGround : Type 0 where
    pub some : 0 < paths_counted top
    -- registers of variables that are no iterators are there, and those of two are others
    pub apart : (e f i j : ℕ) → Variable e → Variable f → counter_of scene e ≡ None → counter_of scene f ≡ None → i < paths_counted top → j < paths_counted top → register_in scene top e i ≡ register_in scene top f j → e ≡ f
    pub room : (e i : ℕ) → Variable e → counter_of scene e ≡ None → i < paths_counted top → register_in scene top e i < spaces
    -- each access of the block shares an earlier read of it, if any
    pub shares : (m : ℕ) → Own m → slice_get scene.shares.now m ≡ Some (shared m)
    pub earlier : (m e : ℕ) → Own m → shared m ≡ Some e → (e < m) × Read e

  -- what a command asks

  -- accesses from n on, so many, are of the block, with tests of this level round them
  pub record AreOwn (outer n count : ℕ) : Type 0 where
    pub own : (m : ℕ) → IsIn n count m → Own m
    pub outers : (m : ℕ) → IsIn n count m → c.outer m ≡ outer

  pub record OwnsTerm (outer n : ℕ) (t : Term) : Type 0 where
    pub are : AreOwn outer n (term_accesses t)
    pub names : (e : ℕ) → term_mentions e (core_term (known_in scene) n t) ≡ true → Variable e

  pub record OwnsTerms (outer n : ℕ) (ts : plain.Terms) : Type 0 where
    pub are : AreOwn outer n (terms_accesses ts)
    pub names : (e : ℕ) → core_terms_mention e (core_terms (known_in scene) n ts) ≡ true → Variable e

  -- and with what keeps the offsets on the way of what a name stands for
  pub record OwnsNamed (outer n : ℕ) (r : Ref) (ts : plain.Terms) : Type 0 where
    pub are : AreOwn outer n (terms_accesses ts)
    pub names : (e : ℕ) → target_mentions e (target_to (way_of (known_in scene) r) (core_terms (known_in scene) n ts)) ≡ true → Variable e

  -- a write
  pub record OwnsWrite (outer n : ℕ) : Type 0 where
    pub own : Own n
    pub outer_is : c.outer n ≡ outer
    pub unread : Read n → ⊥

  abbrev pub OwnsTarget : (outer n : ℕ) → plain.TermForm → Type 0
  OwnsTarget outer n (plain.accessed r ts) = OwnsNamed outer n r ts × OwnsWrite outer (n + terms_accesses ts)
  OwnsTarget outer n (plain.in_bank r bank at row) = OwnsTerm outer n row × OwnsWrite outer (n + term_accesses row)
  OwnsTarget outer n (plain.number negative z) = ⊥
  OwnsTarget outer n (plain.truth_value b) = ⊥
  OwnsTarget outer n (plain.named r) = ⊥
  OwnsTarget outer n (plain.applied op left right) = ⊥
  OwnsTarget outer n (plain.converted inner to) = ⊥

  -- a variable that is assigned
  pub record IsTarget (e : ℕ) : Type 0 where
    pub is : Variable e
    pub no_counter : counter_of scene e ≡ None

  -- it is another at each path, or is not mentioned in what it takes
  abbrev pub TakesAlone : (e n : ℕ) → Term → Type 0
  TakesAlone e n t =
      ((i j : ℕ) → i < paths_counted top → j < paths_counted top → register_in scene top e i ≡ register_in scene top e j → i ≡ j) ⊎ (term_mentions e (core_term (known_in scene) n t) ≡ false)

  -- the variables that keep offsets of a view, where one keeps an offset on its way, are others at each path; where none
  -- does no access of an offset is put down
  abbrev pub OwnsView : (outer first : ℕ) → List Hidden → ViewPlan → Type 0
  OwnsView outer first [] form = (m : ℕ) → IsIn first (plan_accesses form + 0) m → Read m → ⊥
  OwnsView outer first (h ∷ hs) form =
      OwnsTerms outer first (terms (offsets_of form)) × ((e : ℕ) → IsVariableAmong h.entity (length (offsets_of form)) e → IsTarget e × ((i j : ℕ) → i < paths_counted top → j < paths_counted top → register_in scene top e i ≡ register_in scene top e j → i ≡ j))

  abbrev mutual
    pub OwnsIn : (outer first : ℕ) → Action → Levels → Type 0
    OwnsIn outer first (action id place form) l = OwnsBy outer first form l

    pub OwnsBy : (outer first : ℕ) → ActionForm → Levels → Type 0
    OwnsBy outer first (lets name declared (Some value)) l = OwnsTerm outer first value × (IsTarget (entity_number name.entity) × TakesAlone (entity_number name.entity) first value)
    OwnsBy outer first (lets name declared None) l = IsTarget (entity_number name.entity)
    OwnsBy outer first (assigns target value) l = OwnsTerm outer first value × (IsTarget (entity_number target.entity) × TakesAlone (entity_number target.entity) first value)
    OwnsBy outer first (stores target value) l = OwnsTerm outer first value × OwnsTarget outer (first + term_accesses value) (form_of target)
    OwnsBy outer first (reduces target op value) l = OwnsTerm outer first value × (IsTarget (entity_number target.entity) × TakesAlone (entity_number target.entity) first value)
    OwnsBy outer first (decides test chosen other) l =
        OwnsTerm outer first test
        × (OwnsIn (max outer (leveled scene shared outer first test l).level) (first + term_accesses test) chosen (leveled scene shared outer first test l).levels
        × OwnsOther (max outer (leveled scene shared outer first test l).level) (first + term_accesses test + accesses_of chosen) other (between_arms (known_in scene) shared outer first test chosen l))
    OwnsBy outer first (blocks body) l = OwnsGroups outer first body l
    OwnsBy outer first (lets_memory name shape shape_places value) l = Unit {0}
    OwnsBy outer first (views name parent form) l = OwnsView outer first (hidden_in (way_of (known_in scene) name)) form
    OwnsBy outer first (calls function arguments) l = Unit {0}
    -- no access of a loop without turns is put down
    OwnsBy outer first (repeats test body) l = (m : ℕ) → IsIn first (term_accesses test + accesses_of body) m → Read m → ⊥
    OwnsBy outer first (counts iterator declared low high factor body combine combine_place) l = (m : ℕ) → IsIn first (accesses_of body + other_accesses combine) m → Read m → ⊥

    pub OwnsOther : (outer first : ℕ) → MaybeAction → Levels → Type 0
    OwnsOther outer first no_action l = Unit {0}
    OwnsOther outer first (one_action a) l = OwnsIn outer first a l

    pub OwnsPart : (outer first : ℕ) → Actions → Levels → Type 0
    OwnsPart outer first no_actions l = Unit {0}
    OwnsPart outer first (action_then a rest) l = OwnsIn outer first a l × OwnsPart outer (first + accesses_of a) rest (action_levels (known_in scene) shared outer first a l)

    pub OwnsGroups : (outer first : ℕ) → Groups → Levels → Type 0
    OwnsGroups outer first no_groups l = Unit {0}
    OwnsGroups outer first (group_then part rest) l = OwnsPart outer first part l × OwnsGroups outer (first + part_accesses part) rest (part_levels (known_in scene) shared outer first part l)

  -- what stands

  -- what variables were given is there at their levels
  abbrev pub AreCurrent : (current : List (Option ℕ)) → Levels → Type 0
  AreCurrent current l = (e i : ℕ) → Variable e → i < paths_counted top → EntityAt c scene (lane_of top i) current l e

  -- reads before this number have given at all paths, and no access from it on at any
  pub record HaveGivenTo (a : Accesses) (n : ℕ) : Type 0 where
    pub done : (e : ℕ) → Read e → e < n → given_at_paths a e ≡ paths_counted top
    pub rest : (m : ℕ) → Own m → n ≤ m → given_at_paths a m ≡ 0

  pub record StandsFor (around : Around) (old : Building) (outer first : ℕ) (l : Levels) : Type 0 where
    pub under : IsUnder top around
    pub started : c.block.first ≤ length old.draft.operations.items
    pub round : StandsRound c.block old.draft scene around
    pub noted : AreNotedReads c.block old.draft old.accesses
    pub held : StandsHeld c.block old.draft old.values
    pub long : length old.values.current.items ≡ spaces
    pub guards : (path : ℕ) (guard : Option ℕ) → slice_get around.guards.now path ≡ Some guard → GuardAt c outer guard
    pub bounded : AreBounded l
    pub outer_few : outer ≤ l.most
    pub in_time : NotedInTime c old.accesses
    pub current : AreCurrent old.values.current.items l
    pub given : HaveGivenTo old.accesses first

  -- what stands behind it
  pub record Paces (old new : Building) (l : Levels) (next : ℕ) : Type 0 where
    pub within : Within c old.draft new.draft l.most
    pub in_time : NotedInTime c new.accesses
    pub current : AreCurrent new.values.current.items l
    pub given : HaveGivenTo new.accesses next
