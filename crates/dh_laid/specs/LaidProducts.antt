-- Multiplications: what is put down for a command has at most those of its expressions, each once for each path.
use Rattle.std.specs.Prelude.{◌≡◌, ℕ, ◌+◌, ◌*◌, ◌≤◌, ◌++◌, List, [], ◌∷◌, Some, None}
use Rattle.dh_tree.specs.Indices.{form_of}
use Rattle.dh_tree.specs.PlainTrees as plain
use Rattle.dh_tree.specs.PlainTrees.{Action, action, ActionForm, lets, lets_memory, views, assigns, stores, reduces, calls, blocks, decides, repeats, counts, MaybeAction, no_action, one_action, Actions, no_actions, action_then, Groups, no_groups, group_then}
use Rattle.dh_tree.specs.Seen.{terms}
use Rattle.dh_tree.specs.ViewOffsets.{offsets_of}
use Rattle.dh_meaning.specs.Core.{CoreCommands}
use Rattle.dh_meaning.specs.CoreOf.{Known, core_action, core_groups, core_term, way_of}
use Rattle.dh_meaning.specs.Ways.{Hidden, hidden_in}
use Rattle.dh_plan.specs.declared.operations.Operation.{Operation}
use Rattle.dh_plan.specs.DoneProgram.{block_products, commands_products, product_of, term_products}
use Rattle.dh_expressions.specs.declared.drafts.Draft.{Draft}
use Rattle.dh_expressions.specs.declared.scenes.Around.{Around}
use Rattle.dh_expressions.specs.declared.scenes.Scene.{Scene}
use Rattle.dh_expressions.specs.Evaluated.{known_in}
use Rattle.dh_commands.specs.declared.buildings.Building.{Building}
use Rattle.dh_commands.specs.LanesRun.{paths_counted}
use Rattle.dh_commands.specs.MadeCommands.{MadeCommand, MadeGroups}
use Rattle.dh_laid.specs.LaidNumbers.{AreStraightGroups, IsStraightAction}
use Rattle.dh_laid.specs.LaidQuiet.{BlockStandsIn}

abbrev mutual
  -- the `*` of an expression
  pub products_in : plain.Term → ℕ
  products_in (plain.term place kind form) = form_products form

  pub form_products : plain.TermForm → ℕ
  form_products (plain.number negative z) = 0
  form_products (plain.truth_value b) = 0
  form_products (plain.named r) = 0
  form_products (plain.accessed r indices) = all_products_in indices
  form_products (plain.in_bank r bank at row) = products_in row
  form_products (plain.applied o left right) = product_of o + (products_in left + products_in right)
  form_products (plain.converted inner to) = products_in inner

  pub all_products_in : plain.Terms → ℕ
  all_products_in plain.no_terms = 0
  all_products_in (plain.term_then t ts) = products_in t + all_products_in ts

-- of what names the element that is stored into
abbrev pub aim_products : plain.TermForm → ℕ
aim_products (plain.accessed r indices) = all_products_in indices
aim_products (plain.in_bank r bank at row) = products_in row
aim_products form = 0

-- of offsets, where a variable keeps one on the way of their view
abbrev pub offset_products : List Hidden → plain.Terms → ℕ
offset_products [] ts = 0
offset_products (h ∷ hs) ts = all_products_in ts

abbrev mutual
  -- of a command; a loop has no turn
  pub action_products : Known → Action → ℕ
  action_products known (action id place form) = own_products known form

  pub own_products : Known → ActionForm → ℕ
  own_products known (lets name declared (Some value)) = products_in value
  own_products known (lets name declared None) = 0
  own_products known (assigns target value) = products_in value
  own_products known (stores target value) = products_in value + aim_products (form_of target)
  own_products known (reduces target op value) = product_of op + products_in value
  own_products known (decides test chosen other) = products_in test + (action_products known chosen + other_products known other)
  own_products known (blocks body) = groups_products known body
  own_products known (lets_memory name shape shape_places value) = 0
  own_products known (views name parent form) = offset_products (hidden_in (way_of known name)) (terms (offsets_of form))
  own_products known (calls function arguments) = 0
  own_products known (repeats test body) = 0
  own_products known (counts iterator declared low high factor body combine combine_place) = 0

  pub other_products : Known → MaybeAction → ℕ
  other_products known no_action = 0
  other_products known (one_action a) = action_products known a

  pub part_products : Known → Actions → ℕ
  part_products known no_actions = 0
  part_products known (action_then a rest) = action_products known a + part_products known rest

  pub groups_products : Known → Groups → ℕ
  groups_products known no_groups = 0
  groups_products known (group_then part rest) = part_products known part + groups_products known rest

-- at most so many multiplications were added
pub record AddsProducts (old new : Draft) (most : ℕ) : Type 0 where
  pub more : List Operation
  pub adds : new.operations.items ≡ old.operations.items ++ more
  pub few : block_products more ≤ most

abbrev pub CommandsHaveProducts : Type 0
CommandsHaveProducts =
    (scene : Scene) (a : Action) (around : Around) (old new : Building) (first next : ℕ) → BlockStandsIn scene around → MadeCommand scene a around old new first next
    → AddsProducts old.draft new.draft (action_products (known_in scene) a * paths_counted around)

abbrev pub GroupsHaveProducts : Type 0
GroupsHaveProducts =
    (scene : Scene) (body : Groups) (around : Around) (old new : Building) (first next : ℕ) → BlockStandsIn scene around → MadeGroups scene body around old new first next
    → AddsProducts old.draft new.draft (groups_products (known_in scene) body * paths_counted around)

-- These are those of the program's expressions and commands.
abbrev pub TermsMultiply : Type 0
TermsMultiply = (known : Known) (n : ℕ) (t : plain.Term) → term_products (core_term known n t) ≡ products_in t

abbrev pub CommandsMultiply : Type 0
CommandsMultiply = (known : Known) (n : ℕ) (a : Action) (rest : CoreCommands) → IsStraightAction a → commands_products (core_action known n a rest) ≡ action_products known a + commands_products rest

abbrev pub GroupsMultiply : Type 0
GroupsMultiply = (known : Known) (n : ℕ) (body : Groups) (rest : CoreCommands) → AreStraightGroups body → commands_products (core_groups known n body rest) ≡ groups_products known body + commands_products rest
