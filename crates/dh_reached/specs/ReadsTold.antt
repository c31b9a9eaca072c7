-- Which accesses of a block are reads, by a predicate of their numbers, and what is asked of those that share an earlier one.
use Rattle.std.specs.Prelude.{◌≡◌, ℕ, ◌+◌, ◌<◌, ◌≤◌, List, [], ◌∷◌, length, slice_get, Option, Some}
use Rattle.dh_tree.specs.Indices.{form_of}
use Rattle.dh_tree.specs.PlainTrees.{Action, action, ActionForm, lets, lets_memory, views, assigns, stores, reduces, calls, blocks, decides, repeats, counts, MaybeAction, no_action, one_action, Actions, no_actions, action_then, Groups, no_groups, group_then}
use Rattle.dh_meaning.specs.AccessNumbers.{accesses_of, other_accesses, part_accesses, term_accesses}
use Rattle.dh_meaning.specs.Phases.{Located}
use Rattle.dh_expressions.specs.declared.scenes.Scene.{Scene}
use Rattle.dh_formed.specs.Formed.{BlockSite}
use Rattle.dh_laid.specs.Laid.{aim_accesses}

-- none of these numbers, so many from a first one on, is a read
abbrev pub NoReadAmong : (IsRead : ℕ → Type 0) → (first count : ℕ) → Type 0
NoReadAmong IsRead first count = (e : ℕ) → first ≤ e → e < first + count → IsRead e → ⊥

module _ (IsRead : ℕ → Type 0) where
  abbrev mutual
    -- what writes is no read, nor is what a loop without turns has, of which nothing is put down
    pub CommandReads : Action → (first : ℕ) → Type 0
    CommandReads (action id place form) first = ActionReads form first

    pub ActionReads : ActionForm → (first : ℕ) → Type 0
    ActionReads (lets name declared value) first = Unit {0}
    ActionReads (assigns target value) first = Unit {0}
    ActionReads (stores target value) first = IsRead (first + (term_accesses value + aim_accesses (form_of target))) → ⊥
    ActionReads (reduces target op value) first = Unit {0}
    ActionReads (decides test chosen other) first = CommandReads chosen (first + term_accesses test) × OtherReads other (first + term_accesses test + accesses_of chosen)
    ActionReads (blocks body) first = GroupsRead body first
    ActionReads (lets_memory name shape shape_places value) first = Unit {0}
    ActionReads (views name parent form) first = Unit {0}
    ActionReads (calls function arguments) first = Unit {0}
    ActionReads (repeats test body) first = NoReadAmong IsRead first (term_accesses test + accesses_of body)
    ActionReads (counts iterator declared low high factor body combine combine_place) first = NoReadAmong IsRead first (0 + (accesses_of body + other_accesses combine))

    pub OtherReads : MaybeAction → (first : ℕ) → Type 0
    OtherReads no_action first = Unit {0}
    OtherReads (one_action a) first = CommandReads a first

    pub ActionsRead : Actions → (first : ℕ) → Type 0
    ActionsRead no_actions first = Unit {0}
    ActionsRead (action_then a rest) first = CommandReads a first × ActionsRead rest (first + accesses_of a)

    pub GroupsRead : Groups → (first : ℕ) → Type 0
    GroupsRead no_groups first = Unit {0}
    GroupsRead (group_then part rest) first = ActionsRead part first × GroupsRead rest (first + part_accesses part)

  -- of a block's commands, whose numbers rise: no number between them is a read of the block
  abbrev pub BlockReads : (from : ℕ) → List Located → Type 0
  BlockReads from [] = Unit {0}
  BlockReads from (c ∷ cs) =
      ((from ≤ c.first) × ((e : ℕ) → from ≤ e → e < c.first → IsRead e → ⊥)) × (CommandReads c.command c.first × BlockReads (c.first + accesses_of c.command) cs)

-- Sharing: the table knows each access of the block, and one that shares another comes behind that, which is a read.
pub record SharesReads (IsRead : ℕ → Type 0) (scene : Scene) (number : ℕ) : Type 0 where
  pub known : number < length scene.shares.now
  pub earlier : (e : ℕ) → slice_get scene.shares.now number ≡ Some (Some e) → (e < number) × IsRead e

abbrev pub BlockShares : (IsRead : ℕ → Type 0) → Scene → (sites : ℕ → Option BlockSite) → Type 0
BlockShares IsRead scene sites = (number : ℕ) (s : BlockSite) → sites number ≡ Some s → SharesReads IsRead scene number
