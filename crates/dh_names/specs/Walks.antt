-- What the code's walk over a tree keeps, as the definitions see it, and what each part of the walk does.
use Rattle.std.specs.Prelude.{ℕ, Bool, true, false, ◌+◌, ◌≤◌, ◌^◌, ◌≡◌, List, length, take, Option, Vec, Box}
use Rattle.std.specs.Global.{Global}
use Rattle.dh_tree.specs.declared.breaches.Breach.{Breach}
use Rattle.dh_tree.specs.declared.trees.expressions.Ref.{Ref}
use Rattle.dh_tree.specs.declared.trees.commands.Command.{Command}
use Rattle.dh_tree.specs.declared.trees.commands.CommandForm.{CommandForm}
use Rattle.dh_tree.specs.declared.trees.commands.LoopHeader.{LoopHeader}
use Rattle.dh_tree.specs.declared.trees.commands.Sides.{Sides}
use Rattle.dh_tree.specs.declared.trees.programs.Sort.{Sort}
use Rattle.dh_tree.specs.declared.trees.programs.Sort.TheVariants.{Iterator}
use Rattle.dh_tree.specs.PlainTrees.{Action, ActionForm, blocks, MaybeAction, Actions, Groups}
use Rattle.dh_tree.specs.LeastBreach.{least_of}
use Rattle.dh_tree.specs.Scopes.{ScopeEntry, Scope, declare, leave, past, at_end, form_at_end, other_at_end, actions_at_end, groups_at_end}
use Rattle.dh_tree.specs.Breaches.{twice, breaches, form_breaches, other_breaches, actions_breaches, groups_breaches}
use Rattle.dh_tree.specs.Resolved.{declares, resolved_action, resolved_form, resolved_other, resolved_actions, resolved_groups}
use Rattle.dh_tree.specs.Seen.{action_seen, action_form_seen, sides_seen, part_seen, maybe_block_seen}
use Rattle.dh_tree.specs.NameCounts.{declared_in, declared_in_form, declared_in_other, declared_in_actions}
use Rattle.dh_names.specs.Visible.{visible}
use Rattle.dh_names.specs.declared.walks.NameWalk.{NameWalk}

-- whether a command is a block
abbrev pub is_blocks : ActionForm → Bool
is_blocks (blocks body) = true
is_blocks form = false

-- a point of the text, with the names that a function sees of the program and the least breach so far
pub record NamingState : Type 0 where
  pub outer : List ScopeEntry
  pub scope : Scope
  pub least : Option Breach

abbrev pub state_of : NameWalk → NamingState
state_of w = record { outer = w.names.outer; scope = record { visible = visible w.names; entities = w.entities.items }; least = w.least }

-- the state at another point, with these breaches found on the way
abbrev pub walked : NamingState → List Breach → Scope → NamingState
walked s found to = record { outer = s.outer; scope = to; least = least_of s.least found }

-- the state with so many of its own names
abbrev pub cut_to_own_names : NamingState → ℕ → NamingState
cut_to_own_names s own = record { outer = s.outer; scope = record { visible = take (length s.outer + own) s.scope.visible; entities = s.scope.entities }; least = s.least }

-- so many further declarations have numbers of 32 bits
abbrev pub HasRoomToDeclare : NamingState → ℕ → Type 0
HasRoomToDeclare s declared = length s.scope.entities + declared ≤ 2 ^ 32

-- the walk finds the breaches that a rule finds here where the names at its point are visible, and stays there
abbrev pub FindsBy : {A : Type 0} → (rule : List ScopeEntry → A → List Breach) → (old new : NameWalk) → A → Type 0
FindsBy rule old new seen = state_of new ≡ walked (state_of old) (rule (state_of old).scope.visible seen) (state_of old).scope

-- a name that is declared at the walk's point takes the number of the next entity, where there is one
abbrev pub NumbersName : NameWalk → (old new : Ref) → Type 0
NumbersName walk old new = HasRoomToDeclare (state_of walk) 1 → new ≡ declares (state_of walk).scope old

-- the header of a loop with this iterator in place of its own
abbrev pub with_iterator : LoopHeader → Ref → LoopHeader
with_iterator h iterator = record h { iterator = iterator }

-- the same of the iterator of a loop
abbrev pub NumbersHeader : NameWalk → (old new : LoopHeader) → Type 0
NumbersHeader walk old new = HasRoomToDeclare (state_of walk) 1 → new ≡ with_iterator old (declares (state_of walk).scope old.iterator)

-- the walk goes past a name that is declared as an entity of this sort, where that has a number
abbrev pub DeclaresName : (old new : NameWalk) → (name : Ref) → Sort → Type 0
DeclaresName old new name sort =
    HasRoomToDeclare (state_of old) 1 → state_of new ≡ walked (state_of old) (twice (state_of old).scope.visible name) (declare (state_of old).scope name sort)

-- the same of the iterator of a loop with this header
abbrev pub DeclaresIterator : (old new : NameWalk) → LoopHeader → Type 0
DeclaresIterator old new header = DeclaresName old new header.iterator Iterator

-- a walk over a command, up to its end
pub record Resolves (old new : NamingState) (a b : Action) : Type 0 where
  pub tree : b ≡ resolved_action old.scope a
  pub state : new ≡ walked old (breaches old.scope a) (at_end old.scope a)

pub record ResolvesForm (old new : NamingState) (a b : ActionForm) : Type 0 where
  pub tree : b ≡ resolved_form old.scope a
  pub state : new ≡ walked old (form_breaches old.scope a) (form_at_end old.scope a)

pub record ResolvesOther (old new : NamingState) (a b : MaybeAction) : Type 0 where
  pub tree : b ≡ resolved_other old.scope a
  pub state : new ≡ walked old (other_breaches old.scope a) (other_at_end old.scope a)

-- a walk over a command whose scope ends with it
pub record ResolvesInner (old new : NamingState) (a b : Action) : Type 0 where
  pub tree : b ≡ resolved_action old.scope a
  pub state : new ≡ walked old (breaches old.scope a) (leave old.scope (at_end old.scope a))

-- a walk over a command of a list
pub record ResolvesNext (old new : NamingState) (a b : Action) : Type 0 where
  pub tree : b ≡ resolved_action old.scope a
  pub state : new ≡ walked old (breaches old.scope a) (past old.scope a (at_end old.scope a))

pub record ResolvesActions (old new : NamingState) (a b : Actions) : Type 0 where
  pub tree : b ≡ resolved_actions old.scope a
  pub state : new ≡ walked old (actions_breaches old.scope a) (actions_at_end old.scope a)

pub record ResolvesGroups (old new : NamingState) (a b : Groups) : Type 0 where
  pub tree : b ≡ resolved_groups old.scope a
  pub state : new ≡ walked old (groups_breaches old.scope a) (groups_at_end old.scope a)

-- the code's walk over a command, up to its end, where all that it declares has numbers; over its form, over
-- both sides of a store, over a block that may lack, over a command whose scope ends with it, over a command of a list, and over a part
abbrev pub NumbersCommand : (old new : NameWalk) → (a b : Command) → Type 0
NumbersCommand old new a b = HasRoomToDeclare (state_of old) (declared_in (action_seen a)) → Resolves (state_of old) (state_of new) (action_seen a) (action_seen b)

abbrev pub NumbersForm : (old new : NameWalk) → (a b : CommandForm) → Type 0
NumbersForm old new a b =
    HasRoomToDeclare (state_of old) (declared_in_form (action_form_seen a)) → ResolvesForm (state_of old) (state_of new) (action_form_seen a) (action_form_seen b)

abbrev pub NumbersSides : (old new : NameWalk) → (a b : Sides) → Type 0
NumbersSides old new a b = ResolvesForm (state_of old) (state_of new) (sides_seen a) (sides_seen b)

abbrev pub NumbersOptional : (old new : NameWalk) → (a b : Option (Box Command Global)) → Type 0
NumbersOptional old new a b =
    HasRoomToDeclare (state_of old) (declared_in_other (maybe_block_seen a)) → ResolvesOther (state_of old) (state_of new) (maybe_block_seen a) (maybe_block_seen b)

abbrev pub NumbersInner : (old new : NameWalk) → (a b : Command) → Type 0
NumbersInner old new a b = HasRoomToDeclare (state_of old) (declared_in (action_seen a)) → ResolvesInner (state_of old) (state_of new) (action_seen a) (action_seen b)

abbrev pub NumbersListed : (old new : NameWalk) → (a b : Command) → Type 0
NumbersListed old new a b = HasRoomToDeclare (state_of old) (declared_in (action_seen a)) → ResolvesNext (state_of old) (state_of new) (action_seen a) (action_seen b)

abbrev pub NumbersPart : (old new : NameWalk) → (a b : Vec Command Global) → Type 0
NumbersPart old new a b = HasRoomToDeclare (state_of old) (declared_in_actions (part_seen a)) → ResolvesActions (state_of old) (state_of new) (part_seen a) (part_seen b)
