-- What the code's walk over a tree keeps, as the definitions see it, and what each part of the walk does.
use Rattle.std.specs.Prelude.{◌≡◌, ℕ, ◌+◌, List, [], ◌∷◌, ◌++◌, length, map, Option, Some, None, Result, is_ok, if◌then◌else◌, Vec, Box}
use Rattle.std.specs.Global.{Global}
use Rattle.dh_base.specs.declared.lists.NoMemory.{NoMemory}
use Rattle.dh_value.specs.declared.kinds.Kind.{Kind}
use Rattle.dh_tree.specs.declared.breaches.Breach.{Breach}
use Rattle.dh_tree.specs.declared.trees.expressions.Expr.{Expr}
use Rattle.dh_tree.specs.declared.trees.expressions.Ref.{Ref}
use Rattle.dh_tree.specs.declared.trees.commands.Command.{Command}
use Rattle.dh_tree.specs.declared.trees.commands.CommandForm.{CommandForm}
use Rattle.dh_tree.specs.declared.trees.commands.LoopHeader.{LoopHeader}
use Rattle.dh_tree.specs.declared.trees.commands.Sides.{Sides}
use Rattle.dh_tree.specs.declared.trees.commands.ViewForm.{ViewForm}
use Rattle.dh_tree.specs.declared.tables.Shape.{Shape}
use Rattle.dh_tree.specs.declared.trees.programs.ShapePlaces.{ShapePlaces}
use Rattle.dh_tree.specs.declared.trees.programs.Decl.{Decl}
use Rattle.dh_tree.specs.declared.trees.programs.Parameter.{Parameter}
use Rattle.dh_tree.specs.declared.trees.programs.Function.{Function}
use Rattle.dh_tree.specs.LeastBreach.{least_of}
use Rattle.dh_tree.specs.NameCounts.{declared_in}
use Rattle.dh_tree.specs.Seen.{term_seen, view_plan, low_seen, high_seen, sides_seen, action_seen, action_form_seen, part_seen, declared_seen, formal_seen, defined_seen, maybe_block_seen}
use Rattle.dh_tree.specs.PlainTrees.{Action, ActionForm, lets, lets_memory, views, MaybeAction, Actions, Groups, Defined}
use Rattle.dh_tree.specs.Kinds.{Fact, of_iterator, iterator_kind, Facts, fact_of, target_kind, function_fact, declared_facts, formal_facts, facts_after, facts_after_form, facts_after_other, facts_after_actions, facts_after_groups, facts_after_function, facts_after_functions, typed_action, typed_action_form, typed_other, typed_actions, typed_groups, typed_function, typed_functions}
use Rattle.dh_tree.specs.Kinds as rules
use Rattle.dh_tree.specs.KindBreaches.{right_side_breaches, target_breaches, parent_breaches, reducer_kind_breaches, iterator_breaches, low_breaches, high_breaches, action_kind_breaches, action_form_kind_breaches, other_kind_breaches, actions_kind_breaches, groups_kind_breaches, function_kind_breaches, functions_kind_breaches}
use Rattle.dh_types.specs.declared.facts.Fact as known
use Rattle.dh_types.specs.Facts.{fact_seen, facts_seen}
use Rattle.dh_types.specs.InTrees.{value_seen}
use Rattle.dh_types.specs.declared.walks.Walk.{Walk}

-- a point of the text: what is known there, and the least breach so far
pub record TypingState : Type 0 where
  pub facts : Facts
  pub least : Option Breach

abbrev pub typing_state_of : Walk → TypingState
typing_state_of w = record { facts = facts_seen w.facts.items; least = w.least }

-- the state before anything is known
abbrev pub nothing_known : TypingState
nothing_known = record { facts = []; least = None }

-- the state with these breaches found on the way to a point where this is known
abbrev pub walked_to_facts : TypingState → List Breach → Facts → TypingState
walked_to_facts s found to = record { facts = to; least = least_of s.least found }

-- the state at the same point, with these breaches
abbrev pub noted : TypingState → List Breach → TypingState
noted s found = walked_to_facts s found s.facts

-- the state where one more fact is known
abbrev pub learned : TypingState → Fact → TypingState
learned s fact = record { facts = s.facts ++ fact ∷ []; least = s.least }

-- the state where further facts are known
abbrev pub knows : TypingState → List Fact → TypingState
knows s facts = record { facts = s.facts ++ facts; least = s.least }

-- the state behind the header of a loop: its breaches are noted, and its iterator is known
abbrev pub entered_as : TypingState → LoopHeader → Kind → TypingState
entered_as s h kind = learned (noted s (iterator_breaches h.iterator kind ++ (low_breaches kind (low_seen h) ++ high_breaches kind (low_seen h) (high_seen h)))) (of_iterator kind)

abbrev pub entered : TypingState → LoopHeader → TypingState
entered s h = entered_as s h (iterator_kind h.declared)

-- the walk notes these breaches at its point
abbrev pub NotesAll : (old new : Walk) → List Breach → Type 0
NotesAll old new breaches = typing_state_of new ≡ noted (typing_state_of old) breaches

-- the walk notes the breaches that a rule finds here, by what is known at its point
abbrev pub NotesBy : {A : Type 0} → (rule : Facts → A → List Breach) → (old new : Walk) → A → Type 0
NotesBy rule old new seen = NotesAll old new (rule (typing_state_of old).facts seen)

-- the walk notes the breaches of an assignment
abbrev pub NotesAssigned : (old new : Walk) → (target : Ref) → (value : Expr) → Type 0
NotesAssigned old new target value =
    NotesAll old new (target_breaches (fact_of (typing_state_of old).facts target) target.place
    ++ right_side_breaches (typing_state_of old).facts (target_kind (fact_of (typing_state_of old).facts target)) (term_seen value))

-- the walk notes the breaches of a reducer
abbrev pub NotesReduced : (old new : Walk) → (target : Ref) → (value : Expr) → Type 0
NotesReduced old new target value =
    NotesAll old new (target_breaches (fact_of (typing_state_of old).facts target) target.place
    ++ (reducer_kind_breaches (target_kind (fact_of (typing_state_of old).facts target)) (rules.found (term_seen value)) target.place
    ++ right_side_breaches (typing_state_of old).facts (target_kind (fact_of (typing_state_of old).facts target)) (term_seen value)))

-- the walk notes the breach of the name of a view's parent
abbrev pub NotesParent : (old new : Walk) → (parent : Ref) → Type 0
NotesParent old new parent = NotesAll old new (parent_breaches (fact_of (typing_state_of old).facts parent) parent.place)

-- the walk learns one more fact; for want of memory it stays as it was
abbrev pub LearnsFact : (old new : Walk) → known.Fact → Result (Unit {0}) NoMemory → Type 0
LearnsFact old new fact result = typing_state_of new ≡ (if is_ok result then learned (typing_state_of old) (fact_seen fact) else typing_state_of old)

-- the walk learns what is known of memories from outside, of functions, and of parameters
abbrev pub LearnsMemories : (old new : Walk) → List Decl → Type 0
LearnsMemories old new decls = typing_state_of new ≡ knows (typing_state_of old) (declared_facts (map declared_seen decls))

abbrev pub LearnsFunctions : (old new : Walk) → List Function → Type 0
LearnsFunctions old new functions = typing_state_of new ≡ knows (typing_state_of old) (map function_fact (map defined_seen functions))

abbrev pub LearnsParameters : (old new : Walk) → List Parameter → Type 0
LearnsParameters old new parameters = typing_state_of new ≡ knows (typing_state_of old) (formal_facts (map formal_seen parameters))

-- the first of these kinds, and the others
abbrev pub first_kind_of : List Kind → Option Kind
first_kind_of [] = None
first_kind_of (k ∷ ks) = Some k

abbrev pub others_of : List Kind → List Kind
others_of [] = []
others_of (k ∷ ks) = ks

-- a walk over a command, up to its end
pub record Types (old new : TypingState) (a b : Action) : Type 0 where
  pub tree : b ≡ typed_action old.facts a
  pub state : new ≡ walked_to_facts old (action_kind_breaches old.facts b) (facts_after old.facts b)

pub record TypesForm (old new : TypingState) (a b : ActionForm) : Type 0 where
  pub tree : b ≡ typed_action_form old.facts a
  pub state : new ≡ walked_to_facts old (action_form_kind_breaches old.facts b) (facts_after_form old.facts b)

pub record TypesOther (old new : TypingState) (a b : MaybeAction) : Type 0 where
  pub tree : b ≡ typed_other old.facts a
  pub state : new ≡ walked_to_facts old (other_kind_breaches old.facts b) (facts_after_other old.facts b)

pub record TypesActions (old new : TypingState) (a b : Actions) : Type 0 where
  pub tree : b ≡ typed_actions old.facts a
  pub state : new ≡ walked_to_facts old (actions_kind_breaches old.facts b) (facts_after_actions old.facts b)

pub record TypesGroups (old new : TypingState) (a b : Groups) : Type 0 where
  pub tree : b ≡ typed_groups old.facts a
  pub state : new ≡ walked_to_facts old (groups_kind_breaches old.facts b) (facts_after_groups old.facts b)

pub record TypesFunction (old new : TypingState) (a b : Defined) : Type 0 where
  pub tree : b ≡ typed_function old.facts a
  pub state : new ≡ walked_to_facts old (function_kind_breaches old.facts b) (facts_after_function old.facts b)

pub record TypesFunctions (old new : TypingState) (a b : List Defined) : Type 0 where
  pub tree : b ≡ typed_functions old.facts a
  pub state : new ≡ walked_to_facts old (functions_kind_breaches old.facts b) (facts_after_functions old.facts b)

-- the code's walk over a command, up to its end; over its form, over a block that may lack, and over a part
abbrev pub TypesCommand : (old new : Walk) → (a b : Command) → Type 0
TypesCommand old new a b = Types (typing_state_of old) (typing_state_of new) (action_seen a) (action_seen b)

abbrev pub TypesCommandForm : (old new : Walk) → (a b : CommandForm) → Type 0
TypesCommandForm old new a b = TypesForm (typing_state_of old) (typing_state_of new) (action_form_seen a) (action_form_seen b)

-- the code's walk over the parts of a variable or a memory, of a view, and of a store, as a form of that name
abbrev pub TypesVariable : (old new : Walk) → (declared : Option Kind) → (a b : Option Expr) → Type 0
TypesVariable old new declared a b = (name : Ref) → TypesForm (typing_state_of old) (typing_state_of new) (lets name declared (value_seen a)) (lets name declared (value_seen b))

abbrev pub TypesMemory : (old new : Walk) → Shape → (a b : Option Expr) → Type 0
TypesMemory old new shape a b =
    (name : Ref) (places : ShapePlaces) → TypesForm (typing_state_of old) (typing_state_of new) (lets_memory name shape places (value_seen a)) (lets_memory name shape places (value_seen b))

abbrev pub TypesViewed : (old new : Walk) → (parent : Ref) → (a b : ViewForm) → Type 0
TypesViewed old new parent a b = (name : Ref) → TypesForm (typing_state_of old) (typing_state_of new) (views name parent (view_plan a)) (views name parent (view_plan b))

abbrev pub TypesSides : (old new : Walk) → (a b : Sides) → Type 0
TypesSides old new a b = TypesForm (typing_state_of old) (typing_state_of new) (sides_seen a) (sides_seen b)

abbrev pub TypesOptional : (old new : Walk) → (a b : Option (Box Command Global)) → Type 0
TypesOptional old new a b = TypesOther (typing_state_of old) (typing_state_of new) (maybe_block_seen a) (maybe_block_seen b)

abbrev pub TypesPart : (old new : Walk) → (a b : Vec Command Global) → Type 0
TypesPart old new a b = TypesActions (typing_state_of old) (typing_state_of new) (part_seen a) (part_seen b)

-- the code's walk over a function, and over functions in order
abbrev pub TypesDefinition : (old new : Walk) → (a b : Function) → Type 0
TypesDefinition old new a b = TypesFunction (typing_state_of old) (typing_state_of new) (defined_seen a) (defined_seen b)

abbrev pub TypesDefinitions : (old new : Walk) → (a b : Vec Function Global) → Type 0
TypesDefinitions old new a b = TypesFunctions (typing_state_of old) (typing_state_of new) (map defined_seen a.items) (map defined_seen b.items)
