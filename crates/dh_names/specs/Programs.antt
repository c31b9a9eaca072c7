-- What the walk over a program does before and behind its commands, and what it answers.
use Rattle.std.specs.Prelude.{ℕ, Bool, true, false, ◌+◌, ◌≡◌, ◌⊎◌, List, [], ◌∷◌, ◌++◌, ◌<◌, ◌≤◌, length, map, drop, Option, Some, None, Result, Ok, Err, Vec}
use Rattle.std.specs.Global.{Global}
use Rattle.dh_base.specs.declared.faults.PassFault.{PassFault}
use Rattle.dh_base.specs.declared.faults.PassFault.TheVariants as fault
use Rattle.dh_tree.specs.declared.breaches.Breach.{Breach}
use Rattle.dh_tree.specs.declared.trees.programs.Decl.{Decl}
use Rattle.dh_tree.specs.declared.trees.programs.Entity.{Entity}
use Rattle.dh_tree.specs.declared.trees.programs.Function.{Function}
use Rattle.dh_tree.specs.declared.trees.programs.Parameter.{Parameter}
use Rattle.dh_tree.specs.declared.trees.programs.Sort.TheVariants as sort
use Rattle.dh_tree.specs.declared.trees.programs.Tree.{Tree}
use Rattle.dh_tree.specs.declared.trees.named.Named.{Named}
use Rattle.dh_tree.specs.PlainTrees.{Declared, Formal, Defined, Program}
use Rattle.dh_tree.specs.Seen.{action_seen, declared_seen, formal_seen, defined_seen, program_seen}
use Rattle.dh_tree.specs.LeastBreach.{is_before, breach, least_of, IsLeast}
use Rattle.dh_tree.specs.Scopes.{ScopeEntry, entity_of, bind, entity, Item, memory_items, function_items, merged, items_of, after_items, Scope, first_scope, after_formals, after_function, after_functions}
use Rattle.dh_tree.specs.Breaches.{breaches_of, KeepsNames, twice, items_breaches, formals_breaches, function_breaches, functions_breaches}
use Rattle.dh_tree.specs.Resolved.{resolved, resolved_decls, resolved_formals, resolved_function, resolved_functions}
use Rattle.dh_tree.specs.NameCounts.{declared_in, declared_in_functions, names_declared, declared_by}
use Rattle.dh_tree.specs.Forms.{unbuilt_forms}
use Rattle.dh_names.specs.Visible.{visible, LeastBy}
use Rattle.dh_names.specs.Walks.{NamingState, state_of, walked}
use Rattle.dh_names.specs.declared.scopes.VisibleNames.{VisibleNames}
use Rattle.dh_names.specs.declared.walks.NameWalk.{NameWalk}
use Rattle.dh_names.specs.declared.programs.WalkFindings.{WalkFindings}

-- a walk over the parameters of a function
pub record ResolvesFormals (old new : NamingState) (a b : List Formal) : Type 0 where
  pub tree : b ≡ resolved_formals old.scope a
  pub state : new ≡ walked old (formals_breaches old.scope a) (after_formals old.scope a)

-- a point at which no name of a function is visible, but only what functions see of the program
abbrev pub IsOutside : NamingState → Type 0
IsOutside s = s.scope.visible ≡ s.outer

-- the state between two functions
abbrev pub between : NamingState → Scope → Option Breach → NamingState
between s to least = record { outer = to.visible; scope = to; least = least }

-- a walk over a function that is entity number n
pub record ResolvesFunction (n : ℕ) (old new : NamingState) (a b : Defined) : Type 0 where
  pub tree : b ≡ resolved_function n old.scope a
  pub state : new ≡ between old (after_function n old.scope a) (least_of old.least (function_breaches old.scope a))

pub record ResolvesFunctions (n : ℕ) (old new : NamingState) (a b : List Defined) : Type 0 where
  pub tree : b ≡ resolved_functions n old.scope a
  pub state : new ≡ between old (after_functions n old.scope a) (least_of old.least (functions_breaches n old.scope a))

-- the code's walk over parameters in order, over a function that is entity number n, and over functions
-- of which the first is so
abbrev pub NumbersParameters : (old new : NameWalk) → (a b : Vec Parameter Global) → Type 0
NumbersParameters old new a b = ResolvesFormals (state_of old) (state_of new) (map formal_seen a.items) (map formal_seen b.items)

abbrev pub NumbersFunction : ℕ → (old new : NameWalk) → (a b : Function) → Type 0
NumbersFunction n old new a b = ResolvesFunction n (state_of old) (state_of new) (defined_seen a) (defined_seen b)

abbrev pub NumbersFunctions : ℕ → (old new : NameWalk) → (a b : Vec Function Global) → Type 0
NumbersFunctions n old new a b = ResolvesFunctions n (state_of old) (state_of new) (map defined_seen a.items) (map defined_seen b.items)

-- how many names functions declare
abbrev pub declared_by_all : Vec Function Global → ℕ
declared_by_all functions = declared_in_functions (map defined_seen functions.items)

-- memories from outside take their numbers, from 0
abbrev pub NumbersMemories : (old new : Vec Decl Global) → Type 0
NumbersMemories old new = map declared_seen new.items ≡ resolved_decls 0 (map declared_seen old.items)

-- the entities of memories from outside and of functions
abbrev pub entities_outside : List Decl → List Function → List Entity
entities_outside decls functions =
    map (λ d. entity d.name sort.Memory) (map declared_seen decls) ++ map (λ f. entity f.name sort.Function) (map defined_seen functions)

-- whether the next name in text order is that of a function, where these memories and functions are left
abbrev pub is_function_next : List Declared → List Defined → Bool
is_function_next memories [] = false
is_function_next [] (f ∷ functions) = true
is_function_next (m ∷ memories) (f ∷ functions) = is_before f.name.place m.name.place

-- and after so many memories and so many functions
abbrev pub is_function_first : List Decl → List Function → (done : ℕ × ℕ) → Bool
is_function_first decls functions done = is_function_next (map declared_seen (drop done.0 decls)) (map defined_seen (drop done.1 functions))

-- the names that are left in text order, after so many memories and so many functions
abbrev pub left : List Decl → List Function → ℕ × ℕ → List Item
left decls functions done =
    merged (memory_items done.0 (map declared_seen (drop done.0 decls))) (function_items (length decls + done.1) (map defined_seen (drop done.1 functions)))

-- so many are done, and some are left
pub record AreLeft (decls : List Decl) (functions : List Function) (done : ℕ × ℕ) : Type 0 where
  pub some : done.0 + done.1 < length decls + length functions
  pub memories : done.0 ≤ length decls
  pub functions_done : done.1 ≤ length functions

-- the next name of those left is made visible
pub record BindsNext (decls : List Decl) (functions : List Function) (old : List ScopeEntry) (old_least : Option Breach) (done : ℕ × ℕ) (new : List ScopeEntry) (new_least : Option Breach) (after : ℕ × ℕ) : Type 0 where
  pub item : Item
  pub next : left decls functions done ≡ item ∷ left decls functions after
  pub bound : new ≡ bind old item.name.name item.entity
  pub least : new_least ≡ least_of old_least (twice old item.name)
  pub counted : after.0 + after.1 ≡ done.0 + done.1 + 1
  pub memories : after.0 ≤ length decls
  pub functions_done : after.1 ≤ length functions

-- memory is wanting for the next name of those left, which is not visible yet, and nothing is done
pub record LacksNext (decls : List Decl) (functions : List Function) (old : List ScopeEntry) (old_least : Option Breach) (done : ℕ × ℕ) (new : List ScopeEntry) (new_least : Option Breach) : Type 0 where
  pub item : Item
  pub more : List Item
  pub next : left decls functions done ≡ item ∷ more
  pub unbound : entity_of old item.name.name ≡ None
  pub visible : new ≡ old
  pub least : new_least ≡ old_least

-- the same of the names that the code keeps
abbrev pub BindsItem : List Decl → List Function → (old : VisibleNames) → (old_least : Option Breach) → (done : ℕ × ℕ) → (new : VisibleNames) → (new_least : Option Breach) → (after : ℕ × ℕ) → Type 0
BindsItem decls functions old old_least done new new_least after = BindsNext decls functions (visible old) old_least done (visible new) new_least after

abbrev pub LacksItem : List Decl → List Function → (old : VisibleNames) → (old_least : Option Breach) → (done : ℕ × ℕ) → (new : VisibleNames) → (new_least : Option Breach) → Type 0
LacksItem decls functions old old_least done new new_least = LacksNext decls functions (visible old) old_least done (visible new) new_least

-- memories from outside and functions are made visible, in text order
abbrev pub BindsItems : List Decl → List Function → (old new : VisibleNames) → Type 0
BindsItems decls functions old new = visible new ≡ after_items (visible old) (left decls functions (0, 0))

-- the least is kept of the breach that was kept and those of their names, each of which was visible already
abbrev pub FindsTwice : List Decl → List Function → VisibleNames → (old new : Option Breach) → Type 0
FindsTwice decls functions names old new = LeastBy items_breaches names old new (left decls functions (0, 0))

-- a program is answered by its tree with entities where no name breaks a rule, and else by the breach
-- that stands first; for want of memory it may have no answer, where it declares a name
abbrev pub ResolvesProgram : Program → Result Named PassFault → Type 0
ResolvesProgram p (Ok named) = (program_seen named ≡ resolved p) × KeepsNames p
ResolvesProgram p (Err (fault.Refused rule place)) = IsLeast (breaches_of p) (breach rule place)
ResolvesProgram p (Err fault.NoMemory) = 0 < names_declared p

-- the same of a program whose forms are all built; any other is answered by the form that stands first of those
-- that are not
abbrev pub AnswersBuilt : Program → Result Named PassFault → Type 0
AnswersBuilt p (Ok named) = (unbuilt_forms p ≡ []) × ((program_seen named ≡ resolved p) × KeepsNames p)
AnswersBuilt p (Err (fault.Refused rule place)) = IsLeast (unbuilt_forms p) (breach rule place) ⊎ ((unbuilt_forms p ≡ []) × IsLeast (breaches_of p) (breach rule place))
AnswersBuilt p (Err fault.NoMemory) = 0 < names_declared p

-- where a walk over a program starts: no name is visible, nothing is listed and nothing found, and no name is
-- kept for the program's body
pub record IsStart (w : NameWalk) (top : VisibleNames) : Type 0 where
  pub outer : w.names.outer ≡ []
  pub own : w.names.own ≡ []
  pub entities : w.entities.items ≡ []
  pub least : w.least ≡ None
  pub names : visible top ≡ []

-- a walk over the memories from outside and the functions of a program from there on, with the names that are
-- visible behind them
pub record ResolvesItems (p : Program) (new : NamingState) (top : List ScopeEntry) (ds : List Declared) (fs : List Defined) : Type 0 where
  pub decls : ds ≡ resolved_decls 0 p.decls
  pub functions : fs ≡ resolved_functions (length p.decls) (first_scope p) p.functions
  pub names : top ≡ after_items [] (items_of p)
  pub entities : new.scope.entities ≡ (after_functions (length p.decls) (first_scope p) p.functions).entities
  pub least : new.least ≡ least_of (least_of None (items_breaches [] (items_of p))) (functions_breaches (length p.decls) (first_scope p) p.functions)

abbrev pub NumbersItems : (old new : Tree) → NameWalk → VisibleNames → Type 0
NumbersItems old new walk names =
    ResolvesItems (program_seen old) (state_of walk) (visible names) (map declared_seen new.decls.items) (map defined_seen new.functions.items)

-- what a walk over a program comes to: its tree with entities, the breach of its names that stands first, and the
-- form that does of those that are not built
pub record IsWalked (p : Program) (new : Tree) (found : WalkFindings) : Type 0 where
  pub tree : program_seen new ≡ resolved p
  pub least : found.least ≡ least_of None (breaches_of p)
  pub unbuilt : found.unbuilt ≡ least_of None (unbuilt_forms p)

-- a tree whose names are resolved is answered, where there is no breach of them, and else the breach is
abbrev pub SettlesNames : Tree → Option Breach → Result Named PassFault → Type 0
SettlesNames tree least (Ok named) = (named ≡ tree) × (least ≡ None)
SettlesNames tree least (Err (fault.Refused rule place)) = least ≡ Some (breach rule place)
SettlesNames tree least (Err fault.NoMemory) = ⊥
