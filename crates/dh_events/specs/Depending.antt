-- What is told, by a table of where variables are declared, of the loops on whose copies values depend.
use Rattle.std.specs.Prelude.{◌≡◌, ℕ, ◌++◌, ◌||◌, Bool, List, [], map, Option}
use Rattle.dh_tree.specs.PlainTrees.{Action}
use Rattle.dh_tree.specs.Seen.{form_seen, term_seen, terms}
use Rattle.dh_tree.specs.declared.trees.expressions.Expr.{Expr}
use Rattle.dh_meaning.specs.Bindings.{bindings, Binding}
use Rattle.dh_meaning.specs.Ways.{hidden_binding, led_binding}
use Rattle.dh_meets.specs.Charges.{variable_depends, entity_depends, term_depends, terms_depend, element_depends}
use Rattle.dh_ways.specs.declared.ways.Hidden.{Hidden}
use Rattle.dh_ways.specs.Kept.{KeptLed}
use Rattle.dh_ways.specs.Seen.{hidden_seen, led_seen}
use Rattle.dh_events.specs.declared.dependence.Scope.{Scope}
use Rattle.dh_events.specs.Accesses.{element_in, entity_in}
use Rattle.dh_events.specs.Scopes.{scope_at, scopes_in, AreScopes, IsDepth, IsLow}

-- the variables of a body, and behind them its views and the variables that keep their offsets
abbrev pub all_bindings : Action → List KeptLed → List Hidden → List Binding
all_bindings body ways hidden = bindings 0 body ++ (map led_binding (map led_seen ways) ++ map hidden_binding (map hidden_seen hidden))

-- where the variables of a body are noted, the views and the variables that keep their offsets are noted behind them
abbrev pub AddsWayScopes : List KeptLed → List Hidden → (old new : List (Option Scope)) → Type 0
AddsWayScopes ways hidden old new = (body : Action) → scope_at old ≡ scopes_in 0 body (scope_at []) → AreScopes (all_bindings body ways hidden) new

-- it is told whether the variable declared there depends on the loop of a level
abbrev pub TellsVariableDepends : Scope → (level : ℕ) → (told : Bool) → Type 0
TellsVariableDepends scope level told = (d : ℕ) → IsLow level → IsDepth scope.depth d → told ≡ variable_depends d level scope.iterates

-- it is told by a table of variables whether what a name stands for depends on the loop of a level
abbrev pub TellsEntityDepends : List (Option Scope) → (level : ℕ) → Option ℕ → (told : Bool) → Type 0
TellsEntityDepends scopes level entity told = (bs : List Binding) → IsLow level → AreScopes bs scopes → told ≡ entity_depends bs level entity

-- the same of the value of an expression
abbrev pub TellsValueDepends : List (Option Scope) → (level : ℕ) → Expr → (told : Bool) → Type 0
TellsValueDepends scopes level e told = (bs : List Binding) → IsLow level → AreScopes bs scopes → told ≡ term_depends bs level (term_seen e)

-- the same of one of these expressions
abbrev pub TellsAnyDepends : List (Option Scope) → (level : ℕ) → List Expr → (told : Bool) → Type 0
TellsAnyDepends scopes level es told = (bs : List Binding) → IsLow level → AreScopes bs scopes → told ≡ terms_depend bs level (terms (map term_seen es))

-- the same of an access: a write depends on every loop, a read by its name and its indices
abbrev pub TellsAccessDepends : List (Option Scope) → (level : ℕ) → Expr → (writes : Bool) → (told : Bool) → Type 0
TellsAccessDepends scopes level access writes told = (bs : List Binding) → IsLow level → AreScopes bs scopes
    → told ≡ (writes || (entity_depends bs level (entity_in (form_seen access.form)) || element_depends bs level (element_in (form_seen access.form))))
