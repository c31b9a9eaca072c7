-- The names that the code's maps make visible.
use Rattle.std.specs.Prelude.{◌≡◌, ℕ, List, [], ◌∷◌, ◌++◌, Option, None, Result, Ok, Err, is_ok, if◌then◌else◌}
use Rattle.dh_base.specs.declared.lists.NoMemory.{NoMemory}
use Rattle.dh_tree.specs.declared.breaches.Breach.{Breach}
use Rattle.dh_tree.specs.LeastBreach.{least_of}
use Rattle.dh_tree.specs.Scopes.{ScopeEntry, binding, entity_of, bind}
use Rattle.dh_names.specs.declared.scopes.VisibleNames.{VisibleNames}

-- all names that are visible
abbrev pub visible : VisibleNames → List ScopeEntry
visible n = n.outer ++ n.own

-- a name is made visible; for want of memory, which only a name needs that is not visible yet, nothing is
abbrev pub Binds : List ScopeEntry → List ScopeEntry → List ℕ → ℕ → Result (Unit {0}) NoMemory → Type 0
Binds old new name entity (Ok _) = new ≡ bind old name entity
Binds old new name entity (Err _) = (entity_of old name ≡ None) × (new ≡ old)

-- a name is added behind the others; for want of memory the names stay as they were
abbrev pub AddsName : (old new : List ScopeEntry) → (name : List ℕ) → (entity : ℕ) → Result (Unit {0}) NoMemory → Type 0
AddsName old new name entity result = new ≡ (if is_ok result then old ++ binding name entity ∷ [] else old)

-- the least is kept of the breach that was kept and those that a rule finds here where these names are visible
abbrev pub LeastBy : {A : Type 0} → (rule : List ScopeEntry → A → List Breach) → VisibleNames → (old new : Option Breach) → A → Type 0
LeastBy rule names old new seen = new ≡ least_of old (rule (visible names) seen)
