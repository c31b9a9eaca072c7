-- Where variables are declared, by their entities. Depths are told as far as a machine word counts: no loop
-- stands so deep.
use Rattle.std.specs.Prelude.{◌≡◌, ℕ, ◌+◌, ◌-◌, ◌<◌, ◌^◌, ◌==◌, if◌then◌else◌, min, nat_lt, List, [], ◌∷◌, Option, Some, None, slice_get, Vec}
use Rattle.std.specs.Global.{Global}
use Rattle.dh_meaning.specs.Bindings.{Binding, binding_in}
use Rattle.dh_tree.specs.PlainTrees.{Action, action, ActionForm, lets, lets_memory, views, assigns, stores, reduces, calls, blocks, decides, repeats, counts, MaybeAction, no_action, one_action, Actions, no_actions, action_then, Groups, no_groups, group_then}
use Rattle.dh_ways.specs.declared.ways.Hidden.{Hidden}
use Rattle.dh_ways.specs.Kept.{KeptLed}
use Rattle.dh_events.specs.declared.dependence.Scope.{Scope}

abbrev pub most_depth : ℕ
most_depth = 2 ^ 64 - 1

-- a depth as it is told
abbrev pub IsDepth : (told depth : ℕ) → Type 0
IsDepth told depth = told ≡ min depth most_depth

-- a level that a loop can have
abbrev pub IsLow : (level : ℕ) → Type 0
IsLow level = level < 2 ^ 63

abbrev pub scope_of : Option Binding → Option Scope
scope_of None = None
scope_of (Some b) = Some (record { depth = min b.depth most_depth; iterates = b.iterates })

abbrev pub scope_found : Option (Option Scope) → Option Scope
scope_found None = None
scope_found (Some s) = s

abbrev pub scope_at : List (Option Scope) → ℕ → Option Scope
scope_at scopes e = scope_found (slice_get scopes e)

-- the scopes are those of these variables
abbrev pub AreScopes : List Binding → List (Option Scope) → Type 0
AreScopes bs scopes = (e : ℕ) → scope_of (binding_in bs e) ≡ scope_at scopes e

-- the first declaration of a variable stands
abbrev pub or_scope : Option Scope → Scope → Option Scope
or_scope None scope = Some scope
or_scope (Some s) scope = Some s

abbrev pub with_scope : (ℕ → Option Scope) → Option ℕ → Scope → ℕ → Option Scope
with_scope f None scope e = f e
with_scope f (Some place) scope e = if place == e then or_scope (f e) scope else f e

abbrev pub scope : (depth : ℕ) → (iterates : Option ℕ) → Scope
scope depth iterates = record { depth = depth; iterates = iterates }

-- the told depth inside a loop of a factor
abbrev pub told_inside : (told factor : ℕ) → ℕ
told_inside told factor = if nat_lt 1 factor then min (told + 1) most_depth else told

abbrev mutual
  -- what is noted of the variables of a command that stands so many unrolled loops deep
  pub scopes_in : (told : ℕ) → Action → (ℕ → Option Scope) → ℕ → Option Scope
  scopes_in told (action id place form) f = form_scopes told form f

  pub form_scopes : (told : ℕ) → ActionForm → (ℕ → Option Scope) → ℕ → Option Scope
  form_scopes told (lets name declared value) f = with_scope f name.entity (scope told None)
  form_scopes told (lets_memory name shape shape_places value) f = f
  form_scopes told (views name parent form) f = f
  form_scopes told (assigns target value) f = f
  form_scopes told (stores target value) f = f
  form_scopes told (reduces target op value) f = f
  form_scopes told (calls function arguments) f = f
  form_scopes told (blocks body) f = groups_scopes told body f
  form_scopes told (decides test chosen other) f = other_scopes told other (scopes_in told chosen f)
  form_scopes told (repeats test body) f = scopes_in told body f
  form_scopes told (counts iterator declared low high factor body combine combine_place) f =
      other_scopes (told_inside told factor.value) combine
      (scopes_in (told_inside told factor.value) body (with_scope f iterator.entity (scope (told_inside told factor.value) (Some factor.value))))

  pub other_scopes : (told : ℕ) → MaybeAction → (ℕ → Option Scope) → ℕ → Option Scope
  other_scopes told no_action f = f
  other_scopes told (one_action a) f = scopes_in told a f

  pub groups_scopes : (told : ℕ) → Groups → (ℕ → Option Scope) → ℕ → Option Scope
  groups_scopes told no_groups f = f
  groups_scopes told (group_then part rest) f = groups_scopes told rest (part_scopes told part f)

  pub part_scopes : (told : ℕ) → Actions → (ℕ → Option Scope) → ℕ → Option Scope
  part_scopes told no_actions f = f
  part_scopes told (action_then a rest) f = part_scopes told rest (scopes_in told a f)

-- what is noted of views with their ways, and of the variables that keep their offsets
abbrev pub led_scopes : List KeptLed → (ℕ → Option Scope) → ℕ → Option Scope
led_scopes [] f = f
led_scopes (l ∷ ls) f = led_scopes ls (with_scope f l.entity (scope (min l.way.deepest most_depth) None))

abbrev pub hidden_scopes : List Hidden → (ℕ → Option Scope) → ℕ → Option Scope
hidden_scopes [] f = f
hidden_scopes (h ∷ hs) f = hidden_scopes hs (with_scope f (Some h.entity) (scope (min h.depth most_depth) None))

-- the scopes are those that this change makes of the ones before
abbrev pub MakeScopes : (old new : Vec (Option Scope) Global) → ((ℕ → Option Scope) → ℕ → Option Scope) → Type 0
MakeScopes old new change = scope_at new.items ≡ change (scope_at old.items)
