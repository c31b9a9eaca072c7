-- Views on a way that follow one another: each has the shape of its sort, and its parent's dimensions are those of the
-- next one, the last one's those of the memory.
use Rattle.std.specs.Prelude.{◌≡◌, ℕ, ◌+◌, List, [], ◌∷◌, length, map, Option, Some, None}
use Rattle.std.specs.List.{AllByRecursion}
use Rattle.dh_tree.specs.declared.tables.Dim.{Dim}
use Rattle.dh_tree.specs.declared.viewing.Viewed.{Viewed}
use Rattle.dh_tree.specs.Memories.{Memory, memories_of, memory_in, table_of}
use Rattle.dh_tree.specs.PlainTrees.{Program}
use Rattle.dh_tree.specs.Shapes.{IsProgramTable}
use Rattle.dh_tree.specs.ViewFactors.{factor_breaches_of}
use Rattle.dh_tree.specs.ViewShapes.{IsViewMap}
use Rattle.dh_meaning.specs.Ways.{Led, WayStep, Way, step_of, way_to, ways_of}

-- the dimensions of what is named, by views or the memory itself
abbrev pub next_dims : List WayStep → (memory : List Dim) → List Dim
next_dims [] memory = memory
next_dims (s ∷ ss) memory = s.is.shape.dims

abbrev pub StepsLead : List WayStep → (memory : List Dim) → Type 0
StepsLead [] memory = Unit {0}
StepsLead (s ∷ ss) memory = IsViewMap s.is × ((s.is.parent.dims ≡ next_dims ss memory) × StepsLead ss memory)

-- a way leads from the view that is named to a memory
pub record LeadsTo (ms : List Memory) (w : Way) : Type 0 where
  pub memory : Memory
  pub found : memory_in ms w.memory ≡ Some memory
  pub own : IsViewMap w.is
  pub steps : StepsLead w.steps memory.shape.dims
  pub first : next_dims w.steps memory.shape.dims ≡ w.is.shape.dims

-- how many offsets views take
abbrev pub offsets_on : List WayStep → ℕ
offsets_on [] = 0
offsets_on (s ∷ ss) = s.offsets + offsets_on ss

-- a way keeps as many offsets as its views take, each of which is a step that takes its own
pub record KeepsOffsets (w : Way) : Type 0 where
  pub many : length w.hidden ≡ offsets_on w.steps
  pub each : map step_of (map (λ s. s.is) w.steps) ≡ w.steps

-- the view of a way
abbrev pub viewed_of_led : Led → Viewed
viewed_of_led l = record { entity = l.entity; is = l.way.is }

-- Laws.

-- where memories, factors and brackets keep the rules, each way leads to its memory
abbrev pub KeptWaysLead : Type 0
KeptWaysLead = (p : Program) → factor_breaches_of p ≡ [] → IsProgramTable (table_of p) → AllByRecursion (λ (l : Led). LeadsTo (memories_of p) l.way) (ways_of p)

-- what is a memory has no way
abbrev pub MemoriesHaveNoWay : Type 0
MemoriesHaveNoWay = (p : Program) (entity : Option ℕ) (m : Memory) → memory_in (memories_of p) entity ≡ Some m → way_to p entity ≡ None
