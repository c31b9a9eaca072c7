-- Views that lead from the dimensions of what is named to those of a memory, with indices and offsets that fit them; and
-- where the indices behind them lead.
use Rattle.std.specs.Prelude.{◌≡◌, ℕ, ◌+◌, List, length, map, Option, Some, None, ℤ}
use Rattle.dh_tree.specs.declared.tables.Dim.{Dim}
use Rattle.dh_tree.specs.declared.viewing.ViewMap.{ViewMap}
use Rattle.dh_tree.specs.ViewElements.{element_through}
use Rattle.dh_meaning.specs.Ways.{WayStep, step_of}
use Rattle.dh_ways.specs.Leading.{StepsLead, next_dims, offsets_on}
use Rattle.dh_code.specs.declared.spots.Spread.{Spread}
use Rattle.dh_code.specs.Banks.{Spreads}

-- the views of steps, and the steps of views
abbrev pub step_views : List WayStep → List ViewMap
step_views steps = map (λ s. s.is) steps

abbrev pub steps_of : List ViewMap → List WayStep
steps_of views = map step_of views

-- steps that follow one another to a memory of these dimensions, with as many indices as what is named has dimensions,
-- and with the offsets so many values
pub record StepsFit (memory : List Dim) (steps : List WayStep) (indices values : ℕ) : Type 0 where
  pub are : steps_of (step_views steps) ≡ steps
  pub lead : StepsLead steps memory
  pub named : indices ≡ length (next_dims steps memory)
  pub all : values ≡ indices + offsets_on steps

-- offsets of a view with which it names the same elements
abbrev pub LeadAlike : ViewMap → (offsets others : List ℤ) → Type 0
LeadAlike view offsets others = (indices : List ℤ) → element_through view offsets indices ≡ element_through view others indices

-- where the element of these indices lies, if they are there; those that are out of range on the way are not
abbrev pub SpreadsBehind : List Dim → Option (List ℤ) → Option Spread → Type 0
SpreadsBehind ds None None = Unit {0}
SpreadsBehind ds None (Some s) = ⊥
SpreadsBehind ds (Some is) s = Spreads ds is s
