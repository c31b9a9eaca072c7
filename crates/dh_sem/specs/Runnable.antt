-- Programs that can be run: the phases of the core suit the kinds of their operators, each variable is named where
-- it is declared, and the paths inside loops and the slots of variables can be numbered.
use Rattle.std.specs.Prelude.{ℕ, ◌+◌, ◌*◌, ◌-◌, ◌≤◌, ◌^◌, List, [], length}
use Rattle.std.specs.List.{AllByRecursion}
use Rattle.dh_tree.specs.declared.tables.MemEntry.{MemEntry}
use Rattle.dh_tree.specs.PlainTrees.{Program}
use Rattle.dh_meaning.specs.Core.{Turning, CorePhase, straightly, turning, looping, choosing, CorePhases, no_core_phases, phase_and}
use Rattle.dh_meaning.specs.CoreOf.{core_of}
use Rattle.dh_meaning.specs.Ways.{all_entities_of, ways_of}
use Rattle.dh_ways.specs.CutStands.{IsFewRound}
use Rattle.dh_ways.specs.Stands.{stands}
use Rattle.dh_code.specs.Declarations.{declarations, factors_inside, hidden_declarations, placing_of}
use Rattle.dh_code.specs.Placed.{AreFew, IsNamedBelow, most_entities}
use Rattle.dh_code.specs.Ranks.{copies_in}
use Rattle.dh_base.specs.Limits.{most_copies}
use Rattle.dh_code.specs.Slots.{Placing}
use Rattle.dh_code.specs.Suited.{CanDoAll, CanTest, IsInside}

-- the turns of a loop inside loops of these factors
pub record CanTurn (p : Placing) (factors : List ℕ) (loop : Turning) : Type 0 where
  pub iterator : IsInside p (factors_inside factors loop.factor) loop.depth loop.iterator
  pub some_factor : 1 ≤ loop.factor
  -- the iterator's values are numbers of 64 bits
  pub counted : loop.low + loop.count * loop.factor ≤ 2 ^ 64 - 1
  pub few : copies_in (factors_inside factors loop.factor) ≤ most_copies

abbrev mutual
  pub CanRun : List MemEntry → Placing → (factors : List ℕ) → CorePhase → Type 0
  CanRun table p factors (straightly cs) = CanDoAll table p factors cs
  CanRun table p factors (turning loop body) = CanTurn p factors loop × CanRunAll table p (factors_inside factors loop.factor) body
  CanRun table p factors (looping test body) = CanTest table p factors test × CanRunAll table p factors body
  CanRun table p factors (choosing test chosen other) = CanTest table p factors test × (CanRunAll table p factors chosen × CanRunAll table p factors other)

  pub CanRunAll : List MemEntry → Placing → (factors : List ℕ) → CorePhases → Type 0
  CanRunAll table p factors no_core_phases = Unit {0}
  CanRunAll table p factors (phase_and q qs) = CanRun table p factors q × CanRunAll table p factors qs

pub record IsRunnable (p : Program) : Type 0 where
  pub phases : CanRunAll (core_of p).table (placing_of p) [] (core_of p).phases
  pub copies : AreFew (declarations [] p.body)
  -- of the variables that keep offsets, too
  pub hidden : AreFew (hidden_declarations p)
  pub entities : all_entities_of p ≤ most_entities
  -- the loops round views, and their copies, can be numbered
  pub round : AllByRecursion IsFewRound (stands 0 1 p.body)
  -- no view has the number of such a variable
  pub named : AllByRecursion (λ l. IsNamedBelow (length p.entities) l.entity) (ways_of p)
