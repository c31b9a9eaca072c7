-- The views so far, and those to come behind them.
use Rattle.std.proofs.Common.{◌≡◌, ◌++◌, drop, map}
use denote.Ref.{Bor}
use Rattle.dh_tree.specs.declared.viewing.ViewMap.{ViewMap}
use Rattle.dh_meaning.specs.Ways.{step_of}
use Rattle.dh_expressions.specs.Evaluated.{steps_told}
use Rattle.dh_expressions.proofs.passages.add_views.Given as goal

abbrev pub invariant-loop-i : goal.invariant-loop-i
invariant-loop-i l =
    l.steps ++ steps_told l.scene.through.now l.number (map step_of (drop l.i (map (λ (v : Bor ViewMap). v.now) l.links))) l.rest ≡ l.fn.steps ++ steps_told l.scene.through.now l.fn.first (map step_of (map (λ (v : Bor ViewMap). v.now) l.links)) l.values
