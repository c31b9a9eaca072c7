-- The views so far are copied.
use Rattle.std.proofs.Common.{◌≡◌, ◌++◌, map, drop}
use denote.Ref.{Bor}
use Rattle.dh_tree.specs.declared.viewing.ViewMap.{ViewMap}
use Rattle.dh_code.proofs.flattening.copied_views.Given as goal

abbrev pub invariant-loop-i : goal.invariant-loop-i
invariant-loop-i l = l.copies ++ map (λ (v : Bor ViewMap). v.now) (drop l.i l.views) ≡ map (λ (v : Bor ViewMap). v.now) l.views
