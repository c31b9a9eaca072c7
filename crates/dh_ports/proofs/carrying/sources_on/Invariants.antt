use Rattle.std.proofs.Common.{◌≡◌, map, take}
use Rattle.dh_ports.specs.Carriers.{source_in}
use Rattle.dh_ports.proofs.carrying.sources_on.Given as goal

abbrev pub invariant-loop-i : goal.invariant-loop-i
invariant-loop-i l = l.sources.items ≡ map (source_in l.view.sort l.view.shape.dims l.view.parent.dims) (take l.i l.behind)
