use Rattle.std.proofs.Common.{◌≡◌, ℕ, take}
use Rattle.dh_plan.specs.LegalSchedules.{products_at}
use Rattle.dh_bind.specs.Units.{BlockUnits, counted_at}
use Rattle.dh_bind.proofs.units.push_units.Given as goal

abbrev pub invariant-loop-i : goal.invariant-loop-i
invariant-loop-i l = record {
  units : BlockUnits l.operations l.clocks l.i l.initial.units l.units;
  counts : (q : ℕ) → counted_at l.counts q ≡ products_at q (take l.i l.operations) (take l.i l.clocks);
}
