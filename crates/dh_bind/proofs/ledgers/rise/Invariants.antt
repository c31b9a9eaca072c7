use Rattle.std.proofs.Common.{take}
use Rattle.dh_bind.specs.Ledgers.{AreMarks, Rises}
use Rattle.dh_bind.proofs.ledgers.rise.Given as goal

abbrev pub invariant-loop-end : goal.invariant-loop-end
invariant-loop-end l = record {
  rises : Rises (take l.end-index l.ends) l.initial.ledgers l.ledgers l.initial.log.items l.log.items;
  marks : AreMarks l.initial.ledgers l.initial.log.items → AreMarks l.initial.ledgers l.log.items;
}
