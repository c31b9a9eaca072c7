use Rattle.std.proofs.Common.{ap, sym, ◌∙◌, refl}
use Rattle.dh_lengths.specs.declared.lengths.PhaseWalk.{PhaseWalk}
use Rattle.dh_lengths.proofs.PhaseWalking.{closes_still, closes_told}
use Rattle.dh_lengths.proofs.lengths.close.Goals as goal
use Rattle.dh_lengths.proofs.lengths.close.Goals.{then-walk+in_ok-tell, else-walk}

pub returns : goal.returns
returns c = elim c.if-walk.branch [
  | then-walk+in_ok-tell w ↦ closes_told c.args.walk.now w.tell.new.walk _ w.if-walk.true w.in_ok-tell.ensures (ap (λ (x : PhaseWalk). x.held) w.walk-is) (ap (λ (x : PhaseWalk). x.lengths) w.walk-is) (ap (λ (x : PhaseWalk). x.pending) w.walk-is) refl
  | else-walk w ↦ closes_still c.args.walk.now _ w.if-walk.false (ap (λ (x : PhaseWalk). x.held) w.walk-is) (ap (λ (x : PhaseWalk). x.lengths) w.walk-is) (ap (λ (x : PhaseWalk). x.pending) w.walk-is) refl
]
