use Rattle.std.proofs.Common.{ap, ◌∙◌}
use Rattle.std.specs.Prelude.{Vec}
use Rattle.std.specs.Global.{Global}
use Rattle.dh_ports.specs.declared.moves.Run.{Run}
use Rattle.dh_ports.specs.Runs.{moves_in}
use Rattle.dh_ports.proofs.MoveTurns.{claim_then, claim_else}
use Rattle.dh_ports.proofs.moves.claim_all.Goals.{then-counts-bank-gt0+in_ok-push_claim, else-counts-bank-gt0}
use Rattle.dh_ports.proofs.moves.claim_all.Goals as goal

pub loop-bank-preserved : goal.loop-bank-preserved
loop-bank-preserved c = elim c.if-counts-bank-gt0.branch [
  | then-counts-bank-gt0+in_ok-push_claim w ↦
      claim_then c.args.event c.args.base c.loop-bank.bank c.args.counts.now c.loop-bank-test.true (moves_in c.loop-bank.moves.items) (moves_in c.if-counts-bank-gt0.moves.items) w.if-counts-bank-gt0.true (ap (λ (v : Vec Run Global). moves_in v.items) w.moves-is ∙ w.in_ok-push_claim.ensures) ∙ c.loop-bank.invariant
  | else-counts-bank-gt0 w ↦
      claim_else c.args.event c.args.base c.loop-bank.bank c.args.counts.now c.loop-bank-test.true (moves_in c.loop-bank.moves.items) (moves_in c.if-counts-bank-gt0.moves.items) w.if-counts-bank-gt0.false (ap (λ (v : Vec Run Global). moves_in v.items) w.moves-is) ∙ c.loop-bank.invariant
]
