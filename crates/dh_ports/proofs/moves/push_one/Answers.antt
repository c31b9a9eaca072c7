use Rattle.std.proofs.Common.{◌++◌, ap, ◌∙◌}
use Rattle.std.proofs.lemmas.Result.{on_ok_weaker}
use Rattle.dh_ports.specs.Runs.{moves_in}
use Rattle.dh_ports.proofs.RunTurns.{claim_row}
use Rattle.dh_ports.proofs.moves.push_one.Goals as goal

pub returns : goal.returns
returns c = on_ok_weaker c.push_run.result (λ so. so ∙ ap (λ l. moves_in c.args.moves.now.items ++ l) (claim_row c.args.event c.args.slot c.args.keys)) c.push_run.ensures
