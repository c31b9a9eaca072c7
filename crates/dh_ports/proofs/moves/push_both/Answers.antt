use Rattle.std.proofs.Common.{◌++◌, ap, ◌∙◌}
use Rattle.std.proofs.lemmas.Result.{on_ok_weaker}
use Rattle.dh_ports.specs.Runs.{one_claim}
use Rattle.dh_ports.proofs.moves.push_both.Goals as goal

pub returns : goal.returns
returns c = on_ok_weaker c.push_one.result (λ so. so ∙ ap (λ l. l ++ one_claim c.args.event c.args.slot c.args.keys) c.in_ok-push_run.ensures) c.push_one.ensures
