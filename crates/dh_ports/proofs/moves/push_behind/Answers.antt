use Rattle.std.proofs.Common.{◌++◌, append_assoc, ap, sym, ◌∙◌}
use Rattle.std.proofs.lemmas.Result.{on_ok_weaker}
use Rattle.dh_ports.specs.Runs.{moves_in, moves_of_run, one_claim}
use Rattle.dh_ports.proofs.RunTurns.{longer}
use Rattle.dh_ports.proofs.moves.push_behind.Goals as goal

pub returns-then-goes_on : goal.returns-then-goes_on
returns-then-goes_on c =
    on_ok_weaker c.push_run.result (λ so.
    so
    ∙ (ap (λ l. moves_in c.args.moves.now.items ++ l) (longer c.args.last c.args.event c.args.slot c.args.keys (sym c.goes_on.ensures ∙ c.if-goes_on.true))
    ∙ sym (append_assoc (moves_in c.args.moves.now.items) (moves_of_run c.args.last) (one_claim c.args.event c.args.slot c.args.keys)))) c.push_run.ensures
