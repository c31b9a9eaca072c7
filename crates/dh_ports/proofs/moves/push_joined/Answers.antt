use Rattle.std.proofs.Common.{◌++◌, append-nil, ap, sym, ◌∙◌}
use Rattle.std.proofs.lemmas.Result.{on_ok_weaker}
use Rattle.dh_ports.specs.Runs.{moves_in, one_claim}
use Rattle.dh_ports.proofs.RunTurns.{run_popped}
use Rattle.dh_ports.proofs.moves.push_joined.Goals as goal

pub returns-in-Some : goal.returns-in-Some
returns-in-Some c =
    on_ok_weaker c.push_behind.result (λ so.
    so ∙ ap (λ l. l ++ one_claim c.args.event c.args.slot c.args.keys) (sym (run_popped c.args.moves.now.items c.pop.new.self.items c.in-Some.last c.in-Some.ensures.items))) c.push_behind.ensures

pub returns-in-None : goal.returns-in-None
returns-in-None c =
    on_ok_weaker c.push_one.result (λ so.
    so ∙ ap (λ l. moves_in l ++ one_claim c.args.event c.args.slot c.args.keys) (sym (c.in-None.ensures.items ∙ append-nil c.pop.new.self.items))) c.push_one.ensures
