use Rattle.std.proofs.Common.{ap, sym, ◌∙◌}
use Rattle.std.proofs.lemmas.Bool.{eqb-true}
use Rattle.dh_ports.proofs.LogFacts.{mark}
use Rattle.dh_ports.proofs.marks.left_if.Goals as goal

pub returns-then-same : goal.returns-then-same
returns-then-same c = ap (λ n. mark n c.args.mark.left) (eqb-true c.args.mark.slot c.args.slot (sym c.same.ensures ∙ c.if-same.true))
