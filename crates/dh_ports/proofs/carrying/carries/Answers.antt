use Rattle.std.proofs.Common.{◌∙◌}
use Rattle.dh_ports.proofs.CarrierTurns.{carries_else, carries_then}
use Rattle.dh_ports.proofs.ClaimTurns.{index_found}
use Rattle.dh_ports.proofs.carrying.carries.Goals as goal

pub returns-then-carrier : goal.returns-then-carrier
returns-then-carrier c = carries_then c.args.carrier.now c.args.bank c.args.behind c.if-carrier.true

pub returns-else-carrier : goal.returns-else-carrier
returns-else-carrier c =
    carries_else c.args.carrier.now c.args.bank c.args.behind c.index-source.result.now c.if-carrier.false (c.index-source.ensures ∙ index_found c.args.carrier.now.sources.items c.args.behind c.index-source.result.now c.requires)
