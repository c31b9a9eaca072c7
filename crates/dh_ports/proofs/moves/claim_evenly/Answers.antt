use Rattle.std.proofs.Common.{◌≡◌, ◌+◌, ◌≤◌, ◌++◌, length, ap, ◌∙◌, arith}
use Rattle.std.proofs.lemmas.Result.{on_ok_weaker}
use Rattle.dh_ports.specs.Runs.{moves_in}
use Rattle.dh_ports.proofs.EvenClaims.{even_claims, no_claims}
use Rattle.dh_ports.proofs.MoveTurns.{nothing_added}
use Rattle.dh_ports.proofs.moves.claim_evenly.Goals as goal

pub overflow_add-end : goal.overflow_add-end
overflow_add-end c =
    let few : c.args.base + length c.args.carrier.now.sources.items ≤ 2097152 = c.requires.few in
    let long : c.len-many.result ≡ length c.args.carrier.now.sources.items = c.len-many.ensures ∙ c.args.carrier.now.sources.ok.0 in
    omega (arith, few, long)

pub returns-then-is_within : goal.returns-then-is_within
returns-then-is_within c =
    on_ok_weaker c.push_run.result (λ so.
    so
    ∙ ap (λ l. moves_in c.args.moves.now.items ++ l)
    (even_claims c.args.carrier.now c.args.event c.args.base c.args.bank c.is_within.result c.requires.even c.is_within.ensures c.len-many.result c.if-is_within.true (c.len-many.ensures ∙ c.args.carrier.now.sources.ok.0))) c.push_run.ensures

pub returns-else-is_within : goal.returns-else-is_within
returns-else-is_within c = nothing_added (moves_in c.args.moves.now.items) _ (no_claims c.args.carrier.now c.args.event c.args.base c.args.bank c.is_within.result c.requires.even c.is_within.ensures c.if-is_within.false)
