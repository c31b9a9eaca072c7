use Rattle.std.proofs.Common.{◌≡◌, ℕ, ◌+◌, ◌<◌, ◌≤◌, ◌++◌, length, ap, ◌∙◌, subst, arith}
use Rattle.std.specs.Prelude.{Vec}
use Rattle.std.specs.Global.{Global}
use Rattle.dh_ports.specs.declared.moves.Run.{Run}
use Rattle.dh_ports.specs.Banks.{each_below}
use Rattle.dh_ports.specs.Carriers.{carried_to, one_at}
use Rattle.dh_ports.specs.Claims.{claims_from}
use Rattle.dh_ports.specs.Runs.{moves_in}
use Rattle.dh_ports.proofs.ThroughClaims.{carried_else, carried_first, carried_then}
use Rattle.dh_ports.proofs.moves.claim_each.Goals.{then-carries+in_ok-push_claim, else-carries}
use Rattle.dh_ports.proofs.moves.claim_each.Goals as goal

pub loop-behind-init : goal.loop-behind-init
loop-behind-init c = carried_first (moves_in c.args.moves.now.items) c.args.event c.args.base (carried_to c.args.carrier.now (one_at c.args.bank))

pub carries-requires : goal.carries-requires
carries-requires c = subst (λ (n : ℕ). c.loop-behind.behind < n) (c.len-behind-end.ensures ∙ c.args.carrier.now.sources.ok.0) c.loop-behind-test.true

pub overflow_add-slot : goal.overflow_add-slot
overflow_add-slot c =
    let few : c.args.base + length c.args.carrier.now.sources.items ≤ 2097152 = c.requires.few in
    let inside : c.loop-behind.behind < length c.args.carrier.now.sources.items = subst (λ (n : ℕ). c.loop-behind.behind < n) (c.len-behind-end.ensures ∙ c.args.carrier.now.sources.ok.0) c.loop-behind-test.true in
    omega (arith, few, inside)

pub push_claim-requires : goal.push_claim-requires
push_claim-requires c = record {
  few =
      let few : c.args.base + length c.args.carrier.now.sources.items ≤ 2097152 = c.requires.few in
      let inside : c.loop-behind.behind < length c.args.carrier.now.sources.items = subst (λ (n : ℕ). c.loop-behind.behind < n) (c.len-behind-end.ensures ∙ c.args.carrier.now.sources.ok.0) c.loop-behind-test.true in
      omega (arith, few, inside);
}

pub loop-behind-preserved : goal.loop-behind-preserved
loop-behind-preserved c = elim c.if-carries.branch [
  | then-carries+in_ok-push_claim w ↦
      carried_then c.args.carrier.now c.args.event c.args.base c.args.bank (moves_in c.args.moves.now.items) (moves_in c.loop-behind.moves.items) c.loop-behind.behind c.carries.result c.carries.ensures c.loop-behind.invariant (moves_in c.if-carries.moves.items) w.if-carries.true (ap (λ (v : Vec Run Global). moves_in v.items) w.moves-is ∙ w.in_ok-push_claim.ensures)
  | else-carries w ↦
      carried_else c.args.carrier.now c.args.event c.args.base c.args.bank (moves_in c.args.moves.now.items) (moves_in c.loop-behind.moves.items) c.loop-behind.behind c.carries.result c.carries.ensures c.loop-behind.invariant (moves_in c.if-carries.moves.items) w.if-carries.false (ap (λ (v : Vec Run Global). moves_in v.items) w.moves-is)
]

pub returns : goal.returns
returns c =
    let end : c.len-behind-end.result ≡ length c.args.carrier.now.sources.items = c.len-behind-end.ensures ∙ c.args.carrier.now.sources.ok.0 in
    let all : c.loop-behind.behind ≡ length c.args.carrier.now.sources.items = omega (arith, end, c.loop-behind-test.false, c.loop-behind.auto.behind-end) in
    c.loop-behind.invariant ∙ ap (λ n. moves_in c.args.moves.now.items ++ claims_from c.args.event c.args.base (each_below (carried_to c.args.carrier.now (one_at c.args.bank)) n)) all
