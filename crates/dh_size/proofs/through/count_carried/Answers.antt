use Rattle.std.proofs.Common.{◌≡◌, ℕ, ◌+◌, ◌<◌, ◌≤◌, length, ap, ◌∙◌, subst, arith}
use Rattle.dh_ports.specs.Carriers.{is_carried}
use Rattle.dh_size.specs.Sizes.{count_below}
use Rattle.dh_size.proofs.ThroughBanks.{count_else, count_fits, count_then}
use Rattle.dh_size.proofs.through.count_carried.Goals.{then-carries, else-carries}
use Rattle.dh_size.proofs.through.count_carried.Goals as goal

pub carries-requires : goal.carries-requires
carries-requires c = subst (λ (n : ℕ). c.loop-behind.behind < n) (c.len-behind-end.ensures ∙ c.args.carrier.now.sources.ok.0) c.loop-behind-test.true

pub overflow_add-count : goal.overflow_add-count
overflow_add-count c =
    let few : c.loop-behind.count + 1 ≤ 64 =
    count_fits (is_carried c.args.carrier.now c.args.bank) c.loop-behind.behind c.loop-behind.count (length c.args.carrier.now.sources.items) (subst (λ (n : ℕ). c.loop-behind.behind < n) (c.len-behind-end.ensures ∙ c.args.carrier.now.sources.ok.0) c.loop-behind-test.true) c.requires.few c.loop-behind.invariant in
    omega (arith, few)

pub loop-behind-preserved : goal.loop-behind-preserved
loop-behind-preserved c = elim c.if-carries.branch [
  | then-carries w ↦ count_then (is_carried c.args.carrier.now c.args.bank) c.loop-behind.behind c.loop-behind.count c.if-carries.count c.carries.result c.carries.ensures w.if-carries.true c.loop-behind.invariant w.count-is
  | else-carries w ↦ count_else (is_carried c.args.carrier.now c.args.bank) c.loop-behind.behind c.loop-behind.count c.if-carries.count c.carries.result c.carries.ensures w.if-carries.false c.loop-behind.invariant w.count-is
]

pub returns : goal.returns
returns c =
    let end : c.len-behind-end.result ≡ length c.args.carrier.now.sources.items = c.len-behind-end.ensures ∙ c.args.carrier.now.sources.ok.0 in
    let all : c.loop-behind.behind ≡ length c.args.carrier.now.sources.items = omega (arith, end, c.loop-behind-test.false, c.loop-behind.auto.behind-end) in
    c.loop-behind.invariant ∙ ap (count_below (is_carried c.args.carrier.now c.args.bank)) all
