use Rattle.std.proofs.Common.{◌≡◌, ℕ, ◌+◌, ◌<◌, ◌≤◌, length, ap, ◌∙◌, subst, arith}
use Rattle.dh_size.specs.Marks.{marked_behind}
use Rattle.dh_size.specs.Sizes.{count_below}
use Rattle.dh_size.proofs.ThroughBanks.{count_else, count_fits, count_then}
use Rattle.dh_size.proofs.through.count_behind.Goals.{then-is_behind, else-is_behind}
use Rattle.dh_size.proofs.through.count_behind.Goals as goal

pub is_behind-requires-clause-there : goal.is_behind-requires-clause-there
is_behind-requires-clause-there c = subst (λ (n : ℕ). c.loop-behind.behind < n) (c.len-behind-end.ensures ∙ c.args.carrier.now.sources.ok.0) c.loop-behind-test.true

pub is_behind-requires-clause-within : goal.is_behind-requires-clause-within
is_behind-requires-clause-within c = c.requires.within c.loop-behind.behind (subst (λ (n : ℕ). c.loop-behind.behind < n) (c.len-behind-end.ensures ∙ c.args.carrier.now.sources.ok.0) c.loop-behind-test.true)

pub overflow_add-count : goal.overflow_add-count
overflow_add-count c =
    let few : c.loop-behind.count + 1 ≤ 64 =
    count_fits (marked_behind c.args.carrier.now c.args.marks.now) c.loop-behind.behind c.loop-behind.count (length c.args.carrier.now.sources.items) (subst (λ (n : ℕ). c.loop-behind.behind < n) (c.len-behind-end.ensures ∙ c.args.carrier.now.sources.ok.0) c.loop-behind-test.true) c.requires.few c.loop-behind.invariant in
    omega (arith, few)

pub loop-behind-preserved : goal.loop-behind-preserved
loop-behind-preserved c = elim c.if-is_behind.branch [
  | then-is_behind w ↦ count_then (marked_behind c.args.carrier.now c.args.marks.now) c.loop-behind.behind c.loop-behind.count c.if-is_behind.count c.is_behind.result c.is_behind.ensures w.if-is_behind.true c.loop-behind.invariant w.count-is
  | else-is_behind w ↦ count_else (marked_behind c.args.carrier.now c.args.marks.now) c.loop-behind.behind c.loop-behind.count c.if-is_behind.count c.is_behind.result c.is_behind.ensures w.if-is_behind.false c.loop-behind.invariant w.count-is
]

pub returns : goal.returns
returns c =
    let end : c.len-behind-end.result ≡ length c.args.carrier.now.sources.items = c.len-behind-end.ensures ∙ c.args.carrier.now.sources.ok.0 in
    let all : c.loop-behind.behind ≡ length c.args.carrier.now.sources.items = omega (arith, end, c.loop-behind-test.false, c.loop-behind.auto.behind-end) in
    c.loop-behind.invariant ∙ ap (count_below (marked_behind c.args.carrier.now c.args.marks.now)) all
