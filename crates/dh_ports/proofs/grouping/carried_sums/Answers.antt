use Rattle.std.proofs.Common.{◌≡◌, ℕ, ◌+◌, ◌*◌, ◌<◌, ◌≤◌, List, length, slice_index, ap, sym, subst, ◌∙◌, arith}
use Rattle.std.proofs.lemmas.List.{with_items_is}
use Rattle.dh_ports.specs.Carriers.{carried_to, AddsCarried, AreGroupSums}
use Rattle.dh_ports.proofs.CarrierMade.{zeros_long}
use Rattle.dh_ports.proofs.GroupTurns.{block_within, sums_few, sums_none, sums_turn}
use Rattle.dh_ports.proofs.grouping.carried_sums.Goals as goal

pub loop-group-init : goal.loop-group-init
loop-group-init c = (
  ap length c.in_ok-counts.ensures ∙ zeros_long c.args.carrier.now.banks,
  (c.requires.past, sums_none c.args.reach.now c.args.carrier.now c.args.stride c.requires.within c.len.result c.in_ok-sums.sums.items (c.len.ensures ∙ c.args.carrier.now.sources.ok.0) c.in_ok-sums.ensures),
)

pub overflow_mul-from : goal.overflow_mul-from
overflow_mul-from c =
    let block = block_within c.loop-group.group c.args.groups c.args.stride c.loop-group-test.true in
    let range : c.args.groups * c.args.stride ≤ 256 = c.requires.range in
    omega (arith, block, range)

pub count_group-requires-clause-range : goal.count_group-requires-clause-range
count_group-requires-clause-range c =
    let block = block_within c.loop-group.group c.args.groups c.args.stride c.loop-group-test.true in
    let range : c.args.groups * c.args.stride ≤ 256 = c.requires.range in
    omega (arith, block, range)

pub add_carried-requires-clause-long : goal.add_carried-requires-clause-long
add_carried-requires-clause-long c = ap length c.as_mut_slice.ensures.value ∙ c.loop-group.invariant.1.1.long

pub add_carried-requires-clause-banks : goal.add_carried-requires-clause-banks
add_carried-requires-clause-banks c = ap length c.as_slice.ensures.value ∙ c.in_ok-count_group.ensures.counts.long

pub add_carried-requires-clause-few : goal.add_carried-requires-clause-few
add_carried-requires-clause-few c = λ bank inside.
    subst (λ (l : List ℕ). slice_index l bank + carried_to c.args.carrier.now (slice_index c.as_slice.result.now) bank ≤ 256) (sym c.as_mut_slice.ensures.value)
    (subst (λ (l : List ℕ). slice_index c.loop-group.sums.items bank + carried_to c.args.carrier.now (slice_index l) bank ≤ 256) (sym c.as_slice.ensures.value)
    (sums_few c.args.reach.now c.args.carrier.now c.args.stride c.requires.within c.loop-group.group c.args.groups c.loop-group.sums.items c.count_group.new.counts.items bank c.loop-group-test.true c.requires.range c.loop-group.invariant.1.1 c.in_ok-count_group.ensures.counts
    (subst (λ (l : List ℕ). bank < length l) c.as_mut_slice.ensures.value inside)))

pub loop-group-preserved : goal.loop-group-preserved
loop-group-preserved c =
    let adds : AddsCarried c.args.carrier.now (slice_index c.count_group.new.counts.items) c.loop-group.sums.items c.add_carried.new.sums =
    subst (λ (l : List ℕ). AddsCarried c.args.carrier.now (slice_index c.count_group.new.counts.items) l c.add_carried.new.sums) c.as_mut_slice.ensures.value
    (subst (λ (l : List ℕ). AddsCarried c.args.carrier.now (slice_index l) c.as_mut_slice.result.now c.add_carried.new.sums) c.as_slice.ensures.value c.add_carried.ensures) in (
      c.in_ok-count_group.ensures.counts.long,
      (
        c.in_ok-count_group.ensures.past,
        subst (λ (l : List ℕ). AreGroupSums c.args.reach.now c.args.carrier.now c.args.stride (c.loop-group.group + 1) l) (sym (with_items_is c.loop-group.sums c.add_carried.new.sums (c.add_carried.ensures.long ∙ c.as_mut_slice.ensures.len)))
            (sums_turn c.args.reach.now c.args.carrier.now c.args.stride c.requires.within c.loop-group.group c.loop-group.sums.items c.add_carried.new.sums c.count_group.new.counts.items c.loop-group.invariant.1.1 c.in_ok-count_group.ensures.counts adds),
      ),
    )

pub returns-clause-sums : goal.returns-clause-sums
returns-clause-sums c =
    let all : c.loop-group.group ≡ c.args.groups = omega (arith, c.loop-group-test.false, c.loop-group.auto.group-end) in
    subst (λ (n : ℕ). AreGroupSums c.args.reach.now c.args.carrier.now c.args.stride n c.loop-group.sums.items) all c.loop-group.invariant.1.1

pub returns-clause-past : goal.returns-clause-past
returns-clause-past c = c.loop-group.invariant.1.0
