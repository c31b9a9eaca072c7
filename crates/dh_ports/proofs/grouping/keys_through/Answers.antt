use Rattle.std.proofs.Common.{◌≡◌, ℕ, ◌*◌, ◌/◌, ◌≤◌, length, refl, sym, subst, ◌∙◌, ap, arith}
use Rattle.std.proofs.lemmas.Result.{on_ok_weaker}
use Rattle.dh_tree.specs.Elements.{banks_of}
use Rattle.dh_tree.specs.Seen.{program_seen}
use Rattle.dh_ways.specs.Seen.{way_seen}
use Rattle.dh_ports.specs.Claims.{source_of}
use Rattle.dh_ports.specs.Copies.{stride_in}
use Rattle.dh_ports.proofs.GroupCharges.{groups_all, none_sums, stride_some, sums_are}
use Rattle.dh_ports.proofs.RangeKeys.{tells_paths}
use Rattle.dh_ports.proofs.SumTurns.{no_group}
use Rattle.dh_ports.proofs.grouping.keys_through.Goals as goal

pub returns-then-count-eq0-clause-counts : goal.returns-then-count-eq0-clause-counts
returns-then-count-eq0-clause-counts c =
    on_ok_weaker c.keep.result (λ so. so ∙ none_sums (program_seen c.args.typed.now) (way_seen c.args.way.now) (source_of c.args.copied.loops.now c.args.copied.writes c.args.copied.access.now) c.len.result (length c.args.carrier.now.sources.items) c.in_ok-none.none.items (sym c.in_ok-reach.ensures.paths.count ∙ c.if-count-eq0.true) (c.len.ensures ∙ c.args.carrier.now.sources.ok.0) c.in_ok-none.ensures) c.keep.ensures.sums

pub keep-requires-clause-are : goal.keep-requires-clause-are
keep-requires-clause-are c = no_group c.in_ok-reach.reach c.args.carrier.now 0 c.len.result c.in_ok-none.none.items (c.len.ensures ∙ c.args.carrier.now.sources.ok.0) c.in_ok-none.ensures

pub nonzero_div-groups : goal.nonzero_div-groups
nonzero_div-groups c =
    let one : 1 ≤ c.in_ok-reach.reach.paths.count = omega (arith, c.if-count-eq0.false) in
    stride_some c.args.typed.now c.args.scopes.now c.args.copied.loops.now c.args.copied.dims.now c.args.copied.access.now c.args.copied.writes c.in_ok-reach.reach c.in_ok-reach.ensures c.requires.scopes one (way_seen c.args.way.now) c.requires.named
    c.stride_of-stride.result (c.in_ok-reach.reach.paths.count / c.stride_of-stride.result) (c.stride_of-stride.ensures ∙ (ap (λ ls. stride_in ls c.shifts-deep.result c.in_ok-reach.reach.paths.count) c.as_slice.ensures.value ∙ ap (λ n. stride_in c.in_ok-reach.reach.paths.levels.items n c.in_ok-reach.reach.paths.count) c.shifts-deep.ensures)) refl

pub keep_sums-requires-clause-tells : goal.keep_sums-requires-clause-tells
keep_sums-requires-clause-tells c =
    let one : 1 ≤ c.in_ok-reach.reach.paths.count = omega (arith, c.if-count-eq0.false) in
    tells_paths c.args.typed.now c.args.scopes.now c.args.copied.loops.now c.args.copied.dims.now c.args.copied.access.now c.args.copied.writes c.in_ok-reach.reach c.in_ok-reach.ensures c.requires.scopes one c.requires.copies

pub keep_sums-requires-clause-range : goal.keep_sums-requires-clause-range
keep_sums-requires-clause-range c =
    let one : 1 ≤ c.in_ok-reach.reach.paths.count = omega (arith, c.if-count-eq0.false) in
    let all : c.in_ok-reach.reach.paths.count / c.stride_of-stride.result * c.stride_of-stride.result ≡ c.in_ok-reach.reach.paths.count =
    groups_all c.args.typed.now c.args.scopes.now c.args.copied.loops.now c.args.copied.dims.now c.args.copied.access.now c.args.copied.writes c.in_ok-reach.reach c.in_ok-reach.ensures c.requires.scopes one (way_seen c.args.way.now) c.requires.named
    c.stride_of-stride.result (c.in_ok-reach.reach.paths.count / c.stride_of-stride.result) (c.stride_of-stride.ensures ∙ (ap (λ ls. stride_in ls c.shifts-deep.result c.in_ok-reach.reach.paths.count) c.as_slice.ensures.value ∙ ap (λ n. stride_in c.in_ok-reach.reach.paths.levels.items n c.in_ok-reach.reach.paths.count) c.shifts-deep.ensures)) refl in
    subst (λ (n : ℕ). n ≤ 256) (sym (all ∙ c.in_ok-reach.ensures.paths.count)) c.requires.copies

pub keep_sums-requires-clause-few : goal.keep_sums-requires-clause-few
keep_sums-requires-clause-few c = subst (λ (n : ℕ). n ≤ 64) (sym (c.requires.carries.banks ∙ ap banks_of (sym c.requires.named))) c.requires.few

pub returns-clause-counts : goal.returns-clause-counts
returns-clause-counts c =
    let one : 1 ≤ c.in_ok-reach.reach.paths.count = omega (arith, c.if-count-eq0.false) in
    on_ok_weaker c.keep_sums.result (λ so. sums_are c.args.typed.now c.args.scopes.now c.args.copied.loops.now c.args.copied.dims.now c.args.copied.access.now c.args.copied.writes c.in_ok-reach.reach c.in_ok-reach.ensures c.requires.scopes one (way_seen c.args.way.now) c.requires.named
    c.stride_of-stride.result (c.in_ok-reach.reach.paths.count / c.stride_of-stride.result) (c.stride_of-stride.ensures ∙ (ap (λ ls. stride_in ls c.shifts-deep.result c.in_ok-reach.reach.paths.count) c.as_slice.ensures.value ∙ ap (λ n. stride_in c.in_ok-reach.reach.paths.levels.items n c.in_ok-reach.reach.paths.count) c.shifts-deep.ensures)) refl
    c.args.carrier.now c.keep_sums.new.tally.last.sums.items c.requires.carries so) c.keep_sums.ensures.sums
