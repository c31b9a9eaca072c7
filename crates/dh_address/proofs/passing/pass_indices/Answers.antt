use Rattle.std.proofs.Common.{ap, ◌∙◌, List, ℕ}
use Rattle.std.specs.Prelude.{map}
use Rattle.dh_address.specs.SeenAround.{around_seen}
use Rattle.dh_address.specs.WaysMade.{operand_of}
use Rattle.dh_address.proofs.ReadsMade.{indices_passed}
use Rattle.dh_address.proofs.passing.pass_indices.Goals as goal

pub returns : goal.returns
returns c =
    indices_passed (around_seen c.args.old.now c.args.known.now) c.args.reach.now c.args.list.now c.pass_steps.new.list c.in_ok-named.named c.in_ok-indices.indices c.as_slice-2.result.now
    c.new-ranges.result c.pass_steps.new.ranges c.note_ranges.new.ranges c.as_slice-steps.result.now c.dims_in-dims.result.now c.new-ranges.ensures
    (c.in_ok-named.ensures ∙ ap (λ (vs : List ℕ). map (operand_of (around_seen c.args.old.now c.args.known.now)) vs) c.as_slice.ensures) c.as_slice-steps.ensures c.in_ok-indices.ensures c.as_slice-2.ensures
    c.dims_in-dims.ensures c.in_ok-note_ranges.ensures
