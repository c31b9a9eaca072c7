use Rattle.std.proofs.Common.{◌∙◌}
use Rattle.dh_tree.specs.Seen.{program_seen}
use Rattle.dh_sem.proofs.FirstRun.{begun_as, earlier_as, linked_as, unused_as}
use Rattle.dh_sem.proofs.starting.stand_first.Goals as goal

pub go_to_first-requires-clause-course : goal.go_to_first-requires-clause-course
go_to_first-requires-clause-course c =
    linked_as c.as_slice.result.now c.args.made.phases.items c.as_slice-2.result.now c.args.made.lanes.items c.as_slice.ensures.value c.as_slice-2.ensures.value c.requires.holds.0.course.links

pub go_to_first-requires-clause-first : goal.go_to_first-requires-clause-first
go_to_first-requires-clause-first c = earlier_as c.as_slice.result.now c.args.made.phases.items c.args.first c.as_slice.ensures.value c.requires.holds.1.0

pub go_to_first-requires-clause-none : goal.go_to_first-requires-clause-none
go_to_first-requires-clause-none c = c.new-frames.ensures.items

pub returns : goal.returns
returns c =
    begun_as (program_seen c.args.program.now) c.as_slice-entries.result.now _ c.args.first c.in_ok-state.state (record { phases = c.as_slice.result; lanes = c.as_slice-2.result })
    (c.as_slice-entries.ensures ∙ c.memories.ensures) c.requires.table c.requires.holds c.in_ok-firsts.ensures
    (unused_as _ _ _ _ _ _ c.in_ok-state.state c.requires.slots c.len-operations.ensures c.count_banks-banks.ensures c.in_ok-state.ensures)
    c.as_slice.ensures.value c.as_slice-2.ensures.value c.in_ok-place.ensures
