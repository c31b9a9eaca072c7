use Rattle.std.proofs.Common.{true}
use Rattle.dh_tree.specs.Seen.{program_seen}
use Rattle.dh_sound.specs.Accepted.{IsAccepted}
use Rattle.dh_check.specs.Ready.{of_pass}
use Rattle.dh_check.specs.Verdicts.{Checks}
use Rattle.dh_check.proofs.Checked.{accepted_by, refused_by, sound_still, handed_on}
use Rattle.dh_check.proofs.checking.check.Goals as goal

pub check_counted-requires-clause-told : goal.check_counted-requires-clause-told
check_counted-requires-clause-told c =
    let p = program_seen c.in_ok-counted.counted.typed in
    let ready = c.in_ok-counted.ensures.tells.0 in
    record {
      ready = ready;
      table = c.ready_programs_have_tables.ensures p ready;
      banks = c.ready_accesses_are_told.ensures.banks p ready.indices ready.views;
      copies = c.ready_accesses_are_told.ensures.copies p ready.indices ready.limits;
    }

pub returns-clause-verdict : goal.returns-clause-verdict
returns-clause-verdict c =
    accepted_by c.args.text.now (program_seen c.in_ok-counted.counted.typed) (program_seen c.in_ok-accepted.accepted) c.in_ok-accepted.ensures.0 c.in_ok-counted.ensures.tells.1 c.in_ok-accepted.ensures.1

pub returns-clause-sound : goal.returns-clause-sound
returns-clause-sound c =
    let p = program_seen c.in_ok-counted.counted.typed in
    let accepted : IsAccepted p = record { ready = c.in_ok-counted.ensures.tells.0; ports = c.in_ok-accepted.ensures.1 } in
    sound_still p (program_seen c.in_ok-accepted.accepted) c.in_ok-accepted.ensures.0
    (c.accepted_programs_are_never_stuck.ensures.blocks p accepted)
    (c.accepted_programs_are_never_stuck.ensures.stuck p accepted)

pub returns-in_err-accepted-clause-verdict : goal.returns-in_err-accepted-clause-verdict
returns-in_err-accepted-clause-verdict c =
    handed_on (Checks c.args.text.now) c.from_residual-in_err-accepted.result (of_pass c.in_err-accepted.field-0.0) c.from_residual-in_err-accepted.ensures.1
    (refused_by c.args.text.now (program_seen c.in_ok-counted.counted.typed) c.in_err-accepted.field-0.0 c.in_ok-counted.ensures.tells.1 c.in_err-accepted.ensures)

pub returns-in_err-counted-clause-verdict : goal.returns-in_err-counted-clause-verdict
returns-in_err-counted-clause-verdict c =
    handed_on (Checks c.args.text.now) c.from_residual.result c.in_err-counted.field-0.0 c.from_residual.ensures.1 (c.in_err-counted.ensures.tells true)
