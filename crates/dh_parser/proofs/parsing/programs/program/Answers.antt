use Rattle.std.proofs.Common.{refl}
use Rattle.dh_parser.proofs.Going.{ok_then, err_then, given}
use Rattle.dh_parser.proofs.ItemLoops.{program_is, program_made}
use Rattle.dh_parser.proofs.parsing.programs.program.Goals as goal

pub returns-in_err-items : goal.returns-in_err-items
returns-in_err-items c =
    rw (program_is c.args.reader.now.rest.now, given c.from_residual.ensures) (err_then _ c.in_err-items.ensures.answer)

pub returns-in_err-body : goal.returns-in_err-body
returns-in_err-body c =
    rw (program_is c.args.reader.now.rest.now, given c.from_residual-in_err-body.ensures)
    (ok_then _ c.in_ok-items.ensures.answer λ t p0.
    err_then _ c.in_err-body.ensures)

pub returns : goal.returns
returns c =
    rw (program_is c.args.reader.now.rest.now)
    (ok_then _ c.in_ok-items.ensures.answer λ t p0.
    ok_then _ c.in_ok-body.ensures λ d p1.
    record { holds = (program_made c.in_ok-items.items c.in_ok-body.body t d.0 d.1 _ _ _ c.requires.none p0 p1 c.new.ensures.items, refl) })
