use Rattle.std.proofs.Common.{refl}
use Rattle.dh_parser.proofs.Going.{ok_then, err_then, given, known, answered}
use Rattle.dh_parser.proofs.BlockForms.{body_made}
use Rattle.dh_parser.proofs.BodyPlaces.{body_stands}
use Rattle.dh_parser.proofs.ItemLoops.{body_is}
use Rattle.dh_parser.proofs.parsing.programs.read_body.Goals as goal

pub returns-in_err-body : goal.returns-in_err-body
returns-in_err-body c =
    rw (given c.from_residual-in_err-body.ensures) (err_then _ c.in_err-body.ensures.answer)

pub returns-in_err-skip : goal.returns-in_err-skip
returns-in_err-skip c =
    rw (given c.from_residual-in_err-skip.ensures)
    (ok_then _ c.in_ok-body.ensures.answer λ p p1.
    err_then _ c.in_err-skip.ensures.answer)

pub returns : goal.returns
returns c =
    let ps = known c.in_ok-body.ensures.answer in
    let e = known c.in_ok-skip.ensures.answer in
    answered (ps.0, e.0) (body_is c.args.reader.now.rest.now _ _ ps.0 e.0 ps.1.1 e.1.1)
    (body_made c.begin-id.result _ _ _ c.in_ok-place.place c.in_ok-body.body ps.0 e.0 refl c.begin-id.ensures.id c.begin-id.ensures.count
    (body_stands c.in_ok-place.place c.args.reader.now.rest.now _ _ ps.0 e.0 c.in_ok-place.ensures ps.1.1 e.1.1) ps.1.0)
