use Rattle.dh_parser.proofs.DimLoops.{dim_seen}
use Rattle.std.proofs.Common.{refl}
use Rattle.dh_parser.proofs.Going.{ok_then, err_then, given}
use Rattle.dh_parser.proofs.parsing.types.read_dim.Goals as goal

pub returns-in_err-skip-clause-answer : goal.returns-in_err-skip-clause-answer
returns-in_err-skip-clause-answer c =
    rw (given c.from_residual-in_err-skip.ensures)
    (ok_then _ c.in_ok-open_place.ensures.answer λ opener p.
    ok_then _ c.in_ok-size.ensures.answer λ size q.
    ok_then _ c.in_ok-banks.ensures.answer λ banks u.
    err_then _ c.in_err-skip.ensures.answer)

pub returns-in_err-open_place-clause-answer : goal.returns-in_err-open_place-clause-answer
returns-in_err-open_place-clause-answer c =
    rw (given c.from_residual.ensures)
    (err_then _ c.in_err-open_place.ensures.answer)

pub returns-in_err-size-clause-answer : goal.returns-in_err-size-clause-answer
returns-in_err-size-clause-answer c =
    rw (given c.from_residual-in_err-size.ensures)
    (ok_then _ c.in_ok-open_place.ensures.answer λ a0 p0.
    err_then _ c.in_err-size.ensures.answer)

pub returns-in_err-banks-clause-answer : goal.returns-in_err-banks-clause-answer
returns-in_err-banks-clause-answer c =
    rw (given c.from_residual-in_err-banks.ensures)
    (ok_then _ c.in_ok-open_place.ensures.answer λ a0 p0.
    ok_then _ c.in_ok-size.ensures.answer λ a1 p1.
    err_then _ c.in_err-banks.ensures.answer)

pub returns-clause-answer : goal.returns-clause-answer
returns-clause-answer c =
    ok_then _ c.in_ok-open_place.ensures.answer λ a0 p0.
    ok_then _ c.in_ok-size.ensures.answer λ a1 p1.
    ok_then _ c.in_ok-banks.ensures.answer λ a2 p2.
    ok_then _ c.in_ok-skip.ensures.answer λ a3 p3.
    record { holds = (dim_seen c.in_ok-open_place.open_place c.in_ok-size.size c.in_ok-banks.banks a0 a1 a2 a3 p0 p1 p2, refl) }
