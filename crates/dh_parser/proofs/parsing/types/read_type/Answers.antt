use Rattle.std.proofs.Common.{◌≡◌, refl}
use Rattle.dh_parser.specs.TreesOfTexts.{kind_place}
use Rattle.dh_parser.specs.Reading.{type_text}
use Rattle.dh_parser.proofs.FirstTokens.{kind_starts}
use Rattle.dh_parser.proofs.Going.{ok_then, err_then, given, also}
use Rattle.dh_parser.proofs.parsing.types.read_type.Goals as goal

pub returns-in_err-ports-clause-answer : goal.returns-in_err-ports-clause-answer
returns-in_err-ports-clause-answer c =
    rw (given c.from_residual-in_err-ports.ensures)
    (ok_then _ c.in_ok-kind.ensures.answer λ k p.
    err_then _ c.in_err-ports.ensures.answer)

pub returns-in_err-dims-clause-answer : goal.returns-in_err-dims-clause-answer
returns-in_err-dims-clause-answer c =
    rw (given c.from_residual-in_err-dims.ensures)
    (ok_then _ c.in_ok-kind.ensures.answer λ k p.
    ok_then _ c.in_ok-ports.ensures.answer λ ports q.
    err_then _ c.in_err-dims.ensures.answer)

pub returns-clause-answer : goal.returns-clause-answer
returns-clause-answer c =
    ok_then _ (also (λ k. kind_place k ≡ c.in_ok-place.place) c.in_ok-kind.ensures.answer (kind_starts _ _ c.in_ok-place.ensures)) λ k p.
    ok_then _ c.in_ok-ports.ensures.answer λ ports q.
    ok_then _ c.in_ok-dims.ensures.answer λ dims u.
    record { holds = (c.written_type.ensures (type_text k ports dims) p.0 p.1 q u, refl) }
