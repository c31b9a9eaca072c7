use Rattle.std.proofs.Common.{◌≡◌, refl}
use Rattle.dh_parser.specs.TreesOfTexts.{text_of_name, access_of_text}
use Rattle.dh_parser.specs.Reading.{read, steps}
use Rattle.dh_parser.proofs.WholeExpressions.{access_is}
use Rattle.dh_parser.proofs.Going.{ok_then, err_then, given, also}
use Rattle.dh_parser.proofs.ActionForms.{store_seen}
use Rattle.dh_parser.proofs.SimpleTokens.{access_starts}
use Rattle.dh_parser.proofs.parsing.simple.read_store.Goals as goal
use Rattle.dh_tree.specs.Kinds.{place_of}

pub returns-in_err-target-clause-answer : goal.returns-in_err-target-clause-answer
returns-in_err-target-clause-answer c =
    rw (given c.from_residual.ensures)
    (err_then _ (rw (← access_is (text_of_name c.args.name) _) at c.in_err-target.ensures.answer))

pub returns-in_err-skip-clause-answer : goal.returns-in_err-skip-clause-answer
returns-in_err-skip-clause-answer c =
    rw (given c.from_residual-in_err-skip.ensures)
    (ok_then _ (rw (← access_is (text_of_name c.args.name) _) at c.in_ok-target.ensures.answer) λ a p0.
    err_then _ c.in_err-skip.ensures.answer)

pub returns-in_err-value-clause-answer : goal.returns-in_err-value-clause-answer
returns-in_err-value-clause-answer c =
    rw (given c.from_residual-in_err-value.ensures)
    (ok_then _ (rw (← access_is (text_of_name c.args.name) _) at c.in_ok-target.ensures.answer) λ a p0.
    ok_then _ c.in_ok-skip.ensures.answer λ becomes p1.
    err_then _ c.in_err-value.ensures.answer)

pub returns-clause-answer : goal.returns-clause-answer
returns-clause-answer c =
    ok_then _ (also (λ a. place_of (access_of_text a) ≡ (text_of_name c.args.name).place) (rw (← access_is (text_of_name c.args.name) _) at c.in_ok-target.ensures.answer) (access_starts (read (steps c.args.reader.now.rest.now)) (text_of_name c.args.name) c.args.reader.now.rest.now)) λ a p0.
    ok_then _ c.in_ok-skip.ensures.answer λ becomes p1.
    ok_then _ c.in_ok-value.ensures.answer λ t p2.
    record { holds = ((store_seen _ _ _ becomes a t c.in_ok-sides.ensures.ok p0.0 p2, p0.1), refl) }
