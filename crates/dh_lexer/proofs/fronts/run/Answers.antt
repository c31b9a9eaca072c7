-- A name that is known.
use Rattle.std.proofs.Common.{sym, ◌∙◌, subst, Option}
use Rattle.dh_lexer.specs.FrontPiece.{IsNamed, AnswersFound}
use Rattle.dh_lexer.specs.declared.tokens.TokenKind.{TokenKind}
use Rattle.dh_lexer.proofs.FreeWords.{known_run}
use Rattle.dh_lexer.proofs.fronts.run.Goals as goal

pub returns-in-Some-find : goal.returns-in-Some-find
returns-in-Some-find c =
    subst (λ (o : Option TokenKind). AnswersFound IsNamed o c.shared.result)
    (known_run c.in-Some-find.name.now c.args.bytes.now (sym c.is_ascii_digit.ensures.value ∙ c.if-is_ascii_digit.false) c.in-Some-find.ensures) c.shared.ensures
