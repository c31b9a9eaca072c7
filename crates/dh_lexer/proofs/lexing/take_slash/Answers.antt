use Rattle.std.proofs.Common.{drop, sym, ◌∙◌}
use Rattle.std.proofs.lemmas.Result.{MatchResult-from_err}
use Rattle.dh_lexer.specs.FrontPiece.{front_of}
use Rattle.dh_lexer.proofs.FoundKept.{found_none, found_some, some_kept}
use Rattle.dh_lexer.proofs.lexing.take_slash.Goals as goal

pub returns-in_default : goal.returns-in_default
returns-in_default c =
    found_none (front_of (drop c.args.at c.args.text.now)) c.args.place c.args.tokens.now.items (sym c.in_default.is ∙ c.slash_at.ensures)

pub returns-in_err-keep : goal.returns-in_err-keep
returns-in_err-keep c =
    MatchResult-from_err _ _ _ c.from_residual.ensures.0 (λ _. some_kept (front_of (drop c.args.at c.args.text.now)) c.args.place c.in-Some.front c.in-Some.length
    (sym c.in-Some.is ∙ c.slash_at.ensures) c.in_err-keep.ensures.memory)

pub returns : goal.returns
returns c =
    found_some (front_of (drop c.args.at c.args.text.now)) c.args.place c.args.tokens.now.items c.keep.new.tokens.items c.in-Some.front c.in-Some.length
    (sym c.in-Some.is ∙ c.slash_at.ensures) c.in_ok-keep.ensures.tokens
