use Rattle.std.proofs.Common.{drop, ap, sym, ◌∙◌, option_map}
use Rattle.std.proofs.lemmas.Result.{MatchResult-from_err}
use Rattle.dh_lexer.specs.FrontPiece.{front_token, token_of}
use Rattle.dh_lexer.specs.declared.fronts.Front.TheVariants as front
use Rattle.dh_lexer.proofs.FoundKept.{found_none, found_some, named_token, some_token}
use Rattle.dh_lexer.proofs.lexing.take_token.Goals as goal

pub returns-in_err-kind : goal.returns-in_err-kind
returns-in_err-kind c =
    MatchResult-from_err _ _ _ c.from_residual.ensures.0 (λ _. named_token (token_of (drop c.args.at c.args.text.now)) c.args.place c.in_err-kind.ensures)

pub returns-in_default : goal.returns-in_default
returns-in_default c =
    found_none (option_map front_token (token_of (drop c.args.at c.args.text.now))) c.args.place c.args.tokens.now.items
    (ap (λ o. option_map front_token o) (sym c.in_default.is ∙ c.in_ok-kind.ensures))

pub returns-in_err-push : goal.returns-in_err-push
returns-in_err-push c =
    MatchResult-from_err _ _ _ c.from_residual-in_err-push.ensures.0 (λ _. some_token (option_map front_token (token_of (drop c.args.at c.args.text.now))) c.args.place c.in-Some.kind c.in-Some.length
    (ap (λ o. option_map front_token o) (sym c.in-Some.is ∙ c.in_ok-kind.ensures)))

pub returns : goal.returns
returns c =
    found_some (option_map front_token (token_of (drop c.args.at c.args.text.now))) c.args.place c.args.tokens.now.items c.push.new.self.items (front.Token c.in-Some.kind) c.in-Some.length
    (ap (λ o. option_map front_token o) (sym c.in-Some.is ∙ c.in_ok-kind.ensures)) c.in_ok-push.ensures.items
