-- A run that a name byte begins is not empty, and has name bytes alone.
use Rattle.std.proofs.Common.{◌≡◌, ◌-◌, true, arith, ap, sym, ◌∙◌, take, drop, get_or, get_or-drop, add-zero}
use Rattle.std.proofs.lemmas.Result.{MatchResult-from_err}
use Rattle.dh_lexer.specs.FrontPiece.{is_name_byte, run_len}
use Rattle.dh_lexer.proofs.Runs.{run_ready}
use Rattle.dh_lexer.proofs.NamesTaken.{token_named}
use Rattle.dh_lexer.proofs.fronts.token_at.Goals as goal

pub run-requires : goal.run-requires
run-requires c =
    let long : c.run_end-end.result.0 - c.args.at ≡ run_len (drop c.args.at c.args.text.now) = omega (arith, c.run_end-end.ensures.end) in
    let front : is_name_byte (get_or (drop c.args.at c.args.text.now) 0 0) ≡ true = rw (get_or-drop, add-zero) (sym c.is_name_byte.ensures ∙ c.if-not-is_name_byte.false) in
    run_ready (drop c.args.at c.args.text.now) _ long front

pub returns-in_err-kind : goal.returns-in_err-kind
returns-in_err-kind c =
    let long : c.run_end-end.result.0 - c.args.at ≡ run_len (drop c.args.at c.args.text.now) = omega (arith, c.run_end-end.ensures.end) in
    let front : is_name_byte (get_or (drop c.args.at c.args.text.now) 0 0) ≡ true = rw (get_or-drop, add-zero) (sym c.is_name_byte.ensures ∙ c.if-not-is_name_byte.false) in
    MatchResult-from_err _ _ _ c.from_residual.ensures.0 (λ _. token_named (drop c.args.at c.args.text.now) _ front (ap (λ n. take n (drop c.args.at c.args.text.now)) long) c.in_err-kind.ensures)
