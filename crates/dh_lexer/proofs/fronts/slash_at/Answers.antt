-- By the byte behind the `/`.
use Rattle.std.proofs.Common.{drop, sym, ◌∙◌}
use Rattle.dh_lexer.proofs.Slashes.{line_from, slash_block, slash_assign, slash_alone}
use Rattle.dh_lexer.proofs.fronts.slash_at.Goals as goal

pub returns-then-next-eq47 : goal.returns-then-next-eq47
returns-then-next-eq47 c =
    line_from c.args.at c.line_end.result c.args.text.now c.requires.1 (sym c.byte_at-next.ensures ∙ c.if-next-eq47.true) c.line_end.ensures.end

pub returns-then-next-eq42 : goal.returns-then-next-eq42
returns-then-next-eq42 c =
    c.block_comment.ensures ∙ slash_block (drop c.args.at c.args.text.now) c.requires.1 (sym c.byte_at-next.ensures ∙ c.if-next-eq42.true)

pub returns-then-next-eq61 : goal.returns-then-next-eq61
returns-then-next-eq61 c = slash_assign (drop c.args.at c.args.text.now) c.requires.1 (sym c.byte_at-next.ensures ∙ c.if-next-eq61.true)

pub returns : goal.returns
returns c =
    slash_alone (drop c.args.at c.args.text.now) c.requires.1 (λ e. c.if-next-eq47.false (c.byte_at-next.ensures ∙ e))
    (λ e. c.if-next-eq42.false (c.byte_at-next.ensures ∙ e)) (λ e. c.if-next-eq61.false (c.byte_at-next.ensures ∙ e))
