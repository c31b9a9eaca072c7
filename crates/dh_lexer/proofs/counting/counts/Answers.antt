-- A turn, by the lemmas of `MostSeen`.
use Rattle.std.proofs.Common.{max, ap, sym, ◌∙◌}
use Rattle.dh_lexer.proofs.MostSeen.{open_turn, operators_turn, else_turn, few_more}
use Rattle.dh_lexer.proofs.counting.counts.Goals as goal

pub loop-token-preserved : goal.loop-token-preserved
loop-token-preserved c =
    let at = c.token-item.is in
    let early = c.loop-token-test.true in
    let so_far = c.loop-token.invariant in record {
      opened = open_turn c.args.tokens.now c.loop-token.token-index _ _ _ _ _ c.token-item.result early at so_far.opened c.open_after-opened.ensures.open (c.open_after-opened.ensures.most ∙ ap (λ n. max n c.loop-token.brackets) (sym c.open_after-opened.ensures.open));
      applied = operators_turn c.args.tokens.now c.loop-token.token-index _ _ _ _ _ c.token-item.result early at so_far.applied c.operators_after-passed.ensures.seen (c.operators_after-passed.ensures.most ∙ ap (λ n. max n c.loop-token.operators) (sym c.operators_after-passed.ensures.seen));
      chained = else_turn c.args.tokens.now c.loop-token.token-index _ _ _ _ _ c.token-item.result early at so_far.chained c.else_if-else_ifs.ensures.is c.is_else-after_else.ensures;
      few = few_more _ _ _ so_far.few c.else_if-else_ifs.ensures.few;
    }
