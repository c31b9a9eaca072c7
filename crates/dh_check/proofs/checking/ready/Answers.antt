use Rattle.std.proofs.Common.{ap, sym, ◌∙◌}
use Rattle.dh_check.specs.declared.checking.CheckFault.TheVariants as fault
use Rattle.dh_tree.specs.Seen.{program_seen}
use Rattle.dh_check.specs.Ready.{of_pass, TellsText}
use Rattle.dh_check.specs.Verdicts.{tokens_excess}
use Rattle.dh_check.proofs.Checked.{handed_on}
use Rattle.dh_check.proofs.Shaped.{excess_told, no_excess}
use Rattle.dh_check.proofs.Texts.{no_tokens, tokens_exceed, token_refused, tells_text, of_text}
use Rattle.dh_check.proofs.checking.ready.Goals as goal

pub returns-in_err-tokens-clause-tells : goal.returns-in_err-tokens-clause-tells
returns-in_err-tokens-clause-tells c =
    handed_on (TellsText c.args.text.now) c.from_residual.result (of_pass c.in_err-tokens.field-0.0) c.from_residual.ensures.1
    (no_tokens c.args.text.now c.in_err-tokens.field-0.0 c.in_err-tokens.ensures.lexed)

pub returns-in_err-within_limits-clause-tells : goal.returns-in_err-within_limits-clause-tells
returns-in_err-within_limits-clause-tells c =
    let x = c.in_err-within_limits.field-0.0 in
    handed_on (TellsText c.args.text.now) c.from_residual-in_err-within_limits.result (fault.TooLarge x.limit x.count) c.from_residual-in_err-within_limits.ensures.1
    (tokens_exceed c.args.text.now c.in_ok-tokens.tokens.items c.as_slice.result.now x c.as_slice.ensures.value c.in_ok-tokens.ensures.lexed.0
    (excess_told (tokens_excess c.as_slice.result.now) x c.in_err-within_limits.ensures))

pub ready_tree-requires : goal.ready_tree-requires
ready_tree-requires c =
    of_text c.args.text.now c.in_ok-tokens.tokens.items c.as_slice-2.result.now (program_seen c.in_ok-tree.tree) c.as_slice-2.ensures.value c.requires c.in_ok-tokens.ensures.ready.few c.in_ok-tokens.ensures.ready.ended c.in_ok-tree.ensures

pub returns-clause-tells : goal.returns-clause-tells
returns-clause-tells c =
    tells_text c.args.text.now c.in_ok-tokens.tokens.items c.as_slice-2.result.now (program_seen c.in_ok-tree.tree) c.ready_tree.result c.as_slice-2.ensures.value c.in_ok-tokens.ensures.lexed.0
    (ap tokens_excess (c.as_slice-2.ensures.value ∙ sym c.as_slice.ensures.value) ∙ no_excess (tokens_excess c.as_slice.result.now) c.in_ok-within_limits.ensures) c.in_ok-tree.ensures c.ready_tree.ensures.tells

pub returns-in_err-tree-clause-tells : goal.returns-in_err-tree-clause-tells
returns-in_err-tree-clause-tells c =
    handed_on (TellsText c.args.text.now) c.from_residual-in_err-tree.result (of_pass c.in_err-tree.field-0.0) c.from_residual-in_err-tree.ensures.1
    (token_refused c.args.text.now c.in_ok-tokens.tokens.items c.as_slice-2.result.now c.in_err-tree.field-0.0 c.as_slice-2.ensures.value c.in_ok-tokens.ensures.lexed.0
    (ap tokens_excess (c.as_slice-2.ensures.value ∙ sym c.as_slice.ensures.value) ∙ no_excess (tokens_excess c.as_slice.result.now) c.in_ok-within_limits.ensures) c.in_err-tree.ensures)
