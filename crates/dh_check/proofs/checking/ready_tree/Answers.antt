use Rattle.dh_tree.specs.Seen.{program_seen}
use Rattle.dh_check.specs.Ready.{of_pass, TellsTree}
use Rattle.dh_check.proofs.Checked.{handed_on}
use Rattle.dh_check.proofs.Passing.{names_stop, tells_tree, built_still, of_text_still, few_names}
use Rattle.dh_check.proofs.checking.ready_tree.Goals as goal

pub resolve_built-requires : goal.resolve_built-requires
resolve_built-requires c = record { few = few_names (program_seen c.args.tree) c.requires }

pub ready_named-requires-clause-of_text : goal.ready_named-requires-clause-of_text
ready_named-requires-clause-of_text c = of_text_still (program_seen c.args.tree) (program_seen c.in_ok-named.named) c.in_ok-named.ensures.1.0 c.requires

pub ready_named-requires-clause-built : goal.ready_named-requires-clause-built
ready_named-requires-clause-built c = built_still (program_seen c.args.tree) (program_seen c.in_ok-named.named) c.in_ok-named.ensures.0 c.in_ok-named.ensures.1.0

pub returns-clause-tells : goal.returns-clause-tells
returns-clause-tells c = tells_tree (program_seen c.args.tree) (program_seen c.in_ok-named.named) c.ready_named.result c.in_ok-named.ensures.0 c.in_ok-named.ensures.1.0 c.in_ok-named.ensures.1.1 c.ready_named.ensures.tells

pub returns-in_err-named-clause-tells : goal.returns-in_err-named-clause-tells
returns-in_err-named-clause-tells c =
    handed_on (TellsTree (program_seen c.args.tree)) c.from_residual.result (of_pass c.in_err-named.field-0.0) c.from_residual.ensures.1
    (names_stop (program_seen c.args.tree) c.in_err-named.field-0.0 c.in_err-named.ensures)
