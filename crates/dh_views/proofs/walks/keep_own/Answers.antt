use Rattle.std.proofs.Common.{ap, sym, ◌∙◌}
use Rattle.dh_tree.specs.declared.trees.commands.LoopHeader.{LoopHeader}
use Rattle.dh_tree.specs.LeastBreach.{least_of}
use Rattle.dh_tree.specs.Indices.{index_context_of}
use Rattle.dh_tree.specs.Seen.{action_form_seen, program_seen}
use Rattle.dh_tree.proofs.SeenActions.{for_is}
use Rattle.dh_views.specs.Kept.{header_breaches}
use Rattle.dh_views.specs.Walked.{own_breaches}
use Rattle.dh_views.proofs.walks.keep_own.Goals as goal

pub returns-in-For : goal.returns-in-For
returns-in-For c =
    c.keep_turns.ensures
    ∙ (ap (λ (h : LoopHeader). least_of c.args.kept.now (header_breaches h)) c.deref-in-For.ensures
    ∙ ap (λ f. least_of c.args.kept.now (own_breaches (index_context_of (program_seen c.args.typed.now)) f)) (sym (ap action_form_seen c.in-For.is ∙ for_is c.in-For.header c.in-For.body c.in-For.combine)))
