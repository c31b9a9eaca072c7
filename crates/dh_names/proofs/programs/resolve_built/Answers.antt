use Rattle.std.proofs.Common.{inl, Err, sym, subst, ◌∙◌}
use Rattle.dh_base.specs.declared.faults.PassFault.{PassFault}
use Rattle.dh_tree.specs.Forms.{unbuilt_forms}
use Rattle.dh_tree.specs.Seen.{program_seen}
use Rattle.dh_names.specs.Programs.{AnswersBuilt}
use Rattle.dh_names.proofs.LeastKept.{least_kept}
use Rattle.dh_names.proofs.ProgramsAnswered.{keeps_names, has_entities, answered_built}
use Rattle.dh_names.proofs.programs.resolve_built.Goals as goal

pub named-requires-clause-names : goal.named-requires-clause-names
named-requires-clause-names c = keeps_names (program_seen c.args.tree) c.walk_program.new.tree c.in-Ok.found c.in-Ok.ensures

pub named-requires-clause-entities : goal.named-requires-clause-entities
named-requires-clause-entities c = has_entities (program_seen c.args.tree) c.walk_program.new.tree c.in-Ok.found c.in-Ok.ensures

pub returns-in-Some : goal.returns-in-Some
returns-in-Some c =
    subst (λ (e : PassFault). AnswersBuilt (program_seen c.args.tree) (Err e)) (sym c.refused.ensures)
    (inl (least_kept (unbuilt_forms (program_seen c.args.tree)) c.in-Some.form (sym c.in-Ok.ensures.unbuilt ∙ c.in-Some.is)))

pub returns-in-None : goal.returns-in-None
returns-in-None c = answered_built (program_seen c.args.tree) c.walk_program.new.tree c.in-Ok.found c.named.result c.in-Ok.ensures c.in-None.is c.named.ensures
