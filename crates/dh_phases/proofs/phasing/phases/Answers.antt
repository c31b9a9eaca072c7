use Rattle.std.proofs.Common.{ap, sym, ◌∙◌, subst}
use Rattle.std.proofs.lemmas.Result.{IfOk-weaker}
use Rattle.dh_phases.specs.GatheredPhases.{ArePhasesOf}
use Rattle.dh_phases.proofs.CommandsFound.{is_found, none_found}
use Rattle.dh_phases.proofs.phasing.phases.Goals as goal

pub unreachable-requires : goal.unreachable-requires
unreachable-requires c = none_found c.args.command c.tree.result.now c.args.typed.now c.find.result c.in-None.is c.find.ensures c.tree.ensures.tree c.requires.numbered c.requires.there

pub returns : goal.returns
returns c =
    IfOk-weaker c.gather.result _ _
    (λ ps is a h. subst (λ b. ArePhasesOf ps b) (is_found c.args.command c.tree.result.now c.args.typed.now c.find.result c.in-Some.found a c.in-Some.is c.find.ensures c.tree.ensures.tree c.requires.numbered h) is)
    c.gather.ensures
