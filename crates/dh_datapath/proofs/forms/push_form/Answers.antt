use Rattle.std.proofs.Common.{subst, sym}
use Rattle.dh_plan.specs.declared.operations.Reach.{Reach}
use Rattle.dh_datapath.specs.ValueWires.{SelectIsThere}
use Rattle.dh_datapath.proofs.FormsMade.{read_select}
use Rattle.dh_datapath.proofs.forms.push_form.Goals as goal

pub push_read-requires-clause-select : goal.push_read-requires-clause-select
push_read-requires-clause-select c =
    subst (λ (r : Reach). SelectIsThere c.args.first c.args.wires.now r.select) (sym c.content-access.ensures)
    (read_select c.args.first c.args.wires.now c.args.form.now c.in-Read.access c.in-Read.is c.requires.earlier)
