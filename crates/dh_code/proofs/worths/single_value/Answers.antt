use Rattle.std.proofs.Common.{sym, subst}
use Rattle.dh_code.specs.declared.codes.CodeOperation.{CodeOperation}
use Rattle.dh_code.specs.States.{sight_in}
use Rattle.dh_code.specs.Worths.{IsSingleValue}
use Rattle.dh_code.proofs.PlainValues.{single_is}
use Rattle.dh_code.proofs.worths.single_value.Goals as goal

pub returns-in-Binary : goal.returns-in-Binary
returns-in-Binary c =
    let w = sight_in c.args.state.now c.args.ranks.now in
    subst (λ (o : CodeOperation). IsSingleValue c.args._scene.now w c.args.operand.now c.args.at o c.given_by.result) (sym c.in-Binary.is)
    (single_is c.args._scene.now w c.args.operand.now c.args.at c.in-Binary.op c.in-Binary.left c.in-Binary.right c.combined_in-given.result c.given_by.result c.combined_in-given.ensures c.requires.room c.given_by.ensures)
