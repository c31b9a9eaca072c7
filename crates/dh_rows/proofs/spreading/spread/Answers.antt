use Rattle.std.proofs.lemmas.Result.{IfOk-weaker}
use Rattle.dh_rows.proofs.CountedRows.{row_made_as, spread_grows}
use Rattle.dh_rows.proofs.spreading.spread.Goals as goal

pub returns-clause-grows : goal.returns-clause-grows
returns-clause-grows c =
    IfOk-weaker c.spread_each.result _ _ (λ s e. spread_grows c.args.width c.args.dims.now c.args.indices.now c.args.banked c.args.list.now c.spread_each.new.list s e) c.spread_each.ensures

pub returns-clause-made : goal.returns-clause-made
returns-clause-made c = IfOk-weaker c.spread_each.result _ _ (λ s e h. row_made_as c.args.width c.args.dims.now c.args.indices.now c.args.banked c.args.list.now h c.spread_each.new.list s.row s.bank e) c.spread_each.ensures
