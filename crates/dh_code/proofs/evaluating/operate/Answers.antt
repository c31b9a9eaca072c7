use Rattle.std.proofs.Common.{ap, sym, subst, ◌∙◌, Err, add-one}
use Rattle.std.proofs.lemmas.Result.{err_from_is_err_and}
use Rattle.dh_code.specs.declared.codes.CodeOperation.{CodeOperation}
use Rattle.dh_code.specs.Operated.{IsOperation}
use Rattle.dh_code.proofs.Entries.{at_index}
use Rattle.dh_code.proofs.Operating.{operates_first, operates_turn, operates_stop, operates_seen, operates_spent}
use Rattle.dh_code.proofs.evaluating.operate.Goals as goal

pub loop-i-init : goal.loop-i-init
loop-i-init c = operates_first c.args.scene.now c.args.slots.now c.args.ranks.now c.args.at c.args.operations.now c.args.given.now c.args.banks.now

pub perform-requires-clause-operation : goal.perform-requires-clause-operation
perform-requires-clause-operation c =
    subst (λ (o : CodeOperation). IsOperation c.args.scene.now.entries.now o) (sym c.index-operations-i.is)
    (at_index (IsOperation c.args.scene.now.entries.now) c.args.operations.now c.loop-i.i c.index-operations-i.result c.requires.operations c.loop-i-test.true)

pub perform-requires-clause-long : goal.perform-requires-clause-long
perform-requires-clause-long c = c.loop-i.invariant.long ∙ c.requires.long

pub returns-in_err-perform-clause-long : goal.returns-in_err-perform-clause-long
returns-in_err-perform-clause-long c = c.perform.ensures.long ∙ c.loop-i.invariant.long

pub returns-in_err-perform-clause-room : goal.returns-in_err-perform-clause-room
returns-in_err-perform-clause-room c = c.perform.ensures.room ∙ c.loop-i.invariant.room

pub returns-in_err-perform-clause-spends : goal.returns-in_err-perform-clause-spends
returns-in_err-perform-clause-spends c =
    let u = err_from_is_err_and c.from_residual.result c.from_residual.ensures.1 in
    operates_stop c.args.scene.now c.args.slots.now c.args.ranks.now c.args.at c.args.operations.now c.args.given.now c.args.banks.now
    c.loop-i.i c.loop-i.given c.loop-i.banks c.index-operations-i.result c.loop-i-test.true c.index-operations-i.is c.loop-i.invariant
    (Unit {0}) (Unit {0}) c.in_err-perform.field-0.0 c.perform.new.banks c.perform.new.banks c.from_residual.result (u.1 ∙ ap (λ x. Err x) u.2) c.in_err-perform.ensures.spends

pub loop-i-preserved : goal.loop-i-preserved
loop-i-preserved c = rw (add-one c.loop-i.i)
    (operates_turn c.args.scene.now c.args.slots.now c.args.ranks.now c.args.at c.args.operations.now c.args.given.now c.args.banks.now
    c.loop-i.i c.loop-i.given c.loop-i.banks c.index-operations-i.result c.loop-i-test.true c.index-operations-i.is c.loop-i.invariant
    c.perform.new.given c.perform.new.banks c.in_ok-perform.ensures.gives c.perform.ensures.long c.perform.ensures.used c.in_ok-perform.ensures.spends)

pub returns-clause-long : goal.returns-clause-long
returns-clause-long c = c.loop-i.invariant.long

pub returns-clause-room : goal.returns-clause-room
returns-clause-room c = c.loop-i.invariant.room

pub returns-clause-gives : goal.returns-clause-gives
returns-clause-gives c =
    operates_seen c.args.scene.now c.args.slots.now c.args.ranks.now c.args.at c.args.operations.now c.args.given.now c.args.banks.now
    c.loop-i.i c.loop-i.given c.loop-i.banks c.loop-i-test.false c.loop-i.invariant

pub returns-clause-spends : goal.returns-clause-spends
returns-clause-spends c =
    operates_spent c.args.scene.now c.args.slots.now c.args.ranks.now c.args.at c.args.operations.now c.args.given.now c.args.banks.now
    c.loop-i.i c.loop-i.given c.loop-i.banks c.loop-i-test.false c.loop-i.invariant

pub returns-in_err-perform-clause-used : goal.returns-in_err-perform-clause-used
returns-in_err-perform-clause-used c = λ h. c.perform.ensures.used (c.loop-i.invariant.used h)

pub returns-clause-used : goal.returns-clause-used
returns-clause-used c = c.loop-i.invariant.used
