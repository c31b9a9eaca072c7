use Rattle.std.proofs.Common.{◌∙◌}
use Rattle.std.proofs.lemmas.Result.{IfOk-weaker}
use Rattle.dh_join.proofs.DriversStand.{data_written, data_read}
use Rattle.dh_join.proofs.ports.join_data.Goals as goal

pub push_choice-requires-clause-test : goal.push_choice-requires-clause-test
push_choice-requires-clause-test c = c.requires.first.enable

pub push_choice-requires-clause-left : goal.push_choice-requires-clause-left
push_choice-requires-clause-left c = c.requires.first.out c.if-first.true

pub push_choice-requires-clause-right : goal.push_choice-requires-clause-right
push_choice-requires-clause-right c = c.requires.second.out (c.requires.kind ∙ c.if-first.true)

pub returns-then-first : goal.returns-then-first
returns-then-first c =
    IfOk-weaker c.push_choice.result _ _ (λ wire h. data_written _ _ c.args.port c.args.first c.args.second wire c.if-first.true h c.requires.kind) c.push_choice.ensures

pub returns-else-first : goal.returns-else-first
returns-else-first c = data_read _ c.args.port c.args.first c.args.second c.if-first.false
