use Rattle.std.proofs.lemmas.Result.{IfOk-weaker}
use Rattle.dh_rows.proofs.CountedTests.{test_made_as, tested_grows}
use Rattle.dh_rows.proofs.testing.push_test.Goals as goal

pub returns-clause-grows : goal.returns-clause-grows
returns-clause-grows c = IfOk-weaker c.test_kind.result _ _ (λ t e. tested_grows c.args.list.now c.args.kind c.args.value c.args.size c.test_kind.new.list t e) c.test_kind.ensures

pub returns-clause-made : goal.returns-clause-made
returns-clause-made c =
    IfOk-weaker c.test_kind.result _ _ (λ t e h. test_made_as c.args.kind c.args.value c.args.size c.args.list.now h c.test_kind.new.list t e) c.test_kind.ensures
