use Rattle.std.proofs.Common.{ℕ, List, subst, refl}
use Rattle.std.specs.Prelude.{Option}
use Rattle.std.proofs.lemmas.Result.{IfOk-weaker}
use Rattle.dh_tree.specs.Seen.{term_seen}
use Rattle.dh_expressions.specs.Evaluated.{EvaluatesTerm}
use Rattle.dh_commands.proofs.Tested.{tested_one}
use Rattle.dh_expressions.specs.MadeTerms.{MadeTerm}
use Rattle.dh_commands.proofs.testing.test_at.Goals as goal

pub returns-clause-means : goal.returns-clause-means
returns-clause-means c =
    IfOk-weaker c.push_term.result _ _
    (λ own h. tested_one c.args.scene.now c.args.lane.now c.args.building.now (record { draft = c.push_term.new.draft; accesses = c.push_term.new.accesses; values = c.args.building.now.values }) c.args.first (term_seen c.args.test.now) own
    (subst (λ (os : List (Option ℕ)). EvaluatesTerm c.args.scene.now c.args.lane.now os c.args.building.now.draft c.push_term.new.draft c.args.building.now.accesses c.push_term.new.accesses c.args.first (term_seen c.args.test.now) own) c.as_slice-current.ensures.value h)
    refl)
    c.push_term.ensures.means

pub returns-clause-made : goal.returns-clause-made
returns-clause-made c = IfOk-weaker c.push_term.result _ _ (λ own m. record {
  term =
      subst (λ (os : List (Option ℕ)). MadeTerm c.args.scene.now c.args.lane.now os (term_seen c.args.test.now) c.args.building.now.draft c.push_term.new.draft c.args.building.now.accesses c.push_term.new.accesses c.args.first own.next own.value) c.as_slice-current.ensures.value m;
  same = refl;
}) c.push_term.ensures.made
