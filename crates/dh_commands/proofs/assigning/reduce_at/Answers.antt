use Rattle.std.proofs.Common.{ℕ, List, subst}
use Rattle.std.specs.Prelude.{Option}
use Rattle.dh_tree.specs.Seen.{term_seen}
use Rattle.dh_meaning.specs.CoreOf.{entity_number}
use Rattle.dh_expressions.specs.Evaluated.{EvaluatesTerm}
use Rattle.dh_commands.specs.Setting.{GivesReduced}
use Rattle.dh_commands.proofs.Reduced.{reduced_one}
use Rattle.dh_expressions.specs.MadeTerms.{MadeTerm}
use Rattle.dh_commands.specs.MadeCommands.{MadeFolded}
use Rattle.dh_commands.proofs.assigning.reduce_at.Goals as goal

pub returns-clause-means : goal.returns-clause-means
returns-clause-means c =
    reduced_one c.args.scene.now c.args.lane.now c.args.building.now (record { draft = c.push_reduced.new.draft; accesses = c.push_term.new.accesses; values = c.set.new.values })
    c.push_term.new.draft c.args.first c.args.target.now c.args.op (term_seen c.args.value.now) c.in_ok-own.own c.in_ok-made.made
    (subst (λ (os : List (Option ℕ)). EvaluatesTerm c.args.scene.now c.args.lane.now os c.args.building.now.draft c.push_term.new.draft c.args.building.now.accesses c.push_term.new.accesses c.args.first (term_seen c.args.value.now) c.in_ok-own.own)
    c.as_slice-current.ensures.value c.in_ok-own.ensures.means)
    (subst (λ (os : List (Option ℕ)). GivesReduced c.args.scene.now c.args.lane.now os c.push_term.new.draft c.push_reduced.new.draft c.in_ok-own.own.value c.in_ok-made.made (entity_number c.args.target.now.entity) c.args.op (term_seen c.args.value.now))
    c.as_slice-current.ensures.value c.in_ok-made.ensures.means)
    c.in_ok-set.ensures

pub returns-clause-made : goal.returns-clause-made
returns-clause-made c = record {
  middle = c.push_term.new.draft;
  value = c.in_ok-own.own.value;
  folded = c.in_ok-made.made;
  term =
      subst (λ (os : List (Option ℕ)). MadeTerm c.args.scene.now c.args.lane.now os (term_seen c.args.value.now) c.args.building.now.draft c.push_term.new.draft c.args.building.now.accesses c.push_term.new.accesses c.args.first c.in_ok-own.own.next c.in_ok-own.own.value)
      c.as_slice-current.ensures.value c.in_ok-own.ensures.made;
  folds =
      subst (λ (os : List (Option ℕ)). MadeFolded c.args.scene.now c.args.lane.now os (entity_number c.args.target.now.entity) c.args.op (term_seen c.args.value.now) c.in_ok-own.own.value c.push_term.new.draft c.push_reduced.new.draft c.in_ok-made.made)
      c.as_slice-current.ensures.value c.in_ok-made.ensures.made;
  sets = c.in_ok-set.ensures;
}
