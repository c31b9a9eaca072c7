use Rattle.std.proofs.Common.{ℕ, List, subst}
use Rattle.std.specs.Prelude.{Option}
use Rattle.dh_tree.specs.Seen.{term_seen}
use Rattle.dh_meaning.specs.CoreOf.{entity_number}
use Rattle.dh_code.specs.declared.places.VariableSlots.{VariableSlots}
use Rattle.dh_expressions.specs.Drafted.{Gives, word_shown}
use Rattle.dh_expressions.specs.Evaluated.{EvaluatesTerm}
use Rattle.dh_expressions.specs.Shown.{held_shown}
use Rattle.dh_commands.proofs.Assigned.{assigned_one}
use Rattle.dh_expressions.specs.MadeTerms.{MadeTerm}
use Rattle.dh_expressions.specs.MadeValues.{MadeHeld}
use Rattle.dh_commands.proofs.assigning.assign_at.Goals as goal

pub returns-clause-means : goal.returns-clause-means
returns-clause-means c =
    assigned_one c.args.scene.now c.args.lane.now c.args.building.now (record { draft = c.push_held.new.draft; accesses = c.push_term.new.accesses; values = c.set.new.values })
    c.push_term.new.draft c.args.first (entity_number c.args.target.now.entity) (term_seen c.args.value.now) c.in_ok-own.own c.in_ok-held.held
    (subst (λ (os : List (Option ℕ)). EvaluatesTerm c.args.scene.now c.args.lane.now os c.args.building.now.draft c.push_term.new.draft c.args.building.now.accesses c.push_term.new.accesses c.args.first (term_seen c.args.value.now) c.in_ok-own.own)
    c.as_slice-current.ensures.value c.in_ok-own.ensures.means)
    (subst (λ (h : VariableSlots). Gives c.push_term.new.draft c.push_held.new.draft c.in_ok-held.held (λ x. held_shown (term_seen c.args.value.now) h.kind (word_shown x c.in_ok-own.own.value))) c.place_of-kind.ensures c.in_ok-held.ensures.means)
    c.in_ok-set.ensures

pub returns-clause-made : goal.returns-clause-made
returns-clause-made c = record {
  middle = c.push_term.new.draft;
  value = c.in_ok-own.own.value;
  held = c.in_ok-held.held;
  term =
      subst (λ (os : List (Option ℕ)). MadeTerm c.args.scene.now c.args.lane.now os (term_seen c.args.value.now) c.args.building.now.draft c.push_term.new.draft c.args.building.now.accesses c.push_term.new.accesses c.args.first c.in_ok-own.own.next c.in_ok-own.own.value)
      c.as_slice-current.ensures.value c.in_ok-own.ensures.made;
  holds = subst (λ (h : VariableSlots). MadeHeld (term_seen c.args.value.now) h.kind c.in_ok-own.own.value c.push_term.new.draft c.push_held.new.draft c.in_ok-held.held) c.place_of-kind.ensures c.in_ok-held.ensures.made;
  sets = c.in_ok-set.ensures;
}
