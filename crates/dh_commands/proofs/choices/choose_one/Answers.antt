use Rattle.std.proofs.Common.{ℕ, List, subst}
use Rattle.std.specs.Prelude.{Option}
use Rattle.dh_expressions.specs.Drafted.{Gives}
use Rattle.dh_commands.specs.Choosing.{behind_shown}
use Rattle.dh_commands.proofs.ChoicesMade.{chosen_one}
use Rattle.dh_commands.specs.MadeCommands.{MadeBehind}
use Rattle.dh_commands.proofs.choices.choose_one.Goals as goal

pub returns-clause-means : goal.returns-clause-means
returns-clause-means c =
    chosen_one c.args.draft.now c.push_behind.new.draft c.push_behind-2.new.draft c.push_select.new.draft c.args.values.now c.assign.new.values c.args.test c.in_ok-yes.yes c.in_ok-no.no c.in_ok-value.value c.args.choice
    (subst (λ (os : List (Option ℕ)). Gives c.args.draft.now c.push_behind.new.draft c.in_ok-yes.yes (λ x. behind_shown x os c.args.choice.register c.args.choice.chosen)) c.as_slice-current.ensures.value c.in_ok-yes.ensures.means)
    (subst (λ (os : List (Option ℕ)). Gives c.push_behind.new.draft c.push_behind-2.new.draft c.in_ok-no.no (λ x. behind_shown x os c.args.choice.register c.args.choice.other)) c.as_slice-current.ensures.value c.in_ok-no.ensures.means)
    c.in_ok-value.ensures.means c.in_ok-assign.ensures

pub returns-clause-made : goal.returns-clause-made
returns-clause-made c = record {
  first = c.push_behind.new.draft;
  second = c.push_behind-2.new.draft;
  yes_value = c.in_ok-yes.yes;
  no_value = c.in_ok-no.no;
  value = c.in_ok-value.value;
  chosen = subst (λ (os : List (Option ℕ)). MadeBehind os c.args.choice.register c.args.choice.chosen c.args.draft.now c.push_behind.new.draft c.in_ok-yes.yes) c.as_slice-current.ensures.value c.in_ok-yes.ensures.made;
  other = subst (λ (os : List (Option ℕ)). MadeBehind os c.args.choice.register c.args.choice.other c.push_behind.new.draft c.push_behind-2.new.draft c.in_ok-no.no) c.as_slice-current.ensures.value c.in_ok-no.ensures.made;
  pushes = c.in_ok-value.ensures.made;
  sets = c.in_ok-assign.ensures;
}
