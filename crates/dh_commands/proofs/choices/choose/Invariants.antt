-- The choices so far are made.
use Rattle.dh_commands.specs.Choosing.{Chooses}
use Rattle.dh_commands.specs.MadeCommands.{MadeChoices}
use Rattle.dh_commands.proofs.choices.choose.Given as goal

abbrev pub invariant-loop-choice : goal.invariant-loop-choice
invariant-loop-choice l = record {
  means : Chooses l.fn.draft l.draft l.fn.values l.values l.tests l.choices l.choice-index;
  made : MadeChoices l.tests l.choices l.choice-index l.fn.draft l.draft l.fn.values l.values;
}
