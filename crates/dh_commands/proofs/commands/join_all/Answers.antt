use Rattle.std.proofs.Common.{List, length, refl, subst}
use Rattle.std.proofs.lemmas.Result.{on_ok_weaker}
use Rattle.dh_commands.specs.declared.choices.Choice.{Choice}
use Rattle.dh_commands.specs.Choosing.{Chooses}
use Rattle.dh_commands.specs.MadeCommands.{MadeChoices}
use Rattle.dh_commands.proofs.commands.join_all.Goals as goal

pub returns-clause-means : goal.returns-clause-means
returns-clause-means c =
    on_ok_weaker c.choose.result
    (λ h. record {
      choices = c.in_ok-choices.choices.items;
      middle = c.join_arms.new.values;
      joins = c.in_ok-choices.ensures;
      chooses =
          subst (λ (cs : List Choice). Chooses c.args.building.now.draft c.choose.new.draft c.join_arms.new.values c.choose.new.values c.args.tests.now cs (length cs)) c.as_slice.ensures.value h;
      accesses = refl;
    })
    c.choose.ensures.means

pub returns-clause-made : goal.returns-clause-made
returns-clause-made c =
    on_ok_weaker c.choose.result
    (λ h. record {
      choices = c.in_ok-choices.choices.items;
      middle = c.join_arms.new.values;
      joins = c.in_ok-choices.ensures;
      choose =
          subst (λ (cs : List Choice). MadeChoices c.args.tests.now cs (length cs) c.args.building.now.draft c.choose.new.draft c.join_arms.new.values c.choose.new.values) c.as_slice.ensures.value h;
      same = refl;
    })
    c.choose.ensures.made
