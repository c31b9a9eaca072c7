use Rattle.dh_code.proofs.PlainValues.{nothing_changes, worth_spends}
use Rattle.dh_code.proofs.StatesKept.{holds_as, tested_keeps}
use Rattle.dh_code.specs.States.{sight_in}
use Rattle.dh_value.specs.declared.words.Word.{Word}
use Rattle.dh_code.proofs.running.decide.Goals as goal

pub returns-in-Some-clause-decides : goal.returns-in-Some-clause-decides
returns-in-Some-clause-decides c = λ p factors path t at flat can. (
  λ e k. tested_keeps c.args.scene.now c.requires.scene p factors c.args.ranks.now path t c.args.test.now e c.args.state.now c.args.state.now at flat can k c.requires.ready c.in-Some.word (nothing_changes c.args.state.now)
      (worth_spends {A = Word} c.args.scene.now (sight_in c.args.state.now c.args.ranks.now) c.args.test.now c.args.state.now.banks.items c.in-Some.word c.in-Some.ensures.1.0),
  λ e k. holds_as c.args.scene.now c.requires.scene p factors c.args.ranks.now path t c.args.test.now e c.args.state.now c.args.state.now at flat can k c.requires.ready c.in-Some.word c.in-Some.ensures.0,
)
