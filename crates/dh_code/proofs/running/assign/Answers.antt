use Rattle.dh_code.proofs.PlainValues.{nothing_changes, worth_spends}
use Rattle.dh_code.proofs.StatesKept.{assigned_keeps}
use Rattle.dh_code.specs.States.{sight_in}
use Rattle.dh_value.specs.declared.words.Word.{Word}
use Rattle.dh_code.proofs.running.assign.Goals as goal

pub whole-requires : goal.whole-requires
whole-requires c = c.in-Some.ensures.1.1

pub returns-in_ok-set_slot-in-Some-clause-ran : goal.returns-in_ok-set_slot-in-Some-clause-ran
returns-in_ok-set_slot-in-Some-clause-ran c = λ p factors path deep entity t at flat slots inside can e k.
    assigned_keeps c.args.scene.now c.requires.scene p factors c.args.ranks.now path t c.args.value.now e c.args.state.now c.args.state.now at flat can k c.requires.ready
    deep entity c.args.first c.args.depth c.slot.result c.whole.result c.in-Some.word c.set_slot.new.state slots inside (nothing_changes c.args.state.now) c.in-Some.ensures.0
    (worth_spends {A = Word} c.args.scene.now (sight_in c.args.state.now c.args.ranks.now) c.args.value.now c.args.state.now.banks.items c.in-Some.word c.in-Some.ensures.1.0) c.slot.ensures c.whole.ensures
    c.set_slot.ensures.banks c.set_slot.ensures.writes c.in_ok-set_slot-in-Some.ensures.set
