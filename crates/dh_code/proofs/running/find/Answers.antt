use Rattle.std.proofs.Common.{◌^◌, ap, ◌∙◌, add-one}
use Rattle.dh_value.specs.Words as words
use Rattle.dh_value.specs.Words.{residue}
use Rattle.dh_code.specs.declared.codes.Kept.{Kept}
use Rattle.dh_code.specs.Operated.{IsValidOperand}
use Rattle.dh_code.specs.States.{sight_in}
use Rattle.dh_code.proofs.Entries.{at_index}
use Rattle.dh_code.proofs.KeptValues.{found_at, found_end}
use Rattle.dh_code.proofs.running.find.Goals as goal

pub value_in-requires : goal.value_in-requires
value_in-requires c = at_index (λ (k : Kept). IsValidOperand k.value) c.args.values.now c.loop-kept.kept-index _ c.requires.operands c.loop-kept-test.true

pub loop-kept-preserved : goal.loop-kept-preserved
loop-kept-preserved c = rw (add-one c.loop-kept.kept-index)
    (found_at (sight_in c.args.state.now c.args.ranks.now) c.args.found.now.items c.loop-kept.found.items c.push.new.self.items c.args.values.now c.loop-kept.kept-index c.whole.result _ c.loop-kept-test.true c.in_ok-push.ensures.items
    (c.whole.ensures ∙ ap (λ x. residue (2 ^ 64) (words.value_of x)) c.value_in.ensures.value) c.loop-kept.invariant)

pub returns : goal.returns
returns c = found_end (sight_in c.args.state.now c.args.ranks.now) c.args.found.now.items c.loop-kept.found.items c.args.values.now c.loop-kept.kept-index c.loop-kept-test.false c.loop-kept.invariant
