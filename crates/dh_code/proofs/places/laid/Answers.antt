use Rattle.std.proofs.Common.{◌≡◌, ◌∙◌, ◌+◌, ◌++◌, ◌∷◌, [], ap, refl, get_or, None, length, arith, add-one}
use Rattle.dh_code.proofs.Declaring.{lays_end, lays_turn}
use Rattle.dh_code.proofs.FewDeclared.{few_at}
use Rattle.dh_code.proofs.places.laid.Goals as goal

pub overflow_add-count : goal.overflow_add-count
overflow_add-count c =
    let few = few_at c.args.found.now c.loop-variable.variable-index None c.loop-variable-test.true c.requires.few in
    let most = c.loop-variable.invariant.1 in
    let within = c.loop-variable-test.true in
    let entities = c.requires.entities in
    let copies = c.copies_of.ensures in
    omega (arith, few, most, within, entities, copies)

pub loop-variable-preserved : goal.loop-variable-preserved
loop-variable-preserved c = (
  rw (add-one c.loop-variable.variable-index)
      (lays_turn c.args.found.now c.loop-variable.variable-index c.loop-variable.count c.loop-variable.places.items c.push.new.self.items _ (get_or c.args.found.now c.loop-variable.variable-index None) c.loop-variable-test.true refl
      (c.in_ok-push.ensures.items ∙ ap (λ h. c.loop-variable.places.items ++ h ∷ []) c.slots_of.ensures)
      (ap (λ n. c.loop-variable.count + n) c.copies_of.ensures) c.loop-variable.invariant.0),
  (let few = few_at c.args.found.now c.loop-variable.variable-index None c.loop-variable-test.true c.requires.few in
      let most = c.loop-variable.invariant.1 in
      let copies = c.copies_of.ensures in
      omega (arith, few, most, copies)),
)

pub returns : goal.returns
returns c =
    let past = c.loop-variable-test.false in
    let up = c.loop-variable.auto.variable-index-end in
    let all : c.loop-variable.variable-index ≡ length c.args.found.now = omega (arith, past, up) in
    lays_end c.args.found.now c.loop-variable.variable-index c.loop-variable.count c.loop-variable.places.items all c.loop-variable.invariant.0
