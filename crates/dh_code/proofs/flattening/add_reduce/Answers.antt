use Rattle.std.proofs.Common.{◌≡◌, ap, ◌∙◌, length, subst}
use Rattle.std.proofs.lemmas.Result.{IfOk-weaker}
use Rattle.dh_tree.specs.Seen.{term_seen}
use Rattle.dh_meaning.specs.Bindings.{kind_found}
use Rattle.dh_meaning.specs.CoreOf.{core_term, entity_number}
use Rattle.dh_code.specs.declared.codes.Action.TheVariants.{Assign}
use Rattle.dh_code.specs.declared.codes.FlatExpression.{FlatExpression}
use Rattle.dh_code.specs.declared.codes.Operand.{Operand}
use Rattle.dh_code.specs.declared.places.VariableSlots.{VariableSlots}
use Rattle.dh_code.specs.Extended.{extension_of}
use Rattle.dh_code.specs.Flattening.{AddsStep, ExtendsTo, known_by_names}
use Rattle.dh_code.specs.Made.{variable_operand}
use Rattle.dh_code.specs.Slots.{held_at}
use Rattle.dh_code.proofs.CommandsFlattened.{reduce_front}
use Rattle.dh_code.proofs.flattening.add_reduce.Goals as goal

pub returns : goal.returns
returns c =
    IfOk-weaker c.add_assign.result _ _ (λ first step n rest p loops placing can.
    let held = c.args.names.now.places.now in
    let e = entity_number c.args.target.now.entity in
    let kinds : c.place_of-kind.result.kind ≡ (held_at held e).kind = ap (λ (h : VariableSlots). h.kind) c.place_of-kind.ensures in
    reduce_front c.args.names.now p loops placing c.args.code.now c.extended.new.code c.add_binary.new.code c.flatten.new.code c.extended-2.new.code c.add_assign.new.code c.args.target.now c.args.op (kind_found (term_seen c.args.value.now)) c.extension-to.result (core_term (known_by_names c.args.names.now) n (term_seen c.args.value.now))
    c.in_ok-a.a c.in_ok-b.b c.in_ok-b-2.b c.in_ok-value.value c.args.next first rest can
    (c.extension-to.ensures ∙ (ap (λ j. extension_of c.args.op j c.kind_found.result) kinds ∙ ap (λ j. extension_of c.args.op (held_at held e).kind j) c.kind_found.ensures))
    (subst (λ (o : Operand). ExtendsTo c.args.code.now c.extended.new.code o c.extension-to.result c.in_ok-a.a) (c.variable-a.ensures ∙ ap (λ j. variable_operand held j e) kinds) c.in_ok-a.ensures)
    (c.in_ok-b.ensures n) c.in_ok-b-2.ensures c.in_ok-value.ensures
    (subst (λ (f : FlatExpression). AddsStep c.add_binary.new.code c.add_assign.new.code (Assign f (held_at held e).first (held_at held e).depth) c.args.next first)
    (ap (λ m. record { from = m; to = c.len.result; value = c.in_ok-value.value }) c.len-from.ensures ∙ ap (λ m. record { from = length c.args.code.now.operations; to = m; value = c.in_ok-value.value }) c.len.ensures) step))
    c.add_assign.ensures
