use Rattle.std.proofs.Common.{ap, sym, ◌∙◌, map, add-one, subst}
use Rattle.std.proofs.lemmas.Result.{IfOk-weaker}
use Rattle.dh_tree.specs.PlainTrees.{accessed}
use Rattle.dh_tree.specs.Seen.{form_seen, term_seen, terms}
use Rattle.dh_tree.proofs.SeenTerms.{access_is, number_is, truth_is, variable_is}
use Rattle.dh_tree.specs.declared.trees.expressions.Expr.{Expr}
use Rattle.dh_meaning.specs.Bindings.{kind_found, kind_or_first}
use Rattle.dh_code.specs.Extended.{extension_of}
use Rattle.dh_meaning.specs.Effects.{kind_in}
use Rattle.dh_code.specs.declared.codes.CodeOperation.TheVariants.{Read}
use Rattle.dh_code.specs.declared.codes.Target.{Target}
use Rattle.dh_code.specs.Flattening.{IsOneMore, known_by_names, table_in}
use Rattle.dh_code.proofs.FlattenedForms.{access_flat, bank_flat, bank_form, binary_form, cast_flat, cast_form, number_flat, operation_flat, truth_flat, variable_flat}
use Rattle.dh_code.proofs.Flattened.{indices_end, indices_turn}
use Rattle.dh_code.proofs.Ranges.{drop_past}
use Rattle.dh_code.proofs.flattening.+flatten.Goals as goal

pub flatten-returns-in-Number : goal.flatten-returns-in-Number
flatten-returns-in-Number t c = λ n. number_flat (known_by_names c.args.names.now) c.args.names.now.places.now (table_in c.args.names.now) c.args.value.now.place (kind_or_first c.args.value.now.kind) c.kind_found-kind.result c.kind_found-kind.ensures (form_seen c.args.value.now.form) c.args.code.now n c.in-Number.negative c.in-Number.value c.literal.result
    (ap form_seen c.in-Number.is ∙ number_is c.in-Number.negative c.in-Number.value) c.literal.ensures

pub flatten-returns-in-Truth : goal.flatten-returns-in-Truth
flatten-returns-in-Truth t c = λ n. truth_flat (known_by_names c.args.names.now) c.args.names.now.places.now (table_in c.args.names.now) c.args.value.now.place (kind_or_first c.args.value.now.kind) c.kind_found-kind.result c.kind_found-kind.ensures (form_seen c.args.value.now.form) c.args.code.now n c.in-Truth.value c.truth.result
    (ap form_seen c.in-Truth.is ∙ truth_is c.in-Truth.value) c.truth.ensures

pub flatten-returns-in-Variable : goal.flatten-returns-in-Variable
flatten-returns-in-Variable t c = λ n. variable_flat (known_by_names c.args.names.now) c.args.names.now.places.now (table_in c.args.names.now) c.args.value.now.place (kind_or_first c.args.value.now.kind) c.kind_found-kind.result c.kind_found-kind.ensures (form_seen c.args.value.now.form) c.args.code.now n c.in-Variable.of c.variable.result
    (ap form_seen c.in-Variable.is ∙ variable_is c.in-Variable.of) c.variable.ensures

pub flatten-returns-in_ok-target-in-Access : goal.flatten-returns-in_ok-target-in-Access
flatten-returns-in_ok-target-in-Access t c =
    IfOk-weaker c.add_read.result _ _ (λ o more n. access_flat (known_by_names c.args.names.now) c.args.names.now.places.now (table_in c.args.names.now) c.args.value.now.place (kind_or_first c.args.value.now.kind) c.kind_found-kind.result c.kind_found-kind.ensures (form_seen c.args.value.now.form)
    c.args.code.now c.flatten_all.new.code c.add_read.new.code n c.in-Access.of (map term_seen c.as_slice.result.now) c.memory_of-memory.result c.in_ok-operands-in-Access.operands c.in_ok-target-in-Access.target o
    (ap form_seen c.in-Access.is ∙ (access_is c.in-Access.of c.in-Access.indices ∙ ap (λ l. accessed c.in-Access.of (terms (map term_seen l))) (sym c.as_slice.ensures.value)))
    c.memory_of-memory.ensures c.in_ok-operands-in-Access.ensures c.in_ok-target-in-Access.ensures more) c.add_read.ensures

pub flatten-returns-in_ok-target-in-Physical : goal.flatten-returns-in_ok-target-in-Physical
flatten-returns-in_ok-target-in-Physical t c =
    IfOk-weaker c.add_read-in-Physical.result _ _ (λ o more n. bank_flat (known_by_names c.args.names.now) c.args.names.now.places.now (table_in c.args.names.now) c.args.value.now.place (kind_or_first c.args.value.now.kind) c.kind_found-kind.result c.kind_found-kind.ensures (form_seen c.args.value.now.form)
    c.args.code.now c.flatten.new.code c.add_read-in-Physical.new.code n c.in-Physical.of c.in-Physical.bank c.in-Physical.bank_place (term_seen c.deref.result.now) c.memory_of-memory-in-Physical.result c.in_ok-row-in-Physical.row o
    (bank_form c.args.value.now.form c.in-Physical.of c.in-Physical.bank c.in-Physical.bank_place c.in-Physical.row c.in-Physical.is c.deref.result.now c.deref.ensures)
    c.memory_of-memory-in-Physical.ensures c.in_ok-row-in-Physical.ensures
    (subst (λ (x : Target). IsOneMore c.flatten.new.code c.add_read-in-Physical.new.code (Read (record { place = c.args.value.now.place; memory = c.memory_of-memory-in-Physical.result; target = x })) (kind_in (table_in c.args.names.now) c.memory_of-memory-in-Physical.result) o)
    c.in_ok-target-in-Physical.ensures more)) c.add_read-in-Physical.ensures

pub flatten-returns-in_ok-b-in-Binary-2 : goal.flatten-returns-in_ok-b-in-Binary-2
flatten-returns-in_ok-b-in-Binary-2 t c =
    IfOk-weaker c.add_binary.result _ _ (λ o adds n. operation_flat (known_by_names c.args.names.now) c.args.names.now.places.now (table_in c.args.names.now) c.args.value.now.place (kind_or_first c.args.value.now.kind) c.kind_found-kind.result c.kind_found-kind.ensures (form_seen c.args.value.now.form)
    c.args.code.now c.flatten-in-Binary.new.code c.extended.new.code c.flatten-in-Binary-2.new.code c.extended-in-Binary.new.code c.add_binary.new.code n c.in-Binary.op (term_seen c.deref-in-Binary-3.result.now) (term_seen c.deref-in-Binary-4.result.now) c.extension-to.result
    c.in_ok-a-in-Binary.a c.in_ok-a-in-Binary-2.a c.in_ok-b-in-Binary.b c.in_ok-b-in-Binary-2.b o
    (binary_form c.args.value.now.form c.in-Binary.op c.in-Binary.left c.in-Binary.right c.in-Binary.is c.deref-in-Binary-3.result.now c.deref-in-Binary-4.result.now c.deref-in-Binary-3.ensures c.deref-in-Binary-4.ensures)
    (c.extension-to.ensures
    ∙ (ap (λ j. extension_of c.in-Binary.op j c.kind_found-in-Binary.result) (c.kind_found.ensures ∙ ap (λ (e : Expr). kind_or_first e.kind) (c.deref-in-Binary.ensures ∙ sym c.deref-in-Binary-3.ensures))
    ∙ ap (λ j. extension_of c.in-Binary.op (kind_found (term_seen c.deref-in-Binary-3.result.now)) j) (c.kind_found-in-Binary.ensures ∙ ap (λ (e : Expr). kind_or_first e.kind) (c.deref-in-Binary-2.ensures ∙ sym c.deref-in-Binary-4.ensures))))
    c.in_ok-a-in-Binary.ensures c.in_ok-a-in-Binary-2.ensures c.in_ok-b-in-Binary.ensures c.in_ok-b-in-Binary-2.ensures adds) c.add_binary.ensures

pub flatten_all-loop-index-preserved : goal.flatten_all-loop-index-preserved
flatten_all-loop-index-preserved t c = rw (add-one c.loop-index.index-index)
    (indices_turn (known_by_names c.args.names.now) c.args.names.now.places.now (table_in c.args.names.now) c.args.code.now c.args.indices.now c.loop-index.index-index c.loop-index.code c.flatten.new.code c.loop-index.operands c.push.new.self c.index-item.result c.in_ok-operand.operand
    c.loop-index-test.true c.index-item.is c.in_ok-push.ensures c.in_ok-operand.ensures c.loop-index.invariant)

pub flatten_all-returns : goal.flatten_all-returns
flatten_all-returns t c =
    indices_end (known_by_names c.args.names.now) c.args.names.now.places.now (table_in c.args.names.now) c.args.code.now c.args.indices.now c.loop-index.index-index c.loop-index.code c.loop-index.operands (drop_past c.args.indices.now c.loop-index.index-index c.loop-index-test.false) c.loop-index.invariant

pub flatten-returns-in_ok-a-in-Cast : goal.flatten-returns-in_ok-a-in-Cast
flatten-returns-in_ok-a-in-Cast t c =
    IfOk-weaker c.converted.result _ _ (λ o converts n. cast_flat (known_by_names c.args.names.now) c.args.names.now.places.now (table_in c.args.names.now) c.args.value.now.place (kind_or_first c.args.value.now.kind) c.kind_found-kind.result c.kind_found-kind.ensures (form_seen c.args.value.now.form)
    c.args.code.now c.flatten-in-Cast.new.code c.converted.new.code n (term_seen c.deref-in-Cast.result.now) c.in-Cast.to c.in_ok-a-in-Cast.a o
    (cast_form c.args.value.now.form c.in-Cast.inner c.in-Cast.to c.in-Cast.is c.deref-in-Cast.result.now c.deref-in-Cast.ensures)
    c.in_ok-a-in-Cast.ensures converts) c.converted.ensures
