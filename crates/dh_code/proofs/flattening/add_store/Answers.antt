use Rattle.std.proofs.Common.{◌+◌, ap, sym, ◌∙◌, length, subst}
use Rattle.std.specs.Prelude.{Option}
use Rattle.std.proofs.lemmas.Result.{IfOk-weaker}
use Rattle.dh_tree.specs.Seen.{term_seen}
use Rattle.dh_meaning.specs.AccessNumbers.{term_accesses}
use Rattle.dh_meaning.specs.Core.{CoreCommand, command_and}
use Rattle.dh_meaning.specs.CoreOf.{core_term}
use Rattle.dh_code.specs.declared.codes.Access.{Access}
use Rattle.dh_code.specs.declared.codes.Action.TheVariants.{Store}
use Rattle.dh_code.specs.declared.codes.FlatExpression.{FlatExpression}
use Rattle.dh_code.specs.Flattening.{AddsStep, IsAimed, IsInFront, aimed_at, known_by_names, table_in}
use Rattle.dh_code.specs.Suited.{CanDoAll}
use Rattle.dh_code.proofs.CommandsFlattened.{aimed_nowhere, aimed_somewhere, nothing_front, store_by, store_front}
use Rattle.dh_code.proofs.flattening.add_store.Goals as goal

pub returns-then-not-is_access : goal.returns-then-not-is_access
returns-then-not-is_access c =
    IfOk-weaker c.add_nothing.result _ _ (λ first nothing n rest p loops placing can.
    subst (λ (x : CoreCommand). IsInFront c.args.names.now c.args.code.now c.add_nothing.new.code first c.args.next (command_and x rest) rest)
    (sym (aimed_nowhere (known_by_names c.args.names.now) (n + term_accesses (term_seen c.args.value.now)) (term_seen c.args.target.now) (core_term (known_by_names c.args.names.now) n (term_seen c.args.value.now)) (sym c.is_access.ensures ∙ c.if-not-is_access.true)))
    (nothing_front c.args.names.now c.args.code.now c.add_nothing.new.code nothing.test c.args.next first rest nothing.step nothing.still))
    c.add_nothing.ensures

pub returns-in-Some : goal.returns-in-Some
returns-in-Some c =
    IfOk-weaker c.add_step.result _ _ (λ first step n rest p loops placing can.
    let names = c.args.names.now in
    let m = n + term_accesses (term_seen c.args.value.now) in
    let target = term_seen c.args.target.now in
    let t = core_term (known_by_names names) n (term_seen c.args.value.now) in
    let by = store_by (known_by_names names) m target t in
    subst (λ (x : CoreCommand). IsInFront names c.args.code.now c.add_step.new.code first c.args.next (command_and x rest) rest) (sym by)
    (store_front names p loops c.args.code.now c.flatten.new.code c.element.new.code c.add_step.new.code t c.in_ok-value.value c.args.next first rest (c.in_ok-value.ensures n) (aimed_at (known_by_names names) m target) c.in-Some.access
    (subst (λ (x : CoreCommand). CanDoAll (table_in names) p loops (command_and x rest)) by can)
    (subst (λ (a : Option Access). IsAimed names c.flatten.new.code c.element.new.code (aimed_at (known_by_names names) m target) a) c.in-Some.is (c.in_ok-access.ensures m))
    (subst (λ (f : FlatExpression). AddsStep c.element.new.code c.add_step.new.code (Store f c.in-Some.access) c.args.next first)
    (ap (λ k. record { from = k; to = c.len-to.result; value = c.in_ok-value.value }) c.len-from.ensures ∙ ap (λ k. record { from = length c.args.code.now.operations; to = k; value = c.in_ok-value.value }) c.len-to.ensures) step)))
    c.add_step.ensures

pub returns-in-None : goal.returns-in-None
returns-in-None c =
    IfOk-weaker c.add_nothing-in-None.result _ _ (λ first nothing n rest p loops placing can.
    let names = c.args.names.now in
    let m = n + term_accesses (term_seen c.args.value.now) in
    let target = term_seen c.args.target.now in
    absurd (aimed_somewhere names c.flatten.new.code c.element.new.code m target (sym c.is_access.ensures ∙ c.if-not-is_access.false)
    (subst (λ (a : Option Access). IsAimed names c.flatten.new.code c.element.new.code (aimed_at (known_by_names names) m target) a) c.in-None.is (c.in_ok-access.ensures m))))
    c.add_nothing-in-None.ensures
