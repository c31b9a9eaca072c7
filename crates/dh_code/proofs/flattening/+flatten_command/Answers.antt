use Rattle.std.proofs.Common.{◌+◌, List, map, refl, ap, sym, ◌∙◌, subst, None}
use Rattle.std.specs.Prelude.{Option, Box, Vec, option_map}
use Rattle.std.specs.Global.{Global}
use Rattle.std.proofs.lemmas.Result.{IfOk-weaker}
use Rattle.dh_tree.specs.declared.trees.commands.Command.{Command}
use Rattle.dh_tree.specs.PlainTrees.{assigns, blocks, decides, lets, reduces, stores, views}
use Rattle.dh_tree.specs.Seen.{action_form_seen, action_seen, groups, maybe_block_seen, maybe_seen, part_seen, view_plan, term_seen}
use Rattle.dh_tree.proofs.SeenActions.{assign_at, block_is, call_is, for_is, if_at, let_at, let_memory_is, reduce_at, store_at, view_at, while_is}
use Rattle.dh_meaning.specs.AccessNumbers.{accesses_of, term_accesses}
use Rattle.dh_meaning.specs.Core.{no_commands}
use Rattle.dh_meaning.specs.CoreOf.{core_action, core_other, core_term, depth_of, entity_number, first_value}
use Rattle.dh_code.specs.Flattening.{IsInFront, known_by_names, table_in}
use Rattle.dh_code.specs.Suited.{CanDoAll}
use Rattle.dh_code.proofs.CommandsFlattened.{FlattensGroups, FlattensPart, assign_front, choose_front, front_as, front_none, groups_begin, groups_turn, part_begins, part_turn}
use Rattle.dh_code.proofs.Ranges.{drop_none}
use Rattle.dh_code.proofs.flattening.+flatten_command.Goals as goal

pub flatten_command-returns-in_ok-value-in-Let : goal.flatten_command-returns-in_ok-value-in-Let
flatten_command-returns-in_ok-value-in-Let t c =
    IfOk-weaker c.add_assign.result _ _ (λ first step. front_as c.args.names.now c.args.code.now c.add_assign.new.code c.args.command.now first c.args.next (lets c.in-Let.name c.in-Let.declared (option_map term_seen c.deref.result.now))
    (ap action_form_seen c.in-Let.is ∙ let_at c.in-Let.declared c.in-Let.name c.in-Let.value c.deref.result.now c.deref.ensures) (λ p loops n rest placing can.
    assign_front c.args.names.now p loops placing.held c.args.code.now c.first_value.new.code c.add_assign.new.code (entity_number c.in-Let.name.entity) (depth_of (known_by_names c.args.names.now) c.in-Let.name) (first_value (known_by_names c.args.names.now) n c.in-Let.declared (option_map term_seen c.deref.result.now))
    c.in_ok-value-in-Let.value c.args.next first rest can (c.in_ok-value-in-Let.ensures n) step)) c.add_assign.ensures

pub flatten_command-returns-in_ok-value-in-Assign : goal.flatten_command-returns-in_ok-value-in-Assign
flatten_command-returns-in_ok-value-in-Assign t c =
    IfOk-weaker c.add_assign-in-Assign.result _ _ (λ first step. front_as c.args.names.now c.args.code.now c.add_assign-in-Assign.new.code c.args.command.now first c.args.next (assigns c.in-Assign.target (term_seen c.deref-in-Assign.result.now))
    (ap action_form_seen c.in-Assign.is ∙ assign_at c.in-Assign.target c.in-Assign.value c.deref-in-Assign.result.now c.deref-in-Assign.ensures) (λ p loops n rest placing can.
    assign_front c.args.names.now p loops placing.held c.args.code.now c.flat.new.code c.add_assign-in-Assign.new.code (entity_number c.in-Assign.target.entity) (depth_of (known_by_names c.args.names.now) c.in-Assign.target) (core_term (known_by_names c.args.names.now) n (term_seen c.deref-in-Assign.result.now))
    c.in_ok-value-in-Assign.value c.args.next first rest can (c.in_ok-value-in-Assign.ensures n) step)) c.add_assign-in-Assign.ensures

pub flatten_command-returns-in-Store : goal.flatten_command-returns-in-Store
flatten_command-returns-in-Store t c =
    IfOk-weaker c.add_store.result _ _ (λ first h. front_as c.args.names.now c.args.code.now c.add_store.new.code c.args.command.now first c.args.next (stores (term_seen c.as_ref-sides.result.now.target) (term_seen c.as_ref-sides.result.now.value))
    (ap action_form_seen c.in-Store.is ∙ store_at c.in-Store.sides c.as_ref-sides.result.now c.as_ref-sides.ensures) (λ p loops n rest placing can. h n rest p loops placing can)) c.add_store.ensures

pub flatten_command-returns-in-Reduce : goal.flatten_command-returns-in-Reduce
flatten_command-returns-in-Reduce t c =
    IfOk-weaker c.add_reduce.result _ _ (λ first h. front_as c.args.names.now c.args.code.now c.add_reduce.new.code c.args.command.now first c.args.next (reduces c.in-Reduce.target c.in-Reduce.op (term_seen c.deref-in-Reduce.result.now))
    (ap action_form_seen c.in-Reduce.is ∙ reduce_at c.in-Reduce.op c.in-Reduce.target c.in-Reduce.value c.deref-in-Reduce.result.now c.deref-in-Reduce.ensures) (λ p loops n rest placing can. h n rest p loops placing can)) c.add_reduce.ensures

pub flatten_command-returns-in_ok-other-in-If : goal.flatten_command-returns-in_ok-other-in-If
flatten_command-returns-in_ok-other-in-If t c =
    IfOk-weaker c.add_step.result _ _ (λ first step. front_as c.args.names.now c.args.code.now c.add_step.new.code c.args.command.now first c.args.next (decides (term_seen c.deref-in-If.result.now) (action_seen c.in-If.then.value) (maybe_block_seen c.in-If.other))
    (ap action_form_seen c.in-If.is ∙ if_at c.in-If.test c.in-If.then c.in-If.other c.deref-in-If.result.now c.in-If.then.value c.deref-in-If.ensures refl) (λ p loops n rest placing can.
    let known = known_by_names c.args.names.now in
    let m = n + term_accesses (term_seen c.deref-in-If.result.now) in
    choose_front c.args.names.now p loops c.args.code.now c.flat-in-If.new.code c.flatten_command.new.code c.flatten_other.new.code c.add_step.new.code (core_term known n (term_seen c.deref-in-If.result.now)) (core_action known m (action_seen c.in-If.then.value) no_commands) (core_other known (m + accesses_of (action_seen c.in-If.then.value)) (maybe_block_seen c.in-If.other))
    c.in_ok-test-in-If.test c.in_ok-chosen-in-If.chosen c.in_ok-other-in-If.other c.args.next first rest can (c.in_ok-test-in-If.ensures n)
    (subst (λ (x : Command). CanDoAll (table_in c.args.names.now) p loops (core_action known m (action_seen x) no_commands) → IsInFront c.args.names.now c.flat-in-If.new.code c.flatten_command.new.code c.in_ok-chosen-in-If.chosen None (core_action known m (action_seen x) no_commands) no_commands) c.deref-in-If-2.ensures (c.in_ok-chosen-in-If.ensures p loops m no_commands placing))
    (c.in_ok-other-in-If.ensures p loops (m + accesses_of (action_seen c.in-If.then.value)) placing) step)) c.add_step.ensures

pub flatten_command-loop-i-init : goal.flatten_command-loop-i-init
flatten_command-loop-i-init t c = groups_begin c.args.names.now c.args.code.now c.as_slice-parts.result.now c.args.next

pub flatten_command-loop-j-init : goal.flatten_command-loop-j-init
flatten_command-loop-j-init t c = part_begins c.args.names.now c.loop-i.code c.as_slice-part.result.now c.loop-i.first

pub flatten_command-loop-j-preserved : goal.flatten_command-loop-j-preserved
flatten_command-loop-j-preserved t c = part_turn c.args.names.now c.loop-i.code c.loop-j.code c.flatten_command-in-loop-j.new.code c.as_slice-part.result.now c.loop-j.j c.index-part-j.result c.loop-i.first c.loop-j.first c.in_ok-first-in-Block.first c.loop-j-test.true c.loop-j.auto.j c.index-part-j.is c.in_ok-first-in-Block.ensures c.loop-j.invariant

pub flatten_command-loop-i-preserved : goal.flatten_command-loop-i-preserved
flatten_command-loop-i-preserved t c =
    groups_turn c.args.names.now c.args.code.now c.loop-i.code c.loop-j.code c.as_slice-parts.result.now c.loop-i.i c.index-parts-i.result c.args.next c.loop-i.first c.loop-j.first c.loop-i-test.true c.loop-i.auto.i c.index-parts-i.is
    (subst (λ (l : List Command). FlattensPart c.args.names.now c.loop-i.code c.loop-j.code l c.loop-j.first c.loop-i.first) (drop_none c.as_slice-part.result.now c.loop-j.j c.loop-j-test.false ∙ c.as_slice-part.ensures.value) c.loop-j.invariant) c.loop-i.invariant

pub flatten_command-returns-after-loop-i : goal.flatten_command-returns-after-loop-i
flatten_command-returns-after-loop-i t c =
    front_as c.args.names.now c.args.code.now c.loop-i.code c.args.command.now c.loop-i.first c.args.next (blocks (groups (map part_seen c.in-Block.body.items)))
    (ap action_form_seen c.in-Block.is ∙ block_is c.in-Block.body) (λ p loops n rest placing can.
    (subst (λ (l : List (Vec Command Global)). FlattensGroups c.args.names.now c.args.code.now c.loop-i.code l c.loop-i.first c.args.next) (drop_none c.as_slice-parts.result.now c.loop-i.i c.loop-i-test.false ∙ c.as_slice-parts.ensures.value) c.loop-i.invariant) p loops n rest placing can)

pub flatten_command-returns-in-LetMemory : goal.flatten_command-returns-in-LetMemory
flatten_command-returns-in-LetMemory t c = front_as c.args.names.now c.args.code.now c.args.code.now c.args.command.now c.args.next c.args.next _ (ap action_form_seen c.in-LetMemory.is ∙ let_memory_is _ _ _ _) (λ p loops n rest placing can. front_none c.args.names.now c.args.code.now c.args.next rest)

pub flatten_command-returns-in-View : goal.flatten_command-returns-in-View
flatten_command-returns-in-View t c =
    IfOk-weaker c.add_view.result _ _ (λ first h. front_as c.args.names.now c.args.code.now c.add_view.new.code c.args.command.now first c.args.next (views c.deref-in-View.result.now c.in-View.parent.value (view_plan c.deref-in-View-2.result.now))
    (ap action_form_seen c.in-View.is ∙ view_at c.in-View.name c.in-View.parent c.in-View.form c.deref-in-View.result.now c.in-View.parent.value c.deref-in-View-2.result.now c.deref-in-View.ensures refl c.deref-in-View-2.ensures) (λ p loops n rest placing can. h n rest p loops placing can)) c.add_view.ensures

pub flatten_command-returns-in-Call : goal.flatten_command-returns-in-Call
flatten_command-returns-in-Call t c = front_as c.args.names.now c.args.code.now c.args.code.now c.args.command.now c.args.next c.args.next _ (ap action_form_seen c.in-Call.is ∙ call_is _ _) (λ p loops n rest placing can. front_none c.args.names.now c.args.code.now c.args.next rest)

pub flatten_command-returns-in-While : goal.flatten_command-returns-in-While
flatten_command-returns-in-While t c = front_as c.args.names.now c.args.code.now c.args.code.now c.args.command.now c.args.next c.args.next _ (ap action_form_seen c.in-While.is ∙ while_is _ _) (λ p loops n rest placing can. front_none c.args.names.now c.args.code.now c.args.next rest)

pub flatten_command-returns-in-For : goal.flatten_command-returns-in-For
flatten_command-returns-in-For t c = front_as c.args.names.now c.args.code.now c.args.code.now c.args.command.now c.args.next c.args.next _ (ap action_form_seen c.in-For.is ∙ for_is _ _ _) (λ p loops n rest placing can. front_none c.args.names.now c.args.code.now c.args.next rest)

pub flatten_other-returns-in-None : goal.flatten_other-returns-in-None
flatten_other-returns-in-None t c = λ p loops n placing can.
    subst (λ (o : Option (Box Command Global)). IsInFront c.args.names.now c.args.code.now c.args.code.now None None (core_other (known_by_names c.args.names.now) n (maybe_seen (option_map (λ b. action_seen b.value) o))) no_commands) (sym c.in-None.is) (front_none c.args.names.now c.args.code.now None no_commands)
