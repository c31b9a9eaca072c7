use Rattle.std.proofs.Common.{◌≡◌, ◌+◌, subst, ap, sym, refl, ◌∙◌, ◌∷◌, ◌++◌, drop, map, List}
use Rattle.std.specs.Prelude.{Vec}
use Rattle.std.specs.Global.{Global}
use Rattle.std.proofs.lemmas.List.{drop_all, drop_more}
use Rattle.std.proofs.lemmas.Result.{on_ok_weaker}
use Rattle.dh_tree.specs.declared.trees.commands.Command.{Command}
use Rattle.dh_tree.specs.Seen.{action_form_seen, action_seen, actions, groups, maybe_block_seen, part_seen}
use Rattle.dh_tree.proofs.SeenActions.{assign_is, call_is, for_at, if_is, let_memory_is, reduce_is, store_is, view_is}
use Rattle.dh_tree.specs.Kinds.{iterator_kind}
use Rattle.dh_code.specs.Declarations.{declarations, declared_of, factors_inside, groups_declarations, other_declarations, part_declarations}
use Rattle.dh_code.specs.Placed.{AreFew}
use Rattle.dh_code.proofs.Declaring.{declares_as, declares_both, declares_for, declares_none}
use Rattle.dh_code.proofs.FewDeclared.{Listing, few_left, few_right, listed, listing_next}
use Rattle.dh_code.proofs.places.+declaring.Goals as goal

pub declare-returns-in_ok-declare-in-If : goal.declare-returns-in_ok-declare-in-If
declare-returns-in_ok-declare-in-If t c =
    on_ok_weaker c.declare_other.result (λ more. declares_as c.args.list.now.items c.declare_other.new.list.items c.args.depth c.args.copies c.args.command.now _
    (ap action_form_seen c.in-If.is ∙ if_is c.in-If.test c.in-If.then c.in-If.other) (λ factors round few.
    declares_both c.args.list.now.items c.declare.new.list.items c.declare_other.new.list.items (declarations factors (action_seen c.in-If.then.value)) (other_declarations factors (maybe_block_seen c.in-If.other))
    (c.in_ok-declare-in-If.ensures factors round (subst (λ (x : Command). AreFew (declarations factors (action_seen x))) (sym c.deref-in-If.ensures) (few_left (declarations factors (action_seen c.in-If.then.value)) _ few))
    ∙ ap (λ (x : Command). c.args.list.now.items ++ map declared_of (declarations factors (action_seen x))) c.deref-in-If.ensures)
    (more factors round (few_right (declarations factors (action_seen c.in-If.then.value)) _ few))))
    c.declare_other.ensures

pub declare-returns-in_ok-declare-in-For : goal.declare-returns-in_ok-declare-in-For
declare-returns-in_ok-declare-in-For t c =
    let h = c.as_ref-header.result.now in
    on_ok_weaker c.declare_other-in-For.result (λ more. declares_as c.args.list.now.items c.declare_other-in-For.new.list.items c.args.depth c.args.copies c.args.command.now _
    (ap action_form_seen c.in-For.is ∙ for_at c.in-For.header c.in-For.body c.in-For.combine h c.in-For.body.value c.as_ref-header.ensures refl) (λ factors round few.
    let round' = c.inside-depth.ensures factors round few.0 in
    let inner = factors_inside factors h.factor in
    declares_for c.args.list.now.items c.push-in-For.new.self.items c.declare-in-For.new.list.items c.declare_other-in-For.new.list.items (record { entity = h.iterator.entity; kind_is = iterator_kind h.declared; factors = inner }) h.iterator.entity c.iterator_kind.result c.inside-depth.result.0 c.inside-depth.result.1
    (declarations inner (action_seen c.in-For.body.value)) (other_declarations inner (maybe_block_seen c.in-For.combine)) refl c.iterator_kind.ensures round' c.in_ok-push-in-For.ensures.items
    (c.in_ok-declare-in-For.ensures inner round' (subst (λ (x : Command). AreFew (declarations inner (action_seen x))) (sym c.deref-in-For.ensures) (few_left (declarations inner (action_seen c.in-For.body.value)) _ few.1))
    ∙ ap (λ (x : Command). c.push-in-For.new.self.items ++ map declared_of (declarations inner (action_seen x))) c.deref-in-For.ensures)
    (more inner round' (few_right (declarations inner (action_seen c.in-For.body.value)) _ few.1))))
    c.declare_other-in-For.ensures

pub declare-returns-in-LetMemory : goal.declare-returns-in-LetMemory
declare-returns-in-LetMemory t c = declares_none c.args.list.now.items c.args.depth c.args.copies c.args.command.now _ (ap action_form_seen c.in-LetMemory.is ∙ let_memory_is _ _ _ _) (λ factors. refl)

pub declare-returns-in-View : goal.declare-returns-in-View
declare-returns-in-View t c = declares_none c.args.list.now.items c.args.depth c.args.copies c.args.command.now _ (ap action_form_seen c.in-View.is ∙ view_is _ _ _) (λ factors. refl)

pub declare-returns-in-Assign : goal.declare-returns-in-Assign
declare-returns-in-Assign t c = declares_none c.args.list.now.items c.args.depth c.args.copies c.args.command.now _ (ap action_form_seen c.in-Assign.is ∙ assign_is _ _) (λ factors. refl)

pub declare-returns-in-Store : goal.declare-returns-in-Store
declare-returns-in-Store t c = declares_none c.args.list.now.items c.args.depth c.args.copies c.args.command.now _ (ap action_form_seen c.in-Store.is ∙ store_is _) (λ factors. refl)

pub declare-returns-in-Reduce : goal.declare-returns-in-Reduce
declare-returns-in-Reduce t c = declares_none c.args.list.now.items c.args.depth c.args.copies c.args.command.now _ (ap action_form_seen c.in-Reduce.is ∙ reduce_is _ _ _) (λ factors. refl)

pub declare-returns-in-Call : goal.declare-returns-in-Call
declare-returns-in-Call t c = declares_none c.args.list.now.items c.args.depth c.args.copies c.args.command.now _ (ap action_form_seen c.in-Call.is ∙ call_is _ _) (λ factors. refl)

pub declare_parts-loop-command-preserved : goal.declare_parts-loop-command-preserved
declare_parts-loop-command-preserved t c = λ factors round few.
    let items = c.deref-command-items.result.now in
    let all = part_declarations factors (actions (map action_seen items)) in
    let rest = drop (c.loop-command.command-index + 1) items in
    let left = drop_more items c.loop-command.command-index c.command-item.result c.loop-command-test.true ∙ ap (λ x. x ∷ rest) (sym c.command-item.is) in
    listing_next c.loop-part.list.items c.loop-command.list.items c.declare.new.list.items all (declarations factors (action_seen c.command-item.result)) (part_declarations factors (actions (map action_seen rest)))
    (subst (λ (cs : List Command). Listing c.loop-part.list.items c.loop-command.list.items all (part_declarations factors (actions (map action_seen cs)))) left (c.loop-command.invariant factors round few))
    (λ small. c.in_ok-declare.ensures factors round small)

pub declare_parts-loop-part-preserved : goal.declare_parts-loop-part-preserved
declare_parts-loop-part-preserved t c = λ factors round few.
    let parts = c.args.parts.now in
    let items = c.deref-command-items.result.now in
    let all = groups_declarations factors (groups (map part_seen parts)) in
    let rest = drop (c.loop-part.part-index + 1) parts in
    let left = drop_more parts c.loop-part.part-index c.part-item.result c.loop-part-test.true ∙ ap (λ x. x ∷ rest) (sym c.part-item.is) in
    let none = ap (λ cs. part_declarations factors (actions (map action_seen cs))) (drop_all c.loop-command.command-index items c.loop-command-test.false) in
    listing_next c.args.list.now.items c.loop-part.list.items c.loop-command.list.items all (part_declarations factors (part_seen c.part-item.result)) (groups_declarations factors (groups (map part_seen rest)))
    (subst (λ (ps : List (Vec Command Global)). Listing c.args.list.now.items c.loop-part.list.items all (groups_declarations factors (groups (map part_seen ps)))) left (c.loop-part.invariant factors round few))
    (λ small.
    subst (λ (cs : List Command). c.loop-command.list.items ≡ c.loop-part.list.items ++ map declared_of (part_declarations factors (actions (map action_seen cs)))) c.deref-command-items.ensures.value
    (listed c.loop-part.list.items c.loop-command.list.items (part_declarations factors (actions (map action_seen items))) _ none
    (c.loop-command.invariant factors round (subst (λ (cs : List Command). AreFew (part_declarations factors (actions (map action_seen cs)))) (sym c.deref-command-items.ensures.value) small))))
