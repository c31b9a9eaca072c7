use Rattle.std.proofs.Common.{[], length, refl, ap, sym, subst, ◌∙◌}
use Rattle.std.proofs.lemmas.Result.{IfOk-weaker}
use Rattle.dh_tree.specs.declared.trees.programs.Tree.{Tree}
use Rattle.dh_tree.specs.PlainTrees.{Action}
use Rattle.dh_tree.specs.Seen.{action_seen, program_seen}
use Rattle.dh_code.specs.Declarations.{declarations}
use Rattle.dh_code.specs.Placed.{AreFew}
use Rattle.dh_sem.proofs.FirstMade.{few_entities, few_hidden, few_ways, places_are}
use Rattle.dh_sem.proofs.starting.places_of.Goals as goal

pub hidden_in-requires : goal.hidden_in-requires
hidden_in-requires c = record { few = few_ways (program_seen c.args.program.now) c.requires.runnable }

pub place_all-requires-clause-few : goal.place_all-requires-clause-few
place_all-requires-clause-few c = subst (λ (a : Action). AreFew (declarations [] a)) (sym (ap (λ (t : Tree). action_seen t.body) c.tree-tree.ensures.tree)) c.requires.runnable.copies

pub place_all-requires-clause-hidden : goal.place_all-requires-clause-hidden
place_all-requires-clause-hidden c = few_hidden c.args.program.now c.len.result c.as_slice-kept.result.now (c.len.ensures ∙ (c.tree-tree.result.now.entities.ok.0 ∙ ap (λ (t : Tree). length t.entities.items) c.tree-tree.ensures.tree)) (c.as_slice-kept.ensures ∙ c.in_ok-hidden.ensures) c.requires.runnable

pub place_all-requires-clause-entities : goal.place_all-requires-clause-entities
place_all-requires-clause-entities c = few_entities c.args.program.now c.len.result c.as_slice-kept.result.now (c.len.ensures ∙ (c.tree-tree.result.now.entities.ok.0 ∙ ap (λ (t : Tree). length t.entities.items) c.tree-tree.ensures.tree)) (c.as_slice-kept.ensures ∙ c.in_ok-hidden.ensures) c.requires.runnable

pub returns : goal.returns
returns c =
    IfOk-weaker c.place_all.result _ _
    (λ places h.
    let are = places_are c.args.program.now c.len.result c.as_slice-kept.result.now (c.len.ensures ∙ (c.tree-tree.result.now.entities.ok.0 ∙ ap (λ (t : Tree). length t.entities.items) c.tree-tree.ensures.tree)) (c.as_slice-kept.ensures ∙ c.in_ok-hidden.ensures)
    (action_seen c.tree-tree.result.now.body) places.count places.held.items places.held.items refl (ap (λ (t : Tree). action_seen t.body) c.tree-tree.ensures.tree) h in
    record { held_are = are.0; count_is = are.1 })
    c.place_all.ensures
