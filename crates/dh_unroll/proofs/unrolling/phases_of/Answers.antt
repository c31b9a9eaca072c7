use Rattle.std.proofs.Common.{List, ◌++◌, length, map, Option, refl, ap, sym, subst, ◌∙◌}
use Rattle.dh_tree.specs.declared.trees.programs.Tree.{Tree}
use Rattle.dh_tree.specs.Seen.{action_seen, program_seen}
use Rattle.dh_meaning.specs.Bindings.{bindings}
use Rattle.dh_meaning.specs.Ways.{hidden_binding, led_binding}
use Rattle.dh_ways.specs.Seen.{hidden_seen, led_seen}
use Rattle.dh_runnable.proofs.ProgramsRun.{ready_few}
use Rattle.dh_sem.proofs.FirstMade.{few_entities, few_hidden}
use Rattle.dh_events.specs.declared.dependence.Scope.{Scope}
use Rattle.dh_events.specs.Scopes.{AreScopes}
use Rattle.dh_runnable.proofs.ProgramsRun.{ready_runs}
use Rattle.dh_lengths.specs.SharedReads.{TellsShares}
use Rattle.dh_unroll.proofs.ScenesMade.{places_few, told}
use Rattle.dh_unroll.proofs.unrolling.phases_of.Goals as goal

pub hidden_in-requires : goal.hidden_in-requires
hidden_in-requires c = record { few = ready_few (program_seen c.args.program.now) c.requires.asked.ready }

pub place_all-requires-clause-few : goal.place_all-requires-clause-few
place_all-requires-clause-few c = places_few c.tree-tree.result.now c.args.program.now c.tree-tree.ensures.tree c.requires.asked

pub place_all-requires-clause-hidden : goal.place_all-requires-clause-hidden
place_all-requires-clause-hidden c =
    few_hidden c.args.program.now c.len.result c.as_slice-kept.result.now (c.len.ensures ∙ (c.tree-tree.result.now.entities.ok.0 ∙ ap (λ (t : Tree). length t.entities.items) c.tree-tree.ensures.tree)) (c.as_slice-kept.ensures ∙ c.in_ok-hidden.ensures)
    (ready_runs (program_seen c.args.program.now) c.requires.asked.ready)

pub place_all-requires-clause-entities : goal.place_all-requires-clause-entities
place_all-requires-clause-entities c =
    few_entities c.args.program.now c.len.result c.as_slice-kept.result.now (c.len.ensures ∙ (c.tree-tree.result.now.entities.ok.0 ∙ ap (λ (t : Tree). length t.entities.items) c.tree-tree.ensures.tree)) (c.as_slice-kept.ensures ∙ c.in_ok-hidden.ensures)
    (ready_runs (program_seen c.args.program.now) c.requires.asked.ready)

pub returns : goal.returns
returns c =
    told (record { alloc = c.args.alloc; program = c.args.program; ways = c.args.ways; through = c.args.through; held = c.as_slice.result; scopes = c.as_slice-2.result; shares = c.as_slice-3.result })
    c.len.result c.in_ok-places.places.count c.in_ok-hidden.hidden c.as_slice-kept.result.now c.args.ways.now c.in_ok-places.places.held.items c.args.through.now c.args.shared.now c.phases_made.result
    c.requires.asked c.requires.ways refl refl c.in_ok-hidden.ensures c.as_slice-kept.ensures c.tree-tree.result.now c.tree-tree.ensures.tree
    (c.len.ensures ∙ c.tree-tree.result.now.entities.ok.0) c.in_ok-places.ensures c.as_slice.ensures.value
    (subst (λ (l : List (Option Scope)). AreScopes (bindings 0 (action_seen c.tree-tree.result.now.body) ++ (map led_binding (map led_seen c.args.ways.now) ++ map hidden_binding (map hidden_seen c.as_slice-kept.result.now))) l) (sym c.as_slice-2.ensures.value) c.in_ok-scopes.ensures)
    (subst (λ (t : Tree). TellsShares (program_seen t) c.args.shared.now) (sym c.tree-tree.ensures.tree) c.requires.shared) (c.as_slice-3.ensures.value ∙ c.in_ok-shares.ensures) c.phases_made.ensures
