use Rattle.std.proofs.Common.{◌^◌, List, refl, sym, subst, ◌∙◌}
use Rattle.std.specs.List.{AllByRecursion}
use Rattle.dh_tree.specs.declared.trees.programs.Tree.{Tree}
use Rattle.dh_tree.specs.declared.trees.typed.Typed.{Typed}
use Rattle.dh_tree.specs.Seen.{action_seen, program_seen}
use Rattle.dh_meaning.specs.Ways.{Led}
use Rattle.dh_accesses.specs.Met.{MeetsBody}
use Rattle.dh_lengths.specs.SharedReads.{TellsShares}
use Rattle.dh_plan.specs.Passes.{IsToCompile}
use Rattle.dh_ways.proofs.StandsCut.{names_few}
use Rattle.dh_runnable.proofs.ProgramsRun.{ready_few}
use Rattle.dh_unroll.specs.ViewsListed.{LeadsSomewhere}
use Rattle.dh_unroll.proofs.PlansUnrolled.{lists_own, plan_unrolled, unrolled_same}
use Rattle.dh_unroll.proofs.ViewsListed.{ready_leads, ways_few}
use Rattle.dh_unroll.proofs.unrolling.unroll.Goals as goal

pub ways_in-requires : goal.ways_in-requires
ways_in-requires c = record { few = ready_few (program_seen c.typed-program.result.now) (subst (λ (t : Typed). IsToCompile (program_seen t)) (sym c.typed-program.ensures) c.requires.asked).ready }

pub list_views-requires-clause-leads : goal.list_views-requires-clause-leads
list_views-requires-clause-leads c =
    subst (λ (ls : List Led). AllByRecursion (λ (l : Led). LeadsSomewhere l.way.steps) ls) (sym c.in_ok-ways.ensures) (ready_leads (program_seen c.typed-program.result.now) (subst (λ (t : Typed). IsToCompile (program_seen t)) (sym c.typed-program.ensures) c.requires.asked).ready)

pub list_views-requires-clause-few : goal.list_views-requires-clause-few
list_views-requires-clause-few c =
    let p = program_seen c.typed-program.result.now in
    let ready = (subst (λ (t : Typed). IsToCompile (program_seen t)) (sym c.typed-program.ensures) c.requires.asked).ready in
    ways_few p _ ready (names_few p (2 ^ 32) (ready_few p ready).entities) c.in_ok-ways.ensures

pub phases_of-requires-clause-asked : goal.phases_of-requires-clause-asked
phases_of-requires-clause-asked c = subst (λ (t : Typed). IsToCompile (program_seen t)) (sym c.typed-program.ensures) c.requires.asked

pub phases_of-requires-clause-shared : goal.phases_of-requires-clause-shared
phases_of-requires-clause-shared c = subst (λ (t : Typed). TellsShares (program_seen t) c.args.shared.now) (sym c.typed-program.ensures) c.requires.shared

pub phases_of-requires-clause-ways : goal.phases_of-requires-clause-ways
phases_of-requires-clause-ways c = c.in_ok-ways.ensures

pub returns : goal.returns
returns c =
    unrolled_same c.typed-program.result.now _ _ c.typed-program.ensures
    (plan_unrolled c.typed-program.result.now c.as_slice-taken.result.now c.in_ok-nodes.field-0 _ c.in_ok-meets_of.field-0
    (subst (λ (t : Typed). IsToCompile (program_seen t)) (sym c.typed-program.ensures) c.requires.asked) c.in_ok-nodes.ensures (record {
      table = c.in_ok-copy_table.ensures ∙ (c.as_slice.ensures ∙ c.memories.ensures);
      lists = lists_own (program_seen c.typed-program.result.now) _ _ _ _ _ c.in_ok-ways.ensures c.as_slice-taken.ensures.value c.views.view_is c.in_ok-views.ensures;
      registers = c.registers.view_is;
      blocks = c.blocks-2.view_is;
      body = refl;
      faults = refl;
      meets_are = refl;
      met = subst (λ (t : Tree). MeetsBody (action_seen t.body) c.in_ok-meets_of.field-0) c.tree.ensures.tree c.in_ok-meets_of.ensures;
    }))
