-- What the pass makes of a program is a plan of it, told of the program's own tree.
use Rattle.std.proofs.Common.{◌≡◌, List, map, sym, subst, ◌∙◌}
use Rattle.std.specs.List.{AllByRecursion}
use Rattle.dh_tree.specs.declared.trees.typed.Typed.{Typed}
use Rattle.dh_tree.specs.declared.trees.programs.Tree.{Tree}
use Rattle.dh_tree.specs.declared.viewing.ViewMap.{ViewMap}
use Rattle.dh_tree.specs.Memories.{table_of}
use Rattle.dh_tree.specs.PlainTrees.{Program}
use Rattle.dh_tree.specs.Seen.{program_seen}
use Rattle.dh_tree.specs.ViewShapes.{IsViewMap}
use Rattle.dh_meaning.specs.Ways.{Led, ways_of}
use Rattle.dh_ways.specs.Seen.{led_seen}
use Rattle.dh_plan.specs.Passes.{IsToCompile}
use Rattle.dh_plan.specs.PlainPlans.{PlainPlan}
use Rattle.dh_plan.specs.SeenPlans.{meets_seen, nodes_seen}
use Rattle.dh_plan.specs.declared.plans.Meets.{Meets}
use Rattle.dh_accesses.specs.Met.{MeetsBody}
use Rattle.dh_expressions.specs.declared.scenes.Through.{Through}
use Rattle.dh_gathering.specs.declared.making.Phased.{Phased}
use Rattle.dh_told.specs.MadePlans.{IsMadePlan, MakesPhases}
use Rattle.dh_told.proofs.PlansMade.{plan_of, sized}
use Rattle.dh_unroll.specs.Unrolled.{IsUnrolled}
use Rattle.dh_unroll.specs.ViewsListed.{ListsAll}
use Rattle.dh_unroll.proofs.ViewsListed.{all_views, ready_maps, views_own, views_told}

-- the parts of a plan, by a program's tree, where accesses take this of views
pub record HasParts (t : Tree) (through : List Through) (phased : Phased) (plan : PlainPlan) (meets : Meets) : Type 0 where
  pub table : plan.table ≡ table_of (program_seen t)
  pub lists : ListsAll (ways_of (program_seen t)) plan.views through
  pub registers : plan.registers ≡ phased.registers
  pub blocks : plan.blocks ≡ phased.blocks
  pub body : plan.body ≡ nodes_seen phased.nodes.items
  pub faults : plan.faults ≡ phased.faults
  pub meets_are : plan.meets ≡ meets_seen meets
  pub met : MeetsBody (program_seen t).body meets

-- views are listed by the ways of the program
pub lists_own : (p : Program) (ls : List Led) (views own : List ViewMap) (taken through : List Through) → ls ≡ ways_of p → taken ≡ through → own ≡ views → ListsAll ls views through → ListsAll (ways_of p) own taken
lists_own p ls views own taken through ways same are h =
    subst (λ (vs : List ViewMap). ListsAll (ways_of p) vs taken) (sym are)
    (subst (λ (ts : List Through). ListsAll (ways_of p) views ts) (sym same) (subst (λ (l : List Led). ListsAll l views through) ways h))

pub plan_unrolled : (t : Tree) (through : List Through) (phased : Phased) (plan : PlainPlan) (meets : Meets) → IsToCompile (program_seen t) → MakesPhases t through phased → HasParts t through phased plan meets → IsUnrolled (program_seen t) plan
plan_unrolled t through phased plan meets asked m parts =
    subst (λ (u : Tree). IsToCompile (program_seen u) → HasParts u through phased plan meets → IsUnrolled (program_seen u) plan) m.of
    (λ a h.
    let lists : ListsAll (map led_seen m.scene.ways.now) plan.views m.scene.through.now =
    subst (λ (ts : List Through). ListsAll (map led_seen m.scene.ways.now) plan.views ts) (sym m.through_is)
    (subst (λ (ls : List Led). ListsAll ls plan.views through) (sym m.made.ways) h.lists) in
    let put : IsMadePlan m.scene phased plan = record {
      table = h.table;
      views = views_told m.scene plan.views lists;
      maps = subst (λ (vs : List ViewMap). AllByRecursion IsViewMap vs) (sym (all_views (ways_of (program_seen m.scene.program.now)) plan.views through h.lists)) (ready_maps (program_seen m.scene.program.now) a.ready);
      registers = h.registers;
      blocks = h.blocks;
      body = h.body;
      faults = h.faults;
      tree = meets;
      meets = h.meets_are;
      met = h.met;
    } in
    record {
      is_plan = plan_of m.scene m.count phased plan a m.made m.phased_is put;
      views = all_views (ways_of (program_seen m.scene.program.now)) plan.views through h.lists ∙ views_own (program_seen m.scene.program.now);
      registers = sized m.scene m.count phased plan a m.made m.phased_is put;
    }) asked parts

-- `t` and `s` are one program as the code holds it
pub unrolled_same : (s t : Typed) (plan : PlainPlan) → s ≡ t → IsUnrolled (program_seen s) plan → IsUnrolled (program_seen t) plan
unrolled_same s t plan same h = subst (λ (x : Typed). IsUnrolled (program_seen x) plan) same h
