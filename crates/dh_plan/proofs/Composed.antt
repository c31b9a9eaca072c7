-- The passes compose: a plan of a program, made over to rows of banks, with the least schedule of that, and a net
-- that plays it, make a net that plays the program.
use Rattle.std.proofs.Common.{◌≡◌, ℕ, ◌<◌, List, length, sym, ap, subst, ◌∙◌}
use Rattle.std.specs.Prelude.{[], ◌∷◌, ◌++◌, slice_index}
use Rattle.std.specs.List.{AllByRecursion}
use Rattle.dh_tree.specs.declared.tables.MemEntry.{MemEntry}
use Rattle.dh_tree.specs.PlainTrees.{Program}
use Rattle.dh_tree.specs.Tables.{Fits}
use Rattle.dh_meaning.specs.Core.{CorePhase, straightly, turning, looping, choosing, CorePhases, no_core_phases, phase_and}
use Rattle.dh_meaning.specs.CoreOf.{core_of}
use Rattle.dh_net.specs.declared.nets.Net.{Net}
use Rattle.dh_net.specs.Plays.{Run, Plays}
use Rattle.dh_plan.specs.Correspondence.{Round}
use Rattle.dh_plan.specs.DoneProgram.{RunTheSame, IsAddressingOf, has_lengths}
use Rattle.dh_plan.specs.LegalSchedules.{block_clocks}
use Rattle.dh_plan.specs.PassesCompose.{PassesCompose}
use Rattle.dh_plan.specs.PlainPlans.{Node, block_node, turns_node, loop_node, choice_node, threads_node, Nodes, no_nodes, node_then, PlainPlan}
use Rattle.dh_plan.specs.PlanKinds.{Names}
use Rattle.dh_plan.specs.PlanPhases.{AreNodesOf, IsNodeOf}
use Rattle.dh_plan.specs.PlanRuns.{PlanPlace, blocks_at}
use Rattle.dh_plan.specs.PlayedPlans.{longest, plan_run, times_phases, WritesLast, PlaysPlan}
use Rattle.dh_plan.specs.SoundPlans.{blocks_of, node_blocks}
use Rattle.dh_plan.proofs.LeastLengths.{has_least_lengths}
use Rattle.dh_plan.proofs.PlayedProgram.{same_run, plans_play_programs}
use Rattle.dh_plan.proofs.ValuesAlike.{all_left, all_right}

-- from memories that fit both plans have one run
pub one_run : (u q : PlainPlan) (lengths : List ℕ) (start : List (List ℕ)) → RunTheSame u q → Fits u.table start → plan_run q lengths start ≡ plan_run u lengths start
one_run u q lengths start same fits =
    same_run (plan_run q lengths start) (plan_run u lengths start) (λ n. same.outcome start n fits) (λ n. same.memories_same start n fits)
    (λ n. ap (λ (x : PlanPlace). longest lengths (blocks_at x)) (same.places start n fits))

-- so a net that plays the one plays the other
pub plays_before : (u q : PlainPlan) (lengths : List ℕ) (net : Net) → IsAddressingOf u q → PlaysPlan q lengths net → PlaysPlan u lengths net
plays_before u q lengths net a h =
    record {
      valid = h.valid;
      table = h.table ∙ a.table;
      faults = h.faults ∙ a.faults;
      plays = λ start fits. subst (λ (r : Run). Plays net r start) (one_run u q lengths start a.runs fits)
          (h.plays start (subst (λ (t : List MemEntry). Fits t start) (sym a.table) fits));
      writes = λ start fits. subst (λ (r : Run). WritesLast net r start) (one_run u q lengths start a.runs fits)
          (h.writes start (subst (λ (t : List MemEntry). Fits t start) (sym a.table) fits));
    }

-- lengths that are those of blocks are those of phases
mutual
  pub nodes_timed : (p : Program) (u q : PlainPlan) (lengths : List ℕ) → ((block : ℕ) → block < length q.blocks → slice_index lengths block ≡ block_clocks u block)
      → (rounds : List Round) (ps : CorePhases) (ns : Nodes) → AreNodesOf (has_lengths p u) rounds ps ns → AllByRecursion (λ (b : ℕ). Names q.blocks b) (blocks_of ns)
      → AreNodesOf (times_phases p lengths) rounds ps ns
  nodes_timed p u q lengths fits rounds no_core_phases no_nodes h within = tt
  nodes_timed p u q lengths fits rounds no_core_phases (node_then n ns) h within = h
  nodes_timed p u q lengths fits rounds (phase_and c ps) no_nodes h within = h
  nodes_timed p u q lengths fits rounds (phase_and c ps) (node_then n ns) h within = (
    node_timed p u q lengths fits rounds c n h.0 (all_left (λ (b : ℕ). Names q.blocks b) (node_blocks n) (blocks_of ns) within),
    nodes_timed p u q lengths fits rounds ps ns h.1 (all_right (λ (b : ℕ). Names q.blocks b) (node_blocks n) (blocks_of ns) within),
  )

  pub node_timed : (p : Program) (u q : PlainPlan) (lengths : List ℕ) → ((block : ℕ) → block < length q.blocks → slice_index lengths block ≡ block_clocks u block)
      → (rounds : List Round) (c : CorePhase) (n : Node) → IsNodeOf (has_lengths p u) rounds c n → AllByRecursion (λ (b : ℕ). Names q.blocks b) (node_blocks n)
      → IsNodeOf (times_phases p lengths) rounds c n
  node_timed p u q lengths fits rounds (straightly cs) (block_node block) h within = fits block within.0 ∙ h
  node_timed p u q lengths fits rounds (straightly cs) (turns_node counter turns ms) h within = h
  node_timed p u q lengths fits rounds (straightly cs) (loop_node block flag ms) h within = h
  node_timed p u q lengths fits rounds (straightly cs) (choice_node block flag ms os) h within = h
  node_timed p u q lengths fits rounds (straightly cs) (threads_node lists) h within = h
  node_timed p u q lengths fits rounds (turning loop body) (block_node block) h within = h
  node_timed p u q lengths fits rounds (turning loop body) (turns_node counter turns ms) h within = (h.0, (tt, nodes_timed p u q lengths fits (rounds ++ record { loop = loop; counter = counter } ∷ []) body ms h.1.1 within))
  node_timed p u q lengths fits rounds (turning loop body) (loop_node block flag ms) h within = h
  node_timed p u q lengths fits rounds (turning loop body) (choice_node block flag ms os) h within = h
  node_timed p u q lengths fits rounds (turning loop body) (threads_node lists) h within = h
  node_timed p u q lengths fits rounds (looping test body) (block_node block) h within = h
  node_timed p u q lengths fits rounds (looping test body) (turns_node counter turns ms) h within = h
  node_timed p u q lengths fits rounds (looping test body) (loop_node block flag ms) h within = (fits block within.0 ∙ h.0, nodes_timed p u q lengths fits rounds body ms h.1 within.1)
  node_timed p u q lengths fits rounds (looping test body) (choice_node block flag ms os) h within = h
  node_timed p u q lengths fits rounds (looping test body) (threads_node lists) h within = h
  node_timed p u q lengths fits rounds (choosing test chosen other) (block_node block) h within = h
  node_timed p u q lengths fits rounds (choosing test chosen other) (turns_node counter turns ms) h within = h
  node_timed p u q lengths fits rounds (choosing test chosen other) (loop_node block flag ms) h within = h
  node_timed p u q lengths fits rounds (choosing test chosen other) (choice_node block flag ms os) h within = (
    fits block within.0 ∙ h.0,
    (
      nodes_timed p u q lengths fits rounds chosen ms h.1.0 (all_left (λ (b : ℕ). Names q.blocks b) (blocks_of ms) (blocks_of os) within.1),
      nodes_timed p u q lengths fits rounds other os h.1.1 (all_right (λ (b : ℕ). Names q.blocks b) (blocks_of ms) (blocks_of os) within.1),
    ),
  )
  node_timed p u q lengths fits rounds (choosing test chosen other) (threads_node lists) h within = h

pub passes_compose : (p : Program) → PassesCompose p
passes_compose p u q t net never plan a schedule plays =
    let within = subst (λ (ns : Nodes). AllByRecursion (λ (b : ℕ). Names q.blocks b) (blocks_of ns)) a.body a.sound.formed.nodes in
    let times = nodes_timed p u q t.lengths (λ block inside. has_least_lengths q t schedule block inside ∙ a.lengths block) [] (core_of p).phases u.body plan.lengths within in
    plans_play_programs p u plan.slots t.lengths net plan.table plan.sound.formed.counters.wide plan.sound.formed.counters_kept plan.phases times never
    (plays_before u q t.lengths net a plays)
