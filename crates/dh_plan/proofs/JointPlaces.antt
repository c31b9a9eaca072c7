-- Where a run of the program and one of its plan stand together. A joint is what is still to come of both, loop by
-- loop and phase by phase; the program's part and the plan's are read off it, so that the two need never be
-- compared. A stand is a joint place. What a joint keeps of registers and variables is `Live`.
use Rattle.std.proofs.Common.{◌≡◌, ℕ, ◌<◌, ◌⊎◌, inl, inr, Some, None, List, refl, sym, ap, subst, ◌∙◌}
use Rattle.std.specs.Prelude.{[], ◌∷◌, ◌++◌, slice_get, slice_index, pos}
use Rattle.std.specs.List.{AllByRecursion}
use Rattle.dh_meaning.specs.Core.{CoreTerm, CoreCommands, Turning, CorePhases}
use Rattle.dh_meaning.specs.Effects.{Variables, commands, tests}
use Rattle.dh_meaning.specs.Paths.{Path, outer_paths}
use Rattle.dh_meaning.specs.Runs as source
use Rattle.dh_meaning.specs.Runs.{inner_paths, iterator_value}
use Rattle.dh_plan.specs.PlainPlans.{Nodes, PlainPlan}
use Rattle.dh_plan.specs.Correspondence.{Slots, FitKinds, Holding, Round, paths_within, paths_of_rounds, IsCounted, AreCounted, StandFor}
use Rattle.dh_plan.specs.PlanPhases.{DoesBlock, SetsFlag, Touches, IsCounterOf, IsIteratorOf, IsLoopRegister, Tie, both_ties, AreNodesOf, does_phases}
use Rattle.dh_plan.specs.PlanRuns.{PlanTodo, over, nodes_then, turn_then, test_then, again_then, pick_then, PlanPlace, ended, at, PlanNext}
use Rattle.dh_plan.specs.SoundPlans.{CountsTurns, KeepsCounter, IsNeverSet, Counting, countings}

-- what is still to come of both
pub data Joint : Type 0 where
  j_over : Joint
  j_phases : CorePhases → Nodes → Joint → Joint
  j_turn : (loop : Turning) → (counter turn : ℕ) → CorePhases → Nodes → Joint → Joint
  j_again : (test : CoreTerm) → CorePhases → (block flag : ℕ) → Nodes → Joint → Joint

abbrev pub round : (loop : Turning) → (counter : ℕ) → Round
round loop counter = record { loop = loop; counter = counter }

-- the loops round it
abbrev pub around : Joint → List Round
around j_over = []
around (j_phases ps ns k) = around k
around (j_turn loop counter turn ps ns k) = around k ++ round loop counter ∷ []
around (j_again test ps block flag ns k) = around k

-- the paths inside these loops
abbrev pub paths_at : Joint → List Path
paths_at j_over = outer_paths
paths_at (j_phases ps ns k) = paths_at k
paths_at (j_turn loop counter turn ps ns k) = inner_paths (paths_at k) loop
paths_at (j_again test ps block flag ns k) = paths_at k

abbrev pub source_todo : Joint → source.RunTodo
source_todo j_over = source.over
source_todo (j_phases ps ns k) = source.phases_then (paths_at k) ps (source_todo k)
source_todo (j_turn loop counter turn ps ns k) = source.turn_then (paths_at k) loop turn ps (source_todo k)
source_todo (j_again test ps block flag ns k) = source.again_then (paths_at k) test ps (source_todo k)

abbrev pub plan_todo : Joint → PlanTodo
plan_todo j_over = over
plan_todo (j_phases ps ns k) = nodes_then ns (plan_todo k)
plan_todo (j_turn loop counter turn ps ns k) = turn_then counter loop.count ns (plan_todo k)
plan_todo (j_again test ps block flag ns k) = again_then block flag ns (plan_todo k)

-- where both stand
pub data Stand : Type 0 where
  s_ended : Stand
  s_block : CoreCommands → (block : ℕ) → CorePhases → Nodes → Joint → Stand
  s_loop : (test : CoreTerm) → CorePhases → (block flag : ℕ) → Nodes → Joint → Stand
  s_pick : (test : CoreTerm) → (chosen other : CorePhases) → (block flag : ℕ) → (ns ms : Nodes) → Joint → Stand

abbrev pub source_place : Stand → source.RunPlace
source_place s_ended = source.ended
source_place (s_block cs block ps ns k) = source.at (paths_at k) (commands cs) (source.phases_then (paths_at k) ps (source_todo k))
source_place (s_loop test ps block flag ns k) = source.at (paths_at k) (tests test) (source.test_then (paths_at k) test ps (source_todo k))
source_place (s_pick test chosen other block flag ns ms k) = source.at (paths_at k) (tests test) (source.pick_then (paths_at k) test chosen other (source_todo k))

abbrev pub plan_place : Stand → PlanPlace
plan_place s_ended = ended
plan_place (s_block cs block ps ns k) = at block (nodes_then ns (plan_todo k))
plan_place (s_loop test ps block flag ns k) = at block (test_then block flag ns (plan_todo k))
plan_place (s_pick test chosen other block flag ns ms k) = at block (pick_then flag ns ms (plan_todo k))

-- a counter that counts so many turns, and that no operation sets
abbrev pub GoodCounters : PlainPlan → List Counting → Type 0
GoodCounters plan cs = AllByRecursion (CountsTurns plan) cs × AllByRecursion (KeepsCounter plan) cs

abbrev pub counting : (counter turns : ℕ) → Counting
counting counter turns = record { counter = counter; turns = turns }

-- the nodes do the phases
abbrev pub NodesRun : PlainPlan → Slots → Tie → List Round → CorePhases → Nodes → Type 0
NodesRun plan slots extra rounds ps ns = AreNodesOf (both_ties (does_phases plan slots) extra) rounds ps ns × GoodCounters plan (countings ns)

abbrev pub TestRuns : PlainPlan → Slots → Tie → List Round → CoreTerm → (flag block : ℕ) → Type 0
TestRuns plan slots extra rounds test flag block =
    (DoesBlock plan slots rounds (tests test) block × (SetsFlag plan slots rounds test flag block × Touches plan slots rounds (tests test) (Some flag) block)) × extra.of_test rounds test flag block

abbrev pub BlockRuns : PlainPlan → Slots → Tie → List Round → CoreCommands → (block : ℕ) → Type 0
BlockRuns plan slots extra rounds cs block = (DoesBlock plan slots rounds (commands cs) block × Touches plan slots rounds (commands cs) None block) × extra.of_block rounds cs block

-- all of a joint does what it stands for
abbrev pub Valid : PlainPlan → Slots → Tie → Joint → Type 0
Valid plan slots extra j_over = Unit {0}
Valid plan slots extra (j_phases ps ns k) = NodesRun plan slots extra (around k) ps ns × Valid plan slots extra k
Valid plan slots extra (j_turn loop counter turn ps ns k) =
    ((IsLoopRegister slots (around k) loop counter × extra.of_loop (around k) loop counter) × (CountsTurns plan (counting counter loop.count) × IsNeverSet plan counter))
    × (NodesRun plan slots extra (around k ++ round loop counter ∷ []) ps ns × Valid plan slots extra k)
Valid plan slots extra (j_again test ps block flag ns k) =
    TestRuns plan slots extra (around k) test flag block × (NodesRun plan slots extra (around k) ps ns × Valid plan slots extra k)

abbrev pub ValidStand : PlainPlan → Slots → Tie → Stand → Type 0
ValidStand plan slots extra s_ended = Unit {0}
ValidStand plan slots extra (s_block cs block ps ns k) = BlockRuns plan slots extra (around k) cs block × (NodesRun plan slots extra (around k) ps ns × Valid plan slots extra k)
ValidStand plan slots extra (s_loop test ps block flag ns k) = TestRuns plan slots extra (around k) test flag block × (NodesRun plan slots extra (around k) ps ns × Valid plan slots extra k)
ValidStand plan slots extra (s_pick test chosen other block flag ns ms k) =
    TestRuns plan slots extra (around k) test flag block × ((NodesRun plan slots extra (around k) chosen ns × NodesRun plan slots extra (around k) other ms) × Valid plan slots extra k)

-- a loop is in this turn, and its iterator has the turn's value at these paths
pub record InTurn (paths : List Path) (loop : Turning) (counter turn : ℕ) (registers : List ℕ) (variables : Variables) : Type 0 where
  pub counts : slice_index registers counter ≡ turn
  pub below : turn < loop.count
  pub values : (i : ℕ) (path : Path) → slice_get paths i ≡ Some path → variables loop.iterator path ≡ pos (iterator_value loop turn path)

-- so of each loop round a joint
abbrev pub Turned : Joint → (registers : List ℕ) → Variables → Type 0
Turned j_over registers variables = Unit {0}
Turned (j_phases ps ns k) registers variables = Turned k registers variables
Turned (j_turn loop counter turn ps ns k) registers variables = Turned k registers variables × InTurn (inner_paths (paths_at k) loop) loop counter turn registers variables
Turned (j_again test ps block flag ns k) registers variables = Turned k registers variables

-- registers that no operation sets, and that count none of these loops, are 0
abbrev pub Idle : PlainPlan → List Round → (registers : List ℕ) → Type 0
Idle plan rounds registers = (c : ℕ) → IsNeverSet plan c → (IsCounterOf rounds c → ⊥) → slice_index registers c ≡ 0

abbrev pub Live : PlainPlan → Slots → Tie → Joint → (registers : List ℕ) → Variables → Type 0
Live plan slots extra k registers variables =
    (FitKinds plan.registers registers × Holding plan.registers slots registers variables) × (Turned k registers variables × Idle plan (around k) registers)

abbrev pub LiveStand : PlainPlan → Slots → Tie → Stand → (registers : List ℕ) → Variables → Type 0
LiveStand plan slots extra s_ended registers variables = Unit {0}
LiveStand plan slots extra (s_block cs block ps ns k) registers variables = Live plan slots extra k registers variables
LiveStand plan slots extra (s_loop test ps block flag ns k) registers variables = Live plan slots extra k registers variables
LiveStand plan slots extra (s_pick test chosen other block flag ns ms k) registers variables = Live plan slots extra k registers variables

-- both go on to one stand
pub record Met (plan : PlainPlan) (slots : Slots) (extra : Tie) (n : source.RunNext) (m : PlanNext) : Type 0 where
  pub stand : Stand
  pub valid : ValidStand plan slots extra stand
  pub source_is : n.place ≡ source_place stand
  pub plan_is : m.place ≡ plan_place stand
  pub live : LiveStand plan slots extra stand m.registers n.variables

-- Loops round a joint.

pub counter_before : (rs : List Round) (r : Round) (c : ℕ) → IsCounterOf rs c → IsCounterOf (rs ++ r ∷ []) c
counter_before [] r c h = absurd h
counter_before (q ∷ rs) r c (inl h) = inl h
counter_before (q ∷ rs) r c (inr h) = inr (counter_before rs r c h)

pub counter_last : (rs : List Round) (r : Round) → IsCounterOf (rs ++ r ∷ []) r.counter
counter_last [] r = inl refl
counter_last (q ∷ rs) r = inr (counter_last rs r)

pub counter_split : (rs : List Round) (r : Round) (c : ℕ) → IsCounterOf (rs ++ r ∷ []) c → IsCounterOf rs c ⊎ (r.counter ≡ c)
counter_split [] r c (inl h) = inr h
counter_split [] r c (inr h) = absurd h
counter_split (q ∷ rs) r c (inl h) = inl (inl h)
counter_split (q ∷ rs) r c (inr h) = elim (counter_split rs r c h) [ inl a ↦ inl (inr a) | inr b ↦ inr b ]

pub iterator_before : (rs : List Round) (r : Round) (e : ℕ) → IsIteratorOf rs e → IsIteratorOf (rs ++ r ∷ []) e
iterator_before [] r e h = absurd h
iterator_before (q ∷ rs) r e (inl h) = inl h
iterator_before (q ∷ rs) r e (inr h) = inr (iterator_before rs r e h)

pub iterator_last : (rs : List Round) (r : Round) → IsIteratorOf (rs ++ r ∷ []) r.loop.iterator
iterator_last [] r = inl refl
iterator_last (q ∷ rs) r = inr (iterator_last rs r)

-- loops stay in their turns where their counters and iterators stay
pub turned_moves : (k : Joint) (registers registers' : List ℕ) (variables variables' : Variables)
    → ((c : ℕ) → IsCounterOf (around k) c → slice_index registers' c ≡ slice_index registers c)
    → ((e : ℕ) → IsIteratorOf (around k) e → (p : Path) → variables' e p ≡ variables e p)
    → Turned k registers variables → Turned k registers' variables'
turned_moves j_over rs rs' vs vs' c v h = tt
turned_moves (j_phases ps ns k) rs rs' vs vs' c v h = turned_moves k rs rs' vs vs' c v h
turned_moves (j_turn loop counter turn ps ns k) rs rs' vs vs' c v h = (
  turned_moves k rs rs' vs vs' (λ d i. c d (counter_before (around k) (round loop counter) d i)) (λ e i p. v e (iterator_before (around k) (round loop counter) e i) p) h.0,
  record {
    counts = c counter (counter_last (around k) (round loop counter)) ∙ h.1.counts;
    below = h.1.below;
    values = λ i p there. v loop.iterator (iterator_last (around k) (round loop counter)) p ∙ h.1.values i p there;
  },
)
turned_moves (j_again test ps block flag ns k) rs rs' vs vs' c v h = turned_moves k rs rs' vs vs' c v h

-- The paths at a joint are those inside the loops round it.

pub within_last : (paths : List Path) (rs : List Round) (r : Round) → paths_within paths (rs ++ r ∷ []) ≡ inner_paths (paths_within paths rs) r.loop
within_last paths [] r = refl
within_last paths (q ∷ rs) r = within_last (inner_paths paths q.loop) rs r

pub paths_are : (k : Joint) → paths_at k ≡ paths_of_rounds (around k)
paths_are j_over = refl
paths_are (j_phases ps ns k) = paths_are k
paths_are (j_turn loop counter turn ps ns k) =
    ap (λ (paths : List Path). inner_paths paths loop) (paths_are k) ∙ sym (within_last outer_paths (around k) (round loop counter))
paths_are (j_again test ps block flag ns k) = paths_are k

pub counted_last : (paths : List Path) (rs : List Round) (r : Round) (registers : List ℕ) (variables : Variables) → AreCounted paths rs registers variables
    → IsCounted (inner_paths (paths_within paths rs) r.loop) r registers variables → AreCounted paths (rs ++ r ∷ []) registers variables
counted_last paths [] r registers variables a h = (h, tt)
counted_last paths (q ∷ rs) r registers variables a h = (a.0, counted_last (inner_paths paths q.loop) rs r registers variables a.1 h)

pub turn_counted : (paths : List Path) (loop : Turning) (counter turn : ℕ) (registers : List ℕ) (variables : Variables) → InTurn paths loop counter turn registers variables
    → IsCounted paths (round loop counter) registers variables
turn_counted paths loop counter turn registers variables h =
    record {
      below = subst (λ (t : ℕ). t < loop.count) (sym h.counts) h.below;
      holds = λ i p there. subst (λ (t : ℕ). variables loop.iterator p ≡ pos (iterator_value loop t p)) (sym h.counts) (h.values i p there);
    }

pub all_counted : (k : Joint) (registers : List ℕ) (variables : Variables) → Turned k registers variables → AreCounted outer_paths (around k) registers variables
all_counted j_over registers variables h = tt
all_counted (j_phases ps ns k) registers variables h = all_counted k registers variables h
all_counted (j_turn loop counter turn ps ns k) registers variables h =
    counted_last outer_paths (around k) (round loop counter) registers variables (all_counted k registers variables h.0)
    (subst (λ (paths : List Path). IsCounted (inner_paths paths loop) (round loop counter) registers variables) (paths_are k)
    (turn_counted (inner_paths (paths_at k) loop) loop counter turn registers variables h.1))
all_counted (j_again test ps block flag ns k) registers variables h = all_counted k registers variables h

pub stand_for : (plan : PlainPlan) (slots : Slots) (extra : Tie) (k : Joint) (registers : List ℕ) (variables : Variables) → Live plan slots extra k registers variables
    → StandFor plan.registers slots (around k) registers variables
stand_for plan slots extra k registers variables l = record { fit = l.0.0; holding = l.0.1; counted = all_counted k registers variables l.1.0 }

-- no operation sets the counters of the loops round a joint
pub counters_kept : (plan : PlainPlan) (slots : Slots) (extra : Tie) (k : Joint) → Valid plan slots extra k → (c : ℕ) → IsCounterOf (around k) c → IsNeverSet plan c
counters_kept plan slots extra j_over h c i = absurd i
counters_kept plan slots extra (j_phases ps ns k) h c i = counters_kept plan slots extra k h.1 c i
counters_kept plan slots extra (j_turn loop counter turn ps ns k) h c i =
    elim (counter_split (around k) (round loop counter) c i) [
      | inl a ↦ counters_kept plan slots extra k h.1.1 c a
      | inr b ↦ subst (λ (d : ℕ). IsNeverSet plan d) b h.0.1.1
    ]
counters_kept plan slots extra (j_again test ps block flag ns k) h c i = counters_kept plan slots extra k h.1.1 c i
