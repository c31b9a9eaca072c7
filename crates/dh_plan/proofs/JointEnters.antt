-- Program and plan go on together: into phases, to the next turn, and behind a test; by recursion on the joint, and
-- on phases with their nodes. A loop begins with its counter at 0, since no operation sets it and each loop leaves
-- its own at 0.
use Rattle.std.proofs.Common.{◌≡◌, ℕ, suc, ◌+◌, ◌-◌, ◌<◌, inl, inr, Some, None, List, length, refl, sym, ap, subst, ◌∙◌, arith}
use Rattle.std.specs.Prelude.{[], ◌∷◌, ◌++◌, ◌==◌, ◌%◌, ◌^◌, nat_lt, not, Bool, true, false, if◌then◌else◌, slice_index, slice_set, Option, ℤ}
use Rattle.std.proofs.Math.Nat.{mod-lt, mod-eq_of_lt}
use Rattle.std.proofs.lemmas.Bool.Decides.{nat_tests}
use Rattle.std.proofs.lemmas.Bool.{cases_eq, cases_lt}
use Rattle.std.proofs.lemmas.List.{get_or-set_same, get_or-set_other, length-set, get_or_past}
use Rattle.std.proofs.lemmas.Nat.{pow_pos}
use Rattle.dh_value.specs.declared.kinds.Kind.{Kind}
use Rattle.dh_value.specs.Words.{width_of, with_bits, word_of}
use Rattle.dh_meaning.specs.Core.{CoreTerm, Turning, CorePhase, straightly, turning, looping, choosing, CorePhases, no_core_phases, phase_and}
use Rattle.dh_meaning.specs.Effects.{Begun, Variables}
use Rattle.dh_meaning.specs.Paths.{Path}
use Rattle.dh_meaning.specs.Runs as source
use Rattle.dh_meaning.specs.Runs.{inner_paths, iterator_value, turn_begun, begins, goes_on}
use Rattle.dh_plan.specs.PlainPlans.{Node, block_node, turns_node, loop_node, choice_node, threads_node, Nodes, no_nodes, node_then, PlainPlan}
use Rattle.dh_plan.specs.Blocks.{kind_at}
use Rattle.dh_plan.specs.Correspondence.{Slots, FitKinds, Holding, Round}
use Rattle.dh_plan.specs.PlanPhases.{IsCounterOf, IsIteratorOf, IsLoopRegister, IsNodeOf, Tie, both_ties, does_phases}
use Rattle.dh_plan.specs.PlanRuns.{turn_then, test_then, pick_then, ended, PlanNext, plan_next, plan_enter, enter_node, plan_next_of, flag_holds, counted_up}
use Rattle.dh_plan.specs.SoundPlans.{CountsTurns, KeepsCounter, IsNeverSet, countings, node_countings}
use Rattle.dh_plan.proofs.ValuesAlike.{all_left, all_right}
use Rattle.dh_plan.proofs.SourceMoves.{begun_other, begun_here}
use Rattle.dh_plan.proofs.JointPlaces.{Joint, j_over, j_phases, j_turn, j_again, round, around, paths_at, source_todo, plan_todo, s_ended, s_block, s_loop, s_pick, GoodCounters, counting, NodesRun, TestRuns, Valid, Live, Met, counter_before, counter_last, counter_split, turned_moves}

-- both take the same arm
pub met_if : (plan : PlainPlan) (slots : Slots) (extra : Tie) (t u : Bool) → u ≡ t → (a b : source.RunNext) (c d : PlanNext) → (t ≡ true → Met plan slots extra a c) → (t ≡ false → Met plan slots extra b d)
    → Met plan slots extra (if t then a else b) (if u then c else d)
met_if plan slots extra true u e a b c d f g = subst (λ (v : Bool). Met plan slots extra a (if v then c else d)) (sym e) (f refl)
met_if plan slots extra false u e a b c d f g = subst (λ (v : Bool). Met plan slots extra b (if v then c else d)) (sym e) (g refl)

-- the one takes its first arm where the other takes its second
pub met_unless : (plan : PlainPlan) (slots : Slots) (extra : Tie) (t u : Bool) → u ≡ not t → (a b : source.RunNext) (c d : PlanNext) → (t ≡ true → Met plan slots extra a d) → (t ≡ false → Met plan slots extra b c)
    → Met plan slots extra (if t then a else b) (if u then c else d)
met_unless plan slots extra true u e a b c d f g = subst (λ (v : Bool). Met plan slots extra a (if v then c else d)) (sym e) (f refl)
met_unless plan slots extra false u e a b c d f g = subst (λ (v : Bool). Met plan slots extra b (if v then c else d)) (sym e) (g refl)

pub met_end : (plan : PlainPlan) (slots : Slots) (extra : Tie) (variables : Variables) (registers : List ℕ) → Met plan slots extra (source.next source.ended variables) (plan_next ended registers)
met_end plan slots extra variables registers = record { stand = s_ended; valid = tt; source_is = refl; plan_is = refl; live = tt }

-- Registers.

-- a register behind a set of its own is small where the value is; one that is not there is 0
pub set_small : (registers : List ℕ) (c v bound : ℕ) → v < bound → slice_index (slice_set registers c v) c < bound
set_small registers c v bound small =
    elim (cases_lt c (length registers)) [
      | inl within ↦ subst (λ (x : ℕ). x < bound) (sym (get_or-set_same registers c v 0 within)) small
      | inr past ↦ subst (λ (x : ℕ). x < bound) (sym (get_or_past (slice_set registers c v) c 0 (let l = length-set registers c v in omega (arith, past, l)))) (omega (arith, small))
    ]

-- a register set to a value of its kind
pub set_fits : (kinds : List Kind) (registers : List ℕ) (c v : ℕ) → FitKinds kinds registers → v < 2 ^ width_of (kind_at kinds c) → FitKinds kinds (slice_set registers c v)
set_fits kinds registers c v fit small =
    record {
      long = length-set registers c v ∙ fit.long;
      small = λ r. elim (cases_eq r c) [
        | inl same ↦ subst (λ (x : ℕ). slice_index (slice_set registers c v) x < 2 ^ width_of (kind_at kinds x)) (sym same) (set_small registers c v _ small)
        | inr other ↦ subst (λ (x : ℕ). x < 2 ^ width_of (kind_at kinds r)) (sym (get_or-set_other registers c r v 0 other)) (fit.small r)
      ];
    }

-- the variables' registers are not touched
pub set_holds : (kinds : List Kind) (slots : Slots) (registers : List ℕ) (variables : Variables) (c v : ℕ) → ((entity : ℕ) (path : Path) → slots entity path ≡ Some c → ⊥)
    → Holding kinds slots registers variables → Holding kinds slots (slice_set registers c v) variables
set_holds kinds slots registers variables c v apart holding entity path r slot =
    ap (λ (b : ℕ). with_bits (kind_at kinds r) b) (get_or-set_other registers c r v 0 (λ same. apart entity path (subst (λ (x : ℕ). slots entity path ≡ Some x) same slot)))
    ∙ holding entity path r slot

pub some_not_none : (o : Option ℕ) (r : ℕ) → o ≡ Some r → o ≡ None → ⊥
some_not_none o r e f = (let g : Some r ≡ None = sym e ∙ f in cc)

-- the variables with registers stay as a turn begins
pub begun_holds : (kinds : List Kind) (slots : Slots) (registers : List ℕ) (loop : Turning) (turn : ℕ) (paths : List Path) (variables : Variables)
    → ((path : Path) → slots loop.iterator path ≡ None) → Holding kinds slots registers variables → Holding kinds slots registers (turn_begun loop turn paths variables)
begun_holds kinds slots registers loop turn paths variables free holding entity path r slot =
    holding entity path r slot
    ∙ ap (λ (z : ℤ). word_of (kind_at kinds r) z)
    (sym (begun_other loop turn paths variables entity path
    (λ same. some_not_none (slots entity path) r slot (subst (λ (e : ℕ). slots e path ≡ None) (sym same) (free path)))))

-- Turns.

-- other iterators stay as a turn begins
pub others_stay : (loop : Turning) (turn : ℕ) (paths : List Path) (variables : Variables) (rounds : List Round) → (IsIteratorOf rounds loop.iterator → ⊥)
    → (e : ℕ) → IsIteratorOf rounds e → (p : Path) → turn_begun loop turn paths variables e p ≡ variables e p
others_stay loop turn paths variables rounds apart e i p = begun_other loop turn paths variables e p (λ same. apart (subst (λ (x : ℕ). IsIteratorOf rounds x) same i))

-- other counters stay as one is set
pub counters_stay : (registers : List ℕ) (c v : ℕ) (rounds : List Round) → (IsCounterOf rounds c → ⊥)
    → (d : ℕ) → IsCounterOf rounds d → slice_index (slice_set registers c v) d ≡ slice_index registers d
counters_stay registers c v rounds apart d i = get_or-set_other registers c d v 0 (λ same. apart (subst (λ (x : ℕ). IsCounterOf rounds x) same i))

-- a loop begins
pub begin_live : (plan : PlainPlan) (slots : Slots) (extra : Tie) (k : Joint) (loop : Turning) (counter : ℕ) (ps : CorePhases) (ns : Nodes) (registers : List ℕ) (variables : Variables)
    → IsLoopRegister slots (around k) loop counter → IsNeverSet plan counter → 0 < loop.count → Live plan slots extra k registers variables
    → Live plan slots extra (j_turn loop counter 0 ps ns k) registers (begins loop (paths_at k) variables)
begin_live plan slots extra k loop counter ps ns registers variables own kept some l =
    let vs = turn_begun loop 0 (inner_paths (paths_at k) loop) variables in (
      (l.0.0, begun_holds plan.registers slots registers loop 0 (inner_paths (paths_at k) loop) variables own.iterator l.0.1),
      (
        (
          turned_moves k registers registers variables vs (λ c i. refl) (others_stay loop 0 (inner_paths (paths_at k) loop) variables (around k) own.own_iterator) l.1.0,
          record {
            counts = l.1.1 counter kept own.own_counter;
            below = some;
            values = λ i p there. begun_here loop 0 (inner_paths (paths_at k) loop) variables i p there;
          },
        ),
        λ c never apart. l.1.1 c never (λ i. apart (counter_before (around k) (round loop counter) c i)),
      ),
    )

-- the counter after one turn more
pub counted_here : (plan : PlainPlan) (registers : List ℕ) (counter turns turn : ℕ) → CountsTurns plan (counting counter turns) → FitKinds plan.registers registers
    → slice_index registers counter ≡ turn → suc turn < turns → slice_index (counted_up plan.registers counter registers) counter ≡ suc turn
counted_here plan registers counter turns turn counts fit here more =
    let w = counts.1.0 in
    let wide = counts.1.1.1 in
    let value : (slice_index registers counter + 1) % 2 ^ w ≡ suc turn =
    ap (λ (x : ℕ). (x + 1) % 2 ^ w) here ∙ (mod-eq_of_lt (omega (arith, more, wide)) ∙ omega arith) in
    get_or-set_same registers counter _ 0 (let long = fit.long in let there = counts.0 in omega (arith, long, there))
    ∙ subst (λ (k : Kind). (slice_index registers counter + 1) % 2 ^ width_of k ≡ suc turn) (sym counts.1.1.0) value

pub counted_small : (kinds : List Kind) (counter x : ℕ) → (x + 1) % 2 ^ width_of (kind_at kinds counter) < 2 ^ width_of (kind_at kinds counter)
counted_small kinds counter x = mod-lt (x + 1) (pow_pos (width_of (kind_at kinds counter)))

-- the next turn begins
pub again_live : (plan : PlainPlan) (slots : Slots) (extra : Tie) (k : Joint) (loop : Turning) (counter turn : ℕ) (ps : CorePhases) (ns : Nodes) (registers : List ℕ) (variables : Variables)
    → IsLoopRegister slots (around k) loop counter → CountsTurns plan (counting counter loop.count) → suc turn < loop.count
    → Live plan slots extra (j_turn loop counter turn ps ns k) registers variables
    → Live plan slots extra (j_turn loop counter (suc turn) ps ns k) (counted_up plan.registers counter registers) (turn_begun loop (suc turn) (inner_paths (paths_at k) loop) variables)
again_live plan slots extra k loop counter turn ps ns registers variables own counts more l =
    let paths = inner_paths (paths_at k) loop in
    let vs = turn_begun loop (suc turn) paths variables in
    let rs = counted_up plan.registers counter registers in (
      (
        set_fits plan.registers registers counter _ l.0.0 (counted_small plan.registers counter (slice_index registers counter)),
        begun_holds plan.registers slots rs loop (suc turn) paths variables own.iterator (set_holds plan.registers slots registers variables counter _ own.counter_apart l.0.1),
      ),
      (
        (
          turned_moves k registers rs variables vs (counters_stay registers counter _ (around k) own.own_counter) (others_stay loop (suc turn) paths variables (around k) own.own_iterator) l.1.0.0,
          record {
            counts = counted_here plan registers counter loop.count turn counts l.0.0 l.1.0.1.counts more;
            below = more;
            values = λ i p there. begun_here loop (suc turn) paths variables i p there;
          },
        ),
        λ c never apart. get_or-set_other registers counter c _ 0 (λ same. apart (subst (λ (x : ℕ). IsCounterOf (around k ++ round loop counter ∷ []) x) (sym same) (counter_last (around k) (round loop counter)))) ∙ l.1.1 c never apart,
      ),
    )

-- a loop ends, and leaves its counter at 0
pub leave_live : (plan : PlainPlan) (slots : Slots) (extra : Tie) (k : Joint) (loop : Turning) (counter turn : ℕ) (ps : CorePhases) (ns : Nodes) (registers : List ℕ) (variables : Variables)
    → IsLoopRegister slots (around k) loop counter → CountsTurns plan (counting counter loop.count)
    → Live plan slots extra (j_turn loop counter turn ps ns k) registers variables → Live plan slots extra k (slice_set registers counter 0) variables
leave_live plan slots extra k loop counter turn ps ns registers variables own counts l = (
  (
    set_fits plan.registers registers counter 0 l.0.0 (pow_pos (width_of (kind_at plan.registers counter))),
    set_holds plan.registers slots registers variables counter 0 own.counter_apart l.0.1,
  ),
  (
    turned_moves k registers (slice_set registers counter 0) variables variables (counters_stay registers counter 0 (around k) own.own_counter) (λ e i p. refl) l.1.0.0,
    λ c never apart. elim (cases_eq c counter) [
      | inl same ↦ subst (λ (x : ℕ). slice_index (slice_set registers counter 0) x ≡ 0) (sym same)
          (get_or-set_same registers counter 0 0 (let long = l.0.0.long in let there = counts.0 in omega (arith, long, there)))
      | inr other ↦ get_or-set_other registers counter c 0 0 other
          ∙ l.1.1 c never (λ i. elim (counter_split (around k) (round loop counter) c i) [ inl a ↦ apart a | inr b ↦ other (sym b) ])
    ],
  ),
)

-- Into phases.

abbrev pub IntoNodes : PlainPlan → Slots → Tie → CorePhases → Nodes → Type 0
IntoNodes plan slots extra ps ns =
    (k : Joint) (behind : source.RunNext) (beyond : PlanNext) (registers : List ℕ) (variables : Variables)
    → NodesRun plan slots extra (around k) ps ns → Valid plan slots extra k → Met plan slots extra behind beyond → Live plan slots extra k registers variables
    → Met plan slots extra (source.enter (paths_at k) ps (source_todo k) behind variables) (plan_enter ns (plan_todo k) beyond registers)

abbrev pub IntoNode : PlainPlan → Slots → Tie → CorePhase → Node → Type 0
IntoNode plan slots extra p n =
    (k : Joint) (ps : CorePhases) (ns : Nodes) (behind : source.RunNext) (beyond : PlanNext) (registers : List ℕ) (variables : Variables)
    → IsNodeOf (both_ties (does_phases plan slots) extra) (around k) p n → GoodCounters plan (node_countings n) → NodesRun plan slots extra (around k) ps ns → Valid plan slots extra k
    → Met plan slots extra behind beyond → Live plan slots extra k registers variables
    → Met plan slots extra (source.enter_phase (paths_at k) p (source_todo (j_phases ps ns k)) behind variables) (enter_node n (plan_todo (j_phases ps ns k)) beyond registers)

pub some_turns : (n : ℕ) → (n == 0) ≡ false → 0 < n
some_turns n h = grind (arith, nat_tests)

-- a loop with its node
pub into_turns : (plan : PlainPlan) (slots : Slots) (extra : Tie) (loop : Turning) (body : CorePhases) (counter turns : ℕ) (ms : Nodes) → IntoNodes plan slots extra body ms
    → IntoNode plan slots extra (turning loop body) (turns_node counter turns ms)
into_turns plan slots extra loop body counter turns ms inside k ps ns behind beyond registers variables h good runs valid met live =
    let kj = j_phases ps ns k in
    let counts = subst (λ (t : ℕ). CountsTurns plan (counting counter t)) h.0 good.0.0 in
    let vs = begins loop (paths_at k) variables in
    subst (λ (t : ℕ). Met plan slots extra (if loop.count == 0 then behind else source.enter (inner_paths (paths_at k) loop) body (source.turn_then (paths_at k) loop 0 body (source_todo kj)) behind vs)
    (if t == 0 then beyond else plan_enter ms (turn_then counter t ms (plan_todo kj)) beyond registers)) (sym h.0)
    (met_if plan slots extra (loop.count == 0) (loop.count == 0) refl _ _ _ _ (λ none. met)
    (λ some. inside (j_turn loop counter 0 body ms kj) behind beyond registers vs (h.1.1, (good.0.1, good.1.1)) ((h.1.0, (counts, good.1.0)), ((h.1.1, (good.0.1, good.1.1)), (runs, valid))) met
    (begin_live plan slots extra kj loop counter body ms registers variables h.1.0.0 good.1.0 (some_turns loop.count some) live)))

mutual
  pub into_nodes : (plan : PlainPlan) (slots : Slots) (extra : Tie) (ps : CorePhases) (ns : Nodes) → IntoNodes plan slots extra ps ns
  into_nodes plan slots extra no_core_phases no_nodes k behind beyond registers variables h valid met live = met
  into_nodes plan slots extra no_core_phases (node_then n ns) k behind beyond registers variables h valid met live = absurd h.0
  into_nodes plan slots extra (phase_and p ps) no_nodes k behind beyond registers variables h valid met live = absurd h.0
  into_nodes plan slots extra (phase_and p ps) (node_then n ns) k behind beyond registers variables h valid met live =
      let good : GoodCounters plan (node_countings n) = (all_left (CountsTurns plan) (node_countings n) (countings ns) h.1.0, all_left (KeepsCounter plan) (node_countings n) (countings ns) h.1.1) in
      let rest : GoodCounters plan (countings ns) = (all_right (CountsTurns plan) (node_countings n) (countings ns) h.1.0, all_right (KeepsCounter plan) (node_countings n) (countings ns) h.1.1) in
      into_node plan slots extra p n k ps ns _ _ registers variables h.0.0 good (h.0.1, rest) valid (into_nodes plan slots extra ps ns k behind beyond registers variables (h.0.1, rest) valid met live) live

  pub into_node : (plan : PlainPlan) (slots : Slots) (extra : Tie) (p : CorePhase) (n : Node) → IntoNode plan slots extra p n
  into_node plan slots extra (straightly cs) (block_node block) k ps ns behind beyond registers variables h good runs valid met live =
      record { stand = s_block cs block ps ns k; valid = (h, (runs, valid)); source_is = refl; plan_is = refl; live = live }
  into_node plan slots extra (straightly cs) (turns_node counter turns ms) k ps ns behind beyond registers variables h good runs valid met live = absurd h
  into_node plan slots extra (straightly cs) (loop_node test flag ms) k ps ns behind beyond registers variables h good runs valid met live = absurd h
  into_node plan slots extra (straightly cs) (choice_node test flag ms os) k ps ns behind beyond registers variables h good runs valid met live = absurd h
  into_node plan slots extra (straightly cs) (threads_node lists) k ps ns behind beyond registers variables h good runs valid met live = absurd h
  into_node plan slots extra (turning loop body) (turns_node counter turns ms) k ps ns behind beyond registers variables h good runs valid met live =
      into_turns plan slots extra loop body counter turns ms (into_nodes plan slots extra body ms) k ps ns behind beyond registers variables h good runs valid met live
  into_node plan slots extra (turning loop body) (block_node block) k ps ns behind beyond registers variables h good runs valid met live = absurd h
  into_node plan slots extra (turning loop body) (loop_node test flag ms) k ps ns behind beyond registers variables h good runs valid met live = absurd h
  into_node plan slots extra (turning loop body) (choice_node test flag ms os) k ps ns behind beyond registers variables h good runs valid met live = absurd h
  into_node plan slots extra (turning loop body) (threads_node lists) k ps ns behind beyond registers variables h good runs valid met live = absurd h
  into_node plan slots extra (looping test body) (loop_node block flag ms) k ps ns behind beyond registers variables h good runs valid met live =
      record { stand = s_loop test body block flag ms (j_phases ps ns k); valid = (h.0, ((h.1, good), (runs, valid))); source_is = refl; plan_is = refl; live = live }
  into_node plan slots extra (looping test body) (block_node block) k ps ns behind beyond registers variables h good runs valid met live = absurd h
  into_node plan slots extra (looping test body) (turns_node counter turns ms) k ps ns behind beyond registers variables h good runs valid met live = absurd h
  into_node plan slots extra (looping test body) (choice_node block flag ms os) k ps ns behind beyond registers variables h good runs valid met live = absurd h
  into_node plan slots extra (looping test body) (threads_node lists) k ps ns behind beyond registers variables h good runs valid met live = absurd h
  into_node plan slots extra (choosing test chosen other) (choice_node block flag ms os) k ps ns behind beyond registers variables h good runs valid met live =
      let first : GoodCounters plan (countings ms) = (all_left (CountsTurns plan) (countings ms) (countings os) good.0, all_left (KeepsCounter plan) (countings ms) (countings os) good.1) in
      let second : GoodCounters plan (countings os) = (all_right (CountsTurns plan) (countings ms) (countings os) good.0, all_right (KeepsCounter plan) (countings ms) (countings os) good.1) in
      record { stand = s_pick test chosen other block flag ms os (j_phases ps ns k); valid = (h.0, (((h.1.0, first), (h.1.1, second)), (runs, valid))); source_is = refl; plan_is = refl; live = live }
  into_node plan slots extra (choosing test chosen other) (block_node block) k ps ns behind beyond registers variables h good runs valid met live = absurd h
  into_node plan slots extra (choosing test chosen other) (turns_node counter turns ms) k ps ns behind beyond registers variables h good runs valid met live = absurd h
  into_node plan slots extra (choosing test chosen other) (loop_node block flag ms) k ps ns behind beyond registers variables h good runs valid met live = absurd h
  into_node plan slots extra (choosing test chosen other) (threads_node lists) k ps ns behind beyond registers variables h good runs valid met live = absurd h

-- Behind a block.

pub last_turn : (x turn turns : ℕ) → x ≡ turn → turn < turns → (x == turns - 1) ≡ not (nat_lt (suc turn) turns)
last_turn x turn turns e h = grind (arith, nat_tests)

pub more_turns : (turn turns : ℕ) → nat_lt (suc turn) turns ≡ true → suc turn < turns
more_turns turn turns h = grind (arith, nat_tests)

pub behind_met : (plan : PlainPlan) (slots : Slots) (extra : Tie) (b : Begun) (k : Joint) (registers : List ℕ) (variables : Variables) → Valid plan slots extra k → Live plan slots extra k registers variables
    → Met plan slots extra (source.next_of b (source_todo k) variables) (plan_next_of plan.registers (plan_todo k) registers)
behind_met plan slots extra b j_over registers variables valid live = met_end plan slots extra variables registers
behind_met plan slots extra b (j_phases ps ns k) registers variables valid live =
    into_nodes plan slots extra ps ns k _ _ registers variables valid.0 valid.1 (behind_met plan slots extra b k registers variables valid.1 live) live
behind_met plan slots extra b (j_turn loop counter turn ps ns k) registers variables valid live =
    let vs = turn_begun loop (suc turn) (inner_paths (paths_at k) loop) variables in
    let rs = counted_up plan.registers counter registers in
    met_unless plan slots extra (nat_lt (suc turn) loop.count) (slice_index registers counter == loop.count - 1) (last_turn _ turn loop.count live.1.0.1.counts live.1.0.1.below) _ _ _ _
    (λ more. into_nodes plan slots extra ps ns (j_turn loop counter (suc turn) ps ns k) (source.next source.ended variables) (plan_next ended rs) rs vs valid.1.0 valid (met_end plan slots extra variables rs)
    (again_live plan slots extra k loop counter turn ps ns registers variables valid.0.0.0 valid.0.1.0 (more_turns turn loop.count more) live))
    (λ last. behind_met plan slots extra b k (slice_set registers counter 0) variables valid.1.1 (leave_live plan slots extra k loop counter turn ps ns registers variables valid.0.0.0 valid.0.1.0 live))
behind_met plan slots extra b (j_again test ps block flag ns k) registers variables valid live =
    record { stand = s_loop test ps block flag ns k; valid = valid; source_is = refl; plan_is = refl; live = live }

-- behind the test of a loop whose flag tells it
pub loop_met : (plan : PlainPlan) (slots : Slots) (extra : Tie) (b : Begun) (test : CoreTerm) (ps : CorePhases) (block flag : ℕ) (ns : Nodes) (k : Joint) (registers : List ℕ) (variables : Variables)
    → TestRuns plan slots extra (around k) test flag block → NodesRun plan slots extra (around k) ps ns → Valid plan slots extra k → Live plan slots extra k registers variables
    → flag_holds registers flag ≡ goes_on b variables (paths_at k) test
    → Met plan slots extra (source.next_of b (source.test_then (paths_at k) test ps (source_todo k)) variables) (plan_next_of plan.registers (test_then block flag ns (plan_todo k)) registers)
loop_met plan slots extra b test ps block flag ns k registers variables runs nodes valid live tells =
    met_if plan slots extra (goes_on b variables (paths_at k) test) (flag_holds registers flag) tells _ _ _ _
    (λ holds. into_nodes plan slots extra ps ns (j_again test ps block flag ns k) _ _ registers variables nodes (runs, (nodes, valid))
    (record { stand = s_loop test ps block flag ns k; valid = (runs, (nodes, valid)); source_is = refl; plan_is = refl; live = live }) live)
    (λ fails. behind_met plan slots extra b k registers variables valid live)

-- and behind that of two arms
pub pick_met : (plan : PlainPlan) (slots : Slots) (extra : Tie) (b : Begun) (test : CoreTerm) (chosen other : CorePhases) (flag : ℕ) (ns ms : Nodes) (k : Joint) (registers : List ℕ) (variables : Variables)
    → NodesRun plan slots extra (around k) chosen ns → NodesRun plan slots extra (around k) other ms → Valid plan slots extra k → Live plan slots extra k registers variables
    → flag_holds registers flag ≡ goes_on b variables (paths_at k) test
    → Met plan slots extra (source.next_of b (source.pick_then (paths_at k) test chosen other (source_todo k)) variables) (plan_next_of plan.registers (pick_then flag ns ms (plan_todo k)) registers)
pick_met plan slots extra b test chosen other flag ns ms k registers variables first second valid live tells =
    met_if plan slots extra (goes_on b variables (paths_at k) test) (flag_holds registers flag) tells _ _ _ _
    (λ holds. into_nodes plan slots extra chosen ns k _ _ registers variables first valid (behind_met plan slots extra b k registers variables valid live) live)
    (λ fails. into_nodes plan slots extra other ms k _ _ registers variables second valid (behind_met plan slots extra b k registers variables valid live) live)
