-- What the next registers of a net of one thread are, by what its control shows: in a clock in which the step goes on, in
-- its last clock without a fault and with one, and once the run is over.
use Rattle.std.proofs.Common.{◌≡◌, ℕ, zero, suc, ◌+◌, ◌<◌, ◌≤◌, ◌%◌, ◌^◌, ◌==◌, ◌&&◌, ◌||◌, not, inl, inr, Bool, true, false, if◌then◌else◌, Some, None, List, [], ◌∷◌, ◌++◌, length, drop, refl, sym, ap, subst, ◌∙◌, arith}
use Rattle.std.specs.Prelude.{Option, is_none, max, nat_lt, option_map, slice_get, slice_index}
use Rattle.std.proofs.Math.Nat.{mod-eq_of_lt}
use Rattle.std.proofs.lemmas.Bool.{cases_eq}
use Rattle.std.proofs.lemmas.Bool.Decides.{nat_tests}
use Rattle.std.proofs.lemmas.List.{append-nil, length-map}
use Rattle.std.proofs.lemmas.Option.{slice_get-map}
use Rattle.dh_plan.specs.Blocks.{BlockEvent, block_events, block_sets, first_fault, all_set}
use Rattle.dh_plan.specs.PlainPlans.{first_in, operations_in}
use Rattle.dh_plan.specs.PlanRuns.{start_at}
use Rattle.dh_plan.specs.PlayedPlans.{longest}
use Rattle.dh_plan.specs.Ways.{GraphStop, in_state, resolve, block_of_stop, way_of_stop}
use Rattle.dh_cells.specs.Settled.{Signals, shown}
use Rattle.dh_cells.specs.ShownValues.{bit, is_one, any_one}
use Rattle.dh_lower.specs.NetOfPlan.{Making, words_of, sets_by, spot_length, fault_seen, led_on}
use Rattle.dh_lower.specs.PortUsers.{is_among}
use Rattle.dh_lower.specs.SpotsDone.{blocks_of_spot}
use Rattle.dh_control.specs.FaultTests.{code_or}
use Rattle.dh_control.specs.SizedWires.{shown_all}
use Rattle.dh_control.specs.StateWires.{blocks_active}
use Rattle.dh_control.specs.StepWires.{any_waits}
use Rattle.dh_control.specs.ThreadHolds.{own_registers, ControlWires, next_wires, shown_blocks, state_blocks, ControlShows}
use Rattle.dh_control.specs.WayMoves.{spot_number}
use Rattle.dh_control.proofs.OneActive.{state_active, none_active, ShowsOnly, ShowNone, some_active, none_going, never_waits, one_waits, one_fails, one_sets, none_sets}

-- Truths.

or_false : (t : Bool) → (t || false) ≡ t
or_false true = refl
or_false false = refl

both : (a b : Bool) (t u : Bool) → a ≡ t → b ≡ u → (a && b) ≡ (t && u)
both a b t u p q = λ i. p i && q i

less_true : (a b : ℕ) → a < b → nat_lt a b ≡ true
less_true a b less = grind (arith, less, nat_tests)

less_false : (a b : ℕ) → b ≤ a → nat_lt a b ≡ false
less_false a b more = grind (arith, more, nat_tests)

bit_number : (n : ℕ) (t : Bool) → n < 2 → (n == 1) ≡ t → n ≡ bit t
bit_number zero true less e = absurd (let f : false ≡ true = e in cc)
bit_number zero false less e = refl
bit_number (suc zero) true less e = refl
bit_number (suc zero) false less e = absurd (let f : true ≡ false = e in cc)
bit_number (suc (suc n)) t less e = absurd (omega (arith, less))

zero_test : (n : ℕ) → n ≡ 0 → (n == 0) ≡ true
zero_test n e = ap (λ m. m == 0) e

same_test : (a b : ℕ) → a ≡ b → (a == b) ≡ true
same_test a b e = grind (arith, e, nat_tests)

other_test : (a b : ℕ) → (a ≡ b → ⊥) → (a == b) ≡ false
other_test a b n = grind (arith, n, nat_tests)

some_test : (n m : ℕ) → n ≡ suc m → (n == 0) ≡ false
some_test n m e = grind (arith, e, nat_tests)

-- A step of one block.

module _ (k : Making) (c : ControlWires) (x : Signals) (shows : ControlShows k c x) (clock tick n : ℕ) (registers : List ℕ) (stop : GraphStop)
    (holds : x.registers ≡ clock ∷ tick ∷ 0 ∷ n ∷ registers) (at : slice_get k.flow.states n ≡ Some stop) (there : stop.block < length k.plan.blocks)
    (wide : slice_index k.timing.lengths stop.block ≤ 2 ^ c.clock_width) where
  clock_is : shown x c.clock ≡ clock
  clock_is = shows.clock_is ∙ ap (λ rs. slice_index rs 0) holds

  fault_is : shown x c.fault ≡ 0
  fault_is = shows.fault_is ∙ ap (λ rs. slice_index rs 2) holds

  state_is : shown x c.state ≡ n
  state_is = shows.state_is ∙ ap (λ rs. slice_index rs 3) holds

  registers_are : shown_all x c.registers ≡ registers
  registers_are = shows.registers_are ∙ ap (λ rs. drop own_registers rs) holds

  blocks_are : blocks_active (state_blocks k) (shown x c.state) ≡ stop.block ∷ []
  blocks_are =
      ap (λ m. blocks_active (state_blocks k) m) state_is
      ∙ state_active (state_blocks k) n stop.block (slice_get-map (λ s. s.block) k.flow.states n ∙ ap (option_map (λ s. s.block)) at)

  active_only : ShowsOnly x c.active true stop.block 0 (length k.plan.blocks)
  active_only i least less =
      shows.active_is i (omega (arith, less)) ∙ (ap (λ bs. is_among i bs) blocks_are ∙ or_false (i == stop.block))

  active_all : ShowsOnly x c.active true stop.block 0 (length c.active)
  active_all = subst (λ (m : ℕ). ShowsOnly x c.active true stop.block 0 m) (sym shows.active_long) active_only

  from_zero : stop.block ≡ 0 + stop.block
  from_zero = omega arith

  inside : stop.block < length c.active
  inside = let l = shows.active_long in let t = there in omega (arith, l, t)

  going_is : any_one x c.active ≡ true
  going_is = some_active x c.active stop.block inside active_all

  waiting_is : any_waits x c.clock c.active k.timing.lengths 0 (length c.active) ≡ nat_lt (clock + 1) (slice_index k.timing.lengths stop.block)
  waiting_is =
      one_waits x c.clock c.active k.timing.lengths stop.block 0 (length c.active) (omega arith) (let l = inside in omega (arith, l)) active_all
      ∙ ap (λ m. nat_lt (m + 1) (slice_index k.timing.lengths stop.block)) clock_is

  long_is : spot_length k (in_state n) ≡ slice_index k.timing.lengths stop.block
  long_is = ap (λ (o : Option GraphStop). longest k.timing.lengths (block_of_stop o ∷ [])) at ∙ alone (slice_index k.timing.lengths stop.block)
    where
      alone : (m : ℕ) → max m 0 ≡ m
      alone m = omega arith

  events : List BlockEvent
  events = block_events (start_at k.plan registers []) (first_in k.plan stop.block) (words_of k x.wires stop.block) (operations_in k.plan stop.block)

  fault_is_seen : fault_seen k (in_state n) registers x.wires ≡ first_fault events
  unfolding events
  fault_is_seen =
      ap (λ (o : Option GraphStop). first_fault (block_events (start_at k.plan registers []) (first_in k.plan (block_of_stop o)) (words_of k x.wires (block_of_stop o)) (operations_in k.plan (block_of_stop o)) ++ [])) at
      ∙ ap first_fault (append-nil (block_events (start_at k.plan registers []) (first_in k.plan stop.block) (words_of k x.wires stop.block) (operations_in k.plan stop.block)))

  failed_is : shown x c.verdict.failed ≡ code_or (fault_seen k (in_state n) registers x.wires) 0
  unfolding events
  failed_is =
      shows.failed_is (start_at k.plan registers [])
      ∙ (one_fails x c.active (start_at k.plan registers []) (shown_blocks k x) true stop.block 0 stop.block k.plan.blocks 0 from_zero there active_only
      ∙ sym (ap (λ f. code_or f 0) fault_is_seen))

  -- before the last clock
  module _ (early : suc clock < spot_length k (in_state n)) where
    waits : any_waits x c.clock c.active k.timing.lengths 0 (length c.active) ≡ true
    waits = waiting_is ∙ less_true (clock + 1) (slice_index k.timing.lengths stop.block) (let l = long_is in omega (arith, early, l))

    not_last : is_one x c.pace.last ≡ false
    not_last = shows.last_is ∙ (λ i. going_is i && not (waits i))

    no_commit : is_one x c.verdict.commit ≡ false
    no_commit = shows.commit_is ∙ ap (λ t. t && (shown x c.verdict.failed == 0)) not_last

    no_fault : is_one x c.verdict.faulted ≡ false
    no_fault = shows.faulted_is ∙ ap (λ t. t && not (shown x c.verdict.failed == 0)) not_last

    none_made : ShowNone x c.commits 0 (length k.plan.blocks)
    none_made i least less = shows.commits_are i (omega (arith, less)) ∙ ap (λ t. t && is_one x (slice_index c.active i)) no_commit

    kept : shown_all x c.news ≡ registers
    kept =
        shows.keeps no_commit
        ∙ (shows.after_is ∙ (none_sets x c.commits (shown_blocks k x) 0 k.plan.blocks (shown_all x c.registers) none_made ∙ registers_are))

    clock_next : shown x c.nexts.clock ≡ suc clock
    clock_next =
        shows.next_clock
        ∙ (ap (λ t. if t then (shown x c.clock + 1) % 2 ^ c.clock_width else 0) (shows.waiting_is ∙ waits)
        ∙ (ap (λ m. (m + 1) % 2 ^ c.clock_width) clock_is ∙ (mod-eq_of_lt (small (2 ^ c.clock_width) wide) ∙ (let one : clock + 1 ≡ suc clock = omega arith in one))))
      where
        small : (m : ℕ) → slice_index k.timing.lengths stop.block ≤ m → clock + 1 < m
        small m most = let l = long_is in omega (arith, early, l, most)

    pub waits_next : shown_all x (next_wires c) ≡ suc clock ∷ 0 ∷ 0 ∷ n ∷ registers
    waits_next =
        let a = clock_next in
        let b : shown x c.verdict.commit ≡ 0 = bit_number (shown x c.verdict.commit) false shows.commit_fits no_commit in
        let f : shown x c.nexts.fault ≡ 0 = shows.next_fault ∙ (ap (λ t. if t then shown x c.verdict.failed else shown x c.fault) not_last ∙ fault_is) in
        let s : shown x c.next_state ≡ n = shows.stays no_commit no_fault ∙ state_is in
        (λ i. a i ∷ b i ∷ f i ∷ s i ∷ kept i)

  -- in the last clock
  module _ (last : suc clock ≡ spot_length k (in_state n)) where
    ends : any_waits x c.clock c.active k.timing.lengths 0 (length c.active) ≡ false
    ends = waiting_is ∙ less_false (clock + 1) (slice_index k.timing.lengths stop.block) (let l = long_is in omega (arith, last, l))

    is_last : is_one x c.pace.last ≡ true
    is_last = shows.last_is ∙ (λ i. going_is i && not (ends i))

    clock_none : shown x c.nexts.clock ≡ 0
    clock_none = shows.next_clock ∙ ap (λ t. if t then (shown x c.clock + 1) % 2 ^ c.clock_width else 0) (shows.waiting_is ∙ ends)

    fault_next : shown x c.nexts.fault ≡ shown x c.verdict.failed
    fault_next = shows.next_fault ∙ ap (λ t. if t then shown x c.verdict.failed else shown x c.fault) is_last

    here : slice_get k.flow.states (shown x c.state) ≡ Some stop
    here = ap (λ m. slice_get k.flow.states m) state_is ∙ at

    -- without a fault
    module _ (fine : fault_seen k (in_state n) registers x.wires ≡ None) where
      not_failed : shown x c.verdict.failed ≡ 0
      not_failed = failed_is ∙ ap (λ f. code_or f 0) fine

      commits : is_one x c.verdict.commit ≡ true
      commits = shows.commit_is ∙ both (is_one x c.pace.last) (shown x c.verdict.failed == 0) true true is_last (zero_test (shown x c.verdict.failed) not_failed)

      one_made : ShowsOnly x c.commits true stop.block 0 (length k.plan.blocks)
      one_made i least less =
          shows.commits_are i (omega (arith, less)) ∙ both (is_one x c.verdict.commit) (is_one x (slice_index c.active i)) true (i == stop.block) commits (active_only i least less)

      after_is : shown_all x c.after ≡ all_set (block_sets (first_in k.plan stop.block) (words_of k x.wires stop.block) (operations_in k.plan stop.block)) registers
      after_is =
          shows.after_is
          ∙ (one_sets x c.commits (shown_blocks k x) true stop.block 0 stop.block k.plan.blocks (shown_all x c.registers) from_zero there one_made
          ∙ ap (λ rs. all_set (block_sets (first_in k.plan stop.block) (words_of k x.wires stop.block) (operations_in k.plan stop.block)) rs) registers_are)

      pub led_is : led_on k (in_state n) registers x.wires ≡ resolve k.plan.registers stop.way (shown_all x c.after)
      led_is =
          ap (λ (o : Option GraphStop). resolve k.plan.registers (way_of_stop o) (all_set (sets_by k.plan (words_of k x.wires) (block_of_stop o ∷ [])) registers)) at
          ∙ ap (λ rs. resolve k.plan.registers stop.way rs)
          (ap (λ l. all_set l registers) (append-nil (block_sets (first_in k.plan stop.block) (words_of k x.wires stop.block) (operations_in k.plan stop.block))) ∙ sym after_is)

      pub goes_on_next : shown_all x (next_wires c)
          ≡ 0 ∷ 1 ∷ 0 ∷ spot_number (length k.flow.states) (led_on k (in_state n) registers x.wires).spot ∷ (led_on k (in_state n) registers x.wires).registers
      goes_on_next =
          let b : shown x c.verdict.commit ≡ 1 = bit_number (shown x c.verdict.commit) true shows.commit_fits commits in
          let f : shown x c.nexts.fault ≡ 0 = fault_next ∙ not_failed in
          let s : shown x c.next_state ≡ spot_number (length k.flow.states) (led_on k (in_state n) registers x.wires).spot =
          (shows.goes commits stop here ∙ sym (ap (λ l. spot_number (length k.flow.states) l.spot) led_is)) in
          let r : shown_all x c.news ≡ (led_on k (in_state n) registers x.wires).registers = shows.turns commits stop here ∙ sym (ap (λ l. l.registers) led_is) in
          (λ i. clock_none i ∷ b i ∷ f i ∷ s i ∷ r i)

    -- with one
    module _ (fault : ℕ) (seen : fault_seen k (in_state n) registers x.wires ≡ Some fault) where
      failed_so : shown x c.verdict.failed ≡ suc fault
      failed_so = failed_is ∙ ap (λ f. code_or f 0) seen

      none_commits : is_one x c.verdict.commit ≡ false
      none_commits = shows.commit_is ∙ both (is_one x c.pace.last) (shown x c.verdict.failed == 0) true false is_last (some_test (shown x c.verdict.failed) fault failed_so)

      faulted : is_one x c.verdict.faulted ≡ true
      faulted = shows.faulted_is ∙ both (is_one x c.pace.last) (not (shown x c.verdict.failed == 0)) true true is_last (ap not (some_test (shown x c.verdict.failed) fault failed_so))

      still : shown_all x c.news ≡ registers
      still =
          shows.keeps none_commits
          ∙ (shows.after_is
          ∙ (none_sets x c.commits (shown_blocks k x) 0 k.plan.blocks (shown_all x c.registers)
          (λ i least less. shows.commits_are i (omega (arith, less)) ∙ ap (λ t. t && is_one x (slice_index c.active i)) none_commits) ∙ registers_are))

      pub faults_next : shown_all x (next_wires c) ≡ 0 ∷ 0 ∷ suc fault ∷ length k.flow.states ∷ registers
      faults_next =
          let b : shown x c.verdict.commit ≡ 0 = bit_number (shown x c.verdict.commit) false shows.commit_fits none_commits in
          let f : shown x c.nexts.fault ≡ suc fault = fault_next ∙ failed_so in
          let s : shown x c.next_state ≡ length k.flow.states = shows.halts faulted in
          (λ i. clock_none i ∷ b i ∷ f i ∷ s i ∷ still i)

  -- whether writes are made, as the plan has it
  pub commits_as : clock < spot_length k (in_state n) → is_one x c.verdict.commit ≡ ((suc clock == spot_length k (in_state n)) && is_none (fault_seen k (in_state n) registers x.wires))
  commits_as early =
      shows.commit_is
      ∙ both (is_one x c.pace.last) (shown x c.verdict.failed == 0) (suc clock == spot_length k (in_state n)) (is_none (fault_seen k (in_state n) registers x.wires))
      (shows.last_is ∙ ((λ i. going_is i && not (waiting_is i)) ∙ (ap (λ m. not (nat_lt (clock + 1) m)) (sym long_is) ∙ at_end clock (spot_length k (in_state n)) early)))
      (ap (λ m. m == 0) failed_is ∙ none_or_some (fault_seen k (in_state n) registers x.wires))
    where
      at_end : (j m : ℕ) → j < m → not (nat_lt (j + 1) m) ≡ (suc j == m)
      at_end j m less = elim (cases_eq (suc j) m) [
        | inl same ↦ ap not (less_false (j + 1) m (omega (arith, same))) ∙ sym (same_test (suc j) m same)
        | inr other ↦ ap not (less_true (j + 1) m (omega (arith, less, other))) ∙ sym (other_test (suc j) m other)
      ]

      none_or_some : (f : Option ℕ) → (code_or f 0 == 0) ≡ is_none f
      none_or_some None = refl
      none_or_some (Some fault) = some_test (suc fault) fault refl

  -- which blocks are active, and whose writes are made
  pub active_as : (b : ℕ) → b < length k.plan.blocks → is_one x (slice_index c.active b) ≡ is_among b (blocks_of_spot k.flow.states (in_state n))
  active_as b less = shows.active_is b less ∙ (ap (λ bs. is_among b bs) blocks_are ∙ sym (ap (λ (o : Option GraphStop). is_among b (block_of_stop o ∷ [])) at))

  pub clock_as : shown x c.clock ≡ clock
  clock_as = clock_is

  -- the outputs of the net
  pub outputs : (shown x c.tick ≡ tick) × ((shown x c.nexts.done ≡ 0) × (shown x c.fault ≡ 0))
  outputs = (
    shows.tick_is ∙ ap (λ rs. slice_index rs 1) holds,
    (shows.done_is ∙ ap (λ t. bit (not t && (shown x c.fault == 0))) (shows.going_is ∙ going_is), fault_is),
  )

-- Once the run is over.

module _ (k : Making) (c : ControlWires) (x : Signals) (shows : ControlShows k c x) (clock tick fault : ℕ) (registers : List ℕ)
    (holds : x.registers ≡ clock ∷ tick ∷ fault ∷ length k.flow.states ∷ registers) where
  over_state : shown x c.state ≡ length k.flow.states
  over_state = shows.state_is ∙ ap (λ rs. slice_index rs 3) holds

  over_fault : shown x c.fault ≡ fault
  over_fault = shows.fault_is ∙ ap (λ rs. slice_index rs 2) holds

  none_there : blocks_active (state_blocks k) (shown x c.state) ≡ []
  none_there =
      ap (λ m. blocks_active (state_blocks k) m) over_state
      ∙ none_active (state_blocks k) (length k.flow.states) (let l = length-map k.flow.states (λ s. s.block) in omega (arith, l))

  pub over_active : (b : ℕ) → b < length k.plan.blocks → is_one x (slice_index c.active b) ≡ false
  over_active b less = shows.active_is b less ∙ ap (λ bs. is_among b bs) none_there

  none_shown : ShowNone x c.active 0 (length c.active)
  none_shown i least less = shows.active_is i (let l = shows.active_long in omega (arith, less, l)) ∙ ap (λ bs. is_among i bs) none_there

  over_going : any_one x c.active ≡ false
  over_going = none_going x c.active none_shown

  over_waiting : any_waits x c.clock c.active k.timing.lengths 0 (length c.active) ≡ false
  over_waiting = never_waits x c.clock c.active k.timing.lengths (length c.active) none_shown

  over_last : is_one x c.pace.last ≡ false
  over_last = shows.last_is ∙ ap (λ t. t && not (any_waits x c.clock c.active k.timing.lengths 0 (length c.active))) over_going

  pub over_commit : is_one x c.verdict.commit ≡ false
  over_commit = shows.commit_is ∙ ap (λ t. t && (shown x c.verdict.failed == 0)) over_last

  over_faulted : is_one x c.verdict.faulted ≡ false
  over_faulted = shows.faulted_is ∙ ap (λ t. t && not (shown x c.verdict.failed == 0)) over_last

  over_kept : shown_all x c.news ≡ registers
  over_kept =
      shows.keeps over_commit
      ∙ (shows.after_is
      ∙ (none_sets x c.commits (shown_blocks k x) 0 k.plan.blocks (shown_all x c.registers)
      (λ i least less. shows.commits_are i (omega (arith, less)) ∙ ap (λ t. t && is_one x (slice_index c.active i)) over_commit)
      ∙ (shows.registers_are ∙ ap (λ rs. drop own_registers rs) holds)))

  pub over_next : shown_all x (next_wires c) ≡ 0 ∷ 0 ∷ fault ∷ length k.flow.states ∷ registers
  over_next =
      let a : shown x c.nexts.clock ≡ 0 = shows.next_clock ∙ ap (λ t. if t then (shown x c.clock + 1) % 2 ^ c.clock_width else 0) (shows.waiting_is ∙ over_waiting) in
      let b : shown x c.verdict.commit ≡ 0 = bit_number (shown x c.verdict.commit) false shows.commit_fits over_commit in
      let f : shown x c.nexts.fault ≡ fault = shows.next_fault ∙ (ap (λ t. if t then shown x c.verdict.failed else shown x c.fault) over_last ∙ over_fault) in
      let s : shown x c.next_state ≡ length k.flow.states = shows.stays over_commit over_faulted ∙ over_state in
      (λ i. a i ∷ b i ∷ f i ∷ s i ∷ over_kept i)

  pub over_outputs : (shown x c.tick ≡ tick) × ((shown x c.nexts.done ≡ (if fault == 0 then 1 else 0)) × (shown x c.fault ≡ fault))
  over_outputs = (
    shows.tick_is ∙ ap (λ rs. slice_index rs 1) holds,
    (shows.done_is ∙ (ap (λ t. bit (not t && (shown x c.fault == 0))) (shows.going_is ∙ over_going) ∙ ap (λ m. bit (m == 0)) over_fault), over_fault),
  )
