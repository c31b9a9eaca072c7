-- Where a way of one thread leads: registers keep to their kinds, and the number of the state is at most that behind all
-- states.
use Rattle.std.proofs.Common.{ℕ, ◌+◌, ◌≤◌, Bool, true, false, if◌then◌else◌, List, arith}
use Rattle.std.specs.Prelude.{◌==◌, slice_index, slice_set}
use Rattle.std.proofs.Math.Nat.{mod-lt}
use Rattle.std.proofs.lemmas.Nat.{pow_pos}
use Rattle.dh_value.specs.declared.kinds.Kind.{Kind}
use Rattle.dh_value.specs.Words.{width_of}
use Rattle.dh_plan.specs.Blocks.{kind_at}
use Rattle.dh_plan.specs.Correspondence.{FitKinds}
use Rattle.dh_plan.specs.PlanRuns.{flag_holds, counted_up}
use Rattle.dh_plan.specs.Ways.{GraphWay, to_state, by_flag, by_count, to_fork, to_end, resolve}
use Rattle.dh_plan.proofs.JointEnters.{set_fits}
use Rattle.dh_control.specs.WayMoves.{spot_number}
use Rattle.dh_control.specs.WiredNets.{IsStraight}

pub way_fits : (kinds : List Kind) (w : GraphWay) (registers : List ℕ) → FitKinds kinds registers → FitKinds kinds (resolve kinds w registers).registers
way_fits kinds (to_state state) registers h = h
way_fits kinds (by_flag flag w v) registers h = by (flag_holds registers flag) (way_fits kinds w registers h) (way_fits kinds v registers h)
  where
    by : (t : Bool) → FitKinds kinds (resolve kinds w registers).registers → FitKinds kinds (resolve kinds v registers).registers
        → FitKinds kinds (if t then resolve kinds w registers else resolve kinds v registers).registers
    by true p q = p
    by false p q = q
way_fits kinds (by_count counter last w v) registers h =
    by (slice_index registers counter == last) (way_fits kinds v (slice_set registers counter 0) (set_fits kinds registers counter 0 h (pow_pos (width_of (kind_at kinds counter)))))
    (way_fits kinds w (counted_up kinds counter registers) (set_fits kinds registers counter _ h (mod-lt (slice_index registers counter + 1) (pow_pos (width_of (kind_at kinds counter))))))
  where
    by : (t : Bool) → FitKinds kinds (resolve kinds v (slice_set registers counter 0)).registers → FitKinds kinds (resolve kinds w (counted_up kinds counter registers)).registers
        → FitKinds kinds (if t then resolve kinds v (slice_set registers counter 0) else resolve kinds w (counted_up kinds counter registers)).registers
    by true p q = p
    by false p q = q
way_fits kinds (to_fork fork ws) registers h = h
way_fits kinds to_end registers h = h

pub way_within : (states : ℕ) (kinds : List Kind) (w : GraphWay) (registers : List ℕ) → IsStraight states w → spot_number states (resolve kinds w registers).spot ≤ states
way_within states kinds (to_state state) registers h = omega (arith, h)
way_within states kinds (by_flag flag w v) registers h = by (flag_holds registers flag) (way_within states kinds w registers h.0) (way_within states kinds v registers h.1)
  where
    by : (t : Bool) → spot_number states (resolve kinds w registers).spot ≤ states → spot_number states (resolve kinds v registers).spot ≤ states
        → spot_number states (if t then resolve kinds w registers else resolve kinds v registers).spot ≤ states
    by true p q = p
    by false p q = q
way_within states kinds (by_count counter last w v) registers h =
    by (slice_index registers counter == last) (way_within states kinds v (slice_set registers counter 0) h.1) (way_within states kinds w (counted_up kinds counter registers) h.0)
  where
    by : (t : Bool) → spot_number states (resolve kinds v (slice_set registers counter 0)).spot ≤ states → spot_number states (resolve kinds w (counted_up kinds counter registers)).spot ≤ states
        → spot_number states (if t then resolve kinds v (slice_set registers counter 0) else resolve kinds w (counted_up kinds counter registers)).spot ≤ states
    by true p q = p
    by false p q = q
way_within states kinds (to_fork fork ws) registers h = absurd h
way_within states kinds to_end registers h = omega arith
