-- What plays a plan still plays it when the drivers of its ports are joined.
-- That a net plays a run needs only that it shows and keeps the same. That its writes come last needs that a driver that
-- writes is active only where one of the net before is.
use Rattle.std.proofs.Common.{◌≡◌, ℕ, zero, suc, Bool, true, false, Some, None, inl, inr, List, [], ◌∷◌, refl, sym, ap, subst, ◌∙◌, arith}
use Rattle.std.specs.Prelude.{slice_get, ◌||◌, ◌&&◌}
use Rattle.std.proofs.lemmas.Option.{slice_get_cases, slice_get_within}
use Rattle.dh_tree.specs.Tables.{Fits}
use Rattle.dh_tree.specs.declared.tables.MemEntry.{MemEntry}
use Rattle.dh_net.specs.Clock.{is_active}
use Rattle.dh_net.specs.Plays.{Run, Plays}
use Rattle.dh_net.specs.Valid.{IsValid}
use Rattle.dh_net.specs.declared.nets.Cell.{Cell}
use Rattle.dh_net.specs.declared.nets.CellForm.{CellForm}
use Rattle.dh_net.specs.declared.nets.CellForm.TheVariants.{Const, Reg, Data, Add, Sub, Mul, And, Or, Xor, Shl, ShrU, ShrS, LtU, LtS, Eq, Mux, Zero, Sign, Low}
use Rattle.dh_net.specs.declared.nets.Driver.{Driver}
use Rattle.dh_net.specs.declared.nets.Net.{Net}
use Rattle.dh_cells.specs.NarrowShifts.{ShiftsLess, HasNarrowShifts}
use Rattle.dh_cells.proofs.NarrowCells.{shifts_later}
use Rattle.dh_plan.specs.PlainPlans.{PlainPlan}
use Rattle.dh_plan.specs.PlayedPlans.{plan_run, WritesLast, PlaysPlan}
use Rattle.dh_build.specs.BuiltPlans.{IsBuiltNet}
use Rattle.dh_join.specs.AddedCells.{IsChoice}
use Rattle.dh_join.specs.JoinedNets.{IsJoined}
use Rattle.dh_join.specs.JoinedPorts.{any_write}
use Rattle.dh_join.proofs.SameRuns.{never_clashed, joined_plays}
use Rattle.dh_swept.specs.SweptLaws.{IsSweptOf}
use Rattle.dh_compile.specs.JoinedSwept.{IsJoinedSwept, IsPlanNet}

-- an active driver that writes is among them
record Writes (ws : List ℕ) (ds : List Driver) : Type 0 where
  pub number : ℕ
  pub driver : Driver
  pub there : slice_get ds number ≡ Some driver
  pub write : driver.write ≡ true
  pub active : is_active ws driver ≡ true

some_writes : (ws : List ℕ) (ds : List Driver) → any_write ws ds ≡ true → Writes ws ds
some_writes ws [] e = absurd (cc)
some_writes ws (d ∷ ds) e = by (is_active ws d) d.write refl refl (some_writes ws ds) e
  where
    behind : Writes ws ds → Writes ws (d ∷ ds)
    behind w = record { number = suc w.number; driver = w.driver; there = w.there; write = w.write; active = w.active }

    by : (t k : Bool) → is_active ws d ≡ t → d.write ≡ k → (any_write ws ds ≡ true → Writes ws ds) → ((t && k) || any_write ws ds) ≡ true → Writes ws (d ∷ ds)
    by true true on writes so h = record { number = 0; driver = d; there = refl; write = writes; active = on }
    by true false on writes so h = behind (so h)
    by false k on writes so h = behind (so h)

one_writes : (ws : List ℕ) (ds : List Driver) (i : ℕ) (d : Driver) → slice_get ds i ≡ Some d → d.write ≡ true → is_active ws d ≡ true → any_write ws ds ≡ true
one_writes ws [] i d at on active = absurd (let no : None ≡ Some d = at in cc)
one_writes ws (x ∷ ds) zero d at on active =
    let same : x ≡ d = cc in
    ap (λ (t : Bool). t || any_write ws ds)
    ((λ i. is_active ws (same i) && (same i).write) ∙ (ap (λ (t : Bool). t && d.write) active ∙ on))
one_writes ws (x ∷ ds) (suc i) d at on active = or_true (is_active ws x && x.write) (any_write ws ds) (one_writes ws ds i d at on active)
  where
    or_true : (t u : Bool) → u ≡ true → (t || u) ≡ true
    or_true true u e = refl
    or_true false u e = e

joined_writes : (old new : Net) → IsValid old → IsJoined old new → (r : Run) (start : List (List ℕ)) → Fits old.table start → Plays old r start → WritesLast old r start → WritesLast new r start
joined_writes old new valid h r start fits p w clocks n t vs run settled fit port i es e list_at at on active =
    let o = p.runs clocks in
    let same = h.same start fits clocks o.0 t o.1.0 vs (never_clashed old new valid h r start fits p clocks) o.1.1.0 o.1.1.1 run settled in
    elim (slice_get_cases old.drivers port).1 [
      | inl found ↦
          let given = some_writes o.1.0 found.0 (same.writes port found.0 es found.2 list_at (one_writes vs es i e at on active)) in
          w clocks n o.0 o.1.0 o.1.1.0 o.1.1.1 fit port given.number found.0 given.driver found.2 given.there given.write given.active
      | inr past ↦ absurd (let beyond = past.0 in let inside = slice_get_within new.drivers port es list_at in let long = h.ports in omega (arith, beyond, inside, long))
    ]

plays_joined : (plan : PlainPlan) (lengths : List ℕ) (whole net : Net) → PlaysPlan plan lengths whole → IsJoined whole net → PlaysPlan plan lengths net
plays_joined plan lengths whole net h j =
    let fitting : (start : List (List ℕ)) → Fits plan.table start → Fits whole.table start = λ start fits. subst (λ (t : List MemEntry). Fits t start) (sym h.table) fits in
    record {
      valid = j.valid;
      table = j.table ∙ h.table;
      faults = j.faults ∙ h.faults;
      plays = λ start fits. joined_plays whole net h.valid j (plan_run plan lengths start) start (fitting start fits) (h.plays start fits);
      writes = λ start fits. joined_writes whole net h.valid j (plan_run plan lengths start) start (fitting start fits) (h.plays start fits) (h.writes start fits);
    }

-- Shifts by constants stay narrow: the amount of an old shift is a wire of an old cell, and a new cell shifts nothing.

choice_shifts_none : (cells : List Cell) (width : ℕ) (f : CellForm) → IsChoice f → ShiftsLess cells width f
choice_shifts_none cells width (Const bits) h = tt
choice_shifts_none cells width (Reg register) h = tt
choice_shifts_none cells width (Data memory bank port) h = tt
choice_shifts_none cells width (Add a b) h = tt
choice_shifts_none cells width (Sub a b) h = tt
choice_shifts_none cells width (Mul a b) h = tt
choice_shifts_none cells width (And a b) h = tt
choice_shifts_none cells width (Or a b) h = tt
choice_shifts_none cells width (Xor a b) h = tt
choice_shifts_none cells width (Shl a b) h = absurd h
choice_shifts_none cells width (ShrU a b) h = absurd h
choice_shifts_none cells width (ShrS a b) h = absurd h
choice_shifts_none cells width (LtU a b) h = tt
choice_shifts_none cells width (LtS a b) h = tt
choice_shifts_none cells width (Eq a b) h = tt
choice_shifts_none cells width (Mux c a b) h = tt
choice_shifts_none cells width (Zero a) h = tt
choice_shifts_none cells width (Sign a) h = tt
choice_shifts_none cells width (Low a) h = tt

narrow_joined : (old new : Net) → IsValid old → IsJoined old new → HasNarrowShifts old.cells → HasNarrowShifts new.cells
narrow_joined old new valid j narrow i c at =
    elim (j.added i c at) [
      | inl before ↦ shifts_later old.table old.registers old.cells new.cells i c.width c.form j.begins (valid.cells i c before).form (narrow i c before)
      | inr added ↦ choice_shifts_none new.cells c.width c.form added
    ]

-- Without the cells and registers that nothing needs the net plays it, too.
plan_swept : (plan : PlainPlan) (lengths : List ℕ) (whole net : Net) → PlaysPlan plan lengths whole → HasNarrowShifts whole.cells → IsSweptOf whole net
    → IsPlanNet plan lengths net
plan_swept plan lengths whole net h narrow swept = record {
  plays = record {
    valid = swept.same.valid;
    table = swept.same.table ∙ h.table;
    faults = swept.same.faults ∙ h.faults;
    plays = λ start fits. swept.same.plays (plan_run plan lengths start) start (h.plays start fits);
    writes = λ start fits. swept.same.writes (plan_run plan lengths start) start (h.writes start fits);
  };
  zero_reads = swept.same.zero_reads;
  shifts = swept.same.shifts narrow;
  needed = swept.needed;
}

-- A net that is built of a plan is one of the plan when its drivers are joined and what is not needed then is left out.
pub joined_built : (plan : PlainPlan) (lengths : List ℕ) (whole net : Net) → IsBuiltNet plan lengths whole → IsJoinedSwept whole net → IsPlanNet plan lengths net
joined_built plan lengths whole net h s =
    plan_swept plan lengths s.between net (plays_joined plan lengths whole s.between h.plays s.joined)
    (narrow_joined whole s.between h.plays.valid s.joined h.shifts) s.swept
