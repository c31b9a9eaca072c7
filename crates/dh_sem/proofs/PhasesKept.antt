-- Phases stay what they are while more is made: code, phases and lanes are only added behind those that there are. By
-- induction on the phases of the core.
use Rattle.std.proofs.Common.{◌≡◌, ℕ, ◌+◌, ◌<◌, ◌≤◌, List, [], ◌++◌, length, Some, None, ap, sym, ◌∙◌, append_assoc, append-nil, arith}
use Rattle.std.specs.Prelude.{Option, slice_get}
use Rattle.std.proofs.lemmas.List.{length-append}
use Rattle.dh_tree.specs.declared.tables.MemEntry.{MemEntry}
use Rattle.dh_meaning.specs.Core.{CorePhase, straightly, turning, looping, choosing, CorePhases, no_core_phases, phase_and}
use Rattle.dh_code.specs.Declarations.{factors_inside}
use Rattle.dh_code.specs.Slots.{Placing}
use Rattle.dh_code.proofs.CommandsCoded.{coded_stays, extends_none, extends_then, flat_stays, get_before, held_stays}
use Rattle.dh_sem.specs.declared.holding.MadeRun.{MadeRun}
use Rattle.dh_sem.specs.declared.lanes.Lanes.{Lanes}
use Rattle.dh_sem.specs.declared.phases.PhaseForm.{PhaseForm}
use Rattle.dh_sem.specs.declared.phases.PhaseForm.TheVariants.{Straight, Turns, Loop, Choice}
use Rattle.dh_sem.specs.Held.{MoreMade, course_made}
use Rattle.dh_sem.specs.Lanes.{LeadsInto, MoreLanes}
use Rattle.dh_sem.specs.Phased.{ArePhases, IsLinked, IsPhase, TestIsHeld}
use Rattle.dh_code.specs.Scenes.{IsEarlier}

pub lanes_none : (a : List Lanes) → MoreLanes a a
lanes_none a = record { more = []; are = sym (append-nil a) }

pub lanes_then : (a b c : List Lanes) → MoreLanes a b → MoreLanes b c → MoreLanes a c
lanes_then a b c h k = record { more = h.more ++ k.more; are = k.are ∙ (ap (λ l. l ++ k.more) h.are ∙ append_assoc a h.more k.more) }

pub made_none : (m : MadeRun) → MoreMade m m
made_none m = record { code = extends_none m.code; phases = []; are = sym (append-nil m.phases.items); lanes = lanes_none m.lanes.items }

pub made_then : (a b c : MadeRun) → MoreMade a b → MoreMade b c → MoreMade a c
made_then a b c h k = record {
  code = extends_then a.code b.code c.code h.code k.code;
  phases = h.phases ++ k.phases;
  are = k.are ∙ (ap (λ l. l ++ k.phases) h.are ∙ append_assoc a.phases.items h.phases k.phases);
  lanes = lanes_then a.lanes.items b.lanes.items c.lanes.items h.lanes k.lanes;
}

pub longer : {A : Type 0} (a b more : List A) → b ≡ a ++ more → length a ≤ length b
longer a b more is = by (length a) (length more) (length b) (ap (λ l. length l) is ∙ length-append a more)
  where
    by : (x y z : ℕ) → z ≡ x + y → x ≤ z
    by x y z e = omega (arith, e)

pub within_more : (m x y : ℕ) → m < x → x ≤ y → m < y
within_more m x y e f = omega (arith, e, f)

pub earlier_still : (m n : ℕ) (o : Option ℕ) → m ≤ n → IsEarlier m o → IsEarlier n o
earlier_still m n None h e = tt
earlier_still m n (Some k) h e = within_more k m n e h

pub leads_still : (a b : List Lanes) (number : ℕ) (factors : List ℕ) → MoreLanes a b → LeadsInto a number factors → LeadsInto b number factors
leads_still a b number factors h l = record { found = l.found; there = ap (λ x. slice_get x number) h.are ∙ get_before a h.more number l.found l.there; are = l.are }

-- what is there in what was made is there in what is made later
pub there_later : (paths : ℕ) (a b : MadeRun) → MoreMade a b → paths < length a.lanes.items → paths < length b.lanes.items
there_later paths a b h there = within_more paths (length a.lanes.items) (length b.lanes.items) there (longer a.lanes.items b.lanes.items h.lanes.more h.lanes.are)

pub earlier_later : (a b : MadeRun) (o : Option ℕ) → MoreMade a b → IsEarlier (length a.phases.items) o → IsEarlier (length b.phases.items) o
earlier_later a b o h e = earlier_still (length a.phases.items) (length b.phases.items) o (longer a.phases.items b.phases.items h.phases h.are) e

module _ (table : List MemEntry) (p : Placing) (a b : MadeRun) (h : MoreMade a b) where
  mutual
    pub phases_stay : (factors : List ℕ) (first : Option ℕ) (qs : CorePhases) → ArePhases table p (course_made a) factors first qs → ArePhases table p (course_made b) factors first qs
    phases_stay factors None no_core_phases e = tt
    phases_stay factors None (phase_and q qs) e = absurd e
    phases_stay factors (Some at) no_core_phases e = absurd e
    phases_stay factors (Some at) (phase_and q qs) (phase, (get, (leads, (early, (does, later))))) = (
      phase,
      (
        ap (λ l. slice_get l at) h.are ∙ get_before a.phases.items h.phases at phase get,
        (
          leads_still a.lanes.items b.lanes.items phase.paths factors h.lanes leads,
          (early, (phase_stays factors at at phase.form q (same at) does, phases_stay factors phase.next qs later)),
        ),
      ),
    )
      where
        same : (n : ℕ) → n ≤ n
        same n = omega arith

    pub phase_stays : (factors : List ℕ) (at to : ℕ) (form : PhaseForm) (q : CorePhase) → at ≤ to → IsPhase table p (course_made a) factors at form q → IsPhase table p (course_made b) factors to form q
    phase_stays factors at to (Straight list) (straightly cs) le e = (coded_stays p.held table a.code b.code h.code list cs e.0, e.1)
    phase_stays factors at to (Straight list) (turning loop body) le e = absurd e
    phase_stays factors at to (Straight list) (looping test body) le e = absurd e
    phase_stays factors at to (Straight list) (choosing test chosen other) le e = absurd e
    phase_stays factors at to (Turns t) (straightly cs) le e = absurd e
    phase_stays factors at to (Turns t) (turning loop body) le (turns, (leads, (some, (early, are)))) = (
      turns,
      (
        leads_still a.lanes.items b.lanes.items t.inside (factors_inside factors loop.factor) h.lanes leads,
        (some, (earlier_still at to t.body le early, phases_stay (factors_inside factors loop.factor) t.body body are)),
      ),
    )
    phase_stays factors at to (Turns t) (looping test body) le e = absurd e
    phase_stays factors at to (Turns t) (choosing test chosen other) le e = absurd e
    phase_stays factors at to (Loop f list) (straightly cs) le e = absurd e
    phase_stays factors at to (Loop f list) (turning loop body) le e = absurd e
    phase_stays factors at to (Loop f list) (looping test body) le (flat, (can, (early, are))) =
        (flat_stays p.held table a.code b.code h.code test f flat, (can, (earlier_still at to list le early, phases_stay factors list body are)))
    phase_stays factors at to (Loop f list) (choosing test chosen other) le e = absurd e
    phase_stays factors at to (Choice f one two) (straightly cs) le e = absurd e
    phase_stays factors at to (Choice f one two) (turning loop body) le e = absurd e
    phase_stays factors at to (Choice f one two) (looping test body) le e = absurd e
    phase_stays factors at to (Choice f one two) (choosing test chosen other) le (flat, (can, ((early, soon), (are, others)))) =
        (flat_stays p.held table a.code b.code h.code test f flat, (can, ((earlier_still at to one le early, earlier_still at to two le soon), (phases_stay factors one chosen are, phases_stay factors two other others))))

-- what can be gone through stays so, wherever it is held
module _ (a b : MadeRun) (h : MoreMade a b) where
  lanes_longer : length a.lanes.items ≤ length b.lanes.items
  lanes_longer = longer a.lanes.items b.lanes.items h.lanes.more h.lanes.are

  pub linked_still : (at to : ℕ) (form : PhaseForm) → at ≤ to → IsLinked a.lanes.items at form → IsLinked b.lanes.items to form
  linked_still at to (Straight list) le e = tt
  linked_still at to (Turns t) le e = record {
    lanes_there = within_more t.inside (length a.lanes.items) (length b.lanes.items) e.lanes_there lanes_longer;
    earlier = earlier_still at to t.body le e.earlier;
    some_phase = e.some_phase;
    counts = e.counts;
    some_factor = e.some_factor;
    some_turn = e.some_turn;
  }
  linked_still at to (Loop f list) le e = earlier_still at to list le e
  linked_still at to (Choice f one two) le e = (earlier_still at to one le e.0, earlier_still at to two le e.1)

  pub tested_still : (form : PhaseForm) → TestIsHeld a.code.operations form → TestIsHeld b.code.operations form
  tested_still (Straight list) e = tt
  tested_still (Turns t) e = tt
  tested_still (Loop f list) e = held_stays a.code b.code f h.code e
  tested_still (Choice f one two) e = held_stays a.code b.code f h.code e
