-- The wires of a step, a few in a row.
use Rattle.std.proofs.Common.{◌≡◌, ℕ, zero, suc, ◌+◌, ◌<◌, ◌==◌, ◌&&◌, ◌||◌, not, if◌then◌else◌, List, [], ◌∷◌, length, refl, sym, ap, subst, ◌∙◌, arith}
use Rattle.std.specs.Prelude.{nat_lt, slice_index}
use Rattle.dh_cells.specs.PlainCircuits.{PlainCircuit}
use Rattle.dh_cells.specs.Settled.{Signals, IsSettled, Adds, AreWires, shown}
use Rattle.dh_cells.specs.ShownValues.{bit, is_one, any_one, first_of, any_shown, not_shown, both_shown, match_shown, number_shown, first_shown, choice_shown, guarded_shown, more_shown}
use Rattle.dh_cells.specs.declared.trees.Tested.{Tested}
use Rattle.dh_cells.proofs.CellsAppended.{grows_then, settled_fewer, wire_stays, shows_later}
use Rattle.dh_cells.proofs.OperatorBits.{bit_tells}
use Rattle.dh_control.specs.StateWires.{wait_of}
use Rattle.dh_control.specs.StepWires.{any_waits, PaceMade, VerdictMade, next_fault_shown, NextsMade}
use Rattle.dh_control.specs.WireLists.{EachTells}
use Rattle.dh_control.specs.declared.stepping.Pace.{Pace}
use Rattle.dh_control.proofs.StandsTell.{wires_from}

-- Whether one of many waits.

any_by : (x : Signals) (clock : ℕ) (active lengths : List ℕ) (from : ℕ) (waits : List ℕ)
    → ((i : ℕ) → i < length waits → is_one x (slice_index waits i) ≡ (is_one x (slice_index active (from + i)) && nat_lt (shown x clock + 1) (slice_index lengths (from + i))))
    → any_one x waits ≡ any_waits x clock active lengths from (length waits)
any_by x clock active lengths from [] each = refl
any_by x clock active lengths from (w ∷ ws) each =
    let here : from + 0 ≡ from = omega arith in
    let first : is_one x w ≡ (is_one x (slice_index active from) && nat_lt (shown x clock + 1) (slice_index lengths from)) =
    each zero (omega arith) ∙ ap (λ n. is_one x (slice_index active n) && nat_lt (shown x clock + 1) (slice_index lengths n)) here in
    let rest = any_by x clock active lengths (suc from) ws (λ i less.
    let next : from + suc i ≡ suc from + i = omega arith in
    each (suc i) (omega (arith, less)) ∙ ap (λ n. is_one x (slice_index active n) && nat_lt (shown x clock + 1) (slice_index lengths n)) next) in
    (λ i. first i || rest i)

pub listed_wires : (d e : PlainCircuit) (value : ℕ → Signals → ℕ) (count : ℕ) (wires list : List ℕ) → EachTells d e value count wires → list ≡ wires → AreWires e list 1
listed_wires d e value count wires list h same =
    subst (λ (l : List ℕ). AreWires e l 1) (sym same) (wires_from e 1 wires (λ i less. (h.each i (let l = h.long in omega (arith, less, l))).there))

pub pace_made : (d e f g h i : PlainCircuit) (clock : ℕ) (active lengths waits list : List ℕ) (waiting done going last : ℕ) → EachTells d e (wait_of clock active lengths) (length active) waits → list ≡ waits
    → Adds e f waiting 1 (any_shown list) → Adds f g done 1 (not_shown waiting) → Adds g h going 1 (any_shown active) → Adds h i last 1 (both_shown going done)
    → PaceMade d i clock active lengths (record { going = going; waiting = waiting; last = last })
pace_made d e f g h i clock active lengths waits list waiting done going last w same a b c l =
    let g_i = grows_then g h i c.grows l.grows in
    let f_i = grows_then f g i b.grows g_i in
    let waiting_is : (x : Signals) → IsSettled f x → is_one x waiting ≡ any_waits x clock active lengths 0 (length active) =
    (λ x s.
    let in_e = settled_fewer e f x a.grows s in
    bit_tells (shown x waiting) (any_one x list) (a.shows.is x s)
    ∙ (ap (λ ws. any_one x ws) same
    ∙ (any_by x clock active lengths 0 waits (λ k less.
    let here : k ≡ 0 + k = omega arith in
    bit_tells (shown x (slice_index waits k)) (is_one x (slice_index active k) && nat_lt (shown x clock + 1) (slice_index lengths k)) ((w.each k (let long = w.long in omega (arith, less, long))).is x in_e)
    ∙ ap (λ n. is_one x (slice_index active n) && nat_lt (shown x clock + 1) (slice_index lengths n)) here)
    ∙ ap (λ n. any_waits x clock active lengths 0 n) w.long))) in
    let going_is : (x : Signals) → IsSettled h x → is_one x going ≡ any_one x active = (λ x s. bit_tells (shown x going) (any_one x active) (c.shows.is x s)) in
    record {
      grows = grows_then d e i w.grows (grows_then e f i a.grows f_i);
      going = wire_stays h i going 1 l.grows c.shows.there;
      waiting = wire_stays f i waiting 1 f_i a.shows.there;
      last = l.shows.there;
      going_is = λ x s. going_is x (settled_fewer h i x l.grows s);
      waiting_is = λ x s. waiting_is x (settled_fewer f i x f_i s);
      last_is = λ x s.
          let in_h = settled_fewer h i x l.grows s in
          let in_g = settled_fewer g h x c.grows in_h in
          let done_is : is_one x done ≡ not (is_one x waiting) = bit_tells (shown x done) _ (b.shows.is x in_g) in
          bit_tells (shown x last) _ (l.shows.is x s)
          ∙ ((λ k. going_is x in_h k && done_is k) ∙ ap (λ t. any_one x active && not t) (waiting_is x (settled_fewer f g x b.grows in_g)));
    }

pub verdict_made : (d e f g h i j : PlainCircuit) (last none failed fine commit wrong faulted : ℕ) (tests : List Tested) → Adds d e none 32 (number_shown 0) → Adds e f failed 32 (first_shown tests none)
    → Adds f g fine 1 (match_shown failed 0) → Adds g h commit 1 (both_shown last fine) → Adds h i wrong 1 (not_shown fine) → Adds i j faulted 1 (both_shown last wrong)
    → VerdictMade d j last tests (record { failed = failed; commit = commit; faulted = faulted })
verdict_made d e f g h i j last none failed fine commit wrong faulted tests a b c m w o =
    let h_j = grows_then h i j w.grows o.grows in
    let f_j = grows_then f g j c.grows (grows_then g h j m.grows h_j) in
    let failed_is : (x : Signals) → IsSettled f x → shown x failed ≡ first_of x tests 0 =
    (λ x s. b.shows.is x s ∙ ap (λ n. first_of x tests n) (a.shows.is x (settled_fewer e f x b.grows s))) in
    let fine_is : (x : Signals) → IsSettled g x → is_one x fine ≡ (first_of x tests 0 == 0) =
    (λ x s. bit_tells (shown x fine) _ (c.shows.is x s) ∙ ap (λ n. n == 0) (failed_is x (settled_fewer f g x c.grows s))) in
    record {
      grows = grows_then d e j a.grows (grows_then e f j b.grows f_j);
      failed = wire_stays f j failed 32 f_j b.shows.there;
      commit = wire_stays h j commit 1 h_j m.shows.there;
      faulted = o.shows.there;
      failed_is = λ x s. failed_is x (settled_fewer f j x f_j s);
      commit_is = λ x s.
          let in_h = settled_fewer h j x h_j s in
          bit_tells (shown x commit) _ (m.shows.is x in_h) ∙ ap (λ t. is_one x last && t) (fine_is x (settled_fewer g h x m.grows in_h));
      faulted_is = λ x s.
          let in_i = settled_fewer i j x o.grows s in
          let in_g = settled_fewer g h x m.grows (settled_fewer h i x w.grows in_i) in
          bit_tells (shown x faulted) _ (o.shows.is x s)
          ∙ ap (λ t. is_one x last && t) (bit_tells (shown x wrong) _ (w.shows.is x in_i) ∙ ap not (fine_is x in_g));
    }

pub nexts_made : (d e f g h i j : PlainCircuit) (width clock fault : ℕ) (p : Pace) (failed more next kept over fine done : ℕ) → Adds d e more width (more_shown width clock)
    → Adds e f next width (guarded_shown p.waiting more) → Adds f g kept 32 (choice_shown p.last failed fault) → Adds g h over 1 (not_shown p.going) → Adds h i fine 1 (match_shown fault 0)
    → Adds i j done 1 (both_shown over fine) → NextsMade d j width clock fault p failed (record { clock = next; fault = kept; done = done })
nexts_made d e f g h i j width clock fault p failed more next kept over fine done a b c o m t =
    let i_j = t.grows in
    let g_j = grows_then g h j o.grows (grows_then h i j m.grows i_j) in
    let f_j = grows_then f g j c.grows g_j in
    record {
      grows = grows_then d e j a.grows (grows_then e f j b.grows f_j);
      clock_shows = record {
        there = wire_stays f j next width f_j b.shows.there;
        is = λ x s.
            let in_f = settled_fewer f j x f_j s in
            b.shows.is x in_f ∙ ap (λ n. if is_one x p.waiting then n else 0) (a.shows.is x (settled_fewer e f x b.grows in_f));
      };
      fault_shows = shows_later g j kept 32 (next_fault_shown p.last failed fault) g_j (record { there = c.shows.there; is = λ x s. c.shows.is x s });
      done_shows = record {
        there = t.shows.there;
        is = λ x s.
            let in_i = settled_fewer i j x i_j s in
            let in_h = settled_fewer h i x m.grows in_i in
            let over_is : is_one x over ≡ not (is_one x p.going) = bit_tells (shown x over) _ (o.shows.is x in_h) in
            let fine_is : is_one x fine ≡ (shown x fault == 0) = bit_tells (shown x fine) _ (m.shows.is x in_i) in
            t.shows.is x s ∙ (λ k. bit (over_is k && fine_is k));
      };
    }
