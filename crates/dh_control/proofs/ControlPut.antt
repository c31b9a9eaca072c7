-- The parts of the control, put together.
use Rattle.std.proofs.Common.{◌≡◌, ℕ, zero, suc, ◌<◌, ◌==◌, ◌&&◌, not, inl, List, [], ◌∷◌, length, refl, sym, ap, subst, ◌∙◌, arith}
use Rattle.std.specs.Prelude.{slice_index}
use Rattle.dh_plan.specs.declared.graphs.State.{State}
use Rattle.dh_plan.specs.declared.operations.PlanBlock.{PlanBlock}
use Rattle.dh_cells.specs.FirstTests.{AreTested}
use Rattle.dh_cells.specs.PlainCircuits.{PlainCircuit}
use Rattle.dh_cells.specs.Settled.{Signals, IsSettled, Grows, IsWire, AreWires, shown}
use Rattle.dh_cells.specs.ShownValues.{is_one, any_one, first_of}
use Rattle.dh_cells.specs.declared.trees.Tested.{Tested}
use Rattle.dh_cells.proofs.CellsAppended.{grows_then, settled_fewer, wire_stays}
use Rattle.dh_cells.proofs.OperatorBits.{bit_tells}
use Rattle.dh_cells.proofs.WireTrees.{tests_stay}
use Rattle.dh_control.specs.declared.gathering.Keyed.{Keyed}
use Rattle.dh_control.specs.declared.stepping.Pace.{Pace}
use Rattle.dh_control.specs.declared.stepping.Verdict.{Verdict}
use Rattle.dh_control.specs.AllBlocks.{state_ways, AllChecksAdded, AllSetsAdded, WaysAdded}
use Rattle.dh_control.specs.ControlsMade.{ActivityMade, OutcomeMade, AfterMade, ResultsMade}
use Rattle.dh_control.specs.KeyedItems.{items_picked}
use Rattle.dh_control.specs.MovedValues.{Move, moved_values, AreMoves, MovesMade}
use Rattle.dh_control.specs.SizedWires.{WiresAreSized, shown_all}
use Rattle.dh_control.specs.StateWires.{AreStands, StandsMade, active_shown, with_each_shown}
use Rattle.dh_control.specs.StepWires.{PaceMade, VerdictMade}
use Rattle.dh_control.specs.WayMoves.{LeadAdded}
use Rattle.dh_control.specs.WireLists.{EachTells}
use Rattle.dh_control.proofs.MovedLists.{moves_stay, sized_stay}
use Rattle.dh_control.proofs.StandsTell.{AreBits, stands_bits, stands_later, stands_tell, wires_from}

-- Where the graph stands.

pub bits_of_stands : (d e : PlainCircuit) (state : ℕ) (blocks : List ℕ) (stands list : List (Keyed ℕ)) → StandsMade d e state blocks stands → list ≡ stands → AreBits e list
bits_of_stands d e state blocks stands list h same = subst (λ (l : List (Keyed ℕ)). AreBits e l) (sym same) (stands_bits e state 0 blocks stands h.stands_are)

each_wires : (d e : PlainCircuit) (value : ℕ → Signals → ℕ) (count : ℕ) (wires : List ℕ) → EachTells d e value count wires → AreWires e wires 1
each_wires d e value count wires h = wires_from e 1 wires (λ i less. (h.each i (let l = h.long in omega (arith, less, l))).there)

pub activity_made : (d e f : PlainCircuit) (state : ℕ) (blocks : List ℕ) (count : ℕ) (stands list : List (Keyed ℕ)) (active : List ℕ) → StandsMade d e state blocks stands → list ≡ stands
    → EachTells e f (active_shown list) count active → ActivityMade d f state blocks count (record { stands = stands; active = active })
activity_made d e f state blocks count stands list active h same a = record {
  grows = grows_then d e f h.grows a.grows;
  stands_are = stands_later e f state 0 blocks stands a.grows h.stands_are;
  long = a.long;
  wires = each_wires e f (active_shown list) count active a;
  active_is = λ x b s less.
      bit_tells (shown x (slice_index active b)) _ ((a.each b less).is x s)
      ∙ (ap (λ l. any_one x (items_picked b l)) same ∙ stands_tell e x (settled_fewer e f x a.grows s) state b 0 (shown x state) blocks stands (omega arith) h.stands_are);
}

-- What becomes of a step.

pub checks_tests : (d e f : PlainCircuit) (active wires : List ℕ) (blocks : List PlanBlock) (before tests list : List Tested) → before ≡ [] → AllChecksAdded d e active wires blocks before tests → Grows e f → list ≡ tests → AreTested f list 32
checks_tests d e f active wires blocks before tests list none h g same =
    subst (λ (l : List Tested). AreTested f l 32) (sym same) (tests_stay e f tests 32 g (h.tests (subst (λ (l : List Tested). AreTested d l 32) (sym none) tt)))

pub outcome_made : (d e f g h : PlainCircuit) (clock : ℕ) (active lengths wires : List ℕ) (blocks : List PlanBlock) (before tests list : List Tested) (p : Pace) (v : Verdict) (commits : List ℕ)
    → before ≡ [] → AllChecksAdded d e active wires blocks before tests → PaceMade e f clock active lengths p → list ≡ tests → VerdictMade f g p.last list v
    → EachTells g h (with_each_shown v.commit active) (length active) commits → OutcomeMade d h clock active lengths wires blocks (record { pace = p; verdict = v; commits = commits })
outcome_made d e f g h clock active lengths wires blocks before tests list p v commits none a0 b same c m =
    let a : AllChecksAdded d e active wires blocks [] tests = subst (λ (l : List Tested). AllChecksAdded d e active wires blocks l tests) none a0 in
    let f_h = grows_then f g h c.grows m.grows in
    let in_f : (x : Signals) → IsSettled h x → IsSettled f x = (λ x s. settled_fewer f h x f_h s) in
    let in_g : (x : Signals) → IsSettled h x → IsSettled g x = (λ x s. settled_fewer g h x m.grows s) in
    record {
      grows = grows_then d e h a.grows (grows_then e f h b.grows f_h);
      going = wire_stays f h p.going 1 f_h b.going;
      waiting = wire_stays f h p.waiting 1 f_h b.waiting;
      last = wire_stays f h p.last 1 f_h b.last;
      failed = wire_stays g h v.failed 32 m.grows c.failed;
      commit = wire_stays g h v.commit 1 m.grows c.commit;
      faulted = wire_stays g h v.faulted 1 m.grows c.faulted;
      commits = each_wires g h (with_each_shown v.commit active) (length active) commits m;
      commits_long = m.long;
      going_is = λ x s. b.going_is x (in_f x s);
      waiting_is = λ x s. b.waiting_is x (in_f x s);
      last_is = λ x s. b.last_is x (in_f x s);
      failed_is = λ x start w kinds s words.
          c.failed_is x (in_g x s) ∙ (ap (λ l. first_of x l 0) same ∙ a.does x start w kinds 0 (settled_fewer e f x b.grows (in_f x s)) words);
      commit_is = λ x s. c.commit_is x (in_g x s) ∙ ap (λ n. is_one x p.last && (n == 0)) (sym (c.failed_is x (in_g x s)));
      faulted_is = λ x s. c.faulted_is x (in_g x s) ∙ ap (λ n. is_one x p.last && not (n == 0)) (sym (c.failed_is x (in_g x s)));
      commits_are = λ x i s less. bit_tells (shown x (slice_index commits i)) _ ((m.each i less).is x s);
    }

-- The registers after sets.

pub sets_moves : (d e : PlainCircuit) (widths commits wires : List ℕ) (blocks : List PlanBlock) (before moves list : List Move) → before ≡ [] → AllSetsAdded d e widths commits wires 0 blocks before moves → list ≡ moves
    → AreMoves e widths list
sets_moves d e widths commits wires blocks before moves list none h same =
    subst (λ (l : List Move). AreMoves e widths l) (sym same) (h.moves (subst (λ (l : List Move). AreMoves d widths l) (sym none) tt))

pub after_made : (d e f : PlainCircuit) (widths registers commits wires : List ℕ) (blocks : List PlanBlock) (before moves list : List Move) (after : List ℕ) → before ≡ [] → AllSetsAdded d e widths commits wires 0 blocks before moves
    → list ≡ moves
    → MovesMade e f widths registers list after → AfterMade d f widths registers commits wires blocks after
after_made d e f widths registers commits wires blocks before moves list after none a0 same b =
    let a : AllSetsAdded d e widths commits wires 0 blocks [] moves = subst (λ (l : List Move). AllSetsAdded d e widths commits wires 0 blocks l moves) none a0 in
    record {
      grows = grows_then d e f a.grows b.grows;
      sized = b.sized;
      shows = λ x w kinds s words.
          b.shows x s ∙ (ap (λ l. moved_values x l (shown_all x registers)) same ∙ a.does x w kinds (shown_all x registers) (settled_fewer e f x b.grows s) words);
    }

-- The registers and the state after the step.

pub from_none : (d : PlainCircuit) (widths : List ℕ) (moves : List Move) → moves ≡ [] → AreMoves d widths moves
from_none d widths moves none = subst (λ (l : List Move). AreMoves d widths l) (sym none) tt

pub moves_listed : (d e : PlainCircuit) (widths : List ℕ) (moves list : List Move) → Grows d e → AreMoves d widths moves → list ≡ moves → AreMoves e widths list
moves_listed d e widths moves list g h same = subst (λ (l : List Move). AreMoves e widths l) (sym same) (moves_stay d e widths moves g h)

pub one_sized : (d e : PlainCircuit) (width wire : ℕ) → Grows d e → IsWire d wire width → WiresAreSized e (width ∷ []) (wire ∷ [])
one_sized d e width wire g h = record {
  long = refl;
  each = λ i less. by i less;
}
  where
    by : (i : ℕ) → i < 1 → IsWire e (slice_index (wire ∷ []) i) (slice_index (width ∷ []) i)
    by zero less = wire_stays d e wire width g h
    by (suc i) less = absurd (omega (arith, less))

pub results_made : (d e f g h : PlainCircuit) (widths after copy : List ℕ) (width state : ℕ) (v : Verdict) (states : List State) (start moves list start2 leads leads2 more : List Move) (news next : List ℕ) → copy ≡ after
    → start ≡ [] → start2 ≡ [] → WaysAdded d e widths width (length states) state v.commit copy (state_ways states) (length states) start moves start2 leads → LeadAdded e f width v.faulted (length states) leads leads2 → list ≡ moves
    → MovesMade f g widths after list news → more ≡ leads2 → MovesMade g h (width ∷ []) (state ∷ []) more next
    → ResultsMade d h widths after width state v states (record { news = news; state = next })
results_made d e f g h widths after copy width state v states start moves list start2 leads leads2 more news next copied none none2 a1 b same c other m =
    let a0 : WaysAdded d e widths width (length states) state v.commit copy (state_ways states) (length states) [] moves [] leads =
    subst (λ (l : List Move). WaysAdded d e widths width (length states) state v.commit copy (state_ways states) (length states) [] moves l leads) none2
    (subst (λ (l : List Move). WaysAdded d e widths width (length states) state v.commit copy (state_ways states) (length states) l moves start2 leads) none a1) in
    let a : WaysAdded d e widths width (length states) state v.commit after (state_ways states) (length states) [] moves [] leads =
    subst (λ (l : List ℕ). WaysAdded d e widths width (length states) state v.commit l (state_ways states) (length states) [] moves [] leads) copied a0 in
    let in_g : (x : Signals) → IsSettled h x → IsSettled g x = (λ x s. settled_fewer g h x m.grows s) in
    let in_f : (x : Signals) → IsSettled h x → IsSettled f x = (λ x s. settled_fewer f g x c.grows (in_g x s)) in
    let in_e : (x : Signals) → IsSettled h x → IsSettled e x = (λ x s. settled_fewer e f x b.grows (in_f x s)) in
    let news_are : (x : Signals) → IsSettled h x → shown_all x news ≡ moved_values x moves (shown_all x after) =
    (λ x s. c.shows x (in_g x s) ∙ ap (λ l. moved_values x l (shown_all x after)) same) in
    let next_is : (x : Signals) → IsSettled h x → shown_all x next ≡ moved_values x leads2 (shown x state ∷ []) =
    (λ x s. m.shows x s ∙ ap (λ l. moved_values x l (shown x state ∷ [])) other) in
    record {
      grows = grows_then d e h a.grows (grows_then e f h b.grows (grows_then f g h c.grows m.grows));
      news = sized_stay g h widths news m.grows c.sized;
      next = m.sized;
      turns = λ x kinds n s same_widths on at less. news_are x s ∙ a.turns x kinds n (in_e x s) same_widths on at less;
      keeps = λ x s off. news_are x s ∙ a.keeps x (shown_all x after) (in_e x s) (inl off);
      goes = λ x kinds n s same_widths on fine at less.
          next_is x s ∙ (b.stays x (shown x state ∷ []) (in_f x s) fine ∙ a.goes x kinds n (shown x state) (in_e x s) same_widths on at less);
      halts = λ x s off wrong. next_is x s ∙ (b.goes x (shown x state) (in_f x s) wrong ∙ a.stays x (length states ∷ []) (in_e x s) (inl off));
      stays = λ x s off fine. next_is x s ∙ (b.stays x (shown x state ∷ []) (in_f x s) fine ∙ a.stays x (shown x state ∷ []) (in_e x s) (inl off));
    }

-- stands of a slice, behind more cells
pub stands_listed : (d e : PlainCircuit) (state : ℕ) (blocks : List ℕ) (stands list : List (Keyed ℕ)) → Grows d e → AreStands d state 0 blocks stands → list ≡ stands → AreStands e state 0 blocks list
stands_listed d e state blocks stands list g h same = subst (λ (l : List (Keyed ℕ)). AreStands e state 0 blocks l) (sym same) (stands_later d e state 0 blocks stands g h)
