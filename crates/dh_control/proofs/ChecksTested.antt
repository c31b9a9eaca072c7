-- Tests for the faults of operations: one operation, and operations one after the other.
use Rattle.std.proofs.Common.{◌≡◌, ℕ, zero, suc, ◌+◌, ◌<◌, ◌≤◌, ◌^◌, ◌&&◌, not, Bool, true, false, if◌then◌else◌, Some, None, List, [], ◌∷◌, ◌++◌, length, take, refl, sym, ap, subst, ◌∙◌, arith}
use Rattle.std.specs.Prelude.{Option, slice_index, get_or}
use Rattle.std.specs.List.{AllByRecursion}
use Rattle.std.proofs.lemmas.List.{append-nil, take_more}
use Rattle.dh_value.specs.declared.words.Word.{Word}
use Rattle.dh_value.specs.Operations.{is_true}
use Rattle.dh_plan.specs.declared.operations.Operation.{Operation}
use Rattle.dh_plan.specs.declared.operations.OperationForm.{OperationForm}
use Rattle.dh_plan.specs.declared.operations.OperationForm.TheVariants.{Constant, Old, Compute, Convert, Select, Check, Probe, Read, Write, Set}
use Rattle.dh_plan.specs.Blocks.{StepStart, BlockEvent, fails_unless, is_on, operation_form_events, block_events, first_fault}
use Rattle.dh_plan.specs.BlockLaws.{fault_or}
use Rattle.dh_plan.specs.Ordered.{one_or_none, form_takes, operation_takes}
use Rattle.dh_plan.proofs.Appends.{events_behind, fault_behind}
use Rattle.dh_cells.specs.FirstTests.{AreTested}
use Rattle.dh_cells.specs.PlainCircuits.{PlainCircuit}
use Rattle.dh_cells.specs.Settled.{Signals, Grows, IsWire, Adds, shown}
use Rattle.dh_cells.specs.ShownValues.{is_one, first_of, not_shown, both_shown, number_shown}
use Rattle.dh_cells.specs.declared.trees.Tested.{Tested}
use Rattle.dh_cells.proofs.CellsAppended.{grows_none, grows_then, settled_fewer, wire_stays}
use Rattle.dh_cells.proofs.OperatorBits.{bit_tells}
use Rattle.dh_cells.proofs.WireTrees.{tests_stay}
use Rattle.dh_control.specs.FaultTests.{code_or, code_where, CheckHasWire, CheckSuits, ChecksAdded}
use Rattle.dh_control.specs.OnWires.{on_shown, on_both_shown}
use Rattle.dh_control.specs.ValuesShown.{HasWire, IsShownValue}
use Rattle.dh_control.proofs.GuardsShown.{has_wire_stays, guard_stays, guard_is, both_tells}
use Rattle.dh_control.proofs.ListFacts.{all_front, all_back}

-- Tests behind others count where none of those shows 1.

pub first_behind : (x : Signals) (ts us : List Tested) (default : ℕ) → first_of x (ts ++ us) default ≡ first_of x ts (first_of x us default)
first_behind x [] us default = refl
first_behind x (t ∷ ts) us default = ap (λ (v : ℕ). if is_one x t.test then shown x t.value else v) (first_behind x ts us default)

tested_both : (d : PlainCircuit) (ts us : List Tested) (width : ℕ) → AreTested d ts width → AreTested d us width → AreTested d (ts ++ us) width
tested_both d [] us width h g = g
tested_both d (t ∷ ts) us width h g = (h.0, tested_both d ts us width h.1 g)

-- An operation that has no fault.

none_fails : (c t : Bool) (events : List BlockEvent) (default : ℕ) → first_fault events ≡ None → default ≡ code_where c (first_fault ((if t then events else []) ++ [])) default
none_fails true true events default e = sym (ap (λ (f : Option ℕ). code_or f default) (ap first_fault (append-nil events) ∙ e))
none_fails true false events default e = refl
none_fails false true events default e = refl
none_fails false false events default e = refl

pub nothing_checked : (d : PlainCircuit) (active : ℕ) (wires : List ℕ) (o : Operation) (tests : List Tested) (f : OperationForm) → o.form ≡ f
    → ((s : StepStart) (first : ℕ) (ws : List Word) → first_fault (operation_form_events s first ws f) ≡ None) → ChecksAdded d d active wires (o ∷ []) tests tests
nothing_checked d active wires o tests f is none = record {
  grows = grows_none d;
  tests = λ h. h;
  does = λ x s first ws kinds default settled h.
      ap (λ v. first_of x tests v)
      (none_fails (is_one x active) (is_on first ws o.guard) (operation_form_events s first ws o.form) default (ap (λ g. first_fault (operation_form_events s first ws g)) is ∙ none s first ws));
}

-- A check.

check_fits : (d : PlainCircuit) (wires : List ℕ) (o : Operation) (ok fault : ℕ) → o.form ≡ Check ok fault → CheckSuits d wires o → HasWire d wires 1 ok × (suc fault < 2 ^ 32)
check_fits d wires o ok fault is h = subst (λ (f : OperationForm). CheckHasWire d wires f) is h.check

pub check_value_there : (d : PlainCircuit) (wires : List ℕ) (o : Operation) (ok fault : ℕ) → o.form ≡ Check ok fault → CheckSuits d wires o → ok < length wires
check_value_there d wires o ok fault is h = (check_fits d wires o ok fault is h).0.0

pub check_wire : (d e : PlainCircuit) (wires : List ℕ) (o : Operation) (ok fault : ℕ) → Grows d e → o.form ≡ Check ok fault → CheckSuits d wires o → IsWire e (slice_index wires ok) 1
check_wire d e wires o ok fault g is h = wire_stays d e (slice_index wires ok) 1 g (check_fits d wires o ok fault is h).0.1

pub check_number : (d : PlainCircuit) (wires : List ℕ) (o : Operation) (ok fault : ℕ) → o.form ≡ Check ok fault → CheckSuits d wires o → fault + 1 < 2 ^ 32
check_number d wires o ok fault is h = let small = (check_fits d wires o ok fault is h).1 in let same : fault + 1 ≡ suc fault = omega arith in subst (λ (n : ℕ). n < 2 ^ 32) (sym same) small

pub no_probe : (d : PlainCircuit) (wires : List ℕ) (o : Operation) (f : OperationForm) → o.form ≡ f → CheckSuits d wires o → CheckHasWire d wires f
no_probe d wires o f is h = subst (λ (f : OperationForm). CheckHasWire d wires f) is h.check

by_tests : (c o t : Bool) (fault default : ℕ)
    → (if ((c && o) && not t) then suc fault else default) ≡ code_where c (first_fault ((if o then fails_unless fault t else []) ++ [])) default
by_tests true true true fault default = refl
by_tests true true false fault default = refl
by_tests true false t fault default = refl
by_tests false o t fault default = refl

pub check_added : (d e f g h : PlainCircuit) (active : ℕ) (wires : List ℕ) (o : Operation) (ok fault number asked wrong test value : ℕ) (before after : List Tested) → o.form ≡ Check ok fault
    → CheckSuits d wires o → number ≡ suc fault → Adds d e asked 1 (on_both_shown active wires o.guard) → Adds e f wrong 1 (not_shown (slice_index wires ok))
    → Adds f g test 1 (both_shown asked wrong) → Adds g h value 32 (number_shown number) → after ≡ before ++ record { test = test; value = value } ∷ []
    → ChecksAdded d h active wires (o ∷ []) before after
check_added d e f g h active wires o ok fault number asked wrong test value before after is suits same a b c n put =
    let e_h = grows_then e g h (grows_then e f g b.grows c.grows) n.grows in
    let f_h = grows_then f g h c.grows n.grows in
    let all = grows_then d e h a.grows e_h in
    record {
      grows = all;
      tests = λ were.
          subst (λ (l : List Tested). AreTested h l 32) (sym put)
          (tested_both h before _ 32 (tests_stay d h before 32 all were) (record { test = wire_stays g h test 1 n.grows c.shows.there; value = n.shows.there }, tt));
      does = λ x s first ws kinds default settled words.
          let takes : AllByRecursion (IsShownValue first ws kinds wires x) (one_or_none o.guard ++ (ok ∷ [])) =
          subst (λ (w : OperationForm). AllByRecursion (IsShownValue first ws kinds wires x) (one_or_none o.guard ++ form_takes w)) is words.each.0 in
          let guard = guard_is first ws kinds wires x o.guard (all_front (IsShownValue first ws kinds wires x) (one_or_none o.guard) (ok ∷ []) takes) in
          let word = (all_back (IsShownValue first ws kinds wires x) (one_or_none o.guard) (ok ∷ []) takes).0 in
          let in_g = settled_fewer g h x n.grows settled in
          let in_f = settled_fewer f g x c.grows in_g in
          let in_e = settled_fewer e f x b.grows in_f in
          let first_is = both_tells d e asked active wires o.guard x a in_e in
          let wrong_is : is_one x wrong ≡ not (is_one x (slice_index wires ok)) = bit_tells (shown x wrong) _ (b.shows.is x in_f) in
          let test_is : is_one x test ≡ (is_one x asked && is_one x wrong) = bit_tells (shown x test) _ (c.shows.is x in_g) in
          let value_is : shown x value ≡ suc fault = n.shows.is x settled ∙ same in
          ap (λ l. first_of x l default) put
          ∙ (first_behind x before _ default
          ∙ ap (λ v. first_of x before v)
          ((λ i. if test_is i then value_is i else default)
          ∙ ((λ i. if (first_is i && wrong_is i) then suc fault else default)
          ∙ (by_tests (is_one x active) (on_shown x wires o.guard) (is_one x (slice_index wires ok)) fault default
          ∙ (ap (λ (t : Bool). code_where (is_one x active) (first_fault ((if t then fails_unless fault (is_one x (slice_index wires ok)) else []) ++ [])) default) (sym guard)
          ∙ (ap (λ (w : Word). code_where (is_one x active) (first_fault ((if is_on first ws o.guard then fails_unless fault (is_true w) else []) ++ [])) default) (sym word)
          ∙ ap (λ (w : OperationForm). code_where (is_one x active) (first_fault ((if is_on first ws o.guard then operation_form_events s first ws w else []) ++ [])) default) (sym is)))))));
    }

-- Operations one after the other.

code_both : (a b : Option ℕ) (default : ℕ) → code_or (fault_or a b) default ≡ code_or a (code_or b default)
code_both None b default = refl
code_both (Some fault) b default = refl

codes_both : (c : Bool) (a b : List BlockEvent) (default : ℕ) → code_where c (first_fault a) (code_where c (first_fault b) default) ≡ code_where c (first_fault (a ++ b)) default
codes_both true a b default = sym (ap (λ (f : Option ℕ). code_or f default) (fault_behind a b) ∙ code_both (first_fault a) (first_fault b) default)
codes_both false a b default = refl

pub checks_then : (d e f : PlainCircuit) (active : ℕ) (wires : List ℕ) (os : List Operation) (o : Operation) (before mid after : List Tested) → ChecksAdded d e active wires os before mid
    → ChecksAdded e f active wires (o ∷ []) mid after → ChecksAdded d f active wires (os ++ o ∷ []) before after
checks_then d e f active wires os o before mid after p q = record {
  grows = grows_then d e f p.grows q.grows;
  tests = λ h. q.tests (p.tests h);
  does = λ x s first ws kinds default settled h.
      q.does x s first ws kinds default settled (record { each = all_back (λ w. AllByRecursion (IsShownValue first ws kinds wires x) (operation_takes w)) os (o ∷ []) h.each })
      ∙ (p.does x s first ws kinds (code_where (is_one x active) (first_fault (block_events s first ws (o ∷ []))) default) (settled_fewer e f x q.grows settled)
      (record { each = all_front (λ w. AllByRecursion (IsShownValue first ws kinds wires x) (operation_takes w)) os (o ∷ []) h.each })
      ∙ ap (λ v. first_of x before v)
      (codes_both (is_one x active) (block_events s first ws os) (block_events s first ws (o ∷ [])) default
      ∙ ap (λ l. code_where (is_one x active) (first_fault l) default) (sym (events_behind s first ws os (o ∷ [])))));
}

pub checks_begin : (d : PlainCircuit) (active : ℕ) (wires : List ℕ) (tests : List Tested) → ChecksAdded d d active wires [] tests tests
checks_begin d active wires tests = record {
  grows = grows_none d;
  tests = λ h. h;
  does = λ x s first ws kinds default settled h. ap (λ v. first_of x tests v) (none (is_one x active) default);
}
  where
    none : (c : Bool) (default : ℕ) → default ≡ code_where c None default
    none true default = refl
    none false default = refl

pub checks_turn : (d e f : PlainCircuit) (active : ℕ) (wires : List ℕ) (i : ℕ) (o : Operation) (os : List Operation) (before mid after : List Tested) → i < length os → o ≡ get_or os i o
    → ChecksAdded d e active wires (take i os) before mid → ChecksAdded e f active wires (o ∷ []) mid after → ChecksAdded d f active wires (take (i + 1) os) before after
checks_turn d e f active wires i o os before mid after less is p q =
    let next : take (i + 1) os ≡ take i os ++ o ∷ [] = take_more os i o less ∙ ap (λ (y : Operation). take i os ++ y ∷ []) (sym is) in
    subst (λ (l : List Operation). ChecksAdded d f active wires l before after) (sym next) (checks_then d e f active wires (take i os) o before mid after p q)

take_whole : (n : ℕ) (os : List Operation) → length os ≤ n → take n os ≡ os
take_whole zero [] less = refl
take_whole (suc n) [] less = refl
take_whole zero (o ∷ os) less = absurd (omega (arith, less))
take_whole (suc n) (o ∷ os) less = ap (λ l. o ∷ l) (take_whole n os (omega (arith, less)))

pub checks_done : (d e : PlainCircuit) (active : ℕ) (wires : List ℕ) (i : ℕ) (os : List Operation) (before after : List Tested) → length os ≤ i
    → ChecksAdded d e active wires (take i os) before after → ChecksAdded d e active wires os before after
checks_done d e active wires i os before after end h = subst (λ (l : List Operation). ChecksAdded d e active wires l before after) (take_whole i os end) h

pub suits_check_stay : (d e : PlainCircuit) (wires : List ℕ) (o : Operation) → Grows d e → CheckSuits d wires o → CheckSuits e wires o
suits_check_stay d e wires o g h = record { guard = guard_stays d e wires o.guard g h.guard; check = by o.form h.check }
  where
    by : (f : OperationForm) → CheckHasWire d wires f → CheckHasWire e wires f
    by (Constant word) h = tt
    by (Old register) h = tt
    by (Compute op left right) h = tt
    by (Convert inner to) h = tt
    by (Select test a b) h = tt
    by (Check ok fault) h = (has_wire_stays d e wires 1 ok g h.0, h.1)
    by (Probe r fault) h = h
    by (Read r) h = tt
    by (Write r value) h = tt
    by (Set register value) h = tt
