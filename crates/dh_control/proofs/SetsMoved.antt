-- Moves for the sets of operations: one operation, and operations one after the other.
use Rattle.std.proofs.Common.{◌≡◌, ℕ, suc, ◌-◌, ◌<◌, ◌≤◌, ◌&&◌, Bool, true, false, if◌then◌else◌, List, [], ◌∷◌, ◌++◌, length, drop, refl, sym, ap, subst, ◌∙◌, arith}
use Rattle.std.specs.Prelude.{slice_index, get_or}
use Rattle.std.specs.List.{AllByRecursion}
use Rattle.std.proofs.Math.Seq.{drop-cons}
use Rattle.std.proofs.Math.ListN.{drop_of_length-le}
use Rattle.std.proofs.lemmas.List.{append-nil}
use Rattle.dh_value.specs.declared.words.Word.{Word}
use Rattle.dh_plan.specs.declared.operations.Operation.{Operation}
use Rattle.dh_plan.specs.declared.operations.OperationForm.{OperationForm}
use Rattle.dh_plan.specs.declared.operations.OperationForm.TheVariants.{Constant, Old, Compute, Convert, Select, Check, Probe, Read, Write, Set}
use Rattle.dh_plan.specs.Blocks.{RegisterSet, is_on, form_sets, operation_sets, block_sets, all_set}
use Rattle.dh_plan.specs.Ordered.{one_or_none, form_takes}
use Rattle.dh_plan.proofs.Appends.{sets_in_order}
use Rattle.dh_cells.specs.PlainCircuits.{PlainCircuit}
use Rattle.dh_cells.specs.Settled.{Signals, Grows, Adds, shown}
use Rattle.dh_cells.specs.ShownValues.{is_one}
use Rattle.dh_cells.proofs.CellsAppended.{grows_none, grows_then, settled_fewer, wire_stays}
use Rattle.dh_control.specs.MovedValues.{Move, set_where, moved_values, MoveFits, AreMoves}
use Rattle.dh_control.specs.OnWires.{on_shown, on_both_shown}
use Rattle.dh_control.specs.RegisterSets.{all_set_where, SetHasWire, SetSuits, SetsAdded}
use Rattle.dh_control.specs.ValuesShown.{HasWire, IsShownValue}
use Rattle.dh_control.proofs.GuardsShown.{has_wire_stays, guard_stays, guard_is, both_tells}
use Rattle.dh_control.proofs.ListFacts.{all_front, all_back, all_both}
use Rattle.dh_control.proofs.MovedLists.{moves_stay}

-- Moves behind others are made first.
pub moved_behind : (x : Signals) (ms ns : List Move) (values : List ℕ) → moved_values x (ms ++ ns) values ≡ moved_values x ms (moved_values x ns values)
moved_behind x [] ns values = refl
moved_behind x (m ∷ ms) ns values = ap (λ vs. set_where (is_one x m.item.test) m.key (shown x m.item.value) vs) (moved_behind x ms ns values)

-- An operation that sets nothing.

none_set : (c t : Bool) (sets : List RegisterSet) (values : List ℕ) → sets ≡ [] → values ≡ all_set_where c ((if t then sets else []) ++ []) values
none_set true true sets values e = ap (λ (l : List RegisterSet). all_set (l ++ []) values) (sym e)
none_set true false sets values e = refl
none_set false true sets values e = refl
none_set false false sets values e = refl

pub nothing_set : (d : PlainCircuit) (widths : List ℕ) (commit : ℕ) (wires : List ℕ) (o : Operation) (moves : List Move) (f : OperationForm) → o.form ≡ f
    → ((first : ℕ) (ws : List Word) → form_sets first ws f ≡ []) → SetsAdded d d widths commit wires (o ∷ []) moves moves
nothing_set d widths commit wires o moves f is none = record {
  grows = grows_none d;
  moves = λ h. h;
  does = λ x first ws kinds values s h.
      ap (λ vs. moved_values x moves vs)
      (none_set (is_one x commit) (is_on first ws o.guard) (form_sets first ws o.form) values (ap (λ g. form_sets first ws g) is ∙ none first ws));
}

-- One that sets a register.

by_tests : (c o : Bool) (r v : ℕ) (values : List ℕ)
    → set_where (c && o) r v values ≡ all_set_where c ((if o then record { register = r; bits = v } ∷ [] else []) ++ []) values
by_tests true true r v values = refl
by_tests true false r v values = refl
by_tests false true r v values = refl
by_tests false false r v values = refl

set_fits : (d : PlainCircuit) (widths wires : List ℕ) (o : Operation) (register value : ℕ) → o.form ≡ Set register value → SetSuits d widths wires o
    → HasWire d wires (slice_index widths register) value
set_fits d widths wires o register value is h = subst (λ (f : OperationForm). SetHasWire d widths wires f) is h.value

pub set_value_there : (d : PlainCircuit) (widths wires : List ℕ) (o : Operation) (register value : ℕ) → o.form ≡ Set register value → SetSuits d widths wires o → value < length wires
set_value_there d widths wires o register value is h = (set_fits d widths wires o register value is h).0

pub set_added : (d e : PlainCircuit) (widths : List ℕ) (commit : ℕ) (wires : List ℕ) (o : Operation) (register value test : ℕ) (before after : List Move) → o.form ≡ Set register value
    → SetSuits d widths wires o → Adds d e test 1 (on_both_shown commit wires o.guard)
    → after ≡ before ++ record { key = register; item = record { test = test; value = slice_index wires value } } ∷ []
    → SetsAdded d e widths commit wires (o ∷ []) before after
set_added d e widths commit wires o register value test before after is suits a put = record {
  grows = a.grows;
  moves = λ h.
      subst (λ (l : List Move). AreMoves e widths l) (sym put)
      (all_both (MoveFits e widths) before _ (moves_stay d e widths before a.grows h)
      ((λ less. record { test = a.shows.there; value = wire_stays d e (slice_index wires value) (slice_index widths register) a.grows (set_fits d widths wires o register value is suits).1 }), tt));
  does = λ x first ws kinds values s h.
      let takes : AllByRecursion (IsShownValue first ws kinds wires x) (one_or_none o.guard ++ (value ∷ [])) =
      subst (λ (f : OperationForm). AllByRecursion (IsShownValue first ws kinds wires x) (one_or_none o.guard ++ form_takes f)) is h.each.0 in
      let guard = guard_is first ws kinds wires x o.guard (all_front (IsShownValue first ws kinds wires x) (one_or_none o.guard) (value ∷ []) takes) in
      let word = (all_back (IsShownValue first ws kinds wires x) (one_or_none o.guard) (value ∷ []) takes).0 in
      ap (λ l. moved_values x l values) put
      ∙ (moved_behind x before _ values
      ∙ ap (λ vs. moved_values x before vs)
      (ap (λ t. set_where t register (shown x (slice_index wires value)) values) (both_tells d e test commit wires o.guard x a s)
      ∙ (by_tests (is_one x commit) (on_shown x wires o.guard) register (shown x (slice_index wires value)) values
      ∙ (ap (λ (t : Bool). all_set_where (is_one x commit) ((if t then record { register = register; bits = shown x (slice_index wires value) } ∷ [] else []) ++ []) values) (sym guard)
      ∙ (ap (λ (w : Word). all_set_where (is_one x commit) ((if is_on first ws o.guard then record { register = register; bits = w.bits } ∷ [] else []) ++ []) values) (sym word)
      ∙ ap (λ (f : OperationForm). all_set_where (is_one x commit) ((if is_on first ws o.guard then form_sets first ws f else []) ++ []) values) (sym is))))));
}

-- One in front of others.

two_sets : (c : Bool) (ss more : List RegisterSet) (values : List ℕ) → all_set_where c more (all_set_where c (ss ++ []) values) ≡ all_set_where c (ss ++ more) values
two_sets true ss more values = ap (λ (l : List RegisterSet). all_set more (all_set l values)) (append-nil ss) ∙ sym (sets_in_order ss more values)
two_sets false ss more values = refl

pub sets_then : (d e f : PlainCircuit) (widths : List ℕ) (commit : ℕ) (wires : List ℕ) (o : Operation) (os : List Operation) (before mid after : List Move)
    → SetsAdded d e widths commit wires os before mid → SetsAdded e f widths commit wires (o ∷ []) mid after → SetsAdded d f widths commit wires (o ∷ os) before after
sets_then d e f widths commit wires o os before mid after p q = record {
  grows = grows_then d e f p.grows q.grows;
  moves = λ h. q.moves (p.moves h);
  does = λ x first ws kinds values s h.
      q.does x first ws kinds values s (record { each = (h.each.0, tt) })
      ∙ (p.does x first ws kinds (all_set_where (is_one x commit) (block_sets first ws (o ∷ [])) values) (settled_fewer e f x q.grows s) (record { each = h.each.1 })
      ∙ ap (λ vs. moved_values x before vs) (two_sets (is_one x commit) (operation_sets first ws o) (block_sets first ws os) values));
}

pub none_added : (d : PlainCircuit) (widths : List ℕ) (commit : ℕ) (wires : List ℕ) (moves : List Move) → SetsAdded d d widths commit wires [] moves moves
none_added d widths commit wires moves = record {
  grows = grows_none d;
  moves = λ h. h;
  does = λ x first ws kinds values s h. ap (λ vs. moved_values x moves vs) (none (is_one x commit) values);
}
  where
    none : (c : Bool) (values : List ℕ) → values ≡ all_set_where c [] values
    none true values = refl
    none false values = refl

-- the loop over operations, from the last to the first
pub sets_begin : (d : PlainCircuit) (widths : List ℕ) (commit : ℕ) (wires : List ℕ) (os : List Operation) (moves : List Move) → SetsAdded d d widths commit wires (drop (length os) os) moves moves
sets_begin d widths commit wires os moves =
    subst (λ (l : List Operation). SetsAdded d d widths commit wires l moves moves) (sym (drop_of_length-le os (let n : length os ≤ length os = omega arith in n))) (none_added d widths commit wires moves)

pub sets_turn : (d e f : PlainCircuit) (widths : List ℕ) (commit : ℕ) (wires : List ℕ) (n : ℕ) (o : Operation) (os : List Operation) (before mid after : List Move) → 0 < n → n ≤ length os → o ≡ get_or os (n - 1) o
    → SetsAdded d e widths commit wires (drop n os) before mid → SetsAdded e f widths commit wires (o ∷ []) mid after → SetsAdded d f widths commit wires (drop (n - 1) os) before after
sets_turn d e f widths commit wires n o os before mid after some less is p q =
    let now : drop (n - 1) os ≡ o ∷ drop (suc (n - 1)) os = drop-cons os (n - 1) o (omega (arith, some, less)) ∙ ap (λ (y : Operation). y ∷ drop (suc (n - 1)) os) (sym is) in
    let next : drop n os ≡ drop (suc (n - 1)) os = (let m : n ≡ suc (n - 1) = omega (arith, some) in ap (λ k. drop k os) m) in
    subst (λ (l : List Operation). SetsAdded d f widths commit wires l before after) (sym now)
    (sets_then d e f widths commit wires o (drop (suc (n - 1)) os) before mid after (subst (λ (l : List Operation). SetsAdded d e widths commit wires l before mid) next p) q)

pub suits_stay : (d e : PlainCircuit) (widths wires : List ℕ) (o : Operation) → Grows d e → SetSuits d widths wires o → SetSuits e widths wires o
suits_stay d e widths wires o g h = record { guard = guard_stays d e wires o.guard g h.guard; value = by o.form h.value }
  where
    by : (f : OperationForm) → SetHasWire d widths wires f → SetHasWire e widths wires f
    by (Constant word) h = tt
    by (Old register) h = tt
    by (Compute op left right) h = tt
    by (Convert inner to) h = tt
    by (Select test a b) h = tt
    by (Check ok fault) h = tt
    by (Probe r fault) h = tt
    by (Read r) h = tt
    by (Write r value) h = tt
    by (Set register value) h = has_wire_stays d e wires (slice_index widths register) value g h
