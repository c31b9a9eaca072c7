-- Code of commands stays what it is when more is added behind it.
use Rattle.std.proofs.Common.{◌≡◌, ℕ, zero, suc, ◌+◌, ◌-◌, ◌≤◌, List, [], ◌∷◌, ◌++◌, length, drop, take, Some, None, ◌⊎◌, inl, inr, refl, ap, sym, ◌∙◌, subst, arith, append_assoc, append-nil}
use Rattle.std.specs.Prelude.{Option, slice_get, slice_range}
use Rattle.std.specs.List.{AllByRecursion}
use Rattle.std.proofs.lemmas.List.{length-append, length-drop, take-append-le}
use Rattle.std.proofs.lemmas.Option.{slice_get_within}
use Rattle.dh_tree.specs.declared.tables.MemEntry.{MemEntry}
use Rattle.dh_meaning.specs.Core.{Reach, CoreTerm, CoreTerms, CoreCommand, store, assign, choose, keep, CoreCommands, no_commands, command_and}
use Rattle.dh_meaning.specs.Core as core
use Rattle.dh_code.specs.declared.codes.Access.{Access}
use Rattle.dh_code.specs.declared.codes.Action.{Action}
use Rattle.dh_code.specs.declared.codes.Action.TheVariants.{Store, Assign, Keep, Choose}
use Rattle.dh_code.specs.declared.codes.Operand.{Operand}
use Rattle.dh_code.specs.declared.codes.Code.{Code}
use Rattle.dh_code.specs.declared.codes.FlatExpression.{FlatExpression}
use Rattle.dh_code.specs.declared.codes.CodeOperation.{CodeOperation}
use Rattle.dh_code.specs.declared.codes.ListedCommand.{ListedCommand}
use Rattle.dh_code.specs.declared.places.VariableSlots.{VariableSlots}
use Rattle.dh_code.specs.Coded.{AreCoded, AreFlat, ExtendsCode, IsCoded, IsFlat, IsFlatStore, operands_kept}
use Rattle.dh_code.specs.Flattening.{AddsOnlyOperations, AddsStep}
use Rattle.dh_code.specs.Operated.{IsOperation}
use Rattle.dh_code.specs.Scenes.{IsAction, IsEarlier, IsHeld, IsSoundCode, IsStep}
use Rattle.dh_code.proofs.MadeParts.{all_append}

pub get_before : {A : Type 0} (xs ys : List A) (i : ℕ) (x : A) → slice_get xs i ≡ Some x → slice_get (xs ++ ys) i ≡ Some x
get_before [] ys i x e = absurd cc
get_before (y ∷ xs) ys zero x e = e
get_before (y ∷ xs) ys (suc i) x e = get_before xs ys i x e

pub get_last : {A : Type 0} (xs : List A) (x : A) → slice_get (xs ++ x ∷ []) (length xs) ≡ Some x
get_last [] x = refl
get_last (y ∷ xs) x = get_last xs x

drop_before : {A : Type 0} (xs ys : List A) (n : ℕ) → n ≤ length xs → drop n (xs ++ ys) ≡ drop n xs ++ ys
drop_before [] ys zero h = refl
drop_before [] ys (suc n) h = absurd (none n h)
  where
    none : (n : ℕ) → suc n ≤ 0 → ⊥
    none n e = omega (arith, e)
drop_before (x ∷ xs) ys zero h = refl
drop_before (x ∷ xs) ys (suc n) h = drop_before xs ys n (less n (length xs) h)
  where
    less : (m l : ℕ) → suc m ≤ suc l → m ≤ l
    less m l e = omega (arith, e)

pub range_before : {A : Type 0} (xs ys : List A) (a b : ℕ) → a ≤ b → b ≤ length xs → slice_range (xs ++ ys) a b ≡ slice_range xs a b
range_before xs ys a b le within =
    ap (λ l. take (b - a) l) (drop_before xs ys a (omega (arith, le, within)))
    ∙ take-append-le (b - a) (drop a xs) ys (subst (λ (n : ℕ). b - a ≤ n) (sym (length-drop a xs)) (omega (arith, le, within)))

-- the range behind a list is what was added
pub range_added : {A : Type 0} (xs ys : List A) (b : ℕ) → b ≡ length xs + length ys → slice_range (xs ++ ys) (length xs) b ≡ ys
range_added [] ys b is = ap (λ n. take n ys) (less b (length ys) is) ∙ all_taken ys
  where
    less : (b n : ℕ) → b ≡ 0 + n → b - 0 ≡ n
    less b n e = omega (arith, e)

    all_taken : {A : Type 0} (zs : List A) → take (length zs) zs ≡ zs
    all_taken [] = refl
    all_taken (z ∷ zs) = ap (λ l. z ∷ l) (all_taken zs)
range_added (x ∷ xs) ys b is = ap (λ n. take n (drop (length xs) (xs ++ ys))) (less b (length xs)) ∙ range_added xs ys (b - 1) (one_less b (length xs) (length ys) is)
  where
    less : (b n : ℕ) → b - suc n ≡ (b - 1) - n
    less b n = omega arith

    one_less : (b n m : ℕ) → b ≡ suc n + m → b - 1 ≡ n + m
    one_less b n m e = omega (arith, e)

pub extends_none : (c : Code) → ExtendsCode c c
extends_none c = record { operations = []; are = sym (append-nil c.operations); steps = []; lead = sym (append-nil c.steps) }

pub extends_then : (a b c : Code) → ExtendsCode a b → ExtendsCode b c → ExtendsCode a c
extends_then a b c h k = record {
  operations = h.operations ++ k.operations;
  are = k.are ∙ (ap (λ l. l ++ k.operations) h.are ∙ append_assoc a.operations h.operations k.operations);
  steps = h.steps ++ k.steps;
  lead = k.lead ∙ (ap (λ l. l ++ k.steps) h.lead ∙ append_assoc a.steps h.steps k.steps);
}

pub adds_extend : (a b : Code) (xs : List CodeOperation) → AddsOnlyOperations a b xs → ExtendsCode a b
adds_extend a b xs h = record { operations = xs; are = h.operations; steps = []; lead = h.steps ∙ sym (append-nil a.steps) }

pub step_extends : (a b : Code) (x : Action) (next first : Option ℕ) → AddsStep a b x next first → ExtendsCode a b
step_extends a b x next first h = record { operations = []; are = h.operations ∙ sym (append-nil a.operations); steps = record { action = x; next = next } ∷ []; lead = h.steps }

longer : (a b : Code) (n : ℕ) → ExtendsCode a b → n ≤ length a.operations → n ≤ length b.operations
longer a b n h within = by (length a.operations) (length h.operations) (length b.operations) (ap (λ l. length l) h.are ∙ length-append a.operations h.operations) within
  where
    by : (x y z : ℕ) → z ≡ x + y → n ≤ x → n ≤ z
    by x y z e f = omega (arith, e, f)

pub range_stays : (a b : Code) (from to : ℕ) → ExtendsCode a b → from ≤ to → to ≤ length a.operations → slice_range b.operations from to ≡ slice_range a.operations from to
range_stays a b from to h le within = ap (λ l. slice_range l from to) h.are ∙ range_before a.operations h.operations from to le within

same_range : (a b : Code) (f : FlatExpression) → ExtendsCode a b → f.from ≤ f.to → f.to ≤ length a.operations → slice_range b.operations f.from f.to ≡ slice_range a.operations f.from f.to
same_range a b f h le within = range_stays a b f.from f.to h le within

module _ (held : List VariableSlots) (table : List MemEntry) (a b : Code) (h : ExtendsCode a b) where
  pub flat_stays : (t : CoreTerm) (f : FlatExpression) → IsFlat held table a t f → IsFlat held table b t f
  flat_stays t f i = record { within = i.within; there = longer a b f.to h i.there; operations = same_range a b f h i.within i.there ∙ i.operations; value = i.value }

  pub values_stay : (ts : CoreTerms) (from to : ℕ) (os : List Operand) → AreFlat held table a ts from to os → AreFlat held table b ts from to os
  values_stay ts from to os i = record { within = i.within; there = longer a b to h i.there; operations = range_stays a b from to h i.within i.there ∙ i.operations; values = i.values }

  pub store_stays : (r : Reach) (target : core.Target) (t : CoreTerm) (f : FlatExpression) (x : Access) → IsFlatStore held table a r target t f x → IsFlatStore held table b r target t f x
  store_stays r target t f x i = record { within = i.within; there = longer a b f.to h i.there; operations = same_range a b f h i.within i.there ∙ i.operations; value = i.value; access = i.access }

  mutual
    pub coded_stays : (first : Option ℕ) (cs : CoreCommands) → AreCoded held table a first cs → AreCoded held table b first cs
    coded_stays None no_commands i = tt
    coded_stays None (command_and c cs) i = absurd i
    coded_stays (Some at) no_commands i = absurd i
    coded_stays (Some at) (command_and c cs) (s, (get, (one, rest))) =
        (s, (ap (λ l. slice_get l at) h.lead ∙ get_before a.steps h.steps at s get, (one_stays s.action c one, coded_stays s.next cs rest)))

    one_stays : (x : Action) (c : CoreCommand) → IsCoded held table a x c → IsCoded held table b x c
    one_stays (Store f y) (store r target value) i = store_stays r target value f y i
    one_stays (Store f y) (assign depth entity value) i = absurd i
    one_stays (Store f y) (choose test chosen other) i = absurd i
    one_stays (Store f y) (keep depth first values) i = absurd i
    one_stays (Assign f first depth) (store r target value) i = absurd i
    one_stays (Assign f first depth) (assign deep entity value) i = (flat_stays value f i.0, i.1)
    one_stays (Assign f first depth) (choose test chosen other) i = absurd i
    one_stays (Assign f first depth) (keep deep entity values) i = absurd i
    one_stays (Keep from to values depth) (store r target value) i = absurd i
    one_stays (Keep from to values depth) (assign deep entity value) i = absurd i
    one_stays (Keep from to values depth) (choose test chosen other) i = absurd i
    one_stays (Keep from to values depth) (keep deep entity terms) i = (values_stay terms from to (operands_kept values) i.0, i.1)
    one_stays (Choose f one two) (store r target value) i = absurd i
    one_stays (Choose f one two) (assign depth entity value) i = absurd i
    one_stays (Choose f one two) (keep depth first values) i = absurd i
    one_stays (Choose f one two) (choose test chosen other) i = (flat_stays test f i.0, (coded_stays one chosen i.1.0, coded_stays two other i.1.1))

-- a list of commands that is there begins before the number of the next one
pub begins_before : (held : List VariableSlots) (table : List MemEntry) (c : Code) (first : Option ℕ) (cs : CoreCommands) → AreCoded held table c first cs → IsEarlier (length c.steps) first
begins_before held table c None cs i = tt
begins_before held table c (Some at) no_commands i = absurd i
begins_before held table c (Some at) (command_and x cs) (s, (get, rest)) = slice_get_within c.steps at s get

-- one command more in front of those behind it
pub front_coded : (held : List VariableSlots) (table : List MemEntry) (a b : Code) (x : Action) (next first : Option ℕ) (c : CoreCommand) (cs : CoreCommands) → AddsStep a b x next first → IsCoded held table a x c → AreCoded held table a next cs → AreCoded held table b first (command_and c cs)
front_coded held table a b x next first c cs h one rest =
    subst (λ (o : Option ℕ). AreCoded held table b o (command_and c cs)) (sym h.first_is)
    (record { action = x; next = next }, (ap (λ l. slice_get l (length a.steps)) h.steps ∙ get_last a.steps (record { action = x; next = next }), (one_stays held table a b e x c one, coded_stays held table a b e next cs rest)))
  where
    e : ExtendsCode a b
    e = step_extends a b x next first h

-- Code that can be done.

pub held_stays : (a b : Code) (f : FlatExpression) → ExtendsCode a b → IsHeld a.operations f → IsHeld b.operations f
held_stays a b f h i = record { within = i.within; there = longer a b f.to h i.there; operand = i.operand }

action_stays : (table : List MemEntry) (a b : Code) (at : ℕ) (x : Action) → ExtendsCode a b → IsAction table a.operations at x → IsAction table b.operations at x
action_stays table a b at (Store f y) h i = (held_stays a b f h i.0, i.1)
action_stays table a b at (Assign f first depth) h i = held_stays a b f h i
action_stays table a b at (Keep from to values depth) h i = record { within = i.within; there = longer a b to h i.there; operands = i.operands }
action_stays table a b at (Choose f one two) h i = (held_stays a b f h i.0, i.1)

pub sound_added : (table : List MemEntry) (a b : Code) (xs : List CodeOperation) → AddsOnlyOperations a b xs → AllByRecursion (IsOperation table) xs → IsSoundCode table a → IsSoundCode table b
sound_added table a b xs h done s = record {
  operations = subst (λ (l : List CodeOperation). AllByRecursion (IsOperation table) l) (sym h.operations) (all_append (IsOperation table) a.operations xs s.operations done);
  steps = λ at x get.
      let i = s.steps at x (ap (λ l. slice_get l at) (sym h.steps) ∙ get) in
      record { action = action_stays table a b at x.action (adds_extend a b xs h) i.action; next = i.next };
}

pub sound_step : (table : List MemEntry) (a b : Code) (x : Action) (next first : Option ℕ) → AddsStep a b x next first → IsAction table a.operations (length a.steps) x → IsEarlier (length a.steps) next → IsSoundCode table a → IsSoundCode table b
sound_step table a b x next first h done earlier s = record {
  operations = subst (λ (l : List CodeOperation). AllByRecursion (IsOperation table) l) (sym h.operations) s.operations;
  steps = λ at y get. one at y (split a.steps at y (ap (λ l. slice_get l at) (sym h.steps) ∙ get));
}
  where
    new : ListedCommand
    new = record { action = x; next = next }

    split : (xs : List ListedCommand) (at : ℕ) (y : ListedCommand) → slice_get (xs ++ new ∷ []) at ≡ Some y → (slice_get xs at ≡ Some y) ⊎ ((at ≡ length xs) × (new ≡ y))
    split [] zero y e = inr (refl, some e)
      where
        some : Some new ≡ Some y → new ≡ y
        some e = cc
    split [] (suc at) y e = absurd cc
    split (z ∷ xs) zero y e = inl e
    split (z ∷ xs) (suc at) y e = by (split xs at y e)
      where
        by : (slice_get xs at ≡ Some y) ⊎ ((at ≡ length xs) × (new ≡ y)) → (slice_get xs at ≡ Some y) ⊎ ((suc at ≡ suc (length xs)) × (new ≡ y))
        by (inl f) = inl f
        by (inr f) = inr (ap suc f.0, f.1)

    one : (at : ℕ) (y : ListedCommand) → (slice_get a.steps at ≡ Some y) ⊎ ((at ≡ length a.steps) × (new ≡ y)) → IsStep table b.operations at y
    one at y (inl e) = let i = s.steps at y e in record { action = action_stays table a b at y.action (step_extends a b x next first h) i.action; next = i.next }
    one at y (inr e) =
        subst (λ (z : ListedCommand). IsStep table b.operations at z) e.1
        (subst (λ (n : ℕ). IsStep table b.operations n new) (sym e.0) (record { action = action_stays table a b (length a.steps) x (step_extends a b x next first h) done; next = earlier }))
