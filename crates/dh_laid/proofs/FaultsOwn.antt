-- What keeps that each access with operations has a fault of its own. Operations that can have no fault change nothing of it;
-- an access that gets its operations names the next fault, which stands behind all so far; its probe has that fault; and what
-- a read gave leaves the faults as they are.
use Rattle.std.proofs.Common.{◌≡◌, ◌⊎◌, inl, inr, ◌<◌, ◌≤◌, ◌+◌, ℕ, zero, suc, List, Some, None, ap, sym, ◌∙◌, subst, length, arith, append_assoc, refl}
use Rattle.std.specs.Prelude.{Bool as Truth, true, false, [], ◌∷◌, ◌++◌, Option, slice_get, slice_index_or}
use Rattle.std.specs.List.{AllByRecursion}
use Rattle.std.proofs.lemmas.List.{append-nil}
use Rattle.dh_base.specs.declared.outcomes.FaultKind.{FaultKind}
use Rattle.dh_base.specs.declared.places.Place.{Place}
use Rattle.dh_value.specs.declared.kinds.Kind.{Kind}
use Rattle.dh_value.specs.declared.kinds.Kind.TheVariants as kind
use Rattle.dh_value.specs.declared.operators.Op.{Op}
use Rattle.dh_value.specs.declared.operators.Op.TheVariants.{Both}
use Rattle.dh_value.specs.Operations.{truth}
use Rattle.dh_tree.specs.PlainTrees as plain
use Rattle.dh_tree.specs.PlainTrees.{Term}
use Rattle.dh_code.specs.Extended.{extension_of}
use Rattle.dh_tree.specs.Kinds.{same_kind}
use Rattle.dh_code.specs.declared.places.VariableSlots.{VariableSlots}
use Rattle.dh_plan.specs.declared.operations.Operation.{Operation}
use Rattle.dh_plan.specs.declared.operations.OperationForm.{OperationForm}
use Rattle.dh_plan.specs.declared.operations.OperationForm.TheVariants.{Check, Compute, Constant, Convert, Old, Probe, Read, Select, Set, Write}
use Rattle.dh_plan.specs.declared.operations.Reach.{Reach}
use Rattle.dh_expressions.specs.declared.accesses.Accesses.{Accesses}
use Rattle.dh_expressions.specs.declared.accesses.Touched.{Touched}
use Rattle.dh_expressions.specs.declared.copies.AccessAt.{AccessAt}
use Rattle.dh_expressions.specs.declared.drafts.Draft.{Draft}
use Rattle.dh_expressions.specs.declared.elements.Aim.{Aim}
use Rattle.dh_expressions.specs.declared.scenes.Lane.{Lane}
use Rattle.dh_expressions.specs.declared.scenes.Scene.{Scene}
use Rattle.dh_expressions.specs.Drafted.{Extends, Pushes}
use Rattle.dh_expressions.specs.MadeValues.{MadeConverted, MadeHeld, MadeShown}
use Rattle.dh_expressions.specs.Noted.{Notes, given_then, noted_in, touched_in}
use Rattle.dh_expressions.specs.Reaching.{Finds}
use Rattle.dh_expressions.specs.Shown.{guard_of, kind_written, register_at}
use Rattle.dh_expressions.proofs.AccessesKept.{noted_touched, place_noted}
use Rattle.dh_expressions.proofs.ListPlaces.{place_of_more, set_long}
use Rattle.dh_formed.specs.Counted.{Counts, FormIs}
use Rattle.dh_formed.proofs.ElementsFormed.{all_append}
use Rattle.dh_formed.proofs.ValuesCounted.{held_counts, shown_counts}
use Rattle.dh_commands.specs.declared.assignments.Values.{Values}
use Rattle.dh_commands.specs.declared.choices.Choice.{Choice}
use Rattle.dh_commands.specs.MadeCommands.{FoldedWith, MadeArmGuard, MadeArmGuards, MadeBehind, MadeChoiceBy, MadeChoices, MadeGuard, MadeOldOperand, MadeOperand, MadeOutcome}
use Rattle.dh_laid.specs.LaidFaults.{AddsFaultless, HaveOwnFaults, IsFaultless}
use Rattle.dh_laid.proofs.UsesAdded.{any_register, no_reach}

-- Lists.

pub in_either : {A : Type 0} (xs ys : List A) (n : ℕ) (x : A) → slice_get (xs ++ ys) n ≡ Some x → (slice_get xs n ≡ Some x) ⊎ ((i : ℕ) × (slice_get ys i ≡ Some x))
in_either [] ys n x e = inr (n, e)
in_either (y ∷ xs) ys zero x e = inl e
in_either (y ∷ xs) ys (suc n) x e = in_either xs ys n x e

pub each_place : (P : Operation → Type 0) (os : List Operation) (i : ℕ) (o : Operation) → AllByRecursion P os → slice_get os i ≡ Some o → P o
each_place P [] i o h e = absurd (cc)
each_place P (q ∷ os) zero o h e = let same : q ≡ o = cc in subst P same h.0
each_place P (q ∷ os) (suc i) o h e = each_place P os i o h.1 e

-- a list whose elements another has at their places is no longer
pub no_longer : {A : Type 0} (xs ys : List A) → ((n : ℕ) (x : A) → slice_get xs n ≡ Some x → slice_get ys n ≡ Some x) → length xs ≤ length ys
no_longer [] ys h = omega arith
no_longer (x ∷ xs) [] h = let e = h 0 x refl in absurd (none e)
  where
    none : None ≡ Some x → ⊥
    none e = cc
no_longer (x ∷ xs) (y ∷ ys) h = let l = no_longer xs ys (λ n z e. h (suc n) z e) in omega (arith, l)

-- faults are only added
pub faults_grow : (old new : Draft) → Extends old new → length old.faults ≤ length new.faults
faults_grow old new e = no_longer old.faults new.faults e.faults

-- What can have no fault.

pub faultless_same : (old new : Draft) → new.operations.items ≡ old.operations.items → AddsFaultless old new
faultless_same old new same = record { more = []; adds = same ∙ sym (append-nil old.operations.items); each = tt }

pub faultless_none : (old new : Draft) → new ≡ old → AddsFaultless old new
faultless_none old new same = faultless_same old new (ap (λ (d : Draft). d.operations.items) same)

pub faultless_again : (a b c : Draft) → AddsFaultless a b → AddsFaultless b c → AddsFaultless a c
faultless_again a b c h k = record {
  more = h.more ++ k.more;
  adds = k.adds ∙ (ap (λ (os : List Operation). os ++ k.more) h.adds ∙ append_assoc a.operations.items h.more k.more);
  each = all_append (λ (o : Operation). IsFaultless o.form) h.more k.more h.each k.each;
}

pub faultless_pushed : (old new : Draft) (n : ℕ) (guard : Option ℕ) (form : OperationForm) → Pushes old new n guard form → IsFaultless form → AddsFaultless old new
faultless_pushed old new n guard form p is = record { more = record { guard = guard; form = form } ∷ []; adds = p.operations; each = (is, tt) }

abbrev pub any_reach : Reach → Type 0
any_reach r = Unit {0}

pub faultless_counted : (old new : Draft) (p : ℕ) (f u : ℕ → ℕ) → Counts old new (FormIs any_register no_reach any_reach any_reach) p f u → AddsFaultless old new
faultless_counted old new p f u c = record { more = c.more; adds = c.adds; each = all c.more c.each }
  where
    one : (form : OperationForm) → FormIs any_register no_reach any_reach any_reach form → IsFaultless form
    one (Constant word) h = tt
    one (Old register) h = tt
    one (Compute op left right) h = tt
    one (Convert inner to) h = tt
    one (Select test a b) h = tt
    one (Check ok fault) h = absurd h
    one (Probe r fault) h = absurd h
    one (Read r) h = tt
    one (Write r value) h = tt
    one (Set register value) h = tt

    all : (os : List Operation) → AllByRecursion (λ (o : Operation). FormIs any_register no_reach any_reach any_reach o.form) os → AllByRecursion (λ (o : Operation). IsFaultless o.form) os
    all [] h = tt
    all (o ∷ os) h = (one o.form h.0, all os h.1)

-- Values.

pub converted_faultless : (kept : Truth) (to : Kind) (value : ℕ) (old new : Draft) (v : ℕ) → MadeConverted kept to value old new v → AddsFaultless old new
converted_faultless true to value old new v m = faultless_none old new m.0
converted_faultless false to value old new v m = faultless_pushed old new v None (Convert value to) m tt

pub held_faultless : (t : Term) (to : Kind) (value : ℕ) (old new : Draft) (v : ℕ) → MadeHeld t to value old new v → AddsFaultless old new
held_faultless t to value old new v m = faultless_counted old new 0 _ _ (held_counts any_register no_reach any_reach any_reach t to value old new v m)

shown_faultless : (current : List (Option ℕ)) (register : ℕ) (old new : Draft) (v : ℕ) → MadeShown current register old new v → AddsFaultless old new
shown_faultless current register old new v m = faultless_counted old new 0 _ _ (shown_counts any_register no_reach any_reach any_reach current register tt old new v m)

old_operand_faultless : (own to : Kind) (value : ℕ) (old new : Draft) (v : ℕ) → MadeOldOperand own to value old new v → AddsFaultless old new
old_operand_faultless own kind.Bool value old new v m = faultless_none old new m.0
old_operand_faultless own (kind.Unsigned w) value old new v m = converted_faultless (same_kind own (kind.Unsigned w)) (kind.Unsigned w) value old new v m
old_operand_faultless own (kind.Signed w) value old new v m = converted_faultless (same_kind own (kind.Signed w)) (kind.Signed w) value old new v m

operand_faultless : (t : Term) (to : Kind) (value : ℕ) (old new : Draft) (v : ℕ) → MadeOperand t to value old new v → AddsFaultless old new
operand_faultless t kind.Bool value old new v m = faultless_none old new m.0
operand_faultless t (kind.Unsigned w) value old new v m = held_faultless t (kind.Unsigned w) value old new v m
operand_faultless t (kind.Signed w) value old new v m = held_faultless t (kind.Signed w) value old new v m

pub folded_faultless : (lane : Lane) (current : List (Option ℕ)) (held : VariableSlots) (op : Op) (t : Term) (value : ℕ) (old new : Draft) (v : ℕ) → FoldedWith lane current held op t value old new v → AddsFaultless old new
folded_faultless lane current held op t value old new v m =
    faultless_again old m.first new (shown_faultless current (register_at held lane) old m.first m.before m.shown)
    (faultless_again m.first m.second new (old_operand_faultless held.kind (extension_of op held.kind (kind_written t)) m.before m.first m.second m.left m.left_made)
    (faultless_again m.second m.third new (operand_faultless t (extension_of op held.kind (kind_written t)) value m.second m.third m.right m.right_made)
    (faultless_again m.third m.fourth new (faultless_pushed m.third m.fourth m.all None (Compute op m.left m.right) m.pushes tt)
    (converted_faultless (same_kind held.kind (extension_of op held.kind (kind_written t))) held.kind m.all m.fourth new v m.own))))

pub finds_faultless : (scene : Scene) (form : plain.TermForm) (old new : Draft) (memory : ℕ) (aim : Aim) (copy : AccessAt) (found : Option ℕ) (v : ℕ) → Finds scene form old new memory aim copy found v → AddsFaultless old new
finds_faultless scene form old new memory aim copy None v m = faultless_pushed old new v copy.guard _ m tt
finds_faultless scene form old new memory aim copy (Some n) v m = faultless_none old new m.0

-- Arms, and choices behind them.

outcome_faultless : (holds : Truth) (test : ℕ) (old new : Draft) (v : ℕ) → MadeOutcome holds test old new v → AddsFaultless old new
outcome_faultless true test old new v m = faultless_none old new m.0
outcome_faultless false test old new v m =
    faultless_again old m.first new (faultless_pushed old m.first m.no_value None (Constant (truth false)) m.no_made tt)
    (faultless_again m.first m.second new (faultless_pushed m.first m.second m.yes_value None (Constant (truth true)) m.yes_made tt) (faultless_pushed m.second new v None (Select test m.no_value m.yes_value) m.pushes tt))

guard_faultless : (guard : Option ℕ) (t : ℕ) (old new : Draft) (v : ℕ) → MadeGuard guard t old new v → AddsFaultless old new
guard_faultless None t old new v m = faultless_none old new m.0
guard_faultless (Some g) t old new v m = faultless_pushed old new v None (Compute Both g t) m tt

pub guards_faultless : (holds : Truth) (guards : List (Option ℕ)) (tests : List ℕ) (count : ℕ) (old new : Draft) (arm : List (Option ℕ)) → MadeArmGuards holds guards tests count old new arm → AddsFaultless old new
guards_faultless holds guards tests zero old new arm m = faultless_none old new m.0
guards_faultless holds guards tests (suc n) old new arm m = faultless_again old m.0 new (guards_faultless holds guards tests n old m.0 m.1.0 m.1.1.1.1.0) (one m.0 m.1.1.0 m.1.1.1.0 m.1.1.1.1.1.1.0)
  where
    one : (d : Draft) (test v : ℕ) → MadeArmGuard holds (guard_of guards n) test d new v → AddsFaultless d new
    one d test v g = faultless_again d g.middle new (outcome_faultless holds test d g.middle g.outcome g.comes_out) (guard_faultless (guard_of guards n) g.outcome g.middle new v g.joins)

behind_faultless : (current : List (Option ℕ)) (register : ℕ) (o : Option ℕ) (old new : Draft) (v : ℕ) → MadeBehind current register o old new v → AddsFaultless old new
behind_faultless current register None old new v m = shown_faultless current register old new v m
behind_faultless current register (Some value) old new v m = faultless_none old new m.0

choice_faultless : (o : Option ℕ) (c : Choice) (old new : Draft) (before after : Values) → MadeChoiceBy o c old new before after → AddsFaultless old new
choice_faultless None c old new before after m = faultless_none old new m.0
choice_faultless (Some test) c old new before after m =
    faultless_again old m.first new (behind_faultless before.current.items c.register c.chosen old m.first m.yes_value m.chosen)
    (faultless_again m.first m.second new (behind_faultless before.current.items c.register c.other m.first m.second m.no_value m.other) (faultless_pushed m.second new m.value None (Select test m.yes_value m.no_value) m.pushes tt))

pub choices_faultless : (tests : List ℕ) (choices : List Choice) (count : ℕ) (old new : Draft) (before after : Values) → MadeChoices tests choices count old new before after → AddsFaultless old new
choices_faultless tests choices zero old new before after m = faultless_none old new m.0
choices_faultless tests choices (suc n) old new before after m =
    faultless_again old m.0 new (choices_faultless tests choices n old m.0 before m.1.0 m.1.1.1.0) (choice_faultless (slice_get tests (m.1.1.0).path) m.1.1.0 m.0 new m.1.0 after m.1.1.1.1.1)

-- Own faults.

-- an operation that is a check or a probe stood there before
was_there : (old new : Draft) → AddsFaultless old new → (n : ℕ) (o : Operation) → slice_get new.operations.items n ≡ Some o → (IsFaultless o.form → ⊥) → slice_get old.operations.items n ≡ Some o
was_there old new plain n o at never = by (in_either old.operations.items plain.more n o (sym (ap (λ (os : List Operation). slice_get os n) plain.adds) ∙ at))
  where
    by : (slice_get old.operations.items n ≡ Some o) ⊎ ((i : ℕ) × (slice_get plain.more i ≡ Some o)) → slice_get old.operations.items n ≡ Some o
    by (inl e) = e
    by (inr q) = absurd (never (each_place (λ (x : Operation). IsFaultless x.form) plain.more q.0 o plain.each q.1))

-- no fault is named, and none can be had
pub own_quiet : (old new : Draft) (before after : Accesses) → new.faults ≡ old.faults → AddsFaultless old new → after ≡ before → HaveOwnFaults old before → HaveOwnFaults new after
own_quiet old new before after faults plain same h = subst (λ (a : Accesses). HaveOwnFaults new a) (sym same) still
  where
    still : HaveOwnFaults new before
    still = record {
      probes = λ n fault guard r at within. h.probes n fault guard r (was_there old new plain n (record { guard = guard; form = Probe r fault }) at (λ w. w)) within;
      unchecked = λ n ok fault guard at. h.unchecked n ok fault guard (was_there old new plain n (record { guard = guard; form = Check ok fault }) at (λ w. w));
      named = λ number t at. subst (λ (fs : List (FaultKind × Place)). t.fault < length fs) (sym faults) (h.named number t at);
      apart = h.apart;
    }

abbrev reach_or : Reach → OperationForm → Reach
reach_or q (Probe r fault) = r
reach_or q _ = q

abbrev fault_or : ℕ → OperationForm → ℕ
fault_or n (Probe r fault) = fault
fault_or n _ = n

abbrev is_probe : OperationForm → Truth
is_probe (Probe r fault) = true
is_probe _ = false

-- a probe has the fault of its access
pub own_probe : (old new : Draft) (a : Accesses) (n : ℕ) (guard : Option ℕ) (q : Reach) (fault : ℕ) → Pushes old new n guard (Probe q fault)
    → (q.access < length a.touched.items → (t : Touched) × ((touched_in a q.access ≡ Some t) × (t.fault ≡ fault))) → HaveOwnFaults old a → HaveOwnFaults new a
own_probe old new a n guard q fault p touched h = record {
  probes = λ i f g r at within. probe i f g r within (place i (record { guard = g; form = Probe r f }) at);
  unchecked = λ i ok f g at. check i ok f g (place i (record { guard = g; form = Check ok f }) at);
  named = λ number t at. subst (λ (fs : List (FaultKind × Place)). t.fault < length fs) (sym p.faults) (h.named number t at);
  apart = h.apart;
}
  where
    place : (i : ℕ) (o : Operation) → slice_get new.operations.items i ≡ Some o → (slice_get old.operations.items i ≡ Some o) ⊎ ((i ≡ length old.operations.items) × (o ≡ record { guard = guard; form = Probe q fault }))
    place i o at = place_of_more old.operations.items (record { guard = guard; form = Probe q fault }) o i (sym (ap (λ (os : List Operation). slice_get os i) p.operations) ∙ at)

    moved : (i f : ℕ) (g : Option ℕ) (r : Reach) (o : Operation) → o ≡ record { guard = guard; form = Probe q fault } → reach_or q o.form ≡ r → fault_or fault o.form ≡ f → r.access < length a.touched.items
        → (t : Touched) × ((touched_in a r.access ≡ Some t) × (t.fault ≡ f))
    moved i f g r o same reach named within =
        let r_is : q ≡ r = sym (ap (λ (x : Operation). reach_or q x.form) same) ∙ reach in
        let f_is : fault ≡ f = sym (ap (λ (x : Operation). fault_or fault x.form) same) ∙ named in
        let t = touched (subst (λ (k : Reach). k.access < length a.touched.items) (sym r_is) within) in
        (t.0, (ap (λ (k : Reach). touched_in a k.access) (sym r_is) ∙ t.1.0, t.1.1 ∙ f_is))

    probe : (i f : ℕ) (g : Option ℕ) (r : Reach) → r.access < length a.touched.items
        → (slice_get old.operations.items i ≡ Some (record { guard = g; form = Probe r f })) ⊎ ((i ≡ length old.operations.items) × (◌≡◌ {A = Operation} (record { guard = g; form = Probe r f }) (record { guard = guard; form = Probe q fault })))
        → (t : Touched) × ((touched_in a r.access ≡ Some t) × (t.fault ≡ f))
    probe i f g r within (inl at) = h.probes i f g r at within
    probe i f g r within (inr e) = moved i f g r (record { guard = g; form = Probe r f }) e.1 refl refl within

    check : (i ok f : ℕ) (g : Option ℕ) → (slice_get old.operations.items i ≡ Some (record { guard = g; form = Check ok f })) ⊎ ((i ≡ length old.operations.items) × (◌≡◌ {A = Operation} (record { guard = g; form = Check ok f }) (record { guard = guard; form = Probe q fault }))) → ⊥
    check i ok f g (inl at) = h.unchecked i ok f g at
    check i ok f g (inr e) = clash (ap (λ (x : Operation). is_probe x.form) e.1)
      where
        clash : false ≡ true → ⊥
        clash z = cc

-- an access gets its operations, with the next fault
pub own_touch : (old new : Draft) (before after : Accesses) (number : ℕ) → Extends old new → AddsFaultless old new → length after.touched.items ≡ length before.touched.items
    → ((m : ℕ) (t : Touched) → touched_in before m ≡ Some t → touched_in after m ≡ Some t)
    → ((m : ℕ) (t : Touched) → touched_in after m ≡ Some t → (touched_in before m ≡ Some t) ⊎ ((m ≡ number) × ((t.fault ≡ length old.faults) × (length new.faults ≡ length old.faults + 1))))
    → HaveOwnFaults old before → HaveOwnFaults new after
own_touch old new before after number extends plain long kept known h = record {
  probes = λ n fault guard r at within.
      let t = h.probes n fault guard r (was_there old new plain n (record { guard = guard; form = Probe r fault }) at (λ w. w)) (subst (λ (k : ℕ). r.access < k) long within) in
      (t.0, (kept r.access t.0 t.1.0, t.1.1));
  unchecked = λ n ok fault guard at. h.unchecked n ok fault guard (was_there old new plain n (record { guard = guard; form = Check ok fault }) at (λ w. w));
  named = λ m t at. named m t (known m t at);
  apart = λ m n t u at au e. apart m n t u e (known m t at) (known n u au);
}
  where
    named : (m : ℕ) (t : Touched) → (touched_in before m ≡ Some t) ⊎ ((m ≡ number) × ((t.fault ≡ length old.faults) × (length new.faults ≡ length old.faults + 1))) → t.fault < length new.faults
    named m t (inl at) = less t.fault (length old.faults) (length new.faults) (h.named m t at) (faults_grow old new extends)
      where
        less : (f n k : ℕ) → f < n → n ≤ k → f < k
        less f n k l g = omega (arith, l, g)
    named m t (inr e) = last t.fault (length old.faults) (length new.faults) e.1.0 e.1.1
      where
        last : (f n k : ℕ) → f ≡ n → k ≡ n + 1 → f < k
        last f n k e g = omega (arith, e, g)

    clash : (f g n : ℕ) → f < n → g ≡ n → f ≡ g → ⊥
    clash f g n l e same = omega (arith, l, e, same)

    apart : (m n : ℕ) (t u : Touched) → t.fault ≡ u.fault
        → (touched_in before m ≡ Some t) ⊎ ((m ≡ number) × ((t.fault ≡ length old.faults) × (length new.faults ≡ length old.faults + 1)))
        → (touched_in before n ≡ Some u) ⊎ ((n ≡ number) × ((u.fault ≡ length old.faults) × (length new.faults ≡ length old.faults + 1))) → m ≡ n
    apart m n t u e (inl at) (inl au) = h.apart m n t u at au e
    apart m n t u e (inl at) (inr k) = absurd (clash t.fault u.fault (length old.faults) (h.named m t at) k.1.0 e)
    apart m n t u e (inr k) (inl au) = absurd (clash u.fault t.fault (length old.faults) (h.named n u au) k.1.0 (sym e))
    apart m n t u e (inr j) (inr k) = j.0 ∙ sym k.0

-- what a read gave is noted
pub own_notes : (d : Draft) (before after : Accesses) (number path value : ℕ) → Notes before after number path value → HaveOwnFaults d before → HaveOwnFaults d after
own_notes d before after number path value n h = record {
  probes = λ i fault guard r at within.
      let t = h.probes i fault guard r at (subst (λ (k : ℕ). r.access < k) long within) in
      let u = forth r.access t.0 t.1.0 (place_noted before after number path value n r.access) in
      (u.0, (u.1.0, u.1.1 ∙ t.1.1));
  unchecked = h.unchecked;
  named = λ m u at. let t = back m u at (place_noted before after number path value n m) in subst (λ (f : ℕ). f < length d.faults) t.1.1 (h.named m t.0 t.1.0);
  apart = λ m k u v au av e.
      let t = back m u au (place_noted before after number path value n m) in
      let w = back k v av (place_noted before after number path value n k) in
      h.apart m k t.0 w.0 t.1.0 w.1.0 (t.1.1 ∙ (e ∙ sym w.1.1));
}
  where
    long : length after.touched.items ≡ length before.touched.items
    long = ap (λ (os : List (Option Touched)). length os) n.touched ∙ set_long before.touched.items number (noted_in (slice_index_or before.touched.items number None) path value)

    back : (m : ℕ) (u : Touched) → touched_in after m ≡ Some u → (touched_in after m ≡ touched_in before m) ⊎ ((m ≡ number) × (touched_in after m ≡ noted_in (touched_in before m) path value))
        → (t : Touched) × ((touched_in before m ≡ Some t) × (t.fault ≡ u.fault))
    back m u at (inl same) = (u, (sym same ∙ at, refl))
    back m u at (inr p) = let old = noted_touched (touched_in before m) path value u (sym p.1 ∙ at) in (old.0, (old.1.0, old.1.1.0))

    forth : (m : ℕ) (t : Touched) → touched_in before m ≡ Some t → (touched_in after m ≡ touched_in before m) ⊎ ((m ≡ number) × (touched_in after m ≡ noted_in (touched_in before m) path value))
        → (u : Touched) × ((touched_in after m ≡ Some u) × (u.fault ≡ t.fault))
    forth m t at (inl same) = (t, (same ∙ at, refl))
    forth m t at (inr p) = (record { fault = t.fault; copies = t.copies; given = given_then t.given path value }, (p.1 ∙ ap (λ (o : Option Touched). noted_in o path value) at, refl))
