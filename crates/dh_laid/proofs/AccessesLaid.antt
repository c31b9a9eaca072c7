-- An access that gets its operations is laid, and all others stay as they are: by recursion on what is put down for
-- expressions and commands.
use Rattle.std.proofs.Common.{◌≡◌, ◌⊎◌, inl, inr, ⊎_elim, ◌<◌, ◌≤◌, ◌+◌, ◌^◌, ℕ, zero, suc, List, Some, None, ap, sym, ◌∙◌, subst, length, arith, refl, add-one}
use Rattle.std.specs.Prelude.{Bool as Truth, true, false, [], ◌∷◌, ◌++◌, Option, slice_get, slice_index_or}
use Rattle.std.proofs.lemmas.List.{length-append}
use Rattle.dh_base.specs.declared.outcomes.FaultKind.{FaultKind}
use Rattle.dh_base.specs.declared.outcomes.FaultKind.TheVariants.{OutOfRange}
use Rattle.dh_base.specs.declared.places.Place.{Place}
use Rattle.dh_value.specs.declared.kinds.Kind.{Kind}
use Rattle.dh_value.specs.declared.kinds.Kind.TheVariants as kind
use Rattle.dh_value.specs.declared.operators.Op.{Op}
use Rattle.dh_value.specs.Operations.{truth}
use Rattle.dh_tree.specs.declared.trees.counters.Counter.{Counter}
use Rattle.dh_tree.specs.Indices.{form_of}
use Rattle.dh_tree.specs.PlainTrees as plain
use Rattle.dh_tree.specs.PlainTrees.{Term, Action, action, ActionForm, lets, lets_memory, views, assigns, stores, reduces, calls, blocks, decides, repeats, counts, MaybeAction, no_action, one_action, Actions, no_actions, action_then, Groups, no_groups, group_then, ViewPlan}
use Rattle.dh_tree.specs.Seen.{terms}
use Rattle.dh_tree.specs.ViewOffsets.{offsets_of}
use Rattle.dh_tree.specs.declared.trees.expressions.Ref.{Ref}
use Rattle.dh_meaning.specs.Bindings.{kind_or_first}
use Rattle.dh_meaning.specs.CoreOf.{entity_number, way_of, memory_of}
use Rattle.dh_meaning.specs.Ways.{hidden_in, Hidden}
use Rattle.dh_code.specs.Extended.{extension_of}
use Rattle.dh_tree.specs.Kinds.{same_kind}
use Rattle.dh_code.specs.declared.places.VariableSlots.{VariableSlots}
use Rattle.dh_code.specs.Slots.{held_at}
use Rattle.dh_plan.specs.declared.operations.OperationForm.TheVariants.{Compute, Constant, Convert, Probe}
use Rattle.dh_plan.specs.declared.operations.Reach.{Reach}
use Rattle.dh_plan.specs.declared.operations.ReachStep.{ReachStep}
use Rattle.dh_expressions.specs.declared.accesses.Accesses.{Accesses}
use Rattle.dh_expressions.specs.declared.accesses.Touched.{Touched}
use Rattle.dh_expressions.specs.declared.copies.AccessAt.{AccessAt}
use Rattle.dh_expressions.specs.declared.drafts.Draft.{Draft}
use Rattle.dh_expressions.specs.declared.elements.Aim.{Aim}
use Rattle.dh_expressions.specs.declared.scenes.Around.{Around}
use Rattle.dh_expressions.specs.declared.scenes.Lane.{Lane}
use Rattle.dh_expressions.specs.declared.scenes.Scene.{Scene}
use Rattle.dh_expressions.specs.Copying.{AddsAllCopies, AddsCopies, AddsCopy, AreNone, JoinsGuards}
use Rattle.dh_expressions.specs.Drafted.{Extends, Pushes}
use Rattle.dh_expressions.specs.Evaluated.{counter_of, known_in}
use Rattle.dh_expressions.specs.MadeTerms.{MadeRead, MadeTerm, MadeTerms, MadeWrite, MadeWay}
use Rattle.dh_expressions.specs.MadeValues.{MadeBy, MadeConverted}
use Rattle.dh_expressions.specs.Noted.{Notes, copied_in, fault_in, fault_of_touched, given_then, has_no_operations, is_bare_of, noted_in, touched_in, touched_of}
use Rattle.dh_expressions.specs.Reaching.{place_written, reach_told}
use Rattle.dh_expressions.specs.Shown.{guard_of, is_kept, kind_written, register_at}
use Rattle.dh_expressions.specs.Standings.{AccessStanding, standing_at, copy_places}
use Rattle.dh_expressions.specs.Touching.{AddsTouched, IsNew, TouchesAt}
use Rattle.dh_expressions.proofs.AccessesKept.{bare_within, named_extends, noted_touched, place_noted}
use Rattle.dh_expressions.proofs.CopiesMade.{guard_long, guard_place}
use Rattle.dh_expressions.proofs.ListPlaces.{place_of_more, place_within, set_long}
use Rattle.dh_expressions.proofs.Pushing.{at_seam, extends_again, extends_self, pushed_extends}
use Rattle.dh_expressions.specs.Named.{first_view}
use Rattle.dh_formed.proofs.CopiesFormed.{FormsCopies, copies_forms}
use Rattle.dh_formed.proofs.ElementsFormed.{found_extends}
use Rattle.dh_formed.proofs.IteratorsFormed.{iterator_forms}
use Rattle.dh_formed.proofs.ValuesCounted.{copies_counts, number_counts, operation_counts, sees_any, variable_counts, way_counts}
use Rattle.dh_formed.proofs.ValuesFormed.{held_forms, number_forms, operation_forms, shown_forms}
use Rattle.dh_formed.proofs.TermsFormed.{way_part}
use Rattle.dh_commands.specs.declared.buildings.Building.{Building}
use Rattle.dh_commands.specs.declared.choices.Left.{Left}
use Rattle.dh_commands.specs.LanesRun.{lane_of, paths_counted}
use Rattle.dh_commands.specs.MadeCommands.{Commanding, FoldedWith, MadeActionForm, MadeActions, MadeAim, MadeArm, MadeAssigned, MadeCleared, MadeCommand, MadeGroups, MadeLanes, MadeOldOperand, MadeOperand, MadeOther, MadeReduced, MadeStored, MadeStoring, MadeView, MadeHolds, MadeKept}
use Rattle.dh_laid.specs.LaidAccesses.{AreLaid, AreNamed, CommandsLay, EachLay, GroupsLay, IsLaid, Lays, TermsLay, TestsLay, touched_count}
use Rattle.dh_laid.specs.LaidFaults.{AddsFaultless, HaveOwnFaults}
use Rattle.dh_laid.specs.LaidQuiet.{BlockStandsIn}
use Rattle.dh_laid.proofs.ArmsLaid.{arm_guards_form}
use Rattle.dh_laid.proofs.ChoicesLaid.{choices_form}
use Rattle.dh_laid.proofs.FaultsKept.{choices_faults, converted_faults, copies_faults, finds_faults, folded_faults, guards_faults, held_faults, number_faults, operation_faults, same_faults, variable_faults, way_faults}
use Rattle.dh_laid.proofs.FaultsOwn.{any_reach, choices_faultless, converted_faultless, faultless_again, faultless_counted, faultless_none, faultless_pushed, faultless_same, faults_grow, finds_faultless, folded_faultless, guards_faultless, held_faultless, own_notes, own_probe, own_quiet, own_touch}
use Rattle.dh_laid.proofs.UsesAdded.{any_register, no_reach}
use Rattle.dh_laid.proofs.ValuesLogged.{stands_arm, tests_same}

-- Composition.

named_before : (named : List (FaultKind × Place)) (old new : Draft) → Extends old new → AreNamed named new → AreNamed named old
named_before named old new e all n f at = all n f (e.faults n f at)

-- no access is touched, and no fault is named
lays_still_so : (old new : Draft) (before after : Accesses) → Extends old new → new.faults ≡ old.faults → after ≡ before → (HaveOwnFaults old before → HaveOwnFaults new after) → Lays old new before after
lays_still_so old new before after e faults same own = record {
  extends = e;
  laid = λ named all few laid none. subst (λ (a : Accesses). AreLaid named a) (sym same) laid;
  none = λ none. subst (λ (a : Accesses). AreNone a.counts.items) (sym same) none;
  long = ap (λ (a : Accesses). length a.touched.items) same;
  few = as_few (length new.faults) (length old.faults) (touched_count before.touched.items) (touched_count after.touched.items) (ap (λ (fs : List (FaultKind × Place)). length fs) faults) (ap (λ (a : Accesses). touched_count a.touched.items) same);
  own = λ few h. own h;
}
  where
    as_few : (f g m n : ℕ) → f ≡ g → n ≡ m → f + m ≤ g + n
    as_few f g m n e h = omega (arith, e, h)

-- and none can be had
pub lays_quiet : (old new : Draft) (before after : Accesses) → Extends old new → new.faults ≡ old.faults → AddsFaultless old new → after ≡ before → Lays old new before after
lays_quiet old new before after e faults plain same = lays_still_so old new before after e faults same (own_quiet old new before after faults plain same)

-- a probe of an access that has operations
lays_probe : (old new : Draft) (a : Accesses) (n : ℕ) (guard : Option ℕ) (q : Reach) (fault : ℕ) → Pushes old new n guard (Probe q fault)
    → (q.access < length a.touched.items → (t : Touched) × ((touched_in a q.access ≡ Some t) × (t.fault ≡ fault))) → Lays old new a a
lays_probe old new a n guard q fault p touched = lays_still_so old new a a (pushed_extends old new n guard (Probe q fault) p) p.faults refl (own_probe old new a n guard q fault p touched)

-- nothing is put down
pub lays_none : (old new : Draft) (before after : Accesses) → new ≡ old → after ≡ before → Lays old new before after
lays_none old new before after still same = lays_quiet old new before after (subst (λ (d : Draft). Extends old d) (sym still) (extends_self old)) (same_faults old new still) (faultless_none old new still) same

pub lays_still : (old new : Building) → new ≡ old → Lays old.draft new.draft old.accesses new.accesses
lays_still old new still = lays_none old.draft new.draft old.accesses new.accesses (ap (λ (b : Building). b.draft) still) (ap (λ (b : Building). b.accesses) still)

-- one behind the other
pub lays_again : (a b c : Draft) (x y z : Accesses) → Lays a b x y → Lays b c y z → Lays a c x z
lays_again a b c x y z h k = record {
  extends = extends_again a b c h.extends k.extends;
  laid = λ named all few laid none. k.laid named all few (h.laid named (named_before named b c k.extends all) few laid none) (h.none none);
  none = λ none. k.none (h.none none);
  long = k.long ∙ h.long;
  few = both (length a.faults) (length b.faults) (length c.faults) (touched_count x.touched.items) (touched_count y.touched.items) (touched_count z.touched.items) h.few k.few;
  own = λ few own. k.own few (h.own (within (length b.faults) (length c.faults) (faults_grow b c k.extends) few) own);
}
  where
    both : (f g h l m n : ℕ) → g + l ≤ f + m → h + m ≤ g + n → h + l ≤ f + n
    both f g h l m n e k = omega (arith, e, k)

    within : (m n : ℕ) → m ≤ n → n ≤ 2 ^ 32 → m ≤ 2 ^ 32
    within m n l few = omega (arith, l, few)

-- Copies: only those that lead have guards.

module _ (leader bank place : ℕ → ℕ) (guards : List (Option ℕ)) where
  record AreAlone (n : ℕ) (copies : List AccessAt) : Type 0 where
    long : length copies ≡ n
    alone : (k : ℕ) (c : AccessAt) → slice_get copies k ≡ Some c → (leader k ≡ k → ⊥) → c.guard ≡ None

  alone_more : (n : ℕ) (front copies : List AccessAt) (last : AccessAt) → length front ≡ n → copies ≡ front ++ last ∷ []
      → ((k : ℕ) (c : AccessAt) → slice_get front k ≡ Some c → (leader k ≡ k → ⊥) → c.guard ≡ None) → ((leader n ≡ n → ⊥) → last.guard ≡ None) → AreAlone (suc n) copies
  alone_more n front copies last long are before own = record {
    long = ap (λ (cs : List AccessAt). length cs) are ∙ (length-append front (last ∷ []) ∙ (ap (λ m. m + 1) long ∙ add-one n));
    alone = λ k c at other. by k c other (place_of_more front last c k (sym (ap (λ (cs : List AccessAt). slice_get cs k) are) ∙ at));
  }
    where
      by : (k : ℕ) (c : AccessAt) → (leader k ≡ k → ⊥) → (slice_get front k ≡ Some c) ⊎ ((k ≡ length front) × (c ≡ last)) → c.guard ≡ None
      by k c other (inl at) = before k c at other
      by k c other (inr p) = ap (λ (a : AccessAt). a.guard) p.1 ∙ own (λ same. other (ap leader (p.0 ∙ long) ∙ (same ∙ sym (p.0 ∙ long))))

  copy_alone_more : (n : ℕ) (d new : Draft) (cs copies : List AccessAt) → AreAlone n cs → AddsCopy d new cs copies n (leader n) (bank n) (place n) (guard_of guards n) → AreAlone (suc n) copies
  copy_alone_more n d new cs copies h (inl s) = alone_more n cs copies _ h.long s.copies_are h.alone (λ other. absurd (other s.own))
  copy_alone_more n d new cs copies h (inr s) =
      alone_more n s.changed copies _ (ap (λ (l : List AccessAt). length l) s.joins.changed_is ∙ (guard_long cs (leader n) s.joins.joined ∙ h.long)) s.copies_are changed_alone (λ other. refl)
    where
      changed_alone : (k : ℕ) (c : AccessAt) → slice_get s.changed k ≡ Some c → (leader k ≡ k → ⊥) → c.guard ≡ None
      changed_alone k c at other = by (guard_place cs (leader n) k s.joins.joined c (sym (ap (λ (l : List AccessAt). slice_get l k) s.joins.changed_is) ∙ at))
        where
          by : ((slice_get cs k ≡ Some c) × (k ≡ leader n → ⊥)) ⊎ ((k ≡ leader n) × ((a : AccessAt) × ((slice_get cs (leader n) ≡ Some a) × (c ≡ record { leader = a.leader; bank = a.bank; place = a.place; guard = s.joins.joined })))) → c.guard ≡ None
          by (inl p) = h.alone k c p.0 other
          by (inr p) =
              let join : JoinsGuards d new (p.1.0).guard (guard_of guards n) s.joins.joined = s.joins.joins p.1.0 p.1.1.0 in
              ap (λ (a : AccessAt). a.guard) p.1.1.1 ∙ join.none (h.alone (leader n) p.1.0 p.1.1.0 (λ same. other (ap leader p.0 ∙ (same ∙ sym p.0))))

  copies_alone : (n : ℕ) (old new : Draft) (copies : List AccessAt) → AddsCopies leader bank place guards n old new copies → AreAlone n copies
  copies_alone zero old new copies m = record {
    long = ap (λ (cs : List AccessAt). length cs) m.1;
    alone = λ k c at other. absurd (lost k c (sym (ap (λ (cs : List AccessAt). slice_get cs k) m.1) ∙ at));
  }
    where
      lost : (k : ℕ) (c : AccessAt) → slice_get [] k ≡ Some c → ⊥
      lost k c e = cc
  copies_alone (suc n) old new copies (d, (cs, (before, step))) = copy_alone_more n d new cs copies (copies_alone n old d cs before) step

-- How many accesses have operations.

not_fewer : (f g m n : ℕ) → f ≡ g → m ≤ n → f + m ≤ g + n
not_fewer f g m n e h = omega (arith, e, h)

one_more : (f g m n : ℕ) → f ≡ g + 1 → suc m ≤ n → f + m ≤ g + n
one_more f g m n e h = omega (arith, e, h)

touched_there : (ts : List (Option Touched)) (m : ℕ) (u : Touched) → touched_of (slice_get ts m) ≡ Some u → slice_get ts m ≡ Some (Some u)
touched_there ts m u e = by (slice_get ts m) refl e
  where
    by : (o : Option (Option Touched)) → slice_get ts m ≡ o → touched_of o ≡ Some u → slice_get ts m ≡ Some (Some u)
    by None f g = absurd (cc)
    by (Some None) f g = absurd (cc)
    by (Some (Some w)) f g = f ∙ ap (λ (o : Option Touched). Some o) g

bare_there : (o : Option (Option Touched)) → is_bare_of o ≡ true → o ≡ Some None
bare_there None e = absurd (cc)
bare_there (Some None) e = refl
bare_there (Some (Some t)) e = absurd (cc)

-- each that has operations has them later
abbrev StayTouched : (xs ys : List (Option Touched)) → Type 0
StayTouched xs ys = (m : ℕ) (u : Touched) → slice_get xs m ≡ Some (Some u) → (w : Touched) × (slice_get ys m ≡ Some (Some w))

count_here : (x y : Option Touched) (m n : ℕ) → ((u : Touched) → x ≡ Some u → (w : Touched) × (y ≡ Some w)) → m ≤ n → (xs ys : List (Option Touched)) → touched_count xs ≡ m → touched_count ys ≡ n → touched_count (x ∷ xs) ≤ touched_count (y ∷ ys)
count_here None None m n kept h xs ys e f = omega (arith, h, e, f)
count_here None (Some w) m n kept h xs ys e f = omega (arith, h, e, f)
count_here (Some u) None m n kept h xs ys e f = absurd (lost (kept u refl))
  where
    lost : (w : Touched) × (None ≡ Some w) → ⊥
    lost p = let q : None ≡ Some p.0 = p.1 in cc
count_here (Some u) (Some w) m n kept h xs ys e f = omega (arith, h, e, f)

same_inside : {A : Type 0} (a b : A) → Some a ≡ Some b → a ≡ b
same_inside a b e = cc

head_kept : (x y : Option Touched) (xs ys : List (Option Touched)) → StayTouched (x ∷ xs) (y ∷ ys) → (u : Touched) → x ≡ Some u → (w : Touched) × (y ≡ Some w)
head_kept x y xs ys kept u e = let w = kept 0 u (ap (λ (o : Option Touched). Some o) e) in (w.0, same_inside y (Some w.0) w.1)

less_long : (m n : ℕ) → suc m ≡ suc n → m ≡ n
less_long m n e = omega (arith, e)

count_more : (xs ys : List (Option Touched)) → length xs ≡ length ys → StayTouched xs ys → touched_count xs ≤ touched_count ys
count_more [] [] e kept = omega arith
count_more [] (y ∷ ys) e kept = absurd (cc)
count_more (x ∷ xs) [] e kept = absurd (cc)
count_more (x ∷ xs) (y ∷ ys) e kept =
    count_here x y (touched_count xs) (touched_count ys) (head_kept x y xs ys kept) (count_more xs ys (less_long (length xs) (length ys) e) (λ m u at. kept (suc m) u at)) xs ys refl refl

count_one : (xs ys : List (Option Touched)) (k : ℕ) (w : Touched) → length xs ≡ length ys → StayTouched xs ys → slice_get xs k ≡ Some None → slice_get ys k ≡ Some (Some w) → suc (touched_count xs) ≤ touched_count ys
count_one [] ys k w e kept f g = absurd (cc)
count_one (x ∷ xs) [] k w e kept f g = absurd (cc)
count_one (x ∷ xs) (y ∷ ys) zero w e kept f g =
    subst (λ (o : Option Touched). suc (touched_count (o ∷ xs)) ≤ touched_count (y ∷ ys)) (sym (same_inside x None f))
    (subst (λ (o : Option Touched). suc (touched_count xs) ≤ touched_count (o ∷ ys)) (sym (same_inside y (Some w) g))
    (next (touched_count xs) (touched_count ys) (count_more xs ys (less_long (length xs) (length ys) e) (λ m u at. kept (suc m) u at))))
  where
    next : (m n : ℕ) → m ≤ n → suc m ≤ suc n
    next m n h = omega (arith, h)
count_one (x ∷ xs) (y ∷ ys) (suc k) w e kept f g =
    further x y (head_kept x y xs ys kept) (count_one xs ys k w (less_long (length xs) (length ys) e) (λ m u at. kept (suc m) u at) f g)
  where
    further : (x y : Option Touched) → ((u : Touched) → x ≡ Some u → (w : Touched) × (y ≡ Some w)) → suc (touched_count xs) ≤ touched_count ys → suc (touched_count (x ∷ xs)) ≤ touched_count (y ∷ ys)
    further None None kept h = h
    further None (Some w) kept h = omega (arith, h)
    further (Some u) (Some w) kept h = omega (arith, h)
    further (Some u) None kept h = absurd (lost (kept u refl))
      where
        lost : (w : Touched) × (None ≡ Some w) → ⊥
        lost p = let q : None ≡ Some p.0 = p.1 in cc

-- Accesses.

module _ (scene : Scene) (around : Around) (stands : BlockStandsIn scene around) (memory : ℕ) (place : Place) (form : plain.TermForm) (writes : Truth) where
  abbrev stood : AccessStanding
  stood = standing_at scene around memory place form writes

  leads : (p : ℕ) → stood.leader p ≤ p
  leads p = omega arith

  -- a new one
  module _ (old new : Draft) (t : Touched) (a : AddsTouched old new scene around stood t) where
    copies : AddsAllCopies stood.leader stood.bank (copy_places stood) around.guards.now a.middle new t.copies
    copies = a.copies stands.scopes stands.low

    formed_copies : FormsCopies stood.leader stood.bank (copy_places stood) around.guards.now leads (length around.guards.now) a.middle new t.copies
    formed_copies = copies_forms stood.leader stood.bank (copy_places stood) around.guards.now leads (length around.guards.now) a.middle new t.copies copies

    touched_extends : Extends old new
    touched_extends = extends_again old a.middle new (named_extends old a.middle t.fault place a.names) formed_copies.extends

    touched_faults : new.faults ≡ (a.middle).faults
    touched_faults = copies_faults stood.leader stood.bank (copy_places stood) around.guards.now leads (length around.guards.now) a.middle new t.copies copies

    fault_named : (named : List (FaultKind × Place)) → AreNamed named new → length named ≤ 2 ^ 32 → slice_get named t.fault ≡ Some (OutOfRange, place)
    fault_named named all few =
        ap (λ n. slice_get named n) (a.names.number_is (let w = place_within named (length old.faults) (OutOfRange, place) found in omega (arith, w, few))) ∙ found
      where
        found : slice_get named (length old.faults) ≡ Some (OutOfRange, place)
        found = all (length old.faults) (OutOfRange, place)
            (formed_copies.extends.faults (length old.faults) (OutOfRange, place)
            (subst (λ (fs : List (FaultKind × Place)). slice_get fs (length old.faults) ≡ Some (OutOfRange, place)) (sym a.names.faults) (at_seam old.faults (OutOfRange, place))))

    -- one fault more, which is its own
    one_named : length new.faults ≡ length old.faults + 1
    one_named = ap (λ (fs : List (FaultKind × Place)). length fs) (touched_faults ∙ a.names.faults) ∙ length-append old.faults ((OutOfRange, place) ∷ [])

    fault_is : length new.faults ≤ 2 ^ 32 → t.fault ≡ length old.faults
    fault_is few = a.names.number_is (let more = one_named in omega (arith, more, few))

    touched_faultless : AddsFaultless old new
    touched_faultless =
        faultless_again old a.middle new (faultless_same old a.middle a.names.operations)
        (faultless_counted a.middle new 0 _ _
        (copies_counts any_register no_reach any_reach any_reach stood.leader stood.bank (copy_places stood) around.guards.now leads (length around.guards.now) a.middle new t.copies copies))

    new_laid : (named : List (FaultKind × Place)) → AreNamed named new → length named ≤ 2 ^ 32 → IsLaid named t
    new_laid named all few = record {
      place = place;
      fault = fault_named named all few;
      alone = λ k c at other. alone_copies.alone k c at (λ same. other (formed_copies.leaders k c at ∙ same));
    }
      where
        alone_copies : AreAlone stood.leader stood.bank (copy_places stood) around.guards.now (length around.guards.now) t.copies
        alone_copies = copies_alone stood.leader stood.bank (copy_places stood) around.guards.now (length around.guards.now) a.middle new t.copies copies

  pub touch_lays : (old new : Draft) (before after : Accesses) (number : ℕ) → TouchesAt scene around stood old new before after number → Lays old new before after
  touch_lays old new before after number t = record {
    extends = t.extends;
    laid = λ named all few laid none m u at.
        ⊎_elim (λ was. laid m u was) (λ (fresh : IsNew old new scene around stood number m u). new_laid old new u fresh.adds named all few) (t.known m u at);
    none = t.none;
    long = t.long;
    few = by t.adds t.fresh;
    own = λ few h. own_touch old new before after number t.extends (plain t.adds) t.long t.kept (λ m u at. known few m u (t.known m u at)) h;
  }
    where
      plain : (new ≡ old) ⊎ ((u : Touched) × AddsTouched old new scene around stood u) → AddsFaultless old new
      plain (inl same) = faultless_none old new same
      plain (inr (u, a)) = touched_faultless old new u a

      known : length new.faults ≤ 2 ^ 32 → (m : ℕ) (u : Touched) → (touched_in before m ≡ Some u) ⊎ IsNew old new scene around stood number m u
          → (touched_in before m ≡ Some u) ⊎ ((m ≡ number) × ((u.fault ≡ length old.faults) × (length new.faults ≡ length old.faults + 1)))
      known few m u (inl was) = inl was
      known few m u (inr fresh) = inr (fresh.own, (fault_is old new u fresh.adds few, one_named old new u fresh.adds))

      kept : (m : ℕ) (u : Touched) → slice_get before.touched.items m ≡ Some (Some u) → (w : Touched) × (slice_get after.touched.items m ≡ Some (Some w))
      kept m u at = (u, touched_there after.touched.items m u (t.kept m u (ap touched_of at)))

      still : new ≡ old → length new.faults + touched_count before.touched.items ≤ length old.faults + touched_count after.touched.items
      still same = not_fewer (length new.faults) (length old.faults) (touched_count before.touched.items) (touched_count after.touched.items) (ap (λ (d : Draft). length d.faults) same) (count_more before.touched.items after.touched.items (sym t.long) kept)

      by : (new ≡ old) ⊎ ((u : Touched) × AddsTouched old new scene around stood u) → (new ≡ old) ⊎ (has_no_operations before number ≡ true) → length new.faults + touched_count before.touched.items ≤ length old.faults + touched_count after.touched.items
      by (inl same) o = still same
      by (inr a) (inl same) = still same
      by (inr (u, a)) (inr bare) =
          let here = t.there (bare_within before number bare) in
          one_more (length new.faults) (length old.faults) (touched_count before.touched.items) (touched_count after.touched.items)
          (one_named old new u a)
          (count_one before.touched.items after.touched.items number here.0 (sym t.long) kept (bare_there (slice_get before.touched.items number) bare) (touched_there after.touched.items number here.0 here.1))

-- what a read gave is noted
pub notes_lays : (d : Draft) (before after : Accesses) (number path value : ℕ) → Notes before after number path value → Lays d d before after
notes_lays d before after number path value h = record {
  extends = extends_self d;
  laid = λ named all few laid none m u at. by named laid m u at (place_noted before after number path value h m);
  none = λ none. subst (λ (ns : List ℕ). AreNone ns) (sym h.counts) none;
  long = noted_long;
  few = not_fewer (length d.faults) (length d.faults) (touched_count before.touched.items) (touched_count after.touched.items) refl (count_more before.touched.items after.touched.items (sym noted_long) noted_kept);
  own = λ few own. own_notes d before after number path value h own;
}
  where
    noted_long : length after.touched.items ≡ length before.touched.items
    noted_long = ap (λ (os : List (Option Touched)). length os) h.touched ∙ set_long before.touched.items number (noted_in (slice_index_or before.touched.items number None) path value)

    noted_kept : StayTouched before.touched.items after.touched.items
    noted_kept m u at = of (place_noted before after number path value h m)
      where
        of : (touched_in after m ≡ touched_in before m) ⊎ ((m ≡ number) × (touched_in after m ≡ noted_in (touched_in before m) path value)) → (w : Touched) × (slice_get after.touched.items m ≡ Some (Some w))
        of (inl same) = (u, touched_there after.touched.items m u (same ∙ ap touched_of at))
        of (inr p) =
            let w : Touched = record { fault = u.fault; copies = u.copies; given = given_then u.given path value } in
            (w, touched_there after.touched.items m w (p.1 ∙ ap (λ (o : Option (Option Touched)). noted_in (touched_of o) path value) at))

    by : (named : List (FaultKind × Place)) → AreLaid named before → (m : ℕ) (u : Touched) → touched_in after m ≡ Some u
        → (touched_in after m ≡ touched_in before m) ⊎ ((m ≡ number) × (touched_in after m ≡ noted_in (touched_in before m) path value)) → IsLaid named u
    by named laid m u at (inl same) = laid m u (sym same ∙ at)
    by named laid m u at (inr p) =
        let old = noted_touched (touched_in before m) path value u (sym p.1 ∙ at) in
        let stood = laid m old.0 old.1.0 in
        record {
          place = stood.place;
          fault = subst (λ (n : ℕ). slice_get named n ≡ Some (OutOfRange, stood.place)) old.1.1.0 stood.fault;
          alone = subst (λ (cs : List AccessAt). (k : ℕ) (c : AccessAt) → slice_get cs k ≡ Some c → (c.leader ≡ k → ⊥) → c.guard ≡ None) old.1.1.1 stood.alone;
        }

-- Values.

pub converted_extends : (kept : Truth) (to : Kind) (value : ℕ) (old new : Draft) (v : ℕ) → MadeConverted kept to value old new v → Extends old new
converted_extends true to value old new v m = subst (λ (d : Draft). Extends old d) (sym m.0) (extends_self old)
converted_extends false to value old new v m = pushed_extends old new v None (Convert value to) m

pub variable_extends : (c : Option Counter) (held : VariableSlots) (lane : Lane) (current : List (Option ℕ)) (k : Kind) (old new : Draft) (v : ℕ) → MadeBy c held lane current k old new v → Extends old new
variable_extends None held lane current k old new v m = (shown_forms current (register_at held lane) old new v m).extends
variable_extends (Some c) held lane current k old new v m = (iterator_forms k held old new v m.0).extends

pub same_extends : (old new : Draft) → new ≡ old → Extends old new
same_extends old new same = subst (λ (d : Draft). Extends old d) (sym same) (extends_self old)

pub old_operand_extends : (own to : Kind) (value : ℕ) (old new : Draft) (v : ℕ) → MadeOldOperand own to value old new v → Extends old new
old_operand_extends own kind.Bool value old new v m = same_extends old new m.0
old_operand_extends own (kind.Unsigned w) value old new v m = converted_extends (same_kind own (kind.Unsigned w)) (kind.Unsigned w) value old new v m
old_operand_extends own (kind.Signed w) value old new v m = converted_extends (same_kind own (kind.Signed w)) (kind.Signed w) value old new v m

pub operand_extends : (t : Term) (to : Kind) (value : ℕ) (old new : Draft) (v : ℕ) → MadeOperand t to value old new v → Extends old new
operand_extends t kind.Bool value old new v m = same_extends old new m.0
operand_extends t (kind.Unsigned w) value old new v m = (held_forms t (kind.Unsigned w) value old new v m).extends
operand_extends t (kind.Signed w) value old new v m = (held_forms t (kind.Signed w) value old new v m).extends

pub folded_extends : (lane : Lane) (current : List (Option ℕ)) (held : VariableSlots) (op : Op) (t : Term) (value : ℕ) (old new : Draft) (v : ℕ) → FoldedWith lane current held op t value old new v → Extends old new
folded_extends lane current held op t value old new v m =
    extends_again old m.first new (shown_forms current (register_at held lane) old m.first m.before m.shown).extends
    (extends_again m.first m.second new (old_operand_extends held.kind (extension_of op held.kind (kind_written t)) m.before m.first m.second m.left m.left_made)
    (extends_again m.second m.third new (operand_extends t (extension_of op held.kind (kind_written t)) value m.second m.third m.right m.right_made)
    (extends_again m.third m.fourth new (pushed_extends m.third m.fourth m.all None (Compute op m.left m.right) m.pushes)
    (converted_extends (same_kind held.kind (extension_of op held.kind (kind_written t))) held.kind m.all m.fourth new v m.own))))

-- One path.

module _ (scene : Scene) (lane : Lane) (stands : BlockStandsIn scene lane.around) where
  -- the fault of an access that got its operations
  touched_fault : (before after : Accesses) (number : ℕ) → length after.touched.items ≡ length before.touched.items → (number < length before.touched.items → (t : Touched) × (touched_in after number ≡ Some t)) → number < length after.touched.items
      → (t : Touched) × ((touched_in after number ≡ Some t) × (t.fault ≡ fault_in after number))
  touched_fault before after number long touched within =
      let t = touched (subst (λ (n : ℕ). number < n) long within) in
      (t.0, (t.1, sym (ap (λ (o : Option Touched). fault_of_touched o) t.1)))

  pub read_lays : (access : Term) (memory : ℕ) (aim : Aim) (old new : Draft) (before after : Accesses) (v : ℕ) → MadeRead scene lane access memory aim old new before after v → Lays old new before after
  read_lays access memory aim old new before after v r =
      lays_again old r.first new before r.middle after (touch_lays scene lane.around stands memory (place_written access) (form_of access) false old r.first before r.middle aim.number r.touches)
      (lays_again r.first r.second new r.middle r.middle after
      (lays_probe r.first r.second r.middle _ _ (reach_told memory aim []) (fault_in r.middle aim.number) r.probes (touched_fault before r.middle aim.number r.touches.long r.touches.there))
      (lays_again r.second new new r.middle r.middle after
      (lays_quiet r.second new r.middle r.middle (found_extends scene (form_of access) r.second new memory aim (copied_in r.middle aim.number lane.number) _ v r.finds)
      (finds_faults scene (form_of access) r.second new memory aim (copied_in r.middle aim.number lane.number) _ v r.finds)
      (finds_faultless scene (form_of access) r.second new memory aim (copied_in r.middle aim.number lane.number) _ v r.finds) refl)
      (notes_lays new r.middle after aim.number lane.number v r.notes)))

  pub write_lays : (access : Term) (memory : ℕ) (aim : Aim) (value : ℕ) (old new : Draft) (before after : Accesses) → MadeWrite scene lane access memory aim value old new before after → Lays old new before after
  write_lays access memory aim value old new before after w =
      lays_again old w.first new before after after (touch_lays scene lane.around stands memory (place_written access) (form_of access) true old w.first before after aim.number w.touches)
      (lays_again w.first w.second new after after after
      (lays_probe w.first w.second after _ _ (reach_told memory aim []) (fault_in after aim.number) w.probes (touched_fault before after aim.number w.touches.long w.touches.there))
      (lays_quiet w.second new after after (pushed_extends w.second new _ _ _ w.writes) w.writes.faults (faultless_pushed w.second new _ _ _ w.writes tt) refl))

  module _ (current : List (Option ℕ)) where
    -- what stands behind indices
    way_lays : (r : Ref) (old new : Draft) (a : Accesses) (steps : List ReachStep) → MadeWay scene lane current old new (first_view scene r) (way_of (known_in scene) r) steps → Lays old new a a
    way_lays r old new a steps m =
        lays_quiet old new a a (way_part scene lane current (way_of (known_in scene) r) (memory_of (known_in scene) r) (first_view scene r) old new a steps m).extends
        (way_faults scene lane current (way_of (known_in scene) r) (first_view scene r) old new steps m)
        (faultless_counted old new 0 _ _
        (way_counts any_register no_reach any_reach any_reach scene lane current (way_of (known_in scene) r) (first_view scene r) (sees_any any_register no_reach any_reach any_reach (λ register. tt) scene lane (way_of (known_in scene) r)) old new steps m)) refl

    mutual
      pub term_lays : (t : Term) (old new : Draft) (before after : Accesses) (n next v : ℕ) → MadeTerm scene lane current t old new before after n next v → Lays old new before after
      term_lays (plain.term place k (plain.number negative z)) old new before after n next v m = lays_quiet old new before after (number_forms (kind_or_first k) negative z old new v m.part).extends (number_faults (kind_or_first k) negative z old new v m.part)
          (faultless_counted old new 0 _ _ (number_counts any_register no_reach any_reach any_reach (kind_or_first k) negative z old new v m.part)) m.same
      term_lays (plain.term place k (plain.truth_value b)) old new before after n next v m = lays_quiet old new before after (pushed_extends old new v None (Constant (truth b)) m.part) m.part.faults (faultless_pushed old new v None (Constant (truth b)) m.part tt) m.same
      term_lays (plain.term place k (plain.named r)) old new before after n next v m =
          lays_quiet old new before after (variable_extends (counter_of scene (entity_number r.entity)) (held_at scene.held.now (entity_number r.entity)) lane current (kind_or_first k) old new v m.part)
          (variable_faults (counter_of scene (entity_number r.entity)) (held_at scene.held.now (entity_number r.entity)) lane current (kind_or_first k) old new v m.part)
          (faultless_counted old new 0 _ _
          (variable_counts any_register no_reach any_reach any_reach (counter_of scene (entity_number r.entity)) (held_at scene.held.now (entity_number r.entity)) lane current (kind_or_first k) tt old new v m.part)) m.same
      term_lays (plain.term place k (plain.accessed r ts)) old new before after n next v m =
          lays_again old m.middle new before m.between after
          (lays_again old m.named m.middle before m.between m.between (terms_lay ts old m.named before m.between n m.aim.number m.aim.indices m.indices) (way_lays r m.named m.middle m.between m.aim.steps m.steps))
          (read_lays _ _ m.aim m.middle new m.between after v m.reads)
      term_lays (plain.term place k (plain.in_bank r bank at row)) old new before after n next v m =
          lays_again old m.middle new before m.between after (term_lays row old m.middle before m.between n m.aim.number m.value m.row) (read_lays _ _ m.aim m.middle new m.between after v m.reads)
      term_lays (plain.term place k (plain.applied op left right)) old new before after n next v m =
          lays_again old m.middle new before m.between after (term_lays left old m.middle before m.between n m.own m.a m.first)
          (lays_again m.middle m.end new m.between after after (term_lays right m.middle m.end m.between after m.own next m.b m.second)
          (lays_quiet m.end new after after (operation_forms op left right (kind_or_first k) m.a m.b m.end new v m.operation).extends (operation_faults op left right m.a m.b m.end new v m.operation)
          (faultless_counted m.end new _ _ _ (operation_counts any_register no_reach any_reach any_reach op left right m.a m.b m.end new v m.operation)) refl))
      term_lays (plain.term place k (plain.converted inner to)) old new before after n next v m =
          lays_again old m.middle new before after after (term_lays inner old m.middle before after n next m.a m.operand)
          (lays_quiet m.middle new after after (converted_extends (is_kept inner to) to m.a m.middle new v m.converts) (converted_faults (is_kept inner to) to m.a m.middle new v m.converts)
          (converted_faultless (is_kept inner to) to m.a m.middle new v m.converts) refl)

      pub terms_lay : (ts : plain.Terms) (old new : Draft) (before after : Accesses) (n next : ℕ) (vs : List ℕ) → MadeTerms scene lane current ts old new before after n next vs → Lays old new before after
      terms_lay plain.no_terms old new before after n next vs m = lays_none old new before after m.still m.same
      terms_lay (plain.term_then t ts) old new before after n next vs m =
          lays_again old m.middle new before m.between after (term_lays t old m.middle before m.between n m.own m.a m.first) (terms_lay ts m.middle new m.between after m.own next m.more m.rest)

    pub aim_lays : (form : plain.TermForm) (old new : Draft) (before after : Accesses) (n : ℕ) (aimed : Option (Aim × ℕ)) → MadeAim scene lane current form old new before after n aimed → Lays old new before after
    aim_lays (plain.accessed r ts) old new before after n (Some (aim, memory)) m =
        lays_again old m.0.middle new before after after (terms_lay ts old m.0.middle before after n aim.number aim.indices m.0.indices) (way_lays r m.0.middle new after aim.steps m.0.steps)
    aim_lays (plain.accessed r ts) old new before after n None m = absurd m
    aim_lays (plain.in_bank r bank at row) old new before after n (Some (aim, memory)) m = term_lays row old new before after n aim.number m.0.value m.0.row
    aim_lays (plain.in_bank r bank at row) old new before after n None m = absurd m
    aim_lays (plain.number negative z) old new before after n None m = lays_none old new before after m.0 m.1
    aim_lays (plain.number negative z) old new before after n (Some aimed) m = absurd m
    aim_lays (plain.truth_value b) old new before after n None m = lays_none old new before after m.0 m.1
    aim_lays (plain.truth_value b) old new before after n (Some aimed) m = absurd m
    aim_lays (plain.named r) old new before after n None m = lays_none old new before after m.0 m.1
    aim_lays (plain.named r) old new before after n (Some aimed) m = absurd m
    aim_lays (plain.applied op l r) old new before after n None m = lays_none old new before after m.0 m.1
    aim_lays (plain.applied op l r) old new before after n (Some aimed) m = absurd m
    aim_lays (plain.converted inner to) old new before after n None m = lays_none old new before after m.0 m.1
    aim_lays (plain.converted inner to) old new before after n (Some aimed) m = absurd m

  pub storing_lays : (target t : Term) (value : ℕ) (aimed : Option (Aim × ℕ)) (old : Draft) (before : Accesses) (new : Building) (next : ℕ) → MadeStoring scene lane target t value aimed old before new next
      → Lays old new.draft before new.accesses
  storing_lays target t value None old before new next m = lays_none old new.draft before new.accesses m.0 m.1
  storing_lays target t value (Some (aim, memory)) old before new next m =
      lays_again old m.0 new.draft before before new.accesses (lays_quiet old m.0 before before (held_forms t _ value old m.0 m.1.0 m.1.1.0).extends (held_faults t _ value old m.0 m.1.0 m.1.1.0) (held_faultless t _ value old m.0 m.1.0 m.1.1.0) refl)
      (write_lays target memory aim m.1.0 m.0 new.draft before new.accesses m.1.1.1.0)

  pub assigned_lays : (first entity : ℕ) (t : Term) (old new : Building) (next : ℕ) → MadeAssigned scene lane first entity t old new next → Lays old.draft new.draft old.accesses new.accesses
  assigned_lays first entity t old new next m =
      lays_again old.draft m.middle new.draft old.accesses new.accesses new.accesses (term_lays old.values.current.items t old.draft m.middle old.accesses new.accesses first next m.value m.term)
      (lays_quiet m.middle new.draft new.accesses new.accesses (held_forms t (held_at scene.held.now entity).kind m.value m.middle new.draft m.held m.holds).extends (held_faults t (held_at scene.held.now entity).kind m.value m.middle new.draft m.held m.holds)
      (held_faultless t (held_at scene.held.now entity).kind m.value m.middle new.draft m.held m.holds) refl)

  pub cleared_lays : (entity : ℕ) (old new : Building) → MadeCleared scene lane entity old new → Lays old.draft new.draft old.accesses new.accesses
  cleared_lays entity old new m =
      lays_quiet old.draft new.draft old.accesses new.accesses (number_forms (held_at scene.held.now entity).kind false 0 old.draft new.draft m.value m.number).extends
      (number_faults (held_at scene.held.now entity).kind false 0 old.draft new.draft m.value m.number)
      (faultless_counted old.draft new.draft 0 _ _ (number_counts any_register no_reach any_reach any_reach (held_at scene.held.now entity).kind false 0 old.draft new.draft m.value m.number)) m.same

  pub reduced_lays : (first entity : ℕ) (op : Op) (t : Term) (old new : Building) (next : ℕ) → MadeReduced scene lane first entity op t old new next → Lays old.draft new.draft old.accesses new.accesses
  reduced_lays first entity op t old new next m =
      lays_again old.draft m.middle new.draft old.accesses new.accesses new.accesses (term_lays old.values.current.items t old.draft m.middle old.accesses new.accesses first next m.value m.term)
      (lays_quiet m.middle new.draft new.accesses new.accesses (folded_extends lane old.values.current.items (held_at scene.held.now entity) op t m.value m.middle new.draft m.folded m.folds)
      (folded_faults lane old.values.current.items (held_at scene.held.now entity) op t m.value m.middle new.draft m.folded m.folds)
      (folded_faultless lane old.values.current.items (held_at scene.held.now entity) op t m.value m.middle new.draft m.folded m.folds) refl)

  holds_lays : (first : ℕ) (offsets : List Term) (values : List ℕ) (old new : Draft) (a : Accesses) (held : List ℕ) → MadeHolds scene first offsets values old new held → Lays old new a a
  holds_lays first [] values old new a held m = lays_none old new a a m.0 refl
  holds_lays first (t ∷ ts) [] old new a held m = lays_none old new a a m.0 refl
  holds_lays first (t ∷ ts) (v ∷ vs) old new a held (d, (h, (more, (one, (rest, is))))) =
      lays_again old d new a a a (lays_quiet old d a a (held_forms t (held_at scene.held.now first).kind v old d h one).extends (held_faults t (held_at scene.held.now first).kind v old d h one) (held_faultless t (held_at scene.held.now first).kind v old d h one) refl) (holds_lays (suc first) ts vs d new a more rest)

  pub kept_lays : (first entity : ℕ) (offsets : List Term) (old new : Building) (next : ℕ) → MadeKept scene lane first entity offsets old new next → Lays old.draft new.draft old.accesses new.accesses
  kept_lays first entity offsets old new next m =
      lays_again old.draft m.middle new.draft old.accesses new.accesses new.accesses (terms_lay old.values.current.items (terms offsets) old.draft m.middle old.accesses new.accesses first next m.values m.offsets_made)
      (holds_lays entity offsets m.values m.middle new.draft new.accesses m.held m.holds)

  pub stored_lays : (first : ℕ) (target t : Term) (old new : Building) (next : ℕ) → MadeStored scene lane first target t old new next → Lays old.draft new.draft old.accesses new.accesses
  stored_lays first target t old new next m =
      lays_again old.draft m.middle new.draft old.accesses m.between new.accesses (term_lays old.values.current.items t old.draft m.middle old.accesses m.between first m.own m.value m.term)
      (lays_again m.middle m.end new.draft m.between m.behind new.accesses (aim_lays old.values.current.items (form_of target) m.middle m.end m.between m.behind m.own m.aimed m.aims)
      (storing_lays target t m.value m.aimed m.end m.behind new next m.stores))

-- All paths.

pub lanes_lay : (One : ℕ → (b d : Building) → ℕ → Type 0) → ((n : ℕ) (b d : Building) (k : ℕ) → One n b d k → Lays b.draft d.draft b.accesses d.accesses)
    → (count first : ℕ) (old new : Building) (next : ℕ) → MadeLanes One count first old new next → Lays old.draft new.draft old.accesses new.accesses
lanes_lay One each zero first old new next m = lays_still old new m.0
lanes_lay One each (suc n) first old new next m =
    lays_again old.draft (m.0).draft new.draft old.accesses (m.0).accesses new.accesses (lanes_lay One each n first old m.0 m.1.0 m.1.1.0) (each n m.0 new next m.1.1.1)

pub tests_lay : TestsLay
tests_lay scene around first t zero old new next tests stands m = lays_still old new m.0
tests_lay scene around first t (suc n) old new next tests stands m =
    lays_again old.draft (m.0).draft new.draft old.accesses (m.0).accesses new.accesses (tests_lay scene around first t n old m.0 m.1.0 m.1.1.0 stands m.1.1.1.1.0)
    (term_lays scene (lane_of around n) stands (m.0).values.current.items t (m.0).draft new.draft (m.0).accesses new.accesses first next m.1.1.1.0 (m.1.1.1.1.1.0).term)

-- Arms.

pub arm_lays : (Inner : Commanding) (around : Around) (holds : Truth) (tests : List ℕ) (old new : Building) (first next : ℕ) (lefts : List Left) (m : MadeArm Inner around holds tests old new first next lefts)
    → Lays m.begin.draft m.inside.draft m.begin.accesses m.inside.accesses → Lays old.draft new.draft old.accesses new.accesses
arm_lays Inner around holds tests old new first next lefts m inner =
    lays_again old.draft m.begin.draft new.draft old.accesses m.begin.accesses new.accesses
    (lays_quiet old.draft m.begin.draft old.accesses m.begin.accesses
    (subst (λ (d : Draft). Extends old.draft d) (sym m.begin_draft) (arm_guards_form holds around.guards.now tests (length tests) old.draft m.guarded m.arm.guards.now m.guards).extends)
    (ap (λ (d : Draft). d.faults) m.begin_draft ∙ guards_faults holds around.guards.now tests (length tests) old.draft m.guarded m.arm.guards.now m.guards)
    (subst (λ (d : Draft). AddsFaultless old.draft d) (sym m.begin_draft) (guards_faultless holds around.guards.now tests (length tests) old.draft m.guarded m.arm.guards.now m.guards)) m.begin_accesses)
    (lays_again m.begin.draft m.inside.draft new.draft m.begin.accesses m.inside.accesses new.accesses inner (lays_none m.inside.draft new.draft m.inside.accesses new.accesses m.draft m.accesses))

-- All commands.

module _ (scene : Scene) where
  view_lays : (hidden : List Hidden) (form : ViewPlan) (around : Around) (old new : Building) (first next : ℕ) → BlockStandsIn scene around → MadeView scene hidden form around old new first next → Lays old.draft new.draft old.accesses new.accesses
  view_lays [] form around old new first next s m = lays_still old new m.still
  view_lays (h ∷ hs) form around old new first next s m =
      lanes_lay (λ n b d k. MadeKept scene (lane_of around n) first h.entity (offsets_of form) b d k) (λ n b d k one. kept_lays scene (lane_of around n) s first h.entity (offsets_of form) b d k one) (paths_counted around) first old new next m

  mutual
    pub command_lays : (a : Action) (around : Around) (old new : Building) (first next : ℕ) → BlockStandsIn scene around → MadeCommand scene a around old new first next → Lays old.draft new.draft old.accesses new.accesses
    command_lays (action id place form) around old new first next s m = action_lays form around old new first next s m

    action_lays : (form : ActionForm) (around : Around) (old new : Building) (first next : ℕ) → BlockStandsIn scene around → MadeActionForm scene form around old new first next → Lays old.draft new.draft old.accesses new.accesses
    action_lays (lets name declared (Some value)) around old new first next s m =
        lanes_lay (λ n b d k. MadeAssigned scene (lane_of around n) first (entity_number name.entity) value b d k)
        (λ n b d k one. assigned_lays scene (lane_of around n) s first (entity_number name.entity) value b d k one) (paths_counted around) first old new next m
    action_lays (lets name declared None) around old new first next s m =
        lanes_lay (λ n b d k. MadeCleared scene (lane_of around n) (entity_number name.entity) b d × (k ≡ first))
        (λ n b d k one. cleared_lays scene (lane_of around n) s (entity_number name.entity) b d one.0) (paths_counted around) first old new next m
    action_lays (assigns target value) around old new first next s m =
        lanes_lay (λ n b d k. MadeAssigned scene (lane_of around n) first (entity_number target.entity) value b d k)
        (λ n b d k one. assigned_lays scene (lane_of around n) s first (entity_number target.entity) value b d k one) (paths_counted around) first old new next m
    action_lays (stores target value) around old new first next s m =
        lanes_lay (λ n b d k. MadeStored scene (lane_of around n) first target value b d k) (λ n b d k one. stored_lays scene (lane_of around n) s first target value b d k one) (paths_counted around) first old new next m
    action_lays (reduces target op value) around old new first next s m =
        lanes_lay (λ n b d k. MadeReduced scene (lane_of around n) first (entity_number target.entity) op value b d k)
        (λ n b d k one. reduced_lays scene (lane_of around n) s first (entity_number target.entity) op value b d k one) (paths_counted around) first old new next m
    action_lays (decides test chosen other) around old new first next s m =
        let many : length m.tests ≡ paths_counted around = (tests_same scene around first test (paths_counted around) old m.tested m.own m.tests m.test).1 in
        lays_again old.draft m.tested.draft new.draft old.accesses m.tested.accesses new.accesses (tests_lay scene around first test (paths_counted around) old m.tested m.own m.tests s m.test)
        (lays_again m.tested.draft m.after_chosen.draft new.draft m.tested.accesses m.after_chosen.accesses new.accesses
        (arm_lays (MadeCommand scene chosen) around true m.tests m.tested m.after_chosen m.own m.behind m.chosen_left m.chosen
        (command_lays chosen m.chosen.arm m.chosen.begin m.chosen.inside m.own m.behind
        (stands_arm scene (MadeCommand scene chosen) around true m.tests m.tested m.after_chosen m.own m.behind m.chosen_left m.chosen s many) m.chosen.command))
        (lays_again m.after_chosen.draft m.after_other.draft new.draft m.after_chosen.accesses m.after_other.accesses new.accesses
        (other_lays other around m.tests m.after_chosen m.after_other m.behind next m.other_left s many m.other)
        (lays_quiet m.after_other.draft new.draft m.after_other.accesses new.accesses
        (choices_form m.tests m.joined.choices (length m.joined.choices) m.after_other.draft new.draft m.joined.middle new.values m.joined.choose).extends
        (choices_faults m.tests m.joined.choices (length m.joined.choices) m.after_other.draft new.draft m.joined.middle new.values m.joined.choose)
        (choices_faultless m.tests m.joined.choices (length m.joined.choices) m.after_other.draft new.draft m.joined.middle new.values m.joined.choose) m.joined.same)))
    action_lays (blocks body) around old new first next s m = groups_lays body around old new first next s m
    action_lays (lets_memory name shape shape_places value) around old new first next s m = lays_still old new m.still
    action_lays (views name parent form) around old new first next s m = view_lays (hidden_in (way_of (known_in scene) name)) form around old new first next s m
    action_lays (calls function arguments) around old new first next s m = lays_still old new m.still
    action_lays (repeats test body) around old new first next s m = lays_still old new m.still
    action_lays (counts iterator declared low high factor body combine combine_place) around old new first next s m = lays_still old new m.still

    pub other_lays : (other : MaybeAction) (around : Around) (tests : List ℕ) (old new : Building) (first next : ℕ) (lefts : List Left) → BlockStandsIn scene around → length tests ≡ paths_counted around
        → MadeOther scene other around tests old new first next lefts → Lays old.draft new.draft old.accesses new.accesses
    other_lays no_action around tests old new first next lefts s many m = lays_still old new m.still
    other_lays (one_action a) around tests old new first next lefts s many m =
        arm_lays (MadeCommand scene a) around false tests old new first next lefts m
        (command_lays a m.arm m.begin m.inside first next (stands_arm scene (MadeCommand scene a) around false tests old new first next lefts m s many) m.command)

    pub actions_lays : (part : Actions) (around : Around) (old new : Building) (first next : ℕ) → BlockStandsIn scene around → MadeActions scene part around old new first next → Lays old.draft new.draft old.accesses new.accesses
    actions_lays no_actions around old new first next s m = lays_still old new m.still
    actions_lays (action_then a rest) around old new first next s m =
        lays_again old.draft m.middle.draft new.draft old.accesses m.middle.accesses new.accesses (command_lays a around old m.middle first m.own s m.one) (actions_lays rest around m.middle new m.own next s m.rest)

    pub groups_lays : (body : Groups) (around : Around) (old new : Building) (first next : ℕ) → BlockStandsIn scene around → MadeGroups scene body around old new first next → Lays old.draft new.draft old.accesses new.accesses
    groups_lays no_groups around old new first next s m = lays_still old new m.still
    groups_lays (group_then g rest) around old new first next s m =
        lays_again old.draft m.middle.draft new.draft old.accesses m.middle.accesses new.accesses (actions_lays g around old m.middle first m.own s m.one) (groups_lays rest around m.middle new m.own next s m.rest)

pub terms_lay_all : TermsLay
terms_lay_all scene lane current t old new before after n next v stands m = term_lays scene lane stands current t old new before after n next v m

pub commands_lay : CommandsLay
commands_lay scene a around old new first next s m = command_lays scene a around old new first next s m

pub groups_lay : GroupsLay
groups_lay scene body around old new first next s m = groups_lays scene body around old new first next s m

pub each_lays : EachLay
each_lays scene around [] old new s m = lays_still old new m
each_lays scene around (c ∷ cs) old new s (mid, (next, (m, rest))) =
    lays_again old.draft mid.draft new.draft old.accesses mid.accesses new.accesses (command_lays scene c.command around old mid c.first next s m) (each_lays scene around cs mid new s rest)
