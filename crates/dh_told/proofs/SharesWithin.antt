-- An access that a block makes shares an earlier read of the block, if any: what is shared is a read, and is made by the
-- commands of the block too.
use Rattle.std.proofs.Common.{◌≡◌, ◌⊎◌, inl, inr, ◌<◌, ◌≤◌, ◌+◌, ◌&&◌, ◌||◌, nat_le, nat_lt, ℕ, suc, Bool, true, false, List, [], ◌∷◌, ◌++◌, length, Option, Some, None, refl, ap, sym, ◌∙◌, subst, arith}
use Rattle.std.specs.Prelude.{slice_get}
use Rattle.std.specs.List.{AllByRecursion}
use Rattle.std.proofs.lemmas.Bool.{cases_lt}
use Rattle.std.proofs.lemmas.Bool.Decides.{nat_tests}
use Rattle.dh_tree.specs.Indices.{form_of}
use Rattle.dh_tree.specs.PlainTrees as plain
use Rattle.dh_tree.specs.PlainTrees.{Program, Term, Action, action, ActionForm, lets, lets_memory, views, assigns, stores, reduces, calls, blocks, decides, repeats, counts, MaybeAction, no_action, one_action, Actions, no_actions, action_then, Groups, no_groups, group_then, ViewPlan}
use Rattle.dh_tree.specs.Seen.{program_seen, terms}
use Rattle.dh_tree.specs.ViewOffsets.{offsets_of}
use Rattle.dh_meaning.specs.AccessNumbers.{accesses_of, part_accesses, plan_accesses, term_accesses, terms_accesses}
use Rattle.dh_meaning.specs.CoreOf as core
use Rattle.dh_meaning.specs.OnePhase.{any_makes, form_tests, groups_make, is_between, makes, other_makes, part_makes, test_makes, tests_make}
use Rattle.dh_meaning.specs.Phases.{Located, idle_phases_of, phases_of}
use Rattle.dh_meaning.specs.Sites.{nothing_around}
use Rattle.dh_meaning.specs.Ways.{Hidden, hidden_in}
use Rattle.dh_meets.specs.Sharing.{shared}
use Rattle.dh_meets.specs.SourceEvents.{accesses_in, trace}
use Rattle.dh_lengths.specs.SharedReads.{TellsShares}
use Rattle.dh_sound.specs.PhaseFacts.{HasStraight, HasTest, StandsAmong}
use Rattle.dh_sound.specs.Straight.{AreKeptActions, AreKeptGroups, IsKeptAction, IsKeptOther, KeepsAny}
use Rattle.dh_sound.proofs.EventCounts.{events_counted}
use Rattle.dh_sound.proofs.SamePhase.{straight_has_both, test_has_both}
use Rattle.dh_expressions.specs.declared.scenes.Scene.{Scene}
use Rattle.dh_expressions.specs.Evaluated.{known_in}
use Rattle.dh_laid.specs.Laid.{aim_accesses}
use Rattle.dh_laid.specs.LaidNumbers.{IsAccessForm}
use Rattle.dh_laid.specs.LaidUses.{EachWrite, EachWriteActions, EachWriteGroups, EachWriteOther, IsUnshared, WritesAlone}
use Rattle.dh_used.specs.SourceSites.{AllStand}
use Rattle.dh_used.proofs.NamedStores.{all_reach, target_reaches}
use Rattle.dh_used.proofs.SharedReads.{shared_before, shared_there}
use Rattle.dh_used.proofs.SharesOfProgram.{any_below, test_below, writes_alone}
use Rattle.dh_paced.specs.BlockLengths.{ShareWithin}
use Rattle.dh_paced.specs.Paced.{IsIn, IsReadGroups, IsReadIn, IsReadOfEach, IsReadOfView, IsReadOther, IsReadPart}

-- Numbers.

and_split : (a b : Bool) → (a && b) ≡ true → (a ≡ true) × (b ≡ true)
and_split true b h = (refl, h)
and_split false b h = absurd cc

or_split : (a b : Bool) → (a || b) ≡ true → (a ≡ true) ⊎ (b ≡ true)
or_split true b h = inl refl
or_split false b h = inr h

within : (k n count : ℕ) → is_between k n count ≡ true → IsIn n count k
within k n count h = by (and_split _ _ h)
  where
    by : (nat_le n k ≡ true) × (nat_lt k (n + count) ≡ true) → IsIn n count k
    by (low, high) = (grind (arith, nat_tests, low), grind (arith, nat_tests, high))

within_is : (k n count : ℕ) → IsIn n count k → is_between k n count ≡ true
within_is k n count (low, high) = ap (λ (t : Bool). t && nat_lt k (n + count)) (first k n low) ∙ second k (n + count) high
  where
    first : (k n : ℕ) → n ≤ k → nat_le n k ≡ true
    first k n l = grind (arith, nat_tests, l)

    second : (k m : ℕ) → k < m → nat_lt k m ≡ true
    second k m l = grind (arith, nat_tests, l)

never : false ≡ true → ⊥
never e = cc

none_within : (first k : ℕ) → IsIn first 0 k → ⊥
none_within first k (low, high) = omega (arith, low, high)

two : {X Y Z W : Type 0} → X ⊎ Y → (X → Z) → (Y → W) → Z ⊎ W
two (inl x) f g = inl (f x)
two (inr y) f g = inr (g y)

three : {X Y Z U V A B : Type 0} → X ⊎ Y → (X → U) → (Y → Z ⊎ V) → (Z → A) → (V → B) → U ⊎ (A ⊎ B)
three (inl x) f g h k = inl (f x)
three (inr y) f g h k = inr (two (g y) h k)

sum : (a b c : ℕ) → a + b + c ≡ a + (b + c)
sum a b c = omega arith

more : (first t x k : ℕ) → IsIn first (t + suc x) k → IsIn first (suc (t + x)) k
more first t x k (low, high) = (low, omega (arith, high))

-- The accesses of a test.

form_of_test : (form : ActionForm) (t : Term) (n k : ℕ) → core.test_of form ≡ Some t → form_tests k n form ≡ is_between k n (term_accesses t)
form_of_test (decides test chosen other) t n k e = let same : test ≡ t = cc in ap (λ (u : Term). is_between k n (term_accesses u)) same
form_of_test (repeats test body) t n k e = let same : test ≡ t = cc in ap (λ (u : Term). is_between k n (term_accesses u)) same
form_of_test (lets name declared value) t n k e = absurd cc
form_of_test (lets_memory name shape shape_places value) t n k e = absurd cc
form_of_test (views name parent form) t n k e = absurd cc
form_of_test (assigns target value) t n k e = absurd cc
form_of_test (stores target value) t n k e = absurd cc
form_of_test (reduces target op value) t n k e = absurd cc
form_of_test (calls function arguments) t n k e = absurd cc
form_of_test (blocks body) t n k e = absurd cc
form_of_test (counts iterator declared low high factor body combine combine_place) t n k e = absurd cc

test_is : (a : Action) (t : Term) (n k : ℕ) → core.test_of (core.action_form_of a) ≡ Some t → tests_make k n a ≡ is_between k n (term_accesses t)
test_is (action id place form) t n k e = form_of_test form t n k e

test_made : (tested : Located) (t : Term) → core.test_of (core.action_form_of tested.command) ≡ Some t → (k : ℕ) → IsIn tested.first (term_accesses t) k → test_makes k tested ≡ true
test_made tested t is k i = test_is tested.command t tested.first k is ∙ within_is k tested.first (term_accesses t) i

test_in : (tested : Located) (t : Term) → core.test_of (core.action_form_of tested.command) ≡ Some t → (k : ℕ) → test_makes k tested ≡ true → IsIn tested.first (term_accesses t) k
test_in tested t is k m = within k tested.first (term_accesses t) (sym (test_is tested.command t tested.first k is) ∙ m)

-- What is made is read, where it is no write.
module _ (known : core.Known) (P : ℕ → Type 0) (k : ℕ) (free : P k → ⊥) where
  -- all but the last of these
  not_last : (first reads : ℕ) → P (first + reads) → IsIn first (suc reads) k → IsIn first reads k
  not_last first reads p (low, high) = by (cases_lt k (first + reads))
    where
      by : (k < first + reads) ⊎ (first + reads ≤ k) → IsIn first reads k
      by (inl l) = (low, l)
      by (inr l) = absurd (free (subst P (same (first + reads) k l (omega (arith, high))) p))
        where
          same : (a b : ℕ) → a ≤ b → b ≤ a → a ≡ b
          same a b l m = omega (arith, l, m)

  stored : (first t : ℕ) (target : Term) → IsAccessForm (form_of target) → P (first + t + aim_accesses (form_of target)) → IsIn first (t + term_accesses target) k → IsIn first (t + aim_accesses (form_of target)) k
  stored first t (plain.term place kind (plain.accessed r ts)) is p i =
      not_last first (t + aim_accesses (plain.accessed r ts)) (subst P (sum first t (aim_accesses (plain.accessed r ts))) p) (more first t (aim_accesses (plain.accessed r ts)) k i)
  stored first t (plain.term place kind (plain.in_bank r bank at row)) is p i =
      not_last first (t + aim_accesses (plain.in_bank r bank at row)) (subst P (sum first t (aim_accesses (plain.in_bank r bank at row))) p) (more first t (aim_accesses (plain.in_bank r bank at row)) k i)
  stored first t (plain.term place kind (plain.number negative z)) is p i = absurd is
  stored first t (plain.term place kind (plain.truth_value b)) is p i = absurd is
  stored first t (plain.term place kind (plain.named r)) is p i = absurd is
  stored first t (plain.term place kind (plain.applied op left right)) is p i = absurd is
  stored first t (plain.term place kind (plain.converted inner to)) is p i = absurd is

  -- a view's offsets are read, where a variable keeps one on its way; where none does there are none
  view_made : (hs : List Hidden) (form : ViewPlan) (first : ℕ) → KeepsAny hs (offsets_of form) → is_between k first (plan_accesses form) ≡ true → IsReadOfView hs first form k
  view_made [] form first is m = none_within first k (within k first 0 (subst (λ (ts : List Term). is_between k first (terms_accesses (terms ts)) ≡ true) is m))
  view_made (h ∷ hs) form first is m = within k first (plan_accesses form) m

  mutual
    read_made : (a : Action) (first : ℕ) → IsKeptAction known a → EachWrite P first a → makes k first a ≡ true → IsReadIn known first a k
    read_made (action id place (lets name declared (Some value))) first is w m = within k first (term_accesses value) m
    read_made (action id place (lets name declared None)) first is w m = absurd (none_within first k (within k first 0 m))
    read_made (action id place (assigns target value)) first is w m = within k first (term_accesses value) m
    read_made (action id place (stores target value)) first is w m = stored first (term_accesses value) target (target_reaches target is.0) w (within k first (term_accesses value + term_accesses target) m)
    read_made (action id place (reduces target op value)) first is w m = within k first (term_accesses value) m
    read_made (action id place (decides test chosen other)) first is w m =
        three (or_split (is_between k first (term_accesses test)) (makes k (first + term_accesses test) chosen || other_makes k (first + term_accesses test + accesses_of chosen) other) m)
        (λ i. within k first (term_accesses test) i) (λ i. or_split (makes k (first + term_accesses test) chosen) (other_makes k (first + term_accesses test + accesses_of chosen) other) i)
        (λ i. read_made chosen (first + term_accesses test) is.1.0 w.0 i) (λ i. read_other other (first + term_accesses test + accesses_of chosen) is.1.1 w.1 i)
    read_made (action id place (blocks body)) first is w m = read_groups body first is w m
    read_made (action id place (lets_memory name shape shape_places value)) first is w m = absurd (never m)
    read_made (action id place (views name parent form)) first is w m = view_made (hidden_in (core.way_of known name)) form first is.1 m
    read_made (action id place (calls function arguments)) first is w m = absurd (never m)
    read_made (action id place (repeats test body)) first is w m = absurd (never m)
    read_made (action id place (counts iterator declared low high factor body combine combine_place)) first is w m = absurd (never m)

    read_other : (other : MaybeAction) (first : ℕ) → IsKeptOther known other → EachWriteOther P first other → other_makes k first other ≡ true → IsReadOther known first other k
    read_other no_action first is w m = absurd (never m)
    read_other (one_action a) first is w m = read_made a first is w m

    read_part : (part : Actions) (first : ℕ) → AreKeptActions known part → EachWriteActions P first part → part_makes k first part ≡ true → IsReadPart known first part k
    read_part no_actions first is w m = absurd (never m)
    read_part (action_then a rest) first is w m =
        two (or_split (makes k first a) (part_makes k (first + accesses_of a) rest) m) (λ i. read_made a first is.0 w.0 i) (λ i. read_part rest (first + accesses_of a) is.1 w.1 i)

    read_groups : (body : Groups) (first : ℕ) → AreKeptGroups known body → EachWriteGroups P first body → groups_make k first body ≡ true → IsReadGroups known first body k
    read_groups no_groups first is w m = absurd (never m)
    read_groups (group_then part rest) first is w m =
        two (or_split (part_makes k first part) (groups_make k (first + part_accesses part) rest) m) (λ i. read_part part first is.0 w.0 i) (λ i. read_groups rest (first + part_accesses part) is.1 w.1 i)

read_of : (scene : Scene) (k : ℕ) → (IsUnshared scene k → ⊥) → (cs : List Located) → AllByRecursion (λ (c : Located). IsKeptAction (known_in scene) c.command) cs → WritesAlone scene cs → any_makes k cs ≡ true → IsReadOfEach (known_in scene) cs k
read_of scene k free [] is w m = absurd (never m)
read_of scene k free (c ∷ cs) is w m =
    two (or_split (makes k c.first c.command) (any_makes k cs) m) (λ i. read_made (known_in scene) (λ number. IsUnshared scene number) k free c.command c.first is.0 w.0 i) (λ i. read_of scene k free cs is.1 w.1 i)

-- Blocks.

module _ (scene : Scene) (tells : TellsShares (program_seen scene.program.now) scene.shares.now) where
  abbrev p : Program
  p = program_seen scene.program.now

  told_here : (k : ℕ) → k < length (accesses_in (trace (program_seen scene.program.now))) → slice_get scene.shares.now k ≡ Some (shared (program_seen scene.program.now) k)
  told_here k below = tells.each k (subst (λ (n : ℕ). k < n) (events_counted nothing_around (program_seen scene.program.now).body) below)

  -- a read that is shared is no write
  not_unshared : (number read : ℕ) → slice_get scene.shares.now number ≡ Some (Some read) → IsUnshared scene read → ⊥
  not_unshared number read e u = u.other number e

  pub straight_within : (cs : List Located) → AllByRecursion (λ (c : Located). IsKeptAction (known_in scene) c.command) cs → AllStand scene cs → HasStraight (phases_of (program_seen scene.program.now) ++ idle_phases_of (program_seen scene.program.now)) cs
      → ShareWithin scene (shared (program_seen scene.program.now)) (λ number. any_makes number cs ≡ true) (IsReadOfEach (known_in scene) cs)
  straight_within cs named stand found = record {
    told = λ number made. told_here number (any_below (trace (program_seen scene.program.now)) cs number stand made);
    earlier = λ number read made e.
        let at = told_here number (any_below (trace (program_seen scene.program.now)) cs number stand made) ∙ ap (λ (o : Option ℕ). Some o) e in (
          shared_before (program_seen scene.program.now) read number e,
          read_of scene read (not_unshared number read at) cs named (writes_alone scene tells cs (all_reach (known_in scene) cs named) stand)
              (straight_has_both (program_seen scene.program.now) cs read number found made (shared_there (program_seen scene.program.now) read number e).phase),
        );
  }

  pub test_within : (tested : Located) (t : Term) → core.test_of (core.action_form_of tested.command) ≡ Some t → StandsAmong 0 (trace (program_seen scene.program.now)) tested
      → HasTest (phases_of (program_seen scene.program.now) ++ idle_phases_of (program_seen scene.program.now)) tested
      → ShareWithin scene (shared (program_seen scene.program.now)) (IsIn tested.first (term_accesses t)) (IsIn tested.first (term_accesses t))
  test_within tested t is stand found = record {
    told = λ number i. told_here number (test_below (trace (program_seen scene.program.now)) tested number stand (test_made tested t is number i));
    earlier = λ number read i e. (
      shared_before (program_seen scene.program.now) read number e,
      test_in tested t is read (test_has_both (program_seen scene.program.now) tested read number found (test_made tested t is number i) (shared_there (program_seen scene.program.now) read number e).phase),
    );
  }
