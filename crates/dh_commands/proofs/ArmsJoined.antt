-- The variables behind an `if`. At a path at which its arm was done a variable shows what it held as the arm ended: where
-- an arm set it, its choice has the register's own path, and so the test there picks the arm.
use Rattle.std.proofs.Common.{◌≡◌, ◌⊎◌, inl, inr, ℕ, ◌<◌, Bool, true, false, if◌then◌else◌, Some, None, List, length, refl, ap, sym, ◌∙◌, subst}
use Rattle.std.specs.Prelude.{Option, slice_get}
use Rattle.dh_value.specs.Operations.{is_true}
use Rattle.dh_meaning.specs.Effects.{Variables}
use Rattle.dh_meaning.specs.Paths.{Path}
use Rattle.dh_code.specs.Slots.{held_at}
use Rattle.dh_expressions.specs.declared.drafts.Draft.{Draft}
use Rattle.dh_expressions.specs.declared.scenes.Around.{Around}
use Rattle.dh_expressions.specs.declared.scenes.Scene.{Scene}
use Rattle.dh_expressions.specs.Drafted.{BlockBegun, FitsStep, BlockStep, word_shown}
use Rattle.dh_expressions.specs.Evaluated.{counter_of}
use Rattle.dh_expressions.specs.Shown.{current_shown, variable_shown}
use Rattle.dh_expressions.proofs.ListPlaces.{place_within, there}
use Rattle.dh_commands.specs.declared.assignments.Values.{Values}
use Rattle.dh_commands.specs.declared.choices.Choice.{Choice}
use Rattle.dh_commands.specs.declared.choices.Left.{Left}
use Rattle.dh_commands.specs.LanesRun.{is_on_at, lane_of, path_in, paths_counted}
use Rattle.dh_commands.specs.ShownVariables.{HasOwnCopies, IsSeen, ShowsVariables, ShowsVariableAt, register_in}
use Rattle.dh_commands.specs.Undone.{first_left, lefts_of, value_left}
use Rattle.dh_commands.specs.Joined.{AreChoices, IsLeft}
use Rattle.dh_commands.specs.Choosing.{Chooses, behind_shown, test_shown}
use Rattle.dh_commands.specs.Parted.{ShowsTests}
use Rattle.dh_commands.proofs.ArmsLeft.{ArmLeft, IsSetAt, given_slot, lefts_given, lefts_none, lefts_some, slot}
use Rattle.dh_commands.proofs.ChosenAll.{test_at}
use Rattle.dh_commands.proofs.JoinedArms.{first_has}
use Rattle.dh_commands.proofs.VariablesSet.{shown_alike}

slot_given : (o : Option (Option ℕ)) (v : ℕ) → slot o ≡ Some v → o ≡ Some (Some v)
slot_given None v h = absurd (cc)
slot_given (Some o) v h = ap Some h

-- what is chosen of an arm is what a variable showed as it ended
pub behind_is : (scene : Scene) (around : Around) (May : ℕ → Type 0) (x : BlockStep) (base behind : List (Option ℕ)) (lefts : List Left) (r : ℕ) → ArmLeft scene around May base behind lefts
    → behind_shown x base r (value_left (first_left lefts r)) ≡ variable_shown x behind r
behind_is scene around May x base behind lefts r arm =
    ap (λ (ls : List Left). behind_shown x base r (value_left (first_left ls r))) arm.lefts_are ∙ by (first_left (lefts_of arm.more behind) r) refl
  where
    by : (o : Option Left) → first_left (lefts_of arm.more behind) r ≡ o → behind_shown x base r (value_left o) ≡ variable_shown x behind r
    by None e =
        ap (λ (os : List (Option ℕ)). variable_shown x os r) (sym arm.back) ∙ ap (λ o. current_shown x o r) (lefts_none arm.more behind r e)
    by (Some l) e =
        let given = (first_has (IsLeft base) (lefts_of arm.more behind) l r (lefts_given base arm.more behind arm.given arm.room) e).0 in
        let last = (lefts_some (λ register path. IsSetAt scene around May base register path) arm.more behind r l arm.each e).0 in
        ap (λ o. behind_shown x base r o) given.value_is
        ∙ sym (ap (λ o. current_shown x o r) (slot_given (slice_get behind r) given.value (sym (given_slot behind r) ∙ (sym last ∙ given.value_is))))

-- a register of which nothing was left shows what it did
pub none_left : (scene : Scene) (around : Around) (May : ℕ → Type 0) (base behind : List (Option ℕ)) (lefts : List Left) (r : ℕ) → ArmLeft scene around May base behind lefts → first_left lefts r ≡ None
    → slice_get base r ≡ slice_get behind r
none_left scene around May base behind lefts r arm none =
    ap (λ (os : List (Option ℕ)). slice_get os r) (sym arm.back) ∙ lefts_none arm.more behind r (ap (λ (ls : List Left). first_left ls r) (sym arm.lefts_are) ∙ none)

-- where a register was left it was set
pub left_at_path : (scene : Scene) (around : Around) (May : ℕ → Type 0) (base behind : List (Option ℕ)) (lefts : List Left) (r : ℕ) (l : Left) → ArmLeft scene around May base behind lefts → first_left lefts r ≡ Some l
    → IsSetAt scene around May base r l.path
left_at_path scene around May base behind lefts r l arm found =
    (lefts_some (λ register path. IsSetAt scene around May base register path) arm.more behind r l arm.each (ap (λ (ls : List Left). first_left ls r) (sym arm.lefts_are) ∙ found)).1

-- a choice is of a register that was set at its path
pub choice_set : (scene : Scene) (around : Around) (May : ℕ → Type 0) (chosen other : List Left) (base one two : List (Option ℕ)) → ArmLeft scene around May base one chosen → ArmLeft scene around May base two other
    → (choices : List Choice) → AreChoices chosen other choices → (k : ℕ) (c : Choice) → slice_get choices k ≡ Some c → IsSetAt scene around May base c.register c.path
choice_set scene around May chosen other base one two arm_one arm_two choices are k c at = let l = are.left k c at in subst (λ (p : ℕ). IsSetAt scene around May base c.register p) l.1.0 (by l.0 l.1.1)
  where
    by : (l : Left) → (first_left chosen c.register ≡ Some l) ⊎ (first_left other c.register ≡ Some l) → IsSetAt scene around May base c.register l.path
    by l (inl found) = left_at_path scene around May base one chosen c.register l arm_one found
    by l (inr found) = left_at_path scene around May base two other c.register l arm_two found

module _ (scene : Scene) (around : Around) (May : ℕ → Type 0) (x : BlockStep) (tests : List ℕ) (chosen other : List Left) (base one two : List (Option ℕ))
    (arm_one : ArmLeft scene around May base one chosen) (arm_two : ArmLeft scene around May base two other)
    (choices : List Choice) (are : AreChoices chosen other choices) (old new : Draft) (before after : Values)
    (chooses : Chooses old new before after tests choices (length choices)) (same : before.current.items ≡ base) (long : length tests ≡ paths_counted around)
    (fits : FitsStep x new) (begun : BlockBegun x old) (truths : Path → Bool) (shows_tests : ShowsTests x around tests truths) (own : (entity : ℕ) → May entity → HasOwnCopies scene around entity) where
  -- the test at the path of a choice of a variable there
  module _ (e j : ℕ) (there_e : IsSeen scene around.levels.now e) (inside : j < paths_counted around) (on : is_on_at x around j ≡ true) where
    abbrev r : ℕ
    r = register_in scene around e j

    path_is : (k : ℕ) (c : Choice) → slice_get choices k ≡ Some c → c.register ≡ r → c.path ≡ j
    path_is k c at is =
        let set = choice_set scene around May chosen other base one two arm_one arm_two choices are k c at in
        let mine = own set.entity set.may in
        let apart = mine.placed.apart set.entity e c.path j mine.there there_e set.within inside (sym set.register_is ∙ is) in
        mine.own c.path j set.within inside (sym set.register_is ∙ (is ∙ ap (λ n. register_in scene around n j) (sym apart.0)))

    test_is : test_shown x tests j ≡ truths (path_in around j)
    test_is =
        let t = there tests j (subst (λ (n : ℕ). j < n) (sym long) inside) in
        ap (λ n. is_true (word_shown x n)) (test_at tests j t.0 t.1) ∙ shows_tests j t.0 inside on t.1

    abbrev Picks : Bool → Type 0
    Picks b = variable_shown x after.current.items r ≡ variable_shown x (if b then one else two) r

    -- of a variable that is chosen
    picked : (k : ℕ) (c : Choice) → slice_get choices k ≡ Some c → c.register ≡ r → Picks (truths (path_in around j))
    picked k c at is =
        let set = choice_set scene around May chosen other base one two arm_one arm_two choices are k c at in
        let path : c.path ≡ j = path_is k c at is in
        let choice = are.are k c at in
        ap (λ n. variable_shown x after.current.items n) (sym is)
        ∙ (chooses.picked are.one x fits begun k c (place_within choices k c at) at
        (subst (λ (os : List (Option ℕ)). c.register < length os) (sym same) set.room) (subst (λ (n : ℕ). c.path < n) (sym long) set.within)
        ∙ (ap (λ (t : Bool). if t then behind_shown x before.current.items c.register c.chosen else behind_shown x before.current.items c.register c.other) (ap (λ p. test_shown x tests p) path ∙ test_is)
        ∙ by choice.chosen_is choice.other_is (truths (path_in around j))))
      where
        to : (behind : List (Option ℕ)) (lefts : List Left) (o : Option ℕ) → ArmLeft scene around May base behind lefts → o ≡ value_left (first_left lefts c.register)
            → behind_shown x before.current.items c.register o ≡ variable_shown x behind r
        to behind lefts o arm value =
            ap (λ (os : List (Option ℕ)). behind_shown x os c.register o) same
            ∙ (ap (λ v. behind_shown x base c.register v) value
            ∙ (behind_is scene around May x base behind lefts c.register arm ∙ ap (λ n. variable_shown x behind n) is))

        by : c.chosen ≡ value_left (first_left chosen c.register) → c.other ≡ value_left (first_left other c.register)
            → (b : Bool) → (if b then behind_shown x before.current.items c.register c.chosen else behind_shown x before.current.items c.register c.other) ≡ variable_shown x (if b then one else two) r
        by a z true = to one chosen c.chosen arm_one a
        by a z false = to two other c.other arm_two z

    -- of another
    spared : first_left chosen r ≡ None → first_left other r ≡ None → (b : Bool) → Picks b
    spared a z b = ap (λ o. current_shown x o r) (chooses.others r never ∙ (ap (λ (os : List (Option ℕ)). slice_get os r) same ∙ kept b))
      where
        gone : (l : Left) (o : Option Left) → o ≡ None → o ≡ Some l → ⊥
        gone l o u v = let w : None ≡ Some l = sym u ∙ v in cc

        by : (c : Choice) → c.register ≡ r → (l : Left) → (first_left chosen c.register ≡ Some l) ⊎ (first_left other c.register ≡ Some l) → ⊥
        by c is l (inl found) = gone l (first_left chosen r) a (ap (λ n. first_left chosen n) (sym is) ∙ found)
        by c is l (inr found) = gone l (first_left other r) z (ap (λ n. first_left other n) (sym is) ∙ found)

        never : (k : ℕ) (c : Choice) → k < length choices → slice_get choices k ≡ Some c → c.register ≡ r → ⊥
        never k c few at is = let l = are.left k c at in by c is l.0 l.1.1

        kept : (b : Bool) → slice_get base r ≡ slice_get (if b then one else two) r
        kept true = none_left scene around May base one chosen r arm_one a
        kept false = none_left scene around May base two other r arm_two z

    pub picks : Picks (truths (path_in around j))
    picks = by (first_left chosen r) (first_left other r) refl refl
      where
        found : (l : Left) → (first_left chosen r ≡ Some l) ⊎ (first_left other r ≡ Some l) → Picks (truths (path_in around j))
        found l which = let c = are.all r l which in picked c.0 c.1.0 c.1.1.0 c.1.1.1

        by : (a b : Option Left) → first_left chosen r ≡ a → first_left other r ≡ b → Picks (truths (path_in around j))
        by (Some l) b e f = found l (inl e)
        by None (Some l) e f = found l (inr f)
        by None None e f = spared e f (truths (path_in around j))

  -- variables show what they hold, where they did as the arm ended that was done there
  pub joined_shows : (variables : Variables)
      → ((e j : ℕ) → IsSeen scene around.levels.now e → j < paths_counted around → is_on_at x around j ≡ true → truths (path_in around j) ≡ true → ShowsVariableAt scene around x one variables e j)
      → ((e j : ℕ) → IsSeen scene around.levels.now e → j < paths_counted around → is_on_at x around j ≡ true → truths (path_in around j) ≡ false → ShowsVariableAt scene around x two variables e j)
      → ShowsVariables scene around x after.current.items variables
  joined_shows variables shows_one shows_two = record { each = λ e j there_e inside on. by e j there_e inside on (truths (path_in around j)) refl (picks e j there_e inside on) }
    where
      by : (e j : ℕ) → IsSeen scene around.levels.now e → j < paths_counted around → is_on_at x around j ≡ true → (b : Bool) → truths (path_in around j) ≡ b
          → variable_shown x after.current.items (register_in scene around e j) ≡ variable_shown x (if truths (path_in around j) then one else two) (register_in scene around e j)
          → ShowsVariableAt scene around x after.current.items variables e j
      by e j there_e inside on true is picks_here =
          shown_alike x (counter_of scene e) (held_at scene.held.now e) (lane_of around j) one after.current.items (held_at scene.held.now e).kind
          (picks_here ∙ ap (λ (b : Bool). variable_shown x (if b then one else two) (register_in scene around e j)) is)
          ∙ shows_one e j there_e inside on is
      by e j there_e inside on false is picks_here =
          shown_alike x (counter_of scene e) (held_at scene.held.now e) (lane_of around j) two after.current.items (held_at scene.held.now e).kind
          (picks_here ∙ ap (λ (b : Bool). variable_shown x (if b then one else two) (register_in scene around e j)) is)
          ∙ shows_two e j there_e inside on is
