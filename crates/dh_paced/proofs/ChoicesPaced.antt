-- Variables behind an `if`: what is chosen is there at the greatest of the level of the test and of those at which both
-- arms left it; of a variable that no arm assigns to nothing is chosen.
use Rattle.std.proofs.Common.{◌≡◌, ◌⊎◌, inl, inr, ℕ, zero, suc, ◌<◌, ◌≤◌, Some, None, Option, List, length, refl, sym, ap, ◌∙◌, subst, arith}
use Rattle.std.specs.Prelude.{max, slice_get}
use Rattle.dh_expressions.specs.declared.drafts.Draft.{Draft}
use Rattle.dh_expressions.specs.declared.scenes.Around.{Around}
use Rattle.dh_expressions.specs.declared.scenes.Scene.{Scene}
use Rattle.dh_expressions.specs.Drafted.{Extends}
use Rattle.dh_expressions.proofs.ListPlaces.{set_here, set_long, set_other, some_same}
use Rattle.dh_expressions.proofs.Pushing.{extends_again, extends_self, pushed_extends}
use Rattle.dh_formed.specs.Timed.{AgreeInTime, BlockClocks, CurrentAt, HasClock, StartedInTime, TimesValue, Within}
use Rattle.dh_formed.proofs.CommandsFormed.{selects_in_time}
use Rattle.dh_formed.proofs.ValuesTimed.{agree_before, shown_timed, time_later, within_again, within_more, within_none}
use Rattle.dh_commands.specs.declared.assignments.Values.{Values}
use Rattle.dh_commands.specs.declared.choices.Choice.{Choice}
use Rattle.dh_commands.specs.declared.choices.Left.{Left}
use Rattle.dh_commands.specs.Joined.{AreApartChoices, IsLeft}
use Rattle.dh_commands.specs.MadeCommands.{MadeBehind, MadeChoice, MadeChoiceBy, MadeChoices}
use Rattle.dh_commands.specs.Undone.{first_left, given_at, lefts_of, value_left}
use Rattle.dh_commands.proofs.ArmsLeft.{ArmLeft, IsSetAt, given_slot, lefts_given, lefts_some, slot}
use Rattle.dh_commands.proofs.ArmsJoined.{none_left}
use Rattle.dh_commands.proofs.JoinedArms.{first_has}
use Rattle.dh_laid.proofs.ChoicesLaid.{choices_form}
use Rattle.dh_paced.proofs.AssignmentsLogged.{cases_last}
use Rattle.dh_paced.proofs.LeavesPaced.{value_then, value_there, value_where}
use Rattle.dh_paced.proofs.TestsPaced.{TestsAt}

slot_given : (o : Option (Option ℕ)) (v : ℕ) → slot o ≡ Some v → o ≡ Some (Some v)
slot_given None v h = absurd (cc)
slot_given (Some o) v h = ap Some h

-- what is chosen of an arm is there when what it left is
module _ (scene : Scene) (top : Around) (May : ℕ → Type 0) (base behind : List (Option ℕ)) (lefts : List Left) (arm : ArmLeft scene top May base behind lefts) (r level : ℕ) where
  -- what is chosen, where something was left, is what the arm ended with
  left_is : (v : ℕ) → Some v ≡ value_left (first_left lefts r) → slice_get behind r ≡ Some (Some v)
  left_is v is = by (first_left (lefts_of arm.more behind) r) refl (is ∙ ap (λ (ls : List Left). value_left (first_left ls r)) arm.lefts_are)
    where
      by : (o : Option Left) → first_left (lefts_of arm.more behind) r ≡ o → Some v ≡ value_left (first_left (lefts_of arm.more behind) r) → slice_get behind r ≡ Some (Some v)
      by None e same = absurd (let u : Some v ≡ None = same ∙ ap value_left e in cc)
      by (Some l) e same =
          let last : (l.value ≡ given_at behind r) × IsSetAt scene top May base r l.path = lefts_some (λ register path. IsSetAt scene top May base register path) arm.more behind r l arm.each e in
          slot_given (slice_get behind r) v (sym (given_slot behind r) ∙ (sym last.0 ∙ sym (same ∙ ap value_left e)))

  -- where nothing was, it is as before
  none_is : None ≡ value_left (first_left lefts r) → slice_get base r ≡ slice_get behind r
  none_is is = by (first_left lefts r) refl is
    where
      by : (o : Option Left) → first_left lefts r ≡ o → None ≡ value_left (first_left lefts r) → slice_get base r ≡ slice_get behind r
      by None e same = none_left scene top May base behind lefts r arm e
      by (Some l) e same =
          let given = (first_has (IsLeft base) (lefts_of arm.more behind) l r (lefts_given base arm.more behind arm.given arm.room) (ap (λ (ls : List Left). first_left ls r) (sym arm.lefts_are) ∙ e)).0 in
          absurd (let u : None ≡ Some given.value = same ∙ (ap value_left e ∙ given.value_is) in cc)

  pub behind_timed : (current : List (Option ℕ)) (o : Option ℕ) (old new : Draft) (v : ℕ) → MadeBehind current r o old new v → o ≡ value_left (first_left lefts r) → slice_get current r ≡ slice_get base r
      → TimesValue old new v (λ c. CurrentAt c (slice_get behind r) level) (λ c. level)
  behind_timed current None old new v m is same =
      value_where old new v (λ c. CurrentAt c (slice_get current r) level) (λ c. CurrentAt c (slice_get behind r) level) (λ c. level) (λ c. level)
      (λ c w. subst (λ (o : Option (Option ℕ)). CurrentAt c o level) (sym (same ∙ none_is is)) w) (λ c w. refl) (shown_timed current r (λ c. level) old new v m)
  behind_timed current (Some value) old new v m is same =
      value_there old new value v (λ c. CurrentAt c (slice_get behind r) level) (λ c. level) m (λ c w. subst (λ (o : Option (Option ℕ)). CurrentAt c o level) (left_is value is) w)

behind_extends : (current : List (Option ℕ)) (r : ℕ) (o : Option ℕ) (old new : Draft) (v : ℕ) → MadeBehind current r o old new v → Extends old new
behind_extends current r None old new v m = (shown_timed current r (λ c. 0) old new v m).extends
behind_extends current r (Some value) old new v m = subst (λ (d : Draft). Extends old d) (sym m.0) (extends_self old)

choice_extends : (test : ℕ) (d : Choice) (old new : Draft) (before after : Values) → MadeChoice test d old new before after → Extends old new
choice_extends test d old new before after m =
    extends_again old m.first new (behind_extends before.current.items d.register d.chosen old m.first m.yes_value m.chosen)
    (extends_again m.first m.second new (behind_extends before.current.items d.register d.other m.first m.second m.no_value m.other) (pushed_extends m.second new m.value _ _ m.pushes))

-- One choice.

module _ (scene : Scene) (top : Around) (A B : ℕ → Type 0) (base one two : List (Option ℕ)) (chosen other : List Left) (arm_one : ArmLeft scene top A base one chosen) (arm_two : ArmLeft scene top B base two other) (tests : List ℕ) (choices : List Choice)
    (c : BlockClocks) (level : ℕ) (at : TestsAt c level tests) (first second : (k : ℕ) → ℕ)
    (left_one : (k : ℕ) (d : Choice) → slice_get choices k ≡ Some d → CurrentAt c (slice_get one d.register) (first k)) (left_two : (k : ℕ) (d : Choice) → slice_get choices k ≡ Some d → CurrentAt c (slice_get two d.register) (second k))
    (chosen_is : (k : ℕ) (d : Choice) → slice_get choices k ≡ Some d → d.chosen ≡ value_left (first_left chosen d.register)) (other_is : (k : ℕ) (d : Choice) → slice_get choices k ≡ Some d → d.other ≡ value_left (first_left other d.register))
    (room : (k : ℕ) (d : Choice) → slice_get choices k ≡ Some d → d.register < length base) (tested : (k : ℕ) (d : Choice) → slice_get choices k ≡ Some d → (test : ℕ) × (slice_get tests d.path ≡ Some test)) (apart : AreApartChoices choices)
    (most : ℕ) (few : (k : ℕ) (d : Choice) → slice_get choices k ≡ Some d → max level (max (first k) (second k)) ≤ most) where
  abbrev pub joined : (k : ℕ) → ℕ
  joined k = max level (max (first k) (second k))

  choice_timed : (d : Choice) (k test : ℕ) (old new : Draft) (before after : Values) (m : MadeChoice test d old new before after) → slice_get choices k ≡ Some d → slice_get before.current.items d.register ≡ slice_get base d.register
      → TimesValue old new m.value (λ x. HasClock x level test × (CurrentAt x (slice_get one d.register) (first k) × CurrentAt x (slice_get two d.register) (second k))) (λ x. joined k)
  choice_timed d k test old new before after m here same =
      value_then old m.first new m.yes_value m.value Where (λ x. first k) (λ x. joined k) (λ x w. one_few level (first k) (second k))
      (value_where old m.first m.yes_value (λ x. CurrentAt x (slice_get one d.register) (first k)) Where (λ x. first k) (λ x. first k) (λ x w. w.1.0) (λ x w. refl)
      (behind_timed scene top A base one chosen arm_one d.register (first k) before.current.items d.chosen old m.first m.yes_value m.chosen (chosen_is k d here) same))
      (value_then m.first m.second new m.no_value m.value (λ x. Where x × HasClock x (first k) m.yes_value) (λ x. second k) (λ x. joined k) (λ x w. two_few level (first k) (second k))
      (value_where m.first m.second m.no_value (λ x. CurrentAt x (slice_get two d.register) (second k)) (λ x. Where x × HasClock x (first k) m.yes_value) (λ x. second k) (λ x. second k) (λ x w. w.0.1.1) (λ x w. refl)
      (behind_timed scene top B base two other arm_two d.register (second k) before.current.items d.other m.first m.second m.no_value m.other (other_is k d here) same))
      (value_where m.second new m.value (λ x. HasClock x level test × (HasClock x (first k) m.yes_value × HasClock x (second k) m.no_value))
      (λ x. (Where x × HasClock x (first k) m.yes_value) × HasClock x (second k) m.no_value) (λ x. joined k) (λ x. joined k) (λ x w. (w.0.0.0, (w.0.1, w.1))) (λ x w. refl)
      (selects_in_time m.second new m.value test m.yes_value m.no_value (λ x. level) (λ x. first k) (λ x. second k) m.pushes)))
    where
      Where : BlockClocks → Type 0
      Where x = HasClock x level test × (CurrentAt x (slice_get one d.register) (first k) × CurrentAt x (slice_get two d.register) (second k))

      one_few : (a b e : ℕ) → b ≤ max a (max b e)
      one_few a b e = omega arith

      two_few : (a b e : ℕ) → e ≤ max a (max b e)
      two_few a b e = omega arith

  -- the first choices, so many
  pub record ChoicesTo (count : ℕ) (old new : Draft) (current : List (Option ℕ)) : Type 0 where
    pub within : Within c old new most
    pub done : (k : ℕ) (d : Choice) → k < count → slice_get choices k ≡ Some d → CurrentAt c (slice_get current d.register) (joined k)
    pub rest : (r : ℕ) → ((k : ℕ) (d : Choice) → k < count → slice_get choices k ≡ Some d → d.register ≡ r → ⊥) → slice_get current r ≡ slice_get base r
    pub long : length current ≡ length base

  pub choices_paced : (count : ℕ) (old new : Draft) (before after : Values) → before.current.items ≡ base → MadeChoices tests choices count old new before after → AgreeInTime c new → StartedInTime c old → ChoicesTo count old new after.current.items
  choices_paced zero old new before after same m agree started = record {
    within = within_none c old new most m.0;
    done = λ k d less here. absurd (never k less);
    rest = λ r none. ap (λ (v : Values). slice_get v.current.items r) m.1 ∙ ap (λ (os : List (Option ℕ)). slice_get os r) same;
    long = ap (λ (v : Values). length v.current.items) m.1 ∙ ap (λ (os : List (Option ℕ)). length os) same;
  }
    where
      never : (k : ℕ) → k < 0 → ⊥
      never k h = omega (arith, h)
  choices_paced (suc n) old new before after same m agree started =
      further m.0 m.1.0 m.1.1.0 m.1.1.1.1.0 (λ e. choices_paced n old m.0 before m.1.0 same m.1.1.1.0 e started) ((choices_form tests choices n old m.0 before m.1.0 m.1.1.1.0).extends) (tested n m.1.1.0 m.1.1.1.1.0) m.1.1.1.1.1
    where
      further : (e : Draft) (v : Values) (d : Choice) → slice_get choices n ≡ Some d → (AgreeInTime c e → ChoicesTo n old e v.current.items) → Extends old e → (test : ℕ) × (slice_get tests d.path ≡ Some test)
          → MadeChoiceBy (slice_get tests d.path) d e new v after → ChoicesTo (suc n) old new after.current.items
      further e v d here front extends (test, found) by = made (subst (λ (o : Option ℕ). MadeChoiceBy o d e new v after) found by)
        where
          untouched : (k : ℕ) (b : Choice) → k < n → slice_get choices k ≡ Some b → b.register ≡ d.register → ⊥
          untouched k b less at_k is = let e : k ≡ n = apart k n b d at_k here is in omega (arith, less, e)

          made : MadeChoice test d e new v after → ChoicesTo (suc n) old new after.current.items
          made m = put (choice_timed d n test e new v after m here) (end_agree m)
            where
              ext : Extends e new
              ext = choice_extends test d e new v after m

              end_agree : MadeChoice test d e new v after → ChoicesTo n old e v.current.items
              end_agree m = front (agree_before c e new ext agree)

              put : (slice_get v.current.items d.register ≡ slice_get base d.register
                  → TimesValue e new m.value (λ x. HasClock x level test × (CurrentAt x (slice_get one d.register) (first n) × CurrentAt x (slice_get two d.register) (second n))) (λ x. joined n))
                  → ChoicesTo n old e v.current.items → ChoicesTo (suc n) old new after.current.items
              put timed f =
                  let t : TimesValue e new m.value (λ x. HasClock x level test × (CurrentAt x (slice_get one d.register) (first n) × CurrentAt x (slice_get two d.register) (second n))) (λ x. joined n) =
                  timed (f.rest d.register untouched) in
                  let w : HasClock c level test × (CurrentAt c (slice_get one d.register) (first n) × CurrentAt c (slice_get two d.register) (second n)) = (at d.path test found, (left_one n d here, left_two n d here)) in
                  let begun : StartedInTime c e = time_later c old e extends started in
                  record {
                    within = within_again c old e new most most (self most) f.within (within_more c e new (joined n) most (few n d here) (t.within c agree begun w));
                    done = λ k b less at_k. by_done k b f (t.at c agree begun w) at_k (cases_last k n less);
                    rest = λ r none.
                        ap (λ (os : List (Option ℕ)). slice_get os r) m.sets.current
                        ∙ (set_other v.current.items d.register r (Some m.value) (λ is. none n d (omega arith) here (sym is)) ∙ f.rest r (λ k b less at_k. none k b (omega (arith, less)) at_k));
                    long = ap (λ (os : List (Option ℕ)). length os) m.sets.current ∙ (set_long v.current.items d.register (Some m.value) ∙ f.long);
                  }
                where
                  self : (i : ℕ) → i ≤ i
                  self i = omega arith

                  by_done : (k : ℕ) (b : Choice) → ChoicesTo n old e v.current.items → HasClock c (joined n) m.value → slice_get choices k ≡ Some b → (k < n) ⊎ (k ≡ n) → CurrentAt c (slice_get after.current.items b.register) (joined k)
                  by_done k b f clock at_k (inl less) =
                      subst (λ (os : List (Option ℕ)). CurrentAt c (slice_get os b.register) (joined k)) (sym m.sets.current)
                      (subst (λ (o : Option (Option ℕ)). CurrentAt c o (joined k)) (sym (set_other v.current.items d.register b.register (Some m.value) (λ is. untouched k b less at_k is))) (f.done k b less at_k))
                  by_done k b f clock at_k (inr last) =
                      let same : d ≡ b = some_same d b (sym here ∙ (ap (λ (i : ℕ). slice_get choices i) (sym last) ∙ at_k)) in
                      subst (λ (i : ℕ). CurrentAt c (slice_get after.current.items b.register) (joined i)) (sym last)
                      (subst (λ (b : Choice). CurrentAt c (slice_get after.current.items b.register) (joined n)) same
                      (subst (λ (os : List (Option ℕ)). CurrentAt c (slice_get os d.register) (joined n)) (sym m.sets.current)
                      (subst (λ (o : Option (Option ℕ)). CurrentAt c o (joined n)) (sym (set_here v.current.items d.register (Some m.value) (subst (λ (i : ℕ). d.register < i) (sym f.long) (room n d here)))) clock)))
