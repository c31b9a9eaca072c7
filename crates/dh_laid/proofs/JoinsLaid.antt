-- What arms left is of the kinds of its registers, and so are variables behind them.
use Rattle.std.proofs.Common.{◌≡◌, ◌⊎◌, inl, inr, ◌<◌, ◌≤◌, ℕ, List, Some, None, refl, sym, ◌∙◌, subst, length, arith}
use Rattle.std.specs.Prelude.{[], ◌∷◌, ◌++◌, drop, Option}
use Rattle.std.specs.List.{AllByRecursion}
use Rattle.dh_expressions.specs.declared.drafts.Draft.{Draft}
use Rattle.dh_formed.specs.Formed.{FormedBlock, HasKind}
use Rattle.dh_plan.specs.Blocks.{kind_at}
use Rattle.dh_formed.proofs.AccessesFormed.{noted_later}
use Rattle.dh_formed.specs.Formed.{AreNotedReads}
use Rattle.dh_commands.specs.declared.assignments.Change.{Change}
use Rattle.dh_commands.specs.declared.assignments.Values.{Values}
use Rattle.dh_commands.specs.declared.choices.Choice.{Choice}
use Rattle.dh_commands.specs.declared.choices.Left.{Left}
use Rattle.dh_commands.specs.Joined.{IsLeft, JoinsArms}
use Rattle.dh_commands.specs.Undone.{AreReady, left_at, lefts_of, first_left, undone, value_left}
use Rattle.dh_commands.proofs.JoinedArms.{first_has}
use Rattle.dh_laid.specs.Laid.{AreHeld, AreLeftByArms, ArmsLeave, ChoicesSuit, FormsChoices, HadKind, HoldsKind, JoinsForm, LeftHolds}
use Rattle.dh_laid.proofs.ChoicesLaid.{choices_form}
use Rattle.dh_laid.proofs.ValuesLaid.{AllHold, all_drop, given_there, hold_undone}

all_more : (P : Left → Type 0) (xs : List Left) (l : Left) → AllByRecursion P xs → P l → AllByRecursion P (xs ++ l ∷ [])
all_more P [] l a p = (p, tt)
all_more P (x ∷ xs) l a p = (a.0, all_more P xs l a.1 p)

lefts_hold : (x : FormedBlock) (d : Draft) (cs : List Change) (current : List (Option ℕ)) → AllHold x d current → AllByRecursion (HadKind x d) cs → AllByRecursion (LeftHolds x d) (lefts_of cs current)
lefts_hold x d [] current all had = tt
lefts_hold x d (c ∷ cs) current all had =
    all_more (LeftHolds x d) (lefts_of cs current) (left_at c (undone cs current)) (lefts_hold x d cs current all had.1)
    (λ value is. hold_undone x d cs current all had.1 c.register value (given_there (undone cs current) c.register value is))

pub arms_leave : ArmsLeave
arms_leave x d old new floor lefts e room h =
    subst (λ (ls : List Left). AllByRecursion (LeftHolds x d) ls) (sym (e.lefts_are room))
    (lefts_hold x d (drop floor old.log.items) old.current.items h.current (all_drop (HadKind x d) floor old.log.items h.log))

-- the first value that was left of a register
first_holds : (x : FormedBlock) (d : Draft) (lefts : List Left) (r : ℕ) (o : Option ℕ) → AllByRecursion (LeftHolds x d) lefts → o ≡ value_left (first_left lefts r) → HoldsKind x d r o
first_holds x d lefts r o all is value at = by (first_left lefts r) refl (sym is ∙ at)
  where
    by : (l : Option Left) → first_left lefts r ≡ l → value_left l ≡ Some value → HasKind x d (kind_at x.plan.registers r) value
    by None e v = absurd (cc)
    by (Some l) e v = let h = first_has (LeftHolds x d) lefts l r all e in subst (λ (n : ℕ). HasKind x d (kind_at x.plan.registers n) value) h.1 (h.0 value v)

first_room : (current : List (Option ℕ)) (lefts : List Left) (r : ℕ) (l : Left) → AllByRecursion (IsLeft current) lefts → first_left lefts r ≡ Some l → r < length current
first_room current lefts r l all e = let h = first_has (IsLeft current) lefts l r all e in subst (λ (n : ℕ). n < length current) h.1 h.0.room

held_joined : (x : FormedBlock) (d : Draft) (old new : Values) (chosen other : List Left) (choices : List Choice) → JoinsArms old new chosen other choices → AreHeld x d old → AreHeld x d new
held_joined x d old new chosen other choices j h = record {
  current = subst (λ c. AllHold x d c.items) (sym j.current) h.current;
  log = subst (λ l. AllByRecursion (HadKind x d) l.items) (sym j.log) h.log;
}

choices_suit : (x : FormedBlock) (d : Draft) (old new : Values) (chosen other : List Left) (choices : List Choice) → JoinsArms old new chosen other choices → AreReady old → length old.current.items ≤ length x.plan.registers
    → AreLeftByArms x d old chosen → AreLeftByArms x d old other → ChoicesSuit x d choices
choices_suit x d old new chosen other choices j ready long c1 c2 k c at =
    let are = j.are ready c1.left c2.left in
    let is = are.are k c at in
    record {
      there = within c.register (length old.current.items) (length x.plan.registers) (by (are.left k c at).0 (are.left k c at).1.1) long;
      chosen = first_holds x d chosen c.register c.chosen c1.hold is.chosen_is;
      other = first_holds x d other c.register c.other c2.hold is.other_is;
    }
  where
    within : (r m n : ℕ) → r < m → m ≤ n → r < n
    within r m n l k = omega (arith, l, k)

    by : (l : Left) → (first_left chosen c.register ≡ Some l) ⊎ (first_left other c.register ≡ Some l) → c.register < length old.current.items
    by l (inl e) = first_room old.current.items chosen c.register l c1.left e
    by l (inr e) = first_room old.current.items other c.register l c2.left e

pub joins_form : JoinsForm
joins_form tests chosen other old new m =
    let all : FormsChoices tests m.choices old.draft new.draft m.middle new.values = choices_form tests m.choices (length m.choices) old.draft new.draft m.middle new.values m.choose in
    record {
      extends = all.extends;
      forms = λ x a s t noted held ready long c1 c2.
          let f =
          all.forms x a s t (held_joined x old.draft old.values m.middle chosen other m.choices m.joins held) (choices_suit x old.draft old.values m.middle chosen other m.choices m.joins ready long c1 c2) in
          record {
            forms = f.forms;
            notes = noted_later x old.draft new.draft new.accesses all.extends (subst (λ k. AreNotedReads x old.draft k) (sym m.same) noted);
            held = f.held;
          };
    }
