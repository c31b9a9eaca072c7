-- What an arm left, and the values as it ended: of a register that it set, the value then; all others are as before.
use Rattle.std.proofs.Common.{◌≡◌, ℕ, zero, suc, ◌<◌, ◌==◌, Bool, true, false, if◌then◌else◌, Some, None, List, [], ◌∷◌, ◌++◌, length, take, drop, refl, ap, sym, ◌∙◌, subst}
use Rattle.std.specs.Prelude.{Option, slice_get, slice_index}
use Rattle.std.specs.List.{AllByRecursion}
use Rattle.std.proofs.lemmas.Bool.{eq-eqb, eqb-true}
use Rattle.std.proofs.lemmas.List.{append-nil}
use Rattle.dh_expressions.specs.declared.scenes.Around.{Around}
use Rattle.dh_expressions.specs.declared.scenes.Scene.{Scene}
use Rattle.dh_expressions.proofs.ListPlaces.{set_other, some_same}
use Rattle.dh_commands.specs.declared.assignments.Change.{Change}
use Rattle.dh_commands.specs.declared.assignments.Values.{Values}
use Rattle.dh_commands.specs.declared.choices.Left.{Left}
use Rattle.dh_commands.specs.LanesRun.{paths_counted}
use Rattle.dh_commands.specs.ShownVariables.{register_in}
use Rattle.dh_commands.specs.Undone.{AreGiven, AreReady, Changes, EndsArm, HasRoom, IsChange, IsGiven, first_left, given_at, left_at, lefts_of, undone}
use Rattle.dh_commands.specs.Joined.{IsLeft}
use Rattle.dh_commands.proofs.JoinedArms.{first_more, left_if, left_or}

-- what is given at a place
abbrev pub slot : Option (Option ℕ) → Option ℕ
slot None = None
slot (Some o) = o

pub given_slot : (xs : List (Option ℕ)) (r : ℕ) → given_at xs r ≡ slot (slice_get xs r)
given_slot [] r = refl
given_slot (x ∷ xs) zero = refl
given_slot (x ∷ xs) (suc r) = given_slot xs r

clash : (b : Bool) → b ≡ true → b ≡ false → ⊥
clash true u v = cc
clash false u v = cc

not_here : (l : Left) (r : ℕ) → left_if l r ≡ None → r ≡ l.register → ⊥
not_here l r none same = absurd (by (l.register == r) (eq-eqb l.register r (sym same)) none)
  where
    by : (b : Bool) → b ≡ true → (if b then Some l else None) ≡ None → ⊥
    by true e n = cc
    by false e n = cc

is_here : (l m : Left) (r : ℕ) → left_if l r ≡ Some m → (m ≡ l) × (l.register ≡ r)
is_here l m r found = by (l.register == r) refl found
  where
    by : (b : Bool) → (l.register == r) ≡ b → (if b then Some l else None) ≡ Some m → (m ≡ l) × (l.register ≡ r)
    by true e f = (sym (some_same l m f), eqb-true l.register r e)
    by false e f = absurd (cc)

-- a register of which nothing was left is as it was
pub lefts_none : (more : List Change) (behind : List (Option ℕ)) (r : ℕ) → first_left (lefts_of more behind) r ≡ None → slice_get (undone more behind) r ≡ slice_get behind r
lefts_none [] behind r h = refl
lefts_none (c ∷ cs) behind r h =
    by (first_left (lefts_of cs behind) r) refl (sym (first_more (lefts_of cs behind) (left_at c (undone cs behind)) r) ∙ h) (lefts_none cs behind r)
  where
    by : (o : Option Left) → first_left (lefts_of cs behind) r ≡ o → left_or o (left_if (left_at c (undone cs behind)) r) ≡ None
        → (first_left (lefts_of cs behind) r ≡ None → slice_get (undone cs behind) r ≡ slice_get behind r) → slice_get (undone (c ∷ cs) behind) r ≡ slice_get behind r
    by None e none before = set_other (undone cs behind) c.register r c.before (not_here (left_at c (undone cs behind)) r none) ∙ before e
    by (Some l) e none before = absurd (cc)

-- of another the first is its value as the arm ends
pub lefts_some : (P : (register path : ℕ) → Type 0) (more : List Change) (behind : List (Option ℕ)) (r : ℕ) (l : Left) → AllByRecursion (λ (c : Change). P c.register c.path) more
    → first_left (lefts_of more behind) r ≡ Some l → (l.value ≡ given_at behind r) × (P r l.path)
lefts_some P [] behind r l all h = absurd (cc)
lefts_some P (c ∷ cs) behind r l all h =
    by (first_left (lefts_of cs behind) r) refl (sym (first_more (lefts_of cs behind) (left_at c (undone cs behind)) r) ∙ h) (lefts_some P cs behind r l all.1)
  where
    by : (o : Option Left) → first_left (lefts_of cs behind) r ≡ o → left_or o (left_if (left_at c (undone cs behind)) r) ≡ Some l
        → (first_left (lefts_of cs behind) r ≡ Some l → (l.value ≡ given_at behind r) × (P r l.path)) → (l.value ≡ given_at behind r) × (P r l.path)
    by (Some m) e found before = before (e ∙ found)
    by None e found before =
        let is = is_here (left_at c (undone cs behind)) l r found in (
          ap (λ (m : Left). m.value) is.0
              ∙ (ap (λ n. given_at (undone cs behind) n) is.1
              ∙ (given_slot (undone cs behind) r ∙ (ap slot (lefts_none cs behind r e) ∙ sym (given_slot behind r)))),
          subst (λ (m : Left). P r m.path) (sym is.0) (subst (λ (n : ℕ). P n c.path) is.1 all.0),
        )

given_value : (o : Option ℕ) → IsGiven o → (v : ℕ) × (o ≡ Some v)
given_value None g = absurd g
given_value (Some v) g = (v, refl)

all_more : (P : Left → Type 0) (xs : List Left) (l : Left) → AllByRecursion P xs → P l → AllByRecursion P (xs ++ l ∷ [])
all_more P [] l a p = (p, tt)
all_more P (x ∷ xs) l a p = (a.0, all_more P xs l a.1 p)

-- all that is left has a register and a value
pub lefts_given : (base : List (Option ℕ)) (more : List Change) (behind : List (Option ℕ)) → AreGiven more behind → AllByRecursion (HasRoom base) more → AllByRecursion (IsLeft base) (lefts_of more behind)
lefts_given base [] behind given room = tt
lefts_given base (c ∷ cs) behind given room =
    let v = given_value (given_at (undone cs behind) c.register) given.0 in
    all_more (IsLeft base) (lefts_of cs behind) (left_at c (undone cs behind)) (lefts_given base cs behind given.1 room.1) (record { room = room.0; value = v.0; value_is = v.1 })

-- An arm that is taken back.

-- values with the same in them
pub record AreSame (a b : Values) : Type 0 where
  pub current : b.current.items ≡ a.current.items
  pub log : b.log.items ≡ a.log.items
  pub marks : b.marks.items ≡ a.marks.items

pub same_again : (a b c : Values) → AreSame a b → AreSame b c → AreSame a c
same_again a b c h k = record { current = k.current ∙ h.current; log = k.log ∙ h.log; marks = k.marks ∙ h.marks }

pub same_ready : (a b : Values) → AreSame a b → AreReady a → AreReady b
same_ready a b h ready = record {
  unmarked = λ register. ap (λ (ms : List ℕ). slice_index ms register) h.marks ∙ ready.unmarked register;
  long = ap (λ (ms : List ℕ). length ms) h.marks ∙ (ready.long ∙ sym (ap (λ (os : List (Option ℕ)). length os) h.current));
}

-- a change is of one of these variables, at a path of these, and has a register
pub record IsSetAt (scene : Scene) (around : Around) (May : ℕ → Type 0) (base : List (Option ℕ)) (register path : ℕ) : Type 0 where
  pub entity : ℕ
  pub may : May entity
  pub within : path < paths_counted around
  pub register_is : register ≡ register_in scene around entity path
  pub room : register < length base

-- what an arm left, where it began with these values and ended with those
pub record ArmLeft (scene : Scene) (around : Around) (May : ℕ → Type 0) (base behind : List (Option ℕ)) (lefts : List Left) : Type 0 where
  pub more : List Change
  pub lefts_are : lefts ≡ lefts_of more behind
  pub back : undone more behind ≡ base
  pub each : AllByRecursion (λ (c : Change). IsSetAt scene around May base c.register c.path) more
  pub given : AreGiven more behind
  pub room : AllByRecursion (HasRoom base) more

pub nothing_left : (scene : Scene) (around : Around) (May : ℕ → Type 0) (base : List (Option ℕ)) → ArmLeft scene around May base base []
nothing_left scene around May base = record { more = []; lefts_are = refl; back = refl; each = tt; given = tt; room = tt }

drop_front : (xs ys : List Change) → drop (length xs) (xs ++ ys) ≡ ys
drop_front [] ys = refl
drop_front (x ∷ xs) ys = drop_front xs ys

take_front : (xs ys : List Change) → take (length xs) (xs ++ ys) ≡ xs
take_front [] ys = refl
take_front (x ∷ xs) ys = ap (λ (l : List Change). x ∷ l) (take_front xs ys)

rooms_by : (xs ys : List (Option ℕ)) (cs : List Change) → length xs ≡ length ys → AllByRecursion (HasRoom xs) cs → AllByRecursion (HasRoom ys) cs
rooms_by xs ys [] same a = tt
rooms_by xs ys (c ∷ cs) same a = (subst (λ (n : ℕ). c.register < n) same a.0, rooms_by xs ys cs same a.1)

set_each : (scene : Scene) (arm around : Around) (May : ℕ → Type 0) (base : List (Option ℕ)) (cs : List Change) → ((e j : ℕ) → register_in scene arm e j ≡ register_in scene around e j) → paths_counted arm ≡ paths_counted around
    → AllByRecursion (IsChange scene arm May) cs → AllByRecursion (HasRoom base) cs → AllByRecursion (λ (c : Change). IsSetAt scene around May base c.register c.path) cs
set_each scene arm around May base [] same long each room = tt
set_each scene arm around May base (c ∷ cs) same long each room = (
  record {
    entity = each.0.entity;
    may = each.0.may;
    within = subst (λ (n : ℕ). c.path < n) long each.0.within;
    register_is = each.0.register_is ∙ same each.0.entity c.path;
    room = room.0;
  },
  set_each scene arm around May base cs same long each.1 room.1,
)

-- the values behind an arm are those before it
pub arm_ended : (scene : Scene) (arm around : Around) (May : ℕ → Type 0) (begun inside ended : Values) (lefts : List Left) → ((e j : ℕ) → register_in scene arm e j ≡ register_in scene around e j) → paths_counted arm ≡ paths_counted around
    → Changes scene arm May begun inside → EndsArm inside ended (length begun.log.items) lefts → AreSame begun ended × ArmLeft scene around May begun.current.items inside.current.items lefts
arm_ended scene arm around May begun inside ended lefts same long h k = (
  record {
    current = k.current ∙ (ap (λ (cs : List Change). undone cs inside.current.items) behind_is ∙ h.back);
    log = k.log ∙ (ap (λ (cs : List Change). take (length begun.log.items) cs) h.log ∙ take_front begun.log.items h.more);
    marks = k.marks ∙ h.marks;
  },
  record {
    more = h.more;
    lefts_are =
        k.lefts_are (subst (λ (cs : List Change). AllByRecursion (HasRoom inside.current.items) cs) (sym behind_is) (rooms_by begun.current.items inside.current.items h.more (sym h.long) h.room))
        ∙ ap (λ (cs : List Change). lefts_of cs inside.current.items) behind_is;
    back = h.back;
    each = set_each scene arm around May begun.current.items h.more same long h.each h.room;
    given = h.given;
    room = h.room;
  },
)
  where
    behind_is : drop (length begun.log.items) inside.log.items ≡ h.more
    behind_is = ap (λ (cs : List Change). drop (length begun.log.items) cs) h.log ∙ drop_front begun.log.items h.more

-- what sets no variable leaves all as it was
pub nothing_changed : (scene : Scene) (around : Around) (a b : Values) → Changes scene around (λ entity. ⊥) a b → AreSame a b
nothing_changed scene around a b h = by h.more h.each h.log h.back
  where
    by : (cs : List Change) → AllByRecursion (IsChange scene around (λ entity. ⊥)) cs → b.log.items ≡ a.log.items ++ cs → undone cs b.current.items ≡ a.current.items → AreSame a b
    by [] each log back = record { current = back; log = log ∙ append-nil a.log.items; marks = h.marks }
    by (c ∷ cs) each log back = absurd each.0.may
