-- Assignments that can be taken back: none, one, and some behind others.
use Rattle.std.proofs.Common.{◌≡◌, ◌⊎◌, inl, inr, ℕ, zero, suc, ◌<◌, ◌≤◌, Some, None, List, [], ◌∷◌, ◌++◌, length, refl, ap, sym, ◌∙◌, subst, arith, append_assoc}
use Rattle.std.specs.Prelude.{Option, slice_index, slice_set}
use Rattle.std.specs.List.{AllByRecursion}
use Rattle.std.proofs.lemmas.List.{append-nil, set-get_or}
use Rattle.std.proofs.lemmas.Bool.{cases_lt}
use Rattle.dh_expressions.specs.declared.scenes.Around.{Around}
use Rattle.dh_expressions.specs.declared.scenes.Scene.{Scene}
use Rattle.dh_expressions.proofs.ListPlaces.{set_long}
use Rattle.dh_commands.specs.declared.assignments.Change.{Change}
use Rattle.dh_commands.specs.declared.assignments.Values.{Values}
use Rattle.dh_commands.specs.LanesRun.{paths_counted}
use Rattle.dh_commands.specs.ShownVariables.{register_in}
use Rattle.dh_commands.specs.Undone.{AreGiven, AreReady, Assigns, Changes, HasRoom, IsChange, IsGiven, Logs, change_at, given_at, undone}

pub undone_append : (xs ys : List Change) (current : List (Option ℕ)) → undone (xs ++ ys) current ≡ undone xs (undone ys current)
undone_append [] ys current = refl
undone_append (c ∷ xs) ys current = ap (λ (os : List (Option ℕ)). slice_set os c.register c.before) (undone_append xs ys current)

all_append : (P : Change → Type 0) (xs ys : List Change) → AllByRecursion P xs → AllByRecursion P ys → AllByRecursion P (xs ++ ys)
all_append P [] ys a b = b
all_append P (c ∷ xs) ys a b = (a.0, all_append P xs ys a.1 b)

set_again : (xs : List (Option ℕ)) (i : ℕ) (a b : Option ℕ) → slice_set (slice_set xs i a) i b ≡ slice_set xs i b
set_again [] i a b = refl
set_again (x ∷ xs) zero a b = refl
set_again (x ∷ xs) (suc i) a b = ap (λ (l : List (Option ℕ)). x ∷ l) (set_again xs i a b)

set_past : (xs : List (Option ℕ)) (i : ℕ) (a : Option ℕ) → length xs ≤ i → slice_set xs i a ≡ xs
set_past [] i a past = refl
set_past (x ∷ xs) zero a past = absurd (none (length xs) past)
  where
    none : (n : ℕ) → suc n ≤ 0 → ⊥
    none n h = omega (arith, h)
set_past (x ∷ xs) (suc i) a past = ap (λ (l : List (Option ℕ)). x ∷ l) (set_past xs i a (less (length xs) i past))
  where
    less : (n m : ℕ) → suc n ≤ suc m → n ≤ m
    less n m h = omega (arith, h)

rooms_kept : (xs ys : List (Option ℕ)) (cs : List Change) → length xs ≡ length ys → AllByRecursion (HasRoom ys) cs → AllByRecursion (HasRoom xs) cs
rooms_kept xs ys [] same a = tt
rooms_kept xs ys (c ∷ cs) same a = (subst (λ (n : ℕ). c.register < n) (sym same) a.0, rooms_kept xs ys cs same a.1)

pub given_append : (xs ys : List Change) (current : List (Option ℕ)) → AreGiven xs (undone ys current) → AreGiven ys current → AreGiven (xs ++ ys) current
given_append [] ys current a b = b
given_append (c ∷ xs) ys current a b =
    (subst (λ (os : List (Option ℕ)). IsGiven (given_at os c.register)) (sym (undone_append xs ys current)) a.0, given_append xs ys current a.1 b)

set_given : (xs : List (Option ℕ)) (i value : ℕ) → i < length xs → IsGiven (given_at (slice_set xs i (Some value)) i)
set_given [] i value within = absurd (none i within)
  where
    none : (n : ℕ) → n < 0 → ⊥
    none n h = omega (arith, h)
set_given (x ∷ xs) zero value within = tt
set_given (x ∷ xs) (suc i) value within = set_given xs i value (less i (length xs) within)
  where
    less : (n m : ℕ) → suc n < suc m → n < m
    less n m h = omega (arith, h)

-- what is ready stays so
pub ready_after : (scene : Scene) (around : Around) (May : ℕ → Type 0) (a b : Values) → Changes scene around May a b → AreReady a → AreReady b
ready_after scene around May a b h ready = record {
  unmarked = λ register. ap (λ (ms : List ℕ). slice_index ms register) h.marks ∙ ready.unmarked register;
  long = ap (λ (ms : List ℕ). length ms) h.marks ∙ (ready.long ∙ sym h.long);
}

-- Of any assignments.
module _ (P : Change → Type 0) where
  pub logs_none : (v : Values) → Logs P v v
  logs_none v = record { more = []; log = sym (append-nil v.log.items); back = refl; long = refl; marks = refl; each = tt; room = tt; given = tt }

  pub logs_again : (a b c : Values) → Logs P a b → Logs P b c → Logs P a c
  logs_again a b c h k = record {
    more = h.more ++ k.more;
    log = k.log ∙ (ap (λ (l : List Change). l ++ k.more) h.log ∙ append_assoc a.log.items h.more k.more);
    back = undone_append h.more k.more c.current.items ∙ (ap (λ (os : List (Option ℕ)). undone h.more os) k.back ∙ h.back);
    long = k.long ∙ h.long;
    marks = k.marks ∙ h.marks;
    each = all_append P h.more k.more h.each k.each;
    room = all_append (HasRoom a.current.items) h.more k.more h.room (rooms_kept a.current.items b.current.items k.more (sym h.long) k.room);
    given = given_append h.more k.more c.current.items (subst (λ (os : List (Option ℕ)). AreGiven h.more os) (sym k.back) h.given) k.given;
  }

  pub logs_one : (old new : Values) (register number value : ℕ) → P (change_at old.current.items register number) → Assigns old new register number value → Logs P old new
  logs_one old new register number value is s = by (cases_lt register (length old.current.items))
    where
      by : (register < length old.current.items) ⊎ (length old.current.items ≤ register) → Logs P old new
      by (inl there) = record {
        more = change_at old.current.items register number ∷ [];
        log = s.log there;
        back =
            ap (λ (os : List (Option ℕ)). slice_set os register (given_at old.current.items register)) s.current
            ∙ (set_again old.current.items register (Some value) (given_at old.current.items register)
            ∙ set-get_or old.current.items register None);
        long = ap (λ (os : List (Option ℕ)). length os) s.current ∙ set_long old.current.items register (Some value);
        marks = s.marks;
        each = (is, tt);
        room = (there, tt);
        given = (subst (λ (os : List (Option ℕ)). IsGiven (given_at os register)) (sym s.current) (set_given old.current.items register value there), tt);
      }
      by (inr past) = record {
        more = [];
        log = s.past (λ l. below register (length old.current.items) l past) ∙ sym (append-nil old.log.items);
        back = s.current ∙ set_past old.current.items register (Some value) past;
        long = ap (λ (os : List (Option ℕ)). length os) s.current ∙ set_long old.current.items register (Some value);
        marks = s.marks;
        each = tt;
        room = tt;
        given = tt;
      }
        where
          below : (r n : ℕ) → r < n → n ≤ r → ⊥
          below r n l p = omega (arith, l, p)

-- Of these variables.
module _ (scene : Scene) (around : Around) (May : ℕ → Type 0) where
  pub changes_logs : (old new : Values) → Logs (IsChange scene around May) old new → Changes scene around May old new
  changes_logs old new l = record { more = l.more; log = l.log; back = l.back; long = l.long; marks = l.marks; each = l.each; room = l.room; given = l.given }

  pub logs_changes : (old new : Values) → Changes scene around May old new → Logs (IsChange scene around May) old new
  logs_changes old new l = record { more = l.more; log = l.log; back = l.back; long = l.long; marks = l.marks; each = l.each; room = l.room; given = l.given }

  pub changes_none : (v : Values) → Changes scene around May v v
  changes_none v = changes_logs v v (logs_none (IsChange scene around May) v)

  pub changes_again : (a b c : Values) → Changes scene around May a b → Changes scene around May b c → Changes scene around May a c
  changes_again a b c h k = changes_logs a c (logs_again (IsChange scene around May) a b c (logs_changes a b h) (logs_changes b c k))

  pub changes_one : (old new : Values) (entity number value : ℕ) → May entity → number < paths_counted around → Assigns old new (register_in scene around entity number) number value → Changes scene around May old new
  changes_one old new entity number value may within s =
      changes_logs old new (logs_one (IsChange scene around May) old new (register_in scene around entity number) number value (record { entity = entity; may = may; within = within; register_is = refl }) s)
