-- What is put down behind the commands of a block, and behind a test, reads nothing: registers that are set, and a flag.
use Rattle.std.proofs.Common.{◌≡◌, ℕ, zero, suc, ◌≤◌, Bool as Truth, true, false, List, [], ◌∷◌, ◌++◌, length, Option, Some, None, refl, ap, sym, ◌∙◌, arith}
use Rattle.std.specs.Prelude.{replicate, slice_get}
use Rattle.std.proofs.lemmas.List.{length-append}
use Rattle.dh_base.specs.declared.outcomes.FaultKind.{FaultKind}
use Rattle.dh_base.specs.declared.places.Place.{Place}
use Rattle.dh_value.specs.declared.operators.Op.TheVariants.{Both}
use Rattle.dh_plan.specs.declared.operations.Operation.{Operation}
use Rattle.dh_plan.specs.declared.operations.OperationForm.TheVariants.{Compute, Set}
use Rattle.dh_plan.specs.LegalSchedules.{is_read}
use Rattle.dh_expressions.specs.declared.drafts.Draft.{Draft}
use Rattle.dh_expressions.specs.Drafted.{Extends}
use Rattle.dh_expressions.proofs.Pushing.{extends_again, in_front, pushed_extends}
use Rattle.dh_commands.specs.declared.buildings.Building.{Building}
use Rattle.dh_gathering.specs.MadeBlocks.{AddsFlag, SetsGiven}
use Rattle.dh_gathering.specs.PushedSets.{settings}

-- Operations that are appended.

-- none of these reads
abbrev ReadsNone : List Operation → Type 0
ReadsNone os = (n : ℕ) (o : Operation) → slice_get os n ≡ Some o → is_read o.form ≡ false

settings_read_none : (sets : List (ℕ × ℕ)) → ReadsNone (settings sets)
settings_read_none [] n o e = absurd cc
settings_read_none (s ∷ ss) zero o e = let f : record { guard = None; form = Set s.0 s.1 } ≡ o = cc in ap (λ (p : Operation). is_read p.form) (sym f)
settings_read_none (s ∷ ss) (suc n) o e = settings_read_none ss n o e

behind_none : (os more : List Operation) → ReadsNone more → (n : ℕ) (o : Operation) → length os ≤ n → slice_get (os ++ more) n ≡ Some o → is_read o.form ≡ false
behind_none [] more h n o far e = h n o e
behind_none (p ∷ os) more h zero o far e = absurd (none (length os) far)
  where
    none : (k : ℕ) → suc k ≤ 0 → ⊥
    none k l = omega (arith, l)
behind_none (p ∷ os) more h (suc n) o far e = behind_none os more h n o (omega (arith, far)) e

pub sets_extend : (old new : Building) → SetsGiven old new → Extends old.draft new.draft
sets_extend old new s = record {
  operations = λ n o e. ap (λ (os : List Operation). slice_get os n) s.operations ∙ in_front old.draft.operations.items (settings s.sets) n o e;
  faults = λ n f e. ap (λ (fs : List (FaultKind × Place)). slice_get fs n) s.faults ∙ e;
  longer = let e = ap (λ (os : List Operation). length os) s.operations in let l = length-append old.draft.operations.items (settings s.sets) in omega (arith, e, l);
}

pub sets_unread : (old new : Building) → SetsGiven old new → (n : ℕ) (o : Operation) → length old.draft.operations.items ≤ n → slice_get new.draft.operations.items n ≡ Some o → is_read o.form ≡ false
sets_unread old new s n o far e = behind_none old.draft.operations.items (settings s.sets) (settings_read_none s.sets) n o far (ap (λ (os : List Operation). slice_get os n) (sym s.operations) ∙ e)

-- Flags.

one_none : (o : Operation) → is_read o.form ≡ false → ReadsNone (o ∷ [])
one_none o h zero p e = let f : o ≡ p = cc in ap (λ (q : Operation). is_read q.form) (sym f) ∙ h
one_none o h (suc n) p e = absurd cc

pub flag_extends : (read : Truth) (old new : Draft) (value flag : ℕ) → AddsFlag read old new value flag → Extends old new
flag_extends true old new value flag (mid, (made, (number, (computes, sets)))) = extends_again old mid new (pushed_extends old mid made None (Compute Both value value) computes) (pushed_extends mid new number None (Set flag made) sets)
flag_extends false old new value flag (number, sets) = pushed_extends old new number None (Set flag value) sets

pub flag_unread : (read : Truth) (old new : Draft) (value flag : ℕ) → AddsFlag read old new value flag → (n : ℕ) (o : Operation) → length old.operations.items ≤ n → slice_get new.operations.items n ≡ Some o → is_read o.form ≡ false
flag_unread true old new value flag (mid, (made, (number, (computes, sets)))) n o far e =
    behind_none old.operations.items (computed ∷ set ∷ []) both n o far (ap (λ (os : List Operation). slice_get os n) (sym whole) ∙ e)
  where
    computed : Operation
    computed = record { guard = None; form = Compute Both value value }

    set : Operation
    set = record { guard = None; form = Set flag made }

    two : (os : List Operation) (a b : Operation) → (os ++ a ∷ []) ++ b ∷ [] ≡ os ++ a ∷ b ∷ []
    two [] a b = refl
    two (q ∷ os) a b = ap (λ (l : List Operation). q ∷ l) (two os a b)

    whole : new.operations.items ≡ old.operations.items ++ computed ∷ set ∷ []
    whole = sets.operations ∙ (ap (λ (os : List Operation). os ++ set ∷ []) computes.operations ∙ two old.operations.items computed set)

    both : ReadsNone (computed ∷ set ∷ [])
    both zero p f = let g : computed ≡ p = cc in ap (λ (q : Operation). is_read q.form) (sym g)
    both (suc k) p f = one_none set refl k p f
flag_unread false old new value flag (number, sets) n o far e =
    behind_none old.operations.items (record { guard = None; form = Set flag value } ∷ []) (one_none (record { guard = None; form = Set flag value }) refl) n o far (ap (λ (os : List Operation). slice_get os n) (sym sets.operations) ∙ e)

-- Guards.

pub none_at : (n : ℕ) (path : ℕ) (guard : Option ℕ) → slice_get (replicate n None) path ≡ Some guard → guard ≡ None
none_at zero path guard e = absurd cc
none_at (suc n) zero guard e = let f : None ≡ guard = cc in sym f
none_at (suc n) (suc path) guard e = none_at n path guard e
