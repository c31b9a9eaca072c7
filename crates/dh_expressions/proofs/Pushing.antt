-- One operation more. A word that solves all equations solves those of the operations in front, so whatever was
-- stated of them stays; and the equation of the new operation says what it gives.
use Rattle.std.proofs.Common.{◌≡◌, ℕ, zero, suc, ◌+◌, List, Some, None, refl, sym, ap, ◌∙◌, subst, arith, length, drop}
use Rattle.std.specs.Prelude.{[], ◌∷◌, ◌++◌, slice_get, Option}
use Rattle.std.proofs.lemmas.List.{drop-append-le, length-append, append-nil}
use Rattle.dh_base.specs.declared.outcomes.FaultKind.{FaultKind}
use Rattle.dh_base.specs.declared.places.Place.{Place}
use Rattle.dh_value.specs.declared.words.Word.{Word}
use Rattle.dh_plan.specs.declared.operations.Operation.{Operation}
use Rattle.dh_plan.specs.declared.operations.OperationForm.{OperationForm}
use Rattle.dh_plan.specs.Blocks.{StepStart, BlockEvent, block_events, operation_form_events}
use Rattle.dh_plan.proofs.Appends.{events_behind}
use Rattle.dh_expressions.specs.declared.drafts.Draft.{Draft}
use Rattle.dh_expressions.specs.Drafted.{BlockStep, word_shown, form_word_shown, FitsStep, BlockBegun, told_block, Extends, Pushes, Computes, Gives}

pub in_front : {A : Type 0} (xs ys : List A) (i : ℕ) (y : A) → slice_get xs i ≡ Some y → slice_get (xs ++ ys) i ≡ Some y
in_front [] ys i y e = absurd (cc)
in_front (x ∷ xs) ys zero y e = e
in_front (x ∷ xs) ys (suc i) y e = in_front xs ys i y e

pub at_seam : {A : Type 0} (xs : List A) (y : A) → slice_get (xs ++ y ∷ []) (length xs) ≡ Some y
at_seam [] y = refl
at_seam (x ∷ xs) y = at_seam xs y

-- facts of operations in front
pub fits_before : (old new : Draft) (x : BlockStep) → Extends old new → FitsStep x new → FitsStep x old
fits_before old new x e f = record {
  solves = λ n o b at. f.solves n o b (e.operations n o at);
  names = λ n k at. f.names n k (e.faults n k at);
  few = f.few;
}

pub begun_later : (old new : Draft) (x : BlockStep) → Extends old new → BlockBegun x old → BlockBegun x new
begun_later old new x e b = let l = e.longer in omega (arith, b, l)

pub extends_again : (a b c : Draft) → Extends a b → Extends b c → Extends a c
extends_again a b c e f = record {
  operations = λ n o at. f.operations n o (e.operations n o at);
  faults = λ n k at. f.faults n k (e.faults n k at);
  longer = let l = e.longer in let m = f.longer in omega (arith, l, m);
}

pub extends_self : (a : Draft) → Extends a a
extends_self a = record { operations = λ n o at. at; faults = λ n k at. at; longer = omega arith }

module _ (old new : Draft) (number : ℕ) (guard : Option ℕ) (form : OperationForm) (p : Pushes old new number guard form) where
  pub pushed_longer : length new.operations.items ≡ length old.operations.items + 1
  pushed_longer = ap (λ (os : List Operation). length os) p.operations ∙ length-append old.operations.items _

  pub pushed_extends : Extends old new
  pushed_extends = record {
    operations = λ n o at. subst (λ (os : List Operation). slice_get os n ≡ Some o) (sym p.operations) (in_front old.operations.items _ n o at);
    faults = λ n k at. subst (λ (fs : List (FaultKind × Place)). slice_get fs n ≡ Some k) (sym p.faults) at;
    longer = let l = pushed_longer in omega (arith, l);
  }

  pub pushed_there : slice_get new.operations.items number ≡ Some (record { guard = guard; form = form })
  pushed_there = subst (λ (os : List Operation). slice_get os number ≡ Some (record { guard = guard; form = form })) (sym p.operations)
      (subst (λ n. slice_get (old.operations.items ++ record { guard = guard; form = form } ∷ []) n ≡ Some (record { guard = guard; form = form })) (sym p.number_is)
      (at_seam old.operations.items _))

  pub pushed_events : (x : BlockStep) → BlockBegun x old
      → block_events x.start x.first x.words (drop x.first new.operations.items)
      ≡ block_events x.start x.first x.words (drop x.first old.operations.items) ++ block_events x.start x.first x.words (record { guard = guard; form = form } ∷ [])
  pushed_events x b =
      ap (λ (os : List Operation). block_events x.start x.first x.words (drop x.first os)) p.operations
      ∙ (ap (λ (os : List Operation). block_events x.start x.first x.words os) (drop-append-le x.first old.operations.items _ b)
      ∙ events_behind x.start x.first x.words (drop x.first old.operations.items) _)

-- an operation without a guard that has no events computes what its form gives
pub computes : (old new : Draft) (number : ℕ) (form : OperationForm) → Pushes old new number None form
    → ((s : StepStart) (first : ℕ) (ws : List Word) → operation_form_events s first ws form ≡ [])
    → Computes old new number (λ x. form_word_shown x number form)
computes old new number form p still = record {
  extends = pushed_extends old new number None form p;
  below = let l = pushed_longer old new number None form p in let m = p.number_is in omega (arith, l, m);
  is = λ x f b. f.solves number _ (let m = p.number_is in omega (arith, m, b)) (pushed_there old new number None form p);
  quiet = λ x f b. ap (λ (es : List BlockEvent). told_block x.named es)
      (pushed_events old new number None form p x b
      ∙ (ap (λ (es : List BlockEvent). block_events x.start x.first x.words (drop x.first old.operations.items) ++ (es ++ [])) (still x.start x.first x.words)
      ∙ append-nil _));
}

-- one thing computed from another
pub gives : (old new : Draft) (value : ℕ) (word : BlockStep → Word) → Computes old new value word → Gives old new value word
gives old new value word c = record { extends = c.extends; is = c.is; quiet = c.quiet }

pub gives_still : (d : Draft) (value : ℕ) → Gives d d value (λ x. word_shown x value)
gives_still d value = record { extends = extends_self d; is = λ x f b. refl; quiet = λ x f b. refl }

-- a value made of another one
pub gives_by : (a b c : Draft) (u v : ℕ) (first : BlockStep → Word) (make : Word → Word) → Gives a b u first → Computes b c v (λ x. make (word_shown x u)) → Gives a c v (λ x. make (first x))
gives_by a b c u v first make g h = record {
  extends = extends_again a b c g.extends h.extends;
  is = λ x f s. h.is x f (begun_later a b x g.extends s) ∙ ap make (g.is x (fits_before b c x h.extends f) s);
  quiet = λ x f s. h.quiet x f (begun_later a b x g.extends s) ∙ g.quiet x (fits_before b c x h.extends f) s;
}

-- the same word, told otherwise
pub gives_same : (a b : Draft) (v : ℕ) (word other : BlockStep → Word) → ((x : BlockStep) → word x ≡ other x) → Gives a b v word → Gives a b v other
gives_same a b v word other same g = record { extends = g.extends; is = λ x f s. g.is x f s ∙ same x; quiet = g.quiet }

-- one value made of two, of which the first was made before
pub gives_both : (a b c d : Draft) (u v w : ℕ) (first second : BlockStep → Word) (make : Word → Word → Word)
    → Gives a b u first → Gives b c v second → Computes c d w (λ x. make (word_shown x u) (word_shown x v)) → Gives a d w (λ x. make (first x) (second x))
gives_both a b c d u v w first second make g h k = record {
  extends = extends_again a b d g.extends (extends_again b c d h.extends k.extends);
  is = λ x f s.
      let fc = fits_before c d x k.extends f in
      let fb = fits_before b c x h.extends fc in
      k.is x f (begun_later b c x h.extends (begun_later a b x g.extends s))
      ∙ (ap (λ y. make y (word_shown x v)) (g.is x fb s) ∙ ap (λ y. make (first x) y) (h.is x fc (begun_later a b x g.extends s)));
  quiet = λ x f s.
      let fc = fits_before c d x k.extends f in
      let fb = fits_before b c x h.extends fc in
      k.quiet x f (begun_later b c x h.extends (begun_later a b x g.extends s))
      ∙ (h.quiet x fc (begun_later a b x g.extends s) ∙ g.quiet x fb s);
}
