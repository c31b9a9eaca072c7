-- What `==` of structures tells: that they are one.
use Rattle.std.proofs.Common.{◌≡◌, ℕ, Bool, true, false, eqb, refl, ap, ◌∙◌}
use Rattle.std.specs.Prelude.{Option, Some, None}
use Rattle.std.specs.Option.{option_eq}
use mathlib.Core.Bool.{beq}
use Rattle.std.proofs.lemmas.Bool.{eqb-true, eq-eqb}
use Rattle.dh_events.specs.declared.structures.Structure.{Structure}
use Rattle.dh_events.specs.declared.structures.MaybeKind.{MaybeKind}
use Rattle.dh_events.specs.declared.structures.MaybeKind.TheVariants as sort
use Rattle.dh_events.specs.declared.structures.Form.{Form}
use Rattle.dh_events.specs.declared.structures.Form.TheVariants as form
use Rattle.dh_events.specs.contracts.structures.MaybeKindPartialEq.TheImpl as sorts
use Rattle.dh_events.specs.contracts.structures.FormPartialEq.TheImpl as forms
use Rattle.dh_events.specs.contracts.structures.StructurePartialEq.TheImpl as structures
use Rattle.dh_events.specs.Structures.{structure}
use Rattle.dh_events.proofs.KeyFacts.{both, all_both}

abbrev equal_sorts : MaybeKind → MaybeKind → Bool
equal_sorts s t = sorts.ghosts.eq s t

abbrev equal_forms : Form → Form → Bool
equal_forms f g = forms.ghosts.eq f g

abbrev pub equal : Structure → Structure → Bool
equal a b = structures.ghosts.eq a b

own_truth : (b : Bool) → beq b b ≡ true
own_truth true = refl
own_truth false = refl

same_truth : (a b : Bool) → beq a b ≡ true → a ≡ b
same_truth true true e = refl
same_truth true false e = cc
same_truth false true e = cc
same_truth false false e = refl

own_number : (o : Option ℕ) → option_eq eqb o o ≡ true
own_number None = refl
own_number (Some n) = eq-eqb n n refl

same_number : (o p : Option ℕ) → option_eq eqb o p ≡ true → o ≡ p
same_number None None e = refl
same_number None (Some n) e = cc
same_number (Some m) None e = cc
same_number (Some m) (Some n) e = ap Some (eqb-true m n e)

own_sort : (s : MaybeKind) → equal_sorts s s ≡ true
own_sort sort.Unknown = refl
own_sort sort.Truth = refl
own_sort (sort.Unsigned n) = eq-eqb n n refl
own_sort (sort.Signed n) = eq-eqb n n refl

same_sort : (s t : MaybeKind) → equal_sorts s t ≡ true → s ≡ t
same_sort sort.Unknown sort.Unknown e = refl
same_sort sort.Truth sort.Truth e = refl
same_sort (sort.Unsigned m) (sort.Unsigned n) e = ap (λ x. sort.Unsigned x) (eqb-true m n e)
same_sort (sort.Signed m) (sort.Signed n) e = ap (λ x. sort.Signed x) (eqb-true m n e)
same_sort _ _ e = cc

own_form : (f : Form) → equal_forms f f ≡ true
own_form (form.Number negative value) = all_both _ _ (own_truth negative) (eq-eqb value value refl)
own_form (form.Truth value) = own_truth value
own_form (form.Variable e) = eq-eqb e e refl
own_form (form.Read e n) = all_both _ _ (eq-eqb e e refl) (eq-eqb n n refl)
own_form (form.Operation o l r) = all_both _ _ (eq-eqb o o refl) (all_both _ _ (eq-eqb l l refl) (eq-eqb r r refl))
own_form (form.Cast to n) = all_both _ _ (own_sort to) (eq-eqb n n refl)
own_form form.NoIndex = refl
own_form (form.Index before n) = all_both _ _ (own_number before) (eq-eqb n n refl)
own_form (form.Row bank n) = all_both _ _ (eq-eqb bank bank refl) (eq-eqb n n refl)

same_form : (f g : Form) → equal_forms f g ≡ true → f ≡ g
same_form (form.Number a m) (form.Number b n) e = let h = both _ _ e in ap (λ x. form.Number x m) (same_truth a b h.0) ∙ ap (λ x. form.Number b x) (eqb-true m n h.1)
same_form (form.Truth a) (form.Truth b) e = ap (λ x. form.Truth x) (same_truth a b e)
same_form (form.Variable m) (form.Variable n) e = ap (λ x. form.Variable x) (eqb-true m n e)
same_form (form.Read a m) (form.Read b n) e = let h = both _ _ e in ap (λ x. form.Read x m) (eqb-true a b h.0) ∙ ap (λ x. form.Read b x) (eqb-true m n h.1)
same_form (form.Operation o l r) (form.Operation p m s) e =
    let h = both _ _ e in
    let i = both _ _ h.1 in
    ap (λ x. form.Operation x l r) (eqb-true o p h.0) ∙ (ap (λ x. form.Operation p x r) (eqb-true l m i.0) ∙ ap (λ x. form.Operation p m x) (eqb-true r s i.1))
same_form (form.Cast a m) (form.Cast b n) e = let h = both _ _ e in ap (λ x. form.Cast x m) (same_sort a b h.0) ∙ ap (λ x. form.Cast b x) (eqb-true m n h.1)
same_form form.NoIndex form.NoIndex e = refl
same_form (form.Index a m) (form.Index b n) e = let h = both _ _ e in ap (λ x. form.Index x m) (same_number a b h.0) ∙ ap (λ x. form.Index b x) (eqb-true m n h.1)
same_form (form.Row a m) (form.Row b n) e = let h = both _ _ e in ap (λ x. form.Row x m) (eqb-true a b h.0) ∙ ap (λ x. form.Row b x) (eqb-true m n h.1)
same_form _ _ e = cc

pub own_structure : (a : Structure) → equal a a ≡ true
own_structure a = all_both _ _ (own_sort a.sort) (own_form a.form)

pub same_structure : (a b : Structure) → equal a b ≡ true → a ≡ b
same_structure a b e = let h = both _ _ e in ap (λ x. structure x a.form) (same_sort a.sort b.sort h.0) ∙ ap (λ x. structure b.sort x) (same_form a.form b.form h.1)
