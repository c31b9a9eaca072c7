-- Names, targets and right sides of a ready program fit.
use Rattle.std.proofs.Common.{◌≡◌, ℕ, zero, suc, nat_lt, Bool, true, false, if◌then◌else◌, List, [], ◌∷◌, ◌++◌, Option, Some, refl, ap, sym, ◌∙◌, subst}
use Rattle.std.specs.Prelude.{slice_get}
use Rattle.dh_base.specs.declared.places.Place.{Place}
use Rattle.dh_value.specs.declared.kinds.Kind.{Kind}
use Rattle.dh_value.specs.declared.kinds.Kind.TheVariants as kind
use Rattle.dh_value.specs.Words.{IsInteger, IsKind}
use Rattle.dh_tree.specs.declared.trees.expressions.Ref.{Ref}
use Rattle.dh_tree.specs.KindBreaches.{assigned_breaches, truth_breaches, reducer_kind_breaches}
use Rattle.dh_tree.specs.Kinds.{is_truth, when, mismatch, found, place_of}
use Rattle.dh_tree.specs.WiderKinds.{wider}
use Rattle.dh_tree.specs.PlainTrees.{Term}
use Rattle.dh_tree.proofs.EmptyLists.{not_none}
use Rattle.dh_meaning.specs.Bindings.{Binding, binding_in, kind_bound}
use Rattle.dh_meaning.specs.Core.{Turning}
use Rattle.dh_meaning.specs.CoreOf.{Known, entity_number, kind_of}
use Rattle.dh_sound.specs.Blocks.{factors}
use Rattle.dh_sound.specs.NamesInScope.{InScope, is_variable, is_iterator}
use Rattle.dh_sound.specs.SameKeys.{IsIteratorName, IsNoIterator}
use Rattle.dh_runnable.proofs.NamesKnown.{IsVariable}
use Rattle.dh_runnable.proofs.TermsSuited.{name_inside}
use Rattle.dh_code.specs.Declarations.{factors_inside}
use Rattle.dh_code.specs.Slots.{Placing}
use Rattle.dh_expressions.specs.Shown.{kind_written}
use Rattle.dh_blocks.specs.SoundCommands.{CanHold}
use Rattle.dh_typed_blocks.proofs.Fitting.{AllInteger, IsNamedIn}
use Rattle.dh_typed_blocks.proofs.KindsGiven.{written_is, integer_wider}

pub number_is : (r : Ref) (n : ℕ) → r.entity ≡ Some n → r.entity ≡ Some (entity_number r.entity)
number_is r n e = e ∙ ap Some (sym (ap entity_number e))

-- the factors inside one more loop
pub factors_more : (ts : List Turning) (t : Turning) → factors (ts ++ t ∷ []) ≡ factors_inside (factors ts) t.factor
factors_more [] t = refl
factors_more (l ∷ ls) t = by (nat_lt 1 l.factor) (nat_lt 1 t.factor) (factors_more ls t)
  where
    by : (b c : Bool) → factors (ls ++ t ∷ []) ≡ (if c then factors ls ++ t.factor ∷ [] else factors ls)
        → (if b then l.factor ∷ factors (ls ++ t ∷ []) else factors (ls ++ t ∷ []))
        ≡ (if c then (if b then l.factor ∷ factors ls else factors ls) ++ t.factor ∷ [] else (if b then l.factor ∷ factors ls else factors ls))
    by true true e = ap (λ (x : List ℕ). l.factor ∷ x) e
    by true false e = ap (λ (x : List ℕ). l.factor ∷ x) e
    by false true e = e
    by false false e = e

module _ (known : Known) where
  pub integer_more : (ts : List Turning) (t : Turning) → AllInteger known ts → IsInteger (kind_bound (binding_in known.bindings t.iterator)) → AllInteger known (ts ++ t ∷ [])
  integer_more [] t h i = (i, tt)
  integer_more (l ∷ ls) t h i = (h.0, integer_more ls t h.1 i)

  integer_at : (ts : List Turning) (i : ℕ) (t : Turning) → AllInteger known ts → slice_get ts i ≡ Some t → IsInteger (kind_bound (binding_in known.bindings t.iterator))
  integer_at [] i t h e = absurd cc
  integer_at (l ∷ ls) zero t h e = let same : l ≡ t = cc in subst (λ (x : Turning). IsInteger (kind_bound (binding_in known.bindings x.iterator))) same h.0
  integer_at (l ∷ ls) (suc i) t h e = integer_at ls i t h.1 e

  one_entity : (o : Option ℕ) (m n : ℕ) → o ≡ Some m → o ≡ Some n → m ≡ n
  one_entity o m n e f = cc

  not_plain : (b : Binding) (f : ℕ) → IsNoIterator (Some b) → b.iterates ≡ Some f → ⊥
  not_plain b f h e = absurd cc

  -- an iterator in scope is of an integer kind
  pub integer_named : (ts : List Turning) (r : Ref) (k : Kind) → AllInteger known ts → kind_of known r ≡ k → InScope known ts r → (loop : Turning) → IsIteratorName known r loop → IsInteger k
  integer_named ts r k h bound (is_variable e is none) loop it =
      let same : e ≡ loop.iterator = one_entity r.entity e loop.iterator is it.entity in
      let plain : IsNoIterator (Some it.binding) = subst (λ (o : Option Binding). IsNoIterator o) (ap (λ (n : ℕ). binding_in known.bindings n) same ∙ it.bound) none in
      elim (not_plain it.binding loop.factor plain it.iterates) [ ]
  integer_named ts r k h bound (is_iterator i l at own) loop it =
      let number : entity_number r.entity ≡ l.iterator = ap entity_number own.entity in
      let same : kind_bound (binding_in known.bindings l.iterator) ≡ k = ap (λ (n : ℕ). kind_bound (binding_in known.bindings n)) (sym number) ∙ bound in
      subst IsInteger same (integer_at ts i l h at)

  pub bound_is : (p : Placing) (loops : List ℕ) (r : Ref) (n : ℕ) (k : Kind) → r.entity ≡ Some n → IsVariable known p loops n k → kind_of known r ≡ k
  bound_is p loops r n k e v = ap (λ (o : Option ℕ). kind_bound (binding_in known.bindings (entity_number o))) e ∙ v.placed.bound

  -- what is known of a name that is used
  pub to_name : (p : Placing) (ts : List Turning) → AllInteger known ts → (r : Ref) (n : ℕ) (k : Kind) → r.entity ≡ Some n → IsVariable known p (factors ts) n k → InScope known ts r → IsNamedIn known p ts r k
  to_name p ts h r n k e v s = record {
    is = number_is r n e;
    bound = bound_is p (factors ts) r n k e v;
    inside = name_inside known p (factors ts) r n k e v;
    scope = s;
    integer = integer_named ts r k h (bound_is p (factors ts) r n k e v) s;
  }

-- Right sides.

bool_held : (j k : Kind) (place : Place) → assigned_breaches (Some j) (Some k) place ≡ [] → j ≡ kind.Bool → k ≡ kind.Bool
bool_held kind.Bool kind.Bool place h e = refl
bool_held kind.Bool (kind.Unsigned n) place h e = not_none _ _ h
bool_held kind.Bool (kind.Signed n) place h e = not_none _ _ h
bool_held (kind.Unsigned m) k place h e = absurd cc
bool_held (kind.Signed m) k place h e = absurd cc

-- a value of a kind that its target takes is held
pub can_hold : (own : Kind) (target : Option Kind) (j : Kind) (t : Term) (k : Kind) → target ≡ Some j → own ≡ j → found t ≡ Some k → assigned_breaches target (found t) (place_of t) ≡ [] → CanHold own t
can_hold own target j t k is same value h bool =
    let none : assigned_breaches (Some j) (Some k) (place_of t) ≡ [] =
    sym (ap (λ (x : Option Kind). assigned_breaches x (found t) (place_of t)) is ∙ ap (λ (x : Option Kind). assigned_breaches (Some j) x (place_of t)) value) ∙ h in
    written_is t k value ∙ bool_held j k (place_of t) none (sym same ∙ bool)

-- a test is Bool
pub is_test : (t : Term) (k : Kind) → found t ≡ Some k → truth_breaches (found t) (place_of t) ≡ [] → kind_written t ≡ kind.Bool
is_test t k value h = written_is t k value ∙ cases k (ap (λ (x : Option Kind). truth_breaches x (place_of t)) (sym value) ∙ h)
  where
    cases : (k : Kind) → truth_breaches (Some k) (place_of t) ≡ [] → k ≡ kind.Bool
    cases kind.Bool g = refl
    cases (kind.Unsigned w) g = not_none _ _ g
    cases (kind.Signed w) g = not_none _ _ g

-- a variable and a value that a reducer puts together
reduced_integer : (place other : Place) (j k : Kind) → IsKind j → IsKind k → when (is_truth j) (mismatch place) ≡ [] → assigned_breaches (Some j) (Some k) other ≡ [] → IsInteger (wider j k)
reduced_integer place other kind.Bool k s t e h = not_none _ _ e
reduced_integer place other (kind.Unsigned m) kind.Bool s t e h = not_none _ _ h
reduced_integer place other (kind.Unsigned m) (kind.Unsigned n) s t e h = integer_wider place place (kind.Unsigned m) (kind.Unsigned n) s t refl
reduced_integer place other (kind.Unsigned m) (kind.Signed n) s t e h = not_none _ _ h
reduced_integer place other (kind.Signed m) kind.Bool s t e h = not_none _ _ h
reduced_integer place other (kind.Signed m) (kind.Unsigned n) s t e h = not_none _ _ h
reduced_integer place other (kind.Signed m) (kind.Signed n) s t e h = integer_wider place place (kind.Signed m) (kind.Signed n) s t refl

pub can_reduce : (place : Place) (own : Kind) (target : Option Kind) (j : Kind) (t : Term) (k : Kind) → target ≡ Some j → own ≡ j → found t ≡ Some k → IsKind j → IsKind k
    → reducer_kind_breaches target (found t) place ≡ [] → assigned_breaches target (found t) (place_of t) ≡ [] → IsInteger (wider own (kind_written t))
can_reduce place own target j t k is same value js ks a b =
    let numbers : when (is_truth j) (mismatch place) ≡ [] = sym (ap (λ (x : Option Kind). reducer_kind_breaches x (found t) place) is ∙ ap (λ (x : Option Kind). reducer_kind_breaches (Some j) x place) value) ∙ a in
    let alike : assigned_breaches (Some j) (Some k) (place_of t) ≡ [] =
    sym (ap (λ (x : Option Kind). assigned_breaches x (found t) (place_of t)) is ∙ ap (λ (x : Option Kind). assigned_breaches (Some j) x (place_of t)) value) ∙ b in
    subst (λ (x : Kind). IsInteger (wider x (kind_written t))) (sym same)
    (subst (λ (x : Kind). IsInteger (wider j x)) (sym (written_is t k value)) (reduced_integer place (place_of t) j k js ks numbers alike))
