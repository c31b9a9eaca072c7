-- Lists of what was put down: what holds of each, and of any two in their order, holds where one stands behind the other.
use Rattle.std.proofs.Common.{◌≡◌, ℕ, zero, suc, ◌<◌, List, Some, refl, ap, subst, arith}
use Rattle.std.specs.Prelude.{[], ◌∷◌, ◌++◌, slice_get, Option}
use Rattle.std.specs.List.{AllByRecursion}
use Rattle.dh_plan.specs.declared.operations.Operation.{Operation}
use Rattle.dh_plan.specs.declared.operations.Reach.{Reach}
use Rattle.dh_expressions.specs.Drafted.{BlockStep}
use Rattle.dh_formed.specs.Formed.{BlockSite}
use Rattle.dh_formed.proofs.ElementsFormed.{all_append, all_weaker}
use Rattle.dh_reached.specs.Puts.{AreInOrder, EachUse, UseGoesBefore, GoesBefore, OperationAtPath, operations_of, used_reach}

pub all_at : {A : Type 0} (P : A → Type 0) (xs : List A) (i : ℕ) (x : A) → AllByRecursion P xs → slice_get xs i ≡ Some x → P x
all_at {A = A} P [] i x all at = absurd (none i at)
  where
    none : (i : ℕ) → slice_get [] i ≡ Some x → ⊥
    none i e = cc
all_at {A = A} P (y ∷ xs) zero x all at = subst P (same y x at) all.0
  where
    same : (y x : A) → Some y ≡ Some x → y ≡ x
    same y x e = cc
all_at P (y ∷ xs) (suc i) x all at = all_at P xs i x all.1 at

-- the put of an operation
pub put_at : (us : List OperationAtPath) (i : ℕ) (o : Operation) → slice_get (operations_of us) i ≡ Some o → (u : OperationAtPath) × ((slice_get us i ≡ Some u) × (u.operation ≡ o))
put_at [] i o at = absurd (none i at)
  where
    none : (i : ℕ) → slice_get [] i ≡ Some o → ⊥
    none i e = cc
put_at (u ∷ us) zero o at = (u, (refl, same u.operation o at))
  where
    same : (y x : Operation) → Some y ≡ Some x → y ≡ x
    same y x e = cc
put_at (u ∷ us) (suc i) o at = put_at us i o at

pub operations_both : (us vs : List OperationAtPath) → operations_of (us ++ vs) ≡ operations_of us ++ operations_of vs
operations_both [] vs = refl
operations_both (u ∷ us) vs = ap (λ (os : List Operation). u.operation ∷ os) (operations_both us vs)

-- Order, in a step.

module _ (x : BlockStep) (sites : ℕ → Option BlockSite) where
  pub goes_at : (us : List OperationAtPath) (i j : ℕ) (a b : OperationAtPath) → AreInOrder x sites us → slice_get us i ≡ Some a → slice_get us j ≡ Some b → i < j → UseGoesBefore x sites a b
  goes_at [] i j a b all at next less = absurd (none i at)
    where
      none : (i : ℕ) → slice_get [] i ≡ Some a → ⊥
      none i e = cc
  goes_at (u ∷ us) zero zero a b all at next less = absurd (omega (arith, less))
  goes_at (u ∷ us) zero (suc j) a b all at next less = subst (λ (c : OperationAtPath). UseGoesBefore x sites c b) (same u a at) (all_at (UseGoesBefore x sites u) us j b all.0 next)
    where
      same : (y x : OperationAtPath) → Some y ≡ Some x → y ≡ x
      same y x e = cc
  goes_at (u ∷ us) (suc i) zero a b all at next less = absurd (omega (arith, less))
  goes_at (u ∷ us) (suc i) (suc j) a b all at next less = goes_at us i j a b all.1 at next (omega (arith, less))

  -- those of one list before those of another
  abbrev pub GoAll : List OperationAtPath → List OperationAtPath → Type 0
  GoAll us vs = AllByRecursion (λ a. AllByRecursion (UseGoesBefore x sites a) vs) us

  pub order_both : (us vs : List OperationAtPath) → AreInOrder x sites us → AreInOrder x sites vs → GoAll us vs → AreInOrder x sites (us ++ vs)
  order_both [] vs h k g = k
  order_both (u ∷ us) vs h k g = (all_append (UseGoesBefore x sites u) us vs h.0 g.0, order_both us vs h.1 k g.1)

  -- what holds of each on both sides tells it
  pub go_by : (P Q : OperationAtPath → Reach → Type 0) (us vs : List OperationAtPath) → ((a b : OperationAtPath) (r t : Reach) → P a r → Q b t → GoesBefore x sites a b r t) → EachUse P us → EachUse Q vs → GoAll us vs
  go_by P Q [] vs so h k = tt
  go_by P Q (u ∷ us) vs so h k = (all_weaker (λ b. (t : Reach) → used_reach b ≡ Some t → Q b t) (UseGoesBefore x sites u) vs (λ b q r t at next. so u b r t (h.0 r at) (q t next)) k, go_by P Q us vs so h.1 k)

-- Facts of uses.

pub each_weaker : (P Q : OperationAtPath → Reach → Type 0) (us : List OperationAtPath) → ((u : OperationAtPath) (r : Reach) → P u r → Q u r) → EachUse P us → EachUse Q us
each_weaker P Q us so h = all_weaker (λ u. (r : Reach) → used_reach u ≡ Some r → P u r) (λ u. (r : Reach) → used_reach u ≡ Some r → Q u r) us (λ u p r at. so u r (p r at)) h

pub each_both : (P : OperationAtPath → Reach → Type 0) (us vs : List OperationAtPath) → EachUse P us → EachUse P vs → EachUse P (us ++ vs)
each_both P us vs h k = all_append (λ u. (r : Reach) → used_reach u ≡ Some r → P u r) us vs h k

pub each_two : (P Q : OperationAtPath → Reach → Type 0) (us : List OperationAtPath) → EachUse P us → EachUse Q us → EachUse (λ u r. P u r × Q u r) us
each_two P Q [] h k = tt
each_two P Q (u ∷ us) h k = (λ r at. (h.0 r at, k.0 r at), each_two P Q us h.1 k.1)
