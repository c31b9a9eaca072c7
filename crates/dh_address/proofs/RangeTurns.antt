-- Ranges one after the other: what the rest of them add from here is what all add from the start. And what is seen of an
-- access before its tests.
use Rattle.std.proofs.Common.{◌≡◌, ℕ, List, refl, sym, subst}
use Rattle.std.specs.Prelude.{Option, Some, None, [], ◌∷◌}
use Rattle.dh_plan.specs.declared.operations.Reach.{Reach}
use Rattle.dh_plan.specs.declared.operations.Operation.{Operation}
use Rattle.dh_address.specs.declared.operands.Ranged.{Ranged}
use Rattle.dh_address.specs.declared.passing.PassedIndices.{PassedIndices}
use Rattle.dh_address.specs.Pieces.{RenumberedBlock, IsGuarded, AreChecked, both_made}
use Rattle.dh_address.specs.SeenAround.{IsGuardedOne, IsCheckedOne, IsReachPassed, IsPassedTo, IsRowPassed}
use Rattle.dh_address.specs.WaysMade.{IsIndexWay, passed_to}

-- Guards.
pub guarded_then : (guard : Option ℕ) (r : Ranged) (rest : List Ranged) (old mid : List Operation) (on : Option ℕ) → IsGuardedOne guard r old mid on
    → (new : List Operation) (last : Option ℕ) → IsGuarded on rest mid new last → IsGuarded guard (r ∷ rest) old new last
guarded_then guard r rest old mid on h new last g = (
  h.mid,
  (
    h.test,
    (
      h.tested,
      subst (λ (os : List Operation). IsGuarded (both_made h.mid guard h.test).sum rest os new last) h.both.0
          (subst (λ (o : Option ℕ). IsGuarded o rest mid new last) h.both.1 g),
    ),
  ),
)

pub guarded_end : (guard first : Option ℕ) (now all : List Ranged) (start old : List Operation) → now ≡ []
    → ((new : List Operation) (last : Option ℕ) → IsGuarded guard now old new last → IsGuarded first all start new last) → IsGuarded first all start old guard
guarded_end guard first now all start old is so = so old guard (subst (λ (rs : List Ranged). IsGuarded guard rs old old guard) (sym is) (refl, refl))

-- Checks.
module _ (guard : Option ℕ) (fault : ℕ) where
  pub checked_then : (r : Ranged) (rest : List Ranged) (old mid : List Operation) → IsCheckedOne guard fault r old mid
      → (new : List Operation) → AreChecked guard fault rest mid new → AreChecked guard fault (r ∷ rest) old new
  checked_then r rest old mid h new g = (h.mid, (h.test, (h.tested, subst (λ (os : List Operation). AreChecked guard fault rest os new) h.check g)))

  pub checked_end : (now all : List Ranged) (start old : List Operation) → now ≡ []
      → ((new : List Operation) → AreChecked guard fault now old new → AreChecked guard fault all start new) → AreChecked guard fault all start old
  checked_end now all start old is so = so old (subst (λ (rs : List Ranged). AreChecked guard fault rs old old) (sym is) refl)

-- Before the tests.

pub passes_row : (a : RenumberedBlock) (r : Reach) (row : ℕ) (list : List Operation) (p : PassedIndices) → r.row ≡ Some row → IsRowPassed a r row p → IsReachPassed a r list list p
passes_row a r row list p e h = subst (λ (o : Option ℕ). IsIndexWay list p.ranges p.indices (passed_to a r o list)) (sym e) (refl, (h.0, h.1))

pub passes_indices : (a : RenumberedBlock) (r : Reach) (old new : List Operation) (p : PassedIndices) → r.row ≡ None → IsPassedTo a r None old new p → IsReachPassed a r old new p
passes_indices a r old new p e h = subst (λ (o : Option ℕ). IsPassedTo a r o old new p) (sym e) h
