-- The loops that are kept by the numbers of entities: none where there is no loop.
use Rattle.std.proofs.Common.{◌≡◌, ℕ, ◌≤◌, ◌==◌, true, List, [], ◌∷◌, length, Option, Some, None, refl, ap, sym, ◌∙◌, subst, arith, eqb-true}
use Rattle.dh_tree.specs.declared.trees.counters.Counter.{Counter}
use Rattle.dh_tree.specs.declared.trees.counters.Loops.{Loops}
use Rattle.dh_tree.specs.Collected.{AreLoopsAmong}
use Rattle.dh_tree.specs.Counters.{counters_of, counter_in, AreSingle}
use Rattle.dh_tree.specs.PlainTrees.{Program}
use Rattle.dh_tree.specs.Resolved.{HasEntities}
use Rattle.dh_tree.proofs.EntitiesGrow.{loops_within}

pub empty_list : (cs : List Counter) → (length cs == 0) ≡ true → cs ≡ []
empty_list [] e = refl
empty_list (c ∷ cs) e = let none = eqb-true (length (c ∷ cs)) 0 e in absurd (omega (arith, none))

pub none_among : (cs : List Counter) (entities : ℕ) (l : Loops) → cs ≡ [] → l.by_entity.items ≡ [] → AreLoopsAmong cs entities l
none_among cs entities l none empty = (
  λ there. absurd (there none),
  (
    λ entity inside. let long = ap (λ (slots : List (Option Counter)). length slots) empty in absurd (omega (arith, long, inside)),
    λ told. subst (λ (xs : List Counter). AreSingle xs) (sym none) tt,
  ),
)

not_none : (c : Counter) (cs : List Counter) → c ∷ cs ≡ [] → ⊥
not_none c cs e = cc

-- behind them nothing is looked up
pub loops_behind : (p : Program) → HasEntities p → (slots : List (Option Counter)) → ((counters_of p ≡ [] → ⊥) → length slots ≡ length p.entities) → (entity : ℕ) → length slots ≤ entity
    → counter_in (counters_of p) (Some entity) ≡ None
loops_behind p h slots long entity past = by (counters_of p) refl
  where
    by : (cs : List Counter) → counters_of p ≡ cs → counter_in (counters_of p) (Some entity) ≡ None
    by [] e = ap (λ (l : List Counter). counter_in l (Some entity)) e
    by (c ∷ cs) e = let same = long (λ none. not_none c cs (sym e ∙ none)) in loops_within p h entity (omega (arith, same, past))
