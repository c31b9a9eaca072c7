-- No view of a program has the number of a variable that keeps an offset: entities are numbered in text order, so that the
-- names of views have numbers below that of the program's entities.
use Rattle.std.proofs.Common.{◌≡◌, ℕ, List, [], ◌∷◌, length, Option, sym, subst}
use Rattle.std.specs.List.{AllByRecursion}
use Rattle.dh_tree.specs.Memories.{memories_of}
use Rattle.dh_tree.specs.PlainTrees.{Program}
use Rattle.dh_tree.specs.Resolved.{resolved_action}
use Rattle.dh_tree.specs.Scopes.{body_scope, last_scope}
use Rattle.dh_meaning.specs.Ways.{Led, standings, ways_of}
use Rattle.dh_sound.proofs.ViewsBefore.{AllLedBelow, led_below, stand_within}
use Rattle.dh_code.specs.Placed.{IsNamedBelow}

all_named : (k : ℕ) (ls : List Led) → AllLedBelow k ls → AllByRecursion (λ l. IsNamedBelow k l.entity) ls
all_named k [] a = tt
all_named k (l ∷ ls) a = (subst (λ (e : Option ℕ). IsNamedBelow k e) (sym a.0.1.0) a.0.1.1, all_named k ls a.1)

-- the views of a program whose names are resolved
pub ways_named : (q : Program) → resolved_action (body_scope q) q.body ≡ q.body → length (last_scope q).entities ≡ length q.entities → AllByRecursion (λ l. IsNamedBelow (length q.entities) l.entity) (ways_of q)
ways_named q e long =
    subst (λ (k : ℕ). AllByRecursion (λ l. IsNamedBelow k l.entity) (ways_of q)) long
    (all_named (length (last_scope q).entities) (ways_of q)
    (led_below (memories_of q) (length q.entities) [] (standings 0 q.body) (length (body_scope q).entities) (length (last_scope q).entities) tt (stand_within q.body (body_scope q) 0 e)))
