-- The program of three stores as a tree.
use Rattle.std.specs.Prelude.{false, [], ◌∷◌, Some}
use Rattle.dh_value.specs.declared.kinds.Kind.TheVariants.{Unsigned}
use Rattle.dh_tree.specs.PlainTrees.{term, number, accessed, no_terms, term_then, action, stores, no_actions, action_then, Program}
use Rattle.dh_plan.specs.ExampleSizes.{here, called, pair, block_action, whole, loop_over}

-- `decl A: ubit<8>[2];\nfor (let i = 0..3) { A[1] := 7; }`
abbrev pub storing_tree : Program
storing_tree =
    whole (pair 1 ∷ [])
    (action_then
    (loop_over 1 3 1 (block_action 2 (action_then
    (action 3 here (stores
    (term (record { line = 2; column = 22 }) (Some (Unsigned 8)) (accessed (called 65 0) (term_then (term here (Some (Unsigned 32)) (number false 1)) no_terms)))
    (term here (Some (Unsigned 8)) (number false 7)))) no_actions))) no_actions)
