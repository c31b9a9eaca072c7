-- Small programs, as trees, on which the size of a plan is tried.
use Rattle.std.specs.Prelude.{ℕ, false, List, [], ◌∷◌, Some, None}
use Rattle.dh_base.specs.declared.places.Place.{Place}
use Rattle.dh_value.specs.declared.kinds.Kind.TheVariants.{Unsigned, Signed}
use Rattle.dh_tree.specs.declared.trees.expressions.Ref.{Ref}
use Rattle.dh_tree.specs.declared.trees.programs.ShapePlaces.{ShapePlaces}
use Rattle.dh_tree.specs.PlainTrees.{Term, term, number, named, accessed, no_terms, term_then, Action, action, lets, blocks, counts, no_action, Actions, no_actions, action_then, no_groups, group_then, Declared, Program}
use Rattle.dh_plan.specs.ExamplePlans.{dim}

abbrev pub here : Place
here = record { line = 1; column = 1 }

-- a name of one letter
abbrev pub called : (letter entity : ℕ) → Ref
called letter entity = record { name = letter ∷ []; place = here; entity = Some entity }

abbrev pub places : ShapePlaces
places = record { kind_place = here; braces_place = None; ports_place = here; dims = [] }

-- `decl A: ubit<8>[2 bank banks];`
abbrev pub pair : (banks : ℕ) → Declared
pair banks = record { name = called 65 0; shape = record { kind = Unsigned 8; ports = 1; dims = dim 2 banks ∷ [] }; shape_places = places }

-- `A[index]`
abbrev pub element : Term → Term
element index = term here (Some (Unsigned 8)) (accessed (called 65 0) (term_then index no_terms))

abbrev pub zero_index : Term
zero_index = term here (Some (Signed 32)) (number false 0)

-- `let name = value`
abbrev pub let_be : (id letter entity : ℕ) → Term → Action
let_be id letter entity value = action id here (lets (called letter entity) None (Some value))

abbrev pub block_action : (id : ℕ) → Actions → Action
block_action id as_one = action id here (blocks (group_then as_one no_groups))

abbrev pub whole : List Declared → Actions → Program
whole decls body = record { decls = decls; functions = []; body = block_action 0 body; entities = [] }

-- `decl A: ubit<8>[2];\nlet x = A[0]; let y = A[0];`
abbrev pub shared_reads : Program
shared_reads = whole (pair 1 ∷ []) (action_then (let_be 1 120 1 (element zero_index)) (action_then (let_be 2 121 2 (element zero_index)) no_actions))

-- `for (let i = 0..high) unroll factor body`
abbrev pub loop_over : (id high factor : ℕ) → Action → Action
loop_over id high factor body =
    action id here (counts (called 105 1) None (record { value = 0; place = here }) (record { value = high; place = here }) (record { value = factor; place = here; word = here }) body no_action here)

-- `decl A: ubit<8>[2 bank 2];\nfor (let i = 0..2) unroll 2 { let x = A[i]; }`
abbrev pub two_copies : Program
two_copies =
    whole (pair 2 ∷ [])
    (action_then (loop_over 1 2 2 (block_action 2 (action_then (let_be 3 120 2 (element (term here (Some (Unsigned 32)) (named (called 105 1))))) no_actions))) no_actions)

-- `for (let i = 0..0) { let x = 1; }`
abbrev pub no_turn : Program
no_turn = whole [] (action_then (loop_over 1 0 1 (block_action 2 (action_then (let_be 3 120 2 (term here (Some (Signed 32)) (number false 1))) no_actions))) no_actions)
