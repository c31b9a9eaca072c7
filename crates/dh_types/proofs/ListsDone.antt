-- Walks over the commands of a part, over the parts of a block and over functions.
use Rattle.std.proofs.Common.{◌≡◌, ℕ, ◌≤◌, List, [], ◌∷◌, length, map, Vec, refl, sym, ap, ◌∙◌, arith}
use Rattle.std.specs.Global.{Global}
use Rattle.std.specs.Vec.{with_items}
use Rattle.dh_tree.specs.declared.trees.commands.Command.{Command}
use Rattle.dh_tree.specs.declared.trees.programs.Function.{Function}
use Rattle.dh_tree.specs.PlainTrees.{Action, Actions, action_then, group_then, Defined}
use Rattle.dh_tree.specs.Seen.{action_seen, part_seen, actions, groups, defined_seen}
use Rattle.dh_tree.specs.Kinds.{facts_after, facts_after_actions, facts_after_groups, facts_after_function, facts_after_functions, typed_action, typed_actions, typed_groups, typed_function, typed_functions}
use Rattle.dh_tree.specs.KindBreaches.{action_kind_breaches, actions_kind_breaches, groups_kind_breaches, function_kind_breaches, functions_kind_breaches}
use Rattle.dh_types.specs.Walks.{TypingState, walked_to_facts, Types, TypesActions, TypesGroups, TypesFunction, TypesFunctions}
use Rattle.dh_base.proofs.InPlace.{Unvisited, SoFar, run, made, finish, written}
use Rattle.dh_types.proofs.FormsDone.{next_step}

abbrev pub action_made : TypingState → Action → Action
action_made s a = typed_action s.facts a

abbrev pub action_step : TypingState → Action → TypingState
action_step s a = walked_to_facts s (action_kind_breaches s.facts (action_made s a)) (facts_after s.facts (action_made s a))

abbrev pub part_made : TypingState → Actions → Actions
part_made s g = typed_actions s.facts g

abbrev pub part_step : TypingState → Actions → TypingState
part_step s g = walked_to_facts s (actions_kind_breaches s.facts (part_made s g)) (facts_after_actions s.facts (part_made s g))

abbrev pub function_made : TypingState → Defined → Defined
function_made s f = typed_function s.facts f

abbrev pub function_step : TypingState → Defined → TypingState
function_step s f = walked_to_facts s (function_kind_breaches s.facts (function_made s f)) (facts_after_function s.facts (function_made s f))

pub actions_made : (s : TypingState) (list : List Action) → actions (made action_seen action_step action_made s list) ≡ typed_actions s.facts (actions list)
actions_made s [] = refl
actions_made s (a ∷ rest) = ap (λ l. action_then (typed_action s.facts a) l) (actions_made (action_step s a) rest)

pub actions_run : (s : TypingState) (list : List Action) → run action_seen action_step action_made s list ≡ part_step s (actions list)
actions_run s [] = refl
actions_run s (a ∷ rest) =
    let b = typed_action s.facts a in
    let r = typed_actions (facts_after s.facts b) (actions rest) in
    next_step s (action_step s a) _ (action_kind_breaches s.facts b) (facts_after s.facts b) (λ fs. actions_kind_breaches fs r) (λ fs. facts_after_actions fs r) refl (actions_run (action_step s a) rest)

pub groups_made : (s : TypingState) (list : List Actions) → groups (made part_seen part_step part_made s list) ≡ typed_groups s.facts (groups list)
groups_made s [] = refl
groups_made s (g ∷ rest) = ap (λ l. group_then (typed_actions s.facts g) l) (groups_made (part_step s g) rest)

abbrev groups_step : TypingState → List Actions → TypingState
groups_step s list = walked_to_facts s (groups_kind_breaches s.facts (typed_groups s.facts (groups list))) (facts_after_groups s.facts (typed_groups s.facts (groups list)))

pub groups_run : (s : TypingState) (list : List Actions) → run part_seen part_step part_made s list ≡ groups_step s list
groups_run s [] = refl
groups_run s (g ∷ rest) =
    let b = typed_actions s.facts g in
    let r = typed_groups (facts_after_actions s.facts b) (groups rest) in
    next_step s (part_step s g) _ (actions_kind_breaches s.facts b) (facts_after_actions s.facts b) (λ fs. groups_kind_breaches fs r) (λ fs. facts_after_groups fs r) refl (groups_run (part_step s g) rest)

pub functions_made : (s : TypingState) (list : List Defined) → made defined_seen function_step function_made s list ≡ typed_functions s.facts list
functions_made s [] = refl
functions_made s (f ∷ rest) = ap (λ l. typed_function s.facts f ∷ l) (functions_made (function_step s f) rest)

abbrev functions_step : TypingState → List Defined → TypingState
functions_step s list = walked_to_facts s (functions_kind_breaches s.facts (typed_functions s.facts list)) (facts_after_functions s.facts (typed_functions s.facts list))

pub functions_run : (s : TypingState) (list : List Defined) → run defined_seen function_step function_made s list ≡ functions_step s list
functions_run s [] = refl
functions_run s (f ∷ rest) =
    let b = typed_function s.facts f in
    let r = typed_functions (facts_after_function s.facts b) rest in
    next_step s (function_step s f) _ (function_kind_breaches s.facts b) (facts_after_function s.facts b) (λ fs. functions_kind_breaches fs r) (λ fs. facts_after_functions fs r) refl (functions_run (function_step s f) rest)

-- one turn: the item that stands in the list, and the item as it was taken
pub action_turn : (s s' : TypingState) (x y : Command) (b : Action) → x ≡ y → Types s s' (action_seen y) b → (b ≡ action_made s (action_seen x)) × (s' ≡ action_step s (action_seen x))
action_turn s s' x y b is done =
    let t = done.tree ∙ ap (λ z. action_made s (action_seen z)) (sym is) in
    (t, done.state ∙ ap (λ z. walked_to_facts s (action_kind_breaches s.facts z) (facts_after s.facts z)) t)

pub part_turn : (s s' : TypingState) (x y : Vec Command Global) (b : Actions) → x ≡ y → TypesActions s s' (part_seen y) b → (b ≡ part_made s (part_seen x)) × (s' ≡ part_step s (part_seen x))
part_turn s s' x y b is done =
    let t = done.tree ∙ ap (λ z. part_made s (part_seen z)) (sym is) in
    (t, done.state ∙ ap (λ z. walked_to_facts s (actions_kind_breaches s.facts z) (facts_after_actions s.facts z)) t)

pub function_turn : (s s' : TypingState) (x y : Function) (b : Defined) → x ≡ y → TypesFunction s s' (defined_seen y) b → (b ≡ function_made s (defined_seen x)) × (s' ≡ function_step s (defined_seen x))
function_turn s s' x y b is done =
    let t = done.tree ∙ ap (λ z. function_made s (defined_seen z)) (sym is) in
    (t, done.state ∙ ap (λ z. walked_to_facts s (function_kind_breaches s.facts z) (facts_after_function s.facts z)) t)

-- the end of the walk over a list
pub part_done : (s s' : TypingState) (v : Vec Command Global) (before now : List Command) (index : ℕ) → before ≡ v.items → length before ≡ v.len → length before ≤ index → Unvisited before now index
    → SoFar action_seen action_step action_made before now index s s' → TypesActions s s' (part_seen v) (part_seen (with_items v now))
part_done s s' v before now index is long past u so =
    let end = finish action_seen action_step action_made before now index s s' (omega (arith, past, u.0)) u so in
    let tree = ap (λ l. actions (map action_seen l)) (written v.items now v.len (u.0 ∙ ap (λ l. length l) is) (sym (ap (λ l. length l) is) ∙ long))
    ∙ ap (λ l. actions l) end.0
    ∙ actions_made s (map action_seen before)
    ∙ ap (λ l. typed_actions s.facts (actions (map action_seen l))) is in
    record {
      tree = tree;
      state = end.1 ∙ actions_run s (map action_seen before) ∙ ap (λ l. part_step s (actions (map action_seen l))) is
          ∙ sym (ap (λ z. walked_to_facts s (actions_kind_breaches s.facts z) (facts_after_actions s.facts z)) tree);
    }

pub parts_done : (s s' : TypingState) (v : Vec (Vec Command Global) Global) (before now : List (Vec Command Global)) (index : ℕ) → before ≡ v.items → length before ≡ v.len → length before ≤ index → Unvisited before now index
    → SoFar part_seen part_step part_made before now index s s' → TypesGroups s s' (groups (map part_seen v.items)) (groups (map part_seen (with_items v now).items))
parts_done s s' v before now index is long past u so =
    let end = finish part_seen part_step part_made before now index s s' (omega (arith, past, u.0)) u so in
    let tree = ap (λ l. groups (map part_seen l)) (written v.items now v.len (u.0 ∙ ap (λ l. length l) is) (sym (ap (λ l. length l) is) ∙ long))
    ∙ ap (λ l. groups l) end.0
    ∙ groups_made s (map part_seen before)
    ∙ ap (λ l. typed_groups s.facts (groups (map part_seen l))) is in
    record {
      tree = tree;
      state = end.1 ∙ groups_run s (map part_seen before) ∙ ap (λ l. groups_step s (map part_seen l)) is
          ∙ sym (ap (λ z. walked_to_facts s (groups_kind_breaches s.facts z) (facts_after_groups s.facts z)) tree);
    }

pub functions_done : (s s' : TypingState) (v : Vec Function Global) (before now : List Function) (index : ℕ) → before ≡ v.items → length before ≡ v.len → length before ≤ index → Unvisited before now index
    → SoFar defined_seen function_step function_made before now index s s' → TypesFunctions s s' (map defined_seen v.items) (map defined_seen (with_items v now).items)
functions_done s s' v before now index is long past u so =
    let end = finish defined_seen function_step function_made before now index s s' (omega (arith, past, u.0)) u so in
    let tree = ap (λ l. map defined_seen l) (written v.items now v.len (u.0 ∙ ap (λ l. length l) is) (sym (ap (λ l. length l) is) ∙ long))
    ∙ end.0
    ∙ functions_made s (map defined_seen before)
    ∙ ap (λ l. typed_functions s.facts (map defined_seen l)) is in
    record {
      tree = tree;
      state = end.1 ∙ functions_run s (map defined_seen before) ∙ ap (λ l. functions_step s (map defined_seen l)) is
          ∙ sym (ap (λ z. walked_to_facts s (functions_kind_breaches s.facts z) (facts_after_functions s.facts z)) tree);
    }
