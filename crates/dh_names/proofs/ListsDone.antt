-- Walks over the commands of a part and over the parts of a block.
use Rattle.std.proofs.Common.{◌≡◌, ℕ, ◌+◌, ◌≤◌, ◌^◌, List, [], ◌∷◌, length, map, Vec, refl, sym, ap, subst, ◌∙◌, arith}
use Rattle.std.specs.Global.{Global}
use Rattle.std.specs.Vec.{with_items}
use Rattle.dh_tree.specs.declared.trees.commands.Command.{Command}
use Rattle.dh_tree.specs.PlainTrees.{Action, Actions, action_then, group_then}
use Rattle.dh_tree.specs.Seen.{action_seen, part_seen, actions, groups}
use Rattle.dh_tree.specs.Scopes.{past, at_end, actions_at_end, groups_at_end}
use Rattle.dh_tree.specs.Breaches.{breaches, actions_breaches, groups_breaches}
use Rattle.dh_tree.specs.Resolved.{resolved_action, resolved_actions, resolved_groups}
use Rattle.dh_tree.specs.NameCounts.{declared_in, declared_in_actions, declared_in_groups}
use Rattle.dh_names.specs.Walks.{NamingState, walked, HasRoomToDeclare, ResolvesNext, ResolvesActions, ResolvesGroups}
use Rattle.dh_base.proofs.InPlace.{Unvisited, run, made, sum, Fits, FitsSoFar, finish, written}
use Rattle.dh_names.proofs.Extended.{past_entities, counted, actions_counted}
use Rattle.dh_names.proofs.FormsDone.{next_step}

abbrev pub entity_count : NamingState → ℕ
entity_count s = length s.scope.entities

abbrev pub action_step : NamingState → Action → NamingState
action_step s a = walked s (breaches s.scope a) (past s.scope a (at_end s.scope a))

abbrev pub action_made : NamingState → Action → Action
action_made s a = resolved_action s.scope a

pub action_grows : (s : NamingState) (a : Action) → entity_count (action_step s a) ≡ entity_count s + declared_in a
action_grows s a = ap (λ l. length l) (past_entities s.scope a (at_end s.scope a)) ∙ counted s.scope a

abbrev pub part_step : NamingState → Actions → NamingState
part_step s g = walked s (actions_breaches s.scope g) (actions_at_end s.scope g)

abbrev pub part_made : NamingState → Actions → Actions
part_made s g = resolved_actions s.scope g

pub part_grows : (s : NamingState) (g : Actions) → entity_count (part_step s g) ≡ entity_count s + declared_in_actions g
part_grows s g = actions_counted s.scope g

pub actions_made : (s : NamingState) (list : List Action) → actions (made action_seen action_step action_made s list) ≡ resolved_actions s.scope (actions list)
actions_made s [] = refl
actions_made s (a ∷ rest) = ap (λ l. action_then (resolved_action s.scope a) l) (actions_made (action_step s a) rest)

pub actions_run : (s : NamingState) (list : List Action) → run action_seen action_step action_made s list ≡ walked s (actions_breaches s.scope (actions list)) (actions_at_end s.scope (actions list))
actions_run s [] = refl
actions_run s (a ∷ rest) =
    next_step s (action_step s a) _ (breaches s.scope a) (past s.scope a (at_end s.scope a)) (λ x. actions_breaches x.scope (actions rest)) (λ x. actions_at_end x.scope (actions rest)) refl (actions_run (action_step s a) rest)

pub actions_sum : (list : List Action) → sum action_seen action_step action_made entity_count declared_in action_grows (2 ^ 32) list ≡ declared_in_actions (actions list)
actions_sum [] = refl
actions_sum (a ∷ rest) = ap (λ n. declared_in a + n) (actions_sum rest)

pub groups_made : (s : NamingState) (list : List Actions) → groups (made part_seen part_step part_made s list) ≡ resolved_groups s.scope (groups list)
groups_made s [] = refl
groups_made s (g ∷ rest) = ap (λ l. group_then (resolved_actions s.scope g) l) (groups_made (part_step s g) rest)

pub groups_run : (s : NamingState) (list : List Actions) → run part_seen part_step part_made s list ≡ walked s (groups_breaches s.scope (groups list)) (groups_at_end s.scope (groups list))
groups_run s [] = refl
groups_run s (g ∷ rest) =
    next_step s (part_step s g) _ (actions_breaches s.scope g) (actions_at_end s.scope g) (λ x. groups_breaches x.scope (groups rest)) (λ x. groups_at_end x.scope (groups rest)) refl (groups_run (part_step s g) rest)

pub groups_sum : (list : List Actions) → sum part_seen part_step part_made entity_count declared_in_actions part_grows (2 ^ 32) list ≡ declared_in_groups (groups list)
groups_sum [] = refl
groups_sum (g ∷ rest) = ap (λ n. declared_in_actions g + n) (groups_sum rest)

-- one turn of the walk over a part: the item that stands in the list, and the item as it was taken
pub next_turn : (s s' : NamingState) (x y : Command) (b : Action) → x ≡ y → (HasRoomToDeclare s (declared_in (action_seen y)) → ResolvesNext s s' (action_seen y) b) → HasRoomToDeclare s (declared_in (action_seen x))
    → (b ≡ action_made s (action_seen x)) × (s' ≡ action_step s (action_seen x))
next_turn s s' x y b is done room =
    let d = done (subst (λ z. HasRoomToDeclare s (declared_in (action_seen z))) is room) in
    (d.tree ∙ ap (λ z. action_made s (action_seen z)) (sym is), d.state ∙ ap (λ z. action_step s (action_seen z)) (sym is))

pub part_turn : (s s' : NamingState) (x y : Vec Command Global) (b : Actions) → x ≡ y → (HasRoomToDeclare s (declared_in_actions (part_seen y)) → ResolvesActions s s' (part_seen y) b) → HasRoomToDeclare s (declared_in_actions (part_seen x))
    → (b ≡ part_made s (part_seen x)) × (s' ≡ part_step s (part_seen x))
part_turn s s' x y b is done room =
    let d = done (subst (λ z. HasRoomToDeclare s (declared_in_actions (part_seen z))) is room) in
    (d.tree ∙ ap (λ z. part_made s (part_seen z)) (sym is), d.state ∙ ap (λ z. part_step s (part_seen z)) (sym is))

-- the end of the walk over a part
pub part_done : (s s' : NamingState) (v : Vec Command Global) (before now : List Command) (index : ℕ) → before ≡ v.items → length before ≡ v.len → length before ≤ index → Unvisited before now index
    → (Fits action_seen action_step action_made entity_count declared_in action_grows (2 ^ 32) s (map action_seen before) → FitsSoFar action_seen action_step action_made entity_count declared_in action_grows (2 ^ 32) before now index s s')
    → HasRoomToDeclare s (declared_in_actions (part_seen v)) → ResolvesActions s s' (part_seen v) (part_seen (with_items v now))
part_done s s' v before now index is long past u so room =
    let f = subst (λ n. entity_count s + n ≤ 2 ^ 32) (sym (actions_sum (map action_seen before) ∙ ap (λ l. declared_in_actions (actions (map action_seen l))) is)) room in
    let end = finish action_seen action_step action_made before now index s s' (omega (arith, past, u.0)) u (so f).so in
    record {
      tree = ap (λ l. actions (map action_seen l)) (written v.items now v.len (u.0 ∙ ap (λ l. length l) is) (sym (ap (λ l. length l) is) ∙ long))
          ∙ ap (λ l. actions l) end.0
          ∙ actions_made s (map action_seen before)
          ∙ ap (λ l. resolved_actions s.scope (actions (map action_seen l))) is;
      state = end.1 ∙ actions_run s (map action_seen before) ∙ ap (λ l. walked s (actions_breaches s.scope (actions (map action_seen l))) (actions_at_end s.scope (actions (map action_seen l)))) is;
    }

pub parts_done : (s s' : NamingState) (v : Vec (Vec Command Global) Global) (before now : List (Vec Command Global)) (index : ℕ) → before ≡ v.items → length before ≡ v.len → length before ≤ index → Unvisited before now index
    → (Fits part_seen part_step part_made entity_count declared_in_actions part_grows (2 ^ 32) s (map part_seen before) → FitsSoFar part_seen part_step part_made entity_count declared_in_actions part_grows (2 ^ 32) before now index s s')
    → HasRoomToDeclare s (declared_in_groups (groups (map part_seen v.items))) → ResolvesGroups s s' (groups (map part_seen v.items)) (groups (map part_seen (with_items v now).items))
parts_done s s' v before now index is long past u so room =
    let f = subst (λ n. entity_count s + n ≤ 2 ^ 32) (sym (groups_sum (map part_seen before) ∙ ap (λ l. declared_in_groups (groups (map part_seen l))) is)) room in
    let end = finish part_seen part_step part_made before now index s s' (omega (arith, past, u.0)) u (so f).so in
    record {
      tree = ap (λ l. groups (map part_seen l)) (written v.items now v.len (u.0 ∙ ap (λ l. length l) is) (sym (ap (λ l. length l) is) ∙ long))
          ∙ ap (λ l. groups l) end.0
          ∙ groups_made s (map part_seen before)
          ∙ ap (λ l. resolved_groups s.scope (groups (map part_seen l))) is;
      state = end.1 ∙ groups_run s (map part_seen before) ∙ ap (λ l. walked s (groups_breaches s.scope (groups (map part_seen l))) (groups_at_end s.scope (groups (map part_seen l)))) is;
    }
