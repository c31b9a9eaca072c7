-- What the walk that makes states does of nodes, from what it does of the first and of the rest; and of each form of
-- node. The numbers at which the rest begins are the lengths of what is there by then.
use Rattle.std.proofs.Common.{◌≡◌, ℕ, suc, ◌+◌, ◌-◌, ◌<◌, ◌^◌, ◌==◌, Bool, true, false, if◌then◌else◌, List, [], ◌∷◌, ◌++◌, length, map, Option, Some, None, option_map, refl, ap, sym, ◌∙◌, subst, arith, append_assoc, append-nil}
use Rattle.std.proofs.lemmas.List.{length-append, length-map, map-append}
use Rattle.dh_plan.specs.declared.graphs.Graph.{Graph}
use Rattle.dh_plan.specs.declared.graphs.Group.{Group}
use Rattle.dh_plan.specs.PlainPlans.{Node, block_node, turns_node, loop_node, choice_node, threads_node, Nodes, no_nodes, node_then, NodeLists, no_lists, list_then}
use Rattle.dh_plan.specs.PlanRuns.{PlanTodo, over, nodes_then, turn_then, test_then, again_then, pick_then}
use Rattle.dh_plan.specs.Ways.{GraphWay, to_state, to_end}
use Rattle.dh_flow.specs.declared.measuring.Entry.{Entry}
use Rattle.dh_flow.specs.declared.measuring.Entry.TheVariants.{Nothing, State, Threads}
use Rattle.dh_flow.specs.declared.measuring.NodeMark.{NodeMark}
use Rattle.dh_flow.specs.Footprints.{states_in, states_of, list_states, list_count, groups_in, node_groups, list_groups, nodes_entry, lists_entry, entry_or, own_groups, fork_entry, cut, cut_entry, footprint, footprint_of, node_footprint, list_mark, test_mark, node_mark, told_behind, marks_of, inner_marks, lists_marks}
use Rattle.dh_flow.specs.PlainFlows.{PlacedState, placed_state, Forked, forked, way_in_nodes, loop_way, choice_way, turn_way, states, node_placed, list_placed, begun_groups, begun_if, nodes_forked, node_forked, list_forked}
use Rattle.dh_flow.specs.ToldWays.{ToldWay, graph_way_told, told_go, told_test, told_count, told_rest, told_entry, told_state, told_group, state_told, group_told, states_told, groups_told, placed_told, forked_told}
use Rattle.dh_flow.specs.GraphWalks.{TakesUp, states_at, groups_at, Room, RoomFrom, GraphGrows, cut_sum, first_told, turn_told, loop_told, choice_told, added, AddsGroups, PushesState, Walked, Walks, WalksNext, WalksNode, WalksLists}
use Rattle.dh_flow.proofs.PlacedLists.{states_length, placed_length, lists_length, groups_length, forked_length, nested_length, lists_none}
use Rattle.dh_flow.proofs.TellsWays.{small, fits_sum, tells_in}

-- Lists that grow.

put_more : {A B C : Type 0} (f : A → C) (v : B → C) (xs ys zs : List A) (ps qs : List B) → map f ys ≡ map f xs ++ map v ps → map f zs ≡ map f ys ++ map v qs → map f zs ≡ map f xs ++ map v (ps ++ qs)
put_more f v xs ys zs ps qs d e =
    e ∙ (ap (λ x. x ++ map v qs) d ∙ (append_assoc (map f xs) (map v ps) (map v qs) ∙ ap (λ x. map f xs ++ x) (sym (map-append v ps qs))))

put_length : {A B C : Type 0} (f : A → C) (v : B → C) (xs ys : List A) (ps : List B) (n : ℕ) → map f ys ≡ map f xs ++ map v ps → length ps ≡ n → length ys ≡ length xs + n
put_length f v xs ys ps n e l =
    let one = length-map ys f in
    let two = ap (λ x. length x) e in
    let three = length-append (map f xs) (map v ps) in
    let four = length-map xs f in
    let five = length-map ps v in
    omega (arith, one, two, three, four, five, l)

two_grow : (ps qs : List PlacedState) (fs hs : List Forked) (a b c : Graph) → GraphGrows ps fs a b → GraphGrows qs hs b c → GraphGrows (ps ++ qs) (fs ++ hs) a c
two_grow ps qs fs hs a b c d e =
    record {
      states = put_more state_told placed_told a.states.items b.states.items c.states.items ps qs d.states e.states;
      groups = put_more group_told forked_told a.groups.items b.groups.items c.groups.items fs hs d.groups e.groups;
    }

none_grow : (g : Graph) → GraphGrows [] [] g g
none_grow g = record { states = sym (append-nil (states_told g.states.items)); groups = sym (append-nil (groups_told g.groups.items)) }

states_size : (ps : List PlacedState) (fs : List Forked) (g h : Graph) (n : ℕ) → GraphGrows ps fs g h → length ps ≡ n → states_at h ≡ states_at g + n
states_size ps fs g h n e l = put_length state_told placed_told g.states.items h.states.items ps n e.states l

groups_size : (ps : List PlacedState) (fs : List Forked) (g h : Graph) (n : ℕ) → GraphGrows ps fs g h → length fs ≡ n → groups_at h ≡ groups_at g + n
groups_size ps fs g h n e l = put_length group_told forked_told g.groups.items h.groups.items fs n e.groups l

pushes_grow : (block own : ℕ) (t : ToldWay) (g h : Graph) (w : GraphWay) (k : PlanTodo) → PushesState block own t g h → t ≡ graph_way_told w → GraphGrows (placed_state block own w k ∷ []) [] g h
pushes_grow block own t g h w k p is =
    record { states = p.states ∙ ap (λ x. states_told g.states.items ++ told_state block own x ∷ []) is; groups = p.groups ∙ sym (append-nil (groups_told g.groups.items)) }

-- at the numbers that are there
moved : (below new : List NodeMark) (ps : ℕ → ℕ → List PlacedState) (fs : ℕ → ℕ → List Forked) (g h : Graph) (a b c d : ℕ) → a ≡ c → b ≡ d → Walked below new (ps a b) (fs a b) g h → Walked below new (ps c d) (fs c d) g h
moved below new ps fs g h a b c d p q w = subst (λ (y : ℕ). Walked below new (ps c y) (fs c y) g h) q (subst (λ (x : ℕ). Walked below new (ps x b) (fs x b) g h) p w)

behind_room : (s m n x l : ℕ) → x ≡ s + m → s + (m + n) < l → x + n < l
behind_room s m n x l e room = omega (arith, e, room)

front_room : (s m n l : ℕ) → s + (m + n) < l → s + m < l
front_room s m n l room = omega (arith, room)

last_room : (s m n x y l : ℕ) → x ≡ s + 1 → y ≡ x + m → s + (m + n + 1) < l → y + n < l
last_room s m n x y l e f room = omega (arith, e, f, room)

-- Nodes in order.

pub walks_none : (own : ℕ) (way : ToldWay) (old : List NodeMark) (g : Graph) → Walks no_nodes own way old old g g
walks_none own way old g = record { so = λ below w k e is room. record { marks = e ∙ append-nil below; grows = none_grow g } }

pub walks_then : (n : Node) (ns : Nodes) (own : ℕ) (way : ToldWay) (old mid new : List NodeMark) (g m h : Graph) → WalksNext n own way old mid g m → Walks ns own way mid new m h → Walks (node_then n ns) own way old new g h
walks_then n ns own way old mid new g m h one more = record { so = by }
  where
    by : (below : List NodeMark) (w : GraphWay) (k : PlanTodo) → old ≡ below ++ marks_of (node_then n ns) → way ≡ graph_way_told w → Room g (states_in (node_then n ns)) (groups_in (node_then n ns))
        → Walked below new (states (node_then n ns) (states_at g) (groups_at g) own w k) (nodes_forked (node_then n ns) (states_at g) (groups_at g) own w k) g h
    by below w k e is room =
        let a = states_at g + states_of n in
        let b = groups_at g + node_groups n in
        let v = way_in_nodes ns a b w in
        let front = one.so ns below w k e is room in
        let ps = node_placed n (states_at g) (groups_at g) own v (nodes_then ns k) in
        let fs = node_forked n (states_at g) (groups_at g) own v (nodes_then ns k) in
        let same_a = states_size ps fs g m (states_of n) front.grows (placed_length n (states_at g) (groups_at g) own v (nodes_then ns k)) in
        let same_b = groups_size ps fs g m (node_groups n) front.grows (forked_length n (states_at g) (groups_at g) own v (nodes_then ns k)) in
        let room' : Room m (states_in ns) (groups_in ns) = (behind_room (states_at g) (states_of n) (states_in ns) (states_at m) (2 ^ 64) same_a room.0, behind_room (groups_at g) (node_groups n) (groups_in ns) (groups_at m) (2 ^ 64) same_b room.1) in
        let rest = moved below new (λ x y. states ns x y own w k) (λ x y. nodes_forked ns x y own w k) m h (states_at m) (groups_at m) a b same_a same_b (more.so below w k front.marks is room') in
        record { marks = rest.marks; grows = two_grow ps (states ns a b own w k) fs (nodes_forked ns a b own w k) g m h front.grows rest.grows }

-- what is told of the way behind the next node
told_next : (m : NodeMark) (e : Entry) (s t a b : ℕ) (u way next : ToldWay) → m.behind ≡ e → m.own.states ≡ cut s → m.own.groups ≡ cut t → a + s < 2 ^ 64 → b + t < 2 ^ 64 → way ≡ u
    → next ≡ told_entry m.behind (cut_sum a m.own.states) (cut_sum b m.own.groups) way → next ≡ told_entry e (a + s) (b + t) u
told_next m e s t a b u way next behind ss ts more_a more_b is n =
    n ∙ (ap (λ x. told_entry x (cut_sum a m.own.states) (cut_sum b m.own.groups) way) behind
    ∙ (ap (λ x. told_entry e x (cut_sum b m.own.groups) way) (ap (λ x. cut_sum a x) ss ∙ fits_sum a s more_a)
    ∙ (ap (λ x. told_entry e (a + s) x way) (ap (λ x. cut_sum b x) ts ∙ fits_sum b t more_b) ∙ ap (λ x. told_entry e (a + s) (b + t) x) is)))

own_is : (n : Node) → (node_mark n).own ≡ node_footprint n
own_is (block_node block) = refl
own_is (turns_node counter turns body) = refl
own_is (loop_node test flag body) = refl
own_is (choice_node test flag chosen other) = refl
own_is (threads_node lists) = refl

pub walks_next : (n : Node) (own : ℕ) (m : NodeMark) (way next : ToldWay) (old mid new : List NodeMark) (g h : Graph) → TakesUp old mid m → next ≡ told_entry m.behind (cut_sum (states_at g) m.own.states) (cut_sum (groups_at g) m.own.groups) way
    → WalksNode n own m next mid new g h → WalksNext n own way old new g h
walks_next n own m way next old mid new g h takes n_is node = record { so = by }
  where
    by : (ns : Nodes) (below : List NodeMark) (w : GraphWay) (k : PlanTodo) → old ≡ below ++ marks_of (node_then n ns) → way ≡ graph_way_told w → Room g (states_in (node_then n ns)) (groups_in (node_then n ns))
        → Walked (below ++ marks_of ns) new
        (node_placed n (states_at g) (groups_at g) own (way_in_nodes ns (states_at g + states_of n) (groups_at g + node_groups n) w) (nodes_then ns k))
        (node_forked n (states_at g) (groups_at g) own (way_in_nodes ns (states_at g + states_of n) (groups_at g + node_groups n) w) (nodes_then ns k)) g h
    by ns below w k e is room =
        let a = states_at g + states_of n in
        let b = groups_at g + node_groups n in
        let x = told_behind (node_mark n) (cut_entry (nodes_entry ns)) in
        let taken = takes.so ((below ++ marks_of ns) ++ inner_marks n) x
        (e ∙ (sym (append_assoc below (marks_of ns) (inner_marks n ++ x ∷ [])) ∙ sym (append_assoc (below ++ marks_of ns) (inner_marks n) (x ∷ [])))) in
        let room_a = front_room (states_at g) (states_of n) (states_in ns) (2 ^ 64) room.0 in
        let room_b = front_room (groups_at g) (node_groups n) (groups_in ns) (2 ^ 64) room.1 in
        let own = ap (λ (y : NodeMark). y.own) taken.0 ∙ own_is n in
        let t = told_next m (cut_entry (nodes_entry ns)) (states_of n) (node_groups n) (states_at g) (groups_at g) (graph_way_told w) way next (ap (λ (y : NodeMark). y.behind) taken.0)
        (ap (λ o. o.states) own) (ap (λ o. o.groups) own) room_a room_b is n_is in
        node.so (cut_entry (nodes_entry ns)) (below ++ marks_of ns) (way_in_nodes ns a b w) (nodes_then ns k) taken.0 taken.1
        (t ∙ sym (tells_in ns a b w (behind_room (groups_at g) (node_groups n) (groups_in ns) b (2 ^ 64) refl room.1))) (room_a, room_b)

-- The forms of nodes.

pub walks_step : (block own : ℕ) (m : NodeMark) (way : ToldWay) (old : List NodeMark) (g h : Graph) → PushesState block own way g h → WalksNode (block_node block) own m way old old g h
walks_step block own m way old g h pushes =
    record { so = λ e below w k mark f is room. record { marks = f ∙ append-nil below; grows = pushes_grow block own way g h w k pushes is } }

pub walks_no_turn : (counter turns : ℕ) (body : Nodes) (own : ℕ) (m : NodeMark) (way : ToldWay) (old : List NodeMark) (g : Graph) → turns ≡ 0 → WalksNode (turns_node counter turns body) own m way old old g g
walks_no_turn counter turns body own m way old g none =
    subst (λ (n : ℕ). WalksNode (turns_node counter n body) own m way old old g g) (sym none) (record { so = λ e below w k mark f is room. record { marks = f ∙ append-nil below; grows = none_grow g } })

-- by the test of the turns
turns_by : (t : Bool) (body : Nodes) (own : ℕ) (m : NodeMark) (e : Entry) (d way : ToldWay) (v w : GraphWay) (k : PlanTodo) (old new below : List NodeMark) (g h : Graph) (counter turns : ℕ) → t ≡ false
    → m ≡ told_behind (list_mark (footprint (if t then 0 else states_in body) (if t then 0 else groups_in body) (if t then Nothing else nodes_entry body))) e
    → old ≡ below ++ (if t then [] else marks_of body)
    → (states_at g + (if t then 0 else states_in body) < 2 ^ 64) × (groups_at g + (if t then 0 else groups_in body) < 2 ^ 64)
    → d ≡ told_count counter (turns - 1) (told_entry m.own.entry (states_at g) (groups_at g) told_rest) way → way ≡ graph_way_told w → Walks body own d old new g h
    → Walked below new (if t then [] else states body (states_at g) (groups_at g) own (turn_way counter turns body (states_at g) (groups_at g) w) k)
    (if t then [] else nodes_forked body (states_at g) (groups_at g) own (turn_way counter turns body (states_at g) (groups_at g) w) k) g h
turns_by true body own m e d way v w k old new below g h counter turns no_zero mark f room is w_is walks = absurd (cc)
turns_by false body own m e d way v w k old new below g h counter turns no_zero mark f room is w_is walks =
    walks.so below (turn_way counter turns body (states_at g) (groups_at g) w) k f
    (is ∙ (ap (λ (y : NodeMark). told_count counter (turns - 1) (told_entry y.own.entry (states_at g) (groups_at g) told_rest) way) mark
    ∙ (ap (λ x. told_count counter (turns - 1) x way) (sym (tells_in body (states_at g) (groups_at g) to_end room.1)) ∙ ap (λ x. told_count counter (turns - 1) (graph_way_told (way_in_nodes body (states_at g) (groups_at g) to_end)) x) w_is))) room

pub walks_turns : (counter turns last : ℕ) (body : Nodes) (own : ℕ) (m : NodeMark) (way d : ToldWay) (old new : List NodeMark) (g h : Graph) → (turns == 0) ≡ false → last ≡ turns - 1
    → d ≡ turn_told counter last m.own.entry way g → Walks body own d old new g h → WalksNode (turns_node counter turns body) own m way old new g h
walks_turns counter turns last body own m way d old new g h some l is walks =
    record {
      so = λ e below w k mark f w_is room. turns_by (turns == 0) body own m e d way w w (turn_then counter turns body k) old new below g h counter turns some mark f room
          (is ∙ ap (λ x. told_count counter x (told_entry m.own.entry (states_at g) (groups_at g) told_rest) way) l) w_is walks;
    }

one_more : (a n l : ℕ) → a + (n + 1) < l → a + 1 < l
one_more a n l room = omega (arith, room)

one_behind : (a n x l : ℕ) → x ≡ a + 1 → a + (n + 1) < l → x + n < l
one_behind a n x l e room = omega (arith, e, room)

same_room : (a n x l : ℕ) → x ≡ a + 0 → a + n < l → x + n < l
same_room a n x l e room = omega (arith, e, room)

no_more : (a x : ℕ) → x ≡ a + 0 → x ≡ a
no_more a x e = omega (arith, e)

pub walks_loop : (test flag : ℕ) (body : Nodes) (own : ℕ) (m : NodeMark) (way d : ToldWay) (old new : List NodeMark) (g p h : Graph) → d ≡ loop_told flag m way g → PushesState test own d g p → Walks body own (told_go (states_at g)) old new p h
    → WalksNode (loop_node test flag body) own m way old new g h
walks_loop test flag body own m way d old new g p h is pushes walks = record { so = by }
  where
    by : (e : Entry) (below : List NodeMark) (w : GraphWay) (k : PlanTodo) → m ≡ told_behind (node_mark (loop_node test flag body)) e → old ≡ below ++ marks_of body → way ≡ graph_way_told w → Room g (states_in body + 1) (groups_in body)
        → Walked below new (node_placed (loop_node test flag body) (states_at g) (groups_at g) own w k) (node_forked (loop_node test flag body) (states_at g) (groups_at g) own w k) g h
    by e below w k mark f w_is room =
        let a = states_at g in
        let b = groups_at g in
        let again = again_then test flag body k in
        let next : cut_sum a 1 ≡ a + 1 = small (a + 1) (one_more a (states_in body) (2 ^ 64) room.0) in
        let tells : d ≡ graph_way_told (loop_way flag body a b w) =
        is ∙ (ap (λ (y : NodeMark). told_test flag (told_entry y.inner.entry (cut_sum a 1) b (told_go a)) way) mark
        ∙ (ap (λ x. told_test flag (told_entry (cut_entry (nodes_entry body)) x b (told_go a)) way) next
        ∙ (ap (λ x. told_test flag x way) (sym (tells_in body (a + 1) b (to_state a) room.1)) ∙ ap (λ x. told_test flag (graph_way_told (way_in_nodes body (a + 1) b (to_state a))) x) w_is))) in
        let one = placed_state test own (loop_way flag body a b w) (test_then test flag body k) in
        let first = pushes_grow test own d g p (loop_way flag body a b w) (test_then test flag body k) pushes tells in
        let same_a = states_size (one ∷ []) [] g p 1 first refl in
        let same_b = groups_size (one ∷ []) [] g p 0 first refl in
        let rest = moved below new (λ x y. states body x y own (to_state a) again) (λ x y. nodes_forked body x y own (to_state a) again) p h (states_at p) (groups_at p) (a + 1) b same_a (no_more b (groups_at p) same_b)
        (walks.so below (to_state a) again f refl (one_behind a (states_in body) (states_at p) (2 ^ 64) same_a room.0, same_room b (groups_in body) (groups_at p) (2 ^ 64) same_b room.1)) in
        record { marks = rest.marks; grows = two_grow (one ∷ []) (states body (a + 1) b own (to_state a) again) [] (nodes_forked body (a + 1) b own (to_state a) again) g p h first rest.grows }

second_room : (a m n l : ℕ) → a + (m + n + 1) < l → a + 1 + m < l
second_room a m n l room = omega (arith, room)

first_room : (a m n x l : ℕ) → x ≡ a + 1 → a + (m + n + 1) < l → x + m < l
first_room a m n x l e room = omega (arith, e, room)

sum_sides : (a m n l : ℕ) → a + (m + n) < l → a + m + n < l
sum_sides a m n l room = omega (arith, room)

told_choice : (flag : ℕ) (chosen other : Nodes) (m : NodeMark) (e : Entry) (way d : ToldWay) (g : Graph) (w : GraphWay) → d ≡ choice_told flag m way g
    → m ≡ told_behind (test_mark (footprint (states_in chosen + states_in other + 1) (groups_in chosen + groups_in other) State) (footprint_of chosen) (cut_entry (nodes_entry other))) e → way ≡ graph_way_told w
    → Room g (states_in chosen + states_in other + 1) (groups_in chosen + groups_in other) → d ≡ graph_way_told (choice_way flag chosen other (states_at g) (groups_at g) w)
told_choice flag chosen other m e way d g w is mark w_is room =
    let a = states_at g in
    let b = groups_at g in
    let next : cut_sum a 1 ≡ a + 1 = small (a + 1) (one_more a (states_in chosen + states_in other) (2 ^ 64) room.0) in
    let there : cut_sum (cut_sum a 1) (cut (states_in chosen)) ≡ a + 1 + states_in chosen =
    ap (λ x. cut_sum x (cut (states_in chosen))) next ∙ fits_sum (a + 1) (states_in chosen) (second_room a (states_in chosen) (states_in other) (2 ^ 64) room.0) in
    let grouped : cut_sum b (cut (groups_in chosen)) ≡ b + groups_in chosen = fits_sum b (groups_in chosen) (front_room b (groups_in chosen) (groups_in other) (2 ^ 64) room.1) in
    let yes_is = tells_in chosen (a + 1) b w (front_room b (groups_in chosen) (groups_in other) (2 ^ 64) room.1) in
    let no_is = tells_in other (a + 1 + states_in chosen) (b + groups_in chosen) w (sum_sides b (groups_in chosen) (groups_in other) (2 ^ 64) room.1) in
    is ∙ (ap (λ (y : NodeMark). told_test flag (told_entry y.inner.entry (cut_sum a 1) b way) (told_entry y.other (cut_sum (cut_sum a 1) y.inner.states) (cut_sum b y.inner.groups) way)) mark
    ∙ (ap (λ x. told_test flag (told_entry (cut_entry (nodes_entry chosen)) (cut_sum a 1) b x) (told_entry (cut_entry (nodes_entry other)) (cut_sum (cut_sum a 1) (cut (states_in chosen))) (cut_sum b (cut (groups_in chosen))) x)) w_is
    ∙ (ap (λ x. told_test flag (told_entry (cut_entry (nodes_entry chosen)) x b (graph_way_told w)) (told_entry (cut_entry (nodes_entry other)) (cut_sum (cut_sum a 1) (cut (states_in chosen))) (cut_sum b (cut (groups_in chosen))) (graph_way_told w))) next
    ∙ (ap (λ x. told_test flag (told_entry (cut_entry (nodes_entry chosen)) (a + 1) b (graph_way_told w)) (told_entry (cut_entry (nodes_entry other)) x (cut_sum b (cut (groups_in chosen))) (graph_way_told w))) there
    ∙ (ap (λ x. told_test flag (told_entry (cut_entry (nodes_entry chosen)) (a + 1) b (graph_way_told w)) (told_entry (cut_entry (nodes_entry other)) (a + 1 + states_in chosen) x (graph_way_told w))) grouped
    ∙ (ap (λ x. told_test flag x (told_entry (cut_entry (nodes_entry other)) (a + 1 + states_in chosen) (b + groups_in chosen) (graph_way_told w))) (sym yes_is)
    ∙ ap (λ x. told_test flag (graph_way_told (way_in_nodes chosen (a + 1) b w)) x) (sym no_is)))))))

pub walks_choice : (test flag : ℕ) (chosen other : Nodes) (own : ℕ) (m : NodeMark) (way d : ToldWay) (old mid new : List NodeMark) (g p q h : Graph) → d ≡ choice_told flag m way g → PushesState test own d g p
    → Walks chosen own way old mid p q → Walks other own way mid new q h → WalksNode (choice_node test flag chosen other) own m way old new g h
walks_choice test flag chosen other own m way d old mid new g p q h is pushes one two = record { so = by }
  where
    by : (e : Entry) (below : List NodeMark) (w : GraphWay) (k : PlanTodo) → m ≡ told_behind (node_mark (choice_node test flag chosen other)) e → old ≡ below ++ (marks_of other ++ marks_of chosen) → way ≡ graph_way_told w
        → Room g (states_in chosen + states_in other + 1) (groups_in chosen + groups_in other)
        → Walked below new (node_placed (choice_node test flag chosen other) (states_at g) (groups_at g) own w k) (node_forked (choice_node test flag chosen other) (states_at g) (groups_at g) own w k) g h
    by e below w k mark f w_is room =
        let a = states_at g in
        let b = groups_at g in
        let head = placed_state test own (choice_way flag chosen other a b w) (pick_then flag chosen other k) in
        let first = pushes_grow test own d g p (choice_way flag chosen other a b w) (pick_then flag chosen other k) pushes (told_choice flag chosen other m e way d g w is mark w_is room) in
        let p_a = states_size (head ∷ []) [] g p 1 first refl in
        let p_b = no_more b (groups_at p) (groups_size (head ∷ []) [] g p 0 first refl) in
        let c = a + 1 in
        let front = moved (below ++ marks_of other) mid (λ x y. states chosen x y own w k) (λ x y. nodes_forked chosen x y own w k) p q (states_at p) (groups_at p) c b p_a p_b
        (one.so (below ++ marks_of other) w k (f ∙ sym (append_assoc below (marks_of other) (marks_of chosen))) w_is
        (first_room a (states_in chosen) (states_in other) (states_at p) (2 ^ 64) p_a room.0, group_room b (groups_in chosen) (groups_in other) (groups_at p) (2 ^ 64) p_b room.1)) in
        let q_a' = states_size (states chosen c b own w k) (nodes_forked chosen c b own w k) p q (states_in chosen) front.grows (states_length chosen c b own w k) in
        let q_b' = groups_size (states chosen c b own w k) (nodes_forked chosen c b own w k) p q (groups_in chosen) front.grows (groups_length chosen c b own w k) in
        let q_a : states_at q ≡ c + states_in chosen = q_a' ∙ ap (λ x. x + states_in chosen) p_a in
        let q_b : groups_at q ≡ b + groups_in chosen = q_b' ∙ ap (λ x. x + groups_in chosen) p_b in
        let back = moved below new (λ x y. states other x y own w k) (λ x y. nodes_forked other x y own w k) q h (states_at q) (groups_at q) (c + states_in chosen) (b + groups_in chosen) q_a q_b
        (two.so below w k front.marks w_is (last_room a (states_in chosen) (states_in other) (states_at p) (states_at q) (2 ^ 64) p_a q_a' room.0, behind_room b (groups_in chosen) (groups_in other) (groups_at q) (2 ^ 64) q_b room.1)) in
        record {
          marks = back.marks;
          grows = two_grow (head ∷ []) (states chosen c b own w k ++ states other (c + states_in chosen) (b + groups_in chosen) own w k) [] (nodes_forked chosen c b own w k ++ nodes_forked other (c + states_in chosen) (b + groups_in chosen) own w k) g p h first
              (two_grow (states chosen c b own w k) (states other (c + states_in chosen) (b + groups_in chosen) own w k) (nodes_forked chosen c b own w k) (nodes_forked other (c + states_in chosen) (b + groups_in chosen) own w k) p q h front.grows back.grows);
        }
      where
        group_room : (b m n x l : ℕ) → x ≡ b → b + (m + n) < l → x + m < l
        group_room b m n x l e room = omega (arith, e, room)

-- Threads.

added_is : (e : Entry) (n c : ℕ) (lists : NodeLists) (a g own : ℕ) (join : Option GraphWay) (k : PlanTodo) (made : List Group) → groups_told made ≡ map forked_told (begun_groups lists a g own join k)
    → groups_told (added (cut_entry (fork_entry e n c)) made) ≡ map forked_told (begun_if e lists a g own join k)
added_is Nothing n c lists a g own join k made is = refl
added_is State n c lists a g own join k made is = is
added_is (Threads m d) n c lists a g own join k made is = is

-- the first group of threads, behind those nested in them
first_is : (e : Entry) (g : Graph) (nested count : ℕ) → (e ≡ Nothing → nested ≡ 0) → groups_at g + nested < 2 ^ 64 → first_told (cut_entry (fork_entry e nested count)) g ≡ groups_at g + nested
first_is Nothing g nested count none room = add_none (groups_at g) nested (none refl)
  where
    add_none : (m n : ℕ) → n ≡ 0 → m ≡ m + n
    add_none m n e = omega (arith, e)
first_is State g nested count none room = fits_sum (groups_at g) nested room
first_is (Threads m d) g nested count none room = fits_sum (groups_at g) nested room

-- their numbers, where they begin
room_from : (e : Entry) (b nested count : ℕ) → b + (nested + own_groups e count) < 2 ^ 64 → (e ≡ Nothing → ⊥) → b + nested + count < 2 ^ 64
room_from Nothing b nested count room some = absurd (some refl)
room_from State b nested count room some = sums b nested count (2 ^ 64) room
  where
    sums : (b m n l : ℕ) → b + (m + n) < l → b + m + n < l
    sums b m n l room = omega (arith, room)
room_from (Threads m d) b nested count room some = sums b nested count (2 ^ 64) room
  where
    sums : (b m n l : ℕ) → b + (m + n) < l → b + m + n < l
    sums b m n l room = omega (arith, room)

pub walks_threads : (lists : NodeLists) (own first : ℕ) (m : NodeMark) (way : ToldWay) (old new : List NodeMark) (g p h : Graph) (made : List Group) → first ≡ first_told m.own.entry g
    → WalksLists lists own first (Some way) old new g p made → AddsGroups m.own.entry made p h → WalksNode (threads_node lists) own m way old new g h
walks_threads lists own first m way old new g p h made f_is walks adds = record { so = by }
  where
    by : (e : Entry) (below : List NodeMark) (w : GraphWay) (k : PlanTodo) → m ≡ told_behind (node_mark (threads_node lists)) e → old ≡ below ++ lists_marks lists → way ≡ graph_way_told w
        → Room g (list_states lists) (list_groups lists + own_groups (lists_entry lists) (list_count lists))
        → Walked below new (node_placed (threads_node lists) (states_at g) (groups_at g) own w k) (node_forked (threads_node lists) (states_at g) (groups_at g) own w k) g h
    by e below w k mark f w_is room =
        let a = states_at g in
        let b = groups_at g in
        let c = b + list_groups lists in
        let nested_room = front_room b (list_groups lists) (own_groups (lists_entry lists) (list_count lists)) (2 ^ 64) room.1 in
        let entry : m.own.entry ≡ cut_entry (fork_entry (lists_entry lists) (list_groups lists) (list_count lists)) = ap (λ (y : NodeMark). y.own.entry) mark in
        let from : first ≡ c = f_is ∙ (ap (λ x. first_told x g) entry ∙ first_is (lists_entry lists) g (list_groups lists) (list_count lists) (λ none. (lists_none lists none).1) nested_room) in
        let at_c : WalksLists lists own c (Some way) old new g p made = subst (λ (x : ℕ). WalksLists lists own x (Some way) old new g p made) from walks in
        let walked = at_c.so below (Some w) k f (ap (λ x. Some x) w_is) (room.0, nested_room) (room_from (lists_entry lists) b (list_groups lists) (list_count lists) room.1) in
        let more = ap (λ x. groups_told (added x made)) entry ∙ added_is (lists_entry lists) (list_groups lists) (list_count lists) lists a b own (Some w) k made walked.1 in
        let last : GraphGrows [] (begun_if (lists_entry lists) lists a b own (Some w) k) p h =
        record { states = adds.states ∙ sym (append-nil (states_told p.states.items)); groups = adds.groups ∙ ap (λ x. groups_told p.groups.items ++ x) more } in
        let whole = two_grow (list_placed lists a b c) [] (list_forked lists a b c) (begun_if (lists_entry lists) lists a b own (Some w) k) g p h walked.0.grows last in
        record { marks = walked.0.marks; grows = record { states = whole.states ∙ ap (λ x. states_told g.states.items ++ map placed_told x) (append-nil (list_placed lists a b c)); groups = whole.groups } }

pub no_lists_walked : (parent own : ℕ) (after : Option ToldWay) (old : List NodeMark) (g : Graph) → WalksLists no_lists parent own after old old g g []
no_lists_walked parent own after old g = record { so = λ below join k e is room from. (record { marks = e ∙ append-nil below; grows = none_grow g }, refl) }

-- what does no block is the same in any group
any_own : (lists : NodeLists) (e : Entry) (a g o p : ℕ) → lists_entry lists ≡ e → ((e ≡ Nothing → ⊥) → o ≡ p) → (list_placed lists a g o ≡ list_placed lists a g p) × (list_forked lists a g o ≡ list_forked lists a g p)
any_own lists Nothing a g o p is same =
    let none = lists_none lists is in (
      empty (list_placed lists a g o) (list_states lists) (lists_length lists a g o) none.0 ∙ sym (empty (list_placed lists a g p) (list_states lists) (lists_length lists a g p) none.0),
      empty (list_forked lists a g o) (list_groups lists) (nested_length lists a g o) none.1 ∙ sym (empty (list_forked lists a g p) (list_groups lists) (nested_length lists a g p) none.1),
    )
  where
    empty : {A : Type 0} (xs : List A) (n : ℕ) → length xs ≡ n → n ≡ 0 → xs ≡ []
    empty [] n l z = refl
    empty (x ∷ xs) n l z = absurd (some (length xs) n l z)
      where
        some : (m n : ℕ) → suc m ≡ n → n ≡ 0 → ⊥
        some m n l z = omega (arith, l, z)
any_own lists State a g o p is same =
    let e = same (λ none. let f : State ≡ Nothing = none in cc) in
    (ap (λ x. list_placed lists a g x) e, ap (λ x. list_forked lists a g x) e)
any_own lists (Threads m d) a g o p is same =
    let e = same (λ none. let f : Threads m d ≡ Nothing = none in cc) in
    (ap (λ x. list_placed lists a g x) e, ap (λ x. list_forked lists a g x) e)

some_or : (e f : Entry) → (f ≡ Nothing → ⊥) → entry_or e f ≡ Nothing → ⊥
some_or Nothing f some none = some none
some_or State f some none = let g : State ≡ Nothing = none in cc
some_or (Threads m d) f some none = let g : Threads m d ≡ Nothing = none in cc

pub lists_then : (ns : Nodes) (lists : NodeLists) (parent own own' : ℕ) (after : Option ToldWay) (m : NodeMark) (d : ToldWay) (one : Group) (old mid rest new : List NodeMark) (g p h : Graph) (made : List Group)
    → TakesUp old mid m → d ≡ told_entry m.own.entry (states_at g) (groups_at g) told_rest → group_told one ≡ told_group (Some parent) d after → own' ≡ cut_sum own 1
    → Walks ns own told_rest mid rest g p → WalksLists lists parent own' None rest new p h made → WalksLists (list_then ns lists) parent own after old new g h (one ∷ made)
lists_then ns lists parent own own' after m d one old mid rest new g p h made takes d_is one_is own_is walks more = record { so = by }
  where
    next_own : (n x : ℕ) → own + (n + 1) < 2 ^ 64 → x ≡ cut_sum own 1 → x ≡ own + 1
    next_own n x room is = is ∙ small (own + 1) (part n (2 ^ 64) room)
      where
        part : (n l : ℕ) → own + (n + 1) < l → own + 1 < l
        part n l room = omega (arith, room)

    rest_from : (n x : ℕ) → own + (n + 1) < 2 ^ 64 → x ≡ own + 1 → x + n < 2 ^ 64
    rest_from n x room is = sums n x (2 ^ 64) room is
      where
        sums : (n x l : ℕ) → own + (n + 1) < l → x ≡ own + 1 → x + n < l
        sums n x l room is = omega (arith, room, is)

    by : (below : List NodeMark) (join : Option GraphWay) (k : PlanTodo) → old ≡ below ++ lists_marks (list_then ns lists) → after ≡ option_map graph_way_told join → Room g (states_in ns + list_states lists) (groups_in ns + list_groups lists)
        → RoomFrom own (list_then ns lists)
        → Walked below new (list_placed (list_then ns lists) (states_at g) (groups_at g) own) (list_forked (list_then ns lists) (states_at g) (groups_at g) own) g h
        × (groups_told (one ∷ made) ≡ map forked_told (begun_groups (list_then ns lists) (states_at g) (groups_at g) parent join k))
    by below join k e is room from =
        let a = states_at g in
        let b = groups_at g in
        let a' = a + states_in ns in
        let b' = b + groups_in ns in
        let x = told_behind (list_mark (footprint_of ns)) (cut_entry (lists_entry lists)) in
        let taken = takes.so ((below ++ lists_marks lists) ++ marks_of ns) x
        (e ∙ (sym (append_assoc below (lists_marks lists) (marks_of ns ++ x ∷ [])) ∙ sym (append_assoc (below ++ lists_marks lists) (marks_of ns) (x ∷ [])))) in
        let room_b = front_room b (groups_in ns) (list_groups lists) (2 ^ 64) room.1 in
        let front = walks.so (below ++ lists_marks lists) to_end over taken.1 refl (front_room a (states_in ns) (list_states lists) (2 ^ 64) room.0, room_b) in
        let same_a = states_size (states ns a b own to_end over) (nodes_forked ns a b own to_end over) g p (states_in ns) front.grows (states_length ns a b own to_end over) in
        let same_b = groups_size (states ns a b own to_end over) (nodes_forked ns a b own to_end over) g p (groups_in ns) front.grows (groups_length ns a b own to_end over) in
        let whole_from : (lists_entry lists ≡ Nothing → ⊥) → own + (list_count lists + 1) < 2 ^ 64 = (λ some. from (some_or (nodes_entry ns) (lists_entry lists) some)) in
        let same_own : (lists_entry lists ≡ Nothing → ⊥) → own' ≡ own + 1 = (λ some. next_own (list_count lists) own' (whole_from some) own_is) in
        let back = more.so below None over front.marks refl (behind_room a (states_in ns) (list_states lists) (states_at p) (2 ^ 64) same_a room.0, behind_room b (groups_in ns) (list_groups lists) (groups_at p) (2 ^ 64) same_b room.1)
        (λ some. rest_from (list_count lists) own' (whole_from some) (same_own some)) in
        let back' = moved below new (λ x y. list_placed lists x y own') (λ x y. list_forked lists x y own') p h (states_at p) (groups_at p) a' b' same_a same_b back.0 in
        let any = any_own lists (lists_entry lists) a' b' own' (own + 1) refl same_own in
        let back'' : Walked below new (list_placed lists a' b' (own + 1)) (list_forked lists a' b' (own + 1)) p h =
        subst (λ ps. Walked below new ps (list_forked lists a' b' (own + 1)) p h) any.0 (subst (λ fs. Walked below new (list_placed lists a' b' own') fs p h) any.1 back') in
        let begins : d ≡ graph_way_told (way_in_nodes ns a b to_end) = d_is ∙ (ap (λ (y : NodeMark). told_entry y.own.entry a b told_rest) taken.0 ∙ sym (tells_in ns a b to_end room_b)) in
        let head : group_told one ≡ forked_told (forked (Some parent) (way_in_nodes ns a b to_end) join k) =
        one_is ∙ (ap (λ x. told_group (Some parent) x after) begins ∙ ap (λ x. told_group (Some parent) (graph_way_told (way_in_nodes ns a b to_end)) x) is) in
        let others : groups_told made ≡ map forked_told (begun_groups lists a' b' parent None over) =
        back.1 ∙ (ap (λ x. map forked_told (begun_groups lists x (groups_at p) parent None over)) same_a ∙ ap (λ y. map forked_told (begun_groups lists a' y parent None over)) same_b) in (
          record { marks = back''.marks; grows = two_grow (states ns a b own to_end over) (list_placed lists a' b' (own + 1)) (nodes_forked ns a b own to_end over) (list_forked lists a' b' (own + 1)) g p h front.grows back''.grows },
          ap (λ x. x ∷ groups_told made) head ∙ ap (λ x. forked_told (forked (Some parent) (way_in_nodes ns a b to_end) join k) ∷ x) others,
        )
