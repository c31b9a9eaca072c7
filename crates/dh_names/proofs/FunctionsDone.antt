-- Walks over the parameters of a function, over a function and over the functions of a program.
use Rattle.std.proofs.Common.{◌≡◌, ℕ, ◌+◌, ◌≤◌, ◌^◌, List, [], ◌∷◌, ◌++◌, length, map, Vec, refl, sym, ap, subst, ◌∙◌, arith}
use Rattle.std.proofs.lemmas.List.{append-nil}
use Rattle.std.specs.Global.{Global}
use Rattle.std.specs.Vec.{with_items}
use Rattle.dh_tree.specs.declared.trees.expressions.Ref.{Ref}
use Rattle.dh_tree.specs.declared.trees.programs.Sort.{Sort}
use Rattle.dh_tree.specs.declared.trees.programs.Parameter.{Parameter}
use Rattle.dh_tree.specs.declared.trees.programs.Function.{Function}
use Rattle.dh_tree.specs.PlainTrees.{Action, Formal, Defined}
use Rattle.dh_tree.specs.Seen.{formal_seen, defined_seen}
use Rattle.dh_tree.specs.LeastBreach.{least_of}
use Rattle.dh_tree.specs.Scopes.{ScopeEntry, bind, Scope, declare, at_end, formal_sort, after_formals, body_start, after_function, after_functions}
use Rattle.dh_tree.specs.Breaches.{twice, breaches, formals_breaches, function_breaches, functions_breaches}
use Rattle.dh_tree.specs.Resolved.{declares, numbered, resolved_action, resolved_formals, resolved_function, resolved_functions}
use Rattle.dh_tree.specs.NameCounts.{declared_in, declared_in_functions}
use Rattle.dh_names.specs.Walks.{NamingState, walked, HasRoomToDeclare, Resolves}
use Rattle.dh_names.specs.Programs.{IsOutside, between, ResolvesFormals, ResolvesFunction, ResolvesFunctions}
use Rattle.dh_base.proofs.InPlace.{Unvisited, run, made, sum, Fits, FitsSoFar, finish, written}
use Rattle.dh_tree.proofs.Leasts.{least_append}
use Rattle.dh_names.proofs.Extended.{Further, same, onward, declare_further, counted, declare_counted}
use Rattle.dh_names.proofs.FormsDone.{next_step, room_at, first_room, next_room}
use Rattle.dh_names.proofs.ListsDone.{entity_count}

abbrev pub formal_step : NamingState → Formal → NamingState
formal_step s x = walked s (twice s.scope.visible x.name) (declare s.scope x.name (formal_sort x.shape))

abbrev pub formal_made : NamingState → Formal → Formal
formal_made s x = record { name = declares s.scope x.name; shape = x.shape; shape_places = x.shape_places; kind = x.kind }

abbrev pub one_name : Formal → ℕ
one_name x = 1

pub formal_grows : (s : NamingState) (x : Formal) → entity_count (formal_step s x) ≡ entity_count s + one_name x
formal_grows s x = declare_counted s.scope x.name (formal_sort x.shape)

formals_made : (s : NamingState) (list : List Formal) → made formal_seen formal_step formal_made s list ≡ resolved_formals s.scope list
formals_made s [] = refl
formals_made s (x ∷ rest) = ap (λ l. formal_made s x ∷ l) (formals_made (formal_step s x) rest)

formals_run : (s : NamingState) (list : List Formal) → run formal_seen formal_step formal_made s list ≡ walked s (formals_breaches s.scope list) (after_formals s.scope list)
formals_run s [] = refl
formals_run s (x ∷ rest) =
    next_step s (formal_step s x) (run formal_seen formal_step formal_made (formal_step s x) rest) (twice s.scope.visible x.name) (declare s.scope x.name (formal_sort x.shape))
    (λ y. formals_breaches y.scope rest) (λ y. after_formals y.scope rest) refl (formals_run (formal_step s x) rest)

formals_sum : (list : List Formal) → sum formal_seen formal_step formal_made entity_count one_name formal_grows (2 ^ 32) list ≡ length list
formals_sum [] = refl
formals_sum (x ∷ rest) = let e = formals_sum rest in omega (arith, e)

pub length_map : {A B : Type 0} (f : A → B) (l : List A) → length (map f l) ≡ length l
length_map f [] = refl
length_map f (x ∷ l) = let e = length_map f l in omega (arith, e)

-- one turn: the parameter as it stands in the list, and as it was taken
pub formal_turn : (s s' : NamingState) (x y : Parameter) (name' : Ref) (sort : Sort) → x ≡ y → sort ≡ formal_sort y.shape → (HasRoomToDeclare s 1 → name' ≡ declares s.scope y.name) → (HasRoomToDeclare s 1 → s' ≡ walked s (twice s.scope.visible y.name) (declare s.scope y.name sort)) → HasRoomToDeclare s 1
    → (formal_seen (record { name = name'; shape = y.shape; shape_places = y.shape_places; kind = y.kind }) ≡ formal_made s (formal_seen x)) × (s' ≡ formal_step s (formal_seen x))
formal_turn s s' x y name' sort is sort_is tree state room = (
  ap (λ n. record { name = n; shape = y.shape; shape_places = y.shape_places; kind = y.kind }) (tree room) ∙ ap (λ z. formal_made s (formal_seen z)) (sym is),
  state room ∙ ap (λ k. walked s (twice s.scope.visible y.name) (declare s.scope y.name k)) sort_is ∙ ap (λ z. formal_step s (formal_seen z)) (sym is),
)

pub formals_done : (s s' : NamingState) (v : Vec Parameter Global) (before now : List Parameter) (index : ℕ) → before ≡ v.items → length before ≡ v.len → length before ≤ index → Unvisited before now index
    → (Fits formal_seen formal_step formal_made entity_count one_name formal_grows (2 ^ 32) s (map formal_seen before) → FitsSoFar formal_seen formal_step formal_made entity_count one_name formal_grows (2 ^ 32) before now index s s')
    → HasRoomToDeclare s (length v.items) → ResolvesFormals s s' (map formal_seen v.items) (map formal_seen (with_items v now).items)
formals_done s s' v before now index is long past u so room =
    let f = subst (λ n. entity_count s + n ≤ 2 ^ 32) (sym (formals_sum (map formal_seen before) ∙ length_map formal_seen before ∙ ap (λ l. length l) is)) room in
    let end = finish formal_seen formal_step formal_made before now index s s' (omega (arith, past, u.0)) u (so f).so in
    record {
      tree = ap (λ l. map formal_seen l) (written v.items now v.len (u.0 ∙ ap (λ l. length l) is) (sym (ap (λ l. length l) is) ∙ long))
          ∙ end.0
          ∙ formals_made s (map formal_seen before)
          ∙ ap (λ l. resolved_formals s.scope (map formal_seen l)) is;
      state = end.1 ∙ formals_run s (map formal_seen before) ∙ ap (λ l. walked s (formals_breaches s.scope (map formal_seen l)) (after_formals s.scope (map formal_seen l))) is;
    }

formals_counted : (s : Scope) (fs : List Formal) → length (after_formals s fs).entities ≡ length s.entities + length fs
formals_counted s [] = omega arith
formals_counted s (f ∷ fs) =
    let e = formals_counted (declare s f.name (formal_sort f.shape)) fs in
    let d = declare_counted s f.name (formal_sort f.shape) in omega (arith, e, d)

formals_further : (s : Scope) (fs : List Formal) → Further s.visible (after_formals s fs).visible
formals_further s [] = same s.visible
formals_further s (f ∷ fs) =
    let d = declare s f.name (formal_sort f.shape) in
    onward s.visible d.visible (after_formals d fs).visible (declare_further s f.name (formal_sort f.shape)) (formals_further d fs)

pub function_counted : (n : ℕ) (s : Scope) (f : Defined) → length (after_function n s f).entities ≡ length s.entities + (length f.parameters + declared_in f.body)
function_counted n s f =
    let e = counted (body_start s f) f.body in
    let d = formals_counted s f.parameters in omega (arith, e, d)

-- the state where only these names are visible, from outside
abbrev settled : List ScopeEntry → NamingState → NamingState
settled o s = record { outer = o; scope = record { visible = o; entities = s.scope.entities }; least = s.least }

abbrev numbered_state : ℕ → NamingState → ℕ × NamingState
numbered_state n s = (n, s)

abbrev state_in : ℕ × NamingState → NamingState
state_in p = p.1

-- one function
pub function_done : (n : ℕ) (s0 s1 s2 : NamingState) (f : Defined) (ps' : List Formal) (b' : Action) (outer' own' : List ScopeEntry) → IsOutside s0 → HasRoomToDeclare s0 (length f.parameters + declared_in f.body)
    → (HasRoomToDeclare s0 (length f.parameters) → ResolvesFormals s0 s1 f.parameters ps') → (HasRoomToDeclare s1 (declared_in f.body) → Resolves s1 s2 f.body b') → own' ≡ [] → outer' ≡ bind s2.outer f.name.name n
    → ResolvesFunction n s0 (record { outer = outer'; scope = record { visible = outer' ++ own'; entities = s2.scope.entities }; least = s2.least }) f (record { place = f.place; name = numbered n f.name; parameters = ps'; body = b' })
function_done n s0 s1 s2 f ps' b' outer' own' outside room formals command own_is outer_is =
    let one = formals (first_room (length s0.scope.entities) (length f.parameters) (declared_in f.body) room) in
    let start = body_start s0.scope f in
    let two = command (room_at s0 s1 (formals_breaches s0.scope f.parameters) start (declared_in f.body) one.state
    (next_room (length s0.scope.entities) (length start.entities) (length f.parameters) (declared_in f.body) (formals_counted s0.scope f.parameters) room)) in
    let all : s2 ≡ walked s0 (function_breaches s0.scope f) (at_end start f.body) =
    next_step s0 s1 s2 (formals_breaches s0.scope f.parameters) start (λ s. breaches s.scope f.body) (λ s. at_end s.scope f.body) one.state two.state in
    record {
      tree = ap (λ l. record { place = f.place; name = numbered n f.name; parameters = l; body = b' }) one.tree
          ∙ ap (λ a. record { place = f.place; name = numbered n f.name; parameters = resolved_formals s0.scope f.parameters; body = a }) (two.tree ∙ ap (λ s. resolved_action s.scope f.body) one.state);
      state = ap (λ l. record { outer = outer'; scope = record { visible = outer' ++ l; entities = s2.scope.entities }; least = s2.least }) own_is
          ∙ ap (λ l. record { outer = outer'; scope = record { visible = l; entities = s2.scope.entities }; least = s2.least }) (append-nil outer')
          ∙ ap (λ o. settled o s2) (outer_is ∙ ap (λ s. bind s.outer f.name.name n) all ∙ ap (λ v. bind v f.name.name n) (sym outside))
          ∙ ap (λ s. settled (bind s0.scope.visible f.name.name n) s) all;
    }

-- functions in order: the number of the next one, and the state before it
abbrev pub function_step : ℕ × NamingState → Defined → ℕ × NamingState
function_step p f = (p.0 + 1, between p.1 (after_function p.0 p.1.scope f) (least_of p.1.least (function_breaches p.1.scope f)))

abbrev pub function_made : ℕ × NamingState → Defined → Defined
function_made p f = resolved_function p.0 p.1.scope f

abbrev pub state_size : ℕ × NamingState → ℕ
state_size p = entity_count p.1

abbrev pub function_cost : Defined → ℕ
function_cost f = length f.parameters + declared_in f.body

pub function_grows : (p : ℕ × NamingState) (f : Defined) → state_size (function_step p f) ≡ state_size p + function_cost f
function_grows p f = function_counted p.0 p.1.scope f

functions_made : (p : ℕ × NamingState) (list : List Defined) → made defined_seen function_step function_made p list ≡ resolved_functions p.0 p.1.scope list
functions_made p [] = refl
functions_made p (f ∷ rest) = ap (λ l. resolved_function p.0 p.1.scope f ∷ l) (functions_made (function_step p f) rest)

functions_run : (p : ℕ × NamingState) (list : List Defined) → IsOutside p.1
    → (run defined_seen function_step function_made p list).1 ≡ between p.1 (after_functions p.0 p.1.scope list) (least_of p.1.least (functions_breaches p.0 p.1.scope list))
functions_run p [] outside = ap (λ o. record { outer = o; scope = p.1.scope; least = p.1.least }) (sym outside)
functions_run p (f ∷ rest) outside =
    functions_run (function_step p f) rest refl
    ∙ ap (λ l. between p.1 (after_functions (p.0 + 1) (after_function p.0 p.1.scope f) rest) l) (sym (least_append p.1.least (function_breaches p.1.scope f) (functions_breaches (p.0 + 1) (after_function p.0 p.1.scope f) rest)))

functions_sum : (list : List Defined) → sum defined_seen function_step function_made state_size function_cost function_grows (2 ^ 32) list ≡ declared_in_functions list
functions_sum [] = refl
functions_sum (f ∷ rest) = ap (λ n. function_cost f + n) (functions_sum rest)

pub functions_start : (p : ℕ × NamingState) (list : List Function) → HasRoomToDeclare p.1 (declared_in_functions (map defined_seen list)) → Fits defined_seen function_step function_made state_size function_cost function_grows (2 ^ 32) p (map defined_seen list)
functions_start p list room = subst (λ n. state_size p + n ≤ 2 ^ 32) (sym (functions_sum (map defined_seen list))) room

pub function_turn : (n : ℕ) (s s' : NamingState) (x y : Function) (b : Defined) → x ≡ y → ResolvesFunction n s s' (defined_seen y) b
    → (b ≡ function_made (n, s) (defined_seen x)) × ((n + 1, s') ≡ function_step (n, s) (defined_seen x))
function_turn n s s' x y b is done = (
  done.tree ∙ ap (λ z. resolved_function n s.scope (defined_seen z)) (sym is),
  ap (λ t. numbered_state (n + 1) t) (done.state ∙ ap (λ z. between s (after_function n s.scope (defined_seen z)) (least_of s.least (function_breaches s.scope (defined_seen z)))) (sym is)),
)

pub functions_done : (n n' : ℕ) (s s' : NamingState) (v : Vec Function Global) (before now : List Function) (index : ℕ) → before ≡ v.items → length before ≡ v.len → length before ≤ index → Unvisited before now index → IsOutside s
    → FitsSoFar defined_seen function_step function_made state_size function_cost function_grows (2 ^ 32) before now index (n, s) (n', s')
    → ResolvesFunctions n s s' (map defined_seen v.items) (map defined_seen (with_items v now).items)
functions_done n n' s s' v before now index is long past u outside so =
    let end = finish defined_seen function_step function_made before now index (n, s) (n', s') (omega (arith, past, u.0)) u so.so in
    record {
      tree = ap (λ l. map defined_seen l) (written v.items now v.len (u.0 ∙ ap (λ l. length l) is) (sym (ap (λ l. length l) is) ∙ long))
          ∙ end.0
          ∙ functions_made (n, s) (map defined_seen before)
          ∙ ap (λ l. resolved_functions n s.scope (map defined_seen l)) is;
      state = ap (λ p. state_in p) end.1 ∙ functions_run (n, s) (map defined_seen before) outside
          ∙ ap (λ l. between s (after_functions n s.scope (map defined_seen l)) (least_of s.least (functions_breaches n s.scope (map defined_seen l)))) is;
    }
