-- Every name in the indices of an access of a phase is a variable, or the iterator of a loop in which the phase
-- stands. The names of the body are in scope, by the loops in which each command stands. The loops of a block are
-- all the `for`s round its commands that have phases; a `for` without phases has no commands that a phase does. What
-- holds of commands holds of the phases that do them: joining and folding puts straight commands of the same loops
-- together and changes nothing else. And the indices of an access name nothing else than its command.
use Rattle.std.proofs.Common.{◌≡◌, inl, inr, ℕ, ◌+◌, ◌<◌, ◌≤◌, ◌==◌, ◌&&◌, ◌||◌, Bool, true, false, if◌then◌else◌, List, [], ◌∷◌, ◌++◌, length, map, Some, refl, ap, arith, length-append}
use Rattle.std.specs.Prelude.{slice_get}
use Rattle.dh_base.specs.declared.places.Place.{Place}
use Rattle.dh_tree.specs.LeastBreach.{is_before}
use Rattle.dh_tree.specs.PlainTrees.{shrinks, splits, suffixes, shifts, Action, action, ActionForm, lets, lets_memory, views, assigns, stores, reduces, calls, blocks, decides, repeats, counts, MaybeAction, no_action, one_action, Actions, no_actions, action_then, Groups, no_groups, group_then, Declared, Formal, Defined, Program}
use Rattle.dh_tree.specs.Ready.{IsReady}
use Rattle.dh_tree.specs.Resolved.{resolved_action}
use Rattle.dh_tree.specs.Scopes.{entity, bind, Scope, declare, formal_sort, after_formals, body_start, after_function, after_functions, Item, memory_items, function_items, merged, items_of, after_items, first_scope, body_scope, at_end}
use Rattle.dh_tree.specs.Scopes as scopes
use Rattle.dh_tree.specs.declared.trees.programs.Sort.TheVariants as sort
use Rattle.dh_meaning.specs.AccessNumbers.{term_accesses, accesses_of, part_accesses}
use Rattle.dh_meaning.specs.Bindings.{bindings_of, binding_in}
use Rattle.dh_meaning.specs.Core.{Turning}
use Rattle.dh_meaning.specs.CoreOf.{Known, known_of, action_form_of, turning_of}
use Rattle.dh_meaning.specs.OnePhase.{makes, any_makes, test_makes}
use Rattle.dh_meaning.specs.Phases.{Located, located, Phase, straight, turns, repeated, decided, Phases, no_phases, phase, of_list, one_straight, joined, are_straight, one_command, folded, turn_count, turn_phases, choice_phases, phases, form_phases, other_phases, groups_phases, parts_phases, phases_of, idle_phases_of}
use Rattle.dh_meaning.specs.Sites.{Around, in_arm, in_loop, loop_of}
use Rattle.dh_meets.specs.SourceEvents.{SourceAccess, accesses_in, trace}
use Rattle.dh_sound.specs.NamesInScope.{InScope, IsScoped, FormScoped, OtherScoped, GroupsScoped, PartScoped}
use Rattle.dh_sound.specs.PhaseFacts.{HasStraight, HasTest}
use Rattle.dh_sound.specs.SameKeys.{EachNameIn, IsNoIterator}
use Rattle.dh_sound.proofs.DepthsNamed.{size}
use Rattle.dh_sound.proofs.IteratorsNamed.{on_long, declared_on, goes_on}
use Rattle.dh_sound.proofs.KindsOfPrograms.{map_long}
use Rattle.dh_sound.proofs.LocatedSites.{located_at, test_first}
use Rattle.dh_sound.proofs.NamedPrograms.{ready_named}
use Rattle.dh_sound.proofs.NamesOfEvents.{made_names, tested_names}
use Rattle.dh_sound.proofs.NamesScoped.{AllPast, AreVisible, plain_in, bind_in, all_from, all_less, none_past, past_both, scoped, two_past}
use Rattle.dh_sound.proofs.Sited.{makes_within}
use Rattle.dh_sound.proofs.Slices.{straight_stands, test_stands, straight_either, test_either}
use Rattle.dh_carried.proofs.Pigeons.{Has}
use Rattle.dh_meaning.specs.Ways.{Hidden, Led, ViewSite, all_bindings_of, behind_hidden, hidden_binding, hidden_bindings, hidden_of, led_binding, standings, view_bindings, ways_of}

-- Phases.

module _ (known : Known) where
  -- the names of these commands are in scope
  abbrev pub EachScoped : (loops : List Turning) → List Located → Type 0
  EachScoped loops [] = Unit {0}
  EachScoped loops (c ∷ cs) = IsScoped known loops c.command × EachScoped loops cs

  each_scoped : (loops : List Turning) (cs ds : List Located) → EachScoped loops cs → EachScoped loops ds → EachScoped loops (cs ++ ds)
  each_scoped loops [] ds h g = g
  each_scoped loops (c ∷ cs) ds h g = (h.0, each_scoped loops cs ds h.1 g)

  -- and those of the commands of a phase, each in its loops
  abbrev mutual
    pub PhaseScoped : (loops : List Turning) → Phase → Type 0
    PhaseScoped loops (straight cs) = EachScoped loops cs
    PhaseScoped loops (turns loop count body) = PhasesScoped (loops ++ turning_of known count (action_form_of loop.command) ∷ []) body
    PhaseScoped loops (repeated loop body) = IsScoped known loops loop.command × PhasesScoped loops body
    PhaseScoped loops (decided choice chosen other) = IsScoped known loops choice.command × (PhasesScoped loops chosen × PhasesScoped loops other)

    pub PhasesScoped : (loops : List Turning) → Phases → Type 0
    PhasesScoped loops no_phases = Unit {0}
    PhasesScoped loops (phase p ps) = PhaseScoped loops p × PhasesScoped loops ps

  abbrev pub ListScoped : (loops : List Turning) → List Phase → Type 0
  ListScoped loops [] = Unit {0}
  ListScoped loops (p ∷ ps) = PhaseScoped loops p × ListScoped loops ps

  abbrev ListsScoped : (loops : List Turning) → List (List Phase) → Type 0
  ListsScoped loops [] = Unit {0}
  ListsScoped loops (ps ∷ parts) = ListScoped loops ps × ListsScoped loops parts

  listed_scoped : (loops : List Turning) (ps : List Phase) → ListScoped loops ps → PhasesScoped loops (of_list ps)
  listed_scoped loops [] h = tt
  listed_scoped loops (p ∷ ps) h = (h.0, listed_scoped loops ps h.1)

  both_scoped : (loops : List Turning) (ps qs : List Phase) → ListScoped loops ps → ListScoped loops qs → ListScoped loops (ps ++ qs)
  both_scoped loops [] qs h g = g
  both_scoped loops (p ∷ ps) qs h g = (h.0, both_scoped loops ps qs h.1 g)

  straight_scoped : (loops : List Turning) (cs : List Located) → EachScoped loops cs → ListScoped loops (one_straight cs)
  straight_scoped loops [] h = tt
  straight_scoped loops (c ∷ cs) h = (h, tt)

  joined_scoped : (loops : List Turning) (cs : List Located) (parts : List (List Phase)) → EachScoped loops cs → ListsScoped loops parts → ListScoped loops (joined cs parts)
  joined_scoped loops cs [] h g = straight_scoped loops cs h
  joined_scoped loops cs ([] ∷ parts) h g = joined_scoped loops cs parts h g.1
  joined_scoped loops cs ((straight ds ∷ []) ∷ parts) h g = joined_scoped loops (cs ++ ds) parts (each_scoped loops cs ds h g.0.0) g.1
  joined_scoped loops cs ((turns loop count body ∷ []) ∷ parts) h g =
      both_scoped loops (one_straight cs) (turns loop count body ∷ joined [] parts) (straight_scoped loops cs h) (g.0.0, joined_scoped loops [] parts tt g.1)
  joined_scoped loops cs ((repeated loop body ∷ []) ∷ parts) h g =
      both_scoped loops (one_straight cs) (repeated loop body ∷ joined [] parts) (straight_scoped loops cs h) (g.0.0, joined_scoped loops [] parts tt g.1)
  joined_scoped loops cs ((decided choice chosen other ∷ []) ∷ parts) h g =
      both_scoped loops (one_straight cs) (decided choice chosen other ∷ joined [] parts) (straight_scoped loops cs h) (g.0.0, joined_scoped loops [] parts tt g.1)
  joined_scoped loops cs ((p ∷ q ∷ ps) ∷ parts) h g =
      both_scoped loops (one_straight cs) ((p ∷ q ∷ ps) ++ joined [] parts) (straight_scoped loops cs h)
      (both_scoped loops (p ∷ q ∷ ps) (joined [] parts) g.0 (joined_scoped loops [] parts tt g.1))

  folded_scoped : (loops : List Turning) (body fold : List Phase) → ListScoped loops body → ListScoped loops fold → ListScoped loops (folded body fold)
  folded_scoped loops [] fold h g = g
  folded_scoped loops (straight cs ∷ []) fold h g = joined_scoped loops cs (fold ∷ []) h.0 (g, tt)
  folded_scoped loops (turns loop count body ∷ []) fold h g = (h.0, g)
  folded_scoped loops (repeated loop body ∷ []) fold h g = (h.0, g)
  folded_scoped loops (decided choice chosen other ∷ []) fold h g = (h.0, g)
  folded_scoped loops (p ∷ q ∷ ps) fold h g = (h.0, folded_scoped loops (q ∷ ps) fold h.1 g)

  turn_scoped : (loops : List Turning) (loop : Located) (count : ℕ) (turn : List Phase) → ListScoped (loops ++ turning_of known count (action_form_of loop.command) ∷ []) turn
      → ListScoped loops (turn_phases loop count turn)
  turn_scoped loops loop count [] h = tt
  turn_scoped loops loop count (p ∷ ps) h = by (count == 0)
    where
      by : (z : Bool) → ListScoped loops (if z then [] else turns loop count (of_list (p ∷ ps)) ∷ [])
      by true = tt
      by false = (listed_scoped (loops ++ turning_of known count (action_form_of loop.command) ∷ []) (p ∷ ps) h, tt)

  choice_scoped : (loops : List Turning) (choice : Located) (chosen other : List Phase) → IsScoped known loops choice.command → ListScoped loops chosen → ListScoped loops other
      → ListScoped loops (choice_phases choice chosen other)
  choice_scoped loops choice chosen other e h g = by (are_straight chosen && are_straight other)
    where
      by : (z : Bool) → ListScoped loops (if z then one_command choice else decided choice (of_list chosen) (of_list other) ∷ [])
      by true = ((e, tt), tt)
      by false = ((e, (listed_scoped loops chosen h, listed_scoped loops other g)), tt)

  -- the phases of a command
  mutual
    pub action_scoped : (r : Around) (loops : List Turning) (n : ℕ) (a : Action) → IsScoped known loops a → ListScoped loops (phases r n a)
    action_scoped r loops n (action id place form) e = phases_scoped r loops n id place form e

    phases_scoped : (r : Around) (loops : List Turning) (n id : ℕ) (place : Place) (f : ActionForm) → FormScoped known loops f → ListScoped loops (form_phases r n id place f)
    phases_scoped r loops n id place (lets name declared value) e = ((e, tt), tt)
    phases_scoped r loops n id place (assigns target value) e = ((e, tt), tt)
    phases_scoped r loops n id place (stores target value) e = ((e, tt), tt)
    phases_scoped r loops n id place (reduces target op value) e = ((e, tt), tt)
    phases_scoped r loops n id place (decides test chosen other) e =
        choice_scoped loops (located r n (action id place (decides test chosen other))) _ _ e
        (action_scoped (in_arm r id true) loops (n + term_accesses test) chosen e.1.0)
        (maybe_scoped (in_arm r id false) loops (n + term_accesses test + accesses_of chosen) other e.1.1)
    phases_scoped r loops n id place (repeats test body) e = ((e, listed_scoped loops _ (action_scoped r loops (n + term_accesses test) body e.1)), tt)
    phases_scoped r loops n id place (counts iterator declared low high factor body combine combine_place) e =
        let inside : List Turning = loops ++ turning_of known (turn_count low.value high.value factor.value) (counts iterator declared low high factor body combine combine_place) ∷ [] in
        turn_scoped loops (located r n (action id place (counts iterator declared low high factor body combine combine_place))) (turn_count low.value high.value factor.value) _
        (folded_scoped inside _ _ (action_scoped (in_loop r (loop_of iterator low high factor)) inside n body e.0)
        (maybe_scoped (in_loop r (loop_of iterator low high factor)) inside (n + accesses_of body) combine e.1))
    phases_scoped r loops n id place (blocks body) e = groups_scoped r loops n body e
    phases_scoped r loops n id place (lets_memory name shape shape_places value) e = tt
    phases_scoped r loops n id place (views name parent (shrinks by by_place)) e = tt
    phases_scoped r loops n id place (views name parent (splits by by_place)) e = tt
    phases_scoped r loops n id place (views name parent (suffixes by by_place)) e = ((e, tt), tt)
    phases_scoped r loops n id place (views name parent (shifts by)) e = ((e, tt), tt)
    phases_scoped r loops n id place (calls function arguments) e = tt

    maybe_scoped : (r : Around) (loops : List Turning) (n : ℕ) (o : MaybeAction) → OtherScoped known loops o → ListScoped loops (other_phases r n o)
    maybe_scoped r loops n no_action e = tt
    maybe_scoped r loops n (one_action a) e = action_scoped r loops n a e

    groups_scoped : (r : Around) (loops : List Turning) (n : ℕ) (gs : Groups) → GroupsScoped known loops gs → ListScoped loops (groups_phases r n gs)
    groups_scoped r loops n no_groups e = tt
    groups_scoped r loops n (group_then part rest) e =
        both_scoped loops (joined [] (parts_phases r n part)) (groups_phases r (n + part_accesses part) rest)
        (joined_scoped loops [] (parts_phases r n part) tt (parts_scoped r loops n part e.0)) (groups_scoped r loops (n + part_accesses part) rest e.1)

    parts_scoped : (r : Around) (loops : List Turning) (n : ℕ) (q : Actions) → PartScoped known loops q → ListsScoped loops (parts_phases r n q)
    parts_scoped r loops n no_actions e = tt
    parts_scoped r loops n (action_then a rest) e = (action_scoped r loops n a e.0, parts_scoped r loops (n + accesses_of a) rest e.1)

-- Where the body begins.

abbrev pub ItemsBelow : ℕ → List Item → Type 0
ItemsBelow k [] = Unit {0}
ItemsBelow k (i ∷ is) = (i.entity < k) × ItemsBelow k is

merged_below : (k : ℕ) (ms fs : List Item) → ItemsBelow k ms → ItemsBelow k fs → ItemsBelow k (merged ms fs)
merged_below k [] fs h i = i
merged_below k (m ∷ ms) [] h i = h
merged_below k (m ∷ ms) (f ∷ fs) h i = by (is_before f.name.place m.name.place) (merged_below k (m ∷ ms) fs h i.1) (merged_below k ms (f ∷ fs) h.1 i)
  where
    by : (b : Bool) → ItemsBelow k (merged (m ∷ ms) fs) → ItemsBelow k (merged ms (f ∷ fs)) → ItemsBelow k (if b then f ∷ merged (m ∷ ms) fs else m ∷ merged ms (f ∷ fs))
    by true g j = (i.0, g)
    by false g j = (h.0, j)

memories_below : (k n : ℕ) (ds : List Declared) → n + length ds ≤ k → ItemsBelow k (memory_items n ds)
memories_below k n [] l = tt
memories_below k n (d ∷ ds) l = (omega (arith, l), memories_below k (n + 1) ds (omega (arith, l)))

functions_below : (k n : ℕ) (fs : List Defined) → n + length fs ≤ k → ItemsBelow k (function_items n fs)
functions_below k n [] l = tt
functions_below k n (f ∷ fs) l = (omega (arith, l), functions_below k (n + 1) fs (omega (arith, l)))

-- entities are added behind
formals_long : (s : Scope) (fs : List Formal) → size s ≤ size (after_formals s fs)
formals_long s [] = omega arith
formals_long s (f ∷ fs) =
    let first = on_long _ _ (declared_on s f.name (formal_sort f.shape)) in
    let rest = formals_long (declare s f.name (formal_sort f.shape)) fs in
    omega (arith, first, rest)

functions_long : (n : ℕ) (s : Scope) (fs : List Defined) → size s ≤ size (after_functions n s fs)
functions_long n s [] = omega arith
functions_long n s (f ∷ fs) =
    let first = formals_long s f.parameters in
    let inside = on_long _ _ (goes_on f.body (body_start s f)) in
    let rest = functions_long (n + 1) (after_function n s f) fs in
    omega (arith, first, inside, rest)

pub body_long : (p : Program) → length p.decls + length p.functions ≤ size (body_scope p)
body_long p =
    let both = length-append (map (λ (d : Declared). entity d.name sort.Memory) p.decls) (map (λ (f : Defined). entity f.name sort.Function) p.functions) in
    let first = map_long (λ (d : Declared). entity d.name sort.Memory) p.decls in
    let second = map_long (λ (f : Defined). entity f.name sort.Function) p.functions in
    let rest = functions_long (length p.decls) (first_scope p) p.functions in
    omega (arith, both, first, second, rest)

pub items_below : (p : Program) → ItemsBelow (size (body_scope p)) (items_of p)
items_below p =
    let l = body_long p in
    merged_below (size (body_scope p)) (memory_items 0 p.decls) (function_items (length p.decls) p.functions)
    (memories_below (size (body_scope p)) 0 p.decls (omega (arith, l))) (functions_below (size (body_scope p)) (length p.decls) p.functions l)

items_visible : (known : Known) (k : ℕ) (bs : List scopes.ScopeEntry) (items : List Item) → ((n : ℕ) → n < k → IsNoIterator (binding_in known.bindings n)) → ItemsBelow k items → AreVisible known [] bs
    → AreVisible known [] (after_items bs items)
items_visible known k bs [] out h v = v
items_visible known k bs (i ∷ is) out h v =
    items_visible known k (bind bs i.name.name i.entity) is out h.1 (bind_in known [] bs i.name.name i.entity v (plain_in known [] i.entity (binding_in known.bindings i.entity) refl (out i.entity h.0)))

-- Views and what they keep iterate nothing.

led_past : (k : ℕ) (ls : List Led) → AllPast k (map led_binding ls)
led_past k [] = tt
led_past k (l ∷ ls) = (inr refl, led_past k ls)

hidden_past : (k : ℕ) (hs : List Hidden) → AllPast k (map hidden_binding hs)
hidden_past k [] = tt
hidden_past k (h ∷ hs) = (inr refl, hidden_past k hs)

all_past : (k first : ℕ) (ss : List ViewSite) → AllPast k (hidden_bindings first ss)
all_past k first [] = tt
all_past k first (s ∷ ss) = past_both k (map hidden_binding (hidden_of first s)) (hidden_bindings (behind_hidden first s) ss) (hidden_past k (hidden_of first s)) (all_past k (behind_hidden first s) ss)

views_past : (k : ℕ) (p : Program) → AllPast k (view_bindings p)
views_past k p = past_both k (map led_binding (ways_of p)) (hidden_bindings (length p.entities) (standings 0 p.body)) (led_past k (ways_of p)) (all_past k (length p.entities) (standings 0 p.body))

module _ (p : Program) (r : IsReady p) where
  same_body : resolved_action (body_scope p) p.body ≡ p.body
  same_body = ap (λ (x : Program). x.body) r.entities

  -- what is visible there is no variable of the body, and no iterator
  none_outside : (n : ℕ) → n < size (body_scope p) → IsNoIterator (binding_in (all_bindings_of p) n)
  none_outside n l =
      none_past n (all_bindings_of p)
      (two_past (n + 1) (n + 1) (bindings_of p) (view_bindings p) (omega arith)
      (all_less (n + 1) (size (body_scope p)) (bindings_of p) (omega (arith, l)) (all_from p.body (body_scope p) 0 same_body)) (views_past (n + 1) p))

  begins : AreVisible (known_of p) [] (body_scope p).visible
  begins = items_visible (known_of p) (size (body_scope p)) [] (items_of p) none_outside (items_below p) (λ name n e. absurd cc)

  -- the names of the body are in scope
  pub body_scoped : IsScoped (known_of p) [] p.body
  body_scoped =
      (scoped (known_of p) p.body (body_scope p) 0 [] [] (view_bindings p) same_body (ready_named p r) refl tt (views_past (size (at_end (body_scope p) p.body)) p) begins).0

  -- Accesses.
  module _ (loops : List Turning) (k : ℕ) (a : SourceAccess) (is : slice_get (accesses_in (trace p)) k ≡ Some a) where
    -- an access of one of straight commands
    pub any_named : (cs all : List Located) → HasStraight (phases_of p) all → ((c : Located) → Has c cs → Has c all) → EachScoped (known_of p) loops cs → any_makes k cs ≡ true
        → EachNameIn (InScope (known_of p) loops) a.element
    any_named [] all h more n m = absurd cc
    any_named (c ∷ cs) all h more n m = by (makes k c.first c.command) refl m (any_named cs all h (λ d g. more d (inr g)) n.1)
      where
        by : (b : Bool) → makes k c.first c.command ≡ b → (b || any_makes k cs) ≡ true → (any_makes k cs ≡ true → EachNameIn (InScope (known_of p) loops) a.element) → EachNameIn (InScope (known_of p) loops) a.element
        by true e g rest =
            made_names k a (known_of p) loops c.around c.first c.command n.0 e
            (located_at k a (trace p) c (straight_stands p all c (straight_either (phases_of p) (idle_phases_of p) all (inl h)) (more c (inl refl))) (makes_within k c.first c.command e) is)
        by false e g rest = rest g

    -- an access of a test
    pub test_named : (c : Located) → HasTest (phases_of p) c → IsScoped (known_of p) loops c.command → test_makes k c ≡ true → EachNameIn (InScope (known_of p) loops) a.element
    test_named c h n m =
        tested_names k a (known_of p) loops c.around c.first c.command n m
        (located_at k a (trace p) c (test_stands p c (test_either (phases_of p) (idle_phases_of p) c (inl h))) (test_first k a c.first c.command m) is)

-- the accesses of straight commands name only what is in scope in these loops
abbrev pub StraightNames : (p : Program) → (loops : List Turning) → List Located → Type 0
StraightNames p loops done = (k : ℕ) (a : SourceAccess) → any_makes k done ≡ true → slice_get (accesses_in (trace p)) k ≡ Some a → EachNameIn (InScope (known_of p) loops) a.element

-- and so do those of a test
abbrev pub TestNames : (p : Program) → (loops : List Turning) → Located → Type 0
TestNames p loops tested = (k : ℕ) (a : SourceAccess) → test_makes k tested ≡ true → slice_get (accesses_in (trace p)) k ≡ Some a → EachNameIn (InScope (known_of p) loops) a.element
