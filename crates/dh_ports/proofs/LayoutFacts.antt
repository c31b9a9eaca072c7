-- What is known of the loops and variables of a program, from what was noted of its body.
use Rattle.std.proofs.Common.{◌≡◌, ℕ, zero, suc, List, [], ◌∷◌, ◌++◌, length, map, refl, ap, sym, ◌∙◌, subst, arith}
use mathlib.Core.Path.{fun_ext}
use Rattle.std.specs.Prelude.{Option, Vec}
use Rattle.std.specs.Global.{Global}
use Rattle.std.specs.List.{AllByRecursion}
use Rattle.std.proofs.lemmas.List.{map-append}
use Rattle.dh_tree.specs.declared.trees.counters.Counter.{Counter}
use Rattle.dh_tree.specs.Counters.{counters_of, AreSingle}
use Rattle.dh_tree.specs.Memories.{Memory}
use Rattle.dh_tree.specs.PlainTrees.{Action, Program}
use Rattle.dh_meaning.specs.Bindings.{Binding, bindings}
use Rattle.dh_meaning.specs.Ways as definitions
use Rattle.dh_meaning.specs.Ways.{ViewSite, all_bindings_of, behind_hidden, hidden_binding, hidden_bindings, hidden_of, led_binding, standings, view_bindings, ways_of}
use Rattle.dh_ways.specs.declared.ways.Hidden.{Hidden}
use Rattle.dh_ways.specs.Kept.{KeptLed}
use Rattle.dh_ways.specs.HiddenVariables.{all_hidden}
use Rattle.dh_ways.specs.Leading.{LeadsTo}
use Rattle.dh_ways.specs.Seen.{hidden_seen, led_seen}
use Rattle.dh_ways.specs.Stands.{hidden_of_program}
use Rattle.dh_ways.proofs.StandsFound.{hidden_are}
use Rattle.dh_events.specs.declared.dependence.Scope.{Scope}
use Rattle.dh_ports.specs.Carriers.{Follow}
use Rattle.dh_ports.specs.Layouts.{no_rounds, AreRoundsOf, AreScopesNoted}
use Rattle.dh_events.specs.Rounds.{rounds_in, rounds_of, AreRounds}
use Rattle.dh_events.specs.Scopes.{scope_at, scopes_in, AreScopes}
use Rattle.dh_events.specs.Stages.{stages_in}
use Rattle.dh_events.specs.Tables.{table_at}
use Rattle.dh_ports.proofs.SingleRounds.{single_rounds}

absurd : {A : Type 0} → ⊥ → A
absurd e = elim e [ ]

no_round : (id : ℕ) → rounds_of [] id ≡ []
no_round zero = refl
no_round (suc id) = refl

-- loops that were noted from nothing on
pub rounds_noted : (p : Program) (body : Action) → body ≡ p.body → (old new : Vec (Vec Counter Global) Global) → old.items ≡ [] → AreRounds old new (rounds_in [] body) → AreRoundsOf p new.items
rounds_noted p body same old new empty noted =
    noted
    ∙ (ap (λ (l : List (Vec Counter Global)). rounds_in [] body (rounds_of l)) empty
    ∙ (ap (λ (f : ℕ → List Counter). rounds_in [] body f) (fun_ext no_round)
    ∙ ap (λ (a : Action). rounds_in [] a no_rounds) same))

-- where each loop has one copy nothing is noted
pub rounds_none : (p : Program) (rounds : List (Vec Counter Global)) → rounds ≡ [] → AreSingle (counters_of p) → AreRoundsOf p rounds
rounds_none p rounds empty single =
    ap (λ (l : List (Vec Counter Global)). rounds_of l) empty ∙ (fun_ext no_round ∙ sym (single_rounds [] p.body no_rounds single))

-- phases that were counted from nothing on
pub stages_noted : (p : Program) (body : Action) → body ≡ p.body → (old new : List ℕ) → old ≡ [] → table_at new ≡ stages_in body (table_at old) → table_at new ≡ stages_in p.body (table_at [])
stages_noted p body same old new empty noted = noted ∙ (ap (λ (l : List ℕ). stages_in body (table_at l)) empty ∙ ap (λ (a : Action). stages_in a (table_at [])) same)

-- variables that were noted from nothing on
pub scopes_noted : (p : Program) (body : Action) → body ≡ p.body → (old new : List (Option Scope)) → old ≡ [] → scope_at new ≡ scopes_in 0 body (scope_at old) → scope_at new ≡ scopes_in 0 p.body (scope_at [])
scopes_noted p body same old new empty noted = noted ∙ (ap (λ (l : List (Option Scope)). scopes_in 0 body (scope_at l)) empty ∙ ap (λ (a : Action). scopes_in 0 a (scope_at [])) same)

-- variables of a body that is the program's
pub scopes_told : (p : Program) (body : Action) → body ≡ p.body → (behind : List Binding) → behind ≡ view_bindings p → (scopes : List (Option Scope)) → AreScopes (bindings 0 body ++ behind) scopes → AreScopes (all_bindings_of p) scopes
scopes_told p body same behind is scopes h = subst (λ (bs : List Binding). AreScopes (bindings 0 p.body ++ bs) scopes) is (subst (λ (a : Action). AreScopes (bindings 0 a ++ behind) scopes) same h)

-- where no loop is known, none stands round anything
pub no_loops : (rounds : List (Vec Counter Global)) → length rounds ≡ 0 → (id : ℕ) → rounds_of rounds id ≡ []
no_loops [] e id = no_round id
no_loops (r ∷ rounds) e id = absurd (some (length rounds) e)
  where
    some : (n : ℕ) → suc n ≡ 0 → ⊥
    some n e = omega (arith, e)

pub no_scopes_noted : (p : Program) (rounds : List (Vec Counter Global)) (scopes : List (Option Scope)) → rounds ≡ [] → AreScopesNoted p rounds scopes
no_scopes_noted p rounds scopes e id h = absurd (h (no_loops rounds (ap (λ (l : List (Vec Counter Global)). length l) e) id))

pub no_scopes : (p : Program) (rounds : List (Vec Counter Global)) (scopes : List (Option Scope)) → length rounds ≡ 0 → (id : ℕ) → (rounds_of rounds id ≡ [] → ⊥) → AreScopes (all_bindings_of p) scopes
no_scopes p rounds scopes e id h = absurd (h (no_loops rounds e id))

-- Views.

hidden_told : (first : ℕ) (ss : List ViewSite) → map hidden_binding (all_hidden first ss) ≡ hidden_bindings first ss
hidden_told first [] = refl
hidden_told first (s ∷ ss) = map-append hidden_binding (hidden_of first s) (all_hidden (behind_hidden first s) ss) ∙ ap (λ l. map hidden_binding (hidden_of first s) ++ l) (hidden_told (behind_hidden first s) ss)

-- the variables of views that code finds are those of the program
pub bindings_found : (p : Program) (led : List KeptLed) (hidden shown : List Hidden) → map led_seen led ≡ ways_of p → hidden ≡ hidden_of_program p → shown ≡ hidden → map led_binding (map led_seen led) ++ map hidden_binding (map hidden_seen shown) ≡ view_bindings p
bindings_found p led hidden shown e f g =
    ap (λ ls. map led_binding ls ++ map hidden_binding (map hidden_seen shown)) e
    ∙ (ap (λ hs. map led_binding (ways_of p) ++ map hidden_binding (map hidden_seen hs)) (g ∙ f)
    ∙ (ap (λ hs. map led_binding (ways_of p) ++ map hidden_binding hs) (hidden_are p) ∙ ap (λ bs. map led_binding (ways_of p) ++ bs) (hidden_told (length p.entities) (standings 0 p.body))))

-- ways that lead to memories are followed
pub follow_all : (ms : List Memory) (led : List KeptLed) (ws : List definitions.Led) → map led_seen led ≡ ws → AllByRecursion (λ l. LeadsTo ms l.way) ws → AllByRecursion (λ l. Follow l.way) led
follow_all ms led ws e h = all led (subst (λ (ls : List definitions.Led). AllByRecursion (λ l. LeadsTo ms l.way) ls) (sym e) h)
  where
    all : (ls : List KeptLed) → AllByRecursion (λ l. LeadsTo ms l.way) (map led_seen ls) → AllByRecursion (λ l. Follow l.way) ls
    all [] h = tt
    all (l ∷ ls) h = (record { dims = h.0.memory.shape.dims; lead = h.0.steps }, all ls h.1)
