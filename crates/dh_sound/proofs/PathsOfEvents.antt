-- The events that commands make at some paths are each at one of these paths; and where at each path the numbers of
-- events ascend, no two events are of one path and one number.
use Rattle.std.proofs.Common.{◌≡◌, ◌⊎◌, inl, inr, ℕ, suc, ◌<◌, ◌≤◌, Bool, true, false, if◌then◌else◌, List, [], ◌∷◌, ◌++◌, refl, ◌∙◌, ap, subst, arith}
use Rattle.std.proofs.lemmas.Cmp.{nat_list_eq_equiv}
use Rattle.dh_meaning.specs.Core.{CoreTerm, CoreCommand, store, assign, choose, CoreCommands, no_commands, command_and}
use Rattle.dh_meaning.specs.Effects.{Begun, Event, Effect, term_events, store_events, stored_at, assigned_at, tested_at, at_each, paths_where, holds_at, command_run, commands_run}
use Rattle.dh_meaning.specs.Paths.{Path, same_path}
use Rattle.dh_sound.proofs.Ascending.{number_of, Ascends}
use Rattle.dh_sound.proofs.Lockstep.{path_of, events_at, AllAt, term_at, store_at}
use Rattle.dh_carried.proofs.Pigeons.{Has, has_either}
use Rattle.dh_meaning.specs.Core.{keep}
use Rattle.dh_meaning.specs.Effects.{kept_at, terms_events}
use Rattle.dh_sound.proofs.Lockstep.{terms_at}

-- an event is among those at its path
pub at_its_path : (ev : Event) (es : List Event) → Has ev es → Has ev (events_at (path_of ev) es)
at_its_path ev [] h = elim h [ ]
at_its_path ev (e ∷ es) (inl i) = subst (λ (x : Event). Has ev (if same_path (path_of x) (path_of ev) then x ∷ events_at (path_of ev) es else events_at (path_of ev) es)) i (here (same_path (path_of ev) (path_of ev)) (nat_list_eq_equiv.refl (path_of ev)))
  where
    here : (x : Bool) → x ≡ true → Has ev (if x then ev ∷ events_at (path_of ev) es else events_at (path_of ev) es)
    here true f = inl refl
    here false f = cc
at_its_path ev (e ∷ es) (inr h) = by (same_path (path_of e) (path_of ev)) (at_its_path ev es h)
  where
    by : (x : Bool) → Has ev (events_at (path_of ev) es) → Has ev (if x then e ∷ events_at (path_of ev) es else events_at (path_of ev) es)
    by true g = inr g
    by false g = g

-- every one of these ascends above a number
above_all : (low high : ℕ) (ev : Event) (es : List Event) → Ascends low es high → Has ev es → low ≤ number_of ev
above_all low high ev [] a h = elim h [ ]
above_all low high ev (e ∷ es) a (inl i) = let x = a.0 in let n = ap number_of i in omega (arith, x, n)
above_all low high ev (e ∷ es) a (inr h) = let m = above_all (suc (number_of e)) high ev es a.1 h in let x = a.0 in omega (arith, m, x)

-- at each path the numbers ascend
abbrev pub AscendAtPaths : List Event → Type 0
AscendAtPaths es = (path : Path) → (low : ℕ) × ((high : ℕ) × Ascends low (events_at path es) high)

-- no later event is of the same path and number
abbrev pub IsOnce : Event → List Event → Type 0
IsOnce ev es = (other : Event) → Has other es → path_of other ≡ path_of ev → number_of other ≡ number_of ev → ⊥

abbrev pub AreOnce : List Event → Type 0
AreOnce [] = Unit {0}
AreOnce (e ∷ es) = IsOnce e es × AreOnce es

tail_ascends : (e : Event) (es : List Event) → AscendAtPaths (e ∷ es) → AscendAtPaths es
tail_ascends e es a path = let (low, (high, is)) = a path in by (same_path (path_of e) path) low high is
  where
    by : (x : Bool) (low high : ℕ) → Ascends low (if x then e ∷ events_at path es else events_at path es) high → (l : ℕ) × ((h : ℕ) × Ascends l (events_at path es) h)
    by true low high is = (suc (number_of e), (high, is.1))
    by false low high is = (low, (high, is))

pub are_once : (es : List Event) → AscendAtPaths es → AreOnce es
are_once [] a = tt
are_once (e ∷ es) a = (first, are_once es (tail_ascends e es a))
  where
    above : (x : Bool) (low high : ℕ) → x ≡ true → Ascends low (if x then e ∷ events_at (path_of e) es else events_at (path_of e) es) high → (other : Event) → Has other (events_at (path_of e) es) → number_of e < number_of other
    above true low high f is other h = above_all (suc (number_of e)) high other (events_at (path_of e) es) is.1 h
    above false low high f is other h = cc

    first : IsOnce e es
    first other h p n =
        let (low, (high, is)) = a (path_of e) in
        let l = above (same_path (path_of e) (path_of e)) low high (nat_list_eq_equiv.refl (path_of e)) is other (subst (λ (q : Path). Has other (events_at q es)) p (at_its_path other es h)) in
        omega (arith, l, n)

-- Where events stand.
at_all : (path : Path) (ev : Event) (es : List Event) → AllAt path es → Has ev es → path_of ev ≡ path
at_all path ev [] a h = elim h [ ]
at_all path ev (e ∷ es) a (inl i) = ap path_of i ∙ a.0
at_all path ev (e ∷ es) a (inr h) = at_all path ev es a.1 h

module _ (b : Begun) where
  abbrev Stays : (ps : List Path) → Effect → Effect → Type 0
  Stays ps e f = (ev : Event) → Has ev f.events → Has ev e.events ⊎ Has (path_of ev) ps

  -- what is done at a path adds events of that path
  abbrev AddsAt : (Path → Effect → Effect) → Type 0
  AddsAt run = (path : Path) (e : Effect) (ev : Event) → Has ev (run path e).events → Has ev e.events ⊎ (path_of ev ≡ path)

  each_stays : (run : Path → Effect → Effect) → AddsAt run → (ps : List Path) (e : Effect) → Stays ps e (at_each run ps e)
  each_stays run adds [] e ev h = inl h
  each_stays run adds (p ∷ ps) e ev h = first (each_stays run adds ps (run p e) ev h)
    where
      first : Has ev (run p e).events ⊎ Has (path_of ev) ps → Has ev e.events ⊎ Has (path_of ev) (p ∷ ps)
      first (inr g) = inr (inr g)
      first (inl g) = elim (adds p e ev g) [ inl x ↦ inl x | inr y ↦ inr (inl y) ]

  adds_some : (path : Path) (e : Effect) (more : List Event) → AllAt path more → (ev : Event) → Has ev (e.events ++ more) → Has ev e.events ⊎ (path_of ev ≡ path)
  adds_some path e more a ev h = elim (has_either ev e.events more h) [ inl x ↦ inl x | inr y ↦ inr (at_all path ev more a y) ]

  pub tests_stay : (test : CoreTerm) (ps : List Path) (e : Effect) → Stays ps e (at_each (tested_at b test) ps e)
  tests_stay test ps e = each_stays (tested_at b test) (λ path e ev h. adds_some path e (term_events b e.variables path test) (term_at b path e.variables test) ev h) ps e

  some_of : (holds : Bool) (test : Path → Bool) (path : Path) (ps : List Path) → Has path (paths_where holds test ps) → Has path ps
  some_of true test path [] h = elim h [ ]
  some_of false test path [] h = elim h [ ]
  some_of true test path (p ∷ ps) h = by (test p) (some_of true test path ps) h
    where
      by : (x : Bool) → (Has path (paths_where true test ps) → Has path ps) → Has path (if x then p ∷ paths_where true test ps else paths_where true test ps) → Has path (p ∷ ps)
      by true more (inl i) = inl i
      by true more (inr k) = inr (more k)
      by false more k = inr (more k)
  some_of false test path (p ∷ ps) h = by (test p) (some_of false test path ps) h
    where
      by : (x : Bool) → (Has path (paths_where false test ps) → Has path ps) → Has path (if x then paths_where false test ps else p ∷ paths_where false test ps) → Has path (p ∷ ps)
      by false more (inl i) = inl i
      by false more (inr k) = inr (more k)
      by true more k = inr (more k)

  stays_then : (ps qs : List Path) (e f g : Effect) → ((path : Path) → Has path qs → Has path ps) → Stays ps e f → Stays qs f g → Stays ps e g
  stays_then ps qs e f g inside one two ev h = elim (two ev h) [ inl x ↦ one ev x | inr y ↦ inr (inside (path_of ev) y) ]

  mutual
    command_stays : (ps : List Path) (c : CoreCommand) (e : Effect) → Stays ps e (command_run b ps c e)
    command_stays ps (store r target value) e = each_stays (stored_at b r target value) (λ path e ev h. adds_some path e (store_events b e.variables path r target value) (store_at b path e.variables r target value) ev h) ps e
    command_stays ps (assign depth entity value) e = each_stays (assigned_at b depth entity value) (λ path e ev h. adds_some path e (term_events b e.variables path value) (term_at b path e.variables value) ev h) ps e
    command_stays ps (keep depth first values) e = each_stays (kept_at b depth first values) (λ path e ev h. adds_some path e (terms_events b e.variables path values) (terms_at b path e.variables values) ev h) ps e
    command_stays ps (choose test chosen other) e =
        let test_at = holds_at b e.variables test in
        let t = at_each (tested_at b test) ps e in
        let c = commands_run b (paths_where true test_at ps) chosen t in
        stays_then ps (paths_where false test_at ps) e c (commands_run b (paths_where false test_at ps) other c) (λ path k. some_of false test_at path ps k)
        (stays_then ps (paths_where true test_at ps) e t c (λ path k. some_of true test_at path ps k) (tests_stay test ps e) (commands_stay (paths_where true test_at ps) chosen t))
        (commands_stay (paths_where false test_at ps) other c)

    pub commands_stay : (ps : List Path) (cs : CoreCommands) (e : Effect) → Stays ps e (commands_run b ps cs e)
    commands_stay ps no_commands e = λ ev h. inl h
    commands_stay ps (command_and c cs) e = stays_then ps ps e (command_run b ps c e) (commands_run b ps cs (command_run b ps c e)) (λ path k. k) (command_stays ps c e) (commands_stay ps cs (command_run b ps c e))
