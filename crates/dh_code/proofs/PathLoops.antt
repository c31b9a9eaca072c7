-- What is done at one path after the other.
use Rattle.std.proofs.Common.{◌≡◌, ℕ, zero, suc, ◌<◌, ◌≤◌, true, false, List, [], ◌∷◌, ◌++◌, length, map, drop, get_or, Ok, Err, refl, ap, sym, ◌∙◌, subst, arith, append_assoc, append-nil}
use Rattle.std.specs.Prelude.{Result, slice_index_or}
use Rattle.std.proofs.lemmas.List.{map-append}
use Rattle.dh_tree.specs.declared.tables.MemEntry.{MemEntry}
use Rattle.dh_meaning.specs.Paths.{Path}
use Rattle.dh_meaning.specs.Core.{CoreCommand, store, assign, choose, keep, CoreCommands, no_commands, command_and}
use Rattle.dh_meaning.specs.Effects.{Begun, Effect, Event, assigned_at, at_each, command_run, commands_run, holds_at, kept_at, paths_where, stop_after, stored_at, tested_at}
use Rattle.dh_code.specs.declared.evaluating.StepContext.{StepContext}
use Rattle.dh_code.specs.declared.evaluating.StepStop.{StepStop}
use Rattle.dh_code.specs.declared.evaluating.StepStop.TheVariants as stop
use Rattle.dh_code.specs.declared.running.StepState.{StepState}
use Rattle.dh_code.specs.Plain.{all_plain, plain}
use Rattle.dh_code.specs.Ranks.{ArePaths, ranks_of}
use Rattle.dh_code.specs.Slots.{Placing}
use Rattle.dh_code.specs.States.{AreRanks, AreRows, Ends, Keeps, Runs, ranks_chosen}
use Rattle.dh_code.proofs.BanksSpent.{stop_stays}

-- further events
pub record Grows (old new : Effect) : Type 0 where
  pub more : List Event
  pub is : new.events ≡ old.events ++ more

pub grows_none : (e : Effect) → Grows e e
grows_none e = record { more = []; is = sym (append-nil e.events) }

pub grows_then : (a b c : Effect) → Grows a b → Grows b c → Grows a c
grows_then a b c g h = record { more = g.more ++ h.more; is = h.is ∙ (ap (λ l. l ++ h.more) g.is ∙ append_assoc a.events g.more h.more) }

pub each_grows : (f : Path → Effect → Effect) → ((path : Path) (e : Effect) → Grows e (f path e)) → (paths : List Path) (e : Effect) → Grows e (at_each f paths e)
each_grows f one [] e = grows_none e
each_grows f one (path ∷ paths) e = grows_then e (f path e) _ (one path e) (each_grows f one paths (f path e))

module _ (b : Begun) where
  mutual
    pub command_grows : (paths : List Path) (c : CoreCommand) (e : Effect) → Grows e (command_run b paths c e)
    command_grows paths (store r target value) e = each_grows (stored_at b r target value) (λ path e. record { more = _; is = refl }) paths e
    command_grows paths (assign depth entity value) e = each_grows (assigned_at b depth entity value) (λ path e. record { more = _; is = refl }) paths e
    command_grows paths (keep depth first values) e = each_grows (kept_at b depth first values) (λ path e. record { more = _; is = refl }) paths e
    command_grows paths (choose test chosen other) e =
        let tested = at_each (tested_at b test) paths e in
        let first = each_grows (tested_at b test) (λ path e. record { more = _; is = refl }) paths e in
        let second = commands_grow (paths_where true (holds_at b e.variables test) paths) chosen tested in
        grows_then e tested _ first (grows_then tested _ _ second (commands_grow (paths_where false (holds_at b e.variables test) paths) other _))

    pub commands_grow : (paths : List Path) (cs : CoreCommands) (e : Effect) → Grows e (commands_run b paths cs e)
    commands_grow paths no_commands e = grows_none e
    commands_grow paths (command_and c cs) e = grows_then e (command_run b paths c e) _ (command_grows paths c e) (commands_grow paths cs (command_run b paths c e))

-- a stop is that of all that follows
pub ends_later : (A B : Type 0) (p : Placing) (table : List MemEntry) (now : ℕ) (e later : Effect) (s s' : StepState) (x : StepStop) (result : Result B StepStop) → Grows e later → result ≡ Err x → Ends {A = A} p table e now (Err x) s → Ends {A = B} p table later now result s'
ends_later A B p table now e later s s' x result g is h = subst (λ (r : Result B StepStop). Ends p table later now r s') (sym is) (by x h)
  where
    by : (x : StepStop) → Ends {A = A} p table e now (Err x) s → Ends {A = B} p table later now (Err x) s'
    by (stop.At o) h = ap (λ l. stop_after table [] (all_plain l)) g.is ∙ (ap (λ l. stop_after table [] l) (map-append plain e.events g.more) ∙ stop_stays table [] (all_plain e.events) (all_plain g.more) o h)
    by stop.NoMemory h = tt

-- the ranks of the path of a number, and the paths from it on
pub row_at : (factors : List ℕ) (rows : List (List ℕ)) (numbers : List ℕ) (paths : List Path) (k d : ℕ) → ranks_chosen rows numbers ≡ map (ranks_of factors) paths → ArePaths factors paths → k < length numbers
    → AreRanks factors (slice_index_or rows (get_or numbers k d) []) (get_or paths k []) × (drop k paths ≡ get_or paths k [] ∷ drop (suc k) paths)
row_at factors rows [] paths k d e a within = absurd (none k within)
  where
    none : (n : ℕ) → n < 0 → ⊥
    none n e = omega (arith, e)
row_at factors rows (n ∷ numbers) [] k d e a within = absurd cc
row_at factors rows (n ∷ numbers) (path ∷ paths) zero d e a within = (record { inside = a.0; are = first e }, refl)
  where
    first : slice_index_or rows n [] ∷ ranks_chosen rows numbers ≡ ranks_of factors path ∷ map (ranks_of factors) paths → slice_index_or rows n [] ≡ ranks_of factors path
    first e = cc
row_at factors rows (n ∷ numbers) (path ∷ paths) (suc k) d e a within = row_at factors rows numbers paths k d (rest e) a.1 (less k (length numbers) within)
  where
    rest : slice_index_or rows n [] ∷ ranks_chosen rows numbers ≡ ranks_of factors path ∷ map (ranks_of factors) paths → ranks_chosen rows numbers ≡ map (ranks_of factors) paths
    rest e = cc

    less : (m l : ℕ) → suc m < suc l → m < l
    less m l e = omega (arith, e)

pub no_more_rows : (factors : List ℕ) (rows : List (List ℕ)) (numbers : List ℕ) (paths : List Path) (k : ℕ) → ranks_chosen rows numbers ≡ map (ranks_of factors) paths → length numbers ≤ k → drop k paths ≡ []
no_more_rows factors rows [] [] zero e over = refl
no_more_rows factors rows [] [] (suc k) e over = refl
no_more_rows factors rows [] (path ∷ paths) k e over = absurd cc
no_more_rows factors rows (n ∷ numbers) [] k e over = absurd cc
no_more_rows factors rows (n ∷ numbers) (path ∷ paths) zero e over = absurd (none (length numbers) over)
  where
    none : (n : ℕ) → suc n ≤ 0 → ⊥
    none n e = omega (arith, e)
no_more_rows factors rows (n ∷ numbers) (path ∷ paths) (suc k) e over = no_more_rows factors rows numbers paths k (rest e) (less (length numbers) k over)
  where
    rest : slice_index_or rows n [] ∷ ranks_chosen rows numbers ≡ ranks_of factors path ∷ map (ranks_of factors) paths → ranks_chosen rows numbers ≡ map (ranks_of factors) paths
    rest e = cc

    less : (m l : ℕ) → suc m ≤ suc l → m ≤ l
    less m l e = omega (arith, e)

-- the paths up to the one of a number are done
pub record Going (p : Placing) (s : StepContext) (run : Path → Effect → Effect) (paths : List Path) (first : Effect) (k : ℕ) (now : StepState) : Type 0 where
  pub effect : Effect
  pub keeps : Keeps p s.entries.now effect s.step now
  pub rest : at_each run (drop k paths) effect ≡ at_each run paths first

abbrev pub go_first : (p : Placing) (s : StepContext) (run : Path → Effect → Effect) (paths : List Path) (e : Effect) (now : StepState) → Keeps p s.entries.now e s.step now → Going p s run paths e 0 now
go_first p s run paths e now h = record { effect = e; keeps = h; rest = refl }

module _ (p : Placing) (s : StepContext) (run : Path → Effect → Effect) (grow : (path : Path) (e : Effect) → Grows e (run path e)) (factors : List ℕ) (rows : List (List ℕ)) (numbers : List ℕ) (paths : List Path) (are : AreRows factors rows numbers paths) (first : Effect) (k : ℕ) (now : StepState) (g : Going p s run paths first k now) where
  module _ (d : ℕ) (within : k < length numbers) where
    abbrev pub path_now : Path
    path_now = get_or paths k []

    pub ranks_now : AreRanks factors (slice_index_or rows (get_or numbers k d) []) path_now
    ranks_now = (row_at factors rows numbers paths k d are.are are.inside within).0

    pub rest_is : at_each run (drop (suc k) paths) (run path_now g.effect) ≡ at_each run paths first
    rest_is = ap (λ l. at_each run l g.effect) (sym (row_at factors rows numbers paths k d are.are are.inside within).1) ∙ g.rest

    abbrev pub go_turn : (A : Type 0) (a : A) (new : StepState) → Runs {A = A} p s now (Ok a) new (run path_now) → Going p s run paths first (suc k) new
    go_turn A a new ran = record { effect = run path_now g.effect; keeps = ran g.effect g.keeps; rest = rest_is }

    pub go_stop : (A B : Type 0) (x : StepStop) (new new' : StepState) (result : Result B StepStop) → result ≡ Err x → Runs {A = A} p s now (Err x) new (run path_now) → Ends {A = B} p s.entries.now (at_each run paths first) s.step result new'
    go_stop A B x new new' result is ran =
        subst (λ (e : Effect). Ends p s.entries.now e s.step result new') rest_is
        (ends_later A B p s.entries.now s.step (run path_now g.effect) (at_each run (drop (suc k) paths) (run path_now g.effect)) new new' x result (each_grows run grow (drop (suc k) paths) (run path_now g.effect)) is (ran g.effect g.keeps))

  pub go_end : length numbers ≤ k → Keeps p s.entries.now (at_each run paths first) s.step now
  go_end over = subst (λ (e : Effect). Keeps p s.entries.now e s.step now) (ap (λ l. at_each run l g.effect) (sym (no_more_rows factors rows numbers paths k are.are over)) ∙ g.rest) g.keeps
