-- How the checked run of a program stands: no logical step counts as more than one, a run that does not go
-- on stays as it is, and memories that fit a table go on to fit it, since a write leaves a value of its
-- memory's kind.
use Rattle.std.proofs.Common.{◌≡◌, ℕ, ◌^◌, ◌<◌, ◌≤◌, zero, suc, Bool, true, false, if◌then◌else◌, List, [], ◌∷◌, ◌++◌, map, take, drop, slice_set, get_or, Option, Some, None, refl, ap, ◌∙◌, arith, inl, inr, ℤ, unsigned_abs}
use Rattle.std.specs.List.{AllByRecursion}
use Rattle.std.proofs.lemmas.Bool.{cases_lt}
use Rattle.std.proofs.lemmas.List.{length-set}
use Rattle.std.proofs.lemmas.Nat.{pow_pos}
use Rattle.dh_base.specs.declared.outcomes.Outcome.{Outcome}
use Rattle.dh_base.specs.declared.outcomes.Outcome.TheVariants.{Going, Ended, Faulted, Stuck}
use Rattle.dh_value.proofs.Residues.{residue-lt}
use Rattle.dh_value.specs.Words as words
use Rattle.dh_value.specs.Words.{width_of}
use Rattle.dh_tree.specs.declared.tables.MemEntry.{MemEntry}
use Rattle.dh_tree.specs.Elements.{Spot, spot_of, spot_in_bank, dims_at}
use Rattle.dh_tree.specs.Tables.{Fits}
use Rattle.dh_meaning.specs.Core.{Reach, CoreTerm, literal, truth_literal, variable, read, binary, convert, Target, by_indices, by_views, by_row, CoreTerms, no_terms, term_and, CoreCommand, store, assign, keep, choose, CoreCommands, no_commands, command_and, CoreProgram}
use Rattle.dh_meaning.specs.Effects as effects
use Rattle.dh_meaning.specs.Effects.{Begun, Variables, Event, reads, writes, faults, kind_in, is_inside, is_row, indices_through, spot_if_inside, value_of_term, values_of, spot_reached, term_events, target_events, terms_events, read_made, write_made, kept_bits, Effect, store_events, stored_at, assigned_at, kept_at, tested_at, at_each, paths_where, holds_at, command_run, commands_run, Block, commands, tests, block_run, written}
use Rattle.dh_meaning.specs.Paths.{Path}
use Rattle.dh_meaning.specs.Runs.{RunPlace, ended, at, place_run, RunState, begun_at, step_effect, state_after, step_from, next_state, run_state}

-- ---- steps

step_more : (table : List MemEntry) (s : RunState) (o : Outcome) → (step_from table s o).steps ≤ suc s.steps
step_more table s Going = by (effects.stop_after table [] (step_effect table s).events)
  where
    by : (stop : Option Outcome) → (state_after table s (step_effect table s) stop).steps ≤ suc s.steps
    by None = omega arith
    by (Some outcome) = omega arith
step_more table s Ended = omega arith
step_more table s (Faulted kind place) = omega arith
step_more table s (Stuck memory bank place) = omega arith

pub steps_within : (p : CoreProgram) (memories : List (List ℕ)) (n : ℕ) → (run_state p memories n).steps ≤ n
steps_within p memories zero = omega arith
steps_within p memories (suc n) =
    let h = steps_within p memories n in
    let k = step_more p.table (run_state p memories n) (run_state p memories n).outcome in
    omega (arith, h, k)

no_step : (table : List MemEntry) (s : RunState) (o : Outcome) → (o ≡ Going → ⊥) → step_from table s o ≡ s
no_step table s Going h = absurd (h refl)
no_step table s Ended h = refl
no_step table s (Faulted kind place) h = refl
no_step table s (Stuck memory bank place) h = refl

pub stays : (p : CoreProgram) (memories : List (List ℕ)) (n m : ℕ) → n ≤ m → ((run_state p memories n).outcome ≡ Going → ⊥) → run_state p memories m ≡ run_state p memories n
stays p memories n zero l h = let e : zero ≡ n = omega (arith, l) in ap (λ k. run_state p memories k) e
stays p memories n (suc m) l h =
    elim (cases_lt m n) [
      | inl less ↦ let e : suc m ≡ n = omega (arith, l, less) in ap (λ k. run_state p memories k) e
      | inr more ↦
          ap (next_state p.table) (stays p memories n m more h) ∙ no_step p.table (run_state p memories n) (run_state p memories n).outcome h
    ]

-- ---- values of writes

-- a write leaves a value of its memory's kind
abbrev IsSmall : List MemEntry → Event → Type 0
IsSmall table (reads number place path s) = Unit {0}
IsSmall table (writes number place path s value) = value < 2 ^ width_of (kind_in table s.memory)
IsSmall table (faults number place path kind) = Unit {0}

abbrev AreSmall : List MemEntry → List Event → Type 0
AreSmall table es = AllByRecursion (IsSmall table) es

joined : (table : List MemEntry) (es fs : List Event) → AreSmall table es → AreSmall table fs → AreSmall table (es ++ fs)
joined table [] fs h k = k
joined table (e ∷ es) fs h k = (h.0, joined table es fs h.1 k)

read_small : (table : List MemEntry) (r : Reach) (path : Path) (s : Option Spot) → AreSmall table (read_made r path s ∷ [])
read_small table r path None = (tt, tt)
read_small table r path (Some s) = (tt, tt)

made_small : (table : List MemEntry) (r : Reach) (path : Path) (value : ℕ) (s : Spot) → value < 2 ^ width_of (kind_in table s.memory) → (inside : Bool)
    → AreSmall table (write_made r path value (if inside then Some s else None) ∷ [])
made_small table r path value s l true = (l, tt)
made_small table r path value s l false = (tt, tt)

led_small : (table : List MemEntry) (r : Reach) (path : Path) (value : ℕ) → value < 2 ^ width_of (kind_in table r.memory) → (led : Option (List ℤ))
    → AreSmall table (write_made r path value (spot_if_inside table r.memory led) ∷ [])
led_small table r path value l None = (tt, tt)
led_small table r path value l (Some indices) =
    made_small table r path value (spot_of table r.memory (map unsigned_abs indices)) l (is_inside (dims_at table r.memory) indices)

module _ (b : Begun) where
  mutual
    term_small : (variables : Variables) (path : Path) (t : CoreTerm) → AreSmall b.table (term_events b variables path t)
    term_small variables path (literal kind negative n) = tt
    term_small variables path (truth_literal value) = tt
    term_small variables path (variable kind depth entity) = tt
    term_small variables path (read r target) =
        joined b.table (target_events b variables path target) _ (target_small variables path target) (read_small b.table r path (spot_reached b variables path r target))
    term_small variables path (binary op left right) =
        joined b.table (term_events b variables path left) _ (term_small variables path left) (term_small variables path right)
    term_small variables path (convert to inner) = term_small variables path inner

    target_small : (variables : Variables) (path : Path) (target : Target) → AreSmall b.table (target_events b variables path target)
    target_small variables path (by_indices indices) = terms_small variables path indices
    target_small variables path (by_views steps count indices) = terms_small variables path indices
    target_small variables path (by_row bank row) = term_small variables path row

    terms_small : (variables : Variables) (path : Path) (ts : CoreTerms) → AreSmall b.table (terms_events b variables path ts)
    terms_small variables path no_terms = tt
    terms_small variables path (term_and t ts) = joined b.table (term_events b variables path t) _ (term_small variables path t) (terms_small variables path ts)

  write_small : (variables : Variables) (path : Path) (r : Reach) (target : Target) (value : ℕ) → value < 2 ^ width_of (kind_in b.table r.memory)
      → AreSmall b.table (write_made r path value (spot_reached b variables path r target) ∷ [])
  write_small variables path r (by_indices indices) value l =
      made_small b.table r path value (spot_of b.table r.memory (map unsigned_abs (values_of b variables path indices))) l
      (is_inside (dims_at b.table r.memory) (values_of b variables path indices))
  write_small variables path r (by_views steps count indices) value l =
      led_small b.table r path value l (indices_through steps (take count (values_of b variables path indices)) (drop count (values_of b variables path indices)))
  write_small variables path r (by_row bank row) value l =
      made_small b.table r path value (spot_in_bank b.table r.memory bank (unsigned_abs (words.value_of (value_of_term b variables path row)))) l
      (is_row (dims_at b.table r.memory) (words.value_of (value_of_term b variables path row)))

  store_small : (r : Reach) (target : Target) (value : CoreTerm) (path : Path) (e : Effect) → AreSmall b.table e.events → AreSmall b.table (stored_at b r target value path e).events
  store_small r target value path e h =
      joined b.table e.events _ h
      (joined b.table (term_events b e.variables path value) _ (term_small e.variables path value)
      (joined b.table (target_events b e.variables path target) _ (target_small e.variables path target)
      (write_small e.variables path r target (kept_bits b.table r.memory (value_of_term b e.variables path value))
      (residue-lt (2 ^ width_of (kind_in b.table r.memory)) (words.value_of (value_of_term b e.variables path value)) (pow_pos (width_of (kind_in b.table r.memory)))))))

  each_small : (run : Path → Effect → Effect) → ((path : Path) (e : Effect) → AreSmall b.table e.events → AreSmall b.table (run path e).events) → (paths : List Path) (e : Effect)
      → AreSmall b.table e.events → AreSmall b.table (at_each run paths e).events
  each_small run one [] e h = h
  each_small run one (path ∷ paths) e h = each_small run one paths (run path e) (one path e h)

  test_small : (test : CoreTerm) (path : Path) (e : Effect) → AreSmall b.table e.events → AreSmall b.table (tested_at b test path e).events
  test_small test path e h = joined b.table e.events _ h (term_small e.variables path test)

  mutual
    command_small : (paths : List Path) (c : CoreCommand) (e : Effect) → AreSmall b.table e.events → AreSmall b.table (command_run b paths c e).events
    command_small paths (store r target value) e h = each_small (stored_at b r target value) (store_small r target value) paths e h
    command_small paths (assign depth entity value) e h =
        each_small (assigned_at b depth entity value) (λ path e k. joined b.table e.events _ k (term_small e.variables path value)) paths e h
    command_small paths (keep depth first values) e h =
        each_small (kept_at b depth first values) (λ path e k. joined b.table e.events _ k (terms_small e.variables path values)) paths e h
    command_small paths (choose test chosen other) e h =
        commands_small (paths_where false (holds_at b e.variables test) paths) other
        (commands_run b (paths_where true (holds_at b e.variables test) paths) chosen (at_each (tested_at b test) paths e))
        (commands_small (paths_where true (holds_at b e.variables test) paths) chosen (at_each (tested_at b test) paths e)
        (each_small (tested_at b test) (test_small test) paths e h))

    commands_small : (paths : List Path) (cs : CoreCommands) (e : Effect) → AreSmall b.table e.events → AreSmall b.table (commands_run b paths cs e).events
    commands_small paths no_commands e h = h
    commands_small paths (command_and c cs) e h = commands_small paths cs (command_run b paths c e) (command_small paths c e h)

  block_small : (paths : List Path) (block : Block) (e : Effect) → AreSmall b.table e.events → AreSmall b.table (block_run b paths block e).events
  block_small paths (commands cs) e h = commands_small paths cs e h
  block_small paths (tests t) e h = each_small (tested_at b t) (test_small t) paths e h

  place_small : (place : RunPlace) (e : Effect) → AreSmall b.table e.events → AreSmall b.table (place_run b place e).events
  place_small ended e h = h
  place_small (at paths block k) e h = block_small paths block e h

-- ---- memories

all_set : (P : ℕ → Type 0) (xs : List ℕ) (i x : ℕ) → AllByRecursion P xs → P x → AllByRecursion P (slice_set xs i x)
all_set P [] i x h p = tt
all_set P (y ∷ ys) zero x h p = (p, h.1)
all_set P (y ∷ ys) (suc i) x h p = (h.0, all_set P ys i x h.1 p)

put_fits : (table : List MemEntry) (ms : List (List ℕ)) (memory position value : ℕ) → value < 2 ^ width_of (kind_in table memory) → Fits table ms
    → Fits table (slice_set ms memory (slice_set (get_or ms memory []) position value))
put_fits [] [] memory position value l h = tt
put_fits [] (m ∷ ms) memory position value l h = absurd h
put_fits (e ∷ es) [] memory position value l h = absurd h
put_fits (e ∷ es) (m ∷ ms) zero position value l h =
    (record { long = length-set m position value ∙ h.0.long; small = all_set (λ v. v < 2 ^ width_of e.shape.kind) m position value h.0.small l }, h.1)
put_fits (e ∷ es) (m ∷ ms) (suc memory) position value l h = (h.0, put_fits es ms memory position value l h.1)

written_fits : (table : List MemEntry) (es : List Event) (ms : List (List ℕ)) → AreSmall table es → Fits table ms → Fits table (written es ms)
written_fits table [] ms small h = h
written_fits table (reads number place path s ∷ es) ms small h = written_fits table es ms small.1 h
written_fits table (writes number place path s value ∷ es) ms small h =
    written_fits table es (effects.put_element ms s value) small.1 (put_fits table ms s.memory s.position value small.0 h)
written_fits table (faults number place path kind ∷ es) ms small h = written_fits table es ms small.1 h

step_fits : (table : List MemEntry) (s : RunState) (o : Outcome) → Fits table s.memories → Fits table (step_from table s o).memories
step_fits table s Going h = by (effects.stop_after table [] (step_effect table s).events)
  where
    by : (stop : Option Outcome) → Fits table (state_after table s (step_effect table s) stop).memories
    by None = written_fits table (step_effect table s).events s.memories (place_small (begun_at table s) s.place (record { variables = s.variables; events = [] }) tt) h
    by (Some outcome) = h
step_fits table s Ended h = h
step_fits table s (Faulted kind place) h = h
step_fits table s (Stuck memory bank place) h = h

pub states_fit : (p : CoreProgram) (memories : List (List ℕ)) (n : ℕ) → Fits p.table memories → Fits p.table (run_state p memories n).memories
states_fit p memories zero h = h
states_fit p memories (suc n) h = step_fits p.table (run_state p memories n) (run_state p memories n).outcome (states_fit p memories n h)
