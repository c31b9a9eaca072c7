-- What a step of the program does, in the words of the plan: its writes and its first fault; which variables a block
-- leaves as they were; and the values of an iterator as a turn begins.
use Rattle.std.proofs.Common.{◌≡◌, ℕ, zero, suc, Some, None, List, refl, sym, ap, subst, ◌∙◌}
use Rattle.std.specs.Prelude.{[], ◌∷◌, ◌++◌, ◌==◌, ◌&&◌, ◌||◌, nat_eq, Bool, true, false, if◌then◌else◌, slice_get, Option, ℤ, pos, take}
use Rattle.std.proofs.lemmas.Bool.{ne_eqb, eq-eqb, eqb-true}
use Rattle.dh_base.specs.declared.outcomes.FaultKind.{FaultKind}
use Rattle.dh_base.specs.declared.outcomes.Outcome.{Outcome}
use Rattle.dh_base.specs.declared.outcomes.Outcome.TheVariants.{Faulted, Stuck}
use Rattle.dh_base.specs.declared.places.Place.{Place}
use Rattle.dh_tree.specs.declared.tables.MemEntry.{MemEntry}
use Rattle.dh_meaning.specs.Core.{Turning, CoreCommand, store, assign, choose, CoreCommands, no_commands, command_and}
use Rattle.dh_meaning.specs.Effects.{Begun, Variables, set_variable, Event, reads, writes, faults, Effect, Block, commands, tests, command_run, commands_run, block_run, at_each, stored_at, assigned_at, tested_at, paths_where, holds_at, put_element, written, spends_beyond, stop_after}
use Rattle.dh_meaning.specs.Levels.{assigns_to, any_assigns}
use Rattle.dh_meaning.specs.Paths.{Path, same_path}
use Rattle.dh_meaning.specs.Runs.{iterator_value, turn_begun}
use Rattle.dh_plan.specs.Blocks.{all_put}
use Rattle.dh_plan.specs.PlanPhases.{block_assigns}
use Rattle.dh_plan.specs.SourceEffects.{failure_of, writes_of}
use Rattle.dh_meaning.specs.Core.{keep}
use Rattle.dh_meaning.specs.Effects.{kept_at}
use Rattle.dh_ways.proofs.KeptVariables.{others_kept}

-- writes one after the other
pub written_is : (es : List Event) (memories : List (List ℕ)) → written es memories ≡ all_put (writes_of es) memories
written_is [] memories = refl
written_is (reads number place path spot ∷ es) memories = written_is es memories
written_is (writes number place path spot value ∷ es) memories = written_is es (put_element memories spot value)
written_is (faults number place path kind ∷ es) memories = written_is es memories

-- the outcome of a fault, where there is one
abbrev pub outcome_of : Option (FaultKind × Place) → Option Outcome
outcome_of None = None
outcome_of (Some f) = Some (Faulted f.0 f.1)

-- it is not that a bank is spent
abbrev pub NotStuck : Option Outcome → Type 0
NotStuck o = (memory bank : ℕ) (place : Place) → o ≡ Some (Stuck memory bank place) → ⊥

pub unless_stuck : (spent : Bool) (memory bank : ℕ) (place : Place) (rest want : Option Outcome)
    → NotStuck (if spent then Some (Stuck memory bank place) else rest) → (NotStuck rest → rest ≡ want) → (if spent then Some (Stuck memory bank place) else rest) ≡ want
unless_stuck true memory bank place rest want h f = absurd (h memory bank place refl)
unless_stuck false memory bank place rest want h f = f h

-- a step that spends no bank beyond its ports stops with its first fault
pub stops_with : (table : List MemEntry) (before es : List Event) → NotStuck (stop_after table before es) → stop_after table before es ≡ outcome_of (failure_of es)
stops_with table before [] h = refl
stops_with table before (reads number place path spot ∷ es) h =
    unless_stuck (spends_beyond table (before ++ reads number place path spot ∷ []) spot) spot.memory spot.bank place _ _ h
    (stops_with table (before ++ reads number place path spot ∷ []) es)
stops_with table before (writes number place path spot value ∷ es) h =
    unless_stuck (spends_beyond table (before ++ writes number place path spot value ∷ []) spot) spot.memory spot.bank place _ _ h
    (stops_with table (before ++ writes number place path spot value ∷ []) es)
stops_with table before (faults number place path kind ∷ es) h = refl

-- Variables that stay.

pub or_left : (a b : Bool) → (a || b) ≡ false → a ≡ false
or_left true b h = absurd (cc)
or_left false b h = refl

pub or_right : (a b : Bool) → (a || b) ≡ false → b ≡ false
or_right true b h = absurd (cc)
or_right false b h = h

pub set_other : (variables : Variables) (entity : ℕ) (path : Path) (value : ℤ) (e : ℕ) (p : Path) → (e == entity) ≡ false
    → set_variable variables entity path value e p ≡ variables e p
set_other variables entity path value e p h = ap (λ (b : Bool). if b && same_path p path then value else variables e p) h

pub each_keeps : (run : Path → Effect → Effect) (e : ℕ) (p : Path) → ((path : Path) (f : Effect) → (run path f).variables e p ≡ f.variables e p)
    → (paths : List Path) (f : Effect) → (at_each run paths f).variables e p ≡ f.variables e p
each_keeps run e p keeps [] f = refl
each_keeps run e p keeps (path ∷ paths) f = each_keeps run e p keeps paths (run path f) ∙ keeps path f

mutual
  pub command_spares : (b : Begun) (e : ℕ) (p : Path) (paths : List Path) (c : CoreCommand) (f : Effect) → assigns_to e c ≡ false
      → (command_run b paths c f).variables e p ≡ f.variables e p
  command_spares b e p paths (store r target value) f h = each_keeps (stored_at b r target value) e p (λ path g. refl) paths f
  command_spares b e p paths (assign depth entity value) f h = each_keeps (assigned_at b depth entity value) e p (λ path g. set_other g.variables entity (take depth path) _ e p h) paths f
  command_spares b e p paths (keep depth first values) f h = each_keeps (kept_at b depth first values) e p (others_kept b depth first values e p h) paths f
  command_spares b e p paths (choose test chosen other) f h =
      commands_spare b e p (paths_where false (holds_at b f.variables test) paths) other _ (or_right (any_assigns e chosen) (any_assigns e other) h)
      ∙ (commands_spare b e p (paths_where true (holds_at b f.variables test) paths) chosen _ (or_left (any_assigns e chosen) (any_assigns e other) h)
      ∙ each_keeps (tested_at b test) e p (λ path g. refl) paths f)

  pub commands_spare : (b : Begun) (e : ℕ) (p : Path) (paths : List Path) (cs : CoreCommands) (f : Effect) → any_assigns e cs ≡ false
      → (commands_run b paths cs f).variables e p ≡ f.variables e p
  commands_spare b e p paths no_commands f h = refl
  commands_spare b e p paths (command_and c cs) f h =
      commands_spare b e p paths cs (command_run b paths c f) (or_right (assigns_to e c) (any_assigns e cs) h)
      ∙ command_spares b e p paths c f (or_left (assigns_to e c) (any_assigns e cs) h)

-- a block leaves a variable that it does not assign to
pub block_spares : (b : Begun) (e : ℕ) (p : Path) (paths : List Path) (block : Block) (f : Effect) → block_assigns e block ≡ false
    → (block_run b paths block f).variables e p ≡ f.variables e p
block_spares b e p paths (commands cs) f h = commands_spare b e p paths cs f h
block_spares b e p paths (tests t) f h = each_keeps (tested_at b t) e p (λ path g. refl) paths f

-- A turn begins.

pub and_left : (a b : Bool) → (a && b) ≡ true → a ≡ true
and_left true b h = refl
and_left false b h = absurd (cc)

pub and_right : (a b : Bool) → (a && b) ≡ true → b ≡ true
and_right true b h = h
and_right false b h = absurd (cc)

pub same_is : (p q : Path) → same_path p q ≡ true → p ≡ q
same_is [] [] h = refl
same_is [] (b ∷ bs) h = absurd (cc)
same_is (a ∷ p) [] h = absurd (cc)
same_is (a ∷ p) (b ∷ q) h =
    let x = eqb-true a b (and_left (nat_eq a b) (same_path p q) h) in
    let y = same_is p q (and_right (nat_eq a b) (same_path p q) h) in
    cc

pub same_self : (p : Path) → same_path p p ≡ true
same_self [] = refl
same_self (a ∷ p) =
    let x : nat_eq a a ≡ true = eq-eqb a a refl in
    let y = same_self p in
    ap (λ (b : Bool). b && same_path p p) x ∙ y

-- an entity that is not the iterator stays
pub begun_other : (loop : Turning) (turn : ℕ) (paths : List Path) (variables : Variables) (e : ℕ) (p : Path) → (e ≡ loop.iterator → ⊥)
    → turn_begun loop turn paths variables e p ≡ variables e p
begun_other loop turn [] variables e p h = refl
begun_other loop turn (path ∷ paths) variables e p h =
    begun_other loop turn paths (set_variable variables loop.iterator path (pos (iterator_value loop turn path))) e p h
    ∙ set_other variables loop.iterator path _ e p (ne_eqb e loop.iterator h)

-- what the iterator is set to at a path, where it is set there
pub set_or_stays : (variables : Variables) (entity : ℕ) (path : Path) (w : Path → ℤ) (p : Path) (b : Bool) → same_path p path ≡ b
    → variables entity p ≡ w p → (if true && b then w path else variables entity p) ≡ w p
set_or_stays variables entity path w p true h kept = ap w (sym (same_is p path h))
set_or_stays variables entity path w p false h kept = kept

pub set_to_value : (variables : Variables) (entity : ℕ) (path : Path) (w : Path → ℤ) (p : Path) → variables entity p ≡ w p
    → set_variable variables entity path (w path) entity p ≡ w p
set_to_value variables entity path w p kept =
    ap (λ (b : Bool). if b && same_path p path then w path else variables entity p) (eq-eqb entity entity refl)
    ∙ set_or_stays variables entity path w p (same_path p path) refl kept

pub begun_stays : (loop : Turning) (turn : ℕ) (paths : List Path) (variables : Variables) (p : Path) → variables loop.iterator p ≡ pos (iterator_value loop turn p)
    → turn_begun loop turn paths variables loop.iterator p ≡ pos (iterator_value loop turn p)
begun_stays loop turn [] variables p h = h
begun_stays loop turn (path ∷ paths) variables p h =
    begun_stays loop turn paths _ p (set_to_value variables loop.iterator path (λ (q : Path). pos (iterator_value loop turn q)) p h)

pub set_here : (variables : Variables) (entity : ℕ) (path : Path) (value : ℤ) → set_variable variables entity path value entity path ≡ value
set_here variables entity path value =
    ap (λ (b : Bool). if b && same_path path path then value else variables entity path) (eq-eqb entity entity refl)
    ∙ ap (λ (b : Bool). if true && b then value else variables entity path) (same_self path)

-- at each path of the turn the iterator has its value
pub begun_here : (loop : Turning) (turn : ℕ) (paths : List Path) (variables : Variables) (i : ℕ) (p : Path) → slice_get paths i ≡ Some p
    → turn_begun loop turn paths variables loop.iterator p ≡ pos (iterator_value loop turn p)
begun_here loop turn [] variables i p h = absurd (cc)
begun_here loop turn (path ∷ paths) variables zero p h =
    let same : Some path ≡ Some p = h in
    let here : path ≡ p = cc in
    subst (λ (q : Path). turn_begun loop turn (path ∷ paths) variables loop.iterator q ≡ pos (iterator_value loop turn q)) here
    (begun_stays loop turn paths _ path (set_here variables loop.iterator path (pos (iterator_value loop turn path))))
begun_here loop turn (path ∷ paths) variables (suc i) p h = begun_here loop turn paths _ i p h
