-- The walk along the phases of a program, of which a straight one stays open while commands may join it.
use Rattle.std.specs.Prelude.{◌≡◌, ℕ, ◌+◌, ◌≤◌, suc, min, Bool, true, false, List, [], ◌∷◌, ◌++◌, map, Option, option_map, Box}
use Rattle.std.specs.Global.{Global}
use Rattle.dh_tree.specs.declared.trees.commands.Command.{Command}
use Rattle.dh_tree.specs.declared.trees.expressions.Expr.{Expr}
use Rattle.dh_tree.specs.Numbers.{IsNumbered, commands_in}
use Rattle.dh_tree.specs.PlainTrees.{Action, ActionForm, lets, lets_memory, views, assigns, stores, reduces, calls, blocks, decides, repeats, counts, MaybeAction, no_action, one_action, Actions, no_actions, action_then, Groups, no_groups, group_then, action}
use Rattle.dh_tree.specs.Seen.{action_seen, maybe_seen, term_seen}
use Rattle.dh_meaning.specs.AccessNumbers.{accesses_of, other_accesses, term_accesses}
use Rattle.dh_meaning.specs.CoreOf.{Known, core_commands, core_phases, core_term}
use Rattle.dh_meaning.specs.Effects.{Block, tests}
use Rattle.dh_meaning.specs.Levels.{block_length, commands_leveled, level_ground}
use Rattle.dh_meaning.specs.Phases.{Located, Phase, straight, turns, repeated, decided, of_list, one_straight, other_phases, phases}
use Rattle.dh_meaning.specs.Sites.{Around}
use Rattle.dh_lengths.specs.declared.leads.Leads.{Leads}
use Rattle.dh_lengths.specs.LedBy.{IsLedBy}
use Rattle.dh_tree.specs.PhaseKinds.{phase_kind, form_phase_kind}
use Rattle.dh_events.specs.Tables.{table_at}
use Rattle.dh_lengths.specs.declared.held.PhaseLevels.{PhaseLevels}
use Rattle.dh_lengths.specs.declared.lengths.PhaseWalk.{PhaseWalk}
use Rattle.dh_lengths.specs.PhaseBlocks.{blocks_in}
use Rattle.dh_lengths.specs.SharedReads.{told}
use Rattle.dh_lengths.specs.Undone.{undone_levels}
use Rattle.dh_lengths.specs.HeldLevels.{held_access_count, levels_seen, EndsPhase, HasSoundLevels}

-- the lengths of phases
abbrev pub lengths_in : (shared : ℕ → Option ℕ) → Known → List Phase → List ℕ
lengths_in shared known ps = map (block_length shared) (blocks_in (core_phases known (of_list ps)))

-- A line of phases: those before the last one, and the commands of the last one, where that is straight.

abbrev pub front : List Phase → List Phase
front [] = []
front (straight cs ∷ []) = []
front (turns loop held_access_count body ∷ []) = turns loop held_access_count body ∷ []
front (repeated loop body ∷ []) = repeated loop body ∷ []
front (decided choice chosen other ∷ []) = decided choice chosen other ∷ []
front (p ∷ q ∷ ps) = p ∷ front (q ∷ ps)

abbrev pub last_open : List Phase → List Located
last_open [] = []
last_open (straight cs ∷ []) = cs
last_open (turns loop held_access_count body ∷ []) = []
last_open (repeated loop body ∷ []) = []
last_open (decided choice chosen other ∷ []) = []
last_open (p ∷ q ∷ ps) = last_open (q ∷ ps)

abbrev pub is_some_command : List Located → Bool
is_some_command [] = false
is_some_command (c ∷ cs) = true

-- commands join the last phase, or begin another
abbrev pub joins : (going : Bool) → (line : List Phase) → List Located → List Phase
joins true line cs = front line ++ one_straight (last_open line ++ cs)
joins false line cs = line ++ straight cs ∷ []

-- a line with the phases of a command behind it
abbrev pub put_phases : (going : Bool) → (line further : List Phase) → List Phase
put_phases going line [] = line
put_phases going line (straight cs ∷ []) = joins going line cs
put_phases going line (turns loop held_access_count body ∷ []) = line ++ turns loop held_access_count body ∷ []
put_phases going line (repeated loop body ∷ []) = line ++ repeated loop body ∷ []
put_phases going line (decided choice chosen other ∷ []) = line ++ decided choice chosen other ∷ []
put_phases going line (p ∷ q ∷ ps) = line ++ (p ∷ q ∷ ps)

-- whether the next straight command joins the last phase then
abbrev pub last_phase_goes_on : (going : Bool) → (further : List Phase) → Bool
last_phase_goes_on going [] = going
last_phase_goes_on going (straight cs ∷ []) = true
last_phase_goes_on going (turns loop held_access_count body ∷ []) = false
last_phase_goes_on going (repeated loop body ∷ []) = false
last_phase_goes_on going (decided choice chosen other ∷ []) = false
last_phase_goes_on going (p ∷ q ∷ ps) = false

-- Where a walk stands.

-- of each command the number of its phases is known
abbrev mutual
  pub TellsStages : (ℕ → ℕ) → Action → Type 0
  TellsStages f (action id place form) = (f id ≡ form_phase_kind form) × TellInside f form

  pub TellInside : (ℕ → ℕ) → ActionForm → Type 0
  TellInside f (lets name declared value) = Unit {0}
  TellInside f (lets_memory name shape shape_places value) = Unit {0}
  TellInside f (views name parent form) = Unit {0}
  TellInside f (assigns target value) = Unit {0}
  TellInside f (stores target value) = Unit {0}
  TellInside f (reduces target op value) = Unit {0}
  TellInside f (calls function arguments) = Unit {0}
  TellInside f (blocks body) = TellGroups f body
  TellInside f (decides test chosen other) = TellsStages f chosen × TellOther f other
  TellInside f (repeats test body) = TellsStages f body
  TellInside f (counts iterator declared low high factor body combine combine_place) = TellsStages f body × TellOther f combine

  pub TellOther : (ℕ → ℕ) → MaybeAction → Type 0
  TellOther f no_action = Unit {0}
  TellOther f (one_action a) = TellsStages f a

  pub TellGroups : (ℕ → ℕ) → Groups → Type 0
  TellGroups f no_groups = Unit {0}
  TellGroups f (group_then part rest) = TellPart f part × TellGroups f rest

  pub TellPart : (ℕ → ℕ) → Actions → Type 0
  TellPart f no_actions = Unit {0}
  TellPart f (action_then a rest) = TellsStages f a × TellPart f rest

-- the walk stands behind a line of phases, whose lengths it tells behind others: all but those of the open phase,
-- whose levels it holds
pub record WalkStandsBehind (known : Known) (base : List ℕ) (w : PhaseWalk) (line : List Phase) : Type 0 where
  pub lengths : w.lengths.items ≡ base ++ lengths_in (told w.held.shares.now) known (front line)
  pub seen : levels_seen w.held ≡ commands_leveled (told w.held.shares.now) 0 (core_commands known (last_open line)) level_ground
  pub open_so : w.pending ≡ is_some_command (last_open line)
  pub fresh : undone_levels w.held.log.items (table_at w.held.variables.items) ≡ (λ e. 0)
  pub sound : HasSoundLevels w.held
  pub full : line ≡ front line ++ one_straight (last_open line)

-- What steps make of it.

-- the length of the phase that is held is told, and it is over
pub record TellsPhaseLength (old new : PhaseWalk) : Type 0 where
  pub lengths : new.lengths.items ≡ old.lengths.items ++ (min old.held.most (held_access_count old.held) + 1) ∷ []
  pub ends : EndsPhase old.held new.held
  pub going : new.going ≡ old.going
  pub open_so : new.pending ≡ old.pending

-- all phases of the line are told
pub record IsClosed (known : Known) (base : List ℕ) (line : List Phase) (old new : PhaseWalk) : Type 0 where
  pub stands : WalkStandsBehind known (base ++ lengths_in (told old.held.shares.now) known line) new []
  pub going : new.going ≡ false
  pub counted : held_access_count new.held ≡ held_access_count old.held
  pub shares : new.held.shares.now ≡ old.held.shares.now

abbrev pub Closes : (old new : PhaseWalk) → Type 0
Closes old new = (known : Known) (base : List ℕ) (line : List Phase) → WalkStandsBehind known base old line → IsClosed known base line old new

-- a phase goes on, or the next one begins
abbrev pub OpensBy : (going : Bool) → (old new : PhaseWalk) → Type 0
OpensBy true old new = new ≡ old
OpensBy false old new = Closes old new

-- a test is told behind all phases of the line
pub record TestIsTold (known : Known) (base : List ℕ) (line : List Phase) (test : Expr) (old new : PhaseWalk) : Type 0 where
  pub stands : WalkStandsBehind known
      ((base ++ lengths_in (told old.held.shares.now) known line) ++ block_length (told old.held.shares.now) (tests (core_term known (held_access_count old.held) (term_seen test))) ∷ [])
      new []
  pub going : new.going ≡ false
  pub counted : held_access_count new.held ≡ held_access_count old.held + term_accesses (term_seen test)
  pub shares : new.held.shares.now ≡ old.held.shares.now

abbrev pub WalksTest : (ways : Leads) → (old new : PhaseWalk) → Expr → Type 0
WalksTest ways old new test = (known : Known) → IsLedBy ways known → (base : List ℕ) (line : List Phase) → WalkStandsBehind known base old line → TestIsTold known base line test old new

-- further phases, with so many accesses
pub record PhasesAreWalked (known : Known) (base : List ℕ) (line : List Phase) (old new : PhaseWalk) (further : List Phase) (n : ℕ) : Type 0 where
  pub stands : WalkStandsBehind known base new (put_phases old.going line further)
  pub going : new.going ≡ last_phase_goes_on old.going further
  pub counted : held_access_count new.held ≡ held_access_count old.held + n
  pub shares : new.held.shares.now ≡ old.held.shares.now

abbrev pub WalksStraight : (ways : Leads) → (old new : PhaseWalk) → Command → Type 0
WalksStraight ways old new c =
    (known : Known) → IsLedBy ways known → (r : Around) (base : List ℕ) (line : List Phase) → phase_kind (action_seen c) ≡ 1 → WalkStandsBehind known base old line
    → PhasesAreWalked known base line old new (phases r (held_access_count old.held) (action_seen c)) (accesses_of (action_seen c))

abbrev pub WalksCommand : (ways : Leads) → (stages : List ℕ) → (old new : PhaseWalk) → Command → Type 0
WalksCommand ways stages old new c =
    (known : Known) → IsLedBy ways known → (r : Around) (base : List ℕ) (line : List Phase) → TellsStages (table_at stages) (action_seen c) → WalkStandsBehind known base old line
    → PhasesAreWalked known base line old new (phases r (held_access_count old.held) (action_seen c)) (accesses_of (action_seen c))

abbrev pub WalksOther : (ways : Leads) → (stages : List ℕ) → (old new : PhaseWalk) → Option (Box Command Global) → Type 0
WalksOther ways stages old new other =
    (known : Known) → IsLedBy ways known → (r : Around) (base : List ℕ) (line : List Phase) → TellOther (table_at stages) (maybe_seen (option_map (λ b. action_seen b.value) other)) → WalkStandsBehind known base old line
    → PhasesAreWalked known base line old new (other_phases r (held_access_count old.held) (maybe_seen (option_map (λ b. action_seen b.value) other))) (other_accesses (maybe_seen (option_map (λ b. action_seen b.value) other)))
