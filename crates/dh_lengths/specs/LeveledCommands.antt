-- What straight commands make of the levels that are held.
use Rattle.std.specs.Prelude.{◌≡◌, ℕ, ◌+◌, List, ◌++◌, Bool, Option, option_map, Box}
use Rattle.std.specs.Global.{Global}
use Rattle.dh_tree.specs.declared.trees.commands.Command.{Command}
use Rattle.dh_tree.specs.declared.trees.expressions.Expr.{Expr}
use Rattle.dh_tree.specs.declared.trees.expressions.Ref.{Ref}
use Rattle.dh_tree.specs.Seen.{action_seen, maybe_seen, term_seen}
use Rattle.dh_value.specs.declared.operators.Op.{Op}
use Rattle.dh_meaning.specs.AccessNumbers.{accesses_of, other_accesses, term_accesses}
use Rattle.dh_meaning.specs.Bindings.{kind_found}
use Rattle.dh_meaning.specs.Core.{CoreCommands, no_commands, command_and}
use Rattle.dh_meaning.specs.CoreOf.{Known, core_action, core_other, core_term, folded_into}
use Rattle.dh_meaning.specs.Levels.{any_assigns, commands_leveled}
use Rattle.dh_lengths.specs.declared.leads.Leads.{Leads}
use Rattle.dh_events.specs.Tables.{table_at}
use Rattle.dh_lengths.specs.declared.held.PhaseLevels.{PhaseLevels}
use Rattle.dh_lengths.specs.declared.undoing.LevelMark.{LevelMark}
use Rattle.dh_lengths.specs.SharedReads.{told}
use Rattle.dh_lengths.specs.Undone.{has_mark, undone_levels}
use Rattle.dh_lengths.specs.HeldLevels.{held_access_count, levels_seen, HasSoundLevels, Leveling}

-- the levels of commands, with what was before each change of a variable
pub record GivesCommands (old new : PhaseLevels) (outer : ℕ) (cs : CoreCommands) (n : ℕ) : Type 0 where
  pub seen : levels_seen new ≡ commands_leveled (told old.shares.now) outer cs (levels_seen old)
  pub sound : HasSoundLevels new
  pub counted : held_access_count new ≡ held_access_count old + n
  pub shares : new.shares.now ≡ old.shares.now
  pub first : new.first ≡ old.first
  pub changes : List LevelMark
  pub log : new.log.items ≡ old.log.items ++ changes
  pub undoes : undone_levels changes (table_at new.variables.items) ≡ table_at old.variables.items
  pub marks : (e : ℕ) → has_mark e changes ≡ any_assigns e cs

abbrev pub LevelsCommand : (ways : Leads) → (old new : PhaseLevels) → (outer : ℕ) → Command → Type 0
LevelsCommand ways old new outer c = Leveling ways old outer (λ known. GivesCommands old new outer (core_action known (held_access_count old) (action_seen c) no_commands) (accesses_of (action_seen c)))

abbrev pub LevelsOther : (ways : Leads) → (old new : PhaseLevels) → (outer : ℕ) → Option (Box Command Global) → Type 0
LevelsOther ways old new outer other =
    Leveling ways old outer (λ known. GivesCommands old new outer (core_other known (held_access_count old) (maybe_seen (option_map (λ b. action_seen b.value) other))) (other_accesses (maybe_seen (option_map (λ b. action_seen b.value) other))))

-- a reducer, whatever its operator
abbrev pub LevelsReduce : (ways : Leads) → (old new : PhaseLevels) → (outer : ℕ) → Ref → Expr → Type 0
LevelsReduce ways old new outer target value =
    Leveling ways old outer (λ known. (op : Op) → GivesCommands old new outer (command_and (folded_into known target op (kind_found (term_seen value)) (core_term known (held_access_count old) (term_seen value))) no_commands) (term_accesses (term_seen value)))
