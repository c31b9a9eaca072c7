-- The levels of the values that a view keeps, one by one, and what is held behind them.
use Rattle.std.specs.Prelude.{◌≡◌, ℕ, suc, ◌+◌, ◌≤◌, ◌&&◌, nat_le, nat_lt, List, [], ◌∷◌, ◌++◌, length, map, Option, Some, None}
use Rattle.std.specs.List.{AllByRecursion}
use Rattle.dh_tree.specs.declared.trees.commands.ViewForm.{ViewForm}
use Rattle.dh_tree.specs.declared.trees.expressions.Ref.{Ref}
use Rattle.dh_tree.specs.PlainTrees.{Term}
use Rattle.dh_tree.specs.Seen.{view_plan, terms}
use Rattle.dh_tree.specs.ViewOffsets.{offsets_of}
use Rattle.dh_meaning.specs.AccessNumbers.{plan_accesses, terms_accesses}
use Rattle.dh_meaning.specs.Core.{CoreTerms, no_terms, term_and, no_commands}
use Rattle.dh_meaning.specs.CoreOf.{core_terms, kept_by, way_of}
use Rattle.dh_meaning.specs.Levels.{Levels, term_leveled, with_value, with_variables}
use Rattle.dh_meaning.specs.Ways.{Hidden, hidden_in}
use Rattle.dh_lengths.specs.declared.leads.Leads.{Leads}
use Rattle.dh_events.specs.Tables.{table_at}
use Rattle.dh_lengths.specs.declared.held.PhaseLevels.{PhaseLevels}
use Rattle.dh_lengths.specs.declared.undoing.LevelMark.{LevelMark}
use Rattle.dh_lengths.specs.SharedReads.{told}
use Rattle.dh_lengths.specs.Undone.{has_mark, undone_levels}
use Rattle.dh_lengths.specs.HeldLevels.{held_access_count, levels_seen, HasSoundLevels, KeepsVariableLevels, Leveling}
use Rattle.dh_lengths.specs.LedBy.{way_by}
use Rattle.dh_lengths.specs.LeveledCommands.{GivesCommands}

abbrev pub each_level : (shared : ℕ → Option ℕ) → (outer : ℕ) → CoreTerms → Levels → List ℕ
each_level shared outer no_terms l = []
each_level shared outer (term_and t ts) l = (term_leveled shared outer t l).level ∷ each_level shared outer ts (term_leveled shared outer t l).levels

abbrev pub levels_behind : (shared : ℕ → Option ℕ) → (outer : ℕ) → CoreTerms → Levels → Levels
levels_behind shared outer no_terms l = l
levels_behind shared outer (term_and t ts) l = levels_behind shared outer ts (term_leveled shared outer t l).levels

-- variables from one on are set to levels, the last of them first
abbrev pub set_levels_from : (first : ℕ) → List ℕ → Levels → Levels
set_levels_from first [] l = l
set_levels_from first (n ∷ ns) l = with_variables (set_levels_from (suc first) ns l) (with_value (set_levels_from (suc first) ns l).variables first n)

-- the level of each value, with the levels behind them
pub record GivesEach (old new : PhaseLevels) (each : List ℕ) (behind : Levels) (levels : List ℕ) (n : ℕ) : Type 0 where
  pub is : levels ≡ each
  pub seen : levels_seen new ≡ behind
  pub sound : HasSoundLevels new
  pub low : AllByRecursion (λ level. level ≤ held_access_count new) levels
  pub counted : held_access_count new ≡ held_access_count old + n
  pub keeps : KeepsVariableLevels old new

abbrev pub LevelsEach : Leads → (old new : PhaseLevels) → (outer : ℕ) → List Term → (levels : List ℕ) → Type 0
LevelsEach ways old new outer ts levels =
    Leveling ways old outer (λ known.
    GivesEach old new (each_level (told old.shares.now) outer (core_terms known (held_access_count old) (terms ts)) (levels_seen old)) (levels_behind (told old.shares.now) outer (core_terms known (held_access_count old) (terms ts)) (levels_seen old)) levels (terms_accesses (terms ts)))

-- the variables from one on have these levels
pub record SetsLevels (old new : PhaseLevels) (first : ℕ) (levels : List ℕ) : Type 0 where
  pub seen : levels_seen new ≡ set_levels_from first levels (levels_seen old)
  pub reads : new.reads.items ≡ old.reads.items
  pub shares : new.shares.now ≡ old.shares.now
  pub begun : new.first ≡ old.first
  pub changes : List LevelMark
  pub log : new.log.items ≡ old.log.items ++ changes
  pub undoes : undone_levels changes (table_at new.variables.items) ≡ table_at old.variables.items
  pub marks : (e : ℕ) → has_mark e changes ≡ (nat_le first e && nat_lt e (first + length levels))

-- the number of the first variable that keeps an offset on the way of a name
abbrev pub first_hidden_variable : List Hidden → Option ℕ
first_hidden_variable [] = None
first_hidden_variable (h ∷ hs) = Some h.entity

abbrev pub first_kept : Leads → Option ℕ → Option ℕ
first_kept ways entity = first_hidden_variable (hidden_in (way_by ways entity))

-- a view's command
abbrev pub LevelsView : Leads → (old new : PhaseLevels) → (outer : ℕ) → Ref → ViewForm → Type 0
LevelsView ways old new outer name form =
    Leveling ways old outer (λ known.
    GivesCommands old new outer (kept_by (hidden_in (way_of known name)) (core_terms known (held_access_count old) (terms (offsets_of (view_plan form)))) no_commands) (plan_accesses (view_plan form)))
