-- The length of a block in clocks. A read shows its element a clock later; so a value has a level, the
-- clock of the step at which it is there, from 0. The level of a read is one more than the greatest among
-- its indices and the tests of the arms round it in its block; a read that shares an earlier one has that
-- one's level. What a variable holds from an earlier step has level 0. A value has the greatest level of its
-- operands; and behind an `if`, a variable that an arm assigns has that of the test and of both arms'
-- values. A block is as long as one more than the greatest level of its reads. (Levels are this project's.)
-- All copies of a command have one structure, so that levels need no paths.
use Rattle.std.specs.Prelude.{ℕ, zero, suc, ◌+◌, ◌==◌, ◌&&◌, ◌||◌, nat_le, nat_lt, max, Bool, true, false, if◌then◌else◌, Option, Some, None}
use Rattle.dh_meaning.specs.Core.{Reach, CoreTerm, literal, truth_literal, variable, read, binary, convert, Target, by_indices, by_row, by_views, CoreTerms, no_terms, term_and, CoreCommand, store, assign, choose, keep, CoreCommands, no_commands, command_and, count_terms}
use Rattle.dh_meaning.specs.Effects.{Block, commands, tests}

-- of each variable by its entity, of each read by its number, and the greatest of the reads so far
pub record Levels : Type 0 where
  pub variables : ℕ → ℕ
  pub reads : ℕ → ℕ
  pub most : ℕ

-- as a block begins
abbrev pub level_ground : Levels
level_ground = record { variables = λ entity. 0; reads = λ number. 0; most = 0 }

-- a value's level, and the levels then
pub record Leveled : Type 0 where
  pub level : ℕ
  pub levels : Levels

-- one value of a function changed
abbrev pub with_value : (ℕ → ℕ) → (key value : ℕ) → ℕ → ℕ
with_value f key value n = if n == key then value else f n

-- a read of a number has this level
abbrev pub read_at : Reach → (level : ℕ) → Levels → Leveled
read_at r level l = record { level = level; levels = record { variables = l.variables; reads = with_value l.reads r.number level; most = max l.most level } }

-- `shared` tells of each read the earlier one that it shares, `outer` is the level of the tests round it
abbrev pub read_leveled : (shared : ℕ → Option ℕ) → (outer : ℕ) → Reach → Leveled → Leveled
read_leveled shared outer r i = by_share (shared r.number)
  where
    by_share : Option ℕ → Leveled
    by_share None = read_at r (suc (max i.level outer)) i.levels
    by_share (Some earlier) = read_at r (i.levels.reads earlier) i.levels

abbrev pub greatest : (level : ℕ) → Leveled → Leveled
greatest level l = record { level = max level l.level; levels = l.levels }

abbrev mutual
  pub term_leveled : (shared : ℕ → Option ℕ) → (outer : ℕ) → CoreTerm → Levels → Leveled
  term_leveled shared outer (literal kind negative n) l = record { level = 0; levels = l }
  term_leveled shared outer (truth_literal value) l = record { level = 0; levels = l }
  term_leveled shared outer (variable kind depth entity) l = record { level = l.variables entity; levels = l }
  term_leveled shared outer (read r target) l = read_leveled shared outer r (target_leveled shared outer target l)
  term_leveled shared outer (binary op left right) l =
      greatest (term_leveled shared outer left l).level (term_leveled shared outer right (term_leveled shared outer left l).levels)
  term_leveled shared outer (convert to inner) l = term_leveled shared outer inner l

  pub target_leveled : (shared : ℕ → Option ℕ) → (outer : ℕ) → Target → Levels → Leveled
  target_leveled shared outer (by_indices indices) l = terms_leveled shared outer indices l
  target_leveled shared outer (by_views steps n terms) l = terms_leveled shared outer terms l
  target_leveled shared outer (by_row bank row) l = term_leveled shared outer row l

  pub terms_leveled : (shared : ℕ → Option ℕ) → (outer : ℕ) → CoreTerms → Levels → Leveled
  terms_leveled shared outer no_terms l = record { level = 0; levels = l }
  terms_leveled shared outer (term_and t ts) l =
      greatest (term_leveled shared outer t l).level (terms_leveled shared outer ts (term_leveled shared outer t l).levels)

abbrev mutual
  -- whether commands assign to a variable
  pub assigns_to : (entity : ℕ) → CoreCommand → Bool
  assigns_to entity (store r target value) = false
  assigns_to entity (assign depth other value) = entity == other
  assigns_to entity (keep depth first values) = nat_le first entity && nat_lt entity (first + count_terms values)
  assigns_to entity (choose test chosen other) = any_assigns entity chosen || any_assigns entity other

  pub any_assigns : (entity : ℕ) → CoreCommands → Bool
  any_assigns entity no_commands = false
  any_assigns entity (command_and c cs) = assigns_to entity c || any_assigns entity cs

-- the levels with those of the variables put so
abbrev pub with_variables : Levels → (ℕ → ℕ) → Levels
with_variables l variables = record { variables = variables; reads = l.reads; most = l.most }

-- values that are kept: each variable has its own value's level, which it has for what stands behind all of them
abbrev pub kept_leveled : (shared : ℕ → Option ℕ) → (outer : ℕ) → (first : ℕ) → CoreTerms → Levels → Levels
kept_leveled shared outer first no_terms l = l
kept_leveled shared outer first (term_and t ts) l =
    with_variables (kept_leveled shared outer (suc first) ts (term_leveled shared outer t l).levels)
    (with_value (kept_leveled shared outer (suc first) ts (term_leveled shared outer t l).levels).variables first (term_leveled shared outer t l).level)

-- behind an `if`: what an arm assigns has the level of the test and of both arms' values
abbrev pub arms_joined : (test : ℕ) → (chosen other : CoreCommands) → (before after_chosen after_other : ℕ → ℕ) → ℕ → ℕ
arms_joined test chosen other before after_chosen after_other entity =
    if any_assigns entity chosen || any_assigns entity other then max test (max (after_chosen entity) (after_other entity)) else before entity

-- the levels behind an `if`, from those behind its test and behind its arms: the second arm begins with the
-- variables as they were before the first, and knows of its reads
abbrev pub choice_levels : Leveled → (chosen other : CoreCommands) → (after_chosen after_other : Levels) → Levels
choice_levels t chosen other after_chosen after_other =
    with_variables after_other (arms_joined t.level chosen other t.levels.variables after_chosen.variables after_other.variables)

abbrev mutual
  pub command_leveled : (shared : ℕ → Option ℕ) → (outer : ℕ) → CoreCommand → Levels → Levels
  command_leveled shared outer (store r target value) l = (target_leveled shared outer target (term_leveled shared outer value l).levels).levels
  command_leveled shared outer (assign depth entity value) l =
      with_variables (term_leveled shared outer value l).levels (with_value (term_leveled shared outer value l).levels.variables entity (term_leveled shared outer value l).level)
  command_leveled shared outer (keep depth first values) l = kept_leveled shared outer first values l
  command_leveled shared outer (choose test chosen other) l =
      choice_levels (term_leveled shared outer test l) chosen other
      (commands_leveled shared (max outer (term_leveled shared outer test l).level) chosen (term_leveled shared outer test l).levels)
      (commands_leveled shared (max outer (term_leveled shared outer test l).level) other
      (with_variables (commands_leveled shared (max outer (term_leveled shared outer test l).level) chosen (term_leveled shared outer test l).levels) (term_leveled shared outer test l).levels.variables))

  pub commands_leveled : (shared : ℕ → Option ℕ) → (outer : ℕ) → CoreCommands → Levels → Levels
  commands_leveled shared outer no_commands l = l
  commands_leveled shared outer (command_and c cs) l = commands_leveled shared outer cs (command_leveled shared outer c l)

-- the length of a block in clocks
abbrev pub block_length : (shared : ℕ → Option ℕ) → Block → ℕ
block_length shared (commands cs) = suc (commands_leveled shared 0 cs level_ground).most
block_length shared (tests t) = suc (term_leveled shared 0 t level_ground).levels.most
