-- When the values of expressions are there. A value is there at the clock of its level; no operation of an expression
-- is there later than the greatest level so far. It is stated for every list of clocks that agrees with the operations
-- so far, each at the least clock at which all is there that it takes.
use Rattle.std.specs.Prelude.{◌≡◌, ℕ, ◌+◌, ◌-◌, ◌<◌, ◌≤◌, List, [], length, map, slice_get, slice_index, Option, Some, None}
use Rattle.dh_tree.specs.declared.trees.counters.Counter.{Counter}
use Rattle.dh_tree.specs.declared.trees.expressions.Ref.{Ref}
use Rattle.dh_tree.specs.PlainTrees as plain
use Rattle.dh_meaning.specs.CoreOf.{core_term, core_terms, target_to, way_of}
use Rattle.dh_meaning.specs.Levels.{Leveled, Levels, target_leveled, term_leveled, terms_leveled}
use Rattle.dh_code.specs.declared.places.VariableSlots.{VariableSlots}
use Rattle.dh_code.specs.Slots.{held_at}
use Rattle.dh_plan.specs.declared.operations.Operation.{Operation}
use Rattle.dh_plan.specs.LegalSchedules.{greatest_number, there_at}
use Rattle.dh_plan.specs.Ordered.{operation_takes, reach_takes}
use Rattle.dh_expressions.specs.declared.accesses.Accesses.{Accesses}
use Rattle.dh_expressions.specs.declared.accesses.Touched.{Touched}
use Rattle.dh_expressions.specs.declared.copies.AccessAt.{AccessAt}
use Rattle.dh_expressions.specs.declared.drafts.Draft.{Draft}
use Rattle.dh_expressions.specs.declared.elements.Aim.{Aim}
use Rattle.dh_expressions.specs.declared.scenes.Lane.{Lane}
use Rattle.dh_expressions.specs.declared.scenes.Scene.{Scene}
use Rattle.dh_formed.specs.Counted.{ExpressionBegins}
use Rattle.dh_expressions.specs.Drafted.{Extends}
use Rattle.dh_expressions.specs.Evaluated.{counter_of, known_in}
use Rattle.dh_formed.specs.Formed.{FormedBlock, IsScope, BlockSite}
use Rattle.dh_expressions.specs.Noted.{given_in, touched_in}
use Rattle.dh_expressions.specs.Reaching.{reach_told}
use Rattle.dh_expressions.specs.Shown.{register_at}

-- a block with the clock at which each of its values is there; the level of each of its reads, and that of the tests
-- round each of its accesses
pub record BlockClocks : Type 0 where
  pub block : FormedBlock
  pub there : List ℕ
  pub reads : (number : ℕ) → ℕ
  pub outer : (number : ℕ) → ℕ

abbrev pub clock_of : BlockClocks → (number : ℕ) → ℕ
clock_of c number = slice_index c.there (number - c.block.first)

-- the clocks agree with the operations so far
pub record AgreeInTime (c : BlockClocks) (d : Draft) : Type 0 where
  pub each : (n : ℕ) (o : Operation) → c.block.first ≤ n → slice_get d.operations.items n ≡ Some o → clock_of c n ≡ there_at o.form (greatest_number (map (clock_of c) (operation_takes o)))

abbrev pub StartedInTime : BlockClocks → Draft → Type 0
StartedInTime c d = c.block.first ≤ length d.operations.items

-- a value is there at this clock
abbrev pub HasClock : BlockClocks → (clock number : ℕ) → Type 0
HasClock c clock number = clock_of c number ≡ clock

-- so is a guard; one that always holds is there from the begin
abbrev pub GuardAt : BlockClocks → (clock : ℕ) → Option ℕ → Type 0
GuardAt c clock None = clock ≡ 0
GuardAt c clock (Some number) = HasClock c clock number

-- no operation that was added is there later
abbrev pub Within : BlockClocks → (old new : Draft) → (clock : ℕ) → Type 0
Within c old new clock = (n : ℕ) → length old.operations.items ≤ n → n < length new.operations.items → clock_of c n ≤ clock

-- Operations that make a value of a clock, and are there no later.
pub record TimesValue (old new : Draft) (value : ℕ) (Where : BlockClocks → Type 0) (clock : BlockClocks → ℕ) : Type 0 where
  pub extends : Extends old new
  pub within : (c : BlockClocks) → AgreeInTime c new → StartedInTime c old → Where c → Within c old new (clock c)
  pub at : (c : BlockClocks) → AgreeInTime c new → StartedInTime c old → Where c → HasClock c (clock c) value

-- What stands round an expression.

-- what reads of the block gave is there at their levels, and the guard of a copy that leads at that of the tests
pub record NotedInTime (c : BlockClocks) (a : Accesses) : Type 0 where
  pub given : (number path value : ℕ) (s : BlockSite) → c.block.sites number ≡ Some s → given_in a number path ≡ Some value → HasClock c (c.reads number) value
  pub guards : (number : ℕ) (t : Touched) (s : BlockSite) → c.block.sites number ≡ Some s → touched_in a number ≡ Some t
      → (path : ℕ) (copy : AccessAt) → slice_get t.copies path ≡ Some copy → s.standing.leader path ≡ path → GuardAt c (c.outer number) copy.guard

-- what a variable was given is there at its level; what it holds from an earlier step, and an iterator, at the begin
abbrev pub CurrentAt : BlockClocks → Option (Option ℕ) → (level : ℕ) → Type 0
CurrentAt c None level = level ≡ 0
CurrentAt c (Some None) level = level ≡ 0
CurrentAt c (Some (Some value)) level = HasClock c level value

abbrev pub VariableAt : BlockClocks → Option Counter → VariableSlots → Lane → (current : List (Option ℕ)) → (level : ℕ) → Type 0
VariableAt c None held lane current level = CurrentAt c (slice_get current (register_at held lane)) level
VariableAt c (Some counter) held lane current level = level ≡ 0

abbrev pub EntityAt : BlockClocks → Scene → Lane → (current : List (Option ℕ)) → Levels → (entity : ℕ) → Type 0
EntityAt c scene lane current l entity = VariableAt c (counter_of scene entity) (held_at scene.held.now entity) lane current (l.variables entity)

-- no level is above the greatest
pub record AreBounded (l : Levels) : Type 0 where
  pub variables : (entity : ℕ) → l.variables entity ≤ l.most
  pub reads : (number : ℕ) → l.reads number ≤ l.most

-- the reads of the block before this number have their levels
abbrev pub ReadsAgree : BlockClocks → Levels → (n : ℕ) → Type 0
ReadsAgree c l n = (m : ℕ) (s : BlockSite) → c.block.sites m ≡ Some s → m < n → l.reads m ≡ c.reads m

pub record StandsInTime (c : BlockClocks) (old new : Draft) (scene : Scene) (lane : Lane) (current : List (Option ℕ)) (before : Accesses) (shared : ℕ → Option ℕ) (outer n count : ℕ) (l : Levels) : Type 0 where
  pub stands : ExpressionBegins c.block old new scene lane current before n count
  pub agree : AgreeInTime c new
  pub bounded : AreBounded l
  pub guards : (path : ℕ) (guard : Option ℕ) → slice_get lane.around.guards.now path ≡ Some guard → GuardAt c outer guard
  pub noted : NotedInTime c before
  pub outer_few : outer ≤ l.most
  pub outers : (m : ℕ) → n ≤ m → m < n + count → c.outer m ≡ outer
  pub shares : (m : ℕ) → n ≤ m → m < n + count → slice_get scene.shares.now m ≡ Some (shared m)

-- the levels behind an expression whose accesses are numbered from n on, and that of its value
abbrev pub leveled : Scene → (shared : ℕ → Option ℕ) → (outer n : ℕ) → plain.Term → Levels → Leveled
leveled scene shared outer n t l = term_leveled shared outer (core_term (known_in scene) n t) l

abbrev pub all_leveled : Scene → (shared : ℕ → Option ℕ) → (outer n : ℕ) → plain.Terms → Levels → Leveled
all_leveled scene shared outer n ts l = terms_leveled shared outer (core_terms (known_in scene) n ts) l

-- and behind indices and what keeps the offsets on the way of what they name
abbrev pub named_leveled : Scene → (shared : ℕ → Option ℕ) → (outer n : ℕ) → Ref → plain.Terms → Levels → Leveled
named_leveled scene shared outer n r ts l = target_leveled shared outer (target_to (way_of (known_in scene) r) (core_terms (known_in scene) n ts)) l

-- an expression at a path
pub record TimesTerm (c : BlockClocks) (old new : Draft) (after : Accesses) (made : Leveled) (value : ℕ) : Type 0 where
  pub within : Within c old new made.levels.most
  pub at : HasClock c made.level value
  pub noted : NotedInTime c after

pub record TimesTerms (c : BlockClocks) (old new : Draft) (after : Accesses) (made : Leveled) (values : List ℕ) : Type 0 where
  pub within : Within c old new made.levels.most
  pub at : greatest_number (map (clock_of c) values) ≡ made.level
  pub noted : NotedInTime c after

-- What the levels behind an expression are to those before it: variables have the same, and of reads those of its own
-- accesses alone are others. None is above the greatest; and the greatest is no more than it was, or than one of those
-- reads.
pub record LevelsThen (n count : ℕ) (l : Levels) (made : Leveled) : Type 0 where
  pub variables : (entity : ℕ) → made.levels.variables entity ≡ l.variables entity
  pub before_them : (m : ℕ) → m < n → made.levels.reads m ≡ l.reads m
  pub behind_them : (m : ℕ) → n + count ≤ m → made.levels.reads m ≡ l.reads m
  pub more : l.most ≤ made.levels.most
  pub bounded : AreBounded l → AreBounded made.levels
  pub level_few : AreBounded l → made.level ≤ made.levels.most
  pub least : (k : ℕ) → l.most ≤ k → ((m : ℕ) → n ≤ m → m < n + count → made.levels.reads m ≤ k) → made.levels.most ≤ k

-- the clock at which the values are there that name an element
abbrev pub aim_clock : BlockClocks → (memory : ℕ) → Aim → ℕ
aim_clock c memory aim = greatest_number (map (clock_of c) (reach_takes (reach_told memory aim [])))

-- the values that name an element, through views or not
pub record TimesAim (c : BlockClocks) (old new : Draft) (after : Accesses) (made : Leveled) (memory : ℕ) (aim : Aim) : Type 0 where
  pub within : Within c old new made.levels.most
  pub at : aim_clock c memory aim ≡ made.level
  pub noted : NotedInTime c after

-- the writing of a value of a level at a path, under tests of this level
pub record StandsToWrite (c : BlockClocks) (old new : Draft) (scene : Scene) (lane : Lane) (current : List (Option ℕ)) (before : Accesses) (memory : ℕ) (aim : Aim) (outer level value most : ℕ) : Type 0 where
  pub started : StartedInTime c old
  pub scope : IsScope c.block old scene lane current
  pub agree : AgreeInTime c new
  pub guards : (path : ℕ) (guard : Option ℕ) → slice_get lane.around.guards.now path ≡ Some guard → GuardAt c outer guard
  pub noted : NotedInTime c before
  pub own : c.outer aim.number ≡ outer
  pub at : HasClock c level value
  pub outer_few : outer ≤ most
  pub aim_few : aim_clock c memory aim ≤ most
  pub level_few : level ≤ most

pub record TimesWrite (c : BlockClocks) (old new : Draft) (after : Accesses) (most : ℕ) : Type 0 where
  pub within : Within c old new most
  pub noted : NotedInTime c after
