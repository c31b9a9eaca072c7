-- Guards of the arms of an `if`, and the variables behind it.
use Rattle.std.specs.Prelude.{◌≡◌, ℕ, ◌<◌, ◌&&◌, Bool as Truth, if◌then◌else◌, List, length, slice_get, slice_index_or, Option, Some, None}
use Rattle.dh_value.specs.declared.words.Word.{Word}
use Rattle.dh_value.specs.Operations.{is_true}
use Rattle.dh_plan.specs.Blocks.{is_on}
use Rattle.dh_expressions.specs.declared.drafts.Draft.{Draft}
use Rattle.dh_expressions.specs.Drafted.{BlockBegun, Extends, FitsStep, BlockStep, word_shown, tale}
use Rattle.dh_expressions.specs.Shown.{guard_of, variable_shown}
use Rattle.dh_commands.specs.declared.assignments.Change.{Change}
use Rattle.dh_commands.specs.declared.assignments.Values.{Values}
use Rattle.dh_commands.specs.declared.choices.Choice.{Choice}
use Rattle.dh_commands.specs.LanesRun.{comes_out}
use Rattle.dh_commands.specs.Joined.{AreApartChoices}
use Rattle.dh_commands.specs.Undone.{Assigns, Logs}

-- operations that tell nothing whatever the guards
pub record TellsNothing (old new : Draft) : Type 0 where
  pub extends : Extends old new
  pub quiet : (x : BlockStep) → FitsStep x new → BlockBegun x old → tale x new ≡ tale x old

-- a guard that holds where another does and a truth
pub record MakesGuard (old new : Draft) (guard : Option ℕ) (truth : BlockStep → Truth) (made : ℕ) : Type 0 where
  pub adds : TellsNothing old new
  pub on : (x : BlockStep) → FitsStep x new → BlockBegun x old → is_on x.first x.words (Some made) ≡ (is_on x.first x.words guard && truth x)

-- the guards of an arm at the first paths, so many, by the values of its test
pub record MakesGuards (old new : Draft) (guards : List (Option ℕ)) (tests : List ℕ) (holds : Truth) (count : ℕ) (arm : List (Option ℕ)) : Type 0 where
  pub adds : TellsNothing old new
  pub long : length arm ≡ count
  pub on : (x : BlockStep) → FitsStep x new → BlockBegun x old → (number test : ℕ) → number < count → slice_get tests number ≡ Some test
      → is_on x.first x.words (guard_of arm number) ≡ (is_on x.first x.words (guard_of guards number) && comes_out holds (is_true (word_shown x test)))

-- what a variable shows behind an arm that left this of it, or nothing
abbrev pub behind_shown : BlockStep → (current : List (Option ℕ)) → (register : ℕ) → Option ℕ → Word
behind_shown x current register None = variable_shown x current register
behind_shown x current register (Some value) = word_shown x value

-- the values of a test at paths
abbrev pub test_shown : BlockStep → (tests : List ℕ) → (path : ℕ) → Truth
test_shown x tests path = is_true (word_shown x (slice_index_or tests path 0))

abbrev pub choice_word_shown : BlockStep → (tests : List ℕ) → (before : List (Option ℕ)) → Choice → Word
choice_word_shown x tests before c =
    if test_shown x tests c.path then behind_shown x before c.register c.chosen else behind_shown x before c.register c.other

-- a change is that of a choice
pub record IsOfChoice (choices : List Choice) (c : Change) : Type 0 where
  pub number : ℕ
  pub choice : Choice
  pub there : slice_get choices number ≡ Some choice
  pub register_is : c.register ≡ choice.register
  pub path_is : c.path ≡ choice.path

-- of the first choices, so many, each variable shows what its test picks; all others show what they did
pub record Chooses (old new : Draft) (before after : Values) (tests : List ℕ) (choices : List Choice) (count : ℕ) : Type 0 where
  pub adds : TellsNothing old new
  pub logs : Logs (IsOfChoice choices) before after
  pub picked : AreApartChoices choices → (x : BlockStep) → FitsStep x new → BlockBegun x old → (k : ℕ) (c : Choice) → k < count → slice_get choices k ≡ Some c → c.register < length before.current.items → c.path < length tests
      → variable_shown x after.current.items c.register ≡ choice_word_shown x tests before.current.items c
  pub others : (register : ℕ) → ((k : ℕ) (c : Choice) → k < count → slice_get choices k ≡ Some c → c.register ≡ register → ⊥)
      → slice_get after.current.items register ≡ slice_get before.current.items register

-- one choice is made
pub record ChoosesOne (old new : Draft) (before after : Values) (test : ℕ) (c : Choice) : Type 0 where
  pub adds : TellsNothing old new
  pub value : ℕ
  pub is : (x : BlockStep) → FitsStep x new → BlockBegun x old
      → word_shown x value ≡ (if is_true (word_shown x test) then behind_shown x before.current.items c.register c.chosen else behind_shown x before.current.items c.register c.other)
  pub assigns : Assigns before after c.register c.path value
