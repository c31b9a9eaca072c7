-- Values of expressions that make no access.
use Rattle.std.specs.Prelude.{◌≡◌, ℕ, ◌<◌, [], length, slice_set, Option, Some, None}
use Rattle.dh_value.specs.declared.words.Word.{Word}
use Rattle.dh_value.specs.Words.{IsWord}
use Rattle.dh_code.specs.declared.codes.FlatExpression.{FlatExpression}
use Rattle.dh_code.specs.declared.codes.Operand.{Operand}
use Rattle.dh_code.specs.declared.codes.CodeOperation.{CodeOperation}
use Rattle.dh_code.specs.declared.evaluating.StepContext.{StepContext}
use Rattle.dh_code.specs.Operated.{Sight, operand_word, sight, with_given}
use Rattle.dh_code.specs.Scenes.{begun_in, scene_events, flat_events, flat_word}

-- the value of an operand, where it is what the operation of a number gave, these bits
abbrev pub IsGivenBy : Operand → (at bits : ℕ) → Option Word → Type 0
IsGivenBy o at bits None = Unit {0}
IsGivenBy o at bits (Some word) = ((w : Sight) → at < length w.given → word ≡ operand_word (sight w.slots (slice_set w.given at bits) w.ranks) o) × IsWord word

-- the value of an operand behind an operation that makes no access
abbrev pub IsSingleValue : StepContext → Sight → Operand → (at : ℕ) → CodeOperation → Option Word → Type 0
IsSingleValue s w o at operation None = Unit {0}
IsSingleValue s w o at operation (Some word) = (word ≡ operand_word (with_given (begun_in s) w at operation) o) × ((scene_events s w operation ≡ []) × IsWord word)

-- the value of an expression that makes no access
abbrev pub IsWorth : StepContext → Sight → FlatExpression → Option Word → Type 0
IsWorth s w f None = Unit {0}
IsWorth s w f (Some word) = (word ≡ flat_word s w f) × ((flat_events s w f ≡ []) × IsWord word)
