-- Values of expressions that make no access, and what a state keeps where nothing happens.
use Rattle.std.proofs.Common.{◌≡◌, ℕ, ◌<◌, List, [], ◌++◌, length, Ok, Some, None, refl, ap, sym, ◌∙◌, subst, append-nil, bit_and}
use Rattle.std.specs.Prelude.{Option, slice_index, slice_set}
use Rattle.std.proofs.lemmas.List.{get_or-set_same}
use Rattle.dh_value.specs.declared.kinds.Kind.{Kind}
use Rattle.dh_value.specs.declared.operators.Op.{Op}
use Rattle.dh_value.specs.declared.words.Word.{Word}
use Rattle.dh_value.specs.Words.{IsKind, with_bits}
use Rattle.dh_meaning.specs.Effects.{Event}
use Rattle.dh_code.specs.declared.codes.FlatExpression.{FlatExpression}
use Rattle.dh_code.specs.declared.codes.Operand.{Operand}
use Rattle.dh_code.specs.declared.codes.Operand.TheVariants.{Given}
use Rattle.dh_code.specs.declared.codes.CodeOperation.TheVariants.{Binary}
use Rattle.dh_code.specs.declared.evaluating.StepContext.{StepContext}
use Rattle.dh_code.specs.declared.running.StepState.{StepState}
use Rattle.dh_code.specs.declared.spending.Bank.{Bank}
use Rattle.dh_code.specs.Operated.{Sight, combined_word, lowest_word, mask_of, operand_word, sight}
use Rattle.dh_code.specs.Scenes.{SpendsMore, flat_events}
use Rattle.dh_code.specs.Spent.{HaveSpent}
use Rattle.dh_code.specs.States.{KeepsVariables}
use Rattle.dh_code.specs.Worths.{IsGivenBy, IsSingleValue}
use Rattle.dh_code.proofs.OperandMasks.{masked_is_word, masked_word}

-- an operand that an operation gave
pub given_is : (kind : Kind) (number at mask bits : ℕ) → number ≡ at → IsKind kind → mask ≡ mask_of kind → IsGivenBy (Given kind number mask) at bits (Some (with_bits kind (bit_and bits mask)))
given_is kind number at mask bits same sized is = (
  λ w room. masked_word kind bits mask sized is ∙ ap (λ n. lowest_word kind n) (sym (ap (λ k. slice_index (slice_set w.given at bits) k) same ∙ get_or-set_same w.given at bits 0 room)),
  masked_is_word kind bits mask sized is,
)

-- an operator's value
pub single_is : (s : StepContext) (w : Sight) (operand : Operand) (at : ℕ) (op : Op) (left right : Operand) (bits : ℕ) (result : Option Word) → bits ≡ (combined_word w op left right).bits → at < length w.given → IsGivenBy operand at bits result
    → IsSingleValue s w operand at (Binary op left right) result
single_is s w operand at op left right bits None same room given = tt
single_is s w operand at op left right bits (Some word) same room given =
    (given.0 w room ∙ ap (λ n. operand_word (sight w.slots (slice_set w.given at n) w.ranks) operand) same, (refl, given.1))

-- nothing is spent where nothing happens
pub worth_spends : {A : Type 0} (s : StepContext) (w : Sight) (f : FlatExpression) (banks : List Bank) (a : A) → flat_events s w f ≡ [] → SpendsMore {A = A} s banks (Ok a) banks (flat_events s w f)
worth_spends s w f banks a none = λ es h. subst (λ (l : List Event). HaveSpent s.entries.now l s.step banks) (sym (ap (λ (l : List Event). es ++ l) none ∙ append-nil es)) h

pub nothing_changes : (state : StepState) → KeepsVariables state state
nothing_changes state = record { variables = refl; writes = refl; changes = refl }
