-- A run that is no word of the language and begins with no digit is a name.
use Rattle.std.proofs.Common.{◌≡◌, ℕ, false, List, slice_index, refl, ap, ◌∙◌, Some}
use Rattle.std.specs.Char.{is_ascii_digit}
use Rattle.dh_lexer.specs.FrontPiece.{run_of, word_kind}
use Rattle.dh_lexer.specs.KnownWords.{IsFree}
use Rattle.dh_lexer.specs.declared.tokens.TokenKind.TheVariants as kind

pub free_run : (w : List ℕ) → is_ascii_digit (slice_index w 0) ≡ false → IsFree w → Some (kind.Name w) ≡ run_of w
unfolding run_of word_kind
free_run w letter free = rw (letter, free) refl

-- the same of a name that is found
pub known_run : (name w : List ℕ) → is_ascii_digit (slice_index w 0) ≡ false → (name ≡ w) × IsFree w → Some (kind.Name name) ≡ run_of w
known_run name w letter (same, free) = ap (λ n. Some (kind.Name n)) same ∙ free_run w letter free
