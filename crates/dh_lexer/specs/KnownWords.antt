-- Names that are kept to be shared, each of which is no word of the language.
use Rattle.std.specs.Prelude.{◌≡◌, ℕ, List, Option, Some, None, get_or}
use Rattle.dh_lexer.specs.FrontPiece.{kept_word}

-- no word of the language, and none that it keeps out
abbrev pub IsFree : List ℕ → Type 0
IsFree w = kept_word w ≡ None

-- the same of a name that may be kept
abbrev pub IsFreeName : Option (List ℕ) → Type 0
IsFreeName None = Unit {0}
IsFreeName (Some w) = IsFree w

-- the names that are kept are such
abbrev pub AreFree : List (Option (List ℕ)) → Type 0
AreFree names = (place : ℕ) → IsFreeName (get_or names place None)
