-- What a text is cut into (this profile's table of tokens): tokens, each the longest that begins
-- there, and between them spaces and comments.
use Rattle.std.specs.Prelude.{◌≡◌, ℕ, ◌<◌, ◌≤◌, ◌^◌, ◌⊎◌, List, [], ◌∷◌, ◌++◌, length, slice_index, codes}
use Rattle.std.specs.List.{AllByRecursion}
use Rattle.std.specs.Str.Parse.{IsNumeral, digits_value}
use Rattle.dh_tree.specs.Names.{IsName, IsNameByte}
use Rattle.dh_lexer.specs.Spellings.{Lists, words, dashes, long_signs, short_signs}
use Rattle.dh_lexer.specs.declared.tokens.TokenKind.{TokenKind}
use Rattle.dh_lexer.specs.declared.tokens.TokenKind.TheVariants as kind

-- decimal digits without a leading zero
pub record IsDecimal (n : ℕ) (w : List ℕ) : Type 0 where
  pub digits : IsNumeral 10 w
  pub alone : slice_index w 0 ≡ 48 → length w ≡ 1
  pub is : digits_value 10 w ≡ n

-- `0x` and hexadecimal digits
pub record IsHexadecimal (n : ℕ) (w : List ℕ) : Type 0 where
  pub digits : List ℕ
  pub spelled : w ≡ codes "0x" ++ digits
  pub numeral : IsNumeral 16 digits
  pub is : digits_value 16 digits ≡ n

-- the bytes write the number, at most 2^64 - 1
abbrev pub WritesNumber : ℕ → List ℕ → Type 0
WritesNumber n w = (n < 2 ^ 64) × (IsDecimal n w ⊎ IsHexadecimal n w)

-- a sign
abbrev pub IsSign : TokenKind → List ℕ → Type 0
IsSign k w = Lists dashes w k ⊎ (Lists long_signs w k ⊎ Lists short_signs w k)

-- a word, a name or a number
abbrev pub IsRun : TokenKind → List ℕ → Type 0
IsRun k w = Lists words w k ⊎ (((k ≡ kind.Name w) × IsName w) ⊎ ((n : ℕ) × ((k ≡ kind.Number n) × WritesNumber n w)))

-- the bytes spell the token
abbrev pub SpellsToken : TokenKind → List ℕ → Type 0
SpellsToken k w = IsSign k w ⊎ IsRun k w

-- space, tab, line feed, carriage return
abbrev pub IsSpace : ℕ → Type 0
IsSpace b = (b ≡ 32) ⊎ ((b ≡ 9) ⊎ ((b ≡ 10) ⊎ (b ≡ 13)))

-- the text does not begin with such a byte
abbrev pub BeginsWithout : (ℕ → Type 0) → List ℕ → Type 0
BeginsWithout P [] = Unit {0}
BeginsWithout P (b ∷ bs) = P b → ⊥

-- a byte of a line, which a line feed ends
abbrev pub InLine : ℕ → Type 0
InLine b = b ≡ 10 → ⊥

-- `//` to the end of the line
pub record IsLineComment (w rest : List ℕ) : Type 0 where
  pub body : List ℕ
  pub spelled : w ≡ codes "//" ++ body
  pub line : AllByRecursion InLine body
  pub ends : BeginsWithout InLine rest

-- `/*` to the next `*/`
pub record IsBlockComment (w : List ℕ) : Type 0 where
  pub body : List ℕ
  pub spelled : w ≡ codes "/*" ++ (body ++ codes "*/")
  pub next : (x y : List ℕ) → body ≡ x ++ (codes "*/" ++ y) → ⊥

-- what stands between tokens
abbrev pub IsGap : List ℕ → List ℕ → Type 0
IsGap w rest = ((b : ℕ) × ((w ≡ b ∷ []) × IsSpace b)) ⊎ (IsLineComment w rest ⊎ IsBlockComment w)

-- the text begins with `//` or `/*`
abbrev pub BeginsComment : List ℕ → Type 0
BeginsComment text = (slice_index text 0 ≡ 47) × ((slice_index text 1 ≡ 47) ⊎ (slice_index text 1 ≡ 42))

-- the token stands in front of the rest, and no longer one does. A number that a letter, a digit
-- or `_` follows is no token, nor is what begins a comment
pub record IsLongest (k : TokenKind) (w rest : List ℕ) : Type 0 where
  pub spelled : SpellsToken k w
  pub longest : (j : TokenKind) (v more : List ℕ) → SpellsToken j v → v ++ more ≡ w ++ rest → length v ≤ length w
  pub apart : (n : ℕ) → k ≡ kind.Number n → BeginsWithout IsNameByte rest
  pub plain : BeginsComment (w ++ rest) → ⊥

-- a space or a comment, or a token
pub data Piece : Type 0 where
  gap : (spelled : List ℕ) → Piece
  token : (is : TokenKind) → (spelled : List ℕ) → Piece

-- its bytes
abbrev pub bytes : Piece → List ℕ
bytes (gap w) = w
bytes (token k w) = w

-- it stands in front of the rest
abbrev pub Stands : Piece → List ℕ → Type 0
Stands (gap w) rest = IsGap w rest
Stands (token k w) rest = IsLongest k w rest

-- the text is cut into these pieces, and then the rest
abbrev pub Cuts : List ℕ → List Piece → List ℕ → Type 0
Cuts text [] rest = text ≡ rest
Cuts text (p ∷ ps) rest = (more : List ℕ) × ((text ≡ bytes p ++ more) × (Stands p more × Cuts more ps rest))
