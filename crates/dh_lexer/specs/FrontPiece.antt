-- The piece that a text begins with, as a function: what the lexer computes. That it is the one of
-- `Pieces` is proved, and holds of `lex` by its contract.
use Rattle.std.specs.Prelude.{ℕ, ◌+◌, ◌^◌, Bool, ◌&&◌, ◌||◌, ◌==◌, not, nat_lt, List, [], ◌∷◌, length, take, drop, slice_index, bytes_eq, if◌then◌else◌, Option, Some, None, option_map, ◌≡◌, Result, MatchResult}
use Rattle.std.specs.List.{prefix_len, list_all}
use Rattle.std.specs.Char.{is_ascii_alphanumeric, is_ascii_digit, is_digit}
use Rattle.std.specs.Str.Parse.{digits_value}
use Rattle.dh_lexer.specs.Spellings.{Entry, words, long_signs, short_signs}
use Rattle.dh_lexer.specs.declared.fronts.Front.{Front}
use Rattle.dh_lexer.specs.declared.fronts.Front.TheVariants as front
use Rattle.dh_lexer.specs.declared.tokens.TokenKind.{TokenKind}
use Rattle.dh_lexer.specs.declared.tokens.TokenKind.TheVariants as kind

-- space, tab, line feed, carriage return
abbrev pub is_space : ℕ → Bool
is_space b = (b == 32) || ((b == 9) || ((b == 10) || (b == 13)))

-- an ASCII letter, a digit or `_`
abbrev pub is_name_byte : ℕ → Bool
is_name_byte b = is_ascii_alphanumeric b || (b == 95)

-- no line feed
abbrev pub is_in_line : ℕ → Bool
is_in_line b = not (b == 10)

-- how many letters, digits and `_` a text begins with
abbrev pub run_len : List ℕ → ℕ
run_len = prefix_len is_name_byte

-- how many bytes the rest of a line has
abbrev pub line_len : List ℕ → ℕ
line_len = prefix_len is_in_line

-- how many bytes there are up to and with the first `*/`
abbrev pub block_len : List ℕ → Option ℕ
block_len [] = None
block_len (b ∷ bs) = if (b == 42) && (slice_index bs 0 == 47) then Some 2 else option_map (λ n. n + 1) (block_len bs)

-- the token that a table lists for a spelling
abbrev pub look_up : List Entry → List ℕ → Option TokenKind
look_up [] w = None
look_up (e ∷ es) w = if bytes_eq w e.0 then Some e.1 else look_up es w

-- the first of two that is there
abbrev pub either : {A : Type 0} → Option A → Option A → Option A
either (Some x) other = Some x
either None other = other

-- the word of the language, or that it keeps out
unfoldable pub kept_word : List ℕ → Option TokenKind
kept_word w = look_up words w

-- the entries of a table whose spelling has so many bytes
abbrev pub of_length : ℕ → List Entry → List Entry
of_length n [] = []
of_length n (e ∷ es) = if length e.0 == n then e ∷ of_length n es else of_length n es

-- the same of a word of so many bytes
unfoldable pub word_of_length : ℕ → List ℕ → Option TokenKind
word_of_length n w = look_up (of_length n words) w

-- the token of a word
unfoldable pub word_kind : List ℕ → Option TokenKind
word_kind w = either (kept_word w) (Some (kind.Name w))

-- whether digits write a number below 2^64
abbrev pub is_numeral : ℕ → List ℕ → Bool
is_numeral radix ds = nat_lt 0 (length ds) && (list_all (λ c. is_digit c radix) ds && nat_lt (digits_value radix ds) (2 ^ 64))

-- the number that digits write
unfoldable pub digits_number : ℕ → List ℕ → Option ℕ
digits_number radix ds = if is_numeral radix ds then Some (digits_value radix ds) else None

-- the number that begins with a digit
unfoldable pub scanned_number : List ℕ → Option ℕ
scanned_number w =
    if (slice_index w 0 == 48) && (slice_index w 1 == 120) then digits_number 16 (drop 2 w) else
    (if (slice_index w 0 == 48) && not (length w == 1) then None else digits_number 10 w)

-- the token that is a whole run of letters, digits and `_`
unfoldable pub run_of : List ℕ → Option TokenKind
run_of w = if is_ascii_digit (slice_index w 0) then option_map kind.Number (scanned_number w) else word_kind w

-- a token of so many bytes
abbrev pub found_token : TokenKind → ℕ → Option (TokenKind × ℕ)
found_token k n = Some (k, n)

-- the sign of two bytes
unfoldable pub long_sign : ℕ → ℕ → Option TokenKind
long_sign b c = look_up long_signs (b ∷ c ∷ [])

-- the sign of one byte
unfoldable pub short_sign : ℕ → Option TokenKind
short_sign b = look_up short_signs (b ∷ [])

-- the longest sign that begins with the byte b, and its length, where c and d follow (0 past the end)
unfoldable pub sign : ℕ → ℕ → ℕ → Option (TokenKind × ℕ)
sign b c d =
    if (b == 45) && ((c == 45) && (d == 45)) then found_token kind.Dashes 3 else
    either (option_map (λ k. (k, 2)) (long_sign b c)) (option_map (λ k. (k, 1)) (short_sign b))

-- the longest token that the text begins with, and its length
unfoldable pub token_of : List ℕ → Option (TokenKind × ℕ)
token_of l =
    if is_name_byte (slice_index l 0) then option_map (λ k. (k, run_len l)) (run_of (take (run_len l) l)) else
    sign (slice_index l 0) (slice_index l 1) (slice_index l 2)

-- a gap of so many bytes
abbrev pub gap_of : ℕ → Front × ℕ
gap_of n = (front.Gap, n)

-- the comment that a text begins with whose first bytes are `/*`, up to and with the first `*/`
abbrev pub comment_of : List ℕ → Option (Front × ℕ)
comment_of l = option_map (λ n. gap_of (2 + n)) (block_len (drop 2 l))

-- a token of so many bytes
abbrev pub front_token : TokenKind × ℕ → Front × ℕ
front_token t = (front.Token t.0, t.1)

-- the piece that the text begins with, and its length
unfoldable pub front_of : List ℕ → Option (Front × ℕ)
front_of l =
    if is_space (slice_index l 0) then Some (gap_of 1) else
    (if (slice_index l 0 == 47) && (slice_index l 1 == 47) then Some (gap_of (2 + line_len (drop 2 l))) else
    (if (slice_index l 0 == 47) && (slice_index l 1 == 42) then comment_of l else
    option_map front_token (token_of l)))

-- a token was found that is a name, the one kind that takes memory
abbrev pub IsNamed : Option TokenKind → Type 0
IsNamed (Some (kind.Name n)) = Unit {0}
IsNamed _ = ⊥

-- the same with its length
abbrev pub IsNamedToken : Option (TokenKind × ℕ) → Type 0
IsNamedToken (Some t) = IsNamed (Some t.0)
IsNamedToken None = ⊥

-- what is found is answered, and memory is wanting only where what is found takes some
abbrev pub AnswersFound : {A E : Type 0} → (A → Type 0) → A → Result A E → Type 0
AnswersFound TakesMemory found_token result = MatchResult result (λ o. o ≡ found_token) (λ _. TakesMemory found_token)
