-- The tokens of a text with their places, and where a text is refused.
use Rattle.std.specs.Prelude.{◌≡◌, ℕ, ◌+◌, ◌^◌, ◌<◌, ◌≤◌, ◌==◌, if◌then◌else◌, List, [], ◌∷◌, ◌++◌, length, drop, Bool, Option, Some, None, Result, Ok, Err, MatchResult, Vec}
use Rattle.std.specs.declared.alloc.Global.{Global}
use Rattle.dh_base.specs.declared.faults.PassFault.{PassFault}
use Rattle.dh_base.specs.declared.faults.PassFault.TheVariants as fault
use Rattle.dh_base.specs.declared.places.Place.{Place}
use Rattle.dh_base.specs.declared.rules.Rule.TheVariants as rule
use Rattle.dh_tree.specs.Names.{IsName}
use Rattle.dh_lexer.specs.declared.fronts.Front.{Front}
use Rattle.dh_lexer.specs.declared.fronts.Front.TheVariants as front
use Rattle.dh_lexer.specs.declared.tokens.Token.{Token}
use Rattle.dh_lexer.specs.declared.tokens.TokenKind.{TokenKind}
use Rattle.dh_lexer.specs.declared.tokens.TokenKind.TheVariants as kind
use Rattle.dh_lexer.specs.FrontPiece.{front_of}
use Rattle.dh_lexer.specs.Pieces.{Piece, gap, token, bytes, Stands, Cuts}

-- a place
abbrev pub text_place : ℕ → ℕ → Place
text_place line column = record { line = line; column = column }

-- the place after a byte that stands here: a line ends with a line feed
abbrev pub next_place : Place → ℕ → Place
next_place place b = if b == 10 then text_place (place.line + 1) 1 else text_place place.line (place.column + 1)

-- the place after bytes that begin here
abbrev pub place_from : Place → List ℕ → Place
place_from place [] = place
place_from place (b ∷ bs) = place_from (next_place place b) bs

-- where a text goes on after these bytes
abbrev pub place_after_bytes : List ℕ → Place
place_after_bytes before = place_from (text_place 1 1) before

-- a token at its place
abbrev pub token_placed : TokenKind → Place → Token
token_placed k place = record { kind = k; place = place }

-- what is kept of a piece that begins at a place
abbrev pub kept : Front → Place → List Token
kept front.Gap place = []
kept (front.Token k) place = token_placed k place ∷ []

-- tokens, and behind them what is kept of a piece that begins at a place, if it is stored
abbrev pub with_kept : Bool → List Token → Front → Place → List Token
with_kept stored tokens front place = if stored then tokens ++ kept front place else tokens

-- how long a piece is that was found; 0 where none was
abbrev pub length_found : Option (Front × ℕ) → ℕ
length_found None = 0
length_found (Some p) = p.1

-- so many bytes from here on are the piece that stands here
abbrev pub TakesFront : List ℕ → (at taken : ℕ) → Type 0
TakesFront text at taken = (taken ≡ length_found (front_of (drop at text))) × ((0 < taken) × (at + taken ≤ length text))

-- tokens, and behind them what is kept of a piece that was found at a place
abbrev pub with_found : List Token → Option (Front × ℕ) → Place → List Token
with_found tokens None place = tokens
with_found tokens (Some p) place = tokens ++ kept p.0 place

-- a piece was found of which a token is kept
abbrev pub TokenIsKept : Option (Front × ℕ) → Place → Type 0
TokenIsKept None place = ⊥
TokenIsKept (Some p) place = kept p.0 place ≡ [] → ⊥

-- what is found is kept and its length answered, and memory is wanting only where a token is kept
abbrev pub TakesFound : {E : Type 0} → Option (Front × ℕ) → Place → (old new : List Token) → Result ℕ E → Type 0
TakesFound found place old new result = MatchResult result (λ n. (n ≡ length_found found) × (new ≡ with_found old found place)) (λ _. TokenIsKept found place)

-- a place has room in a machine's words for so many bytes more
abbrev pub PlaceFits : Place → ℕ → Type 0
PlaceFits place more = (place.line + more < 2 ^ 32) × (place.column + more < 2 ^ 32)

-- the bytes of all pieces
abbrev pub all_bytes : List Piece → List ℕ
all_bytes [] = []
all_bytes (p ∷ ps) = bytes p ++ all_bytes ps

-- the tokens among the pieces, after the bytes before
abbrev pub tokens_among : List ℕ → List Piece → List Token
tokens_among before [] = []
tokens_among before (gap w ∷ ps) = tokens_among (before ++ w) ps
tokens_among before (token k w ∷ ps) = token_placed k (place_after_bytes before) ∷ tokens_among (before ++ w) ps

-- the text has these tokens, of which the last is the end
pub record HasTokens (text : List ℕ) (tokens : List Token) : Type 0 where
  pub pieces : List Piece
  pub cut : Cuts text pieces []
  pub are : tokens ≡ tokens_among [] pieces ++ token_placed kind.End (place_after_bytes text) ∷ []

-- the text is cut into pieces up to this place, and no piece stands there
pub record IsBreach (text : List ℕ) (place : Place) : Type 0 where
  pub pieces : List Piece
  pub rest : List ℕ
  pub cut : Cuts text pieces rest
  pub filled : 0 < length rest
  pub none : (p : Piece) (more : List ℕ) → rest ≡ bytes p ++ more → Stands p more → ⊥
  pub is : place ≡ place_after_bytes (all_bytes pieces)

-- a text has one list of tokens at most
abbrev pub TokensAreOne : List ℕ → Type 0
TokensAreOne text = (ts us : List Token) → HasTokens text ts → HasTokens text us → ts ≡ us

-- a text is refused at one place at most
abbrev pub BreachIsOne : List ℕ → Type 0
BreachIsOne text = (p q : Place) → IsBreach text p → IsBreach text q → p ≡ q

-- a text that has tokens is refused nowhere
abbrev pub TokensExcludeBreach : List ℕ → Type 0
TokensExcludeBreach text = (ts : List Token) (p : Place) → HasTokens text ts → IsBreach text p → ⊥

-- a text is answered by its tokens, or by where it breaks the rule on tokens
abbrev pub Lexed : List ℕ → Result (Vec Token Global) PassFault → Type 0
Lexed text (Ok v) = HasTokens text v.items × ((ts : List Token) → HasTokens text ts → ts ≡ v.items)
Lexed text (Err (fault.Refused r place)) =
    (r ≡ rule.Lex) × (IsBreach text place × (((p : Place) → IsBreach text p → p ≡ place) × ((ts : List Token) → HasTokens text ts → ⊥)))
Lexed text (Err fault.NoMemory) = Unit {0}

-- what a token holds: names are names, and numbers are below 2^64
abbrev pub IsSoundToken : TokenKind → Type 0
IsSoundToken (kind.Name n) = IsName n
IsSoundToken (kind.Number n) = n < 2 ^ 64
IsSoundToken _ = Unit {0}

-- the last token is the end, and no other is
abbrev pub AreEnded : List Token → Type 0
AreEnded [] = ⊥
AreEnded (t ∷ []) = t.kind ≡ kind.End
AreEnded (t ∷ (u ∷ ts)) = (t.kind ≡ kind.End → ⊥) × (IsSoundToken t.kind × AreEnded (u ∷ ts))

-- what readers of tokens ask for
pub record AreReadyTokens (text : List ℕ) (tokens : List Token) : Type 0 where
  pub few : length tokens ≤ length text + 1
  pub ended : AreEnded tokens
