-- Which trees tokens spell, and at which token a list of tokens ceases to begin a program.
use Rattle.std.specs.Prelude.{◌≡◌, Bool, true, false, if◌then◌else◌, List, [], ◌∷◌, ◌++◌, length, Result, Ok, Err}
use Rattle.dh_base.specs.declared.faults.PassFault.{PassFault}
use Rattle.dh_base.specs.declared.faults.PassFault.TheVariants as fault
use Rattle.dh_base.specs.declared.rules.Rule.{Rule}
use Rattle.dh_base.specs.declared.rules.Rule.TheVariants as rules
use Rattle.dh_lexer.specs.declared.tokens.TokenKind.{TokenKind}
use Rattle.dh_lexer.specs.declared.tokens.TokenKind.TheVariants as kind
use Rattle.dh_tree.specs.declared.trees.programs.Tree.{Tree}
use Rattle.dh_tree.specs.Seen.{program_seen}
use Rattle.dh_base.specs.declared.places.Place.{Place}
use Rattle.dh_lexer.specs.declared.tokens.Token.{Token}
use Rattle.dh_lexer.specs.LexedText.{AreEnded}
use Rattle.dh_parser.specs.Grammar.{ProgramText}
use Rattle.dh_parser.specs.Spelling.{spell_program}
use Rattle.dh_parser.specs.Allowed.{ProgramFits}
use Rattle.dh_tree.specs.PlainTrees.{Program}
use Rattle.dh_tree.specs.Written.{IsOfText}
use Rattle.dh_parser.specs.TreesOfTexts.{program_of}
use Rattle.dh_parser.specs.Reading.{Outcome, good, bad, deep, the_program}

-- the tree is that of a text of the grammar with these tokens
pub record Spells (tree : Program) (tokens : List Token) : Type 0 where
  pub text : ProgramText
  pub fits : ProgramFits text
  pub tokens_are : spell_program text [] ≡ tokens
  pub tree_is : program_of text ≡ tree

-- what the text spells is read as that text
abbrev pub IsReadAgain : ProgramText → Type 0
IsReadAgain p = the_program (spell_program p []) ≡ good p []

-- a tree that these tokens spell is that of a text, if they end
abbrev pub IsOfTextIfSpelled : Program → List Token → Type 0
IsOfTextIfSpelled p tokens = Spells p tokens → AreEnded tokens → IsOfText (length tokens) p

-- the tokens of some program begin so
pub record Begins (tokens : List Token) : Type 0 where
  pub text : ProgramText
  pub rest : List Token
  pub fits : ProgramFits text
  pub tokens_are : spell_program text [] ≡ tokens ++ rest

-- a token that is out of place: some program begins with the tokens before it, and none with it too
pub record OutOfPlace (tokens before : List Token) (token : Token) (after : List Token) : Type 0 where
  pub all : tokens ≡ before ++ token ∷ after
  pub viable : Begins before
  pub dead : Begins (before ++ token ∷ []) → ⊥

-- one token at most is out of place
abbrev pub AtMostOneOutOfPlace : List Token → Type 0
AtMostOneOutOfPlace tokens =
    (b c : List Token) (t u : Token) (a d : List Token) → OutOfPlace tokens b t a → OutOfPlace tokens c u d → (b ≡ c) × (t ≡ u)

-- no token is out of place, if these tokens spell the tree
abbrev pub NoneOutOfPlaceIfSpelled : Program → List Token → Type 0
NoneOutOfPlaceIfSpelled p tokens = (b : List Token) (t : Token) (a : List Token) → Spells p tokens → OutOfPlace tokens b t a → ⊥

-- reading a program does not give up
abbrev pub IsAnswered : Outcome ProgramText → Type 0
IsAnswered (good p rest) = Unit {0}
IsAnswered (bad rest) = Unit {0}
IsAnswered deep = ⊥

-- what reading a program comes to is right: what was read has the tokens that were taken
abbrev pub IsSoundReading : List Token → Outcome ProgramText → Type 0
IsSoundReading tokens (good p rest) = ProgramFits p × (tokens ≡ spell_program p rest)
IsSoundReading tokens (bad rest) = Unit {0}
IsSoundReading tokens deep = Unit {0}

-- what reading a list of tokens that ends with `End` comes to: all of it, or a token that is out of place
abbrev pub IsPlaced : List Token → Outcome ProgramText → Type 0
IsPlaced tokens (good p rest) = rest ≡ []
IsPlaced tokens (bad []) = ⊥
IsPlaced tokens (bad (t ∷ after)) = (before : List Token) × OutOfPlace tokens before t after
IsPlaced tokens deep = ⊥

abbrev pub is_kind_word : TokenKind → Bool
is_kind_word kind.Bit = true
is_kind_word kind.Ubit = true
is_kind_word _ = false

abbrev pub is_less : TokenKind → Bool
is_less kind.Less = true
is_less _ = false

-- whether the tokens end with `bit <` or `ubit <`, so that the width of a kind comes next
abbrev pub ends_before_width : List Token → Bool
ends_before_width [] = false
ends_before_width (t ∷ []) = false
ends_before_width (t ∷ (u ∷ [])) = if is_kind_word t.kind then is_less u.kind else false
ends_before_width (t ∷ (u ∷ (v ∷ ts))) = ends_before_width (u ∷ (v ∷ ts))

-- whether a token is one that the language leaves out, or stands for the width of a kind after these
abbrev pub is_left_out : List Token → TokenKind → Bool
is_left_out before (kind.Out w) = true
is_left_out before kind.Slash = true
is_left_out before kind.Percent = true
is_left_out before kind.SlashAssign = true
is_left_out before (kind.Number n) = ends_before_width before
is_left_out before _ = false

-- the rule by which a token is refused after these
abbrev pub rule_at : List Token → Token → Rule
rule_at before token = if is_left_out before token.kind then rules.Unsupported else rules.Syntax

-- a token that is out of place, with its rule and its place
pub record RefusedAt (tokens : List Token) (rule : Rule) (place : Place) : Type 0 where
  pub before : List Token
  pub token : Token
  pub after : List Token
  pub out : OutOfPlace tokens before token after
  pub by_rule : rule ≡ rule_at before token
  pub at_place : place ≡ token.place

-- what parsing answers: the tree that the tokens spell, or the first token that no program has after those before it
abbrev pub Parses : List Token → Result Tree PassFault → Type 0
Parses tokens (Ok tree) = Spells (program_seen tree) tokens
Parses tokens (Err (fault.Refused rule place)) = RefusedAt tokens rule place
Parses tokens (Err fault.NoMemory) = Unit {0}
