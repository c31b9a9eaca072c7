-- What the first tokens of a command without blocks say of it.
use Rattle.std.proofs.Common.{◌≡◌, Bool, true, false, if◌then◌else◌, List, ◌∷◌, ◌<◌, length, arith, Option, Some, None, option_map, Ok, [], subst, refl, ap, sym, ◌∙◌}
use Rattle.dh_base.specs.declared.places.Place.{Place}
use Rattle.dh_lexer.specs.declared.tokens.Token.{Token}
use Rattle.dh_lexer.specs.declared.tokens.TokenKind.{TokenKind}
use Rattle.dh_lexer.specs.declared.tokens.TokenKind.TheVariants as kind
use Rattle.dh_value.specs.declared.operators.Op.{Op}
use Rattle.dh_parser.specs.Grammar.{NameText, ReducerText, SimpleText, AccessText}
use Rattle.dh_parser.specs.TreesOfTexts.{reducer_op, access_of_text}
use Rattle.dh_parser.specs.Reading.{Outcome, bad, outcome_bind, the, the_name, name_from, reducer_from, reduce_from, after_name_from, after_name, simple_from, the_simple, the_index, more_indices, access_from, ExpressionReader, steps}
use Rattle.dh_parser.specs.declared.parsing.reading.Mark.TheVariants as mark
use Rattle.dh_parser.specs.Marks.{comes}
use Rattle.dh_parser.specs.Reading.{the_number}
use Rattle.dh_parser.specs.Answers.{IsFirstTokenPlace}
use Rattle.dh_parser.proofs.Going.{AllOf, all_then}
use Rattle.dh_tree.specs.Kinds.{place_of}

pub simple_at : (all ts : List Token) (t : Token) (k : TokenKind) → all ≡ t ∷ ts → t.kind ≡ k → the_simple all ≡ simple_from k t ts
simple_at all ts t k e f = ap the_simple e ∙ ap (λ x. simple_from x t ts) f

named_from : (k : TokenKind) (t : Token) (ts : List Token) → (k ≡ kind.Let → ⊥) → (k ≡ kind.View → ⊥) → simple_from k t ts ≡ outcome_bind (name_from k t ts) (λ n r. after_name n r)
named_from kind.Let t ts a b = absurd (a refl)
named_from kind.View t ts a b = absurd (b refl)
named_from (kind.Name n) t ts a b = refl
named_from _ t ts a b = refl

-- a command that begins with neither word begins with a name
pub named_simple : (all ts : List Token) (t : Token) → all ≡ t ∷ ts → (t.kind ≡ kind.Let → ⊥) → (t.kind ≡ kind.View → ⊥) → the_simple all ≡ outcome_bind (the_name all) (λ n r. after_name n r)
named_simple all ts t e a b = ap the_simple e ∙ (named_from t.kind t ts a b ∙ ap (λ l. outcome_bind (the_name l) (λ n r. after_name n r)) (sym e))

pub after_at : (n : NameText) (all ts : List Token) (t : Token) (k : TokenKind) → all ≡ t ∷ ts → t.kind ≡ k → after_name n all ≡ after_name_from n k t ts
after_at n all ts t k e f = ap (after_name n) e ∙ ap (λ x. after_name_from n x t ts) f

-- the reducer of a token, or that it is out of place
abbrev pub reduced : NameText → Option ReducerText → Token → List Token → Outcome SimpleText
reduced n None t ts = bad (t ∷ ts)
reduced n (Some r) t ts = reduce_from n r t.place ts

reduces_by : (n : NameText) (k : TokenKind) (t : Token) (ts : List Token) → (k ≡ kind.Becomes → ⊥) → (k ≡ kind.OpenParen → ⊥) → (k ≡ kind.OpenBracket → ⊥) → (k ≡ kind.OpenBrace → ⊥)
    → after_name_from n k t ts ≡ reduced n (reducer_from k) t ts
reduces_by n kind.Becomes t ts a b c d = absurd (a refl)
reduces_by n kind.OpenParen t ts a b c d = absurd (b refl)
reduces_by n kind.OpenBracket t ts a b c d = absurd (c refl)
reduces_by n kind.OpenBrace t ts a b c d = absurd (d refl)
reduces_by n kind.PlusAssign t ts a b c d = refl
reduces_by n kind.MinusAssign t ts a b c d = refl
reduces_by n kind.StarAssign t ts a b c d = refl
reduces_by n _ t ts a b c d = refl

pub reduces_at : (n : NameText) (all ts : List Token) (t : Token) → all ≡ t ∷ ts → (t.kind ≡ kind.Becomes → ⊥) → (t.kind ≡ kind.OpenParen → ⊥) → (t.kind ≡ kind.OpenBracket → ⊥) → (t.kind ≡ kind.OpenBrace → ⊥)
    → after_name n all ≡ reduced n (reducer_from t.kind) t ts
reduces_at n all ts t e a b c d = ap (after_name n) e ∙ reduces_by n t.kind t ts a b c d

-- an access begins at its name
pub access_starts : (read : ExpressionReader) (n : NameText) (ts : List Token) → AllOf (λ a. place_of (access_of_text a) ≡ n.place) (access_from read n ts)
access_starts read n ts = by (λ a. place_of (access_of_text a) ≡ n.place) (comes mark.OpenBrace ts) _ _
    (all_then _ (the mark.OpenBrace ts) _ λ opener r0.
    all_then _ (the_number r0) _ λ bank r1.
    all_then _ (the mark.CloseBrace r1) _ λ closer r2.
    all_then _ (the_index read r2) _ λ i r3. refl)
    (all_then _ (the_index read ts) _ λ i r0.
    all_then _ (more_indices read (steps r0) r0) _ λ more r1. refl)
  where
    by : (P : AccessText → Type 0) (b : Bool) (x y : Outcome AccessText) → AllOf P x → AllOf P y → AllOf P (if b then x else y)
    by P true x y p q = p
    by P false x y p q = q

pub reducer_some : (o : Option ReducerText) (p : Op) → Some p ≡ option_map reducer_op o → (r : ReducerText) × ((o ≡ Some r) × (p ≡ reducer_op r))
reducer_some None p e = absurd (cc e)
reducer_some (Some r) p e = (r, (refl, cc))

name_starts_from : (p : Place) (k : TokenKind) (t : Token) (ts : List Token) → t.place ≡ p → AllOf (λ n. n.place ≡ p) (name_from k t ts)
name_starts_from p (kind.Name n) t ts e = e
name_starts_from p _ t ts e = tt

pub name_starts : (p : Place) (ts : List Token) → IsFirstTokenPlace (Ok p) ts → AllOf (λ n. n.place ≡ p) (the_name ts)
name_starts p [] h = tt
name_starts p (t ∷ ts) h = name_starts_from p t.kind t ts (sym h)

pub stands : (p : Place) (all ts : List Token) (t : Token) → all ≡ t ∷ ts → IsFirstTokenPlace (Ok p) all → t.place ≡ p
stands p all ts t e h = sym (subst (λ l. IsFirstTokenPlace (Ok p) l) e h)

pub some_stand : (p : Place) (all : List Token) → IsFirstTokenPlace (Ok p) all → 0 < length all
some_stand p [] h = absurd h
some_stand p (t ∷ ts) h = omega arith
