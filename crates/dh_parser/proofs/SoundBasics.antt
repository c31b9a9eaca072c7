-- Reading is sound where every text that is read is allowed and is what was taken off the front. Of
-- a form of several parts this follows part by part.
use Rattle.std.proofs.Common.{◌≡◌, Bool, true, false, if◌then◌else◌, List, [], ◌∷◌, refl, ap}
use Rattle.dh_base.specs.declared.places.Place.{Place}
use Rattle.dh_lexer.specs.declared.tokens.Token.{Token}
use Rattle.dh_lexer.specs.declared.tokens.TokenKind.{TokenKind}
use Rattle.dh_lexer.specs.declared.tokens.TokenKind.TheVariants as kind
use Rattle.dh_lexer.specs.LexedText.{token_placed}
use Rattle.dh_parser.specs.declared.parsing.reading.Mark.{Mark}
use Rattle.dh_parser.specs.Marks.{kind_of_mark, is_mark}
use Rattle.dh_parser.specs.Spelling.{put, put_name, put_number}
use Rattle.dh_parser.specs.Reading.{Outcome, good, bad, deep, outcome_bind, the, name_from, the_name, number_from, the_number}
use Rattle.dh_parser.proofs.MarksTold.{told}

-- where something was read, this holds of it and of what is left
abbrev pub Good : {A : Type 0} → (A → List Token → Type 0) → Outcome A → Type 0
Good P (good a rest) = P a rest
Good P (bad rest) = Unit {0}
Good P deep = Unit {0}

-- what was read is allowed, and is what was taken off the front
abbrev pub Took : {A : Type 0} → (A → Type 0) → (A → List Token → List Token) → List Token → Outcome A → Type 0
Took F s ts o = Good (λ a rest. F a × (ts ≡ s a rest)) o

abbrev pub any : {A : Type 0} → A → Type 0
any a = Unit {0}

pub next : {A B : Type 0} (F : A → Type 0) (s : A → List Token → List Token) (ts : List Token) (Q : B → List Token → Type 0) (o : Outcome A) (go : A → List Token → Outcome B)
    → Took F s ts o → ((a : A) (r : List Token) → F a → ts ≡ s a r → Good Q (go a r)) → Good Q (outcome_bind o go)
next F s ts Q (good a r) go h k = k a r h.0 h.1
next F s ts Q (bad r) go h k = tt
next F s ts Q deep go h k = tt

pub either : {A : Type 0} (P : A → List Token → Type 0) (b : Bool) (x y : Outcome A) → (b ≡ true → Good P x) → (b ≡ false → Good P y) → Good P (if b then x else y)
either P true x y h k = h refl
either P false x y h k = k refl

abbrev pub put_mark : Mark → Place → List Token → List Token
put_mark m place x = put (kind_of_mark m) place x

pub mark_took : (m : Mark) (ts : List Token) → Took any (put_mark m) ts (the m ts)
mark_took m [] = tt
mark_took m (t ∷ ts) =
    either (λ place rest. Unit {0} × (t ∷ ts ≡ put_mark m place rest)) (is_mark t.kind m) (good t.place ts) (bad (t ∷ ts))
    (λ e. (tt, ap (λ k. token_placed k t.place ∷ ts) (told t.kind m e))) (λ e. tt)

name_took_from : (k : TokenKind) (t : Token) (ts : List Token) → t.kind ≡ k → Took any put_name (t ∷ ts) (name_from k t ts)
name_took_from (kind.Name n) t ts e = (tt, ap (λ k. token_placed k t.place ∷ ts) e)
name_took_from _ t ts e = tt

pub name_took : (ts : List Token) → Took any put_name ts (the_name ts)
name_took [] = tt
name_took (t ∷ ts) = name_took_from t.kind t ts refl

number_took_from : (k : TokenKind) (t : Token) (ts : List Token) → t.kind ≡ k → Took any put_number (t ∷ ts) (number_from k t ts)
number_took_from (kind.Number n) t ts e = (tt, ap (λ k. token_placed k t.place ∷ ts) e)
number_took_from _ t ts e = tt

pub number_took : (ts : List Token) → Took any put_number ts (the_number ts)
number_took [] = tt
number_took (t ∷ ts) = number_took_from t.kind t ts refl
