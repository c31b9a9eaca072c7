-- Reading of expressions is sound: part by part, and for operators by recursion on the steps. What
-- is chained is on the left of the operator, so that it has the operator's level.
use Rattle.std.proofs.Common.{◌≡◌, ℕ, zero, suc, List, [], ◌∷◌, length, refl}
use Rattle.dh_base.specs.declared.places.Place.{Place}
use Rattle.dh_lexer.specs.declared.tokens.Token.{Token}
use Rattle.dh_lexer.specs.declared.tokens.TokenKind.{TokenKind}
use Rattle.dh_lexer.specs.declared.tokens.TokenKind.TheVariants as kind
use Rattle.dh_lexer.specs.LexedText.{token_placed}
use Rattle.dh_parser.specs.declared.parsing.reading.Mark.TheVariants as mark
use Rattle.dh_parser.specs.Marks.{comes}
use Rattle.dh_parser.specs.Grammar.{NameText, negative, variable, access, AccessText}
use Rattle.dh_parser.specs.Spelling.{put, put_name, put_number, spell_kind, spell, spell_access, spell_index, spell_indices}
use Rattle.dh_parser.specs.Allowed.{KindFits, ExpressionFits, AccessFits, IndexFits, IndicesFit}
use Rattle.dh_parser.specs.Reading.{Outcome, good, bad, deep, outcome_bind, the, name_text, the_number, the_kind, ExpressionReader, the_index, more_indices, access_from, access_goes_on, named_from, bracket_from, operand_from, operand}
use Rattle.dh_parser.proofs.SoundBasics.{Good, Took, any, next, either, put_mark, mark_took, number_took}
use Rattle.dh_parser.proofs.SoundTypes.{kind_took}

abbrev pub Sound : ExpressionReader → Type 0
Sound rd = (k : ℕ) (ts : List Token) → Took (ExpressionFits k) spell ts (rd k ts)

pub index_took : (rd : ExpressionReader) → Sound rd → (ts : List Token) → Took IndexFits spell_index ts (the_index rd ts)
index_took rd h ts =
    next any (put_mark mark.OpenBracket) ts _ (the mark.OpenBracket ts) _ (mark_took mark.OpenBracket ts) λ opener r0 _ e0.
    next (ExpressionFits 0) spell r0 _ (rd 0 r0) _ (h 0 r0) λ x r1 f1 e1.
    next any (put_mark mark.CloseBracket) r1 _ (the mark.CloseBracket r1) _ (mark_took mark.CloseBracket r1) λ closer r2 _ e2.
    (f1, cc)

pub indices_took : (rd : ExpressionReader) → Sound rd → (n : ℕ) (ts : List Token) → Took IndicesFit spell_indices ts (more_indices rd n ts)
indices_took rd h zero ts = tt
indices_took rd h (suc n) ts =
    either _ (comes mark.OpenBracket ts) _ _
    (λ _.
    next IndexFits spell_index ts _ (the_index rd ts) _ (index_took rd h ts) λ i r0 f0 e0.
    next IndicesFit spell_indices r0 _ (more_indices rd n r0) _ (indices_took rd h n r0) λ more r1 f1 e1.
    ((f0, f1), cc))
    (λ _. (tt, refl))

-- after its name an access has what was taken
abbrev pub after : NameText → (AccessText → List Token → List Token)
after n a x = spell_access a x

pub access_took : (rd : ExpressionReader) → Sound rd → (n : NameText) (ts : List Token) → Good (λ a rest. AccessFits a × (put_name n ts ≡ spell_access a rest)) (access_from rd n ts)
access_took rd h n ts =
    either _ (comes mark.OpenBrace ts) _ _
    (λ _.
    next any (put_mark mark.OpenBrace) ts _ (the mark.OpenBrace ts) _ (mark_took mark.OpenBrace ts) λ opener r0 _ e0.
    next any put_number r0 _ (the_number r0) _ (number_took r0) λ bank r1 _ e1.
    next any (put_mark mark.CloseBrace) r1 _ (the mark.CloseBrace r1) _ (mark_took mark.CloseBrace r1) λ closer r2 _ e2.
    next IndexFits spell_index r2 _ (the_index rd r2) _ (index_took rd h r2) λ i r3 f3 e3.
    (f3, cc))
    (λ _.
    next IndexFits spell_index ts _ (the_index rd ts) _ (index_took rd h ts) λ i r0 f0 e0.
    next IndicesFit spell_indices r0 _ (more_indices rd (suc (length r0)) r0) _ (indices_took rd h (suc (length r0)) r0) λ more r1 f1 e1.
    ((f0, f1), cc))

good_weaker : {A B : Type 0} (P : A → List Token → Type 0) (Q : B → List Token → Type 0) (make : A → B) (o : Outcome A) → Good P o → ((a : A) (r : List Token) → P a r → Q (make a) r) → Good Q (outcome_bind o (λ a r. good (make a) r))
good_weaker P Q make (good a r) p k = k a r p
good_weaker P Q make (bad r) p k = tt
good_weaker P Q make deep p k = tt

named_took : (rd : ExpressionReader) → Sound rd → (k : ℕ) (n : NameText) (ts : List Token) → Good (λ x rest. ExpressionFits k x × (put_name n ts ≡ spell x rest)) (named_from rd n ts)
named_took rd h k n ts =
    either _ (access_goes_on ts) _ (good (variable n) ts)
    (λ _. good_weaker _ (λ x rest. ExpressionFits k x × (put_name n ts ≡ spell x rest)) access (access_from rd n ts) (access_took rd h n ts) (λ a r p. p))
    (λ _. (tt, refl))

bracket_took : (rd : ExpressionReader) → Sound rd → (k : ℕ) (opener : Place) (ts : List Token) → Good (λ x rest. ExpressionFits k x × (put kind.OpenParen opener ts ≡ spell x rest)) (bracket_from rd opener ts)
bracket_took rd h k opener ts =
    next (ExpressionFits 0) spell ts _ (rd 0 ts) _ (h 0 ts) λ x r f e.
    either _ (comes mark.As r) _ _
    (λ _.
    next any (put_mark mark.As) r _ (the mark.As r) _ (mark_took mark.As r) λ word r0 _ e0.
    next KindFits spell_kind r0 _ (the_kind r0) _ (kind_took r0) λ kd r1 f1 e1.
    next any (put_mark mark.CloseParen) r1 _ (the mark.CloseParen r1) _ (mark_took mark.CloseParen r1) λ closer r2 _ e2.
    ((f, f1), cc))
    (λ _.
    next any (put_mark mark.CloseParen) r _ (the mark.CloseParen r) _ (mark_took mark.CloseParen r) λ closer r0 _ e0.
    (f, cc))

negative_took : (k : ℕ) (minus : Place) (ts : List Token) → Good (λ x rest. ExpressionFits k x × (put kind.Minus minus ts ≡ spell x rest)) (outcome_bind (the_number ts) (λ n r. good (negative minus n) r))
negative_took k minus ts =
    next any put_number ts _ (the_number ts) _ (number_took ts) λ n r0 _ e0.
    (tt, cc)

-- an operand whose first token is t
operand_took_from : (rd : ExpressionReader) → Sound rd → (k : ℕ) (kd : TokenKind) (t : Token) (ts : List Token) → Good (λ x rest. ExpressionFits k x × (token_placed kd t.place ∷ ts ≡ spell x rest)) (operand_from rd kd t ts)
operand_took_from rd h k (kind.Number n) t ts = (tt, refl)
operand_took_from rd h k kind.Minus t ts = negative_took k t.place ts
operand_took_from rd h k kind.True t ts = (tt, refl)
operand_took_from rd h k kind.False t ts = (tt, refl)
operand_took_from rd h k (kind.Name n) t ts = named_took rd h k (name_text n t.place) ts
operand_took_from rd h k kind.OpenParen t ts = bracket_took rd h k t.place ts
operand_took_from rd h k _ t ts = tt

pub operand_took : (rd : ExpressionReader) → Sound rd → (k : ℕ) (ts : List Token) → Took (ExpressionFits k) spell ts (operand rd ts)
operand_took rd h k [] = tt
operand_took rd h k (t ∷ ts) = operand_took_from rd h k t.kind t ts
