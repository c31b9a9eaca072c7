-- Reading of kinds and types is sound, part by part.
use Rattle.std.proofs.Common.{◌≡◌, ℕ, zero, suc, ◌≤◌, Bool, true, false, if◌then◌else◌, List, [], ◌∷◌, length, refl, ap, ◌∙◌, nat_le}
use Rattle.std.proofs.lemmas.Bool.{leb-true}
use Rattle.dh_lexer.specs.declared.tokens.Token.{Token}
use Rattle.dh_lexer.specs.declared.tokens.TokenKind.{TokenKind}
use Rattle.dh_lexer.specs.declared.tokens.TokenKind.TheVariants as kind
use Rattle.dh_lexer.specs.LexedText.{token_placed}
use Rattle.dh_parser.specs.declared.parsing.reading.Mark.TheVariants as mark
use Rattle.dh_parser.specs.Marks.{comes}
use Rattle.dh_parser.specs.Grammar.{TypeText}
use Rattle.dh_parser.specs.Spelling.{put, put_number, spell_kind, spell_ports, spell_banks, spell_dims, spell_type}
use Rattle.dh_parser.specs.Allowed.{WidthFits, KindFits}
use Rattle.dh_parser.specs.Reading.{good, bad, the, number_text, the_number, is_width, width_from, the_width, kind_from, the_kind, the_ports, the_banks, the_dims, the_type}
use Rattle.dh_parser.proofs.SoundBasics.{Took, any, next, either, put_mark, mark_took, number_took}

within_both : (b c : Bool) → (if b then c else false) ≡ true → (b ≡ true) × (c ≡ true)
within_both true c e = (refl, e)
within_both false c e = cc

within : (n : ℕ) → is_width n ≡ true → (1 ≤ n) × (n ≤ 64)
within n e =
    let both = within_both (nat_le 1 n) (nat_le n 64) e in
    (leb-true 1 n both.0, leb-true n 64 both.1)

width_took_from : (k : TokenKind) (t : Token) (ts : List Token) → t.kind ≡ k → Took WidthFits put_number (t ∷ ts) (width_from k t ts)
width_took_from (kind.Number n) t ts e =
    either (λ w rest. WidthFits w × (t ∷ ts ≡ put_number w rest)) (is_width n) (good (number_text n t.place) ts) (bad (t ∷ ts))
    (λ w. (within n w, ap (λ k. token_placed k t.place ∷ ts) e)) (λ _. tt)
width_took_from _ t ts e = tt

pub width_took : (ts : List Token) → Took WidthFits put_number ts (the_width ts)
width_took [] = tt
width_took (t ∷ ts) = width_took_from t.kind t ts refl

kind_took_from : (k : TokenKind) (t : Token) (ts : List Token) → t.kind ≡ k → Took KindFits spell_kind (t ∷ ts) (kind_from k t ts)
kind_took_from kind.Bool t ts e = (tt, ap (λ k. token_placed k t.place ∷ ts) e)
kind_took_from kind.Bit t ts e =
    next any (put_mark mark.Less) ts _ (the mark.Less ts) _ (mark_took mark.Less ts) λ less r0 _ e0.
    next WidthFits put_number r0 _ (the_width r0) _ (width_took r0) λ width r1 f1 e1.
    next any (put_mark mark.Greater) r1 _ (the mark.Greater r1) _ (mark_took mark.Greater r1) λ greater r2 _ e2.
    (f1, ap (λ k. token_placed k t.place ∷ ts) e ∙ ap (λ l. put kind.Bit t.place l) (e0 ∙ ap (λ l. put kind.Less less l) (e1 ∙ ap (λ l. put_number width l) e2)))
kind_took_from kind.Ubit t ts e =
    next any (put_mark mark.Less) ts _ (the mark.Less ts) _ (mark_took mark.Less ts) λ less r0 _ e0.
    next WidthFits put_number r0 _ (the_width r0) _ (width_took r0) λ width r1 f1 e1.
    next any (put_mark mark.Greater) r1 _ (the mark.Greater r1) _ (mark_took mark.Greater r1) λ greater r2 _ e2.
    (f1, ap (λ k. token_placed k t.place ∷ ts) e ∙ ap (λ l. put kind.Ubit t.place l) (e0 ∙ ap (λ l. put kind.Less less l) (e1 ∙ ap (λ l. put_number width l) e2)))
kind_took_from _ t ts e = tt

pub kind_took : (ts : List Token) → Took KindFits spell_kind ts (the_kind ts)
kind_took [] = tt
kind_took (t ∷ ts) = kind_took_from t.kind t ts refl

pub ports_took : (ts : List Token) → Took any spell_ports ts (the_ports ts)
ports_took ts =
    either _ (comes mark.OpenBrace ts) _ _
    (λ _.
    next any (put_mark mark.OpenBrace) ts _ (the mark.OpenBrace ts) _ (mark_took mark.OpenBrace ts) λ opener r0 _ e0.
    next any put_number r0 _ (the_number r0) _ (number_took r0) λ ports r1 _ e1.
    next any (put_mark mark.CloseBrace) r1 _ (the mark.CloseBrace r1) _ (mark_took mark.CloseBrace r1) λ closer r2 _ e2.
    (tt, cc))
    (λ _. (tt, refl))

pub banks_took : (ts : List Token) → Took any spell_banks ts (the_banks ts)
banks_took ts =
    either _ (comes mark.Bank ts) _ _
    (λ _.
    next any (put_mark mark.Bank) ts _ (the mark.Bank ts) _ (mark_took mark.Bank ts) λ word r0 _ e0.
    next any put_number r0 _ (the_number r0) _ (number_took r0) λ banks r1 _ e1.
    (tt, cc))
    (λ _. (tt, refl))

pub dims_took : (n : ℕ) (ts : List Token) → Took any spell_dims ts (the_dims n ts)
dims_took zero ts = tt
dims_took (suc n) ts =
    either _ (comes mark.OpenBracket ts) _ _
    (λ _.
    next any (put_mark mark.OpenBracket) ts _ (the mark.OpenBracket ts) _ (mark_took mark.OpenBracket ts) λ opener r0 _ e0.
    next any put_number r0 _ (the_number r0) _ (number_took r0) λ size r1 _ e1.
    next any spell_banks r1 _ (the_banks r1) _ (banks_took r1) λ banks r2 _ e2.
    next any (put_mark mark.CloseBracket) r2 _ (the mark.CloseBracket r2) _ (mark_took mark.CloseBracket r2) λ closer r3 _ e3.
    next any spell_dims r3 _ (the_dims n r3) _ (dims_took n r3) λ more r4 _ e4.
    (tt, cc))
    (λ _. (tt, refl))

abbrev pub TypeFits : TypeText → Type 0
TypeFits t = KindFits t.kind

pub type_took : (ts : List Token) → Took TypeFits spell_type ts (the_type ts)
type_took ts =
    next KindFits spell_kind ts _ (the_kind ts) _ (kind_took ts) λ k r0 f0 e0.
    next any spell_ports r0 _ (the_ports r0) _ (ports_took r0) λ ports r1 _ e1.
    next any spell_dims r1 _ (the_dims (suc (length r1)) r1) _ (dims_took (suc (length r1)) r1) λ dims r2 _ e2.
    (f0, cc)
