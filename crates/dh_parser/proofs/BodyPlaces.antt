-- Where the body of a program begins: at its first token.
use Rattle.std.proofs.Common.{◌≡◌, List, [], ◌∷◌, Ok, refl, ap, sym, ◌∙◌, subst}
use Rattle.dh_base.specs.declared.places.Place.{Place}
use Rattle.dh_lexer.specs.declared.tokens.Token.{Token}
use Rattle.dh_lexer.specs.declared.tokens.TokenKind.TheVariants as kind
use Rattle.dh_parser.specs.declared.parsing.reading.Mark.TheVariants as mark
use Rattle.dh_parser.specs.Allowed.{AllPartsFit}
use Rattle.dh_parser.specs.Grammar.{SimpleText, let_typed, let_value, view, assign, store, reduce, call, element, physical, block, CompoundText, block_alone, if_alone, while_loop, for_loop, if_else, PartText, end_of_part, last_simple, simple_then, compound_then, semicolon_then, PartsText, last_part, part_then}
use Rattle.dh_parser.specs.Spelling.{put, spell_simple, spell_compound, spell_part, spell_parts}
use Rattle.dh_parser.specs.TreesOfTexts.{simple_place, compound_place, part_place, parts_place}
use Rattle.dh_parser.specs.Answers.{IsFirstTokenPlace}
use Rattle.dh_parser.specs.Reading.{Outcome, good, the, the_block, the_parts, steps}
use Rattle.dh_parser.proofs.SoundBasics.{Took, any, put_mark, mark_took}
use Rattle.dh_parser.proofs.SoundPrograms.{parts_took, block_took}

simple_first : (s : SimpleText) (x : List Token) → IsFirstTokenPlace (Ok (simple_place s)) (spell_simple s x)
simple_first (let_typed word n colon t value) x = refl
simple_first (let_value word n equal e) x = refl
simple_first (view word n equal v) x = refl
simple_first (assign n becomes e) x = refl
simple_first (store (element n i more) becomes e) x = refl
simple_first (store (physical n opener bank closer i) becomes e) x = refl
simple_first (reduce n r sign e) x = refl
simple_first (call n opener arguments) x = refl

compound_first : (c : CompoundText) (x : List Token) → IsFirstTokenPlace (Ok (compound_place c)) (spell_compound c x)
compound_first (block_alone (block opener parts closer)) x = refl
compound_first (if_alone (if_else word opener e closer b other)) x = refl
compound_first (while_loop word opener e closer b) x = refl
compound_first (for_loop h b _) x = refl

part_first : (next : Place) (p : PartText) (x : List Token) → IsFirstTokenPlace (Ok next) x → IsFirstTokenPlace (Ok (part_place next p)) (spell_part p x)
part_first next end_of_part x h = h
part_first next (last_simple s) x h = simple_first s x
part_first next (simple_then s semicolon more) x h = simple_first s _
part_first next (compound_then c more) x h = compound_first c _
part_first next (semicolon_then semicolon more) x h = refl

parts_first : (end : Place) (parts : PartsText) (x : List Token) → IsFirstTokenPlace (Ok (parts_place end parts)) (spell_parts parts (put kind.End end x))
parts_first end (last_part p) x = part_first end p (put kind.End end x) refl
parts_first end (part_then p dashes more) x = part_first dashes p _ refl

one_place : (p q : Place) (ts : List Token) → IsFirstTokenPlace (Ok p) ts → IsFirstTokenPlace (Ok q) ts → p ≡ q
one_place p q [] h k = absurd h
one_place p q (t ∷ ts) h k = h ∙ sym k

took_fact : {A : Type 0} (F : A → Type 0) (s : A → List Token → List Token) (ts r : List Token) (a : A) (o : Outcome A) → Took F s ts o → o ≡ good a r → ts ≡ s a r
took_fact F s ts r a o h e = (subst (λ u. Took F s ts u) e h).1

-- the body begins at the place of its first token
pub body_stands : (p : Place) (ts mid new : List Token) (parts : PartsText) (end : Place) → IsFirstTokenPlace (Ok p) ts → the_parts the_block (steps ts) ts ≡ good parts mid → the mark.End mid ≡ good end new → p ≡ parts_place end parts
body_stands p ts mid new parts end h e f =
    let a = took_fact AllPartsFit spell_parts ts mid parts (the_parts the_block (steps ts) ts) (parts_took the_block block_took (steps ts) ts) e in
    let b = took_fact any (put_mark mark.End) mid new end (the mark.End mid) (mark_took mark.End mid) f in
    one_place p (parts_place end parts) ts h (subst (λ l. IsFirstTokenPlace (Ok (parts_place end parts)) l) (sym (a ∙ ap (spell_parts parts) b)) (parts_first end parts new))
