-- Simple commands that are being read can be gone on with.
use Rattle.std.proofs.Common.{◌≡◌, ℕ, zero, suc, List, [], ◌∷◌, refl}
use Rattle.dh_base.specs.declared.places.Place.{Place}
use Rattle.dh_lexer.specs.declared.tokens.Token.{Token}
use Rattle.dh_lexer.specs.declared.tokens.TokenKind.{TokenKind}
use Rattle.dh_lexer.specs.declared.tokens.TokenKind.TheVariants as kind
use Rattle.dh_lexer.specs.LexedText.{token_placed}
use Rattle.dh_parser.specs.declared.parsing.reading.Mark.TheVariants as mark
use Rattle.dh_parser.specs.Marks.{comes}
use Rattle.dh_parser.specs.Grammar.{NameText, ViewText, ReducerText, no_more_arguments, argument_then, no_arguments, some_arguments, shrink, split, suffix, shift, no_value, some_value, adds, subtracts, multiplies, let_typed, let_value, view, assign, store, reduce, call}
use Rattle.dh_parser.specs.Spelling.{put, put_name, put_number, reducer_sign, spell_access, spell_more_arguments, spell_arguments, spell_factor, spell_suffix, spell_offset, spell_all, spell_view, spell_value, spell_simple}
use Rattle.dh_parser.specs.Allowed.{AccessFits, MoreArgumentsFit, ArgumentsFit, SuffixFits, OffsetFits, AllFit, ViewFits, ValueFits, SimpleFits}
use Rattle.dh_parser.specs.Reading.{Outcome, name_text, access_from, read, steps, more_arguments, the_arguments, factor_text, suffix_text, offset_text, the_factor, the_suffix, the_offset, more_of, brackets, view_from, the_view, the_value, let_from, view_command_from, reduce_from, store_from, after_name_from, after_name, simple_from, the_simple}
use Rattle.dh_parser.proofs.SoundBasics.{any}
use Rattle.dh_parser.proofs.SoundOperands.{access_took}
use Rattle.dh_parser.proofs.SoundSimple.{read_took, more_arguments_took, arguments_took, factor_took, suffix_took, offset_took, more_took, view_took, value_took, simple_took}
use Rattle.dh_parser.proofs.Fronts.{goes_along, Fronts, front_of, access_front, more_arguments_front, arguments_front, factor_front, suffix_front, offset_front, all_front, view_front, value_front, simple_front}
use Rattle.dh_parser.proofs.GoesBasics.{IsProgram, Goes, Opens, GoesOn, Part, part_of, after_good, part, done, gave_up, stuck, pick, after_put, at_token, took_token, here, some_name, some_number, some_type, some_expression, mark_goes, name_goes, number_goes}
use Rattle.dh_parser.proofs.GoesTypes.{type_goes}
use Rattle.dh_parser.proofs.GoesExpressions.{access_go, operand_goes, reads_go, expression_goes}

more_arguments_go : (n : ℕ) → GoesOn MoreArgumentsFit spell_more_arguments (more_arguments n)
more_arguments_go zero b z o ts = gave_up
more_arguments_go (suc n) b z o ts =
    pick (comes mark.Comma ts) (
    part (mark_goes mark.Comma) ts _ (λ p _. o (argument_then p some_expression (no_more_arguments here)) (tt, tt)) λ comma r0 _.
    part expression_goes r0 _ (λ e f. o (argument_then comma e (no_more_arguments here)) (f, tt)) λ e r1 f.
    part (part_of more_arguments_front (more_arguments_took n) (more_arguments_go n)) r1 _ (λ m g. o (argument_then comma e m) (f, g)) λ m r2 g.
    done) (
    part (mark_goes mark.CloseParen) ts _ (λ p _. o (no_more_arguments p) tt) λ closer r0 _.
    done)

arguments_go : GoesOn ArgumentsFit spell_arguments the_arguments
arguments_go b z o ts =
    pick (comes mark.CloseParen ts) (
    part (mark_goes mark.CloseParen) ts _ (λ p _. o (no_arguments p) tt) λ closer r0 _.
    done) (
    part expression_goes ts _ (λ e f. o (some_arguments e (no_more_arguments here)) (f, tt)) λ e r0 f.
    part (part_of more_arguments_front (more_arguments_took (steps r0)) (more_arguments_go (steps r0))) r0 _ (λ m g. o (some_arguments e m) (f, g)) λ m r1 g.
    done)

arguments_goes : Part ArgumentsFit spell_arguments the_arguments
arguments_goes = part_of arguments_front arguments_took arguments_go

factor_go : GoesOn any spell_factor the_factor
factor_go b z o ts =
    part (mark_goes mark.OpenBracket) ts _ (λ p _. o (factor_text p here some_number here) tt) λ opener r0 _.
    part (mark_goes mark.By) r0 _ (λ p _. o (factor_text opener p some_number here) tt) λ word r1 _.
    part number_goes r1 _ (λ n _. o (factor_text opener word n here) tt) λ factor r2 _.
    part (mark_goes mark.CloseBracket) r2 _ (λ p _. o (factor_text opener word factor p) tt) λ closer r3 _.
    done

suffix_go : GoesOn SuffixFits spell_suffix the_suffix
suffix_go b z o ts =
    part (mark_goes mark.OpenBracket) ts _ (λ p _. o (suffix_text p here some_number here some_expression here) tt) λ opener r0 _.
    part (mark_goes mark.By) r0 _ (λ p _. o (suffix_text opener p some_number here some_expression here) tt) λ word r1 _.
    part number_goes r1 _ (λ n _. o (suffix_text opener word n here some_expression here) tt) λ factor r2 _.
    part (mark_goes mark.Star) r2 _ (λ p _. o (suffix_text opener word factor p some_expression here) tt) λ sign r3 _.
    part (operand_goes (read (steps r3)) (reads_go (steps r3)) 10) r3 _ (λ e f. o (suffix_text opener word factor sign e here) f) λ offset r4 f.
    part (mark_goes mark.CloseBracket) r4 _ (λ p _. o (suffix_text opener word factor sign offset p) f) λ closer r5 _.
    done

offset_go : GoesOn OffsetFits spell_offset the_offset
offset_go b z o ts =
    part (mark_goes mark.OpenBracket) ts _ (λ p _. o (offset_text p here some_expression here) tt) λ opener r0 _.
    part (mark_goes mark.By) r0 _ (λ p _. o (offset_text opener p some_expression here) tt) λ word r1 _.
    part expression_goes r1 _ (λ e f. o (offset_text opener word e here) f) λ offset r2 f.
    part (mark_goes mark.CloseBracket) r2 _ (λ p _. o (offset_text opener word offset p) f) λ closer r3 _.
    done

more_go : {A : Type 0} (F : A → Type 0) (s : A → List Token → List Token) (one : List Token → Outcome A) → Fronts s → Part F s one
    → (n : ℕ) → GoesOn (AllFit F) (spell_all s) (more_of one n)
more_go F s one h p zero b z o ts = gave_up
more_go F s one h p (suc n) b z o ts =
    pick (comes mark.OpenBracket ts) (
    part p ts _ (λ a f. o (a ∷ []) (f, tt)) λ a r0 f.
    part (part_of (all_front s h) (more_took F s one p.took n) (more_go F s one h p n)) r0 _ (λ l g. o (a ∷ l) (f, g)) λ l r1 g.
    done)
    done

brackets_go : {A : Type 0} (F : A → Type 0) (s : A → List Token → List Token) (one : List Token → Outcome A) → Fronts s → Part F s one → (d : A) → F d
    → (make : NameText → A → List A → ViewText) (b : List Token → List Token) (z : List Token)
    → ((n : NameText) (a : A) (l : List A) → F a → AllFit F l → IsProgram (b (put_name n (s a (spell_all s l z)))))
    → (ts : List Token) → Goes b ts (brackets one make ts)
brackets_go F s one h p d fd make b z o ts =
    part name_goes ts _ (λ n _. o n d [] fd tt) λ parent r0 _.
    part p r0 _ (λ a f. o parent a [] f tt) λ a r1 f.
    part (part_of (all_front s h) (more_took F s one p.took (steps r1)) (more_go F s one h p (steps r1))) r1 _ (λ l g. o parent a l f g) λ l r2 g.
    done

view_go_from : (b : List Token → List Token) (z : List Token) → Opens ViewFits spell_view b z → (k : TokenKind) (t : Token) (ts : List Token) → t.kind ≡ k → Goes b (t ∷ ts) (view_from k t ts)
view_go_from b z o kind.Shrink t ts e =
    took_token t e (brackets_go any spell_factor the_factor factor_front (part_of factor_front factor_took factor_go) (factor_text here here some_number here) tt
    (shrink t.place) _ z (λ n a l f g. o (shrink t.place n a l) tt) ts)
view_go_from b z o kind.Split t ts e =
    took_token t e (brackets_go any spell_factor the_factor factor_front (part_of factor_front factor_took factor_go) (factor_text here here some_number here) tt
    (split t.place) _ z (λ n a l f g. o (split t.place n a l) tt) ts)
view_go_from b z o kind.Suffix t ts e =
    took_token t e (brackets_go SuffixFits spell_suffix the_suffix suffix_front (part_of suffix_front suffix_took suffix_go) (suffix_text here here some_number here some_expression here) tt
    (suffix t.place) _ z (λ n a l f g. o (suffix t.place n a l) (f, g)) ts)
view_go_from b z o kind.Shift t ts e =
    took_token t e (brackets_go OffsetFits spell_offset the_offset offset_front (part_of offset_front offset_took offset_go) (offset_text here here some_expression here) tt
    (shift t.place) _ z (λ n a l f g. o (shift t.place n a l) (f, g)) ts)
view_go_from b z o _ t ts e = stuck _ (o (shrink here some_name (factor_text here here some_number here) []) tt)

view_go : GoesOn ViewFits spell_view the_view
view_go b z o [] = stuck _ (o (shrink here some_name (factor_text here here some_number here) []) tt)
view_go b z o (t ∷ ts) = view_go_from b z o t.kind t ts refl

value_go : GoesOn ValueFits spell_value the_value
value_go b z o ts =
    pick (comes mark.Assign ts) (
    part (mark_goes mark.Assign) ts _ (λ p _. o (some_value p some_expression) tt) λ equal r0 _.
    part expression_goes r0 _ (λ e f. o (some_value equal e) f) λ e r1 f.
    done)
    done

let_go : (word : Place) (b : List Token → List Token) (z : List Token) → Opens SimpleFits spell_simple b z → (ts : List Token) → Goes (λ x. b (put kind.Let word x)) ts (let_from word ts)
let_go word b z o ts =
    part name_goes ts _ (λ n _. o (let_value word n here some_expression) tt) λ n r _.
    pick (comes mark.Colon r) (
    part (mark_goes mark.Colon) r _ (λ p _. o (let_typed word n p some_type no_value) (tt, tt)) λ colon r0 _.
    part type_goes r0 _ (λ t f. o (let_typed word n colon t no_value) (f, tt)) λ t r1 f.
    part (part_of value_front value_took value_go) r1 _ (λ v g. o (let_typed word n colon t v) (f, g)) λ value r2 g.
    done) (
    part (mark_goes mark.Assign) r _ (λ p _. o (let_value word n p some_expression) tt) λ equal r0 _.
    part expression_goes r0 _ (λ e f. o (let_value word n equal e) f) λ e r1 f.
    done)

view_command_go : (word : Place) (b : List Token → List Token) (z : List Token) → Opens SimpleFits spell_simple b z → (ts : List Token) → Goes (λ x. b (put kind.View word x)) ts (view_command_from word ts)
view_command_go word b z o ts =
    part name_goes ts _ (λ n _. o (view word n here (shrink here some_name (factor_text here here some_number here) [])) tt) λ n r0 _.
    part (mark_goes mark.Assign) r0 _ (λ p _. o (view word n p (shrink here some_name (factor_text here here some_number here) [])) tt) λ equal r1 _.
    part (part_of view_front view_took view_go) r1 _ (λ v f. o (view word n equal v) f) λ v r2 f.
    done

reduce_go : (n : NameText) (sign : ReducerText) (place : Place) (b : List Token → List Token) (z : List Token) → Opens SimpleFits spell_simple b z → (ts : List Token)
    → Goes (λ x. b (put_name n (put (reducer_sign sign) place x))) ts (reduce_from n sign place ts)
reduce_go n sign place b z o ts =
    part expression_goes ts _ (λ e f. o (reduce n sign place e) f) λ e r0 f.
    done

store_go : (n : NameText) (b : List Token → List Token) (z : List Token) → Opens SimpleFits spell_simple b z → (ts : List Token) → Goes b (put_name n ts) (store_from n ts)
store_go n b z o ts =
    after_good (λ a r. AccessFits a × (put_name n ts ≡ spell_access a r)) spell_access b (put_name n ts) (access_from (read (steps ts)) n ts) _
    (λ a. goes_along (front_of spell_access access_front a)) (λ a r p. p.1) (access_took (read (steps ts)) (read_took (steps ts)) n ts)
    (access_go (read (steps ts)) (reads_go (steps ts)) n b (put kind.Becomes here (put_number some_number z)) (λ a f. o (store a here some_expression) (f, tt)) ts) λ a r p.
    part (mark_goes mark.Becomes) r _ (λ q _. o (store a q some_expression) (p.0, tt)) λ becomes r0 _.
    part expression_goes r0 _ (λ e f. o (store a becomes e) (p.0, f)) λ e r1 f.
    done

-- a name and what follows it, whose first token is t
after_name_go_from : (n : NameText) (b : List Token → List Token) (z : List Token) → Opens SimpleFits spell_simple b z → (k : TokenKind) (t : Token) (ts : List Token) → t.kind ≡ k
    → Goes b (put_name n (t ∷ ts)) (after_name_from n k t ts)
after_name_go_from n b z o kind.Becomes t ts e =
    after_put (token_placed (kind.Name n.name) n.place) (took_token t e (
    part expression_goes ts _ (λ x f. o (assign n t.place x) f) λ x r0 f.
    done))
after_name_go_from n b z o kind.OpenParen t ts e =
    after_put (token_placed (kind.Name n.name) n.place) (took_token t e (
    part arguments_goes ts _ (λ l f. o (call n t.place l) f) λ l r0 f.
    done))
after_name_go_from n b z o kind.OpenBracket t ts e = store_go n b z o (t ∷ ts)
after_name_go_from n b z o kind.OpenBrace t ts e = store_go n b z o (t ∷ ts)
after_name_go_from n b z o kind.PlusAssign t ts e = after_put (token_placed (kind.Name n.name) n.place) (took_token t e (reduce_go n adds t.place b z o ts))
after_name_go_from n b z o kind.MinusAssign t ts e = after_put (token_placed (kind.Name n.name) n.place) (took_token t e (reduce_go n subtracts t.place b z o ts))
after_name_go_from n b z o kind.StarAssign t ts e = after_put (token_placed (kind.Name n.name) n.place) (took_token t e (reduce_go n multiplies t.place b z o ts))
after_name_go_from n b z o _ t ts e = after_put (token_placed (kind.Name n.name) n.place) (stuck _ (o (assign n here some_expression) tt))

after_name_go : (n : NameText) (b : List Token → List Token) (z : List Token) → Opens SimpleFits spell_simple b z → (ts : List Token) → Goes b (put_name n ts) (after_name n ts)
after_name_go n b z o [] = after_put (token_placed (kind.Name n.name) n.place) (stuck _ (o (assign n here some_expression) tt))
after_name_go n b z o (t ∷ ts) = after_name_go_from n b z o t.kind t ts refl

simple_go_from : (b : List Token → List Token) (z : List Token) → Opens SimpleFits spell_simple b z → (k : TokenKind) (t : Token) (ts : List Token) → t.kind ≡ k → Goes b (t ∷ ts) (simple_from k t ts)
simple_go_from b z o kind.Let t ts e = took_token t e (let_go t.place b z o ts)
simple_go_from b z o kind.View t ts e = took_token t e (view_command_go t.place b z o ts)
simple_go_from b z o (kind.Name n) t ts e = at_token t e (after_name_go (name_text n t.place) b z o ts)
simple_go_from b z o _ t ts e = stuck _ (o (assign some_name here some_expression) tt)

simple_go : GoesOn SimpleFits spell_simple the_simple
simple_go b z o [] = stuck _ (o (assign some_name here some_expression) tt)
simple_go b z o (t ∷ ts) = simple_go_from b z o t.kind t ts refl

pub simple_goes : Part SimpleFits spell_simple the_simple
simple_goes = part_of simple_front simple_took simple_go
