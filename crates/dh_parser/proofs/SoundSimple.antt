-- Reading of simple commands is sound, part by part.
use Rattle.std.proofs.Common.{◌≡◌, ℕ, zero, suc, subst, List, [], ◌∷◌, refl, ap, sym, ◌∙◌}
use Rattle.dh_base.specs.declared.places.Place.{Place}
use Rattle.dh_lexer.specs.declared.tokens.Token.{Token}
use Rattle.dh_lexer.specs.declared.tokens.TokenKind.{TokenKind}
use Rattle.dh_lexer.specs.declared.tokens.TokenKind.TheVariants as kind
use Rattle.dh_lexer.specs.LexedText.{token_placed}
use Rattle.dh_parser.specs.declared.parsing.reading.Mark.TheVariants as mark
use Rattle.dh_parser.specs.Marks.{comes}
use Rattle.dh_parser.specs.Grammar.{NameText, ViewText, shrink, split, suffix, shift, ReducerText, adds, subtracts, multiplies, SimpleText, assign, call}
use Rattle.dh_parser.specs.Spelling.{put, put_name, put_number, reducer_sign, spell_type, spell, spell_access, spell_more_arguments, spell_arguments, spell_factor, spell_suffix, spell_offset, spell_all, spell_view, spell_value, spell_simple}
use Rattle.dh_parser.specs.Allowed.{ExpressionFits, AccessFits, MoreArgumentsFit, ArgumentsFit, SuffixFits, OffsetFits, AllFit, ViewFits, ValueFits, SimpleFits}
use Rattle.dh_parser.specs.Reading.{Outcome, good, outcome_bind, the, name_text, the_name, the_number, the_type, access_from, operand, read, steps, the_expression, more_arguments, the_arguments, the_factor, the_suffix, the_offset, more_of, brackets, view_from, the_view, the_value, let_from, view_command_from, reduce_from, store_from, after_name_from, after_name, simple_from, the_simple, expression}
use Rattle.dh_parser.proofs.SoundBasics.{Good, Took, any, next, either, put_mark, mark_took, name_took, number_took}
use Rattle.dh_parser.proofs.SoundTypes.{TypeFits, type_took}
use Rattle.dh_parser.proofs.SoundOperands.{Sound, operand_took, access_took}
use Rattle.dh_parser.proofs.SoundOperators.{next_good, sound_of, read_tight}

pub read_took : (d : ℕ) → Sound (read d)
read_took d = sound_of (read d) (read_tight d)

pub expression_took : (ts : List Token) → Took (ExpressionFits 0) spell ts (the_expression ts)
unfolding expression
expression_took ts = read_took (steps ts) 0 ts

pub more_arguments_took : (n : ℕ) (ts : List Token) → Took MoreArgumentsFit spell_more_arguments ts (more_arguments n ts)
more_arguments_took zero ts = tt
more_arguments_took (suc n) ts =
    either _ (comes mark.Comma ts) _ _
    (λ _.
    next any (put_mark mark.Comma) ts _ (the mark.Comma ts) _ (mark_took mark.Comma ts) λ comma r0 _ e0.
    next (ExpressionFits 0) spell r0 _ (the_expression r0) _ (expression_took r0) λ x r1 f1 e1.
    next MoreArgumentsFit spell_more_arguments r1 _ (more_arguments n r1) _ (more_arguments_took n r1) λ more r2 f2 e2.
    ((f1, f2), cc))
    (λ _.
    next any (put_mark mark.CloseParen) ts _ (the mark.CloseParen ts) _ (mark_took mark.CloseParen ts) λ closer r0 _ e0.
    (tt, cc))

pub arguments_took : (ts : List Token) → Took ArgumentsFit spell_arguments ts (the_arguments ts)
arguments_took ts =
    either _ (comes mark.CloseParen ts) _ _
    (λ _.
    next any (put_mark mark.CloseParen) ts _ (the mark.CloseParen ts) _ (mark_took mark.CloseParen ts) λ closer r0 _ e0.
    (tt, cc))
    (λ _.
    next (ExpressionFits 0) spell ts _ (the_expression ts) _ (expression_took ts) λ x r0 f0 e0.
    next MoreArgumentsFit spell_more_arguments r0 _ (more_arguments (steps r0) r0) _ (more_arguments_took (steps r0) r0) λ more r1 f1 e1.
    ((f0, f1), cc))

pub factor_took : (ts : List Token) → Took any spell_factor ts (the_factor ts)
factor_took ts =
    next any (put_mark mark.OpenBracket) ts _ (the mark.OpenBracket ts) _ (mark_took mark.OpenBracket ts) λ opener r0 _ e0.
    next any (put_mark mark.By) r0 _ (the mark.By r0) _ (mark_took mark.By r0) λ word r1 _ e1.
    next any put_number r1 _ (the_number r1) _ (number_took r1) λ factor r2 _ e2.
    next any (put_mark mark.CloseBracket) r2 _ (the mark.CloseBracket r2) _ (mark_took mark.CloseBracket r2) λ closer r3 _ e3.
    (tt, cc)

pub suffix_took : (ts : List Token) → Took SuffixFits spell_suffix ts (the_suffix ts)
suffix_took ts =
    next any (put_mark mark.OpenBracket) ts _ (the mark.OpenBracket ts) _ (mark_took mark.OpenBracket ts) λ opener r0 _ e0.
    next any (put_mark mark.By) r0 _ (the mark.By r0) _ (mark_took mark.By r0) λ word r1 _ e1.
    next any put_number r1 _ (the_number r1) _ (number_took r1) λ factor r2 _ e2.
    next any (put_mark mark.Star) r2 _ (the mark.Star r2) _ (mark_took mark.Star r2) λ sign r3 _ e3.
    next (ExpressionFits 10) spell r3 _ (operand (read (steps r3)) r3) _ (operand_took (read (steps r3)) (read_took (steps r3)) 10 r3) λ offset r4 f4 e4.
    next any (put_mark mark.CloseBracket) r4 _ (the mark.CloseBracket r4) _ (mark_took mark.CloseBracket r4) λ closer r5 _ e5.
    (f4, cc)

pub offset_took : (ts : List Token) → Took OffsetFits spell_offset ts (the_offset ts)
offset_took ts =
    next any (put_mark mark.OpenBracket) ts _ (the mark.OpenBracket ts) _ (mark_took mark.OpenBracket ts) λ opener r0 _ e0.
    next any (put_mark mark.By) r0 _ (the mark.By r0) _ (mark_took mark.By r0) λ word r1 _ e1.
    next (ExpressionFits 0) spell r1 _ (the_expression r1) _ (expression_took r1) λ offset r2 f2 e2.
    next any (put_mark mark.CloseBracket) r2 _ (the mark.CloseBracket r2) _ (mark_took mark.CloseBracket r2) λ closer r3 _ e3.
    (f2, cc)

pub more_took : {A : Type 0} (F : A → Type 0) (s : A → List Token → List Token) (one : List Token → Outcome A) → ((ts : List Token) → Took F s ts (one ts))
    → (n : ℕ) (ts : List Token) → Took (AllFit F) (spell_all s) ts (more_of one n ts)
more_took F s one h zero ts = tt
more_took F s one h (suc n) ts =
    either _ (comes mark.OpenBracket ts) _ _
    (λ _.
    next F s ts _ (one ts) _ (h ts) λ a r0 f0 e0.
    next (AllFit F) (spell_all s) r0 _ (more_of one n r0) _ (more_took F s one h n r0) λ more r1 f1 e1.
    ((f0, f1), cc))
    (λ _. (tt, refl))

any_all : {A : Type 0} (l : List A) → AllFit any l
any_all [] = tt
any_all (a ∷ l) = (tt, any_all l)

brackets_took : {A : Type 0} (F : A → Type 0) (s : A → List Token → List Token) (one : List Token → Outcome A) → ((ts : List Token) → Took F s ts (one ts))
    → (make : NameText → A → List A → ViewText) (G : ViewText → Type 0) (front : List Token → List Token) (spelled : ViewText → List Token → List Token)
    → ((n : NameText) (a : A) (l : List A) → F a → AllFit F l → G (make n a l))
    → ((n : NameText) (a : A) (l : List A) (x : List Token) → spelled (make n a l) x ≡ front (put_name n (s a (spell_all s l x))))
    → (ts : List Token) → Good (λ v rest. G v × (front ts ≡ spelled v rest)) (brackets one make ts)
brackets_took F s one h make G front spelled g sp ts =
    next any put_name ts _ (the_name ts) _ (name_took ts) λ parent r0 _ e0.
    next F s r0 _ (one r0) _ (h r0) λ a r1 f1 e1.
    next (AllFit F) (spell_all s) r1 _ (more_of one (steps r1) r1) _ (more_took F s one h (steps r1) r1) λ more r2 f2 e2.
    (g parent a more f1 f2, ap front (e0 ∙ ap (λ l. put_name parent l) (e1 ∙ ap (λ l. s a l) e2)) ∙ sym (sp parent a more r2))

view_took_from : (k : TokenKind) (t : Token) (ts : List Token) → Good (λ v rest. ViewFits v × (token_placed k t.place ∷ ts ≡ spell_view v rest)) (view_from k t ts)
view_took_from kind.Shrink t ts = brackets_took any spell_factor the_factor factor_took (shrink t.place) ViewFits (λ l. put kind.Shrink t.place l) spell_view (λ n a l _ _. tt) (λ n a l x. refl) ts
view_took_from kind.Split t ts = brackets_took any spell_factor the_factor factor_took (split t.place) ViewFits (λ l. put kind.Split t.place l) spell_view (λ n a l _ _. tt) (λ n a l x. refl) ts
view_took_from kind.Suffix t ts = brackets_took SuffixFits spell_suffix the_suffix suffix_took (suffix t.place) ViewFits (λ l. put kind.Suffix t.place l) spell_view (λ n a l f g. (f, g)) (λ n a l x. refl) ts
view_took_from kind.Shift t ts = brackets_took OffsetFits spell_offset the_offset offset_took (shift t.place) ViewFits (λ l. put kind.Shift t.place l) spell_view (λ n a l f g. (f, g)) (λ n a l x. refl) ts
view_took_from _ t ts = tt

pub view_took : (ts : List Token) → Took ViewFits spell_view ts (the_view ts)
view_took [] = tt
view_took (t ∷ ts) = view_took_from t.kind t ts

pub value_took : (ts : List Token) → Took ValueFits spell_value ts (the_value ts)
value_took ts =
    either _ (comes mark.Assign ts) _ _
    (λ _.
    next any (put_mark mark.Assign) ts _ (the mark.Assign ts) _ (mark_took mark.Assign ts) λ equal r0 _ e0.
    next (ExpressionFits 0) spell r0 _ (the_expression r0) _ (expression_took r0) λ x r1 f1 e1.
    (f1, cc))
    (λ _. (tt, refl))

let_took : (word : Place) (ts : List Token) → Good (λ s rest. SimpleFits s × (put kind.Let word ts ≡ spell_simple s rest)) (let_from word ts)
let_took word ts =
    next any put_name ts _ (the_name ts) _ (name_took ts) λ n r _ e.
    either _ (comes mark.Colon r) _ _
    (λ _.
    next any (put_mark mark.Colon) r _ (the mark.Colon r) _ (mark_took mark.Colon r) λ colon r0 _ e0.
    next TypeFits spell_type r0 _ (the_type r0) _ (type_took r0) λ t r1 f1 e1.
    next ValueFits spell_value r1 _ (the_value r1) _ (value_took r1) λ value r2 f2 e2.
    ((f1, f2), cc))
    (λ _.
    next any (put_mark mark.Assign) r _ (the mark.Assign r) _ (mark_took mark.Assign r) λ equal r0 _ e0.
    next (ExpressionFits 0) spell r0 _ (the_expression r0) _ (expression_took r0) λ x r1 f1 e1.
    (f1, cc))

view_command_took : (word : Place) (ts : List Token) → Good (λ s rest. SimpleFits s × (put kind.View word ts ≡ spell_simple s rest)) (view_command_from word ts)
view_command_took word ts =
    next any put_name ts _ (the_name ts) _ (name_took ts) λ n r0 _ e0.
    next any (put_mark mark.Assign) r0 _ (the mark.Assign r0) _ (mark_took mark.Assign r0) λ equal r1 _ e1.
    next ViewFits spell_view r1 _ (the_view r1) _ (view_took r1) λ v r2 f2 e2.
    (f2, cc)

-- a command after its name
abbrev Named : NameText → List Token → SimpleText → List Token → Type 0
Named n ts s rest = SimpleFits s × (put_name n ts ≡ spell_simple s rest)

reduce_took : (n : NameText) (sign : ReducerText) (place : Place) (ts : List Token) → Good (Named n (put (reducer_sign sign) place ts)) (reduce_from n sign place ts)
reduce_took n sign place ts =
    next (ExpressionFits 0) spell ts _ (the_expression ts) _ (expression_took ts) λ x r0 f0 e0.
    (f0, cc)

assign_took : (n : NameText) (place : Place) (ts : List Token) → Good (Named n (put kind.Becomes place ts)) (outcome_bind (the_expression ts) (λ e r. good (assign n place e) r))
assign_took n place ts =
    next (ExpressionFits 0) spell ts _ (the_expression ts) _ (expression_took ts) λ x r0 f0 e0.
    (f0, cc)

call_took : (n : NameText) (place : Place) (ts : List Token) → Good (Named n (put kind.OpenParen place ts)) (outcome_bind (the_arguments ts) (λ l r. good (call n place l) r))
call_took n place ts =
    next ArgumentsFit spell_arguments ts _ (the_arguments ts) _ (arguments_took ts) λ l r0 f0 e0.
    (f0, cc)

store_took : (n : NameText) (ts : List Token) → Good (Named n ts) (store_from n ts)
store_took n ts =
    next_good (λ a rest. AccessFits a × (put_name n ts ≡ spell_access a rest)) (Named n ts) (access_from (read (steps ts)) n ts) _ (access_took (read (steps ts)) (read_took (steps ts)) n ts) λ a r p.
    next any (put_mark mark.Becomes) r _ (the mark.Becomes r) _ (mark_took mark.Becomes r) λ becomes r0 _ e0.
    next (ExpressionFits 0) spell r0 _ (the_expression r0) _ (expression_took r0) λ x r1 f1 e1.
    ((p.0, f1), p.1 ∙ ap (λ l. spell_access a l) (e0 ∙ ap (λ l. put kind.Becomes becomes l) e1))

after_took_from : (n : NameText) (k : TokenKind) (t : Token) (ts : List Token) → t.kind ≡ k → Good (Named n (token_placed k t.place ∷ ts)) (after_name_from n k t ts)
after_took_from n kind.Becomes t ts e = assign_took n t.place ts
after_took_from n kind.OpenParen t ts e = call_took n t.place ts
after_took_from n kind.OpenBracket t ts e = subst (λ k. Good (Named n (token_placed k t.place ∷ ts)) (store_from n (t ∷ ts))) e (store_took n (t ∷ ts))
after_took_from n kind.OpenBrace t ts e = subst (λ k. Good (Named n (token_placed k t.place ∷ ts)) (store_from n (t ∷ ts))) e (store_took n (t ∷ ts))
after_took_from n kind.PlusAssign t ts e = reduce_took n adds t.place ts
after_took_from n kind.MinusAssign t ts e = reduce_took n subtracts t.place ts
after_took_from n kind.StarAssign t ts e = reduce_took n multiplies t.place ts
after_took_from n _ t ts e = tt

after_took : (n : NameText) (ts : List Token) → Good (Named n ts) (after_name n ts)
after_took n [] = tt
after_took n (t ∷ ts) = after_took_from n t.kind t ts refl

simple_took_from : (k : TokenKind) (t : Token) (ts : List Token) → Good (λ s rest. SimpleFits s × (token_placed k t.place ∷ ts ≡ spell_simple s rest)) (simple_from k t ts)
simple_took_from kind.Let t ts = let_took t.place ts
simple_took_from kind.View t ts = view_command_took t.place ts
simple_took_from (kind.Name n) t ts = after_took (name_text n t.place) ts
simple_took_from _ t ts = tt

pub simple_took : (ts : List Token) → Took SimpleFits spell_simple ts (the_simple ts)
simple_took [] = tt
simple_took (t ∷ ts) = simple_took_from t.kind t ts
