-- Loops that read expressions one after another.
use Rattle.std.proofs.Common.{◌≡◌, ℕ, suc, true, false, if◌then◌else◌, List, [], ◌∷◌, ◌++◌, map, length, append_assoc, append-nil, refl, ap, sym, ◌∙◌}
use Rattle.dh_base.specs.declared.places.Place.{Place}
use Rattle.dh_lexer.specs.declared.tokens.Token.{Token}
use Rattle.dh_tree.specs.declared.trees.expressions.Expr.{Expr}
use Rattle.dh_tree.specs.PlainTrees.{Term, Terms, no_terms, term_then}
use Rattle.dh_tree.specs.Seen.{term_seen, terms}
use Rattle.dh_parser.specs.declared.parsing.reading.Mark.TheVariants as mark
use Rattle.dh_parser.specs.Marks.{comes}
use Rattle.dh_parser.specs.Grammar.{NameText, ExprText, KindText, cast, bracket, no_indices, index_then, element, physical, no_more_arguments, argument_then, some_arguments}
use Rattle.dh_parser.specs.Reading.{Outcome, good, outcome_bind, the, the_number, the_kind, the_test, the_cast, bracket_from, the_index, more_indices, all_indices, access_from, the_expression, the_argument, more_arguments, the_arguments, expression}
use Rattle.dh_parser.specs.Parts.{the_bank, the_row}
use Rattle.dh_parser.proofs.Going.{assoc, same_bind, if_true, if_false}

-- terms in front of others
abbrev pub terms_on : List Term → Terms → Terms
terms_on [] x = x
terms_on (t ∷ ts) x = term_then t (terms_on ts x)

terms_all : (ts : List Term) → terms ts ≡ terms_on ts no_terms
terms_all [] = refl
terms_all (t ∷ ts) = ap (λ x. term_then t x) (terms_all ts)

terms_more : (ts : List Term) (t : Term) (x : Terms) → terms_on (ts ++ (t ∷ [])) x ≡ terms_on ts (term_then t x)
terms_more [] t x = refl
terms_more (u ∷ ts) t x = ap (λ y. term_then u y) (terms_more ts t x)

seen_more : (es : List Expr) (e : Expr) → map term_seen (es ++ (e ∷ [])) ≡ map term_seen es ++ (term_seen e ∷ [])
seen_more [] e = refl
seen_more (d ∷ es) e = ap (λ y. term_seen d ∷ y) (seen_more es e)

-- one more term
pub terms_listed : {w : Terms} {new : List Expr} {t : Term} (es : List Expr) (e : Expr) (x : Terms) → w ≡ terms_on (map term_seen es) (term_then t x) → new ≡ es ++ (e ∷ []) → term_seen e ≡ t → w ≡ terms_on (map term_seen new) x
terms_listed es e x f g s =
    f ∙ (ap (λ u. terms_on (map term_seen es) (term_then u x)) (sym s) ∙ (sym (terms_more (map term_seen es) (term_seen e) x) ∙ (ap (λ l. terms_on l x) (sym (seen_more es e)) ∙ ap (λ l. terms_on (map term_seen l) x) (sym g))))

pub terms_first : {new old : List Expr} {t : Term} (e : Expr) (x : Terms) → new ≡ old ++ (e ∷ []) → old ≡ [] → term_seen e ≡ t → term_then t x ≡ terms_on (map term_seen new) x
terms_first e x g n s = ap (λ u. term_then u x) (sym s) ∙ ap (λ l. terms_on (map term_seen l) x) (sym (g ∙ ap (λ l. l ++ (e ∷ [])) n))

pub terms_listed_all : {w : Terms} (es : List Expr) → w ≡ terms_on (map term_seen es) no_terms → terms (map term_seen es) ≡ w
terms_listed_all es f = terms_all (map term_seen es) ∙ sym f

-- one more term of a list
pub seen_listed : {w : List Term} {new : List Expr} {t : Term} (es : List Expr) (e : Expr) (x : List Term) → w ≡ map term_seen es ++ (t ∷ x) → new ≡ es ++ (e ∷ []) → term_seen e ≡ t → w ≡ map term_seen new ++ x
seen_listed {new = new} es e x f g s =
    f ∙ (ap (λ u. map term_seen es ++ (u ∷ x)) (sym s) ∙ (sym (append_assoc (map term_seen es) (term_seen e ∷ []) x) ∙ (ap (λ l. l ++ x) (sym (seen_more es e)) ∙ ap (λ l. map term_seen l ++ x) (sym g))))

pub indices_go : (ts : List Token) → comes mark.OpenBracket ts ≡ true → (n : ℕ)
    → more_indices expression (suc n) ts ≡ outcome_bind (the_index expression ts) (λ i r. outcome_bind (more_indices expression n r) (λ more r. good (index_then i more) r))
indices_go ts e n = if_true (comes mark.OpenBracket ts) _ _ e

pub indices_end : (ts : List Token) → comes mark.OpenBracket ts ≡ false → (n : ℕ) → more_indices expression (suc n) ts ≡ good no_indices ts
indices_end ts e n = if_false (comes mark.OpenBracket ts) _ _ e

pub element_is : (n : NameText) (ts : List Token) → comes mark.OpenBrace ts ≡ false → access_from expression n ts ≡ outcome_bind (all_indices expression ts) (λ p r. good (element n p.0 p.1) r)
element_is n ts e = if_false (comes mark.OpenBrace ts) _ _ e ∙ sym (
    assoc (the_index expression ts) _ _ ∙ same_bind (the_index expression ts) _ _ λ i r0.
    assoc (more_indices expression (suc (length r0)) r0) _ _)

-- a bank and a row of it, as what follows a name
pub row_is : (n : NameText) (ts : List Token) → comes mark.OpenBrace ts ≡ true → access_from expression n ts ≡ outcome_bind (the_row expression ts) (λ p r. good (physical n p.0.opener p.0.bank p.0.closer p.1) r)
row_is n ts e = if_true (comes mark.OpenBrace ts) _ _ e ∙ sym (
    assoc (the_bank ts) _ _ ∙ (assoc (the mark.OpenBrace ts) _ _ ∙ same_bind (the mark.OpenBrace ts) _ _ λ opener r0.
    assoc (the_number r0) _ _ ∙ same_bind (the_number r0) _ _ λ bank r1.
    assoc (the mark.CloseBrace r1) _ _ ∙ same_bind (the mark.CloseBrace r1) _ _ λ closer r2.
    assoc (the_index expression r2) _ _))

pub arguments_go : (ts : List Token) → comes mark.Comma ts ≡ true → (n : ℕ)
    → more_arguments (suc n) ts ≡ outcome_bind (the_argument ts) (λ a r. outcome_bind (more_arguments n r) (λ more r. good (argument_then a.0 a.1 more) r))
arguments_go ts e n = if_true (comes mark.Comma ts) _ _ e ∙ sym (
    assoc (the mark.Comma ts) _ _ ∙ same_bind (the mark.Comma ts) _ _ λ comma r0.
    assoc (the_expression r0) _ _)

pub arguments_end : (ts : List Token) → comes mark.Comma ts ≡ false → (n : ℕ) → more_arguments (suc n) ts ≡ outcome_bind (the mark.CloseParen ts) (λ closer r. good (no_more_arguments closer) r)
arguments_end ts e n = if_false (comes mark.Comma ts) _ _ e

pub some_arguments_is : (ts : List Token) → comes mark.CloseParen ts ≡ false
    → outcome_bind (the_expression ts) (λ e r. outcome_bind (more_arguments (suc (length r)) r) (λ more r. good (some_arguments e more) r)) ≡ the_arguments ts
some_arguments_is ts e = sym (if_false (comes mark.CloseParen ts) _ _ e)

pub seen_first : {new old : List Expr} {t : Term} (e : Expr) (x : List Term) → new ≡ old ++ (e ∷ []) → old ≡ [] → term_seen e ≡ t → t ∷ x ≡ map term_seen new ++ x
seen_first e x g n s = ap (λ u. u ∷ x) (sym s) ∙ ap (λ l. map term_seen l ++ x) (sym (g ∙ ap (λ l. l ++ (e ∷ [])) n))

pub seen_all : {w : List Term} (es : List Expr) → w ≡ map term_seen es ++ [] → map term_seen es ≡ w
seen_all es f = sym (f ∙ append-nil (map term_seen es))

-- a test, as a part of what it stands in
pub test_then : {A : Type 0} (ts : List Token) (go : Place → ExprText → Place → List Token → Outcome A)
    → outcome_bind (the mark.OpenParen ts) (λ opener r. outcome_bind (the_expression r) (λ e r. outcome_bind (the mark.CloseParen r) (λ closer r. go opener e closer r))) ≡ outcome_bind (the_test ts) (λ t r. go t.opener t.test t.closer r)
test_then ts go = sym (
    assoc (the mark.OpenParen ts) _ _ ∙ same_bind (the mark.OpenParen ts) _ _ λ opener r0.
    assoc (the_expression r0) _ _ ∙ same_bind (the_expression r0) _ _ λ e r1.
    assoc (the mark.CloseParen r1) _ _)

-- a cast's kind, as a part of what stands in parentheses
pub cast_then : {A : Type 0} (ts : List Token) (go : Place → KindText → Place → List Token → Outcome A)
    → outcome_bind (the mark.As ts) (λ word r. outcome_bind (the_kind r) (λ k r. outcome_bind (the mark.CloseParen r) (λ closer r. go word k closer r))) ≡ outcome_bind (the_cast ts) (λ t r. go t.word t.kind t.closer r)
cast_then ts go = sym (
    assoc (the mark.As ts) _ _ ∙ same_bind (the mark.As ts) _ _ λ word r0.
    assoc (the_kind r0) _ _ ∙ same_bind (the_kind r0) _ _ λ k r1.
    assoc (the mark.CloseParen r1) _ _)

pub bracket_is : (opener : Place) (ts : List Token)
    → bracket_from expression opener ts ≡ outcome_bind (expression 0 ts) (λ e r. if comes mark.As r then outcome_bind (the_cast r) (λ t r. good (cast opener e t.word t.kind t.closer) r) else outcome_bind (the mark.CloseParen r) (λ closer r. good (bracket opener e closer) r))
bracket_is opener ts = same_bind (expression 0 ts) _ _ λ e r.
    ap (λ o. if comes mark.As r then o else outcome_bind (the mark.CloseParen r) (λ closer r. good (bracket opener e closer) r)) (cast_then r (λ word k closer r. good (cast opener e word k closer) r))
