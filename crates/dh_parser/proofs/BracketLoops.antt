-- Loops over the brackets of a view.
use Rattle.std.proofs.Common.{◌≡◌, ℕ, suc, true, false, List, [], ◌∷◌, ◌++◌, map, append_assoc, append-nil, refl, ap, sym, ◌∙◌}
use Rattle.dh_lexer.specs.declared.tokens.Token.{Token}
use Rattle.dh_lexer.specs.declared.tokens.TokenKind.{TokenKind}
use Rattle.dh_tree.specs.declared.trees.expressions.Expr.{Expr}
use Rattle.dh_tree.specs.Seen.{factor_seen}
use Rattle.dh_tree.specs.PlainTrees.{Suffixed, Term}
use Rattle.dh_parser.specs.declared.parsing.reading.Numeral.{Numeral}
use Rattle.dh_parser.specs.declared.parsing.reading.Mark.TheVariants as mark
use Rattle.dh_parser.specs.Marks.{comes}
use Rattle.dh_parser.specs.Grammar.{NameText, ViewText, SuffixText}
use Rattle.dh_parser.specs.TreesOfTexts.{suffix_of}
use Rattle.dh_parser.specs.Answers.{SameSuffix}
use Rattle.dh_parser.specs.Reading.{Outcome, good, outcome_bind, the_name, more_of, all_of, parent_and, brackets, view_from, the_view, steps}
use Rattle.dh_parser.proofs.Going.{assoc, same_bind, if_true, if_false}

pub pushed_map : {X Z : Type 0} {new : List X} (old : List X) (f : X → Z) (x : X) → new ≡ old ++ (x ∷ []) → map f new ≡ map f old ++ (f x ∷ [])
pushed_map old f x e = ap (map f) e ∙ snoc f x old
  where
    snoc : {X Z : Type 0} (f : X → Z) (x : X) (l : List X) → map f (l ++ (x ∷ [])) ≡ map f l ++ (f x ∷ [])
    snoc f x [] = refl
    snoc f x (y ∷ l) = ap (λ m. f y ∷ m) (snoc f x l)

pub first_in : {X : Type 0} {new old : List X} {y : X} (x : X) (rest : List X) → new ≡ old ++ (x ∷ []) → old ≡ [] → x ≡ y → y ∷ rest ≡ new ++ rest
first_in x rest g n s = ap (λ u. u ∷ rest) (sym s) ∙ ap (λ l. l ++ rest) (sym (g ∙ ap (λ l. l ++ (x ∷ [])) n))

pub next_in : {X : Type 0} {w new : List X} {y : X} (xs : List X) (x : X) (rest : List X) → w ≡ xs ++ (y ∷ rest) → new ≡ xs ++ (x ∷ []) → x ≡ y → w ≡ new ++ rest
next_in xs x rest f g s = f ∙ (ap (λ u. xs ++ (u ∷ rest)) (sym s) ∙ (sym (append_assoc xs (x ∷ []) rest) ∙ ap (λ l. l ++ rest) (sym g)))

pub all_in : {X : Type 0} {w : List X} (xs : List X) → w ≡ xs ++ [] → xs ≡ w
all_in xs f = sym (f ∙ append-nil xs)

abbrev suffixed_as : ℕ → Term → Suffixed
suffixed_as n t = record { factor = n; offset = t }

pub suffix_seen : (n : Numeral) (e : Expr) (s : SuffixText) → SameSuffix n e s → factor_seen (n.value, e) ≡ suffix_of s
suffix_seen n e s h = ap (λ v. factor_seen (v, e)) h.0.0 ∙ ap (λ t. suffixed_as s.factor.value t) h.1

pub brackets_go : {A : Type 0} (one : List Token → Outcome A) (ts : List Token) → comes mark.OpenBracket ts ≡ true → (n : ℕ)
    → more_of one (suc n) ts ≡ outcome_bind (one ts) (λ a r. outcome_bind (more_of one n r) (λ more r. good (a ∷ more) r))
brackets_go one ts e n = if_true (comes mark.OpenBracket ts) _ _ e

pub brackets_end : {A : Type 0} (one : List Token → Outcome A) (ts : List Token) → comes mark.OpenBracket ts ≡ false → (n : ℕ) → more_of one (suc n) ts ≡ good [] ts
brackets_end one ts e n = if_false (comes mark.OpenBracket ts) _ _ e

-- the parent and the brackets, apart and together
pub brackets_is : {A : Type 0} (one : List Token → Outcome A) (make : NameText → A → List A → ViewText) (ts : List Token)
    → brackets one make ts ≡ outcome_bind (parent_and one ts) (λ p r. good (make p.0 p.1.0 p.1.1) r)
brackets_is one make ts = sym (
    assoc (the_name ts) _ _ ∙ same_bind (the_name ts) _ _ λ parent r0.
    assoc (all_of one r0) _ _ ∙ (assoc (one r0) _ _ ∙ same_bind (one r0) _ _ λ a r1.
    assoc (more_of one (steps r1) r1) _ _))

pub view_at : (all ts : List Token) (t : Token) (k : TokenKind) → all ≡ t ∷ ts → t.kind ≡ k → the_view all ≡ view_from k t ts
view_at all ts t k e f = ap the_view e ∙ ap (λ x. view_from x t ts) f

pub ap2 : {X Y Z : Type 0} {x x' : X} {y y' : Y} (f : X → Y → Z) → x ≡ x' → y ≡ y' → f x y ≡ f x' y'
ap2 {x' = x'} {y = y} f p q = ap (λ u. f u y) p ∙ ap (f x') q
