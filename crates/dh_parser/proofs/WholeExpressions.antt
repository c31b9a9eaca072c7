-- The answer of reading does not hang on the number of steps, where these suffice: so the reader of
-- expressions with steps enough is told by itself.
use Rattle.std.proofs.Common.{◌≡◌, ℕ, zero, suc, ◌≤◌, Bool, true, false, if◌then◌else◌, List, [], ◌∷◌, length, Option, Some, None, refl, ap, ◌∙◌, ◌<◌, ◌+◌, arith}
use Rattle.dh_base.specs.declared.places.Place.{Place}
use Rattle.dh_lexer.specs.declared.tokens.Token.{Token}
use Rattle.dh_lexer.specs.declared.tokens.TokenKind.{TokenKind}
use Rattle.dh_lexer.specs.declared.tokens.TokenKind.TheVariants as kind
use Rattle.dh_parser.specs.declared.parsing.reading.Mark.TheVariants as mark
use Rattle.dh_parser.specs.Marks.{comes}
use Rattle.dh_parser.specs.Grammar.{NameText, ExprText, access, binary, element, physical, index_then}
use Rattle.dh_parser.specs.Reading.{Outcome, good, bad, deep, outcome_bind, the, name_text, the_number, Sign, sign_at, ExpressionReader, the_index, more_indices, access_from, access_goes_on, named_from, bracket_from, operand_from, operand, chain_with, chain, read, steps, expression}
use Rattle.dh_parser.specs.Allowed.{level}
use Rattle.dh_parser.proofs.StepsOfExpressions.{Left, mark_left, number_left, Enough, index_left, operand_left, read_left, sign_shorter, none_below, lt-own, lt-suc, suc-lt}

pub same_next : {A B : Type 0} (c n : ℕ) (o o' : Outcome A) (go go' : A → List Token → Outcome B)
    → o ≡ o' → Left c n o → ((a : A) (r : List Token) → c + length r ≤ n → go a r ≡ go' a r) → outcome_bind o go ≡ outcome_bind o' go'
same_next c n (good a r) o' go go' e l h = h a r l ∙ ap (λ x. outcome_bind x go') e
same_next c n (bad r) o' go go' e l h = ap (λ x. outcome_bind x go') e
same_next c n deep o' go go' e l h = ap (λ x. outcome_bind x go') e

pub same_either : {A : Type 0} (b : Bool) (x y x' y' : Outcome A) → x ≡ x' → y ≡ y' → (if b then x else y) ≡ (if b then x' else y')
same_either true x y x' y' e f = e
same_either false x y x' y' e f = f

-- two readers with one answer on fewer than m tokens, on which they do not give up
pub record Alike (m : ℕ) (rd re : ExpressionReader) : Type 0 where
  pub left : Enough m rd
  pub same : (k : ℕ) (ts : List Token) → length ts < m → rd k ts ≡ re k ts

index_alike : (m : ℕ) (rd re : ExpressionReader) → Alike m rd re → (ts : List Token) → length ts ≤ m → the_index rd ts ≡ the_index re ts
index_alike m rd re h ts few =
    same_next 1 (length ts) (the mark.OpenBracket ts) _ _ _ refl (mark_left mark.OpenBracket ts) λ opener r0 l0.
    same_next 1 (length r0) (rd 0 r0) _ _ _ (h.same 0 r0 (omega arith)) (h.left 0 r0 (omega arith)) λ x r1 l1.
    refl

indices_alike : (m : ℕ) (rd re : ExpressionReader) → Alike m rd re → (n : ℕ) (ts : List Token) → length ts ≤ m → more_indices rd n ts ≡ more_indices re n ts
indices_alike m rd re h zero ts few = refl
indices_alike m rd re h (suc n) ts few =
    same_either (comes mark.OpenBracket ts) _ _ _ _
    (same_next 1 (length ts) (the_index rd ts) _ _ _ (index_alike m rd re h ts few) (index_left m rd h.left ts few) λ i r0 l0.
    ap (λ o. outcome_bind o (λ more r. good (index_then i more) r)) (indices_alike m rd re h n r0 (omega arith)))
    refl

pub access_alike : (m : ℕ) (rd re : ExpressionReader) → Alike m rd re → (n : NameText) (ts : List Token) → length ts ≤ m → access_from rd n ts ≡ access_from re n ts
access_alike m rd re h n ts few =
    same_either (comes mark.OpenBrace ts) _ _ _ _
    (same_next 1 (length ts) (the mark.OpenBrace ts) _ _ _ refl (mark_left mark.OpenBrace ts) λ opener r0 l0.
    same_next 1 (length r0) (the_number r0) _ _ _ refl (number_left r0) λ bank r1 l1.
    same_next 1 (length r1) (the mark.CloseBrace r1) _ _ _ refl (mark_left mark.CloseBrace r1) λ closer r2 l2.
    ap (λ o. outcome_bind o (λ i r. good (physical n opener bank closer i) r)) (index_alike m rd re h r2 (omega arith)))
    (same_next 1 (length ts) (the_index rd ts) _ _ _ (index_alike m rd re h ts few) (index_left m rd h.left ts few) λ i r0 l0.
    ap (λ o. outcome_bind o (λ more r. good (element n i more) r)) (indices_alike m rd re h (suc (length r0)) r0 (omega arith)))

named_alike : (m : ℕ) (rd re : ExpressionReader) → Alike m rd re → (n : NameText) (ts : List Token) → length ts ≤ m → named_from rd n ts ≡ named_from re n ts
named_alike m rd re h n ts few =
    same_either (access_goes_on ts) _ _ _ _
    (ap (λ o. outcome_bind o (λ a r. good (access a) r)) (access_alike m rd re h n ts few))
    refl

bracket_alike : (m : ℕ) (rd re : ExpressionReader) → Alike m rd re → (opener : Place) (ts : List Token) → length ts < m → bracket_from rd opener ts ≡ bracket_from re opener ts
bracket_alike m rd re h opener ts few =
    same_next 1 (length ts) (rd 0 ts) _ _ _ (h.same 0 ts few) (h.left 0 ts few) λ x r0 l0.
    refl

operand_alike_from : (m : ℕ) (rd re : ExpressionReader) → Alike m rd re → (kd : TokenKind) (t : Token) (ts : List Token) → length ts < m → operand_from rd kd t ts ≡ operand_from re kd t ts
operand_alike_from m rd re h (kind.Name n) t ts few = named_alike m rd re h (name_text n t.place) ts (omega arith)
operand_alike_from m rd re h kind.OpenParen t ts few = bracket_alike m rd re h t.place ts few
operand_alike_from m rd re h _ t ts few = refl

pub operand_alike : (m : ℕ) (rd re : ExpressionReader) → Alike m rd re → (ts : List Token) → length ts ≤ m → operand rd ts ≡ operand re ts
operand_alike m rd re h [] few = refl
operand_alike m rd re h (t ∷ ts) few = operand_alike_from m rd re h t.kind t ts (suc-lt (length ts) m few)

-- the rests of two chains have one answer
abbrev Chained : ℕ → (go went : ExprText → List Token → Outcome ExprText) → Type 0
Chained m go went = (e : ExprText) (ts : List Token) → length ts ≤ m → go e ts ≡ went e ts

chain_alike_by : (m : ℕ) (rd re : ExpressionReader) → Alike m rd re → (k : ℕ) (go went : ExprText → List Token → Outcome ExprText) → Chained m go went
    → (e : ExprText) (ts : List Token) → length ts ≤ m → (x : Option Sign) → sign_at k ts ≡ x → chain_with rd e ts go x ≡ chain_with re e ts went x
chain_alike_by m rd re h k go went g e ts few None none = refl
chain_alike_by m rd re h k go went g e ts few (Some s) some =
    let l = sign_shorter k ts s some in
    let less : length s.rest < m = omega arith in
    same_next 1 (length s.rest) (rd (suc (level s.op)) s.rest) _ _ _ (h.same (suc (level s.op)) s.rest less) (h.left (suc (level s.op)) s.rest less) λ f r l1.
    g (binary s.op s.place e f) r (omega arith)

chain_alike : (m : ℕ) (rd re : ExpressionReader) → Alike m rd re → (k n : ℕ) → Chained m (λ e ts. chain rd n k e ts) (λ e ts. chain re n k e ts)
chain_alike m rd re h k zero e ts few = refl
chain_alike m rd re h k (suc n) e ts few =
    chain_alike_by m rd re h k (λ f r. chain rd n k f r) (λ f r. chain re n k f r) (chain_alike m rd re h k n) e ts few (sign_at k ts) refl

below_all : (t m d : ℕ) → m ≤ d → t < m → t < d
below_all t m d h k = omega arith

-- all numbers of steps that suffice have one answer
read_same : (d c : ℕ) (k : ℕ) (ts : List Token) → length ts < d → length ts < c → read d k ts ≡ read c k ts
read_same zero c k ts few less = absurd (none_below (length ts) few)
read_same (suc d) zero k ts few less = absurd (none_below (length ts) less)
read_same (suc d) (suc c) k ts few less =
    let alike : Alike (length ts) (read d) (read c) = record {
      left = λ j r short. read_left d j r (omega arith);
      same = λ j r short. read_same d c j r (omega arith) (omega arith);
    } in
    same_next 1 (length ts) (operand (read d) ts) _ _ _ (operand_alike (length ts) (read d) (read c) alike ts (omega arith)) (operand_left d (read d) (read_left d) ts (lt-suc (length ts) d few)) λ e r l.
    chain_alike (length ts) (read d) (read c) alike k (suc (length r)) e r (omega arith)

-- a number of steps that suffices, and the whole reader
pub steps_alike : (m d : ℕ) → m ≤ d → Alike m (read d) expression
unfolding expression
steps_alike m d h = record {
  left = λ k ts few. read_left d k ts (omega arith);
  same = λ k ts few. read_same d (steps ts) k ts (omega arith) (lt-own (length ts));
}

-- the whole reader of expressions, by itself
pub expression_is : (k : ℕ) (ts : List Token) → expression k ts ≡ outcome_bind (operand expression ts) (λ e r. chain expression (suc (length r)) k e r)
unfolding expression
expression_is k ts =
    let alike = steps_alike (length ts) (length ts) (omega arith) in
    same_next 1 (length ts) (operand (read (length ts)) ts) _ _ _ (operand_alike (length ts) (read (length ts)) expression alike ts (omega arith)) (operand_left (length ts) (read (length ts)) (read_left (length ts)) ts (omega arith)) λ e r l.
    chain_alike (length ts) (read (length ts)) expression alike k (suc (length r)) e r (omega arith)

pub operand_is : (ts : List Token) → operand (read (steps ts)) ts ≡ operand expression ts
operand_is ts = operand_alike (length ts) (read (steps ts)) expression (steps_alike (length ts) (steps ts) (omega arith)) ts (omega arith)

pub access_is : (n : NameText) (ts : List Token) → access_from (read (steps ts)) n ts ≡ access_from expression n ts
access_is n ts = access_alike (length ts) (read (steps ts)) expression (steps_alike (length ts) (steps ts) (omega arith)) n ts (omega arith)
