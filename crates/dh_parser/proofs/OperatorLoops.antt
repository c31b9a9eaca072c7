-- The loop over operators: what is read so far is the left operand of what follows.
use Rattle.std.proofs.Common.{◌≡◌, ℕ, zero, suc, ◌<◌, List, length, Some, None, Result, Ok, Err, refl, ap, sym, subst, ◌∙◌, arith}
use Rattle.dh_base.specs.declared.places.Place.{Place}
use Rattle.dh_lexer.specs.declared.tokens.Token.{Token}
use Rattle.dh_value.specs.declared.operators.Op.{Op}
use Rattle.dh_tree.specs.declared.trees.expressions.Expr.{Expr}
use Rattle.dh_tree.specs.Seen.{term_seen}
use Rattle.dh_parser.specs.declared.parsing.reading.Stop.{Stop}
use Rattle.dh_parser.specs.declared.parsing.reading.Stop.TheVariants as stop
use Rattle.dh_parser.specs.Allowed.{level}
use Rattle.dh_parser.specs.Grammar.{ExprText, binary}
use Rattle.dh_parser.specs.TreesOfTexts.{term_of, joined_terms}
use Rattle.dh_parser.specs.Reading.{Outcome, good, bad, deep, outcome_bind, sign_text, sign_at, chain_with, chain, expression, operand}
use Rattle.dh_parser.specs.Answers.{AnswersOutcome, MadeOf, SameTerm, TookOperator, joined_expressions}
use Rattle.dh_parser.proofs.StepsOfExpressions.{none_below}
use Rattle.dh_parser.proofs.WholeExpressions.{expression_is}
use Rattle.dh_parser.proofs.Going.{err_then, stop_of}

-- the whole answer is that of the operators to come behind a text of the left operand
pub record Chains (k : ℕ) (left : Expr) (rest : List Token) (whole : Outcome ExprText) : Type 0 where
  pub left_steps : ℕ
  pub text : ExprText
  pub few : length rest < left_steps
  pub whole_is : whole ≡ chain expression left_steps k text rest
  pub seen : SameTerm left text

abbrev chaining : (k : ℕ) (left : Expr) (rest : List Token) (whole : Outcome ExprText) (n : ℕ) (e : ExprText)
    → length rest < n → whole ≡ chain expression n k e rest → SameTerm left e → Chains k left rest whole
chaining k left rest whole n e few f s = record { left_steps = n; text = e; few = few; whole_is = f; seen = s }

begins_by : (k : ℕ) (left : Expr) (rest ts : List Token) (o : Outcome ExprText) → operand expression ts ≡ o → AnswersOutcome SameTerm (Ok left) rest o → Chains k left rest (expression k ts)
begins_by k left rest ts (good e r) f h =
    chaining k left rest (expression k ts) (suc (length rest)) e (omega arith)
    (expression_is k ts ∙ (ap (λ o. outcome_bind o (λ e r. chain expression (suc (length r)) k e r)) f ∙ ap (λ l. chain expression (suc (length l)) k e l) (sym h.holds.1))) h.holds.0
begins_by k left rest ts (bad r) f h = absurd h.holds
begins_by k left rest ts deep f h = absurd h.holds

pub chain_begins : {left : Expr} {rest : List Token} (k : ℕ) (ts : List Token) → AnswersOutcome SameTerm (Ok left) rest (operand expression ts) → Chains k left rest (expression k ts)
chain_begins {left = left} {rest = rest} k ts h = begins_by k left rest ts (operand expression ts) refl h

pub chain_none : {A : Type 0} {s : A → ExprText → Type 0} {e : Stop} {rest : List Token} (k : ℕ) (ts : List Token) → AnswersOutcome s (Err e) rest (operand expression ts) → AnswersOutcome s (Err e) rest (expression k ts)
chain_none k ts h = rw (expression_is k ts) (err_then _ h)

goes_by : (k : ℕ) (left right joined : Expr) (op : Op) (place : Place) (rest mid new : List Token) (whole : Outcome ExprText) (n : ℕ) (e : ExprText)
    → length rest < n → whole ≡ chain expression n k e rest → SameTerm left e → sign_at k rest ≡ Some (sign_text op place mid)
    → (o : Outcome ExprText) → expression (suc (level op)) mid ≡ o → AnswersOutcome SameTerm (Ok right) new o → term_seen joined ≡ joined_terms op (term_seen left) (term_seen right)
    → length new < length rest → Chains k joined new whole
goes_by k left right joined op place rest mid new whole zero e few f s t o g h j less = absurd (none_below (length rest) few)
goes_by k left right joined op place rest mid new whole (suc n) e few f s t (good x r) g h j less =
    chaining k joined new whole n (binary op place e x) (omega arith)
    (f ∙ (ap (λ u. chain_with expression e rest (λ y q. chain expression n k y q) u) t
    ∙ (ap (λ u. outcome_bind u (λ y q. chain expression n k (binary op place e y) q)) g ∙ ap (λ l. chain expression n k (binary op place e x) l) (sym h.holds.1))))
    (j ∙ (ap (λ a. joined_terms op a (term_seen right)) s ∙ ap (λ a. joined_terms op (term_of e) a) h.holds.0))
goes_by k left right joined op place rest mid new whole (suc n) e few f s t (bad r) g h j less = absurd h.holds
goes_by k left right joined op place rest mid new whole (suc n) e few f s t deep g h j less = absurd h.holds

-- an operator and its right operand
pub chain_goes : {k : ℕ} {left right joined : Expr} {op : Op} {rest mid new : List Token} {whole : Outcome ExprText} → Chains k left rest whole → TookOperator k (Some op) rest mid
    → AnswersOutcome SameTerm (Ok right) new (expression (suc (level op)) mid) → term_seen joined ≡ joined_terms op (term_seen left) (term_seen right) → length new < length rest → Chains k joined new whole
chain_goes {k = k} {left = left} {right = right} {joined = joined} {op = op} {rest = rest} {mid = mid} {new = new} {whole = whole} w t h j less =
    goes_by k left right joined op t.0 rest mid new whole w.left_steps w.text w.few w.whole_is w.seen t.1 (expression (suc (level op)) mid) refl h j less

refused_by : {A : Type 0} (s : A → ExprText → Type 0) (x : Stop) (k : ℕ) (op : Op) (place : Place) (rest mid new : List Token) (whole : Outcome ExprText) (n : ℕ) (e : ExprText)
    → length rest < n → whole ≡ chain expression n k e rest → sign_at k rest ≡ Some (sign_text op place mid)
    → AnswersOutcome s (Err x) new (expression (suc (level op)) mid) → AnswersOutcome s (Err x) new whole
refused_by s x k op place rest mid new whole zero e few f t h = absurd (none_below (length rest) few)
refused_by {A = A} s x k op place rest mid new whole (suc n) e few f t h =
    rw (f ∙ ap (λ u. chain_with expression e rest (λ y q. chain expression n k y q) u) t) (err_then {B = A} {C = A} {s = s} (λ y q. chain expression n k (binary op place e y) q) h)

pub chain_refused : {A : Type 0} {s : A → ExprText → Type 0} {x : Stop} {k : ℕ} {left : Expr} {op : Op} {rest mid new : List Token} {whole : Outcome ExprText} → Chains k left rest whole → TookOperator k (Some op) rest mid
    → AnswersOutcome s (Err x) new (expression (suc (level op)) mid) → AnswersOutcome s (Err x) new whole
chain_refused {s = s} {x = x} {k = k} {op = op} {rest = rest} {mid = mid} {new = new} {whole = whole} w t h =
    refused_by s x k op t.0 rest mid new whole w.left_steps w.text w.few w.whole_is t.1 h

done_by : (k : ℕ) (left : Expr) (rest new : List Token) (whole : Outcome ExprText) (n : ℕ) (e : ExprText)
    → length rest < n → whole ≡ chain expression n k e rest → SameTerm left e → sign_at k rest ≡ None → new ≡ rest → AnswersOutcome SameTerm (Ok left) new whole
done_by k left rest new whole zero e few f s t g = absurd (none_below (length rest) few)
done_by k left rest new whole (suc n) e few f s t g =
    rw (f ∙ ap (λ u. chain_with expression e rest (λ y q. chain expression n k y q) u) t) (record { holds = (s, g) })

pub chain_done : {k : ℕ} {left : Expr} {rest new : List Token} {whole : Outcome ExprText} → Chains k left rest whole → TookOperator k None rest new → AnswersOutcome SameTerm (Ok left) new whole
chain_done {k = k} {left = left} {rest = rest} {new = new} {whole = whole} w t =
    done_by k left rest new whole w.left_steps w.text w.few w.whole_is w.seen t.0 t.1

-- an operator, where its right operand was read
pub joins_goes : {k : ℕ} {left joined : Expr} {right : Result Expr Stop} {op : Op} {rest mid new : List Token} {whole : Outcome ExprText} → Chains k left rest whole → TookOperator k (Some op) rest mid
    → AnswersOutcome SameTerm right new (expression (suc (level op)) mid) → MadeOf (λ r e. term_seen e ≡ joined_expressions op left r) right (Ok joined) → length new < length rest → Chains k joined new whole
joins_goes {right = Ok r} w t h m less = chain_goes w t h m.holds less
joins_goes {right = Err e} w t h m less = absurd (cc m.holds)

-- and where it was not, or memory was wanting
pub joins_refused : {k : ℕ} {left : Expr} {right : Result Expr Stop} {x : Stop} {op : Op} {rest mid new : List Token} {whole : Outcome ExprText} → Chains k left rest whole → TookOperator k (Some op) rest mid
    → AnswersOutcome SameTerm right new (expression (suc (level op)) mid) → MadeOf (λ r e. term_seen e ≡ joined_expressions op left r) right (Err x) → AnswersOutcome SameTerm (Err x) new whole
joins_refused {right = Ok r} {x = stop.Here} w t h m = absurd m.holds
joins_refused {right = Ok r} {x = stop.NoMemory} w t h m = record { holds = tt }
joins_refused {right = Err e} {new = new} {whole = whole} w t h m =
    subst (λ (f : Stop). AnswersOutcome SameTerm (Err f) new whole) (sym (ap stop_of m.holds)) (chain_refused w t h)
