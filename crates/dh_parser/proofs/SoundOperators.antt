-- Reading of operators is sound. The operators of a chain come from the tightest to the loosest, as a
-- right operand takes all that bind more tightly than its own: so what is read so far binds tightly
-- enough to be a left operand.
use Rattle.std.proofs.Common.{◌≡◌, ℕ, zero, suc, ◌≤◌, ◌+◌, subst, Bool, true, false, if◌then◌else◌, List, [], ◌∷◌, length, Option, Some, None, refl, ap, sym, ◌∙◌, nat_le, arith, unwrap_or}
use Rattle.std.proofs.lemmas.Bool.{leb-true}
use Rattle.dh_lexer.specs.declared.tokens.Token.{Token}
use Rattle.dh_lexer.specs.declared.tokens.TokenKind.{TokenKind}
use Rattle.dh_lexer.specs.declared.tokens.TokenKind.TheVariants as kind
use Rattle.dh_lexer.specs.LexedText.{token_placed}
use Rattle.dh_value.specs.declared.operators.Op.{Op}
use Rattle.dh_value.specs.declared.operators.Op.TheVariants as op
use Rattle.dh_parser.specs.Grammar.{ExprText, literal, negative, truth, variable, access, bracket, cast, binary}
use Rattle.dh_parser.specs.Spelling.{put, sign_of, spell}
use Rattle.dh_parser.specs.Allowed.{level, ExpressionFits}
use Rattle.dh_parser.specs.Reading.{Outcome, good, bad, deep, outcome_bind, Sign, op_from, sign_text, sign_from, sign_at, ExpressionReader, operand, chain_with, chain, read}
use Rattle.dh_parser.proofs.SoundBasics.{Good, next}
use Rattle.std.proofs.lemmas.Bool.Decides.{nat_tests}
use Rattle.dh_parser.proofs.SoundOperands.{Sound, operand_took}

op_inj : (o p : Op) → Some o ≡ Some p → o ≡ p
op_inj o p e = ap (λ x. unwrap_or x op.Add) e

none_op : (k : TokenKind) (o : Op) → None ≡ Some o → k ≡ sign_of o
none_op k o e = cc

pub op_told : (k : TokenKind) (o : Op) → op_from k ≡ Some o → k ≡ sign_of o
op_told kind.Or o e = ap sign_of (op_inj op.Either o e)
op_told kind.And o e = ap sign_of (op_inj op.Both o e)
op_told kind.Equal o e = ap sign_of (op_inj op.Eq o e)
op_told kind.NotEqual o e = ap sign_of (op_inj op.Ne o e)
op_told kind.Less o e = ap sign_of (op_inj op.Lt o e)
op_told kind.Greater o e = ap sign_of (op_inj op.Gt o e)
op_told kind.LessEqual o e = ap sign_of (op_inj op.Le o e)
op_told kind.GreaterEqual o e = ap sign_of (op_inj op.Ge o e)
op_told kind.Bar o e = ap sign_of (op_inj op.Or o e)
op_told kind.Caret o e = ap sign_of (op_inj op.Xor o e)
op_told kind.Ampersand o e = ap sign_of (op_inj op.And o e)
op_told kind.ShiftLeft o e = ap sign_of (op_inj op.Shl o e)
op_told kind.ShiftRight o e = ap sign_of (op_inj op.Shr o e)
op_told kind.Plus o e = ap sign_of (op_inj op.Add o e)
op_told kind.Minus o e = ap sign_of (op_inj op.Sub o e)
op_told kind.Star o e = ap sign_of (op_inj op.Mul o e)
op_told k o e = none_op k o e

pub level_small : (o : Op) → level o ≤ 10
level_small op.Either = omega arith
level_small op.Both = omega arith
level_small op.Eq = omega arith
level_small op.Ne = omega arith
level_small op.Lt = omega arith
level_small op.Gt = omega arith
level_small op.Le = omega arith
level_small op.Ge = omega arith
level_small op.Or = omega arith
level_small op.Xor = omega arith
level_small op.And = omega arith
level_small op.Shl = omega arith
level_small op.Shr = omega arith
level_small op.Add = omega arith
level_small op.Sub = omega arith
level_small op.Mul = omega arith

not_le : (l x : ℕ) → nat_le (suc l) x ≡ false → x ≤ l
not_le l x e = grind (arith, nat_tests)

-- the operator that comes first
abbrev pub first_op : List Token → Option Op
first_op [] = None
first_op (t ∷ ts) = op_from t.kind

abbrev pub Below : ℕ → List Token → Type 0
Below m ts = (o : Op) → first_op ts ≡ Some o → level o ≤ m

pub record SignIs (k : ℕ) (ts : List Token) (s : Sign) : Type 0 where
  pub least : k ≤ level s.op
  pub tokens : ts ≡ put (sign_of s.op) s.place s.rest
  pub first : first_op ts ≡ Some s.op

none_some : (s : Sign) → None ≡ Some s → ⊥
none_some s e = cc

none_sign : {k : ℕ} {ts : List Token} (s : Sign) → None ≡ Some s → SignIs k ts s
none_sign s e = absurd (none_some s e)

sign_inj : (s u : Sign) → Some s ≡ Some u → s ≡ u
sign_inj s u e = ap (λ x. unwrap_or x s) e

sign_tested : (k : ℕ) (o : Op) (t : Token) (ts : List Token) (s : Sign) (b : Bool) → op_from t.kind ≡ Some o → nat_le k (level o) ≡ b
    → (if b then Some (sign_text o t.place ts) else None) ≡ Some s → SignIs k (t ∷ ts) s
sign_tested k o t ts s false eo eb e = none_sign s e
sign_tested k o t ts s true eo eb e =
    subst (λ u. SignIs k (t ∷ ts) u) (sign_inj (sign_text o t.place ts) s e)
    (record { least = leb-true k (level o) eb; tokens = ap (λ x. token_placed x t.place ∷ ts) (op_told t.kind o eo); first = eo })

sign_by : (k : ℕ) (t : Token) (ts : List Token) (s : Sign) (x : Option Op) → op_from t.kind ≡ x → sign_from k x t ts ≡ Some s → SignIs k (t ∷ ts) s
sign_by k t ts s None eo e = none_sign s e
sign_by k t ts s (Some o) eo e = sign_tested k o t ts s (nat_le k (level o)) eo refl e

pub sign_is : (k : ℕ) (ts : List Token) (s : Sign) → sign_at k ts ≡ Some s → SignIs k ts s
sign_is k [] s e = none_sign s e
sign_is k (t ∷ ts) s e = sign_by k t ts s (op_from t.kind) refl e

loose_tested : (l x : ℕ) (s : Sign) (b : Bool) → nat_le (suc l) x ≡ b → (if b then Some s else None) ≡ None → x ≤ l
loose_tested l x s true eb e = cc
loose_tested l x s false eb e = not_le l x eb

pub loose : (l : ℕ) (ts : List Token) → sign_at (suc l) ts ≡ None → Below l ts
loose l [] e o first = cc
loose l (t ∷ ts) e o first =
    loose_tested l (level o) (sign_text o t.place ts) (nat_le (suc l) (level o)) refl (ap (λ x. sign_from (suc l) x t ts) (sym first) ∙ e)

le-trans : (a b c : ℕ) → a ≤ b → b ≤ c → a ≤ c
le-trans a b c h k = omega arith

pub looser : (l m : ℕ) (e : ExprText) → l ≤ m → ExpressionFits m e → ExpressionFits l e
looser l m (literal n) h f = f
looser l m (negative minus n) h f = f
looser l m (truth holds word) h f = f
looser l m (variable n) h f = f
looser l m (access a) h f = f
looser l m (bracket opener e closer) h f = f
looser l m (cast opener e word k closer) h f = f
looser l m (binary o sign x y) h f = (le-trans l m (level o) h f.0, f.1)

-- what an expression of this level is read as, and what it leaves
abbrev pub Read : ℕ → List Token → ExprText → List Token → Type 0
Read k ts x rest = (ExpressionFits k x × (ts ≡ spell x rest)) × (sign_at k rest ≡ None)

abbrev pub Tight : ExpressionReader → Type 0
Tight rd = (k : ℕ) (ts : List Token) → Good (Read k ts) (rd k ts)

good_weak : {A : Type 0} (P Q : A → List Token → Type 0) (o : Outcome A) → Good P o → ((a : A) (r : List Token) → P a r → Q a r) → Good Q o
good_weak P Q (good a r) p k = k a r p
good_weak P Q (bad r) p k = tt
good_weak P Q deep p k = tt

pub next_good : {A B : Type 0} (P : A → List Token → Type 0) (Q : B → List Token → Type 0) (o : Outcome A) (go : A → List Token → Outcome B)
    → Good P o → ((a : A) (r : List Token) → P a r → Good Q (go a r)) → Good Q (outcome_bind o go)
next_good P Q (good a r) go p k = k a r p
next_good P Q (bad r) go p k = tt
next_good P Q deep go p k = tt

pub sound_of : (rd : ExpressionReader) → Tight rd → Sound rd
sound_of rd h k ts = good_weak (Read k ts) (λ x rest. ExpressionFits k x × (ts ≡ spell x rest)) (rd k ts) (h k ts) (λ a r p. p.0)

pub le-refl : (n : ℕ) → n ≤ n
le-refl n = omega arith

low : (k : ℕ) → k ≤ k + 10
low k = omega arith

high : (k x : ℕ) → x ≤ 10 → x ≤ k + 10
high k x h = omega arith

-- the rest of a chain, whose first operator binds at most as tightly as m, like what was read so far
abbrev Chained : ℕ → List Token → (ExprText → List Token → Outcome ExprText) → Type 0
Chained k all go = (m : ℕ) (e : ExprText) (ts : List Token) → k ≤ m → ExpressionFits m e → Below m ts → all ≡ spell e ts → Good (Read k all) (go e ts)

chain_by : (rd : ExpressionReader) → Tight rd → (k : ℕ) (all : List Token) (go : ExprText → List Token → Outcome ExprText) → Chained k all go
    → (m : ℕ) (e : ExprText) (ts : List Token) → k ≤ m → ExpressionFits m e → Below m ts → all ≡ spell e ts
    → (x : Option Sign) → sign_at k ts ≡ x → Good (Read k all) (chain_with rd e ts go x)
chain_by rd h k all go c m e ts km f below is None none = ((looser k m e km f, is), none)
chain_by rd h k all go c m e ts km f below is (Some s) some =
    let sign = sign_is k ts s some in
    let l : level s.op ≤ m = below s.op sign.first in
    next_good (Read (suc (level s.op)) s.rest) (Read k all) (rd (suc (level s.op)) s.rest) (λ y r. go (binary s.op s.place e y) r) (h (suc (level s.op)) s.rest) λ y r p.
    c (level s.op) (binary s.op s.place e y) r sign.least (le-refl (level s.op), (looser (level s.op) m e l f, p.0.0)) (loose (level s.op) r p.1)
    (is ∙ ap (λ u. spell e u) (sign.tokens ∙ ap (λ u. put (sign_of s.op) s.place u) p.0.1))

chain_tight : (rd : ExpressionReader) → Tight rd → (k : ℕ) (all : List Token) (n : ℕ) → Chained k all (λ e ts. chain rd n k e ts)
chain_tight rd h k all zero m e ts km f below is = tt
chain_tight rd h k all (suc n) m e ts km f below is =
    chain_by rd h k all (λ x r. chain rd n k x r) (chain_tight rd h k all n) m e ts km f below is (sign_at k ts) refl

pub read_tight : (d : ℕ) (k : ℕ) (ts : List Token) → Good (Read k ts) (read d k ts)
read_tight zero k ts = tt
read_tight (suc d) k ts =
    next (ExpressionFits (k + 10)) spell ts (Read k ts) (operand (read d) ts) (λ e r. chain (read d) (suc (length r)) k e r) (operand_took (read d) (sound_of (read d) (read_tight d)) (k + 10) ts) λ e r f is.
    chain_tight (read d) (read_tight d) k ts (suc (length r)) (k + 10) e r (low k) f (λ o _. high k (level o) (level_small o)) is
