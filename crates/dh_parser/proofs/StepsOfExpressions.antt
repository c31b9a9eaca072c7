-- Reading takes no more steps than there are tokens and one: each call of itself stands behind a
-- token. So it says how many tokens each form takes at least, and never gives up.
use Rattle.std.proofs.Common.{◌≡◌, ℕ, zero, suc, ◌≤◌, Bool, true, false, if◌then◌else◌, List, [], ◌∷◌, length, Option, Some, None, refl, ap, sym, nat_le, ◌<◌, ◌+◌, arith, unwrap_or, subst}
use Rattle.dh_base.specs.declared.places.Place.{Place}
use Rattle.dh_lexer.specs.declared.tokens.Token.{Token}
use Rattle.dh_lexer.specs.declared.tokens.TokenKind.{TokenKind}
use Rattle.dh_lexer.specs.declared.tokens.TokenKind.TheVariants as kind
use Rattle.dh_value.specs.declared.operators.Op.{Op}
use Rattle.dh_parser.specs.declared.parsing.reading.Mark.{Mark}
use Rattle.dh_parser.specs.declared.parsing.reading.Mark.TheVariants as mark
use Rattle.dh_parser.specs.Marks.{is_mark, comes}
use Rattle.dh_parser.specs.Grammar.{NameText, NumberText, KindText, bit_kind, ubit_kind, ExprText, negative, binary}
use Rattle.dh_parser.specs.Reading.{Outcome, good, bad, deep, outcome_bind, the, name_from, number_from, name_text, number_text, the_name, the_number, is_width, width_from, the_width, width_then, kind_from, the_kind, the_ports, the_banks, the_dims, the_type, Sign, op_from, sign_text, sign_from, sign_at, ExpressionReader, the_index, more_indices, access_from, access_goes_on, named_from, bracket_from, operand_from, operand, chain_with, chain, read}
use Rattle.dh_parser.specs.Allowed.{level}

-- a text of at least so many tokens was read, or none; reading did not give up
abbrev pub Left : {A : Type 0} → ℕ → ℕ → Outcome A → Type 0
Left c n (good a rest) = c + length rest ≤ n
Left c n (bad rest) = Unit {0}
Left c n deep = ⊥

pub next_left : {A B : Type 0} (c n d k : ℕ) (o : Outcome A) (go : A → List Token → Outcome B)
    → Left c n o → ((a : A) (r : List Token) → c + length r ≤ n → Left d k (go a r)) → Left d k (outcome_bind o go)
next_left c n d k (good a r) go h then_left = then_left a r h
next_left c n d k (bad r) go h then_left = tt
next_left c n d k deep go h then_left = h

pub either_left : {A : Type 0} (c n : ℕ) (b : Bool) (x y : Outcome A) → (b ≡ true → Left c n x) → (b ≡ false → Left c n y) → Left c n (if b then x else y)
either_left c n true x y h k = h refl
either_left c n false x y h k = k refl

pub taken : (n : ℕ) → 1 + n ≤ suc n
taken n = omega arith

pub le-refl : (n : ℕ) → 0 + n ≤ n
le-refl n = omega arith

pub mark_left : (m : Mark) (ts : List Token) → Left 1 (length ts) (the m ts)
mark_left m [] = tt
mark_left m (t ∷ ts) = either_left 1 (length (t ∷ ts)) (is_mark t.kind m) (good t.place ts) (bad (t ∷ ts)) (λ _. taken (length ts)) (λ _. tt)

name_left_from : (k : TokenKind) (t : Token) (ts : List Token) → Left 1 (length (t ∷ ts)) (name_from k t ts)
name_left_from (kind.Name n) t ts = taken (length ts)
name_left_from _ t ts = tt

pub name_left : (ts : List Token) → Left 1 (length ts) (the_name ts)
name_left [] = tt
name_left (t ∷ ts) = name_left_from t.kind t ts

number_left_from : (k : TokenKind) (t : Token) (ts : List Token) → Left 1 (length (t ∷ ts)) (number_from k t ts)
number_left_from (kind.Number n) t ts = taken (length ts)
number_left_from _ t ts = tt

pub number_left : (ts : List Token) → Left 1 (length ts) (the_number ts)
number_left [] = tt
number_left (t ∷ ts) = number_left_from t.kind t ts

width_left_from : (k : TokenKind) (t : Token) (ts : List Token) → Left 1 (length (t ∷ ts)) (width_from k t ts)
width_left_from (kind.Number n) t ts = either_left 1 (length (t ∷ ts)) (is_width n) (good (number_text n t.place) ts) (bad (t ∷ ts)) (λ _. taken (length ts)) (λ _. tt)
width_left_from _ t ts = tt

width_left : (ts : List Token) → Left 1 (length ts) (the_width ts)
width_left [] = tt
width_left (t ∷ ts) = width_left_from t.kind t ts

width_then_left : (make : Place → NumberText → Place → KindText) (ts : List Token) → Left 1 (suc (length ts)) (width_then make ts)
width_then_left make ts =
    next_left 1 (length ts) _ _ (the mark.Less ts) _ (mark_left mark.Less ts) λ less r0 l0.
    next_left 1 (length r0) _ _ (the_width r0) _ (width_left r0) λ width r1 l1.
    next_left 1 (length r1) _ _ (the mark.Greater r1) _ (mark_left mark.Greater r1) λ greater r2 l2.
    (omega arith)

kind_left_from : (k : TokenKind) (t : Token) (ts : List Token) → Left 1 (length (t ∷ ts)) (kind_from k t ts)
kind_left_from kind.Bool t ts = taken (length ts)
kind_left_from kind.Bit t ts = width_then_left (bit_kind t.place) ts
kind_left_from kind.Ubit t ts = width_then_left (ubit_kind t.place) ts
kind_left_from _ t ts = tt

pub kind_left : (ts : List Token) → Left 1 (length ts) (the_kind ts)
kind_left [] = tt
kind_left (t ∷ ts) = kind_left_from t.kind t ts

ports_left : (ts : List Token) → Left 0 (length ts) (the_ports ts)
ports_left ts =
    either_left _ _ (comes mark.OpenBrace ts) _ _
    (λ _.
    next_left 1 (length ts) _ _ (the mark.OpenBrace ts) _ (mark_left mark.OpenBrace ts) λ opener r0 l0.
    next_left 1 (length r0) _ _ (the_number r0) _ (number_left r0) λ ports r1 l1.
    next_left 1 (length r1) _ _ (the mark.CloseBrace r1) _ (mark_left mark.CloseBrace r1) λ closer r2 l2.
    (omega arith))
    (λ _. le-refl (length ts))

banks_left : (ts : List Token) → Left 0 (length ts) (the_banks ts)
banks_left ts =
    either_left _ _ (comes mark.Bank ts) _ _
    (λ _.
    next_left 1 (length ts) _ _ (the mark.Bank ts) _ (mark_left mark.Bank ts) λ word r0 l0.
    next_left 1 (length r0) _ _ (the_number r0) _ (number_left r0) λ banks r1 l1.
    (omega arith))
    (λ _. le-refl (length ts))

pub none_below : (n : ℕ) → n < 0 → ⊥
none_below n h = omega arith

dims_left : (n : ℕ) (ts : List Token) → length ts < n → Left 0 (length ts) (the_dims n ts)
dims_left zero ts h = absurd (none_below (length ts) h)
dims_left (suc n) ts h =
    either_left _ _ (comes mark.OpenBracket ts) _ _
    (λ _.
    next_left 1 (length ts) _ _ (the mark.OpenBracket ts) _ (mark_left mark.OpenBracket ts) λ opener r0 l0.
    next_left 1 (length r0) _ _ (the_number r0) _ (number_left r0) λ size r1 l1.
    next_left 0 (length r1) _ _ (the_banks r1) _ (banks_left r1) λ banks r2 l2.
    next_left 1 (length r2) _ _ (the mark.CloseBracket r2) _ (mark_left mark.CloseBracket r2) λ closer r3 l3.
    next_left 0 (length r3) _ _ (the_dims n r3) _ (dims_left n r3 (omega arith)) λ more r4 l4.
    (omega arith))
    (λ _. le-refl (length ts))

pub type_left : (ts : List Token) → Left 1 (length ts) (the_type ts)
type_left ts =
    next_left 1 (length ts) _ _ (the_kind ts) _ (kind_left ts) λ k r0 l0.
    next_left 0 (length r0) _ _ (the_ports r0) _ (ports_left r0) λ ports r1 l1.
    next_left 0 (length r1) _ _ (the_dims (suc (length r1)) r1) _ (dims_left (suc (length r1)) r1 (omega arith)) λ dims r2 l2.
    (omega arith)

-- numbers of tokens
lt-le : (a b : ℕ) → a < b → a ≤ b
lt-le a b h = omega arith

pub suc-lt : (a b : ℕ) → suc a ≤ b → a < b
suc-lt a b h = omega arith

pub lt-suc : (a b : ℕ) → a < suc b → a ≤ b
lt-suc a b h = omega arith

pub lt-own : (a : ℕ) → a < suc a
lt-own a = omega arith

le-pred : (a b : ℕ) → 1 + a ≤ b → a ≤ b
le-pred a b h = omega arith

le-trans : (a b c : ℕ) → a ≤ b → b ≤ c → a ≤ c
le-trans a b c h k = omega arith

below : (s t m : ℕ) → 1 + s ≤ t → t ≤ m → s < m
below s t m h k = omega arith

first : (r s t m : ℕ) → 1 + s ≤ t → 1 + r ≤ s → t ≤ m → r ≤ m
first r s t m h k l = omega arith

second : (r s t n : ℕ) → 1 + s ≤ t → 1 + r ≤ s → t < suc n → r < n
second r s t n h k l = omega arith

third : (r s t : ℕ) → 1 + s ≤ t → 1 + r ≤ s → 0 + r ≤ t
third r s t h k = omega arith

pub weaker : {A : Type 0} (c r n : ℕ) (o : Outcome A) → Left 0 r o → c + r ≤ n → Left c n o
weaker c r n (good a x) h k = omega arith
weaker c r n (bad x) h k = tt
weaker c r n deep h k = h

none_some : (s : Sign) → None ≡ Some s → ⊥
none_some s e = cc

tested : (b : Bool) (u s : Sign) → (if b then Some u else None) ≡ Some s → s.rest ≡ u.rest
tested true u s e = ap (λ (x : Option Sign). (unwrap_or x s).rest) (sym e)
tested false u s e = absurd (none_some s e)

-- a reader that does not give up on fewer than m tokens
abbrev pub Enough : ℕ → ExpressionReader → Type 0
Enough m rd = (k : ℕ) (ts : List Token) → length ts < m → Left 1 (length ts) (rd k ts)

pub index_left : (m : ℕ) (rd : ExpressionReader) → Enough m rd → (ts : List Token) → length ts ≤ m → Left 1 (length ts) (the_index rd ts)
index_left m rd h ts few =
    next_left 1 (length ts) _ _ (the mark.OpenBracket ts) _ (mark_left mark.OpenBracket ts) λ opener r0 l0.
    next_left 1 (length r0) _ _ (rd 0 r0) _ (h 0 r0 (omega arith)) λ x r1 l1.
    next_left 1 (length r1) _ _ (the mark.CloseBracket r1) _ (mark_left mark.CloseBracket r1) λ closer r2 l2.
    (omega arith)

pub indices_left : (m : ℕ) (rd : ExpressionReader) → Enough m rd → (n : ℕ) (ts : List Token) → length ts ≤ m → length ts < n → Left 0 (length ts) (more_indices rd n ts)
indices_left m rd h zero ts few k = absurd (none_below (length ts) k)
indices_left m rd h (suc n) ts few k =
    either_left _ _ (comes mark.OpenBracket ts) _ _
    (λ _.
    next_left 1 (length ts) _ _ (the_index rd ts) _ (index_left m rd h ts (omega arith)) λ i r0 l0.
    next_left 0 (length r0) _ _ (more_indices rd n r0) _ (indices_left m rd h n r0 (omega arith) (omega arith)) λ more r1 l1.
    (omega arith))
    (λ _. le-refl (length ts))

pub access_left : (m : ℕ) (rd : ExpressionReader) → Enough m rd → (n : NameText) (ts : List Token) → length ts ≤ m → Left 1 (length ts) (access_from rd n ts)
access_left m rd h n ts few =
    either_left _ _ (comes mark.OpenBrace ts) _ _
    (λ _.
    next_left 1 (length ts) _ _ (the mark.OpenBrace ts) _ (mark_left mark.OpenBrace ts) λ opener r0 l0.
    next_left 1 (length r0) _ _ (the_number r0) _ (number_left r0) λ bank r1 l1.
    next_left 1 (length r1) _ _ (the mark.CloseBrace r1) _ (mark_left mark.CloseBrace r1) λ closer r2 l2.
    next_left 1 (length r2) _ _ (the_index rd r2) _ (index_left m rd h r2 (omega arith)) λ i r3 l3.
    (omega arith))
    (λ _.
    next_left 1 (length ts) _ _ (the_index rd ts) _ (index_left m rd h ts (omega arith)) λ i r0 l0.
    next_left 0 (length r0) _ _ (more_indices rd (suc (length r0)) r0) _ (indices_left m rd h (suc (length r0)) r0 (omega arith) (omega arith)) λ more r1 l1.
    (omega arith))

named_left : (m : ℕ) (rd : ExpressionReader) → Enough m rd → (n : NameText) (ts : List Token) → length ts ≤ m → Left 0 (length ts) (named_from rd n ts)
named_left m rd h n ts few =
    either_left _ _ (access_goes_on ts) _ _
    (λ _.
    next_left 1 (length ts) _ _ (access_from rd n ts) _ (access_left m rd h n ts (omega arith)) λ a r0 l0.
    (omega arith))
    (λ _. le-refl (length ts))

bracket_left : (m : ℕ) (rd : ExpressionReader) → Enough m rd → (opener : Place) (ts : List Token) → length ts < m → Left 0 (length ts) (bracket_from rd opener ts)
bracket_left m rd h opener ts few =
    next_left 1 (length ts) _ _ (rd 0 ts) _ (h 0 ts few) λ x r l.
    either_left _ _ (comes mark.As r) _ _
    (λ _.
    next_left 1 (length r) _ _ (the mark.As r) _ (mark_left mark.As r) λ word r0 l0.
    next_left 1 (length r0) _ _ (the_kind r0) _ (kind_left r0) λ kd r1 l1.
    next_left 1 (length r1) _ _ (the mark.CloseParen r1) _ (mark_left mark.CloseParen r1) λ closer r2 l2.
    (omega arith))
    (λ _.
    next_left 1 (length r) _ _ (the mark.CloseParen r) _ (mark_left mark.CloseParen r) λ closer r0 l0.
    (omega arith))

negative_left : (minus : Place) (ts : List Token) → Left 0 (length ts) (outcome_bind (the_number ts) (λ n r. good (negative minus n) r))
negative_left minus ts =
    next_left 1 (length ts) _ _ (the_number ts) _ (number_left ts) λ n r0 l0.
    (omega arith)

pub one_more : {A : Type 0} (n : ℕ) (o : Outcome A) → Left 0 n o → Left 1 (suc n) o
one_more n (good a r) h = omega arith
one_more n (bad r) h = tt
one_more n deep h = h

operand_left_from : (m : ℕ) (rd : ExpressionReader) → Enough m rd → (kd : TokenKind) (t : Token) (ts : List Token) → length ts < m → Left 1 (length (t ∷ ts)) (operand_from rd kd t ts)
operand_left_from m rd h (kind.Number n) t ts few = taken (length ts)
operand_left_from m rd h kind.Minus t ts few = one_more (length ts) _ (negative_left t.place ts)
operand_left_from m rd h kind.True t ts few = taken (length ts)
operand_left_from m rd h kind.False t ts few = taken (length ts)
operand_left_from m rd h (kind.Name n) t ts few = one_more (length ts) _ (named_left m rd h (name_text n t.place) ts (lt-le (length ts) m few))
operand_left_from m rd h kind.OpenParen t ts few = one_more (length ts) _ (bracket_left m rd h t.place ts few)
operand_left_from m rd h _ t ts few = tt

pub operand_left : (m : ℕ) (rd : ExpressionReader) → Enough m rd → (ts : List Token) → length ts ≤ m → Left 1 (length ts) (operand rd ts)
operand_left m rd h [] few = tt
operand_left m rd h (t ∷ ts) few = operand_left_from m rd h t.kind t ts (suc-lt (length ts) m few)

sign_shorter_by : (k : ℕ) (x : Option Op) (t : Token) (ts : List Token) (s : Sign) → sign_from k x t ts ≡ Some s → s.rest ≡ ts
sign_shorter_by k None t ts s e = absurd (none_some s e)
sign_shorter_by k (Some o) t ts s e = tested (nat_le k (level o)) (sign_text o t.place ts) s e

pub sign_shorter : (k : ℕ) (ts : List Token) (s : Sign) → sign_at k ts ≡ Some s → 1 + length s.rest ≤ length ts
sign_shorter k [] s e = absurd (none_some s e)
sign_shorter k (t ∷ ts) s e = subst (λ r. 1 + length r ≤ suc (length ts)) (sym (sign_shorter_by k (op_from t.kind) t ts s e)) (taken (length ts))

-- the rest of a chain does not give up
abbrev pub Chains : ℕ → ℕ → (ExprText → List Token → Outcome ExprText) → Type 0
Chains m n go = (e : ExprText) (ts : List Token) → length ts ≤ m → length ts < n → Left 0 (length ts) (go e ts)

chain_left_by : (m n : ℕ) (rd : ExpressionReader) → Enough m rd → (k : ℕ) (go : ExprText → List Token → Outcome ExprText) → Chains m n go
    → (e : ExprText) (ts : List Token) → length ts ≤ m → length ts < suc n → (x : Option Sign) → sign_at k ts ≡ x → Left 0 (length ts) (chain_with rd e ts go x)
chain_left_by m n rd h k go g e ts few more None none = le-refl (length ts)
chain_left_by m n rd h k go g e ts few more (Some s) some =
    let l = sign_shorter k ts s some in
    next_left 1 (length s.rest) _ _ (rd (suc (level s.op)) s.rest) _ (h (suc (level s.op)) s.rest (below (length s.rest) (length ts) m l few)) λ f r l1.
    weaker 0 (length r) (length ts) _ (g (binary s.op s.place e f) r (first (length r) (length s.rest) (length ts) m l l1 few) (second (length r) (length s.rest) (length ts) n l l1 more)) (third (length r) (length s.rest) (length ts) l l1)

pub chain_left : (m : ℕ) (rd : ExpressionReader) → Enough m rd → (k n : ℕ) → Chains m n (λ e ts. chain rd n k e ts)
chain_left m rd h k zero e ts few more = absurd (none_below (length ts) more)
chain_left m rd h k (suc n) e ts few more = chain_left_by m n rd h k (λ f r. chain rd n k f r) (chain_left m rd h k n) e ts few more (sign_at k ts) refl

pub read_left : (d : ℕ) → Enough d (read d)
read_left zero k ts few = absurd (none_below (length ts) few)
read_left (suc d) k ts few =
    next_left 1 (length ts) _ _ (operand (read d) ts) _ (operand_left d (read d) (read_left d) ts (lt-suc (length ts) d few)) λ e r0 l0.
    weaker 1 (length r0) (length ts) _ (chain_left d (read d) (read_left d) k (suc (length r0)) e r0 (le-trans (length r0) (length ts) d (le-pred (length r0) (length ts) l0) (lt-suc (length ts) d few)) (lt-own (length r0))) l0
