-- Kinds, types and expressions are read alike.
use Rattle.std.proofs.Common.{ℕ, zero, suc, Bool, true, false, if◌then◌else◌, List, ◌∷◌, length, Option, Some, None, refl, nat_le}
use Rattle.dh_base.specs.declared.places.Place.{Place}
use Rattle.dh_lexer.specs.declared.tokens.Token.{Token}
use Rattle.dh_lexer.specs.declared.tokens.TokenKind.{TokenKind}
use Rattle.dh_lexer.specs.declared.tokens.TokenKind.TheVariants as kind
use Rattle.dh_value.specs.declared.operators.Op.{Op}
use Rattle.dh_parser.specs.declared.parsing.reading.Mark.TheVariants as mark
use Rattle.dh_parser.specs.Grammar.{NameText, NumberText, KindText, ExprText, bool_kind, bit_kind, ubit_kind, no_ports, some_ports, no_banks, some_banks, no_dims, dim_then, literal, negative, truth, variable, access, bracket, cast, binary, element, physical, index, no_indices, index_then}
use Rattle.dh_parser.specs.Allowed.{level}
use Rattle.dh_parser.specs.Reading.{Outcome, name_text, number_text, is_width, width_from, the_width, width_then, kind_from, the_kind, the_ports, the_banks, the_dims, type_text, the_type, op_from, sign_text, sign_from, sign_at, ExpressionReader, the_index, more_indices, access_from, access_goes_on, named_from, bracket_from, operand_from, operand, chain_with, chain, read, steps, the_expression, expression}
use Rattle.dh_parser.proofs.AlikeBasics.{Where, first, second, Alikes, next_at, least, ends, no_steps, stepped, choose, if_comes, Before, takes, stays, passes, if_before, by_token, mark_alike, number_alike}

width_before : (k : TokenKind) (t : Token) (p q : List Token) (w : Where p) → Before p q w (width_from k t (first p w)) (width_from k t (second p q w))
width_before (kind.Number n) t p q w = if_before (is_width n) (takes (ends (number_text n t.place) w)) (stays t w)
width_before _ t p q w = stays t w

width_alike : Alikes the_width the_width
width_alike p q w = by_token the_width the_width (least (length p)) (λ t v. width_before t.kind t p q v) w

width_then_alike : (make : Place → NumberText → Place → KindText) → Alikes (width_then make) (width_then make)
width_then_alike make p q w =
    next_at _ _ (mark_alike mark.Less p q w) λ less w0.
    next_at _ _ (width_alike p q w0) λ width w1.
    next_at _ _ (mark_alike mark.Greater p q w1) λ greater w2.
    ends (make less width greater) w2

kind_before : (k : TokenKind) (t : Token) (p q : List Token) (w : Where p) → Before p q w (kind_from k t (first p w)) (kind_from k t (second p q w))
kind_before kind.Bool t p q w = takes (ends (bool_kind t.place) w)
kind_before kind.Bit t p q w = takes (width_then_alike (bit_kind t.place) p q w)
kind_before kind.Ubit t p q w = takes (width_then_alike (ubit_kind t.place) p q w)
kind_before _ t p q w = stays t w

pub kind_alike : Alikes the_kind the_kind
kind_alike p q w = by_token the_kind the_kind (least (length p)) (λ t v. kind_before t.kind t p q v) w

ports_alike : Alikes the_ports the_ports
ports_alike p q w =
    if_comes mark.OpenBrace w (
    next_at _ _ (mark_alike mark.OpenBrace p q w) λ opener w0.
    next_at _ _ (number_alike p q w0) λ ports w1.
    next_at _ _ (mark_alike mark.CloseBrace p q w1) λ closer w2.
    ends (some_ports opener ports closer) w2)
    (ends no_ports w)

banks_alike : Alikes the_banks the_banks
banks_alike p q w =
    if_comes mark.Bank w (
    next_at _ _ (mark_alike mark.Bank p q w) λ word w0.
    next_at _ _ (number_alike p q w0) λ banks w1.
    ends (some_banks word banks) w1)
    (ends no_banks w)

dims_alike : (n m : ℕ) → Alikes (the_dims n) (the_dims m)
dims_alike zero m p q w = no_steps
dims_alike (suc n) m p q w =
    stepped (λ m. the_dims m (second p q w)) m refl λ m.
    if_comes mark.OpenBracket w (
    next_at _ _ (mark_alike mark.OpenBracket p q w) λ opener w0.
    next_at _ _ (number_alike p q w0) λ size w1.
    next_at _ _ (banks_alike p q w1) λ banks w2.
    next_at _ _ (mark_alike mark.CloseBracket p q w2) λ closer w3.
    next_at _ _ (dims_alike n m p q w3) λ more w4.
    ends (dim_then opener size banks closer more) w4)
    (ends no_dims w)

pub type_alike : Alikes the_type the_type
type_alike p q w =
    next_at _ _ (kind_alike p q w) λ k w0.
    next_at _ _ (ports_alike p q w0) λ ports w1.
    next_at _ _ (dims_alike (suc (length (first p w1))) (suc (length (second p q w1))) p q w1) λ dims w2.
    ends (type_text k ports dims) w2

-- two readers of expressions that read alike at each level
abbrev pub ReadsAlike : ExpressionReader → ExpressionReader → Type 0
ReadsAlike f g = (k : ℕ) → Alikes (f k) (g k)

index_alike : (f g : ExpressionReader) → ReadsAlike f g → Alikes (the_index f) (the_index g)
index_alike f g h p q w =
    next_at _ _ (mark_alike mark.OpenBracket p q w) λ opener w0.
    next_at _ _ (h 0 p q w0) λ e w1.
    next_at _ _ (mark_alike mark.CloseBracket p q w1) λ closer w2.
    ends (index opener e closer) w2

indices_alike : (f g : ExpressionReader) → ReadsAlike f g → (n m : ℕ) → Alikes (more_indices f n) (more_indices g m)
indices_alike f g h zero m p q w = no_steps
indices_alike f g h (suc n) m p q w =
    stepped (λ m. more_indices g m (second p q w)) m refl λ m.
    if_comes mark.OpenBracket w (
    next_at _ _ (index_alike f g h p q w) λ i w0.
    next_at _ _ (indices_alike f g h n m p q w0) λ more w1.
    ends (index_then i more) w1)
    (ends no_indices w)

pub access_alike : (f g : ExpressionReader) → ReadsAlike f g → (n : NameText) → Alikes (access_from f n) (access_from g n)
access_alike f g h n p q w =
    if_comes mark.OpenBrace w (
    next_at _ _ (mark_alike mark.OpenBrace p q w) λ opener w0.
    next_at _ _ (number_alike p q w0) λ bank w1.
    next_at _ _ (mark_alike mark.CloseBrace p q w1) λ closer w2.
    next_at _ _ (index_alike f g h p q w2) λ i w3.
    ends (physical n opener bank closer i) w3) (
    next_at _ _ (index_alike f g h p q w) λ i w0.
    next_at _ _ (indices_alike f g h (suc (length (first p w0))) (suc (length (second p q w0))) p q w0) λ more w1.
    ends (element n i more) w1)

named_alike : (f g : ExpressionReader) → ReadsAlike f g → (n : NameText) → Alikes (named_from f n) (named_from g n)
named_alike f g h n p q w =
    choose w access_goes_on (λ t r s. refl) (
    next_at _ _ (access_alike f g h n p q w) λ a w0.
    ends (access a) w0)
    (ends (variable n) w)

bracket_alike : (f g : ExpressionReader) → ReadsAlike f g → (opener : Place) → Alikes (bracket_from f opener) (bracket_from g opener)
bracket_alike f g h opener p q w =
    next_at _ _ (h 0 p q w) λ e w0.
    if_comes mark.As w0 (
    next_at _ _ (mark_alike mark.As p q w0) λ word w1.
    next_at _ _ (kind_alike p q w1) λ k w2.
    next_at _ _ (mark_alike mark.CloseParen p q w2) λ closer w3.
    ends (cast opener e word k closer) w3) (
    next_at _ _ (mark_alike mark.CloseParen p q w0) λ closer w1.
    ends (bracket opener e closer) w1)

operand_before : (f g : ExpressionReader) → ReadsAlike f g → (k : TokenKind) (t : Token) (p q : List Token) (w : Where p) → Before p q w (operand_from f k t (first p w)) (operand_from g k t (second p q w))
operand_before f g h (kind.Number n) t p q w = takes (ends (literal (number_text n t.place)) w)
operand_before f g h kind.Minus t p q w =
    takes (
    next_at _ _ (number_alike p q w) λ n w0.
    ends (negative t.place n) w0)
operand_before f g h kind.True t p q w = takes (ends (truth true t.place) w)
operand_before f g h kind.False t p q w = takes (ends (truth false t.place) w)
operand_before f g h (kind.Name n) t p q w = takes (named_alike f g h (name_text n t.place) p q w)
operand_before f g h kind.OpenParen t p q w = takes (bracket_alike f g h t.place p q w)
operand_before f g h _ t p q w = stays t w

pub operand_alike : (f g : ExpressionReader) → ReadsAlike f g → Alikes (operand f) (operand g)
operand_alike f g h p q w = by_token (operand f) (operand g) (least (length p)) (λ t v. operand_before f g h t.kind t p q v) w

-- two ways to go on with what was read
abbrev ChainsAlike : (ExprText → List Token → Outcome ExprText) → (ExprText → List Token → Outcome ExprText) → Type 0
ChainsAlike go to = (e : ExprText) → Alikes (go e) (to e)

tested_before : (f g : ExpressionReader) → ReadsAlike f g → (go to : ExprText → List Token → Outcome ExprText) → ChainsAlike go to → (e : ExprText) (o : Op) (b : Bool) (t : Token) (p q : List Token) (w : Where p)
    → Before p q w (chain_with f e (t ∷ first p w) go (if b then Some (sign_text o t.place (first p w)) else None))
    (chain_with g e (t ∷ second p q w) to (if b then Some (sign_text o t.place (second p q w)) else None))
tested_before f g h go to c e o true t p q w =
    takes (
    next_at _ _ (h (suc (level o)) p q w) λ x w0.
    c (binary o t.place e x) p q w0)
tested_before f g h go to c e o false t p q w = passes e t w

sign_before : (f g : ExpressionReader) → ReadsAlike f g → (go to : ExprText → List Token → Outcome ExprText) → ChainsAlike go to → (k : ℕ) (e : ExprText) (o : Option Op) (t : Token) (p q : List Token) (w : Where p)
    → Before p q w (chain_with f e (t ∷ first p w) go (sign_from k o t (first p w))) (chain_with g e (t ∷ second p q w) to (sign_from k o t (second p q w)))
sign_before f g h go to c k e None t p q w = passes e t w
sign_before f g h go to c k e (Some o) t p q w = tested_before f g h go to c e o (nat_le k (level o)) t p q w

chain_with_alike : (f g : ExpressionReader) → ReadsAlike f g → (go to : ExprText → List Token → Outcome ExprText) → ChainsAlike go to → (k : ℕ) (e : ExprText)
    → Alikes (λ ts. chain_with f e ts go (sign_at k ts)) (λ ts. chain_with g e ts to (sign_at k ts))
chain_with_alike f g h go to c k e p q w =
    by_token (λ ts. chain_with f e ts go (sign_at k ts)) (λ ts. chain_with g e ts to (sign_at k ts)) (least (length p)) (λ t v. sign_before f g h go to c k e (op_from t.kind) t p q v) w

chain_alike : (f g : ExpressionReader) → ReadsAlike f g → (n m k : ℕ) (e : ExprText) → Alikes (chain f n k e) (chain g m k e)
chain_alike f g h zero m k e p q w = no_steps
chain_alike f g h (suc n) m k e p q w =
    stepped (λ m. chain g m k e (second p q w)) m refl λ m.
    chain_with_alike f g h (λ x r. chain f n k x r) (λ x r. chain g m k x r) (λ x. chain_alike f g h n m k x) k e p q w

pub read_alike : (d c : ℕ) → ReadsAlike (read d) (read c)
read_alike zero c k p q w = no_steps
read_alike (suc d) c k p q w =
    stepped (λ c. read c k (second p q w)) c refl λ c.
    next_at _ _ (operand_alike (read d) (read c) (read_alike d c) p q w) λ e w0.
    chain_alike (read d) (read c) (read_alike d c) (suc (length (first p w0))) (suc (length (second p q w0))) k e p q w0

pub expression_alike : Alikes the_expression the_expression
unfolding expression
expression_alike p q w = read_alike (steps (first p w)) (steps (second p q w)) 0 p q w
