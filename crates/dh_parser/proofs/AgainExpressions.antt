-- What an expression spells is read as that expression, and what follows is left, where it does not go
-- on with it. An expression of operators is first read up to its last operator's right operand: its left
-- operand is followed by an operator that binds no more tightly than those in it.
use Rattle.std.proofs.Common.{◌≡◌, ℕ, zero, suc, ◌≤◌, Bool, true, false, if◌then◌else◌, List, [], ◌∷◌, length, Option, Some, None, refl, ap, ◌∙◌, nat_le, ◌<◌, ◌+◌, arith}
use Rattle.std.proofs.lemmas.Bool.{le-leb}
use Rattle.dh_base.specs.declared.places.Place.{Place}
use Rattle.dh_lexer.specs.declared.tokens.Token.{Token}
use Rattle.dh_lexer.specs.declared.tokens.TokenKind.TheVariants as kind
use Rattle.dh_lexer.specs.LexedText.{token_placed}
use Rattle.dh_value.specs.declared.operators.Op.{Op}
use Rattle.dh_value.specs.declared.operators.Op.TheVariants as op
use Rattle.dh_parser.specs.declared.parsing.reading.Mark.TheVariants as mark
use Rattle.dh_parser.specs.Marks.{comes}
use Rattle.dh_parser.specs.Grammar.{NameText, NumberText, KindText, bool_kind, bit_kind, ubit_kind, ExprText, literal, negative, truth, variable, access, bracket, cast, binary, AccessText, element, physical, IndexText, index, MoreIndicesText, no_indices, index_then}
use Rattle.dh_parser.specs.Spelling.{put, put_name, put_number, sign_of, spell_kind, spell, spell_access, spell_index, spell_indices}
use Rattle.dh_parser.specs.Allowed.{level, WidthFits, KindFits, ExpressionFits, AccessFits, IndexFits, IndicesFit}
use Rattle.dh_parser.specs.Reading.{Outcome, good, bad, outcome_bind, is_width, the_width, the_kind, Sign, op_from, sign_text, sign_from, sign_at, ExpressionReader, the_index, more_indices, access_from, access_goes_on, operand, chain_with, chain, read, steps, the_expression, expression}
use Rattle.std.proofs.lemmas.Bool.Decides.{nat_tests}
use Rattle.dh_parser.proofs.SoundOperators.{looser}

pub next_is : {A B : Type 0} (o : Outcome A) (go : A → List Token → Outcome B) (a : A) (r : List Token) (z : Outcome B) → o ≡ good a r → go a r ≡ z → outcome_bind o go ≡ z
next_is o go a r z h k = ap (λ p. outcome_bind p go) h ∙ k

pub when : {A : Type 0} (b : Bool) (x y z : A) → b ≡ true → x ≡ z → (if b then x else y) ≡ z
when true x y z e h = h
when false x y z e h = cc

pub unless : {A : Type 0} (b : Bool) (x y z : A) → b ≡ false → y ≡ z → (if b then x else y) ≡ z
unless true x y z e h = cc
unless false x y z e h = h

is_width_true : (n : ℕ) → 1 ≤ n → n ≤ 64 → is_width n ≡ true
is_width_true n h k = when (nat_le 1 n) (nat_le n 64) false true (le-leb 1 n h) (le-leb n 64 k)

width_again : (w : NumberText) (x : List Token) → WidthFits w → the_width (put_number w x) ≡ good w x
width_again w x f = when (is_width w.value) (good w x) (bad (put_number w x)) (good w x) (is_width_true w.value f.0 f.1) refl

pub kind_again : (k : KindText) (x : List Token) → KindFits k → the_kind (spell_kind k x) ≡ good k x
kind_again (bool_kind word) x f = refl
kind_again (bit_kind word less width greater) x f =
    next_is (the_width (put_number width (put kind.Greater greater x))) _ width (put kind.Greater greater x) _ (width_again width (put kind.Greater greater x) f) refl
kind_again (ubit_kind word less width greater) x f =
    next_is (the_width (put_number width (put kind.Greater greater x))) _ width (put kind.Greater greater x) _ (width_again width (put kind.Greater greater x) f) refl

-- numbers of tokens
one : (a : ℕ) → 1 + a ≤ suc a
one a = omega arith

two : (a : ℕ) → 1 + a ≤ suc (suc a)
two a = omega arith

round : (a b : ℕ) → 1 + suc a ≤ b → 1 + a ≤ suc b
round a b h = omega arith

through : (a b c : ℕ) → 1 + a ≤ b → 1 + suc b ≤ c → 1 + a ≤ c
through a b c h k = omega arith

around : (a b c : ℕ) → 1 + suc a ≤ b → 1 + suc b ≤ c → 1 + a ≤ suc c
around a b c h k = omega arith

pair : (a b c : ℕ) → 0 + a ≤ b → 1 + b ≤ c → 1 + a ≤ suc c
pair a b c h k = omega arith

far : (a b : ℕ) → 1 + a ≤ b → 1 + a ≤ suc (suc (suc (suc b)))
far a b h = omega arith

none_longer : (a : ℕ) → 0 + a ≤ a
none_longer a = omega arith

both_longer : (a b c : ℕ) → 0 + a ≤ b → 1 + b ≤ c → 0 + a ≤ c
both_longer a b c h k = omega arith

within : (a d : ℕ) → suc a < suc d → a < d
within a d h = omega arith

inner : (a b d : ℕ) → 1 + a ≤ b → b < suc d → a < suc d
inner a b d h k = omega arith

pub inside_of : (a b n : ℕ) → 1 + a ≤ b → b < suc n → a < n
inside_of a b n h k = omega arith

skip_one : (a d : ℕ) → suc a < suc d → a < suc d
skip_one a d h = omega arith

skip_four : (a d : ℕ) → suc (suc (suc (suc a))) < suc d → a < suc d
skip_four a d h = omega arith

pub nothing_below : (n : ℕ) → n < 0 → ⊥
nothing_below n h = omega arith

pub own : (n : ℕ) → n < suc n
own n = omega arith

right_few : (a b d : ℕ) → 1 + suc a ≤ b → b < suc d → a < d
right_few a b d h k = omega arith

right_steps : (a b n : ℕ) → 1 + a ≤ b → suc b < suc n → a < n
right_steps a b n h k = omega arith

kind_longer : (k : KindText) (x : List Token) → 1 + length x ≤ length (spell_kind k x)
kind_longer (bool_kind word) x = one (length x)
kind_longer (bit_kind word less width greater) x = omega arith
kind_longer (ubit_kind word less width greater) x = omega arith

mutual
  pub longer : (e : ExprText) (x : List Token) → 1 + length x ≤ length (spell e x)
  longer (literal n) x = one (length x)
  longer (negative minus n) x = two (length x)
  longer (truth holds word) x = one (length x)
  longer (variable n) x = one (length x)
  longer (access a) x = longer_access a x
  longer (bracket opener e closer) x = round (length x) _ (longer e (put kind.CloseParen closer x))
  longer (cast opener e word k closer) x =
      around (length x) (length (spell_kind k (put kind.CloseParen closer x))) _ (kind_longer k (put kind.CloseParen closer x)) (longer e (put kind.As word (spell_kind k (put kind.CloseParen closer x))))
  longer (binary o sign l r) x = through (length x) (length (spell r x)) _ (longer r x) (longer l (put (sign_of o) sign (spell r x)))

  pub longer_access : (a : AccessText) (x : List Token) → 1 + length x ≤ length (spell_access a x)
  longer_access (element n i more) x = pair (length x) (length (spell_indices more x)) _ (longer_indices more x) (longer_index i (spell_indices more x))
  longer_access (physical n opener bank closer i) x = far (length x) _ (longer_index i x)

  pub longer_index : (i : IndexText) (x : List Token) → 1 + length x ≤ length (spell_index i x)
  longer_index (index opener e closer) x = round (length x) _ (longer e (put kind.CloseBracket closer x))

  pub longer_indices : (more : MoreIndicesText) (x : List Token) → 0 + length x ≤ length (spell_indices more x)
  longer_indices no_indices x = none_longer (length x)
  longer_indices (index_then i more) x = both_longer (length x) (length (spell_indices more x)) _ (longer_indices more x) (longer_index i (spell_indices more x))

op_again : (o : Op) → op_from (sign_of o) ≡ Some o
op_again op.Either = refl
op_again op.Both = refl
op_again op.Eq = refl
op_again op.Ne = refl
op_again op.Lt = refl
op_again op.Gt = refl
op_again op.Le = refl
op_again op.Ge = refl
op_again op.Or = refl
op_again op.Xor = refl
op_again op.And = refl
op_again op.Shl = refl
op_again op.Shr = refl
op_again op.Add = refl
op_again op.Sub = refl
op_again op.Mul = refl

sign_ends_access : (o : Op) (place : Place) (x : List Token) → access_goes_on (put (sign_of o) place x) ≡ false
sign_ends_access op.Either place x = refl
sign_ends_access op.Both place x = refl
sign_ends_access op.Eq place x = refl
sign_ends_access op.Ne place x = refl
sign_ends_access op.Lt place x = refl
sign_ends_access op.Gt place x = refl
sign_ends_access op.Le place x = refl
sign_ends_access op.Ge place x = refl
sign_ends_access op.Or place x = refl
sign_ends_access op.Xor place x = refl
sign_ends_access op.And place x = refl
sign_ends_access op.Shl place x = refl
sign_ends_access op.Shr place x = refl
sign_ends_access op.Add place x = refl
sign_ends_access op.Sub place x = refl
sign_ends_access op.Mul place x = refl

sign_found : (k : ℕ) (o : Op) (place : Place) (x : List Token) → k ≤ level o → sign_at k (put (sign_of o) place x) ≡ Some (sign_text o place x)
sign_found k o place x h =
    ap (λ p. sign_from k p (token_placed (sign_of o) place) x) (op_again o)
    ∙ when (nat_le k (level o)) (Some (sign_text o place x)) None (Some (sign_text o place x)) (le-leb k (level o) h) refl

above : (a b : ℕ) → a ≤ b → nat_le (suc b) a ≡ false
above a b h = grind (arith, nat_tests)

sign_loose : (j : ℕ) (o : Op) (place : Place) (x : List Token) → level o ≤ j → sign_at (suc j) (put (sign_of o) place x) ≡ None
sign_loose j o place x h =
    ap (λ p. sign_from (suc j) p (token_placed (sign_of o) place) x) (op_again o)
    ∙ unless (nat_le (suc j) (level o)) (Some (sign_text o place x)) None None (above (level o) j h) refl

-- what follows does not go on with the last right operand
abbrev pub TopLoose : ExprText → List Token → Type 0
TopLoose (binary o sign l r) rest = sign_at (suc (level o)) rest ≡ None
TopLoose _ rest = Unit {0}

top_loose : (l : ExprText) (o : Op) (place : Place) (x : List Token) → ExpressionFits (level o) l → TopLoose l (put (sign_of o) place x)
top_loose (literal n) o place x f = tt
top_loose (negative minus n) o place x f = tt
top_loose (truth holds word) o place x f = tt
top_loose (variable n) o place x f = tt
top_loose (access a) o place x f = tt
top_loose (bracket opener e closer) o place x f = tt
top_loose (cast opener e word k closer) o place x f = tt
top_loose (binary p sign l r) o place x f = sign_loose (level p) o place x f.0

no_test : (i j l : ℕ) → i ≤ j → nat_le i l ≡ false → nat_le j l ≡ true → ⊥
no_test i j l h e g = grind (arith, nat_tests)

tested_tighter : (i j l : ℕ) (s : Sign) (b c : Bool) → nat_le i l ≡ b → nat_le j l ≡ c → i ≤ j → (if b then Some s else None) ≡ None → (if c then Some s else None) ≡ None
tested_tighter i j l s b false eb ec h e = refl
tested_tighter i j l s true true eb ec h e = e
tested_tighter i j l s false true eb ec h e = absurd (no_test i j l h eb ec)

tighter_by : (i j : ℕ) (x : Option Op) (t : Token) (ts : List Token) → i ≤ j → sign_from i x t ts ≡ None → sign_from j x t ts ≡ None
tighter_by i j None t ts h e = refl
tighter_by i j (Some o) t ts h e = tested_tighter i j (level o) (sign_text o t.place ts) (nat_le i (level o)) (nat_le j (level o)) refl refl h e

tighter : (i j : ℕ) (ts : List Token) → i ≤ j → sign_at i ts ≡ None → sign_at j ts ≡ None
tighter i j [] h e = refl
tighter i j (t ∷ ts) h e = tighter_by i j (op_from t.kind) t ts h e

suc_le : (a b : ℕ) → a ≤ b → a ≤ suc b
suc_le a b h = omega arith

top_of : (k : ℕ) (e : ExprText) (rest : List Token) → ExpressionFits k e → sign_at k rest ≡ None → TopLoose e rest
top_of k (literal n) rest f s = tt
top_of k (negative minus n) rest f s = tt
top_of k (truth holds word) rest f s = tt
top_of k (variable n) rest f s = tt
top_of k (access a) rest f s = tt
top_of k (bracket opener e closer) rest f s = tt
top_of k (cast opener e word kd closer) rest f s = tt
top_of k (binary o sign l r) rest f s = tighter k (suc (level o)) rest (suc_le k (level o) f.0) s

-- an expression that ends here is read again
abbrev pub Again : ExprText → Type 0
Again e = (d k : ℕ) (rest : List Token) → ExpressionFits k e → length (spell e rest) < d → access_goes_on rest ≡ false → sign_at k rest ≡ None → read d k (spell e rest) ≡ good e rest

-- an expression that may be a left operand is read again, up to the chain that it begins
abbrev LeftAgain : ExprText → Type 0
LeftAgain e = (d k : ℕ) (rest : List Token) → ExpressionFits k e → length (spell e rest) < suc d → access_goes_on rest ≡ false → TopLoose e rest
    → (n : ℕ) × ((length rest < n) × (read (suc d) k (spell e rest) ≡ chain (read d) n k e rest))

chain_ends : (rd : ExpressionReader) (n k : ℕ) (e : ExprText) (rest : List Token) → length rest < n → sign_at k rest ≡ None → chain rd n k e rest ≡ good e rest
chain_ends rd zero k e rest h s = absurd (nothing_below (length rest) h)
chain_ends rd (suc n) k e rest h s = ap (λ x. chain_with rd e rest (λ f r. chain rd n k f r) x) s

again_from : (e : ExprText) → LeftAgain e → Again e
again_from e h zero k rest f few g s = absurd (nothing_below (length (spell e rest)) few)
again_from e h (suc d) k rest f few g s =
    let found = h d k rest f few g (top_of k e rest f s) in
    found.1.1 ∙ chain_ends (read d) found.0 k e rest found.1.0 s

left_of : (d k : ℕ) (e : ExprText) (ts rest : List Token) → operand (read d) ts ≡ good e rest
    → (n : ℕ) × ((length rest < n) × (read (suc d) k ts ≡ chain (read d) n k e rest))
left_of d k e ts rest h = (suc (length rest), (own (length rest), ap (λ p. outcome_bind p (λ x r. chain (read d) (suc (length r)) k x r)) h))

binary_step : (o : Op) (sign : Place) (l r : ExprText) (d k n : ℕ) (rest ts : List Token) → k ≤ level o → read d (suc (level o)) (spell r rest) ≡ good r rest
    → length (put (sign_of o) sign (spell r rest)) < n → read (suc d) k ts ≡ chain (read d) n k l (put (sign_of o) sign (spell r rest))
    → (n : ℕ) × ((length rest < n) × (read (suc d) k ts ≡ chain (read d) n k (binary o sign l r) rest))
binary_step o sign l r d k zero rest ts h hr more e = absurd (nothing_below (length (put (sign_of o) sign (spell r rest))) more)
binary_step o sign l r d k (suc n) rest ts h hr more e = (
  n,
  (
    right_steps (length rest) (length (spell r rest)) n (longer r rest) more,
    e ∙ (ap (λ x. chain_with (read d) l (put (sign_of o) sign (spell r rest)) (λ f q. chain (read d) n k f q) x) (sign_found k o sign (spell r rest) h)
        ∙ ap (λ p. outcome_bind p (λ f q. chain (read d) n k (binary o sign l f) q)) hr),
  ),
)

left_binary : (o : Op) (sign : Place) (l r : ExprText) → LeftAgain l → Again r → LeftAgain (binary o sign l r)
left_binary o sign l r hl hr d k rest f few g t =
    let found = hl d k (put (sign_of o) sign (spell r rest)) (looser k (level o) l f.0 f.1.0) few (sign_ends_access o sign (spell r rest)) (top_loose l o sign (spell r rest) f.1.0) in
    binary_step o sign l r d k found.0 rest (spell l (put (sign_of o) sign (spell r rest))) f.0
    (hr d (suc (level o)) rest f.1.1 (right_few (length (spell r rest)) (length (spell l (put (sign_of o) sign (spell r rest)))) d (longer l (put (sign_of o) sign (spell r rest))) few) g t)
    found.1.0 found.1.1

pub comes_index : (i : IndexText) (x : List Token) → comes mark.OpenBracket (spell_index i x) ≡ true
comes_index (index opener e closer) x = refl

index_no_brace : (i : IndexText) (x : List Token) → comes mark.OpenBrace (spell_index i x) ≡ false
index_no_brace (index opener e closer) x = refl

index_goes_on : (i : IndexText) (x : List Token) → access_goes_on (spell_index i x) ≡ true
index_goes_on (index opener e closer) x = refl

no_bracket : (b c : Bool) → (if b then true else c) ≡ false → b ≡ false
no_bracket true c e = cc
no_bracket false c e = refl

pub name_of : AccessText → NameText
name_of (element n i more) = n
name_of (physical n opener bank closer i) = n

mutual
  left_again : (e : ExprText) → LeftAgain e
  left_again (literal n) d k rest f few g t = left_of d k (literal n) (put_number n rest) rest refl
  left_again (negative minus n) d k rest f few g t = left_of d k (negative minus n) (put kind.Minus minus (put_number n rest)) rest refl
  left_again (truth true word) d k rest f few g t = left_of d k (truth true word) (put kind.True word rest) rest refl
  left_again (truth false word) d k rest f few g t = left_of d k (truth false word) (put kind.False word rest) rest refl
  left_again (variable n) d k rest f few g t =
      left_of d k (variable n) (put_name n rest) rest (unless (access_goes_on rest) _ (good (variable n) rest) (good (variable n) rest) g refl)
  left_again (access a) d k rest f few g t =
      left_of d k (access a) (spell_access a rest) rest (access_again a d rest f few (no_bracket (comes mark.OpenBracket rest) (comes mark.OpenBrace rest) g))
  left_again (bracket opener e closer) d k rest f few g t =
      left_of d k (bracket opener e closer) (put kind.OpenParen opener (spell e (put kind.CloseParen closer rest))) rest
      (next_is (read d 0 (spell e (put kind.CloseParen closer rest))) _ e (put kind.CloseParen closer rest) _
      (again_from e (left_again e) d 0 (put kind.CloseParen closer rest) f (within (length (spell e (put kind.CloseParen closer rest))) d few) refl refl) refl)
  left_again (cast opener e word kd closer) d k rest f few g t =
      left_of d k (cast opener e word kd closer) (put kind.OpenParen opener (spell e (put kind.As word (spell_kind kd (put kind.CloseParen closer rest))))) rest
      (next_is (read d 0 (spell e (put kind.As word (spell_kind kd (put kind.CloseParen closer rest))))) _ e (put kind.As word (spell_kind kd (put kind.CloseParen closer rest))) _
      (again_from e (left_again e) d 0 (put kind.As word (spell_kind kd (put kind.CloseParen closer rest))) f.0 (within (length (spell e (put kind.As word (spell_kind kd (put kind.CloseParen closer rest))))) d few) refl refl)
      (next_is (the_kind (spell_kind kd (put kind.CloseParen closer rest))) _ kd (put kind.CloseParen closer rest) _ (kind_again kd (put kind.CloseParen closer rest) f.1) refl))
  left_again (binary o sign l r) d k rest f few g t = left_binary o sign l r (left_again l) (again_from r (left_again r)) d k rest f few g t

  access_again : (a : AccessText) (d : ℕ) (rest : List Token) → AccessFits a → length (spell_access a rest) < suc d → comes mark.OpenBracket rest ≡ false → operand (read d) (spell_access a rest) ≡ good (access a) rest
  access_again (element n i more) d rest f few g =
      when (access_goes_on (spell_index i (spell_indices more rest))) _ _ _ (index_goes_on i (spell_indices more rest))
      (next_is (access_from (read d) n (spell_index i (spell_indices more rest))) _ (element n i more) rest _
      (unless (comes mark.OpenBrace (spell_index i (spell_indices more rest))) _ _ _ (index_no_brace i (spell_indices more rest))
      (next_is (the_index (read d) (spell_index i (spell_indices more rest))) _ i (spell_indices more rest) _ (index_again i d (spell_indices more rest) f.0 (skip_one (length (spell_index i (spell_indices more rest))) d few))
      (next_is (more_indices (read d) (suc (length (spell_indices more rest))) (spell_indices more rest)) _ more rest _
      (indices_again more d (suc (length (spell_indices more rest))) rest f.1 (inner (length (spell_indices more rest)) (length (spell_index i (spell_indices more rest))) d (longer_index i (spell_indices more rest)) (skip_one (length (spell_index i (spell_indices more rest))) d few)) (own (length (spell_indices more rest))) g)
      refl))) refl)
  access_again (physical n opener bank closer i) d rest f few g =
      next_is (access_from (read d) n (put kind.OpenBrace opener (put_number bank (put kind.CloseBrace closer (spell_index i rest))))) _ (physical n opener bank closer i) rest _
      (next_is (the_index (read d) (spell_index i rest)) _ i rest _ (index_again i d rest f (skip_four (length (spell_index i rest)) d few)) refl) refl

  index_again : (i : IndexText) (d : ℕ) (x : List Token) → IndexFits i → length (spell_index i x) < suc d → the_index (read d) (spell_index i x) ≡ good i x
  index_again (index opener e closer) d x f few =
      next_is (read d 0 (spell e (put kind.CloseBracket closer x))) _ e (put kind.CloseBracket closer x) _
      (again_from e (left_again e) d 0 (put kind.CloseBracket closer x) f (within (length (spell e (put kind.CloseBracket closer x))) d few) refl refl) refl

  indices_again : (more : MoreIndicesText) (d n : ℕ) (x : List Token) → IndicesFit more → length (spell_indices more x) < suc d → length (spell_indices more x) < n → comes mark.OpenBracket x ≡ false
      → more_indices (read d) n (spell_indices more x) ≡ good more x
  indices_again more d zero x f few steps_left g = absurd (nothing_below (length (spell_indices more x)) steps_left)
  indices_again no_indices d (suc n) x f few steps_left g = unless (comes mark.OpenBracket x) _ _ _ g refl
  indices_again (index_then i more) d (suc n) x f few steps_left g =
      when (comes mark.OpenBracket (spell_index i (spell_indices more x))) _ _ _ (comes_index i (spell_indices more x))
      (next_is (the_index (read d) (spell_index i (spell_indices more x))) _ i (spell_indices more x) _ (index_again i d (spell_indices more x) f.0 few)
      (next_is (more_indices (read d) n (spell_indices more x)) _ more x _
      (indices_again more d n x f.1 (inner (length (spell_indices more x)) (length (spell_index i (spell_indices more x))) d (longer_index i (spell_indices more x)) few) (inside_of (length (spell_indices more x)) (length (spell_index i (spell_indices more x))) n (longer_index i (spell_indices more x)) steps_left) g)
      refl))

pub again : (e : ExprText) → Again e
again e = again_from e (left_again e)

level_below : (o : Op) → 10 ≤ level o → ⊥
level_below op.Either h = omega arith
level_below op.Both h = omega arith
level_below op.Eq h = omega arith
level_below op.Ne h = omega arith
level_below op.Lt h = omega arith
level_below op.Gt h = omega arith
level_below op.Le h = omega arith
level_below op.Ge h = omega arith
level_below op.Or h = omega arith
level_below op.Xor h = omega arith
level_below op.And h = omega arith
level_below op.Shl h = omega arith
level_below op.Shr h = omega arith
level_below op.Add h = omega arith
level_below op.Sub h = omega arith
level_below op.Mul h = omega arith

-- after its name an access is read again
pub access_parts : (n : NameText) (i : IndexText) (more : MoreIndicesText) (d : ℕ) (rest : List Token) → IndexFits i → IndicesFit more → length (spell_index i (spell_indices more rest)) < suc d → comes mark.OpenBracket rest ≡ false
    → access_from (read d) n (spell_index i (spell_indices more rest)) ≡ good (element n i more) rest
access_parts n i more d rest f fm few g =
    unless (comes mark.OpenBrace (spell_index i (spell_indices more rest))) _ _ _ (index_no_brace i (spell_indices more rest))
    (next_is (the_index (read d) (spell_index i (spell_indices more rest))) _ i (spell_indices more rest) _ (index_again i d (spell_indices more rest) f few)
    (next_is (more_indices (read d) (suc (length (spell_indices more rest))) (spell_indices more rest)) _ more rest _
    (indices_again more d (suc (length (spell_indices more rest))) rest fm (inner (length (spell_indices more rest)) (length (spell_index i (spell_indices more rest))) d (longer_index i (spell_indices more rest)) few) (own (length (spell_indices more rest))) g)
    refl))

three : (a d : ℕ) → suc (suc (suc a)) < suc d → a < suc d
three a d h = omega arith

pub bank_parts : (n : NameText) (opener : Place) (bank : NumberText) (closer : Place) (i : IndexText) (d : ℕ) (rest : List Token) → IndexFits i
    → length (put kind.OpenBrace opener (put_number bank (put kind.CloseBrace closer (spell_index i rest)))) < suc d
    → access_from (read d) n (put kind.OpenBrace opener (put_number bank (put kind.CloseBrace closer (spell_index i rest)))) ≡ good (physical n opener bank closer i) rest
bank_parts n opener bank closer i d rest f few =
    next_is (the_index (read d) (spell_index i rest)) _ i rest _ (index_again i d rest f (three (length (spell_index i rest)) d few)) refl

pub operand_again : (e : ExprText) (d : ℕ) (rest : List Token) → ExpressionFits 10 e → length (spell e rest) < suc d → access_goes_on rest ≡ false → operand (read d) (spell e rest) ≡ good e rest
operand_again (literal n) d rest f few g = refl
operand_again (negative minus n) d rest f few g = refl
operand_again (truth true word) d rest f few g = refl
operand_again (truth false word) d rest f few g = refl
operand_again (variable n) d rest f few g = unless (access_goes_on rest) _ (good (variable n) rest) (good (variable n) rest) g refl
operand_again (access a) d rest f few g = access_again a d rest f few (no_bracket (comes mark.OpenBracket rest) (comes mark.OpenBrace rest) g)
operand_again (bracket opener e closer) d rest f few g =
    next_is (read d 0 (spell e (put kind.CloseParen closer rest))) _ e (put kind.CloseParen closer rest) _
    (again e d 0 (put kind.CloseParen closer rest) f (within (length (spell e (put kind.CloseParen closer rest))) d few) refl refl) refl
operand_again (cast opener e word kd closer) d rest f few g =
    next_is (read d 0 (spell e (put kind.As word (spell_kind kd (put kind.CloseParen closer rest))))) _ e (put kind.As word (spell_kind kd (put kind.CloseParen closer rest))) _
    (again e d 0 (put kind.As word (spell_kind kd (put kind.CloseParen closer rest))) f.0 (within (length (spell e (put kind.As word (spell_kind kd (put kind.CloseParen closer rest))))) d few) refl refl)
    (next_is (the_kind (spell_kind kd (put kind.CloseParen closer rest))) _ kd (put kind.CloseParen closer rest) _ (kind_again kd (put kind.CloseParen closer rest) f.1) refl)
operand_again (binary o sign l r) d rest f few g = absurd (level_below o f.0)

pub expression_again : (e : ExprText) (x : List Token) → ExpressionFits 0 e → access_goes_on x ≡ false → sign_at 0 x ≡ None → the_expression (spell e x) ≡ good e x
unfolding expression
expression_again e x f g s = again e (steps (spell e x)) 0 x f (own (length (spell e x))) g s
