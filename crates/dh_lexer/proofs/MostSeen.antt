-- A turn of the loop over tokens: the greatest numbers so far are raised to the next ones, which the
-- greatest of the rest hold already; an `else if` goes from the rest to those so far.
use Rattle.std.proofs.Common.{◌≡◌, ℕ, Bool, ◌&&◌, if◌then◌else◌, ◌+◌, ◌<◌, ◌≤◌, List, [], ◌∷◌, length, get_or, drop, max, ap, ◌∙◌, subst, arith}
use Rattle.std.proofs.lemmas.Bool.{cond_both}
use Rattle.dh_lexer.specs.Counted.{open_brackets_after, most_open, operators_after, most_operators, is_separator, is_operator_sign, is_else, is_if, else_ifs_after}
use Rattle.dh_lexer.specs.declared.tokens.Token.{Token}
use Rattle.dh_lexer.specs.declared.tokens.TokenKind.{TokenKind}
use Rattle.dh_lexer.specs.declared.tokens.TokenKind.TheVariants as kind
use Rattle.dh_base.proofs.ListItems.{at_item}

open_least : (n : ℕ) (ts : List Token) → n ≤ most_open n ts
open_least n [] = omega arith
open_least n (t ∷ ts) = omega arith

operators_least : (n : ℕ) (ts : List Token) → n ≤ most_operators n ts
operators_least n [] = omega arith
operators_least n (t ∷ ts) = omega arith

max_turn : (most now next rest total raised : ℕ) → max most (max now rest) ≡ total → now ≤ most → next ≤ rest → raised ≡ max next most → max raised rest ≡ total
max_turn most now next rest total raised e reached least is = omega (arith, e, is)

pub open_one : (n : ℕ) (k : TokenKind) → open_brackets_after n k ≤ n + 1
open_one n kind.OpenParen = omega arith
open_one n kind.OpenBracket = omega arith
open_one n kind.OpenBrace = omega arith
open_one n kind.CloseParen = omega arith
open_one n kind.CloseBracket = omega arith
open_one n kind.CloseBrace = omega arith
open_one n _ = omega arith

pub operators_one : (n : ℕ) (k : TokenKind) → operators_after n k ≤ n + 1
operators_one n k =
    cond_both (is_separator k) _ _ (λ m. m ≤ n + 1) (λ _. omega arith)
    (λ _. cond_both (is_operator_sign k) _ _ (λ m. m ≤ n + 1) (λ _. omega arith) (λ _. omega arith))

-- how a turn begins, and how it ends
pub record Seen (most now after total index : ℕ) : Type 0 where
  pub is : max most after ≡ total
  pub few : now ≤ index
  pub reached : now ≤ most

seen_turn : (most now after rest total index next raised : ℕ) → Seen most now after total index → after ≡ max now rest → next ≤ now + 1 → next ≤ rest
    → raised ≡ max next most → Seen raised next rest total (index + 1)
seen_turn most now after rest total index next raised seen e one least is = record {
  is = max_turn most now next rest total raised (subst (λ (x : ℕ). max most x ≡ total) e seen.is) seen.reached least is;
  few = omega (arith, one, seen.few);
  reached = omega (arith, is);
}

pub open_turn : (tokens : List Token) (i most now total next raised : ℕ) (t : Token) → i < length tokens → t ≡ get_or tokens i t
    → Seen most now (most_open now (drop i tokens)) total i → next ≡ open_brackets_after now t.kind → raised ≡ max next most
    → Seen raised next (most_open next (drop (i + 1) tokens)) total (i + 1)
open_turn tokens i most now total next raised t early at seen e is =
    let rest = at_item tokens i t early at in
    rw e (seen_turn most now _ (most_open (open_brackets_after now t.kind) (drop (i + 1) tokens)) total i (open_brackets_after now t.kind) raised seen (ap (most_open now) rest) (open_one now t.kind)
    (open_least (open_brackets_after now t.kind) (drop (i + 1) tokens)) (is ∙ ap (λ x. max x most) e))

pub operators_turn : (tokens : List Token) (i most now total next raised : ℕ) (t : Token) → i < length tokens → t ≡ get_or tokens i t
    → Seen most now (most_operators now (drop i tokens)) total i → next ≡ operators_after now t.kind → raised ≡ max next most
    → Seen raised next (most_operators next (drop (i + 1) tokens)) total (i + 1)
operators_turn tokens i most now total next raised t early at seen e is =
    let rest = at_item tokens i t early at in
    rw e (seen_turn most now _ (most_operators (operators_after now t.kind) (drop (i + 1) tokens)) total i (operators_after now t.kind) raised seen (ap (most_operators now) rest) (operators_one now t.kind)
    (operators_least (operators_after now t.kind) (drop (i + 1) tokens)) (is ∙ ap (λ x. max x most) e))

else_sum : (count one first before after next total : ℕ) → count + before ≡ total → before ≡ first + after → one ≡ first → next ≡ after → (count + one) + next ≡ total
else_sum count one first before after next total so at is same = omega (arith, so, at, is, same)

pub else_turn : (tokens : List Token) (i count total one : ℕ) (otherwise next : Bool) (t : Token) → i < length tokens → t ≡ get_or tokens i t
    → count + else_ifs_after otherwise (drop i tokens) ≡ total → one ≡ (if otherwise && is_if t.kind then 1 else 0) → next ≡ is_else t.kind
    → (count + one) + else_ifs_after next (drop (i + 1) tokens) ≡ total
else_turn tokens i count total one otherwise next t early at so is same =
    else_sum count one (if otherwise && is_if t.kind then 1 else 0) (else_ifs_after otherwise (drop i tokens)) (else_ifs_after (is_else t.kind) (drop (i + 1) tokens)) (else_ifs_after next (drop (i + 1) tokens)) total
    so (ap (else_ifs_after otherwise) (at_item tokens i t early at)) is (ap (λ b. else_ifs_after b (drop (i + 1) tokens)) same)

pub few_more : (count one index : ℕ) → count ≤ index → one ≤ 1 → count + one ≤ index + 1
few_more count one index few most = omega (arith, few, most)
