-- What a text begins with whose first byte is `/`: by its second byte a comment, `/=` or `/`.
use Rattle.std.proofs.Common.{◌≡◌, ℕ, ◌+◌, ◌-◌, ◌==◌, false, List, get_or, drop, drop-drop, refl, ap, sym, ◌∙◌, arith, eqb-true, Some}
use Rattle.std.proofs.lemmas.Bool.{false_from_ne_true}
use Rattle.dh_lexer.specs.FrontPiece.{line_len, comment_of, gap_of, token_of, sign, long_sign, short_sign, front_of}
use Rattle.dh_lexer.specs.declared.fronts.Front.TheVariants as front
use Rattle.dh_lexer.specs.declared.tokens.TokenKind.TheVariants as kind

slash_line : (l : List ℕ) → get_or l 0 0 ≡ 47 → get_or l 1 0 ≡ 47 → Some (gap_of (2 + line_len (drop 2 l))) ≡ front_of l
unfolding front_of
slash_line l first next = rw (first, next) refl

pub line_from : (at end : ℕ) (text : List ℕ) → get_or (drop at text) 0 0 ≡ 47 → get_or (drop at text) 1 0 ≡ 47 → end ≡ (at + 2) + line_len (drop (at + 2) text)
    → Some (gap_of (end - at)) ≡ front_of (drop at text)
line_from at end text first next e =
    let same : drop 2 (drop at text) ≡ drop (at + 2) text = drop-drop 2 at text in
    let long : end - at ≡ 2 + line_len (drop (at + 2) text) = omega (arith, e) in
    ap (λ n. Some (gap_of n)) (long ∙ ap (λ l. 2 + line_len l) (sym same)) ∙ slash_line (drop at text) first next

pub slash_block : (l : List ℕ) → get_or l 0 0 ≡ 47 → get_or l 1 0 ≡ 42 → comment_of l ≡ front_of l
unfolding front_of
slash_block l first next = rw (first, next) refl

pub slash_assign : (l : List ℕ) → get_or l 0 0 ≡ 47 → get_or l 1 0 ≡ 61 → Some (front.Token kind.SlashAssign, 2) ≡ front_of l
unfolding front_of token_of sign long_sign
slash_assign l first next = rw (first, next) refl

other_byte : (b k : ℕ) → (b ≡ k → ⊥) → (b == k) ≡ false
other_byte b k h = false_from_ne_true (b == k) (λ e. h (eqb-true b k e))

pub slash_alone : (l : List ℕ) → get_or l 0 0 ≡ 47 → (get_or l 1 0 ≡ 47 → ⊥) → (get_or l 1 0 ≡ 42 → ⊥) → (get_or l 1 0 ≡ 61 → ⊥)
    → Some (front.Token kind.Slash, 1) ≡ front_of l
unfolding front_of token_of sign long_sign short_sign
slash_alone l first line block assign =
    rw (first, other_byte (get_or l 1 0) 47 line, other_byte (get_or l 1 0) 42 block, other_byte (get_or l 1 0) 61 assign) refl
