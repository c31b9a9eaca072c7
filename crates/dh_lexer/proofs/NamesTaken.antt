-- A run of letters, digits and `_` that is a name makes the token that begins with it one.
use Rattle.std.proofs.Common.{◌≡◌, ℕ, true, List, Option, Some, None, option_map, take, slice_index, if◌then◌else◌, sym, subst}
use Rattle.dh_lexer.specs.declared.tokens.TokenKind.{TokenKind}
use Rattle.dh_lexer.specs.FrontPiece.{is_name_byte, run_len, run_of, sign, token_of, IsNamed, IsNamedToken}

with_length : (k : Option TokenKind) (n : ℕ) → IsNamed k → IsNamedToken (option_map (λ k. (k, n)) k)
with_length (Some k) n h = h
with_length None n h = h

pub token_named : (l w : List ℕ) → is_name_byte (slice_index l 0) ≡ true → w ≡ take (run_len l) l → IsNamed (run_of w) → IsNamedToken (token_of l)
unfolding token_of
token_named l w front is h =
    subst (λ b. IsNamedToken (if b then option_map (λ k. (k, run_len l)) (run_of (take (run_len l) l)) else sign (slice_index l 0) (slice_index l 1) (slice_index l 2))) (sym front)
    (with_length (run_of (take (run_len l) l)) (run_len l) (subst (λ x. IsNamed (run_of x)) is h))
