-- Runs of letters, digits and `_`: which token a run is. One that begins with a digit is a number or
-- nothing. Any other is a word of the table, or else a name, as the table lists the reserved words.
use Rattle.std.proofs.Common.{◌≡◌, ℕ, ◌<◌, Bool, true, false, Contains, List, [], ◌∷◌, length, get_or, not, ◌&&◌, inl, inr, refl, ap, sym, ◌∙◌, subst, arith, Option, Some, None, option_map}
use Rattle.std.specs.List.{AllByRecursion, list_all}
use Rattle.std.specs.Cmp.{first_so, second_so}
use Rattle.std.specs.Char.{is_ascii_digit}
use Rattle.std.proofs.lemmas.Bool.{cond_both, cases_Bool, false≢true}
use Rattle.std.proofs.lemmas.Bool.Decides.{nat_tests}
use Rattle.dh_tree.specs.Names.{IsNameByte, IsLetter, IsIdentifier, IsName, reserved}
use Rattle.dh_lexer.specs.Spellings.{Entry, Lists, words}
use Rattle.dh_lexer.specs.Pieces.{IsRun}
use Rattle.dh_lexer.specs.FrontPiece.{is_name_byte, look_up, either, kept_word, word_kind, scanned_number, run_of}
use Rattle.dh_lexer.proofs.Runs.{name_bytes_tell}
use Rattle.dh_lexer.proofs.Numerals.{IsFilled, number_found, number_written, number_names, number_begins}
use Rattle.dh_lexer.proofs.TableLooks.{look_lists, is_distinct, listed_looks, listed_pass, spellings, look_none_spelled, listed_contained}
use Rattle.dh_lexer.specs.declared.tokens.TokenKind.{TokenKind}
use Rattle.dh_lexer.specs.declared.tokens.TokenKind.TheVariants as kind

words_distinct : is_distinct words ≡ true
words_distinct = refl

words_reserved : spellings words ≡ reserved
words_reserved = refl

-- the bytes are letters, digits and `_`, and the first is no digit
abbrev is_word : Entry → Bool
is_word e = list_all is_name_byte e.0 && (is_name_byte (get_or e.0 0 0) && not (is_ascii_digit (get_or e.0 0 0)))

words_are_words : list_all is_word words ≡ true
words_are_words = refl

-- what a word's bytes are
record IsPlain (w : List ℕ) : Type 0 where
  filled : IsFilled w
  begins : is_ascii_digit (get_or w 0 0) ≡ false

all_names : (w : List ℕ) → list_all is_name_byte w ≡ true → AllByRecursion IsNameByte w
all_names [] test = tt
all_names (b ∷ bs) test =
    ((name_bytes_tell b).0 (first_so (is_name_byte b) _ test), all_names bs (second_so (is_name_byte b) _ test))

some_front : (w : List ℕ) → is_name_byte (get_or w 0 0) ≡ true → 0 < length w
some_front [] e = absurd (false≢true e)
some_front (b ∷ bs) e = omega arith

not_so : (b : Bool) → not b ≡ true → b ≡ false
not_so true e = sym e
not_so false e = refl

word_plain : (w : List ℕ) (k : TokenKind) → Lists words w k → IsPlain w
word_plain w k l =
    let test : is_word (w, k) ≡ true = listed_pass is_word words w k words_are_words l in
    let front = second_so (list_all is_name_byte w) _ test in
    record {
      filled = record {
        some = some_front w (first_so (is_name_byte (get_or w 0 0)) _ front);
        names = all_names w (first_so (list_all is_name_byte w) _ test);
      };
      begins = not_so _ (second_so (is_name_byte (get_or w 0 0)) _ front);
    }

no_digit : (b : ℕ) → IsLetter b → is_ascii_digit b ≡ false
no_digit b letter = grind (arith, nat_tests)

name_plain : (w : List ℕ) → IsIdentifier w → IsPlain w
name_plain [] word = absurd word
name_plain (b ∷ bs) word = record {
  filled = record { some = omega arith; names = (inl word.0, word.1) };
  begins = no_digit b word.0;
}

-- a token that is a run is found
none_kept : (w : List ℕ) → IsName w → kept_word w ≡ None
unfolding kept_word
none_kept w name = by_look (look_up words w) refl
  where
    by_look : (o : Option TokenKind) → look_up words w ≡ o → look_up words w ≡ None
    by_look None e = e
    by_look (Some k) e =
        absurd (name.free (subst (λ (rs : List (List ℕ)). Contains rs w) words_reserved (listed_contained words w k (look_lists words w k e))))

kept_is : (w : List ℕ) (k : TokenKind) → Lists words w k → kept_word w ≡ Some k
unfolding kept_word
kept_is w k l = listed_looks words w k words_distinct l

word_is : (w : List ℕ) (k : TokenKind) → IsPlain w → word_kind w ≡ Some k → run_of w ≡ Some k
unfolding run_of
word_is w k plain e = rw plain.begins e

pub run_is_found : (k : TokenKind) (w : List ℕ) → IsRun k w → run_of w ≡ Some k
unfolding word_kind run_of
run_is_found k w (inl l) = word_is w k (word_plain w k l) (rw (kept_is w k l) refl)
run_is_found k w (inr (inl (is, name))) = word_is w k (name_plain w name.word) (rw (none_kept w name) (ap Some (sym is)))
run_is_found k w (inr (inr (n, (is, writes)))) = rw (number_begins w n writes, number_written w n writes) (ap Some (sym is))

-- a run's bytes
pub run_names : (k : TokenKind) (w : List ℕ) → IsRun k w → IsFilled w
run_names k w (inl l) = (word_plain w k l).filled
run_names k w (inr (inl (is, name))) = (name_plain w name.word).filled
run_names k w (inr (inr (n, (is, writes)))) = number_names w n writes

-- a run that begins with a digit is a number
pub digit_run : (k : TokenKind) (w : List ℕ) → IsRun k w → is_ascii_digit (get_or w 0 0) ≡ true → (n : ℕ) × (k ≡ kind.Number n)
digit_run k w (inl l) e = absurd (false≢true (sym (word_plain w k l).begins ∙ e))
digit_run k w (inr (inl (is, name))) e = absurd (false≢true (sym (name_plain w name.word).begins ∙ e))
digit_run k w (inr (inr (n, (is, writes)))) e = (n, is)

-- what is found is a run of that token
abbrev pub FoundRun : List ℕ → Option TokenKind → Type 0
FoundRun w None = Unit {0}
FoundRun w (Some k) = IsRun k w

word_from : (b : ℕ) (bs : List ℕ) → IsNameByte b → is_ascii_digit b ≡ false → AllByRecursion IsNameByte bs → IsIdentifier (b ∷ bs)
word_from b bs (inl letter) other all = (letter, all)
word_from b bs (inr digit) other all = absurd (grind (arith, nat_tests))

kept_or_name : (w : List ℕ) → IsIdentifier w → (o : Option TokenKind) → look_up words w ≡ o → FoundRun w (either o (Some (kind.Name w)))
kept_or_name w word (Some k) e = inl (look_lists words w k e)
kept_or_name w word None e =
    inr (inl (
      refl,
      record {
        word = word;
        free = λ c. look_none_spelled words w e (subst (λ (rs : List (List ℕ)). Contains rs w) (sym words_reserved) c);
      },
    ))

number_or_none : (w : List ℕ) (o : Option ℕ) → scanned_number w ≡ o → FoundRun w (option_map kind.Number o)
number_or_none w None e = tt
number_or_none w (Some n) e = inr (inr (n, (refl, number_found w n e)))

pub run_right : (w : List ℕ) → IsFilled w → FoundRun w (run_of w)
unfolding run_of word_kind kept_word
run_right [] filled = absurd (omega (arith, filled.some))
run_right (b ∷ bs) filled =
    cond_both (is_ascii_digit b) _ _ (FoundRun (b ∷ bs))
    (λ _. number_or_none (b ∷ bs) _ refl)
    (λ e. kept_or_name (b ∷ bs) (word_from b bs filled.names.0 e filled.names.1) _ refl)

-- only what begins with a digit can be no token
some_either : (o : Option TokenKind) (k : TokenKind) → either o (Some k) ≡ None → ⊥
some_either None k e = cc
some_either (Some j) k e = cc

pub run_fails : (w : List ℕ) → run_of w ≡ None → is_ascii_digit (get_or w 0 0) ≡ true
unfolding run_of word_kind
run_fails w e =
    elim (cases_Bool (is_ascii_digit (get_or w 0 0))) [ inl digit ↦ digit | inr other ↦ absurd (some_either (kept_word w) (kind.Name w) (rw other at e)) ]
