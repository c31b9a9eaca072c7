-- What a text begins with, as far as a test of bytes holds: a prefix whose bytes pass is followed
-- by nothing more that passes, and a list of passing bytes before one that fails is that prefix.
-- Each by recursion on the text, by the test of its first byte.
use Rattle.std.proofs.Common.{◌≡◌, ℕ, ◌+◌, ◌<◌, ◌≤◌, Bool, true, false, Decides, List, [], ◌∷◌, ◌++◌, length, get_or, take, drop, refl, ap, ◌∙◌, arith, IsAscii, inl, inr, one-add}
use Rattle.std.specs.List.{AllByRecursion, prefix_len}
use Rattle.std.proofs.lemmas.Bool.{cases_Bool, false_from_ne_true}
use Rattle.std.proofs.lemmas.Bool.Decides.{nat_tests, not_from_Decides}
use Rattle.std.proofs.lemmas.List.{get_or_default}
use Rattle.std.proofs.lemmas.Str.Ascii.{IsAscii-nil, IsAscii-cons}
use Rattle.dh_base.proofs.ListItems.{at_item}
use Rattle.dh_tree.specs.Names.{IsNameByte}
use Rattle.dh_lexer.specs.Pieces.{IsSpace, BeginsWithout, InLine}
use Rattle.dh_lexer.specs.FrontPiece.{is_space, is_name_byte, is_in_line, run_len, line_len}

pub spaces_tell : (b : ℕ) → Decides (is_space b) (IsSpace b)
spaces_tell b = grind (arith, nat_tests)

pub name_bytes_tell : (b : ℕ) → Decides (is_name_byte b) (IsNameByte b)
name_bytes_tell b = grind (arith, nat_tests)

in_line_so : (b : ℕ) → is_in_line b ≡ true → b ≡ 10 → ⊥
in_line_so b e same = grind (arith, nat_tests)

so_in_line : (b : ℕ) → (b ≡ 10 → ⊥) → is_in_line b ≡ true
so_in_line b other = grind (arith, nat_tests)

pub in_line_tells : (b : ℕ) → Decides (is_in_line b) (InLine b)
in_line_tells b = (in_line_so b, so_in_line b)

-- a test p of bytes that tells whether P holds
module _ (p : ℕ → Bool) (P : ℕ → Type 0) (tells : (b : ℕ) → Decides (p b) (P b)) where
  fails : (b : ℕ) → (P b → ⊥) → p b ≡ false
  fails b other = false_from_ne_true (p b) (λ e. other ((tells b).0 e))

  prefix_is : (w rest : List ℕ) → AllByRecursion P w → BeginsWithout P rest → prefix_len p (w ++ rest) ≡ length w
  prefix_is [] [] all stop = refl
  prefix_is [] (b ∷ bs) all stop = rw (fails b stop) refl
  prefix_is (b ∷ w) rest all stop =
      rw ((tells b).1 all.0) (let e = prefix_is w rest all.1 stop in omega (arith, e))

  prefix_all : (l : List ℕ) → AllByRecursion P (take (prefix_len p l) l)
  prefix_all [] = tt
  prefix_all (b ∷ bs) =
      elim (cases_Bool (p b)) [ inl holds ↦ rw (holds, one-add) (((tells b).0 holds, prefix_all bs)) | inr other ↦ rw other tt ]

  prefix_stops : (l : List ℕ) → BeginsWithout P (drop (prefix_len p l) l)
  prefix_stops [] = tt
  prefix_stops (b ∷ bs) =
      elim (cases_Bool (p b)) [ inl holds ↦ rw (holds, one-add) (prefix_stops bs) | inr other ↦ rw other (not_from_Decides (p b) (tells b) other) ]

  prefix_long : (w rest : List ℕ) → AllByRecursion P w → length w ≤ prefix_len p (w ++ rest)
  prefix_long [] rest all = omega arith
  prefix_long (b ∷ w) rest all =
      rw ((tells b).1 all.0) (let e = prefix_long w rest all.1 in omega (arith, e))

pub IsAscii-run : (w : List ℕ) → AllByRecursion IsNameByte w → IsAscii w
IsAscii-run [] all = IsAscii-nil
IsAscii-run (b ∷ bs) all = IsAscii-cons b bs (grind (arith, all.0)) (IsAscii-run bs all.1)

-- the run at the front of a text
pub run_is : (w rest : List ℕ) → AllByRecursion IsNameByte w → BeginsWithout IsNameByte rest → run_len (w ++ rest) ≡ length w
run_is = prefix_is is_name_byte IsNameByte name_bytes_tell

pub run_all : (l : List ℕ) → AllByRecursion IsNameByte (take (run_len l) l)
run_all = prefix_all is_name_byte IsNameByte name_bytes_tell

pub run_stops : (l : List ℕ) → BeginsWithout IsNameByte (drop (run_len l) l)
run_stops = prefix_stops is_name_byte IsNameByte name_bytes_tell

pub run_long : (w rest : List ℕ) → AllByRecursion IsNameByte w → length w ≤ run_len (w ++ rest)
run_long = prefix_long is_name_byte IsNameByte name_bytes_tell

-- the line at the front of a text
pub line_is : (w rest : List ℕ) → AllByRecursion InLine w → BeginsWithout InLine rest → line_len (w ++ rest) ≡ length w
line_is = prefix_is is_in_line InLine in_line_tells

pub line_all : (l : List ℕ) → AllByRecursion InLine (take (line_len l) l)
line_all = prefix_all is_in_line InLine in_line_tells

pub line_stops : (l : List ℕ) → BeginsWithout InLine (drop (line_len l) l)
line_stops = prefix_stops is_in_line InLine in_line_tells

-- where a name byte stands in front, the run has it
pub run_some : (l : List ℕ) → is_name_byte (get_or l 0 0) ≡ true → (0 < length (take (run_len l) l)) × (0 < run_len l)
run_some [] front = cc
run_some (b ∷ bs) front = rw (front, one-add) (omega arith, omega arith)

-- the run in front, by its bytes and by what they are
pub run_ready : (l : List ℕ) (n : ℕ) → n ≡ run_len l → is_name_byte (get_or l 0 0) ≡ true → (0 < length (take n l)) × AllByRecursion IsNameByte (take n l)
run_ready l n e front = rw e ((run_some l front).0, run_all l)

-- a name byte, and the run behind it
run_cons : (b : ℕ) (bs : List ℕ) → is_name_byte b ≡ true → run_len (b ∷ bs) ≡ 1 + run_len bs
run_cons b bs front = rw front (omega arith)

pub run_behind : (l : List ℕ) (at : ℕ) → at < length l → is_name_byte (get_or l at 0) ≡ true → (at + 1) + run_len (drop (at + 1) l) ≡ at + run_len (drop at l)
run_behind l at early front =
    let rest : drop at l ≡ get_or l at 0 ∷ drop (at + 1) l = at_item l at (get_or l at 0) early (get_or_default l at 0 (get_or l at 0) early) in
    let long : run_len (drop at l) ≡ 1 + run_len (drop (at + 1) l) = ap run_len rest ∙ run_cons (get_or l at 0) (drop (at + 1) l) front in
    omega (arith, long)
