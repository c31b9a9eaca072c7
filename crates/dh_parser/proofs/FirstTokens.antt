-- What the first of the tokens to come says of a reader of lists.
use Rattle.std.proofs.Common.{◌≡◌, ℕ, ◌≤◌, ◌-◌, Bool, true, false, if◌then◌else◌, List, [], ◌∷◌, Ok, Option, Some, None, nat_le, length, take, drop, get_or, refl, ap, sym, ◌∙◌, arith}
use Rattle.std.proofs.lemmas.List.{take_all}
use Rattle.std.proofs.lemmas.Bool.Decides.{nat_tests}
use Rattle.dh_value.specs.declared.operators.Op.{Op}
use Rattle.dh_parser.specs.Allowed.{level}
use Rattle.dh_parser.specs.declared.parsing.loops.LoopHead.{LoopHead}
use Rattle.dh_base.specs.declared.places.Place.{Place}
use Rattle.dh_lexer.specs.declared.tokens.Token.{Token}
use Rattle.dh_lexer.specs.declared.tokens.TokenKind.{TokenKind}
use Rattle.dh_lexer.specs.declared.tokens.TokenKind.TheVariants as kind
use Rattle.dh_parser.specs.declared.parsing.reading.Mark.{Mark}
use Rattle.dh_parser.specs.declared.parsing.reading.Mark.TheVariants as mark
use Rattle.dh_parser.specs.Marks.{is_mark}
use Rattle.dh_parser.specs.Answers.{Took, IsFirstTokenPlace, SameNumber, SameUnrolled, SameHead}
use Rattle.dh_parser.specs.Grammar.{KindText, NumberText, HeadText, bit_kind, ubit_kind}
use Rattle.dh_parser.specs.Reading.{good, bad, the, kind_from, the_kind, the_width, width_then, Sign, op_from, sign_text, sign_from, sign_at}
use Rattle.dh_parser.specs.TreesOfTexts.{kind_place, ref_of, placed_of, declared_kind_of_text, factor_of}
use Rattle.dh_parser.proofs.Going.{AllOf, all_then}

none_first : (A : Type 0) → 1 ≤ length {A = A} [] → ⊥
none_first A h = omega arith

pub first_is : (all : List Token) (t : Token) → 1 ≤ length all → t ≡ get_or all 0 t → all ≡ t ∷ take (length all - 1) (drop 1 all)
first_is [] t h e = absurd (none_first Token h)
first_is (u ∷ ts) t h e =
    let few : length ts ≤ length (u ∷ ts) - 1 = omega arith in
    ap (λ v. v ∷ ts) (sym e) ∙ ap (λ l. t ∷ l) (sym (take_all (length (u ∷ ts) - 1) ts few))

the_by : (b : Bool) (t : Token) (ts : List Token) → b ≡ true → (if b then good t.place ts else bad (t ∷ ts)) ≡ good t.place ts
the_by true t ts e = refl
the_by false t ts e = cc

took_by : (m : Mark) (t : Token) (ts : List Token) → is_mark t.kind m ≡ true → Took m true (t ∷ ts) ts
took_by m t ts f = (f, (t.place, the_by (is_mark t.kind m) t ts f))

pub took_first : (m : Mark) (all ts : List Token) (t : Token) → all ≡ t ∷ ts → is_mark t.kind m ≡ true → Took m true all ts
took_first m all ts t e f = rw e (took_by m t ts f)

pub kind_at : (all ts : List Token) (t : Token) (k : TokenKind) → all ≡ t ∷ ts → t.kind ≡ k → the_kind all ≡ kind_from k t ts
kind_at all ts t k e f = ap the_kind e ∙ ap (λ x. kind_from x t ts) f

width_starts : (p q : Place) (make : Place → NumberText → Place → KindText) (ts : List Token) → ((l : Place) (w : NumberText) (g : Place) → kind_place (make l w g) ≡ q) → q ≡ p
    → AllOf (λ k. kind_place k ≡ p) (width_then make ts)
width_starts p q make ts h e =
    all_then (λ k. kind_place k ≡ p) (the mark.Less ts) _ λ less r0.
    all_then (λ k. kind_place k ≡ p) (the_width r0) _ λ width r1.
    all_then (λ k. kind_place k ≡ p) (the mark.Greater r1) _ λ greater r2.
    (h less width greater ∙ e)

kind_starts_from : (p : Place) (k : TokenKind) (t : Token) (ts : List Token) → t.place ≡ p → AllOf (λ x. kind_place x ≡ p) (kind_from k t ts)
kind_starts_from p kind.Bool t ts e = e
kind_starts_from p kind.Bit t ts e = width_starts p t.place (bit_kind t.place) ts (λ l w g. refl) e
kind_starts_from p kind.Ubit t ts e = width_starts p t.place (ubit_kind t.place) ts (λ l w g. refl) e
kind_starts_from p _ t ts e = tt

-- a kind begins at the first token
pub kind_starts : (p : Place) (ts : List Token) → IsFirstTokenPlace (Ok p) ts → AllOf (λ k. kind_place k ≡ p) (the_kind ts)
kind_starts p [] h = tt
kind_starts p (t ∷ ts) h = kind_starts_from p t.kind t ts (sym h)

tightly : (k : ℕ) (o : Op) (x y : Option Sign) → k ≤ level o → (if nat_le k (level o) then x else y) ≡ x
tightly k o x y h = grind (arith, nat_tests)

-- an operator that binds tightly enough
pub sign_is : (k : ℕ) (all ts : List Token) (t : Token) (o : Op) → all ≡ t ∷ ts → op_from t.kind ≡ Some o → k ≤ level o → sign_at k all ≡ Some (sign_text o t.place ts)
sign_is k all ts t o e f h =
    ap (λ l. sign_at k l) e ∙ (ap (λ x. sign_from k x t ts) f ∙ tightly k o (Some (sign_text o t.place ts)) None h)

-- the head of a loop, part by part
pub same_head : (h : LoopHead) (t : HeadText) → h.place ≡ t.word → h.iterator ≡ ref_of t.iterator → h.declared ≡ declared_kind_of_text t.declared
    → SameNumber h.low (placed_of t.low) → SameNumber h.high (placed_of t.high) → SameUnrolled h.factor h.unroll (factor_of h.place t.unroll) → SameHead h t
same_head h t p i d l g f = record { place = p; iterator = i; declared = d; low = l; high = g; factor = rw (← p) f }
