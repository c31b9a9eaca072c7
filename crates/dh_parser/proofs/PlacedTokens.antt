-- Where the reader of programs stops, the token is out of place. Some program goes on up to it, as any
-- reading can be gone on with. None goes on with it: a program that did would be read like the list up
-- to the token and stop there, but programs are read to their ends. And reading stops before the end of
-- the list or takes all of it, since the end of a program is its last token and no other.
use Rattle.std.proofs.Common.{◌≡◌, ℕ, suc, ◌≤◌, Bool, true, false, List, [], ◌∷◌, ◌++◌, length, refl, ap, sym, ◌∙◌, subst, arith, append_assoc, append-nil}
use Rattle.dh_base.specs.declared.places.Place.{Place}
use Rattle.dh_lexer.specs.declared.tokens.Token.{Token}
use Rattle.dh_lexer.specs.declared.tokens.TokenKind.TheVariants as kind
use Rattle.dh_lexer.specs.LexedText.{token_placed, AreEnded}
use Rattle.dh_parser.specs.declared.parsing.reading.Mark.TheVariants as mark
use Rattle.dh_parser.specs.Marks.{is_mark}
use Rattle.dh_parser.specs.Grammar.{ProgramText}
use Rattle.dh_parser.specs.Spelling.{put, spell_program}
use Rattle.dh_parser.specs.Reading.{Outcome, the_program, good, bad, deep}
use Rattle.dh_parser.specs.Programs.{Begins, OutOfPlace, IsAnswered, IsSoundReading, IsPlaced}
use Rattle.dh_parser.proofs.SoundPrograms.{program_sound}
use Rattle.dh_parser.proofs.StepsOfPrograms.{program_answered}
use Rattle.dh_parser.proofs.AgainPrograms.{program_again}
use Rattle.dh_parser.proofs.Fronts.{Endless, program_front}
use Rattle.dh_parser.proofs.GoesBasics.{Stops, StopsAt}
use Rattle.dh_parser.proofs.GoesPrograms.{program_goes}
use Rattle.dh_parser.proofs.AlikeBasics.{Past, Alike, HoldsAt, shared, over, went, stopped, gave}
use Rattle.dh_parser.proofs.AlikePrograms.{program_alike}

no_more : (w : List Token) (e : Token) (rest : List Token) → e.kind ≡ kind.End → AreEnded (w ++ (e ∷ rest)) → rest ≡ []
no_more [] e [] k h = refl
no_more [] e (t ∷ rest) k h = absurd (h.0 k)
no_more (a ∷ []) e rest k h = no_more [] e rest k h.1.1
no_more (a ∷ (b ∷ w)) e rest k h = no_more (b ∷ w) e rest k h.1.1

all_read : (tokens : List Token) → AreEnded tokens → (p : ProgramText) (rest : List Token) → tokens ≡ spell_program p rest → rest ≡ []
all_read tokens h p rest e =
    let front = program_front p in
    no_more front.tokens (token_placed kind.End p.end) rest refl (subst AreEnded (e ∙ front.stands (put kind.End p.end rest)) h)

abbrev tail : List Token → List Token
tail [] = []
tail (t ∷ ts) = ts

abbrev starts_with_end : List Token → Bool
starts_with_end [] = false
starts_with_end (t ∷ ts) = is_mark t.kind mark.End

differ : true ≡ false → ⊥
differ e = cc

nothing_is : (t : Token) (ts : List Token) → [] ≡ t ∷ ts → ⊥
nothing_is t ts e = cc

end_differs : (a t : Token) (x y : List Token) → is_mark a.kind mark.End ≡ false → t.kind ≡ kind.End → a ∷ x ≡ t ∷ y → ⊥
end_differs a t x y no_end is_end e = differ (sym (ap (λ k. is_mark k mark.End) is_end) ∙ (sym (ap starts_with_end e) ∙ no_end))

-- a list that ends where a program does is not the front of a longer one
whole : (ts : List Token) → AreEnded ts → (w : List Token) → Endless w → (end : Place) (more : List Token) → w ++ (token_placed kind.End end ∷ []) ≡ ts ++ more → more ≡ []
whole [] h w l end more e = absurd h
whole (t ∷ []) h [] l end more e = sym (ap tail e)
whole (t ∷ []) h (a ∷ w) l end more e = absurd (end_differs a t (w ++ (token_placed kind.End end ∷ [])) more l.0 h e)
whole (t ∷ (u ∷ ts)) h [] l end more e = absurd (nothing_is u (ts ++ more) (ap tail e))
whole (t ∷ (u ∷ ts)) h (a ∷ w) l end more e = whole (u ∷ ts) h.1.1 w l.1 end more (ap tail e)

good_bad : {A : Type 0} (a : A) (r s : List Token) → good a r ≡ bad s → ⊥
good_bad a r s e = cc

good_deep : {A : Type 0} (a : A) (r : List Token) → good a r ≡ deep → ⊥
good_deep a r e = cc

-- the reader does not stop at the end of such a list
not_at_end : (tokens : List Token) → AreEnded tokens → the_program tokens ≡ bad [] → Stops (λ x. x) tokens [] → ⊥
not_at_end tokens h stop s =
    let text = s.begins.text in
    let front = program_front text in
    let all : tokens ≡ s.taken = s.all ∙ append-nil s.taken in
    let spelled : spell_program text [] ≡ tokens ++ s.more = s.begins.tokens_are ∙ ap (λ l. l ++ s.more) (sym all) in
    let none : s.more ≡ [] = whole tokens h front.tokens front.endless text.end s.more (sym (front.stands (put kind.End text.end [])) ∙ spelled) in
    let same : spell_program text [] ≡ tokens = spelled ∙ (ap (λ l. tokens ++ l) none ∙ append-nil tokens) in
    good_bad text [] [] (sym (program_again text [] s.begins.fits) ∙ (ap the_program same ∙ stop))

too_long : (n : ℕ) → suc n ≤ n → ⊥
too_long n l = omega (arith, l)

-- two readings that share the token at which the first stops: the second does not go on
not_alike : {A : Type 0} (p q : List Token) (o u : Outcome A) (t : Token) (a : A) (r : List Token) → Alike p q o u → o ≡ bad (t ∷ p) → u ≡ good a r → ⊥
not_alike p q o u t a r (over h) e d = too_long (length p) (subst (λ x. Past p x) e h)
not_alike p q o u t a r (went c v b f g) e d = good_bad c (v ∷ (b ++ p)) (t ∷ p) (sym f ∙ e)
not_alike p q o u t a r (stopped v b f g) e d = good_bad a r (v ∷ (b ++ q)) (sym d ∙ g)
not_alike p q o u t a r (gave g) e d = good_deep a r (sym d ∙ g)

some_shared : {A : Type 0} (b : List Token) (t : Token) (p q : List Token) (o u : Outcome A) → HoldsAt p q (shared (b ++ (t ∷ []))) o u → Alike p q o u
some_shared [] t p q o u h = h
some_shared (a ∷ b) t p q o u h = h

none_goes_on : (before : List Token) (t : Token) (after : List Token) → the_program (before ++ (t ∷ after)) ≡ bad (t ∷ after) → Begins (before ++ (t ∷ [])) → ⊥
none_goes_on before t after stop k =
    let alike = some_shared before t after k.rest _ _ (program_alike after k.rest (shared (before ++ (t ∷ [])))).holds in
    not_alike after k.rest _ _ t k.text [] alike
    (ap the_program (append_assoc before (t ∷ []) after) ∙ stop)
    (ap the_program (sym k.tokens_are) ∙ program_again k.text [] k.fits)

placed_at : (tokens : List Token) (t : Token) (after : List Token) → the_program tokens ≡ bad (t ∷ after) → Stops (λ x. x) tokens (t ∷ after) → (before : List Token) × OutOfPlace tokens before t after
placed_at tokens t after stop s = (
  s.taken,
  record {
    all = s.all;
    viable = record { text = s.begins.text; rest = s.more; fits = s.begins.fits; tokens_are = s.begins.tokens_are };
    dead = none_goes_on s.taken t after (ap the_program (sym s.all) ∙ stop);
  },
)

placed_from : (tokens : List Token) → AreEnded tokens → (o : Outcome ProgramText) → the_program tokens ≡ o → IsAnswered o → IsSoundReading tokens o → StopsAt (λ x. x) tokens o → IsPlaced tokens o
placed_from tokens h (good p rest) e answered is_sound stops = all_read tokens h p rest is_sound.1
placed_from tokens h (bad []) e answered is_sound stops = not_at_end tokens h e stops
placed_from tokens h (bad (t ∷ after)) e answered is_sound stops = placed_at tokens t after e stops
placed_from tokens h deep e answered is_sound stops = answered

pub programs_are_placed : (tokens : List Token) → AreEnded tokens → IsPlaced tokens (the_program tokens)
programs_are_placed tokens h = placed_from tokens h (the_program tokens) refl (program_answered tokens) (program_sound tokens) (program_goes tokens).on
