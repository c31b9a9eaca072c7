-- What is met of events, one by one, and what the walk over it finds.
use Rattle.std.proofs.Common.{◌≡◌, ℕ, zero, suc, ◌+◌, ◌<◌, Bool, true, false, List, [], ◌∷◌, ◌++◌, length, take, drop, get_or, refl, ap, sym, ◌∙◌, subst, append_assoc, add-one, arith}
use mathlib.Core.Path.{fun_ext}
use Rattle.std.specs.Prelude.{Option, Some, None, slice_get}
use Rattle.std.proofs.lemmas.Option.{slice_get_within}
use Rattle.std.proofs.Math.Seq.{take-suc}
use Rattle.dh_events.specs.declared.classes.Key.{Key}
use Rattle.dh_events.specs.declared.events.Event.{Event}
use Rattle.dh_events.specs.declared.events.Event.TheVariants as event
use Rattle.dh_events.specs.Classes.{ExtendsKeys}
use Rattle.dh_events.proofs.Turns.{at_place}
use Rattle.dh_ports.specs.Scanned.{read_key}
use Rattle.dh_lengths.specs.declared.live.Live.{Live}
use Rattle.dh_lengths.specs.declared.sharing.Met.{Met}
use Rattle.dh_lengths.specs.declared.sharing.Met.TheVariants as met
use Rattle.dh_lengths.specs.LiveFirsts.{FirstRead, first_read_at, none_read, opened, arm_closed, shares_of}
use Rattle.dh_lengths.specs.LiveFirsts as lives
use Rattle.dh_lengths.specs.SharedReads.{IsKeyMet, IsMet, AreMet, IsWithinClasses, AreWithinClasses}

absurd : {A : Type 0} → ⊥ → A
absurd e = elim e [ ]

-- more keys leave what was met so far
key_later : (old new : List Key) (o : Option Key) (m : Met) → ExtendsKeys old new → IsKeyMet old o m → IsKeyMet new o m
key_later old new None m e h = h
key_later old new (Some k) m e (class, (there, is)) = (class, (e class k there, is))

met_later : (old new : List Key) (x : Event) (m : Met) → ExtendsKeys old new → IsMet old x m → IsMet new x m
met_later old new (event.Touch writes phase round access element newest) m e h = key_later old new (read_key (event.Touch writes phase round access element newest)) m e h
met_later old new (event.Assigned entity) m e h = h
met_later old new event.ArmBegins m e h = h
met_later old new event.ArmEnds m e h = h
met_later old new event.Begins m e h = h
met_later old new event.Next m e h = h
met_later old new event.Ends m e h = h

all_later : (old new : List Key) (es : List Event) (ms : List Met) → ExtendsKeys old new → AreMet old es ms → AreMet new es ms
all_later old new [] [] e h = tt
all_later old new [] (m ∷ ms) e h = h
all_later old new (x ∷ es) [] e h = h
all_later old new (x ∷ es) (m ∷ ms) e h = (met_later old new x m e h.0, all_later old new es ms e h.1)

one_more : (known : List Key) (es : List Event) (ms : List Met) (x : Event) (m : Met) → AreMet known es ms → IsMet known x m → AreMet known (es ++ x ∷ []) (ms ++ m ∷ [])
one_more known [] [] x m h i = (i, tt)
one_more known [] (n ∷ ms) x m h i = absurd h
one_more known (y ∷ es) [] x m h i = absurd h
one_more known (y ∷ es) (n ∷ ms) x m h i = (h.0, one_more known es ms x m h.1 i)

pub met_turn : (old new : List Key) → ExtendsKeys old new → (es : List Event) (i : ℕ) (x : Event) (ms ms1 : List Met) (m : Met) → i < length es → x ≡ get_or es i x → AreMet old (take i es) ms → IsMet new x m → ms1 ≡ ms ++ m ∷ []
    → AreMet new (take (i + 1) es) ms1
met_turn old new e es i x ms ms1 m within is so now more =
    subst (λ (l : List Met). AreMet new (take (i + 1) es) l) (sym more)
    (subst (λ (l : List Event). AreMet new l (ms ++ m ∷ [])) (sym (ap (λ n. take n es) (add-one i) ∙ (take-suc es i x within ∙ ap (λ y. take i es ++ y ∷ []) (sym is))))
    (one_more new (take i es) ms x m (all_later old new (take i es) ms e so) now))

-- what is met is of classes that are there
key_within : (known : List Key) (o : Option Key) (m : Met) → IsKeyMet known o m → IsWithinClasses (length known) m
key_within known None m h = subst (λ (n : Met). IsWithinClasses (length known) n) (sym h) tt
key_within known (Some k) m (class, (there, is)) = subst (λ (n : Met). IsWithinClasses (length known) n) (sym is) (slice_get_within known class k there)

met_within : (known : List Key) (x : Event) (m : Met) → IsMet known x m → IsWithinClasses (length known) m
met_within known (event.Touch writes phase round access element newest) m h = key_within known (read_key (event.Touch writes phase round access element newest)) m h
met_within known (event.Assigned entity) m h = subst (λ (n : Met). IsWithinClasses (length known) n) (sym h) tt
met_within known event.ArmBegins m h = subst (λ (n : Met). IsWithinClasses (length known) n) (sym h) tt
met_within known event.ArmEnds m h = subst (λ (n : Met). IsWithinClasses (length known) n) (sym h) tt
met_within known event.Begins m h = subst (λ (n : Met). IsWithinClasses (length known) n) (sym h) tt
met_within known event.Next m h = subst (λ (n : Met). IsWithinClasses (length known) n) (sym h) tt
met_within known event.Ends m h = subst (λ (n : Met). IsWithinClasses (length known) n) (sym h) tt

pub all_within : (known : List Key) (es : List Event) (ms : List Met) → AreMet known es ms → AreWithinClasses (length known) ms
all_within known [] [] h = tt
all_within known [] (m ∷ ms) h = absurd h
all_within known (x ∷ es) [] h = absurd h
all_within known (x ∷ es) (m ∷ ms) h = (met_within known x m h.0, all_within known es ms h.1)

-- one of them
pub within_at : (classes : ℕ) (ms : List Met) (i : ℕ) (d : Met) → i < length ms → AreWithinClasses classes ms → IsWithinClasses classes (get_or ms i d)
within_at classes [] i d h w = absurd (never i h)
  where
    never : (n : ℕ) → n < 0 → ⊥
    never n e = omega (arith, e)
within_at classes (x ∷ ms) zero d h w = w.0
within_at classes (x ∷ ms) (suc i) d h w = within_at classes ms i d (less i (length ms) h) w.1
  where
    less : (m n : ℕ) → suc m < suc n → m < n
    less m n e = omega (arith, e)

pub read_within : (classes class : ℕ) (m : Met) → m ≡ met.Read class → IsWithinClasses classes m → class < classes
read_within classes class m is w = subst (λ (n : Met). IsWithinClasses classes n) is w

-- The walk: what is found so far, with what the rest comes to, is what all comes to.

module _ (steps : List Met) (i : ℕ) (d : Met) (within : i < length steps) (shares all : List (Option ℕ)) (old : Live) (so : shares ++ shares_of (first_read_at old) (length shares) (drop i steps) ≡ all) where
  here : (n : Met) → get_or steps i d ≡ n → shares ++ shares_of (first_read_at old) (length shares) (n ∷ drop (i + 1) steps) ≡ all
  here n is = sym (ap (λ l. shares ++ shares_of (first_read_at old) (length shares) l) (at_place steps i d within ∙ ap (λ x. x ∷ drop (i + 1) steps) is)) ∙ so

  longer : (o : Option ℕ) → length (shares ++ o ∷ []) ≡ length shares + 1
  longer o = by shares
    where
      by : (l : List (Option ℕ)) → length (l ++ o ∷ []) ≡ length l + 1
      by [] = refl
      by (x ∷ l) = ap suc (by l) ∙ shift (length l)
        where
          shift : (n : ℕ) → suc (n + 1) ≡ suc n + 1
          shift n = omega arith

  found_one : (o : Option ℕ) (more : List (Option ℕ)) (firsts : ℕ → FirstRead) → more ≡ shares ++ o ∷ []
      → shares ++ (o ∷ shares_of firsts (length shares + 1) (drop (i + 1) steps)) ≡ all → more ++ shares_of firsts (length more) (drop (i + 1) steps) ≡ all
  found_one o more firsts is e =
      ap (λ l. l ++ shares_of firsts (length l) (drop (i + 1) steps)) is
      ∙ (ap (λ n. (shares ++ o ∷ []) ++ shares_of firsts n (drop (i + 1) steps)) (longer o) ∙ (append_assoc shares (o ∷ []) (shares_of firsts (length shares + 1) (drop (i + 1) steps)) ∙ e))

  pub read_turn : (class : ℕ) (new : Live) (o : Option ℕ) (more : List (Option ℕ)) → get_or steps i d ≡ met.Read class → o ≡ (first_read_at old class).now → ((other : ℕ) → first_read_at new other ≡ lives.met_read class (length shares) other (first_read_at old other))
      → more ≡ shares ++ o ∷ [] → more ++ shares_of (first_read_at new) (length more) (drop (i + 1) steps) ≡ all
  read_turn class new o more is share met_so added =
      found_one o more (first_read_at new) added
      (ap (λ (f : ℕ → FirstRead). shares ++ (o ∷ shares_of f (length shares + 1) (drop (i + 1) steps))) (fun_ext met_so)
      ∙ (ap (λ x. shares ++ (x ∷ shares_of (λ other. lives.met_read class (length shares) other (first_read_at old other)) (length shares + 1) (drop (i + 1) steps))) share ∙ here (met.Read class) is))

  pub alone_turn : (more : List (Option ℕ)) → get_or steps i d ≡ met.Alone → more ≡ shares ++ None ∷ [] → more ++ shares_of (first_read_at old) (length more) (drop (i + 1) steps) ≡ all
  alone_turn more is added = found_one None more (first_read_at old) added (here met.Alone is)

  pub begin_turn : (new : Live) → get_or steps i d ≡ met.Begins → ((class : ℕ) → first_read_at new class ≡ opened (first_read_at old class)) → shares ++ shares_of (first_read_at new) (length shares) (drop (i + 1) steps) ≡ all
  begin_turn new is opens = ap (λ (f : ℕ → FirstRead). shares ++ shares_of f (length shares) (drop (i + 1) steps)) (fun_ext opens) ∙ here met.Begins is

  pub end_turn : (new : Live) → get_or steps i d ≡ met.Ends → ((class : ℕ) → first_read_at new class ≡ arm_closed (first_read_at old class)) → shares ++ shares_of (first_read_at new) (length shares) (drop (i + 1) steps) ≡ all
  end_turn new is closes = ap (λ (f : ℕ → FirstRead). shares ++ shares_of f (length shares) (drop (i + 1) steps)) (fun_ext closes) ∙ here met.Ends is

  pub other_turn : get_or steps i d ≡ met.Other → shares ++ shares_of (first_read_at old) (length shares) (drop (i + 1) steps) ≡ all
  other_turn is = here met.Other is

-- where it begins and ends
pub begins_walk : (live : Live) (steps : List Met) (shares : List (Option ℕ)) → shares ≡ [] → ((class : ℕ) → first_read_at live class ≡ none_read class) → shares ++ shares_of (first_read_at live) (length shares) steps ≡ shares_of none_read 0 steps
begins_walk live steps shares empty none =
    ap (λ l. l ++ shares_of (first_read_at live) (length l) steps) empty ∙ ap (λ (f : ℕ → FirstRead). shares_of f 0 steps) (fun_ext none)
