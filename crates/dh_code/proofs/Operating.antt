-- Operations that are done one after the other.
use Rattle.std.proofs.Common.{◌≡◌, ℕ, zero, suc, ◌+◌, ◌<◌, ◌≤◌, List, [], ◌∷◌, ◌++◌, length, drop, get_or, Err, refl, ap, sym, ◌∙◌, subst, arith, append_assoc, append-nil}
use Rattle.std.specs.Prelude.{Result, slice_set}
use Rattle.std.proofs.Math.Seq.{drop-cons}
use Rattle.std.proofs.lemmas.List.{length-set}
use Rattle.dh_meaning.specs.Effects.{Event, stop_after}
use Rattle.dh_code.specs.declared.codes.CodeOperation.{CodeOperation}
use Rattle.dh_code.specs.declared.evaluating.StepContext.{StepContext}
use Rattle.dh_code.specs.declared.evaluating.StepStop.{StepStop}
use Rattle.dh_code.specs.declared.evaluating.StepStop.TheVariants as stop
use Rattle.dh_code.specs.declared.spending.Bank.{Bank}
use Rattle.dh_code.specs.Operated.{Sight, events_after, events_of_operation, word_of_operation, sight, sight_after, with_given}
use Rattle.dh_code.specs.Scenes.{Spends, SpendsMore, begun_in}
use Rattle.dh_code.specs.Spent.{HaveSpent, StayUsed}
use Rattle.dh_code.proofs.BanksSpent.{stop_stays}

pub record Operates (s : StepContext) (slots ranks : List ℕ) (at : ℕ) (os : List CodeOperation) (first : List ℕ) (banks_first : List Bank) (i : ℕ) (given : List ℕ) (banks : List Bank) : Type 0 where
  pub long : length banks ≡ length banks_first
  pub room : length given ≡ length first
  pub used : StayUsed s.step banks_first banks
  pub seen : sight_after (begun_in s) (sight slots given ranks) (at + i) (drop i os) ≡ sight_after (begun_in s) (sight slots first ranks) at os
  pub spent : (es : List Event) → HaveSpent s.entries.now es s.step banks_first
      → (so_far : List Event) × (HaveSpent s.entries.now so_far s.step banks × (so_far ++ events_after (begun_in s) (sight slots given ranks) (at + i) (drop i os) ≡ es ++ events_after (begun_in s) (sight slots first ranks) at os))

module _ (s : StepContext) (slots ranks : List ℕ) (at : ℕ) (os : List CodeOperation) (first : List ℕ) (banks_first : List Bank) where
  pub operates_first : Operates s slots ranks at os first banks_first 0 first banks_first
  operates_first = record {
    long = refl;
    room = refl;
    used = λ h. h;
    seen = ap (λ n. sight_after (begun_in s) (sight slots first ranks) n os) none;
    spent = λ es h. (es, (h, ap (λ n. es ++ events_after (begun_in s) (sight slots first ranks) n os) none));
  }
    where
      none : at + 0 ≡ at
      none = omega arith

  module _ (i : ℕ) (given : List ℕ) (banks : List Bank) (o : CodeOperation) (within : i < length os) (is : o ≡ get_or os i o) (h : Operates s slots ranks at os first banks_first i given banks) where
    abbrev now : Sight
    now = sight slots given ranks

    split : drop i os ≡ o ∷ drop (suc i) os
    split = drop-cons os i o within ∙ ap (λ x. x ∷ drop (suc i) os) (sym is)

    next : at + i + 1 ≡ at + suc i
    next = omega arith

    rest_seen : sight_after (begun_in s) (with_given (begun_in s) now (at + i) o) (at + suc i) (drop (suc i) os) ≡ sight_after (begun_in s) (sight slots first ranks) at os
    rest_seen = ap (λ n. sight_after (begun_in s) (with_given (begun_in s) now (at + i) o) n (drop (suc i) os)) (sym next) ∙ (ap (λ l. sight_after (begun_in s) now (at + i) l) (sym split) ∙ h.seen)

    rest_events : events_of_operation (begun_in s) now o ++ events_after (begun_in s) (with_given (begun_in s) now (at + i) o) (at + suc i) (drop (suc i) os) ≡ events_after (begun_in s) now (at + i) (drop i os)
    rest_events =
        ap (λ n. events_of_operation (begun_in s) now o ++ events_after (begun_in s) (with_given (begun_in s) now (at + i) o) n (drop (suc i) os)) (sym next)
        ∙ ap (λ l. events_after (begun_in s) now (at + i) l) (sym split)

    pub operates_turn : (given' : List ℕ) (banks' : List Bank) → given' ≡ slice_set given (at + i) (word_of_operation (begun_in s) now o).bits → length banks' ≡ length banks → StayUsed s.step banks banks'
        → ((es : List Event) → HaveSpent s.entries.now es s.step banks → HaveSpent s.entries.now (es ++ events_of_operation (begun_in s) now o) s.step banks')
        → Operates s slots ranks at os first banks_first (suc i) given' banks'
    operates_turn given' banks' sets kept uses spends = record {
      long = kept ∙ h.long;
      used = λ k. uses (h.used k);
      room = ap (λ l. length l) sets ∙ (length-set given (at + i) (word_of_operation (begun_in s) now o).bits ∙ h.room);
      seen = ap (λ l. sight_after (begun_in s) (sight slots l ranks) (at + suc i) (drop (suc i) os)) sets ∙ rest_seen;
      spent = λ es k. let g = h.spent es k in (
        g.0 ++ events_of_operation (begun_in s) now o,
        (
          spends g.0 g.1.0,
          ap (λ l. (g.0 ++ events_of_operation (begun_in s) now o) ++ events_after (begun_in s) (sight slots l ranks) (at + suc i) (drop (suc i) os)) sets
              ∙ (append_assoc g.0 (events_of_operation (begun_in s) now o) (events_after (begun_in s) (with_given (begun_in s) now (at + i) o) (at + suc i) (drop (suc i) os))
              ∙ (ap (λ l. g.0 ++ l) rest_events ∙ g.1.1)),
        ),
      );
    }

    pub operates_stop : (A B : Type 0) (x : StepStop) (banks' after : List Bank) (result : Result B StepStop) → result ≡ Err x → SpendsMore {A = A} s banks (Err x) banks' (events_of_operation (begun_in s) now o)
        → SpendsMore {A = B} s banks_first result after (events_after (begun_in s) (sight slots first ranks) at os)
    operates_stop A B x banks' after result stopped spends = λ es k. by es x result stopped (h.spent es k) spends
      where
        by : (es : List Event) (x : StepStop) (result : Result B StepStop) → result ≡ Err x
            → (so_far : List Event) × (HaveSpent s.entries.now so_far s.step banks × (so_far ++ events_after (begun_in s) now (at + i) (drop i os) ≡ es ++ events_after (begun_in s) (sight slots first ranks) at os))
            → SpendsMore {A = A} s banks (Err x) banks' (events_of_operation (begun_in s) now o) → Spends {A = B} s.entries.now (es ++ events_after (begun_in s) (sight slots first ranks) at os) s.step result after
        by es (stop.At outcome) result e g f =
            subst (λ (r : Result B StepStop). Spends {A = B} s.entries.now (es ++ events_after (begun_in s) (sight slots first ranks) at os) s.step r after) (sym e)
            (ap (λ l. stop_after s.entries.now [] l)
            (sym g.1.1 ∙ (ap (λ l. g.0 ++ l) (sym rest_events) ∙ sym (append_assoc g.0 (events_of_operation (begun_in s) now o) (events_after (begun_in s) (with_given (begun_in s) now (at + i) o) (at + suc i) (drop (suc i) os)))))
            ∙ stop_stays s.entries.now [] (g.0 ++ events_of_operation (begun_in s) now o) (events_after (begun_in s) (with_given (begun_in s) now (at + i) o) (at + suc i) (drop (suc i) os)) outcome (f g.0 g.1.0))
        by es stop.NoMemory result e g f = subst (λ (r : Result B StepStop). Spends {A = B} s.entries.now (es ++ events_after (begun_in s) (sight slots first ranks) at os) s.step r after) (sym e) tt

  module _ (i : ℕ) (given : List ℕ) (banks : List Bank) (over : length os ≤ i) (h : Operates s slots ranks at os first banks_first i given banks) where
    nothing_left : drop i os ≡ []
    nothing_left = none_left os i over
      where
        none_left : (xs : List CodeOperation) (k : ℕ) → length xs ≤ k → drop k xs ≡ []
        none_left [] zero e = refl
        none_left [] (suc k) e = refl
        none_left (x ∷ xs) zero e = absurd (never (length xs) e)
          where
            never : (n : ℕ) → suc n ≤ 0 → ⊥
            never n e = omega (arith, e)
        none_left (x ∷ xs) (suc k) e = none_left xs k (less (length xs) k e)
          where
            less : (m l : ℕ) → suc m ≤ suc l → m ≤ l
            less m l e = omega (arith, e)

    pub operates_seen : sight slots given ranks ≡ sight_after (begun_in s) (sight slots first ranks) at os
    operates_seen = ap (λ l. sight_after (begun_in s) (sight slots given ranks) (at + i) l) (sym nothing_left) ∙ h.seen

    pub operates_spent : (es : List Event) → HaveSpent s.entries.now es s.step banks_first → HaveSpent s.entries.now (es ++ events_after (begun_in s) (sight slots first ranks) at os) s.step banks
    operates_spent es k =
        let g = h.spent es k in
        subst (λ (l : List Event). HaveSpent s.entries.now l s.step banks)
        (sym (append-nil g.0) ∙ (ap (λ l. g.0 ++ events_after (begun_in s) (sight slots given ranks) (at + i) l) (sym nothing_left) ∙ g.1.1)) g.1.0
