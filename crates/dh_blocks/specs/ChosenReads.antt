-- What reads give in a step that does a block, and where accesses stand: chosen from what is found along the block's
-- run. An access of an earlier block is done nowhere here; it stands as its copies say.
use Rattle.std.specs.Prelude.{◌≡◌, ℕ, zero, suc, ◌<◌, ◌==◌, ◌&&◌, ◌||◌, Bool, false, List, [], ◌∷◌, ◌++◌, length, Option, Some, None}
use Rattle.dh_base.specs.declared.outcomes.FaultKind.{FaultKind}
use Rattle.dh_base.specs.declared.places.Place.{Place}
use Rattle.dh_value.specs.declared.words.Word.{Word}
use Rattle.dh_plan.specs.Blocks.{is_on, no_word}
use Rattle.dh_expressions.specs.declared.accesses.Accesses.{Accesses}
use Rattle.dh_expressions.specs.declared.accesses.Touched.{Touched}
use Rattle.dh_expressions.specs.Drafted.{BlockStep}
use Rattle.dh_expressions.specs.Evaluated.{StepReads}
use Rattle.dh_expressions.specs.Noted.{touched_in}
use Rattle.dh_expressions.specs.Shown.{guard_of}
use Rattle.dh_expressions.specs.Standings.{AccessStanding}
use Rattle.dh_laid.specs.LaidAccesses.{place_named, access_standing_of}
use Rattle.dh_blocks.specs.FoundAccesses.{Found}

-- at one of the first paths that a path leads, so many, the guard holds
abbrev pub any_led_is_on : BlockStep → AccessStanding → (first n : ℕ) → Bool
any_led_is_on x s first zero = false
any_led_is_on x s first (suc n) = any_led_is_on x s first n || ((s.leader n == first) && is_on x.first x.words (guard_of s.guards n))

-- a read is done at a path where one with its key has its guard on
abbrev pub done_of : BlockStep → Option Found → (path : ℕ) → Bool
done_of x None path = false
done_of x (Some f) path = any_led_is_on x f.standing (f.standing.leader path) (length f.standing.guards)

abbrev pub word_found : Option Found → (path : ℕ) → Word
word_found None path = no_word
word_found (Some f) path = f.word path

-- Accesses of earlier blocks.

abbrev pub no_standing : AccessStanding
no_standing = record { place = place_named None; leader = λ path. path; bank = λ path. 0; places = λ path. 0; reaches = λ bank place. []; guards = [] }

abbrev pub standing_or_none : List (FaultKind × Place) → Option Touched → AccessStanding
standing_or_none named None = no_standing
standing_or_none named (Some t) = access_standing_of named t

-- The choice.

abbrev pub chosen_standing : List (FaultKind × Place) → Option Found → Option Touched → AccessStanding
chosen_standing named None t = standing_or_none named t
chosen_standing named (Some f) t = f.standing

abbrev pub sites_to : List (FaultKind × Place) → (found : ℕ → Option Found) → Accesses → (n : ℕ) → List AccessStanding
sites_to named found a zero = []
sites_to named found a (suc n) = sites_to named found a n ++ chosen_standing named (found n) (touched_in a n) ∷ []

abbrev pub chosen_reads : BlockStep → (found : ℕ → Option Found) → (before : Accesses) → StepReads
chosen_reads x found before = record {
  done = λ number path. done_of x (found number) path;
  means = λ number path. word_found (found number) path;
  sites = sites_to x.named found before (length before.touched.items);
}

-- no access that is found had operations before
abbrev pub AreBare : (found : ℕ → Option Found) → Accesses → Type 0
AreBare found a = (number : ℕ) (f : Found) → found number ≡ Some f → (number < length a.touched.items) × (touched_in a number ≡ None)
