-- The level of a slot over marks, as what is left and the marks change. The floors round it are any function of what was
-- left at the part's begin.
use Rattle.std.proofs.Common.{◌≡◌, ℕ, ◌-◌, ◌<◌, ◌==◌, true, false, List, [], ◌∷◌, ◌++◌, length, slice_index, slice_set, if◌then◌else◌, refl, ap, sym, ◌∙◌, ◌⊎◌, inl, inr}
use Rattle.std.proofs.lemmas.Bool.{eqb-true, cases_Bool}
use Rattle.dh_ports.specs.declared.marks.SlotMark.{SlotMark}
use Rattle.dh_ports.specs.Logs.{at_begin, least, marks_now}
use Rattle.dh_ports.specs.Levels.{Floor, Level, slot_level, taken, kept_back}
use Rattle.dh_events.proofs.Turns.{index_set}
use Rattle.dh_ports.proofs.LogFacts.{mark, logged_turn, lows_after}

-- the level of a slot, from what is left and the marks
abbrev pub level_by : List ℕ → List SlotMark → List SlotMark → (ℕ → List Floor) → (slot : ℕ) → Level
level_by left log lows floors slot =
    slot_level (slice_index left slot) (at_begin log slot (slice_index left slot)) (least lows slot (at_begin log slot (slice_index left slot))) (floors (at_begin log slot (slice_index left slot)))

-- the level where what was left at the part's begin is known
abbrev level_with : List SlotMark → (ℕ → List Floor) → (slot now base : ℕ) → Level
level_with lows floors slot now base = slot_level now base (least lows slot base) (floors base)

-- another number of a slot, with a mark of the one before
module _ (left : List ℕ) (log log1 lows : List SlotMark) (floors : ℕ → List Floor) (k v s : ℕ) (inside : k < length left) (more : log1 ≡ log ++ mark k (slice_index left k) ∷ []) where
  put_level : level_by (slice_set left k v) log1 lows floors s ≡ level_with lows floors s (if k == s then v else slice_index left s) (at_begin log s (slice_index left s))
  put_level =
      ap (λ b. level_with lows floors s (slice_index (slice_set left k v) s) b) (ap (λ l. at_begin l s (slice_index (slice_set left k v) s)) more ∙ logged_turn left log k v s inside)
      ∙ ap (λ n. level_with lows floors s n (at_begin log s (slice_index left s))) (index_set left k v s inside)

  pub less_level : (m : ℕ) → v ≡ slice_index left k - m → level_by (slice_set left k v) log1 lows floors s ≡ taken k m s (level_by left log lows floors s)
  less_level m is = put_level ∙ by_test (cases_Bool (k == s))
    where
      by_test : ((k == s) ≡ true) ⊎ ((k == s) ≡ false) → level_with lows floors s (if k == s then v else slice_index left s) (at_begin log s (slice_index left s)) ≡ taken k m s (level_by left log lows floors s)
      by_test (inl e) =
          ap (λ t. level_with lows floors s (if t then v else slice_index left s) (at_begin log s (slice_index left s))) e
          ∙ (ap (λ n. level_with lows floors s n (at_begin log s (slice_index left s))) (is ∙ ap (λ j. slice_index left j - m) (eqb-true k s e))
          ∙ sym (ap (λ t. if t then level_with lows floors s (slice_index left s - m) (at_begin log s (slice_index left s)) else level_by left log lows floors s) e))
      by_test (inr e) =
          ap (λ t. level_with lows floors s (if t then v else slice_index left s) (at_begin log s (slice_index left s))) e
          ∙ sym (ap (λ t. if t then level_with lows floors s (slice_index left s - m) (at_begin log s (slice_index left s)) else level_by left log lows floors s) e)

-- a part is given back
pub back_level : (left left1 : List ℕ) (log log1 lows lows1 : List SlotMark) (floors : ℕ → List Floor) (s : ℕ) → slice_index left1 s ≡ at_begin log s (slice_index left s) → log1 ≡ [] → ((n : ℕ) → least lows1 s n ≡ least (lows ++ marks_now left log) s n)
    → level_by left1 log1 lows1 floors s ≡ kept_back (level_by left log lows floors s)
back_level left left1 log log1 lows lows1 floors s undone empty noted =
    ap (λ l. level_by left1 l lows1 floors s) empty
    ∙ (ap (λ n. slot_level n n (least lows1 s n) (floors n)) undone
    ∙ ap (λ m. slot_level (at_begin log s (slice_index left s)) (at_begin log s (slice_index left s)) m (floors (at_begin log s (slice_index left s))))
    (noted (at_begin log s (slice_index left s)) ∙ lows_after lows log left s (at_begin log s (slice_index left s)) refl))
