-- Levels, slot by slot, as steps change what is left and the logs.
use Rattle.std.proofs.Common.{◌≡◌, ℕ, ◌-◌, ◌<◌, ◌==◌, true, false, List, [], ◌∷◌, ◌++◌, length, get_or, reverse, slice_index, slice_set, if◌then◌else◌, ap, sym, ◌∙◌, subst, ◌⊎◌, inl, inr}
use Rattle.std.specs.List.{AllByRecursion}
use Rattle.std.proofs.lemmas.Bool.{cases_Bool}
use Rattle.std.proofs.lemmas.List.{reverse-append}
use Rattle.dh_ports.specs.declared.marks.SlotMark.{SlotMark}
use Rattle.dh_ports.specs.declared.levels.PartFrame.{PartFrame}
use Rattle.dh_ports.specs.Logs.{at_begin, least, AreSlotMarks, marks_now}
use Rattle.dh_ports.specs.Levels.{Level, slot_level, floor, level_of, floors_of, taken, begun, kept_back, at_rest, settled_slot_level, settled_in, gone_back, gone_in, FrameKept}
use Rattle.dh_ports.proofs.LogFacts.{mark, any_default, no_marks}
use Rattle.dh_ports.proofs.MarkedLevels.{less_level, back_level}

-- the level where what was left at the part's begin is known
abbrev level_with : List SlotMark → List PartFrame → (slot now base : ℕ) → Level
level_with lows outer slot now base = slot_level now base (least lows slot base) (floors_of (reverse outer) slot base)

-- so much less of a slot
pub taken_level : (left : List ℕ) (log log1 lows : List SlotMark) (outer : List PartFrame) (k m x v s : ℕ) → k < length left → x ≡ get_or left k x → v ≡ x - m → log1 ≡ log ++ mark k x ∷ []
    → level_of (slice_set left k v) log1 lows outer s ≡ taken k m s (level_of left log lows outer s)
taken_level left log log1 lows outer k m x v s inside is less more =
    let there : x ≡ slice_index left k = is ∙ any_default left k x 0 inside in
    less_level left log log1 lows (floors_of (reverse outer) s) k v s inside (more ∙ ap (λ n. log ++ mark k n ∷ []) there) m (less ∙ ap (λ n. n - m) there)

-- nothing is taken of a slot of which nothing is left, or where nothing is to be taken
pub taken_none : (l : Level) (k m s : ℕ) → ((k == s) ≡ true → l.now ≡ l.now - m) → l ≡ taken k m s l
taken_none l k m s none = by_test (cases_Bool (k == s))
  where
    by_test : ((k == s) ≡ true) ⊎ ((k == s) ≡ false) → l ≡ taken k m s l
    by_test (inl e) = ap (λ n. slot_level n l.base l.low l.outer) (none e) ∙ sym (ap (λ t. if t then slot_level (l.now - m) l.base l.low l.outer else l) e)
    by_test (inr e) = sym (ap (λ t. if t then slot_level (l.now - m) l.base l.low l.outer else l) e)

-- a part is given back
pub kept_back_level : (left left1 : List ℕ) (log log1 lows lows1 : List SlotMark) (outer : List PartFrame) (s : ℕ) → slice_index left1 s ≡ at_begin log s (slice_index left s) → log1 ≡ [] → ((n : ℕ) → least lows1 s n ≡ least (lows ++ marks_now left log) s n)
    → level_of left1 log1 lows1 outer s ≡ kept_back (level_of left log lows outer s)
kept_back_level left left1 log log1 lows lows1 outer s undone empty noted = back_level left left1 log log1 lows lows1 (floors_of (reverse outer) s) s undone empty noted

pub kept_back_kept : (n n1 : ℕ) (log log1 lows lows1 : List SlotMark) (outer : List PartFrame) → n1 ≡ n → log1 ≡ [] → (AreSlotMarks n log → AreSlotMarks n lows → AreSlotMarks n lows1) → AreSlotMarks n log → AreSlotMarks n lows → AllByRecursion (FrameKept n) outer
    → AreSlotMarks n1 log1 × (AreSlotMarks n1 lows1 × AllByRecursion (FrameKept n1) outer)
kept_back_kept n n1 log log1 lows lows1 outer long empty noted x y z =
    subst (λ (m : ℕ). AreSlotMarks m log1 × (AreSlotMarks m lows1 × AllByRecursion (FrameKept m) outer)) (sym long) (subst (λ (l : List SlotMark). AreSlotMarks n l) (sym empty) (no_marks n), (noted x y, z))

-- parts begin
pub begun_level : (left : List ℕ) (log lows log1 lows1 : List SlotMark) (outer outer1 : List PartFrame) (f : PartFrame) (s : ℕ) → log1 ≡ [] → lows1 ≡ [] → outer1 ≡ outer ++ f ∷ [] → f.log.items ≡ log → f.lows.items ≡ lows
    → level_of left log1 lows1 outer1 s ≡ begun (level_of left log lows outer s)
begun_level left log lows log1 lows1 outer outer1 f s e0 e1 more e2 e3 =
    ap (λ l. level_of left l lows1 outer1 s) e0 ∙ (ap (λ l. level_of left [] l outer1 s) e1
    ∙ (ap (λ o. slot_level (slice_index left s) (slice_index left s) (slice_index left s) (floors_of o s (slice_index left s))) (ap reverse more ∙ reverse-append outer (f ∷ []))
    ∙ (ap (λ l. slot_level (slice_index left s) (slice_index left s) (slice_index left s) (floor (at_begin l s (slice_index left s)) (least f.lows.items s (at_begin l s (slice_index left s))) ∷ floors_of (reverse outer) s (at_begin l s (slice_index left s)))) e2
    ∙ ap (λ l. slot_level (slice_index left s) (slice_index left s) (slice_index left s) (floor (at_begin log s (slice_index left s)) (least l s (at_begin log s (slice_index left s))) ∷ floors_of (reverse outer) s (at_begin log s (slice_index left s)))) e3)))

pub all_more : {X : Type 0} (P : X → Type 0) (xs : List X) (x : X) → AllByRecursion P xs → P x → AllByRecursion P (xs ++ x ∷ [])
all_more P [] x a p = (p, tt)
all_more P (y ∷ xs) x a p = (a.0, all_more P xs x a.1 p)

pub all_less : {X : Type 0} (P : X → Type 0) (xs : List X) (x : X) → AllByRecursion P (xs ++ x ∷ []) → AllByRecursion P xs × P x
all_less P [] x a = (tt, a.0)
all_less P (y ∷ xs) x a = let r = all_less P xs x a.1 in ((a.0, r.0), r.1)

-- parts end
pub settled_level : (left left1 : List ℕ) (log lows log1 : List SlotMark) (outer outer1 : List PartFrame) (f : PartFrame) (s : ℕ) → outer ≡ outer1 ++ f ∷ []
    → slice_index left1 s ≡ least lows s (slice_index left s) → at_begin log1 s (slice_index left1 s) ≡ at_begin f.log.items s (slice_index left s)
    → at_rest (level_of left log lows outer s)
    → level_of left1 log1 f.lows.items outer1 s ≡ settled_slot_level (level_of left log lows outer s)
settled_level left left1 log lows log1 outer outer1 f s last lowered logged rest =
    ap (λ b. level_with f.lows.items outer1 s (slice_index left1 s) b) (logged ∙ ap (λ n. at_begin f.log.items s n) rest)
    ∙ (ap (λ n. level_with f.lows.items outer1 s n (at_begin f.log.items s (at_begin log s (slice_index left s)))) (lowered ∙ ap (λ n. least lows s n) rest)
    ∙ sym (ap (λ o. settled_in (slot_level (slice_index left s) (at_begin log s (slice_index left s)) (least lows s (at_begin log s (slice_index left s))) (floors_of o s (at_begin log s (slice_index left s)))) (floors_of o s (at_begin log s (slice_index left s)))) (ap reverse last ∙ reverse-append outer1 (f ∷ []))))

pub settled_none : (left : List ℕ) (log lows : List SlotMark) (outer : List PartFrame) (s : ℕ) → outer ≡ [] → level_of left log lows outer s ≡ settled_slot_level (level_of left log lows outer s)
settled_none left log lows outer s none = sym (ap (λ o. settled_in (level_of left log lows outer s) (floors_of (reverse o) s (at_begin log s (slice_index left s)))) none)

-- a part is gone
pub gone_level : (left left1 : List ℕ) (log lows : List SlotMark) (outer outer1 : List PartFrame) (f : PartFrame) (s : ℕ) → outer ≡ outer1 ++ f ∷ []
    → slice_index left1 s ≡ at_begin log s (slice_index left s)
    → level_of left1 f.log.items f.lows.items outer1 s ≡ gone_back (level_of left log lows outer s)
gone_level left left1 log lows outer outer1 f s last undone =
    ap (λ n. level_with f.lows.items outer1 s n (at_begin f.log.items s n)) undone
    ∙ sym (ap (λ o. gone_in (slot_level (slice_index left s) (at_begin log s (slice_index left s)) (least lows s (at_begin log s (slice_index left s))) (floors_of o s (at_begin log s (slice_index left s)))) (floors_of o s (at_begin log s (slice_index left s)))) (ap reverse last ∙ reverse-append outer1 (f ∷ [])))

pub gone_none : (left left1 : List ℕ) (log lows log1 : List SlotMark) (outer outer1 : List PartFrame) (s : ℕ) → outer ≡ [] → outer1 ≡ [] → log1 ≡ []
    → slice_index left1 s ≡ at_begin log s (slice_index left s)
    → level_of left1 log1 lows outer1 s ≡ gone_back (level_of left log lows outer s)
gone_none left left1 log lows log1 outer outer1 s none none1 empty undone =
    ap (λ o. level_of left1 log1 lows o s) none1 ∙ (ap (λ l. level_of left1 l lows [] s) empty ∙ (ap (λ n. slot_level n n (least lows s n) []) undone
    ∙ sym (ap (λ o. gone_in (slot_level (slice_index left s) (at_begin log s (slice_index left s)) (least lows s (at_begin log s (slice_index left s))) (floors_of (reverse o) s (at_begin log s (slice_index left s)))) (floors_of (reverse o) s (at_begin log s (slice_index left s)))) none)))
