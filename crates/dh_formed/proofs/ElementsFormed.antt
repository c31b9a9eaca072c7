-- Reads and writes that are formed: their indices are numbers of the block, their bank is one of the memory's, and
-- what a read gave before is a value of the block.
use Rattle.std.proofs.Common.{◌≡◌, ℕ, ◌^◌, ◌<◌, ◌≤◌, List, Some, None, refl, sym, ap, ◌∙◌, subst, arith, length}
use Rattle.std.specs.Prelude.{Bool as Truth, true, false, [], ◌∷◌, ◌++◌, slice_get, Option}
use Rattle.std.specs.List.{AllByRecursion}
use Rattle.dh_value.specs.declared.kinds.Kind.{Kind}
use Rattle.dh_value.specs.declared.kinds.Kind.TheVariants as kind
use Rattle.dh_value.specs.Words.{IsInteger}
use Rattle.dh_tree.specs.Indices.{form_of}
use Rattle.dh_tree.specs.PlainTrees as plain
use Rattle.dh_meaning.specs.Effects.{kind_in}
use Rattle.dh_plan.specs.declared.operations.OperationForm.TheVariants.{Probe, Read, Write}
use Rattle.dh_plan.specs.Ordered.{IsBetween, offsets_taken, one_or_none, reach_takes}
use Rattle.dh_plan.specs.PlanKinds.{AreBanks, AreSteps, IsNumber, IsTruth, NamesElement, PicksBank, ReachSuits}
use Rattle.dh_expressions.specs.declared.accesses.Accesses.{Accesses}
use Rattle.dh_expressions.specs.declared.accesses.Touched.{Touched}
use Rattle.dh_expressions.specs.declared.copies.AccessAt.{AccessAt}
use Rattle.dh_expressions.specs.declared.drafts.Draft.{Draft}
use Rattle.dh_expressions.specs.declared.elements.Aim.{Aim}
use Rattle.dh_expressions.specs.declared.scenes.Lane.{Lane}
use Rattle.dh_expressions.specs.declared.scenes.Scene.{Scene}
use Rattle.dh_expressions.specs.Drafted.{Extends, Pushes}
use Rattle.dh_expressions.specs.Evaluated.{lane_guard, source_at}
use Rattle.dh_formed.specs.Formed.{AccessSuits, Agrees, AimSuits, FormedBlock, Forms, FormsPart, FormsTerm, HasKind, IsGuard, IsLaidAccess, AreNotedReads, IsNumberThere, IsRowForm, IsScope, ReadSuits, RowSuits, SharesMemory, Started}
use Rattle.dh_expressions.specs.MadeTerms.{MadeRead, MadeWrite}
use Rattle.dh_expressions.specs.Named.{banks_told}
use Rattle.dh_expressions.specs.Noted.{copied_in, copied_of, copy_or_alone, fault_in, fault_of_touched, given_by, touched_in}
use Rattle.dh_expressions.specs.Numbers.{narrowed}
use Rattle.dh_expressions.specs.Reaching.{Finds, copy_banks, place_written, reach_told}
use Rattle.dh_expressions.specs.Standings.{AccessStanding, copy_places, standing_at}
use Rattle.dh_expressions.specs.Touching.{TouchesAt}
use Rattle.dh_formed.proofs.AccessesFormed.{FormsTouch, noted_later, noted_notes, touch_notes}
use Rattle.dh_formed.proofs.CopiesFormed.{guard_later, guard_there}
use Rattle.dh_expressions.proofs.ListPlaces.{there}
use Rattle.dh_expressions.proofs.Pushing.{extends_again, extends_self, pushed_extends}
use Rattle.dh_formed.proofs.ValuesFormed.{agrees_before, forms_again, forms_none, kind_later, kind_same, pushed_forms, pushed_kind, started_later}

-- Lists of values.

-- a row is of one bank
pub row_alone : (scene : Scene) (form : plain.TermForm) (bank place : ℕ) → IsRowForm form → length (banks_told scene form bank place) ≡ 1
row_alone scene (plain.in_bank r own at row) bank place h = refl
row_alone scene (plain.number negative z) bank place h = absurd h
row_alone scene (plain.truth_value b) bank place h = absurd h
row_alone scene (plain.named r) bank place h = absurd h
row_alone scene (plain.accessed r ts) bank place h = absurd h
row_alone scene (plain.applied op left right) bank place h = absurd h
row_alone scene (plain.converted inner to) bank place h = absurd h

pub all_append : {A : Type 0} (P : A → Type 0) (xs ys : List A) → AllByRecursion P xs → AllByRecursion P ys → AllByRecursion P (xs ++ ys)
all_append P [] ys h k = k
all_append P (x ∷ xs) ys h k = (h.0, all_append P xs ys h.1 k)

pub all_weaker : {A : Type 0} (P Q : A → Type 0) (xs : List A) → ((x : A) → P x → Q x) → AllByRecursion P xs → AllByRecursion Q xs
all_weaker P Q [] so h = tt
all_weaker P Q (x ∷ xs) so h = (so x h.0, all_weaker P Q xs so h.1)

module _ (x : FormedBlock) where
  pub number_later : (old new : Draft) (n : ℕ) → Extends old new → IsNumberThere x old n → IsNumberThere x new n
  number_later old new n e (k, (whole, h)) = (k, (whole, kind_later x old new k n e h))

  number_between : (d : Draft) (n : ℕ) → IsNumberThere x d n → IsBetween x.first (length d.operations.items) n
  number_between d n (k, (whole, h)) = (h.from, h.below)

  number_is : (d : Draft) (n : ℕ) → IsNumberThere x d n → IsNumber x.plan x.first x.kinds n
  number_is d n (k, (whole, h)) = subst (λ (j : Kind). IsInteger j) (sym h.kind_is) whole

  pub aim_later : (old new : Draft) (memory : ℕ) (form : plain.TermForm) (aim : Aim) → Extends old new → AimSuits x old memory form aim → AimSuits x new memory form aim
  aim_later old new memory form aim e h = record {
    indices = all_weaker _ _ aim.indices (λ n k. number_later old new n e k) h.indices;
    offsets = all_weaker _ _ (offsets_taken aim.steps) (λ n k. number_later old new n e k) h.offsets;
    row = by aim.row h.row;
  }
    where
      by : (o : Option ℕ) → RowSuits x old memory form aim o → RowSuits x new memory form aim o
      by None k = k
      by (Some row) k = (number_later old new row e k.0, k.1)

  -- the row of an aim is a number
  row_number : (P : ℕ → Type 0) (d : Draft) (memory : ℕ) (form : plain.TermForm) (aim : Aim) (o : Option ℕ) → ((n : ℕ) → IsNumberThere x d n → P n) → RowSuits x d memory form aim o → AllByRecursion P (one_or_none o)
  row_number P d memory form aim None so h = tt
  row_number P d memory form aim (Some row) so h = (so row h.0, tt)

  guard_takes : (P : ℕ → Type 0) (d : Draft) (guard : Option ℕ) → ((n : ℕ) → HasKind x d kind.Bool n → P n) → IsGuard x d guard → AllByRecursion P (one_or_none guard)
  guard_takes P d None so h = tt
  guard_takes P d (Some g) so h = (so g h, tt)

  guard_truth : (d : Draft) (guard : Option ℕ) → IsGuard x d guard → AllByRecursion (IsTruth x.plan x.first x.kinds) (one_or_none guard)
  guard_truth d guard h = guard_takes (IsTruth x.plan x.first x.kinds) d guard (λ n k. k.kind_is) h

  guard_between : (d : Draft) (guard : Option ℕ) → IsGuard x d guard → AllByRecursion (IsBetween x.first (length d.operations.items)) (one_or_none guard)
  guard_between d guard h = guard_takes _ d guard (λ n k. (k.from, k.below)) h

  -- Accesses that these values name.
  module _ (d : Draft) (memory : ℕ) (form : plain.TermForm) (aim : Aim) (suits : AimSuits x d memory form aim) (small : memory < 2 ^ 32) (within : memory < length x.plan.table) where
    narrow_is : narrowed memory ≡ memory
    narrow_is = omega (arith, small)

    reach_between : (banks : List (ℕ × ℕ)) → AllByRecursion (IsBetween x.first (length d.operations.items)) (reach_takes (reach_told memory aim banks))
    reach_between banks =
        all_append _ aim.indices (offsets_taken aim.steps ++ one_or_none aim.row) (all_weaker _ _ aim.indices (λ n k. number_between d n k) suits.indices)
        (all_append _ (offsets_taken aim.steps) (one_or_none aim.row) (all_weaker _ _ (offsets_taken aim.steps) (λ n k. number_between d n k) suits.offsets)
        (row_number _ d memory form aim aim.row (λ n k. number_between d n k) suits.row))

    element_named : (banks : List (ℕ × ℕ)) → NamesElement x.plan x.first x.kinds (reach_told memory aim banks) aim.row
    element_named banks = by aim.row suits.row
      where
        by : (o : Option ℕ) → RowSuits x d memory form aim o → NamesElement x.plan x.first x.kinds (reach_told memory aim banks) o
        by None h = (h.0, (h.1.0, subst (λ (m : ℕ). AreSteps x.plan x.first x.kinds m aim.steps h.0) (sym narrow_is) h.1.1))
        by (Some row) h = h.1.0

    reach_suits : (banks : List (ℕ × ℕ)) → AreBanks x.plan x.first x.kinds memory banks → ReachSuits x.plan x.first x.kinds (reach_told memory aim banks)
    reach_suits banks are = record {
      memory = subst (λ (m : ℕ). m < length x.plan.table) (sym narrow_is) within;
      banks = subst (λ (m : ℕ). AreBanks x.plan x.first x.kinds m banks) (sym narrow_is) are;
      indices = all_append _ aim.indices (offsets_taken aim.steps) (all_weaker _ _ aim.indices (λ n k. number_is d n k) suits.indices)
          (all_weaker _ _ (offsets_taken aim.steps) (λ n k. number_is d n k) suits.offsets);
      select = tt;
      row = row_number _ d memory form aim aim.row (λ n k. number_is d n k) suits.row;
      element = element_named banks;
    }

    no_banks : AreBanks x.plan x.first x.kinds memory []
    no_banks = record { there = tt; once = λ i j b c at. absurd (lost i b at) }
      where
        lost : (i : ℕ) (b : ℕ × ℕ) → slice_get [] i ≡ Some b → ⊥
        lost i b e = cc

    picks : (banks : List (ℕ × ℕ)) → (IsRowForm form → length banks ≡ 1) → PicksBank x.plan x.first x.kinds (reach_told memory aim banks) aim.row None
    picks banks alone = by aim.row suits.row
      where
        by : (o : Option ℕ) → RowSuits x d memory form aim o → PicksBank x.plan x.first x.kinds (reach_told memory aim banks) o None
        by None h = tt
        by (Some row) h = alone h.1.1

    pub probe_forms : (e : Draft) (n fault : ℕ) (guard : Option ℕ) → Pushes d e n guard (Probe (reach_told memory aim []) fault) → IsGuard x d guard → fault < length x.plan.faults → Forms x d e
    probe_forms e n fault guard p on known =
        pushed_forms d e n guard _ p x (record {
          takes = all_append _ (one_or_none guard) _ (guard_between d guard on) (reach_between []);
          suits = record { guard = guard_truth d guard on; form = (reach_suits [] no_banks, (refl, known)) };
        })

    pub write_pushed : (e : Draft) (n value : ℕ) (banks : List (ℕ × ℕ)) (guard : Option ℕ) → Pushes d e n guard (Write (reach_told memory aim banks) value) → IsGuard x d guard
        → AreBanks x.plan x.first x.kinds memory banks → (IsRowForm form → length banks ≡ 1) → HasKind x d (kind_in x.plan.table memory) value → Forms x d e
    write_pushed e n value banks guard p on are alone h =
        pushed_forms d e n guard _ p x (record {
          takes = all_append _ (one_or_none guard) _ (guard_between d guard on) ((h.from, h.below), reach_between banks);
          suits = record {
            guard = guard_truth d guard on;
            form = (reach_suits banks are, (picks banks alone, h.kind_is ∙ ap (λ m. kind_in x.plan.table m) (sym narrow_is)));
          };
        })

    read_pushed : (e : Draft) (n : ℕ) (banks : List (ℕ × ℕ)) (guard : Option ℕ) → Pushes d e n guard (Read (reach_told memory aim banks)) → IsGuard x d guard
        → AreBanks x.plan x.first x.kinds memory banks → (IsRowForm form → length banks ≡ 1) → Forms x d e
    read_pushed e n banks guard p on are alone =
        pushed_forms d e n guard _ p x (record {
          takes = all_append _ (one_or_none guard) _ (guard_between d guard on) (reach_between banks);
          suits = record { guard = guard_truth d guard on; form = (reach_suits banks are, picks banks alone) };
        })

    -- a read that was found, or is added
    pub found_forms : (scene : Scene) (e : Draft) (copy : AccessAt) (found : Option ℕ) (v : ℕ) → Finds scene form d e memory aim copy found v → IsGuard x d copy.guard
        → AreBanks x.plan x.first x.kinds memory (copy_banks scene form copy) → Forms x d e
    found_forms scene e copy (Some n) v h on are = forms_none x d e h.0
    found_forms scene e copy None v h on are = read_pushed e v (copy_banks scene form copy) copy.guard h on are (row_alone scene form copy.bank copy.place)

    pub found_kind : (scene : Scene) (e : Draft) (copy : AccessAt) (found : Option ℕ) (v : ℕ) → Finds scene form d e memory aim copy found v → IsGuard x d copy.guard → Agrees x e → Started x d
        → ((n : ℕ) → found ≡ Some n → HasKind x d (kind_in x.plan.table memory) n) → HasKind x e (kind_in x.plan.table memory) v
    found_kind scene e copy (Some n) v h on a s so = subst (λ (m : ℕ). HasKind x e (kind_in x.plan.table memory) m) (sym h.1) (subst (λ (k : Draft). HasKind x k (kind_in x.plan.table memory) n) (sym h.0) (so n refl))
    found_kind scene e copy None v h on a s so =
        kind_same x e _ (kind_in x.plan.table memory) v (ap (λ m. kind_in x.plan.table m) narrow_is)
        (pushed_kind d e v copy.guard _ h x (all_append _ (one_or_none copy.guard) _ (guard_between d copy.guard on) (reach_between (copy_banks scene form copy))) a s)

pub found_extends : (scene : Scene) (form : plain.TermForm) (d e : Draft) (memory : ℕ) (aim : Aim) (copy : AccessAt) (found : Option ℕ) (v : ℕ) → Finds scene form d e memory aim copy found v → Extends d e
found_extends scene form d e memory aim copy (Some n) v h = subst (λ (k : Draft). Extends d k) (sym h.0) (extends_self d)
found_extends scene form d e memory aim copy None v h = pushed_extends d e v copy.guard _ h

-- the access at this path, of those that are laid
module _ (x : FormedBlock) (d : Draft) (a : Accesses) (s : AccessStanding) (number path : ℕ) (t : Touched) (is : touched_in a number ≡ Some t) (laid : IsLaidAccess x d s t) (within : path < length s.guards) where
  found_copy : (c : AccessAt) × (slice_get t.copies path ≡ Some c)
  found_copy = there t.copies path (subst (λ (l : ℕ). path < l) (sym laid.long) within)

  copy_is : copied_in a number path ≡ found_copy.0
  copy_is = ap (λ o. copied_of o path) is ∙ ap (λ o. copy_or_alone path o) found_copy.1

  pub copy_bank : (copied_in a number path).bank ≡ s.bank path
  copy_bank = ap (λ (c : AccessAt). c.bank) copy_is ∙ (laid.each path found_copy.0 found_copy.1).bank_is

  pub copy_place : (copied_in a number path).place ≡ copy_places s path
  copy_place = ap (λ (c : AccessAt). c.place) copy_is ∙ (laid.each path found_copy.0 found_copy.1).place_is

  pub copy_guard : IsGuard x d (copied_in a number path).guard
  copy_guard = subst (λ (c : AccessAt). IsGuard x d c.guard) (sym copy_is) (laid.each path found_copy.0 found_copy.1).guard

  pub fault_known : fault_in a number < length d.faults
  fault_known = subst (λ (n : ℕ). n < length d.faults) (sym (ap fault_of_touched is)) laid.fault

-- The parts of a read or a write.
module _ (scene : Scene) (lane : Lane) (current : List (Option ℕ)) (access : plain.Term) (memory : ℕ) (aim : Aim) where
  abbrev stands : (writes : Truth) → AccessStanding
  stands writes = standing_at scene lane.around memory (place_written access) (form_of access) writes

  low : (writes : Truth) (p : ℕ) → (stands writes).leader p ≤ p
  low writes p = omega arith

  -- what is read or written suits
  abbrev pub WhereRead : Draft → (k : Kind) → FormedBlock → Type 0
  WhereRead d k x = AimSuits x d memory (form_of access) aim × ReadSuits x scene lane memory aim.number (place_written access) (form_of access) k

  abbrev pub WhereWritten : Draft → (value : ℕ) → FormedBlock → Type 0
  WhereWritten d value x =
      (AimSuits x d memory (form_of access) aim × AccessSuits x scene lane memory aim.number (place_written access) (form_of access) true) × HasKind x d (kind_in x.plan.table memory) value

  module _ (old first second new : Draft) (before middle : Accesses) (writes : Truth)
      (t : TouchesAt scene lane.around (stands writes) old first before middle aim.number)
      (p : Pushes first second (length first.operations.items) (lane_guard lane) (Probe (reach_told memory aim []) (fault_in middle aim.number)))
      (more : Extends second new) where
    pushed : Extends first second
    pushed = pushed_extends first second _ _ _ p

    both : Extends first new
    both = extends_again first second new pushed more

    whole : Extends old new
    whole = extends_again old first new t.extends both

    -- in a block in which the access suits
    module _ (x : FormedBlock) (agrees : Agrees x new) (started : Started x old) (scope : IsScope x old scene lane current) (noted : AreNotedReads x old before) (aimed : AimSuits x old memory (form_of access) aim)
        (suits : AccessSuits x scene lane memory aim.number (place_written access) (form_of access) writes) where
      agrees1 : Agrees x first
      agrees1 = agrees_before x first new both agrees

      touch : FormsTouch x old first middle (stands writes) aim.number
      touch = touch_notes x scene lane.around (stands writes) old first before middle aim.number (low writes) scope.few scope.scopes scope.low t agrees1 started scope.guards memory suits.site noted

      laid : IsLaidAccess x first (stands writes) touch.touched
      laid = touch.notes.laid aim.number touch.touched (record { memory = memory; standing = stands writes }) suits.site touch.there

      aimed1 : AimSuits x first memory (form_of access) aim
      aimed1 = aim_later x old first memory (form_of access) aim t.extends aimed

      aimed2 : AimSuits x second memory (form_of access) aim
      aimed2 = aim_later x first second memory (form_of access) aim pushed aimed1

      guard1 : IsGuard x first (lane_guard lane)
      guard1 = guard_later x old first _ t.extends (guard_there x old lane.around.guards.now lane.number scope.guards)

      guard2 : IsGuard x second (lane_guard lane)
      guard2 = guard_later x first second _ pushed guard1

      fault1 : fault_in middle aim.number < length x.plan.faults
      fault1 =
          let f = fault_known x first middle (stands writes) aim.number lane.number touch.touched touch.there laid scope.within in
          let g = agrees1.faults in
          omega (arith, f, g)

      probe : Forms x first second
      probe = probe_forms x first memory (form_of access) aim aimed1 suits.small suits.memory_there second _ (fault_in middle aim.number) (lane_guard lane) p guard1 fault1

      copied : IsGuard x second (copied_in middle aim.number lane.number).guard
      copied = guard_later x first second _ pushed (copy_guard x first middle (stands writes) aim.number lane.number touch.touched touch.there laid scope.within)

      banks : AreBanks x.plan x.first x.kinds memory (copy_banks scene (form_of access) (copied_in middle aim.number lane.number))
      banks =
          subst (λ (b : ℕ). AreBanks x.plan x.first x.kinds memory (banks_told scene (form_of access) b (copied_in middle aim.number lane.number).place)) (sym (copy_bank x first middle (stands writes) aim.number lane.number touch.touched touch.there laid scope.within))
          (subst (λ (p : ℕ). AreBanks x.plan x.first x.kinds memory (banks_told scene (form_of access) ((stands writes).bank lane.number) p)) (sym (copy_place x first middle (stands writes) aim.number lane.number touch.touched touch.there laid scope.within)) suits.banks)

      front : Forms x old second
      front = forms_again x old first second pushed touch.forms probe

      started2 : Started x second
      started2 = started_later x first second pushed (started_later x old first t.extends started)

  -- what a read gave before is a value of the block
  source_kind : (x : FormedBlock) (d : Draft) (a : Accesses) (number path leader n : ℕ) (standing : AccessStanding) → x.sites number ≡ Some (record { memory = memory; standing = standing })
      → ((earlier : ℕ) → slice_get scene.shares.now number ≡ Some (Some earlier) → SharesMemory x memory earlier) → AreNotedReads x d a
      → given_by a (source_at (slice_get scene.shares.now number) number path leader) ≡ Some n → HasKind x d (kind_in x.plan.table memory) n
  source_kind x d a number path leader n standing site shares noted is = by (slice_get scene.shares.now number) refl is
    where
      by : (o : Option (Option ℕ)) → slice_get scene.shares.now number ≡ o → given_by a (source_at o number path leader) ≡ Some n → HasKind x d (kind_in x.plan.table memory) n
      by None e is = absurd (cc)
      by (Some None) e is = noted.given number leader n (record { memory = memory; standing = standing }) site is
      by (Some (Some earlier)) e is =
          let s = shares earlier e in
          subst (λ (m : ℕ). HasKind x d (kind_in x.plan.table m) n) s.same (noted.given earlier path n s.site s.there is)

  module _ (old new : Draft) (before after : Accesses) (v : ℕ) (k : Kind) (m : MadeRead scene lane access memory aim old new before after v) where
    abbrev copy : AccessAt
    copy = copied_in m.middle aim.number lane.number

    abbrev source : Option ℕ
    source = given_by m.middle (source_at (slice_get scene.shares.now aim.number) aim.number lane.number copy.leader)

    found : Extends m.second new
    found = found_extends scene (form_of access) m.second new memory aim copy source v m.finds

    module _ (x : FormedBlock) (agrees : Agrees x new) (started : Started x old) (scope : IsScope x old scene lane current) (noted : AreNotedReads x old before) (w : WhereRead old k x) where
      kind_there : HasKind x new (kind_in x.plan.table memory) v
      kind_there =
          found_kind x m.second memory (form_of access) aim (aimed2 old m.first m.second new before m.middle false m.touches m.probes found x agrees started scope noted w.0 w.1.access) w.1.access.small w.1.access.memory_there scene new
          copy source v m.finds (copied old m.first m.second new before m.middle false m.touches m.probes found x agrees started scope noted w.0 w.1.access) agrees
          (started2 old m.first m.second new before m.middle false m.touches m.probes found x agrees started scope noted w.0 w.1.access)
          (λ n is. source_kind x m.second m.middle aim.number lane.number copy.leader n (stands false) w.1.access.site w.1.shares (noted_later x m.first m.second m.middle (pushed old m.first m.second new before m.middle false m.touches m.probes found)
          (touch old m.first m.second new before m.middle false m.touches m.probes found x agrees started scope noted w.0 w.1.access).notes) is)

      read_all : Forms x old new
      read_all =
          forms_again x old m.second new found (front old m.first m.second new before m.middle false m.touches m.probes found x agrees started scope noted w.0 w.1.access)
          (found_forms x m.second memory (form_of access) aim (aimed2 old m.first m.second new before m.middle false m.touches m.probes found x agrees started scope noted w.0 w.1.access) w.1.access.small w.1.access.memory_there scene new
          copy source v m.finds
          (copied old m.first m.second new before m.middle false m.touches m.probes found x agrees started scope noted w.0 w.1.access)
          (banks old m.first m.second new before m.middle false m.touches m.probes found x agrees started scope noted w.0 w.1.access))

      read_notes : AreNotedReads x new after
      read_notes =
          noted_notes x new m.middle after aim.number lane.number v memory (stands false) m.notes w.1.access.site kind_there
          (noted_later x m.first new m.middle (both old m.first m.second new before m.middle false m.touches m.probes found)
          (touch old m.first m.second new before m.middle false m.touches m.probes found x agrees started scope noted w.0 w.1.access).notes)

    pub read_forms : FormsTerm scene lane current old new before after v (WhereRead old k) k
    read_forms = record {
      part = record {
        extends = whole old m.first m.second new before m.middle false m.touches m.probes found;
        forms = λ x a s sc no w. read_all x a s sc no w;
        notes = λ x a s sc no w. read_notes x a s sc no w;
      };
      gives = λ x a s sc no w. kind_same x new _ k v w.1.kind_is (kind_there x a s sc no w);
    }

  module _ (old new : Draft) (before after : Accesses) (value : ℕ) (m : MadeWrite scene lane access memory aim value old new before after) where
    written : Extends m.second new
    written = pushed_extends m.second new m.number _ _ m.writes

    module _ (x : FormedBlock) (agrees : Agrees x new) (started : Started x old) (scope : IsScope x old scene lane current) (noted : AreNotedReads x old before) (w : WhereWritten old value x) where
      write_all : Forms x old new
      write_all =
          forms_again x old m.second new written (front old m.first m.second new before after true m.touches m.probes written x agrees started scope noted w.0.0 w.0.1)
          (write_pushed x m.second memory (form_of access) aim (aimed2 old m.first m.second new before after true m.touches m.probes written x agrees started scope noted w.0.0 w.0.1) w.0.1.small w.0.1.memory_there new
          m.number value (copy_banks scene (form_of access) (copied_in after aim.number lane.number)) (lane_guard lane) m.writes
          (guard2 old m.first m.second new before after true m.touches m.probes written x agrees started scope noted w.0.0 w.0.1)
          (banks old m.first m.second new before after true m.touches m.probes written x agrees started scope noted w.0.0 w.0.1)
          (row_alone scene (form_of access) (copied_in after aim.number lane.number).bank (copied_in after aim.number lane.number).place)
          (kind_later x old m.second _ value (extends_again old m.first m.second (m.touches).extends (pushed old m.first m.second new before after true m.touches m.probes written)) w.1))

      write_notes : AreNotedReads x new after
      write_notes =
          noted_later x m.first new after (both old m.first m.second new before after true m.touches m.probes written)
          (touch old m.first m.second new before after true m.touches m.probes written x agrees started scope noted w.0.0 w.0.1).notes

    pub write_forms : FormsPart scene lane current old new before after (WhereWritten old value)
    write_forms = record {
      extends = whole old m.first m.second new before after true m.touches m.probes written;
      forms = λ x a s sc no w. write_all x a s sc no w;
      notes = λ x a s sc no w. write_notes x a s sc no w;
    }
