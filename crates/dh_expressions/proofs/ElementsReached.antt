-- Reads and writes at one path. A probe tells the fault that the program has there. A read that was given before
-- means what its source means; another is done, since the guard of its leader holds, and gives what is there.
use Rattle.std.proofs.Common.{◌≡◌, ℕ, suc, ◌^◌, ◌<◌, Bool, true, false, List, [], ◌∷◌, ◌++◌, Some, None, refl, sym, ap, ◌∙◌, subst, arith, length, drop, append_assoc}
use Rattle.std.specs.Prelude.{if◌then◌else◌, slice_get, take, unsigned_abs, Option, ℤ}
use Rattle.std.proofs.lemmas.List.{append-nil}
use Rattle.dh_base.specs.declared.outcomes.FaultKind.{FaultKind}
use Rattle.dh_base.specs.declared.outcomes.FaultKind.TheVariants.{OutOfRange}
use Rattle.dh_base.specs.declared.places.Place.{Place}
use Rattle.dh_value.specs.declared.words.Word.{Word}
use Rattle.dh_value.specs.Words as words
use Rattle.dh_value.specs.Words.{with_bits}
use Rattle.dh_tree.specs.declared.tables.MemEntry.{MemEntry}
use Rattle.dh_tree.specs.declared.trees.expressions.Ref.{Ref}
use Rattle.dh_tree.specs.Elements.{Spot, dims_at, spot_in_bank}
use Rattle.dh_tree.specs.PlainTrees as plain
use Rattle.dh_tree.specs.Seen.{program_seen}
use Rattle.dh_meaning.specs.Core.{CoreTerm, CoreTerms, Target, by_indices, by_row, by_views, read}
use Rattle.dh_meaning.specs.Effects.{bits_at, is_row, kind_in, read_made, spot_by_indices, spot_by_row, spot_if_inside, spot_reached, value_of_term, values_of, write_made}
use Rattle.dh_meaning.specs.Paths.{Path}
use Rattle.dh_meaning.specs.Ways.{WayStep as ViewStep}
use Rattle.dh_viewing.specs.declared.bank_sets.BankSet.{BankSet}
use Rattle.dh_viewing.specs.ReachedBanks.{is_in}
use Rattle.dh_plan.specs.declared.operations.OperationForm.{OperationForm}
use Rattle.dh_plan.specs.declared.operations.OperationForm.TheVariants.{Probe, Write}
use Rattle.dh_plan.specs.declared.operations.Reach as plans
use Rattle.dh_plan.specs.declared.operations.ReachStep.{ReachStep}
use Rattle.dh_plan.specs.Blocks.{BlockEvent, fails, puts, block_events, fails_outside, first_listed_bank, operation_form_events, guarded, is_on, puts_inside, spot_in_row, spot_of_reach}
use Rattle.dh_plan.specs.Passages.{indices_behind}
use Rattle.dh_plan.proofs.ViewsPassed.{passed}
use Rattle.dh_expressions.specs.declared.accesses.Accesses.{Accesses}
use Rattle.dh_expressions.specs.declared.accesses.Touched.{Touched}
use Rattle.dh_expressions.specs.declared.copies.AccessAt.{AccessAt}
use Rattle.dh_expressions.specs.declared.drafts.Draft.{Draft}
use Rattle.dh_expressions.specs.declared.elements.Aim.{Aim}
use Rattle.dh_expressions.specs.declared.scenes.Lane.{Lane}
use Rattle.dh_expressions.specs.declared.scenes.Scene.{Scene}
use Rattle.dh_expressions.specs.Copying.{IsCopy}
use Rattle.dh_expressions.specs.Drafted.{BlockBegun, Extends, FitsStep, Pushes, BlockStep, Tale, fails_to_hold, fault_told, form_word_shown, holds, put, word_shown, tale, tales_told, told_block}
use Rattle.dh_expressions.specs.Evaluated.{IsSited, Knows, NamesSmallBank, SourceMeans, View, begun_of, lane_guard, lane_path, numbers_shown, source_at}
use Rattle.dh_expressions.specs.Named.{banks_below, known_in, way_named}
use Rattle.dh_expressions.specs.Noted.{Notes, copied_in, copied_of, copy_or_alone, fault_in, fault_of_touched, given_by, touched_in}
use Rattle.dh_expressions.specs.Numbers.{narrowed}
use Rattle.dh_expressions.specs.ReachedBanks.{bank_by}
use Rattle.dh_expressions.specs.Reaching.{AimsAt, Finds, FormHasTarget, IsAimedAccess, IsRead, ReadsElement, RowIs, Tells, copy_banks, reach_at, reach_told, steps_shown}
use Rattle.dh_expressions.specs.Standings.{IsTouched, AccessStanding, copy_places, standing_at}
use Rattle.dh_expressions.specs.Touching.{IsNew, TouchesAt}
use Rattle.dh_expressions.proofs.AccessesKept.{noted_knows, touched_knows}
use Rattle.dh_expressions.proofs.ListPlaces.{place_within, some_same, there}
use Rattle.dh_expressions.proofs.Pushing.{begun_later, extends_again, extends_self, fits_before, pushed_events, pushed_extends, pushed_there}

-- Tales of operations.

told_behind : (named : List (FaultKind × Place)) (xs ys : List BlockEvent) → told_block named (xs ++ ys) ≡ told_block named xs ++ told_block named ys
told_behind named [] ys = refl
told_behind named (fails fault ∷ xs) ys = ap (λ (ts : List Tale). fault_told (slice_get named fault) ∷ ts) (told_behind named xs ys)
told_behind named (puts spot bits ∷ xs) ys = ap (λ (ts : List Tale). put spot bits ∷ ts) (told_behind named xs ys)

abbrev no_events : List BlockEvent
no_events = []

module _ (d e : Draft) (number : ℕ) (guard : Option ℕ) (form : OperationForm) (p : Pushes d e number guard form) where
  pushed_tale : (x : BlockStep) → BlockBegun x d → tale x e ≡ tale x d ++ told_block x.named (if is_on x.first x.words guard then operation_form_events x.start x.first x.words form else [])
  pushed_tale x b =
      ap (λ (es : List BlockEvent). told_block x.named es) (pushed_events d e number guard form p x b)
      ∙ (told_behind x.named (block_events x.start x.first x.words (drop x.first d.operations.items)) _
      ∙ ap (λ (es : List BlockEvent). tale x d ++ told_block x.named es) (append-nil _))

  pub pushed_on : (x : BlockStep) → BlockBegun x d → holds x guard → tale x e ≡ tale x d ++ told_block x.named (operation_form_events x.start x.first x.words form)
  pushed_on x b on = pushed_tale x b ∙ ap (λ (t : Bool). tale x d ++ told_block x.named (if t then operation_form_events x.start x.first x.words form else [])) on

  pub pushed_off : (x : BlockStep) → BlockBegun x d → fails_to_hold x guard → tale x e ≡ tale x d
  pushed_off x b off = pushed_tale x b ∙ (ap (λ (t : Bool). tale x d ++ told_block x.named (if t then operation_form_events x.start x.first x.words form else [])) off ∙ append-nil (tale x d))

  pub pushed_silent : (x : BlockStep) → BlockBegun x d → operation_form_events x.start x.first x.words form ≡ [] → tale x e ≡ tale x d
  pushed_silent x b none =
      pushed_tale x b
      ∙ (ap (λ (es : List BlockEvent). tale x d ++ told_block x.named (if is_on x.first x.words guard then es else [])) none
      ∙ (ap (λ (es : List BlockEvent). tale x d ++ told_block x.named es) (nothing (is_on x.first x.words guard)) ∙ append-nil (tale x d)))
    where
      nothing : (t : Bool) → (if t then no_events else no_events) ≡ no_events
      nothing true = refl
      nothing false = refl

  -- a word that is guarded by what holds
  pub pushed_word : (x : BlockStep) → FitsStep x e → BlockBegun x d → holds x guard → word_shown x number ≡ form_word_shown x number form
  pushed_word x f b on =
      f.solves number (record { guard = guard; form = form }) (let m = p.number_is in omega (arith, m, b)) (pushed_there d e number guard form p)
      ∙ ap (λ (t : Bool). guarded t (form_word_shown x number form)) on

-- Banks of a set, one after the other.
pub banks_more : (s : BankSet) (place n : ℕ) (now new : List (ℕ × ℕ)) → now ≡ banks_below s place n → new ≡ (if is_in s n then now ++ (n, place) ∷ [] else now) → new ≡ banks_below s place (suc n)
banks_more s place n now new is added = added ∙ ap (λ (l : List (ℕ × ℕ)). if is_in s n then l ++ (n, place) ∷ [] else l) is

-- Where an access leads.
module _ (lane : Lane) (v : View) (aim : Aim) (memory : ℕ) (banks : List (ℕ × ℕ)) (place : Place) where
  abbrev planned : plans.Reach
  planned = reach_told memory aim banks

  abbrev meant : Target → Option Spot
  meant target = spot_reached (begun_of v.step) v.variables (lane_path lane) (reach_at place memory aim.number) target

  abbrev led : Option Spot
  led = spot_of_reach v.step.start v.step.first v.step.words planned

  kept : memory < 2 ^ 32 → narrowed memory ≡ memory
  kept small = omega (arith, small)

  led_by_indices : (ts : CoreTerms) → memory < 2 ^ 32 → AimsAt lane v aim (by_indices ts) → led ≡ meant (by_indices ts)
  led_by_indices ts small aims =
      ap (λ row. spot_in_row v.step.start v.step.first v.step.words planned row) aims.1.1
      ∙ (ap (λ (ss : List ReachStep). spot_if_inside v.step.start.table (narrowed memory) (indices_behind v.step.start.views (steps_shown v.step ss) (numbers_shown v.step aim.indices))) aims.1.0
      ∙ (ap (λ m. spot_by_indices v.step.start.table m (numbers_shown v.step aim.indices)) (kept small)
      ∙ ap (λ (zs : List ℤ). spot_by_indices v.step.start.table memory zs) aims.0))

  -- through views the plan's way is that of the meaning
  led_by_views : (steps : List ViewStep) (n : ℕ) (ts : CoreTerms) → memory < 2 ^ 32 → AimsAt lane v aim (by_views steps n ts) → led ≡ meant (by_views steps n ts)
  led_by_views steps n ts small aims =
      ap (λ row. spot_in_row v.step.start v.step.first v.step.words planned row) aims.1.1
      ∙ (ap (λ m. spot_if_inside v.step.start.table m (indices_behind v.step.start.views (steps_shown v.step aim.steps) (numbers_shown v.step aim.indices))) (kept small)
      ∙ (ap (λ (zs : List ℤ). spot_if_inside v.step.start.table memory (indices_behind v.step.start.views (steps_shown v.step aim.steps) zs)) aims.0
      ∙ ap (λ o. spot_if_inside v.step.start.table memory o)
      (passed v.step.start.views steps (steps_shown v.step aim.steps) (drop n (values_of (begun_of v.step) v.variables (lane_path lane) ts)) (take n (values_of (begun_of v.step) v.variables (lane_path lane) ts)) aims.1.0)))

  led_by_row : (t : CoreTerm) (own : ℕ) → memory < 2 ^ 32 → AimsAt lane v aim (by_row own t)
      → led ≡ spot_by_row v.step.start.table memory (first_listed_bank banks) (words.value_of (value_of_term (begun_of v.step) v.variables (lane_path lane) t))
  led_by_row t own small aims = by aim.row refl aims
    where
      by : (row : Option ℕ) → aim.row ≡ row → RowIs v row (words.value_of (value_of_term (begun_of v.step) v.variables (lane_path lane) t))
          → led ≡ spot_by_row v.step.start.table memory (first_listed_bank banks) (words.value_of (value_of_term (begun_of v.step) v.variables (lane_path lane) t))
      by None e h = absurd h
      by (Some row) e h =
          ap (λ r. spot_in_row v.step.start v.step.first v.step.words planned r) e
          ∙ (ap (λ m. spot_by_row v.step.start.table m (first_listed_bank banks) (words.value_of (word_shown v.step row))) (kept small)
          ∙ ap (λ (z : ℤ). spot_by_row v.step.start.table memory (first_listed_bank banks) z) h)

pub read_led : (lane : Lane) (v : View) (aim : Aim) (memory : ℕ) (banks : List (ℕ × ℕ)) (place : Place) (form : plain.TermForm) (target : Target) → FormHasTarget form target → memory < 2 ^ 32
    → AimsAt lane v aim target → ((r : Ref) (bank : ℕ) (p : Place) (row : plain.Term) → form ≡ plain.in_bank r bank p row → first_listed_bank banks ≡ bank)
    → spot_of_reach v.step.start v.step.first v.step.words (reach_told memory aim banks) ≡ spot_reached (begun_of v.step) v.variables (lane_path lane) (reach_at place memory aim.number) target
read_led lane v aim memory banks place (plain.accessed r indices) (by_indices ts) has small aims banked = led_by_indices lane v aim memory banks place ts small aims
read_led lane v aim memory banks place (plain.accessed r indices) (by_views steps n ts) has small aims banked = led_by_views lane v aim memory banks place steps n ts small aims
read_led lane v aim memory banks place (plain.in_bank r bank p row) (by_row other t) has small aims banked =
    led_by_row lane v aim memory banks place t other small aims
    ∙ ap (λ b. spot_by_row v.step.start.table memory b (words.value_of (value_of_term (begun_of v.step) v.variables (lane_path lane) t))) (banked r bank p row refl ∙ sym has)
read_led lane v aim memory banks place (plain.number negative value) target has small aims banked = elim has [ ]
read_led lane v aim memory banks place (plain.truth_value value) target has small aims banked = elim has [ ]
read_led lane v aim memory banks place (plain.named of) target has small aims banked = elim has [ ]
read_led lane v aim memory banks place (plain.accessed r indices) (by_row other t) has small aims banked = elim has [ ]
read_led lane v aim memory banks place (plain.in_bank r bank p row) (by_indices ts) has small aims banked = elim has [ ]
read_led lane v aim memory banks place (plain.in_bank r bank p row) (by_views steps n ts) has small aims banked = elim has [ ]
read_led lane v aim memory banks place (plain.applied op left right) target has small aims banked = elim has [ ]
read_led lane v aim memory banks place (plain.converted inner to) target has small aims banked = elim has [ ]

-- out of range in the one way is so in the other: the bank does not tell it
fails_alike : (table : List MemEntry) (memory a b fault : ℕ) (z : ℤ) → fails_outside fault (spot_by_row table memory a z) ≡ fails_outside fault (spot_by_row table memory b z)
fails_alike table memory a b fault z = by (is_row (dims_at table memory) z)
  where
    by : (t : Bool) → fails_outside fault (if t then Some (spot_in_bank table memory a (unsigned_abs z)) else None) ≡ fails_outside fault (if t then Some (spot_in_bank table memory b (unsigned_abs z)) else None)
    by true = refl
    by false = refl

pub probe_led : (lane : Lane) (v : View) (aim : Aim) (memory fault : ℕ) (place : Place) (form : plain.TermForm) (target : Target) → FormHasTarget form target → memory < 2 ^ 32
    → AimsAt lane v aim target
    → fails_outside fault (spot_of_reach v.step.start v.step.first v.step.words (reach_told memory aim [])) ≡ fails_outside fault (spot_reached (begun_of v.step) v.variables (lane_path lane) (reach_at place memory aim.number) target)
probe_led lane v aim memory fault place (plain.accessed r indices) (by_indices ts) has small aims = ap (λ s. fails_outside fault s) (led_by_indices lane v aim memory [] place ts small aims)
probe_led lane v aim memory fault place (plain.accessed r indices) (by_views steps n ts) has small aims = ap (λ s. fails_outside fault s) (led_by_views lane v aim memory [] place steps n ts small aims)
probe_led lane v aim memory fault place (plain.in_bank r bank p row) (by_row other t) has small aims =
    ap (λ s. fails_outside fault s) (led_by_row lane v aim memory [] place t other small aims)
    ∙ fails_alike v.step.start.table memory 0 other fault (words.value_of (value_of_term (begun_of v.step) v.variables (lane_path lane) t))
probe_led lane v aim memory fault place (plain.number negative value) target has small aims = elim has [ ]
probe_led lane v aim memory fault place (plain.truth_value value) target has small aims = elim has [ ]
probe_led lane v aim memory fault place (plain.named of) target has small aims = elim has [ ]
probe_led lane v aim memory fault place (plain.accessed r indices) (by_row other t) has small aims = elim has [ ]
probe_led lane v aim memory fault place (plain.in_bank r bank p row) (by_indices ts) has small aims = elim has [ ]
probe_led lane v aim memory fault place (plain.in_bank r bank p row) (by_views steps n ts) has small aims = elim has [ ]
probe_led lane v aim memory fault place (plain.applied op left right) target has small aims = elim has [ ]
probe_led lane v aim memory fault place (plain.converted inner to) target has small aims = elim has [ ]

-- what a probe tells
probe_told : (named : List (FaultKind × Place)) (fault number : ℕ) (place : Place) (path : Path) (memory : ℕ) (spot : Option Spot) → slice_get named fault ≡ Some (OutOfRange, place)
    → told_block named (fails_outside fault spot) ≡ tales_told (read_made (reach_at place memory number) path spot ∷ [])
probe_told named fault number place path memory None is = ap (λ (f : Option (FaultKind × Place)). fault_told f ∷ []) is
probe_told named fault number place path memory (Some s) is = refl

-- what a probe and the write behind it tell
write_told : (named : List (FaultKind × Place)) (fault number : ℕ) (place : Place) (path : Path) (memory bits : ℕ) (spot : Option Spot) → slice_get named fault ≡ Some (OutOfRange, place)
    → told_block named (fails_outside fault spot) ++ told_block named (puts_inside bits spot) ≡ tales_told (write_made (reach_at place memory number) path bits spot ∷ [])
write_told named fault number place path memory bits None is = ap (λ (f : Option (FaultKind × Place)). fault_told f ∷ []) is
write_told named fault number place path memory bits (Some s) is = refl

-- An access with operations, as it stands.
module _ (scene : Scene) (lane : Lane) (place : Place) (form : plain.TermForm) (memory : ℕ) (aim : Aim) (writes : Bool) (d0 d1 : Draft) (a0 a1 : Accesses)
    (t : TouchesAt scene lane.around (standing_at scene lane.around memory place form writes) d0 d1 a0 a1 aim.number) where
  abbrev stands : AccessStanding
  stands = standing_at scene lane.around memory place form writes

  known_touched : (v : View) → FitsStep v.step d1 → BlockBegun v.step d0 → Knows v a0 → IsSited scene lane v memory aim.number place form writes → Knows v a1
  known_touched v f b known sited = touched_knows scene lane.around stands d0 d1 a0 a1 aim.number v t f b (λ m u new o site. new_one m u new o site) known
    where
      new_one : (m : ℕ) (u : Touched) → IsNew d0 d1 scene lane.around stands aim.number m u → (o : AccessStanding) → slice_get v.reads.sites m ≡ Some o → IsTouched v.step o u
      new_one m u new o site =
          subst (λ (s : AccessStanding). IsTouched v.step s u) (some_same stands o (sym sited.site ∙ (ap (λ n. slice_get v.reads.sites n) (sym new.own) ∙ site)))
          (new.is sited.scopes sited.low v.step f b)

  record Here (v : View) : Type 0 where
    touched : Touched
    there_is : touched_in a1 aim.number ≡ Some touched
    as_it_stands : IsTouched v.step stands touched

  here : (v : View) → FitsStep v.step d1 → BlockBegun v.step d0 → Knows v a0 → IsSited scene lane v memory aim.number place form writes → Here v
  here v f b known sited =
      let found = t.there (subst (λ (n : ℕ). aim.number < n) (sym known.long) (place_within v.reads.sites aim.number stands sited.site)) in
      record { touched = found.0; there_is = found.1; as_it_stands = (known_touched v f b known sited).touched aim.number found.0 found.1 stands sited.site }

  fault_named : (v : View) (fault : ℕ) → fault ≡ fault_in a1 aim.number → Here v → slice_get v.step.named fault ≡ Some (OutOfRange, place)
  fault_named v fault is h = ap (λ n. slice_get v.step.named n) (is ∙ ap fault_of_touched h.there_is) ∙ h.as_it_stands.fault

  copy_stands : (v : View) (copy : AccessAt) → copy ≡ copied_in a1 aim.number lane.number → lane.number < length lane.around.guards.now → Here v
      → IsCopy v.step stands.leader stands.bank (copy_places stands) stands.guards (length stands.guards) lane.number copy
  copy_stands v copy is within h =
      let found = there h.touched.copies lane.number (subst (λ (n : ℕ). lane.number < n) (sym h.as_it_stands.copies.long) within) in
      subst (λ (c : AccessAt). IsCopy v.step stands.leader stands.bank (copy_places stands) stands.guards (length stands.guards) lane.number c)
      (sym (is ∙ (ap (λ o. copied_of o lane.number) h.there_is ∙ ap (λ o. copy_or_alone lane.number o) found.1)))
      (h.as_it_stands.copies.each lane.number found.0 found.1)

  -- the bank that an access names is that of its copy, and the one that it reaches
  bank_named : (v : View) (copy : AccessAt) → IsCopy v.step stands.leader stands.bank (copy_places stands) stands.guards (length stands.guards) lane.number copy → NamesSmallBank form
      → (r : Ref) (bank : ℕ) (p : Place) (row : plain.Term) → form ≡ plain.in_bank r bank p row → first_listed_bank (copy_banks scene form copy) ≡ bank
  bank_named v copy c small r bank p row is =
      ap (λ (f : plain.TermForm). first_listed_bank (copy_banks scene f copy)) is
      ∙ (c.bank_is
      ∙ (ap (λ (f : plain.TermForm). narrowed (bank_by (program_seen scene.program.now) (way_named (known_in scene) f) lane.around.levels.now memory f lane.number)) is
      ∙ kept bank (subst (λ (f : plain.TermForm). NamesSmallBank f) is small)))
    where
      kept : (n : ℕ) → n < 2 ^ 32 → narrowed n ≡ n
      kept n few = omega (arith, few)

-- A read.
module _ (scene : Scene) (form : plain.TermForm) (d e : Draft) (memory : ℕ) (aim : Aim) (copy : AccessAt) (value : ℕ) where
  finds_extends : (found : Option ℕ) → Finds scene form d e memory aim copy found value → Extends d e
  finds_extends (Some n) r = subst (λ (k : Draft). Extends d k) (sym r.0) (extends_self d)
  finds_extends None r = pushed_extends d e value copy.guard _ r

  finds_quiet : (found : Option ℕ) → Finds scene form d e memory aim copy found value → (x : BlockStep) → BlockBegun x d → tale x e ≡ tale x d
  finds_quiet (Some n) r x b = ap (λ (k : Draft). tale x k) r.0
  finds_quiet None r x b = pushed_silent d e value copy.guard _ r x b refl

module _ (scene : Scene) (lane : Lane) (place : Place) (form : plain.TermForm) (memory : ℕ) (aim : Aim) (target : Target) (has : FormHasTarget form target)
    (d0 d1 d2 d3 : Draft) (a0 a1 a2 : Accesses) (copy : AccessAt) (fault value probe : ℕ) (found : Option ℕ)
    (t : TouchesAt scene lane.around (standing_at scene lane.around memory place form false) d0 d1 a0 a1 aim.number)
    (copy_is : copy ≡ copied_in a1 aim.number lane.number) (fault_is : fault ≡ fault_in a1 aim.number)
    (p : Pushes d1 d2 probe (lane_guard lane) (Probe (reach_told memory aim []) fault))
    (found_is : found ≡ given_by a1 (source_at (slice_get scene.shares.now aim.number) aim.number lane.number copy.leader))
    (r : Finds scene form d2 d3 memory aim copy found value) (g : Notes a1 a2 aim.number lane.number value) where
  abbrev word_read : View → Word
  word_read v = value_of_term (begun_of v.step) v.variables (lane_path lane) (read (reach_at place memory aim.number) target)

  probed : Extends d1 d2
  probed = pushed_extends d1 d2 probe (lane_guard lane) _ p

  found_extends : Extends d2 d3
  found_extends = finds_extends scene form d2 d3 memory aim copy value found r

  fits2 : (v : View) → FitsStep v.step d3 → FitsStep v.step d2
  fits2 v f = fits_before d2 d3 v.step found_extends f

  fits1 : (v : View) → FitsStep v.step d3 → FitsStep v.step d1
  fits1 v f = fits_before d1 d2 v.step probed (fits2 v f)

  begun1 : (v : View) → BlockBegun v.step d0 → BlockBegun v.step d1
  begun1 v b = begun_later d0 d1 v.step t.extends b

  begun2 : (v : View) → BlockBegun v.step d0 → BlockBegun v.step d2
  begun2 v b = begun_later d1 d2 v.step probed (begun1 v b)

  known1 : (v : View) → FitsStep v.step d3 → BlockBegun v.step d0 → Knows v a0 → IsSited scene lane v memory aim.number place form false → Knows v a1
  known1 v f b known sited = known_touched scene lane place form memory aim false d0 d1 a0 a1 t v (fits1 v f) b known sited

  value_is : (v : View) → FitsStep v.step d3 → BlockBegun v.step d0 → Knows v a0 → IsSited scene lane v memory aim.number place form false → IsRead scene lane place form memory aim target v → word_shown v.step value ≡ word_read v
  value_is v f b known sited sees = by found found_is r
    where
      stood : IsCopy v.step (standing_at scene lane.around memory place form false).leader (standing_at scene lane.around memory place form false).bank (copy_places (standing_at scene lane.around memory place form false)) lane.around.guards.now (length lane.around.guards.now) lane.number copy
      stood = copy_stands scene lane place form memory aim false d0 d1 a0 a1 t v copy copy_is sited.within (here scene lane place form memory aim false d0 d1 a0 a1 t v (fits1 v f) b known sited)

      given : (n : ℕ) (o : Option (ℕ × ℕ)) → Some n ≡ given_by a1 o → SourceMeans v.reads o (word_read v) → word_shown v.step n ≡ word_read v
      given n None e m = absurd (cc)
      given n (Some s) e m = (known1 v f b known sited).given s.0 s.1 n (sym e) m.0 ∙ m.1

      by : (o : Option ℕ) → o ≡ given_by a1 (source_at (slice_get scene.shares.now aim.number) aim.number lane.number copy.leader) → Finds scene form d2 d3 memory aim copy o value → word_shown v.step value ≡ word_read v
      by (Some n) is h =
          ap (λ k. word_shown v.step k) h.1
          ∙ given n (source_at (slice_get scene.shares.now aim.number) aim.number lane.number copy.leader) is
          (subst (λ (l : ℕ). SourceMeans v.reads (source_at (slice_get scene.shares.now aim.number) aim.number lane.number l) (word_read v)) (sym stood.leader_is) sees.done.source)
      by None is h =
          pushed_word d2 d3 value copy.guard _ h v.step f (begun2 v b) (stood.on sees.done.made)
          ∙ (ap (λ m. with_bits (kind_in v.step.start.table m) (bits_at v.step.start.memories (spot_of_reach v.step.start v.step.first v.step.words (reach_told memory aim (copy_banks scene form copy))))) (kept sees.done.small)
          ∙ ap (λ s. with_bits (kind_in v.step.start.table memory) (bits_at v.step.start.memories s))
          (read_led lane v aim memory (copy_banks scene form copy) place form target has sees.done.small sees.aims (bank_named scene lane place form memory aim false d0 d1 a0 a1 t v copy stood sees.done.bank)))
        where
          kept : memory < 2 ^ 32 → narrowed memory ≡ memory
          kept few = omega (arith, few)

  pub read_made_at : ReadsElement scene lane place form memory aim target d0 d3 a0 a2 value
  read_made_at = record {
    extends = extends_again d0 d1 d3 t.extends (extends_again d1 d2 d3 probed found_extends);
    knows = λ v f b known fair.
        noted_knows a1 a2 aim.number lane.number value g v (λ done. value_is v f b known fair.sited (fair.read done) ∙ sym (fair.read done).done.means) (known1 v f b known fair.sited);
    is = λ v f b known fair sees. value_is v f b known fair.sited sees;
    tells = λ v f b known fair sees on.
        finds_quiet scene form d2 d3 memory aim copy value found r v.step (begun2 v b)
        ∙ (pushed_on d1 d2 probe (lane_guard lane) _ p v.step (begun1 v b) on
        ∙ (ap (λ (es : List BlockEvent). tale v.step d1 ++ told_block v.step.named es) (probe_led lane v aim memory fault place form target has sees.done.small sees.aims)
        ∙ (ap (λ (ts : List Tale). tale v.step d1 ++ ts)
        (probe_told v.step.named fault aim.number place (lane_path lane) memory (spot_reached (begun_of v.step) v.variables (lane_path lane) (reach_at place memory aim.number) target)
        (fault_named scene lane place form memory aim false d0 d1 a0 a1 t v fault fault_is (here scene lane place form memory aim false d0 d1 a0 a1 t v (fits1 v f) b known fair.sited)))
        ∙ ap (λ (ts : List Tale). ts ++ tales_told (read_made (reach_at place memory aim.number) (lane_path lane) (spot_reached (begun_of v.step) v.variables (lane_path lane) (reach_at place memory aim.number) target) ∷ [])) (t.quiet v.step (fits1 v f) b))));
    quiet = λ v f b off.
        finds_quiet scene form d2 d3 memory aim copy value found r v.step (begun2 v b) ∙ (pushed_off d1 d2 probe (lane_guard lane) _ p v.step (begun1 v b) off ∙ t.quiet v.step (fits1 v f) b);
  }

-- A write.
module _ (scene : Scene) (lane : Lane) (place : Place) (form : plain.TermForm) (memory : ℕ) (aim : Aim) (target : Target) (has : FormHasTarget form target)
    (d0 d1 d2 d3 : Draft) (a0 a1 : Accesses) (copy : AccessAt) (fault value probe number : ℕ)
    (t : TouchesAt scene lane.around (standing_at scene lane.around memory place form true) d0 d1 a0 a1 aim.number)
    (copy_is : copy ≡ copied_in a1 aim.number lane.number) (fault_is : fault ≡ fault_in a1 aim.number)
    (p : Pushes d1 d2 probe (lane_guard lane) (Probe (reach_told memory aim []) fault))
    (w : Pushes d2 d3 number (lane_guard lane) (Write (reach_told memory aim (copy_banks scene form copy)) value)) where
  abbrev spot_meant : View → Option Spot
  spot_meant v = spot_reached (begun_of v.step) v.variables (lane_path lane) (reach_at place memory aim.number) target

  begun_at : (v : View) → BlockBegun v.step d0 → BlockBegun v.step d1
  begun_at v b = begun_later d0 d1 v.step t.extends b

  begun_behind : (v : View) → BlockBegun v.step d0 → BlockBegun v.step d2
  begun_behind v b = begun_later d1 d2 v.step (pushed_extends d1 d2 probe (lane_guard lane) _ p) (begun_at v b)

  fits_touched : (v : View) → FitsStep v.step d3 → FitsStep v.step d1
  fits_touched v f = fits_before d1 d2 v.step (pushed_extends d1 d2 probe (lane_guard lane) _ p) (fits_before d2 d3 v.step (pushed_extends d2 d3 number (lane_guard lane) _ w) f)

  pub write_made_at : Tells (lane_guard lane) d0 d3 a0 a1 (λ v. IsSited scene lane v memory aim.number place form true) (λ v. IsAimedAccess lane form memory aim target v)
      (λ v. write_made (reach_at place memory aim.number) (lane_path lane) (word_shown v.step value).bits (spot_meant v) ∷ [])
  write_made_at = record {
    extends = extends_again d0 d1 d3 t.extends (extends_again d1 d2 d3 (pushed_extends d1 d2 probe (lane_guard lane) _ p) (pushed_extends d2 d3 number (lane_guard lane) _ w));
    knows = λ v f b known sited. known_touched scene lane place form memory aim true d0 d1 a0 a1 t v (fits_touched v f) b known sited;
    tells = λ v f b known sited sees on.
        let h = here scene lane place form memory aim true d0 d1 a0 a1 t v (fits_touched v f) b known sited in
        let stood = copy_stands scene lane place form memory aim true d0 d1 a0 a1 t v copy copy_is sited.within h in
        pushed_on d2 d3 number (lane_guard lane) _ w v.step (begun_behind v b) on
        ∙ (ap (λ (ts : List Tale). ts ++ told_block v.step.named (puts_inside (word_shown v.step value).bits (spot_of_reach v.step.start v.step.first v.step.words (reach_told memory aim (copy_banks scene form copy)))))
        (pushed_on d1 d2 probe (lane_guard lane) _ p v.step (begun_at v b) on)
        ∙ (append_assoc (tale v.step d1) _ _
        ∙ (ap (λ (es : List BlockEvent). tale v.step d1 ++ (told_block v.step.named es ++ told_block v.step.named (puts_inside (word_shown v.step value).bits (spot_of_reach v.step.start v.step.first v.step.words (reach_told memory aim (copy_banks scene form copy))))))
        (probe_led lane v aim memory fault place form target has sees.small sees.aims)
        ∙ (ap (λ s. tale v.step d1 ++ (told_block v.step.named (fails_outside fault (spot_meant v)) ++ told_block v.step.named (puts_inside (word_shown v.step value).bits s)))
        (read_led lane v aim memory (copy_banks scene form copy) place form target has sees.small sees.aims (bank_named scene lane place form memory aim true d0 d1 a0 a1 t v copy stood sees.bank))
        ∙ (ap (λ (ts : List Tale). tale v.step d1 ++ ts)
        (write_told v.step.named fault aim.number place (lane_path lane) memory (word_shown v.step value).bits (spot_meant v) (fault_named scene lane place form memory aim true d0 d1 a0 a1 t v fault fault_is h))
        ∙ ap (λ (ts : List Tale). ts ++ tales_told (write_made (reach_at place memory aim.number) (lane_path lane) (word_shown v.step value).bits (spot_meant v) ∷ [])) (t.quiet v.step (fits_touched v f) b))))));
    quiet = λ v f b off.
        pushed_off d2 d3 number (lane_guard lane) _ w v.step (begun_behind v b) off ∙ (pushed_off d1 d2 probe (lane_guard lane) _ p v.step (begun_at v b) off ∙ t.quiet v.step (fits_touched v f) b);
  }
