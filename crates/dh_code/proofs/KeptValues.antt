-- Values that are kept in variables.
use Rattle.std.proofs.Common.{◌≡◌, ℕ, suc, ◌+◌, ◌-◌, ◌^◌, ◌<◌, ◌≤◌, List, [], ◌∷◌, ◌++◌, length, take, drop, map, get_or, Ok, Err, ℤ, refl, ap, sym, ◌∙◌, subst, arith, append_assoc, append-nil}
use Rattle.std.specs.Prelude.{Result, slice_index, slice_set}
use Rattle.std.proofs.Math.Seq.{drop-cons}
use Rattle.std.proofs.lemmas.List.{length-map}
use Rattle.dh_value.specs.Words as words
use Rattle.dh_value.specs.Words.{residue}
use Rattle.dh_meaning.specs.Paths.{Path}
use Rattle.dh_meaning.specs.Core.{CoreTerms, no_terms, term_and, count_terms}
use Rattle.dh_meaning.specs.Effects.{Begun, Effect, Event, Variables, kept_at, set_from, set_variable, terms_events, values_of}
use Rattle.dh_code.specs.declared.codes.FlatExpression.{FlatExpression}
use Rattle.dh_code.specs.declared.codes.Kept.{Kept}
use Rattle.dh_code.specs.declared.codes.Operand.{Operand}
use Rattle.dh_code.specs.declared.codes.CodeOperation.{CodeOperation}
use Rattle.dh_code.specs.declared.evaluating.StepContext.{StepContext}
use Rattle.dh_code.specs.declared.evaluating.StepStop.{StepStop}
use Rattle.dh_code.specs.declared.running.StepState.{StepState}
use Rattle.dh_code.specs.declared.spending.Bank.{Bank}
use Rattle.dh_code.specs.Coded.{AreFlat, AreSlotsFrom, operands_kept}
use Rattle.dh_code.specs.Made.{AllMade, terms_made}
use Rattle.dh_code.specs.Operated.{Sight, events_after, index_values, operand_word, sight_after}
use Rattle.dh_code.specs.Plain.{all_plain}
use Rattle.dh_code.specs.Scenes.{IsScene, Spends, begun_in, flat_events, flat_sight}
use Rattle.dh_code.specs.Slots.{Holds, Placing}
use Rattle.dh_code.specs.Spent.{HaveSpent}
use Rattle.dh_code.specs.States.{AreRanks, Ends, GoBackAlike, IsReadyState, Keeps, KeepsVariables, SpendsFlat, bits_kept, sight_in, slots_kept}
use Rattle.dh_code.specs.Suited.{AreInsideFrom, CanEvaluateAll}
use Rattle.dh_code.proofs.FlatMeaning.{assigned_slot, kept_events, none_in, path_of, stopped_events}
use Rattle.dh_code.proofs.Ranges.{drop_past, get_whatever, items_same, length_range}
use Rattle.dh_code.proofs.SlotsHeld.{held_more}
use Rattle.dh_code.proofs.TermsGiven.{GivesAll, gives_all}

-- Lists of values.

pub values_many : (b : Begun) (v : Variables) (path : Path) (ts : CoreTerms) → length (values_of b v path ts) ≡ count_terms ts
values_many b v path no_terms = refl
values_many b v path (term_and t ts) = ap suc (values_many b v path ts)

bits_are : (w : Sight) (ks : List Kept) → bits_kept w ks ≡ map (λ z. residue (2 ^ 64) z) (index_values w (operands_kept ks))
bits_are w [] = refl
bits_are w (k ∷ ks) = ap (λ l. residue (2 ^ 64) (words.value_of (operand_word w k.value)) ∷ l) (bits_are w ks)

pub bits_many : (w : Sight) (ks : List Kept) → length (bits_kept w ks) ≡ length ks
bits_many w ks = length-map ks (λ k. residue (2 ^ 64) (words.value_of (operand_word w k.value)))

-- what was found up to one
pub found_first : (w : Sight) (old : List ℕ) (ks : List Kept) → old ++ bits_kept w (drop 0 ks) ≡ old ++ bits_kept w ks
found_first w old ks = refl

found_more : (w : Sight) (old now new : List ℕ) (ks : List Kept) (i bits : ℕ) (k : Kept) → i < length ks → k ≡ get_or ks i k → new ≡ now ++ bits ∷ [] → bits ≡ residue (2 ^ 64) (words.value_of (operand_word w k.value))
    → now ++ bits_kept w (drop i ks) ≡ old ++ bits_kept w ks → new ++ bits_kept w (drop (suc i) ks) ≡ old ++ bits_kept w ks
found_more w old now new ks i bits k there is added worth h =
    ap (λ l. l ++ bits_kept w (drop (suc i) ks)) added
    ∙ (append_assoc now (bits ∷ []) (bits_kept w (drop (suc i) ks))
    ∙ (ap (λ b. now ++ b ∷ bits_kept w (drop (suc i) ks)) worth
    ∙ (ap (λ l. now ++ bits_kept w l) (sym (drop-cons ks i k there ∙ ap (λ x. x ∷ drop (suc i) ks) (sym is))) ∙ h)))

-- at a place, whatever stands for what is not there
pub found_at : (w : Sight) (old now new : List ℕ) (ks : List Kept) (i bits : ℕ) (k : Kept) → i < length ks → new ≡ now ++ bits ∷ [] → bits ≡ residue (2 ^ 64) (words.value_of (operand_word w (get_or ks i k).value))
    → now ++ bits_kept w (drop i ks) ≡ old ++ bits_kept w ks → new ++ bits_kept w (drop (suc i) ks) ≡ old ++ bits_kept w ks
found_at w old now new ks i bits k there added worth h = found_more w old now new ks i bits (get_or ks i k) there (get_whatever ks i k (get_or ks i k) there) added worth h

pub found_end : (w : Sight) (old now : List ℕ) (ks : List Kept) (i : ℕ) → length ks ≤ i → now ++ bits_kept w (drop i ks) ≡ old ++ bits_kept w ks → now ≡ old ++ bits_kept w ks
found_end w old now ks i over h = sym (append-nil now) ∙ (ap (λ l. now ++ bits_kept w l) (sym (drop_past ks i over)) ∙ h)

-- Variables that are set up to one.

pub record SetSoFar (old now : StepState) (ranks : List ℕ) (depth : ℕ) (ks : List Kept) (bits : List ℕ) (i : ℕ) : Type 0 where
  pub banks : now.banks ≡ old.banks
  pub given : now.given ≡ old.given
  pub writes : now.writes ≡ old.writes
  pub kept : length now.variables.items ≡ length old.variables.items
  pub slots : slots_kept now.variables.items ranks depth (drop i ks) (drop i bits) ≡ slots_kept old.variables.items ranks depth ks bits
  pub back : GoBackAlike old now

pub set_first : (old : StepState) (ranks : List ℕ) (depth : ℕ) (ks : List Kept) (bits : List ℕ) → SetSoFar old old ranks depth ks bits 0
set_first old ranks depth ks bits = record { banks = refl; given = refl; writes = refl; kept = refl; slots = refl; back = refl }

set_turn : (old now new : StepState) (ranks : List ℕ) (depth : ℕ) (ks : List Kept) (bits : List ℕ) (i slot : ℕ) (k : Kept) → i < length ks → length bits ≡ length ks → k ≡ get_or ks i k → slot ≡ k.first + slice_index ranks depth
    → new.banks ≡ now.banks → new.given ≡ now.given → new.writes ≡ now.writes → length new.variables.items ≡ length now.variables.items → new.variables.items ≡ slice_set now.variables.items slot (get_or bits i 0) → GoBackAlike now new
    → SetSoFar old now ranks depth ks bits i → SetSoFar old new ranks depth ks bits (suc i)
set_turn old now new ranks depth ks bits i slot k there long is at banks given writes kept set back h = record {
  banks = banks ∙ h.banks;
  given = given ∙ h.given;
  writes = writes ∙ h.writes;
  kept = kept ∙ h.kept;
  slots = ap (λ l. slots_kept l ranks depth (drop (suc i) ks) (drop (suc i) bits)) (set ∙ ap (λ s. slice_set now.variables.items s (get_or bits i 0)) at)
      ∙ (sym (ap (λ l. slots_kept now.variables.items ranks depth l (drop i bits)) (drop-cons ks i k there ∙ ap (λ x. x ∷ drop (suc i) ks) (sym is))
      ∙ ap (λ l. slots_kept now.variables.items ranks depth (k ∷ drop (suc i) ks) l) (drop-cons bits i 0 (subst (λ (n : ℕ). i < n) (sym long) there))) ∙ h.slots);
  back = back ∙ h.back;
}

pub set_at : (old now new : StepState) (ranks : List ℕ) (depth : ℕ) (ks : List Kept) (bits : List ℕ) (i slot : ℕ) (k : Kept) → i < length ks → length bits ≡ length ks → slot ≡ (get_or ks i k).first + slice_index ranks depth
    → new.banks ≡ now.banks → new.given ≡ now.given → new.writes ≡ now.writes → length new.variables.items ≡ length now.variables.items → new.variables.items ≡ slice_set now.variables.items slot (get_or bits i 0) → GoBackAlike now new
    → SetSoFar old now ranks depth ks bits i → SetSoFar old new ranks depth ks bits (suc i)
set_at old now new ranks depth ks bits i slot k there long at banks given writes kept set back h =
    set_turn old now new ranks depth ks bits i slot (get_or ks i k) there long (get_whatever ks i k (get_or ks i k) there) at banks given writes kept set back h

pub set_end : (old now : StepState) (ranks : List ℕ) (depth : ℕ) (ks : List Kept) (bits : List ℕ) (i : ℕ) → length ks ≤ i → SetSoFar old now ranks depth ks bits i → now.variables.items ≡ slots_kept old.variables.items ranks depth ks bits
set_end old now ranks depth ks bits i over h = sym (ap (λ l. slots_kept now.variables.items ranks depth l (drop i bits)) (drop_past ks i over)) ∙ h.slots

-- slots that are set hold the variables that are set
pub all_held : (p : Placing) (factors ranks : List ℕ) (path : Path) (deep depth : ℕ) → AreRanks factors ranks path → (ks : List Kept) (ts : CoreTerms) (zs : List ℤ) (entity : ℕ) (slots : List ℕ) (v : Variables)
    → length ks ≡ length zs → length zs ≡ count_terms ts → AreSlotsFrom p.held entity depth ks → AreInsideFrom p factors deep entity ts → Holds p slots v
    → Holds p (slots_kept slots ranks depth ks (map (λ z. residue (2 ^ 64) z) zs)) (set_from v entity (take deep path) zs)
all_held p factors ranks path deep depth at [] ts [] entity slots v e f s i h = h
all_held p factors ranks path deep depth at [] ts (z ∷ zs) entity slots v e f s i h = absurd (never (length zs) e)
  where
    never : (n : ℕ) → 0 ≡ suc n → ⊥
    never n e = omega (arith, e)
all_held p factors ranks path deep depth at (k ∷ ks) ts [] entity slots v e f s i h = absurd (never (length ks) e)
  where
    never : (n : ℕ) → suc n ≡ 0 → ⊥
    never n e = omega (arith, e)
all_held p factors ranks path deep depth at (k ∷ ks) no_terms (z ∷ zs) entity slots v e f s i h = absurd (never (length zs) f)
  where
    never : (n : ℕ) → suc n ≡ 0 → ⊥
    never n e = omega (arith, e)
all_held p factors ranks path deep depth at (k ∷ ks) (term_and t ts) (z ∷ zs) entity slots v e f s i h =
    all_held p factors ranks path deep depth at ks ts zs (suc entity) (slice_set slots (k.first + slice_index ranks depth) (residue (2 ^ 64) z)) (set_variable v entity (take deep path) z)
    (less (length ks) (length zs) e) (less (length zs) (count_terms ts) f) s.1 i.1
    (held_more p slots v entity (take deep path) z (k.first + slice_index ranks depth) (residue (2 ^ 64) z) h i.0.known (path_of p factors ranks path entity deep at i.0)
    (assigned_slot p factors ranks path entity k.first depth deep (k.first + slice_index ranks depth) at s.0 i.0 refl) refl)
  where
    less : (a b : ℕ) → suc a ≡ suc b → a ≡ b
    less a b e = omega (arith, e)

-- Values, as they stand in code.
module _ (s : StepContext) (scene : IsScene s) (p : Placing) (factors ranks : List ℕ) (path : Path) (ts : CoreTerms) (from to : ℕ) (ks : List Kept) (value : Operand) (e : Effect) (old middle : StepState)
    (at : AreRanks factors ranks path) (are : AreFlat p.held s.entries.now s.code.now ts from to (operands_kept ks)) (can : CanEvaluateAll s.entries.now p factors ts) (k : Keeps p s.entries.now e s.step old) (ready : IsReadyState s old) where
  abbrev all : FlatExpression
  all = record { from = from; to = to; value = value }

  abbrev made : AllMade
  made = terms_made p.held s.entries.now from ts

  abbrev zs : List ℤ
  zs = values_of (begun_in s) e.variables path ts

  abbrev happens : List Event
  happens = terms_events (begun_in s) e.variables path ts

  room_for_all : from + length made.operations ≤ length old.given.items
  room_for_all = by (length made.operations) (sym (ap (λ (l : List CodeOperation). length l) are.operations) ∙ length_range s.code.now.operations from to are.there)
    where
      by : (n : ℕ) → n ≡ to - from → from + n ≤ length old.given.items
      by n e = let a = are.within in let c = are.there in let r = ready.room in omega (arith, e, a, c, r)

  right : GivesAll p (begun_in s) e.variables factors path at.inside scene.entries scene.small (sight_in old ranks) from ts
  right = gives_all p (begun_in s) e.variables factors path at.inside scene.entries scene.small (sight_in old ranks) from ts (record { slots = k.variables; ranks = at.are }) can.0 can.1 room_for_all

  found_values : (w : Sight) → w ≡ flat_sight s (sight_in old ranks) all → index_values w (operands_kept ks) ≡ zs
  found_values w seen =
      ap (λ (x : Sight). index_values x (operands_kept ks)) seen
      ∙ (ap (λ (l : List CodeOperation). index_values (sight_after (begun_in s) (sight_in old ranks) from l) (operands_kept ks)) are.operations
      ∙ (ap (λ l. index_values (sight_after (begun_in s) (sight_in old ranks) from made.operations) l) are.values ∙ right.values))

  found_events : flat_events s (sight_in old ranks) all ≡ all_plain happens
  found_events = ap (λ (l : List CodeOperation). events_after (begun_in s) (sight_in old ranks) from l) are.operations ∙ right.events

  pub values_stop : (A B : Type 0) (x : StepStop) (result : Result B StepStop) (v : Variables) (new : StepState) → result ≡ Err x → SpendsFlat {A = A} s old (Err x) middle ranks all
      → Ends {A = B} p s.entries.now (record { variables = v; events = e.events ++ happens }) s.step result new
  values_stop A B x result v new stopped spends =
      stopped_events A B p s.entries.now e s.step middle.banks.items new v happens x result stopped
      (subst (λ (l : List Event). Spends {A = A} s.entries.now (all_plain e.events ++ l) s.step (Err x) middle.banks.items) found_events (spends (all_plain e.events) k.spent))

  pub values_keep : (deep entity depth : ℕ) (bits : List ℕ) (new : StepState) → AreSlotsFrom p.held entity depth ks → AreInsideFrom p factors deep entity ts → KeepsVariables old middle
      → sight_in middle ranks ≡ flat_sight s (sight_in old ranks) all → SpendsFlat {A = Unit {0}} s old (Ok tt) middle ranks all → bits ≡ bits_kept (sight_in middle ranks) ks
      → new.banks ≡ middle.banks → new.writes ≡ middle.writes → new.variables.items ≡ slots_kept middle.variables.items ranks depth ks bits
      → Keeps p s.entries.now (kept_at (begun_in s) deep entity ts path e) s.step new
  values_keep deep entity depth bits new slots inside kept seen spends is banks written set =
      kept_events p s.entries.now e s.step old new (set_from e.variables entity (take deep path) zs) happens k
      (subst (λ (l : List ℕ). Holds p l (set_from e.variables entity (take deep path) zs)) (sym slots_same)
      (all_held p factors ranks path deep depth at ks ts zs entity old.variables.items e.variables many (values_many (begun_in s) e.variables path ts) slots inside k.variables))
      (none_in (begun_in s) e.variables path ts) (items_same _ _ written ∙ items_same _ _ kept.writes)
      (subst (λ (l : List Bank). HaveSpent s.entries.now (all_plain e.events ++ all_plain happens) s.step l) (sym (items_same _ _ banks))
      (subst (λ (l : List Event). HaveSpent s.entries.now (all_plain e.events ++ l) s.step middle.banks.items) found_events (spends (all_plain e.events) k.spent)))
    where
      worth : index_values (sight_in middle ranks) (operands_kept ks) ≡ zs
      worth = found_values (sight_in middle ranks) seen

      many : length ks ≡ length zs
      many =
          sym (length-map ks (λ k. k.value)) ∙ (sym (length-map (operands_kept ks) (λ o. words.value_of (operand_word (sight_in middle ranks) o))) ∙ ap (λ l. length l) worth)

      slots_same : new.variables.items ≡ slots_kept old.variables.items ranks depth ks (map (λ z. residue (2 ^ 64) z) zs)
      slots_same =
          set
          ∙ (ap (λ l. slots_kept l ranks depth ks bits) (items_same _ _ kept.variables)
          ∙ ap (λ l. slots_kept old.variables.items ranks depth ks l) (is ∙ (bits_are (sight_in middle ranks) ks ∙ ap (λ l. map (λ z. residue (2 ^ 64) z) l) worth)))
