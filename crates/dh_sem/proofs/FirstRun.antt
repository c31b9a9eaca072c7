-- A run before its first step: the slots of all variables lie apart, and hold 0; it stands at the first block.
use Rattle.std.proofs.Common.{◌≡◌, ℕ, zero, suc, ◌+◌, ◌<◌, ◌≤◌, ◌^◌, List, [], ◌∷◌, length, reverse, replicate, Some, refl, ap, sym, ◌∙◌, ◌⊎◌, inl, inr, subst, arith, pos}
use Rattle.std.specs.Prelude.{Option, false, slice_index, slice_get}
use Rattle.std.specs.List.{AllByRecursion}
use Rattle.dh_base.specs.declared.outcomes.Outcome.{Outcome}
use Rattle.dh_value.specs.Words.{residue}
use Rattle.dh_tree.specs.declared.tables.MemEntry.{MemEntry}
use Rattle.dh_tree.specs.Memories.{table_of}
use Rattle.dh_tree.specs.PlainTrees.{Program}
use Rattle.dh_tree.specs.Shapes.{IsMemory, IsProgramTable}
use Rattle.dh_tree.specs.Tables.{Fits, elements_in, most_elements}
use Rattle.dh_meaning.specs.CoreOf.{core_of}
use Rattle.dh_meaning.specs.Effects.{Begun, unset}
use Rattle.dh_meaning.specs.Paths.{outer_paths}
use Rattle.dh_meaning.specs.Runs.{RunNext, over, phases_then, next_of}
use Rattle.dh_code.specs.declared.codes.Code.{Code}
use Rattle.dh_code.specs.declared.codes.CodeOperation.{CodeOperation}
use Rattle.dh_code.specs.declared.codes.ListedCommand.{ListedCommand}
use Rattle.dh_code.specs.Operated.{IsOperation}
use Rattle.dh_code.specs.declared.running.StepState.{StepState}
use Rattle.dh_code.specs.declared.spending.Bank.{Bank}
use Rattle.dh_code.specs.Banks.{AreFirsts, all_banks}
use Rattle.dh_code.specs.Spent.{AreUsedBy}
use Rattle.dh_meaning.specs.Ways.{all_entities_of}
use Rattle.dh_code.specs.Declarations.{Declaration, all_declarations_of, all_held, declaration_in, declared_factors, placing_of, slots_counted, slots_of}
use Rattle.dh_code.specs.Ranks.{copies_in}
use Rattle.dh_code.specs.Scenes.{AreSmall, IsSoundCode, IsEarlier}
use Rattle.dh_code.specs.Slots.{EndsBefore, Holds, IsPlacing, held_at, slot_of}
use Rattle.dh_code.proofs.KindsHeld.{length_held}
use Rattle.dh_code.proofs.Ranges.{items_same}
use Rattle.dh_sem.specs.declared.lanes.Lanes.{Lanes}
use Rattle.dh_sem.specs.declared.phases.Frame.{Frame}
use Rattle.dh_sem.specs.declared.phases.Frame.TheVariants.{List as Rest}
use Rattle.dh_sem.specs.declared.phases.HeldPhase.{HeldPhase}
use Rattle.dh_sem.specs.declared.holding.MadeRun.{MadeRun}
use Rattle.dh_sem.specs.declared.stepping.Course as code
use Rattle.dh_sem.specs.Frames.{AreToCome}
use Rattle.dh_sem.specs.declared.starting.Begun as starting
use Rattle.dh_sem.specs.Held.{HoldsProgram, IsSoundMade, course_made}
use Rattle.dh_sem.specs.Phased.{AreLinked, ArePhases, Course, IsSoundFrame}
use Rattle.dh_sem.specs.Runs.{IsSteady, StandsAt, place_outcome}
use Rattle.dh_sem.specs.Starts.{IsBegunRun, IsUnused, ReachesFirstBlock, run_begun}
use Rattle.dh_sem.specs.Steps.{Arrives, GoesOn, OnlyVariables, course_of}
use Rattle.dh_sem.proofs.SmallMemories.{fits_small}
use Rattle.dh_sem.proofs.Stepped.{coursed_as, run_at, stands_placed}

abbrev copies_at : List Declaration → ℕ → ℕ
copies_at ds entity = copies_in (declared_factors (declaration_in ds entity))

grown : (ds : List Declaration) (count from n : ℕ) → count ≤ slots_counted ds count from n
grown ds count from zero = omega arith
grown ds count from (suc n) = up count (copies_at ds from) _ (grown ds (count + copies_at ds from) (suc from) n)
  where
    up : (a b c : ℕ) → a + b ≤ c → a ≤ c
    up a b c e = omega (arith, e)

-- the slots of a variable end before those of each later one
ends_by : (ds : List Declaration) (count from e n : ℕ) → e < n → slots_counted ds count from e + copies_at ds (from + e) ≤ slots_counted ds count from n
ends_by ds count from e zero within = absurd (none e within)
  where
    none : (n : ℕ) → n < 0 → ⊥
    none n e = omega (arith, e)
ends_by ds count from zero (suc n) within = subst (λ (k : ℕ). count + copies_at ds k ≤ slots_counted ds (count + copies_at ds from) (suc from) n) (same from) (grown ds (count + copies_at ds from) (suc from) n)
  where
    same : (k : ℕ) → k ≡ k + 0
    same k = omega arith
ends_by ds count from (suc e) (suc n) within =
    subst (λ (k : ℕ). slots_counted ds (count + copies_at ds from) (suc from) e + copies_at ds k ≤ slots_counted ds (count + copies_at ds from) (suc from) n) (moved from e)
    (ends_by ds (count + copies_at ds from) (suc from) e n (less e n within))
  where
    moved : (a b : ℕ) → suc a + b ≡ a + suc b
    moved a b = omega arith

    less : (a b : ℕ) → suc a < suc b → a < b
    less a b e = omega (arith, e)

held_first : (ds : List Declaration) (count from n e : ℕ) → e < n → (held_at (all_held ds count from n) e).first ≡ slots_counted ds count from e
held_first ds count from zero e within = absurd (none e within)
  where
    none : (n : ℕ) → n < 0 → ⊥
    none n e = omega (arith, e)
held_first ds count from (suc n) zero within = refl
held_first ds count from (suc n) (suc e) within = held_first ds (count + copies_at ds from) (suc from) n e (less e n within)
  where
    less : (a b : ℕ) → suc a < suc b → a < b
    less a b e = omega (arith, e)

module _ (p : Program) where
  abbrev ds : List Declaration
  ds = all_declarations_of p

  abbrev many : ℕ
  many = all_entities_of p

  within_many : (e : ℕ) → e < length (placing_of p).held → e < many
  within_many e h = subst (λ (n : ℕ). e < n) (length_held ds 0 0 many) h

  ends_at : (e n : ℕ) → e < many → e < n → (held_at (placing_of p).held e).first + copies_in ((placing_of p).factors e) ≤ slots_counted ds 0 0 n
  ends_at e n within below = by _ _ _ (held_first ds 0 0 many e within) (subst (λ (k : ℕ). slots_counted ds 0 0 e + copies_at ds k ≤ slots_counted ds 0 0 n) (none e) (ends_by ds 0 0 e n below))
    where
      none : (k : ℕ) → 0 + k ≡ k
      none k = omega arith

      by : (a b c : ℕ) {n : ℕ} → a ≡ b → b + c ≤ n → a + c ≤ n
      by a b c e h = omega (arith, e, h)

  ends_before : (e f : ℕ) → e < many → f < many → e < f → EndsBefore (placing_of p) e f
  ends_before e f within within' below = subst (λ (n : ℕ). (held_at (placing_of p).held e).first + copies_in ((placing_of p).factors e) ≤ n) (sym (held_first ds 0 0 many f within')) (ends_at e f within below)

  pub placed_apart : IsPlacing (placing_of p) (slots_of p)
  placed_apart = record {
    within = λ e h. ends_at e many (within_many e h) (within_many e h);
    apart = λ e f h k differ. by e f (within_many e h) (within_many f k) (either e f differ);
  }
    where
      either : (e f : ℕ) → (e ≡ f → ⊥) → (e < f) ⊎ (f < e)
      either zero zero differ = absurd (differ refl)
      either zero (suc f) differ = inl (omega arith)
      either (suc e) zero differ = inr (omega arith)
      either (suc e) (suc f) differ = up (either e f (λ same. differ (ap suc same)))
        where
          up : (e < f) ⊎ (f < e) → (suc e < suc f) ⊎ (suc f < suc e)
          up (inl h) = inl (omega (arith, h))
          up (inr h) = inr (omega (arith, h))

      by : (e f : ℕ) → e < many → f < many → (e < f) ⊎ (f < e) → EndsBefore (placing_of p) e f ⊎ EndsBefore (placing_of p) f e
      by e f h k (inl l) = inl (ends_before e f h k l)
      by e f h k (inr l) = inr (ends_before f e k h l)

zero_at : (n i : ℕ) → slice_index (replicate n 0) i ≡ 0
zero_at zero i = refl
zero_at (suc n) zero = refl
zero_at (suc n) (suc i) = zero_at n i

pub long_zeros : (n : ℕ) → length {A = ℕ} (replicate n 0) ≡ n
long_zeros zero = refl
long_zeros (suc n) = ap suc (long_zeros n)

zero_kept : 0 ≡ residue (2 ^ 64) (pos 0)
zero_kept = refl

-- no variable is set
pub holds_unset : (p : Program) (slots : List ℕ) → slots ≡ replicate (slots_of p) 0 → Holds (placing_of p) slots unset
holds_unset p slots is = record {
  placing = subst (λ (n : ℕ). IsPlacing (placing_of p) n) (sym (ap (λ l. length l) is ∙ long_zeros (slots_of p))) (placed_apart p);
  each = λ e path within inside. ap (λ l. slice_index l (slot_of (placing_of p) e path)) is ∙ (zero_at (slots_of p) (slot_of (placing_of p) e path) ∙ zero_kept);
}

abbrev none_yet : List ListedCommand
none_yet = []

abbrev no_phases : List HeldPhase
no_phases = []

-- nothing was made yet
pub sound_empty : (table : List MemEntry) (m : MadeRun) → m.code.operations ≡ [] → m.code.steps ≡ [] → m.phases.items ≡ [] → IsSoundMade table m
sound_empty table m os steps phases = record {
  code = record {
    operations = subst (λ (l : List CodeOperation). AllByRecursion (IsOperation table) l) (sym os) tt;
    steps = λ at s e. absurd (none_at at s (sym (ap (λ l. slice_get l at) steps) ∙ e));
  };
  course = record {
    links = record { each = λ at phase e. absurd (no_phase at phase (sym (ap (λ l. slice_get l at) phases) ∙ e)) };
    tests = λ at phase e. absurd (no_phase at phase (sym (ap (λ l. slice_get l at) phases) ∙ e));
  };
}
  where
    none_at : (at : ℕ) (s : ListedCommand) → slice_get none_yet at ≡ Some s → ⊥
    none_at at s e = cc

    no_phase : (at : ℕ) (s : HeldPhase) → slice_get no_phases at ≡ Some s → ⊥
    no_phase at s e = cc

-- the first frame is of a list that begins earlier
pub first_sound : (count : ℕ) (first : Option ℕ) (frames empty : List Frame) → empty ≡ [] → frames ≡ Rest first ∷ [] → IsEarlier count first → AllByRecursion (IsSoundFrame count) frames
first_sound count first frames empty none is earlier = subst (λ (l : List Frame). AllByRecursion (IsSoundFrame count) l) (sym is) (earlier, tt)

-- a run before its first step stands at the first block
pub first_stands : (p : Program) (table : List MemEntry) (made : Code) (cc : code.Course) (first at' : Option ℕ) (old new : StepState) (frames gs : List Frame) (memories : List (List ℕ)) (outcome : Outcome)
    → table ≡ (core_of p).table → frames ≡ Rest first ∷ [] → ArePhases (core_of p).table (placing_of p) (course_of made cc) [] first (core_of p).phases → Holds (placing_of p) old.variables.items unset
    → GoesOn cc at' old new frames gs false → outcome ≡ place_outcome at' → StandsAt p memories 0 (run_at table (course_of made cc) outcome 0 memories new.variables.items at' gs)
first_stands p table made cc first at' old new frames gs memories outcome tabled is are holds goes leads =
    let b : Begun = record { table = (core_of p).table; memories = memories } in
    let n : RunNext = next_of b (phases_then outer_paths (core_of p).phases over) unset in
    let come : AreToCome (core_of p).table (placing_of p) (course_of made cc) (reverse frames) (phases_then outer_paths (core_of p).phases over) =
    subst (λ (l : List Frame). AreToCome (core_of p).table (placing_of p) (course_of made cc) (reverse l) (phases_then outer_paths (core_of p).phases over)) (sym is) (over, (([], (refl, (refl, are))), (tt, refl))) in
    let a : Arrives (core_of p).table (placing_of p) (course_of made cc) n new at' gs = goes (core_of p).table (placing_of p) made b unset (phases_then outer_paths (core_of p).phases over) come holds tt in
    subst (λ (t : List MemEntry). StandsAt p memories 0 (run_at t (course_of made cc) outcome 0 memories new.variables.items at' gs)) (sym tabled) (record {
      tabled = refl;
      stands = stands_placed (core_of p).table (course_of made cc) 0 memories new.variables.items at' gs outcome (placing_of p) n leads a.variables a.place;
    })

pub stands_as : (p : Program) (table : List MemEntry) (made : Code) (cc : code.Course) (course : Course) (first at' : Option ℕ) (old new : StepState) (frames gs : List Frame) (memories : List (List ℕ)) (outcome : Outcome)
    → course_of made cc ≡ course → table ≡ (core_of p).table → frames ≡ Rest first ∷ [] → ArePhases (core_of p).table (placing_of p) course [] first (core_of p).phases → Holds (placing_of p) old.variables.items unset
    → GoesOn cc at' old new frames gs false → outcome ≡ place_outcome at' → StandsAt p memories 0 (run_at table course outcome 0 memories new.variables.items at' gs)
stands_as p table made cc course first at' old new frames gs memories outcome coursed tabled is are holds goes leads =
    subst (λ (c : Course). StandsAt p memories 0 (run_at table c outcome 0 memories new.variables.items at' gs)) coursed
    (first_stands p table made cc first at' old new frames gs memories outcome tabled is (subst (λ (c : Course). ArePhases (core_of p).table (placing_of p) c [] first (core_of p).phases) (sym coursed) are) holds goes leads)

-- and can go on
pub first_steady : (p : Program) (table : List MemEntry) (m : MadeRun) (o : Outcome) (memories : List (List ℕ)) (old new : StepState) (place : Option ℕ) (frames : List Frame) (phases : List HeldPhase) (firsts : List ℕ)
    → table ≡ table_of p → IsProgramTable (table_of p) → IsSoundMade (table_of p) m → Fits (table_of p) memories → AreFirsts table firsts → length old.given.items ≡ length m.code.operations
    → length old.banks.items ≡ all_banks table → AreUsedBy 0 old.banks.items → OnlyVariables old new → phases ≡ m.phases.items → AllByRecursion (IsSoundFrame (length phases)) frames → IsEarlier (length phases) place
    → IsSteady (run_at table (course_made m) o 0 memories new.variables.items place frames) new.given.items new.banks.items firsts
first_steady p table m o memories old new place frames phases firsts tabled t sound fits numbered given banks free only same framed earlier = record {
  entries = subst (λ (x : List MemEntry). AllByRecursion IsMemory x) (sym tabled) t.entries;
  few = subst (λ (x : List MemEntry). elements_in x ≤ most_elements) (sym tabled) t.elements;
  numbered = numbered;
  code = subst (λ (x : List MemEntry). IsSoundCode x m.code) (sym tabled) sound.code;
  room = enough _ _ (sym (ap (λ l. length l) (items_same _ _ only.given) ∙ given));
  small = subst (λ (x : List MemEntry). AreSmall x memories) (sym tabled) (fits_small (table_of p) memories fits);
  long = ap (λ l. length l) (items_same _ _ only.banks) ∙ banks;
  free = subst (λ (l : List Bank). AreUsedBy 0 l) (sym (items_same _ _ only.banks)) free;
  course = sound.course;
  frames = subst (λ (l : List HeldPhase). AllByRecursion (IsSoundFrame (length l)) frames) same framed;
  place = subst (λ (l : List HeldPhase). IsEarlier (length l) place) same earlier;
}
  where
    enough : (a b : ℕ) → a ≡ b → a ≤ b
    enough a b e = omega (arith, e)

pub linked_as : (phases kept : List HeldPhase) (lanes held : List Lanes) → phases ≡ kept → lanes ≡ held → AreLinked kept held → AreLinked phases lanes
linked_as phases kept lanes held e f h = subst (λ (l : List HeldPhase). AreLinked l lanes) (sym e) (subst (λ (l : List Lanes). AreLinked kept l) (sym f) h)

pub framed_as : (phases kept : List HeldPhase) (first : Option ℕ) (frames : List Frame) → phases ≡ kept → frames ≡ Rest first ∷ [] → IsEarlier (length kept) first → AllByRecursion (IsSoundFrame (length phases)) frames
framed_as phases kept first frames same is earlier =
    subst (λ (l : List HeldPhase). AllByRecursion (IsSoundFrame (length l)) frames) (sym same) (first_sound (length kept) first frames [] refl is earlier)

pub earlier_as : (phases kept : List HeldPhase) (first : Option ℕ) → phases ≡ kept → IsEarlier (length kept) first → IsEarlier (length phases) first
earlier_as phases kept first same earlier = subst (λ (l : List HeldPhase). IsEarlier (length l) first) (sym same) earlier

pub unused_as : (slots slots' operations operations' banks banks' : ℕ) (state : StepState) → slots ≡ slots' → operations ≡ operations' → banks ≡ banks' → IsUnused slots operations banks state → IsUnused slots' operations' banks' state
unused_as slots slots' operations operations' banks banks' state s o b h = record {
  variables_are = h.variables_are ∙ ap (λ n. replicate n 0) s;
  given_long = h.given_long ∙ o;
  banks_long = h.banks_long ∙ b;
  unspent = h.unspent;
}

-- what a run begins with that goes to the first block of what was made of its program
pub begun_as : (p : Program) (table : List MemEntry) (b : starting.Begun) (first : Option ℕ) (old : StepState) (cc : code.Course) → table ≡ table_of p → IsProgramTable (table_of p) → HoldsProgram p b.made first → AreFirsts table b.firsts.items
    → IsUnused (slots_of p) (length b.made.code.operations) (all_banks table) old → cc.phases.now ≡ b.made.phases.items → cc.lanes.now ≡ b.made.lanes.items → ReachesFirstBlock cc first b.place old b.state b.frames.items → IsBegunRun p b
begun_as p table b first old cc tabled t holds firsts unused phases lanes stands = record {
  steady = λ outcome memories fits.
      subst (λ (x : List MemEntry). IsSteady (run_begun x b outcome memories) b.state.given.items b.state.banks.items b.firsts.items) tabled
      (first_steady p table b.made outcome memories old b.state b.place b.frames.items cc.phases.now b.firsts.items tabled t holds.0 fits firsts unused.given_long unused.banks_long unused.unspent stands.only phases stands.sound stands.earlier);
  stands = λ outcome memories leads.
      subst (λ (x : List MemEntry). StandsAt p memories 0 (run_begun x b outcome memories)) tabled
      (stands_as p table b.made.code cc (course_made b.made) first b.place old b.state (Rest first ∷ []) b.frames.items memories outcome
      (coursed_as b.made.code cc.phases.now b.made.phases.items cc.lanes.now b.made.lanes.items phases lanes) tabled refl holds.1.1 (holds_unset p old.variables.items unused.variables_are) stands.goes leads);
}
