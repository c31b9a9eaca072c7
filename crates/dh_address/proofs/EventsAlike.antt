-- What a block does in a step, and what it becomes: the same first fault, the same writes and the same sets, piece by piece.
use Rattle.std.proofs.Common.{◌≡◌, ℕ, suc, ◌+◌, ◌≤◌, ◌&&◌, Some, None, List, Bool, true, false, length, refl, sym, ap, subst, ◌∙◌}
use Rattle.std.specs.Prelude.{[], ◌∷◌, ◌++◌, Option, if◌then◌else◌}
use Rattle.std.specs.List.{AllByRecursion}
use Rattle.std.specs.Option.{is_some}
use Rattle.std.proofs.lemmas.List.{append_assoc, append_cancel_left}
use Rattle.dh_value.specs.declared.kinds.Kind.{Kind}
use Rattle.dh_value.specs.declared.words.Word.{Word}
use Rattle.dh_value.specs.Words.{value_of}
use Rattle.dh_value.specs.Operations.{is_true}
use Rattle.dh_tree.specs.Elements.{Spot}
use Rattle.dh_tree.specs.Shapes.{IsProgramTable}
use Rattle.dh_plan.specs.declared.operations.Operation.{Operation}
use Rattle.dh_plan.specs.declared.operations.OperationForm.{OperationForm}
use Rattle.dh_plan.specs.declared.operations.OperationForm.TheVariants.{Constant, Old, Compute, Convert, Select, Check, Probe, Read, Write, Set}
use Rattle.dh_plan.specs.declared.operations.PlanBlock.{PlanBlock}
use Rattle.dh_plan.specs.declared.operations.Reach.{Reach}
use Rattle.dh_plan.specs.Blocks.{StepStart, word_at, is_on, spot_of_reach, BlockEvent, fails_unless, fails_outside, puts_inside, operation_form_events, operation_events, block_events, RegisterSet, form_sets, operation_sets, block_sets, first_fault, Put, puts_of}
use Rattle.dh_plan.specs.BlockLaws.{fault_or}
use Rattle.dh_plan.specs.Ordered.{one_or_none, form_takes, operation_takes, IsBetween}
use Rattle.dh_plan.specs.PlainPlans.{PlainPlan, first_in, operations_in}
use Rattle.dh_plan.specs.PlanKinds.{form_kind, FormSuits, IsFormedBlock}
use Rattle.dh_plan.specs.PlanRuns.{start_at, block_values}
use Rattle.dh_plan.specs.SoundPlans.{use_in}
use Rattle.dh_plan.specs.SoundRuns.{AreInKinds}
use Rattle.dh_plan.proofs.Appends.{events_behind, sets_behind, fault_behind, puts_behind}
use Rattle.dh_plan.proofs.ValuesAlike.{all_right}
use Rattle.dh_rows.specs.Readings.{Readings, OperationsGrow}
use Rattle.dh_rows.specs.RowsShown.{HoldsOrNone, is_below_size}
use Rattle.dh_rows.specs.MadeOperations.{pushed, IsMade}
use Rattle.dh_rows.proofs.Growing.{grows_on, obeys_before}
use Rattle.dh_address.proofs.WaySizes.{HasMaps}
use Rattle.dh_address.specs.declared.operands.Ranged.{Ranged}
use Rattle.dh_address.specs.LiteralPlaces.{below_size}
use Rattle.dh_address.specs.Pieces.{RenumberedBlock, new_number, new_or_none, check_made, AreChecked, IsProbed, IsReadMade, IsWriteMade, IsFormMade}
use Rattle.dh_address.specs.Renumbered.{renumbered}
use Rattle.dh_address.proofs.AccessesLead.{holds_on}
use Rattle.dh_address.proofs.AccessesPut.{IsInputOf}
use Rattle.dh_address.proofs.GoodPieces.{obeys_all, AreGoodPieces}
use Rattle.dh_address.proofs.ImageReadings.{block_readings, timeless, FormedBelow}
use Rattle.dh_address.proofs.KnownPieces.{IsPieceAt}
use Rattle.dh_address.proofs.PieceForms.{image_of, around}
use Rattle.dh_address.proofs.PieceShapes.{GrowsQuietly, quietly_same, events_quiet, sets_quiet, adds_quietly, access_quietly, test_quietly, passed_at, value_quietly, inputs_at}
use Rattle.dh_address.proofs.PiecesGrow.{access_grows, checked_grows, probed_grows, value_grows}
use Rattle.dh_address.proofs.TestedRanges.{IsTestable, IsShown, all_in, tested_holds, test_grows, check_grows, checks_grow, begun_later, testable_later}
use Rattle.dh_address.proofs.WordsAlike.{IsSameInKind, passed_shows}
use Rattle.dh_address.proofs.WordsPass.{ReachesListed, SameWord, guard_same, guard_good, form_good, form_begun, meant, means, put_grows}

-- The fault of a check under a guard.
abbrev pub missing : (on ok : Bool) → (fault : ℕ) → Option ℕ
missing on ok fault = if on then (if ok then None else Some fault) else None

missing_both : (on b c : Bool) (fault : ℕ) → fault_or (missing on b fault) (missing on c fault) ≡ missing on (b && c) fault
missing_both true true c fault = refl
missing_both true false c fault = refl
missing_both false b c fault = refl

missing_none : (on : Bool) (fault : ℕ) → None ≡ missing on true fault
missing_none true fault = refl
missing_none false fault = refl

-- What operations do, in a step, together.
pub record DoesSo (s : StepStart) (first : ℕ) (ws : List Word) (os : List Operation) (fault : Option ℕ) (writes : List Put) (sets : List RegisterSet) : Type 0 where
  pub fault_is : first_fault (block_events s first ws os) ≡ fault
  pub writes_are : puts_of (block_events s first ws os) ≡ writes
  pub sets_are : block_sets first ws os ≡ sets

quiet_so : (s : StepStart) (first : ℕ) (ws : List Word) (old new : List Operation) (g : GrowsQuietly old new) → DoesSo s first ws g.more None [] []
quiet_so s first ws old new g = record {
  fault_is = ap first_fault (events_quiet s first ws g.more g.quiet);
  writes_are = ap puts_of (events_quiet s first ws g.more g.quiet);
  sets_are = sets_quiet first ws g.more g.quiet;
}

both_so : (s : StepStart) (first : ℕ) (ws : List Word) (os more : List Operation) (f g : Option ℕ) (v w : List Put) (k l : List RegisterSet)
    → DoesSo s first ws os f v k → DoesSo s first ws more g w l → DoesSo s first ws (os ++ more) (fault_or f g) (v ++ w) (k ++ l)
both_so s first ws os more f g v w k l a b = record {
  fault_is = ap first_fault (events_behind s first ws os more) ∙ (fault_behind (block_events s first ws os) (block_events s first ws more)
      ∙ (ap (λ (x : Option ℕ). fault_or x (first_fault (block_events s first ws more))) a.fault_is ∙ ap (λ (y : Option ℕ). fault_or f y) b.fault_is));
  writes_are = ap puts_of (events_behind s first ws os more) ∙ (puts_behind (block_events s first ws os) (block_events s first ws more)
      ∙ (ap (λ (x : List Put). x ++ puts_of (block_events s first ws more)) a.writes_are ∙ ap (λ (y : List Put). v ++ y) b.writes_are));
  sets_are = sets_behind first ws os more ∙ (ap (λ (x : List RegisterSet). x ++ block_sets first ws more) a.sets_are ∙ ap (λ (y : List RegisterSet). k ++ y) b.sets_are);
}

no_events : (es : List BlockEvent) → es ++ [] ≡ es
no_events [] = refl
no_events (e ∷ es) = ap (λ (fs : List BlockEvent). e ∷ fs) (no_events es)

no_sets : (ss : List RegisterSet) → ss ++ [] ≡ ss
no_sets [] = refl
no_sets (s ∷ ss) = ap (λ (ts : List RegisterSet). s ∷ ts) (no_sets ss)

no_puts : (ps : List Put) → ps ++ [] ≡ ps
no_puts [] = refl
no_puts (p ∷ ps) = ap (λ (qs : List Put). p ∷ qs) (no_puts ps)

-- one operation
one_so : (s : StepStart) (first : ℕ) (ws : List Word) (o : Operation)
    → DoesSo s first ws (o ∷ []) (first_fault (operation_events s first ws o)) (puts_of (operation_events s first ws o)) (operation_sets first ws o)
one_so s first ws o = record {
  fault_is = ap first_fault (no_events (operation_events s first ws o));
  writes_are = ap puts_of (no_events (operation_events s first ws o));
  sets_are = no_sets (operation_sets first ws o);
}

-- what comes behind does so
pub record GrowsSo (s : StepStart) (first : ℕ) (ws : List Word) (old new : List Operation) (fault : Option ℕ) (writes : List Put) (sets : List RegisterSet) : Type 0 where
  pub more : List Operation
  pub appended : new ≡ old ++ more
  pub does : DoesSo s first ws more fault writes sets

grows_quiet : (s : StepStart) (first : ℕ) (ws : List Word) (old new : List Operation) → GrowsQuietly old new → GrowsSo s first ws old new None [] []
grows_quiet s first ws old new g = record { more = g.more; appended = g.appended; does = quiet_so s first ws old new g }

pub grows_both : (s : StepStart) (first : ℕ) (ws : List Word) (a b c : List Operation) (f g : Option ℕ) (v w : List Put) (k l : List RegisterSet)
    → GrowsSo s first ws a b f v k → GrowsSo s first ws b c g w l → GrowsSo s first ws a c (fault_or f g) (v ++ w) (k ++ l)
grows_both s first ws a b c f g v w k l x y = record {
  more = x.more ++ y.more;
  appended = y.appended ∙ (ap (λ (os : List Operation). os ++ y.more) x.appended ∙ append_assoc a x.more y.more);
  does = both_so s first ws x.more y.more f g v w k l x.does y.does;
}

made_so : (s : StepStart) (first : ℕ) (ws : List Word) (old mid : List Operation) (n : ℕ) (g : Option ℕ) (f : OperationForm) → IsMade mid n (pushed old g f)
    → GrowsSo s first ws old mid (first_fault (operation_events s first ws (record { guard = g; form = f }))) (puts_of (operation_events s first ws (record { guard = g; form = f })))
    (operation_sets first ws (record { guard = g; form = f }))
made_so s first ws old mid n g f h = record { more = record { guard = g; form = f } ∷ []; appended = h.0; does = one_so s first ws (record { guard = g; form = f }) }

-- a write where it is made and in range
write_same : (bits : ℕ) (b : Bool) (old new : Option Spot) → ((spot : Spot) → b ≡ true → old ≡ Some spot → new ≡ Some spot)
    → (if b && is_some old then puts_inside bits new else []) ≡ (if b then puts_inside bits old else [])
write_same bits false old new leads = refl
write_same bits true None new leads = refl
write_same bits true (Some spot) new leads = ap (λ (o : Option Spot). puts_inside bits o) (leads spot refl refl)

no_choice : (b : Bool) (es : List BlockEvent) → es ≡ [] → (if b then es else []) ≡ []
no_choice true es e = e
no_choice false es e = refl

no_set_chosen : (b : Bool) (ss : List RegisterSet) → ss ≡ [] → (if b then ss else []) ≡ []
no_set_chosen true ss e = e
no_set_chosen false ss e = refl

fault_alone : (f : Option ℕ) → fault_or f None ≡ f
fault_alone None = refl
fault_alone (Some f) = refl

check_fault : (b c : Bool) (fault : ℕ) → first_fault (if b then fails_unless fault c else []) ≡ missing b c fault
check_fault true true fault = refl
check_fault true false fault = refl
check_fault false c fault = refl

check_puts : (b c : Bool) (fault : ℕ) → puts_of (if b then fails_unless fault c else []) ≡ []
check_puts true true fault = refl
check_puts true false fault = refl
check_puts false c fault = refl

probe_fault : (b : Bool) (o : Option Spot) (fault : ℕ) → first_fault (if b then fails_outside fault o else []) ≡ missing b (is_some o) fault
probe_fault true None fault = refl
probe_fault true (Some spot) fault = refl
probe_fault false o fault = refl

probe_puts : (b : Bool) (o : Option Spot) (fault : ℕ) → puts_of (if b then fails_outside fault o else []) ≡ []
probe_puts true None fault = refl
probe_puts true (Some spot) fault = refl
probe_puts false o fault = refl

-- the same, said of equal faults, writes and sets
so_as : (s : StepStart) (first : ℕ) (ws : List Word) (old new : List Operation) (f g : Option ℕ) (v w : List Put) (k l : List RegisterSet)
    → GrowsSo s first ws old new f v k → f ≡ g → v ≡ w → k ≡ l → GrowsSo s first ws old new g w l
so_as s first ws old new f g v w k l h e d c =
    subst (λ (x : Option ℕ). GrowsSo s first ws old new x w l) e (subst (λ (y : List Put). GrowsSo s first ws old new f y l) d (subst (λ (z : List RegisterSet). GrowsSo s first ws old new f v z) c h))

module _ (p : PlainPlan) (maps : HasMaps p) (tables : IsProgramTable p.table) (bs : List PlanBlock) (block : ℕ) (front : List Operation) (begins : length front ≡ first_in (image_of p bs) block)
    (formed : IsFormedBlock p block) (all_formed : FormedBelow (image_of p bs) block front begins (length (front ++ operations_in (image_of p bs) block)))
    (registers : List ℕ) (memories : List (List ℕ)) where
  abbrev q : PlainPlan
  q = image_of p bs

  abbrev all : List Operation
  all = front ++ operations_in q block

  abbrev old_first : ℕ
  old_first = first_in p block

  abbrev first : ℕ
  first = first_in q block

  abbrev s : StepStart
  s = start_at p registers memories

  abbrev t : StepStart
  t = start_at q registers memories

  abbrev ws : List Word
  ws = block_values p s block

  abbrev vs : List Word
  vs = block_values q t block

  abbrev x : Readings
  x = block_readings q block t

  abbrev y : Readings
  y = timeless q block (start_at q [] [])

  -- what comes behind does what these operations did
  abbrev pub DoesAs : (old new : List Operation) → (os : List Operation) → Type 0
  DoesAs old new os =
      GrowsSo t first vs old new (first_fault (block_events s old_first ws os)) (puts_of (block_events s old_first ws os)) (block_sets old_first ws os)

  abbrev DoesAsOne : (old new : List Operation) → (o : Operation) → Type 0
  DoesAsOne old new o =
      GrowsSo t first vs old new (first_fault (operation_events s old_first ws o)) (puts_of (operation_events s old_first ws o)) (operation_sets old_first ws o)

  module _ (fits : AreInKinds p block ws) (listed : ReachesListed p maps tables bs block front begins formed all_formed registers memories) where
    module _ (ns : List ℕ) (ks : List Kind) (i : ℕ) (o : Operation) (old mid : List Operation) (n : ℕ) (at : IsPieceAt p maps tables bs block front begins formed ns ks i o old mid n)
        (takes : AllByRecursion (λ v. SameWord p maps tables bs block front begins formed all_formed registers memories v (renumbered old_first ns v)) (operation_takes o)) where
      abbrev a : RenumberedBlock
      a = around p block ns ks

      abbrev Good : ℕ → Type 0
      Good v = IsSameInKind p maps tables bs block ns ks registers memories v

      abbrev Begun : ℕ → Type 0
      Begun v = IsBetween old_first (old_first + i) v

      on_same : is_on first vs (new_or_none a o.guard) ≡ is_on old_first ws o.guard
      on_same = guard_same p maps tables bs block front begins formed all_formed registers memories fits listed ns ks i o old mid n at takes o.guard
          (guard_good p maps tables bs block front begins formed all_formed registers memories fits listed ns ks i o old mid n at takes)

      forms_good : AllByRecursion Good (form_takes o.form)
      forms_good = form_good p maps tables bs block front begins formed all_formed registers memories fits listed ns ks i o old mid n at takes

      forms_begun : AllByRecursion Begun (form_takes o.form)
      forms_begun = form_begun p maps tables bs block front begins formed all_formed registers memories fits listed ns ks i o old mid n at takes

      forms_input : AllByRecursion (IsInputOf y 0 a (length old)) (form_takes o.form)
      forms_input = all_right (IsInputOf y 0 a (length old)) (one_or_none o.guard) (form_takes o.form)
          (inputs_at p maps tables bs block front begins formed all_formed ns ks i o old mid n at)

      -- the same operation at new numbers
      same_so : (f f' : OperationForm) → o.form ≡ f → IsMade mid n (pushed old (new_or_none a o.guard) f') → operation_form_events t first vs f' ≡ operation_form_events s old_first ws f → form_sets first vs f' ≡ form_sets old_first ws f
          → DoesAsOne old mid o
      same_so f f' e h events sets =
          let same_events : operation_events t first vs (record { guard = new_or_none a o.guard; form = f' }) ≡ operation_events s old_first ws o =
          ap (λ (b : Bool). if b then operation_form_events t first vs f' else []) on_same
          ∙ ap (λ (es : List BlockEvent). if is_on old_first ws o.guard then es else []) (events ∙ ap (λ (g : OperationForm). operation_form_events s old_first ws g) (sym e))
          in
          let same_sets : operation_sets first vs (record { guard = new_or_none a o.guard; form = f' }) ≡ operation_sets old_first ws o =
          ap (λ (b : Bool). if b then form_sets first vs f' else []) on_same
          ∙ ap (λ (ss : List RegisterSet). if is_on old_first ws o.guard then ss else []) (sets ∙ ap (λ (g : OperationForm). form_sets old_first ws g) (sym e))
          in
          so_as t first vs old mid _ _ _ _ _ _ (made_so t first vs old mid n (new_or_none a o.guard) f' h) (ap first_fault same_events) (ap puts_of same_events) same_sets

      -- Reads and writes.

      read_so : (r : Reach) → o.form ≡ Read r → IsReadMade a (new_or_none a o.guard) r old mid n → DoesAsOne old mid o
      read_so r e h =
          let suits = subst (λ (f : OperationForm). FormSuits p old_first ks f) e at.suits.form in
          let input = subst (λ (f : OperationForm). AllByRecursion (IsInputOf y 0 a (length old)) (form_takes f)) e forms_input in
          let quiet = access_quietly p maps tables bs block front begins formed all_formed ns ks i o old mid n at r suits.0 suits.1 input h.last h.on h.reach h.access
          (access_grows a (new_or_none a o.guard) r old h.last h.on h.reach h.access)
          (put_grows p maps tables bs block front begins formed all_formed registers memories fits listed ns ks i o old mid n at takes h.last h.on (Read h.reach) h.read)
          in
          let own = made_so t first vs h.last mid n h.on (Read h.reach) h.read in
          let nothing = no_choice (is_on first vs h.on) [] refl in
          let no_old = ap (λ (f : OperationForm). if is_on old_first ws o.guard then operation_form_events s old_first ws f else []) e ∙ no_choice (is_on old_first ws o.guard) [] refl in
          let no_old_sets = ap (λ (f : OperationForm). if is_on old_first ws o.guard then form_sets old_first ws f else []) e ∙ no_set_chosen (is_on old_first ws o.guard) [] refl in
          so_as t first vs old mid _ _ _ _ _ _
          (grows_both t first vs old h.last mid None _ [] _ [] _ (grows_quiet t first vs old h.last quiet) own)
          (ap first_fault (nothing ∙ sym no_old)) (ap puts_of (nothing ∙ sym no_old)) (no_set_chosen (is_on first vs h.on) [] refl ∙ sym no_old_sets)

      write_so : (r : Reach) (value : ℕ) → o.form ≡ Write r value → IsWriteMade a (new_or_none a o.guard) r value old mid n → DoesAsOne old mid o
      write_so r value e h =
          let suits = subst (λ (f : OperationForm). FormSuits p old_first ks f) e at.suits.form in
          let input = subst (λ (f : OperationForm). AllByRecursion (IsInputOf y 0 a (length old)) (form_takes f)) e forms_input in
          let good = subst (λ (f : OperationForm). AllByRecursion Good (form_takes f)) e forms_good in
          let begun = subst (λ (f : OperationForm). AllByRecursion Begun (form_takes f)) e forms_begun in
          let grows = put_grows p maps tables bs block front begins formed all_formed registers memories fits listed ns ks i o old mid n at takes h.last h.on (Write h.reach (new_number a value)) h.write in
          let m = means p maps tables bs block front begins formed all_formed registers memories fits listed ns ks i o old mid n at takes r suits.0 good.1 begun.1 h.last h.on h.reach h.access grows in
          let quiet = access_quietly p maps tables bs block front begins formed all_formed ns ks i o old mid n at r suits.0 suits.1.0 input.1 h.last h.on h.reach h.access
          (access_grows a (new_or_none a o.guard) r old h.last h.on h.reach h.access) grows
          in
          let own = made_so t first vs h.last mid n h.on (Write h.reach (new_number a value)) h.write in
          let spot = spot_of_reach s old_first ws r in
          let bits_same = ap (λ (w : Word). puts_inside w.bits (spot_of_reach t first vs h.reach)) good.0.same in
          let same : operation_events t first vs (record { guard = h.on; form = Write h.reach (new_number a value) }) ≡ operation_events s old_first ws o =
          ap (λ (b : Bool). if b then puts_inside (word_at first vs (new_number a value)).bits (spot_of_reach t first vs h.reach) else []) m.on_is
          ∙ (ap (λ (es : List BlockEvent). if is_on old_first ws o.guard && is_some spot then es else []) bits_same
          ∙ (write_same (word_at old_first ws value).bits (is_on old_first ws o.guard) spot (spot_of_reach t first vs h.reach)
          (λ sp on leads. m.leads.leads sp leads (listed i o r sp at.there (ap use_in e) on leads))
          ∙ ap (λ (f : OperationForm). if is_on old_first ws o.guard then operation_form_events s old_first ws f else []) (sym e)))
          in
          let no_old_sets = ap (λ (f : OperationForm). if is_on old_first ws o.guard then form_sets old_first ws f else []) e ∙ no_set_chosen (is_on old_first ws o.guard) [] refl in
          so_as t first vs old mid _ _ _ _ _ _
          (grows_both t first vs old h.last mid None _ [] _ [] _ (grows_quiet t first vs old h.last quiet) own)
          (ap first_fault same) (ap puts_of same) (no_set_chosen (is_on first vs h.on) [] refl ∙ sym no_old_sets)

      -- Probes.

      check_so : (g : Option ℕ) (fault : ℕ) (here : List Operation) (test : Option ℕ) (c : Bool) → HoldsOrNone x test c
          → GrowsSo t first vs here (check_made here g fault test) (missing (is_on first vs g) c fault) [] []
      check_so g fault here None c h =
          so_as t first vs here here None _ [] [] [] [] (grows_quiet t first vs here here (quietly_same here here refl))
          (missing_none (is_on first vs g) fault ∙ ap (λ (b : Bool). missing (is_on first vs g) b fault) (sym h)) refl refl
      check_so g fault here (Some test) c h =
          let ok : is_true (word_at first vs test) ≡ c = holds_on x first vs (λ m. refl) (Some test) c h in
          let same = ap (λ (b : Bool). if is_on first vs g then fails_unless fault b else []) ok in
          so_as t first vs here _ _ _ _ _ _ _ (made_so t first vs here (pushed here g (Check test fault)).operations (length here) g (Check test fault) (refl, refl))
          (ap first_fault same ∙ check_fault (is_on first vs g) c fault) (ap puts_of same ∙ check_puts (is_on first vs g) c fault) (no_set_chosen (is_on first vs g) [] refl)

      checks_so : (fault : ℕ) (rs : List Ranged) (here there : List Operation) → AreChecked (new_or_none a o.guard) fault rs here there → OperationsGrow there all → first ≤ length here
          → AllByRecursion (IsTestable y 0 here) rs → AllByRecursion (IsShown x) rs
          → GrowsSo t first vs here there (missing (is_on first vs (new_or_none a o.guard)) (all_in x rs) fault) [] []
      checks_so fault [] here there h grows begun testable shown =
          so_as t first vs here there None _ [] [] [] [] (grows_quiet t first vs here there (quietly_same here there h)) (missing_none (is_on first vs (new_or_none a o.guard)) fault) refl refl
      checks_so fault (r ∷ rs) here there (middle, (test, (tested, rest))) grows begun testable shown =
          let g = new_or_none a o.guard in
          let b = is_on first vs g in
          let behind = checks_grow g fault rs (check_made middle g fault test) there rest in
          let check = check_grows middle g fault test in
          let to_check = grows_on (check_made middle g fault test) there all behind grows in
          let to_all = grows_on middle _ all check to_check in
          let quiet = test_quietly p maps tables bs block front begins formed all_formed ns ks i o old mid n at r here middle test tested begun testable.0 to_all in
          let grown = test_grows (below_size r.operand.literal r.size) here middle _ _ _ test tested in
          let far = grows_on here middle _ grown check in
          let obeys = obeys_before x middle all to_all (obeys_all p maps tables bs block front begins formed t all_formed) in
          let holds = tested_holds x r here middle test tested begun obeys shown.0 in
          let c = is_below_size (value_of (x.word r.operand.value)) r.size in
          let more = checks_so fault rs (check_made middle g fault test) there rest grows (begun_later x here _ far begun) (testable_later y 0 here _ far rs testable.1) shown.1 in
          so_as t first vs here there _ _ [] [] [] []
          (grows_both t first vs here middle there None _ [] [] [] [] (grows_quiet t first vs here middle quiet)
          (grows_both t first vs middle (check_made middle g fault test) there (missing b c fault) (missing b (all_in x rs) fault) [] [] [] [] (check_so g fault middle test c holds) more))
          (missing_both b c (all_in x rs) fault) refl refl

      probe_so : (r : Reach) (fault : ℕ) → o.form ≡ Probe r fault → IsProbed a (new_or_none a o.guard) r fault old mid n → DoesAsOne old mid o
      probe_so r fault e h =
          let suits = subst (λ (f : OperationForm). FormSuits p old_first ks f) e at.suits.form in
          let input = subst (λ (f : OperationForm). AllByRecursion (IsInputOf y 0 a (length old)) (form_takes f)) e forms_input in
          let good = subst (λ (f : OperationForm). AllByRecursion Good (form_takes f)) e forms_good in
          let begun = subst (λ (f : OperationForm). AllByRecursion Begun (form_takes f)) e forms_begun in
          let m = meant p maps tables bs block front begins formed all_formed registers memories fits listed ns ks i o old mid n at takes r suits.0 good begun in
          let w = passed_at p maps tables bs block front begins formed all_formed ns ks i o old mid n at r suits.0 input h.passed h.ranges h.indices h.passes in
          let checks_grown = checked_grows (new_or_none a o.guard) fault h.ranges h.passed h.checked h.checks in
          let checked = probed_grows a (new_or_none a o.guard) r fault old mid n h in
          let to_all = grows_on h.checked mid all (value_grows a.probed a (new_or_none a o.guard) r h.checked mid n h.value) at.grows in
          let passed_all = grows_on h.passed h.checked all checks_grown to_all in
          let spot = spot_of_reach s old_first ws r in
          let led = passed_shows p maps tables bs block ns ks registers memories r m old at.begun h.passed h.ranges h.indices h.passes
          (obeys_before x h.passed all passed_all (obeys_all p maps tables bs block front begins formed t all_formed)) in
          let inside : all_in x h.ranges ≡ is_some spot = led.in_range in
          let quiet_way = grows_quiet t first vs old h.passed (adds_quietly p maps tables bs block front begins formed all_formed old h.passed w.adds passed_all) in
          let checks = checks_so fault h.ranges h.passed h.checked h.checks to_all (begun_later x old h.passed w.adds.grows at.begun) w.ranges led.shown in
          let quiet = value_quietly p maps tables bs block front begins formed all_formed ns ks i o old mid n at a.probed r h.checked h.value (begun_later x old h.checked checked at.begun) checked input in
          let old_events = ap (λ (f : OperationForm). if is_on old_first ws o.guard then operation_form_events s old_first ws f else []) e in
          so_as t first vs old mid _ _ [] _ [] _
          (grows_both t first vs old h.checked mid (missing (is_on first vs (new_or_none a o.guard)) (all_in x h.ranges) fault) None [] [] [] []
          (grows_both t first vs old h.passed h.checked None (missing (is_on first vs (new_or_none a o.guard)) (all_in x h.ranges) fault) [] [] [] [] quiet_way checks) (grows_quiet t first vs h.checked mid quiet))
          (fault_alone (missing (is_on first vs (new_or_none a o.guard)) (all_in x h.ranges) fault)
          ∙ (ap (λ (b : Bool). missing b (all_in x h.ranges) fault) on_same
          ∙ (ap (λ (c : Bool). missing (is_on old_first ws o.guard) c fault) inside ∙ sym (ap first_fault old_events ∙ probe_fault (is_on old_first ws o.guard) spot fault))))
          (sym (ap puts_of old_events ∙ probe_puts (is_on old_first ws o.guard) spot fault))
          (sym (ap (λ (f : OperationForm). if is_on old_first ws o.guard then form_sets old_first ws f else []) e ∙ no_set_chosen (is_on old_first ws o.guard) [] refl))

      -- One operation.

      form_so : (f : OperationForm) → o.form ≡ f → IsFormMade a (new_or_none a o.guard) f old mid n → AllByRecursion Good (form_takes f) → DoesAsOne old mid o
      form_so (Constant word) e h good = same_so (Constant word) (Constant word) e h refl refl
      form_so (Old register) e h good = same_so (Old register) (Old register) e h refl refl
      form_so (Compute op left right) e h good = same_so (Compute op left right) _ e h refl refl
      form_so (Convert inner to) e h good = same_so (Convert inner to) _ e h refl refl
      form_so (Select test b c) e h good = same_so (Select test b c) _ e h refl refl
      form_so (Check ok fault) e h good = same_so (Check ok fault) (Check (new_number a ok) fault) e h (ap (λ (w : Word). fails_unless fault (is_true w)) good.0.same) refl
      form_so (Probe r fault) e h good = probe_so r fault e h
      form_so (Read r) e h good = read_so r e h
      form_so (Write r value) e h good = write_so r value e h
      form_so (Set register value) e h good =
          same_so (Set register value) (Set register (new_number a value)) e h refl (ap (λ (w : Word). record { register = register; bits = w.bits } ∷ []) good.0.same)

      piece_so : DoesAsOne old mid o
      piece_so = form_so o.form refl at.piece forms_good

    -- All operations of the block.

    abbrev Words : ℕ → ℕ → Type 0
    Words v m = SameWord p maps tables bs block front begins formed all_formed registers memories v m

    pub pieces_so : (rest : List Operation) (ns : List ℕ) (ks : List Kind) (i : ℕ) (old : List Operation) → AreGoodPieces p maps tables bs block front begins formed Words ns ks i rest old → DoesAs old all rest
    pieces_so [] ns ks i old h = grows_quiet t first vs old all (quietly_same old all h)
    pieces_so (o ∷ rest) ns ks i old h =
        let one = piece_so ns ks i o old h.mid h.number h.piece.at h.piece.takes in
        let more = pieces_so rest (ns ++ h.number ∷ []) (ks ++ form_kind p.table p.registers old_first ks o.form ∷ []) (suc i) h.mid h.rest in
        let here = operation_events s old_first ws o in
        let others = block_events s old_first ws rest in
        so_as t first vs old all _ _ _ _ _ _
        (grows_both t first vs old h.mid all (first_fault here) (first_fault others) (puts_of here) (puts_of others) (operation_sets old_first ws o) (block_sets old_first ws rest) one more)
        (sym (fault_behind here others)) (sym (puts_behind here others)) refl

    -- the block does what it did
    pub block_so : AreGoodPieces p maps tables bs block front begins formed Words [] [] 0 (operations_in p block) front
        → DoesSo t first vs (operations_in q block) (first_fault (block_events s old_first ws (operations_in p block))) (puts_of (block_events s old_first ws (operations_in p block)))
        (block_sets old_first ws (operations_in p block))
    block_so h =
        let g = pieces_so (operations_in p block) [] [] 0 front h in
        let same : g.more ≡ operations_in q block = append_cancel_left front g.more (operations_in q block) (sym g.appended) in
        subst (λ (os : List Operation). DoesSo t first vs os (first_fault (block_events s old_first ws (operations_in p block))) (puts_of (block_events s old_first ws (operations_in p block)))
        (block_sets old_first ws (operations_in p block))) same g.does
