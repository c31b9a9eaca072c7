-- Piece by piece each value of a block is that of its new number in the new block.
use Rattle.std.proofs.Common.{◌≡◌, ℕ, ◌+◌, ◌-◌, ◌<◌, ◌≤◌, ◌&&◌, ◌||◌, inl, inr, Some, None, List, Bool, true, false, length, refl, sym, ap, subst, ◌∙◌, arith}
use Rattle.std.specs.Prelude.{[], ◌∷◌, ◌++◌, Option, slice_get, if◌then◌else◌}
use Rattle.std.specs.List.{AllByRecursion}
use Rattle.std.specs.Option.{is_some}
use Rattle.std.proofs.lemmas.Option.{slice_get_within}
use Rattle.dh_value.specs.declared.kinds.Kind.{Kind}
use Rattle.dh_value.specs.declared.operators.Op.TheVariants as op
use Rattle.dh_value.specs.declared.words.Word.{Word}
use Rattle.dh_value.specs.Words.{IsInteger, value_of, with_bits, word_of}
use Rattle.dh_value.specs.Operations.{truth, is_true, binary_of}
use Rattle.dh_tree.specs.Elements.{Spot}
use Rattle.dh_tree.specs.Shapes.{IsProgramTable}
use Rattle.dh_meaning.specs.Effects.{kind_in, bits_at}
use Rattle.dh_plan.specs.declared.operations.Operation.{Operation}
use Rattle.dh_plan.specs.declared.operations.OperationForm.{OperationForm}
use Rattle.dh_plan.specs.declared.operations.OperationForm.TheVariants.{Constant, Old, Compute, Convert, Select, Check, Probe, Read, Write, Set}
use Rattle.dh_plan.specs.declared.operations.PlanBlock.{PlanBlock}
use Rattle.dh_plan.specs.declared.operations.Reach.{Reach}
use Rattle.dh_plan.specs.Blocks.{StepStart, no_word, word_at, is_on, spot_of_reach, in_memories, form_word, guarded, operation_word}
use Rattle.dh_plan.specs.Ordered.{one_or_none, offsets_taken, reach_takes, form_takes, operation_takes, IsBetween}
use Rattle.dh_plan.specs.PlainPlans.{PlainPlan, first_in, operations_in}
use Rattle.dh_plan.specs.PlanKinds.{kind_of_value, kinds_of, ReachSuits, FormSuits, IsFormedBlock}
use Rattle.dh_plan.specs.PlanRuns.{start_at, block_values}
use Rattle.dh_plan.specs.SoundPlans.{use_in, IsListed}
use Rattle.dh_plan.specs.SoundRuns.{IsInKind, AreInKinds}
use Rattle.dh_plan.proofs.ValuesAlike.{all_left, all_right, all_map, memories_look_back}
use Rattle.dh_rows.specs.Readings.{Readings, OperationsGrow}
use Rattle.dh_rows.specs.MadeOperations.{pushed, IsMade}
use Rattle.dh_rows.proofs.Growing.{grows_on, kept_there, pushed_grows, obeys_before, pushed_word}
use Rattle.dh_address.proofs.WaySizes.{HasMaps}
use Rattle.dh_address.specs.Pieces.{RenumberedBlock, is_probe, is_probe_form, new_number, new_or_none, false_behind_all, false_word, new_takes, IsProbeValue, IsAccessMade, IsReadMade, IsWriteMade, IsProbed, IsFormMade}
use Rattle.dh_address.specs.Renumbered.{renumbered}
use Rattle.dh_address.proofs.BlockEquations.{word_solved}
use Rattle.dh_address.proofs.FalsePut.{many_false, many_false_grow}
use Rattle.dh_address.proofs.GoodPieces.{obeys_all, IsGoodStep, AreGoodPieces, good_pieces}
use Rattle.dh_address.proofs.ImageReadings.{block_readings, word_given, FormedBelow, at_last}
use Rattle.dh_address.proofs.KnownPieces.{HasMeaning, IsPieceAt, AllKnown}
use Rattle.dh_address.proofs.PieceForms.{image_of, around}
use Rattle.dh_address.proofs.PiecesGrow.{access_grows, probed_grows}
use Rattle.dh_address.proofs.SuitsKnown.{all_two}
use Rattle.dh_address.proofs.TestedRanges.{begun_later}
use Rattle.dh_address.proofs.WordsAlike.{IsSame, IsSameInKind, IsGoodNumber, IsMeant, AccessMeans, access_means}

-- Choices by guards.

pub guarded_none : (b : Bool) → guarded b no_word ≡ no_word
guarded_none true = refl
guarded_none false = refl

-- a read where it is made and in range, and 0 else
pub read_same : (k : Kind) (memories : List (List ℕ)) (b : Bool) (old new : Option Spot) → ((spot : Spot) → b ≡ true → old ≡ Some spot → new ≡ Some spot)
    → guarded (b && is_some old) (with_bits k (bits_at memories new)) ≡ guarded b (with_bits k (bits_at memories old))
read_same k memories false old new leads = refl
read_same k memories true None new leads = refl
read_same k memories true (Some spot) new leads = ap (λ (o : Option Spot). with_bits k (bits_at memories o)) (leads spot refl refl)

module _ (p : PlainPlan) (maps : HasMaps p) (tables : IsProgramTable p.table) (bs : List PlanBlock) (block : ℕ) (front : List Operation) (begins : length front ≡ first_in (image_of p bs) block)
    (formed : IsFormedBlock p block) (all_formed : FormedBelow (image_of p bs) block front begins (length (front ++ operations_in (image_of p bs) block)))
    (registers : List ℕ) (memories : List (List ℕ)) where
  abbrev q : PlainPlan
  q = image_of p bs

  abbrev os : List Operation
  os = operations_in p block

  abbrev all : List Operation
  all = front ++ operations_in q block

  abbrev old_first : ℕ
  old_first = first_in p block

  abbrev first : ℕ
  first = first_in q block

  abbrev s : StepStart
  s = start_at p registers memories

  abbrev t : StepStart
  t = start_at q registers memories

  abbrev ws : List Word
  ws = block_values p s block

  abbrev vs : List Word
  vs = block_values q t block

  abbrev x : Readings
  x = block_readings q block t

  -- each access that is made and in range reaches a bank of its list
  abbrev pub ReachesListed : Type 0
  ReachesListed =
      (i : ℕ) (o : Operation) (r : Reach) (spot : Spot) → slice_get os i ≡ Some o → use_in o.form ≡ Some r → is_on old_first ws o.guard ≡ true
      → spot_of_reach s old_first ws r ≡ Some spot → (place : ℕ) × IsListed spot.bank place r.banks

  -- a number stands for a value
  abbrev pub SameWord : ℕ → ℕ → Type 0
  SameWord v m = word_at first vs m ≡ word_at old_first ws v

  module _ (fits : AreInKinds p block ws) (listed : ReachesListed) where
    module _ (ns : List ℕ) (ks : List Kind) (i : ℕ) (o : Operation) (old mid : List Operation) (n : ℕ) (at : IsPieceAt p maps tables bs block front begins formed ns ks i o old mid n)
        (takes : AllByRecursion (λ v. SameWord v (renumbered old_first ns v)) (operation_takes o)) where
      abbrev a : RenumberedBlock
      a = around p block ns ks

      pub in_kinds : AllByRecursion (IsSameInKind p maps tables bs block ns ks registers memories) (operation_takes o)
      in_kinds = all_two (λ v. SameWord v (renumbered old_first ns v)) (λ v. kind_of_value old_first ks v ≡ kind_of_value old_first (kinds_of p block) v)
          (IsSameInKind p maps tables bs block ns ks registers memories) (operation_takes o)
          (λ v w e. record { same = w; in_kind = subst (λ (k : Kind). IsInKind k (word_at old_first ws v)) (sym e) (fits v) }) takes at.kinds_same

      pub guard_good : AllByRecursion (IsSameInKind p maps tables bs block ns ks registers memories) (one_or_none o.guard)
      guard_good = all_left (IsSameInKind p maps tables bs block ns ks registers memories) (one_or_none o.guard) (form_takes o.form) in_kinds

      pub form_good : AllByRecursion (IsSameInKind p maps tables bs block ns ks registers memories) (form_takes o.form)
      form_good = all_right (IsSameInKind p maps tables bs block ns ks registers memories) (one_or_none o.guard) (form_takes o.form) in_kinds

      pub form_begun : AllByRecursion (IsBetween old_first (old_first + i)) (form_takes o.form)
      form_begun = all_right (IsBetween old_first (old_first + i)) (one_or_none o.guard) (form_takes o.form) at.early

      pub guard_same : (g : Option ℕ) → AllByRecursion (IsSameInKind p maps tables bs block ns ks registers memories) (one_or_none g) → is_on first vs (new_or_none a g) ≡ is_on old_first ws g
      guard_same None h = refl
      guard_same (Some g) h = ap is_true h.0.same

      pub old_word : word_at old_first ws (old_first + i) ≡ operation_word s (in_memories s old_first) old_first ws (old_first + i) o
      old_word = word_solved s (in_memories s old_first) old_first (memories_look_back s old_first) os i o at.there at.early

      pub new_word : (m : ℕ) (u : Operation) → first ≤ m → slice_get all m ≡ Some u → word_at first vs m ≡ operation_word t (in_memories t first) first vs m u
      new_word m u l there = word_given q block front begins t m u l there (all_formed m u l (slice_get_within all m u there) there).0

      -- what was put down last
      pub made_there : (ps : List Operation) (g : Option ℕ) (f : OperationForm) → IsMade mid n (pushed ps g f) → slice_get all n ≡ Some (record { guard = g; form = f })
      made_there ps g f h =
          kept_there mid all at.grows n _
          (subst (λ (rs : List Operation). slice_get rs n ≡ Some (record { guard = g; form = f })) (sym h.0)
          (subst (λ (m : ℕ). slice_get (pushed ps g f).operations m ≡ Some (record { guard = g; form = f })) (sym h.1) (at_last ps _)))

      made_word : (ps : List Operation) (g : Option ℕ) (f : OperationForm) → IsMade mid n (pushed ps g f) → first ≤ length ps
          → word_at first vs n ≡ guarded (is_on first vs g) (form_word t (in_memories t first) first vs n f)
      made_word ps g f h begun = new_word n (record { guard = g; form = f }) (subst (λ (m : ℕ). first ≤ m) (sym h.1) begun) (made_there ps g f h)

      -- the same operation at new numbers
      same_word : (f f' : OperationForm) → o.form ≡ f → IsMade mid n (pushed old (new_or_none a o.guard) f')
          → form_word t (in_memories t first) first vs n f' ≡ form_word s (in_memories s old_first) old_first ws (old_first + i) f → SameWord (old_first + i) n
      same_word f f' e h same =
          made_word old (new_or_none a o.guard) f' h at.begun
          ∙ (ap (λ (b : Bool). guarded b (form_word t (in_memories t first) first vs n f')) (guard_same o.guard guard_good)
          ∙ (ap (λ (w : Word). guarded (is_on old_first ws o.guard) w) (same ∙ ap (λ (h : OperationForm). form_word s (in_memories s old_first) old_first ws (old_first + i) h) (sym e)) ∙ sym old_word))

      -- What an access means.

      pub numbers_good : (us : List ℕ) → AllByRecursion (λ v. IsInteger (kind_of_value old_first ks v)) us → AllByRecursion (IsSameInKind p maps tables bs block ns ks registers memories) us
          → AllByRecursion (IsBetween old_first (old_first + i)) us → AllByRecursion (IsGoodNumber p maps tables bs block ns ks registers memories) us
      numbers_good [] k h b = tt
      numbers_good (u ∷ us) k h b = (record { begun = b.0.0; sized = k.0; good = h.0 }, numbers_good us k.1 h.1 b.1)

      pub meant : (r : Reach) → ReachSuits p old_first ks r → AllByRecursion (IsSameInKind p maps tables bs block ns ks registers memories) (reach_takes r)
          → AllByRecursion (IsBetween old_first (old_first + i)) (reach_takes r) → IsMeant p maps tables bs block ns ks registers memories r
      meant r suits h b =
          let P = IsSameInKind p maps tables bs block ns ks registers memories in
          let B = IsBetween old_first (old_first + i) in
          let K = λ (v : ℕ). IsInteger (kind_of_value old_first ks v) in
          let behind = all_right P r.indices _ h in
          let bbehind = all_right B r.indices _ b in
          let rest = all_right P (offsets_taken r.steps) _ behind in
          let brest = all_right B (offsets_taken r.steps) _ bbehind in
          record {
            suits = suits;
            indices = numbers_good r.indices (all_left K r.indices (offsets_taken r.steps) suits.indices) (all_left P r.indices _ h) (all_left B r.indices _ b);
            offsets = numbers_good (offsets_taken r.steps) (all_right K r.indices (offsets_taken r.steps) suits.indices) (all_left P (offsets_taken r.steps) _ behind) (all_left B (offsets_taken r.steps) _ bbehind);
            row = numbers_good (one_or_none r.row) suits.row (all_right P (one_or_none r.select) (one_or_none r.row) rest) (all_right B (one_or_none r.select) (one_or_none r.row) brest);
            select = all_map P (IsSame p maps tables bs block ns ks registers memories) (one_or_none r.select) (λ v g. g.same) (all_left P (one_or_none r.select) (one_or_none r.row) rest);
          }

      pub means : (r : Reach) → ReachSuits p old_first ks r → AllByRecursion (IsSameInKind p maps tables bs block ns ks registers memories) (reach_takes r)
          → AllByRecursion (IsBetween old_first (old_first + i)) (reach_takes r)
          → (last : List Operation) (on : Option ℕ) (u : Reach) → IsAccessMade a (new_or_none a o.guard) r old last on u → OperationsGrow last all
          → AccessMeans p maps tables bs block ns ks registers memories o.guard r on u
      means r suits h b last on u made grows =
          access_means p maps tables bs block ns ks registers memories r (meant r suits h b)
          o.guard old last on u made at.begun (obeys_before x last all grows (obeys_all p maps tables bs block front begins formed t all_formed)) at.suits.guard guard_good

      -- Forms.

      pub put_grows : (ps : List Operation) (g : Option ℕ) (f : OperationForm) → IsMade mid n (pushed ps g f) → OperationsGrow ps all
      put_grows ps g f h = grows_on ps mid all (subst (λ (rs : List Operation). OperationsGrow ps rs) (sym h.0) (pushed_grows ps g f)) at.grows

      read_word : (r : Reach) → o.form ≡ Read r → IsReadMade a (new_or_none a o.guard) r old mid n → SameWord (old_first + i) n
      read_word r e h =
          let suits = subst (λ (f : OperationForm). FormSuits p old_first ks f) e at.suits.form in
          let good = subst (λ (f : OperationForm). AllByRecursion (IsSameInKind p maps tables bs block ns ks registers memories) (form_takes f)) e form_good in
          let begun = subst (λ (f : OperationForm). AllByRecursion (IsBetween old_first (old_first + i)) (form_takes f)) e form_begun in
          let m = means r suits.0 good begun h.last h.on h.reach h.access (put_grows h.last h.on (Read h.reach) h.read) in
          let later = begun_later x old h.last (access_grows a (new_or_none a o.guard) r old h.last h.on h.reach h.access) at.begun in
          let spot = spot_of_reach s old_first ws r in
          made_word h.last h.on (Read h.reach) h.read later
          ∙ (ap (λ (b : Bool). guarded b (form_word t (in_memories t first) first vs n (Read h.reach))) m.on_is
          ∙ (ap (λ (j : ℕ). guarded (is_on old_first ws o.guard && is_some spot) (with_bits (kind_in p.table j) (bits_at memories (spot_of_reach t first vs h.reach)))) m.leads.memory
          ∙ (read_same (kind_in p.table r.memory) memories (is_on old_first ws o.guard) spot (spot_of_reach t first vs h.reach)
          (λ sp on leads. m.leads.leads sp leads (listed i o r sp at.there (ap use_in e) on leads))
          ∙ sym (old_word ∙ ap (λ (f : OperationForm). guarded (is_on old_first ws o.guard) (form_word s (in_memories s old_first) old_first ws (old_first + i) f)) e))))

      write_word : (r : Reach) (value : ℕ) → o.form ≡ Write r value → IsWriteMade a (new_or_none a o.guard) r value old mid n → SameWord (old_first + i) n
      write_word r value e h =
          let later = begun_later x old h.last (access_grows a (new_or_none a o.guard) r old h.last h.on h.reach h.access) at.begun in
          made_word h.last h.on (Write h.reach (new_number a value)) h.write later
          ∙ (guarded_none (is_on first vs h.on)
          ∙ sym (old_word ∙ (ap (λ (f : OperationForm). guarded (is_on old_first ws o.guard) (form_word s (in_memories s old_first) old_first ws (old_first + i) f)) e ∙ guarded_none (is_on old_first ws o.guard))))

      false_word_made : (g : Option ℕ) (r : Reach) (checked : List Operation) → IsProbeValue true a g r checked mid n → first ≤ length checked → word_at first vs n ≡ no_word
      false_word_made g r checked h begun =
          let begin = pushed checked None (Constant false_word) in
          let m = false_behind_all begin (new_takes a r) in
          let grown = pushed_grows checked None (Constant false_word) in
          let far = many_false_grow begin (new_takes a r) in
          let at_begin = begun_later x checked begin.operations grown begun in
          let obeys = obeys_before x m.operations all (put_grows m.operations g (Compute op.Either m.value m.value) h) (obeys_all p maps tables bs block front begins formed t all_formed) in
          let here = pushed_word x checked (Constant false_word) refl begun (obeys_before x begin.operations m.operations far obeys) in
          let word = many_false x begin (new_takes a r) at_begin here obeys in
          made_word m.operations g (Compute op.Either m.value m.value) h (begun_later x begin.operations m.operations far at_begin)
          ∙ (ap (λ (w : Word). guarded (is_on first vs g) (truth (is_true w || is_true w))) word ∙ guarded_none (is_on first vs g))

      probe_word : (r : Reach) (fault : ℕ) → o.form ≡ Probe r fault → IsProbed a (new_or_none a o.guard) r fault old mid n → HasMeaning os old_first (old_first + i) → SameWord (old_first + i) n
      probe_word r fault e h (inl probed) =
          false_word_made (new_or_none a o.guard) r h.checked (subst (λ (b : Bool). IsProbeValue b a (new_or_none a o.guard) r h.checked mid n) probed h.value)
          (begun_later x old h.checked (probed_grows a (new_or_none a o.guard) r fault old mid n h) at.begun)
          ∙ sym (old_word ∙ (ap (λ (f : OperationForm). guarded (is_on old_first ws o.guard) (form_word s (in_memories s old_first) old_first ws (old_first + i) f)) e ∙ guarded_none (is_on old_first ws o.guard)))
      probe_word r fault e h (inr not) = absurd (contrary (sym not ∙ (ap (λ (j : ℕ). is_probe (slice_get os j)) (place old_first i) ∙ (ap is_probe at.there ∙ ap is_probe_form e))))
        where
          contrary : false ≡ true → ⊥
          contrary f = cc

          place : (f i : ℕ) → f + i - f ≡ i
          place f i = omega arith

      form_same : (f : OperationForm) → o.form ≡ f → IsFormMade a (new_or_none a o.guard) f old mid n → HasMeaning os old_first (old_first + i)
          → AllByRecursion (IsSameInKind p maps tables bs block ns ks registers memories) (form_takes f) → SameWord (old_first + i) n
      form_same (Constant word) e h m good = same_word (Constant word) (Constant word) e h refl
      form_same (Old register) e h m good = same_word (Old register) (Old register) e h refl
      form_same (Compute o' left right) e h m good =
          same_word (Compute o' left right) (Compute o' (new_number a left) (new_number a right)) e h
          (ap (λ (w : Word). binary_of o' w (word_at first vs (new_number a right))) good.0.same ∙ ap (λ (w : Word). binary_of o' (word_at old_first ws left) w) good.1.0.same)
      form_same (Convert inner to) e h m good = same_word (Convert inner to) (Convert (new_number a inner) to) e h (ap (λ (w : Word). word_of to (value_of w)) good.0.same)
      form_same (Select test b c) e h m good =
          same_word (Select test b c) (Select (new_number a test) (new_number a b) (new_number a c)) e h
          (ap (λ (w : Word). if is_true w then word_at first vs (new_number a b) else word_at first vs (new_number a c)) good.0.same
          ∙ (ap (λ (w : Word). if is_true (word_at old_first ws test) then w else word_at first vs (new_number a c)) good.1.0.same
          ∙ ap (λ (w : Word). if is_true (word_at old_first ws test) then word_at old_first ws b else w) good.1.1.0.same))
      form_same (Check ok fault) e h m good = same_word (Check ok fault) (Check (new_number a ok) fault) e h refl
      form_same (Probe r fault) e h m good = probe_word r fault e h m
      form_same (Read r) e h m good = read_word r e h
      form_same (Write r value) e h m good = write_word r value e h
      form_same (Set register value) e h m good = same_word (Set register value) (Set register (new_number a value)) e h refl

    pub words_step : IsGoodStep p maps tables bs block front begins formed SameWord
    words_step ns ks i o old mid n at takes m =
        form_same ns ks i o old mid n at takes o.form refl at.piece m (form_good ns ks i o old mid n at takes)

    -- all values are those of their new numbers
    pub words_alike : (numbers : List ℕ) → AllKnown p maps tables bs block front begins formed numbers [] [] 0 os front → AreGoodPieces p maps tables bs block front begins formed SameWord [] [] 0 os front
    words_alike numbers k = good_pieces p maps tables bs block front begins formed SameWord words_step os [] [] 0 front numbers k.pieces refl (λ v l m h. absurd (past l m))
      where
        past : {v : ℕ} → old_first ≤ v → v < old_first + 0 → ⊥
        past l m = omega (arith, l, m)
