-- When values are there: in the new block the value that stands for an old one is there at the clock at which the old one
-- is, and all that is put down with it no later. So both blocks have one length.
use Rattle.std.proofs.Common.{◌≡◌, ℕ, suc, ◌+◌, ◌-◌, ◌<◌, ◌≤◌, ◌⊎◌, inl, inr, Some, None, List, Bool, true, false, length, map, refl, sym, ap, subst, ◌∙◌, arith}
use Rattle.std.specs.Prelude.{[], ◌∷◌, ◌++◌, Option, slice_get, max, take, drop, if◌then◌else◌}
use Rattle.std.proofs.lemmas.List.{take-append-drop}
use Rattle.std.specs.List.{AllByRecursion}
use Rattle.std.proofs.lemmas.Option.{slice_get_within}
use Rattle.dh_value.specs.declared.kinds.Kind.{Kind}
use Rattle.dh_value.specs.declared.kinds.Kind.TheVariants as kind
use Rattle.dh_value.specs.declared.operators.Op.TheVariants as op
use Rattle.dh_value.specs.Words.{IsWord}
use Rattle.dh_tree.specs.Elements.{dims_at}
use Rattle.dh_tree.specs.Shapes.{IsProgramTable}
use Rattle.dh_plan.specs.declared.operations.Operation.{Operation}
use Rattle.dh_plan.specs.declared.operations.OperationForm.{OperationForm}
use Rattle.dh_plan.specs.declared.operations.OperationForm.TheVariants.{Constant, Old, Compute, Convert, Select, Check, Probe, Read, Write, Set}
use Rattle.dh_plan.specs.declared.operations.PlanBlock.{PlanBlock}
use Rattle.dh_plan.specs.declared.operations.Reach.{Reach}
use Rattle.dh_plan.specs.LegalSchedules.{is_read, there_at, value_clock, greatest_number, least_clocks}
use Rattle.dh_plan.specs.Ordered.{one_or_none, offsets_taken, reach_takes, form_takes, operation_takes}
use Rattle.dh_plan.specs.PlainPlans.{PlainPlan, first_in, operations_in}
use Rattle.dh_plan.specs.PlanKinds.{kind_of_value, kinds_of, ReachSuits, PicksBank, FormSuits, IsFormedBlock}
use Rattle.dh_plan.specs.PlanRuns.{start_at}
use Rattle.dh_plan.proofs.ValuesAlike.{all_left, all_right, all_map}
use Rattle.dh_rows.specs.Readings.{Readings, Obeys, IsEarlierValue, OperationsGrow, AddsOperations, IsValueOrNone}
use Rattle.dh_rows.specs.MadeOperations.{pushed, IsMade}
use Rattle.dh_rows.proofs.Growing.{grows_self, grows_on, grown_length, kept_there, pushed_grows, obeys_before, maybe_later, adds_on, pushed_adds, pushed_value}
use Rattle.dh_address.proofs.WaySizes.{HasMaps}
use Rattle.dh_address.specs.Pieces.{RenumberedBlock, aimed_reach, indices_and_offsets, is_probe, is_probe_form, new_number, new_or_none, check_made, AreChecked, false_behind_all, false_word, new_takes, waited, is_banked, IsProbeValue, IsAimedReach, IsAccessMade, IsReadMade, IsWriteMade, IsProbed, IsFormMade}
use Rattle.dh_address.specs.declared.operands.BlockValue.{BlockValue}
use Rattle.dh_address.specs.declared.operands.Ranged.{Ranged}
use Rattle.dh_address.specs.LiteralPlaces.{literal_places}
use Rattle.dh_address.specs.Renumbered.{renumbered}
use Rattle.dh_rows.specs.RowsShown.{IsInput}
use Rattle.dh_address.proofs.AccessesPut.{IsInputOf, input_later, maybe_value, aims_put, all_join, IsPicked, IsPicksGiven, PutsAccess, IsNumberThere, IsCountThere}
use Rattle.dh_address.proofs.BlockEquations.{clock_solved}
use Rattle.dh_address.proofs.FalsePut.{many_false_put, many_late}
use Rattle.dh_address.proofs.GoodPieces.{obeys_all, IsGoodStep}
use Rattle.dh_address.proofs.ImageReadings.{block_readings, FormedBelow, clock_given, at_last}
use Rattle.dh_address.proofs.KnownPieces.{HasMeaning, IsKnownValue, IsPieceAt}
use Rattle.dh_address.proofs.PartsOfPieces.{AllBetween, place_of, between_on, made_between, nothing_between}
use Rattle.dh_address.proofs.PieceForms.{image_of, around}
use Rattle.dh_address.proofs.PiecesGrow.{access_grows, aimed_grows, checked_grows, probed_grows, value_grows, but_aim_grows}
use Rattle.dh_address.proofs.WayLengths.{passed_long}
use Rattle.dh_address.proofs.WaysPut.{PutsPassed, passed_put}
use Rattle.dh_address.proofs.SuitsKnown.{all_two}
use Rattle.dh_address.proofs.TestedRanges.{PutsMaybe, IsTestable, all_there, tested_put, testable_later, check_grows, checks_grow, begun_later, guards_put, guards_come, ComesFrom}

-- Greatest numbers.

pub greatest_least : (f : ℕ → ℕ) (vs : List ℕ) → AllByRecursion (λ v. f v ≤ greatest_number (map f vs)) vs
greatest_least f [] = tt
greatest_least f (v ∷ vs) = (omega arith, all_map (λ u. f u ≤ greatest_number (map f vs)) (λ u. f u ≤ max (f v) (greatest_number (map f vs))) vs (λ u l. (omega (arith, l))) (greatest_least f vs))

most_of_map : (f : ℕ → ℕ) (vs : List ℕ) (bound : ℕ) → AllByRecursion (λ v. f v ≤ bound) vs → greatest_number (map f vs) ≤ bound
most_of_map f [] bound h = omega arith
most_of_map f (v ∷ vs) bound h = let a = h.0 in let b = most_of_map f vs bound h.1 in omega (arith, a, b)

there_least : (f : OperationForm) (clock : ℕ) → clock ≤ there_at f clock
there_least f clock = of (is_read f)
  where
    of : (b : Bool) → clock ≤ (if b then suc clock else clock)
    of true = omega arith
    of false = omega arith

both_ways : (m n : ℕ) → m ≤ n → n ≤ m → m ≡ n
both_ways m n l k = omega (arith, l, k)

-- new numbers of values
new_list : (a : RenumberedBlock) (g : Option ℕ) (vs : List ℕ) → one_or_none (new_or_none a g) ++ map (new_number a) vs ≡ map (new_number a) (one_or_none g ++ vs)
new_list a None vs = refl
new_list a (Some g) vs = refl

clocks_mapped : (f k : ℕ → ℕ) (new : ℕ → ℕ) (vs : List ℕ) → AllByRecursion (λ v. f (new v) ≡ k v) vs → map f (map new vs) ≡ map k vs
clocks_mapped f k new [] h = refl
clocks_mapped f k new (v ∷ vs) h =
    let x = h.0 in
    let y = clocks_mapped f k new vs h.1 in
    cc

module _ (p : PlainPlan) (maps : HasMaps p) (tables : IsProgramTable p.table) (bs : List PlanBlock) (block : ℕ) (front : List Operation) (begins : length front ≡ first_in (image_of p bs) block)
    (formed : IsFormedBlock p block) (all_formed : FormedBelow (image_of p bs) block front begins (length (front ++ operations_in (image_of p bs) block))) where
  abbrev q : PlainPlan
  q = image_of p bs

  abbrev os : List Operation
  os = operations_in p block

  abbrev all : List Operation
  all = front ++ operations_in q block

  abbrev old_first : ℕ
  old_first = first_in p block

  abbrev first : ℕ
  first = first_in q block

  abbrev x : Readings
  x = block_readings q block (start_at q [] [])

  -- when an old value is there
  abbrev pub old_clock : ℕ → ℕ
  old_clock v = value_clock old_first os (least_clocks old_first [] [] os) v

  abbrev pub SameClock : ℕ → ℕ → Type 0
  SameClock v m = x.clock m ≡ old_clock v

  obeys : Obeys x all
  obeys = obeys_all p maps tables bs block front begins formed (start_at q [] []) all_formed

  -- the clock of an operation of the new block
  new_clock : (n : ℕ) (u : Operation) → first ≤ n → slice_get all n ≡ Some u → x.clock n ≡ there_at u.form (greatest_number (map x.clock (operation_takes u)))
  new_clock n u l there = clock_given q block front begins n u l there (all_formed n u l (slice_get_within all n u there) there).0 (start_at q [] [])

  -- a value comes no earlier than what its operation takes
  late : (n : ℕ) (u : Operation) → first ≤ n → slice_get all n ≡ Some u → AllByRecursion (λ v. x.clock v ≤ x.clock n) (operation_takes u)
  late n u l there =
      all_map (λ v. x.clock v ≤ greatest_number (map x.clock (operation_takes u))) (λ v. x.clock v ≤ x.clock n) (operation_takes u)
      (λ v h. (let e = new_clock n u l there in let t = there_least u.form (greatest_number (map x.clock (operation_takes u))) in omega (arith, h, e, t))) (greatest_least x.clock (operation_takes u))

  plain_late : (n : ℕ) (f : OperationForm) → first ≤ n → slice_get all n ≡ Some (record { guard = None; form = f }) → AllByRecursion (λ v. x.clock v ≤ x.clock n) (form_takes f)
  plain_late n f l there = late n (record { guard = None; form = f }) l there

  both_late : (n u v : ℕ) → first ≤ n → slice_get all n ≡ Some (record { guard = None; form = Compute op.Both u v }) → x.clock u ≤ x.clock n
  both_late n u v l there = (plain_late n (Compute op.Both u v) l there).0

  -- what was added at a clock is there by then
  added_by : (clock : ℕ) (old new : List Operation) → AddsOperations x clock old new → OperationsGrow new all → first ≤ length old → AllBetween (λ m u. x.clock m ≤ clock) old new
  added_by clock old new adds grows begun m u l e =
      let within = place_of new m u e in
      let h = adds.each m u l e (taken_obeys new grows m) in
      let there = kept_there new all grows m u e in
      obeys.clocks m clock u.form (omega (arith, begun, l)) (record { there = there ∙ ap (λ (g : Option ℕ). Some (record { guard = g; form = u.form })) h.guard; plain = h.plain })
      (all_map (λ v. IsEarlierValue x clock m v) (λ v. x.clock v ≤ clock) (form_takes u.form) (λ v k. k.there) h.takes)
    where
      taken_obeys : (new : List Operation) → OperationsGrow new all → (m : ℕ) → Obeys x (take m new)
      taken_obeys new g m =
          obeys_before x (take m new) new (record { more = drop m new; appended = sym (take-append-drop m new) }) (obeys_before x new all g obeys)

  module _ (ns : List ℕ) (ks : List Kind) (i : ℕ) (o : Operation) (old mid : List Operation) (n : ℕ) (at : IsPieceAt p maps tables bs block front begins formed ns ks i o old mid n)
      (takes : AllByRecursion (λ v. SameClock v (renumbered old_first ns v)) (operation_takes o)) where
    abbrev a : RenumberedBlock
    a = around p block ns ks

    abbrev Timed : ℕ → Type 0
    Timed v = SameClock v (new_number a v)

    -- when all is there that the old operation takes
    abbrev needed : ℕ
    needed = greatest_number (map old_clock (operation_takes o))

    abbrev Input : ℕ → Type 0
    Input v = IsInputOf x needed a (length old) v

    old_time : old_clock (old_first + i) ≡ there_at o.form needed
    old_time = clock_solved old_first os i o at.there at.early

    time_of : (f : OperationForm) → o.form ≡ f → old_clock (old_first + i) ≡ there_at f needed
    time_of f e = old_time ∙ ap (λ (g : OperationForm). there_at g needed) e

    needed_least : needed ≤ old_clock (old_first + i)
    needed_least = let e = old_time in let t = there_least o.form needed in omega (arith, e, t)

    needed_of : (f : OperationForm) → o.form ≡ f → needed ≡ greatest_number (map old_clock (one_or_none o.guard ++ form_takes f))
    needed_of f e = ap (λ (g : OperationForm). greatest_number (map old_clock (one_or_none o.guard ++ form_takes g))) e

    -- the new values are there by then
    pub record IsKnownInTime (v : ℕ) : Type 0 where
      pub known : IsKnownValue p maps tables bs block front begins formed (length old) v (renumbered old_first ns v)
      pub kind_same : kind_of_value old_first ks v ≡ kind_of_value old_first (kinds_of p block) v

    inputs : AllByRecursion Input (operation_takes o)
    inputs =
        all_two IsKnownInTime (λ v. (SameClock v (renumbered old_first ns v)) × (old_clock v ≤ needed)) Input (operation_takes o)
        (λ v h t. record {
          earlier = record { begun = h.known.begun; before = h.known.before; there = (let c = t.0 in let l = t.1 in omega (arith, c, l)) };
          kind_is = h.known.kind_is ∙ sym h.kind_same;
        })
        (all_two (λ v. IsKnownValue p maps tables bs block front begins formed (length old) v (renumbered old_first ns v)) (λ v. kind_of_value old_first ks v ≡ kind_of_value old_first (kinds_of p block) v)
        IsKnownInTime (operation_takes o) (λ v h e. record { known = h; kind_same = e }) at.known at.kinds_same)
        (all_two (λ v. SameClock v (renumbered old_first ns v)) (λ v. old_clock v ≤ needed) (λ v. (SameClock v (renumbered old_first ns v)) × (old_clock v ≤ needed)) (operation_takes o) (λ v c l. (c, l)) takes
        (greatest_least old_clock (operation_takes o)))

    guard_inputs : AllByRecursion Input (one_or_none o.guard)
    guard_inputs = all_left Input (one_or_none o.guard) (form_takes o.form) inputs

    form_inputs : (f : OperationForm) → o.form ≡ f → AllByRecursion Input (form_takes f)
    form_inputs f e = subst (λ (g : OperationForm). AllByRecursion Input (form_takes g)) e (all_right Input (one_or_none o.guard) (form_takes o.form) inputs)

    guard_timed : AllByRecursion Timed (one_or_none o.guard)
    guard_timed = all_left Timed (one_or_none o.guard) (form_takes o.form) takes

    form_timed : (f : OperationForm) → o.form ≡ f → AllByRecursion Timed (form_takes f)
    form_timed f e = subst (λ (g : OperationForm). AllByRecursion Timed (form_takes g)) e (all_right Timed (one_or_none o.guard) (form_takes o.form) takes)

    suits_of : (f : OperationForm) → o.form ≡ f → FormSuits p old_first ks f
    suits_of f e = subst (λ (g : OperationForm). FormSuits p old_first ks g) e at.suits.form

    -- What holds of the piece.
    pub record IsInTime (gives : Type 0) : Type 0 where
      pub own : gives → x.clock n ≡ old_clock (old_first + i)
      pub begun : gives → first ≤ n
      pub within : gives → n < length all
      pub each : AllBetween (λ m u. x.clock m ≤ old_clock (old_first + i)) old mid

    by_then : (a b : List Operation) → AllBetween (λ m u. x.clock m ≤ needed) a b → AllBetween (λ m u. x.clock m ≤ old_clock (old_first + i)) a b
    by_then a b h m u l e = let k = h m u l e in let t = needed_least in omega (arith, k, t)

    made_there : (ps : List Operation) (g : Option ℕ) (f : OperationForm) → IsMade mid n (pushed ps g f) → slice_get all n ≡ Some (record { guard = g; form = f })
    made_there ps g f h =
        kept_there mid all at.grows n _
        (subst (λ (rs : List Operation). slice_get rs n ≡ Some (record { guard = g; form = f })) (sym h.0)
        (subst (λ (m : ℕ). slice_get (pushed ps g f).operations m ≡ Some (record { guard = g; form = f })) (sym h.1) (at_last ps _)))

    made_clock : (ps : List Operation) (g : Option ℕ) (f : OperationForm) → IsMade mid n (pushed ps g f) → first ≤ length ps → x.clock n ≡ there_at f (greatest_number (map x.clock (one_or_none g ++ form_takes f)))
    made_clock ps g f h begun = new_clock n (record { guard = g; form = f }) (subst (λ (m : ℕ). first ≤ m) (sym h.1) begun) (made_there ps g f h)

    -- the last of a piece
    last_in_time : (gives : Type 0) (ps : List Operation) (g : Option ℕ) (f : OperationForm) → first ≤ length ps → IsMade mid n (pushed ps g f) → OperationsGrow ps mid → AllBetween (λ m u. x.clock m ≤ needed) old ps
        → x.clock n ≡ old_clock (old_first + i) → IsInTime gives
    last_in_time gives ps g f begun h grows before own = record {
      own = λ _. own;
      begun = λ _. subst (λ (m : ℕ). first ≤ m) (sym h.1) begun;
      within = λ _. slice_get_within all n _ (made_there ps g f h);
      each = between_on (λ m u. x.clock m ≤ old_clock (old_first + i)) old ps mid grows (by_then old ps before)
          (made_between (λ m u. x.clock m ≤ old_clock (old_first + i)) ps mid n g f h (omega (arith, own)));
    }

    made_all : (ps : List Operation) (g : Option ℕ) (f : OperationForm) → IsMade mid n (pushed ps g f) → OperationsGrow ps mid
    made_all ps g f h = subst (λ (rs : List Operation). OperationsGrow ps rs) (sym h.0) (pushed_grows ps g f)

    same_in_time : (gives : Type 0) (f f' : OperationForm) → o.form ≡ f → IsMade mid n (pushed old (new_or_none a o.guard) f') → form_takes f' ≡ map (new_number a) (form_takes f)
        → ((clock : ℕ) → there_at f' clock ≡ there_at f clock) → IsInTime gives
    same_in_time gives f f' e h mapped form_same =
        last_in_time gives old (new_or_none a o.guard) f' at.begun h (made_all old (new_or_none a o.guard) f' h) (nothing_between (λ m u. x.clock m ≤ needed) old old refl)
        (made_clock old (new_or_none a o.guard) f' h at.begun
        ∙ (ap (λ (vs : List ℕ). there_at f' (greatest_number (map x.clock (one_or_none (new_or_none a o.guard) ++ vs)))) mapped
        ∙ (ap (λ (vs : List ℕ). there_at f' (greatest_number (map x.clock vs))) (new_list a o.guard (form_takes f))
        ∙ (ap (λ (cs : List ℕ). there_at f' (greatest_number cs))
        (clocks_mapped x.clock old_clock (new_number a) (one_or_none o.guard ++ form_takes f) (all_join Timed (one_or_none o.guard) (form_takes f) guard_timed (form_timed f e)))
        ∙ (form_same (greatest_number (map old_clock (one_or_none o.guard ++ form_takes f)))
        ∙ (ap (λ (c : ℕ). there_at f c) (sym (needed_of f e)) ∙ sym (time_of f e)))))))

    -- Accesses.

    -- bounds go back to old values
    back : (bound : ℕ) (vs : List ℕ) → AllByRecursion Timed vs → AllByRecursion (λ m. x.clock m ≤ bound) (map (new_number a) vs) → AllByRecursion (λ v. old_clock v ≤ bound) vs
    back bound [] t h = tt
    back bound (v ∷ vs) t h = ((let c = t.0 in let l = h.0 in omega (arith, c, l)), back bound vs t.1 h.1)

    maybe_back : (bound : ℕ) (v : Option ℕ) → AllByRecursion Timed (one_or_none v) → AllByRecursion (λ m. x.clock m ≤ bound) (one_or_none (new_or_none a v)) → AllByRecursion (λ v. old_clock v ≤ bound) (one_or_none v)
    maybe_back bound None t h = tt
    maybe_back bound (Some v) t h = ((let c = t.0 in let l = h.0 in omega (arith, c, l)), tt)

    waited_back : (bound : ℕ) (here : List Operation) (select : Option ℕ) → first ≤ length here → OperationsGrow (waited here (new_or_none a select)).operations all → AllByRecursion Timed (one_or_none select)
        → AllByRecursion (λ m. x.clock m ≤ bound) (one_or_none (waited here (new_or_none a select)).sum) → AllByRecursion (λ v. old_clock v ≤ bound) (one_or_none select)
    waited_back bound here None begun grows t h = tt
    waited_back bound here (Some v) begun grows t h =
        let l = plain_late (length here) (Convert (new_number a v) (kind.Unsigned 1)) begun (kept_there _ all grows (length here) _ (at_last here _)) in
        ((let c = t.0 in let m = l.0 in let k = h.0 in omega (arith, c, m, k)), tt)

    module _ (r : Reach) (suits : ReachSuits p old_first ks r) (taken : AllByRecursion Timed (reach_takes r)) where
      offsets_timed : AllByRecursion Timed (offsets_taken r.steps)
      offsets_timed = all_left Timed (offsets_taken r.steps) _ (all_right Timed r.indices _ taken)

      rest_timed : AllByRecursion Timed (one_or_none r.select ++ one_or_none r.row)
      rest_timed = all_right Timed (offsets_taken r.steps) _ (all_right Timed r.indices _ taken)

      together : (bound : ℕ) → AllByRecursion (λ v. old_clock v ≤ bound) r.indices → AllByRecursion (λ v. old_clock v ≤ bound) (offsets_taken r.steps)
          → AllByRecursion (λ v. old_clock v ≤ bound) (one_or_none r.select) → AllByRecursion (λ v. old_clock v ≤ bound) (one_or_none r.row)
          → AllByRecursion (λ v. old_clock v ≤ bound) (reach_takes r)
      together bound h e k l =
          all_join (λ v. old_clock v ≤ bound) r.indices _ h (all_join (λ v. old_clock v ≤ bound) (offsets_taken r.steps) _ e
          (all_join (λ v. old_clock v ≤ bound) (one_or_none r.select) (one_or_none r.row) k l))

      -- of indices and offsets
      all_back : (bound : ℕ) → AllByRecursion (λ m. x.clock m ≤ bound) (indices_and_offsets a r) → AllByRecursion (λ v. old_clock v ≤ bound) (one_or_none r.select) → AllByRecursion (λ v. old_clock v ≤ bound) (one_or_none r.row)
          → AllByRecursion (λ v. old_clock v ≤ bound) (reach_takes r)
      all_back bound h k l =
          let P = λ (m : ℕ). x.clock m ≤ bound in
          together bound (back bound r.indices (all_left Timed r.indices _ taken) (all_left P (map (new_number a) r.indices) (map (new_number a) (offsets_taken r.steps)) h))
          (back bound (offsets_taken r.steps) offsets_timed (all_right P (map (new_number a) r.indices) (map (new_number a) (offsets_taken r.steps)) h)) k l

      aims_back : (row : Option ℕ) → r.row ≡ row → (is : List BlockValue) (here last : List Operation) (t : Reach) → IsAimedReach a r row is here last t → first ≤ length here → OperationsGrow last all
          → (bound : ℕ) → AllByRecursion (λ m. x.clock m ≤ bound) (reach_takes t) → AllByRecursion (λ v. old_clock v ≤ bound) (reach_takes r)
      aims_back None e is here last t h begun grows bound below =
          let P = λ (m : ℕ). x.clock m ≤ bound in
          let w = waited here (new_or_none a r.select) in
          let b = subst (λ (u : Reach). AllByRecursion P (reach_takes u)) h.reach below in
          let first_part = all_left P (indices_and_offsets a r ++ one_or_none w.sum) _ b in
          let to_last = but_aim_grows (literal_places (dims_at p.table r.memory) is 0 0) _ _ _ _ (is_banked r) w.operations last h.row h.select h.aim in
          all_back bound (all_left P (indices_and_offsets a r) _ first_part)
          (waited_back bound here r.select begun (grows_on w.operations last all to_last grows) (all_left Timed (one_or_none r.select) (one_or_none r.row) rest_timed) (all_right P (indices_and_offsets a r) _ first_part))
          (subst (λ (o : Option ℕ). AllByRecursion (λ v. old_clock v ≤ bound) (one_or_none o)) (sym e) tt)
      aims_back (Some row) e is here last t h begun grows bound below =
          let P = λ (m : ℕ). x.clock m ≤ bound in
          let b = subst (λ (u : Reach). AllByRecursion P (reach_takes u)) h.1 below in
          let rest = all_right P (indices_and_offsets a r) _ b in
          let row_timed = subst (λ (o : Option ℕ). AllByRecursion Timed (one_or_none o)) e (all_right Timed (one_or_none r.select) (one_or_none r.row) rest_timed) in
          let row_below = all_right P (one_or_none (new_or_none a r.select)) (new_number a row ∷ []) rest in
          all_back bound (all_left P (indices_and_offsets a r) _ b)
          (maybe_back bound r.select (all_left Timed (one_or_none r.select) (one_or_none r.row) rest_timed) (all_left P (one_or_none (new_or_none a r.select)) (new_number a row ∷ []) rest))
          (subst (λ (o : Option ℕ). AllByRecursion (λ v. old_clock v ≤ bound) (one_or_none o)) (sym e) ((let c = row_timed.0 in let l = row_below.0 in omega (arith, c, l)), tt))

      -- bounds of what a use takes
      pub record IsTimedUse (last : List Operation) (on : Option ℕ) (t : Reach) : Type 0 where
        pub before : AllBetween (λ m u. x.clock m ≤ needed) old last
        pub on_by_then : AllByRecursion (λ v. x.clock v ≤ needed) (one_or_none on)
        pub takes_by_then : AllByRecursion (λ v. x.clock v ≤ needed) (reach_takes t)
        pub guard_back : (bound : ℕ) → AllByRecursion (λ v. x.clock v ≤ bound) (one_or_none on) → AllByRecursion (λ v. old_clock v ≤ bound) (one_or_none o.guard)
        pub takes_back : (bound : ℕ) → AllByRecursion (λ v. x.clock v ≤ bound) (reach_takes t) → AllByRecursion (λ v. old_clock v ≤ bound) (reach_takes r)

      from_guard : (last : List Operation) (on : Option ℕ) (g : Option ℕ) → AllByRecursion Timed (one_or_none g) → ((bound : ℕ) → ComesFrom x all both_late bound (new_or_none a g) → ComesFrom x all both_late bound on)
          → (bound : ℕ) → AllByRecursion (λ v. x.clock v ≤ bound) (one_or_none on) → AllByRecursion (λ v. old_clock v ≤ bound) (one_or_none g)
      from_guard last on None t comes bound h = tt
      from_guard last on (Some g) t comes bound h = (of on (comes (old_clock g) (let c = t.0 in omega (arith, c))) h, tt)
        where
          of : (on : Option ℕ) → ComesFrom x all both_late (old_clock g) on → AllByRecursion (λ v. x.clock v ≤ bound) (one_or_none on) → old_clock g ≤ bound
          of None c k = absurd c
          of (Some m) c k = let l = k.0 in omega (arith, c, l)

      on_bound : (last : List Operation) (on : Option ℕ) → Obeys x last → IsValueOrNone x needed last kind.Bool on → AllByRecursion (λ v. x.clock v ≤ needed) (one_or_none on)
      on_bound last None h v = tt
      on_bound last (Some g) h v = ((v h).earlier.there, tt)

      -- what is there by then, once row and bank are put down
      of_access : (here last : List Operation) (on : Option ℕ) (t : Reach) → PutsMaybe x needed old here kind.Bool on → PutsAccess x needed a r here last t → OperationsGrow last all
          → AllBetween (λ m u. x.clock m ≤ needed) old last × (AllByRecursion (λ v. x.clock v ≤ needed) (one_or_none on) × AllByRecursion (λ v. x.clock v ≤ needed) (reach_takes t))
      of_access here last on t guards access grows =
          let whole = obeys_before x last all grows obeys in
          let P = λ (v : ℕ). x.clock v ≤ needed in (
            added_by needed old last (adds_on x needed old here last guards.adds access.adds) grows at.begun,
            (
              on_bound last on whole (maybe_later x needed here last kind.Bool on access.adds.grows guards.stands),
              aimed_bound access.taken access.row access.select access.reach
                  (all_join P access.taken _ (all_map (IsNumberThere x needed a last) P access.taken (λ v k. (k whole).0.there) access.taken_there)
                  (all_join P (one_or_none access.select) _ (all_map (IsCountThere x needed a last) P (one_or_none access.select) (λ v k. (k whole).0.there) access.select_there) ((access.row_there whole).0.there, tt))),
            ),
          )
        where
          aimed_bound : (vs : List ℕ) (row : ℕ) (select : Option ℕ) → t ≡ aimed_reach r vs row select → AllByRecursion (λ v. x.clock v ≤ needed) (reach_takes (aimed_reach r vs row select))
              → AllByRecursion (λ v. x.clock v ≤ needed) (reach_takes t)
          aimed_bound vs row select e h = subst (λ (u : Reach). AllByRecursion (λ v. x.clock v ≤ needed) (reach_takes u)) (sym e) h

      of_guards : (last : List Operation) (on : Option ℕ) (t : Reach) (h : IsAccessMade a (new_or_none a o.guard) r old last on t) → OperationsGrow last all → PutsPassed x needed old h.passed h.ranges h.indices
          → AllByRecursion Input (reach_takes r) → IsPicksGiven x needed a r r.row → IsTimedUse last on t
      of_guards last on t h grows w input picks =
          let at_passed = begun_later x old h.passed w.adds.grows at.begun in
          let guard_in = all_map Input (IsInputOf x needed a (length h.passed)) (one_or_none o.guard) (λ v k. input_later x needed a (length old) (length h.passed) v (grown_length old h.passed w.adds.grows) k) guard_inputs in
          let tests = guards_put x needed (new_or_none a o.guard) h.ranges h.passed h.guarded on h.guards at_passed w.ranges (maybe_value x needed a h.passed kind.Bool o.guard at.suits.guard guard_in) in
          let adds = adds_on x needed old h.passed h.guarded w.adds tests.adds in
          let begun = begun_later x old h.guarded adds.grows at.begun in
          let later = all_map Input (IsInputOf x needed a (length h.guarded)) (reach_takes r) (λ v k. input_later x needed a (length old) (length h.guarded) v (grown_length old h.guarded adds.grows) k) input in
          let so = of_access h.guarded last on t (record { adds = adds; stands = tests.stands })
          (aims_put x needed a p refl tables r suits r.row refl picks h.indices h.guarded last t h.aims begun (passed_long a p maps refl r suits old h.passed h.ranges h.indices h.passes)
          (all_there x needed h.passed h.guarded tests.adds.grows h.indices w.indices) later) grows
          in
          record {
            before = so.0;
            on_by_then = so.1.0;
            takes_by_then = so.1.1;
            guard_back = λ bound below. from_guard last on o.guard guard_timed
                (λ b c. guards_come x all both_late (new_or_none a o.guard) h.ranges h.passed h.guarded on b h.guards at_passed (grows_on h.guarded last all (aimed_grows a r r.row h.indices h.guarded last t h.aims) grows) c) bound below;
            takes_back = λ bound below. aims_back r.row refl h.indices h.guarded last t h.aims begun grows bound below;
          }

      use_timed : PicksBank p old_first ks r r.row r.select → AllByRecursion Input (reach_takes r) → (last : List Operation) (on : Option ℕ) (t : Reach) → IsAccessMade a (new_or_none a o.guard) r old last on t
          → OperationsGrow last all → IsTimedUse last on t
      use_timed picks input last on t h grows =
          of_guards last on t h grows (passed_put x needed a p maps tables refl r suits old h.passed h.ranges h.indices h.passes at.begun input) input (given r.row picks)
        where
          given : (row : Option ℕ) → PicksBank p old_first ks r row r.select → IsPicksGiven x needed a r row
          given None h = tt
          given (Some row) h = of r.select h
            where
              of : (select : Option ℕ) → PicksBank p old_first ks r (Some row) select → IsPicked x needed a r select
              of None k = k
              of (Some v) k = tt

    read_in_time : (gives : Type 0) (r : Reach) → o.form ≡ Read r → IsReadMade a (new_or_none a o.guard) r old mid n → IsInTime gives
    read_in_time gives r e h =
        let suits = suits_of (Read r) e in
        let to_mid = made_all h.last h.on (Read h.reach) h.read in
        let grows = grows_on h.last mid all to_mid at.grows in
        let u = use_timed r suits.0 (form_timed (Read r) e) suits.1 (form_inputs (Read r) e) h.last h.on h.reach h.access grows in
        let begun = begun_later x old h.last (access_grows a (new_or_none a o.guard) r old h.last h.on h.reach h.access) at.begun in
        let P = λ (v : ℕ). x.clock v ≤ needed in
        let new = greatest_number (map x.clock (one_or_none h.on ++ reach_takes h.reach)) in
        let most = most_of_map x.clock (one_or_none h.on ++ reach_takes h.reach) needed (all_join P (one_or_none h.on) (reach_takes h.reach) u.on_by_then u.takes_by_then) in
        let below = greatest_least x.clock (one_or_none h.on ++ reach_takes h.reach) in
        let Q = λ (v : ℕ). x.clock v ≤ new in
        let R = λ (v : ℕ). old_clock v ≤ new in
        let least = most_of_map old_clock (one_or_none o.guard ++ reach_takes r) new
        (all_join R (one_or_none o.guard) (reach_takes r) (u.guard_back new (all_left Q (one_or_none h.on) _ below)) (u.takes_back new (all_right Q (one_or_none h.on) _ below)))
        in
        let same : new ≡ needed = both_ways new needed most (subst (λ (c : ℕ). c ≤ new) (sym (needed_of (Read r) e)) least) in
        last_in_time gives h.last h.on (Read h.reach) begun h.read to_mid u.before
        (made_clock h.last h.on (Read h.reach) h.read begun ∙ (ap suc same ∙ sym (time_of (Read r) e)))

    write_in_time : (gives : Type 0) (r : Reach) (value : ℕ) → o.form ≡ Write r value → IsWriteMade a (new_or_none a o.guard) r value old mid n → IsInTime gives
    write_in_time gives r value e h =
        let suits = suits_of (Write r value) e in
        let timed = form_timed (Write r value) e in
        let input = form_inputs (Write r value) e in
        let to_mid = made_all h.last h.on (Write h.reach (new_number a value)) h.write in
        let grows = grows_on h.last mid all to_mid at.grows in
        let u = use_timed r suits.0 timed.1 suits.1.0 input.1 h.last h.on h.reach h.access grows in
        let begun = begun_later x old h.last (access_grows a (new_or_none a o.guard) r old h.last h.on h.reach h.access) at.begun in
        let P = λ (v : ℕ). x.clock v ≤ needed in
        let news = one_or_none h.on ++ (new_number a value ∷ reach_takes h.reach) in
        let new = greatest_number (map x.clock news) in
        let most = most_of_map x.clock news needed (all_join P (one_or_none h.on) (new_number a value ∷ reach_takes h.reach) u.on_by_then (input.0.earlier.there, u.takes_by_then)) in
        let below = greatest_least x.clock news in
        let Q = λ (v : ℕ). x.clock v ≤ new in
        let R = λ (v : ℕ). old_clock v ≤ new in
        let rest = all_right Q (one_or_none h.on) (new_number a value ∷ reach_takes h.reach) below in
        let least = most_of_map old_clock (one_or_none o.guard ++ (value ∷ reach_takes r)) new
        (all_join R (one_or_none o.guard) (value ∷ reach_takes r) (u.guard_back new (all_left Q (one_or_none h.on) _ below))
        (let c = timed.0 in let l = rest.0 in omega (arith, c, l), u.takes_back new rest.1))
        in
        let same : new ≡ needed = both_ways new needed most (subst (λ (c : ℕ). c ≤ new) (sym (needed_of (Write r value) e)) least) in
        last_in_time gives h.last h.on (Write h.reach (new_number a value)) begun h.write to_mid u.before
        (made_clock h.last h.on (Write h.reach (new_number a value)) h.write begun ∙ (same ∙ sym (time_of (Write r value) e)))

    -- Probes.

    new_guard_bound : (g : Option ℕ) → AllByRecursion Input (one_or_none g) → AllByRecursion (λ v. x.clock v ≤ needed) (one_or_none (new_or_none a g))
    new_guard_bound None h = tt
    new_guard_bound (Some g) h = (h.0.earlier.there, tt)

    check_by_then : (fault : ℕ) (here : List Operation) (test : Option ℕ) → first ≤ length here → OperationsGrow (check_made here (new_or_none a o.guard) fault test) all → Obeys x here → IsValueOrNone x needed here kind.Bool test
        → AllBetween (λ m u. x.clock m ≤ needed) here (check_made here (new_or_none a o.guard) fault test)
    check_by_then fault here None begun grows h v = nothing_between (λ m u. x.clock m ≤ needed) here here refl
    check_by_then fault here (Some test) begun grows h v =
        let g = new_or_none a o.guard in
        let P = λ (m : ℕ). x.clock m ≤ needed in
        let c = new_clock (length here) (record { guard = g; form = Check test fault }) begun (kept_there _ all grows (length here) _ (at_last here _)) in
        let most = most_of_map x.clock (one_or_none g ++ (test ∷ [])) needed (all_join P (one_or_none g) (test ∷ []) (new_guard_bound o.guard guard_inputs) ((v h).earlier.there, tt)) in
        made_between (λ m u. x.clock m ≤ needed) here (check_made here g fault (Some test)) (length here) g (Check test fault) (refl, refl) (omega (arith, c, most))

    checks_by_then : (fault : ℕ) (rs : List Ranged) (here there : List Operation) → AreChecked (new_or_none a o.guard) fault rs here there → OperationsGrow there all → first ≤ length here
        → AllByRecursion (IsTestable x needed here) rs → AllBetween (λ m u. x.clock m ≤ needed) here there
    checks_by_then fault [] here there h grows begun testable = nothing_between (λ m u. x.clock m ≤ needed) here there h
    checks_by_then fault (r ∷ rs) here there (middle, (test, (tested, rest))) grows begun testable =
        let P = λ (m : ℕ) (u : Operation). x.clock m ≤ needed in
        let g = new_or_none a o.guard in
        let behind = checks_grow g fault rs (check_made middle g fault test) there rest in
        let check = check_grows middle g fault test in
        let to_check = grows_on (check_made middle g fault test) there all behind grows in
        let to_all = grows_on middle _ all check to_check in
        let one = tested_put x needed r here middle test tested begun testable.0 in
        let far = grows_on here middle _ one.adds.grows check in
        let at_middle = begun_later x here middle one.adds.grows begun in
        between_on P here middle there (grows_on middle _ there check behind) (added_by needed here middle one.adds to_all begun)
        (between_on P middle (check_made middle g fault test) there behind (check_by_then fault middle test at_middle to_check (obeys_before x middle all to_all obeys) one.stands)
        (checks_by_then fault rs (check_made middle g fault test) there rest grows (begun_later x here _ far begun) (testable_later x needed here _ far rs testable.1)))

    -- what a probe gives, where it is taken
    module _ (r : Reach) (suits : ReachSuits p old_first ks r) (timed : AllByRecursion Timed (reach_takes r)) (input : AllByRecursion Input (reach_takes r)) (fault : ℕ) (e : o.form ≡ Probe r fault)
        (checked : List Operation) (grown : OperationsGrow old checked) (before : AllBetween (λ m u. x.clock m ≤ needed) old checked) where
      begun_checked : first ≤ length checked
      begun_checked = begun_later x old checked grown at.begun

      chain_inputs : (here : List Operation) → OperationsGrow old here → AllByRecursion (λ v. IsInput x needed here v) (new_takes a r)
      chain_inputs here g =
          let I = λ (v : ℕ). IsInput x needed here v in
          let later = all_map Input (IsInputOf x needed a (length here)) (reach_takes r) (λ v k. input_later x needed a (length old) (length here) v (grown_length old here g) k) input in
          let J = IsInputOf x needed a (length here) in
          let behind = all_right J r.indices _ later in
          let rest = all_right J (offsets_taken r.steps) _ behind in
          all_join I (indices_and_offsets a r) _
          (all_join I (map (new_number a) r.indices) (map (new_number a) (offsets_taken r.steps)) (mapped r.indices (all_left J r.indices _ later)) (mapped (offsets_taken r.steps) (all_left J (offsets_taken r.steps) _ behind)))
          (all_join I (one_or_none (new_or_none a r.select)) _ (maybe r.select (all_left J (one_or_none r.select) (one_or_none r.row) rest))
          (maybe r.row (all_right J (one_or_none r.select) (one_or_none r.row) rest)))
        where
          mapped : (vs : List ℕ) → AllByRecursion (IsInputOf x needed a (length here)) vs → AllByRecursion (λ v. IsInput x needed here v) (map (new_number a) vs)
          mapped [] h = tt
          mapped (v ∷ vs) h = (λ o. h.0.earlier, mapped vs h.1)

          maybe : (v : Option ℕ) → AllByRecursion (IsInputOf x needed a (length here)) (one_or_none v) → AllByRecursion (λ v. IsInput x needed here v) (one_or_none (new_or_none a v))
          maybe None h = tt
          maybe (Some v) h = (λ o. h.0.earlier, tt)

      chain_back : (bound : ℕ) → AllByRecursion (λ m. x.clock m ≤ bound) (new_takes a r) → AllByRecursion (λ v. old_clock v ≤ bound) (reach_takes r)
      chain_back bound h =
          let P = λ (m : ℕ). x.clock m ≤ bound in
          let rest = all_right P (indices_and_offsets a r) _ h in
          let t = rest_timed r suits timed in
          all_back r suits timed bound (all_left P (indices_and_offsets a r) _ h)
          (maybe_back bound r.select (all_left Timed (one_or_none r.select) (one_or_none r.row) t) (all_left P (one_or_none (new_or_none a r.select)) _ rest))
          (maybe_back bound r.row (all_right Timed (one_or_none r.select) (one_or_none r.row) t) (all_right P (one_or_none (new_or_none a r.select)) _ rest))

      value_in_time : (probed : Bool) → IsProbeValue probed a (new_or_none a o.guard) r checked mid n → IsInTime ((probed ≡ true) ⊎ (true ≡ false))
      value_in_time false h = record { own = λ g. absurd (never g); begun = λ g. absurd (never g); within = λ g. absurd (never g); each = by_then old mid (between_on (λ m u. x.clock m ≤ needed) old checked mid same_grows before (nothing_between (λ m u. x.clock m ≤ needed) checked mid h)) }
        where
          never : (false ≡ true) ⊎ (true ≡ false) → ⊥
          never (inl c) = cc
          never (inr c) = cc

          same_grows : OperationsGrow checked mid
          same_grows = subst (λ (ps : List Operation). OperationsGrow checked ps) (sym h) (grows_self checked)
      value_in_time true h =
          let g = new_or_none a o.guard in
          let begin = pushed checked None (Constant false_word) in
          let word : IsWord false_word = record { sized = (omega arith, omega arith); fits = omega arith } in
          let first_adds = pushed_adds x needed checked (Constant false_word) refl begun_checked (λ c. tt) (λ c. word) in
          let first_stands = pushed_value x needed checked (Constant false_word) refl begun_checked (λ c. tt) (λ c. word) kind.Bool (λ c. refl) in
          let at_begin = begun_later x checked begin.operations first_adds.grows begun_checked in
          let chain = many_false_put x needed begin (new_takes a r) at_begin first_stands (chain_inputs begin.operations (grows_on old checked begin.operations grown first_adds.grows)) in
          let m = false_behind_all begin (new_takes a r) in
          let adds = adds_on x needed checked begin.operations m.operations first_adds chain.adds in
          let to_mid = made_all m.operations g (Compute op.Either m.value m.value) h in
          let to_all = grows_on m.operations mid all to_mid at.grows in
          let stands = chain.stands (obeys_before x m.operations all to_all obeys) in
          let P = λ (v : ℕ). x.clock v ≤ needed in
          let news = one_or_none g ++ (m.value ∷ m.value ∷ []) in
          let new = greatest_number (map x.clock news) in
          let most = most_of_map x.clock news needed (all_join P (one_or_none g) (m.value ∷ m.value ∷ []) (new_guard_bound o.guard guard_inputs) (stands.earlier.there, (stands.earlier.there, tt))) in
          let Q = λ (v : ℕ). x.clock v ≤ new in
          let below = greatest_least x.clock news in
          let value_below = (all_right Q (one_or_none g) (m.value ∷ m.value ∷ []) below).0 in
          let late_values = (many_late x all plain_late begin (new_takes a r) at_begin to_all).1 in
          let R = λ (v : ℕ). old_clock v ≤ new in
          let least = most_of_map old_clock (one_or_none o.guard ++ reach_takes r) new
          (all_join R (one_or_none o.guard) (reach_takes r) (maybe_back new o.guard guard_timed (all_left Q (one_or_none g) _ below))
          (chain_back new (all_map (λ v. x.clock v ≤ x.clock m.value) Q (new_takes a r) (λ v l. (omega (arith, l, value_below))) late_values)))
          in
          let same : new ≡ needed = both_ways new needed most (subst (λ (c : ℕ). c ≤ new) (sym (needed_of (Probe r fault) e)) least) in
          last_in_time ((true ≡ true) ⊎ (true ≡ false)) m.operations g (Compute op.Either m.value m.value) (begun_later x checked m.operations adds.grows begun_checked) h to_mid
          (between_on (λ m u. x.clock m ≤ needed) old checked m.operations adds.grows before (added_by needed checked m.operations adds to_all begun_checked))
          (made_clock m.operations g (Compute op.Either m.value m.value) h (begun_later x checked m.operations adds.grows begun_checked) ∙ (same ∙ sym (time_of (Probe r fault) e)))

    probe_in_time : (r : Reach) (fault : ℕ) → o.form ≡ Probe r fault → IsProbed a (new_or_none a o.guard) r fault old mid n → IsInTime ((a.probed ≡ true) ⊎ (true ≡ false))
    probe_in_time r fault e h =
        let suits = suits_of (Probe r fault) e in
        let checks = checked_grows (new_or_none a o.guard) fault h.ranges h.passed h.checked h.checks in
        let checked = probed_grows a (new_or_none a o.guard) r fault old mid n h in
        let to_all = grows_on h.checked mid all (value_grows a.probed a (new_or_none a o.guard) r h.checked mid n h.value) at.grows in
        let input = form_inputs (Probe r fault) e in
        let w = passed_put x needed a p maps tables refl r suits.0 old h.passed h.ranges h.indices h.passes at.begun input in
        value_in_time r suits.0 (form_timed (Probe r fault) e) input fault e h.checked checked
        (between_on (λ m u. x.clock m ≤ needed) old h.passed h.checked checks (added_by needed old h.passed w.adds (grows_on h.passed h.checked all checks to_all) at.begun)
        (checks_by_then fault h.ranges h.passed h.checked h.checks to_all (begun_later x old h.passed w.adds.grows at.begun) w.ranges)) a.probed h.value

    form_in_time : (f : OperationForm) → o.form ≡ f → IsFormMade a (new_or_none a o.guard) f old mid n → IsInTime ((a.probed ≡ true) ⊎ (is_probe_form f ≡ false))
    form_in_time (Constant word) e h = same_in_time _ (Constant word) (Constant word) e h refl (λ c. refl)
    form_in_time (Old register) e h = same_in_time _ (Old register) (Old register) e h refl (λ c. refl)
    form_in_time (Compute op left right) e h = same_in_time _ (Compute op left right) _ e h refl (λ c. refl)
    form_in_time (Convert inner to) e h = same_in_time _ (Convert inner to) _ e h refl (λ c. refl)
    form_in_time (Select test b c) e h = same_in_time _ (Select test b c) _ e h refl (λ c. refl)
    form_in_time (Check ok fault) e h = same_in_time _ (Check ok fault) _ e h refl (λ c. refl)
    form_in_time (Probe r fault) e h = probe_in_time r fault e h
    form_in_time (Read r) e h = read_in_time _ r e h
    form_in_time (Write r value) e h = write_in_time _ r value e h
    form_in_time (Set register value) e h = same_in_time _ (Set register value) _ e h refl (λ c. refl)

    pub in_time : IsInTime ((a.probed ≡ true) ⊎ (is_probe_form o.form ≡ false))
    in_time = form_in_time o.form refl at.piece

    pub own_meaning : HasMeaning os old_first (old_first + i) → (a.probed ≡ true) ⊎ (is_probe_form o.form ≡ false)
    own_meaning (inl e) = inl e
    own_meaning (inr e) = inr (sym (ap (λ (j : ℕ). is_probe (slice_get os j)) (place old_first i) ∙ ap is_probe at.there) ∙ e)
      where
        place : (f i : ℕ) → f + i - f ≡ i
        place f i = omega arith

  pub clocks_step : IsGoodStep p maps tables bs block front begins formed SameClock
  clocks_step ns ks i o old mid n at takes m = (in_time ns ks i o old mid n at takes).own (own_meaning ns ks i o old mid n at takes m)
