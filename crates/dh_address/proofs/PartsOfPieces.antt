-- Of which old operation an operation of the new block is part, and as what: a plain one, the check of a probe, or the old
-- operation itself at new numbers.
use Rattle.std.proofs.Common.{◌≡◌, ℕ, zero, suc, ◌+◌, ◌-◌, ◌<◌, ◌≤◌, ◌⊎◌, inl, inr, Some, None, List, length, refl, sym, ap, subst, ◌∙◌, arith}
use Rattle.std.specs.Prelude.{[], ◌∷◌, ◌++◌, Option, slice_get}
use Rattle.std.specs.List.{AllByRecursion}
use Rattle.std.proofs.lemmas.Bool.{cases_lt}
use Rattle.std.proofs.lemmas.List.{length-append}
use Rattle.dh_value.specs.declared.kinds.Kind.{Kind}
use Rattle.dh_tree.specs.Shapes.{IsProgramTable}
use Rattle.dh_plan.specs.declared.operations.Operation.{Operation}
use Rattle.dh_plan.specs.declared.operations.OperationForm.{OperationForm}
use Rattle.dh_plan.specs.declared.operations.OperationForm.TheVariants.{Constant, Old, Compute, Convert, Select, Check, Probe, Read, Write, Set}
use Rattle.dh_plan.specs.declared.operations.PlanBlock.{PlanBlock}
use Rattle.dh_plan.specs.declared.operations.Reach.{Reach}
use Rattle.dh_plan.specs.Ordered.{one_or_none, form_takes}
use Rattle.dh_plan.specs.PlainPlans.{PlainPlan, first_in, operations_in}
use Rattle.dh_plan.specs.PlanKinds.{FormSuits, IsFormedBlock}
use Rattle.dh_plan.specs.PlanRuns.{start_at}
use Rattle.dh_plan.proofs.ValuesAlike.{all_right}
use Rattle.dh_rows.specs.Readings.{Readings, OperationsGrow}
use Rattle.dh_rows.specs.MadeOperations.{pushed, IsMade}
use Rattle.dh_rows.proofs.Growing.{grows_on}
use Rattle.dh_address.proofs.WaySizes.{HasMaps}
use Rattle.dh_address.specs.declared.operands.Ranged.{Ranged}
use Rattle.dh_address.specs.LiteralPlaces.{below_size}
use Rattle.dh_address.specs.Pieces.{RenumberedBlock, new_number, new_or_none, check_made, AreChecked, IsProbed, IsAccessMade, IsReadMade, IsWriteMade, IsFormMade}
use Rattle.dh_address.proofs.AccessesPut.{IsInputOf}
use Rattle.dh_address.proofs.GoodPieces.{AreGoodPieces, StandsInPiece, piece_around, around_rises, around_same}
use Rattle.dh_address.proofs.ImageReadings.{timeless, FormedBelow, behind_front, was_in, at_last}
use Rattle.dh_address.proofs.KnownPieces.{IsPieceAt}
use Rattle.dh_address.proofs.PieceForms.{image_of, around, made_grows}
use Rattle.dh_address.proofs.PieceShapes.{IsQuiet, GrowsQuietly, adds_quietly, access_quietly, test_quietly, passed_at, value_quietly, inputs_at}
use Rattle.dh_address.proofs.PiecesGrow.{access_grows, checked_grows, probed_grows, value_grows}
use Rattle.dh_address.proofs.TestedRanges.{IsTestable, test_grows, check_grows, checks_grow, begun_later, testable_later}

-- of each operation put down between two lengths this holds
abbrev pub AllBetween : (ℕ → Operation → Type 0) → (old new : List Operation) → Type 0
AllBetween P old new = (m : ℕ) (u : Operation) → length old ≤ m → slice_get new m ≡ Some u → P m u

pub begun_there : (a j : ℕ) → a ≤ a + j
begun_there a j = omega arith

pub place_of : {A : Type 0} (xs : List A) (m : ℕ) (v : A) → slice_get xs m ≡ Some v → m < length xs
place_of [] m v e = absurd (cc)
place_of (x ∷ xs) zero v e = omega arith
place_of (x ∷ xs) (suc m) v e = (let l = place_of xs m v e in omega (arith, l))

item_all : (P : Operation → Type 0) (os : List Operation) (m : ℕ) (u : Operation) → AllByRecursion P os → slice_get os m ≡ Some u → P u
item_all P [] m u h e = absurd (cc)
item_all P (o ∷ os) zero u h e = let same : o ≡ u = cc in subst P same h.0
item_all P (o ∷ os) (suc m) u h e = item_all P os m u h.1 e

pub nothing_between : (P : ℕ → Operation → Type 0) (old new : List Operation) → new ≡ old → AllBetween P old new
nothing_between P old new same m u l e = absurd (past (place_of old m u (subst (λ (os : List Operation). slice_get os m ≡ Some u) same e)) l)
  where
    past : m < length old → length old ≤ m → ⊥
    past b c = omega (arith, b, c)

pub between_on : (P : ℕ → Operation → Type 0) (a b c : List Operation) → OperationsGrow b c → AllBetween P a b → AllBetween P b c → AllBetween P a c
between_on P a b c g h k m u l e = either (cases_lt m (length b))
  where
    either : (m < length b) ⊎ (length b ≤ m) → P m u
    either (inl s) = h m u l (was_in b g m u s e)
    either (inr s) = k m u s e

pub quiet_between : (P : ℕ → Operation → Type 0) → ((m : ℕ) (u : Operation) → IsQuiet u → P m u) → (old new : List Operation) → GrowsQuietly old new → AllBetween P old new
quiet_between P f old new g m u l e =
    f m u (item_all IsQuiet g.more (m - length old) u g.quiet
    (sym (behind_front old g.more (m - length old)) ∙ (ap (λ (k : ℕ). slice_get (old ++ g.more) k) (place (length old) m l) ∙ subst (λ (os : List Operation). slice_get os m ≡ Some u) g.appended e)))
  where
    place : (a m : ℕ) → a ≤ m → a + (m - a) ≡ m
    place a m l = omega (arith, l)

pub made_between : (P : ℕ → Operation → Type 0) (old mid : List Operation) (n : ℕ) (g : Option ℕ) (f : OperationForm) → IsMade mid n (pushed old g f) → P n (record { guard = g; form = f }) → AllBetween P old mid
made_between P old mid n g f h own m u l e =
    let there = subst (λ (os : List Operation). slice_get os m ≡ Some u) h.0 e in
    let within = place_of (pushed old g f).operations m u there in
    let place : length old ≡ m = last (length old) m _ l within (length-append old _) in
    let two : Some (record { guard = g; form = f }) ≡ Some u = sym (at_last old _) ∙ subst (λ (k : ℕ). slice_get (pushed old g f).operations k ≡ Some u) (sym place) there in
    let same : record { guard = g; form = f } ≡ u = cc in
    subst (λ (k : ℕ). P k u) (h.1 ∙ place) (subst (λ (w : Operation). P n w) same own)
  where
    last : (a m b : ℕ) → a ≤ m → m < b → b ≡ a + 1 → a ≡ m
    last a m b l k e = omega (arith, l, k, e)

-- a check of a probe
pub record IsProbeCheck (a : RenumberedBlock) (o u : Operation) : Type 0 where
  pub reach : Reach
  pub fault : ℕ
  pub ok : ℕ
  pub form : o.form ≡ Probe reach fault
  pub check : u ≡ record { guard = new_or_none a o.guard; form = Check ok fault }

-- an access as it was put down
pub record IsUseOf (a : RenumberedBlock) (g : Option ℕ) (r : Reach) (old all : List Operation) (u : Operation) (t : Reach) : Type 0 where
  pub last : List Operation
  pub access : IsAccessMade a (new_or_none a g) r old last u.guard t
  pub grows : OperationsGrow last all

-- the old operation itself
abbrev pub IsOwnForm : RenumberedBlock → (g : Option ℕ) → (old all : List Operation) → OperationForm → Operation → Type 0
IsOwnForm a g old all (Constant word) u = u ≡ record { guard = new_or_none a g; form = Constant word }
IsOwnForm a g old all (Old register) u = u ≡ record { guard = new_or_none a g; form = Old register }
IsOwnForm a g old all (Compute o left right) u = u ≡ record { guard = new_or_none a g; form = Compute o (new_number a left) (new_number a right) }
IsOwnForm a g old all (Convert inner to) u = u ≡ record { guard = new_or_none a g; form = Convert (new_number a inner) to }
IsOwnForm a g old all (Select test b c) u = u ≡ record { guard = new_or_none a g; form = Select (new_number a test) (new_number a b) (new_number a c) }
IsOwnForm a g old all (Check ok fault) u = u ≡ record { guard = new_or_none a g; form = Check (new_number a ok) fault }
IsOwnForm a g old all (Probe r fault) u = ⊥
IsOwnForm a g old all (Read r) u = (t : Reach) × ((u.form ≡ Read t) × IsUseOf a g r old all u t)
IsOwnForm a g old all (Write r value) u = (t : Reach) × ((u.form ≡ Write t (new_number a value)) × IsUseOf a g r old all u t)
IsOwnForm a g old all (Set register value) u = u ≡ record { guard = new_or_none a g; form = Set register (new_number a value) }

abbrev pub IsPart : RenumberedBlock → (o : Operation) → (old all : List Operation) → (n m : ℕ) → Operation → Type 0
IsPart a o old all n m u = IsQuiet u ⊎ (IsProbeCheck a o u ⊎ ((m ≡ n) × IsOwnForm a o.guard old all o.form u))

module _ (p : PlainPlan) (maps : HasMaps p) (tables : IsProgramTable p.table) (bs : List PlanBlock) (block : ℕ) (front : List Operation) (begins : length front ≡ first_in (image_of p bs) block)
    (formed : IsFormedBlock p block) (all_formed : FormedBelow (image_of p bs) block front begins (length (front ++ operations_in (image_of p bs) block))) where
  abbrev q : PlainPlan
  q = image_of p bs

  abbrev old_first : ℕ
  old_first = first_in p block

  abbrev first : ℕ
  first = first_in q block

  abbrev all : List Operation
  all = front ++ operations_in q block

  abbrev y : Readings
  y = timeless q block (start_at q [] [])

  module _ (ns : List ℕ) (ks : List Kind) (i : ℕ) (o : Operation) (old mid : List Operation) (n : ℕ) (at : IsPieceAt p maps tables bs block front begins formed ns ks i o old mid n) where
    abbrev a : RenumberedBlock
    a = around p block ns ks

    abbrev Part : ℕ → Operation → Type 0
    Part m u = IsPart a o old all n m u

    as_quiet : (m : ℕ) (u : Operation) → IsQuiet u → Part m u
    as_quiet m u h = inl h

    forms_input : AllByRecursion (IsInputOf y 0 a (length old)) (form_takes o.form)
    forms_input = all_right (IsInputOf y 0 a (length old)) (one_or_none o.guard) (form_takes o.form)
        (inputs_at p maps tables bs block front begins formed all_formed ns ks i o old mid n at)

    same_parts : (f f' : OperationForm) → o.form ≡ f → IsMade mid n (pushed old (new_or_none a o.guard) f')
        → IsOwnForm a o.guard old all f (record { guard = new_or_none a o.guard; form = f' }) → AllBetween Part old mid
    same_parts f f' e h own =
        made_between Part old mid n (new_or_none a o.guard) f' h
        (inr (inr (refl, subst (λ (g : OperationForm). IsOwnForm a o.guard old all g (record { guard = new_or_none a o.guard; form = f' })) (sym e) own)))

    made_all : (ps : List Operation) (g : Option ℕ) (f : OperationForm) → IsMade mid n (pushed ps g f) → OperationsGrow ps mid
    made_all ps g f h = made_grows p maps tables bs block front begins ns ks ps mid n g f h

    read_parts : (r : Reach) → o.form ≡ Read r → IsReadMade a (new_or_none a o.guard) r old mid n → AllBetween Part old mid
    read_parts r e h =
        let suits = subst (λ (f : OperationForm). FormSuits p old_first ks f) e at.suits.form in
        let input = subst (λ (f : OperationForm). AllByRecursion (IsInputOf y 0 a (length old)) (form_takes f)) e forms_input in
        let to_mid = made_all h.last h.on (Read h.reach) h.read in
        let grows = grows_on h.last mid all to_mid at.grows in
        let quiet = access_quietly p maps tables bs block front begins formed all_formed ns ks i o old mid n at r suits.0 suits.1 input h.last h.on h.reach h.access
        (access_grows a (new_or_none a o.guard) r old h.last h.on h.reach h.access) grows
        in
        let own : IsOwnForm a o.guard old all (Read r) (record { guard = h.on; form = Read h.reach }) = (h.reach, (refl, record { last = h.last; access = h.access; grows = grows })) in
        between_on Part old h.last mid to_mid (quiet_between Part as_quiet old h.last quiet)
        (made_between Part h.last mid n h.on (Read h.reach) h.read (inr (inr (refl, subst (λ (g : OperationForm). IsOwnForm a o.guard old all g (record { guard = h.on; form = Read h.reach })) (sym e) own))))

    write_parts : (r : Reach) (value : ℕ) → o.form ≡ Write r value → IsWriteMade a (new_or_none a o.guard) r value old mid n → AllBetween Part old mid
    write_parts r value e h =
        let suits = subst (λ (f : OperationForm). FormSuits p old_first ks f) e at.suits.form in
        let input = subst (λ (f : OperationForm). AllByRecursion (IsInputOf y 0 a (length old)) (form_takes f)) e forms_input in
        let to_mid = made_all h.last h.on (Write h.reach (new_number a value)) h.write in
        let grows = grows_on h.last mid all to_mid at.grows in
        let quiet = access_quietly p maps tables bs block front begins formed all_formed ns ks i o old mid n at r suits.0 suits.1.0 input.1 h.last h.on h.reach h.access
        (access_grows a (new_or_none a o.guard) r old h.last h.on h.reach h.access) grows
        in
        let own : IsOwnForm a o.guard old all (Write r value) (record { guard = h.on; form = Write h.reach (new_number a value) }) =
        (h.reach, (refl, record { last = h.last; access = h.access; grows = grows }))
        in
        between_on Part old h.last mid to_mid (quiet_between Part as_quiet old h.last quiet)
        (made_between Part h.last mid n h.on (Write h.reach (new_number a value)) h.write
        (inr (inr (refl, subst (λ (g : OperationForm). IsOwnForm a o.guard old all g (record { guard = h.on; form = Write h.reach (new_number a value) })) (sym e) own))))

    -- Probes.

    check_parts : (r : Reach) (fault : ℕ) → o.form ≡ Probe r fault → (there : List Operation) (test : Option ℕ) → AllBetween Part there (check_made there (new_or_none a o.guard) fault test)
    check_parts r fault e there None = nothing_between Part there there refl
    check_parts r fault e there (Some test) =
        made_between Part there (check_made there (new_or_none a o.guard) fault (Some test)) (length there) (new_or_none a o.guard) (Check test fault) (refl, refl)
        (inr (inl (record { reach = r; fault = fault; ok = test; form = e; check = refl })))

    checks_parts : (r : Reach) (fault : ℕ) → o.form ≡ Probe r fault → (rs : List Ranged) (here there : List Operation) → AreChecked (new_or_none a o.guard) fault rs here there → OperationsGrow there all → first ≤ length here
        → AllByRecursion (IsTestable y 0 here) rs → AllBetween Part here there
    checks_parts r fault e [] here there h grows begun testable = nothing_between Part here there h
    checks_parts r fault e (x ∷ rs) here there (middle, (test, (tested, rest))) grows begun testable =
        let g = new_or_none a o.guard in
        let behind = checks_grow g fault rs (check_made middle g fault test) there rest in
        let check = check_grows middle g fault test in
        let to_check = grows_on (check_made middle g fault test) there all behind grows in
        let to_all = grows_on middle _ all check to_check in
        let quiet = test_quietly p maps tables bs block front begins formed all_formed ns ks i o old mid n at x here middle test tested begun testable.0 to_all in
        let grown = test_grows (below_size x.operand.literal x.size) here middle _ _ _ test tested in
        let far = grows_on here middle _ grown check in
        between_on Part here middle there (grows_on middle _ there check behind) (quiet_between Part as_quiet here middle quiet)
        (between_on Part middle (check_made middle g fault test) there behind (check_parts r fault e middle test)
        (checks_parts r fault e rs (check_made middle g fault test) there rest grows (begun_later y here _ far begun) (testable_later y 0 here _ far rs testable.1)))

    probe_parts : (r : Reach) (fault : ℕ) → o.form ≡ Probe r fault → IsProbed a (new_or_none a o.guard) r fault old mid n → AllBetween Part old mid
    probe_parts r fault e h =
        let suits = subst (λ (f : OperationForm). FormSuits p old_first ks f) e at.suits.form in
        let input = subst (λ (f : OperationForm). AllByRecursion (IsInputOf y 0 a (length old)) (form_takes f)) e forms_input in
        let w = passed_at p maps tables bs block front begins formed all_formed ns ks i o old mid n at r suits.0 input h.passed h.ranges h.indices h.passes in
        let checked = probed_grows a (new_or_none a o.guard) r fault old mid n h in
        let checks = checked_grows (new_or_none a o.guard) fault h.ranges h.passed h.checked h.checks in
        let value = value_grows a.probed a (new_or_none a o.guard) r h.checked mid n h.value in
        let to_all = grows_on h.checked mid all value at.grows in
        between_on Part old h.checked mid value
        (between_on Part old h.passed h.checked checks
        (quiet_between Part as_quiet old h.passed (adds_quietly p maps tables bs block front begins formed all_formed old h.passed w.adds (grows_on h.passed h.checked all checks to_all)))
        (checks_parts r fault e h.ranges h.passed h.checked h.checks to_all (begun_later y old h.passed w.adds.grows at.begun) w.ranges))
        (quiet_between Part as_quiet h.checked mid
        (value_quietly p maps tables bs block front begins formed all_formed ns ks i o old mid n at a.probed r h.checked h.value (begun_later y old h.checked checked at.begun) checked input))

    form_parts : (f : OperationForm) → o.form ≡ f → IsFormMade a (new_or_none a o.guard) f old mid n → AllBetween Part old mid
    form_parts (Constant word) e h = same_parts (Constant word) (Constant word) e h refl
    form_parts (Old register) e h = same_parts (Old register) (Old register) e h refl
    form_parts (Compute op left right) e h = same_parts (Compute op left right) _ e h refl
    form_parts (Convert inner to) e h = same_parts (Convert inner to) _ e h refl
    form_parts (Select test b c) e h = same_parts (Select test b c) _ e h refl
    form_parts (Check ok fault) e h = same_parts (Check ok fault) _ e h refl
    form_parts (Probe r fault) e h = probe_parts r fault e h
    form_parts (Read r) e h = read_parts r e h
    form_parts (Write r value) e h = write_parts r value e h
    form_parts (Set register value) e h = same_parts (Set register value) _ e h refl

    pub piece_parts : AllBetween Part old mid
    piece_parts = form_parts o.form refl at.piece

  -- An operation of the new block.

  module _ (Good : ℕ → ℕ → Type 0) (h : AreGoodPieces p maps tables bs block front begins formed Good [] [] 0 (operations_in p block) front) where
    -- where it stands
    abbrev pub stands_at : (j : ℕ) (u : Operation) → slice_get (operations_in q block) j ≡ Some u → StandsInPiece p maps tables bs block front begins formed Good 0 (length front + j)
    stands_at j u e =
        piece_around p maps tables bs block front begins formed Good (operations_in p block) [] [] 0 front h (length front + j) (begun_there (length front) j)
        (place_of all (length front + j) u (behind_front front (operations_in q block) j ∙ e))

    pub part_at : (j : ℕ) (u : Operation) (e : slice_get (operations_in q block) j ≡ Some u)
        → IsPart (around p block (stands_at j u e).of.numbers (stands_at j u e).of.kinds) (stands_at j u e).operation (stands_at j u e).of.old all (stands_at j u e).of.number (length front + j) u
    part_at j u e =
        let s = stands_at j u e in
        piece_parts s.of.numbers s.of.kinds s.place s.operation s.of.old s.of.mid s.of.number s.of.piece.at (length front + j) u s.from
        (was_in s.of.mid s.of.piece.at.grows (length front + j) u s.until (behind_front front (operations_in q block) j ∙ e))

    -- later ones stand in later pieces, and of one piece one alone is the old operation itself
    pub stand_in_order : (j k : ℕ) (u v : Operation) (d : slice_get (operations_in q block) j ≡ Some u) (e : slice_get (operations_in q block) k ≡ Some v) → j ≤ k → (stands_at j u d).place ≤ (stands_at k v e).place
    stand_in_order j k u v d e l =
        around_rises p maps tables bs block front begins formed Good (operations_in p block) [] [] 0 front h (length front + j) (length front + k) (begun_there (length front) j)
        (place_of all (length front + j) u (behind_front front (operations_in q block) j ∙ d)) (begun_there (length front) k) (place_of all (length front + k) v (behind_front front (operations_in q block) k ∙ e)) (omega (arith, l))

    pub one_itself : (j k : ℕ) (u v : Operation) (d : slice_get (operations_in q block) j ≡ Some u) (e : slice_get (operations_in q block) k ≡ Some v) → (stands_at j u d).place ≡ (stands_at k v e).place
        → length front + j ≡ (stands_at j u d).of.number → length front + k ≡ (stands_at k v e).of.number → j ≡ k
    one_itself j k u v d e same own other =
        let one = around_same p maps tables bs block front begins formed Good (operations_in p block) [] [] 0 front h (length front + j) (length front + k) (begun_there (length front) j)
        (place_of all (length front + j) u (behind_front front (operations_in q block) j ∙ d)) (begun_there (length front) k) (place_of all (length front + k) v (behind_front front (operations_in q block) k ∙ e)) same
        in
        cancel (length front) j k (own ∙ (one ∙ sym other))
      where
        cancel : (a j k : ℕ) → a + j ≡ a + k → j ≡ k
        cancel a j k e = omega (arith, e)
