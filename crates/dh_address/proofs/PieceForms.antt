-- What becomes of one operation is formed as it must be: all that is put down takes earlier values of suiting kinds, and
-- the value that stands for the operation's is of its kind.
use Rattle.std.proofs.Common.{◌≡◌, ℕ, ◌<◌, ◌≤◌, ◌⊎◌, inl, inr, Some, None, List, Bool, true, false, length, map, refl, sym, ap, subst, ◌∙◌, arith}
use Rattle.std.specs.Prelude.{[], ◌∷◌, ◌++◌, Option, take}
use Rattle.std.proofs.lemmas.List.{length-append}
use Rattle.std.specs.List.{AllByRecursion}
use Rattle.dh_value.specs.declared.kinds.Kind.{Kind}
use Rattle.dh_value.specs.declared.kinds.Kind.TheVariants as kind
use Rattle.dh_value.specs.declared.operators.Op.TheVariants as op
use Rattle.dh_value.specs.Words.{IsInteger, IsWord}
use Rattle.dh_value.specs.Operations.{Suits, result_of, AreTruths}
use Rattle.dh_tree.specs.Shapes.{IsProgramTable}
use Rattle.dh_meaning.specs.Effects.{kind_in}
use Rattle.dh_plan.specs.declared.operations.Operation.{Operation}
use Rattle.dh_plan.specs.declared.operations.OperationForm.{OperationForm}
use Rattle.dh_plan.specs.declared.operations.OperationForm.TheVariants.{Constant, Old, Compute, Convert, Select, Check, Probe, Read, Write, Set}
use Rattle.dh_plan.specs.declared.operations.PlanBlock.{PlanBlock}
use Rattle.dh_plan.specs.declared.operations.Reach.{Reach}
use Rattle.dh_plan.specs.Ordered.{one_or_none, offsets_taken, reach_takes, form_takes, operation_takes, IsBetween}
use Rattle.dh_plan.specs.PlainPlans.{PlainPlan, first_in, operations_in}
use Rattle.dh_plan.specs.PlanKinds.{kind_of_value, form_kind, kinds_of, Names, ReachSuits, PicksBank, FormSuits, OperationSuits}
use Rattle.dh_plan.specs.PlanRuns.{start_at}
use Rattle.dh_plan.proofs.ValuesAlike.{all_left, all_right, all_map}
use Rattle.dh_rows.specs.Readings.{Readings, Obeys, OperationsGrow, AddsOperations, IsValueOrNone}
use Rattle.dh_rows.specs.MadeOperations.{pushed, IsMade}
use Rattle.dh_rows.specs.RowsShown.{IsInput}
use Rattle.dh_rows.proofs.Growing.{grows_on, grown_length, kept_there, pushed_grows, adds_on, maybe_later, pushed_adds, pushed_value}
use Rattle.dh_address.proofs.WaySizes.{HasMaps}
use Rattle.dh_address.specs.Pieces.{RenumberedBlock, any_takes_probe, new_number, new_or_none, known_kind, indices_and_offsets, check_made, AreChecked, is_probe_form, false_behind_all, false_word, new_takes, IsProbeValue, IsProbed, IsAimedReach, IsAccessMade, IsReadMade, IsWriteMade, IsFormMade, IsPiece, aimed_reach}
use Rattle.dh_address.proofs.AccessesPut.{IsInputOf, PutsAccess, IsPicked, IsPicksGiven, input_later, maybe_value, aims_put, all_join, IsNumberThere, IsCountThere}
use Rattle.dh_address.proofs.FalsePut.{many_false_put}
use Rattle.dh_address.proofs.ImageReadings.{timeless, timeless_below, FormedAt, FormedBelow, kind_given, added_below, pushed_below, at_last}
use Rattle.dh_address.specs.declared.operands.Ranged.{Ranged}
use Rattle.dh_address.proofs.PiecesGrow.{access_grows, value_grows}
use Rattle.dh_address.proofs.WayLengths.{passed_long}
use Rattle.dh_address.proofs.WaysPut.{passed_put}
use Rattle.dh_address.proofs.TestedRanges.{PutsMaybe, IsTestable, all_there, check_grows, checks_grow, tested_put, testable_later, begun_later, guards_put}

-- the plan that the pass makes, of these blocks
abbrev pub image_of : PlainPlan → List PlanBlock → PlainPlan
image_of p bs = record { table = p.table; views = []; registers = p.registers; blocks = bs; body = p.body; meets = p.meets; faults = p.faults }

-- what is known as a block's pieces are put down, with these numbers and kinds so far
abbrev pub around : PlainPlan → (block : ℕ) → (numbers : List ℕ) → List Kind → RenumberedBlock
around p block ns ks = record {
  table = p.table;
  views = p.views;
  operations = operations_in p block;
  first = first_in p block;
  probed = any_takes_probe (operations_in p block) (first_in p block);
  numbers = ns;
  kinds = ks;
}

module _ (p : PlainPlan) (maps : HasMaps p) (tables : IsProgramTable p.table) (bs : List PlanBlock) (block : ℕ) (front : List Operation) (begins : length front ≡ first_in (image_of p bs) block)
    (ns : List ℕ) (ks : List Kind) where
  abbrev q : PlainPlan
  q = image_of p bs

  abbrev a : RenumberedBlock
  a = around p block ns ks

  abbrev first : ℕ
  first = first_in q block

  abbrev kinds : List Kind
  kinds = kinds_of q block

  abbrev x : Readings
  x = timeless q block (start_at q [] [])

  abbrev all : List Operation
  all = front ++ operations_in q block

  abbrev Formed : ℕ → Type 0
  Formed end = FormedBelow q block front begins end

  abbrev Input : ℕ → ℕ → Type 0
  Input own v = IsInputOf x 0 a own v

  between : (own v : ℕ) → Input own v → IsBetween first own (new_number a v)
  between own v h = (h.earlier.begun, h.earlier.before)

  maybe_between : (own : ℕ) (g : Option ℕ) → AllByRecursion (Input own) (one_or_none g) → AllByRecursion (IsBetween first own) (one_or_none (new_or_none a g))
  maybe_between own None h = tt
  maybe_between own (Some g) h = (between own g h.0, tt)

  maybe_truth : (own : ℕ) (g : Option ℕ) → AllByRecursion (λ v. known_kind a v ≡ kind.Bool) (one_or_none g) → AllByRecursion (Input own) (one_or_none g)
      → AllByRecursion (λ v. kind_of_value first kinds v ≡ kind.Bool) (one_or_none (new_or_none a g))
  maybe_truth own None k h = tt
  maybe_truth own (Some g) k h = (h.0.kind_is ∙ k.0, tt)

  -- the value that stands for an operation's
  pub record IsGiven (mid : List Operation) (n : ℕ) (k : Kind) : Type 0 where
    pub begun : first ≤ n
    pub before : n < length mid
    pub kind_is : kind_of_value first kinds n ≡ k

  pub record PutsPiece (mid : List Operation) (n : ℕ) (gives : Type 0) (k : Kind) : Type 0 where
    pub formed : Formed (length mid)
    pub given : gives → IsGiven mid n k

  -- an operation put down at the end
  last_put : (old mid : List Operation) (n : ℕ) (g : Option ℕ) (f : OperationForm) (k : Kind) (gives : Type 0) → IsMade mid n (pushed old g f) → OperationsGrow mid all → first ≤ length old → Formed (length old)
      → FormedAt q block front begins (length old) (record { guard = g; form = f }) → form_kind q.table q.registers first kinds f ≡ k → PutsPiece mid n gives k
  last_put old mid n g f k gives made grows begun formed own same =
      subst (λ (m : ℕ). PutsPiece mid m gives k) (sym made.1)
      (subst (λ (os : List Operation). PutsPiece os (length old) gives k) (sym made.0)
      (record {
        formed = pushed_below q block front begins old g f grown formed own;
        given = λ _. record {
          begun = begun;
          before = one_more _ old;
          kind_is = kind_given q block front begins (length old) (record { guard = g; form = f }) begun (kept_there (pushed old g f).operations all grown (length old) _ (at_last old _)) own.0 ∙ same;
        };
      }))
    where
      grown : OperationsGrow (pushed old g f).operations all
      grown = subst (λ (os : List Operation). OperationsGrow os all) made.0 grows

      one_more : (o : Operation) (os : List Operation) → length os < length (os ++ o ∷ [])
      one_more o os = let l = length-append os (o ∷ []) in omega (arith, l)

  -- the same operation, at new numbers
  same_put : (old mid : List Operation) (n : ℕ) (g : Option ℕ) (f : OperationForm) (k : Kind) (gives : Type 0) → IsMade mid n (pushed old (new_or_none a g) f) → OperationsGrow mid all → first ≤ length old
      → Formed (length old) → AllByRecursion (λ v. known_kind a v ≡ kind.Bool) (one_or_none g) → AllByRecursion (Input (length old)) (one_or_none g)
      → AllByRecursion (IsBetween first (length old)) (form_takes f) → FormSuits q first kinds f → form_kind q.table q.registers first kinds f ≡ k → PutsPiece mid n gives k
  same_put old mid n g f k gives made grows begun formed gk gi takes suits same =
      last_put old mid n (new_or_none a g) f k gives made grows begun formed (
        all_join (IsBetween first (length old)) (one_or_none (new_or_none a g)) (form_takes f) (maybe_between (length old) g gi) takes,
        record { guard = maybe_truth (length old) g gk gi; form = suits },
      )
      same

  -- Reads and writes.

  adds_formed : (old mid : List Operation) → AddsOperations x 0 old mid → OperationsGrow mid all → Formed (length old) → Formed (length mid)
  adds_formed old mid adds grows formed = added_below q block front begins (start_at q [] []) 0 old mid adds grows formed

  pub formed_obeys : (os : List Operation) → OperationsGrow os all → Formed (length os) → Obeys x os
  formed_obeys os grows formed =
      subst (λ (ps : List Operation). Obeys x ps) (taken_whole os grows)
      (timeless_below q block front begins (start_at q [] []) (length os) (λ n o l m there. (formed n o l m there).0))
    where
      take_whole : (os more : List Operation) → take (length os) (os ++ more) ≡ os
      take_whole [] more = refl
      take_whole (o ∷ os) more = ap (λ (ps : List Operation). o ∷ ps) (take_whole os more)

      taken_whole : (os : List Operation) → OperationsGrow os all → take (length os) all ≡ os
      taken_whole os g = ap (λ (ps : List Operation). take (length os) ps) g.appended ∙ take_whole os g.more

  pub record PutsUse (r : Reach) (old last : List Operation) (on : Option ℕ) (t : Reach) : Type 0 where
    pub adds : AddsOperations x 0 old last
    pub formed : Formed (length last)
    pub begun : first ≤ length last
    pub on_between : AllByRecursion (IsBetween first (length last)) (one_or_none on)
    pub on_truth : AllByRecursion (λ v. kind_of_value first kinds v ≡ kind.Bool) (one_or_none on)
    pub takes : AllByRecursion (IsBetween first (length last)) (reach_takes t)
    pub suits : ReachSuits q first kinds t
    pub picks : PicksBank q first kinds t t.row t.select

  on_facts : (os : List Operation) (on : Option ℕ) → Obeys x os → IsValueOrNone x 0 os kind.Bool on
      → AllByRecursion (IsBetween first (length os)) (one_or_none on) × AllByRecursion (λ v. kind_of_value first kinds v ≡ kind.Bool) (one_or_none on)
  on_facts os None obeys h = (tt, tt)
  on_facts os (Some g) obeys h = let s = h obeys in (((s.earlier.begun, s.earlier.before), tt), (s.kind_is, tt))

  there_between : (os : List Operation) → Obeys x os → (vs : List ℕ) → AllByRecursion (IsNumberThere x 0 a os) vs → AllByRecursion (IsBetween first (length os)) vs
  there_between os obeys [] h = tt
  there_between os obeys (v ∷ vs) h = let e = (h.0 obeys).0 in ((e.begun, e.before), there_between os obeys vs h.1)

  count_between : (os : List Operation) → Obeys x os → (vs : List ℕ) → AllByRecursion (IsCountThere x 0 a os) vs → AllByRecursion (IsBetween first (length os)) vs
  count_between os obeys [] h = tt
  count_between os obeys (v ∷ vs) h = let e = (h.0 obeys).0 in ((e.begun, e.before), count_between os obeys vs h.1)

  none_behind : (vs : List ℕ) → vs ≡ vs ++ []
  none_behind [] = refl
  none_behind (v ∷ vs) = ap (λ (us : List ℕ). v ∷ us) (none_behind vs)

  aimed_suits : (r : Reach) → ReachSuits p (first_in p block) ks r → (old last : List Operation) (t : Reach) → (h : PutsAccess x 0 a r old last t) → Obeys x last → ReachSuits q first kinds (aimed_reach r h.taken h.row h.select)
  aimed_suits r suits old last t h obeys = record {
    memory = suits.memory;
    banks = record { there = suits.banks.there; once = suits.banks.once };
    indices = subst (λ (vs : List ℕ). AllByRecursion (λ v. IsInteger (kind_of_value first kinds v)) vs) (none_behind h.taken)
        (all_map (IsNumberThere x 0 a last) (λ v. IsInteger (kind_of_value first kinds v)) h.taken (λ v n. (n obeys).1) h.taken_there);
    select = all_map (IsCountThere x 0 a last) (λ v. (w : ℕ) × (kind_of_value first kinds v ≡ kind.Unsigned w)) (one_or_none h.select) (λ v n. (n obeys).1) h.select_there;
    row = ((h.row_there obeys).1, tt);
    element = refl;
  }

  picks_bank : (r : Reach) (taken : List ℕ) (row : ℕ) (select : Option ℕ) → IsPicked x 0 a r select → PicksBank q first kinds (aimed_reach r taken row select) (Some row) select
  picks_bank r taken row None h = h
  picks_bank r taken row (Some v) h = tt

  picks_of : (r : Reach) (row : Option ℕ) → PicksBank p (first_in p block) ks r row r.select → IsPicksGiven x 0 a r row
  picks_of r None h = tt
  picks_of r (Some row) h = given r.select h
    where
      given : (select : Option ℕ) → PicksBank p (first_in p block) ks r (Some row) select → IsPicked x 0 a r select
      given None k = k
      given (Some v) k = tt

  pub made_grows : (os mid : List Operation) (n : ℕ) (g : Option ℕ) (f : OperationForm) → IsMade mid n (pushed os g f) → OperationsGrow os mid
  made_grows os mid n g f h = subst (λ (ps : List Operation). OperationsGrow os ps) (sym h.0) (pushed_grows os g f)

  -- the access is of the same memory
  pub memory_is : (g : Option ℕ) (r : Reach) (old last : List Operation) (on : Option ℕ) (t : Reach) → IsAccessMade a (new_or_none a g) r old last on t → t.memory ≡ r.memory
  memory_is g r old last on t h = of r.row h.aims
    where
      of : (row : Option ℕ) → IsAimedReach a r row h.indices h.guarded last t → t.memory ≡ r.memory
      of None k = ap (λ (u : Reach). u.memory) k.reach
      of (Some row) k = ap (λ (u : Reach). u.memory) k.1

  -- once row and bank are put down
  with_access : (r : Reach) (old guarded last : List Operation) (on : Option ℕ) (t : Reach) → PutsMaybe x 0 old guarded kind.Bool on → (access : PutsAccess x 0 a r guarded last t) → OperationsGrow last all
      → first ≤ length old → Formed (length old) → ReachSuits p (first_in p block) ks r → PutsUse r old last on (aimed_reach r access.taken access.row access.select)
  with_access r old guarded last on t guards access grows begun formed suits =
      let adds = adds_on x 0 old guarded last guards.adds access.adds in
      let all_formed = adds_formed old last adds grows formed in
      let obeys = formed_obeys last grows all_formed in
      let facts = on_facts last on obeys (maybe_later x 0 guarded last kind.Bool on access.adds.grows guards.stands) in
      record {
        adds = adds;
        formed = all_formed;
        begun = begun_later x old last adds.grows begun;
        on_between = facts.0;
        on_truth = facts.1;
        takes =
            all_join (IsBetween first (length last)) access.taken _ (there_between last obeys access.taken access.taken_there)
            (all_join (IsBetween first (length last)) (one_or_none access.select) _ (count_between last obeys (one_or_none access.select) access.select_there)
            (there_between last obeys (access.row ∷ []) (access.row_there, tt)));
        suits = aimed_suits r suits guarded last t access obeys;
        picks = picks_bank r access.taken access.row access.select access.picks;
      }

  as_aimed : (r : Reach) (old guarded last : List Operation) (on : Option ℕ) (t : Reach) → PutsMaybe x 0 old guarded kind.Bool on → PutsAccess x 0 a r guarded last t → OperationsGrow last all
      → first ≤ length old → Formed (length old) → ReachSuits p (first_in p block) ks r → PutsUse r old last on t
  as_aimed r old guarded last on t guards access grows begun formed suits =
      subst (λ (u : Reach). PutsUse r old last on u) (sym access.reach) (with_access r old guarded last on t guards access grows begun formed suits)

  pub inputs_later : (old mid : List Operation) → OperationsGrow old mid → (vs : List ℕ) → AllByRecursion (Input (length old)) vs → AllByRecursion (Input (length mid)) vs
  inputs_later old mid g vs h = all_map (Input (length old)) (Input (length mid)) vs (λ v i. input_later x 0 a (length old) (length mid) v (grown_length old mid g) i) h

  pub use_put : (g : Option ℕ) (r : Reach) (old last : List Operation) (on : Option ℕ) (t : Reach) → IsAccessMade a (new_or_none a g) r old last on t → OperationsGrow last all → first ≤ length old → Formed (length old)
      → AllByRecursion (λ v. known_kind a v ≡ kind.Bool) (one_or_none g) → AllByRecursion (Input (length old)) (one_or_none g)
      → ReachSuits p (first_in p block) ks r → PicksBank p (first_in p block) ks r r.row r.select → AllByRecursion (Input (length old)) (reach_takes r) → PutsUse r old last on t
  use_put g r old last on t h grows begun formed gk gi suits picks taken =
      let w = passed_put x 0 a p maps tables refl r suits old h.passed h.ranges h.indices h.passes begun taken in
      let at_passed = begun_later x old h.passed w.adds.grows begun in
      let guards = guards_put x 0 (new_or_none a g) h.ranges h.passed h.guarded on h.guards at_passed w.ranges (maybe_value x 0 a h.passed kind.Bool g gk (inputs_later old h.passed w.adds.grows (one_or_none g) gi)) in
      let adds = adds_on x 0 old h.passed h.guarded w.adds guards.adds in
      as_aimed r old h.guarded last on t (record { adds = adds; stands = guards.stands })
      (aims_put x 0 a p refl tables r suits r.row refl (picks_of r r.row picks) h.indices h.guarded last t h.aims (begun_later x old h.guarded adds.grows begun)
      (passed_long a p maps refl r suits old h.passed h.ranges h.indices h.passes) (all_there x 0 h.passed h.guarded guards.adds.grows h.indices w.indices)
      (inputs_later old h.guarded adds.grows (reach_takes r) taken)) grows begun formed suits

  -- the reads and writes themselves
  read_put : (g : Option ℕ) (r : Reach) (old mid : List Operation) (n : ℕ) (k : Kind) (gives : Type 0) → IsReadMade a (new_or_none a g) r old mid n → OperationsGrow mid all → first ≤ length old → Formed (length old)
      → AllByRecursion (λ v. known_kind a v ≡ kind.Bool) (one_or_none g) → AllByRecursion (Input (length old)) (one_or_none g)
      → ReachSuits p (first_in p block) ks r × PicksBank p (first_in p block) ks r r.row r.select → AllByRecursion (Input (length old)) (reach_takes r)
      → kind_in p.table r.memory ≡ k → PutsPiece mid n gives k
  read_put g r old mid n k gives h grows begun formed gk gi suits taken same =
      let last_grows = grows_on h.last mid all (made_grows h.last mid n h.on (Read h.reach) h.read) grows in
      let u = use_put g r old h.last h.on h.reach h.access last_grows begun formed gk gi suits.0 suits.1 taken in
      last_put h.last mid n h.on (Read h.reach) k gives h.read grows u.begun u.formed
      (all_join (IsBetween first (length h.last)) (one_or_none h.on) (reach_takes h.reach) u.on_between u.takes, record { guard = u.on_truth; form = (u.suits, u.picks) })
      (ap (λ (m : ℕ). kind_in p.table m) (memory_is g r old h.last h.on h.reach h.access) ∙ same)

  write_put : (g : Option ℕ) (r : Reach) (value : ℕ) (old mid : List Operation) (n : ℕ) (k : Kind) (gives : Type 0) → IsWriteMade a (new_or_none a g) r value old mid n → OperationsGrow mid all → first ≤ length old
      → Formed (length old)
      → AllByRecursion (λ v. known_kind a v ≡ kind.Bool) (one_or_none g) → AllByRecursion (Input (length old)) (one_or_none g)
      → ReachSuits p (first_in p block) ks r × (PicksBank p (first_in p block) ks r r.row r.select × (known_kind a value ≡ kind_in p.table r.memory))
      → Input (length old) value → AllByRecursion (Input (length old)) (reach_takes r) → kind.Bool ≡ k → PutsPiece mid n gives k
  write_put g r value old mid n k gives h grows begun formed gk gi suits input taken same =
      let last_grows = grows_on h.last mid all (made_grows h.last mid n h.on (Write h.reach (new_number a value)) h.write) grows in
      let u = use_put g r old h.last h.on h.reach h.access last_grows begun formed gk gi suits.0 suits.1.0 taken in
      let later = input_later x 0 a (length old) (length h.last) value (grown_length old h.last (access_grows a (new_or_none a g) r old h.last h.on h.reach h.access)) input in
      last_put h.last mid n h.on (Write h.reach (new_number a value)) k gives h.write grows u.begun u.formed (
        all_join (IsBetween first (length h.last)) (one_or_none h.on) _ u.on_between (between (length h.last) value later, u.takes),
        record {
          guard = u.on_truth;
          form = (u.suits, (u.picks, input.kind_is ∙ (suits.1.1 ∙ ap (λ (m : ℕ). kind_in p.table m) (sym (memory_is g r old h.last h.on h.reach h.access)))));
        },
      )
      same

  -- Checks and probes.

  guard_put : (old mid : List Operation) (g : Option ℕ) (fault : ℕ) (test : Option ℕ) → OperationsGrow (check_made mid (new_or_none a g) fault test) all → first ≤ length mid → Formed (length mid)
      → AllByRecursion (λ v. known_kind a v ≡ kind.Bool) (one_or_none g) → AllByRecursion (Input (length mid)) (one_or_none g) → IsValueOrNone x 0 mid kind.Bool test → Names p.faults fault
      → Formed (length (check_made mid (new_or_none a g) fault test))
  guard_put old mid g fault None grows begun formed gk gi stands named = formed
  guard_put old mid g fault (Some test) grows begun formed gk gi stands named =
      let obeys = formed_obeys mid (grows_on mid _ all (pushed_grows mid (new_or_none a g) (Check test fault)) grows) formed in
      let s = stands obeys in
      pushed_below q block front begins mid (new_or_none a g) (Check test fault) grows formed (
        all_join (IsBetween first (length mid)) (one_or_none (new_or_none a g)) _ (maybe_between (length mid) g gi) ((s.earlier.begun, s.earlier.before), tt),
        record { guard = maybe_truth (length mid) g gk gi; form = (s.kind_is, named) },
      )

  checks_put : (g : Option ℕ) (fault : ℕ) (rs : List Ranged) (old new : List Operation) → AreChecked (new_or_none a g) fault rs old new → OperationsGrow new all → first ≤ length old → Formed (length old)
      → AllByRecursion (IsTestable x 0 old) rs → AllByRecursion (λ v. known_kind a v ≡ kind.Bool) (one_or_none g) → AllByRecursion (Input (length old)) (one_or_none g) → Names p.faults fault
      → Formed (length new)
  checks_put g fault [] old new h grows begun formed testable gk gi named = subst (λ (os : List Operation). Formed (length os)) (sym h) formed
  checks_put g fault (r ∷ rs) old new (mid, (test, (tested, rest))) grows begun formed testable gk gi named =
      let one = tested_put x 0 r old mid test tested begun testable.0 in
      let check = check_grows mid (new_or_none a g) fault test in
      let behind = checks_grow (new_or_none a g) fault rs (check_made mid (new_or_none a g) fault test) new rest in
      let far = grows_on old mid _ one.adds.grows check in
      let to_all = grows_on _ new all behind grows in
      let formed_mid = adds_formed old mid one.adds (grows_on mid _ all check to_all) formed in
      let begun_mid = begun_later x old mid one.adds.grows begun in
      checks_put g fault rs (check_made mid (new_or_none a g) fault test) new rest grows (begun_later x old _ far begun)
      (guard_put old mid g fault test to_all begun_mid formed_mid gk (inputs_later old mid one.adds.grows (one_or_none g) gi) one.stands named)
      (testable_later x 0 old _ far rs testable.1) gk (inputs_later old _ far (one_or_none g) gi) named

  pub new_inputs : (os : List Operation) (vs : List ℕ) → AllByRecursion (Input (length os)) vs → AllByRecursion (λ v. IsInput x 0 os v) (map (new_number a) vs)
  new_inputs os [] h = tt
  new_inputs os (v ∷ vs) h = (λ o. h.0.earlier, new_inputs os vs h.1)

  maybe_inputs : (os : List Operation) (v : Option ℕ) → AllByRecursion (Input (length os)) (one_or_none v) → AllByRecursion (λ v. IsInput x 0 os v) (one_or_none (new_or_none a v))
  maybe_inputs os None h = tt
  maybe_inputs os (Some v) h = (λ o. h.0.earlier, tt)

  pub takes_inputs : (os : List Operation) (r : Reach) → AllByRecursion (Input (length os)) (reach_takes r) → AllByRecursion (λ v. IsInput x 0 os v) (new_takes a r)
  takes_inputs os r h =
      let P = Input (length os) in
      let behind = all_right P r.indices _ h in
      let last = all_right P (offsets_taken r.steps) _ behind in
      let I = λ (v : ℕ). IsInput x 0 os v in
      all_join I (indices_and_offsets a r) _
      (all_join I (map (new_number a) r.indices) (map (new_number a) (offsets_taken r.steps)) (new_inputs os r.indices (all_left P r.indices _ h))
      (new_inputs os (offsets_taken r.steps) (all_left P (offsets_taken r.steps) _ behind)))
      (all_join I (one_or_none (new_or_none a r.select)) _ (maybe_inputs os r.select (all_left P (one_or_none r.select) (one_or_none r.row) last))
      (maybe_inputs os r.row (all_right P (one_or_none r.select) (one_or_none r.row) last)))

  value_put : (probed : Bool) (g : Option ℕ) (r : Reach) (old mid : List Operation) (n : ℕ) → IsProbeValue probed a (new_or_none a g) r old mid n → OperationsGrow mid all → first ≤ length old → Formed (length old)
      → AllByRecursion (λ v. known_kind a v ≡ kind.Bool) (one_or_none g) → AllByRecursion (Input (length old)) (one_or_none g) → AllByRecursion (Input (length old)) (reach_takes r)
      → PutsPiece mid n ((probed ≡ true) ⊎ (true ≡ false)) kind.Bool
  value_put false g r old mid n h grows begun formed gk gi taken =
      record { formed = subst (λ (os : List Operation). Formed (length os)) (sym h) formed; given = never }
    where
      never : (false ≡ true) ⊎ (true ≡ false) → IsGiven mid n kind.Bool
      never (inl e) = absurd (cc)
      never (inr e) = absurd (cc)
  value_put true g r old mid n h grows begun formed gk gi taken =
      let begin = pushed old None (Constant false_word) in
      let word : IsWord false_word = record { sized = (omega arith, omega arith); fits = omega arith } in
      let first_adds = pushed_adds x 0 old (Constant false_word) refl begun (λ o. tt) (λ o. word) in
      let first_stands = pushed_value x 0 old (Constant false_word) refl begun (λ o. tt) (λ o. word) kind.Bool (λ o. refl) in
      let at_begin = begun_later x old begin.operations first_adds.grows begun in
      let chain = many_false_put x 0 begin (new_takes a r) at_begin first_stands (takes_inputs begin.operations r (inputs_later old begin.operations first_adds.grows (reach_takes r) taken)) in
      let m = false_behind_all begin (new_takes a r) in
      let adds = adds_on x 0 old begin.operations m.operations first_adds chain.adds in
      let to_all = grows_on m.operations mid all (made_grows m.operations mid n (new_or_none a g) (Compute op.Either m.value m.value) h) grows in
      let formed_m = adds_formed old m.operations adds to_all formed in
      let s = chain.stands (formed_obeys m.operations to_all formed_m) in
      let gi_m = inputs_later old m.operations adds.grows (one_or_none g) gi in
      last_put m.operations mid n (new_or_none a g) (Compute op.Either m.value m.value) kind.Bool ((true ≡ true) ⊎ (true ≡ false)) h grows (begun_later x old m.operations adds.grows begun) formed_m (
        all_join (IsBetween first (length m.operations)) (one_or_none (new_or_none a g)) _ (maybe_between (length m.operations) g gi_m)
            ((s.earlier.begun, s.earlier.before), ((s.earlier.begun, s.earlier.before), tt)),
        record { guard = maybe_truth (length m.operations) g gk gi_m; form = truths (kind_of_value first kinds m.value) s.kind_is },
      )
      refl
    where
      truths : (k : Kind) → k ≡ kind.Bool → AreTruths k k
      truths k e = subst (λ (l : Kind). AreTruths l l) (sym e) tt

  probe_put : (g : Option ℕ) (r : Reach) (fault : ℕ) (old mid : List Operation) (n : ℕ) → IsProbed a (new_or_none a g) r fault old mid n → OperationsGrow mid all → first ≤ length old → Formed (length old)
      → AllByRecursion (λ v. known_kind a v ≡ kind.Bool) (one_or_none g) → AllByRecursion (Input (length old)) (one_or_none g)
      → ReachSuits p (first_in p block) ks r → Names p.faults fault → AllByRecursion (Input (length old)) (reach_takes r)
      → PutsPiece mid n ((a.probed ≡ true) ⊎ (true ≡ false)) kind.Bool
  probe_put g r fault old mid n h grows begun formed gk gi suits named taken =
      let w = passed_put x 0 a p maps tables refl r suits old h.passed h.ranges h.indices h.passes begun taken in
      let checks = checks_grow (new_or_none a g) fault h.ranges h.passed h.checked h.checks in
      let far = grows_on old h.passed h.checked w.adds.grows checks in
      let to_all = grows_on h.checked mid all (value_grows a.probed a (new_or_none a g) r h.checked mid n h.value) grows in
      let formed_passed = adds_formed old h.passed w.adds (grows_on h.passed h.checked all checks to_all) formed in
      let formed_checked = checks_put g fault h.ranges h.passed h.checked h.checks to_all (begun_later x old h.passed w.adds.grows begun) formed_passed w.ranges gk
      (inputs_later old h.passed w.adds.grows (one_or_none g) gi) named in
      value_put a.probed g r h.checked mid n h.value grows (begun_later x old h.checked far begun) formed_checked gk (inputs_later old h.checked far (one_or_none g) gi)
      (inputs_later old h.checked far (reach_takes r) taken)

  -- One operation, whatever its form.

  form_put : (g : Option ℕ) (f : OperationForm) (old mid : List Operation) (n : ℕ) → IsFormMade a (new_or_none a g) f old mid n → OperationsGrow mid all → first ≤ length old → Formed (length old)
      → AllByRecursion (λ v. known_kind a v ≡ kind.Bool) (one_or_none g) → AllByRecursion (Input (length old)) (one_or_none g)
      → FormSuits p (first_in p block) ks f → AllByRecursion (Input (length old)) (form_takes f)
      → PutsPiece mid n ((a.probed ≡ true) ⊎ (is_probe_form f ≡ false)) (form_kind p.table p.registers (first_in p block) ks f)
  form_put g (Constant word) old mid n h grows begun formed gk gi suits taken = same_put old mid n g (Constant word) _ _ h grows begun formed gk gi tt suits refl
  form_put g (Old register) old mid n h grows begun formed gk gi suits taken = same_put old mid n g (Old register) _ _ h grows begun formed gk gi tt suits refl
  form_put g (Compute o left right) old mid n h grows begun formed gk gi suits taken =
      same_put old mid n g (Compute o (new_number a left) (new_number a right)) _ _ h grows begun formed gk gi
      (between (length old) left taken.0, (between (length old) right taken.1.0, tt))
      (subst (λ (k : Kind). Suits o k (kind_of_value first kinds (new_number a right))) (sym taken.0.kind_is) (subst (λ (l : Kind). Suits o (known_kind a left) l) (sym taken.1.0.kind_is) suits))
      (ap (λ (k : Kind). result_of o k) taken.0.kind_is)
  form_put g (Convert inner to) old mid n h grows begun formed gk gi suits taken =
      same_put old mid n g (Convert (new_number a inner) to) _ _ h grows begun formed gk gi (between (length old) inner taken.0, tt) suits refl
  form_put g (Select test b c) old mid n h grows begun formed gk gi suits taken =
      same_put old mid n g (Select (new_number a test) (new_number a b) (new_number a c)) _ _ h grows begun formed gk gi
      (between (length old) test taken.0, (between (length old) b taken.1.0, (between (length old) c taken.1.1.0, tt)))
      (taken.0.kind_is ∙ suits.0, taken.1.0.kind_is ∙ (suits.1 ∙ sym taken.1.1.0.kind_is))
      taken.1.0.kind_is
  form_put g (Check ok fault) old mid n h grows begun formed gk gi suits taken =
      same_put old mid n g (Check (new_number a ok) fault) _ _ h grows begun formed gk gi (between (length old) ok taken.0, tt) (taken.0.kind_is ∙ suits.0, suits.1) refl
  form_put g (Probe r fault) old mid n h grows begun formed gk gi suits taken = probe_put g r fault old mid n h grows begun formed gk gi suits.0 suits.1.1 taken
  form_put g (Read r) old mid n h grows begun formed gk gi suits taken = read_put g r old mid n _ _ h grows begun formed gk gi suits taken refl
  form_put g (Write r value) old mid n h grows begun formed gk gi suits taken = write_put g r value old mid n _ _ h grows begun formed gk gi suits taken.0 taken.1 refl
  form_put g (Set register value) old mid n h grows begun formed gk gi suits taken =
      same_put old mid n g (Set register (new_number a value)) _ _ h grows begun formed gk gi (between (length old) value taken.0, tt) (suits.0, taken.0.kind_is ∙ suits.1) refl

  pub piece_put : (o : Operation) (old mid : List Operation) (n : ℕ) → IsPiece a o old mid n → OperationsGrow mid all → first ≤ length old → Formed (length old)
      → OperationSuits p (first_in p block) ks o → AllByRecursion (Input (length old)) (operation_takes o)
      → PutsPiece mid n ((a.probed ≡ true) ⊎ (is_probe_form o.form ≡ false)) (form_kind p.table p.registers (first_in p block) ks o.form)
  piece_put o old mid n h grows begun formed suits taken =
      form_put o.guard o.form old mid n h grows begun formed suits.guard (all_left (Input (length old)) (one_or_none o.guard) (form_takes o.form) taken) suits.form
      (all_right (Input (length old)) (one_or_none o.guard) (form_takes o.form) taken)
