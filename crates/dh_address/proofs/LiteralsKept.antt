-- Row and bank of a literal access are constants of the new plan; and what all this says of a plan's literals.
use Rattle.std.proofs.Common.{◌≡◌, ℕ, zero, suc, ◌+◌, ◌-◌, ◌<◌, ◌≤◌, Bool, true, false, List, refl, sym, ap, ◌∙◌, subst, arith, length}
use Rattle.std.specs.Prelude.{Option, Some, None, [], ◌∷◌, ◌++◌, slice_get, slice_index}
use Rattle.std.specs.List.{AllByRecursion}
use Rattle.std.proofs.Math.Nat.{add-sub_cancel_left}
use Rattle.std.proofs.lemmas.List.{append-nil, length-append}
use Rattle.dh_value.specs.declared.kinds.Kind.TheVariants as kind
use Rattle.dh_value.specs.declared.words.Word.{Word}
use Rattle.dh_value.specs.Words.{with_bits}
use Rattle.dh_tree.specs.declared.tables.MemEntry.{MemEntry}
use Rattle.dh_tree.specs.Elements.{dims_at}
use Rattle.dh_tree.specs.Shapes.{IsProgramTable}
use Rattle.dh_plan.specs.declared.operations.Operation.{Operation}
use Rattle.dh_plan.specs.declared.operations.OperationForm.{OperationForm}
use Rattle.dh_plan.specs.declared.operations.OperationForm.TheVariants.{Constant, Old, Compute, Convert, Select, Check, Probe, Read, Write, Set}
use Rattle.dh_plan.specs.declared.operations.PlanBlock.{PlanBlock}
use Rattle.dh_plan.specs.declared.operations.Reach.{Reach}
use Rattle.dh_plan.specs.DoneProgram.{IsConstantAt, IsConstantOr, NamedByConstants, HasLiterals, IsLiteralAccess, KeepsLiterals}
use Rattle.dh_plan.specs.Ordered.{IsBetween, one_or_none, offsets_taken, operation_takes, reach_takes}
use Rattle.dh_plan.specs.PlainPlans.{PlainPlan, first_in, operations_before, operations_in}
use Rattle.dh_plan.specs.PlanKinds.{FormSuits, IsFormedBlock, ReachSuits, kinds_of}
use Rattle.dh_plan.specs.SoundPlans.{HasUse, access_in, use_in}
use Rattle.dh_rows.specs.Readings.{OperationsGrow}
use Rattle.dh_rows.specs.MadeOperations.{constant_made}
use Rattle.dh_rows.proofs.Growing.{grown_length, grows_on, grows_self, kept_there}
use Rattle.dh_address.proofs.WaySizes.{HasMaps}
use Rattle.dh_address.specs.declared.literals.LiteralPlace.{LiteralPlace}
use Rattle.dh_address.specs.Pieces.{RenumberedBlock, IsAim, IsAimBut, IsAimedReach, IsAimedByIndices, aim_width, is_banked, new_number, new_or_none, select_width, operand_values, waited}
use Rattle.dh_address.specs.declared.operands.BlockValue.{BlockValue}
use Rattle.dh_address.specs.WaysMade.{ranges_by, reach_passed}
use Rattle.dh_address.specs.Images.{IsImage, around_block, operations_until}
use Rattle.dh_address.proofs.ImageReadings.{at_last, behind_front}
use Rattle.dh_address.proofs.PiecesGrow.{access_grows, guarded_grows, waited_grows}
use Rattle.dh_address.proofs.PiecesQuiet.{IsRowOf, row_aimed}
use Rattle.dh_address.proofs.PartsSeen.{until_block}
use Rattle.dh_address.proofs.LiteralsFound.{AreAllLiteral, IsOfBlock, literal_ways, places_found}
use Rattle.dh_address.proofs.WaysPlain.{passed_grows}
use Rattle.dh_address.proofs.LiteralRows.{HasUsePut, IsKept, IsUsePut, KeepsConstants, kept_on, use_found}
use Rattle.dh_address.proofs.ChecksPut.{checks_unliteral}

-- Lists.

all_front : (P : ℕ → Type 0) (xs ys : List ℕ) → AllByRecursion P (xs ++ ys) → AllByRecursion P xs
all_front P [] ys h = tt
all_front P (x ∷ xs) ys h = (h.0, all_front P xs ys h.1)

all_back : (P : ℕ → Type 0) (xs ys : List ℕ) → AllByRecursion P (xs ++ ys) → AllByRecursion P ys
all_back P [] ys h = h
all_back P (x ∷ xs) ys h = all_back P xs ys h.1

until_length : (bs : List PlanBlock) (n : ℕ) → length (operations_until bs n) ≡ operations_before bs n
until_length [] n = refl
until_length (b ∷ bs) zero = refl
until_length (b ∷ bs) (suc n) = length-append b.operations (operations_until bs n) ∙ ap (λ m. length b.operations + m) (until_length bs n)

-- What reads or writes, takes the values of its access, which suits.

use_accesses : (f : OperationForm) (r : Reach) → use_in f ≡ Some r → access_in f ≡ Some r
use_accesses (Constant w) r e = absurd (cc)
use_accesses (Old register) r e = absurd (cc)
use_accesses (Compute o left right) r e = absurd (cc)
use_accesses (Convert inner to) r e = absurd (cc)
use_accesses (Select test a b) r e = absurd (cc)
use_accesses (Check ok fault) r e = absurd (cc)
use_accesses (Probe t fault) r e = absurd (cc)
use_accesses (Read t) r e = e
use_accesses (Write t value) r e = e
use_accesses (Set register value) r e = absurd (cc)

use_suits : (p : PlainPlan) (first : ℕ) (kinds : List _) (f : OperationForm) (r : Reach) → use_in f ≡ Some r → FormSuits p first kinds f → ReachSuits p first kinds r
use_suits p first kinds (Constant w) r e h = absurd (cc)
use_suits p first kinds (Old register) r e h = absurd (cc)
use_suits p first kinds (Compute o left right) r e h = absurd (cc)
use_suits p first kinds (Convert inner to) r e h = absurd (cc)
use_suits p first kinds (Select test a b) r e h = absurd (cc)
use_suits p first kinds (Check ok fault) r e h = absurd (cc)
use_suits p first kinds (Probe t fault) r e h = absurd (cc)
use_suits p first kinds (Read t) r e h = let same : t ≡ r = cc in subst (λ (u : Reach). ReachSuits p first kinds u) same h.0
use_suits p first kinds (Write t value) r e h = let same : t ≡ r = cc in subst (λ (u : Reach). ReachSuits p first kinds u) same h.0
use_suits p first kinds (Set register value) r e h = absurd (cc)

use_takes : (P : ℕ → Type 0) (g : Option ℕ) (f : OperationForm) (r : Reach) → use_in f ≡ Some r → AllByRecursion P (operation_takes (record { guard = g; form = f })) → AllByRecursion P (reach_takes r)
use_takes P g (Constant w) r e h = absurd (cc)
use_takes P g (Old register) r e h = absurd (cc)
use_takes P g (Compute o left right) r e h = absurd (cc)
use_takes P g (Convert inner to) r e h = absurd (cc)
use_takes P g (Select test a b) r e h = absurd (cc)
use_takes P g (Check ok fault) r e h = absurd (cc)
use_takes P g (Probe t fault) r e h = absurd (cc)
use_takes P g (Read t) r e h = let same : t ≡ r = cc in subst (λ (u : Reach). AllByRecursion P (reach_takes u)) same (all_back P (one_or_none g) (reach_takes t) h)
use_takes P g (Write t value) r e h = let same : t ≡ r = cc in subst (λ (u : Reach). AllByRecursion P (reach_takes u)) same (all_back P (one_or_none g) (value ∷ reach_takes t) h).1
use_takes P g (Set register value) r e h = absurd (cc)

module _ (p q : PlainPlan) (h : IsImage p q) (formed : (block : ℕ) → IsFormedBlock p block) (maps : HasMaps p) (tables : IsProgramTable p.table) (c : ℕ) where
  abbrev base : List Operation
  base = operations_until q.blocks c

  abbrev whole : List Operation
  whole = operations_until q.blocks (suc c)

  -- a constant that was kept is one of the new block
  kept_constant : (n : ℕ) (w : Word) → IsKept base whole n w → IsConstantAt q c n
  kept_constant n w k = record { place = n - length base; own = own; word = w; there = there }
    where
      begun : length base ≤ n
      begun = k.begun

      sum : n ≡ length base + (n - length base)
      sum = omega (arith, begun)

      own : n ≡ first_in q c + (n - length base)
      own = sum ∙ ap (λ m. m + (n - length base)) (until_length q.blocks c)

      there : slice_get (operations_in q c) (n - length base) ≡ Some (record { guard = None; form = Constant w })
      there = sym (behind_front base (operations_in q c) (n - length base)) ∙ (ap (λ m. slice_get (base ++ operations_in q c) m) (sym sum)
          ∙ (ap (λ (os : List Operation). slice_get os n) (sym (until_block q.blocks c)) ∙ k.there))

  -- Of an access by a row: its values are constants of the old block, and known.
  module _ (a : RenumberedBlock) (before : List Operation) (own : ℕ) (keeps : KeepsConstants base a before) (grows : OperationsGrow before whole) (operations_are : a.operations ≡ operations_in p c)
      (first_is : a.first ≡ first_in p c) (long : length a.numbers ≡ own) where
    known_constant : (v : ℕ) → IsConstantAt p c v → IsBetween (first_in p c) (first_in p c + own) v → IsConstantAt q c (new_number a v)
    known_constant v k between = kept_constant (new_number a v) k.word (kept_on base before whole (new_number a v) k.word grows kept)
      where
        place : v - a.first ≡ k.place
        place = ap (λ n. v - n) first_is ∙ (ap (λ n. n - first_in p c) k.own ∙ add-sub_cancel_left (first_in p c) k.place)

        few : k.place < length a.numbers
        few = let l = long in let is = k.own in let below = between.1 in omega (arith, l, is, below)

        kept : IsKept base before (new_number a v) k.word
        kept = subst (λ n. IsKept base before n k.word) (ap (λ n. slice_index a.numbers n) (sym place))
            (keeps.each k.place k.word few (subst (λ (os : List Operation). slice_get os k.place ≡ Some (record { guard = None; form = Constant k.word })) (sym operations_are) k.there))

    known_or : (v : Option ℕ) → IsConstantOr p c v → AllByRecursion (IsBetween (first_in p c) (first_in p c + own)) (one_or_none v) → IsConstantOr q c (new_or_none a v)
    known_or None k between = tt
    known_or (Some v) k between = known_constant v k between.0

  -- Of an access by indices they are put down.
  made_constant : (old new : List Operation) (width number : ℕ) → OperationsGrow base old → OperationsGrow (constant_made old width number).operations new → OperationsGrow new whole → IsConstantAt q c (length old)
  made_constant old new width number begun put grows = kept_constant (length old) (with_bits (kind.Unsigned width) number) (record {
    begun = grown_length base old begun;
    there = kept_there new whole grows (length old) _ (kept_there _ new put (length old) _ (at_last old _));
  })

  aim_constants : (banked : Bool) (width narrow row bank : ℕ) (old new : List Operation) (n : ℕ) (select : Option ℕ) → OperationsGrow base old → OperationsGrow new whole
      → IsAim banked (constant_made old width row) (constant_made (constant_made old width row).operations narrow bank) new n select → IsConstantAt q c n × IsConstantOr q c select
  aim_constants false width narrow row bank old new n select begun grows e = (
    subst (IsConstantAt q c) (sym e.1.0) (made_constant old new width row begun (record { more = []; appended = e.0 ∙ sym (append-nil (constant_made old width row).operations) }) grows),
    subst (IsConstantOr q c) (sym e.1.1) tt,
  )
  aim_constants true width narrow row bank old new n select begun grows e = (
    subst (IsConstantAt q c) (sym e.1.0) (made_constant old new width row begun (record { more = _; appended = e.0 }) grows),
    subst (IsConstantOr q c) (sym e.1.1)
        (made_constant (constant_made old width row).operations new narrow bank (grows_on base old _ begun (record { more = _; appended = refl }))
        (record { more = []; appended = e.0 ∙ sym (append-nil (constant_made (constant_made old width row).operations narrow bank).operations) }) grows),
  )

  -- A read or write of the new block.
  rows_of_use : (number : ℕ) (t : Reach) → IsLiteralAccess p number → t.access ≡ number → HasUsePut base (around_block p c) (operations_in p c) whole t → IsConstantOr q c t.row × IsConstantOr q c t.select
  rows_of_use number t literal same u = by_row r.row refl
    where
      a : RenumberedBlock
      a = u.around

      put : IsUsePut a u.operation.form u.before u.after t
      put = u.use_put

      r : Reach
      r = put.old_reach

      row_of_old : IsRowOf r t
      row_of_old = row_aimed a r r.row put.made.indices put.made.guarded put.last t put.made.aims

      literals : HasLiterals p c r
      literals = literal c u.place r (record { operation = u.operation; there = u.there; accesses = use_accesses u.operation.form r put.uses }) (sym row_of_old.access ∙ same)

      suits : ReachSuits p (first_in p c) (kinds_of p c) r
      suits = use_suits p (first_in p c) (kinds_of p c) u.operation.form r put.uses ((formed c).suits u.place u.operation u.there).form

      takes : AllByRecursion (IsBetween (first_in p c) (first_in p c + u.place)) (reach_takes r)
      takes = use_takes (IsBetween (first_in p c) (first_in p c + u.place)) u.operation.guard u.operation.form r put.uses ((formed c).ordered.each u.place u.operation u.there)

      behind_last : OperationsGrow put.last whole
      behind_last = grows_on put.last u.after whole put.grows u.grows

      begun_guarded : OperationsGrow base put.made.guarded
      begun_guarded =
          grows_on base u.before put.made.guarded u.begun (grows_on u.before put.made.passed put.made.guarded (passed_grows a r u.before put.made.passed put.made.ranges put.made.indices put.made.passes)
          (guarded_grows put.guard put.made.ranges put.made.passed put.made.guarded put.on put.made.guards))

      behind_before : OperationsGrow u.before whole
      behind_before = grows_on u.before put.last whole (access_grows a put.guard r u.before put.last put.on t put.made) behind_last

      known : length a.numbers ≡ u.place
      known = let k = u.known in omega (arith, k)

      or_as : (v w : Option ℕ) → v ≡ w → IsConstantOr q c w → IsConstantOr q c v
      or_as v w e k = subst (IsConstantOr q c) (sym e) k

      by_given : (row : ℕ) → r.row ≡ Some row → IsConstantOr q c t.row × IsConstantOr q c t.select
      by_given row is =
          let aims = subst (λ (o : Option ℕ). IsAimedReach a r o put.made.indices put.made.guarded put.last t) is put.made.aims in
          let named = subst (λ (o : Option ℕ). NamedByConstants p c r o) is literals.constants in
          let Between = IsBetween (first_in p c) (first_in p c + u.place) in
          let behind = all_back Between (offsets_taken r.steps) (one_or_none r.select ++ one_or_none r.row) (all_back Between r.indices (offsets_taken r.steps ++ (one_or_none r.select ++ one_or_none r.row)) takes) in
          let select = all_front Between (one_or_none r.select) (one_or_none r.row) behind in
          let own = subst (λ (o : Option ℕ). AllByRecursion Between (one_or_none o)) is (all_back Between (one_or_none r.select) (one_or_none r.row) behind) in (
            or_as t.row (Some (new_number a row)) (ap (λ (v : Reach). v.row) aims.1) (known_constant a u.before u.place u.keeps behind_before u.operations_are u.first_is known row named.0 own.0),
            or_as t.select (new_or_none a r.select) (ap (λ (v : Reach). v.select) aims.1) (known_or a u.before u.place u.keeps behind_before u.operations_are u.first_is known r.select named.1 select),
          )

      by_indices : r.row ≡ None → IsConstantOr q c t.row × IsConstantOr q c t.select
      by_indices is =
          let aims : IsAimedByIndices a r put.made.indices put.made.guarded put.last t = subst (λ (o : Option ℕ). IsAimedReach a r o put.made.indices put.made.guarded put.last t) is put.made.aims in
          let own : IsOfBlock p c (formed c) a = record { table = u.table_is; views = u.views_is; operations = u.operations_are; first_is = u.first_is } in
          let ranges = (literal_ways p c (formed c) a own maps tables r suits literals u.before).1 is in
          let dims = dims_at a.table r.memory in
          let at_own : AreAllLiteral (ranges_by dims put.made.indices)
          = subst (λ (os : List BlockValue). AreAllLiteral (ranges_by dims os)) (sym put.made.passes.1.1) (subst (λ (t : List MemEntry). AreAllLiteral (ranges_by (dims_at t r.memory) (reach_passed a r u.before).indices)) (sym u.table_is) ranges)
          in
          let found = places_found dims put.made.indices 0 0 at_own in
          let aim = subst (λ (o : Option LiteralPlace). IsAimBut o (aim_width dims) (select_width dims) dims (operand_values put.made.indices) (is_banked r)
          (waited put.made.guarded (new_or_none a r.select)).operations put.last aims.row aims.select) found.1 aims.aim in
          let two = aim_constants (is_banked r) (aim_width dims) (select_width dims) found.0.row found.0.bank (waited put.made.guarded (new_or_none a r.select)).operations put.last aims.row aims.select
          (grows_on base put.made.guarded _ begun_guarded (waited_grows put.made.guarded (new_or_none a r.select))) behind_last aim in
          (or_as t.row (Some aims.row) (ap (λ (v : Reach). v.row) aims.reach) two.0, or_as t.select aims.select (ap (λ (v : Reach). v.select) aims.reach) two.1)

      by_row : (row : Option ℕ) → r.row ≡ row → IsConstantOr q c t.row × IsConstantOr q c t.select
      by_row None is = by_indices is
      by_row (Some row) is = by_given row is

  pub rows_constant : (number j : ℕ) (t : Reach) → IsLiteralAccess p number → HasUse q c j t → t.access ≡ number → IsConstantOr q c t.row × IsConstantOr q c t.select
  rows_constant number j t literal used same =
      rows_of_use number t literal same
      (use_found base p.registers (operations_in p c) (around_block p c) base whole (h.blocks c).numbers (h.blocks c).pieces (record { each = λ i w l e. absurd (omega (arith, l)) }) (grows_self base) from_none
      (length base + j) used.operation t (omega arith) at used.uses)
    where
      at : slice_get whole (length base + j) ≡ Some used.operation
      at = ap (λ (os : List Operation). slice_get os (length base + j)) (until_block q.blocks c) ∙ (behind_front base (operations_in q c) j ∙ used.there)

      from_none : (i : ℕ) (o : Operation) → slice_get (operations_in p c) i ≡ Some o → slice_get (operations_in p c) (0 + i) ≡ Some o
      from_none i o e = let none : 0 + i ≡ i = omega arith in subst (λ n. slice_get (operations_in p c) n ≡ Some o) (sym none) e

pub literals_kept : (p q : PlainPlan) → IsImage p q → ((block : ℕ) → IsFormedBlock p block) → HasMaps p → IsProgramTable p.table → KeepsLiterals p q
literals_kept p q h formed maps tables = record {
  unchecked = λ fault c j ok guard literal at. checks_unliteral p q h formed maps tables fault c j ok guard literal at;
  rows = λ number c j t literal used same. rows_constant p q h formed maps tables c number j t literal used same;
}
