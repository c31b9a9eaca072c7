-- Why a check is put down: the old operation is a check of the same fault, or a probe of it of which some value is no
-- literal in range. So no check has a fault of literals alone.
use Rattle.std.proofs.Common.{◌≡◌, ℕ, suc, true, false, List, refl, sym, ap, ◌∙◌, subst}
use Rattle.std.specs.Prelude.{Option, Some, None, [], ◌∷◌, slice_get}
use Rattle.std.specs.List.{AllByRecursion}
use Rattle.std.proofs.lemmas.List.{append_cancel_left}
use Rattle.dh_value.specs.declared.kinds.Kind.{Kind}
use Rattle.dh_tree.specs.declared.tables.MemEntry.{MemEntry}
use Rattle.dh_tree.specs.declared.viewing.ViewMap.{ViewMap}
use Rattle.dh_tree.specs.Shapes.{IsProgramTable}
use Rattle.dh_plan.specs.declared.operations.Operation.{Operation}
use Rattle.dh_plan.specs.declared.operations.OperationForm.{OperationForm}
use Rattle.dh_plan.specs.declared.operations.OperationForm.TheVariants.{Constant, Old, Compute, Convert, Select, Check, Probe, Read, Write, Set}
use Rattle.dh_plan.specs.declared.operations.Reach.{Reach}
use Rattle.dh_plan.specs.DoneProgram.{IsOfLiterals}
use Rattle.dh_plan.specs.PlainPlans.{PlainPlan, first_in, operations_in}
use Rattle.dh_plan.specs.PlanKinds.{IsFormedBlock, form_kind}
use Rattle.dh_rows.specs.Readings.{is_plain}
use Rattle.dh_rows.specs.MadeOperations.{IsMade, pushed}
use Rattle.dh_address.specs.Pieces.{RenumberedBlock, IsFormMade, new_number, new_or_none}
use Rattle.dh_address.specs.declared.operands.Ranged.{Ranged}
use Rattle.dh_address.specs.WaysMade.{reach_passed}
use Rattle.dh_address.specs.Images.{IsImage, ArePieces, and_known, around_block, operations_until}
use Rattle.dh_address.proofs.PiecesBy.{GrowsBy, each_at, AllowsCheck, by_on, by_self, access_by, probed_by, range_literal}
use Rattle.dh_address.proofs.WaySizes.{HasMaps}
use Rattle.dh_address.proofs.PartsSeen.{until_block}
use Rattle.dh_address.proofs.LiteralsFound.{IsLiteral, AreAllLiteral, literal_ways}

-- what is to be in range of an access, as it was put down, is not of literals alone
pub record IsUnliteral (table : List MemEntry) (views : List ViewMap) (os : List Operation) (first : ℕ) (r : Reach) : Type 0 where
  pub around : RenumberedBlock
  pub table_is : around.table ≡ table
  pub views_is : around.views ≡ views
  pub operations_are : around.operations ≡ os
  pub first_is : around.first ≡ first
  pub before : List Operation
  pub unliteral : AreAllLiteral (reach_passed around r before).ranges → ⊥

module _ (table : List MemEntry) (views : List ViewMap) (os : List Operation) (first : ℕ) where
  abbrev pub IsReason : OperationForm → (fault : ℕ) → Type 0
  IsReason (Constant w) f = ⊥
  IsReason (Old register) f = ⊥
  IsReason (Compute o left right) f = ⊥
  IsReason (Convert inner to) f = ⊥
  IsReason (Select test a b) f = ⊥
  IsReason (Check ok fault) f = fault ≡ f
  IsReason (Probe r fault) f = (fault ≡ f) × IsUnliteral table views os first r
  IsReason (Read r) f = ⊥
  IsReason (Write r value) f = ⊥
  IsReason (Set register value) f = ⊥

  -- a check is put down for one of these operations
  pub record HasReason (old : List Operation) (fault : ℕ) : Type 0 where
    pub place : ℕ
    pub operation : Operation
    pub there : slice_get old place ≡ Some operation
    pub reason : IsReason operation.form fault

  abbrev pub ChecksFor : OperationForm → Operation → Type 0
  ChecksFor f x = (ok fault : ℕ) → x.form ≡ Check ok fault → IsReason f fault

  abbrev pub ChecksOf : (old : List Operation) → Operation → Type 0
  ChecksOf old x = (ok fault : ℕ) → x.form ≡ Check ok fault → HasReason old fault

  plain_unchecked : (x : Operation) (ok fault : ℕ) → is_plain x.form ≡ true → x.form ≡ Check ok fault → ⊥
  plain_unchecked x ok fault plain e = let h : false ≡ true = sym (ap is_plain e) ∙ plain in absurd (cc)

  plain_for : (f : OperationForm) (x : Operation) → is_plain x.form ≡ true → ChecksFor f x
  plain_for f x plain ok fault e = absurd (plain_unchecked x ok fault plain e)

  plain_of : (old : List Operation) (x : Operation) → is_plain x.form ≡ true → ChecksOf old x
  plain_of old x plain ok fault e = absurd (plain_unchecked x ok fault plain e)

  one_more : (f : OperationForm) (old new : List Operation) (g : Option ℕ) (h : OperationForm) (n : ℕ) → IsMade new n (pushed old g h) → ChecksFor f (record { guard = g; form = h }) → GrowsBy (ChecksFor f) old new
  one_more f old new g h n made so = record { more = record { guard = g; form = h } ∷ []; appended = made.0; each = (so, tt) }

-- of values that are all literals none is no literal
module _ (a : RenumberedBlock) where
  refute_each : (rs all : List Ranged) → (AreAllLiteral all → AreAllLiteral rs) → AllByRecursion (λ r. range_literal r ≡ None → AreAllLiteral all → ⊥) rs
  refute_each [] all to = tt
  refute_each (r ∷ rs) all to = ((λ e h. refuted e (to h).0), refute_each rs all (λ h. (to h).1))
    where
      refuted : range_literal r ≡ None → IsLiteral r → ⊥
      refuted e (n, found) = absurd (cc)

  abbrev Checks : OperationForm → Operation → Type 0
  Checks f x = ChecksFor a.table a.views a.operations a.first f x

  plain_checks : (f : OperationForm) (x : Operation) → is_plain x.form ≡ true → Checks f x
  plain_checks f x plain = plain_for a.table a.views a.operations a.first f x plain

  probe_allows : (r : Reach) (fault : ℕ) (g : Option ℕ) (old : List Operation) (rs all : List Ranged) → all ≡ (reach_passed a r old).ranges
      → AllByRecursion (λ s. range_literal s ≡ None → AreAllLiteral all → ⊥) rs
      → AllByRecursion (AllowsCheck (Checks (Probe r fault)) (plain_checks (Probe r fault)) g fault) rs
  probe_allows r fault g old [] all is h = tt
  probe_allows r fault g old (s ∷ rs) all is h = (allowed, probe_allows r fault g old rs all is h.1)
    where
      allowed : AllowsCheck (Checks (Probe r fault)) (plain_checks (Probe r fault)) g fault s
      allowed e test ok f same = (
        faults same,
        record {
          around = a;
          table_is = refl;
          views_is = refl;
          operations_are = refl;
          first_is = refl;
          before = old;
          unliteral = λ literals. h.0 e (subst (λ (l : List Ranged). AreAllLiteral l) (sym is) literals);
        },
      )
        where
          faults : Check test fault ≡ Check ok f → fault ≡ f
          faults e = cc

  form_checks : (g : Option ℕ) (f : OperationForm) (old new : List Operation) (n : ℕ) → IsFormMade a g f old new n → GrowsBy (Checks f) old new
  form_checks g (Constant word) old new n h = one_more a.table a.views a.operations a.first (Constant word) old new g _ n h (λ ok fault e. absurd (cc))
  form_checks g (Old register) old new n h = one_more a.table a.views a.operations a.first (Old register) old new g _ n h (λ ok fault e. absurd (cc))
  form_checks g (Compute o left right) old new n h = one_more a.table a.views a.operations a.first (Compute o left right) old new g _ n h (λ ok fault e. absurd (cc))
  form_checks g (Convert inner to) old new n h = one_more a.table a.views a.operations a.first (Convert inner to) old new g _ n h (λ ok fault e. absurd (cc))
  form_checks g (Select test b c) old new n h = one_more a.table a.views a.operations a.first (Select test b c) old new g _ n h (λ ok fault e. absurd (cc))
  form_checks g (Check ok fault) old new n h = one_more a.table a.views a.operations a.first (Check ok fault) old new g _ n h (λ k f e. faults k f e)
    where
      faults : (k f : ℕ) → Check (new_number a ok) fault ≡ Check k f → fault ≡ f
      faults k f e = cc
  form_checks g (Probe r fault) old new n h =
      probed_by (Checks (Probe r fault)) (plain_checks (Probe r fault)) a g r fault old new n h
      (probe_allows r fault g old h.ranges h.ranges h.passes.1.0 (refute_each h.ranges h.ranges (λ l. l)))
  form_checks g (Read r) old new n h =
      by_on (Checks (Read r)) (plain_checks (Read r)) old h.last new (access_by (Checks (Read r)) (plain_checks (Read r)) a g r old h.last h.on h.reach h.access)
      (one_more a.table a.views a.operations a.first (Read r) h.last new h.on (Read h.reach) n h.read (λ ok fault e. absurd (cc)))
  form_checks g (Write r value) old new n h =
      by_on (Checks (Write r value)) (plain_checks (Write r value)) old h.last new (access_by (Checks (Write r value)) (plain_checks (Write r value)) a g r old h.last h.on h.reach h.access)
      (one_more a.table a.views a.operations a.first (Write r value) h.last new h.on (Write h.reach (new_number a value)) n h.write (λ ok fault e. absurd (cc)))
  form_checks g (Set register value) old new n h = one_more a.table a.views a.operations a.first (Set register value) old new g _ n h (λ ok fault e. absurd (cc))

  each_first : (o : Operation) (os more : List Operation) → AllByRecursion (Checks o.form) more → AllByRecursion (ChecksOf a.table a.views a.operations a.first (o ∷ os)) more
  each_first o os [] h = tt
  each_first o os (x ∷ more) h = ((λ ok fault e. record { place = 0; operation = o; there = refl; reason = h.0 ok fault e }), each_first o os more h.1)

  each_later : (o : Operation) (os more : List Operation) → AllByRecursion (ChecksOf a.table a.views a.operations a.first os) more → AllByRecursion (ChecksOf a.table a.views a.operations a.first (o ∷ os)) more
  each_later o os [] h = tt
  each_later o os (x ∷ more) h = ((λ ok fault e. later (h.0 ok fault e)), each_later o os more h.1)
    where
      later : {fault : ℕ} → HasReason a.table a.views a.operations a.first os fault → HasReason a.table a.views a.operations a.first (o ∷ os) fault
      later r = record { place = suc r.place; operation = r.operation; there = r.there; reason = r.reason }

pieces_checks : (registers : List Kind) (os : List Operation) (a : RenumberedBlock) (old new : List Operation) (numbers : List ℕ) → ArePieces registers a os old new numbers
    → GrowsBy (ChecksOf a.table a.views a.operations a.first os) old new
pieces_checks registers [] a old new numbers h =
    subst (λ (l : List Operation). GrowsBy (ChecksOf a.table a.views a.operations a.first []) old l) (sym h.0) (by_self (ChecksOf a.table a.views a.operations a.first []) (plain_of a.table a.views a.operations a.first []) old)
pieces_checks registers (o ∷ os) a old new numbers h =
    let first = form_checks a (new_or_none a o.guard) o.form old h.mid h.number h.piece in
    let rest = pieces_checks registers os (and_known a h.number (form_kind a.table registers a.first a.kinds o.form)) h.mid new numbers h.rest in
    by_on (ChecksOf a.table a.views a.operations a.first (o ∷ os)) (plain_of a.table a.views a.operations a.first (o ∷ os)) old h.mid new
    (record { more = first.more; appended = first.appended; each = each_first a o os first.more first.each })
    (record { more = rest.more; appended = rest.appended; each = each_later a o os rest.more rest.each })

module _ (p q : PlainPlan) (h : IsImage p q) where
  -- each check of a block has a reason
  pub check_reason : (block j ok fault : ℕ) (guard : Option ℕ) → slice_get (operations_in q block) j ≡ Some (record { guard = guard; form = Check ok fault })
      → HasReason p.table p.views (operations_in p block) (first_in p block) (operations_in p block) fault
  check_reason block j ok fault guard at =
      each_at (ChecksOf p.table p.views (operations_in p block) (first_in p block) (operations_in p block)) (operations_in q block) j (record { guard = guard; form = Check ok fault })
      (subst (λ (os : List Operation). AllByRecursion (ChecksOf p.table p.views (operations_in p block) (first_in p block) (operations_in p block)) os) same made.each) at ok fault refl
    where
      before : List Operation
      before = operations_until q.blocks block

      made : GrowsBy (ChecksOf p.table p.views (operations_in p block) (first_in p block) (operations_in p block)) before (operations_until q.blocks (suc block))
      made = pieces_checks p.registers (operations_in p block) (around_block p block) before (operations_until q.blocks (suc block)) (h.blocks block).numbers (h.blocks block).pieces

      same : made.more ≡ operations_in q block
      same = append_cancel_left before made.more (operations_in q block) (sym made.appended ∙ until_block q.blocks block)

  pub checks_unliteral : ((block : ℕ) → IsFormedBlock p block) → HasMaps p → IsProgramTable p.table → (fault c j ok : ℕ) (guard : Option ℕ) → IsOfLiterals p fault
      → slice_get (operations_in q c) j ≡ Some (record { guard = guard; form = Check ok fault }) → ⊥
  checks_unliteral formed maps tables fault c j ok guard literal at = of why.operation.form refl why.reason
    where
      why : HasReason p.table p.views (operations_in p c) (first_in p c) (operations_in p c) fault
      why = check_reason c j ok fault guard at

      there : (f : OperationForm) → why.operation.form ≡ f → slice_get (operations_in p c) why.place ≡ Some (record { guard = why.operation.guard; form = f })
      there f is = why.there ∙ ap (λ (g : OperationForm). Some (record { guard = why.operation.guard; form = g })) is

      of : (f : OperationForm) → why.operation.form ≡ f → IsReason p.table p.views (operations_in p c) (first_in p c) f fault → ⊥
      of (Constant w) is r = r
      of (Old register) is r = r
      of (Compute o left right) is r = r
      of (Convert inner to) is r = r
      of (Select test a b) is r = r
      of (Check k other) is r = literal.checks c why.place k why.operation.guard (there (Check k fault) (is ∙ ap (λ n. Check k n) r))
      of (Probe t other) is r =
          let same = ap (λ n. Probe t n) r.0 in
          let at = there (Probe t fault) (is ∙ same) in
          let suits = ((formed c).suits why.place (record { guard = why.operation.guard; form = Probe t fault }) at).form in
          r.1.unliteral (literal_ways p c (formed c) r.1.around (record { table = r.1.table_is; views = r.1.views_is; operations = r.1.operations_are; first_is = r.1.first_is }) maps tables t suits.0
          (literal.probes c why.place why.operation.guard t at) r.1.before).0
      of (Read t) is r = r
      of (Write t value) is r = r
      of (Set register value) is r = r
