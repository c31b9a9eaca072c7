-- What is put down of an operation but for its own image: plain operations, and checks of a probe. Whatever holds of
-- these holds of all that comes behind.
use Rattle.std.proofs.Common.{◌≡◌, ℕ, zero, suc, Bool, true, false, List, refl, sym, ap, ◌∙◌, subst}
use Rattle.std.specs.Prelude.{Option, Some, None, [], ◌∷◌, ◌++◌, slice_get}
use Rattle.std.specs.List.{AllByRecursion}
use Rattle.std.proofs.lemmas.List.{append_assoc, append-nil}
use Rattle.dh_value.specs.declared.kinds.Kind.{Kind}
use Rattle.dh_value.specs.declared.operators.Op.TheVariants as op
use Rattle.dh_tree.specs.declared.tables.Dim.{Dim}
use Rattle.dh_plan.specs.declared.operations.Operation.{Operation}
use Rattle.dh_plan.specs.declared.operations.OperationForm.{OperationForm}
use Rattle.dh_plan.specs.declared.operations.OperationForm.TheVariants.{Constant, Compute, Check}
use Rattle.dh_plan.specs.declared.operations.Reach.{Reach}
use Rattle.dh_rows.specs.Readings.{GrowsPlain, IsPlain, is_plain}
use Rattle.dh_rows.specs.MadeOperations.{Made, pushed, computed, constant_made, or_zero}
use Rattle.dh_address.specs.declared.literals.LiteralPlace.{LiteralPlace}
use Rattle.dh_address.specs.declared.operands.BlockValue.{BlockValue}
use Rattle.dh_address.specs.declared.operands.Ranged.{Ranged}
use Rattle.dh_address.specs.LiteralPlaces.{below_size, literal_places}
use Rattle.dh_address.specs.Pieces.{RenumberedBlock, IsTestBut, IsRangeTested, both_made, IsGuarded, check_made, AreChecked, false_behind, false_behind_all, false_word, false_made, new_takes, IsProbeValue, IsProbed, IsAim, is_banked, narrowed_bank, IsAimBut, waited, IsAimedReach, IsAccessMade, new_or_none}
use Rattle.dh_address.specs.WaysMade.{IsIndexWay, reach_passed}
use Rattle.dh_address.proofs.WaysPlain.{passed_plain}

-- operations come behind, and of each this holds
pub record GrowsBy (P : Operation → Type 0) (old new : List Operation) : Type 0 where
  pub more : List Operation
  pub appended : new ≡ old ++ more
  pub each : AllByRecursion P more

pub each_at : (P : Operation → Type 0) (os : List Operation) (i : ℕ) (x : Operation) → AllByRecursion P os → slice_get os i ≡ Some x → P x
each_at P [] i x h e = absurd (cc)
each_at P (o ∷ os) zero x h e = let same : o ≡ x = cc in subst P same h.0
each_at P (o ∷ os) (suc i) x h e = each_at P os i x h.1 e

-- a range is of a constant that is in it
abbrev pub range_literal : Ranged → Option ℕ
range_literal r = below_size r.operand.literal r.size

module _ (P : Operation → Type 0) (plain : (o : Operation) → is_plain o.form ≡ true → P o) where
  pub by_self : (os : List Operation) → GrowsBy P os os
  by_self os = record { more = []; appended = sym (append-nil os); each = tt }

  pub by_append : (xs ys : List Operation) → AllByRecursion P xs → AllByRecursion P ys → AllByRecursion P (xs ++ ys)
  by_append [] ys h k = k
  by_append (x ∷ xs) ys h k = (h.0, by_append xs ys h.1 k)

  pub by_on : (a b c : List Operation) → GrowsBy P a b → GrowsBy P b c → GrowsBy P a c
  by_on a b c g h = record {
    more = g.more ++ h.more;
    appended = h.appended ∙ (ap (λ (os : List Operation). os ++ h.more) g.appended ∙ append_assoc a g.more h.more);
    each = by_append g.more h.more g.each h.each;
  }

  pub by_pushed : (os : List Operation) (guard : Option ℕ) (f : OperationForm) → is_plain f ≡ true → GrowsBy P os (pushed os guard f).operations
  by_pushed os guard f e = record { more = record { guard = guard; form = f } ∷ []; appended = refl; each = (plain (record { guard = guard; form = f }) e, tt) }

  all_by : (os : List Operation) → AllByRecursion IsPlain os → AllByRecursion P os
  all_by [] h = tt
  all_by (o ∷ os) h = (plain o h.0.form, all_by os h.1)

  by_plain : (old new : List Operation) → GrowsPlain old new → GrowsBy P old new
  by_plain old new g = record { more = g.more; appended = g.appended; each = all_by g.more g.plain }

  by_same : (old new : List Operation) → new ≡ old → GrowsBy P old new
  by_same old new e = subst (λ (os : List Operation). GrowsBy P old os) (sym e) (by_self old)

  -- Tests.

  but_by : (l : Option ℕ) (old new : List Operation) (k : Kind) (value size : ℕ) (test : Option ℕ) → IsTestBut l old new k value size test → GrowsBy P old new
  but_by None old new k value size test h = by_plain old new h.0
  but_by (Some n) old new k value size test h = by_same old new h.0

  both_by : (os : List Operation) (guard test : Option ℕ) → GrowsBy P os (both_made os guard test).operations
  both_by os None None = by_self os
  both_by os (Some guard) None = by_self os
  both_by os None (Some test) = by_self os
  both_by os (Some guard) (Some test) = by_pushed os None (Compute op.Both guard test) refl

  tested_by : (r : Ranged) (old new : List Operation) (test : Option ℕ) → IsRangeTested r old new test → GrowsBy P old new
  tested_by r old new test h = but_by (below_size r.operand.literal r.size) old new _ _ _ test h

  pub guarded_by : (guard : Option ℕ) (rs : List Ranged) (old new : List Operation) (on : Option ℕ) → IsGuarded guard rs old new on → GrowsBy P old new
  guarded_by guard [] old new on h = by_same old new h.0
  guarded_by guard (r ∷ rs) old new on (mid, (test, (t, g))) =
      by_on old mid new (tested_by r old mid test t)
      (by_on mid (both_made mid guard test).operations new (both_by mid guard test) (guarded_by (both_made mid guard test).sum rs (both_made mid guard test).operations new on g))

  -- checks: of each one that is made this is to hold
  module _ (guard : Option ℕ) (fault : ℕ) where
    abbrev pub AllowsCheck : Ranged → Type 0
    AllowsCheck r = range_literal r ≡ None → (test : ℕ) → P (record { guard = guard; form = Check test fault })

    check_by : (r : Ranged) (old mid : List Operation) (test : Option ℕ) → AllowsCheck r → IsRangeTested r old mid test → GrowsBy P mid (check_made mid guard fault test)
    check_by r old mid test allows h = of (range_literal r) refl h
      where
        put : (test : Option ℕ) → range_literal r ≡ None → GrowsBy P mid (check_made mid guard fault test)
        put None e = by_self mid
        put (Some t) e = record { more = record { guard = guard; form = Check t fault } ∷ []; appended = refl; each = (allows e t, tt) }

        of : (l : Option ℕ) → range_literal r ≡ l → IsTestBut l old mid r.operand.kind r.operand.value r.size test → GrowsBy P mid (check_made mid guard fault test)
        of None e g = put test e
        of (Some n) e g = subst (λ (t : Option ℕ). GrowsBy P mid (check_made mid guard fault t)) (sym g.1) (by_self mid)

    pub checked_by : (rs : List Ranged) (old new : List Operation) → AllByRecursion AllowsCheck rs → AreChecked guard fault rs old new → GrowsBy P old new
    checked_by [] old new allows h = by_same old new h
    checked_by (r ∷ rs) old new allows (mid, (test, (t, g))) =
        by_on old mid new (tested_by r old mid test t)
        (by_on mid (check_made mid guard fault test) new (check_by r old mid test allows.0 t) (checked_by rs (check_made mid guard fault test) new allows.1 g))

  -- Probes.

  false_by : (os : List Operation) (so_far v : ℕ) → GrowsBy P os (false_behind os so_far v).operations
  false_by os so_far v =
      by_on os (computed os op.Ne v v).operations _ (by_pushed os None (Compute op.Ne v v) refl) (by_pushed (computed os op.Ne v v).operations None (Compute op.Either so_far (computed os op.Ne v v).value) refl)

  all_false_by : (m : Made) (vs : List ℕ) → GrowsBy P m.operations (false_behind_all m vs).operations
  all_false_by m [] = by_self m.operations
  all_false_by m (v ∷ vs) =
      by_on m.operations (false_behind m.operations m.value v).operations _ (false_by m.operations m.value v) (all_false_by (false_behind m.operations m.value v) vs)

  false_made_by : (os : List Operation) (guard : Option ℕ) (vs : List ℕ) → GrowsBy P os (false_made os guard vs).operations
  false_made_by os guard vs =
      let begun = pushed os None (Constant false_word) in
      let all = false_behind_all begun vs in
      by_on os begun.operations _ (by_pushed os None (Constant false_word) refl)
      (by_on begun.operations all.operations _ (all_false_by begun vs) (by_pushed all.operations guard (Compute op.Either all.value all.value) refl))

  pub value_by : (probed : Bool) (a : RenumberedBlock) (guard : Option ℕ) (r : Reach) (old new : List Operation) (n : ℕ) → IsProbeValue probed a guard r old new n → GrowsBy P old new
  value_by false a guard r old new n h = by_same old new h
  value_by true a guard r old new n h = subst (λ (os : List Operation). GrowsBy P old os) (sym h.0) (false_made_by old guard (new_takes a r))

  -- Rows and banks.

  aim_by : (banked : Bool) (old new : List Operation) (row bank : Made) (n : ℕ) (select : Option ℕ) → GrowsBy P old row.operations → GrowsBy P row.operations bank.operations
      → IsAim banked row bank new n select → GrowsBy P old new
  aim_by false old new row bank n select g h e = subst (λ (os : List Operation). GrowsBy P old os) (sym e.0) g
  aim_by true old new row bank n select g h e = subst (λ (os : List Operation). GrowsBy P old os) (sym e.0) (by_on old row.operations bank.operations g h)

  zero_by : (os : List Operation) (width : ℕ) (v : Option ℕ) → GrowsBy P os (or_zero os width v).operations
  zero_by os width None = by_pushed os None _ refl
  zero_by os width (Some v) = by_self os

  but_aim_by : (place : Option LiteralPlace) (width narrow : ℕ) (dims : List Dim) (indices : List ℕ) (banked : Bool) (old new : List Operation) (row : ℕ) (select : Option ℕ)
      → IsAimBut place width narrow dims indices banked old new row select → GrowsBy P old new
  but_aim_by None width narrow dims indices banked old new row select h =
      let first = or_zero h.spread width h.values.row in
      let bank = or_zero first.operations width h.values.bank in
      aim_by banked old new first (narrowed_bank narrow bank) row select
      (by_on old h.spread first.operations (by_plain old h.spread h.grows) (zero_by h.spread width h.values.row))
      (by_on first.operations bank.operations (narrowed_bank narrow bank).operations (zero_by first.operations width h.values.bank) (by_pushed bank.operations None _ refl)) h.aim
  but_aim_by (Some place) width narrow dims indices banked old new row select h =
      let first = constant_made old width place.row in
      aim_by banked old new first (constant_made first.operations narrow place.bank) row select (by_pushed old None _ refl) (by_pushed first.operations None _ refl) h

  pub waited_by : (os : List Operation) (select : Option ℕ) → GrowsBy P os (waited os select).operations
  waited_by os None = by_self os
  waited_by os (Some v) = by_pushed os None _ refl

  pub passed_by : (a : RenumberedBlock) (r : Reach) (old passed : List Operation) (ranges : List Ranged) (indices : List BlockValue) → IsIndexWay passed ranges indices (reach_passed a r old) → GrowsBy P old passed
  passed_by a r old passed ranges indices e = by_plain old passed (passed_plain a r old passed ranges indices e)

  module _ (a : RenumberedBlock) where
    aimed_by : (r : Reach) (row : Option ℕ) (is : List BlockValue) (old new : List Operation) (t : Reach) → IsAimedReach a r row is old new t → GrowsBy P old new
    aimed_by r None is old new t h =
        by_on old (waited old (new_or_none a r.select)).operations new (waited_by old (new_or_none a r.select))
        (but_aim_by (literal_places _ is 0 0) _ _ _ _ (is_banked r) _ new h.row h.select h.aim)
    aimed_by r (Some row) is old new t h = by_same old new h.0

    pub access_by : (guard : Option ℕ) (r : Reach) (old last : List Operation) (on : Option ℕ) (t : Reach) → IsAccessMade a guard r old last on t → GrowsBy P old last
    access_by guard r old last on t h =
        by_on old h.passed last (passed_by a r old h.passed h.ranges h.indices h.passes)
        (by_on h.passed h.guarded last (guarded_by guard h.ranges h.passed h.guarded on h.guards) (aimed_by r r.row h.indices h.guarded last t h.aims))

    -- of a probe
    pub probed_by : (guard : Option ℕ) (r : Reach) (fault : ℕ) (old new : List Operation) (n : ℕ) (h : IsProbed a guard r fault old new n) → AllByRecursion (AllowsCheck guard fault) h.ranges → GrowsBy P old new
    probed_by guard r fault old new n h allows =
        by_on old h.passed new (passed_by a r old h.passed h.ranges h.indices h.passes)
        (by_on h.passed h.checked new (checked_by guard fault h.ranges h.passed h.checked allows h.checks) (value_by a.probed a guard r h.checked new n h.value))
