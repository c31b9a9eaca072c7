-- What is put down of an operation, or of a block, comes behind what is there.
use Rattle.std.proofs.Common.{◌≡◌, ℕ, Bool, true, false, List, sym, subst}
use Rattle.std.specs.Prelude.{Option, Some, None, [], ◌∷◌}
use Rattle.dh_value.specs.declared.kinds.Kind.{Kind}
use Rattle.dh_value.specs.declared.operators.Op.TheVariants as op
use Rattle.dh_tree.specs.declared.tables.Dim.{Dim}
use Rattle.dh_plan.specs.declared.operations.Operation.{Operation}
use Rattle.dh_plan.specs.declared.operations.OperationForm.{OperationForm}
use Rattle.dh_plan.specs.declared.operations.OperationForm.TheVariants.{Constant, Old, Compute, Convert, Select, Check, Probe, Read, Write, Set}
use Rattle.dh_plan.specs.declared.operations.Reach.{Reach}
use Rattle.dh_plan.specs.PlanKinds.{form_kind}
use Rattle.dh_rows.specs.Readings.{OperationsGrow}
use Rattle.dh_rows.specs.MadeOperations.{Made, IsMade, pushed, computed, constant_made, or_zero}
use Rattle.dh_rows.proofs.Growing.{grows_self, grows_on, plain_grows, pushed_grows}
use Rattle.dh_address.specs.declared.literals.LiteralPlace.{LiteralPlace}
use Rattle.dh_address.specs.declared.operands.BlockValue.{BlockValue}
use Rattle.dh_address.specs.declared.operands.Ranged.{Ranged}
use Rattle.dh_address.specs.LiteralPlaces.{below_size, literal_places}
use Rattle.dh_address.specs.Pieces.{RenumberedBlock, IsTestBut, IsRangeTested, both_made, IsGuarded, check_made, AreChecked, false_behind, false_behind_all, false_word, false_made, new_takes, IsProbeValue, IsProbed, IsAim, is_banked, narrowed_bank, IsAimBut, waited, IsAimedReach, IsAccessMade, IsFormMade, IsPiece, new_or_none}
use Rattle.dh_address.specs.Images.{and_known, ArePieces}
use Rattle.dh_address.proofs.WaysPlain.{passed_grows}

pub grows_same : (old new : List Operation) → new ≡ old → OperationsGrow old new
grows_same old new e = subst (λ (os : List Operation). OperationsGrow old os) (sym e) (grows_self old)

grows_made : (old new : List Operation) (n : ℕ) (m : Made) → OperationsGrow old m.operations → IsMade new n m → OperationsGrow old new
grows_made old new n m g h = subst (λ (os : List Operation). OperationsGrow old os) (sym h.0) g

-- Tests.

but_grows : (l : Option ℕ) (old new : List Operation) (k : Kind) (value size : ℕ) (test : Option ℕ) → IsTestBut l old new k value size test → OperationsGrow old new
but_grows None old new k value size test h = plain_grows old new h.0
but_grows (Some n) old new k value size test h = grows_same old new h.0

both_grows : (os : List Operation) (guard test : Option ℕ) → OperationsGrow os (both_made os guard test).operations
both_grows os None None = grows_self os
both_grows os (Some guard) None = grows_self os
both_grows os None (Some test) = grows_self os
both_grows os (Some guard) (Some test) = pushed_grows os None (Compute op.Both guard test)

check_grows : (os : List Operation) (guard : Option ℕ) (fault : ℕ) (test : Option ℕ) → OperationsGrow os (check_made os guard fault test)
check_grows os guard fault None = grows_self os
check_grows os guard fault (Some test) = pushed_grows os guard (Check test fault)

tested_grows : (r : Ranged) (old new : List Operation) (test : Option ℕ) → IsRangeTested r old new test → OperationsGrow old new
tested_grows r old new test h = but_grows (below_size r.operand.literal r.size) old new _ _ _ test h

pub guarded_grows : (guard : Option ℕ) (rs : List Ranged) (old new : List Operation) (on : Option ℕ) → IsGuarded guard rs old new on → OperationsGrow old new
guarded_grows guard [] old new on h = grows_same old new h.0
guarded_grows guard (r ∷ rs) old new on (mid, (test, (t, g))) =
    grows_on old mid new (tested_grows r old mid test t)
    (grows_on mid (both_made mid guard test).operations new (both_grows mid guard test) (guarded_grows (both_made mid guard test).sum rs (both_made mid guard test).operations new on g))

pub checked_grows : (guard : Option ℕ) (fault : ℕ) (rs : List Ranged) (old new : List Operation) → AreChecked guard fault rs old new → OperationsGrow old new
checked_grows guard fault [] old new h = grows_same old new h
checked_grows guard fault (r ∷ rs) old new (mid, (test, (t, g))) =
    grows_on old mid new (tested_grows r old mid test t)
    (grows_on mid (check_made mid guard fault test) new (check_grows mid guard fault test) (checked_grows guard fault rs (check_made mid guard fault test) new g))

-- Probes.

false_grows : (os : List Operation) (so_far v : ℕ) → OperationsGrow os (false_behind os so_far v).operations
false_grows os so_far v = grows_on os (computed os op.Ne v v).operations _ (pushed_grows os None (Compute op.Ne v v)) (pushed_grows (computed os op.Ne v v).operations None _)

all_false_grows : (m : Made) (vs : List ℕ) → OperationsGrow m.operations (false_behind_all m vs).operations
all_false_grows m [] = grows_self m.operations
all_false_grows m (v ∷ vs) =
    grows_on m.operations (false_behind m.operations m.value v).operations _ (false_grows m.operations m.value v) (all_false_grows (false_behind m.operations m.value v) vs)

false_made_grows : (os : List Operation) (guard : Option ℕ) (vs : List ℕ) → OperationsGrow os (false_made os guard vs).operations
false_made_grows os guard vs =
    let begun = pushed os None (Constant false_word) in
    grows_on os begun.operations _ (pushed_grows os None (Constant false_word))
    (grows_on begun.operations (false_behind_all begun vs).operations _ (all_false_grows begun vs) (pushed_grows (false_behind_all begun vs).operations guard _))

pub value_grows : (probed : Bool) (a : RenumberedBlock) (guard : Option ℕ) (r : Reach) (old new : List Operation) (n : ℕ) → IsProbeValue probed a guard r old new n → OperationsGrow old new
value_grows false a guard r old new n h = grows_same old new h
value_grows true a guard r old new n h = grows_made old new n _ (false_made_grows old guard (new_takes a r)) h

-- Rows and banks.

aim_grows : (banked : Bool) (old new : List Operation) (row bank : Made) (n : ℕ) (select : Option ℕ) → OperationsGrow old row.operations → OperationsGrow row.operations bank.operations
    → IsAim banked row bank new n select → OperationsGrow old new
aim_grows false old new row bank n select g h e = subst (λ (os : List Operation). OperationsGrow old os) (sym e.0) g
aim_grows true old new row bank n select g h e = subst (λ (os : List Operation). OperationsGrow old os) (sym e.0) (grows_on old row.operations bank.operations g h)

zero_grows : (os : List Operation) (width : ℕ) (v : Option ℕ) → OperationsGrow os (or_zero os width v).operations
zero_grows os width None = pushed_grows os None _
zero_grows os width (Some v) = grows_self os

pub but_aim_grows : (place : Option LiteralPlace) (width narrow : ℕ) (dims : List Dim) (indices : List ℕ) (banked : Bool) (old new : List Operation) (row : ℕ) (select : Option ℕ)
    → IsAimBut place width narrow dims indices banked old new row select → OperationsGrow old new
but_aim_grows None width narrow dims indices banked old new row select h =
    let first = or_zero h.spread width h.values.row in
    let bank = or_zero first.operations width h.values.bank in
    aim_grows banked old new first (narrowed_bank narrow bank) row select
    (grows_on old h.spread first.operations (plain_grows old h.spread h.grows) (zero_grows h.spread width h.values.row))
    (grows_on first.operations bank.operations (narrowed_bank narrow bank).operations (zero_grows first.operations width h.values.bank) (pushed_grows bank.operations None _)) h.aim
but_aim_grows (Some place) width narrow dims indices banked old new row select h =
    let first = constant_made old width place.row in
    aim_grows banked old new first (constant_made first.operations narrow place.bank) row select (pushed_grows old None _) (pushed_grows first.operations None _) h

pub waited_grows : (os : List Operation) (select : Option ℕ) → OperationsGrow os (waited os select).operations
waited_grows os None = grows_self os
waited_grows os (Some v) = pushed_grows os None _

module _ (a : RenumberedBlock) where
  pub aimed_grows : (r : Reach) (row : Option ℕ) (is : List BlockValue) (old new : List Operation) (t : Reach) → IsAimedReach a r row is old new t → OperationsGrow old new
  aimed_grows r None is old new t h =
      grows_on old (waited old (new_or_none a r.select)).operations new (waited_grows old (new_or_none a r.select))
      (but_aim_grows (literal_places _ is 0 0) _ _ _ _ (is_banked r) _ new h.row h.select h.aim)
  aimed_grows r (Some row) is old new t h = grows_same old new h.0

  pub access_grows : (guard : Option ℕ) (r : Reach) (old last : List Operation) (on : Option ℕ) (t : Reach) → IsAccessMade a guard r old last on t → OperationsGrow old last
  access_grows guard r old last on t h =
      grows_on old h.passed last (passed_grows a r old h.passed h.ranges h.indices h.passes)
      (grows_on h.passed h.guarded last (guarded_grows guard h.ranges h.passed h.guarded on h.guards) (aimed_grows r r.row h.indices h.guarded last t h.aims))

  -- of a probe
  pub probed_grows : (guard : Option ℕ) (r : Reach) (fault : ℕ) (old new : List Operation) (n : ℕ) → (h : IsProbed a guard r fault old new n) → OperationsGrow old h.checked
  probed_grows guard r fault old new n h =
      grows_on old h.passed h.checked (passed_grows a r old h.passed h.ranges h.indices h.passes) (checked_grows guard fault h.ranges h.passed h.checked h.checks)

  form_grows : (g : Option ℕ) (f : OperationForm) (old new : List Operation) (n : ℕ) → IsFormMade a g f old new n → OperationsGrow old new
  form_grows g (Constant word) old new n h = grows_made old new n _ (pushed_grows old g _) h
  form_grows g (Old register) old new n h = grows_made old new n _ (pushed_grows old g _) h
  form_grows g (Compute o left right) old new n h = grows_made old new n _ (pushed_grows old g _) h
  form_grows g (Convert inner to) old new n h = grows_made old new n _ (pushed_grows old g _) h
  form_grows g (Select test b c) old new n h = grows_made old new n _ (pushed_grows old g _) h
  form_grows g (Check ok fault) old new n h = grows_made old new n _ (pushed_grows old g _) h
  form_grows g (Probe r fault) old new n h =
      grows_on old h.checked new (probed_grows g r fault old new n h) (value_grows a.probed a g r h.checked new n h.value)
  form_grows g (Read r) old new n h =
      grows_on old h.last new (access_grows g r old h.last h.on h.reach h.access) (grows_made h.last new n _ (pushed_grows h.last h.on _) h.read)
  form_grows g (Write r value) old new n h =
      grows_on old h.last new (access_grows g r old h.last h.on h.reach h.access) (grows_made h.last new n _ (pushed_grows h.last h.on _) h.write)
  form_grows g (Set register value) old new n h = grows_made old new n _ (pushed_grows old g _) h

  pub piece_grows : (o : Operation) (old new : List Operation) (n : ℕ) → IsPiece a o old new n → OperationsGrow old new
  piece_grows o old new n h = form_grows (new_or_none a o.guard) o.form old new n h

pub pieces_grow : (registers : List Kind) (os : List Operation) (a : RenumberedBlock) (old new : List Operation) (numbers : List ℕ) → ArePieces registers a os old new numbers → OperationsGrow old new
pieces_grow registers [] a old new numbers h = grows_same old new h.0
pieces_grow registers (o ∷ os) a old new numbers h =
    grows_on old h.mid new (piece_grows a o old h.mid h.number h.piece)
    (pieces_grow registers os (and_known a h.number (form_kind a.table registers a.first a.kinds o.form)) h.mid new numbers h.rest)
