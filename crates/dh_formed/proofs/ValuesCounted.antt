-- Values count nothing but the multiplication of an operator, and see no register but that of a variable.
use Rattle.std.proofs.Common.{◌≡◌, ℕ, zero, suc, ◌+◌, ◌<◌, ◌≤◌, ◌⊎◌, inl, inr, true, false, List, Some, None, refl, arith, length}
use Rattle.std.specs.Prelude.{Bool as Truth, [], ◌∷◌, if◌then◌else◌, slice_get, Option}
use Rattle.std.specs.List.{AllByRecursion}
use Rattle.dh_value.specs.declared.kinds.Kind.{Kind}
use Rattle.dh_value.specs.declared.kinds.Kind.TheVariants as kind
use Rattle.dh_value.specs.declared.operators.Op.{Op}
use Rattle.dh_value.specs.declared.operators.Op.TheVariants as op
use Rattle.dh_tree.specs.declared.trees.counters.Counter.{Counter}
use Rattle.dh_tree.specs.PlainTrees.{Term}
use Rattle.dh_meaning.specs.Ways.{Hidden, Way}
use Rattle.dh_code.specs.declared.places.VariableSlots.{VariableSlots}
use Rattle.dh_plan.specs.declared.operations.OperationForm.{OperationForm}
use Rattle.dh_plan.specs.declared.operations.OperationForm.TheVariants.{Constant, Old, Compute, Convert}
use Rattle.dh_plan.specs.declared.operations.Reach.{Reach}
use Rattle.dh_plan.specs.declared.operations.ReachStep.{ReachStep}
use Rattle.dh_plan.specs.DoneProgram.{product_of}
use Rattle.dh_plan.specs.LegalSchedules.{is_product}
use Rattle.dh_expressions.specs.declared.copies.AccessAt.{AccessAt}
use Rattle.dh_expressions.specs.declared.drafts.Draft.{Draft}
use Rattle.dh_expressions.specs.declared.scenes.Lane.{Lane}
use Rattle.dh_expressions.specs.declared.scenes.Scene.{Scene}
use Rattle.dh_expressions.specs.Copying.{AddsCopies, AddsCopy, AddsEither}
use Rattle.dh_formed.specs.Counted.{Counts, FormIs, nothing, register_seen}
use Rattle.dh_expressions.specs.Drafted.{Pushes}
use Rattle.dh_expressions.specs.Evaluated.{hidden_register}
use Rattle.dh_expressions.specs.MadeTerms.{MadeHidden, MadeWay}
use Rattle.dh_expressions.specs.MadeValues.{IsThere, MadeBit, MadeBits, MadeBy, MadeConverted, MadeCurrent, MadeExtended, MadeHeld, MadeIterator, MadeLowestBit, MadeNumber, MadeOffset, MadeOperation, MadeShifted, MadeShown, MadeSum, MadeTotal, MadeTruth}
use Rattle.dh_expressions.specs.Shown.{guard_of, is_kept, is_read_term, register_at}
use Rattle.dh_formed.proofs.CopiesFormed.{copies_forms}
use Rattle.dh_expressions.proofs.ListPlaces.{there}
use Rattle.dh_formed.proofs.PartsCounted.{counts_again, counts_none, counts_pushed, counts_same}

product_few : (o : Op) (a b : ℕ) → (if is_product (Compute o a b) then 1 else 0) ≤ product_of o
product_few op.Add a b = omega arith
product_few op.Sub a b = omega arith
product_few op.Mul a b = omega arith
product_few op.And a b = omega arith
product_few op.Or a b = omega arith
product_few op.Xor a b = omega arith
product_few op.Shl a b = omega arith
product_few op.Shr a b = omega arith
product_few op.Lt a b = omega arith
product_few op.Gt a b = omega arith
product_few op.Le a b = omega arith
product_few op.Ge a b = omega arith
product_few op.Eq a b = omega arith
product_few op.Ne a b = omega arith
product_few op.Both a b = omega arith
product_few op.Either a b = omega arith

module _ (Sees : ℕ → Type 0) (Probes Reads Writes : Reach → Type 0) where
  abbrev Is : OperationForm → Type 0
  Is form = FormIs Sees Probes Reads Writes form

  -- values that count nothing
  abbrev pub Still : (old new : Draft) → Type 0
  Still old new = Counts old new Is 0 nothing nothing

  pub still_again : (a b c : Draft) → Still a b → Still b c → Still a c
  still_again a b c h k = counts_again a b c Is 0 0 nothing nothing nothing nothing h k

  there_counts : (old new : Draft) (value v : ℕ) → IsThere old new value v → Still old new
  there_counts old new value v h = counts_none old new Is h.0

  pub word_counts : (old new : Draft) (v : ℕ) (word : _) → Pushes old new v None (Constant word) → Still old new
  word_counts old new v word p = counts_pushed old new v None (Constant word) Is 0 nothing nothing p tt (omega arith) (λ m. refl) (λ m. refl)

  pub number_counts : (k : Kind) (negative : Truth) (n : ℕ) (old new : Draft) (v : ℕ) → MadeNumber k negative n old new v → Still old new
  number_counts k negative n old new v m = word_counts old new v m.word m.pushes

  pub old_counts : (old new : Draft) (v register : ℕ) → Sees register → Pushes old new v None (Old register) → Still old new
  old_counts old new v register sees p = counts_pushed old new v None (Old register) Is 0 nothing nothing p sees (omega arith) (λ m. refl) (λ m. refl)

  pub compute_counts : (old new : Draft) (v a b : ℕ) (o : Op) → Pushes old new v None (Compute o a b) → Counts old new Is (product_of o) nothing nothing
  compute_counts old new v a b o p = counts_pushed old new v None (Compute o a b) Is (product_of o) nothing nothing p tt (product_few o a b) (λ m. refl) (λ m. refl)

  convert_counts : (old new : Draft) (v a : ℕ) (to : Kind) → Pushes old new v None (Convert a to) → Still old new
  convert_counts old new v a to p = counts_pushed old new v None (Convert a to) Is 0 nothing nothing p tt (omega arith) (λ m. refl) (λ m. refl)

  converted_by : (kept : Truth) (to : Kind) (value : ℕ) (old new : Draft) (v : ℕ) → MadeConverted kept to value old new v → Still old new
  converted_by true to value old new v m = there_counts old new value v m
  converted_by false to value old new v m = convert_counts old new v value to m

  pub converted_counts : (t : Term) (to : Kind) (value : ℕ) (old new : Draft) (v : ℕ) → MadeConverted (is_kept t to) to value old new v → Still old new
  converted_counts t to value old new v m = converted_by (is_kept t to) to value old new v m

  extended_counts : (t : Term) (to : Kind) (value : ℕ) (old new : Draft) (v : ℕ) → MadeExtended t to value old new v → Still old new
  extended_counts t kind.Bool value old new v m = there_counts old new value v m
  extended_counts t (kind.Unsigned w) value old new v m = converted_counts t (kind.Unsigned w) value old new v m
  extended_counts t (kind.Signed w) value old new v m = converted_counts t (kind.Signed w) value old new v m

  pub operation_counts : (o : Op) (left right : Term) (a b : ℕ) (old new : Draft) (v : ℕ) → MadeOperation o left right a b old new v → Counts old new Is (product_of o) nothing nothing
  operation_counts o left right a b old new v m =
      counts_same old new Is Is (0 + product_of o) (product_of o) nothing nothing nothing nothing (λ f w. w) (let p = product_of o in omega arith) (λ n. refl) (λ n. refl)
      (counts_again old m.second new Is 0 (product_of o) nothing nothing nothing nothing
      (still_again old m.first m.second (extended_counts left _ a old m.first m.x m.left_made) (extended_counts right _ b m.first m.second m.y m.right_made))
      (compute_counts m.second new v m.x m.y o m.pushes))

  lowest_counts : (value : ℕ) (old new : Draft) (v : ℕ) → MadeLowestBit value old new v → Still old new
  lowest_counts value old new v m =
      still_again old m.second new
      (still_again old m.first m.second (convert_counts old m.first m.bit value (kind.Unsigned 1) m.converts) (number_counts (kind.Unsigned 1) false 1 m.first m.second m.one m.constant))
      (compute_counts m.second new v m.bit m.one op.Eq m.pushes)

  truth_by : (read : Truth) (value : ℕ) (old new : Draft) (v : ℕ) → MadeTruth read value old new v → Still old new
  truth_by true value old new v m = lowest_counts value old new v m
  truth_by false value old new v m = there_counts old new value v m

  pub held_counts : (t : Term) (to : Kind) (value : ℕ) (old new : Draft) (v : ℕ) → MadeHeld t to value old new v → Still old new
  held_counts t kind.Bool value old new v m = truth_by (is_read_term t) value old new v m
  held_counts t (kind.Unsigned w) value old new v m = converted_counts t (kind.Unsigned w) value old new v m
  held_counts t (kind.Signed w) value old new v m = converted_counts t (kind.Signed w) value old new v m

  -- Variables.

  shifted_counts : (value by : ℕ) (old new : Draft) (v : ℕ) → MadeShifted value by old new v → Still old new
  shifted_counts value by old new v (inl m) = there_counts old new value v m
  shifted_counts value by old new v (inr m) = still_again old m.middle new (number_counts (kind.Unsigned 6) false by old m.middle m.amount m.constant) (compute_counts m.middle new v value m.amount op.Shl m.pushes)

  sum_counts : (sum : Option ℕ) (value : ℕ) (old new : Draft) (v : ℕ) → MadeSum sum value old new v → Still old new
  sum_counts None value old new v m = there_counts old new value v m
  sum_counts (Some sum) value old new v m = compute_counts old new v sum value op.Add m

  bit_counts : (sum : Option ℕ) (value by : ℕ) (old new : Draft) (more : Option ℕ) → MadeBit sum value by old new more → Still old new
  bit_counts sum value by old new more (inl m) = counts_none old new Is m.0
  bit_counts sum value by old new more (inr m) = still_again old m.middle new (shifted_counts value by old m.middle m.shifted m.shifts) (sum_counts sum m.shifted m.middle new m.total m.sums)

  bits_counts : (value bits : ℕ) (old new : Draft) (sum : Option ℕ) → MadeBits value bits old new sum → Still old new
  bits_counts value zero old new sum m = counts_none old new Is m.0
  bits_counts value (suc b) old new sum (d, (s, (before, last))) = still_again old d new (bits_counts value b old d s before) (bit_counts s value b d new sum last)

  total_counts : (k : Kind) (sum : Option ℕ) (old new : Draft) (v : ℕ) → MadeTotal k sum old new v → Still old new
  total_counts k None old new v m = number_counts k false 0 old new v m
  total_counts k (Some sum) old new v m = there_counts old new sum v m

  ends_counts : (k : Kind) (multiple : ℕ) (old new : Draft) (v : ℕ) → IsThere old new multiple v ⊎ MadeOffset k multiple old new v → Still old new
  ends_counts k multiple old new v (inl m) = there_counts old new multiple v m
  ends_counts k multiple old new v (inr m) = still_again old m.middle new (number_counts k false m.start old m.middle m.amount m.constant) (compute_counts m.middle new v multiple m.amount op.Add m.pushes)

  pub iterator_counts : (k : Kind) (held : VariableSlots) → Sees held.first → (old new : Draft) (v : ℕ) → MadeIterator held k old new v → Still old new
  iterator_counts k held sees old new v (inl m) = number_counts k false m.0 old new v m.1
  iterator_counts k held sees old new v (inr m) =
      still_again old m.third new
      (still_again old m.second m.third
      (still_again old m.first m.second (old_counts old m.first m.told held.first sees m.sees) (convert_counts m.first m.second m.turn m.told k m.converts))
      (still_again m.second m.times.middle m.third (bits_counts m.turn m.times.bits m.second m.times.middle m.times.sum m.times.sums) (total_counts k m.times.sum m.times.middle m.third m.multiple m.times.total)))
      (ends_counts k m.multiple m.third new v m.ends)

  current_by : (o : Option (Option ℕ)) (register : ℕ) → Sees register → (old new : Draft) (v : ℕ) → MadeCurrent o register old new v → Still old new
  current_by None register sees old new v m = old_counts old new v register sees m
  current_by (Some None) register sees old new v m = old_counts old new v register sees m
  current_by (Some (Some value)) register sees old new v m = there_counts old new value v m

  pub shown_counts : (current : List (Option ℕ)) (register : ℕ) → Sees register → (old new : Draft) (v : ℕ) → MadeShown current register old new v → Still old new
  shown_counts current register sees old new v m = current_by (slice_get current register) register sees old new v m

  pub variable_counts : (c : Option Counter) (held : VariableSlots) (lane : Lane) (current : List (Option ℕ)) (k : Kind) → Sees (register_seen c held lane) → (old new : Draft) (v : ℕ) → MadeBy c held lane current k old new v → Still old new
  variable_counts None held lane current k sees old new v m = shown_counts current (register_at held lane) sees old new v m
  variable_counts (Some c) held lane current k sees old new v m = iterator_counts k held sees old new v m.0

  -- Guards of copies.

  either_counts : (old new : Draft) (one other joined : Option ℕ) → AddsEither old new one other joined → Still old new
  either_counts old new None other joined h = counts_none old new Is h.0
  either_counts old new (Some one) None joined h = counts_none old new Is h.0
  either_counts old new (Some one) (Some other) joined h = compute_counts old new h.0 one other op.Either h.1.1

  copy_counts : (leader bank place : ℕ → ℕ) (guard : Option ℕ) (n : ℕ) (d new : Draft) (cs copies : List AccessAt) → length cs ≡ n → leader n ≤ n
      → AddsCopy d new cs copies n (leader n) (bank n) (place n) guard → Still d new
  copy_counts leader bank place guard n d new cs copies long low (inl s) = counts_none d new Is s.same
  copy_counts leader bank place guard n d new cs copies long low (inr s) =
      let led = there cs (leader n) (less (leader n) (length cs) low s.other long) in
      either_counts d new led.0.guard guard s.joins.joined (s.joins.joins led.0 led.1).adds
    where
      less : (m l : ℕ) → m ≤ n → (m ≡ n → ⊥) → l ≡ n → m < l
      less m l few other long = omega (arith, few, other, long)

  pub copies_counts : (leader bank place : ℕ → ℕ) (guards : List (Option ℕ)) → ((p : ℕ) → leader p ≤ p) → (n : ℕ) (old new : Draft) (copies : List AccessAt) → AddsCopies leader bank place guards n old new copies → Still old new
  copies_counts leader bank place guards low zero old new copies m = counts_none old new Is m.0
  copies_counts leader bank place guards low (suc n) old new copies (d, (cs, (before, step))) =
      still_again old d new (copies_counts leader bank place guards low n old d cs before)
      (copy_counts leader bank place (guard_of guards n) n d new cs copies (copies_forms leader bank place guards low n old d cs before).long (low n) step)

  -- Variables that keep offsets.

  hidden_counts : (scene : Scene) (lane : Lane) (current : List (Option ℕ)) (hs : List Hidden) → AllByRecursion (λ h. Sees (hidden_register scene lane h)) hs → (old new : Draft) (values : List ℕ) → MadeHidden scene lane current hs old new values → Still old new
  hidden_counts scene lane current [] sees old new values m = counts_none old new Is m.0
  hidden_counts scene lane current (h ∷ hs) sees old new values (d, (v, (more, (shown, (rest, are))))) =
      still_again old d new (shown_counts current (hidden_register scene lane h) sees.0 old d v shown) (hidden_counts scene lane current hs sees.1 d new more rest)

  abbrev SeesOn : Scene → Lane → Option Way → Type 0
  SeesOn scene lane None = Unit {0}
  SeesOn scene lane (Some w) = AllByRecursion (λ h. Sees (hidden_register scene lane h)) w.hidden

  sees_each : ((register : ℕ) → Sees register) → (scene : Scene) (lane : Lane) (hs : List Hidden) → AllByRecursion (λ h. Sees (hidden_register scene lane h)) hs
  sees_each any scene lane [] = tt
  sees_each any scene lane (h ∷ hs) = (any (hidden_register scene lane h), sees_each any scene lane hs)

  pub sees_any : ((register : ℕ) → Sees register) → (scene : Scene) (lane : Lane) (way : Option Way) → SeesOn scene lane way
  sees_any any scene lane None = tt
  sees_any any scene lane (Some w) = sees_each any scene lane w.hidden

  pub way_counts : (scene : Scene) (lane : Lane) (current : List (Option ℕ)) (way : Option Way) (first : ℕ) → SeesOn scene lane way → (old new : Draft) (steps : List ReachStep) → MadeWay scene lane current old new first way steps → Still old new
  way_counts scene lane current None first sees old new steps m = counts_none old new Is m.0
  way_counts scene lane current (Some w) first sees old new steps m = hidden_counts scene lane current w.hidden sees old new m.values m.hidden
