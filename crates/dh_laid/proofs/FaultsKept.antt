-- No fault is named by values, guards and choices, nor by what sets registers: only accesses name faults.
use Rattle.std.proofs.Common.{◌≡◌, ◌⊎◌, inl, inr, ◌<◌, ◌≤◌, ℕ, zero, suc, List, Some, None, ap, ◌∙◌, length, arith, ◌∷◌, []}
use Rattle.std.specs.Prelude.{Bool as Truth, true, false, Option, slice_get}
use Rattle.dh_value.specs.declared.kinds.Kind.{Kind}
use Rattle.dh_value.specs.declared.kinds.Kind.TheVariants as kind
use Rattle.dh_value.specs.declared.operators.Op.{Op}
use Rattle.dh_tree.specs.declared.trees.counters.Counter.{Counter}
use Rattle.dh_tree.specs.PlainTrees as plain
use Rattle.dh_tree.specs.PlainTrees.{Term}
use Rattle.dh_code.specs.Extended.{extension_of}
use Rattle.dh_tree.specs.Kinds.{same_kind}
use Rattle.dh_code.specs.declared.places.VariableSlots.{VariableSlots}
use Rattle.dh_plan.specs.declared.operations.ReachStep.{ReachStep}
use Rattle.dh_expressions.specs.declared.copies.AccessAt.{AccessAt}
use Rattle.dh_expressions.specs.declared.drafts.Draft.{Draft}
use Rattle.dh_expressions.specs.declared.elements.Aim.{Aim}
use Rattle.dh_expressions.specs.declared.scenes.Lane.{Lane}
use Rattle.dh_expressions.specs.declared.scenes.Scene.{Scene}
use Rattle.dh_expressions.specs.Copying.{AddsCopies, AddsCopy, AddsEither}
use Rattle.dh_expressions.specs.MadeValues.{IsThere, MadeBit, MadeBits, MadeBy, MadeConverted, MadeCurrent, MadeExtended, MadeHeld, MadeIterator, MadeLowestBit, MadeNumber, MadeOffset, MadeOperation, MadeShifted, MadeShown, MadeSum, MadeTotal, MadeTruth}
use Rattle.dh_expressions.specs.Reaching.{Finds}
use Rattle.dh_expressions.specs.Shown.{guard_of, is_kept, is_read_term, kind_written, register_at}
use Rattle.dh_expressions.proofs.ListPlaces.{there}
use Rattle.dh_expressions.specs.MadeTerms.{MadeHidden, MadeWay}
use Rattle.dh_expressions.specs.Evaluated.{hidden_register}
use Rattle.dh_formed.proofs.CopiesFormed.{copies_forms}
use Rattle.dh_commands.specs.declared.assignments.Values.{Values}
use Rattle.dh_commands.specs.declared.choices.Choice.{Choice}
use Rattle.dh_commands.specs.MadeCommands.{FoldedWith, MadeArmGuard, MadeArmGuards, MadeBehind, MadeChoiceBy, MadeChoices, MadeGuard, MadeOldOperand, MadeOperand, MadeOutcome}
use Rattle.dh_meaning.specs.Ways.{Hidden, Way}

-- nothing is put down
pub same_faults : (old new : Draft) → new ≡ old → new.faults ≡ old.faults
same_faults old new same = ap (λ (d : Draft). d.faults) same

-- Values.

pub number_faults : (k : Kind) (negative : Truth) (n : ℕ) (old new : Draft) (v : ℕ) → MadeNumber k negative n old new v → new.faults ≡ old.faults
number_faults k negative n old new v m = m.pushes.faults

pub converted_faults : (kept : Truth) (to : Kind) (value : ℕ) (old new : Draft) (v : ℕ) → MadeConverted kept to value old new v → new.faults ≡ old.faults
converted_faults true to value old new v m = same_faults old new m.0
converted_faults false to value old new v m = m.faults

extended_faults : (t : Term) (to : Kind) (value : ℕ) (old new : Draft) (v : ℕ) → MadeExtended t to value old new v → new.faults ≡ old.faults
extended_faults t kind.Bool value old new v m = same_faults old new m.0
extended_faults t (kind.Unsigned w) value old new v m = converted_faults (is_kept t (kind.Unsigned w)) (kind.Unsigned w) value old new v m
extended_faults t (kind.Signed w) value old new v m = converted_faults (is_kept t (kind.Signed w)) (kind.Signed w) value old new v m

pub operation_faults : (o : Op) (left right : Term) (a b : ℕ) (old new : Draft) (v : ℕ) → MadeOperation o left right a b old new v → new.faults ≡ old.faults
operation_faults o left right a b old new v m = m.pushes.faults ∙ (extended_faults right _ b m.first m.second m.y m.right_made ∙ extended_faults left _ a old m.first m.x m.left_made)

lowest_faults : (value : ℕ) (old new : Draft) (v : ℕ) → MadeLowestBit value old new v → new.faults ≡ old.faults
lowest_faults value old new v m = m.pushes.faults ∙ (number_faults (kind.Unsigned 1) false 1 m.first m.second m.one m.constant ∙ m.converts.faults)

truth_faults : (read : Truth) (value : ℕ) (old new : Draft) (v : ℕ) → MadeTruth read value old new v → new.faults ≡ old.faults
truth_faults true value old new v m = lowest_faults value old new v m
truth_faults false value old new v m = same_faults old new m.0

pub held_faults : (t : Term) (to : Kind) (value : ℕ) (old new : Draft) (v : ℕ) → MadeHeld t to value old new v → new.faults ≡ old.faults
held_faults t kind.Bool value old new v m = truth_faults (is_read_term t) value old new v m
held_faults t (kind.Unsigned w) value old new v m = converted_faults (is_kept t (kind.Unsigned w)) (kind.Unsigned w) value old new v m
held_faults t (kind.Signed w) value old new v m = converted_faults (is_kept t (kind.Signed w)) (kind.Signed w) value old new v m

-- Variables.

shifted_faults : (value by : ℕ) (old new : Draft) (v : ℕ) → MadeShifted value by old new v → new.faults ≡ old.faults
shifted_faults value by old new v (inl m) = same_faults old new m.0
shifted_faults value by old new v (inr m) = m.pushes.faults ∙ number_faults (kind.Unsigned 6) false by old m.middle m.amount m.constant

sum_faults : (sum : Option ℕ) (value : ℕ) (old new : Draft) (v : ℕ) → MadeSum sum value old new v → new.faults ≡ old.faults
sum_faults None value old new v m = same_faults old new m.0
sum_faults (Some sum) value old new v m = m.faults

bit_faults : (sum : Option ℕ) (value by : ℕ) (old new : Draft) (more : Option ℕ) → MadeBit sum value by old new more → new.faults ≡ old.faults
bit_faults sum value by old new more (inl m) = same_faults old new m.0
bit_faults sum value by old new more (inr m) = sum_faults sum m.shifted m.middle new m.total m.sums ∙ shifted_faults value by old m.middle m.shifted m.shifts

bits_faults : (value bits : ℕ) (old new : Draft) (sum : Option ℕ) → MadeBits value bits old new sum → new.faults ≡ old.faults
bits_faults value zero old new sum m = same_faults old new m.0
bits_faults value (suc b) old new sum (d, (s, (before, last))) = bit_faults s value b d new sum last ∙ bits_faults value b old d s before

total_faults : (k : Kind) (sum : Option ℕ) (old new : Draft) (v : ℕ) → MadeTotal k sum old new v → new.faults ≡ old.faults
total_faults k None old new v m = number_faults k false 0 old new v m
total_faults k (Some sum) old new v m = same_faults old new m.0

ends_faults : (k : Kind) (multiple : ℕ) (old new : Draft) (v : ℕ) → IsThere old new multiple v ⊎ MadeOffset k multiple old new v → new.faults ≡ old.faults
ends_faults k multiple old new v (inl m) = same_faults old new m.0
ends_faults k multiple old new v (inr m) = m.pushes.faults ∙ number_faults k false m.start old m.middle m.amount m.constant

iterator_faults : (k : Kind) (held : VariableSlots) (old new : Draft) (v : ℕ) → MadeIterator held k old new v → new.faults ≡ old.faults
iterator_faults k held old new v (inl m) = number_faults k false m.0 old new v m.1
iterator_faults k held old new v (inr m) =
    ends_faults k m.multiple m.third new v m.ends
    ∙ (total_faults k m.times.sum m.times.middle m.third m.multiple m.times.total
    ∙ (bits_faults m.turn m.times.bits m.second m.times.middle m.times.sum m.times.sums
    ∙ (m.converts.faults ∙ m.sees.faults)))

current_faults : (o : Option (Option ℕ)) (register : ℕ) (old new : Draft) (v : ℕ) → MadeCurrent o register old new v → new.faults ≡ old.faults
current_faults None register old new v m = m.faults
current_faults (Some None) register old new v m = m.faults
current_faults (Some (Some value)) register old new v m = same_faults old new m.0

pub shown_faults : (current : List (Option ℕ)) (register : ℕ) (old new : Draft) (v : ℕ) → MadeShown current register old new v → new.faults ≡ old.faults
shown_faults current register old new v m = current_faults (slice_get current register) register old new v m

pub variable_faults : (c : Option Counter) (held : VariableSlots) (lane : Lane) (current : List (Option ℕ)) (k : Kind) (old new : Draft) (v : ℕ) → MadeBy c held lane current k old new v → new.faults ≡ old.faults
variable_faults None held lane current k old new v m = shown_faults current (register_at held lane) old new v m
variable_faults (Some c) held lane current k old new v m = iterator_faults k held old new v m.0

old_operand_faults : (own to : Kind) (value : ℕ) (old new : Draft) (v : ℕ) → MadeOldOperand own to value old new v → new.faults ≡ old.faults
old_operand_faults own kind.Bool value old new v m = same_faults old new m.0
old_operand_faults own (kind.Unsigned w) value old new v m = converted_faults (same_kind own (kind.Unsigned w)) (kind.Unsigned w) value old new v m
old_operand_faults own (kind.Signed w) value old new v m = converted_faults (same_kind own (kind.Signed w)) (kind.Signed w) value old new v m

operand_faults : (t : Term) (to : Kind) (value : ℕ) (old new : Draft) (v : ℕ) → MadeOperand t to value old new v → new.faults ≡ old.faults
operand_faults t kind.Bool value old new v m = same_faults old new m.0
operand_faults t (kind.Unsigned w) value old new v m = held_faults t (kind.Unsigned w) value old new v m
operand_faults t (kind.Signed w) value old new v m = held_faults t (kind.Signed w) value old new v m

pub folded_faults : (lane : Lane) (current : List (Option ℕ)) (held : VariableSlots) (op : Op) (t : Term) (value : ℕ) (old new : Draft) (v : ℕ) → FoldedWith lane current held op t value old new v → new.faults ≡ old.faults
folded_faults lane current held op t value old new v m =
    converted_faults (same_kind held.kind (extension_of op held.kind (kind_written t))) held.kind m.all m.fourth new v m.own
    ∙ (m.pushes.faults
    ∙ (operand_faults t (extension_of op held.kind (kind_written t)) value m.second m.third m.right m.right_made
    ∙ (old_operand_faults held.kind (extension_of op held.kind (kind_written t)) m.before m.first m.second m.left m.left_made ∙ shown_faults current (register_at held lane) old m.first m.before m.shown)))

-- Elements.

pub finds_faults : (scene : Scene) (form : plain.TermForm) (old new : Draft) (memory : ℕ) (aim : Aim) (copy : AccessAt) (found : Option ℕ) (v : ℕ) → Finds scene form old new memory aim copy found v → new.faults ≡ old.faults
finds_faults scene form old new memory aim copy None v m = m.faults
finds_faults scene form old new memory aim copy (Some n) v m = same_faults old new m.0

-- Variables that keep offsets.

hidden_faults : (scene : Scene) (lane : Lane) (current : List (Option ℕ)) (hs : List Hidden) (old new : Draft) (values : List ℕ) → MadeHidden scene lane current hs old new values → new.faults ≡ old.faults
hidden_faults scene lane current [] old new values m = same_faults old new m.0
hidden_faults scene lane current (h ∷ hs) old new values (d, (v, (more, (shown, (rest, are))))) =
    hidden_faults scene lane current hs d new more rest ∙ shown_faults current (hidden_register scene lane h) old d v shown

pub way_faults : (scene : Scene) (lane : Lane) (current : List (Option ℕ)) (way : Option Way) (first : ℕ) (old new : Draft) (steps : List ReachStep) → MadeWay scene lane current old new first way steps → new.faults ≡ old.faults
way_faults scene lane current None first old new steps m = same_faults old new m.0
way_faults scene lane current (Some w) first old new steps m = hidden_faults scene lane current w.hidden old new m.values m.hidden

-- Guards of copies.

either_faults : (old new : Draft) (one other joined : Option ℕ) → AddsEither old new one other joined → new.faults ≡ old.faults
either_faults old new None other joined h = same_faults old new h.0
either_faults old new (Some one) None joined h = same_faults old new h.0
either_faults old new (Some one) (Some other) joined h = h.1.1.faults

copy_faults : (leader bank place : ℕ → ℕ) (guard : Option ℕ) (n : ℕ) (d new : Draft) (cs copies : List AccessAt) → length cs ≡ n → leader n ≤ n
    → AddsCopy d new cs copies n (leader n) (bank n) (place n) guard → new.faults ≡ d.faults
copy_faults leader bank place guard n d new cs copies long low (inl s) = same_faults d new s.same
copy_faults leader bank place guard n d new cs copies long low (inr s) =
    let led = there cs (leader n) (less (leader n) (length cs) low s.other long) in
    either_faults d new led.0.guard guard s.joins.joined (s.joins.joins led.0 led.1).adds
  where
    less : (m l : ℕ) → m ≤ n → (m ≡ n → ⊥) → l ≡ n → m < l
    less m l few other long = omega (arith, few, other, long)

pub copies_faults : (leader bank place : ℕ → ℕ) (guards : List (Option ℕ)) → ((p : ℕ) → leader p ≤ p) → (n : ℕ) (old new : Draft) (copies : List AccessAt)
    → AddsCopies leader bank place guards n old new copies → new.faults ≡ old.faults
copies_faults leader bank place guards low zero old new copies m = same_faults old new m.0
copies_faults leader bank place guards low (suc n) old new copies (d, (cs, (before, step))) =
    copy_faults leader bank place (guard_of guards n) n d new cs copies (copies_forms leader bank place guards low n old d cs before).long (low n) step
    ∙ copies_faults leader bank place guards low n old d cs before

-- Arms.

outcome_faults : (holds : Truth) (test : ℕ) (old new : Draft) (v : ℕ) → MadeOutcome holds test old new v → new.faults ≡ old.faults
outcome_faults true test old new v m = same_faults old new m.0
outcome_faults false test old new v m = m.pushes.faults ∙ (m.yes_made.faults ∙ m.no_made.faults)

guard_faults : (guard : Option ℕ) (t : ℕ) (old new : Draft) (v : ℕ) → MadeGuard guard t old new v → new.faults ≡ old.faults
guard_faults None t old new v m = same_faults old new m.0
guard_faults (Some g) t old new v m = m.faults

pub guards_faults : (holds : Truth) (guards : List (Option ℕ)) (tests : List ℕ) (count : ℕ) (old new : Draft) (arm : List (Option ℕ)) → MadeArmGuards holds guards tests count old new arm → new.faults ≡ old.faults
guards_faults holds guards tests zero old new arm m = same_faults old new m.0
guards_faults holds guards tests (suc n) old new arm m = one m.0 m.1.1.0 m.1.1.1.0 m.1.1.1.1.1.1.0 ∙ guards_faults holds guards tests n old m.0 m.1.0 m.1.1.1.1.0
  where
    one : (d : Draft) (test v : ℕ) → MadeArmGuard holds (guard_of guards n) test d new v → new.faults ≡ d.faults
    one d test v g = guard_faults (guard_of guards n) g.outcome g.middle new v g.joins ∙ outcome_faults holds test d g.middle g.outcome g.comes_out

behind_faults : (current : List (Option ℕ)) (register : ℕ) (o : Option ℕ) (old new : Draft) (v : ℕ) → MadeBehind current register o old new v → new.faults ≡ old.faults
behind_faults current register None old new v m = shown_faults current register old new v m
behind_faults current register (Some value) old new v m = same_faults old new m.0

choice_faults : (o : Option ℕ) (c : Choice) (old new : Draft) (before after : Values) → MadeChoiceBy o c old new before after → new.faults ≡ old.faults
choice_faults None c old new before after m = same_faults old new m.0
choice_faults (Some test) c old new before after m =
    m.pushes.faults ∙ (behind_faults before.current.items c.register c.other m.first m.second m.no_value m.other ∙ behind_faults before.current.items c.register c.chosen old m.first m.yes_value m.chosen)

pub choices_faults : (tests : List ℕ) (choices : List Choice) (count : ℕ) (old new : Draft) (before after : Values) → MadeChoices tests choices count old new before after → new.faults ≡ old.faults
choices_faults tests choices zero old new before after m = same_faults old new m.0
choices_faults tests choices (suc n) old new before after m =
    choice_faults (slice_get tests (m.1.1.0).path) m.1.1.0 m.0 new m.1.0 after m.1.1.1.1.1 ∙ choices_faults tests choices n old m.0 before m.1.0 m.1.1.1.0
