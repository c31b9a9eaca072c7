-- Reducers are formed: what a variable shows and an expression's value, extended, put together, and held.
use Rattle.std.proofs.Common.{◌≡◌, ◌<◌, ℕ, List, Some, refl, sym, length}
use Rattle.std.specs.Prelude.{Bool as Truth, false, true, Option, slice_get}
use Rattle.dh_value.specs.declared.kinds.Kind.{Kind}
use Rattle.dh_value.specs.declared.kinds.Kind.TheVariants as kind
use Rattle.dh_value.specs.declared.operators.Op.{Op}
use Rattle.dh_value.specs.Operations.{Suits, result_of}
use Rattle.dh_value.specs.Words.{IsInteger}
use Rattle.dh_tree.specs.PlainTrees.{Term}
use Rattle.dh_code.specs.Extended.{extension_of}
use Rattle.dh_tree.specs.Kinds.{same_kind}
use Rattle.dh_code.specs.declared.places.VariableSlots.{VariableSlots}
use Rattle.dh_code.specs.Slots.{held_at}
use Rattle.dh_plan.specs.Blocks.{kind_at}
use Rattle.dh_expressions.specs.declared.drafts.Draft.{Draft}
use Rattle.dh_expressions.specs.declared.scenes.Lane.{Lane}
use Rattle.dh_expressions.specs.Drafted.{Extends}
use Rattle.dh_expressions.specs.MadeValues.{MadeConverted}
use Rattle.dh_expressions.specs.Shown.{kind_written, register_at}
use Rattle.dh_expressions.proofs.Pushing.{extends_again}
use Rattle.dh_formed.specs.Formed.{FormedBlock, FormsTerm, FormsValue, HasKind, IsExtension, TermSuits, operand_kind}
use Rattle.dh_formed.proofs.AccessesFormed.{noted_later}
use Rattle.dh_formed.proofs.TermsFormed.{formed}
use Rattle.dh_formed.proofs.ValuesFormed.{agrees_before, compute_forms, convert_forms, forms_again, forms_there, forms_where, held_forms, kind_later, kind_same, kinds_same, shown_forms, started_later}
use Rattle.dh_commands.specs.LanesRun.{lane_of}
use Rattle.dh_commands.specs.MadeCommands.{FoldedWith, MadeOldOperand, MadeOperand, MadeReduced}
use Rattle.dh_laid.specs.Laid.{AllReducesForm, FitsRegister, ReducerSuits, ReducesForm}
use Rattle.dh_laid.proofs.PathsLaid.{paths_form}
use Rattle.dh_laid.proofs.ValuesLaid.{AllHold, held_assigned, held_later}

-- a conversion of a value of a kind, where it is not of that kind already
same_forms : (own to : Kind) (value : ℕ) (old new : Draft) (v : ℕ) → MadeConverted (same_kind own to) to value old new v → FormsValue old new v (λ x. IsInteger to × HasKind x old own value) (λ x. to)
same_forms own to value old new v m = by (same_kind own to) refl m
  where
    by : (b : Truth) → same_kind own to ≡ b → MadeConverted b to value old new v → FormsValue old new v (λ x. IsInteger to × HasKind x old own value) (λ x. to)
    by true e m = forms_there old new value v (λ x. IsInteger to × HasKind x old own value) (λ x. to) m (λ x w. kind_same x old own to value (kinds_same own to e) w.1)
    by false e m = convert_forms old new v value to (λ x. own) m

-- what a variable shows, extended
old_operand_forms : (own to : Kind) (value : ℕ) (old new : Draft) (v : ℕ) → MadeOldOperand own to value old new v → FormsValue old new v (λ x. IsExtension to × HasKind x old own value) (λ x. operand_kind own to)
old_operand_forms own kind.Bool value old new v m = forms_there old new value v (λ x. IsExtension kind.Bool × HasKind x old own value) (λ x. own) m (λ x w. w.1)
old_operand_forms own (kind.Unsigned n) value old new v m = same_forms own (kind.Unsigned n) value old new v m
old_operand_forms own (kind.Signed n) value old new v m = same_forms own (kind.Signed n) value old new v m

operand_forms : (t : Term) (to : Kind) (value : ℕ) (old new : Draft) (v : ℕ) → MadeOperand t to value old new v
    → FormsValue old new v (λ x. IsExtension to × HasKind x old (kind_written t) value) (λ x. operand_kind (kind_written t) to)
operand_forms t kind.Bool value old new v m = forms_there old new value v (λ x. IsExtension kind.Bool × HasKind x old (kind_written t) value) (λ x. kind_written t) m (λ x w. w.1)
operand_forms t (kind.Unsigned n) value old new v m = held_forms t (kind.Unsigned n) value old new v m
operand_forms t (kind.Signed n) value old new v m = held_forms t (kind.Signed n) value old new v m

-- what is given, as its variable holds it
abbrev IsHeldBy : (held given extension : Kind) → Type 0
IsHeldBy held given extension = (same_kind held extension ≡ true → given ≡ held) × (same_kind held extension ≡ false → IsInteger held)

own_forms : (held given extension : Kind) (value : ℕ) (old new : Draft) (v : ℕ) → MadeConverted (same_kind held extension) held value old new v
    → FormsValue old new v (λ x. IsHeldBy held given extension × HasKind x old given value) (λ x. held)
own_forms held given extension value old new v m = by (same_kind held extension) refl m
  where
    by : (b : Truth) → same_kind held extension ≡ b → MadeConverted b held value old new v → FormsValue old new v (λ x. IsHeldBy held given extension × HasKind x old given value) (λ x. held)
    by true e m = forms_there old new value v (λ x. IsHeldBy held given extension × HasKind x old given value) (λ x. held) m (λ x w. kind_same x old given held value (w.0.0 e) w.1)
    by false e m =
        forms_where old new v (λ x. IsInteger held × HasKind x old given value) (λ x. IsHeldBy held given extension × HasKind x old given value) (λ x. held) (λ x. held) (λ x w. (w.0.1 e, w.1)) (λ x w. refl)
        (convert_forms old new v value held (λ x. given) m)

-- what stands round a reducer
record FoldsThere (x : FormedBlock) (old : Draft) (current : List (Option ℕ)) (register : ℕ) (held : Kind) (op : Op) (t : Term) (value : ℕ) : Type 0 where
  suits : ReducerSuits op held (kind_written t)
  there : register < length x.plan.registers
  kind_is : held ≡ kind_at x.plan.registers register
  shows : AllHold x old current
  given : HasKind x old (kind_written t) value

folded_forms : (lane : Lane) (current : List (Option ℕ)) (held : VariableSlots) (op : Op) (t : Term) (value : ℕ) (old new : Draft) (v : ℕ)
    → FoldedWith lane current held op t value old new v → FormsValue old new v (λ x. FoldsThere x old current (register_at held lane) held.kind op t value) (λ x. held.kind)
folded_forms lane current held op t value old new v f =
    let to : Kind = extension_of op held.kind (kind_written t) in
    let shown = shown_forms current (register_at held lane) old f.first f.before f.shown in
    let left = old_operand_forms held.kind to f.before f.first f.second f.left f.left_made in
    let right = operand_forms t to value f.second f.third f.right f.right_made in
    let all = compute_forms f.third f.fourth f.all f.left f.right op (operand_kind held.kind to) (operand_kind (kind_written t) to) f.pushes in
    let own = own_forms held.kind (result_of op (operand_kind held.kind to)) to f.all f.fourth new v f.own in
    let e2 : Extends old f.second = extends_again old f.first f.second shown.extends left.extends in
    let e3 : Extends old f.third = extends_again old f.second f.third e2 right.extends in
    let e4 : Extends old f.fourth = extends_again old f.third f.fourth e3 all.extends in
    record {
      extends = extends_again old f.fourth new e4 own.extends;
      forms = λ x a s w.
          let a4 = agrees_before x f.fourth new own.extends a in
          let a3 = agrees_before x f.third f.fourth all.extends a4 in
          let a2 = agrees_before x f.second f.third right.extends a3 in
          let a1 = agrees_before x f.first f.second left.extends a2 in
          let w1 : (register_at held lane < length x.plan.registers) × ((u : ℕ) → slice_get current (register_at held lane) ≡ Some (Some u) → HasKind x old (kind_at x.plan.registers (register_at held lane)) u) =
          (w.there, λ u at. w.shows (register_at held lane) u at) in
          let w2 : IsExtension to × HasKind x f.first held.kind f.before =
          (w.suits.extension, kind_same x f.first _ held.kind f.before (sym w.kind_is) (shown.gives x a1 s w1)) in
          let s1 = started_later x old f.first shown.extends s in
          let w3 : IsExtension to × HasKind x f.second (kind_written t) value =
          (w.suits.extension, kind_later x old f.second (kind_written t) value e2 w.given) in
          let s2 = started_later x old f.second e2 s in
          let w4 : Suits op (operand_kind held.kind to) (operand_kind (kind_written t) to) × (HasKind x f.third (operand_kind held.kind to) f.left × HasKind x f.third (operand_kind (kind_written t) to) f.right) =
          (w.suits.suits, (kind_later x f.second f.third _ f.left right.extends (left.gives x a2 s1 w2), right.gives x a3 s2 w3)) in
          let s3 = started_later x old f.third e3 s in
          forms_again x old f.fourth new own.extends
          (forms_again x old f.third f.fourth all.extends (forms_again x old f.second f.third right.extends (forms_again x old f.first f.second left.extends (shown.forms x a1 s w1) (left.forms x a2 s1 w2)) (right.forms x a3 s2 w3))
          (all.forms x a4 s3 w4)) (own.forms x a (started_later x old f.fourth e4 s) ((w.suits.kept, w.suits.converted), all.gives x a4 s3 w4));
      gives = λ x a s w.
          let a4 = agrees_before x f.fourth new own.extends a in
          let a3 = agrees_before x f.third f.fourth all.extends a4 in
          let a2 = agrees_before x f.second f.third right.extends a3 in
          let a1 = agrees_before x f.first f.second left.extends a2 in
          let w1 : (register_at held lane < length x.plan.registers) × ((u : ℕ) → slice_get current (register_at held lane) ≡ Some (Some u) → HasKind x old (kind_at x.plan.registers (register_at held lane)) u) =
          (w.there, λ u at. w.shows (register_at held lane) u at) in
          let w2 : IsExtension to × HasKind x f.first held.kind f.before =
          (w.suits.extension, kind_same x f.first _ held.kind f.before (sym w.kind_is) (shown.gives x a1 s w1)) in
          let s1 = started_later x old f.first shown.extends s in
          let w3 : IsExtension to × HasKind x f.second (kind_written t) value =
          (w.suits.extension, kind_later x old f.second (kind_written t) value e2 w.given) in
          let s2 = started_later x old f.second e2 s in
          let w4 : Suits op (operand_kind held.kind to) (operand_kind (kind_written t) to) × (HasKind x f.third (operand_kind held.kind to) f.left × HasKind x f.third (operand_kind (kind_written t) to) f.right) =
          (w.suits.suits, (kind_later x f.second f.third _ f.left right.extends (left.gives x a2 s1 w2), right.gives x a3 s2 w3)) in
          own.gives x a (started_later x old f.fourth e4 s) ((w.suits.kept, w.suits.converted), all.gives x a4 (started_later x old f.third e3 s) w4);
    }

pub reduces_form : ReducesForm
reduces_form scene lane first entity op t old new next m few =
    let term : FormsTerm scene lane old.values.current.items old.draft m.middle old.accesses new.accesses m.value (λ x. TermSuits x scene lane first t) (kind_written t) =
    formed scene lane old.values.current.items t old.draft m.middle old.accesses new.accesses first next m.value m.term few in
    let value : FormsValue m.middle new.draft m.folded (λ x. FoldsThere x m.middle old.values.current.items (register_at (held_at scene.held.now entity) lane) (held_at scene.held.now entity).kind op t m.value) (λ x. (held_at scene.held.now entity).kind) =
    folded_forms lane old.values.current.items (held_at scene.held.now entity) op t m.value m.middle new.draft m.folded m.folds in
    record {
      extends = extends_again old.draft m.middle new.draft term.part.extends value.extends;
      forms = λ x a s scope noted h w.
          let before = agrees_before x m.middle new.draft value.extends a in
          let started = started_later x old.draft m.middle term.part.extends s in
          let there : FoldsThere x m.middle old.values.current.items (register_at (held_at scene.held.now entity) lane) (held_at scene.held.now entity).kind op t m.value = record {
            suits = w.0.1;
            there = w.1.0;
            kind_is = w.1.1;
            shows = (held_later x old.draft m.middle old.values term.part.extends h).current;
            given = term.gives x before s scope noted w.0.0;
          } in
          record {
            forms = forms_again x old.draft m.middle new.draft value.extends (term.part.forms x before s scope noted w.0.0) (value.forms x a started there);
            notes = noted_later x m.middle new.draft new.accesses value.extends (term.part.notes x before s scope noted w.0.0);
            held =
                held_assigned x new.draft old.values new.values (register_at (held_at scene.held.now entity) lane) lane.number m.folded m.sets
                (kind_same x new.draft _ _ m.folded w.1.1 (value.gives x a started there))
                (held_later x old.draft new.draft old.values (extends_again old.draft m.middle new.draft term.part.extends value.extends) h);
          };
    }

pub all_reduces_form : AllReducesForm
all_reduces_form scene around first entity op t count old new next m few within =
    paths_form scene around (λ n b d k. MadeReduced scene (lane_of around n) first entity op t b d k)
    (λ n x. (TermSuits x scene (lane_of around n) first t × ReducerSuits op (held_at scene.held.now entity).kind (kind_written t))
    × ((register_at (held_at scene.held.now entity) (lane_of around n) < length x.plan.registers) × FitsRegister x scene (lane_of around n) entity))
    (λ n b d k one. reduces_form scene (lane_of around n) first entity op t b d k one few) count first old new next within m
