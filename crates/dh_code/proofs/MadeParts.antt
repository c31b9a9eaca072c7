-- The code of parts of expressions: how it is put together, and that it can be done.
use Rattle.std.proofs.Common.{◌≡◌, ℕ, suc, ◌+◌, Bool, true, false, if◌then◌else◌, List, [], ◌∷◌, ◌++◌, length, refl, ap, sym, ◌∙◌, subst, arith}
use Rattle.std.specs.List.{AllByRecursion}
use Rattle.dh_value.specs.declared.kinds.Kind.{Kind}
use Rattle.dh_value.specs.declared.kinds.Kind.TheVariants as kind
use Rattle.dh_value.specs.declared.operators.Op.{Op}
use Rattle.dh_value.specs.declared.operators.Op.TheVariants as op
use Rattle.dh_value.specs.Words.{IsKind, IsInteger}
use Rattle.dh_value.specs.Operations.{result_of}
use Rattle.dh_value.proofs.Values.{integer_width}
use Rattle.dh_value.proofs.WordLaws.{truth_is_word}
use Rattle.dh_tree.specs.declared.tables.MemEntry.{MemEntry}
use Rattle.dh_tree.specs.WiderKinds.{wider}
use Rattle.dh_tree.specs.Shapes.{IsMemory}
use Rattle.dh_tree.specs.Elements.{dims_at}
use Rattle.dh_meaning.specs.Ways.{WayStep}
use Rattle.dh_code.specs.Passing.{StepsFit}
use Rattle.dh_meaning.specs.Core.{Reach, CoreTerm, literal, truth_literal, variable, read, binary, convert, by_indices, by_row, by_views, CoreTerms, no_terms, term_and, count_terms}
use Rattle.dh_meaning.specs.Core as core
use Rattle.dh_meaning.specs.CoreOf.{extended, operation_of}
use Rattle.dh_meaning.specs.Effects.{kind_in}
use Rattle.dh_code.specs.declared.codes.CodeOperation.{CodeOperation}
use Rattle.dh_code.specs.declared.codes.CodeOperation.TheVariants.{Binary, Convert, Read}
use Rattle.dh_code.specs.declared.places.VariableSlots.{VariableSlots}
use Rattle.dh_code.specs.Extended.{extension_of}
use Rattle.dh_code.specs.Flattening.{extended_made}
use Rattle.dh_code.specs.Made.{MadeExpression, access_to, binary_made, converted_made, one_more, target_made, term_made, terms_made}
use Rattle.dh_tree.specs.Kinds.{same_kind}
use Rattle.dh_code.specs.Operated.{IsValidOperand, IsOperation, IsValidTarget, kind_of_operand}
use Rattle.dh_code.specs.Suited.{AreSuited, IsSuited, IsSuitedTarget, term_kind}
use Rattle.dh_code.proofs.TermsGiven.{made_kind}
use Rattle.dh_code.proofs.ValuesOfTerms.{bits_fit, sized_at, suits_at}

module _ (held : List VariableSlots) (table : List MemEntry) where
  abbrev code : ℕ → CoreTerm → MadeExpression
  code at t = term_made held table at t

  pub extended_is : (at : ℕ) (to : Kind) (t : CoreTerm) → code at (extended to t) ≡ extended_made at to (code at t)
  extended_is at kind.Bool t = refl
  extended_is at (kind.Unsigned w) t = refl
  extended_is at (kind.Signed w) t = refl

  -- an operation, from the code of its operands
  abbrev put : (at : ℕ) → Op → Kind → (l : MadeExpression) → (r : ℕ → MadeExpression) → MadeExpression
  put at o to l r = binary_made at o (extended_made at to l) (extended_made (at + length (extended_made at to l).operations) to (r (at + length (extended_made at to l).operations)))

  both_is : (at : ℕ) (o : Op) (j k : Kind) (l r : CoreTerm) → code at (binary o (extended (wider j k) l) (extended (wider j k) r)) ≡ put at o (wider j k) (code at l) (λ n. code n r)
  both_is at o j k l r =
      ap (λ m. binary_made at o m (code (at + length m.operations) (extended (wider j k) r))) (extended_is at (wider j k) l)
      ∙ ap (λ m. binary_made at o (extended_made at (wider j k) (code at l)) m) (extended_is (at + length (extended_made at (wider j k) (code at l)).operations) (wider j k) r)

  pub operation_is : (at : ℕ) (o : Op) (j k : Kind) (l r : CoreTerm) → code at (operation_of o j k l r) ≡ put at o (extension_of o j k) (code at l) (λ n. code n r)
  operation_is at op.Shl j k l r = refl
  operation_is at op.Shr j k l r = refl
  operation_is at op.Both j k l r = refl
  operation_is at op.Either j k l r = refl
  operation_is at op.Add j k l r = both_is at op.Add j k l r
  operation_is at op.Sub j k l r = both_is at op.Sub j k l r
  operation_is at op.Mul j k l r = both_is at op.Mul j k l r
  operation_is at op.And j k l r = both_is at op.And j k l r
  operation_is at op.Or j k l r = both_is at op.Or j k l r
  operation_is at op.Xor j k l r = both_is at op.Xor j k l r
  operation_is at op.Lt j k l r = both_is at op.Lt j k l r
  operation_is at op.Gt j k l r = both_is at op.Gt j k l r
  operation_is at op.Le j k l r = both_is at op.Le j k l r
  operation_is at op.Ge j k l r = both_is at op.Ge j k l r
  operation_is at op.Eq j k l r = both_is at op.Eq j k l r
  operation_is at op.Ne j k l r = both_is at op.Ne j k l r

  -- what suits in an operation: its operands do
  inside : (to : Kind) (t : CoreTerm) → IsSuited table (extended to t) → IsSuited table t
  inside kind.Bool t h = h
  inside (kind.Unsigned w) t h = h.1
  inside (kind.Signed w) t h = h.1

  both_suited : (o : Op) (j k : Kind) (l r : CoreTerm) → IsSuited table (binary o (extended (wider j k) l) (extended (wider j k) r)) → IsSuited table l × IsSuited table r
  both_suited o j k l r h = (inside (wider j k) l h.1.0, inside (wider j k) r h.1.1)

  pub operands_suited : (o : Op) (j k : Kind) (l r : CoreTerm) → IsSuited table (operation_of o j k l r) → IsSuited table l × IsSuited table r
  operands_suited op.Shl j k l r h = h.1
  operands_suited op.Shr j k l r h = h.1
  operands_suited op.Both j k l r h = h.1
  operands_suited op.Either j k l r h = h.1
  operands_suited op.Add j k l r h = both_suited op.Add j k l r h
  operands_suited op.Sub j k l r h = both_suited op.Sub j k l r h
  operands_suited op.Mul j k l r h = both_suited op.Mul j k l r h
  operands_suited op.And j k l r h = both_suited op.And j k l r h
  operands_suited op.Or j k l r h = both_suited op.Or j k l r h
  operands_suited op.Xor j k l r h = both_suited op.Xor j k l r h
  operands_suited op.Lt j k l r h = both_suited op.Lt j k l r h
  operands_suited op.Gt j k l r h = both_suited op.Gt j k l r h
  operands_suited op.Le j k l r h = both_suited op.Le j k l r h
  operands_suited op.Ge j k l r h = both_suited op.Ge j k l r h
  operands_suited op.Eq j k l r h = both_suited op.Eq j k l r h
  operands_suited op.Ne j k l r h = both_suited op.Ne j k l r h

pub values_made : (held : List VariableSlots) (table : List MemEntry) (at : ℕ) (ts : CoreTerms) → length (terms_made held table at ts).values ≡ count_terms ts
values_made held table at no_terms = refl
values_made held table at (term_and t ts) = ap suc (values_made held table (at + length (term_made held table at t).operations) ts)

pub all_append : {A : Type 0} (P : A → Type 0) (xs ys : List A) → AllByRecursion P xs → AllByRecursion P ys → AllByRecursion P (xs ++ ys)
all_append P [] ys h k = k
all_append P (x ∷ xs) ys h k = (h.0, all_append P xs ys h.1 k)

-- Code of what suits can be done.
module _ (held : List VariableSlots) (table : List MemEntry) (entries : AllByRecursion IsMemory table) where
  pub record CanBeDone (m : MadeExpression) : Type 0 where
    pub operations : AllByRecursion (IsOperation table) m.operations
    pub value : IsValidOperand m.value

  more_done : (at : ℕ) (os : List CodeOperation) (o : CodeOperation) (k : Kind) → AllByRecursion (IsOperation table) os → IsOperation table o → IsKind k → CanBeDone (one_more at os o k)
  more_done at os o k h i sized = record { operations = all_append (IsOperation table) os (o ∷ []) h (i, tt); value = (sized, refl) }

  kind_sized : (t : CoreTerm) → IsSuited table t → IsKind (term_kind table t)
  kind_sized (literal kind negative n) h = h
  kind_sized (truth_literal value) h = (omega arith, omega arith)
  kind_sized (variable kind depth entity) h = h
  kind_sized (read r (by_indices indices)) h = sized_at table r.memory entries h.0
  kind_sized (read r (by_views steps n terms)) h = sized_at table r.memory entries h.0
  kind_sized (read r (by_row bank row)) h = sized_at table r.memory entries h.0.0
  kind_sized (binary o left right) h = of_result o (term_kind table left) (kind_sized left h.1.0)
    where
      of_result : (o : Op) (k : Kind) → IsKind k → IsKind (result_of o k)
      of_result op.Add k i = i
      of_result op.Sub k i = i
      of_result op.Mul k i = i
      of_result op.And k i = i
      of_result op.Or k i = i
      of_result op.Xor k i = i
      of_result op.Shl k i = i
      of_result op.Shr k i = i
      of_result op.Lt k i = (omega arith, omega arith)
      of_result op.Gt k i = (omega arith, omega arith)
      of_result op.Le k i = (omega arith, omega arith)
      of_result op.Ge k i = (omega arith, omega arith)
      of_result op.Eq k i = (omega arith, omega arith)
      of_result op.Ne k i = (omega arith, omega arith)
      of_result op.Both k i = (omega arith, omega arith)
      of_result op.Either k i = (omega arith, omega arith)
  kind_sized (convert to inner) h = integer_width to h.0

  binary_done : (at : ℕ) (o : Op) (left right : CoreTerm) → IsSuited table (binary o left right) → (one two : MadeExpression) (n : ℕ) → one ≡ term_made held table at left → two ≡ term_made held table n right → CanBeDone one → CanBeDone two
      → CanBeDone (binary_made at o one two)
  binary_done at o left right h one two n is is' l r =
      let j : term_kind table left ≡ kind_of_operand one.value = sym (ap (λ (m : MadeExpression). kind_of_operand m.value) is ∙ made_kind held table at left) in
      let k : term_kind table right ≡ kind_of_operand two.value = sym (ap (λ (m : MadeExpression). kind_of_operand m.value) is' ∙ made_kind held table n right) in
      more_done at (one.operations ++ two.operations) (Binary o one.value two.value) (result_of o (kind_of_operand one.value))
      (all_append (IsOperation table) one.operations two.operations l.operations r.operations)
      (suits_at o j k h.0, (l.value, r.value))
      (subst (λ (x : Kind). IsKind (result_of o x)) j (kind_sized (binary o left right) h))

  convert_done : (at : ℕ) (to : Kind) (m : MadeExpression) → IsInteger to → CanBeDone m → CanBeDone (converted_made at to m)
  convert_done at to m h i = by (same_kind (kind_of_operand m.value) to)
    where
      by : (b : Bool) → CanBeDone (if b then m else one_more at m.operations (Convert m.value to) to)
      by true = i
      by false = more_done at m.operations (Convert m.value to) to i.operations (h, i.value) (integer_width to h)

  mutual
    pub made_done : (at : ℕ) (t : CoreTerm) → IsSuited table t → CanBeDone (term_made held table at t)
    made_done at (literal kind negative n) h = record { operations = tt; value = record { sized = h; fits = bits_fit kind negative n } }
    made_done at (truth_literal value) h = record { operations = tt; value = truth_is_word value }
    made_done at (variable kind depth entity) h = record { operations = tt; value = (h, refl) }
    made_done at (read r target) h =
        let t = target_done at r.memory target h in
        more_done at (target_made held table at target).operations (Read (access_to r (target_made held table at target).target)) (kind_in table r.memory) t.0 t.1 (kind_sized (read r target) h)
    made_done at (binary o left right) h =
        let one = term_made held table at left in
        let two = term_made held table (at + length one.operations) right in
        let l = made_done at left h.1.0 in
        let r = made_done (at + length one.operations) right h.1.1 in
        binary_done at o left right h one two (at + length one.operations) refl refl l r
    made_done at (convert to inner) h = convert_done at to (term_made held table at inner) h.0 (made_done at inner h.1)

    pub target_done : (at memory : ℕ) (target : core.Target) → IsSuitedTarget table memory target → AllByRecursion (IsOperation table) (target_made held table at target).operations × IsValidTarget table memory (target_made held table at target).target
    target_done at memory (by_indices indices) h = let a = all_done at indices h.1 in (a.0, (h.0, a.1))
    target_done at memory (by_views steps n terms) h =
        let a = all_done at terms h.1.1 in (
          a.0,
          (
            h.0,
            (
              subst (λ (ss : List WayStep). StepsFit (dims_at table memory) ss n (length (terms_made held table at terms).values)) (sym h.1.0.are)
                  (subst (λ (k : ℕ). StepsFit (dims_at table memory) steps n k) (sym (values_made held table at terms)) h.1.0),
              a.1,
            ),
          ),
        )
    target_done at memory (by_row bank row) h = let a = made_done at row h.1 in (a.operations, (h.0, a.value))

    pub all_done : (at : ℕ) (ts : CoreTerms) → AreSuited table ts → AllByRecursion (IsOperation table) (terms_made held table at ts).operations × AllByRecursion IsValidOperand (terms_made held table at ts).values
    all_done at no_terms h = (tt, tt)
    all_done at (term_and t ts) h =
        let a = made_done at t h.0 in
        let b = all_done (at + length (term_made held table at t).operations) ts h.1 in
        (all_append (IsOperation table) (term_made held table at t).operations _ a.operations b.0, (a.value, b.1))
