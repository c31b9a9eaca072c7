-- The expressions in a command of a program without a breach can be evaluated where the command stands: right sides,
-- targets and conditions; what a `let` declares is known behind it; a reducer has a variable and a value of one sign,
-- both numbers.
use Rattle.std.proofs.Common.{◌≡◌, ℕ, List, [], Option, Some, None, refl, ap, sym, ◌∙◌, subst}
use Rattle.std.specs.Option.{option_map}
use Rattle.dh_base.specs.declared.places.Place.{Place}
use Rattle.dh_value.specs.declared.kinds.Kind.{Kind}
use Rattle.dh_value.specs.declared.kinds.Kind.TheVariants as kind
use Rattle.dh_value.specs.declared.operators.Op.{Op}
use Rattle.dh_value.specs.declared.operators.Op.TheVariants as op
use Rattle.dh_value.specs.Words.{IsKind}
use Rattle.dh_tree.specs.declared.trees.expressions.Ref.{Ref}
use Rattle.dh_tree.specs.Breaches.{maybe_value_breaches}
use Rattle.dh_tree.specs.Indices.{maybe_index_breaches}
use Rattle.dh_tree.specs.KindBreaches.{assigned_breaches, maybe_breaches, truth_breaches, target_breaches, reducer_kind_breaches}
use Rattle.dh_tree.specs.Kinds.{Fact, of_variable, of_iterator, of_memory, of_function, Facts, Takes, two_numbers, takes, operands_breaches, applied_kind, mismatch, when, is_truth, fact_of, found, place_of, for_numbers, value_kind, variable_fact, iterator_kind, typed_term, typed_maybe}
use Rattle.dh_tree.specs.PlainTrees.{Term, term, number, truth_value, named, accessed, in_bank, applied, converted}
use Rattle.dh_tree.specs.Resolved.{resolved_term}
use Rattle.dh_tree.specs.Scopes.{ScopeEntry, entity_number}
use Rattle.dh_tree.specs.TextNumbers.{Reduces}
use Rattle.dh_tree.specs.ViewBreaches.{maybe_view_breaches}
use Rattle.dh_tree.specs.Widths.{IsSized, MaybeSized}
use Rattle.dh_runnable.proofs.TypedParts.{for_numbers_sized, number_kind_sized}
use Rattle.dh_tree.proofs.EmptyLists.{second_none, not_none}
use Rattle.dh_meaning.specs.Bindings.{binding_in, kind_bound, kind_found, kind_or_first, let_kind}
use Rattle.dh_meaning.specs.Core.{variable}
use Rattle.dh_meaning.specs.CoreOf.{Known, depth_of, kind_of, operation_of, core_term, first_value, store_to, assigned, folded_into}
use Rattle.dh_runnable.specs.ActionsRun.{table_known, TestRuns}
use Rattle.dh_code.specs.Slots.{Placing}
use Rattle.dh_code.specs.Suited.{CanDo}
use Rattle.dh_runnable.proofs.DeclarationsFound.{NamePlaced}
use Rattle.dh_runnable.proofs.NamesKnown.{IsPlaced, IsVariable, IsGood, Knows, IsNamed, fact_is}
use Rattle.dh_runnable.proofs.Operands.{IsOperand, bool_sized, applied_suits, operation_inside}
use Rattle.dh_runnable.proofs.TermsSuited.{IsKnown, indexed, judged, kind_found_is, name_inside, term_known}
use Rattle.dh_runnable.proofs.ViewsKnown.{AreGoodWays, Rules}

-- an iterator
pub iterator_sized : (declared : Option Kind) → IsSized declared → IsKind (iterator_kind declared)
iterator_sized None z = number_kind_sized None tt
iterator_sized (Some k) z = z

first_sized : (declared : Option Kind) → IsSized declared → IsKind (kind_or_first declared)
first_sized None z = bool_sized
first_sized (Some k) z = z

-- a condition is Bool
is_test : (j : Kind) (place : Place) → truth_breaches (Some j) place ≡ [] → j ≡ kind.Bool
is_test kind.Bool place h = refl
is_test (kind.Unsigned w) place h = not_none _ _ h
is_test (kind.Signed w) place h = not_none _ _ h

-- a reducer takes numbers
reducer_takes : (o : Op) → Reduces o → takes o ≡ two_numbers
reducer_takes op.Add h = refl
reducer_takes op.Sub h = refl
reducer_takes op.Mul h = refl
reducer_takes op.And h = absurd h
reducer_takes op.Or h = absurd h
reducer_takes op.Xor h = absurd h
reducer_takes op.Shl h = absurd h
reducer_takes op.Shr h = absurd h
reducer_takes op.Lt h = absurd h
reducer_takes op.Gt h = absurd h
reducer_takes op.Le h = absurd h
reducer_takes op.Ge h = absurd h
reducer_takes op.Eq h = absurd h
reducer_takes op.Ne h = absurd h
reducer_takes op.Both h = absurd h
reducer_takes op.Either h = absurd h

-- a variable and a value that a reducer puts together are two numbers of one sign
reducer_operands : (at to place other : Place) (j k : Kind) → when (is_truth j) (mismatch place) ≡ [] → assigned_breaches (Some j) (Some k) other ≡ [] → operands_breaches two_numbers at to j k ≡ []
reducer_operands at to place other kind.Bool k e h = not_none _ _ e
reducer_operands at to place other (kind.Unsigned m) kind.Bool e h = not_none _ _ h
reducer_operands at to place other (kind.Unsigned m) (kind.Unsigned n) e h = refl
reducer_operands at to place other (kind.Unsigned m) (kind.Signed n) e h = not_none _ _ h
reducer_operands at to place other (kind.Signed m) kind.Bool e h = not_none _ _ h
reducer_operands at to place other (kind.Signed m) (kind.Unsigned n) e h = not_none _ _ h
reducer_operands at to place other (kind.Signed m) (kind.Signed n) e h = refl

module _ (known : Known) (p : Placing) (loops : List ℕ) where
  -- Declarations.

  -- the right side of a `let`, where it has one
  abbrev pub MaybeKnown : Option Term → Type 0
  MaybeKnown None = Unit {0}
  MaybeKnown (Some t) = IsKnown known p loops t

  pub maybe_known : (rules : Rules) (good : AreGoodWays known rules.views) (facts : Facts) (bs : List ScopeEntry) (declared : Option Kind) (value : Option Term) → Knows known p loops facts bs → IsSized declared
      → typed_maybe facts declared value ≡ value → option_map (resolved_term bs) value ≡ value → maybe_value_breaches bs value ≡ [] → maybe_breaches facts declared value ≡ [] → maybe_index_breaches (indexed known rules) value ≡ []
      → maybe_view_breaches (judged known rules) value ≡ [] → MaybeSized value → MaybeKnown value
  maybe_known rules good facts bs declared None k d e n v b i w z = tt
  maybe_known rules good facts bs declared (Some t) k d e n v b i w z =
      let typed : typed_term facts (for_numbers declared) t ≡ t = cc in
      let same : resolved_term bs t ≡ t = cc in
      term_known known p loops rules good facts bs k (for_numbers declared) (for_numbers_sized declared d) t typed
      (record { named = same; visible = v; kinds = second_none (assigned_breaches declared (found t) (place_of t)) _ b; indices = i; views = w; sized = z })

  -- what a name declares is known by its number
  numbered_placed : (r : Ref) (n : ℕ) (k : Kind) → r.entity ≡ Some n → NamePlaced known p loops r k → IsPlaced known p loops n k
  numbered_placed r n k e h = subst (λ (o : Option ℕ). IsPlaced known p loops (entity_number o) k) e h

  pub let_good : (r : Ref) (n : ℕ) (declared : Option Kind) (value : Option Term) → r.entity ≡ Some n → IsSized declared → MaybeKnown value → NamePlaced known p loops r (let_kind declared value) → IsGood known p loops n (variable_fact declared value)
  let_good r n (Some k) value e z m h = record { sized = z; placed = numbered_placed r n k e h }
  let_good r n None None e z m h = record { sized = bool_sized; placed = numbered_placed r n kind.Bool e h }
  let_good r n None (Some t) e z m h =
      subst (λ (k : Option Kind). IsGood known p loops n (of_variable k)) (sym m.is)
      (record { sized = (m.operand 0).sized; placed = subst (λ (k : Kind). IsPlaced known p loops n k) (kind_found_is t m.kind m.is) (numbered_placed r n (kind_found t) e h) })

  pub let_runs : (r : Ref) (k : Kind) (declared : Option Kind) (value : Option Term) → IsSized declared → MaybeKnown value → NamePlaced known p loops r k → (n : ℕ) → CanDo (table_known known) p loops (assigned known r (first_value known n declared value))
  let_runs r k declared None z m h n = (h.inside, (first_sized declared z, tt))
  let_runs r k declared (Some t) z m h n = (h.inside, ((m.operand n).suits, m.inside n))

  pub iterator_good : (r : Ref) (n : ℕ) (declared : Option Kind) → r.entity ≡ Some n → IsSized declared → NamePlaced known p loops r (iterator_kind declared) → IsGood known p loops n (of_iterator (iterator_kind declared))
  iterator_good r n declared e z h = record { sized = iterator_sized declared z; placed = numbered_placed r n (iterator_kind declared) e h }

  -- Targets.

  -- what is assigned to is a variable
  pub record IsTarget (facts : Facts) (r : Ref) : Type 0 where
    pub number : ℕ
    pub entity : r.entity ≡ Some number
    pub kind : Kind
    pub is : value_kind (fact_of facts r) ≡ Some kind
    pub stands : IsVariable known p loops number kind

  pub target_known : (facts : Facts) (r : Ref) → IsNamed known p loops facts r → target_breaches (fact_of facts r) r.place ≡ [] → IsTarget facts r
  target_known facts r n e =
      let v = cases n.stands.fact n.stands.good (ap (λ x. target_breaches x r.place) (sym (fact_is known p loops facts r n)) ∙ e) in
      record { number = n.number; entity = n.entity; kind = v.0; is = ap value_kind (fact_is known p loops facts r n) ∙ v.1.0; stands = v.1.1 }
    where
      cases : (f : Fact) → IsGood known p loops n.number f → target_breaches (Some f) r.place ≡ [] → (k : Kind) × ((value_kind (Some f) ≡ Some k) × IsVariable known p loops n.number k)
      cases (of_variable None) g h = absurd g
      cases (of_variable (Some k)) g h = (k, (refl, g))
      cases (of_iterator k) g h = (k, (refl, g))
      cases (of_memory k dims) g h = not_none _ _ h
      cases (of_function parameters) g h = not_none _ _ h

  pub assign_runs : (facts : Facts) (r : Ref) (value : Term) → IsTarget facts r → IsKnown known p loops value → (n : ℕ) → CanDo (table_known known) p loops (assigned known r (core_term known n value))
  assign_runs facts r value t v n = (name_inside known p loops r t.number t.kind t.entity t.stands, ((v.operand n).suits, v.inside n))

  -- a store; no text has one to what is no access, which would store nothing
  pub store_runs : (target value : Term) → IsKnown known p loops target → IsKnown known p loops value → (m n : ℕ) → CanDo (table_known known) p loops (store_to known m target (core_term known n value))
  store_runs (term at k (accessed r indices)) value t v m n = (((t.operand m).suits, t.inside m), ((v.operand n).suits, v.inside n))
  store_runs (term at k (in_bank r bank bank_place row)) value t v m n = (((t.operand m).suits, t.inside m), ((v.operand n).suits, v.inside n))
  store_runs (term at k (number negative x)) value t v m n = ((refl, (tt, tt)), (tt, tt))
  store_runs (term at k (truth_value b)) value t v m n = ((refl, (tt, tt)), (tt, tt))
  store_runs (term at k (named r)) value t v m n = ((refl, (tt, tt)), (tt, tt))
  store_runs (term at k (applied o left right)) value t v m n = ((refl, (tt, tt)), (tt, tt))
  store_runs (term at k (converted inner to)) value t v m n = ((refl, (tt, tt)), (tt, tt))

  -- a reducer
  variable_operand : (facts : Facts) (r : Ref) (t : IsTarget facts r) → IsOperand (table_known known) t.kind (variable (kind_of known r) (depth_of known r) (entity_number r.entity))
  variable_operand facts r t =
      let bound : kind_of known r ≡ t.kind = ap (λ (o : Option ℕ). kind_bound (binding_in known.bindings (entity_number o))) t.entity ∙ t.stands.placed.bound in
      record { sized = t.stands.sized; kind = bound; suits = subst IsKind (sym bound) t.stands.sized }

  fold_operand : (facts : Facts) (r : Ref) (o : Op) (value : Term) (place other : Place) (t : IsTarget facts r) (v : IsKnown known p loops value) → takes o ≡ two_numbers
      → when (is_truth t.kind) (mismatch place) ≡ [] → assigned_breaches (Some t.kind) (Some v.kind) other ≡ []
      → (n : ℕ) → IsOperand (table_known known) (applied_kind o t.kind v.kind) (operation_of o (kind_of known r) (kind_found value) (variable (kind_of known r) (depth_of known r) (entity_number r.entity)) (core_term known n value))
  fold_operand facts r o value place other t v e a b n =
      let bound : kind_of known r ≡ t.kind = ap (λ (o : Option ℕ). kind_bound (binding_in known.bindings (entity_number o))) t.entity ∙ t.stands.placed.bound in
      let fits : operands_breaches (takes o) r.place (place_of value) t.kind v.kind ≡ [] =
      ap (λ (x : Takes). operands_breaches x r.place (place_of value) t.kind v.kind) e ∙ reducer_operands r.place (place_of value) place other t.kind v.kind a b in
      let suits = applied_suits (table_known known) r.place (place_of value) o t.kind v.kind (variable (kind_of known r) (depth_of known r) (entity_number r.entity)) (core_term known n value) fits (variable_operand facts r t) (v.operand n) in
      subst (λ (j : Kind). IsOperand (table_known known) (applied_kind o t.kind v.kind) (operation_of o j (kind_found value) (variable (kind_of known r) (depth_of known r) (entity_number r.entity)) (core_term known n value))) (sym bound)
      (subst (λ (j : Kind). IsOperand (table_known known) (applied_kind o t.kind v.kind) (operation_of o t.kind j (variable (kind_of known r) (depth_of known r) (entity_number r.entity)) (core_term known n value))) (sym (kind_found_is value v.kind v.is)) suits)

  pub fold_runs : (facts : Facts) (r : Ref) (o : Op) (value : Term) → IsTarget facts r → IsKnown known p loops value → Reduces o
      → reducer_kind_breaches (value_kind (fact_of facts r)) (found value) r.place ≡ [] → assigned_breaches (value_kind (fact_of facts r)) (found value) (place_of value) ≡ []
      → (n : ℕ) → CanDo (table_known known) p loops (folded_into known r o (kind_found value) (core_term known n value))
  fold_runs facts r o value t v e a b n =
      let own = name_inside known p loops r t.number t.kind t.entity t.stands in
      let numbers : when (is_truth t.kind) (mismatch r.place) ≡ [] =
      sym (ap (λ (x : Option Kind). reducer_kind_breaches x (found value) r.place) t.is ∙ ap (λ (x : Option Kind). reducer_kind_breaches (Some t.kind) x r.place) v.is) ∙ a in
      let alike : assigned_breaches (Some t.kind) (Some v.kind) (place_of value) ≡ [] =
      sym (ap (λ (x : Option Kind). assigned_breaches x (found value) (place_of value)) t.is ∙ ap (λ (x : Option Kind). assigned_breaches (Some t.kind) x (place_of value)) v.is) ∙ b in (
        own,
        (
          (fold_operand facts r o value r.place (place_of value) t v (reducer_takes o e) numbers alike n).suits,
          operation_inside p loops o (kind_of known r) (kind_found value) (variable (kind_of known r) (depth_of known r) (entity_number r.entity)) (core_term known n value) own (v.inside n),
        ),
      )

  -- a condition
  pub test_runs : (test : Term) → IsKnown known p loops test → truth_breaches (found test) (place_of test) ≡ [] → TestRuns known p loops test
  test_runs test k h n = (
    (k.operand n).kind ∙ is_test k.kind (place_of test) (ap (λ x. truth_breaches x (place_of test)) (sym k.is) ∙ h),
    ((k.operand n).suits, k.inside n),
  )
