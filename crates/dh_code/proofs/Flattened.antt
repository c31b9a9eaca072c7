-- Code that is made of expressions, part by part.
use Rattle.std.proofs.Common.{◌≡◌, ℕ, suc, ◌+◌, ◌<◌, Bool, true, false, if◌then◌else◌, List, [], ◌∷◌, ◌++◌, length, map, drop, get_or, refl, ap, sym, ◌∙◌, subst, append_assoc, append-nil}
use Rattle.std.proofs.lemmas.List.{length-append}
use Rattle.std.proofs.Math.Seq.{drop-cons}
use Rattle.dh_base.specs.declared.places.Place.{Place}
use Rattle.dh_value.specs.declared.kinds.Kind.{Kind}
use Rattle.dh_value.specs.declared.operators.Op.{Op}
use Rattle.dh_value.specs.Operations.{result_of}
use Rattle.dh_tree.specs.declared.tables.MemEntry.{MemEntry}
use Rattle.dh_tree.specs.declared.trees.expressions.Expr.{Expr}
use Rattle.dh_tree.specs.Seen.{term_seen, terms}
use Rattle.dh_meaning.specs.AccessNumbers.{term_accesses}
use Rattle.dh_meaning.specs.Core.{Reach, CoreTerm, CoreTerms, term_and}
use Rattle.dh_meaning.specs.CoreOf.{Known, core_term, core_terms, operation_of}
use Rattle.dh_meaning.specs.Effects.{kind_in}
use Rattle.dh_code.specs.declared.codes.Code.{Code}
use Rattle.dh_code.specs.declared.codes.Operand.{Operand}
use Rattle.dh_code.specs.declared.codes.Operand.TheVariants.{Given}
use Rattle.dh_code.specs.declared.codes.CodeOperation.{CodeOperation}
use Rattle.dh_code.specs.declared.codes.CodeOperation.TheVariants.{Binary, Convert, Read}
use Rattle.dh_code.specs.declared.codes.Target.{Target}
use Rattle.dh_code.specs.declared.codes.Target.TheVariants.{Row}
use Rattle.dh_code.specs.declared.places.VariableSlots.{VariableSlots}
use Rattle.dh_code.specs.Extended.{extension_of}
use Rattle.dh_code.specs.Flattening.{AddsOnlyOperations, AreMade, IsExpressionMade, IsOneMore, extended_made}
use Rattle.dh_code.specs.Made.{AllMade, MadeExpression, access_to, binary_made, converted_made, one_more, read_of, term_made, terms_made}
use Rattle.dh_tree.specs.Kinds.{same_kind}
use Rattle.dh_code.specs.Operated.{kind_of_operand, mask_of}
use Rattle.dh_code.specs.Suited.{AreSuited, IsSuited}
use Rattle.dh_code.proofs.MadeParts.{operation_is}

pub adds_none : (c : Code) → AddsOnlyOperations c c []
adds_none c = record { operations = sym (append-nil c.operations); steps = refl }

pub adds_then : (a b c : Code) (xs ys : List CodeOperation) → AddsOnlyOperations a b xs → AddsOnlyOperations b c ys → AddsOnlyOperations a c (xs ++ ys)
adds_then a b c xs ys h k = record {
  operations = k.operations ∙ (ap (λ l. l ++ ys) h.operations ∙ append_assoc a.operations xs ys);
  steps = k.steps ∙ h.steps;
}

pub adds_long : (a b : Code) (xs : List CodeOperation) → AddsOnlyOperations a b xs → length b.operations ≡ length a.operations + length xs
adds_long a b xs h = ap (λ l. length l) h.operations ∙ length-append a.operations xs

-- one operation more behind what was made
pub made_more : (a b c : Code) (xs : List CodeOperation) (x y : CodeOperation) (k : Kind) (o : Operand) → AddsOnlyOperations a b xs → x ≡ y → IsOneMore b c x k o → IsExpressionMade a c o (one_more (length a.operations) xs y k)
made_more a b c xs x y k o h same i = record {
  adds = subst (λ (z : CodeOperation). AddsOnlyOperations a c (xs ++ z ∷ [])) same (adds_then a b c xs (x ∷ []) h i.adds);
  value = i.value ∙ ap (λ n. Given k n (mask_of k)) (adds_long a b xs h);
}

pub convert_same : (a b : Code) (from : Operand) (to : Kind) (m : MadeExpression) (t : Bool) → t ≡ same_kind (kind_of_operand from) to → t ≡ true → IsExpressionMade a b from m → IsExpressionMade a b from (converted_made (length a.operations) to m)
convert_same a b from to m t is yes_same h =
    subst (λ (z : Bool). IsExpressionMade a b from (if z then m else one_more (length a.operations) m.operations (Convert m.value to) to))
    (sym (ap (λ o. same_kind (kind_of_operand o) to) (sym h.value) ∙ (sym is ∙ yes_same))) h

pub convert_more : (a b c : Code) (from o : Operand) (to : Kind) (m : MadeExpression) (t : Bool) → t ≡ same_kind (kind_of_operand from) to → t ≡ false → IsOneMore b c (Convert from to) to o → IsExpressionMade a b from m → IsExpressionMade a c o (converted_made (length a.operations) to m)
convert_more a b c from o to m t is not_same i h =
    subst (λ (z : Bool). IsExpressionMade a c o (if z then m else one_more (length a.operations) m.operations (Convert m.value to) to))
    (sym (ap (λ o. same_kind (kind_of_operand o) to) (sym h.value) ∙ (sym is ∙ not_same)))
    (made_more a b c m.operations (Convert from to) (Convert m.value to) to o h.adds (ap (λ x. Convert x to) h.value) i)

pub binary_more : (a middle b c : Code) (op : Op) (left right o : Operand) (k : Kind) (l r : MadeExpression) → k ≡ result_of op (kind_of_operand left) → IsExpressionMade a middle left l → IsExpressionMade middle b right r → IsOneMore b c (Binary op left right) k o
    → IsExpressionMade a c o (binary_made (length a.operations) op l r)
binary_more a middle b c op left right o k l r is h h' i =
    subst (λ (z : Kind). IsExpressionMade a c o (one_more (length a.operations) (l.operations ++ r.operations) (Binary op l.value r.value) z)) (is ∙ ap (λ x. result_of op (kind_of_operand x)) h.value)
    (made_more a b c (l.operations ++ r.operations) (Binary op left right) (Binary op l.value r.value) k o (adds_then a middle b l.operations r.operations h.adds h'.adds)
    (ap (λ x. Binary op x right) h.value ∙ ap (λ x. Binary op l.value x) h'.value) i)

-- an operator on expressions
pub binary_flat : (held : List VariableSlots) (table : List MemEntry) (a middle c : Code) (o : Operand) (op : Op) (j k to : Kind) (l r : CoreTerm) (left : Operand) → to ≡ extension_of op j k
    → IsExpressionMade a middle left (extended_made (length a.operations) to (term_made held table (length a.operations) l))
    → IsExpressionMade a c o (binary_made (length a.operations) op (extended_made (length a.operations) to (term_made held table (length a.operations) l)) (extended_made (length middle.operations) to (term_made held table (length middle.operations) r)))
    → IsExpressionMade a c o (term_made held table (length a.operations) (operation_of op j k l r))
binary_flat held table a middle c o op j k to l r left is h i =
    subst (λ (m : MadeExpression). IsExpressionMade a c o m) (sym (operation_is held table (length a.operations) op j k l r))
    (subst (λ (z : Kind). IsExpressionMade a c o (binary_made (length a.operations) op (extended_made (length a.operations) z one) (extended_made (length a.operations + length (extended_made (length a.operations) z one).operations) z (term_made held table (length a.operations + length (extended_made (length a.operations) z one).operations) r)))) is
    (subst (λ (n : ℕ). IsExpressionMade a c o (binary_made (length a.operations) op (extended_made (length a.operations) to one) (extended_made n to (term_made held table n r)))) (adds_long a middle (extended_made (length a.operations) to one).operations h.adds) i))
  where
    one : MadeExpression
    one = term_made held table (length a.operations) l

-- an element that is read by its indices, or in a row
pub read_flat : (table : List MemEntry) (a b c : Code) (o : Operand) (reach : Reach) (place : Place) (memory : ℕ) (xs : List CodeOperation) (t t' : Target) → place ≡ reach.place → memory ≡ reach.memory → AddsOnlyOperations a b xs → t ≡ t'
    → IsOneMore b c (Read (record { place = place; memory = memory; target = t })) (kind_in table memory) o → IsExpressionMade a c o (read_of table (length a.operations) reach xs t')
read_flat table a b c o reach place memory xs t t' p n h same i =
    subst (λ (z : ℕ). IsExpressionMade a c o (one_more (length a.operations) xs (Read (access_to reach t')) (kind_in table z))) n
    (made_more a b c xs _ (Read (access_to reach t')) (kind_in table memory) o h
    (ap (λ x. Read (record { place = x; memory = memory; target = t })) p
    ∙ (ap (λ x. Read (record { place = reach.place; memory = x; target = t })) n
    ∙ ap (λ x. Read (record { place = reach.place; memory = reach.memory; target = x })) same)) i)

pub row_flat : (table : List MemEntry) (a b c : Code) (o : Operand) (reach : Reach) (place : Place) (memory bank : ℕ) (row : Operand) (m : MadeExpression) → place ≡ reach.place → memory ≡ reach.memory → IsExpressionMade a b row m
    → IsOneMore b c (Read (record { place = place; memory = memory; target = Row bank row })) (kind_in table memory) o → IsExpressionMade a c o (read_of table (length a.operations) reach m.operations (Row bank m.value))
row_flat table a b c o reach place memory bank row m p n h i =
    subst (λ (z : ℕ). IsExpressionMade a c o (one_more (length a.operations) m.operations (Read (access_to reach (Row bank m.value))) (kind_in table z))) n
    (made_more a b c m.operations _ (Read (access_to reach (Row bank m.value))) (kind_in table memory) o h.adds
    (ap (λ x. Read (record { place = x; memory = memory; target = Row bank row })) p
    ∙ (ap (λ x. Read (record { place = reach.place; memory = x; target = Row bank row })) n
    ∙ ap (λ x. Read (record { place = reach.place; memory = reach.memory; target = Row bank x })) h.value)) i)

-- indices up to one
module _ (known : Known) (held : List VariableSlots) (table : List MemEntry) where
  abbrev all_terms : ℕ → List Expr → CoreTerms
  all_terms n es = core_terms known n (terms (map term_seen es))

  abbrev all_code : Code → CoreTerms → AllMade
  all_code c ts = terms_made held table (length c.operations) ts

  pub record IndicesSoFar (first : Code) (all : List Expr) (k : ℕ) (now : Code) (so_far : List Operand) : Type 0 where
    pub so : (n : ℕ) → AreSuited table (all_terms n all)
        → (m : ℕ) × (AreSuited table (all_terms m (drop k all)) × ((new : Code) (os : List Operand) → AreMade now new os (all_code now (all_terms m (drop k all))) → AreMade first new (so_far ++ os) (all_code first (all_terms n all))))

  pub indices_first : (first : Code) (all : List Expr) → IndicesSoFar first all 0 first []
  indices_first first all = record { so = λ n h. (n, (h, λ new os m. m)) }

  one_then : (now now' new : Code) (t : CoreTerm) (ts : CoreTerms) (o : Operand) (os : List Operand) → IsExpressionMade now now' o (term_made held table (length now.operations) t) → AreMade now' new os (all_code now' ts) → AreMade now new (o ∷ os) (all_code now (term_and t ts))
  one_then now now' new t ts o os h k =
      let long = adds_long now now' (term_made held table (length now.operations) t).operations h.adds in
      let k' = subst (λ (n : ℕ). AreMade now' new os (terms_made held table n ts)) long k in
      record {
        adds = adds_then now now' new (term_made held table (length now.operations) t).operations _ h.adds k'.adds;
        values = ap (λ x. x ∷ os) h.value ∙ ap (λ l. (term_made held table (length now.operations) t).value ∷ l) k'.values;
      }

  pub indices_turn : (first : Code) (all : List Expr) (k : ℕ) (now now' : Code) (so_far so_far' : List Operand) (e : Expr) (o : Operand) → k < length all → e ≡ get_or all k e → so_far' ≡ so_far ++ o ∷ []
      → ((n : ℕ) → IsSuited table (core_term known n (term_seen e)) → IsExpressionMade now now' o (term_made held table (length now.operations) (core_term known n (term_seen e))))
      → IndicesSoFar first all k now so_far → IndicesSoFar first all (suc k) now' so_far'
  indices_turn first all k now now' so_far so_far' e o within is added flat g = record {
    so = λ n h.
        let s = g.so n h in
        let split : drop k all ≡ e ∷ drop (suc k) all = drop-cons all k e within ∙ ap (λ x. x ∷ drop (suc k) all) (sym is) in
        let suits = subst (λ (l : List Expr). AreSuited table (all_terms s.0 l)) split s.1.0 in (
          s.0 + term_accesses (term_seen e),
          (
            suits.1,
            λ new os m.
                subst (λ (l : List Operand). AreMade first new l (all_code first (all_terms n all))) (sym (ap (λ l. l ++ os) added ∙ append_assoc so_far (o ∷ []) os))
                (s.1.1 new (o ∷ os) (subst (λ (l : List Expr). AreMade now new (o ∷ os) (all_code now (all_terms s.0 l))) (sym split)
                (one_then now now' new (core_term known s.0 (term_seen e)) (all_terms (s.0 + term_accesses (term_seen e)) (drop (suc k) all)) o os (flat s.0 suits.0) m))),
          ),
        );
  }

  pub indices_end : (first : Code) (all : List Expr) (k : ℕ) (now : Code) (so_far : List Operand) → drop k all ≡ [] → IndicesSoFar first all k now so_far
      → (n : ℕ) → AreSuited table (all_terms n all) → AreMade first now so_far (all_code first (all_terms n all))
  indices_end first all k now so_far over g n h =
      let s = g.so n h in
      subst (λ (l : List Operand). AreMade first now l (all_code first (all_terms n all))) (append-nil so_far)
      (s.1.1 now [] (subst (λ (l : List Expr). AreMade now now [] (all_code now (all_terms s.0 l))) (sym over) (record { adds = adds_none now; values = refl })))
