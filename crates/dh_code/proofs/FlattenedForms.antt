-- The code of each form of expression.
use Rattle.std.proofs.Common.{◌≡◌, ℕ, ◌+◌, Bool, List, [], length, refl, ap, sym, ◌∙◌, subst}
use Rattle.dh_base.specs.declared.places.Place.{Place}
use Rattle.dh_value.specs.declared.kinds.Kind.{Kind}
use Rattle.dh_value.specs.declared.operators.Op.{Op}
use Rattle.dh_value.specs.declared.words.Word.{Word}
use Rattle.dh_value.specs.Words.{IsKind, with_bits}
use Rattle.dh_value.specs.Operations as operations
use Rattle.dh_tree.specs.declared.tables.MemEntry.{MemEntry}
use Rattle.dh_tree.specs.declared.trees.expressions.Expr.{Expr}
use Rattle.dh_tree.specs.declared.trees.expressions.ExprForm.{ExprForm}
use Rattle.dh_tree.specs.declared.trees.expressions.ExprForm.TheVariants.{Binary, Cast, Physical}
use Rattle.dh_tree.specs.declared.trees.expressions.Ref.{Ref}
use Rattle.dh_tree.specs.PlainTrees as plain
use Rattle.dh_tree.specs.PlainTrees.{TermForm, number, truth_value, named, accessed, in_bank, applied, converted}
use Rattle.dh_tree.specs.Seen.{form_seen, term_seen, terms}
use Rattle.dh_tree.proofs.SeenTerms.{binary_is, cast_is, physical_is}
use Rattle.dh_meaning.specs.AccessNumbers.{term_accesses, terms_accesses}
use Rattle.dh_meaning.specs.Bindings.{kind_found}
use Rattle.dh_meaning.specs.CoreOf.{Known, core_form, core_term, core_terms, entity_number, memory_of, reach_of, way_of}
use Rattle.dh_meaning.specs.Effects.{bits_of, kind_in}
use Rattle.dh_code.specs.declared.codes.Code.{Code}
use Rattle.dh_code.specs.declared.codes.Operand.{Operand}
use Rattle.dh_code.specs.declared.codes.Operand.TheVariants.{Constant}
use Rattle.dh_code.specs.declared.codes.CodeOperation.TheVariants.{Read}
use Rattle.dh_code.specs.declared.codes.Target.{Target}
use Rattle.dh_code.specs.declared.codes.Target.TheVariants.{Row}
use Rattle.dh_code.specs.declared.places.VariableSlots.{VariableSlots}
use Rattle.dh_code.specs.Extended.{extension_of}
use Rattle.dh_code.specs.Flattening.{AddsBinary, AreMade, ConvertsTo, ExtendsTo, IsExpressionMade, IsOneMore}
use Rattle.dh_code.specs.Made.{Aimed, aimed_target, read_of, term_made, terms_made, variable_operand}
use Rattle.dh_code.specs.Suited.{AreSuited, IsSuited}
use Rattle.dh_code.proofs.Flattened.{adds_none, binary_flat, read_flat, row_flat}
use Rattle.dh_code.proofs.MadeParts.{operands_suited}
use Rattle.dh_code.proofs.TargetsMade.{aimed_made, first_suited}

-- what is seen of an operation, a cast and a row of a bank, whose parts stand in boxes
pub binary_form : (form : ExprForm) (o : Op) (left right : _) → form ≡ Binary o left right → (l r : Expr) → l ≡ left.value → r ≡ right.value → form_seen form ≡ applied o (term_seen l) (term_seen r)
binary_form form o left right is l r a b = ap form_seen is ∙ (binary_is o left right ∙ (ap (λ e. applied o (term_seen e) (term_seen right.value)) (sym a) ∙ ap (λ e. applied o (term_seen l) (term_seen e)) (sym b)))

pub cast_form : (form : ExprForm) (inner : _) (to : Kind) → form ≡ Cast inner to → (e : Expr) → e ≡ inner.value → form_seen form ≡ converted (term_seen e) to
cast_form form inner to is e a = ap form_seen is ∙ (cast_is inner to ∙ ap (λ x. converted (term_seen x) to) (sym a))

pub bank_form : (form : ExprForm) (of : Ref) (bank : ℕ) (bank_place : Place) (row : _) → form ≡ Physical of bank bank_place row → (r : Expr) → r ≡ row.value → form_seen form ≡ in_bank of bank bank_place (term_seen r)
bank_form form of bank bank_place row is r same = ap form_seen is ∙ (physical_is of bank bank_place row ∙ ap (λ e. in_bank of bank bank_place (term_seen e)) (sym same))

module _ (known : Known) (held : List VariableSlots) (table : List MemEntry) (place : Place) (k k' : Kind) (kinds : k' ≡ k) (f : TermForm) where
  abbrev flats : (a c : Code) (o : Operand) → (n : ℕ) → TermForm → Type 0
  flats a c o n g = IsSuited table (core_form known n place k g) → IsExpressionMade a c o (term_made held table (length a.operations) (core_form known n place k g))

  still_made : (a : Code) (o o' : Operand) → o ≡ o' → IsExpressionMade a a o (record { operations = []; value = o' })
  still_made a o o' e = record { adds = adds_none a; value = e }

  pub number_flat : (a : Code) (n : ℕ) (negative : Bool) (v : ℕ) (w : Word) → f ≡ number negative v → (IsKind k' → w ≡ with_bits k' (bits_of k' negative v)) → flats a a (Constant w) n f
  number_flat a n negative v w is worth =
      subst (flats a a (Constant w) n) (sym is) (λ h. still_made a (Constant w) (Constant (with_bits k (bits_of k negative v)))
      (ap Constant (worth (subst (λ (j : Kind). IsKind j) (sym kinds) h) ∙ ap (λ j. with_bits j (bits_of j negative v)) kinds)))

  pub truth_flat : (a : Code) (n : ℕ) (v : Bool) (w : Word) → f ≡ truth_value v → w ≡ operations.truth v → flats a a (Constant w) n f
  truth_flat a n v w is worth = subst (flats a a (Constant w) n) (sym is) (λ h. still_made a (Constant w) (Constant (operations.truth v)) (ap Constant worth))

  pub variable_flat : (a : Code) (n : ℕ) (r : Ref) (o : Operand) → f ≡ named r → o ≡ variable_operand held k' (entity_number r.entity) → flats a a o n f
  variable_flat a n r o is worth =
      subst (flats a a o n) (sym is) (λ h. still_made a o (variable_operand held k (entity_number r.entity)) (worth ∙ ap (λ j. variable_operand held j (entity_number r.entity)) kinds))

  pub access_flat : (a b c : Code) (n : ℕ) (r : Ref) (indices : List plain.Term) (memory : ℕ) (os : List Operand) (t : Target) (o : Operand) → f ≡ accessed r (terms indices) → memory ≡ memory_of known r
      → ((n : ℕ) → AreSuited table (core_terms known n (terms indices)) → AreMade a b os (terms_made held table (length a.operations) (core_terms known n (terms indices))))
      → t ≡ aimed_target held (way_of known r) os → IsOneMore b c (Read (record { place = place; memory = memory; target = t })) (kind_in table memory) o → flats a c o n f
  access_flat a b c n r indices memory os t o is number_is flat aims more =
      subst (flats a c o n) (sym is) (λ h.
      let w = way_of known r in
      let ts = core_terms known n (terms indices) in
      let reach = reach_of known (n + terms_accesses (terms indices)) place r in
      let m = flat n (first_suited table (memory_of known r) w ts h) in
      subst (λ (x : Aimed). IsExpressionMade a c o (read_of table (length a.operations) reach x.operations x.target)) (sym (aimed_made held table (length a.operations) w ts))
      (read_flat table a b c o reach place memory (terms_made held table (length a.operations) ts).operations t (aimed_target held w (terms_made held table (length a.operations) ts).values) refl number_is m.adds
      (aims ∙ ap (λ l. aimed_target held w l) m.values) more))

  pub bank_flat : (a b c : Code) (n : ℕ) (r : Ref) (bank : ℕ) (bank_place : Place) (row : plain.Term) (memory : ℕ) (x o : Operand) → f ≡ in_bank r bank bank_place row → memory ≡ memory_of known r
      → ((n : ℕ) → IsSuited table (core_term known n row) → IsExpressionMade a b x (term_made held table (length a.operations) (core_term known n row)))
      → IsOneMore b c (Read (record { place = place; memory = memory; target = Row bank x })) (kind_in table memory) o → flats a c o n f
  bank_flat a b c n r bank bank_place row memory x o is number_is flat more =
      subst (flats a c o n) (sym is) (λ h. row_flat table a b c o (reach_of known (n + term_accesses row) place r) place memory bank x (term_made held table (length a.operations) (core_term known n row)) refl number_is (flat n h.1) more)

  pub cast_flat : (a b c : Code) (n : ℕ) (inner : plain.Term) (to : Kind) (x o : Operand) → f ≡ converted inner to
      → ((n : ℕ) → IsSuited table (core_term known n inner) → IsExpressionMade a b x (term_made held table (length a.operations) (core_term known n inner))) → ConvertsTo b c x to o → flats a c o n f
  cast_flat a b c n inner to x o is flat converts = subst (flats a c o n) (sym is) (λ h. converts a (term_made held table (length a.operations) (core_term known n inner)) (flat n h.1))

  pub operation_flat : (a b b' c c' d : Code) (n : ℕ) (op : Op) (left right : plain.Term) (to : Kind) (x x' y y' o : Operand) → f ≡ applied op left right → to ≡ extension_of op (kind_found left) (kind_found right)
      → ((n : ℕ) → IsSuited table (core_term known n left) → IsExpressionMade a b x (term_made held table (length a.operations) (core_term known n left))) → ExtendsTo b b' x to x'
      → ((n : ℕ) → IsSuited table (core_term known n right) → IsExpressionMade b' c y (term_made held table (length b'.operations) (core_term known n right))) → ExtendsTo c c' y to y' → AddsBinary c' d op x' y' o → flats a d o n f
  operation_flat a b b' c c' d n op left right to x x' y y' o is extends flat first flat' second adds =
      subst (flats a d o n) (sym is) (λ h.
      let l = core_term known n left in
      let r = core_term known (n + term_accesses left) right in
      let suits = operands_suited held table op (kind_found left) (kind_found right) l r h in
      let one = first a (term_made held table (length a.operations) l) (flat n suits.0) in
      let two = second b' (term_made held table (length b'.operations) r) (flat' (n + term_accesses left) suits.1) in
      binary_flat held table a b' d o op (kind_found left) (kind_found right) to l r x' extends one (adds a b' _ _ one two))
