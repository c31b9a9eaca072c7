-- What is known of what is made of parts, by what is known of the parts.
use Rattle.std.proofs.Common.{◌≡◌, ℕ, Bool, max, refl, ap, sym, ◌∙◌, subst, inl, inr, List}
use Rattle.std.specs.Prelude.{Option, Some, None, option_map}
use Rattle.dh_base.specs.declared.places.Place.{Place}
use Rattle.dh_value.specs.declared.kinds.Kind.{Kind}
use Rattle.dh_value.specs.declared.operators.Op.{Op}
use Rattle.dh_tree.specs.declared.trees.expressions.Ref.{Ref}
use Rattle.dh_tree.specs.PlainTrees.{Term, term, TermForm, number, truth_value, named, accessed, in_bank, applied, converted, no_terms}
use Rattle.dh_meets.specs.Sharing.{number_of_op}
use Rattle.dh_meets.specs.SourceEvents.{in_row}
use Rattle.dh_events.specs.declared.structures.Structure.{Structure}
use Rattle.dh_events.specs.declared.structures.MaybeKind.{MaybeKind}
use Rattle.dh_events.specs.declared.structures.MaybeKind.TheVariants as sort
use Rattle.dh_events.specs.declared.structures.Form.{Form}
use Rattle.dh_events.specs.declared.structures.Form.TheVariants as form
use Rattle.dh_events.specs.declared.known.Known.{Known}
use Rattle.dh_events.specs.Accesses.{entity_in, element_in}
use Rattle.dh_events.specs.Structures.{kind_sort, sort_found, StructureStands, Describes, DescribesAll, DescribesElement, IsNameless, AnyNameless, entity_newest, newest_in, element_newest}
use Rattle.dh_events.specs.Elements.{IsNumberOf, ElementNameless, FormIsAccess, FormIsNumbered, MakesFrom, MakesNumber, MakesTruth, MakesVariable, MakesRead, MakesOperation, MakesCast, MakesNoIndex, MakesBankRow, both_known}
use Rattle.dh_events.proofs.ElementFacts.{describes_still, from_still}

absurd : {A : Type 0} → ⊥ → A
absurd e = elim e [ ]

at_sort : (known : List Structure) (n : ℕ) (s s1 : MaybeKind) (f : Form) → s ≡ s1 → StructureStands known n s f → StructureStands known n s1 f
at_sort known n s s1 f e d = subst (λ (x : MaybeKind). StructureStands known n x f) e d

module _ (old new : List Structure) (s : MaybeKind) where
  pub number_made : (negative : Bool) (value : ℕ) (k : Known) → MakesFrom old new s (Some (form.Number negative value)) 0 k → MakesNumber old new s negative value k
  number_made negative value k m = record { extends = m.extends; known = λ clocks place j e. record { number = told k.structure place j e m.made; newest = m.same } }
    where
      told : (c : Option ℕ) (place : Place) (j : Option Kind) → s ≡ sort_found j → FormIsNumbered new s (Some (form.Number negative value)) c → IsNumberOf (λ n. Describes new n) IsNameless c (term place j (number negative value))
      told None place j e d = absurd d
      told (Some n) place j e d = at_sort new n s (sort_found j) _ e d

  pub truth_made : (value : Bool) (k : Known) → MakesFrom old new s (Some (form.Truth value)) 0 k → MakesTruth old new s value k
  truth_made value k m = record { extends = m.extends; known = λ clocks place j e. record { number = told k.structure place j e m.made; newest = m.same } }
    where
      told : (c : Option ℕ) (place : Place) (j : Option Kind) → s ≡ sort_found j → FormIsNumbered new s (Some (form.Truth value)) c → IsNumberOf (λ n. Describes new n) IsNameless c (term place j (truth_value value))
      told None place j e d = absurd d
      told (Some n) place j e d = at_sort new n s (sort_found j) _ e d

  pub variable_made : (clocks : ℕ → ℕ) (entity : Option ℕ) (k : Known) → MakesFrom old new s (option_map (λ e. form.Variable e) entity) (entity_newest clocks entity) k → MakesVariable old new clocks s entity k
  variable_made clocks entity k m = record {
    extends = m.extends;
    known = λ place j r e f. record { number = told entity k.structure place j r e f m.made; newest = m.same ∙ sym (ap (entity_newest clocks) f) };
  }
    where
      told : (a c : Option ℕ) (place : Place) (j : Option Kind) (r : Ref) → s ≡ sort_found j → r.entity ≡ a → FormIsNumbered new s (option_map (λ e. form.Variable e) a) c → IsNumberOf (λ n. Describes new n) IsNameless c (term place j (named r))
      told None None place j r e f d = f
      told None (Some n) place j r e f d = absurd d
      told (Some x) None place j r e f d = absurd d
      told (Some x) (Some n) place j r e f d = (x, (f, at_sort new n s (sort_found j) _ e d))

  pub operation_made : (o : Op) (left right k : Known) → MakesFrom old new s (both_known left.structure right.structure (λ l r. form.Operation (number_of_op o) l r)) (max left.newest right.newest) k → MakesOperation old new s o left right k
  operation_made o left right k m = record {
    extends = m.extends;
    known = λ clocks place j t u e i h. record {
      number = told left.structure right.structure k.structure place j t u e i.number h.number m.made;
      newest = m.same ∙ (ap (λ x. max x right.newest) i.newest ∙ ap (λ x. max (newest_in clocks t) x) h.newest);
    };
  }
    where
      told : (a b c : Option ℕ) (place : Place) (j : Option Kind) (t u : Term) → s ≡ sort_found j → IsNumberOf (λ n. Describes old n) IsNameless a t → IsNumberOf (λ n. Describes old n) IsNameless b u
          → FormIsNumbered new s (both_known a b (λ l r. form.Operation (number_of_op o) l r)) c → IsNumberOf (λ n. Describes new n) IsNameless c (term place j (applied o t u))
      told None b None place j t u e i h d = inl i
      told None b (Some n) place j t u e i h d = absurd d
      told (Some l) None None place j t u e i h d = inr h
      told (Some l) None (Some n) place j t u e i h d = absurd d
      told (Some l) (Some r) None place j t u e i h d = absurd d
      told (Some l) (Some r) (Some n) place j t u e i h d =
          (l, (r, (describes_still old new m.extends l t i, (describes_still old new m.extends r u h, at_sort new n s (sort_found j) _ e d))))

  pub cast_made : (to : Kind) (inner k : Known) → MakesFrom old new s (option_map (λ n. form.Cast (kind_sort to) n) inner.structure) inner.newest k → MakesCast old new s to inner k
  cast_made to inner k m = record {
    extends = m.extends;
    known = λ clocks place j t e i. record { number = told inner.structure k.structure place j t e i.number m.made; newest = m.same ∙ i.newest };
  }
    where
      told : (a c : Option ℕ) (place : Place) (j : Option Kind) (t : Term) → s ≡ sort_found j → IsNumberOf (λ n. Describes old n) IsNameless a t → FormIsNumbered new s (option_map (λ n. form.Cast (kind_sort to) n) a) c
          → IsNumberOf (λ n. Describes new n) IsNameless c (term place j (converted t to))
      told None None place j t e i d = i
      told None (Some n) place j t e i d = absurd d
      told (Some l) None place j t e i d = absurd d
      told (Some l) (Some n) place j t e i d = (l, (describes_still old new m.extends l t i, at_sort new n s (sort_found j) _ e d))

  pub read_made : (entity : Option ℕ) (element k : Known) → MakesFrom old new s (both_known entity element.structure (λ e n. form.Read e n)) element.newest k → MakesRead old new s entity element k
  read_made entity element k m = record {
    extends = m.extends;
    known = λ clocks place j f e g a i. record { number = told f entity element.structure k.structure place j e g a i.number m.made; newest = m.same ∙ (i.newest ∙ same clocks place j f a) };
  }
    where
      same : (clocks : ℕ → ℕ) (place : Place) (j : Option Kind) (f : TermForm) → FormIsAccess f → element_newest clocks (element_in f) ≡ newest_in clocks (term place j f)
      same clocks place j (number negative n) a = absurd a
      same clocks place j (truth_value value) a = absurd a
      same clocks place j (named r) a = absurd a
      same clocks place j (accessed r indices) a = refl
      same clocks place j (in_bank r bank bank_place row) a = refl
      same clocks place j (applied o left right) a = absurd a
      same clocks place j (converted inner to) a = absurd a

      told : (f : TermForm) (x b c : Option ℕ) (place : Place) (j : Option Kind) → s ≡ sort_found j → entity_in f ≡ x → FormIsAccess f → IsNumberOf (λ n. DescribesElement old n) ElementNameless b (element_in f)
          → FormIsNumbered new s (both_known x b (λ e n. form.Read e n)) c → IsNumberOf (λ n. Describes new n) IsNameless c (term place j f)
      told (number negative n) x b c place j e g a i d = absurd a
      told (truth_value value) x b c place j e g a i d = absurd a
      told (named r) x b c place j e g a i d = absurd a
      told (applied o left right) x b c place j e g a i d = absurd a
      told (converted inner to) x b c place j e g a i d = absurd a
      told (accessed r indices) None b None place j e g a i d = inl g
      told (accessed r indices) None b (Some n) place j e g a i d = absurd d
      told (accessed r indices) (Some x) None None place j e g a i d = inr i
      told (accessed r indices) (Some x) None (Some n) place j e g a i d = absurd d
      told (accessed r indices) (Some x) (Some b) None place j e g a i d = absurd d
      told (accessed r indices) (Some x) (Some b) (Some n) place j e g a i d = (x, (b, (g, (from_still old new m.extends None indices b i, at_sort new n s (sort_found j) _ e d))))
      told (in_bank r bank bank_place row) None b None place j e g a i d = inl g
      told (in_bank r bank bank_place row) None b (Some n) place j e g a i d = absurd d
      told (in_bank r bank bank_place row) (Some x) None None place j e g a i d = inr i
      told (in_bank r bank bank_place row) (Some x) None (Some n) place j e g a i d = absurd d
      told (in_bank r bank bank_place row) (Some x) (Some b) None place j e g a i d = absurd d
      told (in_bank r bank bank_place row) (Some x) (Some b) (Some n) place j e g a (l, (i, h)) d =
          (x, (b, (l, (g, (describes_still old new m.extends l row i, (m.extends b _ h, at_sort new n s (sort_found j) _ e d))))))

module _ (old new : List Structure) where
  pub no_index_made : (k : Known) → MakesFrom old new sort.Unknown (Some form.NoIndex) 0 k → MakesNoIndex old new k
  no_index_made k m = record { extends = m.extends; known = λ clocks. record { number = told k.structure m.made; newest = m.same } }
    where
      told : (c : Option ℕ) → FormIsNumbered new sort.Unknown (Some form.NoIndex) c → IsNumberOf (λ n. DescribesAll new n) AnyNameless c no_terms
      told None d = absurd d
      told (Some n) d = d

  pub row_made : (bank : ℕ) (row k : Known) → MakesFrom old new sort.Unknown (option_map (λ n. form.Row bank n) row.structure) row.newest k → MakesBankRow old new bank row k
  row_made bank row k m = record { extends = m.extends; known = λ clocks t i. record { number = told row.structure k.structure t i.number m.made; newest = m.same ∙ i.newest } }
    where
      told : (a c : Option ℕ) (t : Term) → IsNumberOf (λ n. Describes old n) IsNameless a t → FormIsNumbered new sort.Unknown (option_map (λ n. form.Row bank n) a) c → IsNumberOf (λ n. DescribesElement new n) ElementNameless c (in_row bank t)
      told None None t i d = i
      told None (Some n) t i d = absurd d
      told (Some l) None t i d = absurd d
      told (Some l) (Some n) t i d = (l, (describes_still old new m.extends l t i, d))
