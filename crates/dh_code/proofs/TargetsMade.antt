-- The code of targets, through the views on a way.
use Rattle.std.proofs.Common.{◌≡◌, ℕ, ◌+◌, List, [], ◌∷◌, ◌++◌, length, map, Some, None, refl, ap, sym, ◌∙◌}
use Rattle.std.specs.Prelude.{Option}
use Rattle.dh_tree.specs.declared.tables.MemEntry.{MemEntry}
use Rattle.dh_meaning.specs.Core.{CoreTerms, no_terms, term_and, count_terms}
use Rattle.dh_meaning.specs.CoreOf.{kept_terms, target_to, terms_both}
use Rattle.dh_tree.specs.declared.viewing.ViewMap.{ViewMap}
use Rattle.dh_meaning.specs.Ways.{Hidden, Way, step_of}
use Rattle.dh_ways.specs.declared.ways.Hidden as ways
use Rattle.dh_ways.specs.Kept as ways_kept
use Rattle.dh_ways.specs.Seen.{hidden_seen, way_seen}
use Rattle.dh_code.specs.declared.codes.Operand.{Operand}
use Rattle.dh_code.specs.declared.codes.CodeOperation.{CodeOperation}
use Rattle.dh_code.specs.declared.codes.Target.TheVariants.{Through}
use Rattle.dh_code.specs.declared.places.VariableSlots.{VariableSlots}
use Rattle.dh_code.specs.Made.{AllMade, aimed, aimed_target, all_made, hidden_operand, target_made, term_made, terms_made}
use Rattle.dh_code.specs.Passing.{step_views}
use Rattle.dh_code.specs.Suited.{AreSuited, IsSuitedTarget}
use Rattle.dh_code.proofs.MadeParts.{values_made}

both_suited : (table : List MemEntry) (ts more : CoreTerms) → AreSuited table (terms_both ts more) → AreSuited table ts
both_suited table no_terms more h = tt
both_suited table (term_and t ts) more h = (h.0, both_suited table ts more h.1)

pub first_suited : (table : List MemEntry) (memory : ℕ) (w : Option Way) (ts : CoreTerms) → IsSuitedTarget table memory (target_to w ts) → AreSuited table ts
first_suited table memory None ts h = h.1
first_suited table memory (Some w) ts h = both_suited table ts (kept_terms w.hidden) h.1.1

module _ (held : List VariableSlots) (table : List MemEntry) where
  kept_made : (at : ℕ) (hs : List Hidden) → terms_made held table at (kept_terms hs) ≡ all_made [] (map (hidden_operand held) hs)
  kept_made at [] = refl
  kept_made at (h ∷ hs) = ap (λ (m : AllMade). all_made m.operations (hidden_operand held h ∷ m.values)) (kept_made (at + length {A = CodeOperation} []) hs)

  both_made : (at : ℕ) (ts : CoreTerms) (hs : List Hidden)
      → terms_made held table at (terms_both ts (kept_terms hs)) ≡ all_made (terms_made held table at ts).operations ((terms_made held table at ts).values ++ map (hidden_operand held) hs)
  both_made at no_terms hs = kept_made at hs
  both_made at (term_and t ts) hs =
      ap (λ (m : AllMade). all_made ((term_made held table at t).operations ++ m.operations) ((term_made held table at t).value ∷ m.values))
      (both_made (at + length (term_made held table at t).operations) ts hs)

  pub aimed_made : (at : ℕ) (w : Option Way) (ts : CoreTerms) → target_made held table at (target_to w ts) ≡ aimed (terms_made held table at ts).operations (aimed_target held w (terms_made held table at ts).values)
  aimed_made at None ts = refl
  aimed_made at (Some w) ts =
      ap (λ (m : AllMade). aimed m.operations (Through (step_views w.steps) (count_terms ts) m.values)) (both_made at ts w.hidden)
      ∙ ap (λ n. aimed (terms_made held table at ts).operations (Through (step_views w.steps) n ((terms_made held table at ts).values ++ map (hidden_operand held) w.hidden))) (sym (values_made held table at ts))

-- The target that is made of the parts of a way, as code keeps it.

views_back : (vs : List ViewMap) → step_views (map step_of vs) ≡ vs
views_back [] = refl
views_back (v ∷ vs) = ap (λ l. v ∷ l) (views_back vs)

offsets_seen : (held : List VariableSlots) (hs : List ways.Hidden) → map (λ h. hidden_operand held (hidden_seen h)) hs ≡ map (hidden_operand held) (map hidden_seen hs)
offsets_seen held [] = refl
offsets_seen held (h ∷ hs) = ap (λ l. hidden_operand held (hidden_seen h) ∷ l) (offsets_seen held hs)

pub through_made : (held : List VariableSlots) (w : ways_kept.KeptWay) (os all : List Operand) (vs : List ViewMap) (n : ℕ) → n ≡ length os → all ≡ os ++ map (λ h. hidden_operand held (hidden_seen h)) w.hidden → vs ≡ w.view ∷ w.behind
    → Through vs n all ≡ aimed_target held (Some (way_seen w)) os
through_made held w os all vs n long both views =
    ap (λ k. Through vs k all) long
    ∙ (ap (λ l. Through vs (length os) l) (both ∙ ap (λ l. os ++ l) (offsets_seen held w.hidden))
    ∙ ap (λ l. Through l (length os) (os ++ map (hidden_operand held) (map hidden_seen w.hidden))) (views ∙ sym (views_back (w.view ∷ w.behind))))
