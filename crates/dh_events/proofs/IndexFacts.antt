-- What is known of indices and one more.
use Rattle.std.proofs.Common.{◌≡◌, ℕ, List, max, refl, ap, sym, ◌∙◌, subst, arith, inl, inr}
use Rattle.std.specs.Prelude.{Option, Some, None, option_map}
use Rattle.dh_tree.specs.PlainTrees.{Term, Terms, no_terms, term_then}
use Rattle.dh_events.specs.declared.structures.Structure.{Structure}
use Rattle.dh_events.specs.declared.structures.MaybeKind.TheVariants as sort
use Rattle.dh_events.specs.declared.structures.Form.TheVariants as form
use Rattle.dh_events.specs.declared.known.Known.{Known}
use Rattle.dh_events.specs.Structures.{StructureStands, Describes, DescribesFrom, DescribesAll, IsNameless, AnyNameless, newest_in, newest_behind}
use Rattle.dh_events.specs.Elements.{IsNumberOf, IsKnown, AreKnown, AreKnownSoFar, FormIsNumbered, MakesFrom, MakesIndex, both_known, terms_behind}
use Rattle.dh_events.proofs.ElementFacts.{describes_still, from_still}

absurd : {A : Type 0} → ⊥ → A
absurd e = elim e [ ]

-- one more index behind those of a number
from_more : (known : List Structure) (b0 : Option ℕ) (us : Terms) (u t : Term) (b l n : ℕ) → DescribesFrom known b0 (term_then u us) b → Describes known l t → StructureStands known n sort.Unknown (form.Index (Some b) l) → DescribesFrom known b0 (terms_behind (term_then u us) t) n
from_more known b0 no_terms u t b l n (l1, (m1, (d1, (s1, e)))) d s =
    (l1, (m1, (d1, (s1, (l, (n, (d, (subst (λ (x : ℕ). StructureStands known n sort.Unknown (form.Index (Some x) l)) (sym e) s, refl))))))))
from_more known b0 (term_then v us) u t b l n (l1, (m1, (d1, (s1, r)))) d s = (l1, (m1, (d1, (s1, from_more known (Some m1) us v t b l n r d s))))

newest_more : (clocks : ℕ → ℕ) (b : ℕ) (ts : Terms) (t : Term) → newest_behind clocks b (terms_behind ts t) ≡ max (newest_behind clocks b ts) (newest_in clocks t)
newest_more clocks b no_terms t = refl
newest_more clocks b (term_then u ts) t = newest_more clocks (max b (newest_in clocks u)) ts t

any_first : (ts : Terms) (t : Term) → AnyNameless ts → AnyNameless (terms_behind ts t)
any_first no_terms t i = absurd i
any_first (term_then u ts) t (inl i) = inl i
any_first (term_then u ts) t (inr i) = inr (any_first ts t i)

any_last : (ts : Terms) (t : Term) → IsNameless t → AnyNameless (terms_behind ts t)
any_last no_terms t i = inl i
any_last (term_then u ts) t i = inr (any_last ts t i)

only : (x : ℕ) → x ≡ max 0 x
only x = grind arith

module _ (old new : List Structure) where
  pub first_index_made : (last k : Known) → MakesFrom old new sort.Unknown (option_map (λ n. form.Index None n) last.structure) last.newest k → MakesIndex old new None last k
  first_index_made last k m = record {
    extends = m.extends;
    known = λ clocks ts t e i. subst (λ (x : Terms). AreKnown new clocks (terms_behind x t) k) (sym e) (record { number = told last.structure k.structure t i.number m.made; newest = m.same ∙ (i.newest ∙ only (newest_in clocks t)) });
  }
    where
      told : (a c : Option ℕ) (t : Term) → IsNumberOf (λ n. Describes old n) IsNameless a t → FormIsNumbered new sort.Unknown (option_map (λ n. form.Index None n) a) c → IsNumberOf (λ n. DescribesAll new n) AnyNameless c (term_then t no_terms)
      told None None t i d = inl i
      told None (Some n) t i d = absurd d
      told (Some l) None t i d = absurd d
      told (Some l) (Some n) t i d = (l, (n, (describes_still old new m.extends l t i, (d, refl))))

  pub next_index_made : (before last k : Known) → MakesFrom old new sort.Unknown (both_known before.structure last.structure (λ b n. form.Index (Some b) n)) (max before.newest last.newest) k → MakesIndex old new (Some before) last k
  next_index_made before last k m = record { extends = m.extends; known = λ clocks ts t i h. by_terms clocks ts t i h }
    where
      told : (us : Terms) (u : Term) (a b c : Option ℕ) (t : Term) → IsNumberOf (λ n. DescribesAll old n) AnyNameless a (term_then u us) → IsNumberOf (λ n. Describes old n) IsNameless b t
          → FormIsNumbered new sort.Unknown (both_known a b (λ b n. form.Index (Some b) n)) c → IsNumberOf (λ n. DescribesAll new n) AnyNameless c (terms_behind (term_then u us) t)
      told us u None b None t i h d = any_first (term_then u us) t i
      told us u None b (Some n) t i h d = absurd d
      told us u (Some l) None None t i h d = any_last (term_then u us) t h
      told us u (Some l) None (Some n) t i h d = absurd d
      told us u (Some l) (Some r) None t i h d = absurd d
      told us u (Some l) (Some r) (Some n) t i h d = from_more new None us u t l r n (from_still old new m.extends None (term_then u us) l i) (describes_still old new m.extends r t h) d

      by_terms : (clocks : ℕ → ℕ) (ts : Terms) (t : Term) → AreKnownSoFar old clocks ts (Some before) → IsKnown old clocks t last → AreKnown new clocks (terms_behind ts t) k
      by_terms clocks no_terms t i h = absurd i
      by_terms clocks (term_then u us) t i h = record {
        number = told us u before.structure last.structure k.structure t i.number h.number m.made;
        newest = m.same ∙ (ap (λ x. max x last.newest) i.newest ∙ (ap (λ x. max (newest_behind clocks 0 (term_then u us)) x) h.newest ∙ sym (newest_more clocks 0 (term_then u us) t)));
      }
