-- Ports are spent at one place, and nowhere where they are kept; and the first breach of the rules on ports
-- is one.
use Rattle.std.proofs.Common.{◌≡◌, ℕ, ◌<◌, ◌≤◌, inl, inr, [], ◌∷◌, Option, Some, None, option_map, ap, sym, ◌∙◌, subst, arith, Contains, zero, suc}
use Rattle.std.specs.Prelude.{slice_get}
use Rattle.std.proofs.lemmas.Bool.{cases_lt}
use Rattle.dh_base.specs.declared.places.Place.{Place}
use Rattle.dh_tree.specs.declared.breaches.Breach.{Breach}
use Rattle.dh_tree.specs.LeastBreach.{IsLeast}
use Rattle.dh_tree.specs.Meets.{In}
use Rattle.dh_tree.specs.PlainTrees.{Program}
use Rattle.dh_meets.specs.MayMeet.{meets_in}
use Rattle.dh_meets.specs.Ports.{place_in, KeepsPorts, PortsSpent, IsPortBreach, IsFirstPortBreach, KeepsPortRules}
use Rattle.dh_meets.specs.SourceEvents.{SourceAccess, accesses_in, trace}
use Rattle.dh_tree.proofs.FirstBreaches.{least_is_one}
use Rattle.dh_ports.proofs.Wholes.{whole, access_in}

there_is : (o : Option SourceAccess) (place : Place) → option_map (λ a. a.place) o ≡ Some place → (a : SourceAccess) × (o ≡ Some a)
there_is None place e = cc
there_is (Some a) place e = (a, refl_of (Some a))
  where
    refl_of : (o : Option SourceAccess) → o ≡ o
    refl_of o = cc

one_place : (o : Option Place) (a b : Place) → o ≡ Some a → o ≡ Some b → a ≡ b
one_place o a b e f = let both : Some a ≡ Some b = sym e ∙ f in cc

module _ (p : Program) where
  stands_in : (k : ℕ) (place : Place) → place_in p k ≡ Some place → In k (meets_in p)
  stands_in k place e = let found = there_is (slice_get (accesses_in (trace p)) k) place e in access_in p k found.0 found.1

  pub spent_once : (a b : Place) → PortsSpent p a → PortsSpent p b → a ≡ b
  spent_once a b s t =
      elim (cases_lt s.number t.number) [
        | inl less ↦ absurd (t.first s.number ((whole p).behind s.number t.number (stands_in s.number a s.stands) (stands_in t.number b t.stands) less) s.spent)
        | inr more ↦ elim (cases_lt t.number s.number) [
          | inl less ↦ absurd (s.first t.number ((whole p).behind t.number s.number (stands_in t.number b t.stands) (stands_in s.number a s.stands) less) t.spent)
          | inr most ↦ one_place (place_in p t.number) a b (ap (place_in p) (equal t.number s.number more most) ∙ s.stands) t.stands
        ]
      ]
    where
      equal : (m n : ℕ) → m ≤ n → n ≤ m → m ≡ n
      equal m n e f = omega (arith, e, f)

  pub kept_not_spent : (place : Place) → KeepsPorts p → PortsSpent p place → ⊥
  kept_not_spent place k s = beyond_none _ _ (k s.spent.chosen s.spent.completes.together s.spent.memory s.spent.bank) s.spent.beyond
    where
      beyond_none : (m n : ℕ) → m ≤ n → n < m → ⊥
      beyond_none m n e f = omega (arith, e, f)

  -- of two breaches that are first each is the least of both
  least_of_both : (b c d : Breach) → IsFirstPortBreach p b → IsFirstPortBreach p c → IsFirstPortBreach p d → Contains (b ∷ c ∷ []) d → IsLeast (b ∷ c ∷ []) d
  least_of_both b c d h i j among = record { among = among; least = λ o x before. j.first o (breaks o x) before }
    where
      breaks : (o : Breach) → Contains (b ∷ c ∷ []) o → IsPortBreach p o
      breaks o (zero, l, e) = subst (λ (x : Breach). IsPortBreach p x) e h.breaks
      breaks o (suc zero, l, e) = subst (λ (x : Breach). IsPortBreach p x) e i.breaks
      breaks o (suc (suc k), l, e) = absurd (none k l)
        where
          none : (k : ℕ) → suc (suc k) < 2 → ⊥
          none k e = omega (arith, e)

  pub one_first : (b c : Breach) → IsFirstPortBreach p b → IsFirstPortBreach p c → b ≡ c
  one_first b c h i = least_is_one (b ∷ c ∷ []) b c (least_of_both b c b h i h (0, omega arith, at_first b)) (least_of_both b c c h i i (1, omega arith, at_first c))
    where
      at_first : (b : Breach) → b ≡ b
      at_first b = cc

  pub none_first : (b : Breach) → KeepsPortRules p → IsFirstPortBreach p b → ⊥
  none_first b k h = elim h.breaks [ inl s ↦ kept_not_spent b.place k.ports s.1 | inr r ↦ k.order b.place r.1 ]
