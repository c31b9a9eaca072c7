-- Only accesses of an expression are touched by its operations: by recursion on the expression.
use Rattle.std.proofs.Common.{◌≡◌, ℕ, suc, ◌+◌, ◌^◌, ◌<◌, ◌≤◌, ◌⊎◌, inl, inr, ⊎_elim, List, Some, None, refl, sym, ap, ◌∙◌, subst, arith}
use Rattle.std.specs.Prelude.{Option}
use Rattle.dh_base.specs.declared.places.Place.{Place}
use Rattle.dh_value.specs.declared.kinds.Kind.{Kind}
use Rattle.dh_value.specs.declared.operators.Op.{Op}
use Rattle.dh_tree.specs.declared.trees.expressions.Ref.{Ref}
use Rattle.dh_tree.specs.PlainTrees as plain
use Rattle.dh_meaning.specs.AccessNumbers.{term_accesses, terms_accesses}
use Rattle.dh_expressions.specs.declared.accesses.Accesses.{Accesses}
use Rattle.dh_expressions.specs.declared.accesses.Touched.{Touched}
use Rattle.dh_expressions.specs.declared.drafts.Draft.{Draft}
use Rattle.dh_expressions.specs.declared.elements.Aim.{Aim}
use Rattle.dh_expressions.specs.declared.scenes.Around.{Around}
use Rattle.dh_expressions.specs.declared.scenes.Lane.{Lane}
use Rattle.dh_expressions.specs.declared.scenes.Scene.{Scene}
use Rattle.dh_expressions.specs.MadeTerms.{MadeRead, MadeTerm, MadeTerms}
use Rattle.dh_expressions.specs.Noted.{Notes, noted_in, touched_in}
use Rattle.dh_expressions.specs.Standings.{AccessStanding}
use Rattle.dh_expressions.specs.Touching.{TouchesAt}
use Rattle.dh_expressions.proofs.AccessesKept.{place_noted}
use Rattle.dh_formed.specs.Commanded.{WritesTouchOwn}
use Rattle.dh_formed.proofs.TermsFormed.{all_numbered, numbered}

touch_other : (scene : Scene) (around : Around) (s : AccessStanding) (old new : Draft) (before after : Accesses) (number m : ℕ) → TouchesAt scene around s old new before after number → (m ≡ number → ⊥)
    → touched_in after m ≡ touched_in before m
touch_other scene around s old new before after number m t other = by (touched_in before m) refl
  where
    fresh : (o : Option Touched) → touched_in after m ≡ o → touched_in before m ≡ None → o ≡ None
    fresh None e none = refl
    fresh (Some u) e none = ⊎_elim (λ old_one. absurd (lost u (sym none ∙ old_one))) (λ own. absurd (other own.own)) (t.known m u e)
      where
        lost : (u : Touched) → None ≡ Some u → ⊥
        lost u e = cc

    by : (o : Option Touched) → touched_in before m ≡ o → touched_in after m ≡ touched_in before m
    by None e = fresh (touched_in after m) refl e ∙ sym e
    by (Some u) e = t.kept m u e ∙ sym e

notes_other : (before after : Accesses) (number path value m : ℕ) → Notes before after number path value → (m ≡ number → ⊥) → touched_in after m ≡ touched_in before m
notes_other before after number path value m h other = by (place_noted before after number path value h m)
  where
    by : (touched_in after m ≡ touched_in before m) ⊎ ((m ≡ number) × (touched_in after m ≡ noted_in (touched_in before m) path value)) → touched_in after m ≡ touched_in before m
    by (inl same) = same
    by (inr p) = absurd (other p.0)

pub writes_touch_own : WritesTouchOwn
writes_touch_own scene lane access memory aim value old new before after w m other = touch_other scene lane.around _ old w.first before after aim.number m w.touches other

module _ (scene : Scene) (lane : Lane) (current : List (Option ℕ)) where
  read_other : (access : plain.Term) (memory : ℕ) (aim : Aim) (old new : Draft) (before after : Accesses) (v m : ℕ) → MadeRead scene lane access memory aim old new before after v → (m ≡ aim.number → ⊥)
      → touched_in after m ≡ touched_in before m
  read_other access memory aim old new before after v m r other =
      notes_other r.middle after aim.number lane.number v m r.notes other ∙ touch_other scene lane.around _ old r.first before r.middle aim.number m r.touches other

  abbrev Outside : (n count m : ℕ) → Type 0
  Outside n count m = (m < n) ⊎ (n + count ≤ m)

  outside_first : (n a b m : ℕ) → Outside n (a + b) m → Outside n a m
  outside_first n a b m (inl less) = inl less
  outside_first n a b m (inr more) = inr (omega (arith, more))

  outside_second : (n a b m : ℕ) → Outside n (a + b) m → Outside (n + a) b m
  outside_second n a b m (inl less) = inl (omega (arith, less))
  outside_second n a b m (inr more) = inr (omega (arith, more))

  outside_part : (n a m : ℕ) → Outside n (suc a) m → Outside n a m
  outside_part n a m (inl less) = inl less
  outside_part n a m (inr more) = inr (omega (arith, more))

  outside_own : (n a m number : ℕ) → number ≡ n + a → Outside n (suc a) m → m ≡ number → ⊥
  outside_own n a m number is (inl less) same = omega (arith, is, less, same)
  outside_own n a m number is (inr more) same = omega (arith, is, more, same)

  abbrev Own : plain.Term → Type 0
  Own t = (old new : Draft) (before after : Accesses) (n next v : ℕ) → MadeTerm scene lane current t old new before after n next v → n + term_accesses t < 2 ^ 32 → (m : ℕ) → Outside n (term_accesses t) m
      → touched_in after m ≡ touched_in before m

  abbrev AllOwn : plain.Terms → Type 0
  AllOwn ts = (old new : Draft) (before after : Accesses) (n next : ℕ) (vs : List ℕ) → MadeTerms scene lane current ts old new before after n next vs → n + terms_accesses ts < 2 ^ 32 → (m : ℕ) → Outside n (terms_accesses ts) m
      → touched_in after m ≡ touched_in before m

  same_own : (before after : Accesses) (m : ℕ) → after ≡ before → touched_in after m ≡ touched_in before m
  same_own before after m same = ap (λ (a : Accesses). touched_in a m) same

  two_own : (place : Place) (k : Option Kind) (o : Op) (x y : plain.Term) → Own x → Own y → Own (plain.term place k (plain.applied o x y))
  two_own place k o x y one two old new before after n next v p few m out =
      two p.middle p.end p.between after (n + term_accesses x) next p.b
      (subst (λ (i : ℕ). MadeTerm scene lane current y p.middle p.end p.between after i next p.b) (numbered scene lane current x old p.middle before p.between n p.own p.a p.first (omega (arith, few))) p.second)
      (omega (arith, few)) m (outside_second n (term_accesses x) (term_accesses y) m out)
      ∙ one old p.middle before p.between n p.own p.a p.first (omega (arith, few)) m (outside_first n (term_accesses x) (term_accesses y) m out)

  then_own : (t : plain.Term) (ts : plain.Terms) → Own t → AllOwn ts → AllOwn (plain.term_then t ts)
  then_own t ts one rest old new before after n next vs p few m out =
      rest p.middle new p.between after (n + term_accesses t) next p.more
      (subst (λ (i : ℕ). MadeTerms scene lane current ts p.middle new p.between after i next p.more) (numbered scene lane current t old p.middle before p.between n p.own p.a p.first (omega (arith, few))) p.rest)
      (omega (arith, few)) m (outside_second n (term_accesses t) (terms_accesses ts) m out)
      ∙ one old p.middle before p.between n p.own p.a p.first (omega (arith, few)) m (outside_first n (term_accesses t) (terms_accesses ts) m out)

  access_own : (place : Place) (k : Option Kind) (r : Ref) (ts : plain.Terms) → AllOwn ts → Own (plain.term place k (plain.accessed r ts))
  access_own place k r ts all old new before after n next v p few m out =
      read_other _ _ p.aim p.middle new p.between after v m p.reads
      (outside_own n (terms_accesses ts) m p.aim.number (all_numbered scene lane current ts old p.named before p.between n p.aim.number p.aim.indices p.indices (omega (arith, few))) out)
      ∙ all old p.named before p.between n p.aim.number p.aim.indices p.indices (omega (arith, few)) m (outside_part n (terms_accesses ts) m out)

  bank_own : (place : Place) (k : Option Kind) (r : Ref) (bank : ℕ) (at : Place) (t : plain.Term) → Own t → Own (plain.term place k (plain.in_bank r bank at t))
  bank_own place k r bank at t one old new before after n next v p few m out =
      read_other _ _ p.aim p.middle new p.between after v m p.reads
      (outside_own n (term_accesses t) m p.aim.number (numbered scene lane current t old p.middle before p.between n p.aim.number p.value p.row (omega (arith, few))) out)
      ∙ one old p.middle before p.between n p.aim.number p.value p.row (omega (arith, few)) m (outside_part n (term_accesses t) m out)

  mutual
    pub touched_own : (t : plain.Term) → Own t
    touched_own (plain.term place k (plain.number negative z)) = λ old new before after n next v p few m out. same_own before after m p.same
    touched_own (plain.term place k (plain.truth_value b)) = λ old new before after n next v p few m out. same_own before after m p.same
    touched_own (plain.term place k (plain.named r)) = λ old new before after n next v p few m out. same_own before after m p.same
    touched_own (plain.term place k (plain.accessed r ts)) = access_own place k r ts (all_touched_own ts)
    touched_own (plain.term place k (plain.in_bank r bank at t)) = bank_own place k r bank at t (touched_own t)
    touched_own (plain.term place k (plain.applied o x y)) = two_own place k o x y (touched_own x) (touched_own y)
    touched_own (plain.term place k (plain.converted inner to)) = λ old new before after n next v p few m out. touched_own inner old p.middle before after n next p.a p.operand few m out

    pub all_touched_own : (ts : plain.Terms) → AllOwn ts
    all_touched_own plain.no_terms = λ old new before after n next vs p few m out. same_own before after m p.same
    all_touched_own (plain.term_then t ts) = then_own t ts (touched_own t) (all_touched_own ts)
