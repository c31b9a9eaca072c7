-- Copies path by path. A path is led by itself or by an earlier one; so a path that leads is joined by later ones
-- alone, and the guard of its copy holds where that of one of the paths that it leads does.
use Rattle.std.proofs.Common.{◌≡◌, ℕ, zero, suc, ◌+◌, ◌-◌, ◌^◌, ◌<◌, ◌≤◌, ◌⊎◌, inl, inr, ⊎_elim, Bool, true, false, List, [], ◌∷◌, Some, None, refl, sym, ap, ◌∙◌, subst, arith, length, add-one, get_or}
use Rattle.std.specs.Prelude.{◌++◌, ◌==◌, ◌||◌, slice_get, slice_index, slice_set, Option}
use Rattle.std.proofs.lemmas.Bool.{cases_eq, cases_lt}
use Rattle.std.proofs.Math.ListN.{get_or-eq_default}
use Rattle.std.proofs.lemmas.List.{length-append}
use Rattle.dh_value.specs.declared.operators.Op.TheVariants.{Either}
use Rattle.dh_value.specs.declared.words.Word.{Word}
use Rattle.dh_value.specs.Operations.{binary_of, is_true, truth}
use Rattle.dh_tree.specs.PlainTrees.{TermForm}
use Rattle.dh_events.specs.Scopes.{IsLow}
use Rattle.dh_plan.specs.declared.operations.OperationForm.TheVariants.{Compute}
use Rattle.dh_expressions.specs.declared.copies.AccessAt.{AccessAt}
use Rattle.dh_expressions.specs.declared.drafts.Draft.{Draft}
use Rattle.dh_expressions.specs.declared.scenes.Scene.{Scene}
use Rattle.dh_expressions.specs.declared.tallies.Tally.{Tally}
use Rattle.dh_expressions.specs.Copying.{AddsCopies, AddsCopy, AddsEither, AddsLeader, AddsOther, AreCopies, CopiesSoFar, TellsCountedLevels as Flags, DoneBy, HasScopes, IsCopy, JoinsGuards, JoinsLeader, MakesCopiesBy, depends_at, guard_put, with_guard}
use Rattle.dh_expressions.specs.Counting.{IsTally, PlacesNextCopy, places_by}
use Rattle.dh_expressions.specs.Drafted.{BlockBegun, Computes, Extends, FitsStep, Pushes, BlockStep, holds, word_shown, tale}
use Rattle.dh_expressions.specs.Levels.{is_counted_level}
use Rattle.dh_expressions.specs.Shown.{guard_of}
use Rattle.dh_expressions.proofs.CopiesCounted.{Counts, counted_next, tally_first}
use Rattle.dh_expressions.proofs.ListPlaces.{place_of_more, place_within, set_here, set_long, set_other, some_same, there}
use Rattle.dh_expressions.proofs.Pushing.{begun_later, extends_again, extends_self, fits_before}

-- Guards.

truth_back : (t : Bool) → is_true (truth t) ≡ t
truth_back true = refl
truth_back false = refl

or_on : (a b : Bool) → (a ≡ true) ⊎ (b ≡ true) → (a || b) ≡ true
or_on true b h = refl
or_on false b (inl e) = absurd (cc)
or_on false b (inr e) = e

or_by : (a b : Bool) → (a || b) ≡ true → (a ≡ true) ⊎ (b ≡ true)
or_by true b e = inl refl
or_by false b e = inr e

pub either_made : (d e : Draft) (one other n : ℕ) → Pushes d e n None (Compute Either one other) → Computes d e n (λ x. binary_of Either (word_shown x one) (word_shown x other))
    → JoinsGuards d e (Some one) (Some other) (Some n)
either_made d e one other n p c = record {
  adds = (n, (refl, p));
  extends = c.extends;
  quiet = c.quiet;
  none = λ e. absurd (cc);
  on = λ x f b h. same x f b ∙ or_on (is_true (word_shown x one)) (is_true (word_shown x other)) h;
  by = λ x f b h. or_by (is_true (word_shown x one)) (is_true (word_shown x other)) (sym (same x f b) ∙ h);
}
  where
    same : (x : BlockStep) → FitsStep x e → BlockBegun x d → is_true (word_shown x n) ≡ (is_true (word_shown x one) || is_true (word_shown x other))
    same x f b = ap (λ (w : Word). is_true w) (c.is x f b) ∙ truth_back (is_true (word_shown x one) || is_true (word_shown x other))

pub first_always : (d : Draft) (one other : Option ℕ) → one ≡ None → JoinsGuards d d one other None
first_always d one other e = record {
  adds = subst (λ (o : Option ℕ). AddsEither d d o other None) (sym e) (refl, refl);
  extends = extends_self d;
  quiet = λ x f b. refl;
  none = λ h. refl;
  on = λ x f b h. refl;
  by = λ x f b h. inl (subst (λ (g : Option ℕ). holds x g) (sym e) refl);
}

pub second_always : (d : Draft) (one other : Option ℕ) → other ≡ None → JoinsGuards d d one other None
second_always d one other e = record {
  adds = subst (λ (o : Option ℕ). AddsEither d d one o None) (sym e) (by one);
  extends = extends_self d;
  quiet = λ x f b. refl;
  none = λ h. refl;
  on = λ x f b h. refl;
  by = λ x f b h. inr (subst (λ (g : Option ℕ). holds x g) (sym e) refl);
}
  where
    by : (one : Option ℕ) → AddsEither d d one None None
    by None = (refl, refl)
    by (Some one) = (refl, refl)

abbrev guarded_by : AccessAt → Option ℕ → AccessAt
guarded_by c g = record { leader = c.leader; bank = c.bank; place = c.place; guard = g }

pub leader_joined : (d e : Draft) (copies changed : List AccessAt) (leader : ℕ) (guard joined : Option ℕ) (c : AccessAt) → slice_get copies leader ≡ Some c
    → changed ≡ slice_set copies leader (record { leader = c.leader; bank = c.bank; place = c.place; guard = joined })
    → JoinsGuards d e c.guard guard joined → JoinsLeader d e copies changed leader guard
leader_joined d e copies changed leader guard joined c at is j = record {
  extends = j.extends;
  quiet = j.quiet;
  joined = joined;
  changed_is = is ∙ sym (ap (λ o. guard_put o copies leader joined) at);
  joins = λ k other. subst (λ (a : AccessAt). JoinsGuards d e a.guard guard joined) (some_same c k (sym at ∙ other)) j;
}

pub leader_past : (d : Draft) (copies : List AccessAt) (leader : ℕ) (guard : Option ℕ) → length copies ≤ leader → JoinsLeader d d copies copies leader guard
leader_past d copies leader guard past = record {
  extends = extends_self d;
  quiet = λ x f b. refl;
  joined = None;
  changed_is = by (slice_get copies leader) refl;
  joins = λ c at. absurd (never (place_within copies leader c at));
}
  where
    never : leader < length copies → ⊥
    never h = omega (arith, h, past)

    by : (o : Option AccessAt) → slice_get copies leader ≡ o → copies ≡ guard_put o copies leader None
    by None e = refl
    by (Some c) e = absurd (never (place_within copies leader c e))

-- with the guard of one changed, each place has what it had, or is that one
pub guard_place : (copies : List AccessAt) (at k : ℕ) (g : Option ℕ) (z : AccessAt) → slice_get (with_guard copies at g) k ≡ Some z
    → ((slice_get copies k ≡ Some z) × (k ≡ at → ⊥)) ⊎ ((k ≡ at) × ((c : AccessAt) × ((slice_get copies at ≡ Some c) × (z ≡ record { leader = c.leader; bank = c.bank; place = c.place; guard = g }))))
guard_place copies at k g z e = by (slice_get copies at) refl e
  where
    by : (o : Option AccessAt) → slice_get copies at ≡ o → slice_get (guard_put o copies at g) k ≡ Some z
        → ((slice_get copies k ≡ Some z) × (k ≡ at → ⊥)) ⊎ ((k ≡ at) × ((c : AccessAt) × ((slice_get copies at ≡ Some c) × (z ≡ record { leader = c.leader; bank = c.bank; place = c.place; guard = g }))))
    by None there e = inl (e, λ same. absurd (lost (sym (ap (λ n. slice_get copies n) same) ∙ e) there))
      where
        lost : slice_get copies at ≡ Some z → slice_get copies at ≡ None → ⊥
        lost a b = cc
    by (Some c) found e = ⊎_elim
        (λ same. inr (same, (c, (found, sym (some_same (guarded_by c g) z (sym (set_here copies at (guarded_by c g) (place_within copies at c found)) ∙ (ap (λ n. slice_get (slice_set copies at (guarded_by c g)) n) (sym same) ∙ e)))))))
        (λ other. inl (sym (set_other copies at k (guarded_by c g) other) ∙ e, other))
        (cases_eq k at)

pub guard_long : (copies : List AccessAt) (at : ℕ) (g : Option ℕ) → length (with_guard copies at g) ≡ length copies
guard_long copies at g = by (slice_get copies at)
  where
    by : (o : Option AccessAt) → length (guard_put o copies at g) ≡ length copies
    by None = refl
    by (Some c) = set_long copies at _

-- Flags of loops.
pub counts_more : (scene : Scene) (n : ℕ) (form : TermForm) (writes : Bool) (counts more : List Bool) (b : Bool) → (HasScopes scene → IsLow n → b ≡ depends_at scene form writes n)
    → more ≡ counts ++ b ∷ [] → Flags scene n form writes counts → Flags scene (n + 1) form writes more
counts_more scene n form writes counts more b is added h = record {
  long = ap length added ∙ (length-append counts _ ∙ ap (λ m. m + 1) h.long);
  each = λ scopes level within small. ap (λ bs. is_counted_level bs level) added ∙ by scopes level small (cases_lt level n) within;
}
  where
    front : (cs : List Bool) (k : ℕ) → k < length cs → get_or (cs ++ b ∷ []) k false ≡ get_or cs k false
    front [] k within = absurd (none k within)
      where
        none : (k : ℕ) → k < 0 → ⊥
        none k e = omega (arith, e)
    front (x ∷ cs) zero within = refl
    front (x ∷ cs) (suc k) within = front cs k (less k (length cs) within)
      where
        less : (k l : ℕ) → suc k < suc l → k < l
        less k l e = omega (arith, e)

    by : HasScopes scene → (level : ℕ) → IsLow level → (level < n) ⊎ (n ≤ level) → level < n + 1 → is_counted_level (counts ++ b ∷ []) level ≡ depends_at scene form writes level
    by scopes level small (inl before) within = front counts level (subst (λ (m : ℕ). level < m) (sym h.long) before) ∙ h.each scopes level before small
    by scopes level small (inr behind) within =
        let own : level ≡ n = omega (arith, behind, within) in
        ap (λ m. get_or (counts ++ b ∷ []) m false) (own ∙ sym h.long)
        ∙ (last counts ∙ (is scopes (subst (λ (m : ℕ). IsLow m) own small) ∙ ap (λ m. depends_at scene form writes m) (sym own)))
      where
        last : (cs : List Bool) → get_or (cs ++ b ∷ []) (length cs) false ≡ b
        last [] = refl
        last (x ∷ cs) = last cs

-- Steps of the loop over paths.
module _ (leader bank place : ℕ → ℕ) (guards : List (Option ℕ)) where
  pub copies_first : (d : Draft) → CopiesSoFar d d guards leader bank place 0 []
  copies_first d = record {
    adds = (refl, refl);
    extends = extends_self d;
    quiet = λ x f b. refl;
    long = refl;
    are = λ x f b. record { long = refl; each = λ k c e. absurd (lost k c e) };
  }
    where
      lost : (k : ℕ) (c : AccessAt) → slice_get [] k ≡ Some c → ⊥
      lost k c e = cc

  later : (x : BlockStep) (n first : ℕ) → DoneBy x leader guards n first → DoneBy x leader guards (suc n) first
  later x n first d = record { path = d.path; within = let w = d.within in omega (arith, w); leads = d.leads; on = d.on }

  -- the path is one of those before, or the last one
  earlier_or_last : (x : BlockStep) (n first : ℕ) → DoneBy x leader guards (suc n) first → DoneBy x leader guards n first ⊎ ((leader n ≡ first) × holds x (guard_of guards n))
  earlier_or_last x n first d = ⊎_elim (λ same. inr (ap leader (sym same) ∙ d.leads, subst (λ (p : ℕ). holds x (guard_of guards p)) same d.on))
      (λ other. inl (record { path = d.path; within = less d.path other d.within; leads = d.leads; on = d.on })) (cases_eq d.path n)
    where
      less : (p : ℕ) → (p ≡ n → ⊥) → p < suc n → p < n
      less p other w = omega (arith, other, w)

  module _ (low : (p : ℕ) → leader p ≤ p) (old d e : Draft) (n l b q : ℕ) (g : Option ℕ) (copies more : List AccessAt)
      (is : l ≡ leader n) (at : b ≡ bank n) (put : q ≡ place n) (guard : g ≡ guard_of guards n) (h : CopiesSoFar old d guards leader bank place n copies) where
    abbrev placed : Option ℕ → AccessAt
    placed o = record { leader = l; bank = b; place = q; guard = o }

    -- the copies so far and this one
    added : AddsCopy d e copies more n l b q g → AddsCopies leader bank place guards (suc n) old e more
    added s = (
      d,
      (
        copies,
        (
          h.adds,
          subst (λ (o : Option ℕ). AddsCopy d e copies more n (leader n) (bank n) (place n) o) guard
              (subst (λ (m : ℕ). AddsCopy d e copies more n (leader n) (bank n) m g) put
              (subst (λ (m : ℕ). AddsCopy d e copies more n (leader n) m q g) at (subst (λ (m : ℕ). AddsCopy d e copies more n m b q g) is s))),
        ),
      ),
    )

    -- where the path leads itself
    leads_itself : AddsLeader d e copies more n l b q g → CopiesSoFar old e guards leader bank place (suc n) more
    leads_itself s = record {
      adds = added (inl s);
      extends = subst (λ (k : Draft). Extends old k) (sym s.same) h.extends;
      quiet = subst (λ (k : Draft). (x : BlockStep) → FitsStep x k → BlockBegun x old → tale x k ≡ tale x old) (sym s.same) h.quiet;
      long = ap length s.copies_are ∙ (length-append copies _ ∙ (ap (λ m. m + 1) h.long ∙ add-one n));
      are = λ x f s0. record {
        long = ap length s.copies_are ∙ (length-append copies _ ∙ (ap (λ m. m + 1) h.long ∙ add-one n));
        each = λ k c there. copy_at x (subst (λ (k : Draft). FitsStep x k) s.same f) s0 k c (place_of_more copies (placed g) c k (sym (ap (λ cs. slice_get cs k) s.copies_are) ∙ there));
      };
    }
      where
        own : leader n ≡ n
        own = sym is ∙ s.own

        before : (k : ℕ) (c : AccessAt) → slice_get copies k ≡ Some c → leader k ≡ leader n → ⊥
        before k c there same =
            let w = place_within copies k c there in
            let long = h.long in
            let first = low k in
            never k (leader k) w long first (same ∙ own)
          where
            never : (k j : ℕ) → k < length copies → length copies ≡ n → j ≤ k → j ≡ n → ⊥
            never k j w long first same = omega (arith, w, long, first, same)

        newest : (x : BlockStep) → IsCopy x leader bank place guards (suc n) n (placed g)
        newest x = record {
          leader_is = is;
          bank_is = at;
          place_is = put;
          alone = λ other. absurd (other own);
          on = λ done. by done (earlier_or_last x n (leader n) done);
          by = λ same on. record { path = n; within = omega arith; leads = own; on = subst (λ (o : Option ℕ). holds x o) guard on };
        }
          where
            by : DoneBy x leader guards (suc n) (leader n) → DoneBy x leader guards n (leader n) ⊎ ((leader n ≡ leader n) × holds x (guard_of guards n)) → holds x g
            by done (inl d) = absurd (never d.path (leader d.path) d.within (low d.path) (d.leads ∙ own))
              where
                never : (p j : ℕ) → p < n → j ≤ p → j ≡ n → ⊥
                never p j w first same = omega (arith, w, first, same)
            by done (inr p) = subst (λ (o : Option ℕ). holds x o) (sym guard) p.1

        copy_at : (x : BlockStep) → FitsStep x d → BlockBegun x old → (k : ℕ) (c : AccessAt) → (slice_get copies k ≡ Some c) ⊎ ((k ≡ length copies) × (c ≡ placed g)) → IsCopy x leader bank place guards (suc n) k c
        copy_at x f s0 k c (inl there) = record {
          leader_is = kept.leader_is;
          bank_is = kept.bank_is;
          place_is = kept.place_is;
          alone = kept.alone;
          on = λ done. by (earlier_or_last x n (leader k) done);
          by = λ same on. later x n k (kept.by same on);
        }
          where
            kept : IsCopy x leader bank place guards n k c
            kept = (h.are x f s0).each k c there

            by : DoneBy x leader guards n (leader k) ⊎ ((leader n ≡ leader k) × holds x (guard_of guards n)) → holds x c.guard
            by (inl d) = kept.on d
            by (inr p) = absurd (before k c there (sym p.0))
        copy_at x f s0 k c (inr p) = subst (λ (m : ℕ). IsCopy x leader bank place guards (suc n) m c) (sym (p.0 ∙ h.long)) (subst (λ (a : AccessAt). IsCopy x leader bank place guards (suc n) n a) (sym p.1) (newest x))

    -- where an earlier path leads it
    is_led : AddsOther d e copies more n l b q g → CopiesSoFar old e guards leader bank place (suc n) more
    is_led s = record {
      adds = added (inr s);
      extends = extends_again old d e h.extends s.joins.extends;
      quiet = λ x f s0. s.joins.quiet x f (begun_later old d x h.extends s0) ∙ h.quiet x (fits_before d e x s.joins.extends f) s0;
      long = long_now;
      are = λ x f s0. record {
        long = long_now;
        each = λ k c there. copy_at x f s0 k c (place_of_more s.changed (placed None) c k (sym (ap (λ cs. slice_get cs k) s.copies_are) ∙ there));
      };
    }
      where
        other : leader n ≡ n → ⊥
        other same = s.other (is ∙ same)

        changed_long : length s.changed ≡ n
        changed_long = ap length s.joins.changed_is ∙ (guard_long copies l s.joins.joined ∙ h.long)

        long_now : length more ≡ suc n
        long_now = ap length s.copies_are ∙ (length-append s.changed _ ∙ (ap (λ m. m + 1) changed_long ∙ add-one n))

        place_changed : (k : ℕ) (c : AccessAt) → slice_get s.changed k ≡ Some c
            → ((slice_get copies k ≡ Some c) × (k ≡ l → ⊥)) ⊎ ((k ≡ l) × ((a : AccessAt) × ((slice_get copies l ≡ Some a) × (c ≡ record { leader = a.leader; bank = a.bank; place = a.place; guard = s.joins.joined }))))
        place_changed k c there = guard_place copies l k s.joins.joined c (sym (ap (λ cs. slice_get cs k) s.joins.changed_is) ∙ there)

        newest : (x : BlockStep) → IsCopy x leader bank place guards (suc n) n (placed None)
        newest x = record {
          leader_is = is;
          bank_is = at;
          place_is = put;
          alone = λ apart. refl;
          on = λ done. refl;
          by = λ same on. absurd (other same);
        }

        stays : (x : BlockStep) → FitsStep x e → BlockBegun x old → (k : ℕ) (c : AccessAt) → slice_get copies k ≡ Some c → (k ≡ l → ⊥) → IsCopy x leader bank place guards (suc n) k c
        stays x f s0 k c there apart = record {
          leader_is = kept.leader_is;
          bank_is = kept.bank_is;
          place_is = kept.place_is;
          alone = kept.alone;
          on = λ done. by (earlier_or_last x n (leader k) done);
          by = λ same on. later x n k (kept.by same on);
        }
          where
            kept : IsCopy x leader bank place guards n k c
            kept = (h.are x (fits_before d e x s.joins.extends f) s0).each k c there

            by : DoneBy x leader guards n (leader k) ⊎ ((leader n ≡ leader k) × holds x (guard_of guards n)) → holds x c.guard
            by (inl d) = kept.on d
            by (inr p) = subst (λ (o : Option ℕ). holds x o) (sym (kept.alone (λ leads. apart (sym leads ∙ (sym p.0 ∙ sym is))))) refl

        joined : (x : BlockStep) → FitsStep x e → BlockBegun x old → (a : AccessAt) → slice_get copies l ≡ Some a
            → IsCopy x leader bank place guards (suc n) l (record { leader = a.leader; bank = a.bank; place = a.place; guard = s.joins.joined })
        joined x f s0 a there = record {
          leader_is = kept.leader_is;
          bank_is = kept.bank_is;
          place_is = kept.place_is;
          alone = λ apart. j.none (kept.alone apart);
          on = λ done. by (earlier_or_last x n (leader l) done);
          by = λ same on. back same (j.by x f sd on);
        }
          where
            sd : BlockBegun x d
            sd = begun_later old d x h.extends s0

            kept : IsCopy x leader bank place guards n l a
            kept = (h.are x (fits_before d e x s.joins.extends f) s0).each l a there

            j : JoinsGuards d e a.guard g s.joins.joined
            j = s.joins.joins a there

            by : DoneBy x leader guards n (leader l) ⊎ ((leader n ≡ leader l) × holds x (guard_of guards n)) → holds x s.joins.joined
            by (inl d) = j.on x f sd (inl (kept.on d))
            by (inr p) = j.on x f sd (inr (subst (λ (o : Option ℕ). holds x o) (sym guard) p.1))

            back : leader l ≡ l → holds x a.guard ⊎ holds x g → DoneBy x leader guards (suc n) l
            back same (inl on) = later x n l (kept.by same on)
            back same (inr on) = record { path = n; within = omega arith; leads = sym is; on = subst (λ (o : Option ℕ). holds x o) guard on }

        copy_at : (x : BlockStep) → FitsStep x e → BlockBegun x old → (k : ℕ) (c : AccessAt) → (slice_get s.changed k ≡ Some c) ⊎ ((k ≡ length s.changed) × (c ≡ placed None)) → IsCopy x leader bank place guards (suc n) k c
        copy_at x f s0 k c (inl there) = by (place_changed k c there)
          where
            by : ((slice_get copies k ≡ Some c) × (k ≡ l → ⊥)) ⊎ ((k ≡ l) × ((a : AccessAt) × ((slice_get copies l ≡ Some a) × (c ≡ record { leader = a.leader; bank = a.bank; place = a.place; guard = s.joins.joined })))) → IsCopy x leader bank place guards (suc n) k c
            by (inl p) = stays x f s0 k c p.0 p.1
            by (inr p) = subst (λ (m : ℕ). IsCopy x leader bank place guards (suc n) m c) (sym p.0) (subst (λ (a : AccessAt). IsCopy x leader bank place guards (suc n) l a) (sym p.1.1.1) (joined x f s0 p.1.0 p.1.1.0))
        copy_at x f s0 k c (inr p) = subst (λ (m : ℕ). IsCopy x leader bank place guards (suc n) m c) (sym (p.0 ∙ changed_long)) (subst (λ (a : AccessAt). IsCopy x leader bank place guards (suc n) n a) (sym p.1) (newest x))

    pub copies_more : AddsCopy d e copies more n l b q g → CopiesSoFar old e guards leader bank place (n + 1) more
    copies_more s = subst (λ (m : ℕ). CopiesSoFar old e guards leader bank place m more) (sym (add-one n)) (by s)
      where
        by : AddsCopy d e copies more n l b q g → CopiesSoFar old e guards leader bank place (suc n) more
        by (inl s) = leads_itself s
        by (inr s) = is_led s

pub copies_made : (leader bank group : ℕ → ℕ) (guards : List (Option ℕ)) (old d : Draft) (after : List ℕ) (n : ℕ) (copies : List AccessAt) → n ≡ length guards
    → CopiesSoFar old d guards leader bank (places_by leader bank group) n copies → after ≡ [] → MakesCopiesBy old d after guards leader bank group copies
copies_made leader bank group guards old d after n copies all h none = record {
  adds = subst (λ (m : ℕ). AddsCopies leader bank (places_by leader bank group) guards m old d copies) all h.adds;
  extends = h.extends;
  quiet = h.quiet;
  none = λ b. ap (λ ns. slice_index ns b) none ∙ empty b;
  are = λ x f s. subst (λ (m : ℕ). AreCopies x leader bank (places_by leader bank group) guards m copies) all (h.are x f s);
}
  where
    empty : (b : ℕ) → slice_index [] b ≡ 0
    empty b = let past : length {A = ℕ} [] ≤ b = omega arith in get_or-eq_default [] 0 past

-- The copies so far, and how they are counted.
pub record CountedSoFar (leader bank group : ℕ → ℕ) (guards : List (Option ℕ)) (old d : Draft) (t : Tally) (numbers : List ℕ) (n : ℕ) (copies : List AccessAt) : Type 0 where
  pub copied : CopiesSoFar old d guards leader bank (places_by leader bank group) n copies
  pub tally : IsTally leader bank group n t numbers

pub counted_first : (leader bank group : ℕ → ℕ) (guards : List (Option ℕ)) (d : Draft) (t : Tally) (numbers : List ℕ) (copies : List AccessAt)
    → t ≡ record { group = 0; base = 0; most = 0 } → numbers ≡ [] → copies ≡ [] → CountedSoFar leader bank group guards d d t numbers 0 copies
counted_first leader bank group guards d t numbers copies is empty none = record {
  copied = subst (λ (cs : List AccessAt). CopiesSoFar d d guards leader bank (places_by leader bank group) 0 cs) (sym none) (copies_first leader bank (places_by leader bank group) guards d);
  tally = tally_first leader bank group t numbers is empty;
}

pub counted_more : (leader bank group : ℕ → ℕ) (guards : List (Option ℕ)) (low : (p : ℕ) → leader p ≤ p) (rises : (m k : ℕ) → m ≤ k → group m ≤ group k) (old d e : Draft) (t next : Tally) (numbers after : List ℕ) (n l b g q : ℕ) (leads : Bool) (guard : Option ℕ)
    (copies more : List AccessAt) (few : n < 2 ^ 64 - 1) → l ≡ leader n → b ≡ bank n → g ≡ group n → leads ≡ (l == n) → guard ≡ guard_of guards n
    → PlacesNextCopy t g b leads numbers after next q → AddsCopy d e copies more n l b q guard → CountedSoFar leader bank group guards old d t numbers n copies
    → CountedSoFar leader bank group guards old e next after (n + 1) more
counted_more leader bank group guards low rises old d e t next numbers after n l b g q leads guard copies more few is at grouped leading guarded placed adds h = record {
  copied = copies_more leader bank (places_by leader bank group) guards low old d e n l b q guard copies more is at counted.place_is guarded h.copied adds;
  tally = subst (λ (m : ℕ). IsTally leader bank group m next after) (sym (add-one n)) counted.tally;
}
  where
    counted : Counts leader bank group n few rises next after q
    counted = counted_next leader bank group n few rises t next numbers after q l b g leads is at grouped leading h.tally placed
