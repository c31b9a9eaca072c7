-- When reads are there: one clock behind their indices and the tests round them. The guard of a copy that leads is
-- there when the tests are, since so are those of all paths.
use Rattle.std.proofs.Common.{◌≡◌, ℕ, zero, suc, ◌+◌, ◌^◌, ◌<◌, ◌≤◌, ◌⊎◌, inl, inr, ⊎_elim, true, false, List, Some, None, refl, sym, ap, ◌∙◌, subst, arith, length, map}
use Rattle.std.specs.Prelude.{Bool as Truth, [], ◌∷◌, ◌++◌, max, slice_get, Option}
use Rattle.std.proofs.lemmas.Bool.{cases_eq}
use Rattle.dh_value.specs.declared.operators.Op.TheVariants as op
use Rattle.dh_value.specs.declared.kinds.Kind.{Kind}
use Rattle.dh_tree.specs.Indices.{form_of}
use Rattle.dh_tree.specs.PlainTrees as plain
use Rattle.dh_meaning.specs.Core.{Reach}
use Rattle.dh_meaning.specs.Levels.{Leveled, read_leveled}
use Rattle.dh_plan.specs.declared.operations.Operation.{Operation}
use Rattle.dh_plan.specs.declared.operations.OperationForm.{OperationForm}
use Rattle.dh_plan.specs.declared.operations.OperationForm.TheVariants.{Probe, Read, Write}
use Rattle.dh_plan.specs.LegalSchedules.{greatest_number}
use Rattle.dh_plan.specs.Ordered.{one_or_none, operation_takes, reach_takes}
use Rattle.dh_expressions.specs.declared.accesses.Accesses.{Accesses}
use Rattle.dh_expressions.specs.declared.accesses.Touched.{Touched}
use Rattle.dh_expressions.specs.declared.copies.AccessAt.{AccessAt}
use Rattle.dh_expressions.specs.declared.drafts.Draft.{Draft}
use Rattle.dh_expressions.specs.declared.elements.Aim.{Aim}
use Rattle.dh_expressions.specs.declared.scenes.Around.{Around}
use Rattle.dh_expressions.specs.declared.scenes.Lane.{Lane}
use Rattle.dh_expressions.specs.declared.scenes.Scene.{Scene}
use Rattle.dh_expressions.specs.Copying.{AddsCopies, AddsCopy, AddsEither, AddsLeader, AddsOther, HasScopes, JoinsLeader}
use Rattle.dh_formed.specs.Counted.{ExpressionBegins, given_at_paths}
use Rattle.dh_expressions.specs.Drafted.{Extends, Pushes}
use Rattle.dh_expressions.specs.Evaluated.{lane_guard, source_at}
use Rattle.dh_formed.specs.Formed.{AccessSuits, IsLaidAccess, IsScope, ReadSuits, BlockSite}
use Rattle.dh_expressions.specs.MadeTerms.{MadeRead, MadeWrite}
use Rattle.dh_expressions.specs.Noted.{Notes, copied_in, copied_of, copy_or_alone, fault_in, given_by, given_in, given_to, noted_in, touched_in}
use Rattle.dh_expressions.specs.Reaching.{Finds, copy_banks, place_written, reach_told}
use Rattle.dh_expressions.specs.Shown.{guard_of, guard_or_none}
use Rattle.dh_expressions.specs.Standings.{AccessStanding, copy_places, standing_at}
use Rattle.dh_formed.specs.Timed.{AgreeInTime, BlockClocks, GuardAt, HasClock, NotedInTime, ReadsAgree, StartedInTime, TimesTerm, TimesValue, Within, clock_of}
use Rattle.dh_expressions.specs.Touching.{AddsTouched, IsNew, TouchesAt}
use Rattle.dh_formed.proofs.AccessesFormed.{FormsTouch, touch_notes}
use Rattle.dh_expressions.proofs.AccessesKept.{named_extends, noted_given, noted_touched, place_noted}
use Rattle.dh_formed.proofs.CopiesFormed.{copies_forms}
use Rattle.dh_expressions.proofs.CopiesMade.{guard_long, guard_place}
use Rattle.dh_formed.proofs.ElementsFormed.{found_extends}
use Rattle.dh_formed.proofs.LevelsBehind.{read_alone, read_shares, value_here, value_other}
use Rattle.dh_expressions.proofs.ListPlaces.{place_of_more, some_same, there}
use Rattle.dh_expressions.proofs.Pushing.{extends_again, pushed_extends}
use Rattle.dh_formed.proofs.ReadsCounted.{given_here, given_past, touch_gives}
use Rattle.dh_formed.proofs.ValuesFormed.{agrees_before}
use Rattle.dh_formed.proofs.ValuesTimed.{agree_before, compute_timed, pushed_clock, pushed_within, time_later, within_again, within_more, within_none}

-- The greatest of clocks.

pub greatest_append : (f : ℕ → ℕ) (xs ys : List ℕ) → greatest_number (map f (xs ++ ys)) ≡ max (greatest_number (map f xs)) (greatest_number (map f ys))
greatest_append f [] ys = least (greatest_number (map f ys))
  where
    least : (n : ℕ) → n ≡ max 0 n
    least n = omega arith
greatest_append f (x ∷ xs) ys = again (f x) (greatest_number (map f (xs ++ ys))) (greatest_number (map f xs)) (greatest_number (map f ys)) (greatest_append f xs ys)
  where
    again : (a w m n : ℕ) → w ≡ max m n → max a w ≡ max (max a m) n
    again a w m n e = omega (arith, e)

-- Guards.

module _ (c : BlockClocks) (outer : ℕ) where
  abbrev pub GuardsAt : List (Option ℕ) → Type 0
  GuardsAt guards = (path : ℕ) (guard : Option ℕ) → slice_get guards path ≡ Some guard → GuardAt c outer guard

  pub guard_clock : (guard : Option ℕ) → GuardAt c outer guard → greatest_number (map (clock_of c) (one_or_none guard)) ≡ outer
  guard_clock None h = sym h
  guard_clock (Some g) h = alone (clock_of c g) ∙ h
    where
      alone : (n : ℕ) → max n 0 ≡ n
      alone n = omega arith

  -- a path that is there has a guard
  pub guard_there : (guards : List (Option ℕ)) (path : ℕ) → path < length guards → GuardsAt guards → GuardAt c outer (guard_of guards path)
  guard_there guards path within all =
      let found = there guards path within in
      subst (λ (o : Option ℕ). GuardAt c outer o) (sym (ap guard_or_none found.1)) (all path found.0 found.1)

  record TimesGuard (old new : Draft) (one other joined : Option ℕ) : Type 0 where
    within : AgreeInTime c new → StartedInTime c old → GuardAt c outer one → GuardAt c outer other → Within c old new outer
    at : AgreeInTime c new → StartedInTime c old → GuardAt c outer one → GuardAt c outer other → GuardAt c outer joined

  either_timed : (old new : Draft) (one other joined : Option ℕ) → AddsEither old new one other joined → TimesGuard old new one other joined
  either_timed old new None other joined h = record {
    within = λ a s f g. within_none c old new outer h.0;
    at = λ a s f g. subst (λ (o : Option ℕ). GuardAt c outer o) (sym h.1) f;
  }
  either_timed old new (Some one) None joined h = record {
    within = λ a s f g. within_none c old new outer h.0;
    at = λ a s f g. subst (λ (o : Option ℕ). GuardAt c outer o) (sym h.1) g;
  }
  either_timed old new (Some one) (Some other) joined h = record {
    within = λ a s f g. within_more c old new (max outer outer) outer (same outer) (made.within c a s (f, g));
    at = λ a s f g. subst (λ (o : Option ℕ). GuardAt c outer o) (sym h.1.0) (made.at c a s (f, g) ∙ alike outer);
  }
    where
      made : TimesValue old new h.0 (λ d. HasClock d outer one × HasClock d outer other) (λ d. max outer outer)
      made = compute_timed old new h.0 one other op.Either (λ d. outer) (λ d. outer) h.1.1

      same : (n : ℕ) → max n n ≤ n
      same n = omega arith

      alike : (n : ℕ) → max n n ≡ n
      alike n = omega arith

  -- The copies at the first n paths.
  module _ (leader bank place : ℕ → ℕ) (guards : List (Option ℕ)) (low : (p : ℕ) → leader p ≤ p) (all : GuardsAt guards) where
    record TimesCopies (n : ℕ) (old new : Draft) (copies : List AccessAt) : Type 0 where
      within : AgreeInTime c new → StartedInTime c old → Within c old new outer
      alone : (k : ℕ) (copy : AccessAt) → slice_get copies k ≡ Some copy → (leader k ≡ k → ⊥) → copy.guard ≡ None
      at : AgreeInTime c new → StartedInTime c old → (k : ℕ) (copy : AccessAt) → slice_get copies k ≡ Some copy → leader k ≡ k → GuardAt c outer copy.guard

    module _ (n : ℕ) (known : n < length guards) (old d new : Draft) (cs copies : List AccessAt) (long : length cs ≡ n) (extends : Extends old d) (h : TimesCopies n old d cs) where
      each_now : (P : ℕ → AccessAt → Type 0) (front : List AccessAt) (last : AccessAt) → length front ≡ n → copies ≡ front ++ last ∷ [] → ((k : ℕ) (a : AccessAt) → slice_get front k ≡ Some a → P k a) → P n last
          → (k : ℕ) (a : AccessAt) → slice_get copies k ≡ Some a → P k a
      each_now P front last all_n are before own k a at = by (place_of_more front last a k (sym (ap (λ (l : List AccessAt). slice_get l k) are) ∙ at))
        where
          by : (slice_get front k ≡ Some a) ⊎ ((k ≡ length front) × (a ≡ last)) → P k a
          by (inl e) = before k a e
          by (inr p) = subst (λ (m : ℕ). P m a) (sym (p.0 ∙ all_n)) (subst (λ (b : AccessAt). P n b) (sym p.1) own)

      own_guard : GuardAt c outer (guard_of guards n)
      own_guard = guard_there guards n known all

      leads_timed : AddsLeader d new cs copies n (leader n) (bank n) (place n) (guard_of guards n) → TimesCopies (suc n) old new copies
      leads_timed s = record {
        within = λ a st. subst (λ (k : Draft). Within c old k outer) (sym s.same) (h.within (before a) st);
        alone = each_now (λ k a. (leader k ≡ k → ⊥) → a.guard ≡ None) cs _ long s.copies_are h.alone (λ other. absurd (other s.own));
        at = λ a st. each_now (λ k b. leader k ≡ k → GuardAt c outer b.guard) cs _ long s.copies_are (h.at (before a) st) (λ e. own_guard);
      }
        where
          before : AgreeInTime c new → AgreeInTime c d
          before a = subst (λ (k : Draft). AgreeInTime c k) s.same a

      led_timed : AddsOther d new cs copies n (leader n) (bank n) (place n) (guard_of guards n) → TimesCopies (suc n) old new copies
      led_timed s = record {
        within = λ a st. within_again c old d new outer outer (self outer) (h.within (before a) st) (joined_within a st (cases_eq (leader (leader n)) (leader n)));
        alone = each_now (λ k a. (leader k ≡ k → ⊥) → a.guard ≡ None) s.changed _ changed_long s.copies_are
            (changed_each (λ k a. (leader k ≡ k → ⊥) → a.guard ≡ None) h.alone (λ b at other. (j.joins b at).none (h.alone (leader n) b at other))) (λ other. refl);
        at = λ a st. each_now (λ k b. leader k ≡ k → GuardAt c outer b.guard) s.changed _ changed_long s.copies_are
            (changed_each (λ k b. leader k ≡ k → GuardAt c outer b.guard) (h.at (before a) st) (λ b at leads. (either_timed d new b.guard (guard_of guards n) j.joined (j.joins b at).adds).at a (time_later c old d extends st) (h.at (before a) st (leader n) b at leads) own_guard))
            (λ e. absurd (s.other e));
      }
        where
          j : JoinsLeader d new cs s.changed (leader n) (guard_of guards n)
          j = s.joins

          self : (m : ℕ) → m ≤ m
          self m = omega arith

          before : AgreeInTime c new → AgreeInTime c d
          before a = agree_before c d new j.extends a

          changed_long : length s.changed ≡ n
          changed_long = ap (λ (l : List AccessAt). length l) j.changed_is ∙ (guard_long cs (leader n) j.joined ∙ long)

          earlier : leader n < length cs
          earlier = let l = low n in less (leader n) (length cs) l s.other long
            where
              less : (m l : ℕ) → m ≤ n → (m ≡ n → ⊥) → l ≡ n → m < l
              less m l few other all_n = omega (arith, few, other, all_n)

          led : (a : AccessAt) × (slice_get cs (leader n) ≡ Some a)
          led = there cs (leader n) earlier

          nothing_added : led.0.guard ≡ None → new ≡ d
          nothing_added none = (subst (λ (o : Option ℕ). AddsEither d new o (guard_of guards n) j.joined) none (j.joins led.0 led.1).adds).0

          joined_within : AgreeInTime c new → StartedInTime c old → (leader (leader n) ≡ leader n) ⊎ (leader (leader n) ≡ leader n → ⊥) → Within c d new outer
          joined_within a st (inl leads) =
              (either_timed d new led.0.guard (guard_of guards n) j.joined (j.joins led.0 led.1).adds).within a (time_later c old d extends st) (h.at (before a) st (leader n) led.0 led.1 leads) own_guard
          joined_within a st (inr other) = within_none c d new outer (nothing_added (h.alone (leader n) led.0 led.1 other))

          changed_each : (P : ℕ → AccessAt → Type 0) → ((k : ℕ) (a : AccessAt) → slice_get cs k ≡ Some a → P k a)
              → ((b : AccessAt) → slice_get cs (leader n) ≡ Some b → P (leader n) (record { leader = b.leader; bank = b.bank; place = b.place; guard = j.joined }))
              → (k : ℕ) (a : AccessAt) → slice_get s.changed k ≡ Some a → P k a
          changed_each P every one k a at = by (guard_place cs (leader n) k j.joined a (sym (ap (λ (l : List AccessAt). slice_get l k) j.changed_is) ∙ at))
            where
              by : ((slice_get cs k ≡ Some a) × (k ≡ leader n → ⊥)) ⊎ ((k ≡ leader n) × ((b : AccessAt) × ((slice_get cs (leader n) ≡ Some b) × (a ≡ record { leader = b.leader; bank = b.bank; place = b.place; guard = j.joined })))) → P k a
              by (inl p) = every k a p.0
              by (inr p) = subst (λ (m : ℕ). P m a) (sym p.0) (subst (λ (b : AccessAt). P (leader n) b) (sym p.1.1.1) (one p.1.0 p.1.1.0))

      copy_timed : AddsCopy d new cs copies n (leader n) (bank n) (place n) (guard_of guards n) → TimesCopies (suc n) old new copies
      copy_timed (inl s) = leads_timed s
      copy_timed (inr s) = led_timed s

    copies_nothing : (old new : Draft) (copies : List AccessAt) → new ≡ old → copies ≡ [] → TimesCopies 0 old new copies
    copies_nothing old new copies same none = record {
      within = λ a s. within_none c old new outer same;
      alone = λ k copy at. absurd (lost k copy at);
      at = λ a s k copy at. absurd (lost k copy at);
    }
      where
        nothing : (k : ℕ) (copy : AccessAt) → slice_get [] k ≡ Some copy → ⊥
        nothing k copy e = cc

        lost : (k : ℕ) (copy : AccessAt) → slice_get copies k ≡ Some copy → ⊥
        lost k copy at = nothing k copy (sym (ap (λ l. slice_get l k) none) ∙ at)

    copies_timed : (n : ℕ) (old new : Draft) (copies : List AccessAt) → n ≤ length guards → AddsCopies leader bank place guards n old new copies → TimesCopies n old new copies
    copies_timed zero old new copies within m = copies_nothing old new copies m.0 m.1
    copies_timed (suc n) old new copies within (d, (cs, (before, step))) =
        let made = copies_forms leader bank place guards low n old d cs before in
        copy_timed n (omega (arith, within)) old d new cs copies made.long made.extends (copies_timed n old d cs (omega (arith, within)) before) step

-- What is noted stays in time.

pub touch_given : (scene : Scene) (around : Around) (s : AccessStanding) (old new : Draft) (before after : Accesses) (number m path n : ℕ) → TouchesAt scene around s old new before after number
    → given_in after m path ≡ Some n → given_in before m path ≡ Some n
touch_given scene around s old new before after number m path n t is = by (touched_in after m) refl is
  where
    lost : (i : ℕ) → slice_get [] i ≡ Some n → ⊥
    lost i e = cc

    by : (o : Option Touched) → touched_in after m ≡ o → given_to o path ≡ Some n → given_in before m path ≡ Some n
    by None e is = absurd (cc)
    by (Some u) e is = ⊎_elim (λ old_one. ap (λ p. given_to p path) old_one ∙ is) (λ fresh. absurd (lost path (sym (ap (λ g. slice_get g path) fresh.none) ∙ is))) (t.known m u e)

pub record TimesTouch (c : BlockClocks) (outer : ℕ) (old new : Draft) (after : Accesses) : Type 0 where
  pub within : Within c old new outer
  pub noted : NotedInTime c after

module _ (c : BlockClocks) (outer : ℕ) (scene : Scene) (around : Around) (s : AccessStanding) (old new : Draft) (before after : Accesses) (number memory : ℕ)
    (low : (p : ℕ) → s.leader p ≤ p) (few : length s.guards < 2 ^ 64) (scopes : HasScopes scene) (flat : length around.levels.now < 2 ^ 63)
    (t : TouchesAt scene around s old new before after number) (site : c.block.sites number ≡ Some (record { memory = memory; standing = s }))
    (all : GuardsAt c outer s.guards) (own : c.outer number ≡ outer) (agree : AgreeInTime c new) (started : StartedInTime c old) where
  module _ (u : Touched) (a : AddsTouched old new scene around s u) where
    new_copies : TimesCopies c outer s.leader s.bank (copy_places s) s.guards low all (length s.guards) a.middle new u.copies
    new_copies = copies_timed c outer s.leader s.bank (copy_places s) s.guards low all (length s.guards) a.middle new u.copies (self (length s.guards)) (a.copies scopes flat)
      where
        self : (n : ℕ) → n ≤ n
        self n = omega arith

    begun : StartedInTime c a.middle
    begun = time_later c old a.middle (named_extends old a.middle u.fault s.place a.names) started

    new_within : Within c old new outer
    new_within = λ n far less. new_copies.within agree begun n (subst (λ (m : ℕ). m ≤ n) (sym (ap (λ (os : List Operation). length os) a.names.operations)) far) less

    new_guards : (path : ℕ) (copy : AccessAt) → slice_get u.copies path ≡ Some copy → s.leader path ≡ path → GuardAt c outer copy.guard
    new_guards path copy at leads = new_copies.at agree begun path copy at leads

  touch_within : Within c old new outer
  touch_within = by t.adds
    where
      by : (new ≡ old) ⊎ ((u : Touched) × AddsTouched old new scene around s u) → Within c old new outer
      by (inl same) = within_none c old new outer same
      by (inr h) = new_within h.0 h.1

  pub touch_timed : NotedInTime c before → TimesTouch c outer old new after
  touch_timed h = record {
    within = touch_within;
    noted = record {
      given = λ m path value o at is. h.given m path value o at (touch_given scene around s old new before after number m path value t is);
      guards = λ m u o at is path copy here leads. by m u o at path copy here leads (t.known m u is);
    };
  }
    where
      by : (m : ℕ) (u : Touched) (o : BlockSite) → c.block.sites m ≡ Some o → (path : ℕ) (copy : AccessAt) → slice_get u.copies path ≡ Some copy → o.standing.leader path ≡ path
          → (touched_in before m ≡ Some u) ⊎ IsNew old new scene around s number m u → GuardAt c (c.outer m) copy.guard
      by m u o at path copy here leads (inl old_one) = h.guards m u o at old_one path copy here leads
      by m u o at path copy here leads (inr fresh) =
          let same : record { memory = memory; standing = s } ≡ o = some_same (record { memory = memory; standing = s }) o (sym site ∙ (ap c.block.sites (sym fresh.own) ∙ at)) in
          subst (λ (k : ℕ). GuardAt c k copy.guard) (sym (ap c.outer fresh.own ∙ own))
          (new_guards u fresh.adds path copy here (subst (λ (w : BlockSite). w.standing.leader path ≡ path) (sym same) leads))

-- a read has given a value at its level
pub notes_timed : (c : BlockClocks) (before after : Accesses) (number path value : ℕ) → Notes before after number path value → HasClock c (c.reads number) value → NotedInTime c before → NotedInTime c after
notes_timed c before after number path value h at noted = record {
  given = λ m q n o site is. given_now m q n o site (place_noted before after number path value h m) is;
  guards = λ m u o site is q copy here leads. guards_now m u o site (place_noted before after number path value h m) is q copy here leads;
}
  where
    given_now : (m q n : ℕ) (o : BlockSite) → c.block.sites m ≡ Some o → (touched_in after m ≡ touched_in before m) ⊎ ((m ≡ number) × (touched_in after m ≡ noted_in (touched_in before m) path value))
        → given_in after m q ≡ Some n → HasClock c (c.reads m) n
    given_now m q n o site (inl same) is = noted.given m q n o site (ap (λ p. given_to p q) (sym same) ∙ is)
    given_now m q n o site (inr p) is =
        ⊎_elim (λ old_one. noted.given m q n o site old_one) (λ fresh. ap (λ k. clock_of c k) fresh.1 ∙ (at ∙ ap c.reads (sym p.0)))
        (noted_given (touched_in before m) path value q n (ap (λ r. given_to r q) (sym p.1) ∙ is))

    guards_now : (m : ℕ) (u : Touched) (o : BlockSite) → c.block.sites m ≡ Some o → (touched_in after m ≡ touched_in before m) ⊎ ((m ≡ number) × (touched_in after m ≡ noted_in (touched_in before m) path value))
        → touched_in after m ≡ Some u → (q : ℕ) (copy : AccessAt) → slice_get u.copies q ≡ Some copy → o.standing.leader q ≡ q → GuardAt c (c.outer m) copy.guard
    guards_now m u o site (inl same) is q copy here leads = noted.guards m u o site (sym same ∙ is) q copy here leads
    guards_now m u o site (inr p) is q copy here leads =
        let old_one = noted_touched (touched_in before m) path value u (sym p.1 ∙ is) in
        noted.guards m old_one.0 o site old_one.1.0 q copy (subst (λ (cs : List AccessAt). slice_get cs q ≡ Some copy) (sym old_one.1.1.1) here) leads

-- The parts of a read or a write.
module _ (c : BlockClocks) (scene : Scene) (lane : Lane) (current : List (Option ℕ)) (access : plain.Term) (memory : ℕ) (aim : Aim) (outer : ℕ) where
  abbrev stands : (writes : Truth) → AccessStanding
  stands writes = standing_at scene lane.around memory (place_written access) (form_of access) writes

  abbrev site : (writes : Truth) → BlockSite
  site writes = record { memory = memory; standing = stands writes }

  low : (writes : Truth) (p : ℕ) → (stands writes).leader p ≤ p
  low writes p = omega arith

  -- the clock of the values that name the element
  abbrev pub aim_clock : ℕ
  aim_clock = greatest_number (map (clock_of c) (reach_takes (reach_told memory aim [])))

  taken_clock : (form : OperationForm) (guard : Option ℕ) (taken : List ℕ) → operation_takes (record { guard = guard; form = form }) ≡ one_or_none guard ++ taken → GuardAt c outer guard
      → greatest_number (map (clock_of c) (operation_takes (record { guard = guard; form = form }))) ≡ max outer (greatest_number (map (clock_of c) taken))
  taken_clock form guard taken is on =
      ap (λ vs. greatest_number (map (clock_of c) vs)) is ∙ (greatest_append (clock_of c) (one_or_none guard) taken ∙ ap (λ n. max n (greatest_number (map (clock_of c) taken))) (guard_clock c outer guard on))

  probe_timed : (d e : Draft) (n fault k : ℕ) (guard : Option ℕ) → Pushes d e n guard (Probe (reach_told memory aim []) fault) → GuardAt c outer guard → AgreeInTime c e → StartedInTime c d
      → outer ≤ k → aim_clock ≤ k → Within c d e k
  probe_timed d e n fault k guard p on agree started one two =
      pushed_within d e n guard (Probe (reach_told memory aim []) fault) p c k
      (few (clock_of c n) outer aim_clock (pushed_clock d e n guard (Probe (reach_told memory aim []) fault) p c agree started ∙ taken_clock (Probe (reach_told memory aim []) fault) guard (reach_takes (reach_told memory aim [])) refl on) one two)
    where
      few : (m a b : ℕ) → m ≡ max a b → a ≤ k → b ≤ k → m ≤ k
      few m a b e f g = omega (arith, e, f, g)

  pub write_timed : (d e : Draft) (n value level k : ℕ) (b : List (ℕ × ℕ)) (guard : Option ℕ) → Pushes d e n guard (Write (reach_told memory aim b) value) → GuardAt c outer guard → AgreeInTime c e → StartedInTime c d
      → HasClock c level value → outer ≤ k → aim_clock ≤ k → level ≤ k → Within c d e k
  write_timed d e n value level k b guard p on agree started at one two three =
      pushed_within d e n guard (Write (reach_told memory aim b) value) p c k
      (few (clock_of c n) outer (clock_of c value) aim_clock
      (pushed_clock d e n guard (Write (reach_told memory aim b) value) p c agree started ∙ taken_clock (Write (reach_told memory aim b) value) guard (value ∷ reach_takes (reach_told memory aim b)) refl on) at one two three)
    where
      few : (m a v t : ℕ) → m ≡ max a (max v t) → v ≡ level → a ≤ k → t ≤ k → level ≤ k → m ≤ k
      few m a v t e same f g h = omega (arith, e, same, f, g, h)

  read_clock : (d e : Draft) (n : ℕ) (b : List (ℕ × ℕ)) (guard : Option ℕ) → Pushes d e n guard (Read (reach_told memory aim b)) → GuardAt c outer guard → AgreeInTime c e → StartedInTime c d
      → clock_of c n ≡ suc (max aim_clock outer)
  read_clock d e n b guard p on agree started =
      pushed_clock d e n guard (Read (reach_told memory aim b)) p c agree started
      ∙ (ap (λ m. suc m) (taken_clock (Read (reach_told memory aim b)) guard (reach_takes (reach_told memory aim b)) refl on) ∙ ap (λ m. suc m) (swap outer aim_clock))
    where
      swap : (m n : ℕ) → max m n ≡ max n m
      swap m n = omega arith

  module _ (shared : ℕ → Option ℕ) (old new : Draft) (before after : Accesses) (v : ℕ) (kd : Kind) (m : MadeRead scene lane access memory aim old new before after v)
      (st : ExpressionBegins c.block old new scene lane current before aim.number 1) (suits : ReadSuits c.block scene lane memory aim.number (place_written access) (form_of access) kd)
      (agree : AgreeInTime c new) (all : GuardsAt c outer lane.around.guards.now) (noted : NotedInTime c before) (own : c.outer aim.number ≡ outer)
      (share : slice_get scene.shares.now aim.number ≡ Some (shared aim.number))
      (i : Leveled) (r : Reach) (number_is : r.number ≡ aim.number) (at : aim_clock ≡ i.level)
      (reads : ReadsAgree c (read_leveled shared outer r i).levels (aim.number + 1)) where
    abbrev made : Leveled
    made = read_leveled shared outer r i

    abbrev copy : AccessAt
    copy = copied_in m.middle aim.number lane.number

    abbrev found : Option ℕ
    found = given_by m.middle (source_at (slice_get scene.shares.now aim.number) aim.number lane.number copy.leader)

    found_more : Extends m.second new
    found_more = found_extends scene (form_of access) m.second new memory aim copy found v m.finds

    pushed : Extends m.first m.second
    pushed = pushed_extends m.first m.second _ _ _ m.probes

    agree2 : AgreeInTime c m.second
    agree2 = agree_before c m.second new found_more agree

    agree1 : AgreeInTime c m.first
    agree1 = agree_before c m.first m.second pushed agree2

    started1 : StartedInTime c m.first
    started1 = time_later c old m.first m.touches.extends st.started

    started2 : StartedInTime c m.second
    started2 = time_later c m.first m.second pushed started1

    touch : TimesTouch c outer old m.first m.middle
    touch = touch_timed c outer scene lane.around (stands false) old m.first before m.middle aim.number memory (low false) st.scope.few st.scope.scopes st.scope.low m.touches suits.access.site all own agree1 st.started noted

    shapes : FormsTouch c.block old m.first m.middle (stands false) aim.number
    shapes =
        touch_notes c.block scene lane.around (stands false) old m.first before m.middle aim.number (low false) st.scope.few st.scope.scopes st.scope.low m.touches
        (agrees_before c.block m.first new (extends_again m.first m.second new pushed found_more) st.agrees) st.started st.scope.guards memory suits.access.site st.noted

    laid : IsLaidAccess c.block m.first (stands false) shapes.touched
    laid = shapes.notes.laid aim.number shapes.touched (site false) suits.access.site shapes.there

    own_copy : (a : AccessAt) × (slice_get shapes.touched.copies lane.number ≡ Some a)
    own_copy = there shapes.touched.copies lane.number (subst (λ (l : ℕ). lane.number < l) (sym laid.long) st.scope.within)

    copy_is : copy ≡ own_copy.0
    copy_is = ap (λ o. copied_of o lane.number) shapes.there ∙ ap (λ o. copy_or_alone lane.number o) own_copy.1

    leader_is : copy.leader ≡ (stands false).leader lane.number
    leader_is = ap (λ (a : AccessAt). a.leader) copy_is ∙ (laid.each lane.number own_copy.0 own_copy.1).leader_is

    copy_guard : (stands false).leader lane.number ≡ lane.number → GuardAt c outer copy.guard
    copy_guard leads =
        subst (λ (a : AccessAt). GuardAt c outer a.guard) (sym copy_is)
        (subst (λ (k : ℕ). GuardAt c k own_copy.0.guard) own (touch.noted.guards aim.number shapes.touched (site false) suits.access.site shapes.there lane.number own_copy.0 own_copy.1 leads))

    own_given : given_at_paths m.middle aim.number ≡ lane.number
    own_given = touch_gives scene lane.around (stands false) old m.first before m.middle aim.number aim.number m.touches ∙ st.next.each aim.number (omega arith) (omega arith)

    -- its level among those of reads
    level_own : made.level ≡ made.levels.reads r.number
    level_own = by (shared r.number) refl
      where
        by : (o : Option ℕ) → shared r.number ≡ o → made.level ≡ made.levels.reads r.number
        by None e =
            let q = read_alone shared outer r i e in
            ap (λ (w : Leveled). w.level) q ∙ (sym (value_here i.levels.reads r.number (suc (max i.level outer))) ∙ sym (ap (λ (w : Leveled). w.levels.reads r.number) q))
        by (Some earlier) e =
            let q = read_shares shared outer r i earlier e in
            ap (λ (w : Leveled). w.level) q ∙ (sym (value_here i.levels.reads r.number (i.levels.reads earlier)) ∙ sym (ap (λ (w : Leveled). w.levels.reads r.number) q))

    level_is : made.level ≡ c.reads aim.number
    level_is = level_own ∙ (ap made.levels.reads number_is ∙ reads aim.number (site false) suits.access.site (omega arith))

    record InTime (k : ℕ) : Type 0 where
      within : k ≡ made.levels.most → Within c m.second new k
      clock : HasClock c made.level v

    most_level : made.level ≤ made.levels.most
    most_level = by (shared r.number) refl
      where
        last : (x y : ℕ) → y ≤ max x y
        last x y = omega arith

        by : (o : Option ℕ) → shared r.number ≡ o → made.level ≤ made.levels.most
        by None e = subst (λ (w : Leveled). w.level ≤ w.levels.most) (sym (read_alone shared outer r i e)) (last i.levels.most (suc (max i.level outer)))
        by (Some earlier) e = subst (λ (w : Leveled). w.level ≤ w.levels.most) (sym (read_shares shared outer r i earlier e)) (last i.levels.most (i.levels.reads earlier))

    -- a value that was found
    was_found : (o : Option ℕ) (n : ℕ) → o ≡ Some n → Finds scene (form_of access) m.second new memory aim copy o v → HasClock c made.level n → InTime made.levels.most
    was_found o n is h clock = record {
      within = λ e. within_none c m.second new made.levels.most (subst (λ (q : Option ℕ). Finds scene (form_of access) m.second new memory aim copy q v) is h).0;
      clock = ap (λ k. clock_of c k) (subst (λ (q : Option ℕ). Finds scene (form_of access) m.second new memory aim copy q v) is h).1 ∙ clock;
    }

    -- or is read here
    is_read : (o : Option ℕ) → o ≡ None → Finds scene (form_of access) m.second new memory aim copy o v → (stands false).leader lane.number ≡ lane.number → made.level ≡ suc (max i.level outer) → InTime made.levels.most
    is_read o is h leads level = record {
      within = λ e. pushed_within m.second new v copy.guard _ p c made.levels.most (fewer (clock_of c v) made.level made.levels.most clock most_level);
      clock = clock;
    }
      where
        p : Pushes m.second new v copy.guard (Read (reach_told memory aim (copy_banks scene (form_of access) copy)))
        p = subst (λ (q : Option ℕ). Finds scene (form_of access) m.second new memory aim copy q v) is h

        clock : HasClock c made.level v
        clock = read_clock m.second new v (copy_banks scene (form_of access) copy) copy.guard p (copy_guard leads) agree started2 ∙ (ap (λ n. suc (max n outer)) at ∙ sym level)

        fewer : (x y z : ℕ) → x ≡ y → y ≤ z → x ≤ z
        fewer x y z e f = omega (arith, e, f)

    found_timed : InTime made.levels.most
    found_timed = by (shared aim.number) refl
      where
        told : (o : Option ℕ) → shared aim.number ≡ o → Finds scene (form_of access) m.second new memory aim copy (given_by m.middle (source_at (Some o) aim.number lane.number copy.leader)) v
        told o e = subst (λ (q : Option (Option ℕ)). Finds scene (form_of access) m.second new memory aim copy (given_by m.middle (source_at q aim.number lane.number copy.leader)) v) (share ∙ ap (λ q. Some q) e) m.finds

        alone : shared aim.number ≡ None → ((stands false).leader lane.number ≡ lane.number) ⊎ ((stands false).leader lane.number ≡ lane.number → ⊥) → InTime made.levels.most
        alone e (inl leads) =
            is_read (given_in m.middle aim.number copy.leader) (given_past m.middle aim.number copy.leader (past (given_at_paths m.middle aim.number) copy.leader ((stands false).leader lane.number) own_given leader_is leads)) (told None e) leads
            (ap (λ (w : Leveled). w.level) (read_alone shared outer r i (ap shared number_is ∙ e)))
          where
            past : (g l s : ℕ) → g ≡ lane.number → l ≡ s → s ≡ lane.number → g ≤ l
            past g l s e f h = omega (arith, e, f, h)
        alone e (inr other) =
            let few = low false lane.number in
            let had = given_here m.middle aim.number copy.leader (less copy.leader ((stands false).leader lane.number) (given_at_paths m.middle aim.number) leader_is own_given few other) in
            was_found (given_in m.middle aim.number copy.leader) had.0 had.1 (told None e) (touch.noted.given aim.number copy.leader had.0 (site false) suits.access.site had.1 ∙ sym level_is)
          where
            less : (l s g : ℕ) → l ≡ s → g ≡ lane.number → s ≤ lane.number → (s ≡ lane.number → ⊥) → l < g
            less l s g same every few other = omega (arith, same, every, few, other)

        by : (o : Option ℕ) → shared aim.number ≡ o → InTime made.levels.most
        by None e = alone e (cases_eq ((stands false).leader lane.number) lane.number)
        by (Some earlier) e =
            let there_share = share ∙ ap (λ q. Some q) e in
            let before_it = st.next.earlier aim.number earlier (omega arith) (omega arith) there_share in
            let gave = subst (λ (n : ℕ). lane.number < n) (sym (touch_gives scene lane.around (stands false) old m.first before m.middle aim.number earlier m.touches)) (st.next.shares aim.number earlier (omega arith) (omega arith) there_share before_it) in
            let had = given_here m.middle earlier lane.number gave in
            let place = suits.shares earlier there_share in
            let q = read_shares shared outer r i earlier (ap shared number_is ∙ e) in
            was_found (given_in m.middle earlier lane.number) had.0 had.1 (told (Some earlier) e)
            (touch.noted.given earlier lane.number had.0 place.site place.there had.1
            ∙ sym (ap (λ (w : Leveled). w.level) q ∙ (sym (value_other i.levels.reads r.number (i.levels.reads earlier) earlier (λ same. never earlier same before_it))
            ∙ (sym (ap (λ (w : Leveled). w.levels.reads earlier) q) ∙ reads earlier place.site place.there (wider earlier before_it)))))
          where
            never : (e : ℕ) → e ≡ r.number → e < aim.number → ⊥
            never e same less = omega (arith, same, number_is, less)

            wider : (e : ℕ) → e < aim.number → e < aim.number + 1
            wider e less = omega (arith, less)

    pub read_timed : outer ≤ made.levels.most → i.level ≤ made.levels.most → TimesTerm c old new after made v
    read_timed outer_few level_few = record {
      within =
          within_again c old m.second new made.levels.most made.levels.most (self made.levels.most)
          (within_again c old m.first m.second outer made.levels.most outer_few touch.within
          (probe_timed m.first m.second _ (fault_in m.middle aim.number) made.levels.most (lane_guard lane) m.probes (guard_there c outer lane.around.guards.now lane.number st.scope.within all) agree2 started1 outer_few (subst (λ (n : ℕ). n ≤ made.levels.most) (sym at) level_few)))
          (found_timed.within refl);
      at = found_timed.clock;
      noted = notes_timed c m.middle after aim.number lane.number v m.notes (found_timed.clock ∙ level_is) touch.noted;
    }
      where
        self : (n : ℕ) → n ≤ n
        self n = omega arith

  module _ (old new : Draft) (before after : Accesses) (value level k : ℕ) (m : MadeWrite scene lane access memory aim value old new before after)
      (started : StartedInTime c old) (scope : IsScope c.block old scene lane current) (suits : AccessSuits c.block scene lane memory aim.number (place_written access) (form_of access) true)
      (agree : AgreeInTime c new) (all : GuardsAt c outer lane.around.guards.now) (noted : NotedInTime c before) (own : c.outer aim.number ≡ outer) (at : HasClock c level value)
      (outer_few : outer ≤ k) (aim_few : aim_clock ≤ k) (level_few : level ≤ k) where
    written : Extends m.second new
    written = pushed_extends m.second new m.number _ _ m.writes

    probed : Extends m.first m.second
    probed = pushed_extends m.first m.second _ _ _ m.probes

    write_touch : TimesTouch c outer old m.first after
    write_touch =
        touch_timed c outer scene lane.around (stands true) old m.first before after aim.number memory (low true) scope.few scope.scopes scope.low m.touches suits.site all own
        (agree_before c m.first m.second probed (agree_before c m.second new written agree)) started noted

    on : GuardAt c outer (lane_guard lane)
    on = guard_there c outer lane.around.guards.now lane.number scope.within all

    pub written_within : Within c old new k
    written_within =
        within_again c old m.second new k k (self k)
        (within_again c old m.first m.second outer k outer_few write_touch.within
        (probe_timed m.first m.second _ (fault_in after aim.number) k (lane_guard lane) m.probes on (agree_before c m.second new written agree) (time_later c old m.first m.touches.extends started) outer_few aim_few))
        (write_timed m.second new m.number value level k _ (lane_guard lane) m.writes on agree (time_later c m.first m.second probed (time_later c old m.first m.touches.extends started)) at outer_few aim_few level_few)
      where
        self : (n : ℕ) → n ≤ n
        self n = omega arith

    pub written_noted : NotedInTime c after
    written_noted = write_touch.noted
