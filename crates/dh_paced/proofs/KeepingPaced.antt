-- Offsets that variables keep, at one path after the other: behind all of them each variable has its own offset's level,
-- and what others were given is there as before. Each of them is another at each path.
use Rattle.std.proofs.Common.{◌≡◌, ◌⊎◌, inl, inr, ℕ, suc, ◌+◌, ◌^◌, ◌<◌, ◌≤◌, true, Some, None, Option, List, [], ◌∷◌, length, refl, sym, ap, ◌∙◌, subst, arith}
use Rattle.std.specs.Prelude.{slice_get, slice_set}
use Rattle.std.proofs.lemmas.Bool.{cases_eq, cases_lt}
use Rattle.dh_tree.specs.declared.trees.counters.Counter.{Counter}
use Rattle.dh_tree.specs.PlainTrees.{Term}
use Rattle.dh_tree.specs.Seen.{terms}
use Rattle.dh_meaning.specs.AccessNumbers.{term_accesses, terms_accesses}
use Rattle.dh_meaning.specs.Core.{CoreTerms, no_terms, term_and}
use Rattle.dh_meaning.specs.CoreOf.{core_term, core_terms}
use Rattle.dh_meaning.specs.Levels.{Leveled, Levels, kept_leveled, term_leveled, terms_leveled, with_value}
use Rattle.dh_code.specs.Slots.{held_at}
use Rattle.dh_plan.specs.PlanPhases.{term_mentions, core_terms_mention}
use Rattle.dh_expressions.specs.declared.accesses.Accesses.{Accesses}
use Rattle.dh_expressions.specs.declared.drafts.Draft.{Draft}
use Rattle.dh_expressions.specs.declared.scenes.Around.{Around}
use Rattle.dh_expressions.specs.declared.scenes.Lane.{Lane}
use Rattle.dh_expressions.specs.declared.scenes.Scene.{Scene}
use Rattle.dh_expressions.specs.Drafted.{Extends}
use Rattle.dh_expressions.specs.Evaluated.{counter_of, known_in}
use Rattle.dh_expressions.specs.MadeTerms.{MadeTerms}
use Rattle.dh_expressions.proofs.ListPlaces.{set_here, set_long, set_other}
use Rattle.dh_expressions.proofs.Pushing.{extends_again, extends_self}
use Rattle.dh_formed.specs.Counted.{AreNext}
use Rattle.dh_formed.specs.Formed.{Agrees, AreNumbers, TermsSuit}
use Rattle.dh_formed.specs.Timed.{AgreeInTime, BlockClocks, CurrentAt, EntityAt, HasClock, LevelsThen, ReadsAgree, StartedInTime, TimesValue, VariableAt, Within, all_leveled, leveled}
use Rattle.dh_formed.proofs.AccessesFormed.{scope_later}
use Rattle.dh_formed.proofs.LevelsBehind.{all_levels_behind, levels_behind, value_here, value_other}
use Rattle.dh_formed.proofs.TermsCounted.{left_of, next_first, next_second, right_of}
use Rattle.dh_formed.proofs.TermsFormed.{all_formed, numbered}
use Rattle.dh_formed.proofs.ValuesFormed.{agrees_before}
use Rattle.dh_formed.proofs.ValuesTimed.{agree_before, held_timed, time_later, within_again, within_more, within_none}
use Rattle.dh_commands.specs.declared.assignments.Values.{Values}
use Rattle.dh_commands.specs.declared.buildings.Building.{Building}
use Rattle.dh_commands.specs.LanesRun.{lane_of, paths_counted}
use Rattle.dh_commands.specs.MadeCommands.{KeptTo, MadeHolds, MadeKept}
use Rattle.dh_commands.specs.Setting.{IsVariableAmong, SetsFrom}
use Rattle.dh_commands.specs.ShownVariables.{register_in}
use Rattle.dh_commands.specs.Undone.{Assigns}
use Rattle.dh_laid.specs.Laid.{FormsAtPath, FormsThere, KeptFits}
use Rattle.dh_laid.proofs.KeptLaid.{keeps_form}
use Rattle.dh_paced.specs.Standing.{AreCurrent, IsGround, IsTarget, OwnsTerm, OwnsTerms, Paces, StandsFor}
use Rattle.dh_paced.proofs.AssigningPaced.{current_of, entity_under, variable_of}
use Rattle.dh_paced.proofs.AssignmentsLogged.{cases_last, kept_long, register_under}
use Rattle.dh_paced.proofs.LanesPaced.{AtLane, given_end, given_more, lane_here, lane_next, lane_scope, lane_started, lanes_paced}
use Rattle.dh_paced.proofs.LeavesPaced.{IsHere, TermHere, TermsHere, term_here, terms_here}
use Rattle.dh_paced.proofs.LevelsOfCommands.{kept_go}

-- Values at their own levels, each that of a variable; the entities of these follow one another.

abbrev AreHeldAt : BlockClocks → (level : ℕ → ℕ) → (first : ℕ) → List ℕ → Type 0
AreHeldAt c level first [] = Unit {0}
AreHeldAt c level first (v ∷ values) = HasClock c (level first) v × AreHeldAt c level (suc first) values

held_alike : (c : BlockClocks) (f h : ℕ → ℕ) (first : ℕ) (values : List ℕ) → ((e : ℕ) → first ≤ e → f e ≡ h e) → AreHeldAt c f first values → AreHeldAt c h first values
held_alike c f h first [] same a = tt
held_alike c f h first (v ∷ values) same a = (subst (λ (k : ℕ). HasClock c k v) (same first (omega arith)) a.0, held_alike c f h (suc first) values (λ e from. same e (omega (arith, from))) a.1)

-- held as the variables hold them, they are there as they were
record HoldsTimed (level : ℕ → ℕ) (first : ℕ) (values : List ℕ) (old new : Draft) (held : List ℕ) : Type 0 where
  extends : Extends old new
  within : (c : BlockClocks) → AgreeInTime c new → StartedInTime c old → AreHeldAt c level first values → (most : ℕ) → ((e : ℕ) → level e ≤ most) → Within c old new most
  at : (c : BlockClocks) → AgreeInTime c new → StartedInTime c old → AreHeldAt c level first values → AreHeldAt c level first held

hold_timed : (level : ℕ → ℕ) (first v : ℕ) (values : List ℕ) (old d new : Draft) (h : ℕ) (more held : List ℕ) → TimesValue old d h (λ x. HasClock x (level first) v) (λ x. level first) → HoldsTimed level (suc first) values d new more → held ≡ h ∷ more
    → HoldsTimed level first (v ∷ values) old new held
hold_timed level first v values old d new h more held one rest is = record {
  extends = extends_again old d new one.extends rest.extends;
  within = λ c a s at most few.
      within_again c old d new most most (self most) (within_more c old d (level first) most (few first) (one.within c (agree_before c d new rest.extends a) s at.0)) (rest.within c a (time_later c old d one.extends s) at.1 most few);
  at = λ c a s at. subst (λ (vs : List ℕ). AreHeldAt c level first vs) (sym is) (one.at c (agree_before c d new rest.extends a) s at.0, rest.at c a (time_later c old d one.extends s) at.1);
}
  where
    self : (n : ℕ) → n ≤ n
    self n = omega arith

holds_timed : (scene : Scene) (level : ℕ → ℕ) (first : ℕ) (offsets : List Term) (values : List ℕ) (old new : Draft) (held : List ℕ) → MadeHolds scene first offsets values old new held → HoldsTimed level first values old new held
holds_timed scene level first [] values old new held m = record {
  extends = subst (λ (d : Draft). Extends old d) (sym m.0) (extends_self old);
  within = λ c a s at most few. within_none c old new most m.0;
  at = λ c a s at. subst (λ (vs : List ℕ). AreHeldAt c level first vs) (sym m.1) at;
}
holds_timed scene level first (t ∷ ts) [] old new held m = record {
  extends = subst (λ (d : Draft). Extends old d) (sym m.0) (extends_self old);
  within = λ c a s at most few. within_none c old new most m.0;
  at = λ c a s at. subst (λ (vs : List ℕ). AreHeldAt c level first vs) (sym m.1) tt;
}
holds_timed scene level first (t ∷ ts) (v ∷ values) old new held (d, (h, (more, (one, (rest, is))))) =
    hold_timed level first v values old d new h more held (held_timed t (held_at scene.held.now first).kind v (λ x. level first) old d h one) (holds_timed scene level (suc first) ts values d new more rest) is

-- Levels behind what is kept.

module _ (shared : ℕ → Option ℕ) (outer : ℕ) where
  kept_most : (ts : CoreTerms) (e : ℕ) (l : Levels) → (kept_leveled shared outer e ts l).most ≡ (terms_leveled shared outer ts l).levels.most
  kept_most no_terms e l = refl
  kept_most (term_and t ts) e l = kept_most ts (suc e) (term_leveled shared outer t l).levels

  kept_reads : (ts : CoreTerms) (e : ℕ) (l : Levels) (m : ℕ) → (kept_leveled shared outer e ts l).reads m ≡ (terms_leveled shared outer ts l).levels.reads m
  kept_reads no_terms e l m = refl
  kept_reads (term_and t ts) e l m = kept_reads ts (suc e) (term_leveled shared outer t l).levels m

module _ (c : BlockClocks) (scene : Scene) (shared : ℕ → Option ℕ) (outer : ℕ) where
  -- other variables keep their levels
  kept_others : (offsets : List Term) (e n : ℕ) (l : Levels) (f : ℕ) → (IsVariableAmong e (length offsets) f → ⊥) → (kept_leveled shared outer e (core_terms (known_in scene) n (terms offsets)) l).variables f ≡ l.variables f
  kept_others [] e n l f out = refl
  kept_others (t ∷ ts) e n l f out =
      value_other (kept_leveled shared outer (suc e) (core_terms (known_in scene) (n + term_accesses t) (terms ts)) (leveled scene shared outer n t l).levels).variables e (leveled scene shared outer n t l).level f (λ same. out (omega (arith, same), omega (arith, same)))
      ∙ (kept_others ts (suc e) (n + term_accesses t) (leveled scene shared outer n t l).levels f (λ a. out (let g = a.0 in omega (arith, g), let b = a.1 in omega (arith, b)))
      ∙ (levels_behind scene shared outer t n l).variables f)

  -- values of offsets, each at its own level
  abbrev AreAt : (n : ℕ) → List Term → Levels → List ℕ → Type 0
  AreAt n [] l values = values ≡ []
  AreAt n (t ∷ ts) l [] = ⊥
  AreAt n (t ∷ ts) l (v ∷ values) = HasClock c (leveled scene shared outer n t l).level v × AreAt (n + term_accesses t) ts (leveled scene shared outer n t l).levels values

  at_held : (offsets : List Term) (e n : ℕ) (l : Levels) (values : List ℕ) → AreAt n offsets l values → AreHeldAt c (kept_leveled shared outer e (core_terms (known_in scene) n (terms offsets)) l).variables e values
  at_held [] e n l values h = subst (λ (vs : List ℕ). AreHeldAt c l.variables e vs) (sym h) tt
  at_held (t ∷ ts) e n l [] h = absurd h
  at_held (t ∷ ts) e n l (v ∷ values) h =
      let k : Levels = kept_leveled shared outer (suc e) (core_terms (known_in scene) (n + term_accesses t) (terms ts)) (leveled scene shared outer n t l).levels in (
        subst (λ (i : ℕ). HasClock c i v) (sym (value_here k.variables e (leveled scene shared outer n t l).level)) h.0,
        held_alike c k.variables (with_value k.variables e (leveled scene shared outer n t l).level) (suc e) values (λ f from. sym (value_other k.variables e (leveled scene shared outer n t l).level f (λ same. apart f from same)))
            (at_held ts (suc e) (n + term_accesses t) (leveled scene shared outer n t l).levels values h.1),
      )
    where
      apart : (f : ℕ) → suc e ≤ f → f ≡ e → ⊥
      apart f from same = omega (arith, from, same)

module _ (c : BlockClocks) (scene : Scene) (top : Around) (spaces : ℕ) (shared : ℕ → Option ℕ) (Variable Read Own : ℕ → Type 0) (g : IsGround c scene top spaces shared Variable Read Own) where
  -- Offsets at a path, from the left.
  module _ (lane : Lane) (outer : ℕ) (current : List (Option ℕ)) where
    abbrev Here : (old mid : Draft) → Accesses → Levels → Type 0
    Here old mid before l = IsHere c scene top spaces shared Variable Read Own g lane outer current old mid before l

    each_here : (offsets : List Term) (old mid : Draft) (before after : Accesses) (n next : ℕ) (values : List ℕ) → MadeTerms scene lane current (terms offsets) old mid before after n next values → n + terms_accesses (terms offsets) < 2 ^ 32 → (l : Levels)
        → Here old mid before l → OwnsTerms c scene top spaces shared Variable Read Own outer n (terms offsets) → AreNext scene lane before n (terms_accesses (terms offsets)) → TermsSuit c.block scene lane n (terms offsets) × AreNumbers (terms offsets)
        → ((e : ℕ) → Variable e → core_terms_mention e (core_terms (known_in scene) n (terms offsets)) ≡ true → EntityAt c scene lane current l e) → ReadsAgree c (all_leveled scene shared outer n (terms offsets) l).levels (n + terms_accesses (terms offsets))
        → AreAt c scene shared outer n offsets l values
    each_here [] old mid before after n next values m few l h owns is_next suits vars reads = m.none
    each_here (t ∷ ts) old mid before after n next values m few l h owns is_next suits vars reads =
        subst (λ (vs : List ℕ). AreAt c scene shared outer n (t ∷ ts) l vs) (sym m.values_are) (
          one.timed_is.at,
          each_here ts m.middle mid m.between after (n + term_accesses t) next m.more moved few_rest made.levels here_rest owns_rest
              (next_second scene lane before m.between n (term_accesses t) (terms_accesses (terms ts)) is_next one.given) (suits.0.1, suits.1.1) vars_rest (λ i site at less. reads i site at (omega (arith, less))),
        )
      where
        made : Leveled
        made = leveled scene shared outer n t l

        few_one : n + term_accesses t < 2 ^ 32
        few_one = omega (arith, few)

        few_rest : n + term_accesses t + terms_accesses (terms ts) < 2 ^ 32
        few_rest = omega (arith, few)

        moved : MadeTerms scene lane current (terms ts) m.middle mid m.between after (n + term_accesses t) next m.more
        moved = subst (λ (i : ℕ). MadeTerms scene lane current (terms ts) m.middle mid m.between after i next m.more) (numbered scene lane current t old m.middle before m.between n m.own m.a m.first few_one) m.rest

        more : Extends m.middle mid
        more = (all_formed scene lane current (terms ts) m.middle mid m.between after (n + term_accesses t) next m.more moved few_rest).part.extends

        behind_one : LevelsThen n (term_accesses t) l made
        behind_one = levels_behind scene shared outer t n l

        behind_rest : LevelsThen (n + term_accesses t) (terms_accesses (terms ts)) made.levels (all_leveled scene shared outer (n + term_accesses t) (terms ts) made.levels)
        behind_rest = all_levels_behind scene shared outer (terms ts) (n + term_accesses t) made.levels

        here_one : Here old m.middle before l
        here_one = record {
          agrees = agrees_before c.block m.middle mid more h.agrees;
          agree = agree_before c m.middle mid more h.agree;
          started = h.started;
          scope = h.scope;
          noted = h.noted;
          bounded = h.bounded;
          guards = h.guards;
          in_time = h.in_time;
          outer_few = h.outer_few;
        }

        owns_one : OwnsTerm c scene top spaces shared Variable Read Own outer n t
        owns_one = record {
          are = record {
            own = λ i among. owns.are.own i (among.0, let b = among.1 in omega (arith, b));
            outers = λ i among. owns.are.outers i (among.0, let b = among.1 in omega (arith, b));
          };
          names = λ e mentioned. owns.names e (left_of (term_mentions e (core_term (known_in scene) n t)) (core_terms_mention e (core_terms (known_in scene) (n + term_accesses t) (terms ts))) mentioned);
        }

        one : TermHere c scene top spaces shared Variable Read Own g lane outer current old m.middle before m.between n m.own l here_one t m.a
        one =
            term_here c scene top spaces shared Variable Read Own g lane outer current old m.middle before m.between n m.own l here_one t m.a m.first few_one owns_one (next_first scene lane before n (term_accesses t) (terms_accesses (terms ts)) is_next) suits.0.0
            (λ e v mentioned. vars e v (left_of (term_mentions e (core_term (known_in scene) n t)) (core_terms_mention e (core_terms (known_in scene) (n + term_accesses t) (terms ts))) mentioned))
            (λ i site at less. sym (behind_rest.before_them i less) ∙ reads i site at (omega (arith, less)))

        here_rest : Here m.middle mid m.between made.levels
        here_rest = record {
          agrees = h.agrees;
          agree = h.agree;
          started = time_later c old m.middle one.extends h.started;
          scope = scope_later c.block old m.middle scene lane current one.extends h.scope;
          noted = one.noted;
          bounded = behind_one.bounded h.bounded;
          guards = h.guards;
          in_time = one.timed_is.noted;
          outer_few = let o = h.outer_few in let f = behind_one.more in omega (arith, o, f);
        }

        owns_rest : OwnsTerms c scene top spaces shared Variable Read Own outer (n + term_accesses t) (terms ts)
        owns_rest = record {
          are = record {
            own = λ i among. owns.are.own i (let f = among.0 in omega (arith, f), let b = among.1 in omega (arith, b));
            outers = λ i among. owns.are.outers i (let f = among.0 in omega (arith, f), let b = among.1 in omega (arith, b));
          };
          names = λ e mentioned. owns.names e (right_of (term_mentions e (core_term (known_in scene) n t)) (core_terms_mention e (core_terms (known_in scene) (n + term_accesses t) (terms ts))) mentioned);
        }

        vars_rest : (e : ℕ) → Variable e → core_terms_mention e (core_terms (known_in scene) (n + term_accesses t) (terms ts)) ≡ true → EntityAt c scene lane current made.levels e
        vars_rest e v mentioned =
            subst (λ (i : ℕ). VariableAt c (counter_of scene e) (held_at scene.held.now e) lane current i) (sym (behind_one.variables e))
            (vars e v (right_of (term_mentions e (core_term (known_in scene) n t)) (core_terms_mention e (core_terms (known_in scene) (n + term_accesses t) (terms ts))) mentioned))

  -- Variables that keep them, from path to path.
  module _ (entity count : ℕ) (level : ℕ → ℕ) (l : Levels) (targets : (e : ℕ) → IsVariableAmong entity count e → IsTarget c scene top spaces shared Variable Read Own e)
      (apart_each : (e : ℕ) → IsVariableAmong entity count e → (i j : ℕ) → i < paths_counted top → j < paths_counted top → register_in scene top e i ≡ register_in scene top e j → i ≡ j) where
    abbrev Among : ℕ → Type 0
    Among e = IsVariableAmong entity count e

    -- the first paths, so many
    pub record Keeping (k : ℕ) (current : List (Option ℕ)) : Type 0 where
      pub others : (f i : ℕ) → Variable f → (Among f → ⊥) → i < paths_counted top → EntityAt c scene (lane_of top i) current l f
      pub done : (e i : ℕ) → Among e → i < k → CurrentAt c (slice_get current (register_in scene top e i)) (level e)
      pub rest : (e i : ℕ) → Among e → k ≤ i → i < paths_counted top → CurrentAt c (slice_get current (register_in scene top e i)) (l.variables e)

    -- and at the next one those below an entity
    record KeepingTo (k j : ℕ) (current : List (Option ℕ)) : Type 0 where
      others : (f i : ℕ) → Variable f → (Among f → ⊥) → i < paths_counted top → EntityAt c scene (lane_of top i) current l f
      done : (e i : ℕ) → Among e → i < k → CurrentAt c (slice_get current (register_in scene top e i)) (level e)
      rest : (e i : ℕ) → Among e → suc k ≤ i → i < paths_counted top → CurrentAt c (slice_get current (register_in scene top e i)) (l.variables e)
      here : (e : ℕ) → Among e → e < j → CurrentAt c (slice_get current (register_in scene top e k)) (level e)

    keep_none : (current : List (Option ℕ)) → AreCurrent c scene top spaces shared Variable Read Own current l → Keeping 0 current
    keep_none current h = record {
      others = λ f i v out within. h f i v within;
      done = λ e i a less. absurd (never i less);
      rest = λ e i a from within. current_of c scene top spaces shared Variable Read Own g current e i (l.variables e) (targets e a).no_counter (h e i (targets e a).is within);
    }
      where
        never : (i : ℕ) → i < 0 → ⊥
        never i h = omega (arith, h)

    keep_begin : (k : ℕ) (current : List (Option ℕ)) → Keeping k current → KeepingTo k entity current
    keep_begin k current h = record {
      others = h.others;
      done = h.done;
      rest = λ e i a from within. h.rest e i a (omega (arith, from)) within;
      here = λ e a less. absurd (let f = a.0 in never e f less);
    }
      where
        never : (e : ℕ) → entity ≤ e → e < entity → ⊥
        never e f less = omega (arith, f, less)

    keep_end : (k m : ℕ) (current : List (Option ℕ)) → m ≡ entity + count → KeepingTo k m current → Keeping (suc k) current
    keep_end k m current is h = record { others = h.others; done = λ e i a less. by e i a (cases_last i k less); rest = h.rest }
      where
        by : (e i : ℕ) → Among e → (i < k) ⊎ (i ≡ k) → CurrentAt c (slice_get current (register_in scene top e i)) (level e)
        by e i a (inl less) = h.done e i a less
        by e i a (inr same) = subst (λ (n : ℕ). CurrentAt c (slice_get current (register_in scene top e n)) (level e)) (sym same) (h.here e a (let b = a.1 in omega (arith, b, is)))

    keep_one : (k j value : ℕ) (old new : List (Option ℕ)) → Among j → new ≡ slice_set old (register_in scene top j k) (Some value) → k < paths_counted top → register_in scene top j k < length old → HasClock c (level j) value → KeepingTo k j old
        → KeepingTo k (suc j) new
    keep_one k j value old new among same within room at h = record {
      others = λ f i v out less. other_kept f i v out less (counter_of scene f) refl (h.others f i v out less);
      done = λ e i a less. split e i a (omega (arith, less, within)) (h.done e i a less);
      rest = λ e i a from less. kept (register_in scene top e i) (l.variables e) (λ is. later e i a from less is) (h.rest e i a from less);
      here = λ e a less. last e a (cases_last e j less);
    }
      where
        reg : ℕ
        reg = register_in scene top j k

        own : IsTarget c scene top spaces shared Variable Read Own j
        own = targets j among

        here_now : (r e : ℕ) → e ≡ j → r ≡ reg → CurrentAt c (slice_get new r) (level e)
        here_now r e equal is =
            subst (λ (os : List (Option ℕ)). CurrentAt c (slice_get os r) (level e)) (sym same)
            (subst (λ (q : ℕ). CurrentAt c (slice_get (slice_set old (register_in scene top j k) (Some value)) q) (level e)) (sym is)
            (subst (λ (o : Option (Option ℕ)). CurrentAt c o (level e)) (sym (set_here old (register_in scene top j k) (Some value) room)) (subst (λ (i : ℕ). HasClock c (level i) value) (sym equal) at)))

        kept : (r n : ℕ) → (r ≡ reg → ⊥) → CurrentAt c (slice_get old r) n → CurrentAt c (slice_get new r) n
        kept r n other m =
            subst (λ (os : List (Option ℕ)). CurrentAt c (slice_get os r) n) (sym same) (subst (λ (o : Option (Option ℕ)). CurrentAt c o n) (sym (set_other old (register_in scene top j k) r (Some value) other)) m)

        -- it is no register of a path behind this one
        later : (e i : ℕ) → Among e → suc k ≤ i → i < paths_counted top → register_in scene top e i ≡ reg → ⊥
        later e i a from less is = never i from (apart_each e a i k less within (is ∙ sym (ap (λ (q : ℕ). register_in scene top q k) (g.apart e j i k (targets e a).is own.is (targets e a).no_counter own.no_counter less within is))))
          where
            never : (i : ℕ) → suc k ≤ i → i ≡ k → ⊥
            never i from same = omega (arith, from, same)

        split : (e i : ℕ) → Among e → i < paths_counted top → CurrentAt c (slice_get old (register_in scene top e i)) (level e) → CurrentAt c (slice_get new (register_in scene top e i)) (level e)
        split e i a less m = by (cases_eq (register_in scene top e i) reg)
          where
            by : (register_in scene top e i ≡ reg) ⊎ (register_in scene top e i ≡ reg → ⊥) → CurrentAt c (slice_get new (register_in scene top e i)) (level e)
            by (inl is) = here_now (register_in scene top e i) e (g.apart e j i k (targets e a).is own.is (targets e a).no_counter own.no_counter less within is) is
            by (inr other) = kept (register_in scene top e i) (level e) other m

        last : (e : ℕ) → Among e → (e < j) ⊎ (e ≡ j) → CurrentAt c (slice_get new (register_in scene top e k)) (level e)
        last e a (inl less) = split e k a within (h.here e a less)
        last e a (inr equal) = here_now (register_in scene top e k) e equal (ap (λ (i : ℕ). register_in scene top i k) equal)

        other_kept : (f i : ℕ) → Variable f → (Among f → ⊥) → i < paths_counted top → (o : Option Counter) → counter_of scene f ≡ o → VariableAt c (counter_of scene f) (held_at scene.held.now f) (lane_of top i) old (l.variables f)
            → VariableAt c (counter_of scene f) (held_at scene.held.now f) (lane_of top i) new (l.variables f)
        other_kept f i v out less None none m =
            variable_of c scene top spaces shared Variable Read Own g new f i (l.variables f) none
            (kept (register_in scene top f i) (l.variables f) (λ is. out (subst (λ (e : ℕ). IsVariableAmong entity count e) (sym (g.apart f j i k v own.is none own.no_counter less within is)) among))
            (current_of c scene top spaces shared Variable Read Own g old f i (l.variables f) none m))
        other_kept f i v out less (Some counter) is m =
            subst (λ (o : Option Counter). VariableAt c o (held_at scene.held.now f) (lane_of top i) new (l.variables f)) (sym is)
            (subst (λ (o : Option Counter). VariableAt c o (held_at scene.held.now f) (lane_of top i) old (l.variables f)) is m)

    -- all at one path
    keep_from : (k j : ℕ) (values : List ℕ) (old new : Values) (around : Around) → around.levels.now ≡ top.levels.now → k < paths_counted top → SetsFrom scene (lane_of around k) old new j values
        → ((e : ℕ) → j ≤ e → e < j + length values → Among e) → AreHeldAt c level j values → length old.current.items ≡ spaces → KeepingTo k j old.current.items
        → (length new.current.items ≡ spaces) × ((m : ℕ) → m ≡ j + length values → KeepingTo k m new.current.items)
    keep_from k j [] old new around same within s among at long h =
        subst (λ (v : Values). (length v.current.items ≡ spaces) × ((m : ℕ) → m ≡ j + 0 → KeepingTo k m v.current.items)) (sym s) (long, λ m e. subst (λ (i : ℕ). KeepingTo k i old.current.items) (sym (none m e)) h)
      where
        none : (m : ℕ) → m ≡ j + 0 → m ≡ j
        none m e = omega (arith, e)
    keep_from k j (v ∷ values) old new around same within (mid, (set, rest)) among at long h =
        let a : Assigns old mid (register_in scene top j k) k v = subst (λ (r : ℕ). Assigns old mid r k v) (register_under scene top around j k same) set in
        let own : Among j = among j (omega arith) (omega arith) in
        let r =
        keep_from k (suc j) values mid new around same within rest (λ e from below. among e (omega (arith, from)) (omega (arith, below))) at.1
        (ap (λ (os : List (Option ℕ)). length os) a.current ∙ (set_long old.current.items (register_in scene top j k) (Some v) ∙ long))
        (keep_one k j v old.current.items mid.current.items own a.current within (subst (λ (n : ℕ). register_in scene top j k < n) (sym long) (g.room j k (targets j own).is (targets j own).no_counter within)) at.0 h) in
        (r.0, λ m e. r.1 m (omega (arith, e)))

    -- behind all paths
    kept_all : (current : List (Option ℕ)) (made : Levels) → ((e : ℕ) → Among e → made.variables e ≡ level e) → ((f : ℕ) → (Among f → ⊥) → made.variables f ≡ l.variables f) → Keeping (paths_counted top) current → AreCurrent c scene top spaces shared Variable Read Own current made
    kept_all current made own other h f i v within = by (cases_lt f entity) (cases_lt f (entity + count))
      where
        low : f < entity → Among f → ⊥
        low less a = let b = a.0 in omega (arith, less, b)

        far : entity + count ≤ f → Among f → ⊥
        far more a = let b = a.1 in omega (arith, more, b)

        outside : (Among f → ⊥) → EntityAt c scene (lane_of top i) current made f
        outside out = subst (λ (n : ℕ). VariableAt c (counter_of scene f) (held_at scene.held.now f) (lane_of top i) current n) (sym (other f out)) (h.others f i v out within)

        by : (f < entity) ⊎ (entity ≤ f) → (f < entity + count) ⊎ (entity + count ≤ f) → EntityAt c scene (lane_of top i) current made f
        by (inl less) second = outside (low less)
        by (inr from) (inl below) =
            variable_of c scene top spaces shared Variable Read Own g current f i (made.variables f) (targets f (from, below)).no_counter
            (subst (λ (n : ℕ). CurrentAt c (slice_get current (register_in scene top f i)) n) (sym (own f (from, below))) (h.done f i (from, below) within))
        by (inr from) (inr more) = outside (far more)

  -- A view at all paths.
  module _ (around : Around) (outer first : ℕ) (l : Levels) (old : Building) (s : StandsFor c scene top spaces shared Variable Read Own around old outer first l) (entity : ℕ) (offsets : List Term) (few : first + terms_accesses (terms offsets) < 2 ^ 32)
      (owns : OwnsTerms c scene top spaces shared Variable Read Own outer first (terms offsets))
      (targets : (e : ℕ) → IsVariableAmong entity (length offsets) e → IsTarget c scene top spaces shared Variable Read Own e × ((i j : ℕ) → i < paths_counted top → j < paths_counted top → register_in scene top e i ≡ register_in scene top e j → i ≡ j))
      (reads : ReadsAgree c (kept_leveled shared outer entity (core_terms (known_in scene) first (terms offsets)) l) (first + terms_accesses (terms offsets))) where
    abbrev kept : Levels
    kept = kept_leveled shared outer entity (core_terms (known_in scene) first (terms offsets)) l

    abbrev made : Leveled
    made = all_leveled scene shared outer first (terms offsets) l

    abbrev accesses : ℕ
    accesses = terms_accesses (terms offsets)

    aims : (e : ℕ) → IsVariableAmong entity (length offsets) e → IsTarget c scene top spaces shared Variable Read Own e
    aims e a = (targets e a).0

    apart : (e : ℕ) → IsVariableAmong entity (length offsets) e → (i j : ℕ) → i < paths_counted top → j < paths_counted top → register_in scene top e i ≡ register_in scene top e j → i ≡ j
    apart e a = (targets e a).1

    abbrev Kept : (k : ℕ) → List (Option ℕ) → Type 0
    Kept k current = Keeping entity (length offsets) kept.variables l aims apart k current

    abbrev Lane_at : (k : ℕ) → Building → Type 0
    Lane_at k b = AtLane c scene top spaces shared Variable Read Own g around outer first l old s made.levels.most accesses accesses (λ current. Kept k current) k b

    most_is : kept.most ≡ made.levels.most
    most_is = kept_most shared outer (core_terms (known_in scene) first (terms offsets)) entity l

    level_few : (e : ℕ) → kept.variables e ≤ made.levels.most
    level_few e = subst (λ (n : ℕ). kept.variables e ≤ n) most_is (((kept_go scene shared (terms offsets) outer entity first l).bounded s.bounded).variables e)

    self : (n : ℕ) → n ≤ n
    self n = omega arith

    kept_step : (k : ℕ) (b d : Building) (n : ℕ) → MadeKept scene (lane_of around k) first entity offsets b d n → k < paths_counted top → Agrees c.block d.draft → AgreeInTime c d.draft
        → (TermsSuit c.block scene (lane_of around k) first (terms offsets) × AreNumbers (terms offsets)) × KeptFits c.block scene (lane_of around k) entity offsets → Lane_at k b → Lane_at (suc k) d
    kept_step k b d n m within agrees agree w h = record {
      extends = extends_again old.draft b.draft d.draft h.extends form.extends;
      noted = there.notes;
      held = there.held;
      long = sets.0;
      within =
          within_again c old.draft b.draft d.draft made.levels.most made.levels.most (self made.levels.most) h.within
          (within_again c b.draft m.middle d.draft made.levels.most made.levels.most (self made.levels.most) terms_is.timed_is.within (holds.within c agree begun values_at made.levels.most level_few));
      in_time = terms_is.timed_is.noted;
      given = given_more c scene top spaces shared Variable Read Own g around first accesses accesses k b.accesses d.accesses (self accesses) terms_is.given h.given;
      current = keep_end entity (length offsets) kept.variables l aims apart k (entity + length offsets) d.values.current.items refl (sets.1 (entity + length offsets) (ap (λ (i : ℕ). entity + i) (sym long)));
    }
      where
        lane : Lane
        lane = lane_of around k

        form : FormsAtPath scene lane b d (λ x. (TermsSuit x scene lane first (terms offsets) × AreNumbers (terms offsets)) × KeptFits x scene lane entity offsets)
        form = keeps_form scene lane first entity offsets b d n m few

        started : c.block.first ≤ length b.draft.operations.items
        started = lane_started c scene top spaces shared Variable Read Own g around outer first l old s made.levels.most accesses accesses (λ current. Kept k current) k b h

        there : FormsThere c.block b d
        there =
            form.forms c.block agrees started (lane_scope c scene top spaces shared Variable Read Own g around outer first l old s made.levels.most accesses accesses (λ current. Kept k current) k b within h) h.noted h.held w

        holds : HoldsTimed kept.variables entity m.values m.middle d.draft m.held
        holds = holds_timed scene kept.variables entity offsets m.values m.middle d.draft m.held m.holds

        here : IsHere c scene top spaces shared Variable Read Own g lane outer b.values.current.items b.draft m.middle b.accesses l
        here =
            lane_here c scene top spaces shared Variable Read Own g around outer first l old s made.levels.most accesses accesses (λ current. Kept k current) k b m.middle within h (agrees_before c.block m.middle d.draft holds.extends agrees)
            (agree_before c m.middle d.draft holds.extends agree)

        is_next : AreNext scene lane b.accesses first accesses
        is_next = lane_next c scene top spaces shared Variable Read Own g around outer first l old s accesses accesses k b.accesses owns.are.own within h.given

        vars : (e : ℕ) → Variable e → core_terms_mention e (core_terms (known_in scene) first (terms offsets)) ≡ true → EntityAt c scene lane b.values.current.items l e
        vars e v mentioned =
            entity_under c scene top spaces shared Variable Read Own g around b.values.current.items l e k s.under (by (cases_lt e entity) (cases_lt e (entity + length offsets)))
          where
            low : e < entity → IsVariableAmong entity (length offsets) e → ⊥
            low less a = let b = a.0 in omega (arith, less, b)

            far : entity + length offsets ≤ e → IsVariableAmong entity (length offsets) e → ⊥
            far more a = let b = a.1 in omega (arith, more, b)

            by : (e < entity) ⊎ (entity ≤ e) → (e < entity + length offsets) ⊎ (entity + length offsets ≤ e) → EntityAt c scene (lane_of top k) b.values.current.items l e
            by (inl less) second = h.current.others e k v (low less) within
            by (inr from) (inl below) =
                variable_of c scene top spaces shared Variable Read Own g b.values.current.items e k (l.variables e) (aims e (from, below)).no_counter (h.current.rest e k (from, below) (self k) within)
            by (inr from) (inr more) = h.current.others e k v (far more) within

        reads_all : ReadsAgree c made.levels (first + accesses)
        reads_all i site at less = sym (kept_reads shared outer (core_terms (known_in scene) first (terms offsets)) entity l i) ∙ reads i site at less

        terms_is : TermsHere c scene top spaces shared Variable Read Own g lane outer b.values.current.items b.draft m.middle b.accesses d.accesses first n l here (terms offsets) m.values
        terms_is =
            terms_here c scene top spaces shared Variable Read Own g lane outer b.values.current.items b.draft m.middle b.accesses d.accesses first n l here (terms offsets) m.values m.offsets_made few owns is_next w.0 vars reads_all

        values_at : AreHeldAt c kept.variables entity m.values
        values_at =
            at_held c scene shared outer offsets entity first l m.values
            (each_here lane outer b.values.current.items offsets b.draft m.middle b.accesses d.accesses first n m.values m.offsets_made few l here owns is_next w.0 vars reads_all)

        begun : c.block.first ≤ length m.middle.operations.items
        begun = time_later c b.draft m.middle terms_is.extends started

        long : length m.held ≡ length offsets
        long = kept_long scene lane first entity offsets b d n m

        sets : (length d.values.current.items ≡ spaces) × ((i : ℕ) → i ≡ entity + length m.held → KeepingTo entity (length offsets) kept.variables l aims apart k i d.values.current.items)
        sets =
            keep_from entity (length offsets) kept.variables l aims apart k entity m.held b.values d.values around s.under.levels within m.sets (λ e from below. (from, subst (λ (i : ℕ). e < entity + i) long below))
            (holds.at c agree begun values_at) h.long (keep_begin entity (length offsets) kept.variables l aims apart k b.values.current.items h.current)

    pub kept_paced : (new : Building) (next : ℕ) → KeptTo scene around first entity offsets (paths_counted top) old new next → Agrees c.block new.draft → AgreeInTime c new.draft
        → ((k : ℕ) → k < paths_counted top → (TermsSuit c.block scene (lane_of around k) first (terms offsets) × AreNumbers (terms offsets)) × KeptFits c.block scene (lane_of around k) entity offsets)
        → Paces c scene top spaces shared Variable Read Own old new kept (first + accesses)
    kept_paced new next m agrees agree suits =
        let h : Lane_at (paths_counted top) new =
        lanes_paced c scene top spaces shared Variable Read Own g around outer first l old s (λ k b d n. MadeKept scene (lane_of around k) first entity offsets b d n) made.levels.most accesses accesses (λ k current. Kept k current)
        (λ k b d n one. (keeps_form scene (lane_of around k) first entity offsets b d n one few).extends) (λ k b d n one within at in_time h. kept_step k b d n one within at in_time (suits k within) h) owns.are.own
        (keep_none entity (length offsets) kept.variables l aims apart old.values.current.items s.current) (paths_counted top) new next (self (paths_counted top)) m agrees agree in
        record {
          within = subst (λ (i : ℕ). Within c old.draft new.draft i) (sym most_is) h.within;
          in_time = h.in_time;
          current = kept_all entity (length offsets) kept.variables l aims apart new.values.current.items kept (λ e a. refl) (λ f out. kept_others c scene shared outer offsets entity first l f out) h.current;
          given = given_end c scene top spaces shared Variable Read Own g first accesses accesses new.accesses (λ e read among. among) h.given;
        }
