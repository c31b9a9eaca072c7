-- When expressions are there: by recursion on the expression, each part behind those before it.
use Rattle.std.proofs.Common.{◌≡◌, ℕ, suc, ◌+◌, ◌^◌, ◌<◌, ◌≤◌, true, List, Some, None, sym, ap, ◌∙◌, subst, arith, length, map, add-one}
use Rattle.std.specs.Prelude.{Bool as Truth, [], ◌∷◌, ◌++◌, ◌||◌, ◌==◌, max, slice_get, Option}
use Rattle.std.specs.List.{AllByRecursion}
use Rattle.dh_base.specs.declared.places.Place.{Place}
use Rattle.dh_value.specs.declared.kinds.Kind.{Kind}
use Rattle.dh_value.specs.declared.operators.Op.{Op}
use Rattle.dh_value.specs.Operations.{truth}
use Rattle.dh_tree.specs.declared.trees.counters.Counter.{Counter}
use Rattle.dh_tree.specs.declared.trees.expressions.Ref.{Ref}
use Rattle.dh_tree.specs.PlainTrees as plain
use Rattle.dh_meaning.specs.AccessNumbers.{term_accesses, terms_accesses}
use Rattle.dh_meaning.specs.Bindings.{kind_found, kind_or_first}
use Rattle.dh_meaning.specs.Core.{CoreTerms}
use Rattle.dh_meaning.specs.CoreOf.{core_term, core_terms, entity_number, kept_terms, memory_of, reach_of, target_to, way_of}
use Rattle.dh_meaning.specs.Levels.{Leveled, Levels, greatest, read_leveled, terms_leveled}
use Rattle.dh_meaning.specs.Ways.{Hidden, Way}
use Rattle.dh_code.specs.Slots.{held_at}
use Rattle.dh_plan.specs.declared.operations.ReachStep.{ReachStep}
use Rattle.dh_plan.specs.LegalSchedules.{greatest_number}
use Rattle.dh_plan.specs.Ordered.{offsets_taken, one_or_none}
use Rattle.dh_plan.specs.PlanPhases.{target_mentions, term_mentions, core_terms_mention}
use Rattle.dh_expressions.specs.declared.accesses.Accesses.{Accesses}
use Rattle.dh_expressions.specs.declared.drafts.Draft.{Draft}
use Rattle.dh_expressions.specs.declared.elements.Aim.{Aim}
use Rattle.dh_expressions.specs.declared.scenes.Lane.{Lane}
use Rattle.dh_expressions.specs.declared.scenes.Scene.{Scene}
use Rattle.dh_formed.specs.Counted.{HaveGiven, ExpressionBegins}
use Rattle.dh_expressions.specs.Drafted.{Extends}
use Rattle.dh_expressions.specs.Evaluated.{counter_of, hidden_register}
use Rattle.dh_expressions.specs.Named.{first_view, known_in}
use Rattle.dh_formed.specs.Formed.{Agrees, AreNumbers, FormedBlock, FormsAim, FormsPart, HiddenSuits, NamedSuits, ReadSuits, TermSuits, TermsSuit, WaySuits}
use Rattle.dh_expressions.specs.MadeTerms.{MadeHidden, MadeRead, MadeSteps, MadeTerm, MadeTerms, MadeThrough, MadeWay}
use Rattle.dh_formed.specs.Timed.{AgreeInTime, AreBounded, BlockClocks, CurrentAt, EntityAt, HasClock, LevelsThen, NotedInTime, ReadsAgree, StandsInTime, TimesAim, TimesTerm, TimesTerms, TimesValue, VariableAt, Within, aim_clock, all_leveled, clock_of, leveled, named_leveled}
use Rattle.dh_formed.proofs.ElementsFormed.{read_forms}
use Rattle.dh_formed.proofs.LevelsBehind.{all_levels_behind, levels_behind, named_level, named_levels, named_levels_behind, operation_leveled, read_grows, read_keeps, way_level}
use Rattle.dh_formed.proofs.NamedTargets.{named_mentions, way_mentions}
use Rattle.dh_formed.proofs.ReadsTimed.{greatest_append, read_timed}
use Rattle.dh_formed.proofs.TermsCounted.{AllMention, Mentions, NamedMention, all_counted, counted, itself, left_of, operation_mentions, right_of, stands_behind, stands_first, through_counted}
use Rattle.dh_formed.proofs.TermsFormed.{all_formed, all_numbered, formed, hidden_long, numbered, through_made, way_part}
use Rattle.dh_formed.proofs.ValuesFormed.{agrees_before}
use Rattle.dh_formed.proofs.ValuesTimed.{agree_before, converted_timed, number_timed, operation_timed, shown_timed, time_later, variable_timed, within_again, within_more, within_none, word_timed}
use Rattle.dh_formed.proofs.WaysFormed.{steps_take}
use Rattle.dh_expressions.proofs.Pushing.{extends_again, extends_self}

module _ (c : BlockClocks) (scene : Scene) (lane : Lane) (current : List (Option ℕ)) (shared : ℕ → Option ℕ) (outer : ℕ) where
  abbrev InTime : (old new : Draft) → (before : Accesses) → (n count : ℕ) → Levels → Type 0
  InTime old new before n count l = StandsInTime c old new scene lane current before shared outer n count l

  abbrev Variables : (ℕ → Type 0) → Levels → Type 0
  Variables M l = (e : ℕ) → M e → EntityAt c scene lane current l e

  variables_later : (M : ℕ → Type 0) (l k : Levels) → ((e : ℕ) → k.variables e ≡ l.variables e) → Variables M l → Variables M k
  variables_later M l k same h = λ e m. subst (λ (v : ℕ). VariableAt c (counter_of scene e) (held_at scene.held.now e) lane current v) (sym (same e)) (h e m)

  time_first : (old middle new : Draft) (before : Accesses) (n a b : ℕ) (l : Levels) → Agrees c.block middle → AgreeInTime c middle → InTime old new before n (a + b) l → InTime old middle before n a l
  time_first old middle new before n a b l at agree s = record {
    stands = stands_first c.block scene lane current old middle new before n a b at s.stands;
    agree = agree;
    bounded = s.bounded;
    guards = s.guards;
    noted = s.noted;
    outer_few = s.outer_few;
    outers = λ m from below. s.outers m from (omega (arith, below));
    shares = λ m from below. s.shares m from (omega (arith, below));
  }

  time_behind : (old middle new : Draft) (before between : Accesses) (n a b : ℕ) (l : Levels) (made : Leveled) (Where : FormedBlock → Type 0) → FormsPart scene lane current old middle before between Where → Where c.block → Agrees c.block middle
      → HaveGiven lane before between n a → LevelsThen n a l made → NotedInTime c between → InTime old new before n (a + b) l → InTime middle new between (n + a) b made.levels
  time_behind old middle new before between n a b l made Where f w at_middle g h noted s = record {
    stands = stands_behind c.block scene lane current old middle new before between n a b Where f w at_middle s.stands.agrees g s.stands;
    agree = s.agree;
    bounded = h.bounded s.bounded;
    guards = s.guards;
    noted = noted;
    outer_few = let o = s.outer_few in let m = h.more in omega (arith, o, m);
    outers = λ m from below. s.outers m (omega (arith, from)) (omega (arith, below));
    shares = λ m from below. s.shares m (omega (arith, from)) (omega (arith, below));
  }

  -- the reads before the second part have their levels
  reads_before : (n a b : ℕ) (l : Levels) (made : Leveled) → LevelsThen (n + a) b l made → ReadsAgree c made.levels (n + a + b) → ReadsAgree c l (n + a)
  reads_before n a b l made h reads = λ m s at less. sym (h.before_them m less) ∙ reads m s at (omega (arith, less))

  reads_to : (k m : ℕ) (l : Levels) → k ≡ m → ReadsAgree c l k → ReadsAgree c l m
  reads_to k m l same h = subst (λ (i : ℕ). ReadsAgree c l i) same h

  abbrev Timed : plain.Term → Type 0
  Timed t = (old new : Draft) (before after : Accesses) (n next v : ℕ) → MadeTerm scene lane current t old new before after n next v → n + term_accesses t < 2 ^ 32
      → (l : Levels) → InTime old new before n (term_accesses t) l → TermSuits c.block scene lane n t → Variables (Mentions c.block scene lane current n t) l → ReadsAgree c (leveled scene shared outer n t l).levels (n + term_accesses t)
      → TimesTerm c old new after (leveled scene shared outer n t l) v

  abbrev AllTimed : plain.Terms → Type 0
  AllTimed ts = (old new : Draft) (before after : Accesses) (n next : ℕ) (vs : List ℕ) → MadeTerms scene lane current ts old new before after n next vs → n + terms_accesses ts < 2 ^ 32
      → (l : Levels) → InTime old new before n (terms_accesses ts) l → TermsSuit c.block scene lane n ts × AreNumbers ts → Variables (AllMention c.block scene lane current n ts) l → ReadsAgree c (all_leveled scene shared outer n ts l).levels (n + terms_accesses ts)
      → TimesTerms c old new after (all_leveled scene shared outer n ts l) vs

  -- a value that no access is in
  alone_timed : (old new : Draft) (before after : Accesses) (v level : ℕ) (l : Levels) (Where : BlockClocks → Type 0) → after ≡ before → TimesValue old new v Where (λ d. level) → Where c → level ≤ l.most → AgreeInTime c new → c.block.first ≤ length old.operations.items → NotedInTime c before
      → TimesTerm c old new after (record { level = level; levels = l }) v
  alone_timed old new before after v level l Where same f w few agree started noted = record {
    within = within_more c old new level l.most few (f.within c agree started w);
    at = f.at c agree started w;
    noted = subst (λ (a : Accesses). NotedInTime c a) (sym same) noted;
  }

  self : (n : ℕ) → n ≤ n
  self n = omega arith

  timed_none : AllTimed plain.no_terms
  timed_none old new before after n next vs m few l s w vars reads = record {
    within = λ k far less. absurd (never k far less);
    at = ap (λ (us : List ℕ). greatest_number (map (clock_of c) us)) m.none;
    noted = subst (λ (a : Accesses). NotedInTime c a) (sym m.same) s.noted;
  }
    where
      never : (k : ℕ) → length old.operations.items ≤ k → k < length new.operations.items → ⊥
      never k far less = let e : length new.operations.items ≡ length old.operations.items = ap (λ (d : Draft). length d.operations.items) m.still in omega (arith, e, far, less)

  timed_then : (t : plain.Term) (ts : plain.Terms) → Timed t → AllTimed ts → AllTimed (plain.term_then t ts)
  timed_then t ts one rest old new before after n next vs m few l s w vars reads = record {
    within = within_again c old m.middle new first.levels.most (all_leveled scene shared outer (n + term_accesses t) ts first.levels).levels.most behind.more f.within g.within;
    at = ap (λ (us : List ℕ). greatest_number (map (clock_of c) us)) m.values_are ∙ (ap (λ k. max k (greatest_number (map (clock_of c) m.more))) f.at ∙ ap (λ k. max first.level k) g.at);
    noted = g.noted;
  }
    where
      first : Leveled
      first = leveled scene shared outer n t l

      own : m.own ≡ n + term_accesses t
      own = numbered scene lane current t old m.middle before m.between n m.own m.a m.first (omega (arith, few))

      moved : MadeTerms scene lane current ts m.middle new m.between after (n + term_accesses t) next m.more
      moved = subst (λ (i : ℕ). MadeTerms scene lane current ts m.middle new m.between after i next m.more) own m.rest

      part : FormsPart scene lane current old m.middle before m.between (λ y. TermSuits y scene lane n t)
      part = (formed scene lane current t old m.middle before m.between n m.own m.a m.first (omega (arith, few))).part

      more : Extends m.middle new
      more = (all_formed scene lane current ts m.middle new m.between after (n + term_accesses t) next m.more moved (omega (arith, few))).part.extends

      at_middle : Agrees c.block m.middle
      at_middle = agrees_before c.block m.middle new more s.stands.agrees

      here : InTime old m.middle before n (term_accesses t) l
      here = time_first old m.middle new before n (term_accesses t) (terms_accesses ts) l at_middle (agree_before c m.middle new more s.agree) s

      behind : LevelsThen (n + term_accesses t) (terms_accesses ts) first.levels (all_leveled scene shared outer (n + term_accesses t) ts first.levels)
      behind = all_levels_behind scene shared outer ts (n + term_accesses t) first.levels

      told : ReadsAgree c (all_leveled scene shared outer (n + term_accesses t) ts first.levels).levels (n + term_accesses t + terms_accesses ts)
      told = reads_to (n + (term_accesses t + terms_accesses ts)) (n + term_accesses t + terms_accesses ts) (all_leveled scene shared outer (n + term_accesses t) ts first.levels).levels (omega arith) reads

      f : TimesTerm c old m.middle m.between first m.a
      f = one old m.middle before m.between n m.own m.a m.first (omega (arith, few)) l here w.0.0 (λ e k. vars e (left_of _ _ k)) (reads_before n (term_accesses t) (terms_accesses ts) first.levels _ behind told)

      g : TimesTerms c m.middle new after (all_leveled scene shared outer (n + term_accesses t) ts first.levels) m.more
      g = rest m.middle new m.between after (n + term_accesses t) next m.more moved (omega (arith, few)) first.levels
          (time_behind old m.middle new before m.between n (term_accesses t) (terms_accesses ts) l first _ part w.0.0 at_middle
          (counted c.block scene lane current t old m.middle before m.between n m.own m.a m.first (omega (arith, few)) here.stands w.0.0).given (levels_behind scene shared outer t n l) f.noted s)
          (w.0.1, w.1.1) (variables_later _ l first.levels (levels_behind scene shared outer t n l).variables (λ e k. vars e (right_of (term_mentions e (core_term (known_in scene) n t)) _ k))) told

  timed_two : (place : Place) (k : Option Kind) (o : Op) (x y : plain.Term) → Timed x → Timed y → Timed (plain.term place k (plain.applied o x y))
  timed_two place k o x y one two old new before after n next v m few l s w vars reads =
      subst (λ (q : Leveled). TimesTerm c old new after q v) is (record {
        within =
            within_again c old m.end new second.levels.most second.levels.most (self second.levels.most) (within_again c old m.middle m.end first.levels.most second.levels.most behind.more f.within g.within)
            (within_more c m.end new (max first.level second.level) second.levels.most (join first.level second.level first.levels.most second.levels.most ((levels_behind scene shared outer x n l).level_few s.bounded) behind.more (behind.level_few ((levels_behind scene shared outer x n l).bounded s.bounded)))
            (made.within c s.agree began (f.at, g.at)));
        at = made.at c s.agree began (f.at, g.at);
        noted = g.noted;
      })
    where
      first : Leveled
      first = leveled scene shared outer n x l

      second : Leveled
      second = leveled scene shared outer (n + term_accesses x) y first.levels

      is : greatest first.level second ≡ leveled scene shared outer n (plain.term place k (plain.applied o x y)) l
      is = operation_leveled shared outer o (kind_found x) (kind_found y) (core_term (known_in scene) n x) (core_term (known_in scene) (n + term_accesses x) y) l

      join : (a b p q : ℕ) → a ≤ p → p ≤ q → b ≤ q → max a b ≤ q
      join a b p q e h i = omega (arith, e, h, i)

      own : m.own ≡ n + term_accesses x
      own = numbered scene lane current x old m.middle before m.between n m.own m.a m.first (omega (arith, few))

      moved : MadeTerm scene lane current y m.middle m.end m.between after (n + term_accesses x) next m.b
      moved = subst (λ (i : ℕ). MadeTerm scene lane current y m.middle m.end m.between after i next m.b) own m.second

      part : FormsPart scene lane current old m.middle before m.between (λ z. TermSuits z scene lane n x)
      part = (formed scene lane current x old m.middle before m.between n m.own m.a m.first (omega (arith, few))).part

      more : Extends m.middle m.end
      more = (formed scene lane current y m.middle m.end m.between after (n + term_accesses x) next m.b moved (omega (arith, few))).part.extends

      made : TimesValue m.end new v (λ d. HasClock d first.level m.a × HasClock d second.level m.b) (λ d. max first.level second.level)
      made = operation_timed o x y m.a m.b (λ d. first.level) (λ d. second.level) m.end new v m.operation

      at_end : Agrees c.block m.end
      at_end = agrees_before c.block m.end new made.extends s.stands.agrees

      agree_end : AgreeInTime c m.end
      agree_end = agree_before c m.end new made.extends s.agree

      at_middle : Agrees c.block m.middle
      at_middle = agrees_before c.block m.middle m.end more at_end

      whole : InTime old m.end before n (term_accesses x + term_accesses y) l
      whole = record {
        stands = record { agrees = at_end; started = s.stands.started; scope = s.stands.scope; noted = s.stands.noted; next = s.stands.next };
        agree = agree_end;
        bounded = s.bounded;
        guards = s.guards;
        noted = s.noted;
        outer_few = s.outer_few;
        outers = s.outers;
        shares = s.shares;
      }

      here : InTime old m.middle before n (term_accesses x) l
      here = time_first old m.middle m.end before n (term_accesses x) (term_accesses y) l at_middle (agree_before c m.middle m.end more agree_end) whole

      behind : LevelsThen (n + term_accesses x) (term_accesses y) first.levels second
      behind = levels_behind scene shared outer y (n + term_accesses x) first.levels

      told : ReadsAgree c second.levels (n + term_accesses x + term_accesses y)
      told =
          subst (λ (q : Leveled). ReadsAgree c q.levels (n + term_accesses x + term_accesses y)) (sym is)
          (reads_to (n + (term_accesses x + term_accesses y)) (n + term_accesses x + term_accesses y) (leveled scene shared outer n (plain.term place k (plain.applied o x y)) l).levels (omega arith) reads)

      mentioned : (e : ℕ) → (term_mentions e (core_term (known_in scene) n x) || term_mentions e (core_term (known_in scene) (n + term_accesses x) y)) ≡ true → EntityAt c scene lane current l e
      mentioned e q = vars e (sym (operation_mentions e o (kind_found x) (kind_found y) (core_term (known_in scene) n x) (core_term (known_in scene) (n + term_accesses x) y)) ∙ q)

      f : TimesTerm c old m.middle m.between first m.a
      f = one old m.middle before m.between n m.own m.a m.first (omega (arith, few)) l here w.0.0 (λ e q. mentioned e (left_of _ _ q)) (reads_before n (term_accesses x) (term_accesses y) first.levels second behind told)

      g : TimesTerm c m.middle m.end after second m.b
      g = two m.middle m.end m.between after (n + term_accesses x) next m.b moved (omega (arith, few)) first.levels
          (time_behind old m.middle m.end before m.between n (term_accesses x) (term_accesses y) l first _ part w.0.0 at_middle
          (counted c.block scene lane current x old m.middle before m.between n m.own m.a m.first (omega (arith, few)) here.stands w.0.0).given (levels_behind scene shared outer x n l) f.noted whole)
          w.0.1 (variables_later _ l first.levels (levels_behind scene shared outer x n l).variables (λ e q. mentioned e (right_of (term_mentions e (core_term (known_in scene) n x)) _ q))) told

      began : c.block.first ≤ length m.end.operations.items
      began = time_later c m.middle m.end more (time_later c old m.middle part.extends s.stands.started)

  timed_one : (place : Place) (k : Option Kind) (inner : plain.Term) (to : Kind) → Timed inner → Timed (plain.term place k (plain.converted inner to))
  timed_one place k inner to one old new before after n next v m few l s w vars reads = record {
    within =
        within_again c old m.middle new first.levels.most first.levels.most (self first.levels.most) f.within
        (within_more c m.middle new first.level first.levels.most ((levels_behind scene shared outer inner n l).level_few s.bounded) (made.within c s.agree began f.at));
    at = made.at c s.agree began f.at;
    noted = f.noted;
  }
    where
      first : Leveled
      first = leveled scene shared outer n inner l

      made : TimesValue m.middle new v (λ d. HasClock d first.level m.a) (λ d. first.level)
      made = converted_timed inner to m.a (λ d. first.level) m.middle new v m.converts

      here : InTime old m.middle before n (term_accesses inner) l
      here = record {
        stands = record { agrees = agrees_before c.block m.middle new made.extends s.stands.agrees; started = s.stands.started; scope = s.stands.scope; noted = s.stands.noted; next = s.stands.next };
        agree = agree_before c m.middle new made.extends s.agree;
        bounded = s.bounded;
        guards = s.guards;
        noted = s.noted;
        outer_few = s.outer_few;
        outers = s.outers;
        shares = s.shares;
      }

      f : TimesTerm c old m.middle after first m.a
      f = one old m.middle before after n next m.a m.operand few l here w.0 vars reads

      began : c.block.first ≤ length m.middle.operations.items
      began = time_later c old m.middle (formed scene lane current inner old m.middle before after n next m.a m.operand few).part.extends s.stands.started

  -- Reads: the values of the element first, then the read itself.

  indices_clock : (memory level behind : ℕ) (aim : Aim) → aim.row ≡ None → greatest_number (map (clock_of c) aim.indices) ≡ level → greatest_number (map (clock_of c) (offsets_taken aim.steps)) ≡ behind → aim_clock c memory aim ≡ max level behind
  indices_clock memory level behind aim none at offsets =
      greatest_append (clock_of c) aim.indices (offsets_taken aim.steps ++ one_or_none aim.row)
      ∙ (ap (λ k. max k (greatest_number (map (clock_of c) (offsets_taken aim.steps ++ one_or_none aim.row)))) at
      ∙ ap (λ k. max level k) (greatest_append (clock_of c) (offsets_taken aim.steps) (one_or_none aim.row)
      ∙ (ap (λ k. max k (greatest_number (map (clock_of c) (one_or_none aim.row)))) offsets ∙ (ap (λ (o : Option ℕ). max behind (greatest_number (map (clock_of c) (one_or_none o)))) none ∙ alone behind))))
    where
      alone : (n : ℕ) → max n 0 ≡ n
      alone n = omega arith

  row_clock : (memory level value : ℕ) (aim : Aim) → aim.indices ≡ [] → aim.steps ≡ [] → aim.row ≡ Some value → clock_of c value ≡ level → aim_clock c memory aim ≡ level
  row_clock memory level value aim none still is at =
      greatest_append (clock_of c) aim.indices (offsets_taken aim.steps ++ one_or_none aim.row)
      ∙ (ap (λ (vs : List ℕ). max (greatest_number (map (clock_of c) vs)) (greatest_number (map (clock_of c) (offsets_taken aim.steps ++ one_or_none aim.row)))) none
      ∙ (ap (λ (ss : List ReachStep). max 0 (greatest_number (map (clock_of c) (offsets_taken ss ++ one_or_none aim.row)))) still
      ∙ (ap (λ (o : Option ℕ). max 0 (greatest_number (map (clock_of c) (one_or_none o)))) is ∙ (ap (λ k. max 0 (max k 0)) at ∙ alone level))))
    where
      alone : (n : ℕ) → max 0 (max n 0) ≡ n
      alone n = omega arith

  -- Variables that keep offsets, each at its own level.

  abbrev HiddenAt : Levels → List Hidden → Type 0
  HiddenAt k hs = AllByRecursion (λ h. CurrentAt c (slice_get current (hidden_register scene lane h)) (k.variables h.entity)) hs

  kept_at : (hs : List Hidden) (k : Levels) → Variables (λ e. core_terms_mention e (kept_terms hs) ≡ true) k → AllByRecursion (HiddenSuits c.block scene lane) hs → HiddenAt k hs
  kept_at [] k more suits = tt
  kept_at (h ∷ hs) k more suits = (
    subst (λ (o : Option Counter). VariableAt c o (held_at scene.held.now h.entity) lane current (k.variables h.entity)) suits.0.counter
        (more h.entity (left_of (h.entity == h.entity) (core_terms_mention h.entity (kept_terms hs)) (itself h.entity))),
    kept_at hs k (λ e q. more e (right_of (e == h.entity) (core_terms_mention e (kept_terms hs)) q)) suits.1,
  )

  hidden_extends : (hs : List Hidden) (old new : Draft) (values : List ℕ) → MadeHidden scene lane current hs old new values → Extends old new
  hidden_extends [] old new values m = subst (λ (d : Draft). Extends old d) (sym m.0) (extends_self old)
  hidden_extends (h ∷ hs) old new values (d, (v, (more, (shown, (rest, are))))) =
      extends_again old d new (shown_timed current (hidden_register scene lane h) (λ x. 0) old d v shown).extends (hidden_extends hs d new more rest)

  hidden_timed : (hs : List Hidden) (k : Levels) → AreBounded k → HiddenAt k hs → (old new : Draft) (values : List ℕ) → MadeHidden scene lane current hs old new values → AgreeInTime c new → c.block.first ≤ length old.operations.items
      → Within c old new k.most × (greatest_number (map (clock_of c) values) ≡ (terms_leveled shared outer (kept_terms hs) k).level)
  hidden_timed [] k bounded sees old new values m agree started = (within_none c old new k.most m.0, ap (λ (us : List ℕ). greatest_number (map (clock_of c) us)) m.1)
  hidden_timed (h ∷ hs) k bounded sees old new values (d, (v, (more, (shown, (rest, are))))) agree started =
      hidden_then h k old d new values v more (terms_leveled shared outer (kept_terms hs) k).level bounded sees.0 are
      (shown_timed current (hidden_register scene lane h) (λ x. k.variables h.entity) old d v shown) (hidden_extends hs d new more rest) agree started
      (λ began. hidden_timed hs k bounded sees.1 d new more rest agree began)
    where
      hidden_then : (h : Hidden) (k : Levels) (old d new : Draft) (values : List ℕ) (v : ℕ) (more : List ℕ) (level : ℕ) → AreBounded k → CurrentAt c (slice_get current (hidden_register scene lane h)) (k.variables h.entity) → values ≡ v ∷ more
          → TimesValue old d v (λ x. CurrentAt x (slice_get current (hidden_register scene lane h)) (k.variables h.entity)) (λ x. k.variables h.entity) → Extends d new → AgreeInTime c new → c.block.first ≤ length old.operations.items
          → (c.block.first ≤ length d.operations.items → Within c d new k.most × (greatest_number (map (clock_of c) more) ≡ level))
          → Within c old new k.most × (greatest_number (map (clock_of c) values) ≡ max (k.variables h.entity) level)
      hidden_then h k old d new values v more level bounded see are made extends agree started rest =
          let before = agree_before c d new extends agree in
          let behind = rest (time_later c old d made.extends started) in (
            within_again c old d new (k.variables h.entity) k.most (bounded.variables h.entity) (made.within c before started see) behind.0,
            ap (λ (us : List ℕ). greatest_number (map (clock_of c) us)) are
                ∙ (ap (λ j. max j (greatest_number (map (clock_of c) more))) (made.at c before started see) ∙ ap (λ j. max (k.variables h.entity) j) behind.1),
          )

  -- what stands behind indices: nothing for a memory, for a view the steps of its way
  way_timed : (way : Option Way) (memory first : ℕ) (k : Levels) (ts : CoreTerms) → AreBounded k → Variables (λ e. target_mentions e (target_to way ts) ≡ true) k → WaySuits c.block scene lane memory first way
      → (old new : Draft) (steps : List ReachStep) → MadeWay scene lane current old new first way steps → AgreeInTime c new → c.block.first ≤ length old.operations.items
      → Within c old new k.most × (greatest_number (map (clock_of c) (offsets_taken steps)) ≡ way_level shared outer way k)
  way_timed None memory first k ts bounded vars suits old new steps m agree started =
      (within_none c old new k.most m.0, ap (λ (ss : List ReachStep). greatest_number (map (clock_of c) (offsets_taken ss))) m.1)
  way_timed (Some w) memory first k ts bounded vars suits old new steps m agree started =
      steps_timed w memory first k old new steps m suits (hidden_timed w.hidden k bounded (kept_at w.hidden k (λ e q. vars e (way_mentions w e ts q)) suits.0) old new m.values m.hidden agree started)
    where
      steps_timed : (w : Way) (memory first : ℕ) (k : Levels) (old new : Draft) (steps : List ReachStep) (m : MadeSteps scene lane current old new first w steps) → WaySuits c.block scene lane memory first (Some w)
          → Within c old new k.most × (greatest_number (map (clock_of c) m.values) ≡ (terms_leveled shared outer (kept_terms w.hidden) k).level)
          → Within c old new k.most × (greatest_number (map (clock_of c) (offsets_taken steps)) ≡ (terms_leveled shared outer (kept_terms w.hidden) k).level)
      steps_timed w memory first k old new steps m suits h = (
        h.0,
        ap (λ (ss : List ReachStep). greatest_number (map (clock_of c) (offsets_taken ss))) m.steps_are
            ∙ (ap (λ (vs : List ℕ). greatest_number (map (clock_of c) vs)) (steps_take c.block scene.through.now memory w.steps first (length w.hidden) w.is.shape.dims m.values long suits.1) ∙ h.1),
      )
        where
          long : length m.values ≡ length w.hidden
          long = hidden_long scene lane current w.hidden old new m.values m.hidden

  module _ (place : Place) (k : Option Kind) (form : plain.TermForm) (r : Ref) (old middle new : Draft) (before between after : Accesses) (n count : ℕ) (l : Levels) (first : Leveled) (aim : Aim) (v : ℕ)
      (own : aim.number ≡ n + count) (levels : LevelsThen n count l first)
      (m : MadeRead scene lane (plain.term place k form) (memory_of (known_in scene) r) aim middle new between after v)
      (s : InTime middle new between (n + count) 1 first.levels) (suits : ReadSuits c.block scene lane (memory_of (known_in scene) r) (n + count) place form (kind_or_first k))
      (at : aim_clock c (memory_of (known_in scene) r) aim ≡ first.level) (front : Within c old middle first.levels.most) (bounded : AreBounded l)
      (reads : ReadsAgree c (read_leveled shared outer (reach_of (known_in scene) (n + count) place r) first).levels (n + suc count)) where
    abbrev final : Leveled
    final = read_leveled shared outer (reach_of (known_in scene) (n + count) place r) first

    grown : first.levels.most ≤ final.levels.most
    grown = read_grows shared outer (reach_of (known_in scene) (n + count) place r) first

    stood : ExpressionBegins c.block middle new scene lane current between aim.number 1
    stood = subst (λ (i : ℕ). ExpressionBegins c.block middle new scene lane current between i 1) (sym own) s.stands

    suited : ReadSuits c.block scene lane (memory_of (known_in scene) r) aim.number place form (kind_or_first k)
    suited = subst (λ (i : ℕ). ReadSuits c.block scene lane (memory_of (known_in scene) r) i place form (kind_or_first k)) (sym own) suits

    here : aim.number < n + count + 1
    here = let e = own in omega (arith, e)

    from : n + count ≤ aim.number
    from = let e = own in omega (arith, e)

    fewer : (a b d : ℕ) → a ≤ b → b ≤ d → a ≤ d
    fewer a b d e f = omega (arith, e, f)

    read_part : TimesTerm c middle new after final v
    read_part =
        read_timed c scene lane current (plain.term place k form) (memory_of (known_in scene) r) aim outer shared middle new between after v (kind_or_first k) m stood suited s.agree s.guards s.noted
        (s.outers aim.number from here) (s.shares aim.number from here) first (reach_of (known_in scene) (n + count) place r) (sym own) at
        (λ i o site less. reads i o site (let e = own in omega (arith, less, e)))
        (fewer outer first.levels.most final.levels.most s.outer_few grown) (fewer first.level first.levels.most final.levels.most (levels.level_few bounded) grown)

    read_behind : TimesTerm c old new after final v
    read_behind = record {
      within = within_again c old middle new first.levels.most final.levels.most grown front read_part.within;
      at = read_part.at;
      noted = read_part.noted;
    }

  -- indices with the steps of the way of what they name
  aim_timed : (r : Ref) (ts : plain.Terms) → AllTimed ts → (old named new : Draft) (before after : Accesses) (n : ℕ) (aim : Aim) → aim.row ≡ None → MadeTerms scene lane current ts old named before after n aim.number aim.indices
      → MadeWay scene lane current named new (first_view scene r) (way_of (known_in scene) r) aim.steps → n + terms_accesses ts < 2 ^ 32
      → (l : Levels) → InTime old new before n (terms_accesses ts) l → NamedSuits c.block scene lane n r ts → Variables (NamedMention c.block scene lane current n r ts) l
      → ReadsAgree c (named_leveled scene shared outer n r ts l).levels (n + terms_accesses ts)
      → TimesAim c old new after (named_leveled scene shared outer n r ts l) (memory_of (known_in scene) r) aim
  aim_timed r ts all old named new before after n aim row m steps few l s w vars reads = record {
    within = subst (λ (k : Levels). Within c old new k.most) (sym same) (within_again c old named new first.levels.most first.levels.most (self first.levels.most) f.within way.0);
    at =
        indices_clock (memory_of (known_in scene) r) first.level (way_level shared outer (way_of (known_in scene) r) first.levels) aim row f.at way.1
        ∙ sym (named_level shared outer (way_of (known_in scene) r) (core_terms (known_in scene) n ts) l);
    noted = f.noted;
  }
    where
      first : Leveled
      first = all_leveled scene shared outer n ts l

      same : (named_leveled scene shared outer n r ts l).levels ≡ (all_leveled scene shared outer n ts l).levels
      same = named_levels shared outer (way_of (known_in scene) r) (core_terms (known_in scene) n ts) l

      behind : LevelsThen n (terms_accesses ts) l (all_leveled scene shared outer n ts l)
      behind = all_levels_behind scene shared outer ts n l

      more : Extends named new
      more = (way_part scene lane current (way_of (known_in scene) r) (memory_of (known_in scene) r) (first_view scene r) named new after aim.steps steps).extends

      at_named : Agrees c.block named
      at_named = agrees_before c.block named new more s.stands.agrees

      here : InTime old named before n (terms_accesses ts) l
      here = record {
        stands = record { agrees = at_named; started = s.stands.started; scope = s.stands.scope; noted = s.stands.noted; next = s.stands.next };
        agree = agree_before c named new more s.agree;
        bounded = s.bounded;
        guards = s.guards;
        noted = s.noted;
        outer_few = s.outer_few;
        outers = s.outers;
        shares = s.shares;
      }

      mentioned : Variables (AllMention c.block scene lane current n ts) l
      mentioned e q = vars e (named_mentions (way_of (known_in scene) r) e (core_terms (known_in scene) n ts) q)

      f : TimesTerms c old named after (all_leveled scene shared outer n ts l) aim.indices
      f = all old named before after n aim.number aim.indices m few l here w.0 mentioned (subst (λ (k : Levels). ReadsAgree c k (n + terms_accesses ts)) same reads)

      began : c.block.first ≤ length named.operations.items
      began = time_later c old named (all_formed scene lane current ts old named before after n aim.number aim.indices m few).part.extends s.stands.started

      way : Within c named new (all_leveled scene shared outer n ts l).levels.most × (greatest_number (map (clock_of c) (offsets_taken aim.steps)) ≡ way_level shared outer (way_of (known_in scene) r) (all_leveled scene shared outer n ts l).levels)
      way =
          way_timed (way_of (known_in scene) r) (memory_of (known_in scene) r) (first_view scene r) (all_leveled scene shared outer n ts l).levels (core_terms (known_in scene) n ts) (behind.bounded s.bounded)
          (variables_later (NamedMention c.block scene lane current n r ts) l (all_leveled scene shared outer n ts l).levels behind.variables vars) w.1.1 named new aim.steps steps s.agree began

  timed_access : (place : Place) (k : Option Kind) (r : Ref) (ts : plain.Terms) → AllTimed ts → Timed (plain.term place k (plain.accessed r ts))
  timed_access place k r ts all old new before after n next v m few l s w vars reads =
      read_behind place k (plain.accessed r ts) r old m.middle new before m.between after n (terms_accesses ts) l (named_leveled scene shared outer n r ts l) m.aim v own behind m.reads following w.1.1 f.at f.within s.bounded reads
    where
      behind : LevelsThen n (terms_accesses ts) l (named_leveled scene shared outer n r ts l)
      behind = named_levels_behind scene shared outer r ts n l

      own : m.aim.number ≡ n + terms_accesses ts
      own = all_numbered scene lane current ts old m.named before m.between n m.aim.number m.aim.indices m.indices (omega (arith, few))

      through : FormsAim scene lane current old m.middle before m.between (memory_of (known_in scene) r) m.aim (λ y. NamedSuits y scene lane n r ts)
      through = through_made scene lane current ts r n old m.named m.middle before m.between m.aim m.row (all_formed scene lane current ts old m.named before m.between n m.aim.number m.aim.indices m.indices (omega (arith, few))) m.steps

      more : Extends m.middle new
      more = (read_forms scene lane current (plain.term place k (plain.accessed r ts)) (memory_of (known_in scene) r) m.aim m.middle new m.between after v (kind_or_first k) m.reads).part.extends

      at_middle : Agrees c.block m.middle
      at_middle = agrees_before c.block m.middle new more s.stands.agrees

      whole : InTime old new before n (terms_accesses ts + 1) l
      whole = subst (λ (i : ℕ). InTime old new before n i l) (sym (add-one (terms_accesses ts))) s

      here : InTime old m.middle before n (terms_accesses ts) l
      here = time_first old m.middle new before n (terms_accesses ts) 1 l at_middle (agree_before c m.middle new more s.agree) whole

      kept : ReadsAgree c (named_leveled scene shared outer n r ts l).levels (n + terms_accesses ts)
      kept = λ i o site less. sym (read_keeps shared outer (reach_of (known_in scene) (n + terms_accesses ts) place r) (named_leveled scene shared outer n r ts l) i (λ e. never i e less)) ∙ reads i o site (omega (arith, less))
        where
          never : (i : ℕ) → i ≡ n + terms_accesses ts → i < n + terms_accesses ts → ⊥
          never i e less = omega (arith, e, less)

      f : TimesAim c old m.middle m.between (named_leveled scene shared outer n r ts l) (memory_of (known_in scene) r) m.aim
      f = aim_timed r ts all old m.named m.middle before m.between n m.aim m.row m.indices m.steps (omega (arith, few)) l here (w.0, w.1.0) vars kept

      following : InTime m.middle new m.between (n + terms_accesses ts) 1 (named_leveled scene shared outer n r ts l).levels
      following = time_behind old m.middle new before m.between n (terms_accesses ts) 1 l (named_leveled scene shared outer n r ts l) _ through.part (w.0, w.1.0) at_middle
          (through_counted c.block scene lane current r ts (all_counted c.block scene lane current ts) old m.named m.middle before m.between n m.aim m.indices m.steps (omega (arith, few)) here.stands (w.0, w.1.0)).given behind f.noted whole

  timed_bank : (place : Place) (k : Option Kind) (r : Ref) (bank : ℕ) (at : Place) (t : plain.Term) → Timed t → Timed (plain.term place k (plain.in_bank r bank at t))
  timed_bank place k r bank at t one old new before after n next v m few l s w vars reads =
      read_behind place k (plain.in_bank r bank at t) r old m.middle new before m.between after n (term_accesses t) l first m.aim v own behind m.reads following w.1 (row_clock (memory_of (known_in scene) r) first.level m.value m.aim m.none m.steps m.row_is f.at) f.within s.bounded reads
    where
      first : Leveled
      first = leveled scene shared outer n t l

      behind : LevelsThen n (term_accesses t) l first
      behind = levels_behind scene shared outer t n l

      own : m.aim.number ≡ n + term_accesses t
      own = numbered scene lane current t old m.middle before m.between n m.aim.number m.value m.row (omega (arith, few))

      part : FormsPart scene lane current old m.middle before m.between (λ y. TermSuits y scene lane n t)
      part = (formed scene lane current t old m.middle before m.between n m.aim.number m.value m.row (omega (arith, few))).part

      more : Extends m.middle new
      more = (read_forms scene lane current (plain.term place k (plain.in_bank r bank at t)) (memory_of (known_in scene) r) m.aim m.middle new m.between after v (kind_or_first k) m.reads).part.extends

      at_middle : Agrees c.block m.middle
      at_middle = agrees_before c.block m.middle new more s.stands.agrees

      whole : InTime old new before n (term_accesses t + 1) l
      whole = subst (λ (i : ℕ). InTime old new before n i l) (sym (add-one (term_accesses t))) s

      here : InTime old m.middle before n (term_accesses t) l
      here = time_first old m.middle new before n (term_accesses t) 1 l at_middle (agree_before c m.middle new more s.agree) whole

      kept : ReadsAgree c first.levels (n + term_accesses t)
      kept = λ i o site less. sym (read_keeps shared outer (reach_of (known_in scene) (n + term_accesses t) place r) first i (λ e. never i e less)) ∙ reads i o site (omega (arith, less))
        where
          never : (i : ℕ) → i ≡ n + term_accesses t → i < n + term_accesses t → ⊥
          never i e less = omega (arith, e, less)

      f : TimesTerm c old m.middle m.between first m.value
      f = one old m.middle before m.between n m.aim.number m.value m.row (omega (arith, few)) l here w.0.0 vars kept

      following : InTime m.middle new m.between (n + term_accesses t) 1 first.levels
      following = time_behind old m.middle new before m.between n (term_accesses t) 1 l first _ part w.0.0 at_middle
          (counted c.block scene lane current t old m.middle before m.between n m.aim.number m.value m.row (omega (arith, few)) here.stands w.0.0).given behind f.noted whole

  least : (n : ℕ) → 0 ≤ n
  least n = omega arith

  timed_number : (place : Place) (k : Option Kind) (negative : Truth) (z : ℕ) → Timed (plain.term place k (plain.number negative z))
  timed_number place k negative z old new before after n next v m few l s w vars reads =
      alone_timed old new before after v 0 l (λ d. Unit {0}) m.same (number_timed (kind_or_first k) negative z old new v m.part) tt (least l.most) s.agree s.stands.started s.noted

  timed_truth : (place : Place) (k : Option Kind) (b : Truth) → Timed (plain.term place k (plain.truth_value b))
  timed_truth place k b old new before after n next v m few l s w vars reads =
      alone_timed old new before after v 0 l (λ d. Unit {0}) m.same (word_timed old new v (truth b) m.part) tt (least l.most) s.agree s.stands.started s.noted

  timed_variable : (place : Place) (k : Option Kind) (r : Ref) → Timed (plain.term place k (plain.named r))
  timed_variable place k r old new before after n next v m few l s w vars reads =
      alone_timed old new before after v (l.variables (entity_number r.entity)) l _ m.same
      (variable_timed (counter_of scene (entity_number r.entity)) (held_at scene.held.now (entity_number r.entity)) lane current (kind_or_first k) (λ d. l.variables (entity_number r.entity)) old new v m.part)
      (vars (entity_number r.entity) (itself (entity_number r.entity))) (s.bounded.variables (entity_number r.entity)) s.agree s.stands.started s.noted

  mutual
    pub timed : (t : plain.Term) → Timed t
    timed (plain.term place k (plain.number negative z)) = timed_number place k negative z
    timed (plain.term place k (plain.truth_value b)) = timed_truth place k b
    timed (plain.term place k (plain.named r)) = timed_variable place k r
    timed (plain.term place k (plain.accessed r ts)) = timed_access place k r ts (all_timed ts)
    timed (plain.term place k (plain.in_bank r bank at t)) = timed_bank place k r bank at t (timed t)
    timed (plain.term place k (plain.applied o x y)) = timed_two place k o x y (timed x) (timed y)
    timed (plain.term place k (plain.converted inner to)) = timed_one place k inner to (timed inner)

    pub all_timed : (ts : plain.Terms) → AllTimed ts
    all_timed plain.no_terms = timed_none
    all_timed (plain.term_then t ts) = timed_then t ts (timed t) (all_timed ts)

  pub through_timed : (r : Ref) (ts : plain.Terms) (old new : Draft) (before after : Accesses) (n : ℕ) (aim : Aim) → MadeThrough scene lane current r ts old new before after n aim → n + terms_accesses ts < 2 ^ 32
      → (l : Levels) → InTime old new before n (terms_accesses ts) l → NamedSuits c.block scene lane n r ts → Variables (NamedMention c.block scene lane current n r ts) l
      → ReadsAgree c (named_leveled scene shared outer n r ts l).levels (n + terms_accesses ts)
      → TimesAim c old new after (named_leveled scene shared outer n r ts l) (memory_of (known_in scene) r) aim
  through_timed r ts old new before after n aim m few l s w vars reads = aim_timed r ts (all_timed ts) old m.middle new before after n aim m.row m.indices m.steps few l s w vars reads
