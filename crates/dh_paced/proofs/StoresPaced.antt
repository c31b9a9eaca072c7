-- Stores at one path after the other: the value, then what names the element, then its write.
use Rattle.std.proofs.Common.{◌≡◌, ◌⊎◌, inl, inr, ℕ, suc, ◌+◌, ◌^◌, ◌<◌, ◌≤◌, true, Some, None, Option, List, [], length, map, sym, ap, ◌∙◌, subst, arith}
use Rattle.std.specs.Prelude.{max, slice_get, ◌++◌}
use Rattle.std.proofs.lemmas.Bool.{cases_lt}
use Rattle.dh_base.specs.declared.places.Place.{Place}
use Rattle.dh_value.specs.declared.kinds.Kind.{Kind}
use Rattle.dh_tree.specs.declared.trees.expressions.Ref.{Ref}
use Rattle.dh_tree.specs.Indices.{form_of}
use Rattle.dh_tree.specs.Memories.{table_of}
use Rattle.dh_tree.specs.PlainTrees as plain
use Rattle.dh_tree.specs.PlainTrees.{Term}
use Rattle.dh_tree.specs.Seen.{program_seen}
use Rattle.dh_meaning.specs.AccessNumbers.{term_accesses, terms_accesses}
use Rattle.dh_meaning.specs.CoreOf.{memory_of}
use Rattle.dh_meaning.specs.Effects.{entry_kind}
use Rattle.dh_meaning.specs.Levels.{Leveled, Levels}
use Rattle.dh_code.specs.Slots.{held_at}
use Rattle.dh_plan.specs.LegalSchedules.{greatest_number}
use Rattle.dh_plan.specs.Ordered.{one_or_none, offsets_taken}
use Rattle.dh_plan.specs.declared.operations.ReachStep.{ReachStep}
use Rattle.dh_expressions.specs.declared.accesses.Accesses.{Accesses}
use Rattle.dh_expressions.specs.declared.drafts.Draft.{Draft}
use Rattle.dh_expressions.specs.declared.elements.Aim.{Aim}
use Rattle.dh_expressions.specs.declared.scenes.Around.{Around}
use Rattle.dh_expressions.specs.declared.scenes.Lane.{Lane}
use Rattle.dh_expressions.specs.declared.scenes.Scene.{Scene}
use Rattle.dh_expressions.specs.Drafted.{Extends}
use Rattle.dh_expressions.specs.Evaluated.{counter_of, known_in}
use Rattle.dh_expressions.specs.MadeTerms.{MadeTerm, MadeWrite, MadeThrough}
use Rattle.dh_expressions.specs.Reaching.{place_written}
use Rattle.dh_expressions.proofs.Pushing.{extends_again, pushed_extends}
use Rattle.dh_formed.specs.Counted.{AreNext, HaveGiven, given_at_paths}
use Rattle.dh_formed.specs.Formed.{AccessSuits, Agrees, AreNotedReads, IsScope, TermSuits}
use Rattle.dh_formed.specs.Timed.{AgreeInTime, BlockClocks, EntityAt, HasClock, LevelsThen, NotedInTime, ReadsAgree, TimesValue, VariableAt, Within, aim_clock, clock_of, leveled, named_leveled}
use Rattle.dh_formed.proofs.AccessesFormed.{noted_later, scope_later}
use Rattle.dh_formed.proofs.LevelsBehind.{levels_behind, named_levels_behind}
use Rattle.dh_formed.proofs.ReadsCounted.{write_gives}
use Rattle.dh_formed.proofs.ReadsTimed.{greatest_append, written_noted, written_within}
use Rattle.dh_formed.proofs.TermsFormed.{all_numbered, formed, numbered, through_formed}
use Rattle.dh_formed.proofs.ValuesFormed.{agrees_before}
use Rattle.dh_formed.proofs.ValuesTimed.{agree_before, held_timed, time_later, within_again}
use Rattle.dh_commands.specs.declared.buildings.Building.{Building}
use Rattle.dh_commands.specs.declared.assignments.Values.{Values}
use Rattle.dh_commands.specs.LanesRun.{lane_of, paths_counted}
use Rattle.dh_commands.specs.MadeCommands.{MadeAim, MadeStored, MadeStoring, StoredTo}
use Rattle.dh_laid.specs.Laid.{AimingSuits, FormsThere, StoringSuits}
use Rattle.dh_laid.proofs.StoresLaid.{stores_form}
use Rattle.dh_paced.specs.Paced.{IsIn}
use Rattle.dh_paced.specs.Standing.{AreCurrent, IsGround, OwnsTerm, OwnsWrite, Paces, StandsFor, OwnsNamed}
use Rattle.dh_paced.proofs.AssigningPaced.{entity_under}
use Rattle.dh_paced.proofs.LanesPaced.{AtLane, given_end, given_more, lane_here, lane_scope, lane_started, lanes_paced}
use Rattle.dh_paced.proofs.LeavesPaced.{IsHere, TermHere, next_of, term_here, NamedHere, named_here}

-- The clock of what names an element.

row_clock : (c : BlockClocks) (memory level value : ℕ) (aim : Aim) → aim.indices ≡ [] → aim.steps ≡ [] → aim.row ≡ Some value → clock_of c value ≡ level → aim_clock c memory aim ≡ level
row_clock c memory level value aim none still is at =
    greatest_append (clock_of c) aim.indices (offsets_taken aim.steps ++ one_or_none aim.row)
    ∙ (ap (λ (vs : List ℕ). max (greatest_number (map (clock_of c) vs)) (greatest_number (map (clock_of c) (offsets_taken aim.steps ++ one_or_none aim.row)))) none
    ∙ (ap (λ (ss : List ReachStep). max 0 (greatest_number (map (clock_of c) (offsets_taken ss ++ one_or_none aim.row)))) still
    ∙ (ap (λ (o : Option ℕ). max 0 (greatest_number (map (clock_of c) (one_or_none o)))) is ∙ (ap (λ k. max 0 (max k 0)) at ∙ alone level))))
  where
    alone : (n : ℕ) → max 0 (max n 0) ≡ n
    alone n = omega arith

write_extends : (scene : Scene) (lane : Lane) (access : Term) (memory : ℕ) (aim : Aim) (value : ℕ) (old new : Draft) (before after : Accesses) → MadeWrite scene lane access memory aim value old new before after → Extends old new
write_extends scene lane access memory aim value old new before after m =
    extends_again old m.first new m.touches.extends (extends_again m.first m.second new (pushed_extends m.first m.second _ _ _ m.probes) (pushed_extends m.second new m.number _ _ m.writes))

both_given : (lane : Lane) (x y z : Accesses) (n a b : ℕ) → HaveGiven lane x y n a → HaveGiven lane y z (n + a) b → HaveGiven lane x z n (a + b)
both_given lane x y z n a b g h = record {
  own = λ m from below. by m from below (cases_lt m (n + a));
  before_them = λ m less. h.before_them m (omega (arith, less)) ∙ g.before_them m less;
  behind_them = λ m more. h.behind_them m (omega (arith, more)) ∙ g.behind_them m (omega (arith, more));
}
  where
    by : (m : ℕ) → n ≤ m → m < n + (a + b) → (m < n + a) ⊎ (n + a ≤ m) → given_at_paths z m ≡ lane.number + 1
    by m from below (inl less) = h.before_them m less ∙ g.own m from less
    by m from below (inr behind) = h.own m behind (omega (arith, below))

same_given : (lane : Lane) (x y z : Accesses) (n a : ℕ) → HaveGiven lane x y n a → ((m : ℕ) → given_at_paths z m ≡ given_at_paths y m) → HaveGiven lane x z n a
same_given lane x y z n a g same = record {
  own = λ m from below. same m ∙ g.own m from below;
  before_them = λ m less. same m ∙ g.before_them m less;
  behind_them = λ m more. same m ∙ g.behind_them m more;
}

module _ (c : BlockClocks) (scene : Scene) (top : Around) (spaces : ℕ) (shared : ℕ → Option ℕ) (Variable Read Own : ℕ → Type 0) (g : IsGround c scene top spaces shared Variable Read Own)
    (around : Around) (outer first : ℕ) (l : Levels) (old : Building) (s : StandsFor c scene top spaces shared Variable Read Own around old outer first l)
    (target t : Term) (own : OwnsTerm c scene top spaces shared Variable Read Own outer first t) where
  self : (n : ℕ) → n ≤ n
  self n = omega arith

  abbrev pub made : Leveled
  made = leveled scene shared outer first t l

  pub behind_value : LevelsThen first (term_accesses t) l made
  behind_value = levels_behind scene shared outer t first l

  abbrev pub n2 : ℕ
  n2 = first + term_accesses t

  -- what stands behind the values that name the element
  pub record AimsHere (k : ℕ) (current : List (Option ℕ)) (middle end : Draft) (between behind : Accesses) (count : ℕ) (aims : Leveled) (memory : ℕ) (aim : Aim) : Type 0 where
    pub extends : Extends middle end
    pub within : Within c middle end aims.levels.most
    pub clock : aim_clock c memory aim ≡ aims.level
    pub in_time : NotedInTime c behind
    pub given : HaveGiven (lane_of around k) between behind n2 count
    pub noted : AreNotedReads c.block end behind
    pub number_is : aim.number ≡ n2 + count

  module _ (aims : Leveled) (reads : ℕ) (aims_go : LevelsThen n2 reads made.levels aims) (agree_reads : ReadsAgree c aims.levels (n2 + reads)) (aims_own : (m : ℕ) → IsIn n2 reads m → Own m) where
    abbrev pub Lane_of : (k : ℕ) → Building → Type 0
    Lane_of k b = AtLane c scene top spaces shared Variable Read Own g around outer first l old s aims.levels.most (term_accesses t + reads) (term_accesses t + (reads + 1)) (λ current. AreCurrent c scene top spaces shared Variable Read Own current l) k b

    pub own_all : (m : ℕ) → IsIn first (term_accesses t + reads) m → Own m
    own_all m h = by (cases_lt m n2)
      where
        by : (m < n2) ⊎ (n2 ≤ m) → Own m
        by (inl less) = own.are.own m (h.0, less)
        by (inr from) = aims_own m (from, let b = h.1 in omega (arith, b))

    value_reads : ReadsAgree c made.levels n2
    value_reads = λ m site at less. sym (aims_go.before_them m less) ∙ agree_reads m site at (omega (arith, less))

    module _ (k : ℕ) (within : k < paths_counted top) (b d : Building) (n : ℕ) (m : MadeStored scene (lane_of around k) first target t b d n) (few : n2 < 2 ^ 32) (h : Lane_of k b) (agrees : Agrees c.block d.draft) (agree : AgreeInTime c d.draft)
        (to_middle : Extends m.middle d.draft) (suits : TermSuits c.block scene (lane_of around k) first t) where
      agrees_middle : Agrees c.block m.middle
      agrees_middle = agrees_before c.block m.middle d.draft to_middle agrees

      agree_middle : AgreeInTime c m.middle
      agree_middle = agree_before c m.middle d.draft to_middle agree

      started : c.block.first ≤ length b.draft.operations.items
      started = lane_started c scene top spaces shared Variable Read Own g around outer first l old s aims.levels.most (term_accesses t + reads) (term_accesses t + (reads + 1)) _ k b h

      scope : IsScope c.block b.draft scene (lane_of around k) b.values.current.items
      scope = lane_scope c scene top spaces shared Variable Read Own g around outer first l old s aims.levels.most (term_accesses t + reads) (term_accesses t + (reads + 1)) _ k b within h

      pub here : IsHere c scene top spaces shared Variable Read Own g (lane_of around k) outer b.values.current.items b.draft m.middle b.accesses l
      here = lane_here c scene top spaces shared Variable Read Own g around outer first l old s aims.levels.most (term_accesses t + reads) (term_accesses t + (reads + 1)) _ k b m.middle within h agrees_middle agree_middle

      value_next : AreNext scene (lane_of around k) b.accesses first (term_accesses t)
      value_next =
          next_of c scene top spaces shared Variable Read Own g (lane_of around k) b.accesses first (term_accesses t) own.are.own (λ i among. h.given.own i (among.0, let e = among.1 in omega (arith, e)))
          (λ e read less. subst (λ (i : ℕ). k < i) (sym (h.given.done e read less)) within)

      pub value_here : TermHere c scene top spaces shared Variable Read Own g (lane_of around k) outer b.values.current.items b.draft m.middle b.accesses m.between first m.own l here t m.value
      value_here =
          term_here c scene top spaces shared Variable Read Own g (lane_of around k) outer b.values.current.items b.draft m.middle b.accesses m.between first m.own l here t m.value m.term few own value_next suits
          (λ e v mentioned. entity_under c scene top spaces shared Variable Read Own g around b.values.current.items l e k s.under (h.current e k v within)) value_reads

      begun : c.block.first ≤ length m.middle.operations.items
      begun = time_later c b.draft m.middle value_here.extends started

      -- where the values begin that name the element
      pub aims_here : (end : Draft) → Extends end d.draft → IsHere c scene top spaces shared Variable Read Own g (lane_of around k) outer b.values.current.items m.middle end m.between made.levels
      aims_here end more = record {
        agrees = agrees_before c.block end d.draft more agrees;
        agree = agree_before c end d.draft more agree;
        started = begun;
        scope = scope_later c.block b.draft m.middle scene (lane_of around k) b.values.current.items value_here.extends scope;
        noted = value_here.noted;
        bounded = behind_value.bounded s.bounded;
        guards = s.guards;
        in_time = value_here.timed_is.noted;
        outer_few = let o = s.outer_few in let f = behind_value.more in omega (arith, o, f);
      }

      pub aims_next : AreNext scene (lane_of around k) m.between n2 reads
      aims_next =
          next_of c scene top spaces shared Variable Read Own g (lane_of around k) m.between n2 reads aims_own
          (λ i among. value_here.given.behind_them i among.0 ∙ h.given.own i (let f = among.0 in omega (arith, f), let e = among.1 in omega (arith, e))) (λ e read less. by e read less (cases_lt e first))
        where
          by : (e : ℕ) → Read e → e < n2 → (e < first) ⊎ (first ≤ e) → k < given_at_paths m.between e
          by e read less (inl front) = subst (λ (i : ℕ). k < i) (sym (value_here.given.before_them e front ∙ h.given.done e read front)) within
          by e read less (inr from) = subst (λ (i : ℕ). k < i) (sym (value_here.given.own e from less)) (omega arith)

      pub aims_vars : (e : ℕ) → Variable e → EntityAt c scene (lane_of around k) b.values.current.items made.levels e
      aims_vars e v =
          subst (λ (i : ℕ). VariableAt c (counter_of scene e) (held_at scene.held.now e) (lane_of around k) b.values.current.items i) (sym (behind_value.variables e))
          (entity_under c scene top spaces shared Variable Read Own g around b.values.current.items l e k s.under (h.current e k v within))

      -- and behind its write
      module _ (end : Draft) (behind : Accesses) (memory : ℕ) (aim : Aim) (a : AimsHere k b.values.current.items m.middle end m.between behind reads aims memory aim) (write_own : OwnsWrite c scene top spaces shared Variable Read Own outer (n2 + reads))
          (stores : MadeStoring scene (lane_of around k) target t m.value (Some (aim, memory)) end behind d n)
          (access : AccessSuits c.block scene (lane_of around k) memory aim.number (place_written target) (form_of target) true) (there : FormsThere c.block b d) where
        value : TimesValue end stores.0 stores.1.0 (λ x. HasClock x made.level m.value) (λ x. made.level)
        value = held_timed t (entry_kind (slice_get (table_of (program_seen scene.program.now)) memory)) m.value (λ x. made.level) end stores.0 stores.1.0 stores.1.1.0

        writes : MadeWrite scene (lane_of around k) target memory aim stores.1.0 stores.0 d.draft behind d.accesses
        writes = stores.1.1.1.0

        written : Extends stores.0 d.draft
        written = write_extends scene (lane_of around k) target memory aim stores.1.0 stores.0 d.draft behind d.accesses writes

        to_end : Extends b.draft end
        to_end = extends_again b.draft m.middle end value_here.extends a.extends

        agrees_held : Agrees c.block stores.0
        agrees_held = agrees_before c.block stores.0 d.draft written agrees

        agree_held : AgreeInTime c stores.0
        agree_held = agree_before c stores.0 d.draft written agree

        begun_end : c.block.first ≤ length end.operations.items
        begun_end = time_later c b.draft end to_end started

        begun_held : c.block.first ≤ length stores.0.operations.items
        begun_held = time_later c end stores.0 value.extends begun_end

        scope_held : IsScope c.block stores.0 scene (lane_of around k) b.values.current.items
        scope_held = scope_later c.block b.draft stores.0 scene (lane_of around k) b.values.current.items (extends_again b.draft end stores.0 to_end value.extends) scope

        at_end : HasClock c made.level m.value
        at_end = value_here.timed_is.at

        few_value : made.levels.most ≤ aims.levels.most
        few_value = aims_go.more

        outer_few : outer ≤ aims.levels.most
        outer_few = let o = s.outer_few in let f = behind_value.more in let i = few_value in omega (arith, o, f, i)

        level_few : made.level ≤ aims.levels.most
        level_few = let o = behind_value.level_few s.bounded in let i = few_value in omega (arith, o, i)

        aim_few : aim_clock c memory aim ≤ aims.levels.most
        aim_few = subst (λ (i : ℕ). i ≤ aims.levels.most) (sym a.clock) (aims_go.level_few (behind_value.bounded s.bounded))

        outer_is : c.outer aim.number ≡ outer
        outer_is = ap c.outer a.number_is ∙ write_own.outer_is

        write_within : Within c stores.0 d.draft aims.levels.most
        write_within =
            written_within c scene (lane_of around k) b.values.current.items target memory aim outer stores.0 d.draft behind d.accesses stores.1.0 made.level aims.levels.most writes begun_held scope_held access agree s.guards a.in_time outer_is
            (value.at c agree_held begun_end at_end) outer_few aim_few level_few

        write_in_time : NotedInTime c d.accesses
        write_in_time =
            written_noted c scene (lane_of around k) b.values.current.items target memory aim outer stores.0 d.draft behind d.accesses stores.1.0 made.level aims.levels.most writes begun_held scope_held access agree s.guards a.in_time outer_is
            (value.at c agree_held begun_end at_end) outer_few aim_few level_few

        gives : HaveGiven (lane_of around k) b.accesses d.accesses first (term_accesses t + reads)
        gives =
            same_given (lane_of around k) b.accesses behind d.accesses first (term_accesses t + reads)
            (both_given (lane_of around k) b.accesses m.between behind first (term_accesses t) reads value_here.given a.given)
            (write_gives c.block scene (lane_of around k) b.values.current.items target memory aim (λ register. ⊥) stores.0 d.draft behind d.accesses stores.1.0 writes agrees begun_held scope_held (noted_later c.block end stores.0 behind value.extends a.noted) access)

        pub stored_more : Lane_of (suc k) d
        stored_more = record {
          extends = extends_again old.draft b.draft d.draft h.extends (extends_again b.draft end d.draft to_end (extends_again end stores.0 d.draft value.extends written));
          noted = there.notes;
          held = there.held;
          long = ap (λ (v : Values). length v.current.items) m.same ∙ h.long;
          within =
              within_again c old.draft b.draft d.draft aims.levels.most aims.levels.most (self aims.levels.most) h.within
              (within_again c b.draft m.middle d.draft made.levels.most aims.levels.most few_value value_here.timed_is.within
              (within_again c m.middle end d.draft aims.levels.most aims.levels.most (self aims.levels.most) a.within
              (within_again c end stores.0 d.draft made.level aims.levels.most level_few (value.within c agree_held begun_end at_end) write_within)));
          in_time = write_in_time;
          given = given_more c scene top spaces shared Variable Read Own g around first (term_accesses t + reads) (term_accesses t + (reads + 1)) k b.accesses d.accesses (omega arith) gives h.given;
          current = subst (λ (v : Values). AreCurrent c scene top spaces shared Variable Read Own v.current.items l) (sym m.same) h.current;
        }

module _ (c : BlockClocks) (scene : Scene) (top : Around) (spaces : ℕ) (shared : ℕ → Option ℕ) (Variable Read Own : ℕ → Type 0) (g : IsGround c scene top spaces shared Variable Read Own)
    (around : Around) (outer first : ℕ) (l : Levels) (old : Building) (s : StandsFor c scene top spaces shared Variable Read Own around old outer first l)
    (t : Term) (own : OwnsTerm c scene top spaces shared Variable Read Own outer first t) where
  abbrev valued : Leveled
  valued = leveled scene shared outer first t l

  abbrev aimed_at : ℕ
  aimed_at = first + term_accesses t

  -- behind all paths
  module _ (target : Term) (aims : Leveled) (reads : ℕ) (aims_go : LevelsThen aimed_at reads valued.levels aims) where
    all_current : (current : List (Option ℕ)) → AreCurrent c scene top spaces shared Variable Read Own current l → AreCurrent c scene top spaces shared Variable Read Own current aims.levels
    all_current current h e i v within =
        subst (λ (n : ℕ). VariableAt c (counter_of scene e) (held_at scene.held.now e) (lane_of top i) current n)
        (sym (aims_go.variables e ∙ (levels_behind scene shared outer t first l).variables e)) (h e i v within)

    stored_end : (new : Building) → OwnsWrite c scene top spaces shared Variable Read Own outer (aimed_at + reads)
        → AtLane c scene top spaces shared Variable Read Own g around outer first l old s aims.levels.most (term_accesses t + reads) (term_accesses t + (reads + 1)) (λ current. AreCurrent c scene top spaces shared Variable Read Own current l) (paths_counted top) new
        → Paces c scene top spaces shared Variable Read Own old new aims.levels (first + (term_accesses t + (reads + 1)))
    stored_end new write h = record {
      within = h.within;
      in_time = h.in_time;
      current = all_current new.values.current.items h.current;
      given = given_end c scene top spaces shared Variable Read Own g first (term_accesses t + reads) (term_accesses t + (reads + 1)) new.accesses (λ e read among. by e read among (cases_lt e (aimed_at + reads))) h.given;
    }
      where
        by : (e : ℕ) → Read e → IsIn first (term_accesses t + (reads + 1)) e → (e < aimed_at + reads) ⊎ (aimed_at + reads ≤ e) → IsIn first (term_accesses t + reads) e
        by e read among (inl less) = (among.0, omega (arith, less))
        by e read among (inr from) = absurd (write.unread (subst (λ (n : ℕ). Read n) (let b = among.1 in omega (arith, from, b)) read))

  -- by indices
  module _ (place : Place) (kd : Option Kind) (r : Ref) (ts : plain.Terms) (owns : OwnsNamed c scene top spaces shared Variable Read Own outer aimed_at r ts) (write : OwnsWrite c scene top spaces shared Variable Read Own outer (aimed_at + terms_accesses ts))
      (few : aimed_at + terms_accesses ts < 2 ^ 32) (reads : ReadsAgree c (named_leveled scene shared outer aimed_at r ts valued.levels).levels (aimed_at + terms_accesses ts)) where
    abbrev target_by : Term
    target_by = plain.term place kd (plain.accessed r ts)

    abbrev indices : Leveled
    indices = named_leveled scene shared outer aimed_at r ts valued.levels

    indices_go : LevelsThen aimed_at (terms_accesses ts) valued.levels indices
    indices_go = named_levels_behind scene shared outer r ts aimed_at valued.levels

    abbrev Here_by : (k : ℕ) → Building → Type 0
    Here_by k b = Lane_of c scene top spaces shared Variable Read Own g around outer first l old s target_by t own indices (terms_accesses ts) indices_go reads owns.are.own k b

    by_indices_step : (k : ℕ) (b d : Building) (n : ℕ) → MadeStored scene (lane_of around k) first target_by t b d n → k < paths_counted top → Agrees c.block d.draft → AgreeInTime c d.draft
        → TermSuits c.block scene (lane_of around k) first t
        × (AimingSuits c.block scene (lane_of around k) aimed_at (plain.accessed r ts) × StoringSuits c.block scene (lane_of around k) aimed_at target_by t (plain.accessed r ts)) → Here_by k b → Here_by (suc k) d
    by_indices_step k b d n m within agrees agree w h = by m.aimed m.aims m.stores
      where
        lane : Lane
        lane = lane_of around k

        few_value : aimed_at < 2 ^ 32
        few_value = omega (arith, few)

        own_is : m.own ≡ aimed_at
        own_is = numbered scene lane b.values.current.items t b.draft m.middle b.accesses m.between first m.own m.value m.term few_value

        there : FormsThere c.block b d
        there =
            (stores_form scene lane first target_by t b d n m few).forms c.block agrees
            (lane_started c scene top spaces shared Variable Read Own g around outer first l old s indices.levels.most (term_accesses t + terms_accesses ts) (term_accesses t + (terms_accesses ts + 1)) _ k b h)
            (lane_scope c scene top spaces shared Variable Read Own g around outer first l old s indices.levels.most (term_accesses t + terms_accesses ts) (term_accesses t + (terms_accesses ts + 1)) _ k b within h) h.noted h.held w

        by : (o : Option (Aim × ℕ)) → MadeAim scene lane b.values.current.items (plain.accessed r ts) m.middle m.end m.between m.behind m.own o → MadeStoring scene lane target_by t m.value o m.end m.behind d n → Here_by (suc k) d
        by None a stores = absurd a
        by (Some (aim, memory)) a stores =
            stored_more c scene top spaces shared Variable Read Own g around outer first l old s target_by t own indices (terms_accesses ts) indices_go reads owns.are.own k within b d n m few_value h agrees agree to_middle w.0
            m.end m.behind memory aim aims write stores access there
          where
            moved : MadeThrough scene lane b.values.current.items r ts m.middle m.end m.between m.behind aimed_at aim
            moved = subst (λ (i : ℕ). MadeThrough scene lane b.values.current.items r ts m.middle m.end m.between m.behind i aim) own_is a.0

            number_is : aim.number ≡ aimed_at + terms_accesses ts
            number_is = all_numbered scene lane b.values.current.items ts m.middle moved.middle m.between m.behind aimed_at aim.number aim.indices moved.indices few

            value : TimesValue m.end stores.0 stores.1.0 (λ x. HasClock x 0 m.value) (λ x. 0)
            value = held_timed t (entry_kind (slice_get (table_of (program_seen scene.program.now)) memory)) m.value (λ x. 0) m.end stores.0 stores.1.0 stores.1.1.0

            from_end : Extends m.end d.draft
            from_end = extends_again m.end stores.0 d.draft value.extends (write_extends scene lane target_by memory aim stores.1.0 stores.0 d.draft m.behind d.accesses stores.1.1.1.0)

            to_middle : Extends m.middle d.draft
            to_middle = extends_again m.middle m.end d.draft (through_formed scene lane b.values.current.items r ts m.middle m.end m.between m.behind aimed_at aim moved few).part.extends from_end

            aims_is : IsHere c scene top spaces shared Variable Read Own g lane outer b.values.current.items m.middle m.end m.between valued.levels
            aims_is = aims_here c scene top spaces shared Variable Read Own g around outer first l old s target_by t own indices (terms_accesses ts) indices_go reads owns.are.own k within b d n m few_value h agrees agree to_middle w.0 m.end from_end

            made_here : NamedHere c scene top spaces shared Variable Read Own g lane outer b.values.current.items m.middle m.end m.between m.behind aimed_at aim.number valued.levels aims_is r ts aim
            made_here =
                named_here c scene top spaces shared Variable Read Own g lane outer b.values.current.items m.middle m.end m.between m.behind aimed_at aim.number valued.levels aims_is r ts aim moved few owns
                (aims_next c scene top spaces shared Variable Read Own g around outer first l old s target_by t own indices (terms_accesses ts) indices_go reads owns.are.own k within b d n m few_value h agrees agree to_middle w.0) w.1.0
                (λ e v mentioned. aims_vars c scene top spaces shared Variable Read Own g around outer first l old s target_by t own indices (terms_accesses ts) indices_go reads owns.are.own k within b d n m few_value h agrees agree to_middle w.0 e v) reads

            aims : AimsHere c scene top spaces shared Variable Read Own g around outer first l old s target_by t own k b.values.current.items m.middle m.end m.between m.behind (terms_accesses ts) indices memory aim
            aims = record {
              extends = made_here.extends;
              within = made_here.timed_is.within;
              clock = ap (λ (i : ℕ). aim_clock c i aim) a.1 ∙ made_here.timed_is.at;
              in_time = made_here.timed_is.noted;
              given = made_here.given;
              noted = made_here.noted;
              number_is = number_is;
            }

            access : AccessSuits c.block scene lane memory aim.number (place_written target_by) (form_of target_by) true
            access =
                subst (λ (i : ℕ). AccessSuits c.block scene lane i aim.number (place_written target_by) (form_of target_by) true) (sym a.1)
                (subst (λ (i : ℕ). AccessSuits c.block scene lane (memory_of (known_in scene) r) i (place_written target_by) (form_of target_by) true) (sym number_is) w.1.1.access)

    pub by_indices_paced : (new : Building) (next : ℕ) → StoredTo scene around first target_by t (paths_counted top) old new next → Agrees c.block new.draft → AgreeInTime c new.draft
        → ((k : ℕ) → k < paths_counted top → TermSuits c.block scene (lane_of around k) first t
        × (AimingSuits c.block scene (lane_of around k) aimed_at (plain.accessed r ts) × StoringSuits c.block scene (lane_of around k) aimed_at target_by t (plain.accessed r ts)))
        → Paces c scene top spaces shared Variable Read Own old new indices.levels (first + (term_accesses t + (terms_accesses ts + 1)))
    by_indices_paced new next m agrees agree suits =
        stored_end target_by indices (terms_accesses ts) indices_go new write
        (lanes_paced c scene top spaces shared Variable Read Own g around outer first l old s (λ k b d n. MadeStored scene (lane_of around k) first target_by t b d n) indices.levels.most (term_accesses t + terms_accesses ts) (term_accesses t + (terms_accesses ts + 1))
        (λ k current. AreCurrent c scene top spaces shared Variable Read Own current l) (λ k b d n one. (stores_form scene (lane_of around k) first target_by t b d n one few).extends)
        (λ k b d n one within at in_time h. by_indices_step k b d n one within at in_time (suits k within) h)
        (own_all c scene top spaces shared Variable Read Own g around outer first l old s target_by t own indices (terms_accesses ts) indices_go reads owns.are.own) s.current (paths_counted top) new next (omega arith) m agrees agree)

  -- by a row of a bank
  module _ (place at : Place) (kd : Option Kind) (r : Ref) (bank : ℕ) (row : Term) (owns : OwnsTerm c scene top spaces shared Variable Read Own outer aimed_at row) (write : OwnsWrite c scene top spaces shared Variable Read Own outer (aimed_at + term_accesses row))
      (few : aimed_at + term_accesses row < 2 ^ 32) (reads : ReadsAgree c (leveled scene shared outer aimed_at row valued.levels).levels (aimed_at + term_accesses row)) where
    abbrev target_of : Term
    target_of = plain.term place kd (plain.in_bank r bank at row)

    abbrev row_made : Leveled
    row_made = leveled scene shared outer aimed_at row valued.levels

    row_go : LevelsThen aimed_at (term_accesses row) valued.levels row_made
    row_go = levels_behind scene shared outer row aimed_at valued.levels

    abbrev Here_of : (k : ℕ) → Building → Type 0
    Here_of k b = Lane_of c scene top spaces shared Variable Read Own g around outer first l old s target_of t own row_made (term_accesses row) row_go reads owns.are.own k b

    by_row_step : (k : ℕ) (b d : Building) (n : ℕ) → MadeStored scene (lane_of around k) first target_of t b d n → k < paths_counted top → Agrees c.block d.draft → AgreeInTime c d.draft
        → TermSuits c.block scene (lane_of around k) first t
        × (AimingSuits c.block scene (lane_of around k) aimed_at (plain.in_bank r bank at row) × StoringSuits c.block scene (lane_of around k) aimed_at target_of t (plain.in_bank r bank at row)) → Here_of k b → Here_of (suc k) d
    by_row_step k b d n m within agrees agree w h = by m.aimed m.aims m.stores
      where
        lane : Lane
        lane = lane_of around k

        few_value : aimed_at < 2 ^ 32
        few_value = omega (arith, few)

        own_is : m.own ≡ aimed_at
        own_is = numbered scene lane b.values.current.items t b.draft m.middle b.accesses m.between first m.own m.value m.term few_value

        there : FormsThere c.block b d
        there =
            (stores_form scene lane first target_of t b d n m few).forms c.block agrees
            (lane_started c scene top spaces shared Variable Read Own g around outer first l old s row_made.levels.most (term_accesses t + term_accesses row) (term_accesses t + (term_accesses row + 1)) _ k b h)
            (lane_scope c scene top spaces shared Variable Read Own g around outer first l old s row_made.levels.most (term_accesses t + term_accesses row) (term_accesses t + (term_accesses row + 1)) _ k b within h) h.noted h.held w

        by : (o : Option (Aim × ℕ)) → MadeAim scene lane b.values.current.items (plain.in_bank r bank at row) m.middle m.end m.between m.behind m.own o → MadeStoring scene lane target_of t m.value o m.end m.behind d n → Here_of (suc k) d
        by None a stores = absurd a
        by (Some (aim, memory)) a stores =
            stored_more c scene top spaces shared Variable Read Own g around outer first l old s target_of t own row_made (term_accesses row) row_go reads owns.are.own k within b d n m few_value h agrees agree to_middle w.0
            m.end m.behind memory aim aims write stores access there
          where
            moved : MadeTerm scene lane b.values.current.items row m.middle m.end m.between m.behind aimed_at aim.number a.0.value
            moved = subst (λ (i : ℕ). MadeTerm scene lane b.values.current.items row m.middle m.end m.between m.behind i aim.number a.0.value) own_is a.0.row

            number_is : aim.number ≡ aimed_at + term_accesses row
            number_is = numbered scene lane b.values.current.items row m.middle m.end m.between m.behind aimed_at aim.number a.0.value moved few

            value : TimesValue m.end stores.0 stores.1.0 (λ x. HasClock x 0 m.value) (λ x. 0)
            value = held_timed t (entry_kind (slice_get (table_of (program_seen scene.program.now)) memory)) m.value (λ x. 0) m.end stores.0 stores.1.0 stores.1.1.0

            from_end : Extends m.end d.draft
            from_end = extends_again m.end stores.0 d.draft value.extends (write_extends scene lane target_of memory aim stores.1.0 stores.0 d.draft m.behind d.accesses stores.1.1.1.0)

            to_middle : Extends m.middle d.draft
            to_middle = extends_again m.middle m.end d.draft (formed scene lane b.values.current.items row m.middle m.end m.between m.behind aimed_at aim.number a.0.value moved few).part.extends from_end

            aims_is : IsHere c scene top spaces shared Variable Read Own g lane outer b.values.current.items m.middle m.end m.between valued.levels
            aims_is = aims_here c scene top spaces shared Variable Read Own g around outer first l old s target_of t own row_made (term_accesses row) row_go reads owns.are.own k within b d n m few_value h agrees agree to_middle w.0 m.end from_end

            made_here : TermHere c scene top spaces shared Variable Read Own g lane outer b.values.current.items m.middle m.end m.between m.behind aimed_at aim.number valued.levels aims_is row a.0.value
            made_here =
                term_here c scene top spaces shared Variable Read Own g lane outer b.values.current.items m.middle m.end m.between m.behind aimed_at aim.number valued.levels aims_is row a.0.value moved few owns
                (aims_next c scene top spaces shared Variable Read Own g around outer first l old s target_of t own row_made (term_accesses row) row_go reads owns.are.own k within b d n m few_value h agrees agree to_middle w.0) w.1.0.0
                (λ e v mentioned. aims_vars c scene top spaces shared Variable Read Own g around outer first l old s target_of t own row_made (term_accesses row) row_go reads owns.are.own k within b d n m few_value h agrees agree to_middle w.0 e v) reads

            aims : AimsHere c scene top spaces shared Variable Read Own g around outer first l old s target_of t own k b.values.current.items m.middle m.end m.between m.behind (term_accesses row) row_made memory aim
            aims = record {
              extends = made_here.extends;
              within = made_here.timed_is.within;
              clock = row_clock c memory row_made.level a.0.value aim a.0.none a.0.steps a.0.row_is made_here.timed_is.at;
              in_time = made_here.timed_is.noted;
              given = made_here.given;
              noted = made_here.noted;
              number_is = number_is;
            }

            access : AccessSuits c.block scene lane memory aim.number (place_written target_of) (form_of target_of) true
            access =
                subst (λ (i : ℕ). AccessSuits c.block scene lane i aim.number (place_written target_of) (form_of target_of) true) (sym a.1)
                (subst (λ (i : ℕ). AccessSuits c.block scene lane (memory_of (known_in scene) r) i (place_written target_of) (form_of target_of) true) (sym number_is) w.1.1.access)

    pub by_row_paced : (new : Building) (next : ℕ) → StoredTo scene around first target_of t (paths_counted top) old new next → Agrees c.block new.draft → AgreeInTime c new.draft
        → ((k : ℕ) → k < paths_counted top → TermSuits c.block scene (lane_of around k) first t
        × (AimingSuits c.block scene (lane_of around k) aimed_at (plain.in_bank r bank at row) × StoringSuits c.block scene (lane_of around k) aimed_at target_of t (plain.in_bank r bank at row)))
        → Paces c scene top spaces shared Variable Read Own old new row_made.levels (first + (term_accesses t + (term_accesses row + 1)))
    by_row_paced new next m agrees agree suits =
        stored_end target_of row_made (term_accesses row) row_go new write
        (lanes_paced c scene top spaces shared Variable Read Own g around outer first l old s (λ k b d n. MadeStored scene (lane_of around k) first target_of t b d n) row_made.levels.most (term_accesses t + term_accesses row) (term_accesses t + (term_accesses row + 1))
        (λ k current. AreCurrent c scene top spaces shared Variable Read Own current l) (λ k b d n one. (stores_form scene (lane_of around k) first target_of t b d n one few).extends)
        (λ k b d n one within at in_time h. by_row_step k b d n one within at in_time (suits k within) h)
        (own_all c scene top spaces shared Variable Read Own g around outer first l old s target_of t own row_made (term_accesses row) row_go reads owns.are.own) s.current (paths_counted top) new next (omega arith) m agrees agree)
