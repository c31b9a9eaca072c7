-- What is put down at one path after the other: assignments, variables that are set to 0, and reducers.
use Rattle.std.proofs.Common.{◌≡◌, ◌⊎◌, inl, inr, ℕ, zero, suc, ◌+◌, ◌^◌, ◌<◌, ◌≤◌, false, Some, Option, List, length, refl, sym, ap, ◌∙◌, subst, arith, add-one}
use Rattle.std.specs.Prelude.{max, slice_get}
use Rattle.std.proofs.lemmas.Bool.{cases_lt}
use Rattle.dh_value.specs.declared.operators.Op.{Op}
use Rattle.dh_value.specs.Words.{IsKind}
use Rattle.dh_tree.specs.PlainTrees.{Term}
use Rattle.dh_meaning.specs.AccessNumbers.{term_accesses}
use Rattle.dh_meaning.specs.Levels.{Leveled, Levels, greatest, with_value, with_variables}
use Rattle.dh_code.specs.Slots.{held_at}
use Rattle.dh_expressions.specs.declared.accesses.Accesses.{Accesses}
use Rattle.dh_expressions.specs.declared.drafts.Draft.{Draft}
use Rattle.dh_expressions.specs.declared.scenes.Around.{Around}
use Rattle.dh_expressions.specs.declared.scenes.Scene.{Scene}
use Rattle.dh_expressions.specs.Drafted.{Extends}
use Rattle.dh_expressions.specs.MadeTerms.{MadeTerm}
use Rattle.dh_expressions.specs.Shown.{kind_written, register_at}
use Rattle.dh_expressions.proofs.ListPlaces.{set_long}
use Rattle.dh_expressions.proofs.Pushing.{extends_again}
use Rattle.dh_formed.specs.Counted.{AreNext, HaveGiven, given_at_paths}
use Rattle.dh_formed.specs.Formed.{Agrees, HeldSuits, AreNotedReads, IsScope, TermSuits}
use Rattle.dh_formed.specs.Timed.{AgreeInTime, BlockClocks, CurrentAt, HasClock, LevelsThen, NotedInTime, ReadsAgree, TimesValue, Within, leveled}
use Rattle.dh_formed.proofs.LevelsBehind.{levels_behind}
use Rattle.dh_formed.proofs.ValuesFormed.{agrees_before}
use Rattle.dh_formed.proofs.ValuesTimed.{agree_before, held_timed, number_timed, time_later, within_again, within_more, within_none}
use Rattle.dh_commands.specs.declared.buildings.Building.{Building}
use Rattle.dh_commands.specs.LanesRun.{lane_of, paths_counted}
use Rattle.dh_commands.specs.MadeCommands.{AssignedTo, ClearedTo, MadeAssigned, MadeCleared, MadeLanes, MadeReduced, ReducedTo}
use Rattle.dh_commands.specs.ShownVariables.{register_in}
use Rattle.dh_commands.specs.Undone.{Assigns}
use Rattle.dh_laid.specs.Laid.{AreHeld, FitsRegister, FormsThere, ReducerSuits}
use Rattle.dh_laid.proofs.PathsLaid.{extends_same, round_later, scope_of}
use Rattle.dh_laid.proofs.ReducersLaid.{reduces_form}
use Rattle.dh_laid.proofs.ValuesLaid.{assignments_form, clearings_form}
use Rattle.dh_paced.specs.Paced.{IsIn}
use Rattle.dh_paced.specs.Standing.{HaveGivenTo, IsGround, IsTarget, OwnsTerm, Paces, StandsFor, TakesAlone}
use Rattle.dh_paced.proofs.AssigningPaced.{Assigning, assigned_all, assigning_more, assigning_none, mentioned_there}
use Rattle.dh_paced.proofs.AssignmentsLogged.{register_under}
use Rattle.dh_paced.proofs.LeavesPaced.{IsHere, TermHere, folded_timed, next_of, term_here}
use Rattle.dh_paced.proofs.LevelsOfCommands.{assigned_levels}

pub reads_less : (c : BlockClocks) (l : Levels) (j k : ℕ) → j ≤ k → ReadsAgree c l k → ReadsAgree c l j
reads_less c l j k few h = λ m s at less. h m s at (omega (arith, few, less))

module _ (c : BlockClocks) (scene : Scene) (top : Around) (spaces : ℕ) (shared : ℕ → Option ℕ) (Variable Read Own : ℕ → Type 0) (g : IsGround c scene top spaces shared Variable Read Own) where
  -- what accesses have given where a command is done at the first paths, so many: it reads so many, and makes so many
  pub record GivenAt (first reads count k : ℕ) (a : Accesses) : Type 0 where
    pub done : (e : ℕ) → Read e → e < first → given_at_paths a e ≡ paths_counted top
    pub own : (m : ℕ) → IsIn first reads m → given_at_paths a m ≡ k
    pub rest : (m : ℕ) → Own m → first + count ≤ m → given_at_paths a m ≡ 0

  pub given_begin : (first reads count : ℕ) (a : Accesses) → ((m : ℕ) → IsIn first reads m → Own m) → HaveGivenTo c scene top spaces shared Variable Read Own a first → GivenAt first reads count 0 a
  given_begin first reads count a own h = record { done = h.done; own = λ m among. h.rest m (own m among) among.0; rest = λ m is more. h.rest m is (omega (arith, more)) }

  pub given_more : (around : Around) (first reads count k : ℕ) (a b : Accesses) → reads ≤ count → HaveGiven (lane_of around k) a b first reads → GivenAt first reads count k a → GivenAt first reads count (suc k) b
  given_more around first reads count k a b few h s = record {
    done = λ e read less. h.before_them e less ∙ s.done e read less;
    own = λ m among. h.own m among.0 among.1 ∙ add-one k;
    rest = λ m is more. h.behind_them m (omega (arith, few, more)) ∙ s.rest m is more;
  }

  pub given_end : (first reads count : ℕ) (a : Accesses) → ((e : ℕ) → Read e → IsIn first count e → IsIn first reads e) → GivenAt first reads count (paths_counted top) a → HaveGivenTo c scene top spaces shared Variable Read Own a (first + count)
  given_end first reads count a only h = record { done = λ e read less. by e read less (cases_lt e first); rest = h.rest }
    where
      by : (e : ℕ) → Read e → e < first + count → (e < first) ⊎ (first ≤ e) → given_at_paths a e ≡ paths_counted top
      by e read less (inl before) = h.done e read before
      by e read less (inr from) = h.own e (only e read (from, less))

  pub given_to : (a : Accesses) (n m : ℕ) → n ≡ m → HaveGivenTo c scene top spaces shared Variable Read Own a n → HaveGivenTo c scene top spaces shared Variable Read Own a m
  given_to a n m same h = subst (λ (k : ℕ). HaveGivenTo c scene top spaces shared Variable Read Own a k) same h

  module _ (around : Around) (outer first : ℕ) (l : Levels) (old : Building) (s : StandsFor c scene top spaces shared Variable Read Own around old outer first l) where
    pub within_top : (k : ℕ) → k < paths_counted top → k < paths_counted around
    within_top k within = subst (λ (n : ℕ). k < n) (sym s.under.counted) within

    -- what stands behind the first paths, so many
    pub record AtLane (most reads count : ℕ) (Current : List (Option ℕ) → Type 0) (k : ℕ) (b : Building) : Type 0 where
      pub extends : Extends old.draft b.draft
      pub noted : AreNotedReads c.block b.draft b.accesses
      pub held : AreHeld c.block b.draft b.values
      pub long : length b.values.current.items ≡ spaces
      pub within : Within c old.draft b.draft most
      pub in_time : NotedInTime c b.accesses
      pub given : GivenAt first reads count k b.accesses
      pub current : Current b.values.current.items

    pub lane_begin : (most reads count : ℕ) (Current : List (Option ℕ) → Type 0) → ((m : ℕ) → IsIn first reads m → Own m) → Current old.values.current.items → (b : Building) → b ≡ old → AtLane most reads count Current 0 b
    lane_begin most reads count Current own current b same =
        subst (λ (d : Building). AtLane most reads count Current 0 d) (sym same) (record {
          extends = extends_same old old refl;
          noted = s.noted;
          held = s.held.held;
          long = s.long;
          within = within_none c old.draft old.draft most refl;
          in_time = s.in_time;
          given = given_begin first reads count old.accesses own s.given;
          current = current;
        })

    pub lane_started : (most reads count : ℕ) (Current : List (Option ℕ) → Type 0) (k : ℕ) (b : Building) → AtLane most reads count Current k b → c.block.first ≤ length b.draft.operations.items
    lane_started most reads count Current k b h = time_later c old.draft b.draft h.extends s.started

    pub lane_scope : (most reads count : ℕ) (Current : List (Option ℕ) → Type 0) (k : ℕ) (b : Building) → k < paths_counted top → AtLane most reads count Current k b → IsScope c.block b.draft scene (lane_of around k) b.values.current.items
    lane_scope most reads count Current k b within h =
        scope_of c.block b.draft scene around k b.values.current.items (round_later c.block old.draft b.draft scene around h.extends s.round) h.held.current (within_top k within)

    pub lane_here : (most reads count : ℕ) (Current : List (Option ℕ) → Type 0) (k : ℕ) (b : Building) (mid : Draft) → k < paths_counted top → AtLane most reads count Current k b → Agrees c.block mid → AgreeInTime c mid
        → IsHere c scene top spaces shared Variable Read Own g (lane_of around k) outer b.values.current.items b.draft mid b.accesses l
    lane_here most reads count Current k b mid within h agrees agree = record {
      agrees = agrees;
      agree = agree;
      started = lane_started most reads count Current k b h;
      scope = lane_scope most reads count Current k b within h;
      noted = h.noted;
      bounded = s.bounded;
      guards = s.guards;
      in_time = h.in_time;
      outer_few = s.outer_few;
    }

    pub lane_next : (reads count k : ℕ) (a : Accesses) → ((m : ℕ) → IsIn first reads m → Own m) → k < paths_counted top → GivenAt first reads count k a → AreNext scene (lane_of around k) a first reads
    lane_next reads count k a own within h =
        next_of c scene top spaces shared Variable Read Own g (lane_of around k) a first reads own h.own (λ e read less. subst (λ (n : ℕ). k < n) (sym (h.done e read less)) within)

    -- from path to path
    pub lanes_paced : (One : ℕ → (b d : Building) → ℕ → Type 0) (most reads count : ℕ) (Current : ℕ → List (Option ℕ) → Type 0) → ((k : ℕ) (b d : Building) (n : ℕ) → One k b d n → Extends b.draft d.draft)
        → ((k : ℕ) (b d : Building) (n : ℕ) → One k b d n → k < paths_counted top → Agrees c.block d.draft → AgreeInTime c d.draft → AtLane most reads count (Current k) k b → AtLane most reads count (Current (suc k)) (suc k) d)
        → ((m : ℕ) → IsIn first reads m → Own m) → Current 0 old.values.current.items
        → (paths : ℕ) (new : Building) (next : ℕ) → paths ≤ paths_counted top → MadeLanes One paths first old new next → Agrees c.block new.draft → AgreeInTime c new.draft → AtLane most reads count (Current paths) paths new
    lanes_paced One most reads count Current extends step own begin zero new next few m agrees agree = lane_begin most reads count (Current 0) own begin new m.0
    lanes_paced One most reads count Current extends step own begin (suc n) new next few m agrees agree =
        let e : Extends (m.0).draft new.draft = extends n m.0 new next m.1.1.1 in
        step n m.0 new next m.1.1.1 (omega (arith, few)) agrees agree
        (lanes_paced One most reads count Current extends step own begin n m.0 m.1.0 (omega (arith, few)) m.1.1.0 (agrees_before c.block (m.0).draft new.draft e agrees) (agree_before c (m.0).draft new.draft e agree))

    -- One path.

    self : (n : ℕ) → n ≤ n
    self n = omega arith

    module _ (e : ℕ) (target : IsTarget c scene top spaces shared Variable Read Own e) (k : ℕ) (within : k < paths_counted top) (b d : Building) where
      set_here : (value hi : ℕ) → Assigns b.values d.values (register_at (held_at scene.held.now e) (lane_of around k)) k value → length b.values.current.items ≡ spaces → HasClock c hi value
          → Assigning c scene top spaces shared Variable Read Own g e target l hi k b.values.current.items → Assigning c scene top spaces shared Variable Read Own g e target l hi (suc k) d.values.current.items
      set_here value hi sets long at h =
          let own : Assigns b.values d.values (register_in scene top e k) k value = subst (λ (r : ℕ). Assigns b.values d.values r k value) (register_under scene top around e k s.under.levels) sets in
          assigning_more c scene top spaces shared Variable Read Own g e target l hi k value b.values.current.items d.values.current.items own.current within
          (subst (λ (n : ℕ). register_in scene top e k < n) (sym long) (g.room e k target.is target.no_counter within)) at h

      set_kept : (r value : ℕ) → Assigns b.values d.values r k value → length b.values.current.items ≡ spaces → length d.values.current.items ≡ spaces
      set_kept r value sets long = ap (λ (os : List (Option ℕ)). length os) sets.current ∙ (set_long b.values.current.items r (Some value) ∙ long)

    -- an expression, and what is put down behind it for a variable
    module _ (e : ℕ) (target : IsTarget c scene top spaces shared Variable Read Own e) (t : Term) (few : first + term_accesses t < 2 ^ 32) (own : OwnsTerm c scene top spaces shared Variable Read Own outer first t)
        (alone : TakesAlone c scene top spaces shared Variable Read Own e first t) (reads : ReadsAgree c (leveled scene shared outer first t l).levels (first + term_accesses t)) where
      abbrev made : Leveled
      made = leveled scene shared outer first t l

      behind : LevelsThen first (term_accesses t) l made
      behind = levels_behind scene shared outer t first l

      -- a value of this level
      abbrev Lane : (hi k : ℕ) → Building → Type 0
      Lane hi k b = AtLane made.levels.most (term_accesses t) (term_accesses t) (Assigning c scene top spaces shared Variable Read Own g e target l hi k) k b

      module _ (hi k : ℕ) (within : k < paths_counted top) (b d : Building) (mid : Draft) (next v : ℕ) (term : MadeTerm scene (lane_of around k) b.values.current.items t b.draft mid b.accesses d.accesses first next v)
          (suits : TermSuits c.block scene (lane_of around k) first t) (agrees : Agrees c.block mid) (agree : AgreeInTime c mid) (h : Lane hi k b) where
        here : IsHere c scene top spaces shared Variable Read Own g (lane_of around k) outer b.values.current.items b.draft mid b.accesses l
        here = lane_here made.levels.most (term_accesses t) (term_accesses t) (Assigning c scene top spaces shared Variable Read Own g e target l hi k) k b mid within h agrees agree

        term_is : TermHere c scene top spaces shared Variable Read Own g (lane_of around k) outer b.values.current.items b.draft mid b.accesses d.accesses first next l here t v
        term_is =
            term_here c scene top spaces shared Variable Read Own g (lane_of around k) outer b.values.current.items b.draft mid b.accesses d.accesses first next l here t v term few own
            (lane_next (term_accesses t) (term_accesses t) k b.accesses own.are.own within h.given) suits
            (λ f v mentioned. mentioned_there c scene top spaces shared Variable Read Own g e target l hi around k first t b.values.current.items s.under within alone h.current f v mentioned) reads

        -- what stands behind a path, once its value is set
        lane_more : (value : ℕ) → Extends mid d.draft → FormsThere c.block b d → Assigns b.values d.values (register_at (held_at scene.held.now e) (lane_of around k)) k value → HasClock c hi value → Within c mid d.draft made.levels.most → Lane hi (suc k) d
        lane_more value extends there sets at last = record {
          extends = extends_again old.draft b.draft d.draft h.extends (extends_again b.draft mid d.draft term_is.extends extends);
          noted = there.notes;
          held = there.held;
          long = set_kept e target k within b d _ value sets h.long;
          within =
              within_again c old.draft b.draft d.draft made.levels.most made.levels.most (self made.levels.most) h.within
              (within_again c b.draft mid d.draft made.levels.most made.levels.most (self made.levels.most) term_is.timed_is.within last);
          in_time = term_is.timed_is.noted;
          given = given_more around first (term_accesses t) (term_accesses t) k b.accesses d.accesses (self (term_accesses t)) term_is.given h.given;
          current = set_here e target k within b d value hi sets h.long at h.current;
        }

      -- an assignment
      assigned_step : (k : ℕ) (b d : Building) (n : ℕ) → MadeAssigned scene (lane_of around k) first e t b d n → k < paths_counted top → Agrees c.block d.draft → AgreeInTime c d.draft
          → (TermSuits c.block scene (lane_of around k) first t × HeldSuits t (held_at scene.held.now e).kind) × FitsRegister c.block scene (lane_of around k) e → Lane made.level k b → Lane made.level (suc k) d
      assigned_step k b d n m within agrees agree w h =
          let value : TimesValue m.middle d.draft m.held (λ x. HasClock x made.level m.value) (λ x. made.level) = held_timed t (held_at scene.held.now e).kind m.value (λ x. made.level) m.middle d.draft m.held m.holds in
          let before : Agrees c.block m.middle = agrees_before c.block m.middle d.draft value.extends agrees in
          let agree_mid : AgreeInTime c m.middle = agree_before c m.middle d.draft value.extends agree in
          let is : TermHere c scene top spaces shared Variable Read Own g (lane_of around k) outer b.values.current.items b.draft m.middle b.accesses d.accesses first n l (here made.level k within b d m.middle n m.value m.term w.0.0 before agree_mid h) t m.value =
          term_is made.level k within b d m.middle n m.value m.term w.0.0 before agree_mid h in
          let started : c.block.first ≤ length b.draft.operations.items = lane_started made.levels.most (term_accesses t) (term_accesses t) _ k b h in
          let there : FormsThere c.block b d =
          (assignments_form scene (lane_of around k) first e t b d n m few).forms c.block agrees started (lane_scope made.levels.most (term_accesses t) (term_accesses t) _ k b within h) h.noted h.held w in
          let begun : c.block.first ≤ length m.middle.operations.items = time_later c b.draft m.middle is.extends started in
          lane_more made.level k within b d m.middle n m.value m.term w.0.0 before agree_mid h m.held value.extends there m.sets (value.at c agree begun is.timed_is.at)
          (within_more c m.middle d.draft made.level made.levels.most (behind.level_few s.bounded) (value.within c agree begun is.timed_is.at))

      -- a reducer: what its variable shows is there at its level before, or at the new one, where another path set it
      reduced_step : (op : Op) (k : ℕ) (b d : Building) (n : ℕ) → MadeReduced scene (lane_of around k) first e op t b d n → k < paths_counted top → Agrees c.block d.draft → AgreeInTime c d.draft
          → (TermSuits c.block scene (lane_of around k) first t × ReducerSuits op (held_at scene.held.now e).kind (kind_written t))
          × ((register_at (held_at scene.held.now e) (lane_of around k) < length c.block.plan.registers) × FitsRegister c.block scene (lane_of around k) e)
          → Lane (max (l.variables e) made.level) k b → Lane (max (l.variables e) made.level) (suc k) d
      reduced_step op k b d n m within agrees agree w h = by (h.current.rest k (self k) within)
        where
          hi : ℕ
          hi = max (l.variables e) made.level

          shows : (level : ℕ) → CurrentAt c (slice_get b.values.current.items (register_in scene top e k)) level → CurrentAt c (slice_get b.values.current.items (register_at (held_at scene.held.now e) (lane_of around k))) level
          shows level there = subst (λ (r : ℕ). CurrentAt c (slice_get b.values.current.items r) level) (sym (register_under scene top around e k s.under.levels)) there

          hi_few : hi ≤ made.levels.most
          hi_few = join (l.variables e) made.level l.most made.levels.most (s.bounded.variables e) behind.more (behind.level_few s.bounded)
            where
              join : (x y m p : ℕ) → x ≤ m → m ≤ p → y ≤ p → max x y ≤ p
              join x y m p f i j = omega (arith, f, i, j)

          -- from what it shows
          from : (level : ℕ) → max level made.level ≡ hi → CurrentAt c (slice_get b.values.current.items (register_at (held_at scene.held.now e) (lane_of around k))) level → Lane hi (suc k) d
          from level same there =
              let value : TimesValue m.middle d.draft m.folded (λ x. CurrentAt x (slice_get b.values.current.items (register_at (held_at scene.held.now e) (lane_of around k))) level × HasClock x made.level m.value) (λ x. max level made.level) =
              folded_timed (lane_of around k) b.values.current.items (held_at scene.held.now e) op t m.value level made.level m.middle d.draft m.folded m.folds in
              let before : Agrees c.block m.middle = agrees_before c.block m.middle d.draft value.extends agrees in
              let agree_mid : AgreeInTime c m.middle = agree_before c m.middle d.draft value.extends agree in
              let is : TermHere c scene top spaces shared Variable Read Own g (lane_of around k) outer b.values.current.items b.draft m.middle b.accesses d.accesses first n l (here hi k within b d m.middle n m.value m.term w.0.0 before agree_mid h) t m.value =
              term_is hi k within b d m.middle n m.value m.term w.0.0 before agree_mid h in
              let started : c.block.first ≤ length b.draft.operations.items = lane_started made.levels.most (term_accesses t) (term_accesses t) _ k b h in
              let formed : FormsThere c.block b d =
              (reduces_form scene (lane_of around k) first e op t b d n m few).forms c.block agrees started (lane_scope made.levels.most (term_accesses t) (term_accesses t) _ k b within h) h.noted h.held w in
              let begun : c.block.first ≤ length m.middle.operations.items = time_later c b.draft m.middle is.extends started in
              lane_more hi k within b d m.middle n m.value m.term w.0.0 before agree_mid h m.folded value.extends formed m.sets (value.at c agree begun (there, is.timed_is.at) ∙ same)
              (within_more c m.middle d.draft (max level made.level) made.levels.most (subst (λ (i : ℕ). i ≤ made.levels.most) (sym same) hi_few) (value.within c agree begun (there, is.timed_is.at)))

          by : CurrentAt c (slice_get b.values.current.items (register_in scene top e k)) (l.variables e)
              ⊎ (CurrentAt c (slice_get b.values.current.items (register_in scene top e k)) hi × ((j : ℕ) × ((j < k) × (register_in scene top e j ≡ register_in scene top e k)))) → Lane hi (suc k) d
          by (inl there) = from (l.variables e) refl (shows (l.variables e) there)
          by (inr (there, other)) = from hi (absorbed (l.variables e) made.level) (shows hi there)
            where
              absorbed : (x y : ℕ) → max (max x y) y ≡ max x y
              absorbed x y = omega arith

      -- behind all paths
      assigned_end : (hi : ℕ) (new : Building) → Lane hi (paths_counted top) new → Paces c scene top spaces shared Variable Read Own old new (with_variables made.levels (with_value made.levels.variables e hi)) (first + term_accesses t)
      assigned_end hi new h = record {
        within = h.within;
        in_time = h.in_time;
        current = assigned_all c scene top spaces shared Variable Read Own g e target l hi new.values.current.items made.levels behind.variables h.current;
        given = given_end first (term_accesses t) (term_accesses t) new.accesses (λ f read among. among) h.given;
      }

      pub assigned_paced : (new : Building) (next : ℕ) → AssignedTo scene around first e t (paths_counted top) old new next → Agrees c.block new.draft → AgreeInTime c new.draft
          → ((k : ℕ) → k < paths_counted top → (TermSuits c.block scene (lane_of around k) first t × HeldSuits t (held_at scene.held.now e).kind) × FitsRegister c.block scene (lane_of around k) e)
          → Paces c scene top spaces shared Variable Read Own old new (assigned_levels scene shared e made) (first + term_accesses t)
      assigned_paced new next m agrees agree suits =
          assigned_end made.level new
          (lanes_paced (λ k b d n. MadeAssigned scene (lane_of around k) first e t b d n) made.levels.most (term_accesses t) (term_accesses t) (λ k. Assigning c scene top spaces shared Variable Read Own g e target l made.level k)
          (λ k b d n one. (assignments_form scene (lane_of around k) first e t b d n one few).extends) (λ k b d n one within at in_time h. assigned_step k b d n one within at in_time (suits k within) h) own.are.own
          (assigning_none c scene top spaces shared Variable Read Own g e target l made.level old.values.current.items s.current) (paths_counted top) new next (self (paths_counted top)) m agrees agree)

      pub reduced_paced : (op : Op) (new : Building) (next : ℕ) → ReducedTo scene around first e op t (paths_counted top) old new next → Agrees c.block new.draft → AgreeInTime c new.draft
          → ((k : ℕ) → k < paths_counted top → (TermSuits c.block scene (lane_of around k) first t × ReducerSuits op (held_at scene.held.now e).kind (kind_written t))
          × ((register_at (held_at scene.held.now e) (lane_of around k) < length c.block.plan.registers) × FitsRegister c.block scene (lane_of around k) e))
          → Paces c scene top spaces shared Variable Read Own old new (assigned_levels scene shared e (greatest (l.variables e) made)) (first + term_accesses t)
      reduced_paced op new next m agrees agree suits =
          assigned_end (max (l.variables e) made.level) new
          (lanes_paced (λ k b d n. MadeReduced scene (lane_of around k) first e op t b d n) made.levels.most (term_accesses t) (term_accesses t)
          (λ k. Assigning c scene top spaces shared Variable Read Own g e target l (max (l.variables e) made.level) k) (λ k b d n one. (reduces_form scene (lane_of around k) first e op t b d n one few).extends)
          (λ k b d n one within at in_time h. reduced_step op k b d n one within at in_time (suits k within) h) own.are.own
          (assigning_none c scene top spaces shared Variable Read Own g e target l (max (l.variables e) made.level) old.values.current.items s.current) (paths_counted top) new next (self (paths_counted top)) m agrees agree)

    -- a variable that is set to 0 or false
    module _ (e : ℕ) (target : IsTarget c scene top spaces shared Variable Read Own e) where
      abbrev Clear : (k : ℕ) → Building → Type 0
      Clear k b = AtLane l.most 0 0 (Assigning c scene top spaces shared Variable Read Own g e target l 0 k) k b

      none_in : (m : ℕ) → IsIn first 0 m → ⊥
      none_in m h = let f = h.0 in let b = h.1 in omega (arith, f, b)

      cleared_step : (k : ℕ) (b d : Building) → MadeCleared scene (lane_of around k) e b d → k < paths_counted top → Agrees c.block d.draft → AgreeInTime c d.draft
          → IsKind (held_at scene.held.now e).kind × FitsRegister c.block scene (lane_of around k) e → Clear k b → Clear (suc k) d
      cleared_step k b d m within agrees agree w h =
          let value : TimesValue b.draft d.draft m.value (λ x. Unit {0}) (λ x. 0) = number_timed (held_at scene.held.now e).kind false 0 b.draft d.draft m.value m.number in
          let started : c.block.first ≤ length b.draft.operations.items = lane_started l.most 0 0 _ k b h in
          let there : FormsThere c.block b d = (clearings_form scene (lane_of around k) e b d m).forms c.block agrees started (lane_scope l.most 0 0 _ k b within h) h.noted h.held w in
          record {
            extends = extends_again old.draft b.draft d.draft h.extends value.extends;
            noted = there.notes;
            held = there.held;
            long = set_kept e target k within b d _ m.value m.sets h.long;
            within =
                within_again c old.draft b.draft d.draft l.most l.most (self l.most) h.within
                (within_more c b.draft d.draft 0 l.most (least l.most) (value.within c agree started tt));
            in_time = subst (λ (a : Accesses). NotedInTime c a) (sym m.same) h.in_time;
            given = subst (λ (a : Accesses). GivenAt first 0 0 (suc k) a) (sym m.same) (record { done = h.given.done; own = λ i among. absurd (none_in i among); rest = h.given.rest });
            current = set_here e target k within b d m.value 0 m.sets h.long (value.at c agree started tt) h.current;
          }
        where
          least : (n : ℕ) → 0 ≤ n
          least n = omega arith

      pub cleared_paced : (new : Building) (next : ℕ) → ClearedTo scene around first e (paths_counted top) old new next → Agrees c.block new.draft → AgreeInTime c new.draft
          → ((k : ℕ) → k < paths_counted top → IsKind (held_at scene.held.now e).kind × FitsRegister c.block scene (lane_of around k) e)
          → Paces c scene top spaces shared Variable Read Own old new (with_variables l (with_value l.variables e 0)) (first + 0)
      cleared_paced new next m agrees agree suits =
          let h : Clear (paths_counted top) new =
          lanes_paced (λ k b d n. MadeCleared scene (lane_of around k) e b d × (n ≡ first)) l.most 0 0 (λ k. Assigning c scene top spaces shared Variable Read Own g e target l 0 k) (λ k b d n one. (clearings_form scene (lane_of around k) e b d one.0).extends)
          (λ k b d n one within at in_time h. cleared_step k b d one.0 within at in_time (suits k within) h) (λ i among. absurd (none_in i among))
          (assigning_none c scene top spaces shared Variable Read Own g e target l 0 old.values.current.items s.current) (paths_counted top) new next (self (paths_counted top)) m agrees agree in
          record {
            within = h.within;
            in_time = h.in_time;
            current = assigned_all c scene top spaces shared Variable Read Own g e target l 0 new.values.current.items l (λ f. refl) h.current;
            given = given_end first 0 0 new.accesses (λ f read among. among) h.given;
          }
