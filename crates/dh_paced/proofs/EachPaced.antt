-- The commands of a block in time, one after the other.
use Rattle.std.proofs.Common.{◌≡◌, ◌⊎◌, inl, inr, ℕ, ◌+◌, ◌^◌, ◌<◌, ◌≤◌, true, Some, Option, List, [], ◌∷◌, length, refl, sym, ◌∙◌, subst, arith}
use Rattle.std.specs.List.{AllByRecursion}
use Rattle.std.proofs.lemmas.Bool.{cases_lt}
use Rattle.dh_meaning.specs.AccessNumbers.{accesses_of}
use Rattle.dh_meaning.specs.Core.{no_commands}
use Rattle.dh_meaning.specs.CoreOf.{core_action, core_commands, Known}
use Rattle.dh_meaning.specs.Levels.{Levels}
use Rattle.dh_meaning.specs.OnePhase.{any_makes, makes}
use Rattle.dh_meaning.specs.Phases.{Located}
use Rattle.dh_plan.specs.PlanPhases.{commands_mention}
use Rattle.dh_expressions.specs.declared.accesses.Accesses.{Accesses}
use Rattle.dh_expressions.specs.declared.scenes.Around.{Around}
use Rattle.dh_expressions.specs.declared.scenes.Scene.{Scene}
use Rattle.dh_expressions.specs.Drafted.{Extends}
use Rattle.dh_expressions.specs.Evaluated.{known_in}
use Rattle.dh_expressions.proofs.Pushing.{extends_again}
use Rattle.dh_formed.specs.Counted.{given_at_paths}
use Rattle.dh_formed.specs.Formed.{Agrees, AreNotedReads, BlockSite}
use Rattle.dh_formed.specs.Timed.{AgreeInTime, AreBounded, BlockClocks}
use Rattle.dh_formed.proofs.TermsCounted.{left_of, right_of}
use Rattle.dh_formed.proofs.ValuesFormed.{agrees_before}
use Rattle.dh_formed.proofs.ValuesTimed.{agree_before}
use Rattle.dh_commands.specs.declared.buildings.Building.{Building}
use Rattle.dh_commands.specs.LanesRun.{paths_counted}
use Rattle.dh_commands.specs.MadeCommands.{MadeCommand}
use Rattle.dh_laid.specs.BareCommands.{AreRising}
use Rattle.dh_laid.specs.BlockSites.{MadeEach}
use Rattle.dh_laid.specs.LaidCommands.{CommandSuits, EachSuits, FormsCommand}
use Rattle.dh_laid.specs.LaidNumbers.{StoresReach}
use Rattle.dh_laid.proofs.CommandsLaid.{command_forms}
use Rattle.dh_laid.proofs.CommandsNumbered.{command_reached}
use Rattle.dh_laid.proofs.PathsLaid.{extends_same}
use Rattle.dh_paced.specs.BlockLengths.{AssignsOwn}
use Rattle.dh_paced.specs.Paced.{IsIn, IsOfEach, IsReadIn, IsReadOfEach, action_levels, each_levels, outer_each, outer_in}
use Rattle.dh_paced.specs.Standing.{HaveGivenTo, IsGround, Paces, StandsFor}
use Rattle.dh_paced.proofs.CommandsPaced.{both_paced, command_paced, stands_then}
use Rattle.dh_paced.proofs.CoreAppended.{action_then_mentions}
use Rattle.dh_paced.proofs.LevelsOfCommands.{LevelsGo, action_go, read_in}
use Rattle.dh_paced.proofs.OwnsCommands.{Knows, owns_in, pick_high, pick_low}

-- Numbers.

abbrev pub end_of : (from : ℕ) → List Located → ℕ
end_of from [] = from
end_of from (c ∷ cs) = end_of (c.first + accesses_of c.command) cs

pub each_from : (from : ℕ) (cs : List Located) → AreRising from cs → (m : ℕ) → IsOfEach cs m → from ≤ m
each_from from [] rising m i = absurd i
each_from from (c ∷ cs) rising m (inl i) = let r = rising.0 in let f = i.0 in omega (arith, r, f)
each_from from (c ∷ cs) rising m (inr i) = let r = rising.0 in let f = each_from (c.first + accesses_of c.command) cs rising.1.1 m i in omega (arith, r, f)

pub read_of_each : (known : Known) (cs : List Located) → AllByRecursion (λ (c : Located). StoresReach c.command) cs → (m : ℕ) → IsReadOfEach known cs m → IsOfEach cs m
read_of_each known [] reach m i = absurd i
read_of_each known (c ∷ cs) reach m (inl i) = inl (read_in known c.first c.command m i reach.0)
read_of_each known (c ∷ cs) reach m (inr i) = inr (read_of_each known cs reach.1 m i)

end_behind : (from : ℕ) (cs : List Located) → AreRising from cs → from ≤ end_of from cs
end_behind from [] rising = omega arith
end_behind from (c ∷ cs) rising = let r = rising.0 in let f = end_behind (c.first + accesses_of c.command) cs rising.1.1 in omega (arith, r, f)

pub each_below : (from : ℕ) (cs : List Located) → AreRising from cs → (m : ℕ) → IsOfEach cs m → m < end_of from cs
each_below from [] rising m i = absurd i
each_below from (c ∷ cs) rising m (inl i) = let l = i.1 in let f = end_behind (c.first + accesses_of c.command) cs rising.1.1 in omega (arith, l, f)
each_below from (c ∷ cs) rising m (inr i) = each_below (c.first + accesses_of c.command) cs rising.1.1 m i

-- Levels.

module _ (scene : Scene) (shared : ℕ → Option ℕ) where
  pub record EachGo (cs : List Located) (from : ℕ) (l : Levels) : Type 0 where
    pub before_them : (m : ℕ) → m < from → (each_levels (known_in scene) shared cs l).reads m ≡ l.reads m
    pub more : l.most ≤ (each_levels (known_in scene) shared cs l).most
    pub bounded : AreBounded l → AreBounded (each_levels (known_in scene) shared cs l)
    pub least : (k : ℕ) → l.most ≤ k → ((m : ℕ) → IsReadOfEach (known_in scene) cs m → (each_levels (known_in scene) shared cs l).reads m ≤ k) → (each_levels (known_in scene) shared cs l).most ≤ k

  pub each_go : (cs : List Located) (from : ℕ) (l : Levels) → AllByRecursion (λ (c : Located). StoresReach c.command) cs → AreRising from cs → EachGo cs from l
  each_go [] from l reach rising = record { before_them = λ m less. refl; more = omega arith; bounded = λ b. b; least = λ k small reads. small }
  each_go (c ∷ cs) from l reach rising =
      let la : Levels = action_levels (known_in scene) shared 0 c.first c.command l in
      let one : LevelsGo (IsReadIn (known_in scene) c.first c.command) c.first (accesses_of c.command) l la = action_go scene shared 0 c.first c.command l reach.0 in
      let rest : EachGo cs (c.first + accesses_of c.command) la = each_go cs (c.first + accesses_of c.command) la reach.1 rising.1.1 in
      let r = rising.0 in
      record {
        before_them = λ m less. rest.before_them m (omega (arith, less, r)) ∙ one.before_them m (omega (arith, less, r));
        more = let s = one.more in let t = rest.more in omega (arith, s, t);
        bounded = λ b. rest.bounded (one.bounded b);
        least = λ k small reads.
            rest.least k (one.least k small (λ m i. subst (λ (n : ℕ). n ≤ k) (rest.before_them m (read_in (known_in scene) c.first c.command m i reach.0).1) (reads m (inl i)))) (λ m i. reads m (inr i));
      }

module _ (c : BlockClocks) (scene : Scene) (top : Around) (spaces : ℕ) (shared : ℕ → Option ℕ) (Variable Read Own : ℕ → Type 0) (g : IsGround c scene top spaces shared Variable Read Own) where
  -- numbers that no access has
  given_gap : (a : Accesses) (n k : ℕ) → n ≤ k → ((e : ℕ) → Read e → n ≤ e → k ≤ e) → HaveGivenTo c scene top spaces shared Variable Read Own a n → HaveGivenTo c scene top spaces shared Variable Read Own a k
  given_gap a n k few gap h = record { done = λ e read less. by e read less (cases_lt e n); rest = λ m is more. h.rest m is (omega (arith, few, more)) }
    where
      by : (e : ℕ) → Read e → e < k → (e < n) ⊎ (n ≤ e) → given_at_paths a e ≡ paths_counted top
      by e read less (inl front) = h.done e read front
      by e read less (inr from) = absurd (let f = gap e read from in never f less)
        where
          never : k ≤ e → e < k → ⊥
          never f l = omega (arith, f, l)

  stands_gap : (old : Building) (n k : ℕ) (l : Levels) → n ≤ k → ((e : ℕ) → Read e → n ≤ e → k ≤ e) → StandsFor c scene top spaces shared Variable Read Own top old 0 n l → StandsFor c scene top spaces shared Variable Read Own top old 0 k l
  stands_gap old n k l few gap s = record {
    under = s.under;
    started = s.started;
    round = s.round;
    noted = s.noted;
    held = s.held;
    long = s.long;
    guards = s.guards;
    bounded = s.bounded;
    outer_few = s.outer_few;
    in_time = s.in_time;
    current = s.current;
    given = given_gap old.accesses n k few gap s.given;
  }

  -- what is known of one command of a block
  pub one_formed : (d : Located) (old new : Building) (next : ℕ) (m : MadeCommand scene d.command top old new d.first next) → StoresReach d.command → d.first + accesses_of d.command < 2 ^ 32
      → FormsCommand scene top old new (λ x. CommandSuits x scene d.command top old new d.first next m)
  one_formed d old new next m reach few = command_forms scene d.command top old new d.first next m (command_reached scene d.command top old new d.first next m reach g.some few).0

  each_extends : (cs : List Located) (from : ℕ) (old new : Building) → MadeEach scene top cs old new → AllByRecursion (λ (d : Located). StoresReach d.command) cs → AreRising from cs → Extends old.draft new.draft
  each_extends [] from old new m reach rising = extends_same old new m
  each_extends (d ∷ cs) from old new (mid, (next, (m, rest))) reach rising =
      extends_again old.draft mid.draft new.draft (one_formed d old mid next m reach.0 rising.1.0).extends (each_extends cs (d.first + accesses_of d.command) mid new rest reach.1 rising.1.1)

  pub record EachPaced (old new : Building) (l : Levels) (next : ℕ) : Type 0 where
    pub paces : Paces c scene top spaces shared Variable Read Own old new l next
    pub noted : AreNotedReads c.block new.draft new.accesses
    pub extends : Extends old.draft new.draft

  pub each_paced : (cs : List Located) (from : ℕ) (old new : Building) (m : MadeEach scene top cs old new) (l : Levels) → AllByRecursion (λ (d : Located). StoresReach d.command) cs → AreRising from cs → EachSuits c.block scene top cs old new m
      → AllByRecursion (λ (d : Located). AssignsOwn scene top d.first d.command) cs → StandsFor c scene top spaces shared Variable Read Own top old 0 from l
      → ((x : ℕ) → any_makes x cs ≡ true → Own x) → ((x : ℕ) → from ≤ x → c.outer x ≡ outer_each (known_in scene) shared cs l x) → ((e : ℕ) → Read e → from ≤ e → IsReadOfEach (known_in scene) cs e)
      → ((e : ℕ) → commands_mention e (core_commands (known_in scene) cs) ≡ true → Variable e)
      → ((x : ℕ) (s : BlockSite) → c.block.sites x ≡ Some s → (each_levels (known_in scene) shared cs l).reads x ≡ c.reads x) → Agrees c.block new.draft → AgreeInTime c new.draft
      → EachPaced old new (each_levels (known_in scene) shared cs l) (end_of from cs)
  each_paced [] from old new m l reach rising suits assign s own outers reads names told agrees agree =
      subst (λ (b : Building). EachPaced old b l from) (sym m) (record {
        paces = record { within = λ n far less. absurd (never (length old.draft.operations.items) n far less); in_time = s.in_time; current = s.current; given = s.given };
        noted = s.noted;
        extends = extends_same old old refl;
      })
    where
      never : (a n : ℕ) → a ≤ n → n < a → ⊥
      never a n f l = omega (arith, f, l)
  each_paced (d ∷ cs) from old new (mid, (next, (m, rest))) l reach rising suits assign s own outers reads names told agrees agree =
      let k : ℕ = d.first + accesses_of d.command in
      let la : Levels = action_levels (known_in scene) shared 0 d.first d.command l in
      let f : FormsCommand scene top old mid (λ x. CommandSuits x scene d.command top old mid d.first next m) = one_formed d old mid next m reach.0 rising.1.0 in
      let one_go : LevelsGo (IsReadIn (known_in scene) d.first d.command) d.first (accesses_of d.command) l la = action_go scene shared 0 d.first d.command l reach.0 in
      let rest_go : EachGo scene shared cs k la = each_go scene shared cs k la reach.1 rising.1.1 in
      let more : Extends mid.draft new.draft = each_extends cs k mid new rest reach.1 rising.1.1 in
      let agrees_mid : Agrees c.block mid.draft = agrees_before c.block mid.draft new.draft more agrees in
      let here : StandsFor c scene top spaces shared Variable Read Own top old 0 d.first l = stands_gap old from d.first l rising.0 (λ e read more. each_first e (reads e read more)) s in
      let mention = λ (e : ℕ). action_then_mentions (known_in scene) d.first d.command (core_commands (known_in scene) cs) e in
      let known : Knows c scene top spaces shared Variable Read Own d.first (accesses_of d.command) (λ x. outer_in (known_in scene) shared 0 d.first d.command l x) (IsReadIn (known_in scene) d.first d.command) (λ x. makes x d.first d.command) (core_action (known_in scene) d.first d.command no_commands) =
      record {
        own = λ x i. own x (left_of (makes x d.first d.command) (any_makes x cs) i);
        outer_is = λ x i. outers x (let r = rising.0 in let a = i.0 in omega (arith, r, a)) ∙ pick_low x k (outer_in (known_in scene) shared 0 d.first d.command l x) (outer_each (known_in scene) shared cs la x) i.1;
        reads = λ e read i. read_here e i (reads e read (let r = rising.0 in let a = i.0 in omega (arith, r, a)));
        names = λ e mentioned. names e (mention e ∙ left_of (commands_mention e (core_action (known_in scene) d.first d.command no_commands)) (commands_mention e (core_commands (known_in scene) cs)) mentioned);
      } in
      let p : Paces c scene top spaces shared Variable Read Own old mid la k =
      command_paced c scene top spaces shared Variable Read Own g d.command top old mid d.first next m d.first refl reach.0 rising.1.0 suits.0 0 l here (owns_in c scene top spaces shared Variable Read Own 0 d.first d.command l reach.0 assign.0 known)
      (λ x site at less. sym (rest_go.before_them x less) ∙ told x site at) agrees_mid (agree_before c mid.draft new.draft more agree) in
      let behind : StandsFor c scene top spaces shared Variable Read Own top mid 0 k la =
      stands_then c scene top spaces shared Variable Read Own g top old mid 0 d.first k l la (λ x. CommandSuits x scene d.command top old mid d.first next m) here f agrees_mid suits.0 one_go.bounded one_go.more p in
      let q : EachPaced mid new (each_levels (known_in scene) shared cs la) (end_of k cs) =
      each_paced cs k mid new rest la reach.1 rising.1.1 suits.1 assign.1 behind (λ x i. own x (right_of (makes x d.first d.command) (any_makes x cs) i))
      (λ x from_k. outers x (let r = rising.0 in omega (arith, r, from_k)) ∙ pick_high x k (outer_in (known_in scene) shared 0 d.first d.command l x) (outer_each (known_in scene) shared cs la x) from_k)
      (λ e read from_k. read_behind e from_k (reads e read (let r = rising.0 in omega (arith, r, from_k))))
      (λ e mentioned. names e (mention e ∙ right_of (commands_mention e (core_action (known_in scene) d.first d.command no_commands)) (commands_mention e (core_commands (known_in scene) cs)) mentioned)) told agrees agree in
      record {
        paces = both_paced c scene top spaces shared Variable Read Own g old mid new la (each_levels (known_in scene) shared cs la) k (end_of k cs) rest_go.more p q.paces;
        noted = q.noted;
        extends = extends_again old.draft mid.draft new.draft f.extends q.extends;
      }
    where
      each_first : (e : ℕ) → IsReadOfEach (known_in scene) (d ∷ cs) e → d.first ≤ e
      each_first e (inl i) = (read_in (known_in scene) d.first d.command e i reach.0).0
      each_first e (inr i) = let a = each_from (d.first + accesses_of d.command) cs rising.1.1 e (read_of_each (known_in scene) cs reach.1 e i) in omega (arith, a)

      read_here : (e : ℕ) → IsIn d.first (accesses_of d.command) e → IsReadOfEach (known_in scene) (d ∷ cs) e → IsReadIn (known_in scene) d.first d.command e
      read_here e i (inl r) = r
      read_here e i (inr r) = absurd (let a = each_from (d.first + accesses_of d.command) cs rising.1.1 e (read_of_each (known_in scene) cs reach.1 e r) in let b = i.1 in never a b)
        where
          never : d.first + accesses_of d.command ≤ e → e < d.first + accesses_of d.command → ⊥
          never a b = omega (arith, a, b)

      read_behind : (e : ℕ) → d.first + accesses_of d.command ≤ e → IsReadOfEach (known_in scene) (d ∷ cs) e → IsReadOfEach (known_in scene) cs e
      read_behind e from_k (inr r) = r
      read_behind e from_k (inl r) = absurd (let b = (read_in (known_in scene) d.first d.command e r reach.0).1 in never from_k b)
        where
          never : d.first + accesses_of d.command ≤ e → e < d.first + accesses_of d.command → ⊥
          never a b = omega (arith, a, b)
