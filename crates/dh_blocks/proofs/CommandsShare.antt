-- Commands along the trace of the program: their shared reads mean the same, and what is known of reads goes on behind.
use Rattle.std.proofs.Common.{◌≡◌, ◌⊎◌, inl, inr, ℕ, zero, suc, ◌+◌, ◌<◌, ◌≤◌, ◌==◌, ◌&&◌, ◌||◌, nat_eq, Bool, true, false, if◌then◌else◌, List, [], ◌∷◌, ◌++◌, length, take, Option, Some, None, refl, sym, ◌∙◌, ap, subst, arith}
use Rattle.std.specs.Prelude.{slice_get}
use Rattle.std.specs.List.{list_any}
use Rattle.std.proofs.lemmas.Bool.Decides.{nat_tests}
use Rattle.std.proofs.lemmas.List.{append_assoc, append-nil, length-take, take_all}
use Rattle.dh_value.specs.declared.kinds.Kind.{Kind}
use Rattle.dh_tree.specs.declared.tables.MemEntry.{MemEntry}
use Rattle.dh_tree.specs.declared.trees.expressions.Ref.{Ref}
use Rattle.dh_tree.specs.Numbers.{commands_in, commands_in_other, commands_in_part, IsNumbered, IsNumberedOther, AreNumbered, AreNumberedGroups}
use Rattle.dh_tree.specs.PlainTrees as plain
use Rattle.dh_tree.specs.PlainTrees.{Program, Term, term, Action, action, lets, lets_memory, views, assigns, stores, reduces, calls, blocks, decides, repeats, counts, MaybeAction, no_action, one_action, Actions, no_actions, action_then, Groups, no_groups, group_then}
use Rattle.dh_tree.specs.Seen.{program_seen, terms}
use Rattle.dh_tree.specs.ViewOffsets.{offsets_of}
use Rattle.dh_meaning.specs.AccessNumbers.{accesses_of, groups_accesses, other_accesses, part_accesses, term_accesses, terms_accesses}
use Rattle.dh_meaning.specs.Core.{CoreTerm, no_commands}
use Rattle.dh_meaning.specs.CoreOf.{Known, core_action, core_groups, core_other, core_part, core_term, core_terms, entity_number, kept_by, way_of}
use Rattle.dh_value.specs.Words as words
use Rattle.dh_meaning.specs.Effects.{Begun, Effect, Variables, commands_run, value_of_term, values_of}
use Rattle.dh_meaning.specs.Levels.{any_assigns}
use Rattle.dh_meaning.specs.OnePhase.{form_makes, groups_make, in_one_phase, is_between, makes, other_makes, part_makes}
use Rattle.dh_meaning.specs.Paths.{Path, copies_in, same_path}
use Rattle.dh_meaning.specs.Ways.{Hidden, behind_all, hidden_in, part_standings, standings}
use Rattle.dh_meaning.specs.Sites as sites
use Rattle.dh_meaning.specs.Sites.{Arm, in_arm}
use Rattle.dh_meets.specs.Sharing.{all_arms_of, same_arm, same_truth, shared}
use Rattle.dh_meets.specs.SourceEvents.{Element, with_indices, in_row, SourceEvent, accesses, assigned, command_events, events, groups_events, one_access, other_events, part_events, site_of, source_term_events, source_terms_events, write_events}
use Rattle.dh_sound.specs.BehindViews.{ActionBehind, FormBehind, GroupsBehind, IsOwn, OtherBehind, PartBehind, TermBehind, TermsBehind}
use Rattle.dh_sound.specs.SimpleForms.{FoldsInJoins, GroupsFoldInJoins, OtherFoldsInJoins, PartFoldsInJoins}
use Rattle.dh_sound.specs.Straight.{AreNamedActions, AreNamedGroups, AreNamedTerms, IsNamedAction, IsNamedOther, IsNamedTerm, IsTarget as NamesTarget}
use Rattle.dh_sound.specs.Trails.{AllBelow, Below, EachAccess, count}
use Rattle.dh_sound.specs.ViewTrails.{IsBehind}
use Rattle.dh_sound.proofs.EventsBehind.{behind_action, behind_more, behind_part, behind_test, behind_then, terms_seen}
use Rattle.dh_sound.proofs.KnownReads.{HasNoArm, NoneInArm}
use Rattle.dh_sound.proofs.Makes.{Within, action_counted, form_counted, groups_within, is_within_so, makes_within, other_within, part_counted, part_within, two_within, within_is}
use Rattle.dh_sound.proofs.ValuesBelow.{AgreeBelow, kept_above}
use Rattle.dh_sound.proofs.Sites.{StandsWithin, action_stands, each_both, other_stands, part_stands, term_stands}
use Rattle.dh_sound.proofs.TermWalks.{term_counted}
use Rattle.dh_sound.proofs.Trails.{all_up, below_up, stands_below}
use Rattle.dh_plan.proofs.SourceMoves.{commands_spare, same_is, set_other}
use Rattle.dh_code.proofs.PathsInOrder.{length_path}
use Rattle.dh_expressions.specs.declared.paths.Level.{Level}
use Rattle.dh_expressions.specs.declared.scenes.Around.{Around}
use Rattle.dh_expressions.specs.declared.scenes.Scene.{Scene}
use Rattle.dh_expressions.specs.Drafted.{BlockStep}
use Rattle.dh_expressions.specs.Evaluated.{begun_of, known_in}
use Rattle.dh_expressions.specs.Levels.{path_at}
use Rattle.dh_commands.specs.LanesRun.{IsArm, comes_out, is_on_at, lanes_run, path_in, paths_counted, paths_on, run_if}
use Rattle.dh_commands.specs.ShownVariables.{depth_in, level_factors}
use Rattle.dh_commands.specs.Followed.{Arms, arms_of, arms_then, no_arms, FitGroups, FitOther, FitPart, FitArms, assign_run, effect_of, groups_effect, kept_run, other_effect, part_effect, store_run, term_in, test_out, test_run, tested}
use Rattle.dh_blocks.specs.FoundAccesses.{Found, found, form_of_found, groups_found, other_found, part_found, target_found, term_found, terms_found, variables_along, view_found}
use Rattle.dh_blocks.specs.BlockGround.{AreFoundAt, IsFoundAt, SharesIn, SharesInForm, SharesInGroups, SharesInOther, SharesInPart, SharesInView, TargetShares, TermShares}
use Rattle.dh_blocks.specs.BlockTraced.{TellsWays}
use Rattle.dh_blocks.specs.SoundCommands.{CanKeep, IsOwnOf, SoundAction, SoundGroups, SoundOther, SoundPart}
use Rattle.dh_blocks.specs.PathsOfLevels.{AreSpread}
use Rattle.dh_blocks.proofs.CommandsFollow.{found_long, part_long}
use Rattle.dh_blocks.proofs.CommandsJoined.{action_then_run, joined_run, part_joined}
use Rattle.dh_blocks.proofs.ElementsAlike.{IsFree}
use Rattle.dh_blocks.proofs.PathNumbers.{number_is, numbered}
use Rattle.dh_blocks.proofs.ReadsKnown.{IsPassed, Knows, idle_passed, knows_access, knows_arm, knows_kept, knows_over, knows_past, knows_seen, passed_both}
use Rattle.dh_blocks.proofs.SharesFound.{IsCut, IsHere, first_cut, then_cut, walk_term, walk_terms}
use Rattle.dh_blocks.proofs.TermsFollow.{found_first, found_then, term_long}
use Rattle.dh_blocks.proofs.EventsAssign.{HeadIs, head_here, kept_below, left_action, left_first, left_other, left_then, named_is, not_free, not_true, or_false, store_assigns}

-- Arms.

below_arm : (m k : ℕ) (arms : List Arm) (first : Bool) → m < k → Below m arms → Below k (arms ++ record { command = m; first = first } ∷ [])
below_arm m k [] first l h = ((omega arith, l), tt)
below_arm m k (a ∷ arms) first l h = let u = h.0.1 in ((omega arith, omega (arith, u, l)), below_arm m k arms first l h.1)

and_false : (a b : Bool) → a ≡ false → (a && b) ≡ false
and_false true b e = cc
and_false false b e = refl

and_right : (a b : Bool) → b ≡ false → (a && b) ≡ false
and_right true b e = e
and_right false b e = refl

other_number : (i j : ℕ) → j < i → nat_eq i j ≡ false
other_number i j l = grind (arith, nat_tests)

-- an arm is not among those of commands before it
absent : (m : ℕ) (first : Bool) (arms : List Arm) → Below m arms → list_any (λ a. same_arm (record { command = m; first = first }) a) arms ≡ false
absent m first [] h = refl
absent m first (a ∷ arms) h = or_false (same_arm (record { command = m; first = first }) a) _ (and_false (nat_eq m a.command) (same_truth first a.first) (other_number m a.command h.0.1)) (absent m first arms h.1)

-- nor is the first arm of an `if` among those round its second one
absent_other : (m : ℕ) (arms : List Arm) → Below m arms → list_any (λ a. same_arm (record { command = m; first = true }) a) (arms ++ record { command = m; first = false } ∷ []) ≡ false
absent_other m [] h = or_false (same_arm (record { command = m; first = true }) (record { command = m; first = false })) false (and_right (nat_eq m m) false refl) refl
absent_other m (a ∷ arms) h = or_false (same_arm (record { command = m; first = true }) a) _ (and_false (nat_eq m a.command) (same_truth true a.first) (other_number m a.command h.0.1)) (absent_other m arms h.1)

not_all : (m : ℕ) (first : Bool) (bs : List Arm) → list_any (λ a. same_arm (record { command = m; first = first }) a) bs ≡ false → (front more : List Arm)
    → all_arms_of (front ++ record { command = m; first = first } ∷ more) bs ≡ false
not_all m first bs h [] more = and_false (list_any (λ a. same_arm (record { command = m; first = first }) a) bs) (all_arms_of more bs) h
not_all m first bs h (a ∷ front) more = and_right (list_any (λ b. same_arm a b) bs) _ (not_all m first bs h front more)

none_there : (begun : Begun) (known : Known) (in_block : ℕ → Bool) (m : ℕ) (arms : List Arm) → Below m arms → HasNoArm begun known [] in_block m arms
none_there begun known in_block m [] h = tt
none_there begun known in_block m (a ∷ arms) h = (differ a.command m h.0.1, none_there begun known in_block m arms h.1)
  where
    differ : (i j : ℕ) → i < j → nat_eq i j ≡ false
    differ i j l = grind (arith, nat_tests)

fresh_arm : (begun : Begun) (known : Known) (in_block : ℕ → Bool) (m : ℕ) (before : List SourceEvent) → AllBelow m before → NoneInArm begun known [] in_block m before
fresh_arm begun known in_block m [] h = tt
fresh_arm begun known in_block m (accesses a ∷ before) h = (none_there begun known in_block m a.site.arms h.0, fresh_arm begun known in_block m before h.1)
fresh_arm begun known in_block m (assigned o ∷ before) h = fresh_arm begun known in_block m before h

-- Along a run at all paths.

module _ (x : BlockStep) (around : Around) where
  lanes_same : (run : Path → Effect → Effect) → ((p : Path) (e : Effect) → (run p e).variables ≡ e.variables) → (n : ℕ) (e : Effect) → (lanes_run x around run n e).variables ≡ e.variables
  lanes_same run same zero e = refl
  lanes_same run same (suc n) e = by (is_on_at x around n) (lanes_same run same n e)
    where
      by : (on : Bool) → (lanes_run x around run n e).variables ≡ e.variables → (run_if on run (path_in around n) (lanes_run x around run n e)).variables ≡ e.variables
      by true h = same (path_in around n) (lanes_run x around run n e) ∙ h
      by false h = h

store_same : (scene : Scene) (x : BlockStep) (n : ℕ) (target t : Term) (p : Path) (e : Effect) → (store_run scene x n target t p e).variables ≡ e.variables
store_same scene x n (term place k (plain.accessed r ts)) t p e = refl
store_same scene x n (term place k (plain.in_bank r bank at row)) t p e = refl
store_same scene x n (term place k (plain.number negative z)) t p e = refl
store_same scene x n (term place k (plain.truth_value b)) t p e = refl
store_same scene x n (term place k (plain.named r)) t p e = refl
store_same scene x n (term place k (plain.applied o l r)) t p e = refl
store_same scene x n (term place k (plain.converted inner to)) t p e = refl

module _ (scene : Scene) (x : BlockStep) (around : Around) (r : Ref) (t : CoreTerm) where
  -- another variable is left
  lanes_other : (m : ℕ) → (m == entity_number r.entity) ≡ false → (n : ℕ) (e : Effect) (q : Path) → (lanes_run x around (assign_run scene x r t) n e).variables m q ≡ e.variables m q
  lanes_other m other zero e q = refl
  lanes_other m other (suc n) e q = by (is_on_at x around n) (lanes_other m other n e q)
    where
      by : (on : Bool) → (lanes_run x around (assign_run scene x r t) n e).variables m q ≡ e.variables m q
          → (run_if on (assign_run scene x r t) (path_in around n) (lanes_run x around (assign_run scene x r t) n e)).variables m q ≡ e.variables m q
      by true h = set_other (lanes_run x around (assign_run scene x r t) n e).variables (entity_number r.entity) (take (depth_in scene (entity_number r.entity)) (path_in around n)) _ m q other ∙ h
      by false h = h

  -- and what is seen at a path is left by all paths before it, where the variable is another at each
  module _ (spread : AreSpread around.levels.now) (counted : paths_counted around ≡ copies_in (level_factors around.levels.now)) (full : length around.levels.now ≤ depth_in scene (entity_number r.entity)) where
    long : (j : ℕ) → j < paths_counted around → length (path_in around j) ≡ length around.levels.now
    long j h = length_path (level_factors around.levels.now) (path_in around j) (numbered around.levels.now spread j (subst (λ (n : ℕ). j < n) counted h)).path ∙ long_map around.levels.now
      where
        long_map : (ls : List Level) → length (level_factors ls) ≡ length ls
        long_map [] = refl
        long_map (l ∷ ls) = ap suc (long_map ls)

    apart : (i j : ℕ) → i < paths_counted around → j < paths_counted around → (i ≡ j → ⊥) → (d : ℕ) → same_path (take d (path_in around i)) (take (depth_in scene (entity_number r.entity)) (path_in around j)) ≡ false
    apart i j h g differ d = not_true _ never
      where
        never : same_path (take d (path_in around i)) (take (depth_in scene (entity_number r.entity)) (path_in around j)) ≡ true → ⊥
        never e =
            let a = long i h in
            let b = long j g in
            let whole : take (depth_in scene (entity_number r.entity)) (path_in around j) ≡ path_in around j = take_all (depth_in scene (entity_number r.entity)) (path_in around j) (omega (arith, b, full)) in
            let same : take d (path_in around i) ≡ path_in around j = same_is (take d (path_in around i)) (take (depth_in scene (entity_number r.entity)) (path_in around j)) e ∙ whole in
            let m = ap length same in
            let k = length-take d (path_in around i) in
            let all : take d (path_in around i) ≡ path_in around i = take_all d (path_in around i) (grind (arith, a, b, m, k)) in
            differ (number_is around.levels.now spread i j (subst (λ (n : ℕ). i < n) counted h) (subst (λ (n : ℕ). j < n) counted g) (sym all ∙ same))

    lanes_seen : (i : ℕ) → i < paths_counted around → (n : ℕ) → n ≤ i → (e : Effect) (entity d : ℕ)
        → (lanes_run x around (assign_run scene x r t) n e).variables entity (take d (path_in around i)) ≡ e.variables entity (take d (path_in around i))
    lanes_seen i h zero low e entity d = refl
    lanes_seen i h (suc n) low e entity d = by (is_on_at x around n) (lanes_seen i h n (less n i low) e entity d)
      where
        less : (n i : ℕ) → suc n ≤ i → n ≤ i
        less n i l = omega (arith, l)

        differ : i ≡ n → ⊥
        differ same = never i n low same
          where
            never : (i n : ℕ) → suc n ≤ i → i ≡ n → ⊥
            never i n l s = omega (arith, l, s)

        by : (on : Bool) → (lanes_run x around (assign_run scene x r t) n e).variables entity (take d (path_in around i)) ≡ e.variables entity (take d (path_in around i))
            → (run_if on (assign_run scene x r t) (path_in around n) (lanes_run x around (assign_run scene x r t) n e)).variables entity (take d (path_in around i)) ≡ e.variables entity (take d (path_in around i))
        by true g =
            ap (λ (c : Bool). if c then words.value_of (value_of_term (begun_of x) (lanes_run x around (assign_run scene x r t) n e).variables (path_in around n) t) else (lanes_run x around (assign_run scene x r t) n e).variables entity (take d (path_in around i)))
            (and_right (entity == entity_number r.entity) _ (apart i n h (let l = low in omega (arith, l, h)) differ d))
            ∙ g
        by false g = g

-- a view sets nothing below its first variable
lanes_below : (scene : Scene) (x : BlockStep) (around : Around) (h : Hidden) (n : ℕ) (ts : List Term) (k : ℕ) (e : Effect) → AgreeBelow h.entity e.variables (lanes_run x around (kept_run scene x h n ts) k e).variables
lanes_below scene x around h n ts zero e = λ m below q. refl
lanes_below scene x around h n ts (suc k) e = λ m below q. lanes_below scene x around h n ts k e m below q ∙ by (is_on_at x around k) m below q
  where
    f : Effect
    f = lanes_run x around (kept_run scene x h n ts) k e

    by : (on : Bool) (m : ℕ) → m < h.entity → (q : Path) → f.variables m q ≡ (run_if on (kept_run scene x h n ts) (path_in around k) f).variables m q
    by true m below q = kept_above f.variables h.entity (take h.depth (path_in around k)) (values_of (begun_of x) f.variables (path_in around k) (core_terms (known_in scene) n (terms ts))) m below q
    by false m below q = refl

module _ (scene : Scene) (x : BlockStep) (find : ℕ → Option Found) (levels : List Level) (size : ℕ) (in_block : ℕ → Bool)
    (share : (j k : ℕ) → in_one_phase (program_seen scene.program.now) j k ≡ true → in_block k ≡ true → in_block j ≡ true)
    (shares_are : (k j : ℕ) → slice_get scene.shares.now k ≡ Some (Some j) → shared (program_seen scene.program.now) k ≡ Some j)
    (spread : AreSpread levels) (sized : size ≡ copies_in (level_factors levels)) (table : List MemEntry) (Name : Ref → Kind → Type 0) (ways : TellsWays scene) where
  abbrev known : Known
  known = known_in scene

  abbrev program : Program
  program = program_seen scene.program.now

  abbrev Here : Around → Type 0
  Here = IsHere scene x find levels size in_block share shares_are

  abbrev CutAt : (before part : List SourceEvent) → (n : ℕ) → Type 0
  CutAt = IsCut scene x find levels size in_block share shares_are

  abbrev KnowsAt : Around → sites.Around → (before : List SourceEvent) → (V : ℕ → Variables) → Type 0
  KnowsAt = Knows scene x find levels size in_block

  abbrev Passed : sites.Around → ℕ → List SourceEvent → Type 0
  Passed = IsPassed scene x find levels size in_block

  abbrev cut_first : (before one two : List SourceEvent) (n : ℕ) → CutAt before (one ++ two) n → CutAt before one n
  cut_first = first_cut scene x find levels size in_block share shares_are

  abbrev cut_then : (before one two : List SourceEvent) (n m : ℕ) → CutAt before (one ++ two) n → m ≡ n + count one → CutAt (before ++ one) two m
  cut_then = then_cut scene x find levels size in_block share shares_are

  -- the block makes of a command's accesses just those that the command makes
  abbrev pub Agrees : (n c : ℕ) → (ℕ → Bool) → Type 0
  Agrees n c f = (k : ℕ) → Within k n c → in_block k ≡ f k

  right_false : (a b : Bool) → b ≡ false → (a || b) ≡ a
  right_false true b e = refl
  right_false false b e = e

  left_false : (a b : Bool) → a ≡ false → (a || b) ≡ b
  left_false true b e = cc
  left_false false b e = refl

  pub first_agrees : (n c d : ℕ) (f g : ℕ → Bool) → Agrees n (c + d) (λ k. f k || g k) → ((k : ℕ) → g k ≡ true → Within k (n + c) d) → Agrees n c f
  first_agrees n c d f g a within k w = a k (let u = w.1 in (w.0, omega (arith, u))) ∙ right_false (f k) (g k) (not_true (g k) (λ t. let y = within k t in let l = y.0 in let u = w.1 in omega (arith, l, u)))

  pub then_agrees : (n c d : ℕ) (f g : ℕ → Bool) → Agrees n (c + d) (λ k. f k || g k) → ((k : ℕ) → f k ≡ true → Within k n c) → Agrees (n + c) d g
  then_agrees n c d f g a within k w = a k (let l = w.0 in let u = w.1 in (omega (arith, l), omega (arith, u))) ∙ left_false (f k) (g k) (not_true (f k) (λ t. let y = within k t in let l = w.0 in let u = y.1 in omega (arith, l, u)))

  own_inside : (n c d : ℕ) → Agrees n d (λ k. is_between k n c) → c ≤ d → (k : ℕ) → n ≤ k → k < n + c → in_block k ≡ true
  own_inside n c d a le k l u = a k (l, omega (arith, le, u)) ∙ is_within_so k n c (l, u)

  -- what is round a command, and before it
  pub record Stood (r : sites.Around) (m : ℕ) (before : List SourceEvent) : Type 0 where
    pub below : Below m r.arms
    pub fresh : AllBelow m before

  regroup : (around : Around) (r : sites.Around) (V : ℕ → Variables) (before one two : List SourceEvent) → KnowsAt around r ((before ++ one) ++ two) V → KnowsAt around r (before ++ (one ++ two)) V
  regroup around r V before one two k = subst (λ (l : List SourceEvent). KnowsAt around r l V) (append_assoc before one two) k

  -- the accesses of an arm are passed where the arm is not round
  arm_passed : (r round : sites.Around) (m lo hi : ℕ) (first : Bool) (n : ℕ) (part : List SourceEvent) → list_any (λ a. same_arm (record { command = m; first = first }) a) round.arms ≡ false
      → EachAccess (StandsWithin (in_arm r m first) lo hi) part → Passed round n part
  arm_passed r round m lo hi first n [] none h = tt
  arm_passed r round m lo hi first n (accesses a ∷ part) none h = (
    inr (ap (λ l. all_arms_of l round.arms) (h.0.arms_are ∙ append_assoc r.arms (record { command = m; first = first } ∷ []) h.0.arms) ∙ not_all m first round.arms none r.arms h.0.arms),
    arm_passed r round m lo hi first (suc n) part none h.1,
  )
  arm_passed r round m lo hi first n (assigned o ∷ part) none h = arm_passed r round m lo hi first n part none h

  inner : (around arm : Around) (holds : Bool) (test : Path → Bool) → IsArm x around arm holds test → Here around → Here arm
  inner around arm holds test h here = record { levels_are = h.levels ∙ here.levels_are; long = h.long ∙ here.long }

  less_on : (around arm : Around) (holds : Bool) (test : Path → Bool) → IsArm x around arm holds test → Here around → (i : ℕ) → i < size → is_on_at x arm i ≡ true → is_on_at x around i ≡ true
  less_on around arm holds test h here i l on = first_of (is_on_at x around i) (comes_out holds (test (path_in around i))) (sym (h.on i (subst (λ (n : ℕ). i < n) (sym here.long) l)) ∙ on)
    where
      first_of : (a b : Bool) → (a && b) ≡ true → a ≡ true
      first_of true b e = refl
      first_of false b e = cc

  -- behind an assignment
  assigned_walk : (around : Around) → Here around → (r : sites.Around) (id y : ℕ) (before : List SourceEvent) (n : ℕ) (q : Ref) (t : Term) (e : Effect) → IsOwn program q × TermBehind program y t → IsBehind program y before → IsNamedTerm t
      → IsOwnOf scene around.levels.now (entity_number q.entity) → CutAt before (source_term_events (site_of r id) t ++ assigned q.entity ∷ []) n → Agrees n (term_accesses t + 0) (λ k. is_between k n (term_accesses t))
      → AreFoundAt find n (term_found scene around x (variables_along scene x around (assign_run scene x q (term_in scene x n t)) e) n t) → KnowsAt around r before (λ i. e.variables)
      → (W : Variables) → ((m : ℕ) → (m == entity_number q.entity) ≡ false → (p : Path) → W m p ≡ e.variables m p)
      → TermShares scene x find around (variables_along scene x around (assign_run scene x q (term_in scene x n t)) e) n t × KnowsAt around r (before ++ (source_term_events (site_of r id) t ++ assigned q.entity ∷ [])) (λ i. W)
  assigned_walk around here r id y before n q t e names behind named own c agrees f knows W others =
      let V = variables_along scene x around (assign_run scene x q (term_in scene x n t)) e in
      let seen : KnowsAt around r before V =
      knows_seen scene x find levels size in_block around r before (λ i. e.variables) V
      (λ i h entity d. sym (ap (λ (ls : List Level). (V i) entity (take d (path_at ls i))) (sym here.levels_are)
      ∙ (lanes_seen scene x around q (term_in scene x n t) (subst (λ (ls : List Level). AreSpread ls) (sym here.levels_are) spread)
      (here.long ∙ (sized ∙ ap (λ (ls : List Level). copies_in (level_factors ls)) (sym here.levels_are))) own.full i (subst (λ (m : ℕ). i < m) (sym here.long) h) i (same i) e entity d
      ∙ ap (λ (ls : List Level). e.variables entity (take d (path_at ls i))) here.levels_are))) knows in
      let w = walk_term scene x find levels size in_block share shares_are around here r id V before n t named (cut_first before (source_term_events (site_of r id) t) (assigned q.entity ∷ []) n c)
      (own_inside n (term_accesses t) (term_accesses t + 0) agrees (zero_more (term_accesses t))) f seen in (
        w.0,
        regroup around r (λ i. W) before (source_term_events (site_of r id) t) (assigned q.entity ∷ [])
            (knows_over scene x find levels size in_block ways around r (before ++ source_term_events (site_of r id) t) (assigned q.entity ∷ []) V (λ i. W) y tt (behind_test program y (site_of r id) before t behind names.1)
            (λ i h m low left p. lanes_other scene x around q (term_in scene x n t) m (other m left) i e p ∙ sym (others m (other m left) p)) w.1),
      )
    where
      same : (i : ℕ) → i ≤ i
      same i = omega arith

      zero_more : (n : ℕ) → n ≤ n + 0
      zero_more n = omega arith

      other : (m : ℕ) → IsFree m (assigned q.entity ∷ []) ⊎ (length program.entities ≤ m) → (m == entity_number q.entity) ≡ false
      other m (inl free) = not_true (m == entity_number q.entity) (λ h. not_free m (assigned q.entity ∷ []) free (inl ((named_is program q m names.0 h).0)))
      other m (inr past) = not_true (m == entity_number q.entity) (λ h. let l = (named_is program q m names.0 h).1 in omega (arith, l, past))

  -- what a command does not assign is left by it
  left : (around : Around) (n : ℕ) (a : Action) (e : Effect) (m : ℕ) (p : Path) → any_assigns m (core_action known n a no_commands) ≡ false → (effect_of scene x (paths_on x around) n a e).variables m p ≡ e.variables m p
  left around n a e m p h = commands_spare (begun_of x) m p (paths_on x around) (core_action known n a no_commands) e h

  -- a store, of which no variable is set
  stored_walk : (around : Around) → Here around → (r : sites.Around) (id : ℕ) (before : List SourceEvent) (n : ℕ) (target t : Term) (e : Effect) → NamesTarget target → IsNamedTerm t
      → CutAt before (source_term_events (site_of r id) t ++ write_events (site_of r id) target) n → ((k : ℕ) → n ≤ k → k < n + (term_accesses t + term_accesses target) → in_block k ≡ true)
      → AreFoundAt find n (form_of_found scene x around no_arms n (stores target t) e) → KnowsAt around r before (variables_along scene x around (store_run scene x n target t) e)
      → SharesInForm scene x find around no_arms n (stores target t) e
      × KnowsAt around r (before ++ (source_term_events (site_of r id) t ++ write_events (site_of r id) target)) (variables_along scene x around (store_run scene x n target t) e)
  stored_walk around here r id before n target t e names named c within f knows =
      let V = variables_along scene x around (store_run scene x n target t) e in
      let w = walk_term scene x find levels size in_block share shares_are around here r id V before n t named (cut_first before (source_term_events (site_of r id) t) (write_events (site_of r id) target) n c)
      (λ k l u. within k l (omega (arith, u))) (found_first (IsFoundAt find) n (term_found scene around x V n t) _ f) knows in
      let v = target_walk V (before ++ source_term_events (site_of r id) t) (n + term_accesses t) target names
      (cut_then before (source_term_events (site_of r id) t) (write_events (site_of r id) target) n (n + term_accesses t) c (ap (λ m. n + m) (sym (term_counted (site_of r id) t))))
      (λ k l u. within k (omega (arith, l)) (omega (arith, u)))
      (found_then (IsFoundAt find) n (n + term_accesses t) (term_found scene around x V n t) _ (ap (λ m. n + m) (sym (term_long scene around x V n t))) f) w.1 in
      ((w.0, v.0), regroup around r V before (source_term_events (site_of r id) t) (write_events (site_of r id) target) v.1)
    where
      written : (V : ℕ → Variables) (front : List SourceEvent) (place : _) (entity : Option ℕ) (element : Element) (more : List SourceEvent) → KnowsAt around r (front ++ more) V
          → KnowsAt around r (front ++ (more ++ one_access place entity element true (site_of r id))) V
      written V front place entity element more k =
          regroup around r V front more (one_access place entity element true (site_of r id))
          (knows_access scene x find levels size in_block around r (front ++ more) V (record { place = place; entity = entity; element = element; writes = true; site = site_of r id }) k (λ h. absurd (cc)))

      target_walk : (V : ℕ → Variables) (front : List SourceEvent) (m : ℕ) (target : Term) → NamesTarget target → CutAt front (write_events (site_of r id) target) m
          → ((k : ℕ) → m ≤ k → k < m + term_accesses target → in_block k ≡ true) → AreFoundAt find m (target_found scene around x V m target) → KnowsAt around r front V
          → TargetShares scene x find around V m target × KnowsAt around r (front ++ write_events (site_of r id) target) V
      target_walk V front m (term place k (plain.accessed q ts)) names c within f knows =
          let w = walk_terms scene x find levels size in_block share shares_are around here r id V front m ts names (cut_first front (source_terms_events (site_of r id) ts) _ m c)
          (λ j l u. within j l (let a : m + terms_accesses ts < m + suc (terms_accesses ts) = omega arith in omega (arith, u, a))) (found_first (IsFoundAt find) m (terms_found scene around x V m ts) _ f) knows in
          (w.0, written V front place q.entity (with_indices ts) (source_terms_events (site_of r id) ts) w.1)
      target_walk V front m (term place k (plain.in_bank q bank at row)) names c within f knows =
          let w = walk_term scene x find levels size in_block share shares_are around here r id V front m row names (cut_first front (source_term_events (site_of r id) row) _ m c)
          (λ j l u. within j l (let a : m + term_accesses row < m + suc (term_accesses row) = omega arith in omega (arith, u, a))) (found_first (IsFoundAt find) m (term_found scene around x V m row) _ f) knows in
          (w.0, written V front place q.entity (in_row bank row) (source_term_events (site_of r id) row) w.1)
      target_walk V front m (term place k (plain.number negative z)) names c within f knows = absurd names
      target_walk V front m (term place k (plain.truth_value b)) names c within f knows = absurd names
      target_walk V front m (term place k (plain.named q)) names c within f knows = absurd names
      target_walk V front m (term place k (plain.applied o a b)) names c within f knows = absurd names
      target_walk V front m (term place k (plain.converted inner to)) names c within f knows = absurd names

  -- a dead part: no access of it is one of the block, and nothing is done
  dead_walk : (around : Around) (r : sites.Around) (before part : List SourceEvent) (n c : ℕ) (V : ℕ → Variables) → CutAt before part n → count part ≡ c → Agrees n c (λ k. false) → KnowsAt around r before V → KnowsAt around r (before ++ part) V
  dead_walk around r before part n c V s counted agrees knows =
      knows_past scene x find levels size in_block around r before part V
      (subst (λ (m : ℕ). Passed r m part) s.number (idle_passed scene x find levels size in_block r n part (λ k l u. agrees k (l, subst (λ (m : ℕ). k < n + m) counted u)))) knows

  -- a view whose offsets are kept behind all that is known
  kept_walk : (around : Around) → Here around → (r : sites.Around) (id y : ℕ) (before : List SourceEvent) (n : ℕ) (hs : List Hidden) (ts : List Term) (e : Effect) → HeadIs y hs ts
      → CanKeep scene around.levels.now table Name hs ts → TermsBehind program y (terms ts) → AreNamedTerms (terms ts) → IsBehind program y before → CutAt before (source_terms_events (site_of r id) (terms ts)) n
      → ((k : ℕ) → n ≤ k → k < n + terms_accesses (terms ts) → in_block k ≡ true) → AreFoundAt find n (view_found scene x around n hs ts e) → KnowsAt around r before (λ i. e.variables)
      → SharesInView scene x find around n hs ts e
      × KnowsAt around r (before ++ source_terms_events (site_of r id) (terms ts)) (λ i. (commands_run (begun_of x) (paths_on x around) (kept_by hs (core_terms known n (terms ts)) no_commands) e).variables)
  kept_walk around here r id y before n [] [] e head can deep named behind c within f knows =
      (tt, subst (λ (l : List SourceEvent). KnowsAt around r l (λ i. e.variables)) (sym (append-nil before)) knows)
  kept_walk around here r id y before n (h ∷ hs) [] e head can deep named behind c within f knows =
      ((λ i g is. absurd (cc)), subst (λ (l : List SourceEvent). KnowsAt around r l (λ i. e.variables)) (sym (append-nil before)) knows)
  kept_walk around here r id y before n [] (t ∷ ts) e head can deep named behind c within f knows = absurd can
  kept_walk around here r id y before n (h ∷ hs) (t ∷ ts) e head can deep named behind c within f knows = (w.0, after)
    where
      all : List Term
      all = t ∷ ts

      V : ℕ → Variables
      V = variables_along scene x around (kept_run scene x h n all) e

      W : Variables
      W = (commands_run (begun_of x) (paths_on x around) (kept_by (h ∷ hs) (core_terms known n (terms all)) no_commands) e).variables

      at_head : IsBehind program h.entity before
      at_head = subst (λ (m : ℕ). IsBehind program m before) (sym head) behind

      along : (i : ℕ) → AgreeBelow h.entity e.variables (V i)
      along i = lanes_below scene x around h n all i e

      w : SharesInView scene x find around n (h ∷ hs) all e × KnowsAt around r (before ++ source_terms_events (site_of r id) (terms all)) V
      w = walk_terms scene x find levels size in_block share shares_are around here r id V before n (terms all) named c within f
          (knows_kept scene x find levels size in_block ways around r before (λ i. e.variables) V h.entity at_head (λ i l. along i) knows)

      behind_part : IsBehind program h.entity (before ++ source_terms_events (site_of r id) (terms all))
      behind_part = behind_then program h.entity h.entity before (source_terms_events (site_of r id) (terms all)) (same h.entity) at_head
          (terms_seen program h.entity (site_of r id) (terms all) (subst (λ (m : ℕ). TermsBehind program m (terms all)) (sym head) deep))
        where
          same : (m : ℕ) → m ≤ m
          same m = omega arith

      ends : AgreeBelow h.entity e.variables W
      ends m below q = sym (commands_spare (begun_of x) m q (paths_on x around) (kept_by (h ∷ hs) (core_terms known n (terms all)) no_commands) e
          (kept_below known m h.entity n (h ∷ hs) all no_commands below refl))

      after : KnowsAt around r (before ++ source_terms_events (site_of r id) (terms all)) (λ i. W)
      after = knows_kept scene x find levels size in_block ways around r (before ++ source_terms_events (site_of r id) (terms all)) V (λ i. W) h.entity behind_part
          (λ i l m below q. sym (along i m below q) ∙ ends m below q) w.1

  -- What a walk of a command gives.
  abbrev pub Walked : Around → Arms → sites.Around → (before : List SourceEvent) → (n : ℕ) → Action → Effect → Type 0
  Walked around arms r before n a e = SharesIn scene x find around arms n a e × KnowsAt around r (before ++ events r a) (λ i. (effect_of scene x (paths_on x around) n a e).variables)

  abbrev pub SoundAt : List Level → (Folds : ℕ → Type 0) → Action → Type 0
  SoundAt ls Folds a = SoundAction scene ls table Name Folds a

  -- an `if`, from what its arms give
  choice_walk : (around : Around) (one two : Around) (inside behind : Arms) (r : sites.Around) (id d y : ℕ) (before : List SourceEvent) (n : ℕ) (t : Term) (chosen : Action) (other : MaybeAction) (e : Effect) → Here around
      → IsNumbered (suc id) chosen × IsNumberedOther (suc id + commands_in chosen) other → IsNamedTerm t × (IsNamedAction chosen × IsNamedOther other)
      → Agrees n (term_accesses t + (accesses_of chosen + other_accesses other)) (λ k. form_makes k n (decides t chosen other)) → Stood r id before
      → FormBehind program d y (decides t chosen other) → IsBehind program y before → CutAt before (command_events r (site_of r id) (decides t chosen other)) n
      → AreFoundAt find n (term_found scene around x (variables_along scene x around (test_run scene x n t) e) n t) → KnowsAt around r before (λ i. e.variables)
      → ((arm : IsArm x around one true (test_out scene x n t e)) → Stood (in_arm r id true) (suc id) (before ++ source_term_events (site_of r id) t) → IsBehind program y (before ++ source_term_events (site_of r id) t) → CutAt (before ++ source_term_events (site_of r id) t) (events (in_arm r id true) chosen) (n + term_accesses t)
      → Agrees (n + term_accesses t) (accesses_of chosen) (λ k. makes k (n + term_accesses t) chosen)
      → KnowsAt one (in_arm r id true) (before ++ source_term_events (site_of r id) t) (λ i. (tested scene x around n t e).variables)
      → SharesIn scene x find one inside (n + term_accesses t) chosen (tested scene x around n t e))
      → ((arm : IsArm x around one true (test_out scene x n t e)) (second : IsArm x around two false (test_out scene x n t e)) → Stood (in_arm r id false) (suc id + commands_in chosen) ((before ++ source_term_events (site_of r id) t) ++ events (in_arm r id true) chosen)
      → IsBehind program (behind_all y (standings d chosen)) ((before ++ source_term_events (site_of r id) t) ++ events (in_arm r id true) chosen)
      → CutAt ((before ++ source_term_events (site_of r id) t) ++ events (in_arm r id true) chosen) (other_events (in_arm r id false) other) (n + term_accesses t + accesses_of chosen)
      → Agrees (n + term_accesses t + accesses_of chosen) (other_accesses other) (λ k. other_makes k (n + term_accesses t + accesses_of chosen) other)
      → KnowsAt two (in_arm r id false) ((before ++ source_term_events (site_of r id) t) ++ events (in_arm r id true) chosen) (λ i. (effect_of scene x (paths_on x one) (n + term_accesses t) chosen (tested scene x around n t e)).variables)
      → SharesInOther scene x find two behind (n + term_accesses t + accesses_of chosen) other (effect_of scene x (paths_on x one) (n + term_accesses t) chosen (tested scene x around n t e)))
      → SharesInForm scene x find around (arms_of one two inside behind) n (decides t chosen other) e
      × KnowsAt around r (before ++ command_events r (site_of r id) (decides t chosen other)) (λ i. (commands_run (begun_of x) (paths_on x around) (core_action known n (action id (record { line = 0; column = 0 }) (decides t chosen other)) no_commands) e).variables)
  choice_walk around one two inside behind r id d y before n t chosen other e here numbered names agrees stood names_behind at_views c own knows first second = (
    (
      w.0,
      (
        (λ arm. first arm (record { below = below_arm id (suc id) r.arms true (next id) stood.below; fresh = all_up id (suc id) (before ++ te) (low id) fresh_te }) views_te cut_chosen chosen_agrees
            (knows_arm scene x find levels size in_block around one r id true (before ++ te) (λ i. e1.variables) (fresh_arm (begun_of x) known in_block id (before ++ te) fresh_te) (less_on around one true (test_out scene x n t e) arm here) k1)),
        (λ arm also. second arm also (record { below = below_arm id (suc id + commands_in chosen) r.arms false (far id (commands_in chosen)) stood.below; fresh = fresh_ce }) views_ce cut_other other_agrees (over also)),
      ),
    ),
    subst (λ (l : List SourceEvent). KnowsAt around r l (λ i. W)) (append_assoc before te (ce ++ oe)) known_last,
  )
    where
      te : List SourceEvent
      te = source_term_events (site_of r id) t

      ce : List SourceEvent
      ce = events (in_arm r id true) chosen

      oe : List SourceEvent
      oe = other_events (in_arm r id false) other

      n1 : ℕ
      n1 = n + term_accesses t

      n2 : ℕ
      n2 = n + term_accesses t + accesses_of chosen

      e1 : Effect
      e1 = tested scene x around n t e

      W : Variables
      W = (commands_run (begun_of x) (paths_on x around) (core_action known n (action id (record { line = 0; column = 0 }) (decides t chosen other)) no_commands) e).variables

      next : (n : ℕ) → n < suc n
      next n = omega arith

      low : (n : ℕ) → n ≤ suc n
      low n = omega arith

      far : (n k : ℕ) → n < suc n + k
      far n k = omega arith

      same_tested : (j : ℕ) → variables_along scene x around (test_run scene x n t) e j ≡ e.variables
      same_tested j = lanes_same x around (test_run scene x n t) (λ p f. refl) j e

      e1_is : e1.variables ≡ e.variables
      e1_is = lanes_same x around (test_run scene x n t) (λ p f. refl) (paths_counted around) e

      tests_agree : Agrees n (term_accesses t) (λ k. is_between k n (term_accesses t))
      tests_agree = first_agrees n (term_accesses t) (accesses_of chosen + other_accesses other) (λ k. is_between k n (term_accesses t)) (λ k. makes k n1 chosen || other_makes k n2 other) agrees
          (λ k h. two_within k n1 (accesses_of chosen) (other_accesses other) _ _ h (makes_within k n1 chosen) (other_within k n2 other))

      arms_agree : Agrees n1 (accesses_of chosen + other_accesses other) (λ k. makes k n1 chosen || other_makes k n2 other)
      arms_agree = then_agrees n (term_accesses t) (accesses_of chosen + other_accesses other) (λ k. is_between k n (term_accesses t)) (λ k. makes k n1 chosen || other_makes k n2 other) agrees (λ k h. within_is k n (term_accesses t) h)

      chosen_agrees : Agrees n1 (accesses_of chosen) (λ k. makes k n1 chosen)
      chosen_agrees = first_agrees n1 (accesses_of chosen) (other_accesses other) (λ k. makes k n1 chosen) (λ k. other_makes k n2 other) arms_agree (λ k h. other_within k n2 other h)

      other_agrees : Agrees n2 (other_accesses other) (λ k. other_makes k n2 other)
      other_agrees = then_agrees n1 (accesses_of chosen) (other_accesses other) (λ k. makes k n1 chosen) (λ k. other_makes k n2 other) arms_agree (λ k h. makes_within k n1 chosen h)

      k0 : KnowsAt around r before (variables_along scene x around (test_run scene x n t) e)
      k0 = knows_seen scene x find levels size in_block around r before (λ i. e.variables) (variables_along scene x around (test_run scene x n t) e)
          (λ i h entity d. ap (λ (v : Variables). v entity (take d (path_at levels i))) (sym (same_tested i))) knows

      w : TermShares scene x find around (variables_along scene x around (test_run scene x n t) e) n t × KnowsAt around r (before ++ te) (variables_along scene x around (test_run scene x n t) e)
      w = walk_term scene x find levels size in_block share shares_are around here r id (variables_along scene x around (test_run scene x n t) e) before n t names.0 (cut_first before te (ce ++ oe) n c)
          (own_inside n (term_accesses t) (term_accesses t) tests_agree (same (term_accesses t))) own k0
        where
          same : (n : ℕ) → n ≤ n
          same n = omega arith

      k1 : KnowsAt around r (before ++ te) (λ i. e1.variables)
      k1 = knows_seen scene x find levels size in_block around r (before ++ te) (variables_along scene x around (test_run scene x n t) e) (λ i. e1.variables)
          (λ i h entity d. ap (λ (v : Variables). v entity (take d (path_at levels i))) (same_tested i ∙ sym e1_is)) w.1

      views_te : IsBehind program y (before ++ te)
      views_te = behind_test program y (site_of r id) before t at_views names_behind.0

      views_ce : IsBehind program (behind_all y (standings d chosen)) ((before ++ te) ++ ce)
      views_ce = behind_action program d y (in_arm r id true) (before ++ te) chosen views_te names_behind.1.0

      more_views : y ≤ behind_all y (standings d chosen)
      more_views = behind_more y (standings d chosen)

      fresh_te : AllBelow id (before ++ te)
      fresh_te = each_both (λ a. Below id a.site.arms) before te stood.fresh (stands_below r id id te stood.below (term_stands r id id id t))

      cut_arms : CutAt (before ++ te) (ce ++ oe) n1
      cut_arms = cut_then before te (ce ++ oe) n n1 c (ap (λ m. n + m) (sym (term_counted (site_of r id) t)))

      cut_chosen : CutAt (before ++ te) ce n1
      cut_chosen = cut_first (before ++ te) ce oe n1 cut_arms

      counted : count ce ≡ accesses_of chosen
      counted = action_counted (in_arm r id true) chosen names.1.0

      cut_other : CutAt ((before ++ te) ++ ce) oe n2
      cut_other = cut_then (before ++ te) ce oe n1 n2 cut_arms (ap (λ m. n1 + m) (sym counted))

      chosen_stands : EachAccess (StandsWithin (in_arm r id true) (suc id) (suc id + commands_in chosen)) ce
      chosen_stands = action_stands (in_arm r id true) (suc id) chosen numbered.0

      other_stand : EachAccess (StandsWithin (in_arm r id false) (suc id + commands_in chosen) (suc id + commands_in chosen + commands_in_other other)) oe
      other_stand = other_stands (in_arm r id false) (suc id + commands_in chosen) other numbered.1

      fresh_ce : AllBelow (suc id + commands_in chosen) ((before ++ te) ++ ce)
      fresh_ce = each_both (λ a. Below (suc id + commands_in chosen) a.site.arms) (before ++ te) ce (all_up id (suc id + commands_in chosen) (before ++ te) (let l = far id (commands_in chosen) in omega (arith, l)) fresh_te)
          (stands_below (in_arm r id true) (suc id) (suc id + commands_in chosen) ce (below_arm id (suc id + commands_in chosen) r.arms true (far id (commands_in chosen)) stood.below) chosen_stands)

      over : (also : IsArm x around two false (test_out scene x n t e)) → KnowsAt two (in_arm r id false) ((before ++ te) ++ ce) (λ i. (effect_of scene x (paths_on x one) n1 chosen e1).variables)
      over also =
          knows_over scene x find levels size in_block ways two (in_arm r id false) (before ++ te) ce (λ i. e1.variables) (λ i. (effect_of scene x (paths_on x one) n1 chosen e1).variables) y
          (arm_passed r (in_arm r id false) id (suc id) (suc id + commands_in chosen) true (count (before ++ te)) ce (absent_other id r.arms stood.below) chosen_stands) views_te
          (λ i h m low free p. sym (left one n1 chosen e1 m p (left_action program known ways m (in_arm r id true) d y n1 chosen low names_behind.1.0 free)))
          (knows_arm scene x find levels size in_block around two r id false (before ++ te) (λ i. e1.variables) (fresh_arm (begun_of x) known in_block id (before ++ te) fresh_te) (less_on around two false (test_out scene x n t e) also here) k1)

      known_last : KnowsAt around r ((before ++ te) ++ (ce ++ oe)) (λ i. W)
      known_last =
          knows_over scene x find levels size in_block ways around r (before ++ te) (ce ++ oe) (λ i. e1.variables) (λ i. W) y
          (passed_both scene x find levels size in_block r (count (before ++ te)) (count (before ++ te) + count ce) ce oe refl
          (arm_passed r r id (suc id) (suc id + commands_in chosen) true (count (before ++ te)) ce (absent id true r.arms stood.below) chosen_stands)
          (arm_passed r r id (suc id + commands_in chosen) (suc id + commands_in chosen + commands_in_other other) false (count (before ++ te) + count ce) oe (absent id false r.arms stood.below) other_stand)) views_te
          (λ i h m low free p.
          ap (λ (v : Variables). v m p) e1_is
          ∙ sym (left around n (action id (record { line = 0; column = 0 }) (decides t chosen other)) e m p
          (or_false _ false
          (or_false (any_assigns m (core_action known n1 chosen no_commands)) (any_assigns m (core_other known n2 other))
          (left_action program known ways m (in_arm r id true) d y n1 chosen low names_behind.1.0 (left_first program known ways m ce oe free))
          (left_other program known ways m (in_arm r id false) d (behind_all y (standings d chosen)) n2 other (let u = more_views in omega (arith, low, u)) names_behind.1.1 (left_then program known ways m ce oe free))) refl))) k1

  -- All forms.
  mutual
    pub walk_action : (around : Around) (arms : Arms) (Folds : ℕ → Type 0) (r : sites.Around) (m d y : ℕ) (before : List SourceEvent) (n : ℕ) (a : Action) (e : Effect) → Here around → IsNumbered m a → IsNamedAction a → FoldsInJoins a
        → ActionBehind program d y a → IsBehind program y before
        → SoundAt around.levels.now Folds a → FitArms a arms → Agrees n (accesses_of a) (λ k. makes k n a) → Stood r m before → CutAt before (events r a) n → AreFoundAt find n (found scene x around arms n a e)
        → KnowsAt around r before (λ i. e.variables) → Walked around arms r before n a e
    walk_action around arms Folds r m d y before n (action id place (lets q declared None)) e here h names simple nb at s shape agrees stood c f knows = (
      tt,
      knows_over scene x find levels size in_block ways around r before (assigned q.entity ∷ []) (λ i. e.variables) (λ i. (effect_of scene x (paths_on x around) n (action id place (lets q declared None)) e).variables) y tt at
          (λ i l k low free p. sym (left around n (action id place (lets q declared None)) e k p (left_action program known ways k r d y n (action id place (lets q declared None)) low nb free))) knows,
    )
    walk_action around arms Folds r m d y before n (action id place (lets q declared (Some t))) e here h names simple nb at s shape agrees stood c f knows =
        assigned_walk around here r id y before n q t e nb at names.1 s.1.0 c agrees f knows (effect_of scene x (paths_on x around) n (action id place (lets q declared (Some t))) e).variables
        (λ k other p. left around n (action id place (lets q declared (Some t))) e k p (or_false (k == entity_number q.entity) false other refl))
    walk_action around arms Folds r m d y before n (action id place (assigns q t)) e here h names simple nb at s shape agrees stood c f knows =
        assigned_walk around here r id y before n q t e nb at names.1 s.1.0 c agrees f knows (effect_of scene x (paths_on x around) n (action id place (assigns q t)) e).variables
        (λ k other p. left around n (action id place (assigns q t)) e k p (or_false (k == entity_number q.entity) false other refl))
    walk_action around arms Folds r m d y before n (action id place (stores target t)) e here h names simple nb at s shape agrees stood c f knows =
        let V = variables_along scene x around (store_run scene x n target t) e in
        let same : (i : ℕ) → V i ≡ e.variables = λ i. lanes_same x around (store_run scene x n target t) (store_same scene x n target t) i e in
        let w = stored_walk around here r id before n target t e names.0 names.1 c (own_inside n (term_accesses t + term_accesses target) (term_accesses t + term_accesses target + 0) agrees (zero_more (term_accesses t + term_accesses target))) f
        (knows_seen scene x find levels size in_block around r before (λ i. e.variables) V (λ i l entity d. ap (λ (v : Variables). v entity (take d (path_at levels i))) (sym (same i))) knows) in (
          w.0,
          knows_seen scene x find levels size in_block around r (before ++ (source_term_events (site_of r id) t ++ write_events (site_of r id) target)) V (λ i. (effect_of scene x (paths_on x around) n (action id place (stores target t)) e).variables)
              (λ i l entity d. ap (λ (v : Variables). v entity (take d (path_at levels i))) (same i)
              ∙ sym (left around n (action id place (stores target t)) e entity (take d (path_at levels i)) (store_assigns program known ways entity (n + term_accesses t) target (core_term known n t) no_commands))) w.1,
        )
      where
        zero_more : (n : ℕ) → n ≤ n + 0
        zero_more n = omega arith
    walk_action around arms Folds r m d y before n (action id place (reduces q o t)) e here h names simple nb at s shape agrees stood c f knows = absurd simple
    walk_action around no_arms Folds r m d y before n (action id place (decides t chosen other)) e here h names simple nb at s shape agrees stood c f knows = absurd shape
    walk_action around (arms_then one rest) Folds r m d y before n (action id place (decides t chosen other)) e here h names simple nb at s shape agrees stood c f knows = absurd shape
    walk_action around (arms_of one two inside behind) Folds r m d y before n (action id place (decides t chosen other)) e here h names simple nb at s shape agrees stood c f knows =
        let arms_found = found_then (IsFoundAt find) n (n + term_accesses t) (term_found scene around x (variables_along scene x around (test_run scene x n t) e) n t) _ (ap (λ k. n + k) (sym (term_long scene around x _ n t))) f in
        choice_walk around one two inside behind r id d y before n t chosen other e here
        (subst (λ (k : ℕ). IsNumbered (suc k) chosen × IsNumberedOther (suc k + commands_in chosen) other) (sym h.0) h.1) names agrees
        (subst (λ (k : ℕ). Stood r k before) (sym h.0) stood) nb at c (found_first (IsFoundAt find) n (term_found scene around x _ n t) _ f) knows
        (λ arm stands seen cut agree known_here.
        (walk_action one inside (λ i. ⊥) (in_arm r id true) (suc id) d y (before ++ source_term_events (site_of r id) t) (n + term_accesses t) chosen (tested scene x around n t e) (inner around one true (test_out scene x n t e) arm here)
        (subst (λ (k : ℕ). IsNumbered (suc k) chosen) (sym h.0) h.1.0) names.1.0 simple.0 nb.1.0 seen (subst (λ (ls : List Level). SoundAt ls (λ i. ⊥) chosen) (sym arm.levels) s.1.0) shape.0 agree stands cut
        (found_first (IsFoundAt find) (n + term_accesses t) (found scene x one inside (n + term_accesses t) chosen (tested scene x around n t e)) _ arms_found) known_here).0)
        (λ arm second stands seen cut agree known_here.
        (walk_other two behind (λ i. ⊥) (in_arm r id false) (suc id + commands_in chosen) d (behind_all y (standings d chosen)) ((before ++ source_term_events (site_of r id) t) ++ events (in_arm r id true) chosen) (n + term_accesses t + accesses_of chosen) other
        (effect_of scene x (paths_on x one) (n + term_accesses t) chosen (tested scene x around n t e)) (inner around two false (test_out scene x n t e) second here)
        (subst (λ (k : ℕ). IsNumberedOther (suc k + commands_in chosen) other) (sym h.0) h.1.1) names.1.1 simple.1 nb.1.1 seen
        (subst (λ (ls : List Level). SoundOther scene ls table Name (λ i. ⊥) other) (sym second.levels) s.1.1) shape.1 agree stands cut
        (found_then (IsFoundAt find) (n + term_accesses t) (n + term_accesses t + accesses_of chosen) (found scene x one inside (n + term_accesses t) chosen (tested scene x around n t e)) _
        (ap (λ k. n + term_accesses t + k) (sym (found_long scene x table Name one inside around.levels.now (λ i. ⊥) (n + term_accesses t) chosen (tested scene x around n t e) s.1.0 shape.0))) arms_found) known_here).0)
    walk_action around arms Folds r m d y before n (action id place (blocks body)) e here h names simple nb at s shape agrees stood c f knows =
        walk_groups around arms Folds r (suc m) d y before n body e here h.1 names simple nb at s shape (λ k w. agrees k (w.0, none_more k n (groups_accesses body) w.1))
        (record { below = below_up m (suc m) r.arms (low m) stood.below; fresh = all_up m (suc m) before (low m) stood.fresh }) c f knows
      where
        low : (n : ℕ) → n ≤ suc n
        low n = omega arith

        none_more : (k n g : ℕ) → k < n + g → k < n + (0 + g)
        none_more k n g l = omega (arith, l)
    walk_action around arms Folds r m d y before n (action id place (lets_memory name shape_of shape_places value)) e here h names simple nb at s shape agrees stood c f knows =
        (tt, subst (λ (l : List SourceEvent). KnowsAt around r l (λ i. e.variables)) (sym (append-nil before)) knows)
    walk_action around arms Folds r m d y before n (action id place (views name parent form)) e here h names simple nb at s shape agrees stood c f knows =
        kept_walk around here r id y before n (hidden_in (way_of known name)) (offsets_of form) e (head_here program known ways 0 d y name form nb.0) s nb.1 names at c
        (own_inside n (terms_accesses (terms (offsets_of form))) (terms_accesses (terms (offsets_of form)) + 0) agrees (zero_more (terms_accesses (terms (offsets_of form))))) f knows
      where
        zero_more : (n : ℕ) → n ≤ n + 0
        zero_more n = omega arith
    walk_action around arms Folds r m d y before n (action id place (calls function arguments)) e here h names simple nb at s shape agrees stood c f knows = absurd simple
    walk_action around arms Folds r m d y before n (action id place (repeats test body)) e here h names simple nb at s shape agrees stood c f knows =
        (tt, dead_walk around r before (command_events r (site_of r id) (repeats test body)) n (term_accesses test + accesses_of body) (λ i. e.variables) c (form_counted r (site_of r id) id (repeats test body) names refl) agrees knows)
    walk_action around arms Folds r m d y before n (action id place (counts iterator declared low high factor body combine combine_place)) e here h names simple nb at s shape agrees stood c f knows = (
      tt,
      dead_walk around r before (command_events r (site_of r id) (counts iterator declared low high factor body combine combine_place)) n (0 + (accesses_of body + other_accesses combine)) (λ i. e.variables) c
          (form_counted r (site_of r id) id (counts iterator declared low high factor body combine combine_place) names refl) agrees knows,
    )

    walk_other : (around : Around) (arms : Arms) (Folds : ℕ → Type 0) (r : sites.Around) (m d y : ℕ) (before : List SourceEvent) (n : ℕ) (a : MaybeAction) (e : Effect) → Here around → IsNumberedOther m a → IsNamedOther a → OtherFoldsInJoins a
        → OtherBehind program d y a → IsBehind program y before
        → SoundOther scene around.levels.now table Name Folds a → FitOther a arms → Agrees n (other_accesses a) (λ k. other_makes k n a) → Stood r m before → CutAt before (other_events r a) n
        → AreFoundAt find n (other_found scene x around arms n a e) → KnowsAt around r before (λ i. e.variables)
        → SharesInOther scene x find around arms n a e × KnowsAt around r (before ++ other_events r a) (λ i. (other_effect scene x (paths_on x around) n a e).variables)
    walk_other around arms Folds r m d y before n no_action e here h names simple nb at s shape agrees stood c f knows =
        (tt, subst (λ (l : List SourceEvent). KnowsAt around r l (λ i. e.variables)) (sym (append-nil before)) knows)
    walk_other around arms Folds r m d y before n (one_action a) e here h names simple nb at s shape agrees stood c f knows = walk_action around arms Folds r m d y before n a e here h names simple nb at s shape agrees stood c f knows

    walk_groups : (around : Around) (arms : Arms) (Folds : ℕ → Type 0) (r : sites.Around) (m d y : ℕ) (before : List SourceEvent) (n : ℕ) (gs : Groups) (e : Effect) → Here around → AreNumberedGroups m gs → AreNamedGroups gs → GroupsFoldInJoins gs
        → GroupsBehind program d y gs → IsBehind program y before
        → SoundGroups scene around.levels.now table Name Folds gs → FitGroups gs arms → Agrees n (groups_accesses gs) (λ k. groups_make k n gs) → Stood r m before → CutAt before (groups_events r gs) n
        → AreFoundAt find n (groups_found scene x around arms n gs e) → KnowsAt around r before (λ i. e.variables)
        → SharesInGroups scene x find around arms n gs e × KnowsAt around r (before ++ groups_events r gs) (λ i. (groups_effect scene x (paths_on x around) n gs e).variables)
    walk_groups around arms Folds r m d y before n no_groups e here h names simple nb at s shape agrees stood c f knows =
        (tt, subst (λ (l : List SourceEvent). KnowsAt around r l (λ i. e.variables)) (sym (append-nil before)) knows)
    walk_groups around no_arms Folds r m d y before n (group_then part more) e here h names simple nb at s shape agrees stood c f knows = absurd shape
    walk_groups around (arms_of one two inside behind) Folds r m d y before n (group_then part more) e here h names simple nb at s shape agrees stood c f knows = absurd shape
    walk_groups around (arms_then first behind) Folds r m d y before n (group_then part more) e here h names simple nb at s shape agrees stood c f knows =
        let e1 = part_effect scene x (paths_on x around) n part e in
        let high = m + commands_in_part part in
        let one = walk_part around first Folds r m d y before n part e here h.0 names.0 simple.0 nb.0 at s.0 shape.0
        (first_agrees n (part_accesses part) (groups_accesses more) (λ k. part_makes k n part) (λ k. groups_make k (n + part_accesses part) more) agrees (λ k g. groups_within k (n + part_accesses part) more g)) stood
        (cut_first before (part_events r part) (groups_events r more) n c) (found_first (IsFoundAt find) n (part_found scene x around first n part e) _ f) knows in
        let w = walk_groups around behind Folds r high d (behind_all y (part_standings d part)) (before ++ part_events r part) (n + part_accesses part) more e1 here h.1 names.1 simple.1 nb.1 (behind_part program d y r before part at nb.0) s.1 shape.1
        (then_agrees n (part_accesses part) (groups_accesses more) (λ k. part_makes k n part) (λ k. groups_make k (n + part_accesses part) more) agrees (λ k g. part_within k n part g))
        (record {
          below = below_up m high r.arms (more_or m (commands_in_part part)) stood.below;
          fresh = each_both (λ a. Below high a.site.arms) before (part_events r part) (all_up m high before (more_or m (commands_in_part part)) stood.fresh)
              (stands_below r m high (part_events r part) (below_up m high r.arms (more_or m (commands_in_part part)) stood.below) (part_stands r m part h.0));
        })
        (cut_then before (part_events r part) (groups_events r more) n (n + part_accesses part) c (ap (λ k. n + k) (sym (part_counted r part names.0))))
        (found_then (IsFoundAt find) n (n + part_accesses part) (part_found scene x around first n part e) _ (ap (λ k. n + k) (sym (part_long scene x table Name around first around.levels.now Folds n part e s.0 shape.0))) f) one.1 in (
          (one.0, w.0),
          subst (λ (g : Effect). KnowsAt around r (before ++ (part_events r part ++ groups_events r more)) (λ i. g.variables))
              (sym (ap (λ l. commands_run (begun_of x) (paths_on x around) l e) (part_joined known n part (core_groups known (n + part_accesses part) more no_commands))
              ∙ joined_run (begun_of x) (paths_on x around) (core_part known n part no_commands) (core_groups known (n + part_accesses part) more no_commands) e))
              (regroup around r (λ i. (groups_effect scene x (paths_on x around) (n + part_accesses part) more e1).variables) before (part_events r part) (groups_events r more) w.1),
        )
      where
        more_or : (n k : ℕ) → n ≤ n + k
        more_or n k = omega arith

    walk_part : (around : Around) (arms : Arms) (Folds : ℕ → Type 0) (r : sites.Around) (m d y : ℕ) (before : List SourceEvent) (n : ℕ) (q : Actions) (e : Effect) → Here around → AreNumbered m q → AreNamedActions q → PartFoldsInJoins q
        → PartBehind program d y q → IsBehind program y before
        → SoundPart scene around.levels.now table Name Folds q → FitPart q arms → Agrees n (part_accesses q) (λ k. part_makes k n q) → Stood r m before → CutAt before (part_events r q) n
        → AreFoundAt find n (part_found scene x around arms n q e) → KnowsAt around r before (λ i. e.variables)
        → SharesInPart scene x find around arms n q e × KnowsAt around r (before ++ part_events r q) (λ i. (part_effect scene x (paths_on x around) n q e).variables)
    walk_part around arms Folds r m d y before n no_actions e here h names simple nb at s shape agrees stood c f knows =
        (tt, subst (λ (l : List SourceEvent). KnowsAt around r l (λ i. e.variables)) (sym (append-nil before)) knows)
    walk_part around no_arms Folds r m d y before n (action_then a more) e here h names simple nb at s shape agrees stood c f knows = absurd shape
    walk_part around (arms_of one two inside behind) Folds r m d y before n (action_then a more) e here h names simple nb at s shape agrees stood c f knows = absurd shape
    walk_part around (arms_then first behind) Folds r m d y before n (action_then a more) e here h names simple nb at s shape agrees stood c f knows =
        let e1 = effect_of scene x (paths_on x around) n a e in
        let high = m + commands_in a in
        let one = walk_action around first Folds r m d y before n a e here h.0 names.0 simple.0 nb.0 at s.0 shape.0
        (first_agrees n (accesses_of a) (part_accesses more) (λ k. makes k n a) (λ k. part_makes k (n + accesses_of a) more) agrees (λ k g. part_within k (n + accesses_of a) more g)) stood
        (cut_first before (events r a) (part_events r more) n c) (found_first (IsFoundAt find) n (found scene x around first n a e) _ f) knows in
        let w = walk_part around behind Folds r high d (behind_all y (standings d a)) (before ++ events r a) (n + accesses_of a) more e1 here h.1 names.1 simple.1 nb.1 (behind_action program d y r before a at nb.0) s.1 shape.1
        (then_agrees n (accesses_of a) (part_accesses more) (λ k. makes k n a) (λ k. part_makes k (n + accesses_of a) more) agrees (λ k g. makes_within k n a g))
        (record {
          below = below_up m high r.arms (more_or m (commands_in a)) stood.below;
          fresh = each_both (λ b. Below high b.site.arms) before (events r a) (all_up m high before (more_or m (commands_in a)) stood.fresh)
              (stands_below r m high (events r a) (below_up m high r.arms (more_or m (commands_in a)) stood.below) (action_stands r m a h.0));
        })
        (cut_then before (events r a) (part_events r more) n (n + accesses_of a) c (ap (λ k. n + k) (sym (action_counted r a names.0))))
        (found_then (IsFoundAt find) n (n + accesses_of a) (found scene x around first n a e) _ (ap (λ k. n + k) (sym (found_long scene x table Name around first around.levels.now Folds n a e s.0 shape.0))) f) one.1 in (
          (one.0, w.0),
          subst (λ (g : Effect). KnowsAt around r (before ++ (events r a ++ part_events r more)) (λ i. g.variables))
              (sym (action_then_run (begun_of x) known (paths_on x around) n a (core_part known (n + accesses_of a) more no_commands) e))
              (regroup around r (λ i. (part_effect scene x (paths_on x around) (n + accesses_of a) more e1).variables) before (events r a) (part_events r more) w.1),
        )
      where
        more_or : (n k : ℕ) → n ≤ n + k
        more_or n k = omega arith
