-- The shared reads of a block mean the same: along the trace of the program, from one command to the next.
use Rattle.std.proofs.Common.{◌≡◌, ◌⊎◌, inl, inr, ℕ, ◌+◌, ◌<◌, ◌≤◌, ◌||◌, Bool, true, false, List, [], ◌∷◌, ◌++◌, length, Option, Some, refl, sym, ◌∙◌, ap, subst, arith}
use Rattle.std.specs.Prelude.{slice_get}
use Rattle.std.specs.List.{AllByRecursion}
use Rattle.std.proofs.lemmas.List.{append_assoc, append-nil}
use Rattle.dh_value.specs.declared.kinds.Kind.{Kind}
use Rattle.dh_tree.specs.declared.tables.MemEntry.{MemEntry}
use Rattle.dh_tree.specs.declared.trees.expressions.Ref.{Ref}
use Rattle.dh_tree.specs.PlainTrees as plain
use Rattle.dh_tree.specs.PlainTrees.{Program, term, Action, action, lets, lets_memory, views, assigns, stores, reduces, calls, blocks, decides, repeats, counts}
use Rattle.dh_tree.specs.Seen.{program_seen}
use Rattle.dh_meaning.specs.AccessNumbers.{accesses_of}
use Rattle.dh_meaning.specs.Effects.{Effect, Variables}
use Rattle.dh_meaning.specs.OnePhase.{any_makes, in_one_phase, makes}
use Rattle.dh_meaning.specs.Paths.{copies_in}
use Rattle.dh_meaning.specs.Phases.{Located}
use Rattle.dh_meaning.specs.Sites as sites
use Rattle.dh_meets.specs.Sharing.{shared}
use Rattle.dh_meets.specs.SourceEvents.{SourceEvent, events, trace}
use Rattle.dh_sound.specs.SimpleForms.{AreFolds, FoldsInJoins, IsFold}
use Rattle.dh_sound.specs.Trails.{Follows, count, of_located}
use Rattle.dh_sound.specs.ViewTrails.{FollowsViews}
use Rattle.dh_sound.proofs.BlockWalks.{follows_within}
use Rattle.dh_sound.proofs.KnownReads.{count_joined}
use Rattle.dh_sound.proofs.Makes.{action_counted, makes_within}
use Rattle.dh_sound.proofs.Trails.{follows_plain}
use Rattle.dh_expressions.specs.declared.scenes.Around.{Around}
use Rattle.dh_expressions.specs.declared.scenes.Scene.{Scene}
use Rattle.dh_expressions.specs.Drafted.{BlockStep}
use Rattle.dh_commands.specs.declared.buildings.Building.{Building}
use Rattle.dh_commands.specs.LanesRun.{paths_counted, paths_on}
use Rattle.dh_commands.specs.ShownVariables.{IsSeen, level_factors}
use Rattle.dh_commands.specs.Followed.{Arms, effect_of}
use Rattle.dh_blocks.specs.FoundAccesses.{Found, block_found, found, found_or_else}
use Rattle.dh_blocks.specs.BlockGround.{AreFoundAt, SharesIn}
use Rattle.dh_blocks.specs.BlockMade.{AreRising, DoEach, EachShares, arms_each}
use Rattle.dh_blocks.specs.BlockTraced.{IsTraced, TellsWays}
use Rattle.dh_blocks.specs.SoundCommands.{SoundAction}
use Rattle.dh_blocks.specs.PathsOfLevels.{AreSpread}
use Rattle.dh_blocks.proofs.CommandsDone.{own_found, past_found}
use Rattle.dh_blocks.proofs.CommandsFollow.{found_long}
use Rattle.dh_blocks.proofs.CommandsShare.{walk_action}
use Rattle.dh_blocks.proofs.ReadsKnown.{Knows, idle_passed, knows_none, knows_past}

not_true : (b : Bool) → (b ≡ true → ⊥) → b ≡ false
not_true true h = absurd (h refl)
not_true false h = refl

module _ (scene : Scene) (x : BlockStep) (find : ℕ → Option Found) (around : Around) (table : List MemEntry) (Name : Ref → Kind → Type 0)
    (spread : AreSpread around.levels.now) (sized : paths_counted around ≡ copies_in (level_factors around.levels.now)) where
  abbrev p : Program
  p = program_seen scene.program.now

  abbrev Folds : ℕ → Type 0
  Folds = IsSeen scene around.levels.now

  abbrev Sound : Located → Type 0
  Sound c = SoundAction scene around.levels.now table Name Folds c.command

  -- a reducer makes no access
  fold_shares : (arms : Arms) (n : ℕ) (a : Action) (e : Effect) → IsFold a → SharesIn scene x find around arms n a e
  fold_shares arms n (action id place (reduces q o (term at k (plain.named r)))) e h = λ i f is. absurd (cc)
  fold_shares arms n (action id place (reduces q o (term at k (plain.number negative z)))) e h = absurd h
  fold_shares arms n (action id place (reduces q o (term at k (plain.truth_value b)))) e h = absurd h
  fold_shares arms n (action id place (reduces q o (term at k (plain.accessed r ts)))) e h = absurd h
  fold_shares arms n (action id place (reduces q o (term at k (plain.in_bank r bank place_of row)))) e h = absurd h
  fold_shares arms n (action id place (reduces q o (term at k (plain.applied op l r)))) e h = absurd h
  fold_shares arms n (action id place (reduces q o (term at k (plain.converted inner to)))) e h = absurd h
  fold_shares arms n (action id place (lets r declared value)) e h = absurd h
  fold_shares arms n (action id place (assigns r t)) e h = absurd h
  fold_shares arms n (action id place (stores target t)) e h = absurd h
  fold_shares arms n (action id place (decides t chosen other)) e h = absurd h
  fold_shares arms n (action id place (blocks body)) e h = absurd h
  fold_shares arms n (action id place (lets_memory name shape shape_places value)) e h = absurd h
  fold_shares arms n (action id place (views name parent form)) e h = absurd h
  fold_shares arms n (action id place (calls function arguments)) e h = absurd h
  fold_shares arms n (action id place (repeats test body)) e h = absurd h
  fold_shares arms n (action id place (counts iterator declared low high factor body combine combine_place)) e h = absurd h

  folds_share : (cs : List Located) (old new : Building) (h : DoEach scene around cs old new) (e : Effect) → AreFolds cs → EachShares scene around x find cs old new h e
  folds_share [] old new h e quiet = tt
  folds_share (c ∷ cs) old new (mid, (next, (d, rest))) e quiet =
      (fold_shares d.arms c.first c.command e quiet.0, folds_share cs mid new rest (effect_of scene x (paths_on x around) c.first c.command e) quiet.1)

  module _ (done folds : List Located) (quiet : AreFolds folds) (round : sites.Around)
      (one_phase : (j k : ℕ) → in_one_phase (program_seen scene.program.now) j k ≡ true → any_makes k done ≡ true → any_makes j done ≡ true)
      (shares : (k j : ℕ) → slice_get scene.shares.now k ≡ Some (Some j) → shared (program_seen scene.program.now) k ≡ Some j) (ways : TellsWays scene) where
    abbrev in_block : ℕ → Bool
    in_block k = any_makes k done

    abbrev KnowsAt : (before : List SourceEvent) → Variables → Type 0
    KnowsAt before v = Knows scene x find around.levels.now (paths_counted around) in_block around round before (λ i. v)

    each_share : (cs : List Located) (before part after : List SourceEvent) (from : ℕ) (old new : Building) (h : DoEach scene around (cs ++ folds) old new) (e : Effect) → trace p ≡ before ++ (part ++ after) → FollowsViews p round before part cs
        → ((k : ℕ) → count before ≤ k → in_block k ≡ any_makes k cs) → AllByRecursion (λ (c : Located). FoldsInJoins c.command) cs → AllByRecursion Sound (cs ++ folds) → AreRising from (cs ++ folds)
        → ((number : ℕ) → from ≤ number → find number ≡ block_found scene x around (arms_each scene around (cs ++ folds) old new h) (cs ++ folds) e number)
        → KnowsAt before e.variables → EachShares scene around x find (cs ++ folds) old new h e
    each_share [] before part after from old new h e cut follows agrees simple sound rising finds knows = folds_share folds old new h e quiet
    each_share (c ∷ cs) before part after from old new (mid, (next, (d, rest))) e cut (gap, (behind, (split, (placed, follows)))) agrees simple sound rising finds knows =
        let stands = placed.stands in
        let plain = follows_plain p round ((before ++ gap) ++ of_located c) behind cs follows in
        let here_cut : trace p ≡ (before ++ gap) ++ (of_located c ++ (behind ++ after)) =
        cut ∙ (ap (λ (l : List SourceEvent). before ++ (l ++ after)) split
        ∙ (ap (λ (l : List SourceEvent). before ++ l) (append_assoc gap (of_located c ++ behind) after ∙ ap (λ (l : List SourceEvent). gap ++ l) (append_assoc (of_located c) behind after))
        ∙ sym (append_assoc before gap (of_located c ++ (behind ++ after))))) in
        let counted : count (of_located c) ≡ accesses_of c.command = action_counted c.around c.command stands.names in
        let passed = idle_passed scene x find around.levels.now (paths_counted around) in_block round (count before) gap
        (λ k low high. agrees k low ∙ not_true (any_makes k (c ∷ cs)) (λ t. never k low high stands.first counted plain t)) in
        let known_here : KnowsAt (before ++ gap) e.variables =
        knows_past scene x find around.levels.now (paths_counted around) in_block around round before gap (λ i. e.variables) passed knows in
        let own : AreFoundAt find c.first (found scene x around d.arms c.first c.command e) =
        λ i f is. finds (c.first + i) (above from c.first i rising.0)
        ∙ ap (λ o. found_or_else o (block_found scene x around (arms_each scene around (cs ++ folds) mid new rest) (cs ++ folds) (effect_of scene x (paths_on x around) c.first c.command e) (c.first + i)))
        (own_found c.first (found scene x around d.arms c.first c.command e) i f is) in
        let w = walk_action scene x find around.levels.now (paths_counted around) in_block one_phase shares spread sized table Name ways around d.arms Folds round stands.number placed.depth placed.first (before ++ gap) c.first c.command e
        (record { levels_are = refl; long = refl }) stands.numbered stands.names simple.0 placed.behind placed.seen sound.0 d.shaped
        (λ k w. agrees k (let l = w.0 in let n = stands.first in let j = count_joined before gap in omega (arith, l, n, j))
        ∙ right_false (makes k c.first c.command) (any_makes k cs) (not_true (any_makes k cs) (λ t. later k w.1 stands.first counted (follows_within round ((before ++ gap) ++ of_located c) behind cs plain k t).0)))
        (record { below = stands.arms; fresh = stands.fresh })
        (record { after = behind ++ after; cut = subst (λ (r : sites.Around). trace p ≡ (before ++ gap) ++ (events r c.command ++ (behind ++ after))) stands.around here_cut; number = stands.first }) own known_here in
        let long : length (found scene x around d.arms c.first c.command e) ≡ accesses_of c.command =
        found_long scene x table Name around d.arms around.levels.now Folds c.first c.command e sound.0 d.shaped in
        let finds_rest : (number : ℕ) → c.first + accesses_of c.command ≤ number → find number ≡ block_found scene x around (arms_each scene around (cs ++ folds) mid new rest) (cs ++ folds) (effect_of scene x (paths_on x around) c.first c.command e) number =
        λ number l. finds number (further from c.first (accesses_of c.command) number rising.0 l)
        ∙ ap (λ o. found_or_else o (block_found scene x around (arms_each scene around (cs ++ folds) mid new rest) (cs ++ folds) (effect_of scene x (paths_on x around) c.first c.command e) number))
        (past_found c.first (found scene x around d.arms c.first c.command e) number (subst (λ (n : ℕ). c.first + n ≤ number) (sym long) l)) in (
          w.0,
          each_share cs ((before ++ gap) ++ of_located c) behind after (c.first + accesses_of c.command) mid new rest (effect_of scene x (paths_on x around) c.first c.command e)
              (here_cut ∙ sym (append_assoc (before ++ gap) (of_located c) (behind ++ after))) follows
              (λ k low. agrees k (let j = count_joined (before ++ gap) (of_located c) in let i = count_joined before gap in omega (arith, low, j, i))
              ∙ left_false (makes k c.first c.command) (any_makes k cs) (not_true (makes k c.first c.command)
              (λ t. beyond k low stands.first counted (makes_within k c.first c.command t).1)))
              simple.1 sound.1 rising.1.1 finds_rest
              (subst (λ (r : sites.Around). KnowsAt ((before ++ gap) ++ events r c.command) (effect_of scene x (paths_on x around) c.first c.command e).variables) (sym stands.around) w.1),
        )
      where
        above : (a b i : ℕ) → a ≤ b → a ≤ b + i
        above a b i l = omega (arith, l)

        further : (a b k n : ℕ) → a ≤ b → b + k ≤ n → a ≤ n
        further a b k n l m = omega (arith, l, m)

        right_false : (a b : Bool) → b ≡ false → (a || b) ≡ a
        right_false true b e = refl
        right_false false b e = e

        left_false : (a b : Bool) → a ≡ false → (a || b) ≡ b
        left_false true b e = cc
        left_false false b e = refl

        either_of : (a b : Bool) → (a || b) ≡ true → (a ≡ true) ⊎ (b ≡ true)
        either_of true b g = inl refl
        either_of false b g = inr g

        -- no number of the gap is one of this command, nor of those behind it
        never : (k : ℕ) → count before ≤ k → k < count before + count gap → c.first ≡ count (before ++ gap) → count (of_located c) ≡ accesses_of c.command → Follows round ((before ++ gap) ++ of_located c) behind cs → any_makes k (c ∷ cs) ≡ true → ⊥
        never k low high first counted plain t = by (either_of (makes k c.first c.command) (any_makes k cs) t)
          where
            by : (makes k c.first c.command ≡ true) ⊎ (any_makes k cs ≡ true) → ⊥
            by (inl m) = let w = (makes_within k c.first c.command m).0 in let j = count_joined before gap in omega (arith, w, high, first, j)
            by (inr m) =
                let w = (follows_within round ((before ++ gap) ++ of_located c) behind cs plain k m).0 in
                let j = count_joined before gap in
                let i = count_joined (before ++ gap) (of_located c) in
                omega (arith, w, high, j, i)

        later : (k : ℕ) → k < c.first + accesses_of c.command → c.first ≡ count (before ++ gap) → count (of_located c) ≡ accesses_of c.command → count ((before ++ gap) ++ of_located c) ≤ k → ⊥
        later k l first counted m = let i = count_joined (before ++ gap) (of_located c) in omega (arith, l, first, counted, m, i)

        beyond : (k : ℕ) → count ((before ++ gap) ++ of_located c) ≤ k → c.first ≡ count (before ++ gap) → count (of_located c) ≡ accesses_of c.command → k < c.first + accesses_of c.command → ⊥
        beyond k low first counted l = let i = count_joined (before ++ gap) (of_located c) in omega (arith, low, first, counted, l, i)

  -- so of all commands of a block, from its begin
  pub block_shares : (done folds : List Located) (old new : Building) (h : DoEach scene around (done ++ folds) old new) (e : Effect) → IsTraced scene done folds → AllByRecursion Sound (done ++ folds) → AreRising 0 (done ++ folds)
      → ((number : ℕ) → find number ≡ block_found scene x around (arms_each scene around (done ++ folds) old new h) (done ++ folds) e number) → EachShares scene around x find (done ++ folds) old new h e
  block_shares done folds old new h e t sound rising finds =
      each_share done folds t.quiet t.round t.one_phase t.shares t.ways done [] (trace p) [] 0 old new h e (sym (append-nil (trace p))) t.follows (λ k low. refl) t.joins sound rising
      (λ number low. finds number)
      (knows_none scene x find around.levels.now (paths_counted around) (λ k. any_makes k done) around t.round [] (λ i. e.variables) (λ k l i. none k l))
    where
      none : (k : ℕ) → k < 0 → ⊥
      none k l = omega (arith, l)
