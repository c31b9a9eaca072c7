-- Blocks of straight commands that were made of a ready program stand as what is told of their banks asks: which of their
-- accesses are reads, that a read shares an earlier one of the block, and that they follow the trace.
use Rattle.std.proofs.Common.{◌≡◌, ◌⊎◌, inl, inr, ◌<◌, ◌≤◌, ◌+◌, ◌&&◌, ◌||◌, not, ℕ, Bool, true, false, List, [], ◌∷◌, Some, refl, ap, sym, ◌∙◌, subst, arith}
use Rattle.std.specs.List.{AllByRecursion}
use Rattle.std.specs.Option.{is_some}
use Rattle.dh_tree.specs.Indices.{form_of}
use Rattle.dh_tree.specs.PlainTrees.{Action, action, lets, lets_memory, views, assigns, stores, reduces, calls, blocks, decides, repeats, counts, MaybeAction, no_action, one_action, Actions, no_actions, action_then, Groups, no_groups, group_then}
use Rattle.dh_tree.specs.Seen.{program_seen}
use Rattle.dh_meaning.specs.AccessNumbers.{accesses_of, groups_accesses, other_accesses, part_accesses, term_accesses}
use Rattle.dh_meaning.specs.Core.{CoreCommands}
use Rattle.dh_meaning.specs.OnePhase.{any_makes, groups_make, is_between, makes, other_makes, part_makes}
use Rattle.dh_meaning.specs.Phases.{Located}
use Rattle.dh_meets.specs.Sharing.{shared}
use Rattle.dh_meets.specs.SourceEvents.{SourceAccess, trace}
use Rattle.dh_lengths.specs.SharedReads.{share_told}
use Rattle.dh_sound.specs.ToldEvents.{access_at}
use Rattle.dh_sound.proofs.Makes.{groups_within, makes_within, other_within, part_within, within_is}
use Rattle.dh_sound.proofs.SamePhase.{straight_has_both}
use Rattle.dh_plan.specs.Correspondence.{Round}
use Rattle.dh_plan.specs.PlainPlans.{PlainPlan}
use Rattle.dh_expressions.specs.declared.scenes.Scene.{Scene}
use Rattle.dh_blocks.specs.BlockMade.{sets_made}
use Rattle.dh_blocks.specs.SlotsOfScene.{placing_in}
use Rattle.dh_laid.specs.BareCommands.{AreRising}
use Rattle.dh_laid.specs.BlockSites.{block_sites}
use Rattle.dh_laid.specs.Laid.{aim_accesses}
use Rattle.dh_laid.specs.LaidNumbers.{StoresReach}
use Rattle.dh_laid.specs.LaidUses.{EachWrite, EachWriteActions, EachWriteGroups, EachWriteOther}
use Rattle.dh_gathering.specs.declared.blocks.Made.{Made}
use Rattle.dh_gathering.specs.LoopCounters.{AreCounting}
use Rattle.dh_gathering.specs.MadeBlocks.{IsStraightBlock}
use Rattle.dh_phased.proofs.BlocksMade.{straight_is_made}
use Rattle.dh_used.specs.SourceSites.{AllStand, AreSited}
use Rattle.dh_used.proofs.SharedReads.{shared_before, shared_there}
use Rattle.dh_used.proofs.SharesOfProgram.{access_among, any_below, as_many, writes_told}
use Rattle.dh_used.proofs.SitesOfSource.{blocks_are_sited}
use Rattle.dh_phased.proofs.RoundsTop.{rounds_are_top}
use Rattle.dh_reached.specs.NeverMeet.{StandsAlong}
use Rattle.dh_reached.specs.ReachedBlocks.{AreUnused, ReadBy, StandsSpread, StraightStands}
use Rattle.dh_reached.specs.ReadsTold.{ActionsRead, BlockReads, CommandReads, GroupsRead, OtherReads}
use Rattle.dh_told.specs.PlansTold.{IsOfReady}
use Rattle.dh_told.specs.ReadsOfBlocks.{is_read_of, reads_in}
use Rattle.dh_told.proofs.BlocksTold.{straight_all, straight_found, straight_names, straight_reach, straight_sound, straight_told}

never : false ≡ true → ⊥
never e = cc

and_split : (a b : Bool) → (a && b) ≡ true → (a ≡ true) × (b ≡ true)
and_split true b h = (refl, h)
and_split false b h = absurd (never h)

and_both : (a b : Bool) → a ≡ true → b ≡ true → (a && b) ≡ true
and_both a b h k = ap (λ (t : Bool). t && b) h ∙ k

or_split : (a b : Bool) → (a || b) ≡ true → (a ≡ true) ⊎ (b ≡ true)
or_split true b h = inl refl
or_split false b h = inr h

either : {X Y Z : Type 0} → X ⊎ Y → (X → Z) → (Y → Z) → Z
either (inl x) f g = f x
either (inr y) f g = g y

past : (a b : ℕ) → a ≤ b → b < a → ⊥
past a b l m = omega (arith, l, m)

-- Reads.

-- Where each read is made, and no write is a read, only what is made of a command is a read.
module _ (IsRead : ℕ → Type 0) where
  abbrev WritesNone : ℕ → Type 0
  WritesNone number = IsRead number → ⊥

  -- of parts one behind the other
  front_of : (a b : Bool) (e first count : ℕ) → (b ≡ true → first + count ≤ e) → e < first + count → (a || b) ≡ true → a ≡ true
  front_of a b e first count low high m = either (or_split a b m) (λ i. i) (λ i. absurd (past (first + count) e (low i) high))

  rest_of : (a b : Bool) (e middle : ℕ) → (a ≡ true → e < middle) → middle ≤ e → (a || b) ≡ true → b ≡ true
  rest_of a b e middle high low m = either (or_split a b m) (λ i. absurd (past middle e low (high i))) (λ i. i)

  mutual
    command_reads : (a : Action) (first : ℕ) → ((e : ℕ) → first ≤ e → e < first + accesses_of a → IsRead e → makes e first a ≡ true) → EachWrite WritesNone first a → CommandReads IsRead a first
    command_reads (action id place (lets name declared value)) first h w = tt
    command_reads (action id place (assigns target value)) first h w = tt
    command_reads (action id place (stores target value)) first h w = subst WritesNone (sum first (term_accesses value) (aim_accesses (form_of target))) w
      where
        sum : (a b c : ℕ) → a + b + c ≡ a + (b + c)
        sum a b c = omega arith
    command_reads (action id place (reduces target op value)) first h w = tt
    command_reads (action id place (decides test chosen other)) first h w = (
      command_reads chosen (first + term_accesses test)
          (λ e low high r. front_of (makes e (first + term_accesses test) chosen) (other_makes e (first + term_accesses test + accesses_of chosen) other) e (first + term_accesses test) (accesses_of chosen)
          (λ i. (other_within e (first + term_accesses test + accesses_of chosen) other i).0) high
          (rest_of (is_between e first (term_accesses test)) (makes e (first + term_accesses test) chosen || other_makes e (first + term_accesses test + accesses_of chosen) other) e (first + term_accesses test) (λ i. (within_is e first (term_accesses test) i).1) low
          (h e (omega (arith, low)) (omega (arith, high)) r))) w.0,
      other_reads other (first + term_accesses test + accesses_of chosen)
          (λ e low high r. rest_of (makes e (first + term_accesses test) chosen) (other_makes e (first + term_accesses test + accesses_of chosen) other) e (first + term_accesses test + accesses_of chosen)
          (λ i. (makes_within e (first + term_accesses test) chosen i).1) low
          (rest_of (is_between e first (term_accesses test)) (makes e (first + term_accesses test) chosen || other_makes e (first + term_accesses test + accesses_of chosen) other) e (first + term_accesses test) (λ i. (within_is e first (term_accesses test) i).1)
          (omega (arith, low)) (h e (omega (arith, low)) (omega (arith, high)) r))) w.1,
    )
    command_reads (action id place (blocks body)) first h w = groups_read body first (λ e low high r. h e low (omega (arith, high)) r) w
    command_reads (action id place (lets_memory name shape shape_places value)) first h w = tt
    command_reads (action id place (views name parent form)) first h w = tt
    command_reads (action id place (calls function arguments)) first h w = tt
    command_reads (action id place (repeats test body)) first h w = λ e low high r. never (h e low high r)
    command_reads (action id place (counts iterator declared low high factor body combine combine_place)) first h w = λ e above below r. never (h e above below r)

    other_reads : (other : MaybeAction) (first : ℕ) → ((e : ℕ) → first ≤ e → e < first + other_accesses other → IsRead e → other_makes e first other ≡ true) → EachWriteOther WritesNone first other → OtherReads IsRead other first
    other_reads no_action first h w = tt
    other_reads (one_action a) first h w = command_reads a first h w

    actions_read : (part : Actions) (first : ℕ) → ((e : ℕ) → first ≤ e → e < first + part_accesses part → IsRead e → part_makes e first part ≡ true) → EachWriteActions WritesNone first part → ActionsRead IsRead part first
    actions_read no_actions first h w = tt
    actions_read (action_then a rest) first h w = (
      command_reads a first
          (λ e low high r. front_of (makes e first a) (part_makes e (first + accesses_of a) rest) e first (accesses_of a) (λ i. (part_within e (first + accesses_of a) rest i).0) high (h e low (omega (arith, high)) r)) w.0,
      actions_read rest (first + accesses_of a)
          (λ e low high r. rest_of (makes e first a) (part_makes e (first + accesses_of a) rest) e (first + accesses_of a) (λ i. (makes_within e first a i).1) low (h e (omega (arith, low)) (omega (arith, high)) r)) w.1,
    )

    groups_read : (body : Groups) (first : ℕ) → ((e : ℕ) → first ≤ e → e < first + groups_accesses body → IsRead e → groups_make e first body ≡ true) → EachWriteGroups WritesNone first body → GroupsRead IsRead body first
    groups_read no_groups first h w = tt
    groups_read (group_then part rest) first h w = (
      actions_read part first
          (λ e low high r. front_of (part_makes e first part) (groups_make e (first + part_accesses part) rest) e first (part_accesses part) (λ i. (groups_within e (first + part_accesses part) rest i).0) high (h e low (omega (arith, high)) r)) w.0,
      groups_read rest (first + part_accesses part)
          (λ e low high r. rest_of (part_makes e first part) (groups_make e (first + part_accesses part) rest) e (first + part_accesses part) (λ i. (part_within e first part i).1) low (h e (omega (arith, low)) (omega (arith, high)) r)) w.1,
    )

  -- Commands of a block, whose numbers rise.

  any_from : (from : ℕ) (cs : List Located) (e : ℕ) → AreRising from cs → any_makes e cs ≡ true → from ≤ e
  any_from from [] e rising m = absurd (never m)
  any_from from (c ∷ cs) e rising m =
      either (or_split (makes e c.first c.command) (any_makes e cs) m) (λ i. low from c.first e rising.0 (makes_within e c.first c.command i).0)
      (λ i. far from c.first (accesses_of c.command) e rising.0 (any_from (c.first + accesses_of c.command) cs e rising.1.1 i))
    where
      low : (a b e : ℕ) → a ≤ b → b ≤ e → a ≤ e
      low a b e l m = omega (arith, l, m)

      far : (a b n e : ℕ) → a ≤ b → b + n ≤ e → a ≤ e
      far a b n e l m = omega (arith, l, m)

  abbrev NoWrites : List Located → Type 0
  NoWrites cs = AllByRecursion (λ (c : Located). EachWrite WritesNone c.first c.command) cs

  block_reads : (from : ℕ) (cs : List Located) → AreRising from cs → ((e : ℕ) → from ≤ e → IsRead e → any_makes e cs ≡ true) → NoWrites cs → BlockReads IsRead from cs
  block_reads from [] rising made w = tt
  block_reads from (c ∷ cs) rising made w = (
    (
      rising.0,
      λ e low high r. either (or_split (makes e c.first c.command) (any_makes e cs) (made e low r)) (λ i. past c.first e (makes_within e c.first c.command i).0 high) (λ i. gap c.first (accesses_of c.command) e (behind e i) high),
    ),
    (
      command_reads c.command c.first (λ e low high r. front_of (makes e c.first c.command) (any_makes e cs) e c.first (accesses_of c.command) (behind e) high (made e (far from c.first e rising.0 low) r)) w.0,
      block_reads (c.first + accesses_of c.command) cs rising.1.1
          (λ e low r. rest_of (makes e c.first c.command) (any_makes e cs) e (c.first + accesses_of c.command) (λ i. (makes_within e c.first c.command i).1) low (made e (beyond from c.first (accesses_of c.command) e rising.0 low) r)) w.1,
    ),
  )
    where
      behind : (e : ℕ) → any_makes e cs ≡ true → c.first + accesses_of c.command ≤ e
      behind e i = any_from (c.first + accesses_of c.command) cs e rising.1.1 i

      gap : (a n e : ℕ) → a + n ≤ e → e < a → ⊥
      gap a n e l m = omega (arith, l, m)

      far : (a b e : ℕ) → a ≤ b → b ≤ e → a ≤ e
      far a b e l m = omega (arith, l, m)

      beyond : (a b n e : ℕ) → a ≤ b → b + n ≤ e → a ≤ e
      beyond a b n e l m = omega (arith, l, m)

-- Blocks.

module _ (scene : Scene) (made : ℕ → Bool) where
  -- a write is no read
  not_read : (number : ℕ) (a : SourceAccess) → access_at (program_seen scene.program.now) number ≡ Some a → a.writes ≡ true → ReadBy (reads_in scene made) number → ⊥
  not_read number a at writes r =
      let own : is_read_of (access_at (program_seen scene.program.now) number) ≡ true = (and_split _ _ r).1 in
      differ a.writes writes (sym (ap is_read_of at) ∙ own)
    where
      differ : (w : Bool) → w ≡ true → not w ≡ true → ⊥
      differ true e h = never h
      differ false e h = never e

  pub no_writes : (cs : List Located) → AllByRecursion (λ (c : Located). StoresReach c.command) cs → AllStand scene cs → NoWrites (ReadBy (reads_in scene made)) cs
  no_writes [] reach stand = tt
  no_writes (c ∷ cs) reach stand = (
    writes_told (λ number. ReadBy (reads_in scene made) number → ⊥) c.command c.around c.first reach.0 (λ i a e w. not_read (c.first + i) a (access_among (trace (program_seen scene.program.now)) c stand.0 i a e) w),
    no_writes cs reach.1 stand.1,
  )

module _ (scene : Scene) (count : ℕ) (plan : PlainPlan) (final : Made) (h : IsOfReady scene count plan final) (rounds : List Round) (cs : CoreCommands) (block : ℕ) (s : IsStraightBlock scene final rounds cs block) (counting : AreCounting scene (placing_in scene) rounds) where
  abbrev made_here : ℕ → Bool
  made_here number = any_makes number s.located

  all : AllStand scene s.located
  all = straight_all scene count plan final h rounds cs block s counting

  reach : AllByRecursion (λ (c : Located). StoresReach c.command) s.located
  reach = straight_reach scene count plan final h rounds cs block s counting

  sited : AreSited scene s.made.around (λ number. any_makes number s.located) (block_sites scene s.made.around s.located s.made.before s.made.between s.made.made)
  sited = blocks_are_sited scene s.made.around s.located s.made.before s.made.between s.made.made (straight_names scene count plan final h rounds cs block s counting) all

  -- a read that is shared is one of the block
  shared_read : (number e : ℕ) → any_makes number s.located ≡ true → shared (program_seen scene.program.now) number ≡ Some e → (e < number) × ReadBy (reads_in scene (λ k. any_makes k s.located)) e
  shared_read number e m is =
      let there = shared_there (program_seen scene.program.now) e number is in (
        shared_before (program_seen scene.program.now) e number is,
        and_both _ _ (straight_has_both (program_seen scene.program.now) s.located e number (straight_found scene count plan final h rounds cs block s counting) m there.phase)
            (ap is_read_of there.there ∙ ap not there.reads),
      )

  pub straight_stands : StandsSpread scene s.made.around → AreUnused (sets_made s.made.between.values.log.items s.made.between.values.current.items)
      → StraightStands scene s.made.around plan count block s.located s.made.before s.made.between s.made.made (sets_made s.made.between.values.log.items s.made.between.values.current.items) (reads_in scene (λ number. any_makes number s.located))
  straight_stands spread unused = record {
    put = (straight_is_made scene plan count final h.made rounds s.located block s.made (straight_told scene count plan final h rounds cs block s counting).ordered).put;
    unused = unused;
    stands = spread;
    rising = s.made.rising;
    bare = s.made.bare;
    stores = reach;
    reads_told = block_reads (ReadBy (reads_in scene (λ number. any_makes number s.located))) 0 s.located s.made.rising (λ e low r. (and_split _ _ r).0) (no_writes scene (λ number. any_makes number s.located) s.located reach all);
    shares = λ number site at. record {
      known = subst (λ (n : ℕ). number < n) (sym (as_many scene h.shares)) (any_below (trace (program_seen scene.program.now)) s.located number all (sym (sited.made number) ∙ ap is_some at));
      earlier = λ e share. shared_read number e (sym (sited.made number) ∙ ap is_some at) (sym (h.shares.all number) ∙ ap share_told share);
    };
  }

  pub straight_along : StandsAlong scene s.made.around (straight_sound scene count plan final h rounds cs block s counting).of.done (straight_sound scene count plan final h rounds cs block s counting).of.folds
  straight_along =
      let k = (straight_sound scene count plan final h rounds cs block s counting).of in
      record {
        quiet = k.quiet;
        round = k.round;
        follows = k.follows;
        has = k.has;
        lowest = h.ready.of_text.first;
        numbered = h.ready.of_text.numbered;
        loops_are = (rounds_are_top scene rounds s.made.around s.made.round s.made.stands_in).factors_are ∙ k.inside;
      }
