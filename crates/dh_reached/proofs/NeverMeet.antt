-- Of two accesses of a block that never meet one at most is done: they stand in opposite arms of one `if`, which stands in
-- no unrolled loop; so there is one path, and of the guards of the two one holds there.
use Rattle.std.proofs.Common.{◌≡◌, ◌⊎◌, inl, inr, ℕ, ◌+◌, ◌<◌, ◌≤◌, List, Some, refl, sym, ap, ◌∙◌, subst, arith, append_assoc}
use Rattle.std.specs.Prelude.{Bool as Truth, true, false, not, [], ◌∷◌, ◌++◌, slice_get}
use Rattle.std.specs.List.{AllByRecursion}
use Rattle.dh_tree.specs.declared.trees.counters.Counter.{Counter}
use Rattle.dh_tree.specs.Numbers.{commands_in}
use Rattle.dh_tree.specs.PlainTrees as plain
use Rattle.dh_tree.specs.PlainTrees.{Term, Action, action, ActionForm, lets, lets_memory, views, assigns, stores, reduces, calls, blocks, decides, repeats, counts}
use Rattle.dh_tree.specs.Seen.{program_seen}
use Rattle.dh_meaning.specs.AccessNumbers.{accesses_of, term_accesses}
use Rattle.dh_meaning.specs.CoreOf.{action_form_of, test_of}
use Rattle.dh_meaning.specs.OnePhase.{test_makes, tests_make}
use Rattle.dh_meaning.specs.Paths.{copies_in}
use Rattle.dh_meaning.specs.Phases.{Located}
use Rattle.dh_meaning.specs.Sites as stood
use Rattle.dh_meaning.specs.Sites.{Arm}
use Rattle.dh_meets.specs.Charges as charged
use Rattle.dh_meets.specs.SourceEvents.{SourceAccess, SourceEvent, accesses_in, trace}
use Rattle.dh_expressions.specs.declared.scenes.Around.{Around}
use Rattle.dh_expressions.specs.declared.scenes.Scene.{Scene}
use Rattle.dh_expressions.specs.Drafted.{BlockBegun, FitsStep, BlockStep, holds}
use Rattle.dh_expressions.specs.Shown.{guard_of}
use Rattle.dh_expressions.proofs.ListPlaces.{some_same, there}
use Rattle.dh_expressions.proofs.Pushing.{begun_later, fits_before}
use Rattle.dh_formed.specs.Formed.{BlockSite}
use Rattle.dh_commands.specs.declared.buildings.Building.{Building}
use Rattle.dh_commands.specs.LanesRun.{paths_counted}
use Rattle.dh_blocks.specs.BlockMade.{step_of_block}
use Rattle.dh_blocks.proofs.BlockBegins.{begun_here, fits_here}
use Rattle.dh_laid.specs.BlockSites.{MadeEach, block_sites, command_sites, places_from, term_sites, test_sites}
use Rattle.dh_laid.specs.LaidNumbers.{StoresReach}
use Rattle.dh_laid.proofs.AccessesLaid.{command_lays, each_lays}
use Rattle.dh_sound.specs.OneArm.{HasOneOfEach}
use Rattle.dh_sound.specs.PhaseFacts.{AreOpposite, HasArm, InOppositeArms, StandsAmong, arm_of}
use Rattle.dh_sound.specs.SimpleForms.{AreFolds, IsFold, IsVariable}
use Rattle.dh_sound.specs.Trails.{AllBelow, ArmsWithin, Below, Follows, StandsBehind, of_located}
use Rattle.dh_sound.proofs.ArmsOnce.{arms_once}
use Rattle.dh_sound.proofs.EventCounts.{count_in, count_joined, events_counted}
use Rattle.dh_sound.proofs.LocatedSites.{located_at}
use Rattle.dh_sound.proofs.Opposite.{apart_first, apart_opposite, apart_second}
use Rattle.dh_sound.proofs.Sited.{At}
use Rattle.dh_sound.proofs.Sites.{StandsWithin, action_stands}
use Rattle.dh_sound.proofs.TestsMeet.{test_together}
use Rattle.dh_reached.specs.NeverMeet.{StraightNever, TestNever}
use Rattle.dh_reached.specs.ReachedBlocks.{StandsSpread}
use Rattle.dh_reached.proofs.BlocksPut.{place_told, site_cases}
use Rattle.dh_reached.proofs.GuardsIn.{IsGuardedIn, command_guarded}
use Rattle.dh_reached.proofs.OppositeArms.{arms_apart, at_each, command_excludes, each_back, each_front, place_each}
use Rattle.dh_reached.proofs.PlacesOf.{places_long, site_told}
use Rattle.dh_reached.proofs.SitesMade.{block_makes, within_is}
use Rattle.dh_reached.proofs.TermsPut.{sites_long}

-- Arms.

has_front : (arm : Arm) (xs ys : List Arm) → HasArm arm xs → HasArm arm (xs ++ ys)
has_front arm [] ys h = absurd h
has_front arm (x ∷ xs) ys (inl e) = inl e
has_front arm (x ∷ xs) ys (inr h) = inr (has_front arm xs ys h)

front_once : (xs ys : List Arm) → HasOneOfEach (xs ++ ys) → HasOneOfEach xs
front_once xs ys o = record { single = λ id h k. o.single id (has_front (arm_of id true) xs ys h) (has_front (arm_of id false) xs ys k) }

within_less : (lo hi q : ℕ) (xs : List Arm) → ArmsWithin lo hi xs → Below q xs → ArmsWithin lo q xs
within_less lo hi q [] h b = tt
within_less lo hi q (x ∷ xs) h b = ((h.0.0, b.0.1), within_less lo hi q xs h.1 b.1)

below_back : (q : ℕ) (xs ys : List Arm) → Below q (xs ++ ys) → Below q ys
below_back q [] ys h = h
below_back q (x ∷ xs) ys h = below_back q xs ys h.1

-- Reducers have no site.

fold_none : (scene : Scene) (around : Around) (t : Term) → IsVariable t → term_sites scene around t ≡ []
fold_none scene around (plain.term place k (plain.named r)) is = refl
fold_none scene around (plain.term place k (plain.number negative z)) is = absurd is
fold_none scene around (plain.term place k (plain.truth_value v)) is = absurd is
fold_none scene around (plain.term place k (plain.accessed r ts)) is = absurd is
fold_none scene around (plain.term place k (plain.in_bank r bank to row)) is = absurd is
fold_none scene around (plain.term place k (plain.applied op left right)) is = absurd is
fold_none scene around (plain.term place k (plain.converted inner to)) is = absurd is

variable_none : (t : Term) → IsVariable t → term_accesses t ≡ 0
variable_none (plain.term place k (plain.named r)) is = refl
variable_none (plain.term place k (plain.number negative z)) is = absurd is
variable_none (plain.term place k (plain.truth_value v)) is = absurd is
variable_none (plain.term place k (plain.accessed r ts)) is = absurd is
variable_none (plain.term place k (plain.in_bank r bank to row)) is = absurd is
variable_none (plain.term place k (plain.applied op left right)) is = absurd is
variable_none (plain.term place k (plain.converted inner to)) is = absurd is

fold_accesses : (a : Action) → IsFold a → accesses_of a ≡ 0
fold_accesses (action id place (reduces target o value)) is = let e = variable_none value is in omega (arith, e)
fold_accesses (action id place (lets name declared value)) is = absurd is
fold_accesses (action id place (lets_memory name shape shape_places value)) is = absurd is
fold_accesses (action id place (views name parent form)) is = absurd is
fold_accesses (action id place (assigns target value)) is = absurd is
fold_accesses (action id place (stores target value)) is = absurd is
fold_accesses (action id place (calls function arguments)) is = absurd is
fold_accesses (action id place (blocks body)) is = absurd is
fold_accesses (action id place (decides test chosen other)) is = absurd is
fold_accesses (action id place (repeats test body)) is = absurd is
fold_accesses (action id place (counts iterator declared low high factor body combine combine_place)) is = absurd is

module _ (scene : Scene) (around : Around) (j : ℕ) (s : BlockSite) where
  folds_none : (folds : List Located) (old new : Building) (m : MadeEach scene around folds old new) → AreFolds folds → AllByRecursion (λ (c : Located). StoresReach c.command) folds → block_sites scene around folds old new m j ≡ Some s → ⊥
  folds_none [] old new m quiet is e = absurd (cc)
  folds_none (c ∷ cs) old new (mid, (next, (one, rest))) quiet is e =
      by (site_cases scene around (places_from c.first (command_sites scene c.command around old mid c.first next one) j) (block_sites scene around cs mid new rest j) s e) (folds_none cs mid new rest quiet.1 is.1)
    where
      by : (places_from c.first (command_sites scene c.command around old mid c.first next one) j ≡ Some s) ⊎ (block_sites scene around cs mid new rest j ≡ Some s) → (block_sites scene around cs mid new rest j ≡ Some s → ⊥) → ⊥
      by (inl own) more =
          let t = place_told c.first j (command_sites scene c.command around old mid c.first next one) s own in
          let l = t.0 in let u = t.1 in
          let long = places_long scene c.command around old mid c.first next one is.0 in
          let none = fold_accesses c.command quiet.0 in
          omega (arith, l, u, long, none)
      by (inr later) more = more later

  -- a site of a block, with the access that stands there along the trace
  abbrev pub Pair : SourceAccess → (done folds : List Located) → (old new : Building) → MadeEach scene around (done ++ folds) old new → Type 0
  Pair a [] folds old new m = ⊥
  Pair a (c ∷ cs) folds old new (mid, (next, (one, rest))) =
      ((places_from c.first (command_sites scene c.command around old mid c.first next one) j ≡ Some s) × At c.first j (of_located c) a) ⊎ Pair a cs folds mid new rest

  -- where its command stands among the events
  among : (r : stood.Around) (before gap rest part : List SourceEvent) (c : Located) → part ≡ gap ++ (of_located c ++ rest) → StandsBehind r (before ++ gap) c → StandsAmong 0 (before ++ part) c
  among r before gap rest part c all s = record {
    before = before ++ gap;
    after = rest;
    all = ap (λ (es : List SourceEvent). before ++ es) all ∙ sym (append_assoc before gap (of_located c ++ rest));
    counted = let f = s.first in omega (arith, f);
  }

  pub pair_of : (r : stood.Around) (before part : List SourceEvent) (done folds : List Located) (old new : Building) (m : MadeEach scene around (done ++ folds) old new) → Follows r before part done → AreFolds folds
      → AllByRecursion (λ (c : Located). StoresReach c.command) (done ++ folds) → block_sites scene around (done ++ folds) old new m j ≡ Some s → (a : SourceAccess) × ((slice_get (accesses_in (before ++ part)) j ≡ Some a) × Pair a done folds old new m)
  pair_of r before part [] folds old new m follows quiet is e = absurd (folds_none folds old new m quiet is e)
  pair_of r before part (c ∷ cs) folds old new (mid, (next, (one, rest_made))) (gap, (rest, (all, (s_behind, follows)))) quiet is e =
      by (site_cases scene around (places_from c.first (command_sites scene c.command around old mid c.first next one) j) (block_sites scene around (cs ++ folds) mid new rest_made j) s e)
      (pair_of r ((before ++ gap) ++ of_located c) rest cs folds mid new rest_made follows quiet is.1)
    where
      same : ((before ++ gap) ++ of_located c) ++ rest ≡ before ++ part
      same = append_assoc (before ++ gap) (of_located c) rest ∙ (append_assoc before gap (of_located c ++ rest) ∙ ap (λ (es : List SourceEvent). before ++ es) (sym all))

      stands : StandsAmong 0 (before ++ part) c
      stands = among r before gap rest part c all s_behind

      by : (places_from c.first (command_sites scene c.command around old mid c.first next one) j ≡ Some s) ⊎ (block_sites scene around (cs ++ folds) mid new rest_made j ≡ Some s)
          → (block_sites scene around (cs ++ folds) mid new rest_made j ≡ Some s → (a : SourceAccess) × ((slice_get (accesses_in (((before ++ gap) ++ of_located c) ++ rest)) j ≡ Some a) × Pair a cs folds mid new rest_made))
          → (a : SourceAccess) × ((slice_get (accesses_in (before ++ part)) j ≡ Some a) × Pair a (c ∷ cs) folds old new (mid, (next, (one, rest_made))))
      by (inl own) more =
          let t = place_told c.first j (command_sites scene c.command around old mid c.first next one) s own in
          let l = t.0 in let u = t.1 in
          let long = places_long scene c.command around old mid c.first next one is.0 in
          let high : j < c.first + accesses_of c.command = omega (arith, u, long) in
          let counts : count_in (before ++ part) ≡ count_in (before ++ gap) + (count_in (of_located c) + count_in rest) =
          ap count_in (sym same) ∙ (ap count_in (append_assoc (before ++ gap) (of_located c) rest) ∙ (count_joined (before ++ gap) (of_located c ++ rest) ∙ ap (λ n. count_in (before ++ gap) + n) (count_joined (of_located c) rest))) in
          let own_count = events_counted c.around c.command in
          let first = s_behind.first in
          let found = there (accesses_in (before ++ part)) j (omega (arith, high, counts, own_count, first)) in
          (found.0, (found.1, inl (own, located_at j found.0 (before ++ part) c stands (l, high) found.1)))
      by (inr later) more =
          let found = more later in
          (found.0, (ap (λ (es : List SourceEvent). slice_get (accesses_in es) j) (sym same) ∙ found.1.0, inr found.1.1))

-- Two of a block.

-- an access of a later command: its arms are round it, or of commands with numbers from one on that none of those before reaches
record IsLater (r : stood.Around) (before : List SourceEvent) (a : SourceAccess) : Type 0 where
  number : ℕ
  high : ℕ
  further : List Arm
  arms_are : a.site.arms ≡ r.arms ++ further
  within : ArmsWithin number high further
  inner : List Counter
  loops_are : a.site.loops ≡ r.loops ++ inner
  below : Below number r.arms
  fresh : AllBelow number before

module _ (x : BlockStep) (scene : Scene) (around : Around) (stands : StandsSpread scene around) where
  -- what is told of a command's accesses
  arms_told : (r : stood.Around) (before : List SourceEvent) (c : Located) (j : ℕ) (a : SourceAccess) (h : StandsBehind r before c) → At c.first j (of_located c) a → StandsWithin r h.number (h.number + commands_in c.command) a
  arms_told r before c j a h at =
      subst (λ (q : stood.Around). StandsWithin q h.number (h.number + commands_in c.command) a) h.around
      (at_each (StandsWithin c.around h.number (h.number + commands_in c.command)) c.first j (of_located c) a (action_stands c.around h.number c.command h.numbered) at)

  later : (j : ℕ) (s : BlockSite) (a : SourceAccess) (r : stood.Around) (before part : List SourceEvent) (done folds : List Located) (old new : Building) (m : MadeEach scene around (done ++ folds) old new) → Follows r before part done
      → Pair scene around j s a done folds old new m → IsLater r before a
  later j s a r before part [] folds old new m follows pair = absurd pair
  later j s a r before part (c ∷ cs) folds old new (mid, (next, (one, rest_made))) (gap, (rest, (all, (h, follows)))) (inl own) =
      let t = arms_told r (before ++ gap) c j a h own.1 in
      record { number = h.number; high = h.number + commands_in c.command; further = t.arms; arms_are = t.arms_are; within = t.within; inner = t.loops; loops_are = t.loops_are; below = h.arms; fresh = each_front (λ b. Below h.number b.site.arms) before gap h.fresh }
  later j s a r before part (c ∷ cs) folds old new (mid, (next, (one, rest_made))) (gap, (rest, (all, (h, follows)))) (inr more) =
      let t = later j s a r ((before ++ gap) ++ of_located c) rest cs folds mid new rest_made follows more in
      record {
        number = t.number;
        high = t.high;
        further = t.further;
        arms_are = t.arms_are;
        within = t.within;
        inner = t.inner;
        loops_are = t.loops_are;
        below = t.below;
        fresh = each_front (λ b. Below t.number b.site.arms) before gap (each_front (λ b. Below t.number b.site.arms) (before ++ gap) (of_located c) t.fresh);
      }

  -- accesses of two commands have no opposite arms
  not_opposite : (j : ℕ) (a b : SourceAccess) (r : stood.Around) (before : List SourceEvent) (c : Located) (h : StandsBehind r before c) → HasOneOfEach r.arms → At c.first j (of_located c) a → IsLater r (before ++ of_located c) b
      → (id : ℕ) (side : Truth) → HasArm (arm_of id side) a.site.arms → HasArm (arm_of id (not side)) b.site.arms → ⊥
  not_opposite j a b r before c h once at t id side ha hb =
      let p = arms_told r before c j a h at in
      let low : Below t.number a.site.arms = at_each (λ q. Below t.number q.site.arms) c.first j (of_located c) a (each_back (λ q. Below t.number q.site.arms) before (of_located c) t.fresh) at in
      arms_apart r.arms p.arms t.further h.number t.number t.number t.high h.arms t.below once (inl (omega arith))
      (within_less h.number (h.number + commands_in c.command) t.number p.arms p.within (below_back t.number r.arms p.arms (subst (λ (l : List Arm). Below t.number l) p.arms_are low))) t.within id side
      (subst (λ (l : List Arm). HasArm (arm_of id side) l) p.arms_are ha) (subst (λ (l : List Arm). HasArm (arm_of id (not side)) l) t.arms_are hb)

  not_twice : (side : Truth) → not (not side) ≡ side
  not_twice true = refl
  not_twice false = refl

  pairs_exclude : (j k : ℕ) (s t : BlockSite) (a b : SourceAccess) (r : stood.Around) → HasOneOfEach r.arms → (before part : List SourceEvent) (done folds : List Located) (old new : Building) (m : MadeEach scene around (done ++ folds) old new)
      → Follows r before part done → AllByRecursion (λ (c : Located). StoresReach c.command) (done ++ folds) → FitsStep x new.draft → BlockBegun x old.draft → Pair scene around j s a done folds old new m → Pair scene around k t b done folds old new m
      → (id : ℕ) (side : Truth) → HasArm (arm_of id side) a.site.arms → HasArm (arm_of id (not side)) b.site.arms → (n : ℕ) → n < paths_counted around → holds x (guard_of s.standing.guards n) → holds x (guard_of t.standing.guards n) → ⊥
  pairs_exclude j k s t a b r once before part [] folds old new m follows is f begun one two id side ha hb n less on_s on_t = one
  pairs_exclude j k s t a b r once before part (c ∷ cs) folds old new (mid, (next, (made, rest_made))) (gap, (rest, (all, (h, follows)))) is f begun one two id side ha hb n less on_s on_t =
      by one two (λ p q. pairs_exclude j k s t a b r once ((before ++ gap) ++ of_located c) rest cs folds mid new rest_made follows is.1 f (begun_later old.draft mid.draft x (command_lays scene c.command around old mid c.first next stands.stands made).extends begun) p q id side ha hb n less on_s on_t)
    where
      f_mid : FitsStep x mid.draft
      f_mid = fits_before mid.draft new.draft x (each_lays scene around (cs ++ folds) mid new stands.stands rest_made).extends f

      once_here : HasOneOfEach c.around.arms
      once_here = subst (λ (q : stood.Around). HasOneOfEach q.arms) (sym h.around) once

      below_here : Below h.number c.around.arms
      below_here = subst (λ (q : stood.Around). Below h.number q.arms) (sym h.around) h.arms

      by : ((places_from c.first (command_sites scene c.command around old mid c.first next made) j ≡ Some s) × At c.first j (of_located c) a) ⊎ Pair scene around j s a cs folds mid new rest_made
          → ((places_from c.first (command_sites scene c.command around old mid c.first next made) k ≡ Some t) × At c.first k (of_located c) b) ⊎ Pair scene around k t b cs folds mid new rest_made
          → (Pair scene around j s a cs folds mid new rest_made → Pair scene around k t b cs folds mid new rest_made → ⊥) → ⊥
      by (inl p) (inl q) more =
          command_excludes x scene (paths_counted around) c.command around old mid c.first next made is.0 stands refl f_mid begun c.around h.number h.numbered below_here once_here c.first j k s t a b p.0 q.0 p.1 q.1 id side ha hb n less on_s on_t
      by (inl p) (inr q) more =
          not_opposite j a b r (before ++ gap) c h once p.1 (later k t b r ((before ++ gap) ++ of_located c) rest cs folds mid new rest_made follows q) id side ha hb
      by (inr p) (inl q) more =
          not_opposite k b a r (before ++ gap) c h once q.1 (later j s a r ((before ++ gap) ++ of_located c) rest cs folds mid new rest_made follows p) id (not side) hb
          (subst (λ (d : Truth). HasArm (arm_of id d) a.site.arms) (sym (not_twice side)) ha)
      by (inr p) (inr q) more = more p q

  -- a site of a block is guarded inside what stands round it
  block_guarded : (cs : List Located) (old new : Building) (m : MadeEach scene around cs old new) (number : ℕ) (s : BlockSite) → FitsStep x new.draft → BlockBegun x old.draft → block_sites scene around cs old new m number ≡ Some s → IsGuardedIn x around s
  block_guarded [] old new m number s f b e = absurd (cc)
  block_guarded (c ∷ cs) old new (mid, (next, (one, rest))) number s f b e =
      by (site_cases scene around (places_from c.first (command_sites scene c.command around old mid c.first next one) number) (block_sites scene around cs mid new rest number) s e)
      (block_guarded cs mid new rest number s f (begun_later old.draft mid.draft x (command_lays scene c.command around old mid c.first next stands.stands one).extends b))
    where
      by : (places_from c.first (command_sites scene c.command around old mid c.first next one) number ≡ Some s) ⊎ (block_sites scene around cs mid new rest number ≡ Some s)
          → (block_sites scene around cs mid new rest number ≡ Some s → IsGuardedIn x around s) → IsGuardedIn x around s
      by (inl own) more =
          place_each x (IsGuardedIn x around) c.first (command_sites scene c.command around old mid c.first next one) number s
          (command_guarded x scene c.command around old mid c.first next one stands (fits_before mid.draft new.draft x (each_lays scene around cs mid new stands.stands rest).extends f) b) own
      by (inr later) more = more later

-- The laws.

no_loops : (r more : List Counter) → r ++ more ≡ [] → r ≡ []
no_loops [] more e = refl
no_loops (c ∷ r) more e = absurd (cc)

pub straight_never : StraightNever
straight_never scene around plan count block done folds old new made more reads h along meets registers memories j k m n s t at_j at_k apart done_j done_k =
    by opposite.opposite
  where
    x : BlockStep
    x = step_of_block plan block registers memories

    fits : FitsStep (step_of_block plan block registers memories) new.draft
    fits = fits_here plan count block old new more h.put registers memories

    begun : BlockBegun (step_of_block plan block registers memories) old.draft
    begun = begun_here plan count block old new more h.put registers memories

    one : (a : SourceAccess) × ((slice_get (accesses_in ([] ++ trace (program_seen scene.program.now))) j ≡ Some a) × Pair scene around j s a done folds old new made)
    one = pair_of scene around j s along.round [] (trace (program_seen scene.program.now)) done folds old new made along.follows along.quiet h.stores at_j

    two : (a : SourceAccess) × ((slice_get (accesses_in ([] ++ trace (program_seen scene.program.now))) k ≡ Some a) × Pair scene around k t a done folds old new made)
    two = pair_of scene around k t along.round [] (trace (program_seen scene.program.now)) done folds old new made along.follows along.quiet h.stores at_k

    opposite : InOppositeArms one.0 two.0
    opposite = apart_opposite (program_seen scene.program.now) (done ++ folds) j k along.has (block_makes scene j s around (done ++ folds) old new made h.stores at_j) (block_makes scene k t around (done ++ folds) old new made h.stores at_k)
        ((meets.apart j k (apart_first plan.meets j k apart) (apart_second plan.meets j k apart)).0 apart) one.0 two.0 one.1.0 two.1.0

    told : IsLater along.round [] one.0
    told = later (step_of_block plan block registers memories) scene around h.stands j s one.0 along.round [] (trace (program_seen scene.program.now)) done folds old new made along.follows one.1.1

    once : HasOneOfEach along.round.arms
    once = front_once along.round.arms told.further (subst (λ (l : List Arm). HasOneOfEach l) told.arms_are (arms_once (program_seen scene.program.now) along.lowest along.numbered j one.0 one.1.0))

    one_path : paths_counted around ≡ 1
    one_path = h.stands.counted ∙ (ap (λ (fs : List ℕ). copies_in fs) along.loops_are ∙ ap (λ (ls : List Counter). copies_in (charged.loop_factors ls)) bare)
      where
        bare : along.round.loops ≡ []
        bare = no_loops along.round.loops told.inner (sym told.loops_are ∙ opposite.single)

    guarded_s : IsGuardedIn (step_of_block plan block registers memories) around s
    guarded_s = block_guarded (step_of_block plan block registers memories) scene around h.stands (done ++ folds) old new made j s fits begun at_j

    guarded_t : IsGuardedIn (step_of_block plan block registers memories) around t
    guarded_t = block_guarded (step_of_block plan block registers memories) scene around h.stands (done ++ folds) old new made k t fits begun at_k

    first_is : (p : ℕ) → p < paths_counted around → p ≡ 0
    first_is p l = let e = one_path in omega (arith, l, e)

    on_s : holds (step_of_block plan block registers memories) (guard_of s.standing.guards 0)
    on_s = subst (λ (p : ℕ). holds (step_of_block plan block registers memories) (guard_of s.standing.guards p)) (first_is done_j.path (subst (λ (l : ℕ). done_j.path < l) guarded_s.long done_j.within)) done_j.on

    on_t : holds (step_of_block plan block registers memories) (guard_of t.standing.guards 0)
    on_t = subst (λ (p : ℕ). holds (step_of_block plan block registers memories) (guard_of t.standing.guards p)) (first_is done_k.path (subst (λ (l : ℕ). done_k.path < l) guarded_t.long done_k.within)) done_k.on

    never : (side : Truth) → HasArm (arm_of opposite.command side) one.0.site.arms → HasArm (arm_of opposite.command (not side)) two.0.site.arms → ⊥
    never side p q =
        pairs_exclude (step_of_block plan block registers memories) scene around h.stands j k s t one.0 two.0 along.round once [] (trace (program_seen scene.program.now)) done folds old new made along.follows h.stores fits begun one.1.1 two.1.1
        opposite.command side p q 0 (let e = one_path in omega (arith, e)) on_s on_t

    by : AreOpposite opposite.command one.0.site.arms two.0.site.arms → ⊥
    by (inl p) = never true p.0 p.1
    by (inr p) = never false p.0 p.1

-- Tests.

pub tests_within : (a : Action) (t : Term) (j n : ℕ) → test_of (action_form_of a) ≡ Some t → n ≤ j → j < n + term_accesses t → tests_make j n a ≡ true
tests_within (action id place (decides test chosen other)) t j n e l u = within_is j n (term_accesses test) l (subst (λ (q : Term). j < n + term_accesses q) (sym (some_same test t e)) u)
tests_within (action id place (repeats test body)) t j n e l u = within_is j n (term_accesses test) l (subst (λ (q : Term). j < n + term_accesses q) (sym (some_same test t e)) u)
tests_within (action id place (lets name declared value)) t j n e l u = absurd (cc)
tests_within (action id place (lets_memory name shape shape_places value)) t j n e l u = absurd (cc)
tests_within (action id place (views name parent form)) t j n e l u = absurd (cc)
tests_within (action id place (assigns target value)) t j n e l u = absurd (cc)
tests_within (action id place (stores target value)) t j n e l u = absurd (cc)
tests_within (action id place (reduces target o value)) t j n e l u = absurd (cc)
tests_within (action id place (calls function arguments)) t j n e l u = absurd (cc)
tests_within (action id place (blocks body)) t j n e l u = absurd (cc)
tests_within (action id place (counts iterator declared low high factor body combine combine_place)) t j n e l u = absurd (cc)

pub test_never : TestNever
test_never scene around plan block tested t has is meets registers memories j k m n s q at_j at_k apart done_j done_k =
    test_together (program_seen scene.program.now) tested j k has (made j s at_j) (made k q at_k) ((meets.apart j k (apart_first plan.meets j k apart) (apart_second plan.meets j k apart)).0 apart)
  where
    made : (i : ℕ) (o : BlockSite) → test_sites scene around tested.first t i ≡ Some o → test_makes i tested ≡ true
    made i o e =
        let told = site_told tested.first i (term_sites scene around t) o e in
        let l = told.0 in let u = told.1 in
        let long = sites_long scene around t in
        tests_within tested.command t i tested.first is l (omega (arith, u, long))
