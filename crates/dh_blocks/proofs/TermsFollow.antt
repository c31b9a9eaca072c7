-- An expression at one path: by the reads that are chosen all that it takes is as the program has it. At a path whose
-- guard does not hold that is so of the indices of a read with whose key the guard holds at another path, since there
-- each variable in them has the same register and the same value.
use Rattle.std.proofs.Common.{◌≡◌, ◌⊎◌, inl, inr, ℕ, zero, suc, ◌+◌, ◌<◌, ◌≤◌, ◌^◌, ◌==◌, ◌&&◌, ◌||◌, Bool, true, false, List, [], ◌∷◌, ◌++◌, length, take, Option, Some, None, refl, sym, ◌∙◌, ap, subst, arith}
use Rattle.std.specs.Prelude.{slice_get, pos}
use Rattle.std.specs.List.{AllByRecursion}
use Rattle.std.proofs.lemmas.Bool.{cases_lt, eqb-true, eq-eqb}
use Rattle.std.proofs.lemmas.List.{length-append}
use Rattle.dh_base.specs.declared.places.Place.{Place}
use Rattle.dh_value.specs.declared.kinds.Kind.{Kind}
use Rattle.dh_value.specs.declared.words.Word.{Word}
use Rattle.dh_value.specs.Words.{word_of}
use Rattle.dh_tree.specs.declared.trees.expressions.Ref.{Ref}
use Rattle.dh_tree.specs.declared.trees.counters.Counter.{Counter}
use Rattle.dh_tree.specs.PlainTrees.{Term, term, TermForm, number, truth_value, named, accessed, in_bank, applied, converted, Terms, no_terms, term_then}
use Rattle.dh_meaning.specs.AccessNumbers.{term_accesses, terms_accesses}
use Rattle.dh_meaning.specs.Bindings.{Binding, binding_in, depth_bound, kind_or_first}
use Rattle.dh_meaning.specs.CoreOf.{core_form, depth_of, entity_number, memory_of, way_of}
use Rattle.dh_meaning.specs.Effects.{Variables, value_of_term}
use Rattle.dh_meaning.specs.Paths.{Path, copies_in}
use Rattle.dh_meaning.specs.Runs.{iterator_value}
use Rattle.dh_meaning.specs.Ways.{Hidden, Way, hidden_in}
use Rattle.dh_meets.specs.Charges.{entity_depends, term_depends, terms_depend}
use Rattle.dh_code.specs.Slots.{held_at}
use Rattle.dh_code.specs.Extended.{extension_of}
use Rattle.dh_plan.specs.Blocks.{is_on}
use Rattle.dh_code.proofs.PathsInOrder.{length_path}
use Rattle.dh_sound.specs.SameKeys.{CopiesAgree, IsNearTo, IsNoIterator, IsSettledName, NameAgrees}
use Rattle.dh_sound.proofs.SameKeys.{agree_left, agree_right}
use Rattle.dh_sound.proofs.SettledNames.{full_depth_same, iterator_settled, plain_part, plain_settled}
use Rattle.dh_expressions.specs.declared.accesses.Accesses.{Accesses}
use Rattle.dh_expressions.specs.declared.scenes.Around.{Around}
use Rattle.dh_expressions.specs.declared.scenes.Scene.{Scene}
use Rattle.dh_expressions.specs.Copying.{DoneBy, depends_at}
use Rattle.dh_expressions.specs.Drafted.{BlockStep}
use Rattle.dh_expressions.specs.Evaluated.{EntityTurns, Fair, FairAll, IsDone, IsSited, NamesSmallBank, StepReads, Sees, SeesAll, SeesHidden, SeesWay, SeesWayBy, SourceMeans, TurnsBy, View, begun_of, entity_shown, known_in, shown_by, source_at}
use Rattle.dh_expressions.specs.Named.{first_view}
use Rattle.dh_expressions.specs.Noted.{touched_in}
use Rattle.dh_expressions.proofs.ListPlaces.{some_same}
use Rattle.dh_expressions.specs.Shown.{guard_of, kind_written, variable_shown}
use Rattle.dh_expressions.specs.Standings.{AccessStanding, standing_at}
use Rattle.dh_commands.specs.LanesRun.{is_on_at, lane_of, path_in, paths_counted}
use Rattle.dh_commands.specs.ShownVariables.{ShowsVariables, depth_in, level_factors, register_in, seen_path}
use Rattle.dh_commands.specs.Followed.{IsFollowed, view_at_step}
use Rattle.dh_blocks.specs.FoundAccesses.{Found, read_found, term_found, terms_found}
use Rattle.dh_blocks.specs.ChosenReads.{chosen_reads, done_of, any_led_is_on, chosen_standing, sites_to, word_found}
use Rattle.dh_blocks.specs.BlockGround.{AllFound, AreReadAt, FoundAreWithin, IsGround, IsReadAt}
use Rattle.dh_blocks.specs.NamedVariables.{IsNamedVariable, IsIteratorInTurn}
use Rattle.dh_blocks.specs.SlotsOfScene.{HasViews}
use Rattle.dh_blocks.specs.SoundTerms.{AreSound, IsSound, IsSoundHidden, IsSoundWay, kept_name}
use Rattle.dh_blocks.proofs.PathNumbers.{agree_leaders, leader_leads, leader_within, leaders_agree, number_is, numbered}
use Rattle.dh_blocks.proofs.KindsOfValues.{kept_word}
use Rattle.dh_blocks.proofs.RowsDepend.{row_depends}
use Rattle.dh_blocks.proofs.TermsSettled.{SettleAll, Settles, WaySettles, settled_value, two_same}

-- What is led.

split_or : (a b : Bool) → (a || b) ≡ true → (a ≡ true) ⊎ (b ≡ true)
split_or true b e = inl refl
split_or false b e = inr e

split_and : (a b : Bool) → (a && b) ≡ true → (a ≡ true) × (b ≡ true)
split_and true b e = (refl, e)
split_and false b e = cc

either_true : (a b : Bool) → (a ≡ true) ⊎ (b ≡ true) → (a || b) ≡ true
either_true true b h = refl
either_true false b (inl h) = cc
either_true false b (inr h) = h

both_true : (a b : Bool) → a ≡ true → b ≡ true → (a && b) ≡ true
both_true true b h i = i
both_true false b h i = cc

pub led_done : (x : BlockStep) (s : AccessStanding) (first n : ℕ) → any_led_is_on x s first n ≡ true → DoneBy x s.leader s.guards n first
led_done x s first zero e = absurd (cc)
led_done x s first (suc n) e = by (λ h. led_done x s first n h) (split_or (any_led_is_on x s first n) ((s.leader n == first) && is_on x.first x.words (guard_of s.guards n)) e)
  where
    further : DoneBy x s.leader s.guards n first → DoneBy x s.leader s.guards (suc n) first
    further d = record { path = d.path; within = let w = d.within in omega (arith, w); leads = d.leads; on = d.on }

    here : (s.leader n == first) ≡ true × is_on x.first x.words (guard_of s.guards n) ≡ true → DoneBy x s.leader s.guards (suc n) first
    here h = record { path = n; within = omega arith; leads = eqb-true (s.leader n) first h.0; on = h.1 }

    by : (any_led_is_on x s first n ≡ true → DoneBy x s.leader s.guards n first) → (any_led_is_on x s first n ≡ true) ⊎ (((s.leader n == first) && is_on x.first x.words (guard_of s.guards n)) ≡ true) → DoneBy x s.leader s.guards (suc n) first
    by before (inl h) = further (before h)
    by before (inr h) = here (split_and (s.leader n == first) (is_on x.first x.words (guard_of s.guards n)) h)

pub done_led : (x : BlockStep) (s : AccessStanding) (first n path : ℕ) → path < n → s.leader path ≡ first → is_on x.first x.words (guard_of s.guards path) ≡ true → any_led_is_on x s first n ≡ true
done_led x s first zero path within leads on = absurd (none path within)
  where
    none : (m : ℕ) → m < 0 → ⊥
    none m h = omega (arith, h)
done_led x s first (suc n) path within leads on = by (λ l. done_led x s first n path l leads on) (last path n within)
  where
    last : (m k : ℕ) → m < suc k → (m < k) ⊎ (m ≡ k)
    last m k h = by (cases m k) h
      where
        cases : (a b : ℕ) → (a < b) ⊎ (b ≤ a)
        cases a b = cases_lt a b

        by : (m < k) ⊎ (k ≤ m) → m < suc k → (m < k) ⊎ (m ≡ k)
        by (inl l) h = inl l
        by (inr l) h = inr (omega (arith, l, h))

    by : (path < n → any_led_is_on x s first n ≡ true) → (path < n) ⊎ (path ≡ n) → any_led_is_on x s first (suc n) ≡ true
    by before (inl l) = either_true (any_led_is_on x s first n) _ (inl (before l))
    by before (inr e) = either_true (any_led_is_on x s first n) _ (inr (both_true (s.leader n == first) _ (eq-eqb (s.leader n) first (ap s.leader (sym e) ∙ leads)) (ap (λ m. is_on x.first x.words (guard_of s.guards m)) (sym e) ∙ on)))

-- Lists.

pub found_first : (P : ℕ → Found → Type 0) (n : ℕ) (xs ys : List Found) → AllFound P n (xs ++ ys) → AllFound P n xs
found_first P n xs ys h i f e = h i f (front xs ys i f e)
  where
    front : (xs ys : List Found) (i : ℕ) (f : Found) → slice_get xs i ≡ Some f → slice_get (xs ++ ys) i ≡ Some f
    front [] ys i f e = absurd (cc)
    front (x ∷ xs) ys zero f e = e
    front (x ∷ xs) ys (suc i) f e = front xs ys i f e

pub found_then : (P : ℕ → Found → Type 0) (n m : ℕ) (xs ys : List Found) → m ≡ n + length xs → AllFound P n (xs ++ ys) → AllFound P m ys
found_then P n m xs ys is h i f e = subst (λ (k : ℕ). P k f) (sym (moved n m (length xs) i is)) (h (length xs + i) f (behind xs ys i f e))
  where
    moved : (n m l i : ℕ) → m ≡ n + l → m + i ≡ n + (l + i)
    moved n m l i e = omega (arith, e)

    behind : (xs ys : List Found) (i : ℕ) (f : Found) → slice_get ys i ≡ Some f → slice_get (xs ++ ys) (length xs + i) ≡ Some f
    behind [] ys i f e = ap (λ j. slice_get ys j) (none i) ∙ e
      where
        none : (i : ℕ) → 0 + i ≡ i
        none i = omega arith
    behind (x ∷ xs) ys i f e = ap (λ j. slice_get (x ∷ (xs ++ ys)) j) (one (length xs) i) ∙ behind xs ys i f e
      where
        one : (l i : ℕ) → suc l + i ≡ suc (l + i)
        one l i = omega arith

pub found_here : (P : ℕ → Found → Type 0) (n m : ℕ) (xs : List Found) (f : Found) → m ≡ n + length xs → AllFound P n (xs ++ f ∷ []) → P m f
found_here P n m xs f is h = subst (λ (k : ℕ). P k f) (sym (none m)) (found_then P n m xs (f ∷ []) is h 0 f refl)
  where
    none : (m : ℕ) → m ≡ m + 0
    none m = omega arith

module _ (scene : Scene) (around : Around) (x : BlockStep) (V : ℕ → Variables) where
  mutual
    pub term_long : (n : ℕ) (t : Term) → length (term_found scene around x V n t) ≡ term_accesses t
    term_long n (term place k (number negative z)) = refl
    term_long n (term place k (truth_value b)) = refl
    term_long n (term place k (named r)) = refl
    term_long n (term place k (accessed r ts)) = length-append (terms_found scene around x V n ts) _ ∙ one (length (terms_found scene around x V n ts)) (terms_accesses ts) (terms_long n ts)
      where
        one : (a b : ℕ) → a ≡ b → a + 1 ≡ suc b
        one a b e = omega (arith, e)
    term_long n (term place k (in_bank r bank at row)) = length-append (term_found scene around x V n row) _ ∙ one (length (term_found scene around x V n row)) (term_accesses row) (term_long n row)
      where
        one : (a b : ℕ) → a ≡ b → a + 1 ≡ suc b
        one a b e = omega (arith, e)
    term_long n (term place k (applied o l r)) =
        length-append (term_found scene around x V n l) (term_found scene around x V (n + term_accesses l) r)
        ∙ (ap (λ m. m + length (term_found scene around x V (n + term_accesses l) r)) (term_long n l) ∙ ap (λ m. term_accesses l + m) (term_long (n + term_accesses l) r))
    term_long n (term place k (converted inner to)) = term_long n inner

    pub terms_long : (n : ℕ) (ts : Terms) → length (terms_found scene around x V n ts) ≡ terms_accesses ts
    terms_long n no_terms = refl
    terms_long n (term_then t ts) =
        length-append (term_found scene around x V n t) (terms_found scene around x V (n + term_accesses t) ts)
        ∙ (ap (λ m. m + length (terms_found scene around x V (n + term_accesses t) ts)) (term_long n t) ∙ ap (λ m. term_accesses t + m) (terms_long (n + term_accesses t) ts))

pub site_there : (x : BlockStep) (find : ℕ → Option Found) (a : Accesses) (size own : ℕ) (f : Found) → own < size → find own ≡ Some f → slice_get (sites_to x.named find a size) own ≡ Some f.standing
site_there x find a zero own f within is = absurd (none own within)
  where
    none : (m : ℕ) → m < 0 → ⊥
    none m h = omega (arith, h)
site_there x find a (suc n) own f within is = by (λ l. site_there x find a n own f l is) (cases_lt own n)
  where
    long : (m : ℕ) → length (sites_to x.named find a m) ≡ m
    long zero = refl
    long (suc m) = length-append (sites_to x.named find a m) _ ∙ one (length (sites_to x.named find a m)) m (long m)
      where
        one : (a b : ℕ) → a ≡ b → a + 1 ≡ suc b
        one a b e = omega (arith, e)

    front : (xs : List AccessStanding) (y z : AccessStanding) (i : ℕ) → slice_get xs i ≡ Some z → slice_get (xs ++ y ∷ []) i ≡ Some z
    front [] y z i e = absurd (cc)
    front (w ∷ xs) y z zero e = e
    front (w ∷ xs) y z (suc i) e = front xs y z i e

    last : (xs : List AccessStanding) (y : AccessStanding) (i : ℕ) → i ≡ length xs → slice_get (xs ++ y ∷ []) i ≡ Some y
    last [] y i e = ap (λ j. slice_get (y ∷ []) j) e
    last (w ∷ xs) y i e = ap (λ j. slice_get (w ∷ (xs ++ y ∷ [])) j) e ∙ last xs y (length xs) refl

    by : (own < n → slice_get (sites_to x.named find a n) own ≡ Some f.standing) → (own < n) ⊎ (n ≤ own) → slice_get (sites_to x.named find a n ++ chosen_standing x.named (find n) (touched_in a n) ∷ []) own ≡ Some f.standing
    by before (inl l) = front (sites_to x.named find a n) _ f.standing own (before l)
    by before (inr l) =
        let same : own ≡ n = omega (arith, l, within) in
        last (sites_to x.named find a n) (chosen_standing x.named (find n) (touched_in a n)) own (same ∙ sym (long n))
        ∙ ap Some (ap (λ o. chosen_standing x.named o (touched_in a n)) (ap find (sym same) ∙ is))

-- At one path.
module _ (scene : Scene) (around : Around) (x : BlockStep) (find : ℕ → Option Found) (before : Accesses) (V : ℕ → Variables) (v0 : Variables) (touched : ℕ → Bool)
    (ground : IsGround scene around) (within_all : FoundAreWithin find before) (views : HasViews scene x.start.views)
    (near : (i : ℕ) → i < paths_counted around → IsNearTo v0 touched (V i)) where
  abbrev Named : Ref → Kind → Type 0
  Named = IsNamedVariable scene around.levels.now x v0 touched

  abbrev Sound : Term → Type 0
  Sound = IsSound (known_in scene) x.start.table Named

  abbrev AllSound : Terms → Type 0
  AllSound = AreSound (known_in scene) x.start.table Named

  abbrev SoundHidden : Ref → Hidden → Type 0
  SoundHidden = IsSoundHidden (known_in scene) x.start.table Named

  abbrev SoundWay : Ref → Type 0
  SoundWay = IsSoundWay (known_in scene) x.start.table Named

  abbrev reads : StepReads
  reads = chosen_reads x find before

  abbrev path : ℕ → Path
  path i = path_in around i

  abbrev view : ℕ → View
  view i = view_at_step x reads (V i)

  inside : (i : ℕ) → i < paths_counted around → i < copies_in (level_factors around.levels.now)
  inside i h = subst (λ (n : ℕ). i < n) ground.counted h

  long_path : (i : ℕ) → i < paths_counted around → length (path i) ≡ length (level_factors around.levels.now)
  long_path i h = length_path (level_factors around.levels.now) (path i) (numbered around.levels.now ground.spread i (inside i h)).path

  levels_long : length (level_factors around.levels.now) ≡ length around.levels.now
  levels_long = long_map around.levels.now
    where
      long_map : (ls : List _) → length (level_factors ls) ≡ length ls
      long_map [] = refl
      long_map (l ∷ ls) = ap suc (long_map ls)

  same_long : (i j : ℕ) → i < paths_counted around → j < paths_counted around → length (path i) ≡ length (path j)
  same_long i j h k = long_path i h ∙ sym (long_path j k)

  -- Names.

  -- an iterator has the value of its turn
  iterator_is : (i : ℕ) → i < paths_counted around → (r : Ref) (k : Kind) (t : IsIteratorInTurn scene around.levels.now x v0 touched r k)
      → V i (entity_number r.entity) (take (depth_of (known_in scene) r) (path i)) ≡ pos (iterator_value t.loop t.turn (path i))
  iterator_is i h r k t =
      ap (λ o. V i (entity_number o) (take (depth_of (known_in scene) r) (path i))) t.is.entity
      ∙ (ap (λ d. V i t.loop.iterator (take d (path i))) deep
      ∙ (near i h t.loop.iterator (take t.loop.depth (path i)) t.left ∙ (t.at i (inside i h)).value))
    where
      deep : depth_of (known_in scene) r ≡ t.loop.depth
      deep = ap depth_bound (ap (λ o. binding_in (known_in scene).bindings (entity_number o)) t.is.entity ∙ t.is.bound) ∙ t.is.depth

  -- a name is shown at a path, where it is at one that agrees where the name depends
  shown_named : (i q : ℕ) → i < paths_counted around → q < paths_counted around → is_on_at x around q ≡ true → (current : List (Option ℕ)) → ShowsVariables scene around x current (V i)
      → (r : Ref) (k : Kind) → Named r k → NameAgrees (known_in scene) (path i) (path q) r
      → EntityTurns scene x (entity_number r.entity) k
      × (entity_shown scene (lane_of around i) current x (entity_number r.entity) k ≡ word_of k (V i (entity_number r.entity) (take (depth_of (known_in scene) r) (path i))))
  shown_named i q h g on current s r k (inl p) agree =
      let same : seen_path scene around (entity_number r.entity) i ≡ seen_path scene around (entity_number r.entity) q =
      plain_part (known_in scene) (path i) (path q) r (entity_number r.entity) p.is p.binding (same_long i q h g) agree in
      let register : register_in scene around (entity_number r.entity) i ≡ register_in scene around (entity_number r.entity) q = ground.one (entity_number r.entity) i q p.seen h g same in (
        subst (λ (o : Option Counter). TurnsBy x o (held_at scene.held.now (entity_number r.entity)) k) (sym p.seen.no_counter) tt,
        ap (λ o. shown_by x o (held_at scene.held.now (entity_number r.entity)) (lane_of around i) current k) p.seen.no_counter
            ∙ (ap (λ n. variable_shown x current n) register
            ∙ (ap (λ o. shown_by x o (held_at scene.held.now (entity_number r.entity)) (lane_of around q) current (held_at scene.held.now (entity_number r.entity)).kind) (sym p.seen.no_counter)
            ∙ (s.each (entity_number r.entity) q p.seen g on
            ∙ (ap (λ j. word_of j (V i (entity_number r.entity) (seen_path scene around (entity_number r.entity) q))) p.kind_is
            ∙ ap (λ (y : Path). word_of k (V i (entity_number r.entity) y)) (sym same))))),
      )
  shown_named i q h g on current s r k (inr t) agree = (
    subst (λ (o : Option Counter). TurnsBy x o (held_at scene.held.now (entity_number r.entity)) k) (sym t.counted) t.turning,
    ap (λ o. shown_by x o (held_at scene.held.now (entity_number r.entity)) (lane_of around i) current k) t.counted
        ∙ (ap (λ n. word_of k (pos n)) (t.shown i (inside i h)) ∙ ap (λ z. word_of k z) (sym (iterator_is i h r k t))),
  )

  -- a name has one value at two paths that agree where it depends
  settled_name : (l i : ℕ) → l < paths_counted around → i < paths_counted around → (r : Ref) (k : Kind) → Named r k → IsSettledName (known_in scene) (V l) (V i) (path l) (path i) r
  settled_name l i h g r k (inl p) = by p.free
    where
      by : (touched (entity_number r.entity) ≡ false) ⊎ (length around.levels.now ≤ depth_in scene (entity_number r.entity)) → IsSettledName (known_in scene) (V l) (V i) (path l) (path i) r
      by (inl left) = plain_settled (known_in scene) v0 (V l) (V i) touched (path l) (path i) r (entity_number r.entity) (near l h) (near i g) (same_long l i h g) p.is left p.binding
      by (inr full) = λ agree.
          let deep : length (path l) ≤ depth_of (known_in scene) r = let a = long_path l h in let b = levels_long in omega (arith, a, b, full) in
          let one : path l ≡ path i = full_depth_same (known_in scene) (path l) (path i) r (entity_number r.entity) p.is p.binding deep (same_long l i h g) agree in
          let same : l ≡ i = number_is around.levels.now ground.spread l i (inside l h) (inside i g) one in
          ap (λ n. V n (entity_number r.entity) (take (depth_of (known_in scene) r) (path n))) same
  settled_name l i h g r k (inr t) =
      iterator_settled (known_in scene) v0 (V l) (V i) touched (path l) (path i) r t.loop t.turn (near l h) (near i g) (same_long l i h g) t.is t.left (t.at l (inside l h)) (t.at i (inside i g))

  -- Offsets on ways.

  -- each has one value at two paths that agree where the view depends
  way_settled : (l i : ℕ) → l < paths_counted around → i < paths_counted around → (r : Ref) → SoundWay r → WaySettles (begun_of x) (known_in scene) (V l) (V i) (path l) (path i) r
  way_settled l i h g r s agree = two_same (begun_of x) (V l) (V i) (path l) (path i) (hidden_in (way_of (known_in scene) r)) (each (hidden_in (way_of (known_in scene) r)) s)
    where
      each : (hs : List Hidden) → AllByRecursion (λ (k : Hidden). SoundHidden r k) hs → AllByRecursion (λ (k : Hidden). V l k.entity (take k.depth (path l)) ≡ V i k.entity (take k.depth (path i))) hs
      each [] a = tt
      each (k ∷ hs) a = (
        subst (λ (d : ℕ). V l k.entity (take d (path l)) ≡ V i k.entity (take d (path i))) (sym a.0.deep)
            (settled_name l i h g (kept_name k) k.kind a.0.named (λ j small is. agree j small (a.0.less j is))),
        each hs a.1,
      )

  -- it is shown as the program has it, where the guard holds at one of them
  hidden_seen : (i q : ℕ) → i < paths_counted around → q < paths_counted around → is_on_at x around q ≡ true → (current : List (Option ℕ)) → ShowsVariables scene around x current (V i)
      → (r : Ref) (k : Hidden) → SoundHidden r k → CopiesAgree (λ l. entity_depends (known_in scene).bindings l r.entity) (path i) (path q) → SeesHidden scene (lane_of around i) current (view i) k
  hidden_seen i q h g on current sh r k s agree = by s.named
    where
      name_agrees : NameAgrees (known_in scene) (path i) (path q) (kept_name k)
      name_agrees l small is = agree l small (s.less l is)

      clash : (b : Binding) (o : Option Binding) (f : ℕ) → o ≡ Some b → b.iterates ≡ Some f → IsNoIterator o → ⊥
      clash b None f e it none = cc
      clash b (Some c) f e it none = let same : c ≡ b = some_same c b e in absurd (never (sym (ap (λ (y : Binding). y.iterates) same ∙ it) ∙ none))
        where
          never : Some f ≡ None → ⊥
          never n = cc

      by : Named (kept_name k) k.kind → SeesHidden scene (lane_of around i) current (view i) k
      by (inl p) =
          ap (λ o. shown_by x o (held_at scene.held.now k.entity) (lane_of around i) current k.kind) (sym p.seen.no_counter)
          ∙ ((shown_named i q h g on current sh (kept_name k) k.kind (inl p) name_agrees).1
          ∙ ap (λ (d : ℕ). word_of k.kind (V i k.entity (take d (path i)))) (sym s.deep))
      by (inr t) =
          absurd (clash t.is.binding (binding_in (known_in scene).bindings k.entity) t.loop.factor
          (ap (λ o. binding_in (known_in scene).bindings (entity_number o)) t.is.entity ∙ t.is.bound) t.is.iterates s.plain)

  pub way_seen : (i q : ℕ) → i < paths_counted around → q < paths_counted around → is_on_at x around q ≡ true → (current : List (Option ℕ)) → ShowsVariables scene around x current (V i)
      → (r : Ref) → SoundWay r → CopiesAgree (λ l. entity_depends (known_in scene).bindings l r.entity) (path i) (path q) → SeesWay scene (lane_of around i) current (view i) r
  way_seen i q h g on current sh r s agree = by (way_of (known_in scene) r) refl s
    where
      each : (hs : List Hidden) → AllByRecursion (λ (k : Hidden). SoundHidden r k) hs → AllByRecursion (λ (k : Hidden). SeesHidden scene (lane_of around i) current (view i) k) hs
      each [] a = tt
      each (k ∷ hs) a = (hidden_seen i q h g on current sh r k a.0 agree, each hs a.1)

      by : (o : Option Way) → way_of (known_in scene) r ≡ o → AllByRecursion (λ (k : Hidden). SoundHidden r k) (hidden_in o) → SeesWayBy scene (lane_of around i) current (view i) (first_view scene r) o
      by None e a = tt
      by (Some w) e a = (each w.hidden a, views r w e)

  mutual
    each_settled : (l i : ℕ) → l < paths_counted around → i < paths_counted around → (t : Term) → Sound t → Settles (begun_of x) (known_in scene) (V l) (V i) (path l) (path i) t
    each_settled l i h g (term place k (number negative z)) s = tt
    each_settled l i h g (term place k (truth_value b)) s = tt
    each_settled l i h g (term place k (named r)) s = settled_name l i h g r (kind_or_first k) s.0
    each_settled l i h g (term place k (accessed r ts)) s = (all_settled l i h g ts s.0.0, way_settled l i h g r s.0.1)
    each_settled l i h g (term place k (in_bank r bank at row)) s = each_settled l i h g row s.0
    each_settled l i h g (term place k (applied o a b)) s = (each_settled l i h g a s.0.0, each_settled l i h g b s.0.1)
    each_settled l i h g (term place k (converted inner to)) s = each_settled l i h g inner s.0

    all_settled : (l i : ℕ) → l < paths_counted around → i < paths_counted around → (ts : Terms) → AllSound ts → SettleAll (begun_of x) (known_in scene) (V l) (V i) (path l) (path i) ts
    all_settled l i h g no_terms s = tt
    all_settled l i h g (term_then t ts) s = (each_settled l i h g t s.0, all_settled l i h g ts s.1)

  -- Reads.

  abbrev word : (n : ℕ) → Place → Kind → TermForm → (i : ℕ) → Word
  word n place k form i = value_of_term (begun_of x) (V i) (path i) (core_form (known_in scene) n place k form)

  abbrev counts : TermForm → ℕ → Bool
  counts form = depends_at scene form false

  abbrev own : (n : ℕ) → Place → Kind → (memory : ℕ) → TermForm → Found
  own n place k memory form = read_found scene around x V n place k memory form

  -- a read that is done means what the program reads
  read_done : (i n m : ℕ) → i < paths_counted around → (place : Place) (k : Kind) (memory : ℕ) (form : TermForm) → Sound (term place (Some k) form) → memory < 2 ^ 32 → NamesSmallBank form
      → ((l : ℕ) → term_depends (known_in scene).bindings l (term place (Some k) form) ≡ counts form l)
      → IsReadAt scene x find m (read_found scene around x V n place k memory form) → done_of x (Some (read_found scene around x V n place k memory form)) i ≡ true
      → IsDone scene (lane_of around i) (view i) memory m place form (word n place k form i)
  read_done i n m h place k memory form s small bank depends (is, shared) led = record {
    small = small;
    bank = bank;
    done = ap (λ o. done_of x o i) is ∙ led;
    means = ap (λ o. word_found o i) is;
    source = by (slice_get scene.shares.now m) refl;
    made = led_done x (own n place k memory form).standing ((own n place k memory form).standing.leader i) (paths_counted around) led;
  }
    where
      low : (own n place k memory form).standing.leader i < paths_counted around
      low = subst (λ (c : ℕ). (own n place k memory form).standing.leader i < c) (sym ground.counted) (leader_within around.levels.now ground.spread (counts form) i (inside i h))

      itself : (own n place k memory form).standing.leader ((own n place k memory form).standing.leader i) ≡ (own n place k memory form).standing.leader i
      itself = leader_leads around.levels.now ground.spread (counts form) i (inside i h)

      agree : CopiesAgree (λ l. term_depends (known_in scene).bindings l (term place (Some k) form)) (path ((own n place k memory form).standing.leader i)) (path i)
      agree l small e = leaders_agree around.levels.now ground.spread (counts form) ((own n place k memory form).standing.leader i) i (inside ((own n place k memory form).standing.leader i) low) (inside i h) itself l small (sym (depends l) ∙ e)

      same : word n place k form ((own n place k memory form).standing.leader i) ≡ word n place k form i
      same = settled_value (begun_of x) (known_in scene) (V ((own n place k memory form).standing.leader i)) (V i) (path ((own n place k memory form).standing.leader i)) (path i) n (term place (Some k) form) (each_settled ((own n place k memory form).standing.leader i) i low h (term place (Some k) form) s) agree

      by : (o : Option (Option ℕ)) → slice_get scene.shares.now m ≡ o → SourceMeans reads (source_at o m i ((own n place k memory form).standing.leader i)) (word n place k form i)
      by None e = tt
      by (Some None) e = (
        ap (λ o. done_of x o ((own n place k memory form).standing.leader i)) is ∙ (ap (λ f. any_led_is_on x (own n place k memory form).standing f (paths_counted around)) itself ∙ led),
        ap (λ o. word_found o ((own n place k memory form).standing.leader i)) is ∙ same,
      )
      by (Some (Some earlier)) e = shared earlier i e h led

  read_sited : (i n m : ℕ) → i < paths_counted around → (place : Place) (k : Kind) (memory : ℕ) (form : TermForm) → find m ≡ Some (read_found scene around x V n place k memory form)
      → IsSited scene (lane_of around i) (view i) memory m place form false
  read_sited i n m h place k memory form is = record {
    scopes = ground.scopes;
    low = ground.low;
    within = h;
    site = site_there x find before (length before.touched.items) m _ (within_all m _ is) is;
  }

  -- where the guard holds at a path that agrees where a read depends, the read is done
  read_led : (i q n : ℕ) → i < paths_counted around → q < paths_counted around → is_on_at x around q ≡ true → (place : Place) (k : Kind) (memory : ℕ) (form : TermForm)
      → ((l : ℕ) → term_depends (known_in scene).bindings l (term place (Some k) form) ≡ counts form l)
      → CopiesAgree (λ l. term_depends (known_in scene).bindings l (term place (Some k) form)) (path i) (path q) → done_of x (Some (read_found scene around x V n place k memory form)) i ≡ true
  read_led i q n h g on place k memory form depends agree =
      done_led x (standing_at scene around memory place form false) ((standing_at scene around memory place form false).leader i) (paths_counted around) q g
      (sym (agree_leaders around.levels.now ground.spread (counts form) i q (inside i h) (inside q g) (λ l small e. agree l small (depends l ∙ e)))) on

  -- paths that agree where an access depends do where its indices do, or its row
  of_indices : (r : Ref) (ts : Terms) (p q : Path) → CopiesAgree (λ l. entity_depends (known_in scene).bindings l r.entity || terms_depend (known_in scene).bindings l ts) p q
      → CopiesAgree (λ l. terms_depend (known_in scene).bindings l ts) p q
  of_indices r ts p q = agree_right (λ l. entity_depends (known_in scene).bindings l r.entity) (λ l. terms_depend (known_in scene).bindings l ts) p q

  of_name : (r : Ref) (ts : Terms) (p q : Path) → CopiesAgree (λ l. entity_depends (known_in scene).bindings l r.entity || terms_depend (known_in scene).bindings l ts) p q
      → CopiesAgree (λ l. entity_depends (known_in scene).bindings l r.entity) p q
  of_name r ts p q = agree_left (λ l. entity_depends (known_in scene).bindings l r.entity) (λ l. terms_depend (known_in scene).bindings l ts) p q

  of_row : (r : Ref) (row : Term) (p q : Path) → CopiesAgree (λ l. entity_depends (known_in scene).bindings l r.entity || term_depends (known_in scene).bindings l row) p q
      → CopiesAgree (λ l. term_depends (known_in scene).bindings l row) p q
  of_row r row p q = agree_right (λ l. entity_depends (known_in scene).bindings l r.entity) (λ l. term_depends (known_in scene).bindings l row) p q

  mutual
    pub sees : (i q : ℕ) → i < paths_counted around → q < paths_counted around → is_on_at x around q ≡ true → (current : List (Option ℕ)) → ShowsVariables scene around x current (V i)
        → (n : ℕ) (t : Term) → Sound t → AreReadAt scene x find n (term_found scene around x V n t) → CopiesAgree (λ l. term_depends (known_in scene).bindings l t) (path i) (path q)
        → Sees scene (lane_of around i) current (view i) n t
    sees i q h g on current sh n (term place k (number negative z)) s f agree = s
    sees i q h g on current sh n (term place k (truth_value b)) s f agree = tt
    sees i q h g on current sh n (term place k (named r)) s f agree = shown_named i q h g on current sh r (kind_or_first k) s.0 agree
    sees i q h g on current sh n (term place k (accessed r ts)) s f agree = (
      (
        sees_all i q h g on current sh n ts s.0.0 (found_first (IsReadAt scene x find) n (terms_found scene around x V n ts) _ f) (of_indices r ts (path i) (path q) agree),
        way_seen i q h g on current sh r s.0.1 (of_name r ts (path i) (path q) agree),
      ),
      read_done i n (n + terms_accesses ts) h place (kind_or_first k) (memory_of (known_in scene) r) (accessed r ts) s s.1.0 tt (λ l. refl)
          (found_here (IsReadAt scene x find) n (n + terms_accesses ts) (terms_found scene around x V n ts) _ (ap (λ m. n + m) (sym (terms_long scene around x V n ts))) f)
          (read_led i q n h g on place (kind_or_first k) (memory_of (known_in scene) r) (accessed r ts) (λ l. refl) agree),
    )
    sees i q h g on current sh n (term place k (in_bank r bank at row)) s f agree = (
      sees i q h g on current sh n row s.0 (found_first (IsReadAt scene x find) n (term_found scene around x V n row) _ f) agree,
      read_done i n (n + term_accesses row) h place (kind_or_first k) (memory_of (known_in scene) r) (in_bank r bank at row) s s.1.0 s.1.1.0 (row_depends (known_in scene) r row s.1.1.1.1)
          (found_here (IsReadAt scene x find) n (n + term_accesses row) (term_found scene around x V n row) _ (ap (λ m. n + m) (sym (term_long scene around x V n row))) f)
          (read_led i q n h g on place (kind_or_first k) (memory_of (known_in scene) r) (in_bank r bank at row) (row_depends (known_in scene) r row s.1.1.1.1) agree),
    )
    sees i q h g on current sh n (term place k (applied o a b)) s f agree = (
      (
        sees i q h g on current sh n a s.0.0 (found_first (IsReadAt scene x find) n (term_found scene around x V n a) _ f) (agree_left (λ l. term_depends (known_in scene).bindings l a) (λ l. term_depends (known_in scene).bindings l b) (path i) (path q) agree),
        sees i q h g on current sh (n + term_accesses a) b s.0.1 (found_then (IsReadAt scene x find) n (n + term_accesses a) (term_found scene around x V n a) _ (ap (λ m. n + m) (sym (term_long scene around x V n a))) f)
            (agree_right (λ l. term_depends (known_in scene).bindings l a) (λ l. term_depends (known_in scene).bindings l b) (path i) (path q) agree),
      ),
      (
        λ kept. kept_word (begun_of x) (V i) (path i) (known_in scene) Named n a (extension_of o (kind_written a) (kind_written b)) s.0.0 kept,
        λ kept. kept_word (begun_of x) (V i) (path i) (known_in scene) Named (n + term_accesses a) b (extension_of o (kind_written a) (kind_written b)) s.0.1 kept,
      ),
    )
    sees i q h g on current sh n (term place k (converted inner to)) s f agree =
        (sees i q h g on current sh n inner s.0 f agree, λ kept. kept_word (begun_of x) (V i) (path i) (known_in scene) Named n inner to s.0 kept)

    pub sees_all : (i q : ℕ) → i < paths_counted around → q < paths_counted around → is_on_at x around q ≡ true → (current : List (Option ℕ)) → ShowsVariables scene around x current (V i)
        → (n : ℕ) (ts : Terms) → AllSound ts → AreReadAt scene x find n (terms_found scene around x V n ts) → CopiesAgree (λ l. terms_depend (known_in scene).bindings l ts) (path i) (path q)
        → SeesAll scene (lane_of around i) current (view i) n ts
    sees_all i q h g on current sh n no_terms s f agree = tt
    sees_all i q h g on current sh n (term_then t ts) s f agree = (
      sees i q h g on current sh n t s.0 (found_first (IsReadAt scene x find) n (term_found scene around x V n t) _ f) (agree_left (λ l. term_depends (known_in scene).bindings l t) (λ l. terms_depend (known_in scene).bindings l ts) (path i) (path q) agree),
      sees_all i q h g on current sh (n + term_accesses t) ts s.1 (found_then (IsReadAt scene x find) n (n + term_accesses t) (term_found scene around x V n t) _ (ap (λ m. n + m) (sym (term_long scene around x V n t))) f)
          (agree_right (λ l. term_depends (known_in scene).bindings l t) (λ l. terms_depend (known_in scene).bindings l ts) (path i) (path q) agree),
    )

  -- where a read is done the guard holds at a path that agrees where it depends
  led_from : (i n : ℕ) → i < paths_counted around → (place : Place) (k : Kind) (memory : ℕ) (form : TermForm) → done_of x (Some (read_found scene around x V n place k memory form)) i ≡ true
      → (q : ℕ) × ((q < paths_counted around) × ((is_on_at x around q ≡ true) × CopiesAgree (counts form) (path i) (path q)))
  led_from i n h place k memory form led =
      let d = led_done x (standing_at scene around memory place form false) ((standing_at scene around memory place form false).leader i) (paths_counted around) led in
      (d.path, (d.within, (d.on, leaders_agree around.levels.now ground.spread (counts form) i d.path (inside i h) (inside d.path d.within) (sym d.leads))))

  mutual
    pub fair : (i : ℕ) → i < paths_counted around → (current : List (Option ℕ)) → ShowsVariables scene around x current (V i)
        → (n : ℕ) (t : Term) → Sound t → AreReadAt scene x find n (term_found scene around x V n t) → Fair scene (lane_of around i) current (view i) n t
    fair i h current sh n (term place k (number negative z)) s f = tt
    fair i h current sh n (term place k (truth_value b)) s f = tt
    fair i h current sh n (term place k (named r)) s f = tt
    fair i h current sh n (term place k (accessed r ts)) s f =
        let here : IsReadAt scene x find (n + terms_accesses ts) (read_found scene around x V n place (kind_or_first k) (memory_of (known_in scene) r) (accessed r ts)) =
        found_here (IsReadAt scene x find) n (n + terms_accesses ts) (terms_found scene around x V n ts) _ (ap (λ m. n + m) (sym (terms_long scene around x V n ts))) f in
        let part : AreReadAt scene x find n (terms_found scene around x V n ts) = found_first (IsReadAt scene x find) n (terms_found scene around x V n ts) _ f in (
          (fair_all i h current sh n ts s.0.0 part, read_sited i n (n + terms_accesses ts) h place (kind_or_first k) (memory_of (known_in scene) r) (accessed r ts) here.0),
          λ done.
              let led : done_of x (Some (read_found scene around x V n place (kind_or_first k) (memory_of (known_in scene) r) (accessed r ts))) i ≡ true = sym (ap (λ o. done_of x o i) here.0) ∙ done in
              let (q, (g, (on, agree))) = led_from i n h place (kind_or_first k) (memory_of (known_in scene) r) (accessed r ts) led in
              ((sees_all i q h g on current sh n ts s.0.0 part (of_indices r ts (path i) (path q) agree), way_seen i q h g on current sh r s.0.1 (of_name r ts (path i) (path q) agree)), read_done i n (n + terms_accesses ts) h place (kind_or_first k) (memory_of (known_in scene) r) (accessed r ts) s s.1.0 tt (λ l. refl) here led),
        )
    fair i h current sh n (term place k (in_bank r bank at row)) s f =
        let here : IsReadAt scene x find (n + term_accesses row) (read_found scene around x V n place (kind_or_first k) (memory_of (known_in scene) r) (in_bank r bank at row)) =
        found_here (IsReadAt scene x find) n (n + term_accesses row) (term_found scene around x V n row) _ (ap (λ m. n + m) (sym (term_long scene around x V n row))) f in
        let part : AreReadAt scene x find n (term_found scene around x V n row) = found_first (IsReadAt scene x find) n (term_found scene around x V n row) _ f in (
          (fair i h current sh n row s.0 part, read_sited i n (n + term_accesses row) h place (kind_or_first k) (memory_of (known_in scene) r) (in_bank r bank at row) here.0),
          λ done.
              let led : done_of x (Some (read_found scene around x V n place (kind_or_first k) (memory_of (known_in scene) r) (in_bank r bank at row))) i ≡ true = sym (ap (λ o. done_of x o i) here.0) ∙ done in
              let (q, (g, (on, agree))) = led_from i n h place (kind_or_first k) (memory_of (known_in scene) r) (in_bank r bank at row) led in (
                sees i q h g on current sh n row s.0 part (of_row r row (path i) (path q) agree),
                read_done i n (n + term_accesses row) h place (kind_or_first k) (memory_of (known_in scene) r) (in_bank r bank at row) s s.1.0 s.1.1.0 (row_depends (known_in scene) r row s.1.1.1.1) here led,
              ),
        )
    fair i h current sh n (term place k (applied o a b)) s f = (
      fair i h current sh n a s.0.0 (found_first (IsReadAt scene x find) n (term_found scene around x V n a) _ f),
      fair i h current sh (n + term_accesses a) b s.0.1 (found_then (IsReadAt scene x find) n (n + term_accesses a) (term_found scene around x V n a) _ (ap (λ m. n + m) (sym (term_long scene around x V n a))) f),
    )
    fair i h current sh n (term place k (converted inner to)) s f = fair i h current sh n inner s.0 f

    pub fair_all : (i : ℕ) → i < paths_counted around → (current : List (Option ℕ)) → ShowsVariables scene around x current (V i)
        → (n : ℕ) (ts : Terms) → AllSound ts → AreReadAt scene x find n (terms_found scene around x V n ts) → FairAll scene (lane_of around i) current (view i) n ts
    fair_all i h current sh n no_terms s f = tt
    fair_all i h current sh n (term_then t ts) s f = (
      fair i h current sh n t s.0 (found_first (IsReadAt scene x find) n (term_found scene around x V n t) _ f),
      fair_all i h current sh (n + term_accesses t) ts s.1 (found_then (IsReadAt scene x find) n (n + term_accesses t) (term_found scene around x V n t) _ (ap (λ m. n + m) (sym (term_long scene around x V n t))) f),
    )

  -- so an expression is followed at each path
  pub followed : (i : ℕ) → i < paths_counted around → (n : ℕ) (t : Term) → Sound t → AreReadAt scene x find n (term_found scene around x V n t) → IsFollowed scene around x reads (V i) i n t
  followed i h n t s f = record {
    fair = λ current sh. fair i h current sh n t s f;
    sees = λ on current sh. sees i i h h on current sh n t s f (λ l small e. refl);
  }
