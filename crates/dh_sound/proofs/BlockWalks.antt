-- The commands of a Straight phase at one path, one behind the other along the trace of the program. What stands
-- between two of them is none of the block's, since the numbers of a command's accesses are those that it counts.
use Rattle.std.proofs.Common.{◌≡◌, ℕ, ◌+◌, ◌<◌, ◌≤◌, ◌||◌, Bool, true, false, List, [], ◌∷◌, ◌++◌, refl, sym, ◌∙◌, ap, subst, arith}
use Rattle.std.proofs.lemmas.List.{append_assoc}
use Rattle.dh_tree.specs.PlainTrees.{Program, Term, Action, action, ActionForm, lets, lets_memory, views, assigns, stores, reduces, calls, blocks, decides, repeats, counts}
use Rattle.dh_meaning.specs.AccessNumbers.{term_accesses, accesses_of}
use Rattle.dh_meaning.specs.Core.{CoreTerm, truth_literal, no_commands}
use Rattle.dh_meaning.specs.CoreOf.{Known, known_of, core_term, core_commands, test_of, action_form_of, core_test_of, core_test}
use Rattle.dh_meaning.specs.Effects.{Begun, Variables, Event, term_events}
use Rattle.dh_meaning.specs.OnePhase.{in_one_phase, is_between, makes, any_makes, form_tests, tests_make, test_makes}
use Rattle.dh_meaning.specs.Paths.{Path}
use Rattle.dh_meaning.specs.Phases.{Located}
use Rattle.dh_meaning.specs.Sites.{Around, in_arm}
use Rattle.dh_meets.specs.SourceEvents.{SourceEvent, site_of, events, command_events, other_events}
use Rattle.dh_meets.specs.SourceEvents as source
use Rattle.dh_sound.specs.Straight.{IsNamedTerm, IsNamedAction, IsNamedForm}
use Rattle.dh_sound.proofs.KnownReads.{count_joined}
use Rattle.dh_sound.proofs.Makes.{Within, within_is, is_within_so, two_within, makes_within, action_counted}
use Rattle.dh_sound.proofs.TermWalks.{walk_none, walk_then, walk_term, term_counted}
use Rattle.dh_sound.proofs.StraightWalks.{Steps, starts_so, Along, along_first, along_then, walk_passed, idle_passed, Agrees, first_agrees, then_agrees, Touches, Done, done_nothing, done_then, walk_action}
use Rattle.dh_sound.proofs.Trails.{follows_plain}
use Rattle.dh_sound.specs.AssignsInside.{AllAssignInside, AssignsInside}
use Rattle.dh_sound.specs.Trails.{count, StandsBehind, of_located, Follows}
use Rattle.dh_sound.specs.ViewTrails.{FollowsViews, StandsViews}

pub located_counted : (r : Around) (before : List SourceEvent) (c : Located) → StandsBehind r before c → count (of_located c) ≡ accesses_of c.command
located_counted r before c s = action_counted c.around c.command s.names

-- what the commands make stands among their part
pub follows_within : (r : Around) (before part : List SourceEvent) (cs : List Located) → Follows r before part cs → (k : ℕ) → any_makes k cs ≡ true → Within k (count before) (count part)
follows_within r before part [] f k e = cc
follows_within r before part (c ∷ cs) (gap, (rest, (is, (stands, more)))) k e =
    let w = two_within k (count (before ++ gap)) (count (of_located c)) (count rest) (makes k c.first c.command) (any_makes k cs) e
    (λ t. subst (λ (n : ℕ). Within k n (count (of_located c))) stands.first (subst (λ (l : ℕ). Within k c.first l) (sym (located_counted r (before ++ gap) c stands)) (makes_within k c.first c.command t)))
    (λ t. subst (λ (n : ℕ). Within k n (count rest)) (count_joined (before ++ gap) (of_located c)) (follows_within r ((before ++ gap) ++ of_located c) rest cs more k t)) in
    let l = w.0 in let u = w.1 in
    let g = count_joined before gap in let d = ap count is ∙ count_joined gap (of_located c ++ rest) in let x = count_joined (of_located c) rest in
    (omega (arith, l, g), omega (arith, u, g, d, x))

module _ (p : Program) (b : Begun) (path : Path) (in_block : ℕ → Bool)
    (share : (j k : ℕ) → in_one_phase p j k ≡ true → in_block k ≡ true → in_block j ≡ true) (v0 : Variables) (touched : ℕ → Bool) where
  abbrev known : Known
  known = known_of p

  abbrev Agree : (n c : ℕ) → (ℕ → Bool) → Type 0
  Agree n c f = Agrees p b path in_block share v0 touched n c f

  later_agrees : (n g c : ℕ) (f : ℕ → Bool) → Agree n (g + c) f → Agree (n + g) c f
  later_agrees n g c f a k w = a k (let l = w.0 in let u = w.1 in (omega (arith, l), omega (arith, u)))

  -- nothing of a gap is of the block
  gap_agrees : (n g c : ℕ) (f : ℕ → Bool) → Agree n (g + c) f → ((k : ℕ) → f k ≡ true → Within k (n + g) c) → (k : ℕ) → n ≤ k → k < n + g → in_block k ≡ false
  gap_agrees n g c f a within k l u = a k (l, omega (arith, u)) ∙ by (f k) (within k)
    where
      too_low : Within k (n + g) c → ⊥
      too_low w = let x = w.0 in omega (arith, u, x)

      by : (t : Bool) → (t ≡ true → Within k (n + g) c) → t ≡ false
      by true h = elim (too_low (h refl)) [ ]
      by false h = refl

  -- one command, and those behind it
  joined_walk : (depth : ℕ) (r : Around) (before gap rest : List SourceEvent) (v : Variables) (es : List Event) (n : ℕ) (c : Located) (cs : List Located) → AssignsInside known depth c.command
      → StandsViews p r (before ++ gap) c → FollowsViews p r ((before ++ gap) ++ of_located c) rest cs
      → Agree n (count (gap ++ (of_located c ++ rest))) (λ k. makes k c.first c.command || any_makes k cs)
      → Touches p b path in_block share v0 touched (core_commands known (c ∷ cs)) → Along p b path in_block share v0 touched r before (gap ++ (of_located c ++ rest)) v es n
      → ((v2 : Variables) (es2 : List Event) (n2 : ℕ) → Agree n2 (count rest) (λ k. any_makes k cs) → Touches p b path in_block share v0 touched (core_commands known cs)
      → Along p b path in_block share v0 touched r ((before ++ gap) ++ of_located c) rest v2 es2 n2 → Done p b path in_block share v0 touched r ((before ++ gap) ++ of_located c) rest v2 es2 (core_commands known cs) no_commands)
      → Done p b path in_block share v0 touched r before (gap ++ (of_located c ++ rest)) v es (core_commands known (c ∷ cs)) no_commands
  joined_walk depth r before gap rest v es n c cs here_inside standing more a t s walk_rest =
      let stands = standing.stands in
      let ce = of_located c in
      let bg = before ++ gap in
      let own = located_counted r bg c stands in
      let split = count_joined gap (ce ++ rest) ∙ ap (λ l. count gap + l) (count_joined ce rest) in
      let here = subst (λ (l : ℕ). Agree n l (λ k. makes k c.first c.command || any_makes k cs)) split a in
      let first_is : n + count gap ≡ c.first = let x = count_joined before gap in let y = stands.first in let z = s.number in omega (arith, x, y, z) in
      let inside = λ (k : ℕ) (e : makes k c.first c.command ≡ true). subst (λ (l : ℕ). Within k c.first l) (sym own) (makes_within k c.first c.command e) in
      let behind = λ (k : ℕ) (e : any_makes k cs ≡ true). subst (λ (m : ℕ). Within k m (count rest)) (count_joined bg ce ∙ ap (λ m. m + count ce) (sym stands.first)) (follows_within r (bg ++ ce) rest cs (follows_plain p r (bg ++ ce) rest cs more) k e) in
      let both = λ (k : ℕ) (e : (makes k c.first c.command || any_makes k cs) ≡ true). two_within k c.first (count ce) (count rest) (makes k c.first c.command) (any_makes k cs) e (inside k) (behind k) in
      let there = subst (λ (m : ℕ). Agree m (count ce + count rest) (λ k. makes k c.first c.command || any_makes k cs)) first_is (later_agrees n (count gap) (count ce + count rest) (λ k. makes k c.first c.command || any_makes k cs) here) in
      let gone = walk_passed p b path in_block share v0 touched r before gap v es n
      (idle_passed p b path in_block share v0 touched r n gap (gap_agrees n (count gap) (count ce + count rest) (λ k. makes k c.first c.command || any_makes k cs) here (λ k e. subst (λ (m : ℕ). Within k m (count ce + count rest)) (sym first_is) (both k e))))
      (along_first p b path in_block share v0 touched r before gap (ce ++ rest) v es n s) in
      let along = along_then p b path in_block share v0 touched r before gap (ce ++ rest) v v es [] n c.first s (sym first_is) gone in
      let done = subst (λ (q : Around). Along p b path in_block share v0 touched r bg (events q c.command) v (es ++ []) c.first → Done p b path in_block share v0 touched r bg (events q c.command) v (es ++ []) (core_commands known (c ∷ cs)) (core_commands known cs)) (sym stands.around)
      (walk_action p b path in_block share v0 touched r stands.number standing.depth standing.first depth bg v (es ++ []) c.first c.command (core_commands known cs) standing.behind here_inside stands.numbered stands.names
      (subst (λ (l : ℕ). Agree c.first l (λ k. makes k c.first c.command)) own (first_agrees p b path in_block share v0 touched c.first (count ce) (count rest) (λ k. makes k c.first c.command) (λ k. any_makes k cs) there behind))
      stands.arms stands.fresh standing.seen t)
      (along_first p b path in_block share v0 touched r bg ce rest v (es ++ []) c.first along) in
      done_then p b path in_block share v0 touched r before gap (ce ++ rest) v es (core_commands known (c ∷ cs)) (core_commands known (c ∷ cs)) no_commands
      (record { after = v; made = []; left_is = refl; made_is = refl; steps = gone; touches = t })
      (done_then p b path in_block share v0 touched r bg ce rest v (es ++ []) (core_commands known (c ∷ cs)) (core_commands known cs) no_commands done
      (walk_rest done.after ((es ++ []) ++ done.made) (c.first + count ce)
      (then_agrees p b path in_block share v0 touched c.first (count ce) (count rest) (λ k. makes k c.first c.command) (λ k. any_makes k cs) there inside)
      done.touches
      (along_then p b path in_block share v0 touched r bg ce rest v done.after (es ++ []) done.made c.first (c.first + count ce) along refl done.steps)))

  -- the commands of a phase
  pub walk_located : (depth : ℕ) (r : Around) (before part : List SourceEvent) (v : Variables) (es : List Event) (n : ℕ) (cs : List Located) → AllAssignInside known depth cs → FollowsViews p r before part cs → Agree n (count part) (λ k. any_makes k cs)
      → Touches p b path in_block share v0 touched (core_commands known cs) → Along p b path in_block share v0 touched r before part v es n
      → Done p b path in_block share v0 touched r before part v es (core_commands known cs) no_commands
  walk_located depth r before part v es n [] all f a t s =
      done_nothing p b path in_block share v0 touched r before part v es no_commands (walk_passed p b path in_block share v0 touched r before part v es n (idle_passed p b path in_block share v0 touched r n part (λ k l u. a k (l, u))) s) t
  walk_located depth r before part v es n (c ∷ cs) all (gap, (rest, (is, (stands, more)))) a t s =
      subst (λ (l : List SourceEvent). Done p b path in_block share v0 touched r before l v es (core_commands known (c ∷ cs)) no_commands) (sym is)
      (joined_walk depth r before gap rest v es n c cs all.0 stands more
      (subst (λ (l : List SourceEvent). Agree n (count l) (λ k. makes k c.first c.command || any_makes k cs)) is a) t
      (subst (λ (l : List SourceEvent). Along p b path in_block share v0 touched r before l v es n) is s)
      (λ v2 es2 n2. walk_located depth r ((before ++ gap) ++ of_located c) rest v2 es2 n2 cs all.1 more))

  -- Tests.

  -- a test was evaluated along a part of the trace, and nothing else was done
  pub record Tested (r : Around) (before : List SourceEvent) (v : Variables) (es : List Event) (test : CoreTerm) : Type 0 where
    pub front : List SourceEvent
    pub steps : Steps p b path in_block share v0 touched r before front v v es (term_events b v path test)

  test_walk : (r : Around) (before gap rest : List SourceEvent) (v : Variables) (es : List Event) (n first id : ℕ) (t : Term) → IsNamedTerm t → first ≡ count (before ++ gap)
      → Agree n (count (gap ++ (source.source_term_events (site_of r id) t ++ rest))) (λ k. is_between k first (term_accesses t))
      → Along p b path in_block share v0 touched r before (gap ++ (source.source_term_events (site_of r id) t ++ rest)) v es n
      → Tested r before v es (core_term known first t)
  test_walk r before gap rest v es n first id t names first_is a s =
      let te = source.source_term_events (site_of r id) t in
      let own = term_counted (site_of r id) t in
      let split = count_joined gap (te ++ rest) ∙ ap (λ l. count gap + l) (count_joined te rest) in
      let here = subst (λ (l : ℕ). Agree n l (λ k. is_between k first (term_accesses t))) split a in
      let starts : n + count gap ≡ first = let x = count_joined before gap in let z = s.number in omega (arith, x, first_is, z) in
      let within : (k : ℕ) → is_between k first (term_accesses t) ≡ true → Within k (n + count gap) (count te + count rest) =
      (λ k e. let w = within_is k first (term_accesses t) e in let l = w.0 in let u = w.1 in (omega (arith, l, starts), omega (arith, u, starts, own))) in
      let gone = walk_passed p b path in_block share v0 touched r before gap v es n
      (idle_passed p b path in_block share v0 touched r n gap (gap_agrees n (count gap) (count te + count rest) (λ k. is_between k first (term_accesses t)) here within))
      (along_first p b path in_block share v0 touched r before gap (te ++ rest) v es n s) in
      let along = along_first p b path in_block share v0 touched r (before ++ gap) te rest v (es ++ []) first (along_then p b path in_block share v0 touched r before gap (te ++ rest) v v es [] n first s (sym starts) gone) in
      let all_inside = λ (k : ℕ) (l : first ≤ k) (u : k < first + count te). here k (omega (arith, l, starts), omega (arith, u, starts)) ∙ is_within_so k first (term_accesses t) (l, omega (arith, u, own)) in
      record {
        front = gap ++ te;
        steps = walk_then p b known path in_block share v0 touched r before gap te v v v es [] (term_events b v path (core_term known first t)) gone
            (walk_term p b known path in_block share v0 touched r id (before ++ gap) v (es ++ []) first t names (starts_so p b path in_block share v0 touched r (before ++ gap) te v (es ++ []) first all_inside along));
      }

  no_test : (r : Around) (before part : List SourceEvent) (v : Variables) (es : List Event) (n : ℕ) → Along p b path in_block share v0 touched r before part v es n → Tested r before v es (truth_literal false)
  no_test r before part v es n s = record { front = []; steps = walk_none p b known path in_block share v0 touched r before v es s.near s.knows }

  longer_test : (r : Around) (before gap behind rest : List SourceEvent) (v : Variables) (es : List Event) (n first id : ℕ) (t : Term) → IsNamedTerm t → first ≡ count (before ++ gap)
      → Agree n (count (gap ++ ((source.source_term_events (site_of r id) t ++ behind) ++ rest))) (λ k. is_between k first (term_accesses t))
      → Along p b path in_block share v0 touched r before (gap ++ ((source.source_term_events (site_of r id) t ++ behind) ++ rest)) v es n
      → Tested r before v es (core_term known first t)
  longer_test r before gap behind rest v es n first id t names first_is a s =
      let e = ap (λ l. gap ++ l) (append_assoc (source.source_term_events (site_of r id) t) behind rest) in
      test_walk r before gap (behind ++ rest) v es n first id t names first_is
      (subst (λ (l : List SourceEvent). Agree n (count l) (λ k. is_between k first (term_accesses t))) e a)
      (subst (λ (l : List SourceEvent). Along p b path in_block share v0 touched r before l v es n) e s)

  test_of_form : (r : Around) (before gap rest : List SourceEvent) (v : Variables) (es : List Event) (n first id : ℕ) (f : ActionForm) → IsNamedForm f → first ≡ count (before ++ gap)
      → Agree n (count (gap ++ (command_events r (site_of r id) f ++ rest))) (λ k. form_tests k first f)
      → Along p b path in_block share v0 touched r before (gap ++ (command_events r (site_of r id) f ++ rest)) v es n
      → Tested r before v es (core_test_of known first (test_of f))
  test_of_form r before gap rest v es n first id (decides test chosen other) names first_is a s =
      longer_test r before gap (events (in_arm r id true) chosen ++ other_events (in_arm r id false) other) rest v es n first id test names.0 first_is a s
  test_of_form r before gap rest v es n first id (repeats test body) names first_is a s = longer_test r before gap (events r body) rest v es n first id test names.0 first_is a s
  test_of_form r before gap rest v es n first id (lets name declared value) names first_is a s = no_test r before _ v es n s
  test_of_form r before gap rest v es n first id (lets_memory name shape shape_places value) names first_is a s = no_test r before _ v es n s
  test_of_form r before gap rest v es n first id (views name parent form) names first_is a s = no_test r before _ v es n s
  test_of_form r before gap rest v es n first id (assigns target value) names first_is a s = no_test r before _ v es n s
  test_of_form r before gap rest v es n first id (stores target value) names first_is a s = no_test r before _ v es n s
  test_of_form r before gap rest v es n first id (reduces target o value) names first_is a s = no_test r before _ v es n s
  test_of_form r before gap rest v es n first id (calls function arguments) names first_is a s = no_test r before _ v es n s
  test_of_form r before gap rest v es n first id (blocks body) names first_is a s = no_test r before _ v es n s
  test_of_form r before gap rest v es n first id (counts iterator declared low high factor body combine combine_place) names first_is a s = no_test r before _ v es n s

  test_of_action : (r : Around) (before gap rest : List SourceEvent) (v : Variables) (es : List Event) (n first : ℕ) (x : Action) → IsNamedAction x → first ≡ count (before ++ gap)
      → Agree n (count (gap ++ (events r x ++ rest))) (λ k. tests_make k first x)
      → Along p b path in_block share v0 touched r before (gap ++ (events r x ++ rest)) v es n
      → Tested r before v es (core_test_of known first (test_of (action_form_of x)))
  test_of_action r before gap rest v es n first (action id place f) names first_is a s = test_of_form r before gap rest v es n first id f names first_is a s

  -- the test of a command that follows
  pub walk_test : (before part : List SourceEvent) (v : Variables) (es : List Event) (n : ℕ) (c : Located) → Follows c.around before part (c ∷ []) → Agree n (count part) (λ k. test_makes k c)
      → Along p b path in_block share v0 touched c.around before part v es n
      → Tested c.around before v es (core_test known c)
  walk_test before part v es n c (gap, (rest, (is, (stands, more)))) a s =
      test_of_action c.around before gap rest v es n c.first c.command stands.names stands.first
      (subst (λ (l : List SourceEvent). Agree n (count l) (λ k. test_makes k c)) is a)
      (subst (λ (l : List SourceEvent). Along p b path in_block share v0 touched c.around before l v es n) is s)
