-- A test along the trace of its program: its reads that share earlier ones mean the same.
use Rattle.std.proofs.Common.{◌≡◌, ℕ, ◌+◌, ◌<◌, ◌≤◌, ◌&&◌, Bool, true, false, List, ◌++◌, Option, Some, refl, sym, ◌∙◌, ap, subst, arith}
use Rattle.std.specs.Prelude.{nat_le, nat_lt}
use Rattle.std.proofs.lemmas.Bool.Decides.{nat_tests}
use Rattle.dh_tree.specs.PlainTrees.{Program, Term, Action, action, lets, lets_memory, views, assigns, stores, reduces, calls, blocks, decides, repeats, counts}
use Rattle.dh_tree.specs.Seen.{program_seen}
use Rattle.dh_meaning.specs.AccessNumbers.{term_accesses}
use Rattle.dh_meaning.specs.CoreOf.{action_form_of, test_of}
use Rattle.dh_meaning.specs.Effects.{Variables}
use Rattle.dh_meaning.specs.OnePhase.{is_between, test_makes, tests_make}
use Rattle.dh_meaning.specs.Phases.{Located}
use Rattle.dh_meaning.specs.Sites as sites
use Rattle.dh_meets.specs.SourceEvents.{SourceEvent, events, site_of, source_term_events, trace}
use Rattle.dh_sound.specs.Straight.{IsNamedAction, IsNamedTerm}
use Rattle.dh_sound.specs.Trails.{StandsBehind, count, of_located}
use Rattle.dh_expressions.specs.declared.scenes.Around.{Around}
use Rattle.dh_expressions.specs.declared.scenes.Scene.{Scene}
use Rattle.dh_expressions.specs.Drafted.{BlockStep}
use Rattle.dh_commands.specs.LanesRun.{paths_counted}
use Rattle.dh_blocks.specs.FoundAccesses.{Found, term_found}
use Rattle.dh_blocks.specs.BlockGround.{AreFoundAt, AreShared}
use Rattle.dh_blocks.specs.TestMade.{IsTestTraced}
use Rattle.dh_blocks.proofs.ReadsKnown.{knows_none}
use Rattle.dh_blocks.proofs.SharesFound.{IsCut, first_cut, walk_term}

-- a command with a test begins with it
pub record BeginsWith (r : sites.Around) (a : Action) (t : Term) : Type 0 where
  pub id : ℕ
  pub rest : List SourceEvent
  pub is : events r a ≡ source_term_events (site_of r id) t ++ rest
  pub names : IsNamedAction a → IsNamedTerm t
  pub makes : (k n : ℕ) → tests_make k n a ≡ is_between k n (term_accesses t)

the_same : (s t : Term) → Some s ≡ Some t → s ≡ t
the_same s t e = cc

begins_with : (r : sites.Around) (a : Action) (t : Term) → test_of (action_form_of a) ≡ Some t → BeginsWith r a t
begins_with r (action id place (decides u chosen other)) t e = subst (λ (s : Term). BeginsWith r (action id place (decides u chosen other)) s) (the_same u t e) own
  where
    own : BeginsWith r (action id place (decides u chosen other)) u
    own = record { id = id; rest = _; is = refl; names = λ n. n.0; makes = λ k n. refl }
begins_with r (action id place (repeats u body)) t e = subst (λ (s : Term). BeginsWith r (action id place (repeats u body)) s) (the_same u t e) own
  where
    own : BeginsWith r (action id place (repeats u body)) u
    own = record { id = id; rest = _; is = refl; names = λ n. n.0; makes = λ k n. refl }
begins_with r (action id place (lets x declared value)) t e = absurd (cc)
begins_with r (action id place (assigns x value)) t e = absurd (cc)
begins_with r (action id place (stores x value)) t e = absurd (cc)
begins_with r (action id place (reduces x o value)) t e = absurd (cc)
begins_with r (action id place (blocks body)) t e = absurd (cc)
begins_with r (action id place (lets_memory name shape shape_places value)) t e = absurd (cc)
begins_with r (action id place (views name parent form)) t e = absurd (cc)
begins_with r (action id place (calls function arguments)) t e = absurd (cc)
begins_with r (action id place (counts iterator declared low high factor body combine combine_place)) t e = absurd (cc)

within_true : (k n c : ℕ) → n ≤ k → k < n + c → is_between k n c ≡ true
within_true k n c a b = grind (arith, nat_tests, a, b)

true_within : (k n c : ℕ) → is_between k n c ≡ true → n ≤ k
true_within k n c e = by (nat_le n k) refl e
  where
    by : (b : Bool) → nat_le n k ≡ b → (b && nat_lt k (n + c)) ≡ true → n ≤ k
    by true s g = grind (arith, nat_tests, s)
    by false s g = absurd (cc)

module _ (scene : Scene) (x : BlockStep) (find : ℕ → Option Found) (around : Around) (first : ℕ) (t : Term) (traced : IsTestTraced scene first t) where
  abbrev p : Program
  p = program_seen scene.program.now

  abbrev tested : Located
  tested = traced.tested

  abbrev gap : List SourceEvent
  gap = traced.follows.0

  abbrev rest : List SourceEvent
  rest = traced.follows.1.0

  split : trace p ≡ gap ++ (of_located tested ++ rest)
  split = traced.follows.1.1.0

  stands : StandsBehind tested.around gap tested
  stands = traced.follows.1.1.1.0

  abbrev in_block : ℕ → Bool
  in_block k = test_makes k tested

  b : BeginsWith tested.around tested.command t
  b = begins_with tested.around tested.command t traced.test_is

  cut : IsCut scene x find around.levels.now (paths_counted around) in_block traced.one_phase traced.shares gap (source_term_events (site_of tested.around b.id) t) first
  cut = first_cut scene x find around.levels.now (paths_counted around) in_block traced.one_phase traced.shares gap (source_term_events (site_of tested.around b.id) t) b.rest first
      (record { after = rest; cut = split ∙ ap (λ l. gap ++ (l ++ rest)) b.is; number = sym traced.first_is ∙ stands.first })

  never : (k : ℕ) → k < count gap → tested.first ≤ k → ⊥
  never k less low = let s = stands.first in omega (arith, less, low, s)

  pub test_shares : (V : ℕ → Variables) → AreFoundAt find first (term_found scene around x V first t) → AreShared scene x find first (term_found scene around x V first t)
  test_shares V f =
      (walk_term scene x find around.levels.now (paths_counted around) in_block traced.one_phase traced.shares around (record { levels_are = refl; long = refl }) tested.around b.id V
      gap first t (b.names stands.names) cut (λ k low high. b.makes k tested.first ∙ (ap (λ m. is_between k m (term_accesses t)) traced.first_is ∙ within_true k first (term_accesses t) low high)) f
      (knows_none scene x find around.levels.now (paths_counted around) in_block around tested.around gap V
      (λ k less makes. never k less (true_within k tested.first (term_accesses t) (sym (b.makes k tested.first) ∙ makes))))).0
