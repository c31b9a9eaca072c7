-- A view at one path: the operations of its offsets, and the variables that keep them, one after the other. Where the
-- guard holds the program does the same; where it does not neither tells anything.
use Rattle.std.proofs.Common.{◌≡◌, ℕ, suc, ◌+◌, ◌<◌, ◌≤◌, ◌^◌, Bool, true, false, List, [], ◌∷◌, ◌++◌, length, map, take, refl, ap, sym, ◌∙◌, subst, arith, ℤ}
use Rattle.std.proofs.lemmas.List.{append-nil, length-map}
use Rattle.dh_value.specs.declared.words.Word.{Word}
use Rattle.dh_value.specs.Words as words
use Rattle.dh_value.specs.Words.{word_of}
use Rattle.dh_tree.specs.PlainTrees as plain
use Rattle.dh_tree.specs.Seen.{terms}
use Rattle.dh_meaning.specs.AccessNumbers.{terms_accesses}
use Rattle.dh_meaning.specs.Core.{CoreTerms, no_terms, term_and}
use Rattle.dh_meaning.specs.CoreOf.{core_terms}
use Rattle.dh_meaning.specs.Effects.{Begun as Start, Effect, Variables, set_from, set_variable, value_of_term, values_of}
use Rattle.dh_meaning.specs.Paths.{Path}
use Rattle.dh_meaning.specs.Ways.{Hidden}
use Rattle.dh_code.specs.Slots.{held_at}
use Rattle.dh_expressions.specs.declared.drafts.Draft.{Draft}
use Rattle.dh_expressions.specs.declared.scenes.Lane.{Lane}
use Rattle.dh_expressions.specs.declared.scenes.Scene.{Scene}
use Rattle.dh_expressions.specs.Drafted.{BlockBegun, FitsStep, BlockStep, word_shown, tale}
use Rattle.dh_expressions.specs.Evaluated.{GivesAll, Knows, StepReads, begun_of, known_in, terms_told}
use Rattle.dh_expressions.specs.Shown.{held_shown}
use Rattle.dh_expressions.proofs.Pushing.{begun_later, extends_again, fits_before}
use Rattle.dh_commands.specs.declared.assignments.Values.{Values}
use Rattle.dh_commands.specs.declared.buildings.Building.{Building}
use Rattle.dh_commands.specs.LanesRun.{is_on_at, path_in, paths_counted, run_if}
use Rattle.dh_commands.specs.ShownVariables.{AreBoundAt, AreTargets, IsSetTarget, ShowsVariables, depth_in, seen_path}
use Rattle.dh_commands.specs.Keeping.{EvaluatesWords, HeldFrom, held_words, term_words}
use Rattle.dh_commands.specs.Followed.{FollowsKept, kept_run, view_at_step}
use Rattle.dh_commands.specs.Done.{StandsBeside}
use Rattle.dh_commands.specs.Setting.{IsVariableAmong, KeepsOne, SetsAt, SetsFrom}
use Rattle.dh_commands.specs.Undone.{Changes}
use Rattle.dh_commands.proofs.Assigned.{set_off, set_on}
use Rattle.dh_commands.proofs.ChangesBack.{changes_again, changes_none, changes_one}
use Rattle.dh_commands.proofs.PathsDone.{knows_all}
use Rattle.dh_commands.proofs.Tested.{quiet_stands, told_stands}

-- the whole numbers of words
numbers_are : (b : Start) (v : Variables) (path : Path) (ts : CoreTerms) → map (λ w. words.value_of w) (term_words b v path ts) ≡ values_of b v path ts
numbers_are b v path no_terms = refl
numbers_are b v path (term_and t ts) = ap (λ zs. words.value_of (value_of_term b v path t) ∷ zs) (numbers_are b v path ts)

-- values show these whole numbers, each as the variable holds it that keeps it
abbrev AreShown : Scene → BlockStep → (first : ℕ) → List ℕ → List ℤ → Type 0
AreShown scene x first [] zs = zs ≡ []
AreShown scene x first (v ∷ vs) zs =
    (z : ℤ) × ((more : List ℤ) × ((zs ≡ z ∷ more) × ((word_shown x v ≡ word_of (held_at scene.held.now first).kind z) × AreShown scene x (suc first) vs more)))

are_shown : (scene : Scene) (x : BlockStep) (first : ℕ) (os : List plain.Term) (ws : List Word) (vs : List ℕ) → map (λ i. word_shown x i) vs ≡ held_words scene first os ws → HeldFrom scene first os ws → length ws ≡ length os
    → AreShown scene x first vs (map (λ w. words.value_of w) ws)
are_shown scene x first [] [] [] is held long = refl
are_shown scene x first [] [] (v ∷ vs) is held long = absurd (cc)
are_shown scene x first [] (w ∷ ws) vs is held long = absurd (cc)
are_shown scene x first (t ∷ ts) [] vs is held long = absurd (cc)
are_shown scene x first (t ∷ ts) (w ∷ ws) [] is held long = absurd (cc)
are_shown scene x first (t ∷ ts) (w ∷ ws) (v ∷ vs) is held long =
    (words.value_of w, (map (λ u. words.value_of u) ws, (refl, (head (word_shown x v) (held_shown t (held_at scene.held.now first).kind w) _ _ is ∙ held.0, are_shown scene x (suc first) ts ws vs (tail (word_shown x v) (held_shown t (held_at scene.held.now first).kind w) _ _ is) held.1 (less (length ws) (length ts) long)))))
  where
    head : (a b : Word) (l m : List Word) → a ∷ l ≡ b ∷ m → a ≡ b
    head a b l m e = cc

    tail : (a b : Word) (l m : List Word) → a ∷ l ≡ b ∷ m → l ≡ m
    tail a b l m e = cc

    less : (a b : ℕ) → suc a ≡ suc b → a ≡ b
    less a b e = omega (arith, e)

-- the words of offsets at a path
abbrev words_here : Scene → Lane → BlockStep → Variables → (first : ℕ) → List plain.Term → List Word
words_here scene lane x variables first offsets = term_words (begun_of x) variables (path_in lane.around lane.number) (core_terms (known_in scene) first (terms offsets))

abbrev with_values : Building → Values → Building
with_values b values = record { draft = b.draft; accesses = b.accesses; values = values }

-- Variables that are set one after the other, and can be taken back.
changed_from : (scene : Scene) (lane : Lane) (May : ℕ → Type 0) (first : ℕ) (vs : List ℕ) (old new : Values) → lane.number < paths_counted lane.around → ((entity : ℕ) → first ≤ entity → entity < first + length vs → May entity)
    → SetsFrom scene lane old new first vs → Changes scene lane.around May old new
changed_from scene lane May first [] old new within may s = subst (λ (v : Values). Changes scene lane.around May old v) (sym s) (changes_none scene lane.around May old)
changed_from scene lane May first (v ∷ vs) old new within may (middle, (set, rest)) =
    changes_again scene lane.around May old middle new (changes_one scene lane.around May old middle first lane.number v (may first (omega arith) (omega arith)) within set)
    (changed_from scene lane May (suc first) vs middle new within (λ entity from below. may entity (omega (arith, from)) (omega (arith, below))) rest)

module _ (scene : Scene) (lane : Lane) (within : lane.number < paths_counted lane.around) (depth : ℕ) (x : BlockStep) (reads : StepReads) where
  abbrev here : Path
  here = take depth (path_in lane.around lane.number)

  -- one variable is set to what its value shows
  set_shown : (first v : ℕ) (z : ℤ) (b : Building) (new : Values) (e : Effect) → SetsAt scene lane b.values new first v → IsSetTarget scene lane.around first → depth ≡ depth_in scene first
      → word_shown x v ≡ word_of (held_at scene.held.now first).kind z
      → StandsBeside scene lane.around x reads b e → StandsBeside scene lane.around x reads (with_values b new) (record { variables = set_variable e.variables first here z; events = e.events })
  set_shown first v z b new e s target bound is stands = record {
    knows = stands.knows;
    shows = subst (λ (p : Path). ShowsVariables scene lane.around x new.current.items (set_variable e.variables first p z)) place h.shows;
    tells = stands.tells;
    room = h.room;
    ready = h.ready;
  }
    where
      place : seen_path scene lane.around first lane.number ≡ here
      place = ap (λ (d : ℕ). take d (path_in lane.around lane.number)) (sym bound)

      h : StandsBeside scene lane.around x reads (with_values b new) (record { variables = set_variable e.variables first (seen_path scene lane.around first lane.number) z; events = e.events ++ [] })
      h = set_on scene lane first v b (with_values b new) s within target x reads e stands stands.knows z [] is (sym (append-nil (tale x b.draft)))

  sets_on : (first : ℕ) (vs : List ℕ) (b : Building) (new : Values) (e : Effect) (zs : List ℤ) → SetsFrom scene lane b.values new first vs → AreTargets scene lane.around first (length vs)
      → AreBoundAt scene depth first (length vs) → AreShown scene x first vs zs → StandsBeside scene lane.around x reads b e
      → StandsBeside scene lane.around x reads (with_values b new) (record { variables = set_from e.variables first here zs; events = e.events })
  sets_on first [] b new e zs s targets bound are stands =
      subst (λ (l : List ℤ). StandsBeside scene lane.around x reads (with_values b new) (record { variables = set_from e.variables first here l; events = e.events })) (sym are)
      (subst (λ (v : Values). StandsBeside scene lane.around x reads (with_values b v) (record { variables = e.variables; events = e.events })) (sym s) stands)
  sets_on first (v ∷ vs) b new e zs (middle, (set, rest)) targets bound (z, (more, (split, (is, are)))) stands =
      subst (λ (l : List ℤ). StandsBeside scene lane.around x reads (with_values b new) (record { variables = set_from e.variables first here l; events = e.events })) (sym split)
      (sets_on (suc first) vs (with_values b middle) new (record { variables = set_variable e.variables first here z; events = e.events }) more rest targets.1 bound.1 are
      (set_shown first v z b middle e set targets.0 bound.0 is stands))

  sets_off : is_on_at x lane.around lane.number ≡ false → (first : ℕ) (vs : List ℕ) (b : Building) (new : Values) (e : Effect) → SetsFrom scene lane b.values new first vs → AreTargets scene lane.around first (length vs)
      → StandsBeside scene lane.around x reads b e → StandsBeside scene lane.around x reads (with_values b new) e
  sets_off off first [] b new e s targets stands = subst (λ (v : Values). StandsBeside scene lane.around x reads (with_values b v) e) (sym s) stands
  sets_off off first (v ∷ vs) b new e (middle, (set, rest)) targets stands =
      sets_off off (suc first) vs (with_values b middle) new e rest targets.1 (set_off scene lane first v b (with_values b middle) set within targets.0 x reads e stands stands.knows off refl)

pub kept_one : (scene : Scene) (lane : Lane) (old new : Building) (d : Draft) (first next : ℕ) (h : Hidden) (offsets : List plain.Term) (values held : List ℕ)
    → EvaluatesWords scene lane old.values.current.items old.draft d old.accesses new.accesses first offsets values next
    → GivesAll d new.draft held (λ x. held_words scene h.entity offsets (map (λ i. word_shown x i) values)) → length held ≡ length values → SetsFrom scene lane old.values new.values h.entity held
    → KeepsOne scene lane old new first next h offsets
kept_one scene lane old new d first next h offsets values held e g as_long s = record {
  next_is = e.next_is;
  so = λ few within. record {
    extends = extends_again old.draft d new.draft (e.so few).extends g.extends;
    changes = λ ready.
        changed_from scene lane (λ i. IsVariableAmong h.entity (length offsets) i) h.entity held old.values new.values within (λ i from below. (from, subst (λ (n : ℕ). i < h.entity + n) long below)) s;
    so = λ x reads f fits begun p stands. by few within x reads f fits begun p stands (is_on_at x lane.around lane.number) refl;
  };
}
  where
    long : length held ≡ length offsets
    long = as_long ∙ e.long

    by : first + terms_accesses (terms offsets) < 2 ^ 32 → lane.number < paths_counted lane.around → (x : BlockStep) (reads : StepReads) (f : Effect) → FitsStep x new.draft → BlockBegun x old.draft
        → FollowsKept scene lane.around h first offsets lane.number x reads f.variables → StandsBeside scene lane.around x reads old f
        → (on : Bool) → is_on_at x lane.around lane.number ≡ on → StandsBeside scene lane.around x reads new (run_if on (kept_run scene x h first offsets) (path_in lane.around lane.number) f)
    by few within x reads f fits begun p stands = cases
      where
        fits_d : FitsStep x d
        fits_d = fits_before d new.draft x g.extends fits

        begun_d : BlockBegun x d
        begun_d = begun_later old.draft d x (e.so few).extends begun

        knows : (variables : Variables) → Knows (view_at_step x reads variables) new.accesses
        knows = knows_all x reads new.accesses f.variables ((e.so few).knows (view_at_step x reads f.variables) fits_d begun (stands.knows f.variables) (p.values.fair old.values.current.items stands.shows))

        targets : AreTargets scene lane.around h.entity (length held)
        targets = subst (λ (n : ℕ). AreTargets scene lane.around h.entity n) (sym long) p.targets

        bound : AreBoundAt scene h.depth h.entity (length held)
        bound = subst (λ (n : ℕ). AreBoundAt scene h.depth h.entity n) (sym long) p.bound

        cases : (on : Bool) → is_on_at x lane.around lane.number ≡ on → StandsBeside scene lane.around x reads new (run_if on (kept_run scene x h first offsets) (path_in lane.around lane.number) f)
        cases true on =
            let are : map (λ i. word_shown x i) values ≡ words_here scene lane x f.variables first offsets =
            (e.so few).are (view_at_step x reads f.variables) fits_d begun (stands.knows f.variables) (p.values.fair old.values.current.items stands.shows) (p.values.sees on old.values.current.items stands.shows) in
            subst (λ zs. StandsBeside scene lane.around x reads new (record {
              variables = set_from f.variables h.entity (take h.depth (path_in lane.around lane.number)) zs;
              events = f.events ++ terms_told scene lane (view_at_step x reads f.variables) first (terms offsets);
            })) (numbers_are (begun_of x) f.variables (path_in lane.around lane.number) (core_terms (known_in scene) first (terms offsets)))
            (sets_on scene lane within h.depth x reads h.entity held (with_values new old.values) new.values (record { variables = f.variables; events = f.events ++ terms_told scene lane (view_at_step x reads f.variables) first (terms offsets) }) (map (λ w. words.value_of w) (words_here scene lane x f.variables first offsets)) s targets bound
            (are_shown scene x h.entity offsets (words_here scene lane x f.variables first offsets) held (g.are x fits begun_d ∙ ap (λ (us : List Word). held_words scene h.entity offsets us) are) (p.held on) (sym (ap (λ (us : List Word). length us) are) ∙ (length-map values (λ i. word_shown x i) ∙ e.long)))
            (told_stands scene lane.around x reads old (with_values new old.values) f (terms_told scene lane (view_at_step x reads f.variables) first (terms offsets)) refl knows
            (g.quiet x fits begun_d
            ∙ (e.so few).tells (view_at_step x reads f.variables) fits_d begun (stands.knows f.variables) (p.values.fair old.values.current.items stands.shows) (p.values.sees on old.values.current.items stands.shows) on) stands))
        cases false off =
            sets_off scene lane within h.depth x reads off h.entity held (with_values new old.values) new.values f s targets
            (quiet_stands scene lane.around x reads old (with_values new old.values) f refl knows (g.quiet x fits begun_d ∙ (e.so few).quiet (view_at_step x reads f.variables) fits_d begun off) stands)
