-- What stands behind the indices of an access through views: the values of the variables that keep offsets, cut by the
-- views on the way. They name the element that the program names there.
use Rattle.std.proofs.Common.{◌≡◌, ℕ, zero, suc, ◌+◌, ◌-◌, ◌<◌, ◌≤◌, List, [], ◌∷◌, ◌++◌, Some, None, refl, sym, ap, ◌∙◌, subst, arith, length, drop, take, map, get_or, append_assoc, ℤ}
use Rattle.std.specs.Prelude.{min, Option}
use Rattle.std.specs.List.{AllByRecursion}
use Rattle.std.proofs.Math.Seq.{drop-cons}
use Rattle.std.proofs.lemmas.List.{append-nil, get_or-map, length-map}
use denote.Ref.{Bor}
use Rattle.dh_value.specs.declared.words.Word.{Word}
use Rattle.dh_value.specs.Words as words
use Rattle.dh_value.specs.Words.{word_of}
use Rattle.dh_tree.specs.declared.trees.expressions.Ref.{Ref}
use Rattle.dh_tree.specs.declared.viewing.ViewMap.{ViewMap}
use Rattle.dh_tree.specs.ViewElements.{offsets_needed}
use Rattle.dh_tree.specs.PlainTrees.{TermForm, Terms, accessed}
use Rattle.dh_meaning.specs.Core.{CoreTerms, count_terms, no_terms, term_and}
use Rattle.dh_meaning.specs.CoreOf.{kept_terms, target_to, terms_both, way_of}
use Rattle.dh_meaning.specs.Effects.{Begun as Start, Variables, value_of_term, values_of}
use Rattle.dh_meaning.specs.Paths.{Path}
use Rattle.dh_meaning.specs.Ways.{Hidden, Way, step_of, WayStep as ViewStep}
use Rattle.dh_ways.specs.declared.ways.Hidden as ways
use Rattle.dh_ways.specs.Kept as ways_way
use Rattle.dh_ways.specs.Seen.{hidden_seen, way_seen}
use Rattle.dh_viewing.specs.declared.bank_sets.BankSet.{BankSet}
use Rattle.dh_code.proofs.Ranges.{drop_past}
use Rattle.dh_plan.specs.declared.operations.ReachStep.{ReachStep}
use Rattle.dh_plan.specs.WaysPassed.{AreOfSteps}
use Rattle.dh_expressions.specs.declared.drafts.Draft.{Draft}
use Rattle.dh_expressions.specs.declared.elements.Aim.{Aim}
use Rattle.dh_expressions.specs.declared.scenes.Lane.{Lane}
use Rattle.dh_expressions.specs.declared.scenes.Scene.{Scene}
use Rattle.dh_expressions.specs.declared.scenes.Through.{Through}
use Rattle.dh_expressions.specs.Drafted.{BlockBegun, Extends, FitsStep, Gives, BlockStep, word_shown, tale}
use Rattle.dh_expressions.specs.Evaluated.{AreViews, GivesAll, PassesWay, SeesHidden, SeesWayBy, ShowsHidden, ShowsSteps, ShowsWay, View, begun_of, hidden_register, hidden_shown, known_in, lane_path, numbers_shown, steps_told}
use Rattle.dh_expressions.specs.MadeTerms.{MadeHidden, MadePassing, MadeSteps, MadeWay}
use Rattle.dh_expressions.specs.MadeValues.{MadeShown}
use Rattle.dh_expressions.specs.Named.{banks_below, banks_reached, banks_seen, banks_told, first_view, number_of_parent}
use Rattle.dh_expressions.specs.Passing.{AddsView}
use Rattle.dh_expressions.specs.Reaching.{AimsAt, steps_shown}
use Rattle.dh_expressions.proofs.Pushing.{begun_later, extends_again, extends_self, fits_before}

-- Variables that keep offsets, one after the other.

pub gives_none : (d : Draft) (words : BlockStep → List Word) → ((x : BlockStep) → [] ≡ words x) → GivesAll d d [] words
gives_none d words none = record { extends = extends_self d; are = λ x f b. none x; quiet = λ x f b. refl }

pub gives_then : (d0 d1 d2 : Draft) (v : ℕ) (vs : List ℕ) (word : BlockStep → Word) (words : BlockStep → List Word) → Gives d0 d1 v word → GivesAll d1 d2 vs words → GivesAll d0 d2 (v ∷ vs) (λ x. word x ∷ words x)
gives_then d0 d1 d2 v vs word words g h = record {
  extends = extends_again d0 d1 d2 g.extends h.extends;
  are = λ x f b. ap (λ w. w ∷ map (λ n. word_shown x n) vs) (g.is x (fits_before d1 d2 x h.extends f) b) ∙ ap (λ ws. word x ∷ ws) (h.are x f (begun_later d0 d1 x g.extends b));
  quiet = λ x f b. h.quiet x f (begun_later d0 d1 x g.extends b) ∙ g.quiet x (fits_before d1 d2 x h.extends f) b;
}

module _ (scene : Scene) (lane : Lane) (current : List (Option ℕ)) where
  -- whatever those to come show and make, all do from the start
  pub record Offsets (d0 : Draft) (all : List ways.Hidden) (i : ℕ) (d : Draft) (values : List ℕ) : Type 0 where
    pub shows : (new : Draft) (more : List ℕ) → ShowsHidden scene lane current d new (map hidden_seen (drop i all)) more → ShowsHidden scene lane current d0 new (map hidden_seen all) (values ++ more)
    pub makes : (new : Draft) (more : List ℕ) → MadeHidden scene lane current (map hidden_seen (drop i all)) d new more → MadeHidden scene lane current (map hidden_seen all) d0 new (values ++ more)

  pub offsets_first : (d : Draft) (all : List ways.Hidden) (values : List ℕ) → values ≡ [] → Offsets d all 0 d values
  offsets_first d all values none = subst (λ (vs : List ℕ). Offsets d all 0 d vs) (sym none) (record { shows = λ new more h. h; makes = λ new more h. h })

  pub offsets_on : (d0 : Draft) (all : List ways.Hidden) (i : ℕ) (d e : Draft) (values grown : List ℕ) (v : ℕ) (x : ways.Hidden) → i < length all → grown ≡ values ++ v ∷ []
      → Gives d e v (λ s. hidden_shown scene lane current s (hidden_seen (get_or all i x))) → MadeShown current (hidden_register scene lane (hidden_seen (get_or all i x))) d e v
      → Offsets d0 all i d values → Offsets d0 all (suc i) e grown
  offsets_on d0 all i d e values grown v x within added gives made l = record {
    shows = λ new more h.
        subst (λ (vs : List ℕ). ShowsHidden scene lane current d0 new (map hidden_seen all) vs) (grown_is more)
        (l.shows new (v ∷ more) (subst (λ (hs : List ways.Hidden). ShowsHidden scene lane current d new (map hidden_seen hs) (v ∷ more)) (sym split)
        (gives_then d e new v more (λ s. hidden_shown scene lane current s (hidden_seen (get_or all i x))) (λ s. map (λ k. hidden_shown scene lane current s k) (map hidden_seen (drop (suc i) all))) gives h)));
    makes = λ new more h.
        subst (λ (vs : List ℕ). MadeHidden scene lane current (map hidden_seen all) d0 new vs) (grown_is more)
        (l.makes new (v ∷ more) (subst (λ (hs : List ways.Hidden). MadeHidden scene lane current (map hidden_seen hs) d new (v ∷ more)) (sym split) (e, (v, (more, (made, (h, refl)))))));
  }
    where
      split : drop i all ≡ get_or all i x ∷ drop (suc i) all
      split = drop-cons all i x within

      grown_is : (more : List ℕ) → values ++ (v ∷ more) ≡ grown ++ more
      grown_is more = sym (ap (λ vs. vs ++ more) added ∙ append_assoc values (v ∷ []) more)

  pub offsets_shown : (d0 d : Draft) (all : List ways.Hidden) (i : ℕ) (values : List ℕ) → length all ≤ i → Offsets d0 all i d values → ShowsHidden scene lane current d0 d (map hidden_seen all) values
  offsets_shown d0 d all i values over l =
      subst (λ (vs : List ℕ). ShowsHidden scene lane current d0 d (map hidden_seen all) vs) (append-nil values)
      (l.shows d [] (subst (λ (hs : List ways.Hidden). ShowsHidden scene lane current d d (map hidden_seen hs) []) (sym (drop_past all i over)) (gives_none d (λ x. []) (λ x. refl))))

  pub offsets_made : (d0 d : Draft) (all : List ways.Hidden) (i : ℕ) (values : List ℕ) → length all ≤ i → Offsets d0 all i d values → MadeHidden scene lane current (map hidden_seen all) d0 d values
  offsets_made d0 d all i values over l =
      subst (λ (vs : List ℕ). MadeHidden scene lane current (map hidden_seen all) d0 d vs) (append-nil values)
      (l.makes d [] (subst (λ (hs : List ways.Hidden). MadeHidden scene lane current (map hidden_seen hs) d d []) (sym (drop_past all i over)) (refl, refl)))

-- Steps of a way.

abbrev no_values : List ℕ
no_values = []

nothing_left : (n : ℕ) → drop n no_values ≡ no_values
nothing_left zero = refl
nothing_left (suc n) = refl

drop_least : (xs : List ℕ) (n : ℕ) → drop (min n (length xs)) xs ≡ drop n xs
drop_least [] n = nothing_left (min n (length no_values)) ∙ sym (nothing_left n)
drop_least (x ∷ xs) zero = ap (λ m. drop m (x ∷ xs)) (least (suc (length xs)))
  where
    least : (l : ℕ) → min 0 l ≡ 0
    least l = omega arith
drop_least (x ∷ xs) (suc n) = ap (λ m. drop m (x ∷ xs)) (more n (length xs)) ∙ drop_least xs n
  where
    more : (n l : ℕ) → min (suc n) (suc l) ≡ suc (min n l)
    more n l = omega arith

none_taken : (n : ℕ) → take n no_values ≡ no_values
none_taken zero = refl
none_taken (suc n) = refl

take_least : (xs : List ℕ) (n : ℕ) → take (min n (length xs)) xs ≡ take n xs
take_least [] n = none_taken (min n (length no_values)) ∙ sym (none_taken n)
take_least (x ∷ xs) zero = ap (λ m. take m (x ∷ xs)) (least (suc (length xs)))
  where
    least : (l : ℕ) → min 0 l ≡ 0
    least l = omega arith
take_least (x ∷ xs) (suc n) = ap (λ m. take m (x ∷ xs)) (more n (length xs)) ∙ ap (λ ys. x ∷ ys) (take_least xs n)
  where
    more : (n l : ℕ) → min (suc n) (suc l) ≡ suc (min n l)
    more n l = omega arith

-- a view of a number, with as many of these values as it takes
abbrev step_taken : (number : ℕ) → ViewMap → (values : List ℕ) → ReachStep
step_taken number v values = record { view = number; offsets = take (offsets_needed v.sort v.parent.dims) values }

pub view_added : (old new : List ReachStep) (number : ℕ) (link : ViewMap) (rest own : List ℕ) (most count : ℕ) → most ≡ offsets_needed link.sort link.parent.dims → count ≡ min most (length rest) → own ≡ take count rest
    → new ≡ old ++ record { view = number; offsets = own } ∷ [] → AddsView old new number link rest count
view_added old new number link rest own most count most_is count_is own_is added = record {
  added = added ∙ ap (λ (vs : List ℕ). old ++ record { view = number; offsets = vs } ∷ []) (own_is ∙ (ap (λ n. take n rest) (count_is ∙ ap (λ n. min n (length rest)) most_is) ∙ take_least rest (offsets_needed link.sort link.parent.dims)));
  taken_is = count_is ∙ ap (λ n. min n (length rest)) most_is;
}

pub steps_turn : (through : List Through) (links : List ViewMap) (i number next taken : ℕ) (rest tail : List ℕ) (now new all : List ReachStep) (link : ViewMap) → i < length links → link ≡ get_or links i link
    → AddsView now new number link rest taken → tail ≡ drop taken rest → next ≡ number_of_parent through number
    → now ++ steps_told through number (map step_of (drop i links)) rest ≡ all → new ++ steps_told through next (map step_of (drop (suc i) links)) tail ≡ all
steps_turn through links i number next taken rest tail now new all link within is adds behind up h =
    ap (λ ss. ss ++ steps_told through next (map step_of (drop (suc i) links)) tail) adds.added
    ∙ (append_assoc now (step_taken number link rest ∷ []) (steps_told through next (map step_of (drop (suc i) links)) tail)
    ∙ (ap (λ n. now ++ step_taken number link rest ∷ steps_told through n (map step_of (drop (suc i) links)) tail) up
    ∙ (ap (λ vs. now ++ step_taken number link rest ∷ steps_told through (number_of_parent through number) (map step_of (drop (suc i) links)) vs) left
    ∙ (ap (λ ls. now ++ steps_told through number (map step_of ls) rest) (sym split) ∙ h))))
  where
    split : drop i links ≡ link ∷ drop (suc i) links
    split = drop-cons links i link within ∙ ap (λ l. l ∷ drop (suc i) links) (sym is)

    left : tail ≡ drop (offsets_needed link.sort link.parent.dims) rest
    left = behind ∙ (ap (λ n. drop n rest) adds.taken_is ∙ drop_least rest (offsets_needed link.sort link.parent.dims))

pub steps_last : (through : List Through) (links : List ViewMap) (i number : ℕ) (rest : List ℕ) (now all : List ReachStep) → length links ≤ i → now ++ steps_told through number (map step_of (drop i links)) rest ≡ all → now ≡ all
steps_last through links i number rest now all over h = sym (append-nil now) ∙ (ap (λ ls. now ++ steps_told through number (map step_of ls) rest) (sym (drop_past links i over)) ∙ h)

-- views that are told as references
pub map_shown : (vs : List (Bor ViewMap)) (i : ℕ) (v : Bor ViewMap) → i < length vs → v ≡ get_or vs i v → v.now ≡ get_or (map (λ (x : Bor ViewMap). x.now) vs) i v.now
map_shown vs i v within is = ap (λ (x : Bor ViewMap). x.now) is ∙ sym (get_or-map (λ (x : Bor ViewMap). x.now) vs i v v.now within)

pub shown_within : (vs : List (Bor ViewMap)) (i : ℕ) → i < length vs → i < length (map (λ (x : Bor ViewMap). x.now) vs)
shown_within vs i within = subst (λ (n : ℕ). i < n) (sym (length-map vs (λ (x : Bor ViewMap). x.now))) within

pub shown_past : (vs : List (Bor ViewMap)) (i : ℕ) → length vs ≤ i → length (map (λ (x : Bor ViewMap). x.now) vs) ≤ i
shown_past vs i past = subst (λ (n : ℕ). n ≤ i) (sym (length-map vs (λ (x : Bor ViewMap). x.now))) past

-- Indices stand in front of offsets.

taken : (b : Start) (v : Variables) (path : Path) (ts us : CoreTerms) → take (count_terms ts) (values_of b v path (terms_both ts us)) ≡ values_of b v path ts
taken b v path no_terms us = refl
taken b v path (term_and t ts) us = ap (λ zs. words.value_of (value_of_term b v path t) ∷ zs) (taken b v path ts us)

dropped : (b : Start) (v : Variables) (path : Path) (ts us : CoreTerms) → drop (count_terms ts) (values_of b v path (terms_both ts us)) ≡ values_of b v path us
dropped b v path no_terms us = refl
dropped b v path (term_and t ts) us = dropped b v path ts us

-- What steps show.

numbers_taken : (x : BlockStep) (n : ℕ) (values : List ℕ) → numbers_shown x (take n values) ≡ take n (numbers_shown x values)
numbers_taken x zero values = refl
numbers_taken x (suc n) [] = refl
numbers_taken x (suc n) (v ∷ values) = ap (λ zs. words.value_of (word_shown x v) ∷ zs) (numbers_taken x n values)

numbers_dropped : (x : BlockStep) (n : ℕ) (values : List ℕ) → numbers_shown x (drop n values) ≡ drop n (numbers_shown x values)
numbers_dropped x zero values = refl
numbers_dropped x (suc n) [] = refl
numbers_dropped x (suc n) (v ∷ values) = numbers_dropped x n values

steps_pass : (x : BlockStep) (through : List Through) (views : List ViewMap) (steps : List ViewStep) (first : ℕ) (values : List ℕ) (zs : List ℤ) → AreViews through views first steps → numbers_shown x values ≡ zs → AreOfSteps views steps (steps_shown x (steps_told through first steps values)) zs
steps_pass x through views [] first values zs there same = tt
steps_pass x through views (s ∷ ss) first values zs there same = (
  there.0,
  (
    numbers_taken x s.offsets values ∙ ap (λ ys. take s.offsets ys) same,
    steps_pass x through views ss (number_of_parent through first) (drop s.offsets values) (drop s.offsets zs) there.1 (numbers_dropped x s.offsets values ∙ ap (λ ys. drop s.offsets ys) same),
  ),
)

-- what variables show as the program has it are the offsets
offsets_are : (scene : Scene) (lane : Lane) (current : List (Option ℕ)) (v : View) (hs : List Hidden) → AllByRecursion (SeesHidden scene lane current v) hs
    → map (λ w. words.value_of w) (map (λ h. hidden_shown scene lane current v.step h) hs) ≡ values_of (begun_of v.step) v.variables (lane_path lane) (kept_terms hs)
offsets_are scene lane current v [] sees = refl
offsets_are scene lane current v (h ∷ hs) sees =
    ap (λ w. words.value_of w ∷ map (λ u. words.value_of u) (map (λ k. hidden_shown scene lane current v.step k) hs)) sees.0
    ∙ ap (λ zs. words.value_of (word_of h.kind (v.variables h.entity (take h.depth (lane_path lane)))) ∷ zs) (offsets_are scene lane current v hs sees.1)

numbers_of_words : (x : BlockStep) (values : List ℕ) → numbers_shown x values ≡ map (λ w. words.value_of w) (map (λ n. word_shown x n) values)
numbers_of_words x [] = refl
numbers_of_words x (v ∷ values) = ap (λ zs. words.value_of (word_shown x v) ∷ zs) (numbers_of_words x values)

-- the offsets behind indices
abbrev offsets_behind : Lane → View → Way → CoreTerms → List ℤ
offsets_behind lane v w ts = drop (count_terms ts) (values_of (begun_of v.step) v.variables (lane_path lane) (terms_both ts (kept_terms w.hidden)))

-- An aim through the way of a name.
module _ (scene : Scene) (lane : Lane) (current : List (Option ℕ)) (old new : Draft) (first : ℕ) (before : List ReachStep) where
  pub way_extends : (way : Option Way) (steps : List ReachStep) → ShowsWay scene lane current old new first way before steps → Extends old new
  way_extends None steps h = subst (λ (d : Draft). Extends old d) (sym h.0) (extends_self old)
  way_extends (Some w) steps h = h.shows.extends

  pub way_quiet : (way : Option Way) (steps : List ReachStep) → ShowsWay scene lane current old new first way before steps → (x : BlockStep) → FitsStep x new → BlockBegun x old → tale x new ≡ tale x old
  way_quiet None steps h x f b = ap (λ (d : Draft). tale x d) h.0
  way_quiet (Some w) steps h x f b = h.shows.quiet x f b

  pub way_aims : (way : Option Way) (aim : Aim) (ts : CoreTerms) (v : View) → before ≡ [] → aim.row ≡ None → ShowsWay scene lane current old new first way before aim.steps → FitsStep v.step new → BlockBegun v.step old
      → SeesWayBy scene lane current v first way → numbers_shown v.step aim.indices ≡ values_of (begun_of v.step) v.variables (lane_path lane) ts → AimsAt lane v aim (target_to way ts)
  way_aims None aim ts v none row h f b sees same = (same, (h.1 ∙ none, row))
  way_aims (Some w) aim ts v none row h f b sees same = (
    same ∙ sym (taken (begun_of v.step) v.variables (lane_path lane) ts (kept_terms w.hidden)),
    (
      subst (λ (ss : List ReachStep). AreOfSteps v.step.start.views w.steps (steps_shown v.step ss) (offsets_behind lane v w ts)) (sym h.steps_are) (steps_pass v.step scene.through.now v.step.start.views w.steps first h.values (offsets_behind lane v w ts) sees.1 told),
      row,
    ),
  )
    where
      told : numbers_shown v.step h.values ≡ offsets_behind lane v w ts
      told =
          numbers_of_words v.step h.values
          ∙ (ap (λ ws. map (λ w. words.value_of w) ws) (h.shows.are v.step f b)
          ∙ (offsets_are scene lane current v w.hidden sees.0 ∙ sym (dropped (begun_of v.step) v.variables (lane_path lane) ts (kept_terms w.hidden))))

-- What is put down for it, as the code has it.
module _ (scene : Scene) (lane : Lane) (current : List (Option ℕ)) (old new : Draft) (r : Ref) (before after : Aim) where
  pub passes_on : (w : Way) (steps : List ReachStep) → way_of (known_in scene) r ≡ Some w → after ≡ record { indices = before.indices; steps = steps; row = before.row; number = before.number }
      → ShowsSteps scene lane current old new (first_view scene r) w steps → PassesWay scene lane current old new r before after
  passes_on w steps way is h = record {
    indices_are = ap (λ (a : Aim). a.indices) is;
    row_is = ap (λ (a : Aim). a.row) is;
    number_is = ap (λ (a : Aim). a.number) is;
    steps = subst (λ (o : Option Way). ShowsWay scene lane current old new (first_view scene r) o before.steps after.steps) (sym way)
        (subst (λ (ss : List ReachStep). ShowsSteps scene lane current old new (first_view scene r) w ss) (sym (ap (λ (a : Aim). a.steps) is)) h);
  }

  pub passes_still : way_of (known_in scene) r ≡ None → new ≡ old → after ≡ before → PassesWay scene lane current old new r before after
  passes_still way same is = record {
    indices_are = ap (λ (a : Aim). a.indices) is;
    row_is = ap (λ (a : Aim). a.row) is;
    number_is = ap (λ (a : Aim). a.number) is;
    steps = subst (λ (o : Option Way). ShowsWay scene lane current old new (first_view scene r) o before.steps after.steps) (sym way) (same, ap (λ (a : Aim). a.steps) is);
  }

  pub makes_on : (w : Way) (steps : List ReachStep) → way_of (known_in scene) r ≡ Some w → after ≡ record { indices = before.indices; steps = steps; row = before.row; number = before.number }
      → MadeSteps scene lane current old new (first_view scene r) w steps → MadePassing scene lane current old new r before after
  makes_on w steps way is h = record {
    indices_are = ap (λ (a : Aim). a.indices) is;
    row_is = ap (λ (a : Aim). a.row) is;
    number_is = ap (λ (a : Aim). a.number) is;
    steps = λ none. subst (λ (o : Option Way). MadeWay scene lane current old new (first_view scene r) o after.steps) (sym way)
        (subst (λ (ss : List ReachStep). MadeSteps scene lane current old new (first_view scene r) w ss) (sym (ap (λ (a : Aim). a.steps) is)) h);
  }

  pub makes_still : way_of (known_in scene) r ≡ None → new ≡ old → after ≡ before → MadePassing scene lane current old new r before after
  makes_still way same is = record {
    indices_are = ap (λ (a : Aim). a.indices) is;
    row_is = ap (λ (a : Aim). a.row) is;
    number_is = ap (λ (a : Aim). a.number) is;
    steps = λ none. subst (λ (o : Option Way). MadeWay scene lane current old new (first_view scene r) o after.steps) (sym way) (same, ap (λ (a : Aim). a.steps) is ∙ none);
  }

-- The banks that an access can reach.

pub reached_through : (w : ways_way.KeptWay) (way : Option Way) (own s : BankSet) (bank place : ℕ) (banks : List (ℕ × ℕ)) → Some (way_seen w) ≡ way → own ≡ s → banks ≡ banks_below own place 64 → banks ≡ banks_reached way s bank place
reached_through w way own s bank place banks is same made = made ∙ (ap (λ k. banks_below k place 64) same ∙ ap (λ o. banks_reached o s bank place) is)

pub reached_alone : (way : Option Way) (s : BankSet) (bank place : ℕ) (banks : List (ℕ × ℕ)) → None ≡ way → banks ≡ (bank, place) ∷ [] → banks ≡ banks_reached way s bank place
reached_alone way s bank place banks is made = made ∙ ap (λ o. banks_reached o s bank place) is

pub told_access : (scene : Scene) (f : TermForm) (r : Ref) (ts : Terms) (bank place : ℕ) (banks : List (ℕ × ℕ)) → f ≡ accessed r ts → banks ≡ banks_reached (way_of (known_in scene) r) (banks_seen scene r bank) bank place → banks ≡ banks_told scene f bank place
told_access scene f r ts bank place banks is made = made ∙ ap (λ g. banks_told scene g bank place) (sym is)

pub told_alone : (scene : Scene) (f g : TermForm) (bank place : ℕ) (banks : List (ℕ × ℕ)) → f ≡ g → banks_told scene g bank place ≡ (bank, place) ∷ [] → banks ≡ (bank, place) ∷ [] → banks ≡ banks_told scene f bank place
told_alone scene f g bank place banks is alone made = made ∙ (sym alone ∙ ap (λ h. banks_told scene h bank place) (sym is))
