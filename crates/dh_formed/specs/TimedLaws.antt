-- When the operations that are put down for expressions are there.
use Rattle.std.specs.Prelude.{◌≡◌, ℕ, ◌+◌, ◌<◌, ◌^◌, max, true, List, slice_get, Option}
use Rattle.dh_value.specs.declared.kinds.Kind.{Kind}
use Rattle.dh_value.specs.declared.operators.Op.{Op}
use Rattle.dh_tree.specs.declared.trees.expressions.Ref.{Ref}
use Rattle.dh_tree.specs.Indices.{form_of}
use Rattle.dh_tree.specs.PlainTrees.{Term, Terms}
use Rattle.dh_meaning.specs.AccessNumbers.{term_accesses, terms_accesses}
use Rattle.dh_meaning.specs.CoreOf.{core_term, core_terms, memory_of, target_to, way_of}
use Rattle.dh_meaning.specs.Levels.{Levels}
use Rattle.dh_plan.specs.PlanPhases.{target_mentions, term_mentions, core_terms_mention}
use Rattle.dh_expressions.specs.declared.accesses.Accesses.{Accesses}
use Rattle.dh_expressions.specs.declared.drafts.Draft.{Draft}
use Rattle.dh_expressions.specs.declared.elements.Aim.{Aim}
use Rattle.dh_expressions.specs.declared.scenes.Lane.{Lane}
use Rattle.dh_expressions.specs.declared.scenes.Scene.{Scene}
use Rattle.dh_expressions.specs.Evaluated.{known_in}
use Rattle.dh_formed.specs.Formed.{AccessSuits, AreNumbers, NamedSuits, TermSuits, TermsSuit}
use Rattle.dh_expressions.specs.MadeTerms.{MadeIndices, MadeTerm, MadeThrough, MadeWrite}
use Rattle.dh_expressions.specs.MadeValues.{MadeConverted, MadeHeld, MadeOperation, MadeShown}
use Rattle.dh_expressions.specs.Reaching.{place_written}
use Rattle.dh_expressions.specs.Shown.{is_kept}
use Rattle.dh_formed.specs.Timed.{BlockClocks, CurrentAt, EntityAt, HasClock, LevelsThen, ReadsAgree, StandsInTime, StandsToWrite, TimesAim, TimesTerm, TimesTerms, TimesValue, TimesWrite, all_leveled, leveled, named_leveled}

-- an operator, when both operands are there
abbrev pub OperationsInTime : Type 0
OperationsInTime =
    (o : Op) (left right : Term) (a b : ℕ) (j k : BlockClocks → ℕ) (old new : Draft) (v : ℕ) → MadeOperation o left right a b old new v
    → TimesValue old new v (λ c. HasClock c (j c) a × HasClock c (k c) b) (λ c. max (j c) (k c))

-- a value as a variable or a memory holds it, with the value
abbrev pub HeldInTime : Type 0
HeldInTime =
    (t : Term) (to : Kind) (value : ℕ) (k : BlockClocks → ℕ) (old new : Draft) (v : ℕ) → MadeHeld t to value old new v → TimesValue old new v (λ c. HasClock c (k c) value) k

abbrev pub ConvertedInTime : Type 0
ConvertedInTime =
    (t : Term) (to : Kind) (value : ℕ) (k : BlockClocks → ℕ) (old new : Draft) (v : ℕ) → MadeConverted (is_kept t to) to value old new v → TimesValue old new v (λ c. HasClock c (k c) value) k

-- what a variable shows, at its level
abbrev pub ShownInTime : Type 0
ShownInTime =
    (current : List (Option ℕ)) (register : ℕ) (level : BlockClocks → ℕ) (old new : Draft) (v : ℕ) → MadeShown current register old new v
    → TimesValue old new v (λ c. CurrentAt c (slice_get current register) (level c)) level

-- levels behind an expression, and behind indices
abbrev pub LevelsGoOn : Type 0
LevelsGoOn =
    (scene : Scene) (shared : ℕ → Option ℕ) (outer : ℕ) (t : Term) (n : ℕ) (l : Levels) → LevelsThen n (term_accesses t) l (leveled scene shared outer n t l)

abbrev pub AllLevelsGoOn : Type 0
AllLevelsGoOn =
    (scene : Scene) (shared : ℕ → Option ℕ) (outer : ℕ) (ts : Terms) (n : ℕ) (l : Levels) → LevelsThen n (terms_accesses ts) l (all_leveled scene shared outer n ts l)

-- and behind indices with the steps of a way
abbrev pub NamedLevelsGoOn : Type 0
NamedLevelsGoOn =
    (scene : Scene) (shared : ℕ → Option ℕ) (outer : ℕ) (r : Ref) (ts : Terms) (n : ℕ) (l : Levels) → LevelsThen n (terms_accesses ts) l (named_leveled scene shared outer n r ts l)

-- a write
abbrev pub WritesInTime : Type 0
WritesInTime =
    (c : BlockClocks) (scene : Scene) (lane : Lane) (current : List (Option ℕ)) (access : Term) (memory : ℕ) (aim : Aim) (outer : ℕ) (old new : Draft) (before after : Accesses) (value level most : ℕ)
    → MadeWrite scene lane access memory aim value old new before after → AccessSuits c.block scene lane memory aim.number (place_written access) (form_of access) true
    → StandsToWrite c old new scene lane current before memory aim outer level value most → TimesWrite c old new after most

-- an expression whose accesses are numbered from n on, where these numbers are few; `shared` tells what each of them
-- shares, `outer` is the level of the tests round it
abbrev pub TermsInTime : Type 0
TermsInTime =
    (c : BlockClocks) (scene : Scene) (lane : Lane) (current : List (Option ℕ)) (shared : ℕ → Option ℕ) (outer : ℕ) (t : Term) (old new : Draft) (before after : Accesses) (n next v : ℕ)
    → MadeTerm scene lane current t old new before after n next v → n + term_accesses t < 2 ^ 32
    → (l : Levels) → StandsInTime c old new scene lane current before shared outer n (term_accesses t) l → TermSuits c.block scene lane n t
    → ((entity : ℕ) → term_mentions entity (core_term (known_in scene) n t) ≡ true → EntityAt c scene lane current l entity)
    → ReadsAgree c (leveled scene shared outer n t l).levels (n + term_accesses t)
    → TimesTerm c old new after (leveled scene shared outer n t l) v

-- indices
abbrev pub IndicesInTime : Type 0
IndicesInTime =
    (c : BlockClocks) (scene : Scene) (lane : Lane) (current : List (Option ℕ)) (shared : ℕ → Option ℕ) (outer : ℕ) (ts : Terms) (old new : Draft) (before after : Accesses) (n : ℕ) (aim : Aim)
    → MadeIndices scene lane current ts old new before after n aim → n + terms_accesses ts < 2 ^ 32
    → (l : Levels) → StandsInTime c old new scene lane current before shared outer n (terms_accesses ts) l → TermsSuit c.block scene lane n ts × AreNumbers ts
    → ((entity : ℕ) → core_terms_mention entity (core_terms (known_in scene) n ts) ≡ true → EntityAt c scene lane current l entity)
    → ReadsAgree c (all_leveled scene shared outer n ts l).levels (n + terms_accesses ts)
    → TimesTerms c old new after (all_leveled scene shared outer n ts l) aim.indices

-- indices with the steps behind them
abbrev pub ThroughInTime : Type 0
ThroughInTime =
    (c : BlockClocks) (scene : Scene) (lane : Lane) (current : List (Option ℕ)) (shared : ℕ → Option ℕ) (outer : ℕ) (r : Ref) (ts : Terms) (old new : Draft) (before after : Accesses) (n : ℕ) (aim : Aim)
    → MadeThrough scene lane current r ts old new before after n aim → n + terms_accesses ts < 2 ^ 32
    → (l : Levels) → StandsInTime c old new scene lane current before shared outer n (terms_accesses ts) l → NamedSuits c.block scene lane n r ts
    → ((entity : ℕ) → target_mentions entity (target_to (way_of (known_in scene) r) (core_terms (known_in scene) n ts)) ≡ true → EntityAt c scene lane current l entity)
    → ReadsAgree c (named_leveled scene shared outer n r ts l).levels (n + terms_accesses ts)
    → TimesAim c old new after (named_leveled scene shared outer n r ts l) (memory_of (known_in scene) r) aim
