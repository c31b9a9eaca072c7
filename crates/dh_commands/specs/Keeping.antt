-- Offsets of a view that moves, at one path: they are evaluated from the left, and each gives its word.
use Rattle.std.specs.Prelude.{◌≡◌, ℕ, suc, ◌+◌, ◌<◌, ◌^◌, List, [], ◌∷◌, ◌++◌, length, map, Option, Some, None}
use Rattle.dh_value.specs.declared.words.Word.{Word}
use Rattle.dh_value.specs.Words as words
use Rattle.dh_value.specs.Words.{word_of}
use Rattle.dh_tree.specs.declared.trees.expressions.Expr.{Expr}
use Rattle.dh_tree.specs.PlainTrees as plain
use Rattle.dh_tree.specs.Seen.{term_seen, terms}
use Rattle.dh_meaning.specs.AccessNumbers.{terms_accesses}
use Rattle.dh_meaning.specs.Core.{CoreTerms, no_terms, term_and}
use Rattle.dh_meaning.specs.CoreOf.{core_terms}
use Rattle.dh_meaning.specs.Effects.{Begun as Start, Event, Variables, value_of_term}
use Rattle.dh_meaning.specs.Paths.{Path}
use Rattle.dh_code.specs.Slots.{held_at}
use Rattle.dh_expressions.specs.declared.accesses.Accesses.{Accesses}
use Rattle.dh_expressions.specs.declared.drafts.Draft.{Draft}
use Rattle.dh_expressions.specs.declared.scenes.Lane.{Lane}
use Rattle.dh_expressions.specs.declared.scenes.Scene.{Scene}
use Rattle.dh_expressions.specs.Drafted.{BlockBegun, Extends, FitsStep, fails_to_hold, holds, word_shown, tale, tales_told}
use Rattle.dh_expressions.specs.Evaluated.{FairAll, Knows, SeesAll, View, begun_of, known_in, lane_guard, lane_path, terms_told}
use Rattle.dh_expressions.specs.Shown.{held_shown}

-- the offsets of a suffix, as the code has them
abbrev pub paired : List (ℕ × Expr) → List plain.Term
paired by = map (λ p. term_seen p.1) by

-- the words of terms at a path
abbrev pub term_words : Start → Variables → Path → CoreTerms → List Word
term_words b v path no_terms = []
term_words b v path (term_and t ts) = value_of_term b v path t ∷ term_words b v path ts

abbrev pub terms_words : Scene → Lane → View → (n : ℕ) → plain.Terms → List Word
terms_words scene lane v n ts = term_words (begun_of v.step) v.variables (lane_path lane) (core_terms (known_in scene) n ts)

-- Operations that give several words where `Fair` and `Sees` hold, and tell these events under the guard.
pub record GivesSeveralWords (guard : Option ℕ) (old new : Draft) (before after : Accesses) (values : List ℕ) (Fair Sees : View → Type 0) (all : View → List Word) (events : View → List Event) : Type 0 where
  pub extends : Extends old new
  pub knows : (v : View) → FitsStep v.step new → BlockBegun v.step old → Knows v before → Fair v → Knows v after
  pub are : (v : View) → FitsStep v.step new → BlockBegun v.step old → Knows v before → Fair v → Sees v → map (λ n. word_shown v.step n) values ≡ all v
  pub tells : (v : View) → FitsStep v.step new → BlockBegun v.step old → Knows v before → Fair v → Sees v → holds v.step guard → tale v.step new ≡ tale v.step old ++ tales_told (events v)
  pub quiet : (v : View) → FitsStep v.step new → BlockBegun v.step old → fails_to_hold v.step guard → tale v.step new ≡ tale v.step old

-- offsets whose accesses are numbered from n on, with the number of the next access
pub record EvaluatesWords (scene : Scene) (lane : Lane) (current : List (Option ℕ)) (old new : Draft) (before after : Accesses) (n : ℕ) (offsets : List plain.Term) (values : List ℕ) (next : ℕ) : Type 0 where
  pub long : length values ≡ length offsets
  pub next_is : n + terms_accesses (terms offsets) < 2 ^ 32 → next ≡ n + terms_accesses (terms offsets)
  pub so : n + terms_accesses (terms offsets) < 2 ^ 32
      → GivesSeveralWords (lane_guard lane) old new before after values (λ v. FairAll scene lane current v n (terms offsets)) (λ v. SeesAll scene lane current v n (terms offsets)) (λ v. terms_words scene lane v n (terms offsets))
      (λ v. terms_told scene lane v n (terms offsets))

-- the word of an offset as a variable holds it
abbrev pub kept_shown : Scene → (entity : ℕ) → Option plain.Term → Word → Word
kept_shown scene entity None w = w
kept_shown scene entity (Some t) w = held_shown t (held_at scene.held.now entity).kind w

-- the words of offsets as variables hold them, whose entities follow one another
abbrev pub held_words : Scene → (first : ℕ) → List plain.Term → List Word → List Word
held_words scene first [] ws = ws
held_words scene first (t ∷ ts) [] = []
held_words scene first (t ∷ ts) (w ∷ ws) = held_shown t (held_at scene.held.now first).kind w ∷ held_words scene (suc first) ts ws

-- held so, each is its whole number
abbrev pub HeldFrom : Scene → (first : ℕ) → List plain.Term → List Word → Type 0
HeldFrom scene first [] ws = Unit {0}
HeldFrom scene first (t ∷ ts) [] = Unit {0}
HeldFrom scene first (t ∷ ts) (w ∷ ws) =
    (held_shown t (held_at scene.held.now first).kind w ≡ word_of (held_at scene.held.now first).kind (words.value_of w)) × HeldFrom scene (suc first) ts ws
