-- The target of an access has its indices in front, and behind them the variables that keep the offsets on the way of
-- what is named: it mentions both, and the variables multiply nothing.
use Rattle.std.proofs.Common.{◌≡◌, ℕ, ◌+◌, true, List, [], ◌∷◌, Some, None, refl, ap}
use Rattle.std.specs.Prelude.{Bool, false, ◌||◌, Option}
use Rattle.dh_meaning.specs.Core.{CoreTerms, no_terms, term_and}
use Rattle.dh_meaning.specs.CoreOf.{kept_terms, target_to, terms_both}
use Rattle.dh_meaning.specs.Ways.{Hidden, Way}
use Rattle.dh_plan.specs.DoneProgram.{target_products, term_products, terms_products}
use Rattle.dh_plan.specs.PlanPhases.{target_mentions, term_mentions, core_terms_mention}

first_or : (a b : Bool) → a ≡ true → (a || b) ≡ true
first_or true b e = refl
first_or false b e = absurd (cc)

other_or : (a b : Bool) → b ≡ true → (a || b) ≡ true
other_or true b e = refl
other_or false b e = e

either : (a b c : Bool) → (b ≡ true → c ≡ true) → (a || b) ≡ true → (a || c) ≡ true
either true b c so e = refl
either false b c so e = so e

pub mentions_front : (entity : ℕ) (ts us : CoreTerms) → core_terms_mention entity ts ≡ true → core_terms_mention entity (terms_both ts us) ≡ true
mentions_front entity no_terms us e = absurd (cc)
mentions_front entity (term_and t ts) us e = either (term_mentions entity t) (core_terms_mention entity ts) (core_terms_mention entity (terms_both ts us)) (λ f. mentions_front entity ts us f) e

pub mentions_behind : (entity : ℕ) (ts us : CoreTerms) → core_terms_mention entity us ≡ true → core_terms_mention entity (terms_both ts us) ≡ true
mentions_behind entity no_terms us e = e
mentions_behind entity (term_and t ts) us e = other_or (term_mentions entity t) (core_terms_mention entity (terms_both ts us)) (mentions_behind entity ts us e)

-- what indices mention the target does
pub named_mentions : (way : Option Way) (entity : ℕ) (ts : CoreTerms) → core_terms_mention entity ts ≡ true → target_mentions entity (target_to way ts) ≡ true
named_mentions None entity ts e = e
named_mentions (Some w) entity ts e = mentions_front entity ts (kept_terms w.hidden) e

-- and it mentions what keeps its offsets
pub way_mentions : (w : Way) (entity : ℕ) (ts : CoreTerms) → core_terms_mention entity (kept_terms w.hidden) ≡ true → target_mentions entity (target_to (Some w) ts) ≡ true
way_mentions w entity ts e = mentions_behind entity ts (kept_terms w.hidden) e

kept_none : (hs : List Hidden) → terms_products (kept_terms hs) ≡ 0
kept_none [] = refl
kept_none (h ∷ hs) = ap (λ (i : ℕ). 0 + i) (kept_none hs)

products_front : (ts us : CoreTerms) → terms_products us ≡ 0 → terms_products (terms_both ts us) ≡ terms_products ts
products_front no_terms us e = e
products_front (term_and t ts) us e = ap (λ (i : ℕ). term_products t + i) (products_front ts us e)

pub named_products : (way : Option Way) (ts : CoreTerms) → target_products (target_to way ts) ≡ terms_products ts
named_products None ts = refl
named_products (Some w) ts = products_front ts (kept_terms w.hidden) (kept_none w.hidden)
