-- What the operations that are put down for expressions count.
use Rattle.std.specs.Prelude.{◌≡◌, ℕ, ◌+◌, ◌<◌, ◌^◌, true, List, Option}
use Rattle.dh_value.specs.declared.kinds.Kind.{Kind}
use Rattle.dh_value.specs.declared.operators.Op.{Op}
use Rattle.dh_tree.specs.declared.trees.expressions.Ref.{Ref}
use Rattle.dh_tree.specs.Indices.{form_of}
use Rattle.dh_tree.specs.PlainTrees.{Term, Terms}
use Rattle.dh_meaning.specs.AccessNumbers.{term_accesses, terms_accesses}
use Rattle.dh_meaning.specs.CoreOf.{core_terms, target_to, way_of}
use Rattle.dh_plan.specs.declared.operations.OperationForm.{OperationForm}
use Rattle.dh_plan.specs.DoneProgram.{product_of, target_products}
use Rattle.dh_plan.specs.PlanPhases.{target_mentions}
use Rattle.dh_expressions.specs.declared.accesses.Accesses.{Accesses}
use Rattle.dh_expressions.specs.declared.drafts.Draft.{Draft}
use Rattle.dh_expressions.specs.declared.elements.Aim.{Aim}
use Rattle.dh_expressions.specs.declared.scenes.Lane.{Lane}
use Rattle.dh_expressions.specs.declared.scenes.Scene.{Scene}
use Rattle.dh_formed.specs.Counted.{Counts, CountsTerm, CountsTerms, FormIs, HaveGiven, IsBlockAccess, IsLedUse, IsMentioned, IsUse, ExpressionBegins, given_at_paths, nothing, one_each, ranged, use_of}
use Rattle.dh_formed.specs.Formed.{AccessSuits, Agrees, AreNumbers, FormedBlock, AreNotedReads, IsScope, NamedSuits, Started, TermSuits, TermsSuit}
use Rattle.dh_expressions.specs.MadeTerms.{MadeIndices, MadeTerm, MadeThrough, MadeWrite}
use Rattle.dh_expressions.specs.MadeValues.{MadeHeld, MadeOperation}
use Rattle.dh_expressions.specs.Named.{known_in}
use Rattle.dh_expressions.specs.Reaching.{place_written}

-- An operator counts its own multiplication at most. What is meant by `⊥` is that none of it is there.
abbrev pub IsPure : Type 0
IsPure = (o : Op) (left right : Term) (a b : ℕ) (old new : Draft) (v : ℕ) → MadeOperation o left right a b old new v
    → Counts old new (FormIs (λ register. ⊥) (λ r. ⊥) (λ r. ⊥) (λ r. ⊥)) (product_of o) nothing nothing

-- a value as a variable or a memory holds it counts nothing
abbrev pub HeldIsPure : Type 0
HeldIsPure = (t : Term) (to : Kind) (value : ℕ) (old new : Draft) (v : ℕ) → MadeHeld t to value old new v
    → Counts old new (FormIs (λ register. ⊥) (λ r. ⊥) (λ r. ⊥) (λ r. ⊥)) 0 nothing nothing

-- an expression whose accesses are numbered from n on, where these numbers are few
abbrev pub TermsCount : Type 0
TermsCount =
    (x : FormedBlock) (scene : Scene) (lane : Lane) (current : List (Option ℕ)) (t : Term) (old new : Draft) (before after : Accesses) (n next v : ℕ)
    → MadeTerm scene lane current t old new before after n next v → n + term_accesses t < 2 ^ 32
    → ExpressionBegins x old new scene lane current before n (term_accesses t) → TermSuits x scene lane n t → CountsTerm x scene lane old new before after n t

-- indices
abbrev pub IndicesCount : Type 0
IndicesCount =
    (x : FormedBlock) (scene : Scene) (lane : Lane) (current : List (Option ℕ)) (ts : Terms) (old new : Draft) (before after : Accesses) (n : ℕ) (aim : Aim)
    → MadeIndices scene lane current ts old new before after n aim → n + terms_accesses ts < 2 ^ 32
    → ExpressionBegins x old new scene lane current before n (terms_accesses ts) → TermsSuit x scene lane n ts × AreNumbers ts → CountsTerms x scene lane old new before after n ts

-- indices with the steps of the way of what they name: registers are seen of what the target mentions
abbrev pub IsOfNamed : FormedBlock → Scene → Lane → (n : ℕ) → Ref → Terms → OperationForm → Type 0
IsOfNamed x scene lane n r ts =
    FormIs (λ register. IsMentioned scene lane (λ entity. target_mentions entity (target_to (way_of (known_in scene) r) (core_terms (known_in scene) n ts)) ≡ true) register)
    (λ u. IsBlockAccess x n (terms_accesses ts) u) (λ u. IsLedUse x lane.number n (terms_accesses ts) u) (λ u. ⊥)

pub record CountsThrough (x : FormedBlock) (scene : Scene) (lane : Lane) (old new : Draft) (before after : Accesses) (n : ℕ) (r : Ref) (ts : Terms) : Type 0 where
  pub counts : Counts old new (IsOfNamed x scene lane n r ts) (target_products (target_to (way_of (known_in scene) r) (core_terms (known_in scene) n ts))) (ranged n (terms_accesses ts) one_each) (ranged n (terms_accesses ts) (use_of x scene lane.number))
  pub given : HaveGiven lane before after n (terms_accesses ts)

abbrev pub ThroughCounts : Type 0
ThroughCounts =
    (x : FormedBlock) (scene : Scene) (lane : Lane) (current : List (Option ℕ)) (r : Ref) (ts : Terms) (old new : Draft) (before after : Accesses) (n : ℕ) (aim : Aim)
    → MadeThrough scene lane current r ts old new before after n aim → n + terms_accesses ts < 2 ^ 32
    → ExpressionBegins x old new scene lane current before n (terms_accesses ts) → NamedSuits x scene lane n r ts → CountsThrough x scene lane old new before after n r ts

-- the writing of an element at a path: one probe and one write of its access, and what reads gave stays
pub record CountsElementWrite (x : FormedBlock) (lane : Lane) (old new : Draft) (before after : Accesses) (number : ℕ) : Type 0 where
  pub counts : Counts old new (FormIs (λ register. ⊥) (λ r. IsBlockAccess x number 1 r) (λ r. ⊥) (λ r. IsUse x lane.number number 1 r)) 0 (ranged number 1 one_each) (ranged number 1 one_each)
  pub given : (m : ℕ) → given_at_paths after m ≡ given_at_paths before m

abbrev pub WritesCount : Type 0
WritesCount =
    (x : FormedBlock) (scene : Scene) (lane : Lane) (current : List (Option ℕ)) (access : Term) (memory : ℕ) (aim : Aim) (old new : Draft) (before after : Accesses) (value : ℕ)
    → MadeWrite scene lane access memory aim value old new before after → Agrees x new → Started x old → IsScope x old scene lane current → AreNotedReads x old before
    → AccessSuits x scene lane memory aim.number (place_written access) (form_of access) true → CountsElementWrite x lane old new before after aim.number
