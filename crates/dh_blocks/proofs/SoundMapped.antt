-- What is known of the names of commands may be known in another way.
use Rattle.std.proofs.Common.{ℕ, suc, List, [], ◌∷◌, Some, None}
use Rattle.std.specs.List.{AllByRecursion}
use Rattle.dh_value.specs.declared.kinds.Kind.{Kind}
use Rattle.dh_tree.specs.declared.tables.MemEntry.{MemEntry}
use Rattle.dh_tree.specs.declared.trees.expressions.Ref.{Ref}
use Rattle.dh_tree.specs.PlainTrees.{Term, term, number, truth_value, named, accessed, in_bank, applied, converted, Terms, no_terms, term_then, Action, action, lets, lets_memory, views, assigns, stores, reduces, calls, blocks, decides, repeats, counts, MaybeAction, no_action, one_action, Actions, no_actions, action_then, Groups, no_groups, group_then}
use Rattle.dh_meaning.specs.Bindings.{kind_or_first}
use Rattle.dh_tree.specs.Seen.{terms}
use Rattle.dh_tree.specs.ViewOffsets.{offsets_of}
use Rattle.dh_meaning.specs.CoreOf.{Known, way_of}
use Rattle.dh_meaning.specs.Ways.{Hidden, hidden_in}
use Rattle.dh_expressions.specs.declared.paths.Level.{Level}
use Rattle.dh_expressions.specs.declared.scenes.Scene.{Scene}
use Rattle.dh_expressions.specs.Evaluated.{known_in}
use Rattle.dh_blocks.specs.SoundTerms.{AreSound, IsSound, IsSoundHidden, IsSoundTarget, IsSoundWay, kept_name}
use Rattle.dh_blocks.specs.SoundCommands.{CanKeep, CanKeepFrom, SoundAction, SoundGroups, SoundOther, SoundPart}

module _ (known : Known) (table : List MemEntry) (N M : Ref → Kind → Type 0) (to : (r : Ref) (k : Kind) → N r k → M r k) where
  way_mapped : (r : Ref) → IsSoundWay known table N r → IsSoundWay known table M r
  way_mapped r s = each (hidden_in (way_of known r)) s
    where
      each : (hs : List Hidden) → AllByRecursion (λ (h : Hidden). IsSoundHidden known table N r h) hs → AllByRecursion (λ (h : Hidden). IsSoundHidden known table M r h) hs
      each [] a = tt
      each (h ∷ hs) a = (record { named = to (kept_name h) h.kind a.0.named; deep = a.0.deep; plain = a.0.plain; less = a.0.less }, each hs a.1)

  mutual
    pub term_mapped : (t : Term) → IsSound known table N t → IsSound known table M t
    term_mapped (term place k (number negative z)) s = s
    term_mapped (term place k (truth_value b)) s = s
    term_mapped (term place k (named r)) s = (to r (kind_or_first k) s.0, s.1)
    term_mapped (term place k (accessed r ts)) s = ((terms_mapped ts s.0.0, way_mapped r s.0.1), s.1)
    term_mapped (term place k (in_bank r bank at row)) s = (term_mapped row s.0, s.1)
    term_mapped (term place k (applied o left right)) s = ((term_mapped left s.0.0, term_mapped right s.0.1), s.1)
    term_mapped (term place k (converted inner kind)) s = (term_mapped inner s.0, s.1)

    pub terms_mapped : (ts : Terms) → AreSound known table N ts → AreSound known table M ts
    terms_mapped no_terms s = tt
    terms_mapped (term_then t ts) s = (term_mapped t s.0, terms_mapped ts s.1)

  target_mapped : (t : Term) → IsSoundTarget known table N t → IsSoundTarget known table M t
  target_mapped (term place k (accessed r ts)) s = ((terms_mapped ts s.0.0, way_mapped r s.0.1), s.1)
  target_mapped (term place k (in_bank r bank at row)) s = (term_mapped row s.0, s.1)
  target_mapped (term place k (number negative z)) s = absurd s
  target_mapped (term place k (truth_value b)) s = absurd s
  target_mapped (term place k (named r)) s = absurd s
  target_mapped (term place k (applied o left right)) s = absurd s
  target_mapped (term place k (converted inner kind)) s = absurd s

module _ (scene : Scene) (levels : List Level) (table : List MemEntry) (N M : Ref → Kind → Type 0) (to : (r : Ref) (k : Kind) → N r k → M r k) where
  abbrev of_term : (t : Term) → IsSound (known_in scene) table N t → IsSound (known_in scene) table M t
  of_term t s = term_mapped (known_in scene) table N M to t s

  kept_mapped : (depth first : ℕ) (ts : List Term) → CanKeepFrom scene levels table N depth first ts → CanKeepFrom scene levels table M depth first ts
  kept_mapped depth first [] s = tt
  kept_mapped depth first (t ∷ ts) s = (s.0, kept_mapped depth (suc first) ts s.1)

  view_mapped : (hs : List Hidden) (ts : List Term) → CanKeep scene levels table N hs ts → CanKeep scene levels table M hs ts
  view_mapped hs [] s = tt
  view_mapped [] (t ∷ ts) s = absurd s
  view_mapped (h ∷ hs) (t ∷ ts) s = (terms_mapped (known_in scene) table N M to (terms (t ∷ ts)) s.0, kept_mapped h.depth h.entity (t ∷ ts) s.1)

  mutual
    pub action_mapped : (Folds : ℕ → Type 0) (a : Action) → SoundAction scene levels table N Folds a → SoundAction scene levels table M Folds a
    action_mapped Folds (action id place (lets r declared None)) s = s
    action_mapped Folds (action id place (lets r declared (Some t))) s = (of_term t s.0, s.1)
    action_mapped Folds (action id place (assigns r t)) s = (of_term t s.0, s.1)
    action_mapped Folds (action id place (stores target t)) s = ((of_term t s.0.0, target_mapped (known_in scene) table N M to target s.0.1), s.1)
    action_mapped Folds (action id place (reduces r o t)) s = ((of_term t s.0.0, s.0.1), s.1)
    action_mapped Folds (action id place (decides t chosen other)) s = (of_term t s.0, (action_mapped (λ i. ⊥) chosen s.1.0, other_mapped (λ i. ⊥) other s.1.1))
    action_mapped Folds (action id place (blocks body)) s = groups_mapped Folds body s
    action_mapped Folds (action id place (lets_memory name shape shape_places value)) s = tt
    action_mapped Folds (action id place (views name parent form)) s = view_mapped (hidden_in (way_of (known_in scene) name)) (offsets_of form) s
    action_mapped Folds (action id place (calls function arguments)) s = tt
    action_mapped Folds (action id place (repeats test body)) s = tt
    action_mapped Folds (action id place (counts iterator declared low high factor body combine combine_place)) s = tt

    other_mapped : (Folds : ℕ → Type 0) (a : MaybeAction) → SoundOther scene levels table N Folds a → SoundOther scene levels table M Folds a
    other_mapped Folds no_action s = tt
    other_mapped Folds (one_action a) s = action_mapped Folds a s

    groups_mapped : (Folds : ℕ → Type 0) (gs : Groups) → SoundGroups scene levels table N Folds gs → SoundGroups scene levels table M Folds gs
    groups_mapped Folds no_groups s = tt
    groups_mapped Folds (group_then part rest) s = (part_mapped Folds part s.0, groups_mapped Folds rest s.1)

    part_mapped : (Folds : ℕ → Type 0) (q : Actions) → SoundPart scene levels table N Folds q → SoundPart scene levels table M Folds q
    part_mapped Folds no_actions s = tt
    part_mapped Folds (action_then a rest) s = (action_mapped Folds a s.0, part_mapped Folds rest s.1)
