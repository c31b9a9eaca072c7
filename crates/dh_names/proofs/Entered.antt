-- A map of names, entry by entry, and the list that a contract sees of it.
use Rattle.std.proofs.Common.{◌≡◌, ℕ, cond, List, [], ◌∷◌, ◌++◌, map, Some, None, refl, ap, ◌∙◌}
use Rattle.std.proofs.lemmas.List.{map-append}
use Rattle.std.specs.Prelude.{String, string_bytes}
use Rattle.std.specs.Global.{Global}
use Rattle.std.specs.Map.{lookup}
use Rattle.std.specs.Str.{bytes_eq}
use Rattle.std.specs.String.{string_eq}
use Rattle.indexmap.specs.IndexMap.{IndexMap, insert_entry}
use Rattle.indexmap.proofs.CallerLemmas.{insert_entry-new}
use Rattle.dh_tree.specs.Scopes.{ScopeEntry, binding, entity_of}
use Rattle.dh_names.specs.Entries.{bound}

-- a look-up by a name's text finds what the list tells
pub looked_up : (es : List (String Global × ℕ)) (name : List ℕ) → lookup (λ k. bytes_eq name (string_bytes k)) es ≡ entity_of (map bound es) name
looked_up [] name = refl
looked_up (e ∷ es) name = ap (λ r. cond (bytes_eq name (string_bytes e.0)) (Some e.1) r) (looked_up es name)

module _ {S : Type 0} (m : IndexMap (String Global) ℕ S) (key : String Global) (n : ℕ) where
  -- a name that is not there goes last
  pub added : entity_of (map bound m.entries) (string_bytes key) ≡ None → map bound (insert_entry string_eq m.entries key n) ≡ map bound m.entries ++ binding (string_bytes key) n ∷ []
  added none =
      ap (λ es. map bound es) (insert_entry-new string_eq m key n (looked_up m.entries (string_bytes key) ∙ none))
      ∙ map-append bound m.entries ((key, n) ∷ [])

  -- the same, by what the list and the name are
  pub entered : (bs : List ScopeEntry) (name : List ℕ) (new : List (String Global × ℕ)) → map bound m.entries ≡ bs → string_bytes key ≡ name → entity_of bs name ≡ None → new ≡ insert_entry string_eq m.entries key n → map bound new ≡ bs ++ binding name n ∷ []
  entered bs name new seen text none is =
      ap (λ es. map bound es) is
      ∙ added (ap (λ l. entity_of l (string_bytes key)) seen ∙ ap (λ t. entity_of bs t) text ∙ none)
      ∙ ap (λ l. l ++ binding (string_bytes key) n ∷ []) seen
      ∙ ap (λ t. bs ++ binding t n ∷ []) text

pub found : (es : List (String Global × ℕ)) (bs : List ScopeEntry) (text name : List ℕ) → map bound es ≡ bs → text ≡ name → lookup (λ k. bytes_eq text (string_bytes k)) es ≡ entity_of bs name
found es bs text name seen is = looked_up es text ∙ ap (λ l. entity_of l text) seen ∙ ap (λ t. entity_of bs t) is
