-- Resolving a resolved program changes nothing, and finds the same breaches.
use Rattle.std.proofs.Common.{◌≡◌, ℕ, suc, ◌+◌, Bool, true, false, List, [], ◌∷◌, ◌++◌, length, map, refl, ap, ◌∙◌, if◌then◌else◌}
use Rattle.dh_tree.specs.declared.trees.programs.Entity.{Entity}
use Rattle.dh_tree.specs.declared.trees.programs.Sort.TheVariants.{Memory, Function}
use Rattle.dh_tree.specs.PlainTrees.{Action, Declared, Defined, Program}
use Rattle.dh_tree.specs.LeastBreach.{is_before}
use Rattle.dh_tree.specs.Scopes.{ScopeEntry, bind, Scope, at_end, after_functions, Item, memory_items, function_items, merged, items_of, after_items, entity, first_scope, body_scope, after_function}
use Rattle.dh_tree.specs.Breaches.{twice, breaches, functions_breaches, items_breaches, breaches_of}
use Rattle.dh_tree.specs.Resolved.{numbered, resolved_action, resolved_decls, resolved_functions, resolved}
use Rattle.dh_names.proofs.Again.{end_again, action_alike, action_again, functions_end_again, functions_alike, functions_again}

abbrev item_again : Item → Item
item_again i = record { name = numbered i.entity i.name; entity = i.entity }

memory_items_again : (n : ℕ) (ds : List Declared) → memory_items n (resolved_decls n ds) ≡ map item_again (memory_items n ds)
memory_items_again n [] = refl
memory_items_again n (d ∷ ds) = ap (λ l. record { name = numbered n d.name; entity = n } ∷ l) (memory_items_again (n + 1) ds)

function_items_again : (n : ℕ) (s : Scope) (fs : List Defined) → function_items n (resolved_functions n s fs) ≡ map item_again (function_items n fs)
function_items_again n s [] = refl
function_items_again n s (f ∷ fs) = ap (λ l. record { name = numbered n f.name; entity = n } ∷ l) (function_items_again (n + 1) (after_function n s f) fs)

merged_again : (ms fs : List Item) → merged (map item_again ms) (map item_again fs) ≡ map item_again (merged ms fs)
merged_again [] fs = refl
merged_again (m ∷ ms) [] = refl
merged_again (m ∷ ms) (f ∷ fs) = by (is_before f.name.place m.name.place) (merged_again (m ∷ ms) fs) (merged_again ms (f ∷ fs))
  where
    by : (b : Bool) → merged (map item_again (m ∷ ms)) (map item_again fs) ≡ map item_again (merged (m ∷ ms) fs) → merged (map item_again ms) (map item_again (f ∷ fs)) ≡ map item_again (merged ms (f ∷ fs))
        → (if b then item_again f ∷ merged (map item_again (m ∷ ms)) (map item_again fs) else item_again m ∷ merged (map item_again ms) (map item_again (f ∷ fs)))
        ≡ map item_again (if b then f ∷ merged (m ∷ ms) fs else m ∷ merged ms (f ∷ fs))
    by true p q = ap (λ l. item_again f ∷ l) p
    by false p q = ap (λ l. item_again m ∷ l) q

items_alike : (bs : List ScopeEntry) (list : List Item) → items_breaches bs (map item_again list) ≡ items_breaches bs list
items_alike bs [] = refl
items_alike bs (i ∷ is) = ap (λ l. twice bs i.name ++ l) (items_alike (bind bs i.name.name i.entity) is)

items_end_again : (bs : List ScopeEntry) (list : List Item) → after_items bs (map item_again list) ≡ after_items bs list
items_end_again bs [] = refl
items_end_again bs (i ∷ is) = items_end_again (bind bs i.name.name i.entity) is

decls_length : (n : ℕ) (ds : List Declared) → length (resolved_decls n ds) ≡ length ds
decls_length n [] = refl
decls_length n (d ∷ ds) = ap (λ k. suc k) (decls_length (n + 1) ds)

decls_again : (n : ℕ) (ds : List Declared) → resolved_decls n (resolved_decls n ds) ≡ resolved_decls n ds
decls_again n [] = refl
decls_again n (d ∷ ds) = ap (λ l. record { name = numbered n d.name; shape = d.shape; shape_places = d.shape_places } ∷ l) (decls_again (n + 1) ds)

decl_entities : (n : ℕ) (ds : List Declared) → map (λ d. entity d.name Memory) (resolved_decls n ds) ≡ map (λ d. entity d.name Memory) ds
decl_entities n [] = refl
decl_entities n (d ∷ ds) = ap (λ l. entity d.name Memory ∷ l) (decl_entities (n + 1) ds)

function_entities : (n : ℕ) (s : Scope) (fs : List Defined) → map (λ f. entity f.name Function) (resolved_functions n s fs) ≡ map (λ f. entity f.name Function) fs
function_entities n s [] = refl
function_entities n s (f ∷ fs) = ap (λ l. entity f.name Function ∷ l) (function_entities (n + 1) (after_function n s f) fs)

module _ (p : Program) where
  abbrev count : ℕ
  count = length p.decls

  count_again : length (resolved p).decls ≡ count
  count_again = decls_length 0 p.decls

  first_again : first_scope (resolved p) ≡ first_scope p
  first_again =
      ap (λ l. record { visible = []; entities = l ++ map (λ f. entity f.name Function) (resolved p).functions }) (decl_entities 0 p.decls)
      ∙ ap (λ l. record { visible = []; entities = map (λ d. entity d.name Memory) p.decls ++ l }) (function_entities count (first_scope p) p.functions)

  items_again : items_of (resolved p) ≡ map item_again (items_of p)
  items_again =
      ap (λ l. merged l (function_items (length (resolved p).decls) (resolved p).functions)) (memory_items_again 0 p.decls)
      ∙ ap (λ n. merged (map item_again (memory_items 0 p.decls)) (function_items n (resolved p).functions)) count_again
      ∙ ap (λ l. merged (map item_again (memory_items 0 p.decls)) l) (function_items_again count (first_scope p) p.functions)
      ∙ merged_again (memory_items 0 p.decls) (function_items count p.functions)

  last_again : after_functions (length (resolved p).decls) (first_scope (resolved p)) (resolved p).functions ≡ after_functions count (first_scope p) p.functions
  last_again =
      ap (λ n. after_functions n (first_scope (resolved p)) (resolved p).functions) count_again
      ∙ ap (λ s. after_functions count s (resolved p).functions) first_again
      ∙ functions_end_again count (first_scope p) p.functions

  body_again : body_scope (resolved p) ≡ body_scope p
  body_again =
      ap (λ l. record { visible = after_items [] l; entities = (after_functions (length (resolved p).decls) (first_scope (resolved p)) (resolved p).functions).entities }) items_again
      ∙ ap (λ l. record { visible = l; entities = (after_functions (length (resolved p).decls) (first_scope (resolved p)) (resolved p).functions).entities }) (items_end_again [] (items_of p))
      ∙ ap (λ s. record { visible = after_items [] (items_of p); entities = s.entities }) last_again

  pub breaches_again : breaches_of (resolved p) ≡ breaches_of p
  breaches_again =
      ap (λ l. l ++ (functions_breaches (length (resolved p).decls) (first_scope (resolved p)) (resolved p).functions ++ breaches (body_scope (resolved p)) (resolved p).body))
      (ap (λ l. items_breaches [] l) items_again ∙ items_alike [] (items_of p))
      ∙ ap (λ l. items_breaches [] (items_of p) ++ (l ++ breaches (body_scope (resolved p)) (resolved p).body))
      (ap (λ n. functions_breaches n (first_scope (resolved p)) (resolved p).functions) count_again
      ∙ ap (λ s. functions_breaches count s (resolved p).functions) first_again ∙ functions_alike count (first_scope p) p.functions)
      ∙ ap (λ l. items_breaches [] (items_of p) ++ (functions_breaches count (first_scope p) p.functions ++ l))
      (ap (λ s. breaches s (resolved p).body) body_again ∙ action_alike (body_scope p) p.body)

  functions_twice : resolved_functions (length (resolved p).decls) (first_scope (resolved p)) (resolved p).functions ≡ (resolved p).functions
  functions_twice =
      ap (λ n. resolved_functions n (first_scope (resolved p)) (resolved p).functions) count_again
      ∙ ap (λ s. resolved_functions count s (resolved p).functions) first_again
      ∙ functions_again count (first_scope p) p.functions

  body_twice : resolved_action (body_scope (resolved p)) (resolved p).body ≡ (resolved p).body
  body_twice = ap (λ s. resolved_action s (resolved p).body) body_again ∙ action_again (body_scope p) p.body

  end_twice : (at_end (body_scope (resolved p)) (resolved p).body).entities ≡ (resolved p).entities
  end_twice = ap (λ s. (at_end s (resolved p).body).entities) body_again ∙ ap (λ s. s.entities) (end_again (body_scope p) p.body)

  abbrev made : List Declared → List Defined → Action → List Entity → Program
  made ds fs b es = record { decls = ds; functions = fs; body = b; entities = es }

  pub resolved_again : resolved (resolved p) ≡ resolved p
  resolved_again =
      ap (λ ds. made ds (resolved (resolved p)).functions (resolved (resolved p)).body (resolved (resolved p)).entities) (decls_again 0 p.decls)
      ∙ ap (λ fs. made (resolved p).decls fs (resolved (resolved p)).body (resolved (resolved p)).entities) functions_twice
      ∙ ap (λ b. made (resolved p).decls (resolved p).functions b (resolved (resolved p)).entities) body_twice
      ∙ ap (λ es. made (resolved p).decls (resolved p).functions (resolved p).body es) end_twice
