-- A walk over a whole program.
use Rattle.std.proofs.Common.{◌≡◌, ℕ, ◌+◌, List, [], ◌∷◌, ◌++◌, length, map, Option, None, sym, ap, subst, ◌∙◌, arith}
use Rattle.std.proofs.lemmas.List.{length-append, append-nil}
use Rattle.dh_tree.specs.declared.breaches.Breach.{Breach}
use Rattle.dh_tree.specs.declared.trees.programs.Decl.{Decl}
use Rattle.dh_tree.specs.declared.trees.programs.Entity.{Entity}
use Rattle.dh_tree.specs.declared.trees.programs.Tree.{Tree}
use Rattle.dh_tree.specs.declared.trees.programs.Function as code
use Rattle.dh_tree.specs.declared.trees.programs.Sort.TheVariants.{Memory, Function}
use Rattle.dh_tree.specs.PlainTrees.{Action, Declared, Defined, Program}
use Rattle.dh_tree.specs.Seen.{declared_seen, defined_seen, program_seen}
use Rattle.dh_tree.specs.LeastBreach.{least_of}
use Rattle.dh_tree.specs.Scopes.{ScopeEntry, Scope, at_end, after_function, after_functions, memory_items, function_items, merged, items_of, after_items, entity, outer_entities, first_scope, body_scope}
use Rattle.dh_tree.specs.Breaches.{breaches, functions_breaches, items_breaches, breaches_of}
use Rattle.dh_tree.specs.Resolved.{resolved_action, resolved_decls, resolved_functions, resolved}
use Rattle.dh_tree.specs.NameCounts.{declared_in, declared_in_functions, HasFewNames}
use Rattle.dh_names.specs.Walks.{NamingState, HasRoomToDeclare, Resolves}
use Rattle.dh_names.specs.Programs.{ResolvesFunctions, ResolvesItems, left}
use Rattle.dh_tree.proofs.Leasts.{least_append}
use Rattle.dh_names.proofs.FunctionsDone.{length_map, function_counted}

functions_counted : (n : ℕ) (s : Scope) (fs : List Defined) → length (after_functions n s fs).entities ≡ length s.entities + declared_in_functions fs
functions_counted n s [] = omega arith
functions_counted n s (f ∷ fs) =
    let e = functions_counted (n + 1) (after_function n s f) fs in
    let d = function_counted n s f in omega (arith, e, d)

outer_counted : (p : Program) → length (outer_entities p) ≡ length p.decls + length p.functions
outer_counted p =
    let e = length-append (map (λ d. entity d.name Memory) p.decls) (map (λ f. entity f.name Function) p.functions) in
    let d = length_map (λ d. entity d.name Memory) p.decls in
    let f = length_map (λ f. entity f.name Function) p.functions in omega (arith, e, d, f)

-- all names of memories from outside and of functions are left at first
pub all_left : (ds : List Decl) (fs : List code.Function) → left ds fs (0, 0) ≡ merged (memory_items 0 (map declared_seen ds)) (function_items (length (map declared_seen ds)) (map defined_seen fs))
all_left ds fs =
    let e = length_map declared_seen ds in
    let same : length ds + 0 ≡ length (map declared_seen ds) = omega (arith, e) in
    ap (λ n. merged (memory_items 0 (map declared_seen ds)) (function_items n (map defined_seen fs))) same

pub functions_room : (p : Program) (s : NamingState) → HasFewNames p → s.scope ≡ first_scope p → HasRoomToDeclare s (declared_in_functions p.functions)
functions_room p s few is =
    let e : length s.scope.entities ≡ length (outer_entities p) = ap (λ x. length x.entities) is in
    let d = outer_counted p in omega (arith, few, e, d)

abbrev pub program : List Declared → List Defined → Action → List Entity → Program
program ds fs b es = record { decls = ds; functions = fs; body = b; entities = es }

-- the state before the program's body
abbrev pub before_body : List ScopeEntry → List ScopeEntry → NamingState → NamingState
before_body outer top s = record { outer = outer; scope = record { visible = top; entities = s.scope.entities }; least = s.least }

pub scope_is : (p : Program) (o w : List ScopeEntry) (es : List Entity) → o ≡ [] → w ≡ [] → es ≡ outer_entities p → record { visible = o ++ w; entities = es } ≡ first_scope p
scope_is p o w es o_is w_is es_is =
    ap (λ x. record { visible = x ++ w; entities = es }) o_is ∙ ap (λ x. record { visible = x; entities = es }) w_is ∙ ap (λ x. record { visible = []; entities = x }) es_is

pub nothing_own : (o w : List ScopeEntry) → w ≡ [] → o ++ w ≡ o
nothing_own o w is = ap (λ x. o ++ x) is ∙ append-nil o

pub no_names_seen : (o w : List ScopeEntry) → o ≡ [] → w ≡ [] → o ++ w ≡ []
no_names_seen o w o_is w_is = ap (λ x. x ++ w) o_is ∙ w_is

-- names that are left, for lists that are these ones
left_is : (ds ds' : List Decl) (fs fs' : List code.Function) → ds ≡ ds' → fs ≡ fs' → left ds fs (0, 0) ≡ merged (memory_items 0 (map declared_seen ds')) (function_items (length (map declared_seen ds')) (map defined_seen fs'))
left_is ds ds' fs fs' p q = ap (λ x. left x fs (0, 0)) p ∙ ap (λ x. left ds' x (0, 0)) q ∙ all_left ds' fs'

pub start_scope : (tree : Tree) (o w : List ScopeEntry) (es : List Entity) (ds2 : List Decl) (fs2 : List code.Function) → o ≡ [] → w ≡ [] → ds2 ≡ tree.decls.items → fs2 ≡ tree.functions.items
    → es ≡ map (λ d. entity d.name Memory) (map declared_seen ds2) ++ map (λ f. entity f.name Function) (map defined_seen fs2) → record { visible = o ++ w; entities = es } ≡ first_scope (program_seen tree)
start_scope tree o w es ds2 fs2 o_is w_is d2 f2 listed =
    scope_is (program_seen tree) o w es o_is w_is (listed ∙ ap (λ x. map (λ d. entity d.name Memory) (map declared_seen x) ++ map (λ f. entity f.name Function) (map defined_seen fs2)) d2
    ∙ ap (λ x. map (λ d. entity d.name Memory) (map declared_seen tree.decls.items) ++ map (λ f. entity f.name Function) (map defined_seen x)) f2)

-- the walk over memories from outside and functions, whose calls saw lists that are those of the tree
pub items_done : (tree : Tree) (s0 s1 : NamingState) (first : Option Breach) (top vis : List ScopeEntry) (o w : List ScopeEntry) (ds1 ds2 : List Decl) (fs1 fs2 : List code.Function) (ds' : List Declared) (fs' : List Defined) (n : ℕ)
    → o ≡ [] → w ≡ [] → first ≡ None → vis ≡ [] → s0.scope.visible ≡ o ++ w
    → ds1 ≡ tree.decls.items → fs1 ≡ tree.functions.items → ds2 ≡ tree.decls.items → fs2 ≡ tree.functions.items → n ≡ length tree.decls.items
    → s0.scope.entities ≡ map (λ d. entity d.name Memory) (map declared_seen ds2) ++ map (λ f. entity f.name Function) (map defined_seen fs2)
    → top ≡ after_items vis (left ds1 fs1 (0, 0)) → s0.least ≡ least_of first (items_breaches vis (left ds1 fs1 (0, 0)))
    → ResolvesFunctions n s0 s1 (map defined_seen tree.functions.items) fs' → ds' ≡ resolved_decls 0 (map declared_seen tree.decls.items)
    → ResolvesItems (program_seen tree) s1 top ds' fs'
items_done tree s0 s1 first top vis o w ds1 ds2 fs1 fs2 ds' fs' n o_is w_is none_is vis_is seen d1 f1 d2 f2 count listed names items functions decls =
    let p = program_seen tree in
    let all = left_is ds1 tree.decls.items fs1 tree.functions.items d1 f1 in
    let scope : s0.scope ≡ first_scope p =
    ap (λ x. record { visible = x; entities = s0.scope.entities }) seen ∙ start_scope tree o w s0.scope.entities ds2 fs2 o_is w_is d2 f2 listed in
    let start : s0.least ≡ least_of None (items_breaches [] (items_of p)) =
    items ∙ ap (λ k. least_of k (items_breaches vis (left ds1 fs1 (0, 0)))) none_is ∙ ap (λ x. least_of None (items_breaches x (left ds1 fs1 (0, 0)))) vis_is ∙ ap (λ x. least_of None (items_breaches [] x)) all in
    let walked : ResolvesFunctions (length p.decls) s0 s1 p.functions fs' =
    subst (λ k. ResolvesFunctions k s0 s1 p.functions fs') (count ∙ sym (length_map declared_seen tree.decls.items)) functions in
    record {
      decls = decls;
      functions = walked.tree ∙ ap (λ y. resolved_functions (length p.decls) y p.functions) scope;
      names = names ∙ ap (λ x. after_items x (left ds1 fs1 (0, 0))) vis_is ∙ ap (λ x. after_items [] x) all;
      entities = ap (λ s. s.scope.entities) walked.state ∙ ap (λ y. (after_functions (length p.decls) y p.functions).entities) scope;
      least = ap (λ s. s.least) walked.state ∙ ap (λ y. least_of s0.least (functions_breaches (length p.decls) y p.functions)) scope
          ∙ ap (λ k. least_of k (functions_breaches (length p.decls) (first_scope p) p.functions)) start;
    }

module _ (p : Program) (s1 s3 : NamingState) (outer top : List ScopeEntry) (ds' : List Declared) (fs' : List Defined) (b' : Action) (few : HasFewNames p) (items : ResolvesItems p s1 top ds' fs')
    (body : HasRoomToDeclare (before_body outer top s1) (declared_in p.body) → Resolves (before_body outer top s1) s3 p.body b') where
  room : HasRoomToDeclare (before_body outer top s1) (declared_in p.body)
  room =
      let e : length s1.scope.entities ≡ length (after_functions (length p.decls) (first_scope p) p.functions).entities = ap (λ l. length l) items.entities in
      let f = functions_counted (length p.decls) (first_scope p) p.functions in
      let d = outer_counted p in omega (arith, few, e, f, d)

  body_then : (before_body outer top s1).scope ≡ body_scope p
  body_then =
      ap (λ l. record { visible = l; entities = s1.scope.entities }) items.names ∙ ap (λ l. record { visible = after_items [] (items_of p); entities = l }) items.entities

  done : Resolves (before_body outer top s1) s3 p.body b'
  done = body room

  pub program_tree : program ds' fs' b' s3.scope.entities ≡ resolved p
  program_tree =
      ap (λ y. program y fs' b' s3.scope.entities) items.decls
      ∙ ap (λ y. program (resolved_decls 0 p.decls) y b' s3.scope.entities) items.functions
      ∙ ap (λ y. program (resolved_decls 0 p.decls) (resolved p).functions y s3.scope.entities) (done.tree ∙ ap (λ y. resolved_action y p.body) body_then)
      ∙ ap (λ y. program (resolved_decls 0 p.decls) (resolved p).functions (resolved p).body y) (ap (λ s. s.scope.entities) done.state ∙ ap (λ y. (at_end y p.body).entities) body_then)

  pub program_least : s3.least ≡ least_of None (breaches_of p)
  program_least =
      let i = items_breaches [] (items_of p) in
      let f = functions_breaches (length p.decls) (first_scope p) p.functions in
      let b = breaches (body_scope p) p.body in
      ap (λ s. s.least) done.state
      ∙ ap (λ y. least_of s1.least (breaches y p.body)) body_then
      ∙ ap (λ k. least_of k b) items.least
      ∙ sym (least_append (least_of None i) f b)
      ∙ sym (least_append None i (f ++ b))
