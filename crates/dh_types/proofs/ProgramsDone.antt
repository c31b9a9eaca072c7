-- A walk over a whole program.
use Rattle.std.proofs.Common.{◌≡◌, List, [], ◌∷◌, ◌++◌, map, Option, None, Result, Ok, Err, inr, refl, sym, ap, subst, ◌∙◌}
use Rattle.dh_base.specs.declared.faults.PassFault.{PassFault}
use Rattle.dh_base.specs.declared.faults.PassFault.TheVariants as fault
use Rattle.dh_tree.specs.declared.breaches.Breach.{Breach}
use Rattle.dh_tree.specs.declared.trees.programs.Decl.{Decl}
use Rattle.dh_tree.specs.declared.trees.programs.Function as code
use Rattle.dh_tree.specs.declared.trees.programs.Tree.{Tree}
use Rattle.dh_tree.specs.declared.trees.typed.Typed.{Typed}
use Rattle.dh_tree.specs.PlainTrees.{Action, Defined, Program}
use Rattle.dh_tree.specs.Seen.{declared_seen, defined_seen, action_seen, program_seen}
use Rattle.dh_tree.specs.LeastBreach.{breach, least_of}
use Rattle.dh_tree.specs.Breaches.{KeepsNames}
use Rattle.dh_tree.specs.Resolved.{HasEntities}
use Rattle.dh_tree.specs.Kinds.{Facts, declared_facts, function_fact, first_facts, facts_after, facts_after_function, facts_after_functions, typed_action, typed_function, typed_functions, typed, HasKinds}
use Rattle.dh_tree.specs.KindBreaches.{action_kind_breaches, functions_kind_breaches, kind_breaches, KeepsKinds}
use Rattle.dh_tree.proofs.TypedAgain.{typed_again}
use Rattle.dh_tree.proofs.TypedNames.{names_kept}
use Rattle.dh_tree.proofs.TypedEntities.{entities_kept}
use Rattle.dh_tree.proofs.FirstBreaches.{none_is_kept, least_is_kept}
use Rattle.dh_types.specs.Walks.{TypingState, nothing_known, knows, Types, TypesFunctions}
use Rattle.dh_types.specs.Programs.{FindsKinds, TypesTree, SettlesKinds, Answers}
use Rattle.dh_types.proofs.FormsDone.{next_step}

-- the kinds of parameters stay
signatures_kept : (facts : Facts) (fs : List Defined) → map function_fact (typed_functions facts fs) ≡ map function_fact fs
signatures_kept facts [] = refl
signatures_kept facts (f ∷ fs) = ap (λ l. function_fact f ∷ l) (signatures_kept (facts_after_function facts (typed_function facts f)) fs)

abbrev program : Program → List Defined → Action → Program
program p fs b = record { decls = p.decls; functions = fs; body = b; entities = p.entities }

abbrev state : Facts → Option Breach → TypingState
state facts least = record { facts = facts; least = least }

module _ (p : Program) (s2 s3 s4 : TypingState) (fs' : List Defined) (b' : Action) (start : s2 ≡ state (first_facts p) None) (functions : TypesFunctions s2 s3 p.functions fs') (body : Types s3 s4 p.body b') where
  functions_are : fs' ≡ typed_functions (first_facts p) p.functions
  functions_are = functions.tree ∙ ap (λ s. typed_functions s.facts p.functions) start

  facts_are : s3.facts ≡ facts_after_functions (first_facts p) fs'
  facts_are = ap (λ s. s.facts) functions.state ∙ ap (λ s. facts_after_functions s.facts fs') start

  body_is : b' ≡ typed_action (facts_after_functions (first_facts p) (typed_functions (first_facts p) p.functions)) p.body
  body_is = body.tree ∙ ap (λ fs. typed_action fs p.body) (facts_are ∙ ap (λ l. facts_after_functions (first_facts p) l) functions_are)

  pub program_is : program p fs' b' ≡ typed p
  program_is = ap (λ l. program p l b') functions_are ∙ ap (λ b. program p (typed_functions (first_facts p) p.functions) b) body_is

  abbrev found : Facts → List Breach
  found facts = functions_kind_breaches facts fs' ++ action_kind_breaches (facts_after_functions facts fs') b'

  pub least_is : s4.least ≡ least_of None (kind_breaches (typed p))
  least_is =
      let both = next_step s2 s3 s4 (functions_kind_breaches s2.facts fs') (facts_after_functions s2.facts fs') (λ fs. action_kind_breaches fs b') (λ fs. facts_after fs b') functions.state body.state in
      let same : first_facts p ≡ first_facts (program p fs' b') =
      ap (λ l. declared_facts p.decls ++ l) (sym (signatures_kept (first_facts p) p.functions) ∙ ap (map function_fact) (sym functions_are)) in
      ap (λ s. s.least) both
      ∙ ap (λ s. least_of s.least (found s.facts)) start
      ∙ ap (λ fs. least_of None (found fs)) same
      ∙ ap (λ q. least_of None (kind_breaches q)) program_is

-- what is known before the first function
known_first : (t : Tree) (s0 s1 s2 : TypingState) (ds : List Decl) (fs : List code.Function) → s0 ≡ nothing_known → ds ≡ t.decls.items → fs ≡ t.functions.items
    → s1 ≡ knows s0 (declared_facts (map declared_seen ds)) → s2 ≡ knows s1 (map function_fact (map defined_seen fs))
    → s2 ≡ state (first_facts (program_seen t)) None
known_first t s0 s1 s2 ds fs start d f one two =
    two ∙ ap (λ s. knows s (map function_fact (map defined_seen fs))) (one ∙ ap (λ s. knows s (declared_facts (map declared_seen ds))) start)
    ∙ ap (λ l. state (declared_facts (map declared_seen l) ++ map function_fact (map defined_seen fs)) None) d
    ∙ ap (λ l. state (declared_facts (map declared_seen t.decls.items) ++ map function_fact (map defined_seen l)) None) f

-- the walk over a program, from what its calls did
pub walk_done : (t : Tree) (s0 s1 s2 s3 s4 : TypingState) (ds : List Decl) (fs : List code.Function) (fs' : List Defined) (b' : Action) → s0 ≡ nothing_known → ds ≡ t.decls.items → fs ≡ t.functions.items
    → s1 ≡ knows s0 (declared_facts (map declared_seen ds)) → s2 ≡ knows s1 (map function_fact (map defined_seen fs))
    → TypesFunctions s2 s3 (map defined_seen t.functions.items) fs' → Types s3 s4 (action_seen t.body) b' → FindsKinds (program_seen t) (program (program_seen t) fs' b') s4.least
walk_done t s0 s1 s2 s3 s4 ds fs fs' b' start d f one two functions body =
    let known = known_first t s0 s1 s2 ds fs start d f one two in
    record { tree = program_is (program_seen t) s2 s3 s4 fs' b' known functions body; least_kept = least_is (program_seen t) s2 s3 s4 fs' b' known functions body }

-- a walk over the tree of a program is one over the program
pub walked_as : (n t u : Tree) (least : Option Breach) → t ≡ n → TypesTree t u least → TypesTree n u least
walked_as n t u least same walked = subst (λ x. TypesTree x u least) same walked

-- what holds of the tree behind the walk, and what is answered
module _ (n u : Tree) (least : Option Breach) (walked : TypesTree n u least) where
  pub suits : least ≡ None → KeepsKinds (program_seen u)
  suits is = subst KeepsKinds (sym walked.tree) (none_is_kept (kind_breaches (typed (program_seen n))) (sym walked.least_kept ∙ is))

  pub has_names : KeepsNames (program_seen n) → KeepsNames (program_seen u)
  has_names names = subst KeepsNames (sym walked.tree) (names_kept (program_seen n) names)

  pub has_entities : HasEntities (program_seen n) → HasEntities (program_seen u)
  has_entities entities = subst HasEntities (sym walked.tree) (entities_kept (program_seen n) entities)

  pub has_kinds : HasKinds (program_seen u)
  has_kinds = subst HasKinds (sym walked.tree) (typed_again (program_seen n))

  pub answered : (r : Result Typed PassFault) → SettlesKinds u least r → Answers (program_seen n) r
  answered (Ok t) is = ap (λ x. program_seen x) is ∙ walked.tree
  answered (Err (fault.Refused rule place)) is = least_is_kept (kind_breaches (typed (program_seen n))) (breach rule place) (sym walked.least_kept ∙ is)
  answered (Err fault.NoMemory) is = inr (none_is_kept (kind_breaches (typed (program_seen n))) (sym walked.least_kept ∙ is))
