use Rattle.std.specs.Prelude.{◌≡◌, ◌++◌, map, drop}
use Rattle.dh_tree.specs.declared.trees.programs.Sort.TheVariants as sort
use Rattle.dh_tree.specs.Seen.{declared_seen, defined_seen}
use Rattle.dh_tree.specs.Scopes.{entity}
use Rattle.dh_names.proofs.programs.list_outer.Given as goal

abbrev pub invariant-loop-decl : goal.invariant-loop-decl
invariant-loop-decl l =
    l.entities.items ++ map (λ d. entity d.name sort.Memory) (map declared_seen (drop l.decl-index l.decls)) ≡ map (λ d. entity d.name sort.Memory) (map declared_seen l.decls)

abbrev pub invariant-loop-function : goal.invariant-loop-function
invariant-loop-function l =
    l.entities.items ++ map (λ f. entity f.name sort.Function) (map defined_seen (drop l.function-index l.functions))
    ≡ map (λ d. entity d.name sort.Memory) (map declared_seen l.decls) ++ map (λ f. entity f.name sort.Function) (map defined_seen l.functions)
