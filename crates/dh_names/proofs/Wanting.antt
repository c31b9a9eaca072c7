-- Want of memory: where a part of a tree declares a name, the whole does, so that what the part answers holds
-- of the whole.
use Rattle.std.proofs.Common.{◌≡◌, ℕ, ◌+◌, ◌<◌, List, length, Result, Ok, Err, sym, ap, ◌∙◌, arith}
use Rattle.std.specs.Result.{OnOk}
use Rattle.dh_base.specs.declared.lists.NoMemory.{NoMemory}
use Rattle.dh_tree.specs.declared.trees.programs.Decl.{Decl}
use Rattle.dh_tree.specs.declared.trees.programs.Function.{Function}
use Rattle.dh_tree.specs.declared.trees.programs.Tree.{Tree}
use Rattle.dh_tree.specs.Seen.{action_seen, declared_seen, defined_seen, program_seen}
use Rattle.dh_tree.specs.Scopes.{ScopeEntry, bind}
use Rattle.dh_tree.specs.NameCounts.{declared_in, names_declared}
use Rattle.dh_names.specs.Visible.{Binds}
use Rattle.dh_names.proofs.FunctionsDone.{length_map}

pub bound_ok : (old new : List ScopeEntry) (name : List ℕ) (n : ℕ) (r : Result (Unit {0}) NoMemory) → Binds old new name n r → OnOk r (new ≡ bind old name n)
bound_ok old new name n (Ok u) h = h
bound_ok old new name n (Err e) h = tt

pub some_items : (tree : Tree) (ds : List Decl) (fs : List Function) → ds ≡ tree.decls.items → fs ≡ tree.functions.items → 0 < length ds + length fs → 0 < names_declared (program_seen tree)
some_items tree ds fs a b h =
    let d = ap (λ l. length l) a ∙ sym (length_map declared_seen tree.decls.items) in
    let f = ap (λ l. length l) b ∙ sym (length_map defined_seen tree.functions.items) in
    omega (arith, h, d, f)

pub some_functions : (tree : Tree) → 0 < length tree.functions.items → 0 < names_declared (program_seen tree)
some_functions tree h =
    let f = length_map defined_seen tree.functions.items in
    omega (arith, h, f)

pub some_body : (tree : Tree) → 0 < declared_in (action_seen tree.body) → 0 < names_declared (program_seen tree)
some_body tree h = omega (arith, h)
