-- A read in a row of a bank depends on what its row depends on, since a memory is no variable.
use Rattle.std.proofs.Common.{◌≡◌, ℕ, ◌||◌, sym, ap}
use Rattle.dh_tree.specs.declared.trees.expressions.Ref.{Ref}
use Rattle.dh_tree.specs.PlainTrees.{Term}
use Rattle.dh_meaning.specs.CoreOf.{Known}
use Rattle.dh_meets.specs.Charges.{entity_depends, term_depends}
use Rattle.dh_blocks.specs.SoundTerms.{IsUnbound}

pub row_depends : (known : Known) (r : Ref) (row : Term) → IsUnbound known r → (l : ℕ) → term_depends known.bindings l row ≡ (entity_depends known.bindings l r.entity || term_depends known.bindings l row)
row_depends known r row unbound l = sym (ap (λ d. d || term_depends known.bindings l row) (unbound l))
