-- Writes of values of a memory's kind.
use Rattle.std.proofs.Common.{◌≡◌, ℕ, ◌<◌, ◌^◌, List, ℤ, ap, sym, subst}
use Rattle.std.proofs.lemmas.Nat.{pow_pos}
use Rattle.dh_value.specs.declared.kinds.Kind.{Kind}
use Rattle.dh_value.specs.declared.words.Word.{Word}
use Rattle.dh_value.specs.Words.{width_of, word_of}
use Rattle.dh_value.proofs.Residues.{residue-lt}
use Rattle.dh_tree.specs.declared.tables.MemEntry.{MemEntry}
use Rattle.dh_meaning.specs.Effects.{kind_in}
use Rattle.dh_code.specs.States.{IsSmallWrite}

pub small_write : (table : List MemEntry) (memory position : ℕ) (k : Kind) (z : ℤ) (w : Word) → w ≡ word_of k z → kind_in table memory ≡ k → IsSmallWrite table (record { memory = memory; position = position; bits = w.bits })
small_write table memory position k z w is same =
    subst (λ (j : Kind). w.bits < 2 ^ width_of j) (sym same) (subst (λ (n : ℕ). n < 2 ^ width_of k) (sym (ap (λ (x : Word). x.bits) is)) (residue-lt (2 ^ width_of k) z (pow_pos (width_of k))))
