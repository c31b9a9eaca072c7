-- The values of expressions: their kinds, and that they are words.
use Rattle.std.proofs.Common.{◌≡◌, ℕ, ◌-◌, ◌%◌, ◌^◌, ◌<◌, Bool, true, false, if◌then◌else◌, List, length, take, drop, Some, None, ℤ, refl, ap, sym, ◌∙◌, subst}
use Rattle.std.specs.Prelude.{Option}
use Rattle.std.specs.List.{AllByRecursion}
use Rattle.std.proofs.lemmas.Nat.{pow_pos}
use Rattle.std.proofs.Math.Nat.{mod-lt}
use Rattle.dh_value.specs.declared.kinds.Kind.{Kind}
use Rattle.dh_value.specs.declared.operators.Op.{Op}
use Rattle.dh_value.specs.Words.{IsWord, IsKind, IsInteger, width_of}
use Rattle.dh_value.specs.Operations.{Suits, result_of}
use Rattle.dh_value.proofs.Values.{integer_width}
use Rattle.dh_value.proofs.WordLaws.{word_of_is_word, truth_is_word, binary_is_word, binary_kind}
use Rattle.dh_tree.specs.declared.tables.MemEntry.{MemEntry}
use Rattle.dh_tree.specs.Elements.{Spot}
use Rattle.dh_tree.specs.Shapes.{IsMemory}
use Rattle.dh_meaning.specs.Paths.{Path}
use Rattle.dh_meaning.specs.Core.{Reach, CoreTerm, literal, truth_literal, variable, read, binary, convert, Target, by_indices, by_row, by_views}
use Rattle.dh_meaning.specs.Effects.{Begun, Variables, bits_at, bits_of, indices_through, kind_in, spot_if_inside, spot_reached, value_of_term, values_of}
use Rattle.dh_code.specs.Scenes.{AreSmall}
use Rattle.dh_code.specs.Suited.{IsSuited, IsSuitedTarget, term_kind}
use Rattle.dh_code.proofs.Entries.{entry_at, kind_is, no_entry}

pub bits_fit : (k : Kind) (negative : Bool) (n : ℕ) → bits_of k negative n < 2 ^ width_of k
bits_fit k false n = mod-lt n (pow_pos (width_of k))
bits_fit k true n = mod-lt (2 ^ width_of k - n % 2 ^ width_of k) (pow_pos (width_of k))

pub suits_at : (o : Op) {j j' k k' : Kind} → j ≡ j' → k ≡ k' → Suits o j k → Suits o j' k'
suits_at o {j} {j'} {k} {k'} e f h = subst (λ (x : Kind). Suits o j' x) f (subst (λ (x : Kind). Suits o x k) e h)

pub sized_at : (table : List MemEntry) (memory : ℕ) → AllByRecursion IsMemory table → memory < length table → IsKind (kind_in table memory)
sized_at table memory entries there = integer_width _ (subst (λ (k : Kind). IsInteger k) (sym (kind_is table memory no_entry there)) (entry_at table memory no_entry there entries).shape.integer)

-- what an element holds is a value of its kind
small_at : (table : List MemEntry) (memories : List (List ℕ)) (memory : ℕ) (o : Option Spot) → AreSmall table memories → ((s : Spot) → o ≡ Some s → s.memory ≡ memory) → bits_at memories o < 2 ^ width_of (kind_in table memory)
small_at table memories memory None small at = pow_pos (width_of (kind_in table memory))
small_at table memories memory (Some s) small at = subst (λ (m : ℕ). bits_at memories (Some s) < 2 ^ width_of (kind_in table m)) (at s refl) (small s.memory s.position)

module _ (b : Begun) (variables : Variables) (path : Path) where
  -- the value of an expression has its kind
  pub value_kind : (t : CoreTerm) → (value_of_term b variables path t).kind ≡ term_kind b.table t
  value_kind (literal kind negative n) = refl
  value_kind (truth_literal value) = refl
  value_kind (variable kind depth entity) = refl
  value_kind (read r target) = refl
  value_kind (binary o left right) = binary_kind o (value_of_term b variables path left) (value_of_term b variables path right) ∙ ap (λ k. result_of o k) (value_kind left)
  value_kind (convert to inner) = refl

  pub of_memory : (r : Reach) (target : Target) (s : Spot) → spot_reached b variables path r target ≡ Some s → s.memory ≡ r.memory
  of_memory r (by_indices indices) s e = chosen _ _ _ e
    where
      chosen : (t : Bool) (x s : Spot) → (if t then Some x else None) ≡ Some s → s.memory ≡ x.memory
      chosen true x s e = let f : x ≡ s = cc in ap (λ (y : Spot). y.memory) (sym f)
      chosen false x s e = absurd cc
  of_memory r (by_views steps n terms) s e = through (indices_through steps (take n values) (drop n values)) e
    where
      values : List ℤ
      values = values_of b variables path terms

      chosen : (t : Bool) (x s : Spot) → (if t then Some x else None) ≡ Some s → s.memory ≡ x.memory
      chosen true x s e = let f : x ≡ s = cc in ap (λ (y : Spot). y.memory) (sym f)
      chosen false x s e = absurd cc

      through : (o : Option (List ℤ)) → spot_if_inside b.table r.memory o ≡ Some s → s.memory ≡ r.memory
      through None e = absurd cc
      through (Some is) e = chosen _ _ _ e
  of_memory r (by_row bank row) s e = chosen _ _ _ e
    where
      chosen : (t : Bool) (x s : Spot) → (if t then Some x else None) ≡ Some s → s.memory ≡ x.memory
      chosen true x s e = let f : x ≡ s = cc in ap (λ (y : Spot). y.memory) (sym f)
      chosen false x s e = absurd cc

  memory_there : (r : Reach) (target : Target) → IsSuitedTarget b.table r.memory target → r.memory < length b.table
  memory_there r (by_indices indices) h = h.0
  memory_there r (by_views steps n terms) h = h.0
  memory_there r (by_row bank row) h = h.0.0

  -- an expression that suits has a word for its value
  pub value_word : AllByRecursion IsMemory b.table → AreSmall b.table b.memories → (t : CoreTerm) → IsSuited b.table t → IsWord (value_of_term b variables path t)
  value_word entries small (literal kind negative n) h = record { sized = h; fits = bits_fit kind negative n }
  value_word entries small (truth_literal value) h = truth_is_word value
  value_word entries small (variable kind depth entity) h = word_of_is_word kind _ h
  value_word entries small (read r target) h = record {
    sized = sized_at b.table r.memory entries (memory_there r target h);
    fits = small_at b.table b.memories r.memory (spot_reached b variables path r target) small (of_memory r target);
  }
  value_word entries small (binary o left right) h =
      binary_is_word o (value_of_term b variables path left) (value_of_term b variables path right) (value_word entries small left h.1.0) (value_word entries small right h.1.1)
      (suits_at o (sym (value_kind left)) (sym (value_kind right)) h.0)
  value_word entries small (convert to inner) h = word_of_is_word to _ (integer_width to h.0)
