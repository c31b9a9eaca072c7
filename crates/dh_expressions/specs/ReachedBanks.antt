-- Which bank an access reaches at a path, told by the first turn of each loop.
use Rattle.std.specs.Prelude.{◌≡◌, ℕ, ◌+◌, ◌-◌, ◌*◌, ◌%◌, ◌^◌, min, if◌then◌else◌, List, [], ◌∷◌, map, slice_get, Option, Some, None, pos, ◌+ℤ◌, unsigned_abs}
use Rattle.dh_tree.specs.declared.tables.Dim.{Dim}
use Rattle.dh_tree.specs.declared.trees.counters.Counter.{Counter}
use Rattle.dh_tree.specs.Counters.{counters_of}
use Rattle.dh_tree.specs.Elements.{bank_of, dims_at}
use Rattle.dh_tree.specs.Indices.{IndexKind, constant, iterator, dynamic, index_kind}
use Rattle.dh_tree.specs.Memories.{same_entity, table_of}
use Rattle.dh_tree.specs.PlainTrees.{Term, term, TermForm, accessed, in_bank, Terms, no_terms, term_then, Program}
use Rattle.dh_tree.specs.Seen.{program_seen}
use Rattle.dh_meaning.specs.CoreOf.{dims_by}
use Rattle.dh_meaning.specs.Ways.{Way}
use Rattle.dh_expressions.specs.declared.banks.BankSpan.{BankSpan}
use Rattle.dh_expressions.specs.declared.paths.Level.{Level}
use Rattle.dh_expressions.specs.declared.scenes.Scene.{Scene}
use Rattle.dh_expressions.specs.Levels.{copy_to}
use Rattle.dh_expressions.specs.Named.{known_in, way_named}

-- the number of the loop that has an iterator; that of all loops where none has
abbrev pub level_with : List Level → (entity : Option ℕ) → ℕ
level_with [] entity = 0
level_with (l ∷ ls) entity = if same_entity l.entity entity then 0 else level_with ls entity + 1

-- an index in the first turn, as far as its bank goes
abbrev pub index_first : List Level → (path : ℕ) → IndexKind → ℕ
index_first levels path (constant z) = unsigned_abs z
index_first levels path (iterator c offset) = unsigned_abs (pos (c.low + copy_to (slice_get levels (level_with levels c.entity)) path) +ℤ offset)
index_first levels path dynamic = 0

abbrev pub term_first : List Counter → List Level → (path : ℕ) → Term → ℕ
term_first cs levels path (term place kind form) = index_first levels path (index_kind cs kind form)

abbrev pub indices_first : List Counter → List Level → (path : ℕ) → Terms → List ℕ
indices_first cs levels path no_terms = []
indices_first cs levels path (term_then t rest) = term_first cs levels path t ∷ indices_first cs levels path rest

-- the bank of what an access names: of a memory, or of the view that has this way
abbrev pub bank_by : Program → Option Way → List Level → (memory : ℕ) → TermForm → (path : ℕ) → ℕ
bank_by p way levels memory (accessed r indices) path = bank_of (dims_by (dims_at (table_of p) memory) way) (indices_first (counters_of p) levels path indices)
bank_by p way levels memory (in_bank r bank place row) path = bank
bank_by p way levels memory form path = 0

-- The same by spans.

-- the index of a dimension
abbrev pub span_index : BankSpan → List Level → (path : ℕ) → ℕ
span_index s levels path = unsigned_abs (pos (s.low + copy_to (slice_get levels s.level) path) +ℤ s.offset)

abbrev pub span_bank : BankSpan → List Level → (path : ℕ) → ℕ
span_bank s levels path = span_index s levels path % s.banks

abbrev pub spans_bank : List BankSpan → List Level → (path : ℕ) → ℕ
spans_bank [] levels path = 0
spans_bank (s ∷ ss) levels path = span_bank s levels path * s.times + spans_bank ss levels path

abbrev pub spans_number : List BankSpan → List Level → (own path : ℕ) → ℕ
spans_number spans levels own path = own + spans_bank spans levels path

-- these spans, with a number that an access names itself, tell the bank that it reaches at each path
abbrev pub TellsBank : Scene → List Level → (memory : ℕ) → TermForm → List BankSpan → (own : ℕ) → Type 0
TellsBank scene levels memory form spans own =
    (path : ℕ) → min (spans_number spans levels own path) (2 ^ 64 - 1)
    ≡ min (bank_by (program_seen scene.program.now) (way_named (known_in scene) form) levels memory form path) (2 ^ 64 - 1)

-- a dimension of so many banks, with so many behind it, whose index is of this kind
pub record IsSpan (levels : List Level) (kind : IndexKind) (banks times : ℕ) (s : BankSpan) : Type 0 where
  pub banks_is : s.banks ≡ banks
  pub times_is : s.times ≡ times
  pub index_is : (path : ℕ) → span_index s levels path ≡ index_first levels path kind

-- what a dimension adds to a bank, by an index that may lack
abbrev pub bank_added : List Counter → List Level → (banks times path : ℕ) → Option Term → ℕ
bank_added cs levels banks times path None = 0
bank_added cs levels banks times path (Some t) = (term_first cs levels path t % banks) * times

abbrev pub AddsSpan : Scene → List Level → (banks times : ℕ) → Option Term → (old new : List BankSpan) → Type 0
AddsSpan scene levels banks times index old new =
    (path : ℕ) → spans_bank new levels path ≡ spans_bank old levels path + bank_added (counters_of (program_seen scene.program.now)) levels banks times path index

-- the spans tell the bank that indices tell, in 64 bits
abbrev pub TellsSpans : Scene → List Level → List Dim → List Term → List BankSpan → Type 0
TellsSpans scene levels dims indices spans =
    (path : ℕ) → min (spans_bank spans levels path) (2 ^ 64 - 1) ≡ min (bank_of dims (map (λ t. term_first (counters_of (program_seen scene.program.now)) levels path t) indices)) (2 ^ 64 - 1)
