-- How a read of an open file ends, from the facts of its steps. The reader was cut one byte past the
-- limit. If more bytes came than the limit, the file has more, since a cut takes a prefix. If no
-- more came, the cut was not reached, so the prefix is the whole file.
use Rattle.std.proofs.Common.{ℕ, ◌≡◌, ◌<◌, ◌≤◌, ◌+◌, ◌-◌, ◌^◌, List, [], ◌++◌, take, length, min, Option, Some, None, option_map, IfSome, sym, ◌∙◌, ap, subst, inl, inr, Result, Ok, Err, Vec, arith}
use Rattle.std.proofs.lemmas.List.{length-take, take_all}
use Rattle.dh_base.specs.declared.outside.FileFault.{FileFault}
use Rattle.dh_base.specs.declared.outside.FileFault.TheVariants as file
use Rattle.std.specs.declared.alloc.Global.{Global}
use Rattle.dh_base.specs.Outside.{Told, Untold, Reads, CountsRead, Rose, RoseBy, MayBe, MayExceed, risen}
use Rattle.dh_system.specs.Counted.{FileCounts, CountsOpened, MeetsFileFault, files_with, told_contents}

-- an error ends the read, whatever is told of the file; no fault was counted before it
pub met_ends : (told : Told) (name : List ℕ) (limit : ℕ) (old now new : FileCounts) (fault : FileFault) → now.faults ≡ old.faults
    → MeetsFileFault now new fault → Reads (files_with told old) (files_with told new) name limit (Err fault)
met_ends told name limit old now new file.Failed same met = inl (subst (λ n. Rose n new.faults) same met.0)
met_ends told name limit old now new file.TooLong same none = elim none [ ]
met_ends told name limit old now new file.NoMemory same rose = tt

-- what came of a file that was cut: after these first bytes, its first bytes up to the cut
abbrev Came : Option (List ℕ) → ℕ → List ℕ → List ℕ → Type 0
Came left cut first items = IfSome (option_map (take cut) left) (λ bytes. items ≡ first ++ bytes)

exceeds : (left : Option (List ℕ)) (cut limit : ℕ) (items : List ℕ) → Came left cut [] items → limit < length items
    → MayExceed (told_contents left) limit
exceeds None cut limit items came long = tt
exceeds (Some bytes) cut limit items came long =
    let e = ap length came in let l = length-take cut bytes in grind arith

is_whole : (left : Option (List ℕ)) (cut limit : ℕ) (items : List ℕ) → cut ≡ min (limit + 1) (2 ^ 64 - 1) → Came left cut [] items
    → length items ≤ limit → length items < 2 ^ 63 → MayBe (told_contents left) items
is_whole None cut limit items c came short small = tt
is_whole (Some bytes) cut limit items c came short small =
    let e = ap length came in
    let l = length-take cut bytes in
    let within : length bytes ≤ cut = grind arith in
    sym (came ∙ take_all cut bytes within)

-- the reader that was cut is the file, and nothing stood before what came
module _ {F : Type 0} (remaining : F → Option (List ℕ)) (cut_reader reader : F) (same : cut_reader ≡ reader) (cut limit : ℕ)
    (first items : List ℕ) (empty : first ≡ []) (came : Came (remaining cut_reader) cut first items) where
  all_came : Came (remaining reader) cut [] items
  all_came = subst (λ f. Came (remaining f) cut [] items) same (subst (λ l. Came (remaining cut_reader) cut l items) empty came)

  pub too_long : (before taken : ℕ) → taken ≡ min (before + length items) (2 ^ 64 - 1) → limit < length items
      → RoseBy limit before taken × MayExceed (told_contents (remaining reader)) limit
  too_long before taken t long = (grind arith, exceeds (remaining reader) cut limit items all_came long)

  pub whole : cut ≡ min (limit + 1) (2 ^ 64 - 1) → length items ≤ limit → length items < 2 ^ 63
      → MayBe (told_contents (remaining reader)) items × (length items ≤ limit)
  whole c short small = (is_whole (remaining reader) cut limit items c all_came short small, short)

-- what a read answers stays true where nothing is told of the file
pub untold : (left : Option (List ℕ)) (first name : List ℕ) (limit : ℕ) (old new : FileCounts) (result : Result (Vec ℕ Global) FileFault)
    → Reads (files_with (told_contents left) old) (files_with (told_contents left) new) first limit result
    → Reads (files_with Untold old) (files_with Untold new) name limit result
untold left first name limit old new (Ok bytes) reads = (tt, reads.1)
untold None first name limit old new (Err file.Failed) reads = reads
untold (Some bytes) first name limit old new (Err file.Failed) reads = reads
untold left first name limit old new (Err file.TooLong) reads = (reads.0, tt)
untold left first name limit old new (Err file.NoMemory) reads = tt

-- an error of the system counts a fault only where the read fails
pub met_counts : (old now new : FileCounts) (fault : FileFault) → now.faults ≡ old.faults → now.reads ≡ old.reads → MeetsFileFault now new fault → CountsOpened old new (Err fault)
met_counts old now new file.Failed same reads met = record { reads = met.1 ∙ reads; fault = tt }
met_counts old now new file.TooLong same reads none = elim none [ ]
met_counts old now new file.NoMemory same reads met = record { reads = ap (λ s. s.reads) met ∙ reads; fault = ap (λ s. s.faults) met ∙ same }

-- a read that was counted before it began
pub counted : (old mid new : FileCounts) (result : Result (Vec ℕ Global) FileFault) → mid.reads ≡ risen old.reads 1 → mid.faults ≡ old.faults → CountsOpened mid new result
    → CountsRead (files_with Untold old) (files_with Untold new) result
counted old mid new (Ok bytes) reads faults c = record { reads = c.reads ∙ reads; fault = c.fault ∙ faults }
counted old mid new (Err file.Failed) reads faults c = record { reads = c.reads ∙ reads; fault = tt }
counted old mid new (Err file.TooLong) reads faults c = record { reads = c.reads ∙ reads; fault = c.fault ∙ faults }
counted old mid new (Err file.NoMemory) reads faults c = record { reads = c.reads ∙ reads; fault = c.fault ∙ faults }

pub answered : (old mid new : FileCounts) (name : List ℕ) (limit : ℕ) (result : Result (Vec ℕ Global) FileFault) → mid.faults ≡ old.faults → mid.taken ≡ old.taken
    → Reads (files_with Untold mid) (files_with Untold new) name limit result → Reads (files_with Untold old) (files_with Untold new) name limit result
answered old mid new name limit (Ok bytes) f t reads = reads
answered old mid new name limit (Err file.Failed) f t (inl rose) = inl (subst (λ n. Rose n new.faults) f rose)
answered old mid new name limit (Err file.Failed) f t (inr absent) = inr absent
answered old mid new name limit (Err file.TooLong) f t reads = (subst (λ n. RoseBy limit n new.taken) t reads.0, tt)
answered old mid new name limit (Err file.NoMemory) f t reads = tt
