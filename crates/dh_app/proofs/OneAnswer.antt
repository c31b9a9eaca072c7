-- Of a file whose contents are told one thing is so, where no fault of reading was counted: it is absent,
-- it is too long, or its bytes have a meaning, of which there is one. Each stage of a job is answered by
-- what is so of its file, so two replies of a stage agree as those of the rest do.
use Rattle.std.proofs.Common.{Bool, ◌≡◌, ℕ, ◌+◌, ◌≤◌, ◌⊎◌, List, length, Result, Ok, Err, refl, sym, ap, ◌∙◌, arith, subst, inl, inr}
use Rattle.dh_base.specs.Limits.{greatest_of}
use Rattle.dh_base.specs.Outside.{Told, Untold, Absent, Holds, FilesSeen, Rose, MayBe, IsAbsent, MayExceed}
use Rattle.dh_base.specs.declared.limits.Limit.{Limit}
use Rattle.dh_base.specs.declared.limits.Limit.TheVariants as limit
use Rattle.dh_base.specs.declared.statuses.Status.{Status}
use Rattle.dh_base.specs.declared.statuses.Status.TheVariants as status
use Rattle.dh_tree.specs.PlainTrees.{Program}
use Rattle.dh_tree.specs.declared.tables.MemEntry.{MemEntry}
use Rattle.dh_check.specs.Verdicts.{Verdict, accepts, refuses, exceeds, IsVerdict}
use Rattle.dh_data.specs.DataFiles as data_files
use Rattle.dh_data.specs.DataFiles.{Means}
use Rattle.dh_data.specs.declared.data_files.DataFault.{DataFault}
use Rattle.dh_app.specs.Inputs.{InputsSeen}
use Rattle.dh_app.specs.Lines.{too_large_line, bad_data_line}
use Rattle.dh_app.specs.Promises.{IsToldFile}
use Rattle.dh_app.specs.Replies.{ReplySeen, replied, unread, no_memory}
use Rattle.dh_app.specs.Sources.{MayRead, FailsToRead, NoFile, ProgramStage, DataStage, IsRefusal, verdict_status, verdict_line}

-- ---- one file

absent_long : (t : Told) (most : ℕ) → IsAbsent t → MayExceed t most → ⊥
absent_long Untold most a l = a
absent_long Absent most a l = l
absent_long (Holds held) most a l = a

absent_held : (t : Told) (bytes : List ℕ) → IsAbsent t → MayBe t bytes → ⊥
absent_held Untold bytes a h = a
absent_held Absent bytes a h = h
absent_held (Holds held) bytes a h = a

long_held : (t : Told) (most : ℕ) (bytes : List ℕ) → IsToldFile t → MayExceed t most → MayBe t bytes → length bytes ≤ most → ⊥
long_held Untold most bytes told l h k = told
long_held Absent most bytes told l h k = l
long_held (Holds held) most bytes told l h k = let e = ap length h in omega (arith, l, e, k)

same_held : (t : Told) (a b : List ℕ) → IsToldFile t → MayBe t a → MayBe t b → a ≡ b
same_held Untold a b told h k = absurd told
same_held Absent a b told h k = absurd h
same_held (Holds held) a b told h k = sym h ∙ k

-- what is so of a file whose bytes may have such a meaning
data Found (V : Type 0) : Type 0 where
  absent : Found V
  long : Found V
  meant : V → Found V

-- a fault of reading was not counted, so the file is absent
gone : (old new : FilesSeen) (name : List ℕ) → (Rose old.faults new.faults → ⊥) → FailsToRead old new name → IsAbsent (old.told name)
gone old new name calm (inl rose) = absurd (calm rose)
gone old new name calm (inr a) = a

-- ---- two replies of a stage

-- a relation of replies that holds of equal ones, and of want of memory with any
pub record Agreement (Agree : ReplySeen → ReplySeen → Type 0) : Type 0 where
  pub same : (r : ReplySeen) → Agree r r
  pub first : (r : ReplySeen) → Agree no_memory r
  pub second : (r : ReplySeen) → Agree r no_memory

module _ (Agree : ReplySeen → ReplySeen → Type 0) (agreement : Agreement Agree) where
  equal_agree : (r s t : ReplySeen) → r ≡ t → s ≡ t → Agree r s
  equal_agree r s t e f =
      let P : ReplySeen → Type 0 = λ x. Agree x s in
      let Q : ReplySeen → Type 0 = λ x. Agree t x in
      subst P (sym e) (subst Q (sym f) (agreement.same t))

  first_wanting : (r s : ReplySeen) → r ≡ no_memory → Agree r s
  first_wanting r s e = let P : ReplySeen → Type 0 = λ x. Agree x s in subst P (sym e) (agreement.first s)

  second_wanting : (r s : ReplySeen) → s ≡ no_memory → Agree r s
  second_wanting r s e = let P : ReplySeen → Type 0 = λ x. Agree r x in subst P (sym e) (agreement.second r)

-- bytes that the file may have are of this meaning
record Held (V : Type 0) (files : FilesSeen) (name : List ℕ) (l : Limit) (Meaning : List ℕ → V → Type 0) (v : V) : Type 0 where
  bytes : List ℕ
  read : MayRead files name l bytes
  meaning : Meaning bytes v

abbrev IsSo : (V : Type 0) (files : FilesSeen) (name : List ℕ) (l : Limit) (Meaning : List ℕ → V → Type 0) → Found V → Type 0
IsSo V files name l Meaning absent = IsAbsent (files.told name)
IsSo V files name l Meaning long = MayExceed (files.told name) (greatest_of l)
IsSo V files name l Meaning (meant v) = Held V files name l Meaning v

-- a stage is answered by what is so of its file
abbrev Answered : (V : Type 0) → Limit → (rest : V → ReplySeen → Type 0) → Found V → ReplySeen → Type 0
Answered V l rest absent r = r ≡ unread
Answered V l rest long r = r ≡ replied status.TooLarge (too_large_line l (greatest_of l + 1))
Answered V l rest (meant v) r = rest v r

record Stage (V : Type 0) (files : FilesSeen) (name : List ℕ) (l : Limit) (Meaning : List ℕ → V → Type 0) (rest : V → ReplySeen → Type 0) (r : ReplySeen) : Type 0 where
  found : Found V
  so : IsSo V files name l Meaning found
  answered : Answered V l rest found r

module _ (V : Type 0) (files : FilesSeen) (name : List ℕ) (l : Limit) (Meaning : List ℕ → V → Type 0) (one : (bytes : List ℕ) (v w : V) → Meaning bytes v → Meaning bytes w → v ≡ w)
    (told : IsToldFile (files.told name)) where
  one_so : (a b : Found V) → IsSo V files name l Meaning a → IsSo V files name l Meaning b → a ≡ b
  one_so absent absent h k = refl
  one_so absent long h k = absurd (absent_long (files.told name) (greatest_of l) h k)
  one_so absent (meant v) h k = absurd (absent_held (files.told name) k.bytes h k.read.contents)
  one_so long absent h k = absurd (absent_long (files.told name) (greatest_of l) k h)
  one_so long long h k = refl
  one_so long (meant v) h k = absurd (long_held (files.told name) (greatest_of l) k.bytes told h k.read.contents k.read.within)
  one_so (meant v) absent h k = absurd (absent_held (files.told name) h.bytes k h.read.contents)
  one_so (meant v) long h k = absurd (long_held (files.told name) (greatest_of l) h.bytes told k h.read.contents h.read.within)
  one_so (meant v) (meant w) h k =
      let M : List ℕ → Type 0 = λ x. Meaning x w in
      let same = same_held (files.told name) h.bytes k.bytes told h.read.contents k.read.contents in
      ap meant (one h.bytes v w h.meaning (subst M (sym same) k.meaning))

  module _ (Agree : ReplySeen → ReplySeen → Type 0) (agreement : Agreement Agree) (rest : V → ReplySeen → Type 0)
      (agree : (v : V) (r s : ReplySeen) → rest v r → rest v s → Agree r s) where
    both_so : (f : Found V) (r s : ReplySeen) → Answered V l rest f r → Answered V l rest f s → Agree r s
    both_so absent r s h k = equal_agree Agree agreement r s unread h k
    both_so long r s h k = equal_agree Agree agreement r s (replied status.TooLarge (too_large_line l (greatest_of l + 1))) h k
    both_so (meant v) r s h k = agree v r s h k

    stage_agrees : (r s : ReplySeen) → Stage V files name l Meaning rest r → Stage V files name l Meaning rest s → Agree r s
    stage_agrees r s h k =
        let P : Found V → Type 0 = λ x. Answered V l rest x s in
        both_so h.found r s h.answered (subst P (sym (one_so h.found k.found h.so k.so)) k.answered)

    -- the same where memory may be refused
    agrees : (r s : ReplySeen) → Stage V files name l Meaning rest r ⊎ (r ≡ no_memory) → Stage V files name l Meaning rest s ⊎ (s ≡ no_memory) → Agree r s
    agrees r s (inl h) (inl k) = stage_agrees r s h k
    agrees r s (inl h) (inr e) = second_wanting Agree agreement r s e
    agrees r s (inr e) k = first_wanting Agree agreement r s e

same_reply : (s t : Status) (x y : List ℕ) → s ≡ t → x ≡ y → replied s x ≡ replied t y
same_reply s t x y e f = cc

-- the file was not had
file_stage : (V : Type 0) (old new : FilesSeen) (name : List ℕ) (l : Limit) (Meaning : List ℕ → V → Type 0) (rest : V → ReplySeen → Type 0) (count : ℕ) (r : ReplySeen) → (Rose old.faults new.faults → ⊥)
    → NoFile old new name l count r → Stage V old name l Meaning rest r ⊎ (r ≡ no_memory)
file_stage V old new name l Meaning rest count (replied s text) calm h =
    inl (record { found = long; so = h.long.longer; answered = same_reply s status.TooLarge text (too_large_line l (greatest_of l + 1)) h.status_is h.text_is })
file_stage V old new name l Meaning rest count unread calm h = inl (record { found = absent; so = gone old new name calm h.fails; answered = refl })
file_stage V old new name l Meaning rest count no_memory calm h = inr refl

-- ---- the program

-- how a verdict is answered
abbrev ByVerdict : (rest : Program → ReplySeen → Type 0) → Verdict → ReplySeen → Type 0
ByVerdict rest (accepts p) r = rest p r
ByVerdict rest (refuses rule place) r = r ≡ replied (verdict_status (refuses rule place)) (verdict_line (refuses rule place))
ByVerdict rest (exceeds excess) r = r ≡ replied (verdict_status (exceeds excess)) (verdict_line (exceeds excess))

refusal_said : (rest : Program → ReplySeen → Type 0) (v : Verdict) (r : ReplySeen) → IsRefusal v → r ≡ replied (verdict_status v) (verdict_line v) → ByVerdict rest v r
refusal_said rest (accepts p) r h e = absurd h
refusal_said rest (refuses rule place) r h e = e
refusal_said rest (exceeds excess) r h e = e

program_stage : (old new : InputsSeen) (ports : Bool) (file : List ℕ) (rest : Program → ReplySeen → Type 0) (r : ReplySeen) → (Rose old.files.faults new.files.faults → ⊥)
    → ProgramStage old new ports file rest r → Stage Verdict old.files file limit.Source (IsVerdict ports) (ByVerdict rest) r ⊎ (r ≡ no_memory)
program_stage old new ports file rest r calm (inl (inl h, idle)) = file_stage Verdict old.files new.files file limit.Source (IsVerdict ports) (ByVerdict rest) 1 r calm h
program_stage old new ports file rest (replied s text) calm (inl (inr h, idle)) =
    inl (record {
      found = meant h.verdict;
      so = record { bytes = h.comes.text; read = h.comes.read; meaning = h.comes.verdict };
      answered = refusal_said rest h.verdict (replied s text) h.refuses_it (same_reply s (verdict_status h.verdict) text (verdict_line h.verdict) h.status_is h.text_is);
    })
program_stage old new ports file rest unread calm (inl (inr h, idle)) = absurd h
program_stage old new ports file rest no_memory calm (inl (inr h, idle)) = inr refl
program_stage old new ports file rest r calm (inr (p, (is, h))) = inl (record { found = meant (accepts p); so = record { bytes = is.text; read = is.read; meaning = is.verdict }; answered = h })

pub programs_agree : (Agree : ReplySeen → ReplySeen → Type 0) → Agreement Agree → (old new : InputsSeen) (ports : Bool) (file : List ℕ) (rest : Program → ReplySeen → Type 0) (r s : ReplySeen)
    → (Rose old.files.faults new.files.faults → ⊥) → IsToldFile (old.files.told file) → ((p : Program) (x y : ReplySeen) → rest p x → rest p y → Agree x y)
    → ProgramStage old new ports file rest r → ProgramStage old new ports file rest s → Agree r s
programs_agree Agree agreement old new ports file rest r s calm told agree h k =
    agrees Verdict old.files file limit.Source (IsVerdict ports) one told Agree agreement (ByVerdict rest) by r s
    (program_stage old new ports file rest r calm h) (program_stage old new ports file rest s calm k)
  where
    one : (bytes : List ℕ) (v w : Verdict) → IsVerdict ports bytes v → IsVerdict ports bytes w → v ≡ w
    one bytes v w a b = b.only v a.judged

    by : (v : Verdict) (x y : ReplySeen) → ByVerdict rest v x → ByVerdict rest v y → Agree x y
    by (accepts p) x y a b = agree p x y a b
    by (refuses rule place) x y a b = equal_agree Agree agreement x y (replied (verdict_status (refuses rule place)) (verdict_line (refuses rule place))) a b
    by (exceeds excess) x y a b = equal_agree Agree agreement x y (replied (verdict_status (exceeds excess)) (verdict_line (exceeds excess))) a b

-- ---- the data

-- what bytes mean for a table, and nothing else
abbrev MeansAlone : List MemEntry → List ℕ → Result (List (List ℕ)) DataFault → Type 0
MeansAlone table bytes (Ok m) = data_files.HoldsContents table bytes m × ((others : List (List ℕ)) → data_files.HoldsContents table bytes others → others ≡ m)
MeansAlone table bytes (Err f) = Means table bytes (Err f) × ((other : Result (List (List ℕ)) DataFault) → Means table bytes other → other ≡ Err f)

one_meaning : (table : List MemEntry) (bytes : List ℕ) (v w : Result (List (List ℕ)) DataFault) → MeansAlone table bytes v → MeansAlone table bytes w → v ≡ w
one_meaning table bytes (Ok m) (Ok n) h k = ap Ok (k.1 m h.0)
one_meaning table bytes (Ok m) (Err g) h k = k.1 (Ok m) h.0
one_meaning table bytes (Err f) (Ok n) h k = sym (h.1 (Ok n) k.0)
one_meaning table bytes (Err f) (Err g) h k = k.1 (Err f) h.0

-- how it is answered
abbrev ByMeaning : List MemEntry → (rest : List (List ℕ) → ReplySeen → Type 0) → Result (List (List ℕ)) DataFault → ReplySeen → Type 0
ByMeaning table rest (Ok m) r = rest m r
ByMeaning table rest (Err f) r = r ≡ replied status.BadData (bad_data_line table f)

data_stage : (old new : InputsSeen) (data_ : List ℕ) (table : List MemEntry) (rest : List (List ℕ) → ReplySeen → Type 0) (r : ReplySeen) → (Rose old.files.faults new.files.faults → ⊥)
    → DataStage old new data_ table rest r → Stage (Result (List (List ℕ)) DataFault) old.files data_ limit.Data (MeansAlone table) (ByMeaning table rest) r ⊎ (r ≡ no_memory)
data_stage old new data_ table rest r calm (inl (inl h, idle)) =
    file_stage (Result (List (List ℕ)) DataFault) old.files new.files data_ limit.Data (MeansAlone table) (ByMeaning table rest) 2 r calm h
data_stage old new data_ table rest (replied s text) calm (inl (inr h, idle)) =
    inl (record {
      found = meant (Err h.fault);
      so = record { bytes = h.bad_data.bytes; read = h.bad_data.read; meaning = (h.bad_data.means, h.bad_data.only) };
      answered = same_reply s status.BadData text (bad_data_line table h.fault) h.status_is h.text_is;
    })
data_stage old new data_ table rest unread calm (inl (inr h, idle)) = absurd h
data_stage old new data_ table rest no_memory calm (inl (inr h, idle)) = inr refl
data_stage old new data_ table rest r calm (inr (m, (is, h))) = inl (record { found = meant (Ok m); so = record { bytes = is.bytes; read = is.read; meaning = (is.holds, is.only) }; answered = h })

pub data_agree : (Agree : ReplySeen → ReplySeen → Type 0) → Agreement Agree → (old new : InputsSeen) (data_ : List ℕ) (table : List MemEntry) (rest : List (List ℕ) → ReplySeen → Type 0) (r s : ReplySeen)
    → (Rose old.files.faults new.files.faults → ⊥) → IsToldFile (old.files.told data_) → ((m : List (List ℕ)) (x y : ReplySeen) → rest m x → rest m y → Agree x y)
    → DataStage old new data_ table rest r → DataStage old new data_ table rest s → Agree r s
data_agree Agree agreement old new data_ table rest r s calm told agree h k =
    agrees (Result (List (List ℕ)) DataFault) old.files data_ limit.Data (MeansAlone table) (one_meaning table) told Agree agreement (ByMeaning table rest) by r s
    (data_stage old new data_ table rest r calm h) (data_stage old new data_ table rest s calm k)
  where
    by : (v : Result (List (List ℕ)) DataFault) (x y : ReplySeen) → ByMeaning table rest v x → ByMeaning table rest v y → Agree x y
    by (Ok m) x y a b = agree m x y a b
    by (Err f) x y a b = equal_agree Agree agreement x y (replied status.BadData (bad_data_line table f)) a b
