-- Where it is told what the files of a job hold, and no fault of reading was counted, two replies to the
-- same words agree; and where the files are there, none of them is that a file could not be read.
use Rattle.std.proofs.Common.{Bool, ◌≡◌, ℕ, ◌⊎◌, List, [], ◌∷◌, Option, Some, None, refl, sym, ap, ◌∙◌, arith, inl, inr}
use Rattle.dh_base.specs.Outside.{Told, Untold, Absent, Holds, FilesSeen, Rose, IsAbsent}
use Rattle.dh_base.specs.declared.limits.Limit.TheVariants as limit
use Rattle.dh_base.specs.declared.statuses.Status.{Status}
use Rattle.dh_base.specs.declared.statuses.Status.TheVariants as status
use Rattle.dh_tree.specs.Memories.{table_of}
use Rattle.dh_tree.specs.PlainTrees.{Program}
use Rattle.dh_tree.specs.declared.tables.MemEntry.{MemEntry}
use Rattle.dh_data.specs.Reports.{report_text}
use Rattle.dh_net.specs.declared.nets.Net.{Net}
use Rattle.dh_compile.specs.Compiled.{IsNetOfProgram}
use Rattle.dh_app.specs.Asking.{checked, interpreted, argument_word}
use Rattle.dh_app.specs.CheckJob.{IsOk}
use Rattle.dh_app.specs.Engines.{EngineSeen}
use Rattle.dh_app.specs.Inputs.{InputsSeen, HasReadFiles, OnlyReads}
use Rattle.dh_app.specs.InterpretJob.{IsStandingReport, InterpretsData}
use Rattle.dh_app.specs.Jobs.{IsUsage, ComesFor}
use Rattle.dh_app.specs.Lines.{ok_line, usage_line, too_large_line}
use Rattle.dh_app.specs.LowerJob.{IsNetText, LowersProgram}
use Rattle.dh_app.specs.NetStage.{SaysTooLarge, NoNetOf, NetStage}
use Rattle.dh_app.specs.Promises.{IsToldFile, IsPresentFile, FilesAre, MayDiffer}
use Rattle.dh_app.specs.Replies.{ReplySeen, replied, unread, no_memory, ReplySays}
use Rattle.dh_app.specs.Reporting.{status_of}
use Rattle.dh_app.specs.SimulateJob.{finish_ending, RunsNet, SimulatesData, SimulatesProgram}
use Rattle.dh_app.specs.Sources.{FailsToRead, ProgramStage, DataStage}
use Rattle.dh_app.specs.declared.engine.Finish.{Finish}
use Rattle.dh_app.specs.declared.words.Job.{Job}
use Rattle.dh_app.specs.declared.words.Job.TheVariants.{Check, Lower, Interpret, Simulate}
use Rattle.dh_app.proofs.OneAnswer.{Agreement, programs_agree, data_agree}

-- two replies to a job are the same but for want of memory, and for texts that may differ
abbrev pub Agree : Option Job → ReplySeen → ReplySeen → Type 0
Agree o no_memory r = Unit {0}
Agree o (replied s text) (replied t other) = (s ≡ t) × (MayDiffer o s ⊎ (text ≡ other))
Agree o (replied s text) unread = ⊥
Agree o (replied s text) no_memory = Unit {0}
Agree o unread (replied s text) = ⊥
Agree o unread unread = Unit {0}
Agree o unread no_memory = Unit {0}

agreement : (o : Option Job) → Agreement (Agree o)
agreement o = record { same = same; first = λ r. tt; second = second }
  where
    same : (r : ReplySeen) → Agree o r r
    same (replied s text) = (refl, inr refl)
    same unread = tt
    same no_memory = tt

    second : (r : ReplySeen) → Agree o r no_memory
    second (replied s text) = tt
    second unread = tt
    second no_memory = tt

-- what is said agrees where any two things said do
said : (o : Option Job) (P : Status → List ℕ → Type 0) → ((s t : Status) (text other : List ℕ) → P s text → P t other → (s ≡ t) × (MayDiffer o s ⊎ (text ≡ other)))
    → (r q : ReplySeen) → ReplySays P r → ReplySays P q → Agree o r q
said o P f no_memory q h k = tt
said o P f (replied s text) (replied t other) h k = f s t text other h k
said o P f (replied s text) unread h k = absurd k
said o P f (replied s text) no_memory h k = tt
said o P f unread q h k = absurd h

-- one status and one text are said
said_one : (o : Option Job) (s : Status) (text : List ℕ) (a b : Status) (x y : List ℕ) → (a ≡ s) × (x ≡ text) → (b ≡ s) × (y ≡ text) → (a ≡ b) × (MayDiffer o a ⊎ (x ≡ y))
said_one o s text a b x y h k = (h.0 ∙ sym k.0, inr (h.1 ∙ sym k.1))

same_first : (f g : Finish) (fs : List Finish) → fs ≡ f ∷ [] → fs ≡ g ∷ [] → f ≡ g
same_first f g fs e h = cc

-- the engine's one answer has one report
runs_agree : (o : Option Job) (e f : EngineSeen) (p : Program) (m : List (List ℕ)) (clocks : ℕ) (r q : ReplySeen) → RunsNet e f p m clocks r → RunsNet e f p m clocks q → Agree o r q
runs_agree o e f p m clocks no_memory q h k = tt
runs_agree o e f p m clocks (replied s text) (replied t other) h k =
    let same = same_first h.1.finish k.1.finish f.answers h.1.answered k.1.answered in (
      h.1.status_is ∙ (ap (λ x. status_of x.outcome) same ∙ sym k.1.status_is),
      inr (h.1.text_is ∙ (ap (λ x. report_text (table_of p) x.memories (finish_ending x)) same ∙ sym k.1.text_is)),
    )
runs_agree o e f p m clocks (replied s text) unread h k = absurd k
runs_agree o e f p m clocks (replied s text) no_memory h k = tt
runs_agree o e f p m clocks unread q h k = absurd h

-- a program that is too large has no net, and its size has one line
large_alone : (p : Program) (net : Net) (s : Status) (text : List ℕ) → SaysTooLarge p s text → IsNetOfProgram p net → ⊥
large_alone p net s text h k = let l = h.large.0 in let m = k.small in omega (arith, l, m)

large_agree : (o : Option Job) (p : Program) (s t : Status) (text other : List ℕ) → SaysTooLarge p s text → SaysTooLarge p t other → (s ≡ t) × (MayDiffer o s ⊎ (text ≡ other))
large_agree o p s t text other h k =
    (h.status_is ∙ sym k.status_is, inr (h.text_is ∙ (ap (λ x. too_large_line limit.Plan x) (h.large.1 ∙ sym k.large.1) ∙ sym k.text_is)))

-- two replies without a net
none_agree : (o : Option Job) (p : Program) (r q : ReplySeen) → NoNetOf p r → NoNetOf p q → Agree o r q
none_agree o p no_memory q h k = tt
none_agree o p (replied s text) (replied t other) h k = large_agree o p s t text other h k
none_agree o p (replied s text) unread h k = absurd k
none_agree o p (replied s text) no_memory h k = tt
none_agree o p unread q h k = absurd h

-- a reply without a net, beside one with a net
alone_agree : (o : Option Job) (p : Program) (net : Net) (r q : ReplySeen) → IsNetOfProgram p net → NoNetOf p r → Agree o r q × Agree o q r
alone_agree o p net no_memory q k h = (tt, (agreement o).second q)
alone_agree o p net (replied s text) q k h = absurd (large_alone p net s text h k)
alone_agree o p net unread q k h = absurd h

-- two replies of a stage agree where the rests of it do
nets_agree : (o : Option Job) (old new : InputsSeen) (p : Program) (rest : Net → ReplySeen → Type 0) (r q : ReplySeen)
    → ((net other : Net) → rest net r → rest other q → Agree o r q) → NetStage old new p rest r → NetStage old new p rest q → Agree o r q
nets_agree o old new p rest r q f (inl h) (inl k) = none_agree o p r q h.1 k.1
nets_agree o old new p rest r q f (inl h) (inr (net, (is, k))) = (alone_agree o p net r q is h.1).0
nets_agree o old new p rest r q f (inr (net, (is, h))) (inl k) = (alone_agree o p net q r is k.1).1
nets_agree o old new p rest r q f (inr (net, (is, h))) (inr (other, (is', k))) = f net other h k

lowered_agree : (file : ℕ) (old new : InputsSeen) (p : Program) (r q : ReplySeen) → LowersProgram old new p r → LowersProgram old new p q → Agree (Some (Lower file)) r q
lowered_agree file old new p r q h k =
    nets_agree (Some (Lower file)) old new p (λ net answer. OnlyReads old new 1 × ReplySays (IsNetText net) answer) r q (texts r q) h k
  where
    texts : (r q : ReplySeen) (net other : Net) → OnlyReads old new 1 × ReplySays (IsNetText net) r → OnlyReads old new 1 × ReplySays (IsNetText other) q → Agree (Some (Lower file)) r q
    texts no_memory q net other h k = tt
    texts (replied s text) (replied t written) net other h k = (h.1.done ∙ sym k.1.done, inl h.1.done)
    texts (replied s text) unread net other h k = absurd k.1
    texts (replied s text) no_memory net other h k = tt
    texts unread q net other h k = absurd h.1

interpreted_agree : (o : Option Job) (old new : InputsSeen) (data_ : List ℕ) (steps : ℕ) → (Rose old.files.faults new.files.faults → ⊥) → IsToldFile (old.files.told data_)
    → (p : Program) (r q : ReplySeen) → InterpretsData old new data_ p steps r → InterpretsData old new data_ p steps q → Agree o r q
interpreted_agree o old new data_ steps calm told p r q h k =
    data_agree (Agree o) (agreement o) old new data_ (table_of p) (λ memories answer. OnlyReads old new 2 × ReplySays (IsStandingReport p memories steps) answer) r q calm told
    (λ m x y (a : OnlyReads old new 2 × ReplySays (IsStandingReport p m steps) x) (b : OnlyReads old new 2 × ReplySays (IsStandingReport p m steps) y). said o (IsStandingReport p m steps) (λ s t text other c d. (c.status_is ∙ sym d.status_is, inr (c.text_is ∙ sym d.text_is))) x y a.1 b.1) h k

simulated_agree : (o : Option Job) (old new : InputsSeen) (data_ : List ℕ) (clocks : ℕ) → (Rose old.files.faults new.files.faults → ⊥) → IsToldFile (old.files.told data_)
    → (p : Program) (r q : ReplySeen) → SimulatesProgram old new data_ clocks p r → SimulatesProgram old new data_ clocks p q → Agree o r q
simulated_agree o old new data_ clocks calm told p r q h k =
    nets_agree o old new p (λ net. SimulatesData old new data_ clocks p) r q (λ net other. both) h k
  where
    both : SimulatesData old new data_ clocks p r → SimulatesData old new data_ clocks p q → Agree o r q
    both h k =
        data_agree (Agree o) (agreement o) old new data_ (table_of p) (λ memories answer. HasReadFiles old.files new.files 2 × RunsNet old.engine new.engine p memories clocks answer) r q calm told
        (λ m x y (a : HasReadFiles old.files new.files 2 × RunsNet old.engine new.engine p m clocks x) (b : HasReadFiles old.files new.files 2 × RunsNet old.engine new.engine p m clocks y).
        runs_agree o old.engine new.engine p m clocks x y a.1 b.1) h k

pub all_agree : (words : List (List ℕ)) (old new : InputsSeen) (o : Option Job) (r q : ReplySeen) → (Rose old.files.faults new.files.faults → ⊥) → FilesAre IsToldFile words old.files o
    → ComesFor words old new o r → ComesFor words old new o q → Agree o r q
all_agree words old new None r q calm told h k = said None IsUsage (said_one None status.Usage usage_line) r q h.1 k.1
all_agree words old new (Some (Check file)) r q calm told h k =
    programs_agree (Agree (Some (Check file))) (agreement (Some (Check file))) old new checked (argument_word words file) (λ p answer. OnlyReads old new 1 × ReplySays IsOk answer) r q calm told.0
    (λ p x y (a : OnlyReads old new 1 × ReplySays IsOk x) (b : OnlyReads old new 1 × ReplySays IsOk y). said (Some (Check file)) IsOk (said_one (Some (Check file)) status.Done ok_line) x y a.1 b.1) h k
all_agree words old new (Some (Lower file)) r q calm told h k =
    programs_agree (Agree (Some (Lower file))) (agreement (Some (Lower file))) old new checked (argument_word words file) (λ p. LowersProgram old new p) r q calm told.0 (lowered_agree file old new) h k
all_agree words old new (Some (Interpret file data_ steps unchecked)) r q calm told h k =
    let o = Some (Interpret file data_ steps unchecked) in
    programs_agree (Agree o) (agreement o) old new (interpreted unchecked) (argument_word words file) (λ p. InterpretsData old new (argument_word words data_) p steps) r q calm told.0
    (interpreted_agree o old new (argument_word words data_) steps calm told.1) h k
all_agree words old new (Some (Simulate file data_ clocks)) r q calm told h k =
    let o = Some (Simulate file data_ clocks) in
    programs_agree (Agree o) (agreement o) old new checked (argument_word words file) (λ p. SimulatesProgram old new (argument_word words data_) clocks p) r q calm told.0 (simulated_agree o old new (argument_word words data_) clocks calm told.1) h k

-- ---- files that are there are read

there : (t : Told) → IsPresentFile t → IsAbsent t → ⊥
there Untold h a = h
there Absent h a = h
there (Holds bytes) h a = a

is_read : (old new : FilesSeen) (name : List ℕ) → (Rose old.faults new.faults → ⊥) → IsPresentFile (old.told name) → FailsToRead old new name → ⊥
is_read old new name calm h (inl rose) = calm rose
is_read old new name calm h (inr a) = there (old.told name) h a

program_had : (old new : InputsSeen) (ports : Bool) (file : List ℕ) (rest : Program → ReplySeen → Type 0) → (Rose old.files.faults new.files.faults → ⊥) → IsPresentFile (old.files.told file)
    → ((p : Program) → rest p unread → ⊥) → ProgramStage old new ports file rest unread → ⊥
program_had old new ports file rest calm h f (inl (inl fails, idle)) = is_read old.files new.files file calm h fails.fails
program_had old new ports file rest calm h f (inl (inr none, idle)) = none
program_had old new ports file rest calm h f (inr (p, (is, r))) = f p r

data_had : (old new : InputsSeen) (data_ : List ℕ) (table : List MemEntry) (rest : List (List ℕ) → ReplySeen → Type 0) → (Rose old.files.faults new.files.faults → ⊥) → IsPresentFile (old.files.told data_)
    → ((m : List (List ℕ)) → rest m unread → ⊥) → DataStage old new data_ table rest unread → ⊥
data_had old new data_ table rest calm h f (inl (inl fails, idle)) = is_read old.files new.files data_ calm h fails.fails
data_had old new data_ table rest calm h f (inl (inr none, idle)) = none
data_had old new data_ table rest calm h f (inr (m, (is, r))) = f m r

lowered_had : (old new : InputsSeen) (p : Program) → LowersProgram old new p unread → ⊥
lowered_had old new p (inl h) = h.1
lowered_had old new p (inr (net, (plays, (read, says)))) = says

simulated_had : (old new : InputsSeen) (data_ : List ℕ) (clocks : ℕ) → (Rose old.files.faults new.files.faults → ⊥) → IsPresentFile (old.files.told data_) → (p : Program) → SimulatesProgram old new data_ clocks p unread → ⊥
simulated_had old new data_ clocks calm h p (inl none) = none.1
simulated_had old new data_ clocks calm h p (inr (net, (plays, k))) =
    data_had old new data_ (table_of p) (λ memories answer. HasReadFiles old.files new.files 2 × RunsNet old.engine new.engine p memories clocks answer) calm h
    (λ m (r : HasReadFiles old.files new.files 2 × RunsNet old.engine new.engine p m clocks unread). r.1) k

pub all_had : (words : List (List ℕ)) (old new : InputsSeen) (o : Option Job) → (Rose old.files.faults new.files.faults → ⊥) → FilesAre IsPresentFile words old.files o → ComesFor words old new o unread → ⊥
all_had words old new None calm h k = k.1
all_had words old new (Some (Check file)) calm h k = program_had old new checked (argument_word words file) (λ p answer. OnlyReads old new 1 × ReplySays IsOk answer) calm h.0 (λ p (r : OnlyReads old new 1 × ReplySays IsOk unread). r.1) k
all_had words old new (Some (Lower file)) calm h k = program_had old new checked (argument_word words file) (λ p. LowersProgram old new p) calm h.0 (lowered_had old new) k
all_had words old new (Some (Interpret file data_ steps unchecked)) calm h k =
    program_had old new (interpreted unchecked) (argument_word words file) (λ p. InterpretsData old new (argument_word words data_) p steps) calm h.0
    (λ p (r : InterpretsData old new (argument_word words data_) p steps unread). data_had old new (argument_word words data_) (table_of p) (λ memories answer. OnlyReads old new 2 × ReplySays (IsStandingReport p memories steps) answer) calm h.1 (λ m (x : OnlyReads old new 2 × ReplySays (IsStandingReport p m steps) unread). x.1) r) k
all_had words old new (Some (Simulate file data_ clocks)) calm h k =
    program_had old new checked (argument_word words file) (λ p. SimulatesProgram old new (argument_word words data_) clocks p) calm h.0 (simulated_had old new (argument_word words data_) clocks calm h.1) k
