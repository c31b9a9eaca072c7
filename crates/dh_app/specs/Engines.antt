-- What clauses see of an engine, and what its answers are: one for each of the memories that it was given,
-- and for an exact engine each the run of the net from them.
use Rattle.std.specs.Prelude.{◌≡◌, ℕ, Bool, List, [], ◌∷◌, Result, IsTrue, OnOk}
use Rattle.dh_base.specs.Outside.{risen}
use Rattle.dh_base.specs.declared.lists.NoMemory.{NoMemory}
use Rattle.dh_tree.specs.Tables.{Fits}
use Rattle.dh_net.specs.declared.nets.Net.{Net}
use Rattle.dh_net.specs.Ends.{IsRunOf}
use Rattle.dh_net.specs.Plays.{IsStuck}
use Rattle.dh_app.specs.declared.engine.Finish.{Finish}

-- what a clause sees of an engine: whether its answers are the runs of the nets that it is given, how
-- often it was asked, and its answers, of its last call that succeeded
pub record EngineSeen : Type 0 where
  pub exact : Bool
  pub asked : ℕ
  pub answers : List Finish

-- what is true of a call that asks: it is counted, and the engine is exact after it where it was so before
pub record Asks (old new : EngineSeen) : Type 0 where
  pub exact : new.exact ≡ old.exact
  pub asked : new.asked ≡ risen old.asked 1

-- an answer for a net: its memories fit the net's table, and it is not stuck
pub record IsAnswer (net : Net) (f : Finish) : Type 0 where
  pub fits : Fits net.table f.memories
  pub not_stuck : IsStuck f.outcome → ⊥

-- one answer for each of these memories
abbrev pub AnswersTo : Net → List (List (List ℕ)) → List Finish → Type 0
AnswersTo net [] [] = Unit {0}
AnswersTo net [] (f ∷ fs) = ⊥
AnswersTo net (m ∷ ms) [] = ⊥
AnswersTo net (m ∷ ms) (f ∷ fs) = IsAnswer net f × AnswersTo net ms fs

-- the run of the net from these memories under the limit
abbrev pub IsFinishOf : Net → (memories : List (List ℕ)) → (limit : ℕ) → Finish → Type 0
IsFinishOf net memories limit f = IsRunOf net memories limit f.outcome f.steps f.clocks f.memories

-- each the run of the net from its memories under the limit
abbrev pub AreRuns : Net → (limit : ℕ) → List (List (List ℕ)) → List Finish → Type 0
AreRuns net limit [] [] = Unit {0}
AreRuns net limit [] (f ∷ fs) = ⊥
AreRuns net limit (m ∷ ms) [] = ⊥
AreRuns net limit (m ∷ ms) (f ∷ fs) = IsRunOf net m limit f.outcome f.steps f.clocks f.memories × AreRuns net limit ms fs

-- where a call succeeds and the engine was exact before, its answers are the runs of the net
abbrev pub ExactRuns : (old new : EngineSeen) → Net → (limit : ℕ) → List (List (List ℕ)) → Result (Unit {0}) NoMemory → Type 0
ExactRuns old new net limit sets result = OnOk result (IsTrue old.exact → AreRuns net limit sets new.answers)
