-- The answers of an engine that runs one set of memories after the other: one more answer, to one more
-- set, at the end of both lists.
use Rattle.std.proofs.Common.{◌≡◌, ℕ, ◌<◌, List, [], ◌∷◌, ◌++◌, length, get_or, sym, zero, suc, arith, subst}
use Rattle.std.specs.List.{AllByRecursion}
use Rattle.dh_net.specs.declared.nets.Net.{Net}
use Rattle.dh_net.specs.Ends.{IsRunOf}
use Rattle.dh_app.specs.Engines.{IsAnswer, AnswersTo, AreRuns}
use Rattle.dh_app.specs.declared.engine.Finish.{Finish}

-- what holds of each element holds of the one at a place
pub at_index : {X : Type 0} (P : X → Type 0) (xs : List X) (k : ℕ) (x : X) → AllByRecursion P xs → k < length xs → x ≡ get_or xs k x → P x
at_index P [] k x h l e = absurd (let z : k < 0 = l in omega arith)
at_index P (y ∷ ys) zero x h l e = subst P (sym e) h.0
at_index P (y ∷ ys) (suc k) x h l e = at_index P ys k x h.1 (let z : suc k < suc (length ys) = l in omega arith) e

pub answers_more : (net : Net) (ms : List (List (List ℕ))) (fs : List Finish) (m : List (List ℕ)) (f : Finish) → AnswersTo net ms fs → IsAnswer net f
    → AnswersTo net (ms ++ m ∷ []) (fs ++ f ∷ [])
answers_more net [] [] m f h a = (a, tt)
answers_more net [] (g ∷ fs) m f h a = absurd h
answers_more net (n ∷ ms) [] m f h a = absurd h
answers_more net (n ∷ ms) (g ∷ fs) m f h a = (h.0, answers_more net ms fs m f h.1 a)

pub runs_more : (net : Net) (limit : ℕ) (ms : List (List (List ℕ))) (fs : List Finish) (m : List (List ℕ)) (f : Finish) → AreRuns net limit ms fs
    → IsRunOf net m limit f.outcome f.steps f.clocks f.memories → AreRuns net limit (ms ++ m ∷ []) (fs ++ f ∷ [])
runs_more net limit [] [] m f h a = (a, tt)
runs_more net limit [] (g ∷ fs) m f h a = absurd h
runs_more net limit (n ∷ ms) [] m f h a = absurd h
runs_more net limit (n ∷ ms) (g ∷ fs) m f h a = (h.0, runs_more net limit ms fs m f h.1 a)
