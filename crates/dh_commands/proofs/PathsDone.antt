-- What is done at one path more stands behind what was done at those before it.
use Rattle.std.proofs.Common.{ℕ, suc, ◌<◌, arith}
use Rattle.dh_meaning.specs.Effects.{Effect, Variables}
use Rattle.dh_meaning.specs.Paths.{Path}
use Rattle.dh_expressions.specs.declared.accesses.Accesses.{Accesses}
use Rattle.dh_expressions.specs.declared.scenes.Around.{Around}
use Rattle.dh_expressions.specs.declared.scenes.Scene.{Scene}
use Rattle.dh_expressions.specs.Drafted.{BlockStep}
use Rattle.dh_expressions.specs.Evaluated.{Knows, StepReads}
use Rattle.dh_expressions.proofs.Pushing.{begun_later, extends_again, extends_self, fits_before}
use Rattle.dh_commands.specs.declared.buildings.Building.{Building}
use Rattle.dh_commands.specs.LanesRun.{lane_of, lanes_run, paths_counted}
use Rattle.dh_commands.specs.Followed.{view_at_step}
use Rattle.dh_commands.specs.Done.{DoesCommandAtPaths, DoesCommandAtPath, DoesPath, DoesPaths}
use Rattle.dh_commands.proofs.ChangesBack.{changes_again, changes_none, ready_after}

-- what is known is known whatever variables hold
pub knows_all : (x : BlockStep) (reads : StepReads) (a : Accesses) (vs : Variables) → Knows (view_at_step x reads vs) a → (ws : Variables) → Knows (view_at_step x reads ws) a
knows_all x reads a vs k ws = record { given = k.given; long = k.long; touched = k.touched; none = k.none }

module _ (scene : Scene) (around : Around) (May : ℕ → Type 0) (Premise : ℕ → BlockStep → StepReads → Variables → Type 0) (run : BlockStep → Path → Effect → Effect) where
  pub paths_none : (b : Building) → DoesPaths scene around May Premise run 0 b b
  paths_none b = record { extends = extends_self b.draft; changes = λ ready. changes_none scene around May b.values; so = λ x reads e f s along stands. stands }

  pub paths_more : (n : ℕ) (a b c : Building) → n < paths_counted around → DoesPaths scene around May Premise run n a b → DoesPath scene around May Premise run n b c → DoesPaths scene around May Premise run (suc n) a c
  paths_more n a b c within h one = let k = one within in record {
    extends = extends_again a.draft b.draft c.draft h.extends k.extends;
    changes = λ ready. changes_again scene around May a.values b.values c.values (h.changes ready) (k.changes (ready_after scene around May a.values b.values (h.changes ready) ready));
    so = λ x reads e f s along stands.
        k.so x reads (lanes_run x around (run x) n e) f (begun_later a.draft b.draft x h.extends s) (along n (omega arith))
        (h.so x reads e (fits_before b.draft c.draft x k.extends f) s (λ i l. along i (omega (arith, l))) stands);
  }

  pub all_none : (first count : ℕ) (b : Building) → DoesCommandAtPaths scene around May Premise run first count first 0 b b
  all_none first count b = record { next_is = λ some. absurd (never some); so = λ few. paths_none b }
    where
      never : 0 < 0 → ⊥
      never h = omega (arith, h)

  pub all_more : (first count now next n : ℕ) (a b c : Building) → n < paths_counted around → DoesCommandAtPaths scene around May Premise run first count now n a b
      → DoesCommandAtPath scene (lane_of around n) May Premise run first count next b c → DoesCommandAtPaths scene around May Premise run first count next (suc n) a c
  all_more first count now next n a b c within h one = record {
    next_is = λ some. one.next_is;
    so = λ few. paths_more n a b c within (h.so few) (one.so few);
  }
