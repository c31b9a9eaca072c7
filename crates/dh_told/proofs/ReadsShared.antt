-- An access of a block that shares another shares a read of the block that comes before it.
use Rattle.std.proofs.Common.{◌≡◌, ℕ, ◌<◌, ◌&&◌, not, Bool, true, false, length, Option, Some, refl, ap, sym, ◌∙◌, subst}
use Rattle.std.specs.Prelude.{slice_get}
use Rattle.std.specs.Option.{is_some}
use Rattle.dh_tree.specs.Seen.{program_seen}
use Rattle.dh_meaning.specs.OnePhase.{in_one_phase}
use Rattle.dh_meaning.specs.Sites.{nothing_around}
use Rattle.dh_meets.specs.Sharing.{shared}
use Rattle.dh_meets.specs.SourceEvents.{accesses_in, trace}
use Rattle.dh_lengths.specs.SharedReads.{TellsShares, share_told}
use Rattle.dh_sound.proofs.EventCounts.{events_counted}
use Rattle.dh_expressions.specs.declared.scenes.Around.{Around}
use Rattle.dh_expressions.specs.declared.scenes.Scene.{Scene}
use Rattle.dh_formed.specs.Formed.{BlockSite}
use Rattle.dh_used.specs.SourceSites.{AreSited}
use Rattle.dh_used.proofs.SharedReads.{IsShared, shared_before, shared_there}
use Rattle.dh_reached.specs.ReachedBlocks.{ReadBy}
use Rattle.dh_reached.specs.ReadsTold.{BlockShares}
use Rattle.dh_told.specs.ReadsOfBlocks.{is_read_of, reads_in}

both_true : (a b : Bool) → a ≡ true → b ≡ true → (a && b) ≡ true
both_true true true e f = refl
both_true true false e f = absurd cc
both_true false b e f = absurd cc

pub first_true : (a b : Bool) → (a && b) ≡ true → a ≡ true
first_true true b e = refl
first_true false b e = e

module _ (scene : Scene) (tells : TellsShares (program_seen scene.program.now) scene.shares.now) (around : Around) (makes : ℕ → Bool) (sites : ℕ → Option BlockSite) (sited : AreSited scene around makes sites) where
  pub shares_read : ((k : ℕ) → makes k ≡ true → k < length (accesses_in (trace (program_seen scene.program.now)))) → ((j k : ℕ) → in_one_phase (program_seen scene.program.now) j k ≡ true → makes k ≡ true → makes j ≡ true)
      → BlockShares (ReadBy (reads_in scene makes)) scene sites
  shares_read below one_phase number s at = record {
    known = subst (λ (n : ℕ). number < n) (events_counted nothing_around (program_seen scene.program.now).body ∙ sym tells.long) (below number made);
    earlier = λ e shares. found e (sym (tells.all number) ∙ ap share_told shares);
  }
    where
      made : makes number ≡ true
      made = sym (sited.made number) ∙ ap is_some at

      found : (e : ℕ) → shared (program_seen scene.program.now) number ≡ Some e → (e < number) × ReadBy (reads_in scene makes) e
      found e is =
          let s : IsShared (program_seen scene.program.now) (accesses_in (trace (program_seen scene.program.now))) e number = shared_there (program_seen scene.program.now) e number is in
          (shared_before (program_seen scene.program.now) e number is, both_true (makes e) (is_read_of (slice_get (accesses_in (trace (program_seen scene.program.now))) e)) (one_phase e number s.phase made) (ap is_read_of s.there ∙ ap not s.reads))
