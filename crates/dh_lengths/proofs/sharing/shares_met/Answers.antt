use Rattle.std.proofs.Common.{◌<◌, ℕ, ◌∙◌, ap, sym, subst, length}
use Rattle.dh_lengths.specs.declared.sharing.Met.TheVariants as met
use Rattle.dh_lengths.specs.LiveFirsts.{met_read}
use Rattle.dh_lengths.proofs.MetTurns.{alone_turn, begin_turn, end_turn, other_turn, read_turn, read_within, within_at}
use Rattle.dh_lengths.proofs.sharing.shares_met.Goals as goal
use Rattle.dh_lengths.proofs.sharing.shares_met.Goals.{in-Read+in_ok-shared-in-Read+in_ok-push-in-Read, in-Alone+in_ok-push-in-Alone, in-Begins+in_ok-begin-in-Begins, in-Ends, in-Other}

pub read-requires : goal.read-requires
read-requires c = record {
  within = subst (λ (n : ℕ). c.in-Read.class < n) (sym c.loop-m.invariant.1)
      (read_within c.args.classes c.in-Read.class _ c.in-Read.is (within_at c.args.classes c.args.met.now c.loop-m.m-index (met.Read 0) c.loop-m-test.true c.requires.within));
}

pub loop-m-preserved : goal.loop-m-preserved
loop-m-preserved c = elim c.match-m.branch [
  | in-Read+in_ok-shared-in-Read+in_ok-push-in-Read w ↦
      rw w.live-is (rw w.shares-is (
        read_turn c.args.met.now c.loop-m.m-index (met.Read 0) c.loop-m-test.true c.loop-m.shares.items _ c.loop-m.live c.loop-m.invariant.0 w.in-Read.class w.read.new.self w.in_ok-shared-in-Read.shared w.push.new.self.items w.in-Read.is
            w.in_ok-shared-in-Read.ensures.shared (λ other. w.in_ok-shared-in-Read.ensures.met other ∙ ap (λ n. met_read w.in-Read.class n other _) (w.len.ensures ∙ c.loop-m.shares.ok.0)) w.in_ok-push-in-Read.ensures.items,
        w.in_ok-shared-in-Read.ensures.long ∙ c.loop-m.invariant.1,
      ))
  | in-Alone+in_ok-push-in-Alone w ↦
      rw w.live-is (rw w.shares-is (
        alone_turn c.args.met.now c.loop-m.m-index (met.Read 0) c.loop-m-test.true c.loop-m.shares.items _ c.loop-m.live c.loop-m.invariant.0 w.push-in-Alone.new.self.items w.in-Alone.is w.in_ok-push-in-Alone.ensures.items,
        c.loop-m.invariant.1,
      ))
  | in-Begins+in_ok-begin-in-Begins w ↦
      rw w.live-is (rw w.shares-is (
        begin_turn c.args.met.now c.loop-m.m-index (met.Read 0) c.loop-m-test.true c.loop-m.shares.items _ c.loop-m.live c.loop-m.invariant.0 w.begin.new.self w.in-Begins.is w.in_ok-begin-in-Begins.ensures.opened,
        w.in_ok-begin-in-Begins.ensures.long ∙ c.loop-m.invariant.1,
      ))
  | in-Ends w ↦
      rw w.live-is (rw w.shares-is (
        end_turn c.args.met.now c.loop-m.m-index (met.Read 0) c.loop-m-test.true c.loop-m.shares.items _ c.loop-m.live c.loop-m.invariant.0 w.end.new.self w.in-Ends.is w.end.ensures.closed,
        w.end.ensures.long ∙ c.loop-m.invariant.1,
      ))
  | in-Other w ↦
      rw w.live-is (rw w.shares-is (
        other_turn c.args.met.now c.loop-m.m-index (met.Read 0) c.loop-m-test.true c.loop-m.shares.items _ c.loop-m.live c.loop-m.invariant.0 w.in-Other.is,
        c.loop-m.invariant.1,
      ))
]
