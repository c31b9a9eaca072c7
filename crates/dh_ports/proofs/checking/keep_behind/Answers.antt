use Rattle.std.proofs.Common.{List, ap, length, subst, sym, ◌∙◌}
use Rattle.std.specs.List.{AllByRecursion}
use Rattle.std.proofs.lemmas.Result.{on_ok_weaker}
use Rattle.dh_tree.specs.Seen.{program_seen}
use Rattle.dh_ports.specs.declared.moves.Move.{Move}
use Rattle.dh_ports.specs.EventMoves.{moves_known}
use Rattle.dh_ports.specs.Runs.{moves_in}
use Rattle.dh_ports.specs.Scanned.{IsMoveOf, KeepsLate}
use Rattle.dh_ports.proofs.AheadKept.{ahead_keeps}
use Rattle.dh_ports.proofs.checking.keep_behind.Goals as goal

pub returns-then-ahead : goal.returns-then-ahead
returns-then-ahead c = ahead_keeps c.args.events.now (moves_known (program_seen c.args.typed.now) c.args.layout.now c.args.events.now) c.args.kept.now c.requires.within (c.requires.ahead.ahead c.if-ahead.true)

pub keep_late-requires : goal.keep_late-requires
keep_late-requires c = record {
  within = subst (λ (ms : List Move). AllByRecursion (IsMoveOf (length c.args.events.now)) ms) (sym (ap moves_in c.as_slice.ensures.value ∙ c.in_ok-moves.ensures)) c.requires.within;
}

pub returns : goal.returns
returns c = on_ok_weaker c.keep_late.result (λ keeps. subst (λ (ms : List Move). KeepsLate c.args.events.now ms c.args.kept.now c.keep_late.new.kept) (ap moves_in c.as_slice.ensures.value ∙ c.in_ok-moves.ensures) keeps) c.keep_late.ensures
