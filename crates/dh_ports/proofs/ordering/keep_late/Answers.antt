use Rattle.std.proofs.Common.{ℕ, List, replicate, ap, subst, sym, ◌∙◌}
use Rattle.std.proofs.lemmas.Result.{on_ok_weaker}
use Rattle.dh_ports.specs.Orders.{AreMarked, AreRead}
use Rattle.dh_ports.specs.Runs.{moves_in}
use Rattle.dh_ports.proofs.RunTurns.{keeps_late}
use Rattle.dh_ports.proofs.ordering.keep_late.Goals as goal

pub written_banks-requires-clause-read : goal.written_banks-requires-clause-read
written_banks-requires-clause-read c = subst (λ (m : List ℕ). AreRead c.args.events.now m) (sym c.as_slice.ensures.value) c.in_ok-read.ensures

pub keep_all-requires-clause-distinct : goal.keep_all-requires-clause-distinct
keep_all-requires-clause-distinct c = c.len.ensures.distinct

pub keep_all-requires-clause-marked : goal.keep_all-requires-clause-marked
keep_all-requires-clause-marked c = subst (λ (m : List ℕ). AreMarked c.in_ok-classes.classes m) (sym c.as_slice-phases.ensures.value) c.in_ok-classes.ensures.marked

pub returns : goal.returns
returns c =
    on_ok_weaker c.keep_all.result (λ kept. keeps_late c.in_ok-classes.classes c.args.events.now (moves_in c.args.moves.now) c.args.kept.now c.keep_all.new.kept c.in_ok-free.free.items c.len.ensures.distinct c.requires.within c.in_ok-classes.ensures.written
    (c.in_ok-free.ensures ∙ ap (λ n. replicate n 1) c.len.ensures.long) kept) c.keep_all.ensures
