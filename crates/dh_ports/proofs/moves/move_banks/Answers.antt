use Rattle.std.proofs.Common.{◌++◌, ap, subst, sym, ◌∙◌}
use Rattle.std.proofs.lemmas.Result.{on_ok_weaker}
use Rattle.dh_tree.specs.Seen.{program_seen}
use Rattle.dh_events.specs.Accesses.{loops_listed}
use Rattle.dh_events.specs.declared.events.Event.{Event}
use Rattle.dh_ports.specs.EventMoves.{moves_of, HasFewCopiesAt}
use Rattle.dh_ports.specs.Runs.{moves_in}
use Rattle.dh_ports.proofs.MoveTurns.{nothing_added, nothing_of}
use Rattle.dh_ports.proofs.RunTurns.{begin_row, end_row, next_row}
use Rattle.dh_ports.proofs.moves.move_banks.Goals as goal

pub claim-requires-clause-copies : goal.claim-requires-clause-copies
claim-requires-clause-copies c = subst (λ (e : Event). HasFewCopiesAt c.args.layout.now.rounds.items e) c.in-Touch.is c.requires.copies

pub returns-in-Touch-clause-moves : goal.returns-in-Touch-clause-moves
returns-in-Touch-clause-moves c =
    on_ok_weaker c.claim.result (λ so. so ∙ ap (λ l. moves_in c.args.moves.now.items ++ l) (ap (moves_of (program_seen c.args.typed.now) (loops_listed c.args.layout.now.rounds.items) c.args.place) (sym c.in-Touch.is))) c.claim.ensures.claims

pub returns-in-Begins-clause-moves : goal.returns-in-Begins-clause-moves
returns-in-Begins-clause-moves c =
    on_ok_weaker c.push_run.result (λ so. so ∙ ap (λ l. moves_in c.args.moves.now.items ++ l) (begin_row ∙ ap (moves_of (program_seen c.args.typed.now) (loops_listed c.args.layout.now.rounds.items) c.args.place) (sym c.in-Begins.is))) c.push_run.ensures

pub returns-in-Next-clause-moves : goal.returns-in-Next-clause-moves
returns-in-Next-clause-moves c =
    on_ok_weaker c.push_run-in-Next.result (λ so. so ∙ ap (λ l. moves_in c.args.moves.now.items ++ l) (next_row ∙ ap (moves_of (program_seen c.args.typed.now) (loops_listed c.args.layout.now.rounds.items) c.args.place) (sym c.in-Next.is))) c.push_run-in-Next.ensures

pub returns-in-Ends-clause-moves : goal.returns-in-Ends-clause-moves
returns-in-Ends-clause-moves c =
    on_ok_weaker c.push_run-in-Ends.result (λ so. so ∙ ap (λ l. moves_in c.args.moves.now.items ++ l) (end_row ∙ ap (moves_of (program_seen c.args.typed.now) (loops_listed c.args.layout.now.rounds.items) c.args.place) (sym c.in-Ends.is))) c.push_run-in-Ends.ensures

pub returns-in-Assigned-clause-moves : goal.returns-in-Assigned-clause-moves
returns-in-Assigned-clause-moves c = nothing_added (moves_in c.args.moves.now.items) _ (nothing_of (program_seen c.args.typed.now) (loops_listed c.args.layout.now.rounds.items) c.args.place c.args.event c.in-Assigned.is)
