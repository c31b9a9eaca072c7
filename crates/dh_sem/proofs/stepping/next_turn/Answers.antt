use Rattle.std.proofs.Common.{◌+◌, refl, sym, ◌∙◌}
use Rattle.std.proofs.lemmas.Result.{IfOk-weaker}
use Rattle.dh_sem.proofs.Following.{ok_both, turn_next}
use Rattle.dh_sem.proofs.LinksFollowed.{linked_turns}
use Rattle.dh_sem.proofs.stepping.next_turn.Goals as goal

pub returns-clause-follows : goal.returns-clause-follows
returns-clause-follows c = λ holds.
    let link = linked_turns c.args.course.now.lanes.now c.args.at c.phase_at-phase.result.now.form c.in-Some.turns (sym c.turns_of.ensures ∙ c.in-Some.is) (c.requires.course.each c.args.at c.phase_at-phase.result.now c.phase_at-phase.ensures).form in
    IfOk-weaker c.descend.result _ _ (λ found h.
    turn_next c.args.course.now c.args.at c.args.turn (c.args.turn + 1) c.phase_at-phase.result.now c.in-Some.turns c.lanes_at.result.now holds found c.args.state.now c.begin_turn.new.state c.descend.new.state c.args.frames.now.items c.push.new.self.items c.descend.new.frames.items
    c.phase_at-phase.ensures (sym c.turns_of.ensures ∙ c.in-Some.is) refl c.if-next-turns.false c.lanes_at.ensures c.in_ok-begin_turn.ensures.begins c.in_ok-push.ensures.items link.some_phase h.0 h.1)
    (ok_both c.descend.result _ _ c.descend.ensures.none c.descend.ensures.descends)
