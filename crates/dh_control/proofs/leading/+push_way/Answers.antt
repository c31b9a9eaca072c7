use Rattle.std.proofs.Common.{length, ap, subst, ◌∙◌, arith}
use Rattle.std.proofs.lemmas.Result.{on_ok_weaker}
use Rattle.dh_cells.proofs.CellsAppended.{grows_then, wire_stays}
use Rattle.std.specs.Prelude.{slice_index}
use Rattle.dh_control.specs.WayMoves.{BranchMade, way_of_decision}
use Rattle.dh_control.proofs.CountsMoved.{sized_set, second_set, set_back, count_done}
use Rattle.dh_control.proofs.DecisionForms.{go_fits, never_forks, go_is, rest_is, test_fits, chosen_fits, other_fits, test_whole, chosen_lighter, other_lighter, count_fits, again_fits, past_fits, count_whole, again_lighter, past_lighter}
use Rattle.dh_control.proofs.MovedLists.{sized_stay}
use Rattle.dh_control.proofs.WaysMoved.{holds_fewer, go_way, rest_way, test_done, after_sized}
use Rattle.dh_control.proofs.leading.+push_way.Goals as goal

pub push_lead-requires-clause-number : goal.push_lead-requires-clause-number
push_lead-requires-clause-number t c =
    holds_fewer c.args.width c.args.states c.in-Go.state c.requires.states (go_fits c.args.states (length c.args.widths.now) c.in-Go.state c.args.way.now c.in-Go.is c.requires.way)

pub unreachable-requires : goal.unreachable-requires
unreachable-requires t c = never_forks c.args.states (length c.args.widths.now) c.in-Fork.groups c.args.way.now c.in-Fork.is c.requires.way

-- By a flag.

pub push_branch-requires-clause-register : goal.push_branch-requires-clause-register
push_branch-requires-clause-register t c =
    (test_fits c.args.states (length c.args.widths.now) c.in-Test.flag c.in-Test.yes c.in-Test.no c.args.way.now c.in-Test.is c.requires.way).0

pub push_way-requires : goal.push_way-requires
push_way-requires t c = (
  let less = chosen_lighter c.args.states (length c.args.widths.now) c.in-Test.flag c.in-Test.yes c.in-Test.no c.args.way.now c.in-Test.is c.deref.result.now c.deref.ensures in omega (arith, less, c.decreases),
  (
    c.in_ok-branch-in-Test.ensures.chosen,
    (
      c.requires.states,
      (
        sized_stay _ _ c.args.widths.now c.args.after.now.items c.in_ok-branch-in-Test.ensures.grows c.requires.after,
        chosen_fits c.args.states (length c.args.widths.now) c.in-Test.flag c.in-Test.yes c.in-Test.no c.args.way.now c.in-Test.is c.deref.result.now c.deref.ensures c.requires.way,
      ),
    ),
  ),
)

pub push_way-requires-in-Test : goal.push_way-requires-in-Test
push_way-requires-in-Test t c = (
  let less = other_lighter c.args.states (length c.args.widths.now) c.in-Test.flag c.in-Test.yes c.in-Test.no c.args.way.now c.in-Test.is c.deref-in-Test.result.now c.deref-in-Test.ensures in omega (arith, less, c.decreases),
  (
    wire_stays _ _ c.in_ok-branch-in-Test.branch.other 1 c.in_ok-push_way-in-Test.ensures.added.grows c.in_ok-branch-in-Test.ensures.other,
    (
      c.requires.states,
      (
        after_sized _ _ c.args.widths.now c.push_way.new.after.items c.args.after.now.items (grows_then _ _ _ c.in_ok-branch-in-Test.ensures.grows c.in_ok-push_way-in-Test.ensures.added.grows) c.in_ok-push_way-in-Test.ensures.kept c.requires.after,
        other_fits c.args.states (length c.args.widths.now) c.in-Test.flag c.in-Test.yes c.in-Test.no c.args.way.now c.in-Test.is c.deref-in-Test.result.now c.deref-in-Test.ensures c.requires.way,
      ),
    ),
  ),
)

pub returns-in_ok-push_way-in-Test-2-clause-added : goal.returns-in_ok-push_way-in-Test-2-clause-added
returns-in_ok-push_way-in-Test-2-clause-added t c =
    test_done _ _ _ _ c.args.widths.now c.args.width c.args.states c.args.active c.args.after.now.items c.push_way.new.after.items c.in-Test.flag (way_of_decision c.args.way.now)
    (way_of_decision c.deref.result.now) (way_of_decision c.deref-in-Test.result.now) c.in_ok-branch-in-Test.branch _ _ _ _ _ _
    (let l = c.requires.after.long in let inside = (test_fits c.args.states (length c.args.widths.now) c.in-Test.flag c.in-Test.yes c.in-Test.no c.args.way.now c.in-Test.is c.requires.way).0 in omega (arith, l, inside))
    (subst (λ l. BranchMade c.args.circuit.now c.push_branch.new.circuit c.args.active (slice_index l c.in-Test.flag) 1 c.in_ok-branch-in-Test.branch) c.as_slice-wires.ensures.value c.in_ok-branch-in-Test.ensures)
    c.in_ok-push_way-in-Test.ensures.added c.in_ok-push_way-in-Test.ensures.kept c.in_ok-push_way-in-Test-2.ensures.added
    (test_whole c.args.states (length c.args.widths.now) c.in-Test.flag c.in-Test.yes c.in-Test.no c.args.way.now c.in-Test.is c.deref.result.now c.deref-in-Test.result.now c.deref.ensures c.deref-in-Test.ensures)

-- By a counter.

pub wire_of-wire-requires : goal.wire_of-wire-requires
wire_of-wire-requires t c =
    let same = ap (λ l. length l) c.as_slice-wires-in-Count.ensures.value in
    let long = c.requires.after.long in
    let inside = (count_fits c.args.states (length c.args.widths.now) c.in-Count.counter c.in-Count.last c.in-Count.again c.in-Count.past c.args.way.now c.in-Count.is c.requires.way).0 in
    omega (arith, same, long, inside)

pub push_branch-requires-in-Count-clause-register : goal.push_branch-requires-in-Count-clause-register
push_branch-requires-in-Count-clause-register t c =
    (count_fits c.args.states (length c.args.widths.now) c.in-Count.counter c.in-Count.last c.in-Count.again c.in-Count.past c.args.way.now c.in-Count.is c.requires.way).0

pub push_counted-requires-clause-wires : goal.push_counted-requires-clause-wires
push_counted-requires-clause-wires t c = after_sized _ _ c.args.widths.now _ c.args.after.now.items c.in_ok-branch-in-Count.ensures.grows c.as_slice-wires-in-Count.ensures.value c.requires.after

pub push_counted-requires-clause-counter : goal.push_counted-requires-clause-counter
push_counted-requires-clause-counter t c =
    (count_fits c.args.states (length c.args.widths.now) c.in-Count.counter c.in-Count.last c.in-Count.again c.in-Count.past c.args.way.now c.in-Count.is c.requires.way).0

pub push_way-requires-in-Count : goal.push_way-requires-in-Count
push_way-requires-in-Count t c = (
  let less = past_lighter c.args.states (length c.args.widths.now) c.in-Count.counter c.in-Count.last c.in-Count.again c.in-Count.past c.args.way.now c.in-Count.is c.deref-in-Count.result.now c.deref-in-Count.ensures in omega (arith, less, c.decreases),
  (
    wire_stays _ _ c.in_ok-branch-in-Count.branch.chosen 1 c.in_ok-counted-in-Count.ensures.grows c.in_ok-branch-in-Count.ensures.chosen,
    (
      c.requires.states,
      (
        sized_set _ c.args.widths.now c.set_wire.new.wires.items c.args.after.now.items c.in-Count.counter c.in_ok-counted-in-Count.counted.none
            (sized_stay _ _ c.args.widths.now c.args.after.now.items (grows_then _ _ _ c.in_ok-branch-in-Count.ensures.grows c.in_ok-counted-in-Count.ensures.grows) c.requires.after) c.set_wire.ensures
            (count_fits c.args.states (length c.args.widths.now) c.in-Count.counter c.in-Count.last c.in-Count.again c.in-Count.past c.args.way.now c.in-Count.is c.requires.way).0 c.in_ok-counted-in-Count.ensures.none.there,
        past_fits c.args.states (length c.args.widths.now) c.in-Count.counter c.in-Count.last c.in-Count.again c.in-Count.past c.args.way.now c.in-Count.is c.deref-in-Count.result.now c.deref-in-Count.ensures c.requires.way,
      ),
    ),
  ),
)

pub push_way-requires-in-Count-2 : goal.push_way-requires-in-Count-2
push_way-requires-in-Count-2 t c = (
  let less = again_lighter c.args.states (length c.args.widths.now) c.in-Count.counter c.in-Count.last c.in-Count.again c.in-Count.past c.args.way.now c.in-Count.is c.deref-in-Count-2.result.now c.deref-in-Count-2.ensures in omega (arith, less, c.decreases),
  (
    wire_stays _ _ c.in_ok-branch-in-Count.branch.other 1 (grows_then _ _ _ c.in_ok-counted-in-Count.ensures.grows c.in_ok-push_way-in-Count.ensures.added.grows) c.in_ok-branch-in-Count.ensures.other,
    (
      c.requires.states,
      (
        sized_set _ c.args.widths.now c.set_wire-in-Count.new.wires.items c.args.after.now.items c.in-Count.counter c.in_ok-counted-in-Count.counted.more
            (sized_stay _ _ c.args.widths.now c.args.after.now.items
            (grows_then _ _ _ (grows_then _ _ _ c.in_ok-branch-in-Count.ensures.grows c.in_ok-counted-in-Count.ensures.grows) c.in_ok-push_way-in-Count.ensures.added.grows) c.requires.after)
            (second_set c.args.after.now.items c.set_wire.new.wires.items c.push_way-in-Count.new.after.items c.set_wire-in-Count.new.wires.items c.in-Count.counter _ _ c.set_wire.ensures c.in_ok-push_way-in-Count.ensures.kept c.set_wire-in-Count.ensures)
            (count_fits c.args.states (length c.args.widths.now) c.in-Count.counter c.in-Count.last c.in-Count.again c.in-Count.past c.args.way.now c.in-Count.is c.requires.way).0
            (wire_stays _ _ c.in_ok-counted-in-Count.counted.more _ c.in_ok-push_way-in-Count.ensures.added.grows c.in_ok-counted-in-Count.ensures.more.there),
        again_fits c.args.states (length c.args.widths.now) c.in-Count.counter c.in-Count.last c.in-Count.again c.in-Count.past c.args.way.now c.in-Count.is c.deref-in-Count-2.result.now c.deref-in-Count-2.ensures c.requires.way,
      ),
    ),
  ),
)

pub returns-in_ok-push_counts-in-Count-clause-added : goal.returns-in_ok-push_counts-in-Count-clause-added
returns-in_ok-push_counts-in-Count-clause-added t c =
    count_done _ _ _ _ _ c.args.widths.now c.args.width c.args.states c.args.active c.args.after.now.items c.set_wire.new.wires.items c.set_wire-in-Count.new.wires.items
    c.as_slice-wires-in-Count.result.now c.in-Count.counter c.in-Count.last (way_of_decision c.args.way.now) (way_of_decision c.deref-in-Count-2.result.now) (way_of_decision c.deref-in-Count.result.now)
    c.in_ok-branch-in-Count.branch c.in_ok-counted-in-Count.counted _ _ _ _ _ _ _
    (count_fits c.args.states (length c.args.widths.now) c.in-Count.counter c.in-Count.last c.in-Count.again c.in-Count.past c.args.way.now c.in-Count.is c.requires.way).0
    c.requires.after c.as_slice-wires-in-Count.ensures.value c.in_ok-branch-in-Count.ensures c.in_ok-counted-in-Count.ensures c.set_wire.ensures
    (second_set c.args.after.now.items c.set_wire.new.wires.items c.push_way-in-Count.new.after.items c.set_wire-in-Count.new.wires.items c.in-Count.counter _ _ c.set_wire.ensures c.in_ok-push_way-in-Count.ensures.kept c.set_wire-in-Count.ensures)
    c.in_ok-push_way-in-Count.ensures.added c.in_ok-push_way-in-Count-2.ensures.added c.in_ok-push_counts-in-Count.ensures
    (count_whole c.args.states (length c.args.widths.now) c.in-Count.counter c.in-Count.last c.in-Count.again c.in-Count.past c.args.way.now c.in-Count.is c.deref-in-Count-2.result.now c.deref-in-Count.result.now c.deref-in-Count-2.ensures c.deref-in-Count.ensures)

pub returns-in_ok-push_counts-in-Count-clause-kept : goal.returns-in_ok-push_counts-in-Count-clause-kept
returns-in_ok-push_counts-in-Count-clause-kept t c =
    set_back c.args.after.now.items c.set_wire-in-Count.new.wires.items c.push_way-in-Count-2.new.after.items c.set_wire-in-Count-2.new.wires.items c.in-Count.counter _ c.wire_of-wire.result
    (second_set c.args.after.now.items c.set_wire.new.wires.items c.push_way-in-Count.new.after.items c.set_wire-in-Count.new.wires.items c.in-Count.counter _ _ c.set_wire.ensures c.in_ok-push_way-in-Count.ensures.kept c.set_wire-in-Count.ensures)
    c.in_ok-push_way-in-Count-2.ensures.kept c.set_wire-in-Count-2.ensures (c.wire_of-wire.ensures ∙ ap (λ l. slice_index l c.in-Count.counter) c.as_slice-wires-in-Count.ensures.value)

-- To a state, or to none.

pub returns-in-Go-clause-added : goal.returns-in-Go-clause-added
returns-in-Go-clause-added t c =
    on_ok_weaker c.push_lead.result
    (λ h. go_way _ _ c.args.widths.now c.args.width c.args.states c.args.active c.args.after.now.items _ c.in-Go.state _ _ _ (ap way_of_decision c.in-Go.is ∙ go_is c.in-Go.state) h) c.push_lead.ensures

pub returns-in-Rest-clause-added : goal.returns-in-Rest-clause-added
returns-in-Rest-clause-added t c =
    on_ok_weaker c.push_lead-in-Rest.result
    (λ h. rest_way _ _ c.args.widths.now c.args.width c.args.states c.args.active c.args.after.now.items _ _ _ _ (ap way_of_decision c.in-Rest.is ∙ rest_is) h) c.push_lead-in-Rest.ensures
