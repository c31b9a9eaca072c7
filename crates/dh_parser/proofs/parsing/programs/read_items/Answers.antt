use Rattle.std.proofs.Common.{rules, refl, ap, ◌∙◌}
use Rattle.dh_parser.specs.Reading.{the_items, good}
use Rattle.dh_parser.proofs.Going.{err_then, given, known}
use Rattle.dh_parser.proofs.Loops.{loop_begins, loop_turn, loop_ends}
use Rattle.dh_parser.proofs.ItemLoops.{items_by, items_turn, items_end, items_begin, items_stay, items_done, item_goes, item_none, item_more}
use Rattle.dh_parser.proofs.parsing.programs.read_items.Goals as goal

pub loop-items-init : goal.loop-items-init
loop-items-init c = record {
  loops = loop_begins the_items c.args.reader.now.rest.now (items_begin _ _ _ c.new.ensures.items c.new-2.ensures.items);
  room = search rules;
}

pub returns-in_err-item-clause-answer : goal.returns-in_err-item-clause-answer
returns-in_err-item-clause-answer c =
    rw (given c.from_residual.ensures)
    (loop_ends c.loop-items.invariant.loops (λ k. rw (items_by k c.loop-items.reader.rest.now) (err_then _ c.in_err-item.ensures.answer)))

pub returns-in_default-clause-answer : goal.returns-in_default-clause-answer
returns-in_default-clause-answer c =
    let s = known (rw c.in_default.is at c.in_ok-item.ensures.answer) in
    let n = item_none s.0 _ _ s.1.0 in
    loop_ends c.loop-items.invariant.loops (λ k. rw (items_end c.loop-items.reader.rest.now c.read_item.new.reader.rest.now (s.1.1 ∙ ap (λ x. good x c.read_item.new.reader.rest.now) n.0) k)
    (record { holds = ((λ put so. items_done c.loop-items.items (items_stay n.1 so)), refl) }))

pub loop-items-preserved : goal.loop-items-preserved
loop-items-preserved c =
    let s = known (rw c.in-Some.is at c.in_ok-item.ensures.answer) in
    let g = item_goes c.in-Some.item s.0 _ _ s.1.0 in record {
      loops = loop_turn g.0 c.loop-items.invariant.loops (items_turn c.loop-items.reader.rest.now c.read_item.new.reader.rest.now g.0 (s.1.1 ∙ ap (λ x. good x c.read_item.new.reader.rest.now) g.1.0))
          (rw c.in-Some.is at c.in_ok-item.ensures.taken) (λ put so. item_more c.loop-items.items c.keep.new.items c.in-Some.item g.0 g.1.1 c.in_ok-keep.ensures so);
      room = search rules;
    }
