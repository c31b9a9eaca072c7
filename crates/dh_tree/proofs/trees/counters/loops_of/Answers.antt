use Rattle.std.proofs.Common.{true, length, sym, ◌∙◌}
use Rattle.dh_tree.specs.Counters.{counters}
use Rattle.dh_tree.specs.Seen.{action_seen}
use Rattle.dh_tree.proofs.LoopsAmong.{empty_list, none_among}
use Rattle.dh_tree.proofs.trees.counters.loops_of.Goals as goal

pub returns-then-is_empty : goal.returns-then-is_empty
returns-then-is_empty c = (
  none_among (counters (action_seen c.args.tree.now.body)) (length c.args.tree.now.entities.items) (record { by_entity = c.new.result; single = true; few = c.in_ok-found.few })
      (sym c.in_ok-found.ensures.found ∙ (sym c.as_slice-list.ensures.value ∙ empty_list c.as_slice-list.result.now (sym c.is_empty.ensures ∙ c.if-is_empty.true))) c.new.ensures.items,
  c.in_ok-found.ensures.few,
)
