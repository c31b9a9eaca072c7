use Rattle.std.proofs.Common.{map, ap, sym, ◌∙◌}
use Rattle.dh_tree.specs.declared.trees.programs.Tree.{Tree}
use Rattle.dh_tree.specs.Seen.{action_seen, program_seen}
use Rattle.dh_ways.specs.Stands.{stand_seen}
use Rattle.dh_ways.proofs.NoStands.{none_stand}
use Rattle.dh_ways.proofs.StandsCut.{found_whole}
use Rattle.dh_ways.proofs.standing.standing_in.Goals as goal

pub returns-then-has_no_view : goal.returns-then-has_no_view
returns-then-has_no_view c =
    ap (map stand_seen) c.new-found.ensures.items
    ∙ sym (none_stand 0 1 (program_seen c.args.typed.now).body (c.has_no_view.ensures c.if-has_no_view.true))

pub returns : goal.returns
returns c =
    found_whole c.find_standing.new.found.items c.new-found.result.items (action_seen c.tree.result.now.body) (program_seen c.args.typed.now).body
    c.in_ok-find_standing.ensures c.new-found.ensures.items (ap (λ (t : Tree). action_seen t.body) c.tree.ensures.tree) c.requires.round
