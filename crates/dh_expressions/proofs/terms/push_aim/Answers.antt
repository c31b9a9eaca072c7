use Rattle.std.proofs.Common.{map}
use Rattle.dh_tree.specs.Seen.{term_seen, terms}
use Rattle.dh_expressions.proofs.PartsMade.{aimed_through}
use Rattle.dh_expressions.proofs.terms.push_aim.Goals as goal

pub returns-clause-means : goal.returns-clause-means
returns-clause-means c = record {
  middle = c.push_indices.new.draft;
  listed = c.in_ok-aim.aim;
  indices = c.in_ok-aim.ensures.means;
  passes = c.in_ok-push_way.ensures.means;
}

pub returns-clause-made : goal.returns-clause-made
returns-clause-made c =
    aimed_through c.args.scene.now c.args.lane.now c.args.current.now c.args.draft.now c.push_indices.new.draft c.push_way.new.draft c.args.accesses.now c.push_indices.new.accesses c.args.first c.args.of.now (terms (map term_seen c.args.indices.now)) c.in_ok-aim.aim c.push_way.new.aim
    c.in_ok-aim.ensures.made c.in_ok-push_way.ensures.made
