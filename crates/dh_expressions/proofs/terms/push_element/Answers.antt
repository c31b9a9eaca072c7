use Rattle.std.proofs.Common.{ℕ, subst}
use Rattle.dh_tree.specs.Seen.{term_seen}
use Rattle.dh_expressions.specs.MadeTerms.{MadeRead}
use Rattle.dh_expressions.specs.Reaching.{ReadsAt}
use Rattle.dh_expressions.proofs.terms.push_element.Goals as goal

pub returns-clause-means : goal.returns-clause-means
returns-clause-means c = record {
  next = c.saturating_add-next.ensures;
  reads =
      subst (λ (m : ℕ). ReadsAt c.args.scene.now c.args.lane.now c.args.draft.now c.push_read.new.draft c.args.accesses.now c.push_read.new.accesses (term_seen c.args.access.now) m c.args.aim.now c.in_ok-value.value) c.memory_of-memory.ensures c.in_ok-value.ensures.means;
}

pub returns-clause-made : goal.returns-clause-made
returns-clause-made c = record {
  next_is = c.saturating_add-next.ensures;
  reads =
      subst (λ (m : ℕ). MadeRead c.args.scene.now c.args.lane.now (term_seen c.args.access.now) m c.args.aim.now c.args.draft.now c.push_read.new.draft c.args.accesses.now c.push_read.new.accesses c.in_ok-value.value) c.memory_of-memory.ensures c.in_ok-value.ensures.made;
}
