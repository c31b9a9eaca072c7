use Rattle.dh_tree.specs.Seen.{form_seen, program_seen}
use Rattle.dh_meaning.specs.Ways.{all_bindings_of}
use Rattle.dh_expressions.proofs.CopiesMade.{counts_more}
use Rattle.dh_expressions.proofs.copies.counts_of.Goals as goal

pub loop-level-preserved : goal.loop-level-preserved
loop-level-preserved c =
    counts_more c.args.scene.now c.loop-level.level (form_seen c.args.access.now.form) c.args.writes c.loop-level.counts.items c.push.new.self.items c.access_depends.result
    (λ scopes low. c.access_depends.ensures (all_bindings_of (program_seen c.args.scene.now.program.now)) low scopes) c.in_ok-push.ensures.items c.loop-level.invariant
