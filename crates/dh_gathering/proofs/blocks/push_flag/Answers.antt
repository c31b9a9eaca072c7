use Rattle.std.proofs.Common.{sym, ◌∙◌}
use Rattle.dh_tree.specs.Seen.{term_seen}
use Rattle.dh_gathering.proofs.BlocksPut.{flag_at_read, flag_at_value}
use Rattle.dh_gathering.proofs.blocks.push_flag.Goals.{then-is_read+in_ok-value, else-is_read}
use Rattle.dh_gathering.proofs.blocks.push_flag.Goals as goal

pub returns : goal.returns
returns c = elim c.if-is_read.branch [
  | then-is_read+in_ok-value w ↦
      flag_at_read c.args.draft.now w.push_compute.new.draft c.if-is_read.draft c.push_set.new.draft (term_seen c.args.test.now) c.args.value w.in_ok-value.value c.if-is_read.value c.in_ok-push_set.field-0 c.args.flag
      (sym c.is_read.ensures ∙ w.if-is_read.true) w.draft-is w.value-is w.in_ok-value.ensures.means w.in_ok-value.ensures.made c.in_ok-push_set.ensures
  | else-is_read w ↦
      flag_at_value c.args.draft.now c.if-is_read.draft c.push_set.new.draft (term_seen c.args.test.now) c.args.value c.if-is_read.value c.in_ok-push_set.field-0 c.args.flag
      (sym c.is_read.ensures ∙ w.if-is_read.false) w.draft-is w.value-is c.in_ok-push_set.ensures
]
