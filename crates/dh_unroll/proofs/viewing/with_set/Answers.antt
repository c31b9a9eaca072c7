use Rattle.std.proofs.Common.{sym, ◌∙◌}
use Rattle.dh_viewing.specs.ReachedBanks.{is_in}
use Rattle.dh_unroll.proofs.ReachedSets.{bank_in, bank_out}
use Rattle.dh_unroll.proofs.viewing.with_set.Goals as goal

pub holds-requires : goal.holds-requires
holds-requires c = c.requires

pub returns-then-holds : goal.returns-then-holds
returns-then-holds c = λ behind.
    bank_in (is_in c.args.found behind) (is_in c.args.own c.args.bank) (is_in c.joined.result behind) (is_in c.args.more behind) (sym c.holds.ensures ∙ c.if-holds.true) (c.joined.ensures behind)

pub returns-else-holds : goal.returns-else-holds
returns-else-holds c = λ behind. bank_out (is_in c.args.found behind) (is_in c.args.own c.args.bank) (is_in c.args.more behind) (sym c.holds.ensures ∙ c.if-holds.false)
