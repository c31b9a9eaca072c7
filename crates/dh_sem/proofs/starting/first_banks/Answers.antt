use Rattle.std.proofs.Common.{subst, sym, List, ℕ}
use Rattle.dh_code.proofs.BankLists.{FirstsTo, first_none, firsts_none, firsts_more, next_dims, next_word, next_first, fits_word}
use Rattle.dh_sem.proofs.starting.first_banks.Goals as goal

pub loop-entry-init : goal.loop-entry-init
loop-entry-init c = (first_none c.args.entries.now, subst (λ (l : List ℕ). FirstsTo c.args.entries.now l 0) (sym c.new-firsts.ensures.items) (firsts_none c.args.entries.now))

pub measure-requires : goal.measure-requires
measure-requires c = record { dims = next_dims c.args.entries.now c.loop-entry.entry-index c.entry-item.result c.as_slice.result.now c.loop-entry-test.true c.entry-item.is c.as_slice.ensures c.requires.table c.requires.few }

pub overflow_add-banks : goal.overflow_add-banks
overflow_add-banks c = fits_word _ (next_word c.args.entries.now c.loop-entry.entry-index c.entry-item.result c.as_slice.result.now c.loop-entry-test.true c.entry-item.is c.as_slice.ensures c.loop-entry.banks c.measure.result.banks c.requires.table c.requires.few c.loop-entry.invariant.0 c.measure.ensures.0)

pub loop-entry-preserved : goal.loop-entry-preserved
loop-entry-preserved c = (
  next_first c.args.entries.now c.loop-entry.entry-index c.entry-item.result c.as_slice.result.now c.loop-entry-test.true c.entry-item.is c.as_slice.ensures c.loop-entry.banks c.measure.result.banks c.loop-entry.invariant.0 c.measure.ensures.0,
  firsts_more c.args.entries.now c.loop-entry.firsts.items c.push.new.self.items c.loop-entry.entry-index c.loop-entry.banks c.loop-entry.invariant.1 c.loop-entry.invariant.0 c.in_ok-push.ensures.items,
)
