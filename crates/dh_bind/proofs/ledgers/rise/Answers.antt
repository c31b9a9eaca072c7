use Rattle.std.proofs.Common.{◌≡◌, arith, sym, ◌∙◌, subst}
use Rattle.dh_ledger.specs.Spending.{Spending, IsLarger}
use Rattle.dh_bind.proofs.LedgerFacts.{rise_turn, marks_turn}
use Rattle.dh_bind.proofs.ledgers.rise.Goals as goal

pub loop-end-preserved : goal.loop-end-preserved
loop-end-preserved c =
    let e : c.mark.result ≡ c.index-ledgers-end.result = c.mark.ensures.holds ∙ sym c.index-ledgers-end.is in
    record {
      rises = rise_turn c.args.ends.now c.loop-end.end-index c.args.ledgers.now c.loop-end.ledgers c.args.log.now.items c.loop-end.log.items c.push.new.self.items c.end-item.result
          c.index-ledgers-end.result c.mark.result c.join_max.new.self (omega arith) c.end-item.is c.requires c.index-ledgers-end.is e
          (subst (λ (x : Spending). IsLarger x c.end-item.result.state c.join_max.new.self) (sym c.index-ledgers-end.is) c.join_max.ensures.larger) c.loop-end.invariant.rises c.in_ok-push.ensures.items;
      marks = λ all. marks_turn c.args.ends.now c.loop-end.end-index c.args.ledgers.now c.loop-end.ledgers c.loop-end.log.items c.push.new.self.items c.end-item.result
          c.index-ledgers-end.result c.mark.result (omega arith) c.end-item.is c.requires c.index-ledgers-end.is e c.loop-end.invariant.rises.alike (c.loop-end.invariant.marks all) c.in_ok-push.ensures.items;
    }
