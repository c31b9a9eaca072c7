use Rattle.std.proofs.Common.{◌∙◌, sym, ap, subst}
use Rattle.dh_tree.specs.Tables.{FitsEntry}
use Rattle.serde_json.specs.Data.{object}
use Rattle.serde_json.proofs.Views.{view-Object}
use Rattle.dh_data.proofs.Memories.{turn, after_turn, all_added}
use Rattle.dh_data.proofs.reports.memories_value.Goals as goal

pub put_memory-requires-clause-fits : goal.put_memory-requires-clause-fits
put_memory-requires-clause-fits c =
    let t = turn c.args.entries.now c.args.lists.now c.loop-i.i _ _ c.loop-i-test.true c.index-entries-i.is c.index-lists-i.is c.loop-i.invariant.table c.loop-i.invariant.fits in
    subst (λ vs. FitsEntry c.index-entries-i.result vs) (sym c.as_slice.ensures.value) t.fits

pub loop-i-preserved : goal.loop-i-preserved
loop-i-preserved c =
    let t = turn c.args.entries.now c.args.lists.now c.loop-i.i _ _ c.loop-i-test.true c.index-entries-i.is c.index-lists-i.is c.loop-i.invariant.table c.loop-i.invariant.fits in
    record {
      same = after_turn _ _ _ _ _ _ _ _ _ t c.as_slice.ensures.value c.in_ok-put_memory.ensures.put ∙ c.loop-i.invariant.same;
      table = t.table;
      fits = t.rests;
    }

pub returns : goal.returns
returns c = view-Object _ ∙ ap object (sym (all_added _ _ c.loop-i.i _ c.loop-i-test.false) ∙ c.loop-i.invariant.same)
