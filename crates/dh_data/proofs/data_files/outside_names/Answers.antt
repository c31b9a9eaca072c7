use Rattle.std.proofs.Common.{◌+◌, ◌||◌, ◌∙◌, drop, ap, bytes_eq, nat_cmp}
use Rattle.std.specs.Set.{is_member}
use Rattle.std.specs.BTreeSet.{contains_by}
use Rattle.std.specs.Cmp.Lexicographic.{slice_cmp}
use Rattle.dh_data.specs.DataFiles.{outside_names}
use Rattle.dh_base.proofs.ListItems.{at_item}
use Rattle.dh_data.proofs.Names.{set_more, known_more, known_same}
use Rattle.dh_data.proofs.data_files.outside_names.Goals as goal
use Rattle.dh_data.proofs.data_files.outside_names.Goals.{then-entry+in_ok-insert, else-entry}

pub loop-entry-preserved : goal.loop-entry-preserved
loop-entry-preserved c =
    let es = c.args.entries.now in
    let list = at_item es c.loop-entry.entry-index c.entry-item.result c.loop-entry-test.true c.entry-item.is in
    elim c.if-entry.branch [
      | then-entry+in_ok-insert w ↦ λ q.
          known_more (contains_by (λ k. slice_cmp nat_cmp q k.now) c.loop-entry.known) (contains_by (λ k. slice_cmp nat_cmp q k.now) c.if-entry.known) q c.entry-item.result _ (drop (c.loop-entry.entry-index + 1) es) list w.if-entry.true
          (ap (λ s. contains_by (λ k. slice_cmp nat_cmp q k.now) s) w.known-is ∙ set_more c.loop-entry.known w.insert.new.self w.as_str.result c.entry-item.result.name w.as_str.ensures w.in_ok-insert.ensures.updates q)
          ∙ c.loop-entry.invariant q
      | else-entry w ↦ λ q.
          ap (λ s. contains_by (λ k. slice_cmp nat_cmp q k.now) s || is_member bytes_eq (outside_names (drop (c.loop-entry.entry-index + 1) es)) q) w.known-is
          ∙ (known_same (contains_by (λ k. slice_cmp nat_cmp q k.now) c.loop-entry.known) q c.entry-item.result _ (drop (c.loop-entry.entry-index + 1) es) list w.if-entry.false ∙ c.loop-entry.invariant q)
    ]
