use Rattle.std.proofs.Common.{rules, ap, sym, ◌∙◌, refl}
use Rattle.dh_tree.specs.Memories.{memories_of}
use Rattle.dh_tree.specs.PlainTrees.{Program}
use Rattle.dh_tree.specs.Seen.{program_seen}
use Rattle.dh_meaning.specs.Ways.{way_at}
use Rattle.dh_events.specs.Tables.{table_at}
use Rattle.dh_lengths.proofs.PhasesTold.{walk_told}
use Rattle.dh_lengths.proofs.lengths.phase_lengths.Goals as goal

pub returns : goal.returns
returns c =
    let p = program_seen c.args.program.now in
    let same = ap (λ (q : Program). q.body) (sym (ap program_seen c.tree.ensures.tree)) in
    walk_told _ p c.requires.numbered.0 c.new-stages.result.items c.as_slice-2.result.now c.in_ok-shares.shares.items _ c.walk_command.new.walk c.close.new.walk c.tree.result.now.body c.in_ok-walk_command.ensures c.in_ok-close.ensures same c.requires.numbered.1 c.new-stages.ensures.items
    (ap table_at c.as_slice-2.ensures.value ∙ c.in_ok-note_stages.ensures.noted)
    (record { same = λ entity. ap (λ ls. way_at (memories_of p) ls entity) c.in_ok-table.ensures }) (c.in_ok-shares.ensures p c.requires.numbered.0 same c.requires.numbered.1)
    (record { shares_are = c.as_slice.ensures.value; reads = search rules; first = refl; most = refl; variables = search rules; log = search rules; pending = refl; going = refl; lengths = search rules })
