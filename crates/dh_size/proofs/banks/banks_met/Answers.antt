use Rattle.std.proofs.Common.{rules, ◌≡◌, ◌<◌, ◌≤◌, false, length, get_or, sym, ◌∙◌}
use Rattle.dh_tree.specs.Memories.{table_of}
use Rattle.dh_tree.specs.Seen.{program_seen}
use Rattle.dh_ports.specs.Claims.{source_of}
use Rattle.dh_ports.proofs.ClaimTurns.{entry_at, none_at, shape_at}
use Rattle.dh_size.proofs.ChargedBanks.{entry_missing, met_done, within_few}
use Rattle.dh_size.proofs.banks.banks_met.Goals as goal

pub banks_led-requires : goal.banks_led-requires
banks_led-requires c = record { table = c.requires.table; views = c.requires.views; copies = c.requires.copies; other = sym c.memory_of.ensures ∙ c.in_default.is }

pub returns-in_default-get-clause-met : goal.returns-in_default-get-clause-met
returns-in_default-get-clause-met c =
    let past : length c.as_slice.result.now ≤ c.in-Some.memory = search rules in
    entry_missing (program_seen c.args.typed.now) (source_of c.args.loops.now false c.args.access.now) c.in-Some.memory (sym c.memory_of.ensures ∙ c.in-Some.is)
    (none_at (table_of (program_seen c.args.typed.now)) c.as_slice.result.now c.in-Some.memory (c.as_slice.ensures ∙ c.memories.ensures) past)

pub returns-clause-met : goal.returns-clause-met
returns-clause-met c =
    let within : c.in-Some.memory < length c.as_slice.result.now = search rules in
    let is : c.in-Some-get.entry.now ≡ get_or c.as_slice.result.now c.in-Some.memory c.in-Some-get.entry.now = search rules in
    met_done (program_seen c.args.typed.now) (source_of c.args.loops.now false c.args.access.now) c.as_slice-dims.result.now c.in-Some.memory c.in-Some-get.entry.now c.in_ok-banks.banks
    (sym c.memory_of.ensures ∙ c.in-Some.is) (entry_at (table_of (program_seen c.args.typed.now)) c.as_slice.result.now c.in-Some.memory c.in-Some-get.entry.now (c.as_slice.ensures ∙ c.memories.ensures) within is)
    c.as_slice-dims.ensures c.in_ok-banks.ensures

pub returns-clause-few : goal.returns-clause-few
returns-clause-few c =
    let within : c.in-Some.memory < length c.as_slice.result.now = search rules in
    let is : c.in-Some-get.entry.now ≡ get_or c.as_slice.result.now c.in-Some.memory c.in-Some-get.entry.now = search rules in
    let shape = shape_at (table_of (program_seen c.args.typed.now)) c.as_slice.result.now c.in-Some.memory c.in-Some-get.entry.now c.as_slice-dims.result.now (c.as_slice.ensures ∙ c.memories.ensures) c.requires.table within is c.as_slice-dims.ensures in
    within_few (program_seen c.args.typed.now) (source_of c.args.loops.now false c.args.access.now) c.as_slice-dims.result.now c.in_ok-banks.banks shape.few c.in_ok-banks.ensures
