use Rattle.std.proofs.Common.{refl, ap, ◌∙◌}
use Rattle.dh_tree.specs.Seen.{form_seen, term_seen}
use Rattle.dh_tree.proofs.SeenTerms.{number_is, truth_is, variable_is, access_is, physical_is, binary_is, cast_is}
use Rattle.dh_meets.specs.Charges.{loop_factors}
use Rattle.dh_ports.specs.Banks.{path_of_number}
use Rattle.dh_size.proofs.IndexTurns.{reached_indices, reached_row, reached_none}
use Rattle.dh_size.proofs.banks.bank_reached.Goals as goal

pub returns-in-Access : goal.returns-in-Access
returns-in-Access c =
    reached_indices c.args.typed.now c.args.loops.now c.args.dims.now c.args.access.now (path_of_number (loop_factors c.args.loops.now) c.args.number) c.in-Access.indices.items c.as_slice.result.now c.in-Access.of c.bank_at.result
    (ap form_seen c.in-Access.is ∙ access_is c.in-Access.of c.in-Access.indices) c.as_slice.ensures.value c.bank_at.ensures

pub returns-in-Physical : goal.returns-in-Physical
returns-in-Physical c =
    reached_row c.args.typed.now c.args.loops.now c.args.dims.now c.args.access.now (path_of_number (loop_factors c.args.loops.now) c.args.number) c.in-Physical.of c.in-Physical.bank c.in-Physical.bank_place (term_seen c.in-Physical.row.value)
    (ap form_seen c.in-Physical.is ∙ physical_is c.in-Physical.of c.in-Physical.bank c.in-Physical.bank_place c.in-Physical.row)

pub returns-in-Number : goal.returns-in-Number
returns-in-Number c = reached_none c.args.typed.now c.args.loops.now c.args.dims.now c.args.access.now (path_of_number (loop_factors c.args.loops.now) c.args.number) _ (ap form_seen c.in-Number.is ∙ number_is _ _) refl

pub returns-in-Truth : goal.returns-in-Truth
returns-in-Truth c = reached_none c.args.typed.now c.args.loops.now c.args.dims.now c.args.access.now (path_of_number (loop_factors c.args.loops.now) c.args.number) _ (ap form_seen c.in-Truth.is ∙ truth_is _) refl

pub returns-in-Variable : goal.returns-in-Variable
returns-in-Variable c = reached_none c.args.typed.now c.args.loops.now c.args.dims.now c.args.access.now (path_of_number (loop_factors c.args.loops.now) c.args.number) _ (ap form_seen c.in-Variable.is ∙ variable_is _) refl

pub returns-in-Binary : goal.returns-in-Binary
returns-in-Binary c = reached_none c.args.typed.now c.args.loops.now c.args.dims.now c.args.access.now (path_of_number (loop_factors c.args.loops.now) c.args.number) _ (ap form_seen c.in-Binary.is ∙ binary_is _ _ _) refl

pub returns-in-Cast : goal.returns-in-Cast
returns-in-Cast c = reached_none c.args.typed.now c.args.loops.now c.args.dims.now c.args.access.now (path_of_number (loop_factors c.args.loops.now) c.args.number) _ (ap form_seen c.in-Cast.is ∙ cast_is _ _) refl
