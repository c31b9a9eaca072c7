use Rattle.std.proofs.Common.{List, map, refl, ap, subst, ◌∙◌}
use Rattle.dh_tree.specs.declared.trees.expressions.Expr.{Expr}
use Rattle.dh_tree.specs.Elements.{dims_at}
use Rattle.dh_tree.specs.Memories.{table_of}
use Rattle.dh_tree.specs.Seen.{form_seen, program_seen, term_seen}
use Rattle.dh_tree.proofs.SeenTerms.{access_is, binary_is, cast_is, number_is, physical_is, truth_is, variable_is}
use Rattle.dh_meaning.specs.CoreOf.{dims_by, way_of}
use Rattle.dh_expressions.specs.Named.{known_in}
use Rattle.dh_expressions.specs.ReachedBanks.{TellsSpans}
use Rattle.dh_expressions.proofs.BankSpans.{bank_itself, bank_listed}
use Rattle.dh_expressions.proofs.banks.bank_told.Goals as goal

pub returns-in_ok-spans-in-Access : goal.returns-in_ok-spans-in-Access
returns-in_ok-spans-in-Access c =
    bank_listed c.args.scene.now c.args.levels.now c.args.memory (form_seen c.args.access.now.form) c.in-Access.of (map term_seen c.in-Access.indices.items) c.in_ok-spans-in-Access.spans.items
    (ap form_seen c.in-Access.is ∙ access_is c.in-Access.of c.in-Access.indices)
    (subst (λ (es : List Expr). TellsSpans c.args.scene.now c.args.levels.now (dims_by (dims_at (table_of (program_seen c.args.scene.now.program.now)) c.args.memory) (way_of (known_in c.args.scene.now) c.in-Access.of)) (map term_seen es) c.in_ok-spans-in-Access.spans.items) c.as_slice.ensures.value
    c.in_ok-spans-in-Access.ensures)

pub returns-in-Physical : goal.returns-in-Physical
returns-in-Physical c =
    bank_itself c.args.scene.now c.args.levels.now c.args.memory (form_seen c.args.access.now.form) _ c.no_spans.result.items c.in-Physical.bank
    (ap form_seen c.in-Physical.is ∙ physical_is c.in-Physical.of c.in-Physical.bank c.in-Physical.bank_place c.in-Physical.row) c.no_spans.ensures (λ path. refl)

pub returns-in-Number : goal.returns-in-Number
returns-in-Number c = bank_itself c.args.scene.now c.args.levels.now c.args.memory (form_seen c.args.access.now.form) _ c.no_spans-in-Number.result.items 0 (ap form_seen c.in-Number.is ∙ number_is c.in-Number.negative c.in-Number.value) c.no_spans-in-Number.ensures (λ path. refl)

pub returns-in-Truth : goal.returns-in-Truth
returns-in-Truth c = bank_itself c.args.scene.now c.args.levels.now c.args.memory (form_seen c.args.access.now.form) _ c.no_spans-in-Truth.result.items 0 (ap form_seen c.in-Truth.is ∙ truth_is c.in-Truth.value) c.no_spans-in-Truth.ensures (λ path. refl)

pub returns-in-Variable : goal.returns-in-Variable
returns-in-Variable c = bank_itself c.args.scene.now c.args.levels.now c.args.memory (form_seen c.args.access.now.form) _ c.no_spans-in-Variable.result.items 0 (ap form_seen c.in-Variable.is ∙ variable_is c.in-Variable.of) c.no_spans-in-Variable.ensures (λ path. refl)

pub returns-in-Binary : goal.returns-in-Binary
returns-in-Binary c = bank_itself c.args.scene.now c.args.levels.now c.args.memory (form_seen c.args.access.now.form) _ c.no_spans-in-Binary.result.items 0 (ap form_seen c.in-Binary.is ∙ binary_is c.in-Binary.op c.in-Binary.left c.in-Binary.right) c.no_spans-in-Binary.ensures (λ path. refl)

pub returns-in-Cast : goal.returns-in-Cast
returns-in-Cast c = bank_itself c.args.scene.now c.args.levels.now c.args.memory (form_seen c.args.access.now.form) _ c.no_spans-in-Cast.result.items 0 (ap form_seen c.in-Cast.is ∙ cast_is c.in-Cast.inner c.in-Cast.to) c.no_spans-in-Cast.ensures (λ path. refl)
