use Rattle.std.proofs.Common.{refl}
use Rattle.dh_tree.specs.Counters.{counters_of}
use Rattle.dh_tree.specs.Indices.{index_kind}
use Rattle.dh_tree.specs.Seen.{form_seen, program_seen, term_seen}
use Rattle.dh_expressions.proofs.BankSpans.{span_added}
use Rattle.dh_expressions.proofs.banks.add_span.Goals as goal

pub returns-in_ok-push : goal.returns-in_ok-push
returns-in_ok-push c =
    span_added c.args.scene.now c.args.levels.now c.args.banks c.args.times (term_seen c.args.index.now) (index_kind (counters_of (program_seen c.args.scene.now.program.now)) c.args.index.now.kind (form_seen c.args.index.now.form))
    c.args.spans.now.items c.push.new.self.items c.span_of.result (λ path. refl) c.span_of.ensures c.in_ok-push.ensures.items
