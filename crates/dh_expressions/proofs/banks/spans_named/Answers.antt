use Rattle.std.proofs.Common.{List, map, ap, sym, subst, ◌∙◌}
use Rattle.std.specs.Prelude.{Option, option_map}
use Rattle.std.proofs.lemmas.Result.{IfOk-weaker}
use Rattle.dh_tree.specs.declared.tables.Dim.{Dim}
use Rattle.dh_tree.specs.declared.viewing.ViewMap.{ViewMap}
use Rattle.dh_tree.specs.Elements.{dims_at}
use Rattle.dh_tree.specs.Memories.{table_of}
use Rattle.dh_tree.specs.Seen.{program_seen, term_seen}
use Rattle.dh_meaning.specs.CoreOf.{dims_by}
use Rattle.dh_meaning.specs.Ways as definitions
use Rattle.dh_ways.specs.Seen.{way_seen}
use Rattle.dh_expressions.specs.ReachedBanks.{TellsSpans}
use Rattle.dh_expressions.proofs.banks.spans_named.Goals as goal

pub returns-in-Some : goal.returns-in-Some
returns-in-Some c =
    let memory = dims_at (table_of (program_seen c.args.scene.now.program.now)) c.args.memory in
    IfOk-weaker c.spans_of.result _ _ (λ spans t.
    subst (λ (w : Option definitions.Way). TellsSpans c.args.scene.now c.args.levels.now (dims_by memory w) (map term_seen c.args.indices.now) spans.items)
    (sym (ap (option_map way_seen) c.in-Some.is) ∙ c.way_in.ensures)
    (subst (λ (ds : List Dim). TellsSpans c.args.scene.now c.args.levels.now ds (map term_seen c.args.indices.now) spans.items) (c.as_slice.ensures ∙ ap (λ (v : ViewMap). v.shape.dims) c.view-named.ensures) t)) c.spans_of.ensures

pub returns-in-None : goal.returns-in-None
returns-in-None c =
    let memory = dims_at (table_of (program_seen c.args.scene.now.program.now)) c.args.memory in
    IfOk-weaker c.spans_in.result _ _ (λ spans t.
    subst (λ (w : Option definitions.Way). TellsSpans c.args.scene.now c.args.levels.now (dims_by memory w) (map term_seen c.args.indices.now) spans.items)
    (sym (ap (option_map way_seen) c.in-None.is) ∙ c.way_in.ensures) t) c.spans_in.ensures
