use Rattle.std.proofs.Common.{◌<◌, ◌^◌, List, length, sym, subst}
use Rattle.std.specs.List.{AllByRecursion}
use Rattle.serde_json.specs.View.{view, members_view}
use Rattle.dh_tree.specs.declared.tables.MemEntry.{MemEntry}
use Rattle.dh_data.specs.DataFiles.{Says, HasAll, IfTold}
use Rattle.dh_data.specs.Reading.{HasCountableNumbers}
use Rattle.dh_data.proofs.Fitting.{held, few_memories, of_object, said_shows}
use Rattle.dh_data.proofs.data_files.contents_in.Goals as goal

pub contents_by-requires-clause-entries : goal.contents_by-requires-clause-entries
contents_by-requires-clause-entries c = subst (λ (es : List MemEntry). AllByRecursion HasCountableNumbers es) (sym c.as_slice.ensures) (held c.args.table.now c.requires)

pub contents_by-requires-clause-few : goal.contents_by-requires-clause-few
contents_by-requires-clause-few c = subst (λ (es : List MemEntry). length es < 2 ^ 32) (sym c.as_slice.ensures) (few_memories c.args.table.now c.requires)

pub returns-in-Some : goal.returns-in-Some
returns-in-Some c =
    said_shows c.args.table.now (view c.args.value.now) (members_view c.in-Some.members.now.entries) c.contents_by.result (of_object (view c.args.value.now) (members_view c.in-Some.members.now.entries) c.in-Some.ensures)
    (subst (λ (es : List MemEntry). IfTold c.contents_by.result (Says es (members_view c.in-Some.members.now.entries) c.contents_by.result)) c.as_slice.ensures c.contents_by.ensures.says)
    (λ refused. subst (λ (es : List MemEntry). HasAll es (members_view c.in-Some.members.now.entries)) c.as_slice.ensures (c.contents_by.ensures.refused refused))
