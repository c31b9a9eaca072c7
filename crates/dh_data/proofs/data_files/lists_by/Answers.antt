use Rattle.std.proofs.Common.{◌+◌, [], ◌∷◌, ◌∙◌, List, ℕ, take, map, ap, sym, subst}
use Rattle.std.proofs.lemmas.List.{map-append}
use Rattle.serde_json.specs.View.{members_view}
use Rattle.dh_data.specs.DataFiles.{AreContents}
use Rattle.dh_data.proofs.Contents.{contents_more, stopped}
use Rattle.dh_data.proofs.data_files.lists_by.Goals as goal

pub returns-in_err-list : goal.returns-in_err-list
returns-in_err-list c =
    stopped (members_view c.args.members.now.entries) c.args.entries.now c.loop-i.i c.index-entries-i.result (map (λ v. v.items) c.loop-i.lists.items) c.in_err-list.field-0.0 c.from_residual-in_err-list.result c.loop-i-test.true c.index-entries-i.is c.loop-i.invariant c.in_err-list.ensures c.from_residual-in_err-list.ensures.1

pub loop-i-preserved : goal.loop-i-preserved
loop-i-preserved c =
    let more = contents_more (members_view c.args.members.now.entries) c.args.entries.now c.loop-i.i c.index-entries-i.result (map (λ v. v.items) c.loop-i.lists.items) c.in_ok-list.list.items c.loop-i-test.true c.index-entries-i.is c.loop-i.invariant c.in_ok-list.ensures in
    subst (λ (vs : List (List ℕ)). AreContents (members_view c.args.members.now.entries) (take (c.loop-i.i + 1) c.args.entries.now) vs) (sym (ap (map (λ v. v.items)) c.in_ok-push.ensures.items ∙ map-append (λ v. v.items) c.loop-i.lists.items (c.in_ok-list.list ∷ []))) more
