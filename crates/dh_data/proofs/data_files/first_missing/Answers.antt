use Rattle.std.proofs.Common.{◌+◌, ◌∙◌, drop, ap, sym, true≢false}
use Rattle.std.proofs.lemmas.List.{drop_all}
use Rattle.serde_json.specs.Find.{get_member}
use Rattle.serde_json.specs.View.{view, members_view}
use Rattle.dh_base.proofs.ListItems.{at_item}
use Rattle.dh_data.proofs.Names.{leads_on, leads_here, leads_end, none_found, some_found}
use Rattle.dh_data.proofs.data_files.first_missing.Goals as goal
use Rattle.dh_data.proofs.data_files.first_missing.Goals.{else-entry-via-then-entry+else-is_none, else-entry-via-else-entry}

pub returns-then-is_none : goal.returns-then-is_none
returns-then-is_none c =
    let es = c.args.entries.now in
    let list = at_item es c.loop-i.i c.index-entries-i.result c.loop-i-test.true c.index-entries-i.is in
    let none = none_found (λ v. view v.now) c.member.result c.is_none.result _ c.is_none.ensures c.if-is_none.true (c.member.ensures ∙ ap (λ n. get_member n (members_view c.args.members.now.entries)) c.as_str.ensures) in
    leads_here _ _ (drop (c.loop-i.i + 1) es) es c.index-entries-i.result c.loop-i.i list (record { outside = c.if-entry.true; none = none }) c.loop-i.invariant

pub loop-i-preserved : goal.loop-i-preserved
loop-i-preserved c =
    let es = c.args.entries.now in
    let list = at_item es c.loop-i.i c.index-entries-i.result c.loop-i-test.true c.index-entries-i.is in
    elim c.else-entry.branch [
      | else-entry-via-then-entry+else-is_none w ↦
          leads_on _ _ (drop (c.loop-i.i + 1) es) es c.index-entries-i.result c.loop-i.i list
          (λ h. some_found (λ v. view v.now) w.member.result w.is_none.result _ w.is_none.ensures w.if-is_none.false (w.member.ensures ∙ ap (λ n. get_member n (members_view c.args.members.now.entries)) w.as_str.ensures) h.none) c.loop-i.invariant
      | else-entry-via-else-entry w ↦
          leads_on _ _ (drop (c.loop-i.i + 1) es) es c.index-entries-i.result c.loop-i.i list (λ h. true≢false (sym h.outside ∙ w.if-entry.false)) c.loop-i.invariant
    ]

pub returns : goal.returns
returns c = leads_end _ _ c.args.entries.now c.loop-i.i (drop_all c.loop-i.i c.args.entries.now c.loop-i-test.false) c.loop-i.invariant
