use Rattle.std.proofs.Common.{◌∙◌, Some, None, string_bytes, ap, sym, bytes_eq}
use Rattle.std.specs.Set.{is_member}
use Rattle.dh_data.specs.DataFiles.{names_of, outside_names}
use Rattle.dh_data.specs.Reading.{first_other}
use Rattle.serde_json.specs.View.{members_view}
use Rattle.dh_data.proofs.Names.{first_is_least, known_first, unknown_first}
use Rattle.dh_data.proofs.data_files.least_unknown.Goals as goal

pub returns-then-not-contains : goal.returns-then-not-contains
returns-then-not-contains c =
    let others = outside_names c.args.entries.now in
    let found = sym c.loop-name.invariant ∙ (ap (λ es. first_other others (names_of (members_view es))) c.in-Some.ensures.steps ∙ unknown_first others (string_bytes c.in-Some.name.now) (names_of (members_view c.next.new.self)) (sym (ap (is_member bytes_eq others) c.as_str.ensures.value) ∙ (sym (c.in_ok-known.ensures c.as_str.result.now) ∙ (sym c.contains.ensures ∙ c.if-not-contains.true)))) in
    first_is_least c.args.entries.now c.args.members.now.entries (Some _) c.iter-name-items.ensures.ordered (found ∙ ap Some (sym (c.in-Ok.ensures ∙ (c.in_ok-text.ensures.ok ∙ c.as_str-then-not-contains.ensures.value))))

pub loop-name-preserved : goal.loop-name-preserved
loop-name-preserved c =
    let others = outside_names c.args.entries.now in
    sym (ap (λ es. first_other others (names_of (members_view es))) c.in-Some.ensures.steps ∙ known_first others (string_bytes c.in-Some.name.now) (names_of (members_view c.next.new.self)) (sym (ap (is_member bytes_eq others) c.as_str.ensures.value) ∙ (sym (c.in_ok-known.ensures c.as_str.result.now) ∙ (sym c.contains.ensures ∙ c.if-not-contains.false)))) ∙ c.loop-name.invariant

pub returns : goal.returns
returns c =
    let others = outside_names c.args.entries.now in
    first_is_least c.args.entries.now c.args.members.now.entries None c.iter-name-items.ensures.ordered (sym c.loop-name.invariant ∙ ap (λ es. first_other others (names_of (members_view es))) c.in-None.ensures.steps.0)
