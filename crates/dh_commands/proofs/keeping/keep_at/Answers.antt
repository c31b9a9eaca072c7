use Rattle.std.proofs.Common.{ℕ, List, map, subst}
use Rattle.std.specs.Prelude.{Option}
use Rattle.dh_tree.specs.Seen.{view_plan, terms}
use Rattle.dh_tree.specs.ViewOffsets.{offsets_of}
use Rattle.dh_ways.specs.Seen.{hidden_seen}
use Rattle.dh_expressions.specs.Drafted.{word_shown}
use Rattle.dh_expressions.specs.Evaluated.{GivesAll}
use Rattle.dh_expressions.specs.MadeTerms.{MadeTerms}
use Rattle.dh_commands.specs.Keeping.{EvaluatesWords, held_words}
use Rattle.dh_commands.specs.MadeCommands.{MadeHolds}
use Rattle.dh_commands.specs.Setting.{SetsFrom}
use Rattle.dh_commands.proofs.Kept.{kept_one}
use Rattle.dh_commands.proofs.KeptWords.{holds_long}
use Rattle.dh_commands.proofs.keeping.keep_at.Goals as goal

pub returns-clause-means : goal.returns-clause-means
returns-clause-means c =
    kept_one c.args.scene.now c.args.lane.now c.args.building.now (record { draft = c.hold_each.new.draft; accesses = c.push_offsets.new.accesses; values = c.set_from.new.values })
    c.push_offsets.new.draft c.args.first c.in_ok-values.next (hidden_seen c.args.hidden) (offsets_of (view_plan c.args.form.now)) c.in_ok-values.values.items c.in_ok-held.held.items
    (subst (λ (os : List (Option ℕ)). EvaluatesWords c.args.scene.now c.args.lane.now os c.args.building.now.draft c.push_offsets.new.draft c.args.building.now.accesses c.push_offsets.new.accesses c.args.first (offsets_of (view_plan c.args.form.now)) c.in_ok-values.values.items c.in_ok-values.next)
    c.as_slice-current.ensures.value c.in_ok-values.ensures.means)
    (subst (λ (vs : List ℕ). GivesAll c.push_offsets.new.draft c.hold_each.new.draft c.in_ok-held.held.items (λ x. held_words c.args.scene.now c.args.hidden.entity (offsets_of (view_plan c.args.form.now)) (map (λ n. word_shown x n) vs))) c.as_slice.ensures.value
    c.in_ok-held.ensures.means)
    (holds_long c.args.scene.now c.args.hidden.entity (offsets_of (view_plan c.args.form.now)) c.in_ok-values.values.items c.push_offsets.new.draft c.hold_each.new.draft c.in_ok-held.held.items
    (subst (λ (vs : List ℕ). MadeHolds c.args.scene.now c.args.hidden.entity (offsets_of (view_plan c.args.form.now)) vs c.push_offsets.new.draft c.hold_each.new.draft c.in_ok-held.held.items) c.as_slice.ensures.value c.in_ok-held.ensures.made))
    (subst (λ (vs : List ℕ). SetsFrom c.args.scene.now c.args.lane.now c.args.building.now.values c.set_from.new.values c.args.hidden.entity vs) c.as_slice-kept.ensures.value c.in_ok-set_from.ensures)

pub returns-clause-made : goal.returns-clause-made
returns-clause-made c = record {
  values = c.in_ok-values.values.items;
  held = c.in_ok-held.held.items;
  middle = c.push_offsets.new.draft;
  offsets_made =
      subst (λ (os : List (Option ℕ)). MadeTerms c.args.scene.now c.args.lane.now os (terms (offsets_of (view_plan c.args.form.now))) c.args.building.now.draft c.push_offsets.new.draft c.args.building.now.accesses c.push_offsets.new.accesses c.args.first c.in_ok-values.next c.in_ok-values.values.items)
      c.as_slice-current.ensures.value c.in_ok-values.ensures.made;
  holds = subst (λ (vs : List ℕ). MadeHolds c.args.scene.now c.args.hidden.entity (offsets_of (view_plan c.args.form.now)) vs c.push_offsets.new.draft c.hold_each.new.draft c.in_ok-held.held.items) c.as_slice.ensures.value c.in_ok-held.ensures.made;
  sets = subst (λ (vs : List ℕ). SetsFrom c.args.scene.now c.args.lane.now c.args.building.now.values c.set_from.new.values c.args.hidden.entity vs) c.as_slice-kept.ensures.value c.in_ok-set_from.ensures;
}
