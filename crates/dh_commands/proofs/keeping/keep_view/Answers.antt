use Rattle.std.proofs.Common.{sym, ap, ◌∙◌}
use Rattle.std.specs.Prelude.{option_map}
use Rattle.std.proofs.lemmas.Result.{IfOk-weaker}
use Rattle.dh_tree.specs.Seen.{view_plan}
use Rattle.dh_tree.specs.ViewOffsets.{offsets_of}
use Rattle.dh_meaning.specs.CoreOf.{way_of}
use Rattle.dh_meaning.specs.Ways.{hidden_in}
use Rattle.dh_ways.specs.Seen.{hidden_seen}
use Rattle.dh_expressions.specs.Evaluated.{known_in}
use Rattle.dh_commands.proofs.KeptWords.{keeps_found, keeps_nowhere, kept_found, kept_nowhere}
use Rattle.dh_commands.proofs.keeping.keep_view.Goals as goal

pub returns-in-Some-clause-means : goal.returns-in-Some-clause-means
returns-in-Some-clause-means c =
    IfOk-weaker c.keep_all.result _ _
    (λ next d. keeps_found c.args.scene.now c.args.around c.args.building.now c.keep_all.new.building c.args.first c.args.idle next (hidden_in (way_of (known_in c.args.scene.now) c.args.name.now)) (hidden_seen c.in-Some.hidden) (offsets_of (view_plan c.args.form.now))
    (sym (ap (option_map hidden_seen) c.in-Some.is) ∙ c.first_kept.ensures) d)
    c.keep_all.ensures.means

pub returns-in-Some-clause-made : goal.returns-in-Some-clause-made
returns-in-Some-clause-made c =
    IfOk-weaker c.keep_all.result _ _
    (λ next d. kept_found c.args.scene.now c.args.around c.args.building.now c.keep_all.new.building c.args.first c.args.idle next (hidden_in (way_of (known_in c.args.scene.now) c.args.name.now)) (hidden_seen c.in-Some.hidden) (offsets_of (view_plan c.args.form.now))
    (sym (ap (option_map hidden_seen) c.in-Some.is) ∙ c.first_kept.ensures) d)
    c.keep_all.ensures.made

pub returns-in-None-clause-means : goal.returns-in-None-clause-means
returns-in-None-clause-means c =
    keeps_nowhere c.args.scene.now c.args.around c.args.building.now c.args.first c.args.idle (hidden_in (way_of (known_in c.args.scene.now) c.args.name.now)) (offsets_of (view_plan c.args.form.now)) (sym (ap (option_map hidden_seen) c.in-None.is) ∙ c.first_kept.ensures)

pub returns-in-None-clause-made : goal.returns-in-None-clause-made
returns-in-None-clause-made c =
    kept_nowhere c.args.scene.now c.args.around c.args.building.now c.args.first c.args.idle (hidden_in (way_of (known_in c.args.scene.now) c.args.name.now)) (offsets_of (view_plan c.args.form.now)) (sym (ap (option_map hidden_seen) c.in-None.is) ∙ c.first_kept.ensures)
