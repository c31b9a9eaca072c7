use Rattle.std.proofs.Common.{ap, sym, ◌∙◌, refl, subst, List}
use Rattle.std.specs.Prelude.{Option}
use Rattle.std.proofs.lemmas.Result.{on_ok_weaker}
use Rattle.dh_tree.specs.Seen.{view_plan, terms}
use Rattle.dh_tree.specs.ViewOffsets.{offsets_of}
use Rattle.dh_meaning.specs.AccessNumbers.{plan_accesses}
use Rattle.dh_meaning.specs.CoreOf.{core_terms, way_of}
use Rattle.dh_meaning.specs.Ways.{Way, hidden_in}
use Rattle.dh_lengths.specs.HeldLevels.{held_access_count}
use Rattle.dh_lengths.specs.KeptLevels.{first_hidden_variable, SetsLevels}
use Rattle.dh_lengths.proofs.CommandLevels.{put_reads}
use Rattle.dh_lengths.proofs.HeldFacts.{skips_gives}
use Rattle.dh_lengths.proofs.KeptViews.{view_kept, view_skipped}
use Rattle.dh_lengths.proofs.views.level_view.Goals as goal

pub returns-in_ok-levels-in-Some : goal.returns-in_ok-levels-in-Some
returns-in_ok-levels-in-Some c = on_ok_weaker c.keep_levels.result (λ sets known u s low.
    view_kept c.args.held.now c.level_offsets.new.held c.keep_levels.new.held c.args.outer c.in-Some.first (plan_accesses (view_plan c.args.form.now)) (hidden_in (way_of known c.args.name.now)) (core_terms known (held_access_count c.args.held.now) (terms (offsets_of (view_plan c.args.form.now)))) c.in_ok-levels-in-Some.levels.items
    (ap (λ (w : Option Way). first_hidden_variable (hidden_in w)) (sym (u.same c.args.name.now.entity)) ∙ (sym c.first_hidden.ensures ∙ c.in-Some.is)) (c.in_ok-levels-in-Some.ensures known u s low)
    (subst (λ (ls : List _). SetsLevels c.level_offsets.new.held c.keep_levels.new.held c.in-Some.first ls) c.as_slice.ensures.value sets)) c.keep_levels.ensures

pub returns-in-None : goal.returns-in-None
returns-in-None c = on_ok_weaker c.skip_offsets.result (λ adds known u s low.
    view_skipped c.args.held.now (put_reads c.args.held.now c.skip_offsets.new.reads) c.args.outer (plan_accesses (view_plan c.args.form.now)) (hidden_in (way_of known c.args.name.now)) (core_terms known (held_access_count c.args.held.now) (terms (offsets_of (view_plan c.args.form.now))))
    (ap (λ (w : Option Way). first_hidden_variable (hidden_in w)) (sym (u.same c.args.name.now.entity)) ∙ (sym c.first_hidden.ensures ∙ c.in-None.is))
    (skips_gives c.args.held.now (put_reads c.args.held.now c.skip_offsets.new.reads) _ s (record { reads = adds; most = refl; keeps = record { shares = refl; first = refl; variables = refl; log = refl } }))) c.skip_offsets.ensures
