use Rattle.std.proofs.Common.{map, ap, sym, ◌∙◌}
use Rattle.std.specs.Prelude.{option_map}
use Rattle.std.proofs.lemmas.Result.{IfOk-weaker}
use denote.Ref.{Bor}
use Rattle.dh_tree.specs.declared.tables.Shape.{Shape}
use Rattle.dh_tree.specs.Memories.{memories_of}
use Rattle.dh_tree.specs.Seen.{program_seen}
use Rattle.dh_ways.specs.Seen.{led_seen}
use Rattle.dh_ways.specs.Stands.{standing_seen}
use Rattle.dh_ways.proofs.WaysMade.{added_as, of_memory, of_none}
use Rattle.dh_ways.proofs.tracing.link_of_view.Goals as goal

pub returns-in-Some : goal.returns-in-Some
returns-in-Some c =
    IfOk-weaker c.lead_memory.result _ _ (λ link h. added_as c.args.ways.now (standing_seen c.args.view.now) c.args.own _ _ link (λ first.
    of_memory (memories_of (program_seen c.args.typed.now)) (map led_seen c.args.ways.now) first (standing_seen c.args.view.now) c.in-Some.shape.now (sym (ap (option_map (λ (x : Bor Shape). x.now)) c.in-Some.is) ∙ c.shape_of_memory.ensures)) (h c.args.ways.now)) c.lead_memory.ensures

pub returns-in-None : goal.returns-in-None
returns-in-None c =
    IfOk-weaker c.lead_behind.result _ _ (λ link h. added_as c.args.ways.now (standing_seen c.args.view.now) c.args.own _ _ link (λ first.
    of_none (memories_of (program_seen c.args.typed.now)) (map led_seen c.args.ways.now) first (standing_seen c.args.view.now) (sym (ap (option_map (λ (x : Bor Shape). x.now)) c.in-None.is) ∙ c.shape_of_memory.ensures)) h) c.lead_behind.ensures
