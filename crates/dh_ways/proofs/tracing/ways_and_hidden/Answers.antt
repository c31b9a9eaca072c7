use Rattle.std.proofs.Common.{ℕ, [], ◌<◌, ◌++◌, map, ap, sym, ◌∙◌, subst}
use Rattle.dh_tree.specs.Memories.{memories_of}
use Rattle.dh_tree.specs.Seen.{program_seen}
use Rattle.dh_meaning.specs.Ways.{behind_all, led_behind, standings}
use Rattle.dh_ways.specs.Seen.{led_seen}
use Rattle.dh_ways.specs.Stands.{all_own, stand_seen, standing_seen, stands}
use Rattle.dh_ways.proofs.StandsCut.{names_few}
use Rattle.dh_ways.proofs.StandsFound.{stands_told}
use Rattle.dh_ways.proofs.WaysMade.{standings_seen}
use Rattle.dh_ways.proofs.tracing.ways_and_hidden.Goals as goal

pub returns : goal.returns
returns c =
    let p = program_seen c.args.typed.now in
    let ms = memories_of p in (
      c.in_ok-push_ways.ensures.0
          ∙ (ap (λ l. led_behind ms c.first_hidden-first.result (map led_seen l) (map standing_seen c.as_slice-views.result.now)) c.in_ok-ways.ensures
          ∙ (ap (λ l. led_behind ms c.first_hidden-first.result [] (map standing_seen l)) c.as_slice-views.ensures.value
          ∙ (ap (λ l. led_behind ms c.first_hidden-first.result [] l) (standings_seen c.in_ok-stood.stood.items (stands 0 1 p.body) (standings 0 p.body) c.in_ok-stood.ensures (stands_told 0 1 p.body))
          ∙ ap (λ n. led_behind ms n [] (standings 0 p.body)) c.first_hidden-first.ensures))),
      c.in_ok-push_ways.ensures.1
          ∙ (ap (λ l. l ++ all_own c.first_hidden-first.result (map stand_seen c.as_slice-views.result.now)) c.new-hidden.ensures
          ∙ (ap (λ l. all_own c.first_hidden-first.result (map stand_seen l)) c.as_slice-views.ensures.value
          ∙ (ap (all_own c.first_hidden-first.result) c.in_ok-stood.ensures ∙ ap (λ n. all_own n (stands 0 1 p.body)) c.first_hidden-first.ensures))),
    )

pub standing_in-requires : goal.standing_in-requires
standing_in-requires c = record { round = c.requires.few.round }

pub first_hidden-first-requires : goal.first_hidden-first-requires
first_hidden-first-requires c = record { few = names_few (program_seen c.args.typed.now) 4294967296 c.requires.few.entities }

pub push_ways-requires : goal.push_ways-requires
push_ways-requires c = record {
  few = let p = program_seen c.args.typed.now in
      subst (λ (n : ℕ). n < 4294967296)
      (sym (ap (λ l. behind_all c.first_hidden-first.result (map standing_seen l)) c.as_slice-views.ensures.value
      ∙ (ap (behind_all c.first_hidden-first.result) (standings_seen c.in_ok-stood.stood.items (stands 0 1 p.body) (standings 0 p.body) c.in_ok-stood.ensures (stands_told 0 1 p.body))
      ∙ ap (λ n. behind_all n (standings 0 p.body)) c.first_hidden-first.ensures)))
      c.requires.few.entities;
}
