use Rattle.std.proofs.Common.{ℕ, List, ◌+◌, ◌<◌, length, map, ap, sym, ◌∙◌, subst}
use Rattle.std.proofs.lemmas.Result.{IfOk-weaker}
use Rattle.dh_tree.specs.Seen.{program_seen}
use Rattle.dh_ways.specs.Stands.{all_own, stand_seen, stands}
use Rattle.dh_ways.specs.declared.ways.Hidden.{Hidden}
use Rattle.dh_ways.proofs.StandsCut.{hidden_few, names_few}
use Rattle.dh_ways.proofs.hiding.hidden_in.Goals as goal

pub returns : goal.returns
returns c =
    IfOk-weaker c.hide_views.result _ _ (λ hidden made. made
    ∙ (ap (λ l. all_own c.first_hidden-first.result (map stand_seen l)) c.as_slice.ensures.value
    ∙ (ap (all_own c.first_hidden-first.result) c.in_ok-stood.ensures ∙ ap (λ n. all_own n (stands 0 1 (program_seen c.args.typed.now).body)) c.first_hidden-first.ensures))) c.hide_views.ensures

pub standing_in-requires : goal.standing_in-requires
standing_in-requires c = record { round = c.requires.few.round }

pub first_hidden-first-requires : goal.first_hidden-first-requires
first_hidden-first-requires c = record { few = names_few (program_seen c.args.typed.now) 4294967296 c.requires.few.entities }

pub hide_views-requires : goal.hide_views-requires
hide_views-requires c = record {
  few = let p = program_seen c.args.typed.now in
      subst (λ (n : ℕ). n + length (all_own n (map stand_seen c.as_slice.result.now)) < 4294967296) (sym c.first_hidden-first.ensures)
      (subst (λ (l : List Hidden). length p.entities + length l < 4294967296)
      (sym (ap (λ l. all_own (length p.entities) (map stand_seen l)) c.as_slice.ensures.value ∙ ap (all_own (length p.entities)) c.in_ok-stood.ensures))
      (hidden_few p 4294967296 c.requires.few.entities));
}
