use Rattle.std.proofs.Common.{ℕ, List, ◌+◌, ◌<◌, ◌++◌, length, map, ap, sym, ◌∙◌, subst}
use Rattle.dh_tree.specs.ViewOffsets.{offsets_of}
use Rattle.dh_ways.specs.declared.ways.Hidden.{Hidden}
use Rattle.dh_ways.specs.Seen.{led_seen}
use Rattle.dh_ways.specs.Stands.{stand_seen}
use Rattle.dh_ways.proofs.StandsFound.{hidden_many}
use Rattle.dh_ways.proofs.WaysMade.{next_told, own_told}
use Rattle.dh_ways.proofs.tracing.push_way.Goals as goal

pub returns : goal.returns
returns c = (
  (
    next_told c.args.first c.entity_behind-next.result c.len.result (stand_seen c.args.view.now) c.in_ok-own.own c.in_ok-own.ensures c.len.ensures c.entity_behind-next.ensures,
    c.in_ok-push_link.ensures ∙ ap (λ l. map led_seen c.args.ways.now ++ l) (c.in_ok-link.ensures.led c.args.first (own_told c.args.first (stand_seen c.args.view.now) c.in_ok-own.own c.in_ok-own.ensures)),
  ),
  c.in_ok-append.ensures ∙ ap (λ l. c.args.hidden.now ++ l) (c.as_slice.ensures ∙ c.in_ok-own.ensures),
)

pub push_link-requires : goal.push_link-requires
push_link-requires c = c.in_ok-link.ensures.follows

pub entity_behind-next-requires : goal.entity_behind-next-requires
entity_behind-next-requires c =
    subst (λ (n : ℕ). c.args.first + n < 4294967296)
    (sym (c.len.ensures ∙ (ap (λ (l : List Hidden). length l) c.in_ok-own.ensures ∙ hidden_many c.args.first c.args.view.now.depth c.args.view.now.copies (offsets_of (stand_seen c.args.view.now).form)))) c.requires.few
