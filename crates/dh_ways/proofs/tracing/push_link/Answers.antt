use Rattle.std.proofs.Common.{◌++◌, map, ap, sym, ◌∙◌, append-nil, subst}
use Rattle.std.specs.Prelude.{Option}
use Rattle.std.proofs.lemmas.List.{map_push}
use Rattle.std.proofs.lemmas.Result.{on_ok_weaker}
use Rattle.dh_ways.specs.declared.linking.Link.{Link}
use Rattle.dh_ways.specs.Linked.{led_by}
use Rattle.dh_ways.specs.Seen.{led_seen}
use Rattle.dh_ways.specs.Traced.{MayFollow, linked_on}
use Rattle.dh_ways.proofs.tracing.push_link.Goals as goal

pub push-requires : goal.push-requires
push-requires c = subst (λ (o : Option Link). MayFollow c.args.ways.now o) c.in-Some.is c.requires

pub returns-in-Some : goal.returns-in-Some
returns-in-Some c =
    on_ok_weaker c.push.result (λ added. ap (map led_seen) added ∙ (map_push led_seen c.args.ways.now (led_by c.args.ways.now c.in-Some.link)
    ∙ ap (λ o. map led_seen c.args.ways.now ++ linked_on c.args.ways.now o) (sym c.in-Some.is))) c.push.ensures

pub returns-in-None : goal.returns-in-None
returns-in-None c = sym (ap (λ o. map led_seen c.args.ways.now ++ linked_on c.args.ways.now o) c.in-None.is ∙ append-nil (map led_seen c.args.ways.now))
