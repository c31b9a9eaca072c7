use Rattle.std.proofs.Common.{ap, option_map}
use Rattle.dh_viewing.specs.Finding.{viewing_found}
use Rattle.dh_viewing.proofs.ViewsFound.{kept_found}
use Rattle.dh_viewing.proofs.judging.kept_map.Goals as goal

pub returns-in_ok-map_to-in-None : goal.returns-in_ok-map_to-in-None
returns-in_ok-map_to-in-None c =
    kept_found (viewing_found c.args.found.now) c.in-Some.parent.now _ c.in_ok-map_to-in-None.field-0 c.keep_found.new.kept (ap (λ p. option_map (λ s. s.now) p) c.in-Some.is) c.keep_found.ensures c.in-None.is c.in_ok-map_to-in-None.ensures
