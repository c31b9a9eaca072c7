use Rattle.std.proofs.Common.{ℕ, length, replicate, ap, ◌∙◌}
use Rattle.std.proofs.lemmas.List.{with_items_is}
use Rattle.dh_ports.proofs.CarrierMade.{zeros_long}
use Rattle.dh_ports.proofs.grouping.count_group.Goals as goal

pub count_paths-requires-clause-tells : goal.count_paths-requires-clause-tells
count_paths-requires-clause-tells c = λ some. c.requires.tells

pub count_paths-requires-clause-none : goal.count_paths-requires-clause-none
count_paths-requires-clause-none c =
    with_items_is c.args.counts.now c.clear.new.counts (ap length c.clear.ensures ∙ (zeros_long _ ∙ c.as_mut_slice.ensures.len))
    ∙ (c.clear.ensures ∙ ap (λ (n : ℕ). replicate n 0) (ap length c.as_mut_slice.ensures.value ∙ c.requires.long))
