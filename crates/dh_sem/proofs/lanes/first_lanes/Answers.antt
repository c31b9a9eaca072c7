use Rattle.std.proofs.Common.{[], ◌∷◌, ◌++◌, ap, ◌∙◌}
use Rattle.std.specs.List.{range_with_len}
use Rattle.dh_code.specs.Rows.{contents_of}
use Rattle.dh_sem.specs.declared.lanes.Lanes.{Lanes}
use Rattle.dh_sem.proofs.LanesMade.{first_of}
use Rattle.dh_sem.proofs.lanes.first_lanes.Goals as goal

pub returns : goal.returns
returns c =
    let only : Lanes = record { rows = c.push.new.self; all = c.in_ok-all.all } in
    first_of c.push-2.new.self.items only (c.in_ok-push-2.ensures.items ∙ ap (λ l. l ++ only ∷ []) c.new-lanes.ensures.items)
    (ap contents_of c.in_ok-push.ensures.items ∙ (ap (λ l. contents_of (l ++ c.in_ok-copied.field-0 ∷ [])) c.new-rows.ensures.items ∙ ap (λ r. r ∷ []) c.in_ok-copied.ensures))
    (c.in_ok-all.ensures ∙ ap (range_with_len 0) (c.len.ensures ∙ c.push.new.self.ok.0))
