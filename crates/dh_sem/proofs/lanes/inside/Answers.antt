use Rattle.std.proofs.Common.{ap, sym, Some, ◌∙◌}
use Rattle.std.specs.List.{range_with_len}
use Rattle.std.proofs.lemmas.Option.{slice_get-get_or}
use Rattle.dh_code.specs.Rows.{contents_of}
use Rattle.dh_sem.specs.Lanes.{copied_rows}
use Rattle.dh_sem.proofs.LanesMade.{inside_more, inside_same}
use Rattle.dh_sem.proofs.lanes.inside.Goals as goal

pub returns-then-factor-le1 : goal.returns-then-factor-le1
returns-then-factor-le1 c = inside_same c.args.lanes.now.items c.args.outside c.args.factor c.requires.there c.if-factor-le1.true

pub returns : goal.returns
returns c =
    inside_more c.args.lanes.now.items c.push.new.self.items c.args.outside c.args.factor c.len-number.result c.index.result.now (record { rows = c.in_ok-rows.rows; all = c.in_ok-all.all })
    (slice_get-get_or c.args.lanes.now.items c.args.outside c.index.result.now c.requires.there ∙ ap Some (sym c.index.ensures)) c.if-factor-le1.false c.in_ok-push.ensures.items (c.len-number.ensures ∙ c.args.lanes.now.ok.0)
    (c.in_ok-rows.ensures ∙ ap (λ l. copied_rows 0 c.args.factor (contents_of l)) c.as_slice.ensures.value) (c.in_ok-all.ensures ∙ ap (range_with_len 0) (c.len.ensures ∙ c.in_ok-rows.rows.ok.0))
