use Rattle.std.proofs.Common.{◌++◌, map, add-one, ap, ◌∙◌}
use denote.Ref.{Bor}
use Rattle.dh_tree.specs.declared.viewing.ViewMap.{ViewMap}
use Rattle.dh_code.proofs.ViewsFlattened.{mapped_at, mapped_end}
use Rattle.dh_code.proofs.flattening.copied_views.Goals as goal

pub loop-i-init : goal.loop-i-init
loop-i-init c = ap (λ l. l ++ map (λ (v : Bor ViewMap). v.now) c.args.views.now) c.new-copies.ensures

pub loop-i-preserved : goal.loop-i-preserved
loop-i-preserved c = rw (add-one c.loop-i.i)
    (mapped_at (λ (v : Bor ViewMap). v.now) c.args.views.now c.loop-i.i c.loop-i.copies c.push.new.self (map (λ (v : Bor ViewMap). v.now) c.args.views.now) c.index-views-i.result c.in_ok-copy.copy
    c.loop-i-test.true c.in_ok-push.ensures (c.in_ok-copy.ensures ∙ ap (λ (v : Bor ViewMap). v.now) c.index-views-i.is) c.loop-i.invariant)

pub returns : goal.returns
returns c = mapped_end (λ (v : Bor ViewMap). v.now) c.args.views.now c.loop-i.i c.loop-i.copies (map (λ (v : Bor ViewMap). v.now) c.args.views.now) c.loop-i-test.false c.loop-i.invariant
