use Rattle.std.proofs.Common.{ap, ◌∙◌}
use Rattle.dh_value.specs.Words.{with_bits}
use Rattle.dh_value.proofs.Values.{sum_bits}
use Rattle.dh_value.proofs.operations.sum.Goals as goal

pub returns : goal.returns
returns c =
    let a = c.args.a in
    let b = c.args.b in
    c.truncated.ensures ∙ ap (with_bits a.kind) (sum_bits a.kind b.kind a.bits b.bits c.requires.left.sized c.requires.alike)
