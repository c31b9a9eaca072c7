use Rattle.std.proofs.Common.{◌++◌, ap, sym, ◌∙◌}
use Rattle.std.proofs.Math.Seq.{take-append-add}
use Rattle.dh_names.proofs.FormsDone.{with_visible}
use Rattle.dh_names.specs.Walks.{state_of}
use Rattle.dh_names.proofs.walks.NameWalk.leave.Goals as goal

pub returns : goal.returns
returns c =
    let n = c.args.self.now.names in
    ap (λ l. with_visible (state_of c.args.self.now) l) (ap (λ w. n.outer ++ w) c.truncate.ensures ∙ sym (take-append-add n.outer n.own c.args.own))
