use Rattle.std.proofs.Common.{List, ◌+◌, sym, subst}
use Rattle.std.specs.List.{AllByRecursion}
use Rattle.dh_tree.specs.Shapes.{IsLocal}
use Rattle.dh_tree.specs.declared.tables.MemEntry.{MemEntry}
use Rattle.dh_net.proofs.TableWalks.{locals_told, whole_rest}
use Rattle.dh_net.proofs.tables.has_locals_last.Goals as goal

pub returns-then-not-entry : goal.returns-then-not-entry
returns-then-not-entry c =
    let told = locals_told c.args.entries.now c.loop-i.i c.index-entries-i.result c.loop-i-test.true c.index-entries-i.is c.if-not-entry.true c.loop-i.invariant in
    let rest = whole_rest (c.loop-i.i + 1) c.args.entries.now in (
      λ r. told.0 (subst (λ (l : List MemEntry). AllByRecursion IsLocal l) rest (c.are_local.ensures.0 r)),
      λ h. c.are_local.ensures.1 (subst (λ (l : List MemEntry). AllByRecursion IsLocal l) (sym rest) (told.1 h)),
    )
