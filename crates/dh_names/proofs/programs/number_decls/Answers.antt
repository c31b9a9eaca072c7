use Rattle.std.proofs.Common.{◌+◌, sym, ap, get_or, refl, arith, Some}
use Rattle.dh_tree.specs.Seen.{declared_seen}
use Rattle.dh_base.proofs.InPlace.{turn}
use Rattle.dh_names.proofs.ItemsDone.{decl_step, decl_made, decls_done}
use Rattle.dh_names.proofs.programs.number_decls.Goals as goal

pub loop-decl-preserved : goal.loop-decl-preserved
loop-decl-preserved c =
    let x = c.decl-item.result in
    let n = c.loop-decl.number in
    let y = get_or c.loop-decl.decl-items c.loop-decl.decl-index x in
    let t = turn declared_seen decl_step decl_made c.deref_mut-decl-items.result.now c.loop-decl.decl-items c.loop-decl.decl-index 0 n (n + 1) x
    (record { name = record { name = y.name.name; place = y.name.place; entity = Some n }; shape = y.shape; shape_places = y.shape_places })
    (omega (arith, c.loop-decl-test.true, c.loop-decl.auto.decl-items)) c.loop-decl.invariant.unvisited c.loop-decl.invariant.so c.decl-item.is
    (ap (λ z. decl_made n (declared_seen z)) (sym c.decl-item.is)) refl in
    record { unvisited = t.0; so = t.1; number = omega (arith, c.loop-decl.invariant.number) }

pub returns : goal.returns
returns c =
    decls_done c.args.decls.now c.deref_mut-decl-items.result.now c.loop-decl.decl-items c.loop-decl.decl-index c.loop-decl.number c.deref_mut-decl-items.ensures.value c.deref_mut-decl-items.ensures.len c.loop-decl-test.false c.loop-decl.invariant.unvisited c.loop-decl.invariant.so
