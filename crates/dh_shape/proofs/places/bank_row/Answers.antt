use Rattle.std.proofs.Common.{rules, arith}
use Rattle.std.specs.Iterator.Adapters.{zip_first, zip_second}
use Rattle.std.specs.Slice.Iter.{iter_rest}
use Rattle.std.proofs.lemmas.Slice.Zip.{Zip-more}
use Rattle.dh_shape.proofs.Spots.{starts_at, goes_on, next_bank, next_row}
use Rattle.dh_shape.proofs.places.bank_row.Goals as goal

pub loop-dim-init : goal.loop-dim-init
loop-dim-init c = starts_at c.args.shape.now.dims c.args.index.now _ _ (search rules) (search rules) c.requires.dims c.requires.banks c.requires.elements c.requires.indices

pub overflow_mul-bank : goal.overflow_mul-bank
overflow_mul-bank c =
    let small = next_bank c.args.shape.now.dims c.args.index.now c.loop-dim.bank c.loop-dim.row c.in-Some.dim.now (iter_rest (zip_first c.next.new.self)) c.in-Some.element.now (iter_rest (zip_second c.next.new.self))
    (iter_rest (zip_first c.loop-dim.dim-iterator)) (iter_rest (zip_second c.loop-dim.dim-iterator)) c.loop-dim.invariant
    (Zip-more c.loop-dim.dim-iterator c.next.new.self c.next.result (c.in-Some.dim, c.in-Some.element) c.in-Some.is c.next.ensures.steps) (omega arith) in
    omega (arith, small)

pub overflow_add-bank : goal.overflow_add-bank
overflow_add-bank c =
    let small = next_bank c.args.shape.now.dims c.args.index.now c.loop-dim.bank c.loop-dim.row c.in-Some.dim.now (iter_rest (zip_first c.next.new.self)) c.in-Some.element.now (iter_rest (zip_second c.next.new.self))
    (iter_rest (zip_first c.loop-dim.dim-iterator)) (iter_rest (zip_second c.loop-dim.dim-iterator)) c.loop-dim.invariant
    (Zip-more c.loop-dim.dim-iterator c.next.new.self c.next.result (c.in-Some.dim, c.in-Some.element) c.in-Some.is c.next.ensures.steps) (omega arith) in
    omega (arith, small)

pub overflow_mul-row : goal.overflow_mul-row
overflow_mul-row c =
    let small = next_row c.args.shape.now.dims c.args.index.now c.loop-dim.bank c.loop-dim.row c.in-Some.dim.now (iter_rest (zip_first c.next.new.self)) c.in-Some.element.now (iter_rest (zip_second c.next.new.self))
    (iter_rest (zip_first c.loop-dim.dim-iterator)) (iter_rest (zip_second c.loop-dim.dim-iterator)) c.loop-dim.invariant
    (Zip-more c.loop-dim.dim-iterator c.next.new.self c.next.result (c.in-Some.dim, c.in-Some.element) c.in-Some.is c.next.ensures.steps) (omega arith) in
    omega (arith, small)

pub overflow_add-row : goal.overflow_add-row
overflow_add-row c =
    let small = next_row c.args.shape.now.dims c.args.index.now c.loop-dim.bank c.loop-dim.row c.in-Some.dim.now (iter_rest (zip_first c.next.new.self)) c.in-Some.element.now (iter_rest (zip_second c.next.new.self))
    (iter_rest (zip_first c.loop-dim.dim-iterator)) (iter_rest (zip_second c.loop-dim.dim-iterator)) c.loop-dim.invariant
    (Zip-more c.loop-dim.dim-iterator c.next.new.self c.next.result (c.in-Some.dim, c.in-Some.element) c.in-Some.is c.next.ensures.steps) (omega arith) in
    omega (arith, small)

pub loop-dim-preserved : goal.loop-dim-preserved
loop-dim-preserved c =
    goes_on c.args.shape.now.dims c.args.index.now c.loop-dim.bank c.loop-dim.row c.in-Some.dim.now (iter_rest (zip_first c.next.new.self)) c.in-Some.element.now (iter_rest (zip_second c.next.new.self))
    (iter_rest (zip_first c.loop-dim.dim-iterator)) (iter_rest (zip_second c.loop-dim.dim-iterator)) c.loop-dim.invariant
    (Zip-more c.loop-dim.dim-iterator c.next.new.self c.next.result (c.in-Some.dim, c.in-Some.element) c.in-Some.is c.next.ensures.steps) (omega arith)
