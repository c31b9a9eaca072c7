use Rattle.std.proofs.Common.{◌≡◌, ◌+◌, sym, ◌∙◌, ap, subst, arith, Some, pos, ◌+ℤ◌, unsigned_abs, to_z, of_z, to_z-of_z}
use Rattle.dh_tree.specs.Indices.{index_kind}
use Rattle.dh_tree.specs.Seen.{form_seen}
use Rattle.dh_ports.specs.declared.banks.Start.{Start}
use Rattle.dh_ports.specs.Banks.{copy_of, IsIndexStart}
use Rattle.dh_shape.specs.Classified.{loops_in}
use Rattle.std.specs.Int.{w128}
use Rattle.dh_ports.proofs.StartFacts.{constant_start, dynamic_start, iterator_start, no_iterator}
use Rattle.dh_ports.proofs.banks.start_of.Goals as goal

pub returns-in-Constant : goal.returns-in-Constant
returns-in-Constant c =
    let back : to_z w128 (of_z w128 c.in-Constant.value) ≡ c.in-Constant.value = grind (arith, to_z-of_z) in
    subst (λ (s : Start). IsIndexStart c.args.typed.now c.args.index.now s) (sym c.fixed.ensures)
    (record {
      value = λ loops path.
          constant_start (loops_in c.args.typed.now) (index_kind (loops_in c.args.typed.now) c.args.index.now.kind (form_seen c.args.index.now.form)) c.classify.result c.in-Constant.value c.classify.ensures c.in-Constant.is loops path
          ∙ ap (λ z. unsigned_abs (pos (0 + 0) +ℤ z)) (sym back);
    })

pub returns-in-Some : goal.returns-in-Some
returns-in-Some c =
    let back : to_z w128 (of_z w128 c.in-Iterator.offset) ≡ c.in-Iterator.offset = grind (arith, to_z-of_z) in
    subst (λ (s : Start). IsIndexStart c.args.typed.now c.args.index.now s) (sym c.counting.ensures)
    (record {
      value = λ loops path.
          iterator_start (loops_in c.args.typed.now) (index_kind (loops_in c.args.typed.now) c.args.index.now.kind (form_seen c.args.index.now.form)) c.classify.result c.in-Iterator.entity c.in-Iterator.offset c.in-Some.counter c.classify.ensures c.in-Iterator.is (sym c.counter.ensures ∙ c.in-Some.is) loops path
          ∙ ap (λ z. unsigned_abs (pos (c.in-Some.counter.low + copy_of loops path (Some c.in-Iterator.entity)) +ℤ z)) (sym back);
    })

pub returns-in-None : goal.returns-in-None
returns-in-None c = no_iterator (loops_in c.args.typed.now) (index_kind (loops_in c.args.typed.now) c.args.index.now.kind (form_seen c.args.index.now.form)) c.classify.result c.in-Iterator.entity c.in-Iterator.offset c.classify.ensures c.in-Iterator.is (sym c.counter.ensures ∙ c.in-None.is)

pub returns-in-Dynamic : goal.returns-in-Dynamic
returns-in-Dynamic c = subst (λ (s : Start). IsIndexStart c.args.typed.now c.args.index.now s) (sym c.fixed-in-Dynamic.ensures)
    (record { value = dynamic_start (loops_in c.args.typed.now) (index_kind (loops_in c.args.typed.now) c.args.index.now.kind (form_seen c.args.index.now.form)) c.classify.result c.classify.ensures c.in-Dynamic.is })
