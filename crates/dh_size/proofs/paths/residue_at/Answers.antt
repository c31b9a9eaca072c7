use Rattle.std.proofs.Common.{◌≡◌, ◌+◌, ◌%◌, sym, ◌∙◌, ap, arith, pos, ◌+ℤ◌, unsigned_abs, to_z, of_z, to_z-of_z}
use Rattle.std.specs.Int.{w128}
use Rattle.dh_tree.specs.Indices.{index_kind}
use Rattle.dh_tree.specs.Seen.{form_seen}
use Rattle.dh_meets.specs.Charges.{loop_factors}
use Rattle.dh_ports.specs.Banks.{path_of_number}
use Rattle.dh_shape.specs.Classified.{loops_in}
use Rattle.dh_ports.proofs.StartFacts.{constant_start, dynamic_start, iterator_start, no_iterator}
use Rattle.dh_size.proofs.paths.residue_at.Goals as goal

pub returns-in-Constant : goal.returns-in-Constant
returns-in-Constant c =
    let back : to_z w128 (of_z w128 c.in-Constant.value) ≡ c.in-Constant.value = grind (arith, to_z-of_z) in
    c.residue_of_copy.ensures
    ∙ (ap (λ z. unsigned_abs (pos (0 + 0) +ℤ z) % c.args.banks) back
    ∙ ap (λ n. n % c.args.banks) (sym (constant_start (loops_in c.args.typed.now) (index_kind (loops_in c.args.typed.now) c.args.index.now.kind (form_seen c.args.index.now.form)) c.classify.result c.in-Constant.value c.classify.ensures c.in-Constant.is c.args.loops.now (path_of_number (loop_factors c.args.loops.now) c.args.number))))

pub returns-in-Some : goal.returns-in-Some
returns-in-Some c =
    let back : to_z w128 (of_z w128 c.in-Iterator.offset) ≡ c.in-Iterator.offset = grind (arith, to_z-of_z) in
    c.residue_of_copy-in-Some.ensures
    ∙ (ap (λ z. unsigned_abs (pos (c.in-Some.counter.low + c.copy_at-copy.result) +ℤ z) % c.args.banks) back
    ∙ (ap (λ n. unsigned_abs (pos (c.in-Some.counter.low + n) +ℤ c.in-Iterator.offset) % c.args.banks) c.copy_at-copy.ensures
    ∙ ap (λ n. n % c.args.banks) (sym (iterator_start (loops_in c.args.typed.now) (index_kind (loops_in c.args.typed.now) c.args.index.now.kind (form_seen c.args.index.now.form)) c.classify.result c.in-Iterator.entity c.in-Iterator.offset c.in-Some.counter c.classify.ensures c.in-Iterator.is (sym c.counter.ensures ∙ c.in-Some.is) c.args.loops.now (path_of_number (loop_factors c.args.loops.now) c.args.number)))))

pub returns-in-None : goal.returns-in-None
returns-in-None c = no_iterator (loops_in c.args.typed.now) (index_kind (loops_in c.args.typed.now) c.args.index.now.kind (form_seen c.args.index.now.form)) c.classify.result c.in-Iterator.entity c.in-Iterator.offset c.classify.ensures c.in-Iterator.is (sym c.counter.ensures ∙ c.in-None.is)

pub returns-in-Dynamic : goal.returns-in-Dynamic
returns-in-Dynamic c =
    c.residue_of_copy-in-Dynamic.ensures
    ∙ ap (λ n. n % c.args.banks) (sym (dynamic_start (loops_in c.args.typed.now) (index_kind (loops_in c.args.typed.now) c.args.index.now.kind (form_seen c.args.index.now.form)) c.classify.result c.classify.ensures c.in-Dynamic.is c.args.loops.now (path_of_number (loop_factors c.args.loops.now) c.args.number)))
