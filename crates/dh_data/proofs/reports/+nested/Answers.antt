use Rattle.std.proofs.Common.{◌<◌, ◌^◌, [], ◌∷◌, ◌∙◌, List, ℕ, length, map, take, drop, ap, sym, subst, arith}
use Rattle.std.specs.List.{AllByRecursion}
use Rattle.std.proofs.lemmas.List.{map-append}
use Rattle.serde_json.specs.View.{view}
use Rattle.dh_tree.specs.Tables.{elements_of}
use Rattle.dh_value.specs.Words.{width_of}
use Rattle.dh_data.specs.Reports.{nested_data}
use Rattle.dh_data.proofs.Rows.{next_row, width_is, rest_small, row_added}
use Rattle.dh_data.proofs.reports.+nested.Goals as goal

pub loop-preserved : goal.loop-preserved
loop-preserved t c =
    let k = c.args.kind in
    let ns = c.in-Some.rest.now in
    let left = c.loop.left.now in
    let row = next_row c.in-Some.dim.now.size c.loop.counter (elements_of ns) left c.loop-test.true c.loop.invariant.long in
    let w = width_is c.elements-width.result (elements_of ns) (length c.split_at.result.0.now) c.elements-width.ensures c.split_at.ensures.front_len (omega (arith, c.split_at.type_inv)) in
    let front = c.split_at.ensures.front ∙ ap (λ n. take n left) w in
    let back = c.split_at.ensures.back ∙ ap (λ n. drop n left) w in
    record {
      same = row_added c.in-Some.dim.now.size c.loop.counter (elements_of ns) (nested_data k ns) left c.split_at.result.0.now c.split_at.result.1.now (map view c.loop.lists.items) (map view c.push.new.self.items) (view c.in_ok-nested.field-0) c.loop-test.true front back
          c.in_ok-nested.ensures.seen (ap (map view) c.in_ok-push.ensures.items ∙ map-append view c.loop.lists.items (c.in_ok-nested.field-0 ∷ [])) ∙ c.loop.invariant.same;
      small = subst (λ xs. AllByRecursion (λ v. v < 2 ^ width_of k) xs) (sym back) (rest_small (λ v. v < 2 ^ width_of k) (elements_of ns) left c.loop.invariant.small);
      long = ap (λ (xs : List ℕ). length xs) back ∙ row.behind;
    }
