use Rattle.std.proofs.Common.{◌≡◌, suc, ◌+◌, ◌++◌, List, [], ap, sym, refl, ◌∙◌, subst, length, map, get_or, None, add-one, arith}
use Rattle.std.specs.Prelude.{Option}
use Rattle.std.proofs.lemmas.List.{with_items_is}
use Rattle.std.proofs.lemmas.Result.{IfOk-weaker}
use Rattle.dh_value.specs.declared.kinds.Kind.TheVariants as kind
use Rattle.dh_tree.specs.Seen.{action_seen}
use Rattle.dh_code.specs.declared.places.Declared.{Declared}
use Rattle.dh_code.specs.Declarations.{all_held, declarations, declared_of, slots_counted}
use Rattle.dh_code.specs.Placed.{AreFound, KeepsFound}
use Rattle.dh_code.proofs.Declaring.{FoundSoFar, found_end, found_first, found_turn}
use Rattle.dh_code.proofs.FewDeclared.{all_listed, few_both, found_few}
use Rattle.dh_code.proofs.Ranges.{get_whatever}
use Rattle.dh_code.proofs.places.place_all.Goals as goal

pub loop-variable-init : goal.loop-variable-init
loop-variable-init c = found_first (c.args.entities + length c.args.hidden.now) c.deref-variable-items.result.now c.in_ok-found.found.items c.in_ok-found.ensures

pub loop-variable-preserved : goal.loop-variable-preserved
loop-variable-preserved c =
    let none : Declared = record { entity = None; kind = kind.Bool; depth = 0; copies = 0 } in
    let list = c.deref-variable-items.result.now in
    let v = get_or list c.loop-variable.variable-index none in
    rw (add-one c.loop-variable.variable-index)
    (subst (λ (l : List (Option Declared)). FoundSoFar (c.args.entities + length c.args.hidden.now) list (suc c.loop-variable.variable-index) l)
    (sym (with_items_is c.loop-variable.found c.note.new.found (c.note.ensures.long ∙ c.as_mut_slice.ensures.len)))
    (found_turn (c.args.entities + length c.args.hidden.now) list c.loop-variable.variable-index c.loop-variable.found.items c.note.new.found v c.loop-variable-test.true (get_whatever list c.loop-variable.variable-index none v c.loop-variable-test.true)
    (c.note.ensures.long ∙ ap (λ l. length l) c.as_mut_slice.ensures.value) (subst (λ (l : List (Option Declared)). KeepsFound l c.note.new.found v) c.as_mut_slice.ensures.value c.note.ensures.found) c.loop-variable.invariant))

pub returns : goal.returns
returns c =
    let ds = declarations [] (action_seen c.args.body.now) in
    let own = c.in_ok-declare.ensures [] (record { deep = refl; many = refl; doubled = omega arith }) c.requires.few ∙ ap (λ l. l ++ map declared_of ds) c.new-list.ensures.items in
    let long : length c.as_slice.result.now ≡ (c.args.entities + length c.args.hidden.now) = ap (λ l. length l) c.as_slice.ensures.value ∙ c.loop-variable.invariant.long in
    IfOk-weaker c.laid.result _ _ (λ places laid hs are.
    let listed = c.deref-variable-items.ensures.value ∙ (c.in_ok-declare_hidden.ensures ∙ all_listed ds hs c.declare.new.list.items c.args.hidden.now own are) in
    let found = found_end (c.args.entities + length c.args.hidden.now) c.deref-variable-items.result.now c.loop-variable.variable-index c.loop-variable.found.items c.loop-variable-test.false c.loop-variable.invariant (ds ++ hs) listed in
    let h = laid (ds ++ hs) (subst (λ (l : List (Option Declared)). AreFound (ds ++ hs) l) (sym c.as_slice.ensures.value) found) in
    (h.0 ∙ ap (λ n. all_held (ds ++ hs) 0 0 n) long, h.1 ∙ ap (λ n. slots_counted (ds ++ hs) 0 0 n) long)) c.laid.ensures

pub laid-requires-clause-few : goal.laid-requires-clause-few
laid-requires-clause-few c =
    let ds = declarations [] (action_seen c.args.body.now) in
    let hs = c.requires.hidden.0 in
    let own = c.in_ok-declare.ensures [] (record { deep = refl; many = refl; doubled = omega arith }) c.requires.few ∙ ap (λ l. l ++ map declared_of ds) c.new-list.ensures.items in
    let listed = c.deref-variable-items.ensures.value ∙ (c.in_ok-declare_hidden.ensures ∙ all_listed ds hs c.declare.new.list.items c.args.hidden.now own c.requires.hidden.1.0) in
    let found = found_end (c.args.entities + length c.args.hidden.now) c.deref-variable-items.result.now c.loop-variable.variable-index c.loop-variable.found.items c.loop-variable-test.false c.loop-variable.invariant (ds ++ hs) listed in
    found_few (ds ++ hs) c.as_slice.result.now (few_both ds hs c.requires.few c.requires.hidden.1.1) (subst (λ (l : List (Option Declared)). AreFound (ds ++ hs) l) (sym c.as_slice.ensures.value) found)
