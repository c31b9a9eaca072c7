use Rattle.std.proofs.Common.{◌≡◌, ℕ, ◌==◌, true, false, length, ap, sym, ◌∙◌}
use Rattle.std.specs.Prelude.{option_map}
use Rattle.std.proofs.lemmas.Bool.{eqb-true, eq-eqb}
use Rattle.std.proofs.lemmas.Result.{IfOk-weaker}
use Rattle.dh_tree.specs.Seen.{view_plan, terms}
use Rattle.dh_tree.specs.ViewOffsets.{offsets_of}
use Rattle.dh_meaning.specs.CoreOf.{core_terms, way_of}
use Rattle.dh_meaning.specs.Ways.{hidden_in}
use Rattle.dh_ways.specs.Seen.{hidden_seen}
use Rattle.dh_code.specs.Flattening.{kept_from, known_by_names}
use Rattle.dh_code.proofs.ViewsFlattened.{view_keeps, view_nowhere, view_rests}
use Rattle.dh_code.proofs.flattening.add_view.Goals as goal

pub returns-in_default : goal.returns-in_default
returns-in_default c = λ n rest p loops placing can.
    let known = known_by_names c.args.names.now in
    view_nowhere c.args.names.now c.args.code.now c.args.next (hidden_in (way_of known c.args.name.now)) (core_terms known n (terms (offsets_of (view_plan c.args.form.now)))) rest
    (sym (ap (option_map hidden_seen) c.in_default.is) ∙ c.first_hidden.ensures)

pub returns-then-is_empty : goal.returns-then-is_empty
returns-then-is_empty c = λ n rest p loops placing can.
    let known = known_by_names c.args.names.now in
    view_rests c.args.names.now p loops placing.held c.args.code.now c.flatten_offsets.new.code c.in_ok-offsets.offsets c.args.next rest (hidden_in (way_of known c.args.name.now)) (hidden_seen c.in-Some.hidden) (core_terms known n (terms (offsets_of (view_plan c.args.form.now))))
    (sym (ap (option_map hidden_seen) c.in-Some.is) ∙ c.first_hidden.ensures) can (c.in_ok-offsets.ensures n) (eqb-true (length c.in_ok-offsets.offsets) 0 (sym c.is_empty.ensures ∙ c.if-is_empty.true))

pub returns : goal.returns
returns c =
    IfOk-weaker c.add_step.result _ _ (λ first step n rest p loops placing can.
    let known = known_by_names c.args.names.now in
    view_keeps c.args.names.now p loops placing.held c.args.code.now c.flatten_offsets.new.code c.in_ok-offsets.offsets c.args.next rest c.add_step.new.code (hidden_in (way_of known c.args.name.now)) (hidden_seen c.in-Some.hidden) (core_terms known n (terms (offsets_of (view_plan c.args.form.now))))
    c.len-from.result c.len-to.result c.in_ok-values.values first (sym (ap (option_map hidden_seen) c.in-Some.is) ∙ c.first_hidden.ensures) can (c.in_ok-offsets.ensures n)
    (λ e. clash (length c.in_ok-offsets.offsets) (eq-eqb (length c.in_ok-offsets.offsets) 0 e) (sym c.is_empty.ensures ∙ c.if-is_empty.false)) c.len-from.ensures c.len-to.ensures
    (c.in_ok-values.ensures ∙ ap (λ l. kept_from c.args.names.now.places.now c.in-Some.hidden.entity l) c.as_slice.ensures) step) c.add_step.ensures
  where
    clash : (n : ℕ) → (n == 0) ≡ true → (n == 0) ≡ false → ⊥
    clash n u v = cc
