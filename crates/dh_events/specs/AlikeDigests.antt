-- Equal keys and equal structures have one digest.
use Rattle.std.specs.Prelude.{◌≡◌, ◌==◌, ◌&&◌, Bool, true, false, Some, None}
use Rattle.std.proofs.Common.{refl, ap, ◌∙◌}
use Rattle.std.proofs.lemmas.Bool.{eqb-true}
use Rattle.dh_events.specs.declared.classes.Key.{Key}
use Rattle.dh_events.specs.declared.structures.Structure.{Structure}
use Rattle.dh_events.specs.declared.structures.Form.{Form}
use Rattle.dh_events.specs.declared.structures.Form.TheVariants as form
use Rattle.dh_events.specs.contracts.structures.FormPartialEq.TheImpl as forms
use Rattle.dh_events.specs.contracts.structures.StructurePartialEq.TheImpl as structures
use Rattle.dh_events.specs.Digests.{joined_digest, of_key, of_form, of_structure}

both : (a b : Bool) → (a && b) ≡ true → (a ≡ true) × (b ≡ true)
both true b e = (refl, e)
both false b e = cc

pub alike_keys : (x y : Key) → ((x.phase == y.phase) && ((x.entity == y.entity) && ((x.element == y.element) && (x.newest == y.newest)))) ≡ true → of_key x ≡ of_key y
alike_keys x y e =
    let phases = both (x.phase == y.phase) _ e in
    let entities = both (x.entity == y.entity) _ phases.1 in
    let elements = both (x.element == y.element) _ entities.1 in
    ap (λ n. joined_digest (joined_digest (joined_digest n x.entity) x.element) x.newest) (eqb-true x.phase y.phase phases.0)
    ∙ ap (λ n. joined_digest (joined_digest (joined_digest y.phase n) x.element) x.newest) (eqb-true x.entity y.entity entities.0)
    ∙ ap (λ n. joined_digest (joined_digest (joined_digest y.phase y.entity) n) x.newest) (eqb-true x.element y.element elements.0)
    ∙ ap (λ n. joined_digest (joined_digest (joined_digest y.phase y.entity) y.element) n) (eqb-true x.newest y.newest elements.1)

alike_forms : (f g : Form) → forms.ghosts.eq f g ≡ true → of_form f ≡ of_form g
alike_forms (form.Number a m) (form.Number b n) e = let h = both _ _ e in ap (λ x. joined_digest x 1) (eqb-true m n h.1)
alike_forms (form.Truth a) (form.Truth b) e = refl
alike_forms (form.Variable m) (form.Variable n) e = ap (λ x. joined_digest x 3) (eqb-true m n e)
alike_forms (form.Read a m) (form.Read b n) e = let h = both _ _ e in ap (λ x. joined_digest (joined_digest x m) 4) (eqb-true a b h.0) ∙ ap (λ x. joined_digest (joined_digest b x) 4) (eqb-true m n h.1)
alike_forms (form.Operation o l r) (form.Operation p m s) e =
    let h = both _ _ e in
    let i = both _ _ h.1 in
    ap (λ x. joined_digest (joined_digest (joined_digest l r) x) 5) (eqb-true o p h.0) ∙ (ap (λ x. joined_digest (joined_digest (joined_digest x r) p) 5) (eqb-true l m i.0) ∙ ap (λ x. joined_digest (joined_digest (joined_digest m x) p) 5) (eqb-true r s i.1))
alike_forms (form.Cast a m) (form.Cast b n) e = let h = both _ _ e in ap (λ x. joined_digest x 6) (eqb-true m n h.1)
alike_forms form.NoIndex form.NoIndex e = refl
alike_forms (form.Index None m) (form.Index None n) e = ap (λ x. joined_digest x 8) (eqb-true m n e)
alike_forms (form.Index (Some a) m) (form.Index (Some b) n) e = let h = both _ _ e in ap (λ x. joined_digest (joined_digest x m) 9) (eqb-true a b h.0) ∙ ap (λ x. joined_digest (joined_digest b x) 9) (eqb-true m n h.1)
alike_forms (form.Row a m) (form.Row b n) e = let h = both _ _ e in ap (λ x. joined_digest (joined_digest x m) 10) (eqb-true a b h.0) ∙ ap (λ x. joined_digest (joined_digest b x) 10) (eqb-true m n h.1)
alike_forms _ _ e = cc

pub alike_structures : (x y : Structure) → structures.ghosts.eq x y ≡ true → of_structure x ≡ of_structure y
alike_structures x y e = let h = both _ _ e in alike_forms x.form y.form h.1
