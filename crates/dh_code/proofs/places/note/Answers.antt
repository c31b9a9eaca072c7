use Rattle.std.proofs.Common.{◌++◌, [], ◌∷◌, Some, ap, sym, subst, ◌∙◌, arith}
use Rattle.std.specs.Prelude.{option_map, slice_set}
use Rattle.dh_tree.proofs.Collecting.{none_noted, beyond_noted, noted_before, now_noted, no_number, some_number}
use Rattle.dh_code.specs.declared.places.Declared.{Declared}
use Rattle.dh_code.specs.Declarations.{declaration_in, declared_of}
use Rattle.dh_code.specs.Placed.{AreFound}
use Rattle.dh_code.proofs.Declaring.{declaration_more}
use Rattle.dh_code.proofs.places.note.Goals.{else-entity-found-via-then-entity-found+else-is_none, else-entity-found-via-else-entity-found}
use Rattle.dh_code.proofs.places.note.Goals as goal

pub returns-then-is_none-clause-found : goal.returns-then-is_none-clause-found
returns-then-is_none-clause-found c ds d h is =
    let small = c.if-entity-found.true in
    subst (λ (v : Declared). AreFound (ds ++ d ∷ []) (slice_set c.args.found.now c.in-Some.entity (Some v))) (sym is)
    (now_noted (λ k. option_map declared_of (declaration_in ds k)) (λ k. option_map declared_of (declaration_in (ds ++ d ∷ []) k)) d.entity (declared_of d) (λ k. declaration_more ds d k) c.args.found.now c.in-Some.entity
    (no_number _ c.is_none.result c.is_none.ensures c.if-is_none.true) (omega (arith, small)) (sym c.in-Some.is ∙ ap (λ (x : Declared). x.entity) is) h)

pub returns-else-entity-found-clause-found : goal.returns-else-entity-found-clause-found
returns-else-entity-found-clause-found c ds d h is =
    elim c.else-entity-found.branch [
      | else-entity-found-via-then-entity-found+else-is_none w ↦ (let some = some_number _ w.is_none.result w.is_none.ensures w.if-is_none.false in noted_before (λ k. option_map declared_of (declaration_in ds k)) (λ k. option_map declared_of (declaration_in (ds ++ d ∷ []) k)) d.entity (declared_of d) (λ k. declaration_more ds d k) c.args.found.now c.in-Some.entity some.0 some.1 (sym c.in-Some.is ∙ ap (λ (x : Declared). x.entity) is) h)
      | else-entity-found-via-else-entity-found w ↦ (let past = w.if-entity-found.false in beyond_noted (λ k. option_map declared_of (declaration_in ds k)) (λ k. option_map declared_of (declaration_in (ds ++ d ∷ []) k)) d.entity (declared_of d) (λ k. declaration_more ds d k) c.args.found.now c.in-Some.entity (sym c.in-Some.is ∙ ap (λ (x : Declared). x.entity) is) (omega (arith, past)) h)
    ]

pub returns-in_default-clause-found : goal.returns-in_default-clause-found
returns-in_default-clause-found c ds d h is =
    none_noted (λ k. option_map declared_of (declaration_in ds k)) (λ k. option_map declared_of (declaration_in (ds ++ d ∷ []) k)) d.entity (declared_of d) (λ k. declaration_more ds d k) c.args.found.now (sym c.in_default.is ∙ ap (λ (x : Declared). x.entity) is) h
