use Rattle.std.proofs.Common.{ℕ, subst, arith}
use Rattle.std.specs.Prelude.{Option}
use Rattle.std.proofs.lemmas.Option.{slice_get_within}
use Rattle.std.proofs.lemmas.Result.{IfOk-weaker}
use Rattle.dh_unroll.specs.ViewsListed.{HasSets}
use Rattle.dh_unroll.proofs.ReachedSets.{behind_place, made_first, place_many}
use Rattle.dh_unroll.proofs.viewing.sets_of.Goals as goal

pub bounds-through-place : goal.bounds-through-place
bounds-through-place c =
    let has = subst (λ (o : Option ℕ). HasSets c.args.view.now c.args.through.now o) c.in-Some.is c.requires.parent in
    slice_get_within c.args.through.now c.in-Some.place has.0 has.1.0

pub offset_bounds-through-place : goal.offset_bounds-through-place
offset_bounds-through-place c =
    let has = subst (λ (o : Option ℕ). HasSets c.args.view.now c.args.through.now o) c.in-Some.is c.requires.parent in
    let within = slice_get_within c.args.through.now c.in-Some.place has.0 has.1.0 in
    omega arith

pub sets_behind-requires-clause-map : goal.sets_behind-requires-clause-map
sets_behind-requires-clause-map c = c.requires.map

pub sets_behind-requires-clause-many : goal.sets_behind-requires-clause-many
sets_behind-requires-clause-many c =
    place_many c.args.view.now c.args.through.now c.in-Some.place c.index-through-place.result c.as_slice.result.now (subst (λ (o : Option ℕ). HasSets c.args.view.now c.args.through.now o) c.in-Some.is c.requires.parent) c.index-through-place.is c.as_slice.ensures

pub sets_first-requires : goal.sets_first-requires
sets_first-requires c = c.requires.map

pub returns-in-Some : goal.returns-in-Some
returns-in-Some c =
    IfOk-weaker c.sets_behind.result _ _ (λ sets made.
    behind_place c.args.view.now c.args.through.now c.args.parent c.in-Some.place c.index-through-place.result c.as_slice.result.now sets c.in-Some.is (subst (λ (o : Option ℕ). HasSets c.args.view.now c.args.through.now o) c.in-Some.is c.requires.parent) c.index-through-place.is c.as_slice.ensures made) c.sets_behind.ensures

pub returns-in-None : goal.returns-in-None
returns-in-None c = IfOk-weaker c.sets_first.result _ _ (λ sets made. made_first c.args.view.now c.args.through.now c.args.parent sets c.in-None.is made) c.sets_first.ensures
