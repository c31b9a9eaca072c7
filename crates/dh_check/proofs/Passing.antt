-- What the passes over a tree tell, one after the other: each keeps its least breach, so that it refuses
-- the tree or lets the next pass follow.
use Rattle.std.proofs.Common.{◌≡◌, ℕ, ◌≤◌, nat_lt, inl, inr, Bool, true, false, if◌then◌else◌, List, [], Option, Some, None, Result, Ok, Err, refl, ap, sym, ◌∙◌, subst, arith}
use Rattle.dh_base.specs.declared.faults.PassFault.{PassFault}
use Rattle.dh_base.specs.declared.faults.PassFault.TheVariants as pass
use Rattle.dh_base.specs.declared.limits.Excess.{Excess}
use Rattle.dh_names.specs.Programs as names
use Rattle.dh_types.specs.Programs as kinds
use Rattle.dh_base.specs.declared.places.Place.{Place}
use Rattle.dh_base.specs.declared.rules.Rule.{Rule}
use Rattle.dh_tree.specs.declared.breaches.Breach.{Breach}
use Rattle.dh_tree.specs.LeastBreach.{IsLeast, breach}
use Rattle.dh_tree.specs.PlainTrees.{Program}
use Rattle.dh_tree.specs.Breaches.{breaches_of, KeepsNames}
use Rattle.dh_tree.specs.Forms.{unbuilt_forms}
use Rattle.dh_tree.specs.KindBreaches.{kind_breaches, KeepsKinds}
use Rattle.dh_tree.specs.Kinds.{typed, HasKinds}
use Rattle.dh_tree.specs.Excesses.{first_excess}
use Rattle.dh_tree.specs.Indices.{index_breaches_of}
use Rattle.dh_tree.specs.Placements.{placement_breaches}
use Rattle.dh_tree.specs.Ready.{most_tokens, IsReady}
use Rattle.dh_tree.specs.NameCounts.{HasFewNames}
use Rattle.dh_tree.specs.Resolved.{resolved, HasEntities}
use Rattle.dh_tree.specs.Seen.{program_seen}
use Rattle.dh_tree.specs.ViewBreaches.{shapes_breaches_of, view_breaches_of}
use Rattle.dh_tree.specs.Written.{IsOfText}
use Rattle.dh_tree.proofs.ResolvedForms as resolving
use Rattle.dh_tree.proofs.ResolvedTexts as resolving_texts
use Rattle.dh_tree.proofs.TypedForms as typing
use Rattle.dh_tree.proofs.TypedTexts as typing_texts
use Rattle.dh_viewing.proofs.KeptViews.{first_none, second_none}
use Rattle.dh_check.specs.declared.checking.CheckFault.{CheckFault}
use Rattle.dh_check.specs.declared.checking.CountedProgram.{CountedProgram}
use Rattle.dh_check.specs.declared.checking.CheckFault.TheVariants as fault
use Rattle.dh_check.specs.Ready.{of_pass, CheckGoesOn, Stops, TellsShapes, TellsNamed, TellsTree}
use Rattle.dh_check.specs.Verdicts.{Verdict, refuses, exceeds, Passes, JudgedLast, JudgedLimits, JudgedTyped, JudgedTree}

-- a pass that keeps a breach refuses, and one that keeps none lets the next follow
refused_at : (bs : List Breach) (r : Rule) (place : Place) (next : Type 0) → IsLeast bs (breach r place) → Passes bs (refuses r place) next
refused_at bs r place next h = inl (breach r place, (h, refl))

passed : (bs : List Breach) (v : Verdict) (next : Type 0) → bs ≡ [] → next → Passes bs v next
passed bs v next none h = inr (none, h)

-- the passes over a program whose expressions have their kinds
after_kinds : (ports : Bool) (p : Program) (v : Verdict) → KeepsKinds p → Passes (shapes_breaches_of p) v (JudgedLimits ports p (first_excess p) v) → JudgedTyped ports p v
after_kinds ports p v keeps h = passed (kind_breaches p) v (Passes (shapes_breaches_of p) v (JudgedLimits ports p (first_excess p) v)) keeps h

after_shapes : (ports : Bool) (p : Program) (v : Verdict) → KeepsKinds p → shapes_breaches_of p ≡ [] → JudgedLimits ports p (first_excess p) v → JudgedTyped ports p v
after_shapes ports p v keeps within h = after_kinds ports p v keeps (passed (shapes_breaches_of p) v (JudgedLimits ports p (first_excess p) v) within h)

after_limits : (ports : Bool) (p : Program) (v : Verdict) (o : Option Excess) → KeepsKinds p → shapes_breaches_of p ≡ [] → first_excess p ≡ o → JudgedLimits ports p o v → JudgedTyped ports p v
after_limits ports p v o keeps within e h =
    after_shapes ports p v keeps within (subst (λ (x : Option Excess). JudgedLimits ports p x v) (sym e) h)

-- a kind is wrong
pub kinds_stop : (p : Program) (e : PassFault) → kinds.Answers p (Err e) → Stops (λ ports v. JudgedTyped ports (typed p) v) (of_pass e)
kinds_stop p pass.NoMemory h = λ ports. tt
kinds_stop p (pass.Refused r place) h =
    λ ports. refused_at (kind_breaches (typed p)) r place (Passes (shapes_breaches_of (typed p)) (refuses r place) (JudgedLimits ports (typed p) (first_excess (typed p)) (refuses r place))) h

-- where memories stand
after_places : (ports : Bool) (p : Program) (v : Verdict) → KeepsKinds p → shapes_breaches_of p ≡ [] → first_excess p ≡ None → Passes (placement_breaches p) v (JudgedLast ports p v) → JudgedTyped ports p v
after_places ports p v keeps within few h = after_limits ports p v None keeps within few h

-- a rule on shapes, indices, bounds, views or places is broken, or a limit on memories is exceeded
shapes_stop : (A : Type 0) (p : Program) (e : CheckFault) → KeepsKinds p → TellsShapes {A = A} p (Err e) → Stops (λ ports v. JudgedTyped ports p v) e
shapes_stop A p (fault.Refused r place) keeps (inl h) =
    λ ports. after_kinds ports p (refuses r place) keeps (refused_at (shapes_breaches_of p) r place (JudgedLimits ports p (first_excess p) (refuses r place)) h)
shapes_stop A p (fault.Refused r place) keeps (inr h) =
    λ ports. after_places ports p (refuses r place) keeps h.shapes h.limits (refused_at (placement_breaches p) r place (JudgedLast ports p (refuses r place)) h.least)
shapes_stop A p (fault.TooLarge limit count) keeps h =
    let x : Excess = record { limit = limit; count = count } in
    λ ports. after_limits ports p (exceeds x) (Some x) keeps h.0 h.1 refl
shapes_stop A p fault.NoMemory keeps h = λ ports. tt

-- the same of the typed program; `t` and `s` are that program as the code holds it
pub named_stops : (A : Type 0) (p t s : Program) (e : CheckFault) → t ≡ typed p → s ≡ t → KeepsKinds t → TellsShapes {A = A} s (Err e) → Stops (λ ports v. JudgedTyped ports (typed p) v) e
named_stops A p t s e same again keeps h =
    subst (λ (x : Program). Stops (λ ports v. JudgedTyped ports x v) e) same (shapes_stop A t e keeps (subst (λ (x : Program). TellsShapes {A = A} x (Err e)) again h))

-- what has passed them is ready, and goes on to its ports
is_ready : {A : Type 0} (p t : Program) (a : A) → t ≡ typed p → IsOfText most_tokens p → unbuilt_forms p ≡ [] → KeepsNames t → HasEntities t → HasKinds t → KeepsKinds t → TellsShapes {A = A} t (Ok a) → IsReady t
is_ready p t a same of_text built names entities kinds suits shapes = record {
  of_text = subst (λ (x : Program). IsOfText most_tokens x) (sym same) (typing.of_text_kept most_tokens p (typing_texts.widths_kept p of_text.widths) of_text);
  built = ap unbuilt_forms same ∙ (typing_texts.unbuilt_forms_kept p ∙ built);
  names = names;
  entities = entities;
  kinds = kinds;
  suits = suits;
  indices = first_none (index_breaches_of t) (view_breaches_of t) shapes.0;
  views = second_none (index_breaches_of t) (view_breaches_of t) shapes.0;
  limits = shapes.1.0;
  placements = shapes.1.1;
}

pub named_ready : {A : Type 0} (p t s : Program) (a : A) → t ≡ typed p → s ≡ t → IsOfText most_tokens p → unbuilt_forms p ≡ [] → KeepsNames t → HasEntities t → HasKinds t → KeepsKinds t → TellsShapes {A = A} s (Ok a)
    → (t ≡ typed p) × (IsReady (typed p) × CheckGoesOn (λ ports v. JudgedTyped ports (typed p) v) (typed p))
named_ready {A} p t s a same again of_text built names entities kinds suits h =
    let shapes : TellsShapes {A = A} t (Ok a) = subst (λ (x : Program). TellsShapes {A = A} x (Ok a)) again h in (
      same,
      subst (λ (x : Program). IsReady x × CheckGoesOn (λ ports v. JudgedTyped ports x v) x) same (
        is_ready p t a same of_text built names entities kinds suits shapes,
        λ ports v j. after_places ports t v suits shapes.0 shapes.1.0 (passed (placement_breaches t) v (JudgedLast ports t v) shapes.1.1 j),
      ),
    )

-- the passes over a tree
forms_passed : (ports : Bool) (p : Program) (v : Verdict) → unbuilt_forms p ≡ [] → Passes (breaches_of p) v (JudgedTyped ports (typed (resolved p)) v)
    → JudgedTree ports p v
forms_passed ports p v e h = passed (unbuilt_forms p) v (Passes (breaches_of p) v (JudgedTyped ports (typed (resolved p)) v)) e h

-- a form is not built, or a name breaks a rule
pub names_stop : (p : Program) (e : PassFault) → names.AnswersBuilt p (Err e) → Stops (λ ports v. JudgedTree ports p v) (of_pass e)
names_stop p pass.NoMemory h = λ ports. tt
names_stop p (pass.Refused r place) (inl h) =
    λ ports. refused_at (unbuilt_forms p) r place (Passes (breaches_of p) (refuses r place) (JudgedTyped ports (typed (resolved p)) (refuses r place))) h
names_stop p (pass.Refused r place) (inr h) =
    λ ports. forms_passed ports p (refuses r place) h.0 (refused_at (breaches_of p) r place (JudgedTyped ports (typed (resolved p)) (refuses r place)) h.1)

tree_named : (ports : Bool) (p q : Program) (v : Verdict) → unbuilt_forms p ≡ [] → q ≡ resolved p → KeepsNames p → JudgedTyped ports (typed q) v
    → JudgedTree ports p v
tree_named ports p q v e same keeps h =
    let P : Program → Type 0 = λ y. JudgedTyped ports (typed y) v in
    forms_passed ports p v e (inr (keeps, subst P same h))

pub tells_tree : (p q : Program) (r : Result CountedProgram CheckFault) → unbuilt_forms p ≡ [] → q ≡ resolved p → KeepsNames p
    → TellsNamed q r → TellsTree p r
tells_tree p q (Ok c) e same keeps h = (
  subst (λ (x : Program). IsReady x) (sym h.0) h.1.0,
  λ ports v j. tree_named ports p q v e same keeps (h.1.1 ports v (subst (λ (x : Program). JudgedLast ports x v) h.0 j)),
)
tells_tree p q (Err (fault.Refused rule place)) e same keeps h = λ ports. tree_named ports p q (refuses rule place) e same keeps (h ports)
tells_tree p q (Err (fault.TooLarge limit count)) e same keeps h =
    λ ports. tree_named ports p q (exceeds (record { limit = limit; count = count })) e same keeps (h ports)
tells_tree p q (Err fault.NoMemory) e same keeps h = λ ports. tt

-- what names are resolved in
pub of_text_still : (p q : Program) → q ≡ resolved p → IsOfText most_tokens p → IsOfText most_tokens q
of_text_still p q same h = subst (λ (x : Program). IsOfText most_tokens x) (sym same) (resolving.of_text_kept most_tokens p (resolving_texts.widths_kept p h.widths) h)

pub built_still : (p q : Program) → unbuilt_forms p ≡ [] → q ≡ resolved p → unbuilt_forms q ≡ []
built_still p q e same = ap unbuilt_forms same ∙ (resolving_texts.unbuilt_forms_kept p ∙ e)

pub few_names : (p : Program) → IsOfText most_tokens p → HasFewNames p
few_names p h = let w = h.names in omega (arith, w)
