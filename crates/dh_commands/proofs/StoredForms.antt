-- A store of each form at one path: by indices, by a row of a bank, and of what is no access.
use Rattle.std.proofs.Common.{◌≡◌, ℕ, suc, ◌+◌, ◌-◌, ◌<◌, ◌^◌, Bool, true, false, Some, None, List, refl, ap, sym, ◌∙◌, subst, arith}
use Rattle.std.specs.Prelude.{Option, min, slice_get}
use Rattle.std.proofs.Math.Nat.{add_assoc}
use Rattle.dh_base.specs.declared.places.Place.{Place}
use Rattle.dh_value.specs.declared.kinds.Kind.{Kind}
use Rattle.dh_value.specs.declared.words.Word.{Word}
use Rattle.dh_value.specs.Words as words
use Rattle.dh_tree.specs.declared.trees.expressions.Ref.{Ref}
use Rattle.dh_tree.specs.Memories.{table_of}
use Rattle.dh_tree.specs.Seen.{program_seen}
use Rattle.dh_tree.specs.PlainTrees as plain
use Rattle.dh_meaning.specs.AccessNumbers.{term_accesses, terms_accesses}
use Rattle.dh_meaning.specs.Core.{Target, by_row}
use Rattle.dh_meaning.specs.CoreOf.{core_term, core_terms, memory_of, target_to, way_of}
use Rattle.dh_meaning.specs.Effects.{Effect, Variables, entry_kind, stored_at}
use Rattle.dh_expressions.specs.declared.accesses.Accesses.{Accesses}
use Rattle.dh_expressions.specs.declared.drafts.Draft.{Draft}
use Rattle.dh_expressions.specs.declared.elements.Aim.{Aim}
use Rattle.dh_expressions.specs.declared.scenes.Lane.{Lane}
use Rattle.dh_expressions.specs.declared.scenes.Scene.{Scene}
use Rattle.dh_expressions.specs.declared.terms.Valued.{Valued}
use Rattle.dh_expressions.specs.Drafted.{BlockBegun, Extends, FitsStep, Gives, BlockStep, word_shown}
use Rattle.dh_expressions.specs.Evaluated.{AimsByIndices, AimsByRow, AimsThrough, EvaluatesAll, EvaluatesTerm, Fair, FairAll, IsSited, Knows, StepReads, Sees, View, begun_of, known_in, lane_guard, term_told, term_value, terms_values}
use Rattle.dh_expressions.specs.Reaching.{AimsAt, HasTarget, RowIs, StoresAt, Tells, reach_at}
use Rattle.dh_expressions.specs.Shown.{held_shown}
use Rattle.dh_expressions.proofs.Evaluating.{SeesNamed, aimed_events, has_target, named_aims, named_all}
use Rattle.dh_phases.specs.Counted.{behind}
use Rattle.dh_phases.proofs.CountedParts.{behind_few}
use Rattle.dh_commands.specs.declared.assignments.Values.{Values}
use Rattle.dh_commands.specs.declared.buildings.Building.{Building}
use Rattle.dh_commands.specs.LanesRun.{is_on_at, path_in, run_if}
use Rattle.dh_commands.specs.Followed.{FollowsStored, FollowsTarget, store_run, view_at_step}
use Rattle.dh_commands.specs.Done.{StandsBeside}
use Rattle.dh_commands.specs.Setting.{AimsAtTarget, NoVariable, StoresOne}
use Rattle.dh_commands.specs.Undone.{Changes}
use Rattle.dh_commands.proofs.ChangesBack.{changes_none}
use Rattle.dh_commands.proofs.Stored.{stored_extends, stored_off, stored_on}

next_is : (number own : ℕ) → number ≡ own → own + 1 < 2 ^ 32 → min (number + 1) (2 ^ 32 - 1) ≡ own + 1
next_is number own is few = grind (arith, is, few)

-- what a store's operations are made of, at one path
module _ (scene : Scene) (lane : Lane) (old new : Building) (d1 d2 d3 : Draft) (a1 a2 : Accesses) (first : ℕ) (place : Place) (k : Option Kind) (r : Ref) (t : plain.Term) (own : Valued) (aim : Aim) (held : ℕ)
    (same : new.values ≡ old.values) (e : EvaluatesTerm scene lane old.values.current.items old.draft d1 old.accesses a1 first t own) where
  abbrev memory : ℕ
  memory = memory_of (known_in scene) r

  abbrev make : Word → Word
  make w = held_shown t (entry_kind (slice_get (table_of (program_seen scene.program.now)) memory)) w

  module _ (ts : plain.Terms) (a : AimsThrough scene lane old.values.current.items d1 d2 a1 a2 own.next r ts aim)
      (g : Gives d2 d3 held (λ x. make (word_shown x own.value))) (w : StoresAt scene lane d3 new.draft a2 new.accesses (plain.term place k (plain.accessed r ts)) memory aim held) where
    abbrev access : plain.Term
    access = plain.term place k (plain.accessed r ts)

    abbrev from : ℕ
    from = first + term_accesses t

    abbrev target : Target
    target = target_to (way_of (known_in scene) r) (core_terms (known_in scene) from ts)

    abbrev NamedFair : View → Type 0
    NamedFair v = FairAll scene lane old.values.current.items v from ts

    abbrev NamedSees : View → Type 0
    NamedSees v = SeesNamed scene lane old.values.current.items from r ts v

    has : HasTarget (plain.term place k (plain.accessed r ts)) (target_to (way_of (known_in scene) r) (core_terms (known_in scene) (first + term_accesses t) ts))
    has = has_target scene lane old.values.current.items (way_of (known_in scene) r) place k r ts (core_terms (known_in scene) (first + term_accesses t) ts)

    abbrev Few : Type 0
    Few = first + (term_accesses t + suc (terms_accesses ts)) < 2 ^ 32

    fewer : Few → first + term_accesses t < 2 ^ 32
    fewer few = omega (arith, few)

    few_here : Few → from + terms_accesses ts < 2 ^ 32
    few_here few = omega (arith, few)

    indices : Few → AimsByIndices scene lane old.values.current.items d1 a.middle a1 a2 from ts a.listed
    indices few = subst (λ (n : ℕ). AimsByIndices scene lane old.values.current.items d1 a.middle a1 a2 n ts a.listed) (e.next (fewer few)) a.indices

    number_is : Few → aim.number ≡ from + terms_accesses ts
    number_is few = a.passes.number_is ∙ (indices few).indices.next (few_here few)

    evaluates : Few → EvaluatesAll (lane_guard lane) d1 d2 a1 a2 aim.indices (λ v. NamedFair v) (λ v. NamedSees v) (λ v. terms_values scene lane v from ts) (λ v. aimed_events scene lane old.values.current.items from r ts v)
    evaluates few = named_all scene lane old.values.current.items d1 a.middle d2 a1 a2 from r ts a.listed aim (few_here few) (indices few) a.passes

    told : Few → Tells (lane_guard lane) d1 d2 a1 a2 (λ v. NamedFair v) (λ v. NamedSees v) (λ v. aimed_events scene lane old.values.current.items from r ts v)
    told few = let i = evaluates few in record { extends = i.extends; knows = i.knows; tells = i.tells; quiet = i.quiet }

    aims : Few → (v : View) → FitsStep v.step d2 → BlockBegun v.step d1 → Knows v a1 → NamedFair v → NamedSees v → AimsAt lane v aim target
    aims few v f b known fair sees =
        named_aims scene lane old.values.current.items d1 a.middle d2 a1 a2 from r ts a.listed aim (few_here few) (indices few) a.passes v f b sees ((evaluates few).are v f b known fair sees)

    by : Few → (x : BlockStep) (reads : StepReads) (f : Effect) → FitsStep x new.draft → BlockBegun x old.draft → FollowsStored scene lane.around first access t lane.number x reads f.variables → StandsBeside scene lane.around x reads old f
        → (on : Bool) → is_on_at x lane.around lane.number ≡ on → StandsBeside scene lane.around x reads new (run_if on (store_run scene x first access t) (path_in lane.around lane.number) f)
    by few x reads f fits begun p stands = cases
      where
        sited : IsSited scene lane (view_at_step x reads f.variables) memory aim.number place (plain.accessed r ts) true
        sited = subst (λ (n : ℕ). IsSited scene lane (view_at_step x reads f.variables) memory n place (plain.accessed r ts) true) (sym (number_is few)) p.target_is.1.0

        cases : (on : Bool) → is_on_at x lane.around lane.number ≡ on → StandsBeside scene lane.around x reads new (run_if on (store_run scene x first access t) (path_in lane.around lane.number) f)
        cases true on =
            subst (λ (n : ℕ). StandsBeside scene lane.around x reads new (stored_at (begun_of x) (reach_at place memory n) target (core_term (known_in scene) first t) (path_in lane.around lane.number) f)) (number_is few)
            (stored_on scene lane old new d1 d2 d3 a1 a2 first t access own aim memory held target has make (λ v. NamedFair v) (λ v. NamedSees v) (λ v. aimed_events scene lane old.values.current.items from r ts v) same (fewer few) e (told few) (aims few) g w
            x reads f fits begun stands p.value (p.target_is.0.indices.fair old.values.current.items stands.shows) sited on
            (p.target_is.0.indices.sees on old.values.current.items stands.shows, p.target_is.0.way on old.values.current.items stands.shows) p.target_is.1.1.0 p.target_is.1.1.1 (p.held on) refl)
        cases false off =
            stored_off scene lane old new d1 d2 d3 a1 a2 first t access own aim memory held target has make (λ v. NamedFair v) (λ v. NamedSees v) (λ v. aimed_events scene lane old.values.current.items from r ts v) same (fewer few) e (told few) (aims few) g w
            x reads f fits begun stands p.value (p.target_is.0.indices.fair old.values.current.items stands.shows) sited off

    pub stored_indices : StoresOne scene lane old new first (min (aim.number + 1) (2 ^ 32 - 1)) access t
    stored_indices = record {
      next_is = λ few. next_is aim.number (from + terms_accesses ts) (number_is few) (omega (arith, few)) ∙ omega arith;
      so = λ few within. record {
        extends = stored_extends scene lane old new d1 d2 d3 a1 a2 first t access own aim memory held target has make (λ v. NamedFair v) (λ v. NamedSees v) (λ v. aimed_events scene lane old.values.current.items from r ts v) same (fewer few) e (told few) (aims few) g w;
        changes = λ ready. subst (λ (v : Values). Changes scene lane.around NoVariable old.values v) (sym same) (changes_none scene lane.around NoVariable old.values);
        so = λ x reads f fits begun p stands. by few x reads f fits begun p stands (is_on_at x lane.around lane.number) refl;
      };
    }

  -- the same by a row of a bank
  module _ (bank : ℕ) (at : Place) (row : plain.Term) (a : AimsByRow scene lane old.values.current.items d1 d2 a1 a2 own.next row aim)
      (g : Gives d2 d3 held (λ x. make (word_shown x own.value))) (w : StoresAt scene lane d3 new.draft a2 new.accesses (plain.term place k (plain.in_bank r bank at row)) memory aim held) where
    abbrev access_row : plain.Term
    access_row = plain.term place k (plain.in_bank r bank at row)

    abbrev from_row : ℕ
    from_row = first + term_accesses t

    abbrev target_row : Target
    target_row = by_row bank (core_term (known_in scene) from_row row)

    abbrev FewRow : Type 0
    FewRow = first + (term_accesses t + suc (term_accesses row)) < 2 ^ 32

    fewer_row : FewRow → first + term_accesses t < 2 ^ 32
    fewer_row few = omega (arith, few)

    few_there : FewRow → from_row + term_accesses row < 2 ^ 32
    few_there few = omega (arith, few)

    row_term : FewRow → EvaluatesTerm scene lane old.values.current.items d1 d2 a1 a2 from_row row (record { value = a.value; next = aim.number })
    row_term few = subst (λ (n : ℕ). EvaluatesTerm scene lane old.values.current.items d1 d2 a1 a2 n row (record { value = a.value; next = aim.number })) (e.next (fewer_row few)) a.term

    row_number : FewRow → aim.number ≡ from_row + term_accesses row
    row_number few = (row_term few).next (few_there few)

    told_row : FewRow → Tells (lane_guard lane) d1 d2 a1 a2 (λ v. Fair scene lane old.values.current.items v from_row row) (λ v. Sees scene lane old.values.current.items v from_row row) (λ v. term_told scene lane v from_row row)
    told_row few = let i = (row_term few).so (few_there few) in record { extends = i.extends; knows = i.knows; tells = i.tells; quiet = i.quiet }

    aims_row : FewRow → (v : View) → FitsStep v.step d2 → BlockBegun v.step d1 → Knows v a1 → Fair scene lane old.values.current.items v from_row row → Sees scene lane old.values.current.items v from_row row → AimsAt lane v aim target_row
    aims_row few v f b known fair sees =
        subst (λ (o : Option ℕ). RowIs v o (words.value_of (term_value scene lane v from_row row))) (sym a.row)
        (ap (λ (u : Word). words.value_of u) (((row_term few).so (few_there few)).is v f b known fair sees))

    by_row_at : FewRow → (x : BlockStep) (reads : StepReads) (f : Effect) → FitsStep x new.draft → BlockBegun x old.draft → FollowsStored scene lane.around first access_row t lane.number x reads f.variables → StandsBeside scene lane.around x reads old f
        → (on : Bool) → is_on_at x lane.around lane.number ≡ on → StandsBeside scene lane.around x reads new (run_if on (store_run scene x first access_row t) (path_in lane.around lane.number) f)
    by_row_at few x reads f fits begun p stands = cases
      where
        sited : IsSited scene lane (view_at_step x reads f.variables) memory aim.number place (plain.in_bank r bank at row) true
        sited = subst (λ (n : ℕ). IsSited scene lane (view_at_step x reads f.variables) memory n place (plain.in_bank r bank at row) true) (sym (row_number few)) p.target_is.1.0

        cases : (on : Bool) → is_on_at x lane.around lane.number ≡ on → StandsBeside scene lane.around x reads new (run_if on (store_run scene x first access_row t) (path_in lane.around lane.number) f)
        cases true on =
            subst (λ (n : ℕ). StandsBeside scene lane.around x reads new (stored_at (begun_of x) (reach_at place memory n) target_row (core_term (known_in scene) first t) (path_in lane.around lane.number) f)) (row_number few)
            (stored_on scene lane old new d1 d2 d3 a1 a2 first t access_row own aim memory held target_row refl make _ _ (λ v. term_told scene lane v from_row row) same (fewer_row few) e (told_row few) (aims_row few) g w
            x reads f fits begun stands p.value (p.target_is.0.fair old.values.current.items stands.shows) sited on (p.target_is.0.sees on old.values.current.items stands.shows) p.target_is.1.1.0 p.target_is.1.1.1 (p.held on) refl)
        cases false off =
            stored_off scene lane old new d1 d2 d3 a1 a2 first t access_row own aim memory held target_row refl make _ _ (λ v. term_told scene lane v from_row row) same (fewer_row few) e (told_row few) (aims_row few) g w
            x reads f fits begun stands p.value (p.target_is.0.fair old.values.current.items stands.shows) sited off

    pub stored_row : StoresOne scene lane old new first (min (aim.number + 1) (2 ^ 32 - 1)) access_row t
    stored_row = record {
      next_is = λ few. next_is aim.number (from_row + term_accesses row) (row_number few) (omega (arith, few)) ∙ omega arith;
      so = λ few within. record {
        extends = stored_extends scene lane old new d1 d2 d3 a1 a2 first t access_row own aim memory held target_row refl make _ _ (λ v. term_told scene lane v from_row row) same (fewer_row few) e (told_row few) (aims_row few) g w;
        changes = λ ready. subst (λ (v : Values). Changes scene lane.around NoVariable old.values v) (sym same) (changes_none scene lane.around NoVariable old.values);
        so = λ x reads f fits begun p stands. by_row_at few x reads f fits begun p stands (is_on_at x lane.around lane.number) refl;
      };
    }

-- A store of any target that is an access.
module _ (scene : Scene) (lane : Lane) (old new : Building) (d1 d2 d3 : Draft) (a1 a2 : Accesses) (first : ℕ) (t : plain.Term) (own : Valued) (aim : Aim) (memory held : ℕ)
    (same : new.values ≡ old.values) (e : EvaluatesTerm scene lane old.values.current.items old.draft d1 old.accesses a1 first t own) where
  abbrev GivesHeld : ℕ → Type 0
  GivesHeld n = Gives d2 d3 held (λ x. held_shown t (entry_kind (slice_get (table_of (program_seen scene.program.now)) n)) (word_shown x own.value))

  pub stored_some : (target : plain.Term) → AimsAtTarget scene lane old.values.current.items d1 d2 a1 a2 own.next target (Some (aim, memory)) → GivesHeld memory
      → StoresAt scene lane d3 new.draft a2 new.accesses target memory aim held → StoresOne scene lane old new first (min (aim.number + 1) (2 ^ 32 - 1)) target t
  stored_some (plain.term place k (plain.accessed r ts)) m g w =
      stored_indices scene lane old new d1 d2 d3 a1 a2 first place k r t own aim held same e ts m.0 (subst GivesHeld m.1 g)
      (subst (λ (n : ℕ). StoresAt scene lane d3 new.draft a2 new.accesses (plain.term place k (plain.accessed r ts)) n aim held) m.1 w)
  stored_some (plain.term place k (plain.in_bank r bank at row)) m g w =
      stored_row scene lane old new d1 d2 d3 a1 a2 first place k r t own aim held same e bank at row m.0 (subst GivesHeld m.1 g)
      (subst (λ (n : ℕ). StoresAt scene lane d3 new.draft a2 new.accesses (plain.term place k (plain.in_bank r bank at row)) n aim held) m.1 w)
  stored_some (plain.term place k (plain.number negative z)) m g w = absurd m
  stored_some (plain.term place k (plain.truth_value b)) m g w = absurd m
  stored_some (plain.term place k (plain.named r)) m g w = absurd m
  stored_some (plain.term place k (plain.applied op left right)) m g w = absurd m
  stored_some (plain.term place k (plain.converted inner to)) m g w = absurd m

-- A store of any other: no program does it. Its accesses have their numbers.
aimed_none : (scene : Scene) (lane : Lane) (current : List (Option ℕ)) (d1 d2 : Draft) (a1 a2 : Accesses) (n : ℕ) (target : plain.Term) → AimsAtTarget scene lane current d1 d2 a1 a2 n target None
    → ((d2 ≡ d1) × (a2 ≡ a1)) × ((x : BlockStep) (reads : StepReads) (variables : Variables) (m : ℕ) → FollowsTarget scene lane.around lane.number x reads variables m target → ⊥)
aimed_none scene lane current d1 d2 a1 a2 n (plain.term place k (plain.accessed r ts)) h = absurd h
aimed_none scene lane current d1 d2 a1 a2 n (plain.term place k (plain.in_bank r bank at row)) h = absurd h
aimed_none scene lane current d1 d2 a1 a2 n (plain.term place k (plain.number negative z)) h = (h, λ x reads variables m f. f)
aimed_none scene lane current d1 d2 a1 a2 n (plain.term place k (plain.truth_value b)) h = (h, λ x reads variables m f. f)
aimed_none scene lane current d1 d2 a1 a2 n (plain.term place k (plain.named r)) h = (h, λ x reads variables m f. f)
aimed_none scene lane current d1 d2 a1 a2 n (plain.term place k (plain.applied op left right)) h = (h, λ x reads variables m f. f)
aimed_none scene lane current d1 d2 a1 a2 n (plain.term place k (plain.converted inner to)) h = (h, λ x reads variables m f. f)

pub stored_none : (scene : Scene) (lane : Lane) (old new : Building) (d : Draft) (a : Accesses) (first next : ℕ) (target t : plain.Term) (own : Valued) → new.values ≡ old.values
    → EvaluatesTerm scene lane old.values.current.items old.draft d old.accesses a first t own → AimsAtTarget scene lane old.values.current.items d new.draft a new.accesses own.next target None
    → next ≡ behind own.next (term_accesses target) → StoresOne scene lane old new first next target t
stored_none scene lane old new d a first next target t own same e m counted = record {
  next_is = λ few.
      counted
      ∙ (ap (λ n. behind n (term_accesses target)) (e.next (fewer few)) ∙ (behind_few (first + term_accesses t) (term_accesses target) (fewer_here few) ∙ add_assoc first (term_accesses t) (term_accesses target)));
  so = λ few within. record {
    extends = subst (λ (n : Draft). Extends old.draft n) (sym none.0.0) (e.so (fewer few)).extends;
    changes = λ ready. subst (λ (v : Values). Changes scene lane.around NoVariable old.values v) (sym same) (changes_none scene lane.around NoVariable old.values);
    so = λ x reads effect fits begun p stands. absurd (none.1 x reads effect.variables (first + term_accesses t) p.target_is);
  };
}
  where
    none : ((new.draft ≡ d) × (new.accesses ≡ a)) × ((x : BlockStep) (reads : StepReads) (variables : Variables) (m : ℕ) → FollowsTarget scene lane.around lane.number x reads variables m target → ⊥)
    none = aimed_none scene lane old.values.current.items d new.draft a new.accesses own.next target m

    fewer : first + (term_accesses t + term_accesses target) < 2 ^ 32 → first + term_accesses t < 2 ^ 32
    fewer few = omega (arith, few)

    fewer_here : first + (term_accesses t + term_accesses target) < 2 ^ 32 → first + term_accesses t + term_accesses target < 2 ^ 32
    fewer_here few = omega (arith, few)
