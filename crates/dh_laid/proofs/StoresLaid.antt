-- Stores are formed: the value, then what names the element, then its write.
use Rattle.std.proofs.Common.{◌≡◌, ◌+◌, ◌<◌, ◌^◌, ℕ, List, Some, None, refl, sym, ◌∙◌, subst, arith}
use Rattle.std.specs.Prelude.{true, Option}
use Rattle.dh_tree.specs.Indices.{form_of}
use Rattle.dh_tree.specs.Memories.{table_of}
use Rattle.dh_tree.specs.PlainTrees as plain
use Rattle.dh_tree.specs.PlainTrees.{Term}
use Rattle.dh_tree.specs.Seen.{program_seen}
use Rattle.dh_meaning.specs.AccessNumbers.{term_accesses, terms_accesses}
use Rattle.dh_meaning.specs.CoreOf.{memory_of}
use Rattle.dh_meaning.specs.Effects.{kind_in}
use Rattle.dh_expressions.specs.declared.accesses.Accesses.{Accesses}
use Rattle.dh_expressions.specs.declared.drafts.Draft.{Draft}
use Rattle.dh_expressions.specs.declared.elements.Aim.{Aim}
use Rattle.dh_expressions.specs.declared.scenes.Lane.{Lane}
use Rattle.dh_expressions.specs.declared.scenes.Scene.{Scene}
use Rattle.dh_expressions.specs.Drafted.{Extends}
use Rattle.dh_expressions.specs.Evaluated.{known_in}
use Rattle.dh_expressions.specs.Reaching.{place_written}
use Rattle.dh_expressions.specs.Shown.{kind_written}
use Rattle.dh_expressions.proofs.Pushing.{extends_again, extends_self}
use Rattle.dh_formed.specs.Formed.{AccessSuits, Agrees, AimSuits, FormedBlock, FormsAim, FormsPart, FormsTerm, FormsValue, HasKind, HeldSuits, AreNotedReads, IsScope, NamedSuits, Started, TermSuits}
use Rattle.dh_formed.proofs.AccessesFormed.{noted_later, scope_later}
use Rattle.dh_formed.proofs.ElementsFormed.{aim_later, write_forms}
use Rattle.dh_formed.proofs.TermsFormed.{all_numbered, aim_of_row, formed, numbered, through_formed}
use Rattle.dh_formed.proofs.ValuesFormed.{agrees_before, forms_again, forms_none, held_forms, kind_later, kind_same, started_later}
use Rattle.dh_commands.specs.declared.buildings.Building.{Building}
use Rattle.dh_commands.specs.declared.assignments.Values.{Values}
use Rattle.dh_commands.specs.LanesRun.{lane_of}
use Rattle.dh_commands.specs.MadeCommands.{MadeAim, MadeStored, MadeStoring}
use Rattle.dh_laid.specs.Laid.{AimingSuits, AllStoresForm, AreHeld, StoresForm, StoringSuits, WritingSuits, aim_accesses}
use Rattle.dh_laid.proofs.PathsLaid.{paths_form}
use Rattle.dh_laid.proofs.ValuesLaid.{held_later}

module _ (scene : Scene) (lane : Lane) (current : List (Option ℕ)) (target t : Term) (value : ℕ) where
  -- what an aim adds is formed, and what it gives names an element
  record Aims (old new : Draft) (before after : Accesses) (memory number : ℕ) (aim : Aim) (First : FormedBlock → Type 0) : Type 0 where
    part : FormsPart scene lane current old new before after First
    gives : (x : FormedBlock) → Agrees x new → Started x old → IsScope x old scene lane current → AreNotedReads x old before → First x → AimSuits x new memory (form_of target) aim
    number_is : aim.number ≡ number

  abbrev StoresWhere : (old : Draft) → (memory number : ℕ) → (First : FormedBlock → Type 0) → FormedBlock → Type 0
  StoresWhere old memory number First x = HasKind x old (kind_written t) value × (First x × WritingSuits x scene lane memory number target t)

  written : (old middle : Draft) (before between : Accesses) (new : Building) (memory number next : ℕ) (aim : Aim) (First : FormedBlock → Type 0) → Aims old middle before between memory number aim First
      → MadeStoring scene lane target t value (Some (aim, memory)) middle between new next → FormsPart scene lane current old new.draft before new.accesses (StoresWhere old memory number First)
  written old middle before between new memory number next aim First aims m =
      let held : FormsValue middle m.0 m.1.0 (λ x. HeldSuits t (kind_in (table_of (program_seen scene.program.now)) memory) × HasKind x middle (kind_written t) value) (λ x. kind_in (table_of (program_seen scene.program.now)) memory) =
      held_forms t (kind_in (table_of (program_seen scene.program.now)) memory) value middle m.0 m.1.0 m.1.1.0 in
      let writes : FormsPart scene lane current m.0 new.draft between new.accesses
      (λ x. (AimSuits x m.0 memory (form_of target) aim × AccessSuits x scene lane memory aim.number (place_written target) (form_of target) true) × HasKind x m.0 (kind_in x.plan.table memory) m.1.0) =
      write_forms scene lane current target memory aim m.0 new.draft between new.accesses m.1.0 m.1.1.1.0 in
      let first : Extends old m.0 = extends_again old middle m.0 aims.part.extends held.extends in
      record {
        extends = extends_again old m.0 new.draft first writes.extends;
        forms = λ x a s sc no w.
            let a2 = agrees_before x m.0 new.draft writes.extends a in
            let a1 = agrees_before x middle m.0 held.extends a2 in
            forms_again x old m.0 new.draft writes.extends
            (forms_again x old middle m.0 held.extends (aims.part.forms x a1 s sc no w.1.0) (held.forms x a2 (started_later x old middle aims.part.extends s) (w.1.1.holds, kind_later x old middle (kind_written t) value aims.part.extends w.0)))
            (writes.forms x a (started_later x old m.0 first s) (scope_later x old m.0 scene lane current first sc) (noted_later x middle m.0 between held.extends (aims.part.notes x a1 s sc no w.1.0)) (suits held first x a2 s sc no w));
        notes = λ x a s sc no w.
            let a2 = agrees_before x m.0 new.draft writes.extends a in
            let a1 = agrees_before x middle m.0 held.extends a2 in
            writes.notes x a (started_later x old m.0 first s) (scope_later x old m.0 scene lane current first sc) (noted_later x middle m.0 between held.extends (aims.part.notes x a1 s sc no w.1.0)) (suits held first x a2 s sc no w);
      }
    where
      suits : (h : FormsValue middle m.0 m.1.0 (λ x. HeldSuits t (kind_in (table_of (program_seen scene.program.now)) memory) × HasKind x middle (kind_written t) value) (λ x. kind_in (table_of (program_seen scene.program.now)) memory)) → Extends old m.0
          → (x : FormedBlock) → Agrees x m.0 → Started x old → IsScope x old scene lane current → AreNotedReads x old before → StoresWhere old memory number First x
          → (AimSuits x m.0 memory (form_of target) aim × AccessSuits x scene lane memory aim.number (place_written target) (form_of target) true) × HasKind x m.0 (kind_in x.plan.table memory) m.1.0
      suits h first x a s sc k w = (
        (
          aim_later x middle m.0 memory (form_of target) aim h.extends (aims.gives x (agrees_before x middle m.0 h.extends a) s sc k w.1.0),
          subst (λ (n : ℕ). AccessSuits x scene lane memory n (place_written target) (form_of target) true) (sym aims.number_is) w.1.1.access,
        ),
        kind_same x m.0 _ _ m.1.0 w.1.1.same (h.gives x a (started_later x old middle aims.part.extends s) (w.1.1.holds, kind_later x old middle (kind_written t) value aims.part.extends w.0)),
      )

  abbrev StoredWhere : (old : Draft) → (n : ℕ) → plain.TermForm → FormedBlock → Type 0
  StoredWhere old n form x = HasKind x old (kind_written t) value × (AimingSuits x scene lane n form × StoringSuits x scene lane n target t form)

  stored_none : (middle end : Draft) (between behind : Accesses) (new : Building) (next : ℕ) (form : plain.TermForm) (n : ℕ) → (end ≡ middle) × (behind ≡ between) → (new.draft ≡ end) × (new.accesses ≡ behind)
      → FormsPart scene lane current middle new.draft between new.accesses (StoredWhere middle n form)
  stored_none middle end between behind new next form n a m =
      let same : new.draft ≡ middle = m.0 ∙ a.0 in
      record {
        extends = subst (λ (d : Draft). Extends middle d) (sym same) (extends_self middle);
        forms = λ x ag s sc k w. forms_none x middle new.draft same;
        notes = λ x ag s sc k w. subst (λ (d : Draft). AreNotedReads x d new.accesses) (sym same) (subst (λ (c : Accesses). AreNotedReads x middle c) (sym (m.1 ∙ a.1)) k);
      }

  stored_by : (form : plain.TermForm) (aimed : Option (Aim × ℕ)) (middle end : Draft) (between behind : Accesses) (new : Building) (n next : ℕ) → MadeAim scene lane current form middle end between behind n aimed
      → MadeStoring scene lane target t value aimed end behind new next → n + aim_accesses form < 2 ^ 32 → form_of target ≡ form → FormsPart scene lane current middle new.draft between new.accesses (StoredWhere middle n form)
  stored_by (plain.accessed r ts) (Some (aim, memory)) middle end between behind new n next a m few is =
      let f : FormsAim scene lane current middle end between behind (memory_of (known_in scene) r) aim (λ x. NamedSuits x scene lane n r ts) = through_formed scene lane current r ts middle end between behind n aim a.0 few in
      written middle end between behind new (memory_of (known_in scene) r) (n + terms_accesses ts) next aim (λ x. AimingSuits x scene lane n (plain.accessed r ts))
      (record {
        part = f.part;
        gives = λ x ag s sc k w. f.gives x ag s sc k w (form_of target);
        number_is = all_numbered scene lane current ts middle a.0.middle between behind n aim.number aim.indices a.0.indices few;
      }) (subst (λ (i : ℕ). MadeStoring scene lane target t value (Some (aim, i)) end behind new next) a.1 m)
  stored_by (plain.accessed r ts) None middle end between behind new n next a m few is = absurd a
  stored_by (plain.in_bank r bank at row) (Some (aim, memory)) middle end between behind new n next a m few is =
      let f : FormsTerm scene lane current middle end between behind a.0.value (λ x. TermSuits x scene lane n row) (kind_written row) = formed scene lane current row middle end between behind n aim.number a.0.value a.0.row few in
      written middle end between behind new (memory_of (known_in scene) r) (n + term_accesses row) next aim (λ x. AimingSuits x scene lane n (plain.in_bank r bank at row))
      (record {
        part = record { extends = f.part.extends; forms = λ x ag s sc k w. f.part.forms x ag s sc k w.0; notes = λ x ag s sc k w. f.part.notes x ag s sc k w.0 };
        gives = λ x ag s sc k w.
            subst (λ (u : plain.TermForm). AimSuits x end (memory_of (known_in scene) r) u aim) (sym is)
            (aim_of_row scene lane current x end (memory_of (known_in scene) r) a.0.value (plain.in_bank r bank at row) aim tt a.0.none a.0.steps a.0.row_is (kind_written row, (w.1, f.gives x ag s sc k w.0)));
        number_is = numbered scene lane current row middle end between behind n aim.number a.0.value a.0.row few;
      }) (subst (λ (i : ℕ). MadeStoring scene lane target t value (Some (aim, i)) end behind new next) a.1 m)
  stored_by (plain.in_bank r bank at row) None middle end between behind new n next a m few is = absurd a
  stored_by (plain.number negative z) None middle end between behind new n next a m few is = stored_none middle end between behind new next (plain.number negative z) n a m
  stored_by (plain.number negative z) (Some aimed) middle end between behind new n next a m few is = absurd a
  stored_by (plain.truth_value b) None middle end between behind new n next a m few is = stored_none middle end between behind new next (plain.truth_value b) n a m
  stored_by (plain.truth_value b) (Some aimed) middle end between behind new n next a m few is = absurd a
  stored_by (plain.named r) None middle end between behind new n next a m few is = stored_none middle end between behind new next (plain.named r) n a m
  stored_by (plain.named r) (Some aimed) middle end between behind new n next a m few is = absurd a
  stored_by (plain.applied o l r) None middle end between behind new n next a m few is = stored_none middle end between behind new next (plain.applied o l r) n a m
  stored_by (plain.applied o l r) (Some aimed) middle end between behind new n next a m few is = absurd a
  stored_by (plain.converted inner to) None middle end between behind new n next a m few is = stored_none middle end between behind new next (plain.converted inner to) n a m
  stored_by (plain.converted inner to) (Some aimed) middle end between behind new n next a m few is = absurd a

pub stores_form : StoresForm
stores_form scene lane first target t old new next m few =
    let term : FormsTerm scene lane old.values.current.items old.draft m.middle old.accesses m.between m.value (λ x. TermSuits x scene lane first t) (kind_written t) =
    formed scene lane old.values.current.items t old.draft m.middle old.accesses m.between first m.own m.value m.term (omega (arith, few)) in
    let own : m.own ≡ first + term_accesses t = numbered scene lane old.values.current.items t old.draft m.middle old.accesses m.between first m.own m.value m.term (omega (arith, few)) in
    let stored : FormsPart scene lane old.values.current.items m.middle new.draft m.between new.accesses
    (λ x. HasKind x m.middle (kind_written t) m.value × (AimingSuits x scene lane m.own (form_of target) × StoringSuits x scene lane m.own target t (form_of target))) =
    stored_by scene lane old.values.current.items target t m.value (form_of target) m.aimed m.middle m.end m.between m.behind new m.own next m.aims m.stores (omega (arith, own, few)) refl in
    record {
      extends = extends_again old.draft m.middle new.draft term.part.extends stored.extends;
      forms = λ x a s sc k h w.
          let before = agrees_before x m.middle new.draft stored.extends a in
          let started = started_later x old.draft m.middle term.part.extends s in
          let scope = scope_later x old.draft m.middle scene lane old.values.current.items term.part.extends sc in
          let noted = term.part.notes x before s sc k w.0 in
          let suits : HasKind x m.middle (kind_written t) m.value × (AimingSuits x scene lane m.own (form_of target) × StoringSuits x scene lane m.own target t (form_of target)) =
          (term.gives x before s sc k w.0, subst (λ (n : ℕ). AimingSuits x scene lane n (form_of target) × StoringSuits x scene lane n target t (form_of target)) (sym own) w.1) in
          record {
            forms = forms_again x old.draft m.middle new.draft stored.extends (term.part.forms x before s sc k w.0) (stored.forms x a started scope noted suits);
            notes = stored.notes x a started scope noted suits;
            held =
                subst (λ (v : Values). AreHeld x new.draft v) (sym m.same)
                (held_later x old.draft new.draft old.values (extends_again old.draft m.middle new.draft term.part.extends stored.extends) h);
          };
    }

pub all_stores_form : AllStoresForm
all_stores_form scene around first target t count old new next m few within =
    paths_form scene around (λ n b d k. MadeStored scene (lane_of around n) first target t b d k)
    (λ n x. TermSuits x scene (lane_of around n) first t
    × (AimingSuits x scene (lane_of around n) (first + term_accesses t) (form_of target) × StoringSuits x scene (lane_of around n) (first + term_accesses t) target t (form_of target)))
    (λ n b d k one. stores_form scene (lane_of around n) first target t b d k one few) count first old new next within m
