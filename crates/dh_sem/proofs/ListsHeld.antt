-- Holding a list of phases, the last one first: those held so far are what stands behind those that are still to be held.
-- Each turn gives the last of these its code, and puts it in front.
use Rattle.std.proofs.Common.{◌≡◌, ℕ, zero, suc, ◌+◌, ◌-◌, ◌<◌, ◌≤◌, List, [], ◌∷◌, ◌++◌, length, drop, get_or, Some, None, refl, ap, sym, ◌∙◌, subst, append-nil, arith, inl, inr, ◌⊎◌}
use Rattle.std.specs.Prelude.{Option, slice_get}
use Rattle.std.proofs.lemmas.List.{drop_all, length-append}
use Rattle.std.proofs.lemmas.Option.{slice_get_within}
use Rattle.std.proofs.Math.Seq.{drop-cons}
use Rattle.dh_tree.specs.declared.trees.commands.Command.{Command}
use Rattle.dh_tree.specs.Seen.{action_seen}
use Rattle.dh_meaning.specs.CoreOf.{core_phase, core_phases}
use Rattle.dh_meaning.specs.Phases as source
use Rattle.dh_meaning.specs.Phases.{phases, of_list}
use Rattle.dh_meaning.specs.Sites.{Around, nothing_around}
use Rattle.dh_phases.specs.declared.gathering.Phase as gathering
use Rattle.dh_phases.specs.GatheredPhases.{AllGathered, Gathered, all_gathered, gathered_list, gathered_then, none_gathered, phase_seen, phases_seen}
use Rattle.dh_phases.proofs.PhasesMatched.{list_matches}
use Rattle.dh_code.specs.declared.flattening.Names.{Names}
use Rattle.dh_code.specs.Coded.{ExtendsCode}
use Rattle.dh_code.specs.Flattening.{known_by_names, table_in}
use Rattle.dh_code.specs.Scenes.{IsSoundCode, IsEarlier}
use Rattle.dh_code.specs.Slots.{Placing}
use Rattle.dh_code.proofs.CommandsCoded.{extends_none, get_last}
use Rattle.dh_sem.specs.declared.holding.MadeRun.{MadeRun}
use Rattle.dh_sem.specs.declared.phases.PhaseForm.{PhaseForm}
use Rattle.dh_sem.specs.declared.phases.HeldPhase.{HeldPhase}
use Rattle.dh_sem.specs.Held.{CanBeHeld, Fixes, FixesForm, HoldsAll, HoldsList, HoldsPhases, IsSoundMade, MoreMade}
use Rattle.dh_sem.specs.Phased.{IsLinkedPhase, TestIsHeld}
use Rattle.dh_sem.proofs.PhasesKept.{earlier_later, leads_still, linked_still, made_none, made_then, phase_stays, phases_stay, tested_still, there_later}
use Rattle.dh_sem.proofs.PhasesTurned.{turned}

at_end : {A : Type 0} (xs : List A) (x y : A) (i : ℕ) → slice_get (xs ++ x ∷ []) i ≡ Some y → (slice_get xs i ≡ Some y) ⊎ ((i ≡ length xs) × (x ≡ y))
at_end [] x y zero e = inr (refl, cc)
at_end [] x y (suc i) e = absurd cc
at_end (z ∷ xs) x y zero e = inl e
at_end {A = A} (z ∷ xs) x y (suc i) e = by (at_end xs x y i e)
  where
    by : (slice_get xs i ≡ Some y) ⊎ ((i ≡ length xs) × (x ≡ y)) → (slice_get xs i ≡ Some y) ⊎ ((suc i ≡ suc (length xs)) × (x ≡ y))
    by (inl g) = inl g
    by (inr g) = inr (ap suc g.0, g.1)

-- one phase more
module _ (names : Names) (paths : ℕ) (old now mid new : MadeRun) (all : AllGathered) (gathered : Gathered) (form : PhaseForm) (next : Option ℕ) (rest : HoldsList names paths old now all next) (fixes : FixesForm names paths now mid gathered form)
    (code : new.code ≡ mid.code) (lanes : new.lanes.items ≡ mid.lanes.items) (are : new.phases.items ≡ mid.phases.items ++ record { form = form; next = next; paths = paths } ∷ []) where
  abbrev held : HeldPhase
  held = record { form = form; next = next; paths = paths }

  pushed : MoreMade mid new
  pushed = record { code = subst (λ c. ExtendsCode mid.code c) (sym code) (extends_none mid.code); phases = held ∷ []; are = are; lanes = record { more = []; are = lanes ∙ sym (append-nil mid.lanes.items) } }

  one_longer : length mid.phases.items < length new.phases.items
  one_longer = by (length mid.phases.items) (length new.phases.items) (ap (λ l. length l) are ∙ length-append mid.phases.items (held ∷ []))
    where
      by : (n m : ℕ) → m ≡ n + 1 → n < m
      by n m e = omega (arith, e)

  pushed_sound : IsSoundMade (table_in names) mid → CanBeHeld mid form → IsEarlier (length mid.phases.items) next → paths < length mid.lanes.items → IsSoundMade (table_in names) new
  pushed_sound s can earlier there = record {
    code = subst (λ c. IsSoundCode (table_in names) c) (sym code) s.code;
    course = record {
      links = record { each = λ at phase get. link at phase (at_end mid.phases.items held phase at (ap (λ l. slice_get l at) (sym are) ∙ get)) };
      tests = λ at phase get. test at phase (at_end mid.phases.items held phase at (ap (λ l. slice_get l at) (sym are) ∙ get));
    };
  }
    where
      equal : (n : ℕ) → n ≤ n
      equal n = omega arith

      more : (m : ℕ) → m < length mid.lanes.items → m < length new.lanes.items
      more m e = subst (λ l. m < length l) (sym lanes) e

      link : (at : ℕ) (phase : HeldPhase) → (slice_get mid.phases.items at ≡ Some phase) ⊎ ((at ≡ length mid.phases.items) × (held ≡ phase)) → IsLinkedPhase new.lanes.items at phase
      link at phase (inl e) =
          let l = s.course.links.each at phase e in
          record { form = linked_still mid new pushed at at phase.form (equal at) l.form; next = l.next; paths = more phase.paths l.paths }
      link at phase (inr e) =
          subst (λ (n : ℕ). IsLinkedPhase new.lanes.items n phase) (sym e.0) (subst (λ (f : HeldPhase). IsLinkedPhase new.lanes.items (length mid.phases.items) f) e.1
          (record { form = linked_still mid new pushed (length mid.phases.items) (length mid.phases.items) form (equal (length mid.phases.items)) can.linked; next = earlier; paths = more paths there }))

      test : (at : ℕ) (phase : HeldPhase) → (slice_get mid.phases.items at ≡ Some phase) ⊎ ((at ≡ length mid.phases.items) × (held ≡ phase)) → TestIsHeld new.code.operations phase.form
      test at phase (inl e) = tested_still mid new pushed phase.form (s.course.tests at phase e)
      test at phase (inr e) = subst (λ (f : HeldPhase). TestIsHeld new.code.operations f.form) e.1 (tested_still mid new pushed form can.tested)

  -- in front of those of the list
  in_front : (p : Placing) (factors : List ℕ) (q : source.Phase) (qs : source.Phases) → HoldsPhases names p factors paths old now next qs → Fixes names p factors paths now mid form q → HoldsPhases names p factors paths old new (Some (length mid.phases.items)) (source.phase q qs)
  in_front p factors q qs h fix =
      let before = made_then old now mid h.more fix.more in
      let behind = made_then now mid new fix.more pushed in
      let all_more = made_then old now new h.more behind in
      let earlier = earlier_later now mid next fix.more h.earlier in
      record {
        more = all_more;
        earlier = one_longer;
        begins = λ some_phase. tt;
        sound = λ memories there s.
            let made = fix.sound memories (there_later paths old now h.more there) (h.sound memories there s) in
            pushed_sound made.0 made.1 earlier (there_later paths old mid before there);
        means = λ leads. (
          held,
          (
            ap (λ f. slice_get f (length mid.phases.items)) are ∙ get_last mid.phases.items held,
            (
              leads_still old.lanes.items new.lanes.items paths factors all_more.lanes leads,
              (
                earlier,
                (
                  phase_stays (table_in names) p mid new pushed factors (length mid.phases.items) (length mid.phases.items) form (core_phase (known_by_names names) q) (equal (length mid.phases.items))
                      (fix.means (leads_still old.lanes.items now.lanes.items paths factors h.more.lanes leads)),
                  phases_stay (table_in names) p now new behind factors next (core_phases (known_by_names names) qs) (h.means leads),
                ),
              ),
            ),
          ),
        );
      }
    where
      equal : (n : ℕ) → n ≤ n
      equal n = omega arith

  holds_more : HoldsList names paths old new (gathered_then gathered all) (Some (length mid.phases.items))
  holds_more p factors source.no_phases placing alike turned can = absurd alike
  holds_more p factors (source.phase q qs) placing alike turned can = in_front p factors q qs (rest p factors qs placing alike.1 turned.1 can.1) (fixes p factors q placing alike.0 turned.0 can.0)

holds_none : (names : Names) (paths : ℕ) (m : MadeRun) → HoldsList names paths m m none_gathered None
holds_none names paths m p factors source.no_phases placing alike turned can = record { more = made_none m; earlier = tt; begins = λ some_phase. absurd some_phase; sound = λ memories there s. s; means = λ leads. tt }
holds_none names paths m p factors (source.phase q qs) placing alike turned can = absurd alike

-- By what the code goes along.
abbrev pub HoldsFrom : Names → (paths : ℕ) → (old now : MadeRun) → List gathering.Phase → (i : ℕ) → (next : Option ℕ) → Type 0
HoldsFrom names paths old now ps i next = HoldsList names paths old now (all_gathered (phases_seen (drop i ps))) next

pub hold_begin : (names : Names) (paths : ℕ) (m : MadeRun) (ps : List gathering.Phase) → HoldsFrom names paths m m ps (length ps) None
hold_begin names paths m ps = subst (λ (l : List gathering.Phase). HoldsList names paths m m (all_gathered (phases_seen l)) None) (sym (drop_all (length ps) ps (equal (length ps)))) (holds_none names paths m)
  where
    equal : (n : ℕ) → n ≤ n
    equal n = omega arith

pub hold_turn : (names : Names) (paths : ℕ) (old now mid new : MadeRun) (ps : List gathering.Phase) (i : ℕ) (x : gathering.Phase) (form : PhaseForm) (next : Option ℕ) (at : ℕ) → 0 < i → i ≤ length ps → x ≡ get_or ps (i - 1) x → FixesForm names paths now mid (phase_seen x) form
    → new.code ≡ mid.code → new.lanes.items ≡ mid.lanes.items → new.phases.items ≡ mid.phases.items ++ record { form = form; next = next; paths = paths } ∷ [] → at ≡ length mid.phases.items
    → HoldsFrom names paths old now ps i next → HoldsFrom names paths old new ps (i - 1) (Some at)
hold_turn names paths old now mid new ps i x form next at some_left within is fixes code lanes are counted h =
    subst (λ (n : ℕ). HoldsFrom names paths old new ps (i - 1) (Some n)) (sym counted)
    (subst (λ (l : List gathering.Phase). HoldsList names paths old new (all_gathered (phases_seen l)) (Some (length mid.phases.items))) (sym (last_left i some_left within is))
    (holds_more names paths old now mid new (all_gathered (phases_seen (drop i ps))) (phase_seen x) form next h fixes code lanes are))
  where
    back : (n : ℕ) → 0 < n → suc (n - 1) ≡ n
    back n e = omega (arith, e)

    less : (n : ℕ) → 0 < n → n ≤ length ps → n - 1 < length ps
    less n e f = omega (arith, e, f)

    last_left : (n : ℕ) → 0 < n → n ≤ length ps → x ≡ get_or ps (n - 1) x → drop (n - 1) ps ≡ x ∷ drop n ps
    last_left n e f same = drop-cons ps (n - 1) x (less n e f) ∙ (ap (λ y. y ∷ drop (suc (n - 1)) ps) (sym same) ∙ ap (λ m. x ∷ drop m ps) (back n e))

-- a program's body
pub holds_all : (names : Names) (old new : MadeRun) (ps seen : List gathering.Phase) (body : Command) (first : Option ℕ) → seen ≡ ps → ((r : Around) → phases_seen ps ≡ gathered_list (phases r 0 (action_seen body))) → HoldsList names 0 old new (all_gathered (phases_seen seen)) first
    → HoldsAll names old new body first
holds_all names old new ps seen body first same are h p placing can memories leads s =
    let qs = phases nothing_around 0 (action_seen body) in
    let held = h p [] (of_list qs) placing (list_matches (phases_seen seen) qs (ap phases_seen same ∙ are nothing_around)) (turned nothing_around 0 (action_seen body)) can in
    let there = slice_get_within old.lanes.items 0 leads.found leads.there in
    (held.sound memories there s, (held.earlier, held.means leads))
