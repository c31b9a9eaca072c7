-- One phase with its code, by its kind: straight commands are done one after the other; of a `for`, a `while` and an `if`
-- the phases inside are held, and a test has its code.
use Rattle.std.proofs.Common.{◌≡◌, ℕ, ◌^◌, ◌≤◌, List, [], ◌∷◌, length, map, Some, None, refl, ap, sym, ◌∙◌, subst, append-nil, arith}
use Rattle.std.specs.Prelude.{Option, slice_get, Vec}
use Rattle.std.specs.Global.{Global}
use Rattle.std.specs.List.{AllByRecursion}
use Rattle.std.proofs.lemmas.Option.{slice_get_within}
use denote.Ref.{Bor}
use Rattle.dh_tree.specs.declared.tables.MemEntry.{MemEntry}
use Rattle.dh_tree.specs.declared.trees.commands.Command.{Command}
use Rattle.dh_tree.specs.declared.trees.commands.LoopHeader.{LoopHeader}
use Rattle.dh_tree.specs.declared.trees.expressions.Expr.{Expr}
use Rattle.dh_tree.specs.PlainTrees as plain
use Rattle.dh_tree.specs.PlainTrees.{ActionForm, Term}
use Rattle.dh_tree.specs.Scopes.{entity_number}
use Rattle.dh_tree.specs.Seen.{action_seen, term_seen}
use Rattle.dh_tree.specs.Shapes.{IsMemory}
use Rattle.dh_meaning.specs.Core.{CoreTerm, Turning, no_commands, turning}
use Rattle.dh_meaning.specs.CoreOf.{Known, action_form_of, core_commands, core_phases, core_term, core_test, core_test_of, depth_of, test_of, turning_of}
use Rattle.dh_meaning.specs.Phases.{Located, straight, turns, repeated, decided}
use Rattle.dh_phases.specs.declared.gathering.NumberedCommand.{NumberedCommand}
use Rattle.dh_phases.specs.declared.gathering.Phase as gathering
use Rattle.dh_phases.specs.declared.gathering.Phase.TheVariants as variant
use Rattle.dh_phases.specs.GatheredPhases.{AllGathered, Gathered, Header, Numbered, all_gathered, choice_phase, header_of, header_seen, loop_phase, numbered_seen, phase_seen, phases_seen, straight_phase, turns_phase}
use Rattle.dh_phases.specs.MatchedPhases.{MatchCommands}
use Rattle.dh_phases.proofs.SeenPhases.{choice_is, loop_is, turns_is}
use Rattle.dh_code.specs.declared.codes.FlatExpression.{FlatExpression}
use Rattle.dh_code.specs.declared.flattening.Names.{Names}
use Rattle.dh_code.specs.Coded.{AreCoded, AreSlotsOf, ExtendsCode, IsFlat}
use Rattle.dh_code.specs.Declarations.{factors_inside}
use Rattle.dh_code.specs.Flattening.{FlattensCommands, IsInFront, IsPlacingOf, known_by_names, table_in}
use Rattle.dh_code.specs.Made.{term_made}
use Rattle.dh_code.specs.Ranks.{copies_in}
use Rattle.dh_code.specs.Scenes.{IsHeld, IsSoundCode}
use Rattle.dh_code.specs.Slots.{Placing}
use Rattle.dh_code.specs.Suited.{IsSuited}
use Rattle.dh_code.proofs.CommandForms.{flat_held, flat_is}
use Rattle.dh_code.proofs.CommandsCoded.{adds_extend, extends_none, flat_stays, held_stays, sound_added}
use Rattle.dh_code.proofs.MadeParts.{made_done}
use Rattle.dh_sem.specs.declared.holding.MadeRun.{MadeRun}
use Rattle.dh_sem.specs.declared.phases.PhaseForm.{PhaseForm}
use Rattle.dh_sem.specs.declared.phases.PhaseForm.TheVariants as formed
use Rattle.dh_sem.specs.declared.phases.HeldPhase.{HeldPhase}
use Rattle.dh_sem.specs.declared.phases.Turns.{Turns}
use Rattle.dh_sem.specs.Held.{FixesForm, HoldsTestCode, HoldsList, IsSoundMade, MoreMade, course_made, turns_counted}
use Rattle.dh_sem.specs.Lanes.{LeadsInside, MoreLanes}
use Rattle.dh_sem.specs.Phased.{IsLinkedPhase, IsPhase, IsSoundCourse}
use Rattle.dh_sem.specs.Runnable.{CanRunAll, CanTurn}
use Rattle.dh_sem.proofs.PhasesKept.{earlier_later, leads_still, linked_still, longer, made_then, phases_stay, tested_still, there_later, within_more}

-- where no phase is held, a course stays sound
course_still : (a b : MadeRun) → MoreMade a b → b.phases.items ≡ a.phases.items → IsSoundCourse (course_made a) → IsSoundCourse (course_made b)
course_still a b h same s = record {
  links = record { each = λ at phase get. linked at phase (s.links.each at phase (ap (λ l. slice_get l at) (sym same) ∙ get)) };
  tests = λ at phase get. tested_still a b h phase.form (s.tests at phase (ap (λ l. slice_get l at) (sym same) ∙ get));
}
  where
    equal : (n : ℕ) → n ≤ n
    equal n = omega arith

    linked : (at : ℕ) (phase : HeldPhase) → IsLinkedPhase a.lanes.items at phase → IsLinkedPhase b.lanes.items at phase
    linked at phase l = record {
      form = linked_still a b h at at phase.form (equal at) l.form;
      next = l.next;
      paths = within_more phase.paths (length a.lanes.items) (length b.lanes.items) l.paths (longer a.lanes.items b.lanes.items h.lanes.more h.lanes.are);
    }

-- more code alone
more_code : (a b : MadeRun) → ExtendsCode a.code b.code → b.phases.items ≡ a.phases.items → b.lanes.items ≡ a.lanes.items → MoreMade a b
more_code a b e phases lanes = record { code = e; phases = []; are = phases ∙ sym (append-nil a.phases.items); lanes = record { more = []; are = lanes ∙ sym (append-nil a.lanes.items) } }

-- A phase of the code by what is seen of it; its lists as the code goes along them.

pub fixed_as : (names : Names) (paths : ℕ) (old new : MadeRun) (phase : gathering.Phase) (gathered : Gathered) (form : PhaseForm) → phase_seen phase ≡ gathered → FixesForm names paths old new gathered form → FixesForm names paths old new (phase_seen phase) form
fixed_as names paths old new phase gathered form seen h = subst (λ (g : Gathered). FixesForm names paths old new g form) (sym seen) h

pub turns_seen : (phase : gathering.Phase) (c : NumberedCommand) (header : Bor LoopHeader) (count : ℕ) (body : Vec gathering.Phase Global) (seen : List gathering.Phase) → phase ≡ variant.Turns c header count body → seen ≡ body.items
    → phase_seen phase ≡ turns_phase (numbered_seen c) (Some (header_seen header.now)) count (all_gathered (phases_seen seen))
turns_seen phase c header count body seen is same =
    ap phase_seen is ∙ (turns_is c header count body ∙ ap (λ l. turns_phase (numbered_seen c) (Some (header_seen header.now)) count (all_gathered (phases_seen l))) (sym same))

pub loop_seen : (phase : gathering.Phase) (c : NumberedCommand) (test : Bor Expr) (body : Vec gathering.Phase Global) (seen : List gathering.Phase) → phase ≡ variant.Loop c test body → seen ≡ body.items
    → phase_seen phase ≡ loop_phase (numbered_seen c) (Some (term_seen test.now)) (all_gathered (phases_seen seen))
loop_seen phase c test body seen is same = ap phase_seen is ∙ (loop_is c test body ∙ ap (λ l. loop_phase (numbered_seen c) (Some (term_seen test.now)) (all_gathered (phases_seen l))) (sym same))

pub choice_seen : (phase : gathering.Phase) (c : NumberedCommand) (test : Bor Expr) (chosen other : Vec gathering.Phase Global) (seen seen' : List gathering.Phase) → phase ≡ variant.Choice c test chosen other → seen ≡ chosen.items → seen' ≡ other.items
    → phase_seen phase ≡ choice_phase (numbered_seen c) (Some (term_seen test.now)) (all_gathered (phases_seen seen)) (all_gathered (phases_seen seen'))
choice_seen phase c test chosen other seen seen' is same same' =
    ap phase_seen is
    ∙ (choice_is c test chosen other
    ∙ (ap (λ l. choice_phase (numbered_seen c) (Some (term_seen test.now)) (all_gathered (phases_seen l)) (all_gathered (phases_seen other.items))) (sym same)
    ∙ ap (λ l. choice_phase (numbered_seen c) (Some (term_seen test.now)) (all_gathered (phases_seen seen)) (all_gathered (phases_seen l))) (sym same')))

-- Straight commands.

commands_are : (cs : List NumberedCommand) (ls : List Located) → MatchCommands (map numbered_seen cs) ls → map (λ l. l.command) ls ≡ map (λ (c : Bor Command). action_seen c.now) (map (λ c. c.command) cs)
commands_are [] [] e = refl
commands_are [] (l ∷ ls) e = absurd e
commands_are (c ∷ cs) [] e = absurd e
commands_are (c ∷ cs) (l ∷ ls) e = ap (λ a. a ∷ map (λ l. l.command) ls) (sym e.0.command) ∙ ap (λ rest. action_seen c.command.now ∷ rest) (commands_are cs ls e.1)

pub straight_fixed : (names : Names) (paths : ℕ) (old new : MadeRun) (cs : List NumberedCommand) (commands : List (Bor Command)) (list : Option ℕ) → commands ≡ map (λ c. c.command) cs → FlattensCommands names old.code new.code commands list
    → new.phases.items ≡ old.phases.items → new.lanes.items ≡ old.lanes.items → FixesForm names paths old new (straight_phase (map numbered_seen cs)) (formed.Straight list)
straight_fixed names paths old new cs commands list are flattens phases lanes p factors (turns loop count body) placing alike turned can = absurd alike
straight_fixed names paths old new cs commands list are flattens phases lanes p factors (repeated loop body) placing alike turned can = absurd alike
straight_fixed names paths old new cs commands list are flattens phases lanes p factors (decided choice chosen other) placing alike turned can = absurd alike
straight_fixed names paths old new cs commands list are flattens phases lanes p factors (straight ls) placing alike turned can = record {
  more = more;
  sound = λ memories there s. (record { code = h.sound memories tt s.code; course = course_still old new more phases s.course }, record { linked = tt; tested = tt });
  means = λ leads. (subst (λ held. AreCoded held (table_in names) new.code list (core_commands (known_by_names names) ls)) (sym placing.held) (h.coded tt), can);
}
  where
    h : IsInFront names old.code new.code list None (core_commands (known_by_names names) ls) no_commands
    h = flattens p factors ls (commands_are cs ls alike ∙ ap (λ bs. map (λ (c : Bor Command). action_seen c.now) bs) (sym are)) placing can

    more : MoreMade old new
    more = more_code old new h.extends phases lanes

-- A test, which has its code.

tested_by : (known : Known) (c : Located) (t : Term) → Some t ≡ test_of (action_form_of c.command) → core_test known c ≡ core_term known c.first t
tested_by known c t is = ap (λ o. core_test_of known c.first o) (sym is)

module _ (names : Names) (p : Placing) (placing : IsPlacingOf p names) (old new : MadeRun) (test : Expr) (f : FlatExpression) (n : ℕ) (t : CoreTerm) (is : t ≡ core_term (known_by_names names) n (term_seen test)) (h : HoldsTestCode names old new test f) (suits : IsSuited (table_in names) t) where
  abbrev written : CoreTerm
  written = core_term (known_by_names names) n (term_seen test)

  suited : IsSuited (table_in names) written
  suited = subst (λ (x : CoreTerm). IsSuited (table_in names) x) is suits

  test_more : MoreMade old new
  test_more = more_code old new (adds_extend old.code new.code (term_made names.places.now (table_in names) (length old.code.operations) written).operations (h.flat n suited).adds) h.phases h.lanes

  test_flat : IsFlat p.held (table_in names) new.code t f
  test_flat = subst (λ held. IsFlat held (table_in names) new.code t f) (sym placing.held)
      (subst (λ (x : CoreTerm). IsFlat names.places.now (table_in names) new.code x f) (sym is) (flat_is names.places.now (table_in names) old.code new.code written f (h.flat n suited)))

  test_sound : AllByRecursion IsMemory (table_in names) → IsSoundMade (table_in names) old → IsSoundMade (table_in names) new × IsHeld new.code.operations f
  test_sound memories s = (
    record {
      code = sound_added (table_in names) old.code new.code (term_made names.places.now (table_in names) (length old.code.operations) written).operations (h.flat n suited).adds
          (made_done names.places.now (table_in names) memories (length old.code.operations) written suited).operations s.code;
      course = course_still old new test_more h.phases s.course;
    },
    flat_held names.places.now (table_in names) old.code new.code written f memories suited (h.flat n suited),
  )

-- a `while`
pub loop_fixed : (names : Names) (paths : ℕ) (old coded new : MadeRun) (c : Numbered) (test : Expr) (gathered : AllGathered) (f : FlatExpression) (first : Option ℕ) → HoldsTestCode names old coded test f → HoldsList names paths coded new gathered first
    → FixesForm names paths old new (loop_phase c (Some (term_seen test)) gathered) (formed.Loop f first)
loop_fixed names paths old coded new c test gathered f first tests holds p factors (straight ls) placing alike turned can = absurd alike
loop_fixed names paths old coded new c test gathered f first tests holds p factors (turns loop count body) placing alike turned can = absurd alike
loop_fixed names paths old coded new c test gathered f first tests holds p factors (decided choice chosen other) placing alike turned can = absurd alike
loop_fixed names paths old coded new c test gathered f first tests holds p factors (repeated loop body) placing alike turned can =
    let t = core_test (known_by_names names) loop in
    let is = tested_by (known_by_names names) loop (term_seen test) alike.1.0 in
    let test_is = test_more names p placing old coded test f loop.first t is tests can.0.1.0 in
    let held = holds p factors body placing alike.1.1 turned can.1 in
    record {
      more = made_then old coded new test_is held.more;
      sound = λ memories there s.
          let tested = test_sound names p placing old coded test f loop.first t is tests can.0.1.0 memories s in
          (held.sound memories (there_later paths old coded test_is there) tested.0, record { linked = held.earlier; tested = held_stays coded.code new.code f held.more.code tested.1 });
      means = λ leads. (
        flat_stays p.held (table_in names) coded.code new.code held.more.code t f (test_flat names p placing old coded test f loop.first t is tests can.0.1.0),
        (can.0, (held.earlier, held.means (leads_still old.lanes.items coded.lanes.items paths factors test_is.lanes leads))),
      );
    }

-- an `if` of which an arm is not straight
pub choice_fixed : (names : Names) (paths : ℕ) (old coded between new : MadeRun) (c : Numbered) (test : Expr) (gathered gathered' : AllGathered) (f : FlatExpression) (one two : Option ℕ) → HoldsTestCode names old coded test f
    → HoldsList names paths coded between gathered one → HoldsList names paths between new gathered' two → FixesForm names paths old new (choice_phase c (Some (term_seen test)) gathered gathered') (formed.Choice f one two)
choice_fixed names paths old coded between new c test gathered gathered' f one two tests holds holds' p factors (straight ls) placing alike turned can = absurd alike
choice_fixed names paths old coded between new c test gathered gathered' f one two tests holds holds' p factors (turns loop count body) placing alike turned can = absurd alike
choice_fixed names paths old coded between new c test gathered gathered' f one two tests holds holds' p factors (repeated loop body) placing alike turned can = absurd alike
choice_fixed names paths old coded between new c test gathered gathered' f one two tests holds holds' p factors (decided choice chosen other) placing alike turned can =
    let t = core_test (known_by_names names) choice in
    let is = tested_by (known_by_names names) choice (term_seen test) alike.1.0 in
    let test_is = test_more names p placing old coded test f choice.first t is tests can.0.1.0 in
    let first = holds p factors chosen placing alike.1.1.0 turned.0 can.1.0 in
    let second = holds' p factors other placing alike.1.1.1 turned.1 can.1.1 in
    let later = made_then coded between new first.more second.more in
    record {
      more = made_then old coded new test_is later;
      sound = λ memories there s.
          let tested = test_sound names p placing old coded test f choice.first t is tests can.0.1.0 memories s in
          let s_first = first.sound memories (there_later paths old coded test_is there) tested.0 in
          let s_second = second.sound memories (there_later paths old between (made_then old coded between test_is first.more) there) s_first in
          (s_second, record { linked = (earlier_later between new one second.more first.earlier, second.earlier); tested = held_stays coded.code new.code f later.code tested.1 });
      means = λ leads.
          let at_coded = leads_still old.lanes.items coded.lanes.items paths factors test_is.lanes leads in (
            flat_stays p.held (table_in names) coded.code new.code later.code t f (test_flat names p placing old coded test f choice.first t is tests can.0.1.0),
            (
              can.0,
              (
                (earlier_later between new one second.more first.earlier, second.earlier),
                (
                  phases_stay (table_in names) p between new second.more factors one (core_phases (known_by_names names) chosen) (first.means at_coded),
                  second.means (leads_still coded.lanes.items between.lanes.items paths factors first.more.lanes at_coded),
                ),
              ),
            ),
          );
    }

-- A `for`: the lanes inside it are made, and the phases of its turn are held there.

abbrev turning_with : Known → (count : ℕ) → Header → Turning
turning_with known count h = record { iterator = entity_number h.iterator.entity; depth = depth_of known h.iterator; low = h.low; factor = h.factor; count = count }

turning_is : (known : Known) (count : ℕ) (h : Header) (form : ActionForm) → Some h ≡ header_of form → turning_of known count form ≡ turning_with known count h
turning_is known count h (plain.counts iterator declared low high factor body combine combine_place) e = ap (turning_with known count) (sym (same e))
  where
    same : {a b : Header} → Some a ≡ Some b → a ≡ b
    same f = cc
turning_is known count h (plain.lets name declared value) e = absurd cc
turning_is known count h (plain.lets_memory name shape shape_places value) e = absurd cc
turning_is known count h (plain.views name parent form) e = absurd cc
turning_is known count h (plain.assigns target value) e = absurd cc
turning_is known count h (plain.stores target value) e = absurd cc
turning_is known count h (plain.reduces target op value) e = absurd cc
turning_is known count h (plain.calls function arguments) e = absurd cc
turning_is known count h (plain.blocks body) e = absurd cc
turning_is known count h (plain.decides test chosen other) e = absurd cc
turning_is known count h (plain.repeats test body) e = absurd cc

few_paths : (m : ℕ) → m ≤ 256 → m ≤ 2 ^ 32
few_paths m e = omega (arith, e)

module _ (names : Names) (paths within : ℕ) (old start new : MadeRun) (h : Header) (count : ℕ) (gathered : AllGathered) (body : Option ℕ)
    (code : start.code ≡ old.code) (phases : start.phases.items ≡ old.phases.items) (lanes : MoreLanes old.lanes.items start.lanes.items) (inside : LeadsInside old.lanes.items start.lanes.items paths h.factor within) (holds : HoldsList names within start new gathered body) where
  abbrev made : Turns
  made = turns_counted names.places.now h count body within

  started : MoreMade old start
  started = record { code = subst (λ c. ExtendsCode old.code c) (sym code) (extends_none old.code); phases = []; are = phases ∙ sym (append-nil old.phases.items); lanes = lanes }

  start_sound : (table : List MemEntry) → IsSoundMade table old → IsSoundMade table start
  start_sound table s = record { code = subst (λ c. IsSoundCode table c) (sym code) s.code; course = course_still old start started phases s.course }

  turns_made : (c : Numbered) → FixesForm names paths old new (turns_phase c (Some h) count gathered) (formed.Turns made)
  turns_made c p factors (straight ls) placing alike turned can = absurd alike
  turns_made c p factors (repeated loop qs) placing alike turned can = absurd alike
  turns_made c p factors (decided choice chosen other) placing alike turned can = absurd alike
  turns_made c p factors (turns loop n qs) placing alike turned can =
      let known = known_by_names names in
      let inner = factors_inside factors h.factor in
      let is : turning_of known n (action_form_of loop.command) ≡ turning_with known count h = ap (λ k. turning_of known k (action_form_of loop.command)) (sym alike.1.1.0) ∙ turning_is known count h (action_form_of loop.command) alike.1.0 in
      let run : CanTurn p factors (turning_with known count h) × CanRunAll (table_in names) p inner (core_phases known qs) =
      subst (λ (t : Turning). CanTurn p factors t × CanRunAll (table_in names) p (factors_inside factors t.factor) (core_phases known qs)) is can in
      let some_turn : 1 ≤ count = subst (λ (k : ℕ). 1 ≤ k) (sym alike.1.1.0) turned.0 in
      let held = holds p inner qs placing alike.1.1.1 turned.1.1 run.1 in
      let some_phase = held.begins turned.1.0 in
      record {
        more = made_then old start new started held.more;
        sound = λ memories there s. (
          held.sound memories (inside there).there (start_sound (table_in names) s),
          record {
            linked = record {
              lanes_there = there_later within start new held.more (inside there).there;
              earlier = held.earlier;
              some_phase = some_phase;
              counts = run.0.counted;
              some_factor = run.0.some_factor;
              some_turn = some_turn;
            };
            tested = tt;
          },
        );
        means = λ leads.
            let there = slice_get_within old.lanes.items paths leads.found leads.there in
            let lead = (inside there).lead factors leads (few_paths (copies_in inner) run.0.few) in
            subst (λ (t : Turning). IsPhase (table_in names) p (course_made new) factors (length new.phases.items) (formed.Turns made) (turning t (core_phases known qs))) (sym is) (
              record {
                slots = subst (λ held. AreSlotsOf held (entity_number h.iterator.entity) made.first made.depth) (sym placing.held) (record { first_is = refl; depth_is = refl });
                iterator = run.0.iterator;
                low = refl;
                factor = refl;
                count = refl;
                counted = run.0.counted;
                some_factor = run.0.some_factor;
                some_turn = some_turn;
              },
              (leads_still start.lanes.items new.lanes.items within inner held.more.lanes lead, (some_phase, (held.earlier, held.means lead))),
            );
      }

  pub turns_fixed : (c : Numbered) (t : Turns) → t ≡ made → FixesForm names paths old new (turns_phase c (Some h) count gathered) (formed.Turns t)
  turns_fixed c t is = subst (λ (x : Turns). FixesForm names paths old new (turns_phase c (Some h) count gathered) (formed.Turns x)) (sym is) (turns_made c)
