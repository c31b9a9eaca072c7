-- What is made of a whole program before its first step.
use Rattle.std.proofs.Common.{◌≡◌, ℕ, ◌+◌, ◌<◌, ◌≤◌, ◌^◌, List, [], ◌++◌, length, map, ap, sym, ◌∙◌, subst, arith}
use Rattle.std.specs.Prelude.{Option}
use Rattle.dh_tree.specs.declared.trees.commands.Command.{Command}
use Rattle.dh_tree.specs.declared.trees.programs.Tree.{Tree}
use Rattle.dh_tree.specs.Memories.{memories_of, table_of}
use Rattle.dh_tree.specs.PlainTrees.{Action, Program}
use Rattle.dh_tree.specs.Seen.{action_seen, program_seen}
use Rattle.dh_tree.specs.Shapes.{IsProgramTable}
use Rattle.dh_meaning.specs.CoreOf.{Known, core_phases, known_of}
use Rattle.dh_meaning.specs.Ways.{Led, all_bindings_of, all_entities_of, ways_of}
use Rattle.dh_ways.specs.declared.ways.Hidden.{Hidden}
use Rattle.dh_ways.specs.CutStands.{HasFewWays}
use Rattle.dh_ways.specs.Seen.{led_seen}
use Rattle.dh_ways.specs.Stands.{hidden_of_program}
use Rattle.dh_meaning.specs.Phases as source
use Rattle.dh_meaning.specs.Phases.{phases}
use Rattle.dh_meaning.specs.Sites.{nothing_around}
use Rattle.dh_code.specs.declared.flattening.Names.{Names}
use Rattle.dh_code.specs.declared.places.VariableSlots.{VariableSlots}
use Rattle.dh_code.specs.Declarations.{Declaration, all_declarations_of, all_held, declarations, declared_of, hidden_declarations, placing_of, slots_counted, slots_of}
use Rattle.dh_code.specs.Flattening.{IsPlacingOf, known_by_names}
use Rattle.dh_code.specs.Placed.{AreFewHidden, hidden_as, most_entities}
use Rattle.dh_code.proofs.HiddenPlaced.{entities_so, hidden_placed, kinds_all}
use Rattle.dh_code.proofs.KindsHeld.{length_held}
use Rattle.dh_sem.specs.declared.holding.MadeRun.{MadeRun}
use Rattle.dh_sem.specs.Held.{HoldsAll, HoldsProgram, IsSoundMade, course_made}
use Rattle.dh_sem.specs.Lanes.{AreFirstLanes}
use Rattle.dh_sem.specs.Phased.{ArePhases}
use Rattle.dh_sem.specs.Runnable.{CanRunAll, IsRunnable}

-- the numbers of the ways of a program that can be run have room
pub few_ways : (p : Program) → IsRunnable p → HasFewWays p
few_ways p runnable = record { entities = less (all_entities_of p) runnable.entities; round = runnable.round }
  where
    less : (n : ℕ) → n ≤ most_entities → n < 2 ^ 32
    less n l = omega (arith, l)

-- the slots that are given are those of the program
module _ (t : Tree) (n : ℕ) (hidden : List Hidden) (long : n ≡ length t.entities.items) (kept : hidden ≡ hidden_of_program (program_seen t)) where
  abbrev q : Program
  q = program_seen t

  total : n + length hidden ≡ all_entities_of q
  total = ap (λ m. m + length hidden) long ∙ (ap (λ (l : List Hidden). length q.entities + length l) kept ∙ entities_so q)

  pub few_entities : IsRunnable q → n + length hidden ≤ most_entities
  few_entities runnable = subst (λ (m : ℕ). m ≤ most_entities) (sym total) runnable.entities

  pub few_hidden : IsRunnable q → AreFewHidden hidden
  few_hidden runnable = (hidden_declarations q, (hidden_placed q hidden kept, runnable.hidden))

  pub places_are : (a : Action) (count : ℕ) (slice held : List VariableSlots) → slice ≡ held → a ≡ action_seen t.body
      → ((ds : List Declaration) → map declared_of ds ≡ map hidden_as hidden → (held ≡ all_held (declarations [] a ++ ds) 0 0 (n + length hidden)) × (count ≡ slots_counted (declarations [] a ++ ds) 0 0 (n + length hidden)))
      → (slice ≡ (placing_of q).held) × (count ≡ slots_of q)
  places_are a count slice held same seen h =
      let ds = hidden_declarations q in
      let are = h ds (hidden_placed q hidden kept) in (
        same ∙ (are.0 ∙ (ap (λ a. all_held (declarations [] a ++ ds) 0 0 (n + length hidden)) seen ∙ ap (λ m. all_held (declarations [] (action_seen t.body) ++ ds) 0 0 m) total)),
        are.1 ∙ (ap (λ a. slots_counted (declarations [] a ++ ds) 0 0 (n + length hidden)) seen ∙ ap (λ m. slots_counted (declarations [] (action_seen t.body) ++ ds) 0 0 m) total),
      )

module _ (names : Names) (old new : MadeRun) (body : Command) (first : Option ℕ) (holds : HoldsAll names old new body first) where
  abbrev p : Program
  p = program_seen names.program.now

  placing_is : IsRunnable p → names.places.now ≡ (placing_of p).held → IsPlacingOf (placing_of p) names
  placing_is runnable is = record {
    held = sym is;
    kinds = λ e h. kinds_all p runnable.named e (subst (λ (n : ℕ). e < n) (length_held (all_declarations_of p) 0 0 (all_entities_of p)) h);
  }

  abbrev known_by : List Led → Known
  known_by ls = record { memories = memories_of p; bindings = all_bindings_of p; ways = ls }

  known_is : map led_seen names.ways.now ≡ ways_of p → known_by_names names ≡ known_of p
  known_is led = ap (λ (ls : List Led). known_by ls) led

  pub made_first : names.places.now ≡ (placing_of p).held → map led_seen names.ways.now ≡ ways_of p → action_seen body ≡ p.body → IsProgramTable (table_of p) → IsRunnable p → AreFirstLanes old.lanes.items → IsSoundMade (table_of p) old
      → HoldsProgram p new first
  made_first is led seen table runnable lanes sound =
      let all = holds (placing_of p) (placing_is runnable is) (subst (λ (a : Action). CanRunAll (table_of p) (placing_of p) [] (core_phases (known_by_names names) (source.of_list (phases nothing_around 0 a)))) (sym seen)
      (subst (λ (k : Known). CanRunAll (table_of p) (placing_of p) [] (core_phases k (source.of_list (source.phases_of p)))) (sym (known_is led)) runnable.phases)) table.entries lanes.lead sound in (
        all.0,
        (
          all.1.0,
          subst (λ (k : Known). ArePhases (table_of p) (placing_of p) (course_made new) [] first (core_phases k (source.of_list (source.phases_of p)))) (known_is led)
              (subst (λ (a : Action). ArePhases (table_of p) (placing_of p) (course_made new) [] first (core_phases (known_by_names names) (source.of_list (phases nothing_around 0 a)))) seen all.1.1),
        ),
      )
