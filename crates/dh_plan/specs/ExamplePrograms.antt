-- A program and its plan on which definitions are shown to be met: three turns of a store.
use Rattle.std.specs.Prelude.{false, [], ◌∷◌, None}
use Rattle.dh_value.specs.declared.kinds.Kind.TheVariants.{Unsigned}
use Rattle.dh_tree.specs.Meets.{access}
use Rattle.dh_meaning.specs.Core.{Reach, literal, by_indices, no_terms, term_and, store, no_commands, command_and, Turning, straightly, turning, no_core_phases, phase_and, CoreProgram}
use Rattle.dh_plan.specs.Correspondence.{Slots}
use Rattle.dh_plan.specs.ExamplePlans.{line, constant, probes, writes_at, block, nodes, at_place}
use Rattle.dh_plan.specs.PlainPlans.{block_node, turns_node, PlainPlan}

-- `decl A: ubit<8>[2];\nfor (let i = 0..3) { A[1] := 7; }`
abbrev pub three_turns : Turning
three_turns = record { iterator = 1; depth = 0; low = 0; factor = 1; count = 3 }

abbrev pub stored_reach : Reach
stored_reach = record { number = 0; place = record { line = 2; column = 22 }; memory = 0 }

abbrev pub storing_program : CoreProgram
storing_program = record {
  table = line 65 8 2 ∷ [];
  phases = phase_and (turning three_turns (phase_and (straightly (command_and (store stored_reach (by_indices (term_and (literal (Unsigned 32) false 1) no_terms)) (literal (Unsigned 8) false 7)) no_commands)) no_core_phases)) no_core_phases;
}

abbrev pub storing_plan : PlainPlan
storing_plan = record {
  table = line 65 8 2 ∷ [];
  views = [];
  registers = Unsigned 2 ∷ [];
  blocks = block (constant 8 7 ∷ constant 32 1 ∷ probes 0 0 (1 ∷ []) 0 ∷ writes_at 0 0 (1 ∷ []) 0 ∷ []) ∷ [];
  body = nodes (turns_node 0 3 (nodes (block_node 0 ∷ [])) ∷ []);
  meets = access 0;
  faults = at_place 2 22 ∷ [];
}

-- no variable has a register
abbrev pub no_slots : Slots
no_slots = λ entity path. None
