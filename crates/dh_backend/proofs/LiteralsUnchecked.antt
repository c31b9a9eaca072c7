-- Accesses of a program by literals are never checked: the plan states of them what the pass that makes banks and rows keeps.
use Rattle.dh_tree.specs.PlainTrees.{Program}
use Rattle.dh_plan.specs.LiteralAccesses.{StatesLiteral}
use Rattle.dh_backend.specs.PlanLaws.{LiteralsAreUnchecked}

pub literals_are_unchecked : (p : Program) → LiteralsAreUnchecked p
literals_are_unchecked p plan addressed of made number a at literal = record {
  checks = λ b i fault guard r there own c j ok other check. made.literals.unchecked fault c j ok other (states.faults b i fault guard r there own) check;
  constants = λ c j t used own. made.literals.rows number c j t states.accesses used own;
}
  where
    states : StatesLiteral plan number
    states = of.literals number a at literal
