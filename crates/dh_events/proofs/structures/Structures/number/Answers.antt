use Rattle.std.proofs.Common.{ap, sym, ◌∙◌, List}
use Rattle.std.specs.Prelude.{Some, slice_get}
use Rattle.dh_events.specs.declared.structures.Structure.{Structure}
use Rattle.dh_events.proofs.KeyFacts.{one_place, stays}
use Rattle.dh_events.proofs.StructureEqual.{own_structure, same_structure}
use Rattle.dh_events.proofs.structures.Structures.number.Goals as goal

pub invariant_of-self-2 : goal.invariant_of-self-2
invariant_of-self-2 c = one_place _ own_structure c.insert_full.new.self.keys c.insert_full.ensures.unique

pub returns-clause-numbers : goal.returns-clause-numbers
returns-clause-numbers c = record {
  extends = λ n k e. ap (λ (l : List Structure). slice_get l n) c.in_ok-found.ensures.keys ∙ stays _ c.self.inside.known.keys c.args.structure n k (ap (λ (l : List Structure). slice_get l n) c.self.view_is ∙ e);
  stands = c.in_ok-found.ensures.stored.1 ∙ ap (λ k. Some k) (sym (same_structure c.args.structure c.in_ok-found.ensures.stored.0 c.in_ok-found.ensures.stored.2));
}

pub returns-clause-distinct : goal.returns-clause-distinct
returns-clause-distinct c = one_place _ own_structure c.insert_full.new.self.keys c.insert_full.ensures.unique
