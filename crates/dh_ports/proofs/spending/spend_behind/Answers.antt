use Rattle.std.proofs.Common.{Bool, List, ◌++◌, refl, subst, sym}
use Rattle.std.specs.Prelude.{IfOk}
use Rattle.dh_events.specs.Noted.{all_seen}
use Rattle.dh_ports.specs.declared.spending.Walked.{Walked}
use Rattle.dh_ports.specs.declared.spending.Walked.TheVariants as walked
use Rattle.dh_ports.specs.Runs.{moves_in}
use Rattle.dh_ports.specs.Walks.{KeptWhile, SpendsTo}
use Rattle.dh_ports.proofs.spending.spend_behind.Goals as goal

pub spend_all-requires-clause-kept : goal.spend_all-requires-clause-kept
spend_all-requires-clause-kept c = subst (λ (w : Walked). KeptWhile w c.args.levels.now) c.in-Past.is c.requires.kept

pub returns-in-Past : goal.returns-in-Past
returns-in-Past c =
    subst (λ (w : Walked). IfOk c.spend_all.result (λ after. (more : List Bool) → SpendsTo (all_seen c.args.events.now) (c.args.shared.now ++ more) w c.args.levels.now (moves_in c.args.moves.now) after c.spend_all.new.levels)) (sym c.in-Past.is) c.spend_all.ensures

pub returns-in-Beyond : goal.returns-in-Beyond
returns-in-Beyond c = λ more. subst (λ (w : Walked). SpendsTo (all_seen c.args.events.now) (c.args.shared.now ++ more) w c.args.levels.now (moves_in c.args.moves.now) (walked.Beyond c.in-Beyond.place) c.args.levels.now) (sym c.in-Beyond.is) refl
