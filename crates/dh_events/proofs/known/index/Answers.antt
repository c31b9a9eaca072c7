use Rattle.std.proofs.Common.{ℕ, sym, subst, max}
use Rattle.std.specs.Prelude.{Option}
use Rattle.std.proofs.lemmas.Result.{IfOk-weaker}
use Rattle.dh_events.specs.declared.structures.Form.{Form}
use Rattle.dh_events.specs.declared.structures.MaybeKind.TheVariants as sort
use Rattle.dh_events.specs.Elements.{MakesFrom}
use Rattle.dh_events.specs.declared.known.Known.{Known}
use Rattle.dh_events.specs.Elements.{MakesIndex}
use Rattle.dh_events.proofs.IndexFacts.{first_index_made, next_index_made}
use Rattle.dh_events.proofs.known.index.Goals as goal

pub returns-in-Some : goal.returns-in-Some
returns-in-Some c =
    IfOk-weaker c.made.result _ _
    (λ k m. subst (λ (o : Option Known). MakesIndex c.args.structures.now c.made.new.structures o c.args.last k) (sym c.in-Some.is)
    (next_index_made c.args.structures.now c.made.new.structures c.in-Some.before c.args.last k
    (subst (λ (f : Option Form). MakesFrom c.args.structures.now c.made.new.structures sort.Unknown f (max c.in-Some.before.newest c.args.last.newest) k) c.index_behind.ensures
    (subst (λ (n : ℕ). MakesFrom c.args.structures.now c.made.new.structures sort.Unknown c.index_behind.result n k) c.max-newest.ensures m))))
    c.made.ensures

pub returns-in-None : goal.returns-in-None
returns-in-None c =
    IfOk-weaker c.made-in-None.result _ _
    (λ k m. subst (λ (o : Option Known). MakesIndex c.args.structures.now c.made-in-None.new.structures o c.args.last k) (sym c.in-None.is)
    (first_index_made c.args.structures.now c.made-in-None.new.structures c.args.last k
    (subst (λ (f : Option Form). MakesFrom c.args.structures.now c.made-in-None.new.structures sort.Unknown f c.args.last.newest k) c.first_index.ensures m)))
    c.made-in-None.ensures
