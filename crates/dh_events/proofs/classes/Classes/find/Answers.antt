use Rattle.std.proofs.Common.{◌+◌, List, ap, sym, ◌∙◌, subst}
use Rattle.std.specs.Prelude.{Some, None}
use Rattle.dh_events.specs.declared.classes.Key.{Key}
use Rattle.dh_events.specs.Classes.{FindsKeyNumber}
use Rattle.dh_events.proofs.KeyFacts.{finds, own_key, same_key}
use Rattle.dh_events.proofs.PhasedKeys.{found_known, found_past}
use Rattle.dh_events.proofs.classes.Classes.find.Goals as goal

pub returns-in-Some : goal.returns-in-Some
returns-in-Some c =
    let parts = c.self.inside.parts in
    let n = c.len-in-Some.result + c.in-Some.place in
    subst (λ (l : List Key). FindsKeyNumber l c.args.key (Some n)) c.self.view_is
    (found_known parts.past.items parts.known.keys c.args.key c.in-Some.place n (ap (λ m. m + c.in-Some.place) (c.len-in-Some.ensures ∙ parts.past.ok.0))
    (finds _ own_key same_key parts.known.keys c.args.key (Some c.in-Some.place) (sym c.in-Some.is ∙ c.get_index_of.ensures.index)))

pub returns-in-None : goal.returns-in-None
returns-in-None c =
    let parts = c.self.inside.parts in
    let r = c.find_past.result in
    subst (λ (l : List Key). FindsKeyNumber l c.args.key r) c.self.view_is
    (found_past parts.past.items parts.known.keys c.args.key r (finds _ own_key same_key parts.known.keys c.args.key None (sym c.in-None.is ∙ c.get_index_of.ensures.index))
    (subst (λ (l : List Key). FindsKeyNumber l c.args.key r) c.as_slice.ensures.value c.find_past.ensures))
