use Rattle.std.proofs.Common.{List, refl, ap, ◌∙◌}
use Rattle.indexmap.specs.IndexSet.{insert_all}
use Rattle.dh_events.specs.declared.classes.Key.{Key}
use Rattle.dh_events.specs.Classes.{is_same}
use Rattle.dh_events.proofs.PhasedKeys.{gathered, gathered_same, gathered_turned}
use Rattle.dh_events.proofs.classes.gather.Goals as goal

pub returns : goal.returns
returns c =
    let parts = c.args.parts.now in
    let all =
    c.in_ok-insert_keys-2.ensures
    ∙ (ap (λ (l : List Key). insert_all is_same c.insert_keys.new.known.keys l) c.as_slice-2.ensures.keys
    ∙ ap (λ (l : List Key). insert_all is_same l parts.known.keys)
    (c.in_ok-insert_keys.ensures ∙ (ap (λ (l : List Key). insert_all is_same c.new-all.result.keys l) c.as_slice.ensures.value ∙ ap (λ (l : List Key). insert_all is_same l parts.past.items) c.new-all.ensures.empty))) in
    let past1 = c.clear.new.self.items in
    let known1 = c.insert_keys-2.new.known.keys in
    record {
      same = gathered_same parts.past.items parts.known.keys parts.newest 4294967295 c.requires.phased refl past1 known1 c.clear.ensures.items all;
      phased = gathered parts.past.items parts.known.keys parts.newest 4294967295 c.requires.phased refl past1 known1 c.clear.ensures.items all;
      turned = gathered_turned parts.past.items parts.known.keys parts.newest 4294967295 c.requires.phased refl past1 known1 c.clear.ensures.items all;
    }
