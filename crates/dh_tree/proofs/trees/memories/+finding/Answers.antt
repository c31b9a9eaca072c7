use Rattle.std.proofs.Common.{refl, ap, ◌∙◌}
use Rattle.dh_tree.specs.Seen.{action_form_seen}
use Rattle.dh_tree.proofs.SeenActions.{let_memory_is}
use Rattle.dh_tree.proofs.Collecting.{memory_more}
use Rattle.dh_tree.proofs.trees.memories.+finding.Goals as goal

pub find_locals-returns-in_ok-push-in-LetMemory : goal.find_locals-returns-in_ok-push-in-LetMemory
find_locals-returns-in_ok-push-in-LetMemory t c =
    memory_more c.args.found.now.items c.push.new.self.items _ _ _ c.in_ok-push-in-LetMemory.ensures.items
    (ap action_form_seen c.in-LetMemory.is ∙ let_memory_is _ _ _ _) (rw (c.deref.ensures, c.deref-in-LetMemory.ensures, c.deref-in-LetMemory-2.ensures) refl)
