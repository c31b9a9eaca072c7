-- The loops that put a block down: commands one after the other, and the flag of a test.
use Rattle.std.proofs.Common.{◌≡◌, ℕ, ◌+◌, ◌<◌, Bool, true, false, if◌then◌else◌, List, length, map, drop, get_or, None, refl, ap, sym, ◌∙◌, subst}
use Rattle.dh_base.proofs.ListItems.{at_item}
use Rattle.dh_value.specs.declared.operators.Op.TheVariants.{Both}
use Rattle.dh_value.specs.Operations.{binary_of}
use Rattle.dh_tree.specs.PlainTrees as tree
use Rattle.dh_tree.specs.Seen.{action_seen}
use Rattle.dh_phases.specs.declared.gathering.NumberedCommand.{NumberedCommand}
use Rattle.dh_phases.specs.GatheredPhases.{numbered_seen}
use Rattle.dh_plan.specs.declared.operations.OperationForm.TheVariants.{Compute, Set}
use Rattle.dh_expressions.specs.declared.drafts.Draft.{Draft}
use Rattle.dh_expressions.specs.declared.scenes.Around.{Around}
use Rattle.dh_expressions.specs.declared.scenes.Scene.{Scene}
use Rattle.dh_expressions.specs.Drafted.{Computes, Pushes, word_shown}
use Rattle.dh_expressions.specs.Shown.{is_read_term}
use Rattle.dh_expressions.proofs.Pushing.{extends_self}
use Rattle.dh_commands.specs.declared.buildings.Building.{Building}
use Rattle.dh_commands.specs.Done.{DoesCommand}
use Rattle.dh_commands.specs.MadeCommands.{MadeCommand}
use Rattle.dh_gathering.specs.MadeBlocks.{AddsFlag, PutsFlag, SetsTestFlag}
use Rattle.dh_gathering.specs.Gathered.{DoesNumbered}

module _ (scene : Scene) (around : Around) where
  -- whatever the commands do that are left, all do from the begin
  abbrev pub CommandsLead : (all left : List NumberedCommand) → (old here : Building) → Type 0
  CommandsLead all left old here = (new : Building) → DoesNumbered scene around (map numbered_seen left) here new → DoesNumbered scene around (map numbered_seen all) old new

  pub commands_turn : (all : List NumberedCommand) (i next : ℕ) (old here mid : Building) (c : NumberedCommand) → i < length all → c ≡ get_or all i c
      → DoesCommand scene around (action_seen c.command.now) c.first next here mid × MadeCommand scene (action_seen c.command.now) around here mid c.first next → CommandsLead all (drop i all) old here → CommandsLead all (drop (i + 1) all) old mid
  commands_turn all i next old here mid c within is does h new rest =
      h new (subst (λ (cs : List NumberedCommand). DoesNumbered scene around (map numbered_seen cs) here new) (sym (at_item all i c within is)) (mid, (next, (does, rest))))

-- the flag of a test that is a read
pub flag_of_read : (old mid new : Draft) (t : tree.Term) (value made number flag : ℕ) → is_read_term t ≡ true → Computes old mid made (λ x. binary_of Both (word_shown x value) (word_shown x value)) → Pushes mid new number None (Set flag made) → SetsTestFlag old new t value flag
flag_of_read old mid new t value made number flag reads h p = record {
  mid = mid;
  made = made;
  number = number;
  gives = record {
    extends = h.extends;
    is = λ x fits begun. h.is x fits begun ∙ sym (ap (λ (b : Bool). if b then binary_of Both (word_shown x value) (word_shown x value) else word_shown x value) reads);
    quiet = h.quiet;
  };
  set = p;
}

pub flag_of_value : (old new : Draft) (t : tree.Term) (value number flag : ℕ) → is_read_term t ≡ false → Pushes old new number None (Set flag value) → SetsTestFlag old new t value flag
flag_of_value old new t value number flag no_read p = record {
  mid = old;
  made = value;
  number = number;
  gives = record {
    extends = extends_self old;
    is = λ x fits begun. sym (ap (λ (b : Bool). if b then binary_of Both (word_shown x value) (word_shown x value) else word_shown x value) no_read);
    quiet = λ x fits begun. refl;
  };
  set = p;
}

-- as the code comes to it
pub flag_at_read : (old mid here new : Draft) (t : tree.Term) (value made given number flag : ℕ) → is_read_term t ≡ true → here ≡ mid → given ≡ made → Computes old mid made (λ x. binary_of Both (word_shown x value) (word_shown x value)) → Pushes old mid made None (Compute Both value value)
    → Pushes here new number None (Set flag given) → PutsFlag old new t value flag
flag_at_read old mid here new t value made given number flag reads draft value_is h pushed p =
    let set : Pushes mid new number None (Set flag made) = subst (λ (d : Draft). Pushes d new number None (Set flag made)) draft (subst (λ (n : ℕ). Pushes here new number None (Set flag n)) value_is p) in
    (flag_of_read old mid new t value made number flag reads h set, subst (λ (b : Bool). AddsFlag b old new value flag) (sym reads) (mid, (made, (number, (pushed, set)))))

pub flag_at_value : (old here new : Draft) (t : tree.Term) (value given number flag : ℕ) → is_read_term t ≡ false → here ≡ old → given ≡ value → Pushes here new number None (Set flag given) → PutsFlag old new t value flag
flag_at_value old here new t value given number flag no_read draft value_is p =
    let set : Pushes old new number None (Set flag value) = subst (λ (d : Draft). Pushes d new number None (Set flag value)) draft (subst (λ (n : ℕ). Pushes here new number None (Set flag n)) value_is p) in
    (flag_of_value old new t value number flag no_read set, subst (λ (b : Bool). AddsFlag b old new value flag) (sym no_read) (number, set))
