-- Commands of a block one after the other: they suit, and form what they add.
use Rattle.std.proofs.Common.{◌≡◌, ℕ, ◌+◌, ◌-◌, ◌≤◌, List, [], ◌∷◌, length, Option, Some, ap, sym, ◌∙◌, subst, arith}
use Rattle.std.specs.List.{AllByRecursion}
use Rattle.dh_tree.specs.Memories.{table_of}
use Rattle.dh_tree.specs.Seen.{program_seen}
use Rattle.dh_meaning.specs.AccessNumbers.{accesses_of}
use Rattle.dh_meaning.specs.Phases.{Located}
use Rattle.dh_plan.specs.Correspondence.{Round}
use Rattle.dh_expressions.specs.declared.scenes.Around.{Around}
use Rattle.dh_expressions.specs.declared.scenes.Scene.{Scene}
use Rattle.dh_expressions.proofs.Pushing.{extends_again}
use Rattle.dh_formed.specs.Formed.{FormedBlock, BlockSite}
use Rattle.dh_formed.proofs.ValuesFormed.{agrees_before, forms_again, started_later}
use Rattle.dh_commands.specs.declared.buildings.Building.{Building}
use Rattle.dh_commands.specs.ShownVariables.{IsSeen}
use Rattle.dh_laid.specs.BareCommands.{AreRising}
use Rattle.dh_blocks.specs.NamedVariables.{IsNamedHere}
use Rattle.dh_laid.specs.BlockSites.{HasPlaces, MadeEach, block_sites, command_sites, site_or}
use Rattle.dh_laid.specs.LaidCommands.{CommandSuits, EachFew, EachSuits, FormsCommand}
use Rattle.dh_laid.proofs.CommandsLaid.{command_forms, still_forms}
use Rattle.dh_laid.proofs.CommandsNumbered.{command_reached}
use Rattle.dh_laid.proofs.PathsLaid.{round_later}
use Rattle.dh_laid.proofs.SitesLaid.{command_sites_long, places_own, places_past}
use Rattle.dh_laid.proofs.ValuesLogged.{logged_again, logged_ready}
use Rattle.dh_typed_laid.specs.FormedBlocks.{EachForms, MadeCommandsSuit}
use Rattle.dh_typed_laid.specs.SuitingBlocks.{FitsBlock, StandsSo}
use Rattle.dh_typed_laid.proofs.CommandsSuit.{command_suits, sound_reaches}

-- One behind the other.

again_forms : (scene : Scene) (around : Around) (old mid new : Building) (A B : FormedBlock → Type 0) → FormsCommand scene around old mid A → FormsCommand scene around mid new B → FormsCommand scene around old new (λ x. A x × B x)
again_forms scene around old mid new A B one rest = record {
  extends = extends_again old.draft mid.draft new.draft one.extends rest.extends;
  logs = λ ready. logged_again old.values mid.values new.values (one.logs ready) (rest.logs (logged_ready old.values mid.values (one.logs ready) ready));
  forms = λ x a s round noted h w.
      let f = one.forms x (agrees_before x mid.draft new.draft rest.extends a) s round noted h w.0 in
      let l = one.logs h.ready in
      let g =
      rest.forms x a (started_later x old.draft mid.draft one.extends s) (round_later x old.draft mid.draft scene around one.extends round) f.notes
      (record { held = f.held; ready = logged_ready old.values mid.values l h.ready; long = subst (λ (n : ℕ). n ≤ length x.plan.registers) (sym l.long) h.long }) w.1 in
      record { forms = forms_again x old.draft mid.draft new.draft rest.extends f.forms g.forms; notes = g.notes; held = g.held };
}

pub each_forms : EachForms
each_forms scene around [] old new m few = still_forms scene around old new m
each_forms scene around (c ∷ cs) old new (mid, (next, (m, rest))) few =
    again_forms scene around old mid new (λ x. CommandSuits x scene c.command around old mid c.first next m) (λ x. EachSuits x scene around cs mid new rest)
    (command_forms scene c.command around old mid c.first next m few.0) (each_forms scene around cs mid new rest few.1)

above : (a b i : ℕ) → a ≤ b → a ≤ b + i
above a b i l = omega (arith, l)

further : (a b k n : ℕ) → a ≤ b → b + k ≤ n → a ≤ n
further a b k n l m = omega (arith, l, m)

module _ (x : FormedBlock) (scene : Scene) (count : ℕ) (around : Around) (rounds : List Round) (stands : StandsSo x scene count around) where
  each_suits : (cs : List Located) (from : ℕ) (old new : Building) (m : MadeEach scene around cs old new) → ((number : ℕ) → from ≤ number → x.sites number ≡ block_sites scene around cs old new m number)
      → AllByRecursion (FitsBlock x scene around rounds) cs → AreRising from cs → EachFew scene around cs old new m × EachSuits x scene around cs old new m
  each_suits [] from old new m sites fits rising = (tt, tt)
  each_suits (c ∷ cs) from old new (mid, (next, (m, rest))) sites fits rising =
      let own : FitsBlock x scene around rounds c = fits.0 in
      let table = table_of (program_seen scene.program.now) in
      let reach = sound_reaches scene around.levels.now (table_of (program_seen scene.program.now)) (λ r k. IsNamedHere scene around.levels.now x.plan.registers rounds own.touched r k) (IsSeen scene around.levels.now) c.command own.sound in
      let reached = command_reached scene c.command around old mid c.first next m reach stands.some rising.1.0 in
      let size : length (command_sites scene c.command around old mid c.first next m) ≡ accesses_of c.command = command_sites_long scene c.command around old mid c.first next m reach in
      let places : HasPlaces x.sites c.first (command_sites scene c.command around old mid c.first next m) = λ i s e.
      sites (c.first + i) (above from c.first i rising.0)
      ∙ ap (λ (o : Option BlockSite). site_or o (block_sites scene around cs mid new rest (c.first + i))) (places_own c.first (command_sites scene c.command around old mid c.first next m) i (Some s) e) in
      let later : (number : ℕ) → c.first + accesses_of c.command ≤ number → x.sites number ≡ block_sites scene around cs mid new rest number = λ number l.
      sites number (further from c.first (accesses_of c.command) number rising.0 l)
      ∙ ap (λ (o : Option BlockSite). site_or o (block_sites scene around cs mid new rest number))
      (places_past c.first (command_sites scene c.command around old mid c.first next m) number (subst (λ (n : ℕ). c.first + n ≤ number) (sym size) l)) in
      let more = each_suits cs (c.first + accesses_of c.command) mid new rest later fits.1 rising.1.1 in (
        (reached.0, more.0),
        (command_suits x scene count rounds own.touched c.command around old mid c.first next m (IsSeen scene around.levels.now) (λ e s. s) stands own.sound own.typed rising.1.0 places, more.1),
      )

pub made_commands_suit : MadeCommandsSuit
made_commands_suit x scene count around rounds cs old new m sites stands fits rising =
    each_suits x scene count around rounds stands cs 0 old new m (λ number l. ap (λ (f : ℕ → Option BlockSite). f number) sites) fits rising
