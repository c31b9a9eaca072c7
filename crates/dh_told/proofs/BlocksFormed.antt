-- Blocks that were made are formed: what was put down for commands or a test, and behind it the registers that are set.
use Rattle.std.proofs.Common.{◌≡◌, ℕ, zero, suc, ◌+◌, ◌<◌, ◌≤◌, Bool as Truth, true, false, List, [], ◌∷◌, ◌++◌, length, Option, Some, refl, ap, sym, ◌∙◌, subst, arith}
use Rattle.std.specs.Prelude.{slice_get}
use Rattle.std.specs.List.{AllByRecursion}
use Rattle.std.proofs.lemmas.Option.{slice_get_within}
use Rattle.dh_value.specs.declared.kinds.Kind.{Kind}
use Rattle.dh_value.specs.declared.kinds.Kind.TheVariants as kind
use Rattle.dh_value.specs.declared.operators.Op.TheVariants.{Both}
use Rattle.dh_value.specs.Operations.{AreTruths}
use Rattle.dh_tree.specs.Memories.{table_of}
use Rattle.dh_tree.specs.Seen.{program_seen}
use Rattle.dh_meaning.specs.Phases.{Located}
use Rattle.dh_plan.specs.declared.operations.Operation.{Operation}
use Rattle.dh_plan.specs.declared.operations.OperationForm.TheVariants.{Compute}
use Rattle.dh_plan.specs.Blocks.{kind_at}
use Rattle.dh_plan.specs.Correspondence.{Round}
use Rattle.dh_plan.specs.PlainPlans.{PlainPlan}
use Rattle.dh_expressions.specs.declared.drafts.Draft.{Draft}
use Rattle.dh_expressions.specs.declared.scenes.Scene.{Scene}
use Rattle.dh_expressions.specs.Drafted.{Extends}
use Rattle.dh_expressions.specs.Shown.{is_read_term}
use Rattle.dh_expressions.proofs.Pushing.{extends_again}
use Rattle.dh_formed.specs.Formed.{Agrees, FormedBlock, Forms, FormsValue, HasKind, IsFormedAt, BlockSite, Started, kind_in_block}
use Rattle.dh_formed.specs.WholeBlocks.{block_of}
use Rattle.dh_formed.proofs.BlocksWhole.{blocks_agree, blocks_are_formed}
use Rattle.dh_formed.proofs.CommandsFormed.{sets_form}
use Rattle.dh_formed.proofs.ValuesFormed.{agrees_before, forms_again, forms_pushed, started_later}
use Rattle.dh_commands.specs.declared.buildings.Building.{Building}
use Rattle.dh_commands.specs.LanesRun.{paths_counted}
use Rattle.dh_commands.specs.Undone.{given_at}
use Rattle.dh_blocks.specs.NamedVariables.{IsNamedHere}
use Rattle.dh_laid.specs.BlockSites.{HasSites, block_sites, sites_from, term_sites, test_sites}
use Rattle.dh_laid.specs.Laid.{FormsTested, FormsThere}
use Rattle.dh_laid.specs.LaidCommands.{EachFew, EachSuits, FormsCommand}
use Rattle.dh_laid.specs.LaidNumbers.{StoresReach}
use Rattle.dh_laid.proofs.PathsLaid.{tests_form}
use Rattle.dh_laid.proofs.SitesLaid.{sites_own}
use Rattle.dh_typed_laid.specs.SuitingBlocks.{FitsBlock}
use Rattle.dh_typed_laid.proofs.CommandsSuit.{sound_reaches}
use Rattle.dh_typed_laid.proofs.EachFormed.{each_forms, made_commands_suit}
use Rattle.dh_typed_laid.proofs.TermsSuit.{term_suits}
use Rattle.dh_gathering.specs.declared.blocks.Made.{Made}
use Rattle.dh_gathering.specs.Growing.{registers_given}
use Rattle.dh_gathering.specs.MadeBlocks.{AddsFlag, SetsGiven}
use Rattle.dh_gathering.specs.PushedSets.{setting, settings}
use Rattle.dh_told.specs.MadeFormed.{HasMadeRegisters, MadeStraightsAreFormed, MadeTestsAreFormed}
use Rattle.dh_told.proofs.BlocksBegin.{bare_sites, bare_test, held_begins, held_of, noted_begins, round_begins}
use Rattle.dh_told.proofs.BlocksUnread.{flag_extends, sets_extend}

-- Registers that are set.

setting_at : (P : ℕ × ℕ → Type 0) (sets : List (ℕ × ℕ)) (n : ℕ) (o : Operation) → slice_get (settings sets) n ≡ Some o → AllByRecursion P sets → (s : ℕ × ℕ) × ((o ≡ setting s) × P s)
setting_at P [] n o e h = absurd cc
setting_at P (s ∷ ss) zero o e h = let f : setting s ≡ o = cc in (s, (sym f, h.0))
setting_at P (s ∷ ss) (suc n) o e h = setting_at P ss n o e h.1

behind_at : (P : ℕ × ℕ → Type 0) (os : List Operation) (sets : List (ℕ × ℕ)) (n : ℕ) (o : Operation) → length os ≤ n → slice_get (os ++ settings sets) n ≡ Some o → AllByRecursion P sets → (s : ℕ × ℕ) × ((o ≡ setting s) × P s)
behind_at P [] sets n o far e h = setting_at P sets n o e h
behind_at P (p ∷ os) sets zero o far e h = absurd (none (length os) far)
  where
    none : (k : ℕ) → suc k ≤ 0 → ⊥
    none k l = omega (arith, l)
behind_at P (p ∷ os) sets (suc n) o far e h = behind_at P os sets n o (omega (arith, far)) e h

-- a register is set behind what was put down to a value of its kind
set_formed : (x : FormedBlock) (d : Draft) (n register value : ℕ) (o : Operation) → o ≡ setting (register, value) → length d.operations.items ≤ n → register < length x.plan.registers → HasKind x d (kind_at x.plan.registers register) value → IsFormedAt x n o
set_formed x d n register value o is far there h =
    subst (λ (p : Operation). IsFormedAt x n p) (sym is)
    (record { takes = ((h.from, below value (length d.operations.items) n h.below far), tt); suits = record { guard = tt; form = (there, h.kind_is) } })
  where
    below : (a b c : ℕ) → a < b → b ≤ c → a < c
    below a b c l m = omega (arith, l, m)

sets_formed : (x : FormedBlock) (old new : Building) (s : SetsGiven old new) → length old.values.current.items ≤ length x.plan.registers
    → ((register value : ℕ) → slice_get old.values.current.items register ≡ Some (Some value) → HasKind x old.draft (kind_at x.plan.registers register) value) → Forms x old.draft new.draft
sets_formed x old new s within held = record { each = each }
  where
    less : (a b c : ℕ) → a < b → b ≤ c → a < c
    less a b c l m = omega (arith, l, m)

    each : (n : ℕ) (o : Operation) → length old.draft.operations.items ≤ n → slice_get new.draft.operations.items n ≡ Some o → IsFormedAt x n o
    each n o far at =
        let w = behind_at (λ t. given_at old.values.current.items t.0 ≡ Some t.1) old.draft.operations.items s.sets n o far (ap (λ (os : List Operation). slice_get os n) (sym s.operations) ∙ at) s.given in
        let there = held_of old.values.current.items w.0.0 w.0.1 w.1.1 in
        set_formed x old.draft n w.0.0 w.0.1 o w.1.0 far
        (less w.0.0 (length old.values.current.items) (length x.plan.registers) (slice_get_within old.values.current.items w.0.0 (Some w.0.1) there) within)
        (held w.0.0 w.0.1 there)

-- Straight commands.

pub registers_within : (plan : PlainPlan) (final : Made) (n : ℕ) → HasMadeRegisters plan final → n ≡ registers_given final → n ≤ length plan.registers
registers_within plan final n h e = let l = h.given in let r = ap (λ (ks : List Kind). length ks) h.registers in omega (arith, l, r, e)

pub all_reach : (x : FormedBlock) (scene : Scene) (rounds : List Round) (around : _) (cs : List Located) → AllByRecursion (FitsBlock x scene around rounds) cs → AllByRecursion (λ (c : Located). StoresReach c.command) cs
all_reach x scene rounds around [] h = tt
all_reach x scene rounds around (c ∷ cs) h =
    (sound_reaches scene around.levels.now (table_of (program_seen scene.program.now)) (λ r k. IsNamedHere scene around.levels.now x.plan.registers rounds (h.0).touched r k) _ c.command (h.0).sound, all_reach x scene rounds around cs h.1)

pub made_straights_are_formed : MadeStraightsAreFormed
made_straights_are_formed scene plan count final rounds ls block m cut has stands fits =
    blocks_are_formed plan block (block_sites scene m.around ls m.before m.between m.made) m.before.draft m.after.draft cut (forms_again (block_of plan block (block_sites scene m.around ls m.before m.between m.made)) m.before.draft m.between.draft m.after.draft ends there.forms (sets_formed (block_of plan block (block_sites scene m.around ls m.before m.between m.made)) m.between m.after m.sets within there.held.current))
  where
    agrees : Agrees (block_of plan block (block_sites scene m.around ls m.before m.between m.made)) m.after.draft × Started (block_of plan block (block_sites scene m.around ls m.before m.between m.made)) m.before.draft
    agrees = blocks_agree plan block (block_sites scene m.around ls m.before m.between m.made) m.before.draft m.after.draft cut

    ends : Extends m.between.draft m.after.draft
    ends = sets_extend m.between m.after m.sets

    suits : EachFew scene m.around ls m.before m.between m.made × EachSuits (block_of plan block (block_sites scene m.around ls m.before m.between m.made)) scene m.around ls m.before m.between m.made
    suits = made_commands_suit (block_of plan block (block_sites scene m.around ls m.before m.between m.made)) scene count m.around rounds ls m.before m.between m.made refl stands fits m.rising

    forms : FormsCommand scene m.around m.before m.between (λ y. EachSuits y scene m.around ls m.before m.between m.made)
    forms = each_forms scene m.around ls m.before m.between m.made suits.0

    begin_within : length m.before.values.current.items ≤ length plan.registers
    begin_within = registers_within plan final _ has m.stands.variables

    there : FormsThere (block_of plan block (block_sites scene m.around ls m.before m.between m.made)) m.before m.between
    there =
        forms.forms (block_of plan block (block_sites scene m.around ls m.before m.between m.made)) (agrees_before _ m.between.draft m.after.draft ends agrees.0) agrees.1
        (round_begins _ m.before.draft scene m.around m.round.paths m.round.guards m.stands_in)
        (noted_begins _ m.before.draft m.before.accesses (bare_sites scene m.around ls m.before m.between m.made m.before.accesses (all_reach _ scene rounds m.around ls fits) m.bare) m.counts)
        (held_begins _ m.before.draft m.before.values m.stands.clear begin_within) suits.1

    within : length m.between.values.current.items ≤ length plan.registers
    within = subst (λ (n : ℕ). n ≤ length plan.registers) (sym (forms.logs m.stands.clear.ready).long) begin_within

-- Tests.

-- a truth twice
two_truths : (y : FormedBlock) (v : ℕ) → kind_in_block y v ≡ kind.Bool → AreTruths (kind_in_block y v) (kind_in_block y v)
two_truths y v e = subst (λ (k : Kind). AreTruths k k) (sym e) tt

-- the operations of a flag take the test, which is a truth
flag_formed : (read : Truth) (x : FormedBlock) (old new : Draft) (value flag : ℕ) → AddsFlag read old new value flag → Agrees x new → Started x old → flag < length x.plan.registers → kind_at x.plan.registers flag ≡ kind.Bool → HasKind x old kind.Bool value
    → Extends old new × Forms x old new
flag_formed true x old new value flag (mid, (made, (number, (computes, sets)))) a s there is h =
    let set = sets_form mid new number flag made sets in
    let both : FormsValue old mid made (λ y. HasKind y old kind.Bool value) (λ y. kind.Bool) = forms_pushed old mid made (Compute Both value value) (λ y. HasKind y old kind.Bool value) (λ y. kind.Bool) computes
    (λ y w. record { takes = ((w.from, w.below), ((w.from, w.below), tt)); suits = record { guard = tt; form = two_truths y value w.kind_is } }) (λ y w. refl) in
    let before = agrees_before x mid new set.extends a in
    let gives = both.gives x before s h in (
      extends_again old mid new both.extends set.extends,
      forms_again x old mid new set.extends (both.forms x before s h) (set.forms x a (started_later x old mid both.extends s) there (subst (λ (k : Kind). HasKind x mid k made) (sym is) gives)),
    )
flag_formed false x old new value flag (number, sets) a s there is h =
    let set = sets_form old new number flag value sets in
    (set.extends, set.forms x a s there (subst (λ (k : Kind). HasKind x old k value) (sym is) h))

-- the kind of a register that is there
slice_bool : (kinds : List Kind) (n : ℕ) (k : Kind) → slice_get kinds n ≡ Some k → (n < length kinds) × (kind_at kinds n ≡ k)
slice_bool [] n k e = absurd cc
slice_bool (j ∷ kinds) zero k e = (omega arith, cc)
slice_bool (j ∷ kinds) (suc n) k e = let w = slice_bool kinds n k e in (let l = w.0 in omega (arith, l), w.1)

-- sites of a test
pub test_has : (sites : ℕ → Option BlockSite) (first : ℕ) (ss : List BlockSite) → ((number : ℕ) → sites number ≡ sites_from first ss number) → HasSites sites first ss
test_has sites first ss same i s e = same (first + i) ∙ sites_own first ss i s e

pub made_tests_are_formed : MadeTestsAreFormed
made_tests_are_formed scene plan count final rounds touched n t flag block m cut has stands sound typed bool =
    blocks_are_formed plan block (test_sites scene m.around n t) m.before.draft m.after.draft cut (forms_again (block_of plan block (test_sites scene m.around n t)) m.before.draft m.between.draft m.after.draft flagged.0 there.there.forms flagged.1)
  where
    agrees : Agrees (block_of plan block (test_sites scene m.around n t)) m.after.draft × Started (block_of plan block (test_sites scene m.around n t)) m.before.draft
    agrees = blocks_agree plan block (test_sites scene m.around n t) m.before.draft m.after.draft cut

    own_flag : (flag < length plan.registers) × (kind_at plan.registers flag ≡ kind.Bool)
    own_flag = slice_bool plan.registers flag kind.Bool (ap (λ (ks : List Kind). slice_get ks flag) has.registers ∙ m.is_flag.truth)

    ends : Extends m.between.draft m.after.draft
    ends = flag_extends (is_read_term t) m.between.draft m.after.draft m.value flag m.adds

    begin_within : length m.before.values.current.items ≤ length plan.registers
    begin_within = registers_within plan final _ has m.stands.variables

    there : FormsTested (block_of plan block (test_sites scene m.around n t)) m.before m.between m.tests
    there =
        (tests_form scene m.around n t (paths_counted m.around) m.before m.between m.next m.tests m.few bool (omega arith) m.made).forms (block_of plan block (test_sites scene m.around n t)) (agrees_before _ m.between.draft m.after.draft ends agrees.0) agrees.1
        (round_begins _ m.before.draft scene m.around m.round.paths m.round.guards m.stands_in)
        (noted_begins _ m.before.draft m.before.accesses (bare_test scene m.around n t m.before.accesses m.bare) m.counts)
        (held_begins _ m.before.draft m.before.values m.stands.clear begin_within).held
        (λ i l. term_suits (block_of plan block (test_sites scene m.around n t)) scene count m.around rounds touched stands t n sound typed (test_has (test_sites scene m.around n t) n (term_sites scene m.around t) (λ number. refl)) i l)

    flagged : Extends m.between.draft m.after.draft × Forms (block_of plan block (test_sites scene m.around n t)) m.between.draft m.after.draft
    flagged =
        flag_formed (is_read_term t) (block_of plan block (test_sites scene m.around n t)) m.between.draft m.after.draft m.value flag m.adds agrees.0
        (started_later (block_of plan block (test_sites scene m.around n t)) m.before.draft m.between.draft (tests_form scene m.around n t (paths_counted m.around) m.before m.between m.next m.tests m.few bool (omega arith) m.made).extends agrees.1)
        own_flag.0 own_flag.1 (there.truths 0 m.value m.first)
