-- Commands that are sound and typed suit what was put down for them, where the sites of the block tell where their
-- accesses stand: by recursion on the command and on what was put down.
use Rattle.std.proofs.Common.{◌≡◌, ℕ, ◌+◌, ◌<◌, ◌^◌, Bool as Truth, true, false, suc, List, [], ◌∷◌, ◌++◌, length, Option, Some, None, ap, sym, ◌∙◌, subst, arith}
use Rattle.dh_value.specs.declared.kinds.Kind.{Kind}
use Rattle.dh_value.specs.Words.{IsKind}
use Rattle.dh_tree.specs.declared.tables.MemEntry.{MemEntry}
use Rattle.dh_tree.specs.declared.trees.expressions.Ref.{Ref}
use Rattle.dh_tree.specs.Indices.{form_of}
use Rattle.dh_tree.specs.Memories.{table_of}
use Rattle.dh_tree.specs.PlainTrees.{Term, term, number, truth_value, named, accessed, in_bank, applied, converted, Action, action, lets, lets_memory, views, assigns, stores, reduces, calls, blocks, decides, repeats, counts, MaybeAction, no_action, one_action, Actions, no_actions, action_then, Groups, no_groups, group_then, ViewPlan}
use Rattle.dh_tree.specs.Seen.{program_seen, terms}
use Rattle.dh_tree.specs.ViewOffsets.{offsets_of}
use Rattle.dh_meaning.specs.AccessNumbers.{accesses_of, groups_accesses, other_accesses, part_accesses, term_accesses, terms_accesses}
use Rattle.dh_meaning.specs.CoreOf.{Known, entity_number, kind_of, memory_of, way_of}
use Rattle.dh_meaning.specs.Effects.{kind_in}
use Rattle.dh_meaning.specs.Paths.{copies_in}
use Rattle.dh_meaning.specs.Ways.{Hidden, hidden_in}
use Rattle.dh_plan.specs.Correspondence.{Round}
use Rattle.dh_code.specs.Slots.{held_at}
use Rattle.dh_code.proofs.ValuesOfTerms.{sized_at}
use Rattle.dh_expressions.specs.declared.paths.Level.{Level}
use Rattle.dh_expressions.specs.declared.scenes.Around.{Around}
use Rattle.dh_expressions.specs.declared.scenes.Scene.{Scene}
use Rattle.dh_expressions.specs.Evaluated.{known_in}
use Rattle.dh_expressions.specs.Shown.{kind_written}
use Rattle.dh_formed.specs.Formed.{AreNumbers, FormedBlock, BlockSite, TermSuits, TermsSuit}
use Rattle.dh_commands.specs.declared.buildings.Building.{Building}
use Rattle.dh_commands.specs.declared.choices.Left.{Left}
use Rattle.dh_commands.specs.LanesRun.{lane_of, paths_counted}
use Rattle.dh_commands.specs.MadeCommands.{MadeActions, MadeCommand, MadeGroups, MadeOther}
use Rattle.dh_commands.specs.ShownVariables.{IsSeen, level_factors}
use Rattle.dh_blocks.specs.NamedVariables.{IsNamedHere}
use Rattle.dh_blocks.specs.PathsOfLevels.{AreSpread}
use Rattle.dh_blocks.specs.SoundCommands.{CanHold, CanKeep, CanKeepFrom, SoundAction, SoundGroups, SoundOther, SoundPart, kind_aimed}
use Rattle.dh_blocks.specs.SoundTerms.{IsSound, IsSoundTarget}
use Rattle.dh_laid.specs.BlockSites.{HasPlaces, HasSites, actions_sites, all_there, command_sites, groups_sites, other_sites, target_sites, term_sites, terms_sites, view_sites, write_site}
use Rattle.dh_laid.specs.Laid.{AimingSuits, KeptFits, StoringSuits}
use Rattle.dh_laid.specs.LaidCommands.{ActionsSuit, CommandSuits, GroupsSuit, KeepingSuits, OtherSuits, StoreSuits}
use Rattle.dh_laid.specs.LaidNumbers.{IsAccessForm, StoresReach, StoresReachGroups, StoresReachOther, StoresReachPart}
use Rattle.dh_laid.proofs.CommandsNumbered.{actions_reached, command_reached, tests_number}
use Rattle.dh_laid.proofs.SitesLaid.{actions_sites_long, command_sites_long, sites_behind, sites_front, sites_last, term_sites_long, terms_sites_long, test_places_long}
use Rattle.dh_laid.proofs.ValuesLogged.{arm_long, tests_same}
use Rattle.dh_typed_blocks.specs.TypedTerms.{ActionTyped, AreTyped, GroupsTyped, KeepsSized, KeptSized, IsTyped, OtherTyped, PartTyped}
use Rattle.dh_typed_laid.specs.SuitingBlocks.{StandsSo}
use Rattle.dh_typed_laid.proofs.NamesSuit.{fits_register, register_there}
use Rattle.dh_typed_laid.proofs.PlacesOfSites.{places_behind, places_front, places_there}
use Rattle.dh_typed_laid.proofs.ReducersSuit.{held_suits, reducer_suits}
use Rattle.dh_typed_laid.proofs.TermsSuit.{access_suits, banks_named, banks_of_row, many_indices, numbers, term_suits, terms_suit}
use Rattle.dh_typed_laid.proofs.WaysSuit.{way_suits}

-- What is sound stores into accesses.

module _ (scene : Scene) (levels : List Level) (table : List MemEntry) (Name : Ref → Kind → Type 0) where
  target_reaches : (target : Term) → IsSoundTarget (known_in scene) table Name target → IsAccessForm (form_of target)
  target_reaches (term place k (accessed r ts)) h = tt
  target_reaches (term place k (in_bank r bank at row)) h = tt
  target_reaches (term place k (number negative z)) h = absurd h
  target_reaches (term place k (truth_value b)) h = absurd h
  target_reaches (term place k (named r)) h = absurd h
  target_reaches (term place k (applied o left right)) h = absurd h
  target_reaches (term place k (converted inner to)) h = absurd h

  mutual
    pub sound_reaches : (Folds : ℕ → Type 0) (a : Action) → SoundAction scene levels table Name Folds a → StoresReach a
    sound_reaches Folds (action id place (lets name declared value)) s = tt
    sound_reaches Folds (action id place (lets_memory name shape shape_places value)) s = tt
    sound_reaches Folds (action id place (views name parent form)) s = tt
    sound_reaches Folds (action id place (assigns target value)) s = tt
    sound_reaches Folds (action id place (stores target value)) s = target_reaches target s.0.1
    sound_reaches Folds (action id place (reduces target o value)) s = tt
    sound_reaches Folds (action id place (calls function arguments)) s = tt
    sound_reaches Folds (action id place (blocks body)) s = groups_reach Folds body s
    sound_reaches Folds (action id place (decides test chosen other)) s = (sound_reaches (λ entity. ⊥) chosen s.1.0, other_reaches (λ entity. ⊥) other s.1.1)
    sound_reaches Folds (action id place (repeats test body)) s = tt
    sound_reaches Folds (action id place (counts iterator declared low high factor body combine combine_place)) s = tt

    other_reaches : (Folds : ℕ → Type 0) (m : MaybeAction) → SoundOther scene levels table Name Folds m → StoresReachOther m
    other_reaches Folds no_action s = tt
    other_reaches Folds (one_action a) s = sound_reaches Folds a s

    groups_reach : (Folds : ℕ → Type 0) (gs : Groups) → SoundGroups scene levels table Name Folds gs → StoresReachGroups gs
    groups_reach Folds no_groups s = tt
    groups_reach Folds (group_then part rest) s = (part_reaches Folds part s.0, groups_reach Folds rest s.1)

    part_reaches : (Folds : ℕ → Type 0) (part : Actions) → SoundPart scene levels table Name Folds part → StoresReachPart part
    part_reaches Folds no_actions s = tt
    part_reaches Folds (action_then a rest) s = (sound_reaches Folds a s.0, part_reaches Folds rest s.1)

module _ (x : FormedBlock) (scene : Scene) (count : ℕ) (rounds : List Round) (touched : ℕ → Truth) where
  abbrev known : Known
  known = known_in scene

  abbrev table : List MemEntry
  table = table_of (program_seen scene.program.now)

  -- what is sound in loops of these levels
  abbrev SoundIn : List Level → (Folds : ℕ → Type 0) → Action → Type 0
  SoundIn levels Folds a = SoundAction scene levels table (λ r k. IsNamedHere scene levels x.plan.registers rounds touched r k) Folds a

  abbrev SoundOtherIn : List Level → (Folds : ℕ → Type 0) → MaybeAction → Type 0
  SoundOtherIn levels Folds a = SoundOther scene levels table (λ r k. IsNamedHere scene levels x.plan.registers rounds touched r k) Folds a

  abbrev SoundGroupsIn : List Level → (Folds : ℕ → Type 0) → Groups → Type 0
  SoundGroupsIn levels Folds a = SoundGroups scene levels table (λ r k. IsNamedHere scene levels x.plan.registers rounds touched r k) Folds a

  abbrev SoundPartIn : List Level → (Folds : ℕ → Type 0) → Actions → Type 0
  SoundPartIn levels Folds a = SoundPart scene levels table (λ r k. IsNamedHere scene levels x.plan.registers rounds touched r k) Folds a

  -- what stands round an arm
  arm_stands : (around arm : Around) → arm.levels.now ≡ around.levels.now → paths_counted arm ≡ paths_counted around → StandsSo x scene count around → StandsSo x scene count arm
  arm_stands around arm levels long h = record {
    holds = h.holds;
    table = h.table;
    spread = subst (λ (ls : List Level). AreSpread ls) (sym levels) h.spread;
    counted = long ∙ (h.counted ∙ ap (λ (ls : List Level). copies_in (level_factors ls)) (sym levels));
    some = subst (λ (n : ℕ). 0 < n) (sym long) h.some;
    kinds = h.kinds;
    plain = h.plain;
    views = h.views;
    ways = h.ways;
    shares = h.shares;
  }

  behind : (first m n : ℕ) → m ≡ n → first + n ≡ first + m
  behind first m n e = ap (λ k. first + k) (sym e)

  -- a store
  module _ (around : Around) (stands : StandsSo x scene count around) where
    abbrev Name : Ref → Kind → Type 0
    Name r k = IsNamedHere scene around.levels.now x.plan.registers rounds touched r k

    same_kind_in : (memory : ℕ) → kind_in table memory ≡ kind_in x.plan.table memory
    same_kind_in memory = ap (λ (t : List MemEntry). kind_in t memory) (sym stands.holds.table)

    aims : (target t : Term) (first : ℕ) → IsSoundTarget known table Name target → IsTyped known table target → CanHold (kind_aimed known table target) t → HasSites x.sites first (target_sites scene around target) → (n : ℕ) → n < paths_counted around
        → AimingSuits x scene (lane_of around n) first (form_of target) × StoringSuits x scene (lane_of around n) first target t (form_of target)
    aims (term place k (accessed r ts)) t first s y c h n l =
        let memory : ℕ = memory_of (known_in scene) r in
        let at = sites_last x.sites first (first + terms_accesses ts) (terms_sites scene around ts) (write_site scene around (memory_of (known_in scene) r) place (accessed r ts)) (behind first (length (terms_sites scene around ts)) (terms_accesses ts) (terms_sites_long scene around ts)) h in (
          (
            (terms_suit x scene count around rounds touched stands ts first s.0.0 y.0 (sites_front x.sites first (terms_sites scene around ts) _ h) n l, numbers known table ts y.0),
            (many_indices x scene count around rounds touched stands r ts y.1.many, way_suits x scene count around rounds touched stands r s.0.1 n l),
          ),
          record {
            access = access_suits x scene count around rounds touched stands n memory (first + terms_accesses ts) place (accessed r ts) true at s.1 y.1.there (banks_named x scene count around rounds touched stands r ts place true n);
            holds = held_suits t (kind_in table memory) (sized_at table memory stands.table.entries y.1.there) c;
            same = same_kind_in memory;
          },
        )
    aims (term place k (in_bank r bank bank_place row)) t first s y c h n l =
        let memory : ℕ = memory_of (known_in scene) r in
        let at = sites_last x.sites first (first + term_accesses row) (term_sites scene around row) (write_site scene around (memory_of (known_in scene) r) place (in_bank r bank bank_place row)) (behind first (length (term_sites scene around row)) (term_accesses row) (term_sites_long scene around row)) h in (
          (term_suits x scene count around rounds touched stands row first s.0 y.0.0 (sites_front x.sites first (term_sites scene around row) _ h) n l, y.0.1),
          record {
            access = access_suits x scene count around rounds touched stands n memory (first + term_accesses row) place (in_bank r bank bank_place row) true at s.1.0 y.1.0 (banks_of_row x scene count around rounds touched stands r bank bank_place row place true n y.1.1);
            holds = held_suits t (kind_in table memory) (sized_at table memory stands.table.entries y.1.0) c;
            same = same_kind_in memory;
          },
        )
    aims (term place k (number negative z)) t first s y c h n l = absurd s
    aims (term place k (truth_value b)) t first s y c h n l = absurd s
    aims (term place k (named r)) t first s y c h n l = absurd s
    aims (term place k (applied o left right)) t first s y c h n l = absurd s
    aims (term place k (converted inner to)) t first s y c h n l = absurd s

    store_suits : (target t : Term) (first : ℕ) → (IsSound known table Name t × IsSoundTarget known table Name target) × CanHold (kind_aimed known table target) t → IsTyped known table t × IsTyped known table target
        → HasSites x.sites first (term_sites scene around t ++ target_sites scene around target) → StoreSuits x scene around first target t
    store_suits target t first s y h n l = (
      term_suits x scene count around rounds touched stands t first s.0.0 y.0 (sites_front x.sites first (term_sites scene around t) _ h) n l,
      aims target t (first + term_accesses t) s.0.1 y.1 s.1
          (sites_behind x.sites first (first + term_accesses t) (term_sites scene around t) (target_sites scene around target) (behind first (length (term_sites scene around t)) (term_accesses t) (term_sites_long scene around t)) h) n l,
    )

    -- a value that is assigned
    value_suits : (t : Term) (first : ℕ) → IsSound known table Name t → IsTyped known table t → HasPlaces x.sites first (all_there (term_sites scene around t)) → (n : ℕ) → n < paths_counted around → TermSuits x scene (lane_of around n) first t
    value_suits t first s y h n l = term_suits x scene count around rounds touched stands t first s y (places_there x.sites first (term_sites scene around t) h) n l

    -- offsets of a view, and the variables that keep them
    kept_fits : (depth first : ℕ) (os : List Term) → CanKeepFrom scene around.levels.now table Name depth first os → KeptSized known first os → (n : ℕ) → n < paths_counted around → KeptFits x scene (lane_of around n) first os
    kept_fits depth first [] s y n l = tt
    kept_fits depth first (o ∷ os) s y n l = (
      (held_suits o (held_at scene.held.now first).kind (subst IsKind (sym (stands.kinds first)) y.0) s.0.1.1, fits_register x scene count around stands first n s.0.0.seen l),
      kept_fits depth (suc first) os s.1 y.1 n l,
    )

    offsets_suit : (v : Hidden) (hs : List Hidden) (os : List Term) (first : ℕ) → CanKeep scene around.levels.now table Name (v ∷ hs) os → AreTyped known table (terms os) × KeepsSized known (v ∷ hs) os → HasSites x.sites first (terms_sites scene around (terms os))
        → (n : ℕ) → n < paths_counted around → (TermsSuit x scene (lane_of around n) first (terms os) × AreNumbers (terms os)) × KeptFits x scene (lane_of around n) v.entity os
    offsets_suit v hs [] first s y h n l = ((tt, tt), tt)
    offsets_suit v hs (o ∷ os) first s y h n l =
        ((terms_suit x scene count around rounds touched stands (terms (o ∷ os)) first s.0 y.0 h n l, numbers known table (terms (o ∷ os)) y.0), kept_fits v.depth v.entity (o ∷ os) s.1 y.1 n l)

    view_suits : (hs : List Hidden) (form : ViewPlan) (first : ℕ) → CanKeep scene around.levels.now table Name hs (offsets_of form) → AreTyped known table (terms (offsets_of form)) × KeepsSized known hs (offsets_of form)
        → HasPlaces x.sites first (view_sites scene around hs form) → KeepingSuits x scene around first hs (offsets_of form)
    view_suits [] form first s y h = tt
    view_suits (v ∷ hs) form first s y h = λ n l. offsets_suit v hs (offsets_of form) first s y (places_there x.sites first (terms_sites scene around (terms (offsets_of form))) h) n l

    sized_here : (r : Ref) → IsKind (kind_of known r) → IsKind (held_at scene.held.now (entity_number r.entity)).kind
    sized_here r h = subst IsKind (sym (stands.kinds (entity_number r.entity))) h

  mutual
    pub command_suits : (a : Action) (around : Around) (old new : Building) (first next : ℕ) (m : MadeCommand scene a around old new first next) (Folds : ℕ → Type 0) → ((e : ℕ) → Folds e → IsSeen scene around.levels.now e)
        → StandsSo x scene count around → SoundIn around.levels.now Folds a → ActionTyped known table a → first + accesses_of a < 2 ^ 32 → HasPlaces x.sites first (command_sites scene a around old new first next m) → CommandSuits x scene a around old new first next m
    command_suits (action id place (lets name declared (Some value))) around old new first next m Folds seen stands s y few h = λ n l. (
      (value_suits around stands value first s.0 y.0 h n l, held_suits value _ (sized_here around stands name y.1) s.1.1),
      fits_register x scene count around stands (entity_number name.entity) n s.1.0.seen l,
    )
    command_suits (action id place (lets name declared None)) around old new first next m Folds seen stands s y few h = λ n l. (s.1.sized, fits_register x scene count around stands (entity_number name.entity) n s.0.seen l)
    command_suits (action id place (assigns target value)) around old new first next m Folds seen stands s y few h = λ n l. (
      (value_suits around stands value first s.0 y.0 h n l, held_suits value _ (sized_here around stands target y.1) s.1.1),
      fits_register x scene count around stands (entity_number target.entity) n s.1.0.seen l,
    )
    command_suits (action id place (stores target value)) around old new first next m Folds seen stands s y few h =
        store_suits around stands target value first s y (places_there x.sites first (term_sites scene around value ++ target_sites scene around target) h)
    command_suits (action id place (reduces target o value)) around old new first next m Folds seen stands s y few h = λ n l. (
      (value_suits around stands value first s.0.0 y h n l, reducer_suits o _ (kind_written value) s.1.operator s.1.sized s.1.integer),
      (
        register_there x scene count around stands (entity_number target.entity) n (seen (entity_number target.entity) s.0.1) l,
        fits_register x scene count around stands (entity_number target.entity) n (seen (entity_number target.entity) s.0.1) l,
      ),
    )
    command_suits (action id place (decides test chosen other)) around old new first next m Folds seen stands s y few h =
        let less : first + term_accesses test < 2 ^ 32 = omega (arith, few) in
        let own : m.own ≡ first + term_accesses test = (tests_number scene around first test less (paths_counted around) old m.tested m.own m.tests stands.some m.test).next_is in
        let long : length m.tests ≡ paths_counted around = (tests_same scene around first test (paths_counted around) old m.tested m.own m.tests m.test).1 in
        let arm : paths_counted m.chosen.arm ≡ paths_counted around = arm_long true around.guards.now m.tests (length m.tests) m.tested.draft m.chosen.guarded m.chosen.arm.guards.now m.chosen.guards ∙ long in
        let inner = arm_stands around m.chosen.arm m.chosen.levels arm stands in
        let sound : SoundIn m.chosen.arm.levels.now (λ entity. ⊥) chosen = subst (λ (ls : List Level). SoundIn ls (λ entity. ⊥) chosen) (sym m.chosen.levels) s.1.0 in
        let reach = sound_reaches scene around.levels.now table (λ r k. IsNamedHere scene around.levels.now x.plan.registers rounds touched r k) (λ entity. ⊥) chosen s.1.0 in
        let fewer : m.own + accesses_of chosen < 2 ^ 32 = omega (arith, few, own) in
        let next_is = (command_reached scene chosen m.chosen.arm m.chosen.begin m.chosen.inside m.own m.behind m.chosen.command reach inner.some fewer).1.next_is in
        let size = command_sites_long scene chosen m.chosen.arm m.chosen.begin m.chosen.inside m.own m.behind m.chosen.command reach in
        let tests : List (Option BlockSite) = all_there (term_sites scene around test) in
        let firsts : List (Option BlockSite) = command_sites scene chosen m.chosen.arm m.chosen.begin m.chosen.inside m.own m.behind m.chosen.command in
        let others : List (Option BlockSite) = other_sites scene other around m.tests m.after_chosen m.after_other m.behind next m.other_left m.other in
        let inside : HasPlaces x.sites m.own (firsts ++ others) = places_behind x.sites first m.own tests (firsts ++ others) (own ∙ behind first (length tests) (term_accesses test) (test_places_long scene around test)) h in (
          (y.0.1, λ n l. value_suits around stands test first s.0 y.0.0 (places_front x.sites first tests (firsts ++ others) h) n l),
          (
            command_suits chosen m.chosen.arm m.chosen.begin m.chosen.inside m.own m.behind m.chosen.command (λ entity. ⊥) (λ e f. absurd f) inner sound y.1.0 fewer (places_front x.sites m.own firsts others inside),
            other_suits other around m.tests m.after_chosen m.after_other m.behind next m.other_left m.other (λ entity. ⊥) (λ e f. absurd f) long stands s.1.1 y.1.1 (omega (arith, few, own, next_is))
                (places_behind x.sites m.own m.behind firsts others (next_is ∙ behind m.own (length firsts) (accesses_of chosen) size) inside),
          ),
        )
    command_suits (action id place (blocks body)) around old new first next m Folds seen stands s y few h = groups_suit body around old new first next m Folds seen stands s y (omega (arith, few)) h
    command_suits (action id place (lets_memory name shape shape_places value)) around old new first next m Folds seen stands s y few h = tt
    command_suits (action id place (views name parent form)) around old new first next m Folds seen stands s y few h = view_suits around stands (hidden_in (way_of known name)) form first s y h
    command_suits (action id place (calls function arguments)) around old new first next m Folds seen stands s y few h = tt
    command_suits (action id place (repeats test body)) around old new first next m Folds seen stands s y few h = tt
    command_suits (action id place (counts iterator declared low high factor body combine combine_place)) around old new first next m Folds seen stands s y few h = tt

    other_suits : (other : MaybeAction) (around : Around) (tests : List ℕ) (old new : Building) (first next : ℕ) (lefts : List Left) (m : MadeOther scene other around tests old new first next lefts) (Folds : ℕ → Type 0) → ((e : ℕ) → Folds e → IsSeen scene around.levels.now e) → length tests ≡ paths_counted around
        → StandsSo x scene count around → SoundOtherIn around.levels.now Folds other → OtherTyped known table other → first + other_accesses other < 2 ^ 32 → HasPlaces x.sites first (other_sites scene other around tests old new first next lefts m)
        → OtherSuits x scene other around tests old new first next lefts m
    other_suits no_action around tests old new first next lefts m Folds seen long stands s y few h = tt
    other_suits (one_action a) around tests old new first next lefts m Folds seen long stands s y few h =
        let arm : paths_counted m.arm ≡ paths_counted around = arm_long false around.guards.now tests (length tests) old.draft m.guarded m.arm.guards.now m.guards ∙ long in
        let sound : SoundIn m.arm.levels.now Folds a = subst (λ (ls : List Level). SoundIn ls Folds a) (sym m.levels) s in
        let seen_inside : (e : ℕ) → Folds e → IsSeen scene m.arm.levels.now e = λ e f. subst (λ (ls : List Level). IsSeen scene ls e) (sym m.levels) (seen e f) in
        command_suits a m.arm m.begin m.inside first next m.command Folds seen_inside (arm_stands around m.arm m.levels arm stands) sound y few h

    actions_suit : (part : Actions) (around : Around) (old new : Building) (first next : ℕ) (m : MadeActions scene part around old new first next) (Folds : ℕ → Type 0) → ((e : ℕ) → Folds e → IsSeen scene around.levels.now e)
        → StandsSo x scene count around → SoundPartIn around.levels.now Folds part → PartTyped known table part → first + part_accesses part < 2 ^ 32 → HasPlaces x.sites first (actions_sites scene part around old new first next m)
        → ActionsSuit x scene part around old new first next m
    actions_suit no_actions around old new first next m Folds seen stands s y few h = tt
    actions_suit (action_then a rest) around old new first next m Folds seen stands s y few h =
        let reach = sound_reaches scene around.levels.now table (λ r k. IsNamedHere scene around.levels.now x.plan.registers rounds touched r k) Folds a s.0 in
        let fewer : first + accesses_of a < 2 ^ 32 = omega (arith, few) in
        let own = (command_reached scene a around old m.middle first m.own m.one reach stands.some fewer).1.next_is in
        let size = command_sites_long scene a around old m.middle first m.own m.one reach in
        let firsts : List (Option BlockSite) = command_sites scene a around old m.middle first m.own m.one in
        let others : List (Option BlockSite) = actions_sites scene rest around m.middle new m.own next m.rest in (
          command_suits a around old m.middle first m.own m.one Folds seen stands s.0 y.0 fewer (places_front x.sites first firsts others h),
          actions_suit rest around m.middle new m.own next m.rest Folds seen stands s.1 y.1 (omega (arith, few, own)) (places_behind x.sites first m.own firsts others (own ∙ behind first (length firsts) (accesses_of a) size) h),
        )

    groups_suit : (body : Groups) (around : Around) (old new : Building) (first next : ℕ) (m : MadeGroups scene body around old new first next) (Folds : ℕ → Type 0) → ((e : ℕ) → Folds e → IsSeen scene around.levels.now e)
        → StandsSo x scene count around → SoundGroupsIn around.levels.now Folds body → GroupsTyped known table body → first + groups_accesses body < 2 ^ 32 → HasPlaces x.sites first (groups_sites scene body around old new first next m)
        → GroupsSuit x scene body around old new first next m
    groups_suit no_groups around old new first next m Folds seen stands s y few h = tt
    groups_suit (group_then g rest) around old new first next m Folds seen stands s y few h =
        let reach = part_reaches scene around.levels.now table (λ r k. IsNamedHere scene around.levels.now x.plan.registers rounds touched r k) Folds g s.0 in
        let fewer : first + part_accesses g < 2 ^ 32 = omega (arith, few) in
        let own = (actions_reached scene g around old m.middle first m.own m.one reach stands.some fewer).1.next_is in
        let size = actions_sites_long scene g around old m.middle first m.own m.one reach in
        let firsts : List (Option BlockSite) = actions_sites scene g around old m.middle first m.own m.one in
        let others : List (Option BlockSite) = groups_sites scene rest around m.middle new m.own next m.rest in (
          actions_suit g around old m.middle first m.own m.one Folds seen stands s.0 y.0 fewer (places_front x.sites first firsts others h),
          groups_suit rest around m.middle new m.own next m.rest Folds seen stands s.1 y.1 (omega (arith, few, own)) (places_behind x.sites first m.own firsts others (own ∙ behind first (length firsts) (part_accesses g) size) h),
        )
