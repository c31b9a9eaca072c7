-- What is put down for a store at a path: the reads of its value and of the indices of its target, and then its write.
use Rattle.std.proofs.Common.{◌≡◌, ℕ, ◌+◌, ◌^◌, ◌<◌, Some, None, sym, ap, ◌∙◌, subst, arith}
use Rattle.std.specs.Prelude.{true, List, ◌++◌, Option}
use Rattle.dh_base.specs.declared.places.Place.{Place}
use Rattle.dh_value.specs.declared.kinds.Kind.{Kind}
use Rattle.dh_tree.specs.declared.trees.expressions.Ref.{Ref}
use Rattle.dh_tree.specs.Indices.{form_of}
use Rattle.dh_tree.specs.Memories.{table_of}
use Rattle.dh_tree.specs.PlainTrees as plain
use Rattle.dh_tree.specs.PlainTrees.{Term}
use Rattle.dh_tree.specs.Seen.{program_seen}
use Rattle.dh_meaning.specs.AccessNumbers.{form_accesses, term_accesses, terms_accesses}
use Rattle.dh_meaning.specs.CoreOf.{memory_of, way_of}
use Rattle.dh_meaning.specs.Ways.{Way}
use Rattle.dh_expressions.specs.declared.accesses.Accesses.{Accesses}
use Rattle.dh_expressions.specs.declared.drafts.Draft.{Draft}
use Rattle.dh_expressions.specs.declared.elements.Aim.{Aim}
use Rattle.dh_expressions.specs.declared.scenes.Around.{Around}
use Rattle.dh_expressions.specs.declared.scenes.Lane.{Lane}
use Rattle.dh_expressions.specs.declared.scenes.Scene.{Scene}
use Rattle.dh_plan.specs.declared.operations.Reach.{Reach}
use Rattle.dh_expressions.specs.Drafted.{BlockBegun, Extends, FitsStep, BlockStep}
use Rattle.dh_expressions.specs.Evaluated.{known_in}
use Rattle.dh_expressions.specs.MadeTerms.{MadeTerm, MadeTerms}
use Rattle.dh_expressions.specs.Named.{first_view}
use Rattle.dh_expressions.specs.Reaching.{place_written}
use Rattle.dh_expressions.specs.Standings.{standing_at}
use Rattle.dh_expressions.proofs.Pushing.{begun_later, extends_again, fits_before}
use Rattle.dh_formed.specs.Counted.{AreNext, HaveGiven, given_at_paths}
use Rattle.dh_formed.specs.Formed.{BlockSite}
use Rattle.dh_formed.proofs.TermsCounted.{next_first, next_second}
use Rattle.dh_formed.proofs.TermsFormed.{all_numbered, numbered, way_part}
use Rattle.dh_formed.proofs.ValuesFormed.{held_forms}
use Rattle.dh_commands.specs.declared.buildings.Building.{Building}
use Rattle.dh_commands.specs.LanesRun.{lane_of, paths_counted}
use Rattle.dh_commands.specs.MadeCommands.{MadeAim, MadeStored, MadeStoring}
use Rattle.dh_laid.specs.BlockSites.{target_sites, term_sites, terms_sites, write_site}
use Rattle.dh_laid.specs.Laid.{aim_accesses}
use Rattle.dh_laid.specs.LaidNumbers.{IsAccessForm}
use Rattle.dh_laid.proofs.AccessesLaid.{aim_lays, storing_lays, term_lays, terms_lay}
use Rattle.dh_reached.specs.IndicesKept.{FormKeeps, TermKeeps}
use Rattle.dh_reached.specs.Puts.{AreSitedAccesses, OperationAtPath, PutsAt}
use Rattle.dh_reached.proofs.LanesPut.{LaneDone, held_none}
use Rattle.dh_reached.proofs.NoUses.{at_then, behind_none, puts_wider}
use Rattle.dh_reached.specs.ReachedBlocks.{StandsSpread}
use Rattle.dh_reached.proofs.LedUses.{IsLed}
use Rattle.dh_reached.proofs.ReadsPut.{AtLane, PutsHere, ReachesAt, write_given, write_puts}
use Rattle.dh_reached.proofs.Stays.{Stays}
use Rattle.dh_reached.proofs.WaysReach as ways_reach
use Rattle.dh_reached.proofs.TermsPut.{Done, SitesAt, all_sites_long, all_ways_long, done_before, done_then, site_one, sites_back, sites_front, sites_long, target_ways, term_done, term_ways, terms_done, terms_ways, way_none, ways_long}

-- the number behind so many reads
abbrev pub IsLast : (first reads i : ℕ) → Type 0
IsLast first reads i = i ≡ first + reads

module _ (x : BlockStep) (sites : ℕ → Option BlockSite) (scene : Scene) (table : x.start.table ≡ table_of (program_seen scene.program.now)) (IsRead : ℕ → Type 0) (paths : ℕ)
    (ways : ℕ → Option (Option Way)) (start : List (Option ℕ)) (Sets : ℕ → Type 0) (around : Around) (stands : StandsSpread scene around) (n : ℕ) (within : n < paths_counted around) where
  abbrev lane : Lane
  lane = lane_of around n

  abbrev Led : OperationAtPath → Reach → Type 0
  Led = IsLed x scene around start sites ways

  abbrev At : OperationAtPath → Reach → Type 0
  At = AtLane x sites scene (lane_of around n) stands within Led

  abbrev DoneHere : (first count : ℕ) → (old new : Draft) → (before after : Accesses) → Type 0
  DoneHere first count old new before after = Done x sites scene (lane_of around n) stands within table ways start first count old new before after

  -- the write behind the reads of a store
  module _ (target t : Term) (memory value : ℕ) (aim : Aim) (old end : Draft) (before behind : Accesses) (new : Building) (next : ℕ) (first reads : ℕ) (own : aim.number ≡ first + reads)
      (h : DoneHere first reads old end before behind) (m : MadeStoring scene (lane_of around n) target t value (Some (aim, memory)) end behind new next) (f : FitsStep x new.draft) (b : BlockBegun x end)
      (site : sites (first + reads) ≡ Some (record { memory = memory; standing = standing_at scene around memory (place_written target) (form_of target) true }))
      (reaches : ReachesAt x sites scene (lane_of around n) stands within Led memory aim (standing_at scene around memory (place_written target) (form_of target) true)) where
    held : Extends end m.0
    held = (held_forms t _ value end m.0 m.1.0 m.1.1.0).extends

    own_site : sites aim.number ≡ Some (record { memory = memory; standing = standing_at scene around memory (place_written target) (form_of target) true })
    own_site = ap sites own ∙ site

    written : PutsHere x sites scene (lane_of around n) stands within Led aim.number 1 (λ i. i ≡ aim.number) m.0 new.draft behind new.accesses
    written = write_puts x sites scene (lane_of around n) stands within Led target memory aim own_site reaches m.0 new.draft behind new.accesses m.1.0 m.1.1.1.0 f (begun_later end m.0 x held b) h.here.sited

    last_put : PutsAt x sites (first + reads) 1 At (IsLast first reads) end new.draft
    last_put =
        behind_none x sites (first + reads) 1 At (IsLast first reads) end m.0 new.draft (held_none t _ value end m.0 m.1.0 m.1.1.0)
        (subst (λ (i : ℕ). PutsAt x sites i 1 At (λ j. j ≡ i) m.0 new.draft) own written.puts)

    wider : (i : ℕ) → ⊥ → IsLast first reads i
    wider i none = absurd none

    stored_puts : PutsAt x sites first (reads + 1) At (IsLast first reads) old new.draft
    stored_puts =
        at_then x sites first reads 1 At (IsLast first reads) old end new.draft
        (puts_wider x sites first reads At (IsLast first reads) first reads (λ i. ⊥) old end (omega arith) (omega arith) wider h.here.puts) last_put

    stored_given : HaveGiven (lane_of around n) before new.accesses first reads
    stored_given = record {
      own = λ k from below. gives k ∙ h.given.own k from below;
      before_them = λ k less. gives k ∙ h.given.before_them k less;
      behind_them = λ k more. gives k ∙ h.given.behind_them k more;
    }
      where
        gives : (k : ℕ) → given_at_paths new.accesses k ≡ given_at_paths behind k
        gives k = write_given x sites scene (lane_of around n) stands within Led target memory aim own_site reaches m.0 new.draft behind new.accesses m.1.0 m.1.1.1.0 f (begun_later end m.0 x held b) h.here.sited k

  -- One path.

  module _ (t : Term) (first : ℕ) (b d : Building) (place : Place) (j : Option Kind) (stays : Stays scene around Sets start b.values.current.items) (kept : Stays scene around Sets b.values.current.items d.values.current.items) where
    abbrev Stores : plain.TermForm → Option (Aim × ℕ) → Type 0
    Stores form aimed =
        (middle end : Draft) (between behind : Accesses) (own value k : ℕ) → own ≡ first + term_accesses t → DoneHere first (term_accesses t) b.draft middle b.accesses between → BlockBegun x middle
        → MadeAim scene (lane_of around n) b.values.current.items form middle end between behind own aimed → MadeStoring scene (lane_of around n) (plain.term place j form) t value aimed end behind d k
        → first + (term_accesses t + form_accesses form) < 2 ^ 32 → SitesAt sites (first + term_accesses t) (target_sites scene around (plain.term place j form)) → SitesAt ways (first + term_accesses t) (target_ways scene (plain.term place j form)) → FormKeeps x scene around.levels.now Sets form → FitsStep x d.draft
        → AreNext scene (lane_of around n) between (first + term_accesses t) (aim_accesses form)
        → LaneDone x sites scene table IsRead paths ways start Sets around n first (term_accesses t + aim_accesses form + 1) (term_accesses t + aim_accesses form) (IsLast first (term_accesses t + aim_accesses form)) b d

    by_indices : (r : Ref) (ts : plain.Terms) (aim : Aim) (memory : ℕ) → Stores (plain.accessed r ts) (Some (aim, memory))
    by_indices r ts aim memory middle end between behind own value k is front s aims m few at wat keeps f next =
        let small : first + term_accesses t + terms_accesses ts < 2 ^ 32 = omega (arith, few) in
        let made = subst (λ (i : ℕ). MadeTerms scene (lane_of around n) b.values.current.items ts middle aims.0.middle between behind i aim.number aim.indices) is aims.0.indices in
        let number : aim.number ≡ first + term_accesses t + terms_accesses ts = all_numbered scene (lane_of around n) b.values.current.items ts middle aims.0.middle between behind (first + term_accesses t) aim.number aim.indices made small in
        let own_is : aim.number ≡ first + (term_accesses t + terms_accesses ts) = number ∙ omega arith in
        let last = (storing_lays scene (lane_of around n) stands.stands (plain.term place j (plain.accessed r ts)) t value (Some (aim, memory)) end behind d k m).extends in
        let fe = fits_before end d.draft x last f in
        let way = (way_part scene (lane_of around n) b.values.current.items (way_of (known_in scene) r) (memory_of (known_in scene) r) (first_view scene r) aims.0.middle end behind aim.steps aims.0.steps).extends in
        let fn = fits_before aims.0.middle end x way fe in
        let second = (terms_lay scene (lane_of around n) stands.stands b.values.current.items ts middle aims.0.middle between behind (first + term_accesses t) aim.number aim.indices made).extends in
        let bn = begun_later middle aims.0.middle x second s in
        let reads : DoneHere first (term_accesses t + terms_accesses ts) b.draft end b.accesses behind =
        done_then x sites scene (lane_of around n) stands within table ways start first (term_accesses t) (terms_accesses ts) b.draft middle end b.accesses between behind front
        (done_before x sites scene (lane_of around n) stands within table ways start (first + term_accesses t) (terms_accesses ts) middle aims.0.middle end between behind
        (terms_done x sites scene (lane_of around n) stands within table ways start b.values.current.items Sets stays ts middle aims.0.middle between behind (first + term_accesses t) aim.number aim.indices made small
        (sites_front sites (first + term_accesses t) (terms_sites scene around ts) _ at) (sites_front ways (first + term_accesses t) (terms_ways scene ts) _ wat) keeps.0 fn s front.here.sited next)
        (way_none scene (lane_of around n) b.values.current.items (way_of (known_in scene) r) (first_view scene r) aims.0.middle end aim.steps aims.0.steps)) in
        let site : sites (first + (term_accesses t + terms_accesses ts)) ≡ Some (write_site scene around (memory_of (known_in scene) r) place (plain.accessed r ts)) =
        ap sites (let e : first + (term_accesses t + terms_accesses ts) ≡ first + term_accesses t + terms_accesses ts = omega arith in e)
        ∙ site_one sites (first + term_accesses t + terms_accesses ts) _ (sites_back sites (first + term_accesses t) (terms_accesses ts) (terms_sites scene around ts) _ (all_sites_long scene around ts) at) in
        let own_way = site_one ways (first + term_accesses t + terms_accesses ts) _ (sites_back ways (first + term_accesses t) (terms_accesses ts) (terms_ways scene ts) _ (all_ways_long scene ts) wat) in
        let site_now : sites (first + (term_accesses t + terms_accesses ts)) ≡ Some (write_site scene around memory place (plain.accessed r ts)) = subst (λ (i : ℕ). sites (first + (term_accesses t + terms_accesses ts)) ≡ Some (write_site scene around i place (plain.accessed r ts))) (sym aims.1) site in
        let reaches : ReachesAt x sites scene (lane_of around n) stands within Led memory aim (standing_at scene around memory place (plain.accessed r ts) true) =
        subst (λ (i : ℕ). ReachesAt x sites scene (lane_of around n) stands within Led i aim (standing_at scene around i place (plain.accessed r ts) true)) (sym aims.1)
        (ways_reach.by_indices x sites scene (lane_of around n) stands within table ways start b.values.current.items Sets stays r ts aim middle aims.0.middle end between behind (first + term_accesses t) made aims.0.row aims.0.steps keeps.1.0 keeps.1.1 fn s fe bn place true
        (ap sites own_is ∙ site) (ap ways number ∙ own_way)) in
        let bs = begun_later aims.0.middle end x way bn in
        record {
          puts = stored_puts (plain.term place j (plain.accessed r ts)) t memory value aim b.draft end b.accesses behind d k first (term_accesses t + terms_accesses ts) own_is reads m f bs site_now reaches;
          sited = (written (plain.term place j (plain.accessed r ts)) t memory value aim b.draft end b.accesses behind d k first (term_accesses t + terms_accesses ts) own_is reads m f bs site_now reaches).sited;
          given = stored_given (plain.term place j (plain.accessed r ts)) t memory value aim b.draft end b.accesses behind d k first (term_accesses t + terms_accesses ts) own_is reads m f bs site_now reaches;
          kept = kept;
        }

    by_row : (r : Ref) (bank : ℕ) (to : Place) (row : plain.Term) (aim : Aim) (memory : ℕ) → Stores (plain.in_bank r bank to row) (Some (aim, memory))
    by_row r bank to row aim memory middle end between behind own value k is front s aims m few at wat keeps f next =
        let small : first + term_accesses t + term_accesses row < 2 ^ 32 = omega (arith, few) in
        let made = subst (λ (i : ℕ). MadeTerm scene (lane_of around n) b.values.current.items row middle end between behind i aim.number aims.0.value) is aims.0.row in
        let number : aim.number ≡ first + term_accesses t + term_accesses row = numbered scene (lane_of around n) b.values.current.items row middle end between behind (first + term_accesses t) aim.number aims.0.value made small in
        let own_is : aim.number ≡ first + (term_accesses t + term_accesses row) = number ∙ omega arith in
        let last = (storing_lays scene (lane_of around n) stands.stands (plain.term place j (plain.in_bank r bank to row)) t value (Some (aim, memory)) end behind d k m).extends in
        let fe = fits_before end d.draft x last f in
        let second = (term_lays scene (lane_of around n) stands.stands b.values.current.items row middle end between behind (first + term_accesses t) aim.number aims.0.value made).extends in
        let reads : DoneHere first (term_accesses t + term_accesses row) b.draft end b.accesses behind =
        done_then x sites scene (lane_of around n) stands within table ways start first (term_accesses t) (term_accesses row) b.draft middle end b.accesses between behind front
        (term_done x sites scene (lane_of around n) stands within table ways start b.values.current.items Sets stays row middle end between behind (first + term_accesses t) aim.number aims.0.value made small
        (sites_front sites (first + term_accesses t) (term_sites scene around row) _ at) (sites_front ways (first + term_accesses t) (term_ways scene row) _ wat) keeps fe s front.here.sited next) in
        let site : sites (first + (term_accesses t + term_accesses row)) ≡ Some (write_site scene around (memory_of (known_in scene) r) place (plain.in_bank r bank to row)) =
        ap sites (let e : first + (term_accesses t + term_accesses row) ≡ first + term_accesses t + term_accesses row = omega arith in e)
        ∙ site_one sites (first + term_accesses t + term_accesses row) _ (sites_back sites (first + term_accesses t) (term_accesses row) (term_sites scene around row) _ (sites_long scene around row) at) in
        let own_way = site_one ways (first + term_accesses t + term_accesses row) _ (sites_back ways (first + term_accesses t) (term_accesses row) (term_ways scene row) _ (ways_long scene row) wat) in
        let site_now : sites (first + (term_accesses t + term_accesses row)) ≡ Some (write_site scene around memory place (plain.in_bank r bank to row)) = subst (λ (i : ℕ). sites (first + (term_accesses t + term_accesses row)) ≡ Some (write_site scene around i place (plain.in_bank r bank to row))) (sym aims.1) site in
        let reaches : ReachesAt x sites scene (lane_of around n) stands within Led memory aim (standing_at scene around memory place (plain.in_bank r bank to row) true) =
        subst (λ (i : ℕ). ReachesAt x sites scene (lane_of around n) stands within Led i aim (standing_at scene around i place (plain.in_bank r bank to row) true)) (sym aims.1)
        (ways_reach.by_row x sites scene (lane_of around n) stands within table ways start b.values.current.items r bank to row (memory_of (known_in scene) r) aims.0.value aim place true aims.0.row_is (ap sites own_is ∙ site) (ap ways number ∙ own_way)) in
        let bs = begun_later middle end x second s in
        record {
          puts = stored_puts (plain.term place j (plain.in_bank r bank to row)) t memory value aim b.draft end b.accesses behind d k first (term_accesses t + term_accesses row) own_is reads m f bs site_now reaches;
          sited = (written (plain.term place j (plain.in_bank r bank to row)) t memory value aim b.draft end b.accesses behind d k first (term_accesses t + term_accesses row) own_is reads m f bs site_now reaches).sited;
          given = stored_given (plain.term place j (plain.in_bank r bank to row)) t memory value aim b.draft end b.accesses behind d k first (term_accesses t + term_accesses row) own_is reads m f bs site_now reaches;
          kept = kept;
        }

    stores_by : (form : plain.TermForm) (aimed : Option (Aim × ℕ)) → IsAccessForm form → Stores form aimed
    stores_by (plain.accessed r ts) (Some (aim, memory)) is = by_indices r ts aim memory
    stores_by (plain.accessed r ts) None is = λ middle end between behind own value k same front s aims. absurd aims
    stores_by (plain.in_bank r bank to row) (Some (aim, memory)) is = by_row r bank to row aim memory
    stores_by (plain.in_bank r bank to row) None is = λ middle end between behind own value k same front s aims. absurd aims
    stores_by (plain.number negative z) aimed is = absurd is
    stores_by (plain.truth_value v) aimed is = absurd is
    stores_by (plain.named r) aimed is = absurd is
    stores_by (plain.applied op left right) aimed is = absurd is
    stores_by (plain.converted inner to) aimed is = absurd is

    pub stored_lane : (form : plain.TermForm) (k : ℕ) → IsAccessForm form → MadeStored scene (lane_of around n) first (plain.term place j form) t b d k → first + (term_accesses t + form_accesses form) < 2 ^ 32
        → SitesAt sites first (term_sites scene around t ++ target_sites scene around (plain.term place j form)) → SitesAt ways first (term_ways scene t ++ target_ways scene (plain.term place j form)) → TermKeeps x scene around.levels.now Sets t → FormKeeps x scene around.levels.now Sets form → FitsStep x d.draft → BlockBegun x b.draft
        → AreSitedAccesses x sites b.accesses → AreNext scene (lane_of around n) b.accesses first (term_accesses t + aim_accesses form)
        → LaneDone x sites scene table IsRead paths ways start Sets around n first (term_accesses t + aim_accesses form + 1) (term_accesses t + aim_accesses form) (IsLast first (term_accesses t + aim_accesses form)) b d
    stored_lane form k is m few at wat value_keeps keeps f s sited next =
        let small : first + term_accesses t < 2 ^ 32 = omega (arith, few) in
        let own : m.own ≡ first + term_accesses t = numbered scene (lane_of around n) b.values.current.items t b.draft m.middle b.accesses m.between first m.own m.value m.term small in
        let last = (storing_lays scene (lane_of around n) stands.stands (plain.term place j form) t m.value m.aimed m.end m.behind d k m.stores).extends in
        let second = (aim_lays scene (lane_of around n) stands.stands b.values.current.items form m.middle m.end m.between m.behind m.own m.aimed m.aims).extends in
        let first_part = (term_lays scene (lane_of around n) stands.stands b.values.current.items t b.draft m.middle b.accesses m.between first m.own m.value m.term).extends in
        let fm = fits_before m.middle d.draft x (extends_again m.middle m.end d.draft second last) f in
        let front : DoneHere first (term_accesses t) b.draft m.middle b.accesses m.between =
        term_done x sites scene (lane_of around n) stands within table ways start b.values.current.items Sets stays t b.draft m.middle b.accesses m.between first m.own m.value m.term small
        (sites_front sites first (term_sites scene around t) (target_sites scene around (plain.term place j form)) at) (sites_front ways first (term_ways scene t) (target_ways scene (plain.term place j form)) wat) value_keeps fm s sited
        (next_first scene (lane_of around n) b.accesses first (term_accesses t) (aim_accesses form) next) in
        stores_by form m.aimed is m.middle m.end m.between m.behind m.own m.value k own front (begun_later b.draft m.middle x first_part s) m.aims m.stores few
        (sites_back sites first (term_accesses t) (term_sites scene around t) (target_sites scene around (plain.term place j form)) (sites_long scene around t) at) (sites_back ways first (term_accesses t) (term_ways scene t) (target_ways scene (plain.term place j form)) (ways_long scene t) wat) keeps f
        (next_second scene (lane_of around n) b.accesses m.between first (term_accesses t) (aim_accesses form) next front.given)
