-- What is put down for a command without arms, at all its paths, one after the other.
use Rattle.std.proofs.Common.{◌≡◌, ◌⊎◌, inl, inr, ℕ, zero, suc, ◌+◌, ◌^◌, ◌<◌, ◌≤◌, List, Some, None, refl, sym, ap, ◌∙◌, subst, arith, add-one}
use Rattle.std.specs.Prelude.{false, [], ◌∷◌, Option, length}
use Rattle.std.proofs.lemmas.Bool.{cases_lt}
use Rattle.dh_value.specs.declared.kinds.Kind.{Kind}
use Rattle.dh_value.specs.declared.kinds.Kind.TheVariants as kind
use Rattle.dh_value.specs.declared.operators.Op.{Op}
use Rattle.dh_tree.specs.Memories.{table_of}
use Rattle.dh_tree.specs.PlainTrees.{Term}
use Rattle.dh_tree.specs.Seen.{program_seen, terms}
use Rattle.dh_meaning.specs.AccessNumbers.{term_accesses, terms_accesses}
use Rattle.dh_meaning.specs.Ways.{Way}
use Rattle.dh_code.specs.Extended.{extension_of}
use Rattle.dh_tree.specs.Kinds.{same_kind}
use Rattle.dh_code.specs.declared.places.VariableSlots.{VariableSlots}
use Rattle.dh_code.specs.Slots.{held_at}
use Rattle.dh_plan.specs.declared.operations.OperationForm.TheVariants.{Compute}
use Rattle.dh_plan.specs.declared.operations.Reach.{Reach}
use Rattle.dh_expressions.specs.declared.accesses.Accesses.{Accesses}
use Rattle.dh_expressions.specs.declared.drafts.Draft.{Draft}
use Rattle.dh_expressions.specs.declared.scenes.Around.{Around}
use Rattle.dh_expressions.specs.declared.scenes.Lane.{Lane}
use Rattle.dh_expressions.specs.declared.scenes.Scene.{Scene}
use Rattle.dh_expressions.specs.Drafted.{BlockBegun, Extends, FitsStep, BlockStep}
use Rattle.dh_expressions.specs.MadeTerms.{MadeTerm, MadeTerms}
use Rattle.dh_expressions.specs.MadeValues.{MadeHeld}
use Rattle.dh_expressions.specs.Shown.{kind_written, register_at}
use Rattle.dh_expressions.proofs.Pushing.{begun_later, extends_again, extends_self, fits_before}
use Rattle.dh_formed.specs.Counted.{AreNext, HaveGiven, given_at_paths}
use Rattle.dh_formed.specs.Formed.{BlockSite}
use Rattle.dh_formed.proofs.TermsCounted.{given_none}
use Rattle.dh_formed.proofs.ValuesCounted.{held_counts, number_counts, shown_counts}
use Rattle.dh_formed.proofs.ValuesFormed.{held_forms}
use Rattle.dh_commands.specs.declared.assignments.Values.{Values}
use Rattle.dh_commands.specs.declared.buildings.Building.{Building}
use Rattle.dh_commands.specs.LanesRun.{lane_of, paths_counted}
use Rattle.dh_commands.specs.ShownVariables.{IsSeen}
use Rattle.dh_commands.specs.Setting.{IsVariableAmong}
use Rattle.dh_commands.specs.MadeCommands.{FoldedWith, MadeAssigned, MadeCleared, MadeHolds, MadeKept, MadeLanes, MadeOldOperand, MadeOperand, MadeReduced, MadeTested}
use Rattle.dh_laid.specs.BlockSites.{term_sites, terms_sites}
use Rattle.dh_laid.proofs.AccessesLaid.{folded_extends}
use Rattle.dh_reached.specs.IndicesKept.{AreSeenFrom, TermKeeps, TermsKeep}
use Rattle.dh_reached.specs.Puts.{AreSitedAccesses, IsSitedUse, PlacesRise, OperationAtPath, PutsAt, PutsDown}
use Rattle.dh_reached.proofs.LedUses.{IsLed}
use Rattle.dh_reached.specs.ReadsTold.{BlockShares}
use Rattle.dh_reached.proofs.NoUses.{AddsNone, none_again, none_counted, none_pushed, none_still, paths_then, puts_added}
use Rattle.dh_reached.specs.ReachedBlocks.{StandsSpread}
use Rattle.dh_reached.proofs.Stays.{Stays, stays_again, stays_from, stays_same, stays_set}
use Rattle.dh_reached.proofs.TermsPut.{Done, SitesAt, converted_none, done_before, term_done, term_ways, terms_done, terms_ways}

-- Values that use nothing.

old_operand_none : (own to : Kind) (value : ℕ) (old new : Draft) (v : ℕ) → MadeOldOperand own to value old new v → AddsNone old new
old_operand_none own kind.Bool value old new v m = none_still old new m.0
old_operand_none own (kind.Unsigned w) value old new v m = converted_none (same_kind own (kind.Unsigned w)) (kind.Unsigned w) value old new v m
old_operand_none own (kind.Signed w) value old new v m = converted_none (same_kind own (kind.Signed w)) (kind.Signed w) value old new v m

pub held_none : (t : Term) (to : Kind) (value : ℕ) (old new : Draft) (v : ℕ) → MadeHeld t to value old new v → AddsNone old new
held_none t to value old new v m = none_counted old new 0 _ _ (held_counts (λ register. Unit {0}) (λ r. Unit {0}) (λ r. ⊥) (λ r. ⊥) t to value old new v m)

operand_none : (t : Term) (to : Kind) (value : ℕ) (old new : Draft) (v : ℕ) → MadeOperand t to value old new v → AddsNone old new
operand_none t kind.Bool value old new v m = none_still old new m.0
operand_none t (kind.Unsigned w) value old new v m = held_none t (kind.Unsigned w) value old new v m
operand_none t (kind.Signed w) value old new v m = held_none t (kind.Signed w) value old new v m

folded_none : (lane : Lane) (current : List (Option ℕ)) (held : VariableSlots) (op : Op) (t : Term) (value : ℕ) (old new : Draft) (v : ℕ) → FoldedWith lane current held op t value old new v → AddsNone old new
folded_none lane current held op t value old new v m =
    none_again old m.first new (none_counted old m.first 0 _ _ (shown_counts (λ register. Unit {0}) (λ r. Unit {0}) (λ r. ⊥) (λ r. ⊥) current (register_at held lane) tt old m.first m.before m.shown))
    (none_again m.first m.second new (old_operand_none held.kind (extension_of op held.kind (kind_written t)) m.before m.first m.second m.left m.left_made)
    (none_again m.second m.third new (operand_none t (extension_of op held.kind (kind_written t)) value m.second m.third m.right m.right_made)
    (none_again m.third m.fourth new (none_pushed m.third m.fourth m.all None (Compute op m.left m.right) m.pushes tt)
    (converted_none (same_kind held.kind (extension_of op held.kind (kind_written t))) held.kind m.all m.fourth new v m.own))))

-- values of offsets, as their variables hold them
holds_none : (scene : Scene) (first : ℕ) (offsets : List Term) (values : List ℕ) (old new : Draft) (held : List ℕ) → MadeHolds scene first offsets values old new held → AddsNone old new
holds_none scene first [] values old new held m = none_still old new m.0
holds_none scene first (t ∷ ts) [] old new held m = none_still old new m.0
holds_none scene first (t ∷ ts) (value ∷ values) old new held (d, (v, (more, (one, (rest, are))))) =
    none_again old d new (held_none t (held_at scene.held.now first).kind value old d v one) (holds_none scene (suc first) ts values d new more rest)

pub holds_extend : (scene : Scene) (first : ℕ) (offsets : List Term) (values : List ℕ) (old new : Draft) (held : List ℕ) → MadeHolds scene first offsets values old new held → Extends old new
holds_extend scene first [] values old new held m = subst (λ (d : Draft). Extends old d) (sym m.0) (extends_self old)
holds_extend scene first (t ∷ ts) [] old new held m = subst (λ (d : Draft). Extends old d) (sym m.0) (extends_self old)
holds_extend scene first (t ∷ ts) (value ∷ values) old new held (d, (v, (more, (one, (rest, are))))) =
    extends_again old d new (held_forms t (held_at scene.held.now first).kind value old d v one).extends (holds_extend scene (suc first) ts values d new more rest)

holds_counted : (scene : Scene) (first : ℕ) (offsets : List Term) (values : List ℕ) (old new : Draft) (held : List ℕ) → MadeHolds scene first offsets values old new held → length values ≡ length offsets → length held ≡ length offsets
holds_counted scene first [] values old new held m long = ap (λ (vs : List ℕ). length vs) m.1 ∙ long
holds_counted scene first (t ∷ ts) [] old new held m long = absurd (cc)
holds_counted scene first (t ∷ ts) (value ∷ values) old new held (d, (v, (more, (one, (rest, are))))) long =
    ap (λ (vs : List ℕ). length vs) are ∙ ap (λ (n : ℕ). suc n) (holds_counted scene (suc first) ts values d new more rest (less (length values) (length ts) long))
  where
    less : (a b : ℕ) → suc a ≡ suc b → a ≡ b
    less a b e = omega (arith, e)

offsets_counted : (scene : Scene) (lane : Lane) (current : List (Option ℕ)) (offsets : List Term) (old new : Draft) (before after : Accesses) (n next : ℕ) (values : List ℕ) → MadeTerms scene lane current (terms offsets) old new before after n next values → length values ≡ length offsets
offsets_counted scene lane current [] old new before after n next values m = ap (λ (vs : List ℕ). length vs) m.none
offsets_counted scene lane current (t ∷ ts) old new before after n next values m = ap (λ (vs : List ℕ). length vs) m.values_are ∙ ap (λ (i : ℕ). suc i) (offsets_counted scene lane current ts m.middle new m.between after m.own next m.more m.rest)

-- Paths.

module _ (x : BlockStep) (sites : ℕ → Option BlockSite) (scene : Scene) (table : x.start.table ≡ table_of (program_seen scene.program.now)) (IsRead : ℕ → Type 0) (paths : ℕ) where
  -- where the commands up to a number are put down: reads before it have given at all paths, those behind it at none
  pub record Behind (a : Accesses) (upto : ℕ) : Type 0 where
    pub sited : AreSitedAccesses x sites a
    pub given : (e : ℕ) → IsRead e → e < upto → paths ≤ given_at_paths a e
    pub fresh : (m : ℕ) (s : BlockSite) → sites m ≡ Some s → upto ≤ m → given_at_paths a m ≡ 0

  -- of what is led so, where a command that sets these variables began with these
  module _ (ways : ℕ → Option (Option Way)) (start : List (Option ℕ)) (Sets : ℕ → Type 0) where
    -- one path of a command: so many of its accesses are reads, the first ones
    pub record LaneDone (around : Around) (n first count reads : ℕ) (Written : ℕ → Type 0) (b d : Building) : Type 0 where
      pub puts : PutsAt x sites first count (λ u r. (u.path ≡ n) × IsLed x scene around start sites ways u r) Written b.draft d.draft
      pub sited : AreSitedAccesses x sites d.accesses
      pub given : HaveGiven (lane_of around n) b.accesses d.accesses first reads
      pub kept : Stays scene around Sets b.values.current.items d.values.current.items

    module _ (around : Around) (same : paths_counted around ≡ paths) (shares : BlockShares IsRead scene sites) (first count reads : ℕ) (within : reads ≤ count) (Written : ℕ → Type 0) (one : (i j : ℕ) → Written i → Written j → i ≡ j)
        (rises : (u v : OperationAtPath) (r t : Reach) → u.path < v.path → v.path < paths_counted around → r.access ≡ t.access → IsSitedUse x sites u r → IsLed x scene around start sites ways u r → IsLed x scene around start sites ways v t → PlacesRise x sites u v r t)
        (One : ℕ → (b d : Building) → ℕ → Type 0) (extends : (n : ℕ) (b d : Building) (k : ℕ) → One n b d k → Extends b.draft d.draft)
        (step : (n : ℕ) (b d : Building) (k : ℕ) → n < paths_counted around → One n b d k → FitsStep x d.draft → BlockBegun x b.draft → Stays scene around Sets start b.values.current.items → AreSitedAccesses x sites b.accesses → AreNext scene (lane_of around n) b.accesses first reads
        → LaneDone around n first count reads Written b d)
        (old : Building) (begins : start ≡ old.values.current.items) (h : Behind old.accesses first) (there_are : (m : ℕ) → first ≤ m → m < first + reads → (s : BlockSite) × (sites m ≡ Some s)) (b0 : BlockBegun x old.draft) where
      record Lanes (n : ℕ) (d : Building) : Type 0 where
        puts : PutsAt x sites first count (λ u r. (u.path < n) × IsLed x scene around start sites ways u r) Written old.draft d.draft
        sited : AreSitedAccesses x sites d.accesses
        stays : Stays scene around Sets start d.values.current.items
        own : (m : ℕ) → first ≤ m → m < first + reads → given_at_paths d.accesses m ≡ n
        before_them : (m : ℕ) → m < first → given_at_paths d.accesses m ≡ given_at_paths old.accesses m
        behind_them : (m : ℕ) → first + reads ≤ m → given_at_paths d.accesses m ≡ given_at_paths old.accesses m

      lanes_extend : (n : ℕ) (d : Building) (next : ℕ) → MadeLanes One n first old d next → Extends old.draft d.draft
      lanes_extend zero d next m = subst (λ (e : Building). Extends old.draft e.draft) (sym m.0) (record { operations = λ n o at. at; faults = λ n f at. at; longer = omega arith })
      lanes_extend (suc n) d next m = extends_again old.draft (m.0).draft d.draft (lanes_extend n m.0 m.1.0 m.1.1.0) (extends n m.0 d next m.1.1.1)

      lanes_none : (d : Building) → d ≡ old → Lanes 0 d
      lanes_none d still = record {
        puts = puts_added x sites first count (λ u r. (u.path < 0) × IsLed x scene around start sites ways u r) Written old.draft d.draft (none_still old.draft d.draft (ap (λ (e : Building). e.draft) still));
        sited = subst (λ (e : Building). AreSitedAccesses x sites e.accesses) (sym still) h.sited;
        stays = stays_same scene around Sets start d.values.current.items (ap (λ (e : Building). e.values.current.items) still ∙ sym begins);
        own = λ m from below. let s = there_are m from below in ap (λ (e : Building). given_at_paths e.accesses m) still ∙ h.fresh m s.0 s.1 from;
        before_them = λ m less. ap (λ (e : Building). given_at_paths e.accesses m) still;
        behind_them = λ m more. ap (λ (e : Building). given_at_paths e.accesses m) still;
      }

      next_lane : (n : ℕ) (b : Building) → n < paths_counted around → Lanes n b → AreNext scene (lane_of around n) b.accesses first reads
      next_lane n b less l = record {
        each = l.own;
        known = λ m from below. let s = there_are m from below in (shares m s.0 s.1).known;
        earlier = λ m e from below is. let s = there_are m from below in ((shares m s.0 s.1).earlier e is).0;
        shares = λ m e from below is before.
            let s = there_are m from below in
            let all = h.given e ((shares m s.0 s.1).earlier e is).1 before in
            let kept = l.before_them e before in
            enough (given_at_paths b.accesses e) (given_at_paths old.accesses e) kept all;
      }
        where
          enough : (g f : ℕ) → g ≡ f → paths ≤ f → n < g
          enough g f e l = omega (arith, e, l, less, same)

      lanes_more : (n : ℕ) (b d : Building) → n < paths_counted around → Lanes n b → LaneDone around n first count reads Written b d → Lanes (suc n) d
      lanes_more n b d less l s = record {
        puts = subst (λ (k : ℕ). PutsAt x sites first count (λ u r. (u.path < k) × IsLed x scene around start sites ways u r) Written old.draft d.draft) (add-one n)
            (paths_then x sites first count n (IsLed x scene around start sites ways) Written one (λ u v r t below own. rises u v r t below (subst (λ (p : ℕ). p < paths_counted around) (sym own) less)) old.draft b.draft d.draft l.puts s.puts);
        sited = s.sited;
        stays = stays_again scene around Sets start b.values.current.items d.values.current.items l.stays s.kept;
        own = λ m from below. s.given.own m from below ∙ add-one n;
        before_them = λ m less. s.given.before_them m less ∙ l.before_them m less;
        behind_them = λ m more. s.given.behind_them m more ∙ l.behind_them m more;
      }

      lanes : (n : ℕ) → n ≤ paths_counted around → (d : Building) (next : ℕ) → MadeLanes One n first old d next → FitsStep x d.draft → Lanes n d
      lanes zero few d next m f = lanes_none d m.0
      lanes (suc n) few d next m f =
          let l = lanes n (omega (arith, few)) m.0 m.1.0 m.1.1.0 (fits_before (m.0).draft d.draft x (extends n m.0 d next m.1.1.1) f) in
          lanes_more n m.0 d (omega (arith, few)) l
          (step n m.0 d next (omega (arith, few)) m.1.1.1 f (begun_later old.draft (m.0).draft x (lanes_extend n m.0 m.1.0 m.1.1.0) b0) l.stays l.sited (next_lane n m.0 (omega (arith, few)) l))

      -- all paths
      pub record AllLanes (d : Building) : Type 0 where
        pub down : PutsDown x sites first count old.draft d.draft
        pub behind : Behind d.accesses (first + count)

      pub all_lanes : (d : Building) (next : ℕ) → MadeLanes One (paths_counted around) first old d next → FitsStep x d.draft → ((e : ℕ) → first + reads ≤ e → e < first + count → IsRead e → ⊥) → AllLanes d
      all_lanes d next m f rest = record {
        down = l.puts.down;
        behind = record {
          sited = l.sited;
          given = λ e is below. by e is below (cases_lt e first) (cases_lt e (first + reads));
          fresh = λ k s at more. l.behind_them k (omega (arith, more, within)) ∙ h.fresh k s at (omega (arith, more));
        };
      }
        where
          l : Lanes (paths_counted around) d
          l = lanes (paths_counted around) (omega arith) d next m f

          by : (e : ℕ) → IsRead e → e < first + count → (e < first) ⊎ (first ≤ e) → (e < first + reads) ⊎ (first + reads ≤ e) → paths ≤ given_at_paths d.accesses e
          by e is below (inl less) k = subst (λ (g : ℕ). paths ≤ g) (sym (l.before_them e less)) (h.given e is less)
          by e is below (inr from) (inl own) = let g = l.own e from own in omega (arith, g, same)
          by e is below (inr from) (inr more) = absurd (rest e more below is)

    -- Commands at a path.

    module _ (around : Around) (stands : StandsSpread scene around) (n : ℕ) (within : n < paths_counted around) where
      abbrev lane : Lane
      lane = lane_of around n

      -- an expression, and what is made of its value
      pub term_lane : (t : Term) (first : ℕ) (middle : Draft) (b d : Building) (k v : ℕ) → Stays scene around Sets b.values.current.items d.values.current.items → MadeTerm scene (lane_of around n) b.values.current.items t b.draft middle b.accesses d.accesses first k v → AddsNone middle d.draft → Extends middle d.draft
          → first + term_accesses t < 2 ^ 32 → SitesAt sites first (term_sites scene around t) → SitesAt ways first (term_ways scene t) → TermKeeps x scene around.levels.now Sets t → FitsStep x d.draft → BlockBegun x b.draft → Stays scene around Sets start b.values.current.items → AreSitedAccesses x sites b.accesses
          → AreNext scene (lane_of around n) b.accesses first (term_accesses t) → LaneDone around n first (term_accesses t) (term_accesses t) (λ i. ⊥) b d
      term_lane t first middle b d k v kept m none e few at wat keeps f s stays sited next =
          let all : Done x sites scene (lane_of around n) stands within table ways start first (term_accesses t) b.draft d.draft b.accesses d.accesses =
          done_before x sites scene (lane_of around n) stands within table ways start first (term_accesses t) b.draft middle d.draft b.accesses d.accesses
          (term_done x sites scene (lane_of around n) stands within table ways start b.values.current.items Sets stays t b.draft middle b.accesses d.accesses first k v m few at wat keeps (fits_before middle d.draft x e f) s sited next) none in
          record { puts = all.here.puts; sited = all.here.sited; given = all.given; kept = kept }

      pub assigned_lane : (first entity : ℕ) (t : Term) (b d : Building) (k : ℕ) → IsSeen scene around.levels.now entity → Sets entity → MadeAssigned scene (lane_of around n) first entity t b d k
          → first + term_accesses t < 2 ^ 32 → SitesAt sites first (term_sites scene around t) → SitesAt ways first (term_ways scene t) → TermKeeps x scene around.levels.now Sets t → FitsStep x d.draft → BlockBegun x b.draft → Stays scene around Sets start b.values.current.items → AreSitedAccesses x sites b.accesses
          → AreNext scene (lane_of around n) b.accesses first (term_accesses t) → LaneDone around n first (term_accesses t) (term_accesses t) (λ i. ⊥) b d
      assigned_lane first entity t b d k seen set m few at wat keeps f s stays sited next =
          term_lane t first m.middle b d k m.value (stays_set scene around Sets stands.placed n within entity m.held b.values d.values seen set m.sets) m.term (held_none t (held_at scene.held.now entity).kind m.value m.middle d.draft m.held m.holds)
          (held_forms t (held_at scene.held.now entity).kind m.value m.middle d.draft m.held m.holds).extends few at wat keeps f s stays sited next

      pub reduced_lane : (first entity : ℕ) (op : Op) (t : Term) (b d : Building) (k : ℕ) → IsSeen scene around.levels.now entity → Sets entity → MadeReduced scene (lane_of around n) first entity op t b d k
          → first + term_accesses t < 2 ^ 32 → SitesAt sites first (term_sites scene around t) → SitesAt ways first (term_ways scene t) → TermKeeps x scene around.levels.now Sets t → FitsStep x d.draft → BlockBegun x b.draft → Stays scene around Sets start b.values.current.items → AreSitedAccesses x sites b.accesses
          → AreNext scene (lane_of around n) b.accesses first (term_accesses t) → LaneDone around n first (term_accesses t) (term_accesses t) (λ i. ⊥) b d
      reduced_lane first entity op t b d k seen set m few at wat keeps f s stays sited next =
          term_lane t first m.middle b d k m.value (stays_set scene around Sets stands.placed n within entity m.folded b.values d.values seen set m.sets) m.term (folded_none (lane_of around n) b.values.current.items (held_at scene.held.now entity) op t m.value m.middle d.draft m.folded m.folds)
          (folded_extends (lane_of around n) b.values.current.items (held_at scene.held.now entity) op t m.value m.middle d.draft m.folded m.folds) few at wat keeps f s stays sited next

      pub tested_lane : (first : ℕ) (t : Term) (b d : Building) (k v : ℕ) → MadeTested scene (lane_of around n) first t b d k v
          → first + term_accesses t < 2 ^ 32 → SitesAt sites first (term_sites scene around t) → SitesAt ways first (term_ways scene t) → TermKeeps x scene around.levels.now Sets t → FitsStep x d.draft → BlockBegun x b.draft → Stays scene around Sets start b.values.current.items → AreSitedAccesses x sites b.accesses
          → AreNext scene (lane_of around n) b.accesses first (term_accesses t) → LaneDone around n first (term_accesses t) (term_accesses t) (λ i. ⊥) b d
      tested_lane first t b d k v m few at wat keeps f s stays sited next =
          term_lane t first d.draft b d k v (stays_same scene around Sets b.values.current.items d.values.current.items (ap (λ (w : Values). w.current.items) m.same)) m.term (none_still d.draft d.draft refl) (record { operations = λ n o at. at; faults = λ n f at. at; longer = omega arith }) few at wat keeps f s stays sited next

      pub cleared_lane : (first entity : ℕ) (b d : Building) → Stays scene around Sets b.values.current.items d.values.current.items → MadeCleared scene (lane_of around n) entity b d → AreSitedAccesses x sites b.accesses → LaneDone around n first 0 0 (λ i. ⊥) b d
      cleared_lane first entity b d kept m sited = record {
        puts = puts_added x sites first 0 (λ u r. (u.path ≡ n) × IsLed x scene around start sites ways u r) (λ i. ⊥) b.draft d.draft
            (none_counted b.draft d.draft 0 _ _ (number_counts (λ register. Unit {0}) (λ r. Unit {0}) (λ r. ⊥) (λ r. ⊥) (held_at scene.held.now entity).kind false 0 b.draft d.draft m.value m.number));
        sited = subst (λ (a : Accesses). AreSitedAccesses x sites a) (sym m.same) sited;
        given = given_none scene (lane_of around n) b.accesses d.accesses first m.same;
        kept = kept;
      }

      -- a view that keeps its offsets
      pub kept_lane : (first entity : ℕ) (offsets : List Term) (b d : Building) (k : ℕ) → AreSeenFrom scene around.levels.now entity (length offsets) → ((e : ℕ) → IsVariableAmong entity (length offsets) e → Sets e)
          → MadeKept scene (lane_of around n) first entity offsets b d k → first + terms_accesses (terms offsets) < 2 ^ 32 → SitesAt sites first (terms_sites scene around (terms offsets)) → SitesAt ways first (terms_ways scene (terms offsets))
          → TermsKeep x scene around.levels.now Sets (terms offsets) → FitsStep x d.draft → BlockBegun x b.draft → Stays scene around Sets start b.values.current.items → AreSitedAccesses x sites b.accesses
          → AreNext scene (lane_of around n) b.accesses first (terms_accesses (terms offsets)) → LaneDone around n first (terms_accesses (terms offsets)) (terms_accesses (terms offsets)) (λ i. ⊥) b d
      kept_lane first entity offsets b d k seen sets m few at wat keeps f s stays sited next =
          let all : Done x sites scene (lane_of around n) stands within table ways start first (terms_accesses (terms offsets)) b.draft d.draft b.accesses d.accesses =
          done_before x sites scene (lane_of around n) stands within table ways start first (terms_accesses (terms offsets)) b.draft m.middle d.draft b.accesses d.accesses
          (terms_done x sites scene (lane_of around n) stands within table ways start b.values.current.items Sets stays (terms offsets) b.draft m.middle b.accesses d.accesses first k m.values m.offsets_made few at wat keeps
          (fits_before m.middle d.draft x (holds_extend scene entity offsets m.values m.middle d.draft m.held m.holds) f) s sited next) (holds_none scene entity offsets m.values m.middle d.draft m.held m.holds) in
          record {
            puts = all.here.puts;
            sited = all.here.sited;
            given = all.given;
            kept = stays_from scene around Sets stands.placed n within entity m.held b.values d.values (subst (λ (i : ℕ). AreSeenFrom scene around.levels.now entity i) (sym long) seen)
                (λ e low high. sets e (low, subst (λ (i : ℕ). e < entity + i) long high)) m.sets;
          }
        where
          long : length m.held ≡ length offsets
          long = holds_counted scene entity offsets m.values m.middle d.draft m.held m.holds (offsets_counted scene (lane_of around n) b.values.current.items offsets b.draft m.middle b.accesses d.accesses first k m.values m.offsets_made)
