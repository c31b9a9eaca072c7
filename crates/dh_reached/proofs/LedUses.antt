-- Where uses of a command lead in a step, told by what the variables that keep offsets show as it begins; and that of two
-- uses of one access that reach one bank the earlier has the smaller place.
use Rattle.std.proofs.Common.{◌≡◌, ℕ, zero, suc, ◌^◌, ◌<◌, ◌≤◌, List, [], ◌∷◌, map, take, Option, Some, None, refl, ap, sym, ◌∙◌, subst, arith, ℤ}
use Rattle.std.specs.List.{AllByRecursion}
use Rattle.dh_value.specs.Words as words
use Rattle.dh_tree.specs.Elements.{Spot, dims_at}
use Rattle.dh_viewing.specs.ReachedBanks.{bank_at}
use Rattle.dh_meaning.specs.Paths.{Path, copies_in}
use Rattle.dh_meaning.specs.Ways.{Hidden, Way}
use Rattle.dh_plan.specs.declared.operations.Reach.{Reach}
use Rattle.dh_plan.specs.Blocks.{spot_of_reach}
use Rattle.dh_ways.specs.Leading.{StepsLead, next_dims}
use Rattle.dh_expressions.specs.declared.scenes.Around.{Around}
use Rattle.dh_expressions.specs.declared.scenes.Scene.{Scene}
use Rattle.dh_expressions.specs.Copying.{groups_by}
use Rattle.dh_expressions.specs.Counting.{places_by}
use Rattle.dh_expressions.specs.Drafted.{BlockStep}
use Rattle.dh_expressions.specs.Evaluated.{hidden_shown}
use Rattle.dh_expressions.specs.Levels.{path_at}
use Rattle.dh_expressions.specs.Named.{shifts_on}
use Rattle.dh_expressions.specs.Shown.{variable_shown}
use Rattle.dh_expressions.proofs.CopiesCounted.{ranks_rise}
use Rattle.dh_expressions.proofs.ListPlaces.{some_same}
use Rattle.dh_formed.specs.Formed.{BlockSite}
use Rattle.dh_commands.specs.LanesRun.{lane_of, path_in, paths_counted}
use Rattle.dh_commands.specs.ShownVariables.{ArePlaced, IsSeen, depth_in, level_factors, register_in}
use Rattle.dh_blocks.specs.PathsOfLevels.{AreSpread}
use Rattle.dh_charged.proofs.PathGroups.{one_group}
use Rattle.dh_reached.specs.IndicesKept.{ShiftsKept}
use Rattle.dh_reached.specs.Puts.{IsSitedUse, PlacesRise, OperationAtPath}
use Rattle.dh_reached.proofs.NamedBanks.{Reached, same_at_shifts, same_named}
use Rattle.dh_reached.proofs.PlacesCounted.{places_rise}

taken_twice : {A : Type 0} (m n : ℕ) (xs : List A) → m ≤ n → take m (take n xs) ≡ take m xs
taken_twice zero n xs l = refl
taken_twice (suc m) zero xs l = absurd (none m l)
  where
    none : (a : ℕ) → suc a ≤ 0 → ⊥
    none a l = omega (arith, l)
taken_twice (suc m) (suc n) [] l = refl
taken_twice (suc m) (suc n) (x ∷ xs) l = ap (λ ys. x ∷ ys) (taken_twice m n xs (less m n l))
  where
    less : (a b : ℕ) → suc a ≤ suc b → a ≤ b
    less a b l = omega (arith, l)

module _ (x : BlockStep) (scene : Scene) (around : Around) (start : List (Option ℕ)) where
  -- what a variable that keeps an offset shows at a path as the command begins
  abbrev pub kept_shown : (path : ℕ) → Hidden → ℤ
  kept_shown path h = words.value_of (hidden_shown scene (lane_of around path) start x h)

  abbrev pub IsKeptSo : Hidden → Type 0
  IsKeptSo h = IsSeen scene around.levels.now h.entity × (h.depth ≡ depth_in scene h.entity)

  -- an element of the memory is reached through a way, by indices in the bank of what is named that stands there
  pub record ThroughWay (w : Way) (s : BlockSite) (path behind : ℕ) : Type 0 where
    pub leads : StepsLead w.steps (dims_at x.start.table s.memory)
    pub shifts : ShiftsKept w.steps w.hidden w.shifts
    pub kept : AllByRecursion IsKeptSo w.hidden
    pub indices : List ℤ
    pub reached : Reached (dims_at x.start.table s.memory) w.steps indices (map (kept_shown path) w.hidden) behind
    pub named : bank_at (next_dims w.steps (dims_at x.start.table s.memory)) indices ≡ s.standing.bank path

  abbrev pub LeadsFrom : Option Way → BlockSite → (path behind : ℕ) → Type 0
  LeadsFrom None s path behind = behind ≡ s.standing.bank path
  LeadsFrom (Some w) s path behind = ThroughWay w s path behind

  -- the places of an access are counted by its way
  abbrev pub CountsBy : Option Way → BlockSite → Type 0
  CountsBy o s = (path : ℕ) → s.standing.places path ≡ places_by s.standing.leader s.standing.bank (λ p. groups_by around.levels.now (shifts_on o) p) path

  -- a use of an access that stands so and has this way
  pub record IsLed (sites : ℕ → Option BlockSite) (ways : ℕ → Option (Option Way)) (u : OperationAtPath) (r : Reach) : Type 0 where
    pub way : Option Way
    pub way_is : ways r.access ≡ Some way
    pub site : BlockSite
    pub site_is : sites r.access ≡ Some site
    pub counts : CountsBy way site
    pub leads : (spot : Spot) → spot_of_reach x.start x.first x.words r ≡ Some spot → LeadsFrom way site u.path spot.bank

  module _ (placed : ArePlaced scene around) (spread : AreSpread around.levels.now) (counted : paths_counted around ≡ copies_in (level_factors around.levels.now)) where
    -- variables no deeper than the shifts show the same at two paths of a group
    shown_same : (w : Way) (m n : ℕ) → m < paths_counted around → n < paths_counted around → groups_by around.levels.now w.shifts m ≡ groups_by around.levels.now w.shifts n → (h : Hidden) → IsKeptSo h → h.depth ≤ w.shifts
        → kept_shown m h ≡ kept_shown n h
    shown_same w m n a b e h k deep = ap (λ (register : ℕ). words.value_of (variable_shown x start register)) register
      where
        begins : take w.shifts (path_at around.levels.now m) ≡ take w.shifts (path_at around.levels.now n)
        begins = one_group around.levels.now spread w.shifts m n (subst (λ (i : ℕ). m < i) counted a) (subst (λ (i : ℕ). n < i) counted b) e

        path_same : take (depth_in scene h.entity) (path_in around m) ≡ take (depth_in scene h.entity) (path_in around n)
        path_same =
            ap (λ (d : ℕ). take d (path_in around m)) (sym k.1)
            ∙ (sym (taken_twice h.depth w.shifts (path_in around m) deep)
            ∙ (ap (λ (p : Path). take h.depth p) begins
            ∙ (taken_twice h.depth w.shifts (path_in around n) deep
            ∙ ap (λ (d : ℕ). take d (path_in around n)) k.1)))

        register : register_in scene around h.entity m ≡ register_in scene around h.entity n
        register = placed.one h.entity m n k.0 a b path_same

    -- in one group one bank is reached from one bank of what is named
    banks_same : (o : Option Way) (s : BlockSite) (m n behind : ℕ) → m < paths_counted around → n < paths_counted around → LeadsFrom o s m behind → LeadsFrom o s n behind
        → groups_by around.levels.now (shifts_on o) m ≡ groups_by around.levels.now (shifts_on o) n → s.standing.bank m ≡ s.standing.bank n
    banks_same None s m n behind a b h k e = sym h ∙ k
    banks_same (Some w) s m n behind a b h k e =
        sym h.named
        ∙ (same_named (dims_at x.start.table s.memory) w.steps h.leads h.indices k.indices (map (kept_shown m) w.hidden) (map (kept_shown n) w.hidden) behind h.reached k.reached
        (same_at_shifts (kept_shown m) (kept_shown n) w.shifts IsKeptSo (λ i kept deep. shown_same w m n a b e i kept deep) w.steps w.hidden h.shifts h.kept)
        (same_at_shifts (kept_shown n) (kept_shown m) w.shifts IsKeptSo (λ i kept deep. sym (shown_same w m n a b e i kept deep)) w.steps w.hidden h.shifts h.kept)
        (same_at_shifts (kept_shown m) (kept_shown m) w.shifts IsKeptSo (λ i kept deep. refl) w.steps w.hidden h.shifts h.kept)
        (same_at_shifts (kept_shown n) (kept_shown n) w.shifts IsKeptSo (λ i kept deep. refl) w.steps w.hidden h.shifts h.kept)
        ∙ k.named)

    places_less : (o : Option Way) (s : BlockSite) (m n behind : ℕ) → CountsBy o s → m < n → n < paths_counted around → n < 2 ^ 32 → s.standing.leader m ≡ m → LeadsFrom o s m behind → LeadsFrom o s n behind → s.standing.places m < s.standing.places n
    places_less o s m n behind counts less within few leads h k =
        subst (λ (i : ℕ). i < s.standing.places n) (sym (counts m))
        (subst (λ (i : ℕ). places_by s.standing.leader s.standing.bank (λ p. groups_by around.levels.now (shifts_on o) p) m < i) (sym (counts n))
        (places_rise s.standing.leader s.standing.bank (λ p. groups_by around.levels.now (shifts_on o) p) m n less few leads (ranks_rise around.levels.now (shifts_on o) m n (lower m n less))
        (λ e. banks_same o s m n behind (before m n (paths_counted around) less within) within h k e)))
      where
        lower : (a b : ℕ) → a < b → a ≤ b
        lower a b l = omega (arith, l)

        before : (a b c : ℕ) → a < b → b < c → a < c
        before a b c l f = omega (arith, l, f)

    module _ (sites : ℕ → Option BlockSite) (ways : ℕ → Option (Option Way)) where
      pub led_rise : (u v : OperationAtPath) (r t : Reach) → u.path < v.path → v.path < paths_counted around → paths_counted around < 2 ^ 32 → r.access ≡ t.access → IsSitedUse x sites u r → IsLed sites ways u r → IsLed sites ways v t → PlacesRise x sites u v r t
      led_rise u v r t less within few same had one two y z at_y at_z bank s at =
          places_less one.way s u.path v.path z.bank (subst (λ (o : BlockSite). CountsBy one.way o) own one.counts) less within (before v.path (paths_counted around) within few)
          (subst (λ (o : BlockSite). o.standing.leader u.path ≡ u.path) (some_same had.site s (sym had.there ∙ at)) had.leads)
          (subst (λ (b : ℕ). LeadsFrom one.way s u.path b) bank (subst (λ (o : BlockSite). LeadsFrom one.way o u.path y.bank) own (one.leads y at_y)))
          (subst (λ (o : Option Way). LeadsFrom o s v.path z.bank) (sym way_same) (subst (λ (o : BlockSite). LeadsFrom two.way o v.path z.bank) other (two.leads z at_z)))
        where
          own : one.site ≡ s
          own = some_same one.site s (sym one.site_is ∙ at)

          other : two.site ≡ s
          other = some_same two.site s (sym two.site_is ∙ (ap sites (sym same) ∙ at))

          way_same : one.way ≡ two.way
          way_same = some_same one.way two.way (sym one.way_is ∙ (ap ways same ∙ two.way_is))

          before : (a b : ℕ) → a < b → b < 2 ^ 32 → a < 2 ^ 32
          before a b l f = omega (arith, l, f)
