-- A read or a write of a block charges a bank no more than its access does in the program. Of a memory its place is the
-- number of the leaders before it that reach the bank, and each leader has a key of its own; through views it is below what
-- is carried of the groups of its paths.
use Rattle.std.proofs.Common.{◌≡◌, ℕ, suc, ◌+◌, ◌<◌, ◌≤◌, ◌^◌, ◌==◌, ◌&&◌, Bool, true, false, if◌then◌else◌, List, [], ◌∷◌, map, Option, Some, None, refl, ap, sym, ◌∙◌, subst, arith}
use Rattle.std.specs.Prelude.{max, nat_lt, option_map, pos, slice_index_or, unsigned_abs, ◌+ℤ◌}
use Rattle.std.specs.List.{AllByRecursion, filter}
use Rattle.std.specs.Option.{is_some}
use Rattle.std.specs.Set.{distinct_count}
use Rattle.std.proofs.lemmas.Bool.{eq-eqb, eqb-true}
use Rattle.std.proofs.lemmas.Bool.Decides.{nat_tests}
use mathlib.Core.Path.{fun_ext}
use Rattle.dh_tree.specs.declared.tables.Dim.{Dim}
use Rattle.dh_tree.specs.declared.trees.counters.Counter.{Counter}
use Rattle.dh_tree.specs.Counters.{counters_of}
use Rattle.dh_tree.specs.Elements.{bank_of, banks_of, dims_at}
use Rattle.dh_tree.specs.Indices.{IndexKind, constant, iterator, dynamic, index_kind}
use Rattle.dh_tree.specs.Memories.{Memory, memory_in, memories_of, number_in, same_entity, table_of}
use Rattle.dh_tree.specs.PlainTrees.{Program, term, TermForm, number, truth_value, named, accessed, in_bank, applied, converted, Terms, no_terms, term_then}
use Rattle.dh_tree.specs.Seen.{program_seen}
use Rattle.dh_meaning.specs.CoreOf.{dims_by, entity_number}
use Rattle.dh_meaning.specs.Paths.{Path, copies_in, paths_in, same_path}
use Rattle.dh_meaning.specs.Ways.{Way, all_bindings_of, base_of, way_to}
use Rattle.dh_meets.specs.Charges.{bank_named, bank_reached, banks_in, charge, charge_by, charge_of, charge_through, depends, index_in, indices_in, keys_reaching, level_of_loop, may_reach, memory_banks, paths_of, picked, reaches, reaches_by, reaches_in}
use Rattle.dh_meets.specs.Sharing.{shared}
use Rattle.dh_meets.specs.SourceEvents.{SourceAccess}
use Rattle.dh_events.specs.Accesses.{element_in}
use Rattle.dh_ways.specs.Leading.{LeadsTo, next_dims}
use Rattle.dh_carried.proofs.ChargedBanks.{may_below}
use Rattle.dh_sound.proofs.BanksReached.{declared_dims}
use Rattle.dh_plan.specs.declared.operations.Reach.{Reach}
use Rattle.dh_plan.specs.SoundPlans.{place_charge, use_charge, use_in}
use Rattle.dh_expressions.specs.declared.paths.Level.{Level}
use Rattle.dh_expressions.specs.declared.scenes.Scene.{Scene}
use Rattle.dh_expressions.specs.Copying.{groups_by}
use Rattle.dh_expressions.specs.Counting.{copy_place, leaders_in, places_by}
use Rattle.dh_expressions.specs.Levels.{leader_number, path_at}
use Rattle.dh_expressions.specs.Named.{shifts_on}
use Rattle.dh_expressions.specs.Numbers.{narrowed}
use Rattle.dh_expressions.specs.ReachedBanks.{bank_by, index_first, indices_first, level_with}
use Rattle.dh_expressions.specs.Standings.{copy_places}
use Rattle.dh_formed.specs.Formed.{BlockSite}
use Rattle.dh_commands.specs.ShownVariables.{level_factors}
use Rattle.dh_laid.specs.LaidUses.{IsLeadersUse}
use Rattle.dh_blocks.specs.PathsOfLevels.{AreSpread}
use Rattle.dh_blocks.proofs.PathNumbers.{copy_in_path}
use Rattle.dh_charged.specs.LeadersCounted.{LeadersAreKeys}
use Rattle.dh_charged.specs.ChargedUses.{AreLevelsOf, AreSitesAt, HasShares, IsBankOf, IsReachedFrom, IsSiteAt, LedUsesCharge}
use Rattle.dh_charged.proofs.KeysLed.{all_leaders_are_keys}
use Rattle.dh_charged.proofs.ThroughCharged.{within}

-- Memories.

same_both : (o : Option ℕ) (e f : ℕ) → same_entity o (Some e) ≡ true → same_entity o (Some f) ≡ true → e ≡ f
same_both None e f h k = absurd (cc)
same_both (Some x) e f h k = sym (eqb-true x e h) ∙ eqb-true x f k

-- two entities whose memories have one number are one
one_entity : (ms : List Memory) (e f i : ℕ) → number_in ms (Some e) ≡ Some i → number_in ms (Some f) ≡ Some i → e ≡ f
one_entity [] e f i h k = absurd (cc)
one_entity (m ∷ ms) e f i h k =
    by (same_entity m.name.entity (Some e)) (same_entity m.name.entity (Some f)) refl refl (number_in ms (Some e)) (number_in ms (Some f)) h k (λ j a b. one_entity ms e f j a b)
  where
    first : (o : Option ℕ) → Some 0 ≡ Some i → option_map suc o ≡ Some i → ⊥
    first None h k = cc
    first (Some n) h k = let a : 0 ≡ i = cc in let b : suc n ≡ i = cc in omega (arith, a, b)

    both : (o q : Option ℕ) → option_map suc o ≡ Some i → option_map suc q ≡ Some i → ((j : ℕ) → o ≡ Some j → q ≡ Some j → e ≡ f) → e ≡ f
    both None q h k go = absurd (cc)
    both (Some n) None h k go = absurd (cc)
    both (Some n) (Some l) h k go = go n refl (ap (λ (x : ℕ). Some x) (same n l (cc) (cc)))
      where
        same : (a b : ℕ) → suc a ≡ i → suc b ≡ i → b ≡ a
        same a b u v = omega (arith, u, v)

    by : (s t : Bool) → same_entity m.name.entity (Some e) ≡ s → same_entity m.name.entity (Some f) ≡ t → (o q : Option ℕ)
        → (if s then Some 0 else option_map suc o) ≡ Some i → (if t then Some 0 else option_map suc q) ≡ Some i → ((j : ℕ) → o ≡ Some j → q ≡ Some j → e ≡ f) → e ≡ f
    by true true a b o q h k go = same_both m.name.entity e f a b
    by true false a b o q h k go = absurd (first q h k)
    by false true a b o q h k go = absurd (first o k h)
    by false false a b o q h k go = both o q h k go

-- Banks.

-- the loop that has an iterator is the same among levels and among loops
level_is : (levels : List Level) (loops : List Counter) (entity : Option ℕ) → map (λ (l : Level). l.entity) levels ≡ map (λ (c : Counter). c.entity) loops → level_with levels entity ≡ level_of_loop loops entity
level_is [] [] entity e = refl
level_is [] (c ∷ cs) entity e = absurd (cc)
level_is (l ∷ ls) [] entity e = absurd (cc)
level_is (l ∷ ls) (c ∷ cs) entity e =
    ap (λ (o : Option ℕ). if same_entity o entity then 0 else level_with ls entity + 1) (head_same l.entity c.entity _ _ e)
    ∙ ap (λ (n : ℕ). if same_entity c.entity entity then 0 else n) (one (level_with ls entity) (level_of_loop cs entity) (level_is ls cs entity (tail_same l.entity c.entity _ _ e)))
  where
    head_same : (x y : Option ℕ) (xs ys : List (Option ℕ)) → x ∷ xs ≡ y ∷ ys → x ≡ y
    head_same x y xs ys e = cc

    tail_same : (x y : Option ℕ) (xs ys : List (Option ℕ)) → x ∷ xs ≡ y ∷ ys → xs ≡ ys
    tail_same x y xs ys e = cc

    one : (a b : ℕ) → a ≡ b → a + 1 ≡ suc b
    one a b e = omega (arith, e)

module _ (cs : List Counter) (levels : List Level) (loops : List Counter) (is : AreLevelsOf levels loops) (k : ℕ) where
  index_told : (i : IndexKind) → index_first levels k i ≡ index_in loops (path_at levels k) i
  index_told (constant z) = refl
  index_told (iterator c offset) =
      ap (λ (n : ℕ). unsigned_abs (pos (c.low + n) +ℤ offset))
      (copy_in_path levels (level_with levels c.entity) k ∙ ap (λ (n : ℕ). slice_index_or (path_at levels k) n 0) (level_is levels loops c.entity is.entities))
  index_told dynamic = refl

  indices_told : (ts : Terms) → indices_first cs levels k ts ≡ indices_in cs loops (path_at levels k) ts
  indices_told no_terms = refl
  indices_told (term_then (term place kind form) rest) =
      ap (λ (n : ℕ). n ∷ indices_first cs levels k rest) (index_told (index_kind cs kind form)) ∙ ap (λ (l : List ℕ). index_in loops (path_at levels k) (index_kind cs kind form) ∷ l) (indices_told rest)

no_bank : (ds : List Dim) → 0 ≡ bank_of ds []
no_bank [] = refl
no_bank (d ∷ ds) = refl

-- the bank that a site tells is the one that is reached
bank_told : (p : Program) (way : Option Way) (levels : List Level) (a : SourceAccess) (memory : ℕ) (dims : List Dim) (form : TermForm) (k : ℕ) → AreLevelsOf levels a.site.loops → dims_by (dims_at (table_of p) memory) way ≡ dims
    → bank_by p way levels memory form k ≡ bank_reached (counters_of p) dims a (path_at levels k) (element_in form)
bank_told p way levels a memory dims (accessed r ts) k is d =
    ap (λ (ds : List Dim). bank_of ds (indices_first (counters_of p) levels k ts)) d ∙ ap (λ (l : List ℕ). bank_of dims l) (indices_told (counters_of p) levels a.site.loops is k ts)
bank_told p way levels a memory dims (in_bank r bank place row) k is d = refl
bank_told p way levels a memory dims (number negative z) k is d = no_bank dims
bank_told p way levels a memory dims (truth_value b) k is d = no_bank dims
bank_told p way levels a memory dims (named r) k is d = no_bank dims
bank_told p way levels a memory dims (applied op left right) k is d = no_bank dims
bank_told p way levels a memory dims (converted inner to) k is d = no_bank dims

small_kept : (n : ℕ) → n < 2 ^ 32 → narrowed n ≡ n
small_kept n h = grind (arith, h)

narrowed_less : (n : ℕ) → narrowed n ≤ n
narrowed_less n = grind arith

-- One use.

if_within : (t : Bool) (x y : ℕ) → (t ≡ true → x ≤ y) → (if t then x else 0) ≤ y
if_within true x y h = h refl
if_within false x y h = least y
  where
    least : (n : ℕ) → 0 ≤ n
    least n = omega arith

both_true : (a b : Bool) → (a && b) ≡ true → (a ≡ true) × (b ≡ true)
both_true true b e = (refl, e)
both_true false b e = absurd (cc)

-- a bank is charged no more than what stands behind the places of an operation on it
places_below : (bank limit : ℕ) (bs : List (ℕ × ℕ)) → AllByRecursion (λ (b : ℕ × ℕ). b.0 ≡ bank → suc b.1 ≤ limit) bs → place_charge bank bs ≤ limit
places_below bank limit [] h = least limit
  where
    least : (n : ℕ) → 0 ≤ n
    least n = omega arith
places_below bank limit (b ∷ bs) h = by (b.0 == bank) refl (places_below bank limit bs h.1)
  where
    both : (x y n : ℕ) → x ≤ n → y ≤ n → max x y ≤ n
    both x y n e f = grind (arith, e, f)

    by : (t : Bool) → (b.0 == bank) ≡ t → place_charge bank bs ≤ limit → (if t then max (suc b.1) (place_charge bank bs) else place_charge bank bs) ≤ limit
    by true e l = both (suc b.1) (place_charge bank bs) limit (h.0 (eqb-true b.0 bank e)) l
    by false e l = l

each_below : (P Q : ℕ × ℕ → Type 0) → ((b : ℕ × ℕ) → P b → Q b) → (bs : List (ℕ × ℕ)) → AllByRecursion P bs → AllByRecursion Q bs
each_below P Q so [] h = tt
each_below P Q so (b ∷ bs) h = (so b h.0, each_below P Q so bs h.1)

below_few : (n l : ℕ) → n < l → l ≤ 2 ^ 32 → n < 2 ^ 32
below_few n l h g = omega (arith, h, g)

no_further : (n m limit : ℕ) → n ≤ m → suc m ≤ limit → suc n ≤ limit
no_further n m limit h k = omega (arith, h, k)

module _ (scene : Scene) (levels : List Level) (sites : ℕ → Option BlockSite) (spread : AreSpread levels) (shares : HasShares scene) (of : AreSitesAt scene levels sites) (r : Reach) (u : IsLeadersUse scene sites r) where
  abbrev p : Program
  p = program_seen scene.program.now

  its : IsSiteAt scene levels r.access u.site
  its = of r.access u.site u.there

  abbrev a : SourceAccess
  a = its.access

  abbrev way : Option Way
  way = way_to p a.entity

  abbrev picks : ℕ → Bool
  picks = depends (all_bindings_of p) a

  abbrev copies : ℕ
  copies = copies_in (level_factors levels)

  abbrev dims : List Dim
  dims = dims_by its.memory.memory.shape.dims way

  memory_is : u.site.memory ≡ its.memory.number
  memory_is = its.tells.memory_is ∙ ap (λ (o : Option ℕ). entity_number o) (ap (λ (o : Option ℕ). number_in (memories_of p) o) its.memory.is ∙ its.memory.number_is)

  dims_are : dims_by (dims_at (table_of p) u.site.memory) way ≡ dims
  dims_are =
      ap (λ (ds : List Dim). dims_by ds way)
      (ap (λ (n : ℕ). dims_at (table_of p) n) (memory_is ∙ sym (ap (λ (o : Option ℕ). entity_number o) its.memory.number_is))
      ∙ declared_dims (memories_of p) (Some its.memory.entity) its.memory.memory its.memory.declared)

  bank_reaches : (k : ℕ) → u.site.standing.bank k ≡ bank_reached (counters_of p) dims a (path_at levels k) a.element
  bank_reaches k =
      its.tells.bank_is k
      ∙ (ap narrowed (told ∙ ap (λ e. bank_reached (counters_of p) dims a (path_at levels k) e) its.tells.element_is) ∙ small_kept _ (below_few _ (banks_of dims) (its.memory.inside (path_at levels k)) its.memory.few))
    where
      told : bank_by p way levels u.site.memory its.tells.form k ≡ bank_reached (counters_of p) dims a (path_at levels k) (element_in its.tells.form)
      told = bank_told p way levels a u.site.memory dims its.tells.form k its.tells.loops dims_are

  bank_below : (k : ℕ) → u.site.standing.bank k < banks_of dims
  bank_below k = subst (λ (n : ℕ). n < banks_of dims) (sym (bank_reaches k)) (its.memory.inside (path_at levels k))

  inside : u.path < copies
  inside = subst (λ (n : ℕ). u.path < n) its.tells.long u.within

  paths_same : paths_of a ≡ paths_in (level_factors levels)
  paths_same = sym (ap (λ (fs : List ℕ). paths_in fs) its.tells.loops.factors)

  leads_so : leader_number levels picks u.path ≡ u.path
  leads_so = sym (its.tells.leader_is u.path) ∙ u.leads

  -- the place of the copy
  abbrev place_by : (group : ℕ → ℕ) → ℕ
  place_by group = copy_place (leader_number levels picks) u.site.standing.bank group u.path

  place_most : copy_places u.site.standing u.path ≤ place_by (λ q. groups_by levels (shifts_on way) q)
  place_most =
      subst (λ (n : ℕ). n ≤ place_by (λ q. groups_by levels (shifts_on way) q)) (sym (its.tells.places_is u.path))
      (subst (λ (f : ℕ → ℕ). places_by f u.site.standing.bank (λ q. groups_by levels (shifts_on way) q) u.path ≤ place_by (λ q. groups_by levels (shifts_on way) q)) (sym leaders_are) (narrowed_less (place_by (λ q. groups_by levels (shifts_on way) q))))
    where
      leaders_are : u.site.standing.leader ≡ leader_number levels picks
      leaders_are = fun_ext its.tells.leader_is

  module _ (entity memory bank : ℕ) (declared : number_in (memories_of p) (Some entity) ≡ Some memory) (same_memory : r.memory ≡ memory) where
    entity_same : its.memory.entity ≡ entity
    entity_same = one_entity (memories_of p) its.memory.entity entity memory (its.memory.number_is ∙ ap (λ (n : ℕ). Some n) its_number) declared
      where
        its_number : its.memory.number ≡ memory
        its_number = sym (small_kept its.memory.number its.memory.small) ∙ (ap narrowed (sym memory_is) ∙ (sym u.memory_is ∙ same_memory))

    base_is : base_of way a.entity ≡ Some entity
    base_is = its.memory.is ∙ ap (λ (n : ℕ). Some n) entity_same

    memory_there : memory_in (memories_of p) (Some entity) ≡ Some its.memory.memory
    memory_there = ap (λ (n : ℕ). memory_in (memories_of p) (Some n)) (sym entity_same) ∙ its.memory.declared

    charged : charge p entity bank r.access ≡ charge_by p way a entity bank
    charged = ap (λ (o : Option SourceAccess). charge_of p entity bank r.access o) its.at ∙ by (shared p r.access) refl
      where
        by : (o : Option ℕ) → shared p r.access ≡ o → (if is_some (shared p r.access) then 0 else charge_by p way a entity bank) ≡ charge_by p way a entity bank
        by None e = ap (λ (q : Option ℕ). if is_some q then 0 else charge_by p way a entity bank) e
        by (Some j) e = absurd (u.alone j (shares r.access j e))

    -- Of a memory.
    module _ (unled : way ≡ None) where
      entity_is : a.entity ≡ Some entity
      entity_is = sym (ap (λ (o : Option Way). base_of o a.entity) unled) ∙ base_is

      own_reaches : (k : ℕ) → u.site.standing.bank k ≡ bank_reached (counters_of p) its.memory.memory.shape.dims a (path_at levels k) a.element
      own_reaches k = bank_reaches k ∙ ap (λ (o : Option Way). bank_reached (counters_of p) (dims_by its.memory.memory.shape.dims o) a (path_at levels k) a.element) unled

      reaches_told : (k : ℕ) → (u.site.standing.bank k == bank) ≡ reaches p a (path_at levels k) entity bank
      reaches_told k =
          ap (λ (n : ℕ). n == bank) (own_reaches k)
          ∙ (sym (ap (λ (o : Option Memory). reaches_in (counters_of p) o a (path_at levels k) bank) memory_there)
          ∙ (sym (ap (λ (t : Bool). t && reaches_in (counters_of p) (memory_in (memories_of p) (Some entity)) a (path_at levels k) bank) itself)
          ∙ sym (ap (λ (w : Option Way). reaches_by p w a (path_at levels k) entity bank) unled)))
        where
          itself : same_entity a.entity (Some entity) ≡ true
          itself = ap (λ (o : Option ℕ). same_entity o (Some entity)) entity_is ∙ eq-eqb entity entity refl

      keys : LeadersAreKeys levels picks
      keys = all_leaders_are_keys levels spread picks

      few_leaders : u.site.standing.bank u.path ≡ bank → suc (leaders_in (leader_number levels picks) u.site.standing.bank (λ q. 0) 0 bank u.path) ≤ distinct_count same_path (keys_reaching p a entity bank)
      few_leaders is =
          subst (λ (l : List Path). suc (leaders_in (leader_number levels picks) u.site.standing.bank (λ q. 0) 0 bank u.path) ≤ distinct_count same_path (map (picked picks 0) (filter (λ (q : Path). reaches p a q entity bank) l))) (sym paths_same)
          (keys.on_bank (λ (q : Path). reaches p a q entity bank) u.site.standing.bank (λ q. 0) 0 bank u.path (λ k l. reaches_told k) inside leads_so refl is)

      own_within : u.site.standing.bank u.path ≡ bank → suc (place_by (λ q. groups_by levels (shifts_on way) q)) ≤ charge_by p way a entity bank
      own_within is =
          subst (λ (o : Option Way). suc (place_by (λ q. groups_by levels (shifts_on o) q)) ≤ charge_by p o a entity bank) (sym unled)
          (subst (λ (b : ℕ). suc (leaders_in (leader_number levels picks) u.site.standing.bank (λ q. 0) 0 b u.path + 0) ≤ distinct_count same_path (keys_reaching p a entity bank)) (sym is)
          (none_more _ _ (few_leaders is)))
        where
          none_more : (n limit : ℕ) → suc n ≤ limit → suc (n + 0) ≤ limit
          none_more n limit h = omega (arith, h)

    -- Through views.
    module _ (w : Way) (led : way ≡ Some w) where
      abbrev lead : LeadsTo (memories_of p) w
      lead = its.memory.leads w led

      named_is : (k : ℕ) → u.site.standing.bank k ≡ bank_named p w a (path_at levels k)
      named_is k = bank_reaches k ∙ ap (λ (o : Option Way). bank_reached (counters_of p) (dims_by its.memory.memory.shape.dims o) a (path_at levels k) a.element) led

      named_below : (k : ℕ) → u.site.standing.bank k < banks_of (next_dims w.steps lead.memory.shape.dims)
      named_below k =
          subst (λ (ds : List Dim). u.site.standing.bank k < banks_of ds) (sym lead.first)
          (subst (λ (o : Option Way). u.site.standing.bank k < banks_of (dims_by its.memory.memory.shape.dims o)) led (bank_below k))

      memory_is_its : w.memory ≡ Some entity
      memory_is_its = sym (ap (λ (o : Option Way). base_of o a.entity) led) ∙ base_is

      -- what may be reached is a bank of the memory
      bank_there : may_reach w.steps (u.site.standing.bank u.path) bank ≡ true → (same_entity w.memory (Some entity) && nat_lt bank (banks_in p entity)) ≡ true
      bank_there reached =
          ap (λ (o : Option ℕ). same_entity o (Some entity) && nat_lt bank (banks_in p entity)) memory_is_its
          ∙ (ap (λ (t : Bool). t && nat_lt bank (banks_in p entity)) (eq-eqb entity entity refl)
          ∙ less_so bank (banks_in p entity)
          (subst (λ (o : Option Memory). bank < memory_banks o) (sym (ap (λ (o : Option ℕ). memory_in (memories_of p) o) (sym memory_is_its) ∙ lead.found))
          (may_below w.steps lead.memory.shape.dims (u.site.standing.bank u.path) bank lead.steps (named_below u.path) reached)))
        where
          less_so : (n m : ℕ) → n < m → nat_lt n m ≡ true
          less_so n m h = grind (arith, nat_tests)

      through_within : may_reach w.steps (u.site.standing.bank u.path) bank ≡ true → suc (place_by (λ q. groups_by levels (shifts_on way) q)) ≤ charge_by p way a entity bank
      through_within reached =
          subst (λ (o : Option Way). suc (place_by (λ q. groups_by levels (shifts_on o) q)) ≤ charge_by p o a entity bank) (sym led)
          (subst (λ (t : Bool). suc (place_by (λ q. groups_by levels w.shifts q)) ≤ (if t then charge_through p w a bank else 0)) (sym (bank_there reached))
          (within p w a lead.memory.shape.dims lead.steps levels spread paths_same u.site.standing.bank named_is named_below (its.memory.shifts w led) bank u.path inside leads_so reached))

    reached_within : (b : ℕ × ℕ) → IsReachedFrom way (u.site.standing.bank u.path) (copy_places u.site.standing u.path) b → b.0 ≡ bank → suc b.1 ≤ charge_by p way a entity bank
    reached_within b h is = by way refl h
      where
        own : b.1 ≡ copy_places u.site.standing u.path → suc (place_by (λ q. groups_by levels (shifts_on way) q)) ≤ charge_by p way a entity bank → suc b.1 ≤ charge_by p way a entity bank
        own e l = no_further b.1 (place_by (λ q. groups_by levels (shifts_on way) q)) (charge_by p way a entity bank) (subst (λ (n : ℕ). n ≤ place_by (λ q. groups_by levels (shifts_on way) q)) (sym e) place_most) l

        by : (o : Option Way) → way ≡ o → IsReachedFrom o (u.site.standing.bank u.path) (copy_places u.site.standing u.path) b → suc b.1 ≤ charge_by p way a entity bank
        by None e (at, place) = own place (own_within e (sym at ∙ is))
        by (Some w) e (reached, place) = own place (through_within w e (subst (λ (n : ℕ). may_reach w.steps (u.site.standing.bank u.path) n ≡ true) is reached))

    place_within : place_charge bank r.banks ≤ charge p entity bank r.access
    place_within =
        subst (λ (n : ℕ). place_charge bank r.banks ≤ n) (sym charged)
        (subst (λ (bs : List (ℕ × ℕ)). place_charge bank bs ≤ charge_by p way a entity bank) (sym u.banks_are)
        (places_below bank (charge_by p way a entity bank) (u.site.standing.reaches (u.site.standing.bank u.path) (copy_places u.site.standing u.path))
        (each_below (IsReachedFrom way (u.site.standing.bank u.path) (copy_places u.site.standing u.path)) (λ (b : ℕ × ℕ). b.0 ≡ bank → suc b.1 ≤ charge_by p way a entity bank) reached_within
        (u.site.standing.reaches (u.site.standing.bank u.path) (copy_places u.site.standing u.path)) (its.tells.reaches (u.site.standing.bank u.path) (copy_places u.site.standing u.path) named_there))))
      where
        named_there : IsBankOf way (u.site.standing.bank u.path)
        named_there = by way (bank_below u.path)
          where
            by : (o : Option Way) → u.site.standing.bank u.path < banks_of (dims_by its.memory.memory.shape.dims o) → IsBankOf o (u.site.standing.bank u.path)
            by None l = tt
            by (Some w) l = l

  pub use_within : (entity memory bank access : ℕ) → number_in (memories_of p) (Some entity) ≡ Some memory → use_charge access memory bank (Some r) ≤ charge p entity bank access
  use_within entity memory bank access declared =
      if_within ((r.access == access) && (r.memory == memory)) _ _
      (λ e. let b = both_true (r.access == access) (r.memory == memory) e in
      subst (λ (n : ℕ). place_charge bank r.banks ≤ charge p entity bank n) (eqb-true r.access access b.0) (place_within entity memory bank declared (eqb-true r.memory memory b.1)))

-- All operations.

least_both : (x y n : ℕ) → x ≤ n → y ≤ n → max x y ≤ n
least_both x y n h k = grind (arith, h, k)

pub led_uses_charge : LedUsesCharge
led_uses_charge scene levels sites [] spread shares uses of entity memory bank access declared = least (charge (program_seen scene.program.now) entity bank access)
  where
    least : (n : ℕ) → 0 ≤ n
    least n = omega arith
led_uses_charge scene levels sites (o ∷ os) spread shares uses of entity memory bank access declared =
    least_both _ _ (charge (program_seen scene.program.now) entity bank access) (one (use_in o.form) refl) (led_uses_charge scene levels sites os spread shares uses.1 of entity memory bank access declared)
  where
    least : (n : ℕ) → 0 ≤ n
    least n = omega arith

    one : (u : Option Reach) → use_in o.form ≡ u → use_charge access memory bank u ≤ charge (program_seen scene.program.now) entity bank access
    one None e = least (charge (program_seen scene.program.now) entity bank access)
    one (Some r) e = use_within scene levels sites spread shares of r (uses.0 r e) entity memory bank access declared
