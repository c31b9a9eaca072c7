-- The keys with which copies of an access through views reach a bank in a step are no more than the access charges on it.
-- For each key one copy is taken that was made with it; those of a group lead along the way, as their offsets at shifts
-- are the same: what the block does not touch is kept once for all copies of the group, and what it touches is declared
-- inside all its loops, so that copies that find it together are one.
use Rattle.std.proofs.Common.{◌≡◌, inl, inr, ℕ, zero, suc, ◌≤◌, ◌==◌, Bool, true, false, List, [], ◌∷◌, length, map, take, drop, Some, refl, sym, ◌∙◌, ap, subst, arith, ℤ}
use Rattle.std.specs.Prelude.{slice_index}
use Rattle.std.specs.List.{AllByRecursion, filter}
use Rattle.std.specs.Set.{distinct_count, unique_keys}
use Rattle.std.proofs.lemmas.Bool.{eq-eqb}
use Rattle.dh_tree.specs.declared.tables.Dim.{Dim}
use Rattle.dh_tree.specs.Memories.{memories_of}
use Rattle.dh_tree.specs.PlainTrees.{Program}
use Rattle.dh_tree.specs.ViewElements.{is_inside, named_by}
use Rattle.dh_viewing.specs.Carried.{AllLead, Among, Copy, bank_in}
use Rattle.dh_viewing.specs.ReachedBanks.{bank_at}
use Rattle.dh_meaning.specs.Bindings.{binding_in, depth_bound}
use Rattle.dh_meaning.specs.Effects.{Begun, Variables, indices_through}
use Rattle.dh_meaning.specs.Paths.{Path, same_path, IsPathAmong}
use Rattle.dh_meaning.specs.Ways.{Hidden, WayStep, Way, all_bindings_of, way_to}
use Rattle.dh_meets.specs.Charges.{bank_named, charge_through, key_of, paths_of}
use Rattle.dh_meets.specs.SourceEvents.{SourceAccess}
use Rattle.dh_ways.specs.Leading.{LeadsTo, next_dims}
use Rattle.dh_ways.specs.SpotsThrough.{offsets_at}
use Rattle.dh_carried.specs.MadeCopies.{AreCopiesOf, IsCopyOf, MadeCopy, copies_of_made, in_group, is_of_group, views_on}
use Rattle.dh_carried.proofs.CarriedKeys.{fewer_keys}
use Rattle.dh_carried.proofs.GroupedKeys.{filtered_has, groups_cover, has_filtered, mapped_has}
use Rattle.dh_sound.specs.SameKeys.{IsNearTo}
use Rattle.dh_sound.specs.ViewsBound.{ViewsBound}
use Rattle.dh_sound.proofs.CopiesThrough.{Passes, all_lead, bank_here, banks_along, behind_step}
use Rattle.dh_sound.proofs.Counting.{same_list, whole_list}
use Rattle.dh_carried.proofs.Pigeons.{Has, NoTwice, has_mapped, has_unique, unique_has, unique_once}
use Rattle.dh_sound.proofs.SettledNames.{long_part}
use Rattle.dh_sound.proofs.ShiftsOnWays.{HoldsShifts, shifts_same}

-- Paths.

-- paths that agree up to a depth agree up to less
less_part : (d n : ℕ) (x y : Path) → d ≤ n → take n x ≡ take n y → take d x ≡ take d y
less_part d n x y l e = sym (again d n x l) ∙ (ap (λ z. take d z) e ∙ again d n y l)
  where
    again : (d n : ℕ) (z : Path) → d ≤ n → take d (take n z) ≡ take d z
    again zero n z l = refl
    again (suc d) zero z l = absurd (omega (arith, l))
    again (suc d) (suc n) [] l = refl
    again (suc d) (suc n) (c ∷ z) l = ap (λ (r : Path). c ∷ r) (again d n z (omega (arith, l)))

module _ (p : Program) (b : Begun) (bound : ViewsBound p) (a : SourceAccess) (w : Way) (is : way_to p a.entity ≡ Some w) (lead : LeadsTo (memories_of p) w) (shifts : HoldsShifts w)
    (v0 : Variables) (touched : ℕ → Bool) (depth : ℕ) (inside : (e : ℕ) → touched e ≡ true → depth ≤ depth_bound (binding_in (all_bindings_of p) e)) (bank : ℕ) where
  abbrev dims : List Dim
  dims = lead.memory.shape.dims

  -- a copy that was made, at a path of the block, and where it leads
  pub record Copied : Type 0 where
    pub path : Path
    pub there : IsPathAmong path (paths_of a)
    pub long : length path ≡ depth
    pub variables : Variables
    pub near : IsNearTo v0 touched variables
    pub indices : List ℤ
    pub last : List ℤ
    pub through : indices_through w.steps indices (offsets_at b variables path (Some w)) ≡ Some last
    pub ends : is_inside dims last ≡ true
    pub reached : bank_at dims last ≡ bank
    pub named : bank_at (next_dims w.steps dims) indices ≡ bank_named p w a path

  abbrev pub key : Copied → List ℕ
  key c = key_of (all_bindings_of p) a c.path

  abbrev copy_of : Copied → Copy
  copy_of c = record { key = key c; banks = banks_along dims w.steps c.indices (offsets_at b c.variables c.path (Some w)) }

  abbrev made_of : Copied → MadeCopy
  made_of c = record { path = c.path; copy = copy_of c }

  abbrev passes : (c : Copied) → Passes dims w.steps 0 (copy_of c)
  passes c = record { indices = c.indices; offsets = offsets_at b c.variables c.path (Some w); last = c.last; through = c.through; inside = c.ends; front = []; long = refl; banks = refl }

  -- the bank behind all views
  last_bank : (ss : List WayStep) (indices offsets last : List ℤ) → indices_through ss indices offsets ≡ Some last → slice_index (banks_along dims ss indices offsets) (length ss) ≡ bank_at dims last
  last_bank [] indices offsets last h = ap (λ (l : List ℤ). bank_at dims l) (same indices last h)
    where
      same : (xs ys : List ℤ) → Some xs ≡ Some ys → xs ≡ ys
      same xs ys f = cc
  last_bank (s ∷ ss) indices offsets last h = last_bank ss (named_by s.is (take s.offsets offsets) indices) (drop s.offsets offsets) last (behind_step s ss indices offsets last h)

  -- One copy for each key.

  abbrev Picked : List ℕ → Type 0
  Picked k = (c : Copied) × (key c ≡ k)

  abbrev picks : (ks : List (List ℕ)) → ((k : List ℕ) → Has k ks → Picked k) → List Copied
  picks [] f = []
  picks (k ∷ ks) f = (f k (inl refl)).0 ∷ picks ks (λ l h. f l (inr h))

  key_among : (ks : List (List ℕ)) (f : (k : List ℕ) → Has k ks → Picked k) (c : Copied) → Has c (picks ks f) → Has (key c) ks
  key_among [] f c h = elim h [ ]
  key_among (k ∷ ks) f c (inl e) = inl (ap (λ x. key x) e ∙ (f k (inl refl)).1)
  key_among (k ∷ ks) f c (inr h) = inr (key_among ks (λ l g. f l (inr g)) c h)

  all_picked : (ks : List (List ℕ)) (f : (k : List ℕ) → Has k ks → Picked k) (k : List ℕ) → Has k ks → (c : Copied) × (Has c (picks ks f) × (key c ≡ k))
  all_picked [] f k h = elim h [ ]
  all_picked (l ∷ ks) f k (inl e) = ((f l (inl refl)).0, (inl refl, (f l (inl refl)).1 ∙ sym e))
  all_picked (l ∷ ks) f k (inr h) = let (c, (g, e)) = all_picked ks (λ m i. f m (inr i)) k h in (c, (inr g, e))

  -- those of one path are one
  one_path : (ks : List (List ℕ)) (f : (k : List ℕ) → Has k ks → Picked k) → NoTwice ks → (c d : Copied) → Has c (picks ks f) → Has d (picks ks f) → c.path ≡ d.path → c ≡ d
  one_path [] f once c d h g e = elim h [ ]
  one_path (k ∷ ks) f once c d (inl i) (inl j) e = i ∙ sym j
  one_path (k ∷ ks) f once c d (inl i) (inr g) e =
      elim (once.0 (subst (λ (l : List ℕ). Has l ks) (sym (ap (key_of (all_bindings_of p) a) e) ∙ (ap (λ x. key x) i ∙ (f k (inl refl)).1)) (key_among ks (λ l m. f l (inr m)) d g))) [ ]
  one_path (k ∷ ks) f once c d (inr h) (inl j) e =
      elim (once.0 (subst (λ (l : List ℕ). Has l ks) (ap (key_of (all_bindings_of p) a) e ∙ (ap (λ x. key x) j ∙ (f k (inl refl)).1)) (key_among ks (λ l m. f l (inr m)) c h))) [ ]
  one_path (k ∷ ks) f once c d (inr h) (inr g) e = one_path ks (λ l m. f l (inr m)) once.1 c d h g e

  -- The copies of the keys.
  module _ (keys : List (List ℕ)) (pick : (k : List ℕ) → Has k keys → Picked k) where
    abbrev distinct : List (List ℕ)
    distinct = unique_keys same_path keys

    once : NoTwice distinct
    once = unique_once same_path same_list whole_list keys

    abbrev pick_one : (k : List ℕ) → Has k distinct → Picked k
    pick_one k h = pick k (unique_has same_path same_list whole_list k keys h)

    abbrev taken : List Copied
    taken = picks distinct pick_one

    abbrev made : List MadeCopy
    made = map made_of taken

    each_copy : (cs : List Copied) → AllByRecursion (λ (m : MadeCopy). IsCopyOf p w a m) (map made_of cs)
    each_copy [] = tt
    each_copy (c ∷ cs) = (record { there = c.there; key = refl; named = bank_here dims w.steps 0 (copy_of c) (passes c) ∙ c.named }, each_copy cs)

    -- a copy of a group
    record InGroup (group : Path) (o : Copy) : Type 0 where
      copied : Copied
      among : Has copied taken
      grouped : take w.shifts copied.path ≡ group
      is_of : o ≡ copy_of copied

    among_has : (o : Copy) (cs : List Copy) → Among o cs → Has o cs
    among_has o [] h = elim h [ ]
    among_has o (c ∷ cs) (inl e) = inl e
    among_has o (c ∷ cs) (inr h) = inr (among_has o cs h)

    grouped_of : (group : Path) (o : Copy) → Among o (in_group w group made) → InGroup group o
    grouped_of group o h =
        let (m, (at, same)) = mapped_has (λ (c : MadeCopy). c.copy) o (filter (is_of_group w group) made) (among_has o (in_group w group made) h) in
        let (there, picked) = filtered_has (is_of_group w group) m made at in
        let (c, (among, e)) = mapped_has made_of m taken there in
        record {
          copied = c;
          among = among;
          grouped = same_list (take w.shifts c.path) group (ap (λ (x : MadeCopy). is_of_group w group x) (sym e) ∙ picked);
          is_of = same ∙ ap (λ (x : MadeCopy). x.copy) e;
        }

    abbrev pass : (group : Path) (o : Copy) → Among o (in_group w group made) → Passes dims w.steps 0 o
    pass group o h =
        let g = grouped_of group o h in
        let q = passes g.copied in
        record { indices = q.indices; offsets = q.offsets; last = q.last; through = q.through; inside = q.inside; front = []; long = refl; banks = ap (λ (x : Copy). x.banks) g.is_of }

    abbrev IsKept : Hidden → Type 0
    IsKept h = depth_bound (binding_in (all_bindings_of p) h.entity) ≡ h.depth

    -- what is kept no deeper than the deepest shift is the same for copies of a group
    group_same : (group : Path) (o q : Copy) (x : InGroup group o) (y : InGroup group q) (h : Hidden) → IsKept h → h.depth ≤ w.shifts
        → x.copied.variables h.entity (take h.depth x.copied.path) ≡ y.copied.variables h.entity (take h.depth y.copied.path)
    group_same group o q x y h kept deep = by (touched h.entity) refl
      where
        part : take w.shifts x.copied.path ≡ take w.shifts y.copied.path
        part = x.grouped ∙ sym y.grouped

        by : (t : Bool) → touched h.entity ≡ t → x.copied.variables h.entity (take h.depth x.copied.path) ≡ y.copied.variables h.entity (take h.depth y.copied.path)
        by false left =
            x.copied.near h.entity (take h.depth x.copied.path) left
            ∙ (ap (λ z. v0 h.entity z) (less_part h.depth w.shifts x.copied.path y.copied.path deep part) ∙ sym (y.copied.near h.entity (take h.depth y.copied.path) left))
        by true hit =
            let full = inside h.entity hit in
            let own : depth_bound (binding_in (all_bindings_of p) h.entity) ≡ h.depth = kept in
            let m = x.copied.long in
            let n = y.copied.long in
            let paths : x.copied.path ≡ y.copied.path =
            sym (long_part w.shifts x.copied.path (omega (arith, full, own, deep, m))) ∙ (part ∙ long_part w.shifts y.copied.path (omega (arith, full, own, deep, n))) in
            ap (λ (c : Copied). c.variables h.entity (take h.depth c.path)) (one_path distinct pick_one once x.copied y.copied x.among y.among paths)

    group_leads : (group : Path) → AllLead (views_on w) (in_group w group made) 0
    group_leads group =
        all_lead dims w.steps 0 (in_group w group made) lead.steps (pass group)
        (λ o q h g.
        (let x = grouped_of group o h in
        let y = grouped_of group q g in
        shifts_same b x.copied.variables y.copied.variables x.copied.path y.copied.path w.shifts IsKept (group_same group o q x y) w.steps w.hidden shifts (bound.kept a.entity w is)))

    copies : AreCopiesOf p w a made
    copies = record { each = each_copy taken; lead = group_leads }

    -- each key is that of a copy in the bank
    key_there : (k : List ℕ) → Has k keys → Has k (map (λ (c : Copy). c.key) (filter (λ (c : Copy). bank_in (length (views_on w)) c == bank) (copies_of_made made)))
    key_there k h =
        let (c, (among, e)) = all_picked distinct pick_one k (has_unique same_path same_list whole_list k keys h) in
        let there : Has (copy_of c) (copies_of_made made) = has_mapped (λ (m : MadeCopy). m.copy) (made_of c) made (has_mapped made_of c taken among) in
        let level : bank_in (length (views_on w)) (copy_of c) ≡ bank = ap (λ n. bank_in n (copy_of c)) (views_long w.steps) ∙ (last_bank w.steps c.indices (offsets_at b c.variables c.path (Some w)) c.last c.through ∙ c.reached) in
        subst (λ (l : List ℕ). Has l (map (λ (o : Copy). o.key) (filter (λ (o : Copy). bank_in (length (views_on w)) o == bank) (copies_of_made made)))) e
        (has_mapped (λ (o : Copy). o.key) (copy_of c) (filter (λ (o : Copy). bank_in (length (views_on w)) o == bank) (copies_of_made made))
        (has_filtered (λ (o : Copy). bank_in (length (views_on w)) o == bank) (copy_of c) (copies_of_made made) there (eq-eqb (bank_in (length (views_on w)) (copy_of c)) bank level)))
      where
        views_long : (ss : List WayStep) → length (map (λ (s : WayStep). s.is) ss) ≡ length ss
        views_long [] = refl
        views_long (s ∷ ss) = ap suc (views_long ss)

    pub keys_covered : distinct_count same_path keys ≤ charge_through p w a bank
    keys_covered =
        let f = fewer_keys keys (map (λ (c : Copy). c.key) (filter (λ (c : Copy). bank_in (length (views_on w)) c == bank) (copies_of_made made))) key_there in
        let g = groups_cover p w a made copies bank in
        omega (arith, f, g)
