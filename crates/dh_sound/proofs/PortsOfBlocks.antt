-- A block that is done in its loops spends of each bank at most the ports of the memory. What is told of its events,
-- by walks along the trace, by the banks that indices reach and by the keys of reads, is what counting asks; the
-- accesses that were made in one bank are together, and cover what it spends; and a program that keeps its ports has no
-- set of accesses that are together and charge more.
use Rattle.std.proofs.Common.{◌≡◌, ◌⊎◌, inl, inr, ℕ, zero, suc, ◌+◌, ◌<◌, ◌≤◌, ◌&&◌, nat_eq, nat_lt, Bool, true, false, if◌then◌else◌, List, [], ◌∷◌, length, map, slice_get, Option, Some, None, refl, sym, ◌∙◌, ap, subst, arith}
use Rattle.std.specs.Option.{is_some, option_map}
use Rattle.std.specs.List.{filter}
use Rattle.std.specs.Set.{distinct_count}
use Rattle.std.proofs.lemmas.Bool.{eq-eqb}
use Rattle.std.proofs.lemmas.Bool.Decides.{nat_tests}
use Rattle.dh_base.specs.declared.places.Place.{Place}
use Rattle.dh_tree.specs.Elements.{Spot, banks_of, ports_at, entry_ports}
use Rattle.dh_tree.specs.Meets.{Apart, Together}
use Rattle.dh_tree.specs.Memories.{Memory, same_entity, number_in, memory_in, memories_of, entry_of, table_of}
use Rattle.dh_tree.specs.PlainTrees.{Program}
use Rattle.dh_meaning.specs.Core.{Turning, CoreCommands, Reach}
use Rattle.dh_viewing.specs.ReachedBanks.{bank_at}
use Rattle.dh_viewing.proofs.BankDigits.{bank_at_below}
use Rattle.dh_meaning.specs.Bindings.{binding_in, depth_bound}
use Rattle.dh_meaning.specs.CoreOf.{core_terms, known_of, entity_number}
use Rattle.dh_meaning.specs.Effects.{Begun, Variables, Event, reads, writes, is_at, spent, spot_reached}
use Rattle.dh_meaning.specs.OnePhase.{in_one_phase}
use Rattle.dh_meaning.specs.Paths.{Path, same_path, paths_in}
use Rattle.dh_meaning.specs.Sites.{Around}
use Rattle.dh_meets.specs.Charges.{banks_in, charge, charge_by, charge_of, charge_through, key_of, keys_reaching, memory_banks, reaches, paths_of, loop_factors}
use Rattle.dh_meets.specs.MayMeet.{meets_in}
use Rattle.dh_meets.specs.Ports.{KeepsPorts, ports_or_zero}
use Rattle.dh_meets.specs.SourceEvents.{Element, with_indices, in_row, SourceAccess}
use Rattle.dh_sound.specs.Blocks.{factors, paths_inside}
use Rattle.dh_sound.specs.BlocksCovered.{AreCovered}
use Rattle.dh_sound.specs.BlockTold.{IsOfMemory, AccessesDeclared, IndicesTold}
use Rattle.dh_sound.specs.IndexValues.{IsTypedProgram, IsMadeAccess, target_of}
use Rattle.dh_sound.specs.SameKeys.{IsNearTo}
use Rattle.dh_tree.specs.declared.trees.counters.Counter.{Counter}
use Rattle.dh_sound.specs.IndexRules.{KeepsIndexRules}
use Rattle.dh_sound.specs.ToldEvents.{access_at, key_from, key_at, AreTold}
use Rattle.dh_sound.proofs.AccessBanks.{bank_through, bank_told}
use Rattle.dh_sound.proofs.BanksThrough.{ThroughTold}
use Rattle.dh_sound.proofs.Ascending.{number_of, Ascends}
use Rattle.dh_sound.proofs.BanksReached.{numbered}
use Rattle.dh_sound.proofs.BlockEvents.{block_events, once}
use Rattle.dh_sound.proofs.Counting.{Made, Among, was_made, rows_of, writes_of}
use Rattle.dh_sound.proofs.DistinctPaths.{inside_copies}
use Rattle.dh_sound.proofs.IndicesKeep.{memory_dims}
use Rattle.dh_sound.proofs.KeysCovered.{Copied, key, keys_covered}
use Rattle.dh_sound.proofs.Lockstep.{path_of}
use Rattle.dh_sound.proofs.MadeEvents.{made_there, made_by_event, IsMadeThere, by_read, by_write, spent_there}
use Rattle.dh_sound.proofs.OneElement.{one_element, same_length}
use Rattle.dh_sound.proofs.OnePath.{all_made_by}
use Rattle.dh_sound.proofs.PathsOfEvents.{AreOnce}
use Rattle.dh_carried.proofs.Pigeons.{Has, has_mapped}
use Rattle.dh_sound.proofs.SettledNames.{inside_long}
use Rattle.dh_sound.proofs.ShiftsOnWays.{HoldsShifts}
use Rattle.dh_sound.proofs.SourceValues.{memory_at, source_spot}
use Rattle.dh_sound.proofs.SpentInBlocks.{AreCharged, MadeWith, keys_made, made_numbers, made_with, spent_told}
use Rattle.dh_sound.proofs.Sums.{total_below}
use Rattle.dh_sound.proofs.TermWalks.{IsGood}
use Rattle.dh_sound.proofs.ToldByWalks.{ReadTold, WriteTold, read_told, write_told}
use Rattle.dh_sound.specs.Deep.{AreDeep}
use Rattle.dh_meaning.specs.Ways.{all_bindings_of}
use Rattle.dh_sound.specs.ViewsBound.{ViewsBound}
use Rattle.dh_sound.proofs.OffsetsSettled.{offsets_settled}
use Rattle.dh_meaning.specs.Ways.{Way, base_of, way_to}
use Rattle.dh_ways.specs.Leading.{LeadsTo}
use Rattle.dh_ways.proofs.TargetsOnWays.{target_is}
use Rattle.dh_carried.proofs.CarriedKeys.{fewer_keys}

-- Memories by number.

same_number : (a b : ℕ) → nat_eq a b ≡ true → a ≡ b
same_number a b e = grind (arith, nat_tests)

both_same : (o : Option ℕ) (e f : ℕ) → same_entity o (Some e) ≡ true → same_entity o (Some f) ≡ true → e ≡ f
both_same None e f h k = cc
both_same (Some n) e f h k = sym (same_number n e h) ∙ same_number n f k

suc_of : (o : Option ℕ) (i : ℕ) → option_map suc o ≡ Some (suc i) → o ≡ Some i
suc_of None i e = cc
suc_of (Some j) i e = let s : suc j ≡ suc i = cc in ap Some (omega (arith, s))

never_zero : (o : Option ℕ) → option_map suc o ≡ Some 0 → ⊥
never_zero None e = cc
never_zero (Some j) e = let s : suc j ≡ 0 = cc in omega (arith, s)

-- memories of one number are one
one_entity : (ms : List Memory) (e f i : ℕ) → number_in ms (Some e) ≡ Some i → number_in ms (Some f) ≡ Some i → e ≡ f
one_entity [] e f i h k = cc
one_entity (m ∷ ms) e f i h k = by (same_entity m.name.entity (Some e)) refl (same_entity m.name.entity (Some f)) refl i h k (one_entity ms e f)
  where
    by : (x : Bool) → same_entity m.name.entity (Some e) ≡ x → (y : Bool) → same_entity m.name.entity (Some f) ≡ y → (j : ℕ)
        → (if x then Some 0 else option_map suc (number_in ms (Some e))) ≡ Some j → (if y then Some 0 else option_map suc (number_in ms (Some f))) ≡ Some j
        → ((j : ℕ) → number_in ms (Some e) ≡ Some j → number_in ms (Some f) ≡ Some j → e ≡ f) → e ≡ f
    by true s true t j h k more = both_same m.name.entity e f s t
    by true s false t zero h k more = elim (never_zero (number_in ms (Some f)) k) [ ]
    by true s false t (suc j) h k more = cc
    by false s true t zero h k more = elim (never_zero (number_in ms (Some e)) h) [ ]
    by false s true t (suc j) h k more = cc
    by false s false t zero h k more = elim (never_zero (number_in ms (Some e)) h) [ ]
    by false s false t (suc j) h k more = more j (suc_of (number_in ms (Some e)) j h) (suc_of (number_in ms (Some f)) j k)

-- the ports of a memory, by its number
declared_ports : (ms : List Memory) (entity : Option ℕ) (m : Memory) (i : ℕ) → memory_in ms entity ≡ Some m → number_in ms entity ≡ Some i → ports_at (map entry_of ms) i ≡ m.shape.ports
declared_ports ms entity m i e f =
    let (j, (is, at)) = numbered ms entity m e in
    let same : Some i ≡ Some j = sym f ∙ is in
    ap entry_ports (ap (slice_get (map entry_of ms)) (ap entity_number same) ∙ at)

-- Events that are one.
one_event : (es : List Event) → AreOnce es → (x y : Event) → Has x es → Has y es → path_of x ≡ path_of y → number_of x ≡ number_of y → x ≡ y
one_event [] once x y h k p n = elim h [ ]
one_event (e ∷ es) once x y (inl i) (inl j) p n = i ∙ sym j
one_event (e ∷ es) once x y (inl i) (inr k) p n = elim (once.0 y k (sym p ∙ ap path_of i) (sym n ∙ ap number_of i)) [ ]
one_event (e ∷ es) once x y (inr h) (inl j) p n = elim (once.0 x h (p ∙ ap path_of j) (n ∙ ap number_of j)) [ ]
one_event (e ∷ es) once x y (inr h) (inr k) p n = one_event es once.1 x y h k p n

same_spot : (n k : ℕ) (a b : Place) (p q : Path) (s t : Spot) → reads n a p s ≡ reads k b q t → s ≡ t
same_spot n k a b p q s t e = cc

some_same : {A : Type 0} (x y : A) → Some x ≡ Some y → x ≡ y
some_same x y e = cc

both_true : (x y : Bool) → (x && y) ≡ true → (x ≡ true) × (y ≡ true)
both_true true y e = (refl, e)
both_true false y e = cc

has_filtered : {A : Type 0} (test : A → Bool) (x : A) (xs : List A) → Has x xs → test x ≡ true → Has x (filter test xs)
has_filtered test x [] h e = h
has_filtered test x (y ∷ xs) (inl i) e = subst (λ (z : _). Has x (if test z then z ∷ filter test xs else filter test xs)) i (here (test x) e)
  where
    here : (t : Bool) → t ≡ true → Has x (if t then x ∷ filter test xs else filter test xs)
    here true f = inl refl
    here false f = cc
has_filtered test x (y ∷ xs) (inr h) e = by (test y) (has_filtered test x xs h e)
  where
    by : (t : Bool) → Has x (filter test xs) → Has x (if t then y ∷ filter test xs else filter test xs)
    by true g = inr g
    by false g = g

-- an access that was made
was_there : (ms : List Made) (n : ℕ) → was_made ms n ≡ true → (m : Made) × (Among m ms × (m.number ≡ n))
was_there [] n e = cc
was_there (m ∷ ms) n e = by (nat_eq m.number n) refl e (was_there ms n)
  where
    by : (x : Bool) → nat_eq m.number n ≡ x → (if x then true else was_made ms n) ≡ true → (was_made ms n ≡ true → (o : Made) × (Among o ms × (o.number ≡ n))) → (o : Made) × (Among o (m ∷ ms) × (o.number ≡ n))
    by true f g more = (m, (inl refl, same_number m.number n f))
    by false f g more = let (o, (a, i)) = more g in (o, (inr a, i))

module _ (p : Program) (typed : IsTypedProgram p) (rules : KeepsIndexRules p) (declared : AccessesDeclared p) (bound : ViewsBound p)
    (lead_all : (entity : Option ℕ) (w : Way) → way_to p entity ≡ Some w → LeadsTo (memories_of p) w) (shift_all : (entity : Option ℕ) (w : Way) → way_to p entity ≡ Some w → HoldsShifts w)
    (b : Begun) (table : b.table ≡ table_of p) (in_block : ℕ → Bool) (share : Path → (j k : ℕ) → in_one_phase p j k ≡ true → in_block k ≡ true → in_block j ≡ true) (touched : ℕ → Bool) (r : Around)
    (loops : List Turning) (cs : CoreCommands) (deep : AreDeep (length (factors loops)) cs) (v : Variables)
    (good : (path : Path) → Has path (paths_inside loops) → (ev : Event) → Has ev (all_made_by b path cs v) → IsGood p b (known_of p) path in_block (share path) v touched r (all_made_by b path cs v) ev)
    (ascends : (path : Path) → Has path (paths_inside loops) → (low : ℕ) × ((high : ℕ) × Ascends low (all_made_by b path cs v) high))
    (indices : IndicesTold p in_block touched (paths_inside loops) v)
    (paths : paths_inside loops ≡ paths_in (loop_factors r.loops))
    (together : (x y : Event) → Has x (block_events b (length (factors loops)) (paths_inside loops) (inside_copies b loops) cs deep v) → Has y (block_events b (length (factors loops)) (paths_inside loops) (inside_copies b loops) cs deep v)
    → Apart (meets_in p) (number_of x) (number_of y) → ⊥) where
  abbrev depth : ℕ
  depth = length (factors loops)

  abbrev pub made_events : List Event
  made_events = block_events b depth (paths_inside loops) (inside_copies b loops) cs deep v

  abbrev IsRead : (n : ℕ) → Path → Spot → Type 0
  IsRead n path s = ReadTold p b (known_of p) in_block share touched r depth (paths_inside loops) (inside_copies b loops) cs deep v good n path s

  abbrev IsWrite : (n : ℕ) → Path → Spot → Type 0
  IsWrite n path s = WriteTold p b (known_of p) in_block share touched r depth (paths_inside loops) (inside_copies b loops) cs deep v good n path s

  read_of : (n : ℕ) (place : Place) (path : Path) (s : Spot) → Has (reads n place path s) made_events → IsRead n path s
  read_of n place path s h = read_told p b (known_of p) in_block share touched r depth (paths_inside loops) (inside_copies b loops) cs deep v good n place path s h

  write_of : (n : ℕ) (place : Place) (path : Path) (s : Spot) (value : ℕ) → Has (writes n place path s value) made_events → IsWrite n path s
  write_of n place path s value h = write_told p b (known_of p) in_block share touched r depth (paths_inside loops) (inside_copies b loops) cs deep v good n place path s value h

  are_once : AreOnce made_events
  are_once = once b depth (paths_inside loops) (inside_copies b loops) cs deep v ascends

  -- Banks.

  abbrev reach_of : (n : ℕ) (a : SourceAccess) → Reach
  reach_of n a = record { number = n; place = a.place; memory = memory_at b (known_of p) a.entity }

  found_spot : (u : Variables) (path : Path) (n : ℕ) (a : SourceAccess) (e : Element) → source_spot b (known_of p) u path a.entity e ≡ spot_reached b u path (reach_of n a) (target_of (known_of p) 0 a.entity e)
  found_spot u path n a (with_indices ts) = sym (target_is b u path (reach_of n a) (way_to p a.entity) (core_terms (known_of p) 0 ts))
  found_spot u path n a (in_row bank t) = refl

  -- where an access leads that the block makes: into a bank that the rules take it to reach, of the memory that it is of
  -- or that its views lead to
  record Leads (k : ℕ) (a : SourceAccess) (path : Path) (s : Spot) (u : Variables) : Type 0 where
    of : IsOfMemory p a
    memory : s.memory ≡ memory_at b (known_of p) a.entity
    bank : reaches p a path of.entity s.bank ≡ true
    through : (w : Way) (is : way_to p a.entity ≡ Some w) → ThroughTold p b path u a w (lead_all a.entity w is).memory.shape.dims s

  leads_to : (k : ℕ) (a : SourceAccess) (path : Path) (s : Spot) (u : Variables) → access_at p k ≡ Some a → in_block k ≡ true → Has path (paths_inside loops) → IsNearTo v touched u
      → source_spot b (known_of p) u path a.entity a.element ≡ Some s → Leads k a path s u
  leads_to k a path s u listed inside at near leads =
      let m = declared k a listed in
      let made : IsMadeAccess p b path u a (reach_of k a) = record { entity = m.entity; is = m.is; memory = m.memory; declared = m.declared; leads = lead_all a.entity; table = table; number = refl; turns = indices.turns k a path u inside listed at near } in
      let spot = sym (found_spot u path k a a.element) ∙ leads in
      let told = bank_told p b path u k a 0 (reach_of k a) s typed rules listed made spot in
      record { of = m; memory = told.memory; bank = told.bank; through = λ w is. bank_through p b path u k a 0 (reach_of k a) s typed rules listed made w is spot }

  read_leads : (n : ℕ) (path : Path) (s : Spot) (t : IsRead n path s) → Leads n t.of path s t.variables
  read_leads n path s t = leads_to n t.of path s t.variables t.listed t.inside t.at t.near t.leads

  write_leads : (n : ℕ) (path : Path) (s : Spot) (t : IsWrite n path s) → Leads n t.of path s t.variables
  write_leads n path s t = leads_to n t.of path s t.variables t.listed t.inside t.at t.near t.leads

  -- the number of its memory in the table
  at_number : (k : ℕ) (a : SourceAccess) (path : Path) (s : Spot) (u : Variables) (l : Leads k a path s u) → number_in (memories_of p) (Some l.of.entity) ≡ Some s.memory
  at_number k a path s u l =
      let (i, (is, entry)) = numbered (memories_of p) (Some l.of.entity) l.of.memory l.of.declared in
      is ∙ ap Some (sym (l.memory ∙ (ap (λ o. entity_number (number_in (memories_of p) o)) l.of.is ∙ ap entity_number is)))

  -- Told.
  module _ (entity memory bank : ℕ) (numbers : number_in (memories_of p) (Some entity) ≡ Some memory) where
    at_both : (s : Spot) → is_at s memory bank ≡ true → (s.memory ≡ memory) × (s.bank ≡ bank)
    at_both s e = let two = both_true (nat_eq s.memory memory) (nat_eq s.bank bank) e in (same_number s.memory memory two.0, same_number s.bank bank two.1)

    -- it is of the memory whose bank is spent
    own_entity : (k : ℕ) (a : SourceAccess) (path : Path) (s : Spot) (u : Variables) (l : Leads k a path s u) → is_at s memory bank ≡ true → l.of.entity ≡ entity
    own_entity k a path s u l e = one_entity (memories_of p) l.of.entity entity memory (at_number k a path s u l ∙ ap Some (at_both s e).0) numbers

    of_loops : (a : SourceAccess) (path : Path) → a.site.loops ≡ r.loops → Has path (paths_inside loops) → Has path (paths_of a)
    of_loops a path round at = subst (λ (ls : List Counter). Has path (paths_in (loop_factors ls))) (sym round) (subst (λ (qs : List Path). Has path qs) paths at)

    -- the key of an access is one with which it reaches the bank
    key_reaches : (k : ℕ) (a : SourceAccess) (path : Path) (s : Spot) (u : Variables) → a.site.loops ≡ r.loops → Has path (paths_inside loops) → Leads k a path s u → is_at s memory bank ≡ true
        → Has (key_of (all_bindings_of p) a path) (keys_reaching p a entity bank)
    key_reaches k a path s u round at l e =
        let same = own_entity k a path s u l e in
        let bank_is : reaches p a path entity bank ≡ true = subst (λ (x : ℕ). reaches p a path x bank ≡ true) same (subst (λ (x : ℕ). reaches p a path l.of.entity x ≡ true) (at_both s e).1 l.bank) in
        has_mapped (key_of (all_bindings_of p) a) path (filter (λ q. reaches p a q entity bank) (paths_of a)) (has_filtered (λ q. reaches p a q entity bank) path (paths_of a) (of_loops a path round at) bank_is)

    one_read : (n : ℕ) (place later : Place) (path other : Path) (s t : Spot) → Has (reads n place path s) made_events → Has (reads n later other t) made_events → key_at p n path ≡ key_at p n other → s ≡ t
    one_read n place later path other s t h k e = by (read_of n place path s h) (read_of n later other t k)
      where
        found : (x : IsRead n path s) (y : IsRead n other t) → y.of ≡ x.of
            → (path ≡ other) ⊎ (source_spot b (known_of p) x.variables path x.of.entity x.of.element ≡ source_spot b (known_of p) y.variables other x.of.entity x.of.element) → s ≡ t
        found x y of (inl same) = same_spot n n place later path other s t (one_event made_events are_once (reads n place path s) (reads n later other t) h k same refl)
        found x y of (inr spots) =
            some_same s t (sym x.leads ∙ (spots ∙ subst (λ (a : SourceAccess). source_spot b (known_of p) y.variables other a.entity a.element ≡ Some t) of y.leads))

        by : IsRead n path s → IsRead n other t → s ≡ t
        by x y =
            let of : y.of ≡ x.of = some_same y.of x.of (sym y.listed ∙ x.listed) in
            let keys : key_of (all_bindings_of p) x.of path ≡ key_of (all_bindings_of p) x.of other =
            sym (ap (λ o. key_from p o path) x.listed) ∙ (e ∙ ap (λ o. key_from p o other) x.listed) in
            found x y of (one_element b (known_of p) v x.variables y.variables touched path other x.near y.near (same_length loops path other x.at y.at) x.of x.reads_it keys
            (indices.names n x.of path other x.inside x.listed x.at y.at)
            (offsets_settled p b bound v x.variables y.variables touched path other x.near y.near (same_length loops path other x.at y.at) (λ e t. indices.inside e path t x.at)))

    told : AreTold p made_events
    told = record {
      read_of = λ n place path s h. (let t = read_of n place path s h in record { of = t.of; listed = t.listed; writes_it = t.reads_it });
      write_of = λ n place path s value h. (let t = write_of n place path s value h in record { of = t.of; listed = t.listed; writes_it = t.writes_it });
      read_shares = λ n place path s earlier h e. (read_of n place path s h).shares earlier e;
      one_element = one_read;
    }

    -- an access that was made in the bank with a key
    record Reached (n : ℕ) (a : SourceAccess) (k : List ℕ) : Type 0 where
      path : Path
      spot : Spot
      key : k ≡ key_of (all_bindings_of p) a path
      at : Has path (paths_inside loops)
      round : a.site.loops ≡ r.loops
      variables : Variables
      near : IsNearTo v touched variables
      leads : Leads n a path spot variables
      there : is_at spot memory bank ≡ true

    abbrev keys_of : ℕ → List (List ℕ)
    keys_of n = keys_made p entity memory bank made_events told n

    reached_of : (n : ℕ) (a : SourceAccess) → access_at p n ≡ Some a → (k : List ℕ) → Has k (keys_of n) → Reached n a k
    reached_of n a listed k h =
        let m = made_with n (made_there (key_at p) memory bank made_events) k h in
        let (ev, (has, is)) = made_by_event (key_at p) memory bank made_events m.of m.among in
        by m ev has is
      where
        read_reached : (path : Path) (s : Spot) → is_at s memory bank ≡ true → k ≡ key_at p n path → IsRead n path s → Reached n a k
        read_reached path s e same t =
            let of : t.of ≡ a = some_same t.of a (sym t.listed ∙ listed) in
            subst (λ (x : SourceAccess). Reached n x k) of (record {
              path = path;
              spot = s;
              key = same ∙ ap (λ o. key_from p o path) t.listed;
              at = t.at;
              round = t.loops;
              variables = t.variables;
              near = t.near;
              leads = read_leads n path s t;
              there = e;
            })

        write_reached : (path : Path) (s : Spot) → is_at s memory bank ≡ true → k ≡ key_at p n path → IsWrite n path s → Reached n a k
        write_reached path s e same t =
            let of : t.of ≡ a = some_same t.of a (sym t.listed ∙ listed) in
            subst (λ (x : SourceAccess). Reached n x k) of (record {
              path = path;
              spot = s;
              key = same ∙ ap (λ o. key_from p o path) t.listed;
              at = t.at;
              round = t.loops;
              variables = t.variables;
              near = t.near;
              leads = write_leads n path s t;
              there = e;
            })

        by : (m : MadeWith n k (made_there (key_at p) memory bank made_events)) (ev : Event) → Has ev made_events → IsMadeThere (key_at p) memory bank m.of ev → Reached n a k
        by m ev has (by_read j place path s e at i) =
            let number : j ≡ n = sym (ap (λ q. q.number) i) ∙ m.number in
            let made : Has (reads n place path s) made_events = subst (λ (x : ℕ). Has (reads x place path s) made_events) number (subst (λ (x : Event). Has x made_events) e has) in
            read_reached path s at (m.key ∙ (ap (λ q. q.key) i ∙ ap (λ x. key_at p x path) number)) (read_of n place path s made)
        by m ev has (by_write j place path s value e at i) =
            let number : j ≡ n = sym (ap (λ q. q.number) i) ∙ m.number in
            let made : Has (writes n place path s value) made_events = subst (λ (x : ℕ). Has (writes x place path s value) made_events) number (subst (λ (x : Event). Has x made_events) e has) in
            write_reached path s at (m.key ∙ (ap (λ q. q.key) i ∙ ap (λ x. key_at p x path) number)) (write_of n place path s value made)

    -- through views: of each key a copy that was made with it
    module _ (n : ℕ) (a : SourceAccess) (listed : access_at p n ≡ Some a) (w : Way) (is : way_to p a.entity ≡ Some w) where
      abbrev lead : LeadsTo (memories_of p) w
      lead = lead_all a.entity w is

      touched_deep : (e : ℕ) → touched e ≡ true → (path : Path) → Has path (paths_inside loops) → length (factors loops) ≤ depth_bound (binding_in (all_bindings_of p) e)
      touched_deep e t path at =
          let deep = indices.inside e path t at in
          let long = inside_long loops path at in
          omega (arith, deep, long)

      module _ (some : Path) (some_at : Has some (paths_inside loops)) where
        abbrev IsCopied : Type 0
        IsCopied = Copied p b bound a w is lead (shift_all a.entity w is) v touched (length (factors loops)) (λ e t. touched_deep e t some some_at) bank

        copied : (k : List ℕ) → Has k (keys_of n) → (c : IsCopied) × (key p b bound a w is lead (shift_all a.entity w is) v touched (length (factors loops)) (λ e t. touched_deep e t some some_at) bank c ≡ k)
        copied k h =
            let t = reached_of n a listed k h in
            let through = t.leads.through w is in (
              record {
                path = t.path;
                there = of_loops a t.path t.round t.at;
                long = inside_long loops t.path t.at;
                variables = t.variables;
                near = t.near;
                indices = through.indices;
                last = through.last;
                through = through.through;
                ends = through.inside;
                reached = sym through.bank ∙ (at_both t.spot t.there).1;
                named = through.named;
              },
              sym t.key,
            )

        all_through : distinct_count same_path (keys_of n) ≤ charge_through p w a bank
        all_through = keys_covered p b bound a w is lead (shift_all a.entity w is) v touched (length (factors loops)) (λ e t. touched_deep e t some some_at) bank (keys_of n) copied

      -- the bank is one of the memory to which they lead
      charged_there : (k : List ℕ) → Has k (keys_of n) → (same_entity w.memory (Some entity) && nat_lt bank (banks_in p entity)) ≡ true
      charged_there k h =
          let t = reached_of n a listed k h in
          let through = t.leads.through w is in
          let own : w.memory ≡ Some entity = sym (ap (λ o. base_of o a.entity) is) ∙ (t.leads.of.is ∙ ap Some (own_entity n a t.path t.spot t.variables t.leads t.there)) in
          let banks : banks_in p entity ≡ banks_of lead.memory.shape.dims = ap memory_banks (sym (ap (memory_in (memories_of p)) own) ∙ lead.found) in
          let at : bank_at lead.memory.shape.dims through.last ≡ bank = sym through.bank ∙ (at_both t.spot t.there).1 in
          let below = bank_at_below lead.memory.shape.dims through.last (memory_dims p w.memory lead.memory rules.indices lead.found) through.inside in
          both_so (same_entity w.memory (Some entity)) (nat_lt bank (banks_in p entity)) (ap (λ o. same_entity o (Some entity)) own ∙ eq-eqb entity entity refl)
          (ap (λ m. nat_lt bank m) banks ∙ (sym (ap (λ m. nat_lt m (banks_of lead.memory.shape.dims)) at) ∙ is_below (bank_at lead.memory.shape.dims through.last) (banks_of lead.memory.shape.dims) below))
        where
          both_so : (x y : Bool) → x ≡ true → y ≡ true → (x && y) ≡ true
          both_so true y e f = f
          both_so false y e f = cc

          is_below : (x y : ℕ) → x < y → nat_lt x y ≡ true
          is_below x y l = grind (arith, nat_tests, l)

      through_charged : distinct_count same_path (keys_of n) ≤ charge_by p (Some w) a entity bank
      through_charged = by (keys_of n) refl
        where
          by : (ks : List (List ℕ)) → keys_of n ≡ ks → distinct_count same_path (keys_of n) ≤ charge_by p (Some w) a entity bank
          by [] e = let z = ap (λ l. distinct_count same_path l) e in omega (arith, z)
          by (k ∷ ks) e =
              let h : Has k (keys_of n) = subst (λ (l : List (List ℕ)). Has k l) (sym e) (inl refl) in
              let t = reached_of n a listed k h in
              subst (λ (t : Bool). distinct_count same_path (keys_of n) ≤ (if t then charge_through p w a bank else 0)) (sym (charged_there k h)) (all_through t.path t.at)

    -- what is made of each access in the bank is within its charge
    all_charged : AreCharged p entity memory bank made_events told
    all_charged n alone = by (access_at p n) refl
      where
        by_way : (a : SourceAccess) → access_at p n ≡ Some a → (o : Option Way) → way_to p a.entity ≡ o → distinct_count same_path (keys_of n) ≤ charge_by p o a entity bank
        by_way a listed None none =
            fewer_keys (keys_of n) (keys_reaching p a entity bank)
            (λ k h.
            (let t = reached_of n a listed k h in
            subst (λ (l : List ℕ). Has l (keys_reaching p a entity bank)) (sym t.key) (key_reaches n a t.path t.spot t.variables t.round t.at t.leads t.there)))
        by_way a listed (Some w) is = through_charged n a listed w is

        no_access : access_at p n ≡ None → (k : List ℕ) → Has k (keys_of n) → Has k []
        no_access e k h =
            let m = made_with n (made_there (key_at p) memory bank made_events) k h in
            let (ev, (has, is)) = made_by_event (key_at p) memory bank made_events m.of m.among in
            listed_none m ev has is
          where
            wrong : (a : SourceAccess) → access_at p n ≡ Some a → ⊥
            wrong a f = none (sym e ∙ f)
              where
                none : None ≡ Some a → ⊥
                none g = cc

            listed_none : (m : MadeWith n k (made_there (key_at p) memory bank made_events)) (ev : Event) → Has ev made_events → IsMadeThere (key_at p) memory bank m.of ev → ⊥
            listed_none m ev has (by_read j place path s f at i) =
                let number : j ≡ n = sym (ap (λ q. q.number) i) ∙ m.number in
                let t = read_of j place path s (subst (λ (x : Event). Has x made_events) f has) in
                wrong t.of (subst (λ (x : ℕ). access_at p x ≡ Some t.of) number t.listed)
            listed_none m ev has (by_write j place path s value f at i) =
                let number : j ≡ n = sym (ap (λ q. q.number) i) ∙ m.number in
                let t = write_of j place path s value (subst (λ (x : Event). Has x made_events) f has) in
                wrong t.of (subst (λ (x : ℕ). access_at p x ≡ Some t.of) number t.listed)

        by : (o : Option SourceAccess) → access_at p n ≡ o → distinct_count same_path (keys_of n) ≤ charge_of p entity bank n o
        by None e = fewer_keys (keys_of n) [] (no_access e)
        by (Some a) e = subst (λ (s : Option ℕ). distinct_count same_path (keys_of n) ≤ (if is_some s then 0 else charge_by p (way_to p a.entity) a entity bank)) (sym alone) (by_way a e (way_to p a.entity) refl)

    -- the accesses that were made in the bank are together
    made_together : Together (meets_in p) (made_numbers p entity memory bank made_events told)
    made_together j k x y apart =
        let (m, (am, im)) = was_there (made_there (key_at p) memory bank made_events) j x in
        let (o, (ao, io)) = was_there (made_there (key_at p) memory bank made_events) k y in
        let (ev, (he, me)) = made_by_event (key_at p) memory bank made_events m am in
        let (other, (ho, mo)) = made_by_event (key_at p) memory bank made_events o ao in
        together ev other he ho
        (subst (λ (n : ℕ). Apart (meets_in p) n (number_of other)) (sym im ∙ number_made m ev me) (subst (λ (n : ℕ). Apart (meets_in p) j n) (sym io ∙ number_made o other mo) apart))
      where
        number_made : (m : Made) (ev : Event) → IsMadeThere (key_at p) memory bank m ev → m.number ≡ number_of ev
        number_made m ev (by_read n place path s e at i) = ap (λ q. q.number) i ∙ sym (ap number_of e)
        number_made m ev (by_write n place path s value e at i) = ap (λ q. q.number) i ∙ sym (ap number_of e)

    -- so what the bank spends is covered
    pub bank_covered : AreCovered p made_events entity memory bank
    bank_covered = record {
      chosen = made_numbers p entity memory bank made_events told;
      together = made_together;
      covers = (let l = spent_told p entity memory bank made_events told all_charged are_once in
          let t = total_below (charge p entity bank) (made_numbers p entity memory bank made_events told) p in
          omega (arith, l, t));
    }

  -- Of each bank, where the program keeps its ports.
  module _ (keeps : KeepsPorts p) where
    kept_of : (memory bank entity : ℕ) (m : Memory) → memory_in (memories_of p) (Some entity) ≡ Some m → number_in (memories_of p) (Some entity) ≡ Some memory → spent made_events memory bank ≤ ports_at (table_of p) memory
    kept_of memory bank entity m e n =
        let c = bank_covered entity memory bank n in
        let l = c.covers in
        let k = keeps c.chosen c.together entity bank in
        let d = declared_ports (memories_of p) (Some entity) m memory e n in
        let q = ap ports_or_zero e in
        omega (arith, l, k, d, q)

    kept_by_event : (memory bank : ℕ) (m : Made) → (ev : Event) × (Has ev made_events × IsMadeThere (key_at p) memory bank m ev) → spent made_events memory bank ≤ ports_at (table_of p) memory
    kept_by_event memory bank m (ev, (h, is)) = by is
      where
        at_memory : (s : Spot) → is_at s memory bank ≡ true → s.memory ≡ memory
        at_memory s e = same_number s.memory memory (both_true (nat_eq s.memory memory) (nat_eq s.bank bank) e).0

        of_leads : (k : ℕ) (a : SourceAccess) (path : Path) (s : Spot) (u : Variables) → is_at s memory bank ≡ true → Leads k a path s u → spent made_events memory bank ≤ ports_at (table_of p) memory
        of_leads k a path s u e l = kept_of memory bank l.of.entity l.of.memory l.of.declared (at_number k a path s u l ∙ ap Some (at_memory s e))

        by : IsMadeThere (key_at p) memory bank m ev → spent made_events memory bank ≤ ports_at (table_of p) memory
        by (by_read n place path s e at i) = let t = read_of n place path s (subst (λ (x : Event). Has x made_events) e h) in of_leads n t.of path s t.variables at (read_leads n path s t)
        by (by_write n place path s value e at i) = let t = write_of n place path s value (subst (λ (x : Event). Has x made_events) e h) in of_leads n t.of path s t.variables at (write_leads n path s t)

    -- the block spends of each bank at most its ports
    pub block_keeps : (memory bank : ℕ) → spent made_events memory bank ≤ ports_at (table_of p) memory
    block_keeps memory bank = by (made_there (key_at p) memory bank made_events) refl
      where
        none : made_there (key_at p) memory bank made_events ≡ [] → spent made_events memory bank ≡ 0
        none e = spent_there (key_at p) memory bank made_events ∙ ap (λ ms. distinct_count nat_eq (rows_of ms) + writes_of ms) e

        by : (ms : List Made) → made_there (key_at p) memory bank made_events ≡ ms → spent made_events memory bank ≤ ports_at (table_of p) memory
        by [] e = let z = none e in omega (arith, z)
        by (m ∷ ms) e = kept_by_event memory bank m (made_by_event (key_at p) memory bank made_events m (subst (λ (os : List Made). Among m os) (sym e) (inl refl)))
