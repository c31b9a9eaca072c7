-- How charges are carried on a way that code keeps.
use Rattle.std.proofs.Common.{◌≡◌, ◌⊎◌, inl, inr, ℕ, zero, suc, ◌+◌, ◌<◌, ◌≤◌, ◌||◌, Bool, true, false, if◌then◌else◌, List, [], ◌∷◌, ◌++◌, length, map, replicate, get_or, slice_index, Some, None, refl, sym, ap, subst, ◌∙◌, arith}
use Rattle.std.specs.Prelude.{Option, Vec, option_map, slice_get}
use Rattle.std.proofs.lemmas.List.{length_push}
use Rattle.std.proofs.lemmas.Option.{none-some, same_Some, slice_get-get_or}
use Rattle.std.specs.Global.{Global}
use Rattle.std.specs.List.{AllByRecursion}
use Rattle.dh_tree.specs.declared.tables.Dim.{Dim}
use Rattle.dh_tree.specs.declared.viewing.ViewMap.{ViewMap}
use Rattle.dh_tree.specs.Elements.{banks_of}
use Rattle.dh_tree.specs.ViewShapes.{IsViewMap}
use Rattle.dh_viewing.specs.Carried.{carried_by, largest}
use Rattle.dh_meaning.specs.Ways.{step_of}
use Rattle.dh_ways.specs.Kept.{KeptLed, KeptWay}
use Rattle.dh_ways.specs.Linked.{IsParentAt, way_there}
use Rattle.dh_ways.specs.Leading.{StepsLead}
use Rattle.dh_ways.specs.Seen.{way_seen}
use Rattle.dh_ways.proofs.LinksTold.{pushed_cases, stands_in}
use Rattle.dh_ports.specs.Banks.{each_below}
use Rattle.dh_ports.specs.declared.carrying.Carrier.{Carrier}
use Rattle.dh_ports.specs.Carriers.{banks_behind, has_shift, is_shift_sort, source_in, source_through, views_on_way, AreEach, Follow, IsCarrier}
use Rattle.dh_ports.specs.CarriersMade.{banks_at_end, itself, sources_over, sources_told, AreMadeCarriers, IsCarrierOn, IsMadeCarrier}
use Rattle.dh_ports.proofs.CarriedBanks.{all_maps, carried_evenly, carried_source, end_banks, source_inside}
use Rattle.dh_ports.proofs.ClaimedBanks.{banks_some}
use Rattle.dh_ports.proofs.EachFacts.{each_at, each_long, each_mapped}

-- The views on a way are those of its steps.

views_back : (vs : List ViewMap) → map (λ s. s.is) (map step_of vs) ≡ vs
views_back [] = refl
views_back (v ∷ vs) = ap (λ l. v ∷ l) (views_back vs)

pub zeros_long : (n : ℕ) → length {A = ℕ} (replicate n 0) ≡ n
zeros_long zero = refl
zeros_long (suc n) = ap suc (zeros_long n)

pub zero_at : (n b : ℕ) → slice_index (replicate n 0) b ≡ 0
zero_at zero b = refl
zero_at (suc n) zero = refl
zero_at (suc n) (suc b) = zero_at n b

module _ (w : KeptWay) where
  views_are : map (λ s. s.is) (way_seen w).steps ≡ views_on_way w
  views_are = views_back (views_on_way w)

  pub maps_follow : Follow w → AllByRecursion IsViewMap (views_on_way w)
  maps_follow f = subst (λ (vs : List ViewMap). AllByRecursion IsViewMap vs) views_are (all_maps (way_seen w).steps f.dims f.lead)

  module _ (banks : ℕ) (sources : Vec ℕ Global) (n : ℕ) (f : Follow w) (counted : banks ≡ banks_of w.view.shape.dims) (ends : n ≡ banks_behind (banks_of w.view.parent.dims) w.behind) where
    ends_at : (dims : List Dim) → StepsLead (way_seen w).steps dims → n ≡ banks_of dims
    ends_at dims lead =
        ends
        ∙ (ap (λ vs. banks_behind (banks_of w.view.parent.dims) vs) (sym (views_back w.behind))
        ∙ end_banks (step_of w.view) (map step_of w.behind) dims (banks_of w.view.parent.dims) lead)

    pub carrier_evenly : has_shift (views_on_way w) ≡ true → sources.items ≡ replicate n 0 → IsCarrier (way_seen w) (record { banks = banks; evenly = true; sources = sources })
    carrier_evenly shifts are = record {
      long = λ dims lead. ap length are ∙ (zeros_long n ∙ ends_at dims lead);
      carries = record {
        banks = counted;
        within = λ bank inside. subst (λ (k : ℕ). k < banks) (sym (ap (λ l. slice_index l bank) are ∙ zero_at n bank)) (some banks (subst (λ (k : ℕ). 1 ≤ k) (sym counted) (banks_some w.view.shape.dims f.lead.0.own.dims)));
        each = λ charge bank inside.
            carried_evenly (way_seen w).steps f.dims charge bank f.lead (ap has_shift views_are ∙ shifts)
            ∙ ap (largest charge) (sym counted);
      };
    }
      where
        some : (k : ℕ) → 1 ≤ k → 0 < k
        some k e = omega (arith, e)

    pub carrier_plain : has_shift (views_on_way w) ≡ false → sources.items ≡ each_below (source_through (views_on_way w)) n → IsCarrier (way_seen w) (record { banks = banks; evenly = false; sources = sources })
    carrier_plain shifts are = record {
      long = λ dims lead. many ∙ ends_at dims lead;
      carries = record {
        banks = counted;
        within = λ bank inside.
            subst (λ (k : ℕ). k < banks) (sym (source_is bank inside))
            (subst (λ (k : ℕ). source_through (views_on_way w) bank < k) (sym counted)
            (subst (λ (vs : List ViewMap). source_through vs bank < banks_of w.view.shape.dims) views_are
            (source_inside (way_seen w).steps f.dims bank f.lead (ap has_shift views_are ∙ shifts) (subst (λ (k : ℕ). bank < k) (many ∙ ends_at f.dims f.lead) inside))));
        each = λ charge bank inside.
            ap (λ vs. carried_by vs charge bank) views_are
            ∙ (carried_source (views_on_way w) charge bank shifts ∙ ap charge (sym (source_is bank inside)));
      };
    }
      where
        many : length sources.items ≡ n
        many = ap length are ∙ each_long (source_through (views_on_way w)) n

        source_is : (bank : ℕ) → bank < length sources.items → slice_index sources.items bank ≡ source_through (views_on_way w) bank
        source_is bank inside = ap (λ l. slice_index l bank) are ∙ each_at (source_through (views_on_way w)) n bank (subst (λ (k : ℕ). bank < k) many inside)

-- A carrier of one view more.

module _ (v : ViewMap) (evenly : Bool) (behind : List ℕ) (banks : ℕ) (sources : Vec ℕ Global) (counted : banks ≡ banks_of v.shape.dims) where
  pub on_shifted : (is_shift_sort v.sort || evenly) ≡ true → sources.items ≡ replicate (length behind) 0 → IsCarrierOn v evenly behind (record { banks = banks; evenly = true; sources = sources })
  on_shifted e none = record {
    banks = counted;
    even = sym e;
    sources = none ∙ sym (ap (λ (t : Bool). if t then replicate (length behind) 0 else map (source_in v.sort v.shape.dims v.parent.dims) behind) e);
  }

  pub on_plain : (is_shift_sort v.sort || evenly) ≡ false → sources.items ≡ map (source_in v.sort v.shape.dims v.parent.dims) behind → IsCarrierOn v evenly behind (record { banks = banks; evenly = false; sources = sources })
  on_plain e made = record {
    banks = counted;
    even = sym e;
    sources = made ∙ sym (ap (λ (t : Bool). if t then replicate (length behind) 0 else map (source_in v.sort v.shape.dims v.parent.dims) behind) e);
  }

sources_next : (v : ViewMap) (vs : List ViewMap) (end : ℕ) (evenly : Bool) (behind : List ℕ) → evenly ≡ has_shift vs → behind ≡ sources_told vs end → sources_over v evenly behind ≡ sources_told (v ∷ vs) end
sources_next v vs end evenly behind e so =
    ap (λ b. sources_over v b behind) e ∙ (ap (sources_over v (has_shift vs)) so ∙ by (is_shift_sort v.sort) (has_shift vs))
  where
    by : (a b : Bool) → (if a || b then replicate (length (if b then replicate end 0 else each_below (source_through vs) end)) 0 else map (source_in v.sort v.shape.dims v.parent.dims) (if b then replicate end 0 else each_below (source_through vs) end))
        ≡ (if a || b then replicate end 0 else each_below (source_through (v ∷ vs)) end)
    by true true = ap (λ n. replicate n 0) (zeros_long end)
    by true false = ap (λ n. replicate n 0) (each_long (source_through vs) end)
    by false true = ap (λ n. replicate n 0) (zeros_long end)
    by false false = sym (each_mapped (source_in v.sort v.shape.dims v.parent.dims) (source_through vs) end)

-- of a view of a memory
first_made : (w : KeptWay) (c : Carrier) → w.behind ≡ [] → IsCarrierOn w.view false (each_below itself (banks_of w.view.parent.dims)) c → IsMadeCarrier w c
first_made w c alone on = record {
  banks = on.banks;
  even = on.even ∙ ap (λ vs. has_shift (w.view ∷ vs)) (sym alone);
  sources =
      on.sources
      ∙ (sources_next w.view [] (banks_of w.view.parent.dims) false (each_below itself (banks_of w.view.parent.dims)) refl refl
      ∙ ap (λ vs. sources_told (w.view ∷ vs) (banks_behind (banks_of w.view.parent.dims) vs)) (sym alone));
}

-- and of a view of another one
next_made : (w m : KeptWay) (d c : Carrier) → w.behind ≡ m.view ∷ m.behind → IsMadeCarrier m d → IsCarrierOn w.view d.evenly d.sources.items c → IsMadeCarrier w c
next_made w m d c above made on = record {
  banks = on.banks;
  even = on.even ∙ (ap (λ b. is_shift_sort w.view.sort || b) made.even ∙ ap (λ vs. has_shift (w.view ∷ vs)) (sym above));
  sources =
      on.sources
      ∙ (sources_next w.view (views_on_way m) (banks_at_end m) d.evenly d.sources.items made.even made.sources
      ∙ ap (λ vs. sources_told (w.view ∷ vs) (banks_behind (banks_of w.view.parent.dims) vs)) (sym above));
}

-- what a way tells of the view at its place
way_of_place : (ls : List KeptLed) (place : ℕ) (w : KeptWay) (l : KeptLed) → Some w ≡ way_there ls (Some place) → slice_get ls place ≡ Some l → w ≡ l.way
way_of_place ls place w l there at = same_Some w l.way (there ∙ ap (option_map (λ (x : KeptLed). x.way)) at)

all_follow : (ls : List KeptLed) (place : ℕ) (l : KeptLed) → AllByRecursion (λ (x : KeptLed). Follow x.way) ls → slice_get ls place ≡ Some l → Follow l.way
all_follow [] place l h e = absurd (none-some l e)
all_follow (x ∷ ls) zero l h e = subst (λ (y : KeptLed). Follow y.way) (same_Some x l e) h.0
all_follow (x ∷ ls) (suc place) l h e = all_follow ls place l h.1 e

pub view_follows : (ls : List KeptLed) (place : ℕ) (w : KeptWay) (v : ViewMap) → AllByRecursion (λ (x : KeptLed). Follow x.way) ls → place < length ls → Some w ≡ way_there ls (Some place) → v ≡ w.view → IsViewMap v
view_follows ls place w v all inside there is =
    let at = stands_in ls place inside in
    subst (λ (x : ViewMap). IsViewMap x) (sym (is ∙ ap (λ (x : KeptWay). x.view) (way_of_place ls place w at.item there at.there))) (maps_follow at.item.way (all_follow ls place at.item all at.there)).0

pub parent_before : (ls : List KeptLed) (place parent : ℕ) (o : Option ℕ) (n : ℕ) → IsParentAt ls place o → o ≡ Some parent → place ≤ n → parent < n
parent_before ls place parent o n h e many = let less = (subst (λ (x : Option ℕ). IsParentAt ls place x) e h).0 in omega (arith, less, many)

pub made_first : (ls : List KeptLed) (place : ℕ) (w : KeptWay) (v : ViewMap) (o : Option ℕ) (c : Carrier) → Some w ≡ way_there ls (Some place) → v ≡ w.view → IsParentAt ls place o → o ≡ None
    → IsCarrierOn v false (each_below itself (banks_of v.parent.dims)) c → (l : KeptLed) → slice_get ls place ≡ Some l → IsMadeCarrier l.way c
made_first ls place w v o c there is parent none on l at =
    first_made l.way c (subst (λ (x : Option ℕ). IsParentAt ls place x) none parent l at)
    (subst (λ (x : ViewMap). IsCarrierOn x false (each_below itself (banks_of x.parent.dims)) c) (is ∙ ap (λ (x : KeptWay). x.view) (way_of_place ls place w l there at)) on)

pub made_behind : (ls : List KeptLed) (place parent : ℕ) (w : KeptWay) (v : ViewMap) (o : Option ℕ) (each : List Carrier) (d c : Carrier) → AreMadeCarriers ls each → Some w ≡ way_there ls (Some place) → v ≡ w.view → IsParentAt ls place o → o ≡ Some parent → place < length ls → parent < length each
    → d ≡ get_or each parent d → IsCarrierOn v d.evenly d.sources.items c → (l : KeptLed) → slice_get ls place ≡ Some l → IsMadeCarrier l.way c
made_behind ls place parent w v o each d c made there is told some inside below d_is on l at =
    let p = subst (λ (x : Option ℕ). IsParentAt ls place x) some told in
    let above = stands_in ls parent (less parent place (length ls) p.0 inside) in
    next_made l.way above.item.way d c (p.1 l above.item at above.there) (made parent above.item d above.there (slice_get-get_or each parent d below ∙ ap Some (sym d_is)))
    (subst (λ (x : ViewMap). IsCarrierOn x d.evenly d.sources.items c) (is ∙ ap (λ (x : KeptWay). x.view) (way_of_place ls place w l there at)) on)
  where
    less : (a b n : ℕ) → a < b → b < n → a < n
    less a b n e f = omega (arith, e, f)

-- Each view has its carrier.

pub made_none : (ls : List KeptLed) (each : List Carrier) → each ≡ [] → (length each ≡ 0) × AreMadeCarriers ls each
made_none ls each e = (ap (λ (cs : List Carrier). length cs) e, λ k l c at there. absurd (none-some c (ap (λ (cs : List Carrier). slice_get cs k) (sym e) ∙ there)))

pub made_more : (ls : List KeptLed) (each new : List Carrier) (place : ℕ) (c : Carrier) → (length each ≡ place) × AreMadeCarriers ls each → ((l : KeptLed) → slice_get ls place ≡ Some l → IsMadeCarrier l.way c) → new ≡ each ++ c ∷ [] → (length new ≡ place + 1) × AreMadeCarriers ls new
made_more ls each new place c (long, made) own e = (
  ap (λ (cs : List Carrier). length cs) e ∙ (length_push each c ∙ ap (λ n. n + 1) long),
  λ k l d at there. by k l d at (pushed_cases each c k d (ap (λ (cs : List Carrier). slice_get cs k) (sym e) ∙ there)),
)
  where
    by : (k : ℕ) (l : KeptLed) (d : Carrier) → slice_get ls k ≡ Some l → (slice_get each k ≡ Some d) ⊎ ((k ≡ length each) × (d ≡ c)) → IsMadeCarrier l.way d
    by k l d at (inl before) = made k l d at before
    by k l d at (inr last) = subst (λ (x : Carrier). IsMadeCarrier l.way x) (sym last.1) (own l (ap (slice_get ls) (sym (last.0 ∙ long)) ∙ at))

abbrev carrier_with : Carrier → (evenly : Bool) → Carrier
carrier_with c evenly = record { banks = c.banks; evenly = evenly; sources = c.sources }

made_carries : (w : KeptWay) (c : Carrier) → Follow w → IsMadeCarrier w c → IsCarrier (way_seen w) c
made_carries w c f made = by (has_shift (views_on_way w)) refl
  where
    told : (b : Bool) → has_shift (views_on_way w) ≡ b → c.sources.items ≡ (if b then replicate (banks_at_end w) 0 else each_below (source_through (views_on_way w)) (banks_at_end w))
    told b e = made.sources ∙ ap (λ (t : Bool). if t then replicate (banks_at_end w) 0 else each_below (source_through (views_on_way w)) (banks_at_end w)) e

    by : (b : Bool) → has_shift (views_on_way w) ≡ b → IsCarrier (way_seen w) c
    by true e = subst (λ (t : Bool). IsCarrier (way_seen w) (carrier_with c t)) (sym (made.even ∙ e)) (carrier_evenly w c.banks c.sources (banks_at_end w) f made.banks refl e (told true e))
    by false e = subst (λ (t : Bool). IsCarrier (way_seen w) (carrier_with c t)) (sym (made.even ∙ e)) (carrier_plain w c.banks c.sources (banks_at_end w) f made.banks refl e (told false e))

each_made : (ls : List KeptLed) (each : List Carrier) → length each ≡ length ls → AllByRecursion (λ (l : KeptLed). Follow l.way) ls → AreMadeCarriers ls each → AreEach ls each
each_made [] [] long all made = tt
each_made [] (c ∷ cs) long all made = cc
each_made (l ∷ ls) [] long all made = cc
each_made (l ∷ ls) (c ∷ cs) long all made = (made_carries l.way c all.0 (made 0 l c refl refl), each_made ls cs (less (length cs) (length ls) long) all.1 (λ k x d at there. made (suc k) x d at there))
  where
    less : (m n : ℕ) → suc m ≡ suc n → m ≡ n
    less m n e = omega (arith, e)

pub each_done : (ls : List KeptLed) (each : List Carrier) (place n : ℕ) → n ≡ length ls → n ≤ place → place ≤ n → AllByRecursion (λ (l : KeptLed). Follow l.way) ls → (length each ≡ place) × AreMadeCarriers ls each → AreEach ls each
each_done ls each place n many past inside all (long, made) = each_made ls each (long ∙ (same place n past inside ∙ many)) all made
  where
    same : (a b : ℕ) → b ≤ a → a ≤ b → a ≡ b
    same a b e f = omega (arith, e, f)
