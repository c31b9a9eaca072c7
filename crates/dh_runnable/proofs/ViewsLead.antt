-- A view whose parent is a memory or a view that is known is known itself, and can be run: in front of other commands it
-- keeps its offsets, which are few, in variables that stand inside the loops round it.
use Rattle.std.proofs.Common.{◌≡◌, ℕ, suc, ◌+◌, ◌<◌, ◌≤◌, List, [], ◌∷◌, ◌++◌, length, Option, Some, None, option_map, refl, ap, sym, ◌∙◌, subst, arith, length-append, append-nil}
use Rattle.std.specs.List.{AllByRecursion}
use Rattle.std.specs.Option.{is_some}
use Rattle.dh_value.specs.declared.kinds.Kind.{Kind}
use Rattle.dh_value.specs.Words.{IsKind}
use Rattle.dh_tree.specs.declared.tables.Dim.{Dim}
use Rattle.dh_tree.specs.declared.trees.expressions.Ref.{Ref}
use Rattle.dh_tree.specs.declared.viewing.Viewed.{Viewed}
use Rattle.dh_tree.specs.declared.viewing.ViewSort.{ViewSort}
use Rattle.dh_tree.specs.declared.viewing.ViewSort.TheVariants as sort
use Rattle.dh_tree.specs.Kinds.{view_dims}
use Rattle.dh_tree.specs.Memories.{Memory, memories_of, memory_in, table_of}
use Rattle.dh_tree.specs.PlainTrees.{Term, ViewPlan, shrinks, splits, suffixes, shifts, views, Program}
use Rattle.dh_tree.specs.Seen.{terms}
use Rattle.dh_tree.specs.Shapes.{IsProgramTable}
use Rattle.dh_tree.specs.ViewElements.{offsets_needed}
use Rattle.dh_tree.specs.ViewFactors.{factor_breaches_of}
use Rattle.dh_tree.specs.ViewOffsets.{offsets_of}
use Rattle.dh_tree.specs.Views.{dims_of, factors_of, map_of, shrunk_dims, sort_of, split_dims, view_in, viewed_in}
use Rattle.dh_tree.specs.ViewShapes.{AreSplitOf, IsShapeOf}
use Rattle.dh_meaning.specs.AccessNumbers.{term_accesses}
use Rattle.dh_meaning.specs.Core.{CoreCommands}
use Rattle.dh_meaning.specs.CoreOf.{Known, core_terms, kept_by, known_of, way_of}
use Rattle.dh_meaning.specs.Ways.{Hidden, ViewSite, Way, hidden_from, hidden_in, shape_named, way_at, way_behind, way_in, way_unless, ways_of}
use Rattle.dh_ways.specs.Leading.{KeepsOffsets, LeadsTo}
use Rattle.dh_ways.specs.Stands.{view_site_of}
use Rattle.dh_ways.proofs.HiddenApart.{from_long}
use Rattle.dh_ways.proofs.WaysKept.{ways_keep}
use Rattle.dh_ways.proofs.WaysLead.{ways_are_views, ways_lead}
use Rattle.dh_sound.proofs.ViewedWays.{found_holds, looked}
use Rattle.dh_code.specs.Declarations.{Factored}
use Rattle.dh_code.specs.Slots.{Placing}
use Rattle.dh_code.specs.Suited.{AllInside, AreInsideFrom, AreSuited, CanDoAll}
use Rattle.dh_code.proofs.HiddenPlaced.{stand_of}
use Rattle.dh_runnable.specs.ActionsRun.{FormRuns, table_known}
use Rattle.dh_runnable.proofs.TermsSuited.{IsKnown, kind_found_is}
use Rattle.dh_runnable.proofs.TypedParts.{IsMemory}
use Rattle.dh_runnable.proofs.ViewsFound.{IsViewed, OwnInside}
use Rattle.dh_runnable.proofs.ViewsKnown.{AreGoodWays, AreKept, IsView}

-- Dimensions.

shrunk_long : (by : List ℕ) (ds : List Dim) → length (shrunk_dims by ds) ≡ length ds
shrunk_long [] ds = refl
shrunk_long (k ∷ ks) [] = refl
shrunk_long (k ∷ ks) (d ∷ ds) = ap suc (shrunk_long ks ds)

split_long : (by : List ℕ) (ds : List Dim) → AreSplitOf (split_dims by ds) ds by → 2 ≡ length (split_dims by ds)
split_long [] ds h = absurd h
split_long (k ∷ ks) [] h = absurd h
split_long (k ∷ ks) (d ∷ ds) h = refl

-- a view of the shape of its sort has as many dimensions as the kind of its name tells
dims_long : (form : ViewPlan) (parent : List Dim) → IsShapeOf (sort_of form) (dims_of form parent) parent (factors_of form) → view_dims form (length parent) ≡ length (dims_of form parent)
dims_long (shrinks by by_place) parent h = sym (shrunk_long by parent)
dims_long (splits by by_place) parent h = split_long by parent h
dims_long (suffixes by by_place) parent h = refl
dims_long (shifts by) parent h = refl

needed_few : (s : ViewSort) (dims : List Dim) → offsets_needed s dims ≤ length dims
needed_few sort.Shrink dims = omega arith
needed_few sort.Split dims = omega arith
needed_few sort.Suffix dims = omega arith
needed_few sort.Shift dims = omega arith

-- Ways.

pub good_ways : (q : Program) → factor_breaches_of q ≡ [] → IsProgramTable (table_of q) → AreGoodWays (known_of q) (viewed_in q)
good_ways q e t = record {
  lead = λ n w is. found_holds (λ y. LeadsTo (memories_of q) y) (ways_of q) n w (ways_lead q e t) is;
  keep = λ n w is. found_holds (λ y. KeepsOffsets y) (ways_of q) n w (ways_keep q e) is;
  seen = λ n w is. ap is_some (sym (ap (λ (vs : List Viewed). view_in vs n) (ways_are_views q)) ∙ (looked (ways_of q) n ∙ ap (option_map (λ (y : Way). y.is)) is));
}

one_memory : (m n : Memory) → Some m ≡ Some n → m ≡ n
one_memory m n e = ap (or m) e
  where
    or : Memory → Option Memory → Memory
    or y None = y
    or y (Some z) = z

unled : (o : Option Memory) (w : Option Way) (y : Way) → way_unless o w ≡ Some y → (o ≡ None) × (w ≡ Some y)
unled None w y e = (refl, e)
unled (Some m) w y e = absurd cc

module _ (known : Known) (p : Placing) (loops : List ℕ) where
  -- Offsets.

  abbrev pub OffsetsKnown : List Term → Type 0
  OffsetsKnown ts = AllByRecursion (λ t. IsKnown known p loops t) ts

  offsets_suit : (ts : List Term) → OffsetsKnown ts → (n : ℕ) → AreSuited (table_known known) (core_terms known n (terms ts))
  offsets_suit [] k n = tt
  offsets_suit (t ∷ ts) k n = ((k.0.operand n).suits, offsets_suit ts k.1 (n + term_accesses t))

  offsets_inside : (ts : List Term) → OffsetsKnown ts → (n : ℕ) → AllInside p loops (core_terms known n (terms ts))
  offsets_inside [] k n = tt
  offsets_inside (t ∷ ts) k n = (k.0.inside n, offsets_inside ts k.1 (n + term_accesses t))

  own_from : (first : ℕ) (ts : List Term) → OwnInside p loops first ts → (n : ℕ) → AreInsideFrom p loops (length loops) first (core_terms known n (terms ts))
  own_from first [] o n = tt
  own_from first (t ∷ ts) o n = (o.0, own_from (suc first) ts o.1 (n + term_accesses t))

  own_kept : (first : ℕ) (ts : List Term) → OffsetsKnown ts → OwnInside p loops first ts → AreKept p loops (hidden_from first (length loops) ts)
  own_kept first [] k o = tt
  own_kept first (t ∷ ts) k o = (record { sized = subst IsKind (sym (kind_found_is t k.0.kind k.0.is)) (k.0.operand 0).sized; inside = o.0 }, own_kept (suc first) ts k.1 o.1)

  kept_both : (hs gs : List Hidden) → AreKept p loops hs → AreKept p loops gs → AreKept p loops (hs ++ gs)
  kept_both [] gs a b = b
  kept_both (h ∷ hs) gs a b = (a.0, kept_both hs gs a.1 b)

  -- a view whose own variables are the first on its way
  view_runs : (name parent : Ref) (form : ViewPlan) (first : ℕ) (rest : List Hidden) (w : Way) → way_of known name ≡ Some w → w.hidden ≡ hidden_from first (length loops) (offsets_of form) ++ rest
      → OwnInside p loops first (offsets_of form) → OffsetsKnown (offsets_of form) → (n : ℕ) (more : CoreCommands) → CanDoAll (table_known known) p loops more
      → CanDoAll (table_known known) p loops (kept_by (hidden_in (way_of known name)) (core_terms known n (terms (offsets_of form))) more)
  view_runs name parent form first rest w way hidden own k n more r =
      subst (λ (o : Option Way). CanDoAll (table_known known) p loops (kept_by (hidden_in o) (core_terms known n (terms (offsets_of form))) more)) (sym way)
      (subst (λ (hs : List Hidden). CanDoAll (table_known known) p loops (kept_by hs (core_terms known n (terms (offsets_of form))) more)) (sym hidden) (by (offsets_of form) own k))
    where
      by : (ts : List Term) → OwnInside p loops first ts → OffsetsKnown ts → CanDoAll (table_known known) p loops (kept_by (hidden_from first (length loops) ts ++ rest) (core_terms known n (terms ts)) more)
      by [] o k = r
      by (t ∷ ts) o k = ((own_from first (t ∷ ts) o n, (offsets_suit (t ∷ ts) k n, offsets_inside (t ∷ ts) k n)), r)

  -- Views.

  -- what is told of a view where it stands
  pub record ViewLeads (name parent : Ref) (form : ViewPlan) (n : ℕ) (k : Option Kind) (dims : ℕ) : Type 0 where
    pub view : IsView known p loops n k (view_dims form dims)
    pub runs : FormRuns known p loops (views name parent form)
    -- its own variables are the first on its way
    pub first : ℕ
    pub rest : List Hidden
    pub hidden : view.way.hidden ≡ hidden_from first (length loops) (offsets_of form) ++ rest

  module _ (views_known : List Viewed) (good : AreGoodWays known views_known) (name parent : Ref) (form : ViewPlan) where
    abbrev here : Factored
    here = record { name = name; parent = parent; form = form; factors = loops }

    abbrev standing : ViewSite
    standing = view_site_of (stand_of here)

    pub view_of_memory : (v : IsViewed known.memories known.ways p here) (m : ℕ) (k : Option Kind) (dims : ℕ) → memory_in known.memories (Some v.number) ≡ None → parent.entity ≡ Some m → m < v.number
        → IsMemory known.memories m k dims → OffsetsKnown (offsets_of form) → ViewLeads name parent form v.number k dims
    view_of_memory v m k dims alone up less g offsets =
        let w : Way = way_behind v.first standing (map_of form g.memory.shape) None in
        let none : way_at known.memories known.ways (Some m) ≡ None = ap (λ o. way_unless o (way_in known.ways (Some m))) g.is in
        let found : way_in known.ways (Some v.number) ≡ Some (way_behind v.first standing (map_of form g.memory.shape) None) =
        v.way m up less g.memory.shape (ap (λ o. shape_named o (way_in known.ways (Some m))) g.is) ∙ ap (λ o. Some (way_behind v.first standing (map_of form g.memory.shape) o)) none
        in
        let is : way_at known.memories known.ways (Some v.number) ≡ Some (way_behind v.first standing (map_of form g.memory.shape) None) = ap (λ o. way_unless o (way_in known.ways (Some v.number))) alone ∙ found in
        let leads : LeadsTo known.memories (way_behind v.first standing (map_of form g.memory.shape) None) = good.lead (Some v.number) w found in
        let keeps : KeepsOffsets (way_behind v.first standing (map_of form g.memory.shape) None) = good.keep (Some v.number) w found in
        let there : memory_in known.memories parent.entity ≡ Some g.memory = ap (memory_in known.memories) up ∙ g.is in
        let many = keeps.many in
        let long = from_long v.first (length loops) (offsets_of form) in
        let needed = needed_few (sort_of form) g.memory.shape.dims in
        let most = leads.own.parent.few_dims in
        record {
          view = record {
            way = w;
            is = is;
            kind = g.kind;
            sized = g.sized;
            long = ap (view_dims form) g.long ∙ dims_long form g.memory.shape.dims leads.own.shape;
            leads = leads;
            same = ap (λ (x : Memory). x.shape.kind) (one_memory g.memory leads.memory (sym there ∙ leads.found));
            offsets = keeps;
            kept = own_kept v.first (offsets_of form) offsets v.own;
          };
          runs = (omega (arith, many, long, needed, most), view_runs name parent form v.first [] w (ap (way_at known.memories known.ways) v.named ∙ is) (sym (append-nil (hidden_from v.first (length loops) (offsets_of form)))) v.own offsets);
          first = v.first;
          rest = [];
          hidden = sym (append-nil (hidden_from v.first (length loops) (offsets_of form)));
        }

    pub view_of_view : (v : IsViewed known.memories known.ways p here) (m : ℕ) (k : Option Kind) (dims : ℕ) → memory_in known.memories (Some v.number) ≡ None → parent.entity ≡ Some m → m < v.number
        → IsView known p loops m k dims → OffsetsKnown (offsets_of form) → ViewLeads name parent form v.number k dims
    view_of_view v m k dims alone up less g offsets =
        let w : Way = way_behind v.first standing (map_of form g.way.is.shape) (Some g.way) in
        let there = unled (memory_in known.memories (Some m)) (way_in known.ways (Some m)) g.way g.is in
        let named : shape_named (memory_in known.memories (Some m)) (way_in known.ways (Some m)) ≡ Some g.way.is.shape =
        ap (λ o. shape_named o (way_in known.ways (Some m))) there.0 ∙ ap (λ o. shape_named None o) there.1
        in
        let found : way_in known.ways (Some v.number) ≡ Some (way_behind v.first standing (map_of form g.way.is.shape) (Some g.way)) =
        v.way m up less g.way.is.shape named ∙ ap (λ o. Some (way_behind v.first standing (map_of form g.way.is.shape) o)) g.is
        in
        let is : way_at known.memories known.ways (Some v.number) ≡ Some (way_behind v.first standing (map_of form g.way.is.shape) (Some g.way)) = ap (λ o. way_unless o (way_in known.ways (Some v.number))) alone ∙ found in
        let leads : LeadsTo known.memories (way_behind v.first standing (map_of form g.way.is.shape) (Some g.way)) = good.lead (Some v.number) w found in
        let keeps : KeepsOffsets (way_behind v.first standing (map_of form g.way.is.shape) (Some g.way)) = good.keep (Some v.number) w found in
        let many = keeps.many in
        let before = g.offsets.many in
        let long = from_long v.first (length loops) (offsets_of form) in
        let both = length-append (hidden_from v.first (length loops) (offsets_of form)) g.way.hidden in
        let needed = needed_few (sort_of form) g.way.is.shape.dims in
        let most = leads.own.parent.few_dims in
        record {
          view = record {
            way = w;
            is = is;
            kind = g.kind;
            sized = g.sized;
            long = ap (view_dims form) g.long ∙ dims_long form g.way.is.shape.dims leads.own.shape;
            leads = leads;
            same = g.same ∙ ap (λ (x : Memory). x.shape.kind) (one_memory g.leads.memory leads.memory (sym g.leads.found ∙ leads.found));
            offsets = keeps;
            kept = kept_both (hidden_from v.first (length loops) (offsets_of form)) g.way.hidden (own_kept v.first (offsets_of form) offsets v.own) g.kept;
          };
          runs = (omega (arith, many, before, long, both, needed, most), view_runs name parent form v.first g.way.hidden w (ap (way_at known.memories known.ways) v.named ∙ is) refl v.own offsets);
          first = v.first;
          rest = g.way.hidden;
          hidden = refl;
        }
