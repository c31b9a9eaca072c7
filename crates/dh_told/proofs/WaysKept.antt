-- The way of what a command of a ready program accesses is kept in each step that does it: its views are those of the plan,
-- and lead to a memory of few banks; and its offsets are kept in variables that are seen, of which the command sets none.
use Rattle.std.proofs.Common.{◌≡◌, inl, inr, ℕ, zero, suc, ◌<◌, ◌≤◌, Bool, List, [], ◌∷◌, drop, length, Option, Some, ap, sym, ◌∙◌, subst, arith}
use Rattle.std.specs.List.{AllByRecursion}
use Rattle.dh_value.specs.declared.kinds.Kind.{Kind}
use Rattle.dh_tree.specs.declared.tables.MemEntry.{MemEntry}
use Rattle.dh_tree.specs.declared.trees.expressions.Ref.{Ref}
use Rattle.dh_tree.specs.Elements.{banks_of, dims_at}
use Rattle.dh_tree.specs.Memories.{table_of}
use Rattle.dh_tree.specs.PlainTrees as plain
use Rattle.dh_tree.specs.Ready.{IsReady}
use Rattle.dh_tree.specs.Seen.{program_seen}
use Rattle.dh_tree.specs.Shapes.{IsMemory, IsProgramTable}
use Rattle.dh_meaning.specs.Bindings.{Binding, binding_in}
use Rattle.dh_meaning.specs.CoreOf.{Known, memory_of, way_of}
use Rattle.dh_meaning.specs.Ways.{Hidden, Way, hidden_in, way_to, WayStep as ViewStep}
use Rattle.dh_plan.specs.Correspondence.{Round}
use Rattle.dh_ways.specs.Leading.{StepsLead, next_dims}
use Rattle.dh_sound.specs.BehindViews.{TermBehind, TermsBehind, WayBelow}
use Rattle.dh_sound.specs.SameKeys.{IsNoIterator}
use Rattle.dh_sound.proofs.OwnVariables.{hidden_behind}
use Rattle.dh_sound.proofs.ShiftsOnWays.{ShiftsWithin, ways_shift}
use Rattle.dh_expressions.specs.declared.paths.Level.{Level}
use Rattle.dh_expressions.specs.declared.scenes.Scene.{Scene}
use Rattle.dh_expressions.specs.Drafted.{BlockStep}
use Rattle.dh_expressions.specs.Evaluated.{known_in}
use Rattle.dh_expressions.specs.ViewsTold.{TellsViews}
use Rattle.dh_commands.specs.ShownVariables.{IsSeen}
use Rattle.dh_blocks.specs.BlockTraced.{TellsWays}
use Rattle.dh_blocks.specs.NamedVariables.{IsNamedHere}
use Rattle.dh_blocks.specs.SoundTerms.{IsSoundHidden, IsSoundWay, kept_name}
use Rattle.dh_typed_laid.specs.SuitingBlocks.{WayHere}
use Rattle.dh_typed_laid.proofs.MemoriesSuit.{dims_there}
use Rattle.dh_reached.specs.IndicesKept.{HiddenKept, ShiftsKept, WayKept}
use Rattle.dh_told.proofs.NamedDirectly.{ways_here}

-- Memories.

few_there : (table : List MemEntry) (memory : ℕ) → AllByRecursion IsMemory table → banks_of (dims_at table memory) ≤ 64
few_there [] memory h = omega arith
few_there (e ∷ table) zero h = h.0.shape.few_banks
few_there (e ∷ table) (suc memory) h = few_there table memory h.1

-- Names that a block sees: what keeps an offset iterates over nothing, and so is a variable.

not_plain : (b : Binding) (factor : ℕ) → IsNoIterator (Some b) → b.iterates ≡ Some factor → ⊥
not_plain b factor h e = absurd cc

pub seen_so : (scene : Scene) (levels : List Level) (kinds : List Kind) (rounds : List Round) (touched : ℕ → Bool) (h : Hidden) → IsNamedHere scene levels kinds rounds touched (kept_name h) h.kind → IsNoIterator (binding_in (known_in scene).bindings h.entity) → IsSeen scene levels h.entity
seen_so scene levels kinds rounds touched h (inl v) plain = v.seen
seen_so scene levels kinds rounds touched h (inr q) plain =
    absurd
    (not_plain q.is.binding q.round.loop.factor
    (subst (λ (o : Option Binding). IsNoIterator o) (ap (λ (n : ℕ). binding_in (known_in scene).bindings n) (one h.entity q.round.loop.iterator q.is.entity) ∙ q.is.bound) plain) q.is.iterates)
  where
    one : (m n : ℕ) → Some m ≡ Some n → m ≡ n
    one m n e = cc

-- What a command sets.

-- none of these
abbrev pub AreFree : (Sets : ℕ → Type 0) → List Hidden → Type 0
AreFree Sets hs = AllByRecursion (λ (h : Hidden). Sets h.entity → ⊥) hs

module _ (scene : Scene) (Sets : ℕ → Type 0) where
  abbrev mutual
    -- no way of an expression has a variable that is set
    pub TermFree : plain.Term → Type 0
    TermFree (plain.term place kind form) = FormFree form

    pub FormFree : plain.TermForm → Type 0
    FormFree (plain.number negative z) = Unit {0}
    FormFree (plain.truth_value b) = Unit {0}
    FormFree (plain.named r) = Unit {0}
    FormFree (plain.accessed r ts) = TermsFree ts × AreFree Sets (hidden_in (way_of (known_in scene) r))
    FormFree (plain.in_bank r bank at row) = TermFree row
    FormFree (plain.applied o left right) = TermFree left × TermFree right
    FormFree (plain.converted inner to) = TermFree inner

    pub TermsFree : plain.Terms → Type 0
    TermsFree plain.no_terms = Unit {0}
    TermsFree (plain.term_then t ts) = TermFree t × TermsFree ts

  -- where no way has one
  module _ (free : (r : Ref) → AreFree Sets (hidden_in (way_of (known_in scene) r))) where
    mutual
      pub all_free : (t : plain.Term) → TermFree t
      all_free (plain.term place kind (plain.number negative z)) = tt
      all_free (plain.term place kind (plain.truth_value b)) = tt
      all_free (plain.term place kind (plain.named r)) = tt
      all_free (plain.term place kind (plain.accessed r ts)) = (all_free_of ts, free r)
      all_free (plain.term place kind (plain.in_bank r bank at row)) = all_free row
      all_free (plain.term place kind (plain.applied o left right)) = (all_free left, all_free right)
      all_free (plain.term place kind (plain.converted inner to)) = all_free inner

      pub all_free_of : (ts : plain.Terms) → TermsFree ts
      all_free_of plain.no_terms = tt
      all_free_of (plain.term_then t ts) = (all_free t, all_free_of ts)

  -- where what is set is behind all views that stand before
  module _ (ways : TellsWays scene) (x : ℕ) (behind : (n : ℕ) → n < x → Sets n → ⊥) where
    each_free : (hs : List Hidden) → AllByRecursion (λ (h : Hidden). h.entity < x) hs → AreFree Sets hs
    each_free [] a = tt
    each_free (h ∷ hs) a = (behind h.entity a.0, each_free hs a.1)

    way_free : (r : Ref) → WayBelow (program_seen scene.program.now) x r.entity → AreFree Sets (hidden_in (way_of (known_in scene) r))
    way_free r a = subst (λ (known : Known). AreFree Sets (hidden_in (way_of known r))) (sym ways) (each_free (hidden_in (way_to (program_seen scene.program.now) r.entity)) a)

    mutual
      behind_free : (t : plain.Term) → TermBehind (program_seen scene.program.now) x t → TermFree t
      behind_free (plain.term place kind (plain.number negative z)) b = tt
      behind_free (plain.term place kind (plain.truth_value v)) b = tt
      behind_free (plain.term place kind (plain.named r)) b = tt
      behind_free (plain.term place kind (plain.accessed r ts)) b = (behind_free_of ts b.1, way_free r b.0)
      behind_free (plain.term place kind (plain.in_bank r bank at row)) b = behind_free row b.1
      behind_free (plain.term place kind (plain.applied o left right)) b = (behind_free left b.0, behind_free right b.1)
      behind_free (plain.term place kind (plain.converted inner to)) b = behind_free inner b

      pub behind_free_of : (ts : plain.Terms) → TermsBehind (program_seen scene.program.now) x ts → TermsFree ts
      behind_free_of plain.no_terms b = tt
      behind_free_of (plain.term_then t ts) b = (behind_free t b.0, behind_free_of ts b.1)

-- nothing is set
pub none_free : (scene : Scene) (r : Ref) → AreFree (λ e. ⊥) (hidden_in (way_of (known_in scene) r))
none_free scene r = each (hidden_in (way_of (known_in scene) r))
  where
    each : (hs : List Hidden) → AreFree (λ e. ⊥) hs
    each [] = tt
    each (h ∷ hs) = ((λ x. x), each hs)

-- one of the program's own variables is set
pub own_free : (scene : Scene) → TellsWays scene → (n : ℕ) → n < length (program_seen scene.program.now).entities → (r : Ref) → AreFree (λ e. e ≡ n) (hidden_in (way_of (known_in scene) r))
own_free scene ways n own r =
    subst (λ (known : Known). AreFree (λ e. e ≡ n) (hidden_in (way_of known r))) (sym ways) (each (hidden_in (way_to (program_seen scene.program.now) r.entity)) (hidden_behind (program_seen scene.program.now) r.entity))
  where
    never : (e least m : ℕ) → least ≤ e → m < least → e ≡ m → ⊥
    never e least m l k f = omega (arith, l, k, f)

    each : (hs : List Hidden) → AllByRecursion (λ (h : Hidden). length (program_seen scene.program.now).entities ≤ h.entity) hs → AreFree (λ e. e ≡ n) hs
    each [] a = tt
    each (h ∷ hs) a = (never h.entity (length (program_seen scene.program.now).entities) n a.0 own, each hs a.1)

-- Ways.

shifts_kept : (ss : List ViewStep) (hs : List Hidden) (deepest : ℕ) → ShiftsWithin ss hs deepest → ShiftsKept ss hs deepest
shifts_kept [] hs deepest h = tt
shifts_kept (s ∷ ss) hs deepest h = (h.0, shifts_kept ss (drop s.offsets hs) deepest h.1)

module _ (x : BlockStep) (scene : Scene) (levels : List Level) (table : List MemEntry) (Name : Ref → Kind → Type 0) (seen : (h : Hidden) → Name (kept_name h) h.kind → IsNoIterator (binding_in (known_in scene).bindings h.entity) → IsSeen scene levels h.entity)
    (table_is : x.start.table ≡ table_of (program_seen scene.program.now)) (ready : IsReady (program_seen scene.program.now)) (program_table : IsProgramTable (table_of (program_seen scene.program.now))) (ways : TellsWays scene) (views : TellsViews scene x.start.views) where
  hidden_kept : (Sets : ℕ → Type 0) (r : Ref) (hs : List Hidden) → AllByRecursion (λ (h : Hidden). IsSoundHidden (known_in scene) table Name r h) hs → AreFree Sets hs → AllByRecursion (HiddenKept x scene levels Sets) hs
  hidden_kept Sets r [] s free = tt
  hidden_kept Sets r (h ∷ hs) s free = (record { seen = seen h s.0.named s.0.plain; deep = s.0.deep; free = free.0 }, hidden_kept Sets r hs s.1 free.1)

  pub way_kept : (Sets : ℕ → Type 0) (r : Ref) → IsSoundWay (known_in scene) table Name r → AreFree Sets (hidden_in (way_of (known_in scene) r)) → (w : Way) → way_of (known_in scene) r ≡ Some w → WayKept x scene levels Sets r w
  way_kept Sets r s free w e =
      let memory : ℕ = memory_of (known_in scene) r in
      let here : WayHere (table_of (program_seen scene.program.now)) (memory_of (known_in scene) r) w = ways_here scene ready program_table ways r w e in
      let own : way_to (program_seen scene.program.now) r.entity ≡ Some w = sym (ap (λ (known : Known). way_of known r) ways) ∙ e in
      let entries : AllByRecursion IsMemory x.start.table = subst (λ (tb : List MemEntry). AllByRecursion IsMemory tb) (sym table_is) program_table.entries in
      record {
        numbered = (views r w e).views_are;
        leads = subst (λ (tb : List MemEntry). StepsLead w.steps (dims_at tb memory)) (sym table_is) here.steps;
        first = subst (λ (tb : List MemEntry). next_dims w.steps (dims_at tb memory) ≡ w.is.shape.dims) (sym table_is) here.first;
        memory_dims = dims_there x.start.table memory entries;
        few_banks = few_there x.start.table memory entries;
        shifts = shifts_kept w.steps w.hidden w.shifts (ways_shift (program_seen scene.program.now) ready r.entity w own);
        hidden = hidden_kept Sets r w.hidden (subst (λ (o : Option Way). AllByRecursion (λ (h : Hidden). IsSoundHidden (known_in scene) table Name r h) (hidden_in o)) e s) (subst (λ (o : Option Way). AreFree Sets (hidden_in o)) e free);
        told = λ bank behind low m. (views r w e).banks_are bank behind low ∙ m;
      }
