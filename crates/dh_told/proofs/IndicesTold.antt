-- The accesses of commands and tests of a ready program keep the rules on indices, in each step that does them.
use Rattle.std.proofs.Common.{◌≡◌, ℕ, suc, ◌+◌, ◌<◌, ◌≤◌, ◌^◌, List, Option, Some, None, refl, ap, sym, ◌∙◌, subst, length, arith}
use Rattle.std.specs.Prelude.{true, false, [], ◌∷◌, ◌++◌, slice_get}
use Rattle.std.specs.List.{AllByRecursion}
use Rattle.dh_value.specs.declared.kinds.Kind.{Kind}
use Rattle.dh_tree.specs.declared.tables.Dim.{Dim}
use Rattle.dh_tree.specs.declared.tables.MemEntry.{MemEntry}
use Rattle.dh_tree.specs.declared.trees.expressions.Ref.{Ref}
use Rattle.dh_tree.specs.Counters.{counters_of}
use Rattle.dh_tree.specs.Elements.{banks_of, dims_at}
use Rattle.dh_tree.specs.Indices.{form_of, indices_breaches}
use Rattle.dh_tree.specs.Memories.{memories_of, memory_in, number_in, table_of}
use Rattle.dh_tree.specs.PlainTrees as plain
use Rattle.dh_tree.specs.PlainTrees.{Action, action, lets, lets_memory, views, assigns, stores, reduces, calls, blocks, decides, repeats, counts, MaybeAction, no_action, one_action, Actions, no_actions, action_then, Groups, no_groups, group_then, ViewPlan}
use Rattle.dh_tree.specs.Ready.{IsReady}
use Rattle.dh_tree.specs.Seen.{program_seen, terms}
use Rattle.dh_tree.specs.Shapes.{IsDim, IsProgramTable, IsShape}
use Rattle.dh_tree.specs.ViewOffsets.{offsets_of}
use Rattle.dh_meaning.specs.Bindings.{binding_in}
use Rattle.dh_meaning.specs.CoreOf.{Known, dims_by, dims_named, entity_number, memory_of, way_of}
use Rattle.dh_meaning.specs.Ways.{Hidden, Way, base_of, behind_all, hidden_from, hidden_in, part_standings, standings, way_at, way_to}
use Rattle.dh_meaning.specs.Phases.{Located}
use Rattle.dh_meaning.specs.Sites as source
use Rattle.dh_meaning.specs.Sites.{in_arm}
use Rattle.dh_meets.specs.SourceEvents.{Element, Site, SourceAccess, SourceEvent, accesses, accesses_in, assigned, events, groups_events, in_row, one_access, other_events, part_events, site_of, source_term_events, source_terms_events, trace, with_indices, write_events}
use Rattle.dh_sound.specs.BehindViews.{ActionBehind, FormBehind, GroupsBehind, IsOwn, KeepsFrom, OtherBehind, PartBehind, TermsBehind}
use Rattle.dh_sound.specs.BlockTold.{IsOfMemory}
use Rattle.dh_sound.specs.IndexValues.{AllHaveIndexKinds, HasElementKinds, element_breaches}
use Rattle.dh_sound.specs.SameKeys.{IsNoIterator}
use Rattle.dh_sound.specs.Trails.{EachAccess}
use Rattle.dh_sound.proofs.BanksReached.{declared_dims}
use Rattle.dh_sound.proofs.IndicesKeep.{KeepsIn, access_keeps}
use Rattle.dh_sound.proofs.IndicesThrough.{keeps_through}
use Rattle.dh_sound.proofs.KindsOfPrograms.{indices_have_kinds}
use Rattle.dh_sound.proofs.OwnMemories.{itself}
use Rattle.dh_sound.proofs.PortsKept.{typed_program}
use Rattle.dh_sound.proofs.SortsOfPrograms.{accesses_declared}
use Rattle.dh_expressions.specs.declared.paths.Level.{Level}
use Rattle.dh_expressions.specs.declared.scenes.Scene.{Scene}
use Rattle.dh_expressions.specs.Drafted.{BlockStep}
use Rattle.dh_expressions.specs.Evaluated.{known_in}
use Rattle.dh_expressions.specs.ViewsTold.{TellsViews}
use Rattle.dh_commands.specs.Setting.{IsVariableAmong}
use Rattle.dh_commands.specs.ShownVariables.{IsSeen}
use Rattle.dh_blocks.specs.BlockTraced.{TellsWays}
use Rattle.dh_blocks.specs.SoundCommands.{CanKeep, CanKeepFrom, SoundAction, SoundGroups, SoundOther, SoundPart}
use Rattle.dh_blocks.specs.SoundTerms.{AreSound, IsSound, IsSoundTarget, IsSoundWay, kept_name}
use Rattle.dh_typed_blocks.proofs.MemoriesFew.{ready_few}
use Rattle.dh_used.proofs.SharesOfProgram.{access_among}
use Rattle.dh_sound.specs.PhaseFacts.{StandsAmong}
use Rattle.dh_reached.specs.IndicesKept.{ActionsKeep, AllTurn, AreSeenFrom, CommandKeeps, GroupsKeep, IndexTurns, IndicesKeep, NameTurns, OperandTurns, OtherKeeps, TermKeeps, TermsKeep, ViewKeeps, WayKept}
use Rattle.dh_reached.proofs.OppositeArms.{each_back, each_front}
use Rattle.dh_told.proofs.NamedDirectly.{way_leads}
use Rattle.dh_told.proofs.WaysKept.{AreFree, TermFree, TermsFree, all_free, all_free_of, behind_free_of, none_free, own_free, way_kept}

-- Accesses.

-- indices that keep the rules on these dimensions
pub record IndicesOk (scene : Scene) (named : List Dim) (ts : plain.Terms) : Type 0 where
  pub dims : AllByRecursion IsDim named
  pub few : banks_of named ≤ 2 ^ 32
  pub kinds : AllHaveIndexKinds (counters_of (program_seen scene.program.now)) ts
  pub keeps : indices_breaches (counters_of (program_seen scene.program.now)) named ts ≡ []

-- the dimensions of what an entity stands for
abbrev dims_in : List MemEntry → Known → Option ℕ → List Dim
dims_in table known entity = dims_by (dims_at table (entity_number (number_in known.memories (base_of (way_at known.memories known.ways entity) entity)))) (way_at known.memories known.ways entity)

abbrev pub ElementOk : Scene → Option ℕ → Element → Type 0
ElementOk scene entity (with_indices ts) = IndicesOk scene (dims_in (table_of (program_seen scene.program.now)) (known_in scene) entity) ts
ElementOk scene entity (in_row bank row) = Unit {0}

abbrev pub AccessOk : Scene → SourceAccess → Type 0
AccessOk scene a = ElementOk scene a.entity a.element

each_from : (P : SourceAccess → Type 0) (es : List SourceEvent) → ((k : ℕ) (a : SourceAccess) → slice_get (accesses_in es) k ≡ Some a → P a) → EachAccess P es
each_from P [] h = tt
each_from P (accesses a ∷ es) h = (h 0 a refl, each_from P es (λ k b e. h (suc k) b e))
each_from P (assigned entity ∷ es) h = each_from P es h

few_enough : (n : ℕ) → n ≤ 64 → n ≤ 2 ^ 32
few_enough n l = omega (arith, l)

module _ (scene : Scene) (ready : IsReady (program_seen scene.program.now)) (program_table : IsProgramTable (table_of (program_seen scene.program.now))) (ways : TellsWays scene) where
  access_ok : (k : ℕ) (a : SourceAccess) → slice_get (accesses_in (trace (program_seen scene.program.now))) k ≡ Some a → AccessOk scene a
  access_ok k a at = by (way_to (program_seen scene.program.now) a.entity) refl
    where
      has_kinds : HasElementKinds (counters_of (program_seen scene.program.now)) a.element
      has_kinds = indices_have_kinds (program_seen scene.program.now) (typed_program (program_seen scene.program.now) ready) k a at

      -- the dimensions, by the way
      named : (o : Option Way) → way_to (program_seen scene.program.now) a.entity ≡ o
          → dims_in (table_of (program_seen scene.program.now)) (known_in scene) a.entity ≡ dims_by (dims_at (table_of (program_seen scene.program.now)) (entity_number (number_in (memories_of (program_seen scene.program.now)) (base_of o a.entity)))) o
      named o e =
          ap (λ (known : Known). dims_in (table_of (program_seen scene.program.now)) known a.entity) ways
          ∙ ap (λ (w : Option Way). dims_by (dims_at (table_of (program_seen scene.program.now)) (entity_number (number_in (memories_of (program_seen scene.program.now)) (base_of w a.entity)))) w) e

      -- to elements by dimensions
      element : (ds : List Dim) → dims_in (table_of (program_seen scene.program.now)) (known_in scene) a.entity ≡ ds → AllByRecursion IsDim ds → banks_of ds ≤ 2 ^ 32 → (e : Element) → HasElementKinds (counters_of (program_seen scene.program.now)) e
          → element_breaches (counters_of (program_seen scene.program.now)) ds e ≡ [] → ElementOk scene a.entity e
      element ds is dims few (with_indices ts) kinds none = subst (λ (xs : List Dim). IndicesOk scene xs ts) (sym is) (record { dims = dims; few = few; kinds = kinds; keeps = none })
      element ds is dims few (in_row bank row) kinds none = tt

      by : (o : Option Way) → way_to (program_seen scene.program.now) a.entity ≡ o → AccessOk scene a
      by None e =
          let own : IsOfMemory (program_seen scene.program.now) a = accesses_declared (program_seen scene.program.now) ready (typed_program (program_seen scene.program.now) ready) k a at in
          let here : memory_in (memories_of (program_seen scene.program.now)) a.entity ≡ Some own.memory =
          subst (λ (o : Option ℕ). memory_in (memories_of (program_seen scene.program.now)) o ≡ Some own.memory) (sym (itself (program_seen scene.program.now) a.entity own.entity e own.is)) own.declared
          in
          let keeps : KeepsIn (counters_of (program_seen scene.program.now)) own.memory a.element = access_keeps (program_seen scene.program.now) ready.indices ready.views k a at own.memory here in
          let dims_are : dims_at (table_of (program_seen scene.program.now)) (entity_number (number_in (memories_of (program_seen scene.program.now)) a.entity)) ≡ own.memory.shape.dims = declared_dims (memories_of (program_seen scene.program.now)) a.entity own.memory here in
          element own.memory.shape.dims (named None e ∙ dims_are) keeps.dims
          (subst (λ (ds : List Dim). banks_of ds ≤ 2 ^ 32) dims_are ((ready_few (program_seen scene.program.now) ready).banks (entity_number (number_in (memories_of (program_seen scene.program.now)) a.entity)))) a.element has_kinds keeps.none
      by (Some w) e =
          let shape : IsShape w.is.shape = (way_leads (program_seen scene.program.now) ready program_table a.entity w e).own.own in
          element w.is.shape.dims (named (Some w) e) shape.dims (few_enough (banks_of w.is.shape.dims) shape.few_banks) a.element has_kinds
          (keeps_through (program_seen scene.program.now) ready.indices ready.views k a at w e).none

  -- so of the accesses of a command where it stands
  pub command_ok : (c : Located) → StandsAmong 0 (trace (program_seen scene.program.now)) c → EachAccess (AccessOk scene) (events c.around c.command)
  command_ok c stands = each_from (AccessOk scene) (events c.around c.command) (λ i a e. access_ok (c.first + i) a (access_among (trace (program_seen scene.program.now)) c stands i a e))

-- Expressions.

module _ (x : BlockStep) (scene : Scene) (levels : List Level) (table : List MemEntry) (Name : Ref → Kind → Type 0) (names : (r : Ref) (k : Kind) → Name r k → NameTurns x scene levels r)
    (seen : (h : Hidden) → Name (kept_name h) h.kind → IsNoIterator (binding_in (known_in scene).bindings h.entity) → IsSeen scene levels h.entity) (table_is : x.start.table ≡ table_of (program_seen scene.program.now))
    (ready : IsReady (program_seen scene.program.now)) (program_table : IsProgramTable (table_of (program_seen scene.program.now))) (ways : TellsWays scene) (viewed : TellsViews scene x.start.views) where
  operand_turns : (t : plain.Term) → IsSound (known_in scene) table Name t → OperandTurns x scene levels (form_of t)
  operand_turns (plain.term place kind (plain.number negative z)) s = tt
  operand_turns (plain.term place kind (plain.truth_value b)) s = tt
  operand_turns (plain.term place kind (plain.named r)) s = names r _ s.0
  operand_turns (plain.term place kind (plain.accessed r ts)) s = tt
  operand_turns (plain.term place kind (plain.in_bank r bank at row)) s = tt
  operand_turns (plain.term place kind (plain.applied o left right)) s = tt
  operand_turns (plain.term place kind (plain.converted inner to)) s = tt

  index_turns : (t : plain.Term) → IsSound (known_in scene) table Name t → IndexTurns x scene levels (form_of t)
  index_turns (plain.term place kind (plain.number negative z)) s = tt
  index_turns (plain.term place kind (plain.truth_value b)) s = tt
  index_turns (plain.term place kind (plain.named r)) s = names r _ s.0
  index_turns (plain.term place kind (plain.accessed r ts)) s = tt
  index_turns (plain.term place kind (plain.in_bank r bank at row)) s = tt
  index_turns (plain.term place kind (plain.applied o left right)) s = (operand_turns left s.0.0, operand_turns right s.0.1)
  index_turns (plain.term place kind (plain.converted inner to)) s = tt

  all_turn : (ts : plain.Terms) → AreSound (known_in scene) table Name ts → AllTurn x scene levels ts
  all_turn plain.no_terms s = tt
  all_turn (plain.term_then t ts) s = (index_turns t s.0, all_turn ts s.1)

  indices_keep : (r : Ref) (ts : plain.Terms) → memory_of (known_in scene) r < 2 ^ 32 → AreSound (known_in scene) table Name ts → IndicesOk scene (dims_named (known_in scene) (table_of (program_seen scene.program.now)) r) ts
      → IndicesKeep x scene levels (memory_of (known_in scene) r) (dims_named (known_in scene) x.start.table r) ts
  indices_keep r ts small s ok =
      subst (λ (tb : List MemEntry). IndicesKeep x scene levels (memory_of (known_in scene) r) (dims_named (known_in scene) tb r) ts) (sym table_is)
      (record { small = small; dims = ok.dims; few = ok.few; kinds = ok.kinds; keeps = ok.keeps; turns = all_turn ts s })

  -- an access of what a name stands for
  access_keeps_so : (Sets : ℕ → Type 0) (r : Ref) → IsSoundWay (known_in scene) table Name r → AreFree Sets (hidden_in (way_of (known_in scene) r)) → (w : Way) → way_of (known_in scene) r ≡ Some w → WayKept x scene levels Sets r w
  access_keeps_so Sets r s free = way_kept x scene levels table Name seen table_is ready program_table ways viewed Sets r s free

  module _ (Sets : ℕ → Type 0) where
    mutual
      pub term_keeps : (site : Site) (t : plain.Term) → IsSound (known_in scene) table Name t → TermFree scene Sets t → EachAccess (AccessOk scene) (source_term_events site t) → TermKeeps x scene levels Sets t
      term_keeps site (plain.term place kind (plain.number negative z)) s free ok = tt
      term_keeps site (plain.term place kind (plain.truth_value b)) s free ok = tt
      term_keeps site (plain.term place kind (plain.named r)) s free ok = tt
      term_keeps site (plain.term place kind (plain.accessed r ts)) s free ok = (
        terms_keep site ts s.0.0 free.0 (each_front (AccessOk scene) (source_terms_events site ts) (one_access place r.entity (with_indices ts) false site) ok),
        (
          indices_keep r ts s.1.0 s.0.0 (each_back (AccessOk scene) (source_terms_events site ts) (one_access place r.entity (with_indices ts) false site) ok).0,
          access_keeps_so Sets r s.0.1 free.1,
        ),
      )
      term_keeps site (plain.term place kind (plain.in_bank r bank at row)) s free ok = term_keeps site row s.0 free (each_front (AccessOk scene) (source_term_events site row) (one_access place r.entity (in_row bank row) false site) ok)
      term_keeps site (plain.term place kind (plain.applied o left right)) s free ok = (
        term_keeps site left s.0.0 free.0 (each_front (AccessOk scene) (source_term_events site left) (source_term_events site right) ok),
        term_keeps site right s.0.1 free.1 (each_back (AccessOk scene) (source_term_events site left) (source_term_events site right) ok),
      )
      term_keeps site (plain.term place kind (plain.converted inner to)) s free ok = term_keeps site inner s.0 free ok

      terms_keep : (site : Site) (ts : plain.Terms) → AreSound (known_in scene) table Name ts → TermsFree scene Sets ts → EachAccess (AccessOk scene) (source_terms_events site ts) → TermsKeep x scene levels Sets ts
      terms_keep site plain.no_terms s free ok = tt
      terms_keep site (plain.term_then t ts) s free ok = (
        term_keeps site t s.0 free.0 (each_front (AccessOk scene) (source_term_events site t) (source_terms_events site ts) ok),
        terms_keep site ts s.1 free.1 (each_back (AccessOk scene) (source_term_events site t) (source_terms_events site ts) ok),
      )

  -- where nothing is set
  none_set : (t : plain.Term) → TermFree scene (λ e. ⊥) t
  none_set t = all_free scene (λ e. ⊥) (none_free scene) t

  target_keeps : (site : Site) (t : plain.Term) → IsSoundTarget (known_in scene) table Name t → EachAccess (AccessOk scene) (write_events site t) → TermKeeps x scene levels (λ e. ⊥) t
  target_keeps site (plain.term place kind (plain.accessed r ts)) s ok = (
    terms_keep (λ e. ⊥) site ts s.0.0 (all_free_of scene (λ e. ⊥) (none_free scene) ts) (each_front (AccessOk scene) (source_terms_events site ts) (one_access place r.entity (with_indices ts) true site) ok),
    (
      indices_keep r ts s.1 s.0.0 (each_back (AccessOk scene) (source_terms_events site ts) (one_access place r.entity (with_indices ts) true site) ok).0,
      access_keeps_so (λ e. ⊥) r s.0.1 (none_free scene r),
    ),
  )
  target_keeps site (plain.term place kind (plain.in_bank r bank at row)) s ok = term_keeps (λ e. ⊥) site row s.0 (none_set row) (each_front (AccessOk scene) (source_term_events site row) (one_access place r.entity (in_row bank row) true site) ok)
  target_keeps site (plain.term place kind (plain.number negative z)) s ok = absurd s
  target_keeps site (plain.term place kind (plain.truth_value b)) s ok = absurd s
  target_keeps site (plain.term place kind (plain.named r)) s ok = absurd s
  target_keeps site (plain.term place kind (plain.applied o left right)) s ok = absurd s
  target_keeps site (plain.term place kind (plain.converted inner to)) s ok = absurd s

  -- Commands.

  -- a variable of the program's own is no offset
  own_set : (r : Ref) → IsOwn (program_seen scene.program.now) r → (t : plain.Term) → TermFree scene (λ e. e ≡ entity_number r.entity) t
  own_set r own t =
      all_free scene (λ e. e ≡ entity_number r.entity) (own_free scene ways (entity_number r.entity) (subst (λ (n : ℕ). n < length (program_seen scene.program.now).entities) (sym (ap entity_number own.1.0)) own.1.1)) t

  -- offsets of a view
  seen_from : (depth first : ℕ) (os : List plain.Term) → CanKeepFrom scene levels table Name depth first os → AreSeenFrom scene levels first (length os)
  seen_from depth first [] s = tt
  seen_from depth first (o ∷ os) s = (s.0.0.seen, seen_from depth (suc first) os s.1)

  -- the first of a way's variables is the first that its view keeps
  first_kept : (d n : ℕ) (h : Hidden) (hs rest : List Hidden) (o : plain.Term) (os : List plain.Term) → h ∷ hs ≡ hidden_from n d (o ∷ os) ++ rest → h.entity ≡ n
  first_kept d n h hs rest o os e = ap (λ (g : Hidden). g.entity) (one h hs _ _ e)
    where
      one : (g : Hidden) (gs : List Hidden) (f : Hidden) (fs : List Hidden) → g ∷ gs ≡ f ∷ fs → g ≡ f
      one g gs f fs q = cc

  -- what is kept from a variable on is not below it
  not_among : (first n count e : ℕ) → first ≡ n → e < n → IsVariableAmong first count e → ⊥
  not_among first n count e same l among = let low = among.0 in omega (arith, same, l, low)

  view_keeps : (hs : List Hidden) (site : Site) (d n : ℕ) (form : ViewPlan) (rest : List Hidden) → hs ≡ hidden_from n d (offsets_of form) ++ rest → CanKeep scene levels table Name hs (offsets_of form) → TermsBehind (program_seen scene.program.now) n (terms (offsets_of form))
      → EachAccess (AccessOk scene) (source_terms_events site (terms (offsets_of form))) → ViewKeeps x scene levels hs (offsets_of form)
  view_keeps hs site d n form rest is s behind ok = by hs (offsets_of form) is s behind ok
    where
      by : (gs : List Hidden) (os : List plain.Term) → gs ≡ hidden_from n d os ++ rest → CanKeep scene levels table Name gs os → TermsBehind (program_seen scene.program.now) n (terms os) → EachAccess (AccessOk scene) (source_terms_events site (terms os)) → ViewKeeps x scene levels gs os
      by [] [] is s behind ok = refl
      by [] (o ∷ os) is s behind ok = elim s [ ]
      by (h ∷ gs) [] is s behind ok = (tt, tt)
      by (h ∷ gs) (o ∷ os) is s behind ok = (
        terms_keep (λ e. IsVariableAmong h.entity (length (o ∷ os)) e) site (terms (o ∷ os)) s.0
            (behind_free_of scene (λ e. IsVariableAmong h.entity (length (o ∷ os)) e) ways n (λ e l among. not_among h.entity n (length (o ∷ os)) e (first_kept d n h gs rest o os is) l among) (terms (o ∷ os)) behind) ok,
        seen_from h.depth h.entity (o ∷ os) s.1,
      )

  -- a view without a way keeps nothing
  none_keeps : (os : List plain.Term) → CanKeep scene levels table Name [] os → ViewKeeps x scene levels [] os
  none_keeps [] s = refl
  none_keeps (o ∷ os) s = elim s [ ]

  named_keeps : (name parent : Ref) (form : ViewPlan) (site : Site) (d n : ℕ) → FormBehind (program_seen scene.program.now) d n (views name parent form) → CanKeep scene levels table Name (hidden_in (way_of (known_in scene) name)) (offsets_of form)
      → EachAccess (AccessOk scene) (source_terms_events site (terms (offsets_of form))) → ViewKeeps x scene levels (hidden_in (way_of (known_in scene) name)) (offsets_of form)
  named_keeps name parent form site d n behind s ok = by (way_of (known_in scene) name) refl s
    where
      by : (o : Option Way) → way_of (known_in scene) name ≡ o → CanKeep scene levels table Name (hidden_in o) (offsets_of form) → ViewKeeps x scene levels (hidden_in o) (offsets_of form)
      by None e k = none_keeps (offsets_of form) k
      by (Some w) e k =
          let kept : KeepsFrom (program_seen scene.program.now) d n form w = behind.0 w (sym (ap (λ (known : Known). way_of known name) ways) ∙ e) in
          view_keeps w.hidden site d n form kept.rest kept.is k behind.1 ok

  -- what reducers assign to is seen
  abbrev FoldsSeen : (ℕ → Type 0) → Type 0
  FoldsSeen Folds = (e : ℕ) → Folds e → IsSeen scene levels e

  no_folds : FoldsSeen (λ entity. ⊥)
  no_folds e h = elim h [ ]

  mutual
    pub command_keeps : (Folds : ℕ → Type 0) → FoldsSeen Folds → (a : Action) (r : source.Around) (d n : ℕ) → ActionBehind (program_seen scene.program.now) d n a → SoundAction scene levels table Name Folds a → EachAccess (AccessOk scene) (events r a) → CommandKeeps x scene levels a
    command_keeps Folds folded (action id place (lets name declared (Some t))) r d n b s ok =
        (term_keeps (λ e. e ≡ entity_number name.entity) (site_of r id) t s.0 (own_set name b.0 t) (each_front (AccessOk scene) (source_term_events (site_of r id) t) (assigned name.entity ∷ []) ok), s.1.0.seen)
    command_keeps Folds folded (action id place (lets name declared None)) r d n b s ok = tt
    command_keeps Folds folded (action id place (assigns target t)) r d n b s ok =
        (term_keeps (λ e. e ≡ entity_number target.entity) (site_of r id) t s.0 (own_set target b.0 t) (each_front (AccessOk scene) (source_term_events (site_of r id) t) (assigned target.entity ∷ []) ok), s.1.0.seen)
    command_keeps Folds folded (action id place (stores target t)) r d n b s ok = (
      term_keeps (λ e. ⊥) (site_of r id) t s.0.0 (none_set t) (each_front (AccessOk scene) (source_term_events (site_of r id) t) (write_events (site_of r id) target) ok),
      target_keeps (site_of r id) target s.0.1 (each_back (AccessOk scene) (source_term_events (site_of r id) t) (write_events (site_of r id) target) ok),
    )
    command_keeps Folds folded (action id place (reduces target o t)) r d n b s ok =
        (term_keeps (λ e. e ≡ entity_number target.entity) (site_of r id) t s.0.0 (own_set target b.0 t) (each_front (AccessOk scene) (source_term_events (site_of r id) t) (assigned target.entity ∷ []) ok), folded (entity_number target.entity) s.0.1)
    command_keeps Folds folded (action id place (decides test chosen other)) r d n b s ok =
        let arms = each_back (AccessOk scene) (source_term_events (site_of r id) test) (events (in_arm r id true) chosen ++ other_events (in_arm r id false) other) ok in (
          term_keeps (λ e. ⊥) (site_of r id) test s.0 (none_set test) (each_front (AccessOk scene) (source_term_events (site_of r id) test) (events (in_arm r id true) chosen ++ other_events (in_arm r id false) other) ok),
          (
            command_keeps (λ entity. ⊥) no_folds chosen (in_arm r id true) d n b.1.0 s.1.0 (each_front (AccessOk scene) (events (in_arm r id true) chosen) (other_events (in_arm r id false) other) arms),
            other_keeps (λ entity. ⊥) no_folds other (in_arm r id false) d (behind_all n (standings d chosen)) b.1.1 s.1.1 (each_back (AccessOk scene) (events (in_arm r id true) chosen) (other_events (in_arm r id false) other) arms),
          ),
        )
    command_keeps Folds folded (action id place (blocks body)) r d n b s ok = groups_keep Folds folded body r d n b s ok
    command_keeps Folds folded (action id place (lets_memory name shape shape_places value)) r d n b s ok = tt
    command_keeps Folds folded (action id place (views name parent form)) r d n b s ok = named_keeps name parent form (site_of r id) d n b s ok
    command_keeps Folds folded (action id place (calls function arguments)) r d n b s ok = tt
    command_keeps Folds folded (action id place (repeats test body)) r d n b s ok = tt
    command_keeps Folds folded (action id place (counts iterator declared low high factor body combine combine_place)) r d n b s ok = tt

    other_keeps : (Folds : ℕ → Type 0) → FoldsSeen Folds → (o : MaybeAction) (r : source.Around) (d n : ℕ) → OtherBehind (program_seen scene.program.now) d n o → SoundOther scene levels table Name Folds o → EachAccess (AccessOk scene) (other_events r o) → OtherKeeps x scene levels o
    other_keeps Folds folded no_action r d n b s ok = tt
    other_keeps Folds folded (one_action a) r d n b s ok = command_keeps Folds folded a r d n b s ok

    groups_keep : (Folds : ℕ → Type 0) → FoldsSeen Folds → (gs : Groups) (r : source.Around) (d n : ℕ) → GroupsBehind (program_seen scene.program.now) d n gs → SoundGroups scene levels table Name Folds gs → EachAccess (AccessOk scene) (groups_events r gs) → GroupsKeep x scene levels gs
    groups_keep Folds folded no_groups r d n b s ok = tt
    groups_keep Folds folded (group_then part rest) r d n b s ok = (
      part_keeps Folds folded part r d n b.0 s.0 (each_front (AccessOk scene) (part_events r part) (groups_events r rest) ok),
      groups_keep Folds folded rest r d (behind_all n (part_standings d part)) b.1 s.1 (each_back (AccessOk scene) (part_events r part) (groups_events r rest) ok),
    )

    part_keeps : (Folds : ℕ → Type 0) → FoldsSeen Folds → (part : Actions) (r : source.Around) (d n : ℕ) → PartBehind (program_seen scene.program.now) d n part → SoundPart scene levels table Name Folds part → EachAccess (AccessOk scene) (part_events r part) → ActionsKeep x scene levels part
    part_keeps Folds folded no_actions r d n b s ok = tt
    part_keeps Folds folded (action_then a rest) r d n b s ok = (
      command_keeps Folds folded a r d n b.0 s.0 (each_front (AccessOk scene) (events r a) (part_events r rest) ok),
      part_keeps Folds folded rest r d (behind_all n (standings d a)) b.1 s.1 (each_back (AccessOk scene) (events r a) (part_events r rest) ok),
    )
