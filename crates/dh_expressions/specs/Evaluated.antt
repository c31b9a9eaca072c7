-- What the operations of an expression at one path of a step give and tell.
-- What reads give is a parameter of all facts (`Reads`): which of them are done at which path, and what they then
-- give. So a builder needs to know of sharing and of keys only that reads that are one give one value; that the
-- program's run is so is shown apart, where a block is whole.
use Rattle.std.specs.Prelude.{◌≡◌, ℕ, ◌+◌, ◌-◌, ◌*◌, ◌<◌, ◌^◌, min, nat_le, Bool as Truth, true, false, if◌then◌else◌, List, [], ◌∷◌, ◌++◌, length, take, drop, map, slice_get, slice_index, Option, Some, None, ℤ, pos}
use Rattle.std.specs.List.{AllByRecursion}
use Rattle.dh_base.specs.declared.places.Place.{Place}
use Rattle.dh_value.specs.declared.kinds.Kind.{Kind}
use Rattle.dh_value.specs.declared.kinds.Kind.TheVariants.{Unsigned}
use Rattle.dh_value.specs.declared.words.Word.{Word}
use Rattle.dh_value.specs.Words as words
use Rattle.dh_value.specs.Words.{IsInteger, IsKind, word_of}
use Rattle.dh_tree.specs.declared.trees.counters.Counter.{Counter}
use Rattle.dh_tree.specs.declared.trees.expressions.Ref.{Ref}
use Rattle.dh_tree.specs.declared.viewing.ViewMap.{ViewMap}
use Rattle.dh_tree.specs.Counters.{counter_in, counters_of}
use Rattle.dh_tree.specs.PlainTrees as plain
use Rattle.dh_tree.specs.Seen.{program_seen}
use Rattle.dh_meaning.specs.AccessNumbers.{term_accesses, terms_accesses}
use Rattle.dh_meaning.specs.Bindings.{kind_or_first}
use Rattle.dh_meaning.specs.CoreOf.{core_form, core_term, core_terms, depth_of, entity_number, memory_of, way_of}
use Rattle.dh_meaning.specs.Effects as meaning
use Rattle.dh_meaning.specs.Effects.{Event, Variables, term_events, terms_events, value_of_term, values_of}
use Rattle.dh_meaning.specs.Paths.{Path}
use Rattle.dh_meaning.specs.Phases.{turn_count}
use Rattle.dh_meaning.specs.Ways.{Hidden, Way, WayStep as ViewStep}
use Rattle.dh_plan.specs.declared.operations.ReachStep.{ReachStep}
use Rattle.dh_plan.specs.Blocks.{kind_at}
use Rattle.dh_code.specs.Extended.{extension_of}
use Rattle.dh_code.specs.declared.places.VariableSlots.{VariableSlots}
use Rattle.dh_code.specs.Slots.{held_at}
use Rattle.dh_expressions.specs.declared.accesses.Accesses.{Accesses}
use Rattle.dh_expressions.specs.declared.accesses.Touched.{Touched}
use Rattle.dh_expressions.specs.declared.drafts.Draft.{Draft}
use Rattle.dh_expressions.specs.declared.scenes.Lane.{Lane}
use Rattle.dh_expressions.specs.declared.scenes.Scene.{Scene}
use Rattle.dh_expressions.specs.declared.scenes.Through.{Through}
use Rattle.dh_expressions.specs.declared.elements.Aim.{Aim}
use Rattle.dh_expressions.specs.declared.terms.Valued.{Valued}
use Rattle.dh_expressions.specs.Drafted.{BlockBegun, Extends, FitsStep, BlockStep, fails_to_hold, holds, word_shown, tale, tales_told}
use Rattle.dh_expressions.specs.Copying.{AreNone, DoneBy, HasScopes}
use Rattle.dh_expressions.specs.Levels.{last_number, path_at}
pub use Rattle.dh_expressions.specs.Named.{known_in}
use Rattle.dh_expressions.specs.Named.{first_view, number_of_parent}
use Rattle.dh_expressions.specs.Noted.{given_by, given_in, touched_in}
use Rattle.dh_expressions.specs.Standings.{IsTouched, AccessStanding, standing_at}
use Rattle.dh_expressions.specs.Shown.{guard_of, is_kept, kind_written, register_at, variable_shown}

-- what reads give in a step: which are done at which path, and what they then mean; and where each access stands
pub record StepReads : Type 0 where
  pub done : (number path : ℕ) → Truth
  pub means : (number path : ℕ) → Word
  pub sites : List AccessStanding

-- a step, with what the program's variables hold where an expression stands
pub record View : Type 0 where
  pub step : BlockStep
  pub variables : Variables
  pub reads : StepReads

abbrev pub begun_of : BlockStep → meaning.Begun
begun_of x = record { table = x.start.table; memories = x.start.memories }

-- Accesses.

-- what is noted of a read that is done is what it means, and the accesses with operations are as they stand
pub record Knows (v : View) (a : Accesses) : Type 0 where
  pub given : (number path n : ℕ) → given_in a number path ≡ Some n → v.reads.done number path ≡ true → word_shown v.step n ≡ v.reads.means number path
  pub long : length a.touched.items ≡ length v.reads.sites
  pub touched : (number : ℕ) (t : Touched) → touched_in a number ≡ Some t → (s : AccessStanding) → slice_get v.reads.sites number ≡ Some s → IsTouched v.step s t
  pub none : AreNone a.counts.items

-- values as whole numbers
abbrev pub numbers_shown : BlockStep → List ℕ → List ℤ
numbers_shown x values = map (λ n. words.value_of (word_shown x n)) values

-- Parts of a block. Where `Fair` holds of what is seen the reads so far stay known; where `Sees` holds, too, the
-- part gives its word, and tells its events under the guard. Where the guard is false it tells nothing.
pub record Evaluates (guard : Option ℕ) (old new : Draft) (before after : Accesses) (value : ℕ) (Fair Sees : View → Type 0) (word : View → Word) (events : View → List Event) : Type 0 where
  pub extends : Extends old new
  pub knows : (v : View) → FitsStep v.step new → BlockBegun v.step old → Knows v before → Fair v → Knows v after
  pub is : (v : View) → FitsStep v.step new → BlockBegun v.step old → Knows v before → Fair v → Sees v → word_shown v.step value ≡ word v
  pub tells : (v : View) → FitsStep v.step new → BlockBegun v.step old → Knows v before → Fair v → Sees v → holds v.step guard → tale v.step new ≡ tale v.step old ++ tales_told (events v)
  pub quiet : (v : View) → FitsStep v.step new → BlockBegun v.step old → fails_to_hold v.step guard → tale v.step new ≡ tale v.step old

-- the same of several values, as whole numbers
pub record EvaluatesAll (guard : Option ℕ) (old new : Draft) (before after : Accesses) (values : List ℕ) (Fair Sees : View → Type 0) (all : View → List ℤ) (events : View → List Event) : Type 0 where
  pub extends : Extends old new
  pub knows : (v : View) → FitsStep v.step new → BlockBegun v.step old → Knows v before → Fair v → Knows v after
  pub are : (v : View) → FitsStep v.step new → BlockBegun v.step old → Knows v before → Fair v → Sees v → numbers_shown v.step values ≡ all v
  pub tells : (v : View) → FitsStep v.step new → BlockBegun v.step old → Knows v before → Fair v → Sees v → holds v.step guard → tale v.step new ≡ tale v.step old ++ tales_told (events v)
  pub quiet : (v : View) → FitsStep v.step new → BlockBegun v.step old → fails_to_hold v.step guard → tale v.step new ≡ tale v.step old

-- Operations that give a word where something holds of the step, and tell nothing whatever the guards.
pub record GivesWhere (old new : Draft) (value : ℕ) (Where : BlockStep → Type 0) (word : BlockStep → Word) : Type 0 where
  pub extends : Extends old new
  pub is : (x : BlockStep) → FitsStep x new → BlockBegun x old → Where x → word_shown x value ≡ word x
  pub quiet : (x : BlockStep) → FitsStep x new → BlockBegun x old → tale x new ≡ tale x old

-- Variables.

abbrev pub copy_in_turn : Counter → VariableSlots → Lane → ℕ
copy_in_turn c held lane = if nat_le c.factor 1 then 0 else last_number lane.around.levels.now held.depth lane.number

-- what an iterator holds, by the turn that its loop's counter holds
abbrev pub iterator_shown : BlockStep → Counter → VariableSlots → Lane → Kind → Word
iterator_shown x c held lane kind = word_of kind (pos (c.low + slice_index x.start.registers held.first * c.factor + copy_in_turn c held lane))

-- the loop of an iterator is in a turn of its own
pub record IsTurning (x : BlockStep) (c : Counter) (held : VariableSlots) (kind : Kind) : Type 0 where
  pub integer : IsInteger kind
  pub width : ℕ
  pub counter : kind_at x.start.kinds held.first ≡ Unsigned width
  pub below : slice_index x.start.registers held.first < turn_count c.low c.high c.factor

abbrev pub counter_of : Scene → (entity : ℕ) → Option Counter
counter_of scene entity = counter_in (counters_of (program_seen scene.program.now)) (Some entity)

abbrev pub shown_by : BlockStep → Option Counter → VariableSlots → Lane → (current : List (Option ℕ)) → Kind → Word
shown_by x None held lane current kind = variable_shown x current (register_at held lane)
shown_by x (Some c) held lane current kind = iterator_shown x c held lane kind

-- what the builder shows of a variable at a path
abbrev pub entity_shown : Scene → Lane → (current : List (Option ℕ)) → BlockStep → (entity : ℕ) → Kind → Word
entity_shown scene lane current x entity kind = shown_by x (counter_of scene entity) (held_at scene.held.now entity) lane current kind

abbrev pub TurnsBy : BlockStep → Option Counter → VariableSlots → Kind → Type 0
TurnsBy x None held kind = Unit {0}
TurnsBy x (Some c) held kind = IsTurning x c held kind

abbrev pub EntityTurns : Scene → BlockStep → (entity : ℕ) → Kind → Type 0
EntityTurns scene x entity kind = TurnsBy x (counter_of scene entity) (held_at scene.held.now entity) kind

-- Offsets that are kept.

-- the register of a variable that keeps an offset, at a path
abbrev pub hidden_register : Scene → Lane → Hidden → ℕ
hidden_register scene lane h = register_at (held_at scene.held.now h.entity) lane

-- what it shows
abbrev pub hidden_shown : Scene → Lane → (current : List (Option ℕ)) → BlockStep → Hidden → Word
hidden_shown scene lane current x h = variable_shown x current (hidden_register scene lane h)

-- Operations that give several words, and tell nothing whatever the guards.
pub record GivesAll (old new : Draft) (values : List ℕ) (words : BlockStep → List Word) : Type 0 where
  pub extends : Extends old new
  pub are : (x : BlockStep) → FitsStep x new → BlockBegun x old → map (λ n. word_shown x n) values ≡ words x
  pub quiet : (x : BlockStep) → FitsStep x new → BlockBegun x old → tale x new ≡ tale x old

-- what the variables show that keep offsets
abbrev pub ShowsHidden : Scene → Lane → (current : List (Option ℕ)) → (old new : Draft) → List Hidden → (values : List ℕ) → Type 0
ShowsHidden scene lane current old new hs values = GivesAll old new values (λ x. map (λ h. hidden_shown scene lane current x h) hs)

-- the number behind one
abbrev pub number_behind : ℕ → ℕ
number_behind number = min (number + 1) (2 ^ 32 - 1)

-- the views on a way by their numbers, with the values of the offsets that each takes of these
abbrev pub steps_told : List Through → (first : ℕ) → List ViewStep → (values : List ℕ) → List ReachStep
steps_told through first [] values = []
steps_told through first (s ∷ ss) values = record { view = first; offsets = take s.offsets values } ∷ steps_told through (number_of_parent through first) ss (drop s.offsets values)

-- the views of a plan have these numbers
abbrev pub AreViews : List Through → List ViewMap → (first : ℕ) → List ViewStep → Type 0
AreViews through views first [] = Unit {0}
AreViews through views first (s ∷ ss) = (slice_get views first ≡ Some s.is) × AreViews through views (number_of_parent through first) ss

-- what stands behind the indices of an access: nothing for a memory, for a view the steps of its way
pub record ShowsSteps (scene : Scene) (lane : Lane) (current : List (Option ℕ)) (old new : Draft) (first : ℕ) (w : Way) (steps : List ReachStep) : Type 0 where
  pub values : List ℕ
  pub shows : ShowsHidden scene lane current old new w.hidden values
  pub steps_are : steps ≡ steps_told scene.through.now first w.steps values

abbrev pub ShowsWay : Scene → Lane → (current : List (Option ℕ)) → (old new : Draft) → (first : ℕ) → Option Way → (before after : List ReachStep) → Type 0
ShowsWay scene lane current old new first None before after = (new ≡ old) × (after ≡ before)
ShowsWay scene lane current old new first (Some w) before after = ShowsSteps scene lane current old new first w after

-- an aim with the steps behind it
pub record PassesWay (scene : Scene) (lane : Lane) (current : List (Option ℕ)) (old new : Draft) (r : Ref) (before after : Aim) : Type 0 where
  pub indices_are : after.indices ≡ before.indices
  pub row_is : after.row ≡ before.row
  pub number_is : after.number ≡ before.number
  pub steps : ShowsWay scene lane current old new (first_view scene r) (way_of (known_in scene) r) before.steps after.steps

-- Expressions.

abbrev pub lane_path : Lane → Path
lane_path lane = path_at lane.around.levels.now lane.number

abbrev pub lane_guard : Lane → Option ℕ
lane_guard lane = guard_of lane.around.guards.now lane.number

-- the value of an expression whose accesses are numbered from n on, and what it reads
abbrev pub term_value : Scene → Lane → View → (n : ℕ) → plain.Term → Word
term_value scene lane v n t = value_of_term (begun_of v.step) v.variables (lane_path lane) (core_term (known_in scene) n t)

abbrev pub term_told : Scene → Lane → View → (n : ℕ) → plain.Term → List Event
term_told scene lane v n t = term_events (begun_of v.step) v.variables (lane_path lane) (core_term (known_in scene) n t)

-- The value of a read was given before: by the first path with its key, or at this path by the access that it shares.

abbrev pub source_at : (share : Option (Option ℕ)) → (number path leader : ℕ) → Option (ℕ × ℕ)
source_at None number path leader = None
source_at (Some None) number path leader = Some (number, leader)
source_at (Some (Some earlier)) number path leader = Some (earlier, path)

-- what a read gives that was made before, by the first path with its key or by the access that it shares
abbrev pub given_before : Scene → Accesses → (number path leader : ℕ) → Option ℕ
given_before scene a number path leader = given_by a (source_at (slice_get scene.shares.now number) number path leader)

-- that one is done and means the same
abbrev pub SourceMeans : StepReads → Option (ℕ × ℕ) → Word → Type 0
SourceMeans reads None word = Unit {0}
SourceMeans reads (Some s) word = (reads.done s.0 s.1 ≡ true) × (reads.means s.0 s.1 ≡ word)

-- the number of a bank that an access names is one of 32 bits
abbrev pub NamesSmallBank : plain.TermForm → Type 0
NamesSmallBank (plain.in_bank r bank at row) = bank < 2 ^ 32
NamesSmallBank form = Unit {0}

-- an access of a memory by a number, at a lane
module _ (scene : Scene) (lane : Lane) (v : View) (memory number : ℕ) (place : Place) (form : plain.TermForm) where
  -- what the view has of where it stands
  pub record IsSited (writes : Truth) : Type 0 where
    pub scopes : HasScopes scene
    pub low : length lane.around.levels.now < 2 ^ 63
    pub within : lane.number < length lane.around.guards.now
    pub site : slice_get v.reads.sites number ≡ Some (standing_at scene lane.around memory place form writes)

  abbrev pub standing : AccessStanding
  standing = standing_at scene lane.around memory place form false

  -- a read is done, and means what the program reads; so does the one that gave it before, and at one of the paths
  -- with its key the guard holds
  pub record IsDone (word : Word) : Type 0 where
    pub small : memory < 2 ^ 32
    pub bank : NamesSmallBank form
    pub done : v.reads.done number lane.number ≡ true
    pub means : v.reads.means number lane.number ≡ word
    pub source : SourceMeans v.reads (source_at (slice_get scene.shares.now number) number lane.number (standing.leader lane.number)) word
    pub made : DoneBy v.step standing.leader standing.guards (length standing.guards) (standing.leader lane.number)

-- an expression that needs no conversion gives a word of the kind
abbrev pub TermKeepsKind : Scene → Lane → View → (n : ℕ) → plain.Term → Kind → Type 0
TermKeepsKind scene lane v n t to = is_kept t to ≡ true → word_of to (words.value_of (term_value scene lane v n t)) ≡ term_value scene lane v n t

module _ (scene : Scene) (lane : Lane) (current : List (Option ℕ)) (v : View) where
  -- a variable that keeps an offset shows it as the program has it
  abbrev pub SeesHidden : Hidden → Type 0
  SeesHidden h = hidden_shown scene lane current v.step h ≡ word_of h.kind (v.variables h.entity (take h.depth (lane_path lane)))

  -- all on a way do, and its views are those of the plan
  abbrev pub SeesWayBy : (first : ℕ) → Option Way → Type 0
  SeesWayBy first None = Unit {0}
  SeesWayBy first (Some w) = AllByRecursion SeesHidden w.hidden × AreViews scene.through.now v.step.start.views first w.steps

  abbrev pub SeesWay : Ref → Type 0
  SeesWay r = SeesWayBy (first_view scene r) (way_of (known_in scene) r)

  abbrev pub read_word : (n : ℕ) → Place → Kind → plain.TermForm → Word
  read_word n place k form = value_of_term (begun_of v.step) v.variables (lane_path lane) (core_form (known_in scene) n place k form)

  -- the read of a form whose own number is this one
  abbrev pub Done : (n number : ℕ) → Ref → Place → Kind → plain.TermForm → Type 0
  Done n number r place k form = IsDone scene lane v (memory_of (known_in scene) r) number place form (read_word n place k form)

  abbrev pub Sited : (number : ℕ) → Ref → Place → plain.TermForm → Type 0
  Sited number r place form = IsSited scene lane v (memory_of (known_in scene) r) number place form false

  abbrev mutual
    -- all that an expression takes is as the program has it
    pub Sees : (n : ℕ) → plain.Term → Type 0
    Sees n (plain.term place kind form) = SeesForm n place (kind_or_first kind) form

    pub SeesForm : (n : ℕ) → Place → Kind → plain.TermForm → Type 0
    SeesForm n place k (plain.number negative z) = IsKind k
    SeesForm n place k (plain.truth_value b) = Unit {0}
    SeesForm n place k (plain.named r) =
        EntityTurns scene v.step (entity_number r.entity) k
        × (entity_shown scene lane current v.step (entity_number r.entity) k ≡ word_of k (v.variables (entity_number r.entity) (take (depth_of (known_in scene) r) (lane_path lane))))
    SeesForm n place k (plain.accessed r indices) = (SeesAll n indices × SeesWay r) × Done n (n + terms_accesses indices) r place k (plain.accessed r indices)
    SeesForm n place k (plain.in_bank r bank at row) = Sees n row × Done n (n + term_accesses row) r place k (plain.in_bank r bank at row)
    SeesForm n place k (plain.applied op left right) =
        (Sees n left × Sees (n + term_accesses left) right)
        × (TermKeepsKind scene lane v n left (extension_of op (kind_written left) (kind_written right)) × TermKeepsKind scene lane v (n + term_accesses left) right (extension_of op (kind_written left) (kind_written right)))
    SeesForm n place k (plain.converted inner to) = Sees n inner × TermKeepsKind scene lane v n inner to

    pub SeesAll : (n : ℕ) → plain.Terms → Type 0
    SeesAll n plain.no_terms = Unit {0}
    SeesAll n (plain.term_then t ts) = Sees n t × SeesAll (n + term_accesses t) ts

  abbrev mutual
    -- each of its reads stands where the view has it, and all that it takes is so where it is done
    pub Fair : (n : ℕ) → plain.Term → Type 0
    Fair n (plain.term place kind form) = FairForm n place (kind_or_first kind) form

    pub FairForm : (n : ℕ) → Place → Kind → plain.TermForm → Type 0
    FairForm n place k (plain.number negative z) = Unit {0}
    FairForm n place k (plain.truth_value b) = Unit {0}
    FairForm n place k (plain.named r) = Unit {0}
    FairForm n place k (plain.accessed r indices) =
        (FairAll n indices × Sited (n + terms_accesses indices) r place (plain.accessed r indices))
        × (v.reads.done (n + terms_accesses indices) lane.number ≡ true → (SeesAll n indices × SeesWay r) × Done n (n + terms_accesses indices) r place k (plain.accessed r indices))
    FairForm n place k (plain.in_bank r bank at row) =
        (Fair n row × Sited (n + term_accesses row) r place (plain.in_bank r bank at row))
        × (v.reads.done (n + term_accesses row) lane.number ≡ true → Sees n row × Done n (n + term_accesses row) r place k (plain.in_bank r bank at row))
    FairForm n place k (plain.applied op left right) = Fair n left × Fair (n + term_accesses left) right
    FairForm n place k (plain.converted inner to) = Fair n inner

    pub FairAll : (n : ℕ) → plain.Terms → Type 0
    FairAll n plain.no_terms = Unit {0}
    FairAll n (plain.term_then t ts) = Fair n t × FairAll (n + term_accesses t) ts

-- the operations of an expression whose accesses are numbered from n on, at a path: where these numbers are few
pub record EvaluatesTerm (scene : Scene) (lane : Lane) (current : List (Option ℕ)) (old new : Draft) (before after : Accesses) (n : ℕ) (t : plain.Term) (valued : Valued) : Type 0 where
  pub next : n + term_accesses t < 2 ^ 32 → valued.next ≡ n + term_accesses t
  pub so : n + term_accesses t < 2 ^ 32
      → Evaluates (lane_guard lane) old new before after valued.value (λ v. Fair scene lane current v n t) (λ v. Sees scene lane current v n t) (λ v. term_value scene lane v n t) (λ v. term_told scene lane v n t)

-- what a variable shows at a path
abbrev pub ShowsVariable : Scene → Lane → (current : List (Option ℕ)) → (old new : Draft) → (value : ℕ) → (entity : ℕ) → Kind → Type 0
ShowsVariable scene lane current old new value entity kind =
    GivesWhere old new value (λ x. EntityTurns scene x entity kind) (λ x. entity_shown scene lane current x entity kind)

abbrev pub terms_told : Scene → Lane → View → (n : ℕ) → plain.Terms → List Event
terms_told scene lane v n ts = terms_events (begun_of v.step) v.variables (lane_path lane) (core_terms (known_in scene) n ts)

abbrev pub terms_values : Scene → Lane → View → (n : ℕ) → plain.Terms → List ℤ
terms_values scene lane v n ts = values_of (begun_of v.step) v.variables (lane_path lane) (core_terms (known_in scene) n ts)

-- indices, with the number of the next access
pub record EvaluatesIndices (scene : Scene) (lane : Lane) (current : List (Option ℕ)) (old new : Draft) (before after : Accesses) (n : ℕ) (ts : plain.Terms) (values : List ℕ) (last : ℕ) : Type 0 where
  pub next : n + terms_accesses ts < 2 ^ 32 → last ≡ n + terms_accesses ts
  pub so : n + terms_accesses ts < 2 ^ 32
      → EvaluatesAll (lane_guard lane) old new before after values (λ v. FairAll scene lane current v n ts) (λ v. SeesAll scene lane current v n ts) (λ v. terms_values scene lane v n ts) (λ v. terms_told scene lane v n ts)

-- indices as which element an access names
pub record AimsByIndices (scene : Scene) (lane : Lane) (current : List (Option ℕ)) (old new : Draft) (before after : Accesses) (n : ℕ) (ts : plain.Terms) (aim : Aim) : Type 0 where
  pub row : aim.row ≡ None
  pub steps : aim.steps ≡ []
  pub indices : EvaluatesIndices scene lane current old new before after n ts aim.indices aim.number

-- indices, and behind them the offsets on the way of what a name stands for
pub record AimsThrough (scene : Scene) (lane : Lane) (current : List (Option ℕ)) (old new : Draft) (before after : Accesses) (n : ℕ) (r : Ref) (ts : plain.Terms) (aim : Aim) : Type 0 where
  pub middle : Draft
  pub listed : Aim
  pub indices : AimsByIndices scene lane current old middle before after n ts listed
  pub passes : PassesWay scene lane current middle new r listed aim

-- a row as which element an access names
pub record AimsByRow (scene : Scene) (lane : Lane) (current : List (Option ℕ)) (old new : Draft) (before after : Accesses) (n : ℕ) (t : plain.Term) (aim : Aim) : Type 0 where
  pub value : ℕ
  pub row : aim.row ≡ Some value
  pub term : EvaluatesTerm scene lane current old new before after n t (record { value = value; next = aim.number })
