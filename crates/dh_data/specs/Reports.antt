-- The report of a run: one line of compact JSON (this project's format of reports).
use Rattle.std.specs.Prelude.{◌≡◌, ℕ, zero, suc, take, drop, ◌*◌, ◌^◌, ℤ, pos, ◌-ℤ◌, List, [], ◌∷◌, ◌++◌, Bool, true, false, if◌then◌else◌, nat_lt, codes, decimal, slice_get, get_or, Option, Some, None, option_map, unwrap_or, String}
use Rattle.std.specs.declared.alloc.Global.{Global}
use Rattle.serde_json.specs.Data.{Data, number, unsigned, boolean, string, array, object, Members, no_members, member, put}
use Rattle.serde_json.specs.Find.{of_integer}
use Rattle.serde_json.specs.View.{items_of, members_view}
use Rattle.serde_json.specs.Written.{compact_text}
use Rattle.serde_json.specs.declared.value.Value.{Value}
use Rattle.dh_base.specs.declared.outcomes.Outcome.{Outcome}
use Rattle.dh_base.specs.declared.outcomes.Outcome.TheVariants as outcome
use Rattle.dh_base.specs.declared.places.Place.{Place}
use Rattle.dh_value.specs.Words.{width_of}
use Rattle.dh_value.specs.declared.kinds.Kind.{Kind}
use Rattle.dh_value.specs.declared.kinds.Kind.TheVariants as kind
use Rattle.dh_tree.specs.Tables.{elements_of}
use Rattle.dh_tree.specs.declared.tables.Dim.{Dim}
use Rattle.dh_tree.specs.declared.tables.MemEntry.{MemEntry}
use Rattle.dh_data.specs.declared.reports.Ending.{Ending}
use Rattle.dh_base.specs.Faults.{fault_name}

-- ---- memories

-- the number that bits of a kind stand for, in two's complement where the kind is signed
abbrev pub number_of_bits : Kind → ℕ → ℤ
number_of_bits kind.Bool bits = pos bits
number_of_bits (kind.Unsigned w) bits = pos bits
number_of_bits (kind.Signed w) bits = if nat_lt (2 * bits) (2 ^ w) then pos bits else pos bits -ℤ pos (2 ^ w)

abbrev pub is_signed : Kind → Bool
is_signed kind.Bool = false
is_signed (kind.Unsigned w) = false
is_signed (kind.Signed w) = true

-- an element
abbrev pub element_data : Kind → ℕ → Data
element_data k bits = number (of_integer (number_of_bits k bits))

-- so many lists, each of the next values of its width
abbrev pub rows : ℕ → (width : ℕ) → (List ℕ → Data) → List ℕ → List Data
rows zero width list values = []
rows (suc n) width list values = list (take width values) ∷ rows n width list (drop width values)

-- elements in lists nested by dimensions, in row-major order
abbrev pub nested_data : Kind → List Dim → List ℕ → Data
nested_data k [] values = element_data k (get_or values 0 0)
nested_data k (n ∷ ns) values = array (items_of (rows n.size (elements_of ns) (nested_data k ns) values))

abbrev pub format_data : Kind → Data
format_data k =
    object (member (codes "is_signed") (boolean (is_signed k)) (member (codes "numeric_type") (string (codes "bitnum")) (member (codes "width") (number (unsigned (width_of k))) no_members)))

-- the member of a memory
abbrev pub memory_data : Kind → List Dim → List ℕ → Data
memory_data k dims values = object (member (codes "data") (nested_data k dims values) (member (codes "format") (format_data k) no_members))

-- the members, with one more where a memory is outside; names are in byte order
abbrev pub with_outside : MemEntry → List ℕ → Members → Members
with_outside e m found = if e.outside then put e.name (memory_data e.shape.kind e.shape.dims m) found else found

abbrev pub outside_data : List MemEntry → List (List ℕ) → Members → Members
outside_data [] ms found = found
outside_data (e ∷ es) [] found = found
outside_data (e ∷ es) (m ∷ ms) found = outside_data es ms (with_outside e m found)

-- the members of all outside memories
abbrev pub memories_data : List MemEntry → List (List ℕ) → Data
memories_data table memories = object (outside_data table memories no_members)

-- the member of one memory is put among others, if it is outside
abbrev pub PutsMemory : MemEntry → List ℕ → (old new : List (String Global × Value)) → Type 0
PutsMemory e m old new = members_view new ≡ with_outside e m (members_view old)

-- ---- outcomes

abbrev pub place_text : Place → List ℕ
place_text p = decimal p.line ++ (codes ":" ++ decimal p.column)

-- the name of a memory; none where the table has no such memory
abbrev pub name_at : List MemEntry → ℕ → List ℕ
name_at table memory = unwrap_or (option_map (λ e. e.name) (slice_get table memory)) []

abbrev pub outcome_text : List MemEntry → Outcome → List ℕ
outcome_text table outcome.Going = codes "going"
outcome_text table outcome.Ended = codes "done"
outcome_text table (outcome.Faulted f p) = codes "fault " ++ (fault_name f ++ (codes " " ++ place_text p))
outcome_text table (outcome.Stuck m b p) = codes "stuck " ++ (name_at table m ++ (codes " " ++ (decimal b ++ (codes " " ++ place_text p))))

-- ---- the report

abbrev pub clocks_first : Option ℕ → Members → Members
clocks_first None ms = ms
clocks_first (Some clocks) ms = member (codes "clocks") (number (unsigned clocks)) ms

-- how a run stood, with the contents of its memories
abbrev pub of_run : Data → (outcome : List ℕ) → (steps : ℕ) → Members
of_run memories outcome steps =
    member (codes "memories") memories (member (codes "outcome") (string outcome) (member (codes "steps") (number (unsigned steps)) no_members))

abbrev pub run_data : (clocks : Option ℕ) → Data → (outcome : List ℕ) → (steps : ℕ) → Data
run_data clocks memories outcome steps = object (clocks_first clocks (of_run memories outcome steps))

-- the same of what a table and an ending tell
abbrev pub report_data : List MemEntry → List (List ℕ) → Ending → Data
report_data table memories ending = run_data ending.clocks (memories_data table memories) (outcome_text table ending.outcome) ending.steps

-- with the end of the line
abbrev pub report_text : List MemEntry → List (List ℕ) → Ending → List ℕ
report_text table memories ending = compact_text (report_data table memories ending) ++ codes "\n"
