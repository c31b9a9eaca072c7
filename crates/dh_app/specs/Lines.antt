-- The lines that the program writes where it writes no report (this project's formats).
use Rattle.std.specs.Prelude.{ℕ, ◌+◌, List, [], ◌++◌, codes, decimal}
use Rattle.dh_base.specs.Rules.{number_of, name_of}
use Rattle.dh_base.specs.Limits.{printed_name, greatest_of}
use Rattle.dh_base.specs.declared.limits.Limit.{Limit}
use Rattle.dh_base.specs.declared.places.Place.{Place}
use Rattle.dh_base.specs.declared.rules.Rule.{Rule}
use Rattle.serde_json.specs.Data.{string}
use Rattle.serde_json.specs.Written.{compact_text}
use Rattle.dh_tree.specs.declared.tables.MemEntry.{MemEntry}
use Rattle.dh_data.specs.Reports.{name_at}
use Rattle.dh_data.specs.declared.data_files.DataFault.{DataFault}
use Rattle.dh_data.specs.declared.data_files.DataFault.TheVariants.{NotJson, Missing, Unknown, Format, Size, Value, NoMemory}

abbrev pub usage_line : List ℕ
usage_line =
    codes "usage: dahlia check FILE | lower FILE [--multipliers N] [--chain N] | interpret FILE DATA [--steps N] [--unchecked] | simulate FILE DATA [--clocks N] [--multipliers N] [--chain N] | batch FILE LIST | workload N\n"

-- `refused K19 PortsSpent 2:23`
abbrev pub refused_line : Rule → Place → List ℕ
refused_line rule place =
    codes "refused K" ++ (decimal (number_of rule) ++ (codes " " ++ (name_of rule ++ (codes " " ++ (decimal place.line ++ (codes ":" ++ (decimal place.column ++ codes "\n")))))))

-- `too large Brackets 65`
abbrev pub excess_line : (name : List ℕ) → (count : ℕ) → List ℕ
excess_line name count = codes "too large " ++ (name ++ (codes " " ++ (decimal count ++ codes "\n")))

abbrev pub too_large_line : Limit → (count : ℕ) → List ℕ
too_large_line limit count = excess_line (printed_name limit) count

-- a file is longer than its limit: the count is the limit and one
abbrev pub too_long_line : Limit → List ℕ
too_long_line limit = too_large_line limit (greatest_of limit + 1)

-- no rule is broken
abbrev pub ok_line : List ℕ
ok_line = codes "ok\n"

-- a name as a JSON string, as `serde_json` writes it
abbrev pub quoted : List ℕ → List ℕ
quoted name = compact_text (string name)

-- `bad data Missing "A"`
abbrev pub named_line : (fault name : List ℕ) → List ℕ
named_line fault name = codes "bad data " ++ (fault ++ (codes " " ++ (quoted name ++ codes "\n")))

-- `bad data Value "A" 3`
abbrev pub value_line : (name : List ℕ) → (position : ℕ) → List ℕ
value_line name position = codes "bad data Value " ++ (quoted name ++ (codes " " ++ (decimal position ++ codes "\n")))

-- what is wrong with a data file for a table; want of memory has no line
abbrev pub bad_data_line : List MemEntry → DataFault → List ℕ
bad_data_line table NotJson = codes "bad data NotJson\n"
bad_data_line table (Missing memory) = named_line (codes "Missing") (name_at table memory)
bad_data_line table (Unknown name) = named_line (codes "Unknown") name
bad_data_line table (Format memory) = named_line (codes "Format") (name_at table memory)
bad_data_line table (Size memory) = named_line (codes "Size") (name_at table memory)
bad_data_line table (Value memory position) = value_line (name_at table memory) position
bad_data_line table NoMemory = []
