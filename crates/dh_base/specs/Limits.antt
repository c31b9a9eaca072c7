-- The greatest count and the printed name of each limit (this profile's table of limits).
use Rattle.std.specs.Prelude.{ℕ, List, codes}
use Rattle.dh_base.specs.declared.limits.Limit.{Limit}
use Rattle.dh_base.specs.declared.limits.Limit.TheVariants as limit

-- the most copies of one place, in the unrolled loops round it
abbrev pub most_copies : ℕ
most_copies = 256

-- the greatest count that a limit allows
abbrev pub greatest_of : Limit → ℕ
greatest_of limit.Source = 1048576
greatest_of limit.Brackets = 64
greatest_of limit.Operators = 128
greatest_of limit.ElseIfs = 64
greatest_of limit.Functions = 64
greatest_of limit.Dimensions = 6
greatest_of limit.Banks = 64
greatest_of limit.Ports = 8
greatest_of limit.Copies = most_copies
greatest_of limit.Elements = 1048576
greatest_of limit.Plan = 200000
greatest_of limit.ListBytes = 65536
greatest_of limit.List = 64
greatest_of limit.Data = 16777216

-- a limit's name, as it is printed
abbrev pub printed_name : Limit → List ℕ
printed_name limit.Source = codes "Source"
printed_name limit.Brackets = codes "Brackets"
printed_name limit.Operators = codes "Operators"
printed_name limit.ElseIfs = codes "ElseIfs"
printed_name limit.Functions = codes "Functions"
printed_name limit.Dimensions = codes "Dimensions"
printed_name limit.Banks = codes "Banks"
printed_name limit.Ports = codes "Ports"
printed_name limit.Copies = codes "Copies"
printed_name limit.Elements = codes "Elements"
printed_name limit.Plan = codes "Plan"
printed_name limit.ListBytes = codes "ListBytes"
printed_name limit.List = codes "List"
printed_name limit.Data = codes "Data"
