-- The number and the printed name of each rule (this profile's table of rules).
use Rattle.std.specs.Prelude.{ℕ, List, codes}
use Rattle.dh_base.specs.declared.rules.Rule.{Rule}
use Rattle.dh_base.specs.declared.rules.Rule.TheVariants.{Lex, Syntax, Unsupported, UnknownName, NameTwice, TypeMismatch, WidthLost, BankDivides, UnrollDivides, BankUnroll, DynamicBank, ConstantRange, ViewFactor, MemoryPlace, OuterWrite, DivergentSteps, Reducer, CallShape, PortsSpent, ReadAfterWrite}

-- a rule's number, from 1
abbrev pub number_of : Rule → ℕ
number_of Lex = 1
number_of Syntax = 2
number_of Unsupported = 3
number_of UnknownName = 4
number_of NameTwice = 5
number_of TypeMismatch = 6
number_of WidthLost = 7
number_of BankDivides = 8
number_of UnrollDivides = 9
number_of BankUnroll = 10
number_of DynamicBank = 11
number_of ConstantRange = 12
number_of ViewFactor = 13
number_of MemoryPlace = 14
number_of OuterWrite = 15
number_of DivergentSteps = 16
number_of Reducer = 17
number_of CallShape = 18
number_of PortsSpent = 19
number_of ReadAfterWrite = 20

-- a rule's name, as it is printed
abbrev pub name_of : Rule → List ℕ
name_of Lex = codes "Lex"
name_of Syntax = codes "Syntax"
name_of Unsupported = codes "Unsupported"
name_of UnknownName = codes "UnknownName"
name_of NameTwice = codes "NameTwice"
name_of TypeMismatch = codes "TypeMismatch"
name_of WidthLost = codes "WidthLost"
name_of BankDivides = codes "BankDivides"
name_of UnrollDivides = codes "UnrollDivides"
name_of BankUnroll = codes "BankUnroll"
name_of DynamicBank = codes "DynamicBank"
name_of ConstantRange = codes "ConstantRange"
name_of ViewFactor = codes "ViewFactor"
name_of MemoryPlace = codes "MemoryPlace"
name_of OuterWrite = codes "OuterWrite"
name_of DivergentSteps = codes "DivergentSteps"
name_of Reducer = codes "Reducer"
name_of CallShape = codes "CallShape"
name_of PortsSpent = codes "PortsSpent"
name_of ReadAfterWrite = codes "ReadAfterWrite"
