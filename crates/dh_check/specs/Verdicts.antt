-- What a text comes to: its passes one after the other, of which the first with a breach or an excess
-- refuses it. (The order of the passes is this project's.)
use Rattle.std.specs.Prelude.{◌≡◌, ℕ, ◌⊎◌, List, [], Option, Some, None, Result, Ok, Err, Bool, true, false}
use Rattle.dh_base.specs.declared.limits.Excess.{Excess}
use Rattle.dh_base.specs.declared.limits.Limit.TheVariants as limit
use Rattle.dh_base.specs.declared.places.Place.{Place}
use Rattle.dh_base.specs.declared.rules.Rule.{Rule}
use Rattle.dh_base.specs.declared.rules.Rule.TheVariants.{Lex}
use Rattle.dh_lexer.specs.declared.tokens.Token.{Token}
use Rattle.dh_lexer.specs.Counted.{most_open, most_operators, else_ifs_after}
use Rattle.dh_lexer.specs.LexedText.{HasTokens, IsBreach}
use Rattle.dh_parser.specs.Programs.{Spells, OutOfPlace, rule_at}
use Rattle.dh_tree.specs.declared.breaches.Breach.{Breach}
use Rattle.dh_tree.specs.LeastBreach.{IsLeast}
use Rattle.dh_tree.specs.PlainTrees.{Program}
use Rattle.dh_tree.specs.Breaches.{breaches_of}
use Rattle.dh_tree.specs.Forms.{unbuilt_forms}
use Rattle.dh_tree.specs.Resolved.{resolved}
use Rattle.dh_tree.specs.Kinds.{typed}
use Rattle.dh_tree.specs.KindBreaches.{kind_breaches}
use Rattle.dh_tree.specs.Excesses.{excess_at, or_else, first_excess}
use Rattle.dh_tree.specs.Placements.{placement_breaches}
use Rattle.dh_tree.specs.Ready.{IsReady}
use Rattle.dh_meets.specs.Ports.{IsFirstPortBreach, KeepsPortRules}
use Rattle.dh_tree.specs.Seen.{program_seen}
use Rattle.dh_tree.specs.declared.trees.typed.Typed.{Typed}
use Rattle.dh_tree.specs.ViewBreaches.{shapes_breaches_of}
use Rattle.dh_ports.specs.declared.accepted.Accepted.{Accepted}
use Rattle.dh_check.specs.declared.checking.CheckFault.{CheckFault}
use Rattle.dh_check.specs.declared.checking.CheckFault.TheVariants as fault

pub data Verdict : Type 0 where
  -- the program, with what its names stand for
  accepts : Program → Verdict
  refuses : Rule → Place → Verdict
  exceeds : Excess → Verdict

-- the limits on tokens in order, by their counts
abbrev pub counted_excess : ℕ → ℕ → ℕ → Option Excess
counted_excess brackets operators else_ifs =
    or_else (excess_at limit.Brackets brackets) (or_else (excess_at limit.Operators operators) (excess_at limit.ElseIfs else_ifs))

-- the first limit on tokens that these exceed
abbrev pub tokens_excess : List Token → Option Excess
tokens_excess ts = counted_excess (most_open 0 ts) (most_operators 0 ts) (else_ifs_after false ts)

-- the program breaks a rule of this pass, at the least place; or it breaks none, and the next pass follows
abbrev pub Passes : List Breach → Verdict → Type 0 → Type 0
Passes breaches v next = ((b : Breach) × (IsLeast breaches b × (v ≡ refuses b.rule b.place))) ⊎ ((breaches ≡ []) × next)

-- the rules on ports: the first breach of them, or none
abbrev pub JudgedPorts : Program → Verdict → Type 0
JudgedPorts p v = ((b : Breach) × (IsFirstPortBreach p b × (v ≡ refuses b.rule b.place))) ⊎ (KeepsPortRules p × (v ≡ accepts p))

-- the pass over ports, where the ports of memories are judged
abbrev pub JudgedLast : Bool → Program → Verdict → Type 0
JudgedLast true p v = JudgedPorts p v
JudgedLast false p v = v ≡ accepts p

-- where memories stand, then ports
abbrev pub JudgedPlaces : Bool → Program → Verdict → Type 0
JudgedPlaces ports p v = Passes (placement_breaches p) v (JudgedLast ports p v)

abbrev pub JudgedLimits : Bool → Program → Option Excess → Verdict → Type 0
JudgedLimits ports p (Some e) v = v ≡ exceeds e
JudgedLimits ports p None v = JudgedPlaces ports p v

-- of a program whose expressions have their kinds: kinds, then shapes, indices, bounds and views, then the
-- limits on memories, then where memories stand, then ports
abbrev pub JudgedTyped : Bool → Program → Verdict → Type 0
JudgedTyped ports p v = Passes (kind_breaches p) v (Passes (shapes_breaches_of p) v (JudgedLimits ports p (first_excess p) v))

-- the forms that are built, then names, then the rest
abbrev pub JudgedTree : Bool → Program → Verdict → Type 0
JudgedTree ports p v = Passes (unbuilt_forms p) v (Passes (breaches_of p) v (JudgedTyped ports (typed (resolved p)) v))

-- a token is out of place
pub record JudgedToken (tokens : List Token) (v : Verdict) : Type 0 where
  pub before : List Token
  pub token : Token
  pub after : List Token
  pub out_of_place : OutOfPlace tokens before token after
  pub verdict : v ≡ refuses (rule_at before token) token.place

abbrev pub JudgedTokens : Bool → List Token → Option Excess → Verdict → Type 0
JudgedTokens ports tokens (Some e) v = v ≡ exceeds e
JudgedTokens ports tokens None v = JudgedToken tokens v ⊎ ((p : Program) × (Spells p tokens × JudgedTree ports p v))

-- what a text comes to
abbrev pub Judged : Bool → List ℕ → Verdict → Type 0
Judged ports text v =
    ((place : Place) × (IsBreach text place × (v ≡ refuses Lex place)))
    ⊎ ((tokens : List Token) × (HasTokens text tokens × JudgedTokens ports tokens (tokens_excess tokens) v))

-- what a text comes to, and nothing else
pub record IsVerdict (ports : Bool) (text : List ℕ) (v : Verdict) : Type 0 where
  pub judged : Judged ports text v
  pub only : (w : Verdict) → Judged ports text w → w ≡ v

-- a fault that tells what the text comes to, or that memory was refused
abbrev pub FaultTells : (Verdict → Type 0) → CheckFault → Type 0
FaultTells tells (fault.Refused rule place) = tells (refuses rule place)
FaultTells tells (fault.TooLarge limit count) = tells (exceeds (record { limit = limit; count = count }))
FaultTells tells fault.NoMemory = Unit {0}

-- an answer whose verdict is one of these
abbrev pub TellsBy : (Verdict → Type 0) → Result Accepted CheckFault → Type 0
TellsBy tells (Ok a) = tells (accepts (program_seen a))
TellsBy tells (Err e) = FaultTells tells e

-- the same of an answer without the pass over ports
abbrev pub TellsTypedBy : (Verdict → Type 0) → Result Typed CheckFault → Type 0
TellsTypedBy tells (Ok t) = tells (accepts (program_seen t)) × IsReady (program_seen t)
TellsTypedBy tells (Err e) = FaultTells tells e

-- an answer tells what the text comes to, or memory was refused
abbrev pub Checks : List ℕ → Result Accepted CheckFault → Type 0
Checks text result = TellsBy (IsVerdict true text) result

abbrev pub ChecksWithoutPorts : List ℕ → Result Typed CheckFault → Type 0
ChecksWithoutPorts text result = TellsTypedBy (IsVerdict false text) result
