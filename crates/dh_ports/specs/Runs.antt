-- Moves in runs: a move, and the same of the banks behind its own. Claims of banks in a row with as many keys each are
-- kept once.
use Rattle.std.specs.Prelude.{◌≡◌, ℕ, zero, suc, ◌-◌, ◌==◌, ◌&&◌, nat_lt, Bool, false, List, [], ◌∷◌, ◌++◌, Vec}
use Rattle.std.specs.Global.{Global}
use Rattle.dh_ports.specs.declared.moves.Move.{Move}
use Rattle.dh_ports.specs.declared.moves.Move.TheVariants as move
use Rattle.dh_ports.specs.declared.moves.Run.{Run}

-- the number of the bank that a move claims; 0 where it claims none
abbrev pub claimed_slot : Move → ℕ
claimed_slot (move.Claim event slot keys) = slot
claimed_slot move.Begin = 0
claimed_slot move.Next = 0
claimed_slot move.End = 0

-- the move that does the same to another bank
abbrev pub at_slot : Move → (slot : ℕ) → Move
at_slot (move.Claim event first keys) slot = move.Claim event slot keys
at_slot move.Begin slot = move.Begin
at_slot move.Next slot = move.Next
at_slot move.End slot = move.End

-- the same to each of so many banks in a row
abbrev pub moves_in_row : Move → (slot many : ℕ) → List Move
moves_in_row m slot zero = []
moves_in_row m slot (suc many) = at_slot m slot ∷ moves_in_row m (suc slot) many

-- a move, and the same to the banks behind its own and in front of an end
abbrev pub row_to : Move → (end : ℕ) → List Move
row_to m end = moves_in_row m (claimed_slot m) (end - claimed_slot m)

-- the moves of a run, and of runs
abbrev pub moves_of_run : Run → List Move
moves_of_run r = row_to r.first r.end

abbrev pub moves_in : List Run → List Move
moves_in [] = []
moves_in (r ∷ rs) = moves_of_run r ++ moves_in rs

-- behind the moves of runs these come, or those of a run and behind it these
abbrev pub AddsMoves : (old new : Vec Run Global) → List Move → Type 0
AddsMoves old new more = moves_in new.items ≡ moves_in old.items ++ more

abbrev pub AddsBehind : (old new : Vec Run Global) → Run → List Move → Type 0
AddsBehind old new last more = moves_in new.items ≡ (moves_in old.items ++ moves_of_run last) ++ more

-- the claim of one bank
abbrev pub one_claim : (event slot keys : ℕ) → List Move
one_claim event slot keys = move.Claim event slot keys ∷ []

-- a move is a claim by this access with so many keys
abbrev pub claims_so : Move → (event keys : ℕ) → Bool
claims_so (move.Claim other slot each) event keys = (other == event) && (each == keys)
claims_so move.Begin event keys = false
claims_so move.Next event keys = false
claims_so move.End event keys = false

-- a bank stands behind those of a run
abbrev pub is_next : Run → (slot : ℕ) → Bool
is_next r slot = nat_lt (claimed_slot r.first) r.end && (r.end == slot)

-- the claim of a bank goes on with a run
abbrev pub claim_extends_run : Run → (event slot keys : ℕ) → Bool
claim_extends_run r event slot keys = claims_so r.first event keys && is_next r slot
