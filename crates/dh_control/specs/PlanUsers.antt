-- The users of the ports of a plan, in order of blocks, operations and banks, each under the number of its port.
use Rattle.std.specs.Prelude.{ℕ, suc, List, [], ◌∷◌, ◌++◌, Option, Some, None}
use Rattle.dh_plan.specs.declared.operations.Operation.{Operation}
use Rattle.dh_plan.specs.declared.operations.PlanBlock.{PlanBlock}
use Rattle.dh_plan.specs.declared.operations.Reach.{Reach}
use Rattle.dh_plan.specs.BoundPorts.{Uses}
use Rattle.dh_plan.specs.PlainPlans.{PlainPlan}
use Rattle.dh_plan.specs.SoundPlans.{use_in}
use Rattle.dh_lower.specs.PortUsers.{User, AreUsers}
use Rattle.dh_lower.specs.ShownWords.{port_bound}
use Rattle.dh_plan.specs.SoundPlans.{IsFormed}
use Rattle.dh_control.specs.declared.gathering.Keyed.{Keyed}
use Rattle.dh_control.specs.KeyedItems.{items_picked}

abbrev pub user_at : (block place bank : ℕ) → User
user_at block place bank = record { block = block; place = place; bank = bank }

-- an operation as a user, once for each bank
abbrev pub bank_users : PlainPlan → Uses → (block place : ℕ) → Reach → (banks : List (ℕ × ℕ)) → List (Keyed User)
bank_users plan u block i r [] = []
bank_users plan u block i r (b ∷ bs) = record { key = port_bound plan u block i b.0 r; item = user_at block i b.0 } ∷ bank_users plan u block i r bs

abbrev pub use_users : PlainPlan → Uses → (block place : ℕ) → Option Reach → List (Keyed User)
use_users plan u block i None = []
use_users plan u block i (Some r) = bank_users plan u block i r r.banks

-- operations of which the first has this place
abbrev pub operations_users : PlainPlan → Uses → (block from : ℕ) → List Operation → List (Keyed User)
operations_users plan u block from [] = []
operations_users plan u block from (o ∷ os) = use_users plan u block from (use_in o.form) ++ operations_users plan u block (suc from) os

-- blocks of which the first has this number
abbrev pub blocks_users : PlainPlan → Uses → (from : ℕ) → List PlanBlock → List (Keyed User)
blocks_users plan u from [] = []
blocks_users plan u from (b ∷ bs) = operations_users plan u from 0 b.operations ++ blocks_users plan u (suc from) bs

-- those of one port
abbrev pub users_of : PlainPlan → Uses → (port : ℕ) → List User
users_of plan u port = items_picked port (blocks_users plan u 0 plan.blocks)

-- these are the users of ports
abbrev pub PlansHaveUsers : Type 0
PlansHaveUsers = (plan : PlainPlan) (u : Uses) → IsFormed plan → AreUsers plan u (users_of plan u)
