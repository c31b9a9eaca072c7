-- Commands that assign only to variables that have a value of their own at each copy.
use Rattle.std.specs.Prelude.{ℕ, ◌≤◌}
use Rattle.dh_meaning.specs.Core.{CoreCommand, store, assign, choose, keep, CoreCommands, no_commands, command_and}

-- what is assigned has a value of its own at each path of this length
abbrev mutual
  pub IsDeep : (depth : ℕ) → CoreCommand → Type 0
  IsDeep depth (store r target value) = Unit {0}
  IsDeep depth (assign d entity value) = depth ≤ d
  IsDeep depth (keep d first values) = depth ≤ d
  IsDeep depth (choose test chosen other) = AreDeep depth chosen × AreDeep depth other

  pub AreDeep : (depth : ℕ) → CoreCommands → Type 0
  AreDeep depth no_commands = Unit {0}
  AreDeep depth (command_and c cs) = IsDeep depth c × AreDeep depth cs
