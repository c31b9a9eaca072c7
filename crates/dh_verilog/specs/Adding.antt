-- Texts that grow at their end.
use Rattle.std.specs.Prelude.{◌≡◌, ℕ, List, ◌++◌, Result, OnOk, String, string_bytes}
use Rattle.std.specs.Global.{Global}

-- where the write succeeds, it has added this text, once and nothing else
abbrev pub AddsText : {A E : Type 0} → Result A E → (old new : String Global) → List ℕ → Type 0
AddsText result old new text = OnOk result (string_bytes new ≡ string_bytes old ++ text)
