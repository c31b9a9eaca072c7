-- Where the ports of an access begin: behind the loads of what stands before it and may meet it.
use Rattle.std.specs.Prelude.{ℕ, ◌+◌, if◌then◌else◌}
use Rattle.dh_tree.specs.Meets.{Meets, nothing, access, all, one, has, load}

-- for each `all` above an access the loads of the parts before its own
abbrev pub begin : (charge : ℕ → ℕ) → (number : ℕ) → Meets → ℕ
begin charge a nothing = 0
begin charge a (access b) = 0
begin charge a (all l r) = if has a l then begin charge a l else load charge l + begin charge a r
begin charge a (one l r) = if has a l then begin charge a l else begin charge a r
