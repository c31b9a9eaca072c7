-- Numbers by which keys and structures are sought in tables: equal ones have one, and others mostly another.
use Rattle.std.specs.Prelude.{ℕ, ◌+◌, ◌*◌, ◌%◌, ◌^◌, None, Some}
use Rattle.dh_events.specs.declared.classes.Key.{Key}
use Rattle.dh_events.specs.declared.structures.Structure.{Structure}
use Rattle.dh_events.specs.declared.structures.Form.{Form}
use Rattle.dh_events.specs.declared.structures.Form.TheVariants as form

abbrev pub joined_digest : (first second : ℕ) → ℕ
joined_digest first second = (first * 2654435761 % 2 ^ 64 + second) % 2 ^ 64

abbrev pub of_key : Key → ℕ
of_key k = joined_digest (joined_digest (joined_digest k.phase k.entity) k.element) k.newest

-- forms of one sort have their numbers, and a last one that tells the sort
abbrev pub of_form : Form → ℕ
of_form (form.Number negative value) = joined_digest value 1
of_form (form.Truth value) = 2
of_form (form.Variable entity) = joined_digest entity 3
of_form (form.Read entity element) = joined_digest (joined_digest entity element) 4
of_form (form.Operation op left right) = joined_digest (joined_digest (joined_digest left right) op) 5
of_form (form.Cast to inner) = joined_digest inner 6
of_form form.NoIndex = 7
of_form (form.Index None last) = joined_digest last 8
of_form (form.Index (Some before) last) = joined_digest (joined_digest before last) 9
of_form (form.Row bank row) = joined_digest (joined_digest bank row) 10

-- structures of one form mostly have one kind
abbrev pub of_structure : Structure → ℕ
of_structure s = of_form s.form
