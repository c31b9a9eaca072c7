-- Writes that are made.
use Rattle.std.proofs.Common.{◌≡◌, ℕ, ◌<◌, List, [], length, get_or, Some, ap, sym, ◌∙◌}
use Rattle.std.specs.Prelude.{slice_get, slice_set, slice_index_or, Vec}
use Rattle.std.specs.Option.{option_map}
use Rattle.std.specs.Global.{Global}
use Rattle.std.proofs.lemmas.List.{map-set}
use Rattle.std.proofs.lemmas.Option.{slice_get-map, slice_get-get_or, get_or_from_slice_get}
use Rattle.dh_code.specs.Rows.{contents_of}

pub made_one : (lists : List (Vec ℕ Global)) (m : ℕ) (new old : Vec ℕ Global) (position bits : ℕ) → m < length lists → old ≡ get_or lists m old → new.items ≡ slice_set old.items position bits
    → contents_of (slice_set lists m new) ≡ slice_set (contents_of lists) m (slice_set (slice_index_or (contents_of lists) m []) position bits)
made_one lists m new old position bits within is set =
    let there : slice_get (contents_of lists) m ≡ Some old.items = slice_get-map (λ v. v.items) lists m ∙ ap (λ o. option_map (λ v. v.items) o) (slice_get-get_or lists m old within ∙ ap Some (sym is)) in
    map-set (λ u. u.items) lists m new
    ∙ ap (λ l. slice_set (contents_of lists) m l) (set ∙ ap (λ l. slice_set l position bits) (sym (get_or_from_slice_get (contents_of lists) m old.items [] there)))
