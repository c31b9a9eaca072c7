-- Copying lists one by one: those before index i are copied.
use Rattle.std.proofs.Common.{◌≡◌, ℕ, ◌+◌, ◌<◌, List, [], ◌∷◌, ◌++◌, length, take, get_or, sym, ap, subst, ◌∙◌}
use Rattle.std.specs.Prelude.{Vec}
use Rattle.std.specs.Global.{Global}
use Rattle.std.proofs.lemmas.List.{take_more, map-append, length-map, get_or-map}
use Rattle.dh_sim.specs.Points.{lists_of}

pub copy_on : (lists copies after : List (Vec ℕ Global)) (i : ℕ) (d copy : Vec ℕ Global) (slice : List ℕ) → i < length lists → slice ≡ (get_or lists i d).items
    → copy.items ≡ slice → after ≡ copies ++ copy ∷ [] → lists_of copies ≡ take i (lists_of lists) → lists_of after ≡ take (i + 1) (lists_of lists)
copy_on lists copies after i d copy slice h is_slice is_copy is_after so =
    let inside : i < length (lists_of lists) = subst (λ (n : ℕ). i < n) (sym (length-map lists (λ b. b.items))) h in
    let item : copy.items ≡ get_or (lists_of lists) i [] = is_copy ∙ (is_slice ∙ sym (get_or-map (λ b. b.items) lists i d [] h)) in
    ap lists_of is_after
    ∙ (map-append (λ b. b.items) copies (copy ∷ [])
    ∙ (ap (λ x. x ++ copy.items ∷ []) so
    ∙ (ap (λ x. take i (lists_of lists) ++ x ∷ []) item
    ∙ sym (take_more (lists_of lists) i [] inside))))
