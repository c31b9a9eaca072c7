-- Drivers that are gathered by port are the drivers of each port.
use Rattle.std.proofs.Common.{◌≡◌, ℕ, ◌<◌, Some, List, [], ◌∷◌, ◌++◌, length, sym, ap, ◌∙◌}
use Rattle.std.specs.Prelude.{Vec, slice_get}
use Rattle.std.specs.Global.{Global}
use Rattle.std.proofs.lemmas.List.{map-append}
use Rattle.dh_net.specs.declared.nets.Driver.{Driver}
use Rattle.dh_control.specs.declared.gathering.Keyed.{Keyed}
use Rattle.dh_control.specs.KeyedItems.{vector_items, items_picked}
use Rattle.dh_build.specs.DrivenUsers.{AreListed}

pub one_more_list : (lists news : List (List Driver)) (so_far : List (Vec Driver Global)) (list : Vec Driver Global) (items : List Driver) → lists ≡ vector_items so_far → items ≡ list.items → news ≡ lists ++ items ∷ []
    → news ≡ vector_items (so_far ++ list ∷ [])
one_more_list lists news so_far list items so is pushed =
    pushed ∙ ((λ i. so i ++ is i ∷ []) ∙ sym (map-append (λ (l : Vec Driver Global). l.items) so_far (list ∷ [])))

pub all_lists : (count : ℕ) (entries : List (Keyed Driver)) (lists : List (List Driver)) (gathered : List (Vec Driver Global)) → lists ≡ vector_items gathered → length (vector_items gathered) ≡ count
    → ((key : ℕ) → key < count → slice_get (vector_items gathered) key ≡ Some (items_picked key entries)) → AreListed count entries lists
all_lists count entries lists gathered is long each = record {
  long = ap (λ (l : List (List Driver)). length l) is ∙ long;
  each = λ port less. ap (λ (l : List (List Driver)). slice_get l port) is ∙ each port less;
}
