-- Stops and writes depend on neither numbers nor paths.
use Rattle.std.proofs.Common.{◌≡◌, ℕ, suc, ◌+◌, nat_lt, if◌then◌else◌, List, [], ◌∷◌, ◌++◌, Some, refl, ap, sym, ◌∙◌}
use Rattle.std.specs.Prelude.{nat_eq, slice_set, slice_index_or}
use Rattle.std.specs.Set.{distinct_count}
use Rattle.std.proofs.lemmas.List.{map-append}
use Rattle.dh_base.specs.declared.outcomes.Outcome.TheVariants.{Stuck}
use Rattle.dh_tree.specs.declared.tables.MemEntry.{MemEntry}
use Rattle.dh_tree.specs.Elements.{Spot, ports_at}
use Rattle.dh_meaning.specs.Effects.{Event, reads, writes, faults, is_at, spends_beyond, rows_read, spent, stop_after, writes_made, written}
use Rattle.dh_code.specs.Plain.{all_plain, plain}
use Rattle.dh_code.specs.States.{writes_in, memories_written}

rows_plain : (es : List Event) (m b : ℕ) → rows_read (all_plain es) m b ≡ rows_read es m b
rows_plain [] m b = refl
rows_plain (reads n p x s ∷ es) m b = ap (λ l. if is_at s m b then s.row ∷ l else l) (rows_plain es m b)
rows_plain (writes n p x s v ∷ es) m b = rows_plain es m b
rows_plain (faults n p x k ∷ es) m b = rows_plain es m b

made_plain : (es : List Event) (m b : ℕ) → writes_made (all_plain es) m b ≡ writes_made es m b
made_plain [] m b = refl
made_plain (reads n p x s ∷ es) m b = made_plain es m b
made_plain (writes n p x s v ∷ es) m b = ap (λ k. if is_at s m b then suc k else k) (made_plain es m b)
made_plain (faults n p x k ∷ es) m b = made_plain es m b

pub spent_plain : (es : List Event) (m b : ℕ) → spent (all_plain es) m b ≡ spent es m b
spent_plain es m b = ap (λ l. distinct_count nat_eq l + writes_made (all_plain es) m b) (rows_plain es m b) ∙ ap (λ k. distinct_count nat_eq (rows_read es m b) + k) (made_plain es m b)

beyond_plain : (table : List MemEntry) (before : List Event) (e : Event) (s : Spot) → spends_beyond table (all_plain before ++ plain e ∷ []) s ≡ spends_beyond table (before ++ e ∷ []) s
beyond_plain table before e s =
    ap (λ l. spends_beyond table l s) (sym (map-append plain before (e ∷ [])))
    ∙ ap (λ k. nat_lt (ports_at table s.memory) k) (spent_plain (before ++ e ∷ []) s.memory s.bank)

pub stop_plain : (table : List MemEntry) (before es : List Event) → stop_after table (all_plain before) (all_plain es) ≡ stop_after table before es
stop_plain table before [] = refl
stop_plain table before (reads n p x s ∷ es) =
    ap (λ b. if b then Some (Stuck s.memory s.bank p) else stop_after table (all_plain before ++ reads 0 p [] s ∷ []) (all_plain es)) (beyond_plain table before (reads n p x s) s)
    ∙ ap (λ o. if spends_beyond table (before ++ reads n p x s ∷ []) s then Some (Stuck s.memory s.bank p) else o)
    (ap (λ l. stop_after table l (all_plain es)) (sym (map-append plain before (reads n p x s ∷ []))) ∙ stop_plain table (before ++ reads n p x s ∷ []) es)
stop_plain table before (writes n p x s v ∷ es) =
    ap (λ b. if b then Some (Stuck s.memory s.bank p) else stop_after table (all_plain before ++ writes 0 p [] s v ∷ []) (all_plain es)) (beyond_plain table before (writes n p x s v) s)
    ∙ ap (λ o. if spends_beyond table (before ++ writes n p x s v ∷ []) s then Some (Stuck s.memory s.bank p) else o)
    (ap (λ l. stop_after table l (all_plain es)) (sym (map-append plain before (writes n p x s v ∷ []))) ∙ stop_plain table (before ++ writes n p x s v ∷ []) es)
stop_plain table before (faults n p x k ∷ es) = refl

-- the writes among events are those that are made
pub written_is : (es : List Event) (memories : List (List ℕ)) → memories_written (writes_in es) memories ≡ written es memories
written_is [] memories = refl
written_is (reads n p x s ∷ es) memories = written_is es memories
written_is (writes n p x s v ∷ es) memories = written_is es (slice_set memories s.memory (slice_set (slice_index_or memories s.memory []) s.position v))
written_is (faults n p x k ∷ es) memories = written_is es memories
