-- The blocks of a plan one after the other: those that are put down are what those of the plan become.
use Rattle.std.proofs.Common.{◌≡◌, ℕ, zero, suc, ◌+◌, ◌*◌, ◌^◌, ◌<◌, ◌≤◌, ◌⊎◌, inl, inr, Bool, List, refl, sym, ap, ◌∙◌, subst, arith, length, get_or}
use Rattle.std.specs.Prelude.{Option, Some, [], ◌∷◌, ◌++◌}
use Rattle.std.proofs.lemmas.Bool.{cases_lt}
use Rattle.std.proofs.lemmas.List.{length-append}
use Rattle.std.proofs.lemmas.Option.{slice_get-get_or, slice_get_past}
use Rattle.dh_value.specs.declared.kinds.Kind.{Kind}
use Rattle.dh_tree.specs.declared.tables.MemEntry.{MemEntry}
use Rattle.dh_tree.specs.declared.viewing.ViewMap.{ViewMap}
use Rattle.dh_plan.specs.declared.operations.Operation.{Operation}
use Rattle.dh_plan.specs.declared.operations.PlanBlock.{PlanBlock}
use Rattle.dh_plan.specs.PlainPlans.{PlainPlan, first_in, operations_in, operations_before, block_operations}
use Rattle.dh_rows.specs.Readings.{OperationsGrow}
use Rattle.dh_address.specs.Pieces.{RenumberedBlock, any_takes_probe}
use Rattle.dh_address.specs.Images.{ArePieces, around_block, operations_until, IsBlockImage}
use Rattle.dh_address.specs.Cuts.{AreStarts, IsCutIntoBlocks}
use Rattle.dh_address.specs.SeenBlocks.{HasPieces}
use Rattle.dh_address.specs.SeenPlan.{AreImages}
use Rattle.dh_address.proofs.BlocksAppended.{until_before, until_more, until_past, no_starts, starts_more}
use Rattle.dh_address.proofs.PiecesGrow.{pieces_grow}

-- the first number of the next block
pub before_next : (bs : List PlanBlock) (n : ℕ) (c : PlanBlock) → n < length bs → get_or bs n c ≡ c → operations_before bs (suc n) ≡ operations_before bs n + length c.operations
before_next [] n c l e = absurd (omega (arith, l))
before_next (b ∷ bs) zero c l e =
    let none = begun bs in let same : length b.operations ≡ length c.operations = ap (λ (x : PlanBlock). length x.operations) e in omega (arith, none, same)
  where
    begun : (bs : List PlanBlock) → operations_before bs zero ≡ 0
    begun [] = refl
    begun (b ∷ bs) = refl
before_next (b ∷ bs) (suc n) c l e = let rest = before_next bs n c (omega (arith, l)) e in omega (arith, rest)

module _ (p : PlainPlan) where
  -- What is put down of the first blocks: where each begins, and what it is.
  pub record Laid (i : ℕ) (list : List Operation) (starts : List ℕ) (first : ℕ) : Type 0 where
    pub blocks : List PlanBlock
    pub as_many : length blocks ≡ i
    pub all : list ≡ operations_until blocks (length blocks)
    pub begin : AreStarts blocks starts
    pub images : (block : ℕ) → block < i → IsBlockImage p blocks block
    pub first_is : first ≡ operations_before p.blocks i
    pub few : first ≤ i * 2 ^ 64

  pub none_laid : Laid 0 [] [] 0
  none_laid = record {
    blocks = [];
    as_many = refl;
    all = refl;
    begin = no_starts;
    images = λ block l. absurd (omega (arith, l));
    first_is = sym (begun p.blocks);
    few = omega arith;
  }
    where
      begun : (bs : List PlanBlock) → operations_before bs zero ≡ 0
      begun [] = refl
      begun (b ∷ bs) = refl

  kept : (bs : List PlanBlock) (c : PlanBlock) (block : ℕ) → block < length bs → IsBlockImage p bs block → IsBlockImage p (bs ++ c ∷ []) block
  kept bs c block l h = record {
    numbers = h.numbers;
    pieces = subst (λ (os : List Operation). ArePieces p.registers (around_block p block) (operations_in p block) os (operations_until (bs ++ c ∷ []) (suc block)) h.numbers)
        (sym (until_before bs c block (omega (arith, l))))
        (subst (λ (os : List Operation). ArePieces p.registers (around_block p block) (operations_in p block) (operations_until bs block) os h.numbers)
        (sym (until_before bs c (suc block) (omega (arith, l)))) h.pieces);
  }

  -- what is known as a block begins, where its operations are these
  abbrev begun_with : (os : List Operation) → (first : ℕ) → (probed : Bool) → RenumberedBlock
  begun_with os first probed = record { table = p.table; views = p.views; operations = os; first = first; probed = probed; numbers = []; kinds = [] }

  around_is : (i : ℕ) (os : List Operation) (first : ℕ) (probed : Bool) → os ≡ operations_in p i → first ≡ first_in p i → probed ≡ any_takes_probe os first → begun_with os first probed ≡ around_block p i
  around_is i os first probed is number taken =
      ap (λ (b : Bool). begun_with os first b) taken
      ∙ (ap (λ n. begun_with os n (any_takes_probe os n)) number ∙ ap (λ (l : List Operation). begun_with l (first_in p i) (any_takes_probe l (first_in p i))) is)

  added : (i : ℕ) (bs : List PlanBlock) (c : PlanBlock) (list new : List Operation) (numbers : List ℕ) → length bs ≡ i → list ≡ operations_until bs (length bs) → new ≡ list ++ c.operations
      → ArePieces p.registers (around_block p i) (operations_in p i) list new numbers → IsBlockImage p (bs ++ c ∷ []) i
  added i bs c list new numbers many all grown h = record {
    numbers = numbers;
    pieces = subst (λ (os : List Operation). ArePieces p.registers (around_block p i) (operations_in p i) os (operations_until (bs ++ c ∷ []) (suc i)) numbers) first
        (subst (λ (os : List Operation). ArePieces p.registers (around_block p i) (operations_in p i) list os numbers) last h);
  }
    where
      first : list ≡ operations_until (bs ++ c ∷ []) i
      first = all ∙ (sym (until_before bs c (length bs) (omega arith)) ∙ ap (λ n. operations_until (bs ++ c ∷ []) n) many)

      last : new ≡ operations_until (bs ++ c ∷ []) (suc i)
      last = grown ∙ (ap (λ (os : List Operation). os ++ c.operations) all ∙ (sym (until_more bs c) ∙ ap (λ n. operations_until (bs ++ c ∷ []) (suc n)) many))

  -- one block more
  pub laid_more : (i : ℕ) (b : PlanBlock) (list new : List Operation) (starts : List ℕ) (start first next : ℕ) (probed : Bool) → i < length p.blocks → b ≡ get_or p.blocks i b
      → Laid i list starts first → probed ≡ any_takes_probe b.operations first → start ≡ length list → HasPieces p.registers (begun_with b.operations first probed) list new
      → next ≡ first + length b.operations → length b.operations ≤ 2 ^ 64 → Laid (i + 1) new (starts ++ start ∷ []) next
  laid_more i b list new starts start first next probed within is h taken begins put next_is small = record {
    blocks = h.blocks ++ c ∷ [];
    as_many = long ∙ ap (λ n. n + 1) h.as_many;
    all = grows.appended ∙ (ap (λ (os : List Operation). os ++ c.operations) h.all ∙ (sym (until_more h.blocks c) ∙ ap (λ n. operations_until (h.blocks ++ c ∷ []) n) later));
    begin = starts_more h.blocks c starts start h.begin (begins ∙ ap (λ (os : List Operation). length os) h.all);
    images = λ block l. image block (cases_lt block i) l;
    first_is = next_is ∙ (ap (λ n. n + length b.operations) h.first_is ∙ (sym (before_next p.blocks i b within (sym is)) ∙ ap (λ n. operations_before p.blocks n) plus));
    few = let before = h.few in omega (arith, before, next_is, small);
  }
    where
      a : RenumberedBlock
      a = begun_with b.operations first probed

      grows : OperationsGrow list new
      grows = pieces_grow p.registers b.operations a list new put.numbers put.pieces

      c : PlanBlock
      c = record { operations = grows.more }

      long : length (h.blocks ++ c ∷ []) ≡ length h.blocks + 1
      long = length-append h.blocks (c ∷ [])

      later : suc (length h.blocks) ≡ length (h.blocks ++ c ∷ [])
      later = omega (arith, long)

      plus : suc i ≡ i + 1
      plus = omega arith

      operations_are : b.operations ≡ operations_in p i
      operations_are = sym (ap (λ (o : Option PlanBlock). block_operations o) (slice_get-get_or p.blocks i b within ∙ ap (λ (x : PlanBlock). Some x) (sym is)))

      pieces : ArePieces p.registers (around_block p i) (operations_in p i) list new put.numbers
      pieces = subst (λ (x : RenumberedBlock). ArePieces p.registers x (operations_in p i) list new put.numbers) (around_is i b.operations first probed operations_are h.first_is taken)
          (subst (λ (os : List Operation). ArePieces p.registers a os list new put.numbers) operations_are put.pieces)

      image : (block : ℕ) → (block < i) ⊎ (i ≤ block) → block < i + 1 → IsBlockImage p (h.blocks ++ c ∷ []) block
      image block (inl few) l = kept h.blocks c block (subst (λ n. block < n) (sym h.as_many) few) (h.images block few)
      image block (inr past) l =
          let same : i ≡ block = omega (arith, past, l) in
          subst (λ n. IsBlockImage p (h.blocks ++ c ∷ []) n) same (added i h.blocks c list new put.numbers h.as_many h.all grows.appended pieces)

  -- behind the last block there are none
  past : (bs : List PlanBlock) (block : ℕ) → length p.blocks ≤ block → length bs ≤ block → IsBlockImage p bs block
  past bs block l m = record {
    numbers = [];
    pieces = subst (λ (os : List Operation). ArePieces p.registers (around_block p block) os (operations_until bs block) (operations_until bs (suc block)) [])
        (sym (ap (λ (o : Option PlanBlock). block_operations o) (slice_get_past p.blocks block l))) (until_past bs block m, refl);
  }

  -- the blocks that were cut are what those of the plan become
  pub all_laid : (i : ℕ) (list : List Operation) (starts : List ℕ) (first : ℕ) (found : List PlanBlock) → length p.blocks ≤ i → i ≤ length p.blocks → Laid i list starts first
      → ((blocks : List PlanBlock) → AreStarts blocks starts → list ≡ operations_until blocks (length blocks) → found ≡ blocks) → AreImages p found
  all_laid i list starts first found l m h cut = subst (λ (bs : List PlanBlock). AreImages p bs) (sym (cut h.blocks h.begin h.all)) images
    where
      many : length h.blocks ≡ length p.blocks
      many = let own = h.as_many in omega (arith, own, l, m)

      each : (block : ℕ) → (block < i) ⊎ (i ≤ block) → IsBlockImage p h.blocks block
      each block (inl few) = h.images block few
      each block (inr late) = past h.blocks block (omega (arith, l, late)) (omega (arith, many, l, late))

      images : AreImages p h.blocks
      images = record { as_many = many; each = λ block. each block (cases_lt block i) }

  -- The same as the code has them: lists of the plan's blocks, kinds and memories, and starts that were pushed.

  pub laid_first : (list : List Operation) (starts : List ℕ) → list ≡ [] → starts ≡ [] → Laid 0 list starts 0
  laid_first list starts none no_start = subst (λ (os : List Operation). Laid 0 os starts 0) (sym none) (subst (λ (ns : List ℕ). Laid 0 [] ns 0) (sym no_start) none_laid)

  pub laid_turn : (items : List PlanBlock) (i : ℕ) (b : PlanBlock) (list new : List Operation) (starts more : List ℕ) (start first : ℕ) (probed : Bool) (table : List MemEntry) (views : List ViewMap) (os : List Operation)
      (registers : List Kind) → items ≡ p.blocks → i < length items → b ≡ get_or items i b → Laid i list starts first → table ≡ p.table → views ≡ p.views → os ≡ b.operations → registers ≡ p.registers
      → probed ≡ any_takes_probe os first → start ≡ length list → more ≡ starts ++ start ∷ [] → length os ≤ 2 ^ 64
      → HasPieces registers (record { table = table; views = views; operations = os; first = first; probed = probed; numbers = []; kinds = [] }) list new → Laid (i + 1) new more (first + length os)
  laid_turn items i b list new starts more start first probed table views os registers all within is h table_is views_is own registers_is taken begins put small pieces =
      subst (λ (ns : List ℕ). Laid (i + 1) new ns (first + length os)) (sym put)
      (laid_more i b list new starts start first (first + length os) probed (subst (λ (bs : List PlanBlock). i < length bs) all within) (subst (λ (bs : List PlanBlock). b ≡ get_or bs i b) all is) h
      (subst (λ (l : List Operation). probed ≡ any_takes_probe l first) own taken) begins
      (subst (λ (l : List Operation). HasPieces p.registers (begun_with l first probed) list new) own
      (subst (λ (ks : List Kind). HasPieces ks (begun_with os first probed) list new) registers_is
      (subst (λ (t : List MemEntry). HasPieces registers (record { table = t; views = p.views; operations = os; first = first; probed = probed; numbers = []; kinds = [] }) list new) table_is
      (subst (λ (vs : List ViewMap). HasPieces registers (record { table = table; views = vs; operations = os; first = first; probed = probed; numbers = []; kinds = [] }) list new) views_is pieces))))
      (ap (λ (l : List Operation). first + length l) own) (subst (λ (l : List Operation). length l ≤ 2 ^ 64) own small))

  pub laid_end : (items : List PlanBlock) (i : ℕ) (list os : List Operation) (starts found_starts : List ℕ) (first : ℕ) (found : List PlanBlock) → items ≡ p.blocks → length items ≤ i → i ≤ length items
      → Laid i list starts first → os ≡ list → found_starts ≡ starts → IsCutIntoBlocks os found_starts found → AreImages p found
  laid_end items i list os starts found_starts first found all l m h os_is starts_is cut =
      all_laid i list starts first found (subst (λ (bs : List PlanBlock). length bs ≤ i) all l) (subst (λ (bs : List PlanBlock). i ≤ length bs) all m) h
      (subst (λ (ns : List ℕ). IsCutIntoBlocks list ns found) starts_is (subst (λ (o : List Operation). IsCutIntoBlocks o found_starts found) os_is cut))
