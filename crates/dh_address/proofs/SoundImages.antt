-- The plan that is made of a sound one keeps its banks in each step, and each access whose guard holds is in range.
use Rattle.std.proofs.Common.{◌≡◌, ℕ, ◌+◌, ◌<◌, ◌≤◌, ◌⊎◌, inl, inr, Some, List, true, length, refl, sym, ap, subst, ◌∙◌, arith}
use Rattle.std.specs.Prelude.{[], ◌∷◌, slice_get, slice_index}
use Rattle.std.specs.List.{AllByRecursion}
use Rattle.std.proofs.lemmas.Bool.{cases_lt}
use Rattle.dh_tree.specs.Elements.{Spot}
use Rattle.dh_tree.specs.Meets.{Apart, Before}
use Rattle.dh_tree.specs.Tables.{Fits}
use Rattle.dh_plan.specs.declared.operations.Operation.{Operation}
use Rattle.dh_plan.specs.declared.operations.PlanBlock.{PlanBlock}
use Rattle.dh_plan.specs.declared.operations.Reach.{Reach}
use Rattle.dh_plan.specs.Blocks.{StepStart, is_on}
use Rattle.dh_plan.specs.Correspondence.{FitKinds}
use Rattle.dh_plan.specs.PlainPlans.{PlainPlan, first_in, operations_in}
use Rattle.dh_plan.specs.PlanRuns.{start_at, block_values}
use Rattle.dh_plan.specs.SoundPlans.{use_in, Counting, IsOneOf, IsStepOf, Reaches, OperationBefore, WritesAt, writes_memory, IsListed, RisesIn, InOneBank, KeepsBanks, StepsKeepBanks, IsSound, IsInRange, IsAddressed}
use Rattle.dh_plan.specs.SoundRuns.{IsStepInTurns}
use Rattle.dh_plan.proofs.FittingValues.{plan_values_fit}
use Rattle.dh_plan.proofs.StepsAlone.{blocks_step_alone}
use Rattle.dh_address.proofs.WaySizes.{HasMaps}
use Rattle.dh_address.specs.Images.{IsBlockImage}
use Rattle.dh_address.proofs.BlockImages.{front, begins, IsKnownBlock, block_known, listed_in_step, words_in_step}
use Rattle.dh_address.proofs.GoodPieces.{AreGoodPieces, StandsInPiece, Anything, plain_pieces}
use Rattle.dh_address.proofs.PartsOfPieces.{stands_at, part_at, stand_in_order, one_itself}
use Rattle.dh_address.proofs.PieceForms.{image_of}
use Rattle.dh_address.proofs.UsesAlike.{IsSameAccess, IsLed, use_led, part_addressed}
use Rattle.dh_address.proofs.WordsPass.{SameWord, ReachesListed}

module _ (p : PlainPlan) (maps : HasMaps p) (sound : IsSound p) (bs : List PlanBlock) (images : (block : ℕ) → IsBlockImage p bs block) where
  abbrev q : PlainPlan
  q = image_of p bs

  abbrev known : (block : ℕ) → IsKnownBlock p maps sound.formed bs block
  known block = block_known p maps sound.formed bs block (images block)

  module _ (blocks : List ℕ) (loops : List Counting) (step : IsStepOf [] p.body blocks loops) (registers : List ℕ) (memories : List (List ℕ)) (fit : FitKinds p.registers registers) (fits : Fits p.table memories)
      (turns : AllByRecursion (λ c. slice_index registers c.counter < c.turns) loops) where
    abbrev s : StepStart
    s = start_at p registers memories

    abbrev t : StepStart
    t = start_at q registers memories

    keeps : KeepsBanks p s blocks
    keeps = sound.steps blocks loops step registers memories fit fits turns

    -- One block of the step.

    module _ (b : ℕ) (one : IsOneOf b blocks) where
      alone : IsStepInTurns p registers (b ∷ [])
      alone = blocks_step_alone p registers blocks (record { loops = loops; step = step; turns = turns }) b one

      abbrev start : List Operation
      start = front p maps sound.formed bs b

      abbrev starts : length start ≡ first_in q b
      starts = begins p maps sound.formed bs b

      abbrev Words : ℕ → ℕ → Type 0
      Words v m = SameWord p maps sound.formed.table bs b start starts (sound.formed.blocks b) (known b).known.all_formed registers memories v m

      reaches_listed : ReachesListed p maps sound.formed.table bs b start starts (sound.formed.blocks b) (known b).known.all_formed registers memories
      reaches_listed = listed_in_step p maps sound bs images b alone.loops alone.step registers memories fit fits alone.turns

      pub words : AreGoodPieces p maps sound.formed.table bs b start starts (sound.formed.blocks b) Words [] [] 0 (operations_in p b) start
      words = words_in_step p maps sound bs images b alone.loops alone.step registers memories fit fits alone.turns

      abbrev stands : (j : ℕ) (u : Operation) → slice_get (operations_in q b) j ≡ Some u → StandsInPiece p maps sound.formed.table bs b start starts (sound.formed.blocks b) Words 0 (length start + j)
      stands j u e = stands_at p maps sound.formed.table bs b start starts (sound.formed.blocks b) (known b).known.all_formed Words words j u e

      -- an operation that reaches an element is an old one that does
      pub record IsOldReach (j : ℕ) (v : Reach) (spot : Spot) (x : Reaches q t blocks b j v spot) : Type 0 where
        pub reach : Reach
        pub reaches : Reaches p s blocks b (stands j x.operation x.there).place reach spot
        pub same : IsSameAccess v reach
        pub own : length start + j ≡ (stands j x.operation x.there).of.number
        pub writes : WritesAt q b j → WritesAt p b (stands j x.operation x.there).place

      led : (j : ℕ) (u : Operation) (e : slice_get (operations_in q b) j ≡ Some u) (v : Reach) → use_in u.form ≡ Some v → is_on (first_in q b) (block_values q t b) u.guard ≡ true
          → IsLed p maps sound.formed.table bs b start starts (sound.formed.blocks b) (known b).known.all_formed registers memories
          (plan_values_fit p b registers memories (sound.formed.blocks b) fit fits) reaches_listed words j u e v
      led j u e v uses on = use_led p maps sound.formed.table bs b start starts (sound.formed.blocks b) (known b).known.all_formed registers memories
          (plan_values_fit p b registers memories (sound.formed.blocks b) fit fits) reaches_listed words j u e v uses on

      pub old_reach : (j : ℕ) (v : Reach) (spot : Spot) (x : Reaches q t blocks b j v spot) → IsOldReach j v spot x
      old_reach j v spot x =
          let l = led j x.operation x.there v x.uses x.on in
          let two : Some l.spot ≡ Some spot = sym l.leads ∙ x.leads in
          let same : l.spot ≡ spot = cc in
          record {
            reach = l.reach;
            reaches = record { active = one; operation = (stands j x.operation x.there).operation; there = l.there; uses = l.uses; on = l.on; leads = l.old_leads ∙ ap (λ (sp : Spot). Some sp) same };
            same = l.same;
            own = l.own;
            writes = λ w. record {
              operation = (stands j x.operation x.there).operation;
              there = l.there;
              writes = l.writes (let twice : Some w.operation ≡ Some x.operation = sym w.there ∙ x.there in
                  let here : w.operation ≡ x.operation = cc in
                  subst (λ (u : Operation). writes_memory u.form) here w.writes);
            };
          }

      pub in_range : (j : ℕ) (u : Operation) → slice_get (operations_in q b) j ≡ Some u → (v : Reach) → use_in u.form ≡ Some v → is_on (first_in q b) (block_values q t b) u.guard ≡ true → IsInRange q t b j v u
      in_range j u e v uses on = let l = led j u e v uses on in record { spot = l.spot; leads = l.leads }

      -- two operations of one piece that reach elements are one
      pub one_old : (j k : ℕ) (v w : Reach) (x y : Spot) (f : Reaches q t blocks b j v x) (g : Reaches q t blocks b k w y) → (stands j f.operation f.there).place ≡ (stands k g.operation g.there).place → j ≡ k
      one_old j k v w x y f g same =
          one_itself p maps sound.formed.table bs b start starts (sound.formed.blocks b) (known b).known.all_formed Words words j k f.operation g.operation f.there g.there same
          (old_reach j v x f).own (old_reach k w y g).own

      pub old_before : (j k : ℕ) (v w : Reach) (x y : Spot) (f : Reaches q t blocks b j v x) (g : Reaches q t blocks b k w y) → j < k
          → (stands j f.operation f.there).place < (stands k g.operation g.there).place
      old_before j k v w x y f g l =
          strict (stands j f.operation f.there).place (stands k g.operation g.there).place
          (stand_in_order p maps sound.formed.table bs b start starts (sound.formed.blocks b) (known b).known.all_formed Words words j k f.operation g.operation f.there g.there (omega (arith, l)))
          (λ e. (let same = one_old j k v w x y f g e in omega (arith, l, same)))
        where
          strict : (m n : ℕ) → m ≤ n → (m ≡ n → ⊥) → m < n
          strict m n l differ = elim (cases_lt m n) [ inl k ↦ k | inr k ↦ absurd (differ (omega (arith, l, k))) ]

    -- All blocks of the step.

    listed_again : (b j : ℕ) (v : Reach) (spot : Spot) → Reaches q t blocks b j v spot → (place : ℕ) × IsListed spot.bank place v.banks
    listed_again b j v spot x =
        let o = old_reach b x.active j v spot x in
        let l = keeps.listed b _ o.reach spot o.reaches in
        (l.0, subst (λ (banks : List (ℕ × ℕ)). IsListed spot.bank l.0 banks) (sym o.same.1.1) l.1)

    never_again : (b j c k : ℕ) (v w : Reach) (x y : Spot) → Reaches q t blocks b j v x → Reaches q t blocks c k w y → Apart p.meets v.access w.access → ⊥
    never_again b j c k v w x y f g apart =
        let o = old_reach b f.active j v x f in
        let n = old_reach c g.active k w y g in
        keeps.never b _ c _ o.reach n.reach x y o.reaches n.reaches
        (subst (λ (i : ℕ). Apart p.meets i n.reach.access) o.same.0 (subst (λ (i : ℕ). Apart p.meets v.access i) n.same.0 apart))

    -- what both accesses have, of the old ones
    module _ (b j c k place : ℕ) (v w : Reach) (x y : Spot) (same : v.access ≡ w.access) (bank : InOneBank x y) (first_listed : IsListed x.bank place v.banks) (second_listed : IsListed x.bank place w.banks) where
      placed_so : (one : IsOneOf b blocks) (other : IsOneOf c blocks) (f : Reaches q t blocks b j v x) (g : Reaches q t blocks c k w y)
          → (b ≡ c) × ((stands b one j f.operation f.there).place ≡ (stands c other k g.operation g.there).place)
      placed_so one other f g =
          let o = old_reach b one j v x f in
          let n = old_reach c other k w y g in
          keeps.placed b _ c _ place o.reach n.reach x y o.reaches n.reaches (sym o.same.0 ∙ (same ∙ n.same.0)) bank
          (subst (λ (banks : List (ℕ × ℕ)). IsListed x.bank place banks) o.same.1.1 first_listed) (subst (λ (banks : List (ℕ × ℕ)). IsListed x.bank place banks) n.same.1.1 second_listed)

      in_one_block : b ≡ c → (f : Reaches q t blocks b j v x) → Reaches q t blocks c k w y → j ≡ k
      in_one_block e f g =
          let here = subst (λ (d : ℕ). Reaches q t blocks d k w y) (sym e) g in
          one_old b f.active j k v w x y f here (placed_in_one f here)
        where
          placed_in_one : (f : Reaches q t blocks b j v x) (here : Reaches q t blocks b k w y) → (stands b f.active j f.operation f.there).place ≡ (stands b f.active k here.operation here.there).place
          placed_in_one f here =
              let o = old_reach b f.active j v x f in
              let n = old_reach b f.active k w y here in
              (keeps.placed b _ b _ place o.reach n.reach x y o.reaches n.reaches (sym o.same.0 ∙ (same ∙ n.same.0)) bank
              (subst (λ (banks : List (ℕ × ℕ)). IsListed x.bank place banks) o.same.1.1 first_listed) (subst (λ (banks : List (ℕ × ℕ)). IsListed x.bank place banks) n.same.1.1 second_listed)).1

      placed_again : Reaches q t blocks b j v x → Reaches q t blocks c k w y → (b ≡ c) × (j ≡ k)
      placed_again f g = let e = (placed_so f.active g.active f g).0 in (e, in_one_block e f g)

    module _ (j k : ℕ) (v w : Reach) (x y : Spot) (bank : InOneBank x y) where
      abbrev Rises : Type 0
      Rises = Before p.meets v.access w.access ⊎ ((v.access ≡ w.access) × RisesIn x.bank v.banks w.banks)

      risen : (r u : Reach) → IsSameAccess v r → IsSameAccess w u → Before p.meets r.access u.access ⊎ ((r.access ≡ u.access) × RisesIn x.bank r.banks u.banks) → Rises
      risen r u d e (inl h) = inl (subst (λ (i : ℕ). Before p.meets i w.access) (sym d.0) (subst (λ (i : ℕ). Before p.meets r.access i) (sym e.0) h))
      risen r u d e (inr h) =
          inr (d.0 ∙ (h.0 ∙ sym e.0), subst (λ (banks : List (ℕ × ℕ)). RisesIn x.bank banks w.banks) (sym d.1.1) (subst (λ (banks : List (ℕ × ℕ)). RisesIn x.bank r.banks banks) (sym e.1.1) h.1))

      in_order : (b c : ℕ) (one : IsOneOf b blocks) (other : IsOneOf c blocks) (f : Reaches q t blocks b j v x) (g : Reaches q t blocks c k w y) → WritesAt q b j → WritesAt q c k
          → OperationBefore blocks b (stands b one j f.operation f.there).place c (stands c other k g.operation g.there).place → Rises
      in_order b c one other f g m n before =
          let o = old_reach b one j v x f in
          let l = old_reach c other k w y g in
          risen o.reach l.reach o.same l.same (keeps.ordered b _ c _ o.reach l.reach x y o.reaches l.reaches bank (o.writes m) (l.writes n) before)

      ordered_again : (b c : ℕ) → Reaches q t blocks b j v x → Reaches q t blocks c k w y → WritesAt q b j → WritesAt q c k → OperationBefore blocks b j c k → Rises
      ordered_again b c f g m n (inl before) = in_order b c f.active g.active f g m n (inl before)
      ordered_again b c f g m n (inr (e, l)) =
          let here = subst (λ (d : ℕ). Reaches q t blocks d k w y) (sym e) g in
          in_order b b f.active f.active f here m (subst (λ (d : ℕ). WritesAt q d k) (sym e) n) (inr (refl, old_before b f.active j k v w x y f here l))

    pub banks_kept : KeepsBanks q t blocks
    banks_kept = record {
      listed = listed_again;
      never = λ b j c k v w x y f g apart. never_again b j c k v w x y f g apart;
      placed = λ b j c k place v w x y f g same bank d e. placed_again b j c k place v w x y same bank d e f g;
      ordered = λ b j c k v w x y f g bank m n before. ordered_again j k v w x y bank b c f g m n before;
    }

  pub steps_keep_banks : StepsKeepBanks q
  steps_keep_banks blocks loops step registers memories fit fits turns = banks_kept blocks loops step registers memories fit fits turns

  pub is_addressed : IsAddressed q
  is_addressed = record {
    forms = λ block j u e.
        (let pieces = plain_pieces p maps sound.formed.table bs block (front p maps sound.formed bs block) (begins p maps sound.formed bs block) (sound.formed.blocks block) (known block).numbers (known block).known.pieces in
        part_addressed _ _ _ _ _ _ u
        (part_at p maps sound.formed.table bs block (front p maps sound.formed bs block) (begins p maps sound.formed bs block) (sound.formed.blocks block) (known block).known.all_formed
        (Anything p maps sound.formed.table bs block (front p maps sound.formed bs block) (begins p maps sound.formed bs block) (sound.formed.blocks block)) pieces j u e));
    inside = λ blocks loops step registers memories fit fits turns block j v u one e uses on. in_range blocks loops step registers memories fit fits turns block one j u e v uses on;
  }
