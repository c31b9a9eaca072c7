-- A turn of the run. A valid net has one run and each of its states one valuation, so that the net
-- shows no end in the state at hand says so of every state that as many clocks lead to.
use Rattle.std.proofs.Common.{◌≡◌, ℕ, zero, suc, ◌+◌, ◌≤◌, Bool, true, false, inl, inr, Option, Some, None, List, get_or, refl, sym, ap, subst, ◌∙◌, arith, add-one, eq-eqb, ne_eqb}
use Rattle.std.specs.Prelude.{IsTrue, ◌↔◌, ◌==◌, if◌then◌else◌}
use mir.Val.{bool_byte}
use Rattle.std.specs.Option.{unwrap_or}
use Rattle.dh_base.specs.declared.outcomes.Outcome.{Outcome}
use Rattle.dh_base.specs.declared.outcomes.Outcome.TheVariants.{Going, Ended, Faulted, Stuck}
use Rattle.dh_net.specs.declared.nets.Net.{Net}
use Rattle.dh_net.specs.Valid.{IsValid}
use Rattle.dh_net.specs.Clock.{State, Settles, Clocks, ClocksTo, start_of}
use Rattle.dh_net.specs.Ends.{ShowsEnd, TicksTo, StopsAs, IsRunOf}
use Rattle.dh_net.proofs.Valuations.{some_valuation, one_run}
use Rattle.dh_sim.specs.declared.arrays.Shown.{Shown}
use Rattle.dh_sim.specs.Points.{Point}
use Rattle.dh_sim.specs.Shows.{ShowsAs}
use Rattle.dh_sim.specs.Underway.{IsUnderway, IsEndShown}
use Rattle.dh_sim.proofs.Settling.{below_one}

-- the clocks of a run with its ticks
pub clocks_in : (net : Net) (c : ℕ) (a b : State) (t : ℕ) → TicksTo net c a b t → ClocksTo net c a b
clocks_in net zero a b t run = run.0
clocks_in net (suc c) a b t run = (run.0, (clocks_in net c a run.0 run.1.0 run.1.1.1.0, run.1.1.1.1.0))

-- before the first clock
pub sets_out : (net : Net) (s : State) → IsUnderway net s 0 s 0
sets_out net s = record { reached = (refl, refl); least = λ c t ws small. absurd (omega arith) }

-- what is shown of a state, by every valuation of it
abbrev pub IsShownIn : Shown → Net → State → Bool → Type 0
IsShownIn shown net s clash = (ws : List ℕ) → Settles net s ws → ShowsAs shown net ws clash

untrue : IsTrue false → ⊥
untrue e = cc

abbrev count_of : Bool → ℕ
count_of b = if b then 1 else 0

tick_of : (b : Bool) (w : ℕ) → (IsTrue b ↔ (w ≡ 1)) → count_of b ≡ count_of (w == 1)
tick_of true w h = let is : w ≡ 1 = h.0 refl in ap count_of (sym (eq-eqb w 1 is))
tick_of false w h = ap count_of (sym (ne_eqb w 1 (λ is. untrue (h.1 is))))

-- `u64::from` of a truth value
pub byte_is : (b : Bool) → bool_byte b ≡ count_of b
byte_is true = refl
byte_is false = refl

few_of : (b : Bool) → count_of b ≤ 1
few_of true = omega arith
few_of false = omega arith

-- one clock more
pub turn : (net : Net) → IsValid net → (first s t : State) (clocks steps : ℕ) (shown : Shown) (clash : Bool)
    → IsUnderway net first clocks s steps → ((ws : List ℕ) → Settles net s ws → ShowsEnd net ws → ⊥) → Clocks net s t → IsShownIn shown net t clash
    → IsUnderway net first (clocks + 1) t (steps + (if shown.tick then 1 else 0))
turn net valid first s t clocks steps shown clash so going one shows =
    let here = some_valuation net valid t in
    let shows_here = shows here.0 here.1 in
    record {
      reached = subst (λ (n : ℕ). TicksTo net n first t (steps + (if shown.tick then 1 else 0))) (sym (add-one clocks))
          (s, (steps, (here.0, (so.reached, (one, (here.1, ap (λ n. steps + n) (tick_of shown.tick (get_or here.0 net.tick 0) shows_here.tick)))))));
      least = λ c u ws small run settled ends.
          elim (below_one c clocks small) [
            | inl less ↦ so.least c u ws less run settled ends
            | inr now ↦
                let same : u ≡ s = one_run net valid clocks first u s (subst (λ (n : ℕ). ClocksTo net n first u) now run) (clocks_in net clocks first s steps so.reached) in
                going ws (subst (λ (x : State). Settles net x ws) same settled) ends
          ];
    }

-- a run that shows an end stops as it
pub stops_at : (net : Net) (ws : List ℕ) (clocks limit : ℕ) (outcome : Outcome) → IsEndShown net ws (Some outcome) → StopsAs net ws clocks limit outcome
stops_at net ws clocks limit Going h = absurd h
stops_at net ws clocks limit Ended h = h
stops_at net ws clocks limit (Faulted kind place) h = h
stops_at net ws clocks limit (Stuck memory bank place) h = h

-- what the loop keeps
pub record IsGoingOn (net : Net) (first : State) (clocks : ℕ) (p : Point) (steps : ℕ) (shown : Shown) : Type 0 where
  pub same : p.net ≡ net
  pub underway : IsUnderway net first clocks p.state steps
  pub few : steps ≤ clocks
  pub shows : IsShownIn shown net p.state p.clash

pub turn_on : (net : Net) → IsValid net → (first : State) (clocks : ℕ) (p q : Point) (steps n : ℕ) (shown next : Shown) → IsGoingOn net first clocks p steps shown
    → ((ws : List ℕ) (clash : Bool) → ShowsAs shown net ws clash → ShowsEnd net ws → ⊥) → q.net ≡ p.net → Clocks p.net p.state q.state
    → ((ws : List ℕ) → Settles q.net q.state ws → ShowsAs next q.net ws q.clash) → n ≡ count_of next.tick → IsGoingOn net first (clocks + 1) q (steps + n) next
turn_on net valid first clocks p q steps n shown next so going same one shows is =
    let net_is : q.net ≡ net = same ∙ so.same in
    let one_here : Clocks net p.state q.state = subst (λ (x : Net). Clocks x p.state q.state) so.same one in
    let shows_here : IsShownIn next net q.state q.clash = subst (λ (x : Net). IsShownIn next x q.state q.clash) net_is shows in
    let few = so.few in
    let at_most = few_of next.tick in
    record {
      same = net_is;
      underway = subst (λ (x : ℕ). IsUnderway net first (clocks + 1) q.state (steps + x)) (sym is)
          (turn net valid first p.state q.state clocks steps next q.clash so.underway (λ ws settled. going ws p.clash (so.shows ws settled)) one_here shows_here);
      few = omega (arith, few, at_most, is);
      shows = shows_here;
    }

-- a run at its limit stops there
stops_by : (net : Net) (ws : List ℕ) (limit : ℕ) (o : Option Outcome) → IsEndShown net ws o → StopsAs net ws limit limit (unwrap_or o Going)
stops_by net ws limit None h = (refl, h)
stops_by net ws limit (Some outcome) h = stops_at net ws limit limit outcome h

pub stops_last : (net : Net) (first : State) (clocks : ℕ) (p : Point) (steps : ℕ) (shown : Shown) (limit : ℕ) (o : Option Outcome) (outcome : Outcome) → IsGoingOn net first clocks p steps shown
    → ((ws : List ℕ) (clash : Bool) → ShowsAs shown net ws clash → IsEndShown net ws o) → outcome ≡ unwrap_or o Going
    → (ws : List ℕ) → Settles net p.state ws → StopsAs net ws limit limit outcome
stops_last net first clocks p steps shown limit o outcome so ends is ws settled =
    subst (λ (x : Outcome). StopsAs net ws limit limit x) (sym is) (stops_by net ws limit o (ends ws p.clash (so.shows ws settled)))

-- the whole run
pub is_run : (net : Net) → IsValid net → (m out : List (List ℕ)) (p q : Point) (limit clocks steps : ℕ) (outcome : Outcome) → p ≡ record { net = net; state = start_of net m; clash = false }
    → clocks ≤ limit → IsUnderway net p.state clocks q.state steps → ((ws : List ℕ) → Settles net q.state ws → StopsAs net ws clocks limit outcome) → out ≡ q.state.memories
    → IsRunOf net m limit outcome steps clocks out
is_run net valid m out p q limit clocks steps outcome begins within so stops contents =
    let here = some_valuation net valid q.state in
    let from : IsUnderway net (start_of net m) clocks q.state steps = subst (λ (x : Point). IsUnderway net x.state clocks q.state steps) begins so in
    record {
      within = within;
      last = q.state;
      wires = here.0;
      reached = from.reached;
      settled = here.1;
      least = from.least;
      stops = stops here.0 here.1;
      contents = contents;
    }
