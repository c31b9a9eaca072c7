-- Where the accesses of a command's events stand: in the arms and loops round the command, and in further ones
-- inside it; the further arms are of commands inside it, whose numbers are those that it takes. By induction
-- over the command.
use Rattle.std.proofs.Common.{◌≡◌, ℕ, suc, ◌+◌, ◌<◌, ◌≤◌, nat_lt, Bool, true, false, if◌then◌else◌, List, [], ◌∷◌, ◌++◌, Option, Some, None, sym, ◌∙◌, subst, arith}
use Rattle.std.proofs.lemmas.List.{append_assoc, append-nil}
use Rattle.dh_base.specs.declared.places.Place.{Place}
use Rattle.dh_tree.specs.Numbers.{commands_in, commands_inside, commands_in_other, commands_in_groups, commands_in_part, IsNumbered, IsNumberedInside, IsNumberedOther, AreNumberedGroups, AreNumbered}
use Rattle.dh_tree.specs.declared.trees.counters.Counter.{Counter}
use Rattle.dh_tree.specs.PlainTrees.{Term, term, number, truth_value, named, accessed, in_bank, applied, converted, Terms, no_terms, term_then, Action, action, ActionForm, lets, lets_memory, views, assigns, stores, reduces, calls, blocks, decides, repeats, counts, MaybeAction, no_action, one_action, Actions, no_actions, action_then, Groups, no_groups, group_then}
use Rattle.dh_meaning.specs.Sites.{Arm, Around, in_arm, in_loop, loop_of}
use Rattle.dh_meets.specs.SourceEvents.{Element, SourceAccess, SourceEvent, accesses, assigned, site_of, source_term_events, source_terms_events, maybe_events, write_events, events, command_events, other_events, groups_events, part_events}
use Rattle.dh_sound.specs.Trails.{ArmsWithin, EachAccess}
use Rattle.dh_tree.specs.Seen.{terms}
use Rattle.dh_tree.specs.ViewOffsets.{offsets_of}

pub each_both : (P : SourceAccess → Type 0) (es fs : List SourceEvent) → EachAccess P es → EachAccess P fs → EachAccess P (es ++ fs)
each_both P [] fs a b = b
each_both P (accesses x ∷ es) fs a b = (a.0, each_both P es fs a.1 b)
each_both P (assigned x ∷ es) fs a b = each_both P es fs a b

pub each_so : (P Q : SourceAccess → Type 0) (es : List SourceEvent) → ((a : SourceAccess) → P a → Q a) → EachAccess P es → EachAccess Q es
each_so P Q [] f a = tt
each_so P Q (accesses x ∷ es) f a = (f x a.0, each_so P Q es f a.1)
each_so P Q (assigned x ∷ es) f a = each_so P Q es f a

pub arms_within : (low high low' high' : ℕ) (arms : List Arm) → low' ≤ low → high ≤ high' → ArmsWithin low high arms → ArmsWithin low' high' arms
arms_within low high low' high' [] l h a = tt
arms_within low high low' high' (x ∷ arms) l h a = let u = a.0.0 in let w = a.0.1 in ((omega (arith, l, u), omega (arith, h, w)), arms_within low high low' high' arms l h a.1)

-- an access stands in these arms and loops, and in further arms of commands with numbers within, and further loops
pub record StandsWithin (r : Around) (low high : ℕ) (a : SourceAccess) : Type 0 where
  pub arms : List Arm
  pub loops : List Counter
  pub arms_are : a.site.arms ≡ r.arms ++ arms
  pub loops_are : a.site.loops ≡ r.loops ++ loops
  pub within : ArmsWithin low high arms

here_stands : (r : Around) (id low high : ℕ) (place : Place) (entity : Option ℕ) (e : Element) (w : Bool) → StandsWithin r low high (record { place = place; entity = entity; element = e; writes = w; site = site_of r id })
here_stands r id low high place entity e w = record { arms = []; loops = []; arms_are = sym (append-nil r.arms); loops_are = sym (append-nil r.loops); within = tt }

module _ (r : Around) (id low high : ℕ) where
  mutual
    pub term_stands : (t : Term) → EachAccess (StandsWithin r low high) (source_term_events (site_of r id) t)
    term_stands (term place k (number negative x)) = tt
    term_stands (term place k (truth_value x)) = tt
    term_stands (term place k (named x)) = tt
    term_stands (term place k (accessed x ts)) = each_both _ (source_terms_events (site_of r id) ts) _ (terms_stand ts) (here_stands r id low high place _ _ _, tt)
    term_stands (term place k (in_bank x bank at t)) = each_both _ (source_term_events (site_of r id) t) _ (term_stands t) (here_stands r id low high place _ _ _, tt)
    term_stands (term place k (applied o l m)) = each_both _ (source_term_events (site_of r id) l) _ (term_stands l) (term_stands m)
    term_stands (term place k (converted t to)) = term_stands t

    pub terms_stand : (ts : Terms) → EachAccess (StandsWithin r low high) (source_terms_events (site_of r id) ts)
    terms_stand no_terms = tt
    terms_stand (term_then t ts) = each_both _ (source_term_events (site_of r id) t) _ (term_stands t) (terms_stand ts)

  pub maybe_stands : (t : Option Term) → EachAccess (StandsWithin r low high) (maybe_events (site_of r id) t)
  maybe_stands None = tt
  maybe_stands (Some t) = term_stands t

  pub write_stands : (t : Term) → EachAccess (StandsWithin r low high) (write_events (site_of r id) t)
  write_stands (term place k (accessed x ts)) = each_both _ (source_terms_events (site_of r id) ts) _ (terms_stand ts) (here_stands r id low high place _ _ _, tt)
  write_stands (term place k (in_bank x bank at t)) = each_both _ (source_term_events (site_of r id) t) _ (term_stands t) (here_stands r id low high place _ _ _, tt)
  write_stands (term place k (number negative x)) = tt
  write_stands (term place k (truth_value x)) = tt
  write_stands (term place k (named x)) = tt
  write_stands (term place k (applied o l m)) = each_both _ (source_term_events (site_of r id) l) _ (term_stands l) (term_stands m)
  write_stands (term place k (converted t to)) = term_stands t

  -- what stands in an arm of the command stands round it, too
  pub arm_stands : (first : Bool) (lo hi : ℕ) (a : SourceAccess) → low ≤ id → id < high → low ≤ lo → hi ≤ high → StandsWithin (in_arm r id first) lo hi a → StandsWithin r low high a
  arm_stands first lo hi a l h u w s = record {
    arms = record { command = id; first = first } ∷ s.arms;
    loops = s.loops;
    arms_are = s.arms_are ∙ append_assoc r.arms (record { command = id; first = first } ∷ []) s.arms;
    loops_are = s.loops_are;
    within = ((l, h), arms_within lo hi low high s.arms u w s.within);
  }

wider_stands : (r : Around) (lo hi low high : ℕ) → low ≤ lo → hi ≤ high → (a : SourceAccess) → StandsWithin r lo hi a → StandsWithin r low high a
wider_stands r lo hi low high u w a s = record { arms = s.arms; loops = s.loops; arms_are = s.arms_are; loops_are = s.loops_are; within = arms_within lo hi low high s.arms u w s.within }

loop_stands : (r : Around) (c : Counter) (lo hi low high : ℕ) → low ≤ lo → hi ≤ high → (a : SourceAccess) → StandsWithin (in_loop r c) lo hi a → StandsWithin r low high a
loop_stands r c lo hi low high u w a s = by (nat_lt 1 c.factor) s
  where
    by : (t : Bool) → StandsWithin (if t then record { arms = r.arms; loops = r.loops ++ c ∷ [] } else r) lo hi a → StandsWithin r low high a
    by true s = record { arms = s.arms; loops = c ∷ s.loops; arms_are = s.arms_are; loops_are = s.loops_are ∙ append_assoc r.loops (c ∷ []) s.loops; within = arms_within lo hi low high s.arms u w s.within }
    by false s = wider_stands r lo hi low high u w a s

mutual
  pub action_stands : (r : Around) (m : ℕ) (a : Action) → IsNumbered m a → EachAccess (StandsWithin r m (m + commands_in a)) (events r a)
  action_stands r m (action id place f) h = subst (λ (i : ℕ). EachAccess (StandsWithin r m (m + suc (commands_inside f))) (command_events r (site_of r i) f)) (sym h.0) (form_stands r m (m + suc (commands_inside f)) m f h.1 (omega arith) (omega arith))

  form_stands : (r : Around) (low high m : ℕ) (f : ActionForm) → IsNumberedInside (suc m) f → low ≤ m → m + suc (commands_inside f) ≤ high → EachAccess (StandsWithin r low high) (command_events r (site_of r m) f)
  form_stands r low high m (lets name declared value) h l u = each_both _ (maybe_events (site_of r m) value) _ (maybe_stands r m low high value) tt
  form_stands r low high m (lets_memory name shape shape_places value) h l u = tt
  form_stands r low high m (views name parent form) h l u = terms_stand r m low high (terms (offsets_of form))
  form_stands r low high m (assigns target value) h l u = each_both _ (source_term_events (site_of r m) value) _ (term_stands r m low high value) tt
  form_stands r low high m (stores target value) h l u = each_both _ (source_term_events (site_of r m) value) _ (term_stands r m low high value) (write_stands r m low high target)
  form_stands r low high m (reduces target op value) h l u = each_both _ (source_term_events (site_of r m) value) _ (term_stands r m low high value) tt
  form_stands r low high m (calls function arguments) h l u = tt
  form_stands r low high m (blocks body) h l u = each_so _ _ (groups_events r body) (λ a s. wider_stands r (suc m) (suc m + commands_in_groups body) low high (omega (arith, l)) (omega (arith, u)) a s) (groups_stand r (suc m) body h)
  form_stands r low high m (decides test chosen other) h l u =
      each_both _ (source_term_events (site_of r m) test) _ (term_stands r m low high test)
      (each_both _ (events (in_arm r m true) chosen) _
      (each_so _ _ (events (in_arm r m true) chosen) (λ a s. arm_stands r m low high true (suc m) (suc m + commands_in chosen) a l (omega (arith, u)) (omega (arith, l)) (omega (arith, u)) s) (action_stands (in_arm r m true) (suc m) chosen h.0))
      (each_so _ _ (other_events (in_arm r m false) other) (λ a s. arm_stands r m low high false (suc m + commands_in chosen) (suc m + commands_in chosen + commands_in_other other) a l (omega (arith, u)) (omega (arith, l)) (omega (arith, u)) s) (other_stands (in_arm r m false) (suc m + commands_in chosen) other h.1)))
  form_stands r low high m (repeats test body) h l u =
      each_both _ (source_term_events (site_of r m) test) _ (term_stands r m low high test)
      (each_so _ _ (events r body) (λ a s. wider_stands r (suc m) (suc m + commands_in body) low high (omega (arith, l)) (omega (arith, u)) a s) (action_stands r (suc m) body h))
  form_stands r low high m (counts iterator declared lo hi factor body combine combine_place) h l u =
      each_both _ (events (in_loop r (loop_of iterator lo hi factor)) body) _
      (each_so _ _ (events (in_loop r (loop_of iterator lo hi factor)) body) (λ a s. loop_stands r (loop_of iterator lo hi factor) (suc m) (suc m + commands_in body) low high (omega (arith, l)) (omega (arith, u)) a s)
      (action_stands (in_loop r (loop_of iterator lo hi factor)) (suc m) body h.0))
      (each_so _ _ (other_events (in_loop r (loop_of iterator lo hi factor)) combine)
      (λ a s. loop_stands r (loop_of iterator lo hi factor) (suc m + commands_in body) (suc m + commands_in body + commands_in_other combine) low high (omega (arith, l)) (omega (arith, u)) a s)
      (other_stands (in_loop r (loop_of iterator lo hi factor)) (suc m + commands_in body) combine h.1))

  pub other_stands : (r : Around) (m : ℕ) (o : MaybeAction) → IsNumberedOther m o → EachAccess (StandsWithin r m (m + commands_in_other o)) (other_events r o)
  other_stands r m no_action h = tt
  other_stands r m (one_action a) h = action_stands r m a h

  pub groups_stand : (r : Around) (m : ℕ) (gs : Groups) → AreNumberedGroups m gs → EachAccess (StandsWithin r m (m + commands_in_groups gs)) (groups_events r gs)
  groups_stand r m no_groups h = tt
  groups_stand r m (group_then part rest) h =
      each_both _ (part_events r part) _
      (each_so _ _ (part_events r part) (λ a s. wider_stands r m (m + commands_in_part part) m (m + (commands_in_part part + commands_in_groups rest)) (omega arith) (omega arith) a s) (part_stands r m part h.0))
      (each_so _ _ (groups_events r rest) (λ a s. wider_stands r (m + commands_in_part part) (m + commands_in_part part + commands_in_groups rest) m (m + (commands_in_part part + commands_in_groups rest)) (omega arith) (omega arith) a s) (groups_stand r (m + commands_in_part part) rest h.1))

  pub part_stands : (r : Around) (m : ℕ) (p : Actions) → AreNumbered m p → EachAccess (StandsWithin r m (m + commands_in_part p)) (part_events r p)
  part_stands r m no_actions h = tt
  part_stands r m (action_then a rest) h =
      each_both _ (events r a) _
      (each_so _ _ (events r a) (λ x s. wider_stands r m (m + commands_in a) m (m + (commands_in a + commands_in_part rest)) (omega arith) (omega arith) x s) (action_stands r m a h.0))
      (each_so _ _ (part_events r rest) (λ x s. wider_stands r (m + commands_in a) (m + commands_in a + commands_in_part rest) m (m + (commands_in a + commands_in_part rest)) (omega arith) (omega arith) x s) (part_stands r (m + commands_in a) rest h.1))
