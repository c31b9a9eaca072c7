-- Which reads share a port with an earlier one: equal reads of one Straight phase. (Which reads share is
-- this project's choice.)
use Rattle.std.specs.Prelude.{ℕ, ◌==◌, ◌&&◌, ◌||◌, not, Bool, true, false, zero, suc, if◌then◌else◌, List, [], ◌∷◌, ◌++◌, Option, Some, None}
use Rattle.std.specs.List.{list_any}
use Rattle.dh_tree.specs.Kinds.{same_kind}
use Rattle.dh_value.specs.declared.kinds.Kind.{Kind}
use Rattle.dh_value.specs.declared.kinds.Kind.TheVariants as kind
use Rattle.dh_value.specs.declared.operators.Op.{Op}
use Rattle.dh_value.specs.declared.operators.Op.TheVariants as op
use Rattle.dh_meaning.specs.OnePhase.{in_one_phase}
use Rattle.dh_meaning.specs.Sites.{Arm}
use Rattle.dh_meets.specs.SourceEvents.{Element, with_indices, in_row, SourceAccess, SourceEvent, accesses, assigned, trace}
use Rattle.dh_tree.specs.Memories.{same_entity}
use Rattle.dh_tree.specs.PlainTrees.{Term, term, TermForm, number, truth_value, named, accessed, in_bank, applied, converted, Terms, no_terms, term_then, Program}

-- Structure.
abbrev pub same_truth : Bool → Bool → Bool
same_truth true b = b
same_truth false b = not b

abbrev pub same_maybe_kind : Option Kind → Option Kind → Bool
same_maybe_kind None None = true
same_maybe_kind (Some j) (Some k) = same_kind j k
same_maybe_kind None (Some k) = false
same_maybe_kind (Some j) None = false

abbrev pub number_of_op : Op → ℕ
number_of_op op.Add = 0
number_of_op op.Sub = 1
number_of_op op.Mul = 2
number_of_op op.And = 3
number_of_op op.Or = 4
number_of_op op.Xor = 5
number_of_op op.Shl = 6
number_of_op op.Shr = 7
number_of_op op.Lt = 8
number_of_op op.Gt = 9
number_of_op op.Le = 10
number_of_op op.Ge = 11
number_of_op op.Eq = 12
number_of_op op.Ne = 13
number_of_op op.Both = 14
number_of_op op.Either = 15

abbrev mutual
  -- Two expressions have one structure: they are equal, their places aside, with names by what they stand
  -- for. `-0` and `0` differ. (Kinds come from structure, so that expressions of one structure in a typed
  -- program have one kind.)
  pub alike : Term → Term → Bool
  alike (term _ j f) (term _ k g) = same_maybe_kind j k && alike_forms f g

  pub alike_forms : TermForm → TermForm → Bool
  alike_forms (number s m) (number t n) = same_truth s t && (m == n)
  alike_forms (truth_value a) (truth_value b) = same_truth a b
  alike_forms (named r) (named q) = same_entity r.entity q.entity
  alike_forms (accessed r ts) (accessed q us) = same_entity r.entity q.entity && all_alike ts us
  alike_forms (in_bank r bank _ t) (in_bank q other _ u) = same_entity r.entity q.entity && ((bank == other) && alike t u)
  alike_forms (applied o a b) (applied p c d) = (number_of_op o == number_of_op p) && (alike a c && alike b d)
  alike_forms (converted a j) (converted b k) = same_kind j k && alike a b
  alike_forms _ _ = false

  pub all_alike : Terms → Terms → Bool
  all_alike no_terms no_terms = true
  all_alike (term_then t ts) (term_then u us) = alike t u && all_alike ts us
  all_alike _ _ = false

abbrev pub alike_elements : Element → Element → Bool
alike_elements (with_indices ts) (with_indices us) = all_alike ts us
alike_elements (in_row bank t) (in_row other u) = (bank == other) && alike t u
alike_elements (with_indices ts) (in_row bank t) = false
alike_elements (in_row bank t) (with_indices ts) = false

-- Variables.
abbrev mutual
  -- whether an expression mentions what a name stands for
  pub mentions : Option ℕ → Term → Bool
  mentions entity (term _ _ f) = form_mentions entity f

  pub form_mentions : Option ℕ → TermForm → Bool
  form_mentions entity (named r) = same_entity r.entity entity
  form_mentions entity (accessed r ts) = terms_mention entity ts
  form_mentions entity (in_bank r bank _ t) = mentions entity t
  form_mentions entity (applied o a b) = mentions entity a || mentions entity b
  form_mentions entity (converted a k) = mentions entity a
  form_mentions entity (number negative n) = false
  form_mentions entity (truth_value value) = false

  pub terms_mention : Option ℕ → Terms → Bool
  terms_mention entity no_terms = false
  terms_mention entity (term_then t ts) = mentions entity t || terms_mention entity ts

abbrev pub element_mentions : Option ℕ → Element → Bool
element_mentions entity (with_indices ts) = terms_mention entity ts
element_mentions entity (in_row bank t) = mentions entity t

-- one of these events assigns to a variable that the indices mention
abbrev pub reassigned : Element → List SourceEvent → Bool
reassigned element [] = false
reassigned element (accesses a ∷ hs) = reassigned element hs
reassigned element (assigned entity ∷ hs) = element_mentions entity element || reassigned element hs

-- Arms.
abbrev pub same_arm : Arm → Arm → Bool
same_arm a b = (a.command == b.command) && same_truth a.first b.first

-- every arm of the first stands among those of the second
abbrev pub all_arms_of : List Arm → List Arm → Bool
all_arms_of [] later = true
all_arms_of (a ∷ arms) later = list_any (λ b. same_arm a b) later && all_arms_of arms later

-- Sharing.
-- both read one memory by indices of one structure
abbrev pub equal_reads : SourceAccess → SourceAccess → Bool
equal_reads a b = (not a.writes && not b.writes) && (same_entity a.entity b.entity && alike_elements a.element b.element)

-- the read b of number k shares the read a of number j, with these events between them
abbrev pub shares_with : Program → (j : ℕ) → SourceAccess → (between : List SourceEvent) → (k : ℕ) → SourceAccess → Bool
shares_with p j a between k b =
    (equal_reads a b && in_one_phase p j k)
    && (all_arms_of a.site.arms b.site.arms && not (reassigned b.element between))

-- the first among these events, numbered from j on, that the access b of number k shares
abbrev pub share_among : Program → (j : ℕ) → List SourceEvent → (k : ℕ) → SourceAccess → Option ℕ
share_among p j [] k b = None
share_among p j (accesses a ∷ es) k b = if shares_with p j a es k b then Some j else share_among p (suc j) es k b
share_among p j (assigned entity ∷ es) k b = share_among p j es k b

-- of the access that comes so many accesses behind these events, and has the number k
abbrev pub share_in : Program → (before : List SourceEvent) → List SourceEvent → (k behind : ℕ) → Option ℕ
share_in p before [] k behind = None
share_in p before (assigned entity ∷ es) k behind = share_in p (before ++ assigned entity ∷ []) es k behind
share_in p before (accesses a ∷ es) k zero = share_among p 0 before k a
share_in p before (accesses a ∷ es) k (suc behind) = share_in p (before ++ accesses a ∷ []) es k behind

-- the read that the read of this number shares, if it shares one
abbrev pub shared : Program → (number : ℕ) → Option ℕ
shared p k = share_in p [] (trace p) k k
