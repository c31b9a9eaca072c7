-- The words that a job names are there: a job is over the words 1 and 2 at most, and the list has them.
use Rattle.std.proofs.Common.{◌≡◌, ℕ, ◌<◌, ◌≤◌, ◌&&◌, Bool, true, false, if◌then◌else◌, List, [], ◌∷◌, length, map, get_or, codes, Option, Some, None, sym, ap, subst, zero, suc, arith}
use Rattle.std.specs.Str.{bytes_eq}
use Rattle.std.proofs.lemmas.List.{length-map}
use Rattle.dh_app.specs.Words.{is_file_word, usual_steps, usual_clocks, steps_in_word, over_file, interpret_for, interpret_with, simulate_for, simulate_with, over_data, job_of}
use Rattle.dh_app.specs.Asking.{file_at, data_at}
use Rattle.dh_app.specs.declared.words.Job.{Job}
use Rattle.dh_app.specs.declared.words.Job.TheVariants.{Check, Lower, Interpret, Simulate}

-- the word of a list at a place, by its view
pub word_is : {S : Type 0} (view : S → List ℕ) (ws : List S) (k : ℕ) (w : S) → k < length ws → w ≡ get_or ws k w → get_or (map view ws) k [] ≡ view w
word_is view [] k w l e = absurd (let z : k < 0 = l in omega arith)
word_is view (x ∷ xs) zero w l e = ap view (sym e)
word_is view (x ∷ xs) (suc k) w l e = word_is view xs k w (let z : suc k < suc (length xs) = l in omega arith) e

-- the places that a job names are below so many words
abbrev Within : Job → ℕ → Type 0
Within (Check file) n = file < n
Within (Lower file) n = file < n
Within (Interpret file data_ steps unchecked) n = (file < n) × (data_ < n)
Within (Simulate file data_ clocks) n = (file < n) × (data_ < n)

-- whatever job it is, if it is one
abbrev WithinAll : Option Job → ℕ → Type 0
WithinAll None n = Unit {0}
WithinAll (Some j) n = Within j n

either : (b : Bool) (x y : Option Job) (n : ℕ) → WithinAll x n → WithinAll y n → WithinAll (if b then x else y) n
either true x y n h k = h
either false x y n h k = k

over_one : (command : List ℕ) (n : ℕ) → 2 ≤ n → WithinAll (over_file command) n
over_one command n l =
    either (bytes_eq command (codes "check")) _ _ n (omega (arith, l)) (either (bytes_eq command (codes "lower")) _ _ n (omega (arith, l)) tt)

for_steps : (unchecked : Bool) (steps : Option ℕ) (n : ℕ) → 3 ≤ n → WithinAll (interpret_for unchecked steps) n
for_steps unchecked None n l = tt
for_steps unchecked (Some steps) n l = (omega (arith, l), omega (arith, l))

with_options : (options : List (List ℕ)) (n : ℕ) → 3 ≤ n → WithinAll (interpret_with options) n
with_options [] n l = for_steps false (Some usual_steps) n l
with_options (a ∷ []) n l = either (bytes_eq a (codes "--unchecked")) _ _ n (for_steps true (Some usual_steps) n l) tt
with_options (a ∷ (b ∷ [])) n l = either (bytes_eq a (codes "--steps")) _ _ n (for_steps false (steps_in_word b) n l) tt
with_options (a ∷ (b ∷ (c ∷ []))) n l =
    either (bytes_eq a (codes "--unchecked") && bytes_eq b (codes "--steps")) _ _ n (for_steps true (steps_in_word c) n l)
    (either (bytes_eq a (codes "--steps") && bytes_eq c (codes "--unchecked")) _ _ n (for_steps true (steps_in_word b) n l) tt)
with_options (a ∷ (b ∷ (c ∷ (d ∷ more)))) n l = tt

for_clocks : (clocks : Option ℕ) (n : ℕ) → 3 ≤ n → WithinAll (simulate_for clocks) n
for_clocks None n l = tt
for_clocks (Some clocks) n l = (omega (arith, l), omega (arith, l))

clock_options : (options : List (List ℕ)) (n : ℕ) → 3 ≤ n → WithinAll (simulate_with options) n
clock_options [] n l = for_clocks (Some usual_clocks) n l
clock_options (a ∷ []) n l = tt
clock_options (a ∷ (b ∷ [])) n l = either (bytes_eq a (codes "--clocks")) _ _ n (for_clocks (steps_in_word b) n l) tt
clock_options (a ∷ (b ∷ (c ∷ more))) n l = tt

over_two : (command : List ℕ) (options : List (List ℕ)) (n : ℕ) → 3 ≤ n → WithinAll (over_data command options) n
over_two command options n l =
    either (bytes_eq command (codes "simulate")) _ _ n (clock_options options n l)
    (either (bytes_eq command (codes "interpret")) _ _ n (with_options options n l) tt)

within_all : (ws : List (List ℕ)) → WithinAll (job_of ws) (length ws)
within_all [] = tt
within_all (a ∷ []) = tt
within_all (a ∷ (b ∷ [])) = either (is_file_word b) _ _ 2 (over_one a 2 (omega arith)) tt
within_all (a ∷ (b ∷ (c ∷ ws))) =
    either (is_file_word b && is_file_word c) _ _ (length (a ∷ (b ∷ (c ∷ ws)))) (over_two a ws (length (a ∷ (b ∷ (c ∷ ws)))) (omega arith)) tt

within : (ws : List (List ℕ)) (j : Job) → job_of ws ≡ Some j → Within j (length ws)
within ws j e = subst (λ (o : Option Job). WithinAll o (length ws)) e (within_all ws)

-- the place of its program, and that of its data
pub file_within : {S : Type 0} (view : S → List ℕ) (ws : List S) (j : Job) → job_of (map view ws) ≡ Some j → file_at j < length ws
file_within view ws (Check file) job = omega (arith, within (map view ws) (Check file) job, length-map ws view)
file_within view ws (Lower file) job = omega (arith, within (map view ws) (Lower file) job, length-map ws view)
file_within view ws (Interpret file data_ steps unchecked) job =
    let both = within (map view ws) (Interpret file data_ steps unchecked) job in
    omega (arith, both.0, length-map ws view)
file_within view ws (Simulate file data_ clocks) job =
    let both = within (map view ws) (Simulate file data_ clocks) job in
    omega (arith, both.0, length-map ws view)

pub data_within : {S : Type 0} (view : S → List ℕ) (ws : List S) (j : Job) (d : ℕ) → job_of (map view ws) ≡ Some j → data_at j ≡ Some d → d < length ws
data_within view ws (Check file) d job e = cc
data_within view ws (Lower file) d job e = cc
data_within view ws (Interpret file data_ steps unchecked) d job e =
    let both = within (map view ws) (Interpret file data_ steps unchecked) job in
    let same : data_ ≡ d = cc in
    omega (arith, both.1, same, length-map ws view)
data_within view ws (Simulate file data_ clocks) d job e =
    let both = within (map view ws) (Simulate file data_ clocks) job in
    let same : data_ ≡ d = cc in
    omega (arith, both.1, same, length-map ws view)
