-- Which job a list of words names (this project's table of jobs; four are built).
use Rattle.std.specs.Prelude.{ℕ, ◌==◌, ◌&&◌, not, Bool, true, false, if◌then◌else◌, nat_le, List, [], ◌∷◌, map, codes, decimal, Option, Some, None, String, string_bytes}
use Rattle.std.specs.declared.alloc.Global.{Global}
use Rattle.std.specs.Str.{bytes_eq}
use Rattle.std.specs.Str.Parse.{digits_value}
use Rattle.dh_app.specs.declared.words.Job.{Job}
use Rattle.dh_app.specs.declared.words.Job.TheVariants.{Check, Lower, Interpret, Simulate}

-- the bytes of each word
abbrev pub words_seen : List (String Global) → List (List ℕ)
words_seen words = map string_bytes words

-- a word that can name a file: not empty, and it does not begin with `-`
abbrev pub is_file_word : List ℕ → Bool
is_file_word [] = false
is_file_word (b ∷ bs) = not (b == 45)

-- the steps or clocks that a run may be given, and those that it is given where the words do not say
abbrev pub most_steps : ℕ
most_steps = 1000000000000

abbrev pub usual_steps : ℕ
usual_steps = 1000000

abbrev pub usual_clocks : ℕ
usual_clocks = 10000000

-- the number of steps or clocks that a word writes, in decimal and without a leading zero
unfoldable pub steps_in_word : List ℕ → Option ℕ
steps_in_word word = if nat_le (digits_value 10 word) most_steps && bytes_eq word (decimal (digits_value 10 word)) then Some (digits_value 10 word) else None

-- a word begins neither with `+` nor with `0` before something else
abbrev pub is_plain_word : List ℕ → Bool
is_plain_word [] = true
is_plain_word (b ∷ []) = not (b == 43)
is_plain_word (b ∷ (c ∷ bs)) = not (b == 43) && not (b == 48)

-- `check FILE` and `lower FILE`
abbrev pub over_file : List ℕ → Option Job
over_file command = if bytes_eq command (codes "check") then Some (Check 1) else (if bytes_eq command (codes "lower") then Some (Lower 1) else None)

-- `interpret FILE DATA` for these steps
abbrev pub interpret_for : (unchecked : Bool) → Option ℕ → Option Job
interpret_for unchecked None = None
interpret_for unchecked (Some steps) = Some (Interpret 1 2 steps unchecked)

-- the options of `interpret`, each at most once and in any order: `--steps N` and `--unchecked`
abbrev pub interpret_with : (options : List (List ℕ)) → Option Job
interpret_with [] = interpret_for false (Some usual_steps)
interpret_with (a ∷ []) = if bytes_eq a (codes "--unchecked") then interpret_for true (Some usual_steps) else None
interpret_with (a ∷ (b ∷ [])) = if bytes_eq a (codes "--steps") then interpret_for false (steps_in_word b) else None
interpret_with (a ∷ (b ∷ (c ∷ []))) =
    if bytes_eq a (codes "--unchecked") && bytes_eq b (codes "--steps") then interpret_for true (steps_in_word c)
    else (if bytes_eq a (codes "--steps") && bytes_eq c (codes "--unchecked") then interpret_for true (steps_in_word b) else None)
interpret_with _ = None

-- `simulate FILE DATA` for these clocks
abbrev pub simulate_for : Option ℕ → Option Job
simulate_for None = None
simulate_for (Some clocks) = Some (Simulate 1 2 clocks)

-- the options of `simulate`: `--clocks N`, at most once
abbrev pub simulate_with : (options : List (List ℕ)) → Option Job
simulate_with [] = simulate_for (Some usual_clocks)
simulate_with (a ∷ (b ∷ [])) = if bytes_eq a (codes "--clocks") then simulate_for (steps_in_word b) else None
simulate_with _ = None

abbrev pub over_data : (command : List ℕ) → (options : List (List ℕ)) → Option Job
over_data command options =
    if bytes_eq command (codes "simulate") then simulate_with options else (if bytes_eq command (codes "interpret") then interpret_with options else None)

abbrev pub job_of : List (List ℕ) → Option Job
job_of (command ∷ (file ∷ (data_ ∷ options))) = if is_file_word file && is_file_word data_ then over_data command options else None
job_of (command ∷ (file ∷ [])) = if is_file_word file then over_file command else None
job_of _ = None
