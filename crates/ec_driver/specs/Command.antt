-- Which words are a command.
use Rattle.std.specs.Prelude.{◌≡◌, ℕ, ◌==◌, ◌&&◌, not, nat_lt, Bool, true, false, if◌then◌else◌, List, [], ◌∷◌, length, codes, slice_index, Option, Some, None, option_map, nat_le, Result, Ok, Err, nat_eq, ℤ, pos}
use Rattle.std.specs.List.{ends_with}
use Rattle.std.specs.Cmp.Lexicographic.{pointwise}
use Rattle.ec_base.specs.declared.limits.TheConstants.{MAX_PARAMETERS, MAX_STEPS}
use Rattle.ec_driver.specs.declared.command.Command.{Command}
use Rattle.ec_driver.specs.declared.command.Command.TheVariants.{Check, Print, Means, Run}
use Rattle.ec_driver.specs.declared.command.RunWords.{RunWords}
use Rattle.ec_driver.specs.declared.command.WordsRefusal.{WordsRefusal}
use Rattle.ec_lex.specs.Numbers.{number_value}

abbrev pub same : List ℕ → List ℕ → Bool
same = pointwise nat_eq

-- a word that begins with `-` and is more than that
abbrev pub is_option : List ℕ → Bool
is_option w = (slice_index w 0 == 45) && nat_lt 1 (length w)

-- a word may name a source: it isn't empty, no option, and doesn't end in `.tc`
abbrev pub is_file : List ℕ → Bool
is_file w = nat_lt 0 (length w) && not (is_option w) && not (ends_with nat_eq w (codes ".tc"))

-- the words of `run` with all that they leave out
abbrev pub run_of : List ℕ → RunWords
run_of file = record { file = file; args = []; nodes = 1; steps = MAX_STEPS; memory = false; journal = None }

abbrev pub no_command : Result Command WordsRefusal
no_command = Err (record {})

-- ---- arguments of main

-- one more number before others, if all of them are numbers
abbrev pub before : Option ℤ → Result (List ℤ) WordsRefusal → Result (List ℤ) WordsRefusal
before (Some n) (Ok ns) = Ok (n ∷ ns)
before first others = Err (record {})

-- the numbers that words are, decimals up to 2^63 - 1 without needless zeros, if all of them are
abbrev pub numbers : List (List ℕ) → Result (List ℤ) WordsRefusal
numbers [] = Ok []
numbers (w ∷ ws) = before (option_map pos (number_value w)) (numbers ws)

abbrev pub means_of : List ℕ → Result (List ℤ) WordsRefusal → Result Command WordsRefusal
means_of file (Err r) = no_command
means_of file (Ok args) = Ok (Means file args)

-- ---- commands

-- a command that takes no more words
abbrev pub alone : List (List ℕ) → Command → Result Command WordsRefusal
alone [] c = Ok c
alone (w ∷ ws) c = no_command

-- the command of this name for a file, with the words behind it
abbrev pub told_name : List ℕ → List ℕ → List (List ℕ) → Result Command WordsRefusal
told_name name file others =
    if same name (codes "check") then alone others (Check file)
    else (if same name (codes "print") then alone others (Print file)
    else (if same name (codes "run") then alone others (Run (run_of file))
    else (if same name (codes "means") && nat_le (length others) MAX_PARAMETERS then means_of file (numbers others)
    else no_command)))

-- the command that the words are
abbrev pub told_command : List (List ℕ) → Result Command WordsRefusal
told_command [] = no_command
told_command (r ∷ []) = no_command
told_command (r ∷ file ∷ others) = if is_file file then told_name r file others else no_command

-- the words are no command
abbrev pub IsNoCommand : List (List ℕ) → Type 0
IsNoCommand words = told_command words ≡ Err (record {})

-- the words are this command
abbrev pub IsCommand : List (List ℕ) → Command → Type 0
IsCommand words c = told_command words ≡ Ok c

-- some words give this command
abbrev pub IsGiven : Command → Type 0
IsGiven c = (words : List (List ℕ)) × (told_command words ≡ Ok c)

-- whether a command runs a program, for which it may wait
abbrev pub is_threaded : Command → Bool
is_threaded (Check file) = false
is_threaded (Print file) = false
is_threaded (Means file args) = false
is_threaded (Run r) = true
