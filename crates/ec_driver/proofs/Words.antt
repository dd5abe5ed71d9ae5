-- The words of a command.
use Rattle.std.proofs.Common.{◌≡◌, ℕ, Bool, true, false, List, [], ◌∷◌, ◌++◌, Result, Ok, Err, ℤ, if◌then◌else◌, ap, sym, ◌∙◌, codes, length, nat_le, ◌&&◌}
use Rattle.ec_base.specs.declared.limits.TheConstants.{MAX_PARAMETERS}
use Rattle.ec_driver.specs.declared.command.Command.{Command}
use Rattle.ec_driver.specs.declared.command.Command.TheVariants.{Check, Print, Run}
use Rattle.ec_driver.specs.declared.command.RunWords.{RunWords}
use Rattle.ec_driver.specs.declared.command.WordsRefusal.{WordsRefusal}
use Rattle.ec_driver.specs.Command.{alone, is_file, means_of, no_command, numbers, run_of, same, told_command, told_name}

-- numbers, and those behind them, if they are any
abbrev pub behind : List ℤ → Result (List ℤ) WordsRefusal → Result (List ℤ) WordsRefusal
behind ns (Ok more) = Ok (ns ++ more)
behind ns (Err r) = Err r

-- ---- words of a run

by_file : (file : List ℕ) (r : RunWords) → Run (run_of file) ≡ Run r → r ≡ run_of r.file
by_file file r h = let same : run_of file ≡ r = cc in sym same ∙ ap (λ z. run_of z.file) same

alone_is : (others : List (List ℕ)) (c d : Command) → alone others c ≡ Ok d → c ≡ d
alone_is [] c d h = cc
alone_is (w ∷ ws) c d h = absurd (cc)

no_run : (file : List ℕ) (args : Result (List ℤ) WordsRefusal) (r : RunWords) → means_of file args ≡ Ok (Run r) → ⊥
no_run file (Ok args) r h = cc
no_run file (Err e) r h = cc

by_name : (check print run means : Bool) (file : List ℕ) (others : List (List ℕ)) (r : RunWords) →
    (if check then alone others (Check file)
    else (if print then alone others (Print file)
    else (if run then alone others (Run (run_of file))
    else (if means then means_of file (numbers others) else no_command)))) ≡ Ok (Run r) → r ≡ run_of r.file
by_name true print run means file others r h = let clash = alone_is others (Check file) (Run r) h in absurd (cc)
by_name false true run means file others r h = let clash = alone_is others (Print file) (Run r) h in absurd (cc)
by_name false false true means file others r h = by_file file r (alone_is others (Run (run_of file)) (Run r) h)
by_name false false false true file others r h = absurd (no_run file (numbers others) r h)
by_name false false false false file others r h = absurd (cc)

named : (is : Bool) (name file : List ℕ) (others : List (List ℕ)) (r : RunWords) → (if is then told_name name file others else no_command) ≡ Ok (Run r) → r ≡ run_of r.file
named true name file others r h =
    by_name (same name (codes "check")) (same name (codes "print")) (same name (codes "run")) (same name (codes "means") && nat_le (length others) MAX_PARAMETERS)
    file others r h
named false name file others r h = absurd (cc)

-- a run has what its words leave out
pub given_run : (words : List (List ℕ)) (r : RunWords) → told_command words ≡ Ok (Run r) → r ≡ run_of r.file
given_run [] r h = absurd (cc)
given_run (name ∷ []) r h = absurd (cc)
given_run (name ∷ file ∷ others) r h = named (is_file file) name file others r h
