-- A run that the loop made is one of the text of its program.
use Rattle.std.proofs.Common.{◌≡◌, inl, inr, ℕ, List, [], refl, ap, sym, subst, true, Some, arith}
use Rattle.ec_base.specs.declared.limits.TheConstants.{MAX_STEPS}
use Rattle.ec_core.specs.declared.code.Code.{Code}
use Rattle.ec_core.specs.Run.{run, start, HasEnded}
use Rattle.ec_core.specs.Valid.{valid}
use Rattle.ec_small.specs.declared.tree.Program.{Program}
use Rattle.ec_small.specs.Sound.{Sound}
use Rattle.ec_split.specs.Owes.{Owes}
use Rattle.ec_split.specs.Cut.{code_of}
use Rattle.ec_agree.specs.Agree.{EndedRunsAgree, EveryRunAgrees, EveryRunGoesOn, UnendedRunsGoOn}
use Rattle.ec_driver.specs.declared.command.RunWords.{RunWords}
use Rattle.ec_driver.specs.declared.drive.Progress.{Progress}
use Rattle.ec_driver.specs.Command.{run_of}
use Rattle.ec_driver.specs.Drive.{IsProgress, IsStopped, kept_run}
use Rattle.ec_driver.specs.Kept.{IsSpent, IsWithin, RunsTo, choices}
use Rattle.ec_driver.specs.Source.{Accepts}
use Rattle.ec_driver.proofs.Units.{each_within, eu_is, su_is}

-- what is known of the code of a program, and of the loop over its steps
pub record IsMadeOf (p : Program) (code : Code) (x : Progress) : Type 0 where
  pub sound : Sound p
  pub owes : Owes p code
  pub valid : valid code ≡ true
  pub cut : code ≡ code_of p
  pub progress : IsProgress code x
  pub stopped : IsStopped x

module _ (p : Program) (code : Code) (x : Progress) (c : RunWords) (given : c ≡ run_of c.file) (made : IsMadeOf p code x) where
  steps : c.steps ≡ MAX_STEPS
  steps = ap (λ (z : RunWords). z.steps) given

  spent : (HasEnded x.world.nodes → ⊥) → IsStopped x → IsSpent (kept_run c x.list)
  spent unended (inl e) = absurd (unended e)
  spent unended (inr (inl e)) = (0, omega (arith, eu_is x.list made.progress.own, made.progress.eu, made.progress.eu_fits, e, steps))
  spent unended (inr (inr e)) = (1, omega (arith, su_is x.list made.progress.own, made.progress.su, made.progress.su_fits, e, steps))

  within : IsWithin c (kept_run c x.list)
  within = record {
    nodes = refl;
    steps = refl;
    units = each_within c.steps x.list made.progress.own (omega (arith, made.progress.eu, made.progress.eu_fits, steps)) (omega (arith, made.progress.su, made.progress.su_fits, steps));
    stamps = made.progress.stamps;
  }

  pub runs_to : (text : List ℕ) → EndedRunsAgree → UnendedRunsGoOn → Accepts text p → RunsTo c text code (kept_run c x.list) x.world.nodes
  runs_to text ends goes accepts =
      let every : EveryRunAgrees p code = subst (EveryRunAgrees p) (sym made.cut) (ends p made.sound) in
      record {
        program = p;
        accepts = accepts;
        code_of = record {
          valid = made.valid;
          owes = made.owes;
          agrees = every [] (choices x.list) x.world.nodes made.progress.run;
          every_run_agrees = every;
          every_run_goes_on = subst EveryRunGoesOn (sym made.cut) (goes p made.sound);
        };
        within = within;
        leads = subst (λ (z : RunWords). run code (choices x.list) (start code z.nodes z.args) ≡ Some x.world.nodes) (sym given) made.progress.run;
        spent = λ unended. spent unended made.stopped;
      }
