-- What was written shows an ending.
use Rattle.std.proofs.Common.{◌≡◌, ◌⊎◌, inl, inr, ℕ, List, [], ◌∷◌, Option, Some, None, refl, ap, sym, subst, append-nil}
use Rattle.std.specs.Io.KnownBytes.{Appends}
use Rattle.ec_edge.specs.Fault.{Rose}
use Rattle.ec_edge.specs.Sink.{SeenSink, Takes}
use Rattle.ec_driver.specs.declared.status.Report.{Report}
use Rattle.ec_driver.specs.declared.status.Status.{Status}
use Rattle.ec_driver.specs.declared.status.Status.TheVariants.{NoMemory, WriteFault}
use Rattle.ec_driver.specs.Ending.{IsShown, ending, joined, pieces_of}
use Rattle.ec_driver.specs.Status.{failed, kind_of}

-- ---- pieces

appends_nothing : (w : Option (List ℕ)) → Appends w w []
appends_nothing None = tt
appends_nothing (Some w) = sym (append-nil w)

pub takes_nothing : (piece : List ℕ) (sink : SeenSink) → piece ≡ [] → Takes piece sink sink
takes_nothing piece sink e = subst (λ p. Takes p sink sink) (sym e) (record { written = appends_nothing sink.written; faults = refl })

joined_pieces : (bytes : List ℕ) → joined (pieces_of bytes) ≡ bytes
joined_pieces [] = refl
joined_pieces (b ∷ bytes) = append-nil (b ∷ bytes)

-- no piece is put only where there are no bytes
no_bytes : (bytes : List ℕ) → pieces_of bytes ≡ [] → bytes ≡ []
no_bytes [] e = refl
no_bytes (b ∷ bytes) e = cc

-- ---- endings that could not be written

pub wants_or_breaks : Status → Type 0
wants_or_breaks s = (s ≡ NoMemory) ⊎ (s ≡ WriteFault)

module _ (report : Report) (output line : List ℕ) (out out_after err err_after : SeenSink) where
  -- the output was as it was, and memory was wanted
  pub wanted : (s : Status) → out_after ≡ out → (s ≡ NoMemory) ⊎ (s ≡ WriteFault) → (s ≡ WriteFault → Rose err.faults err_after.faults) →
      IsShown (ending report output line) (record report { status = s }) out out_after err err_after
  wanted s same either fault = record {
    run = refl;
    code = refl;
    delivers = λ plain. absurd (plain (fails s either));
    silent = λ e. same;
    unput = λ h e. same;
    fault = λ h. inl (fault h);
  }
    where
      fails : (s : Status) → (s ≡ NoMemory) ⊎ (s ≡ WriteFault) → kind_of s ≡ failed
      fails s (inl e) = ap kind_of e
      fails s (inr e) = ap kind_of e

  -- the output broke
  pub broken_output : Rose out.faults out_after.faults → (output ≡ [] → ⊥) → IsShown (ending report output line) (record report { status = WriteFault }) out out_after err err_after
  broken_output rose some = record {
    run = refl;
    code = refl;
    delivers = λ plain. absurd (plain refl);
    silent = λ e. absurd (some (no_bytes output e));
    unput = λ h e. let clash : WriteFault ≡ NoMemory = h in cc;
    fault = λ h. inr (rose, λ e. some (no_bytes output e));
  }

  -- the line could not be written
  pub unsaid : (s : Status) → (output ≡ [] → out_after ≡ out) → (line ≡ [] → ⊥) → (s ≡ NoMemory) ⊎ (s ≡ WriteFault) → (s ≡ WriteFault → Rose err.faults err_after.faults) →
      IsShown (ending report output line) (record report { status = s }) out out_after err err_after
  unsaid s silent some either fault = record {
    run = refl;
    code = refl;
    delivers = λ plain. absurd (plain (fails s either));
    silent = λ e. silent (no_bytes output e);
    unput = λ h e. absurd (some e);
    fault = λ h. inl (fault h);
  }
    where
      fails : (s : Status) → (s ≡ NoMemory) ⊎ (s ≡ WriteFault) → kind_of s ≡ failed
      fails s (inl e) = ap kind_of e
      fails s (inr e) = ap kind_of e

  -- all was written
  pub delivered : (report.status ≡ WriteFault → ⊥) → (report.status ≡ NoMemory → output ≡ []) → (output ≡ [] → out_after ≡ out) → Takes output out out_after → Takes line err err_after →
      IsShown (ending report output line) report out out_after err err_after
  delivered whole memory silent takes says = record {
    run = refl;
    code = refl;
    delivers = λ plain. record { status = refl; output = subst (λ b. Takes b out out_after) (sym (joined_pieces output)) takes; line = says };
    silent = λ e. silent (no_bytes output e);
    unput = λ h e. silent (memory h);
    fault = λ h. absurd (whole h);
  }
