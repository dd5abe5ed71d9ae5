-- What activations share is only added to: output goes on from what it was, and no fewer activations were open at once.
use Rattle.std.proofs.Common.{refl, sym, ap, ◌∙◌, ℕ, ◌≤◌, List, [], ◌++◌, append_assoc, append-nil, le_refl, le_trans}
use Rattle.std.proofs.Math.Nat.{le-max_left}
use Rattle.ec_types.specs.Meaning.State.{Site, Core, depth, opened}
use Rattle.ec_types.specs.Meaning.Laws.{Begins}

begins_trans : (xs ys zs : List ℕ) → Begins xs ys → Begins ys zs → Begins xs zs
begins_trans xs ys zs a b = (a.0 ++ b.0, sym (append_assoc xs a.0 b.0) ∙ ap (λ l. l ++ b.0) a.1 ∙ b.1)

pub record Grown (xs : List ℕ) (m : ℕ) (ys : List ℕ) (n : ℕ) : Type 0 where
  pub output : Begins xs ys
  pub most : m ≤ n

abbrev pub Grows : Core → Core → Type 0
Grows c d = Grown c.output c.most d.output d.most

pub grows_refl : (c : Core) → Grows c c
grows_refl c = record { output = ([], append-nil c.output); most = le_refl c.most }

pub grows_trans : (c d e : Core) → Grows c d → Grows d e → Grows c e
grows_trans c d e a b =
    record { output = begins_trans c.output d.output e.output a.output b.output; most = le_trans a.most b.most }

pub grows_printed : (c : Core) (bytes : List ℕ) → Grows c (record c { output = c.output ++ bytes })
grows_printed c bytes = record { output = (bytes, refl); most = le_refl c.most }

pub grows_opened : (s : Site) (c : Core) → Grows c (opened s c)
grows_opened s c = record { output = ([], append-nil c.output); most = le-max_left c.most (depth c.path) }
