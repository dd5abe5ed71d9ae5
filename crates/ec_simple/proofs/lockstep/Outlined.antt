-- The call of the function that a branch or body becomes does what the branch or body means.
use Rattle.std.proofs.Common.{◌≡◌, refl, sym, ap, ◌∙◌, subst, ℕ, zero, suc, ◌≤◌, ⊎_elim, true, false, List, ◌∷◌, ◌++◌, map, length, arith, true≢false}
use Rattle.ec_base.specs.declared.token.Span.{Span}
use Rattle.ec_simple.specs.declared.form.FuncKind.{FuncKind}
use Rattle.ec_simple.specs.declared.form.SFunc.{SFunc}
use Rattle.ec_simple.specs.Meaning.{called, calls, results, run, run_function, body, unset}
use Rattle.ec_simple.specs.Sound.{IsIn, SoundStmt}
use Rattle.ec_simple.specs.Statements.{LowStmt, index, inside, own, copied_in, copied_out, outlined, outlined_call, low_stmt}
use Rattle.ec_simple.specs.Uses.{Use, stmt_writes, declares}
use Rattle.ec_simple.proofs.lockstep.Alike.{Alike}
use Rattle.ec_simple.proofs.lockstep.Copies.{ins_in, reads_copied, writes_copied, outs_in, not_out}
use Rattle.ec_simple.proofs.lockstep.Frames.{Same, does_stay, together_staying}
use Rattle.ec_simple.proofs.lockstep.Functions.{Holds}
use Rattle.ec_simple.proofs.lockstep.Narrow.{narrow_stmt}
use Rattle.ec_simple.proofs.lockstep.Stages.{Setting, Stage, scope, Leaves, numbers_of, calls_on, Follows}
use Rattle.ec_simple.proofs.lockstep.Together.{Together, together_may, together_right, together_pure, together_enter}
use Rattle.ec_simple.proofs.lockstep.Used.{IsUsed, names}
use Rattle.ec_simple.proofs.lockstep.Variables.{Within, Agrees, in_front, in_back, in_either, not_both, index_numbers, copied, copied_apart, map_same, map_twice}
use Rattle.ec_types.specs.Meaning.Evaluation.{Caller, does, branch, branched}
use Rattle.ec_types.specs.Meaning.State.{Here, Core, With, Returns, Traps, Going, Out, Does, Vars, set_all}
use Rattle.ec_types.specs.Meaning.Tree.{Stmt}
use Rattle.ec_types.specs.Meaning.Values.{Val}

-- a branch or body doesn't return
results_alike : (call : Caller) (n : ℕ) (P : Vars → Vars → Type 0) (Q : Vars → List Val → Type 0) (xs : List ℕ)
    (vs : Vars) (k : ℕ) (x y : Out Vars) →
    ((a us : Vars) → P a us → Q a (map us xs)) → Alike false P k x y →
    Alike false Q k (branched false call true n vs x) (results xs y)
results_alike call n P Q xs vs k (With a, c, r) (With b, d, q) h s = (s.0, h a b s.1)
results_alike call n P Q xs vs k (Returns v, c, r) (Returns w, d, q) h s = absurd (true≢false (sym s.2))
results_alike call n P Q xs vs k (Traps t, c, r) (Traps u, d, q) h s = s
results_alike call n P Q xs vs k (Going, c, r) (Going, d, q) h s = s
results_alike call n P Q xs vs k x y h s = absurd s

module _ (here : Setting) where
  -- the code of a statement does what it means, wherever it stands
  abbrev pub Means : Stmt → Type 0
  Means x = (z : Stage here) → SoundStmt here.form.shapes (scope z) z.may z.sc x → Within (declares x) z.ns →
      (t g : ℕ) → z.v ≤ t → Holds here.form.funcs g (low_stmt (scope z) x t g).funcs →
      Follows z (Leaves z t) (does false here.call true here.n x) (low_stmt (scope z) x t g).code

module _ {here : Setting} where
  module _ (z : Stage here) (more : List Use) (x : Stmt) (sound : SoundStmt here.form.shapes (scope z) false z.sc x)
      (within : Within (declares x) z.ns)
      (header : (y : ℕ) → IsUsed y more → IsIn y z.sc) (means : Means here x) where
    abbrev ins : List ℕ
    ins = copied_in here.base more x

    abbrev outs : List ℕ
    outs = copied_out here.base x

    abbrev ns : List ℕ
    ns = own here.base more x

    abbrev changed : List ℕ
    changed = names (stmt_writes x) ++ declares x

    abbrev low_inside : ℕ → LowStmt
    low_inside g = low_stmt (inside (scope z) more x) x (length ns) (suc g)

    abbrev function : FuncKind → ℕ → SFunc
    function kind g = outlined (scope z) kind more x g (low_inside g)

    ins_here : Within ins z.sc
    ins_here = ins_in here.form.shapes (scope z) more x z.sc sound (λ y i. z.below y (z.inside y i)) header

    outs_here : Within outs ins
    outs_here = outs_in here.form.shapes (scope z) more x z.sc sound (λ y i. z.below y (z.inside y i)) header

    -- the function's own stage
    abbrev inner : (sn k : ℕ) → k ≤ here.bound → k ≤ sn → Stage here
    inner sn k most room = record {
      place = index ns;
      v = length ns;
      ns = ns;
      numbers = index_numbers ns;
      below = λ y i. ⊎_elim (λ j. z.below y (z.inside y (ins_here y j))) (λ j. z.below y (within y j))
          (in_either y ins (declares x) i);
      sc = ins;
      inside = λ y i. in_front y ins (declares x) i;
      may = false;
      sn = sn;
      k = k;
      most = most;
      room = room;
    }

    sound_inside : SoundStmt here.form.shapes (inside (scope z) more x) false ins x
    sound_inside =
        narrow_stmt here.form.shapes (scope z) (index ns) false z.sc ins x ins_here
        (reads_copied here.form.shapes (scope z) more x z.sc sound (λ y i. z.below y (z.inside y i)) header)
        (writes_copied here.form.shapes (scope z) more x z.sc sound (λ y i. z.below y (z.inside y i)) header)
        sound

    abbrev Copies : Vars → Vars → List Val → Type 0
    Copies vs ws ys = (ys ≡ map ws outs) × Same changed vs ws

    -- what is copied in agrees
    begun : (vs us : Vars) → Agrees z.place z.sc vs us → (first : Vars) →
        Agrees (index ns) ins vs (set_all (map (index ns) ins) (map us (map z.place ins)) first)
    begun vs us g first y i =
        g y (ins_here y i)
        ∙ sym (ap (λ ys. set_all (map (index ns) ins) ys first (index ns y)) (map_twice us z.place ins)
        ∙ copied (index ns) ns (length ns) (index_numbers ns) (λ w. us (z.place w)) ins
        (λ w j. in_front w ins (declares x) j) first y
        (in_front y ins (declares x) i) (λ k. absurd (not_both y ins i k)))

    abbrev meant : Vars → Does Vars
    meant vs = does false here.call true here.n x vs

    -- with no tick left neither begins
    no_call : (kind : FuncKind) (g : ℕ) (vs : Vars) (args : List Val) (c : Core) →
        Alike false (Copies vs) zero (branch false here.call true here.n (meant vs) vs c zero)
        (calls here.form true zero g args Here c zero)
    no_call kind g vs args c = refl

    child : (kind : FuncKind) (g : ℕ) → Holds here.form.funcs g (function kind g ∷ (low_inside g).funcs) →
        (vs us : Vars) → Agrees z.place z.sc vs us → (sn k : ℕ) → k ≤ here.bound → k ≤ sn →
        Together false k (Copies vs) (branch false here.call true here.n (meant vs) vs)
        (calls here.form true sn g (map us (map z.place ins)) Here)
    child kind g h vs us a zero k most room =
        let args = map us (map z.place ins) in
        record {
          is = λ c r l.
              let e : zero ≡ r = omega (arith, l, room) in
              subst (λ q. Alike false (Copies vs) q (branch false here.call true here.n (meant vs) vs c q)
              (calls here.form true zero g args Here c q)) e (no_call kind g vs args c);
        }
    child kind g h vs us a (suc sn) k most room =
        let args = map us (map z.place ins) in
        let f = function kind g in
        let first = set_all f.params args (unset f.vars) in
        subst (λ o. Together false k (Copies vs) (branch false here.call true here.n (meant vs) vs)
        (run_function here.form true (calls here.form true sn) sn o args Here)) (sym h.0)
        (together_enter {f = λ c r. branched false here.call true here.n vs (meant vs c r)}
        {g = body here.form true (calls here.form true sn) sn f args} k Here
        (λ j l.
        let z' = inner sn j (omega (arith, l, most)) (omega (arith, l, room)) in
        let done = together_staying false (Leaves z' (length ns) first) j changed vs (meant vs)
        (run here.form.shapes true (calls here.form true sn) sn (low_inside g).code first)
        (means z' sound_inside (λ y i. in_back y ins (declares x) i) (length ns) (suc g)
        (omega arith) h.1 vs first (begun vs us a (unset f.vars)))
        (does_stay changed here.call here.n x (λ y i. in_back y (names (stmt_writes x)) (declares x) i)
        (λ y i. in_front y (names (stmt_writes x)) (declares x) i) vs) in
        record {
          is = λ c r m.
              results_alike here.call here.n (λ ws xs. Leaves z' (length ns) first ws xs × Same changed vs ws)
              (Copies vs) f.results vs r (meant vs c r)
              (run here.form.shapes true (calls here.form true sn) sn (low_inside g).code first c r)
              (λ ws xs p. (
                map_twice xs (index ns) outs
                    ∙ map_same (λ y. xs (index ns y)) ws outs (λ y i. sym (p.0.agrees y (outs_here y i))),
                p.1,
              ))
              (done.is c r m);
        }))

    -- the parent goes on with what is copied out
    pub outlined_runs : (kind : FuncKind) (at : Span) (g : ℕ) →
        Holds here.form.funcs g (function kind g ∷ (low_inside g).funcs) → (t : ℕ) (vs us : Vars) →
        Agrees z.place z.sc vs us →
        Together z.may z.k (Leaves z t us) (branch false here.call true here.n (meant vs) vs)
        (called here.form.shapes true (calls_on z) z.sn (outlined_call (scope z) at more x g) us)
    outlined_runs kind at g h t vs us a =
        together_right (together_may z.may (child kind g h vs us a z.sn z.k z.most z.room))
        (λ ws ys p. together_pure
        (subst (λ l. Leaves z t us ws (set_all (map z.place outs) l us)) (sym p.0) (record {
          agrees = λ y i. sym (copied z.place z.sc z.v (numbers_of z) ws outs
              (λ w j. ins_here w (outs_here w j)) us y i
              (λ k. sym (p.1 y (not_out here.form.shapes (scope z) more x z.sc sound
              (λ w j. z.below w (z.inside w j)) header y i k) ∙ a y i)));
          kept = λ y l m. copied_apart z.place z.v outs
              (λ w j. (numbers_of z).below w (ins_here w (outs_here w j))) (map ws outs) us y l;
        })))
