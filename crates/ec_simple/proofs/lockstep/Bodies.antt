-- The code of each statement does what the statement means.
use Rattle.std.proofs.Common.{refl, ap, ◌∙◌, subst, ℕ, ◌+◌, ◌≤◌, true, false, if◌then◌else◌, List, [], ◌++◌, map, length, arith, pos}
use Rattle.ec_base.specs.declared.token.Span.{Span}
use Rattle.ec_simple.specs.declared.form.SStmt.TheOpen.{SStmt-F}
use Rattle.ec_simple.specs.declared.form.SStmt.TheVariants as s
use Rattle.ec_simple.specs.Expressions.{low, low_part}
use Rattle.ec_simple.specs.Meaning.{in_order}
use Rattle.ec_simple.specs.Sound.{SoundElse, SoundStmts, with_declared}
use Rattle.ec_simple.specs.Statements.{low_optional, low_declarations, low_stmt, low_else, low_stmts, low_branches}
use Rattle.ec_simple.specs.Uses.{declared, declares, else_declares, all_declare}
use Rattle.ec_simple.proofs.lockstep.Alike.{in_order_append}
use Rattle.ec_simple.proofs.lockstep.Branches.{Branches_on, Follow, branching, chosen, branch_runs, forall_runs}
use Rattle.ec_simple.proofs.lockstep.Code.{branch_does, if_does, loop_does, par_does}
use Rattle.ec_simple.proofs.lockstep.Functions.{Holds, holds_front, holds_back}
use Rattle.ec_simple.proofs.lockstep.Loops.{turns_run}
use Rattle.ec_simple.proofs.lockstep.Outlined.{Means}
use Rattle.ec_simple.proofs.lockstep.Scopes.{still_in}
use Rattle.ec_simple.proofs.lockstep.Stages.{Setting, Stage, did_kept, did_then, did_behind, did_less, scope, code_runs, Leaves, numbers_of, value_on, part_on, calls_on, Follows, append_on, one_on, last_on, One_does}
use Rattle.ec_simple.proofs.lockstep.Statements.{assignment_runs, optional_runs, write_runs, add_runs, print_runs, return_runs, evaluated_runs, declarations_run, declarations_none, after}
use Rattle.ec_simple.proofs.lockstep.Together.{Together, together_is, together_map, together_then, together_pure, together_if, together_fork}
use Rattle.ec_simple.proofs.lockstep.Variables.{Within, in_front, in_back}
use Rattle.ec_types.specs.Meaning.Branches.{is_call_branch}
use Rattle.ec_types.specs.Meaning.Evaluation.{value, given, optional, does, otherwise, all, branches}
use Rattle.ec_types.specs.Meaning.State.{Does, going, pure, Vars, ◌>>=◌}
use Rattle.ec_types.specs.Meaning.Tree.{Invoke, Stmt, Skip, Block, Par, If, While, For, Forall, Set, Eval, WriteTo, AddTo, Print, Return, Else, NoElse, Otherwise, Stmts, End, Then}
use Rattle.ec_types.specs.Meaning.Values.{Num, holds}
use Rattle.std.proofs.lemmas.List.{map-append}

within_front : (a b ns : List ℕ) → Within (a ++ b) ns → Within a ns
within_front a b ns w y i = w y (in_front y a b i)

within_back : (a b ns : List ℕ) → Within (a ++ b) ns → Within b ns
within_back a b ns w y i = w y (in_back y a b i)

module _ (here : Setting) where
  abbrev Else_means : Else → Type 0
  Else_means x = (z : Stage here) → SoundElse here.form.shapes (scope z) z.may z.sc x → Within (else_declares x) z.ns →
      (t g : ℕ) → z.v ≤ t → Holds here.form.funcs g (low_else (scope z) x t g).funcs →
      Follows z (Leaves z t) (otherwise false here.call true here.n x) (low_else (scope z) x t g).code

  abbrev pub All_mean : Stmts → Type 0
  All_mean xs = (z : Stage here) → SoundStmts here.form.shapes (scope z) z.may z.sc xs → Within (all_declare xs) z.ns →
      (t g : ℕ) → z.v ≤ t → Holds here.form.funcs g (low_stmts (scope z) xs t g).funcs →
      Follows z (Leaves z t) (all false here.call true here.n xs) (low_stmts (scope z) xs t g).code

  abbrev Branches_mean : Stmts → Type 0
  Branches_mean xs = (z : Stage here) (at : Span) → SoundStmts here.form.shapes (scope z) false z.sc xs →
      Within (all_declare xs) z.ns → (t g : ℕ) → z.v ≤ t →
      Holds here.form.funcs g (low_branches (scope z) at xs t g).funcs →
      Follow z t (branches false here.call true here.n xs) (low_branches (scope z) at xs t g).branches

  nothing_runs : (z : Stage here) (t : ℕ) → z.v ≤ t → Follows z (Leaves z t) pure []
  nothing_runs z t h vs us ag =
      together_pure (did_kept z.place z.v z.sc t vs us us (numbers_of z) h ag (λ y i. refl))

  mutual
    pub means : (x : Stmt) → Means here x
    means Skip z f w t g h hold vs us ag = nothing_runs z t h vs us ag
    means (Block ds ss) z f w t g h hold vs us ag =
        let w' = within_front (map declared ds) (all_declare ss) z.ns w in
        let z' = after z ds w' in
        let sc = with_declared here.form.shapes (scope z) ds z.sc in
        let ld = low_declarations (scope z) ds t in
        let u = t + length ld.vars in
        let ls = low_stmts (scope z) ss u g in
        append_on z ld.code ls.code us
        (declarations_run z ds w' f.0 t h vs us ag)
        (λ ws xs did. together_map
        (λ ys zs e. did_less z.place z.v z.sc sc t us ys zs (λ y i. still_in here.form.shapes (scope z) ds z.sc y i)
        (did_behind z.place z.v sc sc t u us ws xs ys zs (omega arith) did e))
        (all_mean ss z' f.1 (within_back (map declared ds) (all_declare ss) z.ns w) u g (omega (arith, h))
        (subst (λ l. Holds here.form.funcs g (l ++ ls.funcs))
        (declarations_none (scope z) ds t) hold) ws xs did.agrees))
    means (Par at ss) z f w t g h hold vs us ag =
        let lb = low_branches (scope z) at ss t g in
        one_on z (s.Par at lb.branches)
        (SStmt-F.Par at (map (branch_does here.form.shapes true (calls_on z) z.sn) lb.branches)) us
        (par_does here.form.shapes true (calls_on z) z.sn at lb.branches)
        (together_fork {f = branches false here.call true here.n ss vs} {g = Branches_on z lb.branches us}
        false here.call true here.n true (λ f us s. going) true z.sn
        (branches_mean ss z at f w t g h hold vs us ag))
    means (If a x e) z f w t g h hold vs us ag =
        let la = low (scope z) a t in
        let t1 = t + length la.vars in
        let lx = low_stmt (scope z) x t1 g in
        let t2 = t1 + length lx.vars in
        let le = low_else (scope z) e t2 (g + length lx.funcs) in
        let dx = does false here.call true here.n x vs in
        let de = otherwise false here.call true here.n e vs in
        last_on z la.code (s.If la.to lx.code le.code)
        (SStmt-F.If la.to (map (One_does z) lx.code) (map (One_does z) le.code)) us
        (if_does here.form.shapes true (calls_on z) z.sn la.to lx.code le.code)
        (value_on z a f.0 t h vs us ag)
        (λ b ws p.
        let same = did_kept z.place z.v z.sc t vs us ws (numbers_of z) h ag p.1 in
        subst (λ v. Together z.may z.k (Leaves z t us) (if holds v then dx else de)
        (if holds (ws la.to) then code_runs z lx.code ws else code_runs z le.code ws)) p.0
        (together_if (holds (ws la.to))
        (λ i. together_map (λ ys zs d. did_then z.place z.v z.sc t t1 us vs ws ys zs (omega arith) same d)
        (means x z f.1 (within_front (declares x) (else_declares e) z.ns w) t1 g (omega (arith, h))
        (holds_front here.form.funcs g lx.funcs le.funcs hold) vs ws same.agrees))
        (λ i. together_map (λ ys zs d. did_then z.place z.v z.sc t t2 us vs ws ys zs (omega arith) same d)
        (else_means e z f.2 (within_back (declares x) (else_declares e) z.ns w) t2 (g + length lx.funcs)
        (omega (arith, h)) (holds_back here.form.funcs g lx.funcs le.funcs hold) vs ws same.agrees))))
    means (While a x) z f w t g h hold vs us ag =
        let la = low (scope z) a t in
        let t1 = t + length la.vars in
        let lx = low_stmt (scope z) x t1 g in
        one_on z (s.Loop la.code la.to lx.code)
        (SStmt-F.Loop (map (One_does z) la.code) la.to (map (One_does z) lx.code)) us
        (loop_does here.form.shapes true (calls_on z) z.sn la.code la.to lx.code)
        (turns_run here.form.shapes here.call here.n (calls_on z) z.sn z.k z.may z.place z.v z.sc
        (numbers_of z) t t1 la.to h (omega arith)
        (value false here.call a) (does false here.call true here.n x) (code_runs z la.code) (code_runs z lx.code)
        (λ vs1 us1 a1. value_on z a f.0 t h vs1 us1 a1)
        (λ vs1 us1 a1. means x z f.1 w t1 g (omega (arith, h)) hold vs1 us1 a1)
        here.n z.sn z.k (let k = z.most in let m = here.most in omega (arith, k, m)) z.room (omega arith) vs us ag)
    means (For at a e b x) z f w t g h hold vs us ag =
        let la = low_optional (scope z) a t in
        let t1 = t + length la.vars in
        let lt = low_part (scope z) at (pos 1) e t1 in
        let t2 = t1 + length lt.vars in
        let lx = low_stmt (scope z) x t2 g in
        let t3 = t2 + length lx.vars in
        let lb = low_optional (scope z) b t3 in
        let body : Vars → Does Vars = λ ws. does false here.call true here.n x ws >>= optional false here.call b in
        last_on z la.code (s.Loop lt.code lt.to (lx.code ++ lb.code))
        (SStmt-F.Loop (map (One_does z) lt.code) lt.to (map (One_does z) (lx.code ++ lb.code))) us
        (loop_does here.form.shapes true (calls_on z) z.sn lt.code lt.to (lx.code ++ lb.code))
        (optional_runs z a f.0 t h vs us ag)
        (λ ws xs did. together_map (λ ys zs d. did_then z.place z.v z.sc t t1 us ws xs ys zs (omega arith) did d)
        (turns_run here.form.shapes here.call here.n (calls_on z) z.sn z.k z.may z.place z.v z.sc
        (numbers_of z) t1 t2 lt.to (omega (arith, h)) (omega arith)
        (given false here.call (Num (pos 1)) e) body (code_runs z lt.code) (code_runs z (lx.code ++ lb.code))
        (λ vs1 us1 a1. part_on z e at (pos 1) f.1 t1 (omega (arith, h)) vs1 us1 a1)
        (λ vs1 us1 a1. append_on z lx.code lb.code us1
        (means x z f.3 w t2 g (omega (arith, h)) hold vs1 us1 a1)
        (λ vs2 us2 did2. together_map
        (λ ys zs d. did_then z.place z.v z.sc t2 t3 us1 vs2 us2 ys zs (omega arith) did2 d)
        (optional_runs z b f.2 t3 (omega (arith, h)) vs2 us2 did2.agrees)))
        here.n z.sn z.k (let k = z.most in let m = here.most in omega (arith, k, m)) z.room
        (omega arith) ws xs did.agrees))
    means (Forall at a e b x) z f w t g h hold vs us ag =
        forall_runs z at a e b x f w (means x) t g h hold vs us ag
    means (Set a) z f w t g h hold vs us ag = assignment_runs z a f t h vs us ag
    means (Eval (Invoke at f' es q)) z f w t g h hold vs us ag = evaluated_runs z at f' es q f t h vs us ag
    means (WriteTo at p a) z f w t g h hold vs us ag = write_runs z at p a f.0 f.1 t h vs us ag
    means (AddTo at p a) z f w t g h hold vs us ag = add_runs z at p a f.0 f.1 t h vs us ag
    means (Print string es) z f w t g h hold vs us ag = print_runs z string es f t h vs us ag
    means (Return p) z f w t g h hold vs us ag = return_runs z p f.0 f.1 t g h vs us ag

    else_means : (x : Else) → Else_means x
    else_means NoElse z f w t g h hold vs us ag = nothing_runs z t h vs us ag
    else_means (Otherwise x) z f w t g h hold vs us ag = means x z f w t g h hold vs us ag

    pub all_mean : (xs : Stmts) → All_mean xs
    all_mean End z f w t g h hold vs us ag = nothing_runs z t h vs us ag
    all_mean (Then x xs) z f w t g h hold vs us ag =
        let lx = low_stmt (scope z) x t g in
        let u = t + length lx.vars in
        let ls = low_stmts (scope z) xs u (g + length lx.funcs) in
        append_on z lx.code ls.code us
        (means x z f.0 (within_front (declares x) (all_declare xs) z.ns w) t g h
        (holds_front here.form.funcs g lx.funcs ls.funcs hold) vs us ag)
        (λ ws ys did. together_map (λ a b d. did_then z.place z.v z.sc t u us ws ys a b (omega arith) did d)
        (all_mean xs z f.1 (within_back (declares x) (all_declare xs) z.ns w) u (g + length lx.funcs)
        (omega (arith, h)) (holds_back here.form.funcs g lx.funcs ls.funcs hold) ws ys did.agrees))

    branches_mean : (xs : Stmts) → Branches_mean xs
    branches_mean End z at f w t g h hold vs us ag = nothing_runs z t h vs us ag
    branches_mean (Then x xs) z at f w t g h hold vs us ag =
        let one = chosen (scope z) at x t g (is_call_branch x) in
        let u = t + length one.vars in
        let rest = low_branches (scope z) at xs u (g + length one.funcs) in
        let of_one = branch_does here.form.shapes true (calls_on z) z.sn in
        together_is
        {d' = branching here.call here.n x (is_call_branch x) vs >>= branches false here.call true here.n xs}
        {e' = Branches_on z one.branches us >>= Branches_on z rest.branches}
        (λ c r. refl)
        (λ c r. ap (λ bs. in_order here.form.shapes true (calls_on z) z.sn bs us c r)
        (map-append of_one one.branches rest.branches)
        ∙ in_order_append here.form.shapes true (calls_on z) z.sn (map of_one one.branches)
        (map of_one rest.branches) us c r)
        (together_then
        (branch_runs z at x f.0 (within_front (declares x) (all_declare xs) z.ns w) (means x) t g h
        (is_call_branch x) refl
        (holds_front here.form.funcs g one.funcs rest.funcs hold) vs us ag)
        (λ ws ys did. together_map (λ a b d. did_then z.place z.v z.sc t u us ws ys a b (omega arith) did d)
        (branches_mean xs z at f.1 (within_back (declares x) (all_declare xs) z.ns w) u (g + length one.funcs)
        (omega (arith, h)) (holds_back here.form.funcs g one.funcs rest.funcs hold) ws ys did.agrees)))
