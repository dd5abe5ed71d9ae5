-- The code of each statement is formed.
use Rattle.std.proofs.Common.{◌≡◌, refl, sym, ◌∙◌, subst, ℕ, ◌+◌, ◌<◌, Bool, true, List, [], ◌∷◌, ◌++◌, map, length, Option, pos}
use Rattle.std.specs.List.{list_all}
use Rattle.std.proofs.lemmas.List.Folds.{list_all-map}
use Rattle.ec_base.specs.declared.token.Span.{Span}
use Rattle.ec_simple.specs.declared.form.SBranch.{SBranch}
use Rattle.ec_simple.specs.declared.form.SFunc.{SFunc}
use Rattle.ec_simple.specs.declared.form.Form.{Form}
use Rattle.ec_simple.specs.declared.form.SStmt.TheVariants as code
use Rattle.ec_simple.specs.Expressions.{Scope, low, low_part}
use Rattle.ec_simple.specs.Formed.{all_formed, is_formed_function}
use Rattle.ec_simple.specs.Kinds.{KindsStmts}
use Rattle.ec_simple.specs.Sound.{IsIn, SoundStmts}
use Rattle.ec_simple.specs.Statements.{low_optional, low_declarations, low_assignment, low_evaluated, low_stmt, low_else, low_stmts, low_branches}
use Rattle.ec_simple.specs.Uses.{declared, declares, else_declares, all_declare}
use Rattle.ec_simple.proofs.formed.Branches.{branch_forms}
use Rattle.ec_simple.proofs.formed.Loops.{header_forms}
use Rattle.ec_simple.proofs.formed.Assignments.{assignment_formed, optional_formed, evaluated_formed, declarations_formed}
use Rattle.ec_simple.proofs.formed.Code.{branch_formed, formed_one, formed_both, formed_last, if_holds, loop_holds, par_formed}
use Rattle.ec_simple.proofs.formed.Kinds.{value_exists}
use Rattle.ec_simple.proofs.formed.Values.{value_formed, test_formed}
use Rattle.ec_simple.proofs.formed.Parts.{at_second, at_third, at_fourth}
use Rattle.ec_simple.proofs.formed.Tests.{all_both}
use Rattle.ec_simple.proofs.formed.Spots.{Returns, Forms, Else_forms, All_form, Branches_form, FormedStmt, in_scope, after}
use Rattle.ec_simple.proofs.formed.Standing.{At, Placed, Stands, at_left, at_right}
use Rattle.ec_simple.proofs.formed.Statements.{assignment_none, evaluated_none, write_forms, add_forms, print_forms, return_forms}
use Rattle.ec_simple.proofs.lockstep.Branches.{chosen}
use Rattle.ec_simple.proofs.lockstep.Statements.{declarations_none}
use Rattle.ec_simple.proofs.lockstep.Variables.{Within, in_front, in_back}
use Rattle.ec_types.specs.Meaning.Branches.{is_call_branch}
use Rattle.ec_types.specs.Meaning.Tree.{Stmt, Skip, Block, Par, If, While, For, Forall, Set, Eval, WriteTo, AddTo, Print, Return, Else, NoElse, Otherwise, Stmts, End, Then}

within_front : (a b ns : List ℕ) → Within (a ++ b) ns → Within a ns
within_front a b ns w y i = w y (in_front y a b i)

within_back : (a b ns : List ℕ) → Within (a ++ b) ns → Within b ns
within_back a b ns w y i = w y (in_back y a b i)

module _ (s : Form) where
  -- ---- constructs

  abbrev each_formed : List SFunc → Bool
  each_formed fs = list_all (is_formed_function s) fs

  none_formed : (fs : List SFunc) → fs ≡ [] → each_formed fs ≡ true
  none_formed fs e = subst (λ l. each_formed l ≡ true) (sym e) refl

  par_forms : (f : SFunc) (at : Span) (bs : List SBranch) → list_all (branch_formed s f) bs ≡ true →
      all_formed s f (code.Par at bs ∷ []) ≡ true
  par_forms f at bs h =
      formed_one s f (code.Par at bs) (par_formed s f at bs ∙ (list_all-map (λ b. b) (branch_formed s f) bs ∙ h))

  -- ---- statements

  mutual
    pub forms : (x : Stmt) → Forms s x
    forms Skip z f k w t g v h = (refl, refl)
    forms (Block ds ss) z f k w t g v h =
        let c = z.scope in
        let w' = within_front (map declared ds) (all_declare ss) z.ns w in
        let z' = after z ds w' in
        let ld = low_declarations c ds t in
        let u = t + length ld.vars in
        let ls = low_stmts c ss u g in
        let none = declarations_none c ds t in
        let rest = all_form ss z' f.1 k.1 (within_back (map declared ds) (all_declare ss) z.ns w) u g
        (at_right z.function.vars t ld.vars ls.vars v) (subst (λ l. At s.funcs g (l ++ ls.funcs)) none h) in (
          formed_both s z.function ld.code ls.code
              (declarations_formed s z.function c z.stands ds z.sc (in_scope z') f.0 k.0 t
              (at_left z.function.vars t ld.vars ls.vars v)) rest.0,
          all_both (is_formed_function s) ld.funcs ls.funcs (none_formed ld.funcs none) rest.1,
        )
    forms (Par at ss) z f k w t g v h =
        let lb = low_branches z.scope at ss t g in
        let each = branches_form ss z at f k w t g v h in
        (par_forms z.function at lb.branches each.0, each.1)
    forms (If a x e) z f k w t g v h =
        let c = z.scope in
        let vars = z.function.vars in
        let la = low c a t in
        let t1 = t + length la.vars in
        let lx = low_stmt c x t1 g in
        let le = low_else c e (t1 + length lx.vars) (g + length lx.funcs) in
        let test = value_formed s z.function c z.sc z.stands (in_scope z) a f.0 k.0 t
        (at_left vars t la.vars lx.vars (at_left vars t (la.vars ++ lx.vars) le.vars v)) in
        let one = forms x z f.1 k.1 (within_front (declares x) (else_declares e) z.ns w) t1 g
        (at_second vars t la.vars lx.vars le.vars v) (at_left s.funcs g lx.funcs le.funcs h) in
        let two = else_forms e z f.2 k.2 (within_back (declares x) (else_declares e) z.ns w) (t1 + length lx.vars)
        (g + length lx.funcs) (at_third vars t la.vars lx.vars le.vars v) (at_right s.funcs g lx.funcs le.funcs h) in (
          formed_last s z.function la.code (code.If la.to lx.code le.code) test.0
              (if_holds s z.function la.to lx.code le.code (value_exists s z.function c a la.to test.1) one.0 two.0),
          all_both (is_formed_function s) lx.funcs le.funcs one.1 two.1,
        )
    forms (While a x) z f k w t g v h =
        let c = z.scope in
        let vars = z.function.vars in
        let la = low c a t in
        let lx = low_stmt c x (t + length la.vars) g in
        let test = value_formed s z.function c z.sc z.stands (in_scope z) a f.0 k.0 t
        (at_left vars t la.vars lx.vars v) in
        let body = forms x z f.1 k.1 w (t + length la.vars) g (at_right vars t la.vars lx.vars v) h in (
          formed_one s z.function (code.Loop la.code la.to lx.code)
              (loop_holds s z.function la.code la.to lx.code test.0 (value_exists s z.function c a la.to test.1) body.0),
          body.1,
        )
    forms (For at a e b x) z f k w t g v h =
        let c = z.scope in
        let vars = z.function.vars in
        let la = low_optional c a t in
        let t1 = t + length la.vars in
        let lt = low_part c at (pos 1) e t1 in
        let t2 = t1 + length lt.vars in
        let lx = low_stmt c x t2 g in
        let t3 = t2 + length lx.vars in
        let lb = low_optional c b t3 in
        let three = at_left vars t (la.vars ++ lt.vars ++ lx.vars) lb.vars v in
        let first = optional_formed s z.function c z.sc z.stands (in_scope z) a f.0 k.0 t
        (at_left vars t la.vars lt.vars (at_left vars t (la.vars ++ lt.vars) lx.vars three)) in
        let test = test_formed s z.function c z.sc z.stands (in_scope z) e at (pos 1) f.1 k.1 t1
        (at_second vars t la.vars lt.vars lx.vars three) in
        let body = forms x z f.3 k.3 w t2 g (at_third vars t la.vars lt.vars lx.vars three) h in
        let last = optional_formed s z.function c z.sc z.stands (in_scope z) b f.2 k.2 t3
        (at_fourth vars t la.vars lt.vars lx.vars lb.vars v) in (
          formed_last s z.function la.code (code.Loop lt.code lt.to (lx.code ++ lb.code)) first
              (loop_holds s z.function lt.code lt.to (lx.code ++ lb.code) test.0 test.1
              (formed_both s z.function lx.code lb.code body.0 last)),
          body.1,
        )
    forms (Forall at a e b x) z f k w t g v h = header_forms at a e b x (forms x) z f k w t g v h
    forms (Set a) z f k w t g v h = (
      assignment_formed s z.function z.scope z.sc z.stands (in_scope z) a f k t v,
      none_formed (low_assignment z.scope a t).funcs (assignment_none z.scope a t),
    )
    forms (Eval i) z f k w t g v h = (
      evaluated_formed s z.function z.scope z.sc z.stands (in_scope z) i f k t v,
      none_formed (low_evaluated z.scope i t).funcs (evaluated_none z.scope i t),
    )
    forms (WriteTo at p a) z f k w t g v h = write_forms at p a z f k t g v
    forms (AddTo at p a) z f k w t g v h = add_forms at p a z f k t g v
    forms (Print string es) z f k w t g v h = print_forms string es z f k t g v
    forms (Return p) z f k w t g v h = return_forms p z f k t g v

    else_forms : (x : Else) → Else_forms s x
    else_forms NoElse z f k w t g v h = (refl, refl)
    else_forms (Otherwise x) z f k w t g v h = forms x z f k w t g v h

    pub all_form : (xs : Stmts) → All_form s xs
    all_form End z f k w t g v h = (refl, refl)
    all_form (Then x xs) z f k w t g v h =
        let lx = low_stmt z.scope x t g in
        let u = t + length lx.vars in
        let ls = low_stmts z.scope xs u (g + length lx.funcs) in
        let one = forms x z f.0 k.0 (within_front (declares x) (all_declare xs) z.ns w) t g
        (at_left z.function.vars t lx.vars ls.vars v) (at_left s.funcs g lx.funcs ls.funcs h) in
        let rest = all_form xs z f.1 k.1 (within_back (declares x) (all_declare xs) z.ns w) u (g + length lx.funcs)
        (at_right z.function.vars t lx.vars ls.vars v) (at_right s.funcs g lx.funcs ls.funcs h) in (
          formed_both s z.function lx.code ls.code one.0 rest.0,
          all_both (is_formed_function s) lx.funcs ls.funcs one.1 rest.1,
        )

    branches_form : (xs : Stmts) → Branches_form s xs
    branches_form End z at f k w t g v h = (refl, refl)
    branches_form (Then x xs) z at f k w t g v h =
        let one = chosen z.scope at x t g (is_call_branch x) in
        let u = t + length one.vars in
        let rest = low_branches z.scope at xs u (g + length one.funcs) in
        let first = branch_forms z at x f.0 k.0 (within_front (declares x) (all_declare xs) z.ns w) (forms x) t g
        (is_call_branch x) refl (at_left z.function.vars t one.vars rest.vars v)
        (at_left s.funcs g one.funcs rest.funcs h) in
        let more = branches_form xs z at f.1 k.1 (within_back (declares x) (all_declare xs) z.ns w) u
        (g + length one.funcs) (at_right z.function.vars t one.vars rest.vars v)
        (at_right s.funcs g one.funcs rest.funcs h) in (
          all_both (branch_formed s z.function) one.branches rest.branches first.0 more.0,
          all_both (is_formed_function s) one.funcs rest.funcs first.1 more.1,
        )

-- ---- whole bodies

pub low_stmts_formed : (s : Form) (f : SFunc) (c : Scope) (gives : Option Bool) (may : Bool) (ns sc : List ℕ) →
    Stands s c → Placed c f.vars ns → ((y : ℕ) → IsIn y ns → y < length c.variables) → Within sc ns →
    (may ≡ true → Returns f gives) →
    (ss : Stmts) → SoundStmts s.shapes c may sc ss → KindsStmts s.shapes c gives ss → Within (all_declare ss) ns →
    (t g : ℕ) → At f.vars t (low_stmts c ss t g).vars → At s.funcs g (low_stmts c ss t g).funcs →
    FormedStmt s f (low_stmts c ss t g)
low_stmts_formed s f c gives may ns sc stands placed below inside returns ss sound kinds within t g v h =
    all_form s ss
    (record {
      function = f;
      scope = c;
      stands = stands;
      ns = ns;
      placed = placed;
      below = below;
      sc = sc;
      inside = inside;
      may = may;
      gives = gives;
      returns = returns;
    })
    sound kinds within t g v h
