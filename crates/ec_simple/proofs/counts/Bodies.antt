-- The code of statements that keep the counts keeps them, and so do the functions of branches and bodies in them.
use Rattle.std.proofs.Common.{◌≡◌, refl, sym, ap, ◌∙◌, subst, ℕ, suc, ◌+◌, ◌<◌, ◌≤◌, arith, le-leb, leb-true, Bool, true, false, ◌&&◌, List, [], ◌++◌, length, Some, None, pos}
use Rattle.std.proofs.lemmas.Bool.{and_parts}
use Rattle.std.proofs.lemmas.List.{length-append, length-map}
use Rattle.std.proofs.lemmas.List.Folds.{list_all-map}
use Rattle.std.specs.List.{list_all}
use Rattle.std.specs.Prelude.{nat_le}
use Rattle.ec_base.specs.declared.limits.TheConstants.{MAX_BRANCHES, MAX_PRINT_ARGUMENTS, MAX_SOURCE, MAX_STRING}
use Rattle.ec_base.specs.declared.text.Text.{Text}
use Rattle.ec_base.specs.declared.token.Span.{Span}
use Rattle.ec_simple.specs.declared.form.FuncKind.{FuncKind}
use Rattle.ec_simple.specs.declared.form.FuncKind.TheVariants as kind
use Rattle.ec_simple.specs.declared.form.SBranch.{SBranch}
use Rattle.ec_simple.specs.declared.form.SFunc.{SFunc}
use Rattle.ec_simple.specs.declared.form.SStmt.TheVariants as code
use Rattle.ec_simple.specs.Counts.{is_code_name, keeps, few_arguments, branches_in, stmt_keeps, else_keeps, stmts_keep, size, else_size, sizes}
use Rattle.ec_simple.specs.Expressions.{Scope, low, low_part, low_list, low_call}
use Rattle.ec_simple.specs.Statements.{LowStmt, LowBranches, nothing, joined, low_assignment, low_optional, low_declarations, low_evaluated, outlined, own, inside, low_call_branch, low_stmt, low_else, low_stmts, low_branches}
use Rattle.ec_simple.specs.Uses.{Use, assignment_writes}
use Rattle.ec_simple.proofs.counts.Code.{Keeps, branch_keeps, write_keeps, add_keeps, return_keeps, print_is, par_is, keeps_both, keeps_one, keeps_last, if_keeps, loop_keeps, call_branch_keeps, header_keeps, value_keeps, part_keeps, invoked_keeps, list_keeps, list_length, assignment_keeps, optional_keeps, declarations_keep, evaluated_keeps}
use Rattle.ec_simple.proofs.counts.Names.{Short, outlined_code}
use Rattle.ec_simple.proofs.formed.Code.{both_true}
use Rattle.ec_simple.proofs.formed.Statements.{assignment_none, evaluated_none}
use Rattle.ec_simple.proofs.formed.Tests.{all_both, all_one}
use Rattle.ec_simple.proofs.lockstep.Branches.{chosen}
use Rattle.ec_simple.proofs.lockstep.Statements.{declarations_none}
use Rattle.ec_types.specs.Meaning.Branches.{is_call_branch}
use Rattle.ec_types.specs.Meaning.Tree.{Called, Missing, Given, Invoke, SetVar, Stmt, Skip, Block, Par, If, While, For, Forall, Set, Eval, WriteTo, AddTo, Print, Return, Else, NoElse, Otherwise, Stmts, End, Then}

-- ---- numbers

later : (a n : ℕ) → a < n → a < suc n
later a n h = omega (arith, h)

within : (g n m : ℕ) → g + suc n ≤ m → g + n ≤ m
within g n m h = omega (arith, h)

moved : (g n m : ℕ) → g + suc n ≤ m → suc g + n ≤ m
moved g n m h = omega (arith, h)

at_first : (g a b m : ℕ) → g + suc (a + b) ≤ m → g + suc a ≤ m
at_first g a b m h = omega (arith, h)

at_next : (g k a b m : ℕ) → k < suc a → g + suc (a + b) ≤ m → g + k + suc b ≤ m
at_next g k a b m l h = omega (arith, l, h)

numbered : (g k n f : ℕ) → k < n → g + suc n ≤ f + (MAX_SOURCE + 2) → g < f + (MAX_SOURCE + 1)
numbered g k n f l h = omega (arith, l, h)

few_both : (m n : ℕ) (a b : List SFunc) → length a < suc m → length b < suc n → length (a ++ b) < suc (m + n)
few_both m n a b h i = let all = length-append a b in omega (arith, h, i, all)

-- ---- what is kept

abbrev pub function_keeps : SFunc → Bool
function_keeps f = is_code_name f.name && list_all keeps f.body

-- code and functions, which are fewer than this
pub record Kept (n : ℕ) (l : LowStmt) : Type 0 where
  pub code : Keeps l.code
  pub funcs : list_all function_keeps l.funcs ≡ true
  pub few : length l.funcs < n

-- at most so many branches
record KeptBranches (n most : ℕ) (l : LowBranches) : Type 0 where
  pub branches : list_all branch_keeps l.branches ≡ true
  pub count : length l.branches ≤ most
  pub funcs : list_all function_keeps l.funcs ≡ true
  pub few : length l.funcs < n

-- so many functions more have numbers
abbrev pub Room : Scope → ℕ → ℕ → Type 0
Room c g n = g + n ≤ c.first + (MAX_SOURCE + 2)

abbrev Stmt_kept : Stmt → Type 0
Stmt_kept x =
    (c : Scope) → Short c.name → (t g : ℕ) → Room c g (size x) → stmt_keeps x ≡ true → Kept (size x) (low_stmt c x t g)

wider : (n : ℕ) (l : LowStmt) → Kept n l → Kept (suc n) l
wider n l k = record { code = k.code; funcs = k.funcs; few = later (length l.funcs) n k.few }

-- without functions
alone : (l : LowStmt) → l.funcs ≡ [] → Keeps l.code → Kept 1 l
alone l e h = record {
  code = h;
  funcs = subst (λ fs. list_all function_keeps fs ≡ true) (sym e) refl;
  few = subst (λ fs. length fs < 1) (sym e) (omega arith);
}

pub behind : (n : ℕ) (a b : LowStmt) → a.funcs ≡ [] → Keeps a.code → Kept n b → Kept n (joined a b)
behind n a b e h k = record {
  code = keeps_both a.code b.code h k.code;
  funcs = subst (λ fs. list_all function_keeps (fs ++ b.funcs) ≡ true) (sym e) k.funcs;
  few = subst (λ fs. length (fs ++ b.funcs) < n) (sym e) k.few;
}

-- ---- prints and branches

print_keeps : (string : Text) (xs : List ℕ) (n : ℕ) → length xs ≡ n → nat_le (length string) MAX_STRING ≡ true →
    nat_le n MAX_PRINT_ARGUMENTS ≡ true → keeps (code.Print string xs) ≡ true
print_keeps string xs n e h i =
    print_is string xs ∙ both_true _ _ h (ap (λ k. nat_le k MAX_PRINT_ARGUMENTS) e ∙ i)

par_keeps : (at : Span) (bs : List SBranch) → list_all branch_keeps bs ≡ true → length bs ≤ MAX_BRANCHES →
    keeps (code.Par at bs) ≡ true
par_keeps at bs h l =
    par_is at bs
    ∙ both_true _ _
    (ap (λ n. nat_le n MAX_BRANCHES) (length-map bs branch_keeps) ∙ le-leb (length bs) MAX_BRANCHES l)
    (list_all-map (λ b. b) branch_keeps bs ∙ h)

no_branch : (n : ℕ) → KeptBranches (suc n) 1 (record { branches = []; vars = []; funcs = [] })
no_branch n = record { branches = refl; count = omega arith; funcs = refl; few = omega arith }

call_branch_kept : (c : Scope) (x : Stmt) (t n : ℕ) → KeptBranches (suc n) 1 (low_call_branch c x t)
call_branch_kept c (Set (SetVar at x (Called i))) t n = record {
  branches = all_one branch_keeps _ (call_branch_keeps (low_call c i t).code _ (invoked_keeps c i t));
  count = omega arith;
  funcs = refl;
  few = omega arith;
}
call_branch_kept c (Eval (Invoke at f es q)) t n = record {
  branches =
      all_one branch_keeps _
      (call_branch_keeps (low_call c (Invoke at f es q) t).code _ (invoked_keeps c (Invoke at f es q) t));
  count = omega arith;
  funcs = refl;
  few = omega arith;
}
call_branch_kept c x t n = no_branch n

module _ (c : Scope) (s : Short c.name) where
  outlined_keeps : (k : FuncKind) (more : List Use) (x : Stmt) (g : ℕ) (l : LowStmt) →
      g < c.first + (MAX_SOURCE + 1) → Keeps l.code → function_keeps (outlined c k more x g l) ≡ true
  outlined_keeps k more x g l r h = both_true _ _ (outlined_code c g s r) h

  branch_kept : (x : Stmt) → Stmt_kept x → (at : Span) (t g : ℕ) → Room c g (suc (size x)) → stmt_keeps x ≡ true →
      (b : Bool) → KeptBranches (suc (size x)) 1 (chosen c at x t g b)
  branch_kept x k at t g r h true = call_branch_kept c x t (size x)
  branch_kept x k at t g r h false =
      let inner = inside c [] x in
      let l = low_stmt inner x (length (own c [] x)) (suc g) in
      let body = k inner s (length (own c [] x)) (suc g) (moved g (size x) (c.first + (MAX_SOURCE + 2)) r) h in
      record {
        branches = all_one branch_keeps _ (call_branch_keeps [] _ refl);
        count = omega arith;
        funcs =
            both_true _ _
            (outlined_keeps kind.Branch [] x g l (numbered g (length l.funcs) (size x) c.first body.few r) body.code)
            body.funcs;
        few = let few = body.few in omega (arith, few);
      }

branches_both : (m n most : ℕ) (a b : LowBranches) → KeptBranches (suc m) 1 a → KeptBranches (suc n) most b →
    KeptBranches (suc (m + n)) (suc most)
    (record { branches = a.branches ++ b.branches; vars = a.vars ++ b.vars; funcs = a.funcs ++ b.funcs })
branches_both m n most a b k l = record {
  branches = all_both branch_keeps a.branches b.branches k.branches l.branches;
  count =
      let all = length-append a.branches b.branches in let h = k.count in let i = l.count in omega (arith, all, h, i);
  funcs = all_both function_keeps a.funcs b.funcs k.funcs l.funcs;
  few = few_both m n a.funcs b.funcs k.few l.few;
}

-- ---- statements

mutual
  kept : (x : Stmt) → Stmt_kept x
  kept Skip c s t g r h = alone nothing refl refl
  kept (Block ds ss) c s t g r h =
      let ld = low_declarations c ds t in
      let u = t + length ld.vars in
      behind (suc (sizes ss)) ld (low_stmts c ss u g) (declarations_none c ds t) (declarations_keep c ds t)
      (all_kept ss c s u g r h)
  kept (Par at ss) c s t g r h =
      let lb = low_branches c at ss t g in
      let parts = and_parts (nat_le (branches_in ss) MAX_BRANCHES) (stmts_keep ss) h in
      let k = branches_kept ss c s at t g r parts.1 in
      let most = leb-true (branches_in ss) MAX_BRANCHES parts.0 in
      let count = k.count in
      record {
        code = keeps_one (code.Par at lb.branches) (par_keeps at lb.branches k.branches (omega (arith, most, count)));
        funcs = k.funcs;
        few = k.few;
      }
  kept (If a x z) c s t g r h =
      let m = c.first + (MAX_SOURCE + 2) in
      let la = low c a t in
      let t1 = t + length la.vars in
      let lx = low_stmt c x t1 g in
      let t2 = t1 + length lx.vars in
      let g2 = g + length lx.funcs in
      let lz = low_else c z t2 g2 in
      let parts = and_parts (stmt_keeps x) (else_keeps z) h in
      let one = wider (size x) lx
      (kept x c s t1 g (within g (size x) m (at_first g (size x) (else_size z) m r)) parts.0) in
      let two = else_kept z c s t2 g2 (at_next g (length lx.funcs) (size x) (else_size z) m one.few r) parts.1 in
      record {
        code =
            keeps_last la.code (code.If la.to lx.code lz.code) (value_keeps c a t)
            (if_keeps la.to lx.code lz.code one.code two.code);
        funcs = all_both function_keeps lx.funcs lz.funcs one.funcs two.funcs;
        few = few_both (size x) (else_size z) lx.funcs lz.funcs one.few two.few;
      }
  kept (While a x) c s t g r h =
      let la = low c a t in
      let u = t + length la.vars in
      let lx = low_stmt c x u g in
      let one = kept x c s u g (within g (size x) (c.first + (MAX_SOURCE + 2)) r) h in
      record {
        code =
            keeps_one (code.Loop la.code la.to lx.code)
            (loop_keeps la.code la.to lx.code (value_keeps c a t) one.code);
        funcs = one.funcs;
        few = later (length lx.funcs) (size x) one.few;
      }
  kept (For at a e b x) c s t g r h =
      let la = low_optional c a t in
      let t1 = t + length la.vars in
      let lt = low_part c at (pos 1) e t1 in
      let t2 = t1 + length lt.vars in
      let lx = low_stmt c x t2 g in
      let t3 = t2 + length lx.vars in
      let lb = low_optional c b t3 in
      let one = kept x c s t2 g (within g (size x) (c.first + (MAX_SOURCE + 2)) r) h in
      record {
        code =
            keeps_last la.code (code.Loop lt.code lt.to (lx.code ++ lb.code)) (optional_keeps c a t)
            (loop_keeps lt.code lt.to (lx.code ++ lb.code) (part_keeps c at (pos 1) e t1)
            (keeps_both lx.code lb.code one.code (optional_keeps c b t3)));
        funcs = one.funcs;
        few = later (length lx.funcs) (size x) one.few;
      }
  kept (Forall at a e b x) c s t g r h =
      let more = assignment_writes a in
      let la = low_assignment c a t in
      let t1 = t + length la.vars in
      let lt = low c e t1 in
      let t2 = t1 + length lt.vars in
      let inner = inside c more x in
      let lx = low_stmt inner x (length (own c more x)) (suc g) in
      let one = kept x inner s (length (own c more x)) (suc g) (moved g (size x) (c.first + (MAX_SOURCE + 2)) r) h in
      record {
        code = keeps_one _ (header_keeps _ (assignment_keeps c a t) (value_keeps c e t1) (assignment_keeps c b t2));
        funcs =
            let room = numbered g (length lx.funcs) (size x) c.first one.few r in
            both_true _ _ (outlined_keeps c s kind.Body more x g lx room one.code) one.funcs;
        few = let few = one.few in omega (arith, few);
      }
  kept (Set a) c s t g r h = alone (low_assignment c a t) (assignment_none c a t) (assignment_keeps c a t)
  kept (Eval i) c s t g r h = alone (low_evaluated c i t) (evaluated_none c i t) (evaluated_keeps c i t)
  kept (WriteTo at q a) c s t g r h =
      let lq = low c q t in
      let la = low c a (t + length lq.vars) in
      alone (low_stmt c (WriteTo at q a) t g) refl
      (keeps_last (lq.code ++ la.code) (code.Write lq.to la.to at)
      (keeps_both lq.code la.code (value_keeps c q t) (value_keeps c a (t + length lq.vars)))
      (write_keeps lq.to la.to at))
  kept (AddTo at q a) c s t g r h =
      let lq = low c q t in
      let la = low c a (t + length lq.vars) in
      alone (low_stmt c (AddTo at q a) t g) refl
      (keeps_last (lq.code ++ la.code) (code.Add lq.to la.to at)
      (keeps_both lq.code la.code (value_keeps c q t) (value_keeps c a (t + length lq.vars)))
      (add_keeps lq.to la.to at))
  kept (Print string es) c s t g r h =
      let l = low_list c es t in
      let parts = and_parts (nat_le (length string) MAX_STRING) (nat_le (few_arguments es) MAX_PRINT_ARGUMENTS) h in
      alone (low_stmt c (Print string es) t g) refl
      (keeps_last l.code (code.Print string l.to) (list_keeps c es t)
      (print_keeps string l.to (few_arguments es) (list_length c es t) parts.0 parts.1))
  kept (Return Missing) c s t g r h =
      alone (low_stmt c (Return Missing) t g) refl (keeps_one (code.Return None) (return_keeps None))
  kept (Return (Given a)) c s t g r h =
      let la = low c a t in
      alone (low_stmt c (Return (Given a)) t g) refl
      (keeps_last la.code (code.Return (Some la.to)) (value_keeps c a t) (return_keeps (Some la.to)))

  else_kept : (z : Else) (c : Scope) → Short c.name → (t g : ℕ) → Room c g (suc (else_size z)) →
      else_keeps z ≡ true → Kept (suc (else_size z)) (low_else c z t g)
  else_kept NoElse c s t g r h = alone nothing refl refl
  else_kept (Otherwise x) c s t g r h =
      wider (size x) (low_stmt c x t g) (kept x c s t g (within g (size x) (c.first + (MAX_SOURCE + 2)) r) h)

  pub all_kept : (xs : Stmts) (c : Scope) → Short c.name → (t g : ℕ) → Room c g (suc (sizes xs)) →
      stmts_keep xs ≡ true → Kept (suc (sizes xs)) (low_stmts c xs t g)
  all_kept End c s t g r h = alone nothing refl refl
  all_kept (Then x xs) c s t g r h =
      let m = c.first + (MAX_SOURCE + 2) in
      let lx = low_stmt c x t g in
      let u = t + length lx.vars in
      let g2 = g + length lx.funcs in
      let ls = low_stmts c xs u g2 in
      let parts = and_parts (stmt_keeps x) (stmts_keep xs) h in
      let one = wider (size x) lx
      (kept x c s t g (within g (size x) m (at_first g (size x) (sizes xs) m r)) parts.0) in
      let two = all_kept xs c s u g2 (at_next g (length lx.funcs) (size x) (sizes xs) m one.few r) parts.1 in
      record {
        code = keeps_both lx.code ls.code one.code two.code;
        funcs = all_both function_keeps lx.funcs ls.funcs one.funcs two.funcs;
        few = few_both (size x) (sizes xs) lx.funcs ls.funcs one.few two.few;
      }

  branches_kept : (xs : Stmts) (c : Scope) → Short c.name → (at : Span) (t g : ℕ) → Room c g (suc (sizes xs)) →
      stmts_keep xs ≡ true → KeptBranches (suc (sizes xs)) (branches_in xs) (low_branches c at xs t g)
  branches_kept End c s at t g r h =
      record { branches = refl; count = omega arith; funcs = refl; few = omega arith }
  branches_kept (Then x xs) c s at t g r h =
      let m = c.first + (MAX_SOURCE + 2) in
      let lx = chosen c at x t g (is_call_branch x) in
      let u = t + length lx.vars in
      let g2 = g + length lx.funcs in
      let parts = and_parts (stmt_keeps x) (stmts_keep xs) h in
      let one = branch_kept c s x (kept x) at t g (at_first g (size x) (sizes xs) m r) parts.0 (is_call_branch x) in
      let two = branches_kept xs c s at u g2 (at_next g (length lx.funcs) (size x) (sizes xs) m one.few r) parts.1 in
      branches_both (size x) (sizes xs) (branches_in xs) lx (low_branches c at xs u g2) one two
