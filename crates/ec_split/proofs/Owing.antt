-- The code of a small program is what it is owed.
use Rattle.std.proofs.Common.{◌≡◌, refl, sym, ◌∙◌, ap, subst, ℕ, ◌+◌, ◌≤◌, ◌<◌, ◌||◌, false, List, [], ◌∷◌, ◌++◌, length, map, Option, Some, None, arith}
use Rattle.std.proofs.lemmas.Bool.{ne_eqb}
use Rattle.std.proofs.lemmas.List.{append_assoc, append-nil}
use Rattle.std.proofs.lemmas.List.Folds.{list_any-append}
use Rattle.std.specs.List.{list_any, range_with_len}
use Rattle.ec_core.specs.declared.code.Instr.{Instr}
use Rattle.ec_core.specs.declared.code.Instr.TheVariants as i
use Rattle.ec_core.specs.declared.code.Fiber.{Fiber}
use Rattle.ec_small.specs.declared.tree.Operator.{Operator}
use Rattle.ec_small.specs.declared.tree.Operator.TheVariants as operator
use Rattle.ec_small.specs.declared.tree.Expr.{Expr}
use Rattle.ec_small.specs.declared.tree.Expr.TheVariants.{Number, Var, Binary}
use Rattle.ec_small.specs.declared.tree.Stmt.{Stmt}
use Rattle.ec_small.specs.declared.tree.Stmt.TheVariants.{Set, Print}
use Rattle.ec_small.specs.declared.tree.Program.{Program}
use Rattle.ec_split.specs.Owes.{operation, sets, Keeps, Computes, ComputesAll, Owed, OwedFrom, Owes}
use Rattle.ec_split.specs.Cut.{instrs, args_instrs, print_instrs, fibers, init_instrs, main_of, code_of}
use Rattle.ec_split.proofs.Exprs.{induction, instrs_number, instrs_var, instrs_binary}

-- ---- cells that are kept

keeps_one : (x : ℕ) (j : Instr) → sets x j ≡ false → Keeps x (j ∷ [])
keeps_one x j h = ap (λ b. b || false) h

keeps_append : (x : ℕ) (is js : List Instr) → Keeps x is → Keeps x js → Keeps x (is ++ js)
keeps_append x is js a b = list_any-append (sets x) is js ∙ (ap (λ c. c || list_any (sets x) js) a ∙ b)

operation_keeps : (x : ℕ) (op : Operator) (d a b : ℕ) → x < d → sets x (operation op d a b) ≡ false
operation_keeps x operator.Add d a b h = ne_eqb d x (λ e. omega arith)
operation_keeps x operator.Sub d a b h = ne_eqb d x (λ e. omega arith)
operation_keeps x operator.Mul d a b h = ne_eqb d x (λ e. omega arith)

-- an expression's instructions keep each cell below its own and below its temporaries
instrs_keep : (x : ℕ) (e : Expr) (d base : ℕ) → x < d → x < base → Keeps x (instrs d base e)
instrs_keep x = induction (λ e. (d base : ℕ) → x < d → x < base → Keeps x (instrs d base e))
    (λ n d base to h. subst (Keeps x) (sym (instrs_number d base n)) (keeps_one x (i.Const d n) (ne_eqb d x (λ e. omega arith))))
    (λ k d base to h. subst (Keeps x) (sym (instrs_var d base k)) (keeps_one x (i.Copy d k) (ne_eqb d x (λ e. omega arith))))
    (λ op a b ha hb d base to h.
    let left : List Instr = instrs base base a in
    let right : List Instr = instrs (base + 1) (base + 1) b in
    let last : Instr = operation op d base (base + 1) in
    subst (Keeps x) (sym (instrs_binary d base op a b))
    (keeps_append x (left ++ right) (last ∷ [])
    (keeps_append x left right (ha base base h h) (hb (base + 1) (base + 1) (omega arith) (omega arith)))
    (keeps_one x last (operation_keeps x op d base (base + 1) to))))

args_keep : (x : ℕ) (es : List Expr) (base : ℕ) → x < base → Keeps x (args_instrs base es)
args_keep x [] base h = refl
args_keep x (e ∷ es) base h =
    keeps_append x (instrs base base e) (args_instrs (base + 1) es) (instrs_keep x e base base h h) (args_keep x es (base + 1) (omega arith))

-- ---- expressions

pub instrs_compute : (n : ℕ) (e : Expr) (d base : ℕ) → n ≤ base → Computes n e d (instrs d base e)
instrs_compute n = induction (λ e. (d base : ℕ) → n ≤ base → Computes n e d (instrs d base e))
    (λ v d base h. subst (Computes n (Number v) d) (sym (instrs_number d base v)) Computes.number)
    (λ k d base h. subst (Computes n (Var k) d) (sym (instrs_var d base k)) Computes.variable)
    (λ op a b ha hb d base h.
    let right : n ≤ base + 1 = omega arith in
    let below : base < base + 1 = omega arith in
    subst (Computes n (Binary op a b) d) (sym (instrs_binary d base op a b))
    (Computes.binary h right (ha base base h) (hb (base + 1) (base + 1) right) (instrs_keep base b (base + 1) (base + 1) below below)))

pub args_compute : (n : ℕ) (es : List Expr) (base : ℕ) → n ≤ base → ComputesAll n es (range_with_len base (length es)) (args_instrs base es)
args_compute n [] base h = ComputesAll.none
args_compute n (e ∷ es) base h =
    ComputesAll.more h (instrs_compute n e base base h) (args_compute n es (base + 1) (omega arith)) (args_keep base es (base + 1) (omega arith))

-- ---- fibers

abbrev all_instrs : List Fiber → List (List Instr)
all_instrs fs = map (λ x. x.instrs) fs

-- the first fiber goes on from these instructions, and what comes then has a property
record GoesOn (done : List Instr) (fs : List Fiber) (P : List (List Instr) → Type 0) : Type 0 where
  first : List Instr
  rest : List (List Instr)
  is : all_instrs fs ≡ (done ++ first) ∷ rest
  has : P (first ∷ rest)

fibers_owed : (ss : List Stmt) (r : Expr) (base k : ℕ) (done : List Instr) → GoesOn done (fibers base k done ss r) (Owed base ss r k)
fibers_owed [] r base k done = record {
  first = instrs base base r ++ i.EndFunction (base ∷ []) ∷ [];
  rest = [];
  is = ap (λ is. is ∷ []) (append_assoc done (instrs base base r) (i.EndFunction (base ∷ []) ∷ []));
  has = Owed.result (omega arith) (instrs_compute base r base base (omega arith));
}
fibers_owed (Set x e ∷ ss) r base k done =
    let next = fibers_owed ss r base k (done ++ instrs x base e) in
    record {
      first = instrs x base e ++ next.first;
      rest = next.rest;
      is = next.is ∙ ap (λ is. is ∷ next.rest) (append_assoc done (instrs x base e) next.first);
      has = Owed.set (instrs_compute base e x base (omega arith)) next.has;
    }
fibers_owed (Print s es ∷ ss) r base k done =
    let next = fibers_owed ss r base (k + 1) [] in
    record {
      first = print_instrs base k s es;
      rest = all_instrs (fibers base (k + 1) [] ss r);
      is = refl;
      has = Owed.print 0 (args_compute base es base (omega arith)) (subst (Owed base ss r (k + 1)) (sym next.is) next.has);
    }

inits_owed : (os : List (Option Expr)) (ss : List Stmt) (r : Expr) (base x : ℕ) (done : List Instr) →
    GoesOn done (fibers base 0 (done ++ init_instrs base x os) ss r) (OwedFrom base x os ss r)
inits_owed [] ss r base x done =
    let next = fibers_owed ss r base 0 done in
    record {
      first = next.first;
      rest = next.rest;
      is = ap (λ is. all_instrs (fibers base 0 is ss r)) (append-nil done) ∙ next.is;
      has = OwedFrom.none next.has;
    }
inits_owed (None ∷ os) ss r base x done =
    let next = inits_owed os ss r base (x + 1) done in
    record { first = next.first; rest = next.rest; is = next.is; has = OwedFrom.plain next.has }
inits_owed (Some e ∷ os) ss r base x done =
    let next = inits_owed os ss r base (x + 1) (done ++ instrs x base e) in
    record {
      first = instrs x base e ++ next.first;
      rest = next.rest;
      is = ap (λ is. all_instrs (fibers base 0 is ss r)) (sym (append_assoc done (instrs x base e) (init_instrs base (x + 1) os)))
          ∙ (next.is ∙ ap (λ is. is ∷ next.rest) (append_assoc done (instrs x base e) next.first));
      has = OwedFrom.initial (instrs_compute base e x base (omega arith)) next.has;
    }

-- ---- the program

pub owes : (p : Program) → Owes p (code_of p)
owes p =
    let all = inits_owed p.inits p.stmts p.result (length p.inits) 0 [] in
    record {
      main = main_of p;
      alone = refl;
      first = refl;
      name = refl;
      params = refl;
      results = refl;
      owed = subst (OwedFrom (length p.inits) 0 p.inits p.stmts p.result) (sym all.is) all.has;
    }
