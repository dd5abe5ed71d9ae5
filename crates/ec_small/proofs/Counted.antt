-- A count of ticks in 64 bits goes on as the exact one does.
use Rattle.std.proofs.Common.{◌≡◌, refl, sym, ◌∙◌, ap, subst, ℕ, suc, ◌+◌, ◌^◌, ◌<◌, ℤ, pos, arith}
use Rattle.std.proofs.Common.{List, [], ◌∷◌, map, sum, length, replicate, get_or, drop, drop-cons, add-one}
use Rattle.std.specs.Prelude.{Option, Some, None, slice_set}
use Rattle.ec_small.specs.declared.tree.Expr.{Expr}
use Rattle.ec_small.specs.declared.tree.Stmt.{Stmt}
use Rattle.ec_small.specs.declared.tree.Stmt.TheVariants.{Set, Print}
use Rattle.ec_small.specs.declared.tree.Program.{Program}
use Rattle.ec_small.specs.Meaning.{State, nodes, value, spent, assigned, initialised, declared_from, done, all_done, last_state}
use Rattle.ec_small.specs.Counting.{counted, Alike}

more_ticks : (a b n : ℕ) → counted a ≡ counted b → counted (a + n) ≡ counted (b + n)
more_ticks a b n h = omega (arith, h)

alike_then : (s t u : State) → Alike s t → Alike t u → Alike s u
alike_then s t u h k = record { vars = h.vars ∙ k.vars; output = h.output ∙ k.output; ticks = h.ticks ∙ k.ticks }

drop_item : {A : Type 0} (xs : List A) (i : ℕ) (x : A) → i < length xs → x ≡ get_or xs i x → drop i xs ≡ x ∷ drop (i + 1) xs
drop_item xs i x h is = drop-cons xs i x h ∙ ap (λ y. y ∷ drop (suc i) xs) (sym is) ∙ ap (λ k. x ∷ drop k xs) (sym (add-one i))

-- ---- statements

done_alike : (x : Stmt) (s t : State) → Alike s t → Alike (done x s) (done x t)
done_alike (Set k e) s t h = record {
  vars = grind (arith, h.vars);
  output = h.output;
  ticks = more_ticks s.ticks t.ticks (1 + nodes e) h.ticks;
}
done_alike (Print string es) s t h = record {
  vars = h.vars;
  output = grind (arith, h.vars, h.output);
  ticks = more_ticks s.ticks t.ticks (1 + sum (map nodes es)) h.ticks;
}

-- a tick, and then a variable is set
pub set_alike : (k : ℕ) (e : Expr) (s t u : State) → Alike t (spent 1 s) → Alike u (spent (nodes e) (assigned k e t)) → Alike u (done (Set k e) s)
set_alike k e s t u h i = record {
  vars = i.vars ∙ ap (λ vs. slice_set vs k (value vs e)) h.vars;
  output = i.output ∙ h.output;
  ticks = i.ticks ∙ more_ticks t.ticks (s.ticks + 1) (nodes e) h.ticks ∙ ap counted (omega arith);
}

all_done_alike : (xs : List Stmt) (s t : State) → Alike s t → Alike (all_done xs s) (all_done xs t)
all_done_alike [] s t h = h
all_done_alike (x ∷ xs) s t h = all_done_alike xs (done x s) (done x t) (done_alike x s t h)

all_done_next : (x : Stmt) (xs : List Stmt) (s t u : State) → Alike t (done x s) → Alike (all_done (x ∷ xs) s) u → Alike (all_done xs t) u
all_done_next x xs s t u h i = alike_then (all_done xs t) (all_done xs (done x s)) u (all_done_alike xs t (done x s) h) i

-- from the statement at a place to the next one
pub statement_next : (xs : List Stmt) (i : ℕ) (x : Stmt) (s t u : State) → i < length xs → x ≡ get_or xs i x → Alike t (done x s) → Alike (all_done (drop i xs) s) u →
    Alike (all_done (drop (i + 1) xs) t) u
statement_next xs i x s t u h is went before =
    all_done_next x (drop (i + 1) xs) s t u went (subst (λ l. Alike (all_done l s) u) (drop_item xs i x h is) before)

-- ---- declarations

initialised_alike : (k : ℕ) (x : Option Expr) (s t : State) → Alike s t → Alike (initialised k x s) (initialised k x t)
initialised_alike k None s t h = h
initialised_alike k (Some e) s t h = record {
  vars = grind (arith, h.vars);
  output = h.output;
  ticks = more_ticks s.ticks t.ticks (nodes e) h.ticks;
}

declared_alike : (k : ℕ) (xs : List (Option Expr)) (s t : State) → Alike s t → Alike (declared_from k xs s) (declared_from k xs t)
declared_alike k [] s t h = h
declared_alike k (x ∷ xs) s t h = declared_alike (k + 1) xs (initialised k x s) (initialised k x t) (initialised_alike k x s t h)

declared_next : (k : ℕ) (x : Option Expr) (xs : List (Option Expr)) (s t u : State) → Alike t (initialised k x s) → Alike (declared_from k (x ∷ xs) s) u →
    Alike (declared_from (k + 1) xs t) u
declared_next k x xs s t u h i =
    alike_then (declared_from (k + 1) xs t) (declared_from (k + 1) xs (initialised k x s)) u (declared_alike (k + 1) xs t (initialised k x s) h) i

-- from the initialiser at a place to the next one
pub initialiser_next : (xs : List (Option Expr)) (i k : ℕ) (x : Option Expr) (s t u : State) → i < length xs → x ≡ get_or xs i x → Alike t (initialised k x s) →
    Alike (declared_from k (drop i xs) s) u → Alike (declared_from (k + 1) (drop (i + 1) xs) t) u
initialiser_next xs i k x s t u h is went before =
    declared_next k x (drop (i + 1) xs) s t u went (subst (λ l. Alike (declared_from k l s) u) (drop_item xs i x h is) before)

-- ---- programs

abbrev started : List ℤ → List ℕ → State
started vars output = record { vars = vars; output = output; ticks = 1 }

-- variables are 0 at first, and nothing is written
pub last_alike : (p : Program) (vars : List ℤ) (output : List ℕ) (inits : List (Option Expr)) (stmts : List Stmt) (s t : State) →
    vars ≡ replicate (length p.inits) (pos 0) → output ≡ [] → inits ≡ p.inits → stmts ≡ p.stmts →
    Alike s (declared_from 0 inits (started vars output)) → Alike t (all_done stmts s) → Alike t (last_state p)
last_alike p vars output inits stmts s t zeros empty all_inits all_stmts declared ran =
    let start = started (replicate (length p.inits) (pos 0)) [] in
    let first : declared_from 0 inits (started vars output) ≡ declared_from 0 p.inits start = rw (zeros, empty, all_inits) refl in
    let on : Alike t (all_done stmts (declared_from 0 p.inits start)) =
    subst (λ d. Alike t (all_done stmts d)) first (alike_then t (all_done stmts s) _ ran (all_done_alike stmts s _ declared)) in
    subst (λ l. Alike t (all_done l (declared_from 0 p.inits start))) all_stmts on

-- the ticks of `return` and of the result
pub ticks_last : (a b c d n : ℕ) → d < 2 ^ 64 → counted a ≡ counted b → counted c ≡ counted (a + 1) → counted d ≡ counted (c + n) → d ≡ counted (b + 1 + n)
ticks_last a b c d n fits h i j = omega (arith, fits, h, i, j)
