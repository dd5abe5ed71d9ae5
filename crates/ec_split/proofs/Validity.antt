-- The code of a small program is valid.
use Rattle.std.proofs.Common.{◌≡◌, refl, sym, ◌∙◌, ap, subst, ℕ, ◌+◌, ◌≤◌, ◌<◌, suc, zero, List, [], ◌∷◌, ◌++◌, length, Option, Some, None, Bool, true, ◌&&◌, ◌==◌, nat_lt, nat_le, max, arith}
use Rattle.std.proofs.Math.Nat.{le-max_left, le-max_right}
use Rattle.std.proofs.lemmas.Bool.{and_parts, and_from, or_left, or_right, lt-ltb, ltb-true, le-leb, eq-eqb}
use Rattle.std.proofs.lemmas.List.{append_assoc, length-append}
use Rattle.std.proofs.lemmas.List.Folds.{list_all-append, list_any-append}
use Rattle.std.proofs.lemmas.List.FromFn.{length-range_with_len}
use Rattle.std.specs.List.{list_all, list_any, range_with_len}
use Rattle.ec_base.specs.declared.limits.TheConstants.{MAX_MARKS, MAX_PRINT_ARGUMENTS, MAX_STRING}
use Rattle.ec_base.specs.Format.{conversions}
use Rattle.ec_core.specs.declared.code.Instr.{Instr}
use Rattle.ec_core.specs.declared.code.Instr.TheVariants as i
use Rattle.ec_core.specs.declared.code.Fiber.{Fiber}
use Rattle.ec_core.specs.declared.code.Function.{Function}
use Rattle.ec_core.specs.Valid.{valid, valid_function, valid_fiber, valid_instr, ends_last, sets_up, is_set_up, is_cell, is_slot, is_format, asks_for}
use Rattle.ec_small.specs.declared.tree.Operator.{Operator}
use Rattle.ec_small.specs.declared.tree.Operator.TheVariants as operator
use Rattle.ec_small.specs.declared.tree.Expr.{Expr}
use Rattle.ec_small.specs.declared.tree.Expr.TheVariants.{Binary}
use Rattle.ec_small.specs.declared.tree.Stmt.{Stmt}
use Rattle.ec_small.specs.declared.tree.Stmt.TheVariants.{Set, Print}
use Rattle.ec_small.specs.declared.tree.Program.{Program}
use Rattle.ec_small.specs.Sound.{Sound, is_declared, operators, is_sound, is_sound_init, is_sound_stmt, asks}
use Rattle.ec_split.specs.Owes.{operation}
use Rattle.ec_split.specs.Cut.{instrs, width, args_instrs, args_width, print_instrs, fiber, fibers, init_instrs, init_width, stmt_width, widest, main_of, code_of}
use Rattle.ec_split.proofs.Exprs.{induction, instrs_number, instrs_var, instrs_binary, width_binary, width_positive, declared_var, declared_binary}

-- ---- instructions

-- all these instructions are valid in a function
abbrev pub AllValid : Function → List Instr → Type 0
AllValid f is = list_all (valid_instr f) is ≡ true

pub valid_append : (f : Function) (is js : List Instr) → AllValid f is → AllValid f js → AllValid f (is ++ js)
valid_append f is js a b = list_all-append (valid_instr f) is js ∙ and_from (list_all (valid_instr f) is) (list_all (valid_instr f) js) a b

pub valid_one : (f : Function) (x : Instr) → valid_instr f x ≡ true → AllValid f (x ∷ [])
valid_one f x h = and_from (valid_instr f x) true h refl

pub valid_more : (f : Function) (x : Instr) (is : List Instr) → valid_instr f x ≡ true → AllValid f is → AllValid f (x ∷ is)
valid_more f x is a b = and_from (valid_instr f x) (list_all (valid_instr f) is) a b

pub cell_below : (f : Function) (c : ℕ) → c < f.cells → is_cell f c ≡ true
cell_below f c h = lt-ltb c f.cells h

three : (a b c : Bool) → a ≡ true → b ≡ true → c ≡ true → (a && b && c) ≡ true
three a b c p q r = and_from (a && b) c (and_from a b p q) r

operation_valid : (f : Function) (op : Operator) (d a b : ℕ) → d < f.cells → a < f.cells → b < f.cells → valid_instr f (operation op d a b) ≡ true
operation_valid f operator.Add d a b p q r = three (is_cell f d) (is_cell f a) (is_cell f b) (cell_below f d p) (cell_below f a q) (cell_below f b r)
operation_valid f operator.Sub d a b p q r = three (is_cell f d) (is_cell f a) (is_cell f b) (cell_below f d p) (cell_below f a q) (cell_below f b r)
operation_valid f operator.Mul d a b p q r = three (is_cell f d) (is_cell f a) (is_cell f b) (cell_below f d p) (cell_below f a q) (cell_below f b r)

-- ---- expressions

-- the instructions of an expression are valid, wherever its variables, its value and its temporaries have cells
abbrev Valid_in : Function → ℕ → Expr → Type 0
Valid_in f count e = (d base : ℕ) → is_declared count e ≡ true → count ≤ f.cells → d < f.cells → base + width e ≤ f.cells → AllValid f (instrs d base e)

binary_valid : (f : Function) (count : ℕ) (op : Operator) (a b : Expr) → Valid_in f count a → Valid_in f count b → Valid_in f count (Binary op a b)
binary_valid f count op a b ha hb d base declared variables to cells =
    let both : (is_declared count a ≡ true) × (is_declared count b ≡ true) =
    and_parts (is_declared count a) (is_declared count b) (sym (declared_binary count op a b) ∙ declared) in
    let left : base + width a ≤ f.cells = omega (arith, width_binary op a b, le-max_left (width a) (width b + 1)) in
    let right : (base + 1) + width b ≤ f.cells = omega (arith, width_binary op a b, le-max_right (width a) (width b + 1)) in
    let one : base + 1 < f.cells = omega (arith, width_positive b) in
    subst (AllValid f) (sym (instrs_binary d base op a b))
    (valid_append f (instrs base base a ++ instrs (base + 1) (base + 1) b) (operation op d base (base + 1) ∷ [])
    (valid_append f (instrs base base a) (instrs (base + 1) (base + 1) b)
    (ha base base both.0 variables (omega arith) left)
    (hb (base + 1) (base + 1) both.1 variables one right))
    (valid_one f (operation op d base (base + 1)) (operation_valid f op d base (base + 1) to (omega arith) one)))

pub expr_valid : (f : Function) (count : ℕ) (e : Expr) → Valid_in f count e
expr_valid f count = induction (Valid_in f count)
    (λ n d base declared variables to cells. subst (AllValid f) (sym (instrs_number d base n)) (valid_one f (i.Const d n) (cell_below f d to)))
    (λ k d base declared variables to cells.
    let below : k < count = ltb-true k count (sym (declared_var count k) ∙ declared) in
    subst (AllValid f) (sym (instrs_var d base k))
    (valid_one f (i.Copy d k) (and_from (is_cell f d) (is_cell f k) (cell_below f d to) (cell_below f k (omega arith)))))
    (binary_valid f count)

sound_declared : (count : ℕ) (e : Expr) → is_sound count e ≡ true → is_declared count e ≡ true
sound_declared count e h = (and_parts (is_declared count e) (nat_le (operators e) MAX_MARKS) h).0

-- ---- arguments

args_valid : (f : Function) (count : ℕ) (es : List Expr) (base : ℕ) → list_all (is_sound count) es ≡ true → count ≤ f.cells →
    base + args_width es ≤ f.cells → AllValid f (args_instrs base es)
args_valid f count [] base sound variables cells = refl
args_valid f count (e ∷ es) base sound variables cells =
    let both : (is_sound count e ≡ true) × (list_all (is_sound count) es ≡ true) = and_parts (is_sound count e) (list_all (is_sound count) es) sound in
    let here : base + width e ≤ f.cells = omega (arith, le-max_left (width e) (args_width es + 1)) in
    let there : (base + 1) + args_width es ≤ f.cells = omega (arith, le-max_right (width e) (args_width es + 1)) in
    let to : base < f.cells = omega (arith, width_positive e) in
    valid_append f (instrs base base e) (args_instrs (base + 1) es)
    (expr_valid f count e base base (sound_declared count e both.0) variables to here)
    (args_valid f count es (base + 1) both.1 variables there)

-- each argument has a cell
args_width_length : (es : List Expr) → length es ≤ args_width es
args_width_length [] = omega arith
args_width_length (e ∷ es) = omega (arith, args_width_length es, le-max_right (width e) (args_width es + 1))

cells_valid : (f : Function) (base n : ℕ) → base + n ≤ f.cells → list_all (is_cell f) (range_with_len base n) ≡ true
cells_valid f base zero h = refl
cells_valid f base (suc n) h =
    and_from (is_cell f base) (list_all (is_cell f) (range_with_len (base + 1) n)) (cell_below f base (omega arith)) (cells_valid f (base + 1) n (omega arith))

-- ---- the ends of fibers

pub ends_last-append : (is : List Instr) (x : Instr) (js : List Instr) → ends_last (is ++ x ∷ js) ≡ ends_last (x ∷ js)
ends_last-append [] x js = refl
ends_last-append (y ∷ []) x js = refl
ends_last-append (y ∷ z ∷ is) x js = ends_last-append (z ∷ is) x js

-- ---- fibers

-- a function with one slot and one result, and with cells for variables and for the result of a program
record Suits (count : ℕ) (r : Expr) (f : Function) : Type 0 where
  slots : f.slots ≡ 1
  results : f.results ≡ 1
  variables : count ≤ f.cells
  sound : is_sound count r ≡ true
  cells : count + width r ≤ f.cells

set_up : (f : Function) (before rest : List Fiber) (is js : List Instr) (n : ℕ) →
    f.fibers ≡ before ++ fiber (is ++ i.InitSync 0 1 1 n ∷ js) ∷ rest → is_set_up f 0 ≡ true
set_up f before rest is js n e =
    let here : list_any (sets_up 0) (is ++ i.InitSync 0 1 1 n ∷ js) ≡ true =
    list_any-append (sets_up 0) is (i.InitSync 0 1 1 n ∷ js)
    ∙ or_right (list_any (sets_up 0) is) (list_any (sets_up 0) (i.InitSync 0 1 1 n ∷ js)) (or_left true (list_any (sets_up 0) js) refl) in
    let sets : Fiber → Bool = λ x. list_any (sets_up 0) x.instrs in
    let x : Fiber = fiber (is ++ i.InitSync 0 1 1 n ∷ js) in
    ap (list_any sets) e ∙ (list_any-append sets before (x ∷ rest)
    ∙ or_right (list_any sets before) (list_any sets (x ∷ rest)) (or_left (sets x) (list_any sets rest) here))

slot_valid : (f : Function) → f.slots ≡ 1 → is_set_up f 0 ≡ true → is_slot f 0 ≡ true
slot_valid f e h = and_from (nat_lt 0 f.slots) (is_set_up f 0) (lt-ltb 0 f.slots (omega arith)) h

init_sync_valid : (f : Function) (n : ℕ) → is_slot f 0 ≡ true → n < length f.fibers → valid_instr f (i.InitSync 0 1 1 n) ≡ true
init_sync_valid f n slot h = three (is_slot f 0 && true) true (nat_lt n (length f.fibers)) (and_from (is_slot f 0) true slot refl) refl (lt-ltb n (length f.fibers) h)

asks_for-asks : (o : Option ℕ) (n : ℕ) → asks o n ≡ true → asks_for n o ≡ true
asks_for-asks None n h = h
asks_for-asks (Some m) n h = h

-- what a sound `printf` keeps
record Asks (count : ℕ) (s : List ℕ) (es : List Expr) : Type 0 where
  string : is_format s (length es) ≡ true
  values : list_all (is_sound count) es ≡ true

sound_print : (count : ℕ) (s : List ℕ) (es : List Expr) → is_sound_stmt count (Print s es) ≡ true → Asks count s es
sound_print count s es h =
    let short : Bool = nat_le (length s) MAX_STRING in
    let asked : Bool = asks (conversions s) (length es) in
    let few : Bool = nat_le (length es) MAX_PRINT_ARGUMENTS in
    let last : ((short && asked && few) ≡ true) × (list_all (is_sound count) es ≡ true) = and_parts (short && asked && few) (list_all (is_sound count) es) h in
    let two : ((short && asked) ≡ true) × (few ≡ true) = and_parts (short && asked) few last.0 in
    let one : (short ≡ true) × (asked ≡ true) = and_parts short asked two.0 in
    record {
      string = and_from short (asks_for (length es) (conversions s)) one.0 (asks_for-asks (conversions s) (length es) one.1);
      values = last.1;
    }

print_sync_valid : (f : Function) (base : ℕ) (s : List ℕ) (es : List Expr) → is_slot f 0 ≡ true → is_format s (length es) ≡ true →
    base + length es ≤ f.cells → valid_instr f (i.PrintSync s (range_with_len base (length es)) 0) ≡ true
print_sync_valid f base s es slot string cells =
    let cs : List ℕ = range_with_len base (length es) in
    three (is_format s (length cs)) (list_all (is_cell f) cs) (is_slot f 0)
    (ap (is_format s) (length-range_with_len base (length es)) ∙ string) (cells_valid f base (length es) cells) slot

print_valid : (f : Function) (count k : ℕ) (s : List ℕ) (es : List Expr) (done : List Instr) → AllValid f done → count ≤ f.cells →
    Asks count s es → count + args_width es ≤ f.cells → is_slot f 0 ≡ true → k + 1 < length f.fibers →
    valid_fiber f (fiber (done ++ print_instrs count k s es)) ≡ true
print_valid f count k s es done valid variables asked cells slot next =
    let init : Instr = i.InitSync 0 1 1 (k + 1) in
    let print : Instr = i.PrintSync s (range_with_len count (length es)) 0 in
    let end : List Instr = print ∷ i.EndFiber ∷ [] in
    let grouped : done ++ (args_instrs count es ++ init ∷ end) ≡ done ++ args_instrs count es ++ init ∷ end = sym (append_assoc done (args_instrs count es) (init ∷ end)) in
    let room : count + length es ≤ f.cells = omega (arith, args_width_length es) in
    and_from (ends_last (done ++ print_instrs count k s es)) (list_all (valid_instr f) (done ++ print_instrs count k s es))
    (ap ends_last grouped ∙ ends_last-append (done ++ args_instrs count es) init end)
    (valid_append f done (print_instrs count k s es) valid
    (valid_append f (args_instrs count es) (init ∷ end) (args_valid f count es count asked.values variables cells)
    (valid_more f init end (init_sync_valid f (k + 1) slot next)
    (valid_more f print (i.EndFiber ∷ []) (print_sync_valid f count s es slot asked.string room) refl))))

result_valid : (f : Function) (count : ℕ) (r : Expr) (done : List Instr) → Suits count r f → AllValid f done →
    valid_fiber f (fiber (done ++ instrs count count r ++ i.EndFunction (count ∷ []) ∷ [])) ≡ true
result_valid f count r done suits valid =
    let end : Instr = i.EndFunction (count ∷ []) in
    let to : count < f.cells = omega (arith, width_positive r) in
    let ended : valid_instr f end ≡ true = and_from (1 == f.results) (is_cell f count && true) (eq-eqb 1 f.results (sym suits.results)) (and_from (is_cell f count) true (cell_below f count to) refl) in
    and_from (ends_last (done ++ instrs count count r ++ end ∷ [])) (list_all (valid_instr f) (done ++ instrs count count r ++ end ∷ []))
    (ends_last-append (done ++ instrs count count r) end [])
    (valid_append f (done ++ instrs count count r) (end ∷ [])
    (valid_append f done (instrs count count r) valid
    (expr_valid f count r count count (sound_declared count r suits.sound) suits.variables to suits.cells))
    (valid_one f end ended))

fibers_some : (base k : ℕ) (done : List Instr) (ss : List Stmt) (r : Expr) → 1 ≤ length (fibers base k done ss r)
fibers_some base k done [] r = omega arith
fibers_some base k done (Set x e ∷ ss) r = fibers_some base k (done ++ instrs x base e) ss r
fibers_some base k done (Print s es ∷ ss) r = omega arith

fibers_valid : (f : Function) (count : ℕ) (r : Expr) → Suits count r f → (ss : List Stmt) (k : ℕ) (before : List Fiber) (done : List Instr) →
    list_all (is_sound_stmt count) ss ≡ true → count + widest stmt_width ss ≤ f.cells →
    f.fibers ≡ before ++ fibers count k done ss r → length before ≡ k → AllValid f done →
    list_all (valid_fiber f) (fibers count k done ss r) ≡ true
fibers_valid f count r suits [] k before done sound cells is number valid =
    and_from (valid_fiber f (fiber (done ++ instrs count count r ++ i.EndFunction (count ∷ []) ∷ []))) true (result_valid f count r done suits valid) refl
fibers_valid f count r suits (Set x e ∷ ss) k before done sound cells is number valid =
    let all : (is_sound_stmt count (Set x e) ≡ true) × (list_all (is_sound_stmt count) ss ≡ true) = and_parts (is_sound_stmt count (Set x e)) (list_all (is_sound_stmt count) ss) sound in
    let here : (nat_lt x count ≡ true) × (is_sound count e ≡ true) = and_parts (nat_lt x count) (is_sound count e) all.0 in
    let variable : x < count = ltb-true x count here.0 in
    let variables : count ≤ f.cells = suits.variables in
    let to : x < f.cells = omega arith in
    let room : count + width e ≤ f.cells = omega (arith, le-max_left (width e) (widest stmt_width ss)) in
    let rest : count + widest stmt_width ss ≤ f.cells = omega (arith, le-max_right (width e) (widest stmt_width ss)) in
    fibers_valid f count r suits ss k before (done ++ instrs x count e) all.1 rest is number
    (valid_append f done (instrs x count e) valid (expr_valid f count e x count (sound_declared count e here.1) variables to room))
fibers_valid f count r suits (Print s es ∷ ss) k before done sound cells is number valid =
    let all : (is_sound_stmt count (Print s es) ≡ true) × (list_all (is_sound_stmt count) ss ≡ true) = and_parts (is_sound_stmt count (Print s es)) (list_all (is_sound_stmt count) ss) sound in
    let room : count + args_width es ≤ f.cells = omega (arith, le-max_left (args_width es) (widest stmt_width ss)) in
    let left : count + widest stmt_width ss ≤ f.cells = omega (arith, le-max_right (args_width es) (widest stmt_width ss)) in
    let x : Fiber = fiber (done ++ print_instrs count k s es) in
    let rest : List Fiber = fibers count (k + 1) [] ss r in
    let end : List Instr = i.PrintSync s (range_with_len count (length es)) 0 ∷ i.EndFiber ∷ [] in
    let grouped : before ++ x ∷ rest ≡ before ++ fiber (done ++ args_instrs count es ++ i.InitSync 0 1 1 (k + 1) ∷ end) ∷ rest =
    ap (λ is. before ++ fiber is ∷ rest) (sym (append_assoc done (args_instrs count es) (i.InitSync 0 1 1 (k + 1) ∷ end))) in
    let slot : is_slot f 0 ≡ true = slot_valid f suits.slots (set_up f before rest (done ++ args_instrs count es) end (k + 1) (is ∙ grouped)) in
    let many : length f.fibers ≡ length before + length (x ∷ rest) = ap length is ∙ length-append before (x ∷ rest) in
    let next : k + 1 < length f.fibers = omega (arith, fibers_some count (k + 1) [] ss r) in
    let after : f.fibers ≡ (before ++ x ∷ []) ++ rest = is ∙ sym (append_assoc before (x ∷ []) rest) in
    let more : length (before ++ x ∷ []) ≡ k + 1 = omega (arith, length-append before (x ∷ [])) in
    and_from (valid_fiber f x) (list_all (valid_fiber f) rest)
    (print_valid f count k s es done valid suits.variables (sound_print count s es all.0) room slot next)
    (fibers_valid f count r suits ss (k + 1) (before ++ x ∷ []) [] all.1 left after more refl)

-- ---- initialisers

inits_valid : (f : Function) (count x : ℕ) (os : List (Option Expr)) → list_all (is_sound_init count) os ≡ true → count ≤ f.cells →
    count + widest init_width os ≤ f.cells → x + length os ≤ count → AllValid f (init_instrs count x os)
inits_valid f count x [] sound variables cells few = refl
inits_valid f count x (None ∷ os) sound variables cells few =
    inits_valid f count (x + 1) os sound variables (omega (arith, le-max_right 0 (widest init_width os))) (omega arith)
inits_valid f count x (Some e ∷ os) sound variables cells few =
    let all : (is_sound count e ≡ true) × (list_all (is_sound_init count) os ≡ true) = and_parts (is_sound count e) (list_all (is_sound_init count) os) sound in
    let room : count + width e ≤ f.cells = omega (arith, le-max_left (width e) (widest init_width os)) in
    let left : count + widest init_width os ≤ f.cells = omega (arith, le-max_right (width e) (widest init_width os)) in
    valid_append f (instrs x count e) (init_instrs count (x + 1) os)
    (expr_valid f count e x count (sound_declared count e all.0) variables (omega arith) room)
    (inits_valid f count (x + 1) os all.1 variables left (omega arith))

-- ---- the program

main_suits : (p : Program) → Sound p → Suits (length p.inits) p.result (main_of p)
main_suits p sound = record {
  slots = refl;
  results = refl;
  variables = omega arith;
  sound = sound.result;
  cells = omega (arith, le-max_right (widest stmt_width p.stmts) (width p.result), le-max_right (widest init_width p.inits) (max (widest stmt_width p.stmts) (width p.result)));
}

main_valid : (p : Program) → Sound p → list_all (valid_fiber (main_of p)) (main_of p).fibers ≡ true
main_valid p sound =
    let count : ℕ = length p.inits in
    let inits : count + widest init_width p.inits ≤ (main_of p).cells =
    omega (arith, le-max_left (widest init_width p.inits) (max (widest stmt_width p.stmts) (width p.result))) in
    let stmts : count + widest stmt_width p.stmts ≤ (main_of p).cells =
    omega (arith, le-max_left (widest stmt_width p.stmts) (width p.result), le-max_right (widest init_width p.inits) (max (widest stmt_width p.stmts) (width p.result))) in
    fibers_valid (main_of p) count p.result (main_suits p sound) p.stmts 0 [] (init_instrs count 0 p.inits) sound.stmts stmts refl refl
    (inits_valid (main_of p) count 0 p.inits sound.inits (omega arith) inits (omega arith))

pub valid_code : (p : Program) → Sound p → valid (code_of p) ≡ true
valid_code p sound =
    let f : Function = main_of p in
    let some : nat_lt 0 (length f.fibers) ≡ true = lt-ltb 0 (length f.fibers) (fibers_some (length p.inits) 0 (init_instrs (length p.inits) 0 p.inits) p.stmts p.result) in
    let params : nat_le 0 f.cells ≡ true = le-leb 0 f.cells (omega arith) in
    and_from (valid_function f) true
    (and_from (nat_le 0 f.cells && nat_lt 0 (length f.fibers)) (list_all (valid_fiber f) f.fibers)
    (and_from (nat_le 0 f.cells) (nat_lt 0 (length f.fibers)) params some) (main_valid p sound))
    refl
