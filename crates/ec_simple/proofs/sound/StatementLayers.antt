-- Statements, layer by layer.
use Rattle.std.proofs.Common.{◌≡◌, refl, sym, ◌∙◌, ap, subst, ℕ, Bool, true, false, if◌then◌else◌, not, ◌||◌, List, [], ◌∷◌, ◌++◌, length, map, Option, Some, None, option_map, Ok, true≢false}
use Rattle.std.proofs.lemmas.List.{map-append}
use Rattle.ec_base.specs.declared.reason.Reason.TheVariants.{Mismatch, ReturnInside, PrintInside}
use Rattle.ec_base.specs.declared.text.Text.{Text}
use Rattle.ec_base.specs.declared.token.Span.{Span}
use Rattle.ec_base.specs.Format.{conversions}
use Rattle.ec_simple.specs.Expressions.{Scope}
use Rattle.ec_simple.specs.Kinds.{KindsReturn, KindsStmt, KindsElse, KindsStmts, KindsDecls}
use Rattle.ec_simple.specs.Lower.{shapes}
use Rattle.ec_simple.specs.Sound.{SoundPart, SoundStmt, SoundElse, SoundStmts, SoundDecls, with_declared}
use Rattle.ec_syntax.specs.declared.expression.Call.{Call}
use Rattle.ec_syntax.specs.declared.expression.Expr.{Expr}
use Rattle.ec_syntax.specs.declared.item.Func.{Func}
use Rattle.ec_syntax.specs.declared.item.StructDef.{StructDef}
use Rattle.ec_syntax.specs.declared.name.Name.{Name}
use Rattle.ec_syntax.specs.declared.statement.Assign.{Assign}
use Rattle.ec_syntax.specs.declared.statement.Decl.{Decl}
use Rattle.ec_types.specs.Assignments.{assigned, condition}
use Rattle.ec_types.specs.Context.{inside_of, with_scope}
use Rattle.ec_types.specs.declared.value_type.ExprType.{ExprType}
use Rattle.ec_types.specs.declared.value_type.ExprType.TheVariants.{Value}
use Rattle.ec_types.specs.declared.value_type.ValueType.{ValueType}
use Rattle.ec_types.specs.Declarations.{is_result}
use Rattle.ec_types.specs.Expressions.{judged_call, value}
use Rattle.ec_types.specs.Headers.{header}
use Rattle.ec_types.specs.Judged.{fine, must, refused, refused_beside, every, optional, ◌and_then◌, ◌also◌}
use Rattle.ec_types.specs.Meaning.Resolution as resolution
use Rattle.ec_types.specs.Meaning.Resolution.{valued_as, initial}
use Rattle.ec_types.specs.Meaning.Tree as t
use Rattle.ec_types.specs.Meaning.Tree.{Stmt, Else, Stmts, stmts}
use Rattle.ec_types.specs.Names.{distinct}
use Rattle.ec_types.specs.Operators.{assignable}
use Rattle.ec_types.specs.Statements.{There, asks, counts, sends, prints as printing, returned, returns, evaluated, for_header, forall_header, declares, each_in, otherwise}
use Rattle.ec_types.specs.Types.{is_void, is_int, is_pointer}
use Rattle.ec_simple.proofs.sound.AssignmentKinds.{put_kinds, condition_kinds, sends_kinds, list_kinds, test_kinds, assignment_kinds, optional_kinds}
use Rattle.ec_simple.proofs.sound.Assignments.{value_sound, condition_sound, sends_sound, list_sound, test_sound, assignment_sound, optional_sound}
use Rattle.ec_simple.proofs.sound.Declarations.{declarations_sound}
use Rattle.ec_simple.proofs.sound.Headers.{header_sets}
use Rattle.ec_simple.proofs.sound.Each.{Each, each_append, each_front, each_back}
use Rattle.ec_simple.proofs.sound.Expressions.{Program, there, resolving, call_becomes}
use Rattle.ec_simple.proofs.sound.Right.{fine_left, fine_right, also_left, also_right, must_hold, not_right}
use Rattle.ec_simple.proofs.sound.Scopes.{Standing, IsNamed, Apart, apart, later}
use Rattle.ec_simple.proofs.sound.ShapeNumbers.{IsKnown}
use Rattle.ec_simple.proofs.sound.Types.{is_single, assignable_stands}

-- where a part stands that declares these: they are named, and declared once
pub record Declaring (ss : List StructDef) (vs scope : List Decl) (sc : List ℕ) (before : List Name)
    (ds : List Decl) : Type 0 where
  pub standing : Standing ss vs scope sc before
  pub named : Each (IsNamed vs) ds
  pub once : distinct before (map (λ d. d.name) ds) ≡ Ok tt

module _ (ss : List StructDef) (vs scope : List Decl) (sc : List ℕ) (before : List Name) (a b : List Decl)
    (h : Declaring ss vs scope sc before (a ++ b)) where
  names_apart : Apart before (map (λ d. d.name) a) (map (λ d. d.name) b)
  names_apart =
      apart before (map (λ d. d.name) a) (map (λ d. d.name) b)
      (subst (λ l. distinct before l ≡ Ok tt) (map-append (λ d. d.name) a b) h.once)

  pub front_declares : Declaring ss vs scope sc before a
  front_declares =
      record { standing = h.standing; named = each_front (IsNamed vs) a b h.named; once = names_apart.front }

  pub back_declares : Declaring ss vs scope sc (before ++ map (λ d. d.name) a) b
  back_declares = record {
    standing = later ss vs scope sc before (map (λ d. d.name) a) h.standing;
    named = each_back (IsNamed vs) a b h.named;
    once = names_apart.back;
  }

-- what is shown of a part that declares these: it is sound, it has its kinds, and the structs of its declarations are known
pub record Shown (Sounds HasKinds : Type 0) (ss : List StructDef) (ds : List Decl) : Type 0 where
  pub sound : Sounds
  pub kinds : HasKinds
  pub known : Each (IsKnown ss) ds

-- what a function of this result gives
abbrev pub gives : ValueType → Option Bool
gives result = if is_void result then None else Some (is_pointer result)

module _ (ss : List StructDef) (fs : List Func) (vs : List Decl) (c : Scope) (program : Program ss fs vs c)
    (prints : Text → Option Span) (result : ValueType) where
  abbrev s : resolution.Scope
  s = resolving ss fs vs

  -- ---- what is shown of statements, and of lists of them

  abbrev pub Shows : There → Stmt → List Decl → Type 0
  Shows j q ds =
      (inside : Bool) (scope : List Decl) (sc : List ℕ) (before : List Name) → Declaring ss vs scope sc before ds →
      j (there ss fs prints result inside scope) ≡ Ok tt →
      Shown (SoundStmt (shapes ss) c (not inside) sc q) (KindsStmt (shapes ss) c (gives result) q) ss ds

  abbrev pub ElseShows : Option There → Else → List Decl → Type 0
  ElseShows o z ds =
      (inside : Bool) (scope : List Decl) (sc : List ℕ) (before : List Name) → Declaring ss vs scope sc before ds →
      otherwise o (there ss fs prints result inside scope) ≡ Ok tt →
      Shown (SoundElse (shapes ss) c (not inside) sc z) (KindsElse (shapes ss) c (gives result) z) ss ds

  abbrev pub AllShow : List There → Stmts → List Decl → Type 0
  AllShow js q ds =
      (inside : Bool) (scope : List Decl) (sc : List ℕ) (before : List Name) → Declaring ss vs scope sc before ds →
      every (each_in (there ss fs prints result inside scope) js) ≡ Ok tt →
      Shown (SoundStmts (shapes ss) c (not inside) sc q) (KindsStmts (shapes ss) c (gives result) q) ss ds

  abbrev pub BodyShows : There → List t.Decl × Stmts → List Decl → Type 0
  BodyShows j b ds =
      (inside : Bool) (scope : List Decl) (sc : List ℕ) (before : List Name) → Declaring ss vs scope sc before ds →
      j (there ss fs prints result inside scope) ≡ Ok tt →
      Shown
      (SoundDecls (shapes ss) c sc b.0 × SoundStmts (shapes ss) c (not inside) (with_declared (shapes ss) c b.0 sc) b.1)
      (KindsDecls (shapes ss) c b.0 × KindsStmts (shapes ss) c (gives result) b.1) ss ds

  -- ---- statements without others in them

  pub of_empty : Shows (λ x. fine) t.Skip []
  of_empty inside scope sc before h e = record { sound = tt; kinds = tt; known = tt }

  pub no_else : ElseShows None t.NoElse []
  no_else inside scope sc before h e = record { sound = tt; kinds = tt; known = tt }

  pub of_set : (at : Span) (a : Assign) → Shows (λ x. assigned x at a) (t.Set (resolution.assignment s a)) []
  of_set at a inside scope sc before h e = record {
    sound = assignment_sound ss fs vs c program prints result inside scope sc h.standing.decls at a e;
    kinds = assignment_kinds ss fs vs c program prints result inside scope sc h.standing.decls at a e;
    known = tt;
  }

  pub of_eval : (k : Call) → Shows (λ x. evaluated x k) (t.Eval (resolution.resolved_call s k).0) []
  of_eval k inside scope sc before h e =
      let r = also_right fine (judged_call (there ss fs prints result inside scope) k) tt e in
      let g = call_becomes ss fs vs c program prints result inside scope sc h.standing.decls k r.0 r.1 in
      record { sound = g.call; kinds = g.kinds; known = tt }

  pub of_write :
      (at : Span) (to e : Expr) → Shows (λ x. sends x at to e) (t.WriteTo at (valued_as s to) (valued_as s e)) []
  of_write at to e inside scope sc before h r = record {
    sound = sends_sound ss fs vs c program prints result inside scope sc h.standing.decls at to e r;
    kinds = sends_kinds ss fs vs c program prints result inside scope sc h.standing.decls at to e r;
    known = tt;
  }

  pub of_add :
      (at : Span) (to e : Expr) → Shows (λ x. sends x at to e) (t.AddTo at (valued_as s to) (valued_as s e)) []
  of_add at to e inside scope sc before h r = record {
    sound = sends_sound ss fs vs c program prints result inside scope sc h.standing.decls at to e r;
    kinds = sends_kinds ss fs vs c program prints result inside scope sc h.standing.decls at to e r;
    known = tt;
  }

  pub of_print :
      (at : Span) (string : List ℕ) (es : List Expr) →
      Shows (λ x. printing x at string es) (t.Print string (resolution.value_list s es)) []
  of_print at string es inside scope sc before h e =
      let x = there ss fs prints result inside scope in
      let first = must (asks (conversions string) (length es)) Mismatch at in
      let second = every (map (counts x at) es) in
      let third = if inside then refused_beside PrintInside at at else fine in
      let right = fine_left second third (fine_right first (second also third) e) in
      record {
        sound = list_sound ss fs vs c program prints result inside scope sc h.standing.decls at es right;
        kinds = list_kinds ss fs vs c program prints result inside scope sc h.standing.decls at es right;
        known = tt;
      }

  -- ---- `return`

  outside : (at : Span) (b : Bool) → (if b then refused ReturnInside at else fine) ≡ Ok tt → not b ≡ true
  outside at true e = not_right e
  outside at false e = refl

  result_by : (a b d : Bool) → (a || b || d) ≡ true → a ≡ false → (b || d) ≡ true
  result_by true b d h e = absurd (true≢false e)
  result_by false b d h e = h

  gives_by : (b : Bool) → is_void result ≡ b → gives result ≡ (if b then None else Some (is_pointer result))
  gives_by b e = ap (λ v. if v then None else Some (is_pointer result)) e

  module _ (right : is_result result ≡ true) where
    abbrev Returned : List ℕ → t.Part → Type 0
    Returned sc e = SoundPart (shapes ss) c sc e × KindsReturn (shapes ss) c (gives result) e

    returned_by :
        (at : Span) (e : Expr) (inside : Bool) (scope : List Decl) (sc : List ℕ) (before : List Name)
        (ds : List Decl) (b : Bool) →
        is_void result ≡ b → Declaring ss vs scope sc before ds →
        (if b then (refused Mismatch at also value (there ss fs prints result inside scope) e)
        else (value (there ss fs prints result inside scope) e and_then
        (λ u. must (assignable (Value result) u) Mismatch at))) ≡ Ok tt →
        Returned sc (initial s (Some e))
    returned_by at e inside scope sc before ds true void h r =
        not_right (also_left (refused Mismatch at) (value (there ss fs prints result inside scope) e) tt r)
    returned_by at e inside scope sc before ds false void h r =
        let single : is_single result ≡ true =
        result_by (is_void result) (is_int result) (is_pointer result) right void in
        let test = λ (u : ExprType). must (assignable (Value result) u) Mismatch at in
        let fits = λ (u : ExprType) (k : test u ≡ Ok tt). must_hold (assignable (Value result) u) Mismatch at k in
        let k =
        put_kinds ss fs vs c program prints result inside scope sc h.standing.decls result single test fits e r in (
          value_sound ss fs vs c program prints result inside scope sc h.standing.decls test
              (λ u k. assignable_stands result u single (fits u k)) e r,
          (k.0, gives_by false void ∙ ap Some (sym k.1)),
        )

    returned_shown :
        (at : Span) (o : Option Expr) (inside : Bool) (scope : List Decl) (sc : List ℕ) (before : List Name)
        (ds : List Decl) →
        Declaring ss vs scope sc before ds → returned (there ss fs prints result inside scope) at o ≡ Ok tt →
        Returned sc (initial s o)
    returned_shown at None inside scope sc before ds h e =
        (tt, gives_by true (must_hold (is_void result) Mismatch at e))
    returned_shown at (Some e) inside scope sc before ds h r =
        returned_by at e inside scope sc before ds (is_void result) refl h r

    pub of_return : (at : Span) (o : Option Expr) → Shows (λ x. returns x at o) (t.Return (initial s o)) []
    of_return at o inside scope sc before h e =
        let first = returned (there ss fs prints result inside scope) at o in
        let second = if inside then refused ReturnInside at else fine in
        let r = returned_shown at o inside scope sc before [] h (fine_left first second e) in
        record { sound = (outside at inside (fine_right first second e), r.0); kinds = r.1; known = tt }

  -- ---- statements that hold others

  pub of_if :
      (at : Span) (e : Expr) (j : There) (q : Stmt) (ds : List Decl) (o : Option There) (z : Else) (es : List Decl) →
      Shows j q ds → ElseShows o z es →
      Shows (λ x. condition x at e also j x also otherwise o x) (t.If (valued_as s e) q z) (ds ++ es)
  of_if at e j q ds o z es a b inside scope sc before h r =
      let x = there ss fs prints result inside scope in
      let all = h.standing.decls in
      let test = fine_left (condition x at e) (j x also otherwise o x) r in
      let rest = fine_right (condition x at e) (j x also otherwise o x) r in
      let l =
      a inside scope sc before (front_declares ss vs scope sc before ds es h) (fine_left (j x) (otherwise o x) rest) in
      let m =
      b inside scope sc (before ++ map (λ d. d.name) ds) (back_declares ss vs scope sc before ds es h)
      (fine_right (j x) (otherwise o x) rest) in
      record {
        sound =
            (condition_sound ss fs vs c program prints result inside scope sc all at e test, l.sound, m.sound);
        kinds =
            (condition_kinds ss fs vs c program prints result inside scope sc all at e test, l.kinds, m.kinds);
        known = each_append (IsKnown ss) ds es l.known m.known;
      }

  pub of_while :
      (at : Span) (e : Expr) (j : There) (q : Stmt) (ds : List Decl) → Shows j q ds →
      Shows (λ x. condition x at e also j x) (t.While (valued_as s e) q) ds
  of_while at e j q ds a inside scope sc before h r =
      let x = there ss fs prints result inside scope in
      let all = h.standing.decls in
      let test = fine_left (condition x at e) (j x) r in
      let l = a inside scope sc before h (fine_right (condition x at e) (j x) r) in
      record {
        sound = (condition_sound ss fs vs c program prints result inside scope sc all at e test, l.sound);
        kinds = (condition_kinds ss fs vs c program prints result inside scope sc all at e test, l.kinds);
        known = l.known;
      }

  pub of_for :
      (at : Span) (i : Option Assign) (e : Option Expr) (n : Option Assign) (j : There) (q : Stmt) (ds : List Decl) →
      Shows j q ds →
      Shows (λ x. for_header x at i e n also j x)
      (t.For at (option_map (resolution.assignment s) i) (initial s e) (option_map (resolution.assignment s) n) q) ds
  of_for at i e n j q ds a inside scope sc before h r =
      let x = there ss fs prints result inside scope in
      let all = h.standing.decls in
      let first = optional (assigned x at) i in
      let second = optional (condition x at) e in
      let third = optional (assigned x at) n in
      let head = fine_left (for_header x at i e n) (j x) r in
      let rest = fine_right first (second also third) head in
      let start = fine_left first (second also third) head in
      let test = fine_left second third rest in
      let step = fine_right second third rest in
      let l = a inside scope sc before h (fine_right (for_header x at i e n) (j x) r) in
      record {
        sound = (
          optional_sound ss fs vs c program prints result inside scope sc all at i start,
          test_sound ss fs vs c program prints result inside scope sc all at e test,
          optional_sound ss fs vs c program prints result inside scope sc all at n step,
          l.sound,
        );
        kinds = (
          optional_kinds ss fs vs c program prints result inside scope sc all at i start,
          test_kinds ss fs vs c program prints result inside scope sc all at e test,
          optional_kinds ss fs vs c program prints result inside scope sc all at n step,
          l.kinds,
        );
        known = l.known;
      }

  pub of_forall :
      (at : Span) (i : Assign) (e : Expr) (n : Assign) (j : There) (q : Stmt) (ds : List Decl) → Shows j q ds →
      Shows (λ x. forall_header x at i e n also j (inside_of x))
      (t.Forall at (resolution.assignment s i) (valued_as s e) (resolution.assignment s n) q) ds
  of_forall at i e n j q ds a inside scope sc before h r =
      let x = there ss fs prints result inside scope in
      let all = h.standing.decls in
      let first = assigned x at i in
      let second = condition x at e in
      let third = assigned x at n in
      let last = header x i e n in
      let head = fine_left (forall_header x at i e n) (j (inside_of x)) r in
      let rest = fine_right first (second also third also last) head in
      let start = fine_left first (second also third also last) head in
      let test = fine_left second (third also last) rest in
      let step = fine_left third last (fine_right second (third also last) rest) in
      let l = a true scope sc before h (fine_right (forall_header x at i e n) (j (inside_of x)) r) in
      record {
        sound = (
          assignment_sound ss fs vs c program prints result inside scope sc all at i start,
          condition_sound ss fs vs c program prints result inside scope sc all at e test,
          assignment_sound ss fs vs c program prints result inside scope sc all at n step,
          l.sound,
        );
        kinds = (
          assignment_kinds ss fs vs c program prints result inside scope sc all at i start,
          condition_kinds ss fs vs c program prints result inside scope sc all at e test,
          assignment_kinds ss fs vs c program prints result inside scope sc all at n step,
          l.kinds,
          header_sets ss fs vs c program prints result inside scope sc all at i e n start
              (fine_right third last (fine_right second (third also last) rest)),
        );
        known = l.known;
      }

  pub of_par :
      (at : Span) (js : List There) (q : Stmts) (ds : List Decl) → AllShow js q ds →
      Shows (λ x. every (each_in (inside_of x) js)) (t.Par at q) ds
  of_par at js q ds a inside scope sc before h r = a true scope sc before h r

  -- ---- lists and bodies

  pub none_shown : AllShow [] t.End []
  none_shown inside scope sc before h e = record { sound = tt; kinds = tt; known = tt }

  pub more_shown :
      (j : There) (js : List There) (q : Stmt) (qs : Stmts) (ds es : List Decl) → Shows j q ds → AllShow js qs es →
      AllShow (j ∷ js) (t.Then q qs) (ds ++ es)
  more_shown j js q qs ds es a b inside scope sc before h e =
      let x = there ss fs prints result inside scope in
      let rest = every (each_in x js) in
      let l = a inside scope sc before (front_declares ss vs scope sc before ds es h) (fine_left (j x) rest e) in
      let m =
      b inside scope sc (before ++ map (λ d. d.name) ds) (back_declares ss vs scope sc before ds es h)
      (fine_right (j x) rest e) in
      record {
        sound = (l.sound, m.sound);
        kinds = (l.kinds, m.kinds);
        known = each_append (IsKnown ss) ds es l.known m.known;
      }

  pub of_body :
      (ds : List Decl) (js : List There) (qs : Stmts) (es : List Decl) → AllShow js qs es →
      BodyShows (λ x. declares ds x also every (each_in (with_scope ds x) js))
      (map (resolution.declaration s) ds, qs) (ds ++ es)
  of_body ds js qs es a inside scope sc before h e =
      let x = there ss fs prints result inside scope in
      let rest = every (each_in (with_scope ds x) js) in
      let front = front_declares ss vs scope sc before ds es h in
      let back = back_declares ss vs scope sc before ds es h in
      let k =
      declarations_sound ss fs vs c program prints result inside ds scope sc before h.standing front.named
      front.once (fine_left (declares ds x) rest e) in
      let l =
      a inside (scope ++ ds) (with_declared (shapes ss) c (map (resolution.declaration s) ds) sc)
      (before ++ map (λ d. d.name) ds) (record { standing = k.standing; named = back.named; once = back.once })
      (fine_right (declares ds x) rest e) in
      record {
        sound = (k.sound, l.sound);
        kinds = (k.kinds, l.kinds);
        known = each_append (IsKnown ss) ds es k.known l.known;
      }
