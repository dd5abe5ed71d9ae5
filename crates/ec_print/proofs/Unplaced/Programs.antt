-- What is written of a statement or program is written of its image without places.
use Rattle.std.proofs.Common.{◌≡◌, refl, sym, ◌∙◌, ap, ap₂, subst, map, codes, Option, Some, None}
use Rattle.ec_base.specs.declared.token.Mark.TheVariants as m
use Rattle.ec_base.specs.declared.token.TokenKind.TheVariants as t
use Rattle.ec_syntax.specs.declared.expression.Expr.{Expr}
use Rattle.ec_syntax.specs.declared.item.Field.{Field}
use Rattle.ec_syntax.specs.declared.item.Item.{Item}
use Rattle.ec_syntax.specs.declared.item.Item.TheVariants.{Struct as StructItem, Func as FuncItem}
use Rattle.ec_syntax.specs.declared.item.Program.{Program}
use Rattle.ec_syntax.specs.declared.statement.Assign.{Assign}
use Rattle.ec_syntax.specs.declared.statement.Body.{Body, roll-Body}
use Rattle.ec_syntax.specs.declared.statement.Decl.{Decl}
use Rattle.ec_syntax.specs.declared.statement.Stmt.{Stmt, roll-Stmt}
use Rattle.ec_syntax.specs.declared.statement.StmtKind.{StmtKind, roll-StmtKind}
use Rattle.ec_syntax.specs.declared.statement.StmtKind.TheFolds as F
use Rattle.ec_syntax.specs.declared.statement.StmtKind.TheOpen.{StmtKind-F, Body-F, Stmt-F}
use Rattle.ec_print.specs.Phrase.{Phrase, token, tokens, ◌then◌}
use Rattle.ec_print.specs.Sentence as S
use Rattle.ec_print.specs.Unplaced as U
use Rattle.ec_print.proofs.Again.Simple.{phrase}
use Rattle.ec_print.proofs.Unplaced.Expressions.{Same, optional_same, each_same, all_same, type_same, call_same, expression_same}

-- ---- declarations and assignments

variable_same : (d : Decl) → Same S.variable U.declaration d
variable_same d = ap (λ z. S.mode d.mode then z then S.word d.name.text) (type_same d.ty)

initial_same : (init : Option Expr) → S.optional S.initialiser (U.optional U.expression init) ≡ S.optional S.initialiser init
initial_same = optional_same S.initialiser U.expression (λ e. ap (λ z. S.mark m.Assign then z) (expression_same e))

declaration_same : (d : Decl) → Same S.declaration U.declaration d
declaration_same d = ap₂ (λ y z. y then z then S.mark m.Semicolon) (variable_same d) (initial_same d.init)

assignment_same : (a : Assign) → Same S.assignment U.assignment a
assignment_same a = ap₂ (λ y z. y then S.mark m.Assign then z) (expression_same a.left) (expression_same a.right)

pair_same : (a b : Expr) → S.pair (U.expression a) (U.expression b) ≡ S.pair a b
pair_same a b = ap₂ (λ y z. S.bracketed (y then S.mark m.Comma then z)) (expression_same a) (expression_same b)

header_same : (i : Option Assign) (c : Option Expr) (e : Option Assign) → S.for_header (U.optional U.assignment i) (U.optional U.expression c) (U.optional U.assignment e) ≡ S.for_header i c e
header_same i c e =
    ap₂ (λ y z. S.header y z (S.optional S.assignment (U.optional U.assignment e))) (optional_same S.assignment U.assignment assignment_same i) (optional_same S.expression U.expression expression_same c)
    ∙ ap (λ z. S.header (S.optional S.assignment i) (S.optional S.expression c) z) (optional_same S.assignment U.assignment assignment_same e)

forall_same : (i : Assign) (c : Expr) (e : Assign) → S.forall_header (U.assignment i) (U.expression c) (U.assignment e) ≡ S.forall_header i c e
forall_same i c e =
    ap₂ (λ y z. S.header y z (S.assignment (U.assignment e))) (assignment_same i) (expression_same c)
    ∙ ap (λ z. S.header (S.assignment i) (S.expression c) z) (assignment_same e)

-- ---- layers

abbrev Kind : StmtKind → Type 0
Kind = Same phrase U.statement_kind

abbrev BodySame : Body → Type 0
BodySame = Same S.body U.body

abbrev Statement : Stmt → Type 0
Statement = Same S.statement U.statement

-- children of which it is known
abbrev Kinds : Type 0
Kinds = (k : StmtKind) × Kind k

abbrev Bodies : Type 0
Bodies = (b : Body) × BodySame b

abbrev Statements : Type 0
Statements = (s : Stmt) × Statement s

abbrev bare : StmtKind-F Kinds Bodies Statements → StmtKind-F StmtKind Body Stmt
bare = F.map-StmtKind Kinds Bodies Statements StmtKind Body Stmt (λ e. e.0) (λ e. e.0) (λ e. e.0)

abbrev layer_image : StmtKind-F StmtKind Body Stmt → StmtKind
layer_image x = U.of_statement_kind (F.map-StmtKind StmtKind Body Stmt StmtKind Body Stmt U.statement_kind U.body U.statement x)

abbrev layer_phrase : StmtKind-F StmtKind Body Stmt → Phrase
layer_phrase x = S.of_statement_kind (F.map-StmtKind StmtKind Body Stmt Phrase Phrase Phrase phrase S.body S.statement x)

-- a layer whose image is this one
kind_by : (x w : StmtKind-F StmtKind Body Stmt) → layer_image x ≡ roll-StmtKind w → layer_phrase w ≡ layer_phrase x → Kind (roll-StmtKind x)
kind_by x w e h =
    ap phrase (F.fold-roll-StmtKind StmtKind Body Stmt U.of_statement_kind U.of_body U.of_statement x ∙ e)
    ∙ F.fold-roll-StmtKind Phrase Phrase Phrase S.of_statement_kind S.of_body S.of_statement w ∙ h
    ∙ sym (F.fold-roll-StmtKind Phrase Phrase Phrase S.of_statement_kind S.of_body S.of_statement x)

kind_layer : (y : StmtKind-F Kinds Bodies Statements) → Kind (roll-StmtKind (bare y))
kind_layer StmtKind-F.Empty = kind_by StmtKind-F.Empty StmtKind-F.Empty refl refl
kind_layer (StmtKind-F.Body b) = kind_by (StmtKind-F.Body b.0) (StmtKind-F.Body (U.body b.0)) refl b.1
kind_layer (StmtKind-F.Par ss) =
    kind_by (bare (StmtKind-F.Par ss)) (StmtKind-F.Par (map U.statement (map (λ (s : Statements). s.0) ss))) refl
    (ap (λ z. S.mark m.OpenPar then S.joined z then S.mark m.ClosePar) (all_same S.statement U.statement ss))
kind_layer (StmtKind-F.If c a None) =
    kind_by (StmtKind-F.If c a.0 None) (StmtKind-F.If (U.expression c) (U.statement a.0) None) refl
    (ap₂ (λ y z. S.word (codes "if") then S.bracketed y then z then Phrase.nothing) (expression_same c) a.1)
kind_layer (StmtKind-F.If c a (Some b)) =
    kind_by (StmtKind-F.If c a.0 (Some b.0)) (StmtKind-F.If (U.expression c) (U.statement a.0) (Some (U.statement b.0))) refl
    (ap₂ (λ y z. S.word (codes "if") then S.bracketed y then z then S.otherwise (S.statement (U.statement b.0))) (expression_same c) a.1
    ∙ ap (λ z. S.word (codes "if") then S.bracketed (S.expression c) then S.statement a.0 then S.otherwise z) b.1)
kind_layer (StmtKind-F.While c s) =
    kind_by (StmtKind-F.While c s.0) (StmtKind-F.While (U.expression c) (U.statement s.0)) refl
    (ap₂ (λ y z. S.word (codes "while") then S.bracketed y then z) (expression_same c) s.1)
kind_layer (StmtKind-F.For i c e s) =
    kind_by (StmtKind-F.For i c e s.0) (StmtKind-F.For (U.optional U.assignment i) (U.optional U.expression c) (U.optional U.assignment e) (U.statement s.0)) refl
    (ap₂ (λ y z. S.word (codes "for") then y then z) (header_same i c e) s.1)
kind_layer (StmtKind-F.Forall i c e s) =
    kind_by (StmtKind-F.Forall i c e s.0) (StmtKind-F.Forall (U.assignment i) (U.expression c) (U.assignment e) (U.statement s.0)) refl
    (ap₂ (λ y z. S.word (codes "forall") then y then z) (forall_same i c e) s.1)
kind_layer (StmtKind-F.Set a) = kind_by (StmtKind-F.Set a) (StmtKind-F.Set (U.assignment a)) refl (ap (λ z. z then S.mark m.Semicolon) (assignment_same a))
kind_layer (StmtKind-F.Eval c) = kind_by (StmtKind-F.Eval c) (StmtKind-F.Eval (U.call c)) refl (ap (λ z. z then S.mark m.Semicolon) (call_same c))
kind_layer (StmtKind-F.WriteTo a b) =
    kind_by (StmtKind-F.WriteTo a b) (StmtKind-F.WriteTo (U.expression a) (U.expression b)) refl (ap (λ z. S.word (codes "writeto") then z then S.mark m.Semicolon) (pair_same a b))
kind_layer (StmtKind-F.AddTo a b) =
    kind_by (StmtKind-F.AddTo a b) (StmtKind-F.AddTo (U.expression a) (U.expression b)) refl (ap (λ z. S.word (codes "addto") then z then S.mark m.Semicolon) (pair_same a b))
kind_layer (StmtKind-F.Print w es) =
    kind_by (StmtKind-F.Print w es) (StmtKind-F.Print w (map U.expression es)) refl
    (ap (λ z. S.word (codes "printf") then S.bracketed (token (t.Str w) then S.further z) then S.mark m.Semicolon) (each_same S.expression U.expression expression_same es))
kind_layer (StmtKind-F.Return e) =
    kind_by (StmtKind-F.Return e) (StmtKind-F.Return (U.optional U.expression e)) refl
    (ap (λ z. S.word (codes "return") then z then S.mark m.Semicolon) (optional_same S.expression U.expression expression_same e))

body_layer : (y : Body-F Kinds Bodies Statements) → BodySame (roll-Body (F.map-Body Kinds Bodies Statements StmtKind Body Stmt (λ e. e.0) (λ e. e.0) (λ e. e.0) y))
body_layer y =
    let ss = map (λ (s : Statements). s.0) y.stmts in
    let x : Body-F StmtKind Body Stmt = record { decls = y.decls; stmts = ss } in
    let w : Body-F StmtKind Body Stmt = record { decls = map U.declaration y.decls; stmts = map U.statement ss } in
    ap S.body (F.fold-roll-Body StmtKind Body Stmt U.of_statement_kind U.of_body U.of_statement x)
    ∙ F.fold-roll-Body Phrase Phrase Phrase S.of_statement_kind S.of_body S.of_statement w
    ∙ ap₂ (λ ds z. S.mark m.OpenBrace then S.joined ds then S.joined z then S.mark m.CloseBrace)
    (each_same S.declaration U.declaration declaration_same y.decls) (all_same S.statement U.statement y.stmts)
    ∙ sym (F.fold-roll-Body Phrase Phrase Phrase S.of_statement_kind S.of_body S.of_statement x)

statement_layer : (y : Stmt-F Kinds Bodies Statements) → Statement (roll-Stmt (F.map-Stmt Kinds Bodies Statements StmtKind Body Stmt (λ e. e.0) (λ e. e.0) (λ e. e.0) y))
statement_layer y =
    let x : Stmt-F StmtKind Body Stmt = record { kind = y.kind.0; at = y.at } in
    let w : Stmt-F StmtKind Body Stmt = record { kind = U.statement_kind y.kind.0; at = U.nowhere } in
    ap S.statement (F.fold-roll-Stmt StmtKind Body Stmt U.of_statement_kind U.of_body U.of_statement x)
    ∙ F.fold-roll-Stmt Phrase Phrase Phrase S.of_statement_kind S.of_body S.of_statement w ∙ y.kind.1
    ∙ sym (F.fold-roll-Stmt Phrase Phrase Phrase S.of_statement_kind S.of_body S.of_statement x)

body_same : (b : Body) → Same S.body U.body b
body_same = F.ind-Body Kind BodySame Statement
    (λ x y is. subst (λ z. Kind (roll-StmtKind z)) is (kind_layer y))
    (λ x y is. subst (λ z. BodySame (roll-Body z)) is (body_layer y))
    (λ x y is. subst (λ z. Statement (roll-Stmt z)) is (statement_layer y))

-- ---- items

field_same : (f : Field) → Same S.field U.field f
field_same f = ap (λ z. z then S.word f.name.text then S.optional S.length_of f.array then S.mark m.Semicolon) (type_same f.ty)

item_same : (i : Item) → Same S.item U.item i
item_same (StructItem s) =
    ap (λ z. S.word (codes "struct") then S.word s.name.text then S.mark m.OpenBrace then S.joined z then S.mark m.CloseBrace then S.mark m.Semicolon)
    (each_same S.field U.field field_same s.fields)
item_same (FuncItem f) =
    ap₂ (λ y z. y then S.word f.name.text then S.bracketed (S.listed z) then S.body (U.body f.body)) (type_same f.result) (each_same S.variable U.declaration variable_same f.params)
    ∙ ap (λ z. S.type f.result then S.word f.name.text then S.bracketed (S.listed (map S.variable f.params)) then z) (body_same f.body)

pub program_same : (p : Program) → S.sentence (U.unplaced p) ≡ S.sentence p
program_same p = ap (λ z. tokens (S.joined z)) (each_same S.item U.item item_same p.items)
