-- What resolved trees of the code stand for, by their parts. Operands are read again from their boxes.
use Rattle.std.proofs.Common.{◌≡◌, sym, ap, ◌∙◌, rules, ℕ, map, Option}
use Rattle.ec_base.specs.declared.operator.BinOp.{BinOp}
use Rattle.ec_base.specs.declared.token.Span.{Span}
use Rattle.ec_resolve.specs.declared.term.Allocation.{Allocation}
use Rattle.ec_resolve.specs.declared.term.Invocation.{Invocation}
use Rattle.ec_resolve.specs.declared.term.Place.{Place}
use Rattle.ec_resolve.specs.declared.term.Place.TheFolds.{the_lemmas as folds}
use Rattle.ec_resolve.specs.declared.term.Term.{Term}
use Rattle.ec_resolve.specs.declared.term.Term.TheVariants as term
use Rattle.ec_resolve.specs.Erased as erased
use Rattle.ec_types.specs.Meaning.Tree as t

two_parts :
    (whole : t.Expr) (node : t.Expr → t.Expr → t.Expr) (a b x y : Term) →
    whole ≡ node (erased.expression a) (erased.expression b) → x ≡ a → y ≡ b →
    whole ≡ node (erased.expression x) (erased.expression y)
two_parts whole node a b x y is g h =
    is ∙ ap (λ z. node (erased.expression z) (erased.expression b)) (sym g)
    ∙ ap (λ z. node (erased.expression x) (erased.expression z)) (sym h)

pub is_Binary :
    (e : Term) (at : Span) (op : BinOp) (a b x y : Term) → e ≡ term.Binary at op a b → x ≡ a → y ≡ b →
    erased.expression e ≡ t.Binary at op (erased.expression x) (erased.expression y)
is_Binary e at op a b x y q g h =
    let is : erased.expression e ≡ t.Binary at op (erased.expression a) (erased.expression b) = search (rules, folds, q) in
    two_parts (erased.expression e) (t.Binary at op) a b x y is g h

pub is_And :
    (e : Term) (at : Span) (a b x y : Term) → e ≡ term.And at a b → x ≡ a → y ≡ b →
    erased.expression e ≡ t.And at (erased.expression x) (erased.expression y)
is_And e at a b x y q g h =
    let is : erased.expression e ≡ t.And at (erased.expression a) (erased.expression b) = search (rules, folds, q) in
    two_parts (erased.expression e) (t.And at) a b x y is g h

pub is_Or :
    (e : Term) (at : Span) (a b x y : Term) → e ≡ term.Or at a b → x ≡ a → y ≡ b →
    erased.expression e ≡ t.Or at (erased.expression x) (erased.expression y)
is_Or e at a b x y q g h =
    let is : erased.expression e ≡ t.Or at (erased.expression a) (erased.expression b) = search (rules, folds, q) in
    two_parts (erased.expression e) (t.Or at) a b x y is g h

pub is_Load :
    (e : Term) (pointer : Option ℕ) (p : Place) → e ≡ term.Load pointer p → erased.expression e ≡ t.Load pointer (erased.place p)
is_Load e pointer p q = search (rules, folds, q)

pub is_Call : (e : Term) (i : Invocation) → e ≡ term.Call i → erased.expression e ≡ t.Called (erased.invocation i)
is_Call e i q = search (rules, folds, q)

pub is_invocation :
    (i : Invocation) →
    erased.invocation i ≡ t.Invoke i.at i.function (erased.expressions i.args) (erased.placing i.placing)
is_invocation i = search (rules, folds)

pub is_New :
    (e : Term) (a : Allocation) → e ≡ term.New a →
    erased.expression e ≡ t.New a.at a.shape (map erased.first_value a.pointers) (erased.optional a.count)
is_New e a q = search (rules, folds, q)

pub is_ValueOf :
    (e : Term) (at : Span) (a x : Term) → e ≡ term.ValueOf at a → x ≡ a → erased.expression e ≡ t.ValueOf at (erased.expression x)
is_ValueOf e at a x q g =
    let is : erased.expression e ≡ t.ValueOf at (erased.expression a) = search (rules, folds, q) in
    is ∙ ap (λ z. t.ValueOf at (erased.expression z)) (sym g)
