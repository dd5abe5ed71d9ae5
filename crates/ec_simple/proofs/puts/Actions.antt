-- What resolved statements of the code stand for, kind by kind, where their parts were read from other places.
use Rattle.std.proofs.Common.{◌≡◌, sym, ap, ◌∙◌, rules, List, map, Option, option_map}
use Rattle.ec_base.specs.declared.text.Text.{Text}
use Rattle.ec_base.specs.declared.token.Span.{Span}
use Rattle.ec_resolve.specs.declared.action.Action.{Action}
use Rattle.ec_resolve.specs.declared.action.Action.TheFolds.{the_lemmas as folds}
use Rattle.ec_resolve.specs.declared.action.Action.TheVariants as a
use Rattle.ec_resolve.specs.declared.action.Assignment.{Assignment}
use Rattle.ec_resolve.specs.declared.action.Block.{Block, out-Block}
use Rattle.ec_resolve.specs.declared.action.Declared.{Declared}
use Rattle.ec_resolve.specs.declared.action.ForHeader.{ForHeader}
use Rattle.ec_resolve.specs.declared.action.ForallHeader.{ForallHeader}
use Rattle.ec_resolve.specs.declared.term.Invocation.{Invocation}
use Rattle.ec_resolve.specs.declared.term.Term.{Term}
use Rattle.ec_resolve.specs.Erased.{expression, expressions, optional, invocation, assignment, declaration, statement, statements, block}
use Rattle.ec_types.specs.Meaning.Tree as t

-- ---- the statements themselves

skip_is : statement a.Skip ≡ t.Skip
skip_is = search (rules, folds)

block_is : (b : Block) → statement (a.Block b) ≡ t.Block (block b).0 (block b).1
block_is b = search (rules, folds)

par_is : (at : Span) (ss : List Action) → statement (a.Par at ss) ≡ t.Par at (statements ss)
par_is at ss = search (rules, folds)

if_is :
    (e : Term) (x : Action) (o : Option Action) →
    statement (a.If e x o) ≡ t.If (expression e) (statement x) (t.otherwise (option_map statement o))
if_is e x o = search (rules, folds)

while_is : (e : Term) (x : Action) → statement (a.While e x) ≡ t.While (expression e) (statement x)
while_is e x = search (rules, folds)

for_is :
    (at : Span) (h : ForHeader) (x : Action) →
    statement (a.For at h x) ≡ t.For at (option_map assignment h.first) (optional h.test) (option_map assignment h.last) (statement x)
for_is at h x = search (rules, folds)

forall_is :
    (at : Span) (h : ForallHeader) (x : Action) →
    statement (a.Forall at h x) ≡ t.Forall at (assignment h.first) (expression h.test) (assignment h.last) (statement x)
forall_is at h x = search (rules, folds)

set_is : (x : Assignment) → statement (a.Set x) ≡ t.Set (assignment x)
set_is x = search (rules, folds)

eval_is : (i : Invocation) → statement (a.Eval i) ≡ t.Eval (invocation i)
eval_is i = search (rules, folds)

write_is : (at : Span) (p e : Term) → statement (a.WriteTo at p e) ≡ t.WriteTo at (expression p) (expression e)
write_is at p e = search (rules, folds)

add_is : (at : Span) (p e : Term) → statement (a.AddTo at p e) ≡ t.AddTo at (expression p) (expression e)
add_is at p e = search (rules, folds)

print_is : (string : Text) (es : List Term) → statement (a.Print string es) ≡ t.Print string (expressions es)
print_is string es = search (rules, folds)

return_is : (e : Option Term) → statement (a.Return e) ≡ t.Return (optional e)
return_is e = search (rules, folds)

-- what stands between braces
braced_is : (b : Block) → t.Block (block b).0 (block b).1 ≡ t.Block (map declaration (out-Block b).decls) (statements (out-Block b).actions)
braced_is b = search (rules, folds)

pub is_braced :
    (b : Block) (ds : List Declared) (ss : List Action) → ds ≡ (out-Block b).decls → ss ≡ (out-Block b).actions →
    t.Block (block b).0 (block b).1 ≡ t.Block (map declaration ds) (statements ss)
is_braced b ds ss q r =
    braced_is b ∙ ap (λ z. t.Block (map declaration z) (statements (out-Block b).actions)) (sym q)
    ∙ ap (λ z. t.Block (map declaration ds) (statements z)) (sym r)

-- ---- and where a statement is one, and its parts were read

pub is_Skip : (s : Action) → s ≡ a.Skip → statement s ≡ t.Skip
is_Skip s q = ap statement q ∙ skip_is

pub is_Block : (s : Action) (b : Block) → s ≡ a.Block b → statement s ≡ t.Block (block b).0 (block b).1
is_Block s b q = ap statement q ∙ block_is b

pub is_Par : (s : Action) (at : Span) (ss read : List Action) → s ≡ a.Par at ss → read ≡ ss → statement s ≡ t.Par at (statements read)
is_Par s at ss read q r = ap statement q ∙ par_is at ss ∙ ap (λ z. t.Par at (statements z)) (sym r)

pub is_If :
    (s : Action) (e test : Term) (x first : Action) (o : Option Action) → s ≡ a.If e x o → test ≡ e → first ≡ x →
    statement s ≡ t.If (expression test) (statement first) (t.otherwise (option_map statement o))
is_If s e test x first o q r u =
    let z = t.otherwise (option_map statement o) in
    ap statement q ∙ if_is e x o ∙ ap (λ y. t.If (expression y) (statement x) z) (sym r)
    ∙ ap (λ y. t.If (expression test) (statement y) z) (sym u)

pub is_While :
    (s : Action) (e test : Term) (x inner : Action) → s ≡ a.While e x → test ≡ e → inner ≡ x →
    statement s ≡ t.While (expression test) (statement inner)
is_While s e test x inner q r u =
    ap statement q ∙ while_is e x ∙ ap (λ y. t.While (expression y) (statement x)) (sym r)
    ∙ ap (λ y. t.While (expression test) (statement y)) (sym u)

pub is_For :
    (s : Action) (at : Span) (h header : ForHeader) (x inner : Action) → s ≡ a.For at h x → header ≡ h → inner ≡ x →
    statement s ≡ t.For at (option_map assignment header.first) (optional header.test) (option_map assignment header.last) (statement inner)
is_For s at h header x inner q r u =
    ap statement q ∙ for_is at h x
    ∙ ap (λ y. t.For at (option_map assignment y.first) (optional y.test) (option_map assignment y.last) (statement x)) (sym r)
    ∙ ap (λ y. t.For at (option_map assignment header.first) (optional header.test) (option_map assignment header.last) (statement y)) (sym u)

pub is_Forall :
    (s : Action) (at : Span) (h header : ForallHeader) (x inner : Action) → s ≡ a.Forall at h x → header ≡ h → inner ≡ x →
    statement s ≡ t.Forall at (assignment header.first) (expression header.test) (assignment header.last) (statement inner)
is_Forall s at h header x inner q r u =
    ap statement q ∙ forall_is at h x
    ∙ ap (λ y. t.Forall at (assignment y.first) (expression y.test) (assignment y.last) (statement x)) (sym r)
    ∙ ap (λ y. t.Forall at (assignment header.first) (expression header.test) (assignment header.last) (statement y)) (sym u)

pub is_Set : (s : Action) (x read : Assignment) → s ≡ a.Set x → read ≡ x → statement s ≡ t.Set (assignment read)
is_Set s x read q r = ap statement q ∙ set_is x ∙ ap (λ z. t.Set (assignment z)) (sym r)

pub is_Eval : (s : Action) (i read : Invocation) → s ≡ a.Eval i → read ≡ i → statement s ≡ t.Eval (invocation read)
is_Eval s i read q r = ap statement q ∙ eval_is i ∙ ap (λ z. t.Eval (invocation z)) (sym r)

pub is_WriteTo :
    (s : Action) (at : Span) (p to e from : Term) → s ≡ a.WriteTo at p e → to ≡ p → from ≡ e →
    statement s ≡ t.WriteTo at (expression to) (expression from)
is_WriteTo s at p to e from q r u =
    ap statement q ∙ write_is at p e ∙ ap (λ z. t.WriteTo at (expression z) (expression e)) (sym r)
    ∙ ap (λ z. t.WriteTo at (expression to) (expression z)) (sym u)

pub is_AddTo :
    (s : Action) (at : Span) (p to e from : Term) → s ≡ a.AddTo at p e → to ≡ p → from ≡ e →
    statement s ≡ t.AddTo at (expression to) (expression from)
is_AddTo s at p to e from q r u =
    ap statement q ∙ add_is at p e ∙ ap (λ z. t.AddTo at (expression z) (expression e)) (sym r)
    ∙ ap (λ z. t.AddTo at (expression to) (expression z)) (sym u)

pub is_Print :
    (s : Action) (string : Text) (es read : List Term) → s ≡ a.Print string es → read ≡ es → statement s ≡ t.Print string (expressions read)
is_Print s string es read q r = ap statement q ∙ print_is string es ∙ ap (λ z. t.Print string (expressions z)) (sym r)

pub is_Return : (s : Action) (e : Option Term) → s ≡ a.Return e → statement s ≡ t.Return (optional e)
is_Return s e q = ap statement q ∙ return_is e
