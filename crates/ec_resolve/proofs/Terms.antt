-- What a `malloc` of the code stands for.
use Rattle.std.proofs.Common.{◌≡◌, ◌∙◌, rules, ap, IfOk, List, map, option_map, Result, Ok, Err}
use Rattle.ec_syntax.specs.declared.item.StructDef.{StructDef}
use Rattle.ec_resolve.specs.declared.operand.Operand.{Operand}
use Rattle.ec_resolve.specs.declared.term.Allocation.{Allocation}
use Rattle.ec_resolve.specs.declared.term.Term.TheVariants.{New}
use Rattle.ec_resolve.specs.declared.term.Place.TheFolds.{the_lemmas as folds}
use Rattle.ec_resolve.specs.Erased.{expression, first_value}
use Rattle.ec_resolve.specs.Operands.{operand}
use Rattle.ec_types.specs.declared.value_type.ExprType.TheVariants.{Value}
use Rattle.ec_types.specs.declared.value_type.ValueType.{ValueType}
use Rattle.ec_types.specs.Meaning.Layout.{element_cells, shape_of}
use Rattle.ec_types.specs.Meaning.Resolution.{valued, allocated}
use Rattle.ec_types.specs.Meaning.Tree as t
use Rattle.ec_types.specs.Types.{pointer_to}

new_is :
    (a : Allocation) → expression (New a) ≡ t.New a.at a.shape (map first_value a.pointers) (t.part (option_map expression a.count))
new_is a = search (rules, folds)

allocated_is :
    (ss : List StructDef) (a : Allocation) (block element : ValueType) → block ≡ pointer_to element
    → a.shape ≡ shape_of ss element → map first_value a.pointers ≡ element_cells ss element
    → valued (Value block) (expression (New a)) ≡ allocated ss a.at element (t.part (option_map expression a.count))
allocated_is ss a block element p shape q =
    let count = t.part (option_map expression a.count) in
    ap (λ b. valued (Value b) (expression (New a))) p
    ∙ ap (valued (Value (pointer_to element)))
    (new_is a
    ∙ ap (λ n. t.New a.at n (map first_value a.pointers) count) shape
    ∙ ap (λ cells. t.New a.at (shape_of ss element) cells count) q)

pub allocates :
    {E : Type 0} (r : Result Operand E) (ss : List StructDef) (a : Allocation) (block element : ValueType) → block ≡ pointer_to element
    → a.shape ≡ shape_of ss element → map first_value a.pointers ≡ element_cells ss element
    → IfOk r (λ o. operand o ≡ valued (Value block) (expression (New a)))
    → IfOk r (λ o. operand o ≡ allocated ss a.at element (t.part (option_map expression a.count)))
allocates (Ok o) ss a block element p shape q h = h ∙ allocated_is ss a block element p shape q
allocates (Err e) ss a block element p shape q h = tt
