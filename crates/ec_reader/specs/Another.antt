-- Parts of readers of declarations and items, by names of their own: mostly one more behind those before it.
use Rattle.std.specs.Prelude.{ℕ, List, [], ◌∷◌, ◌++◌, length}
use Rattle.ec_base.specs.declared.token.Mark.TheVariants as m
use Rattle.ec_syntax.specs.declared.expression.Expr.{Expr}
use Rattle.ec_syntax.specs.declared.item.Field.{Field}
use Rattle.ec_syntax.specs.declared.item.Item.{Item}
use Rattle.ec_syntax.specs.declared.name.Base.{Base}
use Rattle.ec_syntax.specs.declared.name.Mode.{Mode}
use Rattle.ec_syntax.specs.declared.statement.Decl.{Decl}
use Rattle.ec_syntax.specs.Descent.Reader.{Reader, give, ◌>>=◌, ◌>>◌}
use Rattle.ec_syntax.specs.Descent.Tokens.{mark}
use Rattle.ec_syntax.specs.Descent.Statements.{declarator, declarators}
use Rattle.ec_syntax.specs.Descent.Items.{field_name, parameter, item}

abbrev pub another_declarator : Reader Expr → Mode → Base → List Decl → Reader (List Decl)
another_declarator value how b before = mark m.Comma >> (declarator value how b >>= (λ next. give (before ++ next ∷ [])))

-- a declaration behind its mode and base
abbrev pub declaration_on : Reader Expr → Mode → Base → List Decl → Reader (List Decl)
declaration_on value how b before =
    declarator value how b >>= (λ first.
    declarators value how b (before ++ first ∷ []) >>= (λ all. mark m.Semicolon >> give all))

abbrev pub another_field : Base → List Field → Reader (List Field)
another_field b before = mark m.Comma >> (field_name b >>= (λ f. give (before ++ f ∷ [])))

abbrev pub another_parameter : List Decl → Reader (List Decl)
another_parameter before = mark m.Comma >> (parameter (length before) >>= (λ p. give (before ++ p ∷ [])))

abbrev pub another_item : ℕ → List Item → Reader (List Item)
another_item room before = item room >>= (λ i. give (before ++ i ∷ []))
