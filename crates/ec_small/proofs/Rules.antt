-- What a reading function tells of a rule of the grammar.
use Rattle.std.proofs.Common.{◌≡◌, ◌∙◌, [], ◌∷◌, ◌++◌}
use Rattle.std.specs.Prelude.{Ok, Err}
use Rattle.std.proofs.lemmas.Bool.{and_from}
use Rattle.std.proofs.lemmas.List.Folds.{list_all-append}
use Rattle.std.specs.List.{list_all}
use Rattle.ec_base.specs.Lexical.{is_lexical, AllLexical}
use Rattle.ec_small.specs.Grammar.{Kinds}
use Rattle.ec_small.specs.Descent.{Read}

-- a rule: tokens, what they are, and the tokens behind them
abbrev pub Rule : Type 0 → Type 1
Rule A = Kinds → A → Kinds → Type 0

-- the tokens of a tree, which are its tokens before anything else too
abbrev pub Local : {A : Type 0} → Rule A → Kinds → A → Kinds → Type 0
Local {A} P ts a rest = (done : Kinds) × (ts ≡ done ++ rest) × ((after : Kinds) → P (done ++ after) a after)

-- the token at the front of r is refused after these, whatever comes behind it
abbrev pub Stuck : {A : Type 0} → (Kinds → Read A) → Kinds → Kinds → Type 0
Stuck f done [] = Unit {0}
Stuck f done (x ∷ r) = (behind : Kinds) → f (done ++ (x ∷ behind)) ≡ Err (x ∷ behind)

pub AllLexical-append : (ts us : Kinds) → AllLexical ts → AllLexical us → AllLexical (ts ++ us)
AllLexical-append ts us h k = list_all-append is_lexical ts us ∙ and_from (list_all is_lexical ts) (list_all is_lexical us) h k

-- what was read before r can be ended by tokens that a source text can give, whatever follows, and r is refused
abbrev pub Opens : {A : Type 0} → Rule A → (Kinds → Read A) → Kinds → Kinds → Type 0
Opens {A} P f ts r =
    (done : Kinds) × (ts ≡ done ++ r) × ((after : Kinds) → (ys : Kinds) × (a : A) × P (done ++ (ys ++ after)) a after × AllLexical ys) × Stuck f done r

-- what a reading function answers of these tokens is right: P where it reads, and where it stops, a beginning of O that it
-- stops at rightly
abbrev pub Judged : {A : Type 0} → Rule A → Rule A → (Kinds → Read A) → Kinds → Read A → Type 0
Judged P O f ts (Ok p) = P ts p.0 p.1
Judged P O f ts (Err r) = Opens O f ts r
