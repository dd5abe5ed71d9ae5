-- The program that a text has keeps to counts: item for item, and then whole.
use Rattle.std.proofs.Common.{◌≡◌, refl, sym, ◌∙◌, ap, subst, inl, inr, ℕ, zero, suc, ◌+◌, ◌≤◌, Bool, true, false, if◌then◌else◌, List, [], ◌∷◌, ◌++◌, map, length, filter_map, slice_get, Option, Some, None, option_map, codes, arith}
use Rattle.std.proofs.lemmas.Bool.{and_from, le-leb}
use Rattle.std.proofs.lemmas.List.{length-append}
use Rattle.std.proofs.lemmas.List.Elements.{filter_map-append}
use Rattle.std.proofs.lemmas.Option.{none-some, slice_get-map}
use Rattle.std.specs.List.{list_all}
use Rattle.ec_base.specs.Lexical.{AreTokens, is_identifier, is_lexical}
use Rattle.ec_base.specs.declared.limits.TheConstants.{MAX_NAME, MAX_SOURCE, MAX_STRUCTS}
use Rattle.ec_base.specs.declared.token.Mark.TheVariants as m
use Rattle.ec_base.specs.declared.token.Token.{Token}
use Rattle.ec_base.specs.declared.token.TokenKind.{TokenKind}
use Rattle.ec_base.specs.declared.token.TokenKind.TheVariants as t
use Rattle.ec_calls.specs.Items.{functions, structs, as_function, as_struct}
use Rattle.ec_simple.specs.Counts.{stmts_keep, sizes, is_short_name, FunctionKeeps, ProgramKeeps}
use Rattle.ec_syntax.specs.declared.item.Func.{Func}
use Rattle.ec_syntax.specs.declared.item.Item.{Item}
use Rattle.ec_syntax.specs.declared.item.Item.TheVariants.{Struct as StructItem, Func as FuncItem}
use Rattle.ec_syntax.specs.declared.item.Program.{Program as Source}
use Rattle.ec_syntax.specs.declared.item.StructDef.{StructDef}
use Rattle.ec_syntax.specs.declared.name.Name.{Name}
use Rattle.ec_syntax.specs.Grammar.Items as I
use Rattle.ec_syntax.specs.Grammar.Language as L
use Rattle.ec_syntax.specs.Grammar.Language.{Language, Turns, ◌>>=◌, ◌>>◌}
use Rattle.ec_syntax.specs.Grammar.Reading.{Reads, start}
use Rattle.ec_syntax.specs.Grammar.State.{State, limits}
use Rattle.ec_syntax.proofs.Tokens.Classes.{token_of}
use Rattle.ec_syntax.specs.Grammar.Tokens as T
use Rattle.ec_syntax.specs.Grammar.Tokens.{name_of}
use Rattle.ec_syntax.specs.Grammar.Words.{is_name}
use Rattle.ec_types.specs.Meaning.Resolution as resolution
use Rattle.ec_types.specs.Meaning.Resolution.{Scope}
use Rattle.ec_types.specs.Meaning.Tree.{Function}
use Rattle.ec_simple.proofs.counts.Grammar.{word_steady, mark_steady, name_steady, function_name_steady, type_with_steady, fields_steady, parameters_steady, procedure_steady, expr_steady}
use Rattle.ec_simple.proofs.counts.Statements.{braces_costs, stmt_fits}
use Rattle.ec_simple.proofs.counts.Steady.{are_lexical, both_less, Steady, steady_look, steady_bind, steady_turns, token_read}
use Rattle.ec_simple.proofs.counts.Trees.{inside}
use Rattle.ec_simple.proofs.sound.Each.{Each, each_append}

-- ---- names

-- the kind of a token that is a name
name_is : (x : Token) (n : Name) → name_of x ≡ Some n → x.kind ≡ t.Word n.text
name_is x n e = by x.kind refl e
  where
    some : (b : Bool) (w : List ℕ) →
        (if b then Some (let n : Name = record { text = w; at = x.at } in n) else None) ≡ Some n → w ≡ n.text
    some true w h = let same : (let n : Name = record { text = w; at = x.at } in n) ≡ n = cc in ap (λ n. n.text) same
    some false w h = absurd (none-some n h)

    by : (kind : TokenKind) → x.kind ≡ kind → name_of (token_of kind x.at) ≡ Some n → x.kind ≡ t.Word n.text
    by (t.Word w) k h = k ∙ ap t.Word (some (is_name w) w h)
    by _ k h = absurd (none-some n h)

name_short :
    (x : Token) (n : Name) → name_of x ≡ Some n → is_lexical x.kind ≡ true → length n.text ≤ MAX_NAME →
    is_short_name n.text ≡ true
name_short x n e h k =
    and_from (is_identifier n.text) _ (sym (ap is_lexical (name_is x n e)) ∙ h) (le-leb (length n.text) MAX_NAME k)

-- ---- items

-- a function keeps to counts, whatever its names stand for
pub record FunctionFits (most : ℕ) (f : Func) : Type 0 where
  pub name : is_short_name f.name.text ≡ true
  pub body : (c : Scope) → stmts_keep (inside c f.body) ≡ true
  pub few : (c : Scope) → sizes (inside c f.body) ≤ most

-- the items that were read, and where their reader stands
record Kept (most : ℕ) (is : List Item) (s : State) : Type 0 where
  counted : s.structs ≡ length (filter_map as_struct is)
  within : length (filter_map as_struct is) ≤ MAX_STRUCTS
  lexical : are_lexical s.left ≡ true
  shorter : length s.left ≤ most
  functions : Each (FunctionFits most) (filter_map as_function is)

structs_more : (is : List Item) (d : StructDef) →
    length (filter_map as_struct (is ++ StructItem d ∷ [])) ≡ suc (length (filter_map as_struct is))
structs_more is d =
    let e = ap length (filter_map-append as_struct is (StructItem d ∷ [])) in
    let n = length-append (filter_map as_struct is) (d ∷ []) in
    omega (arith, e, n)

-- what stands behind the opening brace of a struct
abbrev struct_rest : Name → Language Item
struct_rest name = do
  first ← I.fields []
  all ← L.turns I.fields first
  T.mark 0 m.CloseBrace
  T.mark 0 m.Semicolon
  L.give (StructItem (record { name = name; fields = all }))

rest_steady : (name : Name) → Steady (struct_rest name)
rest_steady name =
    steady_bind (fields_steady []) (λ first. steady_bind (steady_turns fields_steady) (λ all.
    steady_bind (mark_steady 0 m.CloseBrace) (λ _. steady_bind (mark_steady 0 m.Semicolon) (λ _. steady_look))))

rest_is : (name : Name) (s : State) (i : Item) (n : State) → struct_rest name limits s i n →
    (d : StructDef) × (i ≡ StructItem d)
rest_is name s i n (first, m₁, r₁, (all, m₂, r₂, (u₃, m₃, r₃, (u₄, m₄, r₄, (e, f))))) =
    (record { name = name; fields = all }, e)

struct_kept :
    (most : ℕ) (is : List Item) (s : State) (i : Item) (n : State) → Kept most is s → I.structure limits s i n →
    Kept most (is ++ i ∷ []) n
struct_kept most is s i n h (u₁, m₁, r₁, (name, m₂, r₂, (u₃, m₃, r₃, rest))) =
    let (d, is_struct) = rest_is name m₃ i n rest in
    let first = (word_steady 0 (codes "struct")).each s u₁ m₁ r₁ in
    let before = both_less s m₁ m₂ first ((name_steady 0).each m₁ name m₂ r₂) in
    let brace = token_read m₂ u₃ m₃ r₃ in
    let one : m₃.structs ≡ suc m₂.structs = ap (λ z. z.structs) r₃.next in
    let fits : suc m₂.structs ≤ MAX_STRUCTS = r₃.within.0 in
    let behind = (rest_steady name).each m₃ i n rest in
    let more = structs_more is d in
    subst (λ j. Kept most (is ++ j ∷ []) n) (sym is_struct) (record {
      counted = omega (arith, behind.structs, one, before.structs, h.counted, more);
      within = omega (arith, fits, before.structs, h.counted, more);
      lexical = behind.lexical (brace.lexical (before.lexical h.lexical));
      shorter = omega (arith, behind.shorter, brace.shorter, before.shorter, h.shorter);
      functions =
          subst (Each (FunctionFits most)) (sym (filter_map-append as_function is (StructItem d ∷ [])))
          (each_append (FunctionFits most) (filter_map as_function is) [] h.functions tt);
    })

-- the function that was read
record FunctionRead (most : ℕ) (i : Item) : Type 0 where
  function : Func
  same : i ≡ FuncItem function
  fits : FunctionFits most function

function_read :
    (most nested : ℕ) (s : State) (i : Item) (n : State) → are_lexical s.left ≡ true → length s.left ≤ most →
    I.procedure nested limits s i n → FunctionRead most i
function_read most nested s i n h k (ty, m₁, r₁, (name, m₂, r₂, (u₃, m₃, r₃, behind))) =
    let (ps, m₄, r₄, (u₅, m₅, r₅, (b, m₆, r₆, e))) = behind in
    let type = (type_with_steady 0 (T.mark 0 m.Star) (mark_steady 0 m.Star)).each s ty m₁ r₁ in
    let head = both_less s m₁ m₂ type ((function_name_steady 0).each m₁ name m₂ r₂) in
    let opened = (mark_steady 0 m.OpenParen).each m₂ u₃ m₃ r₃ in
    let params = both_less m₂ m₃ m₄ opened (parameters_steady.each m₃ ps m₄ r₄) in
    let front = both_less m₂ m₄ m₅ params ((mark_steady 1 m.CloseParen).each m₄ u₅ m₅ r₅) in
    let costs = λ (c : Scope). (braces_costs c 0 (expr_steady nested 1) (stmt_fits c nested 1) 0).each m₅ b m₆ r₆ in
    let lexical = (token_read m₁ name m₂ r₂).token (type.lexical h) in
    record {
      function = record { name = name; result = ty; params = ps; body = b };
      same = e.0;
      fits = record {
        name = name_short r₂.token name r₂.picked lexical r₂.within.1.0;
        body = λ c. (costs c).0;
        few = λ c. let paid = (costs c).1 in omega (arith, paid, front.shorter, head.shorter, k);
      };
    }

function_kept :
    (most nested : ℕ) (is : List Item) (s : State) (i : Item) (n : State) → Kept most is s →
    I.procedure nested limits s i n → Kept most (is ++ i ∷ []) n
function_kept most nested is s i n h r =
    let whole = (procedure_steady nested).each s i n r in
    let x = function_read most nested s i n h.lexical h.shorter r in
    let none = ap length (filter_map-append as_struct is (FuncItem x.function ∷ [])) in
    let still = length-append (filter_map as_struct is) [] in
    subst (λ j. Kept most (is ++ j ∷ []) n) (sym x.same) (record {
      counted = omega (arith, whole.structs, h.counted, none, still);
      within = omega (arith, h.within, none, still);
      lexical = whole.lexical h.lexical;
      shorter = omega (arith, whole.shorter, h.shorter);
      functions =
          subst (Each (FunctionFits most)) (sym (filter_map-append as_function is (FuncItem x.function ∷ [])))
          (each_append (FunctionFits most) (filter_map as_function is) (x.function ∷ []) h.functions (x.fits, tt));
    })

abbrev turn : ℕ → List Item → Language (List Item)
turn nested is = L.append (L.function (L.◌or◌ I.structure (I.procedure nested))) is

item_kept :
    (most nested : ℕ) (is js : List Item) (s n : State) → Kept most is s → turn nested is limits s js n → Kept most js n
item_kept most nested is js s n h (i, m, r, (e, f)) =
    let k : State = record s { variables = 0 } in
    let there : Kept most is k = record {
      counted = h.counted;
      within = h.within;
      lexical = h.lexical;
      shorter = h.shorter;
      functions = h.functions;
    } in
    subst (λ z. Kept most js z) (sym f) (subst (λ us. Kept most us m) (sym e) (by k there r))
  where
    by : (k : State) → Kept most is k → L.◌or◌ I.structure (I.procedure nested) limits k i m → Kept most (is ++ i ∷ []) m
    by k there (inl r) = struct_kept most is k i m there r
    by k there (inr r) = function_kept most nested is k i m there r

items_kept :
    (most nested : ℕ) (is js : List Item) (s n : State) → Kept most is s → Turns (turn nested) limits s is js n →
    Kept most js n
items_kept most nested is js s n h Turns.over = h
items_kept most nested is js s n h (Turns.more {m = m} {b = us} r rs) =
    items_kept most nested us js m n (item_kept most nested is us s m h r) rs

-- ---- programs

names_short :
    (most : ℕ) (fs : List Func) → Each (FunctionFits most) fs → list_all (λ f. is_short_name f.name.text) fs ≡ true
names_short most [] h = refl
names_short most (f ∷ fs) h = and_from (is_short_name f.name.text) _ h.0.name (names_short most fs h.1)

each_get :
    {A : Type 0} (P : A → Type 0) (xs : List A) (k : ℕ) (x : A) → Each P xs → slice_get xs k ≡ Some x → P x
each_get P [] k x h e = absurd (none-some x e)
each_get P (y ∷ xs) zero x h e = let same : y ≡ x = cc in subst P same h.0
each_get P (y ∷ xs) (suc k) x h e = each_get P xs k x h.1 e

function_keeps :
    (ss : List StructDef) (fs all : List Func) → Each (FunctionFits (MAX_SOURCE + 1)) all → (k : ℕ) (f : Function) →
    slice_get (map (resolution.function ss fs) all) k ≡ Some f → FunctionKeeps f
function_keeps ss fs all h k f e =
    by (slice_get all k) refl (sym (slice_get-map (resolution.function ss fs) all k) ∙ e)
  where
    by : (o : Option Func) → slice_get all k ≡ o → option_map (resolution.function ss fs) o ≡ Some f → FunctionKeeps f
    by None i j = absurd (none-some f j)
    by (Some g) i j =
        let x = each_get (FunctionFits (MAX_SOURCE + 1)) all k g h i in
        let c = resolution.scope_of ss fs g in
        let same : resolution.function ss fs g ≡ f = cc in
        subst FunctionKeeps same (record { body = x.body c; few = x.few c })

pub program_keeps : (tokens : List Token) (p : Source) → AreTokens tokens → Reads tokens p → ProgramKeeps p
program_keeps tokens p are (nested, s, (items, i, r, (at, j, x, (e, f))), left) =
    let first : Kept (MAX_SOURCE + 1) [] (start tokens) = record {
      counted = refl;
      within = omega arith;
      lexical = are.lexical;
      shorter = are.few;
      functions = tt;
    } in
    let h = items_kept (MAX_SOURCE + 1) nested [] items (start tokens) i first r in
    let q : Source = record { items = items; end = at } in
    subst ProgramKeeps (sym e) (record {
      structs_few = h.within;
      names = names_short (MAX_SOURCE + 1) (functions q) h.functions;
      functions_keep = function_keeps (structs q) (functions q) (functions q) h.functions;
    })
