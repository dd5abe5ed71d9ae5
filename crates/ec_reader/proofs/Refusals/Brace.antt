-- A token at which structs are counted passes no other limit: it is the opening brace of a struct, which stands at no depth,
-- and nothing else is counted there.
use Rattle.std.proofs.Common.{◌≡◌, ◌<◌, ◌⊎◌, inl, inr, refl, ap, sym, ◌∙◌, ℕ, Bool, true, false, true≢false, List, [], ◌∷◌, ◌++◌, length, codes, zero-le, arith}
use Rattle.std.proofs.lemmas.Bool.{cases_order}
use Rattle.ec_base.specs.declared.token.Span.{Span}
use Rattle.ec_base.specs.declared.token.Token.{Token}
use Rattle.ec_syntax.specs.declared.item.Item.{Item}
use Rattle.ec_syntax.specs.declared.item.Program.{Program}
use Rattle.ec_syntax.specs.declared.quantity.Fault.TheVariants.{Passes}
use Rattle.ec_syntax.specs.declared.quantity.Quantity.{Quantity}
use Rattle.ec_syntax.specs.declared.quantity.Quantity.TheVariants.{Structs}
use Rattle.ec_syntax.specs.Grammar.State.{State, nothing}
use Rattle.ec_syntax.specs.Grammar.Language.{Language, Turns, turns, function, give, ◌or◌, ◌>>=◌}
use Rattle.ec_syntax.specs.Grammar.Items.{structure, procedure, program, struct_brace, end}
use Rattle.ec_syntax.specs.Grammar.Reading.{start, IsProgram, limit_at}
use Rattle.ec_reader.specs.Refusals.{is_told_before}
use Rattle.ec_reader.proofs.Refusals.Local.{Local, AsksWithin, local_look, local_bind, local_turns, local_function, one_length, one_moved}
use Rattle.ec_reader.proofs.Refusals.Asking.{word_local, name_local, fielded_local, procedure_local, item_local}

-- where structs aren't counted, their limit is kept
no_structs : (these : List Token) (from to : ℕ) → AsksWithin false from to nothing (limit_at Structs these)
no_structs these from to left k count counted below above g same is = absurd (true≢false (ap (λ z. is_told_before (Passes z)) (sym is) ∙ counted refl))

-- a limit at some token is kept before it and behind it
elsewhere : (structs : Bool) (q : Quantity) (these : List Token) (from to : ℕ) → (from < length these) ⊎ (length these < to) → AsksWithin structs from to nothing (limit_at q these)
elsewhere structs q these from to (inl h) left k count counted below above g same is = absurd (omega arith)
elsewhere structs q these from to (inr h) left k count counted below above g same is = absurd (omega arith)

module _ (q : Quantity) (other : is_told_before (Passes q) ≡ false) (these : List Token) where
  not_structs : Structs ≡ q → ⊥
  not_structs e = true≢false (ap (λ z. is_told_before (Passes z)) e ∙ other)

  -- A word keeps the limit of structs at the token, or it keeps the other one and the token stands inside it.
  abbrev KeepsOne : {A : Type 0} → Language A → State → A → State → Type 0
  KeepsOne l s a m = l (limit_at Structs these) s a m ⊎ (l (limit_at q these) s a m × (length m.left < length these) × (length these < length s.left))

  -- ---- items

  -- at the brace
  brace_keeps : (s : State) (u : Unit {0}) (m : State) → struct_brace nothing s u m → struct_brace (limit_at q these) s u m
  brace_keeps s u m g = record {
    token = g.token;
    rest = g.rest;
    stands = g.stands;
    picked = g.picked;
    nested = λ same is. zero-le;
    within = ((λ same is. absurd (not_structs is)), tt);
    next = g.next;
  }

  structure_keeps : (s : State) (i : Item) (m : State) → structure nothing s i m → KeepsOne structure s i m
  structure_keeps s i m (u, k, first, (n, l, second, (v, r, brace, rest))) = by (cases_order (length l.left) (length these))
    where
      behind : length m.left < length l.left
      behind = omega (arith, one_length nothing l v r brace, (fielded_local {structs = false} n).shorter nothing r i m rest)

      before : length l.left < length k.left
      before = omega (arith, one_length nothing k n l second)

      front : length k.left < length s.left
      front = omega (arith, one_length nothing s u k first)

      here : length l.left ≡ length these → KeepsOne structure s i m
      here e = inr (
        (
          u,
          k,
          one_moved nothing (limit_at q these) s u k (λ z count g same is. absurd (omega (arith, before, front))) first,
          (
            n,
            l,
            one_moved nothing (limit_at q these) k n l (λ z count g same is. absurd (omega (arith, before))) second,
            (v, r, brace_keeps l v r brace, (fielded_local {structs = false} n).moved nothing (limit_at q these) r i m (elsewhere false q these _ _ (inl (omega (arith, one_length nothing l v r brace)))) rest),
          ),
        ),
        omega (arith, behind),
        omega (arith, before, front),
      )

      away : (length l.left ≡ length these → ⊥) → KeepsOne structure s i m
      away none = inl (
        u,
        k,
        (word_local 0 (codes "struct")).moved nothing (limit_at Structs these) s u k (no_structs these _ _) first,
        (
          n,
          l,
          (name_local 0).moved nothing (limit_at Structs these) k n l (no_structs these _ _) second,
          (
            v,
            r,
            one_moved nothing (limit_at Structs these) l v r (λ z count g same is. absurd (none same)) brace,
            (fielded_local n).moved nothing (limit_at Structs these) r i m (no_structs these _ _) rest,
          ),
        ),
      )

      by : (length l.left ≡ length these) ⊎ ((length l.left < length these) ⊎ (length these < length l.left)) → KeepsOne structure s i m
      by (inl e) = here e
      by (inr (inl h)) = away (λ e. omega arith)
      by (inr (inr h)) = away (λ e. omega arith)

  item_keeps : (nested : ℕ) (s : State) (i : Item) (m : State) → (structure or procedure nested) nothing s i m → KeepsOne (structure or procedure nested) s i m
  item_keeps nested s i m (inr h) = inl (inr ((procedure_local nested).moved nothing (limit_at Structs these) s i m (no_structs these _ _) h))
  item_keeps nested s i m (inl h) = by (structure_keeps s i m h)
    where
      by : KeepsOne structure s i m → KeepsOne (structure or procedure nested) s i m
      by (inl k) = inl (inl k)
      by (inr k) = inr (inl k.0, k.1, k.2)

  -- ---- programs

  abbrev next : ℕ → List Item → Language (List Item)
  next nested is = function (structure or procedure nested) >>= (λ i. give (is ++ i ∷ []))

  turn_local : (nested : ℕ) (is : List Item) → Local true (next nested is)
  turn_local nested is = local_bind (local_function (item_local nested)) (λ i. local_look)

  turns_local : (nested : ℕ) (is : List Item) → Local true (turns (next nested) is)
  turns_local nested is = local_turns (turn_local nested)

  turn_keeps : (nested : ℕ) (is : List Item) (s : State) (all : List Item) (m : State) → next nested is nothing s all m → KeepsOne (next nested is) s all m
  turn_keeps nested is s all m (i, k, h, e) = by (item_keeps nested (record s { variables = 0 }) i k h)
    where
      by : KeepsOne (structure or procedure nested) (record s { variables = 0 }) i k → KeepsOne (next nested is) s all m
      by (inl g) = inl (i, k, g, e)
      by (inr g) = inr ((i, k, g.0, e), omega (arith, ap (λ z. length z.left) e.1, g.1), g.2)

  -- the items before that token, and those behind it, keep every limit there
  turns_keep : (nested : ℕ) (s : State) (is all : List Item) (m : State) → Turns (next nested) nothing s is all m → KeepsOne (turns (next nested) is) s all m
  turns_keep nested s is all m Turns.over = inl Turns.over
  turns_keep nested s is all m (Turns.more {m = k} {b = those} g rest) = by (turn_keeps nested is s those k g) (turns_keep nested k those all m rest)
    where
      by : KeepsOne (next nested is) s those k → KeepsOne (turns (next nested) those) k all m → KeepsOne (turns (next nested) is) s all m
      by (inl x) (inl y) = inl (Turns.more x y)
      by (inl x) (inr y) = inr (
        Turns.more ((turn_local nested is).moved nothing (limit_at q these) s those k (elsewhere true q these _ _ (inr y.2)) g) y.0,
        y.1,
        omega (arith, (turn_local nested is).shorter nothing s those k g, y.2),
      )
      by (inr x) y = inr (
        Turns.more x.0 ((turns_local nested those).moved nothing (limit_at q these) k all m (elsewhere true q these _ _ (inl x.1)) rest),
        omega (arith, (turns_local nested those).shorter nothing k all m rest, x.1),
        x.2,
      )

  end_keeps : (k : Quantity) (s : State) (at : Span) (m : State) → end nothing s at m → end (limit_at k these) s at m
  end_keeps k s at m g = record { token = g.token; rest = g.rest; stands = g.stands; picked = g.picked; nested = λ same is. zero-le; within = tt; next = g.next }

  program_keeps : (nested : ℕ) (s : State) (p : Program) (m : State) → program nested nothing s p m → program nested (limit_at Structs these) s p m ⊎ program nested (limit_at q these) s p m
  program_keeps nested s p m (items, k, h, (at, l, ending, r)) = by (turns_keep nested s [] items k h)
    where
      by : KeepsOne (turns (next nested) []) s items k → program nested (limit_at Structs these) s p m ⊎ program nested (limit_at q these) s p m
      by (inl g) = inl (items, k, g, (at, l, end_keeps Structs k at l ending, r))
      by (inr g) = inr (items, k, g.0, (at, l, end_keeps q k at l ending, r))

  -- the limit of structs at these tokens, or that of the other quantity there
  pub keeps_one : (tokens : List Token) (p : Program) → IsProgram nothing tokens p → IsProgram (limit_at Structs these) tokens p ⊎ IsProgram (limit_at q these) tokens p
  keeps_one tokens p k = by (program_keeps k.0 (start tokens) p k.1 k.2)
    where
      by : program k.0 (limit_at Structs these) (start tokens) p k.1 ⊎ program k.0 (limit_at q these) (start tokens) p k.1 → IsProgram (limit_at Structs these) tokens p ⊎ IsProgram (limit_at q these) tokens p
      by (inl g) = inl (k.0, k.1, g, k.3)
      by (inr g) = inr (k.0, k.1, g, k.3)
