-- A list of functions has one table of first `printf`s.
use Rattle.std.proofs.Common.{◌≡◌, refl, ap, List, Option, Some, None, inl, inr, arith}
use Rattle.ec_base.specs.declared.text.Text.{Text}
use Rattle.ec_base.specs.declared.token.Span.{Span}
use Rattle.ec_syntax.specs.declared.item.Func.{Func}
use Rattle.ec_calls.specs.Prints.{NoLater, IsFirstPrint, ArePrints}

same_place : (a b : Span) → a.from ≡ b.from → a.to ≡ b.to → a ≡ b
same_place a b p q = λ i. record { from = p i; to = q i }

one_place : (a b : Span) → NoLater a b → NoLater b a → a ≡ b
one_place a b (inl p) (inl q) = absurd (omega arith)
one_place a b (inl p) (inr q) = absurd (omega arith)
one_place a b (inr p) (inl q) = absurd (omega arith)
one_place a b (inr p) (inr q) = same_place a b p.0 (omega arith)

one_print : (all : List Func) (name : Text) (x y : Option Span) → IsFirstPrint all name x → IsFirstPrint all name y
    → x ≡ y
one_print all name None None h g = refl
one_print all name None (Some b) h g = absurd (h b g.0)
one_print all name (Some a) None h g = absurd (g a h.0)
one_print all name (Some a) (Some b) h g = ap Some (one_place a b (h.1 b g.0) (g.1 a h.0))

pub prints_are_unique : (all : List Func) (f g : Text → Option Span) → ArePrints all f → ArePrints all g → f ≡ g
prints_are_unique all f g h k = λ i name. one_print all name (f name) (g name) (h name) (k name) i
