-- Laws of parts that stand one after the other, and of ticks before them.
use Rattle.std.proofs.Common.{◌≡◌, refl, sym, ap, ◌∙◌, ℕ, zero, suc, Bool, true, false, if◌then◌else◌, List, [], ◌∷◌, ◌++◌}
use Rattle.std.proofs.Math.Path.{fun_ext}
use Rattle.ec_types.specs.Meaning.State.{Core, Out, Does, With, Returns, Traps, Going, and_then, ◌>>=◌, pure, spend, tick}
use Rattle.ec_types.specs.Meaning.Evaluation.{Caller}
use Rattle.ec_meaning.specs.Works.{Work, Hand}
use Rattle.ec_meaning.specs.Acts.{acts, act_all}

-- ---- outcomes

pub and_then-and_then :
    {A B C : Type 0} (x : Out A) (f : A → Does B) (g : B → Does C) →
    and_then (and_then x f) g ≡ and_then x (λ a. f a >>= g)
and_then-and_then (With a, c, r) f g = refl
and_then-and_then (Returns v, c, r) f g = refl
and_then-and_then (Traps t, c, r) f g = refl
and_then-and_then (Going, c, r) f g = refl

pub and_then-pure : {A : Type 0} (x : Out A) → and_then x pure ≡ x
and_then-pure (With a, c, r) = refl
and_then-pure (Returns v, c, r) = refl
and_then-pure (Traps t, c, r) = refl
and_then-pure (Going, c, r) = refl

-- ---- parts

pub does_ext : {A : Type 0} {d e : Does A} → ((c : Core) (r : ℕ) → d c r ≡ e c r) → d ≡ e
does_ext h = fun_ext (λ c. fun_ext (h c))

pub then_then :
    {A B C : Type 0} (d : Does A) (f : A → Does B) (g : B → Does C) → (d >>= f) >>= g ≡ d >>= (λ a. f a >>= g)
then_then d f g = does_ext (λ c r. and_then-and_then (d c r) f g)

pub then_pure : {A : Type 0} (d : Does A) → d >>= pure ≡ d
then_pure d = does_ext (λ c r. and_then-pure (d c r))

pub pure_then : {A B : Type 0} (a : A) (f : A → Does B) → pure a >>= f ≡ f a
pure_then a f = refl

-- the same part, and then parts that are equal
pub then_same : {A B : Type 0} (d : Does A) (f g : A → Does B) → ((a : A) → f a ≡ g a) → d >>= f ≡ d >>= g
then_same d f g h = ap (λ k. d >>= k) (fun_ext h)

pub if_then :
    {A B : Type 0} (b : Bool) (d e : Does A) (f : A → Does B) →
    (if b then d else e) >>= f ≡ (if b then (d >>= f) else (e >>= f))
if_then true d e f = refl
if_then false d e f = refl

pub tick_then : {A B : Type 0} (b : Bool) (d : Does A) (f : A → Does B) → tick b d >>= f ≡ tick b (d >>= f)
tick_then false d f = refl
tick_then true d f = does_ext spends
  where
    spends : (c : Core) (r : ℕ) → and_then (spend d c r) f ≡ spend (d >>= f) c r
    spends c zero = refl
    spends c (suc r) = refl

-- ---- works

module _ (call : Caller) (n : ℕ) where
  pub act_all-append :
      (ws us : List Work) (h : Hand) → act_all call n (ws ++ us) h ≡ act_all call n ws h >>= act_all call n us
  act_all-append [] us h = refl
  act_all-append (w ∷ ws) us h =
      then_same (acts call n w h) (act_all call n (ws ++ us)) (λ k. act_all call n ws k >>= act_all call n us)
      (act_all-append ws us)
      ∙ sym (then_then (acts call n w h) (act_all call n ws) (act_all call n us))
