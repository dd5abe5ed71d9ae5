-- Where a string closes, and what its inside stands for.
use Rattle.std.proofs.Common.{◌≡◌, ℕ, ◌+◌, Bool, true, false, not, List, [], ◌∷◌, ◌++◌, length, Option, Some, None, refl, ap, sym, subst, ◌∙◌, arith, inl, inr}
use Rattle.std.specs.Prelude.{◌||◌, ◌==◌, ◌⊎◌, if◌then◌else◌}
use Rattle.std.proofs.lemmas.Bool.{cond_both, eqb-true, false≢true, true≢false, or_cases}
use Rattle.ec_base.specs.declared.reason.Reason.{Reason}
use Rattle.ec_base.specs.declared.reason.Reason.TheVariants.{BadByte, BadEscape}
use Rattle.ec_lex.specs.Bytes.{is_control}
use Rattle.ec_lex.specs.Strings.{closing, decoded, followed, put_byte}
use Rattle.ec_lex.specs.declared.strings.Piece.{Piece}
use Rattle.ec_lex.specs.declared.strings.Piece.TheVariants.{Backslash, Byte, Bad}
use Rattle.ec_lex.specs.declared.strings.Decoded.{Decoded}
use Rattle.ec_lex.specs.declared.strings.Decoded.TheVariants.{Whole, Broken}
use Rattle.ec_lex.specs.Tokens.{is_plain, is_within_line, IsEscape, escaped_n, escaped_t, escaped_backslash, escaped_quote, IsInside, empty, plain, escape, IsClosable, nothing, one, two, IsBad, control, no_escape}
use Rattle.ec_lex.proofs.Inside.Parts.{heads, tails, no_end, not_lf}

-- ---- where it closes

-- a byte that is none of the three
pub plain_from : (b : ℕ) → (b == 34) ≡ false → (b == 92) ≡ false → (b == 10) ≡ false → is_plain b ≡ true
plain_from b q s l = rw q (rw s (rw l refl))

not_plain : (b c : ℕ) → is_plain b ≡ true → b ≡ c → is_plain c ≡ false → ⊥
not_plain b c p e n = false≢true (sym n ∙ subst (λ x. is_plain x ≡ true) e p)

-- what may stand up to the closing quote, also behind a backslash
abbrev Shape : Bool → List ℕ → Type 0
Shape false inside = IsClosable inside
Shape true inside = (e : ℕ) × (more : List ℕ) × (inside ≡ e ∷ more) × (is_within_line e ≡ true) × IsClosable more

pub record Closed (escaped : Bool) (at : ℕ) (text : List ℕ) (end : ℕ) : Type 0 where
  pub inside : List ℕ
  pub more : List ℕ
  pub cut : text ≡ inside ++ (34 ∷ more)
  pub end_is : end ≡ at + length inside
  pub shape : Shape escaped inside

abbrev pub ClosedOr : Bool → ℕ → List ℕ → Option ℕ → Type 0
ClosedOr escaped at text (Some end) = Closed escaped at text end
ClosedOr escaped at text None = (inside more : List ℕ) → Shape escaped inside → text ≡ inside ++ (34 ∷ more) → ⊥

at_line_end : (b : ℕ) (text : List ℕ) → b ≡ 10 → {inside : List ℕ} (more : List ℕ) → IsClosable inside → b ∷ text ≡ inside ++ (34 ∷ more) → ⊥
at_line_end b text lf more nothing e = absurd (omega (arith, lf, heads b 34 text more e))
at_line_end b text lf more (one {b = c} {inside = i} p s) e = not_plain c 10 p (sym (heads b c text (i ++ (34 ∷ more)) e) ∙ lf) refl
at_line_end b text lf more (two {e = c} {inside = i} w s) e = absurd (omega (arith, lf, heads b 92 text (c ∷ (i ++ (34 ∷ more))) e))

-- behind a byte that closes nothing, and is a backslash or is plain
behind_backslash : (b : ℕ) (text : List ℕ) → b ≡ 92 → ((inside more : List ℕ) → Shape true inside → text ≡ inside ++ (34 ∷ more) → ⊥)
    → {inside : List ℕ} (more : List ℕ) → IsClosable inside → b ∷ text ≡ inside ++ (34 ∷ more) → ⊥
behind_backslash b text is none more nothing e = absurd (omega (arith, is, heads b 34 text more e))
behind_backslash b text is none more (one {b = c} {inside = i} p s) e = not_plain c 92 p (sym (heads b c text (i ++ (34 ∷ more)) e) ∙ is) refl
behind_backslash b text is none more (two {e = c} {inside = i} w s) e = none (c ∷ i) more (c, i, refl, w, s) (tails b 92 text (c ∷ (i ++ (34 ∷ more))) e)

behind_plain : (b : ℕ) (text : List ℕ) → is_plain b ≡ true → ((inside more : List ℕ) → Shape false inside → text ≡ inside ++ (34 ∷ more) → ⊥)
    → {inside : List ℕ} (more : List ℕ) → IsClosable inside → b ∷ text ≡ inside ++ (34 ∷ more) → ⊥
behind_plain b text is none more nothing e = not_plain b 34 is (heads b 34 text more e) refl
behind_plain b text is none more (one {b = c} {inside = i} p s) e = none i more s (tails b c text (i ++ (34 ∷ more)) e)
behind_plain b text is none more (two {e = c} {inside = i} w s) e = not_plain b 92 is (heads b 92 text (c ∷ (i ++ (34 ∷ more))) e) refl

-- behind a byte that is escaped
behind_escaped : (b : ℕ) (text inside more : List ℕ) → ((inside more : List ℕ) → Shape false inside → text ≡ inside ++ (34 ∷ more) → ⊥)
    → Shape true inside → b ∷ text ≡ inside ++ (34 ∷ more) → ⊥
behind_escaped b text inside more none (c, i, is, w, s) e = none i more s (tails b c text (i ++ (34 ∷ more)) (e ∙ ap (λ l. l ++ (34 ∷ more)) is))

next : (b at : ℕ) (text : List ℕ) (is : Bool) → (b == 34) ≡ false → (b == 10) ≡ false → (b == 92) ≡ is → (o : Option ℕ) → ClosedOr is (at + 1) text o → ClosedOr false at (b ∷ text) o
next b at text true q l s (Some end) h =
    let (c, i, is, w, more) = h.shape in
    record {
      inside = b ∷ h.inside;
      more = h.more;
      cut = ap (λ l. b ∷ l) h.cut;
      end_is = omega (arith, h.end_is);
      shape = subst IsClosable (ap (λ x. x ∷ (c ∷ i)) (sym (eqb-true b 92 s)) ∙ ap (λ l. b ∷ l) (sym is)) (two w more);
    }
next b at text true q l s None h = λ inside more shape e. behind_backslash b text (eqb-true b 92 s) h more shape e
next b at text false q l s (Some end) h =
    record { inside = b ∷ h.inside; more = h.more; cut = ap (λ l. b ∷ l) h.cut; end_is = omega (arith, h.end_is); shape = one (plain_from b q s l) h.shape }
next b at text false q l s None h = λ inside more shape e. behind_plain b text (plain_from b q s l) h more shape e

next_escaped : (b at : ℕ) (text : List ℕ) → (b == 10) ≡ false → (o : Option ℕ) → ClosedOr false (at + 1) text o → ClosedOr true at (b ∷ text) o
next_escaped b at text l (Some end) h =
    record { inside = b ∷ h.inside; more = h.more; cut = ap (λ l. b ∷ l) h.cut; end_is = omega (arith, h.end_is); shape = (b, h.inside, refl, ap not l, h.shape) }
next_escaped b at text l None h = λ inside more shape e. behind_escaped b text inside more h shape e

pub closes : (escaped : Bool) (at : ℕ) (text : List ℕ) → ClosedOr escaped at text (closing escaped at text)
closes escaped at [] = λ inside more shape e. no_end inside more 34 e
closes false at (b ∷ text) =
    cond_both (b == 10) None (if b == 34 then Some at else closing (b == 92) (at + 1) text) (ClosedOr false at (b ∷ text))
    (λ l inside more shape e. at_line_end b text (eqb-true b 10 l) more shape e)
    (λ l. cond_both (b == 34) (Some at) (closing (b == 92) (at + 1) text) (ClosedOr false at (b ∷ text))
    (λ q. record { inside = []; more = text; cut = ap (λ x. x ∷ text) (eqb-true b 34 q); end_is = omega arith; shape = nothing })
    (λ q. next b at text (b == 92) q l refl (closing (b == 92) (at + 1) text) (closes (b == 92) (at + 1) text)))
closes true at (b ∷ text) =
    cond_both (b == 10) None (closing false (at + 1) text) (ClosedOr true at (b ∷ text))
    (λ l inside more (c, i, is, w, s) e. not_lf c w (sym (heads b c text (i ++ (34 ∷ more)) (e ∙ ap (λ l. l ++ (34 ∷ more)) is)) ∙ eqb-true b 10 l))
    (λ l. next_escaped b at text l (closing false (at + 1) text) (closes false (at + 1) text))

-- ---- what its inside stands for

pub record Broke (at : ℕ) (inside : List ℕ) (reason : Reason) (from to : ℕ) : Type 0 where
  pub done : List ℕ
  pub bytes : List ℕ
  pub bad : List ℕ
  pub after : List ℕ
  pub cut : inside ≡ done ++ (bad ++ after)
  pub good : IsInside done bytes
  pub wrong : IsBad bad reason
  pub closable : IsClosable after
  pub from_is : from ≡ at + length done
  pub to_is : to ≡ from + length bad

abbrev pub Decodes : ℕ → List ℕ → Decoded → Type 0
Decodes at inside (Whole bytes) = IsInside inside bytes
Decodes at inside (Broken reason from to) = Broke at inside reason from to

put_plain : (at b : ℕ) (inside : List ℕ) (d : Decoded) → is_plain b ≡ true → is_control b ≡ false → Decodes (at + 1) inside d → Decodes at (b ∷ inside) (put_byte b d)
put_plain at b inside (Whole bytes) p c h = plain p c h
put_plain at b inside (Broken reason from to) p c h = record {
  done = b ∷ h.done;
  bytes = b ∷ h.bytes;
  bad = h.bad;
  after = h.after;
  cut = ap (λ l. b ∷ l) h.cut;
  good = plain p c h.good;
  wrong = h.wrong;
  closable = h.closable;
  from_is = omega (arith, h.from_is);
  to_is = h.to_is;
}

put_escape : (at e b : ℕ) (inside : List ℕ) (d : Decoded) → IsEscape e b → Decodes (at + 1 + 1) inside d → Decodes at (92 ∷ (e ∷ inside)) (put_byte b d)
put_escape at e b inside (Whole bytes) s h = escape s h
put_escape at e b inside (Broken reason from to) s h = record {
  done = 92 ∷ (e ∷ h.done);
  bytes = b ∷ h.bytes;
  bad = h.bad;
  after = h.after;
  cut = ap (λ l. 92 ∷ (e ∷ l)) h.cut;
  good = escape s h.good;
  wrong = h.wrong;
  closable = h.closable;
  from_is = omega (arith, h.from_is);
  to_is = h.to_is;
}

escape_at : (e c b : ℕ) → (e == c) ≡ true → IsEscape c b → IsEscape e b
escape_at e c b is s = subst (λ x. IsEscape x b) (sym (eqb-true e c is)) s

no_escape_at : (e : ℕ) → (e == 110) ≡ false → (e == 116) ≡ false → (e == 92 || e == 34) ≡ false → (b : ℕ) → IsEscape e b → ⊥
no_escape_at e n t s b escaped_n = true≢false n
no_escape_at e n t s b escaped_t = true≢false t
no_escape_at e n t s b escaped_backslash = true≢false s
no_escape_at e n t s b escaped_quote = true≢false s

itself : (e : ℕ) → (e == 92 || e == 34) ≡ true → IsEscape e e
itself e q = by_case (or_cases (e == 92) (e == 34) q)
  where
    by_case : ((e == 92) ≡ true) ⊎ ((e == 34) ≡ true) → IsEscape e e
    by_case (inl b) = subst (λ x. IsEscape x x) (sym (eqb-true e 92 b)) escaped_backslash
    by_case (inr b) = subst (λ x. IsEscape x x) (sym (eqb-true e 34 b)) escaped_quote

pub decodes : {inside : List ℕ} (at : ℕ) → IsClosable inside → Decodes at inside (decoded false at inside)
decodes at nothing = empty
decodes at (one {b = b} {inside = i} p s) =
    let Q : Piece → Type 0 = λ x. Decodes at (b ∷ i) (followed false at x (λ now. decoded now (at + 1) i)) in
    cond_both (b == 92) Backslash (if is_control b then Bad BadByte else Byte b) Q
    (λ e. absurd (not_plain b 92 p (eqb-true b 92 e) refl))
    (λ e. cond_both (is_control b) (Bad BadByte) (Byte b) Q
    (λ c. record { done = []; bytes = []; bad = b ∷ []; after = i; cut = refl; good = empty; wrong = control c; closable = s; from_is = omega arith; to_is = refl })
    (λ c. put_plain at b i (decoded false (at + 1) i) p c (decodes (at + 1) s)))
decodes at (two {e = e} {inside = i} w s) =
    let Q : Piece → Type 0 = λ x. Decodes at (92 ∷ (e ∷ i)) (followed true (at + 1) x (λ now. decoded now (at + 1 + 1) i)) in
    let rest = decodes (at + 1 + 1) s in
    let put : (b : ℕ) → IsEscape e b → Q (Byte b) = λ b is. put_escape at e b i (decoded false (at + 1 + 1) i) is rest in
    cond_both (e == 110) (Byte 10) (if e == 116 then Byte 9 else (if e == 92 || e == 34 then Byte e else Bad BadEscape)) Q
    (λ n. put 10 (escape_at e 110 10 n escaped_n))
    (λ n. cond_both (e == 116) (Byte 9) (if e == 92 || e == 34 then Byte e else Bad BadEscape) Q
    (λ t. put 9 (escape_at e 116 9 t escaped_t))
    (λ t. cond_both (e == 92 || e == 34) (Byte e) (Bad BadEscape) Q
    (λ q. put e (itself e q))
    (λ q. record {
      done = [];
      bytes = [];
      bad = 92 ∷ (e ∷ []);
      after = i;
      cut = refl;
      good = empty;
      wrong = no_escape (no_escape_at e n t q) w;
      closable = s;
      from_is = omega arith;
      to_is = omega arith;
    })))
