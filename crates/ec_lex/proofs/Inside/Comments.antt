-- Where the first `*/` stands.
use Rattle.std.proofs.Common.{◌≡◌, ℕ, ◌+◌, ◌≤◌, false, List, [], ◌∷◌, ◌++◌, length, Option, Some, None, refl, ap, sym, ◌∙◌, arith, codes, length-append}
use Rattle.std.specs.Prelude.{◌&&◌, ◌==◌, slice_index}
use Rattle.std.proofs.lemmas.Bool.{cond_both, and_parts, eqb-true, eq-eqb, and_from, false≢true}
use Rattle.ec_lex.specs.Front.{comment_end}
use Rattle.ec_lex.specs.Tokens.{Holds}
use Rattle.ec_lex.proofs.Inside.Parts.{heads, tails, first_is}

-- a body and then the first `*/`
pub record Ended (at : ℕ) (text : List ℕ) (end : ℕ) : Type 0 where
  pub body : List ℕ
  pub more : List ℕ
  pub cut : text ≡ body ++ (codes "*/" ++ more)
  pub end_is : end ≡ at + (length body + 2)
  pub first_end : Holds (codes "*/") (body ++ codes "*") → ⊥

abbrev pub EndedOr : ℕ → List ℕ → Option ℕ → Type 0
EndedOr at text (Some end) = Ended at text end
EndedOr at text None = Holds (codes "*/") text → ⊥

-- a text of one byte holds not_here two
too_short : (b : ℕ) (text : List ℕ) → length text ≤ 1 → Holds (codes "*/") text → ⊥
too_short b text short h =
    let n : length text ≡ length ((h.0 ++ codes "*/") ++ h.1.0) = ap length h.1.1 in
    let two : length (codes "*/") ≡ 2 = refl in
    absurd (omega (arith, n, short, two, length-append (h.0 ++ codes "*/") h.1.0, length-append h.0 (codes "*/")))

-- where it does not stand at the front, it stands behind the first byte
behind : (b : ℕ) (text : List ℕ) → (b == 42 && slice_index text 0 == 47) ≡ false → (Holds (codes "*/") text → ⊥) → Holds (codes "*/") (b ∷ text) → ⊥
behind b text not_here rest ([], (more, e)) =
    let star = heads b 42 text _ e in
    let slash = ap (λ l. slice_index l 0) (tails b 42 text _ e) in
    false≢true (sym not_here ∙ and_from (b == 42) (slice_index text 0 == 47) (eq-eqb b 42 star) (eq-eqb _ 47 slash))
behind b text not_here rest (c ∷ before, (more, e)) = rest (before, (more, tails b c text _ e))

shifted : (b at : ℕ) (text : List ℕ) (o : Option ℕ) → (b == 42 && slice_index text 0 == 47) ≡ false → EndedOr (at + 1) text o → EndedOr at (b ∷ text) o
shifted b at text (Some end) not_here e = record {
  body = b ∷ e.body;
  more = e.more;
  cut = ap (λ l. b ∷ l) e.cut;
  end_is = omega (arith, e.end_is);
  first_end = behind b (e.body ++ codes "*") (same e.body e.cut) e.first_end;
}
  where
    same : (body : List ℕ) → text ≡ body ++ (codes "*/" ++ e.more) → (b == 42 && slice_index (body ++ codes "*") 0 == 47) ≡ false
    same [] cut = ap (λ l. b == 42 && slice_index l 0 == 47) (sym cut) ∙ not_here
    same (c ∷ body) cut = ap (λ l. b == 42 && slice_index l 0 == 47) (sym cut) ∙ not_here
shifted b at text None not_here e = behind b text not_here e

pub comment_ends : (at : ℕ) (text : List ℕ) → EndedOr at text (comment_end at text)
comment_ends at [] = too_short 0 [] (omega arith)
comment_ends at (b ∷ text) =
    cond_both (b == 42 && slice_index text 0 == 47) (Some (at + 2)) (comment_end (at + 1) text) (EndedOr at (b ∷ text))
    (λ e. let both = and_parts (b == 42) (slice_index text 0 == 47) e in
    record {
      body = [];
      more = _;
      cut = ap (λ c. c ∷ text) (eqb-true b 42 both.0) ∙ ap (λ l. 42 ∷ l) (first_is text 47 (omega arith) (eqb-true _ 47 both.1));
      end_is = refl;
      first_end = too_short 0 (codes "*") (omega arith);
    })
    (λ e. shifted b at text (comment_end (at + 1) text) e (comment_ends (at + 1) text))
