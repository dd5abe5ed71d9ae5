-- What a phrase adds to a text is its tokens, laid out.
use Rattle.std.proofs.Common.{◌≡◌, refl, ap, sym, ◌∙◌, ℕ, List, [], ◌∷◌, ◌++◌, append_assoc, append-nil}
use Rattle.ec_base.specs.declared.token.TokenKind.{TokenKind}
use Rattle.ec_print.specs.Layout.{spelled, gap, depth_after, laid_from, laid}
use Rattle.ec_print.specs.Phrase.{Phrase, nothing, token, ◌then◌, tokens}
use Rattle.ec_print.specs.Writing.{Written, with, with_token}

-- how many parentheses are open behind tokens
abbrev pub depth_behind : ℕ → List TokenKind → ℕ
depth_behind depth [] = depth
depth_behind depth (k ∷ ks) = depth_behind (depth_after depth k) ks

-- ---- tokens behind tokens

depth-append : (ks ls : List TokenKind) (d : ℕ) → depth_behind d (ks ++ ls) ≡ depth_behind (depth_behind d ks) ls
depth-append [] ls d = refl
depth-append (k ∷ ks) ls d = depth-append ks ls (depth_after d k)

pub laid-append : (ks ls : List TokenKind) (d : ℕ) → laid_from d (ks ++ ls) ≡ laid_from d ks ++ laid_from (depth_behind d ks) ls
laid-append [] ls d = refl
laid-append (k ∷ ks) ls d =
    ap (λ x. spelled k ++ gap d k ∷ x) (laid-append ks ls (depth_after d k))
    ∙ sym (append_assoc (spelled k) (gap d k ∷ laid_from (depth_after d k) ks) (laid_from (depth_behind d (k ∷ ks)) ls))

-- ---- a phrase more

depth_with : (p : Phrase) (w : Written) → (with p w).depth ≡ depth_behind w.depth (tokens p)
unfolding with_token
depth_with nothing w = refl
depth_with (token k) w = refl
depth_with (a then b) w =
    depth_with b (with a w) ∙ ap (λ d. depth_behind d (tokens b)) (depth_with a w) ∙ sym (depth-append (tokens a) (tokens b) w.depth)

text_with : (p : Phrase) (w : Written) → (with p w).text ≡ w.text ++ laid_from w.depth (tokens p)
unfolding with_token
text_with nothing w = sym (append-nil w.text)
text_with (token k) w = append_assoc w.text (spelled k) (gap w.depth k ∷ [])
text_with (a then b) w =
    let behind_a : ℕ = depth_behind w.depth (tokens a) in
    text_with b (with a w)
    ∙ ap (λ d. (with a w).text ++ laid_from d (tokens b)) (depth_with a w)
    ∙ ap (λ x. x ++ laid_from behind_a (tokens b)) (text_with a w)
    ∙ append_assoc w.text (laid_from w.depth (tokens a)) (laid_from behind_a (tokens b))
    ∙ ap (λ x. w.text ++ x) (sym (laid-append (tokens a) (tokens b) w.depth))

pub with_is_laid : (p : Phrase) → (with p (record { text = []; depth = 0 })).text ≡ laid (tokens p)
with_is_laid p = text_with p (record { text = []; depth = 0 })
