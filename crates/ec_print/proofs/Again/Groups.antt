-- Lists of declarators or fields, read again: each is written with what stands before the list, by itself.
use Rattle.std.proofs.Common.{◌≡◌, refl, sym, ◌∙◌, ap, subst, inl, inr, true≢false, ℕ, false, List, [], ◌∷◌, ◌++◌, map, append_assoc, append-nil, Option}
use Rattle.ec_base.specs.declared.token.Mark.TheVariants as m
use Rattle.ec_base.specs.declared.token.Token.{Token}
use Rattle.ec_base.specs.declared.token.TokenKind.TheVariants as t
use Rattle.ec_syntax.specs.Grammar.Language as L
use Rattle.ec_syntax.specs.Grammar.Language.{Language, Turns}
use Rattle.ec_syntax.specs.Grammar.Language.Turns.{over, more}
use Rattle.ec_syntax.specs.Grammar.State.{State, limits}
use Rattle.ec_syntax.specs.Grammar.Tokens as T
use Rattle.ec_print.specs.Phrase.{Phrase, tokens}
use Rattle.ec_print.proofs.Again.Readings.{Again, Kinds, Quiet, to_state, mapped, behind}
use Rattle.ec_print.proofs.Again.Marks.{mark_again}
use Rattle.ec_print.proofs.Again.Rules.{Grows, over_again, turns_grow, begins_at}
use Rattle.ec_print.proofs.Again.Lists.{joins, joins-snoc, images-snoc}
use Rattle.ec_print.proofs.Again.Calls.{Mirrors}
use Rattle.ec_print.proofs.Again.Steps.{free_mark}

-- ---- readings with other counts

-- the tokens of one state with the counts of another
abbrev pub recount : State → State → State
recount s c = record c { left = s.left; end = s.end }

-- Nothing is counted in what is read.
abbrev pub Free : {A : Type 0} → Language A → Type 0
Free l = (s : State) (a : _) (n : State) → l limits s a n → (c : State) → l limits (recount s c) a (recount n c)

pub free_plain : {A : Type 0} (d : ℕ) (pick : Token → Option A) → Free (L.plain d pick)
free_plain d pick s a n h c = record { token = h.token; rest = h.rest; stands = h.stands; picked = h.picked; nested = h.nested; within = tt; next = ap (λ z. recount z c) h.next }

pub free_name : (d : ℕ) → Free (T.name d)
free_name d s a n h c = record { token = h.token; rest = h.rest; stands = h.stands; picked = h.picked; nested = h.nested; within = h.within; next = ap (λ z. recount z c) h.next }

pub free_give : {A : Type 0} (a : A) → Free (L.give a)
free_give a s b n (e, f) c = (e, ap (λ z. recount z c) f)

pub free_behind : {A B : Type 0} (p : Language A) (f : A → Language B) → Free p → ((a : A) → Free (f a)) → Free (L.◌>>=◌ p f)
free_behind p f h k s b n (a, i, r, q) c = (a, recount i c, h s a i r c, k a i b n q c)

pub free_or : {A : Type 0} (p q : Language A) → Free p → Free q → Free (L.◌or◌ p q)
free_or p q h k s a n (inl r) c = inl (h s a n r c)
free_or p q h k s a n (inr r) c = inr (k s a n r c)

-- ---- turns behind turns

pub turns-append : {A : Type 0} {turn : A → Language A} (s : State) (a b c : A) (i n : State) → Turns turn limits s a b i → Turns turn limits i b c n → Turns turn limits s a c n
turns-append s a b c i n over q = q
turns-append s a b c i n (more {m = j} {b = x} r rs) q = more r (turns-append j x b c i n rs q)

-- ---- groups

-- what stands before a list, one, any number of others behind commas, and a semicolon
abbrev pub further : {V A : Type 0} → ℕ → (V → Language A) → V → List A → Language (List A)
further d D v xs = L.◌>>◌ (T.mark d m.Comma) (L.◌>>=◌ (D v) (λ x. L.give (xs ++ x ∷ [])))

abbrev pub group : {V A : Type 0} → ℕ → Language V → (V → Language A) → List A → Language (List A)
group d P D xs = L.◌>>=◌ P (λ v. L.◌>>=◌ (D v) (λ first. L.◌>>=◌ (L.turns (further d D v) (xs ++ first ∷ [])) (λ all. L.◌>>◌ (T.mark d m.Semicolon) (L.give all))))

-- one group and any number of others
abbrev pub groups : {V A : Type 0} → ℕ → Language V → (V → Language A) → List A → Language (List A)
groups d P D xs = L.◌>>=◌ (group d P D xs) (L.turns (group d P D))

module _ {V A : Type 0} (d : ℕ) (P : Language V) (D D' : V → Language A) (pre : V → Phrase) (pre_image : V → V) (tail whole : A → Phrase) (image : A → A)
    (free : Free P) (prefix : Mirrors false pre pre_image P P)
    (each : (v v' : V) → pre_image v' ≡ pre_image v → Mirrors false tail image (D v) (D' v'))
    (written : (v : V) (s : State) (x : A) (n : State) → D v limits s x n → (ks : Kinds) → tokens (whole x) ++ ks ≡ tokens (pre v) ++ (tokens (tail x) ++ (t.Mark m.Semicolon ∷ ks)))
    (calm : (v : V) (s : State) (x : A) (n : State) → D v limits s x n → Quiet s.left) where
  -- the semicolon of a group, and any number of others
  abbrev semi : List A → Language (List A)
  semi zs = L.◌>>◌ (T.mark d m.Semicolon) (L.turns (group d P D') zs)

  said_more : (v : V) (s : State) (x : A) (n : State) → D v limits s x n → (xs b ys : List A) (ks : Kinds) → b ≡ xs ++ x ∷ [] → joins whole image ys ≡ joins whole image b ++ ks →
      joins whole image ys ≡ joins whole image xs ++ (tokens (pre v) ++ (tokens (tail x) ++ (t.Mark m.Semicolon ∷ ks)))
  said_more v s x n r xs b ys ks e h =
      h ∙ ap (λ z. joins whole image z ++ ks) e ∙ ap (λ z. z ++ ks) (joins-snoc whole image xs x) ∙ append_assoc (joins whole image xs) (tokens (whole x)) ks
      ∙ ap (λ z. joins whole image xs ++ z) (written v s x n r ks)

  abbrev Pending : State → List A → List A → State → Type 0
  Pending s xs ys n = (ks : Kinds) × (joins whole image ys ≡ joins whole image xs ++ ks) × ((zs : List A) → map image zs ≡ map image xs → Again false s n (semi zs) (t.Mark m.Semicolon ∷ ks) (λ b. map image b ≡ map image ys))

  -- one more of a list, whose semicolon is pending, begins a group of its own
  next_group : (v : V) (p q : State) → P limits p v q → (s i : State) (u : Unit {0}) → T.mark d m.Comma limits s u i → (x : A) (o n : State) → D v limits i x o → (xs ys : List A) →
      (ks : Kinds) → ((zs : List A) → map image zs ≡ map image (xs ++ x ∷ []) → Again false o n (semi zs) (t.Mark m.Semicolon ∷ ks) (λ b. map image b ≡ map image ys)) →
      (zs : List A) → map image zs ≡ map image xs → Again false s n (semi zs) (t.Mark m.Semicolon ∷ (tokens (pre v) ++ (tokens (tail x) ++ (t.Mark m.Semicolon ∷ ks)))) (λ b. map image b ≡ map image ys)
  next_group v p q w s i u rc x o n rx xs ys ks again zs k =
      mapped
      (λ t b n r h. (b, (r.0, r.1, r.2, (let (v', i', r', (x', j', q', (u', k', p', rs))) = r.3 in more (v', i', r', (x', j', q', (zs ++ x' ∷ [], j', over, (u', k', p', (refl, refl))))) rs)), h))
      (behind tt tt
      (free_mark rc.nested {s = s} {n = recount p i} m.Semicolon (λ at. refl)
      (λ t rest end a. record { marks = λ e. absurd (true≢false (sym e)); variables = a.variables ∙ sym (ap (λ z. z.variables) rc.next); functions = a.functions ∙ sym (ap (λ z. z.functions) rc.next); structs = a.structs ∙ sym (ap (λ z. z.structs) rc.next) }))
      (λ _ _. behind v refl (prefix (recount p i) v (recount q i) (free p v q w i)) (λ v' h.
      behind x refl
      (begins_at {s = i} (recount q i) (λ _. calm v i x o rx) (λ t a. record { marks = a.marks; variables = a.variables; functions = a.functions; structs = a.structs }) (each v v' h i x o rx))
      (λ x' g. again (zs ++ x' ∷ []) (images-snoc whole image xs zs x x' k g)))))

  pending : (v : V) (p q : State) → P limits p v q → (s : State) (xs ys : List A) (i n : State) → Turns (further d D v) limits s xs ys i → (u : Unit {0}) → T.mark d m.Semicolon limits i u n → Pending s xs ys n
  pending v p q w s xs ys i n over u r = ([], sym (append-nil (joins whole image xs)), λ zs k. behind tt tt (mark_again m.Semicolon r) (λ _ _. over_again zs k))
  pending v p q w s xs ys i n (more {m = j} {b = b} (c, k, rc, (x, o, rx, (e, f))) rs) u r =
      let (ks, h, again) = pending v p q w j b ys i n rs u r in (
        tokens (pre v) ++ (tokens (tail x) ++ (t.Mark m.Semicolon ∷ ks)),
        said_more v k x o rx xs b ys ks e h,
        next_group v p q w s k c rc x o n rx xs ys ks (λ zs g. subst (λ z. Again false z n (semi zs) (t.Mark m.Semicolon ∷ ks) (λ b. map image b ≡ map image ys)) f (again zs (g ∙ ap (map image) (sym e)))),
      )

  pub group_grows : (s : State) (xs ys : List A) (n : State) → group d P D xs limits s ys n → Grows false (joins whole image) (map image) (groups d P D') s xs ys n
  group_grows s xs ys n (v, i, rP, (x, j, rD, (all, k, rs, (u, o, rm, (e, f))))) =
      let (ks, h, again) = pending v s i rP j (xs ++ x ∷ []) all k o rs u rm in (
        tokens (pre v) ++ (tokens (tail x) ++ (t.Mark m.Semicolon ∷ ks)),
        ap (joins whole image) e ∙ said_more v i x j rD xs (xs ++ x ∷ []) all ks refl h,
        λ zs g. to_state f
            (mapped
            (λ t b n r w. (b, (let (v', i', r', (x', j', q', (u', k', p', rs))) = r in (zs ++ x' ∷ [], k', (v', i', r', (x', j', q', (zs ++ x' ∷ [], j', over, (u', k', p', (refl, refl))))), rs)), w ∙ ap (map image) (sym e)))
            (behind v refl (prefix s v i rP) (λ v' h. behind x refl (each v v' h i x j rD) (λ x' w. again (zs ++ x' ∷ []) (images-snoc whole image xs zs x x' g w))))),
      )

  pub groups_grow : (s : State) (xs ys : List A) (n : State) → L.turns (group d P D) xs limits s ys n → Grows false (joins whole image) (map image) (L.turns (group d P D')) s xs ys n
  groups_grow = turns_grow (joins whole image) (map image) {l = groups d P D'} (λ t a b c i n r rs. more r.2 (turns-append r.1 r.0 b c i n r.3 rs)) group_grows
