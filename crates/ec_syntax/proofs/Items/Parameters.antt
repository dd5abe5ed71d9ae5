-- Lists of parameters are decided.
use Rattle.std.proofs.Common.{◌≡◌, ℕ, Bool, false, List, [], ◌∷◌, ◌++◌, length, None, codes, refl, subst, inl, inr, arith}
use Rattle.ec_base.specs.declared.token.Mark.TheVariants as m
use Rattle.ec_base.specs.declared.token.Token.{Token}
use Rattle.ec_syntax.specs.declared.name.Base.{Base}
use Rattle.ec_syntax.specs.declared.name.Base.TheVariants.{Void}
use Rattle.ec_syntax.specs.declared.name.Mode.{Mode}
use Rattle.ec_syntax.specs.declared.name.Mode.TheVariants.{Plain, Local, Shared}
use Rattle.ec_syntax.specs.declared.name.Name.{Name}
use Rattle.ec_syntax.specs.declared.statement.Decl.{Decl}
use Rattle.ec_syntax.specs.Grammar.State.{State, Asked}
use Rattle.ec_syntax.specs.Grammar.Words.{same}
use Rattle.ec_syntax.specs.Grammar.Language as L
use Rattle.ec_syntax.specs.Grammar.Language.{Language, ◌or◌, ◌>>=◌, ◌>>◌}
use Rattle.ec_syntax.specs.Grammar.Tokens as LT
use Rattle.ec_syntax.specs.Grammar.Tokens.{is_word, is_mark}
use Rattle.ec_syntax.specs.Grammar.Types as LY
use Rattle.ec_syntax.specs.Grammar.Types.{typed}
use Rattle.ec_syntax.specs.Grammar.Items as LI
use Rattle.ec_syntax.specs.Descent.Reader as R
use Rattle.ec_syntax.specs.Descent.Reader.{Reader, ◌>>=◌ as ◌▸=◌, ◌>>◌ as ◌▸◌}
use Rattle.ec_syntax.specs.Descent.Tokens as RT
use Rattle.ec_syntax.specs.Descent.Tokens.{begins_base}
use Rattle.ec_syntax.specs.Descent.Items as RI
use Rattle.ec_syntax.proofs.Decision.Procedures.{is_else, Decides, Apart}
use Rattle.ec_syntax.proofs.Decision.Basics.{given, weaker, same_language, reindexed}
use Rattle.ec_syntax.proofs.Decision.Sequencing.{followed_maybe}
use Rattle.ec_syntax.proofs.Decision.Alternatives.{either}
use Rattle.ec_syntax.proofs.Decision.Repetition.{turning}
use Rattle.ec_syntax.proofs.Lookahead.FirstSets.{one_of, itself, split, or_apart, within_left, within_right, none, none_apart, apart_none, none_within}
use Rattle.ec_syntax.proofs.Items.Tokens.{word_decides, mark_decides, base_decides, variable_base_decides, stars_decides, mode_decides, parameter_name_decides}
use Rattle.ec_syntax.proofs.Terminals.Types.{goes_mode}
use Rattle.ec_syntax.proofs.Items.Structs.{after, made, star_or_name, name_not_mark}
use Rattle.ec_syntax.proofs.Tokens.Classes.{name_not, from_word}
use Rattle.ec_syntax.proofs.Tokens.Samples.{Sample, void_sample, local_sample, shared_sample}

-- ---- one parameter

abbrev parameter : Mode → Base → ℕ → Name → Decl
parameter how b k n = record { name = n; mode = how; ty = typed b k; init = None }

-- "*"* id behind its mode and base, and behind so many parameters
abbrev on : ℕ → Mode → Base → Language Decl
on before how b = LY.stars (LT.mark 1 m.Star) 0 >>= (λ k. LT.parameter_name 1 before >>= (λ n. L.give (parameter how b k n)))

on_decides : {X able : Type 0} {goes : Token → Bool} (before : X → ℕ) (how : X → Mode) (b : X → Base) →
    Decides {X = X} able 1 (λ x. RI.parameter_on (before x) (how x) (b x))
    (λ x. on (before x) (how x) (b x)) ⊥ star_or_name goes
on_decides before how b =
    followed_maybe _ (stars_decides (omega arith) (λ _. 0)) (made (λ x n. parameter (how x.0) (b x.0) x.1 n) (parameter_name_decides (omega arith) (λ x. before x.0)))
    (name_not_mark m.Star) (λ e. absurd e) (name_not (codes "else") refl) tt

-- what a test says of the words that begin a type
base_apart : (test : Token → Bool) → Apart (is_word (codes "int")) test → Apart (is_word (codes "void")) test →
    Apart (is_word (codes "struct")) test → Apart begins_base test
base_apart test a b c x = split _ _ (split _ _ (a x) (b x)) (c x)

base_goes_mode : Apart begins_base goes_mode
base_goes_mode = base_apart goes_mode (from_word (codes "int") goes_mode false (λ at. refl)) (from_word (codes "void") goes_mode false (λ at. refl)) (from_word (codes "struct") goes_mode false (λ at. refl))

base_else : Apart begins_base is_else
base_else = base_apart is_else (from_word (codes "int") is_else false (λ at. refl)) (from_word (codes "void") is_else false (λ at. refl)) (from_word (codes "struct") is_else false (λ at. refl))

abbrev begins_parameter : Token → Bool
begins_parameter = one_of goes_mode begins_base

-- behind so many
parameter_decides : {X able : Type 0} {goes : Token → Bool} (before : X → ℕ) →
    Decides {X = X} able 1 (λ x. RI.parameter (before x)) (λ x. LI.parameter (before x)) ⊥ begins_parameter goes
parameter_decides before =
    followed_maybe _ (mode_decides (omega arith)) (after _ (base_decides (omega arith)) (on_decides (λ x. before x.0.0) (λ x. x.0.1) (λ x. x.1)))
    base_goes_mode (λ e. absurd e) base_else tt

pub word_not_word : (v w : List ℕ) → same v w ≡ false → Apart (is_word v) (is_word w)
word_not_word v w e = from_word v (is_word w) false (λ at. e)

-- ---- more parameters

abbrev next : List Decl → Language (List Decl)
next ps = LT.mark 1 m.Comma >> (LI.parameter (length ps) >>= (λ p. L.give (ps ++ p ∷ [])))

abbrev next_reader : List Decl → Reader (List Decl)
next_reader ps = RT.mark m.Comma ▸ (RI.parameter (length ps) ▸= (λ p. R.give (ps ++ p ∷ [])))

next_decides : {X able : Type 0} {goes : Token → Bool} (ps : X → List Decl) →
    Decides {X = X} able 1 (λ x. next_reader (ps x)) (λ x. next (ps x)) ⊥ (is_mark m.Comma) goes
next_decides ps = after _ (mark_decides (omega arith) m.Comma) (made (λ x p. ps x.0 ++ p ∷ []) (parameter_decides (λ x. length (ps x.0))))

further_decides : {X able : Type 0} (ps : X → List Decl) →
    Decides {X = X} able 1 (λ x. RI.further (ps x)) (λ x. L.turns next (ps x)) (Unit {0}) (is_mark m.Comma)
    (is_mark m.Comma)
further_decides ps = reindexed (λ x. (tt, ps x)) (turning {X = Unit {0}} (λ _. next_reader) (λ _. next) (next_decides (λ x. x.1)) (apart_none _) (none_within _) (itself _))

-- a list of parameters behind the mode and base of the first
abbrev list_on : Mode → Base → Language (List Decl)
list_on how b = on 0 how b >>= (λ p. L.turns next (p ∷ []))

abbrev pub list_reader : Mode → Base → Reader (List Decl)
list_reader how b = RI.parameter_on 0 how b ▸= (λ p. RI.further (p ∷ []))

list_decides : {X able : Type 0} (how : X → Mode) (b : X → Base) →
    Decides {X = X} able 1 (λ x. list_reader (how x) (b x))
    (λ x. list_on (how x) (b x)) ⊥ star_or_name (is_mark m.Comma)
list_decides how b = after _ (on_decides (λ _. 0) how b) (further_decides (λ x. x.1 ∷ []))

-- ---- lists as they are read: told by their first token

-- behind `void`: a parameter of that base, or nothing
abbrev pub void_on : Language (List Decl)
void_on = list_on Plain Void or L.give []

abbrev pub void_reader : Reader (List Decl)
void_reader = R.when star_or_name (list_reader Plain Void) (R.give [])

abbrev goes_void : Token → Bool
goes_void = one_of star_or_name (is_mark m.Comma)

void_on_decides : {X able : Type 0} → Decides {X = X} able 1 (λ _. void_reader) (λ _. void_on) (Unit {0})
    (one_of star_or_name none) goes_void
void_on_decides = either star_or_name (weaker (λ e. e) (λ e. e) (λ e. e) (within_right _ _ _ (itself _)) (list_decides (λ _. Plain) (λ _. Void))) (given (λ _. []) _ 1 _)
    (itself _) (none_apart _) (λ _. within_left _ _ _ (itself _))

abbrev void_list : Language (List Decl)
void_list = LT.word 1 (codes "void") >> void_on

abbrev pub void_list_reader : Reader (List Decl)
void_list_reader = RT.word (codes "void") ▸ void_reader

void_list_decides : {X able : Type 0} → Decides {X = X} able 1 (λ _. void_list_reader)
    (λ _. void_list) ⊥ (is_word (codes "void")) goes_void
void_list_decides = after _ (word_decides (omega arith) (codes "void") void_sample) void_on_decides

-- behind this mode's word, any base
abbrev moded_list : List ℕ → Mode → Language (List Decl)
moded_list w how = LT.word 1 w >> (LY.base 1 >>= list_on how)

abbrev pub moded_reader : List ℕ → Mode → Reader (List Decl)
moded_reader w how = RT.word w ▸ (RT.base ▸= list_reader how)

moded_decides : {X able : Type 0} (w : List ℕ) (sample : Sample (is_word w)) (how : Mode) →
    Decides {X = X} able 1 (λ _. moded_reader w how) (λ _. moded_list w how) ⊥ (is_word w) goes_void
moded_decides w sample how = weaker (λ e. e) (λ e. e) (λ e. e) (within_right _ _ _ (itself _))
    (after _ (word_decides (omega arith) w sample) (after _ (base_decides (omega arith)) (list_decides (λ _. how) (λ x. x.1))))

-- a plain parameter, but `void`
abbrev plain_list : Language (List Decl)
plain_list = (LY.int_base 1 or LY.struct_base 1) >>= list_on Plain

abbrev pub plain_reader : Reader (List Decl)
plain_reader = RT.variable_base ▸= list_reader Plain

abbrev pub int_or_struct : Token → Bool
int_or_struct = one_of (is_word (codes "int")) (is_word (codes "struct"))

plain_decides : {X able : Type 0} → Decides {X = X} able 1 (λ _. plain_reader)
    (λ _. plain_list) ⊥ int_or_struct goes_void
plain_decides = weaker (λ e. e) (λ e. e) (λ e. e) (within_right _ _ _ (itself _)) (after _ (variable_base_decides (omega arith)) (list_decides (λ _. Plain) (λ x. x.1)))

-- either of these
abbrev lists : Language (List Decl)
lists = void_list or (moded_list (codes "local") Local or (moded_list (codes "shared") Shared or plain_list))

abbrev pub lists_reader : Reader (List Decl)
lists_reader = R.when (is_word (codes "void")) void_list_reader (R.when (is_word (codes "local")) (moded_reader (codes "local") Local)
    (R.when (is_word (codes "shared")) (moded_reader (codes "shared") Shared) plain_reader))

abbrev pub begins_shared : Token → Bool
begins_shared = one_of (is_word (codes "shared")) int_or_struct

abbrev pub begins_local : Token → Bool
begins_local = one_of (is_word (codes "local")) begins_shared

abbrev pub begins_list : Token → Bool
begins_list = one_of (is_word (codes "void")) begins_local

shared_decides : {X able : Type 0} → Decides {X = X} able 1
    (λ _. R.when (is_word (codes "shared")) (moded_reader (codes "shared") Shared) plain_reader)
    (λ _. moded_list (codes "shared") Shared or plain_list) ⊥ begins_shared goes_void
shared_decides = either (is_word (codes "shared")) (moded_decides (codes "shared") shared_sample Shared) plain_decides (itself _)
    (or_apart _ _ _ (word_not_word (codes "int") (codes "shared") refl) (word_not_word (codes "struct") (codes "shared") refl)) (λ e. absurd e)

local_decides : {X able : Type 0} → Decides {X = X} able 1
    (λ _. R.when (is_word (codes "local")) (moded_reader (codes "local") Local)
    (R.when (is_word (codes "shared")) (moded_reader (codes "shared") Shared) plain_reader))
    (λ _. moded_list (codes "local") Local or (moded_list (codes "shared") Shared or plain_list)) ⊥ begins_local goes_void
local_decides = either (is_word (codes "local")) (moded_decides (codes "local") local_sample Local) shared_decides (itself _)
    (or_apart _ _ _ (word_not_word (codes "shared") (codes "local") refl) (or_apart _ _ _ (word_not_word (codes "int") (codes "local") refl) (word_not_word (codes "struct") (codes "local") refl))) (λ e. absurd e)

lists_decide : {X able : Type 0} → Decides {X = X} able 1 (λ _. lists_reader) (λ _. lists) ⊥ begins_list goes_void
lists_decide = either (is_word (codes "void")) void_list_decides local_decides (itself _)
    (or_apart _ _ _ (word_not_word (codes "local") (codes "void") refl) (or_apart _ _ _ (word_not_word (codes "shared") (codes "void") refl)
    (or_apart _ _ _ (word_not_word (codes "int") (codes "void") refl) (word_not_word (codes "struct") (codes "void") refl)))) (λ e. absurd e)

-- a list or none
abbrev told : Language (List Decl)
told = lists or L.give []

abbrev pub told_reader : Reader (List Decl)
told_reader = R.when begins_list lists_reader (R.give [])

abbrev pub goes_told : Token → Bool
goes_told = one_of begins_list goes_void

told_decides : {X able : Type 0} → Decides {X = X} able 1 (λ _. told_reader) (λ _. told) (Unit {0})
    (one_of begins_list none) goes_told
told_decides = either begins_list (weaker (λ e. e) (λ e. e) (λ e. e) (within_right _ _ _ (itself _)) lists_decide) (given (λ _. []) _ 1 _)
    (itself _) (none_apart _) (λ _. within_left _ _ _ (itself _))

-- ---- the same lists as in the grammar

told_to : (asked : Asked) (s : State) (ps : List Decl) (s' : State) → told asked s ps s' → LI.parameters asked s ps s'
told_to asked s ps s' (inl (inl (u, m, void, inl (p, k, h, rest)))) = inr (inr (p, k, (Plain, s, inl (refl, refl), (Void, m, inr (inl (u, m, void, (refl, refl))), h)), rest))
told_to asked s ps s' (inl (inl (u, m, void, inr e))) = inr (inl (u, m, void, e))
told_to asked s ps s' (inl (inr (inl (u, m, local, (b, n, base, (p, k, h, rest)))))) = inr (inr (p, k, (Local, m, inr (inl (u, m, local, (refl, refl))), (b, n, base, h)), rest))
told_to asked s ps s' (inl (inr (inr (inl (u, m, shared, (b, n, base, (p, k, h, rest))))))) = inr (inr (p, k, (Shared, m, inr (inr (u, m, shared, (refl, refl))), (b, n, base, h)), rest))
told_to asked s ps s' (inl (inr (inr (inr (b, n, inl base, (p, k, h, rest)))))) = inr (inr (p, k, (Plain, s, inl (refl, refl), (b, n, inl base, h)), rest))
told_to asked s ps s' (inl (inr (inr (inr (b, n, inr base, (p, k, h, rest)))))) = inr (inr (p, k, (Plain, s, inl (refl, refl), (b, n, inr (inr base), h)), rest))
told_to asked s ps s' (inr e) = inl e

-- the first parameter's mode and base tell which list it is
plain_from : (asked : Asked) (s : State) (b : Base) (n : State) (p : Decl) (k : State) (ps : List Decl) (s' : State) →
    LY.base 1 asked s b n → on 0 Plain b asked n p k → L.turns next (p ∷ []) asked k ps s' → lists asked s ps s'
plain_from asked s b n p k ps s' (inl base) h rest = inr (inr (inr (b, n, inl base, (p, k, h, rest))))
plain_from asked s b n p k ps s' (inr (inl (u, m, void, (e, f)))) h rest =
    inl (u, m, void, inl (p, k, subst (λ z. on 0 Plain z asked m p k) e (subst (λ z. on 0 Plain b asked z p k) f h), rest))
plain_from asked s b n p k ps s' (inr (inr base)) h rest = inr (inr (inr (b, n, inr base, (p, k, h, rest))))

moded_from : (asked : Asked) (s : State) (how : Mode) (m : State) (b : Base) (n : State) (p : Decl) (k : State)
    (ps : List Decl) (s' : State) → LY.mode 1 asked s how m →
    LY.base 1 asked m b n → on 0 how b asked n p k → L.turns next (p ∷ []) asked k ps s' → lists asked s ps s'
moded_from asked s how m b n p k ps s' (inl (e, f)) base h rest =
    plain_from asked s b n p k ps s' (subst (λ z. LY.base 1 asked z b n) f base) (subst (λ z. on 0 z b asked n p k) e h) rest
moded_from asked s how m b n p k ps s' (inr (inl (u, l, local, (e, f)))) base h rest =
    inr (inl (u, l, local, (b, n, subst (λ z. LY.base 1 asked z b n) f base, (p, k, subst (λ z. on 0 z b asked n p k) e h, rest))))
moded_from asked s how m b n p k ps s' (inr (inr (u, l, shared, (e, f)))) base h rest =
    inr (inr (inl (u, l, shared, (b, n, subst (λ z. LY.base 1 asked z b n) f base, (p, k, subst (λ z. on 0 z b asked n p k) e h, rest)))))

told_from : (asked : Asked) (s : State) (ps : List Decl) (s' : State) → LI.parameters asked s ps s' → told asked s ps s'
told_from asked s ps s' (inl e) = inr e
told_from asked s ps s' (inr (inl (u, m, void, e))) = inl (inl (u, m, void, inr e))
told_from asked s ps s' (inr (inr (p, k, (how, m, mode, (b, n, base, h)), rest))) = inl (moded_from asked s how m b n p k ps s' mode base h rest)

pub parameters_decide : {X able : Type 0} →
    Decides {X = X} able 1 (λ _. told_reader) (λ _. LI.parameters) (Unit {0}) (one_of begins_list none) goes_told
parameters_decide = same_language (λ _. told_to) (λ _. told_from) told_decides
