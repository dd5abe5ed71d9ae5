-- The reader of parameters before a closing bracket reads what one does that is told by the first token.
use Rattle.std.proofs.Common.{◌≡◌, refl, ap, sym, ◌∙◌, ⊎_elim, ℕ, suc, None, Bool, true, false, ◌&&◌, List, [], ◌∷◌, codes}
use Rattle.ec_base.specs.declared.token.Mark.TheVariants as m
use Rattle.ec_base.specs.declared.token.Span.{Span}
use Rattle.ec_base.specs.declared.token.Token.{Token}
use Rattle.ec_base.specs.declared.token.TokenKind.TheVariants as t
use Rattle.ec_syntax.specs.declared.name.Base.{Base}
use Rattle.ec_syntax.specs.declared.name.Base.TheVariants.{Void, Int, Struct}
use Rattle.ec_syntax.specs.declared.name.Mode.{Mode}
use Rattle.ec_syntax.specs.declared.name.Mode.TheVariants.{Plain, Local, Shared}
use Rattle.ec_syntax.specs.declared.name.Name.{Name}
use Rattle.ec_syntax.specs.declared.quantity.Fault.TheVariants.{Expected}
use Rattle.ec_syntax.specs.declared.statement.Decl.{Decl}
use Rattle.ec_syntax.specs.Grammar.State.{State}
use Rattle.ec_syntax.specs.Grammar.Words.{same}
use Rattle.ec_syntax.specs.Grammar.Language.{first_is}
use Rattle.ec_syntax.specs.Grammar.Tokens.{is_word, is_mark, name_of, parameter_counts, with_variable}
use Rattle.ec_syntax.specs.Grammar.Types.{typed}
use Rattle.ec_syntax.specs.Descent.Reader.{Reader, and_then, give, when, ◌>>=◌, ◌>>◌}
use Rattle.ec_syntax.specs.Descent.Reader.Outcome.{Done, Stopped}
use Rattle.ec_syntax.specs.Descent.Tokens.{word, mark, name, is_name, stars, parameter_name, base, struct_base, variable_base, mode}
use Rattle.ec_syntax.specs.Descent.Items.{parameters, further, parameters_on, is_void}
use Rattle.ec_syntax.proofs.Decision.Procedures.{Within}
use Rattle.ec_syntax.proofs.Tokens.Sequences.{Quiet-apart, Quiet-within, first_either}
use Rattle.ec_syntax.proofs.Decision.Equations.{bind_assoc, bind_same, bind_on, when_then, when_else, not_read, not_picked, not_turned, decided}
use Rattle.ec_syntax.proofs.Items.Tokens.{is_int, void_word, is_struct}
use Rattle.ec_syntax.proofs.Lookahead.FirstSets.{itself, within_left, within_right}
use Rattle.ec_syntax.proofs.Items.Structs.{star_or_name}
use Rattle.ec_syntax.proofs.Items.Parameters.{word_not_word, list_reader, void_reader, void_list_reader, moded_reader, plain_reader, lists_reader, int_or_struct, begins_shared, begins_local, begins_list, told_reader}
use Rattle.ec_syntax.proofs.Tokens.Classes.{token_of, from_mark, from_word}

-- ---- behind the mode and base of the first

none_first : (test : Token → Bool) (ts : List Token) → ((x : Token) → test x ≡ false) → first_is test ts ≡ false
none_first test [] e = refl
none_first test (x ∷ rest) e = e x

-- where it isn't `void` alone
typed_on : (how : Mode) (b : Base) (s : State) → is_void how b ≡ false → parameters_on how b s ≡ list_reader how b s
typed_on how b s e = when_else (λ x. is_void how b && is_mark m.CloseParen x) (give []) (list_reader how b) s (none_first (λ x. is_void how b && is_mark m.CloseParen x) s.left (λ x. ap (λ c. c && is_mark m.CloseParen x) e))

-- a reader of what stands behind parameters, which stops where no bracket closes
abbrev pub Closes : {B : Type 0} → (List Decl → Reader B) → Type 0
Closes close = (ps : List Decl) (s : State) → first_is (is_mark m.CloseParen) s.left ≡ false → close ps s ≡ Stopped Expected s.left

close_not : (test : Token → Bool) → ((at : Span) → test (token_of (t.Mark m.CloseParen) at) ≡ false) → (s : State) →
    first_is (is_mark m.CloseParen) s.left ≡ true → first_is test s.left ≡ false
close_not test e s h = Quiet-apart (is_mark m.CloseParen) test (from_mark m.CloseParen test false e) s.left h

-- where neither a star nor a name stands, no parameter does
not_listed : (how : Mode) (b : Base) (s : State) → first_is star_or_name s.left ≡ false →
    list_reader how b s ≡ Stopped Expected s.left
not_listed how b s e =
    ap (λ o. and_then o (λ p. further (p ∷ []))) (ap (λ o. and_then o (λ k. named k)) unstarred ∙ ap (λ o. and_then o (λ n. give (made n))) unnamed)
  where
    made : Name → Decl
    made n = record { name = n; mode = how; ty = typed b 0; init = None }

    named : ℕ → Reader Decl
    named k = parameter_name 0 >>= (λ n. give (record { name = n; mode = how; ty = typed b k; init = None }))

    unstarred : stars (mark m.Star) 0 s ≡ Done 0 s
    unstarred = not_turned (is_mark m.Star) (λ k. mark m.Star >> give (suc k)) 0 s (Quiet-within (is_mark m.Star) star_or_name (within_left _ _ _ (itself _)) s.left e)

    unnamed : parameter_name 0 s ≡ Stopped Expected s.left
    unnamed = not_picked name_of (parameter_counts 0) with_variable s (Quiet-within is_name star_or_name (within_right _ _ _ (itself _)) s.left e)

-- ---- by the first token

abbrev is_local : Token → Bool
is_local = is_word (codes "local")

abbrev is_shared : Token → Bool
is_shared = is_word (codes "shared")

abbrev moded : Reader (List Decl)
moded = mode >>= (λ how. base >>= parameters_on how)

abbrev shared_reader : Reader (List Decl)
shared_reader = when is_shared (moded_reader (codes "shared") Shared) plain_reader

abbrev local_reader : Reader (List Decl)
local_reader = when is_local (moded_reader (codes "local") Local) shared_reader

-- another word
other : (v w : List ℕ) → same v w ≡ false → (s : State) → first_is (is_word v) s.left ≡ true →
    first_is (is_word w) s.left ≡ false
other v w e s h = Quiet-apart (is_word v) (is_word w) (word_not_word v w e) s.left h

-- no mode
unmoded : (s : State) → first_is is_local s.left ≡ false → first_is is_shared s.left ≡ false →
    moded s ≡ (base >>= parameters_on Plain) s
unmoded s l h = bind_same mode (give Plain) (λ how. base >>= parameters_on how) s
    (when_else is_local (word (codes "local") >> give Local) (when is_shared (word (codes "shared") >> give Shared) (give Plain)) s l
    ∙ when_else is_shared (word (codes "shared") >> give Shared) (give Plain) s h)

-- a mode
modes : (w : List ℕ) (how : Mode) → ((b : Base) → is_void how b ≡ false) → (s : State) →
    mode s ≡ (word w >> give how) s → moded s ≡ moded_reader w how s
modes w how e s h =
    bind_same mode (word w >> give how) (λ how. base >>= parameters_on how) s h
    ∙ bind_assoc (word w) (λ _. give how) (λ how. base >>= parameters_on how) s
    ∙ bind_on (word w) (λ _. base >>= parameters_on how) (λ _. base >>= list_reader how) s
    (λ _ m. bind_on base (parameters_on how) (list_reader how) m (λ b k. typed_on how b k (e b)))

local_case : (s : State) → first_is is_local s.left ≡ true → moded s ≡ lists_reader s
local_case s h =
    modes (codes "local") Local (λ b. refl) s (when_then is_local (word (codes "local") >> give Local) (when is_shared (word (codes "shared") >> give Shared) (give Plain)) s h)
    ∙ sym (when_else void_word void_list_reader local_reader s (other (codes "local") (codes "void") refl s h)
    ∙ when_then is_local (moded_reader (codes "local") Local) shared_reader s h)

shared_case : (s : State) → first_is is_shared s.left ≡ true → moded s ≡ lists_reader s
shared_case s h =
    modes (codes "shared") Shared (λ b. refl) s (when_else is_local (word (codes "local") >> give Local) (when is_shared (word (codes "shared") >> give Shared) (give Plain)) s (other (codes "shared") (codes "local") refl s h)
    ∙ when_then is_shared (word (codes "shared") >> give Shared) (give Plain) s h)
    ∙ sym (when_else void_word void_list_reader local_reader s (other (codes "shared") (codes "void") refl s h)
    ∙ when_else is_local (moded_reader (codes "local") Local) shared_reader s (other (codes "shared") (codes "local") refl s h)
    ∙ when_then is_shared (moded_reader (codes "shared") Shared) plain_reader s h)

-- no mode and not `void`
plain_lists : (s : State) → first_is void_word s.left ≡ false → first_is is_local s.left ≡ false →
    first_is is_shared s.left ≡ false → lists_reader s ≡ plain_reader s
plain_lists s v l h = when_else void_word void_list_reader local_reader s v ∙ when_else is_local (moded_reader (codes "local") Local) shared_reader s l
    ∙ when_else is_shared (moded_reader (codes "shared") Shared) plain_reader s h

abbrev int_reader : Reader Base
int_reader = word (codes "int") >> give Int

abbrev void_base : Reader Base
void_base = word (codes "void") >> give Void

int_plain : (s : State) → first_is is_int s.left ≡ true → (base >>= parameters_on Plain) s ≡ plain_reader s
int_plain s h =
    bind_same base int_reader (parameters_on Plain) s (when_then is_int int_reader (when void_word void_base struct_base) s h)
    ∙ bind_assoc (word (codes "int")) (λ _. give Int) (parameters_on Plain) s
    ∙ bind_on (word (codes "int")) (λ _. parameters_on Plain Int) (λ _. list_reader Plain Int) s (λ _ m. typed_on Plain Int m refl)
    ∙ sym (bind_same variable_base int_reader (list_reader Plain) s (when_then is_int int_reader struct_base s h)
    ∙ bind_assoc (word (codes "int")) (λ _. give Int) (list_reader Plain) s)

struct_plain : (s : State) → (struct_base >>= parameters_on Plain) s ≡ (struct_base >>= list_reader Plain) s
struct_plain s =
    bind_assoc (word (codes "struct")) (λ _. name >>= (λ n. give (Struct n))) (parameters_on Plain) s
    ∙ bind_on (word (codes "struct")) (λ _. (name >>= (λ n. give (Struct n))) >>= parameters_on Plain) (λ _. (name >>= (λ n. give (Struct n))) >>= list_reader Plain) s (λ _ m. named m)
    ∙ sym (bind_assoc (word (codes "struct")) (λ _. name >>= (λ n. give (Struct n))) (list_reader Plain) s)
  where
    named : (m : State) → ((name >>= (λ n. give (Struct n))) >>= parameters_on Plain) m
        ≡ ((name >>= (λ n. give (Struct n))) >>= list_reader Plain) m
    named m = bind_assoc name (λ n. give (Struct n)) (parameters_on Plain) m
        ∙ bind_on name (λ n. parameters_on Plain (Struct n)) (λ n. list_reader Plain (Struct n)) m (λ n k. typed_on Plain (Struct n) k refl)
        ∙ sym (bind_assoc name (λ n. give (Struct n)) (list_reader Plain) m)

-- no word but `struct`
rest_plain : (s : State) → first_is is_int s.left ≡ false → first_is void_word s.left ≡ false →
    (base >>= parameters_on Plain) s ≡ (struct_base >>= parameters_on Plain) s
rest_plain s i v = bind_same base struct_base (parameters_on Plain) s (when_else is_int int_reader (when void_word void_base struct_base) s i ∙ when_else void_word void_base struct_base s v)

struct_case : (s : State) → first_is is_struct s.left ≡ true → (base >>= parameters_on Plain) s ≡ plain_reader s
struct_case s h = rest_plain s (other (codes "struct") (codes "int") refl s h) (other (codes "struct") (codes "void") refl s h) ∙ struct_plain s
    ∙ sym (bind_same variable_base struct_base (list_reader Plain) s (when_else is_int int_reader struct_base s (other (codes "struct") (codes "int") refl s h)))

-- a plain parameter of this word's base
unmoded_case : (w : List ℕ) → same w (codes "void") ≡ false → same w (codes "local") ≡ false →
    same w (codes "shared") ≡ false → (s : State) → first_is (is_word w) s.left ≡ true →
    (base >>= parameters_on Plain) s ≡ plain_reader s → moded s ≡ lists_reader s
unmoded_case w v l k s h e = unmoded s (other w (codes "local") l s h) (other w (codes "shared") k s h) ∙ e
    ∙ sym (plain_lists s (other w (codes "void") v s h) (other w (codes "local") l s h) (other w (codes "shared") k s h))

moded_case : (s : State) → first_is begins_local s.left ≡ true → moded s ≡ lists_reader s
moded_case s h =
    ⊎_elim (local_case s)
    (λ k. ⊎_elim (shared_case s)
    (λ j. ⊎_elim (λ i. unmoded_case (codes "int") refl refl refl s i (int_plain s i)) (λ i. unmoded_case (codes "struct") refl refl refl s i (struct_case s i))
    (first_either is_int is_struct s.left j)) (first_either is_shared int_or_struct s.left k)) (first_either is_local begins_shared s.left h)

module _ {B : Type 0} (close : List Decl → Reader B) (closes : Closes close) where
  void_closed : (s : State) → first_is (is_mark m.CloseParen) s.left ≡ true →
      (parameters_on Plain Void >>= close) s ≡ (void_reader >>= close) s
  void_closed s e =
      bind_same (parameters_on Plain Void) (give []) close s (when_then (is_mark m.CloseParen) (give []) (list_reader Plain Void) s e)
      ∙ sym (bind_same void_reader (give []) close s (when_else star_or_name (list_reader Plain Void) (give []) s (close_not star_or_name (λ at. refl) s e)))

  void_open : (s : State) → first_is (is_mark m.CloseParen) s.left ≡ false →
      (list_reader Plain Void >>= close) s ≡ (void_reader >>= close) s
  void_open s e = decided (first_is star_or_name s.left)
      (λ h. sym (bind_same void_reader (list_reader Plain Void) close s (when_then star_or_name (list_reader Plain Void) (give []) s h)))
      (λ h. ap (λ o. and_then o close) (not_listed Plain Void s h) ∙ sym (closes [] s e)
      ∙ sym (bind_same void_reader (give []) close s (when_else star_or_name (list_reader Plain Void) (give []) s h)))

  void_same : (s : State) → (parameters_on Plain Void >>= close) s ≡ (void_reader >>= close) s
  void_same s = decided (first_is (is_mark m.CloseParen) s.left) (void_closed s)
      (λ e. bind_same (parameters_on Plain Void) (list_reader Plain Void) close s (when_else (is_mark m.CloseParen) (give []) (list_reader Plain Void) s e) ∙ void_open s e)

  void_case : (s : State) → first_is void_word s.left ≡ true → (moded >>= close) s ≡ (lists_reader >>= close) s
  void_case s h =
      ap (λ o. and_then o close) (unmoded s (other (codes "void") (codes "local") refl s h) (other (codes "void") (codes "shared") refl s h)
      ∙ bind_same base void_base (parameters_on Plain) s (when_else is_int int_reader (when void_word void_base struct_base) s (other (codes "void") (codes "int") refl s h) ∙ when_then void_word void_base struct_base s h)
      ∙ bind_assoc (word (codes "void")) (λ _. give Void) (parameters_on Plain) s)
      ∙ bind_assoc (word (codes "void")) (λ _. parameters_on Plain Void) close s
      ∙ bind_on (word (codes "void")) (λ _. parameters_on Plain Void >>= close) (λ _. void_reader >>= close) s (λ _ m. void_same m)
      ∙ sym (bind_assoc (word (codes "void")) (λ _. void_reader) close s)
      ∙ sym (bind_same lists_reader void_list_reader close s (when_then void_word void_list_reader local_reader s h))

  -- one of the words that begin a list
  some_case : (s : State) → first_is begins_list s.left ≡ true → (moded >>= close) s ≡ (lists_reader >>= close) s
  some_case s h = ⊎_elim (void_case s) (λ k. ap (λ o. and_then o close) (moded_case s k)) (first_either void_word begins_local s.left h)

  -- no such word
  none_case : (s : State) → first_is (is_mark m.CloseParen) s.left ≡ false → first_is begins_list s.left ≡ false →
      (moded >>= close) s ≡ close [] s
  none_case s e h =
      ap (λ o. and_then o close) (unmoded s (no is_local (from_word (codes "local") begins_list true (λ at. refl))) (no is_shared (from_word (codes "shared") begins_list true (λ at. refl)))
      ∙ rest_plain s (no is_int (from_word (codes "int") begins_list true (λ at. refl))) (no void_word (from_word (codes "void") begins_list true (λ at. refl)))
      ∙ ap (λ o. and_then (and_then o (λ _. name >>= (λ n. give (Struct n)))) (parameters_on Plain)) (not_read is_struct s (no is_struct (from_word (codes "struct") begins_list true (λ at. refl)))))
      ∙ sym (closes [] s e)
    where
      no : (test : Token → Bool) → Within test begins_list → first_is test s.left ≡ false
      no test w = Quiet-within test begins_list w s.left h

  open_case : (s : State) → first_is (is_mark m.CloseParen) s.left ≡ false →
      (moded >>= close) s ≡ (told_reader >>= close) s
  open_case s e = decided (first_is begins_list s.left)
      (λ h. some_case s h ∙ sym (bind_same told_reader lists_reader close s (when_then begins_list lists_reader (give []) s h)))
      (λ h. none_case s e h ∙ sym (bind_same told_reader (give []) close s (when_else begins_list lists_reader (give []) s h)))

  pub parameters_told : (s : State) → (told_reader >>= close) s ≡ (parameters >>= close) s
  parameters_told s = sym (decided (first_is (is_mark m.CloseParen) s.left)
      (λ e. bind_same parameters (give []) close s (when_then (is_mark m.CloseParen) (give []) moded s e)
      ∙ sym (bind_same told_reader (give []) close s (when_else begins_list lists_reader (give []) s (close_not begins_list (λ at. refl) s e))))
      (λ e. bind_same parameters moded close s (when_else (is_mark m.CloseParen) (give []) moded s e) ∙ open_case s e))
