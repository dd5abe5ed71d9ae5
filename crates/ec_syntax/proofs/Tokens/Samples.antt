-- For each test of a mark or word a token of a text that passes it.
use Rattle.std.proofs.Common.{◌≡◌, refl, ℕ, Bool, true, false, List, [], ◌∷◌, codes}
use Rattle.std.proofs.lemmas.Bool.{eq-eqb}
use Rattle.ec_base.specs.declared.token.Mark.{Mark}
use Rattle.ec_base.specs.declared.token.Span.{Span}
use Rattle.ec_base.specs.declared.token.Token.{Token}
use Rattle.ec_base.specs.declared.token.TokenKind.TheVariants as t
use Rattle.ec_syntax.specs.Grammar.Tokens.{is_word, is_mark, mark_number}
use Rattle.ec_syntax.proofs.Decision.Procedures.{Lexical, is_else}
use Rattle.ec_syntax.proofs.Tokens.Classes.{token_of}

pub nowhere : Span
nowhere = record { from = 0; to = 0 }

-- a token of a text that passes a test, and is no `else`
pub record Sample (test : Token → Bool) : Type 0 where
  pub token : Token
  pub passes : test token ≡ true
  pub lexical : Lexical (token ∷ [])
  pub no_else : is_else token ≡ false

-- ---- marks

pub mark_sample : (k : Mark) → Sample (is_mark k)
mark_sample k = record { token = token_of (t.Mark k) nowhere; passes = eq-eqb (mark_number k) (mark_number k) refl; lexical = refl; no_else = refl }

-- ---- words

sampled : (w : List ℕ) → is_word w (token_of (t.Word w) nowhere) ≡ true → Lexical (token_of (t.Word w) nowhere ∷ []) →
    is_else (token_of (t.Word w) nowhere) ≡ false → Sample (is_word w)
sampled w passes lexical calm = record { token = token_of (t.Word w) nowhere; passes = passes; lexical = lexical; no_else = calm }

pub int_sample : Sample (is_word (codes "int"))
int_sample = sampled (codes "int") refl refl refl

pub void_sample : Sample (is_word (codes "void"))
void_sample = sampled (codes "void") refl refl refl

pub struct_sample : Sample (is_word (codes "struct"))
struct_sample = sampled (codes "struct") refl refl refl

pub local_sample : Sample (is_word (codes "local"))
local_sample = sampled (codes "local") refl refl refl

pub shared_sample : Sample (is_word (codes "shared"))
shared_sample = sampled (codes "shared") refl refl refl

pub null_sample : Sample (is_word (codes "NULL"))
null_sample = sampled (codes "NULL") refl refl refl

pub malloc_sample : Sample (is_word (codes "malloc"))
malloc_sample = sampled (codes "malloc") refl refl refl

pub sizeof_sample : Sample (is_word (codes "sizeof"))
sizeof_sample = sampled (codes "sizeof") refl refl refl

pub valueof_sample : Sample (is_word (codes "valueof"))
valueof_sample = sampled (codes "valueof") refl refl refl

pub owner_sample : Sample (is_word (codes "OWNER_OF"))
owner_sample = sampled (codes "OWNER_OF") refl refl refl

pub home_sample : Sample (is_word (codes "HOME"))
home_sample = sampled (codes "HOME") refl refl refl

pub node_sample : Sample (is_word (codes "NODE"))
node_sample = sampled (codes "NODE") refl refl refl

pub anywhere_sample : Sample (is_word (codes "ANYWHERE"))
anywhere_sample = sampled (codes "ANYWHERE") refl refl refl

pub if_sample : Sample (is_word (codes "if"))
if_sample = sampled (codes "if") refl refl refl

pub while_sample : Sample (is_word (codes "while"))
while_sample = sampled (codes "while") refl refl refl

pub for_sample : Sample (is_word (codes "for"))
for_sample = sampled (codes "for") refl refl refl

pub forall_sample : Sample (is_word (codes "forall"))
forall_sample = sampled (codes "forall") refl refl refl

pub return_sample : Sample (is_word (codes "return"))
return_sample = sampled (codes "return") refl refl refl

pub printf_sample : Sample (is_word (codes "printf"))
printf_sample = sampled (codes "printf") refl refl refl

pub writeto_sample : Sample (is_word (codes "writeto"))
writeto_sample = sampled (codes "writeto") refl refl refl

pub addto_sample : Sample (is_word (codes "addto"))
addto_sample = sampled (codes "addto") refl refl refl
