-- What a front says of its text, in the words of `Cuts`.
use Rattle.std.proofs.Common.{◌≡◌, ℕ, ◌+◌, ◌≤◌, Bool, List, [], ◌++◌, length}
use Rattle.ec_base.specs.declared.reason.Reason.{Reason}
use Rattle.ec_base.specs.declared.token.TokenKind.{TokenKind}
use Rattle.ec_lex.specs.declared.front.Front.{Front}
use Rattle.ec_lex.specs.declared.front.Front.TheVariants.{Over, Skips, Takes, Fails}
use Rattle.ec_lex.specs.Tokens.{IsSkipped, IsSpelled, IsFault, fresh_after}

-- so many bytes are skipped
pub record Skipped (fresh : Bool) (text : List ℕ) (count : ℕ) (now : Bool) : Type 0 where
  pub part : List ℕ
  pub rest : List ℕ
  pub cut : text ≡ part ++ rest
  pub count_is : length part ≡ count
  pub now_is : fresh_after fresh part ≡ now
  pub some : 1 ≤ count
  pub is : IsSkipped fresh part rest

-- so many bytes are a token
pub record Taken (text : List ℕ) (kind : TokenKind) (count : ℕ) : Type 0 where
  pub part : List ℕ
  pub rest : List ℕ
  pub cut : text ≡ part ++ rest
  pub count_is : length part ≡ count
  pub some : 1 ≤ count
  pub is : IsSpelled part rest kind

-- the bytes from a place to another are refused
pub record Failed (fresh : Bool) (text : List ℕ) (reason : Reason) (from to : ℕ) : Type 0 where
  pub before : List ℕ
  pub bad : List ℕ
  pub rest : List ℕ
  pub cut : text ≡ before ++ (bad ++ rest)
  pub from_is : from ≡ length before
  pub to_is : to ≡ from + length bad
  pub some : 1 ≤ length bad
  pub is : IsFault fresh before bad rest reason

abbrev pub Tells : Bool → List ℕ → Front → Type 0
Tells fresh text Over = text ≡ []
Tells fresh text (Skips count now) = Skipped fresh text count now
Tells fresh text (Takes kind count) = Taken text kind count
Tells fresh text (Fails reason from to) = Failed fresh text reason from to
