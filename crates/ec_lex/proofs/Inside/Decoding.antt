-- The bytes decoded so far in front of what the rest of a string stands for.
use Rattle.std.proofs.Common.{◌≡◌, ℕ, List, [], ◌∷◌, ◌++◌, refl, ap, append_assoc, sym}
use Rattle.ec_lex.specs.declared.strings.Decoded.{Decoded}
use Rattle.ec_lex.specs.declared.strings.Decoded.TheVariants.{Whole, Broken}
use Rattle.ec_lex.specs.Strings.{put_byte}

abbrev pub joined : List ℕ → Decoded → Decoded
joined front (Whole bytes) = Whole (front ++ bytes)
joined front (Broken reason from to) = Broken reason from to

pub joined_none : (d : Decoded) → d ≡ joined [] d
joined_none (Whole bytes) = refl
joined_none (Broken reason from to) = refl

pub joined-put_byte : (front : List ℕ) (b : ℕ) (d : Decoded) → joined front (put_byte b d) ≡ joined (front ++ b ∷ []) d
joined-put_byte front b (Whole bytes) = ap Whole (sym (append_assoc front (b ∷ []) bytes))
joined-put_byte front b (Broken reason from to) = refl

pub ruleset decoding = (joined_none, joined-put_byte)
