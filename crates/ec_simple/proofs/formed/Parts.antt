-- Parts of three and four stand behind each other.
use Rattle.std.proofs.Common.{subst, ℕ, ◌+◌, List, ◌++◌, length, append_assoc}
use Rattle.ec_simple.proofs.formed.Standing.{At, at_left, at_right}

module _ {A : Type 0} (whole : List A) (n : ℕ) (a b : List A) where
  pub at_second : (d : List A) → At whole n (a ++ b ++ d) → At whole (n + length a) b
  at_second d h = at_right whole n a b (at_left whole n (a ++ b) d h)

  pub at_third : (d : List A) → At whole n (a ++ b ++ d) → At whole (n + length a + length b) d
  at_third d h = at_right whole (n + length a) b d (at_right whole n a (b ++ d) (subst (At whole n) (append_assoc a b d) h))

  pub at_fourth : (d e : List A) → At whole n (a ++ b ++ d ++ e) → At whole (n + length a + length b + length d) e
  at_fourth d e h =
      at_right whole (n + length a + length b) d e (at_third (d ++ e) (subst (At whole n) (append_assoc (a ++ b) d e) h))
