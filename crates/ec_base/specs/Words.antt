-- The words of the language that no program may use as a name.
use Rattle.std.specs.Prelude.{ℕ, Bool, true, false, List, [], ◌∷◌, codes, if◌then◌else◌, nat_eq}
use Rattle.std.specs.Cmp.Lexicographic.{pointwise}

-- two texts are the same
abbrev pub same : List ℕ → List ℕ → Bool
same = pointwise nat_eq

-- a text is one of these
abbrev pub is_among : List ℕ → List (List ℕ) → Bool
is_among w [] = false
is_among w (x ∷ xs) = if same w x then true else is_among w xs

-- the words that name nothing of a program's own
abbrev pub reserved : List (List ℕ)
reserved = codes "int" ∷ codes "void" ∷ codes "struct" ∷ codes "if" ∷ codes "else" ∷ codes "while" ∷ codes "for"
    ∷ codes "forall" ∷ codes "return" ∷ codes "local" ∷ codes "shared" ∷ codes "malloc" ∷ codes "sizeof"
    ∷ codes "printf" ∷ codes "NULL" ∷ codes "writeto" ∷ codes "addto" ∷ codes "valueof" ∷ codes "OWNER_OF"
    ∷ codes "HOME" ∷ codes "NODE" ∷ codes "ANYWHERE" ∷ []
