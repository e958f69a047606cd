-- A space before a text, where there is one. Source: own choice.
use Rattle.std.specs.Prelude.{ℕ, List, [], ◌∷◌, ◌++◌, codes}

-- a space and the text, or nothing where the text is empty
abbrev pub with_space : List ℕ → List ℕ
with_space [] = []
with_space (byte ∷ bytes) = codes " " ++ byte ∷ bytes
