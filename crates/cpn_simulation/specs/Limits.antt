-- The limit of the program on its input. Source: own choice.
use Rattle.std.specs.Prelude.{ℕ}

-- how many bytes a document may have
abbrev pub most_bytes : ℕ
most_bytes = 16777216
