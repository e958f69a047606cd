-- The innermost local of a name, from a number on.
use Rattle.std.proofs.Common.{ℕ, ◌+◌, Option, Some, None}
use Rattle.cpn_typing.specs.Types.{PlainTy}

-- the local among those from a number on, else another
abbrev pub behind : ℕ → Option (ℕ × PlainTy) → Option (ℕ × PlainTy) → Option (ℕ × PlainTy)
behind i (Some l) here = Some (l.0 + i, l.1)
behind i None here = here
