-- Where a text breaks off.
use Rattle.std.specs.Prelude.{[], ◌∷◌}
use Rattle.cpn_syntax.specs.declared.refusals.SyntaxError.{SyntaxError}
use Rattle.cpn_syntax.specs.declared.refusals.SyntaxError.TheVariants.{Unexpected, EndOfText}
use Rattle.cpn_syntax.specs.Texts.{Text}

-- the refusal of a text whose rest can't be read
abbrev pub fault_at : Text → SyntaxError
fault_at [] = EndOfText
fault_at (t ∷ rest) = Unexpected t.at
