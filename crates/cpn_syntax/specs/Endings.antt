-- What may stand behind a part of the grammar.
use Rattle.std.specs.Prelude.{◌⊎◌}
use Rattle.cpn_lex.specs.declared.symbols.Symbol.{Symbol}
use Rattle.cpn_lex.specs.declared.symbols.Symbol.TheVariants as sign
use Rattle.cpn_syntax.specs.Texts.{Text, Is}
use Rattle.cpn_syntax.specs.Unread.{Begins}

abbrev pub Anything : Text → Type 0
Anything v = Unit {0}

-- anything but a sign
abbrev pub No : Symbol → Text → Type 0
No s v = Begins (Is s) v → ⊥

-- what ends the body of a colour set
abbrev pub EndsBody : Text → Type 0
EndsBody v = Begins (Is sign.Timed) v ⊎ Begins (Is sign.Semicolon) v
