-- What is declared, part by part.
use Rattle.std.proofs.Common.{◌≡◌, List}
use Rattle.cpn_definitions.specs.Inscription.{Functions}
use Rattle.cpn_definitions.specs.Net.{Coloured}
use Rattle.cpn_typing.specs.Names.{Name, NamedColour, NamedMeaning, NamedConstructor, Declared}

abbrev declared_of : List NamedColour → List NamedMeaning → List Coloured → List (List Name) → List (List NamedConstructor) → Functions → Declared
declared_of cs ns vs es us fs = record { colours = cs; names = ns; variables = vs; enumerations = es; unions = us; functions = fs }

pub same_parts : (cs cs2 : List NamedColour) (ns ns2 : List NamedMeaning) (vs vs2 : List Coloured) (es es2 : List (List Name)) (us us2 : List (List NamedConstructor)) (fs fs2 : Functions)
    → cs ≡ cs2 → ns ≡ ns2 → vs ≡ vs2 → es ≡ es2 → us ≡ us2 → fs ≡ fs2
    → declared_of cs ns vs es us fs ≡ declared_of cs2 ns2 vs2 es2 us2 fs2
same_parts cs cs2 ns ns2 vs vs2 es es2 us us2 fs fs2 a b c d e f = cc
