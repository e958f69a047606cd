-- The code of bindings, by which a proof tells them apart.
use Rattle.std.specs.Coded.{Coded, coded_list, coded×, coded_ℕ}
use Rattle.cpn_core.specs.Code.{value_code}
use Rattle.cpn_definitions.specs.Meaning.{PlainBinding}

abbrev pub binding_code : Coded PlainBinding
binding_code = coded_list (coded× coded_ℕ value_code)
