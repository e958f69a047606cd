-- The code of partial bindings, by which a proof tells them apart.
use Rattle.std.specs.Coded.{Coded, coded_list, coded_option, coded×, coded_ℕ}
use Rattle.cpn_core.specs.Code.{value_code}
use Rattle.cpn_stages.specs.Partial.{PlainPartial}

abbrev pub partial_code : Coded PlainPartial
partial_code = coded_list (coded× coded_ℕ (coded_option value_code))
