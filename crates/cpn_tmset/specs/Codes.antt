-- One-to-one codes of tokens and markings, by which a type's contract may speak of them.
use Rattle.std.specs.Prelude.{ℕ}
use Rattle.std.specs.Coded.{Coded, code_by, coded×, coded_ℕ, coded_list}
use Rattle.std.proofs.Common.{refl}
use Rattle.cpn_definitions.specs.Value.{PlainValue}
use Rattle.cpn_definitions.specs.Marking.{PlainToken, Tokens, Marking}
use Rattle.cpn_core.specs.Code.{value_code}

abbrev pub token_code : Coded PlainToken
token_code = code_by (PlainValue × ℕ) (coded× value_code coded_ℕ) (λ t. (t.value, t.stamp)) (λ p. record { value = p.0; stamp = p.1 }) (λ _. refl)

abbrev pub tokens_code : Coded Tokens
tokens_code = coded_list token_code

abbrev pub marking_code : Coded Marking
marking_code = coded_list tokens_code
