-- Why a text is not accepted, from why its tokens, its tree or its types are not; want of memory stays want of memory.
use Rattle.cpn_lex.specs.declared.refusals.LexError.{LexError}
use Rattle.cpn_lex.specs.declared.refusals.LexError.TheVariants as lexing
use Rattle.cpn_syntax.specs.declared.refusals.SyntaxError.{SyntaxError}
use Rattle.cpn_syntax.specs.declared.refusals.SyntaxError.TheVariants as parsing
use Rattle.cpn_declared.specs.declared.refusals.TypeError.{TypeError}
use Rattle.cpn_declared.specs.declared.refusals.TypeError.TheVariants as typing
use Rattle.cpn_types.specs.declared.inscription_errors.InscriptionError.{InscriptionError}
use Rattle.cpn_types.specs.declared.inscription_errors.InscriptionError.TheVariants as errors

abbrev pub of_lex : LexError → InscriptionError
of_lex lexing.Memory = errors.Memory
of_lex e = errors.Lex e

abbrev pub of_syntax : SyntaxError → InscriptionError
of_syntax parsing.Memory = errors.Memory
of_syntax e = errors.Syntax e

abbrev pub of_typing : TypeError → InscriptionError
of_typing typing.Memory = errors.Memory
of_typing e = errors.Typing e
