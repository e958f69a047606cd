-- Which refusal of a text an error is.
use Rattle.std.specs.Prelude.{Option, Some, None, option_map}
use Rattle.cpn_declared.specs.Answers.{refusal_of as type_refusal_of}
use Rattle.cpn_types.specs.declared.inscription_errors.InscriptionError.{InscriptionError}
use Rattle.cpn_types.specs.declared.inscription_errors.InscriptionError.TheVariants as texts
use Rattle.cpn_module_trees.specs.Parsing.{lexical, syntactic}
use Rattle.cpn_text_refusals.specs.Refusals.{TextRefusal, no_tree, typing}

-- the refusal of a text that an error is; want of memory is none
abbrev pub text_refusal_of : InscriptionError → Option TextRefusal
text_refusal_of texts.Memory = None
text_refusal_of (texts.Lex e) = Some (no_tree (lexical e))
text_refusal_of (texts.Syntax e) = Some (no_tree (syntactic e))
text_refusal_of (texts.Typing e) = option_map typing (type_refusal_of e)
