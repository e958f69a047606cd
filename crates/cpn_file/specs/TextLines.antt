-- The error lines of texts that are refused, and of the variables of transitions: the part of the language, the number, the name and
-- where each refusal is. Source: own choice.
use Rattle.std.specs.Prelude.{ℕ, List, [], ◌++◌, codes}
use Rattle.std.specs.Fmt.{decimal}
use Rattle.cpn_lex.specs.declared.refusals.LexError.{LexError}
use Rattle.cpn_lex.specs.declared.refusals.LexError.TheVariants as lex
use Rattle.cpn_syntax.specs.declared.refusals.SyntaxError.{SyntaxError}
use Rattle.cpn_syntax.specs.declared.refusals.SyntaxError.TheVariants as syntax_error
use Rattle.cpn_typing.specs.Names.{Limit, depth, nodes, variables, Refusal as TypeRefusal, unknown, duplicate, mismatch, not_closed, not_bindable, input_delay, time_not_allowed, too_many, empty_colour}
use Rattle.cpn_document.specs.declared.pointers.Pointer.{Pointer}
use Rattle.cpn_module_trees.specs.Parsing.{lexical, syntactic}
use Rattle.cpn_text_refusals.specs.Refusals.{TextRefusal, no_tree, typing}
use Rattle.cpn_file.specs.PointerTexts.{pointer_text}
use Rattle.cpn_file.specs.Spaces.{with_space}

-- the part of the language whose rule a text breaks
abbrev pub part_name : TextRefusal → List ℕ
part_name (no_tree (lexical e)) = codes "lex"
part_name (no_tree (syntactic e)) = codes "syntax"
part_name (typing r) = codes "type"

-- the number of a refusal in its part, and its name; want of memory is none
abbrev pub lexical_number : LexError → ℕ
lexical_number lex.Memory = 0
lexical_number (lex.BadByte at) = 1
lexical_number (lex.OpenString at) = 2
lexical_number (lex.NumberTooLarge at) = 3
lexical_number lex.TooLong = 4

abbrev pub lexical_name : LexError → List ℕ
lexical_name lex.Memory = []
lexical_name (lex.BadByte at) = codes "bad_byte"
lexical_name (lex.OpenString at) = codes "open_string"
lexical_name (lex.NumberTooLarge at) = codes "number_too_large"
lexical_name lex.TooLong = codes "too_long"

abbrev pub syntactic_number : SyntaxError → ℕ
syntactic_number syntax_error.Memory = 0
syntactic_number (syntax_error.Unexpected at) = 1
syntactic_number syntax_error.EndOfText = 2
syntactic_number syntax_error.TooDeep = 3

abbrev pub syntactic_name : SyntaxError → List ℕ
syntactic_name syntax_error.Memory = []
syntactic_name (syntax_error.Unexpected at) = codes "unexpected"
syntactic_name syntax_error.EndOfText = codes "end_of_text"
syntactic_name syntax_error.TooDeep = codes "too_deep"

abbrev pub typing_number : TypeRefusal → ℕ
typing_number (unknown n) = 1
typing_number (duplicate n) = 2
typing_number (mismatch at) = 3
typing_number (not_closed n) = 4
typing_number (not_bindable n) = 5
typing_number (input_delay at) = 6
typing_number (time_not_allowed at) = 7
typing_number (too_many kind) = 8
typing_number (empty_colour n) = 9

abbrev pub typing_name : TypeRefusal → List ℕ
typing_name (unknown n) = codes "unknown"
typing_name (duplicate n) = codes "duplicate"
typing_name (mismatch at) = codes "mismatch"
typing_name (not_closed n) = codes "not_closed"
typing_name (not_bindable n) = codes "not_bindable"
typing_name (input_delay at) = codes "input_delay"
typing_name (time_not_allowed at) = codes "time_not_allowed"
typing_name (too_many kind) = codes "too_many"
typing_name (empty_colour n) = codes "empty_colour"

abbrev pub limit_name : Limit → List ℕ
limit_name depth = codes "depth"
limit_name nodes = codes "nodes"
limit_name variables = codes "variables"

-- what a refusal carries: an offset in the text, a name, or what there are too many of; empty where it carries nothing
abbrev pub lexical_detail : LexError → List ℕ
lexical_detail lex.Memory = []
lexical_detail (lex.BadByte at) = decimal at
lexical_detail (lex.OpenString at) = decimal at
lexical_detail (lex.NumberTooLarge at) = decimal at
lexical_detail lex.TooLong = []

abbrev pub syntactic_detail : SyntaxError → List ℕ
syntactic_detail syntax_error.Memory = []
syntactic_detail (syntax_error.Unexpected at) = decimal at
syntactic_detail syntax_error.EndOfText = []
syntactic_detail syntax_error.TooDeep = []

abbrev pub typing_detail : TypeRefusal → List ℕ
typing_detail (unknown n) = n
typing_detail (duplicate n) = n
typing_detail (mismatch at) = decimal at
typing_detail (not_closed n) = n
typing_detail (not_bindable n) = n
typing_detail (input_delay at) = decimal at
typing_detail (time_not_allowed at) = decimal at
typing_detail (too_many kind) = limit_name kind
typing_detail (empty_colour n) = n

abbrev pub text_number : TextRefusal → ℕ
text_number (no_tree (lexical e)) = lexical_number e
text_number (no_tree (syntactic e)) = syntactic_number e
text_number (typing r) = typing_number r

abbrev pub text_name : TextRefusal → List ℕ
text_name (no_tree (lexical e)) = lexical_name e
text_name (no_tree (syntactic e)) = syntactic_name e
text_name (typing r) = typing_name r

abbrev pub text_detail : TextRefusal → List ℕ
text_detail (no_tree (lexical e)) = lexical_detail e
text_detail (no_tree (syntactic e)) = syntactic_detail e
text_detail (typing r) = typing_detail r

-- A text that is refused: `error inscription `, its pointer, the part, the number and the name, a space before each; then a
-- space and what it carries where it carries something; a line feed.
unfoldable pub line_with : List ℕ → List ℕ → ℕ → List ℕ → List ℕ → List ℕ
line_with pointer part number name detail =
    codes "error inscription " ++ pointer ++ codes " " ++ part ++ codes " " ++ decimal number ++ codes " " ++ name ++ with_space detail ++ codes "\n"

-- the line of a refusal of the text, or of the transition, at a pointer
abbrev pub inscription_line : Pointer → TextRefusal → List ℕ
inscription_line pointer r = line_with (pointer_text pointer) (part_name r) (text_number r) (text_name r) (text_detail r)
