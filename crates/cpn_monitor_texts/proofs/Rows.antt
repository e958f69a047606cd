-- Worked cases of monitors in a net with the place `Top/A`, the transition `Top/s`, which has the variable y, and the transition `Top/t`, which has x.
use Rattle.std.proofs.Common.{◌≡◌, ℕ, pos, negsuc, true, false, List, [], ◌∷◌, Option, Some, None, codes, refl}
use Rattle.cpn_definitions.specs.Bindable.{variables_of}
use Rattle.cpn_definitions.specs.Colour.{PlainColour, int_shape}
use Rattle.cpn_definitions.specs.Inscription.{PlainExpr, operation, addition, any_pattern, variable, local, literal, apply, conjunction, choose, select, bind, accumulate, no_exprs, more_exprs, no_arms, more_arms}
use Rattle.cpn_definitions.specs.Net.{Coloured, PlainNet, no_transition}
use Rattle.cpn_definitions.specs.Value.{int}
use Rattle.cpn_document.specs.Monitors.{RawMonitor, RawMonitorKind, count, size, value, stop_count, stop_size}
use Rattle.cpn_document.specs.declared.document.Bound.TheVariants as written
use Rattle.cpn_module_trees.specs.Parsing.{NoTree, parsed, unparsed, IsInscription}
use Rattle.cpn_monitor.specs.Monitors.{counts, sizes, values, stops_by_count, stops_by_size, at_least, at_most}
use Rattle.cpn_trees.specs.Trees.{PlainAst, ast, number, truth, time, name, infixed}
use Rattle.cpn_trees.specs.declared.operators.Infix.TheVariants as sign
use Rattle.cpn_typing.specs.Names.{Name, a_variable, Declared, unknown, mismatch, time_not_allowed, Checked, ok, refused}
use Rattle.cpn_typing.specs.Types.{int_type}
use Rattle.cpn_readings.specs.Relations.{each_so}
use Rattle.cpn_monitor_texts.specs.Checked.{inscription_so, measure_so, monitor_so, monitors_so}
use Rattle.cpn_monitor_texts.specs.Named.{transition_named, place_named}
use Rattle.cpn_monitor_texts.specs.Reading as readings
use Rattle.cpn_monitor_texts.specs.Reading.{unknown_name, bad_text, read}
use Rattle.cpn_monitor_texts.specs.Texts.{inscription_of}
use Rattle.cpn_text_refusals.specs.Refusals.{no_tree, typing}
use Rattle.cpn_monitor_texts.specs.Variables.{first_outside, value_over}

abbrev integers : PlainColour
integers = record { shape = int_shape (negsuc 99) (pos 99); timed = false }

abbrev called : Name → Coloured
called n = record { name = n; colour = integers }

abbrev net : PlainNet
net = record {
  places = called (codes "Top/A") ∷ [];
  transitions = record no_transition { name = codes "Top/s"; vars = 1 ∷ [] } ∷ record no_transition { name = codes "Top/t"; vars = 0 ∷ [] } ∷ [];
  variables = called (codes "x") ∷ called (codes "y") ∷ [];
  constants = [];
  constructors = [];
  functions = [];
}

abbrev names : Declared
names = record {
  colours = [];
  names = record { name = codes "x"; meant = a_variable 0 int_type } ∷ record { name = codes "y"; meant = a_variable 1 int_type } ∷ [];
  variables = called (codes "x") ∷ called (codes "y") ∷ [];
  enumerations = [];
  unions = [];
  functions = [];
}

-- ---- names

its_transition : transition_named net (codes "Top/t") ≡ Some 1
its_transition = refl

no_transition_of_it : transition_named net (codes "Top/A") ≡ None
no_transition_of_it = refl

its_place : place_named net (codes "Top/A") ≡ Some 0
its_place = refl

-- its own name in its module alone names nothing
no_place_of_it : place_named net (codes "A") ≡ None
no_place_of_it = refl

-- ---- the first variable outside, of forms with several parts

abbrev outside : PlainExpr → Option ℕ
outside e = first_outside (0 ∷ []) (variables_of e)

one_of_them : outside (variable 0) ≡ None
one_of_them = refl

no_variable : outside (local 1) ≡ None
no_variable = refl

in_a_sum : outside (apply (operation addition) (more_exprs (variable 0) (more_exprs (variable 2) (more_exprs (variable 1) no_exprs)))) ≡ Some 2
in_a_sum = refl

in_a_conjunction : outside (conjunction (variable 2) (variable 1)) ≡ Some 2
in_a_conjunction = refl

in_a_choice : outside (choose (variable 0) (variable 2) (variable 1)) ≡ Some 2
in_a_choice = refl

in_a_case : outside (select (variable 3) (more_arms any_pattern (variable 2) (more_arms any_pattern (variable 1) no_arms))) ≡ Some 3
in_a_case = refl

in_its_arms : outside (select (variable 0) (more_arms any_pattern (variable 2) (more_arms any_pattern (variable 1) no_arms))) ≡ Some 2
in_its_arms = refl

in_a_let : outside (bind (variable 2) (variable 1)) ≡ Some 2
in_a_let = refl

in_a_fold : outside (accumulate (variable 3) (variable 2) (variable 1)) ≡ Some 3
in_a_fold = refl

in_its_start : outside (accumulate (variable 0) (variable 2) (variable 1)) ≡ Some 2
in_its_start = refl

-- ---- texts

abbrev checked : PlainAst → Checked PlainExpr
checked tree = value_over names (0 ∷ []) tree

abbrev plus : PlainAst → PlainAst → PlainAst
plus a b = ast 0 (infixed sign.Add 2 a b)

abbrev word : ℕ → Name → PlainAst
word at n = ast at (name n)

-- x + 1
of_its_variable : checked (plus (word 0 (codes "x")) (ast 4 (number (pos 1)))) ≡ ok (apply (operation addition) (more_exprs (variable 0) (more_exprs (literal (int (pos 1))) no_exprs)))
of_its_variable = refl

-- y
of_another_variable : checked (word 0 (codes "y")) ≡ refused (unknown (codes "y"))
of_another_variable = refl

-- y + true: the rules of the text come first
of_the_wrong_type : checked (plus (word 0 (codes "y")) (ast 4 (truth true))) ≡ refused (mismatch 4)
of_the_wrong_type = refl

-- y + z: also where the variable stands before what they refuse
not_declared : checked (plus (word 0 (codes "y")) (word 4 (codes "z"))) ≡ refused (unknown (codes "z"))
not_declared = refl

-- time
of_the_time : checked (ast 0 time) ≡ refused (time_not_allowed 0)
of_the_time = refl

-- ---- monitors

count_of_it : measure_so names net 0 (count (codes "Top/t")) (read (counts 1))
unfolding measure_so
count_of_it = (read 1, refl, refl)

size_of_it : measure_so names net 0 (size (codes "Top/A")) (read (sizes 0))
unfolding measure_so
size_of_it = (read 0, refl, refl)

stop_of_it : measure_so names net 0 (stop_count (codes "Top/t") 3) (read (stops_by_count 1 3))
unfolding measure_so
stop_of_it = (read 1, refl, refl)

few_on_it : measure_so names net 0 (stop_size (codes "Top/A") written.AtMost 3) (read (stops_by_size 0 at_most 3))
unfolding measure_so
few_on_it = (read 0, refl, refl)

many_on_it : measure_so names net 0 (stop_size (codes "Top/A") written.AtLeast 3) (read (stops_by_size 0 at_least 3))
unfolding measure_so
many_on_it = (read 0, refl, refl)

-- a place is no transition
place_counted : measure_so names net 2 (count (codes "Top/A")) (readings.refused (unknown_name 2))
unfolding measure_so
place_counted = (readings.refused (unknown_name 2), refl, refl)

-- the name comes before the text, whatever that is
unknown_before_text : (text : List ℕ) → measure_so names net 1 (value (codes "Top/u") text) (readings.refused (unknown_name 1))
unfolding measure_so
unknown_before_text text = (readings.refused (unknown_name 1), refl, refl)

-- a text that is x is over the variables of the transition that is named, and not over those of another one
of_those_named : (text : List ℕ) → IsInscription text (parsed (word 0 (codes "x"))) → measure_so names net 2 (value (codes "Top/t") text) (read (values 1 (variable 0)))
unfolding measure_so inscription_so inscription_of
of_those_named text is = (read 1, refl, (read (variable 0), (read (parsed (word 0 (codes "x"))), (parsed (word 0 (codes "x")), is, refl), refl), refl))

not_of_those_named : (text : List ℕ) → IsInscription text (parsed (word 0 (codes "x"))) → measure_so names net 2 (value (codes "Top/s") text) (readings.refused (bad_text 2 (typing (unknown (codes "x")))))
unfolding measure_so inscription_so inscription_of
not_of_those_named text is =
    let refusal = readings.refused (bad_text 2 (typing (unknown (codes "x")))) in
    (read 0, refl, (refusal, (read (parsed (word 0 (codes "x"))), (parsed (word 0 (codes "x")), is, refl), refl), refl))

-- a refusal of a text is one of the monitor's number: by the grammar, and by a rule of typing
of_its_number : (r : NoTree) → inscription_of names 2 (0 ∷ []) (unparsed r) ≡ readings.refused (bad_text 2 (no_tree r))
unfolding inscription_of
of_its_number r = refl

typing_of_its_number : inscription_of names 2 (0 ∷ []) (parsed (word 0 (codes "y"))) ≡ readings.refused (bad_text 2 (typing (unknown (codes "y"))))
unfolding inscription_of
typing_of_its_number = refl

abbrev of : Name → RawMonitorKind → RawMonitor
of n kind = record { name = n; kind = kind }

-- both, in their order and under their names
two_of_them : monitors_so names net (of (codes "a") (count (codes "Top/t")) ∷ of (codes "b") (size (codes "Top/A")) ∷ []) (read (record { name = codes "a"; measure = counts 1 } ∷ record { name = codes "b"; measure = sizes 0 } ∷ []))
unfolding each_so monitor_so measure_so
two_of_them =
    (read (record { name = codes "a"; measure = counts 1 }), (read (counts 1), (read 1, refl, refl), refl), (read (record { name = codes "b"; measure = sizes 0 } ∷ []), (read (record { name = codes "b"; measure = sizes 0 }), (read (sizes 0), (read 0, refl, refl), refl), (read [], refl, refl)), refl))

-- the second is refused, and not the third
second_refused : monitors_so names net (of (codes "a") (count (codes "Top/t")) ∷ of (codes "b") (count (codes "Top/A")) ∷ of (codes "c") (count (codes "Top")) ∷ []) (readings.refused (unknown_name 1))
unfolding each_so monitor_so measure_so
second_refused =
    (read (record { name = codes "a"; measure = counts 1 }), (read (counts 1), (read 1, refl, refl), refl), (readings.refused (unknown_name 1), (readings.refused (unknown_name 1), (readings.refused (unknown_name 1), (readings.refused (unknown_name 1), refl, refl), refl), refl), refl))
