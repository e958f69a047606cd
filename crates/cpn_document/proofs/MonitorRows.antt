-- Worked monitors: what each is, and which rule it breaks first.
use Rattle.std.proofs.Common.{◌≡◌, ℕ, ◌+◌, ◌^◌, negsuc, true, false, List, [], ◌∷◌, refl}
use Rattle.std.specs.Prelude.{Some, None, codes}
use Rattle.serde_json.specs.Data.{Data, number, string, object, unsigned, negative, Members, no_members, member}
use Rattle.cpn_document.specs.Refusals.{shape, bad_number, bad_name}
use Rattle.cpn_document.specs.Rules.{first_broken}
use Rattle.cpn_document.specs.Texts.{is_name, is_flat_name}
use Rattle.cpn_document.specs.Parts.{text_at, number_at, object_rules, text_rules, name_rules, new_name_rules, flat_name_rules, number_rules, word_rules}
use Rattle.cpn_document.specs.Monitors.{stop_count, stop_size, form_of, bound_of, form_rules, transition_name_rules, place_name_rules, kind_rules, monitor_in, monitor_rules}
use Rattle.cpn_document.specs.declared.pointers.Pointer.TheVariants as at
use Rattle.cpn_document.specs.declared.pointers.MonitorPart.TheVariants as of_monitor
use Rattle.cpn_document.specs.declared.document.Bound.TheVariants as bounds

-- ---- flattened names

one_name : is_flat_name (codes "t") ≡ true
unfolding is_flat_name is_name
one_name = refl

three_names : is_flat_name (codes "Top/a b/t") ≡ true
unfolding is_flat_name is_name
three_names = refl

a_name_between_that_is_empty : is_flat_name (codes "Top//t") ≡ false
unfolding is_flat_name is_name
a_name_between_that_is_empty = refl

no_name_at_the_end : is_flat_name (codes "Top/") ≡ false
unfolding is_flat_name is_name
no_name_at_the_end = refl

no_name_at_all : is_flat_name [] ≡ false
unfolding is_flat_name is_name
no_name_at_all = refl

-- ---- monitors

-- a monitor `m` of a kind
abbrev monitor_of : List ℕ → Members → Data
monitor_of kind more = object (member (codes "name") (string (codes "m")) (member (codes "kind") (string kind) more))

abbrev at_t : Members → Members
at_t more = member (codes "transition") (string (codes "Top/t")) more

abbrev at_A : Members → Members
at_A more = member (codes "place") (string (codes "Top/A")) more

abbrev with_n : ℕ → Members
with_n n = member (codes "n") (number (unsigned n)) no_members

abbrev with_op : List ℕ → Members → Members
with_op op more = member (codes "op") (string op) more

it_counts : first_broken (monitor_rules 1 0 [] (monitor_of (codes "count") (at_t no_members))) ≡ None
unfolding text_at number_at is_name is_flat_name object_rules text_rules name_rules new_name_rules flat_name_rules number_rules word_rules form_of form_rules transition_name_rules place_name_rules kind_rules monitor_rules first_broken
it_counts = refl

a_second_name : first_broken (monitor_rules 1 0 (codes "k" ∷ codes "m" ∷ []) (monitor_of (codes "count") (at_t no_members))) ≡ Some (bad_name (at.Monitor 0 of_monitor.Name))
unfolding text_at number_at is_name is_flat_name object_rules text_rules name_rules new_name_rules flat_name_rules number_rules word_rules form_of form_rules transition_name_rules place_name_rules kind_rules monitor_rules first_broken
a_second_name = refl

-- its keys come before its name
a_key_of_another_kind : first_broken (monitor_rules 1 0 (codes "m" ∷ []) (monitor_of (codes "count") (at_t (with_n 1)))) ≡ Some (shape (at.Monitor 0 of_monitor.Whole))
unfolding text_at number_at is_name is_flat_name object_rules text_rules name_rules new_name_rules flat_name_rules number_rules word_rules form_of form_rules transition_name_rules place_name_rules kind_rules monitor_rules first_broken
a_key_of_another_kind = refl

-- the keys of all kinds may stand beside a kind that is none
another_kind : first_broken (monitor_rules 1 0 [] (monitor_of (codes "counts") (at_t (at_A (with_op (codes "most") (with_n 0)))))) ≡ Some (shape (at.Monitor 0 of_monitor.Kind))
unfolding text_at number_at is_name is_flat_name object_rules text_rules name_rules new_name_rules flat_name_rules number_rules word_rules form_of form_rules transition_name_rules place_name_rules kind_rules monitor_rules first_broken
another_kind = refl

another_kind_and_key : first_broken (monitor_rules 1 0 [] (monitor_of (codes "counts") (member (codes "text") (string []) no_members))) ≡ Some (shape (at.Monitor 0 of_monitor.Whole))
unfolding text_at number_at is_name is_flat_name object_rules text_rules name_rules new_name_rules flat_name_rules number_rules word_rules form_of form_rules transition_name_rules place_name_rules kind_rules monitor_rules first_broken
another_kind_and_key = refl

no_kind : first_broken (monitor_rules 1 0 [] (object (member (codes "name") (string (codes "m")) no_members))) ≡ Some (shape (at.Monitor 0 of_monitor.Whole))
unfolding text_at number_at is_name is_flat_name object_rules text_rules name_rules new_name_rules flat_name_rules number_rules word_rules form_of form_rules transition_name_rules place_name_rules kind_rules monitor_rules first_broken
no_kind = refl

no_place : first_broken (monitor_rules 1 0 [] (monitor_of (codes "size") no_members)) ≡ Some (shape (at.Monitor 0 of_monitor.Whole))
unfolding text_at number_at is_name is_flat_name object_rules text_rules name_rules new_name_rules flat_name_rules number_rules word_rules form_of form_rules transition_name_rules place_name_rules kind_rules monitor_rules first_broken
no_place = refl

no_name_of_a_place : first_broken (monitor_rules 1 0 [] (monitor_of (codes "size") (member (codes "place") (string (codes "Top/")) no_members))) ≡ Some (bad_name (at.Monitor 0 of_monitor.Place))
unfolding text_at number_at is_name is_flat_name object_rules text_rules name_rules new_name_rules flat_name_rules number_rules word_rules form_of form_rules transition_name_rules place_name_rules kind_rules monitor_rules first_broken
no_name_of_a_place = refl

an_inscription_that_is_a_number : first_broken (monitor_rules 1 0 [] (monitor_of (codes "value") (at_t (member (codes "expr") (number (unsigned 7)) no_members)))) ≡ Some (shape (at.Monitor 0 of_monitor.Expr))
unfolding text_at number_at is_name is_flat_name object_rules text_rules name_rules new_name_rules flat_name_rules number_rules word_rules form_of form_rules transition_name_rules place_name_rules kind_rules monitor_rules first_broken
an_inscription_that_is_a_number = refl

no_occurrence : first_broken (monitor_rules 1 0 [] (monitor_of (codes "stop_count") (at_t (with_n 0)))) ≡ Some (bad_number (at.Monitor 0 of_monitor.N))
unfolding text_at number_at is_name is_flat_name object_rules text_rules name_rules new_name_rules flat_name_rules number_rules word_rules form_of form_rules transition_name_rules place_name_rules kind_rules monitor_rules first_broken
no_occurrence = refl

one_occurrence : first_broken (monitor_rules 1 0 [] (monitor_of (codes "stop_count") (at_t (with_n 1)))) ≡ None
unfolding text_at number_at is_name is_flat_name object_rules text_rules name_rules new_name_rules flat_name_rules number_rules word_rules form_of form_rules transition_name_rules place_name_rules kind_rules monitor_rules first_broken
one_occurrence = refl

a_million_occurrences : first_broken (monitor_rules 1 0 [] (monitor_of (codes "stop_count") (at_t (with_n 1000000)))) ≡ None
unfolding text_at number_at is_name is_flat_name object_rules text_rules name_rules new_name_rules flat_name_rules number_rules word_rules form_of form_rules transition_name_rules place_name_rules kind_rules monitor_rules first_broken
a_million_occurrences = refl

more_occurrences : first_broken (monitor_rules 1 0 [] (monitor_of (codes "stop_count") (at_t (with_n 1000001)))) ≡ Some (bad_number (at.Monitor 0 of_monitor.N))
unfolding text_at number_at is_name is_flat_name object_rules text_rules name_rules new_name_rules flat_name_rules number_rules word_rules form_of form_rules transition_name_rules place_name_rules kind_rules monitor_rules first_broken
more_occurrences = refl

a_number_of_another_kind : first_broken (monitor_rules 1 0 [] (monitor_of (codes "stop_count") (at_t (member (codes "n") (string (codes "1")) no_members)))) ≡ Some (bad_number (at.Monitor 0 of_monitor.N))
unfolding text_at number_at is_name is_flat_name object_rules text_rules name_rules new_name_rules flat_name_rules number_rules word_rules form_of form_rules transition_name_rules place_name_rules kind_rules monitor_rules first_broken
a_number_of_another_kind = refl

another_bound_before_the_number : first_broken (monitor_rules 1 0 [] (monitor_of (codes "stop_size") (at_A (with_op (codes "most") (member (codes "n") (string []) no_members))))) ≡ Some (shape (at.Monitor 0 of_monitor.Op))
unfolding text_at number_at is_name is_flat_name object_rules text_rules name_rules new_name_rules flat_name_rules number_rules word_rules form_of form_rules transition_name_rules place_name_rules kind_rules monitor_rules first_broken
another_bound_before_the_number = refl

no_token : first_broken (monitor_rules 1 0 [] (monitor_of (codes "stop_size") (at_A (with_op (codes "at_most") (with_n 0))))) ≡ None
unfolding text_at number_at is_name is_flat_name object_rules text_rules name_rules new_name_rules flat_name_rules number_rules word_rules form_of form_rules transition_name_rules place_name_rules kind_rules monitor_rules first_broken
no_token = refl

fewer_tokens : first_broken (monitor_rules 1 0 [] (monitor_of (codes "stop_size") (at_A (with_op (codes "at_most") (member (codes "n") (number (negative (negsuc 0))) no_members))))) ≡ Some (bad_number (at.Monitor 0 of_monitor.N))
unfolding text_at number_at is_name is_flat_name object_rules text_rules name_rules new_name_rules flat_name_rules number_rules word_rules form_of form_rules transition_name_rules place_name_rules kind_rules monitor_rules first_broken
fewer_tokens = refl

the_most_tokens : first_broken (monitor_rules 1 0 [] (monitor_of (codes "stop_size") (at_A (with_op (codes "at_least") (with_n (2 ^ 62)))))) ≡ None
unfolding text_at number_at is_name is_flat_name object_rules text_rules name_rules new_name_rules flat_name_rules number_rules word_rules form_of form_rules transition_name_rules place_name_rules kind_rules monitor_rules first_broken
the_most_tokens = refl

more_tokens : first_broken (monitor_rules 1 0 [] (monitor_of (codes "stop_size") (at_A (with_op (codes "at_least") (with_n (2 ^ 62 + 1)))))) ≡ Some (bad_number (at.Monitor 0 of_monitor.N))
unfolding text_at number_at is_name is_flat_name object_rules text_rules name_rules new_name_rules flat_name_rules number_rules word_rules form_of form_rules transition_name_rules place_name_rules kind_rules monitor_rules first_broken
more_tokens = refl

-- ---- what they are

it_stops : monitor_in (monitor_of (codes "stop_count") (at_t (with_n 3))) ≡ record { name = codes "m"; kind = stop_count (codes "Top/t") 3 }
unfolding text_at number_at form_of
it_stops = refl

it_stops_at_many : monitor_in (monitor_of (codes "stop_size") (at_A (with_op (codes "at_least") (with_n 3)))) ≡ record { name = codes "m"; kind = stop_size (codes "Top/A") bounds.AtLeast 3 }
unfolding text_at number_at form_of bound_of
it_stops_at_many = refl

it_stops_at_few : monitor_in (monitor_of (codes "stop_size") (at_A (with_op (codes "at_most") (with_n 3)))) ≡ record { name = codes "m"; kind = stop_size (codes "Top/A") bounds.AtMost 3 }
unfolding text_at number_at form_of bound_of
it_stops_at_few = refl
