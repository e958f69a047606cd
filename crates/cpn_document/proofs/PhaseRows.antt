-- Worked phases and edits: what each is, and which rule it breaks first.
use Rattle.std.proofs.Common.{◌≡◌, ℕ, List, [], ◌∷◌, refl}
use Rattle.std.specs.Prelude.{Some, None, codes}
use Rattle.serde_json.specs.Data.{Data, number, string, array, object, unsigned, Items, no_items, item, Members, no_members, member}
use Rattle.cpn_document.specs.Refusals.{shape, bad_name}
use Rattle.cpn_document.specs.Rules.{first_broken}
use Rattle.cpn_document.specs.Texts.{is_name, is_flat_name}
use Rattle.cpn_document.specs.Parts.{text_at, items_at, object_rules, text_rules, flat_name_rules, word_rules, list_rules, where_there}
use Rattle.cpn_document.specs.Phases.{guard, initial, form_of, start_of, form_rules, change_rules, edit_rules, each_edit, phase_in, phase_rules}
use Rattle.cpn_readings.specs.Rules.{each_item}
use Rattle.cpn_document.specs.declared.pointers.Pointer.TheVariants as at
use Rattle.cpn_document.specs.declared.pointers.PhasePart.TheVariants as of_phase
use Rattle.cpn_document.specs.declared.pointers.EditPart.TheVariants as of_edit
use Rattle.cpn_document.specs.declared.document.Start.TheVariants as starts

-- an edit of a kind, and one of a guard and of an initial marking
abbrev edit_of : List ℕ → Members → Data
edit_of kind more = object (member (codes "kind") (string kind) more)

abbrev with_text : Members
with_text = member (codes "text") (string (codes "x > 3")) no_members

abbrev guard_of_t : Data
guard_of_t = edit_of (codes "guard") (member (codes "transition") (string (codes "Top/t")) with_text)

abbrev marking_of : List ℕ → Data
marking_of place = edit_of (codes "initial") (member (codes "place") (string place) with_text)

abbrev list_of : List Data → Items
list_of [] = no_items
list_of (d ∷ ds) = item d (list_of ds)

-- a phase that starts so, with these edits
abbrev phase_with : List ℕ → List Data → Data
phase_with start edits = object (member (codes "start") (string start) (member (codes "edits") (array (list_of edits)) no_members))

abbrev starting : List ℕ → Data
starting start = object (member (codes "start") (string start) no_members)

the_first_from_the_initial_marking : first_broken (phase_rules 1 0 (starting (codes "initial"))) ≡ None
unfolding text_at items_at is_name is_flat_name object_rules text_rules flat_name_rules word_rules list_rules where_there form_of start_of form_rules change_rules edit_rules each_edit each_item phase_rules first_broken
the_first_from_the_initial_marking = refl

the_first_from_here : first_broken (phase_rules 1 0 (starting (codes "here"))) ≡ Some (shape (at.Phase 0 of_phase.Start))
unfolding text_at items_at is_name is_flat_name object_rules text_rules flat_name_rules word_rules list_rules where_there form_of start_of form_rules change_rules edit_rules each_edit each_item phase_rules first_broken
the_first_from_here = refl

the_second_from_here : first_broken (phase_rules 1 1 (starting (codes "here"))) ≡ None
unfolding text_at items_at is_name is_flat_name object_rules text_rules flat_name_rules word_rules list_rules where_there form_of start_of form_rules change_rules edit_rules each_edit each_item phase_rules first_broken
the_second_from_here = refl

the_second_from_there : first_broken (phase_rules 1 1 (starting (codes "there"))) ≡ Some (shape (at.Phase 1 of_phase.Start))
unfolding text_at items_at is_name is_flat_name object_rules text_rules flat_name_rules word_rules list_rules where_there form_of start_of form_rules change_rules edit_rules each_edit each_item phase_rules first_broken
the_second_from_there = refl

no_start : first_broken (phase_rules 1 0 (object no_members)) ≡ Some (shape (at.Phase 0 of_phase.Whole))
unfolding text_at items_at is_name is_flat_name object_rules text_rules flat_name_rules word_rules list_rules where_there form_of start_of form_rules change_rules edit_rules each_edit each_item phase_rules first_broken
no_start = refl

edits_that_are_a_number : first_broken (phase_rules 1 0 (object (member (codes "start") (string (codes "initial")) (member (codes "edits") (number (unsigned 7)) no_members)))) ≡ Some (shape (at.Phase 0 of_phase.Edits))
unfolding text_at items_at is_name is_flat_name object_rules text_rules flat_name_rules word_rules list_rules where_there form_of start_of form_rules change_rules edit_rules each_edit each_item phase_rules first_broken
edits_that_are_a_number = refl

both_edits : first_broken (phase_rules 1 0 (phase_with (codes "initial") (guard_of_t ∷ marking_of (codes "Top/A") ∷ []))) ≡ None
unfolding text_at items_at is_name is_flat_name object_rules text_rules flat_name_rules word_rules list_rules where_there form_of start_of form_rules change_rules edit_rules each_edit each_item phase_rules first_broken
both_edits = refl

no_name_in_the_second_edit : first_broken (phase_rules 1 0 (phase_with (codes "initial") (guard_of_t ∷ marking_of (codes "Top/") ∷ []))) ≡ Some (bad_name (at.Phase 0 (of_phase.Edit 1 of_edit.Place)))
unfolding text_at items_at is_name is_flat_name object_rules text_rules flat_name_rules word_rules list_rules where_there form_of start_of form_rules change_rules edit_rules each_edit each_item phase_rules first_broken
no_name_in_the_second_edit = refl

a_key_of_another_edit : first_broken (phase_rules 1 0 (phase_with (codes "initial") (edit_of (codes "guard") (member (codes "place") (string (codes "Top/A")) with_text) ∷ []))) ≡ Some (shape (at.Phase 0 (of_phase.Edit 0 of_edit.Whole)))
unfolding text_at items_at is_name is_flat_name object_rules text_rules flat_name_rules word_rules list_rules where_there form_of start_of form_rules change_rules edit_rules each_edit each_item phase_rules first_broken
a_key_of_another_edit = refl

-- the keys of both kinds may stand beside a kind that is none
another_edit : first_broken (phase_rules 1 0 (phase_with (codes "initial") (edit_of (codes "delay") (member (codes "place") (string (codes "Top/A")) with_text) ∷ []))) ≡ Some (shape (at.Phase 0 (of_phase.Edit 0 of_edit.Kind)))
unfolding text_at items_at is_name is_flat_name object_rules text_rules flat_name_rules word_rules list_rules where_there form_of start_of form_rules change_rules edit_rules each_edit each_item phase_rules first_broken
another_edit = refl

no_text : first_broken (phase_rules 1 0 (phase_with (codes "initial") (edit_of (codes "guard") (member (codes "transition") (string (codes "Top/t")) no_members) ∷ []))) ≡ Some (shape (at.Phase 0 (of_phase.Edit 0 of_edit.Whole)))
unfolding text_at items_at is_name is_flat_name object_rules text_rules flat_name_rules word_rules list_rules where_there form_of start_of form_rules change_rules edit_rules each_edit each_item phase_rules first_broken
no_text = refl

-- ---- what they are

a_phase_of_two_edits : phase_in (phase_with (codes "here") (guard_of_t ∷ marking_of (codes "Top/A") ∷ [])) ≡ record { start = starts.Here; edits = guard (codes "Top/t") (codes "x > 3") ∷ initial (codes "Top/A") (codes "x > 3") ∷ [] }
unfolding text_at items_at form_of start_of
a_phase_of_two_edits = refl
