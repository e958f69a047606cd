-- Worked cases of edits in a net with the place `Top/A` and the transition `Top/t`: names and texts that are refused, and where; and the start of a phase.
use Rattle.std.proofs.Common.{ℕ, pos, negsuc, false, List, [], ◌∷◌, codes, refl}
use Rattle.cpn_definitions.specs.Colour.{int_shape}
use Rattle.cpn_definitions.specs.Net.{PlainNet, no_transition}
use Rattle.cpn_document.specs.Phases.{guard, initial, at_edit}
use Rattle.cpn_document.specs.declared.document.Start.TheVariants as starts
use Rattle.cpn_document.specs.declared.pointers.EditPart.TheVariants as of_edit
use Rattle.cpn_document.specs.declared.pointers.Pointer.{Pointer}
use Rattle.cpn_module_trees.specs.Parsing.{NoTree, unparsed, IsGuard, IsInscription}
use Rattle.cpn_text_refusals.specs.Refusals.{no_tree}
use Rattle.cpn_typing.specs.Names.{Declared}
use Rattle.cpn_edit_texts.specs.Checked.{tokens_so, edit_so, edits_so, phase_so}
use Rattle.cpn_edit_texts.specs.Reading.{unknown_name, bad_text, read, refused}
use Rattle.cpn_edit_texts.specs.Texts.{guard_of, initial_of}

abbrev net : PlainNet
net = record {
  places = record { name = codes "Top/A"; colour = record { shape = int_shape (negsuc 99) (pos 99); timed = false } } ∷ [];
  transitions = record no_transition { name = codes "Top/t" } ∷ [];
  variables = [];
  constants = [];
  constructors = [];
  functions = [];
}

abbrev nothing_declared : Declared
nothing_declared = record { colours = []; names = []; variables = []; enumerations = []; unions = []; functions = [] }

-- ---- names: an edit of an unknown one is refused as a whole, whatever its text is

no_transition_of_it : (whole at : Pointer) (text : List ℕ) → edit_so nothing_declared net [] whole at (guard (codes "Top/A") text) (refused (unknown_name whole))
unfolding edit_so
no_transition_of_it whole at text = (refused (unknown_name whole), refl, refl)

no_place_of_it : (whole at : Pointer) (text : List ℕ) → edit_so nothing_declared net [] whole at (initial (codes "Top/t") text) (refused (unknown_name whole))
unfolding edit_so
no_place_of_it whole at text = (refused (unknown_name whole), refl, refl)

-- ---- texts: one that has no tree is refused at the pointer of the text, with the numbers of its phase and of its edit

its_text : (text : List ℕ) (r : NoTree) → IsGuard text (unparsed r) → edits_so nothing_declared [] 3 5 net (guard (codes "Top/t") text ∷ []) (refused (bad_text (at_edit 3 5 of_edit.Text) (no_tree r)))
unfolding edits_so edit_so guard_of
its_text text r is =
    let refusal = bad_text (at_edit 3 5 of_edit.Text) (no_tree r) in
    (refused refusal, (read 0, refl, (read (unparsed r), (unparsed r, is, refl), (refused refusal, refl, refl))), refl)

its_initial_marking : (text : List ℕ) (r : NoTree) → IsInscription text (unparsed r) → edits_so nothing_declared [] 3 5 net (initial (codes "Top/A") text ∷ []) (refused (bad_text (at_edit 3 5 of_edit.Text) (no_tree r)))
unfolding edits_so edit_so tokens_so initial_of
its_initial_marking text r is =
    let refusal = bad_text (at_edit 3 5 of_edit.Text) (no_tree r) in
    (refused refusal, (read 0, refl, (refused refusal, (read (unparsed r), (unparsed r, is, refl), (refused refusal, refl, refl)), refl)), refl)

-- ---- a phase starts as it is written

from_here : phase_so nothing_declared [] net 0 (record { start = starts.Here; edits = [] }) (read (record { start = starts.Here; edits = [] }))
unfolding phase_so edits_so
from_here = (read [], refl, refl)

from_the_initial_marking : phase_so nothing_declared [] net 0 (record { start = starts.Initial; edits = [] }) (read (record { start = starts.Initial; edits = [] }))
unfolding phase_so edits_so
from_the_initial_marking = (read [], refl, refl)
