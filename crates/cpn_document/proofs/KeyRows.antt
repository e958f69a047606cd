-- The keys of the objects of a document: an object with all of its keys is accepted, and one with any other key is refused.
use Rattle.std.proofs.Common.{◌≡◌, ℕ, Bool, true, false, if◌then◌else◌, List, [], ◌∷◌, refl, sym, subst}
use Rattle.std.specs.Prelude.{Option, Some, None, codes}
use Rattle.serde_json.specs.Data.{Data, number, string, array, object, unsigned, no_items, item, Members, no_members, member}
use Rattle.cpn_document.specs.Refusals.{FormRefusal, shape}
use Rattle.cpn_document.specs.Rules.{first_broken, each_item}
use Rattle.cpn_document.specs.Texts.{is_name}
use Rattle.cpn_document.specs.Parts.{are_among, text_in, text_at, items_at, number_at, object_rules, text_in_rules, text_rules, name_rules, new_name_rules, word_rules, list_rules, where_there, each_named, limit_rules}
use Rattle.cpn_document.specs.Document.{place_keys, at_place, place_rules, transition_keys, at_transition, transition_rules, arc_keys, at_arc, arc_rules, assignment_keys, at_assignment, assignment_rules, each_assignment, sub_keys, at_sub, sub_rules, module_keys, each_place, places_rules, each_transition, transitions_rules, each_arc, arcs_rules, each_sub, subs_rules, module_rules, member_keys, at_member, member_rules, each_member, fusion_keys, fusion_rules, version_rules, each_declaration, declarations_rules, each_module, modules_rules, each_fusion, fusions_rules, document_keys, document_rules}
use Rattle.cpn_document.specs.Monitors.{monitor_keys, form_in as form_of_monitor, monitor_rules, form_of as form_of_word, form_rules as monitor_form_rules, each_monitor, monitors_rules}
use Rattle.cpn_document.specs.Phases.{edit_keys, form_in as form_of_edit, form_of, at_edit, form_rules, edit_rules, phase_keys, phase_rules, each_phase, phases_rules}
use Rattle.cpn_document.specs.declared.pointers.Pointer.TheVariants as at
use Rattle.cpn_document.specs.declared.pointers.ModulePart.TheVariants as of_module
use Rattle.cpn_document.specs.declared.pointers.PlacePart.TheVariants as of_place
use Rattle.cpn_document.specs.declared.pointers.TransitionPart.TheVariants as of_transition
use Rattle.cpn_document.specs.declared.pointers.ArcPart.TheVariants as of_arc
use Rattle.cpn_document.specs.declared.pointers.SubPart.TheVariants as of_sub
use Rattle.cpn_document.specs.declared.pointers.AssignmentPart.TheVariants as of_assignment
use Rattle.cpn_document.specs.declared.pointers.FusionPart.TheVariants as of_fusion
use Rattle.cpn_document.specs.declared.pointers.MemberPart.TheVariants as of_member
use Rattle.cpn_document.specs.declared.pointers.MonitorPart.TheVariants as of_monitor
use Rattle.cpn_document.specs.declared.pointers.PhasePart.TheVariants as of_phase
use Rattle.cpn_document.specs.declared.pointers.EditPart.TheVariants as of_edit
use Rattle.cpn_document.specs.declared.monitors.MonitorForm.TheVariants as monitors
use Rattle.cpn_document.specs.declared.edits.EditForm.TheVariants as edits

-- ---- any other key

-- The rule of its keys is the first one that such an object breaks, whatever the others are.
keys_first : (among : Bool) (others : Option FormRefusal) (refusal : FormRefusal) → among ≡ false → (if among then others else Some refusal) ≡ Some refusal
keys_first true others refusal h = cc
keys_first false others refusal h = refl

module _ (version : ℕ) (ms : Members) where
  of_a_document : are_among (codes "version" ∷ codes "declarations" ∷ codes "top" ∷ codes "modules" ∷ codes "fusions" ∷ codes "monitors" ∷ codes "phases" ∷ []) ms ≡ false → first_broken (document_rules version (object ms)) ≡ Some (shape at.Root)
  unfolding document_rules object_rules first_broken
  of_a_document h = keys_first (are_among (document_keys version) ms) _ (shape at.Root) h

  of_a_module : (m : ℕ) (earlier : List (List ℕ)) → are_among (codes "name" ∷ codes "places" ∷ codes "transitions" ∷ codes "arcs" ∷ codes "subs" ∷ []) ms ≡ false → first_broken (module_rules version m earlier (object ms)) ≡ Some (shape (at.Module m of_module.Whole))
  unfolding module_rules object_rules first_broken
  of_a_module m earlier h = keys_first (are_among (module_keys version) ms) _ (shape (at.Module m of_module.Whole)) h

  of_a_place : (m i : ℕ) (earlier : List (List ℕ)) → are_among (codes "name" ∷ codes "colour" ∷ codes "initial" ∷ codes "port" ∷ []) ms ≡ false → first_broken (place_rules version m i earlier (object ms)) ≡ Some (shape (at_place m i of_place.Whole))
  unfolding place_rules object_rules first_broken
  of_a_place m i earlier h = keys_first (are_among (place_keys version) ms) _ (shape (at_place m i of_place.Whole)) h

  of_a_transition : (m i : ℕ) (earlier : List (List ℕ)) → are_among (codes "name" ∷ codes "guard" ∷ codes "delay" ∷ []) ms ≡ false → first_broken (transition_rules version m i earlier (object ms)) ≡ Some (shape (at_transition m i of_transition.Whole))
  unfolding transition_rules object_rules first_broken
  of_a_transition m i earlier h = keys_first (are_among (transition_keys version) ms) _ (shape (at_transition m i of_transition.Whole)) h

  of_an_arc : (m i : ℕ) → are_among (codes "place" ∷ codes "transition" ∷ codes "to" ∷ codes "expr" ∷ []) ms ≡ false → first_broken (arc_rules version m i (object ms)) ≡ Some (shape (at_arc m i of_arc.Whole))
  unfolding arc_rules object_rules first_broken
  of_an_arc m i h = keys_first (are_among (arc_keys version) ms) _ (shape (at_arc m i of_arc.Whole)) h

  of_a_substitution_transition : (m i : ℕ) (earlier : List (List ℕ)) → are_among (codes "name" ∷ codes "module" ∷ codes "assign" ∷ []) ms ≡ false → first_broken (sub_rules version m i earlier (object ms)) ≡ Some (shape (at_sub m i of_sub.Whole))
  unfolding sub_rules object_rules first_broken
  of_a_substitution_transition m i earlier h = keys_first (are_among (sub_keys version) ms) _ (shape (at_sub m i of_sub.Whole)) h

  of_an_assignment : (m i k : ℕ) → are_among (codes "port" ∷ codes "socket" ∷ []) ms ≡ false → first_broken (assignment_rules version m i k (object ms)) ≡ Some (shape (at_assignment m i k of_assignment.Whole))
  unfolding assignment_rules object_rules first_broken
  of_an_assignment m i k h = keys_first (are_among (assignment_keys version) ms) _ (shape (at_assignment m i k of_assignment.Whole)) h

  of_a_fusion_set : (i : ℕ) (earlier : List (List ℕ)) → are_among (codes "name" ∷ codes "members" ∷ []) ms ≡ false → first_broken (fusion_rules version i earlier (object ms)) ≡ Some (shape (at.Fusion i of_fusion.Whole))
  unfolding fusion_rules object_rules first_broken
  of_a_fusion_set i earlier h = keys_first (are_among (fusion_keys version) ms) _ (shape (at.Fusion i of_fusion.Whole)) h

  of_a_member : (i k : ℕ) → are_among (codes "module" ∷ codes "place" ∷ []) ms ≡ false → first_broken (member_rules version i k (object ms)) ≡ Some (shape (at_member i k of_member.Whole))
  unfolding member_rules object_rules first_broken
  of_a_member i k h = keys_first (are_among (member_keys version) ms) _ (shape (at_member i k of_member.Whole)) h

  of_a_phase : (p : ℕ) → are_among (codes "start" ∷ codes "edits" ∷ []) ms ≡ false → first_broken (phase_rules version p (object ms)) ≡ Some (shape (at.Phase p of_phase.Whole))
  unfolding phase_rules object_rules first_broken
  of_a_phase p h = keys_first (are_among (phase_keys version) ms) _ (shape (at.Phase p of_phase.Whole)) h

  -- those of an edit go by its kind
  module _ (p e : ℕ) where
    of_an_edit : are_among (edit_keys version (form_of_edit (object ms))) ms ≡ false → first_broken (edit_rules version p e (object ms)) ≡ Some (shape (at_edit p e of_edit.Whole))
    unfolding edit_rules object_rules first_broken
    of_an_edit h = keys_first (are_among (edit_keys version (form_of_edit (object ms))) ms) _ (shape (at_edit p e of_edit.Whole)) h

    of_a_guard : form_of_edit (object ms) ≡ Some edits.Guard → are_among (codes "kind" ∷ codes "transition" ∷ codes "text" ∷ []) ms ≡ false → first_broken (edit_rules version p e (object ms)) ≡ Some (shape (at_edit p e of_edit.Whole))
    of_a_guard is h = of_an_edit (subst (λ form. are_among (edit_keys version form) ms ≡ false) (sym is) h)

    of_an_initial_marking : form_of_edit (object ms) ≡ Some edits.Initial → are_among (codes "kind" ∷ codes "place" ∷ codes "text" ∷ []) ms ≡ false → first_broken (edit_rules version p e (object ms)) ≡ Some (shape (at_edit p e of_edit.Whole))
    of_an_initial_marking is h = of_an_edit (subst (λ form. are_among (edit_keys version form) ms ≡ false) (sym is) h)

    of_no_kind_of_edit : form_of_edit (object ms) ≡ None → are_among (codes "kind" ∷ codes "transition" ∷ codes "place" ∷ codes "text" ∷ []) ms ≡ false → first_broken (edit_rules version p e (object ms)) ≡ Some (shape (at_edit p e of_edit.Whole))
    of_no_kind_of_edit is h = of_an_edit (subst (λ form. are_among (edit_keys version form) ms ≡ false) (sym is) h)

  -- and so do those of a monitor
  module _ (i : ℕ) (earlier : List (List ℕ)) where
    of_a_monitor : are_among (monitor_keys version (form_of_monitor (object ms))) ms ≡ false → first_broken (monitor_rules version i earlier (object ms)) ≡ Some (shape (at.Monitor i of_monitor.Whole))
    unfolding monitor_rules object_rules first_broken
    of_a_monitor h = keys_first (are_among (monitor_keys version (form_of_monitor (object ms))) ms) _ (shape (at.Monitor i of_monitor.Whole)) h

    of_a_count : form_of_monitor (object ms) ≡ Some monitors.Count → are_among (codes "name" ∷ codes "kind" ∷ codes "transition" ∷ []) ms ≡ false → first_broken (monitor_rules version i earlier (object ms)) ≡ Some (shape (at.Monitor i of_monitor.Whole))
    of_a_count is h = of_a_monitor (subst (λ form. are_among (monitor_keys version form) ms ≡ false) (sym is) h)

    of_a_size : form_of_monitor (object ms) ≡ Some monitors.Size → are_among (codes "name" ∷ codes "kind" ∷ codes "place" ∷ []) ms ≡ false → first_broken (monitor_rules version i earlier (object ms)) ≡ Some (shape (at.Monitor i of_monitor.Whole))
    of_a_size is h = of_a_monitor (subst (λ form. are_among (monitor_keys version form) ms ≡ false) (sym is) h)

    of_a_value : form_of_monitor (object ms) ≡ Some monitors.Value → are_among (codes "name" ∷ codes "kind" ∷ codes "transition" ∷ codes "expr" ∷ []) ms ≡ false → first_broken (monitor_rules version i earlier (object ms)) ≡ Some (shape (at.Monitor i of_monitor.Whole))
    of_a_value is h = of_a_monitor (subst (λ form. are_among (monitor_keys version form) ms ≡ false) (sym is) h)

    of_a_stop_by_count : form_of_monitor (object ms) ≡ Some monitors.StopCount → are_among (codes "name" ∷ codes "kind" ∷ codes "transition" ∷ codes "n" ∷ []) ms ≡ false → first_broken (monitor_rules version i earlier (object ms)) ≡ Some (shape (at.Monitor i of_monitor.Whole))
    of_a_stop_by_count is h = of_a_monitor (subst (λ form. are_among (monitor_keys version form) ms ≡ false) (sym is) h)

    of_a_stop_by_size : form_of_monitor (object ms) ≡ Some monitors.StopSize → are_among (codes "name" ∷ codes "kind" ∷ codes "place" ∷ codes "op" ∷ codes "n" ∷ []) ms ≡ false → first_broken (monitor_rules version i earlier (object ms)) ≡ Some (shape (at.Monitor i of_monitor.Whole))
    of_a_stop_by_size is h = of_a_monitor (subst (λ form. are_among (monitor_keys version form) ms ≡ false) (sym is) h)

    of_no_kind_of_monitor : form_of_monitor (object ms) ≡ None → are_among (codes "name" ∷ codes "kind" ∷ codes "transition" ∷ codes "place" ∷ codes "expr" ∷ codes "op" ∷ codes "n" ∷ []) ms ≡ false → first_broken (monitor_rules version i earlier (object ms)) ≡ Some (shape (at.Monitor i of_monitor.Whole))
    of_no_kind_of_monitor is h = of_a_monitor (subst (λ form. are_among (monitor_keys version form) ms ≡ false) (sym is) h)

-- ---- all of the keys

abbrev and_text : List ℕ → List ℕ → Members → Members
and_text key text more = member key (string text) more

abbrev and_none : List ℕ → Members → Members
and_none key more = member key (array no_items) more

a_whole_place : first_broken (place_rules 1 0 0 [] (object (and_text (codes "name") (codes "A") (and_text (codes "colour") (codes "INT") (and_text (codes "initial") (codes "1`7") (and_text (codes "port") (codes "io") no_members)))))) ≡ None
unfolding first_broken text_at is_name object_rules text_rules name_rules new_name_rules word_rules where_there place_rules
a_whole_place = refl

a_whole_transition : first_broken (transition_rules 1 0 0 [] (object (and_text (codes "name") (codes "t") (and_text (codes "guard") (codes "x > 3") (and_text (codes "delay") (codes "5") no_members))))) ≡ None
unfolding first_broken text_at is_name object_rules text_rules name_rules new_name_rules where_there transition_rules
a_whole_transition = refl

a_whole_arc : first_broken (arc_rules 1 0 0 (object (and_text (codes "place") (codes "A") (and_text (codes "transition") (codes "t") (and_text (codes "to") (codes "place") (and_text (codes "expr") (codes "1`x") no_members)))))) ≡ None
unfolding first_broken text_at is_name object_rules text_rules name_rules word_rules where_there arc_rules
a_whole_arc = refl

a_whole_substitution_transition : first_broken (sub_rules 1 0 0 [] (object (and_text (codes "name") (codes "s") (and_text (codes "module") (codes "Low") (member (codes "assign") (array (item (object (and_text (codes "port") (codes "P") (and_text (codes "socket") (codes "A") no_members))) no_items)) no_members))))) ≡ None
unfolding first_broken text_at items_at is_name object_rules text_rules name_rules new_name_rules list_rules each_item assignment_rules each_assignment sub_rules
a_whole_substitution_transition = refl

a_whole_fusion_set : first_broken (fusion_rules 1 0 [] (object (and_text (codes "name") (codes "F") (member (codes "members") (array (item (object (and_text (codes "module") (codes "Top") (and_text (codes "place") (codes "A") no_members))) no_items)) no_members)))) ≡ None
unfolding first_broken text_at items_at is_name object_rules text_rules name_rules new_name_rules list_rules each_item member_rules each_member fusion_rules
a_whole_fusion_set = refl

abbrev whole_module : Data
whole_module = object (and_text (codes "name") (codes "Top") (and_none (codes "places") (and_none (codes "transitions") (and_none (codes "arcs") (and_none (codes "subs") no_members)))))

a_whole_document : first_broken (document_rules 1 (object (member (codes "version") (number (unsigned 1)) (and_none (codes "declarations") (and_text (codes "top") (codes "Top") (member (codes "modules") (array (item whole_module no_items)) (and_none (codes "fusions") (and_none (codes "monitors") (and_none (codes "phases") no_members))))))))) ≡ None
unfolding text_in text_at items_at object_rules text_in_rules text_rules name_rules new_name_rules word_rules list_rules where_there is_name first_broken each_item each_named limit_rules each_place places_rules each_transition transitions_rules each_arc arcs_rules each_sub subs_rules module_rules version_rules each_declaration declarations_rules each_module modules_rules each_fusion fusions_rules number_at each_monitor monitors_rules each_phase phases_rules document_rules
a_whole_document = refl

-- without a kind, the keys of all kinds
an_edit_of_no_kind : first_broken (edit_rules 1 0 0 (object (and_text (codes "kind") (codes "delay") (and_text (codes "transition") (codes "Top/t") (and_text (codes "place") (codes "Top/A") (and_text (codes "text") (codes "5") no_members)))))) ≡ Some (shape (at_edit 0 0 of_edit.Kind))
unfolding first_broken text_at object_rules text_rules form_of form_rules edit_rules
an_edit_of_no_kind = refl

a_monitor_of_no_kind : first_broken (monitor_rules 1 0 [] (object (and_text (codes "name") (codes "m") (and_text (codes "kind") (codes "counts") (and_text (codes "transition") (codes "Top/t") (and_text (codes "place") (codes "Top/A") (and_text (codes "expr") (codes "x") (and_text (codes "op") (codes "at_most") (member (codes "n") (number (unsigned 1)) no_members))))))))) ≡ Some (shape (at.Monitor 0 of_monitor.Kind))
unfolding first_broken text_at is_name object_rules text_rules name_rules new_name_rules form_of_word monitor_form_rules monitor_rules
a_monitor_of_no_kind = refl
