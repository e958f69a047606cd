-- Edits that are made one after another.
use Rattle.std.proofs.Common.{◌≡◌, ℕ, zero, suc, arith, ◌+◌, ◌<◌, List, [], ◌∷◌, ◌++◌, length, take, get_or, refl, sym, ap, ◌∙◌, subst}
use Rattle.std.specs.List.{AllByRecursion}
use Rattle.std.proofs.lemmas.List.{length-map, length-set, map_more}
use Rattle.cpn_core.specs.Nets.{transition_view, net_view}
use Rattle.cpn_core.specs.declared.nets.Net.{Net}
use Rattle.cpn_definitions.specs.Marking.{Marking}
use Rattle.cpn_definitions.specs.Net.{PlainNet}
use Rattle.cpn_edit_texts.specs.Edits.{PlainEdit, edits_guard, edits_initial, net_after, initial_after, net_after_all, initial_after_all}
use Rattle.cpn_edit_texts.specs.Views.{edit_view, edits_view}
use Rattle.cpn_edit_texts.specs.declared.edits.Edit.{Edit}

net_after_more : (n : PlainNet) (edits : List PlainEdit) (edit : PlainEdit) → net_after_all n (edits ++ edit ∷ []) ≡ net_after (net_after_all n edits) edit
net_after_more n [] edit = refl
net_after_more n (e ∷ edits) edit = net_after_more (net_after n e) edits edit

initial_after_more : (m : Marking) (edits : List PlainEdit) (edit : PlainEdit) → initial_after_all m (edits ++ edit ∷ []) ≡ initial_after (initial_after_all m edits) edit
initial_after_more m [] edit = refl
initial_after_more m (e ∷ edits) edit = initial_after_more (initial_after m e) edits edit

-- an edit leaves as many transitions, and as many places in the marking
as_many_transitions : (n : PlainNet) (edit : PlainEdit) → length (net_after n edit).transitions ≡ length n.transitions
as_many_transitions n (edits_guard t edited) = length-set n.transitions t edited
as_many_transitions n (edits_initial p tokens) = refl

pub as_many_places : (m : Marking) (edit : PlainEdit) → length (initial_after m edit) ≡ length m
as_many_places m (edits_guard t edited) = refl
as_many_places m (edits_initial p tokens) = length-set m p tokens

-- of nets of the program
pub as_many_of_net : (old new : Net) (edit : PlainEdit) → net_view new ≡ net_after (net_view old) edit → length new.transitions.items ≡ length old.transitions.items
as_many_of_net old new edit is =
    sym (length-map new.transitions.items transition_view) ∙ ap (λ (n : PlainNet). length n.transitions) is ∙ as_many_transitions (net_view old) edit ∙ length-map old.transitions.items transition_view

-- what holds of the edits of a list holds of each
all_at : (P : PlainEdit → Type 0) (xs : List Edit) (k : ℕ) (d : Edit) → k < length xs → AllByRecursion P (edits_view xs) → P (edit_view (get_or xs k d))
all_at P [] k d lt all = absurd (omega (arith, lt))
all_at P (x ∷ xs) zero d lt all = all.0
all_at P (x ∷ xs) (suc k) d lt all = all_at P xs k d (omega (arith, lt)) all.1

-- the next edit of a list is made
module _ (edits : List Edit) (number : ℕ) (edit : Edit) (lt : number < length edits) (is : edit ≡ get_or edits number edit) where
  more : edits_view (take (number + 1) edits) ≡ edits_view (take number edits) ++ edit_view edit ∷ []
  more = map_more edit_view edits number edit lt ∙ ap (λ e. edits_view (take number edits) ++ edit_view e ∷ []) (sym is)

  pub its : (P : PlainEdit → Type 0) → AllByRecursion P (edits_view edits) → P (edit_view edit)
  its P all = subst (λ e. P (edit_view e)) (sym is) (all_at P edits number edit lt all)

  net_more : (n : PlainNet) → net_after_all n (edits_view (take (number + 1) edits)) ≡ net_after (net_after_all n (edits_view (take number edits))) (edit_view edit)
  net_more n = ap (net_after_all n) more ∙ net_after_more n (edits_view (take number edits)) (edit_view edit)

  initial_more : (m : Marking) → initial_after_all m (edits_view (take (number + 1) edits)) ≡ initial_after (initial_after_all m (edits_view (take number edits))) (edit_view edit)
  initial_more m = ap (initial_after_all m) more ∙ initial_after_more m (edits_view (take number edits)) (edit_view edit)

  pub net_made : (n before now : PlainNet) (made : PlainEdit) → now ≡ net_after before made → before ≡ net_after_all n (edits_view (take number edits)) → made ≡ edit_view edit → now ≡ net_after_all n (edits_view (take (number + 1) edits))
  net_made n before now made now_is before_is same =
      now_is ∙ ap (λ (k : PlainNet). net_after k made) before_is ∙ ap (net_after (net_after_all n (edits_view (take number edits)))) same ∙ sym (net_more n)

  pub initial_made : (m before now : Marking) (made : PlainEdit) → now ≡ initial_after before made → before ≡ initial_after_all m (edits_view (take number edits)) → made ≡ edit_view edit → now ≡ initial_after_all m (edits_view (take (number + 1) edits))
  initial_made m before now made now_is before_is same =
      now_is ∙ ap (λ (k : Marking). initial_after k made) before_is ∙ ap (initial_after (initial_after_all m (edits_view (take number edits)))) same ∙ sym (initial_more m)
