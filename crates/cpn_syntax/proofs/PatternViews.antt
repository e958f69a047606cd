-- One level of a pattern.
use Rattle.std.proofs.Common.{◌≡◌, ℕ, ℤ, Bool, Global, Vec, String, string_bytes, rules}
use Rattle.cpn_trees.specs.Trees.{pat, any, pat_name, pat_number, pat_text, pat_truth, pat_call, pat_unit, pat_tuple, pat_list, pats_from}
use Rattle.cpn_trees.specs.PatViews.{pat_view}
use Rattle.cpn_trees.specs.PatForms.{pat_form_view}
use Rattle.cpn_syntax.specs.OpenPatViews.{parts_view}
use Rattle.cpn_trees.specs.declared.patterns.Pat.{Pat}
use Rattle.cpn_trees.specs.declared.patterns.PatForm.{PatForm, the_lemmas}
use Rattle.cpn_trees.specs.declared.patterns.PatForm.TheVariants as form
use Rattle.cpn_trees.specs.declared.patterns.PatForm.TheViews.{roll-Pat, Call, Tuple, List as ListOf}

pub view_pat : (at : ℕ) (form : PatForm) → pat_view (roll-Pat (record { at = at; form = form })) ≡ pat at (pat_form_view form)
view_pat at form = search (rules, the_lemmas)

pub view_any : pat_form_view form.Any ≡ any
view_any = search (rules, the_lemmas)

pub view_name : (s : String Global) → pat_form_view (form.Name s) ≡ pat_name (string_bytes s)
view_name s = search (rules, the_lemmas)

pub view_number : (z : ℤ) → pat_form_view (form.Number z) ≡ pat_number z
view_number z = search (rules, the_lemmas)

pub view_text : (s : String Global) → pat_form_view (form.Text s) ≡ pat_text (string_bytes s)
view_text s = search (rules, the_lemmas)

pub view_truth : (b : Bool) → pat_form_view (form.Truth b) ≡ pat_truth b
view_truth b = search (rules, the_lemmas)

pub view_call : (s : String Global) (parts : Vec Pat Global) → pat_form_view (Call s parts) ≡ pat_call (string_bytes s) (pats_from (parts_view parts))
view_call s parts = search (rules, the_lemmas)

pub view_unit : pat_form_view form.Unit ≡ pat_unit
view_unit = search (rules, the_lemmas)

pub view_tuple : (parts : Vec Pat Global) → pat_form_view (Tuple parts) ≡ pat_tuple (pats_from (parts_view parts))
view_tuple parts = search (rules, the_lemmas)

pub view_list : (parts : Vec Pat Global) → pat_form_view (ListOf parts) ≡ pat_list (pats_from (parts_view parts))
view_list parts = search (rules, the_lemmas)
