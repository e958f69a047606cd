-- The first of each kind of thing are left.
use Rattle.std.proofs.Common.{◌∙◌, sym, ap, map, string_bytes}
use Rattle.std.proofs.lemmas.List.{take-map}
use Rattle.cpn_core.specs.Inscriptions.{function_view}
use Rattle.cpn_core.specs.Nets.{variable_view}
use Rattle.cpn_declared.specs.DeclsViews.{colour_entry, meaning_entry, constructor_view}
use Rattle.cpn_typing.proofs.Grown.{same_parts}
use Rattle.cpn_declared.proofs.decls.Decls.cut.Goals as goal

pub returns : goal.returns
returns c = record {
  first = same_parts _ _ _ _ _ _ _ _ _ _ _ _
      (ap (map colour_entry) c.truncate.ensures.first ∙ sym (take-map colour_entry _ _))
      (ap (map meaning_entry) c.truncate-2.ensures.first ∙ sym (take-map meaning_entry _ _))
      (ap (map variable_view) c.truncate-3.ensures.items ∙ sym (take-map variable_view _ _))
      (ap (map (λ constants. map string_bytes constants.items)) c.truncate-4.ensures.items ∙ sym (take-map _ _ _))
      (ap (map (λ constructors. map constructor_view constructors.items)) c.truncate-5.ensures.items ∙ sym (take-map _ _ _))
      (ap (map function_view) c.truncate-6.ensures.items ∙ sym (take-map function_view _ _));
}
