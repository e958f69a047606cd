-- The names are those of the constructors of all unions.
use Rattle.std.proofs.Common.{◌∙◌, map, ap}
use Rattle.cpn_declared.specs.DeclsViews.{constructor_names, constructor_view}
use Rattle.cpn_declared.proofs.ConstructorNames.{all_names_are}
use Rattle.cpn_declared.proofs.decls.Decls.parts.Goals as goal

pub returns-clause-constructors : goal.returns-clause-constructors
returns-clause-constructors c =
    c.in_ok-constructors.ensures.exact ∙ ap (map (λ union. constructor_names (map constructor_view union.items))) c.as_slice-3.ensures.value ∙ all_names_are c.args.self.now.unions.items
