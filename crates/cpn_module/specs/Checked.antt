-- What a document is checked as: a hierarchy, or the first refusal. Source: Jensen and Kristensen, chapter 6; the order is an
-- own choice.
use Rattle.std.specs.Prelude.{◌≡◌, ℕ, Some, None}
use Rattle.cpn_readings.specs.Reading as readings
pub use Rattle.cpn_readings.specs.Reading.{read, refused}
use Rattle.cpn_readings.specs.Rules.{first_broken, unless_broken}
use Rattle.cpn_typing.specs.Names.{Declared}
use Rattle.cpn_document.specs.Document.{RawDocument}
use Rattle.cpn_document.specs.declared.pointers.Pointer.TheVariants as at
use Rattle.cpn_document.specs.declared.pointers.ModulePart.TheVariants as of_module
use Rattle.cpn_module.specs.Refusals.{ModuleRefusal, cycle}
use Rattle.cpn_module.specs.Hierarchy.{PlainHierarchy, IsAcyclic, IsFirstInItself}
use Rattle.cpn_module.specs.Named.{hierarchy_in}
use Rattle.cpn_module.specs.ModuleRules.{name_rules, relation_rules}

-- A reading: a value, or such a refusal.
abbrev pub Reading : Type 0 → Type 0
Reading = readings.Reading ModuleRefusal

-- Checked as: everything that is named is there, no module is part of itself, and ports, sockets and fusion sets go together; or
-- the first of this that does not hold is the refusal.
pub data IsChecked (ds : Declared) (d : RawDocument) : Reading PlainHierarchy → Type 0 where
  not_there : (refusal : ModuleRefusal) → first_broken (name_rules d) ≡ Some refusal → IsChecked ds d (refused refusal)
  in_itself : (m : ℕ) → first_broken (name_rules d) ≡ None → IsFirstInItself (hierarchy_in d) m → IsChecked ds d (refused (cycle (at.Module m of_module.Whole)))
  by_relations : first_broken (name_rules d) ≡ None → IsAcyclic (hierarchy_in d) → IsChecked ds d (unless_broken (hierarchy_in d) (first_broken (relation_rules ds d (hierarchy_in d))))
