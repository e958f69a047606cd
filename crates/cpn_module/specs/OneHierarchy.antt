-- Law: a document is checked as one thing.
use Rattle.std.proofs.Common.{◌≡◌, ℕ, ◌<◌, refl, ap, arith}
use Rattle.std.specs.Prelude.{Some, None}
use Rattle.cpn_readings.specs.Rules.{first_broken, unless_broken}
use Rattle.cpn_readings.specs.Relations.{HasOne}
use Rattle.cpn_typing.specs.Names.{Declared}
use Rattle.cpn_document.specs.Document.{RawDocument}
use Rattle.cpn_document.specs.declared.pointers.Pointer.TheVariants as at
use Rattle.cpn_document.specs.declared.pointers.ModulePart.TheVariants as of_module
use Rattle.cpn_module.specs.Refusals.{ModuleRefusal, cycle}
use Rattle.cpn_module.specs.Hierarchy.{PlainHierarchy, IsAcyclic, IsFirstInItself}
use Rattle.cpn_module.specs.Named.{hierarchy_in}
use Rattle.cpn_module.specs.ModuleRules.{name_rules, relation_rules}
use Rattle.cpn_module.specs.Checked.{Reading, refused, IsChecked, not_there, in_itself, by_relations}

-- there is one first module that is part of itself
first_one : (h : PlainHierarchy) (m n : ℕ) → IsFirstInItself h m → IsFirstInItself h n → m ≡ n
first_one h m n f g =
    let not_before : m < n → ⊥ = λ lt. g.first m lt f.part in
    let not_after : n < m → ⊥ = λ lt. f.first n lt g.part in
    omega (arith, not_before, not_after)

-- the place of a module that is part of itself
abbrev cycle_at : ℕ → ModuleRefusal
cycle_at m = cycle (at.Module m of_module.Whole)

module _ (ds : Declared) (d : RawDocument) where
  when_not_there : (refusal : ModuleRefusal) (r : Reading PlainHierarchy) → first_broken (name_rules d) ≡ Some refusal → IsChecked ds d r → refused refusal ≡ r
  when_not_there refusal r h (not_there other k) = let same : refusal ≡ other = cc (h, k) in ap refused same
  when_not_there refusal r h (in_itself m kept first) = cc
  when_not_there refusal r h (by_relations kept acyclic) = cc

  when_in_itself : (m : ℕ) (r : Reading PlainHierarchy) → first_broken (name_rules d) ≡ None → IsFirstInItself (hierarchy_in d) m → IsChecked ds d r → refused (cycle_at m) ≡ r
  when_in_itself m r kept first (not_there refusal broken) = cc
  when_in_itself m r kept first (in_itself n kept' other) = ap (λ k. refused (cycle_at k)) (first_one (hierarchy_in d) m n first other)
  when_in_itself m r kept first (by_relations kept' acyclic) = absurd (acyclic m first.part)

  abbrev related : Reading PlainHierarchy
  related = unless_broken (hierarchy_in d) (first_broken (relation_rules ds d (hierarchy_in d)))

  when_related : (r : Reading PlainHierarchy) → first_broken (name_rules d) ≡ None → IsAcyclic (hierarchy_in d) → IsChecked ds d r → related ≡ r
  when_related r kept acyclic (not_there refusal broken) = cc
  when_related r kept acyclic (in_itself m kept' first) = absurd (acyclic m first.part)
  when_related r kept acyclic (by_relations kept' acyclic') = refl

  pub one_checked : HasOne (IsChecked ds d)
  one_checked r s (not_there refusal h) k = when_not_there refusal s h k
  one_checked r s (in_itself m kept first) k = when_in_itself m s kept first k
  one_checked r s (by_relations kept acyclic) k = when_related s kept acyclic k
