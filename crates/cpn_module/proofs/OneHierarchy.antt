-- What a call answers of what a document is checked as.
use Rattle.std.proofs.Common.{◌≡◌, ℕ, sym, subst}
use Rattle.std.specs.Prelude.{Option, Some, None, Result, IfErr, IsErrAnd}
use Rattle.std.proofs.lemmas.Result.{err_from_is_err_and}
use Rattle.cpn_readings.specs.Rules.{first_broken, unless_broken, Breaks}
use Rattle.cpn_readings.specs.Relations.{RefusesBy}
use Rattle.cpn_typing.specs.Names.{Declared}
use Rattle.cpn_document.specs.Document.{RawDocument}
use Rattle.cpn_document.specs.declared.pointers.Pointer.TheVariants as at
use Rattle.cpn_document.specs.declared.pointers.ModulePart.TheVariants as of_module
use Rattle.cpn_module.specs.Refusals.{ModuleRefusal, cycle}
use Rattle.cpn_module.specs.Hierarchy.{PlainHierarchy, IsAcyclic, IsFirstInItself}
use Rattle.cpn_module.specs.Named.{hierarchy_in}
use Rattle.cpn_module.specs.ModuleRules.{name_rules, relation_rules}
use Rattle.cpn_module.specs.Checked.{read, refused, IsChecked, not_there, in_itself, by_relations}
use Rattle.cpn_module.specs.Answers.{refusal_of}
use Rattle.cpn_module.specs.declared.refusals.ModuleError.{ModuleError}

-- the place of a module that is part of itself
abbrev cycle_at : ℕ → ModuleRefusal
cycle_at m = cycle (at.Module m of_module.Whole)

module _ (ds : Declared) (d : RawDocument) where
  pub refused_by_names : (refusal : Option ModuleRefusal) → Breaks refusal (name_rules d) → RefusesBy (IsChecked ds d) refusal
  refused_by_names None broken = tt
  refused_by_names (Some refusal) broken = not_there refusal (sym broken)

  module _ (h : PlainHierarchy) (named : h ≡ hierarchy_in d) (kept : first_broken (name_rules d) ≡ None) where
    pub refused_in_itself : (m : ℕ) → IsFirstInItself h m → IsChecked ds d (refused (cycle_at m))
    refused_in_itself m first = in_itself m kept (subst (λ g. IsFirstInItself g m) named first)

    module _ (acyclic : IsAcyclic h) where
      checked_as : IsChecked ds d (unless_broken h (first_broken (relation_rules ds d h)))
      checked_as = subst (λ g. IsChecked ds d (unless_broken g (first_broken (relation_rules ds d g)))) (sym named) (by_relations kept (subst IsAcyclic named acyclic))

      pub refused_by_relations : (refusal : Option ModuleRefusal) → Breaks refusal (relation_rules ds d h) → RefusesBy (IsChecked ds d) refusal
      refused_by_relations None broken = tt
      refused_by_relations (Some refusal) broken = subst (λ o. IsChecked ds d (unless_broken h o)) (sym broken) checked_as

      pub accepted : first_broken (relation_rules ds d h) ≡ None → IsChecked ds d (read h)
      accepted all = subst (λ o. IsChecked ds d (unless_broken h o)) all checked_as

  -- the refusal at the exit of a call
  pub refused_at_exit : {X : Type 0} (result : Result X ModuleError) (error : ModuleError) → IsErrAnd result (λ e. e ≡ error) → RefusesBy (IsChecked ds d) (refusal_of error) → IfErr result (λ e. RefusesBy (IsChecked ds d) (refusal_of e))
  refused_at_exit result error h k = let p = err_from_is_err_and result h in rw (p.1, p.2) k
