-- What a document is checked as is one thing; and a hierarchy that it is checked as is the one that it names, with all rules kept.
use Rattle.std.proofs.Common.{◌≡◌, refl}
use Rattle.std.specs.Prelude.{Option, Some, None}
use Rattle.cpn_readings.specs.Relations.{refused_by, HasOne}
use Rattle.cpn_readings.proofs.RelatedReadings.{refused_by_one}
use Rattle.cpn_readings.specs.Rules.{first_broken, unless_broken}
use Rattle.cpn_typing.specs.Names.{Declared}
use Rattle.cpn_document.specs.Document.{RawDocument}
use Rattle.cpn_module.specs.Checked.{Reading, read, IsChecked, not_there, in_itself, by_relations}
use Rattle.cpn_module.specs.Hierarchy.{PlainHierarchy, IsAcyclic}
use Rattle.cpn_module.specs.ModuleRules.{name_rules, relation_rules}
use Rattle.cpn_module.specs.Named.{hierarchy_in}
use Rattle.cpn_module.specs.Refusals.{ModuleRefusal}
use Rattle.cpn_module.specs.OneHierarchy.{one_checked}

-- ---- what is checked

-- the hierarchy that a document names, with all rules kept
pub record IsKept (ds : Declared) (d : RawDocument) (h : PlainHierarchy) : Type 0 where
  pub is : h ≡ hierarchy_in d
  pub named : first_broken (name_rules d) ≡ None
  pub acyclic : IsAcyclic (hierarchy_in d)
  pub related : first_broken (relation_rules ds d (hierarchy_in d)) ≡ None

unless_read : (x h : PlainHierarchy) (o : Option ModuleRefusal) → unless_broken x o ≡ read h → (h ≡ x) × (o ≡ None)
unless_read x h None e = (cc, refl)
unless_read x h (Some refusal) e = cc

kept_by : (ds : Declared) (d : RawDocument) (h : PlainHierarchy) (r : Reading PlainHierarchy) → IsChecked ds d r → r ≡ read h → IsKept ds d h
kept_by ds d h r (not_there refusal broken) e = cc
kept_by ds d h r (in_itself m named first) e = cc
kept_by ds d h r (by_relations named acyclic) e =
    let parts = unless_read (hierarchy_in d) h (first_broken (relation_rules ds d (hierarchy_in d))) e in
    record { is = parts.0; named = named; acyclic = acyclic; related = parts.1 }

pub kept : (ds : Declared) (d : RawDocument) (h : PlainHierarchy) → IsChecked ds d (read h) → IsKept ds d h
kept ds d h checked = kept_by ds d h (read h) checked refl

-- ---- one answer

pub checks_one : {S : Type 0} (kind : ModuleRefusal → S) (ds : Declared) (d : RawDocument) → HasOne (refused_by kind (IsChecked ds d))
checks_one kind ds d = refused_by_one kind (IsChecked ds d) (one_checked ds d)
