-- What the rules of fusion sets say of each member.
use Rattle.std.proofs.Common.{◌≡◌, ℕ, ◌+◌, ◌<◌, Bool, not, ◌||◌, List, [], length, take, get_or, map, sym, ap, ◌∙◌, subst}
use Rattle.std.specs.Prelude.{Option, None, is_some}
use Rattle.std.specs.List.{list_any}
use Rattle.std.proofs.lemmas.List.{length-map, get_or-map}
use Rattle.std.proofs.lemmas.List.Folds.{list_any_more}
use Rattle.cpn_document.specs.Document.{at_member}
use Rattle.cpn_document.specs.declared.pointers.MemberPart.TheVariants.{Whole}
use Rattle.cpn_readings.specs.Rules.{first_broken, each_item, Breaks}
use Rattle.cpn_module.specs.Refusals.{ModuleRefusal, port_in_fusion, two_fusions}
use Rattle.cpn_module.specs.Hierarchy.{PlainMember, PlainHierarchy, port_at, structure_at}
use Rattle.cpn_module.specs.ModuleRules.{Rule, rule, is_same_member}
use Rattle.cpn_module.specs.Pairs.{has_pair}
use Rattle.cpn_module.specs.Views.{fusion_set_view}
use Rattle.cpn_module.specs.declared.hierarchy.FusionSet.{FusionSet}
use Rattle.cpn_module.proofs.OneRule.{same_rules}

abbrev pub is_no_port : PlainHierarchy → ℕ → PlainMember → Bool
is_no_port h k member = not (is_some (port_at (structure_at h member.of_module) member.place))

abbrev pub is_port_there : ℕ → ℕ → PlainMember → ModuleRefusal
is_port_there f k member = port_in_fusion (at_member f k Whole)

abbrev pub no_port_rules : PlainHierarchy → ℕ → List PlainMember → List Rule
no_port_rules h f members = each_item (λ k member. rule (is_no_port h k member) (is_port_there f k member)) 0 members

-- ---- places in two fusion sets

-- a member is none of some places, each a module and the number of a place there
abbrev pub is_none_of : List (ℕ × ℕ) → ℕ → PlainMember → Bool
is_none_of places k member = not (has_pair member.of_module member.place places)

-- a member is in none of some fusion sets
abbrev pub is_in_no : List (List PlainMember) → ℕ → PlainMember → Bool
is_in_no fusions k member = not (list_any (λ fusion. list_any (is_same_member member) fusion) fusions)

abbrev pub is_in_two : ℕ → ℕ → PlainMember → ModuleRefusal
is_in_two f k member = two_fusions (at_member f k Whole)

abbrev pub apart_rules : List (ℕ × ℕ) → ℕ → List PlainMember → List Rule
apart_rules places f members = each_item (λ k member. rule (is_none_of places k member) (is_in_two f k member)) 0 members

-- the rules of the fusion set of a number among fusion sets
abbrev pub one_fusion_rules : List (List PlainMember) → ℕ → List PlainMember → List Rule
one_fusion_rules fusions f members = each_item (λ k member. rule (is_in_no (take f fusions) k member) (is_in_two f k member)) 0 members

-- places are those of the members of fusion sets
abbrev pub ArePlaces : List (ℕ × ℕ) → List (List PlainMember) → Type 0
ArePlaces places fusions = (member : PlainMember) → has_pair member.of_module member.place places ≡ list_any (λ fusion. list_any (is_same_member member) fusion) fusions

-- where places are those of the fusion sets before, the rules of a fusion set are that its members are none of them
module _ (places : List (ℕ × ℕ)) (fusions : List (List PlainMember)) (f : ℕ) (are : ArePlaces places (take f fusions)) (members : List PlainMember) where
  apart_told : apart_rules places f members ≡ one_fusion_rules fusions f members
  apart_told = same_rules (is_none_of places) (is_in_no (take f fusions)) (is_in_two f) (λ k member. ap not (are member)) 0 members

  pub apart_kept : first_broken (apart_rules places f members) ≡ None → first_broken (one_fusion_rules fusions f members) ≡ None
  apart_kept h = subst (λ (rules : List Rule). first_broken rules ≡ None) apart_told h

  pub apart_broken : (refusal : Option ModuleRefusal) → Breaks refusal (apart_rules places f members) → Breaks refusal (one_fusion_rules fusions f members)
  apart_broken refusal h = subst (λ (rules : List Rule). Breaks refusal rules) apart_told h

-- the places with those of the next fusion set
pub places_more : (items : List FusionSet) (f : ℕ) (fusion : FusionSet) → f < length items → fusion ≡ get_or items f fusion → (places new : List (ℕ × ℕ)) → ArePlaces places (take f (map fusion_set_view items)) → ((member : PlainMember) → has_pair member.of_module member.place new ≡ (has_pair member.of_module member.place places || list_any (is_same_member member) (fusion_set_view fusion))) → ArePlaces new (take (f + 1) (map fusion_set_view items))
places_more items f fusion lt at places new are added = λ member.
    let long : f < length (map fusion_set_view items) = rw length-map lt in
    let here : get_or (map fusion_set_view items) f [] ≡ fusion_set_view fusion = get_or-map fusion_set_view items f fusion [] lt ∙ ap fusion_set_view (sym at) in
    added member ∙ rw (are member, ← here) (sym (list_any_more (λ fusion. list_any (is_same_member member) fusion) (map fusion_set_view items) f [] long))
