-- What the rules of sockets say of each assignment.
use Rattle.std.proofs.Common.{◌≡◌, ℕ, ◌+◌, ◌<◌, Bool, true, false, ◌&&◌, ◌||◌, List, [], ◌∷◌, length, take, get_or, map, refl, ◌∙◌, subst}
use Rattle.std.specs.Prelude.{Option, None}
use Rattle.std.specs.List.{list_any}
use Rattle.std.proofs.lemmas.List.{take_more, map-append}
use Rattle.std.proofs.lemmas.List.Folds.{list_any-append}
use Rattle.cpn_document.specs.Document.{at_assignment}
use Rattle.cpn_document.specs.declared.pointers.AssignmentPart.TheVariants.{Whole}
use Rattle.cpn_readings.specs.Rules.{first_broken, each_item, Breaks}
use Rattle.cpn_module.specs.Refusals.{ModuleRefusal, socket_type}
use Rattle.cpn_module.specs.Hierarchy.{PlainAssignment, PlainSubstitution, PlainStructure, PlainHierarchy, port_at, structure_at}
use Rattle.cpn_module.specs.ModuleRules.{Rule, rule, is_input, is_output, joins, type_of, type_of_socket, are_one_type}
use Rattle.cpn_module.specs.Pairs.{has_pair}
use Rattle.cpn_module.proofs.OneRule.{same_rules}

abbrev pub is_of_type : List (ℕ × ℕ) → List (ℕ × ℕ) → PlainStructure → ℕ → ℕ → PlainAssignment → Bool
is_of_type inputs outputs submodule i k a = are_one_type (type_of (has_pair a.socket i inputs) (has_pair a.socket i outputs)) (port_at submodule a.port)

abbrev pub has_type_of_port : PlainStructure → PlainStructure → ℕ → ℕ → PlainAssignment → Bool
has_type_of_port s submodule i k a = are_one_type (type_of_socket s a.socket i) (port_at submodule a.port)

abbrev pub is_other_type : ℕ → ℕ → ℕ → PlainAssignment → ModuleRefusal
is_other_type m i k a = socket_type (at_assignment m i k Whole)

abbrev pub paired_rules : List (ℕ × ℕ) → List (ℕ × ℕ) → PlainStructure → ℕ → ℕ → List PlainAssignment → List Rule
paired_rules inputs outputs submodule m i assignments = each_item (λ k a. rule (is_of_type inputs outputs submodule i k a) (is_other_type m i k a)) 0 assignments

-- the rules of a substitution transition of a module, and of all of them
abbrev pub assignment_rules : PlainHierarchy → ℕ → PlainStructure → ℕ → PlainSubstitution → List Rule
assignment_rules h m s i sub = each_item (λ k a. rule (has_type_of_port s (structure_at h sub.submodule) i k a) (is_other_type m i k a)) 0 sub.assignments

abbrev pub substitution_rules : PlainHierarchy → ℕ → PlainStructure → List Rule
substitution_rules h m s = each_item (assignment_rules h m s) 0 s.substitutions

-- the rules of a substitution transition, where these pairs are those that the arcs of its module make
module _ (inputs outputs : List (ℕ × ℕ)) (s : PlainStructure) (from : (p i : ℕ) → has_pair p i inputs ≡ list_any (λ arc. joins p i arc && is_input arc.way) s.arcs) (to : (p i : ℕ) → has_pair p i outputs ≡ list_any (λ arc. joins p i arc && is_output arc.way) s.arcs) (h : PlainHierarchy) (m i : ℕ) (sub : PlainSubstitution) where
  paired_told : paired_rules inputs outputs (structure_at h sub.submodule) m i sub.assignments ≡ assignment_rules h m s i sub
  paired_told = same_rules (is_of_type inputs outputs (structure_at h sub.submodule) i) (has_type_of_port s (structure_at h sub.submodule) i) (is_other_type m i) (λ k a. rw (from a.socket i, to a.socket i) refl) 0 sub.assignments

  pub paired_kept : first_broken (paired_rules inputs outputs (structure_at h sub.submodule) m i sub.assignments) ≡ None → first_broken (assignment_rules h m s i sub) ≡ None
  paired_kept kept = subst (λ (rules : List Rule). first_broken rules ≡ None) paired_told kept

  pub paired_broken : (refusal : Option ModuleRefusal) → Breaks refusal (paired_rules inputs outputs (structure_at h sub.submodule) m i sub.assignments) → Breaks refusal (assignment_rules h m s i sub)
  paired_broken refusal broken = subst (λ (rules : List Rule). Breaks refusal rules) paired_told broken

-- ---- one arc more

regroup : (a b c : Bool) → ((a || b) || c) ≡ (a || (b || (c || false)))
regroup true b c = refl
regroup false true c = refl
regroup false false true = refl
regroup false false false = refl

-- what some had, or one of those so far has, with the next one
pub any_more : {X Y : Type 0} (view : X → Y) (test : Y → Bool) (xs : List X) (i : ℕ) (d : X) → i < length xs → (first before now : Bool) → before ≡ (first || list_any test (map view (take i xs))) → now ≡ (before || test (view (get_or xs i d))) → now ≡ (first || list_any test (map view (take (i + 1) xs)))
any_more view test xs i d lt first before now h e =
    e ∙ rw (h, take_more xs i d lt, map-append view (take i xs) (get_or xs i d ∷ []), list_any-append test (map view (take i xs)) (view (get_or xs i d) ∷ [])) (regroup first (list_any test (map view (take i xs))) (test (view (get_or xs i d))))
