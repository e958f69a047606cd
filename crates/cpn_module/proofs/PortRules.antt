-- What the rules of ports say of each assignment.
use Rattle.std.proofs.Common.{◌≡◌, ℕ, ◌+◌, ◌<◌, Bool, true, false, not, ◌||◌, List, [], ◌∷◌, ◌++◌, length, take, get_or, map, nat_eq, if◌then◌else◌, refl, sym, ap, ◌∙◌}
use Rattle.std.specs.List.{list_any}
use Rattle.std.proofs.lemmas.List.{take-map, map_more}
use Rattle.cpn_document.specs.Document.{at_assignment}
use Rattle.cpn_document.specs.declared.pointers.AssignmentPart.TheVariants.{Whole}
use Rattle.cpn_readings.specs.Rules.{each_item}
use Rattle.cpn_module.specs.Refusals.{ModuleRefusal, port_twice}
use Rattle.cpn_module.specs.Hierarchy.{PlainAssignment, PlainSubstitution, PlainStructure}
use Rattle.cpn_module.specs.ModuleRules.{Rule, rule, is_assigned}
use Rattle.cpn_module.specs.Views.{assigned_view}
use Rattle.cpn_module.specs.declared.hierarchy.Assigned.{Assigned}

-- an assignment is of a port that none before it is of
abbrev pub is_new_port : List PlainAssignment → ℕ → PlainAssignment → Bool
is_new_port all k a = not (is_assigned a.port (take k all))

abbrev pub is_port_twice : ℕ → ℕ → ℕ → PlainAssignment → ModuleRefusal
is_port_twice m i k a = port_twice (at_assignment m i k Whole)

abbrev pub assignment_rules : ℕ → ℕ → PlainSubstitution → List Rule
assignment_rules m i sub = each_item (λ k a. rule (is_new_port sub.assignments k a) (is_port_twice m i k a)) 0 sub.assignments

abbrev pub substitution_rules : ℕ → PlainStructure → List Rule
substitution_rules m s = each_item (assignment_rules m) 0 s.substitutions

-- the ports of assignments
abbrev pub ports_of : List Assigned → List ℕ
ports_of all = map (λ a. a.port) all

any_port : (p : ℕ) (all : List Assigned) → is_assigned p (map assigned_view all) ≡ list_any (nat_eq p) (ports_of all)
any_port p [] = refl
any_port p (a ∷ all) = ap (λ b. nat_eq p a.port || b) (any_port p all)

-- whether a port is one of those of the assignments before a number
pub assigned_before : (p k : ℕ) (all : List Assigned) → is_assigned p (take k (map assigned_view all)) ≡ list_any (nat_eq p) (ports_of (take k all))
assigned_before p k all = rw (take-map assigned_view k all) (any_port p (take k all))

module _ (all : List Assigned) (k : ℕ) (d : Assigned) (lt : k < length all) (keys : List ℕ) (keys_are : keys ≡ ports_of (take k all)) (added : Bool) (tells : added ≡ not (list_any (nat_eq (get_or all k d).port) keys)) where
  -- whether the port of an assignment is new among those before it
  pub new_told : added ≡ is_new_port (map assigned_view all) k (assigned_view (get_or all k d))
  new_told = tells ∙ rw (keys_are, assigned_before (get_or all k d).port k all) refl

  -- the ports with that of the next assignment
  pub ports_more : (new : List ℕ) → new ≡ (if list_any (nat_eq (get_or all k d).port) keys then keys else keys ++ (get_or all k d).port ∷ []) → added ≡ true → new ≡ ports_of (take (k + 1) all)
  ports_more new h fresh = by (list_any (nat_eq (get_or all k d).port) keys) h (sym tells ∙ fresh)
    where
      by : (old : Bool) → new ≡ (if old then keys else keys ++ (get_or all k d).port ∷ []) → not old ≡ true → new ≡ ports_of (take (k + 1) all)
      by true e fresh_one = cc
      by false e fresh_one = e ∙ rw (keys_are, map_more (λ (a : Assigned). a.port) all k d lt) refl
