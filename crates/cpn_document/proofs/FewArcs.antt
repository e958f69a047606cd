-- Where the rules of documents are kept, no transition has too many arcs.
use Rattle.std.proofs.Common.{◌≡◌, ℕ, suc, ◌≤◌, Bool, true, false, nat_le, List, [], ◌∷◌, ◌++◌, map, refl, leb-true}
use Rattle.std.specs.Prelude.{Option, Some, None, codes}
use Rattle.std.specs.List.{AllByRecursion}
use Rattle.std.specs.Option.{option_or}
use Rattle.std.proofs.lemmas.Bool.{and_parts}
use Rattle.serde_json.specs.Data.{Data}
use Rattle.cpn_document.specs.Refusals.{FormRefusal}
use Rattle.cpn_document.specs.Rules.{first_broken}
use Rattle.cpn_document.specs.Parts.{text_at, items_at, names_in, each_named, limit_rules}
use Rattle.cpn_document.specs.Document.{RawArc, arcs_at, most_arcs, have_few_arcs, transition_in, arc_in, module_in, document_in, each_module, arcs_rules, module_rules, modules_rules, document_rules}
use Rattle.cpn_document.specs.FewArcs.{HasFewArcs, HaveFewArcs}
use Rattle.cpn_document.specs.declared.refusals.Limit.{Limit}
use Rattle.cpn_document.proofs.BrokenRules.{broken_append}

pub none_parts : (first second : Option FormRefusal) → option_or first second ≡ None → (first ≡ None) × (second ≡ None)
none_parts None second h = (refl, h)
none_parts (Some refusal) second h = cc

pub limit_kept : (few : Bool) (kind : Limit) → first_broken (limit_rules few kind) ≡ None → few ≡ true
unfolding limit_rules first_broken
limit_kept true kind h = refl
limit_kept false kind h = cc

-- each of the transitions has few arcs
few_each : (arcs : List RawArc) (ds : List Data) → have_few_arcs (names_in ds) arcs ≡ true → AllByRecursion (λ transition. arcs_at transition.name arcs ≤ most_arcs) (map transition_in ds)
few_each arcs [] h = tt
few_each arcs (d ∷ ds) h =
    let parts = and_parts (nat_le (arcs_at (text_at (codes "name") d) arcs) most_arcs) (have_few_arcs (names_in ds) arcs) h in
    (leb-true _ _ parts.0, few_each arcs ds parts.1)

arcs_few : (version m : ℕ) (d : Data) → first_broken (arcs_rules version m (names_in (items_at (codes "transitions") d)) d) ≡ None → have_few_arcs (names_in (items_at (codes "transitions") d)) (map arc_in (items_at (codes "arcs") d)) ≡ true
unfolding arcs_rules
arcs_few version m d h = let k = simp broken_append at h in limit_kept _ _ (none_parts _ _ k).1

module_few : (version m : ℕ) (earlier : List (List ℕ)) (d : Data) → first_broken (module_rules version m earlier d) ≡ None → HasFewArcs (module_in d)
unfolding module_rules
module_few version m earlier d h =
    let k = simp broken_append at h in
    few_each (map arc_in (items_at (codes "arcs") d)) (items_at (codes "transitions") d) (arcs_few version m d (none_parts _ _ (none_parts _ _ k).0).1)

modules_few : (version i : ℕ) (earlier : List (List ℕ)) (ds : List Data) → first_broken (each_named (module_rules version) i earlier ds) ≡ None → AllByRecursion HasFewArcs (map module_in ds)
unfolding each_named
modules_few version i earlier [] h = tt
modules_few version i earlier (d ∷ ds) h =
    let k = none_parts _ _ (simp broken_append at h) in
    (module_few version i earlier d k.0, modules_few version (suc i) (earlier ++ text_at (codes "name") d ∷ []) ds k.1)

each_few : (version : ℕ) (ds : List Data) → first_broken (each_module version ds) ≡ None → AllByRecursion HasFewArcs (map module_in ds)
unfolding each_module
each_few version ds h = modules_few version 0 [] ds h

list_few : (version : ℕ) (d : Data) → first_broken (modules_rules version d) ≡ None → AllByRecursion HasFewArcs (map module_in (items_at (codes "modules") d))
unfolding modules_rules
list_few version d h = let k = simp broken_append at h in each_few version (items_at (codes "modules") d) (none_parts _ _ k).1

-- No transition of a document that keeps the rules has too many arcs.
pub document_few : (version : ℕ) (d : Data) → first_broken (document_rules version d) ≡ None → HaveFewArcs (document_in d)
unfolding document_rules
document_few version d h =
    let k = simp broken_append at h in
    list_few version d (none_parts _ _ (none_parts _ _ (none_parts _ _ (none_parts _ _ k).0).0).0).1
