-- Where the rules of documents are kept, the first phase starts from the initial marking.
use Rattle.std.proofs.Common.{◌≡◌, ℕ, Bool, true, false, ◌||◌, List, [], ◌∷◌, map, refl, sym, subst}
use Rattle.std.specs.Prelude.{None, codes}
use Rattle.std.specs.Str.{bytes_eq}
use Rattle.std.proofs.lemmas.Slice.Eq.{bytes_eq-Decides}
use Rattle.serde_json.specs.Data.{Data}
use Rattle.cpn_document.specs.Rules.{first_broken, each_item}
use Rattle.cpn_document.specs.Parts.{is_one_of, text_at, items_at, word_rules}
use Rattle.cpn_document.specs.Phases.{start_of, phase_in, phase_rules, each_phase, phases_rules, StartInitially}
use Rattle.cpn_document.specs.Document.{document_in, document_rules}
use Rattle.cpn_document.specs.declared.document.Start.TheVariants as starts
use Rattle.cpn_document.specs.declared.pointers.Pointer.{Pointer}
use Rattle.cpn_document.proofs.BrokenRules.{broken_append}
use Rattle.cpn_document.proofs.FewArcs.{none_parts}
use Rattle.cpn_document.proofs.WellNamed.{one_kept}

-- one word is the only one of a list of itself
the_word : (text word : List ℕ) → is_one_of text (word ∷ []) ≡ true → text ≡ word
the_word text word h = (bytes_eq-Decides text word).0 (first (bytes_eq text word) h)
  where
    first : (b : Bool) → (b || false) ≡ true → b ≡ true
    first true e = refl
    first false e = cc

word_kept : (word key : List ℕ) (whole here : Pointer) (d : Data) → first_broken (word_rules (word ∷ []) key whole here d) ≡ None → text_at key d ≡ word
unfolding word_rules
word_kept word key whole here d h = let k = simp broken_append at h in the_word (text_at key d) word (one_kept _ _ (none_parts _ _ k).1)

starts_initially : start_of (codes "initial") ≡ starts.Initial
unfolding start_of
starts_initially = refl

first_phase : (version : ℕ) (d : Data) → first_broken (phase_rules version 0 d) ≡ None → (phase_in d).start ≡ starts.Initial
unfolding phase_rules
first_phase version d h =
    let k = simp broken_append at h in
    let word = word_kept (codes "initial") (codes "start") _ _ d (none_parts _ _ (none_parts _ _ (none_parts _ _ k).0).0).1 in
    subst (λ (text : List ℕ). start_of text ≡ starts.Initial) (sym word) starts_initially

phases_start : (version : ℕ) (ds : List Data) → first_broken (each_phase version ds) ≡ None → StartInitially (map phase_in ds)
unfolding each_phase each_item
phases_start version [] h = tt
phases_start version (d ∷ ds) h = first_phase version d (none_parts _ _ (simp broken_append at h)).0

list_starts : (version : ℕ) (d : Data) → first_broken (phases_rules version d) ≡ None → StartInitially (document_in d).phases
unfolding phases_rules
list_starts version d h = let k = simp broken_append at h in phases_start version (items_at (codes "phases") d) (none_parts _ _ k).1

-- The first phase of a document that keeps the rules, if it has any, starts from the initial marking.
pub document_starts : (version : ℕ) (d : Data) → first_broken (document_rules version d) ≡ None → StartInitially (document_in d).phases
unfolding document_rules
document_starts version d h = list_starts version d (none_parts _ _ (simp broken_append at h)).1
