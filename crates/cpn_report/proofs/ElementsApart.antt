-- The text of a binding element tells it apart from each other one of its net, and from what follows it.
use Rattle.std.proofs.Common.{◌≡◌, ◌∙◌, refl, sym, ap, ap₂, subst, ℕ, ◌<◌, ◌==◌, true, ◌&&◌, nat_lt, List, [], ◌∷◌, ◌++◌, length, map, drop, append_assoc}
use Rattle.std.specs.Prelude.{codes}
use Rattle.std.specs.List.{list_all, flat_map}
use Rattle.std.proofs.lemmas.Bool.{and_parts, and_from, eqb-true, ltb-true}
use Rattle.std.proofs.lemmas.List.{append_cancel_left, append_cancel_right}
use Rattle.cpn_definitions.specs.Value.{PlainValue}
use Rattle.cpn_definitions.specs.Colour.{admits}
use Rattle.cpn_definitions.specs.DistinctNames.{HasDistinctNames, HasWellSpelledNames, is_path_byte}
use Rattle.cpn_definitions.specs.Integers.{HasShortIntegers, is_short}
use Rattle.cpn_definitions.specs.Meaning.{PlainBinding}
use Rattle.cpn_definitions.specs.Named.{is_named}
use Rattle.cpn_definitions.specs.Net.{PlainNet, nothing, variable_at, transition_at}
use Rattle.cpn_definitions.specs.Occurrence.{PlainElement, binds}
use Rattle.cpn_report.specs.Lines.{pair_text, binding_text, element_text}
use Rattle.cpn_report.specs.Printable.{IsPrintableNet, is_binding_element}
use Rattle.cpn_report.specs.Told.{ElementsDiffer}
use Rattle.cpn_report.specs.ValueText.{joined, value_text}
use Rattle.cpn_report.proofs.BytesApart.{bytes_apart, path_bytes}
use Rattle.cpn_report.proofs.JoinedTexts.{joined_after}
use Rattle.cpn_report.proofs.NamesApart.{passes_at, transition_is_path, one_transition}
use Rattle.cpn_report.proofs.PrintableNets.{variables_declared}
use Rattle.cpn_report.proofs.ValuesApart.{Stops, IsFit, value_apart}

-- pairs with a comma and a space before each
abbrev later : PlainNet → PlainBinding → List ℕ
later n b = flat_map (λ t. codes ", " ++ t) (map (pair_text n) b)

-- after a pair comes a comma or the end
later_stops : (n : PlainNet) (b : PlainBinding) (r : List ℕ) → Stops (later n b ++ (125 ∷ r))
later_stops n [] r = refl
later_stops n (pair ∷ pairs) r = refl

module _ (n : PlainNet) (distinct : HasDistinctNames n) (spelled : HasWellSpelledNames n) (short : HasShortIntegers n) (net : IsPrintableNet n) where
  variable_fits : (x : ℕ) → x < length n.variables → IsFit n (variable_at n x).colour.shape
  variable_fits x lt = record {
    named = passes_at (is_named n) n.variables x nothing net.named.variables_named lt;
    short = passes_at is_short n.variables x nothing short.variables_short lt;
  }

  -- two values of a variable
  values_of_one : (x : ℕ) (v w : PlainValue) (r t : List ℕ) → x < length n.variables → admits (variable_at n x).colour v ≡ true → admits (variable_at n x).colour w ≡ true → Stops r → Stops t → pair_text n (x, v) ++ r ≡ pair_text n (x, w) ++ t → (v ≡ w) × (r ≡ t)
  values_of_one x v w r t lt has other sr st e =
      let name = (variable_at n x).name in
      let own = value_text n (variable_at n x).colour v in
      let its = value_text n (variable_at n x).colour w in
      let values = append_cancel_left (name ++ codes "=") (own ++ r) (its ++ t) (sym (append_assoc (name ++ codes "=") own r) ∙ e ∙ append_assoc (name ++ codes "=") its t) in
      value_apart n distinct spelled v (variable_at n x).colour.shape w r t (variable_fits x lt) has other sr st values

  -- two pairs of a variable
  pair_apart : (x : ℕ) (p q : ℕ × PlainValue) (r t : List ℕ) → x < length n.variables → ((x == p.0) && admits (variable_at n x).colour p.1) ≡ true → ((x == q.0) && admits (variable_at n x).colour q.1) ≡ true → Stops r → Stops t → pair_text n p ++ r ≡ pair_text n q ++ t → (p ≡ q) × (r ≡ t)
  pair_apart x p q r t lt own its sr st e =
      let has = and_parts (x == p.0) (admits (variable_at n x).colour p.1) own in
      let other = and_parts (x == q.0) (admits (variable_at n x).colour q.1) its in
      let first : x ≡ p.0 = eqb-true x p.0 has.0 in
      let second : x ≡ q.0 = eqb-true x q.0 other.0 in
      let texts = ap (λ y. pair_text n (y, p.1) ++ r) first ∙ e ∙ ap (λ y. pair_text n (y, q.1) ++ t) (sym second) in
      let apart = values_of_one x p.1 q.1 r t lt has.1 other.1 sr st texts in
      (ap₂ (λ y v. (y, v)) (sym first ∙ second) apart.0, apart.1)

  -- two bindings of the same variables: the pairs after the first, up to the brace
  later_apart : (xs : List ℕ) (b c : PlainBinding) (r t : List ℕ) → list_all (λ x. nat_lt x (length n.variables)) xs ≡ true → binds n xs b ≡ true → binds n xs c ≡ true → later n b ++ (125 ∷ r) ≡ later n c ++ (125 ∷ t) → (b ≡ c) × (r ≡ t)
  later_apart [] [] [] r t declared own its e = (refl, ap (drop 1) e)
  later_apart (x ∷ xs) (p ∷ ps) (q ∷ qs) r t declared own its e =
      let known = and_parts (nat_lt x (length n.variables)) (list_all (λ y. nat_lt y (length n.variables)) xs) declared in
      let has = and_parts ((x == p.0) && admits (variable_at n x).colour p.1) (binds n xs ps) own in
      let other = and_parts ((x == q.0) && admits (variable_at n x).colour q.1) (binds n xs qs) its in
      let texts = sym (append_assoc (pair_text n p) (later n ps) (125 ∷ r)) ∙ ap (drop 2) e ∙ append_assoc (pair_text n q) (later n qs) (125 ∷ t) in
      let one = pair_apart x p q (later n ps ++ (125 ∷ r)) (later n qs ++ (125 ∷ t)) (ltb-true x (length n.variables) known.0) has.0 other.0 (later_stops n ps r) (later_stops n qs t) texts in
      let rest = later_apart xs ps qs r t known.1 has.1 other.1 one.1 in
      (ap₂ (λ y ys. y ∷ ys) one.0 rest.0, rest.1)
  later_apart xs b c r t declared own its e = absurd cc

  -- all of them
  pairs_apart : (xs : List ℕ) (b c : PlainBinding) (r t : List ℕ) → list_all (λ x. nat_lt x (length n.variables)) xs ≡ true → binds n xs b ≡ true → binds n xs c ≡ true → joined (codes ", ") (map (pair_text n) b) ++ (125 ∷ r) ≡ joined (codes ", ") (map (pair_text n) c) ++ (125 ∷ t) → (b ≡ c) × (r ≡ t)
  pairs_apart [] [] [] r t declared own its e = (refl, ap (drop 1) e)
  pairs_apart (x ∷ xs) (p ∷ ps) (q ∷ qs) r t declared own its e =
      let first = ap (λ text. text ++ (125 ∷ r)) (joined_after (codes ", ") (pair_text n p) (map (pair_text n) ps)) in
      let second = ap (λ text. text ++ (125 ∷ t)) (joined_after (codes ", ") (pair_text n q) (map (pair_text n) qs)) in
      later_apart (x ∷ xs) (p ∷ ps) (q ∷ qs) r t declared own its (ap (λ text. 44 ∷ 32 ∷ text) (sym first ∙ e ∙ second))
  pairs_apart xs b c r t declared own its e = absurd cc

  binding_apart : (xs : List ℕ) (b c : PlainBinding) (r t : List ℕ) → list_all (λ x. nat_lt x (length n.variables)) xs ≡ true → binds n xs b ≡ true → binds n xs c ≡ true → binding_text n b ++ r ≡ binding_text n c ++ t → (b ≡ c) × (r ≡ t)
  unfolding binding_text
  binding_apart xs b c r t declared own its e =
      let first = joined (codes ", ") (map (pair_text n) b) in
      let second = joined (codes ", ") (map (pair_text n) c) in
      pairs_apart xs b c r t declared own its (sym (append_assoc first (codes "}") r) ∙ ap (drop 1) e ∙ append_assoc second (codes "}") t)

  -- the transitions of two elements are the same, and the texts of their bindings with what follows
  transitions_apart : (e f : PlainElement) (r t : List ℕ) → e.transition < length n.transitions → f.transition < length n.transitions → element_text n e ++ r ≡ element_text n f ++ t → (e.transition ≡ f.transition) × (binding_text n e.binding ++ r ≡ binding_text n f.binding ++ t)
  unfolding element_text binding_text
  transitions_apart e f r t le lf is =
      let own = (transition_at n e.transition).name in
      let its = (transition_at n f.transition).name in
      let apart = bytes_apart is_path_byte (own ++ codes " ") (its ++ codes " ") (binding_text n e.binding ++ r) (binding_text n f.binding ++ t)
      (path_with_space own (path_bytes own (transition_is_path n spelled e.transition le))) (path_with_space its (path_bytes its (transition_is_path n spelled f.transition lf))) refl refl
      (sym (append_assoc (own ++ codes " ") (binding_text n e.binding) r) ∙ is ∙ append_assoc (its ++ codes " ") (binding_text n f.binding) t) in
      (one_transition n distinct e.transition f.transition le lf (append_cancel_right own its (codes " ") apart.0), apart.1)
    where
      path_with_space : (name : List ℕ) → list_all is_path_byte name ≡ true → list_all is_path_byte (name ++ codes " ") ≡ true
      path_with_space [] all = refl
      path_with_space (c ∷ cs) all = let parts = and_parts (is_path_byte c) (list_all is_path_byte cs) all in and_from (is_path_byte c) (list_all is_path_byte (cs ++ codes " ")) parts.0 (path_with_space cs parts.1)

  -- an element and what follows it
  pub element_apart : (e f : PlainElement) (r t : List ℕ) → is_binding_element n e ≡ true → is_binding_element n f ≡ true → element_text n e ++ r ≡ element_text n f ++ t → (e ≡ f) × (r ≡ t)
  element_apart e f r t own its is =
      let has = and_parts (nat_lt e.transition (length n.transitions)) (binds n (transition_at n e.transition).vars e.binding) own in
      let other = and_parts (nat_lt f.transition (length n.transitions)) (binds n (transition_at n f.transition).vars f.binding) its in
      let le = ltb-true e.transition (length n.transitions) has.0 in
      let apart = transitions_apart e f r t le (ltb-true f.transition (length n.transitions) other.0) is in
      let binds_same = subst (λ k. binds n (transition_at n k).vars f.binding ≡ true) (sym apart.0) other.1 in
      let bindings = binding_apart (transition_at n e.transition).vars e.binding f.binding r t (variables_declared n e.transition net.sound le) has.1 binds_same apart.1 in
      (ap₂ (λ k b. record { transition = k; binding = b }) apart.0 bindings.0, bindings.1)

pub elements_differ : ElementsDiffer
elements_differ n e f telling own its is = (element_apart n telling.distinct telling.spelled telling.short telling.printable e f [] [] own its (ap (λ t. t ++ []) is)).0
