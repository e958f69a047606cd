-- The numbers of the names that are kept, with one more and without the last.
use Rattle.std.proofs.Common.{◌≡◌, ◌∙◌, ℕ, ◌<◌, Bool, true, false, cond, if◌then◌else◌, List, [], ◌∷◌, ◌++◌, length, refl, sym, ap, subst, arith, String, string_bytes}
use Rattle.std.specs.Prelude.{Option, Some, None}
use Rattle.std.specs.Option.{option_or, option_eq, unwrap_or}
use Rattle.std.specs.BTreeMap.{BTreeMap, get_by_text, UpdatesBy, Updates}
use Rattle.std.specs.Cmp.Lexicographic.{slice_cmp}
use Rattle.std.specs.Ordering.{nat_cmp}
use Rattle.std.specs.Str.{bytes_eq}
use Rattle.std.specs.String.{string_cmp}
use Rattle.std.specs.declared.alloc.Global.{Global}
use Rattle.std.proofs.Math.Dec.{eqb}
use Rattle.std.proofs.lemmas.Bool.{eqb-true, eq-eqb}
use Rattle.std.proofs.lemmas.Cmp.{nat_list_eq_equiv}
use Rattle.std.proofs.lemmas.List.{map-append, length-map}
use Rattle.std.proofs.lemmas.Map.Text.{btree_map_updates_text}
use Rattle.std.proofs.lemmas.Slice.Eq.{bytes_eq-Decides}
use Rattle.cpn_names.specs.Names.{number_of}
use Rattle.cpn_names.specs.Named.{entries_of, names_of, AreNumbered}
use Rattle.cpn_names.proofs.FirstOfNames.{number_below}
use Rattle.cpn_names.proofs.NameNumbers.{number_more, one_more}

module _ (name : List ℕ) (names : List (List ℕ)) (old new : BTreeMap (String Global) ℕ) where
  -- one name more
  pub numbered_more : (first : ℕ) → AreNumbered names old → first ≡ unwrap_or (get_by_text old name) (length names) → UpdatesBy string_cmp (λ k. slice_cmp nat_cmp name (string_bytes k)) old new (Some first) → AreNumbered (names ++ name ∷ []) new
  numbered_more first known is_first updates q =
      btree_map_updates_text name old new (Some first) updates q ∙ rw (known q) (one_more q name names first (is_first ∙ ap (λ o. unwrap_or o (length names)) (known name)))

  -- the last name, which is its first place too
  module _ (known : AreNumbered (names ++ name ∷ []) old) where
    alone_there : number_of name (names ++ name ∷ []) ≡ Some (length names) → number_of name names ≡ None
    alone_there h = by (number_of name names) refl (sym (number_more name name names) ∙ h)
      where
        by : (o : Option ℕ) → number_of name names ≡ o → option_or o (if bytes_eq name name then Some (length names) else None) ≡ Some (length names) → o ≡ None
        by None e g = refl
        by (Some k) e g =
            let below : k < length names = number_below name names k e in
            let same : k ≡ length names = cc g in
            absurd (omega (arith, below, same))

    pub numbered_less : get_by_text old name ≡ Some (length names) → UpdatesBy string_cmp (λ k. slice_cmp nat_cmp name (string_bytes k)) old new None → AreNumbered names new
    numbered_less last updates q =
        btree_map_updates_text name old new None updates q ∙ rw (known q, number_more q name names, nat_list_eq_equiv.symm q name) (by (bytes_eq name q) same)
      where
        same : bytes_eq name q ≡ true → number_of q names ≡ None
        same h = ap (λ n. number_of n names) (sym ((bytes_eq-Decides name q).0 h)) ∙ alone_there (sym (known name) ∙ last)

        by : (b : Bool) → (b ≡ true → number_of q names ≡ None) → cond b None (option_or (number_of q names) (if b then Some (length names) else None)) ≡ number_of q names
        by true h = sym (h refl)
        by false h = by_number (number_of q names)
          where
            by_number : (o : Option ℕ) → option_or o None ≡ o
            by_number None = refl
            by_number (Some k) = refl

-- the last name, which stands before too
pub numbered_still : (name : List ℕ) (names : List (List ℕ)) (numbers : BTreeMap (String Global) ℕ) → AreNumbered (names ++ name ∷ []) numbers → (get_by_text numbers name ≡ Some (length names) → ⊥) → AreNumbered names numbers
numbered_still name names numbers known still q = known q ∙ number_more q name names ∙ by (bytes_eq q name) refl (number_of q names) refl
  where
    by : (b : Bool) → bytes_eq q name ≡ b → (o : Option ℕ) → number_of q names ≡ o → option_or o (if b then Some (length names) else None) ≡ o
    by b e (Some k) is = refl
    by false e None is = refl
    by true e None is = absurd (still (known name ∙ number_more name name names ∙ ap (λ n. option_or (number_of n names) (if bytes_eq name n then Some (length names) else None)) (sym same) ∙ here))
      where
        same : q ≡ name
        same = (bytes_eq-Decides q name).0 e

        here : option_or (number_of q names) (if bytes_eq name q then Some (length names) else None) ≡ Some (length names)
        here = rw (is, nat_list_eq_equiv.symm name q, e) refl

-- the names of one thing more
pub names_with : {X : Type 0} (es : List (String Global × X)) (e : String Global × X) → names_of (entries_of (es ++ e ∷ [])) ≡ names_of (entries_of es) ++ string_bytes e.0 ∷ []
names_with {X} es e =
    ap names_of (map-append {B = List ℕ × X} (λ (d : String Global × X). (string_bytes d.0, d.1)) es (e ∷ []))
    ∙ map-append {A = List ℕ × X} (λ (d : List ℕ × X). d.0) (entries_of es) ((string_bytes e.0, e.1) ∷ [])

-- there are as many names as things
pub names_length : {X : Type 0} (es : List (String Global × X)) → length (names_of (entries_of es)) ≡ length es
names_length {X} es = length-map (entries_of es) (λ (d : List ℕ × X). d.0) ∙ length-map {B = List ℕ × X} es (λ (d : String Global × X). (string_bytes d.0, d.1))

-- the test of what a map answers
is_number : (o : Option ℕ) (n : ℕ) → option_eq eqb o (Some n) ≡ true → o ≡ Some n
is_number None n h = cc
is_number (Some k) n h = ap Some (eqb-true k n h)

no_number : (o : Option ℕ) (n : ℕ) → option_eq eqb o (Some n) ≡ false → o ≡ Some n → ⊥
no_number None n h is = cc
no_number (Some k) n h is = let same : k ≡ n = cc is in let yes = eq-eqb k n same in cc

module _ {X : Type 0} (old new : List (String Global × X)) (text : String Global) (x : X) (numbers numbers' : BTreeMap (String Global) ℕ) where
  -- a thing more, under its name
  pub pushed : (name : List ℕ) (key : String Global) (first : ℕ) → string_bytes text ≡ name → string_bytes key ≡ name → new ≡ old ++ (text, x) ∷ [] → AreNumbered (names_of (entries_of old)) numbers → first ≡ unwrap_or (get_by_text numbers name) (length old)
      → Updates string_cmp numbers numbers' key (Some first) → AreNumbered (names_of (entries_of new)) numbers'
  pushed name key first text_is key_is is known is_first updates =
      subst (λ ns. AreNumbered ns numbers') (sym names_are)
      (numbered_more (string_bytes key) (names_of (entries_of old)) numbers numbers' first known
      (is_first ∙ ap (λ n. unwrap_or (get_by_text numbers n) (length old)) (sym key_is) ∙ ap (unwrap_or (get_by_text numbers (string_bytes key))) (sym (names_length old))) updates)
    where
      names_are : names_of (entries_of new) ≡ names_of (entries_of old) ++ string_bytes key ∷ []
      names_are = ap (λ es. names_of (entries_of es)) is ∙ names_with old (text, x) ∙ ap (λ n. names_of (entries_of old) ++ n ∷ []) (text_is ∙ sym key_is)

  -- a thing less, and what the map answers for its name
  module _ (is : old ≡ new ++ (text, x) ∷ []) (known : AreNumbered (names_of (entries_of old)) numbers) (name : List ℕ) (name_is : name ≡ string_bytes text) (answer : Option ℕ) (answers : answer ≡ get_by_text numbers name) (count : ℕ) (counts : count ≡ length new) where
    known_last : AreNumbered (names_of (entries_of new) ++ name ∷ []) numbers
    known_last = subst (λ ns. AreNumbered ns numbers) (ap (λ es. names_of (entries_of es)) is ∙ names_with new (text, x) ∙ ap (λ n. names_of (entries_of new) ++ n ∷ []) (sym name_is)) known

    many : count ≡ length (names_of (entries_of new))
    many = counts ∙ sym (names_length new)

    pub popped : option_eq eqb answer (Some count) ≡ true → UpdatesBy string_cmp (λ k. slice_cmp nat_cmp name (string_bytes k)) numbers numbers' None → AreNumbered (names_of (entries_of new)) numbers'
    popped h updates = numbered_less name (names_of (entries_of new)) numbers numbers' known_last (sym answers ∙ is_number answer count h ∙ ap Some many) updates

    pub popped_again : option_eq eqb answer (Some count) ≡ false → AreNumbered (names_of (entries_of new)) numbers
    popped_again h = numbered_still name (names_of (entries_of new)) numbers known_last (λ last. no_number answer count h (answers ∙ last ∙ ap Some (sym many)))
