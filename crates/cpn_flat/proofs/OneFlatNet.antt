-- What is accepted of a document means at most one thing.
use Rattle.std.proofs.Common.{◌≡◌, ℕ, zero, suc, ◌+◌, ◌<◌, List, [], ◌∷◌, ◌++◌, length, refl, sym, ap, ◌∙◌, subst, arith}
use Rattle.std.specs.Prelude.{Option, Some, None}
use Rattle.std.specs.List.{AllByRecursion}
use Rattle.std.proofs.lemmas.List.{ext_get_or}
use Rattle.std.proofs.lemmas.List.Elements.{All-contains}
use Rattle.cpn_classes.specs.OneNumbering.{numbering_same}
use Rattle.cpn_definitions.specs.Net.{Coloured, PlainNet, place_at}
use Rattle.cpn_definitions.specs.Outcome.{Outcome, gives, faults, no_meaning}
use Rattle.cpn_definitions.specs.Terms.{PlainTerm, terms_of}
use Rattle.cpn_document.specs.Document.{RawDocument}
use Rattle.cpn_fuse.specs.Compound.{AreCompound, joined_pairs}
use Rattle.cpn_fuse.specs.Instances.{PlainPart, PlainInstance, instance_at, parts_from, ComeFirst, none_yet, one_first, top_of, AreInstances}
use Rattle.cpn_fuse.specs.PlaceInstances.{place_count}
use Rattle.cpn_fuse.specs.Unfolded.{UnfoldingRefusal, IsUnfolded, IsRefusedFor}
use Rattle.cpn_fuse.proofs.InstanceTrees.{instances_come}
use Rattle.cpn_module.specs.Hierarchy.{PlainSubstitution, PlainHierarchy, structure_at}
use Rattle.cpn_accepted.specs.Nets.{Initial, PlainAccepted}
use Rattle.cpn_readings.specs.Relations.{such_that, HasOne}
use Rattle.cpn_readings.proofs.RelatedReadings.{IsOne, just_one, such_one, then_one_at, then_one, each_so_one}
use Rattle.cpn_flat.specs.Refusals.{read, refused, init}
use Rattle.cpn_flat.specs.Names.{joined_name, sub_name_at, name_at, name_where, AreNames}
use Rattle.cpn_flat.specs.Placed.{IsBehind, StandBehind}
use Rattle.cpn_flat.specs.FlatNet.{flat_net}
use Rattle.cpn_flat.specs.InitialMarking.{tokens_of, terms_so, value_so, values_so, IsShared, none_written, all_same, one_differs, evaluated, held_together, started}
use Rattle.cpn_flat.specs.Flat.{IsUnfoldedAs, unfolded, not_unfolded, too_many, all_written, flat_in}

-- ---- instances

-- what waits is part of instances before a number
abbrev AreBefore : ℕ → List PlainInstance → Type 0
AreBefore n waiting = AllByRecursion (λ x. IsBehind n x.part_of) waiting

later_behind : (n : ℕ) (part : Option PlainPart) → IsBehind n part → IsBehind (suc n) part
later_behind n None h = tt
later_behind n (Some part) h = omega (arith, h)

later_before : (n : ℕ) (waiting : List PlainInstance) → AreBefore n waiting → AreBefore (suc n) waiting
later_before n [] h = tt
later_before n (x ∷ waiting) h = (later_behind n x.part_of h.0, later_before n waiting h.1)

parts_before : (n i : ℕ) (subs : List PlainSubstitution) (waiting : List PlainInstance) → AreBefore (suc n) waiting → AreBefore (suc n) (parts_from n i subs ++ waiting)
parts_before n i [] waiting h = h
parts_before n i (sub ∷ subs) waiting h = (omega arith, parts_before n (suc i) subs waiting h)

come_behind : (h : PlainHierarchy) (n : ℕ) (waiting is later : List PlainInstance) → ComeFirst h n waiting is later → AreBefore n waiting → (k : ℕ) → k < length is → IsBehind (n + k) (instance_at is k).part_of
come_behind h n waiting [] later (none_yet n' waiting') before k lt = absurd (omega (arith, lt))
come_behind h n [] (x' ∷ is) later come before k lt = elim come [ ]
come_behind h n (x ∷ waiting) (x' ∷ is) later (one_first n' x'' waiting' is' later' rest) before zero lt = subst (λ m. IsBehind m x.part_of) (let e : n ≡ n + 0 = omega arith in e) before.0
come_behind h n (x ∷ waiting) (x' ∷ is) later (one_first n' x'' waiting' is' later' rest) before (suc k) lt =
    subst (λ m. IsBehind m (instance_at is k).part_of) (let e : suc n + k ≡ n + suc k = omega arith in e)
    (come_behind h (suc n) _ is later rest (parts_before n 0 (structure_at h x.of_module).substitutions waiting (later_before n waiting before.1)) k (let e : k < length is = omega (arith, lt) in e))

-- each instance stands behind the one that it stands in
stand_behind : (h : PlainHierarchy) (is : List PlainInstance) → AreInstances h is → StandBehind is
stand_behind h is are k lt = subst (λ m. IsBehind m (instance_at is k).part_of) (let e : 0 + k ≡ k = omega arith in e) (come_behind h 0 (top_of h ∷ []) is [] (instances_come h is are) (tt, tt) k lt)

-- ---- names

module _ (d : RawDocument) (is : List PlainInstance) (behind : StandBehind is) where
  same_where : (names others : List (List ℕ)) (i : ℕ) (m : ℕ) (part : Option PlainPart) → IsBehind i part → ((j : ℕ) → j < i → name_at names j ≡ name_at others j)
      → name_where d is names (record { of_module = m; part_of = part }) ≡ name_where d is others (record { of_module = m; part_of = part })
  same_where names others i m None lt same = refl
  same_where names others i m (Some part) lt same = ap (λ whole. joined_name whole (sub_name_at d (instance_at is part.instance).of_module part.substitution)) (same part.instance lt)

  -- those of the instances below a number are the same
  same_below : (names others : List (List ℕ)) → AreNames d is names → AreNames d is others → (n i : ℕ) → i < n → i < length is → name_at names i ≡ name_at others i
  same_below names others h k zero i less lt = absurd (omega arith)
  same_below names others h k (suc n) i less lt =
      h.named i lt
      ∙ same_where names others i (instance_at is i).of_module (instance_at is i).part_of (behind i lt) (λ j below. same_below names others h k n j (omega arith) (omega arith))
      ∙ sym (k.named i lt)

  names_one : IsOne (AreNames d is)
  names_one names others h k =
      let as_many : length names ≡ length others = h.each ∙ sym k.each in
      ext_get_or [] names others as_many (λ i lt. same_below names others h k (suc i) i (omega arith) (let e = h.each in omega (arith, e, lt)))

-- ---- initial markings

shared_one : (place : Coloured) (values : List (List PlainTerm)) → HasOne (IsShared place values)
shared_one place [] x y none_written none_written = refl
shared_one place (v ∷ vs) x y (all_same v' vs' h) (all_same v'' vs'' k) = refl
shared_one place (v ∷ vs) x y (all_same v' vs' h) (one_differs v'' vs'' other is_in differs) = absurd (differs (All-contains (λ o. tokens_of place.colour.timed o ≡ tokens_of place.colour.timed v) vs other h is_in))
shared_one place (v ∷ vs) x y (one_differs v' vs' other is_in differs) (all_same v'' vs'' k) = absurd (differs (All-contains (λ o. tokens_of place.colour.timed o ≡ tokens_of place.colour.timed v) vs other k is_in))
shared_one place (v ∷ vs) x y (one_differs v' vs' other is_in differs) (one_differs v'' vs'' other' is_in' differs') = refl

terms_one : (place : Coloured) (o : Outcome (List PlainTerm)) → HasOne (terms_so place o)
terms_one place (gives terms) = just_one (read terms)
terms_one place (faults fault) = just_one (refused (init place.name fault))
terms_one place no_meaning = λ r s h k. absurd h

-- what all are evaluated to
evaluated_one : (n : PlainNet) (written : List (List Initial)) → HasOne (evaluated n written)
evaluated_one n written =
    each_so_one (values_so n) (λ c initials. each_so_one (λ (k : ℕ). value_so n.functions (place_at n c)) (λ k initial. terms_one (place_at n c) (terms_of n.functions initial.expr initial.colour [] 0)) 0 initials) 0 written

held_one : (n : PlainNet) (written : List (List Initial)) → HasOne (held_together n written)
unfolding held_together
held_one n written = then_one (evaluated n written) _ (evaluated_one n written) (λ values. each_so_one (λ c value. IsShared (place_at n c) value) (λ c value. shared_one (place_at n c) value) 0 values)

started_one : (n : PlainNet) (written : List (List Initial)) → HasOne (started n written)
unfolding started
started_one n written r s h k = held_one n written r s h.1 k.1

-- ---- the whole

module _ (h : PlainHierarchy) (one_unfolding : (is is' : List PlainInstance) → AreInstances h is → AreInstances h is' → is ≡ is') (one_refusal : (r s : UnfoldingRefusal) → IsRefusedFor h r → IsRefusedFor h s → r ≡ s)
    (not_both : (is : List PlainInstance) (r : UnfoldingRefusal) → IsUnfolded h is → IsRefusedFor h r → ⊥) where
  pub unfolded_one : HasOne (IsUnfoldedAs h)
  unfolded_one x y (unfolded is u) (unfolded is' u') = ap read (one_unfolding is is' u.instances u'.instances)
  unfolded_one x y (unfolded is u) (not_unfolded r u') = absurd (not_both is r u u')
  unfolded_one x y (not_unfolded r u) (unfolded is u') = absurd (not_both is r u' u)
  unfolded_one x y (not_unfolded r u) (not_unfolded s u') = ap (λ q. refused (too_many q)) (one_refusal r s u u')

module _ (d : RawDocument) (a : PlainAccepted) where
  -- what is accepted of a document means at most one thing, where its hierarchy is unfolded to at most one
  pub flat_one : HasOne (IsUnfoldedAs a.hierarchy) → HasOne (flat_in d a)
  unfolding flat_in
  flat_one unfolds_one =
      then_one_at (IsUnfoldedAs a.hierarchy) _ unfolds_one (λ is is_unfolded. then_one (such_that (AreNames d is)) _ (such_one (AreNames d is) (names_one d is (stand_behind a.hierarchy is (unfolded_as is is_unfolded).instances)))
      (λ names. then_one (such_that (AreCompound a.hierarchy is)) _ (such_one (AreCompound a.hierarchy is) (λ one other h k. numbering_same (place_count a.hierarchy is) (joined_pairs a.hierarchy is) one other h k))
      (λ classes. then_one (started (flat_net a is names classes) (all_written a.modules is classes)) _ (started_one (flat_net a is names classes) (all_written a.modules is classes)) (λ marking. just_one _))))
    where
      unfolded_as : (is : List PlainInstance) → IsUnfoldedAs a.hierarchy (read is) → IsUnfolded a.hierarchy is
      unfolded_as is (unfolded is' u) = u
