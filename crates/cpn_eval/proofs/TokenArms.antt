-- The first arm over tokens that a value fits.
use Rattle.std.proofs.Common.{◌≡◌, ℕ, suc, ◌+◌, ◌<◌, List, [], ◌∷◌, ◌++◌, length, get_or, drop, drop-cons, add-one, Some, None, refl, sym, ap, ◌∙◌}
use Rattle.cpn_definitions.specs.Value.{PlainValue}
use Rattle.cpn_definitions.specs.Colour.{PlainColour}
use Rattle.cpn_definitions.specs.Matching.{matched}
use Rattle.cpn_definitions.specs.Meaning.{Setting, arm_or}
use Rattle.cpn_definitions.specs.Terms.{terms_behind}
use Rattle.cpn_core.specs.declared.inscriptions.MArm.{MArm}
use Rattle.cpn_core.specs.Inscriptions.{pattern_view, multiset_view}
use Rattle.cpn_eval.specs.Answers.{with_front}
use Rattle.cpn_eval.specs.Arms.{among}
use Rattle.cpn_core.proofs.InscriptionLevels.{tokens_arm}
use Rattle.cpn_eval.proofs.Turns.{arm_found, arm_missed}

-- the arms from an index on give what the one there gives, or those after it
arms_split
    : (arms : List MArm) (i : ℕ) (arm : MArm) (v : PlainValue) (colour : PlainColour) (s : Setting) (locals : List PlainValue) (before : ℕ)
    → i < length arms
    → arm ≡ get_or arms i arm
    → among (drop i arms) v colour s locals before ≡ arm_or (matched (pattern_view arm.pat) v) (λ vs. terms_behind (multiset_view arm.result) colour s (locals ++ vs) before) (among (drop (i + 1) arms) v colour s locals before)
arms_split arms i arm v colour s locals before hi ha =
    let split : drop i arms ≡ arm ∷ drop (i + 1) arms = rw add-one (drop-cons arms i arm hi ∙ ap (λ x. x ∷ drop (suc i) arms) (sym ha)) in
    rw (split, tokens_arm arm) refl

same_arm : (arms : List MArm) (i : ℕ) (arm other : MArm) → i < length arms → arm ≡ get_or arms i arm → other ≡ get_or arms i other → arm ≡ other
same_arm arms i arm other hi ha ho =
    let first : drop i arms ≡ arm ∷ drop (suc i) arms = drop-cons arms i arm hi ∙ ap (λ x. x ∷ drop (suc i) arms) (sym ha) in
    let second : drop i arms ≡ other ∷ drop (suc i) arms = drop-cons arms i other hi ∙ ap (λ x. x ∷ drop (suc i) arms) (sym ho) in
    cc

pub arm_taken
    : (arms : List MArm) (i : ℕ) (here arm : MArm) (v : PlainValue) (found : List PlainValue) (colour : PlainColour) (s : Setting) (locals : List PlainValue) (before : ℕ)
    → i < length arms
    → here ≡ get_or arms i here
    → arm ≡ get_or arms i arm
    → with_front [] (matched (pattern_view here.pat) v) ≡ Some found
    → among (drop i arms) v colour s locals before ≡ terms_behind (multiset_view arm.result) colour s (locals ++ found) before
arm_taken arms i here arm v found colour s locals before hi hh ha hb =
    arms_split arms i here v colour s locals before hi hh
    ∙ arm_found (matched (pattern_view here.pat) v) found (λ vs. terms_behind (multiset_view here.result) colour s (locals ++ vs) before) (among (drop (i + 1) arms) v colour s locals before) hb
    ∙ ap (λ x. terms_behind (multiset_view x.result) colour s (locals ++ found) before) (same_arm arms i here arm hi hh ha)

pub arm_passed
    : (arms : List MArm) (i : ℕ) (here : MArm) (v : PlainValue) (colour : PlainColour) (s : Setting) (locals : List PlainValue) (before : ℕ)
    → i < length arms
    → here ≡ get_or arms i here
    → with_front [] (matched (pattern_view here.pat) v) ≡ None
    → among (drop i arms) v colour s locals before ≡ among (drop (i + 1) arms) v colour s locals before
arm_passed arms i here v colour s locals before hi hh hb =
    arms_split arms i here v colour s locals before hi hh
    ∙ arm_missed (matched (pattern_view here.pat) v) (λ vs. terms_behind (multiset_view here.result) colour s (locals ++ vs) before) (among (drop (i + 1) arms) v colour s locals before) hb
