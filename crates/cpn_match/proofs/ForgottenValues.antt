-- Values are forgotten pair by pair; and what an extension added is forgotten.
use Rattle.std.proofs.Common.{◌≡◌, ℕ, zero, suc, ◌+◌, ◌<◌, min, Bool, if◌then◌else◌, List, [], ◌∷◌, ◌++◌, length, take, drop, get_or, slice_set, Option, Some, None, refl, sym, ap, ap₂, ◌∙◌, arith, add-one}
use Rattle.std.specs.Option.{is_some}
use Rattle.cpn_definitions.specs.Value.{PlainValue}
use Rattle.cpn_core.specs.declared.values.Value.{Value}
use Rattle.cpn_stages.specs.Partial.{PlainPartial, IsKept, Extends}
use Rattle.cpn_match.specs.declared.partials.PartialPair.{PartialPair}
use Rattle.cpn_match.specs.Pairs.{option_view, pair_view, pairs_view}
use Rattle.cpn_match.specs.Indices.{known_in, forgotten}

-- the pairs up to an index as they are, and the others without what is not known
abbrev pub so_far : List Bool → List PartialPair → ℕ → PlainPartial
so_far known pairs i = pairs_view (take i pairs) ++ forgotten (drop i known) (pairs_view (drop i pairs))

gone_through : (known : List Bool) (pairs : List PartialPair) (i : ℕ) (k : Bool) (p : PartialPair) (slot : Option Value) → i < length pairs → i < length known → k ≡ get_or known i k → p ≡ get_or pairs i p → option_view slot ≡ (if k then option_view p.value else None)
    → so_far known pairs i ≡ so_far known (slice_set pairs i (record { variable = p.variable; value = slot })) (suc i)
gone_through known [] i k p slot lp lk ek ep is = absurd (omega arith)
gone_through [] (q ∷ pairs) i k p slot lp lk ek ep is = absurd (omega arith)
gone_through (l ∷ known) (q ∷ pairs) zero k p slot lp lk ek ep is = rw (is, ek, ep) refl
gone_through (l ∷ known) (q ∷ pairs) (suc i) k p slot lp lk ek ep is = ap (λ (b : PlainPartial). pair_view q ∷ b) (gone_through known pairs i k p slot (omega arith) (omega arith) ek ep is)

pub one_more : (known : List Bool) (pairs : List PartialPair) (i : ℕ) (k : Bool) (p : PartialPair) (slot : Option Value) (whole : PlainPartial) → i < length pairs → i < length known → k ≡ get_or known i k → p ≡ get_or pairs i p → option_view slot ≡ (if k then option_view p.value else None)
    → whole ≡ so_far known pairs i → whole ≡ so_far known (slice_set pairs i (record { variable = p.variable; value = slot })) (i + 1)
one_more known pairs i k p slot whole lp lk ek ep is so = rw add-one (so ∙ gone_through known pairs i k p slot lp lk ek ep is)

end_here : (known : List Bool) (pairs : List PartialPair) (i : ℕ) → i ≡ min (length pairs) (length known) → so_far known pairs i ≡ pairs_view pairs
end_here [] [] i e = let z : i ≡ 0 = omega arith in rw z refl
end_here (k ∷ known) [] i e = let z : i ≡ 0 = omega arith in rw z refl
end_here [] (q ∷ pairs) i e = let z : i ≡ 0 = omega arith in rw z refl
end_here (k ∷ known) (q ∷ pairs) zero e = let no : ⊥ = omega arith in absurd no
end_here (k ∷ known) (q ∷ pairs) (suc i) e = ap (λ (b : PlainPartial). pair_view q ∷ b) (end_here known pairs i (omega arith))

pub all_gone_through : (known : List Bool) (pairs : List PartialPair) (i : ℕ) (whole : PlainPartial) → i ≡ min (length pairs) (length known) → whole ≡ so_far known pairs i → pairs_view pairs ≡ whole
all_gone_through known pairs i whole e so = sym (so ∙ end_here known pairs i e)

-- ---- what an extension added

kept_or_none : (o w : Option PlainValue) → IsKept o w → (if is_some o then w else None) ≡ o
kept_or_none None w is = refl
kept_or_none (Some v) w is = is

-- without what was not known before, an extension is what it extends
pub extension_forgotten : (b c : PlainPartial) → Extends b c → forgotten (known_in b) c ≡ b
extension_forgotten [] [] is = refl
extension_forgotten [] (q ∷ c) is = absurd is
extension_forgotten (p ∷ b) [] is = absurd is
extension_forgotten (p ∷ b) (q ∷ c) is = ap₂ (λ (pair : ℕ × Option PlainValue) (rest : PlainPartial). pair ∷ rest) (ap₂ (λ (x : ℕ) (o : Option PlainValue). (x, o)) is.0 (kept_or_none p.1 q.1 is.1)) (extension_forgotten b c is.2)

pub all_forgotten : (b c d : PlainPartial) (known : List Bool) → known ≡ known_in b → Extends b c → d ≡ forgotten known c → d ≡ b
all_forgotten b c d known are is made = made ∙ ap (λ (ks : List Bool). forgotten ks c) are ∙ extension_forgotten b c is
