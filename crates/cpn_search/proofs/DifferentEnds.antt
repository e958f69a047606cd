-- No two ends of the trials of a transition are the same, since any two of them give some variable different values.
use Rattle.std.proofs.Common.{List, [], ◌∷◌, ◌++◌, refl, sym, subst, inl, inr}
use Rattle.cpn_definitions.proofs.RisingLists.{IsIn, in_from_contains, contains_from_in, in_append_right, of_one_in}
use Rattle.cpn_stages.specs.Partial.{PlainPartial}
use Rattle.cpn_stages.specs.Work.{AllDiffer}
use Rattle.cpn_stages.proofs.ApartEnds.{AreApart, AllApart}
use Rattle.cpn_stages.proofs.Partials.{extends_itself}

pub apart_differ : (bs : List PlainPartial) → AllApart bs → AllDiffer bs
apart_differ [] are = tt
apart_differ (b ∷ bs) are = (λ h. of_one_in (AreApart b) bs b are.0 (in_from_contains bs b h) b (extends_itself b) (extends_itself b), apart_differ bs are.1)

-- one that stands behind others is none of them
pub none_of_front : (bs : List PlainPartial) (b : PlainPartial) (rest : List PlainPartial) → AllDiffer (bs ++ b ∷ rest) → IsIn b bs → ⊥
none_of_front [] b rest are h = absurd h
none_of_front (d ∷ bs) b rest are (inl e) = are.0 (contains_from_in (bs ++ b ∷ rest) d (subst (λ k. IsIn k (bs ++ b ∷ rest)) (sym e) (in_append_right bs (b ∷ rest) b (inl refl))))
none_of_front (d ∷ bs) b rest are (inr h) = none_of_front bs b rest are.1 h
