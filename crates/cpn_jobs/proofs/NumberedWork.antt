-- The work of each transition by its number.
use Rattle.std.proofs.Common.{◌≡◌, ℕ, zero, suc, List, [], ◌∷◌, map, get_or}
use Rattle.std.specs.Prelude.{IfSome, slice_get}
use Rattle.cpn_definitions.specs.Net.{PlainNet, no_transition}
use Rattle.cpn_jobs.specs.Work.{PlainWork, work_by, work_of}

-- where two lists are seen as the same, so are their items
at_number : {A X Y : Type 0} (view : A → Y) (f : X → Y) (ys : List A) (xs : List X) (d : X) → map view ys ≡ map f xs → (t : ℕ) → IfSome (slice_get ys t) (λ y. view y ≡ f (get_or xs t d))
at_number view f [] xs d is t = tt
at_number view f (y ∷ ys) [] d is t = let no : ⊥ = cc in absurd no
at_number view f (y ∷ ys) (x ∷ xs) d is zero = cc
at_number view f (y ∷ ys) (x ∷ xs) d is (suc t) = let rest : map view ys ≡ map f xs = cc in at_number view f ys xs d rest t

pub numbered_work : {A : Type 0} (view : A → PlainWork) (works : List A) (n : PlainNet) → map view works ≡ map (work_by n) n.transitions → (t : ℕ) → IfSome (slice_get works t) (λ work. view work ≡ work_of n t)
numbered_work view works n is t = at_number view (work_by n) works n.transitions no_transition is t
