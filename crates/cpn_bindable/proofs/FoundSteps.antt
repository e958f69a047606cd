-- What is found step by step depends on what is known alone, not on the order in which it is listed.
use Rattle.std.proofs.Common.{◌≡◌, ℕ, zero, suc, ◌+◌, ◌<◌, ◌≤◌, ◌==◌, Bool, true, false, cond, ◌||◌, ◌&&◌, List, [], ◌∷◌, ◌++◌, length, get_or, take, drop, Option, Some, None, refl, sym, ap, ◌∙◌, subst, arith, add-one, drop-cons}
use Rattle.std.specs.List.{list_all, remove}
use Rattle.std.proofs.Math.ListN.{drop_of_length-le}
use Rattle.std.proofs.lemmas.List.{take_more, map-append, take-map, drop-map, length-map}
use Rattle.std.proofs.lemmas.List.Edits.{length-remove}
use Rattle.cpn_typing.specs.Closure.{Equation, with_other, ready_among, stepped, found_in}
use Rattle.cpn_bindable.specs.declared.equations.Equation.{Equation as Pair}
use Rattle.cpn_bindable.specs.Equations.{equation_view, equations_view}
use Rattle.cpn_bindable.specs.Known.{unlisted, is_listed, IsReadyIndex}

-- ---- the same is known

all_same : (f g : ℕ → Bool) → ((x : ℕ) → f x ≡ g x) → (xs : List ℕ) → list_all f xs ≡ list_all g xs
all_same f g same [] = refl
all_same f g same (x ∷ xs) = rw (same x) (ap (λ b. g x && b) (all_same f g same xs))

ready_same : (f g : ℕ → Bool) → ((x : ℕ) → f x ≡ g x) → (qs : List Equation) → ready_among f qs ≡ ready_among g qs
ready_same f g same [] = refl
ready_same f g same (q ∷ qs) = rw (all_same f g same q.sources) (ap (λ o. cond (list_all g q.sources) (Some (q, qs)) (with_other q o)) (ready_same f g same qs))

pub found_same : (k : ℕ) (xs ys : List ℕ) (qs : List Equation) → ((x : ℕ) → is_listed xs x ≡ is_listed ys x) → (x : ℕ) → is_listed (found_in k unlisted xs qs) x ≡ is_listed (found_in k unlisted ys qs) x
found_same zero xs ys qs same x = same x
found_same (suc k) xs ys qs same x = ap (λ o. is_listed (stepped o xs (λ now others. found_in k unlisted now others)) x) (ready_same (is_listed xs) (is_listed ys) same qs) ∙ split (ready_among (is_listed ys) qs) (λ t others. found_same k (t ∷ xs) (t ∷ ys) others (λ y. ap (λ b. (y == t) || b) (same y)) x)
  where
    split : (o : Option (Equation × List Equation)) → ((t : ℕ) (others : List Equation) → is_listed (found_in k unlisted (t ∷ xs) others) x ≡ is_listed (found_in k unlisted (t ∷ ys) others) x)
        → is_listed (stepped o xs (λ now others. found_in k unlisted now others)) x ≡ is_listed (stepped o ys (λ now others. found_in k unlisted now others)) x
    split None rest = same x
    split (Some pair) rest = rest pair.0.target pair.1

-- ---- a step, and the end

pub found_goes : (k : ℕ) (known : List ℕ) (qs others : List Equation) (q : Equation) → ready_among (is_listed known) qs ≡ Some (q, others) → found_in (suc k) unlisted known qs ≡ found_in k unlisted (q.target ∷ known) others
found_goes k known qs others q is = ap (λ o. stepped o known (λ now rest. found_in k unlisted now rest)) is

pub found_ends : (k : ℕ) (known : List ℕ) (qs : List Equation) → ready_among (is_listed known) qs ≡ None → found_in k unlisted known qs ≡ known
found_ends zero known qs is = refl
found_ends (suc k) known qs is = ap (λ o. stepped o known (λ now rest. found_in k unlisted now rest)) is

-- ---- the index of the first that is ready

abbrev pub with_others : List Equation → Option (Equation × List Equation) → Option (Equation × List Equation)
with_others [] o = o
with_others (q ∷ qs) o = with_other q (with_others qs o)

none_behind : (qs : List Equation) → with_others qs None ≡ None
none_behind [] = refl
none_behind (q ∷ qs) = rw (none_behind qs) refl

one_behind : (qs rest : List Equation) (q : Equation) → with_others qs (Some (q, rest)) ≡ Some (q, qs ++ rest)
one_behind [] rest q = refl
one_behind (p ∷ qs) rest q = rw (one_behind qs rest q) refl

one_later : (qs : List Equation) (q : Equation) (o : Option (Equation × List Equation)) → with_others (qs ++ q ∷ []) o ≡ with_others qs (with_other q o)
one_later [] q o = refl
one_later (p ∷ qs) q o = ap (with_other p) (one_later qs q o)

-- the equations from an index on, in the program's data
from_index : (es : List Pair) (i : ℕ) (e : Pair) → i < length es → e ≡ get_or es i e → drop i es ≡ e ∷ drop (i + 1) es
from_index es i e lt at = rw (add-one, drop-cons es i e lt, ← at) refl

up_to_index : (es : List Pair) (i : ℕ) (e : Pair) → i < length es → e ≡ get_or es i e → take (i + 1) es ≡ take i es ++ e ∷ []
up_to_index es i e lt at = rw (take_more es i e lt, ← at) refl

pub not_at_index : (known : ℕ → Bool) (es : List Pair) (i : ℕ) (e : Pair) → i < length es → e ≡ get_or es i e → list_all known e.sources.items ≡ false
    → with_others (equations_view (take i es)) (ready_among known (equations_view (drop i es))) ≡ with_others (equations_view (take (i + 1) es)) (ready_among known (equations_view (drop (i + 1) es)))
not_at_index known es i e lt at unfit =
    ap (λ xs. with_others (equations_view (take i es)) (ready_among known (equations_view xs))) (from_index es i e lt at)
    ∙ ap (λ b. with_others (equations_view (take i es)) (cond b (Some (equation_view e, equations_view (drop (i + 1) es))) (with_other (equation_view e) (ready_among known (equations_view (drop (i + 1) es)))))) unfit
    ∙ sym (one_later (equations_view (take i es)) (equation_view e) (ready_among known (equations_view (drop (i + 1) es))))
    ∙ ap (λ xs. with_others xs (ready_among known (equations_view (drop (i + 1) es)))) (sym (ap equations_view (up_to_index es i e lt at) ∙ map-append equation_view (take i es) (e ∷ [])))

pub at_index : (known : ℕ → Bool) (es : List Pair) (i : ℕ) (e : Pair) → i < length es → e ≡ get_or es i e → list_all known e.sources.items ≡ true
    → with_others (equations_view (take i es)) (ready_among known (equations_view (drop i es))) ≡ Some (equation_view e, remove (equations_view es) i)
at_index known es i e lt at fit =
    ap (λ xs. with_others (equations_view (take i es)) (ready_among known (equations_view xs))) (from_index es i e lt at)
    ∙ ap (λ b. with_others (equations_view (take i es)) (cond b (Some (equation_view e, equations_view (drop (i + 1) es))) (with_other (equation_view e) (ready_among known (equations_view (drop (i + 1) es)))))) fit
    ∙ one_behind (equations_view (take i es)) (equations_view (drop (i + 1) es)) (equation_view e)
    ∙ ap (λ xs. Some (equation_view e, xs)) rest
  where
    rest : equations_view (take i es) ++ equations_view (drop (i + 1) es) ≡ remove (equations_view es) i
    rest = rw (take-map equation_view i es, drop-map equation_view (suc i) es, add-one) refl

pub past_all : (known : ℕ → Bool) (es : List Pair) (i : ℕ) → length es ≤ i → with_others (equations_view (take i es)) (ready_among known (equations_view (drop i es))) ≡ None
past_all known es i le = ap (λ xs. with_others (equations_view (take i es)) (ready_among known (equations_view xs))) (drop_of_length-le es le) ∙ none_behind (equations_view (take i es))

-- ---- the equation at an index

pub seen_at : (es : List Pair) (i : ℕ) (e : Pair) → i < length es → e ≡ get_or es i e → equation_view e ≡ get_or (equations_view es) i (equation_view e)
seen_at [] i e lt at = absurd (omega arith)
seen_at (d ∷ es) zero e lt at = ap equation_view at
seen_at (d ∷ es) (suc i) e lt at = seen_at es i e (omega arith) at

pub is_seen_at : (es : List Pair) (i : ℕ) (e : Pair) (q : Equation) → i < length es → e ≡ get_or es i e → q ≡ get_or (equations_view es) i q → equation_view e ≡ q
is_seen_at [] i e q lt at is = absurd (omega arith)
is_seen_at (d ∷ es) zero e q lt at is = ap equation_view at ∙ sym is
is_seen_at (d ∷ es) (suc i) e q lt at is = is_seen_at es i e q (omega arith) at is

removed : (es : List Pair) (i : ℕ) → remove (equations_view es) i ≡ equations_view (remove es i)
removed es i = rw (take-map equation_view i es, drop-map equation_view (suc i) es) (sym (map-append equation_view (take i es) (drop (suc i) es)))

-- a turn: the equation that is ready is done with, and its variable is known
pub found_on : (ks known now : List ℕ) (xs es rest : List Pair) (i : ℕ) (e : Pair) → ks ≡ known → xs ≡ es → IsReadyIndex (is_listed ks) (equations_view xs) (Some i) → e ≡ get_or es i e → rest ≡ remove es i
    → ((x : ℕ) → is_listed now x ≡ is_listed (e.variable ∷ known) x) → (x : ℕ) → is_listed (found_in (length rest) unlisted now (equations_view rest)) x ≡ is_listed (found_in (length es) unlisted known (equations_view es)) x
found_on ks known now xs es rest i e ks_are xs_are ready at left learnt x =
    let here : IsReadyIndex (is_listed known) (equations_view es) (Some i) = subst (λ zs. IsReadyIndex (is_listed zs) (equations_view es) (Some i)) ks_are (subst (λ zs. IsReadyIndex (is_listed ks) (equations_view zs) (Some i)) xs_are ready) in
    let lt : i < length es = rw (length-map es equation_view) at here.0 in
    let is : ready_among (is_listed known) (equations_view es) ≡ Some (equation_view e, equations_view rest) = here.1 (equation_view e) (seen_at es i e lt at) ∙ ap (λ zs. Some (equation_view e, zs)) (removed es i ∙ ap equations_view (sym left)) in
    let few : suc (length rest) ≡ length es = rw left (omega (arith, length-remove es i lt)) in
    found_same (length rest) now (e.variable ∷ known) (equations_view rest) learnt x
    ∙ ap (λ zs. is_listed zs x) (sym (found_goes (length rest) known (equations_view es) (equations_view rest) (equation_view e) is))
    ∙ ap (λ k. is_listed (found_in k unlisted known (equations_view es)) x) few

-- where none is ready, no more is found
pub found_off : (ks known : List ℕ) (xs es : List Pair) → ks ≡ known → xs ≡ es → ready_among (is_listed ks) (equations_view xs) ≡ None → (x : ℕ) → is_listed known x ≡ is_listed (found_in (length es) unlisted known (equations_view es)) x
found_off ks known xs es ks_are xs_are none x =
    let here : ready_among (is_listed known) (equations_view es) ≡ None = subst (λ zs. ready_among (is_listed zs) (equations_view es) ≡ None) ks_are (subst (λ zs. ready_among (is_listed ks) (equations_view zs) ≡ None) xs_are none) in
    ap (λ zs. is_listed zs x) (sym (found_ends (length es) known (equations_view es) here))
