-- The parts of a sum, and the arms of a `case` over tokens, one after another.
use Rattle.std.proofs.Common.{◌≡◌, ℕ, ◌+◌, ◌<◌, ◌≤◌, List, [], ◌∷◌, ◌++◌, map, length, get_or, drop, refl, sym, ap, ◌∙◌, add-one, drop-cons}
use Rattle.std.proofs.Math.ListN.{drop_of_length-le}
use Rattle.cpn_definitions.specs.Inscription.{PlainPattern, ArcInscription, ArcInscriptions, no_inscriptions, more_inscriptions, inscriptions_from, ArcArms, no_arc_arms, more_arc_arms, arc_arms_from}
use Rattle.cpn_trees.specs.Trees.{PlainAst, PlainPat, asts_from}
use Rattle.cpn_trees.specs.PatViews.{pat_view}
use Rattle.cpn_trees.specs.AstViews.{ast_view, arm_view, arms_from}
use Rattle.cpn_trees.specs.declared.trees.Ast.{Ast}
use Rattle.cpn_trees.specs.declared.trees.Arm.{Arm}
use Rattle.cpn_trees.proofs.FormViews.{view_arm}
use Rattle.cpn_typing.specs.Types.{PlainTy}
use Rattle.cpn_typing.specs.Names.{Scope, Refusal, Checked, ok, refused, ◌>>=◌}
use Rattle.cpn_typing.specs.PatternRules.{BoundPattern, typed_pattern}
use Rattle.cpn_typing.specs.Multisets.{Site, marked, marked_each, marked_arms}
use Rattle.cpn_types.specs.Sites.{arm_at}

-- ---- the parts of a sum

abbrev pub ahead_of : List ArcInscription → ArcInscriptions → ArcInscriptions
ahead_of [] ns = ns
ahead_of (m ∷ ms) ns = more_inscriptions m (ahead_of ms ns)

abbrev pub with_front : List ArcInscription → Checked ArcInscriptions → Checked ArcInscriptions
with_front ms (ok ns) = ok (ahead_of ms ns)
with_front ms (refused r) = refused r

one_more : (ms : List ArcInscription) (m : ArcInscription) (ns : ArcInscriptions) → ahead_of (ms ++ m ∷ []) ns ≡ ahead_of ms (more_inscriptions m ns)
one_more [] m ns = refl
one_more (l ∷ ms) m ns = ap (more_inscriptions l) (one_more ms m ns)

front_more : (ms : List ArcInscription) (m : ArcInscription) (c : Checked ArcInscriptions) → with_front ms (c >>= λ rest. ok (more_inscriptions m rest)) ≡ with_front (ms ++ m ∷ []) c
front_more ms m (ok ns) = ap ok (sym (one_more ms m ns))
front_more ms m (refused r) = refl

front_alone : (ms : List ArcInscription) → ahead_of ms no_inscriptions ≡ inscriptions_from ms
front_alone [] = refl
front_alone (m ∷ ms) = ap (more_inscriptions m) (front_alone ms)

from_index : (ts : List Ast) (i : ℕ) (t : Ast) → i < length ts → t ≡ get_or ts i t → map ast_view (drop i ts) ≡ ast_view t ∷ map ast_view (drop (i + 1) ts)
from_index ts i t lt at =
    let rest : drop i ts ≡ t ∷ drop (i + 1) ts = rw (add-one, drop-cons ts i t lt, ← at) refl in
    ap (map ast_view) rest

pub next_part : (g : Site) (ts : List Ast) (i : ℕ) (t : Ast) (sc : Scope) (ms more : List ArcInscription) (m : ArcInscription) (whole : Checked ArcInscriptions)
    → i < length ts → t ≡ get_or ts i t → marked g (ast_view t) sc ≡ ok m → more ≡ ms ++ m ∷ []
    → whole ≡ with_front ms (marked_each g (asts_from (map ast_view (drop i ts))) sc) → whole ≡ with_front more (marked_each g (asts_from (map ast_view (drop (i + 1) ts))) sc)
next_part g ts i t sc ms more m whole lt at is more_is before =
    before
    ∙ ap (λ xs. with_front ms (marked_each g (asts_from xs) sc)) (from_index ts i t lt at)
    ∙ ap (λ c. with_front ms (c >>= λ first. marked_each g (asts_from (map ast_view (drop (i + 1) ts))) sc >>= λ rest. ok (more_inscriptions first rest))) is
    ∙ front_more ms m (marked_each g (asts_from (map ast_view (drop (i + 1) ts))) sc)
    ∙ ap (λ xs. with_front xs (marked_each g (asts_from (map ast_view (drop (i + 1) ts))) sc)) (sym more_is)

pub no_part : (g : Site) (ts : List Ast) (i : ℕ) (t : Ast) (sc : Scope) (ms : List ArcInscription) (r : Refusal) (whole : Checked ArcInscriptions)
    → i < length ts → t ≡ get_or ts i t → marked g (ast_view t) sc ≡ refused r
    → whole ≡ with_front ms (marked_each g (asts_from (map ast_view (drop i ts))) sc) → whole ≡ refused r
no_part g ts i t sc ms r whole lt at is before =
    before
    ∙ ap (λ xs. with_front ms (marked_each g (asts_from xs) sc)) (from_index ts i t lt at)
    ∙ ap (λ c. with_front ms (c >>= λ first. marked_each g (asts_from (map ast_view (drop (i + 1) ts))) sc >>= λ rest. ok (more_inscriptions first rest))) is

pub last_part : (g : Site) (ts : List Ast) (i : ℕ) (sc : Scope) (ms : List ArcInscription) (whole : Checked ArcInscriptions)
    → length ts ≤ i → whole ≡ with_front ms (marked_each g (asts_from (map ast_view (drop i ts))) sc) → whole ≡ ok (inscriptions_from ms)
last_part g ts i sc ms whole le before = before ∙ ap (λ xs. with_front ms (marked_each g (asts_from (map ast_view xs)) sc)) (drop_of_length-le ts le) ∙ ap ok (front_alone ms)

-- ---- the arms of a `case`

abbrev pub arms_ahead_of : List (PlainPattern × ArcInscription) → ArcArms → ArcArms
arms_ahead_of [] rest = rest
arms_ahead_of (a ∷ made) rest = more_arc_arms a.0 a.1 (arms_ahead_of made rest)

abbrev pub with_arms : List (PlainPattern × ArcInscription) → Checked ArcArms → Checked ArcArms
with_arms made (ok rest) = ok (arms_ahead_of made rest)
with_arms made (refused r) = refused r

one_arm_more : (made : List (PlainPattern × ArcInscription)) (a : PlainPattern × ArcInscription) (rest : ArcArms) → arms_ahead_of (made ++ a ∷ []) rest ≡ arms_ahead_of made (more_arc_arms a.0 a.1 rest)
one_arm_more [] a rest = refl
one_arm_more (b ∷ made) a rest = ap (more_arc_arms b.0 b.1) (one_arm_more made a rest)

arms_more : (made : List (PlainPattern × ArcInscription)) (a : PlainPattern × ArcInscription) (c : Checked ArcArms) → with_arms made (c >>= λ rest. ok (more_arc_arms a.0 a.1 rest)) ≡ with_arms (made ++ a ∷ []) c
arms_more made a (ok rest) = ap ok (sym (one_arm_more made a rest))
arms_more made a (refused r) = refl

arms_alone : (made : List (PlainPattern × ArcInscription)) → arms_ahead_of made no_arc_arms ≡ arc_arms_from made
arms_alone [] = refl
arms_alone (a ∷ made) = ap (more_arc_arms a.0 a.1) (arms_alone made)

arm_from_index : (ts : List Arm) (i : ℕ) (t : Arm) → i < length ts → t ≡ get_or ts i t → map arm_view (drop i ts) ≡ (pat_view t.pattern, ast_view t.result) ∷ map arm_view (drop (i + 1) ts)
arm_from_index ts i t lt at =
    let rest : drop i ts ≡ t ∷ drop (i + 1) ts = rw (add-one, drop-cons ts i t lt, ← at) refl in
    ap (map arm_view) rest ∙ ap (λ p. p ∷ map arm_view (drop (i + 1) ts)) (view_arm t)

-- an arm, and then those behind it
abbrev paired : BoundPattern → Checked ArcInscription → Checked (PlainPattern × ArcInscription)
paired b c = c >>= λ result. ok (b.pattern, result)

abbrev with_others : Checked ArcArms → PlainPattern × ArcInscription → Checked ArcArms
with_others c a = c >>= λ others. ok (more_arc_arms a.0 a.1 others)

arm_first : (g : Site) (p : PlainPat) (m : PlainAst) (rest : List (PlainPat × PlainAst)) (sc : Scope) (t : PlainTy)
    → marked_arms g (arms_from ((p, m) ∷ rest)) sc t ≡ (arm_at g p m sc t >>= with_others (marked_arms g (arms_from rest) sc t))
arm_first g p m rest sc t = split (typed_pattern g.declared p sc t)
  where
    inner : (b : BoundPattern) (c : Checked ArcInscription)
        → (c >>= λ result. marked_arms g (arms_from rest) sc t >>= λ rest'. ok (more_arc_arms b.pattern result rest')) ≡ (paired b c >>= with_others (marked_arms g (arms_from rest) sc t))
    inner b (ok result) = refl
    inner b (refused r) = refl

    split : (c : Checked BoundPattern)
        → (c >>= λ b. marked g m (sc ++ b.locals) >>= λ result. marked_arms g (arms_from rest) sc t >>= λ rest'. ok (more_arc_arms b.pattern result rest'))
        ≡ ((c >>= λ b. paired b (marked g m (sc ++ b.locals))) >>= with_others (marked_arms g (arms_from rest) sc t))
    split (ok b) = inner b (marked g m (sc ++ b.locals))
    split (refused r) = refl

pub next_arm : (g : Site) (ts : List Arm) (i : ℕ) (arm : Arm) (sc : Scope) (t : PlainTy) (made more : List (PlainPattern × ArcInscription)) (a : PlainPattern × ArcInscription) (whole : Checked ArcArms)
    → i < length ts → arm ≡ get_or ts i arm → arm_at g (pat_view arm.pattern) (ast_view arm.result) sc t ≡ ok a → more ≡ made ++ a ∷ []
    → whole ≡ with_arms made (marked_arms g (arms_from (map arm_view (drop i ts))) sc t) → whole ≡ with_arms more (marked_arms g (arms_from (map arm_view (drop (i + 1) ts))) sc t)
next_arm g ts i arm sc t made more a whole lt at is more_is before =
    before
    ∙ ap (λ xs. with_arms made (marked_arms g (arms_from xs) sc t)) (arm_from_index ts i arm lt at)
    ∙ ap (with_arms made) (arm_first g (pat_view arm.pattern) (ast_view arm.result) (map arm_view (drop (i + 1) ts)) sc t)
    ∙ ap (λ c. with_arms made (c >>= with_others (marked_arms g (arms_from (map arm_view (drop (i + 1) ts))) sc t))) is
    ∙ arms_more made a (marked_arms g (arms_from (map arm_view (drop (i + 1) ts))) sc t)
    ∙ ap (λ xs. with_arms xs (marked_arms g (arms_from (map arm_view (drop (i + 1) ts))) sc t)) (sym more_is)

pub no_arm : (g : Site) (ts : List Arm) (i : ℕ) (arm : Arm) (sc : Scope) (t : PlainTy) (made : List (PlainPattern × ArcInscription)) (r : Refusal) (whole : Checked ArcArms)
    → i < length ts → arm ≡ get_or ts i arm → arm_at g (pat_view arm.pattern) (ast_view arm.result) sc t ≡ refused r
    → whole ≡ with_arms made (marked_arms g (arms_from (map arm_view (drop i ts))) sc t) → whole ≡ refused r
no_arm g ts i arm sc t made r whole lt at is before =
    before
    ∙ ap (λ xs. with_arms made (marked_arms g (arms_from xs) sc t)) (arm_from_index ts i arm lt at)
    ∙ ap (with_arms made) (arm_first g (pat_view arm.pattern) (ast_view arm.result) (map arm_view (drop (i + 1) ts)) sc t)
    ∙ ap (λ c. with_arms made (c >>= with_others (marked_arms g (arms_from (map arm_view (drop (i + 1) ts))) sc t))) is

pub last_arm : (g : Site) (ts : List Arm) (i : ℕ) (sc : Scope) (t : PlainTy) (made : List (PlainPattern × ArcInscription)) (whole : Checked ArcArms)
    → length ts ≤ i → whole ≡ with_arms made (marked_arms g (arms_from (map arm_view (drop i ts))) sc t) → whole ≡ ok (arc_arms_from made)
last_arm g ts i sc t made whole le before = before ∙ ap (λ xs. with_arms made (marked_arms g (arms_from (map arm_view xs)) sc t)) (drop_of_length-le ts le) ∙ ap ok (arms_alone made)
