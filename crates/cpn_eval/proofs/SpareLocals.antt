-- Frames that evaluate nothing more make the same of a value whatever the locals are that they leave alone.
use Rattle.std.proofs.Common.{slice_get, ◌≡◌, ◌≢◌, ℕ, zero, suc, ◌+◌, ◌≤◌, ◌<◌, Bool, true, false, cond, nat_le, List, [], ◌∷◌, ◌++◌, map, take, length, get_or, subst, refl, sym, ap, ◌∙◌, arith}
use Rattle.std.proofs.Math.ListN.{set}
use Rattle.std.proofs.Math.Seq.{take-suc}
use Rattle.std.proofs.lemmas.List.{map-append, take-map, take-set, take_all}
use Rattle.std.proofs.lemmas.Bool.Decides.{nat_tests}
use Rattle.cpn_definitions.specs.Value.{PlainValue, applied}
use Rattle.cpn_definitions.specs.Outcome.{Outcome, given as found, ◌>>=◌}
use Rattle.cpn_definitions.specs.Inscription.{Head, no_exprs, more_exprs}
use Rattle.cpn_definitions.specs.Operations.{operated, sized}
use Rattle.cpn_eval.specs.declared.frames.World.{World}
use Rattle.cpn_eval.specs.declared.reach.Reach.TheVariants as reaches
use Rattle.cpn_eval.specs.Frames.{PlainFrame, frame_view, parts, beside, local_beside, argument, also, otherwise, branches, body_of, arms, forget, start, steps, back, at, given_at, one, through, rest_of}
use Rattle.cpn_eval.specs.Spare.{reach_of, Spare}
use Rattle.cpn_core.specs.declared.inscriptions.Expr.{Expr}
use Rattle.cpn_core.specs.Inscriptions.{exprs_view}
use Rattle.cpn_eval.specs.declared.frames.Frame.{Frame}
use Rattle.cpn_eval.specs.declared.held.Held.{Held}
use Rattle.cpn_eval.specs.Held.{held_view}
use Rattle.cpn_eval.proofs.Binds.{bind_ext}
use Rattle.cpn_eval.proofs.Turns.{through_last, put_back}

take_inner : (i j : ℕ) (xs : List PlainValue) → i ≤ j → take i (take j xs) ≡ take i xs
take_inner zero j xs h = refl
take_inner (suc i) zero xs h = absurd (omega arith)
take_inner (suc i) (suc j) [] h = refl
take_inner (suc i) (suc j) (x ∷ xs) h = ap (λ ys. x ∷ ys) (take_inner i j xs (omega arith))

fewer_alike : (i j : ℕ) (xs ys : List PlainValue) → i ≤ j → take j xs ≡ take j ys → take i xs ≡ take i ys
fewer_alike i j xs ys h same = sym (take_inner i j xs h) ∙ ap (take i) same ∙ take_inner i j ys h

-- a local among the first ones
local_inner : (j k : ℕ) (xs : List PlainValue) → j < k → slice_get (take k xs) j ≡ slice_get xs j
local_inner j zero xs h = absurd (omega arith)
local_inner j (suc k) [] h = refl
local_inner zero (suc k) (x ∷ xs) h = refl
local_inner (suc j) (suc k) (x ∷ xs) h = local_inner j k xs (omega arith)

local_alike : (j k : ℕ) (xs ys : List PlainValue) → j < k → take k xs ≡ take k ys → slice_get xs j ≡ slice_get ys j
local_alike j k xs ys h same = sym (local_inner j k xs h) ∙ ap (λ zs. slice_get zs j) same ∙ local_inner j k ys h

-- a frame whose outcome does not depend on the locals
same_outcome
    : (fs : List PlainFrame) (f : PlainFrame) (k : ℕ) (w : World) (n : ℕ) (ls ms : List PlainValue) (v : PlainValue) (o : Outcome PlainValue)
    → Spare fs k
    → take k ls ≡ take k ms
    → one w f (at n ls v) ≡ (o >>= given_at n ls)
    → one w f (at n ms v) ≡ (o >>= given_at n ms)
    → through w (fs ++ f ∷ []) (at n ls v) ≡ through w (fs ++ f ∷ []) (at n ms v)
same_outcome fs f k w n ls ms v o spare same first second =
    through_last w fs f (at n ls v)
    ∙ ap (λ x. x >>= through w fs) first
    ∙ put_back n ls (through w fs) o
    ∙ bind_ext o _ _ (λ u. spare w n ls ms u same)
    ∙ sym (put_back n ms (through w fs) o)
    ∙ sym (ap (λ x. x >>= through w fs) second)
    ∙ sym (through_last w fs f (at n ms v))

-- a frame that passes the locals on
pub spare_passed : (f : PlainFrame) (fs : List PlainFrame) (k : ℕ) → reach_of f k ≡ reaches.Passes → Spare fs k → Spare (fs ++ f ∷ []) k
spare_passed (parts head done no_exprs) fs k h spare = λ w n ls ms v same. same_outcome fs (parts head done no_exprs) k w n ls ms v (rest_of w n ls head (done ++ v ∷ []) no_exprs) spare same refl refl
spare_passed (parts head done (more_exprs e es)) fs k h spare = cc
spare_passed (beside o j) fs k h spare = λ w n ls ms v same. split (nat_le k j) refl h w n ls ms v same
  where
    split : (b : Bool) → nat_le k j ≡ b → cond b reaches.Reads reaches.Passes ≡ reaches.Passes → (w : World) (n : ℕ) (ls ms : List PlainValue) (v : PlainValue) → take k ls ≡ take k ms → through w (fs ++ beside o j ∷ []) (at n ls v) ≡ through w (fs ++ beside o j ∷ []) (at n ms v)
    split true is given w n ls ms v same = cc
    split false is given w n ls ms v same =
        let below : j < k = grind (arith, nat_tests) in
        let alike : slice_get ms j ≡ slice_get ls j = sym (local_alike j k ls ms below same) in
        same_outcome fs (beside o j) k w n ls ms v (local_beside o j ls v) spare same refl (ap (λ l. (found l >>= (λ u. operated o (u ∷ v ∷ []))) >>= given_at n ms) alike)
spare_passed (argument j) fs k h spare = λ w n ls ms v same. same_outcome fs (argument j) k w n ls ms v (sized (applied j v)) spare same refl refl
spare_passed (forget count) fs k h spare = λ w n ls ms v same. split (nat_le count k) refl h w n ls ms v same
  where
    split : (b : Bool) → nat_le count k ≡ b → cond b reaches.Forgets reaches.Passes ≡ reaches.Passes → (w : World) (n : ℕ) (ls ms : List PlainValue) (v : PlainValue) → take k ls ≡ take k ms → through w (fs ++ forget count ∷ []) (at n ls v) ≡ through w (fs ++ forget count ∷ []) (at n ms v)
    split true is given w n ls ms v same = cc
    split false is given w n ls ms v same =
        let longer : k ≤ count = grind (arith, nat_tests) in
        through_last w fs (forget count) (at n ls v)
        ∙ spare w n (take count ls) (take count ms) v (take_inner k count ls longer ∙ same ∙ sym (take_inner k count ms longer))
        ∙ sym (through_last w fs (forget count) (at n ms v))
spare_passed (back n ls) fs k h spare = cc
spare_passed (also e) fs k h spare = cc
spare_passed (otherwise e) fs k h spare = cc
spare_passed (branches e f) fs k h spare = cc
spare_passed (body_of e) fs k h spare = cc
spare_passed (arms cases) fs k h spare = cc
spare_passed (start e f) fs k h spare = cc
spare_passed (steps vs e) fs k h spare = cc

-- a frame that forgets them
pub spare_forgotten : (f : PlainFrame) (fs : List PlainFrame) (k : ℕ) → reach_of f k ≡ reaches.Forgets → Spare (fs ++ f ∷ []) k
spare_forgotten (parts head done no_exprs) fs k h = cc
spare_forgotten (parts head done (more_exprs e es)) fs k h = cc
spare_forgotten (beside o j) fs k h = split (nat_le k j) h
  where
    split : (b : Bool) → cond b reaches.Reads reaches.Passes ≡ reaches.Forgets → Spare (fs ++ beside o j ∷ []) k
    split true given = cc
    split false given = cc
spare_forgotten (argument j) fs k h = cc
spare_forgotten (forget count) fs k h = λ w n ls ms v same. split (nat_le count k) refl h w n ls ms v same
  where
    split : (b : Bool) → nat_le count k ≡ b → cond b reaches.Forgets reaches.Passes ≡ reaches.Forgets → (w : World) (n : ℕ) (ls ms : List PlainValue) (v : PlainValue) → take k ls ≡ take k ms → through w (fs ++ forget count ∷ []) (at n ls v) ≡ through w (fs ++ forget count ∷ []) (at n ms v)
    split true is given w n ls ms v same =
        let shorter : count ≤ k = grind (arith, nat_tests) in
        through_last w fs (forget count) (at n ls v)
        ∙ ap (λ xs. through w fs (at n xs v)) (fewer_alike count k ls ms shorter same)
        ∙ sym (through_last w fs (forget count) (at n ms v))
    split false is given w n ls ms v same = cc
spare_forgotten (back m rs) fs k h = λ w n ls ms v same. through_last w fs (back m rs) (at n ls v) ∙ sym (through_last w fs (back m rs) (at n ms v))
spare_forgotten (also e) fs k h = cc
spare_forgotten (otherwise e) fs k h = cc
spare_forgotten (branches e f) fs k h = cc
spare_forgotten (body_of e) fs k h = cc
spare_forgotten (arms cases) fs k h = cc
spare_forgotten (start e f) fs k h = cc
spare_forgotten (steps vs e) fs k h = cc

-- ---- the frames of the program

pub reads_more : (head : Head) (done : List PlainValue) (es : List Expr) (k : ℕ) → es ≢ [] → reach_of (parts head done (exprs_view es)) k ≡ reaches.Reads
reads_more head done [] k h = absurd (h refl)
reads_more head done (e ∷ es) k h = refl

pub spare_all : (frames : List Frame) (k i : ℕ) → length frames ≤ i → Spare (map frame_view (take i frames)) k → Spare (map frame_view frames) k
spare_all frames k i h spare = subst (λ (fs : List Frame). Spare (map frame_view fs) k) (take_all i frames h) spare

last_taken : (frames : List Frame) (i j last : ℕ) (f : Frame) → last ≡ i → j ≡ i + 1 → i < length frames → f ≡ get_or frames last f → map frame_view (take j frames) ≡ map frame_view (take i frames) ++ frame_view f ∷ []
last_taken frames i j last f hl hj hi is =
    let here : f ≡ get_or frames i f = is ∙ ap (λ n. get_or frames n f) hl in
    let next : j ≡ suc i = omega arith in
    ap (λ n. map frame_view (take n frames)) next
    ∙ ap (map frame_view) (take-suc frames i f hi ∙ ap (λ x. take i frames ++ x ∷ []) (sym here))
    ∙ map-append frame_view (take i frames) (f ∷ [])

pub last_passed
    : (frames : List Frame) (k i j last : ℕ) (f : Frame)
    → last ≡ i
    → j ≡ i + 1
    → i < length frames
    → f ≡ get_or frames last f
    → reach_of (frame_view f) k ≡ reaches.Passes
    → Spare (map frame_view (take i frames)) k
    → Spare (map frame_view (take j frames)) k
last_passed frames k i j last f hl hj hi is h spare =
    subst (λ (fs : List PlainFrame). Spare fs k) (sym (last_taken frames i j last f hl hj hi is)) (spare_passed (frame_view f) (map frame_view (take i frames)) k h spare)

pub last_forgotten
    : (frames : List Frame) (k i j last : ℕ) (f : Frame)
    → last ≡ i
    → j ≡ i + 1
    → i < length frames
    → f ≡ get_or frames last f
    → reach_of (frame_view f) k ≡ reaches.Forgets
    → Spare (map frame_view (take j frames)) k
last_forgotten frames k i j last f hl hj hi is h =
    subst (λ (fs : List PlainFrame). Spare fs k) (sym (last_taken frames i j last f hl hj hi is)) (spare_forgotten (frame_view f) (map frame_view (take i frames)) k h)

pub others_kept : (items : List Held) (i : ℕ) (x : Held) → take i (map held_view (set items i x)) ≡ take i (map held_view items)
others_kept items i x = take-map held_view i (set items i x) ∙ ap (map held_view) (take-set items i x) ∙ sym (take-map held_view i items)
