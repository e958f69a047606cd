-- One token more on a place from which a token is taken, and from which demands take one after another: the picks are those that the
-- token was carried past, and what is left has one token more, the one that is carried on.
use Rattle.std.proofs.Common.{◌≡◌, ℕ, Bool, true, false, cond, ◌&&◌, List, [], ◌∷◌, refl, sym, ap, ap₂, subst, ◌∙◌}
use Rattle.std.specs.Option.{unwrap_or}
use Rattle.cpn_definitions.specs.Value.{PlainValue}
use Rattle.cpn_definitions.specs.Order.{same_value}
use Rattle.cpn_definitions.specs.ValueOrder.{same_value_true, same_value_refl}
use Rattle.cpn_definitions.specs.Marking.{token_at, Tokens, add_token, without_token, stamps, begins_by, without_latest, AreSorted}
use Rattle.cpn_definitions.proofs.SortedTokens.{add_token_sorted, without_token_sorted}
use Rattle.cpn_definitions.proofs.Stamps.{stamps_rise}
use Rattle.cpn_definitions.proofs.Addition.{with_stamp, stamps_with}
use Rattle.cpn_definitions.proofs.SameTokens.{same_tokens, stamps_of_without}
use Rattle.cpn_tmset.specs.Carried.{pick_after, past_pick, picks_after, past_picks}
use Rattle.cpn_tmset.specs.Picks.{Demand, PlainPick, left_after, pick_for, picked}
use Rattle.cpn_tmset.specs.Stamps.{latest_of, latest_stamp, is_preferred}
use Rattle.cpn_tmset.proofs.CarriedStamps.{is_latest, still_found, step}

-- ---- the tokens of one place

-- the stamp that is carried on past the token that is taken of a value, where it is of that value
abbrev pub carried_on : PlainValue → ℕ → PlainValue → ℕ → Tokens → ℕ
carried_on v t u s ks = cond (same_value v u && is_preferred t (latest_stamp t (stamps v ks)) s) (latest_stamp t (stamps v ks)) s

-- one is taken among one more
pub take_among : (v : PlainValue) (t : ℕ) (u : PlainValue) (s : ℕ) (ks : Tokens) → AreSorted ks → begins_by t (stamps v ks) ≡ true
    → without_token v t (add_token (token_at u s) ks) ≡ add_token (token_at u (carried_on v t u s ks)) (without_token v t ks)
take_among v t u s ks sorted found =
    let more = add_token_sorted (token_at u s) ks sorted in
    let fewer = without_token_sorted v t ks sorted in
    same_tokens (without_token v t (add_token (token_at u s) ks)) (add_token (token_at u on) (without_token v t ks)) (without_token_sorted v t (add_token (token_at u s) ks) more) (add_token_sorted (token_at u on) (without_token v t ks) fewer)
    (λ w. stamps_of_without w v t (add_token (token_at u s) ks) more
    ∙ ap (λ ss. cond (same_value w v) (without_latest t ss) ss) (stamps_with w u s ks sorted)
    ∙ cases w (same_value w v) (same_value w u) (same_value v u) refl refl refl
    ∙ sym (stamps_with w u on (without_token v t ks) fewer ∙ ap (λ ss. cond (same_value w u) (with_stamp on ss) ss) (stamps_of_without w v t ks sorted)))
  where
    on : ℕ
    on = carried_on v t u s ks

    same_too : (x y : PlainValue) → x ≡ y → same_value x y ≡ true
    same_too x y e = subst (λ z. same_value x z ≡ true) e (same_value_refl x)

    cases
        : (w : PlainValue) (b c d : Bool)
        → same_value w v ≡ b
        → same_value w u ≡ c
        → same_value v u ≡ d
        → cond b (without_latest t (cond c (with_stamp s (stamps w ks)) (stamps w ks))) (cond c (with_stamp s (stamps w ks)) (stamps w ks))
        ≡ cond c (with_stamp (cond (d && is_preferred t (latest_stamp t (stamps v ks)) s) (latest_stamp t (stamps v ks)) s) (cond b (without_latest t (stamps w ks)) (stamps w ks))) (cond b (without_latest t (stamps w ks)) (stamps w ks))
    cases w true true true hb hc hd =
        subst (λ x. without_latest t (with_stamp s (stamps x ks)) ≡ with_stamp (cond (is_preferred t (latest_stamp t (stamps v ks)) s) (latest_stamp t (stamps v ks)) s) (without_latest t (stamps x ks))) (sym (same_value_true w v hb))
        (step s t (stamps v ks) (stamps_rise v ks sorted) found).leaves
    cases w true true false hb hc hd = let e : true ≡ false = sym (same_too v u (sym (same_value_true w v hb) ∙ same_value_true w u hc)) ∙ hd in cc
    cases w true false d hb hc hd = refl
    cases w false true true hb hc hd = let e : true ≡ false = sym (same_too w v (same_value_true w u hc ∙ sym (same_value_true v u hd))) ∙ hb in cc
    cases w false true false hb hc hd = refl
    cases w false false d hb hc hd = refl

-- ---- demands

-- each demand finds a token, one after another
abbrev pub AreFound : List Demand → Tokens → Type 0
AreFound [] ks = Unit {0}
AreFound (d ∷ ds) ks = (begins_by d.threshold (stamps d.value ks) ≡ true) × AreFound ds (without_token d.value d.threshold ks)

-- the stamp of a demand's pick is the latest one that its threshold finds
pick_is_latest : (d : Demand) (ks : Tokens) → begins_by d.threshold (stamps d.value ks) ≡ true → (pick_for d ks).stamp ≡ latest_stamp d.threshold (stamps d.value ks)
pick_is_latest d ks found = ap (λ o. unwrap_or o 0) (is_latest d.threshold (stamps d.value ks) found)

-- with one token more it is the one that the token was carried past
pick_with_more : (d : Demand) (v : PlainValue) (s : ℕ) (ks : Tokens) → AreSorted ks → begins_by d.threshold (stamps d.value ks) ≡ true → pick_for d (add_token (token_at v s) ks) ≡ pick_after v s (pick_for d ks)
pick_with_more d v s ks sorted found =
    ap (λ (r : ℕ). record { value = d.value; threshold = t; stamp = r })
    (ap (λ rs. unwrap_or (latest_of t rs) 0) (stamps_with d.value v s ks sorted) ∙ cases (same_value d.value v)
    ∙ ap (λ (r : ℕ). cond (same_value d.value v && is_preferred t r s) s r) (sym (pick_is_latest d ks found)))
  where
    t : ℕ
    t = d.threshold

    ss : List ℕ
    ss = stamps d.value ks

    cases : (b : Bool) → unwrap_or (latest_of t (cond b (with_stamp s ss) ss)) 0 ≡ cond (b && is_preferred t (latest_stamp t ss) s) s (latest_stamp t ss)
    cases true = ap (λ o. unwrap_or o 0) (is_latest t (with_stamp s ss) (still_found t s ss found)) ∙ (step s t ss (stamps_rise d.value ks sorted) found).takes
    cases false = ap (λ o. unwrap_or o 0) (is_latest t ss found)

-- What demands take and leave where a token is put in ahead of them.
pub record AreTakenAfter (v : PlainValue) (s : ℕ) (ds : List Demand) (ks : Tokens) : Type 0 where
  pub picks : picked ds (add_token (token_at v s) ks) ≡ picks_after v s (picked ds ks)
  pub left : left_after ds (add_token (token_at v s) ks) ≡ add_token (token_at v (past_picks v s (picked ds ks))) (left_after ds ks)

pub put_ahead : (v : PlainValue) (s : ℕ) (ds : List Demand) (ks : Tokens) → AreSorted ks → AreFound ds ks → AreTakenAfter v s ds ks
put_ahead v s [] ks sorted found = record { picks = refl; left = refl }
put_ahead v s (d ∷ ds) ks sorted found =
    let next = without_token d.value d.threshold ks in
    let on : ℕ = past_pick v s (pick_for d ks) in
    let same : carried_on d.value d.threshold v s ks ≡ on = ap (λ (r : ℕ). cond (same_value d.value v && is_preferred d.threshold r s) r s) (sym (pick_is_latest d ks found.0)) in
    let first = take_among d.value d.threshold v s ks sorted found.0 ∙ ap (λ (r : ℕ). add_token (token_at v r) next) same in
    let rest = put_ahead v on ds next (without_token_sorted d.value d.threshold ks sorted) found.1 in
    record {
      picks = ap₂ (λ (x : PlainPick) xs. x ∷ xs) (pick_with_more d v s ks sorted found.0) (ap (picked ds) first ∙ rest.picks);
      left = ap (left_after ds) first ∙ rest.left;
    }
