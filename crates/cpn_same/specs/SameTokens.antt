-- When two inscriptions of tokens are the same.
use Rattle.std.proofs.Common.{◌≡◌, Bool, true, false, ◌&&◌, refl, ap, ap₂, ◌∙◌}
use Rattle.std.specs.Ordering.{int_eq}
use Rattle.std.specs.Cmp.{signed_Decides}
use Rattle.std.proofs.lemmas.Bool.{and_parts, and_from}
use Rattle.cpn_definitions.specs.Inscription.{ArcInscription, ArcInscriptions, ArcArms, no_token, one, times, sum_of, later, stamped, chosen, selected, bound, no_inscriptions, more_inscriptions, no_arc_arms, more_arc_arms}
use Rattle.cpn_same.specs.Equality.{DecidesEquality, decides_from}
use Rattle.cpn_same.specs.SamePatterns.{same_pattern, patterns_decide}
use Rattle.cpn_same.specs.SameInscriptions.{same_expr, exprs_decide}

abbrev mutual
  -- whether two inscriptions of tokens are the same: of one form, with the same stamp, inscriptions and parts
  pub same_tokens : ArcInscription → ArcInscription → Bool
  same_tokens no_token no_token = true
  same_tokens (one e) (one f) = same_expr e f
  same_tokens (times k e) (times m f) = same_expr k m && same_expr e f
  same_tokens (sum_of ms) (sum_of ns) = same_sums ms ns
  same_tokens (later m d) (later n e) = same_tokens m n && same_expr d e
  same_tokens (stamped m s) (stamped n t) = same_tokens m n && int_eq s t
  same_tokens (chosen c m m') (chosen d n n') = same_expr c d && (same_tokens m n && same_tokens m' n')
  same_tokens (selected e arms) (selected f brms) = same_expr e f && same_arc_arms arms brms
  same_tokens (bound e m) (bound f n) = same_expr e f && same_tokens m n
  same_tokens m n = false

  -- whether the parts of two sums are the same, one for one
  pub same_sums : ArcInscriptions → ArcInscriptions → Bool
  same_sums no_inscriptions no_inscriptions = true
  same_sums (more_inscriptions m ms) (more_inscriptions n ns) = same_tokens m n && same_sums ms ns
  same_sums ms ns = false

  -- whether the arms of two rows have the same patterns and the same tokens, one for one
  pub same_arc_arms : ArcArms → ArcArms → Bool
  same_arc_arms no_arc_arms no_arc_arms = true
  same_arc_arms (more_arc_arms p m arms) (more_arc_arms q n brms) = (same_pattern p q && same_tokens m n) && same_arc_arms arms brms
  same_arc_arms arms brms = false

-- ---- laws

mutual
  tokens_itself : (m : ArcInscription) → same_tokens m m ≡ true
  tokens_itself no_token = refl
  tokens_itself (one e) = (exprs_decide e e).1 refl
  tokens_itself (times k e) = and_from (same_expr k k) (same_expr e e) ((exprs_decide k k).1 refl) ((exprs_decide e e).1 refl)
  tokens_itself (sum_of ms) = sums_itself ms
  tokens_itself (later m d) = and_from (same_tokens m m) (same_expr d d) (tokens_itself m) ((exprs_decide d d).1 refl)
  tokens_itself (stamped m s) = and_from (same_tokens m m) (int_eq s s) (tokens_itself m) ((signed_Decides s s).1 refl)
  tokens_itself (chosen c m m') = and_from (same_expr c c) (same_tokens m m && same_tokens m' m') ((exprs_decide c c).1 refl) (and_from (same_tokens m m) (same_tokens m' m') (tokens_itself m) (tokens_itself m'))
  tokens_itself (selected e arms) = and_from (same_expr e e) (same_arc_arms arms arms) ((exprs_decide e e).1 refl) (arc_arms_itself arms)
  tokens_itself (bound e m) = and_from (same_expr e e) (same_tokens m m) ((exprs_decide e e).1 refl) (tokens_itself m)

  sums_itself : (ms : ArcInscriptions) → same_sums ms ms ≡ true
  sums_itself no_inscriptions = refl
  sums_itself (more_inscriptions m ms) = and_from (same_tokens m m) (same_sums ms ms) (tokens_itself m) (sums_itself ms)

  arc_arms_itself : (arms : ArcArms) → same_arc_arms arms arms ≡ true
  arc_arms_itself no_arc_arms = refl
  arc_arms_itself (more_arc_arms p m arms) = and_from (same_pattern p p && same_tokens m m) (same_arc_arms arms arms) (and_from (same_pattern p p) (same_tokens m m) ((patterns_decide p p).1 refl) (tokens_itself m)) (arc_arms_itself arms)

mutual
  tokens_one : (m n : ArcInscription) → same_tokens m n ≡ true → m ≡ n
  tokens_one no_token no_token is = refl
  tokens_one (one e) (one f) is = ap one ((exprs_decide e f).0 is)
  tokens_one (times k e) (times m f) is = let both = and_parts (same_expr k m) (same_expr e f) is in ap₂ times ((exprs_decide k m).0 both.0) ((exprs_decide e f).0 both.1)
  tokens_one (sum_of ms) (sum_of ns) is = ap sum_of (sums_one ms ns is)
  tokens_one (later m d) (later n e) is = let both = and_parts (same_tokens m n) (same_expr d e) is in ap₂ later (tokens_one m n both.0) ((exprs_decide d e).0 both.1)
  tokens_one (stamped m s) (stamped n t) is = let both = and_parts (same_tokens m n) (int_eq s t) is in ap₂ stamped (tokens_one m n both.0) ((signed_Decides s t).0 both.1)
  tokens_one (chosen c m m') (chosen d n n') is =
      let all = and_parts (same_expr c d) (same_tokens m n && same_tokens m' n') is in
      let both = and_parts (same_tokens m n) (same_tokens m' n') all.1 in
      ap (λ x. chosen x m m') ((exprs_decide c d).0 all.0) ∙ ap₂ (chosen d) (tokens_one m n both.0) (tokens_one m' n' both.1)
  tokens_one (selected e arms) (selected f brms) is = let both = and_parts (same_expr e f) (same_arc_arms arms brms) is in ap₂ selected ((exprs_decide e f).0 both.0) (arc_arms_one arms brms both.1)
  tokens_one (bound e m) (bound f n) is = let both = and_parts (same_expr e f) (same_tokens m n) is in ap₂ bound ((exprs_decide e f).0 both.0) (tokens_one m n both.1)
  tokens_one m n is = cc

  sums_one : (ms ns : ArcInscriptions) → same_sums ms ns ≡ true → ms ≡ ns
  sums_one no_inscriptions no_inscriptions is = refl
  sums_one (more_inscriptions m ms) (more_inscriptions n ns) is = let both = and_parts (same_tokens m n) (same_sums ms ns) is in ap₂ more_inscriptions (tokens_one m n both.0) (sums_one ms ns both.1)
  sums_one ms ns is = cc

  arc_arms_one : (arms brms : ArcArms) → same_arc_arms arms brms ≡ true → arms ≡ brms
  arc_arms_one no_arc_arms no_arc_arms is = refl
  arc_arms_one (more_arc_arms p m arms) (more_arc_arms q n brms) is =
      let all = and_parts (same_pattern p q && same_tokens m n) (same_arc_arms arms brms) is in
      let both = and_parts (same_pattern p q) (same_tokens m n) all.0 in
      ap (λ x. more_arc_arms x m arms) ((patterns_decide p q).0 both.0) ∙ ap₂ (more_arc_arms q) (tokens_one m n both.1) (arc_arms_one arms brms all.1)
  arc_arms_one arms brms is = cc

pub tokens_decide : DecidesEquality same_tokens
tokens_decide = decides_from same_tokens tokens_itself tokens_one
