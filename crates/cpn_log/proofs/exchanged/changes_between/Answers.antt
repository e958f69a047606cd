-- The less of the next two tokens is told, and two that are equal go out against each other.
use Rattle.std.proofs.Common.{◌≡◌, ◌+◌, List, [], ◌∷◌, ◌++◌, append_assoc, append-nil, map, drop, refl, sym, ap, ◌∙◌, arith, ◌⊎◌, inl, inr, Ordering, Less, Greater}
use Rattle.std.proofs.Math.Path.{ap₂}
use Rattle.std.proofs.lemmas.List.{drop_all}
use Rattle.cpn_definitions.specs.Occurrence.{Made, made_cmp}
use Rattle.cpn_definitions.proofs.ListItems.{next_left}
use Rattle.cpn_core.specs.OutputsViews.{made_view, made_views}
use Rattle.cpn_tmset.specs.Changed.{PlainChange}
use Rattle.cpn_tmset.specs.ChangedViews.{changes_view}
use Rattle.cpn_log.specs.Gathered.{and_then, as_compared, differing, each_once, made_change}
use Rattle.cpn_log.proofs.EachOnce.{each_once_more}
use Rattle.cpn_log.proofs.LogSteps.{whole_rest}
use Rattle.cpn_log.proofs.exchanged.changes_between.Goals as goal
use Rattle.cpn_log.proofs.exchanged.changes_between.Goals.{then-loop-gone-test+else-come-outputs, else-loop-gone-test}

-- what the others differ in, where the next two tokens are compared
next_two : (t o : Made) (ts os : List Made) (left right : List Made) (r : Ordering) → left ≡ t ∷ ts → right ≡ o ∷ os → r ≡ made_cmp t o
    → differing left right ≡ as_compared r (made_change t ∷ differing ts (o ∷ os)) (differing ts os) (made_change o ∷ differing (t ∷ ts) os)
next_two t o ts os left right r first second is =
    ap₂ differing first second ∙ ap (λ c. as_compared c (made_change t ∷ differing ts (o ∷ os)) (differing ts os) (made_change o ∷ differing (t ∷ ts) os)) (sym is)

one_told : (c : PlainChange) (told rest others : List PlainChange) → others ≡ told ++ c ∷ rest → others ≡ (told ++ c ∷ []) ++ rest
one_told c told rest others is = is ∙ sym (append_assoc told (c ∷ []) rest)

pub loop-gone-preserved-in-Less : goal.loop-gone-preserved-in-Less
loop-gone-preserved-in-Less c =
    let i = c.loop-gone.gone in
    let j = c.loop-gone.come in
    let token = made_view c.index-taken-gone.result in
    let made = made_view c.index-outputs-come.result in
    let left = next_left made_view c.args.taken.now i c.index-taken-gone.result (omega arith) c.index-taken-gone.is in
    let right = next_left made_view c.args.outputs.now j c.index-outputs-come.result (omega arith) c.index-outputs-come.is in
    let others = made_views (drop (i + 1) c.args.taken.now) in
    let rest = made_views (drop (j + 1) c.args.outputs.now) in
    let step = next_two token made others rest (made_views (drop i c.args.taken.now)) (made_views (drop j c.args.outputs.now)) Less left right (sym c.in-Less.is ∙ c.compare.ensures.exact) in
    let told = c.loop-gone.invariant.told in
    record {
      taken_left = omega arith;
      outputs_left = c.loop-gone.invariant.outputs_left;
      told = told ++ made_change token ∷ [];
      is_told = c.in_ok-tell-in-Less.ensures ∙ ap (and_then (made_change token)) c.loop-gone.invariant.is_told ∙ sym (each_once_more (made_change token) told);
      others =
          one_told (made_change token) told (differing others (made_views (drop j c.args.outputs.now))) (differing (made_views c.args.taken.now) (made_views c.args.outputs.now))
          (c.loop-gone.invariant.others ∙ ap (λ xs. told ++ xs) (step ∙ ap (λ ys. made_change token ∷ differing others ys) (sym right)));
    }

pub loop-gone-preserved : goal.loop-gone-preserved
loop-gone-preserved c =
    let i = c.loop-gone.gone in
    let j = c.loop-gone.come in
    let token = made_view c.index-taken-gone.result in
    let made = made_view c.index-outputs-come.result in
    let left = next_left made_view c.args.taken.now i c.index-taken-gone.result (omega arith) c.index-taken-gone.is in
    let right = next_left made_view c.args.outputs.now j c.index-outputs-come.result (omega arith) c.index-outputs-come.is in
    let others = made_views (drop (i + 1) c.args.taken.now) in
    let rest = made_views (drop (j + 1) c.args.outputs.now) in
    let step = next_two token made others rest (made_views (drop i c.args.taken.now)) (made_views (drop j c.args.outputs.now)) Greater left right (sym c.in-Greater.is ∙ c.compare.ensures.exact) in
    let told = c.loop-gone.invariant.told in
    record {
      taken_left = c.loop-gone.invariant.taken_left;
      outputs_left = omega arith;
      told = told ++ made_change made ∷ [];
      is_told = c.in_ok-tell-in-Greater.ensures ∙ ap (and_then (made_change made)) c.loop-gone.invariant.is_told ∙ sym (each_once_more (made_change made) told);
      others =
          one_told (made_change made) told (differing (made_views (drop i c.args.taken.now)) rest) (differing (made_views c.args.taken.now) (made_views c.args.outputs.now))
          (c.loop-gone.invariant.others ∙ ap (λ xs. told ++ xs) (step ∙ ap (λ ys. made_change made ∷ differing ys rest) (sym left)));
    }

-- where one of two lists has ended, what they differ in is the other
one_ended : (told left right all : List PlainChange) (ts os : List Made) → left ≡ map made_change ts → right ≡ map made_change os → ts ≡ [] ⊎ os ≡ [] → all ≡ told ++ differing ts os → all ≡ (told ++ left) ++ right
one_ended told left right all [] os first second ended is = is ∙ ap (λ xs. xs ++ map made_change os) (sym (append-nil told)) ∙ ap₂ (λ xs ys. (told ++ xs) ++ ys) (sym first) (sym second)
one_ended told left right all (t ∷ ts) [] first second ended is =
    is ∙ sym (append-nil (told ++ map made_change (t ∷ ts))) ∙ ap₂ (λ xs ys. (told ++ xs) ++ ys) (sym first) (sym second)
one_ended told left right all (t ∷ ts) (o ∷ os) first second (inl ended) is = cc
one_ended told left right all (t ∷ ts) (o ∷ os) first second (inr ended) is = cc

pub returns : goal.returns
returns c =
    let i = c.loop-gone.gone in
    let j = c.loop-gone.come in
    let left = made_views (drop i c.args.taken.now) in
    let right = made_views (drop j c.args.outputs.now) in
    let told = c.loop-gone.invariant.told in
    let first : changes_view c.tell_each.new.changes ≡ each_once (told ++ map made_change left) =
    c.in_ok-tell_each.ensures told c.loop-gone.invariant.is_told ∙ ap (λ xs. each_once (told ++ map made_change (made_views xs))) (whole_rest i c.args.taken.now) in
    let second : changes_view c.tell_each-2.new.changes ≡ each_once ((told ++ map made_change left) ++ map made_change right) =
    c.in_ok-tell_each-2.ensures (told ++ map made_change left) first ∙ ap (λ xs. each_once ((told ++ map made_change left) ++ map made_change (made_views xs))) (whole_rest j c.args.outputs.now) in
    let ended : left ≡ [] ⊎ right ≡ [] =
    elim c.loop-gone-test.branch [
      | then-loop-gone-test+else-come-outputs w ↦ inr (ap made_views (drop_all j c.args.outputs.now w.if-come-outputs.false))
      | else-loop-gone-test w ↦ inl (ap made_views (drop_all i c.args.taken.now w.loop-gone-test.false))
    ] in
    second ∙ ap each_once (sym (one_ended told (map made_change left) (map made_change right) (differing (made_views c.args.taken.now) (made_views c.args.outputs.now)) left right refl refl ended c.loop-gone.invariant.others))
