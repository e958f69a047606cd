-- One token more stands in order, where there is a stamp for it.
use Rattle.std.proofs.Common.{◌≡◌, ℕ, ◌+◌, ◌<◌, ◌≤◌, ⊎_elim, ◌∷◌, ◌++◌, [], length, Some, None, slice_get, take, sym, ap, ◌∙◌, arith}
use Rattle.std.proofs.lemmas.Bool.{cases_lt}
use Rattle.std.proofs.lemmas.List.{length-map, length-take-le}
use Rattle.std.proofs.lemmas.Option.{slice_get_past}
use Rattle.cpn_definitions.specs.Lists.{in_order, with_item}
use Rattle.cpn_definitions.specs.Occurrence.{made_cmp}
use Rattle.cpn_core.specs.NeedsViews.{needed_view, needed_views}
use Rattle.cpn_log.specs.Gathered.{token_taken, tokens_taken}
use Rattle.cpn_log.proofs.LogParts.{at_place}
use Rattle.cpn_log.proofs.ToldItems.{seen_more}
use Rattle.cpn_log.proofs.PutBackTokens.{one_taken_more, none_taken_more, one_in_order}
use Rattle.cpn_log.proofs.exchanged.taken_in_order.Goals as goal
use Rattle.cpn_log.proofs.exchanged.taken_in_order.Goals.{in-Some+in_ok-copy+in_ok-add, in_default}

no_less : (i n : ℕ) → (i < n → ⊥) → n ≤ i
no_less i n not = ⊎_elim (λ lt. absurd (not lt)) (λ ge. ge) (cases_lt i n)

pub loop-index-preserved : goal.loop-index-preserved
loop-index-preserved c =
    let i = c.loop-index.index in
    let need = c.index-needs-index.result in
    let needs = c.args.needs.now in
    let stamps = c.args.stamps.now in
    let before = needed_views (take i needs) in
    let more : needed_views (take (i + 1) needs) ≡ before ++ needed_view need ∷ [] = seen_more needed_view needs i need c.loop-index-test.true c.index-needs-index.is in
    let long : length before ≡ i = length-map (take i needs) needed_view ∙ length-take-le i needs (omega (arith, c.loop-index-test.true)) in
    elim c.match-get.branch [
      | in-Some+in_ok-copy+in_ok-add w ↦
          let stamp = w.in-Some.stamp.now in
          let facts = w.in-Some.ensures.lookup in
          let at : slice_get stamps i ≡ Some stamp = at_place stamps i stamp facts.3.0 facts.1 in
          let token = token_taken (needed_view need) stamp in
          let one : w.add.new.self ≡ with_item made_cmp token c.loop-index.taken =
          w.in_ok-add.ensures.added ∙ ap (λ v. with_item made_cmp (record { place = need.place; value = v; stamp = stamp }) c.loop-index.taken) w.in_ok-copy.ensures.same in
          w.taken-is ∙ one ∙ ap (with_item made_cmp token) c.loop-index.invariant ∙ sym (one_in_order (tokens_taken before stamps) token)
          ∙ ap (in_order made_cmp) (sym (one_taken_more before (needed_view need) stamps stamp (ap (slice_get stamps) long ∙ at))) ∙ ap (λ ns. in_order made_cmp (tokens_taken ns stamps)) (sym more)
      | in_default w ↦
          let none : slice_get stamps i ≡ None = slice_get_past stamps i (w.in_default.ensures.lookup.3) in
          w.taken-is ∙ c.loop-index.invariant ∙ ap (in_order made_cmp) (sym (none_taken_more before (needed_view need) stamps (ap (slice_get stamps) long ∙ none)))
          ∙ ap (λ ns. in_order made_cmp (tokens_taken ns stamps)) (sym more)
    ]
