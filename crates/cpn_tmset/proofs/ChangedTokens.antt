-- Tokens with one more or one fewer, told by the stamps of each value.
use Rattle.std.proofs.Common.{◌≡◌, ℕ, ◌+◌, cond, List, length, Some, None, refl, sym, ap, ◌∙◌, nat_cmp}
use Rattle.cpn_definitions.specs.Value.{PlainValue}
use Rattle.cpn_definitions.specs.Order.{same_value}
use Rattle.cpn_definitions.specs.Lists.{with_item}
use Rattle.cpn_definitions.specs.Marking.{Tokens, token_at, add_token, without_token, without_latest}
use Rattle.cpn_definitions.proofs.SortedTokens.{add_token_sorted, without_token_sorted}
use Rattle.cpn_definitions.proofs.Addition.{stamps_with}
use Rattle.cpn_tmset.specs.Stamps.{latest_of}
use Rattle.cpn_tmset.specs.TMSets.{Entries, tokens_in, stamps_in, AreKept}
use Rattle.cpn_tmset.proofs.KeptTokens.{tokens_sorted, stamps_kept}
use Rattle.cpn_definitions.proofs.PlaceCounts.{length-add_token}
use Rattle.cpn_definitions.proofs.SameTokens.{same_tokens, stamps_of_without}
use Rattle.cpn_tmset.proofs.TokenCounts.{length-without_token}
use Rattle.cpn_tmset.proofs.EntryStamps.{unchanged, none_without}

module _ (v : PlainValue) (s : ℕ) (old new : Entries) (kept : AreKept old) (kept' : AreKept new) where
  pub one_more : ((w : PlainValue) → stamps_in w new ≡ cond (same_value w v) (with_item nat_cmp s (stamps_in w old)) (stamps_in w old)) → tokens_in new ≡ add_token (token_at v s) (tokens_in old)
  one_more added =
      same_tokens (tokens_in new) (add_token (token_at v s) (tokens_in old)) (tokens_sorted new kept') (add_token_sorted (token_at v s) (tokens_in old) (tokens_sorted old kept))
      (λ w. stamps_kept w new kept'.rise ∙ added w ∙ ap (λ (ss : List ℕ). cond (same_value w v) (with_item nat_cmp s ss) ss) (sym (stamps_kept w old kept.rise)) ∙ sym (stamps_with w v s (tokens_in old) (tokens_sorted old kept)))

  pub one_longer : ((w : PlainValue) → stamps_in w new ≡ cond (same_value w v) (with_item nat_cmp s (stamps_in w old)) (stamps_in w old)) → length (tokens_in new) ≡ length (tokens_in old) + 1
  one_longer added = ap (λ (ks : Tokens). length ks) (one_more added) ∙ length-add_token (token_at v s) (tokens_in old)

  -- s is the threshold here
  pub one_fewer : ((w : PlainValue) → stamps_in w new ≡ cond (same_value w v) (without_latest s (stamps_in w old)) (stamps_in w old)) → tokens_in new ≡ without_token v s (tokens_in old)
  one_fewer taken =
      same_tokens (tokens_in new) (without_token v s (tokens_in old)) (tokens_sorted new kept') (without_token_sorted v s (tokens_in old) (tokens_sorted old kept))
      (λ w. stamps_kept w new kept'.rise ∙ taken w ∙ ap (λ (ss : List ℕ). cond (same_value w v) (without_latest s ss) ss) (sym (stamps_kept w old kept.rise)) ∙ sym (stamps_of_without w v s (tokens_in old) (tokens_sorted old kept)))

  pub one_shorter : (stamp : ℕ) → latest_of s (stamps_in v old) ≡ Some stamp → ((w : PlainValue) → stamps_in w new ≡ cond (same_value w v) (without_latest s (stamps_in w old)) (stamps_in w old)) → length (tokens_in new) + 1 ≡ length (tokens_in old)
  one_shorter stamp named taken =
      ap (λ (ks : Tokens). length ks + 1) (one_fewer taken) ∙ length-without_token v s stamp (tokens_in old) (ap (latest_of s) (stamps_kept v old kept.rise) ∙ named)

  -- where no stamp was named the tokens are as they were
  pub none_fewer : latest_of s (stamps_in v old) ≡ None → ((w : PlainValue) → stamps_in w new ≡ cond (same_value w v) (without_latest s (stamps_in w old)) (stamps_in w old)) → tokens_in new ≡ tokens_in old
  none_fewer none taken =
      same_tokens (tokens_in new) (tokens_in old) (tokens_sorted new kept') (tokens_sorted old kept)
      (λ w. stamps_kept w new kept'.rise ∙ taken w ∙ sym (unchanged (without_latest s) w v (stamps_in v old) old refl (none_without s (stamps_in v old) none)) ∙ sym (stamps_kept w old kept.rise))
