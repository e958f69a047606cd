-- What a document that is not read gives: its refusal, with the cause and the status of it, or want of memory.
use Rattle.std.proofs.Common.{◌≡◌, ℕ, ◌≤◌, List, length, Option, Some, None, IfSome, sym, subst}
use Rattle.std.specs.Prelude.{option_map}
use Rattle.std.specs.Option.{MatchOption}
use Rattle.cpn_model.specs.Reading.{ModelRefusal, refused}
use Rattle.cpn_model.specs.Models.{IsModel}
use Rattle.cpn_simulation.specs.Limits.{most_bytes}
use Rattle.cpn_simulation.specs.Causes.{PlainRefusal, bad_document, GiveOptions, HasCause, HaveOneReading, IsReadOnce}
use Rattle.cpn_simulation.specs.RefusalViews.{refusal_view}
use Rattle.cpn_simulation.specs.declared.refusals.Refusal.{Refusal as TheRefusal}
use Rattle.cpn_simulation.specs.declared.refusals.Refusal.TheVariants as refusals

-- ---- causes

-- what holds of the bytes that were read holds of those that were left
in_left : (P : List ℕ → Type 0) (left : Option (List ℕ)) (bytes : List ℕ) → IfSome left (λ xs. bytes ≡ xs) → P bytes → IfSome left P
in_left P None bytes same holds = tt
in_left P (Some xs) bytes same holds = subst P same holds

-- the bytes have one reading
pub read_once : (left : Option (List ℕ)) (bytes : List ℕ) → IfSome left (λ xs. bytes ≡ xs) → HaveOneReading bytes → IfSome left HaveOneReading
read_once left bytes same one = in_left HaveOneReading left bytes same one

module _ (o : Option ModelRefusal) (refusal : TheRefusal) (left : Option (List ℕ)) (bytes : List ℕ) (is : refusal_view refusal ≡ option_map bad_document o) (same : IfSome left (λ xs. bytes ≡ xs)) where
  -- the refusal has its cause
  pub its_cause : (words : List (List ℕ)) (before now : ℕ) → (refusal_view refusal ≡ None → refusal ≡ refusals.Memory) → GiveOptions words → length bytes ≤ most_bytes → IfSome o (λ r. IsModel bytes (refused r))
      → MatchOption (refusal_view refusal) (refusal ≡ refusals.Memory) (λ plain. HasCause plain words left before now)
  its_cause words before now memory given short refuses = by o is refuses
    where
      by : (p : Option ModelRefusal) → refusal_view refusal ≡ option_map bad_document p → IfSome p (λ r. IsModel bytes (refused r)) → MatchOption (refusal_view refusal) (refusal ≡ refusals.Memory) (λ plain. HasCause plain words left before now)
      by None e reads = subst (λ (v : Option PlainRefusal). MatchOption v (refusal ≡ refusals.Memory) (λ plain. HasCause plain words left before now)) (sym e) (memory e)
      by (Some r) e reads =
          subst (λ (v : Option PlainRefusal). MatchOption v (refusal ≡ refusals.Memory) (λ plain. HasCause plain words left before now)) (sym e)
          (given, in_left (λ b. (length b ≤ most_bytes) × IsModel b (refused r)) left bytes same (short, reads))

  -- and the document, one reading
  pub its_reading : HaveOneReading bytes → IfSome (refusal_view refusal) (λ plain. IsReadOnce plain left)
  its_reading one = by o is
    where
      by : (p : Option ModelRefusal) → refusal_view refusal ≡ option_map bad_document p → IfSome (refusal_view refusal) (λ plain. IsReadOnce plain left)
      by None e = subst (λ (v : Option PlainRefusal). IfSome v (λ plain. IsReadOnce plain left)) (sym e) tt
      by (Some r) e = subst (λ (v : Option PlainRefusal). IfSome v (λ plain. IsReadOnce plain left)) (sym e) (in_left HaveOneReading left bytes same one)
