-- The orders of needed and of made tokens are total, and two that are equal in them are the same.
use Rattle.std.proofs.Common.{◌≡◌, ℕ, ap, ◌∙◌, Equal, nat_cmp}
use Rattle.std.proofs.Math.Path.{ap₂}
use Rattle.std.specs.Ordering.{ordering_then}
use Rattle.std.specs.Cmp.{IsTotalOrder}
use Rattle.std.proofs.lemmas.Cmp.{on_total, nat_cmp_total, then_total}
use Rattle.cpn_definitions.specs.Value.{PlainValue}
use Rattle.cpn_definitions.specs.Order.{value_cmp}
use Rattle.cpn_definitions.specs.ValueOrder.{value_cmp_total, value_same, then_first, then_second}
use Rattle.cpn_definitions.specs.Occurrence.{Needed, Made, needed_cmp, made_cmp}
use Rattle.cpn_definitions.proofs.NumberTests.{same_number}

pub needed_cmp_total : IsTotalOrder needed_cmp
needed_cmp_total =
    then_total (on_total (λ (x : Needed). x.place) nat_cmp_total) (then_total (on_total (λ (x : Needed). x.value) value_cmp_total) (on_total (λ (x : Needed). x.offset) nat_cmp_total))

pub made_cmp_total : IsTotalOrder made_cmp
made_cmp_total =
    then_total (on_total (λ (x : Made). x.place) nat_cmp_total) (then_total (on_total (λ (x : Made). x.value) value_cmp_total) (on_total (λ (x : Made). x.stamp) nat_cmp_total))

-- the places, the values and the numbers of two that are equal
record AreEqual (p q : ℕ) (v w : PlainValue) (i j : ℕ) : Type 0 where
  places : p ≡ q
  values : v ≡ w
  numbers : i ≡ j

equal_parts : (p q : ℕ) (v w : PlainValue) (i j : ℕ) → ordering_then (nat_cmp p q) (ordering_then (value_cmp v w) (nat_cmp i j)) ≡ Equal → AreEqual p q v w i j
equal_parts p q v w i j h =
    let rest = then_second (nat_cmp p q) (ordering_then (value_cmp v w) (nat_cmp i j)) h in
    record { places = same_number p q (then_first _ _ h); values = value_same v w (then_first _ _ rest); numbers = same_number i j (then_second (value_cmp v w) _ rest) }

pub needed_same : (x y : Needed) → needed_cmp x y ≡ Equal → x ≡ y
needed_same x y h =
    let parts = equal_parts x.place y.place x.value y.value x.offset y.offset h in
    let e : record { place = x.place; value = x.value; offset = x.offset } ≡ y = ap₂ (λ p v. record { place = p; value = v; offset = x.offset }) parts.places parts.values ∙ ap (λ i. record { place = y.place; value = y.value; offset = i }) parts.numbers in e
