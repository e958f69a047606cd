-- The order of places with values is total, and two that are equal in it are the same.
use Rattle.std.proofs.Common.{◌≡◌, sym, Equal, nat_cmp}
use Rattle.std.proofs.Math.Path.{ap₂}
use Rattle.std.specs.Cmp.{IsTotalOrder}
use Rattle.std.proofs.lemmas.Cmp.{ranked, on_total, nat_cmp_total, then_total}
use Rattle.cpn_definitions.specs.ValueOrder.{value_cmp_total, value_same, then_first, then_second}
use Rattle.cpn_tmset.specs.Changed.{PlainChange, change_cmp}

pub change_cmp_total : IsTotalOrder change_cmp
change_cmp_total = then_total (on_total (λ (x : PlainChange). x.place) nat_cmp_total) (on_total (λ (x : PlainChange). x.value) value_cmp_total)

pub change_same : (x y : PlainChange) → change_cmp x y ≡ Equal → x ≡ y
change_same x y h =
    let places : x.place ≡ y.place = ranked x.place y.place Equal (sym (then_first _ _ h)) in
    let values : x.value ≡ y.value = value_same x.value y.value (then_second (nat_cmp x.place y.place) _ h) in
    let e : record { place = x.place; value = x.value } ≡ y = ap₂ (λ p v. record { place = p; value = v }) places values in e
