-- What a call through a box does to it. The call reaches a kind and a value, which are those of the box (`same`).
use Rattle.std.proofs.Common.{◌≡◌, ◌∙◌, ℕ, List, refl, sym, ap, subst, Result, OnOk, OnErr}
use Rattle.std.proofs.lemmas.Result.{on_ok_weaker, on_err_weaker}
use Rattle.std.specs.declared.dyn_box.DynBox.{DynBox}
use Rattle.cpn_definitions.specs.Legal.{PlainOccurrence}
use Rattle.cpn_probe.specs.Boxed.{Boxed}
use Rattle.cpn_probe.specs.Reported.{Adds}

-- the value that is reached has noted an occurrence, so the box has
pub noted_box : {Kind Alloc : Type 0} {State : Kind → Type 0} (notes : (k : Kind) → State k → PlainOccurrence → State k → Type 0) (b : DynBox Kind Alloc State) (k : Kind) (x new : State k) (o : PlainOccurrence)
    → notes k x o new → ◌≡◌ {A = (j : Kind) × State j} (k, x) (b.vtable, b.value)
    → Boxed {Alloc = Alloc} (λ c. notes c.vtable c.value) b o (record b { vtable = k; value = new })
noted_box {Kind} {Alloc} {State} notes b k x new o noted same =
    let P : (j : Kind) × State j → Type 0 = λ p. (new : State p.0) → notes p.0 p.1 o new → Boxed {Alloc = Alloc} (λ c. notes c.vtable c.value) b o (record b { vtable = p.0; value = new }) in
    subst P (sym same) (λ new noted. (new, noted, refl)) new noted

-- where the call has noted an occurrence, the box has
pub noted_through : {Kind Alloc T E : Type 0} {State : Kind → Type 0} (notes : (k : Kind) → State k → PlainOccurrence → State k → Type 0) (b : DynBox Kind Alloc State) (k : Kind) (x new : State k) (o : PlainOccurrence) (r : Result T E)
    → OnOk r (notes k x o new) → ◌≡◌ {A = (j : Kind) × State j} (k, x) (b.vtable, b.value)
    → OnOk r (Boxed {Alloc = Alloc} (λ c. notes c.vtable c.value) b o (record b { vtable = k; value = new }))
noted_through notes b k x new o r noted same = on_ok_weaker r (λ noted. noted_box notes b k x new o noted same) noted

-- where the call has changed nothing, the box is as it was
pub unchanged_through : {Kind Alloc T E : Type 0} {State : Kind → Type 0} (b : DynBox Kind Alloc State) (k : Kind) (x new : State k) (r : Result T E)
    → OnErr r (new ≡ x) → ◌≡◌ {A = (j : Kind) × State j} (k, x) (b.vtable, b.value)
    → OnErr r (◌≡◌ {A = DynBox Kind Alloc State} (record b { vtable = k; value = new }) b)
unchanged_through b k x new r unchanged same =
    on_err_weaker r (λ is. ap (λ v. record b { vtable = k; value = v }) is ∙ ap (λ p. record b { vtable = p.0; value = p.1 }) same) unchanged

-- where the call has appended a report, that is one of the probe in the box
pub reported_through : {Kind Alloc T E : Type 0} {State : Kind → Type 0} (reports : (k : Kind) → State k → List ℕ → Type 0) (b : DynBox Kind Alloc State) (k : Kind) (x : State k) (before now : List ℕ) (r : Result T E)
    → OnOk r (Adds (reports k x) before now) → ◌≡◌ {A = (j : Kind) × State j} (k, x) (b.vtable, b.value)
    → OnOk r (Adds (reports b.vtable b.value) before now)
reported_through {Kind} {State} reports b k x before now r reported same =
    let P : (j : Kind) × State j → Type 0 = λ p. OnOk r (Adds (reports p.0 p.1) before now) in subst P same reported
