-- What an answer tells of a partial binding that is extended.
use Rattle.std.specs.Prelude.{◌≡◌, Bool, true, false, Option, Some, None, Result, Ok, Err}

-- it has become what it was to be, or it cannot be
abbrev pub BecomesIf : {A : Type 0} → Bool → A → Option A → Type 0
BecomesIf true new wanted = wanted ≡ Some new
BecomesIf false new wanted = wanted ≡ None

-- the same of an answer that may be an error, which tells nothing
abbrev pub Becomes : {A E : Type 0} → Result Bool E → A → Option A → Type 0
Becomes (Ok is) new wanted = BecomesIf is new wanted
Becomes (Err e) new wanted = Unit {0}
