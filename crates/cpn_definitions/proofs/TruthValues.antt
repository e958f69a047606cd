-- Truth values.
use Rattle.std.proofs.Common.{◌≡◌, Bool, true, false}

-- none is true and false
pub not_both : (b : Bool) → b ≡ true → b ≡ false → ⊥
not_both b is is_not = cc
