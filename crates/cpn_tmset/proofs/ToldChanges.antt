-- What is told of a change and of one behind it.
use Rattle.std.proofs.Common.{◌≡◌, ℕ, Bool, true, false, ◌||◌, List, [], ◌∷◌, ◌++◌, sym, ◌∙◌}
use Rattle.std.proofs.lemmas.Bool.{or_parts}
use Rattle.std.proofs.lemmas.List.Folds.{list_any-append}
use Rattle.cpn_definitions.specs.Marking.{Marking}
use Rattle.cpn_definitions.specs.Value.{PlainValue}
use Rattle.cpn_tmset.specs.Changed.{PlainChange, is_change, is_told, OthersStay}

-- of both lists it is told what is told of one of them
pub told_joined : (p : ℕ) (v : PlainValue) (cs ds : List PlainChange) → is_told p v (cs ++ ds) ≡ (is_told p v cs || is_told p v ds)
told_joined p v cs ds = list_any-append (is_change p v) cs ds

-- so what is told of neither stays through both changes
pub others_joined : (cs ds : List PlainChange) (old between new : Marking) → OthersStay cs old between → OthersStay ds between new → OthersStay (cs ++ ds) old new
others_joined cs ds old between new first second = λ p v none.
    let parts = or_parts (is_told p v cs) (is_told p v ds) (sym (told_joined p v cs ds) ∙ none) in
    second p v parts.1 ∙ first p v parts.0
