-- The names so far, and at the end those of all constructors.
use Rattle.std.proofs.Common.{◌≡◌, ◌∙◌, map, take, ap, string_bytes, arith}
use Rattle.std.proofs.lemmas.List.{take_all}
use Rattle.cpn_declared.proofs.ConstructorNames.{names_are}
use Rattle.cpn_declared.proofs.parts.names_of.Goals as goal

pub returns : goal.returns
returns c =
    let all : take c.loop-constructor.constructor-index c.args.constructors.now ≡ c.args.constructors.now = take_all c.loop-constructor.constructor-index c.args.constructors.now (omega arith) in
    record { exact = c.loop-constructor.invariant ∙ ap (map (λ c. string_bytes c.name)) all ∙ names_are c.args.constructors.now }

pub loop-constructor-init : goal.loop-constructor-init
loop-constructor-init c = ap (map string_bytes) c.in_ok-names.ensures.items
