-- What stands at the number of the name.
use Rattle.std.proofs.Common.{◌≡◌, ◌∙◌, sym, ap, length, arith}
use Rattle.cpn_names.specs.Names.{number_of}
use Rattle.cpn_names.specs.Named.{names_of}
use Rattle.cpn_names.proofs.FirstOfNames.{number_below}
use Rattle.cpn_names.proofs.KeptNumbers.{names_length}
use Rattle.cpn_names.proofs.FoundThings.{thing_found, no_thing}
use Rattle.cpn_names.proofs.named.Named.get.Goals as goal

pub index-requires : goal.index-requires
index-requires g c =
    let below = number_below c.args.name.now (names_of c.args.self.now) c.in-Some.number (sym c.number.ensures.number ∙ c.in-Some.is) in
    let many : length (names_of c.args.self.now) ≡ length c.self.inside.entries.items = rw (← c.self.view_is) (names_length c.self.inside.entries.items) in
    omega (arith, below, many)

pub returns-in-Some : goal.returns-in-Some
returns-in-Some g c = record {
  value = rw (← c.self.view_is) (thing_found c.args.name.now c.self.inside.entries.items c.in-Some.number c.index.result.now (ap (λ es. number_of c.args.name.now (names_of es)) c.self.view_is ∙ sym c.number.ensures.number ∙ c.in-Some.is) c.index.ensures);
}

pub returns-in-None : goal.returns-in-None
returns-in-None g c = record { value = sym (no_thing c.args.name.now c.args.self.now (sym c.number.ensures.number ∙ c.in-None.is)) }
