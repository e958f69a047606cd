-- The place stands where the numbers of the names say.
use Rattle.std.proofs.Common.{◌≡◌, sym, ap, ◌∙◌, arith}
use Rattle.std.specs.Prelude.{is_some}
use Rattle.cpn_document.specs.Views.{document_view}
use Rattle.cpn_module.specs.Named.{place_names, module_named}
use Rattle.cpn_module.specs.Names.{number_of}
use Rattle.cpn_module.proofs.NameNumbers.{told, found}
use Rattle.cpn_module.proofs.FoundPlaces.{no_module_there, in_modules, in_lists, names_there, in_places, place_there}
use Rattle.cpn_module.proofs.unknown.find_place.Goals as goal

pub returns-in_err-number-clause-there : goal.returns-in_err-number-clause-there
returns-in_err-number-clause-there c =
    let none = ap (number_of c.args.of_module.now) (sym c.requires.names.modules_are) ∙ sym c.number.ensures.number ∙ c.in_err-number.was in
    ap is_some c.from_residual.ensures ∙ no_module_there c.args.document.now c.args.of_module.now c.args.name.now none

pub index-requires : goal.index-requires
index-requires c =
    let number = ap (number_of c.args.of_module.now) (sym c.requires.names.modules_are) ∙ sym c.number.ensures.number ∙ c.in_ok-number.was in
    omega (arith, c.args.names.now.places.ok, in_lists c.args.document.now c.args.of_module.now c.in_ok-number.number number c.args.names.now.places.items c.requires.names.places_are)

pub returns-in_err-place-clause-there : goal.returns-in_err-place-clause-there
returns-in_err-place-clause-there c =
    let number = ap (number_of c.args.of_module.now) (sym c.requires.names.modules_are) ∙ sym c.number.ensures.number ∙ c.in_ok-number.was in
    let names : c.index.result.now ≡ place_names (module_named (document_view c.args.document.now) c.args.of_module.now) = rw (c.index.ensures, c.requires.names.places_are) (names_there c.args.document.now c.args.of_module.now c.in_ok-number.number number _) in
    let none = ap (number_of c.args.name.now) (sym names) ∙ sym c.number-2.ensures.number ∙ c.in_err-place.was in
    ap is_some c.from_residual-in_err-place.ensures ∙ ap is_some (sym none) ∙ told c.args.name.now (place_names (module_named (document_view c.args.document.now) c.args.of_module.now))

pub index-requires-2 : goal.index-requires-2
index-requires-2 c =
    let number = ap (number_of c.args.of_module.now) (sym c.requires.names.modules_are) ∙ sym c.number.ensures.number ∙ c.in_ok-number.was in
    omega (arith, c.args.document.now.modules.ok, in_modules c.args.document.now c.args.of_module.now c.in_ok-number.number number)

pub index-requires-3 : goal.index-requires-3
index-requires-3 c =
    let number = ap (number_of c.args.of_module.now) (sym c.requires.names.modules_are) ∙ sym c.number.ensures.number ∙ c.in_ok-number.was in
    let names : c.index.result.now ≡ place_names (module_named (document_view c.args.document.now) c.args.of_module.now) = rw (c.index.ensures, c.requires.names.places_are) (names_there c.args.document.now c.args.of_module.now c.in_ok-number.number number _) in
    let at = ap (number_of c.args.name.now) (sym names) ∙ sym c.number-2.ensures.number ∙ c.in_ok-place.was in
    omega (arith, c.index-2.result.now.places.ok, in_places c.args.document.now c.args.of_module.now c.in_ok-number.number number c.index-2.result.now c.index-2.ensures c.args.name.now c.in_ok-place.place at)

pub returns-clause-there : goal.returns-clause-there
returns-clause-there c =
    let number = ap (number_of c.args.of_module.now) (sym c.requires.names.modules_are) ∙ sym c.number.ensures.number ∙ c.in_ok-number.was in
    let names : c.index.result.now ≡ place_names (module_named (document_view c.args.document.now) c.args.of_module.now) = rw (c.index.ensures, c.requires.names.places_are) (names_there c.args.document.now c.args.of_module.now c.in_ok-number.number number _) in
    let at = ap (number_of c.args.name.now) (sym names) ∙ sym c.number-2.ensures.number ∙ c.in_ok-place.was in
    sym (found c.args.name.now (place_names (module_named (document_view c.args.document.now) c.args.of_module.now)) c.in_ok-place.place at).0

pub returns-clause-place : goal.returns-clause-place
returns-clause-place c =
    let number = ap (number_of c.args.of_module.now) (sym c.requires.names.modules_are) ∙ sym c.number.ensures.number ∙ c.in_ok-number.was in
    let names : c.index.result.now ≡ place_names (module_named (document_view c.args.document.now) c.args.of_module.now) = rw (c.index.ensures, c.requires.names.places_are) (names_there c.args.document.now c.args.of_module.now c.in_ok-number.number number _) in
    let at = ap (number_of c.args.name.now) (sym names) ∙ sym c.number-2.ensures.number ∙ c.in_ok-place.was in
    place_there c.args.document.now c.args.of_module.now c.in_ok-number.number number c.index-2.result.now c.index-2.ensures c.args.name.now c.in_ok-place.place at c.index-3.result.now c.index-3.ensures
