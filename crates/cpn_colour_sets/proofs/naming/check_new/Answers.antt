-- The next name is new beside those before it.
use Rattle.std.proofs.Common.{◌≡◌, ◌∙◌, true, ◌∷◌, map, take, ap, sym, refl, string_bytes}
use Rattle.cpn_typing.specs.ColourSets.{is_new, other_names}
use Rattle.cpn_typing.specs.Names.{duplicate, accepted_if}
use Rattle.cpn_declared.specs.Additions.{all_before}
use Rattle.cpn_declared.specs.DeclsViews.{decls_view}
use Rattle.cpn_colour_sets.proofs.NameLists.{next_is_new}
use Rattle.cpn_colour_sets.proofs.naming.check_new.Goals as goal

pub loop-position-preserved : goal.loop-position-preserved
loop-position-preserved c =
    let taken = other_names (decls_view c.args.decls.now) in
    let n = c.as_str-name.result.now in
    let now = all_before (map string_bytes (take c.loop-position.position c.args.names.now)) taken in
    let new : is_new n now ≡ true = sym c.is_new_beside.ensures.exact ∙ c.if-not-is_new_beside.false in
    next_is_new c.args.names.now c.loop-position.position c.index-names-position.result c.loop-position-test.true c.index-names-position.is n c.as_str-name.ensures.value taken now refl (n ∷ now)
    (ap (λ b. accepted_if b (duplicate n) (n ∷ now)) new)
    ∙ c.loop-position.invariant
