-- The edit is there, and is made.
use Rattle.std.proofs.Common.{◌≡◌, [], ◌∷◌, refl, rules}
use Rattle.cpn_document.specs.Views.{edit_view as written_view}
use Rattle.cpn_document.specs.declared.pointers.Pointer.TheVariants.{Root}
use Rattle.cpn_edit_texts.specs.Reading.{read}
use Rattle.cpn_edit_texts.specs.Views.{edit_view}
use Rattle.cpn_edit_texts.proofs.KeptNets.{edit_there}
use Rattle.cpn_edit.specs.Standing.{Stands}
use Rattle.cpn_edit.proofs.EditedSessions.{edit_valid}
use Rattle.cpn_edit.proofs.StandingSessions.{read_in, there_in, edited_stands}
use Rattle.cpn_edit.proofs.sessions.Session.edit.Goals as goal

pub edited-requires-clause-there : goal.edited-requires-clause-there
edited-requires-clause-there c =
    let s = c.requires.stands.0 in
    let stands : Stands s c.args.self.now = c.requires.stands.1 in
    let net : c.deref.result.now ≡ c.args.self.now.net.value = search rules in
    let monitors : c.deref-2.result.now ≡ c.args.self.now.monitors.value = search rules in
    let raw = written_view c.args.edit.now in
    let made = edit_view c.in_ok-edit.edit in
    let so = read_in s c.args.self.now stands c.deref.result.now c.deref-2.result.now net monitors Root Root raw (read made) c.in_ok-edit.ensures.reads in
    there_in s c.args.self.now stands (made ∷ []) (edit_there s.declared s.net s.monitors Root Root raw made so, tt)

pub returns-clause-made : goal.returns-clause-made
returns-clause-made c = λ s stands.
    let net : c.deref.result.now ≡ c.args.self.now.net.value = search rules in
    let monitors : c.deref-2.result.now ≡ c.args.self.now.monitors.value = search rules in
    let raw = written_view c.args.edit.now in
    let made = edit_view c.in_ok-edit.edit in
    let so = read_in s c.args.self.now stands c.deref.result.now c.deref-2.result.now net monitors Root Root raw (read made) c.in_ok-edit.ensures.reads in (
      made,
      so,
      edited_stands s c.args.self.now _ stands (record { decls = refl; monitors = refl; limits = refl; seed = refl; latest = refl }) (made ∷ []) s.phases c.in_ok-net.ensures.net c.in_ok-net.ensures.initial stands.but_latest.phases
          (edit_valid s stands.but_latest.valid Root Root raw made so),
    )
