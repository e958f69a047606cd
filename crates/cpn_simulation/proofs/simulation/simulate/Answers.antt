-- What a report and a refusal give.
use Rattle.std.proofs.Common.{ℕ, List, map, string_bytes, inl, inr, refl, subst}
use Rattle.std.specs.Io.KnownBytes.{Appends}
use Rattle.cpn_io.specs.Outside.{AppendsProperPrefix}
use Rattle.cpn_simulation.specs.Documents.{document_of}
use Rattle.cpn_simulation.specs.Causes.{PlainRefusal, HasCause, IsReadOnce, error_line, IsRefused}
use Rattle.cpn_simulation.proofs.ReadDocuments.{read_length}
use Rattle.cpn_simulation.proofs.RefusalCauses.{plain_of, no_report, words_told, read_told, long_told, document_told, refused_words, refused_long, refused_document, refused_complete}
use Rattle.cpn_simulation.specs.declared.statuses.Status.TheVariants as statuses
use Rattle.cpn_simulation.proofs.WrittenReports.{no_other, written as is_written, to_be_written, not_refused_words, not_too_long, not_refused}
use Rattle.cpn_simulation.proofs.simulation.simulate.Goals as goal

pub returns-in-Ok-write_all : goal.returns-in-Ok-write_all
returns-in-Ok-write_all g c =
    let words : List (List ℕ) = map string_bytes c.args.words.now in
    let left = document_of words (g.S.Source.left c.args.source.now) in
    let old = g.K.Sink.held c.args.sink.now in
    let new = g.K.Sink.held c.write_all.new.sink in
    let status = c.in-Ok.report.status in
    let text : List ℕ = string_bytes c.in-Ok.report.text in
    let is_of = c.in-Ok.ensures.status in
    let reported = c.in-Ok.ensures.report in
    let P : List ℕ → Type 0 = λ bytes. Appends old new bytes in
    let appended : Appends old new text = subst P c.as_bytes.ensures.value c.in-Ok-write_all.ensures.ok in
    record {
      done = λ is. is_written words _ left statuses.Done status text old new reported is appended;
      run_fault = λ is. is_written words _ left statuses.RunFault status text old new reported is appended;
      read_to_end = λ _ reads. c.in-Ok.ensures.end reads;
      unread = c.answer-answered.ensures.unread;
      words = λ is. no_other status statuses.BadWords is_of refl is;
      read = λ is. no_other status statuses.ReadFault is_of refl is;
      long = λ is. no_other status statuses.TooLong is_of refl is;
      document = λ is. no_other status statuses.BadDocument is_of refl is;
      inscription = λ is. no_other status statuses.BadInscription is_of refl is;
      net = λ is. no_other status statuses.BadNet is_of refl is;
      write = λ is. no_other status statuses.WriteFault is_of refl is;
      words_line = λ is. no_other status statuses.BadWords is_of refl is;
      read_line = λ is. no_other status statuses.ReadFault is_of refl is;
      long_line = λ is. no_other status statuses.TooLong is_of refl is;
      memory = λ is. no_other status statuses.Memory is_of refl is;
      write_part = λ is. no_other status statuses.WriteFault is_of refl is;
      bad_words = λ none. absurd (not_refused_words words c.in-Ok.ensures.options none);
      too_long = λ options some bytes is long. absurd (not_too_long words _ left status text bytes is reported long);
      bad_document = λ options some bytes is short refusal reads its. absurd (not_refused words _ left status text bytes is reported c.in-Ok.ensures.one_reading refusal reads);
      bad_inscription = λ options some bytes is short refusal reads its. absurd (not_refused words _ left status text bytes is reported c.in-Ok.ensures.one_reading refusal reads);
      bad_net = λ options some bytes is short refusal reads its. absurd (not_refused words _ left status text bytes is reported c.in-Ok.ensures.one_reading refusal reads);
      complete = λ options some bytes is short model reads. inl is_of;
    }

pub returns-in-Ok-clause-write_part : goal.returns-in-Ok-clause-write_part
returns-in-Ok-clause-write_part g c = λ is.
    let words : List (List ℕ) = map string_bytes c.args.words.now in
    let left = document_of words (g.S.Source.left c.args.source.now) in
    let text : List ℕ = string_bytes c.in-Ok.report.text in
    let P : List ℕ → Type 0 = λ bytes. AppendsProperPrefix (g.K.Sink.held c.args.sink.now) (g.K.Sink.held c.write_all.new.sink) bytes in
    (text, to_be_written words _ left _ _ c.in-Ok.report.status text c.in-Ok.ensures.options c.in-Ok.ensures.report, subst P c.as_bytes.ensures.value c.in-Err-write_all.ensures.err)

pub returns-in-Ok-line_of : goal.returns-in-Ok-line_of
returns-in-Ok-line_of g c =
    let words : List (List ℕ) = map string_bytes c.args.words.now in
    let left = document_of words (g.S.Source.left c.args.source.now) in
    let before = g.S.Source.faults c.args.source.now in
    let after = g.S.Source.faults c.answer-answered.new.source in
    let old = g.K.Sink.held c.args.sink.now in
    let new = g.K.Sink.held c.refuse.new.sink in
    let faults = g.K.Sink.faults c.args.sink.now in
    let now = g.K.Sink.faults c.refuse.new.sink in
    let given : (plain : PlainRefusal) × HasCause plain words left before after × IsReadOnce plain left × IsRefused plain c.refuse.result old new faults now =
    plain_of c.in-Err.refusal _ c.in-Err.ensures.cause c.in-Err.ensures.read_once c.refuse.ensures.refused c.in-Ok-line_of.ensures.memory in
    let plain = given.0 in
    let cause = given.1 in
    let once = given.2 in
    let written = given.3 in
    record {
      done = λ is. absurd (no_report plain words left before after c.refuse.result old new faults now cause once written (inl is));
      run_fault = λ is. absurd (no_report plain words left before after c.refuse.result old new faults now cause once written (inr is));
      read_to_end = λ is _. absurd (no_report plain words left before after c.refuse.result old new faults now cause once written is);
      unread = c.answer-answered.ensures.unread;
      words = λ is. (words_told plain words left before after c.refuse.result old new faults now cause once written is).0;
      read = λ is. (read_told plain words left before after c.refuse.result old new faults now cause once written is).0;
      long = λ is. read_length words _ (long_told plain words left before after c.refuse.result old new faults now cause once written is).0;
      document = λ is. let told = document_told plain words left before after c.refuse.result old new faults now cause once written statuses.BadDocument refl (λ e. cc) (λ e. cc) is in (told.1.0, (told.0, told.2, told.3, told.1.1));
      inscription = λ is. let told = document_told plain words left before after c.refuse.result old new faults now cause once written statuses.BadInscription refl (λ e. cc) (λ e. cc) is in (told.1.0, (told.0, told.2, told.3, told.1.1));
      net = λ is. let told = document_told plain words left before after c.refuse.result old new faults now cause once written statuses.BadNet refl (λ e. cc) (λ e. cc) is in (told.1.0, (told.0, told.2, told.3, told.1.1));
      write = λ is. written.fault is;
      words_line = λ is. (words_told plain words left before after c.refuse.result old new faults now cause once written is).1;
      read_line = λ is. (read_told plain words left before after c.refuse.result old new faults now cause once written is).1;
      long_line = λ is. (long_told plain words left before after c.refuse.result old new faults now cause once written is).1;
      memory = λ is. written.memory is;
      write_part = λ is. (error_line plain, inr (plain, cause, refl), written.part is);
      bad_words = refused_words plain words left before after c.refuse.result old new faults now cause once written;
      too_long = refused_long plain words left before after c.refuse.result old new faults now cause once written;
      bad_document = refused_document plain words left before after c.refuse.result old new faults now cause once written statuses.BadDocument;
      bad_inscription = refused_document plain words left before after c.refuse.result old new faults now cause once written statuses.BadInscription;
      bad_net = refused_document plain words left before after c.refuse.result old new faults now cause once written statuses.BadNet;
      complete = refused_complete plain words left before after c.refuse.result old new faults now cause once written;
    }
