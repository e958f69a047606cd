-- The schedule line tells a journal apart from each other one: it is read back event by event, since no digit of a number
-- is the space or the line feed that stands after it.
use Rattle.std.proofs.Common.{◌≡◌, ◌∙◌, refl, sym, ap, ap₂, ℕ, ◌==◌, false, cond, subst, List, [], ◌∷◌, ◌++◌, drop, get_or, append_assoc, arith}
use Rattle.std.specs.Prelude.{codes}
use Rattle.std.specs.List.{flat_map}
use Rattle.std.specs.Fmt.{decimal}
use Rattle.cpn_definitions.specs.DistinctNames.{is_word_byte}
use Rattle.cpn_runs.specs.State.{PlainEvent, claim_made, claim_completed, clock_moved, cut_made}
use Rattle.cpn_runs.specs.WithoutSeats.{Kind, claim, completion, move, cut, without_seat, without_seats, AreNumbered}
use Rattle.cpn_runs.proofs.NumberedJournals.{run_is_numbered}
use Rattle.cpn_report.specs.Lines.{event_text, schedule_text}
use Rattle.cpn_report.specs.Schedule.{SchedulesDiffer}
use Rattle.cpn_report.proofs.BytesApart.{numbers_apart}

-- the events, and the end of the line
line_end : List PlainEvent → List ℕ
line_end journal = flat_map event_text journal ++ codes "\n"

-- ---- the letter of an event

abbrev letter : Kind → ℕ
letter claim = 99
letter completion = 100
letter move = 109
letter cut = 120

-- the kind of a letter
abbrev kind_of : ℕ → Kind
kind_of byte = cond (byte == 99) claim (cond (byte == 100) completion (cond (byte == 109) move cut))

kind_back : (kind : Kind) → kind_of (letter kind) ≡ kind
kind_back claim = refl
kind_back completion = refl
kind_back move = refl
kind_back cut = refl

-- an event is told by a space, its letter, and its number or time
event_is : (event : PlainEvent) (journal : List PlainEvent) → line_end (event ∷ journal) ≡ 32 ∷ letter (without_seat event).0 ∷ (decimal (without_seat event).1 ++ line_end journal)
unfolding line_end
event_is (claim_made seat number) journal = simp append_assoc
event_is (claim_completed seat number) journal = simp append_assoc
event_is (clock_moved time) journal = simp append_assoc
event_is (cut_made number) journal = simp append_assoc

-- it begins with a space or a line feed
line_ends : (journal : List PlainEvent) → is_word_byte (get_or (line_end journal) 0 0) ≡ false
unfolding line_end
line_ends [] = refl
line_ends (event ∷ journal) = subst (λ text. is_word_byte (get_or text 0 0) ≡ false) (sym (event_is event journal)) refl

-- texts that are the same have the same byte at each index
byte_at : (i : ℕ) (text other : List ℕ) → text ≡ other → get_or text i 0 ≡ get_or other i 0
byte_at i text other e = ap (λ bytes. get_or bytes i 0) e

told : (journal other : List PlainEvent) → AreNumbered journal → AreNumbered other → line_end journal ≡ line_end other → without_seats journal ≡ without_seats other
unfolding line_end
told [] [] numbered other_numbered e = refl
told [] (event ∷ other) numbered other_numbered e = absurd (omega (arith, byte_at 0 _ _ (e ∙ event_is event other)))
told (event ∷ journal) [] numbered other_numbered e = absurd (omega (arith, byte_at 0 _ _ (sym (event_is event journal) ∙ e)))
told (event ∷ journal) (event' ∷ other) numbered other_numbered e =
    let same = sym (event_is event journal) ∙ e ∙ event_is event' other in
    let kinds : (without_seat event).0 ≡ (without_seat event').0 = sym (kind_back (without_seat event).0) ∙ ap kind_of (byte_at 1 _ _ same) ∙ kind_back (without_seat event').0 in
    let apart = numbers_apart (without_seat event).1 (without_seat event').1 (line_end journal) (line_end other) numbered.0 other_numbered.0 (line_ends journal) (line_ends other) (ap (drop 2) same) in
    ap₂ (λ (told : Kind × ℕ) rest. told ∷ rest) (ap₂ (λ kind n. (kind, n)) kinds apart.0) (told journal other numbered.1 other_numbered.1 apart.1)

lines_differ : (journal other : List PlainEvent) → AreNumbered journal → AreNumbered other → schedule_text journal ≡ schedule_text other → without_seats journal ≡ without_seats other
unfolding schedule_text line_end
lines_differ journal other numbered other_numbered e = told journal other numbered other_numbered (ap (λ text. drop 8 text ++ codes "\n") e)

-- the numbers and times of a run's journal are of 64 bits
pub schedules_differ : SchedulesDiffer
schedules_differ setup setup' run run' playable playable' is is' e = lines_differ run.journal run'.journal (run_is_numbered setup run playable is) (run_is_numbered setup' run' playable' is') e
