-- A session is valid after an edit that is accepted, and after its next phase is taken.
use Rattle.std.proofs.Common.{◌≡◌, ℕ, suc, List, [], ◌∷◌, length, refl, sym, ap, ◌∙◌, subst}
use Rattle.std.specs.List.{AllByRecursion}
use Rattle.std.proofs.lemmas.List.{length-map}
use Rattle.cpn_definitions.specs.Marking.{Marking}
use Rattle.cpn_definitions.specs.Net.{Coloured, PlainNet}
use Rattle.cpn_document.specs.Phases.{RawEdit, RawPhase, at_edit}
use Rattle.cpn_document.specs.declared.pointers.EditPart.TheVariants as of_edit
use Rattle.cpn_document.specs.declared.pointers.Pointer.{Pointer}
use Rattle.cpn_edit_texts.specs.Checked.{edit_so, edits_so, phase_so, phases_so}
use Rattle.cpn_edit_texts.specs.Edits.{PlainEdit, edits_guard, edits_initial, EditedPhase, net_after, initial_after, net_after_all, initial_after_all, but_guard, AreAlikeButGuards}
use Rattle.cpn_edit_texts.specs.Reading.{read}
use Rattle.cpn_edit_texts.specs.Ready.{IsReady, IsThere}
use Rattle.cpn_edit_texts.proofs.AlikeEdits.{phases_alike}
use Rattle.cpn_edit_texts.proofs.EditedNets.{edit_ready}
use Rattle.cpn_edit_texts.proofs.KeptNets.{edit_keeps, edit_there}
use Rattle.cpn_monitor.specs.Monitors.{PlainMonitor}
use Rattle.cpn_readings.proofs.Readings.{same_read}
use Rattle.cpn_readings.proofs.RelatedReadings.{step_parts}
use Rattle.cpn_runs.specs.Phases.{ArePhases}
use Rattle.cpn_typing.specs.Names.{Declared}
use Rattle.cpn_edit.specs.Sessions.{PlainSession, after_edit, after_phase}
use Rattle.cpn_edit.specs.Standing.{AreAcceptedPhases, IsValid}

-- ---- what edits leave

-- the places
pub places_after : (n : PlainNet) (edit : PlainEdit) → (net_after n edit).places ≡ n.places
places_after n (edits_guard t edited) = refl
places_after n (edits_initial p tokens) = refl

pub places_after_all : (n : PlainNet) (edits : List PlainEdit) → (net_after_all n edits).places ≡ n.places
places_after_all n [] = refl
places_after_all n (edit ∷ edits) = places_after_all (net_after n edit) edits ∙ places_after n edit

-- as many transitions
as_many : (n m : PlainNet) → AreAlikeButGuards n m → length n.transitions ≡ length m.transitions
as_many n m alike =
    sym (length-map n.transitions but_guard) ∙ ap (λ (k : PlainNet). length k.transitions) alike ∙ length-map m.transitions but_guard

module _ (ds : Declared) (monitors : List PlainMonitor) (p : ℕ) where
  abbrev of_whole : ℕ → Pointer
  of_whole e = at_edit p e of_edit.Whole

  abbrev of_text : ℕ → Pointer
  of_text e = at_edit p e of_edit.Text

  -- edits that are read leave a net ready
  edits_ready : (e : ℕ) (n : PlainNet) (m : Marking) → IsReady ds n m monitors → (raws : List RawEdit) (edits : List PlainEdit) → edits_so ds monitors p e n raws (read edits) → IsReady ds (net_after_all n edits) (initial_after_all m edits) monitors
  unfolding edits_so
  edits_ready e n m ready [] edits h = subst (λ (es : List PlainEdit). IsReady ds (net_after_all n es) (initial_after_all m es) monitors) (sym (same_read edits [] h)) ready
  edits_ready e n m ready (raw ∷ raws) edits h =
      let first = step_parts (edit_so ds n monitors (of_whole e) (of_text e) raw) _ edits h in
      let rest = step_parts (edits_so ds monitors p (suc e) (net_after n first.0) raws) _ edits first.2 in
      subst (λ (es : List PlainEdit). IsReady ds (net_after_all n es) (initial_after_all m es) monitors) (sym (same_read edits (first.0 ∷ rest.0) rest.2))
      (edits_ready (suc e) (net_after n first.0) (initial_after m first.0) (edit_ready ds n m monitors ready (of_whole e) (of_text e) raw first.0 first.1) raws rest.0 rest.1)

  -- what they change is there
  edits_there : (transitions places e : ℕ) (n : PlainNet) → length n.transitions ≡ transitions → length n.places ≡ places → (raws : List RawEdit) (edits : List PlainEdit) → edits_so ds monitors p e n raws (read edits) → AllByRecursion (IsThere transitions places) edits
  unfolding edits_so
  edits_there transitions places e n ts ps [] edits h = subst (AllByRecursion (IsThere transitions places)) (sym (same_read edits [] h)) tt
  edits_there transitions places e n ts ps (raw ∷ raws) edits h =
      let first = step_parts (edit_so ds n monitors (of_whole e) (of_text e) raw) _ edits h in
      let rest = step_parts (edits_so ds monitors p (suc e) (net_after n first.0) raws) _ edits first.2 in
      let there : IsThere transitions places first.0 =
      subst (λ (k : ℕ). IsThere k places first.0) ts (subst (λ (k : ℕ). IsThere (length n.transitions) k first.0) ps (edit_there ds n monitors (of_whole e) (of_text e) raw first.0 first.1)) in
      let kept = edit_keeps ds n monitors (of_whole e) (of_text e) raw first.0 first.1 in
      subst (AllByRecursion (IsThere transitions places)) (sym (same_read edits (first.0 ∷ rest.0) rest.2))
      (there, edits_there transitions places (suc e) (net_after n first.0) (as_many (net_after n first.0) n kept ∙ ts) (ap (λ (cs : List Coloured). length cs) (places_after n first.0) ∙ ps) raws rest.0 rest.1)

-- ---- the next phase

-- the next of some phases that are accepted: its edits are, and then those of the others
pub record IsAcceptedNext (ds : Declared) (monitors : List PlainMonitor) (n : PlainNet) (phase : EditedPhase) (left : List EditedPhase) : Type 0 where
  pub number : ℕ
  pub written : List RawEdit
  pub edits : edits_so ds monitors number 0 n written (read phase.edits)
  pub others : AreAcceptedPhases ds monitors (net_after_all n phase.edits) left

the_edits : (ds : Declared) (monitors : List PlainMonitor) (n : PlainNet) (number : ℕ) (raw : RawPhase) (phase : EditedPhase) → phase_so ds monitors n number raw (read phase) → edits_so ds monitors number 0 n raw.edits (read phase.edits)
unfolding phase_so
the_edits ds monitors n number raw phase h =
    let edits = step_parts (edits_so ds monitors number 0 n raw.edits) _ phase h in
    subst (λ (x : EditedPhase). edits_so ds monitors number 0 n raw.edits (read x.edits)) (sym (same_read phase (record { start = raw.start; edits = edits.0 }) edits.2)) edits.1

abbrev pub head_or : EditedPhase → List EditedPhase → EditedPhase
head_or d [] = d
head_or d (x ∷ xs) = x

abbrev pub tail_of : List EditedPhase → List EditedPhase
tail_of [] = []
tail_of (x ∷ xs) = xs

accepted_next : (ds : Declared) (monitors : List PlainMonitor) (n : PlainNet) (phase : EditedPhase) (left : List EditedPhase) (number : ℕ) (raws : List RawPhase) → phases_so ds monitors number n raws (read (phase ∷ left)) → IsAcceptedNext ds monitors n phase left
unfolding phases_so
accepted_next ds monitors n phase left number [] h = let none : phase ∷ left ≡ [] = same_read (phase ∷ left) [] h in cc
accepted_next ds monitors n phase left number (raw ∷ raws) h =
    let first = step_parts (phase_so ds monitors n number raw) _ (phase ∷ left) h in
    let rest = step_parts (phases_so ds monitors (suc number) (net_after_all n first.0.edits) raws) _ (phase ∷ left) first.2 in
    let same : phase ∷ left ≡ first.0 ∷ rest.0 = same_read (phase ∷ left) (first.0 ∷ rest.0) rest.2 in
    let one : phase ≡ first.0 = ap (head_or phase) same in
    let others : left ≡ rest.0 = ap tail_of same in
    record {
      number = number;
      written = raw.edits;
      edits = the_edits ds monitors n number raw phase (subst (λ (x : EditedPhase). phase_so ds monitors n number raw (read x)) (sym one) first.1);
      others = subst (λ (x : EditedPhase). AreAcceptedPhases ds monitors (net_after_all n x.edits) left) (sym one)
          (subst (AreAcceptedPhases ds monitors (net_after_all n first.0.edits)) (sym others) (suc number, raws, rest.1));
    }

module _ (s : PlainSession) (valid : IsValid s) where
  module _ (phase : EditedPhase) (left : List EditedPhase) (are : s.phases ≡ phase ∷ left) where
    pub next : IsAcceptedNext s.declared s.monitors s.net phase left
    next =
        let accepted = subst (AreAcceptedPhases s.declared s.monitors s.net) are valid.accepted in
        accepted_next s.declared s.monitors s.net phase left accepted.0 accepted.1 accepted.2

    -- What the edits of the next phase change is there.
    pub phase_there : AllByRecursion (IsThere (length s.net.transitions) (length s.net.places)) phase.edits
    phase_there = edits_there s.declared s.monitors next.number (length s.net.transitions) (length s.net.places) 0 s.net refl refl next.written phase.edits next.edits

    -- A session is valid after its next phase is taken.
    pub phase_valid : IsValid (after_phase s phase left)
    phase_valid = record {
      ready = edits_ready s.declared s.monitors next.number 0 s.net s.initial valid.ready next.written phase.edits next.edits;
      accepted = next.others;
      runs = subst (λ (ps : List Coloured). ArePhases ps s.limits.until s.earlier) (sym (places_after_all s.net phase.edits)) valid.runs;
      few = valid.few;
      steps = valid.steps;
      until = valid.until;
      some_seat = valid.some_seat;
      few_seats = valid.few_seats;
    }

  -- and after an edit that is accepted
  pub edit_valid : (whole at : Pointer) (raw : RawEdit) (edit : PlainEdit) → edit_so s.declared s.net s.monitors whole at raw (read edit) → IsValid (after_edit s edit)
  edit_valid whole at raw edit h =
      let kept = edit_keeps s.declared s.net s.monitors whole at raw edit h in
      record {
        ready = edit_ready s.declared s.net s.initial s.monitors valid.ready whole at raw edit h;
        accepted = (valid.accepted.0, valid.accepted.1, phases_alike s.declared s.monitors valid.accepted.0 s.net (net_after s.net edit) (sym kept) valid.ready.editable.declares valid.accepted.1 (read s.phases) valid.accepted.2);
        runs = subst (λ (ps : List Coloured). ArePhases ps s.limits.until s.earlier) (sym (places_after s.net edit)) valid.runs;
        few = valid.few;
        steps = valid.steps;
        until = valid.until;
        some_seat = valid.some_seat;
        few_seats = valid.few_seats;
      }
