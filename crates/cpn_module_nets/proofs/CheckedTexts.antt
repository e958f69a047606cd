-- What a check refuses is refused where it stands.
use Rattle.std.proofs.Common.{◌≡◌, refl}
use Rattle.std.specs.Prelude.{Option, Some, None, option_map}
use Rattle.cpn_typing.specs.Names.{Checked, Refusal as TypeRefusal}
use Rattle.cpn_typing.specs.Answers.{Refuses as Forbids}
use Rattle.cpn_text_refusals.specs.Refusals.{typing}
use Rattle.cpn_module_nets.specs.Reading.{inscription, NetRefusal, Reading, ◌>>=◌}
use Rattle.cpn_module_nets.specs.Accepted.{accepted_at}
use Rattle.cpn_module_nets.specs.Answers.{Refuses}
use Rattle.cpn_document.specs.declared.pointers.Pointer.{Pointer}

module _ {A : Type 0} (at : Pointer) (checked : Checked A) where
  -- a refusal by a rule of typing
  pub refused_there : (o : Option TypeRefusal) (q : Option NetRefusal) → q ≡ option_map (λ r. inscription at (typing r)) o → Forbids o checked → Refuses q (accepted_at at checked)
  refused_there None q is h = rw is tt
  refused_there (Some r) q is h = rw (is, h) refl

  -- and what follows the check is refused with it
  pub refused_then : {B : Type 0} (next : A → Reading B) (o : Option TypeRefusal) (q : Option NetRefusal) → q ≡ option_map (λ r. inscription at (typing r)) o → Forbids o checked → Refuses q (accepted_at at checked >>= next)
  refused_then next None q is h = rw is tt
  refused_then next (Some r) q is h = rw (is, h) refl
