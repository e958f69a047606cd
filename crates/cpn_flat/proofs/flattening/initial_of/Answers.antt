-- What is written of the compound places is what the definition gives.
use Rattle.std.proofs.Common.{◌≡◌, ◌∙◌, map, ap, subst, sym}
use Rattle.std.proofs.lemmas.List.{length-map}
use Rattle.cpn_core.specs.Nets.{net_view}
use Rattle.cpn_fuse.specs.Views.{instances_view}
use Rattle.cpn_accepted.specs.Views.{module_net_view}
use Rattle.cpn_flat.specs.Answers.{GivesBy}
use Rattle.cpn_flat.specs.Flat.{all_written}
use Rattle.cpn_flat.specs.InitialMarking.{written_in, AreAllMeant, started}
use Rattle.cpn_flat.specs.WrittenViews.{written_view, optional_view, lists_view}
use Rattle.cpn_flat.proofs.FlatMeanings.{lists_are}
use Rattle.cpn_flat.proofs.flattening.initial_of.Goals as goal

pub marking_of-requires-clause-meant : goal.marking_of-requires-clause-meant
marking_of-requires-clause-meant c = subst (AreAllMeant (net_view c.args.net.now).functions) (sym is) c.requires.meant
  where
    is : lists_view c.as_slice-2.result.now ≡ all_written (map module_net_view c.args.modules.now) (instances_view c.args.instances.now) c.args.classes.now
    is =
        ap lists_view c.as_slice-2.ensures.value
        ∙ lists_are (map module_net_view c.args.modules.now) (instances_view c.args.instances.now) c.args.classes.now (lists_view c.in_ok-written.written.items)
        (length-map c.in_ok-written.written.items (λ list. written_view list.items) ∙ c.in_ok-written.ensures.each)
        (λ k lt. c.in_ok-written.ensures.written k lt ∙ ap (written_in k c.args.classes.now.numbers) (ap optional_view c.as_slice.ensures.value ∙ c.in_ok-initials.ensures.initials))

pub returns : goal.returns
returns c = record { reads = subst (λ lists. GivesBy (λ marking. marking) c.marking_of.result (started (net_view c.args.net.now) lists)) is c.marking_of.ensures.started }
  where
    is : lists_view c.as_slice-2.result.now ≡ all_written (map module_net_view c.args.modules.now) (instances_view c.args.instances.now) c.args.classes.now
    is =
        ap lists_view c.as_slice-2.ensures.value
        ∙ lists_are (map module_net_view c.args.modules.now) (instances_view c.args.instances.now) c.args.classes.now (lists_view c.in_ok-written.written.items)
        (length-map c.in_ok-written.written.items (λ list. written_view list.items) ∙ c.in_ok-written.ensures.each)
        (λ k lt. c.in_ok-written.ensures.written k lt ∙ ap (written_in k c.args.classes.now.numbers) (ap optional_view c.as_slice.ensures.value ∙ c.in_ok-initials.ensures.initials))
