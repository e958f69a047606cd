-- The places and the transitions are those under the names of the instances.
use Rattle.std.proofs.Common.{◌∙◌, map, string_bytes, ap, ap₂, subst}
use Rattle.cpn_core.specs.Nets.{place_view}
use Rattle.cpn_document.specs.Views.{document_view}
use Rattle.cpn_fuse.specs.Views.{instances_view}
use Rattle.cpn_module.specs.Views.{hierarchy_view}
use Rattle.cpn_accepted.specs.Views.{module_net_view}
use Rattle.cpn_flat.specs.FlatNet.{all_places, compound_among, all_transitions}
use Rattle.cpn_flat.specs.Names.{AreNames}
use Rattle.cpn_flat.proofs.flattening.parts_of.Goals as goal

pub returns : goal.returns
returns c = record {
  made = record {
    names = map string_bytes c.in_ok-names.names.items;
    are_names = subst (λ is. AreNames (document_view c.args.document.now) (instances_view is) (map string_bytes c.in_ok-names.names.items)) c.as_slice-instances.ensures.value c.in_ok-names.ensures.names;
    are_places =
        c.in_ok-places.ensures.compound
        ∙ ap (λ places. compound_among (map place_view places) c.args.classes.now.firsts) c.as_slice-2.ensures.value
        ∙ ap (λ places. compound_among places c.args.classes.now.firsts)
        (c.in_ok-all.ensures.places ∙ ap₂ (λ is names. all_places (map module_net_view c.args.modules.now) (instances_view is) (map string_bytes names)) c.as_slice-instances.ensures.value c.as_slice.ensures.value);
    are_transitions =
        c.in_ok-transitions.ensures.transitions
        ∙ ap₂ (λ is names. all_transitions (hierarchy_view c.args.hierarchy.now) (map module_net_view c.args.modules.now) (instances_view is) (map string_bytes names) c.args.classes.now) c.as_slice-instances.ensures.value c.as_slice-4.ensures.value;
  };
}
