-- The flat net and its initial marking, or the first refusal.
use Rattle.std.proofs.Common.{◌≡◌, ◌∙◌, List, map, length, ap, ap₂, subst, sym}
use Rattle.std.proofs.lemmas.List.{length-map}
use Rattle.std.proofs.lemmas.Result.{err_from_is_err_and}
use Rattle.cpn_core.specs.Nets.{place_view, transition_view, net_view}
use Rattle.cpn_document.specs.Views.{document_view}
use Rattle.cpn_fuse.specs.Answers.{refusal_of}
use Rattle.cpn_fuse.specs.Views.{instances_view}
use Rattle.cpn_module.specs.Views.{hierarchy_view}
use Rattle.cpn_accepted.specs.Views.{module_net_view, accepted_view}
use Rattle.cpn_accepted.specs.declared.nets.ModuleNet.{ModuleNet}
use Rattle.cpn_fuse.specs.Instances.{PlainInstance}
use Rattle.cpn_readings.specs.Relations.{RefusesBy}
use Rattle.cpn_flat.specs.Answers.{refusal_of as flat_refusal_of}
use Rattle.cpn_flat.specs.Flat.{all_written, flat_in}
use Rattle.cpn_flat.specs.FlatNet.{all_places}
use Rattle.cpn_flat.specs.InitialMarking.{all_initials, AreAllMeant, started}
use Rattle.cpn_flat.specs.Items.{HaveItems}
use Rattle.cpn_flat.specs.Parts.{AreItsParts}
use Rattle.cpn_flat.specs.Placed.{AreOfModules}
use Rattle.cpn_flat.specs.Refusals.{read}
use Rattle.cpn_flat.specs.WellLoaded.{IsWellLoaded}
use Rattle.cpn_flat.proofs.FlatConditions.{one_meaning, behind, of_modules, named_in, items, places_many, initials_many, places_each, places_few, net_meant, flat_well}
use Rattle.cpn_flat.proofs.FlatMeanings.{net_is, not_flat, not_started, is_flat}
use Rattle.cpn_flat.proofs.flattening.start_of.Goals as goal

-- ---- the hierarchy is not unfolded

pub returns-in_err-unfolded-clause-reads : goal.returns-in_err-unfolded-clause-reads
returns-in_err-unfolded-clause-reads c =
    let p = err_from_is_err_and c.from_residual.result c.from_residual.ensures.1 in
    rw (p.1, p.2) (not_flat (document_view c.args.document.now) (accepted_view c.args.accepted.now) (refusal_of c.in_err-unfolded.field-0.0) c.in_err-unfolded.ensures.refused)

pub returns-in_err-unfolded-clause-one : goal.returns-in_err-unfolded-clause-one
returns-in_err-unfolded-clause-one c = one_meaning (accepted_view c.args.accepted.now) c.requires.well (document_view c.args.document.now) c.in_err-unfolded.ensures.one c.in_err-unfolded.ensures.one_refusal c.in_err-unfolded.ensures.not_both

-- ---- what the calls ask for

pub returns-in_err-classes-clause-one : goal.returns-in_err-classes-clause-one
returns-in_err-classes-clause-one c = one_meaning (accepted_view c.args.accepted.now) c.requires.well (document_view c.args.document.now) c.in_ok-unfolded.ensures.one c.in_ok-unfolded.ensures.one_refusal c.in_ok-unfolded.ensures.not_both

pub parts_of-requires-clause-behind : goal.parts_of-requires-clause-behind
parts_of-requires-clause-behind c = behind (accepted_view c.args.accepted.now) c.requires.well (instances_view c.in_ok-unfolded.unfolded.instances.items) c.in_ok-unfolded.ensures.unfolded.unfolded

-- so many modules as the call has
modules_many : (many : List ModuleNet) (now : List ModuleNet) (is : List PlainInstance) → now ≡ many → AreOfModules (length (map module_net_view many)) is → AreOfModules (length now) is
modules_many many now is same = subst (λ k. AreOfModules k is) (length-map many module_net_view ∙ ap length (sym same))

pub parts_of-requires-clause-in_modules : goal.parts_of-requires-clause-in_modules
parts_of-requires-clause-in_modules c =
    modules_many c.args.accepted.now.modules.items c.as_slice.result.now (instances_view c.in_ok-unfolded.unfolded.instances.items) c.as_slice.ensures.value
    (of_modules (accepted_view c.args.accepted.now) c.requires.well (instances_view c.in_ok-unfolded.unfolded.instances.items) c.in_ok-unfolded.ensures.unfolded.unfolded)

pub parts_of-requires-clause-there : goal.parts_of-requires-clause-there
parts_of-requires-clause-there c = named_in (accepted_view c.args.accepted.now) c.requires.well (instances_view c.in_ok-unfolded.unfolded.instances.items) c.in_ok-unfolded.ensures.unfolded.unfolded (document_view c.args.document.now) c.requires.hierarchy

pub parts_of-requires-clause-items : goal.parts_of-requires-clause-items
parts_of-requires-clause-items c =
    subst (λ ms. HaveItems (hierarchy_view c.args.accepted.now.hierarchy) (map module_net_view ms) (instances_view c.in_ok-unfolded.unfolded.instances.items) (length c.in_ok-classes.classes.numbers)) (sym c.as_slice.ensures.value)
    (items (accepted_view c.args.accepted.now) c.requires.well (instances_view c.in_ok-unfolded.unfolded.instances.items) c.in_ok-unfolded.ensures.unfolded.unfolded c.in_ok-classes.classes c.in_ok-classes.ensures.compound)

pub parts_of-requires-clause-as_many : goal.parts_of-requires-clause-as_many
parts_of-requires-clause-as_many c = λ names.
    places_many (accepted_view c.args.accepted.now) c.requires.well (instances_view c.in_ok-unfolded.unfolded.instances.items) c.in_ok-unfolded.ensures.unfolded.unfolded c.in_ok-classes.classes c.in_ok-classes.ensures.compound names
    ∙ ap (λ ms. length (all_places (map module_net_view ms) (instances_view c.in_ok-unfolded.unfolded.instances.items) names)) (sym c.as_slice.ensures.value)

pub returns-in_err-parts-clause-one : goal.returns-in_err-parts-clause-one
returns-in_err-parts-clause-one c = one_meaning (accepted_view c.args.accepted.now) c.requires.well (document_view c.args.document.now) c.in_ok-unfolded.ensures.one c.in_ok-unfolded.ensures.one_refusal c.in_ok-unfolded.ensures.not_both

pub returns-in_err-net-clause-one : goal.returns-in_err-net-clause-one
returns-in_err-net-clause-one c = one_meaning (accepted_view c.args.accepted.now) c.requires.well (document_view c.args.document.now) c.in_ok-unfolded.ensures.one c.in_ok-unfolded.ensures.one_refusal c.in_ok-unfolded.ensures.not_both

pub initial_of-requires-clause-in_modules : goal.initial_of-requires-clause-in_modules
initial_of-requires-clause-in_modules c =
    subst (λ is. AreOfModules (length c.as_slice-2.result.now) (instances_view is)) (sym c.as_slice-instances.ensures.value)
    (modules_many c.args.accepted.now.modules.items c.as_slice-2.result.now (instances_view c.in_ok-unfolded.unfolded.instances.items) c.as_slice-2.ensures.value
    (of_modules (accepted_view c.args.accepted.now) c.requires.well (instances_view c.in_ok-unfolded.unfolded.instances.items) c.in_ok-unfolded.ensures.unfolded.unfolded))

pub initial_of-requires-clause-as_many : goal.initial_of-requires-clause-as_many
initial_of-requires-clause-as_many c =
    initials_many (accepted_view c.args.accepted.now) c.requires.well (instances_view c.in_ok-unfolded.unfolded.instances.items) c.in_ok-unfolded.ensures.unfolded.unfolded c.in_ok-classes.classes c.in_ok-classes.ensures.compound
    ∙ ap₂ (λ ms is. length (all_initials (map module_net_view ms) (instances_view is))) (sym c.as_slice-2.ensures.value) (sym c.as_slice-instances.ensures.value)

pub initial_of-requires-clause-each : goal.initial_of-requires-clause-each
initial_of-requires-clause-each c =
    let parts = (let made : AreItsParts (document_view c.args.document.now) (hierarchy_view c.args.accepted.now.hierarchy) (map module_net_view c.args.accepted.now.modules.items) (instances_view c.in_ok-unfolded.unfolded.instances.items) c.in_ok-classes.classes (map place_view c.in_ok-parts.parts.places.items) (map transition_view c.in_ok-parts.parts.transitions.items) = subst (λ ms. AreItsParts (document_view c.args.document.now) (hierarchy_view c.args.accepted.now.hierarchy) (map module_net_view ms) (instances_view c.in_ok-unfolded.unfolded.instances.items) c.in_ok-classes.classes (map place_view c.in_ok-parts.parts.places.items) (map transition_view c.in_ok-parts.parts.transitions.items)) c.as_slice.ensures.value c.in_ok-parts.ensures.made in made) in
    places_each (accepted_view c.args.accepted.now) c.requires.well (instances_view c.in_ok-unfolded.unfolded.instances.items) c.in_ok-unfolded.ensures.unfolded.unfolded c.in_ok-classes.classes c.in_ok-classes.ensures.compound (document_view c.args.document.now) c.in_ok-net.net (map place_view c.in_ok-parts.parts.places.items) (map transition_view c.in_ok-parts.parts.transitions.items) c.in_ok-net.ensures.made parts

pub initial_of-requires-clause-few : goal.initial_of-requires-clause-few
initial_of-requires-clause-few c =
    let parts = (let made : AreItsParts (document_view c.args.document.now) (hierarchy_view c.args.accepted.now.hierarchy) (map module_net_view c.args.accepted.now.modules.items) (instances_view c.in_ok-unfolded.unfolded.instances.items) c.in_ok-classes.classes (map place_view c.in_ok-parts.parts.places.items) (map transition_view c.in_ok-parts.parts.transitions.items) = subst (λ ms. AreItsParts (document_view c.args.document.now) (hierarchy_view c.args.accepted.now.hierarchy) (map module_net_view ms) (instances_view c.in_ok-unfolded.unfolded.instances.items) c.in_ok-classes.classes (map place_view c.in_ok-parts.parts.places.items) (map transition_view c.in_ok-parts.parts.transitions.items)) c.as_slice.ensures.value c.in_ok-parts.ensures.made in made) in
    places_few (accepted_view c.args.accepted.now) c.requires.well (instances_view c.in_ok-unfolded.unfolded.instances.items) c.in_ok-unfolded.ensures.unfolded.unfolded c.in_ok-classes.classes c.in_ok-classes.ensures.compound (document_view c.args.document.now) c.in_ok-net.net (map place_view c.in_ok-parts.parts.places.items) (map transition_view c.in_ok-parts.parts.transitions.items) c.in_ok-net.ensures.made parts

pub initial_of-requires-clause-meant : goal.initial_of-requires-clause-meant
initial_of-requires-clause-meant c =
    let parts = (let made : AreItsParts (document_view c.args.document.now) (hierarchy_view c.args.accepted.now.hierarchy) (map module_net_view c.args.accepted.now.modules.items) (instances_view c.in_ok-unfolded.unfolded.instances.items) c.in_ok-classes.classes (map place_view c.in_ok-parts.parts.places.items) (map transition_view c.in_ok-parts.parts.transitions.items) = subst (λ ms. AreItsParts (document_view c.args.document.now) (hierarchy_view c.args.accepted.now.hierarchy) (map module_net_view ms) (instances_view c.in_ok-unfolded.unfolded.instances.items) c.in_ok-classes.classes (map place_view c.in_ok-parts.parts.places.items) (map transition_view c.in_ok-parts.parts.transitions.items)) c.as_slice.ensures.value c.in_ok-parts.ensures.made in made) in
    subst (λ ms. AreAllMeant (net_view c.in_ok-net.net).functions (all_written (map module_net_view ms) (instances_view c.as_slice-instances.result.now) c.in_ok-classes.classes)) (sym c.as_slice-2.ensures.value)
    (subst (λ is. AreAllMeant (net_view c.in_ok-net.net).functions (all_written (map module_net_view c.args.accepted.now.modules.items) (instances_view is) c.in_ok-classes.classes)) (sym c.as_slice-instances.ensures.value)
    (net_meant (accepted_view c.args.accepted.now) c.requires.well (instances_view c.in_ok-unfolded.unfolded.instances.items) c.in_ok-unfolded.ensures.unfolded.unfolded c.in_ok-classes.classes c.in_ok-classes.ensures.compound (document_view c.args.document.now) c.in_ok-net.net (map place_view c.in_ok-parts.parts.places.items) (map transition_view c.in_ok-parts.parts.transitions.items) c.in_ok-net.ensures.made parts))

pub returns-in_err-initial-clause-reads : goal.returns-in_err-initial-clause-reads
returns-in_err-initial-clause-reads c =
    let parts = (let made : AreItsParts (document_view c.args.document.now) (hierarchy_view c.args.accepted.now.hierarchy) (map module_net_view c.args.accepted.now.modules.items) (instances_view c.in_ok-unfolded.unfolded.instances.items) c.in_ok-classes.classes (map place_view c.in_ok-parts.parts.places.items) (map transition_view c.in_ok-parts.parts.transitions.items) = subst (λ ms. AreItsParts (document_view c.args.document.now) (hierarchy_view c.args.accepted.now.hierarchy) (map module_net_view ms) (instances_view c.in_ok-unfolded.unfolded.instances.items) c.in_ok-classes.classes (map place_view c.in_ok-parts.parts.places.items) (map transition_view c.in_ok-parts.parts.transitions.items)) c.as_slice.ensures.value c.in_ok-parts.ensures.made in made) in
    let p = err_from_is_err_and c.from_residual-in_err-initial.result c.from_residual-in_err-initial.ensures.1 in
    let is = net_is (document_view c.args.document.now) (accepted_view c.args.accepted.now) (instances_view c.in_ok-unfolded.unfolded.instances.items) c.in_ok-classes.classes (net_view c.in_ok-net.net) (map place_view c.in_ok-parts.parts.places.items) (map transition_view c.in_ok-parts.parts.transitions.items) c.in_ok-net.ensures.made parts in
    rw (p.1, p.2) (not_started (document_view c.args.document.now) (accepted_view c.args.accepted.now) (instances_view c.in_ok-unfolded.unfolded.instances.items) c.in_ok-unfolded.ensures.unfolded.unfolded parts.names parts.are_names c.in_ok-classes.classes c.in_ok-classes.ensures.compound (flat_refusal_of c.in_err-initial.field-0.0)
    (subst (λ n. RefusesBy (started n (all_written (map module_net_view c.args.accepted.now.modules.items) (instances_view c.in_ok-unfolded.unfolded.instances.items) c.in_ok-classes.classes)) (flat_refusal_of c.in_err-initial.field-0.0)) is
    (subst (λ ms. RefusesBy (started (net_view c.in_ok-net.net) (all_written (map module_net_view ms) (instances_view c.in_ok-unfolded.unfolded.instances.items) c.in_ok-classes.classes)) (flat_refusal_of c.in_err-initial.field-0.0)) c.as_slice-2.ensures.value
    (subst (λ xs. RefusesBy (started (net_view c.in_ok-net.net) (all_written (map module_net_view c.as_slice-2.result.now) (instances_view xs) c.in_ok-classes.classes)) (flat_refusal_of c.in_err-initial.field-0.0)) c.as_slice-instances.ensures.value c.in_err-initial.ensures.reads))))

pub returns-in_err-initial-clause-one : goal.returns-in_err-initial-clause-one
returns-in_err-initial-clause-one c = one_meaning (accepted_view c.args.accepted.now) c.requires.well (document_view c.args.document.now) c.in_ok-unfolded.ensures.one c.in_ok-unfolded.ensures.one_refusal c.in_ok-unfolded.ensures.not_both

pub returns-clause-reads : goal.returns-clause-reads
returns-clause-reads c =
    let parts = (let made : AreItsParts (document_view c.args.document.now) (hierarchy_view c.args.accepted.now.hierarchy) (map module_net_view c.args.accepted.now.modules.items) (instances_view c.in_ok-unfolded.unfolded.instances.items) c.in_ok-classes.classes (map place_view c.in_ok-parts.parts.places.items) (map transition_view c.in_ok-parts.parts.transitions.items) = subst (λ ms. AreItsParts (document_view c.args.document.now) (hierarchy_view c.args.accepted.now.hierarchy) (map module_net_view ms) (instances_view c.in_ok-unfolded.unfolded.instances.items) c.in_ok-classes.classes (map place_view c.in_ok-parts.parts.places.items) (map transition_view c.in_ok-parts.parts.transitions.items)) c.as_slice.ensures.value c.in_ok-parts.ensures.made in made) in
    let is = net_is (document_view c.args.document.now) (accepted_view c.args.accepted.now) (instances_view c.in_ok-unfolded.unfolded.instances.items) c.in_ok-classes.classes (net_view c.in_ok-net.net) (map place_view c.in_ok-parts.parts.places.items) (map transition_view c.in_ok-parts.parts.transitions.items) c.in_ok-net.ensures.made parts in
    subst (λ n. flat_in (document_view c.args.document.now) (accepted_view c.args.accepted.now) (read (record { net = n; initial = c.in_ok-initial.initial; declared = (accepted_view c.args.accepted.now).declared; monitors = (document_view c.args.document.now).monitors; phases = (document_view c.args.document.now).phases }))) (sym is)
    (is_flat (document_view c.args.document.now) (accepted_view c.args.accepted.now) (instances_view c.in_ok-unfolded.unfolded.instances.items) c.in_ok-unfolded.ensures.unfolded.unfolded parts.names parts.are_names c.in_ok-classes.classes c.in_ok-classes.ensures.compound c.in_ok-initial.initial
    (subst (λ n. started n (all_written (map module_net_view c.args.accepted.now.modules.items) (instances_view c.in_ok-unfolded.unfolded.instances.items) c.in_ok-classes.classes) (read c.in_ok-initial.initial)) is
    (subst (λ ms. started (net_view c.in_ok-net.net) (all_written (map module_net_view ms) (instances_view c.in_ok-unfolded.unfolded.instances.items) c.in_ok-classes.classes) (read c.in_ok-initial.initial)) c.as_slice-2.ensures.value
    (subst (λ xs. started (net_view c.in_ok-net.net) (all_written (map module_net_view c.as_slice-2.result.now) (instances_view xs) c.in_ok-classes.classes) (read c.in_ok-initial.initial)) c.as_slice-instances.ensures.value c.in_ok-initial.ensures.reads))))

pub returns-clause-one : goal.returns-clause-one
returns-clause-one c = one_meaning (accepted_view c.args.accepted.now) c.requires.well (document_view c.args.document.now) c.in_ok-unfolded.ensures.one c.in_ok-unfolded.ensures.one_refusal c.in_ok-unfolded.ensures.not_both

pub returns-clause-well_loaded : goal.returns-clause-well_loaded
returns-clause-well_loaded c =
    let parts = (let made : AreItsParts (document_view c.args.document.now) (hierarchy_view c.args.accepted.now.hierarchy) (map module_net_view c.args.accepted.now.modules.items) (instances_view c.in_ok-unfolded.unfolded.instances.items) c.in_ok-classes.classes (map place_view c.in_ok-parts.parts.places.items) (map transition_view c.in_ok-parts.parts.transitions.items) = subst (λ ms. AreItsParts (document_view c.args.document.now) (hierarchy_view c.args.accepted.now.hierarchy) (map module_net_view ms) (instances_view c.in_ok-unfolded.unfolded.instances.items) c.in_ok-classes.classes (map place_view c.in_ok-parts.parts.places.items) (map transition_view c.in_ok-parts.parts.transitions.items)) c.as_slice.ensures.value c.in_ok-parts.ensures.made in made) in
    let is = net_is (document_view c.args.document.now) (accepted_view c.args.accepted.now) (instances_view c.in_ok-unfolded.unfolded.instances.items) c.in_ok-classes.classes (net_view c.in_ok-net.net) (map place_view c.in_ok-parts.parts.places.items) (map transition_view c.in_ok-parts.parts.transitions.items) c.in_ok-net.ensures.made parts in
    subst (λ n. IsWellLoaded (record { net = n; initial = c.in_ok-initial.initial; declared = (accepted_view c.args.accepted.now).declared; monitors = (document_view c.args.document.now).monitors; phases = (document_view c.args.document.now).phases })) (sym is)
    (flat_well (accepted_view c.args.accepted.now) c.requires.well (instances_view c.in_ok-unfolded.unfolded.instances.items) c.in_ok-unfolded.ensures.unfolded.unfolded c.in_ok-classes.classes c.in_ok-classes.ensures.compound parts.names c.requires.few_variables (document_view c.args.document.now).monitors (document_view c.args.document.now).phases c.in_ok-initial.initial
    (subst (λ n. started n (all_written (map module_net_view c.args.accepted.now.modules.items) (instances_view c.in_ok-unfolded.unfolded.instances.items) c.in_ok-classes.classes) (read c.in_ok-initial.initial)) is
    (subst (λ ms. started (net_view c.in_ok-net.net) (all_written (map module_net_view ms) (instances_view c.in_ok-unfolded.unfolded.instances.items) c.in_ok-classes.classes) (read c.in_ok-initial.initial)) c.as_slice-2.ensures.value
    (subst (λ xs. started (net_view c.in_ok-net.net) (all_written (map module_net_view c.as_slice-2.result.now) (instances_view xs) c.in_ok-classes.classes) (read c.in_ok-initial.initial)) c.as_slice-instances.ensures.value c.in_ok-initial.ensures.reads))))
