-- The steps are those of the definition, and the places, the structure and the trees of each module go together.
use Rattle.std.proofs.Common.{◌≡◌, ◌<◌, ◌∙◌, ℕ, List, length, map, sym, ap, subst}
use Rattle.std.proofs.lemmas.List.{length-map}
use Rattle.std.proofs.lemmas.Result.{err_from_is_err_and}
use Rattle.cpn_declared.specs.DeclsViews.{decls_view}
use Rattle.cpn_document.specs.Views.{document_view}
use Rattle.cpn_module.specs.Answers.{refusal_of}
use Rattle.cpn_module.specs.Hierarchy.{structure_at}
use Rattle.cpn_module.specs.Views.{structure_view, hierarchy_view}
use Rattle.cpn_module_trees.specs.TreesViews.{declared_view, module_trees_view, document_trees_view}
use Rattle.cpn_module_trees.specs.declared.trees.ModuleTrees.{ModuleTrees}
use Rattle.cpn_typing.specs.Names.{nothing_declared}
use Rattle.cpn_accepted.specs.Views.{module_net_view}
use Rattle.cpn_accepted.specs.Nets.{places_at}
use Rattle.cpn_module_nets.specs.Accepted.{declared_from, places_of}
use Rattle.cpn_module_nets.specs.AcceptedViews.{places_view}
use Rattle.cpn_module_nets.specs.Answers.{Refuses, RefusesBy, net_refusal_of}
use Rattle.cpn_module_nets.specs.Documents.{nets_so}
use Rattle.cpn_module_nets.specs.Fitting.{GoTogether, trees_at}
use Rattle.cpn_module_nets.specs.Reading.{read, each_from}
use Rattle.cpn_module_nets.proofs.CheckedModules.{kept}
use Rattle.cpn_module_nets.proofs.ModuleParts.{as_many_modules, as_many_structures, all_together}
use Rattle.cpn_module_nets.proofs.ReadDocuments.{declarations_refused, places_refused, modules_refused, nets_refused, all_read}
use Rattle.cpn_module_nets.proofs.accepting.accepted_of.Goals as goal

pub returns-in_err-decls-clause-reads : goal.returns-in_err-decls-clause-reads
returns-in_err-decls-clause-reads c =
    let p = err_from_is_err_and c.from_residual-in_err-decls.result c.from_residual-in_err-decls.ensures.1 in
    let o = net_refusal_of c.in_err-decls.field-0.0 in
    rw (p.1, p.2) (declarations_refused (document_view c.args.document.now) (document_trees_view c.in_ok-trees.trees) c.in_ok-trees.ensures.parsed o
    (subst (λ texts. Refuses o (declared_from 0 nothing_declared (map declared_view texts))) c.as_slice.ensures.value c.in_err-decls.ensures.reads))

pub returns-in_err-places-clause-reads : goal.returns-in_err-places-clause-reads
returns-in_err-places-clause-reads c =
    let d = document_view c.args.document.now in
    let trees = document_trees_view c.in_ok-trees.trees in
    let ds = decls_view c.in_ok-decls.decls in
    let ds_is : declared_from 0 nothing_declared trees.declarations ≡ read ds = subst (λ texts. declared_from 0 nothing_declared (map declared_view texts) ≡ read ds) c.as_slice.ensures.value c.in_ok-decls.ensures.reads in
    let p = err_from_is_err_and c.from_residual-in_err-places.result c.from_residual-in_err-places.ensures.1 in
    let o = net_refusal_of c.in_err-places.field-0.0 in
    rw (p.1, p.2) (places_refused d trees c.in_ok-trees.ensures.parsed ds ds_is o
    (subst (λ modules. Refuses o (each_from (places_of ds) 0 (map module_trees_view modules))) c.as_slice-2.ensures.value c.in_err-places.ensures.reads))

pub returns-in_err-hierarchy-clause-reads : goal.returns-in_err-hierarchy-clause-reads
returns-in_err-hierarchy-clause-reads c =
    let d = document_view c.args.document.now in
    let trees = document_trees_view c.in_ok-trees.trees in
    let ds = decls_view c.in_ok-decls.decls in
    let ds_is : declared_from 0 nothing_declared trees.declarations ≡ read ds = subst (λ texts. declared_from 0 nothing_declared (map declared_view texts) ≡ read ds) c.as_slice.ensures.value c.in_ok-decls.ensures.reads in
    let places = map places_view c.in_ok-places.places.items in
    let places_are : each_from (places_of ds) 0 trees.modules ≡ read places = subst (λ modules. each_from (places_of ds) 0 (map module_trees_view modules) ≡ read places) c.as_slice-2.ensures.value c.in_ok-places.ensures.reads in
    let p = err_from_is_err_and c.from_residual-in_err-hierarchy.result c.from_residual-in_err-hierarchy.ensures.1 in
    rw (p.1, p.2) (modules_refused d trees c.in_ok-trees.ensures.parsed ds ds_is places places_are (refusal_of c.in_err-hierarchy.field-0.0) c.in_err-hierarchy.ensures.refused)

pub nets_of-requires : goal.nets_of-requires
nets_of-requires c =
    let d = document_view c.args.document.now in
    let trees = document_trees_view c.in_ok-trees.trees in
    let ds = decls_view c.in_ok-decls.decls in
    let ds_is : declared_from 0 nothing_declared trees.declarations ≡ read ds = subst (λ texts. declared_from 0 nothing_declared (map declared_view texts) ≡ read ds) c.as_slice.ensures.value c.in_ok-decls.ensures.reads in
    let places = map places_view c.in_ok-places.places.items in
    let places_are : each_from (places_of ds) 0 trees.modules ≡ read places = subst (λ modules. each_from (places_of ds) 0 (map module_trees_view modules) ≡ read places) c.as_slice-2.ensures.value c.in_ok-places.ensures.reads in
    let h = hierarchy_view c.in_ok-hierarchy.hierarchy in
    let checked = kept ds d h c.in_ok-hierarchy.ensures.checked in
    let here : c.as_slice-3.result.now ≡ c.in_ok-trees.trees.modules.items = c.as_slice-3.ensures.value in
    let many : length trees.modules ≡ length c.in_ok-trees.trees.modules.items = length-map c.in_ok-trees.trees.modules.items module_trees_view in
    let many_places : length c.in_ok-places.places.items ≡ length c.in_ok-trees.trees.modules.items = sym (length-map c.in_ok-places.places.items places_view) ∙ as_many_modules ds d trees c.in_ok-trees.ensures.parsed places places_are ∙ many in
    let many_structures : length c.in_ok-hierarchy.hierarchy.modules.items ≡ length c.in_ok-trees.trees.modules.items = sym (length-map c.in_ok-hierarchy.hierarchy.modules.items structure_view) ∙ as_many_structures ds d trees c.in_ok-trees.ensures.parsed h checked ∙ many in
    record {
      as_many_places = many_places ∙ ap length (sym here);
      as_many_structures = many_structures ∙ ap length (sym here);
      together = subst (λ (ms : List ModuleTrees). (m : ℕ) → m < length ms → GoTogether (places_at places m) (structure_at h m) (trees_at (map module_trees_view ms) m)) (sym here)
          (λ m lt. all_together ds d trees c.in_ok-trees.ensures.parsed places places_are h checked c.in_ok-hierarchy.ensures.numbers m (subst (λ k. m < k) (sym many) lt));
    }

pub returns-in_err-modules-clause-reads : goal.returns-in_err-modules-clause-reads
returns-in_err-modules-clause-reads c =
    let d = document_view c.args.document.now in
    let trees = document_trees_view c.in_ok-trees.trees in
    let ds = decls_view c.in_ok-decls.decls in
    let ds_is : declared_from 0 nothing_declared trees.declarations ≡ read ds = subst (λ texts. declared_from 0 nothing_declared (map declared_view texts) ≡ read ds) c.as_slice.ensures.value c.in_ok-decls.ensures.reads in
    let places = map places_view c.in_ok-places.places.items in
    let places_are : each_from (places_of ds) 0 trees.modules ≡ read places = subst (λ modules. each_from (places_of ds) 0 (map module_trees_view modules) ≡ read places) c.as_slice-2.ensures.value c.in_ok-places.ensures.reads in
    let h = hierarchy_view c.in_ok-hierarchy.hierarchy in
    let p = err_from_is_err_and c.from_residual-in_err-modules.result c.from_residual-in_err-modules.ensures.1 in
    let o = net_refusal_of c.in_err-modules.field-0.0 in
    rw (p.1, p.2) (nets_refused d trees c.in_ok-trees.ensures.parsed ds ds_is places places_are h c.in_ok-hierarchy.ensures.checked o
    (subst (λ ms. RefusesBy (nets_so ds places h (map module_trees_view ms)) o) c.as_slice-3.ensures.value c.in_err-modules.ensures.reads))

pub returns-clause-reads : goal.returns-clause-reads
returns-clause-reads c =
    let d = document_view c.args.document.now in
    let trees = document_trees_view c.in_ok-trees.trees in
    let ds = decls_view c.in_ok-decls.decls in
    let ds_is : declared_from 0 nothing_declared trees.declarations ≡ read ds = subst (λ texts. declared_from 0 nothing_declared (map declared_view texts) ≡ read ds) c.as_slice.ensures.value c.in_ok-decls.ensures.reads in
    let places = map places_view c.in_ok-places.places.items in
    let places_are : each_from (places_of ds) 0 trees.modules ≡ read places = subst (λ modules. each_from (places_of ds) 0 (map module_trees_view modules) ≡ read places) c.as_slice-2.ensures.value c.in_ok-places.ensures.reads in
    let h = hierarchy_view c.in_ok-hierarchy.hierarchy in
    let nets = map module_net_view c.in_ok-modules.modules.items in
    all_read d trees c.in_ok-trees.ensures.parsed ds ds_is places places_are h c.in_ok-hierarchy.ensures.checked nets
    (subst (λ ms. nets_so ds places h (map module_trees_view ms) (read nets)) c.as_slice-3.ensures.value c.in_ok-modules.ensures.reads)

pub returns-clause-hierarchy : goal.returns-clause-hierarchy
returns-clause-hierarchy c =
    (kept (decls_view c.in_ok-decls.decls) (document_view c.args.document.now) (hierarchy_view c.in_ok-hierarchy.hierarchy) c.in_ok-hierarchy.ensures.checked).is
