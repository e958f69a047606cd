-- The steps of the reading of a document, put together.
use Rattle.std.proofs.Common.{◌≡◌, List, refl, sym}
use Rattle.std.specs.Prelude.{Option, Some, None, option_map}
use Rattle.cpn_definitions.specs.Net.{Coloured}
use Rattle.cpn_document.specs.Document.{RawDocument}
use Rattle.cpn_readings.specs.Relations.{just, such_that, ◌>>=◌, refused_by}
use Rattle.cpn_readings.proofs.RelatedReadings.{then_read, refused_first, refused_next, just_refused}
use Rattle.cpn_module.specs.Checked as modules
use Rattle.cpn_module.specs.Checked.{IsChecked}
use Rattle.cpn_module.specs.Hierarchy.{PlainHierarchy}
use Rattle.cpn_module.specs.Refusals.{ModuleRefusal}
use Rattle.cpn_module_trees.specs.Trees.{DocumentTrees, AreTrees}
use Rattle.cpn_typing.specs.Names.{Declared, nothing_declared}
use Rattle.cpn_accepted.specs.Nets.{PlainModuleNet, PlainAccepted}
use Rattle.cpn_module_nets.specs.Reading.{NetRefusal, of_modules, Reading, read, each_from}
use Rattle.cpn_module_nets.specs.Accepted.{declared_from, places_of}
use Rattle.cpn_module_nets.specs.Documents.{nets_so, accepted_in}
use Rattle.cpn_module_nets.specs.Answers.{Refuses, RefusesBy}

module _ (d : RawDocument) (trees : DocumentTrees) (are : AreTrees d trees) where
  abbrev declared_read : Reading Declared
  declared_read = declared_from 0 nothing_declared trees.declarations

  -- what follows the trees decides
  after_trees : (next : DocumentTrees → Reading PlainAccepted → Type 0) (o : Option NetRefusal) → RefusesBy (next trees) o → RefusesBy (such_that (AreTrees d) >>= next) o
  after_trees next o h = refused_next (such_that (AreTrees d)) next trees o (trees, are, refl) h

  -- a declaration is refused
  pub declarations_refused : (o : Option NetRefusal) → Refuses o declared_read → RefusesBy (accepted_in d) o
  unfolding accepted_in
  declarations_refused o h = after_trees _ o (refused_first (just declared_read) _ o (just_refused declared_read o h))

  module _ (ds : Declared) (ds_is : declared_read ≡ read ds) where
    abbrev places_read : Reading (List (List Coloured))
    places_read = each_from (places_of ds) 0 trees.modules

    -- the colour set of a place is refused
    pub places_refused : (o : Option NetRefusal) → Refuses o places_read → RefusesBy (accepted_in d) o
    unfolding accepted_in
    places_refused o h = after_trees _ o (refused_next (just declared_read) _ ds o (sym ds_is) (refused_first (just places_read) _ o (just_refused places_read o h)))

    module _ (places : List (List Coloured)) (places_are : places_read ≡ read places) where
      abbrev Checks : Reading PlainHierarchy → Type 0
      Checks = refused_by of_modules (IsChecked ds d)

      refused_so : (o : Option ModuleRefusal) → RefusesBy (IsChecked ds d) o → RefusesBy Checks (option_map of_modules o)
      refused_so None h = tt
      refused_so (Some refusal) h = (modules.refused refusal, h, refl)

      -- the modules are refused
      pub modules_refused : (o : Option ModuleRefusal) → RefusesBy (IsChecked ds d) o → RefusesBy (accepted_in d) (option_map of_modules o)
      unfolding accepted_in
      modules_refused o h =
          after_trees _ (option_map of_modules o) (refused_next (just declared_read) _ ds (option_map of_modules o) (sym ds_is)
          (refused_next (just places_read) _ places (option_map of_modules o) (sym places_are) (refused_first Checks _ (option_map of_modules o) (refused_so o h))))

      module _ (h : PlainHierarchy) (checked : IsChecked ds d (modules.read h)) where
        checks : Checks (read h)
        checks = (modules.read h, checked, refl)

        -- the net of a module is refused
        pub nets_refused : (o : Option NetRefusal) → RefusesBy (nets_so ds places h trees.modules) o → RefusesBy (accepted_in d) o
        unfolding accepted_in
        nets_refused o k =
            after_trees _ o (refused_next (just declared_read) _ ds o (sym ds_is) (refused_next (just places_read) _ places o (sym places_are)
            (refused_next Checks _ h o checks (refused_first (nets_so ds places h trees.modules) _ o k))))

        -- all is accepted
        pub all_read : (nets : List PlainModuleNet) → nets_so ds places h trees.modules (read nets) → accepted_in d (read (record { declared = ds; hierarchy = h; modules = nets }))
        unfolding accepted_in
        all_read nets k =
            then_read (such_that (AreTrees d)) _ trees _ (trees, are, refl) (then_read (just declared_read) _ ds _ (sym ds_is) (then_read (just places_read) _ places _ (sym places_are)
            (then_read Checks _ h _ checks (then_read (nets_so ds places h trees.modules) _ nets _ k refl))))
