-- What is declared, declaration by declaration.
use Rattle.std.proofs.Common.{◌≡◌, ℕ, ◌+◌, ◌<◌, ◌≤◌, List, ◌∷◌, length, drop, get_or, map, refl, sym, ◌∙◌, add-one}
use Rattle.std.specs.Prelude.{Option, Result}
use Rattle.std.proofs.lemmas.List.{drop_more, drop_all}
use Rattle.cpn_trees.specs.declared.parsed.Declaration.{Declaration}
use Rattle.cpn_typing.specs.Names.{Declared}
use Rattle.cpn_module_nets.specs.Reading.{NetRefusal, Reading, read, refused}
use Rattle.cpn_module_nets.specs.Accepted.{declared_with, declared_from}
use Rattle.cpn_module_nets.specs.Answers.{Refuses}
use Rattle.cpn_module_trees.specs.TreesViews.{declared_view}
use Rattle.cpn_module_trees.specs.declared.parsing.Unparsed.{Unparsed}
use Rattle.cpn_readings.proofs.ReadLists.{refuses_through}

module _ (texts : List (Result Declaration Unparsed)) where
  module _ (i : ℕ) (text : Result Declaration Unparsed) (lt : i < length texts) (at : text ≡ get_or texts i text) (ds : Declared) where
    next_text : map declared_view (drop i texts) ≡ declared_view text ∷ map declared_view (drop (i + 1) texts)
    next_text = rw (drop_more texts i text lt, ← at) refl

    -- the next declaration is accepted
    pub declared_more : (now : Declared) → declared_with i ds (declared_view text) ≡ read now → declared_from (i + 1) now (map declared_view (drop (i + 1) texts)) ≡ declared_from i ds (map declared_view (drop i texts))
    unfolding declared_from
    declared_more now h = rw (next_text, h, add-one i) refl

    declared_not : (refusal : NetRefusal) → declared_with i ds (declared_view text) ≡ refused refusal → declared_from i ds (map declared_view (drop i texts)) ≡ refused refusal
    unfolding declared_from
    declared_not refusal h = rw (next_text, h) refl

    -- the next declaration is refused, and so are all
    pub declared_refused : (whole : Reading Declared) (o : Option NetRefusal) → declared_from i ds (map declared_view (drop i texts)) ≡ whole → Refuses o (declared_with i ds (declared_view text)) → Refuses o whole
    declared_refused whole o inv h = refuses_through o (declared_with i ds (declared_view text)) whole (λ refusal e. sym inv ∙ declared_not refusal e) h

  -- each declaration was accepted
  pub declared_all : (i : ℕ) (ds : Declared) → length texts ≤ i → declared_from i ds (map declared_view (drop i texts)) ≡ read ds
  unfolding declared_from
  declared_all i ds past = rw (drop_all i texts past) refl
