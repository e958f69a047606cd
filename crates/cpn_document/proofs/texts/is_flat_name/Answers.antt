-- Each part between the slashes is tested.
use Rattle.std.proofs.Common.{rules, tests, lit<}
use Rattle.std.proofs.lemmas.Iterator.Search.{all_from_yields_List}
use Rattle.std.proofs.lemmas.Iterator.Splits.{YieldsList-from_str_split}
use Rattle.cpn_document.specs.Texts.{is_name, is_flat_name}
use Rattle.cpn_document.proofs.texts.is_flat_name.Goals as goal

pub returns : goal.returns
unfolding is_flat_name
returns c = record {
  exact = all_from_yields_List is_name _ _ c.all.result c.all.ensures.ran (YieldsList-from_str_split 47 c.args.text.now (lit< tt) c.split.ensures.text c.split.ensures.has_more c.split.ensures.pattern) (λ x b q k. search (rules, tests));
}
