-- The elements that wait for values on one place. Source: own choice.
use Rattle.std.specs.Prelude.{◌≡◌, ◌<◌, Bool, List, [], length, Option, Some, option_map}
use Rattle.std.specs.List.{list_any}
use Rattle.std.specs.Option.{unwrap_or}
use Rattle.std.specs.Ordering.{is_eq}
use Rattle.std.specs.Map.{lookup}
use Rattle.std.specs.BTreeSet.{BTreeSet}
use Rattle.cpn_definitions.specs.Value.{PlainValue}
use Rattle.cpn_definitions.specs.Order.{same_value}
use Rattle.cpn_definitions.specs.Occurrence.{PlainElement}
use Rattle.cpn_definitions.specs.Enabled.{element_cmp}
use Rattle.cpn_core.specs.declared.values.Value.{Value}
use Rattle.cpn_core.specs.Views.{value_view}
use Rattle.cpn_index.specs.WatcherOrder.{watching}
use Rattle.cpn_index.specs.declared.waiting.Watcher.{Watcher}

-- whether two elements are the same
abbrev pub same_element : PlainElement → PlainElement → Bool
same_element e f = is_eq (element_cmp e f)

-- values, each with the set of those that wait for it
abbrev pub Sets : Type 0
Sets = List (Value × BTreeSet Watcher)

-- the set of a value
abbrev pub set_of : PlainValue → Sets → Option (BTreeSet Watcher)
set_of v sets = lookup (λ value. same_value v (value_view value)) sets

-- those that wait for the value; none where it has no set
abbrev pub waiting_for : PlainValue → Sets → List Watcher
waiting_for v sets = unwrap_or (option_map (λ set. set.keys) (set_of v sets)) []

-- whether one of them is of the element
abbrev pub has_watcher : PlainElement → List Watcher → Bool
has_watcher e watchers = list_any (λ watcher. same_element e (watching watcher)) watchers

-- Each value that has a set is waited for: no set is empty.
abbrev pub EachIsAwaited : Sets → Type 0
EachIsAwaited sets = (v : PlainValue) (set : BTreeSet Watcher) → set_of v sets ≡ Some set → 0 < length set.keys
