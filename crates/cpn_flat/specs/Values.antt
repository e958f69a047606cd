-- The values of initial markings, as plain data, and what is asked of initial markings and their values.
use Rattle.std.specs.Prelude.{ℕ, ◌<◌, ◌≤◌, Bool, List, [], length, slice_index_or, replicate, map, Some, Vec}
use Rattle.std.specs.List.{flat_map, AllByRecursion}
use Rattle.std.specs.declared.alloc.Global.{Global}
use Rattle.cpn_definitions.specs.Colour.{PlainColour}
use Rattle.cpn_definitions.specs.Lists.{with_items}
use Rattle.cpn_definitions.specs.Marking.{Tokens, token_cmp}
use Rattle.cpn_definitions.specs.Net.{PlainNet, place_at}
use Rattle.cpn_definitions.specs.Terms.{PlainTerm, most_tokens, tokens_in}
use Rattle.cpn_eval.specs.declared.term.Term.{Term}
use Rattle.cpn_eval.specs.Terms.{items_view}
use Rattle.cpn_accepted.specs.Nets.{Initial, IsOfColour}
use Rattle.cpn_flat.specs.InitialMarking.{token_of}

-- ---- views

abbrev pub values_view : List (Vec Term Global) → List (List PlainTerm)
values_view values = map items_view values

abbrev pub value_lists_view : List (Vec (Vec Term Global) Global) → List (List (List PlainTerm))
value_lists_view lists = map (λ list. values_view list.items) lists

-- ---- what is asked

-- each of them is for the colour set
abbrev pub AreOfColour : PlainColour → List Initial → Type 0
AreOfColour colour initials = AllByRecursion (λ initial. IsOfColour colour (Some initial)) initials

-- those of each compound place are for its colour set
abbrev pub HaveColours : PlainNet → List (List Initial) → Type 0
HaveColours n written = (c : ℕ) → c < length written → AreOfColour (place_at n c).colour (slice_index_or written c [])

-- none of the values has more tokens than an inscription may have
abbrev pub AreFew : List (List PlainTerm) → Type 0
AreFew values = AllByRecursion (λ terms. tokens_in terms ≤ most_tokens) values

-- the same of those of each compound place
abbrev pub AreAllFew : List (List (List PlainTerm)) → Type 0
AreAllFew lists = AllByRecursion AreFew lists

-- ---- tokens

-- the tokens of terms beside others, in their order
abbrev pub tokens_with : Bool → List PlainTerm → Tokens → Tokens
tokens_with timed terms tokens = with_items token_cmp (flat_map (λ term. replicate term.count (token_of timed term)) terms) tokens
