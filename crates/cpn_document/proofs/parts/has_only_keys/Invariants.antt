-- The keys that were seen pass, so the keys that are left decide.
use Rattle.std.proofs.Common.{◌≡◌, string_bytes}
use Rattle.std.specs.List.{list_all}
use Rattle.std.specs.BTreeMap.{keys}
use Rattle.cpn_document.specs.Names.{texts_of}
use Rattle.cpn_document.specs.Parts.{is_one_of}
use Rattle.cpn_document.proofs.parts.has_only_keys.Given as goal

abbrev pub invariant-loop-key : goal.invariant-loop-key
invariant-loop-key l = list_all (λ key. is_one_of (string_bytes key) (texts_of l.keys)) (keys l.object) ≡ list_all (λ key. is_one_of (string_bytes key) (texts_of l.keys)) l.key-iterator
