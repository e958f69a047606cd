-- The names are those of the document.
use Rattle.std.proofs.Common.{rules}
use Rattle.cpn_module.proofs.names.named.Goals as goal

pub named_among-requires : goal.named_among-requires
named_among-requires c = record { names = record { modules_are = search rules; places_are = search rules } }
