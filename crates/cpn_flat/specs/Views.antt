-- A net and its initial marking that the program has, as plain data.
use Rattle.std.specs.Prelude.{map}
use Rattle.cpn_core.specs.Nets.{net_view}
use Rattle.cpn_declared.specs.DeclsViews.{decls_view}
use Rattle.cpn_document.specs.Views.{monitor_view, phase_view}
use Rattle.cpn_flat.specs.Flat.{PlainLoaded}
use Rattle.cpn_flat.specs.declared.flattening.Loaded.{Loaded}

abbrev pub loaded_view : Loaded → PlainLoaded
loaded_view loaded = record { net = net_view loaded.net; initial = loaded.initial; declared = decls_view loaded.decls; monitors = map monitor_view loaded.monitors.items; phases = map phase_view loaded.phases.items }
