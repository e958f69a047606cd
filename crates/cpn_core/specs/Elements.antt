-- The plain elements and entries that those of the program stand for, and what an enabled element needs.
use Rattle.std.specs.Prelude.{◌≡◌}
use Rattle.cpn_definitions.specs.Enabled.{PlainEntry}
use Rattle.cpn_definitions.specs.Net.{PlainNet}
use Rattle.cpn_definitions.specs.Occurrence.{PlainElement, needs_of}
use Rattle.cpn_definitions.specs.Outcome.{gives}
use Rattle.cpn_core.specs.declared.bindings.Element.{Element}
use Rattle.cpn_core.specs.declared.entries.Entry.{Entry}
use Rattle.cpn_core.specs.declared.entries.EnabledElement.{EnabledElement}

abbrev pub element_view : Element → PlainElement
element_view e = record { transition = e.transition; binding = e.binding }

abbrev pub entry_view : Entry → PlainEntry
entry_view x = record { earliest = x.earliest; element = element_view x.element.value }

-- the entry of an enabled element
abbrev pub enabled_view : EnabledElement → PlainEntry
enabled_view x = entry_view x.entry

-- An enabled element with its needs: they are what its element needs in the net. Source: own choice.
abbrev pub HasItsNeeds : PlainNet → EnabledElement → Type 0
HasItsNeeds n x = needs_of n (enabled_view x).element ≡ gives x.needs
