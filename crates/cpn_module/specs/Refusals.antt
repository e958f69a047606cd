-- Why the modules of a document make no hierarchy. Source: Jensen and Kristensen, chapter 6; the order is an own choice.
use Rattle.cpn_document.specs.declared.pointers.Pointer.{Pointer}

-- Each with the pointer into the document: no module has the name; no place (no port, in an assignment) has it; no transition and no
-- substitution transition has it; the module is part of itself; a socket and its port are of different types; their colour
-- sets differ, or those of two members of a fusion set; the port has a socket already; the member is a port; the member is in
-- a fusion set already.
pub data ModuleRefusal : Type 0 where
  unknown_module : Pointer → ModuleRefusal
  unknown_place : Pointer → ModuleRefusal
  unknown_transition : Pointer → ModuleRefusal
  cycle : Pointer → ModuleRefusal
  socket_type : Pointer → ModuleRefusal
  colour_differs : Pointer → ModuleRefusal
  port_twice : Pointer → ModuleRefusal
  port_in_fusion : Pointer → ModuleRefusal
  two_fusions : Pointer → ModuleRefusal
