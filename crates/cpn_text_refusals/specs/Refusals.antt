-- Why a text of the inscription language is refused. Source: own choice.
use Rattle.cpn_typing.specs.Names.{Refusal as TypeRefusal}
use Rattle.cpn_module_trees.specs.Parsing.{NoTree}

-- Why a text of the inscription language is refused: it has no tree; its tree breaks a rule of typing.
pub data TextRefusal : Type 0 where
  no_tree : NoTree → TextRefusal
  typing : TypeRefusal → TextRefusal
