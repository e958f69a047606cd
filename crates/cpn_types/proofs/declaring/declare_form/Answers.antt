-- What was declared is there.
use Rattle.cpn_types.proofs.declaring.declare_form.Goals as goal

pub returns-in-ColourSet-clause-grown : goal.returns-in-ColourSet-clause-grown
returns-in-ColourSet-clause-grown c = c.declare_colour_set.ensures.grown

pub returns-in-Variables-clause-grown : goal.returns-in-Variables-clause-grown
returns-in-Variables-clause-grown c = c.declare_variables.ensures.grown

pub returns-in-Value-clause-grown : goal.returns-in-Value-clause-grown
returns-in-Value-clause-grown c = c.declare_value.ensures.grown

pub returns-in-Function-clause-grown : goal.returns-in-Function-clause-grown
returns-in-Function-clause-grown c = c.declare_function.ensures.grown
