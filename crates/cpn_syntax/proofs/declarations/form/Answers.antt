-- What is declared behind a symbol.
use Rattle.std.proofs.Common.{refl, ap}
use Rattle.cpn_lex.specs.Token as token
use Rattle.cpn_lex.specs.declared.symbols.Symbol.TheVariants as sign
use Rattle.cpn_syntax.proofs.DeclarationParts.{no_form, no_form_by, with_token}
use Rattle.cpn_syntax.proofs.declarations.form.Goals as goal

pub returns-in-Colset-clause-read : goal.returns-in-Colset-clause-read
returns-in-Colset-clause-read c = with_token c.colour_set.result sign.Colset _ _ _ (ap token.symbol c.in-Colset.is) c.colour_set.ensures.read

pub returns-in-Var-clause-read : goal.returns-in-Var-clause-read
returns-in-Var-clause-read c = with_token c.variables.result sign.Var _ _ _ (ap token.symbol c.in-Var.is) c.variables.ensures.read

pub returns-in-Val-clause-read : goal.returns-in-Val-clause-read
returns-in-Val-clause-read c = with_token c.value.result sign.Val _ _ _ (ap token.symbol c.in-Val.is) c.value.ensures.read

pub returns-in-Fun-clause-read : goal.returns-in-Fun-clause-read
returns-in-Fun-clause-read c = with_token c.function.result sign.Fun _ _ _ (ap token.symbol c.in-Fun.is) c.function.ensures.read

pub returns-in_default : goal.returns-in_default
returns-in_default c = let n = c.in_default in record {
  read = tt;
  stops = λ no. no_form_by _ c.args.symbol refl (no_form c.args.symbol n.not-Colset n.not-Var n.not-Val n.not-Fun c.args.at);
}
