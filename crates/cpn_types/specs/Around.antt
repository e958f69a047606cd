-- What the rules say of a tree among what is around it.
use Rattle.std.specs.Prelude.{ℕ, false, List, [], ◌∷◌, ◌++◌, map, Option}
use Rattle.cpn_trees.specs.AstViews.{ast_view}
use Rattle.cpn_trees.specs.Trees.{asts_from}
use Rattle.cpn_trees.specs.declared.trees.Ast.{Ast}
use Rattle.cpn_typing.specs.Types.{PlainTy}
use Rattle.cpn_typing.specs.Names.{Name, Scope, local_of, Checked}
use Rattle.cpn_typing.specs.Rules.{Typed, Checker, Arguments, first_offset}
use Rattle.cpn_typing.specs.Expressions.{typed, typed_first, typed_rest}
use Rattle.cpn_declared.specs.DeclsViews.{decls_view}
use Rattle.cpn_forms.specs.ScopeViews.{scope_view}
use Rattle.cpn_forms.specs.ContextViews.{context_view}
use Rattle.cpn_forms.specs.declared.scopes.Local.{Local}
use Rattle.cpn_types.specs.declared.surroundings.Surroundings.{Surroundings}

-- a tree among its locals
abbrev pub typed_in : Surroundings → Ast → List Local → Checker
typed_in around tree scope = typed (decls_view around.decls.now) (context_view around.context) (ast_view tree) (scope_view scope)

-- the body of a `let`, by the locals that it sees
abbrev pub typed_then : Surroundings → Ast → Option PlainTy → Scope → Checked Typed
typed_then around tree w inner = typed (decls_view around.decls.now) (context_view around.context) (ast_view tree) inner w

-- the body of a `foldl`, by the types of an item and of what has been made so far
abbrev pub body_in : Surroundings → Name → Name → Ast → List Local → PlainTy → PlainTy → Checker
body_in around item total tree scope t s = typed (decls_view around.decls.now) (context_view around.context) (ast_view tree) (scope_view scope ++ local_of item t ∷ local_of total s ∷ [])

-- the arguments of a call that stands at an offset
abbrev pub arguments_in : Surroundings → List Ast → ℕ → List Local → Arguments
arguments_in around trees at scope =
    let ds = decls_view around.decls.now in
    let context = context_view around.context in
    let asts = asts_from (map ast_view trees) in
    record {
      first = record { at = first_offset at asts; is_empty = false; check = typed_first ds context asts at (scope_view scope) };
      rest = typed_rest ds context asts (scope_view scope);
    }
