-- What the check of a pattern leaves, as the rules of patterns say it: the pattern, or several, with the locals bound so far.
use Rattle.std.specs.Prelude.{◌≡◌, ℕ, List, Option, Some, None, Result, Ok, Err}
use Rattle.cpn_core.specs.Inscriptions.{pattern_view, patterns_view}
use Rattle.cpn_core.specs.declared.inscriptions.Pat.{Pat}
use Rattle.cpn_trees.specs.Trees.{PlainPats}
use Rattle.cpn_typing.specs.Types.{PlainTy}
use Rattle.cpn_typing.specs.Names.{Declared, Scope, Refusal, Checked}
use Rattle.cpn_typing.specs.PatternRules.{Around, BoundPattern, BoundPatterns, Constructor, takes, refuses, argument_rule, first_at, bound_by_first, bound_by_parts}
use Rattle.cpn_declared.specs.Answers.{refusal_of}
use Rattle.cpn_declared.specs.DeclsViews.{decls_view}
use Rattle.cpn_forms.specs.ScopeViews.{scope_view}
use Rattle.cpn_declared.specs.TypeViews.{ty_view}
use Rattle.cpn_declared.specs.declared.decls.Decls.{Decls}
use Rattle.cpn_forms.specs.declared.patterns.Taken.{Taken}
use Rattle.cpn_declared.specs.declared.refusals.TypeError.{TypeError}
use Rattle.cpn_forms.specs.declared.scopes.Local.{Local}

-- what is around a pattern
abbrev pub around_in : Declared → List Local → Around
around_in ds scope = record { declared = ds; scope = scope_view scope }

abbrev pub around_view : Decls → List Local → Around
around_view decls scope = around_in (decls_view decls) scope

-- a pattern with the locals bound so far
abbrev pub bound_with : Scope → Pat → BoundPattern
bound_with bound p = record { pattern = pattern_view p; locals = bound }

abbrev pub bound_view : List Local → Pat → BoundPattern
bound_view bound p = bound_with (scope_view bound) p

abbrev pub all_bound_view : List Local → List Pat → BoundPatterns
all_bound_view bound ps = record { patterns = patterns_view ps; locals = scope_view bound }

-- the argument of a constructor that stands at an offset
abbrev pub argument_in : Around → PlainPats → ℕ → Scope → PlainTy → Checked BoundPattern
argument_in around ps at bound t = argument_rule ps (first_at at ps) (λ u. bound_by_first around ps at u bound) (λ ts. bound_by_parts around ps (first_at at ps) ts bound) t

-- a constructor, or why there is none
abbrev pub RefusesTaking : Option Refusal → Constructor → Type 0
RefusesTaking None c = Unit {0}
RefusesTaking (Some r) c = c ≡ refuses r

abbrev pub TakenAs : Result Taken TypeError → Constructor → Type 0
TakenAs (Ok t) c = c ≡ takes t.position (ty_view t.argument.now)
TakenAs (Err e) c = RefusesTaking (refusal_of e) c
