-- The first one of the transition stands on the side where the order has it.
use Rattle.std.proofs.Common.{◌≡◌, ◌++◌, ◌∷◌, Some, None, option_map, sym, ap, subst, ◌∙◌, arith}
use Rattle.std.proofs.lemmas.List.{map-append}
use Rattle.cpn_definitions.specs.Lists.{Rises}
use Rattle.cpn_due.specs.Due.{plain_enabled, enabled_cmp, first_of}
use Rattle.cpn_due.specs.Marked.{PlainMarked, plain_marked, enabled_in}
use Rattle.cpn_due.specs.Trees.{items_at, items_of, IsBalancedAt, IsBalanced}
use Rattle.cpn_due.proofs.FirstItems.{first_right, first_left, first_root}
use Rattle.cpn_due.proofs.KeptElements.{enabled_rise}
use Rattle.cpn_due.proofs.trees.Tree.+first_of.Goals as goal

pub returns-then-here-transition : goal.returns-then-here-transition
returns-then-here-transition s c =
    let t = c.args.transition in
    let left = c.in-Some.fork.left.items in
    let right = c.in-Some.fork.right.items in
    let root = plain_marked c.in-Some.fork.root in
    let items = ap items_at (sym c.in-Some.is ∙ c.deref.ensures) ∙ ap items_of (sym c.in-Fork.is) ∙ ap (λ d. d.items) c.self.view_is in
    let parts = map-append (λ (m : PlainMarked). m.enabled) left (root ∷ right) in
    let rise = subst (Rises enabled_cmp) parts (enabled_rise (left ++ root ∷ right) (subst IsBalancedAt (sym c.deref.ensures ∙ c.in-Some.is) (subst IsBalanced c.in-Fork.is c.self.invariant)).rises) in
    let here = c.transition-here.ensures.exact in
    let below = c.if-here-transition.true in
    let there : option_map (λ x. plain_enabled x.now) c.first_of.result ≡ first_of t (enabled_in right) = cc (c.first_of.ensures.first) in
    record { first = there ∙ sym (first_right t root.enabled (enabled_in left) (enabled_in right) rise (omega (arith, here, below))) ∙ ap (first_of t) (sym parts) ∙ ap (λ xs. first_of t (enabled_in xs)) items }

pub returns-in-Some-first_of : goal.returns-in-Some-first_of
returns-in-Some-first_of s c =
    let t = c.args.transition in
    let left = c.in-Some.fork.left.items in
    let right = c.in-Some.fork.right.items in
    let root = plain_marked c.in-Some.fork.root in
    let items = ap items_at (sym c.in-Some.is ∙ c.deref.ensures) ∙ ap items_of (sym c.in-Fork.is) ∙ ap (λ d. d.items) c.self.view_is in
    let parts = map-append (λ (m : PlainMarked). m.enabled) left (root ∷ right) in
    let there : Some (plain_enabled c.in-Some-first_of.found.now) ≡ first_of t (enabled_in left) = cc (c.in-Some-first_of.ensures.first) in
    record { first = sym (first_left t root.enabled (enabled_in left) (enabled_in right) (plain_enabled c.in-Some-first_of.found.now) (sym there)) ∙ ap (first_of t) (sym parts) ∙ ap (λ xs. first_of t (enabled_in xs)) items }

pub returns-in-None-first_of : goal.returns-in-None-first_of
returns-in-None-first_of s c =
    let t = c.args.transition in
    let left = c.in-Some.fork.left.items in
    let right = c.in-Some.fork.right.items in
    let root = plain_marked c.in-Some.fork.root in
    let items = ap items_at (sym c.in-Some.is ∙ c.deref.ensures) ∙ ap items_of (sym c.in-Fork.is) ∙ ap (λ d. d.items) c.self.view_is in
    let parts = map-append (λ (m : PlainMarked). m.enabled) left (root ∷ right) in
    let rise = subst (Rises enabled_cmp) parts (enabled_rise (left ++ root ∷ right) (subst IsBalancedAt (sym c.deref.ensures ∙ c.in-Some.is) (subst IsBalanced c.in-Fork.is c.self.invariant)).rises) in
    let here = c.transition-here.ensures.exact in
    let not_below = c.if-here-transition.false in
    let there : None ≡ first_of t (enabled_in left) = cc (c.in-None-first_of.ensures.first) in
    record { first = c.if_of.ensures.exact ∙ sym (first_root t root.enabled (enabled_in left) (enabled_in right) rise (omega (arith, here, not_below)) (sym there)) ∙ ap (first_of t) (sym parts) ∙ ap (λ xs. first_of t (enabled_in xs)) items }
