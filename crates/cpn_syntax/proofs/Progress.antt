-- How steps of reading follow one another.
use Rattle.std.proofs.Common.{◌≡◌, [], ◌∷◌, ◌++◌, refl, sym, ap, ◌∙◌, append_assoc}
use Rattle.cpn_syntax.specs.declared.refusals.SyntaxError.{SyntaxError}
use Rattle.cpn_syntax.specs.Texts.{Text}
use Rattle.cpn_syntax.specs.Progress.{Agrees, Leads, Stops}

-- what agrees with the rest agrees, behind the tokens between, with the text before them
pub agrees_further : (from used to w : Text) → from ≡ used ++ to → Agrees to w → Agrees from (used ++ w)
agrees_further from [] [] w is agrees = rw (is, agrees) refl
agrees_further from [] (t ∷ to) w is agrees = rw is agrees
agrees_further from (t ∷ used) to w is agrees = rw is (used ++ w, refl)

module _ {S R : Type 0} {Read : S → Text → Type 0} {Takes : S → R → Text → Type 0} where
  pub leads_on : {s1 s2 s3 : S} {a b c : Text} → Leads Read Takes s1 a s2 b → Leads Read Takes s2 b s3 c → Leads Read Takes s1 a s3 c
  leads_on {s1} {s2} {s3} {a} {b} {c} x y = record {
    used = x.used ++ y.used;
    split = x.split ∙ ap (λ z. x.used ++ z) y.split ∙ sym (append_assoc x.used y.used c);
    reads = λ before read. rw (← append_assoc before x.used y.used) (y.reads (before ++ x.used) (x.reads before read));
    only = λ r w agrees takes. y.only r w agrees (x.only r (y.used ++ w) (agrees_further b y.used c w y.split agrees) (rw (← append_assoc x.used y.used w) takes));
  }

  pub leads_to_stop : {Whole : Text → Type 0} {s1 s2 : S} {a b : Text} {e : SyntaxError} → Leads Read Takes s1 a s2 b → Stops Read Takes Whole s2 b e → Stops Read Takes Whole s1 a e
  leads_to_stop {Whole} {s1} {s2} {a} {b} {e} x y = record {
    used = x.used ++ y.used;
    rest = y.rest;
    split = x.split ∙ ap (λ z. x.used ++ z) y.split ∙ sym (append_assoc x.used y.used y.rest);
    fault_is = y.fault_is;
    viable = λ before read. let found = y.viable (before ++ x.used) (x.reads before read) in (found.0, rw (← append_assoc before x.used y.used) found.1);
    none = λ r w agrees takes. y.none r w agrees (x.only r (y.used ++ w) (agrees_further b y.used y.rest w y.split agrees) (rw (← append_assoc x.used y.used w) takes));
  }
