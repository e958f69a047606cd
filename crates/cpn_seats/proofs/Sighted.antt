-- A seat that looks on, and looks on again; and that what it has seen stays seen.
use Rattle.std.proofs.Common.{◌≡◌, ℕ, List, [], ◌++◌, Option, Some, None, Result, Ok, Err, IfOk, OnErr, refl, ap, ◌∙◌, subst, append_assoc, append-nil}
use Rattle.cpn_memory.specs.declared.memory_wanted.Memory.{Memory}
use Rattle.cpn_book.specs.Seen.{Seen, IfSeen, IsLater, Later, SeesCall}
use Rattle.cpn_book.proofs.SeatCalls.{is_later}
use Rattle.cpn_seats.proofs.Keeping.{none_by_both}

sees_through : (ns : List ℕ) (a b c : Seen) → SeesCall ns [] a b → SeesCall ns [] b c → SeesCall ns [] a c
sees_through ns a b c m n = record {
  others = m.others ++ n.others;
  apart = none_by_both ns m.others n.others m.apart n.apart;
  at = n.at;
  at_is = n.at_is ∙ ap (λ es. es ++ n.others) (m.journal ∙ append-nil m.at ∙ m.at_is) ∙ append_assoc a.journal m.others n.others;
  setup = n.setup ∙ m.setup;
  journal = n.journal;
  state = n.state;
  reached = n.reached;
  spent = λ e. n.spent (m.spent e);
}

looks_through : (ns ms : List ℕ) (a b c : Option Seen) → ms ≡ ns → IfSeen a b (SeesCall ns []) → IfSeen b c (SeesCall ms []) → IfSeen a c (SeesCall ns [])
looks_through ns ms None b c e l m = tt
looks_through ns ms (Some x) b c e l m =
    let n = subst (λ o. IfSeen o c (SeesCall ns [])) l.1 (subst (λ ks. IfSeen b c (SeesCall ks [])) e m) in
    (n.0, n.1, sees_through ns x l.0 n.0 l.2 n.2)

-- who looks from the second on sees what who looks from the first on sees
abbrev pub LooksOn : List ℕ → Option Seen → Option Seen → Type 0
LooksOn ns a b = (next : Option Seen) → IfSeen b next (SeesCall ns []) → IfSeen a next (SeesCall ns [])

pub looks_on : (ns ms : List ℕ) (a b c : Option Seen) → ms ≡ ns → LooksOn ns a b → IfSeen b c (SeesCall ms []) → IfSeen a c (SeesCall ns [])
looks_on ns ms a b c e on l = on c (subst (λ ks. IfSeen b c (SeesCall ks [])) e l)

pub looks_further : (ns ms : List ℕ) (a b c : Option Seen) → ms ≡ ns → LooksOn ns a b → IfSeen b c (SeesCall ms []) → LooksOn ns a c
looks_further ns ms a b c e on l next m = on next (looks_through ns ns b c next refl (subst (λ ks. IfSeen b c (SeesCall ks [])) e l) m)

-- a fact that a call tells, where it tells of one journal that goes on
pub later_by : (Fact : Seen → Seen → Type 0) → ((old new : Seen) → Fact old new → IsLater old new) → (a b : Option Seen) → IfSeen a b Fact → Later a b
later_by Fact goes None b l = tt
later_by Fact goes (Some seen) b l = (l.0, l.1, goes seen l.0 l.2)

pub look_later : (ns : List ℕ) (a b : Option Seen) → IfSeen a b (SeesCall ns []) → Later a b
look_later ns a b l = later_by (SeesCall ns []) (λ old new call. is_later ns old new [] call) a b l

-- the same of a call that has an answer, or wants memory
pub answer_later : (A : Type 0) (Fact : A → Seen → Seen → Type 0) (Wants : Seen → Seen → Type 0)
    → ((answer : A) (old new : Seen) → Fact answer old new → IsLater old new) → ((old new : Seen) → Wants old new → IsLater old new)
    → (a b : Option Seen) (r : Result A Memory) → IfOk r (λ answer. IfSeen a b (Fact answer)) → OnErr r (IfSeen a b Wants) → Later a b
answer_later A Fact Wants goes still a b (Ok answer) h g = later_by (Fact answer) (goes answer) a b h
answer_later A Fact Wants goes still a b (Err e) h g = later_by Wants still a b g
