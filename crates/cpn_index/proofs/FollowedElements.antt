-- What is kept after an update are elements of the net.
use Rattle.std.proofs.Common.{List, Contains, ⊎_elim}
use Rattle.cpn_definitions.specs.Marking.{Marking}
use Rattle.cpn_definitions.specs.Net.{PlainNet}
use Rattle.cpn_definitions.proofs.RisingLists.{in_from_contains, contains_from_in, of_one_in, each_in}
use Rattle.cpn_tmset.specs.Changed.{PlainChange}
use Rattle.cpn_due.specs.Due.{PlainEnabled}
use Rattle.cpn_index.specs.Retimed.{IsOfNet, AreOfNet, AreRetimed}
use Rattle.cpn_index.specs.Added.{HaveMore}
use Rattle.cpn_index.proofs.RetimedLists.{still_of_net}

pub of_net : (n : PlainNet) (elements : List PlainEnabled) → AreOfNet n elements → (x : PlainEnabled) → Contains elements x → IsOfNet n x
of_net n elements own x h = of_one_in (IsOfNet n) elements x own (in_from_contains elements x h)

pub still_own : (n : PlainNet) (m : Marking) (told : List PlainChange) (before retimed after : List PlainEnabled) → AreOfNet n before → AreRetimed n m told before retimed → HaveMore n m retimed after → AreOfNet n after
still_own n m told before retimed after own anew more =
    each_in (IsOfNet n) after
    (λ x h. ⊎_elim (λ was. still_of_net n m told before retimed anew (of_net n before own) x was) (λ comes. comes.1) (more.come x (contains_from_in after x h)))
