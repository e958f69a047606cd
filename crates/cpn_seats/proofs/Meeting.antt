-- Two seats become one: what both saw is one journal.
use Rattle.std.proofs.Common.{◌≡◌, ◌≢◌, ℕ, Bool, true, false, cond, List, [], ◌∷◌, ◌++◌, set, Some, refl, sym, ap, ◌∙◌, subst, ⊎_elim, arith, append-nil, length-append}
use Rattle.std.specs.Prelude.{slice_index, slice_set}
use Rattle.std.proofs.lemmas.List.Elements.{filter-append}
use mathlib.Core.Option as core
use lib.ListN.{get_elem?}
use Rattle.atomic_table.specs.Table.{Me, keeps, step, Allows, Joins}
use Rattle.atomic_table.proofs.Lists.{at_set, set_else}
use Rattle.cpn_runs.specs.State.{PlainSetup, PlainEvent}
use Rattle.cpn_runs.specs.FinishedViews.{setup_view}
use Rattle.cpn_runs.specs.declared.events.Event.{Event}
use Rattle.cpn_runs.specs.declared.runs.Setup.{Setup}
use Rattle.cpn_book.specs.Books.{journal_in}
use Rattle.cpn_runs.specs.SeatEvents.{is_among, is_by, NoneBy}
use Rattle.cpn_seats.specs.declared.views.View.{View}
use Rattle.cpn_seats.specs.Joins.{AreJoined}
use Rattle.cpn_seats.specs.Turns.{journal_told, Slot, one_if, turns_out, numbers_out, is_not_longer, both_of, no_view, AreDistinct, GoesOnFrom, Fits, Apart, KeepsTurns, after_meeting, Met, Meets}
use Rattle.cpn_seats.proofs.Totals.{total_set, total_set_two, each_set, apart_set}
use Rattle.cpn_seats.proofs.Numbers.{has_either, has_left, has_right, none_among, distinct_both}
use Rattle.cpn_seats.proofs.Keeping.{home_set, not_some}

off : {A : Type 0} → false ≡ true → A
off e = cc

-- of two lists that go on to one, the shorter one goes on to the longer one
pub fitted : (xs ys : List Event) (es ds : List PlainEvent) → is_not_longer xs ys ≡ true → journal_told xs ++ es ≡ journal_told ys ++ ds → (more : List PlainEvent) × (journal_told ys ≡ journal_told xs ++ more) × (es ≡ more ++ ds)
fitted [] ys es ds le e = (journal_told ys, refl, e)
fitted (x ∷ xs) [] es ds le e = off le
fitted (x ∷ xs) (y ∷ ys) es ds le e =
    let heads = the_heads _ _ _ _ e in
    let rest = fitted xs ys es ds le heads.1 in
    (rest.0, cons_same _ _ _ _ (sym heads.0) rest.1, rest.2)
  where
    the_heads : (a b : PlainEvent) (l m : List PlainEvent) → (a ∷ l) ≡ (b ∷ m) → (a ≡ b) × (l ≡ m)
    the_heads a b l m h = (cc, cc)

    cons_same : (a b : PlainEvent) (l m : List PlainEvent) → a ≡ b → l ≡ m → (a ∷ l) ≡ (b ∷ m)
    cons_same a b l m h t = cc

pub not_longer_other : (xs ys : List Event) → is_not_longer xs ys ≡ false → is_not_longer ys xs ≡ true
not_longer_other [] ys e = off (sym e)
not_longer_other (x ∷ xs) [] e = refl
not_longer_other (x ∷ xs) (y ∷ ys) e = not_longer_other xs ys e

-- events that are none of a number's come behind events that are: the later part is none of its either
later_none : (numbers : List ℕ) (xs ys : List PlainEvent) → NoneBy numbers (xs ++ ys) → NoneBy numbers ys
later_none numbers xs ys none n is = right_empty _ _ (sym (filter-append (is_by n) xs ys) ∙ none n is)
  where
    right_empty : (l m : List PlainEvent) → l ++ m ≡ [] → m ≡ []
    right_empty [] m e = e
    right_empty (x ∷ l) m e = absurd (cc)

-- and so is the earlier part
earlier_none : (numbers : List ℕ) (xs ys : List PlainEvent) → NoneBy numbers (xs ++ ys) → NoneBy numbers xs
earlier_none numbers xs ys none n is = left_empty _ _ (sym (filter-append (is_by n) xs ys) ∙ none n is)
  where
    left_empty : (l m : List PlainEvent) → l ++ m ≡ [] → l ≡ []
    left_empty [] m e = refl
    left_empty (x ∷ l) m e = absurd (cc)

none_by_all : (xs ys : List ℕ) (es : List PlainEvent) → NoneBy xs es → NoneBy ys es → NoneBy (xs ++ ys) es
none_by_all xs ys es a b n is = ⊎_elim (λ (h : is_among n xs ≡ true). a n h) (λ (h : is_among n ys ≡ true). b n h) (has_either n xs ys is)

-- a journal that is behind what two seats saw is behind what the two saw together
pub behind_both : (journal : List PlainEvent) (ns ms : List ℕ) (v w : List Event) (b : Bool) → is_not_longer w v ≡ b → GoesOnFrom (journal_told v) ns journal → GoesOnFrom (journal_told w) ms journal → GoesOnFrom (journal_told (cond b v w)) (ns ++ ms) journal
behind_both journal ns ms v w true is p q =
    let f = fitted w v q.0 p.0 is (sym q.1 ∙ p.1) in
    (p.0, p.1, none_by_all ns ms p.0 p.2 (later_none ms f.0 p.0 (subst (λ es. NoneBy ms es) f.2 q.2)))
behind_both journal ns ms v w false is p q =
    let f = fitted v w p.0 q.0 (not_longer_other w v is) (sym p.1 ∙ q.1) in
    (q.0, q.1, none_by_all ns ms q.0 (later_none ns f.0 q.0 (subst (λ es. NoneBy ns es) f.2 p.2)) q.2)

met_both : (journal : List PlainEvent) (ns ms : List ℕ) (v w : List Event) (b : Bool) → GoesOnFrom (journal_told v) ns journal → GoesOnFrom (journal_told w) ms journal → GoesOnFrom (journal_told (cond b w v)) (cond b ms ns) journal
met_both journal ns ms v w true p q = q
met_both journal ns ms v w false p q = p

either_own : (n : ℕ) (ns ms : List ℕ) (b : Bool) → is_among n (cond b ms ns) ≡ true → is_among n (ns ++ ms) ≡ true
either_own n ns ms true is = has_right n ns ms is
either_own n ns ms false is = has_left n ns ms is

-- a seat at rest takes in another one at rest
pub joins : (setup : PlainSetup) (id other : ℕ) (v w : View) → v.waits ≡ false → w.waits ≡ false → Joins (KeepsTurns setup) id v other w (both_of v w) no_view
joins setup id other v w idle still s k at apart there =
    let b = both_of v w in
    let mine = k.fits id v at in
    let stands : get_elem? s.views other ≡ core.some w = sym (set_else s.views id other b apart) ∙ there in
    let its = k.fits other w stands in
    let free : v.holds ≡ true → ⊥ = λ x. off (sym idle ∙ (mine.holding x).0) in
    let loose : w.holds ≡ true → ⊥ = λ x. off (sym still ∙ (its.holding x).0) in
    let waits = total_set_two turns_out s.views id other v w b no_view apart at there in
    let wide = total_set_two numbers_out s.views id other v w b no_view apart at there in
    let long = length-append v.numbers w.numbers in
    let F = Fits k.drawn k.served setup k.home in
    let a = k.apart id other v w at stands (λ e. apart (sym e)) in
    let first_home = home_set k.home s.homes s.views id v b at free k.at_home in
    let now_both : F b = record {
      turn = λ x. off (sym idle ∙ x);
      holding = λ x. absurd (free x);
      some_number = λ x. off (sym idle ∙ x);
      behind = behind_both (journal_in k.home) v.numbers w.numbers v.seen w.seen (is_not_longer w.seen v.seen) refl mine.behind its.behind;
      met = met_both (journal_in k.home) v.numbers w.numbers v.seen w.seen (is_not_longer w.seen v.seen) mine.behind its.behind;
      met_own = λ n is. either_own n v.numbers w.numbers (is_not_longer w.seen v.seen) is;
      distinct = distinct_both v.numbers w.numbers mine.distinct its.distinct a.numbers;
      below = λ n is. ⊎_elim (λ (h : is_among n v.numbers ≡ true). mine.below n h) (λ (h : is_among n w.numbers ≡ true). its.below n h) (has_either n v.numbers w.numbers is);
      given = mine.given;
      spent = mine.spent;
      setup_is = mine.setup_is;
      met_setup_is = its.setup_is;
    } in
    let now_none : F no_view = record {
      turn = off;
      holding = off;
      some_number = off;
      behind = (journal_in k.home, refl, λ n is. absurd (none_among n is));
      met = (journal_in k.home, refl, λ n is. absurd (none_among n is));
      met_own = λ n is. absurd (none_among n is);
      below = λ n is. absurd (none_among n is);
      distinct = tt;
      given = omega arith;
      spent = off;
      setup_is = λ t e. absurd (not_some t e);
      met_setup_is = λ t e. absurd (not_some t e);
    } in record {
      drawn = k.drawn;
      served = k.served;
      counts = k.counts;
      home = k.home;
      words = k.words;
      out = let o = k.out in let x = ap one_if idle in let y = ap one_if still in omega arith;
      wide = let o = k.wide in omega arith;
      few = k.few;
      setup_is = k.setup_is;
      is_book = k.is_book;
      known = k.known;
      at_home = home_set k.home s.homes (set s.views id b) other w no_view there loose first_home;
      fits = each_set F (set s.views id b) other no_view (λ j u ne e. each_set F s.views id b (λ i x no f. k.fits i x f) now_both j u e) now_none;
      apart = two_apart s.views id other b k.apart
          (λ j u ne no e. record {
            turns = λ x y t. off (sym idle ∙ x);
            numbers = λ n is held. ⊎_elim (λ (h : is_among n v.numbers ≡ true). (k.apart id j v u at e (λ z. ne (sym z))).numbers n h held)
                (λ (h : is_among n w.numbers ≡ true). (k.apart other j w u stands e (λ z. no (sym z))).numbers n h held) (has_either n v.numbers w.numbers is);
          });
    }
  where
    none_apart : (u : View) → Apart no_view u
    none_apart u = record { turns = λ x y t. off x; numbers = λ n is held. none_among n is }

    apart_none : (u : View) → Apart u no_view
    apart_none u = record { turns = λ x y t. off y; numbers = λ n is held. none_among n held }

    apart_sym : (x y : View) → Apart x y → Apart y x
    apart_sym x y p = record { turns = λ f g e. p.turns g f (sym e); numbers = λ n f g. p.numbers n g f }

    -- one view of two that change has no number and no turn
    two_apart : (vs : List View) (id other : ℕ) (b : View)
        → ((i j : ℕ) (x y : View) → get_elem? vs i ≡ core.some x → get_elem? vs j ≡ core.some y → (i ≡ j → ⊥) → Apart x y)
        → ((j : ℕ) (u : View) → (j ≡ id → ⊥) → (j ≡ other → ⊥) → get_elem? vs j ≡ core.some u → Apart b u)
        → (i j : ℕ) (x y : View) → get_elem? (set (set vs id b) other no_view) i ≡ core.some x → get_elem? (set (set vs id b) other no_view) j ≡ core.some y → (i ≡ j → ⊥) → Apart x y
    two_apart vs id other b all mine i j x y ex ey ne =
        ⊎_elim
        (λ (t : (i ≡ other) × (no_view ≡ x)). subst (λ (z : View). Apart z y) t.1 (none_apart y))
        (λ (t : (i ≢ other) × (get_elem? (set vs id b) i ≡ core.some x)).
        ⊎_elim
        (λ (r : (j ≡ other) × (no_view ≡ y)). subst (λ (z : View). Apart x z) r.1 (apart_none x))
        (λ (r : (j ≢ other) × (get_elem? (set vs id b) j ≡ core.some y)).
        ⊎_elim
        (λ (p : (i ≡ id) × (b ≡ x)).
        ⊎_elim
        (λ (q : (j ≡ id) × (b ≡ y)). absurd (ne (p.0 ∙ sym q.0)))
        (λ (q : (j ≢ id) × (get_elem? vs j ≡ core.some y)). subst (λ (z : View). Apart z y) p.1 (mine j y q.0 r.0 q.1))
        (at_set vs id j b y r.1))
        (λ (p : (i ≢ id) × (get_elem? vs i ≡ core.some x)).
        ⊎_elim
        (λ (q : (j ≡ id) × (b ≡ y)). subst (λ (z : View). Apart x z) q.1 (apart_sym b x (mine i x p.0 t.0 p.1)))
        (λ (q : (j ≢ id) × (get_elem? vs j ≡ core.some y)). all i j x y p.1 q.1 ne)
        (at_set vs id j b y r.1))
        (at_set vs id i b x t.1))
        (at_set (set vs id b) other j no_view y ey))
        (at_set (set vs id b) other i no_view x ex)

-- a load tells that what a joined seat had seen is a part of what is seen, where it isn't longer
meets : (setup : PlainSetup) (slots id : ℕ) (v : View) → v.waits ≡ false → is_not_longer v.met v.seen ≡ true → Allows (KeepsTurns setup) slots id (v, []) 1 (λ n. n) (Meets (step slots 1 0 0 core.none) (v, []))
meets setup slots id v idle le s k len at lt =
    let mine = k.fits id v at in
    let w = after_meeting v in
    let free : v.holds ≡ true → ⊥ = λ x. off (sym idle ∙ (mine.holding x).0) in
    let f = fitted v.met v.seen mine.met.0 mine.behind.0 le (sym mine.met.1 ∙ mine.behind.1) in
    let waits = total_set turns_out s.views id v w at in
    let wide = total_set numbers_out s.views id v w at in (
      w,
      keeps,
      tt,
      record {
        drawn = k.drawn;
        served = k.served;
        counts = k.counts;
        home = k.home;
        words = ap (λ ws. slice_set ws 1 (slice_index ws 1)) k.words;
        out = let a = k.out in omega arith;
        wide = let a = k.wide in omega arith;
        few = k.few;
        setup_is = k.setup_is;
        is_book = k.is_book;
        known = k.known;
        at_home = home_set k.home s.homes s.views id v w at free k.at_home;
        fits = each_set (Fits k.drawn k.served setup k.home) s.views id w (λ j u ne e. k.fits j u e) (record {
          turn = mine.turn;
          holding = mine.holding;
          some_number = mine.some_number;
          behind = mine.behind;
          met = (mine.behind.0, mine.behind.1, λ n is. absurd (none_among n is));
          met_own = λ n is. absurd (none_among n is);
          below = mine.below;
          distinct = mine.distinct;
          given = mine.given;
          spent = mine.spent;
          setup_is = mine.setup_is;
          met_setup_is = λ t e. absurd (not_some t e);
        });
        apart = apart_set s.views id w k.apart (λ j u ne e. let a = k.apart id j v u at e (λ x. ne (sym x)) in record { turns = a.turns; numbers = a.numbers });
      },
      (refl, record { setup = λ x y a b. mine.met_setup_is y b ∙ sym (mine.setup_is x a); more = (f.0, f.1, earlier_none v.met_numbers f.0 mine.behind.0 (subst (λ es. NoneBy v.met_numbers es) f.2 mine.met.2)); distinct = mine.distinct }),
    )

pub meets_as : (setup : PlainSetup) (slots id : ℕ) (m : Me Slot View) → m.1 ≡ [] → m.0.waits ≡ false → is_not_longer m.0.met m.0.seen ≡ true → Allows (KeepsTurns setup) slots id m 1 (λ n. n) (Meets (step slots 1 0 0 core.none) m)
meets_as setup slots id m empty idle le =
    let P : List (ℕ × Slot) → Type 0 = λ c. Allows (KeepsTurns setup) slots id (m.0, c) 1 (λ n. n) (Meets (step slots 1 0 0 core.none) (m.0, c)) in
    subst P (sym empty) (meets setup slots id m.0 idle le)

-- of the two that a join keeps, one isn't longer
pub both_fit : (v w : List Event) (b : Bool) → is_not_longer w v ≡ b → is_not_longer (cond b w v) (cond b v w) ≡ true
both_fit v w true is = is
both_fit v w false is = not_longer_other w v is

-- what a join tells
pub joined : (m o n l : Me Slot View) → n ≡ (both_of m.0 o.0, m.1) → l.0 ≡ after_meeting n.0 → Met n.0 → AreJoined m.0 o.0 l.0
joined m o n l is now met = by_length (is_not_longer o.0.seen m.0.seen) refl
  where
    both : View
    both = both_of m.0 o.0

    view_is : n.0 ≡ both
    view_is = ap (λ (k : Me Slot View). k.0) is

    last_is : l.0 ≡ after_meeting both
    last_is = now ∙ ap after_meeting view_is

    more_is : GoesOnFrom (journal_told both.met) both.met_numbers (journal_told both.seen)
    more_is = subst (λ (v : View). GoesOnFrom (journal_told v.met) v.met_numbers (journal_told v.seen)) view_is met.more

    distinct_is : AreDistinct l.0.numbers
    distinct_is = subst AreDistinct (ap (λ (v : View). v.numbers) (sym last_is)) (subst (λ (v : View). AreDistinct v.numbers) view_is met.distinct)

    one_run : (s t : Setup) → l.0.setup ≡ Some s → o.0.setup ≡ Some t → setup_view t ≡ setup_view s
    one_run s t a b = met.setup s t (ap (λ (v : View). v.setup) view_is ∙ sym (ap (λ (v : View). v.setup) last_is) ∙ a) (ap (λ (v : View). v.met_setup) view_is ∙ b)

    seen_is : (b : Bool) → is_not_longer o.0.seen m.0.seen ≡ b → l.0.seen ≡ cond b m.0.seen o.0.seen
    seen_is b e = ap (λ (v : View). v.seen) last_is ∙ ap (λ b. cond b m.0.seen o.0.seen) e

    whole : (b : Bool) (numbers : List ℕ) → is_not_longer o.0.seen m.0.seen ≡ b → GoesOnFrom (journal_told (cond b m.0.seen o.0.seen)) numbers (journal_told l.0.seen)
    whole b numbers e = ([], ap journal_told (seen_is b e) ∙ sym (append-nil (journal_told (cond b m.0.seen o.0.seen))), λ n among. refl)

    less : (b : Bool) → is_not_longer o.0.seen m.0.seen ≡ b → GoesOnFrom (journal_told (cond b o.0.seen m.0.seen)) (cond b o.0.numbers m.0.numbers) (journal_told l.0.seen)
    less b e = (
      more_is.0,
      ap (λ (v : View). journal_told v.seen) last_is ∙ more_is.1 ∙ ap (λ c. journal_told (cond c o.0.seen m.0.seen) ++ more_is.0) e,
      subst (λ c. NoneBy (cond c o.0.numbers m.0.numbers) more_is.0) e more_is.2,
    )

    by_length : (b : Bool) → is_not_longer o.0.seen m.0.seen ≡ b → AreJoined m.0 o.0 l.0
    by_length true e = record {
      setup = ap (λ (v : View). v.setup) last_is;
      other_setup = one_run;
      numbers = ap (λ (v : View). v.numbers) last_is;
      distinct = distinct_is;
      own_seen = whole true m.0.numbers e;
      other_seen = less true e;
      given = ap (λ (v : View). v.given) last_is;
      spent = ap (λ (v : View). v.spent) last_is;
    }
    by_length false e = record {
      setup = ap (λ (v : View). v.setup) last_is;
      other_setup = one_run;
      numbers = ap (λ (v : View). v.numbers) last_is;
      distinct = distinct_is;
      own_seen = less false e;
      other_seen = whole false o.0.numbers e;
      given = ap (λ (v : View). v.given) last_is;
      spent = ap (λ (v : View). v.spent) last_is;
    }
