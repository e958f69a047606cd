-- Each step keeps the rule.
use Rattle.std.proofs.Common.{◌≡◌, ◌⊎◌, ℕ, zero, suc, ◌+◌, ◌%◌, ◌^◌, ◌<◌, ◌≤◌, ◌==◌, Bool, true, false, List, [], ◌∷◌, ◌++◌, length, set, Some, None, refl, sym, ap, ◌∙◌, subst, inl, inr, ⊎_elim, arith, append_assoc, append-nil, length-append}
use Rattle.std.specs.Prelude.{slice_index, slice_set}
use Rattle.std.proofs.lemmas.List.Elements.{filter-append}
use Rattle.std.proofs.lemmas.Bool.Decides.{nat_tests}
use mathlib.Core.Option as core
use mathlib.Core.Logic.{dite}
use native.Mathlib.Decide.{ℕ_discrete}
use lib.ListN.{get_elem?}
use Rattle.atomic_table.specs.Table.{Me, Step, Act, keeps, takes, gives, step, stepped, carried_after, Valid, Allows, Splits, opening}
use Rattle.atomic_table.proofs.Lists.{at_longer, set_else, set_again, one_turn}
use Rattle.cpn_runs.specs.State.{PlainSetup, PlainEvent}
use Rattle.cpn_runs.specs.FinishedViews.{setup_view}
use Rattle.cpn_book.specs.Books.{setup_in, journal_in, entered_in, IsBook}
use Rattle.cpn_book.specs.declared.books.Book.{Book}
use Rattle.cpn_runs.specs.SeatEvents.{is_among, is_by, events_by, NoneBy}
use Rattle.cpn_seats.specs.declared.views.View.{View}
use Rattle.cpn_seats.specs.Turns.{journal_told, Slot, one_if, turns_out, numbers_out, AreDistinct, Fits, Apart, AtHome, KeepsTurns, with_turn, holding, after_turn, Made, PutBack, IsPutBack, first_view, before_last, last_of, with_numbers, left_of, right_of, number_given, more_numbers, Looked, Draws, Looks, Serves, ServesMore, Counts}
use Rattle.cpn_seats.proofs.Totals.{total_set, total_le, total_snoc, turns_out_le, next_turn, set_here, each_set, each_snoc, apart_set, apart_snoc}
use Rattle.cpn_seats.proofs.Numbers.{has_either, has_one, has_left, has_right, none_among, before_last-push, last_of-push, distinct_push, distinct_front, below_length, below_all, below_distinct}

off : {A : Type 0} → false ≡ true → A
off e = cc

-- at most as many numbers are given as the run has seats
within : (setup : PlainSetup) (home : Book) → IsBook home → setup_in home ≡ setup → entered_in home ≤ setup.limits.seats
within setup home is same = let seats = ap (λ (z : PlainSetup). z.limits.seats) same in let a = is.entered in omega arith

abbrev Held : List View → List (core.Option Slot) → Type 0
Held views homes = (homes ≡ core.none ∷ []) × (seat : ℕ) × (u : View) × (get_elem? views seat ≡ core.some u) × (u.holds ≡ true)

-- the slot stays where it is while a view that doesn't hold it changes
pub home_set : (home : Book) (homes : List (core.Option Slot)) (views : List View) (id : ℕ) (v w : View) → get_elem? views id ≡ core.some v → (v.holds ≡ true → ⊥) → AtHome home homes views → AtHome home homes (set views id w)
home_set home homes views id v w at free h =
    ⊎_elim inl
    (λ (t : Held views homes).
    let apart : t.1 ≡ id → ⊥ = λ e. free (ap (λ (x : View). x.holds) (core.some-injective v t.2 (sym at ∙ ap (λ (k : ℕ). get_elem? views k) (sym e) ∙ t.3)) ∙ t.4) in
    inr (t.0, t.1, t.2, set_else views id t.1 w apart ∙ t.3, t.4))
    h

home_more : (home : Book) (homes : List (core.Option Slot)) (views : List View) (w : View) → AtHome home homes views → AtHome home homes (views ++ w ∷ [])
home_more home homes views w h =
    ⊎_elim inl
    (λ (t : Held views homes). inr (t.0, t.1, t.2, at_longer views (w ∷ []) t.1 t.2 t.3, t.4))
    h

later_turn : (drawn served : ℕ) (setup : PlainSetup) (home : Book) (u : View) → Fits drawn served setup home u → Fits (drawn + 1) served setup home u
later_turn drawn served setup home u f = record {
  turn = λ x. ((f.turn x).0, let a = (f.turn x).1 in omega arith);
  holding = f.holding;
  some_number = f.some_number;
  behind = f.behind;
  met = f.met;
  met_own = f.met_own;
  below = f.below;
  distinct = f.distinct;
  given = f.given;
  spent = f.spent;
  setup_is = f.setup_is;
  met_setup_is = f.met_setup_is;
}

draws : (setup : PlainSetup) (slots id : ℕ) (v : View) → v.waits ≡ false → 0 < length v.numbers → Allows (KeepsTurns setup) slots id (v, []) 0 (λ n. (n + 1) % 2 ^ 64) (Draws (step slots 0 1 0 core.none) (v, []))
draws setup slots id v idle number s k len at lt =
    let mine = k.fits id v at in
    let w = with_turn v k.drawn in
    let free : v.holds ≡ true → ⊥ = λ x. off (sym idle ∙ (mine.holding x).0) in
    let out = k.out in
    let more = total_set turns_out s.views id v w at in
    let none_now : turns_out v ≡ 0 = ap one_if idle in
    let wide = total_set numbers_out s.views id v w at in
    let word = ap (λ ws. slice_index ws 0) k.words in (
      w,
      keeps,
      tt,
      record {
        drawn = k.drawn + 1;
        served = k.served;
        counts = k.counts;
        home = k.home;
        words = ap (λ ws. slice_set ws 0 ((slice_index ws 0 + 1) % 2 ^ 64)) k.words ∙ ap (λ (n : ℕ). n ∷ k.served % 2 ^ 64 ∷ k.counts) (next_turn k.drawn);
        out = omega arith;
        wide = let e = k.wide in omega arith;
        few = k.few;
        setup_is = k.setup_is;
        is_book = k.is_book;
        known = k.known;
        at_home = home_set k.home s.homes s.views id v w at free k.at_home;
        fits = each_set (Fits (k.drawn + 1) k.served setup k.home) s.views id w
            (λ j u ne e. later_turn k.drawn k.served setup k.home u (k.fits j u e))
            (record {
              turn = λ _. (omega arith, omega arith);
              holding = off;
              some_number = λ _. number;
              behind = mine.behind;
              met = mine.met;
              met_own = mine.met_own;
              below = mine.below;
              distinct = mine.distinct;
              given = mine.given;
              spent = mine.spent;
              setup_is = mine.setup_is;
              met_setup_is = mine.met_setup_is;
            });
        apart = apart_set s.views id w k.apart
            (λ j u ne e. record {
              turns = λ _ x same. let before = ((k.fits j u e).turn x).1 in absurd (omega arith);
              numbers = (k.apart id j v u at e (λ x. ne (sym x))).numbers;
            });
      },
      (k.drawn, word, refl),
    )

pub draws_as : (setup : PlainSetup) (slots id : ℕ) (m : Me Slot View) → m.1 ≡ [] → m.0.waits ≡ false → 0 < length m.0.numbers → Allows (KeepsTurns setup) slots id m 0 (λ n. (n + 1) % 2 ^ 64) (Draws (step slots 0 1 0 core.none) m)
draws_as setup slots id m empty idle number =
    let P : List (ℕ × Slot) → Type 0 = λ c. Allows (KeepsTurns setup) slots id (m.0, c) 0 (λ n. (n + 1) % 2 ^ 64) (Draws (step slots 0 1 0 core.none) (m.0, c)) in
    subst P (sym empty) (draws setup slots id m.0 idle number)

-- a view that waits for the turn served is the only one that could hold the slot
free_home : (home : Book) (drawn served : ℕ) (setup : PlainSetup) (homes : List (core.Option Slot)) (views : List View) (id : ℕ) (v : View)
    → get_elem? views id ≡ core.some v → v.waits ≡ true → v.holds ≡ false → v.turn ≡ served
    → ((i : ℕ) (u : View) → get_elem? views i ≡ core.some u → Fits drawn served setup home u)
    → ((i j : ℕ) (x y : View) → get_elem? views i ≡ core.some x → get_elem? views j ≡ core.some y → (i ≡ j → ⊥) → Apart x y)
    → AtHome home homes views → homes ≡ core.some (Some home) ∷ []
free_home home drawn served setup homes views id v at waits free turn fits apart h =
    ⊎_elim (λ e. e)
    (λ (t : Held views homes).
    let held = (fits t.1 t.2 t.3).holding t.4 in
    absurd (dite (ℕ_discrete t.1 id)
    (λ e. off (sym free ∙ ap (λ (x : View). x.holds) (core.some-injective v t.2 (sym at ∙ ap (λ (k : ℕ). get_elem? views k) (sym e) ∙ t.3)) ∙ t.4))
    (λ ne. (apart t.1 id t.2 v t.3 at ne).turns held.0 waits (held.1 ∙ sym turn))))
    h

looks : (setup : PlainSetup) (slots id : ℕ) (v : View) → v.waits ≡ true → v.holds ≡ false → Allows (KeepsTurns setup) slots id (v, []) 1 (λ n. n) (Looks (step slots 1 0 0 core.none) (v, []))
looks setup slots id v waits free s k len at lt = by_test (slice_index s.words 1 == v.turn % 2 ^ 64) refl
  where
    mine : Fits k.drawn k.served setup k.home v
    mine = k.fits id v at

    same_words : slice_set s.words 1 (slice_index s.words 1) ≡ k.drawn % 2 ^ 64 ∷ k.served % 2 ^ 64 ∷ k.counts
    same_words = ap (λ ws. slice_set ws 1 (slice_index ws 1)) k.words

    by_test : (b : Bool) → (slice_index s.words 1 == v.turn % 2 ^ 64) ≡ b
        → (w : View) × (a : Act Slot) × Valid s.homes [] a × KeepsTurns setup (stepped s 1 (slice_index s.words 1) id [] w a) × Looked b (v, []) (w, carried_after [] a)
    by_test false is =
        let same = set_again s.views id v at in
        let P : List View → Type 0 = λ vs. KeepsTurns setup (record { words = slice_set s.words 1 (slice_index s.words 1); homes = s.homes; views = vs }) in (
          v,
          keeps,
          tt,
          subst P (sym same) (record {
            drawn = k.drawn;
            served = k.served;
            counts = k.counts;
            home = k.home;
            words = same_words;
            out = k.out;
            wide = k.wide;
            few = k.few;
            setup_is = k.setup_is;
            is_book = k.is_book;
            known = k.known;
            at_home = k.at_home;
            fits = k.fits;
            apart = k.apart;
          }),
          refl,
        )
    by_test true is =
        let word : slice_index s.words 1 ≡ k.served % 2 ^ 64 = ap (λ ws. slice_index ws 1) k.words in
        let found : slice_index s.words 1 ≡ v.turn % 2 ^ 64 = grind (arith, nat_tests) in
        let room = total_le turns_out numbers_out s.views (λ i u e. turns_out_le u (k.fits i u e).some_number) in
        let bounds = mine.turn waits in
        let near : v.turn < k.served + 2 ^ 64 = let a = k.out in let b = k.wide in let c = k.few in let d = within setup k.home k.is_book k.setup_is in omega arith in
        let turn : k.served ≡ v.turn = one_turn k.served v.turn (2 ^ 64) bounds.0 near (sym word ∙ found) in
        let home = free_home k.home k.drawn k.served setup s.homes s.views id v at waits free (sym turn) k.fits k.apart k.at_home in
        let w = holding v k.home in
        let both = total_set turns_out s.views id v w at in
        let one = ap one_if waits in
        let wide = total_set numbers_out s.views id v w at in (
          w,
          takes 0 (Some k.home),
          ap (λ hs. get_elem? hs 0) home,
          record {
            drawn = k.drawn;
            served = k.served;
            counts = k.counts;
            home = k.home;
            words = same_words;
            out = let a = k.out in omega arith;
            wide = let a = k.wide in omega arith;
            few = k.few;
            setup_is = k.setup_is;
            is_book = k.is_book;
            known = k.known;
            at_home = inr (ap (λ hs. slice_set hs 0 core.none) home, id, w, set_here s.views id v w at, refl);
            fits = each_set (Fits k.drawn k.served setup k.home) s.views id w (λ j u ne e. k.fits j u e) (record {
              turn = λ _. bounds;
              holding = λ _. (refl, sym turn, refl);
              some_number = λ _. mine.some_number waits;
              behind = mine.behind;
              met = mine.met;
              met_own = mine.met_own;
              below = mine.below;
              distinct = mine.distinct;
              given = mine.given;
              spent = mine.spent;
              setup_is = mine.setup_is;
              met_setup_is = mine.met_setup_is;
            });
            apart = apart_set s.views id w k.apart (λ j u ne e. let a = k.apart id j v u at e (λ x. ne (sym x)) in record { turns = λ _ y same. a.turns waits y same; numbers = a.numbers });
          },
          (
            k.home,
            refl,
            record {
              is_book = k.is_book;
              setup_is = λ z is. k.setup_is ∙ sym (mine.setup_is z is);
              behind = mine.behind;
              below = mine.below;
              spent = mine.spent;
              given = mine.given;
              known = k.known;
            },
          ),
        )

pub looks_as : (setup : PlainSetup) (slots id : ℕ) (m : Me Slot View) → m.1 ≡ [] → m.0.waits ≡ true → m.0.holds ≡ false → Allows (KeepsTurns setup) slots id m 1 (λ n. n) (Looks (step slots 1 0 0 core.none) m)
looks_as setup slots id m empty waits free =
    let P : List (ℕ × Slot) → Type 0 = λ c. Allows (KeepsTurns setup) slots id (m.0, c) 1 (λ n. n) (Looks (step slots 1 0 0 core.none) (m.0, c)) in
    subst P (sym empty) (looks setup slots id m.0 waits free)

filled : (home : Book) (x : Slot) (homes : List (core.Option Slot)) (views : List View) → AtHome home homes views → slice_set homes 0 (core.some x) ≡ core.some x ∷ []
filled home x homes views h =
    ⊎_elim (λ e. ap (λ hs. slice_set hs 0 (core.some x)) e)
    (λ (t : Held views homes). ap (λ hs. slice_set hs 0 (core.some x)) t.0)
    h

-- a list of events is by none of these numbers if both its parts are
pub none_by_both : (numbers : List ℕ) (xs ys : List PlainEvent) → NoneBy numbers xs → NoneBy numbers ys → NoneBy numbers (xs ++ ys)
none_by_both numbers xs ys a b n is = filter-append (is_by n) xs ys ∙ ap (λ l. l ++ events_by n ys) (a n is) ∙ b n is

pub not_some : {A : Type 0} (x : A) → None ≡ Some x → ⊥
not_some x e = cc

the_same_some : {A : Type 0} (x h : A) → Some x ≡ Some h → x ≡ h
the_same_some x h e = cc

pub served_with : (setup : PlainSetup) (slots id : ℕ) (v : View) (y : Book) (numbers : List ℕ) (number more : ℕ) (p : PutBack v number more y) (then : ℕ → Me Slot View → Type 0)
    → length numbers ≡ length v.numbers + more
    → ((n : ℕ) → is_among n numbers ≡ true → (is_among n v.numbers ≡ true) ⊎ ((entered_in p.x ≤ n) × (n < entered_in y)))
    → (AreDistinct v.numbers → ((n : ℕ) → is_among n v.numbers ≡ true → n < entered_in p.x) → AreDistinct numbers)
    → ((n : ℕ) → then n (after_turn v y numbers, []))
    → Allows (KeepsTurns setup) slots id (v, (0, Some y) ∷ []) 1 (λ n. (n + 1) % 2 ^ 64) then
served_with setup slots id v y numbers number more p then longer new each_once tells s k len at lt =
    let mine = k.fits id v at in
    let held = mine.holding p.holds in
    let w = after_turn v y numbers in
    let waits = held.0 in
    let both = total_set turns_out s.views id v w at in
    let one = ap one_if waits in
    let wide = total_set numbers_out s.views id v w at in
    let is_home : p.x ≡ k.home = the_same_some p.x k.home (sym p.found ∙ held.2) in
    let given : entered_in y ≡ entered_in k.home + more = p.given ∙ ap (λ (h : Book). entered_in h + more) is_home in
    let made : Made number k.home y = subst (λ (h : Book). Made number h y) is_home p.made in
    let setup_now : setup_in y ≡ setup = made.setup ∙ k.setup_is in
    let grown : journal_in y ≡ journal_in k.home ++ made.events = made.journal in
    let own_below : number < entered_in k.home = mine.below number p.among in (
      w,
      gives,
      tt,
      record {
        drawn = k.drawn;
        served = k.served + 1;
        counts = k.counts;
        home = y;
        words = ap (λ ws. slice_set ws 1 ((slice_index ws 1 + 1) % 2 ^ 64)) k.words ∙ ap (λ (n : ℕ). k.drawn % 2 ^ 64 ∷ n ∷ k.counts) (next_turn k.served);
        out = let a = k.out in omega arith;
        wide = let a = k.wide in omega arith;
        few = k.few;
        setup_is = setup_now;
        is_book = made.is_book;
        known = λ n le. ap (events_by n) grown ∙ filter-append (is_by n) (journal_in k.home) made.events ∙ ap (λ l. l ++ events_by n made.events) (k.known n (omega arith)) ∙ made.own n (λ z. absurd (omega arith));
        at_home = inl (filled k.home (Some y) s.homes s.views k.at_home);
        fits = each_set (Fits k.drawn (k.served + 1) setup y) s.views id w
            (λ j u ne e.
            let f = k.fits j u e in
            let a = k.apart id j v u at e (λ z. ne (sym z)) in record {
              turn = λ z.
                  let t = f.turn z in
                  let apart : v.turn ≡ u.turn → ⊥ = a.turns waits z in
                  let here : v.turn ≡ k.served = held.1 in
                  (dite (ℕ_discrete k.served u.turn) (λ (z : k.served ≡ u.turn). absurd (apart (here ∙ z))) (λ (z : k.served ≡ u.turn → ⊥). omega (arith, t.0, z)), t.1);
              holding = λ z. let h = f.holding z in absurd (a.turns waits h.0 (held.1 ∙ sym h.1));
              some_number = f.some_number;
              behind = (
                f.behind.0 ++ made.events,
                grown ∙ ap (λ l. l ++ made.events) f.behind.1 ∙ append_assoc (journal_told u.seen) f.behind.0 made.events,
                none_by_both u.numbers f.behind.0 made.events f.behind.2 (λ n is. made.own n (λ (z : n ≡ number). a.numbers number p.among (subst (λ (m : ℕ). is_among m u.numbers ≡ true) z is))),
              );
              met = (
                f.met.0 ++ made.events,
                grown ∙ ap (λ l. l ++ made.events) f.met.1 ∙ append_assoc (journal_told u.met) f.met.0 made.events,
                none_by_both u.met_numbers f.met.0 made.events f.met.2 (λ n is. made.own n (λ (z : n ≡ number). a.numbers number p.among (subst (λ (m : ℕ). is_among m u.numbers ≡ true) z (f.met_own n is)))),
              );
              met_own = f.met_own;
              below = λ n is. let b = f.below n is in omega arith;
              distinct = f.distinct;
              given = let b = f.given in omega arith;
              spent = λ z. made.spent (f.spent z);
              setup_is = f.setup_is;
              met_setup_is = f.met_setup_is;
            })
            (record {
              turn = off;
              holding = off;
              some_number = off;
              behind = ([], sym (append-nil (journal_in y)), λ n is. refl);
              met = ([], sym (append-nil (journal_in y)), λ n is. refl);
              met_own = λ n is. absurd (none_among n is);
              below = λ n is. ⊎_elim (λ (o : is_among n v.numbers ≡ true). let b = mine.below n o in omega arith) (λ (o : (entered_in p.x ≤ n) × (n < entered_in y)). o.1) (new n is);
              distinct = each_once mine.distinct (λ n is. let b = mine.below n is in let e = ap (λ (h : Book). entered_in h) is_home in omega arith);
              given = omega arith;
              spent = λ z. z;
              setup_is = mine.setup_is;
              met_setup_is = λ t e. absurd (not_some t e);
            });
        apart = apart_set s.views id w k.apart
            (λ j u ne e.
            let f = k.fits j u e in
            let a = k.apart id j v u at e (λ z. ne (sym z)) in record {
              turns = λ z t r. off z;
              numbers = λ n is there. ⊎_elim (λ (o : is_among n v.numbers ≡ true). a.numbers n o there)
                  (λ (o : (entered_in p.x ≤ n) × (n < entered_in y)). let b = f.below n there in let c = ap (λ (h : Book). entered_in h) is_home in absurd (omega (arith, o.0))) (new n is);
            });
      },
      tells (slice_index s.words 1),
    )

pub serves_as : (setup : PlainSetup) (slots id : ℕ) (m : Me Slot View) (number : ℕ) → IsPutBack m number 0 → Allows (KeepsTurns setup) slots id m 1 (λ n. (n + 1) % 2 ^ 64) (Serves (step slots 1 1 0 core.none) m)
serves_as setup slots id m number p =
    let y = p.0 in
    let P : List (ℕ × Slot) → Type 0 = λ c. Allows (KeepsTurns setup) slots id (m.0, c) 1 (λ n. (n + 1) % 2 ^ 64) (Serves (step slots 1 1 0 core.none) (m.0, c)) in
    subst P (sym p.1) (served_with setup slots id m.0 y m.0.numbers number 0 p.2 (Serves (step slots 1 1 0 core.none) (m.0, (0, Some y) ∷ [])) (omega arith) (λ n is. inl is) (λ d b. d) (λ n. refl))

pub serves_more_as : (setup : PlainSetup) (slots id : ℕ) (m : Me Slot View) (number : ℕ) → IsPutBack m number 1 → Allows (KeepsTurns setup) slots id m 1 (λ n. (n + 1) % 2 ^ 64) (ServesMore (step slots 1 1 0 core.none) m)
serves_more_as setup slots id m number p =
    let y = p.0 in
    let b = p.2 in
    let P : List (ℕ × Slot) → Type 0 = λ c. Allows (KeepsTurns setup) slots id (m.0, c) 1 (λ n. (n + 1) % 2 ^ 64) (ServesMore (step slots 1 1 0 core.none) (m.0, c)) in
    let given : number_given m.0.found ≡ entered_in b.x = ap number_given b.found in
    let more = b.given in
    let numbers : List ℕ = more_numbers m.0 in
    let long = length-append m.0.numbers (number_given m.0.found ∷ []) in
    subst P (sym p.1) (served_with setup slots id m.0 y numbers number 1 b (ServesMore (step slots 1 1 0 core.none) (m.0, (0, Some y) ∷ [])) (omega arith)
    (λ k is. ⊎_elim inl (λ (h : is_among k (number_given m.0.found ∷ []) ≡ true). let e : k ≡ number_given m.0.found = has_one k (number_given m.0.found) h in inr (omega arith, omega arith)) (has_either k m.0.numbers (number_given m.0.found ∷ []) is))
    (λ d b. distinct_push m.0.numbers (number_given m.0.found) d (λ is. let lt = b (number_given m.0.found) is in omega arith))
    (λ k. refl))

-- the first seat has every number that was given
pub opens : (x : Book) (counts : List ℕ) → IsBook x → ((n : ℕ) → entered_in x ≤ n → events_by n (journal_in x) ≡ []) → KeepsTurns (setup_in x) (opening (0 ∷ 0 ∷ counts) (Some x ∷ []) (first_view x))
opens x counts is known = record {
  drawn = 0;
  served = 0;
  counts = counts;
  home = x;
  words = refl;
  out = refl;
  wide = let long = below_length (entered_in x) in omega arith;
  few = is.playable.few_seats;
  setup_is = refl;
  is_book = is;
  known = known;
  at_home = inl refl;
  fits = only (Fits 0 0 (setup_in x) x) (record {
    turn = off;
    holding = off;
    some_number = off;
    behind = ([], sym (append-nil (journal_in x)), λ n among. refl);
    met = ([], sym (append-nil (journal_in x)), λ n among. refl);
    met_own = λ n among. absurd (none_among n among);
    below = below_all (entered_in x);
    distinct = below_distinct (entered_in x);
    given = omega arith;
    spent = λ e. e;
    setup_is = λ s e. ap setup_view (sym (the_same_some x.setup s e));
    met_setup_is = λ s e. absurd (not_some s e);
  });
  apart = λ i j v w a b ne. absurd (ne (alone i v a ∙ sym (alone j w b)));
}
  where
    only : (F : View → Type 0) → F (first_view x) → (i : ℕ) (v : View) → get_elem? (first_view x ∷ []) i ≡ core.some v → F v
    only F f zero v e = subst F (core.some-injective _ v e) f
    only F f (suc i) v e = absurd (core.some-ne-none v (sym e))

    alone : (i : ℕ) (v : View) → get_elem? (first_view x ∷ []) i ≡ core.some v → i ≡ 0
    alone zero v e = refl
    alone (suc i) v e = absurd (core.some-ne-none v (sym e))

-- a seat that is at rest gives its last number to a new one
pub splits : (setup : PlainSetup) (id : ℕ) (v : View) (xs : List ℕ) (n : ℕ) → v.numbers ≡ xs ++ n ∷ [] → (is_among n xs ≡ true → ⊥) → v.waits ≡ false → Splits (KeepsTurns setup) id v (left_of v) (right_of v)
splits setup id v xs n is apart idle s k at =
    let mine = k.fits id v at in
    let l = left_of v in
    let r = right_of v in
    let free : v.holds ≡ true → ⊥ = λ x. off (sym idle ∙ (mine.holding x).0) in
    let left_is : before_last v.numbers ≡ xs = ap before_last is ∙ before_last-push xs n in
    let right_is : last_of v.numbers ∷ [] ≡ n ∷ [] = ap (λ (ns : List ℕ). last_of ns ∷ []) is ∙ ap (λ (m : ℕ). m ∷ []) (last_of-push xs n) in
    let in_left : (m : ℕ) → is_among m (before_last v.numbers) ≡ true → is_among m xs ≡ true = λ m h. subst (λ (ns : List ℕ). is_among m ns ≡ true) left_is h in
    let in_right : (m : ℕ) → is_among m (last_of v.numbers ∷ []) ≡ true → m ≡ n = λ m h. has_one m n (subst (λ (ns : List ℕ). is_among m ns ≡ true) right_is h) in
    let was_left : (m : ℕ) → is_among m (before_last v.numbers) ≡ true → is_among m v.numbers ≡ true = λ m h. subst (λ (ns : List ℕ). is_among m ns ≡ true) (sym is) (has_left m xs (n ∷ []) (in_left m h)) in
    let was_right : (m : ℕ) → is_among m (last_of v.numbers ∷ []) ≡ true → is_among m v.numbers ≡ true = λ m h. subst (λ (ns : List ℕ). is_among m ns ≡ true) (sym is) (has_right m xs (n ∷ []) (subst (λ (ns : List ℕ). is_among m ns ≡ true) right_is h)) in
    let waits = total_set turns_out s.views id v l at in
    let waits_more = total_snoc turns_out (set s.views id l) r in
    let none_now : one_if v.waits ≡ 0 = ap one_if idle in
    let wide = total_set numbers_out s.views id v l at in
    let wide_more = total_snoc numbers_out (set s.views id l) r in
    let long : length v.numbers ≡ length xs + 1 = ap length is ∙ length-append xs (n ∷ []) in
    let short : length (before_last v.numbers) ≡ length xs = ap length left_is in
    let left_once : AreDistinct (before_last v.numbers) = subst AreDistinct (sym left_is) (distinct_front xs (n ∷ []) (subst AreDistinct is mine.distinct)) in
    let F = Fits k.drawn k.served setup k.home in
    let part : (numbers : List ℕ) → ((m : ℕ) → is_among m numbers ≡ true → is_among m v.numbers ≡ true) → AreDistinct numbers → F (with_numbers v numbers) = λ numbers was each_once. record {
      turn = λ x. off (sym idle ∙ x);
      holding = λ x. absurd (free x);
      some_number = λ x. off (sym idle ∙ x);
      behind = (mine.behind.0, mine.behind.1, λ m h. mine.behind.2 m (was m h));
      met = (mine.met.0, mine.met.1, λ m h. absurd (none_among m h));
      met_own = λ m h. absurd (none_among m h);
      below = λ m h. mine.below m (was m h);
      distinct = each_once;
      given = mine.given;
      spent = mine.spent;
      setup_is = mine.setup_is;
      met_setup_is = λ t e. absurd (not_some t e);
    } in record {
      drawn = k.drawn;
      served = k.served;
      counts = k.counts;
      home = k.home;
      words = k.words;
      out = let a = k.out in omega arith;
      wide = let a = k.wide in omega arith;
      few = k.few;
      setup_is = k.setup_is;
      is_book = k.is_book;
      known = k.known;
      at_home = home_more k.home s.homes (set s.views id l) r (home_set k.home s.homes s.views id v l at free k.at_home);
      fits = each_snoc F (set s.views id l) r (each_set F s.views id l (λ j u ne e. k.fits j u e) (part _ was_left left_once)) (part _ was_right (λ is. none_among (last_of v.numbers) is, tt));
      apart = apart_snoc (set s.views id l) r
          (apart_set s.views id l k.apart (λ j u ne e. record { turns = λ x y t. off (sym idle ∙ x); numbers = λ m h there. (k.apart id j v u at e (λ y. ne (sym y))).numbers m (was_left m h) there }))
          (each_set (Apart r) s.views id l
          (λ j u ne e. record { turns = λ x y t. off (sym idle ∙ x); numbers = λ m h there. (k.apart id j v u at e (λ y. ne (sym y))).numbers m (was_right m h) there })
          (record { turns = λ x y t. off (sym idle ∙ x); numbers = λ m h there. apart (subst (λ (i : ℕ). is_among i xs ≡ true) (in_right m h) (in_left m there)) }));
    }

-- a word of which the rule says nothing may become any other number
pub counts_on : (setup : PlainSetup) (slots id : ℕ) (m : Me Slot View) (word : ℕ) (f : ℕ → ℕ) (at : Step Slot) → 2 ≤ word → Allows (KeepsTurns setup) slots id m word f (Counts at m)
counts_on setup slots id m zero f at beyond s k len here lt = absurd (omega arith)
counts_on setup slots id m (suc zero) f at beyond s k len here lt = absurd (omega arith)
counts_on setup slots id m (suc (suc w)) f at beyond s k len here lt =
    let n = f (slice_index s.words (suc (suc w))) in
    let same = set_again s.views id m.0 here in
    let P : List View → Type 0 = λ vs. KeepsTurns setup (record { words = slice_set s.words (suc (suc w)) n; homes = s.homes; views = vs }) in (
      m.0,
      keeps,
      tt,
      subst P (sym same) (record {
        drawn = k.drawn;
        served = k.served;
        counts = set k.counts w n;
        home = k.home;
        words = ap (λ ws. slice_set ws (suc (suc w)) n) k.words;
        out = k.out;
        wide = k.wide;
        few = k.few;
        setup_is = k.setup_is;
        is_book = k.is_book;
        known = k.known;
        at_home = k.at_home;
        fits = k.fits;
        apart = k.apart;
      }),
      refl,
    )

pub opens_as : (key book : Book) (counts : List ℕ) (slots : List Slot) → key ≡ book → slots ≡ Some book ∷ [] → IsBook book → ((n : ℕ) → entered_in book ≤ n → events_by n (journal_in book) ≡ [])
    → KeepsTurns (setup_in key) (opening (0 ∷ 0 ∷ counts) slots (first_view key))
opens_as key book counts slots same are is known =
    let P : Book → Type 0 = λ b. KeepsTurns (setup_in b) (opening (0 ∷ 0 ∷ counts) slots (first_view b)) in
    let Q : List Slot → Type 0 = λ xs. KeepsTurns (setup_in book) (opening (0 ∷ 0 ∷ counts) xs (first_view book)) in
    subst P (sym same) (subst Q (sym are) (opens book counts is known))
