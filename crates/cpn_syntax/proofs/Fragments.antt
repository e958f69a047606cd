-- How parts of the grammar are read one after the other.
use Rattle.std.proofs.Common.{◌≡◌, ◌≢◌, ◌⊎◌, inl, inr, Bool, true, false, List, [], ◌∷◌, ◌++◌, refl, sym, ap, ◌∙◌, append_assoc, append-nil}
use Rattle.cpn_lex.specs.Token.{PlainToken}
use Rattle.cpn_lex.specs.declared.symbols.Symbol.{Symbol}
use Rattle.cpn_syntax.specs.declared.refusals.SyntaxError.{SyntaxError}
use Rattle.cpn_syntax.specs.Texts.{Text, Is}
use Rattle.cpn_syntax.specs.Faults.{fault_at}
use Rattle.cpn_syntax.specs.Progress.{Agrees}
use Rattle.cpn_syntax.specs.Unread.{Reads, Begins}
use Rattle.cpn_syntax.specs.Phrases.{One, one, Optional, present, absent, Each, last_one, next_one}
use Rattle.cpn_syntax.specs.Endings.{No}
use Rattle.cpn_syntax.specs.Fragments.{Front, front, Whole, whole, Leaves, ReadsAs, Halts}
use Rattle.cpn_syntax.proofs.Progress.{agrees_further}

-- ---- further parts

-- one part behind another
pub data Then {A B : Type 0} (Part : A → Text → Type 0) (Rest : A → B → Text → Type 0) : B → Text → Type 0 where
  next : {a : A} {b : B} (u v : Text) → Part a u → Rest a b v → Then Part Rest b (u ++ v)

-- a sign or a reserved word
abbrev pub Sign : Symbol → Unit {0} → Text → Type 0
Sign s = One (λ _. Is s)

-- something is a text of the part
abbrev pub Can : {A : Type 0} → (A → Text → Type 0) → Type 0
Can {A} Part = (a : A) × (u : Text) × Part a u

-- ---- what stands in front

pub split_front : {A : Type 0} {Part : A → Text → Type 0} {Ends : Text → Type 0} {a : A} {v text : Text} → Front Part Ends a v text → (u : Text) × (text ≡ u ++ v) × Part a u × Ends v
split_front (front u v part ends) = (u, refl, part, ends)

pub split_whole : {A : Type 0} {a b : A} {u : Text} → Whole a b u → (a ≡ b) × (u ≡ [])
split_whole whole = (refl, refl)

pub split_then : {A B : Type 0} {Part : A → Text → Type 0} {Rest : A → B → Text → Type 0} {b : B} {text : Text} → Then Part Rest b text → (a : A) × (u : Text) × (v : Text) × (text ≡ u ++ v) × Part a u × Rest a b v
split_then (next {a = a} u v part rest) = (a, u, v, refl, part, rest)

pub front_at : {A : Type 0} {Part : A → Text → Type 0} {Ends : Text → Type 0} {a : A} {text : Text} (u v : Text) → text ≡ u ++ v → Part a u → Ends v → Front Part Ends a v text
front_at u v is part ends = rw is (front u v part ends)

module _ {A : Type 0} {Ends : Text → Type 0} where
  -- one part leaves another one where each text of the one is one of the other
  pub leaves_same : {P Q : A → Text → Type 0} {from : Text} → ((a : A) (u : Text) → P a u → Q a u) → ((a : A) (u : Text) → Q a u → P a u) → Leaves P Q Ends from from
  leaves_same to back = record {
    used = [];
    split = refl;
    reads = λ a w q. back a w q;
    only = λ a v w agrees f. let s = split_front f in front_at s.0 v s.1 (to a s.0 s.2) s.3;
  }

  pub leaves_on : {P Q R : A → Text → Type 0} {from mid to : Text} → Leaves P Q Ends from mid → Leaves Q R Ends mid to → Leaves P R Ends from to
  leaves_on {P} {Q} {R} {from} {mid} {to} x y = record {
    used = x.used ++ y.used;
    split = x.split ∙ ap (λ z. x.used ++ z) y.split ∙ sym (append_assoc x.used y.used to);
    reads = λ a w r. rw append_assoc (x.reads a (y.used ++ w) (y.reads a w r));
    only = λ a v w agrees f. y.only a v w agrees (x.only a v (y.used ++ w) (agrees_further mid y.used to w y.split agrees) (rw (← append_assoc x.used y.used w) f));
  }

  pub leaves_to_halt : {P Q : A → Text → Type 0} {from mid : Text} {e : SyntaxError} → Leaves P Q Ends from mid → Halts Q Ends mid e → Halts P Ends from e
  leaves_to_halt {P} {Q} {from} {mid} {e} x y = record {
    used = x.used ++ y.used;
    rest = y.rest;
    split = x.split ∙ ap (λ z. x.used ++ z) y.split ∙ sym (append_assoc x.used y.used y.rest);
    fault_is = y.fault_is;
    viable = let w = y.viable in (w.0, w.1, rw append_assoc (x.reads w.0 (y.used ++ w.1) w.2));
    none = λ a v w agrees f. y.none a v w agrees (x.only a v (y.used ++ w) (agrees_further mid y.used y.rest w y.split agrees) (rw (← append_assoc x.used y.used w) f));
  }

  -- a token in front of the text, that the part begins with
  pub leaves_token : {P Q : A → Text → Type 0} {from : Text} (t : PlainToken) → ((a : A) (u text : Text) → P a u → (v : Text) → u ++ v ≡ t ∷ text → (w : Text) × (text ≡ w ++ v) × Q a w) → ((a : A) (u : Text) → Q a u → P a (t ∷ u)) → Leaves P Q Ends (t ∷ from) from
  leaves_token t into back = record {
    used = t ∷ [];
    split = refl;
    reads = λ a w q. back a w q;
    only = λ a v w agrees f. let s = split_front f in let found = into a s.0 w s.2 v (sym s.1) in front_at found.0 v found.1 found.2 s.3;
  }

module _ {A B : Type 0} {P : A → Text → Type 0} {Rest : A → B → Text → Type 0} {Within Ends : Text → Type 0} where
  behind : ((a : A) (b : B) (u v : Text) → Rest a b u → Ends v → Within (u ++ v)) → {b : B} {v text : Text} → Front (Then P Rest) Ends b v text
      → (a : A) × (u : Text) × Front P Within a (u ++ v) text × Rest a b u × Ends v
  behind follow {b = b} {v = v} f =
      let s = split_front f in let t = split_then s.2 in
      (t.0, t.2, front_at t.1 (t.2 ++ v) (s.1 ∙ ap (λ z. z ++ v) t.3 ∙ append_assoc t.1 t.2 v) t.4 (follow t.0 b t.2 v t.5 s.3), t.5, s.3)

  -- a part that is read leaves what stands behind it
  pub leaves_next : {from to : Text} {a : A} → ((a : A) (b : B) (u v : Text) → Rest a b u → Ends v → Within (u ++ v)) → ReadsAs P Within from to a → Leaves (Then P Rest) (Rest a) Ends from to
  leaves_next {from} {to} {a} follow x = record {
    used = x.used;
    split = x.split;
    reads = λ b w rest. next x.used w (rw append-nil at (x.reads a [] whole)) rest;
    only = λ b v w agrees f.
        let s = behind follow f in
        let t = split_front (x.only s.0 (s.1 ++ v) w agrees s.2) in
        let e = split_whole t.2 in
        front_at s.1 v (t.1 ∙ ap (λ z. z ++ (s.1 ++ v)) e.1) (rw e.0 s.3) s.4;
  }

  pub halts_next : {from : Text} {e : SyntaxError} → ((a : A) (b : B) (u v : Text) → Rest a b u → Ends v → Within (u ++ v)) → ((a : A) → Can (Rest a)) → Halts P Within from e → Halts (Then P Rest) Ends from e
  halts_next {from} {e} follow can x = record {
    used = x.used;
    rest = x.rest;
    split = x.split;
    fault_is = x.fault_is;
    viable = let p = x.viable in let r = can p.0 in (r.0, p.1 ++ r.1, rw (← append_assoc x.used p.1 r.1) (next (x.used ++ p.1) r.1 p.2 r.2));
    none = λ b v w agrees f. let s = behind follow f in x.none s.0 (s.1 ++ v) w agrees s.2;
  }

-- ---- one token

-- what is read wholly
reads_whole : {A : Type 0} (P : A → Text → Type 0) {a : A} (used : Text) → P a used → (b : A) (w : Text) → Whole a b w → P b (used ++ w)
reads_whole P {a} used part b w is = let e = split_whole is in rw (← e.0, e.1, append-nil) part

module _ {A : Type 0} {Fits : A → PlainToken → Type 0} {Ends : Text → Type 0} where
  front_token : {a : A} {t : PlainToken} {v w : Text} → Front (One Fits) Ends a v (t ∷ w) → Fits a t × (w ≡ v) × Ends v
  front_token {a} {t} {v} {w} f = let s = split_front f in first s.0 s.1 s.2 s.3 where
    first : (u : Text) → t ∷ w ≡ u ++ v → One Fits a u → Ends v → Fits a t × (w ≡ v) × Ends v
    first u is (one m fits) ends = let e : t ≡ m = cc in (rw e fits, cc, ends)

  pub one_read : {from to : Text} {a : A} → ((a b : A) (t : PlainToken) → Fits a t → Fits b t → a ≡ b) → Reads (Fits a) from to → ReadsAs (One Fits) Ends from to a
  one_read {from} {to} {a} unique (t, fits, split) = record {
    used = t ∷ [];
    split = split;
    reads = reads_whole (One Fits) (t ∷ []) (one t fits);
    only = λ b v w agrees f. let s = front_token f in front_at [] v s.1 (rw (unique b a t s.0 fits) whole) s.2;
  }

  pub one_halts : {from : Text} {e : SyntaxError} → (a : A) (t : PlainToken) → Fits a t → e ≡ fault_at from → ((a : A) → Begins (Fits a) from → ⊥) → Halts (One Fits) Ends from e
  one_halts {from} {e} a t fits is refused = record {
    used = [];
    rest = from;
    split = refl;
    fault_is = is;
    viable = (a, t ∷ [], one t fits);
    none = λ b v w agrees f. none from w agrees b f refused;
  } where
    none : {v : Text} (rest w : Text) → Agrees rest w → (b : A) → Front (One Fits) Ends b v w → ((a : A) → Begins (Fits a) rest → ⊥) → ⊥
    none {v} [] w agrees b f refused = let s = split_front (rw agrees at f) in empty v s.0 s.1 s.2 where
      empty : (v u : Text) → [] ≡ u ++ v → One Fits b u → ⊥
      empty v u is (one m fits) = cc
    none (t ∷ rest) w agrees b f refused = refused b (front_token (rw agrees.1 at f)).0

-- ---- a sign that may be there

abbrev pub Begin : Symbol → Text → Type 0
Begin s = Begins (Is s)

agrees_begin : (s : Symbol) (from w : Text) → Agrees from w → Begin s w → Begin s from
agrees_begin s [] w agrees begins = rw agrees at begins
agrees_begin s (t ∷ from) w agrees begins = rw agrees.1 at begins

module _ {B : Type 0} {s : Symbol} {K : Bool → B → Text → Type 0} {Ends : Text → Type 0} where
  split_optional : {b : B} {v text : Text} → Front (Then (Optional s) K) Ends b v text → ((t : PlainToken) × (u : Text) × Is s t × (text ≡ t ∷ u ++ v) × K true b u × Ends v) ⊎ ((u : Text) × (text ≡ u ++ v) × K false b u × Ends v)
  split_optional {b} {v} {text} f = let x = split_front f in let y = split_then x.2 in cases y.0 y.1 y.2 x.0 x.1 y.3 y.4 y.5 x.3 where
    cases : (there : Bool) (u1 u2 u : Text) → text ≡ u ++ v → u ≡ u1 ++ u2 → Optional s there u1 → K there b u2 → Ends v → ((t : PlainToken) × (u : Text) × Is s t × (text ≡ t ∷ u ++ v) × K true b u × Ends v) ⊎ ((u : Text) × (text ≡ u ++ v) × K false b u × Ends v)
    cases there u1 u2 u is1 is2 (present t is) rest ends = inl (t, u2, is, is1 ∙ ap (λ z. z ++ v) is2, rest, ends)
    cases there u1 u2 u is1 is2 absent rest ends = inr (u2, is1 ∙ ap (λ z. z ++ v) is2, rest, ends)

  pub optional_yes : {from to : Text} → ((b : B) (u v : Text) → K false b u → Ends v → No s (u ++ v)) → Reads (Is s) from to → Leaves (Then (Optional s) K) (K true) Ends from to
  optional_yes {from} {to} follow (t, is, split) = record {
    used = t ∷ [];
    split = split;
    reads = λ b w rest. next (t ∷ []) w (present t is) rest;
    only = λ b v w agrees f. elim (split_optional f) [ inl x ↦ (let e : w ≡ x.1 ++ v = cc in front_at x.1 v e x.4 x.5) | inr x ↦ absurd (follow b x.0 v x.2 x.3 (rw (← x.1) is)) ];
  }

  pub optional_no : {from : Text} → No s from → Leaves (Then (Optional s) K) (K false) Ends from from
  optional_no {from} refused = record {
    used = [];
    split = refl;
    reads = λ b w rest. next [] w absent rest;
    only = λ b v w agrees f. elim (split_optional f) [ inl x ↦ absurd (refused (agrees_begin s from w agrees (rw x.3 x.2))) | inr x ↦ front_at x.0 v x.1 x.2 x.3 ];
  }

  pub optional_read : {from to : Text} (there : Bool) → ((b : B) (u v : Text) → K false b u → Ends v → No s (u ++ v)) → (there ≡ true → Reads (Is s) from to) → (there ≡ false → (to ≡ from) × No s from) → Leaves (Then (Optional s) K) (K there) Ends from to
  optional_read true follow read missing = optional_yes follow (read refl)
  optional_read false follow read missing = let m = missing refl in rw m.0 (optional_no m.1)

-- ---- where nothing of a part is read

pub empty_front : (u v : Text) → u ++ v ≡ [] → u ≡ []
empty_front [] v e = refl
empty_front (t ∷ u) v e = cc

pub halts_at_once : {A : Type 0} {Part : A → Text → Type 0} {Ends : Text → Type 0} (from : Text) → Can Part → ((a : A) (u v : Text) → Part a u → Agrees from (u ++ v) → ⊥) → Halts Part Ends from (fault_at from)
halts_at_once from can refused = record {
  used = [];
  rest = from;
  split = refl;
  fault_is = refl;
  viable = can;
  none = λ a v w agrees f. let s = split_front f in refused a s.0 v s.2 (rw s.1 at agrees);
}

-- ---- what stands behind a part

-- nothing more of the text
pub whole_ends : {A B : Type 0} {Ends Within : Text → Type 0} (f : A → B) → ((v : Text) → Ends v → Within v) → (a : A) (b : B) (u v : Text) → Whole (f a) b u → Ends v → Within (u ++ v)
whole_ends f ends a b u v rest e = rw (split_whole rest).1 (ends v e)

-- a sign
pub sign_behind : {B : Type 0} {Rest : B → Text → Type 0} {s : Symbol} (b : B) (u v : Text) → Then (Sign s) (λ _. Rest) b u → Begin s (u ++ v)
sign_behind b u v (next x y (one t is) rest) = is

-- and so no other one
pub other_sign : (s other : Symbol) → s ≢ other → (v : Text) → Begin s v → No other v
other_sign s other differ [] is other_is = is
other_sign s other differ (t ∷ v) is other_is = differ cc

pub sign_ends : {A B : Type 0} (Ends : Text → Type 0) (Rest : A → B → Text → Type 0) (s other : Symbol) → s ≢ other → (a : A) (b : B) (u v : Text) → Then (Sign s) (λ _. Rest a) b u → Ends v → No other (u ++ v)
sign_ends Ends Rest s other differ a b u v rest ends = other_sign s other differ (u ++ v) (sign_behind b u v rest)

-- ---- several parts, each but the first behind a sign

-- further parts behind some that were read
pub data More {A : Type 0} (Part : A → Text → Type 0) (s : Symbol) : List A → List A → Text → Type 0 where
  more : {before rest : List A} (u : Text) → Each Part s rest u → More Part s before (before ++ rest) u

-- what goes on where the sign is there, and where it isn't
abbrev pub Goes : {A : Type 0} (Part : A → Text → Type 0) (s : Symbol) → List A → Bool → List A → Text → Type 0
Goes Part s before true = More Part s before
Goes Part s before false = Whole before

-- what stands behind a part: the sign and further parts, or nothing more
abbrev pub Behind : {A : Type 0} (Part : A → Text → Type 0) (s : Symbol) → List A → A → List A → Text → Type 0
Behind Part s before a = Then (Optional s) (Goes Part s (before ++ a ∷ []))

split_more : {A : Type 0} {Part : A → Text → Type 0} {s : Symbol} {before all : List A} {u : Text} → More Part s before all u → (rest : List A) × (all ≡ before ++ rest) × Each Part s rest u
split_more (more {rest = rest} u parts) = (rest, refl, parts)

module _ {A : Type 0} {Part : A → Text → Type 0} {s : Symbol} where
  more_to : (before all : List A) (u : Text) → More Part s before all u → Then Part (Behind Part s before) all u
  more_to before all u (more w (last_one v part)) = rw (← append-nil v) (next v [] part (next [] [] absent whole))
  more_to before all u (more w (next_one t {a = a} {rest = rest} v x part is parts)) =
      next v (t ∷ x) part (next (t ∷ []) x (present t is) (rw (← append_assoc before (a ∷ []) rest) (more x parts)))

  more_from : (before all : List A) (u : Text) → Then Part (Behind Part s before) all u → More Part s before all u
  more_from before all u (next {a = a} v w part (next {a = there} x y sign rest)) = choose there x sign rest where
    choose : (there : Bool) (x : Text) → Optional s there x → Goes Part s (before ++ a ∷ []) there all y → More Part s before all (v ++ (x ++ y))
    choose there x (present t is) rest = let m = split_more rest in rw (m.1, append_assoc) (more (v ++ t ∷ y) (next_one t v y part is m.2))
    choose there x absent rest = let m = split_whole rest in rw (← m.0, m.1, append-nil) (more v (last_one v part))

  -- nothing is read
  pub each_begins : {Ends : Text → Type 0} {from : Text} → Leaves (Each Part s) (More Part s []) Ends from from
  each_begins = leaves_same (λ all u parts. more u parts) (λ all u parts. let m = split_more parts in rw m.1 m.2)

  module _ {Ends Within : Text → Type 0} (before : List A) (ends : (v : Text) → Ends v → Within v × No s v) (goes : (t : PlainToken) (v : Text) → Is s t → Within (t ∷ v)) where
    follow : (a : A) (all : List A) (u v : Text) → Behind Part s before a all u → Ends v → Within (u ++ v)
    follow a all u v (next {a = there} x y sign rest) e = choose there x sign rest where
      choose : (there : Bool) (x : Text) → Optional s there x → Goes Part s (before ++ a ∷ []) there all y → Within ((x ++ y) ++ v)
      choose there x (present t is) rest = goes t (y ++ v) is
      choose there x absent rest = rw (split_whole rest).1 (ends v e).0

    part_read : {from to : Text} {a : A} → ReadsAs Part Within from to a → Leaves (More Part s before) (Behind Part s before a) Ends from to
    part_read x = leaves_on (leaves_same (more_to before) (more_from before)) (leaves_next follow x)

    -- a part is read, and the sign behind it
    pub part_and_sign : {start from mid to : Text} {a : A} → Leaves (Each Part s) (More Part s before) Ends start from → ReadsAs Part Within from mid a → Reads (Is s) mid to
        → Leaves (Each Part s) (More Part s (before ++ a ∷ [])) Ends start to
    part_and_sign x part sign = leaves_on x (leaves_on (part_read part) (optional_yes (λ all u v w e. rw (split_whole w).1 (ends v e).1) sign))

    -- a part is read, and the sign isn't there
    pub last_part : {start from mid to : Text} {a : A} → Leaves (Each Part s) (More Part s before) Ends start from → ReadsAs Part Within from mid a → (to ≡ mid) × No s mid
        → ReadsAs (Each Part s) Ends start to (before ++ a ∷ [])
    last_part x part (same, refused) = leaves_on x (leaves_on (part_read part) (rw same (optional_no refused)))

    -- no part is there
    pub no_part : {start from : Text} {e : SyntaxError} → Leaves (Each Part s) (More Part s before) Ends start from → Halts Part Within from e → Halts (Each Part s) Ends start e
    no_part x part = leaves_to_halt x (leaves_to_halt (leaves_same (more_to before) (more_from before)) (halts_next follow (λ a. (before ++ a ∷ [], [], next [] [] absent whole)) part))
