-- One-to-one codes of values, needs and outputs, by which a type's contract may speak of them.
-- A value is coded as a row of marks, its parts before the mark that joins them, and a reader that
-- keeps the values and the rows read so far gets the value back.
use Rattle.std.specs.Prelude.{◌≡◌, ℕ, ℤ, pos, Bool, true, false, cond, ◌==◌, List, [], ◌∷◌}
use Rattle.std.specs.Coded.{Coded, code_by, coded×, coded_ℕ, coded_ℤ, coded_list}
use Rattle.std.proofs.Common.{refl, ◌∙◌}
use Rattle.cpn_definitions.specs.Value.{PlainValue, PlainValues, unit, boolean, int, constant, text, tuple, bare, applied, list, none, more}
use Rattle.cpn_definitions.specs.Occurrence.{Needed, Made}

-- A mark: a value with no parts; a step that joins parts; the empty row; a row's next item.
pub data Mark : Type 0 where
  unit_mark : Mark
  boolean_mark : Bool → Mark
  int_mark : ℤ → Mark
  constant_mark : ℕ → Mark
  text_mark : List ℕ → Mark
  tuple_mark : Mark
  bare_mark : ℕ → Mark
  applied_mark : ℕ → Mark
  list_mark : Mark
  no_items : Mark
  next_item : Mark

-- ---- the code of a mark: its kind, a number, bytes, an integer

abbrev pub Parts : Type 0
Parts = ℕ × (ℕ × (List ℕ × ℤ))

abbrev pub to_parts : Mark → Parts
to_parts unit_mark = (0, (0, ([], pos 0)))
to_parts (boolean_mark false) = (1, (0, ([], pos 0)))
to_parts (boolean_mark true) = (2, (0, ([], pos 0)))
to_parts (int_mark z) = (3, (0, ([], z)))
to_parts (constant_mark k) = (4, (k, ([], pos 0)))
to_parts (text_mark bytes) = (5, (0, (bytes, pos 0)))
to_parts tuple_mark = (6, (0, ([], pos 0)))
to_parts (bare_mark k) = (7, (k, ([], pos 0)))
to_parts (applied_mark k) = (8, (k, ([], pos 0)))
to_parts list_mark = (9, (0, ([], pos 0)))
to_parts no_items = (10, (0, ([], pos 0)))
to_parts next_item = (11, (0, ([], pos 0)))

abbrev pub from_parts : Parts → Mark
from_parts p =
    cond (p.0 == 0) unit_mark (cond (p.0 == 1) (boolean_mark false) (cond (p.0 == 2) (boolean_mark true) (cond (p.0 == 3) (int_mark p.1.1.1) (cond (p.0 == 4) (constant_mark p.1.0) (cond (p.0 == 5) (text_mark p.1.1.0)
    (cond (p.0 == 6) tuple_mark (cond (p.0 == 7) (bare_mark p.1.0) (cond (p.0 == 8) (applied_mark p.1.0) (cond (p.0 == 9) list_mark (cond (p.0 == 10) no_items next_item))))))))))

pub from_parts_back : (m : Mark) → from_parts (to_parts m) ≡ m
from_parts_back unit_mark = refl
from_parts_back (boolean_mark false) = refl
from_parts_back (boolean_mark true) = refl
from_parts_back (int_mark z) = refl
from_parts_back (constant_mark k) = refl
from_parts_back (text_mark bytes) = refl
from_parts_back tuple_mark = refl
from_parts_back (bare_mark k) = refl
from_parts_back (applied_mark k) = refl
from_parts_back list_mark = refl
from_parts_back no_items = refl
from_parts_back next_item = refl

abbrev pub mark_code : Coded Mark
mark_code = code_by Parts (coded× coded_ℕ (coded× coded_ℕ (coded× (coded_list coded_ℕ) coded_ℤ))) to_parts from_parts from_parts_back

-- ---- a value as marks, and back

abbrev mutual
  -- the marks of a value, before the marks that follow
  pub marks : PlainValue → List Mark → List Mark
  marks unit rest = unit_mark ∷ rest
  marks (boolean b) rest = boolean_mark b ∷ rest
  marks (int z) rest = int_mark z ∷ rest
  marks (constant k) rest = constant_mark k ∷ rest
  marks (text bytes) rest = text_mark bytes ∷ rest
  marks (tuple vs) rest = marks_of_all vs (tuple_mark ∷ rest)
  marks (bare k) rest = bare_mark k ∷ rest
  marks (applied k v) rest = marks v (applied_mark k ∷ rest)
  marks (list vs) rest = marks_of_all vs (list_mark ∷ rest)

  -- the marks of a row of values, the last item's first
  pub marks_of_all : PlainValues → List Mark → List Mark
  marks_of_all none rest = no_items ∷ rest
  marks_of_all (more v vs) rest = marks_of_all vs (marks v (next_item ∷ rest))

-- the value that the marks leave, with the values and the rows that were read before, the latest first
abbrev pub read_marks : List Mark → List PlainValue → List PlainValues → PlainValue
read_marks [] (v ∷ vs) rows = v
read_marks (unit_mark ∷ rest) vs rows = read_marks rest (unit ∷ vs) rows
read_marks (boolean_mark b ∷ rest) vs rows = read_marks rest (boolean b ∷ vs) rows
read_marks (int_mark z ∷ rest) vs rows = read_marks rest (int z ∷ vs) rows
read_marks (constant_mark k ∷ rest) vs rows = read_marks rest (constant k ∷ vs) rows
read_marks (text_mark bytes ∷ rest) vs rows = read_marks rest (text bytes ∷ vs) rows
read_marks (tuple_mark ∷ rest) vs (row ∷ rows) = read_marks rest (tuple row ∷ vs) rows
read_marks (bare_mark k ∷ rest) vs rows = read_marks rest (bare k ∷ vs) rows
read_marks (applied_mark k ∷ rest) (v ∷ vs) rows = read_marks rest (applied k v ∷ vs) rows
read_marks (list_mark ∷ rest) vs (row ∷ rows) = read_marks rest (list row ∷ vs) rows
read_marks (no_items ∷ rest) vs rows = read_marks rest vs (none ∷ rows)
read_marks (next_item ∷ rest) (v ∷ vs) (row ∷ rows) = read_marks rest vs (more v row ∷ rows)
read_marks ms vs rows = unit

mutual
  -- the marks of a value are read as that value
  pub reads_value : (v : PlainValue) (rest : List Mark) (vs : List PlainValue) (rows : List PlainValues) → read_marks (marks v rest) vs rows ≡ read_marks rest (v ∷ vs) rows
  reads_value unit rest vs rows = refl
  reads_value (boolean b) rest vs rows = refl
  reads_value (int z) rest vs rows = refl
  reads_value (constant k) rest vs rows = refl
  reads_value (text bytes) rest vs rows = refl
  reads_value (tuple ws) rest vs rows = reads_row ws (tuple_mark ∷ rest) vs rows
  reads_value (bare k) rest vs rows = refl
  reads_value (applied k v) rest vs rows = reads_value v (applied_mark k ∷ rest) vs rows
  reads_value (list ws) rest vs rows = reads_row ws (list_mark ∷ rest) vs rows

  -- the marks of a row are read as that row
  pub reads_row : (ws : PlainValues) (rest : List Mark) (vs : List PlainValue) (rows : List PlainValues) → read_marks (marks_of_all ws rest) vs rows ≡ read_marks rest vs (ws ∷ rows)
  reads_row none rest vs rows = refl
  reads_row (more w ws) rest vs rows = reads_row ws (marks w (next_item ∷ rest)) vs rows ∙ reads_value w (next_item ∷ rest) vs (ws ∷ rows)

-- ---- the codes

abbrev pub value_code : Coded PlainValue
value_code = code_by (List Mark) (coded_list mark_code) (λ v. marks v []) (λ ms. read_marks ms [] []) (λ v. reads_value v [] [] [])

-- the tokens that an element needs, and those that it makes
abbrev pub PlainNeeds : Type 0
PlainNeeds = List Needed

abbrev pub PlainOutputs : Type 0
PlainOutputs = List Made

abbrev pub needs_code : Coded PlainNeeds
needs_code = coded_list (code_by (ℕ × (PlainValue × ℕ)) (coded× coded_ℕ (coded× value_code coded_ℕ)) (λ need. (need.place, (need.value, need.offset))) (λ p. record { place = p.0; value = p.1.0; offset = p.1.1 }) (λ _. refl))

abbrev pub outputs_code : Coded PlainOutputs
outputs_code = coded_list (code_by (ℕ × (PlainValue × ℕ)) (coded× coded_ℕ (coded× value_code coded_ℕ)) (λ made. (made.place, (made.value, made.stamp))) (λ p. record { place = p.0; value = p.1.0; stamp = p.1.1 }) (λ _. refl))
