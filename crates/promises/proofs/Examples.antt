-- Worked examples of the definitions that the crates of theorems add, each proved by computing: a pair that is alike and one that is not. Assumes nothing.
use Prim.Native.Nat.{ℕ, zero, suc, ◌<◌}
use Prim.Native.String.{String}
use mathlib.Core.Bool.{true≢false, false≢true, Bool, true, false}
use mathlib.Core.Path.{◌≡◌, refl, sym, ap, ◌∙◌}
use mathlib.Core.List.{List, [], ◌∷◌, ◌++◌}
use native.Mathlib.Omega.{arith}
use lib.ListN.{length, get_or}
use Rattle.rules.specs.declared.Reading.TheVariants.{First}
use Rattle.text.specs.Bytes.{is, is_ascii, is_digit, is_eol}
use Rattle.places.specs.Reports.{success, refused_at}
use Rattle.numbers.specs.Spelling.{padded, trim, plain, sign_bytes, unc_bytes, exp_bytes, frac_bytes, render_number}
use Rattle.records.specs.Bytes.{le32, le64, signed32, flag}
use Rattle.records.specs.Records.{token_bytes, decimal_bytes, end_record, place_record, content_record, loop_record, number_record, uncertain_record}
use Rattle.records.specs.Put.{front}
use Rattle.entries.specs.Entries.{de32, de64, no_parts, token_of as token_at, parts_of, plain_fields, parts_fields, fields_of, is_kind, entry_of, entry_at}
use Rattle.grammar.specs.Machine.{Rec}
use Rattle.desk.specs.Written.{token_of, token_text, decimal_of, shaped, shape_in, record_bytes}
use Rattle.walking.specs.Writing.{tags_of, store_of}
use Rattle.reading.specs.Services.{read_store_by, read_store, read_area_by, read_area}
use Rattle.refusals.specs.Answers.{written_if}
use Rattle.entries.specs.Walk.{onward, entries_from, entries}
use Rattle.kinds.specs.Kinds.{is_value_kind}
use Rattle.nesting.specs.Nesting.{further, ends_loop, opens_loop, at_items, after_name, at_names, at_values, standing, ended, follow, nested_from, nested}
use Rattle.readable.specs.Tokens.{marked, lead, stands, is_led}
use Rattle.readable.specs.Readable.{is_name, is_kept, readable_by, readable}
use Rattle.contents.specs.Contents.{exponent_kept, parts_kept, content_length, content_bytes, lies, is_inside, is_readable}
use Rattle.values.specs.Alone.{is_kind as is_kind_alone, is_alone}
use Rattle.stores.specs.Soundness.{takes, filled_from, filled, each_readable, each_inside, follows, laid_out}
use Rattle.stores.specs.Soundness.{sound}
use Rattle.rendering.specs.Rendering.{lines_of, rendering, limit as render_limit, render_room, render_answer, render_out}
use Rattle.outlining.specs.Outlining.{outline_by, outline_answer}
use Rattle.record_lines.specs.Lines.{decimal_of as rendered_decimal, token_text as rendered_text, is_end, line_of}
use Rattle.hidden.specs.Differences.{is_mark, is_quoted, inside_rec, inside_recs, Swap, same, digits, inside, Differ, DigitsDiffer, ContentsDiffer}
use Rattle.readings.specs.Readings.{bytes}
use Rattle.written.specs.Results.{store_bytes, area_bytes}
use Rattle.round_trip.specs.Claims.{rendered_bytes}
use Rattle.cif_numbers.specs.Claims.{token_in}
use Rattle.written.specs.Sayings.{Bytes, Saying, says, nothing, content_in, saying, sayings, SaySame}
use Rattle.readings.proofs.Readings.{opened}

-- What Read writes of a text, into a store of 80 and an area of 4 bytes that held nothing but 7

sevens : ℕ → List ℕ
sevens zero = []
sevens (suc n) = 7 ∷ sevens n

store : String → List ℕ
store t = store_bytes First (bytes t) (sevens 80) (sevens 4)

area : String → List ℕ
area t = area_bytes First (bytes t) (sevens 80) (sevens 4)

-- all that the examples compute with
unfoldable all : ℕ
unfolding opened bytes le32 le64 signed32 flag token_bytes decimal_bytes end_record place_record content_record loop_record number_record uncertain_record front de32 de64 token_at parts_of plain_fields parts_fields fields_of is_kind entry_of entry_at token_of token_text decimal_of shaped shape_in record_bytes tags_of store_of written_if read_store_by read_store read_area_by read_area onward entries_from entries content_length content_bytes store_bytes area_bytes content_in saying sayings SaySame sevens store area padded trim plain sign_bytes unc_bytes exp_bytes frac_bytes render_number is_value_kind opens_loop at_items after_name at_names at_values standing ended follow nested_from nested is_alone is_name is_kind_alone readable_by readable exponent_kept parts_kept lies is_inside is_readable each_readable each_inside follows takes laid_out filled_from filled sound rendered_decimal rendered_text is_end line_of lines_of rendering render_limit render_room render_answer render_out rendered_bytes
all = 0

-- Of the lent buffers the bytes counted, and no more

store-example : store "data_" ≡ 1 ∷ 0 ∷ 0 ∷ 0 ∷ 0 ∷ 5 ∷ 0 ∷ 0 ∷ 0 ∷ 1 ∷ 0 ∷ 0 ∷ 0 ∷ 1 ∷ 0 ∷ 0 ∷ 0 ∷ 0 ∷ 0 ∷ 0 ∷ 0 ∷ []
unfolding all
store-example = refl

area-example : area "data_x _a 1" ≡ bytes "xa"
unfolding all
area-example = refl

rendered-example : rendered_bytes First (store "data_x _a 01.50") (area "data_x _a 01.50") (sevens 40) ≡ bytes "data_x\n_a\n1.50\n"
unfolding all
rendered-example = refl

token-example : token_in (bytes "data_x _a 1.50") (record { token = record { offset = 10; length = 4; line = 1; column = 11 }; number = 0; parts = no_parts }) ≡ bytes "1.50"
unfolding all token_in
token-example = refl

-- What is said: other places and leading zeros make no difference, another content does, and so does a digit of the fraction

same-example : SaySame (store "data_x _a 1.50") (area "data_x _a 1.50") (store "data_x\n _a\n001.50") (area "data_x\n _a\n001.50")
unfolding all
same-example = refl

letter : List Saying → ℕ
letter [] = 0
letter (nothing ∷ l) = 0
letter (says k c p ∷ l) = get_or c 0 0

content-example : SaySame (store "data_x") (area "data_x") (store "data_y") (area "data_y") → ⊥
unfolding all letter
content-example e = let z : ◌≡◌ {A = ℕ} 120 121 = ap letter e in omega arith

places : List Saying → ℕ
places [] = 0
places (nothing ∷ l) = 0
places (says k c p ∷ []) = p.places
places (says k c p ∷ x ∷ l) = places (x ∷ l)

parts-example : SaySame (store "data_x _a 1.5") (area "data_x _a 1.5") (store "data_x _a 1.50") (area "data_x _a 1.50") → ⊥
unfolding all places
parts-example e = let z : ◌≡◌ {A = ℕ} 1 2 = ap places e in omega arith

byte-example : Bytes (255 ∷ [])
unfolding Bytes
byte-example zero = omega arith
byte-example (suc i) = omega arith

no-byte-example : Bytes (256 ∷ []) → ⊥
unfolding Bytes
no-byte-example h = let z : 256 < 256 = h 0 in omega arith

-- Digits for digits; a letter for a digit

digits-example : DigitsDiffer (bytes "a1") (bytes "a9")
unfolding bytes DigitsDiffer is_digit
digits-example = record { as_long = refl; bytes = at }
  where
    at : (j : ℕ) → j < 2 → Swap ⊥ (get_or (bytes "a1") j 0) (get_or (bytes "a9") j 0)
    at zero l = same
    at (suc zero) l = digits refl refl
    at (suc (suc j)) l = absurd (omega arith)

stays-digit : {a b : ℕ} → Swap ⊥ a b → is_digit a ≡ true → is_digit b ≡ true
stays-digit same h = h
stays-digit (digits p q) h = q
stays-digit (inside x p q r) h = absurd x

letter-example : DigitsDiffer (bytes "a1") (bytes "ab") → ⊥
unfolding bytes DigitsDiffer is_digit
letter-example d = false≢true (stays-digit (d.bytes 1 (omega arith)) refl)

-- Digits change in a loop's value and in the open quote behind it: the refusal stays, whole, with why the loop's list ended

refused-example : outline_answer First (bytes "data_x loop_ _a 1 '2") 0 ≡ refused_at 7 (record { offset = 18; line = 1; column = 19 }) 4
unfolding all outline_by outline_answer
refused-example = refl

detail-example : outline_answer First (bytes "data_x loop_ _a 9 '0") 0 ≡ refused_at 7 (record { offset = 18; line = 1; column = 19 }) 4
unfolding all outline_by outline_answer
detail-example = refl

-- Inside a recorded quote a letter for a letter; a semicolon for one

quote : List Rec
quote = record { kind = 11; at = 0; size = 3 } ∷ []

inside-example : ContentsDiffer quote (bytes "'b'") (bytes "'c'")
unfolding bytes ContentsDiffer is_digit is_mark is_eol is_ascii is inside_recs inside_rec is_quoted quote
inside-example = record { as_long = refl; bytes = at }
  where
    at : (j : ℕ) → j < 3 → Swap (inside_recs quote j ≡ true) (get_or (bytes "'b'") j 0) (get_or (bytes "'c'") j 0)
    at zero l = same
    at (suc zero) l = inside refl refl refl refl
    at (suc (suc zero)) l = same
    at (suc (suc (suc j))) l = absurd (omega arith)

stays_plain : {I : Type 0} {a b : ℕ} → Swap I a b → is_mark a ≡ false → is_digit a ≡ false → is_mark b ≡ false
stays_plain same h g = h
stays_plain (digits p q) h g = absurd (true≢false (sym p ∙ g))
stays_plain (inside x p q r) h g = q

semicolon-example : ContentsDiffer quote (bytes "'b'") (bytes "';'") → ⊥
unfolding bytes ContentsDiffer is_digit is_mark is_eol is
semicolon-example d = true≢false (stays_plain (d.bytes 1 (omega arith)) refl refl)
