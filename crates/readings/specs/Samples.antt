-- Texts and what each reading answers to them (document 02, Three, and One in it), among them those for which a choice was settled: a refusal by number, offset and detail,
-- or the records by kind, offset and length. Assumes nothing.
use Rattle.std.specs.Prelude.{ℕ, zero, suc, ◌≡◌, List, [], ◌∷◌, ◌++◌, map}
use Prim.Native.String.{String}
use Rattle.rules.specs.declared.Reading.{Reading}
use Rattle.rules.specs.declared.Reading.TheVariants.{First, Strict}
use Rattle.grammar.specs.Machine.{Rec, loop_end, Answer, refused, done}
use Rattle.grammar.specs.Reading.{outline}
use Rattle.readings.specs.Readings.{bytes}

unfoldable pub row : ℕ → ℕ → ℕ → Rec
row k o n = record { kind = k; at = o; size = n }

unfoldable pub end : Rec
end = loop_end

pub record Sample : Type 0 where
  pub reading : Reading
  pub text : List ℕ
  pub expected : Answer

unfoldable pub given-bytes : Reading → List ℕ → Answer → Sample
given-bytes r s a = record { reading = r; text = s; expected = a }

unfoldable pub ask : Reading → String → Answer → Sample
ask r s a = given-bytes r (bytes s) a

-- so many times the letter a
unfoldable pub letters : ℕ → List ℕ
letters zero = []
letters (suc n) = 97 ∷ letters n

unfoldable pub samples : List Sample
samples =
    ask Strict "" (refused 3 0 0) ∷
    ask Strict "data_" (refused 17 0 0) ∷
    ask Strict "data_x" (done (row 1 0 6 ∷ [])) ∷
    ask Strict "data_x data_y" (done (row 1 0 6 ∷ row 1 7 6 ∷ [])) ∷
    ask Strict "data_x loop_" (refused 8 7 0) ∷
    ask Strict "data_x loop_ _a" (refused 6 13 1) ∷
    ask Strict "data_x loop_ _a _b 1" (refused 5 7 1) ∷
    ask Strict "data_x _a 'it's'" (done (row 1 0 6 ∷ row 4 7 2 ∷ row 21 10 6 ∷ [])) ∷
    ask Strict "data_x _a 'b'#c'" (done (row 1 0 6 ∷ row 4 7 2 ∷ row 21 10 6 ∷ [])) ∷
    ask Strict "data_x _a 'b" (refused 6 7 4) ∷
    ask Strict "data_x _a ;b" (done (row 1 0 6 ∷ row 4 7 2 ∷ row 10 10 2 ∷ [])) ∷
    ask Strict "data_x _a\n;b\n;" (done (row 1 0 6 ∷ row 4 7 2 ∷ row 13 10 4 ∷ [])) ∷
    ask Strict "data_x _a\n;b\n;c" (refused 15 14 0) ∷
    ask Strict "data_x _a\n;b\n;#c" (done (row 1 0 6 ∷ row 4 7 2 ∷ row 13 10 4 ∷ [])) ∷
    ask Strict "data_x _a\n;b" (refused 6 7 5) ∷
    ask Strict "data_x _a 1e+" (done (row 1 0 6 ∷ row 4 7 2 ∷ row 10 10 3 ∷ [])) ∷
    ask Strict "data_x _a 1()" (done (row 1 0 6 ∷ row 4 7 2 ∷ row 10 10 3 ∷ [])) ∷
    ask Strict "data_x _a 1.5(2)" (done (row 1 0 6 ∷ row 4 7 2 ∷ row 15 10 6 ∷ [])) ∷
    ask Strict "data_x _a .5." (done (row 1 0 6 ∷ row 4 7 2 ∷ row 10 10 3 ∷ [])) ∷
    ask Strict "data_x _a .5" (done (row 1 0 6 ∷ row 4 7 2 ∷ row 14 10 2 ∷ [])) ∷
    ask Strict "data_x _a ." (done (row 1 0 6 ∷ row 4 7 2 ∷ row 8 10 1 ∷ [])) ∷
    ask Strict "data_x _a ?x" (done (row 1 0 6 ∷ row 4 7 2 ∷ row 10 10 2 ∷ [])) ∷
    ask Strict "data_x _a loop_x" (done (row 1 0 6 ∷ row 4 7 2 ∷ row 10 10 6 ∷ [])) ∷
    ask Strict "data_x loop_x" (refused 7 7 0) ∷
    ask Strict "data_x _a 1 LOOP_ _b 2" (done (row 1 0 6 ∷ row 4 7 2 ∷ row 14 10 1 ∷ row 5 12 5 ∷ row 6 18 2 ∷ row 14 21 1 ∷ end ∷ [])) ∷
    ask Strict "data_x _a global_" (refused 6 7 2) ∷
    ask Strict "data_x _a 1 global_" (refused 7 12 0) ∷
    ask Strict "data_x save_f _a save_" (refused 6 14 2) ∷
    ask Strict "data_x save_f data_y" (refused 4 7 0) ∷
    ask Strict "data_x save_f save_g" (refused 4 7 0) ∷
    ask Strict "data_x save_f" (refused 4 7 0) ∷
    ask Strict "data_x save_f _a 1 save_" (done (row 1 0 6 ∷ row 2 7 6 ∷ row 4 14 2 ∷ row 14 17 1 ∷ row 3 19 5 ∷ [])) ∷
    ask Strict "data_x save_" (refused 17 7 0) ∷
    ask Strict "data_x _ 1" (refused 17 7 0) ∷
    ask Strict "data_x _a _" (refused 6 7 3) ∷
    ask Strict "data_x loop_ _a 1 $" (refused 7 18 3) ∷
    ask Strict "data_x save_f loop_ _a 1 $ save_" (refused 7 25 0) ∷
    ask Strict "data_x _a 1234567890" (refused 9 10 0) ∷
    ask Strict "data_x _a 1234567890()" (done (row 1 0 6 ∷ row 4 7 2 ∷ row 10 10 12 ∷ [])) ∷
    ask Strict "data_x loop_ _a _b\n;b\n;c" (refused 15 23 0) ∷
    ask Strict "data_x _a ''" (done (row 1 0 6 ∷ row 4 7 2 ∷ row 21 10 2 ∷ [])) ∷
    ask Strict "data_x _a '''" (done (row 1 0 6 ∷ row 4 7 2 ∷ row 21 10 3 ∷ [])) ∷
    ask Strict "data_x _a 'b'c" (refused 6 7 4) ∷
    ask Strict "data_x loop__a" (refused 7 7 0) ∷
    ask Strict "data_x stop_" (refused 7 7 0) ∷
    ask Strict "data_x loop_ _a 1 stop_" (refused 7 18 2) ∷
    ask Strict "data_x loop_ _a loop_x" (done (row 1 0 6 ∷ row 5 7 5 ∷ row 6 13 2 ∷ row 10 16 6 ∷ end ∷ [])) ∷
    ask Strict "data_x loop_ _" (refused 17 13 0) ∷
    ask Strict "data_x loop_ _a _b 1 data_" (refused 5 7 1) ∷
    ask Strict "data_x loop_ _a loop_ _b 1" (refused 6 13 2) ∷
    ask Strict "data_x save_f save_" (done (row 1 0 6 ∷ row 2 7 6 ∷ row 3 14 5 ∷ [])) ∷
    ask Strict "data_x save_f _a" (refused 6 14 1) ∷
    ask Strict "data_x ;" (refused 7 7 0) ∷
    ask Strict ";a\n;" (refused 3 0 0) ∷
    ask Strict "data_x _a 1 _a 2 data_x" (done (row 1 0 6 ∷ row 4 7 2 ∷ row 14 10 1 ∷ row 4 12 2 ∷ row 14 15 1 ∷ row 1 17 6 ∷ [])) ∷
    given-bytes Strict (100 ∷ 97 ∷ 116 ∷ 97 ∷ 95 ∷ 120 ∷ 1 ∷ []) (refused 18 6 0) ∷
    given-bytes Strict (1 ∷ []) (refused 18 0 0) ∷
    given-bytes Strict (127 ∷ 200 ∷ []) (refused 2 1 0) ∷
    given-bytes First (100 ∷ 97 ∷ 116 ∷ 97 ∷ 95 ∷ 120 ∷ 1 ∷ []) (done (row 1 0 7 ∷ [])) ∷
    -- a quote closes before space, tab and either line end, not at the other mark, and not on another line
    ask Strict "data_x _a 'b' _c 1" (done (row 1 0 6 ∷ row 4 7 2 ∷ row 21 10 3 ∷ row 4 14 2 ∷ row 14 17 1 ∷ [])) ∷
    ask Strict "data_x _a 'b'\t_c 1" (done (row 1 0 6 ∷ row 4 7 2 ∷ row 21 10 3 ∷ row 4 14 2 ∷ row 14 17 1 ∷ [])) ∷
    ask Strict "data_x _a 'b'\n_c 1" (done (row 1 0 6 ∷ row 4 7 2 ∷ row 21 10 3 ∷ row 4 14 2 ∷ row 14 17 1 ∷ [])) ∷
    ask Strict "data_x _a 'b'\r_c 1" (done (row 1 0 6 ∷ row 4 7 2 ∷ row 21 10 3 ∷ row 4 14 2 ∷ row 14 17 1 ∷ [])) ∷
    ask Strict "data_x _a \"b' \" _c 1" (done (row 1 0 6 ∷ row 4 7 2 ∷ row 21 10 5 ∷ row 4 16 2 ∷ row 14 19 1 ∷ [])) ∷
    ask Strict "data_x _a 'b\nc'" (refused 6 7 4) ∷
    -- a text field opens behind LF or CR alone; elsewhere `;` starts a bare word, also alone and in a loop
    ask Strict "data_x _a\r;b\r; _c 1" (done (row 1 0 6 ∷ row 4 7 2 ∷ row 13 10 4 ∷ row 4 15 2 ∷ row 14 18 1 ∷ [])) ∷
    ask Strict "data_x _a #c\n;b;\n;" (done (row 1 0 6 ∷ row 4 7 2 ∷ row 13 13 5 ∷ [])) ∷
    ask Strict "data_x _a\n ;b" (done (row 1 0 6 ∷ row 4 7 2 ∷ row 10 11 2 ∷ [])) ∷
    ask Strict "data_x loop_ _a\t;b ;" (done (row 1 0 6 ∷ row 5 7 5 ∷ row 6 13 2 ∷ row 10 16 2 ∷ row 10 19 1 ∷ end ∷ [])) ∷
    ask Strict "data_x\n;b\n;" (refused 7 7 0) ∷
    ask Strict "data_x loop_ _a 1\n;b" (refused 7 18 5) ∷
    -- 15 behind a text field: whatever stands there, in a frame too, and before what that would be refused for
    ask Strict "data_x _a\n;b\n;_c 1" (refused 15 14 0) ∷
    ask Strict "data_x _a\n;b\n;;" (refused 15 14 0) ∷
    ask Strict "data_x loop_ _a\n;b\n;c" (refused 15 20 0) ∷
    ask Strict "data_x save_f _a\n;b\n;save_" (refused 15 21 0) ∷
    ask Strict "data_x save_f _a\n;b\n;data_y" (refused 15 21 0) ∷
    ask Strict "data_x _a\n;b\n;_" (refused 15 14 0) ∷
    ask Strict "data_x _\n;b\n;c" (refused 17 7 0) ∷
    -- numbers are those of CIF 1.1, and the digit limits are theirs
    ask Strict "data_x _a -1.5E-3(2)" (done (row 1 0 6 ∷ row 4 7 2 ∷ row 15 10 10 ∷ [])) ∷
    ask Strict "data_x _a +.5" (done (row 1 0 6 ∷ row 4 7 2 ∷ row 14 10 3 ∷ [])) ∷
    ask Strict "data_x _a 1." (done (row 1 0 6 ∷ row 4 7 2 ∷ row 14 10 2 ∷ [])) ∷
    ask Strict "data_x _a 1e(5)" (done (row 1 0 6 ∷ row 4 7 2 ∷ row 10 10 5 ∷ [])) ∷
    ask Strict "data_x _a 1234567890e+" (done (row 1 0 6 ∷ row 4 7 2 ∷ row 10 10 12 ∷ [])) ∷
    ask Strict "data_x _a 1e1234567890" (refused 9 10 0) ∷
    -- what starts with `.` or `?` is its whole word
    ask Strict "data_x loop_ _a . ? .x .. .5(2) .5e+" (done (row 1 0 6 ∷ row 5 7 5 ∷ row 6 13 2 ∷ row 8 16 1 ∷ row 9 18 1 ∷ row 10 20 2 ∷ row 10 23 2 ∷ row 15 26 5 ∷ row 10 32 4 ∷ end ∷ [])) ∷
    -- three keywords are reserved as whole words, in any letter case; two as prefixes
    ask Strict "data_x global_x" (refused 7 7 0) ∷
    ask Strict "data_x stop_x" (refused 7 7 0) ∷
    ask Strict "data_x loop_#c" (refused 7 7 0) ∷
    ask Strict "data_x loop_ _a global_x stop_x" (done (row 1 0 6 ∷ row 5 7 5 ∷ row 6 13 2 ∷ row 10 16 8 ∷ row 10 25 6 ∷ end ∷ [])) ∷
    ask Strict "data_x _a Stop_" (refused 6 7 2) ∷
    ask Strict "data_x _a data_y" (refused 6 7 2) ∷
    ask Strict "data_x _a Save_y" (refused 6 7 2) ∷
    ask Strict "data_x _a data" (done (row 1 0 6 ∷ row 4 7 2 ∷ row 10 10 4 ∷ [])) ∷
    -- no name is empty, in a frame and behind a block either
    ask Strict "data_x data_" (refused 17 7 0) ∷
    ask Strict "data_x _" (refused 17 7 0) ∷
    ask Strict "data_x save_f _ 1 save_" (refused 17 14 0) ∷
    -- a loop without values is 6 at the last of its tags, and says why none stands there
    ask Strict "data_x loop_ _a _b" (refused 6 16 1) ∷
    ask Strict "data_x loop_ _a 'b" (refused 6 13 4) ∷
    ask Strict "data_x loop_ _a data_y" (refused 6 13 2) ∷
    ask Strict "data_x save_f loop_ _a save_" (refused 6 20 2) ∷
    -- blocks follow behind a loop and behind a frame
    ask Strict "data_x loop_ _a 1 data_y" (done (row 1 0 6 ∷ row 5 7 5 ∷ row 6 13 2 ∷ row 14 16 1 ∷ end ∷ row 1 18 6 ∷ [])) ∷
    ask Strict "data_x save_f save_ DATA_Y" (done (row 1 0 6 ∷ row 2 7 6 ∷ row 3 14 5 ∷ row 1 20 6 ∷ [])) ∷
    -- failures inside a frame count; 4 comes where an item is expected, behind a loop too
    ask Strict "data_x save_f loop_ _a _b 1 save_" (refused 5 14 1) ∷
    ask Strict "data_x save_f 1 save_" (refused 7 14 0) ∷
    ask Strict "data_x save_f _a 1 data_y" (refused 4 7 0) ∷
    ask Strict "data_x save_f loop_ _a 1 save_g" (refused 4 7 0) ∷
    ask Strict "data_x save_f loop_ _a 1" (refused 4 7 0) ∷
    given-bytes Strict (bytes "data_x save_f save_" ++ letters 76) (refused 4 7 0) ∷
    -- control bytes: 127, form feed and 31, in comments and text fields too; tab and CR may stand
    ask Strict "data_x\u{7f}" (refused 18 6 0) ∷
    ask Strict "data_x\u{c}" (refused 18 6 0) ∷
    ask Strict "data_x #\u{1f}" (refused 18 8 0) ∷
    ask Strict "data_x _a\n;\u{7}\n;" (refused 18 11 0) ∷
    ask Strict "data_x\t_a\r1~" (done (row 1 0 6 ∷ row 4 7 2 ∷ row 10 10 2 ∷ [])) ∷
    -- a line has 2,048 bytes before its end, LF or CR; 16 comes after 2, before 3, and before 18 at one byte
    given-bytes Strict (bytes "data_x #" ++ letters 2040) (done (row 1 0 6 ∷ [])) ∷
    given-bytes Strict (bytes "data_x #" ++ letters 2041) (refused 16 2048 0) ∷
    given-bytes Strict (bytes "data_x\n#" ++ letters 2048) (refused 16 2055 0) ∷
    given-bytes Strict (bytes "data_x\r\n#" ++ letters 2048) (refused 16 2056 0) ∷
    given-bytes Strict (bytes "#" ++ letters 2048) (refused 16 2048 0) ∷
    given-bytes Strict (bytes "#" ++ (letters 2047 ++ (1 ∷ []))) (refused 16 2048 0) ∷
    given-bytes Strict (bytes "#" ++ (letters 2046 ++ (1 ∷ 97 ∷ []))) (refused 18 2047 0) ∷
    given-bytes Strict (bytes "#" ++ (letters 2048 ++ (1 ∷ []))) (refused 16 2048 0) ∷
    given-bytes Strict (bytes "#" ++ (letters 2048 ++ (200 ∷ []))) (refused 2 2049 0) ∷
    -- a tag has 75 bytes, the name of a block or a frame has 75; a long tag is no value
    given-bytes Strict (bytes "data_x _" ++ (letters 74 ++ bytes " 1")) (done (row 1 0 6 ∷ row 4 7 75 ∷ row 14 83 1 ∷ [])) ∷
    given-bytes Strict (bytes "data_x _" ++ (letters 75 ++ bytes " 1")) (refused 17 7 0) ∷
    given-bytes Strict (bytes "data_x loop_ _a _" ++ letters 75) (refused 17 16 0) ∷
    given-bytes Strict (bytes "data_x _a _" ++ letters 75) (refused 6 7 3) ∷
    given-bytes Strict (bytes "data_" ++ letters 75) (done (row 1 0 80 ∷ [])) ∷
    given-bytes Strict (bytes "data_" ++ letters 76) (refused 17 0 0) ∷
    given-bytes Strict (bytes "data_x data_" ++ letters 76) (refused 17 7 0) ∷
    given-bytes Strict (bytes "data_x save_" ++ (letters 75 ++ bytes " save_")) (done (row 1 0 6 ∷ row 2 7 80 ∷ row 3 88 5 ∷ [])) ∷
    given-bytes Strict (bytes "data_x save_" ++ letters 76) (refused 17 7 0) ∷
    ask First "data_x data_y" (refused 7 7 0) ∷
    ask First "data_x _a 'b" (refused 6 7 4) ∷
    ask First "data_x loop_ _a 1 $" (refused 7 18 3) ∷
    ask First "data_x loop_ _a 1 data_y" (refused 7 18 2) ∷
    ask First "data_x loop_ _a" (done (row 1 0 6 ∷ row 5 7 5 ∷ row 6 13 2 ∷ end ∷ [])) ∷
    ask First "data_x save_f _a save_" (done (row 1 0 6 ∷ row 2 7 6 ∷ row 3 17 5 ∷ [])) ∷
    ask First "data_x loop_ _a .5." (done (row 1 0 6 ∷ row 5 7 5 ∷ row 6 13 2 ∷ row 8 16 1 ∷ row 14 17 2 ∷ end ∷ [])) ∷
    ask First "data_x _a ;b\n;c" (refused 7 14 0) ∷
    -- the first reading beside it: a quote closes at its mark, a text field opens anywhere, no space is needed, and
    -- keywords are prefixes
    ask First "data_x _a 'it's'" (refused 7 14 0) ∷
    ask First "data_x _a ;b\n;" (done (row 1 0 6 ∷ row 4 7 2 ∷ row 13 10 4 ∷ [])) ∷
    ask First "data_x _a 'b'_c 1" (done (row 1 0 6 ∷ row 4 7 2 ∷ row 11 10 3 ∷ row 4 13 2 ∷ row 14 16 1 ∷ [])) ∷
    ask First "data_x loop__a 1" (done (row 1 0 6 ∷ row 5 7 5 ∷ row 6 12 2 ∷ row 14 15 1 ∷ end ∷ [])) ∷
    -- names may be empty or long, and lines long; a frame drops an item that fails
    ask First "data_x _ 1" (done (row 1 0 6 ∷ row 4 7 1 ∷ row 14 9 1 ∷ [])) ∷
    given-bytes First (bytes "data_" ++ letters 76) (done (row 1 0 81 ∷ [])) ∷
    given-bytes First (bytes "data_x #" ++ letters 2041) (done (row 1 0 6 ∷ [])) ∷
    ask First "data_x save_f loop_ _a _b 1 save_" (done (row 1 0 6 ∷ row 2 7 6 ∷ row 3 28 5 ∷ [])) ∷
    []

unfoldable pub given : Sample → Answer
given x = outline x.reading x.text

unfoldable pub wanted : Sample → Answer
wanted x = x.expected

unfoldable pub SamplesHold : Type 0
SamplesHold = map given samples ≡ map wanted samples
