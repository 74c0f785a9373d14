-- Why the class of equal records leaves out what it does: for each exclusion of specs/Plain a smallest text that has no
-- other of them, and what each reading answers to it. At the end, a text that is in the class. Assumes nothing.
use Rattle.std.specs.Prelude.{ℕ, ◌≡◌, List, [], ◌∷◌, map}
use Prim.Native.String.{String}
use Rattle.rules.specs.declared.Reading.TheVariants.{First, Strict}
use Rattle.text.specs.Bytes.{bytes}
use Rattle.grammar.specs.Machine.{Rec, loop_end, Answer, refused, done}
use Rattle.grammar.specs.Reading.{outline}
use Rattle.alike.specs.Plain.{Plain}

-- the two answers to a text
pub record Answers : Type 0 where
  pub strict : Answer
  pub first : Answer

pub record Case : Type 0 where
  pub text : String
  pub expected : Answers

unfoldable pub differ : String → Answer → Answer → Case
differ s a b = record { text = s; expected = record { strict = a; first = b } }

unfoldable pub row : ℕ → ℕ → ℕ → Rec
row k o n = record { kind = k; at = o; size = n }

-- `data_x _a` and a value of kind k and n bytes
unfoldable pub valued : ℕ → ℕ → Answer
valued k n = done (row 1 0 6 ∷ row 4 7 2 ∷ row k 10 n ∷ [])

unfoldable pub cases : List Case
cases =
    -- quote marks
    differ "data_x _a ''" (valued 21 2) (valued 11 2)
    ∷ differ "data_x _a \"\"" (valued 21 2) (valued 12 2)
    -- a semicolon
    ∷ differ "data_x _a ;" (valued 10 1) (refused 6 7 5)
    -- an empty exponent, an empty bracket
    ∷ differ "data_x _a 1e+" (valued 10 3) (valued 14 3)
    ∷ differ "data_x _a 1()" (valued 10 3) (valued 15 3)
    -- a longer value that starts with `.` or `?`
    ∷ differ "data_x _a .a" (valued 10 2) (refused 7 11 0)
    ∷ differ "data_x _a ?a" (valued 10 2) (refused 7 11 0)
    -- a value that starts with one of three keywords
    ∷ differ "data_x _a loop_a" (valued 10 6) (refused 6 7 2)
    ∷ differ "data_x _a global_a" (valued 10 8) (refused 6 7 2)
    ∷ differ "data_x _a stop_a" (valued 10 6) (refused 6 7 2)
    -- a further block
    ∷ differ "data_x data_y" (done (row 1 0 6 ∷ row 1 7 6 ∷ [])) (refused 7 7 0)
    ∷ []

unfoldable pub answers_to : Case → Answers
answers_to c = record { strict = outline Strict (bytes c.text); first = outline First (bytes c.text) }

-- the claim: each text has these answers
unfoldable pub CasesHold : Type 0
CasesHold = map answers_to cases ≡ map (λ (c : Case). c.expected) cases

-- a plain text, with a frame and a loop, and its records
unfoldable pub example : List ℕ
example = bytes "data_t\n_a 1.50(2)\nsave_f _b . save_\nloop_ _c _d\nx ?\n"

unfoldable pub example_rows : List Rec
example_rows =
    row 1 0 6 ∷ row 4 7 2 ∷ row 15 10 7 ∷ row 2 18 6 ∷ row 4 25 2 ∷ row 8 28 1 ∷ row 3 30 5 ∷ row 5 36 5 ∷ row 6 42 2 ∷ row 6 45 2
    ∷ row 10 48 1 ∷ row 9 50 1 ∷ loop_end ∷ []

unfoldable pub ExampleIsPlain : Type 0
ExampleIsPlain = Plain example example_rows
