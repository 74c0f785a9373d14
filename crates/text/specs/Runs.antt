-- The run of bytes of one class at the start of a text. Assumes nothing.
use Rattle.std.specs.Prelude.{ℕ, suc, ◌+◌, ◌≡◌, Bool, true, cond, List, [], ◌∷◌, leb, drop}

-- how many of the first bytes pass the test, up to the first that fails
unfoldable pub span : (ℕ → Bool) → List ℕ → ℕ
span p [] = 0
span p (b ∷ s) = let more = suc (span p s) in cond (p b) more 0

-- where the run that starts at offset o ends
unfoldable pub span_end : (ℕ → Bool) → List ℕ → ℕ → ℕ
span_end p s o = o + span p (drop o s)

-- do n bytes of the class stand at offset o
unfoldable pub runs : (ℕ → Bool) → ℕ → List ℕ → ℕ → Bool
runs p n s o = leb n (span p (drop o s))

-- what a call answers of a byte is what the test p says
unfoldable pub Tells : (ℕ → Bool → Type 0) → (ℕ → Bool) → Type 0
Tells answers p = (b : ℕ) (r : Bool) → answers b r → r ≡ p b

-- what passes the narrower test passes the other
unfoldable pub Within : (ℕ → Bool) → (ℕ → Bool) → Type 0
Within narrow p = (b : ℕ) → narrow b ≡ true → p b ≡ true
