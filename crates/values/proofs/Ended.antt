-- A value of the first reading is read alike whether the text ends behind it or an LF and more text follow, unless it is a text field that is left open. Assumes nothing.
use Prim.Native.Nat.{ℕ, suc}
use mathlib.Core.Bool.{Bool, true, false, cond}
use mathlib.Core.Path.{◌≡◌, refl, sym, ap, ◌∙◌}
use mathlib.Core.List.{List, ◌∷◌, ◌++◌}
use mathlib.Core.Option.{Option, none, some}
use native.Mathlib.Omega.{arith}
use borrow.Author.Tests.{eqb-true}
use Rattle.rules.specs.declared.Reading.{Reading}
use Rattle.rules.specs.declared.Reading.TheVariants.{First}
use Rattle.text.specs.Bytes.{is}
use Rattle.words.proofs.Ended.{word-ended, word-taken}
use Rattle.quotes.specs.Quotes.{field}
use Rattle.quotes.proofs.Ended.{quoted-ended, field-closed}
use Rattle.values.specs.Values.{open_field, Lexed, lexed, word_or, closed, lex_value}

word_or-ended : (r : Reading) (x : Lexed) (w t : List ℕ) → word_or r x (w ++ 10 ∷ t) ≡ word_or r x w
unfolding word_or
word_or-ended r x w t = rw (word-ended w t, word-taken w (10 ∷ t))

-- a `;` that opens a text field has its close in s
unfoldable pub Shut : ℕ → List ℕ → Type 0
Shut b s = is 59 b ≡ true → (n : ℕ) × (field s ≡ some n)

-- a field whose token has bytes is closed
pub value-shut : (p b : ℕ) (s : List ℕ) (n : ℕ) → (is 59 b ≡ true → (lex_value First p b s).size ≡ suc n) → Shut b s
unfolding Shut is lex_value closed lexed
value-shut p b s n h e = go (field s) refl (rw (eqb-true b 59 e) at (h e))
  where
    go : (r : Option ℕ) → field s ≡ r → (lex_value First p 59 s).size ≡ suc n → (n : ℕ) × (field s ≡ some n)
    go none q k = let z : ◌≡◌ {A = ℕ} 0 (suc n) = rw q at k in absurd (omega arith)
    go (some n) q k = (n, q)

multi-ended : (b : ℕ) (s t : List ℕ) (x : Lexed) → Shut b s → cond (is 59 b) (closed 13 open_field (field (s ++ t))) x ≡ cond (is 59 b) (closed 13 open_field (field s)) x
unfolding Shut
multi-ended b s t x h = go (is 59 b) refl
  where
    go : (c : Bool) → is 59 b ≡ c → cond c (closed 13 open_field (field (s ++ t))) x ≡ cond c (closed 13 open_field (field s)) x
    go true e = let r = h e in ap (closed 13 open_field) (field-closed s t r.0 r.1 ∙ sym r.1)
    go false e = refl

-- an LF and what follows it leave a value as it is, if its text field is closed
pub value-ended : (p b : ℕ) (s t : List ℕ) → Shut b s → lex_value First p b (s ++ 10 ∷ t) ≡ lex_value First p b s
unfolding lex_value is
value-ended p b s t h =
    rw (word-ended (b ∷ s) t, word_or-ended First _ (b ∷ s) t, word_or-ended First _ (b ∷ s) t, quoted-ended 39 refl s t, quoted-ended 34 refl s t)
    (rw (multi-ended b s (10 ∷ t) _ h))
