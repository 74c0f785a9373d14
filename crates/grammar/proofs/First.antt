-- The tokens of the first reading, which does not ask for the byte before a token: the same list without it. Assumes nothing.
use Prim.Native.Nat.{ℕ, zero, suc}
use mathlib.Core.Path.{◌≡◌, refl, sym, ap, ◌∙◌, fun_ext}
use mathlib.Core.List.{List, [], ◌∷◌}
use Rattle.rules.specs.declared.Reading.TheVariants.{First}
use Rattle.gaps.specs.Gaps.{gap}
use Rattle.grammar.specs.Tokens.{Mode, before, lex, Tok, tok, step, tokens_from, tokens}
use Rattle.grammar.proofs.Lexes.{lex-anywhere}

-- as tokens_from, where an LF stands before every token
unfoldable pub first_tokens : List ℕ → ℕ → Mode → ℕ → List Tok
first_tokens [] k m o = tok (lex First 10 m []) o ∷ []
first_tokens (b ∷ s) zero m o = step (gap (b ∷ s)) (lex First 10 m (b ∷ s)) m o (λ k m'. first_tokens s k m' (suc o))
first_tokens (b ∷ s) (suc k) m o = first_tokens s k m (suc o)

pub first-from : (s : List ℕ) (p k : ℕ) (m : Mode) (o : ℕ) → tokens_from First s p k m o ≡ first_tokens s k m o
unfolding tokens_from first_tokens
first-from [] p k m o = rw (lex-anywhere p 10 m [])
first-from (b ∷ s) p zero m o =
    rw (lex-anywhere p 10 m (b ∷ s)) (ap (λ r. step (gap (b ∷ s)) (lex First 10 m (b ∷ s)) m o r) (fun_ext λ k. fun_ext λ m'. first-from s b k m' (suc o)))
first-from (b ∷ s) p (suc k) m o = first-from s b k m (suc o)

pub tokens-first : (s : List ℕ) → tokens First s ≡ first_tokens s 0 before 0
unfolding tokens
tokens-first s = first-from s 10 0 before 0
