-- How the tokens of a text go on from an offset: what a reader that walks the text by offsets needs to know of `tokens_from`.
-- Proved: bytes already read are passed over; so are space and comments; then a token with bytes is met and reading goes on behind it, and one without bytes
-- is the last. Assumes nothing.
use Prim.Native.Nat.{ℕ, zero, suc, ◌+◌, ◌≤◌}
use mathlib.Core.Path.{◌≡◌, refl, sym, ap, ◌∙◌}
use mathlib.Core.List.{List, [], ◌∷◌}
use native.Mathlib.Omega.{arith}
use lib.ListN.{length, drop}
use Rattle.rules.specs.declared.Reading.{Reading}
use Rattle.columns.specs.Before.{passed}
use Rattle.columns.proofs.Before.{passed_none, passed-next}
use Rattle.gaps.specs.Gaps.{gap}
use Rattle.gaps.proofs.Gaps.{gap-fits}
use Rattle.values.specs.Values.{Lexed}
use Rattle.grammar.specs.Tokens.{Mode, lex, after, Tok, tok, emit, step, tokens_from}

-- bytes that belong to what was read are passed over
pub cover-drop : (r : Reading) (s : List ℕ) (p k : ℕ) (m : Mode) (o : ℕ) → k ≤ length s → tokens_from r s p k m o ≡ tokens_from r (drop k s) (passed p s k) 0 m (o + k)
unfolding tokens_from
cover-drop r s p zero m o h = let e : o + 0 ≡ o = omega arith in rw (e, passed_none p s)
cover-drop r [] p (suc k) m o h = absurd (omega arith)
cover-drop r (b ∷ s) p (suc k) m o h = let e : o + suc k ≡ suc o + k = omega arith in rw (e, passed-next p b s k) (cover-drop r s b k m (suc o) (omega arith))

-- to pass over the space and comments that stand here and to read here are one
pub gap-skip : (r : Reading) (s : List ℕ) (p : ℕ) (m : Mode) (o : ℕ) → tokens_from r s p (gap s) m o ≡ tokens_from r s p 0 m o
unfolding tokens_from step
gap-skip r [] p m o = refl
gap-skip r (b ∷ s) p m o = go (gap (b ∷ s)) refl
  where
    go : (g : ℕ) → gap (b ∷ s) ≡ g → tokens_from r (b ∷ s) p (gap (b ∷ s)) m o ≡ tokens_from r (b ∷ s) p 0 m o
    go zero e = ap (λ k. tokens_from r (b ∷ s) p k m o) e
    go (suc g) e = rw e

-- space and comments are passed over
pub skip_step : (r : Reading) (s : List ℕ) (p : ℕ) (m : Mode) (o : ℕ) → tokens_from r s p 0 m o ≡ tokens_from r (drop (gap s) s) (passed p s (gap s)) 0 m (o + gap s)
skip_step r s p m o = sym (gap-skip r s p m o) ∙ cover-drop r s p (gap s) m o (gap-fits s)

-- a token with bytes is met, and reading goes on behind it
pub token-step : (r : Reading) (s : List ℕ) (p : ℕ) (m : Mode) (o n : ℕ) (x : Lexed) → gap s ≡ 0 → lex r p m s ≡ x → x.size ≡ suc n → suc n ≤ length s → tokens_from r s p 0 m o ≡ tok x o ∷ tokens_from r (drop (suc n) s) (passed p s (suc n)) 0 (after x.class m) (o + suc n)
unfolding tokens_from step emit
token-step r [] p m o n x g l z h = absurd (omega arith)
token-step r (b ∷ s) p m o n x g l z h =
    let e : o + suc n ≡ suc o + n = omega arith in
    rw (g, l, z, e, passed-next p b s n) (ap {B = List Tok} (λ q. tok (record { class = x.class; size = suc n }) o ∷ q) (cover-drop r s b n (after x.class m) (suc o) (omega arith)))

-- a token without bytes is the last
pub last_step : (r : Reading) (s : List ℕ) (p : ℕ) (m : Mode) (o : ℕ) (x : Lexed) → gap s ≡ 0 → lex r p m s ≡ x → x.size ≡ 0 → tokens_from r s p 0 m o ≡ tok x o ∷ []
unfolding tokens_from step emit
last_step r [] p m o x g l z = rw l
last_step r (b ∷ s) p m o x g l z = rw (g, l, z)

-- where no space stands, the token that stands there is the first
pub first_step : (r : Reading) (s : List ℕ) (p : ℕ) (m : Mode) (o : ℕ) → gap s ≡ 0 → (ts : List Tok) × (tokens_from r s p 0 m o ≡ tok (lex r p m s) o ∷ ts)
unfolding tokens_from step
first_step r [] p m o g = ([], refl)
first_step r (b ∷ s) p m o g = rw g (go (lex r p m (b ∷ s)).size (tok (lex r p m (b ∷ s)) o) _)
  where
    go : (n : ℕ) (t : Tok) (f : ℕ → List Tok) → (ts : List Tok) × (emit n t f ≡ t ∷ ts)
    go zero t f = ([], unfold emit in refl)
    go (suc n) t f = (f n, unfold emit in refl)
