-- Proved: reading a token, an LF and more text gives that token and goes on behind the LF (advance). Assumes nothing.
use Prim.Native.Nat.{ℕ, zero, suc, ◌+◌, ◌<◌}
use mathlib.Core.Bool.{Bool, true, false, ◌||◌}
use mathlib.Core.Path.{◌≡◌, refl, sym, ap, ◌∙◌}
use mathlib.Core.List.{List, [], ◌∷◌, ◌++◌}
use mathlib.Core.Option.{Option, none, some}
use native.Mathlib.Omega.{arith}
use borrow.Author.Tests.{eqb-true}
use lib.Dec.{eqb}
use lib.ListN.{length}
use Rattle.rules.specs.declared.Reading.TheVariants.{First}
use Rattle.text.specs.Bytes.{is, is_space}
use Rattle.text.proofs.Bools.{or_cases}
use Rattle.gaps.specs.Gaps.{gap}
use Rattle.gaps.proofs.Starts.{gap-space-first, gap-no-first}
use Rattle.folding.specs.Folding.{lower}
use Rattle.keywords.proofs.Starts.{no-keyword}
use Rattle.values.specs.Values.{nothing, no_start, Lexed, lexed, lex_value}
use Rattle.values.proofs.Tokens.{value-no-start}
use Rattle.values.proofs.Ended.{Shut, value-shut}
use Rattle.grammar.specs.Tokens.{Mode, lex_in, lex, after, Tok, tok, emit, step}
use Rattle.grammar.proofs.Steps.{gap-skip}
use Rattle.grammar.proofs.First.{first_tokens, first-from}
use Rattle.grammar.proofs.Ended.{lex_in-ended}
use Rattle.grammar.proofs.Lexes.{lex-no-key}

-- bytes that belong to what was read before are passed over
cover : (w t : List ℕ) (m : Mode) (o : ℕ) → first_tokens (w ++ t) (length w) m o ≡ first_tokens t 0 m (o + length w)
unfolding first_tokens
cover [] t m o = let e : o + 0 ≡ o = omega arith in rw e
cover (b ∷ w) t m o =
    let e : o + suc (length w) ≡ suc o + length w = omega arith in
    rw e (cover w t m (suc o))

lf-skip : (t : List ℕ) (m : Mode) (o : ℕ) → first_tokens (10 ∷ t) 0 m o ≡ first_tokens t 0 m (suc o)
unfolding first_tokens step is_space
lf-skip t m o = rw (gap-space-first 10 t refl) (sym (first-from t 10 (gap t) m (suc o)) ∙ gap-skip First t 10 m (suc o) ∙ first-from t 10 0 m (suc o))

-- where space or a comment starts, no token does
gap-no-token : (m : Mode) (b : ℕ) (s : List ℕ) → (is_space b || is 35 b) ≡ true → lex_in First 10 m (b ∷ s) ≡ lexed (nothing no_start) 0
unfolding is_space is lower
gap-no-token m b s h = by h ∙ value-no-start First 10 b s h
  where
    at : (c : ℕ) → lex_in First 10 m (c ∷ s) ≡ lex_value First 10 c s → eqb b c ≡ true → lex_in First 10 m (b ∷ s) ≡ lex_value First 10 b s
    at c h e = rw (eqb-true b c e) h

    bare : (c : ℕ) → is 100 (lower c) ≡ false → is 103 (lower c) ≡ false → is 108 (lower c) ≡ false → is 115 (lower c) ≡ false → is 95 c ≡ false → lex_in First 10 m (c ∷ s) ≡ lex_value First 10 c s
    bare c d g l p u = lex-no-key 10 m c s (no-keyword c s d g l p) u

    by : (is_space b || is 35 b) ≡ true → lex_in First 10 m (b ∷ s) ≡ lex_value First 10 b s
    by =
        or_cases _ _
        (or_cases _ _
        (or_cases _ _
        (or_cases _ _ (at 32 (bare 32 refl refl refl refl refl)) (at 9 (bare 9 refl refl refl refl refl)))
        (at 10 (bare 10 refl refl refl refl refl))) (at 13 (bare 13 refl refl refl refl refl)))
        (at 35 (bare 35 refl refl refl refl refl))

-- the token w, alone, is read whole as x
pub record Whole (m : Mode) (w : List ℕ) (x : Lexed) : Type 0 where
  pub reads : lex_in First 10 m w ≡ x
  pub fills : x.size ≡ length w
  pub some_bytes : 0 < length w

gap-go : (m : Mode) (b : ℕ) (s : List ℕ) (n : ℕ) (c : Bool) → (is_space b || is 35 b) ≡ c → (lex_in First 10 m (b ∷ s)).size ≡ suc n → c ≡ false
unfolding lexed
gap-go m b s n true e h = let z : ◌≡◌ {A = ℕ} 0 (suc n) = sym (ap (λ x. x.size) (gap-no-token m b s e)) ∙ h in absurd (omega arith)
gap-go m b s n false e h = refl

gap-none : (m : Mode) (b : ℕ) (s t : List ℕ) (n : ℕ) → (lex_in First 10 m (b ∷ s)).size ≡ suc n → gap (b ∷ t) ≡ 0
gap-none m b s t n h = gap-no-first b t (gap-go m b s n (is_space b || is 35 b) refl h)

-- where `;` stands a value is read
semicolon-value : (m : Mode) (b : ℕ) (s : List ℕ) → is 59 b ≡ true → lex_in First 10 m (b ∷ s) ≡ lex_value First 10 b s
unfolding is lower
semicolon-value m b s e = rw (eqb-true b 59 e) (lex-no-key 10 m 59 s (no-keyword 59 s refl refl refl refl) refl)

-- a token that is whole has its field closed
shut : (m : Mode) (b : ℕ) (s : List ℕ) (n : ℕ) → (lex_in First 10 m (b ∷ s)).size ≡ suc n → Shut b s
shut m b s n h = value-shut 10 b s n (λ e. ap (λ x. x.size) (sym (semicolon-value m b s e)) ∙ h)

behind : {a : Tok} {r r' : List Tok} → r ≡ r' → a ∷ r ≡ a ∷ r'
behind {a} e = ap {B = List Tok} (λ r. a ∷ r) e

-- THE STEP of the round trip: a token of whole length, an LF, and more
pub advance₀ : (m : Mode) (b : ℕ) (s t : List ℕ) (x : Lexed) (o : ℕ) → gap (b ∷ s ++ 10 ∷ t) ≡ 0 → lex First 10 m (b ∷ s ++ 10 ∷ t) ≡ x → x.size ≡ length (b ∷ s)
    → first_tokens (b ∷ s ++ 10 ∷ t) 0 m o ≡ tok x o ∷ first_tokens t 0 (after x.class m) (suc (o + length (b ∷ s)))
unfolding first_tokens step emit
advance₀ m b s t x o g l f =
    rw (g, l, f)
    (let m' = after x.class m in
    let e : suc (o + suc (length s)) ≡ suc (suc o + length s) = omega arith in
    rw e (behind (cover s (10 ∷ t) m' (suc o) ∙ lf-skip t m' (suc o + length s))))

pub advance : (m : Mode) (w t : List ℕ) (x : Lexed) (o : ℕ) → Whole m w x → lex First 10 m (w ++ 10 ∷ t) ≡ lex_in First 10 m (w ++ 10 ∷ t)
    → first_tokens (w ++ 10 ∷ t) 0 m o ≡ tok x o ∷ first_tokens t 0 (after x.class m) (suc (o + length w))
advance m [] t x o h l = absurd (omega arith)
advance m (b ∷ s) t x o h l =
    let size : (lex_in First 10 m (b ∷ s)).size ≡ suc (length s) = ap (λ y. y.size) h.reads ∙ h.fills in
    advance₀ m b s t x o (gap-none m b s (s ++ 10 ∷ t) (length s) size) (l ∙ lex_in-ended 10 m b s t (shut m b s (length s) size) ∙ h.reads) h.fills
