-- What a swap of bytes keeps. Proved: two bytes that may stand for each other are alike to the reader (close_of), and a text stays ASCII (ascii-stays).
-- Assumes nothing.
use Prim.Native.Nat.{ℕ, zero, suc, ◌≤◌, ◌<◌}
use mathlib.Core.Bool.{Bool, true, false, cond, false≢true}
use mathlib.Core.Path.{◌≡◌, refl, sym, ap, ◌∙◌}
use mathlib.Core.List.{List, [], ◌∷◌}
use native.Mathlib.Omega.{arith}
use lib.ListN.{length, get_or}
use Rattle.text.specs.Bytes.{is_ascii, is_digit}
use Rattle.text.specs.Runs.{span}
use Rattle.text.proofs.Ranges.{digit-is}
use Rattle.hidden.specs.Differences.{is_mark, Swap, same, digits, inside, Differ}
use Rattle.text.proofs.Shape.{σ}
use Rattle.hidden.proofs.Veil.{μ}
use Rattle.hidden.proofs.VeilRead.{Close, same as alike, washed, Rest}

close_of : {I : Type 0} {a b : ℕ} → Swap I a b → Close I a b
unfolding σ μ
close_of same = alike refl
close_of (digits p q) = alike (rw (p, q))
close_of (inside i p q r) = washed i (rw (p, q))

pub rest_of : {I : ℕ → Type 0} {s t : List ℕ} → Differ I s t → Rest s t I
unfolding Rest
rest_of d j l = close_of (d.bytes j l)

swap-ascii : {I : Type 0} {a b : ℕ} → Swap I a b → is_ascii a ≡ true → is_ascii b ≡ true
unfolding is_ascii
swap-ascii same e = e
swap-ascii {b = b} (digits p q) e = digit-is is_ascii refl b q
swap-ascii (inside i p q r) e = r

pub ascii-stays : (I : ℕ → Type 0) (s t : List ℕ) → length s ≡ length t → ((j : ℕ) → j < length s → Swap (I j) (get_or s j 0) (get_or t j 0)) → length s ≤ span is_ascii s → length t ≤ span is_ascii t
unfolding span
ascii-stays I [] [] e f h = omega arith
ascii-stays I [] (c ∷ t) e f h = absurd (omega arith)
ascii-stays I (b ∷ s) [] e f h = absurd (omega arith)
ascii-stays I (b ∷ s) (c ∷ t) e f h =
    by (is_ascii b) refl h (ascii-stays (λ j. I (suc j)) s t (omega arith) (λ j l. f (suc j) (omega arith)))
  where
    by : (x : Bool) → is_ascii b ≡ x → suc (length s) ≤ cond x (suc (span is_ascii s)) 0 → (length s ≤ span is_ascii s → length t ≤ span is_ascii t)
        → suc (length t) ≤ cond (is_ascii c) (suc (span is_ascii t)) 0
    by true p k g =
        let q : is_ascii c ≡ true = swap-ascii (f 0 (omega arith)) p in
        let r : length t ≤ span is_ascii t = g (omega arith) in
        rw q (omega arith)
    by false p k g = absurd (omega arith)
