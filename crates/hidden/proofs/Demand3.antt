-- The outline shows neither digits nor contents. Proved, for texts that differ as specs/Differences says:
-- where digits alone differ, the outline of either reading is the same, refusals included (digits-hidden);
-- where contents differ too, of a text that the first reading reads, it reads the other to the same records (contents-hidden);
-- and in either case each place is the same (places-stay). Assumes nothing.
use Prim.Native.Nat.{ℕ, zero, suc, ◌≤◌, ◌<◌}
use mathlib.Core.Bool.{Bool, true, false, cond, ◌||◌, false≢true}
use mathlib.Core.Path.{◌≡◌, refl, sym, ap, ap₂, ◌∙◌}
use mathlib.Core.List.{List, [], ◌∷◌, map}
use mathlib.Core.Option.{none}
use native.Mathlib.Omega.{arith}
use native.Mathlib.Nat.{zero-add}
use borrow.Author.Tests.{le-ltb, ltb-false}
use lib.Dec.{ltb}
use lib.ListN.{length, get_or}
use Rattle.rules.specs.declared.Reading.{Reading}
use Rattle.rules.specs.declared.Reading.TheVariants.{First}
use Rattle.text.specs.Bytes.{is_ascii}
use Rattle.text.specs.Runs.{span}
use Rattle.places.specs.Places.{place_at}
use Rattle.grammar.proofs.First.{first_tokens, tokens-first}
use Rattle.grammar.specs.Tokens.{before, tokens}
use Rattle.grammar.specs.Machine.{Rec, refused, done, config, start}
use Rattle.grammar.specs.Reading.{decided, outline}
use Rattle.text.specs.Limits.{limit}
use Rattle.hidden.specs.Differences.{inside_recs, Differ, DigitsDiffer, ContentsDiffer}
use Rattle.hidden.proofs.Places.{place_at-w}
use Rattle.hidden.proofs.ShapeTokens.{outline-σ}
use Rattle.hidden.proofs.Veil.{μ, μ-10, μ-13, tokens-veil}
use Rattle.hidden.proofs.VeilRead.{Close, same, washed, σ-μ, map-close, left, either, Rest, Allowed, rel-of, all_same}
use Rattle.hidden.proofs.Swaps.{rest_of, ascii-stays}
use Rattle.hidden.proofs.Kept.{run-kept}

pub digits-hidden : (r : Reading) (s t : List ℕ) → DigitsDiffer s t → outline r s ≡ outline r t
unfolding DigitsDiffer
digits-hidden r s t d = sym (outline-σ r s) ∙ ap (outline r) (all_same s t d.as_long (rest_of d)) ∙ outline-σ r t

-- a text that is read is within the limit and ASCII, and its tokens give its records
record Read (s : List ℕ) (rs : List Rec) : Type 0 where
  fits : ltb limit (length s) ≡ false
  ascii : length s ≤ span is_ascii s
  runs : decided First s ≡ done rs

read_of : (s : List ℕ) (rs : List Rec) → outline First s ≡ done rs → Read s rs
unfolding outline
read_of s rs e = pick (ltb limit (length s)) refl (ltb (span is_ascii s) (length s)) refl e
  where
    pick : (x : Bool) → ltb limit (length s) ≡ x → (y : Bool) → ltb (span is_ascii s) (length s) ≡ y → cond x (refused 1 0 0) (cond y (refused 2 (span is_ascii s) 0) (decided First s)) ≡ done rs → Read s rs
    pick true p y r q = let z : ◌≡◌ {A = ℕ} 0 1 = cc in absurd (omega arith)
    pick false p true r q = let z : ◌≡◌ {A = ℕ} 0 1 = cc in absurd (omega arith)
    pick false p false r q = record { fits = p; ascii = ltb-false (span is_ascii s) (length s) r; runs = q }

tokens-same : (s t : List ℕ) (rs : List Rec) → decided First s ≡ done rs → ContentsDiffer rs s t → tokens First s ≡ tokens First t
unfolding decided Rest Allowed config inside_recs ContentsDiffer
tokens-same s t rs d c =
    tokens-first s
    ∙ tokens-veil s t 0 before false 0
    (rel-of s t 0 before false 0 c.as_long
    (λ j l. map-close (λ h. left (either (λ x. absurd (false≢true x)) (λ x. rw zero-add x) (run-kept j (first_tokens s 0 before 0) (config start none [] []) rs (rw (tokens-first s) at d) h))) (rest_of c j l)))
    ∙ sym (tokens-first t)

pub contents-hidden : (s t : List ℕ) (rs : List Rec) → outline First s ≡ done rs → ContentsDiffer rs s t → outline First t ≡ done rs
unfolding outline decided ContentsDiffer
contents-hidden s t rs e c =
    let d = read_of s rs e in
    let f : ltb limit (length t) ≡ false = rw (← c.as_long) d.fits in
    let a : length t ≤ span is_ascii t = ascii-stays (λ j. inside_recs rs j ≡ true) s t c.as_long c.bytes d.ascii in
    rw (f, le-ltb (span is_ascii t) (length t) a, ← tokens-same s t rs d.runs c) d.runs

-- places: what is washed out is no byte of a line end

close-μ : {I : Type 0} {a b : ℕ} → Close I a b → μ a ≡ μ b
close-μ {I} {a} {b} (same h) = σ-μ a b h
close-μ (washed x h) = h

washed-list : (I : ℕ → Type 0) (s t : List ℕ) → length s ≡ length t → Rest s t I → map μ s ≡ map μ t
unfolding Rest
washed-list I [] [] e h = refl
washed-list I [] (b ∷ t) e h = absurd (omega arith)
washed-list I (b ∷ s) [] e h = absurd (omega arith)
washed-list I (b ∷ s) (c ∷ t) e h =
    ap₂ {C = List ℕ} (λ x r. x ∷ r) (close-μ (h 0 (omega arith))) (washed-list (λ j. I (suc j)) s t (omega arith) (λ j l. h (suc j) (omega arith)))

pub places-stay : (I : ℕ → Type 0) (s t : List ℕ) → Differ I s t → (n : ℕ) → place_at s n ≡ place_at t n
places-stay I s t d n =
    sym (place_at-w μ μ-10 μ-13 s n) ∙ ap (λ x. place_at x n) (washed-list I s t d.as_long (rest_of d)) ∙ place_at-w μ μ-10 μ-13 t n
