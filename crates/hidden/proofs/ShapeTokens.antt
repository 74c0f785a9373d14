-- Proved over both readings: a text and its shape, every digit replaced by `0`, have the same tokens (tokens-σ),
-- the same outline, refusals and their details included (outline-σ), and the same places (place_at-σ). Assumes
-- nothing.
use Prim.Native.Nat.{ℕ, zero, suc}
use mathlib.Core.Bool.{true}
use mathlib.Core.Path.{◌≡◌, refl, ap, fun_ext}
use mathlib.Core.List.{List, [], ◌∷◌, map}
use lib.ListN.{take, length-map}
use Rattle.rules.specs.declared.Reading.{Reading}
use Rattle.rules.specs.declared.Reading.TheVariants.{First, Strict}
use Rattle.text.specs.Bytes.{is_digit, is, is_ascii}
use Rattle.gaps.specs.Gaps.{gap}
use Rattle.places.specs.Places.{place_at}
use Rattle.words.specs.Words.{word}
use Rattle.numbers.specs.Parts.{parts}
use Rattle.values.specs.Values.{Lexed, number_or, word_or, alone_or, pointed, asked, enclosed, fielded, lex_value, parted}
use Rattle.grammar.specs.Tokens.{Mode, before, in_block, in_frame, save_size, lex_in, lex, step, tokens_from, tokens}
use Rattle.grammar.specs.Machine.{Answer}
use Rattle.grammar.specs.Reading.{decided, checked, outline}
use Rattle.hidden.proofs.Places.{take-map, place_at-w}
use Rattle.text.proofs.Shape.{σ, flat, blind, is-σ, eol-σ, space-σ, span-σ}
use Rattle.gaps.proofs.Shape.{gap-σ}
use Rattle.words.proofs.Shape.{word-σ, ordinary-σ}
use Rattle.keywords.proofs.Shape.{data-σ, save-σ, loop-σ, global-σ, stop-σ}
use Rattle.quotes.proofs.Shape.{quoted_by-σ, field-σ}
use Rattle.numbers.proofs.Shape.{counts-σ, within-σ, here-σ}
use Rattle.lines.proofs.Shape.{screened-σ}

-- words

pub number_or-σ : (r : Reading) (x : Lexed) (w : List ℕ) (n : ℕ) → number_or r x (parts (map σ w)) n ≡ number_or r x (parts w) n
unfolding number_or
number_or-σ r x w n = rw (counts-σ r w, within-σ w, here-σ w)

word_or-σ : (r : Reading) (x : Lexed) (s : List ℕ) → word_or r x (map σ s) ≡ word_or r x s
unfolding word_or
word_or-σ r x s = rw (word-σ s, take-map σ (word s) s, number_or-σ r x (take (word s) s) (word s))

-- the values that the readings take apart differently

alone_or-σ : (kind : ℕ) (s : List ℕ) → alone_or kind (map σ s) ≡ alone_or kind s
unfolding alone_or
alone_or-σ kind s = rw (word-σ s, word_or-σ Strict _ s)

pointed-σ : (r : Reading) (s : List ℕ) → pointed r (map σ s) ≡ pointed r s
pointed-σ First s = word_or-σ First _ s
pointed-σ Strict s = alone_or-σ 8 s

asked-σ : (r : Reading) (s : List ℕ) → asked r (map σ s) ≡ asked r s
asked-σ First s = refl
asked-σ Strict s = alone_or-σ 9 s

enclosed-σ : (r : Reading) (kind m : ℕ) → flat (is m) ≡ true → (s : List ℕ) → enclosed r kind m (map σ s) ≡ enclosed r kind m s
enclosed-σ r kind m e s = rw (quoted_by-σ r m e s)

fielded-σ : (r : Reading) (p : ℕ) (s : List ℕ) → fielded r (σ p) (map σ s) ≡ fielded r p s
unfolding σ is_digit
fielded-σ First p s = rw (field-σ s)
fielded-σ Strict p s = rw (eol-σ p, field-σ s, word-σ (59 ∷ s))

lex_value-σ : (r : Reading) (p b : ℕ) (s : List ℕ) → lex_value r (σ p) (σ b) (map σ s) ≡ lex_value r p b s
unfolding lex_value is
lex_value-σ r p b s =
    rw (word-σ (b ∷ s), word_or-σ r _ (b ∷ s), pointed-σ r (b ∷ s), asked-σ r (b ∷ s), enclosed-σ r 11 39 refl s, enclosed-σ r 12 34 refl s, fielded-σ r p s)
    (rw (is-σ 46 refl b, is-σ 63 refl b, is-σ 39 refl b, is-σ 34 refl b, is-σ 59 refl b, ordinary-σ b))

parted-σ : (r : Reading) (p : ℕ) (x : Lexed) → parted r (σ p) x ≡ parted r p x
parted-σ First p x = refl
parted-σ Strict p x = rw (space-σ p)

-- a token

save_size-σ : (m : Mode) (s : List ℕ) → save_size m (map σ s) ≡ save_size m s
unfolding save_size
save_size-σ before s = refl
save_size-σ in_block s = word-σ s
save_size-σ in_frame s = refl

underscore-σ : (b : ℕ) → is 95 (σ b) ≡ is 95 b
unfolding is
underscore-σ b = is-σ 95 refl b

lex_in-σ : (r : Reading) (p : ℕ) (m : Mode) (s : List ℕ) → lex_in r (σ p) m (map σ s) ≡ lex_in r p m s
unfolding lex_in
lex_in-σ r p m [] = refl
lex_in-σ First p m (b ∷ s) =
    rw (
      data-σ (b ∷ s),
      global-σ First (b ∷ s),
      stop-σ First (b ∷ s),
      loop-σ First (b ∷ s),
      save-σ (b ∷ s),
      underscore-σ b,
      save_size-σ m (b ∷ s),
      word-σ (b ∷ s),
      lex_value-σ First p b s,
    )
lex_in-σ Strict p m (b ∷ s) =
    rw (data-σ (b ∷ s), save-σ (b ∷ s), loop-σ Strict (b ∷ s), global-σ Strict (b ∷ s), stop-σ Strict (b ∷ s), underscore-σ b, word-σ (b ∷ s), lex_value-σ Strict p b s)
    (parted-σ Strict p _)

lex-σ : (r : Reading) (p : ℕ) (m : Mode) (s : List ℕ) → lex r (σ p) m (map σ s) ≡ lex r p m s
unfolding lex
lex-σ First p before s = rw (data-σ s, word-σ s)
lex-σ First p in_block s = lex_in-σ First p in_block s
lex-σ First p in_frame s = lex_in-σ First p in_frame s
lex-σ Strict p m s = lex_in-σ Strict p m s

tokens_from-σ : (r : Reading) (s : List ℕ) (p k : ℕ) (m : Mode) (o : ℕ) → tokens_from r (map σ s) (σ p) k m o ≡ tokens_from r s p k m o
unfolding tokens_from
tokens_from-σ r [] p k m o = rw (lex-σ r p m [])
tokens_from-σ r (b ∷ s) p zero m o =
    rw (gap-σ (b ∷ s), lex-σ r p m (b ∷ s))
    (ap (λ f. step (gap (b ∷ s)) (lex r p m (b ∷ s)) m o f) (fun_ext λ k. fun_ext λ m'. tokens_from-σ r s b k m' (suc o)))
tokens_from-σ r (b ∷ s) p (suc k) m o = tokens_from-σ r s b k m (suc o)

-- a text starts as behind an LF, and so does its shape
pub tokens-σ : (r : Reading) (s : List ℕ) → tokens r (map σ s) ≡ tokens r s
unfolding tokens σ is_digit
tokens-σ r s = tokens_from-σ r s 10 0 before 0

-- the whole text

ascii-σ : (b : ℕ) → is_ascii (σ b) ≡ is_ascii b
unfolding is_ascii
ascii-σ b = blind is_ascii refl b

checked-σ : (r : Reading) (s : List ℕ) (a : Answer) → checked r (map σ s) a ≡ checked r s a
checked-σ First s a = refl
checked-σ Strict s a = rw (screened-σ s)

pub outline-σ : (r : Reading) (s : List ℕ) → outline r (map σ s) ≡ outline r s
unfolding outline decided
outline-σ r s = rw (length-map s σ, span-σ is_ascii ascii-σ s, tokens-σ r s, checked-σ r s _)

pub place_at-σ : (s : List ℕ) (n : ℕ) → place_at (map σ s) n ≡ place_at s n
unfolding is
place_at-σ s n = place_at-w σ (is-σ 10 refl) (is-σ 13 refl) s n
