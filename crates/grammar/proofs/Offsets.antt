-- The tokens of a text by offset: space is passed over, a token is met where its test holds, and reading goes on behind it; the last has no bytes.
-- In the block and in a frame the tokens are the same up to a `save_` (Both). Assumes nothing.
use Prim.Native.Nat.{ℕ, zero, suc, ◌+◌, ◌-◌, ◌≤◌, ◌<◌}
use mathlib.Core.Path.{◌≡◌, refl, sym, ap, ◌∙◌}
use mathlib.Core.Bool.{Bool, true, false, true≢false, false≢true}
use mathlib.Core.List.{List, [], ◌∷◌}
use mathlib.Core.Logic.{◌⊎◌, inl, inr}
use native.Mathlib.Decide.{dec_lt}
use native.Mathlib.Omega.{arith}
use lib.ListN.{length, drop, length-drop}
use lib.Seq.{drop-drop}
use Rattle.rules.specs.declared.Reading.{Reading}
use Rattle.rules.specs.declared.Reading.TheVariants.{First, Strict}
use Rattle.text.proofs.Bools.{and_r}
use Rattle.columns.specs.Before.{byte_before, is_parted}
use Rattle.columns.proofs.Before.{before-start, before_on}
use Rattle.gaps.specs.Gaps.{gap, gap_end}
use Rattle.gaps.proofs.Gaps.{gap_from, gap_within, gap-past, gap-fits, gap-none}
use Rattle.gaps.proofs.Starts.{gap-end}
use Rattle.words.specs.Words.{word}
use Rattle.keywords.specs.Keywords.{starts, key_save, key_data}
use Rattle.keywords.proofs.Starts.{no-keyword-end, data-in-word, save-in-word}
use Rattle.values.specs.Values.{Reason, block, loop, save, tag, nothing, at_end, no_start, Lexed, lexed}
use Rattle.grammar.specs.Tokens.{Mode, before, in_block, in_frame, save_size, lex_in, lex, after, Tok, tok, emit, step, tokens_from, tokens, tokens_at, heading_at, tag_first, tag_at, loop_at, save_at, data_at, save_length}
use Rattle.grammar.proofs.Steps.{skip_step, token-step, last_step, first_step}
use Rattle.grammar.proofs.Fits.{lex-fits, lex-sized, tag_word}
use Rattle.grammar.proofs.Lexes.{pick, lex-loop, lex-save, lex-data, lex-tag, lex-same, lex-stays}
use Rattle.grammar.proofs.Descent.{Ends, last, more}

-- the tokens behind space and comments are those before them
pub tokens-gap : (r : Reading) (m : Mode) (s : List ℕ) (o : ℕ) → tokens_at r m s (gap_end s o) ≡ tokens_at r m s o
tokens-gap r m s o = by (dec_lt o (length s))
  where
    by : Dec (o < length s) → tokens_at r m s (gap_end s o) ≡ tokens_at r m s o
    by (yes l) =
        unfold tokens_at in
        sym (skip_step r (drop o s) (byte_before s o) m o ∙ rw (gap-end s o, before_on s o (gap (drop o s)) (omega arith) (gap-fits (drop o s)), drop-drop (gap (drop o s)) o s))
    by (no l) = ap (tokens_at r m s) (gap-past s o (omega arith))

-- those of a text are those from its start on
pub tokens-start : (r : Reading) (s : List ℕ) → tokens r s ≡ tokens_at r before s 0
unfolding tokens tokens_at
tokens-start r s = rw (before-start s 0 (omega arith))

-- a token that is met at o: its bytes lie in the text, and the tokens go on behind it
pub record Met (r : Reading) (m : Mode) (s : List ℕ) (o : ℕ) (x : Lexed) : Type 0 where
  pub some_bytes : 0 < x.size
  pub within : o + x.size ≤ length s
  pub next : tokens_at r m s o ≡ tok x o ∷ tokens_at r (after x.class m) s (o + x.size)

pub met : (r : Reading) (m : Mode) (s : List ℕ) (o : ℕ) (x : Lexed) → gap (drop o s) ≡ 0 → lex r (byte_before s o) m (drop o s) ≡ x → 0 < x.size → Met r m s o x
met r m s o x g l p = by x.size refl p fits
  where
    fits : x.size ≤ length (drop o s)
    fits = rw l at (lex-fits r (byte_before s o) m (drop o s))

    by : (n : ℕ) → x.size ≡ n → 0 < n → n ≤ length (drop o s) → Met r m s o x
    by zero e q f = absurd (omega arith)
    by (suc n) e q f =
        record {
          some_bytes = p;
          within = omega (arith, length-drop o s);
          next = unfold tokens_at in token-step r (drop o s) (byte_before s o) m o n x g l e f ∙ rw (e, before_on s o (suc n) (omega (arith, length-drop o s)) f, drop-drop (suc n) o s);
        }

-- in the block and in a frame a token is what `lex_in` says
pub lex-in : (r : Reading) (p : ℕ) (u : List ℕ) → (lex r p in_block u ≡ lex_in r p in_block u) × (lex r p in_frame u ≡ lex_in r p in_frame u)
unfolding lex
lex-in First p u = (refl, refl)
lex-in Strict p u = (refl, refl)

-- what the tests say of the token at an offset
module _ (s : List ℕ) (o : ℕ) (g : gap (drop o s) ≡ 0) where
  pub met-loop : (r : Reading) → loop_at r s o ≡ true → Met r in_block s o (lexed loop 5)
  unfolding loop_at lexed
  met-loop r e = met r in_block s o (lexed loop 5) g ((lex-in r (byte_before s o) (drop o s)).0 ∙ lex-loop (byte_before s o) in_block r (drop o s) e) (omega arith)

  pub met-tag : (r : Reading) → tag_at r s o ≡ true → Met r in_block s o (lexed tag (word (drop o s)))
  unfolding tag_at lexed tag_first
  met-tag r e =
      met r in_block s o (lexed tag (word (drop o s))) g ((lex-in r (byte_before s o) (drop o s)).0 ∙ lex-tag (byte_before s o) in_block r (drop o s) e)
      (first-tag (drop o s) (and_r (is_parted r (byte_before s o)) _ e))
    where
      first-tag : (u : List ℕ) → tag_first u ≡ true → 0 < word u
      first-tag [] e = absurd (false≢true e)
      first-tag (b ∷ u) e = tag_word b u e

  -- `save_` opens a frame with its word; in the first reading it closes one without
  pub met-open : (r : Reading) → save_at r s o ≡ true → Met r in_block s o (lexed save (word (drop o s)))
  unfolding save_at lexed save_size
  met-open r e =
      met r in_block s o (lexed save (word (drop o s))) g ((lex-in r (byte_before s o) (drop o s)).0 ∙ lex-save (byte_before s o) in_block r (drop o s) e ∙ opens r)
      (omega (arith, save-in-word (drop o s) (and_r (is_parted r (byte_before s o)) _ e)))
    where
      opens : (r : Reading) → lexed save (save_length r in_block (drop o s)) ≡ lexed save (word (drop o s))
      opens First = refl
      opens Strict = refl

  pub met-close : (r : Reading) → save_at r s o ≡ true → Met r in_frame s o (lexed save (save_length r in_frame (drop o s)))
  unfolding save_at lexed save_size
  met-close r e =
      met r in_frame s o (lexed save (save_length r in_frame (drop o s))) g ((lex-in r (byte_before s o) (drop o s)).1 ∙ lex-save (byte_before s o) in_frame r (drop o s) e)
      (some r (save-in-word (drop o s) (and_r (is_parted r (byte_before s o)) _ e)))
    where
      some : (r : Reading) → 5 ≤ word (drop o s) → 0 < save_length r in_frame (drop o s)
      some First h = omega arith
      some Strict h = omega arith

  -- `data_` begins the first block; in the strict reading it does so everywhere
  pub met-data : (r : Reading) → data_at r s o ≡ true → Met r before s o (lexed block (word (drop o s)))
  unfolding data_at lexed lex
  met-data First e = met First before s o (lexed block (word (drop o s))) g (rw e) (omega (arith, data-in-word (drop o s) e))
  met-data Strict e =
      met Strict before s o (lexed block (word (drop o s))) g (lex-data (byte_before s o) before (drop o s) e)
      (omega (arith, data-in-word (drop o s) (and_r (is_parted Strict (byte_before s o)) _ e)))

  pub met-heading : data_at Strict s o ≡ true → Met Strict in_block s o (lexed block (word (drop o s)))
  unfolding data_at lexed lex
  met-heading e =
      met Strict in_block s o (lexed block (word (drop o s))) g (lex-data (byte_before s o) in_block (drop o s) e)
      (omega (arith, data-in-word (drop o s) (and_r (is_parted Strict (byte_before s o)) _ e)))

  -- the first token is the one that stands there
  pub first : (r : Reading) (m : Mode) → (ts : List Tok) × (tokens_at r m s o ≡ tok (lex r (byte_before s o) m (drop o s)) o ∷ ts)
  unfolding tokens_at
  first r m = first_step r (drop o s) (byte_before s o) m o g

  -- in the block, by its own rule
  pub first-in : (r : Reading) → (ts : List Tok) × (tokens_at r in_block s o ≡ tok (lex_in r (byte_before s o) in_block (drop o s)) o ∷ ts)
  first-in r = let f = first r in_block in (f.0, f.1 ∙ ap (λ (x : Lexed). tok x o ∷ f.0) (lex-in r (byte_before s o) (drop o s)).0)

-- the tokens of a text end in one that is no part of an item
sized : (r : Reading) (p : ℕ) (m : Mode) (b : ℕ) (s : List ℕ) → (0 < (lex r p m (b ∷ s)).size) ⊎ ((w : Reason) × ((lex r p m (b ∷ s)).class ≡ nothing w))
unfolding lex lexed
sized Strict p m b s = lex-sized Strict p m (b ∷ s)
sized First p before b s = pick (λ x. (0 < x.size) ⊎ ((w : Reason) × (x.class ≡ nothing w))) (starts key_data (b ∷ s)) _ _ (λ e. inl (omega (arith, data-in-word (b ∷ s) e))) (λ e. inr (no_start, refl))
sized First p in_block b s = lex-sized First p in_block (b ∷ s)
sized First p in_frame b s = lex-sized First p in_frame (b ∷ s)

none-ends : (r : Reading) (p : ℕ) (m : Mode) (o : ℕ) → Ends (tok (lex r p m []) o ∷ [])
unfolding tok lex lex_in lexed
none-ends First p before o = rw no-keyword-end.no-data (last no_start refl)
none-ends First p in_block o = last at_end refl
none-ends First p in_frame o = last at_end refl
none-ends Strict p m o = last at_end refl

emit-ends : (n : ℕ) (t : Tok) (f : ℕ → List Tok) → (0 < n) ⊎ ((w : Reason) × (t.class ≡ nothing w)) → ((k : ℕ) → Ends (f k)) → Ends (emit n t f)
unfolding emit
emit-ends zero t f (inl h) i = absurd (omega arith)
emit-ends zero t f (inr h) i = last h.0 h.1
emit-ends (suc n) t f h i = more (i n)

from-ends : (r : Reading) (s : List ℕ) (p k : ℕ) (m : Mode) (o : ℕ) → Ends (tokens_from r s p k m o)
unfolding tokens_from
from-ends r [] p k m o = none-ends r p m o
from-ends r (b ∷ s) p (suc k) m o = from-ends r s b k m (suc o)
from-ends r (b ∷ s) p zero m o = by (gap (b ∷ s)) (λ k m'. from-ends r s b k m' (suc o))
  where
    by : (n : ℕ) → ((k : ℕ) (m' : Mode) → Ends (tokens_from r s b k m' (suc o))) → Ends (step n (lex r p m (b ∷ s)) m o (λ k m'. tokens_from r s b k m' (suc o)))
    by zero i = unfold step tok in emit-ends (lex r p m (b ∷ s)).size (tok (lex r p m (b ∷ s)) o) _ (sized r p m b s) (λ k. i k (after (lex r p m (b ∷ s)).class m))
    by (suc n) i = unfold step in i n m

pub tokens-ends : (r : Reading) (m : Mode) (s : List ℕ) (o : ℕ) → Ends (tokens_at r m s o)
unfolding tokens_at
tokens-ends r m s o = from-ends r (drop o s) (byte_before s o) 0 m o

-- IN THE STRICT READING THE TOKENS ARE THE SAME WHATEVER THE MODE
mode-alike : (p : ℕ) (m n : Mode) (u : List ℕ) → lex Strict p m u ≡ lex Strict p n u
unfolding lex lex_in
mode-alike p m n [] = refl
mode-alike p m n (b ∷ u) = refl

emit-alike : (z : ℕ) (t : Tok) (f g : ℕ → List Tok) → ((k : ℕ) → f k ≡ g k) → emit z t f ≡ emit z t g
unfolding emit
emit-alike zero t f g h = refl
emit-alike (suc z) t f g h = ap (λ (ts : List Tok). t ∷ ts) (h z)

step-alike : (z : ℕ) (x : Lexed) (m n : Mode) (o : ℕ) (f : ℕ → Mode → List Tok) → ((k : ℕ) (m n : Mode) → f k m ≡ f k n) → step z x m o f ≡ step z x n o f
unfolding step
step-alike zero x m n o f h = emit-alike x.size (tok x o) _ _ (λ k. h k (after x.class m) (after x.class n))
step-alike (suc z) x m n o f h = h z m n

anywhere-from : (s : List ℕ) (p k : ℕ) (m n : Mode) (o : ℕ) → tokens_from Strict s p k m o ≡ tokens_from Strict s p k n o
unfolding tokens_from
anywhere-from [] p k m n o = ap (λ (x : Lexed). tok x o ∷ []) (mode-alike p m n [])
anywhere-from (b ∷ s) p (suc k) m n o = anywhere-from s b k m n (suc o)
anywhere-from (b ∷ s) p zero m n o =
    rw (mode-alike p m n (b ∷ s)) (step-alike (gap (b ∷ s)) (lex Strict p n (b ∷ s)) m n o (λ k m'. tokens_from Strict s b k m' (suc o)) (λ k a c. anywhere-from s b k a c (suc o)))

pub tokens-anywhere : (m n : Mode) (s : List ℕ) (o : ℕ) → tokens_at Strict m s o ≡ tokens_at Strict n s o
unfolding tokens_at
tokens-anywhere m n s o = anywhere-from (drop o s) (byte_before s o) 0 m n o

-- where the first token of both lists stands, behind o
pub record Spot (r : Reading) (s : List ℕ) (o : ℕ) (ts us : List Tok) : Type 0 where
  pub onward : o ≤ heading_at ts
  pub within : heading_at ts ≤ length s
  pub bare : gap (drop (heading_at ts) s) ≡ 0
  pub in_block : ts ≡ tokens_at r in_block s (heading_at ts)
  pub in_frame : us ≡ tokens_at r in_frame s (heading_at ts)

-- the tokens in the block and in a frame, from behind o on, as far as they are the same
pub data Both (r : Reading) (s : List ℕ) : ℕ → List Tok → List Tok → Type 0 where
  both-last : {o : ℕ} {t : Tok} → Spot r s o (t ∷ []) (t ∷ []) → (w : Reason) → t.class ≡ nothing w → Both r s o (t ∷ []) (t ∷ [])
  both-save : {o : ℕ} {t u : Tok} {ts us : List Tok} → Spot r s o (t ∷ ts) (u ∷ us) → u.at ≡ t.at → t.class ≡ save → u.class ≡ save → Both r s o (t ∷ ts) (u ∷ us)
  both-more : {o : ℕ} {t : Tok} {ts us : List Tok} → Spot r s o (t ∷ ts) (t ∷ us) → 0 < t.size → Both r s (t.at + t.size) ts us → Both r s o (t ∷ ts) (t ∷ us)

pub both-spot : {r : Reading} {s : List ℕ} {o : ℕ} {ts us : List Tok} → Both r s o ts us → Spot r s o ts us
both-spot (both-last h w e) = h
both-spot (both-save h a e f) = h
both-spot (both-more h p b) = h

spot-from : {r : Reading} {s : List ℕ} {o : ℕ} {ts us : List Tok} (p : ℕ) → Spot r s o ts us → p ≤ o → Spot r s p ts us
spot-from p h l = record { onward = omega arith; within = h.within; bare = h.bare; in_block = h.in_block; in_frame = h.in_frame }

pub both-from : {r : Reading} {s : List ℕ} {o : ℕ} {ts us : List Tok} (p : ℕ) → Both r s o ts us → p ≤ o → Both r s p ts us
both-from p (both-last h w e) l = both-last (spot-from p h l) w e
both-from p (both-save h a e f) l = both-save (spot-from p h l) a e f
both-from p (both-more h q b) l = both-more (spot-from p h l) q b

spot-here : (r : Reading) (s : List ℕ) (j : ℕ) (ts us : List Tok) → gap (drop j s) ≡ 0 → j ≤ length s → heading_at ts ≡ j → tokens_at r in_block s j ≡ ts → tokens_at r in_frame s j ≡ us → Spot r s j ts us
spot-here r s j ts us g h e p q =
    record {
      onward = omega arith;
      within = omega arith;
      bare = rw e g;
      in_block = rw e (sym p);
      in_frame = rw e (sym q);
    }

-- at an offset where no space stands, given what stands behind
module _ (r : Reading) (s : List ℕ) (j : ℕ) (g : gap (drop j s) ≡ 0) (h : j ≤ length s) (ih : (p : ℕ) → j < p → p ≤ length s → Both r s p (tokens_at r in_block s p) (tokens_at r in_frame s p)) where
  Here : Type 0
  Here = Both r s j (tokens_at r in_block s j) (tokens_at r in_frame s j)

  here-last : (x : Lexed) (w : Reason) → lex r (byte_before s j) in_block (drop j s) ≡ x → lex r (byte_before s j) in_frame (drop j s) ≡ x → x.size ≡ 0 → x.class ≡ nothing w → Here
  unfolding Here heading_at tok
  here-last x w a b z e =
      let p : tokens_at r in_block s j ≡ tok x j ∷ [] = unfold tokens_at in last_step r (drop j s) (byte_before s j) in_block j x g a z in
      let q : tokens_at r in_frame s j ≡ tok x j ∷ [] = unfold tokens_at in last_step r (drop j s) (byte_before s j) in_frame j x g b z in
      rw (p, q) (both-last (spot-here r s j (tok x j ∷ []) (tok x j ∷ []) g h refl p q) w e)

  -- a token behind which each list goes on in its own mode
  Stays : Mode → Lexed → Type 0
  Stays m x = tokens_at r (after x.class m) s (j + x.size) ≡ tokens_at r m s (j + x.size)

  here-more : (x : Lexed) → lex r (byte_before s j) in_block (drop j s) ≡ x → lex r (byte_before s j) in_frame (drop j s) ≡ x → Stays in_block x → Stays in_frame x → 0 < x.size → Here
  unfolding Here heading_at tok Stays
  here-more x a b c d z =
      let p = met r in_block s j x g a z in
      let q = met r in_frame s j x g b z in
      let p' : tokens_at r in_block s j ≡ tok x j ∷ tokens_at r in_block s (j + x.size) = rw c at p.next in
      let q' : tokens_at r in_frame s j ≡ tok x j ∷ tokens_at r in_frame s (j + x.size) = rw d at q.next in
      rw (p', q') (both-more (spot-here r s j _ _ g h refl p' q') z (ih (j + x.size) (omega arith) p.within))

  -- one token in both modes, with bytes or the last
  here-one : (x : Lexed) → lex r (byte_before s j) in_block (drop j s) ≡ x → lex r (byte_before s j) in_frame (drop j s) ≡ x → Stays in_block x → Stays in_frame x → (0 < x.size) ⊎ ((w : Reason) × (x.class ≡ nothing w)) → Here
  here-one x a b c d k = by x.size refl k
    where
      by : (n : ℕ) → x.size ≡ n → (0 < x.size) ⊎ ((w : Reason) × (x.class ≡ nothing w)) → Here
      by (suc n) z k = here-more x a b c d (omega arith)
      by zero z (inl k) = absurd (omega arith)
      by zero z (inr k) = here-last x k.0 a b z k.1

first-here : (s : List ℕ) (j : ℕ) → gap (drop j s) ≡ 0 → j ≤ length s → ((p : ℕ) → j < p → p ≤ length s → Both First s p (tokens_at First in_block s p) (tokens_at First in_frame s p)) → Both First s j (tokens_at First in_block s j) (tokens_at First in_frame s j)
unfolding Here Stays heading_at tok lexed
first-here s j g h ih = split (drop j s) refl
  where
    saved : save_at First s j ≡ true → Both First s j (tokens_at First in_block s j) (tokens_at First in_frame s j)
    saved e =
        let p = met-open s j g First e in
        let q = met-close s j g First e in
        rw (p.next, q.next) (both-save (spot-here First s j _ _ g h refl p.next q.next) refl refl refl)

    by : (b : ℕ) (u : List ℕ) → drop j s ≡ b ∷ u → (t : Bool) → starts key_save (b ∷ u) ≡ t → Both First s j (tokens_at First in_block s j) (tokens_at First in_frame s j)
    by b u e true f = saved (unfold save_at in rw e f)
    by b u e false f =
        let x = lex_in First (byte_before s j) in_block (b ∷ u) in
        here-one First s j g h ih x (unfold lex in rw e) (unfold lex in rw (e, lex-same (byte_before s j) b u f))
        (rw (lex-stays (byte_before s j) in_block b u f)) (rw (lex-same (byte_before s j) b u f, lex-stays (byte_before s j) in_frame b u f)) (lex-sized First (byte_before s j) in_block (b ∷ u))

    split : (u : List ℕ) → drop j s ≡ u → Both First s j (tokens_at First in_block s j) (tokens_at First in_frame s j)
    split [] e = here-last First s j g h ih (lexed (nothing at_end) 0) at_end (unfold lex lex_in in rw e) (unfold lex lex_in in rw e) (unfold lexed in refl) (unfold lexed in refl)
    split (b ∷ u) e = by b u e (starts key_save (b ∷ u)) refl

strict-here : (s : List ℕ) (j : ℕ) → gap (drop j s) ≡ 0 → j ≤ length s → ((p : ℕ) → j < p → p ≤ length s → Both Strict s p (tokens_at Strict in_block s p) (tokens_at Strict in_frame s p)) → Both Strict s j (tokens_at Strict in_block s j) (tokens_at Strict in_frame s j)
unfolding Here Stays
strict-here s j g h ih =
    let x = lex Strict (byte_before s j) in_block (drop j s) in
    here-one Strict s j g h ih x refl (mode-alike (byte_before s j) in_frame in_block (drop j s)) (tokens-anywhere (after x.class in_block) in_block s (j + x.size)) (tokens-anywhere (after x.class in_frame) in_frame s (j + x.size))
    (unfold lex in lex-sized Strict (byte_before s j) in_block (drop j s))

-- behind the space at o
both_at : (r : Reading) (s : List ℕ) (o : ℕ) → o ≤ length s → ((p : ℕ) → o < p → p ≤ length s → Both r s p (tokens_at r in_block s p) (tokens_at r in_frame s p)) → Both r s o (tokens_at r in_block s o) (tokens_at r in_frame s o)
both_at r s o h ih =
    let onward : o ≤ gap_end s o = gap_from s o in
    rw (← tokens-gap r in_block s o, ← tokens-gap r in_frame s o)
    (both-from o (here r (λ p a b. ih p (omega arith) b)) onward)
  where
    here : (r : Reading) → ((p : ℕ) → gap_end s o < p → p ≤ length s → Both r s p (tokens_at r in_block s p) (tokens_at r in_frame s p)) → Both r s (gap_end s o) (tokens_at r in_block s (gap_end s o)) (tokens_at r in_frame s (gap_end s o))
    here First ih = first-here s (gap_end s o) (gap-none s o) (gap_within s o h) ih
    here Strict ih = strict-here s (gap_end s o) (gap-none s o) (gap_within s o h) ih

both-bound : (n : ℕ) (r : Reading) (s : List ℕ) (o : ℕ) → o ≤ length s → length s ≤ o + n → Both r s o (tokens_at r in_block s o) (tokens_at r in_frame s o)
both-bound zero r s o h l = both_at r s o h (λ p a b. absurd (omega arith))
both-bound (suc n) r s o h l = both_at r s o h (λ p a b. both-bound n r s p b (omega arith))

-- THE TOKENS IN THE BLOCK AND IN A FRAME ARE THE SAME: in the first reading up to a `save_`
pub both : (r : Reading) (s : List ℕ) (o : ℕ) → o ≤ length s → Both r s o (tokens_at r in_block s o) (tokens_at r in_frame s o)
both r s o h = both-bound (length s) r s o h (omega arith)
