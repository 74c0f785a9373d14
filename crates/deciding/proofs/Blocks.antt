-- The blocks as the code passes over them, against what the machine answers. Assumes nothing.
use Prim.Native.Nat.{ℕ, ◌+◌, ◌-◌, ◌≤◌}
use mathlib.Core.Path.{◌≡◌, refl, sym, ap, ◌∙◌}
use mathlib.Core.Bool.{Bool, true, false, cond, false≢true}
use mathlib.Core.List.{List, [], ◌∷◌, ◌++◌}
use mathlib.Core.Option.{none}
use native.Mathlib.Omega.{arith}
use lib.ListN.{length, drop, drop_of_length-le}
use Rattle.rules.specs.declared.Reading.{Reading}
use Rattle.rules.specs.declared.Reading.TheVariants.{First, Strict}
use Rattle.columns.specs.Before.{byte_before}
use Rattle.gaps.specs.Gaps.{gap, gap_end}
use Rattle.gaps.proofs.Gaps.{gap_from, gap_within, gap-none}
use Rattle.words.specs.Words.{word, end_of_word}
use Rattle.words.specs.Names.{heading_fits}
use Rattle.words.proofs.Words.{word_end, word_size}
use Rattle.values.specs.Values.{block, lexed}
use Rattle.sizes.specs.declared.Sizes.{Sizes}
use Rattle.std.specs.Prelude.{Ok, Err}
use Rattle.grammar.specs.declared.Fault.{Fault}
use Rattle.grammar.specs.declared.Cause.TheVariants.{NoData, BadName}
use Rattle.grammar.specs.Causes.{fault}
use Rattle.grammar.specs.Tokens.{before, in_block, lex_in, lex, after, tok, tokens_from, tokens_at, data_at}
use Rattle.grammar.specs.Machine.{Rec, refused, done, run, config, items, rec, follow, move, at_start, at_item, go, stop}
use Rattle.sizes.specs.Sizes.{sizes_of, no_sizes, added, joined, Upto}
use Rattle.grammar.specs.Reading.{decided}
use Rattle.decisions.specs.Decisions.{told, tells, refusal}
use Rattle.decisions.specs.Onward.{mode_of, left, Passed}
use Rattle.decisions.proofs.Onward.{left-gap, one-fits}
use Rattle.deciding.specs.Blocks.{block_at}
use Rattle.grammar.proofs.Lexes.{class-by}
use Rattle.grammar.proofs.Offsets.{tokens-gap, tokens-start, Met, met-data, first}
use Rattle.sizes.proofs.Room.{sizes-append, sizes-one, upto-joined}

-- the blocks from o on have been read up to p, where a 7 has the detail d
pub record Begun (r : Reading) (s : List ℕ) (o p : ℕ) (z : Sizes) (d : ℕ) : Type 0 where
  pub kept : List Rec
  pub sizes : z ≡ sizes_of kept
  pub reads : block_at r s o ≡ left r d none s p kept
  pub within : p ≤ length s
  pub bare : gap (drop p s) ≡ 0
  pub fits : Upto p z

pub begin-reads : (r : Reading) (s : List ℕ) (o w : ℕ) → Met r before s o (lexed block w) → block_at r s o ≡ cond (heading_fits r w) (left r 0 none s (o + w) (rec 1 (tok (lexed block w) o) ∷ [])) (refused 17 o 0)
unfolding block_at left mode_of run move config at_start follow lexed tok after
begin-reads r s o w m = rw m.next (by (heading_fits r w))
  where
    by : (b : Bool) → follow (cond b (go (config (items 0) none (rec 1 (tok (lexed block w) o) ∷ []) [])) (stop (refused 17 o 0))) (λ c. run r (tokens_at r in_block s (o + w)) c) ≡ cond b (run r (tokens_at r in_block s (o + w)) (config (items 0) none (rec 1 (tok (lexed block w) o) ∷ []) [])) (refused 17 o 0)
    by true = refl
    by false = refl

module _ (r : Reading) (s : List ℕ) (o : ℕ) (g : gap (drop o s) ≡ 0) (e : data_at r s o ≡ true) where
  pub block-begins : heading_fits r (end_of_word s o - o) ≡ true → Begun r s o (gap_end s (end_of_word s o)) (added no_sizes 1 (end_of_word s o - o)) 0
  unfolding lexed tok rec
  block-begins f =
      let w = word (drop o s) in
      let m = met-data s o g r e in
      let d : o + w - o ≡ w = omega arith in
      let h : heading_fits r w ≡ true = rw (← word_size s o) f in
      let l : o + w ≤ gap_end s (o + w) = gap_from s (o + w) in
      let t = rec 1 (tok (lexed block w) o) in
      rw (word_end s o, d)
      (record {
        kept = t ∷ [];
        sizes = sym (sizes-one t);
        reads = begin-reads r s o w m ∙ rw h (sym (left-gap r 0 none s (o + w) (t ∷ [])));
        within = gap_within s (o + w) m.within;
        bare = gap-none s (o + w);
        fits = one-fits 1 w (gap_end s (o + w)) m.some_bytes (omega arith);
      })

  pub block-misnamed : heading_fits r (end_of_word s o - o) ≡ false → told (Err (fault BadName o)) ≡ tells (block_at r s o)
  unfolding told tells
  block-misnamed f = let h : heading_fits r (word (drop o s)) ≡ false = rw (← word_size s o) f in rw (begin-reads r s o (word (drop o s)) (met-data s o g r e), h)

pub block-goes-on : (r : Reading) (s : List ℕ) (o p q : ℕ) (z y : Sizes) (d e : ℕ) → Begun r s o p z d → Passed r s none p none q y e → Begun r s o q (joined z y) e
block-goes-on r s o p q z y d e a b =
    record {
      kept = a.kept ++ b.kept;
      sizes = rw (a.sizes, b.sizes) (sym (sizes-append a.kept b.kept));
      reads = a.reads ∙ b.reads d a.kept;
      within = b.within;
      bare = b.bare;
      fits = upto-joined p (q - p) q z y a.fits b.fits (omega (arith, b.onward));
    }

-- at the text's end all records are kept
pub end-answer : (r : Reading) (d : ℕ) (s : List ℕ) (p : ℕ) (out : List Rec) → length s ≤ p → left r d none s p out ≡ done out
unfolding left mode_of tokens_at tokens_from run move config lex lex_in lexed tok at_item follow
end-answer First d s p out h = rw (drop_of_length-le s h)
end-answer Strict d s p out h = rw (drop_of_length-le s h)

pub block-ends : (r : Reading) (s : List ℕ) (o p : ℕ) (z : Sizes) (d : ℕ) → Begun r s o p z d → length s ≤ p → told (Ok z) ≡ tells (block_at r s o)
unfolding told tells sizes_of
block-ends r s o p z d b h = rw (b.reads, end-answer r d s p b.kept h, b.sizes)

pub block_refused : (r : Reading) (s : List ℕ) (o p : ℕ) (z : Sizes) (d : ℕ) (e : Fault) → Begun r s o p z d → ((out : List Rec) → told (Err e) ≡ tells (left r d none s p out)) → told (Err e) ≡ tells (block_at r s o)
block_refused r s o p z d e b q = rw b.reads (q b.kept)

-- no `data_`
pub no-data : (r : Reading) (s : List ℕ) (o : ℕ) → gap (drop o s) ≡ 0 → data_at r s o ≡ false → told (Err (fault NoData o)) ≡ tells (block_at r s o)
unfolding block_at run move config at_start follow told tells lex lexed tok data_at
no-data First s o g e = rw ((first s o g First before).1, e)
no-data Strict s o g e = rw (first s o g Strict before).1 (by (drop o s) refl)
  where
    by : (u : List ℕ) → drop o s ≡ u → refusal 3 o 0 ≡ tells (follow (at_start Strict (lex_in Strict (byte_before s o) before u).class (tok (lex_in Strict (byte_before s o) before u) o)) (λ c. run Strict (first s o g Strict before).0 c))
    by [] q = unfold lex_in in refl
    by (b ∷ u) q =
        class-by (λ c. refusal 3 o 0 ≡ tells (follow (at_start Strict c (tok (lex_in Strict (byte_before s o) before (b ∷ u)) o)) (λ c. run Strict (first s o g Strict before).0 c))) (byte_before s o) before b u
        (λ k. refl) refl refl refl refl refl Strict (λ f. refl) (λ f. absurd (false≢true (sym (rw q at e) ∙ f))) (λ f. refl) (λ f. refl) (λ f. refl)

-- the text is read from behind its leading space and comments on
pub decided-from : (r : Reading) (s : List ℕ) → decided r s ≡ block_at r s (gap_end s 0)
unfolding decided block_at
decided-from r s = rw (tokens-gap r before s 0, tokens-start r s)

-- the text's start as the code finds it
module _ (r : Reading) (s : List ℕ) (o : ℕ) (e : o ≡ gap_end s 0) where
  pub start-bare : (o ≤ length s) × (gap (drop o s) ≡ 0)
  start-bare = rw e (gap_within s 0 (omega arith), gap-none s 0)

  pub decided-at : decided r s ≡ block_at r s o
  decided-at = decided-from r s ∙ ap (block_at r s) (sym e)

  pub decided-none : data_at r s o ≡ false → told (Err (fault NoData o)) ≡ tells (decided r s)
  decided-none f = rw decided-at (no-data r s o start-bare.1 f)
