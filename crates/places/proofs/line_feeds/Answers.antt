-- `places::line_feeds`: by blocks, then byte by byte. Assumes nothing.
use mathlib.Core.Path.{◌≡◌}
use mathlib.Core.Bool.{false}
use Prim.Native.Nat.{◌+◌, ◌*◌, ◌/◌}
use native.Mathlib.Omega.{arith}
use lib.ListN.{length, get_or}
use lib.Seq.{get_or-drop}
use Rattle.places.specs.Lines.{no_carriage}
use Rattle.text.specs.Runs.{runs}
use Rattle.places.proofs.Feeds.{Free, feed-le, feeds-le, feeds-told, other-told, block-feeds, counted_start, counted-le, counted-block, counted-byte, counted-other, counted-carriage, counted-end}
use Rattle.places.proofs.line_feeds.Goals as goal

pub loop-block-init : goal.loop-block-init
loop-block-init c = counted_start _

pub returns-then-feeds : goal.returns-then-feeds
returns-then-feeds c =
    let l = c.loop-block in
    let s = c.args.part.now in
    let told = block-feeds s _ l.block-index _ _ c.as_chunks.ensures.front (omega (arith, c.as_chunks.ensures.front_len)) c.feeds_in_block-feeds.ensures in
    let met : runs no_carriage 32 s (l.block-index * 32) ≡ false = other-told 255 32 _ _ _ told (omega arith) c.if-feeds.true in
    counted-other s _ l.count l.invariant 32 (length s) _ met (omega (arith, c.as_chunks.ensures.front_len))

pub overflow_add-count : goal.overflow_add-count
overflow_add-count c =
    let l = c.loop-block in
    let s = c.args.part.now in
    let told = block-feeds s _ l.block-index _ _ c.as_chunks.ensures.front (omega (arith, c.as_chunks.ensures.front_len)) c.feeds_in_block-feeds.ensures in
    let f : Free s (l.block-index * 32) 32 c.feeds_in_block-feeds.result = feeds-told 255 32 _ _ _ told c.if-feeds.false in
    omega (arith, c.as_chunks.ensures.front_len, counted-le s _ _ l.invariant, f.sum, feeds-le 32 s (l.block-index * 32))

pub loop-block-preserved : goal.loop-block-preserved
loop-block-preserved c =
    let l = c.loop-block in
    let s = c.args.part.now in
    let told = block-feeds s _ l.block-index _ _ c.as_chunks.ensures.front (omega (arith, c.as_chunks.ensures.front_len)) c.feeds_in_block-feeds.ensures in
    let f : Free s (l.block-index * 32) 32 c.feeds_in_block-feeds.result = feeds-told 255 32 _ _ _ told c.if-feeds.false in
    let k : (l.block-index + 1) * 32 ≡ l.block-index * 32 + 32 = omega arith in
    rw k (counted-block s _ _ l.invariant 32 _ f)

pub returns-then-b-eq13 : goal.returns-then-b-eq13
returns-then-b-eq13 c =
    let l = c.loop-b in
    let s = c.args.part.now in
    let at = length s / 32 * 32 in
    let b : get_or c.as_chunks.result.1.now l.b-index 0 ≡ get_or s (at + l.b-index) 0 = rw c.as_chunks.ensures.back (get_or-drop at s l.b-index 0) in
    counted-carriage s _ l.count l.invariant (length s) _ (omega (arith, c.as_chunks.ensures.back_len)) (omega arith) (rw b at c.if-b-eq13.true)

pub overflow_add-count-in-loop-b : goal.overflow_add-count-in-loop-b
overflow_add-count-in-loop-b c =
    let l = c.loop-b in
    let s = c.args.part.now in
    omega (arith, c.as_chunks.ensures.back_len, counted-le s _ _ l.invariant, c.feed.ensures, feed-le (get_or c.as_chunks.result.1.now l.b-index 0))

pub loop-b-preserved : goal.loop-b-preserved
loop-b-preserved c =
    let l = c.loop-b in
    let s = c.args.part.now in
    let at = length s / 32 * 32 in
    let b : get_or c.as_chunks.result.1.now l.b-index 0 ≡ get_or s (at + l.b-index) 0 = rw c.as_chunks.ensures.back (get_or-drop at s l.b-index 0) in
    let k : at + (l.b-index + 1) ≡ at + l.b-index + 1 = omega arith in
    rw (k, c.feed.ensures, b) (counted-byte s _ l.count l.invariant (omega (arith, c.as_chunks.ensures.back_len)) (rw b at c.if-b-eq13.false))

pub returns : goal.returns
returns c =
    let l = c.loop-b in
    counted-end c.args.part.now _ l.count l.invariant _ _ (omega (arith, c.as_chunks.ensures.back_len))
