-- `reading::read`: by the judgement, then by the room of store and area. Assumes nothing.
use Rattle.std.proofs.lemmas.Result.{err_from_is_err_and}
use Rattle.judging.proofs.Judgements.{fits_read, declines-refuses}
use Rattle.reading.proofs.Served.{read-refused, read-asks, stored, copied, no_store, no-area, all_read, need-store, need-area}
use Rattle.reading.proofs.read.Goals as goal

pub returns-in_err-sizes : goal.returns-in_err-sizes
returns-in_err-sizes c =
    let e = err_from_is_err_and c.from_residual.result c.from_residual.ensures.1 in
    let r = read-refused _ _ _ _ _ (declines-refuses _ _ _ _ c.judge.ensures c.in_err-sizes.was) in
    record { answers = rw (e.1, e.2) r.0; stored = r.1.0; copied = r.1.1 }

pub returns-then-store-needed : goal.returns-then-store-needed
returns-then-store-needed c =
    let i = fits_read _ _ _ _ c.judge.ensures c.in_ok-sizes.was in
    let r = no_store _ _ _ _ i.records i.answer _ _ (need-store _ _ _ i) (need-area _ _ _ i) c.if-store-needed.true in
    record { answers = r.0; stored = r.1.0; copied = r.1.1 }

pub returns-then-area-needed : goal.returns-then-area-needed
returns-then-area-needed c =
    let i = fits_read _ _ _ _ c.judge.ensures c.in_ok-sizes.was in
    let r = no-area _ _ _ _ i.records i.answer _ _ (need-store _ _ _ i) (need-area _ _ _ i) c.if-store-needed.false c.if-area-needed.true in
    record { answers = r.0; stored = r.1.0; copied = r.1.1 }

pub write_block-requires : goal.write_block-requires
write_block-requires c = read-asks _ _ _ (fits_read _ _ _ _ c.judge.ensures c.in_ok-sizes.was) _ _ c.if-store-needed.false c.if-area-needed.false

pub returns : goal.returns
returns c =
    let i = fits_read _ _ _ _ c.judge.ensures c.in_ok-sizes.was in
    let w = c.write_block.ensures in
    let r = all_read _ _ _ _ i.records i.answer _ _ (need-store _ _ _ i) (need-area _ _ _ i) _ _ c.if-store-needed.false c.if-area-needed.false (stored _ _ _ i _ _ w.store_after) (copied _ _ _ i _ _ w.area_after) in
    record { answers = r.0; stored = r.1.0; copied = r.1.1 }
