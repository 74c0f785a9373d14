-- `outlining::outline`: by the judgement, then by the room. Assumes nothing.
use Rattle.std.proofs.lemmas.Result.{err_from_is_err_and}
use Rattle.judging.proofs.Judgements.{fits_read, declines-refuses}
use Rattle.outlining.proofs.Outlines.{outline-refused, outline-asks, stored, no-outline, all-outlined, need-outline}
use Rattle.outlining.proofs.outline.Goals as goal

pub returns-in_err-room : goal.returns-in_err-room
returns-in_err-room c =
    let e = err_from_is_err_and c.from_residual.result c.from_residual.ensures.1 in
    let r = outline-refused _ _ _ _ (declines-refuses _ _ _ _ c.judge.ensures c.in_err-room.was) in
    record { answers = rw (e.1, e.2) r.0; writes = r.1 }

pub returns-then-store-room : goal.returns-then-store-room
returns-then-store-room c =
    let i = fits_read _ _ _ _ c.judge.ensures c.in_ok-room.was in
    let r = no-outline _ _ _ i.records i.answer _ (need-outline _ _ _ i) c.if-store-room.true in
    record { answers = r.0; writes = r.1 }

pub write_block-requires : goal.write_block-requires
write_block-requires c = outline-asks _ _ _ (fits_read _ _ _ _ c.judge.ensures c.in_ok-room.was) _ _ c.if-store-room.false

pub returns : goal.returns
returns c =
    let i = fits_read _ _ _ _ c.judge.ensures c.in_ok-room.was in
    let r = all-outlined _ _ _ i.records i.answer _ (need-outline _ _ _ i) _ c.if-store-room.false (stored _ _ _ i _ _ c.write_block.ensures.store_after) in
    record { answers = r.0; writes = r.1 }
