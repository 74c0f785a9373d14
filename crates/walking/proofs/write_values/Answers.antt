-- `walking::write_values`: what is written so far and the values from the cursor on are the values from the start on. Assumes nothing.
use borrow.Enum.Refused.{opened}
use mathlib.Core.Path.{◌≡◌, sym, ◌∙◌}
use native.Mathlib.Omega.{arith}
use Rattle.text.specs.Limits.{limit}
use Rattle.values.specs.Finding.{found_at}
use Rattle.found.proofs.Choices.{not-value}
use Rattle.values.proofs.Packs.{found-packed}
use Rattle.desk.specs.Writer.{desk_of}
use Rattle.walking.specs.Walk.{values_from, behind_values}
use Rattle.walking.proofs.SoFar.{start}
use Rattle.walking.proofs.Lists.{value_room, value-next, value-last}
use Rattle.walking.proofs.Trims.{same-then, same-own, value-gone, gone-bare, gone-further}
use Rattle.walking.proofs.Turns.{value-here}
use Rattle.walking.proofs.write_values.Goals as goal

pub loop-kind-init : goal.loop-kind-init
loop-kind-init c =
    let w = c.args.writer.now in
    record { same = same-own w; so_far = start w.full w.text.now (values_from w.reading w.text.now) (behind_values w.reading w.text.now) (desk_of w c.args.c) c.requires.going c.requires.room }

pub trimmed-here-requires : goal.trimmed-here-requires
trimmed-here-requires c =
    let i = c.loop-kind.invariant in
    rw i.same.text i.so_far.going.place

pub pack_value-requires : goal.pack_value-requires
unfolding limit
pack_value-requires c =
    let i = c.loop-kind.invariant in
    rw i.same.text (omega (arith, i.so_far.going.short))

pub returns-in_default-clause-wrote : goal.returns-in_default-clause-wrote
returns-in_default-clause-wrote c =
    let w = c.args.writer.now in
    let l = c.loop-kind in
    let h = c.trimmed-here.result in
    let i = l.invariant in
    let t = i.same in
    let g = value-gone w _ t _ h c.trimmed-here.ensures c.args.c i.so_far in
    let found : c.of-found.result ≡ found_at w.reading w.text.now h.place.offset =
    found-packed _ _ _ _ _ (rw (t.reading, t.text) at c.pack_value.ensures) c.of-found.ensures in
    value-last w.reading w.full w.text.now (desk_of w c.args.c) (desk_of l.writer h) g (gone-bare w _ t _ h c.trimmed-here.ensures)
    (λ k n q. not-value c.of-found.result (opened c.in_default.in_default-own.keys2) k n (found ∙ q))

pub write_found-last-requires : goal.write_found-last-requires
write_found-last-requires c =
    let w = c.args.writer.now in
    let l = c.loop-kind in
    let h = c.trimmed-here.result in
    let i = l.invariant in
    let t = i.same in
    let g = value-gone w _ t _ h c.trimmed-here.ensures c.args.c i.so_far in
    let found : c.of-found.result ≡ found_at w.reading w.text.now h.place.offset =
    found-packed _ _ _ _ _ (rw (t.reading, t.text) at c.pack_value.ensures) c.of-found.ensures in
    let v = value-here w.reading w.text.now h.place.offset _ _ (gone-bare w _ t _ h c.trimmed-here.ensures) (sym found ∙ c.in-Value.is) in
    rw (t.reading, t.text, t.full) (record { going = g.going; here = v; room = value_room w.reading w.full w.text.now (desk_of w c.args.c) (desk_of l.writer h) _ _ g v })

pub loop-kind-smaller : goal.loop-kind-smaller
loop-kind-smaller c =
    let w = c.args.writer.now in
    let l = c.loop-kind in
    let h = c.trimmed-here.result in
    let i = l.invariant in
    let t = i.same in
    let g = value-gone w _ t _ h c.trimmed-here.ensures c.args.c i.so_far in
    let found : c.of-found.result ≡ found_at w.reading w.text.now h.place.offset =
    found-packed _ _ _ _ _ (rw (t.reading, t.text) at c.pack_value.ensures) c.of-found.ensures in
    let v = value-here w.reading w.text.now h.place.offset _ _ (gone-bare w _ t _ h c.trimmed-here.ensures) (sym found ∙ c.in-Value.is) in
    let n = value-next w.reading w.full w.text.now (desk_of w c.args.c) (desk_of l.writer h) (desk_of c.write_found-last.new.writer c.write_found-last.result) _ _ g v (rw (t.text, t.full) at c.write_found-last.ensures.wrote) in
    omega (arith, n.1, n.2, gone-further w _ t _ h c.trimmed-here.ensures)

pub loop-kind-preserved : goal.loop-kind-preserved
loop-kind-preserved c =
    let w = c.args.writer.now in
    let l = c.loop-kind in
    let h = c.trimmed-here.result in
    let i = l.invariant in
    let t = i.same in
    let g = value-gone w _ t _ h c.trimmed-here.ensures c.args.c i.so_far in
    let found : c.of-found.result ≡ found_at w.reading w.text.now h.place.offset =
    found-packed _ _ _ _ _ (rw (t.reading, t.text) at c.pack_value.ensures) c.of-found.ensures in
    let v = value-here w.reading w.text.now h.place.offset _ _ (gone-bare w _ t _ h c.trimmed-here.ensures) (sym found ∙ c.in-Value.is) in
    record {
      same = same-then w l.writer c.write_found-last.new.writer t c.write_found-last.ensures.same;
      so_far = (value-next w.reading w.full w.text.now (desk_of w c.args.c) (desk_of l.writer h) (desk_of c.write_found-last.new.writer c.write_found-last.result) _ _ g v (rw (t.text, t.full) at c.write_found-last.ensures.wrote)).0;
    }
