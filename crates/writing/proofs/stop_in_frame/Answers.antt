-- `writing::stop_in_frame`: where a tag may stand and a value does behind it, that is an item; else it is decided. Assumes nothing.
use mathlib.Core.Path.{◌≡◌, sym, ◌∙◌}
use native.Mathlib.Omega.{arith}
use Rattle.text.specs.Limits.{limit}
use Rattle.values.specs.Finding.{found_at}
use Rattle.values.proofs.Packs.{found-packed}
use Rattle.writing.proofs.Nexts.{next-value}
use Rattle.writing.proofs.stop_in_frame.Goals as goal

pub pack_value-requires : goal.pack_value-requires
unfolding limit
pack_value-requires c = omega (arith, c.requires.small)

pub returns : goal.returns
returns c =
    let found : c.of.result ≡ found_at c.args.reading c.args.s.now c.gap_end-stop.result =
    found-packed _ _ _ _ _ c.pack_value.ensures c.of.ensures in
    let a = c.args in
    next-value a.reading a.s.now a.at _ _ _ _ c.requires.none c.name_end-end.ensures c.if-end-at.false c.gap_end-stop.ensures (sym c.in-Value.is ∙ found)
