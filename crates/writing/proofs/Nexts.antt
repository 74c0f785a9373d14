-- What stands next in a frame where a tag stands with a value: an item. Assumes nothing.
use Prim.Native.Nat.{ℕ, ◌<◌}
use mathlib.Core.Path.{◌≡◌, refl, ap, ◌∙◌}
use mathlib.Core.List.{List}
use lib.ListN.{drop}
use Rattle.rules.specs.declared.Reading.{Reading}
use Rattle.gaps.specs.Gaps.{gap, gap_end}
use Rattle.found.specs.declared.Found.TheVariants.{Value}
use Rattle.items.specs.Answers.{item_at}
use Rattle.openings.specs.Openings.{name_end}
use Rattle.openings.proofs.Openings.{named}
use Rattle.values.specs.Finding.{found_at}
use Rattle.items.proofs.Items.{TagRead, tag-value}
use Rattle.std.specs.Prelude.{None}
use Rattle.writing.specs.Block.{stop_of}

pub next-value : (r : Reading) (s : List ℕ) (o end stop k n : ℕ) → gap (drop o s) ≡ 0 → end ≡ name_end r s o → o < end → stop ≡ gap_end s end → Value k n ≡ found_at r s stop → None ≡ stop_of (item_at r s o)
unfolding stop_of
next-value r s o end stop k n g e l p q =
    let d = named r s o (rw (← e) l) in
    let t : TagRead r s o end stop (Value k n) = record { bare = g; tagged = d.tagged; ends = e ∙ d.ends; named = rw (e, d.ends) d.fits; stops = p; finds = q } in
    ap stop_of (tag-value t k n _ _ refl refl refl)
