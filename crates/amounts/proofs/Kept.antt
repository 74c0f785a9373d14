-- What soundness says of decimal parts is more than their order asks. Assumes nothing.
use Prim.Native.Nat.{◌^◌}
use mathlib.Core.Path.{◌≡◌}
use mathlib.Core.Bool.{true}
use native.Mathlib.Omega.{arith}
use borrow.Author.Tests.{ltb-true, leb-true}
use lib.Dec.{leb, ltb}
use Rattle.text.proofs.Bools.{and_l, and_r}
use Rattle.entries.specs.declared.Parts.{Parts}
use Rattle.contents.specs.Contents.{parts_kept, exponent_kept}
use Rattle.amounts.specs.Exact.{Kept}

pub kept-sound : (p : Parts) → parts_kept p ≡ true → Kept p
unfolding parts_kept
kept-sound p e =
    let e1 = and_r (leb p.sign 1) _ e in
    let i = ltb-true p.integer 1000000000 (and_l (ltb p.integer 1000000000) _ e1) in
    let e2 = and_r (ltb p.integer 1000000000) _ e1 in
    let d = leb-true p.places 18 (and_l (leb p.places 18) _ e2) in
    let e3 = and_r (leb p.places 18) _ e2 in
    let f = ltb-true p.fraction (10 ^ p.places) (and_l (ltb p.fraction (10 ^ p.places)) _ e3) in
    let e4 = and_r (ltb p.fraction (10 ^ p.places)) _ e3 in
    let u = ltb-true p.uncertainty 1000000000 (and_r (exponent_kept p.exponent) _ e4) in
    record { integer = omega arith; fraction = f; places = d; uncertainty = omega arith }
