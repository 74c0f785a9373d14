-- `numerals::put_fraction` meets its contract. Assumes nothing.
use Prim.Native.Nat.{◌≤◌}
use mathlib.Core.Path.{sym}
use mathlib.Core.List.{[], ◌∷◌}
use native.Mathlib.Omega.{arith}
use lib.ListN.{length}
use Rattle.numbers.specs.Spelling.{padded}
use Rattle.numbers.proofs.Spelled.{length-padded}
use Rattle.numerals.proofs.Wrote.{wrote_none, wrote_as, wrote_then, wrote-room, room_as, room-first}
use Rattle.numbers.proofs.Rendered.{fraction-none, fraction-some}
use Rattle.numerals.proofs.put_fraction.Goals as goal

pub returns-then-places-eq0 : goal.returns-then-places-eq0
returns-then-places-eq0 c = wrote_as (sym (fraction-none _ _ c.if-places-eq0.true)) (wrote_none _ _)

pub put_byte-digits-requires : goal.put_byte-digits-requires
put_byte-digits-requires c =
    room-first _ _ (46 ∷ []) (padded c.args.places c.args.fraction) (room_as _ _ (fraction-some _ _ c.if-places-eq0.false) c.requires)

pub put_digits-requires : goal.put_digits-requires
put_digits-requires c =
    let ds = padded c.args.places c.args.fraction in
    omega (arith, length-padded c.args.places c.args.fraction, wrote-room ds (room_as _ _ (fraction-some _ _ c.if-places-eq0.false) c.requires) c.put_byte-digits.ensures)

pub returns : goal.returns
returns c =
    let within : c.args.at ≤ length c.args.out.now = omega arith in
    wrote_as (sym (fraction-some _ _ c.if-places-eq0.false)) (wrote_then within c.put_byte-digits.ensures c.put_digits.ensures)
