-- `numerals::put_number` meets its contract: each piece is written behind the one before. Assumes nothing.
use mathlib.Core.Path.{sym}
use mathlib.Core.List.{[], ◌++◌}
use native.Mathlib.Omega.{arith}
use Rattle.numbers.specs.Spelling.{plain, sign_bytes, frac_bytes, exp_bytes, unc_bytes}
use Rattle.numerals.proofs.Wrote.{wrote_as, wrote_then, wrote-room, room_as, room-first}
use Rattle.numbers.proofs.Rendered.{number-pieces}
use Rattle.numerals.proofs.put_number.Goals as goal

pub put_sign-integer-requires : goal.put_sign-integer-requires
put_sign-integer-requires c =
    let d = c.args.d in
    let i = plain d.integer in
    let f = frac_bytes d.places d.fraction [] in
    let e = exp_bytes d.lowers d.exponent [] in
    let u = unc_bytes d.uncertain d.uncertainty in
    let whole = room_as _ _ (number-pieces d) c.requires.1 in
    room-first _ _ (sign_bytes d.minus) (i ++ (f ++ (e ++ u))) whole

pub put_plain-fraction-requires : goal.put_plain-fraction-requires
put_plain-fraction-requires c =
    let d = c.args.d in
    let i = plain d.integer in
    let f = frac_bytes d.places d.fraction [] in
    let e = exp_bytes d.lowers d.exponent [] in
    let u = unc_bytes d.uncertain d.uncertainty in
    let whole = room_as _ _ (number-pieces d) c.requires.1 in
    let one = wrote-room (i ++ (f ++ (e ++ u))) whole c.put_sign-integer.ensures in
    (c.requires.0.integer, room-first _ _ i (f ++ (e ++ u)) one)

pub put_fraction-exponent-requires : goal.put_fraction-exponent-requires
put_fraction-exponent-requires c =
    let d = c.args.d in
    let i = plain d.integer in
    let f = frac_bytes d.places d.fraction [] in
    let e = exp_bytes d.lowers d.exponent [] in
    let u = unc_bytes d.uncertain d.uncertainty in
    let whole = room_as _ _ (number-pieces d) c.requires.1 in
    let one = wrote-room (i ++ (f ++ (e ++ u))) whole c.put_sign-integer.ensures in
    let two = wrote-room (f ++ (e ++ u)) one c.put_plain-fraction.ensures in
    room-first _ _ f (e ++ u) two

pub put_exponent-uncertainty-requires : goal.put_exponent-uncertainty-requires
put_exponent-uncertainty-requires c =
    let d = c.args.d in
    let i = plain d.integer in
    let f = frac_bytes d.places d.fraction [] in
    let e = exp_bytes d.lowers d.exponent [] in
    let u = unc_bytes d.uncertain d.uncertainty in
    let whole = room_as _ _ (number-pieces d) c.requires.1 in
    let one = wrote-room (i ++ (f ++ (e ++ u))) whole c.put_sign-integer.ensures in
    let two = wrote-room (f ++ (e ++ u)) one c.put_plain-fraction.ensures in
    let three = wrote-room (e ++ u) two c.put_fraction-exponent.ensures in
    (c.requires.0.exponent, room-first _ _ e u three)

pub put_uncertainty-requires : goal.put_uncertainty-requires
put_uncertainty-requires c =
    let d = c.args.d in
    let i = plain d.integer in
    let f = frac_bytes d.places d.fraction [] in
    let e = exp_bytes d.lowers d.exponent [] in
    let u = unc_bytes d.uncertain d.uncertainty in
    let whole = room_as _ _ (number-pieces d) c.requires.1 in
    let one = wrote-room (i ++ (f ++ (e ++ u))) whole c.put_sign-integer.ensures in
    let two = wrote-room (f ++ (e ++ u)) one c.put_plain-fraction.ensures in
    let three = wrote-room (e ++ u) two c.put_fraction-exponent.ensures in
    (c.requires.0.uncertainty, wrote-room u three c.put_exponent-uncertainty.ensures)

pub returns : goal.returns
returns c =
    let d = c.args.d in
    let i = plain d.integer in
    let f = frac_bytes d.places d.fraction [] in
    let e = exp_bytes d.lowers d.exponent [] in
    let u = unc_bytes d.uncertain d.uncertainty in
    let whole = room_as _ _ (number-pieces d) c.requires.1 in
    let one = wrote-room (i ++ (f ++ (e ++ u))) whole c.put_sign-integer.ensures in
    let two = wrote-room (f ++ (e ++ u)) one c.put_plain-fraction.ensures in
    let three = wrote-room (e ++ u) two c.put_fraction-exponent.ensures in
    wrote_as (sym (number-pieces d))
    (wrote_then (omega arith) c.put_sign-integer.ensures
    (wrote_then (omega arith) c.put_plain-fraction.ensures
    (wrote_then (omega arith) c.put_fraction-exponent.ensures
    (wrote_then (omega arith) c.put_exponent-uncertainty.ensures c.put_uncertainty.ensures))))
