-- How the order is decided: by sizes. A number's fraction is filled up to 18 digits, so that its unit is its exponent's. proofs/Laws.antt has that the order of sizes is
-- that of the exact decimals. Assumes nothing.
use Rattle.std.specs.Prelude.{◌+◌, ◌-◌, ◌*◌, ◌^◌}
use Rattle.entries.specs.declared.Parts.{Parts}
use Rattle.orders.specs.declared.Size.{Size}
use Rattle.amounts.specs.Exact.{raised}

unfoldable pub size_of : Parts → Size
size_of p = record { high = p.integer; low = p.fraction * 10 ^ (18 - p.places); unit = raised p.exponent }

unfoldable pub doubt_of : Parts → Size
doubt_of p = record { high = 0; low = p.uncertainty; unit = raised p.exponent + (18 - p.places) }
