-- Worked pairs of names (document 02, Two): letters are folded, and the bytes around A to Z, which a folding by one bit would take along, are not. Assumes nothing.
use Rattle.std.specs.Prelude.{Bool, not, ◌&&◌}
use Rattle.text.specs.Bytes.{bytes}
use Rattle.folding.specs.Folding.{same_name}

-- one name in two spellings
unfoldable pub alike : Bool
alike = same_name (bytes "Cell.length_a") (bytes "cell.length_a") && (same_name (bytes "AZ_1") (bytes "az_1") && same_name (bytes "") (bytes ""))

-- two names
unfoldable pub apart : Bool
apart =
    not (same_name (bytes "@") (bytes "`")) &&
    (not (same_name (bytes "[") (bytes "{")) &&
    (not (same_name (bytes "]") (bytes "}")) &&
    (not (same_name (bytes "^") (bytes "~")) && (not (same_name (bytes "0") (bytes "P")) && (not (same_name (bytes "a") (bytes "ab")) && not (same_name (bytes "ab") (bytes "aC")))))))
