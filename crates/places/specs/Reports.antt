-- Answers in document 01's numbers ('Refusal numbers'): number, place, detail, and the two lengths. Assumes nothing.
use Rattle.std.specs.Prelude.{ℕ}
use Rattle.places.specs.declared.Place.{Place}
use Rattle.places.specs.declared.Report.{Report}

-- done, with the lengths written
unfoldable pub success : ℕ → ℕ → Report
success m k = record { number = 0; offset = 0; line = 0; column = 0; detail = 0; first = m; second = k }

-- a refusal that has a place
unfoldable pub refused_at : ℕ → Place → ℕ → Report
refused_at n p d =
    record {
      number = n;
      offset = p.offset;
      line = p.line;
      column = p.column;
      detail = d;
      first = 0;
      second = 0;
    }

-- a refusal without a place
unfoldable pub refused_bare : ℕ → Report
refused_bare n = record { number = n; offset = 0; line = 0; column = 0; detail = 0; first = 0; second = 0 }

-- no room: the lengths needed
unfoldable pub no_room : ℕ → ℕ → ℕ → Report
no_room n m k = record { number = n; offset = 0; line = 0; column = 0; detail = 0; first = m; second = k }

-- a number and those of two records, where a place stands else
unfoldable pub of_records : ℕ → ℕ → ℕ → Report
of_records n i j = record { number = n; offset = i; line = j; column = 0; detail = 0; first = 0; second = 0 }
