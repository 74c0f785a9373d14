-- What C and Rust see: document 01's numbers of an answer, a part of an area, and one record of a store, each as numbers of 64
-- bits; and the answers to a call whose number names no reading. Assumes nothing.
use Rattle.std.specs.Prelude.{ℕ, ◌-◌, Bool, cond, eqb, leb, Option, Some, None, Result, Ok, Err}
use Rattle.places.specs.declared.Report.{Report}
use Rattle.entries.specs.declared.Fields.{Fields}
use Rattle.stores.specs.declared.Part.{Part as Found}
use Rattle.stores.specs.declared.ContentError.{ContentError}
use Rattle.stores.specs.declared.Walked.{Walked}
use Rattle.exports.specs.declared.Answer.{Answer}
use Rattle.exports.specs.declared.Part.{Part}
use Rattle.exports.specs.declared.Record.{Record}

-- an answer, number for number
unfoldable pub exported : Report → Answer
exported r =
    record { number = r.number; offset = r.offset; line = r.line; column = r.column; detail = r.detail; first = r.first; second = r.second }

-- 24 where a call's number names no reading, and all else 0
unfoldable pub no_reading : Answer
no_reading = record { number = 24; offset = 0; line = 0; column = 0; detail = 0; first = 0; second = 0 }

-- an empty part at 0
unfoldable pub no_part : Part
no_part = record { start = 0; length = 0 }

-- a content's part, the empty one on refusal
unfoldable pub exported_part : Result Found ContentError → Part
exported_part (Ok p) = record { start = p.from; length = p.size }
exported_part (Err e) = no_part

-- an exponent is stored in two's complement
unfoldable pub is_negative : ℕ → Bool
is_negative e = leb 2147483648 e

-- and its size without the sign
unfoldable pub magnitude : ℕ → ℕ
magnitude e = cond (is_negative e) (4294967296 - e) e

-- a record of kind k with these fields, its content so long from this offset of the area on, and where the next one starts
unfoldable pub exported_fields : ℕ → Fields → ℕ → ℕ → ℕ → Record
exported_fields k f from size next =
    record {
      number = 0;
      kind = k;
      offset = f.token.offset;
      length = f.token.length;
      line = f.token.line;
      column = f.token.column;
      start = from;
      content = size;
      tags = cond (eqb k 5) f.number 0;
      sign = f.parts.sign;
      integer = f.parts.integer;
      fraction = f.parts.fraction;
      digits = f.parts.places;
      lowers = cond (is_negative f.parts.exponent) 1 0;
      exponent = magnitude f.parts.exponent;
      uncertainty = f.parts.uncertainty;
      next = next;
    }

-- no record, for the reason of this number, and all else 0
unfoldable pub no_record : ℕ → Record
no_record n =
    record {
      number = n;
      kind = 0;
      offset = 0;
      length = 0;
      line = 0;
      column = 0;
      start = 0;
      content = 0;
      tags = 0;
      sign = 0;
      integer = 0;
      fraction = 0;
      digits = 0;
      lowers = 0;
      exponent = 0;
      uncertainty = 0;
      next = 0;
    }

-- what a walk met; 14 where no record stands
unfoldable pub exported_record : Option Walked → Record
exported_record None = no_record 14
exported_record (Some w) = exported_fields w.number w.fields w.from w.size w.next
