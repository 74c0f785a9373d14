-- OF THE TWO CLASSES OF EQUAL RECORDS (crates/alike) the one that asks nothing of bytes is the wider. Proved (plain-unquoted):
-- a plain text is of it too, since the first reading, which gives it the same records, knows no kind 21. Assumes nothing.
use Prim.Native.Nat.{ℕ, ◌≤◌}
use mathlib.Core.Bool.{true, false, and-false}
use mathlib.Core.Path.{◌≡◌, refl}
use mathlib.Core.List.{List}
use native.Mathlib.Omega.{arith}
use borrow.Author.Tests.{ne_eqb}
use lib.Dec.{eqb}
use Rattle.rules.specs.declared.Reading.TheVariants.{First}
use Rattle.text.specs.Parts.{part}
use Rattle.values.proofs.Laws.{found-lies}
use Rattle.grammar.specs.Machine.{Rec, loop_end}
use Rattle.written.proofs.Sources.{Each, none, also, each_map, Source, sources, value_found, value-reads}
use Rattle.written.proofs.Sources.{of-heading, of-opening, of-closing, of-tag, of-loop, of-name, of_end, of-value}
use Rattle.written.proofs.Taken.{outline-taken}
use Rattle.alike.specs.Plain.{no_mark, unquoted, Plain, Unquoted}
use Rattle.alike.proofs.Equal.{no-mark-part, no-mark-semicolon, equal-records}

-- no kind of the first reading is above 15
first-high : (s : List ℕ) (r : Rec) → Source First s r → r.kind ≤ 15
unfolding loop_end
first-high s r (of-heading m t w) = omega (arith, t.kind)
first-high s r (of-opening t w) = omega (arith, t.kind)
first-high s r (of-closing t) = omega (arith, t.kind)
first-high s r (of-tag f t w) = omega (arith, t.kind)
first-high s r (of-loop f t) = omega (arith, t.kind)
first-high s r (of-name f t w) = omega (arith, t.kind)
first-high s r (of_end e) = rw e (omega arith)
first-high s r (of-value f k t) =
    let v = value_found First s r.at k r.size (value-reads f k t) in
    omega (arith, t.kind, (found-lies First s r.at k r.size v).high)

no-quotes : (s : List ℕ) {rs : List Rec} → no_mark s ≡ true → Each (λ r. r.kind ≤ 15) rs → unquoted s rs ≡ true
unfolding unquoted
no-quotes s m none = refl
no-quotes s m (also {r = r} h g) =
    let q : eqb r.kind 21 ≡ false = ne_eqb r.kind 21 (λ e. omega arith) in
    let no-semicolon = no-mark-semicolon (part s r.at r.size) (no-mark-part s r.at r.size m) in
    rw (q, no-semicolon, and-false (eqb r.kind 10), no-quotes s m g)

pub plain-unquoted : (s : List ℕ) (rs : List Rec) → Plain s rs → Unquoted s rs
plain-unquoted s rs p =
    let taken = outline-taken First s rs (equal-records s rs p) in
    record {
      accepted = p.accepted;
      one_block = p.one_block;
      no-quote = no-quotes s p.no-mark (each_map (first-high s) (sources taken.read.taken));
      bare = p.bare;
    }
