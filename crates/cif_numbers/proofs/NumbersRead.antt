-- NUMBERS AND CIF 1.1, in what Read writes (document 01). Proved of each record of a value in the store that Read writes: where its token is a numeric of CIF 1.1 within
-- the digit limits, it is a number, with or without uncertainty as the numeric has one, and the decimal parts that stand there are the numeric's meaning (cif-stored); and
-- each number that stands there is a numeric of CIF 1.1 in the strict reading (stored-numeric), and in the first one that, or has an exponent without digits, or a bracket without
-- digits (stored-cif). Assumes nothing.
use Prim.Native.Nat.{ℕ, zero, suc, ◌-◌, ◌%◌, ◌≤◌, ◌<◌}
use mathlib.Core.Bool.{true≢false, Bool, true, false, cond, ◌&&◌}
use mathlib.Core.Path.{◌≡◌, refl, sym, ap, ◌∙◌}
use mathlib.Core.List.{List}
use native.Mathlib.Omega.{arith}
use borrow.Author.Tests.{eqb-true, leb-true, le-leb, lt-leb}
use lib.Dec.{eqb, leb}
use lib.ListN.{length, drop}
use Rattle.rules.specs.declared.Reading.{Reading}
use Rattle.rules.specs.declared.Reading.TheVariants.{First, Strict}
use Rattle.columns.specs.Before.{byte_before}
use Rattle.text.proofs.Bools.{and_l, or_cases}
use Rattle.numbers.specs.declared.Decimal.{Decimal}
use Rattle.numbers.specs.declared.Number.TheVariants.{Is}
use Rattle.numbers.specs.Parts.{parts, counts_as}
use Rattle.cuts.specs.Digits.{value as value_of, value_from}
use Rattle.numbers.specs.Meaning.{meaning, judged, number_of as number_in}
use Rattle.numbers.specs.Cif.{CifNumeric, exact, uncertain, cif_meaning, cif_within}
use Rattle.numbers.proofs.Facts.{Bounded}
use Rattle.numbers.proofs.Cif.{cif-is-number, cif-means}
use Rattle.numbers.proofs.CifBack.{Out, Standard, number-is-cif, numeric-is-cif}
use Rattle.entries.specs.declared.Entry.{Entry}
use Rattle.entries.specs.declared.Fields.{Fields}
use Rattle.kinds.specs.declared.Kind.{Kind}
use Rattle.kinds.specs.declared.Kind.TheVariants.{Number, Uncertain}
use Rattle.kinds.specs.declared.Shape.{Shape}
use Rattle.kinds.specs.declared.Shape.TheVariants.{Empty, Place, Content, Count, Parts, PartsUncertain}
use Rattle.records.specs.Bytes.{flag}
use Rattle.kinds.specs.Kinds.{kind_of, number_of, shape_of, is_value_kind}
use Rattle.entries.specs.Entries.{stored, whole}
use Rattle.values.specs.Values.{value, lexed, lex_as_value}
use Rattle.grammar.specs.Machine.{Rec, loop_end}
use Rattle.walking.specs.Writing.{tags_of}
use Rattle.desk.specs.Written.{token_of, token_text, decimal_of as read_decimal}
use Rattle.entries.specs.Walk.{entries}
use Rattle.entries.proofs.Wholes.{one}
use Rattle.stores.specs.Content.{nth}
use Rattle.record_lines.specs.Lines.{decimal_of}
use Rattle.written.specs.Results.{store_bytes}
use Rattle.sound.specs.Claims.{IsRead}
use Rattle.cif_numbers.specs.Claims.{token_in, IsNumber, SaysNumeric}
use Rattle.cif_numbers.proofs.Numerics.{number-kind}
use Rattle.written.proofs.Lexing.{never}
use Rattle.written.proofs.Taken.{Outline, outline-taken}
use Rattle.written.proofs.Sources.{Each, none, also, sources, Source, of-heading, of-opening, of-closing, of-tag, of-loop, of-name, of_end, of-value, value-reads, facts}
use Rattle.written.proofs.Written.{fields_in, entry_of, written, Only, only-kind, bounded, written_back}
use Rattle.written.proofs.Reading.{reads}
use Rattle.written.proofs.Refusals.{Done, read_done}
use Rattle.std.specs.Prelude.{Option}

-- Stored parts stand for the number that they were stored of

flag-back : (b : Bool) → eqb (flag b) 1 ≡ b
unfolding flag
flag-back true = refl
flag-back false = refl

exponent-back : (b : Bool) (e : ℕ) → e < 1000000000 → (b ≡ true → 0 < e)
    → (leb 2147483648 (cond b (4294967296 - e) e % 4294967296) ≡ b) × (cond b (4294967296 - (cond b (4294967296 - e) e % 4294967296)) (cond b (4294967296 - e) e % 4294967296) ≡ e)
exponent-back true e h p =
    let z : (4294967296 - e) % 4294967296 ≡ 4294967296 - e = omega (arith, p refl) in
    rw z (le-leb 2147483648 (4294967296 - e) (omega arith), omega arith)
exponent-back false e h p =
    let z : e % 4294967296 ≡ e = omega arith in
    rw z (lt-leb 2147483648 e (omega arith), refl)

decimal-back : (b : Bool) (d : Decimal) (u : ℕ) → Bounded d → d.uncertain ≡ b → u ≡ d.uncertainty → decimal_of b (stored d u) ≡ d
unfolding decimal_of stored
decimal-back b d u h q z =
    let x = exponent-back d.lowers d.exponent h.exponent h.lowers in
    let m = flag-back d.minus in
    let e : cond (leb 2147483648 (cond d.lowers (4294967296 - d.exponent) d.exponent % 4294967296)) (4294967296 - (cond d.lowers (4294967296 - d.exponent) d.exponent % 4294967296)) (cond d.lowers (4294967296 - d.exponent) d.exponent % 4294967296) ≡ d.exponent = rw x.0 x.1 in
    λ i. record { minus = m i; integer = d.integer; fraction = d.fraction; places = d.places; lowers = x.0 i; exponent = e i; uncertain = sym q i; uncertainty = z i }

-- A value's record in the store, and the record of the text that it was written of

record At (g : Reading) (s : List ℕ) (k : Kind) (f : Fields) : Type 0 where
  r : Rec
  a : ℕ
  n : ℕ
  source : Source g s r
  kind : k ≡ kind_of r.kind
  fields : f ≡ fields_in (shape_of (kind_of r.kind)) s a n r

nth-written : (g : Reading) (s : List ℕ) {rs : List Rec} → Each (Source g s) rs → (a i : ℕ) (k : Kind) (f : Fields) (next : ℕ) → nth (written s a rs) i ≡ whole k f next → At g s k f
unfolding nth written entry_of
nth-written g s none a i k f next e = never (cc)
nth-written g s (also {r = r} {rs = rs} p h) a zero k f next e =
    let w = one _ k _ f _ next e in
    record { r = r; a = a; n = tags_of rs; source = p; kind = cc; fields = cc }
nth-written g s (also {r = r} {rs = rs} p h) a (suc i) k f next e = nth-written g s h _ i k f next e

-- every body but an empty one starts with P
token-same : (s : List ℕ) (a n : ℕ) (r : Rec) (x : Shape) → Only x r.kind → 8 ≤ r.kind → (fields_in x s a n r).token ≡ token_of s r
unfolding fields_in Only
token-same s a n r Empty o l = absurd (omega arith)
token-same s a n r Place o l = refl
token-same s a n r Content o l = refl
token-same s a n r Count o l = refl
token-same s a n r Parts o l = refl
token-same s a n r PartsUncertain o l = refl

source-reads : {g : Reading} {s : List ℕ} {r : Rec} → Source g s r → 8 ≤ r.kind → lex_as_value g (byte_before s r.at) (drop r.at s) ≡ lexed (value r.kind) r.size
source-reads (of-heading m t w) l = absurd (omega (arith, t.kind))
source-reads (of-opening t w) l = absurd (omega (arith, t.kind))
source-reads (of-closing t) l = absurd (omega (arith, t.kind))
source-reads (of-tag f t w) l = absurd (omega (arith, t.kind))
source-reads (of-loop f t) l = absurd (omega (arith, t.kind))
source-reads (of-name f t w) l = absurd (omega (arith, t.kind))
source-reads (of_end e) l = absurd (unfold loop_end in omega (arith, ap (λ (r : Rec). r.kind) e))
source-reads {r = r} (of-value f k t) l = value-reads f k t ∙ ap (λ (n : ℕ). lexed (value n) r.size) (sym t.kind)

record ValueAt (g : Reading) (s : List ℕ) (f : Fields) (r : Rec) : Type 0 where
  token : token_in s f ≡ token_text s r
  reads : lex_as_value g (byte_before s r.at) (drop r.at s) ≡ lexed (value r.kind) r.size

-- no value has a kind below 8
value_low : (k : ℕ) → is_value_kind k ≡ true → 8 ≤ k
unfolding is_value_kind
value_low k e =
    or_cases (leb 8 k && leb k 15) (eqb k 21) (λ q. leb-true 8 k (and_l (leb 8 k) (leb k 15) q))
    (λ q. let z : k ≡ 21 = eqb-true k 21 q in omega arith) e

value-at : (g : Reading) (s : List ℕ) (k : Kind) (f : Fields) (x : At g s k f) → is_value_kind (number_of k) ≡ true → ValueAt g s f x.r
unfolding token_in token_text token_of
value-at g s k f x e =
    let r = x.r in
    let h = facts x.source in
    let q : number_of k ≡ r.kind = ap number_of x.kind ∙ h.known in
    let l : 8 ≤ number_of k = value_low (number_of k) e in
    let z : f.token ≡ token_of s r = ap (λ (f : Fields). f.token) x.fields ∙ token-same s x.a x.n r (shape_of (kind_of r.kind)) (only-kind g s r h) (omega arith) in
    record { token = rw z; reads = source-reads x.source (omega arith) }

-- The decimal parts of a numeric

-- one without a bracket has no uncertainty
cif-certain : {sg i f esg e u w : List ℕ} {b : Bool} → CifNumeric sg i f esg e u b w → b ≡ false → value_of u ≡ 0
unfolding value_of value_from
cif-certain (exact n) q = refl
cif-certain (uncertain u n d) q = absurd (true≢false q)

-- the kind of a number, and the parts that it is stored with
kind-of : (b : Bool) → kind_of (cond b 15 14) ≡ cond b Uncertain Number
unfolding kind_of
kind-of true = refl
kind-of false = refl

parts-of : (s : List ℕ) (a n : ℕ) (r : Rec) (b : Bool) → r.kind ≡ cond b 15 14 → (fields_in (shape_of (kind_of r.kind)) s a n r).parts ≡ stored (read_decimal s r) (cond b (read_decimal s r).uncertainty 0)
unfolding kind_of shape_of fields_in
parts-of s a n r true q = ap (λ (k : ℕ). (fields_in (shape_of (kind_of k)) s a n r).parts) q
parts-of s a n r false q = ap (λ (k : ℕ). (fields_in (shape_of (kind_of k)) s a n r).parts) q

cif-at : (g : Reading) (s : List ℕ) (fits : length s ≤ 16777216) (k : Kind) (f : Fields) → At g s k f → {sg i fr esg e u : List ℕ} {b : Bool}
    → is_value_kind (number_of k) ≡ true → CifNumeric sg i fr esg e u b (token_in s f) → cif_within i fr e u ≡ true → (k ≡ cond b Uncertain Number) × (decimal_of b f.parts ≡ cif_meaning sg i fr esg e u b)
unfolding token_text read_decimal number_in judged meaning cif_meaning
cif-at g s fits k f x {sg} {i} {fr} {esg} {e} {u} {b} v c l =
    let y = value-at g s k f x v in
    let r = x.r in
    let d = read_decimal s r in
    let w : CifNumeric sg i fr esg e u b (token_text s r) = rw y.token at c in
    let number = number-kind g (byte_before s r.at) (drop r.at s) r.kind r.size y.reads ((cif-is-number w).counts g) in
    let n = (facts x.source).number number.0 number.1 in
    let is : number_in g (token_text s r) ≡ Is d = rw (n.number, n.kept) in
    let same : d ≡ cif_meaning sg i fr esg e u b = cc (is, cif-means g w l) in
    let bracket : d.uncertain ≡ b = ap (λ (x : Decimal). x.uncertain) same in
    let kind : r.kind ≡ cond b 15 14 = n.kind ∙ ap (λ (t : Bool). cond t 15 14) bracket in
    let size : cond b d.uncertainty 0 ≡ d.uncertainty = by b d.uncertainty (λ q. ap (λ (x : Decimal). x.uncertainty) same ∙ cif-certain w q) in
    (x.kind ∙ ap kind_of kind ∙ kind-of b, ap (λ (f : Fields). decimal_of b f.parts) x.fields ∙ ap (decimal_of b) (parts-of s x.a x.n r b kind) ∙ decimal-back b d (cond b d.uncertainty 0) (bounded g s fits r (facts x.source) number.0 number.1) bracket size ∙ same)
  where
    by : (b : Bool) (u : ℕ) → (b ≡ false → u ≡ 0) → cond b u 0 ≡ u
    by true u h = refl
    by false u h = sym (h refl)

-- The store that Read writes

module _ (g : Reading) (s store area : List ℕ) (done : IsRead g s store area) (i : ℕ) (k : Kind) (f : Fields) (next : ℕ) (here : nth (entries (store_bytes g s store area)) i ≡ whole k f next) where
  found : Done g s (length store) (length area)
  unfolding IsRead
  found = read_done g s (length store) (length area) (omega (arith, done))

  outlined : Outline g s found.records
  outlined = outline-taken g s found.records found.read

  at-record : At g s k f
  at-record =
      let r = reads g s store area found.records found.read found.store found.area in
      nth-written g s (sources outlined.read.taken) 0 i k f next (ap (λ (es : List (Option Entry)). nth es i) (sym (written_back g s found.records outlined)) ∙ ap (λ (st : List ℕ). nth (entries st) i) (sym r.stored) ∙ here)

  -- EACH NUMERIC OF CIF 1.1 WITHIN THE LIMITS IS STORED WITH ITS MEANING
  pub cif-stored : {sg int frac esg e u : List ℕ} {b : Bool} → is_value_kind (number_of k) ≡ true → CifNumeric sg int frac esg e u b (token_in s f) → cif_within int frac e u ≡ true
      → SaysNumeric k f sg int frac esg e u b
  cif-stored v c l =
      let x = cif-at g s outlined.fits k f at-record v c l in
      record { kind = x.0; decimal = x.1 }

  -- each number that is stored counts as one by the reading
  counted : IsNumber k → counts_as g (parts (token_in s f)) ≡ true
  unfolding token_text is_value_kind IsNumber
  counted l =
      let h = facts at-record.source in
      let q : number_of k ≡ at-record.r.kind = ap number_of at-record.kind ∙ h.known in
      let y = value-at g s k f at-record (rw (le-leb 8 (number_of k) (omega (arith, l.0)), le-leb (number_of k) 15 l.1)) in
      rw y.token (h.number (omega (arith, l.0)) (omega (arith, l.1))).number

-- EACH NUMBER THAT THE FIRST READING STORES is one of them, or has an exponent or a bracket without digits
pub stored-cif : (s store area : List ℕ) → IsRead First s store area → (i : ℕ) (k : Kind) (f : Fields) (next : ℕ) → nth (entries (store_bytes First s store area)) i ≡ whole k f next
    → IsNumber k → Out (Standard (token_in s f)) (parts (token_in s f)).exp (parts (token_in s f)).unc
stored-cif s store area done i k f next here l = number-is-cif (token_in s f) (counted First s store area done i k f next here l)

-- EACH NUMBER THAT THE STRICT READING STORES IS A NUMERIC OF CIF 1.1
pub stored-numeric : (s store area : List ℕ) → IsRead Strict s store area → (i : ℕ) (k : Kind) (f : Fields) (next : ℕ) → nth (entries (store_bytes Strict s store area)) i ≡ whole k f next
    → IsNumber k → Standard (token_in s f)
stored-numeric s store area done i k f next here l = numeric-is-cif (token_in s f) (counted Strict s store area done i k f next here l)
