-- The names and the values of a loop, one at a time: what the code's two loops do in a turn, and where they end. Assumes nothing.
use Prim.Native.Nat.{ℕ, suc, ◌+◌, ◌-◌, ◌≤◌, ◌<◌}
use mathlib.Core.Path.{◌≡◌, refl, sym, ap, ◌∙◌}
use mathlib.Core.Bool.{Bool, true, false, cond, ◌&&◌, true≢false}
use mathlib.Core.List.{List, [], ◌∷◌}
use mathlib.Core.Logic.{⊎_elim}
use native.Mathlib.Nat.{add-zero, zero-add}
use native.Mathlib.Decide.{dec_lt}
use native.Mathlib.Omega.{arith}
use lib.Dec.{eqb, eqb-suc-zero}
use lib.ListN.{length, drop}
use Rattle.columns.specs.Before.{byte_before, is_parted}
use Rattle.rules.specs.declared.Reading.{Reading}
use Rattle.gaps.specs.Gaps.{gap, gap_end}
use Rattle.gaps.proofs.Gaps.{gap_from, gap_within, gap-none}
use Rattle.words.specs.Words.{word, end_of_word}
use Rattle.words.specs.Names.{fits_tag}
use Rattle.words.proofs.Words.{word_end, word_size}
use Rattle.values.specs.Values.{Class, block, loop, save, tag, value, over_limit, nothing, lexed}
use Rattle.found.specs.declared.Why.{Why}
use Rattle.sizes.specs.declared.Sizes.{Sizes}
use Rattle.items.specs.declared.Names.{Names}
use Rattle.items.specs.declared.Values.{Values}
use Rattle.found.specs.declared.Found.{Found}
use Rattle.found.specs.declared.Found.TheVariants.{Value, Over, Missing}
use Rattle.grammar.specs.Tokens.{in_block, lex_in, after, Tok, tok, tokens_at, heading_at, head_why, tag_first, tag_at}
use Rattle.grammar.specs.Machine.{Rec, rec, last_at}
use Rattle.sizes.specs.Sizes.{sizes_of, no_sizes, added, joined, Upto}
use Rattle.grammar.specs.Descent.{name_recs, value_recs, after_values, is_over, is_tag}
use Rattle.values.specs.Answers.{why_not, wanted}
use Rattle.values.proofs.Laws.{wanted-why}
use Rattle.std.specs.Prelude.{Result, Ok, Err}
use Rattle.grammar.specs.declared.Fault.{Fault}
use Rattle.grammar.specs.declared.Cause.TheVariants.{OverLimit}
use Rattle.grammar.specs.Causes.{fault}
use Rattle.items.specs.Answers.{names_of, names_at, head_over, counted, values_of, values_at}
use Rattle.values.specs.Finding.{found_at}
use Rattle.found.specs.Packing.{is_over_found, why_found}
use Rattle.grammar.proofs.Descent.{IsName, NoName, name-or-not, NoValue, value-or-not, names_more, names-none, values-more, values-none}
use Rattle.grammar.proofs.Fits.{is_value, lex_in-pos}
use Rattle.grammar.proofs.Lexes.{lex-tag, no-tag}
use Rattle.grammar.proofs.Offsets.{tokens-gap, lex-in, Met, met, met-tag, first-in}
use Rattle.openings.specs.Openings.{name_end}
use Rattle.openings.proofs.Openings.{named, unnamed}
use Rattle.sizes.proofs.Room.{sizes-cons, added-joined, sizes-none, none-joined, joined-none, upto-none, upto-added}
use Rattle.items.proofs.Wanted.{found-wanted}

-- names counted so far, the last of which stands at l, and those from here on
unfoldable pub add_names : ℕ → Sizes → ℕ → Names → Names
add_names n z l a = record { count = n + a.count; next = a.next; sizes = joined z a.sizes; last = cond (eqb a.count 0) l a.last }

-- the same of values; what is wrong with those from here on is wrong with all
unfoldable pub add_values : ℕ → Sizes → Result Values Fault → Result Values Fault
add_values n z (Ok a) = Ok (record { count = n + a.count; next = a.next; sizes = joined z a.sizes; why = a.why })
add_values n z (Err e) = Err e

pub names-gap : (r : Reading) (s : List ℕ) (o : ℕ) → names_at r s (gap_end s o) ≡ names_at r s o
unfolding names_at
names-gap r s o = ap (names_of r) (tokens-gap r in_block s o)

-- the last of some records behind one more
last_more : (x : Rec) (rs : List Rec) → last_at (x ∷ rs) ≡ cond (eqb (length rs) 0) x.at (last_at rs)
unfolding last_at
last_more x [] = refl
last_more x (y ∷ rs) = rw (eqb-suc-zero (length rs))

-- a name more
names-cons : (r : Reading) (n : ℕ) (z : Sizes) (l : ℕ) (t : Tok) (ts : List Tok) → IsName r t → add_names n z l (names_of r (t ∷ ts)) ≡ add_names (n + 1) (added z 6 t.size) t.at (names_of r ts)
unfolding add_names names_of rec
names-cons r n z l t ts e =
    let m = names_more r t ts e in
    let c : n + suc (length (name_recs r ts)) ≡ n + 1 + length (name_recs r ts) = omega arith in
    rw (m.0, m.1, c, eqb-suc-zero (length (name_recs r ts)), last_more (rec 6 t) (name_recs r ts), sizes-cons (rec 6 t) (name_recs r ts), added-joined z (sizes_of (name_recs r ts)) 6 t.size)

-- a value more
values-cons : (n : ℕ) (z : Sizes) (t : Tok) (ts : List Tok) (k : ℕ) → t.class ≡ value k → add_values n z (values_of (t ∷ ts)) ≡ add_values (n + 1) (added z k t.size) (values_of ts)
unfolding add_values values_of rec
values-cons n z t ts k e =
    let m = values-more t ts k e in
    rw (m.0, m.1) (by (head_over (after_values ts)))
  where
    by : (b : Bool)
        → add_values n z (cond b (Err (fault OverLimit (heading_at (after_values ts)))) (Ok (counted (rec k t ∷ value_recs ts) (after_values ts))))
        ≡ add_values (n + 1) (added z k t.size) (cond b (Err (fault OverLimit (heading_at (after_values ts)))) (Ok (counted (value_recs ts) (after_values ts))))
    by true = refl
    by false =
        let c : n + suc (length (value_recs ts)) ≡ n + 1 + length (value_recs ts) = omega arith in
        rw (c, sizes-cons (rec k t) (value_recs ts), added-joined z (sizes_of (value_recs ts)) k t.size)

-- no name
unfoldable pub no_names : ℕ → Names
no_names o = record { count = 0; next = o; sizes = no_sizes; last = 0 }

names-nil : (r : Reading) (t : Tok) (ts : List Tok) → NoName r t → names_of r (t ∷ ts) ≡ no_names t.at
unfolding names_of heading_at no_names last_at
names-nil r t ts e = rw ((names-none r t ts e).0, (names-none r t ts e).1, sizes-none)

-- where no value stands after n of them
abbrev pub ended : ℕ → Sizes → ℕ → Bool → Why → Result Values Fault
ended n z o over w = cond over (Err (fault OverLimit o)) (Ok (record { count = n; next = o; sizes = z; why = w }))

values-nil : (t : Tok) (ts : List Tok) → NoValue t.class → values_of (t ∷ ts) ≡ ended 0 no_sizes t.at (is_over t.class) (why_not t.class)
unfolding values_of heading_at head_over head_why
values-nil t ts e = rw ((values-none t ts e).0, (values-none t ts e).1, sizes-none)

-- the name at an offset, its end, and the names behind it
pub record NameStep (r : Reading) (s : List ℕ) (o : ℕ) : Type 0 where
  pub onward : o < end_of_word s o
  pub within : end_of_word s o ≤ length s
  pub turn : (n : ℕ) (z : Sizes) (l : ℕ) → add_names n z l (names_at r s o) ≡ add_names (n + 1) (added z 6 (end_of_word s o - o)) o (names_at r s (gap_end s (end_of_word s o)))

names-turn : (r : Reading) (s : List ℕ) (o w n : ℕ) (z : Sizes) (l : ℕ) → Met r in_block s o (lexed tag w) → fits_tag r w ≡ true → add_names n z l (names_at r s o) ≡ add_names (n + 1) (added z 6 w) o (names_at r s (gap_end s (o + w)))
unfolding names_at lexed after tok
names-turn r s o w n z l m f = rw (tokens-gap r in_block s (o + w), m.next) (names-cons r n z l (tok (lexed tag w) o) (tokens_at r in_block s (o + w)) (record { is-tag = refl; fits = f }))

-- a tag with its end
pub record TagEnd (s : List ℕ) (o : ℕ) : Type 0 where
  pub onward : o < end_of_word s o
  pub within : end_of_word s o ≤ length s

pub tag-end : (r : Reading) (s : List ℕ) (o : ℕ) → gap (drop o s) ≡ 0 → tag_at r s o ≡ true → TagEnd s o
unfolding lexed
tag-end r s o g e =
    let m = met-tag s o g r e in
    record { onward = rw (word_end s o) (omega (arith, m.some_bytes)); within = rw (word_end s o) m.within }

pub name-step : (r : Reading) (s : List ℕ) (o : ℕ) → gap (drop o s) ≡ 0 → o < name_end r s o → NameStep r s o
unfolding lexed
name-step r s o g h =
    let n = named r s o h in
    let m = met-tag s o g r n.tagged in
    let d : o + word (drop o s) - o ≡ word (drop o s) = omega arith in
    let f : fits_tag r (word (drop o s)) ≡ true = rw (← word_size s o) n.fits in
    let t = tag-end r s o g n.tagged in
    record {
      onward = t.onward;
      within = t.within;
      turn = λ n z l. rw (word_end s o, d) (names-turn r s o (word (drop o s)) n z l m f);
    }

-- a name ends within the text
pub name-within : (r : Reading) (s : List ℕ) (o end : ℕ) → gap (drop o s) ≡ 0 → o ≤ length s → end ≡ name_end r s o → end ≤ length s
name-within r s o end g h e = by (dec_lt o (name_end r s o))
  where
    by : Dec (o < name_end r s o) → end ≤ length s
    by (yes l) = rw (e, (named r s o l).ends) (name-step r s o g l).within
    by (no l) = omega arith

-- where no tag may stand the names end
pub no_name : (r : Reading) (s : List ℕ) (o : ℕ) → name_end r s o ≤ o → NoName r (tok (lex_in r (byte_before s o) in_block (drop o s)) o)
unfolding tok tag_at is_tag lexed
no_name r s o h = ⊎_elim (λ e. by e (is_parted r (byte_before s o) && tag_first (drop o s)) refl) (λ e. e) (name-or-not r _)
  where
    by : IsName r (tok (lex_in r (byte_before s o) in_block (drop o s)) o) → (t : Bool) → (is_parted r (byte_before s o) && tag_first (drop o s)) ≡ t → NoName r (tok (lex_in r (byte_before s o) in_block (drop o s)) o)
    by e false f =
        let y : is_tag (lex_in r (byte_before s o) in_block (drop o s)).class ≡ true = rw e.is-tag in
        absurd (true≢false (sym y ∙ no-tag r (byte_before s o) in_block (drop o s) f))
    by e true f =
        let x = lex-tag (byte_before s o) in_block r (drop o s) f in
        let z : (lex_in r (byte_before s o) in_block (drop o s)).size ≡ end_of_word s o - o = rw x (sym (word_size s o)) in
        absurd (true≢false (sym e.fits ∙ rw z (unnamed r s o h f)))

pub name-stop : (r : Reading) (s : List ℕ) (o : ℕ) → gap (drop o s) ≡ 0 → name_end r s o ≤ o → names_at r s o ≡ no_names o
unfolding names_at tok
name-stop r s o g h =
    let f = first-in s o g r in
    rw f.1 (names-nil r (tok (lex_in r (byte_before s o) in_block (drop o s)) o) f.0 (no_name r s o h))

-- a value is met
pub record ValueStep (r : Reading) (s : List ℕ) (o k w : ℕ) : Type 0 where
  pub some_bytes : 0 < w
  pub within : o + w ≤ length s
  pub turn : (n : ℕ) (z : Sizes) → add_values n z (values_at r s o) ≡ add_values (n + 1) (added z k w) (values_at r s (gap_end s (o + w)))

is-value : (c : Class) (n k w : ℕ) → wanted c n ≡ Value k w → (c ≡ value k) × (n ≡ w)
unfolding wanted
is-value (value j) n k w e = (cc, cc)
is-value over_limit n k w e = (cc, cc)
is-value block n k w e = (cc, cc)
is-value loop n k w e = (cc, cc)
is-value save n k w e = (cc, cc)
is-value tag n k w e = (cc, cc)
is-value (nothing v) n k w e = (cc, cc)

pub met-value : (r : Reading) (s : List ℕ) (o k w : ℕ) → gap (drop o s) ≡ 0 → found_at r s o ≡ Value k w → Met r in_block s o (lexed (value k) w)
unfolding lexed is_value
met-value r s o k w g e =
    let a = is-value (lex_in r (byte_before s o) in_block (drop o s)).class (lex_in r (byte_before s o) in_block (drop o s)).size k w (sym (found-wanted r in_block s o) ∙ e) in
    let p : 0 < (lex_in r (byte_before s o) in_block (drop o s)).size = lex_in-pos r _ in_block (drop o s) (rw a.0) in
    let x : lex_in r (byte_before s o) in_block (drop o s) ≡ lexed (value k) w = λ i. record { class = a.0 i; size = a.1 i } in
    met r in_block s o (lexed (value k) w) g ((lex-in r (byte_before s o) (drop o s)).0 ∙ x) (omega (arith, a.1))

values-turn : (r : Reading) (s : List ℕ) (o k w n : ℕ) (z : Sizes) → Met r in_block s o (lexed (value k) w) → add_values n z (values_at r s o) ≡ add_values (n + 1) (added z k w) (values_at r s (gap_end s (o + w)))
unfolding values_at lexed after tok
values-turn r s o k w n z m = rw (tokens-gap r in_block s (o + w), m.next) (values-cons n z (tok (lexed (value k) w) o) (tokens_at r in_block s (o + w)) k refl)

pub value-step : (r : Reading) (s : List ℕ) (o k w : ℕ) → gap (drop o s) ≡ 0 → found_at r s o ≡ Value k w → ValueStep r s o k w
unfolding lexed
value-step r s o k w g e =
    let m = met-value r s o k w g e in
    record { some_bytes = m.some_bytes; within = m.within; turn = λ n z. values-turn r s o k w n z m }

-- what is found where no value stands
pub wanted-over : (c : Class) (n : ℕ) → is_over c ≡ is_over_found (wanted c n)
unfolding is_over wanted
wanted-over (value j) n = refl
wanted-over over_limit n = refl
wanted-over block n = refl
wanted-over loop n = refl
wanted-over save n = refl
wanted-over tag n = refl
wanted-over (nothing v) n = refl

pub no_value : (c : Class) (n : ℕ) → ((k w : ℕ) → wanted c n ≡ Value k w → ⊥) → NoValue c
unfolding wanted
no_value c n h = ⊎_elim (λ e. absurd (h e.0 n (rw e.1))) (λ e. e) (value-or-not c)

pub value-stop : (r : Reading) (s : List ℕ) (o : ℕ) → gap (drop o s) ≡ 0 → ((k w : ℕ) → found_at r s o ≡ Value k w → ⊥)
    → values_at r s o ≡ ended 0 no_sizes o (is_over_found (found_at r s o)) (why_found (found_at r s o))
unfolding values_at tok
value-stop r s o g h =
    let f = first-in s o g r in
    let x = lex_in r (byte_before s o) in_block (drop o s) in
    let q : found_at r s o ≡ wanted x.class x.size = found-wanted r in_block s o in
    rw (f.1, q, ← wanted-over x.class x.size, ← wanted-why x.class x.size)
    (values-nil (tok x o) f.0 (no_value x.class x.size (λ k w e. h k w (q ∙ e))))

-- WHAT THE LOOP OVER NAMES KEEPS: those counted, and those from here on, are those from the start on
pub record NamesSoFar (r : Reading) (s : List ℕ) (from at count : ℕ) (sizes : Sizes) (last : ℕ) : Type 0 where
  pub within : at ≤ length s
  pub bare : gap (drop at s) ≡ 0
  pub few : count ≤ at
  pub fits : Upto at sizes
  pub names : names_at r s from ≡ add_names count sizes last (names_at r s at)

none-names : (r : Reading) (ts : List Tok) → names_of r ts ≡ add_names 0 no_sizes 0 (names_of r ts)
unfolding add_names names_of
none-names r ts = rw (zero-add, none-joined, last_none (name_recs r ts))
  where
    last_none : (rs : List Rec) → cond (eqb (length rs) 0) 0 (last_at rs) ≡ last_at rs
    last_none [] = unfold last_at in refl
    last_none (x ∷ rs) = rw (eqb-suc-zero (length rs))

all-names : (n p : ℕ) (z : Sizes) (l : ℕ) → add_names n z l (no_names p) ≡ record { count = n; next = p; sizes = z; last = l }
unfolding add_names no_names
all-names n p z l = rw (add-zero, joined-none)

pub names-start : (r : Reading) (s : List ℕ) (from : ℕ) → from ≤ length s → NamesSoFar r s from (gap_end s from) 0 no_sizes 0
names-start r s from h =
    record {
      within = gap_within s from h;
      bare = gap-none s from;
      few = omega arith;
      fits = upto-none (gap_end s from);
      names = unfold names_at in none-names r (tokens_at r in_block s from) ∙ ap (add_names 0 no_sizes 0) (sym (names-gap r s from));
    }

pub names-next : (r : Reading) (s : List ℕ) (from at count end next : ℕ) (sizes more : Sizes) (last : ℕ) → NamesSoFar r s from at count sizes last → at < end
    → end ≡ name_end r s at → next ≡ gap_end s end → more ≡ added sizes 6 (end - at) → (at < next) × NamesSoFar r s from next (count + 1) more at
names-next r s from at count end next sizes more last h e a b d =
    let n = name-step r s at h.bare (rw (← a) e) in
    let a' : end ≡ end_of_word s at = a ∙ (named r s at (rw (← a) e)).ends in
    let l : end ≤ next = rw b (gap_from s end) in
    let w : end ≤ length s = rw a' n.within in (
      omega arith,
      record {
        within = rw b (gap_within s end w);
        bare = rw b (gap-none s end);
        few = omega (arith, h.few);
        fits = rw d (upto-added at 6 (end - at) next sizes h.fits (omega arith) (omega arith));
        names = h.names ∙ n.turn count sizes last ∙ rw (d, b, a');
      },
    )

pub names-all : (r : Reading) (s : List ℕ) (from at count : ℕ) (sizes : Sizes) (last end : ℕ) → NamesSoFar r s from at count sizes last → end ≡ name_end r s at → end ≤ at → record { count = count; next = at; sizes = sizes; last = last } ≡ names_at r s from
names-all r s from at count sizes last end h e l = sym (h.names ∙ ap (add_names count sizes last) (name-stop r s at h.bare (rw (← e) l)) ∙ all-names count at sizes last)

-- WHAT THE LOOP OVER VALUES KEEPS
pub record ValuesSoFar (r : Reading) (s : List ℕ) (from at count : ℕ) (sizes : Sizes) : Type 0 where
  pub within : at ≤ length s
  pub bare : gap (drop at s) ≡ 0
  pub few : count ≤ at
  pub fits : Upto at sizes
  pub values : values_at r s from ≡ add_values count sizes (values_at r s at)

none-values : (a : Result Values Fault) → a ≡ add_values 0 no_sizes a
unfolding add_values
none-values (Ok a) = rw (zero-add, none-joined)
none-values (Err e) = refl

all-values : (n p : ℕ) (z : Sizes) (b : Bool) (w : Why) → add_values n z (ended 0 no_sizes p b w) ≡ ended n z p b w
unfolding add_values
all-values n p z true w = refl
all-values n p z false w = rw (add-zero, joined-none)

pub values-start : (r : Reading) (s : List ℕ) (from : ℕ) → from ≤ length s → gap (drop from s) ≡ 0 → ValuesSoFar r s from from 0 no_sizes
values-start r s from h g = record { within = h; bare = g; few = omega arith; fits = upto-none from; values = none-values (values_at r s from) }

pub values-next : (r : Reading) (s : List ℕ) (from at count kind size next : ℕ) (sizes more : Sizes) → ValuesSoFar r s from at count sizes → found_at r s at ≡ Value kind size
    → next ≡ gap_end s (at + size) → more ≡ added sizes kind size → (at < next) × ValuesSoFar r s from next (count + 1) more
values-next r s from at count kind size next sizes more h e b d =
    let v = value-step r s at kind size h.bare e in
    let l : at + size ≤ next = rw b (gap_from s (at + size)) in (
      omega (arith, v.some_bytes),
      record {
        within = rw b (gap_within s (at + size) v.within);
        bare = rw b (gap-none s (at + size));
        few = omega (arith, h.few, v.some_bytes);
        fits = rw d (upto-added at kind size next sizes h.fits (omega (arith, v.some_bytes)) (omega arith));
        values = h.values ∙ v.turn count sizes ∙ rw (d, b);
      },
    )

pub values-all : (r : Reading) (s : List ℕ) (from at count : ℕ) (sizes : Sizes) (f : Found) → ValuesSoFar r s from at count sizes → f ≡ found_at r s at → ((k w : ℕ) → f ≡ Value k w → ⊥)
    → ended count sizes at (is_over_found f) (why_found f) ≡ values_at r s from
values-all r s from at count sizes f h e n =
    sym (h.values ∙ ap (add_values count sizes) (value-stop r s at h.bare (λ k w q. n k w (e ∙ q))) ∙ all-values count at sizes (is_over_found (found_at r s at)) (why_found (found_at r s at)) ∙ rw e)

-- by what is found there
module _ (r : Reading) (s : List ℕ) (from at count : ℕ) (sizes : Sizes) (h : ValuesSoFar r s from at count sizes) where
  pub values-over : Over ≡ found_at r s at → Err (fault OverLimit at) ≡ values_at r s from
  values-over e = values-all r s from at count sizes Over h e (λ k w q. let z : ◌≡◌ {A = ℕ} 0 1 = cc in omega arith)

  pub values-missing : (w : Why) → Missing w ≡ found_at r s at → Ok (record { count = count; next = at; sizes = sizes; why = w }) ≡ values_at r s from
  values-missing w e = values-all r s from at count sizes (Missing w) h e (λ k n q. let z : ◌≡◌ {A = ℕ} 0 1 = cc in omega arith)
