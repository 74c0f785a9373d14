-- The item at an offset, by the code's tests: a loop from its names and values, a tag from what is found behind it, else none. Assumes nothing.
use Prim.Native.Nat.{ℕ, suc, ◌+◌, ◌-◌, ◌%◌, ◌≤◌, ◌<◌}
use mathlib.Core.Path.{◌≡◌, refl, sym, ap, ◌∙◌}
use mathlib.Core.Bool.{Bool, true, false, cond, ◌&&◌, true≢false}
use mathlib.Core.List.{List, [], ◌∷◌, ◌++◌}
use native.Mathlib.Omega.{arith}
use borrow.Author.Tests.{ne_eqb}
use lib.Dec.{eqb, eqb-suc-zero}
use lib.ListN.{length, drop}
use Rattle.columns.specs.Before.{byte_before, is_parted}
use Rattle.rules.specs.declared.Reading.{Reading}
use Rattle.rules.specs.declared.Reading.TheVariants.{First, Strict}
use Rattle.gaps.specs.Gaps.{gap, gap_end}
use Rattle.gaps.proofs.Gaps.{gap-none}
use Rattle.words.specs.Words.{word, end_of_word}
use Rattle.words.specs.Names.{fits_tag}
use Rattle.words.proofs.Words.{word_end, word_size}
use Rattle.values.specs.Values.{Class, block, loop, save, tag, value, over_limit, nothing, at_end, reserved_word, no_start, open_quote, open_field, joined as joined_to, lexed}
use Rattle.sizes.specs.declared.Sizes.{Sizes}
use Rattle.items.specs.declared.Names.{Names}
use Rattle.items.specs.declared.Values.{Values}
use Rattle.found.specs.declared.Found.{Found}
use Rattle.found.specs.declared.Found.TheVariants.{Value, Over, Missing}
use Rattle.items.specs.declared.Item.{Item as Answered}
use Rattle.items.specs.declared.Item.TheVariants.{Loop, Single, Absent}
use Rattle.std.specs.Prelude.{Result, Ok, Err}
use Rattle.found.specs.declared.Why.{Why}
use Rattle.found.specs.declared.Why.TheVariants.{AtEnd, Reserved, NoStart, OpenQuote, OpenField, Joined}
use Rattle.grammar.specs.declared.Fault.{Fault}
use Rattle.grammar.specs.declared.Cause.TheVariants.{Ragged, NoValue, NoNames, OverLimit, NotParted, BadName}
use Rattle.grammar.specs.Causes.{cause_of, fault}
use Rattle.grammar.specs.Tokens.{Mode, in_block, lex_in, after, Tok, tok, tokens_at, heading_at, head_why, tag_first, tag_at, loop_at}
use Rattle.grammar.specs.Machine.{Rec, rec, loop_end, reason, is_joined, lacks_values, last_at}
use Rattle.sizes.specs.Sizes.{sizes_of, no_sizes, added, joined, Upto}
use Rattle.grammar.specs.Descent.{name_recs, after_names, value_recs, after_values, Item, taken, broken, is_over, is_tag, head_tag, head_joined, failed_by, rows, loop_by, loop_valued, loop_item, single, tag_valued, tag_item, item_by, item}
use Rattle.items.specs.Answers.{names_of, names_at, head_over, counted, values_of, values_at, is_joined_why, failed_as, rows_of, item_answer, item_at}
use Rattle.values.specs.Answers.{why_of, why_not, wanted}
use Rattle.found.specs.Packing.{number_of_why, is_over_found, why_found}
use Rattle.values.specs.Finding.{found_at}
use Rattle.values.proofs.Laws.{wanted-why}
use Rattle.grammar.proofs.Descent.{Ends, names-ends, values-ends}
use Rattle.grammar.proofs.Lexes.{lex-other, lex-tag, no-tag, starts_item}
use Rattle.items.proofs.Lists.{met-value, value-step}
use Rattle.grammar.proofs.Offsets.{tokens-gap, tokens-ends, Met, met-loop, met-tag, first, first-in, both, both-spot}
use Rattle.items.proofs.Passes.{names-alike, values-alike}
use Rattle.sizes.proofs.Room.{sizes-cons, sizes-one, sizes-snoc, sizes-append, joined-assoc, added_none, upto-more}
use Rattle.items.proofs.Wanted.{found-wanted}

-- the first token stands behind space and comments
pub head_at : (r : Reading) (m : Mode) (s : List ℕ) (o : ℕ) → heading_at (tokens_at r m s o) ≡ gap_end s o
unfolding heading_at tok
head_at r m s o = rw (← tokens-gap r m s o, (first s (gap_end s o) (gap-none s o) r m).1)

-- where a loop's names end
pub record NamesEnd (r : Reading) (s : List ℕ) (o : ℕ) : Type 0 where
  pub onward : o ≤ (names_at r s o).next
  pub within : (names_at r s o).next ≤ length s
  pub bare : gap (drop (names_at r s o).next s) ≡ 0
  pub tokens : after_names r (tokens_at r in_block s o) ≡ tokens_at r in_block s (names_at r s o).next
  pub fits : Upto ((names_at r s o).next - o) (names_at r s o).sizes

pub names-end : (r : Reading) (s : List ℕ) (o : ℕ) → o ≤ length s → NamesEnd r s o
unfolding names_at names_of
names-end r s o h =
    let a = names-alike (both r s o h) in
    let p = both-spot a.rest in
    record {
      onward = omega (arith, a.onward, p.onward);
      within = p.within;
      bare = p.bare;
      tokens = p.in_block;
      fits = upto-more (a.to - o) _ _ a.fits (omega (arith, p.onward));
    }

-- where its values end
pub record ValuesEnd (s : List ℕ) (o : ℕ) (values : Values) : Type 0 where
  pub onward : o ≤ values.next
  pub within : values.next ≤ length s
  pub bare : gap (drop values.next s) ≡ 0
  pub fits : Upto (values.next - o) values.sizes

pub values-end : (r : Reading) (s : List ℕ) (o : ℕ) → o ≤ length s → (values : Values) → Ok values ≡ values_at r s o → ValuesEnd s o values
unfolding values_at values_of
values-end r s o h values e = by (head_over (after_values (tokens_at r in_block s o))) e
  where
    ts : List Tok
    ts = tokens_at r in_block s o

    by : (b : Bool) → Ok values ≡ cond b (Err (fault OverLimit (heading_at (after_values ts)))) (Ok (counted (value_recs ts) (after_values ts))) → ValuesEnd s o values
    by true q = let z : ◌≡◌ {A = ℕ} 0 1 = cc in absurd (omega arith)
    by false q =
        let c : values ≡ counted (value_recs ts) (after_values ts) = cc in
        let a = values-alike (both r s o h) in
        let p = both-spot a.rest in
        rw c (record {
          onward = omega (arith, a.onward, p.onward);
          within = p.within;
          bare = p.bare;
          fits = upto-more (a.to - o) _ _ a.fits (omega (arith, p.onward));
        })

-- where they are cut off by a number over a limit
pub over-end : (r : Reading) (s : List ℕ) (o : ℕ) → o ≤ length s → (e : Fault) → Err e ≡ values_at r s o → (o ≤ e.at) × (e.at ≤ length s) × (gap (drop e.at s) ≡ 0)
unfolding values_at values_of
over-end r s o h e x = by (head_over (after_values (tokens_at r in_block s o))) x
  where
    ts : List Tok
    ts = tokens_at r in_block s o

    by : (b : Bool) → Err e ≡ cond b (Err (fault OverLimit (heading_at (after_values ts)))) (Ok (counted (value_recs ts) (after_values ts))) → (o ≤ e.at) × (e.at ≤ length s) × (gap (drop e.at s) ≡ 0)
    by true q =
        let c : e ≡ fault OverLimit (heading_at (after_values ts)) = cc in
        let a = values-alike (both r s o h) in
        let p = both-spot a.rest in
        rw c (omega (arith, a.onward, p.onward), p.within, p.bare)
    by false q = let z : ◌≡◌ {A = ℕ} 0 1 = cc in absurd (omega arith)

-- the sizes of a loop's records
loop-size : (t : Tok) (ns vs : List Rec) → t.size ≡ 5 → sizes_of (rec 5 t ∷ (ns ++ (vs ++ (loop_end ∷ [])))) ≡ added (joined (joined (added no_sizes 5 5) (sizes_of ns)) (sizes_of vs)) 7 0
unfolding rec loop_end
loop-size t ns vs z =
    let a = added no_sizes 5 5 in
    let e = added no_sizes 7 0 in
    sizes-cons (rec 5 t) (ns ++ (vs ++ (loop_end ∷ [])))
    ∙ rw (z, sizes-append ns (vs ++ (loop_end ∷ [])), sizes-append vs (loop_end ∷ []), sizes-one loop_end)
    (sym (joined-assoc a (sizes_of ns) (joined (sizes_of vs) e)) ∙ sym (joined-assoc (joined a (sizes_of ns)) (sizes_of vs) e) ∙ added_none (joined (joined a (sizes_of ns)) (sizes_of vs)) 7 0)

-- an item that fails before u
joined-why : (c : Class) → is_joined_why (why_not c) ≡ is_joined c
unfolding is_joined why_not why_of
joined-why block = refl
joined-why loop = refl
joined-why save = refl
joined-why tag = refl
joined-why (value k) = refl
joined-why over_limit = refl
joined-why (nothing at_end) = refl
joined-why (nothing reserved_word) = refl
joined-why (nothing no_start) = refl
joined-why (nothing open_quote) = refl
joined-why (nothing open_field) = refl
joined-why (nothing joined_to) = refl

failed-answer : (r : Reading) (n o d : ℕ) (u : Tok) (us : List Tok) → item_answer (failed_by r n o d (u ∷ us)) ≡ failed_as r (fault (cause_of n d) o) u.at (why_not u.class)
unfolding item_answer heading_at head_joined
failed-answer First n o d u us = refl
failed-answer Strict n o d u us = rw (joined-why u.class) (by (is_joined u.class))
  where
    by : (c : Bool) → item_answer (cond c (broken 15 u.at 0) (broken n o d)) ≡ cond c (Err (fault NotParted u.at)) (Err (fault (cause_of n d) o))
    by true = refl
    by false = refl

-- an item that fails where something is parted from the token before
pub parted-failed : (e : Fault) (p : ℕ) (w : Why) → (w ≡ Joined → ⊥) → Err e ≡ failed_as Strict e p w
parted-failed e p AtEnd n = refl
parted-failed e p Reserved n = refl
parted-failed e p NoStart n = refl
parted-failed e p OpenQuote n = refl
parted-failed e p OpenField n = refl
parted-failed e p Joined n = absurd (n refl)

-- whole rows, or the remainder
rows-answer : (r : Reading) (t u : Tok) (us : List Tok) (ns vs : List Rec) (p : ℕ) → t.size ≡ 5
    → item_answer (rows r t ns vs (u ∷ us)) ≡ rows_of r t.at (record { count = length ns; next = p; sizes = sizes_of ns; last = last_at ns }) (record { count = length vs; next = u.at; sizes = sizes_of vs; why = why_not u.class })
unfolding rows rows_of item_answer heading_at head_why
rows-answer r t u us ns vs p z = lacks (lacks_values r (length vs)) _ _ (by (eqb (length vs % length ns) 0))
  where
    rem : ℕ
    rem = length vs % length ns

    by : (b : Bool) → item_answer (cond b (taken true (rec 5 t ∷ (ns ++ (vs ++ (loop_end ∷ [])))) (u ∷ us)) (failed_by r 5 t.at rem (u ∷ us))) ≡ cond b (Ok (Loop u.at (added (joined (joined (added no_sizes 5 5) (sizes_of ns)) (sizes_of vs)) 7 0) (why_not u.class))) (failed_as r (fault (Ragged rem) t.at) u.at (why_not u.class))
    by true = rw (loop-size t ns vs z)
    by false = failed-answer r 5 t.at rem u us

    lacks : (b : Bool) (x : Item) (y : Result Answered Fault) → item_answer x ≡ y → item_answer (cond b (broken 6 (last_at ns) (number_of_why (why_not u.class))) x) ≡ cond b (Err (fault (NoValue (number_of_why (why_not u.class))) (last_at ns))) y
    lacks true x y e = refl
    lacks false x y e = e

-- a loop by its names, whether a tag stands behind them, and its values
abbrev pub valued : Reading → ℕ → Names → Result Values Fault → Result Answered Fault
valued r o names (Ok values) = rows_of r o names values
valued r o names (Err e) = Err e

unfoldable pub loop_answer : Reading → ℕ → Names → Bool → Result Values Fault → Result Answered Fault
loop_answer r o names tagged values =
    cond tagged (Err (fault BadName names.next)) (cond (eqb names.count 0) (Err (fault NoNames o)) (valued r o names values))

values-answer : (r : Reading) (t : Tok) (ts us : List Tok) (n : Rec) (ns : List Rec) (p : ℕ) → t.size ≡ 5 → after_values ts ≡ us → Ends us
    → item_answer (loop_by r t (n ∷ ns) (value_recs ts) us) ≡ loop_answer r t.at (record { count = suc (length ns); next = p; sizes = sizes_of (n ∷ ns); last = last_at (n ∷ ns) }) false (values_of ts)
unfolding loop_by loop_answer values_of head_over heading_at head_why
values-answer r t ts (u ∷ us) n ns p z e h = rw (e, eqb-suc-zero (length ns)) (by (is_over u.class) refl)
  where
    values : Values
    values = record { count = length (value_recs ts); next = u.at; sizes = sizes_of (value_recs ts); why = why_not u.class }

    named : Names
    named = record { count = suc (length ns); next = p; sizes = sizes_of (n ∷ ns); last = last_at (n ∷ ns) }

    by : (b : Bool) → is_over u.class ≡ b → item_answer (cond b (broken 9 u.at 0) (rows r t (n ∷ ns) (value_recs ts) (u ∷ us))) ≡ valued r t.at named (cond b (Err (fault OverLimit u.at)) (Ok values))
    by true q = unfold item_answer in refl
    by false q = rows-answer r t u us (n ∷ ns) (value_recs ts) p z
values-answer r t ts [] n ns p z e h = elim h [ ]

valued-answer : (r : Reading) (t : Tok) (us : List Tok) (ns : List Rec) (p : ℕ) → t.size ≡ 5 → Ends us
    → item_answer (loop_valued r t ns us) ≡ loop_answer r t.at (record { count = length ns; next = p; sizes = sizes_of ns; last = last_at ns }) false (values_of us)
unfolding loop_valued
valued-answer r t us [] p z h = unfold item_answer loop_answer in refl
valued-answer r t us (n ∷ ns) p z h = values-answer r t us (after_values us) n ns p z refl (values-ends h)

names-answer : (r : Reading) (t : Tok) (us : List Tok) (ns : List Rec) → t.size ≡ 5 → Ends us
    → item_answer (loop_item r t ns us) ≡ loop_answer r t.at (record { count = length ns; next = heading_at us; sizes = sizes_of ns; last = last_at ns }) (head_tag us) (values_of us)
unfolding loop_item
names-answer r t us ns z h = by (head_tag us)
  where
    by : (b : Bool) → item_answer (cond b (broken 17 (heading_at us) 0) (loop_valued r t ns us)) ≡ loop_answer r t.at (record { count = length ns; next = heading_at us; sizes = sizes_of ns; last = last_at ns }) b (values_of us)
    by true = unfold item_answer loop_answer in refl
    by false = valued-answer r t us ns (heading_at us) z h

-- a tag stands where the test says so
head-tag : (r : Reading) (s : List ℕ) (o : ℕ) → gap (drop o s) ≡ 0 → head_tag (tokens_at r in_block s o) ≡ tag_at r s o
unfolding head_tag tok tag_at
head-tag r s o g = rw (first-in s o g r).1 (by (is_parted r (byte_before s o) && tag_first (drop o s)) refl)
  where
    by : (b : Bool) → (is_parted r (byte_before s o) && tag_first (drop o s)) ≡ b → is_tag (lex_in r (byte_before s o) in_block (drop o s)).class ≡ (is_parted r (byte_before s o) && tag_first (drop o s))
    by true e = rw (lex-tag (byte_before s o) in_block r (drop o s) e) (unfold lexed is_tag in sym e)
    by false e = no-tag r (byte_before s o) in_block (drop o s) e ∙ sym e

-- THE LOOP AT AN OFFSET
loop-item : (r : Reading) (s : List ℕ) (o : ℕ) → Met r in_block s o (lexed loop 5) → item_at r s o ≡ loop_answer r o (names_at r s (o + 5)) (head_tag (after_names r (tokens_at r in_block s (o + 5)))) (values_of (after_names r (tokens_at r in_block s (o + 5))))
unfolding item_at item item_by names_at names_of lexed tok after
loop-item r s o m =
    let ts = tokens_at r in_block s (o + 5) in
    rw m.next (names-answer r (tok (lexed loop 5) o) (after_names r ts) (name_recs r ts) refl (names-ends r (tokens-ends r in_block s (o + 5))))

pub item-loop : (r : Reading) (s : List ℕ) (o : ℕ) → gap (drop o s) ≡ 0 → loop_at r s o ≡ true → let p = (names_at r s (o + 5)).next in item_at r s o ≡ loop_answer r o (names_at r s (o + 5)) (tag_at r s p) (values_at r s p)
unfolding values_at lexed
item-loop r s o g e =
    let m = met-loop s o g r e in
    let n = names-end r s (o + 5) m.within in
    loop-item r s o m ∙ ap (λ (ts : List Tok). loop_answer r o (names_at r s (o + 5)) (head_tag ts) (values_of ts)) n.tokens ∙ rw (head-tag r s (names_at r s (o + 5)).next n.bare)

-- a tag by what is found behind it
unfoldable pub alone_answer : Reading → ℕ → ℕ → Found → Result Answered Fault
alone_answer r o p f = cond (is_over_found f) (Err (fault OverLimit p)) (failed_as r (fault (NoValue (number_of_why (why_found f))) o) p (why_found f))

single-answer : (r : Reading) (t u : Tok) (us : List Tok) (c : Class) (n : ℕ) → u.class ≡ c → ((k w : ℕ) → wanted c n ≡ Value k w → ⊥) → item_answer (single r t c u us) ≡ alone_answer r t.at u.at (wanted c n)
unfolding single reason alone_answer
single-answer r t u us c n q h = rw (← wanted-why c n) (by c q h)
  where
    fails : (c : Class) → u.class ≡ c → item_answer (failed_by r 6 t.at (number_of_why (why_not c)) (u ∷ us)) ≡ failed_as r (fault (NoValue (number_of_why (why_not c))) t.at) u.at (why_not c)
    fails c q = failed-answer r 6 t.at (number_of_why (why_not c)) u us ∙ rw q

    by : (c : Class) → u.class ≡ c → ((k w : ℕ) → wanted c n ≡ Value k w → ⊥)
        → item_answer (single r t c u us) ≡ cond (is_over_found (wanted c n)) (Err (fault OverLimit u.at)) (failed_as r (fault (NoValue (number_of_why (why_not c))) t.at) u.at (why_not c))
    by (value k) q h = absurd (h k n (unfold wanted in refl))
    by over_limit q h = unfold item_answer wanted in refl
    by tag q h = unfold wanted in fails tag q
    by block q h = unfold wanted in fails block q
    by loop q h = unfold wanted in fails loop q
    by save q h = unfold wanted in fails save q
    by (nothing w) q h = unfold wanted in fails (nothing w) q

-- THE TAG AT AN OFFSET
tag-item : (r : Reading) (s : List ℕ) (o w : ℕ) → Met r in_block s o (lexed tag w) → item_at r s o ≡ item_answer (tag_item r (tok (lexed tag w) o) (tokens_at r in_block s (gap_end s (o + w))))
unfolding item_at item item_by lexed tok after
tag-item r s o w m = rw (tokens-gap r in_block s (o + w), m.next)

single-size : (t u : Tok) (k : ℕ) → sizes_of (rec 4 t ∷ (rec k u ∷ [])) ≡ added (added no_sizes 4 t.size) k u.size
unfolding rec
single-size t u k = sizes-snoc (rec 4 t ∷ []) (rec k u) ∙ rw (sizes-one (rec 4 t))

value-answer : (r : Reading) (t : Tok) (s : List ℕ) (p k w : ℕ) → Met r in_block s p (lexed (value k) w) → item_answer (tag_valued r t (tokens_at r in_block s p)) ≡ Ok (Single (gap_end s (p + w)) (added (added no_sizes 4 t.size) k w))
unfolding tag_valued single item_answer lexed tok after
value-answer r t s p k w m = rw (m.next, head_at r in_block s (p + w), single-size t (tok (lexed (value k) w) p) k)

alone-answer : (r : Reading) (t : Tok) (s : List ℕ) (p : ℕ) → gap (drop p s) ≡ 0 → ((k w : ℕ) → found_at r s p ≡ Value k w → ⊥) → item_answer (tag_valued r t (tokens_at r in_block s p)) ≡ alone_answer r t.at p (found_at r s p)
unfolding tag_valued tok
alone-answer r t s p g h =
    let x = lex_in r (byte_before s p) in_block (drop p s) in
    let q : found_at r s p ≡ wanted x.class x.size = found-wanted r in_block s p in
    let f = first-in s p g r in
    rw (f.1, q) (single-answer r t (tok x p) f.0 x.class x.size refl (λ k w e. h k w (q ∙ e)))

-- a tag by its length, and what stands behind it
module _ (r : Reading) (s : List ℕ) (o : ℕ) (g : gap (drop o s) ≡ 0) (e : tag_at r s o ≡ true) where
  tag-of : Tok
  tag-of = tok (lexed tag (word (drop o s))) o

  item-tag : item_at r s o ≡ item_answer (cond (fits_tag r (end_of_word s o - o)) (tag_valued r tag-of (tokens_at r in_block s (gap_end s (end_of_word s o)))) (broken 17 o 0))
  unfolding tag-of tag_item tok lexed
  item-tag = tag-item r s o (word (drop o s)) (met-tag s o g r e) ∙ rw (word_size s o, word_end s o)

  pub item-misnamed : fits_tag r (end_of_word s o - o) ≡ false → item_at r s o ≡ Err (fault BadName o)
  item-misnamed f = item-tag ∙ rw f (unfold item_answer in refl)

  module _ (f : fits_tag r (end_of_word s o - o) ≡ true) where
    pub item-value : (k w : ℕ) → found_at r s (gap_end s (end_of_word s o)) ≡ Value k w → item_at r s o ≡ Ok (Single (gap_end s (gap_end s (end_of_word s o) + w)) (added (added no_sizes 4 (end_of_word s o - o)) k w))
    unfolding tag-of tok lexed
    item-value k w v =
        let p = gap_end s (end_of_word s o) in
        item-tag ∙ rw f (value-answer r tag-of s p k w (met-value r s p k w (gap-none s (end_of_word s o)) v) ∙ rw (word_size s o))

    pub item-alone : ((k w : ℕ) → found_at r s (gap_end s (end_of_word s o)) ≡ Value k w → ⊥) → let p = gap_end s (end_of_word s o) in item_at r s o ≡ alone_answer r o p (found_at r s p)
    unfolding tag-of tok
    item-alone h = item-tag ∙ rw f (alone-answer r tag-of s (gap_end s (end_of_word s o)) (gap-none s (end_of_word s o)) h)

-- NO ITEM AT AN OFFSET
none-answer : (r : Reading) (c : Class) (t : Tok) (ts : List Tok) → starts_item c ≡ false → item_answer (item_by r c t ts) ≡ Ok (Absent t.at)
unfolding starts_item item_by item_answer heading_at
none-answer r loop t ts e = absurd (true≢false e)
none-answer r tag t ts e = absurd (true≢false e)
none-answer r block t ts e = refl
none-answer r save t ts e = refl
none-answer r (value k) t ts e = refl
none-answer r over_limit t ts e = refl
none-answer r (nothing w) t ts e = refl

pub item-none : (r : Reading) (s : List ℕ) (o : ℕ) → gap (drop o s) ≡ 0 → loop_at r s o ≡ false → tag_at r s o ≡ false → item_at r s o ≡ Ok (Absent o)
unfolding item_at item loop_at tag_at tok
item-none r s o g e f =
    let x = lex_in r (byte_before s o) in_block (drop o s) in
    let n = first-in s o g r in
    rw n.1 (none-answer r x.class (tok x o) n.0 (lex-other r (byte_before s o) in_block (drop o s) e f))

-- rows as the code counts them
module _ (r : Reading) (o : ℕ) (names : Names) (values : Values) where
  pub rows_none : lacks_values r values.count ≡ true → Err (fault (NoValue (number_of_why values.why)) names.last) ≡ rows_of r o names values
  unfolding rows_of
  rows_none e = rw e

  module _ (e : lacks_values r values.count ≡ false) where
    pub rows-ragged : (values.count % names.count ≡ 0 → ⊥) → failed_as r (fault (Ragged (values.count % names.count)) o) values.next values.why ≡ rows_of r o names values
    unfolding rows_of
    rows-ragged h = rw (e, ne_eqb (values.count % names.count) 0 h)

    pub rows_whole : values.count % names.count ≡ 0 → Ok (Loop values.next (added (joined (joined (added no_sizes 5 5) names.sizes) values.sizes) 7 0) values.why) ≡ rows_of r o names values
    unfolding rows_of
    rows_whole h = rw (e, h)

-- a tag as the code reads it: its end, where what follows stands, and what is found there
pub record TagRead (r : Reading) (s : List ℕ) (o end stop : ℕ) (f : Found) : Type 0 where
  pub bare : gap (drop o s) ≡ 0
  pub tagged : tag_at r s o ≡ true
  pub ends : end ≡ end_of_word s o
  pub named : fits_tag r (end - o) ≡ true
  pub stops : stop ≡ gap_end s end
  pub finds : f ≡ found_at r s stop

-- as it finds them
pub tag-read : {r : Reading} {s : List ℕ} {o end stop : ℕ} {f : Found}
    → gap (drop o s) ≡ 0
    → tag_at r s o ≡ true
    → end ≡ end_of_word s o
    → fits_tag r (end - o) ≡ true
    → stop ≡ gap_end s end
    → f ≡ found_at r s stop
    → TagRead r s o end stop f
tag-read g t e n p f = record { bare = g; tagged = t; ends = e; named = n; stops = p; finds = f }

module _ {r : Reading} {s : List ℕ} {o end stop : ℕ} {f : Found} (t : TagRead r s o end stop f) where
  stop-bare : gap (drop stop s) ≡ 0
  stop-bare = rw t.stops (gap-none s end)

  fits : fits_tag r (end_of_word s o - o) ≡ true
  fits = rw (← t.ends) t.named

  pub tag-value-within : (k w : ℕ) → f ≡ Value k w → (0 < w) × (stop + w ≤ length s)
  tag-value-within k w e = let v = value-step r s stop k w stop-bare (sym t.finds ∙ e) in (v.some_bytes, v.within)

  pub tag-value : (k w next : ℕ) (z : Sizes) → f ≡ Value k w → next ≡ gap_end s (stop + w) → z ≡ added (added no_sizes 4 (end - o)) k w → Ok (Single next z) ≡ item_at r s o
  tag-value k w next z e p q =
      rw (p, q, t.stops, t.ends) (sym (item-value r s o t.bare t.tagged fits k w (rw (← t.ends, ← t.stops) (sym t.finds ∙ e))))

  pub tag-alone : ((k w : ℕ) → f ≡ Value k w → ⊥) → alone_answer r o stop f ≡ item_at r s o
  tag-alone n =
      rw (t.finds, t.stops, t.ends) (sym (item-alone r s o t.bare t.tagged fits (λ k w e. n k w (rw (t.finds, t.stops, t.ends) e))))

  pub tag-over : f ≡ Over → Err (fault OverLimit stop) ≡ item_at r s o
  unfolding alone_answer
  tag-over e = rw e at (tag-alone (λ k w q. let z : Over ≡ Value k w = sym e ∙ q in let z : ◌≡◌ {A = ℕ} 0 1 = cc in omega arith))

  pub tag-missing : (why : Why) → f ≡ Missing why → failed_as r (fault (NoValue (number_of_why why)) o) stop why ≡ item_at r s o
  unfolding alone_answer
  tag-missing why e = rw e at (tag-alone (λ k w q. let z : Missing why ≡ Value k w = sym e ∙ q in let z : ◌≡◌ {A = ℕ} 0 1 = cc in omega arith))

-- a loop as the code reads it
module _ (r : Reading) (s : List ℕ) (o : ℕ) (g : gap (drop o s) ≡ 0) (e : loop_at r s o ≡ true) (names : Names) (n : names ≡ names_at r s (o + 5)) where
  pub loop-from : o + 5 ≤ length s
  unfolding lexed
  loop-from = (met-loop s o g r e).within

  pub loop-named : (o + 5 ≤ names.next) × (names.next ≤ length s) × (gap (drop names.next s) ≡ 0) × Upto (names.next - (o + 5)) names.sizes
  loop-named = let h = names-end r s (o + 5) loop-from in rw n (h.onward, h.within, h.bare, h.fits)

  pub loop-misnamed : tag_at r s names.next ≡ true → Err (fault BadName names.next) ≡ item_at r s o
  unfolding loop_answer
  loop-misnamed z = sym (item-loop r s o g e ∙ rw (← n, z))

  module _ (untagged : tag_at r s names.next ≡ false) where
    pub loop-none : names.count ≡ 0 → Err (fault NoNames o) ≡ item_at r s o
    unfolding loop_answer
    loop-none z = sym (item-loop r s o g e ∙ rw (← n, untagged, z))

    loop-some : (values : Result Values Fault) → values ≡ values_at r s names.next → (names.count ≡ 0 → ⊥) → item_at r s o ≡ valued r o names values
    unfolding loop_answer
    loop-some values v h = item-loop r s o g e ∙ rw (← n, untagged, ← v, ne_eqb names.count 0 h)

    pub loop-over : (names.count ≡ 0 → ⊥) → (e : Fault) → Err e ≡ values_at r s names.next → Err e ≡ item_at r s o
    loop-over h e v = sym (loop-some (Err e) v h)

    module _ (h : names.count ≡ 0 → ⊥) (values : Values) (v : Ok values ≡ values_at r s names.next) where
      pub loop-valued : Upto (values.next - names.next) values.sizes × (values.next ≤ length s)
      loop-valued = let x = values-end r s names.next loop-named.1 values v in (x.fits, x.within)

      pub loop-rows : rows_of r o names values ≡ item_at r s o
      loop-rows = sym (loop-some (Ok values) v h)
