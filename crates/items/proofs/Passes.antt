-- An item's tokens in the block and in a frame: the records are the same, the rest starts at the same offset, and the records take at most 64 bytes
-- for each byte of text. Assumes nothing.
use Prim.Native.Nat.{ℕ, ◌+◌, ◌-◌, ◌%◌, ◌≤◌, ◌<◌}
use mathlib.Core.Path.{◌≡◌, refl, sym, ap}
use mathlib.Core.Bool.{Bool, true, false, cond}
use mathlib.Core.List.{List, [], ◌∷◌, ◌++◌}
use mathlib.Core.Logic.{◌⊎◌, inl, inr}
use native.Mathlib.Omega.{arith}
use lib.Dec.{eqb}
use lib.ListN.{length}
use Rattle.rules.specs.declared.Reading.{Reading}
use Rattle.rules.specs.declared.Reading.TheVariants.{First, Strict}
use Rattle.words.specs.Names.{fits_tag}
use Rattle.values.specs.Answers.{why_not}
use Rattle.found.specs.Packing.{number_of_why}
use Rattle.values.specs.Values.{Class, Reason, block, loop, save, tag, value, over_limit, nothing}
use Rattle.grammar.specs.Tokens.{Tok, heading_at, head_why}
use Rattle.grammar.specs.Machine.{Rec, rec, loop_end, reason, is_joined, lacks_values, last_at}
use Rattle.kinds.specs.Kinds.{kind_of, shape_of, shape_length, outline_shape, body_length, outline_length, is_content, has_content}
use Rattle.sizes.specs.Sizes.{content_size, sizes_of, no_sizes, added, joined, Upto}
use Rattle.grammar.specs.Descent.{name_recs, after_names, value_recs, after_values, Item, taken, failed, absent, broken, is_over, is_tag, head_tag, head_joined, failed_by, rows, loop_by, loop_valued, loop_item, single, tag_valued, tag_item, item_by, item}
use Rattle.grammar.proofs.Causes.{Says, says-ragged, says-alone, says-unnamed, says-over, says-joined, says-name}
use Rattle.grammar.proofs.Descent.{IsName, NoName, name-or-not, NoValue, value-or-not, names_more, names-none, values-more, values-none, nothing-name, nothing-value, save-name, save-value}
use Rattle.grammar.proofs.Lexes.{starts_item}
use Rattle.grammar.proofs.Offsets.{Both, both-last, both-save, both-more, both-from}
use Rattle.sizes.proofs.Room.{sizes-cons, sizes-none, sizes-one, sizes-append, upto-none, upto-added, upto-joined}

-- records of tokens from o to p, the same in both lists, and what follows them
pub record Alike (r : Reading) (s : List ℕ) (o : ℕ) (rs qs : List Rec) (ts us : List Tok) : Type 0 where
  pub same : rs ≡ qs
  pub to : ℕ
  pub onward : o ≤ to
  pub rest : Both r s to ts us
  pub fits : Upto (to - o) (sizes_of rs)

alike-none : {r : Reading} {s : List ℕ} {o : ℕ} {ts us : List Tok} → Both r s o ts us → Alike r s o [] [] ts us
alike-none {o = o} h = record { same = refl; to = o; onward = omega arith; rest = h; fits = rw sizes-none (upto-none (o - o)) }

-- a record of a token with bytes before others
upto-cons : (n size p : ℕ) (r : Rec) (rs : List Rec) → Upto n (sizes_of rs) → 0 < size → r.size ≤ size → n + size ≤ p → Upto p (sizes_of (r ∷ rs))
upto-cons n size p r rs h z e l =
    rw (sizes-cons r rs) (upto-joined size n p (added no_sizes r.kind r.size) (sizes_of rs) (upto-added 0 r.kind r.size size no_sizes (upto-none 0) z (omega arith)) h (omega arith))

alike-cons : {r : Reading} {s : List ℕ} {rs qs : List Rec} {ts us : List Tok} (o k : ℕ) (t : Tok) → o ≤ t.at → 0 < t.size → Alike r s (t.at + t.size) rs qs ts us → Alike r s o (rec k t ∷ rs) (rec k t ∷ qs) ts us
alike-cons {rs = rs} o k t l z a =
    record {
      same = ap (λ (x : List Rec). rec k t ∷ x) a.same;
      to = a.to;
      onward = omega (arith, a.onward);
      rest = a.rest;
      fits = upto-cons (a.to - (t.at + t.size)) t.size (a.to - o) (rec k t) rs a.fits z (unfold rec in omega arith) (omega (arith, a.onward));
    }

pub names-alike : {r : Reading} {s : List ℕ} {o : ℕ} {ts us : List Tok} → Both r s o ts us → Alike r s o (name_recs r ts) (name_recs r us) (after_names r ts) (after_names r us)
names-alike {r = r} (both-last {t = t} h w e) =
    let n = names-none r t [] (nothing-name r t w e) in
    rw (n.0, n.1) (alike-none (both-last h w e))
names-alike {r = r} (both-save {t = t} {u = u} {ts = ts} {us = us} h a e f) =
    let n = names-none r t ts (save-name r t e) in
    let m = names-none r u us (save-name r u f) in
    rw (n.0, n.1, m.0, m.1) (alike-none (both-save h a e f))
names-alike {r = r} {s = s} {o = o} (both-more {t = t} {ts = ts} {us = us} h z b) = by (names-alike b) (name-or-not r t)
  where
    by : Alike r s (t.at + t.size) (name_recs r ts) (name_recs r us) (after_names r ts) (after_names r us) → IsName r t ⊎ NoName r t → Alike r s o (name_recs r (t ∷ ts)) (name_recs r (t ∷ us)) (after_names r (t ∷ ts)) (after_names r (t ∷ us))
    by a (inl e) =
        let n = names_more r t ts e in
        let m = names_more r t us e in
        rw (n.0, n.1, m.0, m.1) (alike-cons o 6 t (unfold heading_at in h.onward) z a)
    by a (inr e) =
        let n = names-none r t ts e in
        let m = names-none r t us e in
        rw (n.0, n.1, m.0, m.1) (alike-none (both-more h z b))

pub values-alike : {r : Reading} {s : List ℕ} {o : ℕ} {ts us : List Tok} → Both r s o ts us → Alike r s o (value_recs ts) (value_recs us) (after_values ts) (after_values us)
values-alike (both-last {t = t} h w e) =
    let n = values-none t [] (nothing-value t.class w e) in
    rw (n.0, n.1) (alike-none (both-last h w e))
values-alike (both-save {t = t} {u = u} {ts = ts} {us = us} h a e f) =
    let n = values-none t ts (save-value t.class e) in
    let m = values-none u us (save-value u.class f) in
    rw (n.0, n.1, m.0, m.1) (alike-none (both-save h a e f))
values-alike {r = r} {s = s} {o = o} (both-more {t = t} {ts = ts} {us = us} h z b) = by (values-alike b) (value-or-not t.class)
  where
    by : Alike r s (t.at + t.size) (value_recs ts) (value_recs us) (after_values ts) (after_values us) → ((k : ℕ) × (t.class ≡ value k)) ⊎ NoValue t.class → Alike r s o (value_recs (t ∷ ts)) (value_recs (t ∷ us)) (after_values (t ∷ ts)) (after_values (t ∷ us))
    by a (inl e) =
        let n = values-more t ts e.0 e.1 in
        let m = values-more t us e.0 e.1 in
        rw (n.0, n.1, m.0, m.1) (alike-cons o e.0 t (unfold heading_at in h.onward) z a)
    by a (inr e) =
        let n = values-none t ts e in
        let m = values-none t us e in
        rw (n.0, n.1, m.0, m.1) (alike-none (both-more h z b))

-- what the first tokens of both lists say
record SameHead (ts us : List Tok) : Type 0 where
  at : heading_at ts ≡ heading_at us
  why : head_why ts ≡ head_why us
  parted : head_joined ts ≡ head_joined us
  tagged : head_tag ts ≡ head_tag us

same_head : {r : Reading} {s : List ℕ} {o : ℕ} {ts us : List Tok} → Both r s o ts us → SameHead ts us
unfolding heading_at head_why head_joined head_tag why_not is_joined is_tag
same_head (both-last h w e) = record { at = refl; why = refl; parted = refl; tagged = refl }
same_head (both-save h a e f) = record { at = sym a; why = rw (e, f); parted = rw (e, f); tagged = rw (e, f) }
same_head (both-more h z b) = record { at = refl; why = refl; parted = refl; tagged = refl }

-- no item starts with the first token
unfoldable pub NoItem : List Tok → Type 0
NoItem [] = Unit {0}
NoItem (t ∷ ts) = starts_item t.class ≡ false

-- an item of both lists: its records and failure are the same; only in the first reading one fails and may be dropped
pub data AlikeItem (r : Reading) (s : List ℕ) (o : ℕ) (hs gs : List Tok) : Item → Item → Type 0 where
  alike-taken : {b : Bool} {rs : List Rec} {ts us : List Tok} (to : ℕ) → o < to → Both r s to ts us → Upto (to - o) (sizes_of rs) → AlikeItem r s o hs gs (taken b rs ts) (taken b rs us)
  alike-failed : {n a d : ℕ} {ts us : List Tok} → r ≡ First → Says n d → Both r s o ts us → AlikeItem r s o hs gs (failed n a d ts) (failed n a d us)
  alike-absent : NoItem hs → NoItem gs → Both r s o hs gs → AlikeItem r s o hs gs (absent hs) (absent gs)
  alike-broken : {n a d : ℕ} → Says n d → AlikeItem r s o hs gs (broken n a d) (broken n a d)

-- an item that fails before what follows
failed-alike : {r : Reading} {s : List ℕ} {hs gs : List Tok} {o : ℕ} {ts us : List Tok} {n d : ℕ} (a : ℕ) → Says n d → Both r s o ts us → AlikeItem r s o hs gs (failed_by r n a d ts) (failed_by r n a d us)
failed-alike {r = First} a y b = alike-failed refl y b
failed-alike {r = Strict} {s = s} {hs = hs} {gs = gs} {o = o} {ts = ts} {us = us} {n = n} {d = d} a y b = rw (← (same_head b).at, ← (same_head b).parted) (by (head_joined ts))
  where
    by : (c : Bool) → AlikeItem Strict s o hs gs (cond c (broken 15 (heading_at ts) 0) (broken n a d)) (cond c (broken 15 (heading_at ts) 0) (broken n a d))
    by true = alike-broken says-joined
    by false = alike-broken y

broken-alike : {r : Reading} {s : List ℕ} {hs gs : List Tok} {o : ℕ} {x y : Item} (c : Bool) (n a d : ℕ) → Says n d → AlikeItem r s o hs gs x y → AlikeItem r s o hs gs (cond c (broken n a d) x) (cond c (broken n a d) y)
broken-alike true n a d k h = alike-broken k
broken-alike false n a d k h = h

rows_alike : {r : Reading} {s : List ℕ} {hs gs : List Tok} {ts us : List Tok} (o to : ℕ) (t : Tok) (ns vs : List Rec) → Both r s to ts us → o < to → Upto (to - o) (sizes_of (rec 5 t ∷ (ns ++ (vs ++ (loop_end ∷ []))))) → AlikeItem r s o hs gs (rows r t ns vs ts) (rows r t ns vs us)
unfolding rows
rows_alike {r = r} {s = s} {hs = hs} {gs = gs} {ts = ts} {us = us} o to t ns vs b l h =
    rw (← (same_head b).why) (broken-alike (lacks_values r (length vs)) 6 (last_at ns) (number_of_why (head_why ts)) (says-alone (number_of_why (head_why ts))) (by (eqb (length vs % length ns) 0)))
  where
    by : (c : Bool) → AlikeItem r s o hs gs (cond c (taken true (rec 5 t ∷ (ns ++ (vs ++ (loop_end ∷ [])))) ts) (failed_by r 5 t.at (length vs % length ns) ts)) (cond c (taken true (rec 5 t ∷ (ns ++ (vs ++ (loop_end ∷ [])))) us) (failed_by r 5 t.at (length vs % length ns) us))
    by true = alike-taken to l b h
    by false = failed-alike t.at (says-ragged (length vs % length ns)) (both-from o b (omega arith))

save-over : (c : Class) → c ≡ save → is_over c ≡ false
unfolding is_over
save-over c e = rw e

loop_by-alike : {r : Reading} {s : List ℕ} {hs gs : List Tok} {ts us : List Tok} (o to : ℕ) (t : Tok) (ns vs : List Rec) → Both r s to ts us → o < to → Upto (to - o) (sizes_of (rec 5 t ∷ (ns ++ (vs ++ (loop_end ∷ []))))) → AlikeItem r s o hs gs (loop_by r t ns vs ts) (loop_by r t ns vs us)
unfolding loop_by
loop_by-alike o to t ns vs (both-last {t = u} p w e) l h = broken-alike (is_over u.class) 9 u.at 0 says-over (rows_alike o to t ns vs (both-last p w e) l h)
loop_by-alike o to t ns vs (both-save {t = u} {u = v} p a e f) l h =
    rw (save-over u.class e, save-over v.class f) (rows_alike o to t ns vs (both-save p a e f) l h)
loop_by-alike o to t ns vs (both-more {t = u} p z b) l h = broken-alike (is_over u.class) 9 u.at 0 says-over (rows_alike o to t ns vs (both-more p z b) l h)

-- a loop's records fit: those of `loop_` and of its end take 22 bytes
loop-fits : (n m p : ℕ) (t : Tok) (ns vs : List Rec) → Upto n (sizes_of ns) → Upto m (sizes_of vs) → 0 < t.size → n + m + t.size ≤ p → Upto p (sizes_of (rec 5 t ∷ (ns ++ (vs ++ (loop_end ∷ [])))))
unfolding rec loop_end joined added no_sizes content_size has_content is_content body_length outline_length shape_length outline_shape shape_of kind_of
loop-fits n m p t ns vs a b z l =
    rw (sizes-cons (rec 5 t) (ns ++ (vs ++ (loop_end ∷ []))), sizes-append ns (vs ++ (loop_end ∷ [])), sizes-append vs (loop_end ∷ []), sizes-one loop_end)
    (record { store = omega (arith, a.store, b.store); outline = omega (arith, a.outline, b.outline); area = omega (arith, a.area, b.area) })

loop-alike : {r : Reading} {s : List ℕ} {hs gs : List Tok} {ts us : List Tok} (o : ℕ) (t : Tok) → o ≤ t.at → 0 < t.size → Both r s (t.at + t.size) ts us → AlikeItem r s o hs gs (loop_item r t (name_recs r ts) (after_names r ts)) (loop_item r t (name_recs r us) (after_names r us))
unfolding loop_item loop_valued
loop-alike {r = r} {s = s} {hs = hs} {gs = gs} {ts = ts} {us = us} o t l z b =
    rw (← a.same, ← (same_head a.rest).tagged, ← (same_head a.rest).at) (broken-alike (head_tag (after_names r ts)) 17 (heading_at (after_names r ts)) 0 says-name (by (name_recs r ts) a.fits))
  where
    a : Alike r s (t.at + t.size) (name_recs r ts) (name_recs r us) (after_names r ts) (after_names r us)
    a = names-alike b

    v : Alike r s a.to (value_recs (after_names r ts)) (value_recs (after_names r us)) (after_values (after_names r ts)) (after_values (after_names r us))
    v = values-alike a.rest

    by : (ns : List Rec) → Upto (a.to - (t.at + t.size)) (sizes_of ns) → AlikeItem r s o hs gs (loop_valued r t ns (after_names r ts)) (loop_valued r t ns (after_names r us))
    by [] h = alike-broken says-unnamed
    by (n ∷ ns) h =
        rw (← v.same)
        (loop_by-alike o v.to t (n ∷ ns) (value_recs (after_names r ts)) v.rest (omega (arith, a.onward, v.onward))
        (loop-fits (a.to - (t.at + t.size)) (v.to - a.to) (v.to - o) t (n ∷ ns) (value_recs (after_names r ts)) h v.fits z (omega (arith, a.onward, v.onward))))

-- a tag and its value
single-alike : {r : Reading} {s : List ℕ} {hs gs : List Tok} {ts us : List Tok} (o : ℕ) (t u : Tok) → o ≤ t.at → 0 < t.size → t.at + t.size ≤ u.at → 0 < u.size → Both r s o (u ∷ ts) (u ∷ us) → Both r s (u.at + u.size) ts us → (c : Class) → AlikeItem r s o hs gs (single r t c u ts) (single r t c u us)
unfolding single rec
single-alike {s = s} {ts = ts} {us = us} o t u l z m y h b (value k) =
    alike-taken (u.at + u.size) (omega arith) b
    (upto-cons u.size t.size (u.at + u.size - o) (rec 4 t) (rec k u ∷ []) (upto-cons 0 u.size u.size (rec k u) [] (rw sizes-none (upto-none 0)) y (omega arith) (omega arith)) z (omega arith) (omega arith))
single-alike o t u l z m y h b over_limit = alike-broken says-over
single-alike o t u l z m y h b tag = failed-alike t.at (says-alone _) h
single-alike o t u l z m y h b block = failed-alike t.at (says-alone _) h
single-alike o t u l z m y h b loop = failed-alike t.at (says-alone _) h
single-alike o t u l z m y h b save = failed-alike t.at (says-alone _) h
single-alike o t u l z m y h b (nothing w) = failed-alike t.at (says-alone _) h

single-nothing : (r : Reading) (t u : Tok) (us : List Tok) (c : Class) (w : Reason) → c ≡ nothing w → single r t c u us ≡ failed_by r 6 t.at (reason (nothing w)) (u ∷ us)
unfolding single
single-nothing r t u us c w e = rw e

single-save : (r : Reading) (t u : Tok) (us : List Tok) (c : Class) → c ≡ save → single r t c u us ≡ failed_by r 6 t.at (reason save) (u ∷ us)
unfolding single
single-save r t u us c e = rw e

valued-alike : {r : Reading} {s : List ℕ} {hs gs : List Tok} {ts us : List Tok} (o : ℕ) (t : Tok) → o ≤ t.at → 0 < t.size → Both r s (t.at + t.size) ts us → AlikeItem r s o hs gs (tag_valued r t ts) (tag_valued r t us)
unfolding tag_valued heading_at
valued-alike {r = r} o t l z (both-last {t = u} h w e) = rw (single-nothing r t u [] u.class w e) (failed-alike t.at (says-alone _) (both-from o (both-last h w e) (omega arith)))
valued-alike {r = r} o t l z (both-save {t = u} {u = v} {ts = ts} {us = us} h a e f) =
    rw (single-save r t u ts u.class e, single-save r t v us v.class f) (failed-alike t.at (says-alone _) (both-from o (both-save h a e f) (omega arith)))
valued-alike o t l z (both-more {t = u} h y b) = single-alike o t u l z h.onward y (both-from o (both-more h y b) (omega arith)) b u.class

tag-alike : {r : Reading} {s : List ℕ} {hs gs : List Tok} {ts us : List Tok} (o : ℕ) (t : Tok) → o ≤ t.at → 0 < t.size → Both r s (t.at + t.size) ts us → AlikeItem r s o hs gs (tag_item r t ts) (tag_item r t us)
unfolding tag_item
tag-alike {r = r} {s = s} {hs = hs} {gs = gs} {ts = ts} {us = us} o t l z b = by (fits_tag r t.size)
  where
    by : (c : Bool) → AlikeItem r s o hs gs (cond c (tag_valued r t ts) (broken 17 t.at 0)) (cond c (tag_valued r t us) (broken 17 t.at 0))
    by true = valued-alike o t l z b
    by false = alike-broken says-name

item-nothing : (r : Reading) (t : Tok) (ts : List Tok) (c : Class) (w : Reason) → c ≡ nothing w → item_by r c t ts ≡ absent (t ∷ ts)
unfolding item_by
item-nothing r t ts c w e = rw e

item-save : (r : Reading) (t : Tok) (ts : List Tok) (c : Class) → c ≡ save → item_by r c t ts ≡ absent (t ∷ ts)
unfolding item_by
item-save r t ts c e = rw e

more-alike : {r : Reading} {s : List ℕ} {o : ℕ} {t : Tok} {ts us : List Tok} → o ≤ t.at → 0 < t.size → Both r s o (t ∷ ts) (t ∷ us) → Both r s (t.at + t.size) ts us → (c : Class) → t.class ≡ c → AlikeItem r s o (t ∷ ts) (t ∷ us) (item_by r c t ts) (item_by r c t us)
unfolding item_by heading_at NoItem starts_item
more-alike {o = o} {t = t} l z h b loop e = loop-alike o t l z b
more-alike {o = o} {t = t} l z h b tag e = tag-alike o t l z b
more-alike l z h b block e = alike-absent (rw e) (rw e) h
more-alike l z h b save e = alike-absent (rw e) (rw e) h
more-alike l z h b (value k) e = alike-absent (rw e) (rw e) h
more-alike l z h b over_limit e = alike-absent (rw e) (rw e) h
more-alike l z h b (nothing w) e = alike-absent (rw e) (rw e) h

-- THE ITEM OF BOTH LISTS IS THE SAME
pub item-alike : {r : Reading} {s : List ℕ} {o : ℕ} {ts us : List Tok} → Both r s o ts us → AlikeItem r s o ts us (item r ts) (item r us)
unfolding item heading_at NoItem starts_item
item-alike {r = r} (both-last {t = t} h w e) = rw (item-nothing r t [] t.class w e) (alike-absent (rw e) (rw e) (both-last h w e))
item-alike {r = r} (both-save {t = t} {u = u} {ts = ts} {us = us} h a e f) = rw (item-save r t ts t.class e, item-save r u us u.class f) (alike-absent (rw e) (rw f) (both-save h a e f))
item-alike (both-more {t = t} h z b) = more-alike h.onward z (both-more h z b) b t.class refl
