-- The machine reads an item as the descent does, in either reading: names while tags stand, then values until one fails.
-- Proved: from an item's first token on, the machine's answer is what the descent makes of it (item-run); and what is read does not depend on the detail that a 7 would
-- have (any-detail). Assumes nothing.
use Prim.Native.Nat.{ℕ, suc, ◌+◌, ◌%◌}
use mathlib.Core.Path.{◌≡◌, refl, sym, ap, ◌∙◌}
use mathlib.Core.Bool.{Bool, true, false, cond, true≢false}
use mathlib.Core.List.{List, [], ◌∷◌, ◌++◌, append_assoc, append-nil}
use mathlib.Core.Logic.{◌⊎◌, inl, inr, ⊎_elim}
use mathlib.Core.Option.{Option, none, some}
use native.Mathlib.Nat.{zero-add, add-zero}
use native.Mathlib.Omega.{arith}
use borrow.Author.Tests.{ne_eqb}
use lib.Dec.{eqb}
use lib.ListN.{length}
use Rattle.rules.specs.declared.Reading.{Reading}
use Rattle.rules.specs.declared.Reading.TheVariants.{First, Strict}
use Rattle.words.specs.Names.{fits_tag, heading_fits}
use Rattle.values.specs.Values.{Class, Reason, block, loop, save, tag, value, over_limit, nothing, at_end, reserved_word, no_start, open_quote, open_field, joined}
use Rattle.found.specs.Packing.{number_of_why}
use Rattle.values.specs.Answers.{why_not}
use Rattle.grammar.specs.Tokens.{Tok, heading_at, head_why}
use Rattle.grammar.specs.Machine.{Rec, Answer, refused, done, items, names, values, wants, config, rec, loop_end, follow, run, move, at_item, at_name, at_value, at_want, no_more_names, loop_ends, fails, closes, heads, shuts, named, go, stop, reason, in_block_only, is_joined, lacks_values, last_at}
use Rattle.grammar.specs.Descent.{name_then, name_rest, name_recs, after_names, value_then, value_rest, value_recs, after_values, Item, taken, failed, absent, broken, is_over, is_tag, head_tag, head_joined, failed_by, rows, loop_by, loop_valued, loop_item, single, tag_valued, tag_item, item_by, item}

-- a token is a tag whose name may stand, or it ends a loop's names: by 17, where it is a tag all the same
pub record NoName (r : Reading) (t : Tok) : Type 0 where
  pub recs : (rs : List Rec) → name_then r t.class t rs ≡ []
  pub rest : (ts here : List Tok) → name_rest r t.class t ts here ≡ here
  pub moves : (a n : ℕ) (f : Option ℕ) (out held : List Rec) → at_name r a n f out held t.class t ≡ cond (is_tag t.class) (stop (refused 17 t.at 0)) (no_more_names r a n f out held t)

-- a class that is no tag ends them
no-tag : (r : Reading) (t : Tok) → is_tag t.class ≡ false → NoName r t
unfolding name_then name_rest at_name is_tag
no-tag r t = by t.class refl
  where
    by : (c : Class) → t.class ≡ c → is_tag c ≡ false → NoName r t
    by tag e h = absurd (true≢false h)
    by block e h = record { recs = λ rs. rw e; rest = λ ts here. rw e; moves = λ a n f out held. rw e }
    by loop e h = record { recs = λ rs. rw e; rest = λ ts here. rw e; moves = λ a n f out held. rw e }
    by save e h = record { recs = λ rs. rw e; rest = λ ts here. rw e; moves = λ a n f out held. rw e }
    by (value k) e h = record { recs = λ rs. rw e; rest = λ ts here. rw e; moves = λ a n f out held. rw e }
    by over_limit e h = record { recs = λ rs. rw e; rest = λ ts here. rw e; moves = λ a n f out held. rw e }
    by (nothing w) e h = record { recs = λ rs. rw e; rest = λ ts here. rw e; moves = λ a n f out held. rw e }

-- a tag whose name may stand
pub record IsName (r : Reading) (t : Tok) : Type 0 where
  pub is-tag : t.class ≡ tag
  pub fits : fits_tag r t.size ≡ true

pub name-or-not : (r : Reading) (t : Tok) → IsName r t ⊎ NoName r t
unfolding name_then name_rest at_name is_tag
name-or-not r t = by t.class refl
  where
    long : t.class ≡ tag → (b : Bool) → fits_tag r t.size ≡ b → IsName r t ⊎ NoName r t
    long e true h = inl (record { is-tag = e; fits = h })
    long e false h = inr (record { recs = λ rs. rw (e, h); rest = λ ts here. rw (e, h); moves = λ a n f out held. rw (e, h) })

    by : (c : Class) → t.class ≡ c → IsName r t ⊎ NoName r t
    by tag e = long e (fits_tag r t.size) refl
    by block e = inr (no-tag r t (rw e))
    by loop e = inr (no-tag r t (rw e))
    by save e = inr (no-tag r t (rw e))
    by (value k) e = inr (no-tag r t (rw e))
    by over_limit e = inr (no-tag r t (rw e))
    by (nothing w) e = inr (no-tag r t (rw e))

-- a class is a value, or it ends a loop's values
pub record NoValue (c : Class) : Type 0 where
  pub recs : (t : Tok) (rs : List Rec) → value_then c t rs ≡ []
  pub rest : (ts here : List Tok) → value_rest c ts here ≡ here
  pub moves : (r : Reading) (a n k : ℕ) (f : Option ℕ) (out held : List Rec) (t : Tok) → at_value r a n k f out held c t ≡ cond (is_over c) (stop (refused 9 t.at 0)) (loop_ends r a n k f out held t)

pub value-or-not : (c : Class) → ((k : ℕ) × (c ≡ value k)) ⊎ NoValue c
unfolding value_then value_rest at_value is_over
value-or-not (value k) = inl (k, refl)
value-or-not tag = inr (record { recs = λ t rs. refl; rest = λ ts here. refl; moves = λ r a n k f out held t. refl })
value-or-not block = inr (record { recs = λ t rs. refl; rest = λ ts here. refl; moves = λ r a n k f out held t. refl })
value-or-not loop = inr (record { recs = λ t rs. refl; rest = λ ts here. refl; moves = λ r a n k f out held t. refl })
value-or-not save = inr (record { recs = λ t rs. refl; rest = λ ts here. refl; moves = λ r a n k f out held t. refl })
value-or-not over_limit = inr (record { recs = λ t rs. refl; rest = λ ts here. refl; moves = λ r a n k f out held t. refl })
value-or-not (nothing w) = inr (record { recs = λ t rs. refl; rest = λ ts here. refl; moves = λ r a n k f out held t. refl })

-- names and values of a list, by its first token
pub names_more : (r : Reading) (t : Tok) (ts : List Tok) → IsName r t → (name_recs r (t ∷ ts) ≡ rec 6 t ∷ name_recs r ts) × (after_names r (t ∷ ts) ≡ after_names r ts)
unfolding name_recs after_names name_then name_rest
names_more r t ts e = (rw (e.is-tag, e.fits), rw (e.is-tag, e.fits))

pub names-none : (r : Reading) (t : Tok) (ts : List Tok) → NoName r t → (name_recs r (t ∷ ts) ≡ []) × (after_names r (t ∷ ts) ≡ t ∷ ts)
unfolding name_recs after_names
names-none r t ts e = (e.recs (name_recs r ts), e.rest (after_names r ts) (t ∷ ts))

pub values-more : (t : Tok) (ts : List Tok) (k : ℕ) → t.class ≡ value k → (value_recs (t ∷ ts) ≡ rec k t ∷ value_recs ts) × (after_values (t ∷ ts) ≡ after_values ts)
unfolding value_recs after_values value_then value_rest
values-more t ts k e = (rw e, rw e)

pub values-none : (t : Tok) (ts : List Tok) → NoValue t.class → (value_recs (t ∷ ts) ≡ []) × (after_values (t ∷ ts) ≡ t ∷ ts)
unfolding value_recs after_values
values-none t ts e = (e.recs t (value_recs ts), e.rest (after_values ts) (t ∷ ts))

-- one step of the machine
name-step : (r : Reading) (t : Tok) (ts : List Tok) (a n : ℕ) (f : Option ℕ) (out held : List Rec) → IsName r t → run r (t ∷ ts) (config (names a n) f out held) ≡ run r ts (config (names a (suc n)) f out (held ++ (rec 6 t ∷ [])))
unfolding run move config at_name follow
name-step r t ts a n f out held e = rw (e.is-tag, e.fits)

value-step : (r : Reading) (t : Tok) (ts : List Tok) (a n k j : ℕ) (f : Option ℕ) (out held : List Rec) → t.class ≡ value j → run r (t ∷ ts) (config (values a n k) f out held) ≡ run r ts (config (values a n (suc k)) f out (held ++ (rec j t ∷ [])))
unfolding run move config at_value follow
value-step r t ts a n k j f out held e = rw e

-- the machine over a loop's names
names-run : (r : Reading) (ts : List Tok) (a n : ℕ) (f : Option ℕ) (out held : List Rec) → run r ts (config (names a n) f out held) ≡ run r (after_names r ts) (config (names a (length (name_recs r ts) + n)) f out (held ++ name_recs r ts))
unfolding name_recs after_names
names-run r [] a n f out held = rw (zero-add, append-nil)
names-run r (t ∷ ts) a n f out held = ⊎_elim (more (λ h. names-run r ts a (suc n) f out h)) done' (name-or-not r t)
  where
    Goal : Type 0
    Goal = run r (t ∷ ts) (config (names a n) f out held) ≡ run r (after_names r (t ∷ ts)) (config (names a (length (name_recs r (t ∷ ts)) + n)) f out (held ++ name_recs r (t ∷ ts)))

    Next : Type 0
    Next = (h : List Rec) → run r ts (config (names a (suc n)) f out h) ≡ run r (after_names r ts) (config (names a (length (name_recs r ts) + suc n)) f out (h ++ name_recs r ts))

    more : Next → IsName r t → Goal
    more ih e =
        let z : suc (length (name_recs r ts)) + n ≡ length (name_recs r ts) + suc n = omega arith in
        name-step r t ts a n f out held e ∙ ih (held ++ (rec 6 t ∷ [])) ∙ rw ((names_more r t ts e).0, (names_more r t ts e).1, z, append_assoc)

    done' : NoName r t → Goal
    done' e = rw ((names-none r t ts e).0, (names-none r t ts e).1, zero-add, append-nil)

-- the machine over a loop's values
values-run : (r : Reading) (ts : List Tok) (a n k : ℕ) (f : Option ℕ) (out held : List Rec) → run r ts (config (values a n k) f out held) ≡ run r (after_values ts) (config (values a n (length (value_recs ts) + k)) f out (held ++ value_recs ts))
unfolding value_recs after_values
values-run r [] a n k f out held = rw (zero-add, append-nil)
values-run r (t ∷ ts) a n k f out held = ⊎_elim (more (λ h. values-run r ts a n (suc k) f out h)) done' (value-or-not t.class)
  where
    Goal : Type 0
    Goal = run r (t ∷ ts) (config (values a n k) f out held) ≡ run r (after_values (t ∷ ts)) (config (values a n (length (value_recs (t ∷ ts)) + k)) f out (held ++ value_recs (t ∷ ts)))

    Next : Type 0
    Next = (h : List Rec) → run r ts (config (values a n (suc k)) f out h) ≡ run r (after_values ts) (config (values a n (length (value_recs ts) + suc k)) f out (h ++ value_recs ts))

    more : Next → ((j : ℕ) × (t.class ≡ value j)) → Goal
    more ih e =
        let z : suc (length (value_recs ts)) + k ≡ length (value_recs ts) + suc k = omega arith in
        let v = values-more t ts e.0 e.1 in
        value-step r t ts a n k e.0 f out held e.1 ∙ ih (held ++ (rec e.0 t ∷ [])) ∙ rw (v.0, v.1, z, append_assoc)

    done' : NoValue t.class → Goal
    done' e = rw ((values-none t ts e).0, (values-none t ts e).1, zero-add, append-nil)

-- tokens whose last is one that can be no part of an item, as those of a text
pub data Ends : List Tok → Type 0 where
  last : {t : Tok} → (w : Reason) → t.class ≡ nothing w → Ends (t ∷ [])
  more : {t : Tok} {ts : List Tok} → Ends ts → Ends (t ∷ ts)

pub nothing-name : (r : Reading) (t : Tok) (w : Reason) → t.class ≡ nothing w → NoName r t
unfolding is_tag
nothing-name r t w e = no-tag r t (rw e)

pub nothing-value : (c : Class) (w : Reason) → c ≡ nothing w → NoValue c
unfolding value_then value_rest at_value is_over
nothing-value c w e = rw e (record { recs = λ t rs. refl; rest = λ ts here. refl; moves = λ r a n k f out held t. refl })

pub save-name : (r : Reading) (t : Tok) → t.class ≡ save → NoName r t
unfolding is_tag
save-name r t e = no-tag r t (rw e)

pub save-value : (c : Class) → c ≡ save → NoValue c
unfolding value_then value_rest at_value is_over
save-value c e = rw e (record { recs = λ t rs. refl; rest = λ ts here. refl; moves = λ r a n k f out held t. refl })

pub names-ends : (r : Reading) {ts : List Tok} → Ends ts → Ends (after_names r ts)
names-ends r (last {t = t} w e) = rw (names-none r t [] (nothing-name r t w e)).1 (last w e)
names-ends r (more {t = t} {ts = ts} h) = by (names-ends r h) (name-or-not r t)
  where
    by : Ends (after_names r ts) → IsName r t ⊎ NoName r t → Ends (after_names r (t ∷ ts))
    by i (inl e) = rw (names_more r t ts e).1 i
    by i (inr e) = rw (names-none r t ts e).1 (more h)

pub values-ends : {ts : List Tok} → Ends ts → Ends (after_values ts)
values-ends (last {t = t} w e) = rw (values-none t [] (nothing-value t.class w e)).1 (last w e)
values-ends (more {t = t} {ts = ts} h) = by (values-ends h) (value-or-not t.class)
  where
    by : Ends (after_values ts) → ((k : ℕ) × (t.class ≡ value k)) ⊎ NoValue t.class → Ends (after_values (t ∷ ts))
    by i (inl e) = rw (values-more t ts e.0 e.1).1 i
    by i (inr e) = rw (values-none t ts e).1 (more h)

-- what stands behind a loop's names is no name, behind its values no value
NotName : Reading → List Tok → Type 0
NotName r [] = Unit
NotName r (t ∷ ts) = NoName r t

NotValue : List Tok → Type 0
NotValue [] = Unit
NotValue (t ∷ ts) = NoValue t.class

not-name : (r : Reading) (ts : List Tok) → NotName r (after_names r ts)
unfolding after_names NotName
not-name r [] = tt
not-name r (t ∷ ts) = by (not-name r ts) (name-or-not r t)
  where
    by : NotName r (after_names r ts) → IsName r t ⊎ NoName r t → NotName r (after_names r (t ∷ ts))
    by i (inl e) = rw (names_more r t ts e).1 i
    by i (inr e) = rw (names-none r t ts e).1 e

not-value : (ts : List Tok) → NotValue (after_values ts)
unfolding after_values NotValue
not-value [] = tt
not-value (t ∷ ts) = by (not-value ts) (value-or-not t.class)
  where
    by : NotValue (after_values ts) → ((k : ℕ) × (t.class ≡ value k)) ⊎ NoValue t.class → NotValue (after_values (t ∷ ts))
    by i (inl e) = rw (values-more t ts e.0 e.1).1 i
    by i (inr e) = rw (values-none t ts e).1 e

-- what the machine answers once an item is read, has failed where `rest` starts, or ends the reading
unfoldable pub failed_run : Reading → Answer → Option ℕ → List Rec → List Tok → Answer
failed_run r a f out [] = refused 7 0 0
failed_run r a f out (u ∷ us) = follow (fails r a f out u) (λ c. run r us c)

-- what a 7 directly behind an item says: behind a loop of the block why its list ended
unfoldable pub behind_item : Option ℕ → Bool → List Tok → ℕ
behind_item f true rest = in_block_only f (number_of_why (head_why rest))
behind_item f false rest = 0

pub behind-frame : (a : ℕ) (b : Bool) (rest : List Tok) → behind_item (some a) b rest ≡ 0
unfolding behind_item in_block_only
behind-frame a true rest = refl
behind-frame a false rest = refl

-- where no item starts the machine goes on from there
unfoldable pub item_run : Reading → ℕ → Option ℕ → List Rec → Item → Answer
item_run r d f out (taken b rs rest) = run r rest (config (items (behind_item f b rest)) f (out ++ rs) [])
item_run r d f out (failed n o e rest) = failed_run r (refused n o e) f out rest
item_run r d f out (absent rest) = run r rest (config (items d) f out [])
item_run r d f out (broken n o e) = refused n o e

-- an item that fails before u
failed-run : (r : Reading) (d n o e : ℕ) (u : Tok) (us : List Tok) (f : Option ℕ) (out : List Rec) → follow (fails r (refused n o e) f out u) (λ c. run r us c) ≡ item_run r d f out (failed_by r n o e (u ∷ us))
unfolding item_run failed_run fails follow head_joined heading_at
failed-run First d n o e u us f out = refl
failed-run Strict d n o e u us f out = by (is_joined u.class)
  where
    by : (b : Bool) → follow (stop (cond b (refused 15 u.at 0) (refused n o e))) (λ c. run Strict us c) ≡ item_run Strict d f out (cond b (broken 15 u.at 0) (broken n o e))
    by true = refl
    by false = refl

-- a loop from its rows on
whole_run : (r : Reading) (d : ℕ) (t u : Tok) (us : List Tok) (f : Option ℕ) (out ns vs : List Rec) → follow (cond (eqb (length vs % length ns) 0) (at_item r (in_block_only f (reason u.class)) f (out ++ ((rec 5 t ∷ ns) ++ vs) ++ (loop_end ∷ [])) u.class u) (fails r (refused 5 t.at (length vs % length ns)) f out u)) (λ c. run r us c) ≡ item_run r d f out (cond (eqb (length vs % length ns) 0) (taken true (rec 5 t ∷ (ns ++ (vs ++ (loop_end ∷ [])))) (u ∷ us)) (failed_by r 5 t.at (length vs % length ns) (u ∷ us)))
unfolding item_run run move config behind_item head_why reason
whole_run r d t u us f out ns vs = by (eqb (length vs % length ns) 0)
  where
    by : (b : Bool) → follow (cond b (at_item r (in_block_only f (reason u.class)) f (out ++ ((rec 5 t ∷ ns) ++ vs) ++ (loop_end ∷ [])) u.class u) (fails r (refused 5 t.at (length vs % length ns)) f out u)) (λ c. run r us c) ≡ item_run r d f out (cond b (taken true (rec 5 t ∷ (ns ++ (vs ++ (loop_end ∷ [])))) (u ∷ us)) (failed_by r 5 t.at (length vs % length ns) (u ∷ us)))
    by true =
        let e : out ++ ((rec 5 t ∷ ns) ++ vs) ++ (loop_end ∷ []) ≡ out ++ (rec 5 t ∷ (ns ++ (vs ++ (loop_end ∷ [])))) = simp append_assoc in
        rw e
    by false = failed-run r d 5 t.at (length vs % length ns) u us f out

-- the last of a loop's records, where it has names and no values, is the last name
last_name : (t : Tok) (n : Rec) (ns : List Rec) → last_at ((rec 5 t ∷ n ∷ ns) ++ []) ≡ last_at (n ∷ ns)
unfolding last_at
last_name t n ns = ap last_at (append-nil (rec 5 t ∷ n ∷ ns))

rows_run : (r : Reading) (d : ℕ) (t u : Tok) (us : List Tok) (f : Option ℕ) (out : List Rec) (n : Rec) (ns vs : List Rec) → follow (loop_ends r t.at (length (n ∷ ns)) (length vs) f out ((rec 5 t ∷ n ∷ ns) ++ vs) u) (λ c. run r us c) ≡ item_run r d f out (rows r t (n ∷ ns) vs (u ∷ us))
unfolding loop_ends rows
rows_run r d t u us f out n ns [] = by r
  where
    by : (r : Reading) → follow (loop_ends r t.at (length (n ∷ ns)) 0 f out ((rec 5 t ∷ n ∷ ns) ++ []) u) (λ c. run r us c) ≡ item_run r d f out (rows r t (n ∷ ns) [] (u ∷ us))
    by First = whole_run First d t u us f out (n ∷ ns) []
    by Strict = unfold item_run follow head_why reason in ap (λ a. refused 6 a (number_of_why (why_not u.class))) (last_name t n ns)
rows_run First d t u us f out n ns (v ∷ vs) = whole_run First d t u us f out (n ∷ ns) (v ∷ vs)
rows_run Strict d t u us f out n ns (v ∷ vs) = rw (ne_eqb (suc (length vs)) 0 (λ q. omega arith)) (whole_run Strict d t u us f out (n ∷ ns) (v ∷ vs))

-- from its values on
values-after : (r : Reading) (d : ℕ) (t : Tok) (us : List Tok) (f : Option ℕ) (out : List Rec) (n : Rec) (ns vs : List Rec) → Ends us → NotValue us → run r us (config (values t.at (length (n ∷ ns)) (length vs + 0)) f out ((rec 5 t ∷ n ∷ ns) ++ vs)) ≡ item_run r d f out (loop_by r t (n ∷ ns) vs us)
unfolding run move config NotValue loop_by
values-after r d t (u ∷ us) f out n ns vs h e = rw (add-zero, e.moves) (by (is_over u.class))
  where
    by : (b : Bool) → follow (cond b (stop (refused 9 u.at 0)) (loop_ends r t.at (length (n ∷ ns)) (length vs) f out ((rec 5 t ∷ n ∷ ns) ++ vs) u)) (λ c. run r us c) ≡ item_run r d f out (cond b (broken 9 u.at 0) (rows r t (n ∷ ns) vs (u ∷ us)))
    by true = unfold item_run follow in refl
    by false = rows_run r d t u us f out n ns vs
values-after r d t [] f out n ns vs h e = elim h [ ]

-- from its names on, where no further one stands
valued-after : (r : Reading) (d : ℕ) (t u : Tok) (us : List Tok) (f : Option ℕ) (out ns : List Rec) → Ends (u ∷ us) → follow (no_more_names r t.at (length ns) f out (rec 5 t ∷ ns) u) (λ c. run r us c) ≡ item_run r d f out (loop_valued r t ns (u ∷ us))
unfolding run move config loop_valued no_more_names follow item_run
valued-after r d t u us f out [] h = refl
valued-after r d t u us f out (n ∷ ns) h =
    values-run r (u ∷ us) t.at (suc (length ns)) 0 f out (rec 5 t ∷ (n ∷ ns))
    ∙ values-after r d t (after_values (u ∷ us)) f out n ns (value_recs (u ∷ us)) (values-ends h) (not-value (u ∷ us))

names-after : (r : Reading) (d : ℕ) (t : Tok) (us : List Tok) (f : Option ℕ) (out ns : List Rec) → Ends us → NotName r us → run r us (config (names t.at (length ns + 0)) f out (rec 5 t ∷ ns)) ≡ item_run r d f out (loop_item r t ns us)
unfolding run move config NotName loop_item head_tag heading_at
names-after r d t (u ∷ us) f out ns h e = rw (add-zero, e.moves) (by (is_tag u.class))
  where
    by : (b : Bool) → follow (cond b (stop (refused 17 u.at 0)) (no_more_names r t.at (length ns) f out (rec 5 t ∷ ns) u)) (λ c. run r us c) ≡ item_run r d f out (cond b (broken 17 u.at 0) (loop_valued r t ns (u ∷ us)))
    by true = unfold item_run follow in refl
    by false = valued-after r d t u us f out ns h
names-after r d t [] f out ns h e = elim h [ ]

loop-run : (r : Reading) (d : ℕ) (t : Tok) (ts : List Tok) (f : Option ℕ) (out : List Rec) → Ends ts → run r ts (config (names t.at 0) f out (rec 5 t ∷ [])) ≡ item_run r d f out (loop_item r t (name_recs r ts) (after_names r ts))
loop-run r d t ts f out h = names-run r ts t.at 0 f out (rec 5 t ∷ []) ∙ names-after r d t (after_names r ts) f out (name_recs r ts) (names-ends r h) (not-name r ts)

-- a tag and its value
single-run : (r : Reading) (d : ℕ) (t u : Tok) (us : List Tok) (f : Option ℕ) (out : List Rec) (c : Class) → follow (at_want r t.at f out (rec 4 t ∷ []) c u) (λ c. run r us c) ≡ item_run r d f out (single r t c u us)
unfolding at_want single item_run follow behind_item
single-run r d t u us f out (value k) = rw append_assoc
single-run r d t u us f out over_limit = refl
single-run r d t u us f out tag = failed-run r d 6 t.at (reason tag) u us f out
single-run r d t u us f out block = failed-run r d 6 t.at (reason block) u us f out
single-run r d t u us f out loop = failed-run r d 6 t.at (reason loop) u us f out
single-run r d t u us f out save = failed-run r d 6 t.at (reason save) u us f out
single-run r d t u us f out (nothing w) = failed-run r d 6 t.at (reason (nothing w)) u us f out

valued-run : (r : Reading) (d : ℕ) (t : Tok) (ts : List Tok) (f : Option ℕ) (out : List Rec) → Ends ts → run r ts (config (wants t.at) f out (rec 4 t ∷ [])) ≡ item_run r d f out (tag_valued r t ts)
unfolding run move config tag_valued
valued-run r d t (u ∷ us) f out h = single-run r d t u us f out u.class
valued-run r d t [] f out h = elim h [ ]

tag-run : (r : Reading) (d : ℕ) (t : Tok) (ts : List Tok) (f : Option ℕ) (out : List Rec) → Ends ts → follow (named (fits_tag r t.size) t (go (config (wants t.at) f out (rec 4 t ∷ [])))) (λ c. run r ts c) ≡ item_run r d f out (tag_item r t ts)
unfolding tag_item
tag-run r d t ts f out h = by (fits_tag r t.size)
  where
    by : (b : Bool) → follow (named b t (go (config (wants t.at) f out (rec 4 t ∷ [])))) (λ c. run r ts c) ≡ item_run r d f out (cond b (tag_valued r t ts) (broken 17 t.at 0))
    by true = unfold follow in valued-run r d t ts f out h
    by false = unfold follow item_run in refl

tail-ends : {t : Tok} {ts : List Tok} → Ends (t ∷ ts) → ((w : Reason) → t.class ≡ nothing w → ⊥) → Ends ts
tail-ends (last w e) n = absurd (n w e)
tail-ends (more h) n = h

loop-ends : {t : Tok} {ts : List Tok} → Ends (t ∷ ts) → t.class ≡ loop → Ends ts
loop-ends h e = tail-ends h (λ w q. let z : ◌≡◌ {A = ℕ} 0 1 = cc in omega arith)

tag-ends : {t : Tok} {ts : List Tok} → Ends (t ∷ ts) → t.class ≡ tag → Ends ts
tag-ends h e = tail-ends h (λ w q. let z : ◌≡◌ {A = ℕ} 0 1 = cc in omega arith)

-- THE MACHINE READS AN ITEM AS THE DESCENT DOES, in a block or in a frame
pub item-run : (r : Reading) (d : ℕ) (t : Tok) (ts : List Tok) (f : Option ℕ) (out : List Rec) → Ends (t ∷ ts) → run r (t ∷ ts) (config (items d) f out []) ≡ item_run r d f out (item r (t ∷ ts))
unfolding run move config item item_by item_run at_item
item-run r d t ts f out h = by t.class refl
  where
    by : (c : Class) → t.class ≡ c → follow (at_item r d f out c t) (λ c. run r ts c) ≡ item_run r d f out (item_by r c t ts)
    by loop e = unfold follow in loop-run r d t ts f out (loop-ends h e)
    by tag e = tag-run r d t ts f out (tag-ends h e)
    by block e = rw e
    by save e = rw e
    by (value k) e = rw e
    by over_limit e = rw e
    by (nothing w) e = rw e

-- WHAT IS READ DOES NOT DEPEND ON THE DETAIL that a 7 would have
pub any-detail : (r : Reading) (c d : ℕ) (f : Option ℕ) (ts : List Tok) (out rs : List Rec) → run r ts (config (items c) f out []) ≡ done rs → run r ts (config (items d) f out []) ≡ done rs
unfolding run move config at_item fails follow
any-detail r c d f [] out rs e = e
any-detail r c d f (t ∷ ts) out rs e = by f t.class e
  where
    never : (b : Bool) → cond b (refused 15 t.at 0) (refused 7 t.at c) ≡ done rs → ⊥
    never true e = let z : ◌≡◌ {A = ℕ} 0 1 = cc in omega arith
    never false e = let z : ◌≡◌ {A = ℕ} 0 1 = cc in omega arith

    other : (r : Reading) (f : Option ℕ) → follow (fails r (refused 7 t.at c) f out t) (λ x. run r ts x) ≡ done rs → follow (fails r (refused 7 t.at d) f out t) (λ x. run r ts x) ≡ done rs
    other First none e = let z : ◌≡◌ {A = ℕ} 0 1 = cc in absurd (omega arith)
    other First (some a) e = e
    other Strict f e = absurd (never (is_joined t.class) e)

    head : (r : Reading) (f : Option ℕ) → follow (heads r c f out t) (λ x. run r ts x) ≡ done rs → follow (heads r d f out t) (λ x. run r ts x) ≡ done rs
    head First f e = other First f e
    head Strict none e = e
    head Strict (some a) e = e

    by : (f : Option ℕ) (k : Class) → follow (at_item r c f out k t) (λ x. run r ts x) ≡ done rs → follow (at_item r d f out k t) (λ x. run r ts x) ≡ done rs
    by f loop e = e
    by f tag e = e
    by none save e = e
    by (some a) save e = e
    by none (nothing at_end) e = e
    by (some a) (nothing at_end) e = e
    by f (nothing reserved_word) e = other r f e
    by f (nothing no_start) e = other r f e
    by f (nothing open_quote) e = other r f e
    by f (nothing open_field) e = other r f e
    by f (nothing joined) e = other r f e
    by f block e = head r f e
    by f (value k) e = other r f e
    by f over_limit e = other r f e
