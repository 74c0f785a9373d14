-- `record_lines::put_opening` meets its contract: each arm at once for its kinds' numbers. Assumes nothing.
use mathlib.Core.Path.{refl, sym, ap, ◌∙◌}
use mathlib.Core.Bool.{true}
use mathlib.Core.List.{[], ◌∷◌}
use native.Mathlib.Omega.{arith}
use lib.Dec.{ltb}
use Rattle.keywords.specs.Keywords.{key_data, key_loop, key_save}
use Rattle.kinds.specs.Kinds.{kind_of}
use Rattle.kinds.proofs.Numbering.{told}
use Rattle.record_lines.specs.Writing.{mark_of, opening_text}
use Rattle.numerals.proofs.Wrote.{wrote_none, wrote_as, room_as}
use Rattle.record_lines.proofs.Lines.{opening-mark}
use Rattle.record_lines.proofs.put_opening.Goals as goal

pub put_part-requires : goal.put_part-requires
unfolding kind_of opening_text key_data key_save key_loop
put_part-requires c =
    let e = told opening_text key_data 1 [] refl c.args.kind c.in-Block.in-Block-own.keys2 in
    (room_as _ _ (sym e) c.requires, omega arith)

pub put_part-requires-in-FrameOpen : goal.put_part-requires-in-FrameOpen
unfolding kind_of opening_text key_data key_save key_loop
put_part-requires-in-FrameOpen c =
    let e = told opening_text key_save 2 (3 ∷ []) refl c.args.kind c.in-FrameOpen.in-FrameOpen-own.keys3 in
    (room_as _ _ (sym e) c.requires, omega arith)

pub put_part-requires-in-Loop : goal.put_part-requires-in-Loop
unfolding kind_of opening_text key_data key_save key_loop
put_part-requires-in-Loop c =
    let e = told opening_text key_loop 5 [] refl c.args.kind c.in-Loop.in-Loop-own.keys4 in
    (room_as _ _ (sym e) c.requires, omega arith)

pub put_byte-requires : goal.put_byte-requires
unfolding kind_of mark_of
put_byte-requires c =
    let e = told (λ k. ltb 0 (mark_of k)) true 4 (6 ∷ 8 ∷ 9 ∷ 11 ∷ 12 ∷ 13 ∷ []) refl c.args.kind c.in_default.in_default-own.keys5 in
    room_as _ _ (opening-mark c.args.kind e) c.requires

pub returns-in-NoKind : goal.returns-in-NoKind
unfolding kind_of opening_text key_data key_save key_loop
returns-in-NoKind c =
    wrote_as (told opening_text [] 0 (7 ∷ 10 ∷ 14 ∷ 15 ∷ 16 ∷ []) refl c.args.kind c.in-NoKind.in-NoKind-own.keys1) (wrote_none _ _)

pub returns-in-Block : goal.returns-in-Block
unfolding kind_of opening_text key_data key_save key_loop
returns-in-Block c =
    let e = told opening_text key_data 1 [] refl c.args.kind c.in-Block.in-Block-own.keys2 in
    wrote_as e c.put_part.ensures

pub returns-in-FrameOpen : goal.returns-in-FrameOpen
unfolding kind_of opening_text key_data key_save key_loop
returns-in-FrameOpen c =
    let e = told opening_text key_save 2 (3 ∷ []) refl c.args.kind c.in-FrameOpen.in-FrameOpen-own.keys3 in
    wrote_as e c.put_part-in-FrameOpen.ensures

pub returns-in-Loop : goal.returns-in-Loop
unfolding kind_of opening_text key_data key_save key_loop
returns-in-Loop c =
    let e = told opening_text key_loop 5 [] refl c.args.kind c.in-Loop.in-Loop-own.keys4 in
    wrote_as e c.put_part-in-Loop.ensures

pub returns-in_default : goal.returns-in_default
unfolding kind_of mark_of
returns-in_default c =
    let e = told (λ k. ltb 0 (mark_of k)) true 4 (6 ∷ 8 ∷ 9 ∷ 11 ∷ 12 ∷ 13 ∷ []) refl c.args.kind c.in_default.in_default-own.keys5 in
    wrote_as (ap (λ m. m ∷ []) c.mark_of.ensures ∙ sym (opening-mark c.args.kind e)) c.put_byte.ensures
