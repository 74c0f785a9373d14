-- `walking::write_loop_item`: head, names, values and end, one after the other. Assumes nothing.
use Rattle.desk.specs.Writer.{desk_of}
use Rattle.walking.proofs.Items.{loop_token}
use Rattle.walking.proofs.Loops.{head-ahead, names-ahead, values-ahead, end-room, loop-written}
use Rattle.walking.proofs.write_loop_item.Goals as goal

pub count_tags-tags-requires : goal.count_tags-tags-requires
count_tags-tags-requires c =
    let w = c.args.writer.now in
    (loop_token w.reading w.full w.text.now (desk_of w c.args.c) c.requires.0 c.requires.1).within

pub write_loop-opened-requires : goal.write_loop-opened-requires
write_loop-opened-requires c =
    head-ahead c.args.writer.now c.args.c c.requires.0 c.requires.1 _ c.count_tags-tags.ensures

pub write_names-named-requires : goal.write_names-named-requires
write_names-named-requires c =
    let x = c.write_loop-opened.ensures in
    names-ahead c.args.writer.now c.args.c c.requires.0 c.requires.1 _ c.count_tags-tags.ensures _ _ x.same x.area x.wrote

pub write_values-valued-requires : goal.write_values-valued-requires
write_values-valued-requires c =
    let x = c.write_loop-opened.ensures in
    let y = c.write_names-named.ensures in
    values-ahead c.args.writer.now c.args.c c.requires.0 c.requires.1 _ c.count_tags-tags.ensures _ _ x.same x.area x.wrote _ _ y.same y.wrote

pub write_end-requires : goal.write_end-requires
write_end-requires c =
    let x = c.write_loop-opened.ensures in
    let y = c.write_names-named.ensures in
    let z = c.write_values-valued.ensures in
    end-room c.args.writer.now c.args.c c.requires.0 c.requires.1 _ c.count_tags-tags.ensures _ _ x.same x.area x.wrote _ _ y.same y.wrote _ _ z.same z.wrote

pub returns-clause-wrote : goal.returns-clause-wrote
returns-clause-wrote c =
    let x = c.write_loop-opened.ensures in
    let y = c.write_names-named.ensures in
    let z = c.write_values-valued.ensures in
    let e = c.write_end.ensures in
    loop-written c.args.writer.now c.args.c c.requires.0 c.requires.1 _ c.count_tags-tags.ensures _ _ x.same x.area x.wrote _ _ y.same y.wrote _ _ z.same z.wrote c.write_end.new.writer c.write_end.result e.area e.wrote
