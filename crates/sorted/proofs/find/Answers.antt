-- `sorted::find`: the name has no place among the entries, or its place holds it, or another. Assumes nothing.
use Rattle.std.proofs.Common.{◌≡◌, ◌≤◌, length, rules, ◌∙◌}
use Rattle.std.specs.Prelude.{None}
use Rattle.names.proofs.Same.{part_whole}
use Rattle.sorted.proofs.Found.{find-end, find-is}
use Rattle.sorted.proofs.find.Goals as goal

pub returns-in_err-held-clause-found : goal.returns-in_err-held-clause-found
returns-in_err-held-clause-found c =
    let e : c.from_residual.result ≡ None = search rules in
    let l : length c.args.table.now ≤ c.place_of.result = search rules in
    e ∙ find-end _ _ _ _ _ c.place_of.ensures l

pub returns-then-same_name-clause-found : goal.returns-then-same_name-clause-found
returns-then-same_name-clause-found c =
    find-is _ _ _ _ _ c.in_ok-held.field-0.now _ _ _ c.place_of.ensures (search rules) (search rules) c.bytes_at-y.ensures c.same_name.ensures c.if-same_name.true

pub returns-else-same_name-clause-found : goal.returns-else-same_name-clause-found
returns-else-same_name-clause-found c =
    find-is _ _ _ _ _ c.in_ok-held.field-0.now _ _ _ c.place_of.ensures (search rules) (search rules) c.bytes_at-y.ensures c.same_name.ensures c.if-same_name.false
